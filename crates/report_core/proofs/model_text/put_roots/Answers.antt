use Rattle.std.proofs.Common.{◌≡◌, ◌+◌, ◌<◌, ◌≤◌, Some, length, map, drop, ap, ◌∙◌, arith}
use Rattle.std.specs.Prelude.{slice_get}
use Rattle.written_core.proofs.PutLemmas.{put-none, put-more, put-cut, put-all}
use Rattle.report_core.specs.Text.{numbered, item_text}
use Rattle.report_core.proofs.TextLemmas.{numbered_next, numbered_none}
use Rattle.report_core.specs.DescribedModel.{places_text}
use Rattle.std.proofs.lemmas.List.{length-map}
use Rattle.std.proofs.lemmas.Option.{slice_get-map}
use Rattle.std.specs.Option.{option_map}
use Rattle.report_core.proofs.model_text.put_roots.Goals as goal

pub loop-place-init : goal.loop-place-init
loop-place-init c = put-none _ _

pub loop-place-preserved : goal.loop-place-preserved
loop-place-preserved c =
    let items = map (places_text c.args.criteria) c.args.roots.now in
    let k = c.loop-place.place in
    let within : k < length items = omega (arith, c.len-place-end.ensures.count, length-map c.args.roots.now (places_text c.args.criteria), c.loop-place-test.true) in
    let is : slice_get items k ≡ Some (places_text c.args.criteria c.get.result.now) = slice_get-map (places_text c.args.criteria) c.args.roots.now c.loop-place.place ∙ ap (option_map (places_text c.args.criteria)) c.get.ensures in
    let next = numbered_next item_text items k (places_text c.args.criteria c.get.result.now) within is in
    put-more c.args.out.now.items c.loop-place.out.items c.put_root.new.out.items (numbered item_text 0 items) (numbered item_text k (drop k items)) (item_text k (places_text c.args.criteria c.get.result.now)) (numbered item_text (k + 1) (drop (k + 1) items)) c.loop-place.invariant next c.in_ok-put_root.ensures

pub returns-in_err-put_root : goal.returns-in_err-put_root
returns-in_err-put_root c =
    let items = map (places_text c.args.criteria) c.args.roots.now in
    let k = c.loop-place.place in
    let within : k < length items = omega (arith, c.len-place-end.ensures.count, length-map c.args.roots.now (places_text c.args.criteria), c.loop-place-test.true) in
    let is : slice_get items k ≡ Some (places_text c.args.criteria c.get.result.now) = slice_get-map (places_text c.args.criteria) c.args.roots.now c.loop-place.place ∙ ap (option_map (places_text c.args.criteria)) c.get.ensures in
    let next = numbered_next item_text items k (places_text c.args.criteria c.get.result.now) within is in
    put-cut c.args.out.now.items c.loop-place.out.items c.put_root.new.out.items (numbered item_text 0 items) (numbered item_text k (drop k items)) (item_text k (places_text c.args.criteria c.get.result.now)) (numbered item_text (k + 1) (drop (k + 1) items)) c.from_residual.result c.from_residual.ensures.0 c.loop-place.invariant next c.in_err-put_root.ensures

pub returns : goal.returns
returns c =
    let items = map (places_text c.args.criteria) c.args.roots.now in
    let k = c.loop-place.place in
    let past : length items ≤ k = omega (arith, c.len-place-end.ensures.count, length-map c.args.roots.now (places_text c.args.criteria), c.loop-place-test.false) in
    put-all c.args.out.now.items c.loop-place.out.items (numbered item_text 0 items) (numbered item_text k (drop k items)) c.loop-place.invariant (numbered_none item_text items k past)
