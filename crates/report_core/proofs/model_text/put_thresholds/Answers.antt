use Rattle.std.proofs.Common.{◌≡◌, ◌+◌, ◌<◌, ◌≤◌, Some, length, drop, arith}
use Rattle.std.specs.Prelude.{slice_get}
use Rattle.written_core.proofs.PutLemmas.{put-none, put-more, put-cut, put-all}
use Rattle.report_core.specs.Text.{numbered}
use Rattle.report_core.proofs.TextLemmas.{numbered_next, numbered_none}
use Rattle.report_core.specs.DescribedModel.{threshold_line_at}
use Rattle.report_core.proofs.model_text.put_thresholds.Goals as goal

pub loop-place-init : goal.loop-place-init
loop-place-init c = put-none _ _

pub loop-place-preserved : goal.loop-place-preserved
loop-place-preserved c =
    let items = c.args.profile.now.thresholds in
    let k = c.loop-place.place in
    let within : k < length items = omega (arith, c.len-place-end.ensures.count, c.loop-place-test.true) in
    let is : slice_get items k ≡ Some (c.get.result.now) = c.get.ensures in
    let next = numbered_next (threshold_line_at c.args.i c.args.criterion.now.scale) items k (c.get.result.now) within is in
    put-more c.args.out.now.items c.loop-place.out.items c.put_threshold.new.out.items (numbered (threshold_line_at c.args.i c.args.criterion.now.scale) 0 items) (numbered (threshold_line_at c.args.i c.args.criterion.now.scale) k (drop k items)) ((threshold_line_at c.args.i c.args.criterion.now.scale) k (c.get.result.now)) (numbered (threshold_line_at c.args.i c.args.criterion.now.scale) (k + 1) (drop (k + 1) items)) c.loop-place.invariant next c.in_ok-put_threshold.ensures

pub returns-in_err-put_threshold : goal.returns-in_err-put_threshold
returns-in_err-put_threshold c =
    let items = c.args.profile.now.thresholds in
    let k = c.loop-place.place in
    let within : k < length items = omega (arith, c.len-place-end.ensures.count, c.loop-place-test.true) in
    let is : slice_get items k ≡ Some (c.get.result.now) = c.get.ensures in
    let next = numbered_next (threshold_line_at c.args.i c.args.criterion.now.scale) items k (c.get.result.now) within is in
    put-cut c.args.out.now.items c.loop-place.out.items c.put_threshold.new.out.items (numbered (threshold_line_at c.args.i c.args.criterion.now.scale) 0 items) (numbered (threshold_line_at c.args.i c.args.criterion.now.scale) k (drop k items)) ((threshold_line_at c.args.i c.args.criterion.now.scale) k (c.get.result.now)) (numbered (threshold_line_at c.args.i c.args.criterion.now.scale) (k + 1) (drop (k + 1) items)) c.from_residual.result c.from_residual.ensures.0 c.loop-place.invariant next c.in_err-put_threshold.ensures

pub returns : goal.returns
returns c =
    let items = c.args.profile.now.thresholds in
    let k = c.loop-place.place in
    let past : length items ≤ k = omega (arith, c.len-place-end.ensures.count, c.loop-place-test.false) in
    put-all c.args.out.now.items c.loop-place.out.items (numbered (threshold_line_at c.args.i c.args.criterion.now.scale) 0 items) (numbered (threshold_line_at c.args.i c.args.criterion.now.scale) k (drop k items)) c.loop-place.invariant (numbered_none (threshold_line_at c.args.i c.args.criterion.now.scale) items k past)
