use Rattle.std.proofs.Common.{◌≡◌, ℕ, ◌+◌, ◌-◌, ◌/◌, ◌<◌, ◌≤◌, ◌++◌, List, codes, arith, subst, sym, ap, ◌∙◌}
use Rattle.std.proofs.lemmas.Nat.{mod_below}
use Rattle.written_core.specs.Document.{Scalar}
use Rattle.written_core.proofs.PutLemmas.{IsPut, put-none, put-more, put-last, put-cut, puts-as, first-cut}
use Rattle.written_core.specs.Parts.{left_text}
use Rattle.written_core.proofs.FlowTexts.{flow-left, flow-put}
use Rattle.model_text_core.specs.ModelText.{root_scalars}
use Rattle.model_text_core.specs.Parts.{place_text}
use Rattle.model_text_core.proofs.PlaceTexts.{places_left, places-item, places-end}
use Rattle.model_text_core.proofs.places.put_places.Goals as goal

pub returns-in_err-put_text : goal.returns-in_err-put_text
returns-in_err-put_text c =
    let ss : List Scalar = root_scalars c.args.count c.args.set in
    puts-as _ _ _ _ _ (flow-left ss) (first-cut _ _ (codes "[") (left_text 0 ss) c.from_residual.result c.from_residual.ensures.0 c.in_err-put_text.ensures)

pub loop-place-init : goal.loop-place-init
loop-place-init c =
    let none : c.args.count ≡ c.args.count - 0 = omega arith in
    let whole : List ℕ = left_text 0 (root_scalars c.args.count c.args.set) in
    let begun : List ℕ = c.put_text.new.out.items in
    let P : ℕ → Type 0 = λ (k : ℕ). IsPut begun begun whole (places_left 0 k 0 c.args.set) in
    record {
      put = subst P none (put-none begun whole);
      few = omega arith;
    }

pub returns-in_err-written : goal.returns-in_err-written
returns-in_err-written c =
    let within : c.loop-place.place < c.args.count = omega arith in
    let r = c.from_residual-in_err-written.result in
    flow-put _ _ _ (root_scalars c.args.count c.args.set) r c.in_ok-put_text.ensures
    (put-cut _ _ _ _ _ _ _ r c.from_residual-in_err-written.ensures.0 c.loop-place.invariant.put (places-item c.args.count c.loop-place.written c.loop-place.place c.loop-place.rest within) c.in_err-written.ensures.text)

pub loop-place-preserved : goal.loop-place-preserved
loop-place-preserved c =
    let within : c.loop-place.place < c.args.count = omega arith in
    let piece : List ℕ = place_text c.loop-place.written c.loop-place.place c.loop-place.rest in
    let more : ℕ → List ℕ = λ (k : ℕ). piece ++ places_left k (c.args.count - (c.loop-place.place + 1)) (c.loop-place.place + 1) (c.loop-place.rest / 2) in
    let step = places-item c.args.count c.loop-place.written c.loop-place.place c.loop-place.rest within ∙ ap more (sym c.in_ok-written.ensures.count) in
    record {
      put = put-more _ _ _ _ _ _ _ c.loop-place.invariant.put step c.in_ok-written.ensures.text;
      few = omega (arith, c.loop-place.invariant.few, c.in_ok-written.ensures.count, mod_below c.loop-place.rest 2 (omega arith));
    }

pub returns : goal.returns
returns c =
    let past : c.args.count ≤ c.loop-place.place = omega arith in
    flow-put _ _ _ (root_scalars c.args.count c.args.set) c.put_text-2.result c.in_ok-put_text.ensures
    (put-last _ _ _ _ _ c.put_text-2.result c.loop-place.invariant.put
    (puts-as _ _ c.put_text-2.result _ _ (places-end c.args.count c.loop-place.written c.loop-place.place c.loop-place.rest past) c.put_text-2.ensures))
