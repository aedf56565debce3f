use Rattle.std.proofs.Common.{◌≡◌, ℕ, List, ◌<◌, ◌≤◌, length, get_or, sym, ◌∙◌, arith}
use Rattle.std.proofs.lemmas.List.{get_or_read}
use Rattle.std.specs.List.{insert}
use Rattle.draw_core.specs.DrawnModel.{put_in}
use Rattle.draw_core.proofs.OrderFacts.{put-insert}
use Rattle.draw_core.proofs.model.put_in.Goals.{then-loop-place-test+else-index-number, else-loop-place-test}
use Rattle.draw_core.proofs.model.put_in.Goals as goal

pub returns : goal.returns
returns c =
    let x : ℕ = c.args.number in
    let ys : List ℕ = c.args.rising.now.items in
    let k : ℕ = c.loop-place.place in
    let above : k < length ys → x ≤ get_or ys k 0 = elim c.loop-place-test.branch [
      | then-loop-place-test+else-index-number w ↦ (λ lt. omega (arith, get_or_read ys k _ lt w.index.ensures 0, w.if-index-number.false))
      | else-loop-place-test w ↦ (λ lt. absurd (omega (arith, lt, w.loop-place-test.false, c.len.ensures)))
    ] in
    let put : put_in x ys ≡ insert ys k x = put-insert x ys k c.loop-place.invariant.within c.loop-place.invariant.below above in
    record { ok = ◌∙◌ {A = List ℕ} c.in_ok-insert.ensures.items (sym put) }
