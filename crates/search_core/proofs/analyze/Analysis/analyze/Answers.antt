use Rattle.std.proofs.Common.{◌≡◌, ◌<◌, ◌≤◌, subst, arith, ℕ, Option, None, Some}
use Rattle.search_core.specs.Analysis.{IsWalked, below_of}
use Rattle.search_core.proofs.EntryLemmas.{order_at}
use Rattle.search_core.proofs.AnalyzeLemmas.{open_found, point_made, point_shown, ground_made, ground_shown}
use Rattle.search_core.proofs.analyze.Analysis.analyze.Goals as goal
use Rattle.search_core.proofs.analyze.Analysis.analyze.Goals.{else-level-gt0-via-then-level-gt0+else-is_none, else-level-gt0-via-else-level-gt0}

pub returns-then-is_none-clause-shown : goal.returns-then-is_none-clause-shown
returns-then-is_none-clause-shown g c =
    let walked = subst (λ (o : Option ℕ). IsWalked c.args.trail.now c.args.arena.now c.loop-last.self.stamps.items c.loop-last.self.stamp c.loop-last.self.lower.items c.loop-last.self.hints.items o) c.in-Some.is c.loop-last.invariant.walked in
    let is = order_at c.args.trail.now c.order.result.now c.in-Some.place c.index-order-place.result c.order.ensures walked.at.known c.index-order-place.is in
    point_shown c.args.trail.now c.args.arena.now c.loop-last.self.stamps.items c.loop-last.self.stamp c.in-Some.place c.index-order-place.result c.loop-last.self.lower.items c.loop-last.self.hints.items c.last_open.result walked c.last_open.ensures c.if-is_none.ensures is

pub returns-then-is_none-clause-made : goal.returns-then-is_none-clause-made
returns-then-is_none-clause-made g c =
    let walked = subst (λ (o : Option ℕ). IsWalked c.args.trail.now c.args.arena.now c.loop-last.self.stamps.items c.loop-last.self.stamp c.loop-last.self.lower.items c.loop-last.self.hints.items o) c.in-Some.is c.loop-last.invariant.walked in
    let is = order_at c.args.trail.now c.order.result.now c.in-Some.place c.index-order-place.result c.order.ensures walked.at.known c.index-order-place.is in
    point_made c.args.trail.now c.args.arena.now c.loop-last.self.stamps.items c.loop-last.self.stamp c.in-Some.place c.index-order-place.result c.loop-last.self.lower.items c.loop-last.self.hints.items (omega (arith, c.if-level-gt0.true, c.level-level.ensures.value)) walked is

pub resolve-requires-clause-more : goal.resolve-requires-clause-more
resolve-requires-clause-more g c above = elim c.else-level-gt0.branch [
  | else-level-gt0-via-then-level-gt0+else-is_none w ↦ open_found c.args.trail.now c.loop-last.self.stamps.items c.loop-last.self.stamp c.in-Some.place w.last_open.result w.last_open.ensures w.if-is_none.ensures
  | else-level-gt0-via-else-level-gt0 w ↦ absurd (omega (arith, above, w.if-level-gt0.false, c.level-level.ensures.value))
]

pub loop-last-smaller : goal.loop-last-smaller
loop-last-smaller g c = smaller c.loop-last.last c.in_ok-last-2.last c.in-Some.place c.in-Some.is c.in_ok-last-2.ensures.falls where
  smaller : (last next : Option ℕ) (p : ℕ) → last ≡ Some p → below_of next ≤ p → below_of next < below_of last
  smaller None next p is le = absurd (cc)
  smaller (Some q) next p is le = let e : q ≡ p = cc in omega (arith, e, le)

pub returns-clause-shown : goal.returns-clause-shown
returns-clause-shown g c = ground_shown c.args.trail.now c.args.arena.now c.loop-last.self.stamps.items c.loop-last.self.stamp c.loop-last.self.lower.items c.loop-last.self.hints.items (subst (λ (o : Option ℕ). IsWalked c.args.trail.now c.args.arena.now c.loop-last.self.stamps.items c.loop-last.self.stamp c.loop-last.self.lower.items c.loop-last.self.hints.items o) c.in_default.is c.loop-last.invariant.walked)

pub returns-clause-made : goal.returns-clause-made
returns-clause-made g c = ground_made c.args.trail.now c.args.arena.now c.loop-last.self.stamps.items c.loop-last.self.stamp c.loop-last.self.lower.items c.loop-last.self.hints.items (subst (λ (o : Option ℕ). IsWalked c.args.trail.now c.args.arena.now c.loop-last.self.stamps.items c.loop-last.self.stamp c.loop-last.self.lower.items c.loop-last.self.hints.items o) c.in_default.is c.loop-last.invariant.walked)
