use Rattle.std.proofs.Common.{◌≤◌, ◌<◌, ◌++◌, ◌∷◌, [], ◌+◌, ℕ, length, ap, subst, sym, arith, rules, ◌∙◌}
use Rattle.search_core.specs.Analysis.{IsLower}
use Rattle.search_core.proofs.EntryLemmas.{order_length}
use Rattle.search_core.proofs.MinimizeLemmas.{explained_shorter, marked_less, taken_out, lower_variable}
use Rattle.search_core.proofs.analyze.Analysis.leave_out.Goals as goal

pub redundant_by-requires-clause-low : goal.redundant_by-requires-clause-low
redundant_by-requires-clause-low g c = subst (IsLower c.args.trail.now) (sym c.index-literal.ensures) (c.requires.marked.lows c.args.k c.index-literal.result.now c.requires.known)

pub returns-clause-marked : goal.returns-clause-marked
returns-clause-marked g c =
    let r : ℕ = c.index-literal.result.now in
    let order = taken_out c.args.self.now.lower.items c.swap_remove.new.self.items c.args.k r c.swap_remove.result c.requires.known c.index-literal.ensures c.swap_remove.ensures.value c.swap_remove.ensures.items in
    let low : IsLower c.args.trail.now r = subst (IsLower c.args.trail.now) (sym c.index-literal.ensures) (c.requires.marked.lows c.args.k r c.requires.known) in
    let v = lower_variable c.args.trail.now r c.requires.trail low in
    let inside : c.variable.result < length c.args.self.now.stamps.items = omega (arith, v, c.variable.ensures, c.requires.size) in
    marked_less c.args.trail.now c.args.self.now.stamps.items _ c.args.self.now.lower.items c.swap_remove.new.self.items c.args.self.now.stamp c.variable.result r c.requires.marked order c.requires.stamp (search rules) c.variable.ensures inside

pub returns-clause-explained : goal.returns-clause-explained
returns-clause-explained g c point explained =
    let r : ℕ = c.index-literal.result.now in
    let order = taken_out c.args.self.now.lower.items c.swap_remove.new.self.items c.args.k r c.swap_remove.result c.requires.known c.index-literal.ensures c.swap_remove.ensures.value c.swap_remove.ensures.items in
    let few : length c.args.self.now.hints.items ≤ length c.args.trail.now.entries = (let n = order_length c.args.trail.now c.order.result.now c.order.ensures in omega (arith, n, c.if-len-order.false, c.len.ensures)) in
    explained_shorter c.args.trail.now c.args.arena.now point c.in-Some.reason r c.args.self.now.lower.items c.swap_remove.new.self.items c.args.self.now.hints.items c.push.new.self.items explained order c.in-Some.ensures
    (c.in_ok-push.ensures.items ∙ ap (λ n. c.args.self.now.hints.items ++ (n + 1) ∷ []) c.number.ensures.value) few
