use Rattle.std.proofs.Common.{◌*◌, ◌<◌, sym, ◌∙◌, ap, subst, arith, length, List, ℕ, ◌++◌, ◌∷◌, [], ◌+◌}
use Rattle.std.specs.List.{All}
use Rattle.search_core.specs.Analysis.{IsFalseOrMarked, HasMark}
use Rattle.search_core.proofs.EntryLemmas.{order_length}
use Rattle.search_core.proofs.AnalyzeLemmas.{begin_out, clause_inside, walked_first}
use Rattle.search_core.proofs.analyze.Analysis.begin.Goals as goal

pub mark_clause-requires-clause-out : goal.mark_clause-requires-clause-out
mark_clause-requires-clause-out g c = subst (λ (xs : List ℕ). All (IsFalseOrMarked c.args.trail.now c.args.self.now.stamps.items c.args.self.now.stamp) xs) (sym c.literals-clause.ensures.clause) (begin_out c.args.trail.now c.args.self.now.stamps.items c.args.self.now.stamp _ c.requires.out)

pub mark_clause-requires-clause-inside : goal.mark_clause-requires-clause-inside
mark_clause-requires-clause-inside g c = subst (λ (xs : List ℕ). All (λ l. l < 2 * c.args.trail.now.variables) xs) (sym c.literals-clause.ensures.clause) (clause_inside c.args.trail.now c.args.arena.now c.args.conflict c.requires.inside)

pub returns-clause-walked : goal.returns-clause-walked
returns-clause-walked g c = walked_first c.args.trail.now c.args.arena.now c.mark_clause.new.stamps.items c.mark_clause.new.lower.items c.clear-2.new.self.items c.push.new.self.items c.args.self.now.stamp c.args.conflict (length c.order-below.result.now) c.last_open.result
    c.requires.known c.requires.out c.requires.current c.in_ok-mark_clause.ensures.marked (subst (λ (xs : List ℕ). All (HasMark c.mark_clause.new.stamps.items c.args.self.now.stamp) xs) c.literals-clause.ensures.clause c.in_ok-mark_clause.ensures.all)
    c.clear-2.ensures.items (c.in_ok-push.ensures.items ∙ ap (λ n. c.clear-2.new.self.items ++ (n + 1) ∷ []) c.number.ensures.value) (omega (arith, order_length c.args.trail.now c.order-below.result.now c.order-below.ensures)) c.last_open.ensures
