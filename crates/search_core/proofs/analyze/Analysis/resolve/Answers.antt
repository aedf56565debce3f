use Rattle.std.proofs.Common.{◌*◌, ◌<◌, sym, ◌∙◌, ap, subst, List, ℕ, ◌++◌, ◌∷◌, [], ◌+◌}
use Rattle.std.specs.List.{All}
use Rattle.literals_core.specs.Literal.{variable_of}
use Rattle.search_core.specs.State.{no_entry}
use Rattle.search_core.specs.Analysis.{IsFalseOrMarked, HasMark}
use Rattle.search_core.proofs.EntryLemmas.{order_at}
use Rattle.search_core.proofs.AnalyzeLemmas.{reason_there, reason_out, clause_inside, reason_is, walked_more, last_below}
use Rattle.search_core.proofs.analyze.Analysis.resolve.Goals as goal

pub mark_clause-requires-clause-out : goal.mark_clause-requires-clause-out
mark_clause-requires-clause-out g c =
    let known = c.requires.walked.at.known in
    let is = order_at c.args.trail.now c.order.result.now c.args.last c.index-order-last.result c.order.ensures known c.index-order-last.is in
    let implied = reason_there c.args.trail.now c.args.arena.now c.args.self.now.stamps.items c.args.self.now.stamp c.args.last c.requires.reasoned c.requires.walked.at c.requires.more in
    let reason = reason_is c.args.trail.now c.args.arena.now c.args.last c.unwrap-reason.result c.reason_of.result implied (c.reason_of.ensures.given c.args.last no_entry known (ap variable_of is ∙ sym c.variable.ensures)) c.unwrap-reason.ensures in
    subst (λ (xs : List ℕ). All (IsFalseOrMarked c.args.trail.now c.args.self.now.stamps.items c.args.self.now.stamp) xs) (sym c.literals-clause.ensures.clause) (reason_out c.args.trail.now c.args.arena.now c.args.self.now.stamps.items c.args.self.now.stamp c.args.last c.unwrap-reason.result reason c.requires.walked.at)

pub mark_clause-requires-clause-inside : goal.mark_clause-requires-clause-inside
mark_clause-requires-clause-inside g c = subst (λ (xs : List ℕ). All (λ l. l < 2 * c.args.trail.now.variables) xs) (sym c.literals-clause.ensures.clause) (clause_inside c.args.trail.now c.args.arena.now c.unwrap-reason.result c.requires.inside)

pub returns-clause-walked : goal.returns-clause-walked
returns-clause-walked g c =
    let known = c.requires.walked.at.known in
    let is = order_at c.args.trail.now c.order.result.now c.args.last c.index-order-last.result c.order.ensures known c.index-order-last.is in
    let implied = reason_there c.args.trail.now c.args.arena.now c.args.self.now.stamps.items c.args.self.now.stamp c.args.last c.requires.reasoned c.requires.walked.at c.requires.more in
    let reason = reason_is c.args.trail.now c.args.arena.now c.args.last c.unwrap-reason.result c.reason_of.result implied (c.reason_of.ensures.given c.args.last no_entry known (ap variable_of is ∙ sym c.variable.ensures)) c.unwrap-reason.ensures in
    walked_more c.args.trail.now c.args.arena.now c.args.self.now.stamps.items c.mark_clause.new.stamps.items c.args.self.now.lower.items c.mark_clause.new.lower.items c.args.self.now.hints.items c.push.new.self.items c.args.self.now.stamp c.args.last c.unwrap-reason.result c.last_open.result
    reason c.requires.walked c.requires.more c.in_ok-mark_clause.ensures.marked (subst (λ (xs : List ℕ). All (HasMark c.mark_clause.new.stamps.items c.args.self.now.stamp) xs) c.literals-clause.ensures.clause c.in_ok-mark_clause.ensures.all) c.in_ok-mark_clause.ensures.grows
    (c.in_ok-push.ensures.items ∙ ap (λ n. c.args.self.now.hints.items ++ (n + 1) ∷ []) c.number.ensures.value) c.last_open.ensures

pub returns-clause-falls : goal.returns-clause-falls
returns-clause-falls g c = last_below c.args.trail.now c.mark_clause.new.stamps.items c.args.self.now.stamp c.args.last c.last_open.result c.last_open.ensures
