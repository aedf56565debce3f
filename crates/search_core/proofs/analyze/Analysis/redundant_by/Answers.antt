use Rattle.std.proofs.Common.{◌*◌, ◌<◌, ◌∙◌, ℕ, List, ap, arith, sym, subst}
use Rattle.std.specs.List.{All}
use Rattle.std.proofs.lemmas.Bool.{OnTrue_at}
use Rattle.literals_core.specs.Literal.{variable_of}
use Rattle.literals_core.proofs.Negation.{variable_of-negation}
use Rattle.search_core.specs.State.{no_entry}
use Rattle.search_core.specs.Analysis.{Fits, IsFalseOrOpposite}
use Rattle.search_core.proofs.AnalyzeLemmas.{clause_inside}
use Rattle.search_core.proofs.MinimizeLemmas.{lower_reason, lower_variable, reason_fits, reason_gives}
use Rattle.search_core.proofs.analyze.Analysis.redundant_by.Goals as goal

pub reason_of-requires : goal.reason_of-requires
reason_of-requires g c = (let v = lower_variable c.args.trail.now c.args.literal c.requires.trail c.requires.low in omega (arith, v, c.variable.ensures))

pub all_fit-requires-clause-out : goal.all_fit-requires-clause-out
all_fit-requires-clause-out g c =
    let low = c.requires.low in
    let same = ap variable_of low.1.is ∙ variable_of-negation c.args.literal ∙ sym c.variable.ensures in
    let reason = lower_reason c.args.trail.now c.args.arena.now c.args.literal c.in-Some.reason c.reason_of.result c.requires.reasoned low (c.reason_of.ensures.given low.0 no_entry low.1.known same) c.in-Some.is in
    subst (λ (xs : List ℕ). All (IsFalseOrOpposite c.args.trail.now c.args.literal) xs) (sym c.literals-clause.ensures.clause) (reason_fits c.args.trail.now c.args.arena.now c.args.literal c.in-Some.reason low reason)

pub all_fit-requires-clause-inside : goal.all_fit-requires-clause-inside
all_fit-requires-clause-inside g c = subst (λ (xs : List ℕ). All (λ l. l < 2 * c.args.trail.now.variables) xs) (sym c.literals-clause.ensures.clause) (clause_inside c.args.trail.now c.args.arena.now c.in-Some.reason c.requires.inside)

pub returns-then-all_fit : goal.returns-then-all_fit
returns-then-all_fit g c =
    let low = c.requires.low in
    let same = ap variable_of low.1.is ∙ variable_of-negation c.args.literal ∙ sym c.variable.ensures in
    let reason = lower_reason c.args.trail.now c.args.arena.now c.args.literal c.in-Some.reason c.reason_of.result c.requires.reasoned low (c.reason_of.ensures.given low.0 no_entry low.1.known same) c.in-Some.is in
    let others = subst (λ (xs : List ℕ). All (Fits c.args.literal c.args.self.now.lower.items) xs) c.literals-clause.ensures.clause (OnTrue_at c.if-all_fit.true c.all_fit.ensures) in
    reason_gives c.args.trail.now c.args.arena.now c.args.literal c.in-Some.reason c.args.self.now.lower.items low reason others
