use Rattle.std.proofs.Common.{◌≡◌, ◌+◌, ◌-◌, ◌<◌, ap, sym, ◌∙◌, length, subst, arith}
use Rattle.sorting_rule.specs.Coalition.{is_sufficient}
use Rattle.model_core.specs.Model.{sufficient_by, AreCoalitions}
use Rattle.model_core.proofs.CategoryLemmas.{NoneFrom, category_at, category_none, all_got, summable}
use Rattle.model_core.proofs.rule.sort.Goals as goal

pub sufficient-requires : goal.sufficient-requires
sufficient-requires c =
    let count = length c.args.problem.now.criteria in
    let within : c.loop-place.place - 1 < length c.args.model.now.coalitions = omega (arith, c.requires.belongs.boundaries, c.categories_count-boundaries.ensures.count) in
    summable count c.coalitions_at.result.now c.criteria_count-criteria.ensures.facts.few_criteria
    (all_got (AreCoalitions count) c.args.model.now.coalitions (c.loop-place.place - 1) c.coalitions_at.result.now c.requires.belongs.coalitions within c.coalitions_at.ensures)

pub returns-then-sufficient-clause-category : goal.returns-then-sufficient-clause-category
returns-then-sufficient-clause-category c =
    let next : c.loop-place.place ≡ c.loop-place.place - 1 + 1 = omega arith in
    let reached = ap (is_sufficient (sufficient_by c.coalitions_at.result.now)) (sym c.accepted_at-set.ensures) ∙ sym c.sufficient.ensures ∙ c.if-sufficient.true in
    sym (category_at c.args.problem.now c.args.model.now c.args.grades.now (c.loop-place.place - 1) c.coalitions_at.result.now c.coalitions_at.ensures reached (subst (NoneFrom c.args.problem.now c.args.model.now c.args.grades.now) next c.loop-place.invariant))

pub returns-clause-category : goal.returns-clause-category
returns-clause-category c = sym (category_none c.args.problem.now c.args.model.now c.args.grades.now (λ k x above there. c.loop-place.invariant k x (omega arith) there))
