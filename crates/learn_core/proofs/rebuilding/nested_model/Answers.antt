use Rattle.std.proofs.Common.{sym, subst, arith}
use Rattle.std.specs.List.{All}
use Rattle.accepted_core.proofs.NumbersFacts.{criteria_is, grades_many}
use Rattle.learn_core.specs.Numbers.{IsFirst}
use Rattle.learn_core.proofs.RebuildFacts.{rows_fit, firsts_many}
use Rattle.sorting_rule.specs.Rebuilt.{Learns}
use Rattle.model_core.specs.Model.{rule_of, Belongs}
use Rattle.learn_core.proofs.ModelFacts.{made_learns, made_belongs}
use Rattle.learn_core.proofs.PartsFacts.{few_roots, parts}
use Rattle.learn_core.proofs.rebuilding.nested_model.Goals as goal

pub first_unknowns-requires-clause-ranks : goal.first_unknowns-requires-clause-ranks
first_unknowns-requires-clause-ranks c =
    let many = grades_many c.args.problem.now c.args.examples.now c.args.ranks.now c.requires.ranks in
    let k = criteria_is c.args.problem.now c.args.examples.now c.args.ranks.now c.requires.ranks in
    omega (arith, many, k, c.criteria_count.ensures.count)

pub profiles_of-requires-clause-few : goal.profiles_of-requires-clause-few
profiles_of-requires-clause-few c =
    let size = firsts_many c.args.problem.now c.args.examples.now c.args.ranks.now c.requires.ranks c.categories_count-boundaries.result c.criteria_count.result c.criteria_count.ensures.count c.in_ok-firsts.firsts.items c.deref.result.now c.in_ok-firsts.ensures.firsts c.deref.ensures.value in
    let k = criteria_is c.args.problem.now c.args.examples.now c.args.ranks.now c.requires.ranks in
    let few = c.criteria_count.ensures.facts.few_criteria in
    omega (arith, size, k, few)

pub profiles_of-requires-clause-ranks : goal.profiles_of-requires-clause-ranks
profiles_of-requires-clause-ranks c =
    let size = firsts_many c.args.problem.now c.args.examples.now c.args.ranks.now c.requires.ranks c.categories_count-boundaries.result c.criteria_count.result c.criteria_count.ensures.count c.in_ok-firsts.firsts.items c.deref.result.now c.in_ok-firsts.ensures.firsts c.deref.ensures.value in
    let many = grades_many c.args.problem.now c.args.examples.now c.args.ranks.now c.requires.ranks in
    omega (arith, size, many)

pub own_sets-requires-clause-fit : goal.own_sets-requires-clause-fit
own_sets-requires-clause-fit c =
    let size = firsts_many c.args.problem.now c.args.examples.now c.args.ranks.now c.requires.ranks c.categories_count-boundaries.result c.criteria_count.result c.criteria_count.ensures.count c.in_ok-firsts.firsts.items c.deref-2.result.now c.in_ok-firsts.ensures.firsts c.deref-2.ensures.value in
    rows_fit c.args.problem.now c.args.examples.now c.args.ranks.now c.requires.ranks c.criteria_count.ensures.facts c.deref-2.result.now size (subst (All IsFirst) (sym c.deref-2.ensures.value) c.in_ok-firsts.ensures.small)

pub same_roots-requires : goal.same_roots-requires
same_roots-requires c = few_roots c.args.problem.now c.args.examples.now c.args.ranks.now c.requires.ranks c.criteria_count.ensures.facts c.categories_count-boundaries.result c.criteria_count.result c.categories_count-boundaries.ensures.count c.criteria_count.ensures.count c.args.values.now
    c.in_ok-firsts.firsts.items c.deref.result.now c.deref-2.result.now c.in_ok-firsts.ensures.firsts c.deref.ensures.value c.deref-2.ensures.value
    c.in_ok-sets.sets.items c.deref-3.result.now c.in_ok-roots.roots.items c.deref-4.result.now c.in_ok-sets.ensures.below c.deref-3.ensures.value c.in_ok-roots.ensures c.deref-4.ensures.value

pub new-requires : goal.new-requires
new-requires c = made_belongs c.args.problem.now c.args.examples.now c.in_ok-profiles.profiles.items c.in_ok-coalitions.coalitions.items c.in_ok-roots.roots.items
    (parts c.args.problem.now c.args.examples.now c.args.ranks.now c.requires.ranks c.criteria_count.ensures.facts c.categories_count-boundaries.result c.criteria_count.result c.categories_count-boundaries.ensures.count c.criteria_count.ensures.count c.args.values.now
    c.in_ok-firsts.firsts.items c.deref.result.now c.deref-2.result.now c.in_ok-firsts.ensures.firsts c.deref.ensures.value c.deref-2.ensures.value
    c.in_ok-sets.sets.items c.deref-3.result.now c.in_ok-roots.roots.items c.deref-4.result.now c.in_ok-sets.ensures.below c.deref-3.ensures.value c.in_ok-roots.ensures c.deref-4.ensures.value
    c.in_ok-profiles.profiles.items c.in_ok-profiles.ensures
    c.requires.belong c.requires.nested c.requires.apart c.in_ok-sets.ensures.sets c.in_ok-coalitions.coalitions.items c.in_ok-coalitions.ensures)
    c.requires.belong

pub returns-clause-learns : goal.returns-clause-learns
returns-clause-learns c = subst (λ m. Learns c.args.examples.now (rule_of c.args.problem.now m)) (sym c.new.ensures) (made_learns c.args.problem.now c.args.examples.now c.in_ok-profiles.profiles.items c.in_ok-coalitions.coalitions.items c.in_ok-roots.roots.items
    (parts c.args.problem.now c.args.examples.now c.args.ranks.now c.requires.ranks c.criteria_count.ensures.facts c.categories_count-boundaries.result c.criteria_count.result c.categories_count-boundaries.ensures.count c.criteria_count.ensures.count c.args.values.now
    c.in_ok-firsts.firsts.items c.deref.result.now c.deref-2.result.now c.in_ok-firsts.ensures.firsts c.deref.ensures.value c.deref-2.ensures.value
    c.in_ok-sets.sets.items c.deref-3.result.now c.in_ok-roots.roots.items c.deref-4.result.now c.in_ok-sets.ensures.below c.deref-3.ensures.value c.in_ok-roots.ensures c.deref-4.ensures.value
    c.in_ok-profiles.profiles.items c.in_ok-profiles.ensures
    c.requires.belong c.requires.nested c.requires.apart c.in_ok-sets.ensures.sets c.in_ok-coalitions.coalitions.items c.in_ok-coalitions.ensures))

pub returns-clause-belongs : goal.returns-clause-belongs
returns-clause-belongs c = subst (Belongs c.args.problem.now) (sym c.new.ensures) (made_belongs c.args.problem.now c.args.examples.now c.in_ok-profiles.profiles.items c.in_ok-coalitions.coalitions.items c.in_ok-roots.roots.items
    (parts c.args.problem.now c.args.examples.now c.args.ranks.now c.requires.ranks c.criteria_count.ensures.facts c.categories_count-boundaries.result c.criteria_count.result c.categories_count-boundaries.ensures.count c.criteria_count.ensures.count c.args.values.now
    c.in_ok-firsts.firsts.items c.deref.result.now c.deref-2.result.now c.in_ok-firsts.ensures.firsts c.deref.ensures.value c.deref-2.ensures.value
    c.in_ok-sets.sets.items c.deref-3.result.now c.in_ok-roots.roots.items c.deref-4.result.now c.in_ok-sets.ensures.below c.deref-3.ensures.value c.in_ok-roots.ensures c.deref-4.ensures.value
    c.in_ok-profiles.profiles.items c.in_ok-profiles.ensures
    c.requires.belong c.requires.nested c.requires.apart c.in_ok-sets.ensures.sets c.in_ok-coalitions.coalitions.items c.in_ok-coalitions.ensures)
    c.requires.belong)
