use Rattle.std.proofs.Common.{◌≡◌, ◌-◌, ◌*◌, ap, ◌∙◌, arith}
use Rattle.encoding_rules.specs.Each.{total}
use Rattle.accepted_core.specs.Sizes.{count_in}
use Rattle.accepted_core.proofs.NumbersFacts.{few_criteria, room_for_firsts, fit, made, accepted_fits}
use Rattle.accepted_core.proofs.making.unknowns_of.Goals as goal

pub counts_of-requires : goal.counts_of-requires
counts_of-requires c = few_criteria c.args.problem.now c.args.examples.now c.args.ranks.now c.requires.ranks c.requires.small c.criteria_count-n.result (c.categories_count-boundaries.result - 1) c.criteria_count-n.ensures.count (ap (λ m. m - 1) c.categories_count-boundaries.ensures.count)

pub firsts_of-requires : goal.firsts_of-requires
firsts_of-requires c = room_for_firsts c.args.problem.now c.args.examples.now c.args.ranks.now c.requires.ranks c.requires.small c.criteria_count-n.result (c.categories_count-boundaries.result - 1) c.criteria_count-n.ensures.count (ap (λ m. m - 1) c.categories_count-boundaries.ensures.count) c.in_ok-counts.counts.items c.in_ok-counts.ensures c.deref.result.now c.deref.ensures.value

pub good_rows-requires : goal.good_rows-requires
good_rows-requires c = fit c.args.problem.now c.args.examples.now c.args.ranks.now c.requires.ranks c.requires.small c.criteria_count-n.result (c.categories_count-boundaries.result - 1) c.criteria_count-n.ensures.count (ap (λ m. m - 1) c.categories_count-boundaries.ensures.count) c.in_ok-counts.counts.items c.in_ok-counts.ensures c.in_ok-firsts.firsts.items c.deref.result.now c.deref.ensures.value c.in_ok-firsts.ensures c.deref-2.result.now c.deref-3.result.now c.deref-2.ensures.value c.deref-3.ensures.value

pub bad_rows-requires : goal.bad_rows-requires
bad_rows-requires c = fit c.args.problem.now c.args.examples.now c.args.ranks.now c.requires.ranks c.requires.small c.criteria_count-n.result (c.categories_count-boundaries.result - 1) c.criteria_count-n.ensures.count (ap (λ m. m - 1) c.categories_count-boundaries.ensures.count) c.in_ok-counts.counts.items c.in_ok-counts.ensures c.in_ok-firsts.firsts.items c.deref.result.now c.deref.ensures.value c.in_ok-firsts.ensures c.deref-4.result.now c.deref-5.result.now c.deref-4.ensures.value c.deref-5.ensures.value

pub grades_count-requires : goal.grades_count-requires
grades_count-requires c = few_criteria c.args.problem.now c.args.examples.now c.args.ranks.now c.requires.ranks c.requires.small c.criteria_count-n.result (c.categories_count-boundaries.result - 1) c.criteria_count-n.ensures.count (ap (λ m. m - 1) c.categories_count-boundaries.ensures.count)

pub overflow_cast-accepted : goal.overflow_cast-accepted
overflow_cast-accepted c = let le = accepted_fits c.args.problem.now c.args.examples.now c.args.ranks.now c.requires.ranks c.requires.small c.criteria_count-n.result (c.categories_count-boundaries.result - 1) c.criteria_count-n.ensures.count (ap (λ m. m - 1) c.categories_count-boundaries.ensures.count) c.in_ok-counts.counts.items c.in_ok-counts.ensures c.in_ok-firsts.firsts.items c.deref.result.now c.deref.ensures.value c.in_ok-firsts.ensures in let e : c.from.result * c.grades_count.result ≡ (c.categories_count-boundaries.result - 1) * total (count_in c.args.ranks.now.grades) c.criteria_count-n.result = (ap (λ m. m * c.grades_count.result) c.from.ensures ∙ ap (λ m. (c.categories_count-boundaries.result - 1) * m) c.grades_count.ensures.value) in omega (arith, le, e)

pub returns : goal.returns
returns c = made c.args.problem.now c.args.examples.now c.args.ranks.now c.requires.ranks c.requires.small c.criteria_count-n.result (c.categories_count-boundaries.result - 1) c.criteria_count-n.ensures.count (ap (λ m. m - 1) c.categories_count-boundaries.ensures.count) c.in_ok-counts.counts.items c.in_ok-counts.ensures c.in_ok-firsts.firsts.items c.deref.result.now c.deref.ensures.value c.in_ok-firsts.ensures (c.from.result * c.grades_count.result) c.in_ok-goods.goods c.in_ok-bads.bads c.deref-2.result.now c.deref-3.result.now c.deref-4.result.now c.deref-5.result.now c.deref-2.ensures.value c.deref-3.ensures.value c.deref-4.ensures.value c.deref-5.ensures.value (ap (λ m. m * c.grades_count.result) c.from.ensures ∙ ap (λ m. (c.categories_count-boundaries.result - 1) * m) c.grades_count.ensures.value) c.in_ok-goods.ensures c.in_ok-bads.ensures
