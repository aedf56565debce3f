use Rattle.std.proofs.Common.{◌≡◌, ◌≤◌, Result, Ok, Err, sym, subst, arith}
use Rattle.std.specs.Result.{IfErr, IsErrAnd}
use Rattle.ranks_core.specs.declared.fault.EncodeFault.{EncodeFault}
use Rattle.ranks_core.specs.declared.fault.EncodeFault.TheVariants.{NoMemory}
use Rattle.encoding_rules.specs.Task.{Task, IsTask, criteria}
use Rattle.encoding_rules.specs.Coalitions.{coalition_literal_count}
use Rattle.encoding_rules.proofs.CoalitionComplete.{no_model_of_sets}
use Rattle.literals_core.specs.Formula.{Cnf}
use Rattle.literals_core.specs.Values.{IsUnsatisfiable}
use Rattle.sorting_rule.specs.Examples.{HasNoModel}
use Rattle.ranks_core.specs.Ranks.{task_of}
use Rattle.accepted_core.proofs.NumbersFacts.{grades_many, criteria_is}
use Rattle.ranks_core.specs.Fault.{FaultOf}
use Rattle.literals_core.specs.declared.encoding.Encoding.TheVariants.{Coalitions}
use Rattle.encoding_rules.specs.Encodings.{formula_of, HasFormula}
use Rattle.coalition_core.proofs.SizeFacts.{number_is, narrow, small_from}
use Rattle.coalition_core.proofs.SmallFacts.{is_few}
use Rattle.coalition_core.proofs.encode.encode_coalitions.Goals as goal

unsat : (task : Task) (formula : Cnf) → IsTask task → formula ≡ formula_of Coalitions task → IsUnsatisfiable formula → HasNoModel task.directions task.categories task.examples
unsat task formula fits same none = no_model_of_sets task fits (λ values holds. subst IsUnsatisfiable same none values holds)

has_formula : (task : Task) → criteria task ≤ 12 → coalition_literal_count task ≤ 33554432 → HasFormula Coalitions task
has_formula task few le = record { narrow = few; small = le }

pub returns-clause-complete : goal.returns-clause-complete
returns-clause-complete c = unsat (task_of c.args.problem.now c.args.examples.now) c.in_ok-formula.formula c.requires.task (c.in_ok-formula.ensures (task_of c.args.problem.now c.args.examples.now) c.in_ok-unknowns.ensures)

pub coalition_literals-literals-requires-clause-ranks : goal.coalition_literals-literals-requires-clause-ranks
coalition_literals-literals-requires-clause-ranks c = let g = grades_many c.args.problem.now c.args.examples.now c.args.ranks.now c.requires.ranks in let k = criteria_is c.args.problem.now c.args.examples.now c.args.ranks.now c.requires.ranks in omega (arith, g, k, c.criteria_count-n.ensures.count)

pub returns-then-n-gt-MOST_COALITION_CRITERIA-clause-fault : goal.returns-then-n-gt-MOST_COALITION_CRITERIA-clause-fault
returns-then-n-gt-MOST_COALITION_CRITERIA-clause-fault c = let k = narrow c.args.problem.now c.args.examples.now c.args.ranks.now c.requires.ranks c.criteria_count-n.result c.criteria_count-n.ensures.count in omega (arith, k, c.if-n-gt-MOST_COALITION_CRITERIA.true)

pub returns-then-literals-from-clause-fault : goal.returns-then-literals-from-clause-fault
returns-then-literals-from-clause-fault c = let n = number_is c.args.problem.now c.args.examples.now c.args.ranks.now c.requires.ranks c.categories_count.result c.criteria_count-n.result c.coalition_literals-literals.result c.categories_count.ensures.count c.criteria_count-n.ensures.count c.coalition_literals-literals.ensures.value in ((let k = narrow c.args.problem.now c.args.examples.now c.args.ranks.now c.requires.ranks c.criteria_count-n.result c.criteria_count-n.ensures.count in omega (arith, k, c.if-n-gt-MOST_COALITION_CRITERIA.false)), omega (arith, n, c.if-literals-from.true, c.from.ensures), n)

pub unknowns_of-requires-clause-small : goal.unknowns_of-requires-clause-small
unknowns_of-requires-clause-small c = is_few (task_of c.args.problem.now c.args.examples.now) (small_from c.args.problem.now c.args.examples.now c.args.ranks.now c.requires.ranks c.requires.task c.categories_count.ensures.facts (let k = narrow c.args.problem.now c.args.examples.now c.args.ranks.now c.requires.ranks c.criteria_count-n.result c.criteria_count-n.ensures.count in omega (arith, k, c.if-n-gt-MOST_COALITION_CRITERIA.false)) c.coalition_literals-literals.ensures.few (let n = number_is c.args.problem.now c.args.examples.now c.args.ranks.now c.requires.ranks c.categories_count.result c.criteria_count-n.result c.coalition_literals-literals.result c.categories_count.ensures.count c.criteria_count-n.ensures.count c.coalition_literals-literals.ensures.value in omega (arith, n, c.if-literals-from.false, c.from.ensures)))

pub coalitions_of-requires : goal.coalitions_of-requires
coalitions_of-requires c = ((task_of c.args.problem.now c.args.examples.now), (small_from c.args.problem.now c.args.examples.now c.args.ranks.now c.requires.ranks c.requires.task c.categories_count.ensures.facts (let k = narrow c.args.problem.now c.args.examples.now c.args.ranks.now c.requires.ranks c.criteria_count-n.result c.criteria_count-n.ensures.count in omega (arith, k, c.if-n-gt-MOST_COALITION_CRITERIA.false)) c.coalition_literals-literals.ensures.few (let n = number_is c.args.problem.now c.args.examples.now c.args.ranks.now c.requires.ranks c.categories_count.result c.criteria_count-n.result c.coalition_literals-literals.result c.categories_count.ensures.count c.criteria_count-n.ensures.count c.coalition_literals-literals.ensures.value in omega (arith, n, c.if-literals-from.false, c.from.ensures))), c.in_ok-unknowns.ensures)

pub returns-clause-small : goal.returns-clause-small
returns-clause-small c = has_formula (task_of c.args.problem.now c.args.examples.now) (let k = narrow c.args.problem.now c.args.examples.now c.args.ranks.now c.requires.ranks c.criteria_count-n.result c.criteria_count-n.ensures.count in omega (arith, k, c.if-n-gt-MOST_COALITION_CRITERIA.false)) (let n = number_is c.args.problem.now c.args.examples.now c.args.ranks.now c.requires.ranks c.categories_count.result c.criteria_count-n.result c.coalition_literals-literals.result c.categories_count.ensures.count c.criteria_count-n.ensures.count c.coalition_literals-literals.ensures.value in omega (arith, n, c.if-literals-from.false, c.from.ensures))

-- what a question mark makes of no memory
no_memory : {T : Type 0} (r : Result T EncodeFault) (task : Task) → criteria task ≤ 12 → coalition_literal_count task ≤ 33554432 → IsErrAnd r (λ fault. fault ≡ NoMemory) → IfErr r (FaultOf Coalitions task)
no_memory (Ok x) task few le h = absurd h
no_memory (Err fault) task few le h = subst (FaultOf Coalitions task) (sym h) (has_formula task few le)

pub returns-in_err-unknowns-clause-fault : goal.returns-in_err-unknowns-clause-fault
returns-in_err-unknowns-clause-fault c = no_memory c.from_residual.result (task_of c.args.problem.now c.args.examples.now) (let k = narrow c.args.problem.now c.args.examples.now c.args.ranks.now c.requires.ranks c.criteria_count-n.result c.criteria_count-n.ensures.count in omega (arith, k, c.if-n-gt-MOST_COALITION_CRITERIA.false)) (let n = number_is c.args.problem.now c.args.examples.now c.args.ranks.now c.requires.ranks c.categories_count.result c.criteria_count-n.result c.coalition_literals-literals.result c.categories_count.ensures.count c.criteria_count-n.ensures.count c.coalition_literals-literals.ensures.value in omega (arith, n, c.if-literals-from.false, c.from.ensures)) c.from_residual.ensures.1

pub returns-in_err-formula-clause-fault : goal.returns-in_err-formula-clause-fault
returns-in_err-formula-clause-fault c = no_memory c.from_residual-in_err-formula.result (task_of c.args.problem.now c.args.examples.now) (let k = narrow c.args.problem.now c.args.examples.now c.args.ranks.now c.requires.ranks c.criteria_count-n.result c.criteria_count-n.ensures.count in omega (arith, k, c.if-n-gt-MOST_COALITION_CRITERIA.false)) (let n = number_is c.args.problem.now c.args.examples.now c.args.ranks.now c.requires.ranks c.categories_count.result c.criteria_count-n.result c.coalition_literals-literals.result c.categories_count.ensures.count c.criteria_count-n.ensures.count c.coalition_literals-literals.ensures.value in omega (arith, n, c.if-literals-from.false, c.from.ensures)) c.from_residual-in_err-formula.ensures.1
