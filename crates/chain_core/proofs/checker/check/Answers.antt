use Rattle.std.proofs.Common.{sym, refl}
use Rattle.chain_core.proofs.GoodLemmas.{refutes}
use Rattle.chain_core.proofs.RefusalLemmas.{refusal_law}
use Rattle.chain_core.proofs.TruthLemmas.{refutation_sound}
use Rattle.chain_core.proofs.checker.check.Goals as goal

pub returns-then-has_empty_end-clause-answer : goal.returns-then-has_empty_end-clause-answer
returns-then-has_empty_end-clause-answer c = (refl, refutes c.args.formula.now c.args.log c.in_ok-check_lines.ensures (sym c.if-has_empty_end.ensures))

pub returns-then-has_empty_end-clause-unsatisfiable : goal.returns-then-has_empty_end-clause-unsatisfiable
returns-then-has_empty_end-clause-unsatisfiable c = refutation_sound c.args.formula.now c.args.log (refutes c.args.formula.now c.args.log c.in_ok-check_lines.ensures (sym c.if-has_empty_end.ensures))

-- the cause of each fault, whatever was answered
pub returns-in_err-stamps-clause-cause : goal.returns-in_err-stamps-clause-cause
returns-in_err-stamps-clause-cause c = refusal_law c.args.formula.now c.args.log

pub returns-in_err-check_lines-clause-cause : goal.returns-in_err-check_lines-clause-cause
returns-in_err-check_lines-clause-cause c = refusal_law c.args.formula.now c.args.log

pub returns-then-has_empty_end-clause-cause : goal.returns-then-has_empty_end-clause-cause
returns-then-has_empty_end-clause-cause c = refusal_law c.args.formula.now c.args.log

pub returns-else-has_empty_end-clause-cause : goal.returns-else-has_empty_end-clause-cause
returns-else-has_empty_end-clause-cause c = refusal_law c.args.formula.now c.args.log
