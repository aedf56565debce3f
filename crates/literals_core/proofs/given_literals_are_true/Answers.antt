use Rattle.literals_core.proofs.Values.{given_true, conflict_refutes}
use Rattle.literals_core.proofs.given_literals_are_true.Goals as goal

pub returns-clause-literals : goal.returns-clause-literals
returns-clause-literals c = given_true

pub returns-clause-conflict : goal.returns-clause-conflict
returns-clause-conflict c = conflict_refutes
