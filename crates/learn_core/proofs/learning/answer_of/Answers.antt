use Rattle.std.proofs.Common.{subst}
use Rattle.search_core.specs.Outcomes.{IfSat, IsModel}
use Rattle.learn_core.proofs.learning.answer_of.Goals as goal

pub rebuild-requires-clause-satisfied : goal.rebuild-requires-clause-satisfied
rebuild-requires-clause-satisfied c =
    c.requires.sat c.in-Sat.values (subst (IfSat (IsModel c.args.formula.now)) c.in-Sat.is c.in_ok-values.ensures.sat)

pub returns-in_ok-accept-in-Unsat-clause-no_model : goal.returns-in_ok-accept-in-Unsat-clause-no_model
returns-in_ok-accept-in-Unsat-clause-no_model c = c.requires.unsat c.in_ok-accept-in-Unsat.ensures.unsatisfiable
