use Rattle.worked_search.proofs.propagation.a_decision_meets_a_false_clause.Given as goal

abbrev pub ghosts-meets_a_false_clause : goal.ghosts-meets_a_false_clause
ghosts-meets_a_false_clause g a = record { name = a.blank.name; parts = a.blank.parts }
