use Rattle.rehearsal_core.proofs.DrawnFacts.{criteria_asked, categories_asked, rows_asked}
use Rattle.rehearsal_core.proofs.rehearsals_are_as_large_as_asked.Goals as goal

pub returns-clause-criteria : goal.returns-clause-criteria
returns-clause-criteria c = criteria_asked

pub returns-clause-categories : goal.returns-clause-categories
returns-clause-categories c = categories_asked

pub returns-clause-rows : goal.returns-clause-rows
returns-clause-rows c = rows_asked
