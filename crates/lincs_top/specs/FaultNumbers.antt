-- The numbers of the faults, as the error lines print them.
use Rattle.std.specs.Prelude.{ℕ, None, Some}
use Rattle.yaml_core.specs.declared.fault.YamlFault.{YamlFault}
use Rattle.yaml_core.specs.declared.fault.YamlFault.TheVariants as yaml
use Rattle.problem_core.specs.declared.fault.ProblemFault.{ProblemFault}
use Rattle.problem_core.specs.declared.fault.ProblemFault.TheVariants as problem
use Rattle.problem_core.specs.declared.grade.GradeFault.{GradeFault}
use Rattle.problem_core.specs.declared.grade.GradeFault.TheVariants as grade
use Rattle.model_core.specs.declared.model_fault.ModelFault.{ModelFault}
use Rattle.model_core.specs.declared.model_fault.ModelFault.TheVariants as model
use Rattle.table_core.specs.declared.fault.TableFault.{TableFault}
use Rattle.table_core.specs.declared.fault.TableFault.TheVariants as table
use Rattle.line_core.specs.declared.fault.LineFault.{LineFault}
use Rattle.line_core.specs.declared.fault.LineFault.TheVariants as line
use Rattle.lincs_top.specs.declared.fault_numbers.FaultNumber.{FaultNumber}

abbrev pub plain : ℕ → FaultNumber
plain code = record { code = code; place = None }

abbrev pub at : ℕ → ℕ → FaultNumber
at code place = record { code = code; place = Some place }

-- out of memory is no refusal, and has number 0
abbrev pub yaml_number : YamlFault → FaultNumber
yaml_number yaml.NoMemory = plain 0
yaml_number yaml.NotUtf8 = plain 1
yaml_number yaml.Form = plain 2
yaml_number yaml.Many = plain 3

abbrev pub problem_number : ProblemFault → FaultNumber
problem_number problem.NoMemory = plain 0
problem_number problem.NotAMap = plain 1
problem_number problem.Kind = plain 2
problem_number problem.Version = plain 3
problem_number problem.NoCriteria = plain 4
problem_number problem.CriteriaCount = plain 5
problem_number (problem.CriterionForm place) = at 6 place
problem_number (problem.CriterionName place) = at 7 place
problem_number (problem.ValueType place) = at 8 place
problem_number (problem.Direction place) = at 9 place
problem_number (problem.Bounds place) = at 10 place
problem_number (problem.Names place) = at 11 place
problem_number problem.NoCategories = plain 12
problem_number problem.CategoriesCount = plain 13
problem_number (problem.Category place) = at 14 place

abbrev pub model_number : ModelFault → FaultNumber
model_number model.NoMemory = plain 0
model_number model.NotAMap = plain 1
model_number model.Kind = plain 2
model_number model.Version = plain 3
model_number model.NoAccepted = plain 4
model_number (model.AcceptedForm place) = at 5 place
model_number (model.AcceptedCount place) = at 6 place
model_number (model.Threshold place) = at 7 place
model_number (model.Order place) = at 8 place
model_number model.NoCoalitions = plain 9
model_number (model.CoalitionForm place) = at 10 place
model_number (model.Weights place) = at 11 place
model_number (model.Roots place) = at 12 place

abbrev pub table_number : TableFault → FaultNumber
table_number table.NoMemory = plain 0
table_number table.NotUtf8 = plain 1
table_number table.NoHeader = plain 2
table_number (table.ColumnMissing place) = at 3 place
table_number (table.ColumnUnknown place) = at 4 place
table_number (table.ColumnTwice place) = at 5 place

abbrev pub grade_number : GradeFault → ℕ
grade_number grade.NotANumber = 1
grade_number grade.NotWhole = 2
grade_number grade.OutOfBounds = 3
grade_number grade.UnknownName = 4

-- the number of a fault of the command line, and that of its word
abbrev pub line_number : LineFault → ℕ × ℕ
line_number (line.NoCommand word) = (1, word)
line_number (line.UnknownCommand word) = (2, word)
line_number (line.Missing word) = (3, word)
line_number (line.Extra word) = (4, word)
line_number (line.UnknownOption word) = (5, word)
line_number (line.Twice word) = (6, word)
line_number (line.BadNumber word) = (7, word)
line_number (line.BadWord word) = (8, word)
