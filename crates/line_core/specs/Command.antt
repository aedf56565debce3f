-- What a command line asks for.
use Rattle.std.specs.Prelude.{ℕ, ◌≤◌, ◌<◌, ◌^◌, List, Result, Ok, Err, ⊤}
use Rattle.literals_core.specs.declared.encoding.Encoding.{Encoding}
use Rattle.line_core.specs.declared.command.Job.{Job}
use Rattle.line_core.specs.declared.command.Job.TheVariants as job
use Rattle.line_core.specs.declared.fault.LineFault.{LineFault}

-- a command, by the names of its files in the order in which they are read, its numbers and the values of its options
pub data Command : Type 0 where
  classifying : List ℕ → List ℕ → List ℕ → Command
  rating : List ℕ → List ℕ → List ℕ → Command
  learning : List ℕ → List ℕ → Encoding → ℕ → Command
  encoding : List ℕ → List ℕ → Encoding → Command
  checking : List ℕ → List ℕ → List ℕ → Command
  describing_problem : List ℕ → Command
  describing_model : List ℕ → List ℕ → Command
  describing_table : List ℕ → List ℕ → Command
  generating_problem : ℕ → ℕ → ℕ → Command
  generating_model : List ℕ → ℕ → Command
  generating_table : List ℕ → List ℕ → ℕ → ℕ → Command
  rehearsing : ℕ → ℕ → ℕ → ℕ → Command

abbrev pub command_of : Job → Command
command_of (job.Classify problem model table) = classifying problem.now model.now table.now
command_of (job.Accuracy problem model table) = rating problem.now model.now table.now
command_of (job.Learn problem table how most) = learning problem.now table.now how most
command_of (job.Encode problem table how) = encoding problem.now table.now how
command_of (job.CheckRefutation problem table log) = checking problem.now table.now log.now
command_of (job.DescribeProblem problem) = describing_problem problem.now
command_of (job.DescribeModel problem model) = describing_model problem.now model.now
command_of (job.DescribeTable problem table) = describing_table problem.now table.now
command_of (job.GenerateProblem criteria categories seed) = generating_problem criteria categories seed
command_of (job.GenerateModel problem seed) = generating_model problem.now seed
command_of (job.GenerateTable problem model rows seed) = generating_table problem.now model.now rows seed
command_of (job.Rehearse criteria categories rows seed) = rehearsing criteria categories rows seed

-- what reading a line gives, by the bytes of its names
abbrev pub read_as : Result Job LineFault → Result Command LineFault
read_as (Ok job) = Ok (command_of job)
read_as (Err fault) = Err fault

-- the numbers of a command are within the ranges that its line may write
abbrev pub HasItsRanges : Command → Type 0
HasItsRanges (learning problem table how most) = (1 ≤ most) × (most ≤ 1000000)
HasItsRanges (generating_problem criteria categories seed) =
    (1 ≤ criteria) × (criteria ≤ 16) × (2 ≤ categories) × (categories ≤ 10) × (seed < 2 ^ 64)
HasItsRanges (generating_model problem seed) = seed < 2 ^ 64
HasItsRanges (generating_table problem model rows seed) = (rows ≤ 100000) × (seed < 2 ^ 64)
HasItsRanges (rehearsing criteria categories rows seed) =
    (1 ≤ criteria) × (criteria ≤ 16) × (2 ≤ categories) × (categories ≤ 10) × (rows ≤ 10000) × (seed < 2 ^ 64)
HasItsRanges other = ⊤
