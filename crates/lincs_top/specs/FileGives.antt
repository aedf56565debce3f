-- What a file gives to the command that reads it.
use Rattle.std.specs.Prelude.{nat_lt, ℕ, List, Result, Ok, Err, length, if◌then◌else◌}
use Rattle.edge_core.specs.Outside.{Files, bytes_of}
use Rattle.lists_core.specs.Answers.{◌>>=◌}
use Rattle.literals_core.specs.declared.encoding.Encoding.{Encoding}
use Rattle.chain_core.specs.Reading.{log_of}
use Rattle.chain_core.specs.declared.log.Lemma.{Lemma}
use Rattle.yaml_core.specs.Read.{reading}
use Rattle.yaml_core.specs.declared.node.Node.{Node}
use Rattle.problem_core.specs.Problem.{ProblemValue}
use Rattle.problem_core.specs.ReadProblem.{problem_of}
use Rattle.table_core.specs.Examples.{examples_left}
use Rattle.table_core.specs.Table.{TableState, opening}
use Rattle.sorting_rule.specs.Examples.{Example}
use Rattle.model_core.specs.ReadModel.{model_of}
use Rattle.model_core.specs.Model.{ModelValue}
use Rattle.lincs_top.specs.declared.stop.Refusal.{Refusal}
use Rattle.lincs_top.specs.declared.stop.Refusal.TheVariants as refusal
use Rattle.lincs_top.specs.End.{End, refused}

-- what a reader refuses is refused as this file's
abbrev pub refusing : {A F : Type 0} → List ℕ → (F → Refusal) → Result A F → Result A End
refusing name cause (Ok value) = Ok value
refusing name cause (Err fault) = Err (refused name (cause fault))

-- what the file of a name and of these bytes gives
abbrev pub FileStep : Type 0 → Type 0
FileStep A = List ℕ → List ℕ → Result A End

-- a tree, if it is YAML
abbrev pub tree_in : FileStep Node
tree_in name bytes = refusing name refusal.Yaml (reading bytes)

abbrev pub problem_in : FileStep ProblemValue
problem_in name bytes = tree_in name bytes >>= λ node. refusing name refusal.Problem (problem_of node)

abbrev pub model_in : ProblemValue → FileStep ModelValue
model_in problem name bytes = tree_in name bytes >>= λ node. refusing name refusal.Model (model_of problem node)

-- a table, if its header is accepted
abbrev pub table_in : ProblemValue → FileStep TableState
table_in problem name bytes = refusing name refusal.Table (opening problem bytes)

-- the most bytes that a file may have: 64 MiB
abbrev pub most_bytes : ℕ
most_bytes = 67108864

-- the examples of a table, if no row is refused
abbrev pub examples_in : ProblemValue → FileStep (List Example)
examples_in problem name bytes =
    table_in problem name bytes >>= λ table. refusing name refusal.Row (examples_left problem table)

-- a log, with the encoding that it names
abbrev pub log_in : FileStep (Encoding × List Lemma)
log_in name bytes = refusing name refusal.Log (log_of bytes)

-- the bytes of a file, unless it is too long
abbrev pub bytes_in : Files → List ℕ → Result (List ℕ) End
bytes_in files name =
    if nat_lt most_bytes (length (bytes_of files name))
    then Err (refused name refusal.TooLong)
    else Ok (bytes_of files name)

-- what a step gives if the file can be read
abbrev pub given : {A : Type 0} → FileStep A → Files → List ℕ → Result A End
given step files name = bytes_in files name >>= step name
