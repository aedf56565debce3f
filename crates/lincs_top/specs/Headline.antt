-- What the status of a run says of its files and of what it wrote, over files that are told.
use Rattle.std.specs.Prelude.{◌≡◌, ℕ, List, None, Some, Result, Ok}
use Rattle.std.specs.Io.KnownBytes.{Appends}
use Rattle.edge_core.specs.Outside.{Files, ShelfState, SinkState}
use Rattle.literals_core.specs.declared.encoding.Encoding.{Encoding}
use Rattle.chain_core.specs.Log.{IsRefutation}
use Rattle.chain_core.specs.declared.log.Lemma.{Lemma}
use Rattle.sorting_rule.specs.Examples.{Example, HasNoModel}
use Rattle.encoding_rules.specs.Encodings.{formula_of}
use Rattle.ranks_core.specs.Ranks.{task_of}
use Rattle.problem_core.specs.Problem.{ProblemValue}
use Rattle.model_core.specs.Model.{ModelValue, rule_of}
use Rattle.table_core.specs.Rows.{rows_left}
use Rattle.table_core.specs.Table.{TableState}
use Rattle.report_core.specs.Classified.{classified_text}
use Rattle.line_core.specs.Command.{Command, classifying, learning, checking}
use Rattle.line_core.specs.declared.fault.LineFault.{LineFault}
use Rattle.lincs_top.specs.FileGives.{given, problem_in, model_in, table_in, examples_in, log_in}
use Rattle.lincs_top.specs.Learned.{IsModelText, IsRefutationText, IsLimitText}

-- the files hold a problem, a model and a table, no row of which is refused, and the table with the rule's categories
-- was written
pub record SortsFiles (files : Files) (problem_name model_name table_name : List ℕ) (out out' : SinkState) : Type 0
  where
    pub problem : ProblemValue
    pub model : ModelValue
    pub table : TableState
    pub problem_file : given problem_in files problem_name ≡ Ok problem
    pub model_file : given (model_in problem) files model_name ≡ Ok model
    pub table_file : given (table_in problem) files table_name ≡ Ok table
    pub all_rows : (rows_left problem table).1 ≡ None
    pub wrote : Appends out.written out'.written (classified_text problem (rule_of problem model) table)

-- the files hold a problem and examples, and a text was written of which this is said
pub record LearnsFrom (files : Files) (problem_name table_name : List ℕ) (out out' : SinkState)
    (Says : ProblemValue → List Example → List ℕ → Type 0) : Type 0 where
  pub problem : ProblemValue
  pub examples : List Example
  pub text : List ℕ
  pub problem_file : given problem_in files problem_name ≡ Ok problem
  pub table_file : given (examples_in problem) files table_name ≡ Ok examples
  pub wrote : Appends out.written out'.written text
  pub says : Says problem examples text

-- the files hold a problem, examples and a refutation of the examples' formula, and no model restores the examples
pub record RefutesFiles (files : Files) (problem_name table_name refutation_name : List ℕ) : Type 0 where
  pub problem : ProblemValue
  pub examples : List Example
  pub how : Encoding
  pub log : List Lemma
  pub problem_file : given problem_in files problem_name ≡ Ok problem
  pub table_file : given (examples_in problem) files table_name ≡ Ok examples
  pub refutation_file : given log_in files refutation_name ≡ Ok (how, log)
  pub refutes : IsRefutation (formula_of how (task_of problem examples)) log
  pub no_model : let task = task_of problem examples in HasNoModel task.directions task.categories task.examples

-- if the line is `classify`, its table was sorted
abbrev pub Sorts : Result Command LineFault → ShelfState → SinkState → SinkState → Type 0
Sorts asked shelf out out' =
    (problem model table : List ℕ) → asked ≡ Ok (classifying problem model table)
    → (files : Files) → shelf.held ≡ Some files → SortsFiles files problem model table out out'

-- if the line is `learn`, a model of the examples was written
abbrev pub FindsModel : Result Command LineFault → ShelfState → SinkState → SinkState → Type 0
FindsModel asked shelf out out' =
    (problem table : List ℕ) (how : Encoding) (most : ℕ) → asked ≡ Ok (learning problem table how most)
    → (files : Files) → shelf.held ≡ Some files → LearnsFrom files problem table out out' IsModelText

-- if the line is `learn`, a refutation of the examples' formula was written, and no model restores the examples
abbrev pub WritesRefutation : Result Command LineFault → ShelfState → SinkState → SinkState → Type 0
WritesRefutation asked shelf out out' =
    (problem table : List ℕ) (how : Encoding) (most : ℕ) → asked ≡ Ok (learning problem table how most)
    → (files : Files) → shelf.held ≡ Some files
    → LearnsFrom files problem table out out' (λ problem examples. IsRefutationText how (task_of problem examples) most)

-- if the line is `learn`, as many fresh lemmas as its limit were written
abbrev pub WritesLemmas : Result Command LineFault → ShelfState → SinkState → SinkState → Type 0
WritesLemmas asked shelf out out' =
    (problem table : List ℕ) (how : Encoding) (most : ℕ) → asked ≡ Ok (learning problem table how most)
    → (files : Files) → shelf.held ≡ Some files
    → LearnsFrom files problem table out out' (λ problem examples. IsLimitText how (task_of problem examples) most)

-- if the line is `check-refutation`, no model restores the examples
abbrev pub Accepts : Result Command LineFault → ShelfState → Type 0
Accepts asked shelf =
    (problem table refutation : List ℕ) → asked ≡ Ok (checking problem table refutation)
    → (files : Files) → shelf.held ≡ Some files → RefutesFiles files problem table refutation
