-- How a command goes over files: its course.
use Rattle.std.specs.Prelude.{◌≡◌, ◌⊎◌, ◌+◌, ◌*◌, ℕ, Bool, false, List, length, Option, None, Some, Result, Ok, Err}
use Rattle.std.specs.Prelude.{◌==◌, if◌then◌else◌}
use Rattle.literals_core.specs.declared.encoding.Encoding.{Encoding}
use Rattle.literals_core.specs.declared.encoding.Encoding.TheVariants.{Separation}
use Rattle.chain_core.specs.Text.{dimacs_text}
use Rattle.chain_core.specs.declared.log.Lemma.{Lemma}
use Rattle.sorting_rule.specs.Examples.{Example, HasNoModel}
use Rattle.problem_core.specs.Problem.{ProblemValue}
use Rattle.encoding_rules.specs.Task.{Task}
use Rattle.encoding_rules.specs.Encodings.{formula_of, HasFormula}
use Rattle.ranks_core.specs.Ranks.{task_of}
use Rattle.edge_core.specs.Outside.{Files}
use Rattle.table_core.specs.Rows.{rows_left}
use Rattle.model_core.specs.Model.{rule_of}
use Rattle.report_core.specs.Classified.{classified_text}
use Rattle.report_core.specs.Described.{problem_description, table_description}
use Rattle.report_core.specs.DescribedModel.{model_description}
use Rattle.draw_core.specs.Words.{seeded, words_of}
use Rattle.draw_core.specs.DrawnProblem.{drawn_problem}
use Rattle.draw_core.specs.DrawnModel.{drawn_model, model_words}
use Rattle.draw_core.specs.DrawnTable.{drawn_table}
use Rattle.problem_text_core.specs.ProblemText.{problem_text}
use Rattle.model_text_core.specs.ModelText.{model_text}
use Rattle.lincs_top.specs.Output.{accuracy_text, end_of_rows, end_of_text, text_or_none}
use Rattle.line_core.specs.Command.{Command, classifying, rating, learning, encoding, checking, describing_problem}
use Rattle.line_core.specs.Command.{describing_model, describing_table, generating_problem, generating_model}
use Rattle.line_core.specs.Command.{generating_table, rehearsing}
use Rattle.lincs_top.specs.declared.stop.Size.{Size}
use Rattle.lincs_top.specs.declared.stop.Verdict.{Verdict}
use Rattle.lincs_top.specs.declared.stop.Verdict.TheVariants.{Done}
use Rattle.lincs_top.specs.End.{End, gave, unread, over, Outcome, silent}
use Rattle.lincs_top.specs.FileGives.{FileStep, given, problem_in, model_in, table_in, examples_in, log_in}
use Rattle.lincs_top.specs.Judged.{Judged, judged_text}
use Rattle.rehearsal_core.specs.Rehearsed.{rehearsed_problem, rehearsed_examples, rehearsed_task}
use Rattle.lincs_top.specs.Learned.{Learned, Rehearsed}
use Rattle.lincs_top.specs.Size.{IsOver}

-- what a course meets: the files, and the place among the command's files of the one that can't be read, if
-- there is one
pub record World : Type 0 where
  pub files : Files
  pub unreadable : Option ℕ

abbrev pub readable : Files → World
readable files = record { files = files; unreadable = None }

abbrev pub unreadable_at : Files → ℕ → World
unreadable_at files place = record { files = files; unreadable = Some place }

abbrev pub is_at : Option ℕ → ℕ → Bool
is_at None place = false
is_at (Some other) place = other == place

-- what a step gives in a world, as that of the file at a place
abbrev pub given_in : {A : Type 0} → FileStep A → World → ℕ → List ℕ → Result A End
given_in step world place name =
    if is_at world.unreadable place then Err (unread name) else given step world.files name

-- the course goes on with a value, or ends there with no output
abbrev pub Goes : {A : Type 0} → ℕ → Result A End → (A → ℕ → World → Outcome → Type 0) → World → Outcome → Type 0
Goes opened (Ok value) next world outcome = next value opened world outcome
Goes opened (Err end) next world outcome = outcome ≡ silent opened end

-- the next file is opened, after so many, and read by a step: the course goes on with its value, or ends there
pub record Reads {A : Type 0} (step : FileStep A) (name : List ℕ) (next : A → ℕ → World → Outcome → Type 0) (opened : ℕ)
    (world : World) (outcome : Outcome) : Type 0 where
  pub goes : Goes (opened + 1) (given_in step world opened name) next world outcome

-- the course ends so, and this text is the output
pub record Writes (end : End) (text : List ℕ) (opened : ℕ) (world : World) (outcome : Outcome) : Type 0 where
  pub is : outcome ≡ record { end = end; output = text; opened = opened }

-- the formula of a task in an encoding is small enough, and the course goes on; or it is too large, and the course ends
-- there with no output
pub record Sizes (how : Encoding) (task : Task) (next : ℕ → World → Outcome → Type 0) (opened : ℕ) (world : World)
    (outcome : Outcome) : Type 0 where
  pub goes : (HasFormula how task × next opened world outcome)
      ⊎ ((size : Size) × IsOver how task size × (outcome ≡ silent opened (over size)))

-- a log is judged over the formula of a task: the verdict is Done exactly if it is a refutation, and then no model
-- restores the examples
pub record Judges (how : Encoding) (task : Task) (log : List Lemma) (opened : ℕ) (world : World)
    (outcome : Outcome) : Type 0 where
  pub verdict : Verdict
  pub judged : Judged (formula_of how task) log verdict
  pub means : verdict ≡ Done → HasNoModel task.directions task.categories task.examples
  pub is : outcome ≡ record { end = gave verdict; output = judged_text verdict; opened = opened }

-- examples are learned from, with so many lemmas at most: the output is what the verdict says
pub record Decides (problem : ProblemValue) (examples : List Example) (how : Encoding) (most : ℕ) (opened : ℕ)
    (world : World) (outcome : Outcome) : Type 0 where
  pub verdict : Verdict
  pub text : List ℕ
  pub learned : Learned problem examples how most verdict text
  pub is : outcome ≡ record { end = gave verdict; output = text; opened = opened }

-- a model is learned from drawn examples: the output is what the verdict says
pub record Rehearses (problem : ProblemValue) (examples : List Example) (opened : ℕ) (world : World)
    (outcome : Outcome) : Type 0 where
  pub verdict : Verdict
  pub text : List ℕ
  pub rehearsed : Rehearsed problem examples verdict text
  pub is : outcome ≡ record { end = gave verdict; output = text; opened = opened }

-- the course of a command, after so many files
abbrev pub course : Command → ℕ → World → Outcome → Type 0
course (classifying problem_name model_name table_name) =
    Reads problem_in problem_name (λ problem.
    Reads (model_in problem) model_name (λ model.
    Reads (table_in problem) table_name (λ table.
    Writes (end_of_rows table_name (rows_left problem table).1)
    (classified_text problem (rule_of problem model) table))))
course (rating problem_name model_name table_name) =
    Reads problem_in problem_name (λ problem.
    Reads (model_in problem) model_name (λ model.
    Reads (examples_in problem) table_name (λ examples.
    Writes (gave Done) (accuracy_text (rule_of problem model) examples))))
course (learning problem_name table_name how most) =
    Reads problem_in problem_name (λ problem.
    Reads (examples_in problem) table_name (λ examples.
    Sizes how (task_of problem examples) (
    Decides problem examples how most)))
course (encoding problem_name table_name how) =
    Reads problem_in problem_name (λ problem.
    Reads (examples_in problem) table_name (λ examples.
    Sizes how (task_of problem examples) (
    Writes (gave Done) (dimacs_text (formula_of how (task_of problem examples))))))
course (checking problem_name table_name refutation_name) =
    Reads problem_in problem_name (λ problem.
    Reads (examples_in problem) table_name (λ examples.
    Reads log_in refutation_name (λ read.
    Sizes read.0 (task_of problem examples) (
    Judges read.0 (task_of problem examples) read.1))))
course (describing_problem problem_name) =
    Reads problem_in problem_name (λ problem.
    Writes (gave Done) (problem_description problem))
course (describing_model problem_name model_name) =
    Reads problem_in problem_name (λ problem.
    Reads (model_in problem) model_name (λ model.
    Writes (gave Done) (model_description problem model)))
course (describing_table problem_name table_name) =
    Reads problem_in problem_name (λ problem.
    Reads (table_in problem) table_name (λ table.
    Writes (end_of_text table_name (table_description problem table)) (text_or_none (table_description problem table))))
course (generating_problem criteria categories seed) =
    Writes (gave Done) (problem_text (drawn_problem criteria categories (words_of (seeded seed) criteria)))
course (generating_model problem_name seed) =
    Reads problem_in problem_name (λ problem.
    Writes (gave Done) (model_text problem (drawn_model problem (words_of (seeded seed) (model_words problem)))))
course (generating_table problem_name model_name rows seed) =
    Reads problem_in problem_name (λ problem.
    Reads (model_in problem) model_name (λ model.
    Writes (gave Done) (drawn_table problem (rule_of problem model) rows
    (words_of (seeded seed) (rows * length problem.criteria)))))
course (rehearsing criteria categories rows seed) =
    Sizes Separation (rehearsed_task criteria categories rows seed) (
    Rehearses (rehearsed_problem criteria categories seed) (rehearsed_examples criteria categories rows seed))

-- a course of the command ends so
abbrev pub Ends : Command → World → Outcome → Type 0
Ends command = course command 0
