-- A rehearsal: what it draws, and the text that it comes to.
use Rattle.std.specs.Prelude.{◌≡◌, ℕ, ◌+◌, ◌*◌, ◌%◌, ◌^◌, List, ◌++◌, length, codes, decimal}
use Rattle.sorting_rule.specs.Examples.{Example}
use Rattle.sorting_rule.specs.Rebuilt.{Learns}
use Rattle.literals_core.specs.declared.encoding.Encoding.TheVariants.{Separation}
use Rattle.problem_core.specs.Problem.{ProblemValue}
use Rattle.model_core.specs.Model.{ModelValue, Belongs, rule_of}
use Rattle.model_text_core.specs.ModelText.{model_text, ReadsWhole}
use Rattle.report_core.specs.Restored.{restored_count}
use Rattle.encoding_rules.specs.Task.{Task}
use Rattle.encoding_rules.specs.Encodings.{formula_of}
use Rattle.ranks_core.specs.Ranks.{task_of}
use Rattle.draw_core.specs.DrawnModel.{drawn_model, model_words}
use Rattle.draw_core.specs.DrawnProblem.{drawn_problem}
use Rattle.draw_core.specs.DrawnTable.{drawn_examples}
use Rattle.draw_core.specs.Words.{seeded, words_of}

-- the problem that a seed draws
unfoldable pub rehearsed_problem : ℕ → ℕ → ℕ → ProblemValue
rehearsed_problem criteria categories seed = drawn_problem criteria categories (words_of (seeded seed) criteria)

-- a seed so many later; after the last seed of 64 bits comes 0
abbrev pub seed_after : ℕ → ℕ → ℕ
seed_after seed more = (seed + more) % 2 ^ 64

-- the model that the next seed draws for the problem
unfoldable pub rehearsed_model : ℕ → ℕ → ℕ → ModelValue
rehearsed_model criteria categories seed = let problem = rehearsed_problem criteria categories seed in
    drawn_model problem (words_of (seeded (seed_after seed 1)) (model_words problem))

-- the rows that the seed after that draws, as examples of this model
unfoldable pub rehearsed_examples : ℕ → ℕ → ℕ → ℕ → List Example
rehearsed_examples criteria categories rows seed = let problem = rehearsed_problem criteria categories seed in
    drawn_examples problem (rule_of problem (rehearsed_model criteria categories seed)) rows
    (words_of (seeded (seed_after seed 2)) (rows * length problem.criteria))

-- what is to be learned from them
abbrev pub rehearsed_task : ℕ → ℕ → ℕ → ℕ → Task
rehearsed_task criteria categories rows seed =
    task_of (rehearsed_problem criteria categories seed) (rehearsed_examples criteria categories rows seed)

-- a line of a word and a number
abbrev pub number_line : List ℕ → ℕ → List ℕ
number_line word number = word ++ (decimal number ++ codes "\n")

-- how large the problem is, how many examples there are, and how large their formula is
abbrev pub counts_text : ProblemValue → List Example → List ℕ
counts_text problem examples = let formula = formula_of Separation (task_of problem examples) in
    number_line (codes "criteria ") (length problem.criteria)
    ++ (number_line (codes "categories ") (length problem.categories)
    ++ (number_line (codes "rows ") (length examples)
    ++ (number_line (codes "variables ") formula.variables
    ++ number_line (codes "clauses ") (length formula.clauses))))

-- how many examples a model restores, of how many
abbrev pub restored_line : ℕ → ℕ → List ℕ
restored_line restored all = codes "restored " ++ (decimal restored ++ (codes "/" ++ (decimal all ++ codes "\n")))

-- the counts, how many examples the model restores, and the model
unfoldable pub summary_text : ProblemValue → List Example → ModelValue → List ℕ
summary_text problem examples model =
    counts_text problem examples
    ++ (restored_line (restored_count (rule_of problem model) examples) (length examples)
    ++ model_text problem model)

-- The summary of a model that belongs to the problem, is in rebuilt form and restores the examples. The text of the
-- model reads back as that model.
pub record IsSummary (problem : ProblemValue) (examples : List Example) (text : List ℕ) : Type 0 where
  pub model : ModelValue
  pub is : text ≡ summary_text problem examples model
  pub belongs : Belongs problem model
  pub learns : Learns examples (rule_of problem model)
  pub whole : ReadsWhole problem model
