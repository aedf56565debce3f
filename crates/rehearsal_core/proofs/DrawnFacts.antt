-- What was drawn is what the numbers say.
use Rattle.std.proofs.Common.{◌≡◌, ℕ, ◌*◌, List, length, ap, ◌∙◌, subst}
use Rattle.problem_core.specs.Problem.{ProblemValue}
use Rattle.sorting_rule.specs.Examples.{Example}
use Rattle.model_core.specs.Model.{ModelValue, rule_of}
use Rattle.encoding_rules.proofs.EachFacts.{length-listed}
use Rattle.draw_core.specs.DrawnModel.{drawn_model, model_words}
use Rattle.draw_core.specs.DrawnProblem.{drawn_category, drawn_criterion, drawn_problem}
use Rattle.draw_core.specs.DrawnTable.{drawn_example, drawn_examples}
use Rattle.draw_core.specs.Words.{seeded, words_of}
use Rattle.rehearsal_core.specs.Rehearsed.{rehearsed_examples, rehearsed_model, rehearsed_problem, seed_after}

pub problem_is : (criteria categories seed : ℕ) (p : ProblemValue) → p ≡ drawn_problem criteria categories (words_of (seeded seed) criteria) → p ≡ rehearsed_problem criteria categories seed
unfolding rehearsed_problem
problem_is criteria categories seed p is = is

pub examples_are : (criteria categories rows seed : ℕ) (p : ProblemValue) (m : ModelValue) (examples : List Example)
    → p ≡ drawn_problem criteria categories (words_of (seeded seed) criteria)
    → m ≡ drawn_model p (words_of (seeded (seed_after seed 1)) (model_words p))
    → examples ≡ drawn_examples p (rule_of p m) rows (words_of (seeded (seed_after seed 2)) (rows * length p.criteria))
    → examples ≡ rehearsed_examples criteria categories rows seed
unfolding rehearsed_examples rehearsed_model
examples_are criteria categories rows seed p m examples is_p is_m is_e =
    let model_for : ProblemValue → ModelValue = λ q. drawn_model q (words_of (seeded (seed_after seed 1)) (model_words q)) in
    let rows_for : ProblemValue → ModelValue → List Example = λ q n. drawn_examples q (rule_of q n) rows (words_of (seeded (seed_after seed 2)) (rows * length q.criteria)) in
    is_e ∙ ap (λ n. rows_for p n) is_m ∙ ap (λ q. rows_for q (model_for q)) (problem_is criteria categories seed p is_p)

-- what holds of a problem and examples holds of the same ones
pub of_same : (P : ProblemValue → List Example → Type 0) (p q : ProblemValue) (e f : List Example) → p ≡ q → e ≡ f → P p e → P q f
of_same P p q e f is_p is_e h = subst (λ x. P q x) is_e (subst (λ x. P x e) is_p h)

-- ---- what is drawn is as large as asked

pub criteria_asked : (criteria categories seed : ℕ) → length (rehearsed_problem criteria categories seed).criteria ≡ criteria
unfolding rehearsed_problem drawn_problem
criteria_asked criteria categories seed = length-listed (drawn_criterion (words_of (seeded seed) criteria)) criteria

pub categories_asked : (criteria categories seed : ℕ) → length (rehearsed_problem criteria categories seed).categories ≡ categories
unfolding rehearsed_problem drawn_problem
categories_asked criteria categories seed = length-listed drawn_category categories

pub rows_asked : (criteria categories rows seed : ℕ) → length (rehearsed_examples criteria categories rows seed) ≡ rows
unfolding rehearsed_examples drawn_examples
rows_asked criteria categories rows seed =
    let problem = rehearsed_problem criteria categories seed in
    let words : List ℕ = words_of (seeded (seed_after seed 2)) (rows * length problem.criteria) in
    length-listed (drawn_example problem (rule_of problem (rehearsed_model criteria categories seed)) words) rows
