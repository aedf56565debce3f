-- Ranks, criterion by criterion.
use Rattle.std.proofs.Common.{◌≡◌, ℕ, ◌+◌, ◌<◌, ◌≤◌, ℤ, Some, List, [], ◌∷◌, ◌++◌, length, get_or, map, slice_get, sym, ap, ◌∙◌, subst, arith, add-one}
use Rattle.std.specs.List.{All}
use Rattle.std.proofs.lemmas.List.{get_or-map, length-map}
use Rattle.std.proofs.lemmas.List.Elements.{All-push, All-weaker}
use Rattle.std.proofs.lemmas.Option.{get_or_from_slice_get, slice_get_within}
use Rattle.sorting_rule.specs.Preference.{rising}
use Rattle.sorting_rule.specs.Examples.{Example}
use Rattle.problem_core.specs.Grade.{direction_of}
use Rattle.problem_core.specs.Problem.{ProblemValue}
use Rattle.problem_core.specs.declared.criterion.Criterion.{Criterion}
use Rattle.encoding_rules.specs.Each.{listed}
use Rattle.encoding_rules.specs.Task.{Task, IsTask, criteria, direction_at}
use Rattle.sorting_rule.specs.Rebuilt.{grade_on}
use Rattle.encoding_rules.specs.Ranks.{ranking, place_of, ranked, rank}
use Rattle.encoding_rules.proofs.EachFacts.{length-listed, listed_at}
use Rattle.ranks_core.specs.Ranks.{task_of, RanksValue, AreRanks}

-- the ranks of the criteria before one
pub record RanksSo (task : Task) (i : ℕ) (grades : List (List ℤ)) (places : List (List ℕ)) : Type 0 where
  pub grades_are : grades ≡ listed (ranked task) i
  pub places_are : places ≡ listed (λ k. map (rank task k) task.examples) i
  pub few : All (λ row. length row ≤ 4000000000) grades

module _ (problem : ProblemValue) (examples : List Example) where
  abbrev task : Task
  task = task_of problem examples

  pub direction_is : (i : ℕ) (c : Criterion) → slice_get problem.criteria i ≡ Some c → direction_at task i ≡ direction_of c.scale
  unfolding direction_at
  direction_is i c at = get_or-map (λ (c : Criterion). direction_of c.scale) problem.criteria i c rising (slice_get_within problem.criteria i c at) ∙ ap (λ (c : Criterion). direction_of c.scale) (get_or_from_slice_get problem.criteria i c c at)

  pub wide : IsTask task → (i : ℕ) → i < length problem.criteria → All (λ e. i < length e.grades) examples
  wide is i lt = All-weaker (λ (e : Example). length e.grades ≡ length task.directions) (λ (e : Example). i < length e.grades)
      (λ e same. let size = length-map problem.criteria (λ (c : Criterion). direction_of c.scale) in omega (arith, same, size, lt)) examples is.grades

  pub ranked_is : (i : ℕ) (c : Criterion) (items : List ℤ) → slice_get problem.criteria i ≡ Some c → items ≡ ranking (direction_of c.scale) (map (grade_on i) examples) → items ≡ ranked task i
  unfolding ranked
  ranked_is i c items at e = e ∙ ap (λ d. ranking d (map (grade_on i) examples)) (sym (direction_is i c at))

  pub places_is : (i : ℕ) (c : Criterion) (items : List ℤ) (places : List ℕ) → slice_get problem.criteria i ≡ Some c → items ≡ ranked task i
      → places ≡ map (λ e. place_of (direction_of c.scale) items (grade_on i e)) examples → places ≡ map (rank task i) examples
  unfolding rank
  places_is i c items places at is e = e ∙ ap (λ d. map (λ e. place_of d items (grade_on i e)) examples) (sym (direction_is i c at)) ∙ ap (λ ys. map (λ e. place_of (direction_at task i) ys (grade_on i e)) examples) is

  pub ranks_more : (i : ℕ) (grades next_grades : List (List ℤ)) (places next_places : List (List ℕ)) (g : List ℤ) (p : List ℕ) → RanksSo task i grades places
      → g ≡ ranked task i → p ≡ map (rank task i) examples → length g ≤ 4000000000 → next_grades ≡ grades ++ g ∷ [] → next_places ≡ places ++ p ∷ [] → RanksSo task (i + 1) next_grades next_places
  ranks_more i grades next_grades places next_places g p so is_g is_p few e f = record {
    grades_are = e ∙ ap (λ xs. xs ++ g ∷ []) so.grades_are ∙ ap (λ x. listed (ranked task) i ++ x ∷ []) is_g ∙ ap (listed (ranked task)) (sym (add-one i));
    places_are = f ∙ ap (λ xs. xs ++ p ∷ []) so.places_are ∙ ap (λ x. listed (λ k. map (rank task k) examples) i ++ x ∷ []) is_p ∙ ap (listed (λ k. map (rank task k) examples)) (sym (add-one i));
    few = subst (All (λ row. length row ≤ 4000000000)) (sym e) (All-push (λ (row : List ℤ). length row ≤ 4000000000) grades g so.few few);
  }

-- how many ranks there are
module _ (task : Task) (r : RanksValue) (are : AreRanks task r) where
  pub grades_many : length r.grades ≡ criteria task
  grades_many = ap length are.grades_are ∙ length-listed (ranked task) (criteria task)

  pub places_many : length r.places ≡ criteria task
  places_many = ap length are.places_are ∙ length-listed (λ k. map (rank task k) task.examples) (criteria task)

  pub place_is : (i : ℕ) → i < criteria task → get_or r.places i [] ≡ map (rank task i) task.examples
  place_is i lt = ap (λ xs. get_or xs i []) are.places_are ∙ listed_at (λ k. map (rank task k) task.examples) (criteria task) i [] lt

  pub place_wide : (i : ℕ) → i < criteria task → length (get_or r.places i []) ≡ length task.examples
  place_wide i lt = ap length (place_is i lt) ∙ length-map task.examples (rank task i)

-- of a problem's examples on its first criterion
pub record HasFirst (examples : List Example) (r : RanksValue) : Type 0 where
  pub graded : 0 < length r.grades
  pub placed : 0 < length r.places
  pub wide : length (get_or r.places 0 []) ≡ length examples

pub has_first : (problem : ProblemValue) (examples : List Example) (r : RanksValue) → AreRanks (task_of problem examples) r → 0 < length problem.criteria → HasFirst examples r
unfolding criteria
has_first problem examples r are some =
    let task : Task = task_of problem examples in
    let many = length-map problem.criteria (λ (c : Criterion). direction_of c.scale) in
    let g = grades_many task r are in
    let p = places_many task r are in
    record { graded = omega (arith, g, many, some); placed = omega (arith, p, many, some); wide = place_wide task r are 0 (omega (arith, many, some)) }
