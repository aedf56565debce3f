-- Ranks: the distinct grades of the examples on a criterion, in rising preference.
use Rattle.std.specs.Prelude.{ℕ, ◌≡◌, ◌↔◌, ℤ, pos, false, List, [], ◌∷◌, length, map, Contains, AllPairs}
use Rattle.std.specs.Prelude.{slice_index_or, if◌then◌else◌}
use Rattle.std.specs.List.{position_or_len}
use Rattle.sorting_rule.specs.Preference.{Direction, is_as_good}
use Rattle.sorting_rule.specs.Examples.{Example}
use Rattle.encoding_rules.specs.Task.{Task, direction_at}
use Rattle.sorting_rule.specs.Rebuilt.{grade_on}

-- grades in strictly rising preference with one more: before the first that is as good, unless that is the same
abbrev pub put_grade : Direction → ℤ → List ℤ → List ℤ
put_grade d x [] = x ∷ []
put_grade d x (y ∷ ys) =
    if is_as_good d y x then (if is_as_good d x y then y ∷ ys else x ∷ y ∷ ys) else y ∷ put_grade d x ys

-- the distinct ones of some grades, in rising preference
abbrev pub ranking : Direction → List ℤ → List ℤ
ranking d [] = []
ranking d (x ∷ xs) = put_grade d x (ranking d xs)

-- What that says: no grade is as good as a later one, and the grades are the same.
pub record IsRanking (d : Direction) (grades ranked : List ℤ) : Type 0 where
  pub rises : AllPairs (λ x y. is_as_good d x y ≡ false) ranked
  pub same : (x : ℤ) → Contains ranked x ↔ Contains grades x

-- the place of a grade: that of the first that is as good
abbrev pub place_of : Direction → List ℤ → ℤ → ℕ
place_of d ranked x = position_or_len (λ y. is_as_good d y x) ranked

-- the ranked grades of a criterion, and their number
unfoldable pub ranked : Task → ℕ → List ℤ
ranked task i = ranking (direction_at task i) (map (grade_on i) task.examples)

unfoldable pub count_at : Task → ℕ → ℕ
count_at task i = length (ranked task i)

-- the grade of a criterion at a place, and the place of an example's grade
unfoldable pub grade_at : Task → ℕ → ℕ → ℤ
grade_at task i k = slice_index_or (ranked task i) k (pos 0)

unfoldable pub rank : Task → ℕ → Example → ℕ
rank task i e = place_of (direction_at task i) (ranked task i) (grade_on i e)
