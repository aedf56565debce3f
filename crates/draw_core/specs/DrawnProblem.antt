-- The problem that words draw: one word for each criterion.
use Rattle.std.specs.Prelude.{ℕ, ◌+◌, ◌^◌, ◌==◌, if◌then◌else◌, true, false, pos, List, ◌++◌, codes, decimal}
use Rattle.problem_core.specs.Problem.{ProblemValue}
use Rattle.problem_core.specs.declared.criterion.Bounds.{Bounds}
use Rattle.problem_core.specs.declared.criterion.Criterion.{Criterion}
use Rattle.problem_core.specs.declared.criterion.Scale.{Scale}
use Rattle.problem_core.specs.declared.criterion.Scale.TheVariants.{Rising, Falling, Named}
use Rattle.encoding_rules.specs.Each.{listed}
use Rattle.draw_core.specs.Words.{number_at}

-- a text that ends with a number
abbrev pub numbered : List ℕ → ℕ → List ℕ
numbered text number = text ++ decimal number

-- all numbers from 0 to 1
abbrev pub zero_to_one : Bounds
zero_to_one = record { least = pos 0; most = pos (10 ^ 18); whole = false }

-- whole numbers from 0 to 100
abbrev pub zero_to_hundred : Bounds
zero_to_hundred = record { least = pos 0; most = pos (10 ^ 20); whole = true }

-- one of four scales; the last has the names v0 to v4
abbrev pub drawn_scale : ℕ → Scale
drawn_scale kind =
    if kind == 0 then Rising zero_to_one
    else (if kind == 1 then Falling zero_to_one
    else (if kind == 2 then Rising zero_to_hundred
    else Named (listed (λ k. numbered (codes "v") (k + 0)) 5)))

-- the criterion at a place; names count from 1
abbrev pub drawn_criterion : List ℕ → ℕ → Criterion
drawn_criterion words i =
    record { name = numbered (codes "Criterion ") (i + 1); scale = drawn_scale (number_at words i 4) }

-- the category at a place
abbrev pub drawn_category : ℕ → List ℕ
drawn_category j = numbered (codes "Category ") (j + 1)

-- so many criteria and categories
unfoldable pub drawn_problem : ℕ → ℕ → List ℕ → ProblemValue
drawn_problem criteria categories words =
    record { criteria = listed (drawn_criterion words) criteria; categories = listed drawn_category categories }
