-- The grades of a scale that can be drawn. They are numbered, the better ones higher.
use Rattle.std.specs.Prelude.{ℕ, ◌*◌, ◌/◌, ◌^◌, if◌then◌else◌, ℤ, pos, neg_ℤ, ◌+ℤ◌, unsigned_abs, List, [], length}
use Rattle.std.specs.Prelude.{slice_index_or}
use Rattle.problem_core.specs.declared.criterion.Bounds.{Bounds}
use Rattle.problem_core.specs.declared.criterion.Criterion.{Criterion}
use Rattle.problem_core.specs.declared.criterion.Scale.{Scale}
use Rattle.problem_core.specs.declared.criterion.Scale.TheVariants.{Rising, Falling, Named}

-- how far a number is from the next one of its scale, in units of 10^-18
abbrev pub gap_of : Bounds → ℕ
gap_of bounds = if bounds.whole then 10 ^ 18 else 1

-- how many gaps there are between the least number and the greatest
abbrev pub gaps_in : Bounds → ℕ
gaps_in bounds = unsigned_abs (bounds.most +ℤ neg_ℤ bounds.least) / gap_of bounds

-- so many thousandths of the way from the one end to the other, rounded down to a number of the scale
abbrev pub distance : Bounds → ℕ → ℕ
distance bounds c = gap_of bounds * (gaps_in bounds * c / 1000)

-- how many choices a scale has: the thousandths from 0 to 1000, or its names
abbrev pub choice_count : Scale → ℕ
choice_count (Rising bounds) = 1001
choice_count (Falling bounds) = 1001
choice_count (Named names) = length names

-- the grade of a choice: so far from the worst end, or the place of the name
abbrev pub chosen : Scale → ℕ → ℤ
chosen (Rising bounds) c = bounds.least +ℤ pos (distance bounds c)
chosen (Falling bounds) c = bounds.most +ℤ neg_ℤ (pos (distance bounds c))
chosen (Named names) c = pos c

-- the criterion past the last
abbrev pub no_criterion : Criterion
no_criterion = record { name = []; scale = Named [] }

-- the scale of the criterion at a place
abbrev pub scale_at : List Criterion → ℕ → Scale
scale_at criteria i = (slice_index_or criteria i no_criterion).scale
