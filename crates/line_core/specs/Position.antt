-- The positions of the command line: the words that are no options, nor values of options.
use Rattle.std.specs.Prelude.{ℕ, ◌-◌, ◌==◌, Bool, true, false, not, List, [], ◌∷◌, unwrap_or, if◌then◌else◌}
use Rattle.std.specs.Option.{is_some}
use Rattle.line_core.specs.declared.number.Quantity.{Quantity}
use Rattle.line_core.specs.declared.position.Kind.{Kind}
use Rattle.line_core.specs.declared.position.Kind.TheVariants.{File, Number}
use Rattle.line_core.specs.Number.{quantity_in}
use Rattle.line_core.specs.Options.{is_option, value_part}

-- the word is of this kind
abbrev pub fits : Kind → List ℕ → Bool
fits File word = true
fits (Number quantity) word = is_some (quantity_in quantity word)

-- the word at this place of the positions, from 0; the first word may be the value of an option
abbrev pub position : List (List ℕ) → Bool → ℕ → List ℕ
position [] is_value place = []
position (word ∷ words) is_value place = if is_value then position words false place
    else if is_option word then position words (not (is_some (value_part word))) place
    else if place == 0 then word
    else position words false (place - 1)

-- the file's name at this place
abbrev pub name_at : List (List ℕ) → ℕ → List ℕ
name_at words place = position words false place

-- the number at this place; a line without a fault has one there
abbrev pub number_at : Quantity → List (List ℕ) → ℕ → ℕ
number_at quantity words place = unwrap_or (quantity_in quantity (name_at words place)) 0
