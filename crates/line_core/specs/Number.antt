-- Numbers of the command line, and their ranges.
use Rattle.std.specs.Prelude.{ℕ, Bool, List, Option, None, Some, length, nat_le, nat_lt, ◌&&◌, if◌then◌else◌}
use Rattle.std.specs.List.{list_all}
use Rattle.std.specs.Char.{is_ascii_digit}
use Rattle.std.specs.Str.Parse.{digits_value}
use Rattle.line_core.specs.declared.number.Quantity.{Quantity}
use Rattle.line_core.specs.declared.number.Quantity.TheVariants as quantity

-- the least and the greatest number of each range
abbrev pub least_of : Quantity → ℕ
least_of quantity.Criteria = 1
least_of quantity.Categories = 2
least_of quantity.TableRows = 0
least_of quantity.RehearsalRows = 0
least_of quantity.Conflicts = 1
least_of quantity.Seed = 0

abbrev pub most_of : Quantity → ℕ
most_of quantity.Criteria = 16
most_of quantity.Categories = 10
most_of quantity.TableRows = 100000
most_of quantity.RehearsalRows = 10000
most_of quantity.Conflicts = 1000000
most_of quantity.Seed = 18446744073709551615

-- one ASCII digit or more
abbrev pub is_number : List ℕ → Bool
is_number text = nat_lt 0 (length text) && list_all is_ascii_digit text

-- the number that a text writes, if it is in this range
abbrev pub number_in : ℕ → ℕ → List ℕ → Option ℕ
number_in least most text =
    if is_number text && (nat_le least (digits_value 10 text) && nat_le (digits_value 10 text) most)
    then Some (digits_value 10 text)
    else None

abbrev pub quantity_in : Quantity → List ℕ → Option ℕ
quantity_in which text = number_in (least_of which) (most_of which) text
