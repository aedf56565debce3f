-- The options of the command line.
use Rattle.std.specs.Prelude.{ℕ, Bool, true, false, not, ◌||◌, List, Option, None, Some, Result, length, codes, nat_eq}
use Rattle.std.specs.Prelude.{nat_lt, ◌==◌, if◌then◌else◌}
use Rattle.std.specs.List.{starts_with, before_first, after_first, position_or_len, list_all, list_any}
use Rattle.std.specs.Option.{is_some, ok_or, option_map}
use Rattle.std.specs.Str.{bytes_eq}
use Rattle.literals_core.specs.declared.encoding.Encoding.{Encoding}
use Rattle.literals_core.specs.declared.encoding.Encoding.TheVariants.{Coalitions, Separation}
use Rattle.line_core.specs.declared.fault.LineFault.{LineFault}
use Rattle.line_core.specs.declared.fault.LineFault.TheVariants.{BadNumber, BadWord}
use Rattle.line_core.specs.declared.number.Quantity.TheVariants.{Conflicts, Seed}
use Rattle.line_core.specs.declared.options.Offer.{Offer}
use Rattle.line_core.specs.declared.options.OptionName.{OptionName}
use Rattle.line_core.specs.declared.options.OptionName.TheVariants as option
use Rattle.line_core.specs.declared.options.OptionValues.{OptionValues}
use Rattle.line_core.specs.Number.{quantity_in}

-- a word that begins with `--`
abbrev pub is_option : List ℕ → Bool
is_option word = starts_with nat_eq word (codes "--")

-- the code of `=`
abbrev pub is_equals : ℕ → Bool
is_equals byte = byte == 61

-- what comes before the first `=`, or the whole word
abbrev pub name_part : List ℕ → List ℕ
name_part word = before_first is_equals word

-- what follows the first `=`
abbrev pub value_part : List ℕ → Option (List ℕ)
value_part word =
    if nat_lt (position_or_len is_equals word) (length word) then Some (after_first is_equals word) else None

abbrev pub option_named : List ℕ → Option OptionName
option_named name = if bytes_eq name (codes "--encoding") then Some option.Encoding
    else if bytes_eq name (codes "--max-conflicts") then Some option.MaxConflicts
    else if bytes_eq name (codes "--random-seed") then Some option.RandomSeed
    else None

abbrev pub encoding_named : List ℕ → Option Encoding
encoding_named name = if bytes_eq name (codes "coalitions") then Some Coalitions
    else if bytes_eq name (codes "separation") then Some Separation
    else None

abbrev pub is_same : OptionName → OptionName → Bool
is_same option.Encoding option.Encoding = true
is_same option.MaxConflicts option.MaxConflicts = true
is_same option.RandomSeed option.RandomSeed = true
is_same a b = false

-- the option is one of these
abbrev pub is_offered : List Offer → OptionName → Bool
is_offered offers name = list_any (λ offer. is_same offer.name name) offers

-- the option is given
abbrev pub is_given : OptionValues → OptionName → Bool
is_given values option.Encoding = is_some values.encoding
is_given values option.MaxConflicts = is_some values.max_conflicts
is_given values option.RandomSeed = is_some values.random_seed

-- each required option is given
abbrev pub all_given : List Offer → OptionValues → Bool
all_given offers values = list_all (λ offer. not offer.required || is_given values offer.name) offers

-- the values with that of one more option, or the fault of its value, at the option's word
abbrev pub with_value : OptionValues → OptionName → ℕ → List ℕ → Result OptionValues LineFault
with_value values option.Encoding number text =
    ok_or (option_map (λ e. record values { encoding = Some e }) (encoding_named text)) (BadWord number)
with_value values option.MaxConflicts number text =
    ok_or (option_map (λ n. record values { max_conflicts = Some n }) (quantity_in Conflicts text)) (BadNumber number)
with_value values option.RandomSeed number text =
    ok_or (option_map (λ n. record values { random_seed = Some n }) (quantity_in Seed text)) (BadNumber number)
