-- The walk over the words of a command, from left to right: the first fault is the line's.
use Rattle.std.specs.Prelude.{ℕ, ◌+◌, ◌-◌, not, ◌||◌, nat_lt, List, [], ◌∷◌, length, Option, None, Some, Result, Ok}
use Rattle.std.specs.Prelude.{Err, slice_get, if◌then◌else◌}
use Rattle.std.specs.Option.{is_some}
use Rattle.lists_core.specs.Answers.{◌>>=◌}
use Rattle.line_core.specs.declared.fault.LineFault.{LineFault}
use Rattle.line_core.specs.declared.fault.LineFault.TheVariants.{UnknownOption, Twice, Missing, Extra, BadNumber}
use Rattle.line_core.specs.declared.options.Offer.{Offer}
use Rattle.line_core.specs.declared.options.OptionName.{OptionName}
use Rattle.line_core.specs.declared.options.OptionValues.{OptionValues}
use Rattle.line_core.specs.declared.position.Kind.{Kind}
use Rattle.line_core.specs.declared.walk.Progress.{Progress}
use Rattle.line_core.specs.Options.{is_option, name_part, value_part, option_named, is_offered, is_given, all_given}
use Rattle.line_core.specs.Options.{with_value}
use Rattle.line_core.specs.Position.{fits}

-- the text is the value of this option, whose word has this number
abbrev pub stored : Progress → OptionName → ℕ → List ℕ → Result Progress LineFault
stored progress name number text =
    with_value progress.values name number text >>= λ values. Ok
    (record { filled = progress.filled; values = values; awaited = None })

-- the value of an option follows its `=`, or is the next word
abbrev pub valued : Progress → OptionName → ℕ → Option (List ℕ) → Result Progress LineFault
valued progress name number (Some value) = stored progress name number value
valued progress name number None = Ok (record progress { awaited = Some name })

-- an option of this name: it has to be one of the command's, and is given once
abbrev pub named : List Offer → Progress → ℕ → List ℕ → Option OptionName → Result Progress LineFault
named offers progress number word None = Err (UnknownOption number)
named offers progress number word (Some name) = if not (is_offered offers name) then Err (UnknownOption number)
    else if is_given progress.values name then Err (Twice number)
    else valued progress name number (value_part word)

abbrev pub option_step : List Offer → Progress → ℕ → List ℕ → Result Progress LineFault
option_step offers progress number word = named offers progress number word (option_named (name_part word))

-- the word at the next position
abbrev pub positioned : Progress → ℕ → List ℕ → Option Kind → Result Progress LineFault
positioned progress number word None = Err (Extra number)
positioned progress number word (Some kind) =
    if fits kind word then Ok (record progress { filled = progress.filled + 1 }) else Err (BadNumber number)

abbrev pub position_step : List Kind → Progress → ℕ → List ℕ → Result Progress LineFault
position_step kinds progress number word = positioned progress number word (slice_get kinds progress.filled)

-- one word, of this number
abbrev pub step_after : Option OptionName → List Kind → List Offer → Progress → ℕ → List ℕ → Result Progress LineFault
step_after (Some name) kinds offers progress number word = stored progress name (number - 1) word
step_after None kinds offers progress number word =
    if is_option word then option_step offers progress number word else position_step kinds progress number word

abbrev pub step : List Kind → List Offer → Progress → ℕ → List ℕ → Result Progress LineFault
step kinds offers progress number word = step_after progress.awaited kinds offers progress number word

-- the end of the words: a missing value is a fault of its option's word, else what is missing is one of the
-- next word's number
abbrev pub ended : List Kind → List Offer → Progress → ℕ → Result OptionValues LineFault
ended kinds offers progress number = if is_some progress.awaited then Err (Missing (number - 1))
    else if nat_lt progress.filled (length kinds) || not (all_given offers progress.values) then Err (Missing number)
    else Ok progress.values

-- the values of the options, or the first fault of the words, of which the first has this number
abbrev pub walk : List Kind → List Offer → Progress → ℕ → List (List ℕ) → Result OptionValues LineFault
walk kinds offers progress number [] = ended kinds offers progress number
walk kinds offers progress number (word ∷ words) =
    step kinds offers progress number word >>= λ next. walk kinds offers next (number + 1) words
