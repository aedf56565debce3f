-- The job of the words after the program's name, or their first fault.
use Rattle.std.specs.Prelude.{ℕ, Bool, true, false, ◌&&◌, List, [], ◌∷◌, Option, None, Some, Result, Ok, Err, unwrap_or}
use Rattle.std.specs.Prelude.{find, if◌then◌else◌}
use Rattle.std.specs.List.{list_any}
use Rattle.std.specs.Option.{is_some}
use Rattle.std.specs.Str.{bytes_eq}
use Rattle.literals_core.specs.declared.encoding.Encoding.TheVariants.{Separation}
use Rattle.lists_core.specs.Answers.{◌>>=◌}
use Rattle.line_core.specs.declared.command.Verb.{Verb}
use Rattle.line_core.specs.declared.command.Verb.TheVariants as verb
use Rattle.line_core.specs.declared.fault.LineFault.{LineFault}
use Rattle.line_core.specs.declared.fault.LineFault.TheVariants.{NoCommand, UnknownCommand}
use Rattle.line_core.specs.declared.number.Quantity.TheVariants.{Criteria, Categories, TableRows, RehearsalRows, Seed}
use Rattle.line_core.specs.declared.options.OptionValues.{OptionValues}
use Rattle.line_core.specs.declared.walk.Progress.{Progress}
use Rattle.line_core.specs.Command.{Command, classifying, rating, learning, encoding, checking, describing_problem}
use Rattle.line_core.specs.Command.{describing_model, describing_table, generating_problem, generating_model}
use Rattle.line_core.specs.Command.{generating_table, rehearsing}
use Rattle.line_core.specs.Commands.{verbs, first_word, second_word, kinds_of, offers_of}
use Rattle.line_core.specs.Position.{name_at, number_at}
use Rattle.line_core.specs.Walk.{walk}

-- the words begin with a command's second word, if it has one
abbrev pub follows : Option (List ℕ) → List (List ℕ) → Bool
follows None words = true
follows (Some second) [] = false
follows (Some second) (word ∷ words) = bytes_eq word second

-- the words begin with those of a command
abbrev pub begins : Verb → List (List ℕ) → Bool
begins verb [] = false
begins verb (first ∷ more) = bytes_eq first (first_word verb) && follows (second_word verb) more

-- the command whose words these begin with
abbrev pub verb_in : List Verb → List (List ℕ) → Option Verb
verb_in verbs words = find (λ verb. begins verb words) verbs

-- some command begins with this word
abbrev pub begins_some : List Verb → List ℕ → Bool
begins_some verbs word = list_any (λ verb. bytes_eq (first_word verb) word) verbs

-- the command of a verb, of the values of its options, and of the words after its own
abbrev pub command_from : Verb → OptionValues → List (List ℕ) → Command
command_from verb.Classify values words = classifying (name_at words 0) (name_at words 1) (name_at words 2)
command_from verb.Accuracy values words = rating (name_at words 0) (name_at words 1) (name_at words 2)
command_from verb.Learn values words =
    learning (name_at words 0) (name_at words 1) (unwrap_or values.encoding Separation)
    (unwrap_or values.max_conflicts 100000)
command_from verb.Encode values words =
    encoding (name_at words 0) (name_at words 1) (unwrap_or values.encoding Separation)
command_from verb.CheckRefutation values words = checking (name_at words 0) (name_at words 1) (name_at words 2)
command_from verb.DescribeProblem values words = describing_problem (name_at words 0)
command_from verb.DescribeModel values words = describing_model (name_at words 0) (name_at words 1)
command_from verb.DescribeTable values words = describing_table (name_at words 0) (name_at words 1)
command_from verb.GenerateProblem values words =
    generating_problem (number_at Criteria words 0) (number_at Categories words 1) (unwrap_or values.random_seed 0)
command_from verb.GenerateModel values words = generating_model (name_at words 0) (unwrap_or values.random_seed 0)
command_from verb.GenerateTable values words =
    generating_table (name_at words 0) (name_at words 1) (number_at TableRows words 2) (unwrap_or values.random_seed 0)
command_from verb.Rehearse values words =
    rehearsing (number_at Criteria words 0) (number_at Categories words 1) (number_at RehearsalRows words 2)
    (number_at Seed words 3)

-- no position is filled, and no option is given
abbrev pub begun : Progress
begun =
    record { filled = 0; values = record { encoding = None; max_conflicts = None; random_seed = None }; awaited = None }

-- the words after a command's own, of which the first has this number
abbrev pub rest_gives : Verb → ℕ → List (List ℕ) → Result Command LineFault
rest_gives verb number words =
    walk (kinds_of verb) (offers_of verb) begun number words >>= λ values. Ok (command_from verb values words)

abbrev pub after_second : Verb → List (List ℕ) → Result Command LineFault
after_second verb [] = Err (UnknownCommand 2)
after_second verb (second ∷ words) = rest_gives verb 3 words

-- the words after a command's first
abbrev pub after_first : Verb → List (List ℕ) → Result Command LineFault
after_first verb words = if is_some (second_word verb) then after_second verb words else rest_gives verb 2 words

-- the words begin with a command; else the second word is unknown if some command begins with the first
abbrev pub command_gives : Option Verb → List ℕ → List (List ℕ) → Result Command LineFault
command_gives (Some verb) first more = after_first verb more
command_gives None first more = if begins_some verbs first then Err (UnknownCommand 2) else Err (UnknownCommand 1)

abbrev pub line_gives : List (List ℕ) → Result Command LineFault
line_gives [] = Err (NoCommand 1)
line_gives (first ∷ more) = command_gives (verb_in verbs (first ∷ more)) first more
