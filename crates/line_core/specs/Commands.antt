-- The table of the commands: their words, what their positions take, and their options.
use Rattle.std.specs.Prelude.{ℕ, true, false, List, [], ◌∷◌, Option, None, Some, codes}
use Rattle.line_core.specs.declared.command.Verb.{Verb}
use Rattle.line_core.specs.declared.command.Verb.TheVariants as verb
use Rattle.line_core.specs.declared.number.Quantity.TheVariants.{Criteria, Categories, TableRows, RehearsalRows, Seed}
use Rattle.line_core.specs.declared.options.Offer.{Offer}
use Rattle.line_core.specs.declared.options.OptionName.TheVariants as option
use Rattle.line_core.specs.declared.position.Kind.{Kind}
use Rattle.line_core.specs.declared.position.Kind.TheVariants.{File, Number}

-- all commands
unfoldable pub verbs : List Verb
verbs = verb.Classify ∷ verb.Accuracy ∷ verb.Learn ∷ verb.Encode ∷ verb.CheckRefutation
    ∷ verb.DescribeProblem ∷ verb.DescribeModel ∷ verb.DescribeTable
    ∷ verb.GenerateProblem ∷ verb.GenerateModel ∷ verb.GenerateTable ∷ verb.Rehearse ∷ []

-- the words that a command begins with: one, or two
abbrev pub first_word : Verb → List ℕ
first_word verb.Classify = codes "classify"
first_word verb.Accuracy = codes "classification-accuracy"
first_word verb.Learn = codes "learn"
first_word verb.Encode = codes "encode"
first_word verb.CheckRefutation = codes "check-refutation"
first_word verb.DescribeProblem = codes "describe"
first_word verb.DescribeModel = codes "describe"
first_word verb.DescribeTable = codes "describe"
first_word verb.GenerateProblem = codes "generate"
first_word verb.GenerateModel = codes "generate"
first_word verb.GenerateTable = codes "generate"
first_word verb.Rehearse = codes "rehearse"

abbrev pub second_word : Verb → Option (List ℕ)
second_word verb.Learn = Some (codes "classification-model")
second_word verb.DescribeProblem = Some (codes "problem")
second_word verb.DescribeModel = Some (codes "model")
second_word verb.DescribeTable = Some (codes "alternatives")
second_word verb.GenerateProblem = Some (codes "classification-problem")
second_word verb.GenerateModel = Some (codes "classification-model")
second_word verb.GenerateTable = Some (codes "classified-alternatives")
second_word other = None

-- what the positions of a command take, in order
abbrev pub kinds_of : Verb → List Kind
kinds_of verb.Classify = File ∷ File ∷ File ∷ []
kinds_of verb.Accuracy = File ∷ File ∷ File ∷ []
kinds_of verb.Learn = File ∷ File ∷ []
kinds_of verb.Encode = File ∷ File ∷ []
kinds_of verb.CheckRefutation = File ∷ File ∷ File ∷ []
kinds_of verb.DescribeProblem = File ∷ []
kinds_of verb.DescribeModel = File ∷ File ∷ []
kinds_of verb.DescribeTable = File ∷ File ∷ []
kinds_of verb.GenerateProblem = Number Criteria ∷ Number Categories ∷ []
kinds_of verb.GenerateModel = File ∷ []
kinds_of verb.GenerateTable = File ∷ File ∷ Number TableRows ∷ []
kinds_of verb.Rehearse = Number Criteria ∷ Number Categories ∷ Number RehearsalRows ∷ Number Seed ∷ []

-- the options of a command, and whether each is required
abbrev pub offers_of : Verb → List Offer
offers_of verb.Learn =
    record { name = option.Encoding; required = false } ∷ record { name = option.MaxConflicts; required = false } ∷ []
offers_of verb.Encode = record { name = option.Encoding; required = true } ∷ []
offers_of verb.GenerateProblem = record { name = option.RandomSeed; required = true } ∷ []
offers_of verb.GenerateModel = record { name = option.RandomSeed; required = true } ∷ []
offers_of verb.GenerateTable = record { name = option.RandomSeed; required = true } ∷ []
offers_of other = []
