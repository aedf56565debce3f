-- The numbers of a line without a fault are in their ranges.
use Rattle.std.proofs.Common.{◌≡◌, ◌⊎◌, ◌≤◌, ◌<◌, ◌^◌, ◌+◌, ◌-◌, ◌==◌, ℕ, zero, suc, Bool, true, false, not, ◌&&◌, ◌||◌, List, [], ◌∷◌, Option, Some, None, IfSome, Ok, Err, is_some, unwrap_or, nat_lt, nat_le, length, inl, inr, refl, sym, ap, ◌∙◌, subst, arith, if◌then◌else◌, add-zero, sub-one}
use Rattle.std.specs.List.{slice_get}
use Rattle.std.specs.Option.{ok_or, option_map}
use Rattle.std.proofs.lemmas.Bool.{leb-true, lt-ltb}
use Rattle.std.proofs.lemmas.Grind.{common_steps}
use Rattle.std.proofs.lemmas.Option.{slice_get_within}
use Rattle.std.specs.Str.Parse.{digits_value}
use Rattle.lists_core.proofs.AnswerLemmas.{accepted_bind}
use Rattle.line_core.specs.declared.command.Verb.{Verb}
use Rattle.line_core.specs.declared.command.Verb.TheVariants as verb
use Rattle.line_core.specs.declared.fault.LineFault.{LineFault}
use Rattle.line_core.specs.declared.fault.LineFault.TheVariants as fault
use Rattle.line_core.specs.declared.number.Quantity.{Quantity}
use Rattle.line_core.specs.declared.number.Quantity.TheVariants.{Criteria, Categories, TableRows, RehearsalRows, Conflicts, Seed}
use Rattle.line_core.specs.declared.options.Offer.{Offer}
use Rattle.line_core.specs.declared.options.OptionName.{OptionName}
use Rattle.line_core.specs.declared.options.OptionName.TheVariants as option
use Rattle.line_core.specs.declared.options.OptionValues.{OptionValues}
use Rattle.line_core.specs.declared.position.Kind.{Kind}
use Rattle.line_core.specs.declared.position.Kind.TheVariants.{Number}
use Rattle.line_core.specs.declared.walk.Progress.{Progress}
use Rattle.line_core.specs.Command.{Command, HasItsRanges}
use Rattle.line_core.specs.Commands.{verbs, kinds_of, offers_of, second_word}
use Rattle.line_core.specs.Line.{verb_in, begins_some, command_from, begun, rest_gives, after_second, after_first, command_gives, line_gives}
use Rattle.line_core.specs.Number.{least_of, most_of, is_number, quantity_in}
use Rattle.line_core.specs.Options.{is_option, name_part, value_part, option_named, encoding_named, is_offered, is_given, all_given, with_value}
use Rattle.line_core.specs.Position.{fits, position}
use Rattle.line_core.specs.Walk.{stored, valued, named, option_step, positioned, position_step, step_after, step, walk}

-- the words after a verb's give a command of this verb, from the values of its options
rest_given : (verb : Verb) (number : ℕ) (words : List (List ℕ)) (command : Command) → rest_gives verb number words ≡ Ok command
    → (values : OptionValues) × (walk (kinds_of verb) (offers_of verb) begun number words ≡ Ok values) × (command_from verb values words ≡ command)
rest_given verb number words command is =
    let read = accepted_bind (walk (kinds_of verb) (offers_of verb) begun number words) (λ values. Ok (command_from verb values words)) command is in
    (read.0, read.1, cc (read.2))

-- a number that is read is in its range
read_within : (digits above below : Bool) (least most value : ℕ) → (above ≡ true → least ≤ value) → (below ≡ true → value ≤ most)
    → is_some (if digits && (above && below) then Some value else None) ≡ true
    → (least ≤ unwrap_or (if digits && (above && below) then Some value else None) 0) × (unwrap_or (if digits && (above && below) then Some value else None) 0 ≤ most)
read_within true true true least most value a b is = (a refl, b refl)
read_within false above below least most value a b is = absurd cc
read_within true false below least most value a b is = absurd cc
read_within true true false least most value a b is = absurd cc

pub quantity_within : (quantity : Quantity) (text : List ℕ) → is_some (quantity_in quantity text) ≡ true
    → (least_of quantity ≤ unwrap_or (quantity_in quantity text) 0) × (unwrap_or (quantity_in quantity text) 0 ≤ most_of quantity)
quantity_within quantity text is =
    let value : ℕ = digits_value 10 text in
    read_within (is_number text) (nat_le (least_of quantity) value) (nat_le value (most_of quantity)) (least_of quantity) (most_of quantity) value
    (leb-true (least_of quantity) value) (leb-true value (most_of quantity)) is

-- the values of the options are in their ranges
pub record InRange (values : OptionValues) : Type 0 where
  pub conflicts : IfSome values.max_conflicts (λ most. (1 ≤ most) × (most ≤ 1000000))
  pub seed : IfSome values.random_seed (λ seed. seed < 2 ^ 64)

-- a value that is there is the one that is read
some_read : {A B : Type 0} (make : A → B) (read : Option A) (fault : LineFault) (made : B) → ok_or (option_map make read) fault ≡ Ok made → (value : A) × (read ≡ Some value) × (make value ≡ made)
some_read make (Some value) fault made is = (value, refl, cc)
some_read make None fault made is = absurd cc

with_value-InRange : (values : OptionValues) (name : OptionName) (number : ℕ) (text : List ℕ) (made : OptionValues) → with_value values name number text ≡ Ok made → InRange values → InRange made
with_value-InRange values option.Encoding number text made is good =
    let read = some_read _ (encoding_named text) _ made is in subst InRange read.2 (record { conflicts = good.conflicts; seed = good.seed })
with_value-InRange values option.MaxConflicts number text made is good =
    let read = some_read _ (quantity_in Conflicts text) _ made is in
    let within = quantity_within Conflicts text (ap is_some read.1) in
    let value : unwrap_or (quantity_in Conflicts text) 0 ≡ read.0 = ap (λ o. unwrap_or o 0) read.1 in
    subst InRange read.2 (record { conflicts = (omega (arith, within.0, value), omega (arith, within.1, value)); seed = good.seed })
with_value-InRange values option.RandomSeed number text made is good =
    let read = some_read _ (quantity_in Seed text) _ made is in
    let within = quantity_within Seed text (ap is_some read.1) in
    let value : unwrap_or (quantity_in Seed text) 0 ≡ read.0 = ap (λ o. unwrap_or o 0) read.1 in
    subst InRange read.2 (record { conflicts = good.conflicts; seed = omega (arith, within.1, value) })

-- what a word makes of the progress: it fills a position, or it fills none
pub record Skips (value : Bool) (word : List ℕ) (progress next : Progress) : Type 0 where
  pub filled : next.filled ≡ progress.filled
  pub position : (words : List (List ℕ)) (place : ℕ) → position (word ∷ words) value place ≡ position words (is_some next.awaited) place

pub record Fills (kinds : List Kind) (value : Bool) (word : List ℕ) (progress next : Progress) : Type 0 where
  pub first : value ≡ false
  pub plain : is_option word ≡ false
  pub filled : next.filled ≡ progress.filled + 1
  pub awaited : is_some next.awaited ≡ false
  pub kind : Kind
  pub there : slice_get kinds progress.filled ≡ Some kind
  pub fits : fits kind word ≡ true

pub record Steps (kinds : List Kind) (value : Bool) (word : List ℕ) (progress next : Progress) : Type 0 where
  pub in_range : InRange progress.values → InRange next.values
  pub place : Skips value word progress next ⊎ Fills kinds value word progress next

-- a value is stored
stored_steps : (progress : Progress) (name : OptionName) (number : ℕ) (text : List ℕ) (next : Progress) → stored progress name number text ≡ Ok next
    → (InRange progress.values → InRange next.values) × (next.filled ≡ progress.filled) × (next.awaited ≡ None)
stored_steps progress name number text next is =
    let read = accepted_bind (with_value progress.values name number text) (λ values. Ok (record { filled = progress.filled; values = values; awaited = None })) next is in
    let made : record { filled = progress.filled; values = read.0; awaited = None } ≡ next = cc (read.2) in (
      λ good. subst InRange (ap (λ (p : Progress). p.values) made) (with_value-InRange progress.values name number text read.0 read.1 good),
      sym (ap (λ (p : Progress). p.filled) made),
      sym (ap (λ (p : Progress). p.awaited) made),
    )

module _ (kinds : List Kind) (offers : List Offer) (number : ℕ) (word : List ℕ) where
  option_skips : (value : Option (List ℕ)) (next : Progress) (progress : Progress) → is_option word ≡ true → value_part word ≡ value → is_some next.awaited ≡ not (is_some value) → next.filled ≡ progress.filled → Skips false word progress next
  option_skips value next progress option part awaited filled = record {
    filled = filled;
    position = λ words place. rw (option, part, awaited) refl;
  }

  valued_steps : (progress : Progress) (name : OptionName) (value : Option (List ℕ)) (next : Progress) → is_option word ≡ true → value_part word ≡ value → valued progress name number value ≡ Ok next → Steps kinds false word progress next
  valued_steps progress name (Some value) next option part is =
      let stores = stored_steps progress name number value next is in
      record { in_range = stores.0; place = inl (option_skips (Some value) next progress option part (ap is_some stores.2) stores.1) }
  valued_steps progress name None next option part is =
      let made : record progress { awaited = Some name } ≡ next = cc in
      record {
        in_range = λ good. subst InRange (ap (λ (p : Progress). p.values) made) good;
        place = inl (option_skips None next progress option part (ap is_some (sym (ap (λ (p : Progress). p.awaited) made))) (sym (ap (λ (p : Progress). p.filled) made)));
      }

  offered_steps : (offered given : Bool) (progress : Progress) (name : OptionName) (next : Progress) → is_option word ≡ true
      → (if not offered then Err (fault.UnknownOption number) else if given then Err (fault.Twice number) else valued progress name number (value_part word)) ≡ Ok next
      → Steps kinds false word progress next
  offered_steps true false progress name next option is = valued_steps progress name (value_part word) next option refl is
  offered_steps true true progress name next option is = absurd cc
  offered_steps false given progress name next option is = absurd cc

  named_steps : (progress : Progress) (name : Option OptionName) (next : Progress) → is_option word ≡ true → named offers progress number word name ≡ Ok next → Steps kinds false word progress next
  named_steps progress None next option is = absurd cc
  named_steps progress (Some name) next option is = offered_steps (is_offered offers name) (is_given progress.values name) progress name next option is

  fitted_steps : (good : Bool) (progress : Progress) (kind : Kind) (next : Progress) → progress.awaited ≡ None → is_option word ≡ false → slice_get kinds progress.filled ≡ Some kind → fits kind word ≡ good
      → (if good then Ok (record progress { filled = progress.filled + 1 }) else Err (fault.BadNumber number)) ≡ Ok next → Steps kinds false word progress next
  fitted_steps true progress kind next none plain there fits is =
      let made : record progress { filled = progress.filled + 1 } ≡ next = cc in
      record {
        in_range = λ good. subst InRange (ap (λ (p : Progress). p.values) made) good;
        place = inr (record {
          first = refl;
          plain = plain;
          filled = sym (ap (λ (p : Progress). p.filled) made);
          awaited = ap is_some (sym (ap (λ (p : Progress). p.awaited) made) ∙ none);
          kind = kind;
          there = there;
          fits = fits;
        });
      }
  fitted_steps false progress kind next none plain there fits is = absurd cc

  positioned_steps : (progress : Progress) (kind : Option Kind) (next : Progress) → progress.awaited ≡ None → is_option word ≡ false → slice_get kinds progress.filled ≡ kind
      → positioned progress number word kind ≡ Ok next → Steps kinds false word progress next
  positioned_steps progress None next none plain there is = absurd cc
  positioned_steps progress (Some kind) next none plain there is = fitted_steps (fits kind word) progress kind next none plain there refl is

  plain_steps : (option : Bool) (progress : Progress) (next : Progress) → progress.awaited ≡ None → is_option word ≡ option
      → (if option then option_step offers progress number word else position_step kinds progress number word) ≡ Ok next → Steps kinds false word progress next
  plain_steps true progress next none option is = named_steps progress (option_named (name_part word)) next option is
  plain_steps false progress next none plain is = positioned_steps progress (slice_get kinds progress.filled) next none plain refl is

  step_steps : (awaited : Option OptionName) (progress : Progress) (next : Progress) → progress.awaited ≡ awaited → step_after awaited kinds offers progress number word ≡ Ok next
      → Steps kinds (is_some awaited) word progress next
  step_steps (Some name) progress next e is =
      let stores = stored_steps progress name (number - 1) word next is in
      record {
        in_range = stores.0;
        place = inl (record { filled = stores.1; position = λ words place. rw (ap is_some stores.2) refl });
      }
  step_steps None progress next e is = plain_steps (is_option word) progress next e refl is

-- at the end no position is empty
not_short : (awaits short missing : Bool) (first second : LineFault) (values made : OptionValues) → (if awaits then Err first else if short || missing then Err second else Ok values) ≡ Ok made → (short ≡ false) × (values ≡ made)
not_short true short missing first second values made is = absurd cc
not_short false true missing first second values made is = absurd cc
not_short false false true first second values made is = absurd cc
not_short false false false first second values made is = (refl, cc)

-- at each position of a line without a fault there is a word of its kind
pub record Walked (kinds : List Kind) (progress : Progress) (words : List (List ℕ)) (values : OptionValues) : Type 0 where
  pub in_range : InRange progress.values → InRange values
  pub fits : (place : ℕ) (kind : Kind) → slice_get kinds (progress.filled + place) ≡ Some kind → fits kind (position words (is_some progress.awaited) place) ≡ true

is_not_first : (place : ℕ) → (suc place == 0) ≡ false
is_not_first place = grind (arith, common_steps)

walked_on : (kinds : List Kind) (progress next : Progress) (word : List ℕ) (words : List (List ℕ)) (values : OptionValues) → Skips (is_some progress.awaited) word progress next → Walked kinds next words values
    → (place : ℕ) (kind : Kind) → slice_get kinds (progress.filled + place) ≡ Some kind → fits kind (position (word ∷ words) (is_some progress.awaited) place) ≡ true
walked_on kinds progress next word words values skips rest place kind there =
    ap (fits kind) (skips.position words place) ∙ rest.fits place kind (ap (λ n. slice_get kinds (n + place)) skips.filled ∙ there)

walked_in : (kinds : List Kind) (progress next : Progress) (word : List ℕ) (words : List (List ℕ)) (values : OptionValues) → Fills kinds (is_some progress.awaited) word progress next → Walked kinds next words values
    → (place : ℕ) (kind : Kind) → slice_get kinds (progress.filled + place) ≡ Some kind → fits kind (position (word ∷ words) (is_some progress.awaited) place) ≡ true
walked_in kinds progress next word words values fills rest zero kind there =
    let same : kind ≡ fills.kind = cc (ap (λ n. slice_get kinds n) (add-zero progress.filled)) in
    rw (fills.first, fills.plain, same) fills.fits
walked_in kinds progress next word words values fills rest (suc place) kind there =
    let shifted : progress.filled + suc place ≡ next.filled + place = omega (arith, fills.filled) in
    let later = rest.fits place kind (sym (ap (λ n. slice_get kinds n) shifted) ∙ there) in
    rw (fills.first, fills.plain, is_not_first place, sub-one) (rw fills.awaited at later)

walked : (kinds : List Kind) (progress next : Progress) (word : List ℕ) (words : List (List ℕ)) (values : OptionValues) → Steps kinds (is_some progress.awaited) word progress next → Walked kinds next words values
    → Skips (is_some progress.awaited) word progress next ⊎ Fills kinds (is_some progress.awaited) word progress next → Walked kinds progress (word ∷ words) values
walked kinds progress next word words values steps rest (inl skips) = record {
  in_range = λ good. rest.in_range (steps.in_range good);
  fits = walked_on kinds progress next word words values skips rest;
}
walked kinds progress next word words values steps rest (inr fills) = record {
  in_range = λ good. rest.in_range (steps.in_range good);
  fits = walked_in kinds progress next word words values fills rest;
}

pub walk_walked : (kinds : List Kind) (offers : List Offer) (progress : Progress) (number : ℕ) (words : List (List ℕ)) (values : OptionValues) → walk kinds offers progress number words ≡ Ok values → Walked kinds progress words values
walk_walked kinds offers progress number [] values is =
    let full = not_short (is_some progress.awaited) (nat_lt progress.filled (length kinds)) (not (all_given offers progress.values)) _ _ progress.values values is in
    record {
      in_range = λ good. subst InRange full.1 good;
      fits = λ place kind there.
          let within = slice_get_within kinds (progress.filled + place) kind there in
          let short : nat_lt progress.filled (length kinds) ≡ true = lt-ltb progress.filled (length kinds) (omega arith) in
          absurd (cc (full.0, short));
    }
walk_walked kinds offers progress number (word ∷ words) values is =
    let read = accepted_bind (step kinds offers progress number word) (λ next. walk kinds offers next (number + 1) words) values is in
    let steps = step_steps kinds offers number word progress.awaited progress read.0 refl read.1 in
    walked kinds progress read.0 word words values steps (walk_walked kinds offers read.0 (number + 1) words values read.2) steps.place

most_within : (most : Option ℕ) → IfSome most (λ n. (1 ≤ n) × (n ≤ 1000000)) → (1 ≤ unwrap_or most 100000) × (unwrap_or most 100000 ≤ 1000000)
most_within (Some most) within = within
most_within None within = (omega arith, omega arith)

seed_within : (seed : Option ℕ) → IfSome seed (λ n. n < 2 ^ 64) → unwrap_or seed 0 < 2 ^ 64
seed_within (Some seed) within = within
seed_within None within = omega arith

ranges : (verb : Verb) (values : OptionValues) (words : List (List ℕ)) → Walked (kinds_of verb) begun words values → InRange values → HasItsRanges (command_from verb values words)
ranges verb.Classify values words walked good = tt
ranges verb.Accuracy values words walked good = tt
ranges verb.Learn values words walked good = most_within values.max_conflicts good.conflicts
ranges verb.Encode values words walked good = tt
ranges verb.CheckRefutation values words walked good = tt
ranges verb.DescribeProblem values words walked good = tt
ranges verb.DescribeModel values words walked good = tt
ranges verb.DescribeTable values words walked good = tt
ranges verb.GenerateProblem values words walked good =
    let criteria = quantity_within Criteria (position words false 0) (walked.fits 0 (Number Criteria) refl) in
    let categories = quantity_within Categories (position words false 1) (walked.fits 1 (Number Categories) refl) in
    (criteria.0, criteria.1, categories.0, categories.1, seed_within values.random_seed good.seed)
ranges verb.GenerateModel values words walked good = seed_within values.random_seed good.seed
ranges verb.GenerateTable values words walked good =
    let rows = quantity_within TableRows (position words false 2) (walked.fits 2 (Number TableRows) refl) in
    (rows.1, seed_within values.random_seed good.seed)
ranges verb.Rehearse values words walked good =
    let criteria = quantity_within Criteria (position words false 0) (walked.fits 0 (Number Criteria) refl) in
    let categories = quantity_within Categories (position words false 1) (walked.fits 1 (Number Categories) refl) in
    let rows = quantity_within RehearsalRows (position words false 2) (walked.fits 2 (Number RehearsalRows) refl) in
    let seed = quantity_within Seed (position words false 3) (walked.fits 3 (Number Seed) refl) in
    (criteria.0, criteria.1, categories.0, categories.1, rows.1, omega (arith, seed.1))

rest_ranges : (verb : Verb) (number : ℕ) (words : List (List ℕ)) (command : Command) → rest_gives verb number words ≡ Ok command → HasItsRanges command
rest_ranges verb number words command is =
    let given = rest_given verb number words command is in
    let walked = walk_walked (kinds_of verb) (offers_of verb) begun number words given.0 given.1 in
    subst HasItsRanges given.2 (ranges verb given.0 words walked (walked.in_range (record { conflicts = tt; seed = tt })))

second_ranges : (verb : Verb) (words : List (List ℕ)) (command : Command) → after_second verb words ≡ Ok command → HasItsRanges command
second_ranges verb [] command is = absurd cc
second_ranges verb (second ∷ words) command is = rest_ranges verb 3 words command is

first_ranges : (verb : Verb) (second : Option (List ℕ)) (words : List (List ℕ)) (command : Command) → second_word verb ≡ second → after_first verb words ≡ Ok command → HasItsRanges command
first_ranges verb (Some second) words command e is = second_ranges verb words command (rw e at is)
first_ranges verb None words command e is = rest_ranges verb 2 words command (rw e at is)

no_command : (some : Bool) (command : Command) → (if some then Err (fault.UnknownCommand 2) else Err (fault.UnknownCommand 1)) ≡ Ok command → ⊥
no_command true command is = cc
no_command false command is = cc

command_ranges : (verb : Option Verb) (first : List ℕ) (more : List (List ℕ)) (command : Command) → command_gives verb first more ≡ Ok command → HasItsRanges command
command_ranges (Some verb) first more command is = first_ranges verb (second_word verb) more command refl is
command_ranges None first more command is = absurd (no_command (begins_some verbs first) command is)

pub line_ranges : (words : List (List ℕ)) (command : Command) → line_gives words ≡ Ok command → HasItsRanges command
line_ranges [] command is = absurd cc
line_ranges (first ∷ more) command is = command_ranges (verb_in verbs (first ∷ more)) first more command is
