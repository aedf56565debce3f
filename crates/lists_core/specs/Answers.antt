-- What a reader returns: a value, or the first fault of the conditions that it tries in order.
use Rattle.std.specs.Prelude.{◌≡◌, ◌⊎◌, Bool, true, false, Result, Ok, Err, MatchResult}

infixl 10 ◌>>=◌
-- a value goes to the next step, and a fault ends the chain
abbrev pub ◌>>=◌ : {A B E : Type 0} → Result A E → (A → Result B E) → Result B E
Err fault >>= rest = Err fault
Ok value >>= rest = rest value

-- nothing if the condition holds, and else its fault
abbrev pub require : {E : Type 0} → Bool → E → Result (Unit {0}) E
require true fault = Ok tt
require false fault = Err fault

-- a call returns what a definition says, with its value seen in this way, or else that memory ran out
abbrev pub AnswersAs : {T A E : Type 0} → E → Result T E → Result A E → (T → A) → Type 0
AnswersAs no_memory result answer seen =
    MatchResult result (λ value. answer ≡ Ok (seen value)) (λ fault. (fault ≡ no_memory) ⊎ (answer ≡ Err fault))

-- the same for a call whose value is seen as it is
abbrev pub Answers : {A E : Type 0} → E → Result A E → Result A E → Type 0
Answers no_memory result answer = AnswersAs no_memory result answer (λ value. value)
