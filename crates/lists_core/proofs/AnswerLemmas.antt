-- What an accepted chain of steps says, and what a chain makes of the fault of a step.
use Rattle.std.proofs.Common.{◌≡◌, Bool, true, false, Option, Some, None, Result, Ok, Err, ◌⊎◌, inl, inr, refl, ap, ◌∙◌}
use Rattle.std.specs.Option.{ok_or}
use Rattle.lists_core.specs.Answers.{◌>>=◌, require}

-- an accepted chain had a value, and the rest accepted that value
pub accepted_bind : {A B E : Type 0} (read : Result A E) (rest : A → Result B E) (made : B) → (read >>= rest) ≡ Ok made → (value : A) × (read ≡ Ok value) × (rest value ≡ Ok made)
accepted_bind (Ok value) rest made accepted = (value, refl, accepted)
accepted_bind (Err fault) rest made accepted = absurd cc

-- a value was there
pub accepted_option : {A B E : Type 0} (found : Option A) (fault : E) (rest : A → Result B E) (made : B) → (ok_or found fault >>= rest) ≡ Ok made → (value : A) × (found ≡ Some value) × (rest value ≡ Ok made)
accepted_option (Some value) fault rest made accepted = (value, refl, accepted)
accepted_option None fault rest made accepted = absurd cc

-- a condition held
pub accepted_condition : {B E : Type 0} (holds : Bool) (fault : E) (rest : Unit {0} → Result B E) (made : B) → (require holds fault >>= rest) ≡ Ok made → (holds ≡ true) × (rest tt ≡ Ok made)
accepted_condition true fault rest made accepted = (refl, accepted)
accepted_condition false fault rest made accepted = absurd cc

-- the fault of a step is the fault of the chain
pub fault_of_part : {A B E : Type 0} (no_memory : E) (whole : Result B E) (read : Result A E) (rest : A → Result B E) (fault : E) → whole ≡ (read >>= rest)
    → (fault ≡ no_memory) ⊎ (read ≡ Err fault) → (fault ≡ no_memory) ⊎ (whole ≡ Err fault)
fault_of_part no_memory whole read rest fault is (inl none) = inl none
fault_of_part no_memory whole read rest fault is (inr refused) = inr (is ∙ ap (λ r. r >>= rest) refused)
