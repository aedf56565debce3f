-- How the checker keeps the set of a chain: a literal is false if its stamp is that of the lemma.
use Rattle.std.specs.Prelude.{ℕ, ◌≡◌, ◌<◌, ◌==◌, Bool, true, false, List, length, slice_index}
use Rattle.literals_core.specs.Truth.{is_false}
use Rattle.chain_core.specs.declared.chain.OpenLiterals.{OpenLiterals}
use Rattle.chain_core.specs.declared.chain.OpenLiterals.TheVariants.{AllFalse, One, Several}

-- the stamps mark the literals that are false under the set
abbrev pub IsMarked : List ℕ → ℕ → List ℕ → Type 0
IsMarked stamps stamp set = (l : ℕ) → l < length stamps → (slice_index stamps l == stamp) ≡ is_false set l

-- how a chain goes on after a clause with these open literals
abbrev pub open_answer : OpenLiterals → (ℕ → Bool) → Bool
open_answer AllFalse next = true
open_answer (One l) next = next l
open_answer Several next = false

abbrev pub IfOne : OpenLiterals → (ℕ → Type 0) → Type 0
IfOne AllFalse P = Unit {0}
IfOne (One l) P = P l
IfOne Several P = Unit {0}
