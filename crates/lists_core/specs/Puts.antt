-- What a call that appends a text leaves.
use Rattle.std.specs.Prelude.{◌≡◌, ℕ, List, ◌++◌, take, Result, MatchResult}

-- at Ok the text was appended, and at Err a prefix of it
abbrev pub Puts : {T E : Type 0} → List ℕ → List ℕ → Result T E → List ℕ → Type 0
Puts old new r text = MatchResult r (λ _. new ≡ old ++ text) (λ _. (k : ℕ) × (new ≡ old ++ take k text))
