-- Unit propagation (Davis, Logemann and Loveland 1962): what a list of clauses gives from a set of literals.
use Rattle.std.specs.Prelude.{ℕ, ◌≢◌, List, Contains, All}
use Rattle.literals_core.specs.Literal.{negation}

-- the literals that it gives: those of the set, and a literal of a clause whose other literals have given negations
pub data IsGiven (clauses : List (List ℕ)) (set : List ℕ) : ℕ → Type 0 where
  of_set : {l : ℕ} → Contains set l → IsGiven clauses set l
  by_unit : {clause : List ℕ} {l : ℕ} → Contains clauses clause → Contains clause l
      → ((x : ℕ) → Contains clause x → x ≢ l → IsGiven clauses set (negation x)) → IsGiven clauses set l

-- it meets a conflict: a clause all of whose literals have given negations
pub record MeetsConflict (clauses : List (List ℕ)) (set : List ℕ) : Type 0 where
  pub clause : List ℕ
  pub among : Contains clauses clause
  pub refuted : All (λ l. IsGiven clauses set (negation l)) clause
