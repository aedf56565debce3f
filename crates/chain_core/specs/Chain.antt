-- When the hints of a lemma lead to a false clause, as the hints of LRAT proofs do
-- (Cruz-Filipe, Heule, Hunt, Kaufmann and Schneider-Kamp 2017).
use Rattle.std.specs.Prelude.{ℕ, zero, suc, ◌≡◌, ◌==◌, Bool, true, false, ◌&&◌, ◌⊎◌, List, [], ◌∷◌, Option, Some, None}
use Rattle.std.specs.Prelude.{slice_get, map, Contains, All}
use Rattle.std.specs.List.{list_all}
use Rattle.literals_core.specs.Literal.{negation}
use Rattle.literals_core.specs.Truth.{IsFalseUnder, open_literals}

-- the clause of an id: ids count from 1, and 0 and the ids past the end name no clause
abbrev pub clause_at : List (List ℕ) → ℕ → Option (List ℕ)
clause_at clauses zero = None
clause_at clauses (suc k) = slice_get clauses k

-- the clause has exactly one distinct literal that is not false, which is l
pub record IsOnlyOpen (set clause : List ℕ) (l : ℕ) : Type 0 where
  pub among : Contains clause l
  pub not_false : ¬ IsFalseUnder set l
  pub others : All (λ x. (x ≡ l) ⊎ IsFalseUnder set x) clause

-- a chain of hints from a set of literals: a clause that is all false ends it,
-- and a clause with exactly one literal that is not false puts that literal into the set
pub data Chains (clauses : List (List ℕ)) : List ℕ → List ℕ → Type 0 where
  ends : {set hints clause : List ℕ} {h : ℕ} → clause_at clauses h ≡ Some clause → All (IsFalseUnder set) clause
      → Chains clauses set (h ∷ hints)
  adds : {set hints clause : List ℕ} {h l : ℕ} → clause_at clauses h ≡ Some clause → IsOnlyOpen set clause l
      → Chains clauses (l ∷ set) hints → Chains clauses set (h ∷ hints)

-- the same as a computation: no open literal ends the chain, one (maybe repeated) is the next to be set, and two
-- different ones fail
abbrev pub after_open : List ℕ → (ℕ → Bool) → Bool
after_open [] next = true
after_open (l ∷ ls) next = list_all (λ x. x == l) ls && next l

-- without such a clause the chain fails
abbrev pub after_clause : List ℕ → Option (List ℕ) → (ℕ → Bool) → Bool
after_clause set None next = false
after_clause set (Some clause) next = after_open (open_literals set clause) next

-- whether these hints lead to a false clause from a set of literals
abbrev pub chain_from : List (List ℕ) → List ℕ → List ℕ → Bool
chain_from clauses set [] = false
chain_from clauses set (h ∷ hints) = after_clause set (clause_at clauses h) (λ l. chain_from clauses (l ∷ set) hints)

-- the chain of a lemma begins with the negations of its literals
abbrev pub chain_succeeds : List (List ℕ) → List ℕ → List ℕ → Bool
chain_succeeds clauses literals hints = chain_from clauses (map negation literals) hints
