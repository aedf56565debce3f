-- Lemmas that unit propagation alone does not give.
use Rattle.std.specs.Prelude.{ℕ, ◌≡◌, ◌==◌, ◌⊎◌, not, List, Some, map, filter, slice_get, Contains, All}
use Rattle.literals_core.specs.Literal.{negation}
use Rattle.literals_core.specs.Truth.{IsTrueUnder, IsFalseUnder}
use Rattle.literals_core.specs.Settled.{IsSettled}
use Rattle.literals_core.specs.Propagation.{IsGiven, MeetsConflict}
use Rattle.literals_core.specs.Formula.{Cnf}
use Rattle.chain_core.specs.Log.{known_before}
use Rattle.chain_core.specs.declared.log.Lemma.{Lemma}

-- no literal is there together with its negation
abbrev pub HasNoPair : List ℕ → Type 0
HasNoPair literals = All (λ l. ¬ Contains literals (negation l)) literals

-- all literals but one are false under the set, and that one is neither true nor false
pub record LeavesOne (set literals : List ℕ) : Type 0 where
  pub left : ℕ
  pub among : Contains literals left
  pub not_true : ¬ IsTrueUnder set left
  pub not_false : ¬ IsFalseUnder set left
  pub others : All (λ x. (x ≡ left) ⊎ IsFalseUnder set x) literals

-- a set under which a lemma says something that the clauses before it do not
pub record ShowsFresh (known : List (List ℕ)) (literals set : List ℕ) : Type 0 where
  pub consistent : HasNoPair set
  pub one : LeavesOne set literals
  pub settled : All (IsSettled set) known

-- each lemma is free of pairs, and new after the clauses before it
abbrev pub IsFresh : Cnf → List Lemma → Type 0
IsFresh formula log =
    (k : ℕ) (lemma : Lemma) → slice_get log k ≡ Some lemma
    → HasNoPair lemma.literals × ((set : List ℕ) × ShowsFresh (known_before formula log k) lemma.literals set)

-- the negations of all literals but one
abbrev pub others_negated : ℕ → List ℕ → List ℕ
others_negated left literals = map negation (filter (λ l. not (l == left)) literals)

-- unit propagation from the negations of all literals but one meets no conflict, and gives neither that one nor its
-- negation
pub record PropagationLeavesOne (known : List (List ℕ)) (literals : List ℕ) : Type 0 where
  pub left : ℕ
  pub among : Contains literals left
  pub no_conflict : ¬ MeetsConflict known (others_negated left literals)
  pub not_given : ¬ IsGiven known (others_negated left literals) left
  pub not_refuted : ¬ IsGiven known (others_negated left literals) (negation left)
