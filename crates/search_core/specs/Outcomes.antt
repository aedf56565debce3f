-- What the outcomes of a search say of the formula.
use Rattle.std.specs.Prelude.{ℕ, ⊤, Bool, ◌≡◌, ◌≢◌, ◌<◌, ◌≤◌, ◌^◌, List, [], length, All}
use Rattle.literals_core.specs.Formula.{Cnf}
use Rattle.literals_core.specs.Values.{Satisfies}
use Rattle.chain_core.specs.Log.{IsGood, IsRefutation}
use Rattle.chain_core.specs.Fresh.{IsFresh}
use Rattle.chain_core.specs.declared.log.Lemma.{Lemma}
use Rattle.search_core.specs.Values.{value_at}
use Rattle.search_core.specs.Bounds.{PropagationEnds}
use Rattle.search_core.specs.declared.outcome.Outcome.{Outcome}
use Rattle.search_core.specs.declared.outcome.Outcome.TheVariants.{Sat, Unsat, Limit}

-- something holds of the values, of the refutation, or of the log, if the outcome has one
abbrev pub IfSat : (List Bool → Type 0) → Outcome → Type 0
IfSat P (Sat values) = P values
IfSat P (Unsat log) = ⊤
IfSat P (Limit log) = ⊤

abbrev pub IfUnsat : (List Lemma → Type 0) → Outcome → Type 0
IfUnsat P (Sat values) = ⊤
IfUnsat P (Unsat log) = P log
IfUnsat P (Limit log) = ⊤

abbrev pub IfLimit : (List Lemma → Type 0) → Outcome → Type 0
IfLimit P (Sat values) = ⊤
IfLimit P (Unsat log) = ⊤
IfLimit P (Limit log) = P log

-- no lemma is empty
abbrev pub NoneEmpty : List Lemma → Type 0
NoneEmpty log = All (λ (lemma : Lemma). lemma.literals ≢ []) log

-- one value for each variable, and they make every clause true
pub record IsModel (formula : Cnf) (values : List Bool) : Type 0 where
  pub count : length values ≡ formula.variables
  pub satisfies : Satisfies (value_at values) formula.clauses

-- a refutation of at most so many lemmas
pub record IsShortRefutation (formula : Cnf) (most : ℕ) (log : List Lemma) : Type 0 where
  pub refutes : IsRefutation formula log
  pub short : length log ≤ most

-- a good and fresh log of exactly so many lemmas, none of them empty; they are fewer than three to the power of the
-- number of variables
pub record IsAtLimit (formula : Cnf) (most : ℕ) (log : List Lemma) : Type 0 where
  pub good : IsGood formula log
  pub fresh : IsFresh formula log
  pub count : length log ≡ most
  pub none_empty : NoneEmpty log
  pub few : most < 3 ^ formula.variables

-- all of it at once
abbrev pub IsOutcome : Cnf → ℕ → Outcome → Type 0
IsOutcome formula most (Sat values) = IsModel formula values
IsOutcome formula most (Unsat log) = IsShortRefutation formula most log
IsOutcome formula most (Limit log) = IsAtLimit formula most log × ¬ PropagationEnds formula
