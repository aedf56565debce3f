-- Why a log is no refutation.
use Rattle.std.specs.Prelude.{ℕ, ◌≡◌, ◌≢◌, ◌+◌, ◌<◌, ◌≤◌, ◌⊎◌, List, ◌∷◌, ◌++◌, length, map, All, Any}
use Rattle.literals_core.specs.Literal.{variable_of, negation}
use Rattle.literals_core.specs.Formula.{Cnf}
use Rattle.chain_core.specs.Chain.{Chains}
use Rattle.chain_core.specs.Log.{known_after, IsGood, EndsEmpty}
use Rattle.chain_core.specs.declared.log.Lemma.{Lemma}
use Rattle.chain_core.specs.declared.fault.CheckFault.{CheckFault}
use Rattle.chain_core.specs.declared.fault.CheckFault.TheVariants.{Id, Literal, Hint, Chain, NotEmpty}

-- the first condition of a good lemma that this one fails: its id, its literals, its hints, their chain
pub data LemmaFails (variables : ℕ) (known : List (List ℕ)) (lemma : Lemma) (line : ℕ) : CheckFault → Type 0 where
  other_id : lemma.id ≢ length known + 1 → LemmaFails variables known lemma line (Id line)
  high_literal : lemma.id ≡ length known + 1 → Any (λ l. variables < variable_of l) lemma.literals
      → LemmaFails variables known lemma line (Literal line)
  other_hint : lemma.id ≡ length known + 1 → All (λ l. variable_of l ≤ variables) lemma.literals
      → Any (λ h. (h ≡ 0) ⊎ (lemma.id ≤ h)) lemma.hints → LemmaFails variables known lemma line (Hint line)
  no_chain : lemma.id ≡ length known + 1 → All (λ l. variable_of l ≤ variables) lemma.literals
      → All (λ h. (1 ≤ h) × (h < lemma.id)) lemma.hints → ¬ Chains known (map negation lemma.literals) lemma.hints
      → LemmaFails variables known lemma line (Chain line)

-- a lemma fails, and those before it are good; the first lemma is on line 2
pub record FailsFirst (formula : Cnf) (log : List Lemma) (fault : CheckFault) : Type 0 where
  pub earlier : List Lemma
  pub lemma : Lemma
  pub later : List Lemma
  pub parts : log ≡ earlier ++ lemma ∷ later
  pub good : IsGood formula earlier
  pub fails : LemmaFails formula.variables (known_after formula earlier) lemma (length earlier + 2) fault

-- a lemma fails; or all are good, and the last is not empty or there is none
abbrev pub IsRefused : Cnf → List Lemma → CheckFault → Type 0
IsRefused formula log fault = FailsFirst formula log fault ⊎ ((fault ≡ NotEmpty) × IsGood formula log × ¬ EndsEmpty log)
