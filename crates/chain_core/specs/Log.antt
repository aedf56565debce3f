-- Which logs are good, and which refute a formula.
use Rattle.std.specs.Prelude.{ℕ, ◌≡◌, ◌+◌, ◌<◌, ◌≤◌, ◌==◌, ◌||◌, nat_lt, nat_le, not, Bool, false, List, [], ◌∷◌, ◌++◌}
use Rattle.std.specs.Prelude.{Option, Some, None, length, if◌then◌else◌, map, take, slice_get, All}
use Rattle.std.specs.List.{list_any}
use Rattle.literals_core.specs.Literal.{variable_of, negation}
use Rattle.literals_core.specs.Formula.{Cnf}
use Rattle.chain_core.specs.Chain.{Chains, chain_succeeds}
use Rattle.chain_core.specs.declared.log.Lemma.{Lemma}
use Rattle.chain_core.specs.declared.fault.CheckFault.{CheckFault}
use Rattle.chain_core.specs.declared.fault.CheckFault.TheVariants.{Id, Literal, Hint, Chain, NotEmpty}

-- the clauses that may be named after these lemmas: those of the formula, and the lemmas
abbrev pub known_after : Cnf → List Lemma → List (List ℕ)
known_after formula earlier = formula.clauses ++ map (λ lemma. lemma.literals) earlier

-- the clauses that the lemma at place k may name
abbrev pub known_before : Cnf → List Lemma → ℕ → List (List ℕ)
known_before formula log k = known_after formula (take k log)

-- a lemma is good after these clauses
pub record IsGoodLemma (variables : ℕ) (known : List (List ℕ)) (lemma : Lemma) : Type 0 where
  pub id : lemma.id ≡ length known + 1
  pub literals : All (λ l. variable_of l ≤ variables) lemma.literals
  pub hints : All (λ h. (1 ≤ h) × (h < lemma.id)) lemma.hints
  pub chain : Chains known (map negation lemma.literals) lemma.hints

-- each lemma is good after the clauses before it
abbrev pub IsGood : Cnf → List Lemma → Type 0
IsGood formula log =
    (k : ℕ) (lemma : Lemma) → slice_get log k ≡ Some lemma
    → IsGoodLemma formula.variables (known_before formula log k) lemma

-- there is a last lemma, and it is the empty clause
abbrev pub EndsEmpty : List Lemma → Type 0
EndsEmpty log = (earlier : List Lemma) × ((last : Lemma) × (log ≡ earlier ++ last ∷ []) × (last.literals ≡ []))

-- a good log whose last lemma is empty
pub record IsRefutation (formula : Cnf) (log : List Lemma) : Type 0 where
  pub good : IsGood formula log
  pub end : EndsEmpty log

-- the first way in which a lemma on this line is not good after these clauses
abbrev pub lemma_fault : ℕ → List (List ℕ) → ℕ → Lemma → Option CheckFault
lemma_fault variables known line lemma =
    if not (lemma.id == length known + 1) then Some (Id line)
    else (if list_any (λ l. nat_lt variables (variable_of l)) lemma.literals then Some (Literal line)
    else (if list_any (λ h. h == 0 || nat_le lemma.id h) lemma.hints then Some (Hint line)
    else (if chain_succeeds known lemma.literals lemma.hints then None else Some (Chain line))))

abbrev pub or_else : Option CheckFault → Option CheckFault → Option CheckFault
or_else None next = next
or_else (Some fault) next = Some fault

-- the first line of these lemmas that fails, and how
abbrev pub first_fault : ℕ → List (List ℕ) → ℕ → List Lemma → Option CheckFault
first_fault variables known line [] = None
first_fault variables known line (lemma ∷ lemmas) =
    or_else (lemma_fault variables known line lemma)
    (first_fault variables (known ++ lemma.literals ∷ []) (line + 1) lemmas)

-- whether there is a last lemma and it is empty
abbrev pub ends_empty : List Lemma → Bool
ends_empty [] = false
ends_empty (lemma ∷ []) = length lemma.literals == 0
ends_empty (lemma ∷ next ∷ lemmas) = ends_empty (next ∷ lemmas)

-- why a log is no refutation; the first lemma is on line 2
abbrev pub refutation_fault : Cnf → List Lemma → Option CheckFault
refutation_fault formula log =
    or_else (first_fault formula.variables formula.clauses 2 log) (if ends_empty log then None else Some NotEmpty)
