-- The fault that is computed of a log is the one with which it is refused.
use Rattle.std.proofs.Common.{◌≡◌, ◌≢◌, ℕ, ◌+◌, ◌<◌, ◌≤◌, ◌==◌, ◌||◌, nat_lt, nat_le, Bool, true, false, cond, List, [], ◌∷◌, ◌++◌, length, map, Option, Some, None, refl, sym, ◌∙◌, ap, arith, subst, ◌↔◌, ◌⊎◌, inl, inr}
use Rattle.std.specs.List.{list_any, Any}
use Rattle.std.proofs.lemmas.Bool.{false≢true, ne_eqb, cases_Bool, le-ltb, lt-ltb, ltb-false, ltb-true}
use Rattle.std.proofs.lemmas.Bool.Decides.{nat_tests, eqb_tells}
use Rattle.std.proofs.lemmas.List.{append-nil, append_assoc}
use Rattle.std.proofs.lemmas.List.Folds.{Any-from_list_any, list_any-from_Any}
use Rattle.std.proofs.lemmas.Option.{none-some, same_Some}
use Rattle.literals_core.specs.Literal.{variable_of, negation}
use Rattle.literals_core.specs.Formula.{Cnf}
use Rattle.chain_core.specs.Chain.{chain_succeeds}
use Rattle.chain_core.specs.Log.{lemma_fault, first_fault, or_else, ends_empty, refutation_fault}
use Rattle.chain_core.specs.Refusal.{LemmaFails, other_id, high_literal, other_hint, no_chain, IsRefused}
use Rattle.chain_core.specs.declared.log.Lemma.{Lemma}
use Rattle.chain_core.specs.declared.fault.CheckFault.{CheckFault}
use Rattle.chain_core.specs.declared.fault.CheckFault.TheVariants.{Id, Literal, Hint, Chain, NotEmpty}
use Rattle.chain_core.proofs.ChainLemmas.{chains_computed, chains_succeed}
use Rattle.chain_core.proofs.FaultLemmas.{fault_staged}
use Rattle.chain_core.proofs.GoodLemmas.{GoodAfter, good_lemma, lemma_passes, lemmas_good, good_passes, good_first, first_good, rest_good, all_fail, none_passes, hint_near, near_hint, end_tested, tested_end}

-- a test that some element passes, and the fact that it stands for
some_told : (test : ℕ → Bool) (P : ℕ → Type 0) → ((x : ℕ) → test x ≡ true → P x) → (xs : List ℕ) → list_any test xs ≡ true → Any P xs
some_told test P says xs h = let (k, x, lt, at, passes) = Any-from_list_any test xs h in (k, x, lt, at, says x passes)

some_tested : (test : ℕ → Bool) (P : ℕ → Type 0) → ((x : ℕ) → P x → test x ≡ true) → (xs : List ℕ) → Any P xs → list_any test xs ≡ true
some_tested test P says xs (k, x, lt, at, holds) = list_any-from_Any test xs (k, x, lt, at, says x holds)

far_told : (id h : ℕ) → (h == 0 || nat_le id h) ≡ true → (h ≡ 0) ⊎ (id ≤ h)
far_told id h e = grind (arith, nat_tests)

far_tested : (id h : ℕ) → (h ≡ 0) ⊎ (id ≤ h) → (h == 0 || nat_le id h) ≡ true
far_tested id h e = grind (arith, nat_tests)

module _ (variables : ℕ) (known : List (List ℕ)) (line : ℕ) (lemma : Lemma) where
  abbrev is_high : ℕ → Bool
  is_high l = nat_lt variables (variable_of l)

  abbrev is_far : ℕ → Bool
  is_far h = h == 0 || nat_le lemma.id h

  -- an id that is not the next
  id_fault : lemma.id ≢ length known + 1 → lemma_fault variables known line lemma ≡ Some (Id line)
  id_fault other = rw (ne_eqb lemma.id (length known + 1) other) refl

  fails_as : (computed fault : CheckFault) → lemma_fault variables known line lemma ≡ Some computed → lemma_fault variables known line lemma ≡ Some fault → LemmaFails variables known lemma line computed → LemmaFails variables known lemma line fault
  fails_as computed fault is fails by_this = subst (LemmaFails variables known lemma line) (same_Some computed fault (sym is ∙ fails)) by_this

  -- the fault that is computed of a lemma is that of its first condition that fails
  pub lemma_told : (fault : CheckFault) → lemma_fault variables known line lemma ≡ Some fault → LemmaFails variables known lemma line fault
  lemma_told fault fails =
      elim (eqb_tells lemma.id (length known + 1)) [
        | inr other ↦ fails_as (Id line) fault (id_fault other.1) fails (other_id other.1)
        | inl same ↦ elim (cases_Bool (list_any is_high lemma.literals)) [
          | inl high ↦ fails_as (Literal line) fault (fault_staged variables known line lemma true _ _ same.1 high refl refl) fails
              (high_literal same.1 (some_told is_high (λ l. variables < variable_of l) (λ l. ltb-true variables (variable_of l)) lemma.literals high))
          | inr low ↦
              let literals = all_fail is_high (λ l. variable_of l ≤ variables) (λ l. ltb-false variables (variable_of l)) lemma.literals low in
              elim (cases_Bool (list_any is_far lemma.hints)) [
                | inl far ↦ fails_as (Hint line) fault (fault_staged variables known line lemma false true _ same.1 low far refl) fails
                    (other_hint same.1 literals (some_told is_far (λ h. (h ≡ 0) ⊎ (lemma.id ≤ h)) (far_told lemma.id) lemma.hints far))
                | inr near ↦ elim (cases_Bool (chain_succeeds known lemma.literals lemma.hints)) [
                  | inl succeeds ↦ absurd (none-some fault (sym (fault_staged variables known line lemma false false true same.1 low near succeeds) ∙ fails))
                  | inr stuck ↦ fails_as (Chain line) fault (fault_staged variables known line lemma false false false same.1 low near stuck) fails
                      (no_chain same.1 literals (all_fail is_far (λ h. (1 ≤ h) × (h < lemma.id)) (hint_near lemma.id) lemma.hints near) (λ chain. false≢true (sym stuck ∙ chains_succeed chain)))
                ]
              ]
        ]
      ]

  -- and the other way round
  pub lemma_tested : {fault : CheckFault} → LemmaFails variables known lemma line fault → lemma_fault variables known line lemma ≡ Some fault
  lemma_tested (other_id other) = id_fault other
  lemma_tested (high_literal id high) = fault_staged variables known line lemma true _ _ id (some_tested is_high (λ l. variables < variable_of l) (λ l. lt-ltb variables (variable_of l)) lemma.literals high) refl refl
  lemma_tested (other_hint id low far) =
      fault_staged variables known line lemma false true _ id (none_passes is_high (λ l. variable_of l ≤ variables) (λ l. le-ltb variables (variable_of l)) lemma.literals low)
      (some_tested is_far (λ h. (h ≡ 0) ⊎ (lemma.id ≤ h)) (far_tested lemma.id) lemma.hints far) refl
  lemma_tested (no_chain id low near stuck) =
      fault_staged variables known line lemma false false false id (none_passes is_high (λ l. variable_of l ≤ variables) (λ l. le-ltb variables (variable_of l)) lemma.literals low)
      (none_passes is_far (λ h. (1 ≤ h) × (h < lemma.id)) (near_hint lemma.id) lemma.hints near)
      (elim (cases_Bool (chain_succeeds known lemma.literals lemma.hints)) [
        | inl succeeds ↦ absurd (stuck (chains_computed known (map negation lemma.literals) lemma.hints succeeds))
        | inr stays ↦ stays
      ])

-- the same, of the first lemma that fails after these clauses
record FailsAfter (variables : ℕ) (known : List (List ℕ)) (line : ℕ) (log : List Lemma) (fault : CheckFault) : Type 0 where
  earlier : List Lemma
  lemma : Lemma
  later : List Lemma
  parts : log ≡ earlier ++ lemma ∷ later
  good : GoodAfter variables known earlier
  fails : LemmaFails variables (known ++ map (λ (x : Lemma). x.literals) earlier) lemma (length earlier + line) fault

moved : (variables line line' : ℕ) (known known' : List (List ℕ)) (lemma : Lemma) (fault : CheckFault) → known ≡ known' → line ≡ line' → LemmaFails variables known lemma line fault → LemmaFails variables known' lemma line' fault
moved variables line line' known known' lemma fault same at fails =
    subst (λ n. LemmaFails variables known' lemma n fault) at (subst (λ (clauses : List (List ℕ)). LemmaFails variables clauses lemma line fault) same fails)

log_told : (variables : ℕ) (known : List (List ℕ)) (line : ℕ) (log : List Lemma) (fault : CheckFault) → first_fault variables known line log ≡ Some fault → FailsAfter variables known line log fault
log_told variables known line [] fault fails = absurd (none-some fault fails)
log_told variables known line (first ∷ log) fault fails = by (lemma_fault variables known line first) refl (log_told variables (known ++ first.literals ∷ []) (line + 1) log fault) fails
  where
    by : (o : Option CheckFault) → lemma_fault variables known line first ≡ o → (first_fault variables (known ++ first.literals ∷ []) (line + 1) log ≡ Some fault → FailsAfter variables (known ++ first.literals ∷ []) (line + 1) log fault) → or_else o (first_fault variables (known ++ first.literals ∷ []) (line + 1) log) ≡ Some fault → FailsAfter variables known line (first ∷ log) fault
    by (Some found) is rest here = record {
      earlier = [];
      lemma = first;
      later = log;
      parts = refl;
      good = λ k lemma read. absurd (none-some lemma read);
      fails = moved variables line (0 + line) known _ first fault (sym (append-nil known)) (omega arith) (lemma_told variables known line first fault (is ∙ here));
    }
    by None is rest later =
        let more = rest later in
        let up : length more.earlier + (line + 1) ≡ length (first ∷ more.earlier) + line = omega arith in
        record {
          earlier = first ∷ more.earlier;
          lemma = more.lemma;
          later = more.later;
          parts = ap (λ xs. first ∷ xs) more.parts;
          good = good_first variables known first more.earlier (good_lemma variables known line first is) more.good;
          fails = moved variables _ _ _ _ more.lemma fault (append_assoc known (first.literals ∷ []) (map (λ (x : Lemma). x.literals) more.earlier)) up more.fails;
        }

log_tested : (variables : ℕ) (known : List (List ℕ)) (line : ℕ) (earlier : List Lemma) (lemma : Lemma) (later : List Lemma) (fault : CheckFault) → GoodAfter variables known earlier
    → LemmaFails variables (known ++ map (λ (x : Lemma). x.literals) earlier) lemma (length earlier + line) fault → first_fault variables known line (earlier ++ lemma ∷ later) ≡ Some fault
log_tested variables known line [] lemma later fault good fails =
    ap (λ f. or_else f (first_fault variables (known ++ lemma.literals ∷ []) (line + 1) later)) (lemma_tested variables known line lemma (moved variables (0 + line) line _ known lemma fault (append-nil known) (omega arith) fails))
log_tested variables known line (first ∷ earlier) lemma later fault good fails =
    let down : length (first ∷ earlier) + line ≡ length earlier + (line + 1) = omega arith in
    ap (λ f. or_else f (first_fault variables (known ++ first.literals ∷ []) (line + 1) (earlier ++ lemma ∷ later))) (lemma_passes variables known line first (first_good variables known first earlier good))
    ∙ log_tested variables (known ++ first.literals ∷ []) (line + 1) earlier lemma later fault (rest_good variables known first earlier good)
    (moved variables _ _ _ _ lemma fault (sym (append_assoc known (first.literals ∷ []) (map (λ (x : Lemma). x.literals) earlier))) down fails)

module _ (formula : Cnf) (log : List Lemma) where
  told : (fault : CheckFault) (o : Option CheckFault) → first_fault formula.variables formula.clauses 2 log ≡ o → or_else o (cond (ends_empty log) None (Some NotEmpty)) ≡ Some fault → IsRefused formula log fault
  told fault (Some found) is here =
      let first = log_told formula.variables formula.clauses 2 log fault (is ∙ here) in
      inl (record { earlier = first.earlier; lemma = first.lemma; later = first.later; parts = first.parts; good = first.good; fails = first.fails })
  told fault None is here =
      elim (cases_Bool (ends_empty log)) [
        | inl ends ↦ absurd (none-some fault (sym (ap (λ b. cond b None (Some NotEmpty)) ends) ∙ here))
        | inr open' ↦ inr (sym (same_Some NotEmpty fault (sym (ap (λ b. cond b None (Some NotEmpty)) open') ∙ here)), lemmas_good formula.variables formula.clauses 2 log is, λ end. false≢true (sym open' ∙ tested_end log end))
      ]

  tested : (fault : CheckFault) → IsRefused formula log fault → refutation_fault formula log ≡ Some fault
  tested fault (inl first) =
      ap (λ f. or_else f (cond (ends_empty log) None (Some NotEmpty)))
      (ap (first_fault formula.variables formula.clauses 2) first.parts ∙ log_tested formula.variables formula.clauses 2 first.earlier first.lemma first.later fault first.good first.fails)
  tested fault (inr all) =
      ap (λ f. or_else f (cond (ends_empty log) None (Some NotEmpty))) (good_passes formula.variables formula.clauses 2 log all.1)
      ∙ (elim (cases_Bool (ends_empty log)) [
        | inl ends ↦ absurd (all.2 (end_tested log ends))
        | inr open' ↦ ap (λ b. cond b None (Some NotEmpty)) open' ∙ ap Some (sym all.0)
      ])

pub refusal_law : (formula : Cnf) (log : List Lemma) (fault : CheckFault) → (refutation_fault formula log ≡ Some fault) ↔ IsRefused formula log fault
refusal_law formula log fault = (told formula log fault (first_fault formula.variables formula.clauses 2 log) refl, tested formula log fault)
