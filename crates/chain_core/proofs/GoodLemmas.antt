-- A log without a fault is a refutation, and a refutation has no fault.
use Rattle.std.proofs.Common.{◌≡◌, ℕ, zero, suc, ◌+◌, ◌<◌, ◌≤◌, ◌==◌, ◌||◌, nat_lt, nat_le, not, Bool, true, false, cond, List, [], ◌∷◌, ◌++◌, length, map, take, Option, Some, None, refl, sym, ◌∙◌, ap, arith, subst, ◌↔◌, IsTrue, inl, inr}
use Rattle.std.specs.List.{list_any, All, slice_get}
use Rattle.std.proofs.lemmas.Bool.{eqb-true, false≢true, le-ltb, ltb-false, not-false, or_parts}
use Rattle.std.proofs.lemmas.Bool.Decides.{nat_tests, eqb_tells}
use Rattle.std.proofs.lemmas.List.{append-nil, append_assoc}
use Rattle.std.proofs.lemmas.List.Elements.{All-cons, All-nil, All-head, All-tail}
use Rattle.std.proofs.lemmas.Option.{none-some, same_Some}
use Rattle.literals_core.specs.Literal.{variable_of, negation}
use Rattle.literals_core.specs.Formula.{Cnf}
use Rattle.chain_core.specs.Chain.{chain_succeeds}
use Rattle.chain_core.specs.Log.{IsGoodLemma, EndsEmpty, IsRefutation, lemma_fault, first_fault, or_else, ends_empty, refutation_fault}
use Rattle.chain_core.specs.declared.log.Lemma.{Lemma}
use Rattle.chain_core.specs.declared.fault.CheckFault.{CheckFault}
use Rattle.chain_core.specs.declared.fault.CheckFault.TheVariants.{Id, Literal, Hint, Chain, NotEmpty}
use Rattle.chain_core.proofs.ChainLemmas.{chains_computed, chains_succeed}
use Rattle.chain_core.proofs.FaultLemmas.{fault_staged}

cond_none : (b : Bool) (fault : CheckFault) (rest : Option CheckFault) → cond b (Some fault) rest ≡ None → (b ≡ false) × (rest ≡ None)
cond_none true fault rest h = cc
cond_none false fault rest h = (refl, h)

cond_some : (b : Bool) (fault : CheckFault) → cond b None (Some fault) ≡ None → b ≡ true
cond_some true fault h = refl
cond_some false fault h = cc

-- a test that fails of each, and the fact that this stands for
pub all_fail : (test : ℕ → Bool) (P : ℕ → Type 0) → ((x : ℕ) → test x ≡ false → P x) → (xs : List ℕ) → list_any test xs ≡ false → All P xs
all_fail test P says [] none = All-nil P
all_fail test P says (x ∷ xs) none =
    let parts = or_parts (test x) (list_any test xs) none in
    All-cons P x xs (says x parts.0) (all_fail test P says xs parts.1)

pub none_passes : (test : ℕ → Bool) (P : ℕ → Type 0) → ((x : ℕ) → P x → test x ≡ false) → (xs : List ℕ) → All P xs → list_any test xs ≡ false
none_passes test P says [] all = refl
none_passes test P says (x ∷ xs) all =
    ap (λ b. b || list_any test xs) (says x (All-head P x xs all)) ∙ none_passes test P says xs (All-tail P x xs all)

pub hint_near : (id h : ℕ) → (h == 0 || nat_le id h) ≡ false → (1 ≤ h) × (h < id)
hint_near id h e = grind (arith, nat_tests)

pub near_hint : (id h : ℕ) → (1 ≤ h) × (h < id) → (h == 0 || nat_le id h) ≡ false
near_hint id h e = grind (arith, nat_tests)

-- a lemma has no fault exactly when it is good
pub good_lemma : (variables : ℕ) (known : List (List ℕ)) (line : ℕ) (lemma : Lemma) → lemma_fault variables known line lemma ≡ None → IsGoodLemma variables known lemma
good_lemma variables known line lemma passes =
    let first = cond_none (not (lemma.id == length known + 1)) (Id line) _ passes in
    let second = cond_none _ (Literal line) _ first.1 in
    let third = cond_none (list_any (λ h. h == 0 || nat_le lemma.id h) lemma.hints) (Hint line) _ second.1 in
    record {
      id = eqb-true lemma.id (length known + 1) (not-false (lemma.id == length known + 1) first.0);
      literals = all_fail (λ l. nat_lt variables (variable_of l)) (λ l. variable_of l ≤ variables) (λ l. ltb-false variables (variable_of l)) lemma.literals second.0;
      hints = all_fail (λ h. h == 0 || nat_le lemma.id h) (λ h. (1 ≤ h) × (h < lemma.id)) (hint_near lemma.id) lemma.hints third.0;
      chain = chains_computed known (map negation lemma.literals) lemma.hints (cond_some (chain_succeeds known lemma.literals lemma.hints) (Chain line) third.1);
    }

pub lemma_passes : (variables : ℕ) (known : List (List ℕ)) (line : ℕ) (lemma : Lemma) → IsGoodLemma variables known lemma → lemma_fault variables known line lemma ≡ None
lemma_passes variables known line lemma good =
    fault_staged variables known line lemma false false true good.id
    (none_passes (λ l. nat_lt variables (variable_of l)) (λ l. variable_of l ≤ variables) (λ l. le-ltb variables (variable_of l)) lemma.literals good.literals)
    (none_passes (λ h. h == 0 || nat_le lemma.id h) (λ h. (1 ≤ h) × (h < lemma.id)) (near_hint lemma.id) lemma.hints good.hints)
    (chains_succeed good.chain)

or_else_none : (a b : Option CheckFault) → or_else a b ≡ None → (a ≡ None) × (b ≡ None)
or_else_none None b h = (refl, h)
or_else_none (Some fault) b h = cc

-- each lemma is good after these clauses and the lemmas before it
abbrev pub GoodAfter : ℕ → List (List ℕ) → List Lemma → Type 0
GoodAfter variables known log = (k : ℕ) (lemma : Lemma) → slice_get log k ≡ Some lemma → IsGoodLemma variables (known ++ map (λ (x : Lemma). x.literals) (take k log)) lemma

pub none_known : (known : List (List ℕ)) (log : List Lemma) → known ++ map (λ (x : Lemma). x.literals) (take 0 log) ≡ known
none_known known log = append-nil known

pub one_known : (known : List (List ℕ)) (first : Lemma) (log : List Lemma) (k : ℕ) → (known ++ first.literals ∷ []) ++ map (λ (x : Lemma). x.literals) (take k log) ≡ known ++ map (λ (x : Lemma). x.literals) (take (suc k) (first ∷ log))
one_known known first log k = append_assoc known (first.literals ∷ []) (map (λ (x : Lemma). x.literals) (take k log))

-- a first lemma that is good, and lemmas that are good after it
pub good_first : (variables : ℕ) (known : List (List ℕ)) (first : Lemma) (log : List Lemma) → IsGoodLemma variables known first → GoodAfter variables (known ++ first.literals ∷ []) log → GoodAfter variables known (first ∷ log)
good_first variables known first log here later zero lemma read =
    let P : Lemma → Type 0 = λ x. IsGoodLemma variables (known ++ map (λ (x : Lemma). x.literals) (take 0 (first ∷ log))) x in
    let Q : List (List ℕ) → Type 0 = λ clauses. IsGoodLemma variables clauses first in
    subst P (same_Some first lemma read) (subst Q (sym (none_known known (first ∷ log))) here)
good_first variables known first log here later (suc k) lemma read =
    let Q : List (List ℕ) → Type 0 = λ clauses. IsGoodLemma variables clauses lemma in
    subst Q (one_known known first log k) (later k lemma read)

-- and the other way round
pub first_good : (variables : ℕ) (known : List (List ℕ)) (first : Lemma) (log : List Lemma) → GoodAfter variables known (first ∷ log) → IsGoodLemma variables known first
first_good variables known first log good =
    let Q : List (List ℕ) → Type 0 = λ clauses. IsGoodLemma variables clauses first in
    subst Q (none_known known (first ∷ log)) (good 0 first refl)

pub rest_good : (variables : ℕ) (known : List (List ℕ)) (first : Lemma) (log : List Lemma) → GoodAfter variables known (first ∷ log) → GoodAfter variables (known ++ first.literals ∷ []) log
rest_good variables known first log good k lemma read =
    let R : List (List ℕ) → Type 0 = λ clauses. IsGoodLemma variables clauses lemma in
    subst R (sym (one_known known first log k)) (good (suc k) lemma read)

pub lemmas_good : (variables : ℕ) (known : List (List ℕ)) (line : ℕ) (log : List Lemma) → first_fault variables known line log ≡ None → GoodAfter variables known log
lemmas_good variables known line [] passes = λ k lemma read. absurd (none-some lemma read)
lemmas_good variables known line (first ∷ log) passes =
    let parts = or_else_none (lemma_fault variables known line first) (first_fault variables (known ++ first.literals ∷ []) (line + 1) log) passes in
    good_first variables known first log (good_lemma variables known line first parts.0) (lemmas_good variables (known ++ first.literals ∷ []) (line + 1) log parts.1)

pub good_passes : (variables : ℕ) (known : List (List ℕ)) (line : ℕ) (log : List Lemma) → GoodAfter variables known log → first_fault variables known line log ≡ None
good_passes variables known line [] good = refl
good_passes variables known line (first ∷ log) good =
    ap (λ f. or_else f (first_fault variables (known ++ first.literals ∷ []) (line + 1) log)) (lemma_passes variables known line first (first_good variables known first log good))
    ∙ good_passes variables (known ++ first.literals ∷ []) (line + 1) log (rest_good variables known first log good)

-- an empty last lemma
nil_counted : (xs : List ℕ) → (length xs == 0) ≡ true → xs ≡ []
nil_counted [] h = refl
nil_counted (x ∷ xs) h = let e : length (x ∷ xs) ≡ 0 = eqb-true (length (x ∷ xs)) 0 h in absurd (omega (arith, e))

pub end_tested : (log : List Lemma) → ends_empty log ≡ true → EndsEmpty log
end_tested [] h = absurd (false≢true h)
end_tested (lemma ∷ []) h = ([], (lemma, refl, nil_counted lemma.literals h))
end_tested (lemma ∷ next ∷ log) h = let later = end_tested (next ∷ log) h in (lemma ∷ later.0, (later.1.0, ap (λ xs. lemma ∷ xs) later.1.1, later.1.2))

end_appended : (earlier : List Lemma) (last : Lemma) → last.literals ≡ [] → ends_empty (earlier ++ last ∷ []) ≡ true
end_appended [] last none = ap (λ xs. length xs == 0) none
end_appended (x ∷ []) last none = ap (λ xs. length xs == 0) none
end_appended (x ∷ y ∷ earlier) last none = end_appended (y ∷ earlier) last none

pub tested_end : (log : List Lemma) → EndsEmpty log → ends_empty log ≡ true
tested_end log end = ap ends_empty end.1.1 ∙ end_appended end.0 end.1.0 end.1.2

pub refutes : (formula : Cnf) (log : List Lemma) → first_fault formula.variables formula.clauses 2 log ≡ None → ends_empty log ≡ true → IsRefutation formula log
refutes formula log passes ends = record { good = lemmas_good formula.variables formula.clauses 2 log passes; end = end_tested log ends }

pub no_fault_refutes : (formula : Cnf) (log : List Lemma) → refutation_fault formula log ≡ None → IsRefutation formula log
no_fault_refutes formula log none =
    let parts = or_else_none (first_fault formula.variables formula.clauses 2 log) (cond (ends_empty log) None (Some NotEmpty)) none in
    refutes formula log parts.0 (cond_some (ends_empty log) NotEmpty parts.1)

pub refutation_passes : (formula : Cnf) (log : List Lemma) → IsRefutation formula log → refutation_fault formula log ≡ None
refutation_passes formula log refutation =
    ap (λ f. or_else f (cond (ends_empty log) None (Some NotEmpty))) (good_passes formula.variables formula.clauses 2 log refutation.good)
    ∙ ap (λ b. cond b None (Some NotEmpty)) (tested_end log refutation.end)

-- the test of the last lemma, by its place
pub ends_empty_is : (log : List Lemma) (n : ℕ) (lemma : Lemma) → suc n ≡ length log → slice_get log n ≡ Some lemma → ends_empty log ≡ (length lemma.literals == 0)
ends_empty_is [] n lemma size read = absurd (omega (arith, size))
ends_empty_is (x ∷ []) zero lemma size read = ap (λ (y : Lemma). length y.literals == 0) (same_Some x lemma read)
ends_empty_is (x ∷ []) (suc n) lemma size read = absurd (omega (arith, size))
ends_empty_is (x ∷ y ∷ log) zero lemma size read = absurd (omega (arith, size))
ends_empty_is (x ∷ y ∷ log) (suc n) lemma size read = ends_empty_is (y ∷ log) n lemma (omega (arith, size)) read

-- the two together
pub refutation_law : (formula : Cnf) (log : List Lemma) → (refutation_fault formula log ≡ None) ↔ IsRefutation formula log
refutation_law formula log = (no_fault_refutes formula log, refutation_passes formula log)

pub empty_tested : (r : Bool) (xs : List ℕ) → (IsTrue r ↔ (xs ≡ [])) → r ≡ (length xs == 0)
empty_tested true [] h = refl
empty_tested true (x ∷ xs) h = let none : x ∷ xs ≡ [] = h.0 refl in absurd cc
empty_tested false [] h = absurd (false≢true (h.1 refl))
empty_tested false (x ∷ xs) h = elim (eqb_tells (length (x ∷ xs)) 0) [ inl same ↦ absurd (omega (arith, same.1)) | inr other ↦ sym other.0 ]
