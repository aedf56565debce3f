-- What a chain says of truth values.
use Rattle.std.proofs.Common.{◌≡◌, ℕ, ◌||◌, not, Bool, true, false, List, [], ◌∷◌, ◌++◌, map, sym, ◌∙◌, ap, subst, ◌⊎◌, inl, inr}
use Rattle.std.specs.List.{All}
use Rattle.std.proofs.lemmas.Bool.{false≢true, cases_Bool}
use Rattle.std.proofs.lemmas.List.Elements.{All-push, All-cons, All-nil, All-contains, Contains-push}
use Rattle.literals_core.specs.Literal.{negation}
use Rattle.literals_core.specs.Truth.{IsFalseUnder}
use Rattle.literals_core.proofs.Values.{negation_flips, not_both_true, some_true}
use Rattle.literals_core.specs.Formula.{Cnf}
use Rattle.chain_core.specs.Chain.{Chains, ends, adds}
use Rattle.chain_core.specs.Log.{IsGoodLemma, IsRefutation}
use Rattle.literals_core.specs.Values.{literal_true, clause_true, Satisfies, IsUnsatisfiable}
use Rattle.chain_core.specs.declared.log.Lemma.{Lemma}
use Rattle.chain_core.proofs.KnownLemmas.{All-clause_at}
use Rattle.chain_core.proofs.GoodLemmas.{GoodAfter, first_good, rest_good}

abbrev IsTrueAt : (ℕ → Bool) → ℕ → Type 0
IsTrueAt v l = literal_true v l ≡ true

-- a literal that is false under a set of true ones is false
false_under : (v : ℕ → Bool) (set : List ℕ) (l : ℕ) → All (IsTrueAt v) set → IsFalseUnder set l → IsTrueAt v l → ⊥
false_under v set l all out holds =
    not_both_true v l holds (All-contains (IsTrueAt v) set (negation l) all out)

-- a chain contradicts truth values of all clauses and of its set
chain_sound : (v : ℕ → Bool) {known : List (List ℕ)} {set hints : List ℕ} → Satisfies v known → All (IsTrueAt v) set → Chains known set hints → ⊥
chain_sound v {known} {set} good all (ends {hints} {clause} {h} at out) =
    let some = some_true v clause (All-clause_at (λ c. clause_true v c ≡ true) known h clause good at) in
    false_under v set some.0 all (All-contains (IsFalseUnder set) clause some.0 out some.1) some.2
chain_sound v {known} {set} good all (adds {hints} {clause} {h} {l} at only more) =
    let some = some_true v clause (All-clause_at (λ c. clause_true v c ≡ true) known h clause good at) in
    let holds : IsTrueAt v l = elim (All-contains (λ x. (x ≡ l) ⊎ IsFalseUnder set x) clause some.0 only.others some.1) [
      | inl same ↦ sym (ap (literal_true v) same) ∙ some.2
      | inr out ↦ absurd (false_under v set some.0 all out some.2)
    ] in
    chain_sound v good (All-cons (IsTrueAt v) l set holds all) more

negations_true : (v : ℕ → Bool) (clause : List ℕ) → clause_true v clause ≡ false → All (IsTrueAt v) (map negation clause)
negations_true v [] none = All-nil (IsTrueAt v)
negations_true v (l ∷ clause) none =
    elim (cases_Bool (literal_true v l)) [
      | inl good ↦ absurd (false≢true (sym none ∙ ap (λ b. b || clause_true v clause) good))
      | inr bad ↦ All-cons (IsTrueAt v) (negation l) (map negation clause) (negation_flips v l ∙ ap not bad) (negations_true v clause (sym (ap (λ b. b || clause_true v clause) bad) ∙ none))
    ]

-- a good lemma is true if the clauses before it are
lemma_sound : (v : ℕ → Bool) (known : List (List ℕ)) (variables : ℕ) (lemma : Lemma) → Satisfies v known → IsGoodLemma variables known lemma → clause_true v lemma.literals ≡ true
lemma_sound v known variables lemma holds good =
    elim (cases_Bool (clause_true v lemma.literals)) [
      | inl yes' ↦ yes'
      | inr bad ↦ absurd (chain_sound v holds (negations_true v lemma.literals bad) good.chain)
    ]

-- so every lemma of a good log is
log_sound : (v : ℕ → Bool) (variables : ℕ) (known : List (List ℕ)) (log : List Lemma) → Satisfies v known → GoodAfter variables known log → All (λ lemma. clause_true v lemma.literals ≡ true) log
log_sound v variables known [] holds good = All-nil (λ (lemma : Lemma). clause_true v lemma.literals ≡ true)
log_sound v variables known (first ∷ log) holds good =
    let here = lemma_sound v known variables first holds (first_good variables known first log good) in
    All-cons (λ (lemma : Lemma). clause_true v lemma.literals ≡ true) first log here
    (log_sound v variables (known ++ first.literals ∷ []) log (All-push (λ c. clause_true v c ≡ true) known first.literals holds here) (rest_good variables known first log good))

pub refutation_sound : (formula : Cnf) (log : List Lemma) → IsRefutation formula log → IsUnsatisfiable formula
refutation_sound formula log refutation v holds =
    let all = log_sound v formula.variables formula.clauses log holds refutation.good in
    let earlier : List Lemma = refutation.end.0 in
    let last : Lemma = refutation.end.1.0 in
    let P : List Lemma → Type 0 = λ lemmas. All (λ lemma. clause_true v lemma.literals ≡ true) lemmas in
    let here : clause_true v last.literals ≡ true = All-contains (λ (lemma : Lemma). clause_true v lemma.literals ≡ true) (earlier ++ last ∷ []) last (subst P refutation.end.1.1 all) (Contains-push earlier last) in
    false≢true (ap (clause_true v) (sym refutation.end.1.2) ∙ here)
