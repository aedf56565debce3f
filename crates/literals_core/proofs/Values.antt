-- Truth values of a literal and its negation, and of what unit propagation gives.
use Rattle.std.proofs.Common.{◌≡◌, ◌≢◌, ℕ, ◌+◌, ◌-◌, ◌/◌, ◌%◌, ◌==◌, ◌||◌, not, Bool, true, false, cond, List, [], ◌∷◌, refl, sym, ◌∙◌, ap, arith, eq-eqb, inl, inr}
use Rattle.std.specs.List.{All, Contains}
use Rattle.std.proofs.Math.Bool.{not-not}
use Rattle.std.proofs.lemmas.Bool.{false≢true, cases_Bool, cases_eq, ne_eqb}
use Rattle.std.proofs.lemmas.Bool.Decides.{eqb_tells}
use Rattle.std.proofs.lemmas.List.Elements.{All-contains}
use Rattle.literals_core.specs.Literal.{negation}
use Rattle.literals_core.specs.Values.{literal_true, clause_true, Satisfies}
use Rattle.literals_core.specs.Propagation.{IsGiven, of_set, by_unit, MeetsConflict}
use Rattle.literals_core.proofs.Members.{Contains-first, Contains-later}

-- the value of a literal by its variable and its sign
literal_value : (v : ℕ → Bool) (m h : ℕ) (b : Bool) → m / 2 ≡ h → (m % 2 == 0) ≡ b → literal_true v m ≡ cond b (v h) (not (v h))
literal_value v m h b half parity = ap (λ n. cond (m % 2 == 0) (v n) (not (v n))) half ∙ ap (λ p. cond p (v h) (not (v h))) parity

odd_is_one : (l : ℕ) → l % 2 ≢ 0 → l % 2 ≡ 1
odd_is_one l h = omega (arith, h)

-- the negation of a literal has the other value
pub negation_flips : (v : ℕ → Bool) (l : ℕ) → literal_true v (negation l) ≡ not (literal_true v l)
negation_flips v l =
    elim (eqb_tells (l % 2) 0) [
      | inl even ↦ (let up : negation l ≡ l + 1 = ap (λ t. cond t (l + 1) (l - 1)) even.0 in
          let here : literal_true v l ≡ v (l / 2) = literal_value v l (l / 2) true refl even.0 in
          let odd : ((l + 1) % 2 == 0) ≡ false = ne_eqb ((l + 1) % 2) 0 (omega arith) in
          let there : literal_true v (l + 1) ≡ not (v (l / 2)) = literal_value v (l + 1) (l / 2) false (omega arith) odd in
          ap (literal_true v) up ∙ there ∙ ap not (sym here))
      | inr odd ↦ (let down : negation l ≡ l - 1 = ap (λ t. cond t (l + 1) (l - 1)) odd.0 in
          let parity : l % 2 ≡ 1 = odd_is_one l odd.1 in
          let here : literal_true v l ≡ not (v (l / 2)) = literal_value v l (l / 2) false refl odd.0 in
          let even : ((l - 1) % 2 == 0) ≡ true = eq-eqb ((l - 1) % 2) 0 (omega arith) in
          let there : literal_true v (l - 1) ≡ v (l / 2) = literal_value v (l - 1) (l / 2) true (omega arith) even in
          ap (literal_true v) down ∙ there ∙ sym (not-not (v (l / 2))) ∙ ap not (sym here))
    ]

-- a true clause has a true literal
pub some_true : (v : ℕ → Bool) (clause : List ℕ) → clause_true v clause ≡ true → (x : ℕ) × Contains clause x × (literal_true v x ≡ true)
some_true v [] holds = absurd (false≢true holds)
some_true v (x ∷ clause) holds =
    elim (cases_Bool (literal_true v x)) [
      | inl good ↦ (x, Contains-first x clause, good)
      | inr bad ↦ (let later = some_true v clause (sym (ap (λ b. b || clause_true v clause) bad) ∙ holds) in (later.0, Contains-later x later.0 clause later.1, later.2))
    ]

-- a literal and its negation are not both true
pub not_both_true : (v : ℕ → Bool) (l : ℕ) → literal_true v l ≡ true → literal_true v (negation l) ≡ true → ⊥
not_both_true v l holds other = false≢true (sym (ap not holds) ∙ sym (negation_flips v l) ∙ other)

-- values that make the clauses and the set true make each given literal true
pub given_true : (v : ℕ → Bool) (clauses : List (List ℕ)) (set : List ℕ) (l : ℕ) → Satisfies v clauses → All (λ x. literal_true v x ≡ true) set → IsGiven clauses set l → literal_true v l ≡ true
given_true v clauses set l good all (of_set has) = All-contains (λ x. literal_true v x ≡ true) set l all has
given_true v clauses set l good all (by_unit {clause} among has others) =
    from (some_true v clause (All-contains (λ c. clause_true v c ≡ true) clauses clause good among)) (λ x inside other. given_true v clauses set (negation x) good all (others x inside other))
  where
    from : (x : ℕ) × Contains clause x × (literal_true v x ≡ true) → ((x : ℕ) → Contains clause x → x ≢ l → literal_true v (negation x) ≡ true) → literal_true v l ≡ true
    from (x, inside, holds) negated = elim (cases_eq x l) [
      | inl same ↦ sym (ap (literal_true v) same) ∙ holds
      | inr other ↦ absurd (not_both_true v x holds (negated x inside other))
    ]

-- so a conflict leaves no such values
pub conflict_refutes : (v : ℕ → Bool) (clauses : List (List ℕ)) (set : List ℕ) → Satisfies v clauses → All (λ x. literal_true v x ≡ true) set → ¬ MeetsConflict clauses set
conflict_refutes v clauses set good all conflict =
    let some = some_true v conflict.clause (All-contains (λ c. clause_true v c ≡ true) clauses conflict.clause good conflict.among) in
    let given = All-contains (λ l. IsGiven clauses set (negation l)) conflict.clause some.0 conflict.refuted some.1 in
    not_both_true v some.0 some.2 (given_true v clauses set (negation some.0) good all given)
