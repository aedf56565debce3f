-- A lemma of a fresh log does not have all literals of a clause before it, and unit propagation does not give it.
use Rattle.std.proofs.Common.{◌≡◌, ◌≢◌, ◌==◌, not, cond, ℕ, List, [], ◌∷◌, map, sym, ◌∙◌, ap, subst, Some, ◌⊎◌, inl, inr}
use Rattle.std.specs.List.{All, Contains, filter, slice_get}
use Rattle.std.proofs.lemmas.Bool.{cases_eq}
use Rattle.std.proofs.lemmas.Bool.Decides.{eqb_tells}
use Rattle.std.proofs.lemmas.List.Elements.{All-contains, All-cons, All-nil, All-head, All-tail}
use Rattle.literals_core.specs.Literal.{negation}
use Rattle.literals_core.specs.Truth.{IsTrueUnder, IsFalseUnder}
use Rattle.literals_core.specs.Settled.{IsSettled}
use Rattle.literals_core.specs.Formula.{Cnf}
use Rattle.chain_core.specs.Log.{known_before}
use Rattle.literals_core.specs.Propagation.{IsGiven, of_set, by_unit, MeetsConflict}
use Rattle.chain_core.specs.Fresh.{HasNoPair, LeavesOne, ShowsFresh, IsFresh, others_negated, PropagationLeavesOne}
use Rattle.chain_core.specs.declared.log.Lemma.{Lemma}

module _ (set literals : List ℕ) (consistent : HasNoPair set) (one : LeavesOne set literals) where
  -- the literal that is left is the only one that is not false
  only_left : (x : ℕ) → Contains literals x → ¬ IsFalseUnder set x → x ≡ one.left
  only_left x among not_false =
      elim (All-contains (λ y. (y ≡ one.left) ⊎ IsFalseUnder set y) literals x one.others among) [ inl same ↦ same | inr out ↦ absurd (not_false out) ]

  -- and none is true
  none_true : (x : ℕ) → Contains literals x → ¬ IsTrueUnder set x
  none_true x among holds =
      elim (All-contains (λ y. (y ≡ one.left) ⊎ IsFalseUnder set y) literals x one.others among) [
        | inl same ↦ one.not_true (subst (IsTrueUnder set) same holds)
        | inr out ↦ All-contains (λ l. ¬ Contains set (negation l)) set x consistent holds out
      ]

  -- so no clause of which propagation has nothing to say is among them
  not_inside : (clause : List ℕ) → IsSettled set clause → ¬ All (Contains literals) clause
  not_inside clause (inl (k, x, lt, is, holds)) inside = none_true x (All-contains (Contains literals) clause x inside (k, lt, is)) holds
  not_inside clause (inr two) inside =
      let first = only_left two.first (All-contains (Contains literals) clause two.first inside two.among.0) two.not_false.0 in
      let second = only_left two.second (All-contains (Contains literals) clause two.second inside two.among.1) two.not_false.1 in
      two.differ (first ∙ sym second)

pub fresh_lemma : (formula : Cnf) (log : List Lemma) (k : ℕ) (lemma : Lemma) (clause : List ℕ) → IsFresh formula log → slice_get log k ≡ Some lemma → Contains (known_before formula log k) clause → ¬ All (Contains lemma.literals) clause
fresh_lemma formula log k lemma clause fresh at among =
    let shown = (fresh k lemma at).1 in
    not_inside shown.0 lemma.literals shown.1.consistent shown.1.one clause (All-contains (IsSettled shown.0) (known_before formula log k) clause shown.1.settled among)

-- a set without pairs that settles the clauses, and has the literals of another set, has all that unit propagation gives from that one
pub given_in : (clauses : List (List ℕ)) (start set : List ℕ) (l : ℕ) → HasNoPair set → All (IsSettled set) clauses → All (Contains set) start → IsGiven clauses start l → Contains set l
given_in clauses start set l pair settled inside (of_set has) = All-contains (Contains set) start l inside has
given_in clauses start set l pair settled inside (by_unit {clause} among has others) =
    from (All-contains (IsSettled set) clauses clause settled among) (λ x hx other. given_in clauses start set (negation x) pair settled inside (others x hx other))
  where
    from : IsSettled set clause → ((x : ℕ) → Contains clause x → x ≢ l → Contains set (negation x)) → Contains set l
    from (inl (k, x, lt, is, holds)) out = elim (cases_eq x l) [
      | inl same ↦ subst (Contains set) same holds
      | inr other ↦ absurd (All-contains (λ y. ¬ Contains set (negation y)) set x pair holds (out x (k, lt, is) other))
    ]
    from (inr two) out = elim (cases_eq two.first l) [
      | inr other ↦ absurd (two.not_false.0 (out two.first two.among.0 other))
      | inl same ↦ (elim (cases_eq two.second l) [
        | inr other ↦ absurd (two.not_false.1 (out two.second two.among.1 other))
        | inl also ↦ absurd (two.differ (same ∙ sym also))
      ])
    ]

-- so it meets no conflict
pub no_conflict_in : (clauses : List (List ℕ)) (start set : List ℕ) → HasNoPair set → All (IsSettled set) clauses → All (Contains set) start → ¬ MeetsConflict clauses start
no_conflict_in clauses start set pair settled inside conflict =
    from (All-contains (IsSettled set) clauses conflict.clause settled conflict.among) (λ x has. given_in clauses start set (negation x) pair settled inside (All-contains (λ l. IsGiven clauses start (negation l)) conflict.clause x conflict.refuted has))
  where
    from : IsSettled set conflict.clause → ((x : ℕ) → Contains conflict.clause x → Contains set (negation x)) → ⊥
    from (inl (k, x, lt, is, holds)) out = All-contains (λ y. ¬ Contains set (negation y)) set x pair holds (out x (k, lt, is))
    from (inr two) out = two.not_false.0 (out two.first two.among.0)

-- the negations of the other literals are in the set
others_inside : (set : List ℕ) (left : ℕ) (literals : List ℕ) → All (λ x. (x ≡ left) ⊎ IsFalseUnder set x) literals → All (Contains set) (others_negated left literals)
others_inside set left [] all = All-nil (Contains set)
others_inside set left (x ∷ literals) all =
    let P : ℕ → Type 0 = λ y. (y ≡ left) ⊎ IsFalseUnder set y in
    let Q : List ℕ → Type 0 = λ ls. All (Contains set) (map negation ls) in
    let later : List ℕ = filter (λ l. not (l == left)) literals in
    let rest : Q later = others_inside set left literals (All-tail P x literals all) in
    elim (eqb_tells x left) [
      | inl same ↦ subst Q (sym (ap (λ b. cond (not b) (x ∷ later) later) same.0)) rest
      | inr other ↦
          (let out : Contains set (negation x) = elim (All-head P x literals all) [ inl e ↦ absurd (other.1 e) | inr out ↦ out ] in
          subst Q (sym (ap (λ b. cond (not b) (x ∷ later) later) other.0)) (All-cons (Contains set) (negation x) (map negation later) out rest))
    ]

leaves_one : (known : List (List ℕ)) (literals set : List ℕ) → ShowsFresh known literals set → PropagationLeavesOne known literals
leaves_one known literals set shows =
    let left : ℕ = shows.one.left in
    let inside = others_inside set left literals shows.one.others in
    let start : List ℕ = others_negated left literals in
    record {
      left = left;
      among = shows.one.among;
      no_conflict = no_conflict_in known start set shows.consistent shows.settled inside;
      not_given = λ given. shows.one.not_true (given_in known start set left shows.consistent shows.settled inside given);
      not_refuted = λ given. shows.one.not_false (given_in known start set (negation left) shows.consistent shows.settled inside given);
    }

pub fresh_left : (formula : Cnf) (log : List Lemma) (k : ℕ) (lemma : Lemma) → IsFresh formula log → slice_get log k ≡ Some lemma → PropagationLeavesOne (known_before formula log k) lemma.literals
fresh_left formula log k lemma fresh at = let shown = (fresh k lemma at).1 in leaves_one (known_before formula log k) lemma.literals shown.0 shown.1
