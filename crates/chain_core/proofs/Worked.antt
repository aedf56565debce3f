-- Worked values of fresh lemmas. The literals of variable 1 are 2 and 3, those of variable 2 are 4 and 5.
use Rattle.std.proofs.Common.{◌≡◌, ℕ, List, [], ◌∷◌, refl, sym, subst, arith, ◌∙◌, inl, inr, ◌⊎◌}
use Rattle.std.specs.List.{Contains}
use Rattle.std.proofs.lemmas.List.Elements.{All-contains, All-cons, All-nil}
use Rattle.literals_core.specs.Literal.{negation}
use Rattle.literals_core.specs.Truth.{IsFalseUnder}
use Rattle.literals_core.specs.Settled.{IsSettled}
use Rattle.literals_core.proofs.Members.{Contains-first, Contains-later, Contains-cases, Contains-none}
use Rattle.chain_core.specs.Fresh.{ShowsFresh}

-- the one member of a list
only : (x y : ℕ) → Contains (x ∷ []) y → x ≡ y
only x y among = elim (Contains-cases x y [] among) [ inl same ↦ same | inr none ↦ absurd (Contains-none y none) ]

-- a clause of one literal is settled by that literal alone
unit_settled : (set : List ℕ) (l : ℕ) → IsSettled set (l ∷ []) → Contains set l
unit_settled set l (inl (k, x, lt, is, holds)) = let same : l ≡ x = only l x (k, lt, is) in subst (Contains set) (sym same) holds
unit_settled set l (inr two) = absurd (two.differ (sym (only l two.first two.among.0) ∙ only l two.second two.among.1))

-- 1 is fresh after '1 or 2'
one_is_fresh : ShowsFresh ((2 ∷ 4 ∷ []) ∷ []) (2 ∷ []) []
one_is_fresh =
    let P : ℕ → Type 0 = λ x. (x ≡ 2) ⊎ IsFalseUnder [] x in
    record {
      consistent = All-nil (λ l. ¬ Contains [] (negation l));
      one = record {
        left = 2;
        among = Contains-first 2 [];
        not_true = Contains-none 2;
        not_false = Contains-none 3;
        others = All-cons P 2 [] (inl refl) (All-nil P);
      };
      settled = All-cons (IsSettled []) (2 ∷ 4 ∷ []) [] (inr (record {
        first = 2;
        second = 4;
        differ = λ e. absurd cc;
        among = (Contains-first 2 (4 ∷ []), Contains-later 2 4 (4 ∷ []) (Contains-first 4 []));
        not_false = (Contains-none 3, Contains-none 5);
      })) (All-nil (IsSettled []));
    }

-- 1 is not fresh after the clause 'not 1', which makes it false
one_after_not_one : (set : List ℕ) → ¬ ShowsFresh ((3 ∷ []) ∷ []) (2 ∷ []) set
one_after_not_one set shows =
    let left : 2 ≡ shows.one.left = only 2 shows.one.left shows.one.among in
    let has : Contains set 3 = unit_settled set 3 (All-contains (IsSettled set) ((3 ∷ []) ∷ []) (3 ∷ []) shows.settled (0, omega arith, refl)) in
    shows.one.not_false (subst (λ l. IsFalseUnder set l) left has)

-- 2 is not fresh after the clauses '1' and 'not 1', which unit propagation refutes
two_after_a_conflict : (set : List ℕ) → ¬ ShowsFresh ((2 ∷ []) ∷ (3 ∷ []) ∷ []) (4 ∷ []) set
two_after_a_conflict set shows =
    let known : List (List ℕ) = (2 ∷ []) ∷ (3 ∷ []) ∷ [] in
    let one = unit_settled set 2 (All-contains (IsSettled set) known (2 ∷ []) shows.settled (0, omega arith, refl)) in
    let other = unit_settled set 3 (All-contains (IsSettled set) known (3 ∷ []) shows.settled (1, omega arith, refl)) in
    All-contains (λ l. ¬ Contains set (negation l)) set 2 shows.consistent one other
