-- Literals of variables that are numbered from another number on.
use Rattle.std.proofs.Common.{◌≡◌, ℕ, ◌+◌, ◌*◌, ◌%◌, ◌==◌, ◌||◌, not, Bool, true, cond, List, [], ◌∷◌, map, length, refl, sym, ◌∙◌, ap, arith, eq-eqb, subst, inl, inr, ◌↔◌}
use Rattle.std.specs.List.{Contains, list_any}
use Rattle.std.proofs.lemmas.Bool.{cases_Bool, ne_eqb}
use Rattle.std.proofs.lemmas.Bool.Decides.{eqb_tells, nat_tests}
use Rattle.std.proofs.lemmas.List.{length-map}
use Rattle.std.proofs.lemmas.List.Folds.{Any-from_list_any, list_any-from_Any}
use Rattle.literals_core.specs.Literal.{variable_of, negation}
use Rattle.literals_core.specs.Truth.{IsFalseUnder, is_true, is_false, open_literals}
use Rattle.literals_core.specs.Settled.{HasTwoOpen, IsSettled, IsSettledByCount}
use Rattle.literals_core.specs.Values.{literal_true, clause_true}
use Rattle.literals_core.specs.Raised.{raised, all_raised}
use Rattle.literals_core.proofs.Members.{Contains-first, Contains-later, Contains-cases, Contains-none}
use Rattle.literals_core.proofs.Truth.{tested_true, true_tested, open_more, open_skip}

pub raised_variable : (by l : ℕ) → variable_of (raised by l) ≡ variable_of l + by
raised_variable by l = omega arith

pub raised_negation : (by l : ℕ) → negation (raised by l) ≡ raised by (negation l)
raised_negation by l = grind (arith, nat_tests)

same_test : (n x l : ℕ) → (x + n == l + n) ≡ (x == l)
same_test n x l = elim (eqb_tells x l) [
  | inl same ↦ eq-eqb (x + n) (l + n) (ap (λ k. k + n) same.1) ∙ sym same.0
  | inr other ↦ ne_eqb (x + n) (l + n) (λ e. other.1 (omega (arith, e))) ∙ sym other.0
]

pub raised_true : (by : ℕ) (set : List ℕ) (l : ℕ) → is_true (all_raised by set) (raised by l) ≡ is_true set l
raised_true by [] l = refl
raised_true by (x ∷ set) l = ap (λ b. b || is_true (all_raised by set) (raised by l)) (same_test (2 * by) x l) ∙ ap (λ b. (x == l) || b) (raised_true by set l)

pub raised_false : (by : ℕ) (set : List ℕ) (l : ℕ) → is_false (all_raised by set) (raised by l) ≡ is_false set l
raised_false by set l = ap (is_true (all_raised by set)) (raised_negation by l) ∙ raised_true by set (negation l)

pub raised_open : (by : ℕ) (set clause : List ℕ) → open_literals (all_raised by set) (all_raised by clause) ≡ all_raised by (open_literals set clause)
raised_open by set [] = refl
raised_open by set (x ∷ clause) =
    let rest = raised_open by set clause in
    let same = raised_false by set x in
    elim (cases_Bool (is_false set x)) [
      | inl out ↦ open_skip (all_raised by set) (raised by x) (all_raised by clause) (same ∙ out) ∙ rest ∙ ap (all_raised by) (sym (open_skip set x clause out))
      | inr stays ↦ open_more (all_raised by set) (raised by x) (all_raised by clause) (same ∙ stays) ∙ ap (λ ls. raised by x ∷ ls) rest ∙ ap (all_raised by) (sym (open_more set x clause stays))
    ]

-- whether some literal is true
raised_any : (by : ℕ) (set clause : List ℕ) → list_any (is_true (all_raised by set)) (all_raised by clause) ≡ list_any (is_true set) clause
raised_any by set [] = refl
raised_any by set (x ∷ clause) =
    ap (λ b. b || list_any (is_true (all_raised by set)) (all_raised by clause)) (raised_true by set x) ∙ ap (λ b. is_true set x || b) (raised_any by set clause)

mapped : (f : ℕ → ℕ) (xs : List ℕ) (x : ℕ) → Contains xs x → Contains (map f xs) (f x)
mapped f [] x h = absurd (Contains-none x h)
mapped f (y ∷ xs) x h = elim (Contains-cases y x xs h) [
  | inl same ↦ subst (λ z. Contains (map f (y ∷ xs)) (f z)) same (Contains-first (f y) (map f xs))
  | inr later ↦ Contains-later (f y) (f x) (map f xs) (mapped f xs x later)
]

unmapped : (f : ℕ → ℕ) (xs : List ℕ) (y : ℕ) → Contains (map f xs) y → (x : ℕ) × Contains xs x × (f x ≡ y)
unmapped f [] y h = absurd (Contains-none y h)
unmapped f (x ∷ xs) y h = elim (Contains-cases (f x) y (map f xs) h) [
  | inl same ↦ (x, Contains-first x xs, same)
  | inr later ↦ (let rest = unmapped f xs y later in (rest.0, Contains-later x rest.0 xs rest.1, rest.2))
]

-- false literals stay false, and become false no other way
raise_false : (by : ℕ) (set : List ℕ) (l : ℕ) → IsFalseUnder set l → IsFalseUnder (all_raised by set) (raised by l)
raise_false by set l out = tested_true (all_raised by set) (negation (raised by l)) (raised_false by set l ∙ true_tested set (negation l) out)

lower_false : (by : ℕ) (set : List ℕ) (l : ℕ) → IsFalseUnder (all_raised by set) (raised by l) → IsFalseUnder set l
lower_false by set l out = tested_true set (negation l) (sym (raised_false by set l) ∙ true_tested (all_raised by set) (negation (raised by l)) out)

raise_two : (by : ℕ) (set clause : List ℕ) → HasTwoOpen set clause → HasTwoOpen (all_raised by set) (all_raised by clause)
raise_two by set clause two = record {
  first = raised by two.first;
  second = raised by two.second;
  differ = λ e. two.differ (omega (arith, e));
  among = (mapped (raised by) clause two.first two.among.0, mapped (raised by) clause two.second two.among.1);
  not_false = (λ out. two.not_false.0 (lower_false by set two.first out), λ out. two.not_false.1 (lower_false by set two.second out));
}

lower_two : (by : ℕ) (set clause : List ℕ) → HasTwoOpen (all_raised by set) (all_raised by clause) → HasTwoOpen set clause
lower_two by set clause two =
    let a = unmapped (raised by) clause two.first two.among.0 in
    let b = unmapped (raised by) clause two.second two.among.1 in
    record {
      first = a.0;
      second = b.0;
      differ = λ e. two.differ (sym a.2 ∙ ap (raised by) e ∙ b.2);
      among = (a.1, b.1);
      not_false = (
        λ out. two.not_false.0 (subst (IsFalseUnder (all_raised by set)) a.2 (raise_false by set a.0 out)),
        λ out. two.not_false.1 (subst (IsFalseUnder (all_raised by set)) b.2 (raise_false by set b.0 out)),
      );
    }

any_true : (set clause : List ℕ) → list_any (is_true set) clause ≡ true → IsSettled set clause
any_true set clause some = let a = Any-from_list_any (is_true set) clause some in inl (a.0, a.1, a.2, a.3, tested_true set a.1 a.4)

pub raised_settled : (by : ℕ) (set clause : List ℕ) → IsSettled set clause → IsSettled (all_raised by set) (all_raised by clause)
raised_settled by set clause (inl (k, x, lt, is, holds)) = any_true (all_raised by set) (all_raised by clause) (raised_any by set clause ∙ list_any-from_Any (is_true set) clause (k, x, lt, is, true_tested set x holds))
raised_settled by set clause (inr two) = inr (raise_two by set clause two)

pub settled_raised : (by : ℕ) (set clause : List ℕ) → IsSettled (all_raised by set) (all_raised by clause) → IsSettled set clause
settled_raised by set clause (inl (k, x, lt, is, holds)) =
    any_true set clause (sym (raised_any by set clause) ∙ list_any-from_Any (is_true (all_raised by set)) (all_raised by clause) (k, x, lt, is, true_tested (all_raised by set) x holds))
settled_raised by set clause (inr two) = inr (lower_two by set clause two)

raised_count : (by : ℕ) (set clause : List ℕ) → length (open_literals (all_raised by set) (all_raised by clause)) ≡ length (open_literals set clause)
raised_count by set clause = ap length (raised_open by set clause) ∙ length-map (open_literals set clause) (raised by)

pub raised_by_count : (by : ℕ) (set clause : List ℕ) → IsSettledByCount (all_raised by set) (all_raised by clause) ↔ IsSettledByCount set clause
raised_by_count by set clause = (lower, raise) where
  lower : IsSettledByCount (all_raised by set) (all_raised by clause) → IsSettledByCount set clause
  lower (inl some) = inl (sym (raised_any by set clause) ∙ some)
  lower (inr two) = inr (omega (arith, raised_count by set clause, two))

  raise : IsSettledByCount set clause → IsSettledByCount (all_raised by set) (all_raised by clause)
  raise (inl some) = inl (raised_any by set clause ∙ some)
  raise (inr two) = inr (omega (arith, raised_count by set clause, two))

raised_value : (by : ℕ) (values : ℕ → Bool) (l : ℕ) → literal_true values (raised by l) ≡ literal_true (λ v. values (v + by)) l
raised_value by values l =
    let parity : raised by l % 2 ≡ l % 2 = omega arith in
    ap (λ p. cond (p == 0) (values (variable_of (raised by l))) (not (values (variable_of (raised by l))))) parity ∙ ap (λ v. cond (l % 2 == 0) (values v) (not (values v))) (raised_variable by l)

pub raised_values : (by : ℕ) (values : ℕ → Bool) (clause : List ℕ) → clause_true values (all_raised by clause) ≡ clause_true (λ v. values (v + by)) clause
raised_values by values [] = refl
raised_values by values (x ∷ clause) =
    ap (λ b. b || clause_true values (all_raised by clause)) (raised_value by values x) ∙ ap (λ b. literal_true (λ v. values (v + by)) x || b) (raised_values by values clause)
