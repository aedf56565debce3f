-- What a clause of two literals says.
use Rattle.std.proofs.Common.{◌≡◌, ℕ, ◌+◌, ◌*◌, ◌/◌, ◌%◌, ◌==◌, ◌||◌, ◌<◌, not, Bool, true, false, cond, List, [], ◌∷◌, get_or, refl, sym, ◌∙◌, ap, arith, eq-eqb, ◌⊎◌, inl, inr}
use Rattle.std.proofs.lemmas.Bool.{false≢true, cases_Bool, ne_eqb}
use Rattle.std.proofs.lemmas.List.Folds.{Any-from_list_any, list_any_at}
use Rattle.literals_core.specs.Formula.{plus, minus}
use Rattle.literals_core.specs.Values.{literal_true, clause_true}
use Rattle.encoding_rules.specs.Each.{listed}
use Rattle.encoding_rules.proofs.EachFacts.{length-listed, listed_at}

truth : (v : ℕ → Bool) (m h : ℕ) (b : Bool) → m / 2 ≡ h → (m % 2 == 0) ≡ b → literal_true v m ≡ cond b (v h) (not (v h))
truth v m h b half parity = ap (λ n. cond (m % 2 == 0) (v n) (not (v n))) half ∙ ap (λ p. cond p (v h) (not (v h))) parity

pub plus_true : (v : ℕ → Bool) (x : ℕ) → literal_true v (plus x) ≡ v x
plus_true v x = truth v (2 * x) x true (omega arith) (eq-eqb (2 * x % 2) 0 (omega arith))

pub minus_true : (v : ℕ → Bool) (x : ℕ) → literal_true v (minus x) ≡ not (v x)
minus_true v x = truth v (2 * x + 1) x false (omega arith) (ne_eqb ((2 * x + 1) % 2) 0 (λ e. absurd (omega (arith, e))))

or_is : (a b p q : Bool) → a ≡ p → b ≡ q → (a || (b || false)) ≡ true → (p ≡ true) ⊎ (q ≡ true)
or_is true b p q e f h = inl (sym e)
or_is false true p q e f h = inr (sym f)
or_is false false p q e f h = absurd (false≢true h)

is_or : (a b p q : Bool) → a ≡ p → b ≡ q → (p ≡ true) ⊎ (q ≡ true) → (a || (b || false)) ≡ true
is_or true b p q e f h = refl
is_or false true p q e f h = refl
is_or false false p q e f (inl h) = absurd (false≢true (e ∙ h))
is_or false false p q e f (inr h) = absurd (false≢true (f ∙ h))

not_both : (b : Bool) → not b ≡ true → b ≡ true → ⊥
not_both true h e = absurd (false≢true h)
not_both false h e = absurd (false≢true e)

not_is : (b : Bool) → b ≡ false → not b ≡ true
not_is true h = absurd (false≢true (sym h))
not_is false h = refl

is_not : (b : Bool) → not b ≡ true → b ≡ false
is_not true h = absurd (false≢true h)
is_not false h = refl

-- one variable with a minus and another with a plus: the first's value gives the second's
pub gives : (v : ℕ → Bool) (x y : ℕ) → clause_true v (minus x ∷ plus y ∷ []) ≡ true → v x ≡ true → v y ≡ true
gives v x y h e = elim (or_is (literal_true v (minus x)) (literal_true v (plus y)) (not (v x)) (v y) (minus_true v x) (plus_true v y) h) [
  | inl n ↦ absurd (not_both (v x) n e)
  | inr p ↦ p
]

pub given : (v : ℕ → Bool) (x y : ℕ) → (v x ≡ true → v y ≡ true) → clause_true v (minus x ∷ plus y ∷ []) ≡ true
given v x y h = is_or (literal_true v (minus x)) (literal_true v (plus y)) (not (v x)) (v y) (minus_true v x) (plus_true v y)
    (elim (cases_Bool (v x)) [ inl e ↦ inr (h e) | inr e ↦ inl (not_is (v x) e) ])

-- two variables with a minus: not both are true
pub excludes : (v : ℕ → Bool) (x y : ℕ) → clause_true v (minus x ∷ minus y ∷ []) ≡ true → v x ≡ true → v y ≡ false
excludes v x y h e = elim (or_is (literal_true v (minus x)) (literal_true v (minus y)) (not (v x)) (not (v y)) (minus_true v x) (minus_true v y) h) [
  | inl n ↦ absurd (not_both (v x) n e)
  | inr p ↦ is_not (v y) p
]

pub excluded : (v : ℕ → Bool) (x y : ℕ) → (v x ≡ true → v y ≡ false) → clause_true v (minus x ∷ minus y ∷ []) ≡ true
excluded v x y h = is_or (literal_true v (minus x)) (literal_true v (minus y)) (not (v x)) (not (v y)) (minus_true v x) (minus_true v y)
    (elim (cases_Bool (v x)) [ inl e ↦ inr (not_is (v y) (h e)) | inr e ↦ inl (not_is (v x) e) ])

-- variables with a plus: some is true
pub some_of : (v : ℕ → Bool) (f : ℕ → ℕ) (n : ℕ) → clause_true v (listed (λ i. plus (f i)) n) ≡ true → (i : ℕ) × (i < n) × (v (f i) ≡ true)
some_of v f n h =
    let ls : List ℕ = listed (λ i. plus (f i)) n in
    let any = Any-from_list_any (literal_true v) ls h in
    let size : any.0 < n = (let lt = any.2 in omega (arith, lt, length-listed (λ i. plus (f i)) n)) in
    let here : plus (f any.0) ≡ any.1 = sym (listed_at (λ i. plus (f i)) n any.0 any.1 size) ∙ any.3 in
    (any.0, size, sym (plus_true v (f any.0)) ∙ ap (literal_true v) here ∙ any.4)

pub of_some : (v : ℕ → Bool) (f : ℕ → ℕ) (n i : ℕ) → i < n → v (f i) ≡ true → clause_true v (listed (λ i. plus (f i)) n) ≡ true
of_some v f n i lt e =
    let here : literal_true v (get_or (listed (λ i. plus (f i)) n) i 0) ≡ true = ap (literal_true v) (listed_at (λ i. plus (f i)) n i 0 lt) ∙ plus_true v (f i) ∙ e in
    list_any_at (literal_true v) (listed (λ i. plus (f i)) n) i 0 (omega (arith, lt, length-listed (λ i. plus (f i)) n)) here
