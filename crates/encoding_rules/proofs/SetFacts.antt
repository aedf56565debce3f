-- Sets of criteria by their flags.
use Rattle.std.proofs.Common.{◌≡◌, ℕ, zero, suc, ◌+◌, ◌-◌, ◌*◌, ◌/◌, ◌%◌, ◌^◌, ◌<◌, ◌≤◌, ◌==◌, not, Bool, true, false, cond, List, [], ◌∷◌, length, get_or, refl, sym, ap, ◌∙◌, subst, arith, inl, inr}
use Rattle.std.specs.Int.{bit_at}
use Rattle.std.proofs.Math.Nat.{pow-suc}
use Rattle.std.proofs.lemmas.Bool.{cases_eq, false≢true, eq-eqb, ne_eqb}
use Rattle.std.proofs.lemmas.Nat.Bits.{bit_at_lowest, bit_at-suc, bit_at-zero, bit_at-lt, same_from_bits_below}
use Rattle.sorting_rule.specs.Coalition.{mask_of, is_inside}
use Rattle.sorting_rule.proofs.MaskFacts.{mask_below, inside_from_flags}
use Rattle.encoding_rules.specs.Each.{listed}
use Rattle.encoding_rules.specs.Coalitions.{has}
use Rattle.encoding_rules.proofs.EachFacts.{length-listed, listed_at, listed_same}

abbrev bit : Bool → ℕ
bit b = cond b 1 0

bit_half : (b : Bool) (m : ℕ) → (bit b + 2 * m) / 2 ≡ m
bit_half true m = omega arith
bit_half false m = omega arith

bit_parity : (b : Bool) (m : ℕ) → (bit b + 2 * m) % 2 ≡ bit b
bit_parity true m = omega arith
bit_parity false m = omega arith

-- the bits of a mask are its flags
pub bit_mask : (fs : List Bool) (i : ℕ) → bit_at (mask_of fs) i ≡ bit (get_or fs i false)
bit_mask [] i = bit_at-zero i
bit_mask (f ∷ fs) zero = bit_at_lowest (bit f + 2 * mask_of fs) ∙ bit_parity f (mask_of fs)
bit_mask (f ∷ fs) (suc i) = bit_at-suc (bit f + 2 * mask_of fs) i ∙ ap (λ n. bit_at n i) (bit_half f (mask_of fs)) ∙ bit_mask fs i

bit_is_one : (b : Bool) → (bit b == 1) ≡ b
bit_is_one true = refl
bit_is_one false = refl

pub has_mask : (fs : List Bool) (i : ℕ) → has (mask_of fs) i ≡ get_or fs i false
has_mask fs i = ap (λ n. n == 1) (bit_mask fs i) ∙ bit_is_one (get_or fs i false)

bit_has : (n : ℕ) → n < 2 → bit (n == 1) ≡ n
bit_has zero lt = refl
bit_has (suc zero) lt = refl
bit_has (suc (suc n)) lt = absurd (omega (arith, lt))

-- the mask of a test below n
abbrev pub mask : (ℕ → Bool) → ℕ → ℕ
mask f n = mask_of (listed f n)

pub mask_lt : (f : ℕ → Bool) (n : ℕ) → mask f n < 2 ^ n
mask_lt f n = subst (λ m. mask f n < 2 ^ m) (length-listed f n) (mask_below (listed f n))

pub has_of : (f : ℕ → Bool) (n i : ℕ) → i < n → has (mask f n) i ≡ f i
has_of f n i lt = has_mask (listed f n) i ∙ listed_at f n i false lt

-- a set is the mask of its members
pub mask_has : (n set : ℕ) → set < 2 ^ n → mask (has set) n ≡ set
mask_has n set lt = same_from_bits_below n (mask (has set) n) set (mask_lt (has set) n) lt (λ i li.
    bit_mask (listed (has set) n) i ∙ ap bit (listed_at (has set) n i false li) ∙ bit_has (bit_at set i) (bit_at-lt set i))

pub mask_same : (f g : ℕ → Bool) (n : ℕ) → ((i : ℕ) → i < n → f i ≡ g i) → mask f n ≡ mask g n
mask_same f g n h = ap mask_of (listed_same f g n h)

-- one set is inside another if it has no other members
pub mask_inside : (f g : ℕ → Bool) (n : ℕ) → ((i : ℕ) → i < n → f i ≡ true → g i ≡ true) → is_inside (mask f n) (mask g n) ≡ true
mask_inside f g n h =
    let size = length-listed f n in
    inside_from_flags (listed f n) (listed g n) (size ∙ sym (length-listed g n)) (λ i lt set.
    let li : i < n = omega (arith, lt, size) in
    listed_at g n i false li ∙ h i li (sym (listed_at f n i false li) ∙ set))

-- ---- the members left out

opposite : (fs gs : List Bool) → length fs ≡ length gs → ((i : ℕ) → i < length fs → get_or gs i false ≡ not (get_or fs i false)) → mask_of fs + mask_of gs + 1 ≡ 2 ^ length fs
opposite [] [] e h = refl
opposite [] (g ∷ gs) e h = absurd (omega (arith, e))
opposite (f ∷ fs) [] e h = absurd (omega (arith, e))
opposite (f ∷ fs) (g ∷ gs) e h =
    let rest = opposite fs gs (omega (arith, e)) (λ i lt. h (suc i) (omega (arith, lt))) in
    let here : bit f + bit g ≡ 1 = ap (λ b. bit f + bit b) (h 0 (omega arith)) ∙ one f in
    let more : 2 ^ suc (length fs) ≡ 2 ^ length fs * 2 = pow-suc 2 (length fs) in
    omega (arith, rest, here, more)
  where
    one : (b : Bool) → bit b + bit (not b) ≡ 1
    one true = refl
    one false = refl

pub mask_not : (f : ℕ → Bool) (n : ℕ) → 2 ^ n - 1 - mask f n ≡ mask (λ i. not (f i)) n
mask_not f n =
    let size = length-listed f n in
    let other = length-listed (λ i. not (f i)) n in
    let sum : mask f n + mask (λ i. not (f i)) n + 1 ≡ 2 ^ length (listed f n) =
    opposite (listed f n) (listed (λ i. not (f i)) n) (size ∙ sym other) (λ i lt.
    let li : i < n = omega (arith, lt, size) in listed_at (λ i. not (f i)) n i false li ∙ ap not (sym (listed_at f n i false li))) in
    let whole : 2 ^ length (listed f n) ≡ 2 ^ n = ap (λ m. 2 ^ m) size in
    omega (arith, sum, whole)

-- ---- one member more

one_more : (fs gs : List Bool) (k : ℕ) → length fs ≡ length gs → k < length fs → get_or fs k false ≡ false → get_or gs k false ≡ true
    → ((i : ℕ) → i < length fs → (i ≡ k → ⊥) → get_or gs i false ≡ get_or fs i false) → mask_of gs ≡ mask_of fs + 2 ^ k
one_more [] gs k e lt off on h = absurd (omega (arith, lt))
one_more (f ∷ fs) [] k e lt off on h = absurd (omega (arith, e))
one_more (f ∷ fs) (g ∷ gs) zero e lt off on h =
    let rest : gs ≡ fs = same_rest gs fs (omega (arith, e)) (λ i li. h (suc i) (omega (arith, li, e)) (λ no'. absurd (omega (arith, no')))) in
    let here : bit g ≡ 1 = ap bit on in
    let there : bit f ≡ 0 = ap bit off in
    let tails : mask_of gs ≡ mask_of fs = ap mask_of rest in
    omega (arith, here, there, tails)
  where
    same_rest : (xs ys : List Bool) → length ys ≡ length xs → ((i : ℕ) → i < length xs → get_or xs i false ≡ get_or ys i false) → xs ≡ ys
    same_rest [] [] e h = refl
    same_rest [] (y ∷ ys) e h = absurd (omega (arith, e))
    same_rest (x ∷ xs) [] e h = absurd (omega (arith, e))
    same_rest (x ∷ xs) (y ∷ ys) e h = ap (λ b. b ∷ xs) (h 0 (omega arith)) ∙ ap (λ zs. y ∷ zs) (same_rest xs ys (omega (arith, e)) (λ i lt. h (suc i) (omega (arith, lt))))
one_more (f ∷ fs) (g ∷ gs) (suc k) e lt off on h =
    let rest = one_more fs gs k (omega (arith, e)) (omega (arith, lt)) off on (λ i li differ. h (suc i) (omega (arith, li)) (λ same. differ (omega (arith, same)))) in
    let here : bit g ≡ bit f = ap bit (h 0 (omega arith) (λ same. absurd (omega (arith, same)))) in
    let more : 2 ^ suc k ≡ 2 ^ k * 2 = pow-suc 2 k in
    omega (arith, rest, here, more)

pub mask_more : (f g : ℕ → Bool) (n k : ℕ) → k < n → f k ≡ false → g k ≡ true → ((i : ℕ) → i < n → (i ≡ k → ⊥) → g i ≡ f i) → mask g n ≡ mask f n + 2 ^ k
mask_more f g n k lt off on h =
    let size = length-listed f n in
    one_more (listed f n) (listed g n) k (size ∙ sym (length-listed g n)) (omega (arith, lt, size)) (listed_at f n k false lt ∙ off) (listed_at g n k false lt ∙ on) (λ i li differ.
    let below : i < n = omega (arith, li, size) in
    listed_at g n i false below ∙ h i below differ ∙ sym (listed_at f n i false below))

-- What holds of a set, and of each set that has one member more than one of which it holds, holds of each larger set.
module _ (P : ℕ → Type 0) (n : ℕ) (step : (set i : ℕ) → set < 2 ^ n → i < n → has set i ≡ false → P set → P (set + 2 ^ i)) (f g : ℕ → Bool) (inside : (i : ℕ) → i < n → f i ≡ true → g i ≡ true) where
  -- the members of the larger set below a number, and of the smaller from there on
  mixed : ℕ → ℕ → Bool
  mixed zero i = f i
  mixed (suc k) i = cond (i == k) (g i) (mixed k i)

  mixed_later : (k i : ℕ) → k ≤ i → mixed k i ≡ f i
  unfolding mixed
  mixed_later zero i le = refl
  mixed_later (suc k) i le = ap (λ b. cond b (g i) (mixed k i)) (ne_eqb i k (λ e. absurd (omega (arith, le, e)))) ∙ mixed_later k i (omega (arith, le))

  mixed_before : (k i : ℕ) → i < k → mixed k i ≡ g i
  unfolding mixed
  mixed_before zero i lt = absurd (omega (arith, lt))
  mixed_before (suc k) i lt = elim (cases_eq i k) [
    | inl same ↦ ap (λ b. cond b (g i) (mixed k i)) (eq-eqb i k same)
    | inr differ ↦ ap (λ b. cond b (g i) (mixed k i)) (ne_eqb i k differ) ∙ mixed_before k i (omega (arith, lt, differ))
  ]

  mixed_at : (k : ℕ) → mixed (suc k) k ≡ g k
  mixed_at k = mixed_before (suc k) k (omega arith)

  mixed_other : (k i : ℕ) → (i ≡ k → ⊥) → mixed (suc k) i ≡ mixed k i
  unfolding mixed
  mixed_other k i differ = ap (λ b. cond b (g i) (mixed k i)) (ne_eqb i k differ)

  grown : (k : ℕ) → k ≤ n → P (mask f n) → P (mask (mixed k) n)
  grown zero le p = subst P (mask_same f (mixed zero) n (λ i lt. sym (mixed_later zero i (omega arith)))) p
  grown (suc k) le p =
      let before : P (mask (mixed k) n) = grown k (omega (arith, le)) p in
      let lk : k < n = omega (arith, le) in
      let same_if : (b c : Bool) → f k ≡ b → g k ≡ c → (b ≡ true → c ≡ true) → P (mask (mixed (suc k)) n) = λ b c is_f is_g h. cases b c is_f is_g h before lk in
      same_if (f k) (g k) refl refl (inside k lk)
    where
      kept : f k ≡ g k → P (mask (mixed k) n) → P (mask (mixed (suc k)) n)
      kept e before = subst P (mask_same (mixed k) (mixed (suc k)) n (λ i lt. elim (cases_eq i k) [
        | inl same ↦ (let at : mixed k k ≡ mixed (suc k) k = mixed_later k k (omega arith) ∙ e ∙ sym (mixed_at k) in subst (λ m. mixed k m ≡ mixed (suc k) m) (sym same) at)
        | inr differ ↦ sym (mixed_other k i differ)
      ])) before

      cases : (b c : Bool) → f k ≡ b → g k ≡ c → (b ≡ true → c ≡ true) → P (mask (mixed k) n) → k < n → P (mask (mixed (suc k)) n)
      cases true true is_f is_g h before lk = kept (is_f ∙ sym is_g) before
      cases true false is_f is_g h before lk = absurd (false≢true (h refl))
      cases false false is_f is_g h before lk = kept (is_f ∙ sym is_g) before
      cases false true is_f is_g h before lk =
          let off : mixed k k ≡ false = mixed_later k k (omega arith) ∙ is_f in
          let more : mask (mixed (suc k)) n ≡ mask (mixed k) n + 2 ^ k = mask_more (mixed k) (mixed (suc k)) n k lk off (mixed_at k ∙ is_g) (λ i li differ. mixed_other k i differ) in
          subst P (sym more) (step (mask (mixed k) n) k (mask_lt (mixed k) n) lk (has_of (mixed k) n k lk ∙ off) before)

  pub grows : P (mask f n) → P (mask g n)
  grows p = subst P (mask_same (mixed n) g n (λ i lt. mixed_before n i lt)) (grown n (omega arith) p)

-- a set with one member more is larger, and a set of criteria
pub grown_set : (n set i : ℕ) → set < 2 ^ n → i < n → has set i ≡ false → (set + 2 ^ i < 2 ^ n) × (is_inside set (set + 2 ^ i) ≡ true)
grown_set n set i lt li off =
    let g : ℕ → Bool = λ k. cond (k == i) true (has set k) in
    let at : mask (has set) n ≡ set = mask_has n set lt in
    let on : g i ≡ true = ap (λ b. cond b true (has set i)) (eq-eqb i i refl) in
    let other : (k : ℕ) → (k ≡ i → ⊥) → g k ≡ has set k = λ k differ. ap (λ b. cond b true (has set k)) (ne_eqb k i differ) in
    let more : mask g n ≡ set + 2 ^ i = mask_more (has set) g n i li off on (λ k lk differ. other k differ) ∙ ap (λ m. m + 2 ^ i) at in
    let inside : is_inside (mask (has set) n) (mask g n) ≡ true = mask_inside (has set) g n (λ k lk h. elim (cases_eq k i) [
      | inl same ↦ ap g same ∙ on
      | inr differ ↦ other k differ ∙ h
    ]) in
    (subst (λ m. m < 2 ^ n) more (mask_lt g n), subst (λ m. is_inside m (set + 2 ^ i) ≡ true) at (subst (λ m. is_inside (mask (has set) n) m ≡ true) more inside))
