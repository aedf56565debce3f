-- Facts on lists and sums over the numbers below another.
use Rattle.std.proofs.Common.{◌≡◌, ℕ, zero, suc, ◌+◌, ◌*◌, ◌<◌, ◌≤◌, ◌⊎◌, inl, inr, Bool, true, false, cond, List, [], ◌∷◌, ◌++◌, length, get_or, map, take, refl, sym, ap, ◌∙◌, subst, arith, add-one}
use Rattle.std.specs.List.{All, filter}
use Rattle.std.proofs.Math.Nat.{mul_comm, mul-add, mul-suc, mul-zero}
use Rattle.std.proofs.lemmas.Bool.{cases_lt}
use Rattle.std.proofs.lemmas.List.{length-append, get_or_append_left, get_or-append-add, get_or_at, map-append}
use Rattle.std.proofs.lemmas.List.Elements.{All-append, All-nil, All-cons, All-head, filter_more}
use Rattle.encoding_rules.specs.Each.{each, listed, total}

module _ {A : Type 0} (P : A → Type 0) where
  pub All-left : (xs ys : List A) → All P (xs ++ ys) → All P xs
  All-left xs ys h = λ k d lt. let e = length-append xs ys in subst P (get_or_append_left xs ys d k lt) (h k d (omega (arith, lt, e)))

  pub All-right : (xs ys : List A) → All P (xs ++ ys) → All P ys
  All-right xs ys h = λ k d lt. let e = length-append xs ys in subst P (get_or-append-add xs ys k d) (h (length xs + k) d (omega (arith, lt, e)))

  pub each_all : (f : ℕ → List A) (n : ℕ) → ((i : ℕ) → i < n → All P (f i)) → All P (each f n)
  each_all f zero h = All-nil P
  each_all f (suc n) h = All-append P (each f n) (f n) (each_all f n (λ i lt. h i (omega (arith, lt)))) (h n (omega arith))

  pub all_each : (f : ℕ → List A) (n : ℕ) → All P (each f n) → (i : ℕ) → i < n → All P (f i)
  all_each f zero h i lt = absurd (omega (arith, lt))
  all_each f (suc n) h i lt = elim (cases_lt i n) [
    | inl before ↦ all_each f n (All-left (each f n) (f n) h) i before
    | inr after ↦ (let same : n ≡ i = omega (arith, lt, after) in subst (λ m. All P (f m)) same (All-right (each f n) (f n) h))
  ]

  pub listed_all : (f : ℕ → A) (n : ℕ) → ((i : ℕ) → i < n → P (f i)) → All P (listed f n)
  listed_all f n h = each_all (λ k. f k ∷ []) n (λ i lt. All-cons P (f i) [] (h i lt) (All-nil P))

  pub all_listed : (f : ℕ → A) (n : ℕ) → All P (listed f n) → (i : ℕ) → i < n → P (f i)
  all_listed f n h i lt = All-head P (f i) [] (all_each (λ k. f k ∷ []) n h i lt)

module _ {A : Type 0} where
  pub length-each : (f : ℕ → List A) (n : ℕ) → length (each f n) ≡ total (λ k. length (f k)) n
  length-each f zero = refl
  length-each f (suc n) = length-append (each f n) (f n) ∙ ap (λ m. m + length (f n)) (length-each f n)

  pub each_before : (f : ℕ → List A) (n i : ℕ) → i < n → length (each f i) + length (f i) ≤ length (each f n)
  each_before f zero i lt = absurd (omega (arith, lt))
  each_before f (suc n) i lt =
      let e : length (each f n ++ f n) ≡ length (each f n) + length (f n) = length-append (each f n) (f n) in
      elim (cases_lt i n) [
        | inl before ↦ (let rest = each_before f n i before in omega (arith, rest, e))
        | inr after ↦ (let same : n ≡ i = omega (arith, lt, after) in subst (λ j. length (each f j) + length (f j) ≤ length (each f n ++ f n)) same (omega (arith, e)))
      ]

  -- item j of the list of i comes after the lists before it
  pub each_at : (f : ℕ → List A) (n i j : ℕ) (d : A) → i < n → j < length (f i) → get_or (each f n) (length (each f i) + j) d ≡ get_or (f i) j d
  each_at f zero i j d lt below = absurd (omega (arith, lt))
  each_at f (suc n) i j d lt below = elim (cases_lt i n) [
    | inl before ↦ (let room = each_before f n i before in get_or_append_left (each f n) (f n) d (length (each f i) + j) (omega (arith, room, below)) ∙ each_at f n i j d before below)
    | inr after ↦ (let same : n ≡ i = omega (arith, lt, after) in
        subst (λ m. get_or (each f n ++ f n) (length (each f m) + j) d ≡ get_or (f m) j d) same (get_or-append-add (each f n) (f n) j d))
  ]

  -- the same if the number of items before it is known
  pub each_at_place : (f : ℕ → List A) (n i j p : ℕ) (d : A) → i < n → j < length (f i) → length (each f i) ≡ p → get_or (each f n) (p + j) d ≡ get_or (f i) j d
  each_at_place f n i j p d lt below before = subst (λ q. get_or (each f n) (q + j) d ≡ get_or (f i) j d) before (each_at f n i j d lt below)

  pub length-listed : (f : ℕ → A) (n : ℕ) → length (listed f n) ≡ n
  length-listed f zero = refl
  length-listed f (suc n) =
      let e = length-append (listed f n) (f n ∷ []) in
      let rest = length-listed f n in
      omega (arith, e, rest)

  pub listed_at : (f : ℕ → A) (n i : ℕ) (d : A) → i < n → get_or (listed f n) i d ≡ f i
  listed_at f zero i d lt = absurd (omega (arith, lt))
  listed_at f (suc n) i d lt = elim (cases_lt i n) [
    | inl before ↦ (let size = length-listed f n in get_or_append_left (listed f n) (f n ∷ []) d i (omega (arith, before, size)) ∙ listed_at f n i d before)
    | inr after ↦ (let same : n ≡ i = omega (arith, lt, after) in
        subst (λ m. get_or (listed f n ++ (f n ∷ [])) m d ≡ f m) same (get_or_at (listed f n) (f n) [] d n (length-listed f n)))
  ]

pub total_same : (f g : ℕ → ℕ) (n : ℕ) → ((i : ℕ) → i < n → f i ≡ g i) → total f n ≡ total g n
total_same f g zero h = refl
total_same f g (suc n) h =
    let rest = total_same f g n (λ i lt. h i (omega (arith, lt))) in
    let here = h n (omega arith) in
    omega (arith, rest, here)

-- a sum of products, and of one number
pub total_scale : (w : ℕ) (f : ℕ → ℕ) (n : ℕ) → total (λ k. w * f k) n ≡ w * total f n
total_scale w f zero = sym (mul-zero w)
total_scale w f (suc n) = ap (λ m. m + w * f n) (total_scale w f n) ∙ sym (mul-add w (total f n) (f n))

pub total_const : (w n : ℕ) → total (λ k. w) n ≡ n * w
total_const w zero = omega arith
total_const w (suc n) = ap (λ m. m + w) (total_const w n ∙ mul_comm n w) ∙ sym (mul-suc w n) ∙ mul_comm w (suc n)

pub total_add : (f g : ℕ → ℕ) (n : ℕ) → total (λ k. f k + g k) n ≡ total f n + total g n
total_add f g zero = refl
total_add f g (suc n) = let rest = total_add f g n in omega (arith, rest)

pub total_le : (f g : ℕ → ℕ) (n : ℕ) → ((i : ℕ) → i < n → f i ≤ g i) → total f n ≤ total g n
total_le f g zero h = omega arith
total_le f g (suc n) h =
    let rest = total_le f g n (λ i lt. h i (omega (arith, lt))) in
    let here = h n (omega arith) in
    omega (arith, rest, here)

-- one of the sum's parts, and those before it
pub total_before : (f : ℕ → ℕ) (n i : ℕ) → i < n → total f i + f i ≤ total f n
total_before f zero i lt = absurd (omega (arith, lt))
total_before f (suc n) i lt = elim (cases_lt i n) [
  | inl before ↦ (let rest = total_before f n i before in omega (arith, rest))
  | inr after ↦ (let same : n ≡ i = omega (arith, lt, after) in subst (λ j. total f j + f j ≤ total f n + f n) same (omega arith))
]

-- one of the numbers below another passes, or none
pub some_or_none : (f : ℕ → Bool) (n : ℕ) → ((i : ℕ) × (i < n) × (f i ≡ true)) ⊎ ((i : ℕ) → i < n → f i ≡ false)
some_or_none f zero = inr (λ i lt. absurd (omega (arith, lt)))
some_or_none f (suc n) = step (f n) refl (some_or_none f n)
  where
    step : (b : Bool) → f n ≡ b → ((i : ℕ) × (i < n) × (f i ≡ true)) ⊎ ((i : ℕ) → i < n → f i ≡ false) → ((i : ℕ) × (i < suc n) × (f i ≡ true)) ⊎ ((i : ℕ) → i < suc n → f i ≡ false)
    step true e rest = inl (n, omega arith, e)
    step false e (inl some) = inl (some.0, (let lt = some.1 in omega (arith, lt)), some.2)
    step false e (inr none) = inr (λ i lt. elim (cases_lt i n) [
      | inl before ↦ none i before
      | inr after ↦ (let same : n ≡ i = omega (arith, lt, after) in subst (λ m. f m ≡ false) same e)
    ])

-- lists and sums of functions that agree
pub each_same : {A : Type 0} (f g : ℕ → List A) (n : ℕ) → ((i : ℕ) → i < n → f i ≡ g i) → each f n ≡ each g n
each_same f g zero h = refl
each_same f g (suc n) h = ap (λ xs. xs ++ f n) (each_same f g n (λ i lt. h i (omega (arith, lt)))) ∙ ap (λ xs. each g n ++ xs) (h n (omega arith))

pub listed_same : {A : Type 0} (f g : ℕ → A) (n : ℕ) → ((i : ℕ) → i < n → f i ≡ g i) → listed f n ≡ listed g n
listed_same f g n h = each_same (λ k. f k ∷ []) (λ k. g k ∷ []) n (λ i lt. ap (λ x. x ∷ []) (h i lt))

map_cond : {X Y : Type 0} (h : X → Y) (x : X) (y : Y) (b : Bool) → (b ≡ true → y ≡ h x) → cond b (y ∷ []) [] ≡ map h (cond b (x ∷ []) [])
map_cond h x y true e = ap (λ z. z ∷ []) (e refl)
map_cond h x y false e = refl

-- a list made place by place, if a test passes, is that of the filtered elements
pub each_filter : {X Y : Type 0} (p : X → Bool) (h : X → Y) (g : ℕ → Y) (xs : List X) (d : X) → ((k : ℕ) → k < length xs → p (get_or xs k d) ≡ true → g k ≡ h (get_or xs k d))
    → (n : ℕ) → n ≤ length xs → each (λ k. cond (p (get_or xs k d)) (g k ∷ []) []) n ≡ map h (filter p (take n xs))
each_filter p h g xs d same zero le = refl
each_filter p h g xs d same (suc n) le =
    let lt : n < length xs = omega (arith, le) in
    let x = get_or xs n d in
    ap (λ ys. ys ++ cond (p x) (g n ∷ []) []) (each_filter p h g xs d same n (omega (arith, le)))
    ∙ ap (λ zs. map h (filter p (take n xs)) ++ zs) (map_cond h x (g n) (p x) (same n lt))
    ∙ sym (map-append h (filter p (take n xs)) (cond (p x) (x ∷ []) []))
    ∙ ap (map h) (sym (filter_more p xs n d lt))
    ∙ ap (λ m. map h (filter p (take m xs))) (add-one n)
