-- A chain is what a walk along it gives.
use Rattle.std.proofs.Common.{◌≡◌, ◌≢◌, ℕ, zero, suc, ◌+◌, ◌-◌, ◌<◌, ◌≤◌, true, false, cond, nat_lt, List, [], ◌∷◌, length, get_or, drop, sym, ◌∙◌, ap, arith, inl, inr, eqb, ◌||◌}
use Rattle.std.specs.List.{list_any, IsDistinct}
use Rattle.std.proofs.lemmas.List.{drop_more, drop_all, get_or_past, get_or_default, ext_get_or, get_or-map, length-map}
use Rattle.std.proofs.lemmas.List.Elements.{recursion_from_All}
use Rattle.std.proofs.lemmas.Map.Steps.{length-le_from_distinct_below}
use Rattle.std.proofs.lemmas.Bool.{cases_lt, false≢true}
use Rattle.std.proofs.lemmas.Bool.Decides.{eqb_tells, nat_tests}
use Rattle.arena_core.specs.Links.{none, walk, walks, IsChain, Holds}

less_true : (a b : ℕ) → a < b → nat_lt a b ≡ true
less_true a b h = grind (arith, nat_tests)

less_false : (a b : ℕ) → b ≤ a → nat_lt a b ≡ false
less_false a b h = grind (arith, nat_tests)

back_at : (next before owner : List ℕ) (p head : ℕ) (xs : List ℕ) (k m : ℕ) → IsChain next before owner p head xs → m ≡ k + 1 → m < length xs → get_or before (get_or xs m none) none ≡ get_or xs k none
back_at next before owner p head xs k m c e h =
    let lt : k + 1 < length xs = omega (arith, e, h) in
    ap (λ j. get_or before (get_or xs j none) none) e ∙ c.back k lt

-- a chain has each seat once
pub chain_distinct : (next before owner : List ℕ) (p head : ℕ) (xs : List ℕ) → IsChain next before owner p head xs → length next < none → (i j : ℕ) → i < j → j < length xs → get_or xs i none ≢ get_or xs j none
chain_distinct next before owner p head xs c few zero j lt h e =
    let back : get_or before (get_or xs j none) none ≡ get_or xs (j - 1) none = back_at next before owner p head xs (j - 1) j c (omega (arith, lt)) h in
    let in' : get_or xs (j - 1) none < length next = c.inside (j - 1) (omega (arith, lt, h)) in
    let start : get_or before (get_or xs 0 none) none ≡ none = c.start (omega (arith, lt, h)) in
    let same : get_or before (get_or xs 0 none) none ≡ get_or before (get_or xs j none) none = ap (λ x. get_or before x none) e in
    omega (arith, back, in', start, same, few)
chain_distinct next before owner p head xs c few (suc i) j lt h e =
    let back : get_or before (get_or xs j none) none ≡ get_or xs (j - 1) none = back_at next before owner p head xs (j - 1) j c (omega (arith, lt)) h in
    let here : get_or before (get_or xs (suc i) none) none ≡ get_or xs i none = back_at next before owner p head xs i (suc i) c (omega arith) (omega (arith, lt, h)) in
    let same : get_or before (get_or xs (suc i) none) none ≡ get_or before (get_or xs j none) none = ap (λ x. get_or before x none) e in
    chain_distinct next before owner p head xs c few i (j - 1) (omega (arith, lt)) (omega (arith, h)) (sym here ∙ same ∙ back)

distinct_from : (xs : List ℕ) → ((i j : ℕ) → i < j → j < length xs → get_or xs i none ≢ get_or xs j none) → IsDistinct eqb xs
unfolding IsDistinct
distinct_from [] h = tt
distinct_from (x ∷ xs) h = (
  recursion_from_All (λ y. eqb x y ≡ false) xs (λ k d lt.
      let apart : x ≢ get_or xs k none = h 0 (suc k) (omega arith) (omega (arith, lt)) in
      elim (eqb_tells x (get_or xs k d)) [ inl same ↦ absurd (apart (same.1 ∙ get_or_default xs k d none lt)) | inr other ↦ other.0 ]),
  distinct_from xs (λ i j lt le. h (suc i) (suc j) (omega (arith, lt)) (omega (arith, le))),
)

below_any : (xs : List ℕ) (n q : ℕ) → ((i : ℕ) → i < length xs → get_or xs i none < n) → list_any (eqb q) xs ≡ true → q < n
below_any [] n q within some = absurd (false≢true some)
below_any (x ∷ xs) n q within some =
    elim (eqb_tells q x) [
      | inl same ↦ (let lt : x < n = within 0 (omega arith) in omega (arith, lt, same.1))
      | inr other ↦ below_any xs n q (λ i lt. within (suc i) (omega (arith, lt))) (sym (ap (λ b. b || list_any (eqb q) xs) other.0) ∙ some)
    ]

-- so it has no more seats than there are
pub chain_short : (next before owner : List ℕ) (p head : ℕ) (xs : List ℕ) → IsChain next before owner p head xs → length next < none → length xs ≤ length next
chain_short next before owner p head xs c few =
    length-le_from_distinct_below xs (length next) (distinct_from xs (chain_distinct next before owner p head xs c few)) (λ q. below_any xs (length next) q c.inside)

walk_from : (next before owner : List ℕ) (p head : ℕ) (xs : List ℕ) → IsChain next before owner p head xs → length next < none → (fuel i : ℕ) → length xs ≤ fuel + i → walk fuel next (get_or xs i none) ≡ drop i xs
walk_from next before owner p head xs c few zero i le = sym (drop_all i xs (omega (arith, le)))
walk_from next before owner p head xs c few (suc fuel) i le =
    elim (cases_lt i (length xs)) [
      | inl lt ↦ (let x : ℕ = get_or xs i none in
          let test : nat_lt x (length next) ≡ true = less_true x (length next) (c.inside i lt) in
          let more : walk fuel next (get_or next x none) ≡ drop (i + 1) xs = ap (walk fuel next) (c.forward i lt) ∙ walk_from next before owner p head xs c few fuel (i + 1) (omega (arith, le)) in
          ap (λ b. cond b (x ∷ walk fuel next (get_or next x none)) []) test ∙ ap (λ ys. x ∷ ys) more ∙ sym (drop_more xs i none lt))
      | inr ge ↦ (let x : ℕ = get_or xs i none in
          let past : x ≡ none = get_or_past xs i none ge in
          let test : nat_lt x (length next) ≡ false = less_false x (length next) (omega (arith, past, few)) in
          ap (λ b. cond b (x ∷ walk fuel next (get_or next x none)) []) test ∙ sym (drop_all i xs ge))
    ]

pub walk_is : (next before owner : List ℕ) (p head : ℕ) (xs : List ℕ) → IsChain next before owner p head xs → length next < none → walk (length next) next head ≡ xs
walk_is next before owner p head xs c few =
    ap (walk (length next) next) c.first ∙ walk_from next before owner p head xs c few (length next) 0 (omega (arith, chain_short next before owner p head xs c few))

-- arrays hold no other chains than those that walks give
pub walks_are : (heads next before owner : List ℕ) (chains : List (List ℕ)) → Holds heads next before owner chains → walks heads next ≡ chains
walks_are heads next before owner chains h =
    let size : length (walks heads next) ≡ length chains = length-map heads (λ h. walk (length next) next h) ∙ sym h.count in
    ext_get_or [] (walks heads next) chains size (λ p lt.
    let within : p < length heads = simp length-map at lt in
    get_or-map (λ h. walk (length next) next h) heads p none [] within ∙ walk_is next before owner p (get_or heads p none) (get_or chains p []) (h.chain p within) h.few_seats)
