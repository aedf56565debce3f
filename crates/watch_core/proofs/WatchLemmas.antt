-- Chains hold the seats of the first two literals of each clause, and no others.
use Rattle.std.proofs.Common.{None, Some, ◌≡◌, ◌≢◌, ℕ, zero, suc, ◌/◌, ◌%◌, ◌<◌, ◌≤◌, not, cond, List, [], ◌∷◌, length, get_or, set, swap, refl, sym, ◌∙◌, ap, subst, arith, inl, inr, ◌⊎◌}
use Rattle.std.specs.List.{Contains, slice_get}
use Rattle.std.proofs.lemmas.List.{length-set, length-map, get_or-map, get_or-set_same, get_or-set_other, get_or_past}
use Rattle.std.proofs.lemmas.List.Edits.{length-swap, swap_is}
use Rattle.std.proofs.lemmas.Bool.{cases_eq, cases_lt}
use Rattle.std.proofs.lemmas.Bool.Decides.{eqb_tells}
use Rattle.arena_core.specs.Chains.{chain_at, put_first, taken_out, others}
use Rattle.watch_core.specs.Cover.{IsWatch, Watches}

kept_first : (s t x : ℕ) (xs ys : List ℕ) → x ≢ s → (Contains ys t → Contains xs t × (t ≢ s)) → Contains (x ∷ ys) t → Contains (x ∷ xs) t × (t ≢ s)
kept_first s t x xs ys ne rest (zero, lt, e) = ((zero, omega arith, e), λ h. ne (e ∙ h))
kept_first s t x xs ys ne rest (suc k, lt, e) =
    let back = rest (k, omega (arith, lt), e) in
    ((suc back.0.0, omega (arith, back.0.1), back.0.2), back.1)

pub in_others : (s t : ℕ) (xs : List ℕ) → Contains (others s xs) t → Contains xs t × (t ≢ s)
in_others s t [] has = absurd (omega (arith, has.1))
in_others s t (x ∷ xs) has =
    let P : List ℕ → Type 0 = λ ys. Contains ys t in
    elim (eqb_tells x s) [
      | inl same ↦ (let rest = in_others s t xs (subst P (ap (λ b. cond (not b) (x ∷ others s xs) (others s xs)) same.0) has) in
          ((suc rest.0.0, omega (arith, rest.0.1), rest.0.2), rest.1))
      | inr other ↦ kept_first s t x xs (others s xs) other.1 (in_others s t xs) (subst P (ap (λ b. cond (not b) (x ∷ others s xs) (others s xs)) other.0) has)
    ]

to_first : (s t x : ℕ) (xs ys : List ℕ) → t ≢ s → (Contains xs t → Contains ys t) → Contains (x ∷ xs) t → (x ≡ t) ⊎ Contains ys t
to_first s t x xs ys ne rest (zero, lt, e) = inl e
to_first s t x xs ys ne rest (suc k, lt, e) = inr (rest (k, omega (arith, lt), e))

pub others_in : (s t : ℕ) (xs : List ℕ) → t ≢ s → Contains xs t → Contains (others s xs) t
others_in s t [] ne has = has
others_in s t (x ∷ xs) ne has =
    let P : List ℕ → Type 0 = λ ys. Contains ys t in
    elim (eqb_tells x s) [
      | inl same ↦ subst P (sym (ap (λ b. cond (not b) (x ∷ others s xs) (others s xs)) same.0)) (elim (to_first s t x xs (others s xs) ne (others_in s t xs ne) has) [ inl here ↦ absurd (ne (sym here ∙ same.1)) | inr later ↦ later ])
      | inr other ↦ subst P (sym (ap (λ b. cond (not b) (x ∷ others s xs) (others s xs)) other.0)) (elim (to_first s t x xs (others s xs) ne (others_in s t xs ne) has) [
        | inl here ↦ (zero, omega arith, here)
        | inr later ↦ (suc later.0, omega (arith, later.1), later.2)
      ])
    ]

pub chain_taken : (chains : List (List ℕ)) (s p : ℕ) → chain_at (taken_out chains s) p ≡ others s (chain_at chains p)
chain_taken chains s p =
    elim (cases_lt p (length chains)) [
      | inl lt ↦ get_or-map (others s) chains p [] [] lt
      | inr past ↦ (let size : length (taken_out chains s) ≡ length chains = length-map chains (others s) in
          get_or_past (taken_out chains s) p [] (omega (arith, size, past)) ∙ sym (ap (others s) (get_or_past chains p [] past)))
    ]

pub swap_other : (xs : List ℕ) (a b i : ℕ) → a < length xs → b < length xs → i ≢ a → i ≢ b → get_or (swap xs a b) i 0 ≡ get_or xs i 0
swap_other xs a b i la lb na nb = ap (λ ys. get_or ys i 0) (sym (swap_is xs a b 0 la lb)) ∙ get_or-set_other (set xs a (get_or xs b 0)) b i (get_or xs a 0) 0 nb ∙ get_or-set_other xs a i (get_or xs b 0) 0 na

pub swap_first : (xs : List ℕ) (a b : ℕ) → a < length xs → b < length xs → a ≢ b → get_or (swap xs a b) a 0 ≡ get_or xs b 0
swap_first xs a b la lb ne = ap (λ ys. get_or ys a 0) (sym (swap_is xs a b 0 la lb)) ∙ get_or-set_other (set xs a (get_or xs b 0)) b a (get_or xs a 0) 0 ne ∙ get_or-set_same xs a (get_or xs b 0) 0 la

-- what a seat watches does not change where another seat of the clause got a new literal
pub record SameWatch (clauses clauses' : List (List ℕ)) (t : ℕ) : Type 0 where
  pub count : length clauses' ≡ length clauses
  pub size : length (get_or clauses' (t / 2) []) ≡ length (get_or clauses (t / 2) [])
  pub at : get_or (get_or clauses' (t / 2) []) (t % 2) 0 ≡ get_or (get_or clauses (t / 2) []) (t % 2) 0

pub same_watch : (clauses : List (List ℕ)) (s j t : ℕ) → s / 2 < length clauses → 2 ≤ j → j < length (get_or clauses (s / 2) []) → t ≢ s → SameWatch clauses (set clauses (s / 2) (swap (get_or clauses (s / 2) []) (s % 2) j)) t
same_watch clauses s j t known far lj ne =
    let c : ℕ = s / 2 in
    let xs : List ℕ = get_or clauses c [] in
    let ys : List ℕ = swap xs (s % 2) j in
    let clauses' : List (List ℕ) = set clauses c ys in
    let la : s % 2 < length xs = omega (arith, far, lj) in
    elim (cases_eq (t / 2) c) [
      | inl same ↦ (let mine : get_or clauses' (t / 2) [] ≡ ys = ap (λ k. get_or clauses' k []) same ∙ get_or-set_same clauses c ys [] known in
          let old : get_or clauses (t / 2) [] ≡ xs = ap (λ k. get_or clauses k []) same in
          let na : t % 2 ≢ s % 2 = λ e. ne (omega (arith, same, e)) in
          let nb : t % 2 ≢ j = λ e. omega (arith, e, far) in
          record {
            count = length-set clauses c ys;
            size = ap length mine ∙ length-swap xs (s % 2) j ∙ sym (ap length old);
            at = ap (λ zs. get_or zs (t % 2) 0) mine ∙ swap_other xs (s % 2) j (t % 2) la lj na nb ∙ sym (ap (λ zs. get_or zs (t % 2) 0) old);
          })
      | inr other ↦ (let e : get_or clauses' (t / 2) [] ≡ get_or clauses (t / 2) [] = get_or-set_other clauses c (t / 2) ys [] other in
          record { count = length-set clauses c ys; size = ap length e; at = ap (λ zs. get_or zs (t % 2) 0) e })
    ]

watch_to : (clauses clauses' : List (List ℕ)) (p t : ℕ) → SameWatch clauses clauses' t → IsWatch clauses p t → IsWatch clauses' p t
watch_to clauses clauses' p t same w = record { known = omega (arith, same.count, w.known); long = omega (arith, same.size, w.long); at = same.at ∙ w.at }

watch_from : (clauses clauses' : List (List ℕ)) (p t : ℕ) → SameWatch clauses clauses' t → IsWatch clauses' p t → IsWatch clauses p t
watch_from clauses clauses' p t same w = record { known = omega (arith, same.count, w.known); long = omega (arith, same.size, w.long); at = sym same.at ∙ w.at }

head_or : (clauses : List (List ℕ)) (p s t : ℕ) (xs : List ℕ) → IsWatch clauses p s → (Contains xs t → IsWatch clauses p t) → Contains (s ∷ xs) t → IsWatch clauses p t
head_or clauses p s t xs mine rest (zero, lt, e) = let P : ℕ → Type 0 = λ u. IsWatch clauses p u in subst P e mine
head_or clauses p s t xs mine rest (suc k, lt, e) = rest (k, omega (arith, lt), e)

-- a seat gets another literal of its clause, and moves into that literal's chain
pub watches_moved : (clauses chains : List (List ℕ)) (s j g : ℕ) → Watches clauses chains → s / 2 < length clauses → 2 ≤ j → j < length (get_or clauses (s / 2) []) → g ≡ get_or (get_or clauses (s / 2) []) j 0 → g < length chains
    → Watches (set clauses (s / 2) (swap (get_or clauses (s / 2) []) (s % 2) j)) (put_first (taken_out chains s) g s)
watches_moved clauses chains s j g w known far lj eg lg =
    let xs : List ℕ = get_or clauses (s / 2) [] in
    let ys : List ℕ = swap xs (s % 2) j in
    let clauses' : List (List ℕ) = set clauses (s / 2) ys in
    let rest : List (List ℕ) = taken_out chains s in
    let chains' : List (List ℕ) = put_first rest g s in
    let lr : g < length rest = simp length-map lg in
    let new : chain_at chains' g ≡ s ∷ chain_at rest g = get_or-set_same rest g (s ∷ chain_at rest g) [] lr in
    let mine : IsWatch clauses' g s = record {
      known = simp length-set known;
      long = (let e : get_or clauses' (s / 2) [] ≡ ys = get_or-set_same clauses (s / 2) ys [] known in omega (arith, ap length e, length-swap xs (s % 2) j, far, lj));
      at = (let e : get_or clauses' (s / 2) [] ≡ ys = get_or-set_same clauses (s / 2) ys [] known in
          ap (λ zs. get_or zs (s % 2) 0) e ∙ swap_first xs (s % 2) j (omega (arith, far, lj)) lj (λ e. omega (arith, e, far)) ∙ sym eg);
    } in
    let old : (p t : ℕ) → Contains (chain_at rest p) t → IsWatch clauses' p t = λ p t has.
    (let P : List ℕ → Type 0 = λ zs. Contains zs t in
    let was = in_others s t (chain_at chains p) (subst P (chain_taken chains s p) has) in
    watch_to clauses clauses' p t (same_watch clauses s j t known far lj was.1) (w.seats p t was.0)) in
    record {
      seats = λ p t has. elim (cases_eq p g) [
        | inl same ↦ (let Q : ℕ → Type 0 = λ r. IsWatch clauses' r t in let P : List ℕ → Type 0 = λ zs. Contains zs t in
            let there : Contains (s ∷ chain_at rest g) t = subst P (ap (chain_at chains') same ∙ new) has in
            subst Q (sym same) (head_or clauses' g s t (chain_at rest g) mine (old g t) there))
        | inr other ↦ (let P : List ℕ → Type 0 = λ zs. Contains zs t in old p t (subst P (get_or-set_other rest g p (s ∷ chain_at rest g) [] other) has))
      ];
      watched = λ p t is. elim (cases_eq t s) [
        | inl same ↦ (let R : ℕ → Type 0 = λ u. IsWatch clauses' p u in
            let mineToo : IsWatch clauses' p s = subst R same is in
            let pg : p ≡ g = sym mineToo.at ∙ mine.at in
            let P : List ℕ → Type 0 = λ zs. Contains zs t in
            subst P (sym (ap (chain_at chains') pg ∙ new)) (zero, omega arith, sym same))
        | inr ne ↦ (let was : Contains (chain_at chains p) t = w.watched p t (watch_from clauses clauses' p t (same_watch clauses s j t known far lj ne) is) in
            let P : List ℕ → Type 0 = λ zs. Contains zs t in
            let left : Contains (chain_at rest p) t = subst P (sym (chain_taken chains s p)) (others_in s t (chain_at chains p) ne was) in
            elim (cases_eq p g) [
              | inl same ↦ (let there : Contains (chain_at rest g) t = subst P (ap (chain_at rest) same) left in subst P (sym (ap (chain_at chains') same ∙ new)) (suc there.0, omega (arith, there.1), there.2))
              | inr other ↦ subst P (sym (get_or-set_other rest g p (s ∷ chain_at rest g) [] other)) left
            ])
      ];
    }

-- without the seat a chain has no other seats than before
pub no_other : (s : ℕ) (xs : List ℕ) → ((j : ℕ) → j < length xs → get_or xs j 0 ≢ s) → others s xs ≡ xs
no_other s [] h = refl
no_other s (x ∷ xs) h =
    elim (eqb_tells x s) [
      | inl same ↦ absurd (h 0 (omega arith) same.1)
      | inr other ↦ ap (λ b. cond (not b) (x ∷ others s xs) (others s xs)) other.0 ∙ ap (λ ys. x ∷ ys) (no_other s xs (λ j lt. h (suc j) (omega (arith, lt))))
    ]

pub head_in : (xs : List ℕ) (s : ℕ) → Some s ≡ slice_get xs 0 → (0 < length xs) × (get_or xs 0 0 ≡ s)
head_in [] s e = cc
head_in (x ∷ xs) s e = (omega arith, cc)

pub drained : (xs : List ℕ) → None ≡ slice_get xs 0 → xs ≡ []
drained [] e = refl
drained (x ∷ xs) e = cc

pub places_kept : (chains chains' : List (List ℕ)) (g s n : ℕ) → chains' ≡ put_first (taken_out chains s) g s → length chains ≡ n → length chains' ≡ n
places_kept chains chains' g s n is e = ap length is ∙ length-set (taken_out chains s) g (s ∷ chain_at (taken_out chains s) g) ∙ length-map chains (others s) ∙ e
