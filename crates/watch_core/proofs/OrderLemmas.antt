-- Where clauses as places are others in another order, so are the clauses.
use Rattle.std.proofs.Common.{◌≡◌, ℕ, List, [], ◌∷◌, length, map, get_or, swap, refl, sym, ◌∙◌, ap, subst, arith}
use Rattle.std.proofs.lemmas.List.{length-map}
use Rattle.std.proofs.lemmas.List.Edits.{length-swap}
use Rattle.std.specs.List.Sorted.{IsPermutation, SwapsInRange, apply_swaps}
use Rattle.watch_core.specs.Places.{placed}
use Rattle.watch_core.specs.Propagates.{AreReordered}
use Rattle.watch_core.proofs.StepLemmas.{map_swap, placed_row}

same_from_places : {L : Type 0} (at : L → ℕ) → ((l m : L) → at l ≡ at m → l ≡ m) → (xs ys : List L) → map at xs ≡ map at ys → xs ≡ ys
same_from_places at one' [] [] e = refl
same_from_places at one' [] (y ∷ ys) e = cc
same_from_places at one' (x ∷ xs) [] e = cc
same_from_places at one' (x ∷ xs) (y ∷ ys) e =
    let first : at x ≡ at y = cc in
    let rest : map at xs ≡ map at ys = cc in
    ap (λ z. z ∷ xs) (one' x y first) ∙ ap (λ zs. y ∷ zs) (same_from_places at one' xs ys rest)

map_swaps : {L : Type 0} (at : L → ℕ) (xs : List L) (moves : List (ℕ × ℕ)) → SwapsInRange (length xs) moves → (map at (apply_swaps xs moves) ≡ apply_swaps (map at xs) moves) × (length (apply_swaps xs moves) ≡ length xs)
map_swaps at xs [] h = (refl, refl)
map_swaps at xs (p ∷ ps) h =
    let rest = map_swaps at xs ps h.2 in (
      map_swap at (apply_swaps xs ps) p.0 p.1 (omega (arith, h.0, rest.1)) (omega (arith, h.1, rest.1)) ∙ ap (λ ys. swap ys p.0 p.1) rest.0,
      length-swap (apply_swaps xs ps) p.0 p.1 ∙ rest.1,
    )

permuted : {L : Type 0} (at : L → ℕ) → ((l m : L) → at l ≡ at m → l ≡ m) → (xs ys : List L) → IsPermutation (map at xs) (map at ys) → IsPermutation xs ys
permuted at one' xs ys h =
    let inside : SwapsInRange (length xs) h.moves = (let P : ℕ → Type 0 = λ n. SwapsInRange n h.moves in subst P (length-map xs at) h.below) in
    let moved = map_swaps at xs h.moves inside in
    record { moves = h.moves; below = inside; is = same_from_places at one' ys (apply_swaps xs h.moves) (h.is ∙ sym moved.0) }

pub only_order : {L : Type 0} (at : L → ℕ) → ((l m : L) → at l ≡ at m → l ≡ m) → (clauses clauses' : List (List L)) → AreReordered (placed at clauses) (placed at clauses') → AreReordered clauses clauses'
only_order {L} at one' clauses clauses' h = record {
  count = sym (length-map clauses' (map at)) ∙ h.count ∙ length-map clauses (map at);
  same = λ c. (let P : List ℕ → Type 0 = λ xs. IsPermutation xs (map at (get_or clauses' c [])) in
      let Q : List ℕ → Type 0 = λ ys. IsPermutation (get_or (placed at clauses) c []) ys in
      permuted at one' (get_or clauses c []) (get_or clauses' c []) (subst P (placed_row at clauses c) (subst Q (placed_row at clauses' c) (h.same c))));
}
