-- A seat goes first in a chain.
use Rattle.std.proofs.Common.{◌≡◌, ◌≢◌, ℕ, zero, suc, ◌+◌, ◌<◌, List, [], ◌∷◌, length, get_or, set, refl, sym, ◌∙◌, ap, subst, arith, inl, inr}
use Rattle.std.specs.List.{Contains}
use Rattle.std.proofs.lemmas.List.{get_or_past, length-set, get_or-set_same, get_or-set_other}
use Rattle.std.proofs.lemmas.Bool.{cases_eq, cases_lt}
use Rattle.arena_core.specs.Links.{none, IsChain, Holds}
use Rattle.arena_core.proofs.WalkLemmas.{chain_distinct}

-- a chain whose seats have the links that they had
pub chain_frame : (next before owner next' before' owner' : List ℕ) (p head head' : ℕ) (xs xs' : List ℕ) → IsChain next before owner p head xs → head' ≡ head → xs' ≡ xs → length next' ≡ length next
    → ((i : ℕ) → i < length xs → get_or next' (get_or xs i none) none ≡ get_or next (get_or xs i none) none)
    → ((i : ℕ) → i < length xs → get_or before' (get_or xs i none) none ≡ get_or before (get_or xs i none) none)
    → ((i : ℕ) → i < length xs → get_or owner' (get_or xs i none) none ≡ get_or owner (get_or xs i none) none)
    → IsChain next' before' owner' p head' xs'
chain_frame next before owner next' before' owner' p head head' xs xs' c eh ex size fn fb fo =
    let P : List ℕ → Type 0 = λ ys. IsChain next' before' owner' p head' ys in
    let Q : ℕ → Type 0 = λ h. IsChain next' before' owner' p h xs in
    let same : IsChain next' before' owner' p head xs = record {
      inside = λ i h. omega (arith, size, c.inside i h);
      owned = λ i h. fo i h ∙ c.owned i h;
      first = c.first;
      forward = λ i h. fn i h ∙ c.forward i h;
      start = λ h. fb 0 h ∙ c.start h;
      back = λ i h. fb (i + 1) h ∙ c.back i h;
    } in
    subst P (sym ex) (subst Q (sym eh) same)

by_first : (P : ℕ → Type 0) → P 0 → ((j : ℕ) → P (suc j)) → (i : ℕ) → P i
by_first P z s zero = z
by_first P z s (suc j) = s j

-- what holds of a chain when a seat with no owner goes first
put_chain : (next before owner : List ℕ) (p s h : ℕ) (xs : List ℕ) → IsChain next before owner p h xs → length before ≡ length next → length owner ≡ length next → length next < none → p < none → s < length next → get_or owner s none ≡ none
    → IsChain (set next s h) (set (set before s none) h s) (set owner s p) p s (s ∷ xs)
put_chain next before owner p s h xs c bs os few pp lt free =
    let next' : List ℕ = set next s h in
    let before' : List ℕ = set (set before s none) h s in
    let owner' : List ℕ = set owner s p in
    let size : length next' ≡ length next = length-set next s h in
    let apart : (i : ℕ) → i < length xs → get_or xs i none ≢ s = λ i hi e. (let o : get_or owner (get_or xs i none) none ≡ p = c.owned i hi in let e2 : get_or owner (get_or xs i none) none ≡ none = ap (λ x. get_or owner x none) e ∙ free in omega (arith, o, e2, pp)) in
    let hs : h ≢ s = λ e. elim (cases_lt 0 (length xs)) [ inl some ↦ apart 0 some (sym c.first ∙ e) | inr empty ↦ (let past : get_or xs 0 none ≡ none = get_or_past xs 0 none empty in omega (arith, past, c.first, e, lt, few)) ] in
    record {
      inside = by_first (λ i. i < length (s ∷ xs) → get_or (s ∷ xs) i none < length next') (λ _. omega (arith, size, lt)) (λ j hj. omega (arith, size, c.inside j (omega (arith, hj))));
      owned = by_first (λ i. i < length (s ∷ xs) → get_or owner' (get_or (s ∷ xs) i none) none ≡ p) (λ _. get_or-set_same owner s p none (omega (arith, os, lt)))
          (λ j hj. (let hj' : j < length xs = omega (arith, hj) in get_or-set_other owner s (get_or xs j none) p none (apart j hj') ∙ c.owned j hj'));
      first = refl;
      forward = by_first (λ i. i < length (s ∷ xs) → get_or next' (get_or (s ∷ xs) i none) none ≡ get_or (s ∷ xs) (i + 1) none) (λ _. get_or-set_same next s h none lt ∙ c.first)
          (λ j hj. (let hj' : j < length xs = omega (arith, hj) in let e : suc (j + 1) ≡ suc j + 1 = omega arith in get_or-set_other next s (get_or xs j none) h none (apart j hj') ∙ c.forward j hj' ∙ ap (λ n. get_or (s ∷ xs) n none) e));
      start = λ _. get_or-set_other (set before s none) h s s none (λ e. hs (sym e)) ∙ get_or-set_same before s none none (omega (arith, bs, lt));
      back = by_first (λ i. i + 1 < length (s ∷ xs) → get_or before' (get_or (s ∷ xs) (i + 1) none) none ≡ get_or (s ∷ xs) i none)
          (λ hj. (let some : 0 < length xs = omega (arith, hj) in let inside : h < length (set before s none) = simp length-set (omega (arith, c.inside 0 some, c.first, bs)) in
          ap (λ x. get_or before' x none) (sym c.first) ∙ get_or-set_same (set before s none) h s none inside))
          (λ j hj. (let e : suc j + 1 ≡ suc (j + 1) = omega arith in let hj' : j + 1 < length xs = omega (arith, hj) in
          let other : get_or xs (j + 1) none ≢ h = λ same. chain_distinct next before owner p h xs c few 0 (j + 1) (omega arith) hj' (sym c.first ∙ sym same) in
          ap (λ n. get_or before' (get_or (s ∷ xs) n none) none) e ∙ get_or-set_other (set before s none) h (get_or xs (j + 1) none) s none other ∙ get_or-set_other before s (get_or xs (j + 1) none) none none (apart (j + 1) hj') ∙ c.back j hj'));
    }

pub held_at : (chains : List (List ℕ)) (q p t : ℕ) (xs : List ℕ) → q ≡ p → get_or chains p [] ≡ xs → Contains xs t → Contains (get_or chains q []) t
held_at chains q p t xs e is has =
    let P : List ℕ → Type 0 = λ ys. Contains ys t in
    subst P (sym (ap (λ r. get_or chains r []) e ∙ is)) has

-- a seat stays in its chain when another goes first in one
kept_first : (chains : List (List ℕ)) (p q q' s t : ℕ) → q' ≡ q → p < length chains → Contains (get_or chains q []) t → Contains (get_or (set chains p (s ∷ get_or chains p [])) q' []) t
kept_first chains p q q' s t e lp has =
    elim (cases_eq q p) [
      | inl same ↦ (let there : Contains (get_or chains p []) t = held_at chains p q t (get_or chains q []) (sym same) refl has in
          held_at (set chains p (s ∷ get_or chains p [])) q' p t (s ∷ get_or chains p []) (e ∙ same) (get_or-set_same chains p (s ∷ get_or chains p []) [] lp) (suc there.0, omega (arith, there.1), there.2))
      | inr other ↦ held_at (set chains p (s ∷ get_or chains p [])) q' q t (get_or chains q []) e (get_or-set_other chains p q (s ∷ get_or chains p []) [] other) has
    ]

-- the arrays after a seat went first in a chain
pub link_holds : (heads next before owner : List ℕ) (chains : List (List ℕ)) (p s : ℕ) → Holds heads next before owner chains → p < length heads → s < length next → get_or owner s none ≡ none
    → Holds (set heads p s) (set next s (get_or heads p none)) (set (set before s none) (get_or heads p none) s) (set owner s p) (set chains p (s ∷ get_or chains p []))
link_holds heads next before owner chains p s a lp ls free =
    let h : ℕ = get_or heads p none in
    let xs : List ℕ = get_or chains p [] in
    let cp : IsChain next before owner p h xs = a.chain p lp in
    let next' : List ℕ = set next s h in
    let before' : List ℕ = set (set before s none) h s in
    let owner' : List ℕ = set owner s p in
    let chains' : List (List ℕ) = set chains p (s ∷ xs) in
    let size : length next' ≡ length next = length-set next s h in
    let inside : p < length chains = omega (arith, a.count, lp) in
    let put : IsChain next' before' owner' p s (s ∷ xs) = put_chain next before owner p s h xs cp a.before_size a.owner_size a.few_seats (omega (arith, lp, a.few_places)) ls free in
    record {
      before_size = simp length-set a.before_size;
      owner_size = simp length-set a.owner_size;
      few_seats = simp length-set a.few_seats;
      few_places = simp length-set a.few_places;
      count = simp length-set a.count;
      chain = λ q lq. (let lq' : q < length heads = simp length-set at lq in
          elim (cases_eq q p) [
            | inl same ↦ (let P : ℕ → Type 0 = λ r. IsChain next' before' owner' r (get_or (set heads p s) r none) (get_or chains' r []) in
                subst P (sym same) (chain_frame next' before' owner' next' before' owner' p s (get_or (set heads p s) p none) (s ∷ xs) (get_or chains' p []) put (get_or-set_same heads p s none lp) (get_or-set_same chains p (s ∷ xs) [] inside) refl (λ _ _. refl) (λ _ _. refl) (λ _ _. refl)))
            | inr other ↦ (let cq = a.chain q lq' in
                let ys : List ℕ = get_or chains q [] in
                let not_s : (i : ℕ) → i < length ys → get_or ys i none ≢ s = λ i hi e. (let o : get_or owner (get_or ys i none) none ≡ q = cq.owned i hi in let e2 : get_or owner (get_or ys i none) none ≡ none = ap (λ x. get_or owner x none) e ∙ free in omega (arith, o, e2, lq', a.few_places)) in
                let not_h : (i : ℕ) → i < length ys → get_or ys i none ≢ h = λ i hi e. elim (cases_lt 0 (length xs)) [
                  | inl some ↦ (let o : get_or owner (get_or ys i none) none ≡ q = cq.owned i hi in let o2 : get_or owner (get_or ys i none) none ≡ p = ap (λ x. get_or owner x none) (e ∙ cp.first) ∙ cp.owned 0 some in other (sym o ∙ o2))
                  | inr empty ↦ (let past : get_or xs 0 none ≡ none = get_or_past xs 0 none empty in omega (arith, past, cp.first, e, cq.inside i hi, a.few_seats))
                ] in
                chain_frame next before owner next' before' owner' q (get_or heads q none) (get_or (set heads p s) q none) ys (get_or chains' q []) cq (get_or-set_other heads p q s none other) (get_or-set_other chains p q (s ∷ xs) [] other) size
                (λ i hi. get_or-set_other next s (get_or ys i none) h none (not_s i hi))
                (λ i hi. get_or-set_other (set before s none) h (get_or ys i none) s none (not_h i hi) ∙ get_or-set_other before s (get_or ys i none) none none (not_s i hi))
                (λ i hi. get_or-set_other owner s (get_or ys i none) p none (not_s i hi)))
          ]);
      held = λ t lt. (let lt' : t < length next = simp length-set at lt in
          elim (cases_eq t s) [
            | inl same ↦ inr (let o : get_or owner' t none ≡ p = ap (λ x. get_or owner' x none) same ∙ get_or-set_same owner s p none (omega (arith, a.owner_size, ls)) in
                (simp length-set (omega (arith, o, lp)), held_at chains' (get_or owner' t none) p t (s ∷ xs) o (get_or-set_same chains p (s ∷ xs) [] inside) (0, omega arith, sym same)))
            | inr other ↦ (let o : get_or owner' t none ≡ get_or owner t none = get_or-set_other owner s t p none other in
                elim (a.held t lt') [
                  | inl out ↦ inl (o ∙ out)
                  | inr there ↦ inr (simp length-set (omega (arith, o, there.0)), kept_first chains p (get_or owner t none) (get_or owner' t none) s t o inside there.1)
                ])
          ]);
    }
