-- What is left when a seat leaves its chain, as a caller sees it.
use Rattle.std.proofs.Common.{◌≡◌, ◌≢◌, ℕ, zero, suc, ◌+◌, ◌-◌, ◌<◌, ◌==◌, not, true, cond, List, [], ◌∷◌, length, get_or, set, refl, sym, ◌∙◌, ap, subst, arith, inl, inr, ◌⊎◌, eq-eqb}
use Rattle.std.specs.List.{remove}
use Rattle.std.proofs.lemmas.List.{get_or_past, get_or_default, length-set, length-map, get_or-map, get_or-set_same, get_or-set_other, ext_get_or}
use Rattle.std.proofs.lemmas.Bool.{cases_eq, cases_lt}
use Rattle.std.proofs.lemmas.Bool.Decides.{eqb_tells}
use Rattle.arena_core.specs.Links.{none, Holds, Keeps, nexts, befores, owners, chains_of}
use Rattle.arena_core.specs.Chains.{others, taken_out}
use Rattle.arena_core.specs.declared.links.Link.{Link}
use Rattle.arena_core.proofs.UnlinkLemmas.{distinct_ne, unlink_holds, after_is, before_is, before_none, IsAt}
use Rattle.arena_core.proofs.KeepsLemmas.{keeps_from, holds_cast}

not_equal : (x s : ℕ) → x ≢ s → not (x == s) ≡ true
not_equal x s h = elim (eqb_tells x s) [ inl same ↦ absurd (h same.1) | inr other ↦ ap not other.0 ]

others_all : (s : ℕ) (xs : List ℕ) → ((i : ℕ) → i < length xs → get_or xs i none ≢ s) → others s xs ≡ xs
others_all s [] h = refl
others_all s (x ∷ xs) h =
    ap (λ b. cond b (x ∷ others s xs) (others s xs)) (not_equal x s (h 0 (omega arith))) ∙ ap (λ ys. x ∷ ys) (others_all s xs (λ i lt. h (suc i) (omega (arith, lt))))

others_cut : (s : ℕ) (xs : List ℕ) (k : ℕ) → k < length xs → get_or xs k none ≡ s → ((i : ℕ) → i < length xs → i ≢ k → get_or xs i none ≢ s) → others s xs ≡ remove xs k
others_cut s [] k lt is h = absurd (omega (arith, lt))
others_cut s (x ∷ xs) zero lt is h =
    ap (λ b. cond (not b) (x ∷ others s xs) (others s xs)) (eq-eqb x s is) ∙ others_all s xs (λ i lt. h (suc i) (omega (arith, lt)) (omega arith))
others_cut s (x ∷ xs) (suc k) lt is h =
    ap (λ b. cond b (x ∷ others s xs) (others s xs)) (not_equal x s (h 0 (omega arith) (omega arith)))
    ∙ ap (λ ys. x ∷ ys) (others_cut s xs k (omega (arith, lt)) is (λ i lt ne. h (suc i) (omega (arith, lt)) (λ e. ne (omega (arith, e)))))

taken_out_is : (heads next before owner : List ℕ) (chains : List (List ℕ)) (q s k : ℕ) → Holds heads next before owner chains → q < length heads → k < length (get_or chains q []) → get_or (get_or chains q []) k none ≡ s
    → set chains q (remove (get_or chains q []) k) ≡ taken_out chains s
taken_out_is heads next before owner chains q s k h lq lk is =
    let xs : List ℕ = get_or chains q [] in
    let ys : List ℕ = remove xs k in
    let cq = h.chain q lq in
    let size : length (set chains q ys) ≡ length (taken_out chains s) = simp (length-set, length-map) in
    ext_get_or [] (set chains q ys) (taken_out chains s) size (λ p lp.
    let lp' : p < length chains = simp length-set at lp in
    let right : get_or (taken_out chains s) p [] ≡ others s (get_or chains p []) = get_or-map (others s) chains p [] [] lp' in
    elim (cases_eq p q) [
      | inl same ↦ (let cut : others s xs ≡ ys = others_cut s xs k lk is (λ i li ne e. distinct_ne next before owner q (get_or heads q none) xs cq h.few_seats i k ne li lk (e ∙ sym is)) in
          ap (λ r. get_or (set chains q ys) r []) same ∙ get_or-set_same chains q ys [] (omega (arith, h.count, lq)) ∙ sym cut ∙ sym (ap (λ r. others s (get_or chains r [])) same) ∙ sym right)
      | inr other ↦ (let cp = h.chain p (omega (arith, h.count, lp')) in
          let away : others s (get_or chains p []) ≡ get_or chains p [] = others_all s (get_or chains p []) (λ i li e. other (sym (cp.owned i li) ∙ ap (λ x. get_or owner x none) (e ∙ sym is) ∙ cq.owned k lk)) in
          get_or-set_other chains q p ys [] other ∙ sym away ∙ sym right)
    ])

-- where a seat with an owner stands
pub record Stands (heads next before owner : List ℕ) (chains : List (List ℕ)) (s q k : ℕ) : Type 0 where
  pub place : q < length heads
  pub within : k < length (get_or chains q [])
  pub is : get_or (get_or chains q []) k none ≡ s

pub stands : (heads next before owner : List ℕ) (chains : List (List ℕ)) (s : ℕ) → Holds heads next before owner chains → s < length next → get_or owner s none ≢ none → (k : ℕ) × Stands heads next before owner chains s (get_or owner s none) k
stands heads next before owner chains s h ls owned =
    elim (h.held s ls) [
      | inl out ↦ absurd (owned out)
      | inr there ↦ (there.1.0, record { place = there.0; within = there.1.1; is = get_or_default (get_or chains (get_or owner s none) []) there.1.0 none s there.1.1 ∙ there.1.2 })
    ]

at_seat : (heads next before owner : List ℕ) (chains : List (List ℕ)) (s q k : ℕ) → Holds heads next before owner chains → Stands heads next before owner chains s q k → IsAt next before owner q (get_or heads q none) (get_or chains q []) k s (get_or before s none) (get_or next s none)
at_seat heads next before owner chains s q k h w = record { chain = h.chain q w.place; few = h.few_seats; within = w.within; is = w.is; ahead = refl; behind = refl }

-- the seat before, where there is one
pub before_inside : (heads next before owner : List ℕ) (chains : List (List ℕ)) (s : ℕ) → Holds heads next before owner chains → s < length next → get_or owner s none ≢ none → (get_or before s none < length next) ⊎ (get_or before s none ≡ none)
before_inside heads next before owner chains s h ls owned =
    let found = stands heads next before owner chains s h ls owned in
    let q : ℕ = get_or owner s none in
    let w = at_seat heads next before owner chains s q found.0 h found.1 in
    elim (cases_lt 0 found.0) [
      | inl some ↦ inl (let b = before_is next before owner q (get_or heads q none) (get_or chains q []) found.0 s (get_or before s none) (get_or next s none) (found.0 - 1) w (omega (arith, some)) in
          let i = w.chain.inside (found.0 - 1) (omega (arith, w.within)) in omega (arith, b, i))
      | inr first ↦ inr (before_none next before owner q (get_or heads q none) (get_or chains q []) found.0 s (get_or before s none) (get_or next s none) w (omega (arith, first)))
    ]

-- the next seat, where there is one
pub next_inside : (heads next before owner : List ℕ) (chains : List (List ℕ)) (s : ℕ) → Holds heads next before owner chains → s < length next → get_or owner s none ≢ none → (get_or next s none < length next) ⊎ (get_or next s none ≡ none)
next_inside heads next before owner chains s h ls owned =
    let found = stands heads next before owner chains s h ls owned in
    let q : ℕ = get_or owner s none in
    let xs : List ℕ = get_or chains q [] in
    let w = at_seat heads next before owner chains s q found.0 h found.1 in
    let a : get_or next s none ≡ get_or xs (found.0 + 1) none = after_is next before owner q (get_or heads q none) xs found.0 s (get_or before s none) (get_or next s none) w in
    elim (cases_lt (found.0 + 1) (length xs)) [
      | inl some ↦ inl (let i = w.chain.inside (found.0 + 1) some in omega (arith, a, i))
      | inr last ↦ inr (a ∙ get_or_past xs (found.0 + 1) none last)
    ]

-- the place of a seat's literal
pub owner_inside : {L : Type 0} (at : L → ℕ) (heads : List ℕ) (links : List (Link L)) (s q : ℕ) → Keeps at heads links → s < length links → get_or (owners at links) s none ≢ none → q ≡ get_or (owners at links) s none → q < length heads
owner_inside at heads links s q h ls owned e =
    let found = stands heads (nexts links) (befores links) (owners at links) (chains_of heads links) s h (simp length-map ls) owned in
    omega (arith, found.1.place, e)

pub unlinked : {L : Type 0} (at : L → ℕ) (heads heads' : List ℕ) (links links' : List (Link L)) (s q b a : ℕ) → Keeps at heads links → s < length links → q ≢ none → q ≡ get_or (owners at links) s none → b ≡ get_or (befores links) s none → a ≡ get_or (nexts links) s none
    → heads' ≡ cond (b == none) (set heads q a) heads → nexts links' ≡ set (nexts links) b a → befores links' ≡ set (befores links) a b → owners at links' ≡ set (owners at links) s none
    → Keeps at heads' links' × (chains_of heads' links' ≡ taken_out (chains_of heads links) s)
unlinked at heads heads' links links' s q b a h ls owned eq eb ea e1 e2 e3 e4 =
    let next : List ℕ = nexts links in
    let before : List ℕ = befores links in
    let owner : List ℕ = owners at links in
    let chains : List (List ℕ) = chains_of heads links in
    let size : s < length next = simp length-map ls in
    let found = stands heads next before owner chains s h size (λ e. owned (eq ∙ e)) in
    let Q : ℕ → Type 0 = λ r. Stands heads next before owner chains s r found.0 in
    let w : Stands heads next before owner chains s q found.0 = subst Q (sym eq) found.1 in
    let k : ℕ = found.0 in
    let spot = at_seat heads next before owner chains s q k h w in
    let few : b ≢ none → 0 < k = λ ne. elim (cases_lt 0 k) [ inl some ↦ some | inr first ↦ absurd (ne (eb ∙ before_none next before owner q (get_or heads q none) (get_or chains q []) k s (get_or before s none) (get_or next s none) spot (omega (arith, first)))) ] in
    let start : b ≡ none → k ≡ 0 = λ e. elim (cases_lt 0 k) [
      | inl some ↦ (let is = before_is next before owner q (get_or heads q none) (get_or chains q []) k s (get_or before s none) (get_or next s none) (k - 1) spot (omega (arith, some)) in
          let i = spot.chain.inside (k - 1) (omega (arith, w.within)) in absurd (omega (arith, is, i, e, eb, h.few_seats)))
      | inr first ↦ omega (arith, first)
    ] in
    let taken : (b ≡ none) → heads' ≡ set heads q a = λ e. e1 ∙ ap (λ t. cond t (set heads q a) heads) (eq-eqb b none e) in
    let left : (b ≢ none) → heads' ≡ heads = λ ne. e1 ∙ elim (eqb_tells b none) [ inl same ↦ absurd (ne same.1) | inr other ↦ ap (λ t. cond t (set heads q a) heads) other.0 ] in
    let sizes : length heads' ≡ length heads = elim (cases_eq b none) [ inl e ↦ ap length (taken e) ∙ length-set heads q a | inr ne ↦ ap length (left ne) ] in
    let apart : (p : ℕ) → p ≢ q → get_or heads' p none ≡ get_or heads p none = λ p ne. elim (cases_eq b none) [ inl e ↦ ap (λ x. get_or x p none) (taken e) ∙ get_or-set_other heads q p a none ne | inr other ↦ ap (λ x. get_or x p none) (left other) ] in
    let k0 : k ≡ 0 → get_or heads' q none ≡ a = λ e. (let none' : b ≡ none = eb ∙ before_none next before owner q (get_or heads q none) (get_or chains q []) k s (get_or before s none) (get_or next s none) spot e in
    ap (λ x. get_or x q none) (taken none') ∙ get_or-set_same heads q a none w.place) in
    let k1 : 0 < k → get_or heads' q none ≡ get_or heads q none = λ lt. ap (λ x. get_or x q none) (left (λ e. (let z : k ≡ 0 = start e in omega (arith, z, lt)))) in
    let done = unlink_holds heads next before owner heads' chains q s k b a h w.place w.within w.is (sym eb) (sym ea) sizes apart k0 k1 in
    let cast = holds_cast heads' (set next b a) (set before a b) (set owner s none) heads' (nexts links') (befores links') (owners at links') (set chains q (remove (get_or chains q []) k)) done refl e2 e3 e4 in
    let all = keeps_from at heads' links' (set chains q (remove (get_or chains q []) k)) cast in
    (all.0, all.1 ∙ taken_out_is heads next before owner chains q s k h w.place w.within w.is)

pub before_seat : {L : Type 0} (at : L → ℕ) (heads : List ℕ) (links : List (Link L)) (s b n : ℕ) → Keeps at heads links → s < length links → get_or (owners at links) s none ≢ none → b ≡ get_or (befores links) s none → length links ≡ n → (b < n) ⊎ (b ≡ none)
before_seat {L} at heads links s b n h ls owned e size =
    let same : length (nexts links) ≡ length links = length-map links (λ (l : Link L). l.next) in
    elim (before_inside heads (nexts links) (befores links) (owners at links) (chains_of heads links) s h (omega (arith, same, ls)) owned) [
      | inl lt ↦ inl (omega (arith, lt, same, e, size))
      | inr out ↦ inr (e ∙ out)
    ]

pub next_seat : {L : Type 0} (at : L → ℕ) (heads : List ℕ) (links : List (Link L)) (s a n : ℕ) → Keeps at heads links → s < length links → get_or (owners at links) s none ≢ none → a ≡ get_or (nexts links) s none → length links ≡ n → (a < n) ⊎ (a ≡ none)
next_seat {L} at heads links s a n h ls owned e size =
    let same : length (nexts links) ≡ length links = length-map links (λ (l : Link L). l.next) in
    elim (next_inside heads (nexts links) (befores links) (owners at links) (chains_of heads links) s h (omega (arith, same, ls)) owned) [
      | inl lt ↦ inl (omega (arith, lt, same, e, size))
      | inr out ↦ inr (e ∙ out)
    ]
