-- What callers of chains know of a seat.
use Rattle.std.proofs.Common.{◌≡◌, ◌≢◌, ℕ, zero, suc, ◌+◌, ◌<◌, ◌≤◌, List, [], ◌∷◌, length, get_or, Option, None, Some, refl, sym, ◌∙◌, ap, subst, arith, inl, inr}
use Rattle.std.specs.List.{Contains, slice_get}
use Rattle.std.proofs.lemmas.List.{get_or_past, get_or_default, length-map, get_or-map}
use Rattle.std.proofs.lemmas.Bool.{cases_lt}
use Rattle.std.specs.Option.{IsSome}
use Rattle.arena_core.specs.Links.{none, place_in, Keeps, HasRoom, nexts, befores, owners, chains_of}
use Rattle.arena_core.specs.Chains.{IsSeated, AreApart}
use Rattle.arena_core.specs.declared.links.Link.{Link}
use Rattle.arena_core.proofs.UnlinkLemmas.{distinct_ne}
use Rattle.std.proofs.lemmas.Bool.{cases_eq}
use Rattle.arena_core.proofs.KeepsLemmas.{head_inside}

pub keeps_same : {L : Type 0} (at : L → ℕ) (heads heads' : List ℕ) (links links' : List (Link L)) → Keeps at heads links → heads' ≡ heads → links' ≡ links → Keeps at heads' links'
keeps_same {L} at heads heads' links links' h eh el =
    let P : List ℕ → Type 0 = λ x. Keeps at x links in
    let Q : List (Link L) → Type 0 = λ x. Keeps at heads' x in
    subst Q (sym el) (subst P (sym eh) h)

length-nexts : {L : Type 0} (links : List (Link L)) → length (nexts links) ≡ length links
length-nexts {L} links = length-map links (λ (l : Link L). l.next)

-- a place with a seat in its chain is in the table
place_inside : (chains : List (List ℕ)) (p k : ℕ) → k < length (get_or chains p []) → p < length chains
place_inside chains p k lt =
    elim (cases_lt p (length chains)) [
      | inl inside ↦ inside
      | inr past ↦ (let e : get_or chains p [] ≡ [] = get_or_past chains p [] past in let size : length (get_or chains p []) ≡ 0 = ap length e in absurd (omega (arith, size, lt)))
    ]

pub seated : {L : Type 0} (at : L → ℕ) (heads : List ℕ) (links : List (Link L)) (chains : List (List ℕ)) (s : ℕ) → Keeps at heads links → chains_of heads links ≡ chains → IsSeated chains s → (s < length links) × (get_or (owners at links) s none ≢ none)
seated at heads links chains s h e has =
    let P : List (List ℕ) → Type 0 = λ c. IsSeated c s in
    let mine : IsSeated (chains_of heads links) s = subst P (sym e) has in
    let p : ℕ = mine.0 in
    let k : ℕ = mine.1.0 in
    let lk : k < length (get_or (chains_of heads links) p []) = mine.1.1 in
    let lp : p < length heads = omega (arith, h.count, place_inside (chains_of heads links) p k lk) in
    let c = h.chain p lp in
    let is : get_or (get_or (chains_of heads links) p []) k none ≡ s = get_or_default (get_or (chains_of heads links) p []) k none s lk ∙ mine.1.2 in
    let i = c.inside k lk in
    (omega (arith, i, is, length-nexts links), λ out. omega (arith, ap (λ x. get_or (owners at links) x none) is ∙ out, c.owned k lk, lp, h.few_places))

-- a link with a place has a literal, of that place
pub owner_is : {L : Type 0} (at : L → ℕ) (owner : Option L) (p : ℕ) → place_in at owner ≡ p → p ≢ none → IsSome owner
owner_is at None p e ne = absurd (ne (sym e))
owner_is at (Some l) p e ne = refl

pub owner_read : {L : Type 0} (at : L → ℕ) (links : List (Link L)) (s m : ℕ) (l : Link L) → s < length links → m ≡ s → l ≡ get_or links m l → place_in at l.owner ≡ get_or (owners at links) s none
owner_read {L} at links s m l ls same read =
    ap (λ (x : Link L). place_in at x.owner) (read ∙ ap (λ j. get_or links j l) same) ∙ sym (get_or-map (λ (x : Link L). place_in at x.owner) links s l none ls)

-- a seat is in the chain of its owner
pub owned : {L : Type 0} (at : L → ℕ) (heads : List ℕ) (links : List (Link L)) (chains : List (List ℕ)) (s m : ℕ) (l : Link L) (literal : L) → Keeps at heads links → chains_of heads links ≡ chains → IsSeated chains s → m ≡ s → l ≡ get_or links m l → l.owner ≡ Some literal → Contains (get_or chains (at literal) []) s
owned {L} at heads links chains s m l literal h e has same read some =
    let P : List (List ℕ) → Type 0 = λ c. IsSeated c s in
    let mine : IsSeated (chains_of heads links) s = subst P (sym e) has in
    let p : ℕ = mine.0 in
    let k : ℕ = mine.1.0 in
    let lk : k < length (get_or (chains_of heads links) p []) = mine.1.1 in
    let lp : p < length heads = omega (arith, h.count, place_inside (chains_of heads links) p k lk) in
    let c = h.chain p lp in
    let is : get_or (get_or (chains_of heads links) p []) k none ≡ s = get_or_default (get_or (chains_of heads links) p []) k none s lk ∙ mine.1.2 in
    let ls : s < length links = omega (arith, c.inside k lk, is, length-nexts links) in
    let there : get_or (owners at links) s none ≡ p = ap (λ x. get_or (owners at links) x none) (sym is) ∙ c.owned k lk in
    let owner : at literal ≡ p = sym (ap (place_in at) some) ∙ owner_read at links s m l ls same read ∙ there in
    let Q : ℕ → Type 0 = λ q. Contains (get_or (chains_of heads links) q []) s in
    let R : List (List ℕ) → Type 0 = λ c. Contains (get_or c (at literal) []) s in
    subst R e (subst Q (sym owner) mine.1)

pub seat_small : {L : Type 0} (at : L → ℕ) (heads : List ℕ) (links : List (Link L)) (room : ℕ) (s : ℕ) → HasRoom at heads links room → s < length links → s < 4200000000
seat_small at heads links room s h lt = omega (arith, h.wide, lt)

pub head_small : {L : Type 0} (at : L → ℕ) (heads : List ℕ) (links : List (Link L)) (chains : List (List ℕ)) (room p h : ℕ) → HasRoom at heads links room → chains_of heads links ≡ chains → p < length chains → h ≡ get_or heads p h → h ≢ none → h < 4200000000
head_small at heads links chains room p h w e lp read some =
    let size : length heads ≡ length chains = sym w.keeps.count ∙ ap length e in
    let lp' : p < length heads = omega (arith, size, lp) in
    let is : h ≡ get_or heads p 0 = read ∙ get_or_default heads p h 0 lp' in
    let i = head_inside heads (nexts links) (befores links) (owners at links) (chains_of heads links) p w.keeps lp' (λ o. some (is ∙ o)) in
    omega (arith, i, is, length-nexts links, w.wide)

get_some : (xs : List ℕ) (i x : ℕ) → i < length xs → get_or xs i none ≡ x → Some x ≡ slice_get xs i
get_some [] i x lt e = absurd (omega (arith, lt))
get_some (y ∷ xs) zero x lt e = ap (λ z. Some z) (sym e)
get_some (y ∷ xs) (suc i) x lt e = get_some xs i x (omega (arith, lt)) e

get_none : (xs : List ℕ) (i : ℕ) → length xs ≤ i → None ≡ slice_get xs i
get_none [] i le = refl
get_none (y ∷ xs) zero le = absurd (omega (arith, le))
get_none (y ∷ xs) (suc i) le = get_none xs i (omega (arith, le))

-- what stands after a seat in its chain
pub after_seat : {L : Type 0} (at : L → ℕ) (heads : List ℕ) (links : List (Link L)) (chains : List (List ℕ)) (s n p i : ℕ) → Keeps at heads links → chains_of heads links ≡ chains → n ≡ get_or (nexts links) s none → i < length (get_or chains p []) → get_or (get_or chains p []) i 0 ≡ s
    → ((n ≢ none → (n < length links) × (Some n ≡ slice_get (get_or chains p []) (i + 1))) × (n ≡ none → None ≡ slice_get (get_or chains p []) (i + 1)))
after_seat at heads links chains s n p i h e is =
    let P : List (List ℕ) → Type 0 = λ c. i < length (get_or c p []) → get_or (get_or c p []) i 0 ≡ s → ((n ≢ none → (n < length links) × (Some n ≡ slice_get (get_or c p []) (i + 1))) × (n ≡ none → None ≡ slice_get (get_or c p []) (i + 1))) in
    subst P e (λ li there.
    let mine : List (List ℕ) = chains_of heads links in
    let xs : List ℕ = get_or mine p [] in
    let lp : p < length heads = omega (arith, h.count, place_inside mine p i li) in
    let c = h.chain p lp in
    let here : get_or xs i none ≡ s = get_or_default xs i none 0 li ∙ there in
    let next : get_or xs (i + 1) none ≡ n = sym (c.forward i li) ∙ ap (λ x. get_or (nexts links) x none) here ∙ sym is in (
      (λ some. elim (cases_lt (i + 1) (length xs)) [
        | inl lt ↦ (omega (arith, c.inside (i + 1) lt, next, length-nexts links), get_some xs (i + 1) n lt next)
        | inr past ↦ absurd (some (sym next ∙ get_or_past xs (i + 1) none past))
      ]),
      (λ out. elim (cases_lt (i + 1) (length xs)) [
        | inl lt ↦ absurd (omega (arith, c.inside (i + 1) lt, next, out, h.few_seats))
        | inr past ↦ get_none xs (i + 1) past
      ]),
    ))

pub next_read : {L : Type 0} (links : List (Link L)) (s : ℕ) (l : Link L) → s < length links → l ≡ get_or links s l → l.next ≡ get_or (nexts links) s none
next_read {L} links s l lt read = ap (λ (x : Link L). x.next) read ∙ sym (get_or-map (λ (x : Link L). x.next) links s l none lt)

pub after_read : {L : Type 0} (at : L → ℕ) (heads : List ℕ) (links : List (Link L)) (chains : List (List ℕ)) (s m p i : ℕ) (l : Link L) → Keeps at heads links → chains_of heads links ≡ chains → IsSeated chains s → m ≡ s → l ≡ get_or links m l → i < length (get_or chains p []) → get_or (get_or chains p []) i 0 ≡ s
    → ((l.next ≢ none → (l.next < length links) × (Some l.next ≡ slice_get (get_or chains p []) (i + 1))) × (l.next ≡ none → None ≡ slice_get (get_or chains p []) (i + 1)))
after_read at heads links chains s m p i l h e has same read li there =
    let ls : s < length links = (seated at heads links chains s h e has).0 in
    let read' : l ≡ get_or links s l = read ∙ ap (λ j. get_or links j l) same in
    after_seat at heads links chains s l.next p i h e (next_read links s l ls read') li there

-- a seated seat stands at a place, counted with 0 past the end
pub spot : (chains : List (List ℕ)) (s : ℕ) → IsSeated chains s → (p : ℕ) × (i : ℕ) × (i < length (get_or chains p [])) × (get_or (get_or chains p []) i 0 ≡ s)
spot chains s has = (has.0, has.1.0, has.1.1, get_or_default (get_or chains has.0 []) has.1.0 0 s has.1.1 ∙ has.1.2)

pub seated_same : {L : Type 0} (heads heads' : List ℕ) (links links' : List (Link L)) (chains : List (List ℕ)) (s s' : ℕ) → heads' ≡ heads → links' ≡ links → chains_of heads links ≡ chains → s' ≡ s → IsSeated chains s → IsSeated (chains_of heads' links') s'
seated_same heads heads' links links' chains s s' eh el e es has =
    let P : List (List ℕ) → Type 0 = λ c. IsSeated c s in
    let Q : ℕ → Type 0 = λ t. IsSeated (chains_of heads' links') t in
    let same : chains ≡ chains_of heads' links' = sym e ∙ ap (λ h. chains_of h links) (sym eh) ∙ ap (chains_of heads') (sym el) in
    subst Q (sym es) (subst P same has)

-- a seat that is in no chain has no literal
pub not_owned : {L : Type 0} (at : L → ℕ) (heads : List ℕ) (links links' : List (Link L)) (chains : List (List ℕ)) (s s' : ℕ) → Keeps at heads links → chains_of heads links ≡ chains → (IsSeated chains s → ⊥) → links' ≡ links → s' ≡ s → s' < length links' → get_or (owners at links') s' none ≡ none
not_owned {L} at heads links links' chains s s' h e free el es lt =
    let P : List (List ℕ) → Type 0 = λ c. IsSeated c s in
    let ls : s < length (nexts links) = omega (arith, lt, es, ap length el, length-nexts links) in
    ap (λ i. get_or (owners at links') i none) es ∙ ap (λ (ys : List (Link L)). get_or (owners at ys) s none) el ∙ elim (h.held s ls) [
      | inl out ↦ out
      | inr there ↦ absurd (free (subst P e (get_or (owners at links) s none, there.1)))
    ]

-- chains that changed have the room that they had
pub still_roomy : {L : Type 0} (at : L → ℕ) (heads heads1 heads2 : List ℕ) (links links1 links2 : List (Link L)) (room : ℕ) → HasRoom at heads links room → Keeps at heads1 links1 → length links1 ≡ length links → heads2 ≡ heads1 → links2 ≡ links1 → HasRoom at heads2 links2 room
still_roomy at heads heads1 heads2 links links1 links2 room h keeps size eh el = record { keeps = keeps_same at heads1 heads2 links1 links2 keeps eh el; wide = ap length el ∙ size ∙ h.wide }

-- each seat stands once, in one chain
pub apart_from : {L : Type 0} (at : L → ℕ) (heads : List ℕ) (links : List (Link L)) → Keeps at heads links → AreApart (chains_of heads links)
apart_from at heads links h p i q j hi hj e =
    let cs : List (List ℕ) = chains_of heads links in
    let lp : p < length heads = omega (arith, h.count, place_inside cs p i hi) in
    let lq : q < length heads = omega (arith, h.count, place_inside cs q j hj) in
    let cp = h.chain p lp in
    let cq = h.chain q lq in
    let same : get_or (get_or cs p []) i none ≡ get_or (get_or cs q []) j none = get_or_default (get_or cs p []) i none 0 hi ∙ e ∙ get_or_default (get_or cs q []) j 0 none hj in
    let pq : p ≡ q = sym (cp.owned i hi) ∙ ap (λ x. get_or (owners at links) x none) same ∙ cq.owned j hj in (
      pq,
      elim (cases_eq i j) [
        | inl ij ↦ ij
        | inr ne ↦ (let P : ℕ → Type 0 = λ r. i < length (get_or cs r []) × (get_or (get_or cs r []) i none ≡ get_or (get_or cs q []) j none) in
            let there : P q = subst P pq (hi, same) in
            absurd (distinct_ne (nexts links) (befores links) (owners at links) q (get_or heads q none) (get_or cs q []) cq h.few_seats i j ne there.0 hj there.1))
      ],
    )

pub apart_seen : {L : Type 0} (at : L → ℕ) (heads : List ℕ) (links : List (Link L)) (chains : List (List ℕ)) → Keeps at heads links → chains_of heads links ≡ chains → AreApart chains
apart_seen at heads links chains h e = let P : List (List ℕ) → Type 0 = λ c. AreApart c in subst P e (apart_from at heads links h)
