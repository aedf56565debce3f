-- What links keep, as functions over arrays meet it.
use Rattle.std.proofs.Common.{◌≡◌, ◌≢◌, ℕ, ◌<◌, List, [], ◌∷◌, length, get_or, set, None, refl, sym, ◌∙◌, ap, subst, arith, inl, inr}
use Rattle.std.specs.List.{slice_get}
use Rattle.std.proofs.lemmas.List.{get_or_past, get_or_default, length-set, length-map, set_past}
use Rattle.std.proofs.lemmas.Bool.{cases_lt}
use Rattle.arena_core.specs.Links.{none, IsChain, Holds, Keeps, nexts, befores, owners, chains_of}
use Rattle.arena_core.specs.Chains.{put_first}
use Rattle.arena_core.specs.declared.links.Link.{Link}
use Rattle.arena_core.proofs.WalkLemmas.{walks_are}
use Rattle.arena_core.proofs.LinkLemmas.{link_holds}

pub holds_cast : (heads next before owner heads' next' before' owner' : List ℕ) (chains : List (List ℕ)) → Holds heads next before owner chains → heads' ≡ heads → next' ≡ next → before' ≡ before → owner' ≡ owner → Holds heads' next' before' owner' chains
holds_cast heads next before owner heads' next' before' owner' chains a eh en eb eo =
    let P : List ℕ → Type 0 = λ x. Holds x next before owner chains in
    let Q : List ℕ → Type 0 = λ x. Holds heads' x before owner chains in
    let R : List ℕ → Type 0 = λ x. Holds heads' next' x owner chains in
    let S : List ℕ → Type 0 = λ x. Holds heads' next' before' x chains in
    subst S (sym eo) (subst R (sym eb) (subst Q (sym en) (subst P (sym eh) a)))

-- arrays that hold chains keep them
pub keeps_from : {L : Type 0} (at : L → ℕ) (heads : List ℕ) (links : List (Link L)) (chains : List (List ℕ)) → Holds heads (nexts links) (befores links) (owners at links) chains → Keeps at heads links × (chains_of heads links ≡ chains)
keeps_from at heads links chains a =
    let e : chains_of heads links ≡ chains = walks_are heads (nexts links) (befores links) (owners at links) chains a in
    let P : List (List ℕ) → Type 0 = λ c. Holds heads (nexts links) (befores links) (owners at links) c in
    (subst P (sym e) a, e)

pub linked : {L : Type 0} (at : L → ℕ) (heads heads' : List ℕ) (links links' : List (Link L)) (s p q h : ℕ) → Keeps at heads links → p < length heads → s < length links → get_or (owners at links) s none ≡ none → q ≡ p → h ≡ get_or heads q 0 → heads' ≡ set heads q s
    → nexts links' ≡ set (nexts links) s h → befores links' ≡ set (set (befores links) s none) h s → owners at links' ≡ set (owners at links) s p → Keeps at heads' links' × (chains_of heads' links' ≡ put_first (chains_of heads links) p s)
linked at heads heads' links links' s p q h a lp ls free eq eh e1 e2 e3 e4 =
    let size : s < length (nexts links) = simp length-map ls in
    let head : get_or heads p none ≡ h = get_or_default heads p none 0 lp ∙ ap (λ n. get_or heads n 0) (sym eq) ∙ sym eh in
    let P : ℕ → Type 0 = λ x. Holds (set heads p s) (set (nexts links) s x) (set (set (befores links) s none) x s) (set (owners at links) s p) (put_first (chains_of heads links) p s) in
    let done = subst P head (link_holds heads (nexts links) (befores links) (owners at links) (chains_of heads links) p s a lp size free) in
    keeps_from at heads' links' (put_first (chains_of heads links) p s) (holds_cast (set heads p s) (set (nexts links) s h) (set (set (befores links) s none) h s) (set (owners at links) s p) heads' (nexts links') (befores links') (owners at links') (put_first (chains_of heads links) p s) done (e1 ∙ ap (λ n. set heads n s) eq) e2 e3 e4)

-- a head that is a seat
pub head_inside : (heads next before owner : List ℕ) (chains : List (List ℕ)) (p : ℕ) → Holds heads next before owner chains → p < length heads → get_or heads p 0 ≢ none → get_or heads p 0 < length next
head_inside heads next before owner chains p a lp some =
    let c = a.chain p lp in
    let head : get_or heads p none ≡ get_or heads p 0 = get_or_default heads p none 0 lp in
    elim (cases_lt 0 (length (get_or chains p []))) [
      | inl there ↦ (let i = c.inside 0 there in omega (arith, i, c.first, head))
      | inr empty ↦ (let past : get_or (get_or chains p []) 0 none ≡ none = get_or_past (get_or chains p []) 0 none empty in absurd (some (sym head ∙ c.first ∙ past)))
    ]

-- writing at no seat changes nothing
pub set_none : (xs : List ℕ) (h v : ℕ) → length xs < none → h ≡ none → xs ≡ set xs h v
set_none xs h v few e = sym (ap (λ n. set xs n v) e ∙ set_past xs none v (omega (arith, few)))

first_of_chain : (next before owner : List ℕ) (p head : ℕ) (xs : List ℕ) → IsChain next before owner p head xs → length next < none → head ≡ none → None ≡ slice_get xs 0
first_of_chain next before owner p head [] c few e = refl
first_of_chain next before owner p head (x ∷ xs) c few e = let i : x < length next = c.inside 0 (omega arith) in absurd (omega (arith, i, c.first, e, few))

pub no_first : (heads next before owner : List ℕ) (chains chains' : List (List ℕ)) (p : ℕ) → Holds heads next before owner chains → chains ≡ chains' → p < length heads → get_or heads p 0 ≡ none → None ≡ slice_get (get_or chains' p []) 0
no_first heads next before owner chains chains' p a e lp out =
    first_of_chain next before owner p (get_or heads p none) (get_or chains p []) (a.chain p lp) a.few_seats (get_or_default heads p none 0 lp ∙ out) ∙ ap (λ c. slice_get (get_or c p []) 0) e

-- a write at no seat, after one at a seat
pub befores_few : {L : Type 0} (at : L → ℕ) (heads : List ℕ) (links links' : List (Link L)) (s : ℕ) → Keeps at heads links → befores links' ≡ set (befores links) s none → (v h : ℕ) → h ≡ none → set (befores links) s none ≡ set (set (befores links) s none) h v
befores_few at heads links links' s a e v h is = set_none (set (befores links) s none) h v (simp length-set (omega (arith, a.before_size, a.few_seats))) is

pub places_are : (heads next before owner : List ℕ) (chains chains' : List (List ℕ)) (p : ℕ) → Holds heads next before owner chains → chains ≡ chains' → p < length chains' → p < length heads
places_are heads next before owner chains chains' p a e lp = omega (arith, a.count, ap length e, lp)

pub no_first_at : (heads next before owner : List ℕ) (chains chains' : List (List ℕ)) (p h : ℕ) → Holds heads next before owner chains → chains ≡ chains' → p < length chains' → h ≡ get_or heads p h → h ≡ none → None ≡ slice_get (get_or chains' p []) 0
no_first_at heads next before owner chains chains' p h a e lp read out =
    let lp' : p < length heads = places_are heads next before owner chains chains' p a e lp in
    no_first heads next before owner chains chains' p a e lp' (get_or_default heads p 0 h lp' ∙ sym read ∙ out)
