-- Empty chains, and chains with more room.
use Rattle.std.proofs.Common.{◌≡◌, ℕ, zero, suc, ◌+◌, ◌-◌, ◌*◌, ◌<◌, ◌≤◌, min, List, [], ◌∷◌, ◌++◌, length, map, get_or, take, replicate, refl, sym, ◌∙◌, ap, subst, arith, inl, inr}
use Rattle.std.specs.List.{Contains}
use Rattle.std.proofs.lemmas.List.{get_or_past, get_or-replicate, length-replicate, length-append, length-map, get_or_append_left, get_or-append_right, map-append, take_all}
use Rattle.std.proofs.lemmas.Bool.{cases_lt}
use Rattle.arena_core.specs.Links.{none, place_in, IsChain, Holds, Keeps, HasRoom, nexts, befores, owners, chains_of}
use Rattle.arena_core.specs.declared.links.Link.{Link}
use Rattle.arena_core.proofs.KeepsLemmas.{keeps_from, holds_cast}

no_seats : (next before owner : List ℕ) (p head : ℕ) (xs : List ℕ) → head ≡ none → xs ≡ [] → IsChain next before owner p head xs
no_seats next before owner p head xs eh ex =
    let size : length xs ≡ 0 = ap length ex in
    record {
      inside = λ i h. absurd (omega (arith, h, size));
      owned = λ i h. absurd (omega (arith, h, size));
      first = eh ∙ sym (get_or_past xs 0 none (omega (arith, size)));
      forward = λ i h. absurd (omega (arith, h, size));
      start = λ h. absurd (omega (arith, h, size));
      back = λ i h. absurd (omega (arith, h, size));
    }

pub empty_holds : (n : ℕ) → n < none → Holds (replicate n none) [] [] [] (replicate n [])
empty_holds n few = record {
  before_size = refl;
  owner_size = refl;
  few_seats = omega arith;
  few_places = simp length-replicate few;
  count = length-replicate n [] ∙ sym (length-replicate n none);
  chain = λ p lt. (let lp : p < n = simp length-replicate at lt in no_seats [] [] [] p (get_or (replicate n none) p none) (get_or (replicate n []) p []) (get_or-replicate n p none none lp) (get_or-replicate n p [] [] lp));
  held = λ s lt. absurd (omega (arith, lt));
}

pub grown_holds : (heads next before owner : List ℕ) (chains : List (List ℕ)) (m : ℕ) → Holds heads next before owner chains → length next + m < none → Holds heads (next ++ replicate m none) (before ++ replicate m none) (owner ++ replicate m none) chains
grown_holds heads next before owner chains m h few =
    let wide : (xs : List ℕ) → length (xs ++ replicate m none) ≡ length xs + m = λ xs. length-append xs (replicate m none) ∙ ap (λ n. length xs + n) (length-replicate m none) in
    let left : (xs : List ℕ) (i : ℕ) → i < length xs → get_or (xs ++ replicate m none) i none ≡ get_or xs i none = λ xs i lt. get_or_append_left xs (replicate m none) none i lt in
    record {
      before_size = omega (arith, wide next, wide before, h.before_size);
      owner_size = omega (arith, wide next, wide owner, h.owner_size);
      few_seats = omega (arith, wide next, few);
      few_places = h.few_places;
      count = h.count;
      chain = λ p lp. (let c = h.chain p lp in
          let xs : List ℕ = get_or chains p [] in
          record {
            inside = λ i hi. omega (arith, wide next, c.inside i hi);
            owned = λ i hi. left owner (get_or xs i none) (omega (arith, h.owner_size, c.inside i hi)) ∙ c.owned i hi;
            first = c.first;
            forward = λ i hi. left next (get_or xs i none) (c.inside i hi) ∙ c.forward i hi;
            start = λ hs. left before (get_or xs 0 none) (omega (arith, h.before_size, c.inside 0 hs)) ∙ c.start hs;
            back = λ i hi. left before (get_or xs (i + 1) none) (omega (arith, h.before_size, c.inside (i + 1) hi)) ∙ c.back i hi;
          });
      held = λ s ls. elim (cases_lt s (length next)) [
        | inl old ↦ (let o : get_or (owner ++ replicate m none) s none ≡ get_or owner s none = left owner s (omega (arith, h.owner_size, old)) in
            elim (h.held s old) [
              | inl out ↦ inl (o ∙ out)
              | inr there ↦ inr (omega (arith, o, there.0), (let P : ℕ → Type 0 = λ q. Contains (get_or chains q []) s in subst P (sym o) there.1))
            ])
        | inr new ↦ inl (get_or-append_right owner (replicate m none) (length next) s none h.owner_size new ∙ get_or-replicate m (s - length next) none none (omega (arith, new, ls, wide next)))
      ];
    }

map_blank : {L : Type 0} (f : Link L → ℕ) (m : ℕ) (b : Link L) → map f (replicate m b) ≡ replicate m (f b)
map_blank f zero b = refl
map_blank f (suc m) b = ap (λ xs. f b ∷ xs) (map_blank f m b)

pub grown : {L : Type 0} (at : L → ℕ) (heads : List ℕ) (links links' : List (Link L)) (n : ℕ) (b : Link L) → Keeps at heads links → b.next ≡ none → b.before ≡ none → place_in at b.owner ≡ none → length links ≤ n → n < none → links' ≡ take n links ++ replicate (n - length links) b → Keeps at heads links' × (chains_of heads links' ≡ chains_of heads links)
grown {L} at heads links links' n b h en eb eo le few is =
    let all : links' ≡ links ++ replicate (n - length links) b = is ∙ ap (λ xs. xs ++ replicate (n - length links) b) (take_all n links le) in
    let spread : (f : Link L → ℕ) → f b ≡ none → map f links' ≡ map f links ++ replicate (n - length links) none = λ f e.
    ap (map f) all ∙ map-append f links (replicate (n - length links) b) ∙ ap (λ ys. map f links ++ ys) (map_blank f (n - length links) b ∙ ap (replicate (n - length links)) e) in
    let size : length (nexts links) ≡ length links = length-map links (λ (l : Link L). l.next) in
    let more = grown_holds heads (nexts links) (befores links) (owners at links) (chains_of heads links) (n - length links) h (omega (arith, size, le, few)) in
    keeps_from at heads links' (chains_of heads links) (holds_cast heads (nexts links ++ replicate (n - length links) none) (befores links ++ replicate (n - length links) none) (owners at links ++ replicate (n - length links) none) heads (nexts links') (befores links') (owners at links') (chains_of heads links) more refl (spread (λ l. l.next) en) (spread (λ l. l.before) eb) (spread (λ l. place_in at l.owner) eo))

pub new_room : {L : Type 0} (at : L → ℕ) (n : ℕ) (heads : List ℕ) (links : List (Link L)) → heads ≡ replicate n none → links ≡ [] → n < none → HasRoom at heads links 0 × (chains_of heads links ≡ replicate n [])
new_room at n heads links eh el few =
    let cast = holds_cast (replicate n none) [] [] [] heads (nexts links) (befores links) (owners at links) (replicate n []) (empty_holds n few) eh (ap nexts el) (ap befores el) (ap (owners at) el) in
    let all = keeps_from at heads links (replicate n []) cast in
    (record { keeps = all.0; wide = ap length el }, all.1)

pub more_room : {L : Type 0} (at : L → ℕ) (heads : List ℕ) (links links' : List (Link L)) (room clauses n k : ℕ) (b : Link L) → HasRoom at heads links room → b.next ≡ none → b.before ≡ none → place_in at b.owner ≡ none → room < clauses → n ≡ min (2 * clauses) 4200000000 → k ≡ length links → links' ≡ take n links ++ replicate (n - k) b
    → HasRoom at heads links' clauses × (chains_of heads links' ≡ chains_of heads links)
more_room at heads links links' room clauses n k b h en eb eo lt is ek e =
    let le : length links ≤ n = omega (arith, h.wide, lt, is) in
    let few : n < none = omega (arith, is) in
    let same : links' ≡ take n links ++ replicate (n - length links) b = e ∙ ap (λ j. take n links ++ replicate (n - j) b) ek in
    let done = grown at heads links links' n b h.keeps en eb eo le few same in
    let size : length links' ≡ n = ap length (same ∙ ap (λ xs. xs ++ replicate (n - length links) b) (take_all n links le)) ∙ length-append links (replicate (n - length links) b) ∙ ap (λ j. length links + j) (length-replicate (n - length links) b) ∙ (let s : length links + (n - length links) ≡ n = omega (arith, le) in s) in
    (record { keeps = done.0; wide = size ∙ is }, done.1)
