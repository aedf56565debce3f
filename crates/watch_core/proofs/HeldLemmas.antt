-- What `Watched` keeps between its calls.
use Rattle.std.proofs.Common.{◌≡◌, ℕ, zero, suc, ◌+◌, ◌*◌, ◌/◌, ◌<◌, ◌≤◌, ◌==◌, ◌||◌, Bool, true, false, List, [], ◌∷◌, length, map, get_or, set, take, drop, min, Option, None, Some, refl, sym, ◌∙◌, ap, subst, arith, inl, inr, ◌⊎◌, replicate, leb}
use Rattle.std.specs.List.{All, Contains, list_any, IsDistinct}
use Rattle.std.specs.Option.{IfSome, IfNone}
use Rattle.std.proofs.lemmas.List.{length-replicate, get_or-replicate, get_or_past, length-take-le, length-map}
use Rattle.std.proofs.lemmas.List.Elements.{All-weaker}
use Rattle.std.proofs.lemmas.Bool.{cases_eq, cases_lt, false≢true}
use Rattle.std.proofs.lemmas.Bool.Decides.{leb_tells}
use Rattle.arena_core.specs.Chains.{chain_at}
use Rattle.literals_core.specs.Literal.{negation}
use Rattle.literals_core.specs.Truth.{IsFalseUnder, is_true, is_false}
use Rattle.literals_core.specs.Settled.{HasTwoOpen, IsSettledByCount}
use Rattle.literals_core.proofs.Truth.{tested_true}
use Rattle.literals_core.proofs.Settled.{two_by_count}
use Rattle.watch_core.specs.Places.{placed}
use Rattle.watch_core.specs.Trail.{Entry, Assignment, IsTrail, places, cut, waiting, value_of, entered, undone, empty_trail}
use Rattle.watch_core.specs.Rest.{IsFalseClause, CanPropagate, Outcome}
use Rattle.watch_core.specs.Cover.{clause_of, beside, HasTrue, AllBut, AllCovered, IsCovered, IsPropagating}
use Rattle.watch_core.specs.Propagates.{Propagates}
use Rattle.watch_core.specs.Watched.{IsHeld}
use Rattle.watch_core.proofs.AssignLemmas.{value_none}
use Rattle.watch_core.proofs.LevelLemmas.{cut_all, cut_cut, cut_is, waits_cut}
use Rattle.watch_core.proofs.CoverLemmas.{any_to}
use Rattle.watch_core.proofs.GoingLemmas.{distinct_literals, covers_entered, weaker, settled_below, at_rest_now}

-- no clauses
no_row : {A : Type 0} (n i : ℕ) → get_or (replicate n (let e : List A = [] in e)) i [] ≡ []
no_row {A} n i = elim (cases_lt i n) [
  | inl lt ↦ get_or-replicate n i [] [] lt
  | inr past ↦ (let m = length-replicate n (let e : List A = [] in e) in get_or_past (replicate n []) i [] (omega (arith, m, past)))
]

pub held_new : {L : Type 0} (at : L → ℕ) (clauses : List (List L)) (chains : List (List ℕ)) (room variables : ℕ) (t : Assignment L) → clauses ≡ [] → chains ≡ replicate (2 * variables) [] → t ≡ empty_trail variables → IsTrail at t → IsHeld at clauses chains room t
unfolding IsDistinct
held_new {L} at clauses chains room variables t ec eh et trail =
    let P : List (List L) → Type 0 = λ cs. IsHeld at cs chains room t in
    let n = ap (λ (x : Assignment L). x.variables) et in
    subst P (sym ec) (record {
      covers = record {
        trail = trail;
        watches = record {
          seats = λ p s has. (let Q : List ℕ → Type 0 = λ xs. Contains xs s in let no : Contains [] s = subst Q (ap (λ (cs : List (List ℕ)). chain_at cs p) eh ∙ no_row (2 * variables) p) has in absurd (omega (arith, no.1)));
          watched = λ p s w. absurd (omega (arith, w.known));
        };
        covered = λ k lk s known. absurd (omega (arith, known));
        inside = λ c l has. absurd (omega (arith, has.1));
        distinct = λ c. tt;
        size = ap length eh ∙ length-replicate (2 * variables) [] ∙ ap (λ v. 2 * v) (sym n);
      };
      fits = omega arith;
    })

pub held_entered : {L : Type 0} (at : L → ℕ) (clauses : List (List L)) (chains : List (List ℕ)) (room k : ℕ) (t t' : Assignment L) (l : L) (r : Option ℕ) → IsHeld at clauses chains room t → t' ≡ entered t l k r → IsTrail at t' → value_of (places at t.entries) (at l) ≡ None → (k ≡ t.level) ⊎ (k ≡ t.level + 1) → IsHeld at clauses chains room t'
held_entered {L} at clauses chains room k t t' l r h is trail free step =
    let P : Assignment L → Type 0 = λ u. IsHeld at clauses chains room u in
    let T : Assignment L → Type 0 = λ u. IsTrail at u in
    subst P (sym is) (record { covers = covers_entered false at (placed at clauses) chains t l k r h.covers (subst T is trail) (value_none (places at t.entries) (at l) free).0 step; fits = h.fits })

-- where a cut ends
pub cut_split : {L : Type 0} (es : List (Entry L)) (k : ℕ) → ((i j : ℕ) (d : Entry L) → i < j → j < length es → (get_or es i d).level ≤ (get_or es j d).level)
    → (n : ℕ) × (n ≤ length es) × ((i : ℕ) (d : Entry L) → i < n → (get_or es i d).level ≤ k) × ((i : ℕ) (d : Entry L) → n ≤ i → i < length es → k < (get_or es i d).level)
cut_split [] k sorted = (0, omega arith, (λ i d lt. absurd (omega (arith, lt))), (λ i d a lt. absurd (omega (arith, lt))))
cut_split {L} (e ∷ es) k sorted = step (leb_tells e.level k) (cut_split es k (λ i j d a b. sorted (suc i) (suc j) d (omega (arith, a)) (omega (arith, b)))) where
  step : ((leb e.level k ≡ true) × (e.level ≤ k)) ⊎ ((leb e.level k ≡ false) × (k < e.level)) → ((n : ℕ) × (n ≤ length es) × ((i : ℕ) (d : Entry L) → i < n → (get_or es i d).level ≤ k) × ((i : ℕ) (d : Entry L) → n ≤ i → i < length es → k < (get_or es i d).level))
      → (n : ℕ) × (n ≤ length (e ∷ es)) × ((i : ℕ) (d : Entry L) → i < n → (get_or (e ∷ es) i d).level ≤ k) × ((i : ℕ) (d : Entry L) → n ≤ i → i < length (e ∷ es) → k < (get_or (e ∷ es) i d).level)
  step (inl low) (n, le, a, b) = (suc n, omega (arith, le), low_of n a low.1, high_of n b) where
    low_of : (n : ℕ) → ((i : ℕ) (d : Entry L) → i < n → (get_or es i d).level ≤ k) → e.level ≤ k → (i : ℕ) (d : Entry L) → i < suc n → (get_or (e ∷ es) i d).level ≤ k
    low_of n a here zero d lt = here
    low_of n a here (suc i) d lt = a i d (omega (arith, lt))

    high_of : (n : ℕ) → ((i : ℕ) (d : Entry L) → n ≤ i → i < length es → k < (get_or es i d).level) → (i : ℕ) (d : Entry L) → suc n ≤ i → i < length (e ∷ es) → k < (get_or (e ∷ es) i d).level
    high_of n b zero d le lt = absurd (omega (arith, le))
    high_of n b (suc i) d le lt = b i d (omega (arith, le)) (omega (arith, lt))
  step (inr high) rest = (0, omega arith, (λ i d lt. absurd (omega (arith, lt))), all) where
    all : (i : ℕ) (d : Entry L) → 0 ≤ i → i < length (e ∷ es) → k < (get_or (e ∷ es) i d).level
    all zero d le lt = high.1
    all (suc i) d le lt = (let s = sorted 0 (suc i) d (omega arith) lt in omega (arith, s, high.1))

-- what waits after the trail was cut
pub waits_undone : {L : Type 0} (at : L → ℕ) (t : Assignment L) (k : ℕ) → IsTrail at t → waiting (undone t k) ≡ cut (waiting t) k
waits_undone {L} at t k h =
    let s = cut_split t.entries k h.leveled.sorted in
    let is : cut t.entries k ≡ take s.0 t.entries = cut_is t.entries s.0 k s.1 s.2 s.3 in
    let n : length (cut t.entries k) ≡ s.0 = ap length is ∙ length-take-le s.0 t.entries s.1 in
    ap (λ m. drop (min t.taken m) (cut t.entries k)) n ∙ ap (λ (es : List (Entry L)). drop (min t.taken s.0) es) is ∙ waits_cut t.entries t.taken k s.0 h.within s.1 s.2 s.3

pub covers_undone : {L : Type 0} (strong : Bool) (at : L → ℕ) (clauses chains : List (List ℕ)) (t : Assignment L) (k : ℕ) → IsCovered strong at clauses chains t → k ≤ t.level → IsTrail at (undone t k) → IsCovered strong at clauses chains (undone t k)
covers_undone {L} strong at clauses chains t k h le trail = record {
  trail = trail;
  watches = h.watches;
  covered = λ q lq. (let P : List (Entry L) → Type 0 = λ es. AllCovered strong (places at es) (places at (cut (waiting (undone t k)) q)) clauses in
      let Q : List (Entry L) → Type 0 = λ es. AllCovered strong (places at (cut t.entries q)) (places at es) clauses in
      subst P (sym (cut_cut t.entries k q lq)) (subst Q (sym (ap (λ (es : List (Entry L)). cut es q) (waits_undone at t k h.trail) ∙ cut_cut (waiting t) k q lq)) (h.covered q (omega (arith, lq, le)))));
  inside = h.inside;
  distinct = h.distinct;
  size = h.size;
}

pub held_undone : {L : Type 0} (at : L → ℕ) (clauses : List (List L)) (chains : List (List ℕ)) (room k : ℕ) (t t' : Assignment L) → IsHeld at clauses chains room t → t' ≡ undone t k → IsTrail at t' → k ≤ t.level → IsHeld at clauses chains room t'
held_undone {L} at clauses chains room k t t' h is trail le =
    let P : Assignment L → Type 0 = λ u. IsHeld at clauses chains room u in
    let T : Assignment L → Type 0 = λ u. IsTrail at u in
    subst P (sym is) (record { covers = covers_undone false at (placed at clauses) chains t k h.covers le (subst T is trail); fits = h.fits })

-- two literals are not open, where all but one are false
not_two : (set waits c : List ℕ) (o : ℕ) → AllBut set waits c o → HasTwoOpen set c → ⊥
not_two set waits c o but two = two.differ (only two.first two.among.0 two.not_false.0 ∙ sym (only two.second two.among.1 two.not_false.1)) where
  only : (x : ℕ) → Contains c x → ¬ IsFalseUnder set x → x ≡ o
  only x has stays = elim (cases_eq x o) [ inl same ↦ same | inr other ↦ absurd (stays (tested_true set (negation x) (but x has other).0)) ]

-- the condition of `propagate` makes the covers strong
strong_one : (set waits c : List ℕ) (o : ℕ) → IsDistinct (λ x y. x == y) c → (IsSettledByCount set c ⊎ (list_any (λ l. is_true waits (negation l)) c ≡ true)) → HasTrue set c ⊎ (AllBut set waits c o × (false ≡ true → is_false waits o ≡ true))
    → HasTrue set c ⊎ (AllBut set waits c o × (true ≡ true → is_false waits o ≡ true))
strong_one set waits c o dis ready (inl some) = inl some
strong_one set waits c o dis (inl (inl some)) (inr rest) = inl (any_to set c some)
strong_one set waits c o dis (inl (inr two)) (inr rest) = absurd (not_two set waits c o rest.0 (two_by_count set c dis two))
strong_one set waits c o dis (inr one') (inr rest) =
    (let w = any_waits waits c one' in elim (cases_eq w.0 o) [
      | inl same ↦ inr (rest.0, λ e. ap (is_false waits) (sym same) ∙ w.2)
      | inr ne ↦ absurd (false≢true (sym (rest.0 w.0 w.1 ne).1 ∙ w.2))
    ])
  where
    either : (a b : Bool) → (a || b) ≡ true → (a ≡ true) ⊎ (b ≡ true)
    either true b h = inl refl
    either false b h = inr h

    any_waits : (waits xs : List ℕ) → list_any (λ l. is_true waits (negation l)) xs ≡ true → (l : ℕ) × Contains xs l × (is_false waits l ≡ true)
    any_waits waits [] h = absurd (false≢true h)
    any_waits waits (x ∷ xs) h = elim (either (is_false waits x) (list_any (λ l. is_true waits (negation l)) xs) h) [
      | inl here ↦ (x, (0, omega arith, refl), here)
      | inr later ↦ (let r = any_waits waits xs later in (r.0, (suc r.1.0, omega (arith, r.1.1), r.1.2), r.2))
    ]

pub going_from : {L : Type 0} (at : L → ℕ) (clauses chains : List (List ℕ)) (t : Assignment L) → IsCovered false at clauses chains t → CanPropagate at t clauses → IsPropagating at clauses chains t
going_from {L} at clauses chains t h can = record {
  covers = record {
    trail = h.trail;
    watches = h.watches;
    covered = λ q lq s known long f away.
        strong_one (places at (cut t.entries q)) (places at (cut (waiting t) q)) (clause_of clauses s) (beside clauses s) (distinct_literals (clause_of clauses s) (h.distinct (s / 2))) (elim (cases_lt q t.level) [
          | inl less ↦ inl (can.below q less (s / 2) [] known long)
          | inr top ↦ (let same : t.level ≡ q = omega (arith, top, lq) in
              let P : ℕ → Type 0 = λ k. IsSettledByCount (places at (cut t.entries k)) (clause_of clauses s) ⊎ (list_any (λ l. is_true (places at (cut (waiting t) k)) (negation l)) (clause_of clauses s) ≡ true) in
              let Q : List (Entry L) → Type 0 = λ es. IsSettledByCount (places at es) (clause_of clauses s) ⊎ (list_any (λ l. is_true (places at (cut (waiting t) t.level)) (negation l)) (clause_of clauses s) ≡ true) in
              let R : List (Entry L) → Type 0 = λ es. IsSettledByCount (places at t.entries) (clause_of clauses s) ⊎ (list_any (λ l. is_true (places at es) (negation l)) (clause_of clauses s) ≡ true) in
              let all : All (λ (e : Entry L). e.level ≤ t.level) (waiting t) = All-weaker (λ (e : Entry L). e.level ≡ t.level) (λ (e : Entry L). e.level ≤ t.level) (λ e is. omega (arith, is)) (waiting t) can.current in
              subst P same (subst Q (sym (cut_all t.entries t.level h.trail.leveled.below)) (subst R (sym (cut_all (waiting t) t.level all)) (can.whole (s / 2) [] known long))))
        ]) (h.covered q lq s known long f away);
    inside = h.inside;
    distinct = h.distinct;
    size = h.size;
  };
  current = can.current;
}

pub held_from : {L : Type 0} (at : L → ℕ) (clauses clauses' : List (List L)) (chains chains' : List (List ℕ)) (room room' : ℕ) (t t' : Assignment L) → IsHeld at clauses chains room t → IsPropagating at (placed at clauses') chains' t' → Propagates at (placed at clauses) t (placed at clauses') t' → room' ≡ room → IsHeld at clauses' chains' room' t'
held_from at clauses clauses' chains chains' room room' t t' h go goes er = record {
  covers = weaker at (placed at clauses') chains' t' go.covers;
  fits = (let a = length-map clauses (map at) in let b = length-map clauses' (map at) in omega (arith, h.fits, er, goes.order.count, a, b));
}

pub outcome_now : {L : Type 0} (at : L → ℕ) (cs : List (List L)) (chains : List (List ℕ)) (t : Assignment L) (r : Option ℕ) → IsPropagating at (placed at cs) chains t → IfNone r (waiting t ≡ []) → IfSome r (IsFalseClause (places at t.entries) (placed at cs)) → Outcome at t (placed at cs) r
outcome_now at cs chains t None h none' some = at_rest_now at (placed at cs) chains t h none'
outcome_now at cs chains t (Some id) h none' some = record { clause = some; current = h.current; below = settled_below at (placed at cs) chains t h }
