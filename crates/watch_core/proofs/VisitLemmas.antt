-- What one visited seat leaves, and one turn of a walk.
use Rattle.std.proofs.Common.{◌≡◌, ◌≢◌, ℕ, zero, suc, ◌+◌, ◌-◌, ◌*◌, ◌/◌, ◌%◌, ◌<◌, ◌≤◌, ◌==◌, ◌||◌, not, Bool, true, false, cond, List, [], ◌∷◌, ◌++◌, length, get_or, set, swap, take, drop, Option, None, Some, refl, sym, ◌∙◌, ap, subst, arith, inl, inr, eq-eqb}
use Rattle.std.specs.List.{All, Contains, slice_get}
use Rattle.std.proofs.lemmas.List.{length-append, get_or_append_left, get_or-map, get_or-set_other, get_or_default, append_assoc, get_or_at, drop_more, get_or-take, map-append, append-nil}
use Rattle.std.proofs.lemmas.List.Elements.{Contains-get_or, Contains-push_cases}
use Rattle.std.proofs.lemmas.List.Sorted.{Contains-permutation, length_permutation}
use Rattle.std.proofs.lemmas.Bool.{cases_eq, false≢true}
use Rattle.std.proofs.lemmas.Bool.Decides.{eqb_tells}
use Rattle.arena_core.specs.Chains.{chain_at, put_first, taken_out, others, AreApart, IsSeated}
use Rattle.literals_core.specs.Literal.{negation}
use Rattle.literals_core.specs.Truth.{is_true, is_false}
use Rattle.literals_core.proofs.Negation.{negation_twice}
use Rattle.watch_core.specs.Places.{placed}
use Rattle.watch_core.specs.Trail.{Entry, Assignment, IsTrail, places, waiting, assigned, order, one_taken}
use Rattle.watch_core.specs.Rest.{IsClauseFalse, IsFalseClause}
use Rattle.watch_core.specs.Cover.{clause_of, watched_at, beside, Watches, HasTrue, IsPropagating}
use Rattle.watch_core.specs.Propagates.{AreReordered, Propagates}
use Rattle.watch_core.specs.Walk.{IsSeat, AllWalked, Visited}
use Rattle.watch_core.specs.declared.walk.Visit.{Visit}
use Rattle.watch_core.specs.declared.walk.Visit.TheVariants.{Stays, Moved, False}
use Rattle.watch_core.proofs.CoverLemmas.{now_true}
use Rattle.watch_core.proofs.WatchLemmas.{chain_taken, no_other, drained}
use Rattle.watch_core.proofs.GoingLemmas.{covers_moved, going_assigned, going_taken, goes_assigned, goes_order, goes_trans, goes_taken, only_swapped}
use Rattle.watch_core.proofs.StepLemmas.{row_is, row_at, row_long, placed_swap, waits_true, all_false, others_false, left_from, left_of, left_least, left_next, IsWalking}

-- a list has its k-th element
has_at : (xs : List ℕ) (k x : ℕ) → k < length xs → get_or xs k 0 ≡ x → Contains xs x
has_at xs k x lt e = (let P : ℕ → Type 0 = λ y. Contains xs y in subst P e (Contains-get_or xs k 0 lt))

-- the other seat of a clause: it is in a chain, that of the literal beside
half_of_other : (s o : ℕ) → o ≡ 2 * (s / 2) + (1 - s % 2) → (o / 2 ≡ s / 2) × (o % 2 ≡ 1 - s % 2)
half_of_other s o e = (omega (arith, e), omega (arith, e))

pub other_seated : (clauses chains : List (List ℕ)) (s o : ℕ) → Watches clauses chains → IsSeat clauses s → o ≡ 2 * (s / 2) + (1 - s % 2) → IsSeated chains o
other_seated clauses chains s o w seat e =
    let half : o / 2 ≡ s / 2 = (half_of_other s o e).0 in
    let row = ap (λ i. length (get_or clauses i [])) half in
    (watched_at clauses o, w.watched (watched_at clauses o) o (record { known = omega (arith, half, seat.known); long = omega (arith, row, seat.long); at = refl }))

-- what stands beside the literal that a seat watches
pub record IsBeside (clauses : List (List ℕ)) (variables s p : ℕ) : Type 0 where
  pub is : p ≡ beside clauses s
  pub has : Contains (clause_of clauses s) p
  pub inside : p < 2 * variables

pub other_beside : {L : Type 0} (at : L → ℕ) (clauses chains : List (List ℕ)) (t : Assignment L) (s o p : ℕ) → IsPropagating at clauses chains t → IsSeat clauses s → o ≡ 2 * (s / 2) + (1 - s % 2) → Contains (chain_at chains p) o → IsBeside clauses t.variables s p
other_beside at clauses chains t s o p h seat e chained =
    let half = half_of_other s o e in
    let watched = h.covers.watches.seats p o chained in
    let is : p ≡ beside clauses s = sym watched.at ∙ ap (λ i. get_or (get_or clauses i []) (o % 2) 0) half.0 ∙ ap (λ k. get_or (clause_of clauses s) k 0) half.1 in
    let has = has_at (clause_of clauses s) (1 - s % 2) p (omega (arith, seat.long)) (sym is) in
    record { is = is; has = has; inside = h.covers.inside (s / 2) p has }

pub visit_inside : {L : Type 0} (at : L → ℕ) (cs : List (List L)) (chains : List (List ℕ)) (t : Assignment L) (s id : ℕ) (clause : List L) → IsPropagating at (placed at cs) chains t → id ≡ s / 2 → clause ≡ get_or cs id []
    → All (λ l. at l < 2 * t.variables) clause
visit_inside at cs chains t s id clause h ei ec k d lt =
    let xs : List ℕ = clause_of (placed at cs) s in
    let row = row_is at cs (s / 2) id clause ei ec in
    let n = row_long at xs clause row in
    h.covers.inside (s / 2) (at (get_or clause k d)) (has_at xs k (at (get_or clause k d)) (omega (arith, n, lt)) (ap (λ (ys : List ℕ). get_or ys k 0) row ∙ get_or-map at clause k d 0 lt))

pub visit_seated : (clauses chains : List (List ℕ)) (s : ℕ) → Watches clauses chains → IsSeat clauses s → IsSeated chains s
visit_seated clauses chains s w seat = (watched_at clauses s, w.watched (watched_at clauses s) s (record { known = seat.known; long = seat.long; at = refl }))

pub visit_moved : {L : Type 0} (at : L → ℕ) (cs cs' : List (List L)) (chains chains' : List (List ℕ)) (t : Assignment L) (s id side j : ℕ) (clause : List L) (to : L) → IsPropagating at (placed at cs) chains t → IsSeat (placed at cs) s → is_false (places at (waiting t)) (watched_at (placed at cs) s) ≡ true
    → id ≡ s / 2 → side ≡ s % 2 → clause ≡ get_or cs id [] → 2 ≤ j → j < length clause → ((l : L) → is_false (places at t.entries) (at (get_or clause j l)) ≡ false) → to ≡ get_or clause j to
    → cs' ≡ set cs id (swap (get_or cs id []) side j) → chains' ≡ put_first (taken_out chains s) (at to) s
    → IsPropagating at (placed at cs') chains' t × Propagates at (placed at cs) t (placed at cs') t × (at to ≢ watched_at (placed at cs) s)
visit_moved {L} at cs cs' chains chains' t s id side j clause to h seat waits ei es ec far lj open' read ea eh =
    let C : List (List ℕ) = placed at cs in
    let xs : List ℕ = clause_of C s in
    let row = row_is at cs (s / 2) id clause ei ec in
    let n = row_long at xs clause row in
    let here : get_or xs j 0 ≡ at to = row_at at xs clause j to row lj read in
    let m = ap length ec in
    let F : ℕ → ℕ → List (List ℕ) = λ i k. set C i (swap (get_or C i []) k j) in
    let is : placed at cs' ≡ F (s / 2) (s % 2) = ap (placed at) ea ∙ placed_swap at cs id side j (omega (arith, m, es, far, lj)) (omega (arith, m, lj)) ∙ ap (λ i. F i side) ei ∙ ap (λ k. F (s / 2) k) es in
    let isfalse : is_false (places at t.entries) (watched_at C s) ≡ true = waits_true at t (negation (watched_at C s)) waits in
    let free : is_false (places at t.entries) (at to) ≡ false = ap (λ l. is_false (places at t.entries) (at l)) read ∙ open' to in
    let P : List (List ℕ) → Type 0 = λ ds. IsPropagating at ds chains' t in
    let Q : List (List ℕ) → Type 0 = λ ds. IsPropagating at (F (s / 2) (s % 2)) ds t in
    let R : List (List ℕ) → Type 0 = λ ds. Propagates at C t ds t in (
      subst P (sym is) (subst Q (sym eh) (record { covers = covers_moved true at C chains t s j (at to) h.covers seat.known far (omega (arith, n, lj)) (sym here) free isfalse; current = h.current })),
      subst R (sym is) (goes_order at C (F (s / 2) (s % 2)) t (only_swapped C (s / 2) (s % 2) j seat.known (omega (arith, seat.long)) (omega (arith, n, lj)))),
      λ e. false≢true (sym free ∙ ap (is_false (places at t.entries)) e ∙ isfalse),
    )

pub visit_place : {L : Type 0} (at : L → ℕ) (cs : List (List L)) (chains : List (List ℕ)) (t : Assignment L) (s id j : ℕ) (clause : List L) (to : L) → IsPropagating at (placed at cs) chains t → id ≡ s / 2 → clause ≡ get_or cs id [] → j < length clause → to ≡ get_or clause j to → at to < length chains
visit_place at cs chains t s id j clause to h ei ec lj read =
    (let a = visit_inside at cs chains t s id clause h ei ec j to lj in let b = ap at read in omega (arith, a, b, h.covers.size))

-- all but the other watched literal are false
visit_rest : {L : Type 0} (at : L → ℕ) (cs : List (List L)) (t : Assignment L) (s id : ℕ) (clause : List L) (other : L) → is_false (places at (waiting t)) (watched_at (placed at cs) s) ≡ true
    → id ≡ s / 2 → clause ≡ get_or cs id [] → ((j : ℕ) (l : L) → 2 ≤ j → j < length clause → is_false (places at t.entries) (at (get_or clause j l)) ≡ true)
    → (i : ℕ) → i < length (clause_of (placed at cs) s) → i ≢ 1 - s % 2 → is_false (places at t.entries) (get_or (clause_of (placed at cs) s) i 0) ≡ true
visit_rest at cs t s id clause other waits ei ec rest =
    let C : List (List ℕ) = placed at cs in
    let isfalse : is_false (places at t.entries) (watched_at C s) ≡ true = waits_true at t (negation (watched_at C s)) waits in
    others_false at (places at t.entries) (clause_of C s) clause s other (row_is at cs (s / 2) id clause ei ec) isfalse rest

pub visit_false : {L : Type 0} (at : L → ℕ) (cs : List (List L)) (t : Assignment L) (s id : ℕ) (clause : List L) (other : L) → is_false (places at (waiting t)) (watched_at (placed at cs) s) ≡ true
    → id ≡ s / 2 → clause ≡ get_or cs id [] → ((j : ℕ) (l : L) → 2 ≤ j → j < length clause → is_false (places at t.entries) (at (get_or clause j l)) ≡ true) → at other ≡ beside (placed at cs) s → is_false (places at t.entries) (at other) ≡ true
    → IsClauseFalse (places at t.entries) (clause_of (placed at cs) s)
visit_false at cs t s id clause other waits ei ec rest o isfalse =
    let xs : List ℕ = clause_of (placed at cs) s in
    all_false (places at t.entries) xs (λ i lt. elim (cases_eq i (1 - s % 2)) [
      | inl same ↦ ap (λ k. is_false (places at t.entries) (get_or xs k 0)) same ∙ ap (is_false (places at t.entries)) (sym o) ∙ isfalse
      | inr ne ↦ visit_rest at cs t s id clause other waits ei ec rest i lt ne
    ])

pub visit_assigned : {L : Type 0} (at : L → ℕ) (cs : List (List L)) (chains : List (List ℕ)) (t t' : Assignment L) (s id : ℕ) (clause : List L) (other : L) → IsPropagating at (placed at cs) chains t → IsSeat (placed at cs) s → is_false (places at (waiting t)) (watched_at (placed at cs) s) ≡ true
    → id ≡ s / 2 → clause ≡ get_or cs id [] → ((j : ℕ) (l : L) → 2 ≤ j → j < length clause → is_false (places at t.entries) (at (get_or clause j l)) ≡ true) → IsBeside (placed at cs) t.variables s (at other) → is_true (places at t.entries) (at other) ≡ false
    → t' ≡ assigned t other (Some id) → IsTrail at t'
    → IsPropagating at (placed at cs) chains t' × Propagates at (placed at cs) t (placed at cs) t' × HasTrue (places at t'.entries) (clause_of (placed at cs) s)
visit_assigned {L} at cs chains t t' s id clause other h seat waits ei ec rest o free et trail =
    let C : List (List ℕ) = placed at cs in
    let xs : List ℕ = clause_of C s in
    let is : t' ≡ assigned t other (Some (s / 2)) = et ∙ ap (λ i. assigned t other (Some i)) ei in
    let P : Assignment L → Type 0 = λ u. IsPropagating at C chains u in
    let Q : Assignment L → Type 0 = λ u. Propagates at C t C u in
    let R : Assignment L → Type 0 = λ u. HasTrue (places at u.entries) xs in
    let T : Assignment L → Type 0 = λ u. IsTrail at u in
    let grown : places at (t.entries ++ record { literal = other; level = t.level; reason = Some (s / 2) } ∷ []) ≡ places at t.entries ++ at other ∷ [] = map-append (λ (e : Entry L). at e.literal) t.entries (record { literal = other; level = t.level; reason = Some (s / 2) } ∷ []) in (
      subst P (sym is) (going_assigned at C chains t other (Some (s / 2)) h (subst T is trail) free),
      subst Q (sym is) (goes_assigned at C t other (s / 2) seat.known o.has (λ x m ne. (let e : get_or xs m.0 0 ≡ x = get_or_default xs m.0 0 x m.1 ∙ m.2 in
          ap (is_false (places at t.entries)) (sym e) ∙ visit_rest at cs t s id clause other waits ei ec rest m.0 m.1 (λ same. ne (sym e ∙ ap (λ k. get_or xs k 0) same ∙ sym o.is))))),
      subst R (sym is) (at other, o.has, ap (λ (ys : List ℕ). is_true ys (at other)) grown ∙ now_true (places at t.entries) (at other)),
    )

-- what is true stays true
prefix_true : {L : Type 0} (at : L → ℕ) (n : ℕ) (es : List (Entry L)) (l : ℕ) → is_true (places at (take n es)) l ≡ true → is_true (places at es) l ≡ true
prefix_true at zero es l h = absurd (false≢true h)
prefix_true at (suc n) [] l h = h
prefix_true at (suc n) (e ∷ es) l h = either (at e.literal == l) (is_true (places at (take n es)) l) (is_true (places at es) l) (prefix_true at n es l) h where
  either : (a b c : Bool) → (b ≡ true → c ≡ true) → (a || b) ≡ true → (a || c) ≡ true
  either true b c f h = refl
  either false b c f h = f h

pub has_goes : {L : Type 0} (at : L → ℕ) (clauses clauses' : List (List ℕ)) (t t' : Assignment L) (s : ℕ) → Propagates at clauses t clauses' t' → HasTrue (places at t.entries) (clause_of clauses s) → HasTrue (places at t'.entries) (clause_of clauses' s)
has_goes {L} at clauses clauses' t t' s go (l, has, tr) = (
  l,
  Contains-permutation (clause_of clauses s) (clause_of clauses' s) l (go.order.same (s / 2)) has,
  prefix_true at (length t.entries) t'.entries l (ap (λ (es : List (Entry L)). is_true (places at es) l) go.kept ∙ tr),
)

pub walk_seat : (set : List ℕ) (clauses : List (List ℕ)) (chain : List ℕ) (current : Option ℕ) (done rest : List ℕ) (most looks s : ℕ) → IsWalking set clauses chain current done rest most looks → current ≡ Some s → Contains chain s × (rest ≡ s ∷ drop 1 rest)
walk_seat set clauses chain current done [] most looks s w e = absurd (no s (sym e ∙ w.head)) where
  no : (s : ℕ) → Some s ≡ slice_get [] 0 → ⊥
  no s h = cc
walk_seat set clauses chain current done (x ∷ r) most looks s w e =
    let is : x ≡ s = same x s r (sym e ∙ w.head) in
    let n = length-append done (x ∷ r) in
    let m = ap length w.split in
    (has_at chain (length done) s (omega (arith, n, m)) (ap (λ (ys : List ℕ). get_or ys (length done) 0) w.split ∙ get_or_at done x r 0 (length done) refl ∙ is), ap (λ y. y ∷ r) is)
  where
    same : (x s : ℕ) (r : List ℕ) → Some s ≡ slice_get (x ∷ r) 0 → x ≡ s
    same x s r h = cc

next_of : (done r : List ℕ) (s : ℕ) → slice_get (done ++ s ∷ r) (length done + 1) ≡ slice_get r 0
next_of [] r s = refl
next_of (x ∷ done) r s = ap (λ k. slice_get (x ∷ (done ++ s ∷ r)) k) (let z : suc (length done) + 1 ≡ suc (length done + 1) = omega arith in z) ∙ next_of done r s

others_mid : (s : ℕ) (done r : List ℕ) → ((j : ℕ) → j < length (done ++ s ∷ r) → get_or (done ++ s ∷ r) j 0 ≡ s → length done ≡ j) → others s (done ++ s ∷ r) ≡ done ++ r
others_mid s [] r once =
    ap (λ b. cond (not b) (s ∷ others s r) (others s r)) (eq-eqb s s refl) ∙ no_other s r (λ j lt h. (let z : 0 ≡ suc j = once (suc j) (omega (arith, lt)) h in omega (arith, z)))
others_mid s (x ∷ done) r once = elim (eqb_tells x s) [
  | inl same ↦ absurd (let z : suc (length done) ≡ 0 = once 0 (omega arith) same.1 in omega (arith, z))
  | inr other ↦ ap (λ b. cond (not b) (x ∷ others s (done ++ s ∷ r)) (others s (done ++ s ∷ r))) other.0 ∙ ap (λ ys. x ∷ ys) (others_mid s done r (λ j lt h. (let z : suc (length done) ≡ suc j = once (suc j) (omega (arith, lt)) h in omega (arith, z))))
]

-- no seat before the next one is the next one
once : (chain done r : List ℕ) (s : ℕ) → chain ≡ done ++ s ∷ r → ((i j : ℕ) → i < length chain → j < length chain → get_or chain i 0 ≡ get_or chain j 0 → i ≡ j)
    → (j : ℕ) → j < length done + 1 → 0 < length r → get_or (done ++ s ∷ []) j 0 ≢ get_or r 0 0
once chain done [] s split apart j lj some e = omega (arith, some)
once chain done (x ∷ r) s split apart j lj some e =
    let front : List ℕ = done ++ s ∷ [] in
    let n = length-append done (s ∷ []) in
    let whole : chain ≡ front ++ x ∷ r = split ∙ sym (append_assoc done (s ∷ []) (x ∷ r)) in
    let size = ap length whole in
    let m = length-append front (x ∷ r) in
    let a : get_or chain j 0 ≡ get_or front j 0 = ap (λ (ys : List ℕ). get_or ys j 0) whole ∙ get_or_append_left front (x ∷ r) 0 j (omega (arith, lj, n)) in
    let b : get_or chain (length front) 0 ≡ x = ap (λ (ys : List ℕ). get_or ys (length front) 0) whole ∙ get_or_at front x r 0 (length front) refl in
    let same = apart j (length front) (omega (arith, lj, n, m, size)) (omega (arith, m, size)) (a ∙ e ∙ sym b) in
    omega (arith, same, lj, n)

-- fewer seats are left
fewer : (chain : List ℕ) (chains' : List (List ℕ)) (p s : ℕ) (next : Option ℕ) (done done' r : List ℕ) → chain ≡ done ++ s ∷ r → chain_at chains' p ≡ done' ++ r → next ≡ slice_get r 0
    → ((j : ℕ) → j < length done' → 0 < length r → get_or done' j 0 ≢ get_or r 0 0) → left_of (chain_at chains' p) next < left_of chain (Some s)
fewer chain chains' p s next done done' r split split' head apart =
    let most = left_next done' r next head apart in
    let now = ap (λ (ys : List ℕ). left_of ys next) split' in
    let least = left_least done r s in
    let was = ap (left_from s) split in
    omega (arith, most, now, least, was)

turn : {L : Type 0} (at : L → ℕ) (C C' chains chains' : List (List ℕ)) (t t' : Assignment L) (p s : ℕ) (next : Option ℕ) (done r : List ℕ) (most looks looks' : ℕ) (v : Visit) → AreApart chains
    → chain_at chains p ≡ done ++ s ∷ r → ((u : ℕ) → Contains done u → HasTrue (places at t.entries) (clause_of C u)) → looks + suc (length r) ≤ most
    → ((i : ℕ) → i < length (chain_at chains p) → get_or (chain_at chains p) i 0 ≡ s → next ≡ slice_get (chain_at chains p) (i + 1))
    → Propagates at C t C' t' → watched_at C s ≡ p → looks' ≤ looks + 1 → Visited at C chains t C' chains' t' s v → (v ≡ False → ⊥)
    → (done' : List ℕ) × (rest' : List ℕ) × IsWalking (places at t'.entries) C' (chain_at chains' p) next done' rest' most looks' × (left_of (chain_at chains' p) next < left_of (chain_at chains p) (Some s))
turn {L} at C C' chains chains' t t' p s next done r most looks looks' v apart split held cost after go sees more out nf =
    let chain : List ℕ = chain_at chains p in
    let n = length-append done (s ∷ r) in
    let m = ap length split in
    let here : get_or chain (length done) 0 ≡ s = ap (λ (ys : List ℕ). get_or ys (length done) 0) split ∙ get_or_at done s r 0 (length done) refl in
    let lt : length done < length chain = omega (arith, n, m) in
    let head : next ≡ slice_get r 0 = after (length done) lt here ∙ ap (λ (ys : List ℕ). slice_get ys (length done + 1)) split ∙ next_of done r s in
    let kept : (u : ℕ) → Contains done u → HasTrue (places at t'.entries) (clause_of C' u) = λ u h. has_goes at C C' t t' u go (held u h) in
    cases v out nf head kept lt here
  where
    cases : (v : Visit) → Visited at C chains t C' chains' t' s v → (v ≡ False → ⊥) → next ≡ slice_get r 0 → ((u : ℕ) → Contains done u → HasTrue (places at t'.entries) (clause_of C' u)) → length done < length (chain_at chains p) → get_or (chain_at chains p) (length done) 0 ≡ s
        → (done' : List ℕ) × (rest' : List ℕ) × IsWalking (places at t'.entries) C' (chain_at chains' p) next done' rest' most looks' × (left_of (chain_at chains' p) next < left_of (chain_at chains p) (Some s))
    cases Stays out nf head kept lt here =
        (let same : chain_at chains' p ≡ (done ++ s ∷ []) ++ r = ap (λ (cs : List (List ℕ)). chain_at cs p) out.0 ∙ split ∙ sym (append_assoc done (s ∷ []) r) in (
          done ++ s ∷ [],
          r,
          record {
            split = same;
            head = head;
            held = λ u h. elim (Contains-push_cases done s u h) [
              | inl old ↦ kept u old
              | inr new ↦ (let P : ℕ → Type 0 = λ y. HasTrue (places at t'.entries) (clause_of C' y) in subst P new out.1)
            ];
            cost = omega (arith, cost, more);
          },
          fewer (chain_at chains p) chains' p s next done (done ++ s ∷ []) r split same head (λ j lj some. once (chain_at chains p) done r s split (λ i k li lk e. (apart p i p k li lk e).1) j (let n = length-append done (s ∷ []) in omega (arith, lj, n)) some),
        ))
    cases Moved out nf head kept lt here =
        (let left : chain_at chains' p ≡ others s (chain_at chains p) = ap (λ (cs : List (List ℕ)). chain_at cs p) out.2 ∙ get_or-set_other (taken_out chains s) out.0 p (s ∷ chain_at (taken_out chains s) out.0) [] (λ e. out.1 (sym e ∙ sym sees)) ∙ chain_taken chains s p in (
          done,
          r,
          record {
            split = left ∙ ap (others s) split ∙ others_mid s done r (λ j lj h. (apart p (length done) p j lt (let k = ap length split in omega (arith, k, lj)) (here ∙ sym (ap (λ (ys : List ℕ). get_or ys j 0) split ∙ h))).1);
            head = head;
            held = kept;
            cost = omega (arith, cost, more);
          },
          fewer (chain_at chains p) chains' p s next done done r split
              (left ∙ ap (others s) split ∙ others_mid s done r (λ j lj h. (apart p (length done) p j lt (let k = ap length split in omega (arith, k, lj)) (here ∙ sym (ap (λ (ys : List ℕ). get_or ys j 0) split ∙ h))).1)) head
              (λ j lj some. λ e. once (chain_at chains p) done r s split (λ i k li lk e. (apart p i p k li lk e).1) j (omega (arith, lj)) some (get_or_append_left done (s ∷ []) 0 j lj ∙ e)),
        ))
    cases False out nf head kept lt here = absurd (nf refl)

pub walk_turn : {L : Type 0} (at : L → ℕ) (C C' chains chains' : List (List ℕ)) (t t' : Assignment L) (p s : ℕ) (current next : Option ℕ) (most looks looks' : ℕ) (v : Visit) → AreApart chains
    → ((done : List ℕ) × (rest : List ℕ) × IsWalking (places at t.entries) C (chain_at chains p) current done rest most looks) → current ≡ Some s
    → ((i : ℕ) → i < length (chain_at chains p) → get_or (chain_at chains p) i 0 ≡ s → next ≡ slice_get (chain_at chains p) (i + 1))
    → Propagates at C t C' t' → watched_at C s ≡ p → looks' ≤ looks + 1 → Visited at C chains t C' chains' t' s v → (v ≡ False → ⊥)
    → (done' : List ℕ) × (rest' : List ℕ) × IsWalking (places at t'.entries) C' (chain_at chains' p) next done' rest' most looks' × (left_of (chain_at chains' p) next < left_of (chain_at chains p) (Some s))
walk_turn {L} at C C' chains chains' t t' p s current next most looks looks' v apart (done, rest, w) e after go sees more out nf =
    let first = walk_seat (places at t.entries) C (chain_at chains p) current done rest most looks s w e in
    let size = ap length first.1 in
    turn at C C' chains chains' t t' p s next done (drop 1 rest) most looks looks' v apart (w.split ∙ ap (λ ys. done ++ ys) first.1) w.held (omega (arith, size, w.cost)) after go sees more out nf

pub walk_in : (set : List ℕ) (clauses : List (List ℕ)) (chain : List ℕ) (current : Option ℕ) (most looks s : ℕ) → ((done : List ℕ) × (rest : List ℕ) × IsWalking set clauses chain current done rest most looks) → current ≡ Some s → Contains chain s
walk_in set clauses chain current most looks s (done, rest, w) e = (walk_seat set clauses chain current done rest most looks s w e).0

pub walk_ends : (set : List ℕ) (clauses chains : List (List ℕ)) (p : ℕ) (current : Option ℕ) (most looks : ℕ) → Watches clauses chains → ((done : List ℕ) × (rest : List ℕ) × IsWalking set clauses (chain_at chains p) current done rest most looks) → current ≡ None → AllWalked set clauses p
walk_ends set clauses chains p current most looks h (done, rest, w) e s known long sees =
    let none' : rest ≡ [] = drained rest (sym e ∙ w.head) in
    let all : chain_at chains p ≡ done = w.split ∙ ap (λ ys. done ++ ys) none' ∙ append-nil done in
    let P : List ℕ → Type 0 = λ ys. Contains ys s in
    w.held s (subst P all (h.watched p s (record { known = known; long = long; at = sees })))

-- waiting literals
pub first_waits : {L : Type 0} (at : L → ℕ) (t : Assignment L) (l : L) (q : ℕ) → Some l ≡ slice_get (order (waiting t)) 0 → negation q ≡ at l → is_false (places at (waiting t)) q ≡ true
first_waits {L} at t l q h e = go (waiting t) h where
  go : (es : List (Entry L)) → Some l ≡ slice_get (order es) 0 → is_true (places at es) (negation q) ≡ true
  go [] h = absurd (no h) where
    no : Some l ≡ slice_get (order {L = L} []) 0 → ⊥
    no h = cc
  go (x ∷ es) h = ap (λ b. b || is_true (places at es) (negation q)) (eq-eqb (at x.literal) (negation q) (ap at (same x.literal (order es) h) ∙ sym e)) where
    same : (y : L) (ys : List L) → Some l ≡ slice_get (y ∷ ys) 0 → y ≡ l
    same y ys h = cc

pub first_is : {L : Type 0} (t : Assignment L) (l : L) (d : Entry L) → Some l ≡ slice_get (order (waiting t)) 0 → (t.taken < length t.entries) × ((get_or t.entries t.taken d).literal ≡ l)
first_is {L} t l d h = go t.taken t.entries h where
  same : (y : L) (ys : List L) → Some l ≡ slice_get (y ∷ ys) 0 → y ≡ l
  same y ys h = cc

  no : (n : ℕ) → Some l ≡ slice_get (order {L = L} []) 0 → ⊥
  no n h = cc

  go : (n : ℕ) (es : List (Entry L)) → Some l ≡ slice_get (order (drop n es)) 0 → (n < length es) × ((get_or es n d).literal ≡ l)
  go zero [] h = absurd (no 0 h)
  go (suc n) [] h = absurd (no n h)
  go zero (x ∷ es) h = (omega arith, same x.literal (order es) h)
  go (suc n) (x ∷ es) h = (let r = go n es h in (omega (arith, r.0), r.1))

pub none_waits : {L : Type 0} (t : Assignment L) → None ≡ slice_get (order (waiting t)) 0 → waiting t ≡ []
none_waits {L} t h = go (waiting t) h where
  go : (es : List (Entry L)) → None ≡ slice_get (order es) 0 → es ≡ []
  go [] h = refl
  go (x ∷ es) h = absurd (no x.literal (order es) h) where
    no : (y : L) (ys : List L) → None ≡ slice_get (y ∷ ys) 0 → ⊥
    no y ys h = cc

pub negation_low : (p n : ℕ) → p < 2 * n → negation p < 2 * n
negation_low p n h = elim (eqb_tells (p % 2) 0) [
  | inl even ↦ (let up : negation p ≡ p + 1 = ap (λ b. cond b (p + 1) (p - 1)) even.0 in omega (arith, up, even.1, h))
  | inr odd ↦ (let down : negation p ≡ p - 1 = ap (λ b. cond b (p + 1) (p - 1)) odd.0 in omega (arith, down, h))
]

-- a literal has been taken in, after its walk
pub walked_taken : {L : Type 0} (at : L → ℕ) (C0 C C' chains' : List (List ℕ)) (t0 t t' t'' : Assignment L) (l : L) (q : ℕ) → Propagates at C0 t0 C t → IsPropagating at C' chains' t' → Propagates at C t C' t' → t'.taken ≡ t.taken → Some l ≡ slice_get (order (waiting t)) 0 → negation q ≡ at l → AllWalked (places at t'.entries) C' q → t'' ≡ one_taken t'
    → IsPropagating at C' chains' t'' × Propagates at C0 t0 C' t''
walked_taken {L} at C0 C C' chains' t0 t t' t'' l q go0 h go et first eq walked is =
    let d : Entry L = record { literal = l; level = 0; reason = None } in
    let f = first_is t l d first in
    let lt : t'.taken < length t'.entries = omega (arith, f.0, et, go.more) in
    let e : Entry L = get_or t'.entries t'.taken d in
    let same : e.literal ≡ l = ap (λ n. (get_or t'.entries n d).literal) et ∙ ap (λ (x : Entry L). x.literal) (sym (get_or-take (length t.entries) t'.entries t.taken d f.0) ∙ ap (λ (es : List (Entry L)). get_or es t.taken d) go.kept) ∙ f.1 in
    let P : Assignment L → Type 0 = λ u. IsPropagating at C' chains' u × Propagates at C0 t0 C' u in
    subst P (sym is) (
      going_taken at C' chains' t' e (drop (t'.taken + 1) t'.entries) h (drop_more t'.entries t'.taken d lt) lt
          (λ s known long sees. walked s known long (sym (negation_twice (watched_at C' s)) ∙ ap negation (sees ∙ ap at same ∙ sym eq) ∙ negation_twice q)),
      goes_trans at C0 C' C' t0 t' (one_taken t') (goes_trans at C0 C C' t0 t t' go0 go) (goes_taken at C' t'),
    )

-- what waits goes on waiting
waits_longer : {L : Type 0} (at : L → ℕ) (n m : ℕ) (es : List (Entry L)) (l : ℕ) → is_true (places at (drop n (take m es))) l ≡ true → is_true (places at (drop n es)) l ≡ true
waits_longer at zero m es l h = prefix_true at m es l h
waits_longer at (suc n) zero es l h = absurd (false≢true h)
waits_longer at (suc n) (suc m) [] l h = h
waits_longer at (suc n) (suc m) (e ∷ es) l h = waits_longer at n m es l h

pub waits_goes : {L : Type 0} (at : L → ℕ) (clauses clauses' : List (List ℕ)) (t t' : Assignment L) (l : ℕ) → Propagates at clauses t clauses' t' → t'.taken ≡ t.taken → is_true (places at (waiting t)) l ≡ true → is_true (places at (waiting t')) l ≡ true
waits_goes {L} at clauses clauses' t t' l go et h =
    ap (λ n. is_true (places at (drop n t'.entries)) l) et ∙ waits_longer at t.taken (length t.entries) t'.entries l (ap (λ (es : List (Entry L)). is_true (places at (drop t.taken es)) l) go.kept ∙ h)

pub first_low : {L : Type 0} (at : L → ℕ) (t : Assignment L) (l : L) → IsTrail at t → Some l ≡ slice_get (order (waiting t)) 0 → at l < 2 * t.variables
first_low {L} at t l h first =
    let d : Entry L = record { literal = l; level = 0; reason = None } in
    let f = first_is t l d first in
    let i = h.inside t.taken d f.0 in
    let e = ap at f.1 in omega (arith, i, e)

-- a visited clause that is false
pub false_at : (set : List ℕ) (C C' : List (List ℕ)) (s id : ℕ) → id ≡ s / 2 → s / 2 < length C → 2 ≤ length (get_or C (s / 2) []) → AreReordered C C' → IsClauseFalse set (clause_of C' s) → IsFalseClause set C' id
false_at set C C' s id e known long o all =
    let P : ℕ → Type 0 = λ i. IsFalseClause set C' i in
    subst P (sym e) (record {
      known = omega (arith, known, o.count);
      long = (let n = length_permutation (get_or C (s / 2) []) (get_or C' (s / 2) []) (o.same (s / 2)) in omega (arith, n, long));
      literals = all;
    })
