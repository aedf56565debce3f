-- How the facts inside propagation go on: a seat moves, a literal becomes true, a literal has been taken in.
use Rattle.std.proofs.Common.{◌≡◌, ◌≢◌, ℕ, suc, ◌+◌, ◌*◌, ◌/◌, ◌%◌, ◌<◌, ◌≤◌, ◌==◌, ◌||◌, Bool, true, false, List, [], ◌∷◌, ◌++◌, length, get_or, set, swap, take, drop, Option, Some, refl, sym, ◌∙◌, ap, subst, arith, inl, inr, ◌⊎◌, eq-eqb, leb}
use Rattle.std.specs.List.{All, Contains, IsDistinct}
use Rattle.std.specs.List.Sorted.{IsPermutation}
use Rattle.std.proofs.lemmas.List.{length-set, length-append, map-append, get_or-set_same, get_or-set_other, take_all, drop-append-le, take_at, get_or_at, get_or_default, take-take, get_or-take, drop_more, append-nil}
use Rattle.std.proofs.lemmas.List.Elements.{Contains-get_or, filter-append, All-drop, All-contains_itself, All-weaker, All-push}
use Rattle.std.proofs.lemmas.List.Sorted.{Contains-permutation, All-permutation, IsPermutation-swap, IsPermutation-refl, IsPermutation-sym, IsPermutation-trans}
use Rattle.std.proofs.lemmas.Map.Keys.{IsDistinct-IsPermutation, IsDistinct-from_apart, apart_from_distinct}
use Rattle.std.proofs.lemmas.Bool.{cases_eq, cases_lt, false≢true}
use Rattle.std.proofs.lemmas.Bool.Decides.{eqb_tells, leb_tells}
use Rattle.arena_core.specs.Chains.{put_first, taken_out}
use Rattle.literals_core.specs.Literal.{variable_of, negation}
use Rattle.literals_core.specs.Truth.{is_true, is_false}
use Rattle.literals_core.specs.DistinctVariables.{HasDistinctVariables}
use Rattle.watch_core.specs.Trail.{Entry, Assignment, IsTrail, places, cut, waiting, entered, assigned, one_taken}
use Rattle.watch_core.specs.Rest.{SettledBelow, IsAtRest}
use Rattle.watch_core.specs.Cover.{clause_of, watched_at, HasTrue, AllCovered, IsCovered, IsPropagating}
use Rattle.watch_core.specs.Propagates.{AreReordered, Propagates, IsReason}
use Rattle.watch_core.proofs.AssignLemmas.{not_eqb}
use Rattle.watch_core.proofs.LevelLemmas.{cut_all, cut_none, left_out, kept_in}
use Rattle.watch_core.proofs.WatchLemmas.{watches_moved, places_kept}
use Rattle.watch_core.proofs.CoverLemmas.{true_or_false, covered_more, covered_taken, covered_moved, all_settled}

-- what is true under a cut is true
pub cut_true : {L : Type 0} (at : L → ℕ) (es : List (Entry L)) (k l : ℕ) → is_true (places at (cut es k)) l ≡ true → is_true (places at es) l ≡ true
cut_true at [] k l h = h
cut_true {L} at (e ∷ es) k l h = elim (leb_tells e.level k) [
  | inl low ↦ elim (eqb_tells (at e.literal) l) [
    | inl same ↦ ap (λ b. b || is_true (places at es) l) same.0
    | inr other ↦ ap (λ b. b || is_true (places at es) l) other.0 ∙ cut_true at es k l (sym (ap (λ (xs : List (Entry L)). is_true (places at xs) l) (kept_in e es k low.1) ∙ ap (λ b. b || is_true (places at (cut es k)) l) other.0) ∙ h)
  ]
  | inr high ↦ or_right (at e.literal == l) (is_true (places at es) l) (cut_true at es k l (sym (ap (λ (xs : List (Entry L)). is_true (places at xs) l) (left_out e es k high.1)) ∙ h))
]
  where
    or_right : (a b : Bool) → b ≡ true → (a || b) ≡ true
    or_right true b h = refl
    or_right false b h = h

pub cut_false : {L : Type 0} (at : L → ℕ) (es : List (Entry L)) (k l : ℕ) → is_true (places at es) l ≡ false → is_true (places at (cut es k)) l ≡ false
cut_false at es k l h = elim (true_or_false (is_true (places at (cut es k)) l)) [ inl t ↦ absurd (false≢true (sym h ∙ cut_true at es k l t)) | inr f ↦ f ]

pub only_same : (clauses : List (List ℕ)) → AreReordered clauses clauses
only_same clauses = record { count = refl; same = λ c. IsPermutation-refl (get_or clauses c []) }

pub only_swapped : (clauses : List (List ℕ)) (n a b : ℕ) → n < length clauses → a < length (get_or clauses n []) → b < length (get_or clauses n []) → AreReordered clauses (set clauses n (swap (get_or clauses n []) a b))
only_swapped clauses n a b ln la lb =
    let xs : List ℕ = get_or clauses n [] in
    let P : List ℕ → Type 0 = λ ys. IsPermutation xs ys in
    record {
      count = length-set clauses n (swap xs a b);
      same = λ c. elim (cases_eq c n) [
        | inl same ↦ (let Q : ℕ → Type 0 = λ i. IsPermutation (get_or clauses i []) (get_or (set clauses n (swap xs a b)) i []) in
            subst Q (sym same) (subst P (sym (get_or-set_same clauses n (swap xs a b) [] ln)) (IsPermutation-swap xs (swap xs a b) a b la lb refl)))
        | inr other ↦ (let R : List ℕ → Type 0 = λ ys. IsPermutation (get_or clauses c []) ys in
            subst R (sym (get_or-set_other clauses n c (swap xs a b) [] other)) (IsPermutation-refl (get_or clauses c [])))
      ];
    }

pub only_trans : (a b c : List (List ℕ)) → AreReordered a b → AreReordered b c → AreReordered a c
only_trans a b c x y = record { count = y.count ∙ x.count; same = λ i. IsPermutation-trans (get_or a i []) (get_or b i []) (get_or c i []) (x.same i) (y.same i) }

eqb_flips : (x y : ℕ) → (x == y) ≡ (y == x)
eqb_flips x y = elim (eqb_tells x y) [
  | inl same ↦ same.0 ∙ sym (eq-eqb y x (sym same.1))
  | inr other ↦ other.0 ∙ sym (not_eqb y x (λ e. other.1 (sym e)))
]

-- clauses of distinct variables, by places; and their literals are distinct
pub variables_apart : (clause : List ℕ) → IsDistinct (λ x y. variable_of x == variable_of y) clause → HasDistinctVariables clause
variables_apart clause distinct i j lij lj e =
    false≢true (sym (apart_from_distinct (λ x y. variable_of x == variable_of y) clause i j 0 distinct lij lj) ∙ eq-eqb (variable_of (get_or clause i 0)) (variable_of (get_or clause j 0)) e)

pub distinct_variables : (clause : List ℕ) → HasDistinctVariables clause → IsDistinct (λ x y. variable_of x == variable_of y) clause
distinct_variables clause apart =
    IsDistinct-from_apart (λ x y. variable_of x == variable_of y) clause (λ i j d lij lj. not_eqb (variable_of (get_or clause i d)) (variable_of (get_or clause j d))
    (λ e. apart i j lij lj (ap variable_of (sym (get_or_default clause i d 0 (omega (arith, lij, lj)))) ∙ e ∙ ap variable_of (get_or_default clause j d 0 lj))))

pub distinct_literals : (clause : List ℕ) → IsDistinct (λ x y. variable_of x == variable_of y) clause → IsDistinct (λ x y. x == y) clause
distinct_literals clause distinct =
    IsDistinct-from_apart (λ x y. x == y) clause (λ i j d lij lj. not_eqb (get_or clause i d) (get_or clause j d)
    (λ e. variables_apart clause distinct i j lij lj (ap variable_of (sym (get_or_default clause i d 0 (omega (arith, lij, lj))) ∙ e ∙ get_or_default clause j d 0 lj))))

-- a seat moves to a literal that is not false
pub covers_moved : {L : Type 0} (strong : Bool) (at : L → ℕ) (clauses chains : List (List ℕ)) (t : Assignment L) (s j g : ℕ) → IsCovered strong at clauses chains t → s / 2 < length clauses → 2 ≤ j → j < length (clause_of clauses s) → g ≡ get_or (clause_of clauses s) j 0
    → is_false (places at t.entries) g ≡ false → is_false (places at t.entries) (watched_at clauses s) ≡ true
    → IsCovered strong at (set clauses (s / 2) (swap (clause_of clauses s) (s % 2) j)) (put_first (taken_out chains s) g s) t
covers_moved strong at clauses chains t s j g h known far lj eg open' isfalse =
    let xs : List ℕ = clause_of clauses s in
    let only = only_swapped clauses (s / 2) (s % 2) j known (omega (arith, far, lj)) lj in
    let has : Contains xs (get_or xs j 0) = Contains-get_or xs j 0 lj in
    let inside = h.inside (s / 2) (get_or xs j 0) has in
    let open'' : is_false (places at t.entries) (get_or xs j 0) ≡ false = ap (is_false (places at t.entries)) (sym eg) ∙ open' in
    record {
      trail = h.trail;
      watches = watches_moved clauses chains s j g h.watches known far lj eg (omega (arith, eg, inside, h.size));
      covered = λ k lk. covered_moved strong (places at (cut t.entries k)) (places at (cut (waiting t) k)) clauses s j known far lj (cut_false at t.entries k (negation (get_or xs j 0)) open'') (λ e. false≢true (sym open'' ∙ ap (is_false (places at t.entries)) e ∙ isfalse)) (h.covered k lk);
      inside = λ c l m. h.inside c l (Contains-permutation (get_or (set clauses (s / 2) (swap xs (s % 2) j)) c []) (get_or clauses c []) l (IsPermutation-sym (get_or clauses c []) (get_or (set clauses (s / 2) (swap xs (s % 2) j)) c []) (only.same c)) m);
      distinct = λ c. IsDistinct-IsPermutation (λ x y. variable_of x == variable_of y) (λ x y. eqb_flips (variable_of x) (variable_of y)) (get_or clauses c []) (get_or (set clauses (s / 2) (swap xs (s % 2) j)) c []) (only.same c) (h.distinct c);
      size = places_kept chains (put_first (taken_out chains s) g s) g s (2 * t.variables) refl h.size;
    }

pub push_above : {L : Type 0} (es : List (Entry L)) (e : Entry L) (k : ℕ) → k < e.level → cut (es ++ e ∷ []) k ≡ cut es k
push_above {L} es e k h = filter-append (λ (x : Entry L). leb x.level k) es (e ∷ []) ∙ ap (λ xs. cut es k ++ xs) (left_out e [] k h) ∙ append-nil (cut es k)

push_top : {L : Type 0} (at : L → ℕ) (es : List (Entry L)) (e : Entry L) (k j : ℕ) → e.level ≤ k → j ≤ k → All (λ (x : Entry L). x.level ≤ j) es → places at (cut (es ++ e ∷ []) k) ≡ places at (cut es j) ++ at e.literal ∷ []
push_top {L} at es e k j h le all =
    let all' : All (λ (x : Entry L). x.level ≤ k) es = All-weaker (λ (x : Entry L). x.level ≤ j) (λ (x : Entry L). x.level ≤ k) (λ x lt. omega (arith, lt, le)) es all in
    ap (places at) (filter-append (λ (x : Entry L). leb x.level k) es (e ∷ []) ∙ ap (λ xs. cut es k ++ xs) (kept_in e [] k h) ∙ ap (λ xs. xs ++ e ∷ []) (cut_all es k all' ∙ sym (cut_all es j all)))
    ∙ map-append (λ (x : Entry L). at x.literal) (cut es j) (e ∷ [])

-- one more true literal, which waits
pub covers_entered : {L : Type 0} (strong : Bool) (at : L → ℕ) (clauses chains : List (List ℕ)) (t : Assignment L) (l : L) (k : ℕ) (r : Option ℕ) → IsCovered strong at clauses chains t → IsTrail at (entered t l k r) → is_true (places at t.entries) (at l) ≡ false → (k ≡ t.level) ⊎ (k ≡ t.level + 1)
    → IsCovered strong at clauses chains (entered t l k r)
covers_entered {L} strong at clauses chains t l k r h trail free step =
    let e : Entry L = record { literal = l; level = k; reason = r } in
    let t' : Assignment L = entered t l k r in
    let up : t.level ≤ k = elim step [ inl a ↦ omega (arith, a) | inr a ↦ omega (arith, a) ] in
    let below = h.trail.leveled.below in
    let waits : waiting t' ≡ waiting t ++ e ∷ [] = drop-append-le t.taken t.entries (e ∷ []) h.trail.within in
    record {
      trail = trail;
      watches = h.watches;
      covered = λ q lq. elim (cases_lt q k) [
        | inl less ↦ (let lq' : q ≤ t.level = elim step [ inl a ↦ omega (arith, a, less) | inr a ↦ omega (arith, a, less) ] in
            let P : List (Entry L) → Type 0 = λ es. AllCovered strong (places at es) (places at (cut (waiting t') q)) clauses in
            let Q : List (Entry L) → Type 0 = λ es. AllCovered strong (places at (cut t.entries q)) (places at es) clauses in
            subst P (sym (push_above t.entries e q less)) (subst Q (sym (ap (λ (es : List (Entry L)). cut es q) waits ∙ push_above (waiting t) e q less)) (h.covered q lq')))
        | inr top ↦ (let lk : k ≤ q = top in
            let P : List ℕ → Type 0 = λ xs. AllCovered strong xs (places at (cut (waiting t') q)) clauses in
            let Q : List ℕ → Type 0 = λ xs. AllCovered strong (places at (cut t.entries t.level) ++ at l ∷ []) xs clauses in
            subst P (sym (push_top at t.entries e q t.level lk (omega (arith, lk, up)) below))
            (subst Q (sym (ap (λ (es : List (Entry L)). places at (cut es q)) waits ∙ push_top at (waiting t) e q t.level lk (omega (arith, lk, up)) (All-drop (λ (x : Entry L). x.level ≤ t.level) t.taken t.entries below)))
            (covered_more strong (places at (cut t.entries t.level)) (places at (cut (waiting t) t.level)) clauses (at l) (cut_false at t.entries t.level (at l) free) (h.covered t.level (omega arith)))))
      ];
      inside = h.inside;
      distinct = h.distinct;
      size = h.size;
    }

pub going_assigned : {L : Type 0} (at : L → ℕ) (clauses chains : List (List ℕ)) (t : Assignment L) (l : L) (r : Option ℕ) → IsPropagating at clauses chains t → IsTrail at (assigned t l r) → is_true (places at t.entries) (at l) ≡ false → IsPropagating at clauses chains (assigned t l r)
going_assigned {L} at clauses chains t l r h trail free =
    let e : Entry L = record { literal = l; level = t.level; reason = r } in
    let P : List (Entry L) → Type 0 = λ es. All (λ (x : Entry L). x.level ≡ t.level) es in
    record {
      covers = covers_entered true at clauses chains t l t.level r h.covers trail free (inl refl);
      current = subst P (sym (drop-append-le t.taken t.entries (e ∷ []) h.covers.trail.within)) (All-push (λ (x : Entry L). x.level ≡ t.level) (waiting t) e h.current refl);
    }

pub trail_taken : {L : Type 0} (at : L → ℕ) (t : Assignment L) → IsTrail at t → t.taken < length t.entries → IsTrail at (one_taken t)
trail_taken at t h lt = record { inside = h.inside; leveled = h.leveled; within = omega (arith, lt); few = h.few; low = h.low; short = h.short; apart = h.apart }

-- the first waiting literal has been taken in
pub going_taken : {L : Type 0} (at : L → ℕ) (clauses chains : List (List ℕ)) (t : Assignment L) (e : Entry L) (rest : List (Entry L)) → IsPropagating at clauses chains t → waiting t ≡ e ∷ rest → t.taken < length t.entries
    → ((s : ℕ) → s / 2 < length clauses → 2 ≤ length (clause_of clauses s) → negation (watched_at clauses s) ≡ at e.literal → HasTrue (places at t.entries) (clause_of clauses s))
    → IsPropagating at clauses chains (one_taken t)
going_taken {L} at clauses chains t e rest h first lt walked =
    let more : drop t.taken t.entries ≡ get_or t.entries t.taken e ∷ drop (t.taken + 1) t.entries = drop_more t.entries t.taken e lt in
    let left : drop (t.taken + 1) t.entries ≡ rest = cc (sym first ∙ more) in
    let whole : cut t.entries t.level ≡ t.entries = cut_all t.entries t.level h.covers.trail.leveled.below in
    let A : List (Entry L) → Type 0 = λ es. All (λ (x : Entry L). x.level ≡ t.level) es in
    let now : A (e ∷ rest) = subst A first h.current in
    let later : A rest = λ i d li. now (suc i) d (omega (arith, li)) in
    let here : e.level ≡ t.level = now 0 e (omega arith) in
    let none' : (q : ℕ) → q < t.level → cut (waiting t) q ≡ [] = λ q lq. cut_none (waiting t) q (All-weaker (λ (x : Entry L). x.level ≡ t.level) (λ (x : Entry L). q < x.level) (λ x is. omega (arith, is, lq)) (waiting t) h.current) in
    let none'' : (q : ℕ) → q < t.level → cut rest q ≡ [] = λ q lq. cut_none rest q (All-weaker (λ (x : Entry L). x.level ≡ t.level) (λ (x : Entry L). q < x.level) (λ x is. omega (arith, is, lq)) rest later) in
    record {
      covers = record {
        trail = trail_taken at t h.covers.trail lt;
        watches = h.covers.watches;
        covered = λ q lq. elim (cases_lt q t.level) [
          | inl less ↦ (let P : List (Entry L) → Type 0 = λ es. AllCovered true (places at (cut t.entries q)) (places at es) clauses in
              subst P (none' q less ∙ sym (ap (λ (es : List (Entry L)). cut es q) left ∙ none'' q less)) (h.covers.covered q lq))
          | inr top ↦ (let same : t.level ≡ q = omega (arith, top, lq) in
              let P : ℕ → Type 0 = λ i. AllCovered true (places at (cut t.entries i)) (places at (cut (drop (t.taken + 1) t.entries) i)) clauses in
              let Q : List (Entry L) → Type 0 = λ es. AllCovered true (places at (cut t.entries t.level)) (places at es) clauses in
              let R : List (Entry L) → Type 0 = λ es. AllCovered true (places at (cut t.entries t.level)) (places at (cut es t.level)) clauses in
              let S : List (Entry L) → Type 0 = λ es. (s : ℕ) → s / 2 < length clauses → 2 ≤ length (clause_of clauses s) → negation (watched_at clauses s) ≡ at e.literal → HasTrue (places at es) (clause_of clauses s) in
              let was : AllCovered true (places at (cut t.entries t.level)) (at e.literal ∷ places at (cut rest t.level)) clauses = subst Q (kept_in e rest t.level (omega (arith, here))) (subst R first (h.covers.covered t.level (omega arith))) in
              subst P same (subst R (sym left) (covered_taken (places at (cut t.entries t.level)) (places at (cut rest t.level)) clauses (at e.literal) was (subst S (sym whole) walked))))
        ];
        inside = h.covers.inside;
        distinct = h.covers.distinct;
        size = h.covers.size;
      };
      current = subst A (sym left) later;
    }

-- Propagates
pub goes_same : {L : Type 0} (at : L → ℕ) (clauses : List (List ℕ)) (t : Assignment L) → Propagates at clauses t clauses t
goes_same at clauses t = record { order = only_same clauses; level = refl; variables = refl; taken = omega arith; more = omega arith; kept = take_all (length t.entries) t.entries (omega arith); current = λ i e a b. absurd (omega (arith, a, b)); reasons = λ i e a b. absurd (omega (arith, a, b)) }

pub goes_order : {L : Type 0} (at : L → ℕ) (clauses clauses' : List (List ℕ)) (t : Assignment L) → AreReordered clauses clauses' → Propagates at clauses t clauses' t
goes_order at clauses clauses' t o = record { order = o; level = refl; variables = refl; taken = omega arith; more = omega arith; kept = take_all (length t.entries) t.entries (omega arith); current = λ i e a b. absurd (omega (arith, a, b)); reasons = λ i e a b. absurd (omega (arith, a, b)) }

pub goes_taken : {L : Type 0} (at : L → ℕ) (clauses : List (List ℕ)) (t : Assignment L) → Propagates at clauses t clauses (one_taken t)
goes_taken at clauses t = record { order = only_same clauses; level = refl; variables = refl; taken = omega arith; more = omega arith; kept = take_all (length t.entries) t.entries (omega arith); current = λ i e a b. absurd (omega (arith, a, b)); reasons = λ i e a b. absurd (omega (arith, a, b)) }

pub goes_assigned : {L : Type 0} (at : L → ℕ) (clauses : List (List ℕ)) (t : Assignment L) (l : L) (id : ℕ) → id < length clauses → Contains (get_or clauses id []) (at l) → ((x : ℕ) → Contains (get_or clauses id []) x → x ≢ at l → is_false (places at t.entries) x ≡ true) → Propagates at clauses t clauses (assigned t l (Some id))
goes_assigned {L} at clauses t l id known has rest =
    let e : Entry L = record { literal = l; level = t.level; reason = Some id } in
    let size : length (t.entries ++ e ∷ []) ≡ length t.entries + 1 = length-append t.entries (e ∷ []) in
    let here : (i : ℕ) (d : Entry L) → length t.entries ≤ i → i < length (t.entries ++ e ∷ []) → get_or (t.entries ++ e ∷ []) i d ≡ e = λ i d a b. get_or_at t.entries e [] d i (omega (arith, a, b, size)) in
    record {
      order = only_same clauses;
      level = refl;
      variables = refl;
      taken = omega arith;
      more = omega (arith, size);
      kept = take_at t.entries (e ∷ []) (length t.entries) refl;
      current = λ i d a b. ap (λ (x : Entry L). x.level) (here i d a b);
      reasons = λ i d a b. (
        id,
        ap (λ (x : Entry L). x.reason) (here i d a b),
        record {
          known = known;
          has = λ d'. (let P : ℕ → Type 0 = λ x. Contains (get_or clauses id []) x in subst P (sym (ap (λ (x : Entry L). at x.literal) (here i d' a b))) has);
          false_before = λ d'. (let before : take i (t.entries ++ e ∷ []) ≡ t.entries = take_at t.entries (e ∷ []) i (omega (arith, a, b, size)) in
              let is : at (get_or (t.entries ++ e ∷ []) i d').literal ≡ at l = ap (λ (x : Entry L). at x.literal) (here i d' a b) in
              let one' : (x : ℕ) → Contains (get_or clauses id []) x → (x ≡ at (get_or (t.entries ++ e ∷ []) i d').literal) ⊎ (is_false (places at (take i (t.entries ++ e ∷ []))) x ≡ true) = λ x m. elim (cases_eq x (at l)) [
                | inl same ↦ inl (same ∙ sym is)
                | inr other ↦ inr (ap (λ (es : List (Entry L)). is_false (places at es) x) before ∙ rest x m other)
              ] in
              All-weaker (Contains (get_or clauses id [])) (λ x. (x ≡ at (get_or (t.entries ++ e ∷ []) i d').literal) ⊎ (is_false (places at (take i (t.entries ++ e ∷ []))) x ≡ true)) one' (get_or clauses id []) (All-contains_itself (get_or clauses id [])));
        },
      );
    }

-- a reason stays one, if its clause keeps its literals and the entries up to its own stay
pub reason_moves : {L : Type 0} (at : L → ℕ) (b c : List (List ℕ)) (t' t'' : Assignment L) (i id : ℕ) → id < length c → IsPermutation (get_or b id []) (get_or c id []) → ((d : Entry L) → get_or t'.entries i d ≡ get_or t''.entries i d) → take i t'.entries ≡ take i t''.entries → IsReason at t' b i id
    → IsReason at t'' c i id
reason_moves {L} at b c t' t'' i id known order same before r = record {
  known = known;
  has = λ d. (let P : Entry L → Type 0 = λ x. Contains (get_or c id []) (at x.literal) in subst P (same d) (Contains-permutation (get_or b id []) (get_or c id []) (at (get_or t'.entries i d).literal) order (r.has d)));
  false_before = λ d. (let P : Entry L → Type 0 = λ x. All (λ l. (l ≡ at x.literal) ⊎ (is_false (places at (take i t''.entries)) l ≡ true)) (get_or c id []) in
      let Q : List (Entry L) → Type 0 = λ es. All (λ l. (l ≡ at (get_or t'.entries i d).literal) ⊎ (is_false (places at es) l ≡ true)) (get_or c id []) in
      subst P (same d) (subst Q before (All-permutation (λ l. (l ≡ at (get_or t'.entries i d).literal) ⊎ (is_false (places at (take i t'.entries)) l ≡ true)) (get_or b id []) (get_or c id []) order (r.false_before d))));
}

reason_later : {L : Type 0} (at : L → ℕ) (b c : List (List ℕ)) (t' t'' : Assignment L) (i id : ℕ) → AreReordered b c → i < length t'.entries → take (length t'.entries) t''.entries ≡ t'.entries → IsReason at t' b i id → IsReason at t'' c i id
reason_later {L} at b c t' t'' i id o lt kept r =
    reason_moves at b c t' t'' i id (omega (arith, r.known, o.count)) (o.same id) (λ d. ap (λ (es : List (Entry L)). get_or es i d) (sym kept) ∙ get_or-take (length t'.entries) t''.entries i d lt) (ap (take i) (sym kept) ∙ take-take i (length t'.entries) t''.entries (omega (arith, lt))) r

pub goes_trans : {L : Type 0} (at : L → ℕ) (a b c : List (List ℕ)) (t t' t'' : Assignment L) → Propagates at a t b t' → Propagates at b t' c t'' → Propagates at a t c t''
goes_trans {L} at a b c t t' t'' x y =
    let same : (i : ℕ) (d : Entry L) → i < length t'.entries → get_or t''.entries i d ≡ get_or t'.entries i d = λ i d lt. sym (ap (λ (es : List (Entry L)). get_or es i d) (sym y.kept) ∙ get_or-take (length t'.entries) t''.entries i d lt) in
    record {
      order = only_trans a b c x.order y.order;
      level = y.level ∙ x.level;
      variables = y.variables ∙ x.variables;
      taken = omega (arith, x.taken, y.taken);
      more = omega (arith, x.more, y.more);
      kept = sym (take-take (length t.entries) (length t'.entries) t''.entries x.more) ∙ ap (take (length t.entries)) y.kept ∙ x.kept;
      current = λ i d ln lt. elim (cases_lt i (length t'.entries)) [
        | inl old ↦ ap (λ (e : Entry L). e.level) (same i d old) ∙ x.current i d ln old
        | inr new ↦ y.current i d new lt ∙ x.level
      ];
      reasons = λ i d ln lt. elim (cases_lt i (length t'.entries)) [
        | inl old ↦ (let r = x.reasons i d ln old in (r.0, ap (λ (e : Entry L). e.reason) (same i d old) ∙ r.1, reason_later at b c t' t'' i r.0 y.order old y.kept r.2))
        | inr new ↦ y.reasons i d new lt
      ];
    }

-- the end, at rest or at a false clause
pub settled_below : {L : Type 0} (at : L → ℕ) (clauses chains : List (List ℕ)) (t : Assignment L) → IsPropagating at clauses chains t → SettledBelow at t clauses
settled_below {L} at clauses chains t h q lq =
    let none' : cut (waiting t) q ≡ [] = cut_none (waiting t) q (All-weaker (λ (x : Entry L). x.level ≡ t.level) (λ (x : Entry L). q < x.level) (λ x is. omega (arith, is, lq)) (waiting t) h.current) in
    let P : List (Entry L) → Type 0 = λ es. AllCovered true (places at (cut t.entries q)) (places at es) clauses in
    all_settled (places at (cut t.entries q)) clauses (subst P none' (h.covers.covered q (omega (arith, lq))))

pub at_rest_now : {L : Type 0} (at : L → ℕ) (clauses chains : List (List ℕ)) (t : Assignment L) → IsPropagating at clauses chains t → waiting t ≡ [] → IsAtRest at t clauses
at_rest_now {L} at clauses chains t h none' =
    let P : List (Entry L) → Type 0 = λ es. AllCovered true (places at es) (places at (cut (waiting t) t.level)) clauses in
    let Q : List (Entry L) → Type 0 = λ es. AllCovered true (places at t.entries) (places at (cut es t.level)) clauses in
    record {
      none_waits = none';
      below = settled_below at clauses chains t h;
      whole = all_settled (places at t.entries) clauses (subst Q none' (subst P (cut_all t.entries t.level h.covers.trail.leveled.below) (h.covers.covered t.level (omega arith))));
    }

pub weaker : {L : Type 0} (at : L → ℕ) (clauses chains : List (List ℕ)) (t : Assignment L) → IsCovered true at clauses chains t → IsCovered false at clauses chains t
weaker at clauses chains t h = record {
  trail = h.trail;
  watches = h.watches;
  covered = λ k lk s a b c d. elim (h.covered k lk s a b c d) [ inl some ↦ inl some | inr rest ↦ inr (rest.0, λ e. absurd (false≢true e)) ];
  inside = h.inside;
  distinct = h.distinct;
  size = h.size;
}
