-- A lemma is added where its first literal can be assigned.
use Rattle.std.proofs.Common.{◌≡◌, ℕ, zero, suc, ◌*◌, ◌<◌, ◌≤◌, ◌==◌, eq-eqb, Bool, true, false, List, [], ◌∷◌, ◌++◌, length, get_or, map, take, drop, swap, Some, refl, sym, ◌∙◌, ap, subst, arith, inl, inr}
use Rattle.std.specs.List.{All, Contains}
use Rattle.std.specs.List.Sorted.{IsPermutation}
use Rattle.std.proofs.lemmas.Bool.{cases_Bool, false≢true}
use Rattle.std.proofs.lemmas.List.{get_or_default, get_or-take}
use Rattle.std.proofs.lemmas.List.Elements.{Contains-get_or}
use Rattle.std.proofs.lemmas.List.Sorted.{Contains-permutation, IsPermutation-sym, length_permutation, All-permutation}
use Rattle.std.proofs.lemmas.Bool.Decides.{eqb_tells}
use Rattle.std.proofs.lemmas.Map.Keys.{IsDistinct-from_apart, IsDistinct-IsPermutation, apart_from_distinct}
use Rattle.literals_core.specs.Literal.{negation, variable_of}
use Rattle.literals_core.specs.Truth.{is_true, is_false}
use Rattle.literals_core.proofs.Negation.{negation_twice, variable_of-negation}
use Rattle.literals_core.proofs.Truth.{tested_true, true_tested}
use Rattle.watch_core.specs.Trail.{Assignment, Entry, IsTrail, places, cut, waiting, assigned, undone}
use Rattle.literals_core.specs.DistinctVariables.{HasDistinctVariables}
use Rattle.watch_core.specs.Places.{placed}
use Rattle.watch_core.specs.Rest.{SettledBelow, CanPropagate, IsAtRest}
use Rattle.watch_core.specs.Added.{CanAdd, NotAfter}
use Rattle.watch_core.proofs.LevelLemmas.{cut_cut}
use Rattle.watch_core.proofs.ReadyLemmas.{rests_undone, can_assigned}
use Rattle.search_core.specs.State.{place, entry_at, no_entry, IsEntry}
use Rattle.search_core.specs.Analysis.{IsLower, IsPoint, IsHighest}
use Rattle.search_core.proofs.EntryLemmas.{cut_has, cut_entry, same_entry, variable_inside}
use Rattle.search_core.proofs.FreshLemmas.{placed_is, placed_row, apart_all}
use Rattle.watch_core.proofs.AddLemmas.{clause_short}
use Rattle.search_core.proofs.StateLemmas.{cut_place}

pub lower_inside : (t : Assignment ℕ) (lower : List ℕ) (k r : ℕ) → IsTrail place t → All (IsLower t) lower → k < length lower → r ≡ get_or lower k r → variable_of r < t.variables
lower_inside t lower k r trail lows lt is =
    let low : IsLower t r = subst (IsLower t) (sym is) (lows k r lt) in
    let v = variable_inside t low.0 (negation r) trail low.1.known low.1.is in
    omega (arith, v, variable_of-negation r)

pub swapped_first : (xs : List ℕ) (h : ℕ) → h < length xs → get_or (swap xs 0 h) 0 0 ≡ get_or xs h 0
swapped_first [] h lt = absurd (omega (arith, lt))
swapped_first (x ∷ xs) zero lt = refl
swapped_first (x ∷ xs) (suc h) lt = get_or_default xs h x 0 (omega (arith, lt))

pub swapped_highest : (t : Assignment ℕ) (lower lower' : List ℕ) (h r level : ℕ) → IsTrail place t → All (IsLower t) lower → h < length lower
    → ((k i j : ℕ) → k < length lower → IsEntry t (negation (get_or lower k 0)) i → IsEntry t (negation (get_or lower h 0)) j → (entry_at t i).level ≤ (entry_at t j).level)
    → lower' ≡ swap lower 0 h → IsPermutation lower lower' → r ≡ get_or lower' 0 r
    → ((i : ℕ) (d : Entry ℕ) → i < length t.entries → variable_of (get_or t.entries i d).literal ≡ variable_of r → level ≡ (get_or t.entries i d).level)
    → IsHighest t lower' level
swapped_highest t lower lower' h r level trail lows lt most e order is level_is =
    let n = length_permutation lower lower' order in
    let some : 0 < length lower' = omega (arith, n, lt) in
    let first : get_or lower' 0 0 ≡ get_or lower h 0 = ap (λ (xs : List ℕ). get_or xs 0 0) e ∙ swapped_first lower h lt in
    let same : r ≡ get_or lower h 0 = is ∙ get_or_default lower' 0 r 0 some ∙ first in
    let low = lows h 0 lt in
    let at : (j : ℕ) → IsEntry t (negation (get_or lower h 0)) j → level ≡ (entry_at t j).level = (λ j entry. level_is j no_entry entry.known (ap variable_of entry.is ∙ variable_of-negation (get_or lower h 0) ∙ sym (ap variable_of same))) in
    record {
      most = λ k i inside entry.
          (let has = Contains-permutation lower' lower (get_or lower' k 0) (IsPermutation-sym lower lower' order) (Contains-get_or lower' k 0 inside) in
          let here : get_or lower has.0 0 ≡ get_or lower' k 0 = get_or_default lower has.0 0 (get_or lower' k 0) has.1 ∙ has.2 in
          let l = most has.0 i low.0 has.1 (subst (λ x. IsEntry t (negation x) i) (sym here) entry) low.1 in
          let m = at low.0 low.1 in
          omega (arith, l, m));
      first = λ some' i entry. sym (at i (subst (λ x. IsEntry t (negation x) i) first entry));
      none = λ none. (let z = ap length none in absurd (omega (arith, z, some)));
    }

length_front : (n : ℕ) (es : List (Entry ℕ)) → n ≤ length es → length (take n es) ≡ n
length_front zero es le = refl
length_front (suc n) [] le = absurd (omega (arith, le))
length_front (suc n) (x ∷ es) le = ap suc (length_front n es (omega (arith, le)))

-- distinct variables in another order
pub apart_permuted : (xs ys : List ℕ) → IsPermutation xs ys → HasDistinctVariables xs → HasDistinctVariables ys
apart_permuted xs ys order apart i j before lt same =
    let e : ℕ → ℕ → Bool = λ x y. variable_of x == variable_of y in
    let one = IsDistinct-from_apart e xs (λ i j d before lt. not_same (get_or xs i d) (get_or xs j d) (λ is. apart i j before lt (ap variable_of (get_or_default xs i 0 d (omega (arith, before, lt))) ∙ is ∙ sym (ap variable_of (get_or_default xs j 0 d lt))))) in
    let two = IsDistinct-IsPermutation e (λ x y. flips (variable_of x) (variable_of y)) xs ys order one in
    false≢true (sym (apart_from_distinct e ys i j 0 two before lt) ∙ eq-eqb (variable_of (get_or ys i 0)) (variable_of (get_or ys j 0)) same) where
      not_same : (x y : ℕ) → (variable_of x ≡ variable_of y → ⊥) → (variable_of x == variable_of y) ≡ false
      not_same x y ne = elim (eqb_tells (variable_of x) (variable_of y)) [ inl is ↦ absurd (ne is.1) | inr no' ↦ no'.0 ]

      flips : (a b : ℕ) → (a == b) ≡ (b == a)
      flips a b = elim (eqb_tells a b) [
        | inl is ↦ is.0 ∙ sym (eq-eqb b a (sym is.1))
        | inr no' ↦ (elim (eqb_tells b a) [ inl back ↦ absurd (no'.1 (sym back.1)) | inr other ↦ no'.0 ∙ sym other.0 ])
      ]

-- what an added lemma needs of the trail
pub record IsLearnable (t : Assignment ℕ) (clauses : List (List ℕ)) (lower : List ℕ) (point level : ℕ) : Type 0 where
  pub trail : IsTrail place t
  pub below : SettledBelow place t (placed place clauses)
  pub current : All (λ (e : Entry ℕ). e.level ≡ t.level) (waiting t)
  pub made : IsPoint t lower point
  pub highest : IsHighest t lower level

-- the level of the others is below the current one
pub level_low : (t : Assignment ℕ) (clauses : List (List ℕ)) (lower : List ℕ) (point level : ℕ) → IsLearnable t clauses lower point level → level < t.level
level_low t clauses [] point level can = let z = can.highest.none refl in let a = can.made.above in omega (arith, z, a)
level_low t clauses (l ∷ lower) point level can =
    let low = can.made.lows 0 0 (omega arith) in
    let at = can.highest.first (omega arith) low.0 low.1 in
    let l' = low.2 in omega (arith, at, l')

pub rests_back : (t : Assignment ℕ) (clauses : List (List ℕ)) (lower : List ℕ) (point level : ℕ) → IsLearnable t clauses lower point level → IsAtRest place (undone t level) (placed place clauses)
rests_back t clauses lower point level can = rests_undone place t (placed place clauses) level can.trail can.below can.current (level_low t clauses lower point level can)

-- the lower ones are false after going back
pub lower_false : (t : Assignment ℕ) (clauses : List (List ℕ)) (lower : List ℕ) (point level : ℕ) → IsLearnable t clauses lower point level → All (λ x. is_false (places place (cut t.entries level)) x ≡ true) lower
lower_false t clauses lower point level can k d lt =
    let l : ℕ = get_or lower k d in
    let low = can.made.lows k d lt in
    let e : get_or lower k 0 ≡ l = get_or_default lower k 0 d lt in
    let most = can.highest.most k low.0 lt (subst (λ x. IsEntry t (negation x) low.0) (sym e) low.1) in
    true_tested (places place (cut t.entries level)) (negation l) (subst (Contains (places place (cut t.entries level))) low.1.is (cut_has t.entries level low.0 low.1.known most))

-- and the first one isn't
pub first_open : (t : Assignment ℕ) (clauses : List (List ℕ)) (lower : List ℕ) (point level : ℕ) → IsLearnable t clauses lower point level
    → (is_false (places place (cut t.entries level)) (negation point) ≡ false) × (is_true (places place (cut t.entries level)) (negation point) ≡ false)
first_open t clauses lower point level can = (none (negation (negation point)) (ap variable_of (negation_twice point)), none (negation point) (variable_of-negation point)) where
  none : (y : ℕ) → variable_of y ≡ variable_of point → is_true (places place (cut t.entries level)) y ≡ false
  none y same = elim (cases_Bool (is_true (places place (cut t.entries level)) y)) [
    | inr no' ↦ no'
    | inl has ↦
        (let a = cut_entry t.entries level y (tested_true (places place (cut t.entries level)) y has) in
        let top = can.made.entry in
        let k = ap (λ k. (entry_at t k).level) (same_entry t a.0 top.0 can.trail a.1 top.1.known (ap variable_of a.2 ∙ same ∙ sym (ap variable_of top.1.is))) in
        let low = level_low t clauses lower point level can in
        absurd (omega (arith, k, a.3, top.2, low)))
  ]

pub can_add : (t : Assignment ℕ) (clauses : List (List ℕ)) (lower : List ℕ) (point level : ℕ) → IsLearnable t clauses lower point level → CanAdd place (undone t level) (map place (negation point ∷ lower))
can_add t clauses lower point level can =
    let c : List ℕ = negation point ∷ lower in
    subst (CanAdd place (undone t level)) (sym (placed_row c)) (record {
      inside = λ k d lt. inside k d lt;
      apart = apart_all t lower point can.trail can.made;
      first = λ long. (first_open t clauses lower point level can).0;
      second = λ long. inr (λ i from lt. later i from lt);
    })
  where
    inside : (k d : ℕ) → k < length (negation point ∷ lower) → get_or (negation point ∷ lower) k d < 2 * t.variables
    inside zero d lt = (let top = can.made.entry in let v = variable_inside t top.0 point can.trail top.1.known top.1.is in let n = variable_of-negation point in omega (arith, v, n))
    inside (suc k) d lt = (let v = lower_inside t lower k (get_or lower k d) can.trail can.made.lows (omega (arith, lt)) (get_or_default lower k d (get_or lower k d) (omega (arith, lt))) in omega (arith, v))

    later : (i : ℕ) → 1 ≤ i → i < length (negation point ∷ lower) → (is_false (places place (cut t.entries level)) (get_or (negation point ∷ lower) i 0) ≡ true) × NotAfter place (undone t level) (get_or (negation point ∷ lower) i 0) (get_or (negation point ∷ lower) 1 0)
    later zero from lt = absurd (omega (arith, from))
    later (suc i) from lt = (lower_false t clauses lower point level can i 0 (omega (arith, lt)), λ a b d la lb at_a at_b. after i (omega (arith, lt)) a b d la lb at_a at_b) where
      after : (i : ℕ) → i < length lower → NotAfter place (undone t level) (get_or lower i 0) (get_or lower 0 0)
      after i lt a b d la lb at_a at_b =
          let at = cut_place t.entries level can.trail.leveled.sorted in
          let size = ap length at.1.is in
          let short : length (take at.0 t.entries) ≡ at.0 = length_front at.0 t.entries at.1.few in
          let read : (x : ℕ) → x < length (cut t.entries level) → get_or (cut t.entries level) x d ≡ entry_at t x = (λ x lx. ap (λ (es : List (Entry ℕ)). get_or es x d) at.1.is ∙ get_or-take at.0 t.entries x d (omega (arith, lx, size, short)) ∙ get_or_default t.entries x d no_entry (omega (arith, lx, size, short, at.1.few))) in
          let ea : IsEntry t (negation (get_or lower i 0)) a = record { known = omega (arith, la, size, short, at.1.few); is = sym (ap (λ (x : Entry ℕ). x.literal) (read a la)) ∙ at_a } in
          let eb : IsEntry t (negation (get_or lower 0 0)) b = record { known = omega (arith, lb, size, short, at.1.few); is = sym (ap (λ (x : Entry ℕ). x.literal) (read b lb)) ∙ at_b } in
          let ha = can.highest.most i a lt ea in
          let hb = can.highest.first (omega (arith, lt)) b eb in
          let ra = ap (λ (x : Entry ℕ). x.level) (read a la) in
          let rb = ap (λ (x : Entry ℕ). x.level) (read b lb) in
          omega (arith, ha, hb, ra, rb)

pub learnable : (t : Assignment ℕ) (clauses : List (List ℕ)) (lower lower' : List ℕ) (point level : ℕ) → IsTrail place t → SettledBelow place t (placed place clauses) → All (λ (e : Entry ℕ). e.level ≡ t.level) (waiting t) → IsPoint t lower point → IsPermutation lower lower' → IsHighest t lower' level → IsLearnable t clauses lower' point level
learnable t clauses lower lower' point level trail below current made order highest = record {
  trail = trail;
  below = below;
  current = current;
  made = record { above = made.above; entry = made.entry; lows = All-permutation (IsLower t) lower lower' order made.lows; apart = apart_permuted lower lower' order made.apart };
  highest = highest;
}

-- a lemma's literals are of the variables of the trail
pub lemma_inside : (t : Assignment ℕ) (clauses : List (List ℕ)) (lower : List ℕ) (point level : ℕ) → IsLearnable t clauses lower point level → All (λ l. l < 2 * t.variables) (negation point ∷ lower)
lemma_inside t clauses lower point level can = (subst (λ (c : List ℕ). CanAdd place (undone t level) c) (placed_row (negation point ∷ lower)) (can_add t clauses lower point level can)).inside

pub lemma_short : (t : Assignment ℕ) (clauses : List (List ℕ)) (lower : List ℕ) (point level : ℕ) → IsLearnable t clauses lower point level → length (negation point ∷ lower) ≤ t.variables
lemma_short t clauses lower point level can =
    let add = subst (λ (c : List ℕ). CanAdd place (undone t level) c) (placed_row (negation point ∷ lower)) (can_add t clauses lower point level can) in
    clause_short t.variables (negation point ∷ lower) add.inside add.apart

-- the lemma's first literal may be assigned and propagated
pub can_learn : (t : Assignment ℕ) (clauses : List (List ℕ)) (lower : List ℕ) (point level id : ℕ) → IsLearnable t clauses lower point level → IsTrail place (undone t level)
    → CanPropagate place (assigned (undone t level) (negation point) (Some id)) (placed place (clauses ++ (negation point ∷ lower) ∷ []))
can_learn t clauses lower point level id can trail =
    let c : List ℕ = negation point ∷ lower in
    let P : List (List ℕ) → Type 0 = λ cs. CanPropagate place (assigned (undone t level) (negation point) (Some id)) cs in
    let e : placed place clauses ++ c ∷ [] ≡ placed place (clauses ++ c ∷ []) = ap (λ (cs : List (List ℕ)). cs ++ c ∷ []) (placed_is clauses) ∙ sym (placed_is (clauses ++ c ∷ [])) in
    subst P e (can_assigned place (undone t level) (placed place clauses) c (negation point) (Some id) trail (rests_back t clauses lower point level can) (omega arith) refl (first_open t clauses lower point level can).0 (λ long q lq. second long q lq))
  where
    second : 2 ≤ suc (length lower) → (q : ℕ) → q < level → is_false (places place (cut (cut t.entries level) q)) (get_or lower 0 0) ≡ false
    second long q lq = elim (cases_Bool (is_false (places place (cut (cut t.entries level) q)) (get_or lower 0 0))) [
      | inr no' ↦ no'
      | inl out ↦
          (let has : Contains (places place (cut t.entries q)) (negation (get_or lower 0 0)) = subst (λ (es : List (Entry ℕ)). Contains (places place es) (negation (get_or lower 0 0))) (cut_cut t.entries level q (omega (arith, lq))) (tested_true (places place (cut (cut t.entries level) q)) (negation (get_or lower 0 0)) out) in
          let a = cut_entry t.entries q (negation (get_or lower 0 0)) has in
          let at = can.highest.first (omega (arith, long)) a.0 (record { known = a.1; is = a.2 }) in
          absurd (omega (arith, at, a.3, lq)))
    ]

pub clause_made : (full extended pushed first sliced others : List ℕ) (l point : ℕ) → full ≡ extended → extended ≡ pushed ++ sliced → pushed ≡ first ++ l ∷ [] → first ≡ [] → sliced ≡ others → l ≡ negation point → full ≡ negation point ∷ others
clause_made full extended pushed first sliced others l point a b c d e f =
    a ∙ b ∙ ap (λ (xs : List ℕ). xs ++ sliced) (c ∙ ap (λ (xs : List ℕ). xs ++ l ∷ []) d) ∙ ap (λ (xs : List ℕ). l ∷ xs) e ∙ ap (λ x. x ∷ others) f

-- a slice of a whole vector is written back whole
pub written_back : (new old : List ℕ) (n : ℕ) → n ≡ length new → take n (new ++ drop (length new) old) ≡ new
written_back new old n is = ap (λ k. take k (new ++ drop (length new) old)) is ∙ whole new (drop (length new) old) where
  whole : (xs ys : List ℕ) → take (length xs) (xs ++ ys) ≡ xs
  whole [] ys = refl
  whole (x ∷ xs) ys = ap (λ (zs : List ℕ). x ∷ zs) (whole xs ys)
