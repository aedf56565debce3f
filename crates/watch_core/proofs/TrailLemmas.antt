-- What the tables of a trail keep when literals leave, and what callers know of a trail.
use Rattle.std.proofs.Common.{◌≡◌, ◌≢◌, ℕ, zero, suc, ◌+◌, ◌-◌, ◌*◌, ◌/◌, ◌%◌, ◌<◌, ◌≤◌, ◌==◌, ◌||◌, not, Bool, true, false, List, [], ◌∷◌, ◌++◌, length, map, get_or, set, take, Option, None, Some, refl, sym, ◌∙◌, ap, subst, arith, inl, inr, ◌⊎◌, eq-eqb, min, drop}
use Rattle.std.specs.List.{slice_get}
use Rattle.std.specs.Prelude.{is_some}
use Rattle.std.proofs.lemmas.List.{map-append, length-set, length-append, length-map, get_or-set_same, get_or-set_other, get_or-map, get_or_append_left, take_more, get_or_default, get_or_at, drop_more, drop_all, drop-map, length-take-le, get_or-take, take-map}
use Rattle.std.proofs.lemmas.List.Elements.{All-map, All-set}
use Rattle.std.proofs.lemmas.Bool.{cases_eq, false≢true}
use Rattle.std.proofs.lemmas.Bool.Decides.{nat_tests}
use Rattle.arena_core.specs.declared.arena.TheConstants.{MOST_CLAUSES}
use Rattle.arena_core.specs.declared.lit.TheConstants.{MOST_VARIABLES}
use Rattle.literals_core.specs.Literal.{negation}
use Rattle.literals_core.specs.Truth.{is_true}
use Rattle.literals_core.proofs.Negation.{negation_twice, variable_of-negation}
use Rattle.watch_core.specs.Trail.{Entry, Assignment, IsTrail, IsLeveled, places, value_of, undone, cut, order, waiting, empty_trail}
use Rattle.watch_core.specs.Kept.{blank, reason_of, entry_of, entries_of, IsKept, Keeps}
use Rattle.watch_core.specs.declared.trail.Mark.{Mark}
use Rattle.watch_core.specs.declared.trail.TheConstants.{NO_REASON}
use Rattle.watch_core.proofs.AssignLemmas.{more_true, or_none, value_none, not_eqb, order_short, course_assigned}
use Rattle.watch_core.proofs.LevelLemmas.{leveled_more, leveled_cut, cut_is, cut_all}

-- the level is at most the number of variables
level_low : {L : Type 0} (at : L → ℕ) (values : List ℕ) (marks : List Mark) (order : List L) (capacity taken level : ℕ) → Keeps at values marks order capacity taken level → level ≤ length marks
level_low at values marks [] capacity taken level k = (let b = k.leveled.begun level (omega arith) in omega (arith, b))
level_low at values marks (d ∷ order) capacity taken level k =
    let short = order_short at values marks (d ∷ order) capacity taken d k.kept in
    let b = k.leveled.begun level (omega arith) in
    let n = ap length (cut_all (entries_of at marks (d ∷ order)) level k.leveled.below) in
    let m = length-map (d ∷ order) (entry_of at marks) in
    omega (arith, short, b, n, m)

short_order : {L : Type 0} (at : L → ℕ) (values : List ℕ) (marks : List Mark) (order : List L) (capacity taken level : ℕ) → Keeps at values marks order capacity taken level → length (entries_of at marks order) ≤ length marks
short_order at values marks [] capacity taken level k = omega arith
short_order at values marks (d ∷ order) capacity taken level k =
    let short = order_short at values marks (d ∷ order) capacity taken d k.kept in
    let m = length-map (d ∷ order) (entry_of at marks) in
    omega (arith, short, m)

pub trail_is : {L : Type 0} (at : L → ℕ) (values : List ℕ) (marks : List Mark) (order : List L) (capacity taken level : ℕ) → Keeps at values marks order capacity taken level
    → (let t : Assignment L = record { entries = entries_of at marks order; level = level; taken = taken; variables = length marks } in IsTrail at t)
trail_is {L} at values marks order capacity taken level k = record {
  inside = All-map (λ (e : Entry L). at e.literal < 2 * length marks) (entry_of at marks) order (λ i d lt. (let h = k.kept.inside i d lt in omega (arith, h, k.kept.sizes)));
  leveled = k.leveled;
  within = (let n = length-map order (entry_of at marks) in omega (arith, n, k.kept.within));
  few = k.few;
  low = level_low at values marks order capacity taken level k;
  short = short_order at values marks order capacity taken level k;
  apart = λ i j d lij lj e. (let n = length-map order (entry_of at marks) in
      let a : get_or (entries_of at marks order) i d ≡ entry_of at marks (get_or order i d.literal) = get_or-map (entry_of at marks) order i d.literal d (omega (arith, n, lij, lj)) in
      let b : get_or (entries_of at marks order) j d ≡ entry_of at marks (get_or order j d.literal) = get_or-map (entry_of at marks) order j d.literal d (omega (arith, n, lj)) in
      k.kept.apart i j d.literal lij (omega (arith, n, lj)) (sym (ap (λ (x : Entry L). at x.literal / 2) a) ∙ e ∙ ap (λ (x : Entry L). at x.literal / 2) b));
}

-- all that `enter` keeps
pub keeps_entered : {L : Type 0} (at : L → ℕ) (values : List ℕ) (marks : List Mark) (order order' : List L) (capacity capacity' taken place q n level0 level level' : ℕ) (l : L) (m : Mark) (entries : List (Entry L)) → Keeps at values marks order capacity taken level → entries_of at marks order ≡ entries → length marks ≡ n → place ≡ at l → at l < 2 * n → q ≡ negation (at l)
    → value_of (places at entries) (at l) ≡ None → order' ≡ order ++ l ∷ [] → capacity ≤ capacity' → level ≡ level0 → (level' ≡ level0) ⊎ (level' ≡ level0 + 1) → m.level ≡ level' → (m.reason ≡ NO_REASON) ⊎ (m.reason < MOST_CLAUSES)
    → Keeps at (set (set values place 1) q 2) (set marks (place / 2) m) order' capacity' taken level'
keeps_entered {L} at values marks order order' capacity capacity' taken place q n level0 level level' l m entries k e size same lt eq free grown wide lv step is valid =
    let done = course_assigned at values marks order order' capacity capacity' taken place q n l m entries k.kept e size same lt eq free grown wide in
    let P : List (Entry L) → Type 0 = λ es. IsLeveled es level' in
    let Q : List (Entry L) → Type 0 = λ es. IsLeveled es level in
    let step' : (level' ≡ level) ⊎ (level' ≡ level + 1) = elim step [ inl a ↦ inl (omega (arith, a, lv)) | inr a ↦ inr (omega (arith, a, lv)) ] in
    record {
      kept = done.0;
      leveled = subst P (sym done.1) (leveled_more entries level level' (record { literal = l; level = m.level; reason = reason_of m.reason }) (subst Q e k.leveled) step' is);
      few = (let s = length-set marks (place / 2) m in omega (arith, s, k.few));
      reasons = All-set (λ (x : Mark). (x.reason ≡ NO_REASON) ⊎ (x.reason < MOST_CLAUSES)) marks (place / 2) m valid k.reasons;
    }

absent : {L : Type 0} (at : L → ℕ) (xs : List L) (p p' : ℕ) → p' / 2 ≡ p / 2 → ((i : ℕ) (d : L) → i < length xs → at (get_or xs i d) / 2 ≢ p / 2) → is_true (map at xs) p' ≡ false
absent at [] p p' e h = refl
absent at (x ∷ xs) p p' e h =
    ap (λ b. b || is_true (map at xs) p') (not_eqb (at x) p' (λ is. h 0 x (omega arith) (ap (λ n. n / 2) is ∙ e))) ∙ absent at xs p p' e (λ i d lt. h (suc i) d (omega (arith, lt)))

pub kept_left : {L : Type 0} (at : L → ℕ) (values : List ℕ) (marks : List Mark) (xs : List L) (capacity q : ℕ) (l : L) → IsKept at values marks (xs ++ l ∷ []) capacity 0 → q ≡ negation (at l)
    → IsKept at (set (set values (at l) 0) q 0) marks xs capacity 0
kept_left {L} at values marks xs capacity q l k eq =
    let p : ℕ = at l in
    let size : length (set (set values p 0) q 0) ≡ length values = simp length-set in
    let grown : map at (xs ++ l ∷ []) ≡ map at xs ++ p ∷ [] = map-append at xs (l ∷ []) in
    let longer : length (xs ++ l ∷ []) ≡ length xs + 1 = length-append xs (l ∷ []) in
    let away : (i : ℕ) (d : L) → i < length xs → at (get_or xs i d) / 2 ≢ p / 2 = λ i d lt e.
    (let a = get_or_append_left xs (l ∷ []) d i lt in
    let b : get_or (xs ++ l ∷ []) (length xs) d ≡ l = get_or_at xs l [] d (length xs) refl in
    k.apart i (length xs) d lt (omega (arith, longer)) (ap (λ x. at x / 2) a ∙ e ∙ sym (ap (λ x. at x / 2) b))) in
    let no_p : is_true (map at xs) p ≡ false = absent at xs p p refl away in
    let no_q : is_true (map at xs) q ≡ false = absent at xs p q (ap (λ n. n / 2) eq ∙ variable_of-negation p) away in
    let past : (x : ℕ) → p ≢ x → is_true (map at (xs ++ l ∷ [])) x ≡ is_true (map at xs) x = λ x ne. ap (λ s. is_true s x) grown ∙ more_true (map at xs) p x ∙ ap (λ b. is_true (map at xs) x || (b || false)) (not_eqb p x ne) ∙ or_none (is_true (map at xs) x) in
    let at_q : (x : ℕ) → x < length values → x ≡ q → get_or (set (set values p 0) q 0) x 0 ≡ 0 = λ x lt is. ap (λ j. get_or (set (set values p 0) q 0) j 0) is ∙ get_or-set_same (set values p 0) q 0 0 (simp length-set (omega (arith, is, lt))) in
    let at_p : (x : ℕ) → x < length values → x ≢ q → x ≡ p → get_or (set (set values p 0) q 0) x 0 ≡ 0 = λ x lt ne is. get_or-set_other (set values p 0) q x 0 0 ne ∙ ap (λ j. get_or (set values p 0) j 0) is ∙ get_or-set_same values p 0 0 (omega (arith, is, lt)) in
    let at_x : (x : ℕ) → x ≢ q → x ≢ p → get_or (set (set values p 0) q 0) x 0 ≡ get_or values x 0 = λ x nq np. get_or-set_other (set values p 0) q x 0 0 nq ∙ get_or-set_other values p x 0 0 np in
    record {
      sizes = simp length-set k.sizes;
      inside = λ i d lt. (let h = k.inside i d (omega (arith, lt, longer)) in let a = ap at (get_or_append_left xs (l ∷ []) d i lt) in omega (arith, h, a, size));
      apart = λ i j d lij lj e. (let a = get_or_append_left xs (l ∷ []) d i (omega (arith, lij, lj)) in let b = get_or_append_left xs (l ∷ []) d j lj in
          k.apart i j d lij (omega (arith, lj, longer)) (ap (λ x. at x / 2) a ∙ e ∙ sym (ap (λ x. at x / 2) b)));
      trues = λ x h. (let hx : x < length values = omega (arith, h, size) in
          elim (cases_eq x q) [
            | inl isq ↦ ap (λ v. v == 1) (at_q x hx isq) ∙ sym (ap (is_true (map at xs)) isq ∙ no_q)
            | inr nq ↦ (elim (cases_eq x p) [
              | inl isp ↦ ap (λ v. v == 1) (at_p x hx nq isp) ∙ sym (ap (is_true (map at xs)) isp ∙ no_p)
              | inr np ↦ ap (λ v. v == 1) (at_x x nq np) ∙ k.trues x hx ∙ past x (λ e. np (sym e))
            ])
          ]);
      falses = λ x h. (let hx : x < length values = omega (arith, h, size) in
          elim (cases_eq x q) [
            | inl isq ↦ ap (λ v. v == 2) (at_q x hx isq) ∙ sym (ap (is_true (map at xs)) (ap negation (isq ∙ eq) ∙ negation_twice p) ∙ no_p)
            | inr nq ↦ (elim (cases_eq x p) [
              | inl isp ↦ ap (λ v. v == 2) (at_p x hx nq isp) ∙ sym (ap (is_true (map at xs)) (ap negation isp ∙ sym eq) ∙ no_q)
              | inr np ↦ ap (λ v. v == 2) (at_x x nq np) ∙ k.falses x hx ∙ past (negation x) (λ e. nq (sym (negation_twice x) ∙ sym (ap negation e) ∙ sym eq))
            ])
          ]);
      room = k.room;
      within = omega arith;
    }

pub kept_shorter : {L : Type 0} (at : L → ℕ) (values : List ℕ) (marks : List Mark) (order : List L) (capacity n m q : ℕ) (l : L) → IsKept at values marks (take n order) capacity 0 → n ≡ m + 1 → n ≤ length order → l ≡ get_or order m l → q ≡ negation (at l)
    → IsKept at (set (set values (at l) 0) q 0) marks (take m order) capacity 0
kept_shorter {L} at values marks order capacity n m q l k e le read eq =
    let P : List L → Type 0 = λ xs. IsKept at values marks xs capacity 0 in
    kept_left at values marks (take m order) capacity q l (subst P (ap (λ i. take i order) e ∙ take_more order m l (omega (arith, e, le)) ∙ ap (λ x. take m order ++ x ∷ []) (sym read)) k) eq

-- the tables of a trail with other bounds
pub kept_free : {L : Type 0} (at : L → ℕ) (values : List ℕ) (marks : List Mark) (order : List L) (capacity taken capacity' taken' : ℕ) → IsKept at values marks order capacity taken → length marks ≤ capacity' → taken' ≤ length order → IsKept at values marks order capacity' taken'
kept_free at values marks order capacity taken capacity' taken' k wide le = record { sizes = k.sizes; inside = k.inside; apart = k.apart; trues = k.trues; falses = k.falses; room = wide; within = le }

-- the level and the reason of an entry are in the mark of its variable
pub mark_reads : {L : Type 0} (at : L → ℕ) (marks : List Mark) (order : List L) (entries : List (Entry L)) (v n : ℕ) (m : Mark) (i : ℕ) (d : Entry L) → entries_of at marks order ≡ entries → length marks ≡ n → m ≡ get_or marks v m → v < n → i < length entries → at (get_or entries i d).literal / 2 ≡ v
    → (m.level ≡ (get_or entries i d).level) × (reason_of m.reason ≡ (get_or entries i d).reason)
mark_reads {L} at marks order entries v n m i d e size read lt li is =
    let l : L = d.literal in
    let all : length entries ≡ length order = sym (ap length e) ∙ length-map order (entry_of at marks) in
    let here : get_or entries i d ≡ entry_of at marks (get_or order i l) = ap (λ (es : List (Entry L)). get_or es i d) (sym e) ∙ get_or-map (entry_of at marks) order i l d (omega (arith, all, li)) in
    let mark : get_or marks (at (get_or order i l) / 2) blank ≡ m = ap (λ n. get_or marks n blank) (sym (ap (λ (x : Entry L). at x.literal / 2) here) ∙ is) ∙ get_or_default marks v blank m (omega (arith, lt, size)) ∙ sym read in
    (sym (ap (λ (x : Entry L). x.level) here ∙ ap (λ (x : Mark). x.level) mark), sym (ap (λ (x : Entry L). x.reason) here ∙ ap (λ (x : Mark). reason_of x.reason) mark))

pub order_is : {L : Type 0} (at : L → ℕ) (marks : List Mark) (xs : List L) → order (entries_of at marks xs) ≡ xs
order_is at marks [] = refl
order_is at marks (x ∷ xs) = ap (λ ys. x ∷ ys) (order_is at marks xs)

-- all that `undo_to` leaves
pub keeps_undone : {L : Type 0} (at : L → ℕ) (values values' raw : List ℕ) (marks : List Mark) (order order' : List L) (capacity capacity' taken taken' n level level' : ℕ) → Keeps at values marks order capacity taken level → level' ≤ level → n ≤ length order → IsKept at values' marks (take n order) (length marks) 0 → cut (entries_of at marks order) level' ≡ take n (entries_of at marks order)
    → raw ≡ values' → order' ≡ take n order → capacity ≤ capacity' → taken' ≡ min taken n
    → Keeps at raw marks order' capacity' taken' level' × (entries_of at marks order' ≡ cut (entries_of at marks order) level') × (taken' ≡ min taken (length (cut (entries_of at marks order) level')))
keeps_undone {L} at values values' raw marks order order' capacity capacity' taken taken' n level level' k le ln kept is er eo wide et =
    let size : length (take n order) ≡ n = length-take-le n order ln in
    let short : entries_of at marks (take n order) ≡ take n (entries_of at marks order) = sym (take-map (entry_of at marks) n order) in
    let all = length-map order (entry_of at marks) in
    let P : List L → Type 0 = λ xs. Keeps at values' marks xs capacity' taken' level' in
    let Q : List (Entry L) → Type 0 = λ xs. IsLeveled xs level' in
    let R : List ℕ → Type 0 = λ vs. Keeps at vs marks order' capacity' taken' level' in (
      subst R (sym er) (subst P (sym eo) (record {
        kept = kept_free at values' marks (take n order) (length marks) 0 capacity' taken' kept (omega (arith, k.kept.room, wide)) (omega (arith, et, size));
        leveled = subst Q (sym short) (leveled_cut (entries_of at marks order) level level' n k.leveled le (omega (arith, all, ln)) is);
        few = k.few;
        reasons = k.reasons;
      })),
      ap (entries_of at marks) eo ∙ short ∙ sym is,
      et ∙ ap (min taken) (sym (ap length is ∙ length-take-le n (entries_of at marks order) (omega (arith, all, ln)))),
    )

pub order_now : {L : Type 0} (at : L → ℕ) (marks : List Mark) (xs ys : List L) (entries : List (Entry L)) → entries_of at marks xs ≡ entries → ys ≡ xs → ys ≡ order entries
order_now at marks xs ys entries e is = is ∙ sym (order_is at marks xs) ∙ ap order e

pub waiting_first : {L : Type 0} (at : L → ℕ) (marks : List Mark) (xs : List L) (taken : ℕ) (t : Assignment L) (l : L) → entries_of at marks xs ≡ t.entries → taken ≡ t.taken → taken < length xs → l ≡ get_or xs taken l → Some l ≡ slice_get (order (waiting t)) 0
waiting_first {L} at marks xs taken t l e same lt read =
    let rest : order (drop t.taken t.entries) ≡ drop taken xs = ap (λ n. order (drop n t.entries)) (sym same) ∙ ap (λ es. order (drop taken es)) (sym e) ∙ ap order (drop-map (entry_of at marks) taken xs) ∙ order_is at marks (drop taken xs) in
    ap Some read ∙ ap (λ ys. slice_get ys 0) (sym (rest ∙ drop_more xs taken l lt))

pub waiting_none : {L : Type 0} (at : L → ℕ) (marks : List Mark) (xs : List L) (taken : ℕ) (t : Assignment L) → entries_of at marks xs ≡ t.entries → taken ≡ t.taken → length xs ≤ taken → None ≡ slice_get (order (waiting t)) 0
waiting_none {L} at marks xs taken t e same le =
    let rest : order (drop t.taken t.entries) ≡ drop taken xs = ap (λ n. order (drop n t.entries)) (sym same) ∙ ap (λ es. order (drop taken es)) (sym e) ∙ ap order (drop-map (entry_of at marks) taken xs) ∙ order_is at marks (drop taken xs) in
    ap (λ ys. slice_get ys 0) (sym (rest ∙ drop_all taken xs le))

-- one turn of the loop that clears values
pub kept_turn : {L : Type 0} (at : L → ℕ) (values : List ℕ) (marks : List Mark) (order : List L) (capacity n m p q : ℕ) (l : L) → IsKept at values marks (take n order) capacity 0 → m ≡ n - 1 → 0 < n → n ≤ length order → l ≡ get_or order m l → p ≡ at l → q ≡ negation (at l)
    → IsKept at (set (set values p 0) q 0) marks (take m order) capacity 0
kept_turn {L} at values marks order capacity n m p q l k e some le read same eq =
    let P : ℕ → Type 0 = λ x. IsKept at (set (set values x 0) q 0) marks (take m order) capacity 0 in
    subst P (sym same) (kept_shorter at values marks order capacity n m q l k (omega (arith, e, some)) le read eq)

entry_at : {L : Type 0} (at : L → ℕ) (marks : List Mark) (order : List L) (m v : ℕ) (l : L) (x : Mark) (d : Entry L) → m < length order → l ≡ get_or order m l → v ≡ at l / 2 → v < length marks → x ≡ get_or marks v x → (get_or (entries_of at marks order) m d).level ≡ x.level
entry_at {L} at marks order m v l x d lt read same inside is =
    let here : get_or (entries_of at marks order) m d ≡ entry_of at marks (get_or order m l) = get_or-map (entry_of at marks) order m l d lt in
    ap (λ (e : Entry L). e.level) (here ∙ ap (entry_of at marks) (sym read)) ∙ ap (λ (y : Mark). y.level) (ap (λ j. get_or marks j blank) (sym same) ∙ get_or_default marks v blank x inside ∙ sym is)

pub above_turn : {L : Type 0} (at : L → ℕ) (marks : List Mark) (order : List L) (n m v level : ℕ) (l : L) (x : Mark) → m ≡ n - 1 → 0 < n → n ≤ length order → l ≡ get_or order m l → v ≡ at l / 2 → v < length marks → x ≡ get_or marks v x → level < x.level
    → ((i : ℕ) (d : Entry L) → n ≤ i → i < length order → level < (get_or (entries_of at marks order) i d).level)
    → ((i : ℕ) (d : Entry L) → m ≤ i → i < length order → level < (get_or (entries_of at marks order) i d).level)
above_turn {L} at marks order n m v level l x e some le read same inside is low old i d li lt = elim (cases_eq i m) [
  | inl top ↦ (let here = entry_at at marks order m v l x d (omega (arith, e, some, le)) read same inside is in
      let there = ap (λ j. (get_or (entries_of at marks order) j d).level) top in omega (arith, here, there, low))
  | inr other ↦ old i d (omega (arith, li, other, e, some)) lt
]

pub clear_ends : {L : Type 0} (at : L → ℕ) (marks : List Mark) (order : List L) (n m v level : ℕ) (l : L) (x : Mark) → m ≡ n - 1 → 0 < n → n ≤ length order → l ≡ get_or order m l → v ≡ at l / 2 → v < length marks → x ≡ get_or marks v x → x.level ≤ level
    → ((i : ℕ) (d : Entry L) → n ≤ i → i < length order → level < (get_or (entries_of at marks order) i d).level)
    → ((i j : ℕ) (d : Entry L) → i < j → j < length order → (get_or (entries_of at marks order) i d).level ≤ (get_or (entries_of at marks order) j d).level)
    → cut (entries_of at marks order) level ≡ take n (entries_of at marks order)
clear_ends {L} at marks order n m v level l x e some le read same inside is low above sorted =
    let all = length-map order (entry_of at marks) in
    cut_is (entries_of at marks order) n level (omega (arith, all, le)) (λ i d lt. (let here = entry_at at marks order m v l x d (omega (arith, e, some, le)) read same inside is in
    elim (cases_eq i m) [
      | inl top ↦ (let there = ap (λ j. (get_or (entries_of at marks order) j d).level) top in omega (arith, here, there, low))
      | inr other ↦ (let s = sorted i m d (omega (arith, lt, other, e)) (omega (arith, e, some, le)) in omega (arith, s, here, low))
    ])) (λ i d ln lt. above i d ln (omega (arith, lt, all)))

pub clear_whole : {L : Type 0} (at : L → ℕ) (marks : List Mark) (order : List L) (n level : ℕ) → n ≤ 0
    → ((i : ℕ) (d : Entry L) → n ≤ i → i < length order → level < (get_or (entries_of at marks order) i d).level)
    → cut (entries_of at marks order) level ≡ take n (entries_of at marks order)
clear_whole {L} at marks order n level z above =
    let all = length-map order (entry_of at marks) in
    cut_is (entries_of at marks order) n level (omega (arith, z)) (λ i d lt. absurd (omega (arith, lt, z))) (λ i d ln lt. above i d ln (omega (arith, lt, all)))

pub turn_inside : {L : Type 0} (at : L → ℕ) (values : List ℕ) (marks : List Mark) (order : List L) (capacity n m p : ℕ) (l : L) → IsKept at values marks (take n order) capacity 0 → m ≡ n - 1 → 0 < n → n ≤ length order → l ≡ get_or order m l → p ≡ at l → p / 2 < length marks
turn_inside at values marks order capacity n m p l k e some le read same =
    let size : length (take n order) ≡ n = length-take-le n order le in
    let h = k.inside m l (omega (arith, size, e, some)) in
    let a = ap at (get_or-take n order m l (omega (arith, e, some)) ∙ sym read) in
    omega (arith, h, a, same, k.sizes)

pub undone_all : {L : Type 0} (at : L → ℕ) (t : Assignment L) (values values' raw : List ℕ) (marks ms : List Mark) (order os order' : List L) (capacity capacity' taken taken' n level level' : ℕ) → Keeps at values marks order capacity taken level → (let was : Assignment L = record { entries = entries_of at marks order; level = level; taken = taken; variables = length marks } in was ≡ t) → level' ≤ t.level → ms ≡ marks → os ≡ order
    → n ≤ length os → IsKept at values' ms (take n os) (length ms) 0 → cut (entries_of at ms os) level' ≡ take n (entries_of at ms os)
    → raw ≡ values' → order' ≡ take n order → capacity ≤ capacity' → taken' ≡ min taken n
    → Keeps at raw marks order' capacity' taken' level' × (let seen : Assignment L = record { entries = entries_of at marks order'; level = level'; taken = taken'; variables = length marks } in seen ≡ undone t level')
undone_all {L} at t values values' raw marks ms order os order' capacity capacity' taken taken' n level level' k view le em eo few kept is er eo' wide et =
    let P : List L → Type 0 = λ o. (n ≤ length o) × IsKept at values' ms (take n o) (length ms) 0 × (cut (entries_of at ms o) level' ≡ take n (entries_of at ms o)) in
    let Q : List Mark → Type 0 = λ m. (n ≤ length order) × IsKept at values' m (take n order) (length m) 0 × (cut (entries_of at m order) level' ≡ take n (entries_of at m order)) in
    let all : Q marks = subst Q em (subst P eo (few, kept, is)) in
    let low = ap (λ (x : Assignment L). x.level) view in
    let done = keeps_undone at values values' raw marks order order' capacity capacity' taken taken' n level level' k (omega (arith, le, low)) all.0 all.1 all.2 er eo' wide et in
    (done.0, view_of t (entries_of at marks order') (entries_of at marks order) taken taken' level' (length marks) done.1 done.2 (ap (λ (x : Assignment L). x.entries) view) (ap (λ (x : Assignment L). x.taken) view) (ap (λ (x : Assignment L). x.variables) view))
  where
    view_of : {L : Type 0} (t : Assignment L) (es' es : List (Entry L)) (taken taken' level' variables : ℕ) → es' ≡ cut es level' → taken' ≡ min taken (length (cut es level')) → es ≡ t.entries → taken ≡ t.taken → variables ≡ t.variables → (let seen : Assignment L = record { entries = es'; level = level'; taken = taken'; variables = variables } in seen ≡ undone t level')
    view_of t es' es taken taken' level' variables a b c d e = cc

or_right : (a b : Bool) → b ≡ true → (a || b) ≡ true
or_right true b h = refl
or_right false b h = h

in_places : {L : Type 0} (at : L → ℕ) (es : List (Entry L)) (i : ℕ) (d : Entry L) → i < length es → is_true (places at es) (at (get_or es i d).literal) ≡ true
in_places at [] i d lt = absurd (omega (arith, lt))
in_places at (e ∷ es) zero d lt = ap (λ b. b || is_true (places at es) (at e.literal)) (eq-eqb (at e.literal) (at e.literal) refl)
in_places at (e ∷ es) (suc i) d lt = or_right (at e.literal == at (get_or es i d).literal) (is_true (places at es) (at (get_or es i d).literal)) (in_places at es i d (omega (arith, lt)))

-- a variable that is not assigned has no entry
pub unset_entry : {L : Type 0} (at : L → ℕ) (es : List (Entry L)) (v i : ℕ) (d : Entry L) → value_of (places at es) (2 * v) ≡ None → i < length es → at (get_or es i d).literal / 2 ≡ v → ⊥
unset_entry {L} at es v i d none' lt is =
    let p : ℕ = at (get_or es i d).literal in
    let set : is_true (places at es) p ≡ true = in_places at es i d lt in
    let both = value_none (places at es) (2 * v) none' in
    elim (cases_eq (p % 2) 0) [
      | inl even ↦ (let e : p ≡ 2 * v = omega (arith, even, is) in false≢true (sym both.0 ∙ ap (is_true (places at es)) (sym e) ∙ set))
      | inr odd ↦ (let e : p ≡ 2 * v + 1 = omega (arith, odd, is) in
          let o : negation (2 * v) ≡ 2 * v + 1 = grind (arith, nat_tests) in
          false≢true (sym both.1 ∙ ap (is_true (places at es)) (o ∙ sym e) ∙ set))
    ]

-- what a test for None says of the value
pub unset : (value read : Option Bool) (b : Bool) → read ≡ value → is_some read ≡ not b → b ≡ true → value ≡ None
unset value None b e is h = sym e
unset value (Some x) b e is h = absurd (false≢true (sym (is ∙ ap not h)))

pub not_unset : (value read : Option Bool) (b : Bool) → read ≡ value → value ≡ None → is_some read ≡ not b → b ≡ false → ⊥
not_unset value None b e none' is h = false≢true (is ∙ ap not h)
not_unset value (Some x) b e none' is h = cc

pub empty_is : {L : Type 0} (at : L → ℕ) (t : Assignment L) (variables : ℕ) → t ≡ empty_trail variables → variables ≤ MOST_VARIABLES → IsTrail at t
empty_is {L} at t variables is few =
    let P : Assignment L → Type 0 = λ u. IsTrail at u in
    subst P (sym is) (record {
      inside = λ i d lt. absurd (omega (arith, lt));
      leveled = record { sorted = λ i j d lij lj. absurd (omega (arith, lj)); below = λ i d lt. absurd (omega (arith, lt)); begun = λ k lk. omega (arith, lk) };
      within = omega arith;
      few = few;
      low = omega arith;
      short = omega arith;
      apart = λ i j d lij lj. absurd (omega (arith, lj));
    })
