-- What the tables of a trail keep when a literal becomes true.
use Rattle.std.proofs.Common.{◌≡◌, ◌≢◌, ℕ, suc, ◌+◌, ◌-◌, ◌*◌, ◌/◌, ◌<◌, ◌≤◌, ◌==◌, ◌||◌, Bool, true, false, cond, List, [], ◌∷◌, ◌++◌, length, map, get_or, set, Option, None, Some, refl, sym, ◌∙◌, ap, subst, arith, inl, inr, ◌⊎◌, eq-eqb, eqb}
use Rattle.std.specs.List.{list_any, IsDistinct}
use Rattle.std.proofs.lemmas.List.{map-append, length-set, length-append, length-map, get_or-set_same, get_or-set_other, get_or-map, get_or_append_left, get_or-append_right, get_or_default}
use Rattle.std.proofs.lemmas.List.Elements.{All-push, recursion_from_All, Contains-get_or}
use Rattle.std.proofs.lemmas.Map.Steps.{length-le_from_distinct_below}
use Rattle.std.proofs.lemmas.List.Folds.{list_any-append}
use Rattle.std.proofs.lemmas.Bool.{cases_eq, cases_lt, false≢true}
use Rattle.std.proofs.lemmas.Bool.Decides.{eqb_tells}
use Rattle.literals_core.specs.Literal.{variable_of, negation}
use Rattle.literals_core.specs.Truth.{is_true, is_false}
use Rattle.literals_core.proofs.Negation.{negation_twice, negation_differs, same_variable}
use Rattle.literals_core.proofs.Truth.{true_tested}
use Rattle.watch_core.specs.Trail.{Entry, Assignment, places, value_of, entered}
use Rattle.watch_core.specs.Kept.{blank, reason_of, entry_of, entries_of, IsKept}
use Rattle.watch_core.specs.declared.trail.Mark.{Mark}

-- the places of a trail's entries are those of its order
pub places_are : {L : Type 0} (at : L → ℕ) (marks : List Mark) (order : List L) → places at (entries_of at marks order) ≡ map at order
places_are at marks [] = refl
places_are at marks (l ∷ order) = ap (λ xs. at l ∷ xs) (places_are at marks order)

pub read_true : (set : List ℕ) (values : List ℕ) (x v : ℕ) → (get_or values x 0 == 1) ≡ is_true set x → v ≡ get_or values x 0 → v ≡ 1 → Some true ≡ value_of set x
read_true set values x v trues e one =
    let t : is_true set x ≡ true = sym trues ∙ eq-eqb (get_or values x 0) 1 (sym e ∙ one) in
    ap (λ b. cond b (Some true) (cond (is_false set x) (Some false) None)) (sym t)

pub not_eqb : (a b : ℕ) → a ≢ b → (a == b) ≡ false
not_eqb a b h = elim (eqb_tells a b) [ inl same ↦ absurd (h same.1) | inr other ↦ other.0 ]

pub read_false : (set : List ℕ) (values : List ℕ) (x v : ℕ) → (get_or values x 0 == 1) ≡ is_true set x → (get_or values x 0 == 2) ≡ is_false set x → v ≡ get_or values x 0 → v ≡ 2 → Some false ≡ value_of set x
read_false set values x v trues falses e two =
    let t : is_true set x ≡ false = sym trues ∙ not_eqb (get_or values x 0) 1 (λ h. omega (arith, h, e, two)) in
    let f : is_false set x ≡ true = sym falses ∙ eq-eqb (get_or values x 0) 2 (sym e ∙ two) in
    ap (λ b. cond b (Some false) None) (sym f) ∙ ap (λ b. cond b (Some true) (cond (is_false set x) (Some false) None)) (sym t)

pub read_none : (set : List ℕ) (values : List ℕ) (x v : ℕ) → (get_or values x 0 == 1) ≡ is_true set x → (get_or values x 0 == 2) ≡ is_false set x → v ≡ get_or values x 0 → v ≢ 1 → v ≢ 2 → None ≡ value_of set x
read_none set values x v trues falses e one two =
    let t : is_true set x ≡ false = sym trues ∙ not_eqb (get_or values x 0) 1 (λ h. one (e ∙ h)) in
    let f : is_false set x ≡ false = sym falses ∙ not_eqb (get_or values x 0) 2 (λ h. two (e ∙ h)) in
    ap (λ b. cond b (Some false) None) (sym f) ∙ ap (λ b. cond b (Some true) (cond (is_false set x) (Some false) None)) (sym t)

half_of : (a v : ℕ) → (a ≡ 2 * v) ⊎ (a ≡ 2 * v + 1) → variable_of a ≡ v
half_of a v p = elim p [ inl plus ↦ omega (arith, plus) | inr minus ↦ omega (arith, minus) ]

-- by its laws, the negation of a literal stands at the other place of its variable
pub negation_is : (a b v w : ℕ) → (a ≡ 2 * v) ⊎ (a ≡ 2 * v + 1) → (b ≡ 2 * w) ⊎ (b ≡ 2 * w + 1) → w ≡ v → b ≢ a → b ≡ negation a
negation_is a b v w pa pb same ne = elim (same_variable b a (half_of b w pb ∙ same ∙ sym (half_of a v pa))) [ inl equal ↦ absurd (ne equal) | inr other ↦ other ]

pub value_none : (set : List ℕ) (x : ℕ) → value_of set x ≡ None → (is_true set x ≡ false) × (is_false set x ≡ false)
value_none set x h = cases (is_true set x) (is_false set x) h where
  cases : (t f : Bool) → cond t (Some true) (cond f (Some false) None) ≡ None → (t ≡ false) × (f ≡ false)
  cases true f h = cc
  cases false true h = cc
  cases false false h = (refl, refl)

pub member_true : (xs : List ℕ) (i : ℕ) (d : ℕ) → i < length xs → is_true xs (get_or xs i d) ≡ true
member_true xs i d lt = true_tested xs (get_or xs i d) (Contains-get_or xs i d lt)

pub more_true : (xs : List ℕ) (p x : ℕ) → is_true (xs ++ p ∷ []) x ≡ (is_true xs x || ((p == x) || false))
more_true xs p x = list_any-append (λ y. y == x) xs (p ∷ [])

pub or_true : (a : Bool) → (a || (true || false)) ≡ true
or_true true = refl
or_true false = refl

pub or_none : (a : Bool) → (a || (false || false)) ≡ a
or_none true = refl
or_none false = refl

pub kept_assign : {L : Type 0} (at : L → ℕ) (values : List ℕ) (marks : List Mark) (order : List L) (capacity capacity' taken q : ℕ) (l : L) (m : Mark) → IsKept at values marks order capacity taken → at l < length values → q ≡ negation (at l) → value_of (map at order) (at l) ≡ None → capacity ≤ capacity'
    → IsKept at (set (set values (at l) 1) q 2) (set marks (at l / 2) m) (order ++ l ∷ []) capacity' taken
kept_assign {L} at values marks order capacity capacity' taken q l m k lt eq free wide =
    let p : ℕ = at l in
    let xs : List ℕ = map at order in
    let ys : List ℕ = map at (order ++ l ∷ []) in
    let values' : List ℕ = set (set values p 1) q 2 in
    let grown : ys ≡ xs ++ p ∷ [] = map-append at order (l ∷ []) in
    let out = value_none xs p free in
    let size : length values' ≡ length values = simp length-set in
    let qne : q ≢ p = λ e. negation_differs p (sym eq ∙ e) in
    record {
      sizes = simp length-set k.sizes;
      inside = λ i d h. (let old = All-push (λ x. at x < length values) order l k.inside lt i d h in omega (arith, old, size));
      apart = λ i j d lij h. elim (cases_lt j (length order)) [
        | inl old ↦ (let a = get_or_append_left order (l ∷ []) d i (omega (arith, lij, old)) in let b = get_or_append_left order (l ∷ []) d j old in
            λ e. k.apart i j d lij old (sym (ap (λ x. at x / 2) a) ∙ e ∙ ap (λ x. at x / 2) b))
        | inr new ↦ (let top : j ≡ length order = omega (arith, new, h, length-append order (l ∷ [])) in
            let li : i < length order = omega (arith, lij, top) in
            let a = get_or_append_left order (l ∷ []) d i li in
            let b : get_or (order ++ l ∷ []) j d ≡ l = get_or-append_right order (l ∷ []) (length order) j d refl new ∙ ap (λ n. get_or (l ∷ []) n d) (let z : j - length order ≡ 0 = omega (arith, top) in z) in
            let y : ℕ = at (get_or order i d) in
            let is : get_or xs i (at d) ≡ y = get_or-map at order i d (at d) li in
            let has : is_true xs y ≡ true = ap (is_true xs) (sym is) ∙ member_true xs i (at d) (simp length-map li) in
            λ e. elim (same_variable y p (sym (ap (λ x. at x / 2) a) ∙ e ∙ ap (λ x. at x / 2) b)) [
              | inl same ↦ false≢true (sym out.0 ∙ ap (is_true xs) (sym same) ∙ has)
              | inr other ↦ false≢true (sym out.1 ∙ ap (is_true xs) (sym other) ∙ has)
            ])
      ];
      trues = λ x h. (let hx : x < length values = omega (arith, h, size) in
          elim (cases_eq x q) [
            | inl isq ↦ (let v : get_or values' x 0 ≡ 2 = ap (λ j. get_or values' j 0) isq ∙ get_or-set_same (set values p 1) q 2 0 (simp length-set (omega (arith, isq, hx))) in
                let no : is_true xs x ≡ false = ap (is_true xs) (isq ∙ eq) ∙ out.1 in
                let ne : (p == x) ≡ false = not_eqb p x (λ e. qne (sym isq ∙ sym e)) in
                ap (λ n. n == 1) v ∙ sym (ap (λ s. is_true s x) grown ∙ more_true xs p x ∙ ap (λ b. is_true xs x || (b || false)) ne ∙ or_none (is_true xs x) ∙ no))
            | inr notq ↦ (let v1 : get_or values' x 0 ≡ get_or (set values p 1) x 0 = get_or-set_other (set values p 1) q x 2 0 notq in
                elim (cases_eq x p) [
                  | inl isp ↦ (let v : get_or (set values p 1) x 0 ≡ 1 = ap (λ j. get_or (set values p 1) j 0) isp ∙ get_or-set_same values p 1 0 lt in
                      ap (λ n. n == 1) (v1 ∙ v) ∙ sym (ap (λ s. is_true s x) grown ∙ more_true xs p x ∙ ap (λ b. is_true xs x || (b || false)) (eq-eqb p x (sym isp)) ∙ or_true (is_true xs x)))
                  | inr notp ↦ (let v : get_or (set values p 1) x 0 ≡ get_or values x 0 = get_or-set_other values p x 1 0 notp in
                      ap (λ n. n == 1) (v1 ∙ v) ∙ k.trues x hx ∙ sym (ap (λ s. is_true s x) grown ∙ more_true xs p x ∙ ap (λ b. is_true xs x || (b || false)) (not_eqb p x (λ e. notp (sym e))) ∙ or_none (is_true xs x)))
                ])
          ]);
      falses = λ x h. (let hx : x < length values = omega (arith, h, size) in
          let ox : ℕ = negation x in
          elim (cases_eq x q) [
            | inl isq ↦ (let v : get_or values' x 0 ≡ 2 = ap (λ j. get_or values' j 0) isq ∙ get_or-set_same (set values p 1) q 2 0 (simp length-set (omega (arith, isq, hx))) in
                let back : p ≡ ox = sym (ap negation (isq ∙ eq) ∙ negation_twice p) in
                ap (λ n. n == 2) v ∙ sym (ap (λ s. is_true s ox) grown ∙ more_true xs p ox ∙ ap (λ b. is_true xs ox || (b || false)) (eq-eqb p ox back) ∙ or_true (is_true xs ox)))
            | inr notq ↦ (let v1 : get_or values' x 0 ≡ get_or (set values p 1) x 0 = get_or-set_other (set values p 1) q x 2 0 notq in
                let ne : (p == ox) ≡ false = not_eqb p ox (λ e. notq (sym (negation_twice x) ∙ sym (ap negation e) ∙ sym eq)) in
                elim (cases_eq x p) [
                  | inl isp ↦ (let v : get_or (set values p 1) x 0 ≡ 1 = ap (λ j. get_or (set values p 1) j 0) isp ∙ get_or-set_same values p 1 0 lt in
                      let no : is_true xs ox ≡ false = ap (is_false xs) isp ∙ out.1 in
                      ap (λ n. n == 2) (v1 ∙ v) ∙ sym (ap (λ s. is_true s ox) grown ∙ more_true xs p ox ∙ ap (λ b. is_true xs ox || (b || false)) ne ∙ or_none (is_true xs ox) ∙ no))
                  | inr notp ↦ (let v : get_or (set values p 1) x 0 ≡ get_or values x 0 = get_or-set_other values p x 1 0 notp in
                      ap (λ n. n == 2) (v1 ∙ v) ∙ k.falses x hx ∙ sym (ap (λ s. is_true s ox) grown ∙ more_true xs p ox ∙ ap (λ b. is_true xs ox || (b || false)) ne ∙ or_none (is_true xs ox)))
                ])
          ]);
      room = simp length-set (omega (arith, k.room, wide));
      within = (let more = length-append order (l ∷ []) in omega (arith, k.within, more));
    }

pub distinct_from : (xs : List ℕ) → ((i j : ℕ) → i < j → j < length xs → get_or xs i 0 ≢ get_or xs j 0) → IsDistinct eqb xs
unfolding IsDistinct
distinct_from [] h = tt
distinct_from (x ∷ xs) h = (
  recursion_from_All (λ y. eqb x y ≡ false) xs (λ k d lt.
      let apart : x ≢ get_or xs k 0 = h 0 (suc k) (omega arith) (omega (arith, lt)) in
      elim (eqb_tells x (get_or xs k d)) [ inl same ↦ absurd (apart (same.1 ∙ get_or_default xs k d 0 lt)) | inr other ↦ other.0 ]),
  distinct_from xs (λ i j lt le. h (suc i) (suc j) (omega (arith, lt)) (omega (arith, le))),
)

pub below_any : (xs : List ℕ) (n q : ℕ) → ((i : ℕ) → i < length xs → get_or xs i 0 < n) → list_any (eqb q) xs ≡ true → q < n
below_any [] n q within some = absurd (false≢true some)
below_any (x ∷ xs) n q within some =
    elim (eqb_tells q x) [
      | inl same ↦ (let lt : x < n = within 0 (omega arith) in omega (arith, lt, same.1))
      | inr other ↦ below_any xs n q (λ i lt. within (suc i) (omega (arith, lt))) (sym (ap (λ b. b || list_any (eqb q) xs) other.0) ∙ some)
    ]

-- no more literals are true than there are variables
pub order_short : {L : Type 0} (at : L → ℕ) (values : List ℕ) (marks : List Mark) (order : List L) (capacity taken : ℕ) (d : L) → IsKept at values marks order capacity taken → length order ≤ length marks
order_short at values marks order capacity taken d k =
    let xs : List ℕ = map (λ l. at l / 2) order in
    let size : length xs ≡ length order = length-map order (λ l. at l / 2) in
    let read : (i : ℕ) → i < length xs → get_or xs i 0 ≡ at (get_or order i d) / 2 = λ i h. get_or-map (λ l. at l / 2) order i d 0 (omega (arith, h, size)) in
    let short : length xs ≤ length marks = length-le_from_distinct_below xs (length marks)
    (distinct_from xs (λ i j lij lj e. k.apart i j d lij (omega (arith, lj, size)) (sym (read i (omega (arith, lij, lj))) ∙ e ∙ read j lj)))
    (λ q. below_any xs (length marks) q (λ i h. (let a = k.inside i d (omega (arith, h, size)) in let r = read i h in omega (arith, a, r, k.sizes)))) in
    omega (arith, short, size)

-- the mark of another variable changes no entry
same_entries : {L : Type 0} (at : L → ℕ) (marks : List Mark) (order : List L) (p : ℕ) (m : Mark) → ((i : ℕ) (d : L) → i < length order → at (get_or order i d) / 2 ≢ p / 2) → entries_of at (set marks (p / 2) m) order ≡ entries_of at marks order
same_entries at marks [] p m apart = refl
same_entries at marks (l ∷ order) p m apart =
    let here : get_or (set marks (p / 2) m) (at l / 2) blank ≡ get_or marks (at l / 2) blank = get_or-set_other marks (p / 2) (at l / 2) m blank (apart 0 l (omega arith)) in
    let rest = same_entries at marks order p m (λ i d h. apart (suc i) d (omega (arith, h))) in
    ap (λ (x : Mark). record { literal = l; level = x.level; reason = reason_of x.reason } ∷ entries_of at (set marks (p / 2) m) order) here
    ∙ ap (λ es. entry_of at marks l ∷ es) rest

-- the entries after one more literal
pub entries_more : {L : Type 0} (at : L → ℕ) (values : List ℕ) (marks : List Mark) (order : List L) (capacity taken : ℕ) (l : L) (m : Mark) → IsKept at values marks order capacity taken → at l < length values → value_of (map at order) (at l) ≡ None
    → entries_of at (set marks (at l / 2) m) (order ++ l ∷ []) ≡ entries_of at marks order ++ record { literal = l; level = m.level; reason = reason_of m.reason } ∷ []
entries_more {L} at values marks order capacity taken l m k lt free =
    let out = value_none (map at order) (at l) free in
    let inside : at l / 2 < length marks = omega (arith, lt, k.sizes) in
    let last : get_or (set marks (at l / 2) m) (at l / 2) blank ≡ m = get_or-set_same marks (at l / 2) m blank inside in
    map-append (entry_of at (set marks (at l / 2) m)) order (l ∷ []) ∙ ap (λ e. entries_of at (set marks (at l / 2) m) order ++ e ∷ []) (ap (λ (x : Mark). record { literal = l; level = x.level; reason = reason_of x.reason }) last)
    ∙ ap (λ es. es ++ record { literal = l; level = m.level; reason = reason_of m.reason } ∷ []) (same_entries at marks order (at l) m (λ i d h e.
    let y : ℕ = at (get_or order i d) in
    let is : get_or (map at order) i (at d) ≡ y = get_or-map at order i d (at d) h in
    let has : is_true (map at order) y ≡ true = ap (is_true (map at order)) (sym is) ∙ member_true (map at order) i (at d) (simp length-map h) in
    elim (same_variable y (at l) e) [
      | inl same ↦ false≢true (sym out.0 ∙ ap (is_true (map at order)) (sym same) ∙ has)
      | inr other ↦ false≢true (sym out.1 ∙ ap (is_true (map at order)) (sym other) ∙ has)
    ]))

pub course_set : {L : Type 0} (at : L → ℕ) (marks : List Mark) (order : List L) (entries : List (Entry L)) → entries_of at marks order ≡ entries → map at order ≡ places at entries
course_set at marks order entries e = sym (places_are at marks order) ∙ ap (places at) e

pub value_true : {L : Type 0} (at : L → ℕ) (values : List ℕ) (marks : List Mark) (order : List L) (capacity taken place p v n : ℕ) (entries : List (Entry L)) → IsKept at values marks order capacity taken → entries_of at marks order ≡ entries → length marks ≡ n → place ≡ p → p < 2 * n → v ≡ get_or values place v → v ≡ 1 → Some true ≡ value_of (places at entries) p
value_true at values marks order capacity taken place p v n entries k e size same lt read one =
    let inside : p < length values = omega (arith, lt, size, k.sizes) in
    let r : v ≡ get_or values p 0 = read ∙ ap (λ j. get_or values j v) same ∙ get_or_default values p v 0 inside in
    read_true (map at order) values p v (k.trues p inside) r one ∙ ap (λ s. value_of s p) (course_set at marks order entries e)

pub value_false : {L : Type 0} (at : L → ℕ) (values : List ℕ) (marks : List Mark) (order : List L) (capacity taken place p v n : ℕ) (entries : List (Entry L)) → IsKept at values marks order capacity taken → entries_of at marks order ≡ entries → length marks ≡ n → place ≡ p → p < 2 * n → v ≡ get_or values place v → v ≡ 2 → Some false ≡ value_of (places at entries) p
value_false at values marks order capacity taken place p v n entries k e size same lt read two =
    let inside : p < length values = omega (arith, lt, size, k.sizes) in
    let r : v ≡ get_or values p 0 = read ∙ ap (λ j. get_or values j v) same ∙ get_or_default values p v 0 inside in
    read_false (map at order) values p v (k.trues p inside) (k.falses p inside) r two ∙ ap (λ s. value_of s p) (course_set at marks order entries e)

pub value_unset : {L : Type 0} (at : L → ℕ) (values : List ℕ) (marks : List Mark) (order : List L) (capacity taken place p v n : ℕ) (entries : List (Entry L)) → IsKept at values marks order capacity taken → entries_of at marks order ≡ entries → length marks ≡ n → place ≡ p → p < 2 * n → v ≡ get_or values place v → v ≢ 1 → v ≢ 2 → None ≡ value_of (places at entries) p
value_unset at values marks order capacity taken place p v n entries k e size same lt read one two =
    let inside : p < length values = omega (arith, lt, size, k.sizes) in
    let r : v ≡ get_or values p 0 = read ∙ ap (λ j. get_or values j v) same ∙ get_or_default values p v 0 inside in
    read_none (map at order) values p v (k.trues p inside) (k.falses p inside) r one two ∙ ap (λ s. value_of s p) (course_set at marks order entries e)

-- what `assign` leaves, as its body meets it
pub course_assigned : {L : Type 0} (at : L → ℕ) (values : List ℕ) (marks : List Mark) (order order' : List L) (capacity capacity' taken place q n : ℕ) (l : L) (m : Mark) (entries : List (Entry L)) → IsKept at values marks order capacity taken → entries_of at marks order ≡ entries → length marks ≡ n → place ≡ at l → at l < 2 * n → q ≡ negation (at l)
    → value_of (places at entries) (at l) ≡ None → order' ≡ order ++ l ∷ [] → capacity ≤ capacity'
    → IsKept at (set (set values place 1) q 2) (set marks (place / 2) m) order' capacity' taken × (entries_of at (set marks (place / 2) m) order' ≡ entries ++ record { literal = l; level = m.level; reason = reason_of m.reason } ∷ [])
course_assigned {L} at values marks order order' capacity capacity' taken place q n l m entries k e size same lt eq free grown wide =
    let inside : at l < length values = omega (arith, lt, size, k.sizes) in
    let open' : value_of (map at order) (at l) ≡ None = ap (λ s. value_of s (at l)) (course_set at marks order entries e) ∙ free in
    let P : ℕ → Type 0 = λ x. IsKept at (set (set values x 1) q 2) (set marks (x / 2) m) (order ++ l ∷ []) capacity' taken in
    let Q : List L → Type 0 = λ o. IsKept at (set (set values place 1) q 2) (set marks (place / 2) m) o capacity' taken in (
      subst Q (sym grown) (subst P (sym same) (kept_assign at values marks order capacity capacity' taken q l m k inside eq open' wide)),
      ap (entries_of at (set marks (place / 2) m)) grown ∙ ap (λ x. entries_of at (set marks (x / 2) m) (order ++ l ∷ [])) same ∙ entries_more at values marks order capacity taken l m k inside open' ∙ ap (λ es. es ++ record { literal = l; level = m.level; reason = reason_of m.reason } ∷ []) e,
    )

-- there is room for one more literal
pub course_room : {L : Type 0} (at : L → ℕ) (values : List ℕ) (marks : List Mark) (order : List L) (capacity taken n : ℕ) (l : L) (entries : List (Entry L)) → IsKept at values marks order capacity taken → entries_of at marks order ≡ entries → length marks ≡ n → at l < 2 * n → value_of (places at entries) (at l) ≡ None → length order < capacity
course_room at values marks order capacity taken n l entries k e size lt free =
    let inside : at l < length values = omega (arith, lt, size, k.sizes) in
    let open' : value_of (map at order) (at l) ≡ None = ap (λ s. value_of s (at l)) (course_set at marks order entries e) ∙ free in
    let more = kept_assign at values marks order capacity capacity taken (negation (at l)) l blank k inside refl open' (omega arith) in
    let short = order_short at (set (set values (at l) 1) (negation (at l)) 2) (set marks (at l / 2) blank) (order ++ l ∷ []) capacity taken l more in
    let grown : length (order ++ l ∷ []) ≡ length order + 1 = length-append order (l ∷ []) in
    let same : length (set marks (at l / 2) blank) ≡ length marks = length-set marks (at l / 2) blank in
    omega (arith, short, grown, same, k.room)

pub entered_view : {L : Type 0} (t : Assignment L) (entries : List (Entry L)) (level taken variables : ℕ) (l : L) (r : Option ℕ) → entries ≡ t.entries ++ record { literal = l; level = level; reason = r } ∷ [] → taken ≡ t.taken → variables ≡ t.variables
    → (let seen : Assignment L = record { entries = entries; level = level; taken = taken; variables = variables } in seen ≡ entered t l level r)
entered_view t entries level taken variables l r e1 e3 e4 = cc

pub value_is_false : {L : Type 0} (at : L → ℕ) (values : List ℕ) (marks : List Mark) (order : List L) (capacity taken place p v n : ℕ) (entries : List (Entry L)) → IsKept at values marks order capacity taken → entries_of at marks order ≡ entries → length marks ≡ n → place ≡ p → p < 2 * n → v ≡ get_or values place v → (v == 2) ≡ is_false (places at entries) p
value_is_false at values marks order capacity taken place p v n entries k e size same lt read =
    let inside : p < length values = omega (arith, lt, size, k.sizes) in
    let r : v ≡ get_or values p 0 = read ∙ ap (λ j. get_or values j v) same ∙ get_or_default values p v 0 inside in
    ap (λ x. x == 2) r ∙ k.falses p inside ∙ ap (λ s. is_false s p) (course_set at marks order entries e)

pub value_is_true : {L : Type 0} (at : L → ℕ) (values : List ℕ) (marks : List Mark) (order : List L) (capacity taken place p v n : ℕ) (entries : List (Entry L)) → IsKept at values marks order capacity taken → entries_of at marks order ≡ entries → length marks ≡ n → place ≡ p → p < 2 * n → v ≡ get_or values place v → (v == 1) ≡ is_true (places at entries) p
value_is_true at values marks order capacity taken place p v n entries k e size same lt read =
    let inside : p < length values = omega (arith, lt, size, k.sizes) in
    let r : v ≡ get_or values p 0 = read ∙ ap (λ j. get_or values j v) same ∙ get_or_default values p v 0 inside in
    ap (λ x. x == 1) r ∙ k.trues p inside ∙ ap (λ s. is_true s p) (course_set at marks order entries e)
