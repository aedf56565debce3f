-- What a push and a swap leave of rows.
use Rattle.std.proofs.Common.{◌≡◌, ℕ, ◌+◌, ◌-◌, ◌<◌, ◌≤◌, List, [], ◌∷◌, ◌++◌, subst, length, get_or, set, swap, take, drop, refl, sym, ◌∙◌, ap, arith, inl, inr, ◌⊎◌}
use Rattle.std.specs.List.{All}
use Rattle.std.proofs.lemmas.List.{take-append-le, drop-append-le, length-drop, map-append, get_or-map, length-map, length-set, drop-set-add, drop-set-lt, take-set-le, get_or-set_same, get_or-set_other, ext_get_or, set-set, drop_at, take_all, get_or-drop, get_or-take, length-take-le}
use Rattle.std.proofs.lemmas.List.Elements.{All-head, All-tail, All-get_or}
use Rattle.std.proofs.lemmas.List.Edits.{swap_is}
use Rattle.std.proofs.lemmas.Bool.{cases_eq, cases_lt}
use Rattle.std.proofs.Math.Seq.{take-set-lt}
use Rattle.rows_core.specs.Rows.{row_at, rows_of, InOrder}
use Rattle.rows_core.specs.declared.Span.{Span}

row_at-append : {T : Type 0} (items more : List T) (s : Span) → (s.start ≤ s.end) × (s.end ≤ length items) → row_at (items ++ more) s ≡ row_at items s
row_at-append items more s h =
    let begins : s.start ≤ length items = omega arith in
    let fits : s.end - s.start ≤ length (drop s.start items) = simp length-drop (omega arith) in
    ap (take (s.end - s.start)) (drop-append-le s.start items more begins) ∙ take-append-le (s.end - s.start) (drop s.start items) more fits

-- the rows that stand do not change when items are appended
rows_of-append : {T : Type 0} (items more : List T) (spans : List Span) → All (λ s. (s.start ≤ s.end) × (s.end ≤ length items)) spans → rows_of (items ++ more) spans ≡ rows_of items spans
rows_of-append items more [] h = refl
rows_of-append items more (s ∷ spans) h =
    let head = row_at-append items more s (All-head (λ s. (s.start ≤ s.end) × (s.end ≤ length items)) s spans h) in
    let tail = rows_of-append items more spans (All-tail (λ s. (s.start ≤ s.end) × (s.end ≤ length items)) s spans h) in
    cc

row_at-new : {T : Type 0} (items row : List T) (s : Span) → s.start ≡ length items → s.end ≡ length items + length row → row_at (items ++ row) s ≡ row
row_at-new items row s a b =
    let n : s.end - s.start ≡ length row = omega arith in
    ap (take (s.end - s.start)) (drop_at items row s.start (sym a)) ∙ take_all (s.end - s.start) row (omega arith)

pub rows_of-push : {T : Type 0} (items row all : List T) (spans grown : List Span) (s : Span) → InOrder items spans → all ≡ items ++ row → grown ≡ spans ++ s ∷ [] → s.start ≡ length items → s.end ≡ length items + length row → rows_of all grown ≡ rows_of items spans ++ row ∷ []
rows_of-push items row all spans grown s ordered a g b e =
    let old = rows_of-append items row spans ordered.inside in
    let new = row_at-new items row s b e in
    rw (a, g, map-append) (ap (λ rs. rs ++ row_at (items ++ row) s ∷ []) old ∙ ap (λ r. rows_of items spans ++ r ∷ []) new)

-- a write inside a row
row_at-set_in : {T : Type 0} (items : List T) (s : Span) (i j : ℕ) (v : T) → j ≡ s.start + i → i < s.end - s.start → row_at (set items j v) s ≡ set (row_at items s) i v
row_at-set_in items s i j v e h =
    ap (λ n. row_at (set items n v) s) e ∙ ap (take (s.end - s.start)) (drop-set-add s.start items i v) ∙ take-set-lt (s.end - s.start) (drop s.start items) i v h

-- a write outside a row
row_at-set_out : {T : Type 0} (items : List T) (s : Span) (j : ℕ) (v : T) → s.start ≤ s.end → (j < s.start) ⊎ (s.end ≤ j) → row_at (set items j v) s ≡ row_at items s
row_at-set_out items s j v le (inl below) = ap (take (s.end - s.start)) (drop-set-lt s.start items j v below)
row_at-set_out items s j v le (inr above) =
    let e : j ≡ s.start + (j - s.start) = omega arith in
    ap (λ n. row_at (set items n v) s) e ∙ ap (take (s.end - s.start)) (drop-set-add s.start items (j - s.start) v) ∙ take-set-le (s.end - s.start) (drop s.start items) (j - s.start) v (omega arith)

row_of_rows : {T : Type 0} (items : List T) (spans : List Span) (k : ℕ) (d : Span) → k < length spans → get_or (rows_of items spans) k [] ≡ row_at items (get_or spans k d)
row_of_rows items spans k d h = get_or-map (λ s. row_at items s) spans k d [] h

-- a place inside a row is in no other
apart_from : {T : Type 0} (items : List T) (spans : List Span) (k n i j : ℕ) (d : Span) → InOrder items spans → k < length spans → n < length spans → (n ≡ k → ⊥) → j ≡ (get_or spans k d).start + i → i < (get_or spans k d).end - (get_or spans k d).start
    → (j < (get_or spans n d).start) ⊎ ((get_or spans n d).end ≤ j)
apart_from items spans k n i j d ordered hk hn other e hi =
    elim (cases_lt n k) [
      | inl before ↦ (let a : (get_or spans n d).end ≤ (get_or spans k d).start = ordered.apart n k d before hk in inr (omega arith))
      | inr after ↦ (let lt : k < n = omega arith in let a : (get_or spans k d).end ≤ (get_or spans n d).start = ordered.apart k n d lt hn in inl (omega arith))
    ]

-- a write inside a row changes that row alone
pub rows_of-set : {T : Type 0} (items : List T) (spans : List Span) (k i j : ℕ) (v : T) (d : Span) → InOrder items spans → k < length spans → j ≡ (get_or spans k d).start + i → i < (get_or spans k d).end - (get_or spans k d).start
    → rows_of (set items j v) spans ≡ set (rows_of items spans) k (set (get_or (rows_of items spans) k []) i v)
rows_of-set items spans k i j v d ordered hk e hi =
    let P : Span → Type 0 = λ s. (s.start ≤ s.end) × (s.end ≤ length items) in
    let sizes : length (rows_of (set items j v) spans) ≡ length (set (rows_of items spans) k (set (get_or (rows_of items spans) k []) i v)) = simp (length-map, length-set) in
    ext_get_or [] _ _ sizes (λ n h.
    let hn : n < length spans = simp length-map at h in
    let mine : P (get_or spans n d) = All-get_or P spans n d hn ordered.inside in
    let here : P (get_or spans k d) = All-get_or P spans k d hk ordered.inside in
    let left = row_of_rows (set items j v) spans n d hn in
    let old = row_of_rows items spans n d hn in
    elim (cases_eq n k) [
      | inl same ↦
          (let inside = row_at-set_in items (get_or spans k d) i j v e hi in
          let row = row_of_rows items spans k d hk in
          let size : k < length (rows_of items spans) = simp length-map hk in
          let right = get_or-set_same (rows_of items spans) k (set (get_or (rows_of items spans) k []) i v) [] size in
          cc)
      | inr other ↦
          (let away : (j < (get_or spans n d).start) ⊎ ((get_or spans n d).end ≤ j) = apart_from items spans k n i j d ordered hk hn other e hi in
          let outside = row_at-set_out items (get_or spans n d) j v mine.0 away in
          let right = get_or-set_other (rows_of items spans) k n (set (get_or (rows_of items spans) k []) i v) [] other in
          cc)
    ])

InOrder-set : {T : Type 0} (items : List T) (spans : List Span) (j : ℕ) (v : T) → InOrder items spans → InOrder (set items j v) spans
InOrder-set items spans j v ordered = record {
  inside = λ k d h. let was = ordered.inside k d h in (was.0, simp length-set was.1);
  apart = ordered.apart;
}

-- an item of a row among the items
item_of_row : {T : Type 0} (items : List T) (s : Span) (i : ℕ) (e : T) → i < s.end - s.start → get_or (row_at items s) i e ≡ get_or items (s.start + i) e
item_of_row items s i e h = get_or-take (s.end - s.start) (drop s.start items) i e h ∙ get_or-drop s.start items i e

length-row : {T : Type 0} (items : List T) (s : Span) → (s.start ≤ s.end) × (s.end ≤ length items) → length (row_at items s) ≡ s.end - s.start
length-row items s h = let n : s.end - s.start ≤ length (drop s.start items) = simp length-drop (omega arith) in length-take-le (s.end - s.start) (drop s.start items) n

swap_with : {T : Type 0} (items : List T) (spans : List Span) (k i j : ℕ) (d : Span) (e : T) → InOrder items spans → k < length spans → i < length (get_or (rows_of items spans) k []) → j < length (get_or (rows_of items spans) k [])
    → rows_of (swap items ((get_or spans k d).start + i) ((get_or spans k d).start + j)) spans ≡ set (rows_of items spans) k (swap (get_or (rows_of items spans) k []) i j)
swap_with {T} items spans k i j d e ordered hk hi hj =
    let s : Span = get_or spans k d in
    let P : Span → Type 0 = λ s. (s.start ≤ s.end) × (s.end ≤ length items) in
    let here : P s = All-get_or P spans k d hk ordered.inside in
    let rows : List (List T) = rows_of items spans in
    let row : List T = get_or rows k [] in
    let is : row ≡ row_at items s = row_of_rows items spans k d hk in
    let size : length row ≡ s.end - s.start = ap length is ∙ length-row items s here in
    let ri : i < s.end - s.start = rw (sym size) hi in
    let rj : j < s.end - s.start = rw (sym size) hj in
    let a : ℕ = s.start + i in
    let b : ℕ = s.start + j in
    let v : T = get_or items b e in
    let w : T = get_or items a e in
    let va : v ≡ get_or row j e = sym (ap (λ r. get_or r j e) is ∙ item_of_row items s j e rj) in
    let wa : w ≡ get_or row i e = sym (ap (λ r. get_or r i e) is ∙ item_of_row items s i e ri) in
    let la : a < length items = omega (arith, here.0, here.1, ri) in
    let lb : b < length items = omega (arith, here.0, here.1, rj) in
    let first : rows_of (set items a v) spans ≡ set rows k (set row i v) = rows_of-set items spans k i a v d ordered hk refl ri in
    let second : rows_of (set (set items a v) b w) spans ≡ set (rows_of (set items a v) spans) k (set (get_or (rows_of (set items a v) spans) k []) j w) =
    rows_of-set (set items a v) spans k j b w d (InOrder-set items spans a v ordered) hk refl rj in
    let inside : k < length rows = simp length-map hk in
    let read : get_or (set rows k (set row i v)) k [] ≡ set row i v = get_or-set_same rows k (set row i v) [] inside in
    let twice : set (set rows k (set row i v)) k (set (set row i v) j w) ≡ set rows k (set (set row i v) j w) = set-set rows k (set row i v) (set (set row i v) j w) in
    let swapped : set (set row i (get_or row j e)) j (get_or row i e) ≡ swap row i j = swap_is row i j e hi hj in
    let base : set (set items a v) b w ≡ swap items a b = swap_is items a b e la lb in
    let joined : rows_of (set (set items a v) b w) spans ≡ set rows k (swap row i j) = cc in
    ap (λ xs. rows_of xs spans) (sym base) ∙ joined

pub rows_of-swap : {T : Type 0} (items : List T) (spans : List Span) (k i j : ℕ) (d : Span) → InOrder items spans → k < length spans → i < length (get_or (rows_of items spans) k []) → j < length (get_or (rows_of items spans) k [])
    → rows_of (swap items ((get_or spans k d).start + i) ((get_or spans k d).start + j)) spans ≡ set (rows_of items spans) k (swap (get_or (rows_of items spans) k []) i j)
rows_of-swap {T} [] spans k i j d ordered hk hi hj =
    let none : List T = [] in
    let P : Span → Type 0 = λ s. (s.start ≤ s.end) × (s.end ≤ length none) in
    let here : P (get_or spans k d) = All-get_or P spans k d hk ordered.inside in
    let size : length (get_or (rows_of none spans) k []) ≡ (get_or spans k d).end - (get_or spans k d).start = ap length (row_of_rows none spans k d hk) ∙ length-row none (get_or spans k d) here in
    absurd (omega (arith, here.0, here.1, size, hi))
rows_of-swap {T} (x ∷ items) spans k i j d ordered hk hi hj = swap_with (x ∷ items) spans k i j d x ordered hk hi hj

-- the same, of what a caller sees
pub rows_swapped : {T : Type 0} (items after : List T) (spans : List Span) (s : Span) (rows : List (List T)) (k i j : ℕ) → InOrder items spans → rows_of items spans ≡ rows → s ≡ get_or spans k s → after ≡ swap items (s.start + i) (s.start + j)
    → k < length rows → i < length (get_or rows k []) → j < length (get_or rows k []) → rows_of after spans ≡ set rows k (swap (get_or rows k []) i j)
rows_swapped {T} items after spans s rows k i j ordered seen read written =
    let Claim : List (List T) → Type 0 = λ rows. k < length rows → i < length (get_or rows k []) → j < length (get_or rows k []) → rows_of after spans ≡ set rows k (swap (get_or rows k []) i j) in
    let At : Span → Type 0 = λ t. after ≡ swap items (t.start + i) (t.start + j) in
    let there : after ≡ swap items ((get_or spans k s).start + i) ((get_or spans k s).start + j) = subst At read written in
    subst Claim seen (λ hk hi hj.
    let size : k < length spans = simp length-map at hk in
    ap (λ xs. rows_of xs spans) there ∙ rows_of-swap items spans k i j s ordered size hi hj)
