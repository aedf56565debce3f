-- One visited seat, and a chain as it is walked.
use Rattle.std.proofs.Common.{◌≡◌, ◌≢◌, ℕ, zero, suc, ◌+◌, ◌-◌, ◌%◌, ◌<◌, ◌≤◌, ◌==◌, ◌||◌, ◌&&◌, Bool, true, false, cond, List, [], ◌∷◌, ◌++◌, length, map, get_or, set, swap, drop, Option, None, Some, refl, sym, ◌∙◌, ap, arith, inl, inr, eq-eqb}
use Rattle.std.specs.List.{Contains, list_all, slice_get}
use Rattle.std.proofs.lemmas.List.{length-append, length-map, get_or-map, get_or_past, map-set}
use Rattle.std.proofs.lemmas.Bool.{cases_eq, cases_lt}
use Rattle.literals_core.specs.Truth.{is_true, is_false}
use Rattle.watch_core.specs.Places.{placed}
use Rattle.watch_core.specs.Trail.{Entry, Assignment, places, waiting, value_of}
use Rattle.watch_core.specs.Rest.{IsClauseFalse}
use Rattle.watch_core.specs.Cover.{clause_of, HasTrue}
use Rattle.watch_core.proofs.AssignLemmas.{not_eqb}

pub placed_row : {L : Type 0} (at : L → ℕ) (cs : List (List L)) (i : ℕ) → get_or (placed at cs) i [] ≡ map at (get_or cs i [])
placed_row at cs i = elim (cases_lt i (length cs)) [
  | inl lt ↦ get_or-map (map at) cs i [] [] lt
  | inr past ↦ (let n = length-map cs (map at) in get_or_past (placed at cs) i [] (omega (arith, n, past)) ∙ sym (ap (map at) (get_or_past cs i [] past)))
]

pub row_is : {L : Type 0} (at : L → ℕ) (cs : List (List L)) (i n : ℕ) (clause : List L) → n ≡ i → clause ≡ get_or cs n [] → get_or (placed at cs) i [] ≡ map at clause
row_is at cs i n clause e is = placed_row at cs i ∙ ap (map at) (ap (λ k. get_or cs k []) (sym e) ∙ sym is)

-- a literal of a clause by its place
pub row_at : {L : Type 0} (at : L → ℕ) (xs : List ℕ) (clause : List L) (k : ℕ) (x : L) → xs ≡ map at clause → k < length clause → x ≡ get_or clause k x → get_or xs k 0 ≡ at x
row_at at xs clause k x e lt read = ap (λ (ys : List ℕ). get_or ys k 0) e ∙ get_or-map at clause k x 0 lt ∙ ap at (sym read)

pub row_long : {L : Type 0} (at : L → ℕ) (xs : List ℕ) (clause : List L) → xs ≡ map at clause → length xs ≡ length clause
row_long at xs clause e = ap length e ∙ length-map clause at

pub map_swap : {L : Type 0} (at : L → ℕ) (xs : List L) (a b : ℕ) → a < length xs → b < length xs → map at (swap xs a b) ≡ swap (map at xs) a b
map_swap at [] a b la lb = refl
map_swap at (x ∷ xs) a b la lb =
    map-set at (set (x ∷ xs) a (get_or (x ∷ xs) b x)) b (get_or (x ∷ xs) a x)
    ∙ ap (λ (ys : List ℕ). set ys b (at (get_or (x ∷ xs) a x))) (map-set at (x ∷ xs) a (get_or (x ∷ xs) b x))
    ∙ ap (λ y. set (set (map at (x ∷ xs)) a (at (get_or (x ∷ xs) b x))) b y) (sym (get_or-map at (x ∷ xs) a x (at x) la))
    ∙ ap (λ y. set (set (map at (x ∷ xs)) a y) b (get_or (map at (x ∷ xs)) a (at x))) (sym (get_or-map at (x ∷ xs) b x (at x) lb))

pub placed_swap : {L : Type 0} (at : L → ℕ) (cs : List (List L)) (i a b : ℕ) → a < length (get_or cs i []) → b < length (get_or cs i []) → placed at (set cs i (swap (get_or cs i []) a b)) ≡ set (placed at cs) i (swap (get_or (placed at cs) i []) a b)
placed_swap at cs i a b la lb = map-set (map at) cs i (swap (get_or cs i []) a b) ∙ ap (λ (ys : List ℕ). set (placed at cs) i ys) (map_swap at (get_or cs i []) a b la lb ∙ ap (λ (ys : List ℕ). swap ys a b) (sym (placed_row at cs i)))

-- what waits is on the trail
pub waits_true : {L : Type 0} (at : L → ℕ) (t : Assignment L) (l : ℕ) → is_true (places at (waiting t)) l ≡ true → is_true (places at t.entries) l ≡ true
waits_true {L} at t l h = later t.taken t.entries h where
  or_right : (a b : Bool) → b ≡ true → (a || b) ≡ true
  or_right true b h = refl
  or_right false b h = h

  later : (n : ℕ) (es : List (Entry L)) → is_true (places at (drop n es)) l ≡ true → is_true (places at es) l ≡ true
  later zero es h = h
  later (suc n) [] h = h
  later (suc n) (e ∷ es) h = or_right (at e.literal == l) (is_true (places at es) l) (later n es h)

pub all_false : (set xs : List ℕ) → ((i : ℕ) → i < length xs → is_false set (get_or xs i 0) ≡ true) → IsClauseFalse set xs
all_false set [] h = refl
all_false set (x ∷ xs) h = ap (λ b. b && list_all (is_false set) xs) (h 0 (omega arith)) ∙ all_false set xs (λ i lt. h (suc i) (omega (arith, lt)))

-- each literal but the one beside is false, where no open place is left
pub others_false : {L : Type 0} (at : L → ℕ) (set xs : List ℕ) (clause : List L) (s : ℕ) (d : L) → xs ≡ map at clause → is_false set (get_or xs (s % 2) 0) ≡ true → ((j : ℕ) (l : L) → 2 ≤ j → j < length clause → is_false set (at (get_or clause j l)) ≡ true)
    → (i : ℕ) → i < length xs → i ≢ 1 - s % 2 → is_false set (get_or xs i 0) ≡ true
others_false at set xs clause s d e f rest i lt ne = elim (cases_lt i 2) [
  | inl low ↦ (let same : i ≡ s % 2 = omega (arith, low, ne) in ap (λ k. is_false set (get_or xs k 0)) same ∙ f)
  | inr high ↦ (let n = row_long at xs clause e in
      ap (is_false set) (ap (λ (ys : List ℕ). get_or ys i 0) e ∙ get_or-map at clause i d 0 (omega (arith, lt, n))) ∙ rest i d high (omega (arith, lt, n)))
]

pub free_of : (set : List ℕ) (p : ℕ) → is_true set p ≡ false → is_false set p ≡ false → value_of set p ≡ None
free_of set p a b = ap (λ x. cond x (Some true) (cond (is_false set p) (Some false) None)) a ∙ ap (λ x. cond x (Some false) None) b

-- how many seats a chain has from one on
abbrev pub left_from : ℕ → List ℕ → ℕ
left_from s [] = 0
left_from s (x ∷ xs) = cond (x == s) (suc (length xs)) (left_from s xs)

abbrev pub left_of : List ℕ → Option ℕ → ℕ
left_of chain None = 0
left_of chain (Some s) = left_from s chain

left_here : (s x : ℕ) (xs : List ℕ) → x ≡ s → left_from s (x ∷ xs) ≡ suc (length xs)
left_here s x xs e = ap (λ b. cond b (suc (length xs)) (left_from s xs)) (eq-eqb x s e)

left_there : (s x : ℕ) (xs : List ℕ) → x ≢ s → left_from s (x ∷ xs) ≡ left_from s xs
left_there s x xs ne = ap (λ b. cond b (suc (length xs)) (left_from s xs)) (not_eqb x s ne)

pub left_least : (done r : List ℕ) (s : ℕ) → suc (length r) ≤ left_from s (done ++ s ∷ r)
left_least [] r s = (let e = left_here s s r refl in omega (arith, e))
left_least (x ∷ done) r s = elim (cases_eq x s) [
  | inl same ↦ (let e = left_here s x (done ++ s ∷ r) same in let n = length-append done (s ∷ r) in omega (arith, e, n))
  | inr other ↦ (let e = left_there s x (done ++ s ∷ r) other in let rest = left_least done r s in omega (arith, e, rest))
]

left_most : (done r : List ℕ) (s : ℕ) → ((j : ℕ) → j < length done → get_or done j 0 ≢ s) → left_from s (done ++ s ∷ r) ≡ suc (length r)
left_most [] r s apart = left_here s s r refl
left_most (x ∷ done) r s apart = left_there s x (done ++ s ∷ r) (apart 0 (omega arith)) ∙ left_most done r s (λ j lt. apart (suc j) (omega (arith, lt)))

pub left_next : (done r : List ℕ) (next : Option ℕ) → next ≡ slice_get r 0 → ((j : ℕ) → j < length done → 0 < length r → get_or done j 0 ≢ get_or r 0 0) → left_of (done ++ r) next ≤ length r
left_next done [] next e apart = (let z : left_of (done ++ []) next ≡ 0 = ap (left_of (done ++ [])) e in omega (arith, z))
left_next done (x ∷ r) next e apart =
    (let z : left_of (done ++ x ∷ r) next ≡ left_from x (done ++ x ∷ r) = ap (left_of (done ++ x ∷ r)) e in
    let m = left_most done r x (λ j lt. apart j lt (omega arith)) in
    omega (arith, z, m))

-- a chain as it is walked: the seats that stay, then those that are left
pub record IsWalking (set : List ℕ) (clauses : List (List ℕ)) (chain : List ℕ) (current : Option ℕ) (done rest : List ℕ) (most looks : ℕ) : Type 0 where
  pub split : chain ≡ done ++ rest
  pub head : current ≡ slice_get rest 0
  pub held : (s : ℕ) → Contains done s → HasTrue set (clause_of clauses s)
  pub cost : looks + length rest ≤ most
