-- How the facts on watched literals go on.
use Rattle.std.proofs.Common.{◌≡◌, ◌≢◌, ℕ, zero, suc, ◌+◌, ◌-◌, ◌*◌, ◌/◌, ◌%◌, ◌<◌, ◌≤◌, ◌==◌, ◌||◌, Bool, true, false, List, [], ◌∷◌, ◌++◌, length, get_or, set, swap, refl, sym, ◌∙◌, ap, subst, arith, inl, inr, ◌⊎◌, eq-eqb}
use Rattle.std.specs.List.{Contains, list_any}
use Rattle.std.proofs.lemmas.List.{length-set, get_or-set_same, get_or-set_other, get_or_default}
use Rattle.std.proofs.lemmas.List.Elements.{Contains-get_or}
use Rattle.std.proofs.lemmas.List.Sorted.{Contains-permutation, IsPermutation-swap}
use Rattle.std.proofs.lemmas.Bool.{cases_eq, false≢true}
use Rattle.std.proofs.lemmas.Bool.Decides.{eqb_tells}
use Rattle.literals_core.specs.Literal.{negation}
use Rattle.literals_core.specs.Truth.{is_true, is_false}
use Rattle.literals_core.specs.Settled.{IsSettledByCount}
use Rattle.literals_core.proofs.Truth.{open_more}
use Rattle.watch_core.specs.Rest.{AllSettled}
use Rattle.watch_core.specs.Cover.{clause_of, watched_at, beside, HasTrue, AllBut, AllCovered}
use Rattle.watch_core.proofs.AssignLemmas.{more_true, or_none, not_eqb}
use Rattle.watch_core.proofs.WatchLemmas.{swap_first, swap_other}

pub true_or_false : (b : Bool) → (b ≡ true) ⊎ (b ≡ false)
true_or_false true = inl refl
true_or_false false = inr refl

or_left : (a b : Bool) → a ≡ true → (a || b) ≡ true
or_left true b h = refl
or_left false b h = absurd (false≢true h)

or_right : (a b : Bool) → b ≡ true → (a || b) ≡ true
or_right true b h = refl
or_right false b h = h

or_either : (a b : Bool) → (a || b) ≡ true → (a ≡ true) ⊎ (b ≡ true)
or_either true b h = inl refl
or_either false b h = inr h

or_neither : (a b : Bool) → (a || b) ≡ false → (a ≡ false) × (b ≡ false)
or_neither true b h = absurd (false≢true (sym h))
or_neither false b h = (refl, h)

-- one more literal
pub still_true : (xs : List ℕ) (p l : ℕ) → is_true xs l ≡ true → is_true (xs ++ p ∷ []) l ≡ true
still_true xs p l h = more_true xs p l ∙ or_left (is_true xs l) ((p == l) || false) h

pub true_either : (xs : List ℕ) (p l : ℕ) → is_true (xs ++ p ∷ []) l ≡ true → (is_true xs l ≡ true) ⊎ (p ≡ l)
true_either xs p l h = elim (or_either (is_true xs l) ((p == l) || false) (sym (more_true xs p l) ∙ h)) [
  | inl old ↦ inl old
  | inr new ↦ (elim (eqb_tells p l) [ inl same ↦ inr same.1 | inr other ↦ absurd (false≢true (sym (ap (λ b. b || false) other.0) ∙ new)) ])
]

pub true_neither : (xs : List ℕ) (p l : ℕ) → is_true (xs ++ p ∷ []) l ≡ false → (is_true xs l ≡ false) × (p ≢ l)
true_neither xs p l h =
    let both = or_neither (is_true xs l) ((p == l) || false) (sym (more_true xs p l) ∙ h) in
    (both.0, λ e. false≢true (sym both.1 ∙ or_left (p == l) false (eq-eqb p l e)))

pub now_true : (xs : List ℕ) (p : ℕ) → is_true (xs ++ p ∷ []) p ≡ true
now_true xs p = more_true xs p p ∙ or_right (is_true xs p) ((p == p) || false) (or_left (p == p) false (eq-eqb p p refl))

pub not_more : (xs : List ℕ) (p l : ℕ) → is_true xs l ≡ false → p ≢ l → is_true (xs ++ p ∷ []) l ≡ false
not_more xs p l h ne = more_true xs p l ∙ ap (λ b. is_true xs l || (b || false)) (not_eqb p l ne) ∙ or_none (is_true xs l) ∙ h

pub has_more : (xs : List ℕ) (p : ℕ) (c : List ℕ) → HasTrue xs c → HasTrue (xs ++ p ∷ []) c
has_more xs p c (l, has, t) = (l, has, still_true xs p l t)

-- covers stay where a literal becomes true and waits
pub covered_more : (strong : Bool) (set waits : List ℕ) (clauses : List (List ℕ)) (p : ℕ) → is_true set p ≡ false → AllCovered strong set waits clauses → AllCovered strong (set ++ p ∷ []) (waits ++ p ∷ []) clauses
covered_more strong set waits clauses p free all s known long isfalse away =
    let quiet = true_neither waits p (negation (watched_at clauses s)) away in
    elim (true_either set p (negation (watched_at clauses s)) isfalse) [
      | inr new ↦ absurd (quiet.1 new)
      | inl old ↦ (elim (all s known long old quiet.0) [
        | inl some ↦ inl (has_more set p (clause_of clauses s) some)
        | inr rest ↦ inr (
          (λ l has ne. (let both = rest.0 l has ne in
              (still_true set p (negation l) both.0, not_more waits p (negation l) both.1 (λ e. false≢true (sym free ∙ ap (is_true set) e ∙ both.0))))),
          λ st. still_true waits p (negation (beside clauses s)) (rest.1 st),
        )
      ])
    ]

-- the other seat of a clause
pub other_seat : ℕ → ℕ
other_seat s = 2 * (s / 2) + (1 - s % 2)

other_half : (s : ℕ) → (2 * (s / 2) + (1 - s % 2)) / 2 ≡ s / 2
other_half s = omega arith

other_side : (s : ℕ) → (2 * (s / 2) + (1 - s % 2)) % 2 ≡ 1 - s % 2
other_side s = omega arith

-- covers stay where the first waiting literal has been taken in, once each clause that watches its negation has a true literal
pub covered_taken : (set waits : List ℕ) (clauses : List (List ℕ)) (p : ℕ) → AllCovered true set (p ∷ waits) clauses
    → ((s : ℕ) → s / 2 < length clauses → 2 ≤ length (clause_of clauses s) → negation (watched_at clauses s) ≡ p → HasTrue set (clause_of clauses s))
    → AllCovered true set waits clauses
covered_taken set waits clauses p all walked s known long isfalse away =
    elim (cases_eq (negation (watched_at clauses s)) p) [
      | inl same ↦ inl (walked s known long same)
      | inr ne ↦ (elim (all s known long isfalse (ap (λ b. b || is_false waits (watched_at clauses s)) (not_eqb p (negation (watched_at clauses s)) (λ e. ne (sym e))) ∙ away)) [
        | inl some ↦ inl some
        | inr rest ↦ (let P : ℕ → Type 0 = λ i. HasTrue set (get_or clauses i []) in
            let o : ℕ = 2 * (s / 2) + (1 - s % 2) in
            let there : get_or clauses (o / 2) [] ≡ clause_of clauses s = ap (λ i. get_or clauses i []) (other_half s) in
            let sees : watched_at clauses o ≡ beside clauses s = ap (λ i. get_or (get_or clauses (o / 2) []) i 0) (other_side s) ∙ ap (λ (c : List ℕ). get_or c (1 - s % 2) 0) there in
            elim (cases_eq (negation (beside clauses s)) p) [
              | inl same ↦ inl (subst P (other_half s) (walked o (omega (arith, other_half s, known)) (let n = ap length there in omega (arith, n, long)) (ap negation sees ∙ same)))
              | inr other ↦ inr (
                (λ l has no. (let both = rest.0 l has no in (both.0, (or_neither (p == negation l) (is_false waits l) both.1).1))),
                λ st. sym (ap (λ b. b || is_false waits (beside clauses s)) (not_eqb p (negation (beside clauses s)) (λ e. other (sym e)))) ∙ rest.1 st,
              )
            ])
      ])
    ]

-- a clause keeps its true literal where its order changes
pub has_swapped : (set : List ℕ) (xs : List ℕ) (a b : ℕ) → a < length xs → b < length xs → HasTrue set xs → HasTrue set (swap xs a b)
has_swapped set xs a b la lb (l, has, t) = (l, Contains-permutation xs (swap xs a b) l (IsPermutation-swap xs (swap xs a b) a b la lb refl) has, t)

-- covers stay where a seat moves to a literal that is not false
pub covered_moved : (strong : Bool) (now waits : List ℕ) (clauses : List (List ℕ)) (s j : ℕ) → s / 2 < length clauses → 2 ≤ j → j < length (clause_of clauses s)
    → is_false now (get_or (clause_of clauses s) j 0) ≡ false → get_or (clause_of clauses s) j 0 ≢ watched_at clauses s
    → AllCovered strong now waits clauses → AllCovered strong now waits (set clauses (s / 2) (swap (clause_of clauses s) (s % 2) j))
covered_moved strong set' waits clauses s j known far lj open' apart all u =
    let xs : List ℕ = clause_of clauses s in
    let ys : List ℕ = swap xs (s % 2) j in
    let clauses' : List (List ℕ) = set clauses (s / 2) ys in
    let size : length clauses' ≡ length clauses = length-set clauses (s / 2) ys in
    let ls : s % 2 < length xs = omega (arith, far, lj) in
    let C : List (List ℕ) → List ℕ → ℕ → ℕ → Type 0 = λ cs c w o. u / 2 < length cs → 2 ≤ length c → is_false set' w ≡ true → is_false waits w ≡ false → HasTrue set' c ⊎ (AllBut set' waits c o × (strong ≡ true → is_false waits o ≡ true)) in
    elim (cases_eq (u / 2) (s / 2)) [
      | inr other ↦ (λ k long f a. (let e : clause_of clauses' u ≡ clause_of clauses u = get_or-set_other clauses (s / 2) (u / 2) ys [] other in
          let P : List ℕ → Type 0 = λ c. 2 ≤ length c → is_false set' (get_or c (u % 2) 0) ≡ true → is_false waits (get_or c (u % 2) 0) ≡ false → HasTrue set' c ⊎ (AllBut set' waits c (get_or c (1 - u % 2) 0) × (strong ≡ true → is_false waits (get_or c (1 - u % 2) 0) ≡ true)) in
          subst P (sym e) (all u (omega (arith, k, size))) long f a))
      | inl same ↦ (let e : clause_of clauses' u ≡ ys = ap (λ i. get_or clauses' i []) same ∙ get_or-set_same clauses (s / 2) ys [] known in
          let old : clause_of clauses u ≡ xs = ap (λ i. get_or clauses i []) same in
          elim (cases_eq (u % 2) (s % 2)) [
            | inl side ↦ (λ k long f a. absurd (false≢true (sym open' ∙ ap (is_false set') (sym (ap (λ (c : List ℕ). get_or c (u % 2) 0) e ∙ ap (λ i. get_or ys i 0) side ∙ swap_first xs (s % 2) j ls lj (λ h. omega (arith, h, far)))) ∙ f)))
            | inr across ↦ (λ k long f a.
                (let w : watched_at clauses' u ≡ watched_at clauses u = ap (λ (c : List ℕ). get_or c (u % 2) 0) e ∙ swap_other xs (s % 2) j (u % 2) ls lj across (λ h. omega (arith, h, far)) ∙ sym (ap (λ (c : List ℕ). get_or c (u % 2) 0) old) in
                let o : beside clauses u ≡ watched_at clauses s = ap (λ (c : List ℕ). get_or c (1 - u % 2) 0) old ∙ ap (λ i. get_or xs i 0) (let z : 1 - u % 2 ≡ s % 2 = omega (arith, across) in z) in
                elim (all u (omega (arith, k, size)) (let n = ap length old in omega (arith, n, lj, far)) (ap (is_false set') (sym w) ∙ f) (ap (is_false waits) (sym w) ∙ a)) [
                  | inl some ↦ (let P : List ℕ → Type 0 = λ c. HasTrue set' c in inl (subst P (sym e) (has_swapped set' xs (s % 2) j ls lj (subst P old some))))
                  | inr rest ↦ absurd (false≢true (sym open' ∙ (rest.0 (get_or xs j 0) (let Q : List ℕ → Type 0 = λ c. Contains c (get_or xs j 0) in subst Q (sym old) (Contains-get_or xs j 0 lj)) (λ h. apart (h ∙ o))).0))
                ]))
          ])
    ]

pub any_from : (set xs : List ℕ) → HasTrue set xs → list_any (is_true set) xs ≡ true
any_from set [] (l, has, t) = absurd (omega (arith, has.1))
any_from set (x ∷ xs) (l, (zero, lt, e), t) = or_left (is_true set x) (list_any (is_true set) xs) (ap (is_true set) e ∙ t)
any_from set (x ∷ xs) (l, (suc i, lt, e), t) = or_right (is_true set x) (list_any (is_true set) xs) (any_from set xs (l, (i, omega (arith, lt), e), t))

pub any_to : (set xs : List ℕ) → list_any (is_true set) xs ≡ true → HasTrue set xs
any_to set [] h = absurd (false≢true h)
any_to set (x ∷ xs) h = elim (or_either (is_true set x) (list_any (is_true set) xs) h) [
  | inl here ↦ (x, (zero, omega arith, refl), here)
  | inr later ↦ (let r = any_to set xs later in (r.0, (suc r.1.0, omega (arith, r.1.1), r.1.2), r.2))
]

settled_one : (set : List ℕ) (c : List ℕ) → 2 ≤ length c → (is_false set (get_or c 0 0) ≡ true → HasTrue set c) → (is_false set (get_or c 1 0) ≡ true → HasTrue set c) → IsSettledByCount set c
settled_one set [] long a b = absurd (omega (arith, long))
settled_one set (x ∷ []) long a b = absurd (omega (arith, long))
settled_one set (x ∷ y ∷ xs) long a b =
    elim (true_or_false (is_false set x)) [
      | inl fa ↦ inl (any_from set (x ∷ y ∷ xs) (a fa))
      | inr oa ↦ (elim (true_or_false (is_false set y)) [
        | inl fb ↦ inl (any_from set (x ∷ y ∷ xs) (b fb))
        | inr ob ↦ inr (let first = ap length (open_more set x (y ∷ xs) oa) in let second = ap length (open_more set y xs ob) in omega (arith, first, second))
      ])
    ]

-- where nothing waits, each clause is settled
pub all_settled : (set : List ℕ) (clauses : List (List ℕ)) → AllCovered true set [] clauses → AllSettled set clauses
all_settled set clauses all i d lt long =
    let e : get_or clauses i d ≡ get_or clauses i [] = get_or_default clauses i d [] lt in
    let P : List ℕ → Type 0 = λ c. IsSettledByCount set c in
    let side : (s : ℕ) → s / 2 ≡ i → is_false set (watched_at clauses s) ≡ true → HasTrue set (clause_of clauses s) = λ s h f.
    (elim (all s (omega (arith, h, lt)) (let n = ap length (ap (λ k. get_or clauses k []) h) in let m = ap length e in omega (arith, n, m, long)) f refl) [
      | inl some ↦ some
      | inr rest ↦ absurd (false≢true (rest.1 refl))
    ]) in
    let zero' : (2 * i) / 2 ≡ i = omega arith in
    let one' : (2 * i + 1) / 2 ≡ i = omega arith in
    let CoveredAt : ℕ → ℕ → Type 0 = λ c place. is_false set (get_or (get_or clauses c []) place 0) ≡ true → HasTrue set (get_or clauses c []) in
    let CoveredFirst : ℕ → Type 0 = λ c. CoveredAt c 0 in
    let CoveredSecond : ℕ → Type 0 = λ c. CoveredAt c 1 in
    let OfFirstSeat : ℕ → Type 0 = λ place. CoveredAt ((2 * i) / 2) place in
    let OfSecondSeat : ℕ → Type 0 = λ place. CoveredAt ((2 * i + 1) / 2) place in
    let first : CoveredFirst i = subst CoveredFirst zero' (subst OfFirstSeat (let side_is : (2 * i) % 2 ≡ 0 = omega arith in side_is) (side (2 * i) zero')) in
    let second : CoveredSecond i = subst CoveredSecond one' (subst OfSecondSeat (let side_is : (2 * i + 1) % 2 ≡ 1 = omega arith in side_is) (side (2 * i + 1) one')) in
    subst P (sym e) (settled_one set (get_or clauses i []) (let m = ap length e in omega (arith, m, long)) first second)
