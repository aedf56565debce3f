-- What callers of propagation need: how its conditions come about, and what stays at rest.
use Rattle.std.proofs.Common.{◌≡◌, ℕ, ◌+◌, ◌<◌, ◌≤◌, ◌==◌, ◌||◌, not, Bool, true, false, cond, List, [], ◌∷◌, ◌++◌, length, get_or, Option, None, refl, sym, ◌∙◌, ap, subst, arith, inl, inr, ◌⊎◌, eq-eqb}
use Rattle.std.specs.List.{All, Contains, list_any}
use Rattle.std.proofs.lemmas.List.{map-append, drop-append-le}
use Rattle.std.proofs.lemmas.List.Elements.{All-weaker, All-push}
use Rattle.std.proofs.lemmas.Bool.{cases_lt, false≢true}
use Rattle.literals_core.specs.Literal.{negation}
use Rattle.literals_core.specs.Truth.{is_true, is_false, open_literals}
use Rattle.literals_core.proofs.Truth.{open_more, open_is}
use Rattle.literals_core.specs.Settled.{IsSettledByCount}
use Rattle.watch_core.specs.Trail.{Entry, Assignment, IsTrail, places, cut, waiting, entered, assigned, decided, undone, empty_trail}
use Rattle.watch_core.specs.Rest.{AllSettled, SettledBelow, CanPropagate, IsAtRest}
use Rattle.watch_core.specs.Added.{standing_of, standing_open}
use Rattle.watch_core.specs.declared.added.Standing.TheVariants.{Free, Unit, False}
use Rattle.watch_core.proofs.AssignLemmas.{more_true}
use Rattle.watch_core.proofs.CoverLemmas.{true_or_false, any_from}
use Rattle.watch_core.proofs.LevelLemmas.{cut_all, cut_none, cut_cut}
use Rattle.watch_core.proofs.GoingLemmas.{push_above, cut_false}
use Rattle.watch_core.proofs.HeldLemmas.{waits_undone}

any_weaker : (f g : ℕ → Bool) → ((x : ℕ) → f x ≡ true → g x ≡ true) → (xs : List ℕ) → list_any f xs ≡ true → list_any g xs ≡ true
any_weaker f g step [] h = absurd (false≢true h)
any_weaker f g step (x ∷ xs) h = elim (true_or_false (f x)) [
  | inl yes' ↦ ap (λ b. b || list_any g xs) (step x yes')
  | inr no' ↦ or_right (g x) (list_any g xs) (any_weaker f g step xs (sym (ap (λ b. b || list_any f xs) no') ∙ h))
]
  where
    or_right : (a b : Bool) → b ≡ true → (a || b) ≡ true
    or_right true b e = refl
    or_right false b e = e

-- what is true stays true under one more literal
stays_true : (set : List ℕ) (p x : ℕ) → is_true set x ≡ true → is_true (set ++ p ∷ []) x ≡ true
stays_true set p x h = more_true set p x ∙ ap (λ b. b || ((p == x) || false)) h

-- a literal whose negation is another one is not made false
stays_open : (set : List ℕ) (p l : ℕ) → is_true (p ∷ []) (negation l) ≡ false → is_false (set ++ p ∷ []) l ≡ is_false set l
stays_open set p l h = more_true set p (negation l) ∙ ap (λ b. is_false set l || b) h ∙ or_false (is_false set l) where
  or_false : (b : Bool) → (b || false) ≡ b
  or_false true = refl
  or_false false = refl

open_same : (set : List ℕ) (p : ℕ) (xs : List ℕ) → list_any (λ l. is_true (p ∷ []) (negation l)) xs ≡ false → open_literals (set ++ p ∷ []) xs ≡ open_literals set xs
open_same set p [] h = refl
open_same set p (x ∷ xs) h = elim (true_or_false (is_true (p ∷ []) (negation x))) [
  | inl yes' ↦ absurd (false≢true (sym h ∙ ap (λ b. b || list_any (λ l. is_true (p ∷ []) (negation l)) xs) yes'))
  | inr no' ↦ (let rest = open_same set p xs (sym (ap (λ b. b || list_any (λ l. is_true (p ∷ []) (negation l)) xs) no') ∙ h) in
      ap (λ b. cond (not b) (x ∷ open_literals (set ++ p ∷ []) xs) (open_literals (set ++ p ∷ []) xs)) (stays_open set p x no')
      ∙ ap (λ ys. cond (not (is_false set x)) (x ∷ ys) ys) rest)
]

-- one more true literal leaves a settled clause settled, or the clause has its negation
pub settled_step : (set : List ℕ) (p : ℕ) (clause : List ℕ) → IsSettledByCount set clause → IsSettledByCount (set ++ p ∷ []) clause ⊎ (list_any (λ l. is_true (p ∷ []) (negation l)) clause ≡ true)
settled_step set p clause (inl some) = inl (inl (any_weaker (is_true set) (is_true (set ++ p ∷ [])) (stays_true set p) clause some))
settled_step set p clause (inr two) = elim (true_or_false (list_any (λ l. is_true (p ∷ []) (negation l)) clause)) [
  | inl has ↦ inr has
  | inr without ↦ inl (inr (let same = ap length (open_same set p clause without) in omega (arith, same, two)))
]

open_all : (xs : List ℕ) → open_literals [] xs ≡ xs
open_all [] = refl
open_all (x ∷ xs) = ap (λ ys. x ∷ ys) (open_all xs)

-- while no literal is true, each clause is settled
pub rests_at_start : {L : Type 0} (at : L → ℕ) (trail : Assignment L) (clauses : List (List ℕ)) (variables : ℕ) → trail ≡ empty_trail variables → IsAtRest at trail clauses
rests_at_start {L} at trail clauses variables is =
    let P : Assignment L → Type 0 = λ t. IsAtRest at t clauses in
    subst P (sym is) (record {
      none_waits = refl;
      below = λ level lt. absurd (omega (arith, lt));
      whole = λ i d lt long. inr (let n = ap length (open_all (get_or clauses i d)) in omega (arith, n, long));
    })

-- after one more literal at or above the current level, each clause is settled under each lower cut
below_entered : {L : Type 0} (at : L → ℕ) (t : Assignment L) (clauses : List (List ℕ)) (l : L) (level : ℕ) (reason : Option ℕ) → IsTrail at t → IsAtRest at t clauses → (level ≡ t.level) ⊎ (level ≡ t.level + 1) → SettledBelow at (entered t l level reason) clauses
below_entered {L} at t clauses l level reason kept rest step q lq =
    let e : Entry L = record { literal = l; level = level; reason = reason } in
    let P : List (Entry L) → Type 0 = λ es. AllSettled (places at es) clauses in
    subst P (sym (push_above t.entries e q lq)) (elim (cases_lt q t.level) [
      | inl less ↦ rest.below q less
      | inr top ↦ (let same : t.level ≡ q = elim step [ inl a ↦ omega (arith, a, lq, top) | inr a ↦ omega (arith, a, lq, top) ] in
          let Q : ℕ → Type 0 = λ k. AllSettled (places at (cut t.entries k)) clauses in
          subst Q same (subst P (sym (cut_all t.entries t.level kept.leveled.below)) rest.whole))
    ])

waits_entered : {L : Type 0} (at : L → ℕ) (t : Assignment L) (l : L) (level : ℕ) (reason : Option ℕ) → IsTrail at t → waiting t ≡ [] → waiting (entered t l level reason) ≡ record { literal = l; level = level; reason = reason } ∷ []
waits_entered {L} at t l level reason kept none' =
    let e : Entry L = record { literal = l; level = level; reason = reason } in
    drop-append-le t.taken t.entries (e ∷ []) kept.within ∙ ap (λ es. es ++ e ∷ []) none'

-- the conditions of propagation after one more literal
pub can_entered : {L : Type 0} (at : L → ℕ) (t : Assignment L) (clauses : List (List ℕ)) (l : L) (level : ℕ) (reason : Option ℕ) → IsTrail at t → IsAtRest at t clauses → (level ≡ t.level) ⊎ (level ≡ t.level + 1) → CanPropagate at (entered t l level reason) clauses
can_entered {L} at t clauses l level reason kept rest step =
    let e : Entry L = record { literal = l; level = level; reason = reason } in
    let waits = waits_entered at t l level reason kept rest.none_waits in
    let grown : places at (t.entries ++ e ∷ []) ≡ places at t.entries ++ at l ∷ [] = map-append (λ (x : Entry L). at x.literal) t.entries (e ∷ []) in
    record {
      current = (let P : List (Entry L) → Type 0 = λ es. All (λ (x : Entry L). x.level ≡ level) es in
          let none' : P [] = λ i d lt. absurd (omega (arith, lt)) in
          subst P (sym waits) (All-push (λ (x : Entry L). x.level ≡ level) [] e none' refl));
      below = below_entered at t clauses l level reason kept rest step;
      whole = λ i d lt long. (let clause : List ℕ = get_or clauses i d in
          let P : List ℕ → Type 0 = λ set. IsSettledByCount set clause ⊎ (list_any (λ x. is_true (places at (waiting (entered t l level reason))) (negation x)) clause ≡ true) in
          let Q : List (Entry L) → Type 0 = λ es. IsSettledByCount (places at t.entries ++ at l ∷ []) clause ⊎ (list_any (λ x. is_true (places at es) (negation x)) clause ≡ true) in
          subst P (sym grown) (subst Q (sym waits) (settled_step (places at t.entries) (at l) clause (rest.whole i d lt long))));
    }

-- at rest, propagation may be called
pub can_at_rest : {L : Type 0} (at : L → ℕ) (t : Assignment L) (clauses : List (List ℕ)) → IsAtRest at t clauses → CanPropagate at t clauses
can_at_rest {L} at t clauses rest =
    let P : List (Entry L) → Type 0 = λ es. All (λ (e : Entry L). e.level ≡ t.level) es in
    let none' : P [] = λ i d lt. absurd (omega (arith, lt)) in
    record { current = subst P (sym rest.none_waits) none'; below = rest.below; whole = λ i d lt long. inl (rest.whole i d lt long) }

later_true : (set : List ℕ) (p x : ℕ) → is_true (p ∷ []) x ≡ true → is_true (set ++ p ∷ []) x ≡ true
later_true set p x h = more_true set p x ∙ or_right (is_true set x) ((p == x) || false) h where
  or_right : (a b : Bool) → b ≡ true → (a || b) ≡ true
  or_right true b e = refl
  or_right false b e = e

-- when propagation may be called, it still may after one more literal on the current level
pub can_more : {L : Type 0} (at : L → ℕ) (t : Assignment L) (clauses : List (List ℕ)) (l : L) (reason : Option ℕ) → IsTrail at t → CanPropagate at t clauses → CanPropagate at (assigned t l reason) clauses
can_more {L} at t clauses l reason kept can =
    let e : Entry L = record { literal = l; level = t.level; reason = reason } in
    let p : ℕ = at l in
    let ws : List ℕ = places at (waiting t) in
    let waits : waiting (assigned t l reason) ≡ waiting t ++ e ∷ [] = drop-append-le t.taken t.entries (e ∷ []) kept.within in
    let grown : places at (t.entries ++ e ∷ []) ≡ places at t.entries ++ p ∷ [] = map-append (λ (x : Entry L). at x.literal) t.entries (e ∷ []) in
    let longer : places at (waiting (assigned t l reason)) ≡ ws ++ p ∷ [] = ap (places at) waits ∙ map-append (λ (x : Entry L). at x.literal) (waiting t) (e ∷ []) in
    record {
      current = (let P : List (Entry L) → Type 0 = λ es. All (λ (x : Entry L). x.level ≡ t.level) es in subst P (sym waits) (All-push (λ (x : Entry L). x.level ≡ t.level) (waiting t) e can.current refl));
      below = λ q lq. (let P : List (Entry L) → Type 0 = λ es. AllSettled (places at es) clauses in subst P (sym (push_above t.entries e q lq)) (can.below q lq));
      whole = λ i d lt long. (let clause : List ℕ = get_or clauses i d in
          let P : List ℕ → Type 0 = λ set. IsSettledByCount set clause ⊎ (list_any (λ x. is_true (places at (waiting (assigned t l reason))) (negation x)) clause ≡ true) in
          let Q : List ℕ → Type 0 = λ set. IsSettledByCount (places at t.entries ++ p ∷ []) clause ⊎ (list_any (λ x. is_true set (negation x)) clause ≡ true) in
          subst P (sym grown) (subst Q (sym longer) (elim (can.whole i d lt long) [
            | inl settled ↦ (elim (settled_step (places at t.entries) p clause settled) [
              | inl still ↦ inl still
              | inr has ↦ inr (any_weaker (λ x. is_true (p ∷ []) (negation x)) (λ x. is_true (ws ++ p ∷ []) (negation x)) (λ x. later_true ws p (negation x)) clause has)
            ])
            | inr waits' ↦ inr (any_weaker (λ x. is_true ws (negation x)) (λ x. is_true (ws ++ p ∷ []) (negation x)) (λ x. stays_true ws p (negation x)) clause waits')
          ])));
    }

not_unit : Unit ≡ Free → ⊥
not_unit h = cc

-- a free clause is settled
settled_free : (set clause : List ℕ) → standing_of set clause ≡ Free → IsSettledByCount set clause
settled_free set clause is = cases (open_literals set clause) refl is where
  cases : (os : List ℕ) → os ≡ open_literals set clause → standing_open set os ≡ Free → IsSettledByCount set clause
  cases [] e h = absurd (no h) where
    no : False ≡ Free → ⊥
    no h = cc
  cases (o ∷ []) e h = elim (true_or_false (is_true set o)) [
    | inl yes' ↦ (let P : List ℕ → Type 0 = λ os. Contains os o in inl (any_from set clause (o, (open_is set clause o (subst P e (0, omega arith, refl))).0, yes')))
    | inr no' ↦ absurd (not_unit (sym (ap (λ b. cond b Free Unit) no') ∙ h))
  ]
  cases (o ∷ p ∷ os) e h = inr (let n = ap length e in omega (arith, n))

two_open : (set clause : List ℕ) → 2 ≤ length clause → is_false set (get_or clause 0 0) ≡ false → is_false set (get_or clause 1 0) ≡ false → 2 ≤ length (open_literals set clause)
two_open set [] long a b = absurd (omega (arith, long))
two_open set (x ∷ []) long a b = absurd (omega (arith, long))
two_open set (x ∷ y ∷ xs) long a b = (let m = ap length (open_more set x (y ∷ xs) a) in let n = ap length (open_more set y xs b) in omega (arith, m, n))

-- a free clause keeps rest
pub rests_added : {L : Type 0} (at : L → ℕ) (t : Assignment L) (clauses : List (List ℕ)) (clause : List ℕ) → IsAtRest at t clauses → standing_of (places at t.entries) clause ≡ Free
    → (2 ≤ length clause → is_false (places at t.entries) (get_or clause 0 0) ≡ false)
    → (2 ≤ length clause → (q : ℕ) → q < t.level → is_false (places at (cut t.entries q)) (get_or clause 1 0) ≡ false)
    → IsAtRest at t (clauses ++ clause ∷ [])
rests_added {L} at t clauses clause rest free first second = record {
  none_waits = rest.none_waits;
  below = λ q lq. All-push (λ c. 2 ≤ length c → IsSettledByCount (places at (cut t.entries q)) c) clauses clause (rest.below q lq)
      (λ long. inr (two_open (places at (cut t.entries q)) clause long (cut_false at t.entries q (negation (get_or clause 0 0)) (first long)) (second long q lq)));
  whole = All-push (λ c. 2 ≤ length c → IsSettledByCount (places at t.entries) c) clauses clause rest.whole (λ long. settled_free (places at t.entries) clause free);
}

-- after a decision
pub can_decided : {L : Type 0} (at : L → ℕ) (t : Assignment L) (clauses : List (List ℕ)) (l : L) → IsTrail at t → IsAtRest at t clauses → CanPropagate at (decided t l) clauses
can_decided at t clauses l kept rest = can_entered at t clauses l (t.level + 1) None kept rest (inr refl)

-- back at a lower level, whether propagation had come to rest or met a false clause
pub rests_undone : {L : Type 0} (at : L → ℕ) (t : Assignment L) (clauses : List (List ℕ)) (level : ℕ) → IsTrail at t → SettledBelow at t clauses → All (λ (e : Entry L). e.level ≡ t.level) (waiting t) → level < t.level → IsAtRest at (undone t level) clauses
rests_undone {L} at t clauses level kept below current lt = record {
  none_waits = waits_undone at t level kept ∙ cut_none (waiting t) level (All-weaker (λ (e : Entry L). e.level ≡ t.level) (λ (e : Entry L). level < e.level) (λ e is. omega (arith, is, lt)) (waiting t) current);
  below = λ q lq. (let P : List (Entry L) → Type 0 = λ es. AllSettled (places at es) clauses in
      subst P (sym (cut_cut t.entries level q (omega (arith, lq)))) (below q (omega (arith, lq, lt))));
  whole = below level lt;
}

-- after a new clause, whose first literal isn't false and whose second became false on the current level or not at all, that first literal is assigned
pub can_assigned : {L : Type 0} (at : L → ℕ) (t : Assignment L) (clauses : List (List ℕ)) (clause : List ℕ) (l : L) (reason : Option ℕ) → IsTrail at t → IsAtRest at t clauses → 0 < length clause → get_or clause 0 0 ≡ at l → is_false (places at t.entries) (at l) ≡ false
    → (2 ≤ length clause → (q : ℕ) → q < t.level → is_false (places at (cut t.entries q)) (get_or clause 1 0) ≡ false)
    → CanPropagate at (assigned t l reason) (clauses ++ clause ∷ [])
can_assigned {L} at t clauses clause l reason kept rest some first free second =
    let old = can_entered at t clauses l t.level reason kept rest (inl refl) in
    let e : Entry L = record { literal = l; level = t.level; reason = reason } in
    let grown : places at (t.entries ++ e ∷ []) ≡ places at t.entries ++ at l ∷ [] = map-append (λ (x : Entry L). at x.literal) t.entries (e ∷ []) in
    record {
      current = old.current;
      below = λ q lq. All-push (λ c. 2 ≤ length c → IsSettledByCount (places at (cut (t.entries ++ e ∷ []) q)) c) clauses clause (old.below q lq) (λ long.
          (let P : List (Entry L) → Type 0 = λ es. IsSettledByCount (places at es) clause in
          subst P (sym (push_above t.entries e q lq)) (inr (two_open (places at (cut t.entries q)) clause long (ap (is_false (places at (cut t.entries q))) first ∙ cut_false at t.entries q (negation (at l)) free) (second long q lq)))));
      whole = All-push (λ c. 2 ≤ length c → IsSettledByCount (places at (t.entries ++ e ∷ [])) c ⊎ (list_any (λ x. is_true (places at (waiting (assigned t l reason))) (negation x)) c ≡ true)) clauses clause old.whole (λ long.
          (let now : is_true (places at t.entries ++ at l ∷ []) (at l) ≡ true = more_true (places at t.entries) (at l) (at l) ∙ ap (λ b. is_true (places at t.entries) (at l) || (b || false)) (eq-eqb (at l) (at l) refl) ∙ or_one (is_true (places at t.entries) (at l)) in
          inl (inl (any_from (places at (t.entries ++ e ∷ [])) clause (at l, (0, some, at_start clause (at l) some first), ap (λ set. is_true set (at l)) grown ∙ now)))));
    }
  where
    or_one : (b : Bool) → (b || (true || false)) ≡ true
    or_one true = refl
    or_one false = refl

    at_start : (xs : List ℕ) (x : ℕ) → 0 < length xs → get_or xs 0 0 ≡ x → get_or xs 0 x ≡ x
    at_start [] x lt is = absurd (omega (arith, lt))
    at_start (y ∷ xs) x lt is = is
