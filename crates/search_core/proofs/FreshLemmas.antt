-- A lemma of an analysis is fresh.
use Rattle.std.proofs.Common.{◌≡◌, ℕ, zero, suc, ◌-◌, ◌<◌, ◌≤◌, ◌==◌, Bool, true, false, ◌&&◌, List, [], ◌∷◌, length, get_or, map, refl, sym, ◌∙◌, ap, subst, arith, ◌⊎◌, inl, inr}
use Rattle.std.specs.List.{All, Contains, IsDistinct, list_all}
use Rattle.std.proofs.lemmas.Bool.{cases_Bool, false≢true, cases_lt}
use Rattle.std.proofs.lemmas.List.{get_or_default}
use Rattle.literals_core.specs.Literal.{negation, variable_of}
use Rattle.literals_core.specs.Truth.{IsFalseUnder, IsTrueUnder}
use Rattle.literals_core.specs.Settled.{IsSettled, IsSettledByCount}
use Rattle.literals_core.proofs.Members.{Contains-first}
use Rattle.literals_core.proofs.Negation.{negation_twice, variable_of-negation, negation_differs}
use Rattle.literals_core.proofs.Settled.{settled_by_count}
use Rattle.watch_core.specs.Trail.{Assignment, IsTrail, places, cut}
use Rattle.literals_core.specs.DistinctVariables.{HasDistinctVariables}
use Rattle.watch_core.specs.Places.{placed}
use Rattle.watch_core.specs.Rest.{SettledBelow, AllSettled}
use Rattle.watch_core.specs.Propagates.{AreReordered}
use Rattle.chain_core.specs.Fresh.{HasNoPair, ShowsFresh}
use Rattle.search_core.specs.State.{place, entry_at, IsSound}
use Rattle.search_core.specs.Analysis.{IsLower, IsPoint}
use Rattle.search_core.proofs.ListLemmas.{all_of, member_known}
use Rattle.search_core.proofs.EntryLemmas.{cut_has, cut_entry, same_entry, no_two}

-- clauses of places stand as they are
pub placed_row : (clause : List ℕ) → map place clause ≡ clause
placed_row [] = refl
placed_row (l ∷ clause) = ap (λ (ls : List ℕ). l ∷ ls) (placed_row clause)

pub placed_is : (clauses : List (List ℕ)) → placed place clauses ≡ clauses
placed_is [] = refl
placed_is (c ∷ clauses) = ap (λ (d : List ℕ). d ∷ placed place clauses) (placed_row c) ∙ ap (λ (cs : List (List ℕ)). c ∷ cs) (placed_is clauses)

-- literals of distinct variables are no pair
pub no_pair_apart : (literals : List ℕ) → HasDistinctVariables literals → HasNoPair literals
no_pair_apart literals apart i d li (j, lj, e) =
    let l : ℕ = get_or literals i d in
    let here : get_or literals i 0 ≡ l = get_or_default literals i 0 d li in
    let there : get_or literals j 0 ≡ negation l = get_or_default literals j 0 (negation l) lj ∙ e in
    let same : variable_of (get_or literals i 0) ≡ variable_of (get_or literals j 0) = ap variable_of here ∙ sym (variable_of-negation l) ∙ sym (ap variable_of there) in
    elim (cases_lt i j) [
      | inl before ↦ apart i j before lj same
      | inr later ↦ (elim (cases_lt j i) [
        | inl after ↦ apart j i after li (sym same)
        | inr no_later ↦ (let k : i ≡ j = omega (arith, later, no_later) in negation_differs l (sym there ∙ ap (λ k. get_or literals k 0) (sym k) ∙ here))
      ])
    ]

-- the variable of the point is none of the lower ones
pub apart_all : (t : Assignment ℕ) (lower : List ℕ) (point : ℕ) → IsTrail place t → IsPoint t lower point → HasDistinctVariables (negation point ∷ lower)
apart_all t lower point trail made zero zero before lt same = absurd (omega (arith, before))
apart_all t lower point trail made (suc i) zero before lt same = absurd (omega (arith, before))
apart_all t lower point trail made (suc i) (suc j) before lt same = made.apart i j (omega (arith, before)) (omega (arith, lt)) same
apart_all t lower point trail made zero (suc j) before lt same =
    let low = made.lows j 0 (omega (arith, lt)) in
    let top = made.entry in
    let l : ℕ = get_or lower j 0 in
    let one : variable_of (entry_at t top.0).literal ≡ variable_of (entry_at t low.0).literal =
    ap variable_of top.1.is ∙ sym (variable_of-negation point) ∙ same ∙ sym (variable_of-negation l) ∙ sym (ap variable_of low.1.is) in
    let k = same_entry t top.0 low.0 trail top.1.known low.1.known one in
    let level = ap (λ k. (entry_at t k).level) k in
    omega (arith, level, top.2, low.2)

-- settled in another order
settled_known : (known clauses : List (List ℕ)) (set : List ℕ) (c : ℕ) → AreReordered known clauses → IsSettled set (get_or clauses c []) → IsSettled set (get_or known c [])
settled_known known clauses set c order (inl (k, x, lt, is, holds)) =
    let has = member_known known clauses c x order (k, lt, is) in
    inl (has.0, x, has.1, has.2, holds)
settled_known known clauses set c order (inr two) = inr (record {
  first = two.first;
  second = two.second;
  differ = two.differ;
  among = (member_known known clauses c two.first order two.among.0, member_known known clauses c two.second order two.among.1);
  not_false = two.not_false;
})

-- each clause is settled under a cut
pub settled_at : (t : Assignment ℕ) (known clauses : List (List ℕ)) (level : ℕ) → IsSound (length clauses) known clauses t
    → AllSettled (places place (cut t.entries level)) (placed place clauses) → ((c : ℕ) → IsDistinct (λ x y. x == y) (get_or (placed place clauses) c []))
    → All (IsSettled (places place (cut t.entries level))) known
settled_at t known clauses level sound settled distinct k d lt =
    let set : List ℕ = places place (cut t.entries level) in
    let inside : k < length clauses = omega (arith, lt, sound.order.count) in
    let same : get_or known k [] ≡ get_or known k d = get_or_default known k [] d lt in
    let P : List (List ℕ) → Type 0 = λ cs. 2 ≤ length (get_or cs k []) → IsSettledByCount set (get_or cs k []) in
    let Q : List (List ℕ) → Type 0 = λ cs. IsDistinct (λ x y. x == y) (get_or cs k []) in
    let e = placed_is clauses in
    let there : k < length (placed place clauses) = omega (arith, inside, ap length e) in
    let by_count = subst P e (settled k [] there) in
    let apart = subst Q e (distinct k) in
    subst (IsSettled set) same (elim (cases_lt (length (get_or clauses k [])) 2) [
      | inl short ↦ (let unit = sound.units k inside (omega (arith, short)) in
          let has = member_known known clauses k (entry_at t unit.0).literal sound.order unit.3 in
          inl (has.0, (entry_at t unit.0).literal, has.1, has.2, cut_has t.entries level unit.0 unit.1 (omega (arith, unit.2))))
      | inr long ↦ settled_known known clauses set k sound.order (settled_by_count set (get_or clauses k []) apart (by_count long))
    ])

-- a trail has no pair, nor has a cut
pub cut_no_pair : (t : Assignment ℕ) (level : ℕ) → IsTrail place t → HasNoPair (places place (cut t.entries level))
cut_no_pair t level trail = all_of (λ l. ¬ Contains (places place (cut t.entries level)) (negation l)) (places place (cut t.entries level)) (λ l has other.
    let a = cut_entry t.entries level l has in
    let b = cut_entry t.entries level (negation l) other in
    no_two t a.0 b.0 trail a.1 b.1 (b.2 ∙ ap negation (sym a.2)))

-- the lemma says what unit propagation doesn't
pub shows_fresh : (t : Assignment ℕ) (known clauses : List (List ℕ)) (lower : List ℕ) (point : ℕ) → IsTrail place t → IsSound (length clauses) known clauses t → SettledBelow place t (placed place clauses)
    → ((c : ℕ) → IsDistinct (λ x y. x == y) (get_or (placed place clauses) c [])) → IsPoint t lower point
    → HasNoPair (negation point ∷ lower) × ((set : List ℕ) × ShowsFresh known (negation point ∷ lower) set)
shows_fresh t known clauses lower point trail sound settled distinct made =
    let level : ℕ = t.level - 1 in
    let set : List ℕ = places place (cut t.entries level) in
    let top = made.entry in
    let left : ℕ = negation point in
    let no_left : ¬ IsTrueUnder set left = λ has. (let a = cut_entry t.entries level left has in no_two t top.0 a.0 trail top.1.known a.1 (a.2 ∙ ap negation (sym top.1.is))) in
    let no_point : ¬ IsFalseUnder set left = λ has.
    (let a = cut_entry t.entries level (negation left) has in
    let e : variable_of (entry_at t a.0).literal ≡ variable_of (entry_at t top.0).literal = ap variable_of (a.2 ∙ negation_twice point ∙ sym top.1.is) in
    let k = ap (λ k. (entry_at t k).level) (same_entry t a.0 top.0 trail a.1 top.1.known e) in
    omega (arith, k, a.3, top.2, made.above)) in
    let others : All (λ x. (x ≡ left) ⊎ IsFalseUnder set x) (left ∷ lower) = all_of (λ x. (x ≡ left) ⊎ IsFalseUnder set x) (left ∷ lower) (λ x has. other x has) in (
      no_pair_apart (left ∷ lower) (apart_all t lower point trail made),
      (
        set,
        record {
          consistent = cut_no_pair t level trail;
          one = record { left = left; among = Contains-first left lower; not_true = no_left; not_false = no_point; others = others };
          settled = settled_at t known clauses level sound (settled level (omega (arith, made.above))) distinct;
        },
      ),
    )
  where
    other : (x : ℕ) → Contains (negation point ∷ lower) x → (x ≡ negation point) ⊎ IsFalseUnder (places place (cut t.entries (t.level - 1))) x
    other x (zero, lt, is) = inl (sym is)
    other x (suc k, lt, is) =
        let low : IsLower t x = subst (IsLower t) is (made.lows k x (omega (arith, lt))) in
        inr (subst (Contains (places place (cut t.entries (t.level - 1)))) low.1.is (cut_has t.entries (t.level - 1) low.0 low.1.known (omega (arith, low.2))))

pub all_pass : (p : ℕ → Bool) (xs : List ℕ) (x : ℕ) → list_all p xs ≡ true → Contains xs x → p x ≡ true
all_pass p xs x h has = elim (cases_Bool (p x)) [
  | inl holds ↦ holds
  | inr fails ↦ absurd (none xs h has fails)
] where
  none : (xs : List ℕ) → list_all p xs ≡ true → Contains xs x → p x ≡ false → ⊥
  none [] h (k, lt, is) fails = (let n : k < length {A = ℕ} [] = lt in omega (arith, n))
  none (y ∷ xs) h (zero, lt, is) fails = false≢true (sym (ap (λ b. b && list_all p xs) (ap p is ∙ fails)) ∙ h)
  none (y ∷ xs) h (suc k, lt, is) fails = none xs (rest (p y) h) (k, omega (arith, lt), is) fails where
    rest : (b : Bool) → (b && list_all p xs) ≡ true → list_all p xs ≡ true
    rest true h = h
    rest false h = absurd (false≢true h)
