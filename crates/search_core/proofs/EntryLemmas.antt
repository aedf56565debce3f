-- Entries of a trail and what they make true.
use Rattle.std.proofs.Common.{◌≡◌, ℕ, zero, suc, ◌<◌, ◌≤◌, true, List, [], ◌∷◌, length, get_or, take, sym, ◌∙◌, ap, subst, arith, inl, inr}
use Rattle.std.specs.List.{Contains}
use Rattle.std.proofs.lemmas.Bool.{cases_lt}
use Rattle.std.proofs.lemmas.List.{length-map, get_or-map}
use Rattle.literals_core.specs.Literal.{negation, variable_of}
use Rattle.literals_core.specs.Truth.{is_false}
use Rattle.literals_core.proofs.Members.{Contains-first, Contains-later, Contains-cases, Contains-none}
use Rattle.literals_core.proofs.Negation.{variable_of-negation, negation_differs}
use Rattle.literals_core.proofs.Truth.{tested_true}
use Rattle.watch_core.specs.Trail.{Assignment, Entry, IsTrail, places, order, cut}
use Rattle.watch_core.proofs.LevelLemmas.{kept_in, left_out}
use Rattle.search_core.specs.State.{place, entry_at, no_entry, IsEntry}
use Rattle.search_core.specs.Analysis.{HasMark}

-- a literal of the first entries has an entry
pub entry_of : (es : List (Entry ℕ)) (p y : ℕ) → Contains (places place (take p es)) y → (i : ℕ) × (i < p) × (i < length es) × ((get_or es i no_entry).literal ≡ y)
entry_of es zero y h = absurd (Contains-none y h)
entry_of [] (suc p) y h = absurd (Contains-none y h)
entry_of (e ∷ es) (suc p) y h = elim (Contains-cases e.literal y (places place (take p es)) h) [
  | inl same ↦ (0, omega arith, omega arith, same)
  | inr later ↦ (let f = entry_of es p y later in (suc f.0, omega (arith, f.1), omega (arith, f.2), f.3))
]

pub literal_entry : (es : List (Entry ℕ)) (y : ℕ) → Contains (places place es) y → (i : ℕ) × (i < length es) × ((get_or es i no_entry).literal ≡ y)
literal_entry [] y h = absurd (Contains-none y h)
literal_entry (e ∷ es) y h = elim (Contains-cases e.literal y (places place es) h) [
  | inl same ↦ (0, omega arith, same)
  | inr later ↦ (let f = literal_entry es y later in (suc f.0, omega (arith, f.1), f.2))
]

-- and an entry has a literal
pub entry_literal : (es : List (Entry ℕ)) (i : ℕ) → i < length es → Contains (places place es) (get_or es i no_entry).literal
entry_literal [] i lt = absurd (omega (arith, lt))
entry_literal (e ∷ es) zero lt = Contains-first e.literal (places place es)
entry_literal (e ∷ es) (suc i) lt = Contains-later e.literal (get_or es i no_entry).literal (places place es) (entry_literal es i (omega (arith, lt)))

pub false_entry : (t : Assignment ℕ) (p x : ℕ) → is_false (places place (take p t.entries)) x ≡ true → (i : ℕ) × IsEntry t (negation x) i × (i < p)
false_entry t p x h =
    let f = entry_of t.entries p (negation x) (tested_true (places place (take p t.entries)) (negation x) h) in
    (f.0, record { known = f.2; is = f.3 }, f.1)

pub false_now : (t : Assignment ℕ) (x : ℕ) → is_false (places place t.entries) x ≡ true → (i : ℕ) × IsEntry t (negation x) i
false_now t x h =
    let f = literal_entry t.entries (negation x) (tested_true (places place t.entries) (negation x) h) in
    (f.0, record { known = f.1; is = f.2 })

-- an entry of a low level is in the cut, and one of a high level is not
pub cut_has : (es : List (Entry ℕ)) (k i : ℕ) → i < length es → (get_or es i no_entry).level ≤ k → Contains (places place (cut es k)) (get_or es i no_entry).literal
cut_has [] k i lt low = absurd (omega (arith, lt))
cut_has (e ∷ es) k zero lt low = subst (λ (xs : List (Entry ℕ)). Contains (places place xs) e.literal) (sym (kept_in e es k low)) (Contains-first e.literal (places place (cut es k)))
cut_has (e ∷ es) k (suc i) lt low =
    let later = cut_has es k i (omega (arith, lt)) low in
    elim (cases_lt k e.level) [
      | inl out ↦ subst (λ (xs : List (Entry ℕ)). Contains (places place xs) (get_or es i no_entry).literal) (sym (left_out e es k out)) later
      | inr stays ↦ subst (λ (xs : List (Entry ℕ)). Contains (places place xs) (get_or es i no_entry).literal) (sym (kept_in e es k stays)) (Contains-later e.literal (get_or es i no_entry).literal (places place (cut es k)) later)
    ]

pub cut_entry : (es : List (Entry ℕ)) (k y : ℕ) → Contains (places place (cut es k)) y → (i : ℕ) × (i < length es) × ((get_or es i no_entry).literal ≡ y) × ((get_or es i no_entry).level ≤ k)
cut_entry [] k y h = absurd (Contains-none y h)
cut_entry (e ∷ es) k y h = elim (cases_lt k e.level) [
  | inl out ↦ (let f = cut_entry es k y (subst (λ (xs : List (Entry ℕ)). Contains (places place xs) y) (left_out e es k out) h) in (suc f.0, omega (arith, f.1), f.2, f.3))
  | inr stays ↦ (elim (Contains-cases e.literal y (places place (cut es k)) (subst (λ (xs : List (Entry ℕ)). Contains (places place xs) y) (kept_in e es k stays) h)) [
    | inl same ↦ (0, omega arith, same, stays)
    | inr later ↦ (let f = cut_entry es k y later in (suc f.0, omega (arith, f.1), f.2, f.3))
  ])
]

-- one variable has one entry
pub same_entry : (t : Assignment ℕ) (i j : ℕ) → IsTrail place t → i < length t.entries → j < length t.entries → variable_of (entry_at t i).literal ≡ variable_of (entry_at t j).literal → i ≡ j
same_entry t i j trail li lj same = elim (cases_lt i j) [
  | inl before ↦ absurd (trail.apart i j no_entry before lj same)
  | inr later ↦ (elim (cases_lt j i) [
    | inl after ↦ absurd (trail.apart j i no_entry after li (sym same))
    | inr no_later ↦ omega (arith, later, no_later)
  ])
]

-- no two entries have a literal and its negation
pub no_two : (t : Assignment ℕ) (i j : ℕ) → IsTrail place t → i < length t.entries → j < length t.entries → (entry_at t j).literal ≡ negation (entry_at t i).literal → ⊥
no_two t i j trail li lj opposite =
    let same = same_entry t i j trail li lj (sym (ap variable_of opposite ∙ variable_of-negation (entry_at t i).literal)) in
    negation_differs (entry_at t i).literal (sym (ap (λ k. (entry_at t k).literal) same ∙ opposite))

pub mark_negated : (stamps : List ℕ) (stamp x : ℕ) → HasMark stamps stamp x → HasMark stamps stamp (negation x)
mark_negated stamps stamp x h = ap (λ v. get_or stamps v 0) (variable_of-negation x) ∙ h

pub mark_of_negated : (stamps : List ℕ) (stamp x : ℕ) → HasMark stamps stamp (negation x) → HasMark stamps stamp x
mark_of_negated stamps stamp x h = sym (ap (λ v. get_or stamps v 0) (variable_of-negation x)) ∙ h

-- the true literals in order, as a slice
pub order_length : (t : Assignment ℕ) (os : List ℕ) → os ≡ order t.entries → length os ≡ length t.entries
order_length t os e = ap length e ∙ length-map t.entries (λ (e : Entry ℕ). e.literal)

pub order_at : (t : Assignment ℕ) (os : List ℕ) (i r : ℕ) → os ≡ order t.entries → i < length t.entries → r ≡ get_or os i r → (entry_at t i).literal ≡ r
order_at t os i r e lt is = sym (is ∙ ap (λ (xs : List ℕ). get_or xs i r) e ∙ get_or-map (λ (e : Entry ℕ). e.literal) t.entries i no_entry r lt)

pub variable_inside : (t : Assignment ℕ) (i r : ℕ) → IsTrail place t → i < length t.entries → (entry_at t i).literal ≡ r → variable_of r < t.variables
variable_inside t i r trail lt is = let low = trail.inside i no_entry lt in omega (arith, low, is)
