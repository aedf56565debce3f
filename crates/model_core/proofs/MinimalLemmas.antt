-- One more set, of sets in rising order.
use Rattle.std.proofs.Common.{◌≡◌, ℕ, ◌+◌, ◌<◌, ◌≤◌, true, false, List, [], ◌∷◌, ◌++◌, length, get_or, take, sym, ◌∙◌, subst, arith}
use Rattle.std.specs.List.{All, Contains, list_any}
use Rattle.std.specs.List.Sorted.{IsStrictlyIncreasing}
use Rattle.std.proofs.lemmas.List.{take_more, take_all, get_or-take, length-take-le, get_or_default}
use Rattle.std.proofs.lemmas.List.Kept.{AllPairs-from_increasing}
use Rattle.sorting_rule.specs.Coalition.{is_inside}
use Rattle.sorting_rule.specs.Rebuilt.{AreMinimal}
use Rattle.sorting_rule.proofs.MinimalFacts.{AreKept, kept_old, kept_new, kept_minimal, minimal_same}

module _ (sets : List ℕ) (rises : IsStrictlyIncreasing sets) (i : ℕ) (lt : i < length sets) (kept : List ℕ) (so : AreKept (take i sets) kept) where
  abbrev next : ℕ
  next = get_or sets i 0

  above : All (λ x. x < next) (take i sets)
  above = λ k d below.
      let size : length (take i sets) ≡ i = length-take-le i sets (omega (arith, lt)) in
      let lk : k < i = omega (arith, below, size) in
      let rise : get_or sets k 0 < get_or sets i 0 = AllPairs-from_increasing sets rises k i 0 lk lt in
      let at : get_or (take i sets) k d ≡ get_or sets k 0 = get_or-take i sets k d lk ∙ get_or_default sets k d 0 (omega (arith, lk, lt)) in
      omega (arith, rise, at)

  pub step_old : list_any (λ root. is_inside root next) kept ≡ true → AreKept (take (i + 1) sets) kept
  step_old h = subst (λ xs. AreKept xs kept) (sym (take_more sets i 0 lt)) (kept_old (take i sets) kept so next h)

  pub step_new : list_any (λ root. is_inside root next) kept ≡ false → (more : List ℕ) → more ≡ kept ++ next ∷ [] → AreKept (take (i + 1) sets) more
  step_new h more e = subst (AreKept (take (i + 1) sets)) (sym e) (subst (λ xs. AreKept xs (kept ++ next ∷ [])) (sym (take_more sets i 0 lt)) (kept_new (take i sets) kept so next above h))

-- at the end, of sets with the elements of others
pub step_end : (masks sets kept : List ℕ) (i : ℕ) → length sets ≤ i → ((x : ℕ) → Contains sets x → Contains masks x) → ((x : ℕ) → Contains masks x → Contains sets x) → AreKept (take i sets) kept → AreMinimal masks kept
step_end masks sets kept i le to from so = minimal_same sets masks kept to from (kept_minimal sets kept (subst (λ xs. AreKept xs kept) (take_all i sets le) so))
