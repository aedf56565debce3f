-- Two texts, one after the other.
use Rattle.std.proofs.Common.{◌≡◌, ℕ, ◌+◌, ◌≤◌, List, ◌++◌, take, length, min, sym, ap, ◌∙◌, append_assoc, arith}
use Rattle.std.specs.Prelude.{Result, Ok, Err, IsErr}
use Rattle.std.proofs.lemmas.List.{take-append-le, take_min}
use Rattle.std.proofs.Math.Seq.{take-append-add}
use Rattle.lists_core.specs.Puts.{Puts}

module _ (old new a : List ℕ) where
  -- the first was appended, and then the second
  pub puts-then : new ≡ old ++ a → {T E : Type 0} (last b : List ℕ) (r : Result T E) → Puts new last r b → Puts old last r (a ++ b)
  puts-then is last b (Ok x) h = h ∙ ap (λ t. t ++ b) is ∙ append_assoc old a b
  puts-then is last b (Err e) h = (length a + h.0, h.1 ∙ ap (λ t. t ++ take h.0 b) is ∙ append_assoc old a (take h.0 b) ∙ ap (λ t. old ++ t) (sym (take-append-add a b h.0)))

  -- the first was cut short
  pub puts-cut : (b : List ℕ) → (k : ℕ) × (new ≡ old ++ take k a) → (k : ℕ) × (new ≡ old ++ take k (a ++ b))
  puts-cut b h =
      let within : min h.0 (length a) ≤ length a = omega arith in
      (min h.0 (length a), h.1 ∙ ap (λ t. old ++ t) (sym (take_min h.0 a) ∙ sym (take-append-le (min h.0 (length a)) a b within)))

-- a call that failed left part of the text
pub puts-failed : (old new text : List ℕ) {T E : Type 0} (r : Result T E) → IsErr r → (k : ℕ) × (new ≡ old ++ take k text) → Puts old new r text
puts-failed old new text (Ok x) h part = absurd cc
puts-failed old new text (Err e) h part = part
