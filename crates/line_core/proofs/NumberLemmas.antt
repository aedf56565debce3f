-- Numbers that are too large.
use Rattle.std.proofs.Common.{◌≡◌, ℕ, ◌^◌, ◌<◌, ◌&&◌, nat_lt, nat_le, Bool, true, false, if◌then◌else◌, List, length, Some, None, Err, ap, ◌∙◌, inl, inr, refl, arith, rules}
use Rattle.std.specs.List.{list_all}
use Rattle.std.specs.Char.{is_ascii_digit}
use Rattle.std.specs.Str.Parse.{digits_value, without_leading_plus, IsNumeral}
use Rattle.std.proofs.lemmas.Bool.{cases_lt, lt-leb, ltb-true, and_parts}
use Rattle.std.proofs.lemmas.Str.Parse.{IsNumeralModel, numerals_by_value, parse_digits}
use Rattle.line_core.specs.Number.{is_number, number_in}

numerals : IsNumeralModel (λ ds. list_all is_ascii_digit ds ≡ true) (digits_value 10)
numerals = numerals_by_value _ (search rules)

and_none : (b : Bool) → (b && false) ≡ false
and_none true = refl
and_none false = refl

-- a number that has no room is in no range
pub number_in-large : (least most : ℕ) (text : List ℕ) → most < 2 ^ 64 → is_number text ≡ true → ¬ (IsNumeral 10 (without_leading_plus text) × (digits_value 10 (without_leading_plus text) < 2 ^ 64)) → number_in least most text ≡ None
number_in-large least most text few number large =
    let some : Bool = nat_lt 0 (length text) in
    let digits : Bool = list_all is_ascii_digit text in
    let both = and_parts some digits number in
    let refused = parse_digits numerals {E = Unit {0}} 64 text (Err tt) large both.1 in
    elim (cases_lt most (digits_value 10 text)) [
      | inr below ↦ absurd (refused (ltb-true 0 (length text) both.0, omega (arith, below, few)))
      | inl above ↦
          ap (λ (b : Bool). if b && (nat_le least (digits_value 10 text) && nat_le (digits_value 10 text) most) then Some (digits_value 10 text) else None) number
          ∙ ap (λ (b : Bool). if nat_le least (digits_value 10 text) && b then Some (digits_value 10 text) else None) (lt-leb (digits_value 10 text) most above)
          ∙ ap (λ (b : Bool). if b then Some (digits_value 10 text) else None) (and_none (nat_le least (digits_value 10 text)))
    ]
