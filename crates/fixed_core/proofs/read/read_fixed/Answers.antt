use Rattle.std.proofs.Common.{◌≡◌, ◌+◌, ◌≤◌, ◌*◌, ◌^◌, ◌++◌, [], length, sym, ap, ◌∙◌, Some}
use Rattle.std.specs.Str.Parse.{digits_value}
use Rattle.std.proofs.lemmas.Bool.{eqb-true}
use Rattle.fixed_core.specs.Numeral.{numeral_of}
use Rattle.fixed_core.specs.Parts.{numeral_in}
use Rattle.fixed_core.specs.Value.{fixed_of, fixed_quotient}
use Rattle.fixed_core.proofs.Meaning.{answer_reads, reads_as}
use Rattle.fixed_core.proofs.NumeralFacts.{fixed-shape, fixed-numeral, fixed-quotient, no_exponent, no_items}
use Rattle.fixed_core.proofs.DigitFacts.{low_whole}
use Rattle.fixed_core.proofs.read.read_fixed.Goals as goal

pub returns-in_default : goal.returns-in_default
returns-in_default c =
    let none = fixed-shape c.args.text.now (rw c.as_bytes.ensures.value at (sym c.in_default.ensures.value)) in
    record { answer = sym none; meaning = rw none at (reads_as c.args.text.now) }

pub returns : goal.returns
returns c =
    let p = c.in-Some.parts in
    let number : numeral_of c.args.text.now ≡ Some (numeral_in p) = rw c.as_bytes.ensures.value at (sym c.in-Some.ensures.value) in
    let answer : c.long_fixed.result ≡ fixed_of c.args.text.now =
    c.long_fixed.ensures ∙ sym (fixed-numeral c.args.text.now (numeral_in p) number ∙ fixed-quotient (numeral_in p)) in
    record { answer = answer; meaning = answer_reads c.args.text.now c.long_fixed.result answer }

pub returns-then-parts-scale-le-SHORT_DIGITS : goal.returns-then-parts-scale-le-SHORT_DIGITS
returns-then-parts-scale-le-SHORT_DIGITS c =
    let p = c.in-Some.parts in
    let number : numeral_of c.args.text.now ≡ Some (numeral_in p) = rw c.as_bytes.ensures.value at (sym c.in-Some.ensures.value) in
    let none : p.exponent.now ≡ [] = no_items p.exponent.now (eqb-true (length p.exponent.now) 0 (sym c.if-is_empty.ensures)) in
    let few : length p.whole.now + length p.fraction.now ≤ 19 = c.if-parts-scale-le-SHORT_DIGITS.true in
    let value = digits_value 10 (p.whole.now ++ p.fraction.now) in
    let low : value ≡ p.low = low_whole p.whole.now p.fraction.now c.in-Some.ensures.whole c.in-Some.ensures.fraction few ∙ sym c.in-Some.ensures.low in
    let answer : c.short_fixed.result ≡ fixed_of c.args.text.now =
    c.short_fixed.ensures ∙ ap (λ m. fixed_quotient p.negative (m * 10 ^ 18) (10 ^ length p.fraction.now)) (sym low)
    ∙ sym (fixed-numeral c.args.text.now (numeral_in p) number ∙ no_exponent (numeral_in p) none) in
    record { answer = answer; meaning = answer_reads c.args.text.now c.short_fixed.result answer }
