use Rattle.std.proofs.Common.{◌≡◌, ◌≢◌, ◌<◌, ◌+◌, ◌++◌, arith, true, take, drop, get_or, length, length-drop, ap, sym, ◌∙◌, subst, Some}
use Rattle.std.specs.Prelude.{string_bytes, ◌==◌, ◌||◌, encode_utf8}
use Rattle.std.proofs.lemmas.Str.{IsCharBoundary-after_ascii}
use Rattle.yaml_tokens.specs.Quotes.{double_from, after_front, in_text, in_escape}
use Rattle.yaml_tokens.specs.Quoted.{up_to_double, up_to_escape, EndsAscii}
use Rattle.yaml_tokens.proofs.QuotesLemmas.{after_front-after, double-done, double-escape, mark-ascii, ends-boundary, suffix-cut, range-take, reads-text}
use Rattle.yaml_tokens.proofs.quoted.double_quoted.Goals as goal

pub range_from-left-requires : goal.range_from-left-requires
range_from-left-requires c =
    let left = c.loop-turn.left.now in
    let n = c.in-Some.len in
    let same = c.as_bytes.ensures.value in
    let within : n < length left = subst (λ s. n < length s) same c.in-Some.ensures.within in
    let mark : (get_or left n 0 == 34 || get_or left n 0 == 92) ≡ true = ap (λ s. get_or s n 0 == 34 || get_or s n 0 == 92) (sym same) ∙ c.in-Some.ensures.mark in
    λ _. IsCharBoundary-after_ascii left n c.loop-turn.invariant.utf8 within (mark-ascii (get_or left n 0) mark)

pub returns-then-is_end : goal.returns-then-is_end
returns-then-is_end c =
    let rest = c.args.rest.now in
    let left = c.loop-turn.left.now in
    let next = c.range_from-left.result.now in
    let n = c.in-Some.len in
    let front = string_bytes c.loop-turn.text in
    let same = c.as_bytes.ensures.value in
    let e = c.range_from-left.ensures.value in
    let within : n < length left = subst (λ s. n < length s) same c.in-Some.ensures.within in
    let value : double_from in_text left ≡ after_front (take n left) (double_from in_text (drop n left)) = subst (λ s. double_from in_text s ≡ up_to_double s (Some n)) same c.in-Some.ensures.value in
    let end : get_or left n 0 ≡ 34 = ap (λ s. get_or s n 0) (sym c.as_bytes-in-loop-turn.ensures.value) ∙ c.if-is_end.true in
    let bytes : c.from_string.result ≡ front ++ take n left = c.from_string.ensures ∙ c.in_ok-push_str.ensures.bytes ∙ ap (λ x. front ++ x) (c.range.ensures.value ∙ range-take left n) in
    let suffix = suffix-cut rest left next (n + 1) e c.loop-turn.invariant.suffix (omega arith) (omega (arith, c.loop-turn.invariant.within)) in
    reads-text rest next c.from_string.result (double_from in_text rest) suffix c.range_from-left.utf8 (omega (arith, ap length e, length-drop (n + 1) left, c.loop-turn.invariant.within))
    (sym c.loop-turn.invariant.read ∙ double-done front left n value within end ∙ (λ i. Some (sym bytes i, sym e i)))

pub range_from-left-requires-in-loop-turn : goal.range_from-left-requires-in-loop-turn
range_from-left-requires-in-loop-turn c =
    λ _. ends-boundary c.range_from-left.result.now c.in-Some-escape.taken c.range_from-left.utf8
    (subst (λ s. EndsAscii s c.in-Some-escape.taken) c.as_bytes-in-loop-turn-2.ensures.value c.in-Some-escape.ensures.ascii)

pub loop-turn-preserved : goal.loop-turn-preserved
loop-turn-preserved c =
    let rest = c.args.rest.now in
    let left = c.loop-turn.left.now in
    let next = c.range_from-left.result.now in
    let n = c.in-Some.len in
    let ch = c.in-Some-escape.c in
    let taken = c.in-Some-escape.taken in
    let front = string_bytes c.loop-turn.text in
    let same = c.as_bytes.ensures.value in
    let e = c.range_from-left.ensures.value in
    let e2 = c.range_from-left-in-loop-turn.ensures.value in
    let within : n < length left = subst (λ s. n < length s) same c.in-Some.ensures.within in
    let mark : (get_or left n 0 == 34 || get_or left n 0 == 92) ≡ true = ap (λ s. get_or s n 0 == 34 || get_or s n 0 == 92) (sym same) ∙ c.in-Some.ensures.mark in
    let other : get_or left n 0 ≢ 34 = λ h. c.if-is_end.false (ap (λ s. get_or s n 0) c.as_bytes-in-loop-turn.ensures.value ∙ h) in
    let value : double_from in_text left ≡ after_front (take n left) (double_from in_text (drop n left)) = subst (λ s. double_from in_text s ≡ up_to_double s (Some n)) same c.in-Some.ensures.value in
    let escaped : double_from in_escape next ≡ after_front (encode_utf8 ch) (double_from in_text (drop taken next)) =
    subst (λ s. double_from in_escape s ≡ up_to_escape s (Some (ch, taken))) c.as_bytes-in-loop-turn-2.ensures.value c.in-Some-escape.ensures.value in
    let some : EndsAscii next taken = subst (λ s. EndsAscii s taken) c.as_bytes-in-loop-turn-2.ensures.value c.in-Some-escape.ensures.ascii in
    let bytes : string_bytes c.push.new.self ≡ (front ++ take n left) ++ encode_utf8 ch =
    c.in_ok-push.ensures.bytes ∙ ap (λ x. x ++ encode_utf8 ch) (c.in_ok-push_str.ensures.bytes ∙ ap (λ x. front ++ x) (c.range.ensures.value ∙ range-take left n)) in
    let suffix = suffix-cut rest left next (n + 1) e c.loop-turn.invariant.suffix (omega arith) (omega (arith, c.loop-turn.invariant.within)) in
    let shorter : length next + (n + 1) ≡ length left = omega (arith, ap length e, length-drop (n + 1) left) in
    record {
      utf8 = c.range_from-left-in-loop-turn.utf8;
      within = omega (arith, ap length e2, length-drop taken next, c.loop-turn.invariant.within);
      suffix = suffix-cut rest next c.range_from-left-in-loop-turn.result.now taken e2 suffix some.1 (omega (arith, c.loop-turn.invariant.within));
      read =
          (λ i. after_front (bytes i) (double_from in_text (e2 i)))
          ∙ sym (after_front-after (front ++ take n left) (encode_utf8 ch) (double_from in_text (drop taken next)))
          ∙ ap (after_front (front ++ take n left)) (sym escaped)
          ∙ ap (λ x. after_front (front ++ take n left) (double_from in_escape x)) e
          ∙ sym (double-escape front left n value within mark other)
          ∙ c.loop-turn.invariant.read;
    }
