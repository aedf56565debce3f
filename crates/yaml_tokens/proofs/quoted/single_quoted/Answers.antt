use Rattle.std.proofs.Common.{◌≡◌, ◌<◌, ◌+◌, ◌++◌, ◌∷◌, [], arith, false, true, take, get_or, length, length-drop, ap, sym, ◌∙◌, subst, Some}
use Rattle.std.specs.Prelude.{string_bytes}
use Rattle.std.proofs.lemmas.Str.{IsCharBoundary-after_ascii}
use Rattle.yaml_tokens.specs.Quotes.{single_from, after_front, is_quote_first}
use Rattle.yaml_tokens.specs.Quoted.{up_to_single}
use Rattle.yaml_tokens.proofs.QuotesLemmas.{single-done, single-next, quote-byte, suffix-cut, range-take, reads-text}
use Rattle.yaml_tokens.proofs.quoted.single_quoted.Goals as goal

pub range_from-left-requires : goal.range_from-left-requires
range_from-left-requires c =
    let left = c.loop-turn.left.now in
    let n = c.in-Some.len in
    let same = c.as_bytes.ensures.value in
    let within : n < length left = subst (λ s. n < length s) same c.in-Some.ensures.within in
    let quote : get_or left n 0 ≡ 39 = ap (λ s. get_or s n 0) (sym same) ∙ c.in-Some.ensures.quote in
    λ _. IsCharBoundary-after_ascii left n c.loop-turn.invariant.utf8 within (omega arith)

pub range_from-left-requires-in-loop-turn : goal.range_from-left-requires-in-loop-turn
range_from-left-requires-in-loop-turn c =
    let left = c.range_from-left.result.now in
    let q = quote-byte left (ap is_quote_first (sym c.as_bytes-in-loop-turn.ensures.value) ∙ sym c.if-not-is_quote_first.ensures) in
    λ _. IsCharBoundary-after_ascii left 0 c.range_from-left.utf8 q.0 (omega (arith, q.1))

pub returns-then-not-is_quote_first : goal.returns-then-not-is_quote_first
returns-then-not-is_quote_first c =
    let rest = c.args.rest.now in
    let left = c.loop-turn.left.now in
    let next = c.range_from-left.result.now in
    let n = c.in-Some.len in
    let front = string_bytes c.loop-turn.text in
    let same = c.as_bytes.ensures.value in
    let e = c.range_from-left.ensures.value in
    let within : n < length left = subst (λ s. n < length s) same c.in-Some.ensures.within in
    let value : single_from false left ≡ after_front (take n left) (single_from true next) =
    subst (λ s. single_from false s ≡ up_to_single s (Some n)) same c.in-Some.ensures.value ∙ ap (λ x. after_front (take n left) (single_from true x)) (sym e) in
    let last : is_quote_first next ≡ false = ap is_quote_first (sym c.as_bytes-in-loop-turn.ensures.value) ∙ sym c.if-not-is_quote_first.ensures in
    let bytes : c.from_string.result ≡ front ++ take n left = c.from_string.ensures ∙ c.in_ok-push_str.ensures.bytes ∙ ap (λ x. front ++ x) (c.range.ensures.value ∙ range-take left n) in
    let suffix = suffix-cut rest left next (n + 1) e c.loop-turn.invariant.suffix (omega arith) (omega (arith, c.loop-turn.invariant.within)) in
    reads-text rest next c.from_string.result (single_from false rest) suffix c.range_from-left.utf8 (omega (arith, ap length e, length-drop (n + 1) left, c.loop-turn.invariant.within))
    (sym c.loop-turn.invariant.read ∙ single-done front (take n left) next left value last ∙ ap (λ x. Some (x, next)) (sym bytes))

pub loop-turn-preserved : goal.loop-turn-preserved
loop-turn-preserved c =
    let rest = c.args.rest.now in
    let left = c.loop-turn.left.now in
    let next = c.range_from-left.result.now in
    let n = c.in-Some.len in
    let front = string_bytes c.loop-turn.text in
    let same = c.as_bytes.ensures.value in
    let e = c.range_from-left.ensures.value in
    let e2 = c.range_from-left-in-loop-turn.ensures.value in
    let within : n < length left = subst (λ s. n < length s) same c.in-Some.ensures.within in
    let value : single_from false left ≡ after_front (take n left) (single_from true next) =
    subst (λ s. single_from false s ≡ up_to_single s (Some n)) same c.in-Some.ensures.value ∙ ap (λ x. after_front (take n left) (single_from true x)) (sym e) in
    let again : is_quote_first next ≡ true = ap is_quote_first (sym c.as_bytes-in-loop-turn.ensures.value) ∙ sym c.if-not-is_quote_first.ensures in
    let q = quote-byte next again in
    let bytes : string_bytes c.push_str-in-loop-turn.new.self ≡ (front ++ take n left) ++ 39 ∷ [] =
    c.in_ok-push_str-2.ensures.bytes ∙ ap (λ x. x ++ 39 ∷ []) (c.in_ok-push_str.ensures.bytes ∙ ap (λ x. front ++ x) (c.range.ensures.value ∙ range-take left n)) in
    let suffix = suffix-cut rest left next (n + 1) e c.loop-turn.invariant.suffix (omega arith) (omega (arith, c.loop-turn.invariant.within)) in
    let shorter : length next + (n + 1) ≡ length left = omega (arith, ap length e, length-drop (n + 1) left) in
    record {
      utf8 = c.range_from-left-in-loop-turn.utf8;
      within = omega (arith, ap length e2, length-drop 1 next, c.loop-turn.invariant.within);
      suffix = suffix-cut rest next c.range_from-left-in-loop-turn.result.now 1 e2 suffix (omega (arith, q.0)) (omega (arith, c.loop-turn.invariant.within));
      read = (λ i. after_front (bytes i) (single_from false (e2 i))) ∙ sym (single-next front (take n left) next left value again) ∙ c.loop-turn.invariant.read;
    }
