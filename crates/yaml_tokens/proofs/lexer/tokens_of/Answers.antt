use Rattle.std.proofs.Common.{◌≡◌, ◌≢◌, ◌<◌, ◌+◌, ◌-◌, arith, get_or, ap, sym, ◌∙◌, length, drop, length-drop, subst, refl, true, false}
use Rattle.std.specs.Prelude.{◌==◌, ◌&&◌}
use Rattle.std.proofs.lemmas.Result.{err_from_is_err_and}
use Rattle.std.proofs.lemmas.Bool.Decides.{nat_tests}
use Rattle.std.proofs.lemmas.Str.{IsCharBoundary-after_ascii}
use Rattle.yaml_tokens.specs.declared.token.Before.TheVariants.{Nothing}
use Rattle.yaml_tokens.specs.declared.token.Placed.{Placed}
use Rattle.yaml_tokens.specs.Tokens.{tokens_from, token_at, Lexed}
use Rattle.yaml_tokens.specs.Lexer.{IsRising}
use Rattle.yaml_tokens.specs.Lexer.{EndsBelow}
use Rattle.yaml_tokens.proofs.LexerLemmas.{with_tokens, line-end-at, line-out, line-space, line-comment, line-next, line-none, rising-push, ends-push, ends-more}
use Rattle.yaml_tokens.proofs.FaultLemmas.{fails-gives}
use Rattle.yaml_tokens.proofs.lexer.tokens_of.Goals as goal

pub returns-then-is_empty-clause-tokens : goal.returns-then-is_empty-clause-tokens
returns-then-is_empty-clause-tokens c =
    let line = c.args.line.now in
    let none : length c.loop-turn.rest.now ≡ 0 = grind (arith, nat_tests, c.if-is_empty.ensures) in
    sym c.loop-turn.invariant.read ∙ line-end-at (length line - c.loop-turn._turn) (length line) c.loop-turn.spaced c.loop-turn.depth c.loop-turn.before c.loop-turn.rest.now c.loop-turn.tokens none

pub range_from-rest-requires : goal.range_from-rest-requires
range_from-rest-requires c =
    let s = c.loop-turn.rest.now in
    let some : 0 < length s = grind (arith, nat_tests, c.if-is_empty.ensures) in
    let space : get_or s 0 0 ≡ 32 = ap (λ xs. get_or xs 0 0) (sym c.as_bytes.ensures.value) ∙ c.if-as_bytes-eq32.true in
    λ _. IsCharBoundary-after_ascii s 0 c.loop-turn.invariant.text some (omega arith)

pub loop-turn-preserved-then-as_bytes-eq32 : goal.loop-turn-preserved-then-as_bytes-eq32
loop-turn-preserved-then-as_bytes-eq32 c =
    let line = c.args.line.now in
    let s = c.loop-turn.rest.now in
    let tokens = c.loop-turn.tokens in
    let left = length line - (c.loop-turn._turn + 1) in
    let some : 0 < length s = grind (arith, nat_tests, c.if-is_empty.ensures) in
    let space : get_or s 0 0 ≡ 32 = ap (λ xs. get_or xs 0 0) (sym c.as_bytes.ensures.value) ∙ c.if-as_bytes-eq32.true in
    let shorter : length c.range_from-rest.result.now + 1 ≡ length s = omega (arith, ap length c.range_from-rest.ensures.value, length-drop 1 s) in
    record {
      text = c.range_from-rest.utf8;
      within = omega (arith, c.loop-turn.invariant.within);
      rising = c.loop-turn.invariant.rising;
      ends = ends-more tokens (length line - length s) (length line - length c.range_from-rest.result.now) (omega (arith, c.loop-turn.invariant.within)) c.loop-turn.invariant.ends;
      read =
          ap (λ r. with_tokens tokens (tokens_from left (length line) true c.loop-turn.depth c.loop-turn.before r)) c.range_from-rest.ensures.value
          ∙ ap (with_tokens tokens) (sym (line-space (length line - c.loop-turn._turn) left (length line) c.loop-turn.spaced c.loop-turn.depth c.loop-turn.before s (omega arith) some space))
          ∙ c.loop-turn.invariant.read;
    }

pub returns-in_err-token-clause-tokens : goal.returns-in_err-token-clause-tokens
returns-in_err-token-clause-tokens c =
    let line = c.args.line.now in
    let s = c.loop-turn.rest.now in
    let p = err_from_is_err_and c.from_residual.result c.from_residual.ensures.1 in
    let some : 0 < length s = grind (arith, nat_tests, c.if-is_empty.ensures) in
    let other : get_or s 0 0 ≢ 32 = λ e. c.if-as_bytes-eq32.false (ap (λ xs. get_or xs 0 0) c.as_bytes.ensures.value ∙ e) in
    rw (p.1, p.2)
    (fails-gives c.in_err-token.field-0.0 (token_at c.loop-turn.depth c.loop-turn.before (get_or s 0 0) (drop 1 s)) (tokens_from (length line) (length line) true c.args.start Nothing line) c.in_err-token.ensures
    (λ none. sym c.loop-turn.invariant.read ∙ line-none (length line - c.loop-turn._turn) (length line) c.loop-turn.spaced c.loop-turn.depth c.loop-turn.before s c.loop-turn.tokens (omega arith) some other (ap (λ xs. get_or xs 0 0 == 35 && c.loop-turn.spaced) (sym c.as_bytes-in-loop-turn.ensures.value) ∙ sym c.if-begins_comment.ensures) none))

pub loop-turn-preserved : goal.loop-turn-preserved
loop-turn-preserved c =
    let line = c.args.line.now in
    let s = c.loop-turn.rest.now in
    let tokens = c.loop-turn.tokens in
    let left = length line - (c.loop-turn._turn + 1) in
    let taken = c.in_ok-token.taken in
    let some : 0 < length s = grind (arith, nat_tests, c.if-is_empty.ensures) in
    let other : get_or s 0 0 ≢ 32 = λ e. c.if-as_bytes-eq32.false (ap (λ xs. get_or xs 0 0) c.as_bytes.ensures.value ∙ e) in
    let takes = c.in_ok-token.ensures.1 in
    let rest = c.range_from-rest-in-loop-turn.result.now in
    let shorter : length rest + taken ≡ length s = omega (arith, ap length c.range_from-rest-in-loop-turn.ensures.value, length-drop taken s, takes.within) in
    let pushed = c.in_ok-tokens.ensures in
    let column = length line - length s in
    let placed : Placed = record { column = column; token = c.in_ok-token.token } in
    let x : Lexed = record { token = c.in_ok-token.token; rest = drop taken s; depth = c.in_ok-token.after } in
    record {
      text = c.range_from-rest-in-loop-turn.utf8;
      within = omega (arith, c.loop-turn.invariant.within);
      rising = subst IsRising (sym pushed) (rising-push tokens placed c.loop-turn.invariant.rising c.loop-turn.invariant.ends);
      ends = subst (λ ts. EndsBelow ts (length line - length rest)) (sym pushed) (ends-push tokens placed (length line - length rest) (omega (arith, takes.some, c.loop-turn.invariant.within)));
      read =
          (λ i. with_tokens (pushed i) (tokens_from left (length line) false c.in_ok-token.after (c.seen-before.ensures i) (c.range_from-rest-in-loop-turn.ensures.value i)))
          ∙ sym (line-next (length line - c.loop-turn._turn) left (length line) c.loop-turn.spaced c.loop-turn.depth c.loop-turn.before s tokens x column (omega arith) some other (ap (λ xs. get_or xs 0 0 == 35 && c.loop-turn.spaced) (sym c.as_bytes-in-loop-turn.ensures.value) ∙ sym c.if-begins_comment.ensures) refl c.in_ok-token.ensures.0)
          ∙ c.loop-turn.invariant.read;
    }

pub returns-clause-tokens : goal.returns-clause-tokens
returns-clause-tokens c =
    let line = c.args.line.now in
    let none : length line - c.loop-turn._turn ≡ 0 = omega arith in
    sym c.loop-turn.invariant.read
    ∙ ap (λ n. with_tokens c.loop-turn.tokens (tokens_from n (length line) c.loop-turn.spaced c.loop-turn.depth c.loop-turn.before c.loop-turn.rest.now)) none
    ∙ line-out (length line) c.loop-turn.spaced c.loop-turn.depth c.loop-turn.before c.loop-turn.rest.now c.loop-turn.tokens

pub returns-then-begins_comment-clause-tokens : goal.returns-then-begins_comment-clause-tokens
returns-then-begins_comment-clause-tokens c =
    let line = c.args.line.now in
    let s = c.loop-turn.rest.now in
    let some : 0 < length s = grind (arith, nat_tests, c.if-is_empty.ensures) in
    let other : get_or s 0 0 ≢ 32 = λ e. c.if-as_bytes-eq32.false (ap (λ xs. get_or xs 0 0) c.as_bytes.ensures.value ∙ e) in
    sym c.loop-turn.invariant.read
    ∙ line-comment (length line - c.loop-turn._turn) (length line) c.loop-turn.spaced c.loop-turn.depth c.loop-turn.before s c.loop-turn.tokens (omega arith) some other (ap (λ xs. get_or xs 0 0 == 35 && c.loop-turn.spaced) (sym c.as_bytes-in-loop-turn.ensures.value) ∙ sym c.if-begins_comment.ensures)
