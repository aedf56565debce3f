use Rattle.std.proofs.Common.{◌≡◌, ◌≤◌, ◌-◌, length, true}
use Rattle.yaml_tokens.specs.declared.token.Before.TheVariants.{Nothing}
use Rattle.yaml_tokens.specs.Tokens.{tokens_from}
use Rattle.std.specs.Str.{IsUtf8}
use Rattle.yaml_tokens.specs.Lexer.{IsRising}
use Rattle.yaml_tokens.specs.Lexer.{EndsBelow}
use Rattle.yaml_tokens.proofs.LexerLemmas.{with_tokens}
use Rattle.yaml_tokens.proofs.lexer.tokens_of.Given as goal

abbrev pub invariant-loop-turn : goal.invariant-loop-turn
invariant-loop-turn l = record {
  text : IsUtf8 l.rest;
  within : length l.rest ≤ length l.line;
  rising : IsRising l.tokens;
  ends : EndsBelow l.tokens (length l.line - length l.rest);
  read : with_tokens l.tokens (tokens_from (length l.line - l._turn) (length l.line) l.spaced l.depth l.before l.rest) ≡ tokens_from (length l.line) (length l.line) true l.start Nothing l.line;
}
