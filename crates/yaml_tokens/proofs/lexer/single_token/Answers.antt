use Rattle.std.proofs.Common.{arith, sym, subst, false}
use Rattle.std.proofs.lemmas.Str.{IsCharBoundary-after_ascii}
use Rattle.yaml_tokens.specs.Quotes.{single_from}
use Rattle.yaml_tokens.specs.Tokens.{quoted_token}
use Rattle.yaml_tokens.specs.Lexer.{LexesAs}
use Rattle.yaml_tokens.proofs.QuotesLemmas.{behind-quote}
use Rattle.yaml_tokens.proofs.lexer.single_token.Goals as goal

pub range_from-requires : goal.range_from-requires
range_from-requires c = λ _. IsCharBoundary-after_ascii c.args.rest.now 0 c.utf8.rest c.requires.some (omega arith)

pub returns : goal.returns
returns c =
    let s = c.args.rest.now in
    let read = behind-quote s c.range_from.result.now c.in_ok-text.text c.in_ok-text.taken (single_from false) c.range_from.ensures.value c.in_ok-text.ensures.0 in
    subst (λ r. LexesAs s c.quoted_token.result (quoted_token c.args.depth r)) (sym read) c.quoted_token.ensures
