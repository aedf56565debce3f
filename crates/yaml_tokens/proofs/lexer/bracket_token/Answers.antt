use Rattle.std.proofs.Common.{◌≡◌, arith, get_or, ap, sym, ◌∙◌, drop}
use Rattle.yaml_tokens.specs.Tokens.{bracket_token}
use Rattle.yaml_tokens.proofs.LexerLemmas.{takes-one}
use Rattle.yaml_tokens.proofs.lexer.bracket_token.Goals as goal

pub returns-then-b-eq93 : goal.returns-then-b-eq93
returns-then-b-eq93 c =
    let s = c.args.rest.now in
    let e : get_or s 0 0 ≡ 93 = ap (λ xs. get_or xs 0 0) (sym c.as_bytes.ensures.value) ∙ c.if-b-eq93.true in
    (ap (λ b. bracket_token c.args.depth b (drop 1 s)) e, takes-one s c.utf8.rest c.requires.some (omega arith))

pub returns-then-b-eq44 : goal.returns-then-b-eq44
returns-then-b-eq44 c =
    let s = c.args.rest.now in
    let e : get_or s 0 0 ≡ 44 = ap (λ xs. get_or xs 0 0) (sym c.as_bytes.ensures.value) ∙ c.if-b-eq44.true in
    (ap (λ b. bracket_token c.args.depth b (drop 1 s)) e, takes-one s c.utf8.rest c.requires.some (omega arith))
