use Rattle.std.proofs.Common.{◌≡◌, get_or, ap, sym, ◌∙◌, drop, subst}
use Rattle.yaml_tokens.specs.Tokens.{token_at}
use Rattle.yaml_tokens.specs.Lexer.{LexesAs}
use Rattle.yaml_tokens.proofs.lexer.token_at.Goals as goal

pub returns-then-b-eq39 : goal.returns-then-b-eq39
returns-then-b-eq39 c =
    let s = c.args.rest.now in
    let e : get_or s 0 0 ≡ 39 = ap (λ xs. get_or xs 0 0) (sym c.as_bytes.ensures.value) ∙ c.if-b-eq39.true in
    subst (LexesAs s c.single_token.result) (sym (ap (λ b. token_at c.args.depth c.args.before b (drop 1 s)) e)) c.single_token.ensures

pub returns-then-b-eq34 : goal.returns-then-b-eq34
returns-then-b-eq34 c =
    let s = c.args.rest.now in
    let e : get_or s 0 0 ≡ 34 = ap (λ xs. get_or xs 0 0) (sym c.as_bytes.ensures.value) ∙ c.if-b-eq34.true in
    subst (LexesAs s c.double_token.result) (sym (ap (λ b. token_at c.args.depth c.args.before b (drop 1 s)) e)) c.double_token.ensures

pub returns-then-b-eq38 : goal.returns-then-b-eq38
returns-then-b-eq38 c =
    let s = c.args.rest.now in
    let e : get_or s 0 0 ≡ 38 = ap (λ xs. get_or xs 0 0) (sym c.as_bytes.ensures.value) ∙ c.if-b-eq38.true in
    subst (LexesAs s c.name_token.result) (sym (ap (λ b. token_at c.args.depth c.args.before b (drop 1 s)) e)) c.name_token.ensures

pub returns-then-b-eq42 : goal.returns-then-b-eq42
returns-then-b-eq42 c =
    let s = c.args.rest.now in
    let e : get_or s 0 0 ≡ 42 = ap (λ xs. get_or xs 0 0) (sym c.as_bytes.ensures.value) ∙ c.if-b-eq42.true in
    subst (LexesAs s c.name_token-then-b-eq42.result) (sym (ap (λ b. token_at c.args.depth c.args.before b (drop 1 s)) e)) c.name_token-then-b-eq42.ensures

pub returns-then-b-eq91 : goal.returns-then-b-eq91
returns-then-b-eq91 c =
    let s = c.args.rest.now in
    let e : get_or s 0 0 ≡ 91 = ap (λ xs. get_or xs 0 0) (sym c.as_bytes.ensures.value) ∙ c.if-b-eq91.true in
    subst (LexesAs s c.open_token.result) (sym (ap (λ b. token_at c.args.depth c.args.before b (drop 1 s)) e)) c.open_token.ensures
