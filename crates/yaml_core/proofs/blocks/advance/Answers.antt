use Rattle.std.proofs.Common.{◌≡◌, ℕ, List, ◌∷◌, Option, ap, sym, ◌∙◌, subst}
use Rattle.std.specs.Prelude.{option_map, option_and_then}
use Rattle.std.proofs.lemmas.Result.{err_from_is_err_and}
use Rattle.yaml_tokens.specs.Lexer.{with_kept}
use Rattle.yaml_core.specs.Stack.{meaning, FailsAs}
use Rattle.yaml_tokens.specs.Tokens.{Line, lines_tokens}
use Rattle.yaml_core.proofs.TextLemmas.{tree_in, tree-none, fails-token}
use Rattle.yaml_core.proofs.blocks.advance.Goals as goal

pub returns-in_err-stack : goal.returns-in_err-stack
returns-in_err-stack c =
    let e = c.in_err-stack.field-0.0 in
    let stack = c.args.stack in
    let names = c.args.names.now in
    let line = c.in-Some.tokens in
    let before = c.args.reached in
    let after = c.in_ok-tokens.reached in
    let front : (ls : List (List ℕ)) → lines_tokens before.is_first before.depth (c.args.line.now ∷ ls) ≡ option_map (λ rest. line ∷ rest) (lines_tokens after.is_first after.depth ls) =
    λ ls. c.in_ok-tokens.ensures.tokens ls ∙ ap (λ kept. with_kept kept (lines_tokens after.is_first after.depth ls)) c.in-Some.is in
    let p = err_from_is_err_and c.from_residual-in_err-stack.result c.from_residual-in_err-stack.ensures.1 in
    rw (p.1, p.2)
    (λ ls. subst (λ (o : Option (List Line)). FailsAs e (option_and_then (λ ts. tree_in (meaning stack ts names)) o)) (sym (front ls))
    (tree-none e stack names line (lines_tokens after.is_first after.depth ls) c.in_err-stack.ensures))

pub returns-in_err-tokens : goal.returns-in_err-tokens
returns-in_err-tokens c =
    let stack = c.args.stack in
    let names = c.args.names.now in
    let p = err_from_is_err_and c.from_residual.result c.from_residual.ensures.1 in
    rw (p.1, p.2) (λ ls. fails-token c.in_err-tokens.field-0.0 _ (λ ts. tree_in (meaning stack ts names)) (c.in_err-tokens.ensures.tokens ls))
