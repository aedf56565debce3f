use Rattle.std.proofs.Common.{◌≡◌, arith, true, refl}
use Rattle.std.specs.Prelude.{nat_lt}
use Rattle.std.proofs.lemmas.Bool.Decides.{nat_tests}
use Rattle.yaml_tokens.proofs.LexerLemmas.{takes-one}
use Rattle.yaml_tokens.proofs.lexer.open_token.Goals as goal

pub returns-then-depth-lt-MOST_OPEN : goal.returns-then-depth-lt-MOST_OPEN
returns-then-depth-lt-MOST_OPEN c =
    let few : nat_lt c.args.depth 64 ≡ true = grind (arith, nat_tests) in
    (rw few refl, takes-one c.args.rest.now c.utf8.rest c.requires.some (omega arith))
