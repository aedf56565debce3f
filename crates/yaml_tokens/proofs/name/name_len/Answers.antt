use Rattle.std.proofs.Common.{◌≡◌, ◌∙◌, sym, get_or, true, below_more}
use Rattle.yaml_tokens.specs.Tokens.{is_name}
use Rattle.yaml_tokens.proofs.NameLemmas.{name-turn, name-ascii}
use Rattle.yaml_tokens.proofs.name.name_len.Goals as goal

pub loop-at-preserved : goal.loop-at-preserved
loop-at-preserved c =
    let bytes = c.args.bytes.now in
    let at = c.loop-at.at in
    let in_name : is_name (get_or bytes at 0) ≡ true = sym c.is_name.ensures ∙ c.if-not-is_name.false in
    record {
      ascii = below_more _ _ c.loop-at.invariant.ascii (name-ascii (get_or bytes at 0) in_name);
      read = sym (name-turn bytes at c.loop-at-test.true in_name) ∙ c.loop-at.invariant.read;
    }
