use Rattle.std.proofs.Common.{inr, sym, ◌∙◌, ap}
use Rattle.std.specs.Prelude.{option_map}
use Rattle.std.proofs.lemmas.Result.{err_from_is_err_and}
use Rattle.yaml_core.specs.Tree.{text_measured}
use Rattle.yaml_core.specs.Read.{within_limit}
use Rattle.yaml_core.proofs.ReadLemmas.{reading-utf8, reading-not-utf8, fails-reading, answers, text-levels, levels-of}
use Rattle.yaml_core.proofs.read.read_yaml.Goals as goal

pub returns-in_default : goal.returns-in_default
returns-in_default c = record { levels = tt; keys = tt; answer = inr (reading-not-utf8 c.args.bytes.now c.in_default.ensures.cases.0) }

pub returns-in_err-tree : goal.returns-in_err-tree
returns-in_err-tree c =
    let p = err_from_is_err_and c.from_residual.result c.from_residual.ensures.1 in
    let read = reading-utf8 c.in-Ok.text.now c.args.bytes.now c.in-Ok.ensures.cases in
    rw (p.1, p.2) (record {
      levels = tt;
      keys = tt;
      answer = rw read (fails-reading c.in_err-tree.field-0.0 (text_measured c.in-Ok.text.now) c.in_err-tree.ensures);
    })

pub returns : goal.returns
returns c =
    let read = reading-utf8 c.in-Ok.text.now c.args.bytes.now c.in-Ok.ensures.cases in
    record {
      levels = levels-of c.into_node.result c.in_ok-tree.tree c.into_node.ensures.levels (text-levels c.in-Ok.text.now c.in_ok-tree.tree c.in_ok-tree.ensures);
      keys = c.into_node.ensures.keys;
      answer = answers _ _ (read ∙ ap (λ o. within_limit (option_map (λ m. m.node) o)) c.in_ok-tree.ensures ∙ sym c.into_node.ensures.answer);
    }
