use Rattle.std.proofs.Common.{◌∙◌, sym, arith}
use Rattle.chain_core.proofs.GoodLemmas.{ends_empty_is, empty_tested}
use Rattle.chain_core.proofs.checker.has_empty_end.Goals as goal

pub returns-then-count-ne0 : goal.returns-then-count-ne0
returns-then-count-ne0 c =
    let some = c.if-count-ne0.true in
    empty_tested c.is_empty.result c.lemma.result.now.literals c.is_empty.ensures ∙ sym (ends_empty_is c.args.log.now _ c.lemma.result.now (omega arith) c.lemma.ensures)
