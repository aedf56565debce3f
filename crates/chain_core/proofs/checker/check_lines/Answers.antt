use Rattle.std.proofs.Common.{refl}
use Rattle.std.proofs.lemmas.Result.{err_from_is_err_and}
use Rattle.chain_core.proofs.FaultLemmas.{turn_line, stop_line, range_more}
use Rattle.chain_core.proofs.checker.check_lines.Goals as goal

pub loop-k-preserved : goal.loop-k-preserved
loop-k-preserved c = record {
  answer = turn_line c.args.formula.now c.args.log.now c.loop-k.k _ c.lemma-lemma.result.now _ c.lemma-lemma.ensures refl c.in_ok-check_lemma.ensures.answer c.loop-k.invariant.answer;
  range = range_more c.args.formula.now c.args.log.now c.loop-k.k c.lemma-lemma.result.now c.lemma-lemma.ensures c.loop-k.invariant.range c.in_ok-check_lemma.ensures.range;
  bound = c.in_ok-check_lemma.ensures.bound;
}

pub returns-in_err-check_lemma : goal.returns-in_err-check_lemma
returns-in_err-check_lemma c =
    let p = err_from_is_err_and c.from_residual.result c.from_residual.ensures.1 in
    rw (p.1, p.2) (stop_line c.args.formula.now c.args.log.now c.loop-k.k c.lemma-lemma.result.now _ _ c.lemma-lemma.ensures c.in_err-check_lemma.ensures.answer c.loop-k.invariant.answer)
