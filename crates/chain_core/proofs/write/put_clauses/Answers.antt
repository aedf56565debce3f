use Rattle.std.proofs.Common.{◌<◌, length, arith}
use Rattle.chain_core.specs.Text.{line_of, clause_words}
use Rattle.chain_core.proofs.KnownLemmas.{clause_read}
use Rattle.chain_core.proofs.WriteLemmas.{more_put, cut_put}
use Rattle.chain_core.proofs.write.put_clauses.Goals as goal

pub returns-in_err-put_clause : goal.returns-in_err-put_clause
returns-in_err-put_clause c =
    let lt : c.loop-k.k < length c.args.formula.now.clauses = omega (arith, c.count-k-end.ensures.value, c.loop-k-test.true) in
    cut_put (λ x. line_of (clause_words x)) c.args.formula.now.clauses c.loop-k.k c.clause.result.now _ _ _ c.from_residual.result c.from_residual.ensures.0 lt (clause_read c.args.formula.now.clauses c.loop-k.k c.clause.result.now c.clause.ensures.clause) c.loop-k.invariant c.in_err-put_clause.ensures

pub loop-k-preserved : goal.loop-k-preserved
loop-k-preserved c =
    let lt : c.loop-k.k < length c.args.formula.now.clauses = omega (arith, c.count-k-end.ensures.value, c.loop-k-test.true) in
    more_put (λ x. line_of (clause_words x)) c.args.formula.now.clauses c.loop-k.k c.clause.result.now _ _ _ lt (clause_read c.args.formula.now.clauses c.loop-k.k c.clause.result.now c.clause.ensures.clause) c.loop-k.invariant c.in_ok-put_clause.ensures
