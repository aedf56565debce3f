use Rattle.std.proofs.Common.{◌<◌, length, arith}
use Rattle.chain_core.specs.Text.{line_of, clause_words}
use Rattle.chain_core.proofs.KnownLemmas.{clause_read}
use Rattle.stream_core.proofs.Steps.{item_put, item_cut, stays, all_put}
use Rattle.stream_core.proofs.send.put_clauses.Goals as goal

pub loop-k-init : goal.loop-k-init
loop-k-init g c = stays _ _ _

pub returns-in_err-put_clause : goal.returns-in_err-put_clause
returns-in_err-put_clause g c =
    let lt : c.loop-k.k < length c.args.formula.now.clauses = omega (arith, c.count-k-end.ensures.value, c.loop-k-test.true) in
    item_cut (λ x. line_of (clause_words x)) c.args.formula.now.clauses c.loop-k.k c.clause.result.now c.from_residual.result c.from_residual.ensures.0 lt
    (clause_read c.args.formula.now.clauses c.loop-k.k c.clause.result.now c.clause.ensures.clause) c.loop-k.invariant c.in_err-put_clause.ensures

pub loop-k-preserved : goal.loop-k-preserved
loop-k-preserved g c =
    let lt : c.loop-k.k < length c.args.formula.now.clauses = omega (arith, c.count-k-end.ensures.value, c.loop-k-test.true) in
    item_put (λ x. line_of (clause_words x)) c.args.formula.now.clauses c.loop-k.k c.clause.result.now lt
    (clause_read c.args.formula.now.clauses c.loop-k.k c.clause.result.now c.clause.ensures.clause) c.loop-k.invariant c.in_ok-put_clause.ensures

pub returns : goal.returns
returns g c = all_put (λ x. line_of (clause_words x)) c.args.formula.now.clauses c.loop-k.k _ (omega (arith, c.count-k-end.ensures.value, c.loop-k-test.false)) c.loop-k.invariant
