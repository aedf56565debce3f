use Rattle.std.proofs.Common.{◌≡◌, ◌++◌, ℕ, take, refl, arith}
use Rattle.std.proofs.lemmas.Result.{err_from_is_err_and}
use Rattle.model_core.specs.Model.{rule_of}
use Rattle.report_core.specs.Classified.{classified_record}
use Rattle.report_core.proofs.RowLemmas.{next_is, next_ends, if_some, takes_none, takes_row, takes_all, cut_row, refused}
use Rattle.report_core.proofs.pieces.gather.Goals as goal

pub loop-table-init : goal.loop-table-init
loop-table-init c = record {
  fits = c.requires.fits;
  takes = takes_none c.args.problem.now (rule_of c.args.problem.now c.args.model.now) c.args.table.now c.clear.new.self.items c.clear.ensures.items;
  few = omega arith;
  less = omega (arith, c.clear.ensures.len);
}

pub loop-table-preserved : goal.loop-table-preserved
loop-table-preserved c =
    let problem = c.args.problem.now in
    let rule = rule_of problem c.args.model.now in
    let piece = c.loop-table.piece.items in
    let piece' = c.put_current_row.new.piece.items in
    let a = c.in_ok-advance.ensures in
    let next = next_is problem c.loop-table.table c.advance.new.self c.in_ok-advance.field-0 a.answer a.found c.if-not-branch.false a.table in
    let put = if_some (λ row. piece' ≡ piece ++ classified_record problem rule row) c.advance.new.self.current next.0 c.in_ok-put_current_row.ensures next.1.current in
    let less = next.1.less in
    let few = c.loop-table.invariant.few in
    record {
      fits = a.table.fits;
      takes = takes_row problem rule c.args.table.now c.loop-table.table piece c.loop-table.invariant.takes c.advance.new.self next.0 piece' next.1 put;
      few = omega (arith, less, few);
      less = λ some. omega (arith, less, few);
    }

pub returns-then-not-branch-clause-gathers : goal.returns-then-not-branch-clause-gathers
returns-then-not-branch-clause-gathers c =
    let problem = c.args.problem.now in
    let a = c.in_ok-advance.ensures in
    takes_all problem (rule_of problem c.args.model.now) c.args.table.now c.loop-table.table c.loop-table.piece.items c.loop-table.invariant.takes c.advance.new.self
    (next_ends problem c.loop-table.table c.advance.new.self c.in_ok-advance.field-0 a.answer a.found c.if-not-branch.true a.table)

pub returns-in_err-advance-clause-gathers : goal.returns-in_err-advance-clause-gathers
returns-in_err-advance-clause-gathers c =
    let problem = c.args.problem.now in
    let p = err_from_is_err_and c.from_residual.result c.from_residual.ensures.1 in
    rw (p.1, p.2) (refused problem (rule_of problem c.args.model.now) c.args.table.now c.loop-table.table c.loop-table.piece.items c.loop-table.invariant.takes c.advance.new.self
    c.in_err-advance.field-0.0 c.in_err-advance.ensures.answer)

pub returns-in_err-put_current_row-clause-gathers : goal.returns-in_err-put_current_row-clause-gathers
returns-in_err-put_current_row-clause-gathers c =
    let problem = c.args.problem.now in
    let rule = rule_of problem c.args.model.now in
    let piece = c.loop-table.piece.items in
    let piece' = c.put_current_row.new.piece.items in
    let a = c.in_ok-advance.ensures in
    let next = next_is problem c.loop-table.table c.advance.new.self c.in_ok-advance.field-0 a.answer a.found c.if-not-branch.false a.table in
    let put = if_some (λ row. (k : ℕ) × (piece' ≡ piece ++ take k (classified_record problem rule row))) c.advance.new.self.current next.0 c.in_err-put_current_row.ensures next.1.current in
    let p = err_from_is_err_and c.from_residual-in_err-put_current_row.result c.from_residual-in_err-put_current_row.ensures.1 in
    rw (p.1, p.2) (cut_row problem rule c.args.table.now c.loop-table.table piece c.loop-table.invariant.takes c.advance.new.self next.0 piece' next.1 put, λ other. absurd (other refl))
