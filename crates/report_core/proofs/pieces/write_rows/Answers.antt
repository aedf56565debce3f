use Rattle.std.proofs.Common.{◌∙◌, refl, arith}
use Rattle.std.proofs.lemmas.Result.{err_from_is_err_and}
use Rattle.edge_core.proofs.Sent.{sent_none}
use Rattle.model_core.specs.Model.{rule_of}
use Rattle.report_core.specs.Classified.{rows_text}
use Rattle.report_core.proofs.WriteLemmas.{written_more, written_last, sent_next, whole_after, ends_after}
use Rattle.report_core.proofs.pieces.write_rows.Goals as goal

pub loop-init : goal.loop-init
loop-init g c = record { fits = c.requires.fits; sent = sent_none _ _; end = refl; count = refl; later = omega arith }

pub loop-preserved : goal.loop-preserved
loop-preserved g c =
    let problem = c.args.problem.now in
    let rule = rule_of problem c.args.model.now in
    let it = c.loop.invariant in
    let done = c.in_ok-write_piece.ensures in
    let more = written_more problem rule c.loop.table c.write_piece.new.table (g.O.Sink.state c.loop.sink) (g.O.Sink.state c.write_piece.new.sink) c.in_ok-write_piece.field-0 done.writes c.if-branch.true in
    let count = it.count in
    let taken = more.1.count in
    let before = it.later in
    let after = done.later in
    record {
      fits = done.fits;
      sent = sent_next (g.O.Sink.state c.args.sink.now).written (g.O.Sink.state c.loop.sink).written (g.O.Sink.state c.write_piece.new.sink).written
          (rows_text problem rule c.args.table.now) (rows_text problem rule c.loop.table) more.0 (rows_text problem rule c.write_piece.new.table) it.sent more.1.text more.2;
      end = it.end ∙ more.1.end;
      count = omega (arith, count, taken);
      later = omega (arith, before, after);
    }

pub loop-smaller : goal.loop-smaller
loop-smaller g c =
    let problem = c.args.problem.now in
    let rule = rule_of problem c.args.model.now in
    let more = written_more problem rule c.loop.table c.write_piece.new.table (g.O.Sink.state c.loop.sink) (g.O.Sink.state c.write_piece.new.sink) c.in_ok-write_piece.field-0 c.in_ok-write_piece.ensures.writes c.if-branch.true in
    more.3

pub returns-in_err-write_piece-clause-writes : goal.returns-in_err-write_piece-clause-writes
returns-in_err-write_piece-clause-writes g c =
    let problem = c.args.problem.now in
    let rule = rule_of problem c.args.model.now in
    let it = c.loop.invariant in
    let p = err_from_is_err_and c.from_residual.result c.from_residual.ensures.1 in
    rw (p.1, p.2) (ends_after problem c.args.table.now c.loop.table (rows_text problem rule c.args.table.now) it.sent.front (rows_text problem rule c.loop.table) it.sent.parts (g.O.Sink.state c.args.sink.now) (g.O.Sink.state c.loop.sink) (g.O.Sink.state c.write_piece.new.sink) it.sent.went it.end it.later
    c.in_err-write_piece.field-0.0 c.in_err-write_piece.ensures.writes)

pub returns-clause-writes : goal.returns-clause-writes
returns-clause-writes g c =
    let problem = c.args.problem.now in
    let rule = rule_of problem c.args.model.now in
    let it = c.loop.invariant in
    let last = written_last problem rule c.loop.table c.write_piece.new.table (g.O.Sink.state c.loop.sink) (g.O.Sink.state c.write_piece.new.sink) c.in_ok-write_piece.field-0 c.in_ok-write_piece.ensures.writes c.if-branch.false in
    let whole = whole_after problem c.args.table.now c.loop.table (rows_text problem rule c.args.table.now) it.sent.front (rows_text problem rule c.loop.table) it.sent.parts (g.O.Sink.state c.args.sink.now) (g.O.Sink.state c.loop.sink) (g.O.Sink.state c.write_piece.new.sink) it.sent.went it.end it.later last.0 in
    let count = it.count in
    let taken = last.1.count in
    (whole, it.end ∙ last.1.fine, omega (arith, count, taken))
