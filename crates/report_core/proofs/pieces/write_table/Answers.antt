use Rattle.std.proofs.Common.{◌≡◌, ◌∙◌, ℕ, List, [], refl}
use Rattle.std.proofs.KnownBytes.{Appends-nil}
use Rattle.std.proofs.lemmas.Result.{err_from_is_err_and}
use Rattle.model_core.specs.Model.{rule_of}
use Rattle.table_core.specs.Written.{header_fields, record_text}
use Rattle.report_core.specs.Classified.{classified_text, rows_text}
use Rattle.report_core.proofs.WriteLemmas.{part_of, rows_after}
use Rattle.report_core.proofs.pieces.write_table.Goals as goal

pub returns-in_err-put_header-clause-writes : goal.returns-in_err-put_header-clause-writes
returns-in_err-put_header-clause-writes g c =
    let p = err_from_is_err_and c.from_residual.result c.from_residual.ensures.1 in
    rw (p.1, p.2) (record { front = []; begins = (classified_text c.args.problem.now (rule_of c.args.problem.now c.args.model.now) c.args.table.now, refl); went = Appends-nil _ })

pub returns-in_err-put_all-clause-writes : goal.returns-in_err-put_all-clause-writes
returns-in_err-put_all-clause-writes g c =
    let problem = c.args.problem.now in
    let rule = rule_of problem c.args.model.now in
    let head : List ℕ = record_text (header_fields problem) in
    let rows : List ℕ = rows_text problem rule c.args.table.now in
    let is : c.deref.result.now ≡ head = c.deref.ensures.value ∙ (rw c.new-piece.ensures.items at c.in_ok-put_header.ensures.text) in
    let sends = rw is at c.in_err-put_all.ensures.sends in
    let p = err_from_is_err_and c.from_residual-in_err-put_all.result c.from_residual-in_err-put_all.ensures.1 in
    rw (p.1, p.2) (sends.cause.failed, part_of _ _ head (classified_text problem rule c.args.table.now) (rows, refl) sends.part)

pub returns-clause-writes : goal.returns-clause-writes
returns-clause-writes g c =
    let problem = c.args.problem.now in
    let rule = rule_of problem c.args.model.now in
    let head : List ℕ = record_text (header_fields problem) in
    let is : c.deref.result.now ≡ head = c.deref.ensures.value ∙ (rw c.new-piece.ensures.items at c.in_ok-put_header.ensures.text) in
    let sends = rw is at c.in_ok-put_all.ensures.sends in
    rows_after problem c.args.table.now head (rows_text problem rule c.args.table.now) (g.O.Sink.state c.args.sink.now) (g.O.Sink.state c.put_all.new.sink) (g.O.Sink.state c.write_rows.new.sink)
    sends.whole sends.cause.later c.write_rows.result c.write_rows.ensures.writes
