use Rattle.std.proofs.Common.{◌≡◌, ◌-◌, ◌∙◌, ℕ, List, Result, Ok, length, ap, sym, arith}
use Rattle.std.proofs.lemmas.Result.{err_from_is_err_and}
use Rattle.table_core.specs.Rows.{rows_left}
use Rattle.table_core.specs.declared.fault.RowFault.{RowFault}
use Rattle.report_core.specs.Described.{counts_text, table_description}
use Rattle.report_core.proofs.CountLemmas.{described, described_nothing, described_whole, described_partly, why_not}
use Rattle.report_core.proofs.table_text.put_table.Goals as goal

pub returns-in_err-counts : goal.returns-in_err-counts
returns-in_err-counts c =
    let p = err_from_is_err_and c.from_residual.result c.from_residual.ensures.1 in
    rw (p.1, p.2) (described_nothing (table_description c.args.problem.now c.args.table.now) c.args.out.now.items c.in_err-counts.field-0.0
    (why_not c.args.problem.now c.args.table.now c.in_err-counts.field-0.0 c.in_err-counts.ensures.refused))

pub returns-in_err-put_counts : goal.returns-in_err-put_counts
returns-in_err-put_counts c =
    let problem = c.args.problem.now in
    let table = c.args.table.now in
    let counts = c.in_ok-counts.counts in
    let it = c.in_ok-counts.ensures in
    let number = it.rows in
    let rows : c.rows_read.result - c.rows_read-before.result ≡ length (rows_left problem table).0 = omega (arith, number) in
    let good : ℕ → Result (List ℕ) RowFault = λ n. Ok (counts_text n counts.classified counts.categories.items) in
    let is : table_description problem table ≡ good (c.rows_read.result - c.rows_read-before.result) = described problem table counts it.fine it.size it.counts ∙ ap good (sym rows) in
    let text : List ℕ = counts_text (c.rows_read.result - c.rows_read-before.result) counts.classified counts.categories.items in
    let p = err_from_is_err_and c.from_residual-in_err-put_counts.result c.from_residual-in_err-put_counts.ensures.1 in
    let part = rw c.deref.ensures.value at c.in_err-put_counts.ensures in
    rw (p.1, p.2) (described_partly (table_description problem table) text c.args.out.now.items c.put_counts.new.out.items is part)

pub returns : goal.returns
returns c =
    let problem = c.args.problem.now in
    let table = c.args.table.now in
    let counts = c.in_ok-counts.counts in
    let it = c.in_ok-counts.ensures in
    let number = it.rows in
    let rows : c.rows_read.result - c.rows_read-before.result ≡ length (rows_left problem table).0 = omega (arith, number) in
    let good : ℕ → Result (List ℕ) RowFault = λ n. Ok (counts_text n counts.classified counts.categories.items) in
    let is : table_description problem table ≡ good (c.rows_read.result - c.rows_read-before.result) = described problem table counts it.fine it.size it.counts ∙ ap good (sym rows) in
    let text : List ℕ = counts_text (c.rows_read.result - c.rows_read-before.result) counts.classified counts.categories.items in
    let put = rw c.deref.ensures.value at c.in_ok-put_counts.ensures in
    described_whole (table_description problem table) text c.args.out.now.items c.put_counts.new.out.items is put
