use Rattle.std.proofs.Common.{◌≡◌, inl, inr, ◌<◌, ◌+◌, ℕ, List, Option, Ok, IfSome, length, sym, ap, ◌∙◌, subst, refl, arith}
use Rattle.std.proofs.lemmas.List.{length-replicate}
use Rattle.std.proofs.lemmas.Result.{err_from_is_err_and}
use Rattle.table_core.specs.Rows.{RowsRead, rows_left}
use Rattle.table_core.specs.declared.row.Row.{Row}
use Rattle.table_core.proofs.BelongFacts.{next-category}
use Rattle.table_core.proofs.RowsFacts.{rows_left-fault}
use Rattle.report_core.specs.Counts.{AreCounted}
use Rattle.report_core.proofs.CountLemmas.{none_counted, none_at_most, row_counted, row_at_most, at_most_more}
use Rattle.report_core.proofs.RowLemmas.{next_is, next_ends, if_some}
use Rattle.report_core.proofs.counts.count_rows.Goals as goal

pub loop-counts-init : goal.loop-counts-init
loop-counts-init c =
    let zeros = c.in_ok-counts.ensures.1 in
    record {
      fits = c.requires;
      counted = none_counted (rows_left c.args.problem.now c.args.table.now).0 c.categories_count.result c.in_ok-counts.counts c.in_ok-counts.ensures.0 zeros;
      few = none_at_most c.args.table.now.number c.categories_count.result c.in_ok-counts.counts c.in_ok-counts.ensures.0 zeros;
      size = ap length zeros ∙ length-replicate {A = ℕ} c.categories_count.result 0 ∙ c.categories_count.ensures.count;
      end = refl;
      number = refl;
    }

pub count_row-requires-clause-place : goal.count_row-requires-clause-place
count_row-requires-clause-place c =
    let problem = c.args.problem.now in
    let a = c.in_ok-advance.ensures in
    let next = next_is problem c.loop-counts.table c.advance.new.self c.in_ok-advance.field-0 a.answer a.found c.if-branch.true a.table in
    let is : c.category.result ≡ next.0.category = if_some (λ row. c.category.result ≡ row.category) c.advance.new.self.current next.0 c.category.ensures next.1.current in
    let some : Option Row → Type 0 = λ o. IfSome o (λ row. IfSome row.category (λ n. n < length problem.categories)) in
    let within = next-category problem c.loop-counts.table next.0 (a.answer ∙ ap Ok next.1.current) in
    let P : Option ℕ → Type 0 = λ o. IfSome o (λ n. n < length problem.categories) in
    let Q : ℕ → Type 0 = λ size. IfSome c.category.result (λ n. n < size) in
    subst Q (sym c.loop-counts.invariant.size) (subst P (sym is) within)

pub count_row-requires-clause-few : goal.count_row-requires-clause-few
count_row-requires-clause-few c =
    let problem = c.args.problem.now in
    let a = c.in_ok-advance.ensures in
    let next = next_is problem c.loop-counts.table c.advance.new.self c.in_ok-advance.field-0 a.answer a.found c.if-branch.true a.table in
    let number = next.1.number in
    let few = a.table.few in
    at_most_more c.loop-counts.table.number 67108863 c.loop-counts.counts (omega (arith, number, few)) c.loop-counts.invariant.few

pub loop-counts-preserved : goal.loop-counts-preserved
loop-counts-preserved c =
    let problem = c.args.problem.now in
    let it = c.loop-counts.invariant in
    let a = c.in_ok-advance.ensures in
    let next = next_is problem c.loop-counts.table c.advance.new.self c.in_ok-advance.field-0 a.answer a.found c.if-branch.true a.table in
    let is : c.category.result ≡ next.0.category = if_some (λ row. c.category.result ≡ row.category) c.advance.new.self.current next.0 c.category.ensures next.1.current in
    let counts = c.loop-counts.counts in
    let counts' = c.count_row.new.counts in
    let length_left = ap (λ (r : RowsRead). length r.0) next.1.rows in
    let number = next.1.number in
    let total = it.number in
    record {
      fits = a.table.fits;
      counted = row_counted next.0 c.category.result is counts counts' c.count_row.ensures (rows_left problem c.args.table.now).0 (rows_left problem c.loop-counts.table).0 (rows_left problem c.advance.new.self).0
          (ap (λ (r : RowsRead). r.0) next.1.rows) it.counted;
      few = at_most_more (c.loop-counts.table.number + 1) c.advance.new.self.number counts' (omega (arith, number)) (row_at_most next.0 c.category.result is counts counts' c.count_row.ensures c.loop-counts.table.number it.few);
      size = c.count_row.ensures.size ∙ it.size;
      end = it.end ∙ ap (λ (r : RowsRead). r.1) next.1.rows;
      number = omega (arith, length_left, number, total);
    }

pub returns-in_err-advance-clause-refused : goal.returns-in_err-advance-clause-refused
returns-in_err-advance-clause-refused c =
    let problem = c.args.problem.now in
    let p = err_from_is_err_and c.from_residual-in_err-advance.result c.from_residual-in_err-advance.ensures.1 in
    rw (p.1, p.2) (elim c.in_err-advance.ensures.answer [
      | inl none ↦ inl none
      | inr e ↦ inr (c.loop-counts.invariant.end ∙ ap (λ (r : RowsRead). r.1) (rows_left-fault problem c.loop-counts.table c.in_err-advance.field-0.0 e))
    ])

pub returns-clause-counts : goal.returns-clause-counts
returns-clause-counts c =
    let problem = c.args.problem.now in
    let a = c.in_ok-advance.ensures in
    let ends = next_ends problem c.loop-counts.table c.advance.new.self c.in_ok-advance.field-0 a.answer a.found c.if-branch.false a.table in
    let P : List Row → Type 0 = λ left. AreCounted (rows_left problem c.args.table.now).0 left c.loop-counts.counts in
    subst P (ap (λ (r : RowsRead). r.0) ends.0) c.loop-counts.invariant.counted

pub returns-clause-rows : goal.returns-clause-rows
returns-clause-rows c =
    let problem = c.args.problem.now in
    let a = c.in_ok-advance.ensures in
    let ends = next_ends problem c.loop-counts.table c.advance.new.self c.in_ok-advance.field-0 a.answer a.found c.if-branch.false a.table in
    let none = ap (λ (r : RowsRead). length r.0) ends.0 in
    let number = ends.1 in
    let total = c.loop-counts.invariant.number in
    omega (arith, none, number, total)

pub returns-clause-fine : goal.returns-clause-fine
returns-clause-fine c =
    let problem = c.args.problem.now in
    let a = c.in_ok-advance.ensures in
    let ends = next_ends problem c.loop-counts.table c.advance.new.self c.in_ok-advance.field-0 a.answer a.found c.if-branch.false a.table in
    c.loop-counts.invariant.end ∙ ap (λ (r : RowsRead). r.1) ends.0
