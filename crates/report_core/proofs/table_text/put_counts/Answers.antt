use Rattle.std.proofs.Common.{ℕ, List, ◌++◌, codes, refl}
use Rattle.written_core.proofs.PutLemmas.{IsPut, put-none, put-more, put-cut, put-last}
use Rattle.report_core.specs.Text.{counted, line_end, numbered}
use Rattle.report_core.specs.Described.{count_line, counts_text}
use Rattle.report_core.proofs.table_text.put_counts.Goals as goal

pub returns-in_err-put_counted : goal.returns-in_err-put_counted
returns-in_err-put_counted c =
    let all : List ℕ = counts_text c.args.rows c.args.classified c.args.counts.now in
    let so_0 : IsPut c.args.out.now.items c.args.out.now.items all all = put-none c.args.out.now.items all in
    put-cut c.args.out.now.items c.args.out.now.items c.put_counted.new.out.items all (((counted (codes "alternatives: ") c.args.rows line_end) ++ ((counted (codes "classified: ") c.args.classified line_end) ++ (numbered count_line 0 c.args.counts.now)))) (counted (codes "alternatives: ") c.args.rows line_end) (((counted (codes "classified: ") c.args.classified line_end) ++ (numbered count_line 0 c.args.counts.now))) c.from_residual.result c.from_residual.ensures.0 so_0 refl c.in_err-put_counted.ensures

pub returns-in_err-put_counted-2 : goal.returns-in_err-put_counted-2
returns-in_err-put_counted-2 c =
    let all : List ℕ = counts_text c.args.rows c.args.classified c.args.counts.now in
    let so_0 : IsPut c.args.out.now.items c.args.out.now.items all all = put-none c.args.out.now.items all in
    let so_1 : IsPut c.args.out.now.items c.put_counted.new.out.items all (((counted (codes "classified: ") c.args.classified line_end) ++ (numbered count_line 0 c.args.counts.now))) = put-more c.args.out.now.items c.args.out.now.items c.put_counted.new.out.items all (((counted (codes "alternatives: ") c.args.rows line_end) ++ ((counted (codes "classified: ") c.args.classified line_end) ++ (numbered count_line 0 c.args.counts.now)))) (counted (codes "alternatives: ") c.args.rows line_end) (((counted (codes "classified: ") c.args.classified line_end) ++ (numbered count_line 0 c.args.counts.now))) so_0 refl c.in_ok-put_counted.ensures in
    put-cut c.args.out.now.items c.put_counted.new.out.items c.put_counted-2.new.out.items all (((counted (codes "classified: ") c.args.classified line_end) ++ (numbered count_line 0 c.args.counts.now))) (counted (codes "classified: ") c.args.classified line_end) (numbered count_line 0 c.args.counts.now) c.from_residual-in_err-put_counted-2.result c.from_residual-in_err-put_counted-2.ensures.0 so_1 refl c.in_err-put_counted-2.ensures

pub returns : goal.returns
returns c =
    let all : List ℕ = counts_text c.args.rows c.args.classified c.args.counts.now in
    let so_0 : IsPut c.args.out.now.items c.args.out.now.items all all = put-none c.args.out.now.items all in
    let so_1 : IsPut c.args.out.now.items c.put_counted.new.out.items all (((counted (codes "classified: ") c.args.classified line_end) ++ (numbered count_line 0 c.args.counts.now))) = put-more c.args.out.now.items c.args.out.now.items c.put_counted.new.out.items all (((counted (codes "alternatives: ") c.args.rows line_end) ++ ((counted (codes "classified: ") c.args.classified line_end) ++ (numbered count_line 0 c.args.counts.now)))) (counted (codes "alternatives: ") c.args.rows line_end) (((counted (codes "classified: ") c.args.classified line_end) ++ (numbered count_line 0 c.args.counts.now))) so_0 refl c.in_ok-put_counted.ensures in
    let so_2 : IsPut c.args.out.now.items c.put_counted-2.new.out.items all (numbered count_line 0 c.args.counts.now) = put-more c.args.out.now.items c.put_counted.new.out.items c.put_counted-2.new.out.items all (((counted (codes "classified: ") c.args.classified line_end) ++ (numbered count_line 0 c.args.counts.now))) (counted (codes "classified: ") c.args.classified line_end) (numbered count_line 0 c.args.counts.now) so_1 refl c.in_ok-put_counted-2.ensures in
    put-last c.args.out.now.items c.put_counted-2.new.out.items c.put_category_counts.new.out.items all (numbered count_line 0 c.args.counts.now) c.put_category_counts.result so_2 c.put_category_counts.ensures
