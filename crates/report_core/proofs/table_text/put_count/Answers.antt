use Rattle.std.proofs.Common.{ℕ, List, [], ◌++◌, codes, refl}
use Rattle.written_core.proofs.PutLemmas.{IsPut, put-none, put-more, put-cut, put-last}
use Rattle.report_core.specs.Text.{counted, line_end}
use Rattle.report_core.specs.Described.{count_line}
use Rattle.report_core.proofs.table_text.put_count.Goals as goal

pub returns-in_err-put_counted : goal.returns-in_err-put_counted
returns-in_err-put_counted c =
    let all : List ℕ = count_line c.args.place c.args.count in
    let so_0 : IsPut c.args.out.now.items c.args.out.now.items all all = put-none c.args.out.now.items all in
    put-cut c.args.out.now.items c.args.out.now.items c.put_counted.new.out.items all (((counted (codes "category ") c.args.place (codes ": ")) ++ (counted [] c.args.count line_end))) (counted (codes "category ") c.args.place (codes ": ")) (counted [] c.args.count line_end) c.from_residual.result c.from_residual.ensures.0 so_0 refl c.in_err-put_counted.ensures

pub returns : goal.returns
returns c =
    let all : List ℕ = count_line c.args.place c.args.count in
    let so_0 : IsPut c.args.out.now.items c.args.out.now.items all all = put-none c.args.out.now.items all in
    let so_1 : IsPut c.args.out.now.items c.put_counted.new.out.items all (counted [] c.args.count line_end) = put-more c.args.out.now.items c.args.out.now.items c.put_counted.new.out.items all (((counted (codes "category ") c.args.place (codes ": ")) ++ (counted [] c.args.count line_end))) (counted (codes "category ") c.args.place (codes ": ")) (counted [] c.args.count line_end) so_0 refl c.in_ok-put_counted.ensures in
    put-last c.args.out.now.items c.put_counted.new.out.items c.put_counted-2.new.out.items all (counted [] c.args.count line_end) c.put_counted-2.result so_1 c.put_counted-2.ensures
