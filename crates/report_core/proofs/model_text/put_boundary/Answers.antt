use Rattle.std.proofs.Common.{ℕ, List, ◌++◌, codes, refl}
use Rattle.written_core.proofs.PutLemmas.{IsPut, put-none, put-more, put-cut, put-last}
use Rattle.report_core.specs.Text.{counted, line_end}
use Rattle.report_core.specs.DescribedModel.{boundary_line, coalitions_text}
use Rattle.report_core.proofs.model_text.put_boundary.Goals as goal

pub returns-in_err-put_counted : goal.returns-in_err-put_counted
returns-in_err-put_counted c =
    let all : List ℕ = boundary_line c.args.criteria c.args.h c.args.coalitions.now in
    let so_0 : IsPut c.args.out.now.items c.args.out.now.items all all = put-none c.args.out.now.items all in
    put-cut c.args.out.now.items c.args.out.now.items c.put_counted.new.out.items all (((counted (codes "boundary ") c.args.h (codes ": ")) ++ ((coalitions_text c.args.criteria c.args.coalitions.now) ++ (line_end)))) (counted (codes "boundary ") c.args.h (codes ": ")) (((coalitions_text c.args.criteria c.args.coalitions.now) ++ (line_end))) c.from_residual.result c.from_residual.ensures.0 so_0 refl c.in_err-put_counted.ensures

pub returns-in_err-put_coalitions : goal.returns-in_err-put_coalitions
returns-in_err-put_coalitions c =
    let all : List ℕ = boundary_line c.args.criteria c.args.h c.args.coalitions.now in
    let so_0 : IsPut c.args.out.now.items c.args.out.now.items all all = put-none c.args.out.now.items all in
    let so_1 : IsPut c.args.out.now.items c.put_counted.new.out.items all (((coalitions_text c.args.criteria c.args.coalitions.now) ++ (line_end))) = put-more c.args.out.now.items c.args.out.now.items c.put_counted.new.out.items all (((counted (codes "boundary ") c.args.h (codes ": ")) ++ ((coalitions_text c.args.criteria c.args.coalitions.now) ++ (line_end)))) (counted (codes "boundary ") c.args.h (codes ": ")) (((coalitions_text c.args.criteria c.args.coalitions.now) ++ (line_end))) so_0 refl c.in_ok-put_counted.ensures in
    put-cut c.args.out.now.items c.put_counted.new.out.items c.put_coalitions.new.out.items all (((coalitions_text c.args.criteria c.args.coalitions.now) ++ (line_end))) (coalitions_text c.args.criteria c.args.coalitions.now) (line_end) c.from_residual-in_err-put_coalitions.result c.from_residual-in_err-put_coalitions.ensures.0 so_1 refl c.in_err-put_coalitions.ensures

pub returns : goal.returns
returns c =
    let all : List ℕ = boundary_line c.args.criteria c.args.h c.args.coalitions.now in
    let so_0 : IsPut c.args.out.now.items c.args.out.now.items all all = put-none c.args.out.now.items all in
    let so_1 : IsPut c.args.out.now.items c.put_counted.new.out.items all (((coalitions_text c.args.criteria c.args.coalitions.now) ++ (line_end))) = put-more c.args.out.now.items c.args.out.now.items c.put_counted.new.out.items all (((counted (codes "boundary ") c.args.h (codes ": ")) ++ ((coalitions_text c.args.criteria c.args.coalitions.now) ++ (line_end)))) (counted (codes "boundary ") c.args.h (codes ": ")) (((coalitions_text c.args.criteria c.args.coalitions.now) ++ (line_end))) so_0 refl c.in_ok-put_counted.ensures in
    let so_2 : IsPut c.args.out.now.items c.put_coalitions.new.out.items all (line_end) = put-more c.args.out.now.items c.put_counted.new.out.items c.put_coalitions.new.out.items all (((coalitions_text c.args.criteria c.args.coalitions.now) ++ (line_end))) (coalitions_text c.args.criteria c.args.coalitions.now) (line_end) so_1 refl c.in_ok-put_coalitions.ensures in
    put-last c.args.out.now.items c.put_coalitions.new.out.items c.put_text.new.out.items all (line_end) c.put_text.result so_2 c.put_text.ensures
