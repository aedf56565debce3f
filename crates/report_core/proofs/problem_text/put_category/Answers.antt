use Rattle.std.proofs.Common.{ℕ, List, ◌++◌, codes, refl}
use Rattle.written_core.proofs.PutLemmas.{IsPut, put-none, put-more, put-cut, put-last}
use Rattle.report_core.specs.Text.{counted, line_end}
use Rattle.yaml_tokens.specs.Written.{quoted_text}
use Rattle.report_core.specs.Described.{category_line}
use Rattle.report_core.proofs.problem_text.put_category.Goals as goal

pub returns-in_err-put_counted : goal.returns-in_err-put_counted
returns-in_err-put_counted c =
    let all : List ℕ = category_line c.args.place c.args.name.now in
    let so_0 : IsPut c.args.out.now.items c.args.out.now.items all all = put-none c.args.out.now.items all in
    put-cut c.args.out.now.items c.args.out.now.items c.put_counted.new.out.items all (((counted (codes "category ") c.args.place (codes ": ")) ++ ((quoted_text c.args.name.now) ++ (line_end)))) (counted (codes "category ") c.args.place (codes ": ")) (((quoted_text c.args.name.now) ++ (line_end))) c.from_residual.result c.from_residual.ensures.0 so_0 refl c.in_err-put_counted.ensures

pub returns-in_err-put_quoted : goal.returns-in_err-put_quoted
returns-in_err-put_quoted c =
    let all : List ℕ = category_line c.args.place c.args.name.now in
    let so_0 : IsPut c.args.out.now.items c.args.out.now.items all all = put-none c.args.out.now.items all in
    let so_1 : IsPut c.args.out.now.items c.put_counted.new.out.items all (((quoted_text c.args.name.now) ++ (line_end))) = put-more c.args.out.now.items c.args.out.now.items c.put_counted.new.out.items all (((counted (codes "category ") c.args.place (codes ": ")) ++ ((quoted_text c.args.name.now) ++ (line_end)))) (counted (codes "category ") c.args.place (codes ": ")) (((quoted_text c.args.name.now) ++ (line_end))) so_0 refl c.in_ok-put_counted.ensures in
    put-cut c.args.out.now.items c.put_counted.new.out.items c.put_quoted.new.out.items all (((quoted_text c.args.name.now) ++ (line_end))) (quoted_text c.args.name.now) (line_end) c.from_residual-in_err-put_quoted.result c.from_residual-in_err-put_quoted.ensures.0 so_1 refl c.in_err-put_quoted.ensures.text

pub returns : goal.returns
returns c =
    let all : List ℕ = category_line c.args.place c.args.name.now in
    let so_0 : IsPut c.args.out.now.items c.args.out.now.items all all = put-none c.args.out.now.items all in
    let so_1 : IsPut c.args.out.now.items c.put_counted.new.out.items all (((quoted_text c.args.name.now) ++ (line_end))) = put-more c.args.out.now.items c.args.out.now.items c.put_counted.new.out.items all (((counted (codes "category ") c.args.place (codes ": ")) ++ ((quoted_text c.args.name.now) ++ (line_end)))) (counted (codes "category ") c.args.place (codes ": ")) (((quoted_text c.args.name.now) ++ (line_end))) so_0 refl c.in_ok-put_counted.ensures in
    let so_2 : IsPut c.args.out.now.items c.put_quoted.new.out.items all (line_end) = put-more c.args.out.now.items c.put_counted.new.out.items c.put_quoted.new.out.items all (((quoted_text c.args.name.now) ++ (line_end))) (quoted_text c.args.name.now) (line_end) so_1 refl c.in_ok-put_quoted.ensures.text in
    put-last c.args.out.now.items c.put_quoted.new.out.items c.put_text.new.out.items all (line_end) c.put_text.result so_2 c.put_text.ensures
