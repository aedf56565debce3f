use Rattle.std.proofs.Common.{ℕ, List, ◌++◌, codes, refl}
use Rattle.written_core.proofs.PutLemmas.{IsPut, put-none, put-more, put-cut, put-last}
use Rattle.report_core.specs.Text.{counted, line_end}
use Rattle.yaml_tokens.specs.Written.{quoted_text}
use Rattle.report_core.specs.Described.{criterion_line, scale_text}
use Rattle.report_core.proofs.problem_text.put_criterion.Goals as goal

pub returns-in_err-put_counted : goal.returns-in_err-put_counted
returns-in_err-put_counted c =
    let all : List ℕ = criterion_line c.args.place c.args.criterion.now in
    let so_0 : IsPut c.args.out.now.items c.args.out.now.items all all = put-none c.args.out.now.items all in
    put-cut c.args.out.now.items c.args.out.now.items c.put_counted.new.out.items all (((counted (codes "criterion ") c.args.place (codes ": ")) ++ ((quoted_text c.args.criterion.now.name) ++ ((codes ", ") ++ ((scale_text c.args.criterion.now.scale) ++ (line_end)))))) (counted (codes "criterion ") c.args.place (codes ": ")) (((quoted_text c.args.criterion.now.name) ++ ((codes ", ") ++ ((scale_text c.args.criterion.now.scale) ++ (line_end))))) c.from_residual.result c.from_residual.ensures.0 so_0 refl c.in_err-put_counted.ensures

pub returns-in_err-put_quoted : goal.returns-in_err-put_quoted
returns-in_err-put_quoted c =
    let all : List ℕ = criterion_line c.args.place c.args.criterion.now in
    let so_0 : IsPut c.args.out.now.items c.args.out.now.items all all = put-none c.args.out.now.items all in
    let so_1 : IsPut c.args.out.now.items c.put_counted.new.out.items all (((quoted_text c.args.criterion.now.name) ++ ((codes ", ") ++ ((scale_text c.args.criterion.now.scale) ++ (line_end))))) = put-more c.args.out.now.items c.args.out.now.items c.put_counted.new.out.items all (((counted (codes "criterion ") c.args.place (codes ": ")) ++ ((quoted_text c.args.criterion.now.name) ++ ((codes ", ") ++ ((scale_text c.args.criterion.now.scale) ++ (line_end)))))) (counted (codes "criterion ") c.args.place (codes ": ")) (((quoted_text c.args.criterion.now.name) ++ ((codes ", ") ++ ((scale_text c.args.criterion.now.scale) ++ (line_end))))) so_0 refl c.in_ok-put_counted.ensures in
    put-cut c.args.out.now.items c.put_counted.new.out.items c.put_quoted.new.out.items all (((quoted_text c.args.criterion.now.name) ++ ((codes ", ") ++ ((scale_text c.args.criterion.now.scale) ++ (line_end))))) (quoted_text c.args.criterion.now.name) (((codes ", ") ++ ((scale_text c.args.criterion.now.scale) ++ (line_end)))) c.from_residual-in_err-put_quoted.result c.from_residual-in_err-put_quoted.ensures.0 so_1 refl (rw c.as_str.ensures at c.in_err-put_quoted.ensures.text)

pub returns-in_err-put_text : goal.returns-in_err-put_text
returns-in_err-put_text c =
    let all : List ℕ = criterion_line c.args.place c.args.criterion.now in
    let so_0 : IsPut c.args.out.now.items c.args.out.now.items all all = put-none c.args.out.now.items all in
    let so_1 : IsPut c.args.out.now.items c.put_counted.new.out.items all (((quoted_text c.args.criterion.now.name) ++ ((codes ", ") ++ ((scale_text c.args.criterion.now.scale) ++ (line_end))))) = put-more c.args.out.now.items c.args.out.now.items c.put_counted.new.out.items all (((counted (codes "criterion ") c.args.place (codes ": ")) ++ ((quoted_text c.args.criterion.now.name) ++ ((codes ", ") ++ ((scale_text c.args.criterion.now.scale) ++ (line_end)))))) (counted (codes "criterion ") c.args.place (codes ": ")) (((quoted_text c.args.criterion.now.name) ++ ((codes ", ") ++ ((scale_text c.args.criterion.now.scale) ++ (line_end))))) so_0 refl c.in_ok-put_counted.ensures in
    let so_2 : IsPut c.args.out.now.items c.put_quoted.new.out.items all (((codes ", ") ++ ((scale_text c.args.criterion.now.scale) ++ (line_end)))) = put-more c.args.out.now.items c.put_counted.new.out.items c.put_quoted.new.out.items all (((quoted_text c.args.criterion.now.name) ++ ((codes ", ") ++ ((scale_text c.args.criterion.now.scale) ++ (line_end))))) (quoted_text c.args.criterion.now.name) (((codes ", ") ++ ((scale_text c.args.criterion.now.scale) ++ (line_end)))) so_1 refl (rw c.as_str.ensures at c.in_ok-put_quoted.ensures.text) in
    put-cut c.args.out.now.items c.put_quoted.new.out.items c.put_text.new.out.items all (((codes ", ") ++ ((scale_text c.args.criterion.now.scale) ++ (line_end)))) (codes ", ") (((scale_text c.args.criterion.now.scale) ++ (line_end))) c.from_residual-in_err-put_text.result c.from_residual-in_err-put_text.ensures.0 so_2 refl c.in_err-put_text.ensures

pub returns-in_err-put_scale : goal.returns-in_err-put_scale
returns-in_err-put_scale c =
    let all : List ℕ = criterion_line c.args.place c.args.criterion.now in
    let so_0 : IsPut c.args.out.now.items c.args.out.now.items all all = put-none c.args.out.now.items all in
    let so_1 : IsPut c.args.out.now.items c.put_counted.new.out.items all (((quoted_text c.args.criterion.now.name) ++ ((codes ", ") ++ ((scale_text c.args.criterion.now.scale) ++ (line_end))))) = put-more c.args.out.now.items c.args.out.now.items c.put_counted.new.out.items all (((counted (codes "criterion ") c.args.place (codes ": ")) ++ ((quoted_text c.args.criterion.now.name) ++ ((codes ", ") ++ ((scale_text c.args.criterion.now.scale) ++ (line_end)))))) (counted (codes "criterion ") c.args.place (codes ": ")) (((quoted_text c.args.criterion.now.name) ++ ((codes ", ") ++ ((scale_text c.args.criterion.now.scale) ++ (line_end))))) so_0 refl c.in_ok-put_counted.ensures in
    let so_2 : IsPut c.args.out.now.items c.put_quoted.new.out.items all (((codes ", ") ++ ((scale_text c.args.criterion.now.scale) ++ (line_end)))) = put-more c.args.out.now.items c.put_counted.new.out.items c.put_quoted.new.out.items all (((quoted_text c.args.criterion.now.name) ++ ((codes ", ") ++ ((scale_text c.args.criterion.now.scale) ++ (line_end))))) (quoted_text c.args.criterion.now.name) (((codes ", ") ++ ((scale_text c.args.criterion.now.scale) ++ (line_end)))) so_1 refl (rw c.as_str.ensures at c.in_ok-put_quoted.ensures.text) in
    let so_3 : IsPut c.args.out.now.items c.put_text.new.out.items all (((scale_text c.args.criterion.now.scale) ++ (line_end))) = put-more c.args.out.now.items c.put_quoted.new.out.items c.put_text.new.out.items all (((codes ", ") ++ ((scale_text c.args.criterion.now.scale) ++ (line_end)))) (codes ", ") (((scale_text c.args.criterion.now.scale) ++ (line_end))) so_2 refl c.in_ok-put_text.ensures in
    put-cut c.args.out.now.items c.put_text.new.out.items c.put_scale.new.out.items all (((scale_text c.args.criterion.now.scale) ++ (line_end))) (scale_text c.args.criterion.now.scale) (line_end) c.from_residual-in_err-put_scale.result c.from_residual-in_err-put_scale.ensures.0 so_3 refl c.in_err-put_scale.ensures

pub returns : goal.returns
returns c =
    let all : List ℕ = criterion_line c.args.place c.args.criterion.now in
    let so_0 : IsPut c.args.out.now.items c.args.out.now.items all all = put-none c.args.out.now.items all in
    let so_1 : IsPut c.args.out.now.items c.put_counted.new.out.items all (((quoted_text c.args.criterion.now.name) ++ ((codes ", ") ++ ((scale_text c.args.criterion.now.scale) ++ (line_end))))) = put-more c.args.out.now.items c.args.out.now.items c.put_counted.new.out.items all (((counted (codes "criterion ") c.args.place (codes ": ")) ++ ((quoted_text c.args.criterion.now.name) ++ ((codes ", ") ++ ((scale_text c.args.criterion.now.scale) ++ (line_end)))))) (counted (codes "criterion ") c.args.place (codes ": ")) (((quoted_text c.args.criterion.now.name) ++ ((codes ", ") ++ ((scale_text c.args.criterion.now.scale) ++ (line_end))))) so_0 refl c.in_ok-put_counted.ensures in
    let so_2 : IsPut c.args.out.now.items c.put_quoted.new.out.items all (((codes ", ") ++ ((scale_text c.args.criterion.now.scale) ++ (line_end)))) = put-more c.args.out.now.items c.put_counted.new.out.items c.put_quoted.new.out.items all (((quoted_text c.args.criterion.now.name) ++ ((codes ", ") ++ ((scale_text c.args.criterion.now.scale) ++ (line_end))))) (quoted_text c.args.criterion.now.name) (((codes ", ") ++ ((scale_text c.args.criterion.now.scale) ++ (line_end)))) so_1 refl (rw c.as_str.ensures at c.in_ok-put_quoted.ensures.text) in
    let so_3 : IsPut c.args.out.now.items c.put_text.new.out.items all (((scale_text c.args.criterion.now.scale) ++ (line_end))) = put-more c.args.out.now.items c.put_quoted.new.out.items c.put_text.new.out.items all (((codes ", ") ++ ((scale_text c.args.criterion.now.scale) ++ (line_end)))) (codes ", ") (((scale_text c.args.criterion.now.scale) ++ (line_end))) so_2 refl c.in_ok-put_text.ensures in
    let so_4 : IsPut c.args.out.now.items c.put_scale.new.out.items all (line_end) = put-more c.args.out.now.items c.put_text.new.out.items c.put_scale.new.out.items all (((scale_text c.args.criterion.now.scale) ++ (line_end))) (scale_text c.args.criterion.now.scale) (line_end) so_3 refl c.in_ok-put_scale.ensures in
    put-last c.args.out.now.items c.put_scale.new.out.items c.put_text-2.new.out.items all (line_end) c.put_text-2.result so_4 c.put_text-2.ensures
