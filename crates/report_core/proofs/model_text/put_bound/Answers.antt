use Rattle.std.proofs.Common.{ℕ, List, ◌++◌, refl}
use Rattle.written_core.proofs.PutLemmas.{IsPut, put-none, put-more, put-cut, put-last}
use Rattle.report_core.specs.DescribedModel.{bound_text, bound_word}
use Rattle.problem_core.specs.Grade.{quoted_grade_text}
use Rattle.report_core.proofs.model_text.put_bound.Goals as goal

pub returns-in_err-put_text : goal.returns-in_err-put_text
returns-in_err-put_text c =
    let all : List ℕ = bound_text c.args.criterion.now.scale c.args.grade in
    let so_0 : IsPut c.args.out.now.items c.args.out.now.items all all = put-none c.args.out.now.items all in
    put-cut c.args.out.now.items c.args.out.now.items c.put_text.new.out.items all (((bound_word c.args.criterion.now.scale) ++ (quoted_grade_text c.args.criterion.now.scale c.args.grade))) (bound_word c.args.criterion.now.scale) (quoted_grade_text c.args.criterion.now.scale c.args.grade) c.from_residual.result c.from_residual.ensures.0 so_0 refl (rw c.bound_word.ensures at c.in_err-put_text.ensures)

pub returns : goal.returns
returns c =
    let all : List ℕ = bound_text c.args.criterion.now.scale c.args.grade in
    let so_0 : IsPut c.args.out.now.items c.args.out.now.items all all = put-none c.args.out.now.items all in
    let so_1 : IsPut c.args.out.now.items c.put_text.new.out.items all (quoted_grade_text c.args.criterion.now.scale c.args.grade) = put-more c.args.out.now.items c.args.out.now.items c.put_text.new.out.items all (((bound_word c.args.criterion.now.scale) ++ (quoted_grade_text c.args.criterion.now.scale c.args.grade))) (bound_word c.args.criterion.now.scale) (quoted_grade_text c.args.criterion.now.scale c.args.grade) so_0 refl (rw c.bound_word.ensures at c.in_ok-put_text.ensures) in
    put-last c.args.out.now.items c.put_text.new.out.items c.put_quoted_grade.new.out.items all (quoted_grade_text c.args.criterion.now.scale c.args.grade) c.put_quoted_grade.result so_1 c.put_quoted_grade.ensures
