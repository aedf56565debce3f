use Rattle.std.proofs.Common.{ℕ, List, [], ◌++◌, codes, refl}
use Rattle.written_core.proofs.PutLemmas.{IsPut, put-none, put-more, put-cut, put-last}
use Rattle.report_core.specs.Text.{counted, line_end}
use Rattle.report_core.specs.DescribedModel.{threshold_line, threshold_text}
use Rattle.report_core.proofs.model_text.put_threshold.Goals as goal

pub returns-in_err-put_counted : goal.returns-in_err-put_counted
returns-in_err-put_counted c =
    let all : List ℕ = threshold_line c.args.i c.args.criterion.now.scale c.args.h c.args.threshold in
    let so_0 : IsPut c.args.out.now.items c.args.out.now.items all all = put-none c.args.out.now.items all in
    put-cut c.args.out.now.items c.args.out.now.items c.put_counted.new.out.items all (((counted (codes "criterion ") c.args.i (codes " boundary ")) ++ ((counted [] c.args.h (codes ": ")) ++ ((threshold_text c.args.criterion.now.scale c.args.threshold) ++ (line_end))))) (counted (codes "criterion ") c.args.i (codes " boundary ")) (((counted [] c.args.h (codes ": ")) ++ ((threshold_text c.args.criterion.now.scale c.args.threshold) ++ (line_end)))) c.from_residual.result c.from_residual.ensures.0 so_0 refl c.in_err-put_counted.ensures

pub returns-in_err-put_counted-2 : goal.returns-in_err-put_counted-2
returns-in_err-put_counted-2 c =
    let all : List ℕ = threshold_line c.args.i c.args.criterion.now.scale c.args.h c.args.threshold in
    let so_0 : IsPut c.args.out.now.items c.args.out.now.items all all = put-none c.args.out.now.items all in
    let so_1 : IsPut c.args.out.now.items c.put_counted.new.out.items all (((counted [] c.args.h (codes ": ")) ++ ((threshold_text c.args.criterion.now.scale c.args.threshold) ++ (line_end)))) = put-more c.args.out.now.items c.args.out.now.items c.put_counted.new.out.items all (((counted (codes "criterion ") c.args.i (codes " boundary ")) ++ ((counted [] c.args.h (codes ": ")) ++ ((threshold_text c.args.criterion.now.scale c.args.threshold) ++ (line_end))))) (counted (codes "criterion ") c.args.i (codes " boundary ")) (((counted [] c.args.h (codes ": ")) ++ ((threshold_text c.args.criterion.now.scale c.args.threshold) ++ (line_end)))) so_0 refl c.in_ok-put_counted.ensures in
    put-cut c.args.out.now.items c.put_counted.new.out.items c.put_counted-2.new.out.items all (((counted [] c.args.h (codes ": ")) ++ ((threshold_text c.args.criterion.now.scale c.args.threshold) ++ (line_end)))) (counted [] c.args.h (codes ": ")) (((threshold_text c.args.criterion.now.scale c.args.threshold) ++ (line_end))) c.from_residual-in_err-put_counted-2.result c.from_residual-in_err-put_counted-2.ensures.0 so_1 refl c.in_err-put_counted-2.ensures

pub returns-in_err-put_accepts : goal.returns-in_err-put_accepts
returns-in_err-put_accepts c =
    let all : List ℕ = threshold_line c.args.i c.args.criterion.now.scale c.args.h c.args.threshold in
    let so_0 : IsPut c.args.out.now.items c.args.out.now.items all all = put-none c.args.out.now.items all in
    let so_1 : IsPut c.args.out.now.items c.put_counted.new.out.items all (((counted [] c.args.h (codes ": ")) ++ ((threshold_text c.args.criterion.now.scale c.args.threshold) ++ (line_end)))) = put-more c.args.out.now.items c.args.out.now.items c.put_counted.new.out.items all (((counted (codes "criterion ") c.args.i (codes " boundary ")) ++ ((counted [] c.args.h (codes ": ")) ++ ((threshold_text c.args.criterion.now.scale c.args.threshold) ++ (line_end))))) (counted (codes "criterion ") c.args.i (codes " boundary ")) (((counted [] c.args.h (codes ": ")) ++ ((threshold_text c.args.criterion.now.scale c.args.threshold) ++ (line_end)))) so_0 refl c.in_ok-put_counted.ensures in
    let so_2 : IsPut c.args.out.now.items c.put_counted-2.new.out.items all (((threshold_text c.args.criterion.now.scale c.args.threshold) ++ (line_end))) = put-more c.args.out.now.items c.put_counted.new.out.items c.put_counted-2.new.out.items all (((counted [] c.args.h (codes ": ")) ++ ((threshold_text c.args.criterion.now.scale c.args.threshold) ++ (line_end)))) (counted [] c.args.h (codes ": ")) (((threshold_text c.args.criterion.now.scale c.args.threshold) ++ (line_end))) so_1 refl c.in_ok-put_counted-2.ensures in
    put-cut c.args.out.now.items c.put_counted-2.new.out.items c.put_accepts.new.out.items all (((threshold_text c.args.criterion.now.scale c.args.threshold) ++ (line_end))) (threshold_text c.args.criterion.now.scale c.args.threshold) (line_end) c.from_residual-in_err-put_accepts.result c.from_residual-in_err-put_accepts.ensures.0 so_2 refl c.in_err-put_accepts.ensures

pub returns : goal.returns
returns c =
    let all : List ℕ = threshold_line c.args.i c.args.criterion.now.scale c.args.h c.args.threshold in
    let so_0 : IsPut c.args.out.now.items c.args.out.now.items all all = put-none c.args.out.now.items all in
    let so_1 : IsPut c.args.out.now.items c.put_counted.new.out.items all (((counted [] c.args.h (codes ": ")) ++ ((threshold_text c.args.criterion.now.scale c.args.threshold) ++ (line_end)))) = put-more c.args.out.now.items c.args.out.now.items c.put_counted.new.out.items all (((counted (codes "criterion ") c.args.i (codes " boundary ")) ++ ((counted [] c.args.h (codes ": ")) ++ ((threshold_text c.args.criterion.now.scale c.args.threshold) ++ (line_end))))) (counted (codes "criterion ") c.args.i (codes " boundary ")) (((counted [] c.args.h (codes ": ")) ++ ((threshold_text c.args.criterion.now.scale c.args.threshold) ++ (line_end)))) so_0 refl c.in_ok-put_counted.ensures in
    let so_2 : IsPut c.args.out.now.items c.put_counted-2.new.out.items all (((threshold_text c.args.criterion.now.scale c.args.threshold) ++ (line_end))) = put-more c.args.out.now.items c.put_counted.new.out.items c.put_counted-2.new.out.items all (((counted [] c.args.h (codes ": ")) ++ ((threshold_text c.args.criterion.now.scale c.args.threshold) ++ (line_end)))) (counted [] c.args.h (codes ": ")) (((threshold_text c.args.criterion.now.scale c.args.threshold) ++ (line_end))) so_1 refl c.in_ok-put_counted-2.ensures in
    let so_3 : IsPut c.args.out.now.items c.put_accepts.new.out.items all (line_end) = put-more c.args.out.now.items c.put_counted-2.new.out.items c.put_accepts.new.out.items all (((threshold_text c.args.criterion.now.scale c.args.threshold) ++ (line_end))) (threshold_text c.args.criterion.now.scale c.args.threshold) (line_end) so_2 refl c.in_ok-put_accepts.ensures in
    put-last c.args.out.now.items c.put_accepts.new.out.items c.put_text.new.out.items all (line_end) c.put_text.result so_3 c.put_text.ensures
