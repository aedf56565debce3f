use Rattle.std.proofs.Common.{ℕ, List, [], ◌++◌, length, codes, refl}
use Rattle.written_core.proofs.PutLemmas.{IsPut, put-none, put-more, put-cut, put-last}
use Rattle.report_core.specs.Text.{counted, line_end, numbered}
use Rattle.report_core.specs.DescribedModel.{accepted_lines, boundary_line_at, model_description}
use Rattle.model_core.specs.Model.{boundaries_of}
use Rattle.report_core.proofs.model_text.describe_model.Goals as goal

pub returns-in_err-put_counted : goal.returns-in_err-put_counted
returns-in_err-put_counted c =
    let all : List ℕ = model_description c.args.problem.now c.args.model.now in
    let so_0 : IsPut c.args.out.now.items c.args.out.now.items all all = put-none c.args.out.now.items all in
    put-cut c.args.out.now.items c.args.out.now.items c.put_counted.new.out.items all (((counted (codes "model: ") (length c.args.problem.now.criteria) (codes " criteria, ")) ++ ((counted [] (boundaries_of c.args.problem.now) (codes " boundaries" ++ line_end)) ++ ((accepted_lines 0 c.args.problem.now.criteria c.args.model.now.profiles) ++ (numbered (boundary_line_at (length c.args.problem.now.criteria)) 0 c.args.model.now.coalitions))))) (counted (codes "model: ") (length c.args.problem.now.criteria) (codes " criteria, ")) (((counted [] (boundaries_of c.args.problem.now) (codes " boundaries" ++ line_end)) ++ ((accepted_lines 0 c.args.problem.now.criteria c.args.model.now.profiles) ++ (numbered (boundary_line_at (length c.args.problem.now.criteria)) 0 c.args.model.now.coalitions)))) c.from_residual.result c.from_residual.ensures.0 so_0 refl (rw c.criteria_count-criteria.ensures.count at c.in_err-put_counted.ensures)

pub returns-in_err-put_counted-2 : goal.returns-in_err-put_counted-2
returns-in_err-put_counted-2 c =
    let all : List ℕ = model_description c.args.problem.now c.args.model.now in
    let so_0 : IsPut c.args.out.now.items c.args.out.now.items all all = put-none c.args.out.now.items all in
    let so_1 : IsPut c.args.out.now.items c.put_counted.new.out.items all (((counted [] (boundaries_of c.args.problem.now) (codes " boundaries" ++ line_end)) ++ ((accepted_lines 0 c.args.problem.now.criteria c.args.model.now.profiles) ++ (numbered (boundary_line_at (length c.args.problem.now.criteria)) 0 c.args.model.now.coalitions)))) = put-more c.args.out.now.items c.args.out.now.items c.put_counted.new.out.items all (((counted (codes "model: ") (length c.args.problem.now.criteria) (codes " criteria, ")) ++ ((counted [] (boundaries_of c.args.problem.now) (codes " boundaries" ++ line_end)) ++ ((accepted_lines 0 c.args.problem.now.criteria c.args.model.now.profiles) ++ (numbered (boundary_line_at (length c.args.problem.now.criteria)) 0 c.args.model.now.coalitions))))) (counted (codes "model: ") (length c.args.problem.now.criteria) (codes " criteria, ")) (((counted [] (boundaries_of c.args.problem.now) (codes " boundaries" ++ line_end)) ++ ((accepted_lines 0 c.args.problem.now.criteria c.args.model.now.profiles) ++ (numbered (boundary_line_at (length c.args.problem.now.criteria)) 0 c.args.model.now.coalitions)))) so_0 refl (rw c.criteria_count-criteria.ensures.count at c.in_ok-put_counted.ensures) in
    put-cut c.args.out.now.items c.put_counted.new.out.items c.put_counted-2.new.out.items all (((counted [] (boundaries_of c.args.problem.now) (codes " boundaries" ++ line_end)) ++ ((accepted_lines 0 c.args.problem.now.criteria c.args.model.now.profiles) ++ (numbered (boundary_line_at (length c.args.problem.now.criteria)) 0 c.args.model.now.coalitions)))) (counted [] (boundaries_of c.args.problem.now) (codes " boundaries" ++ line_end)) (((accepted_lines 0 c.args.problem.now.criteria c.args.model.now.profiles) ++ (numbered (boundary_line_at (length c.args.problem.now.criteria)) 0 c.args.model.now.coalitions))) c.from_residual-in_err-put_counted-2.result c.from_residual-in_err-put_counted-2.ensures.0 so_1 refl (rw c.categories_count-boundaries.ensures.count at c.in_err-put_counted-2.ensures)

pub returns-in_err-put_accepted : goal.returns-in_err-put_accepted
returns-in_err-put_accepted c =
    let all : List ℕ = model_description c.args.problem.now c.args.model.now in
    let so_0 : IsPut c.args.out.now.items c.args.out.now.items all all = put-none c.args.out.now.items all in
    let so_1 : IsPut c.args.out.now.items c.put_counted.new.out.items all (((counted [] (boundaries_of c.args.problem.now) (codes " boundaries" ++ line_end)) ++ ((accepted_lines 0 c.args.problem.now.criteria c.args.model.now.profiles) ++ (numbered (boundary_line_at (length c.args.problem.now.criteria)) 0 c.args.model.now.coalitions)))) = put-more c.args.out.now.items c.args.out.now.items c.put_counted.new.out.items all (((counted (codes "model: ") (length c.args.problem.now.criteria) (codes " criteria, ")) ++ ((counted [] (boundaries_of c.args.problem.now) (codes " boundaries" ++ line_end)) ++ ((accepted_lines 0 c.args.problem.now.criteria c.args.model.now.profiles) ++ (numbered (boundary_line_at (length c.args.problem.now.criteria)) 0 c.args.model.now.coalitions))))) (counted (codes "model: ") (length c.args.problem.now.criteria) (codes " criteria, ")) (((counted [] (boundaries_of c.args.problem.now) (codes " boundaries" ++ line_end)) ++ ((accepted_lines 0 c.args.problem.now.criteria c.args.model.now.profiles) ++ (numbered (boundary_line_at (length c.args.problem.now.criteria)) 0 c.args.model.now.coalitions)))) so_0 refl (rw c.criteria_count-criteria.ensures.count at c.in_ok-put_counted.ensures) in
    let so_2 : IsPut c.args.out.now.items c.put_counted-2.new.out.items all (((accepted_lines 0 c.args.problem.now.criteria c.args.model.now.profiles) ++ (numbered (boundary_line_at (length c.args.problem.now.criteria)) 0 c.args.model.now.coalitions))) = put-more c.args.out.now.items c.put_counted.new.out.items c.put_counted-2.new.out.items all (((counted [] (boundaries_of c.args.problem.now) (codes " boundaries" ++ line_end)) ++ ((accepted_lines 0 c.args.problem.now.criteria c.args.model.now.profiles) ++ (numbered (boundary_line_at (length c.args.problem.now.criteria)) 0 c.args.model.now.coalitions)))) (counted [] (boundaries_of c.args.problem.now) (codes " boundaries" ++ line_end)) (((accepted_lines 0 c.args.problem.now.criteria c.args.model.now.profiles) ++ (numbered (boundary_line_at (length c.args.problem.now.criteria)) 0 c.args.model.now.coalitions))) so_1 refl (rw c.categories_count-boundaries.ensures.count at c.in_ok-put_counted-2.ensures) in
    put-cut c.args.out.now.items c.put_counted-2.new.out.items c.put_accepted.new.out.items all (((accepted_lines 0 c.args.problem.now.criteria c.args.model.now.profiles) ++ (numbered (boundary_line_at (length c.args.problem.now.criteria)) 0 c.args.model.now.coalitions))) (accepted_lines 0 c.args.problem.now.criteria c.args.model.now.profiles) (numbered (boundary_line_at (length c.args.problem.now.criteria)) 0 c.args.model.now.coalitions) c.from_residual-in_err-put_accepted.result c.from_residual-in_err-put_accepted.ensures.0 so_2 refl c.in_err-put_accepted.ensures

pub returns : goal.returns
returns c =
    let all : List ℕ = model_description c.args.problem.now c.args.model.now in
    let so_0 : IsPut c.args.out.now.items c.args.out.now.items all all = put-none c.args.out.now.items all in
    let so_1 : IsPut c.args.out.now.items c.put_counted.new.out.items all (((counted [] (boundaries_of c.args.problem.now) (codes " boundaries" ++ line_end)) ++ ((accepted_lines 0 c.args.problem.now.criteria c.args.model.now.profiles) ++ (numbered (boundary_line_at (length c.args.problem.now.criteria)) 0 c.args.model.now.coalitions)))) = put-more c.args.out.now.items c.args.out.now.items c.put_counted.new.out.items all (((counted (codes "model: ") (length c.args.problem.now.criteria) (codes " criteria, ")) ++ ((counted [] (boundaries_of c.args.problem.now) (codes " boundaries" ++ line_end)) ++ ((accepted_lines 0 c.args.problem.now.criteria c.args.model.now.profiles) ++ (numbered (boundary_line_at (length c.args.problem.now.criteria)) 0 c.args.model.now.coalitions))))) (counted (codes "model: ") (length c.args.problem.now.criteria) (codes " criteria, ")) (((counted [] (boundaries_of c.args.problem.now) (codes " boundaries" ++ line_end)) ++ ((accepted_lines 0 c.args.problem.now.criteria c.args.model.now.profiles) ++ (numbered (boundary_line_at (length c.args.problem.now.criteria)) 0 c.args.model.now.coalitions)))) so_0 refl (rw c.criteria_count-criteria.ensures.count at c.in_ok-put_counted.ensures) in
    let so_2 : IsPut c.args.out.now.items c.put_counted-2.new.out.items all (((accepted_lines 0 c.args.problem.now.criteria c.args.model.now.profiles) ++ (numbered (boundary_line_at (length c.args.problem.now.criteria)) 0 c.args.model.now.coalitions))) = put-more c.args.out.now.items c.put_counted.new.out.items c.put_counted-2.new.out.items all (((counted [] (boundaries_of c.args.problem.now) (codes " boundaries" ++ line_end)) ++ ((accepted_lines 0 c.args.problem.now.criteria c.args.model.now.profiles) ++ (numbered (boundary_line_at (length c.args.problem.now.criteria)) 0 c.args.model.now.coalitions)))) (counted [] (boundaries_of c.args.problem.now) (codes " boundaries" ++ line_end)) (((accepted_lines 0 c.args.problem.now.criteria c.args.model.now.profiles) ++ (numbered (boundary_line_at (length c.args.problem.now.criteria)) 0 c.args.model.now.coalitions))) so_1 refl (rw c.categories_count-boundaries.ensures.count at c.in_ok-put_counted-2.ensures) in
    let so_3 : IsPut c.args.out.now.items c.put_accepted.new.out.items all (numbered (boundary_line_at (length c.args.problem.now.criteria)) 0 c.args.model.now.coalitions) = put-more c.args.out.now.items c.put_counted-2.new.out.items c.put_accepted.new.out.items all (((accepted_lines 0 c.args.problem.now.criteria c.args.model.now.profiles) ++ (numbered (boundary_line_at (length c.args.problem.now.criteria)) 0 c.args.model.now.coalitions))) (accepted_lines 0 c.args.problem.now.criteria c.args.model.now.profiles) (numbered (boundary_line_at (length c.args.problem.now.criteria)) 0 c.args.model.now.coalitions) so_2 refl c.in_ok-put_accepted.ensures in
    put-last c.args.out.now.items c.put_accepted.new.out.items c.put_boundaries.new.out.items all (numbered (boundary_line_at (length c.args.problem.now.criteria)) 0 c.args.model.now.coalitions) c.put_boundaries.result so_3 c.put_boundaries.ensures
