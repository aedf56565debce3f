use Rattle.std.proofs.Common.{ℕ, List, [], ◌++◌, length, codes, refl}
use Rattle.written_core.proofs.PutLemmas.{IsPut, put-none, put-more, put-cut, put-last}
use Rattle.report_core.specs.Text.{counted, line_end, numbered}
use Rattle.report_core.specs.Described.{category_line, criterion_line, problem_description}
use Rattle.report_core.proofs.problem_text.describe_problem.Goals as goal

pub returns-in_err-put_counted : goal.returns-in_err-put_counted
returns-in_err-put_counted c =
    let all : List ℕ = problem_description c.args.problem.now in
    let so_0 : IsPut c.args.out.now.items c.args.out.now.items all all = put-none c.args.out.now.items all in
    put-cut c.args.out.now.items c.args.out.now.items c.put_counted.new.out.items all (((counted (codes "problem: ") (length c.args.problem.now.criteria) (codes " criteria, ")) ++ ((counted [] (length c.args.problem.now.categories) (codes " categories" ++ line_end)) ++ ((numbered criterion_line 0 c.args.problem.now.criteria) ++ (numbered category_line 0 c.args.problem.now.categories))))) (counted (codes "problem: ") (length c.args.problem.now.criteria) (codes " criteria, ")) (((counted [] (length c.args.problem.now.categories) (codes " categories" ++ line_end)) ++ ((numbered criterion_line 0 c.args.problem.now.criteria) ++ (numbered category_line 0 c.args.problem.now.categories)))) c.from_residual.result c.from_residual.ensures.0 so_0 refl (rw c.criteria_count-criteria.ensures.count at c.in_err-put_counted.ensures)

pub returns-in_err-put_counted-2 : goal.returns-in_err-put_counted-2
returns-in_err-put_counted-2 c =
    let all : List ℕ = problem_description c.args.problem.now in
    let so_0 : IsPut c.args.out.now.items c.args.out.now.items all all = put-none c.args.out.now.items all in
    let so_1 : IsPut c.args.out.now.items c.put_counted.new.out.items all (((counted [] (length c.args.problem.now.categories) (codes " categories" ++ line_end)) ++ ((numbered criterion_line 0 c.args.problem.now.criteria) ++ (numbered category_line 0 c.args.problem.now.categories)))) = put-more c.args.out.now.items c.args.out.now.items c.put_counted.new.out.items all (((counted (codes "problem: ") (length c.args.problem.now.criteria) (codes " criteria, ")) ++ ((counted [] (length c.args.problem.now.categories) (codes " categories" ++ line_end)) ++ ((numbered criterion_line 0 c.args.problem.now.criteria) ++ (numbered category_line 0 c.args.problem.now.categories))))) (counted (codes "problem: ") (length c.args.problem.now.criteria) (codes " criteria, ")) (((counted [] (length c.args.problem.now.categories) (codes " categories" ++ line_end)) ++ ((numbered criterion_line 0 c.args.problem.now.criteria) ++ (numbered category_line 0 c.args.problem.now.categories)))) so_0 refl (rw c.criteria_count-criteria.ensures.count at c.in_ok-put_counted.ensures) in
    put-cut c.args.out.now.items c.put_counted.new.out.items c.put_counted-2.new.out.items all (((counted [] (length c.args.problem.now.categories) (codes " categories" ++ line_end)) ++ ((numbered criterion_line 0 c.args.problem.now.criteria) ++ (numbered category_line 0 c.args.problem.now.categories)))) (counted [] (length c.args.problem.now.categories) (codes " categories" ++ line_end)) (((numbered criterion_line 0 c.args.problem.now.criteria) ++ (numbered category_line 0 c.args.problem.now.categories))) c.from_residual-in_err-put_counted-2.result c.from_residual-in_err-put_counted-2.ensures.0 so_1 refl (rw c.categories_count-categories.ensures.count at c.in_err-put_counted-2.ensures)

pub returns-in_err-put_criteria : goal.returns-in_err-put_criteria
returns-in_err-put_criteria c =
    let all : List ℕ = problem_description c.args.problem.now in
    let so_0 : IsPut c.args.out.now.items c.args.out.now.items all all = put-none c.args.out.now.items all in
    let so_1 : IsPut c.args.out.now.items c.put_counted.new.out.items all (((counted [] (length c.args.problem.now.categories) (codes " categories" ++ line_end)) ++ ((numbered criterion_line 0 c.args.problem.now.criteria) ++ (numbered category_line 0 c.args.problem.now.categories)))) = put-more c.args.out.now.items c.args.out.now.items c.put_counted.new.out.items all (((counted (codes "problem: ") (length c.args.problem.now.criteria) (codes " criteria, ")) ++ ((counted [] (length c.args.problem.now.categories) (codes " categories" ++ line_end)) ++ ((numbered criterion_line 0 c.args.problem.now.criteria) ++ (numbered category_line 0 c.args.problem.now.categories))))) (counted (codes "problem: ") (length c.args.problem.now.criteria) (codes " criteria, ")) (((counted [] (length c.args.problem.now.categories) (codes " categories" ++ line_end)) ++ ((numbered criterion_line 0 c.args.problem.now.criteria) ++ (numbered category_line 0 c.args.problem.now.categories)))) so_0 refl (rw c.criteria_count-criteria.ensures.count at c.in_ok-put_counted.ensures) in
    let so_2 : IsPut c.args.out.now.items c.put_counted-2.new.out.items all (((numbered criterion_line 0 c.args.problem.now.criteria) ++ (numbered category_line 0 c.args.problem.now.categories))) = put-more c.args.out.now.items c.put_counted.new.out.items c.put_counted-2.new.out.items all (((counted [] (length c.args.problem.now.categories) (codes " categories" ++ line_end)) ++ ((numbered criterion_line 0 c.args.problem.now.criteria) ++ (numbered category_line 0 c.args.problem.now.categories)))) (counted [] (length c.args.problem.now.categories) (codes " categories" ++ line_end)) (((numbered criterion_line 0 c.args.problem.now.criteria) ++ (numbered category_line 0 c.args.problem.now.categories))) so_1 refl (rw c.categories_count-categories.ensures.count at c.in_ok-put_counted-2.ensures) in
    put-cut c.args.out.now.items c.put_counted-2.new.out.items c.put_criteria.new.out.items all (((numbered criterion_line 0 c.args.problem.now.criteria) ++ (numbered category_line 0 c.args.problem.now.categories))) (numbered criterion_line 0 c.args.problem.now.criteria) (numbered category_line 0 c.args.problem.now.categories) c.from_residual-in_err-put_criteria.result c.from_residual-in_err-put_criteria.ensures.0 so_2 refl c.in_err-put_criteria.ensures

pub returns : goal.returns
returns c =
    let all : List ℕ = problem_description c.args.problem.now in
    let so_0 : IsPut c.args.out.now.items c.args.out.now.items all all = put-none c.args.out.now.items all in
    let so_1 : IsPut c.args.out.now.items c.put_counted.new.out.items all (((counted [] (length c.args.problem.now.categories) (codes " categories" ++ line_end)) ++ ((numbered criterion_line 0 c.args.problem.now.criteria) ++ (numbered category_line 0 c.args.problem.now.categories)))) = put-more c.args.out.now.items c.args.out.now.items c.put_counted.new.out.items all (((counted (codes "problem: ") (length c.args.problem.now.criteria) (codes " criteria, ")) ++ ((counted [] (length c.args.problem.now.categories) (codes " categories" ++ line_end)) ++ ((numbered criterion_line 0 c.args.problem.now.criteria) ++ (numbered category_line 0 c.args.problem.now.categories))))) (counted (codes "problem: ") (length c.args.problem.now.criteria) (codes " criteria, ")) (((counted [] (length c.args.problem.now.categories) (codes " categories" ++ line_end)) ++ ((numbered criterion_line 0 c.args.problem.now.criteria) ++ (numbered category_line 0 c.args.problem.now.categories)))) so_0 refl (rw c.criteria_count-criteria.ensures.count at c.in_ok-put_counted.ensures) in
    let so_2 : IsPut c.args.out.now.items c.put_counted-2.new.out.items all (((numbered criterion_line 0 c.args.problem.now.criteria) ++ (numbered category_line 0 c.args.problem.now.categories))) = put-more c.args.out.now.items c.put_counted.new.out.items c.put_counted-2.new.out.items all (((counted [] (length c.args.problem.now.categories) (codes " categories" ++ line_end)) ++ ((numbered criterion_line 0 c.args.problem.now.criteria) ++ (numbered category_line 0 c.args.problem.now.categories)))) (counted [] (length c.args.problem.now.categories) (codes " categories" ++ line_end)) (((numbered criterion_line 0 c.args.problem.now.criteria) ++ (numbered category_line 0 c.args.problem.now.categories))) so_1 refl (rw c.categories_count-categories.ensures.count at c.in_ok-put_counted-2.ensures) in
    let so_3 : IsPut c.args.out.now.items c.put_criteria.new.out.items all (numbered category_line 0 c.args.problem.now.categories) = put-more c.args.out.now.items c.put_counted-2.new.out.items c.put_criteria.new.out.items all (((numbered criterion_line 0 c.args.problem.now.criteria) ++ (numbered category_line 0 c.args.problem.now.categories))) (numbered criterion_line 0 c.args.problem.now.criteria) (numbered category_line 0 c.args.problem.now.categories) so_2 refl c.in_ok-put_criteria.ensures in
    put-last c.args.out.now.items c.put_criteria.new.out.items c.put_categories.new.out.items all (numbered category_line 0 c.args.problem.now.categories) c.put_categories.result so_3 c.put_categories.ensures
