use Rattle.std.proofs.Common.{◌<◌, ◌≤◌, length, arith, subst}
use Rattle.std.specs.Prelude.{All}
use Rattle.std.specs.Str.{IsUtf8}
use Rattle.std.proofs.lemmas.List.{take_all}
use Rattle.written_core.proofs.PutLemmas.{put-more, put-cut, put-all, all-more, texts-item, texts-end}
use Rattle.problem_text_core.specs.Parts.{name_row}
use Rattle.problem_text_core.proofs.criteria.put_categories.Goals as goal

pub returns-in_err-put_name_line-clause-text : goal.returns-in_err-put_name_line-clause-text
returns-in_err-put_name_line-clause-text c =
    put-cut _ _ _ _ _ _ _ c.from_residual.result c.from_residual.ensures.0 c.loop-j.invariant.put (texts-item name_row c.args.problem.now.categories c.loop-j.j c.category.result.now c.category.ensures) c.in_err-put_name_line.ensures.text

pub loop-j-preserved : goal.loop-j-preserved
loop-j-preserved c =
    let within : c.loop-j.j < length c.args.problem.now.categories = omega (arith, c.categories_count-j-end.ensures.count, c.loop-j-test.true) in
    record {
      put = put-more _ _ _ _ _ _ _ c.loop-j.invariant.put (texts-item name_row c.args.problem.now.categories c.loop-j.j c.category.result.now c.category.ensures) c.in_ok-put_name_line.ensures.text;
      utf8 = all-more c.args.problem.now.categories c.loop-j.j IsUtf8 c.category.result.now c.loop-j.invariant.utf8 within c.category.ensures c.put_name_line.ensures.utf8;
    }

pub returns-clause-text : goal.returns-clause-text
returns-clause-text c =
    let past : length c.args.problem.now.categories ≤ c.loop-j.j = omega (arith, c.categories_count-j-end.ensures.count, c.loop-j-test.false) in
    put-all _ _ _ _ c.loop-j.invariant.put (texts-end name_row c.args.problem.now.categories c.loop-j.j past)

pub returns-clause-kept : goal.returns-clause-kept
returns-clause-kept c =
    let past : length c.args.problem.now.categories ≤ c.loop-j.j = omega (arith, c.categories_count-j-end.ensures.count, c.loop-j-test.false) in
    (c.categories_count-j-end.ensures.distinct, subst (All IsUtf8) (take_all c.loop-j.j c.args.problem.now.categories past) c.loop-j.invariant.utf8)
