use Rattle.std.proofs.Common.{◌<◌, ◌≤◌, length, arith, subst}
use Rattle.std.specs.Prelude.{All}
use Rattle.std.proofs.lemmas.List.{take_all}
use Rattle.written_core.proofs.PutLemmas.{put-more, put-cut, put-all, all-more, texts-item, texts-end}
use Rattle.problem_text_core.specs.Parts.{criterion_text}
use Rattle.problem_text_core.specs.ProblemText.{IsKeptCriterion}
use Rattle.problem_text_core.proofs.criteria.put_criteria.Goals as goal

pub returns-in_err-put_criterion-clause-text : goal.returns-in_err-put_criterion-clause-text
returns-in_err-put_criterion-clause-text c =
    put-cut _ _ _ _ _ _ _ c.from_residual.result c.from_residual.ensures.0 c.loop-i.invariant.put (texts-item criterion_text c.args.problem.now.criteria c.loop-i.i c.criterion.result.now c.criterion.ensures) c.in_err-put_criterion.ensures.text

pub loop-i-preserved : goal.loop-i-preserved
loop-i-preserved c =
    let within : c.loop-i.i < length c.args.problem.now.criteria = omega (arith, c.criteria_count-i-end.ensures.count, c.loop-i-test.true) in
    record {
      put = put-more _ _ _ _ _ _ _ c.loop-i.invariant.put (texts-item criterion_text c.args.problem.now.criteria c.loop-i.i c.criterion.result.now c.criterion.ensures) c.in_ok-put_criterion.ensures.text;
      kept = all-more c.args.problem.now.criteria c.loop-i.i IsKeptCriterion c.criterion.result.now c.loop-i.invariant.kept within c.criterion.ensures c.in_ok-put_criterion.ensures.kept;
    }

pub returns-clause-text : goal.returns-clause-text
returns-clause-text c =
    let past : length c.args.problem.now.criteria ≤ c.loop-i.i = omega (arith, c.criteria_count-i-end.ensures.count, c.loop-i-test.false) in
    put-all _ _ _ _ c.loop-i.invariant.put (texts-end criterion_text c.args.problem.now.criteria c.loop-i.i past)

pub returns-clause-kept : goal.returns-clause-kept
returns-clause-kept c =
    let past : length c.args.problem.now.criteria ≤ c.loop-i.i = omega (arith, c.criteria_count-i-end.ensures.count, c.loop-i-test.false) in
    subst (All IsKeptCriterion) (take_all c.loop-i.i c.args.problem.now.criteria past) c.loop-i.invariant.kept
