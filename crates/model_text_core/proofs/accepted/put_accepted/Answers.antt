use Rattle.std.proofs.Common.{◌≡◌, ◌<◌, ◌≤◌, List, [], length, drop, arith, ap, subst}
use Rattle.std.specs.Prelude.{All}
use Rattle.std.proofs.lemmas.List.{drop_all, take_all}
use Rattle.written_core.proofs.PutLemmas.{put-more, put-cut, put-all, all-more}
use Rattle.problem_core.specs.declared.criterion.Criterion.{Criterion}
use Rattle.model_core.specs.declared.model.Profile.{Profile}
use Rattle.model_text_core.specs.Parts.{accepted_text}
use Rattle.model_text_core.proofs.RowTexts.{accepted-step, got-threshold, IsUtf8Criterion}
use Rattle.model_text_core.proofs.accepted.put_accepted.Goals as goal

pub put_criterion-requires : goal.put_criterion-requires
put_criterion-requires c =
    got-threshold c.args.problem.now.criteria c.args.model.now.profiles c.loop-i.i c.criterion.result.now c.profile.result.now c.requires.grades c.criterion.ensures c.profile.ensures.profile

pub returns-in_err-put_criterion-clause-text : goal.returns-in_err-put_criterion-clause-text
returns-in_err-put_criterion-clause-text c =
    let step = accepted-step c.args.problem.now.criteria c.args.model.now.profiles c.loop-i.i c.criterion.result.now c.profile.result.now c.criterion.ensures c.profile.ensures.profile in
    put-cut _ _ _ _ _ _ _ c.from_residual.result c.from_residual.ensures.0 c.loop-i.invariant.put step c.in_err-put_criterion.ensures.text

pub loop-i-preserved : goal.loop-i-preserved
loop-i-preserved c =
    let criteria : List Criterion = c.args.problem.now.criteria in
    let step = accepted-step criteria c.args.model.now.profiles c.loop-i.i c.criterion.result.now c.profile.result.now c.criterion.ensures c.profile.ensures.profile in
    let within : c.loop-i.i < length criteria = omega arith in
    record {
      put = put-more _ _ _ _ _ _ _ c.loop-i.invariant.put step c.in_ok-put_criterion.ensures.text;
      names = all-more criteria c.loop-i.i IsUtf8Criterion c.criterion.result.now c.loop-i.invariant.names within c.criterion.ensures c.in_ok-put_criterion.ensures.names;
    }

pub returns-clause-text : goal.returns-clause-text
returns-clause-text c =
    let criteria : List Criterion = c.args.problem.now.criteria in
    let profiles : List Profile = c.args.model.now.profiles in
    let past : length criteria ≤ c.loop-i.i = omega arith in
    let none : accepted_text (drop c.loop-i.i criteria) (drop c.loop-i.i profiles) ≡ [] = ap (λ (cs : List Criterion). accepted_text cs (drop c.loop-i.i profiles)) (drop_all c.loop-i.i criteria past) in
    put-all _ _ _ _ c.loop-i.invariant.put none

pub returns-clause-names : goal.returns-clause-names
returns-clause-names c =
    let criteria : List Criterion = c.args.problem.now.criteria in
    let past : length criteria ≤ c.loop-i.i = omega arith in
    subst (All IsUtf8Criterion) (take_all c.loop-i.i criteria past) c.loop-i.invariant.names
