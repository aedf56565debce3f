use Rattle.std.proofs.Common.{◌<◌, ◌+◌, ℕ, List, length, take, sym, subst, arith}
use Rattle.std.specs.List.{All, AllZip}
use Rattle.problem_core.specs.declared.criterion.Criterion.{Criterion}
use Rattle.model_core.specs.Model.{IsThreshold}
use Rattle.model_core.specs.declared.model.Profile.{Profile}
use Rattle.draw_core.specs.DrawnModel.{drawn_profile}
use Rattle.draw_core.proofs.ListedFacts.{listed-push, zip-more}
use Rattle.draw_core.proofs.model.drawn_profiles.Goals as goal

pub loop-i-preserved : goal.loop-i-preserved
loop-i-preserved c =
    let criteria : List Criterion = c.args.problem.now.criteria in
    let f : ℕ → Profile = drawn_profile c.args.problem.now c.args.words.now in
    let R : Criterion → Profile → Type 0 = λ criterion p. All (IsThreshold criterion.scale) p.thresholds in
    let i : ℕ = c.loop-i.i in
    let lt : i < length criteria = omega arith in
    record {
      profiles = listed-push f i c.loop-i.profiles.items c.push.new.self.items c.in_ok-profile.profile c.in_ok-push.ensures.items c.loop-i.invariant.profiles c.in_ok-profile.ensures.profile;
      grades = subst (AllZip R (take (i + 1) criteria)) (sym c.in_ok-push.ensures.items)
          (zip-more R criteria c.loop-i.profiles.items i c.in_ok-profile.profile lt c.loop-i.invariant.grades c.in_ok-profile.ensures.grades);
    }
