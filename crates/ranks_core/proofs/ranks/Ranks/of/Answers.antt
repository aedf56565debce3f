use Rattle.std.proofs.Common.{◌≡◌, false, length, map, sym, ap, ◌∙◌, subst, arith}
use Rattle.std.specs.List.{AllPairs}
use Rattle.sorting_rule.specs.Preference.{is_as_good}
use Rattle.sorting_rule.specs.Rebuilt.{grade_on}
use Rattle.encoding_rules.proofs.RankFacts.{ranking_rises}
use Rattle.std.proofs.lemmas.List.{length-map}
use Rattle.problem_core.specs.Grade.{direction_of}
use Rattle.problem_core.specs.declared.criterion.Criterion.{Criterion}
use Rattle.encoding_rules.specs.Each.{listed}
use Rattle.encoding_rules.specs.Task.{Task, criteria}
use Rattle.encoding_rules.specs.Ranks.{ranked, rank}
use Rattle.ranks_core.specs.Ranks.{task_of}
use Rattle.ranks_core.proofs.RanksFacts.{ranked_is, places_is, ranks_more}
use Rattle.ranks_core.proofs.ranks.Ranks.of.Goals as goal

pub places_of-requires-clause-rises : goal.places_of-requires-clause-rises
places_of-requires-clause-rises c =
    let d = direction_of c.criterion.result.now.scale in
    subst (AllPairs (λ x y. is_as_good d x y ≡ false)) (sym (c.deref.ensures.value ∙ c.in_ok-ranked.ensures.grades)) (ranking_rises d (map (grade_on c.loop-i.i) c.args.examples.now))

pub places_of-requires-clause-few : goal.places_of-requires-clause-few
places_of-requires-clause-few c = let size = ap length c.deref.ensures.value in let few = c.in_ok-ranked.ensures.few in omega (arith, size, few)

pub loop-i-preserved : goal.loop-i-preserved
loop-i-preserved c =
    let is_g : c.in_ok-ranked.ranked.items ≡ ranked (task_of c.args.problem.now c.args.examples.now) c.loop-i.i =
    ranked_is c.args.problem.now c.args.examples.now c.loop-i.i c.criterion.result.now c.in_ok-ranked.ranked.items c.criterion.ensures c.in_ok-ranked.ensures.grades in
    let is_p : c.in_ok-own.own.items ≡ map (rank (task_of c.args.problem.now c.args.examples.now) c.loop-i.i) c.args.examples.now =
    places_is c.args.problem.now c.args.examples.now c.loop-i.i c.criterion.result.now c.deref.result.now c.in_ok-own.own.items c.criterion.ensures (c.deref.ensures.value ∙ is_g) c.in_ok-own.ensures in
    let size = ap length c.deref-in-loop-i.ensures.value in
    let few = c.in_ok-ranked.ensures.few in
    ranks_more c.args.problem.now c.args.examples.now c.loop-i.i c.loop-i.grades c.push.new.self c.loop-i.places c.push-in-loop-i.new.self c.deref-in-loop-i.result.now c.deref-in-loop-i-2.result.now c.loop-i.invariant
    (c.deref-in-loop-i.ensures.value ∙ is_g) (c.deref-in-loop-i-2.ensures.value ∙ is_p) (omega (arith, size, few)) c.in_ok-push.ensures.ok c.in_ok-push-2.ensures.ok

pub returns : goal.returns
unfolding criteria
returns c =
    let task : Task = task_of c.args.problem.now c.args.examples.now in
    let many = length-map c.args.problem.now.criteria (λ (k : Criterion). direction_of k.scale) in
    let all : c.loop-i.i ≡ criteria task = omega (arith, many, c.loop-i-test.false, c.loop-i.auto.i-end, c.criteria_count-i-end.ensures.count) in
    record {
      grades_are = c.loop-i.invariant.grades_are ∙ ap (listed (ranked task)) all;
      places_are = c.loop-i.invariant.places_are ∙ ap (listed (λ k. map (rank task k) task.examples)) all;
    }
