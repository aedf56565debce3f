use Rattle.std.proofs.Common.{◌≡◌, ◌+◌, ℕ, List, length, ap, subst, ◌∙◌, arith}
use Rattle.std.specs.Prelude.{Contains}
use Rattle.encoding_rules.specs.Each.{listed}
use Rattle.draw_core.specs.DrawnProblem.{numbered}
use Rattle.encoding_rules.proofs.EachFacts.{length-listed}
use Rattle.draw_core.proofs.NameFacts.{absent_at}
use Rattle.draw_core.proofs.problem.numbered_names.Goals as goal

pub push-requires-clause-room : goal.push-requires-clause-room
push-requires-clause-room c =
    let name : ℕ → List ℕ = λ k. numbered c.args.text.now (k + c.args.first) in
    omega (arith, ap length c.loop-k.invariant, length-listed name c.loop-k.k)

pub push-requires-clause-differs : goal.push-requires-clause-differs
push-requires-clause-differs c =
    let name : ℕ → List ℕ = λ k. numbered c.args.text.now (k + c.args.first) in
    let text : c.as_str.result.now ≡ name c.loop-k.k = c.as_str.ensures.value ∙ c.in_ok-name.ensures in
    let apart = absent_at name c.args.count c.loop-k.k c.requires.differ (omega arith) in
    λ held. apart (subst (λ x. Contains (listed name c.loop-k.k) x) text (subst (λ xs. Contains xs c.as_str.result.now) c.loop-k.invariant held))
