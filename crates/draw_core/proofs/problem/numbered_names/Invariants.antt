use Rattle.std.proofs.Common.{◌≡◌, ◌+◌}
use Rattle.encoding_rules.specs.Each.{listed}
use Rattle.draw_core.specs.DrawnProblem.{numbered}
use Rattle.draw_core.proofs.problem.numbered_names.Given as goal

abbrev pub invariant-loop-k : goal.invariant-loop-k
invariant-loop-k l = l.names ≡ listed (λ k. numbered l.text (k + l.first)) l.k
