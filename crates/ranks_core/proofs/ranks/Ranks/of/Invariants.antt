use Rattle.ranks_core.specs.Ranks.{task_of}
use Rattle.ranks_core.proofs.RanksFacts.{RanksSo}
use Rattle.ranks_core.proofs.ranks.Ranks.of.Given as goal

abbrev pub invariant-loop-i : goal.invariant-loop-i
invariant-loop-i l = RanksSo (task_of l.problem l.examples) l.i l.grades l.places
