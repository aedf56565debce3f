use Rattle.std.proofs.Common.{◌≤◌, rules, arith}
use Rattle.arena_core.specs.declared.lit.TheConstants.{MOST_VARIABLES}
use Rattle.watch_core.proofs.trail.Trail.decide.Goals as goal

pub overflow_add-level : goal.overflow_add-level
overflow_add-level g c = (let a : c.level-level.result ≤ MOST_VARIABLES = omega (arith, c.level-level.ensures.value, c.level-level.ensures.kept.low, c.level-level.ensures.kept.few) in search rules)
