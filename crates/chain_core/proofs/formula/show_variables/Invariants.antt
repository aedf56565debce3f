use Rattle.std.proofs.Common.{ℕ, ◌<◌, ◌≤◌, get_or}
use Rattle.literals_core.specs.Literal.{variable_of}
use Rattle.chain_core.proofs.formula.show_variables.Given as goal

abbrev pub invariant-loop-literal : goal.invariant-loop-literal
invariant-loop-literal l = (k d : ℕ) → k < l.literal-index → 1 ≤ variable_of (get_or l.literals k d)
