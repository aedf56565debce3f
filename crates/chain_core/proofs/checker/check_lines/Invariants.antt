use Rattle.std.proofs.Common.{◌≡◌, ◌+◌, ◌≤◌, drop}
use Rattle.std.specs.List.{All}
use Rattle.literals_core.specs.Formula.{InRange}
use Rattle.chain_core.specs.Log.{first_fault}
use Rattle.chain_core.specs.Log.{known_before}
use Rattle.chain_core.proofs.checker.check_lines.Given as goal

abbrev pub invariant-loop-k : goal.invariant-loop-k
invariant-loop-k l = record {
  answer : first_fault l.formula.variables (known_before l.formula l.log l.k) (l.k + 2) (drop l.k l.log) ≡ first_fault l.formula.variables l.formula.clauses 2 l.log;
  range : InRange l.formula.variables (known_before l.formula l.log l.k);
  bound : All (λ s. s ≤ l.k) l.stamps;
}
