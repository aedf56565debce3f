use Rattle.std.proofs.Common.{◌≡◌, ℕ, Bool, drop, get_or, not, ◌==◌}
use Rattle.std.specs.List.{filter, Contains}
use Rattle.std.specs.Option.{IfSome}
use Rattle.chain_core.specs.Chain.{after_open}
use Rattle.chain_core.proofs.OpenLiteralsLemmas.{rest_answer}
use Rattle.chain_core.proofs.chain.open_literals_of.Given as goal

abbrev pub invariant-loop-literal : goal.invariant-loop-literal
invariant-loop-literal l = record {
  answer : (next : ℕ → Bool) → rest_answer (λ x. not (get_or l.stamps x 0 == l.stamp)) l.found (drop l.literal-index l.clause) next ≡ after_open (filter (λ x. not (get_or l.stamps x 0 == l.stamp)) l.clause) next;
  among : IfSome l.found (Contains l.clause);
}
