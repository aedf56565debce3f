use Rattle.std.proofs.Common.{rules, inl, inr, arith}
use Rattle.std.proofs.lemmas.Grind.{common_steps}
use Rattle.edge_core.proofs.mem_sink.MemSinkSink.write.Goals as goal
use Rattle.edge_core.proofs.mem_sink.MemSinkSink.write.Goals.{else-not-contains-via-then-not-contains+else-is_ok, else-not-contains-via-else-not-contains}

pub returns-clause-only : goal.returns-clause-only
returns-clause-only c = elim c.else-not-contains.branch [
  | else-not-contains-via-then-not-contains+else-is_ok w ↦ inr (grind (arith, common_steps))
  | else-not-contains-via-else-not-contains w ↦ inl (search rules)
]
