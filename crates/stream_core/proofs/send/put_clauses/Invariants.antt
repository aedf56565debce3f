use Rattle.std.proofs.Common.{take}
use Rattle.std.specs.List.{flat_map}
use Rattle.chain_core.specs.Text.{line_of, clause_words}
use Rattle.stream_core.proofs.Steps.{Along}
use Rattle.stream_core.proofs.send.put_clauses.Given as goal

-- what was put so far
abbrev pub invariant-loop-k : goal.invariant-loop-k
invariant-loop-k g l = Along (g.O.Sink.state l.initial.sink) (g.O.Sink.state l.sink) l.initial.piece l.piece (flat_map (λ x. line_of (clause_words x)) (take l.k l.formula.clauses))
