use Rattle.std.proofs.Common.{[], ◌∷◌, ◌++◌, take}
use Rattle.std.specs.List.{All, flat_map}
use Rattle.chain_core.specs.Text.{literal_word}
use Rattle.chain_core.specs.Literal.{IsPlace}
use Rattle.stream_core.proofs.Steps.{Along}
use Rattle.stream_core.proofs.send.put_literals.Given as goal

-- what was put so far
abbrev pub invariant-loop-literal : goal.invariant-loop-literal
invariant-loop-literal g l = record {
  streams : Along (g.O.Sink.state l.initial.sink) (g.O.Sink.state l.sink) l.initial.piece l.piece (flat_map (λ x. literal_word x ++ 32 ∷ []) (take l.literal-index l.literals));
  reach : All IsPlace (take l.literal-index l.literals);
}
