use Rattle.std.proofs.Common.{[], ◌∷◌, ◌++◌, ◌≤◌, take}
use Rattle.std.specs.List.{All, flat_map}
use Rattle.std.specs.Prelude.{decimal}
use Rattle.chain_core.specs.declared.number.TheConstants.{MOST_ID}
use Rattle.stream_core.proofs.Steps.{Along}
use Rattle.stream_core.proofs.send.put_ids.Given as goal

-- what was put so far
abbrev pub invariant-loop-id : goal.invariant-loop-id
invariant-loop-id g l = record {
  streams : Along (g.O.Sink.state l.initial.sink) (g.O.Sink.state l.sink) l.initial.piece l.piece (flat_map (λ x. decimal x ++ 32 ∷ []) (take l.id-index l.ids));
  reach : All (λ x. x ≤ MOST_ID) (take l.id-index l.ids);
}
