use Rattle.std.proofs.Common.{◌≡◌, ◌≤◌, ◌++◌, take}
use Rattle.std.specs.List.{flat_map}
use Rattle.yaml_tokens.specs.Written.{spelled}
use Rattle.yaml_tokens.proofs.WrittenLemmas.{IsRun}
use Rattle.yaml_tokens.proofs.written.put_spelled.Given as goal

abbrev pub invariant-loop-at : goal.invariant-loop-at
invariant-loop-at l = record {
  order : l.done ≤ l.at;
  written : l.out.items ≡ l.initial.out.items ++ flat_map spelled (take l.done l.bytes);
  run : IsRun l.bytes l.done l.at;
}
