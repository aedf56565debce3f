use Rattle.std.proofs.Common.{◌≡◌, ℕ, ◌+◌, ◌-◌, ◌≤◌, List, ◌++◌, length, drop, vec_len}
use Rattle.std.specs.Prelude.{option_map}
use Rattle.chain_core.specs.Reading.{words_of, hints_in}
use Rattle.chain_core.proofs.read.read_hints.Given as goal

-- the hints so far, and those to come, are all
abbrev pub invariant-loop-word : goal.invariant-loop-word
invariant-loop-word l = record {
  within : l.at ≤ length l.text;
  few : vec_len l.hints ≤ vec_len l.initial.hints + l.at;
  so_far : (read : List ℕ) × (l.hints.items ≡ l.initial.hints.items ++ read) × (option_map (λ more. read ++ more) (hints_in (words_of (drop l.at l.text))) ≡ hints_in (words_of (drop l.fn.from l.text)));
}

abbrev pub decreases-loop-word : goal.decreases-loop-word
decreases-loop-word l = length l.text + 1 - l.at
