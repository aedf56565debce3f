use Rattle.std.proofs.Common.{◌≡◌, ℕ, ◌+◌, ◌-◌, ◌≤◌, List, ◌++◌, length, drop, vec_len}
use Rattle.std.specs.Prelude.{option_map}
use Rattle.chain_core.specs.Reading.{words_of, literals_in}
use Rattle.chain_core.proofs.read.read_literals.Given as goal

-- the literals so far, and those to come, are all
abbrev pub invariant-loop-word : goal.invariant-loop-word
invariant-loop-word l = record {
  within : l.at ≤ length l.text;
  few : vec_len l.literals ≤ vec_len l.initial.literals + l.at;
  so_far : (read : List ℕ) × (l.literals.items ≡ l.initial.literals.items ++ read) × (option_map (λ (more : List ℕ × List ℕ). (read ++ more.0, more.1)) (literals_in (words_of (drop l.at l.text))) ≡ literals_in (words_of (drop l.fn.from l.text)));
}

abbrev pub decreases-loop-word : goal.decreases-loop-word
decreases-loop-word l = length l.text + 1 - l.at
