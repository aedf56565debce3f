use Rattle.std.proofs.Common.{◌≡◌, ◌+◌, ◌-◌, ◌≤◌, length, drop}
use Rattle.chain_core.specs.Reading.{lines_of, lemmas_in}
use Rattle.chain_core.proofs.LineLemmas.{after_lemmas}
use Rattle.chain_core.proofs.read.read_lemmas.Given as goal

-- the lemmas so far, and those to come, are all
abbrev pub invariant-loop-at : goal.invariant-loop-at
invariant-loop-at l = record {
  within : l.at ≤ length l.bytes;
  few : length l.log ≤ l.at;
  line : l.line ≡ length l.log + 2;
  so_far : after_lemmas l.log (lemmas_in l.line (lines_of (drop l.at l.bytes))) ≡ lemmas_in 2 (lines_of (drop l.fn.from l.bytes));
}

abbrev pub decreases-loop-at : goal.decreases-loop-at
decreases-loop-at l = length l.bytes - l.at
