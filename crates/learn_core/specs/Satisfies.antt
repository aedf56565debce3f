-- Values that satisfy a formula of a task.
use Rattle.std.specs.Prelude.{ℕ, Bool}
use Rattle.literals_core.specs.Values.{Satisfies}
use Rattle.literals_core.specs.declared.encoding.Encoding.{Encoding}
use Rattle.encoding_rules.specs.Task.{Task}
use Rattle.encoding_rules.specs.Encodings.{clauses_of}

-- the values make every clause of the formula of some encoding true
abbrev pub SatisfiesOne : Task → (ℕ → Bool) → Type 0
SatisfiesOne task values = (encoding : Encoding) × Satisfies values (clauses_of encoding task)
