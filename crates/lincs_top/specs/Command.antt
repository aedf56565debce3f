-- The files of a command, and how its output goes out.
use Rattle.std.specs.Prelude.{ℕ, Bool, true, false, List, [], ◌∷◌}
use Rattle.line_core.specs.Command.{Command, classifying, rating, learning, encoding, checking, describing_problem}
use Rattle.line_core.specs.Command.{describing_model, describing_table, generating_problem, generating_model}
use Rattle.line_core.specs.Command.{generating_table, rehearsing}

-- the names of a command's files, in the order in which they are read
abbrev pub names_of : Command → List (List ℕ)
names_of (classifying problem model table) = problem ∷ model ∷ table ∷ []
names_of (rating problem model table) = problem ∷ model ∷ table ∷ []
names_of (learning problem table how most) = problem ∷ table ∷ []
names_of (encoding problem table how) = problem ∷ table ∷ []
names_of (checking problem table refutation) = problem ∷ table ∷ refutation ∷ []
names_of (describing_problem problem) = problem ∷ []
names_of (describing_model problem model) = problem ∷ model ∷ []
names_of (describing_table problem table) = problem ∷ table ∷ []
names_of (generating_problem criteria categories seed) = []
names_of (generating_model problem seed) = problem ∷ []
names_of (generating_table problem model rows seed) = problem ∷ model ∷ []
names_of (rehearsing criteria categories rows seed) = []

-- part of its output may be out when memory ends: its rows go out while they are read
abbrev pub streams : Command → Bool
streams (classifying problem model table) = true
streams command = false

-- it makes a formula, which may be too large
abbrev pub makes_formula : Command → Bool
makes_formula (learning problem table how most) = true
makes_formula (encoding problem table how) = true
makes_formula (checking problem table refutation) = true
makes_formula (rehearsing criteria categories rows seed) = true
makes_formula command = false

-- it learns from a table, encodes it or checks a refutation of it
abbrev pub learns_or_encodes : Command → Bool
learns_or_encodes (learning problem table how most) = true
learns_or_encodes (encoding problem table how) = true
learns_or_encodes (checking problem table refutation) = true
learns_or_encodes command = false

-- it draws what it writes or learns from
abbrev pub generates_or_rehearses : Command → Bool
generates_or_rehearses (generating_problem criteria categories seed) = true
generates_or_rehearses (generating_model problem seed) = true
generates_or_rehearses (generating_table problem model rows seed) = true
generates_or_rehearses (rehearsing criteria categories rows seed) = true
generates_or_rehearses command = false
