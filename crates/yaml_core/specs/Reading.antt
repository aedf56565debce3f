-- Reading while anchors give names to nodes.
use Rattle.std.specs.Prelude.{ℕ, nat_le, if◌then◌else◌, List, Option, Some, None, option_map}
use Rattle.yaml_core.specs.Measured.{Measured, Entry, find_entry, add_entry}

-- the nodes that ended so far, by the names of their anchors
abbrev pub Names : Type 0
Names = List Entry

-- what is read when these nodes have names, and the names after it
abbrev pub Reading : Type 0 → Type 0
Reading A = Names → Option (A × Names)

abbrev pub nothing : {A : Type 0} → Reading A
nothing names = None

abbrev pub gives : {A : Type 0} → A → Reading A
gives a names = Some (a, names)

abbrev pub and_then : {A B : Type 0} → (A → Reading B) → Option (A × Names) → Option (B × Names)
and_then f None = None
and_then f (Some p) = f p.0 p.1

-- one reading after another
infixl 10 ◌>>=◌
abbrev pub ◌>>=◌ : {A B : Type 0} → Reading A → (A → Reading B) → Reading B
◌>>=◌ read f names = and_then f (read names)

-- the node gets a name, which must be new
abbrev pub naming : List ℕ → Measured → Reading Measured
naming name m names = option_map (λ named. (m, named)) (add_entry names name m)

-- the node that was read gets a name if there is one
abbrev pub named_as : Option (List ℕ) → Reading Measured → Reading Measured
named_as None read = read
named_as (Some name) read = read >>= naming name

abbrev pub unless_higher : ℕ → Names → Option Measured → Option (Measured × Names)
unless_higher d names None = None
unless_higher d names (Some m) = if nat_le m.height d then Some (m, names) else None

-- the node that has the name, if it ended before and has at most so many levels
abbrev pub node_named : ℕ → List ℕ → Reading Measured
node_named d name names = unless_higher d names (find_entry name names)
