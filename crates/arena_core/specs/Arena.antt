-- An arena has room for so many clauses, of so many literals.
use Rattle.std.specs.Prelude.{◌≤◌, List, length, All}
use Rattle.arena_core.specs.declared.arena.TheConstants.{MOST_CLAUSES, MOST_LITERALS}

pub record IsSmall {L : Type 0} (clauses : List (List L)) : Type 0 where
  pub few : length clauses ≤ MOST_CLAUSES
  pub short : All (λ c. length c ≤ MOST_LITERALS) clauses
