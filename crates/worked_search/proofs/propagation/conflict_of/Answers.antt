use Rattle.std.proofs.Common.{◌≡◌, ℕ, ◌≤◌, List, sym, subst, arith}
use Rattle.arena_core.specs.declared.lit.TheConstants.{MOST_VARIABLES}
use Rattle.watch_core.specs.Places.{placed}
use Rattle.watch_core.specs.Trail.{Assignment, decided, empty_trail}
use Rattle.watch_core.specs.Rest.{CanPropagate}
use Rattle.watch_core.proofs.ReadyLemmas.{rests_at_start, can_decided}
use Rattle.watch_core.proofs.TrailLemmas.{empty_is}
use Rattle.worked_search.proofs.propagation.conflict_of.Goals as goal

-- a first decision may be propagated
can_first : {L : Type 0} (at : L → ℕ) (trail before : Assignment L) (clauses : List (List ℕ)) (decision : L) (variables : ℕ) → variables ≤ MOST_VARIABLES → before ≡ empty_trail variables → trail ≡ decided before decision → CanPropagate at trail clauses
can_first at trail before clauses decision variables few empty made =
    subst (λ t. CanPropagate at t clauses) (sym made) (can_decided at before clauses decision (empty_is at before variables empty few) (rests_at_start at before clauses variables empty))

pub propagate-requires : goal.propagate-requires
propagate-requires g c = record { ready = can_first _ c.decide.new.self.trail c.args.watched.now.trail (placed _ c.decide.new.self.clauses) c.literal.result 5 (omega arith) c.requires.trail c.decide.ensures.trail }
