-- Going back to level 0 from rest.
use Rattle.std.proofs.Common.{◌≡◌, ℕ, ◌<◌, List, length, arith, ap, sym, subst, refl}
use Rattle.std.specs.List.{All}
use Rattle.watch_core.specs.Trail.{Assignment, Entry, IsTrail, undone, waiting}
use Rattle.watch_core.specs.Places.{placed}
use Rattle.watch_core.specs.Rest.{IsAtRest}
use Rattle.watch_core.proofs.ReadyLemmas.{rests_undone}
use Rattle.search_core.specs.State.{place, GoesOn}
use Rattle.search_core.proofs.StateLemmas.{sound_undone}

pub rests_again : (clauses clauses' : List (List ℕ)) (t t' : Assignment ℕ) → IsTrail place t → IsAtRest place t (placed place clauses) → 0 < t.level → t' ≡ undone t 0 → clauses' ≡ clauses → IsAtRest place t' (placed place clauses')
rests_again clauses clauses' t t' trail rest above e es =
    let current : All (λ (en : Entry ℕ). en.level ≡ t.level) (waiting t) = (λ k d lt. absurd (let n = ap length rest.none_waits in omega (arith, n, lt))) in
    subst (λ (u : Assignment ℕ). IsAtRest place u (placed place clauses')) (sym e) (subst (λ (cs : List (List ℕ)). IsAtRest place (undone t 0) (placed place cs)) (sym es) (rests_undone place t (placed place clauses) 0 trail rest.below current above))

pub goes_again : (clauses clauses' : List (List ℕ)) (t t' : Assignment ℕ) → IsTrail place t → t' ≡ undone t 0 → clauses' ≡ clauses → GoesOn clauses t clauses' t'
goes_again clauses clauses' t t' trail e es =
    subst (λ (u : Assignment ℕ). GoesOn clauses t clauses' u) (sym e) (subst (λ (cs : List (List ℕ)). GoesOn clauses t cs (undone t 0)) (sym es) (record {
      sound = λ n known sound. sound_undone n known clauses t 0 trail (omega arith) sound;
      variables = refl;
      count = refl;
    }))
