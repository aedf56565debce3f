-- Decisions from rest.
use Rattle.std.proofs.Common.{◌≡◌, ℕ, false, List, Option, None, Some, sym, subst}
use Rattle.std.specs.Prelude.{is_some}
use Rattle.std.proofs.lemmas.Bool.{false≢true}
use Rattle.watch_core.specs.Trail.{Assignment, IsTrail, decided}
use Rattle.watch_core.specs.Places.{placed}
use Rattle.watch_core.specs.Rest.{CanPropagate, Outcome, IsAtRest}
use Rattle.watch_core.proofs.ReadyLemmas.{can_decided}
use Rattle.search_core.specs.State.{place, GoesOn}
use Rattle.search_core.proofs.StateLemmas.{goes_decided, goes_trans}

pub at_rest : (t : Assignment ℕ) (clauses : List (List ℕ)) (o : Option ℕ) → Outcome place t clauses o → is_some o ≡ false → IsAtRest place t clauses
at_rest t clauses None rest none = rest
at_rest t clauses (Some id) out none = absurd (false≢true (sym none))

pub can_go_on : (clauses clauses' : List (List ℕ)) (t t' : Assignment ℕ) (l : ℕ) (o : Option ℕ) → IsTrail place t → Outcome place t (placed place clauses) o → is_some o ≡ false → t' ≡ decided t l → clauses' ≡ clauses → CanPropagate place t' (placed place clauses')
can_go_on clauses clauses' t t' l o trail out none e es =
    subst (λ (u : Assignment ℕ). CanPropagate place u (placed place clauses')) (sym e) (subst (λ (cs : List (List ℕ)). CanPropagate place (decided t l) (placed place cs)) (sym es) (can_decided place t (placed place clauses) l trail (at_rest t (placed place clauses) o out none)))

pub goes_on_decided : (first clauses clauses' : List (List ℕ)) (start t t' : Assignment ℕ) (l : ℕ) → GoesOn first start clauses t → IsTrail place t → t' ≡ decided t l → clauses' ≡ clauses → GoesOn first start clauses' t'
goes_on_decided first clauses clauses' start t t' l goes trail e es =
    subst (λ (u : Assignment ℕ). GoesOn first start clauses' u) (sym e) (subst (λ (cs : List (List ℕ)). GoesOn first start cs (decided t l)) (sym es) (goes_trans first clauses clauses start t (decided t l) goes (goes_decided clauses t l trail)))
