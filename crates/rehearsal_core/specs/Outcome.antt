-- What a rehearsal ends with.
use Rattle.std.specs.Prelude.{ℕ, ⊤, List}
use Rattle.chain_core.specs.declared.log.Lemma.{Lemma}
use Rattle.rehearsal_core.specs.declared.rehearsal.Rehearsal.{Rehearsal}
use Rattle.rehearsal_core.specs.declared.rehearsal.Rehearsal.TheVariants.{Learned, Limit}

-- something holds of the summary, or of the lemmas at the limit, if that is the end
abbrev pub IfLearned : (List ℕ → Type 0) → Rehearsal → Type 0
IfLearned P (Learned text) = P text.items
IfLearned P (Limit log) = ⊤

abbrev pub IfLimit : (List Lemma → Type 0) → Rehearsal → Type 0
IfLimit P (Learned text) = ⊤
IfLimit P (Limit log) = P log
