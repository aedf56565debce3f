-- The numbers of a lemma that no formula is needed to check.
use Rattle.std.specs.Prelude.{ℕ, ◌≤◌, All}
use Rattle.chain_core.specs.Literal.{IsPlace}
use Rattle.chain_core.specs.declared.log.Lemma.{Lemma}

-- its id and its hints count from 1
pub record IsNumbered (lemma : Lemma) : Type 0 where
  pub id : 1 ≤ lemma.id
  pub hints : All (λ h. 1 ≤ h) lemma.hints

-- an id or a hint of a text: from 1 to the greatest number of 32 bits
abbrev pub IsId : ℕ → Type 0
IsId n = (1 ≤ n) × (n ≤ 4294967295)

-- its numbers are those that a text can have
pub record IsWritable (lemma : Lemma) : Type 0 where
  pub id : IsId lemma.id
  pub literals : All IsPlace lemma.literals
  pub hints : All IsId lemma.hints
