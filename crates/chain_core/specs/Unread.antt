-- Why a text is no log, said by the texts of logs.
use Rattle.std.specs.Prelude.{ℕ, ◌≡◌, ◌≢◌, ◌+◌, List, [], ◌++◌, length, All}
use Rattle.chain_core.specs.Lemma.{IsWritable}
use Rattle.chain_core.specs.Text.{line_of, header_words, lemma_words, log_text}
use Rattle.literals_core.specs.declared.encoding.Encoding.{Encoding}
use Rattle.chain_core.specs.declared.log.Lemma.{Lemma}
use Rattle.chain_core.specs.declared.fault.LogFault.{LogFault}
use Rattle.chain_core.specs.declared.fault.LogFault.TheVariants.{Header, Shape, NoMemory}

-- the text begins with this part
abbrev pub BeginsWith : List ℕ → List ℕ → Type 0
BeginsWith text front = (rest : List ℕ) × (text ≡ front ++ rest)

-- the text of a log, and then something that does not begin with the line of a lemma; the header is line 1
pub record FailsAtLine (text : List ℕ) (line : ℕ) : Type 0 where
  pub encoding : Encoding
  pub log : List Lemma
  pub rest : List ℕ
  pub parts : text ≡ log_text encoding log ++ rest
  pub writable : All IsWritable log
  pub is_line : line ≡ length log + 2
  pub some : rest ≢ []
  pub no_lemma : (lemma : Lemma) → IsWritable lemma → ¬ BeginsWith rest (line_of (lemma_words lemma))

-- the text does not begin with the line of an encoding; or it fails at a line after it
abbrev pub IsUnread : List ℕ → LogFault → Type 0
IsUnread text Header = (encoding : Encoding) → ¬ BeginsWith text (line_of (header_words encoding))
IsUnread text (Shape line) = FailsAtLine text line
IsUnread text NoMemory = ⊥
