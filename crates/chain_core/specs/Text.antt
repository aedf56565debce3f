-- The texts of formulas and of logs, as words and lines.
use Rattle.std.specs.Prelude.{ℕ, List, [], ◌∷◌, ◌++◌, length, map, codes, decimal, if◌then◌else◌}
use Rattle.std.specs.List.{flat_map, join_with_byte}
use Rattle.literals_core.specs.Literal.{variable_of}
use Rattle.chain_core.specs.Literal.{has_minus}
use Rattle.literals_core.specs.Formula.{Cnf}
use Rattle.literals_core.specs.declared.encoding.Encoding.{Encoding}
use Rattle.literals_core.specs.declared.encoding.Encoding.TheVariants.{Coalitions, Separation}
use Rattle.chain_core.specs.declared.log.Lemma.{Lemma}

-- a line: words with single spaces between them, and a line feed
abbrev pub line_of : List (List ℕ) → List ℕ
line_of words = join_with_byte 32 words ++ 10 ∷ []

abbrev pub sign_text : ℕ → List ℕ
sign_text l = if has_minus l then codes "-" else []

-- a literal is written as its variable, with a `-` in front if its sign is minus
abbrev pub literal_word : ℕ → List ℕ
literal_word l = sign_text l ++ decimal (variable_of l)

-- a clause ends with the word `0`
abbrev pub clause_words : List ℕ → List (List ℕ)
clause_words literals = map literal_word literals ++ codes "0" ∷ []

abbrev pub size_words : ℕ → ℕ → List (List ℕ)
size_words variables clauses = codes "p" ∷ codes "cnf" ∷ decimal variables ∷ decimal clauses ∷ []

-- a formula in DIMACS: the line `p cnf VARIABLES CLAUSES`, and a line for each clause
abbrev pub dimacs_text : Cnf → List ℕ
dimacs_text formula =
    line_of (size_words formula.variables (length formula.clauses))
    ++ flat_map (λ clause. line_of (clause_words clause)) formula.clauses

-- a lemma: its id, its literals and `0`, its hints and `0`
abbrev pub lemma_words : Lemma → List (List ℕ)
lemma_words lemma = decimal lemma.id ∷ (clause_words lemma.literals ++ (map decimal lemma.hints ++ codes "0" ∷ []))

abbrev pub encoding_word : Encoding → List ℕ
encoding_word Coalitions = codes "coalitions"
encoding_word Separation = codes "separation"

abbrev pub header_words : Encoding → List (List ℕ)
header_words encoding = codes "lincs-refutation" ∷ codes "1" ∷ encoding_word encoding ∷ []

-- a log: the line that names its encoding, and a line for each lemma
abbrev pub log_text : Encoding → List Lemma → List ℕ
log_text encoding log = line_of (header_words encoding) ++ flat_map (λ lemma. line_of (lemma_words lemma)) log
