-- How the text of a log is read: line by line, and word by word.
use Rattle.std.specs.Prelude.{ℕ, ◌+◌, ◌*◌, ◌==◌, ◌&&◌, ◌||◌, nat_lt, nat_le, not, List, [], ◌∷◌, Option, Some, None}
use Rattle.std.specs.Prelude.{Result, Ok, Err, length, slice_index, option_map, codes, if◌then◌else◌}
use Rattle.std.specs.List.{slice_split}
use Rattle.std.specs.Str.{all_ascii_digits, bytes_eq}
use Rattle.std.specs.Str.Parse.{digits_value}
use Rattle.literals_core.specs.declared.encoding.Encoding.{Encoding}
use Rattle.literals_core.specs.declared.encoding.Encoding.TheVariants.{Coalitions, Separation}
use Rattle.chain_core.specs.declared.fault.LogFault.{LogFault}
use Rattle.chain_core.specs.declared.fault.LogFault.TheVariants.{Header, Shape}
use Rattle.chain_core.specs.declared.log.Lemma.{Lemma}

-- the parts of a line between its spaces
abbrev pub words_of : List ℕ → List (List ℕ)
words_of line = slice_split (λ b. b == 32) line

-- the parts of a text between its line feeds: the last part is empty if every line is ended
abbrev pub lines_of : List ℕ → List (List ℕ)
lines_of text = slice_split (λ b. b == 10) text

-- the number of at most 32 bits that a word writes: digits without a leading zero
abbrev pub number_in : List ℕ → Option ℕ
number_in word =
    if nat_lt 0 (length word) && all_ascii_digits word && (length word == 1 || not (slice_index word 0 == 48))
    && nat_le (digits_value 10 word) 4294967295 then Some (digits_value 10 word)
    else None

-- twice the number that a word writes, and one more after a `-`: the place of a literal, or 0 for the word `0`
abbrev pub place_in : List ℕ → Option ℕ
place_in [] = None
place_in (c ∷ word) =
    if c == 45 then option_map (λ v. 2 * v + 1) (number_in word) else option_map (λ v. 2 * v) (number_in (c ∷ word))

abbrev pub hints_then : Option ℕ → List (List ℕ) → Option (List ℕ) → Option (List ℕ)
hints_then None words more = None
hints_then (Some h) words more =
    if h == 0 then (if length words == 0 then Some [] else None) else option_map (λ hints. h ∷ hints) more

-- hints and the word `0`, which ends the line
abbrev pub hints_in : List (List ℕ) → Option (List ℕ)
hints_in [] = None
hints_in (word ∷ words) = hints_then (number_in word) words (hints_in words)

abbrev pub literals_then : Option ℕ → Option (List ℕ) → Option (List ℕ × List ℕ) → Option (List ℕ × List ℕ)
literals_then None hints more = None
literals_then (Some l) hints more =
    if l == 0 then option_map (λ hs. ([], hs)) hints
    else (if nat_le 2 l && nat_le l 4294967295 then option_map (λ m. (l ∷ m.0, m.1)) more else None)

-- literals and the word `0`, and then hints
abbrev pub literals_in : List (List ℕ) → Option (List ℕ × List ℕ)
literals_in [] = None
literals_in (word ∷ words) = literals_then (place_in word) (hints_in words) (literals_in words)

abbrev pub lemma_from : Option ℕ → Option (List ℕ × List ℕ) → Option Lemma
lemma_from None more = None
lemma_from (Some id) None = None
lemma_from (Some id) (Some m) = if id == 0 then None else Some (record { id = id; literals = m.0; hints = m.1 })

abbrev pub lemma_of_words : List (List ℕ) → Option Lemma
lemma_of_words [] = None
lemma_of_words (word ∷ words) = lemma_from (number_in word) (literals_in words)

-- the lemma of a line: an id, and then literals and hints
abbrev pub lemma_in : List ℕ → Option Lemma
lemma_in line = lemma_of_words (words_of line)

abbrev pub lemmas_then : ℕ → Option Lemma → Result (List Lemma) LogFault → Result (List Lemma) LogFault
lemmas_then line None more = Err (Shape line)
lemmas_then line (Some lemma) (Ok lemmas) = Ok (lemma ∷ lemmas)
lemmas_then line (Some lemma) (Err fault) = Err fault

-- the lemmas of the lines from this one on, or the first that is no lemma or has no end
abbrev pub lemmas_in : ℕ → List (List ℕ) → Result (List Lemma) LogFault
lemmas_in line [] = Ok []
lemmas_in line (last ∷ []) = if length last == 0 then Ok [] else Err (Shape line)
lemmas_in line (part ∷ next ∷ parts) = lemmas_then line (lemma_in part) (lemmas_in (line + 1) (next ∷ parts))

-- the encoding that the first line names
abbrev pub encoding_in : List ℕ → Option Encoding
encoding_in line =
    if bytes_eq line (codes "lincs-refutation 1 coalitions") then Some Coalitions
    else (if bytes_eq line (codes "lincs-refutation 1 separation") then Some Separation else None)

abbrev pub log_then : Option Encoding → Result (List Lemma) LogFault → Result (Encoding × List Lemma) LogFault
log_then None lemmas = Err Header
log_then (Some encoding) (Ok lemmas) = Ok (encoding, lemmas)
log_then (Some encoding) (Err fault) = Err fault

abbrev pub log_of_lines : List (List ℕ) → Result (Encoding × List Lemma) LogFault
log_of_lines [] = Err Header
log_of_lines (first ∷ []) = Err Header
log_of_lines (first ∷ next ∷ parts) = log_then (encoding_in first) (lemmas_in 2 (next ∷ parts))

-- the encoding and the lemmas of a text, or why it is no log; the header is line 1
abbrev pub log_of : List ℕ → Result (Encoding × List Lemma) LogFault
log_of text = log_of_lines (lines_of text)
