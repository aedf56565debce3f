-- The lines of a log, one after another.
use Rattle.std.proofs.Common.{◌≡◌, ℕ, ◌+◌, ◌<◌, ◌≤◌, ◌==◌, Bool, true, false, cond, List, [], ◌∷◌, ◌++◌, length, take, drop, Some, None, refl, sym, ◌∙◌, ap, arith}
use Rattle.std.specs.Prelude.{Result, Ok, Err}
use Rattle.std.specs.List.{position, position_or_len}
use Rattle.std.proofs.lemmas.Bool.{ltb-false, ltb-true, ne_eqb}
use Rattle.std.proofs.lemmas.List.{append_assoc, drop-drop, length-drop}
use Rattle.std.proofs.lemmas.List.Sums.{fails_before_first}
use Rattle.std.proofs.lemmas.List.Splits.{slice_split_none, slice_split_first}
use Rattle.std.proofs.lemmas.Option.{cond_some}
use Rattle.chain_core.specs.Reading.{lines_of, lemma_in, lemmas_in, lemmas_then, encoding_in, log_then, log_of, log_of_lines}
use Rattle.literals_core.specs.declared.encoding.Encoding.{Encoding}
use Rattle.chain_core.specs.declared.fault.LogFault.{LogFault}
use Rattle.chain_core.specs.declared.fault.LogFault.TheVariants.{Header, Shape}
use Rattle.chain_core.specs.declared.log.Lemma.{Lemma}
use Rattle.chain_core.proofs.NumberLemmas.{split_some}

-- lemmas before the others
abbrev pub after_lemmas : List Lemma → Result (List Lemma) LogFault → Result (List Lemma) LogFault
after_lemmas log (Ok lemmas) = Ok (log ++ lemmas)
after_lemmas log (Err fault) = Err fault

abbrev is_end : ℕ → Bool
is_end b = b == 10

cond_none : (b : Bool) (n : ℕ) → cond b (Some n) None ≡ None → b ≡ false
cond_none true n h = absurd cc
cond_none false n h = refl

-- a text in which no line ends
no_line : (text : List ℕ) → None ≡ position is_end text → lines_of text ≡ text ∷ []
no_line text none =
    let past : length text ≤ position_or_len is_end text = ltb-false _ _ (cond_none _ _ (sym none)) in
    slice_split_none is_end text (λ k d lt. fails_before_first is_end text k d (omega (arith, past, lt)))

-- the first line, and the others
pub line_inside : (text : List ℕ) (n : ℕ) → Some n ≡ position is_end text → n < length text
line_inside text n some =
    let parts = cond_some _ _ _ (sym some) in
    let lt : position_or_len is_end text < length text = ltb-true _ _ parts.0 in
    omega (arith, lt, parts.1)

first_line : (text : List ℕ) (n : ℕ) → Some n ≡ position is_end text → lines_of text ≡ take n text ∷ lines_of (drop (n + 1) text)
first_line text n some =
    let parts = cond_some _ _ _ (sym some) in
    let lt : position_or_len is_end text < length text = ltb-true _ _ parts.0 in
    slice_split_first is_end text 0 lt ∙ ap (λ k. take k text ∷ lines_of (drop (k + 1) text)) parts.1

-- the lemmas of a text by its first line
lemmas_first : (line : ℕ) (text : List ℕ) (n : ℕ) → Some n ≡ position is_end text → lemmas_in line (lines_of text) ≡ lemmas_then line (lemma_in (take n text)) (lemmas_in (line + 1) (lines_of (drop (n + 1) text)))
lemmas_first line text n some =
    let rest = split_some is_end (drop (n + 1) text) in
    ap (lemmas_in line) (first_line text n some ∙ ap (λ ls. take n text ∷ ls) rest.1.1)
    ∙ ap (λ ls. lemmas_then line (lemma_in (take n text)) (lemmas_in (line + 1) ls)) (sym rest.1.1)

module _ (bytes : List ℕ) (at line : ℕ) (rest : List ℕ) (log : List Lemma) (whole : Result (List Lemma) LogFault) (is : rest ≡ drop at bytes) (so_far : after_lemmas log (lemmas_in line (lines_of (drop at bytes))) ≡ whole) where
  now : after_lemmas log (lemmas_in line (lines_of rest)) ≡ whole
  now = ap (λ t. after_lemmas log (lemmas_in line (lines_of t))) is ∙ so_far

  -- the last line has no end
  pub line_cut : None ≡ position is_end rest → at < length bytes → whole ≡ Err (Shape line)
  line_cut none inside =
      let some : 0 < length rest = omega (arith, ap length is, length-drop at bytes, inside) in
      let open' : (length rest == 0) ≡ false = ne_eqb (length rest) 0 (λ e. absurd (omega (arith, e, some))) in
      sym now ∙ ap (λ ls. after_lemmas log (lemmas_in line ls)) (no_line rest none) ∙ ap (λ b. after_lemmas log (cond b (Ok []) (Err (Shape line)))) open'

  -- a line that is no lemma
  pub line_fails : (n : ℕ) → Some n ≡ position is_end rest → lemma_in (take n rest) ≡ None → whole ≡ Err (Shape line)
  line_fails n some none = sym now ∙ ap (after_lemmas log) (lemmas_first line rest n some) ∙ ap (λ o. after_lemmas log (lemmas_then line o (lemmas_in (line + 1) (lines_of (drop (n + 1) rest))))) none

  onto : (lemma : Lemma) (more : Result (List Lemma) LogFault) → after_lemmas log (lemmas_then line (Some lemma) more) ≡ after_lemmas (log ++ lemma ∷ []) more
  onto lemma (Ok lemmas) = ap Ok (sym (append_assoc log (lemma ∷ []) lemmas))
  onto lemma (Err fault) = refl

  -- one more lemma
  pub line_passes : (n : ℕ) (lemma : Lemma) (grown : List Lemma) → Some n ≡ position is_end rest → lemma_in (take n rest) ≡ Some lemma → grown ≡ log ++ lemma ∷ [] → after_lemmas grown (lemmas_in (line + 1) (lines_of (drop (at + (n + 1)) bytes))) ≡ whole
  line_passes n lemma grown some reads more =
      let next : drop (n + 1) rest ≡ drop (at + (n + 1)) bytes = ap (drop (n + 1)) is ∙ drop-drop (n + 1) at bytes in
      ap (λ ls. after_lemmas ls (lemmas_in (line + 1) (lines_of (drop (at + (n + 1)) bytes)))) more
      ∙ ap (λ t. after_lemmas (log ++ lemma ∷ []) (lemmas_in (line + 1) (lines_of t))) (sym next)
      ∙ sym (onto lemma (lemmas_in (line + 1) (lines_of (drop (n + 1) rest))))
      ∙ ap (λ o. after_lemmas log (lemmas_then line o (lemmas_in (line + 1) (lines_of (drop (n + 1) rest))))) (sym reads)
      ∙ ap (after_lemmas log) (sym (lemmas_first line rest n some)) ∙ now

-- a log by its first line
pub no_header : (bytes : List ℕ) → None ≡ position is_end bytes → log_of bytes ≡ Err Header
no_header bytes none = ap log_of_lines (no_line bytes none)

pub header_then : (bytes : List ℕ) (n : ℕ) → Some n ≡ position is_end bytes → log_of bytes ≡ log_then (encoding_in (take n bytes)) (lemmas_in 2 (lines_of (drop (n + 1) bytes)))
header_then bytes n some =
    let rest = split_some is_end (drop (n + 1) bytes) in
    ap log_of_lines (first_line bytes n some ∙ ap (λ ls. take n bytes ∷ ls) rest.1.1)
    ∙ ap (λ ls. log_then (encoding_in (take n bytes)) (lemmas_in 2 ls)) (sym rest.1.1)

pub header_other : (bytes : List ℕ) (n : ℕ) → Some n ≡ position is_end bytes → None ≡ encoding_in (take n bytes) → log_of bytes ≡ Err Header
header_other bytes n some none = header_then bytes n some ∙ ap (λ o. log_then o (lemmas_in 2 (lines_of (drop (n + 1) bytes)))) (sym none)

pub header_fails : (bytes : List ℕ) (n : ℕ) (encoding : Encoding) (fault : LogFault) → Some n ≡ position is_end bytes → Some encoding ≡ encoding_in (take n bytes) → lemmas_in 2 (lines_of (drop (n + 1) bytes)) ≡ Err fault → log_of bytes ≡ Err fault
header_fails bytes n encoding fault some named fails = header_then bytes n some ∙ ap (λ o. log_then o (lemmas_in 2 (lines_of (drop (n + 1) bytes)))) (sym named) ∙ ap (log_then (Some encoding)) fails

pub header_passes : (bytes : List ℕ) (n : ℕ) (encoding : Encoding) (log : List Lemma) → Some n ≡ position is_end bytes → Some encoding ≡ encoding_in (take n bytes) → lemmas_in 2 (lines_of (drop (n + 1) bytes)) ≡ Ok log → log_of bytes ≡ Ok (encoding, log)
header_passes bytes n encoding log some named passes = header_then bytes n some ∙ ap (λ o. log_then o (lemmas_in 2 (lines_of (drop (n + 1) bytes)))) (sym named) ∙ ap (log_then (Some encoding)) passes
