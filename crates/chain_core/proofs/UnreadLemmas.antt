-- The fault that is computed of a text is the one that its lines show.
use Rattle.std.proofs.Common.{◌≡◌, ◌≢◌, ℕ, ◌+◌, ◌==◌, false, cond, List, [], ◌∷◌, ◌++◌, length, drop, Option, Some, None, refl, sym, ◌∙◌, ap, arith, subst, ◌↔◌, inl, inr}
use Rattle.std.specs.Prelude.{Result, Ok, Err, get_or}
use Rattle.std.specs.List.{All, slice_split, onto_first, join_with_byte}
use Rattle.std.proofs.lemmas.Bool.{cases_Bool, ne_eqb}
use Rattle.std.proofs.lemmas.List.{append_assoc}
use Rattle.std.proofs.lemmas.List.Elements.{All-cons, All-nil, All-head, All-tail}
use Rattle.std.proofs.lemmas.List.Splits.{slice_split_none, slice_split-cons_yes, slice_split-cons_no, join_with_byte-slice_split}
use Rattle.std.proofs.lemmas.Option.{none-some}
use Rattle.chain_core.specs.Lemma.{IsWritable}
use Rattle.chain_core.specs.Text.{line_of, header_words, lemma_words}
use Rattle.chain_core.specs.Reading.{lines_of, lemma_in, lemmas_in, lemmas_then, encoding_in, log_then, log_of_lines, log_of}
use Rattle.chain_core.specs.Unread.{BeginsWith, FailsAtLine, IsUnread}
use Rattle.literals_core.specs.declared.encoding.Encoding.{Encoding}
use Rattle.chain_core.specs.declared.log.Lemma.{Lemma}
use Rattle.chain_core.specs.declared.fault.LogFault.{LogFault}
use Rattle.chain_core.specs.declared.fault.LogFault.TheVariants.{Header, Shape, NoMemory}
use Rattle.chain_core.proofs.NumberLemmas.{split_some}
use Rattle.chain_core.proofs.WordLemmas.{split_join}
use Rattle.chain_core.proofs.ReadsBackLemmas.{IsFree, text_of, lines_text, line_reads, line_told, one_line, text_free, header_free, encoding_read, encoding_told}

-- no part has the byte at which a text was parted
parts_free : (c : ℕ) (xs : List ℕ) → All (IsFree c) (slice_split (λ b. b == c) xs)
parts_free c [] = All-cons (IsFree c) [] [] (All-nil (λ b. (b == c) ≡ false)) (All-nil (IsFree c))
parts_free c (x ∷ xs) =
    elim (cases_Bool (x == c)) [
      | inl stops ↦ subst (All (IsFree c)) (sym (slice_split-cons_yes (λ b. b == c) x xs stops)) (All-cons (IsFree c) [] (slice_split (λ b. b == c) xs) (All-nil (λ b. (b == c) ≡ false)) (parts_free c xs))
      | inr goes ↦
          let later = split_some (λ b. b == c) xs in
          let rest : All (IsFree c) (later.0 ∷ later.1.0) = subst (All (IsFree c)) later.1.1 (parts_free c xs) in
          let first : IsFree c (x ∷ later.0) = All-cons (λ b. (b == c) ≡ false) x later.0 goes (All-head (IsFree c) later.0 later.1.0 rest) in
          subst (All (IsFree c)) (sym (slice_split-cons_no (λ b. b == c) x xs goes ∙ ap (onto_first x) later.1.1)) (All-cons (IsFree c) (x ∷ later.0) later.1.0 first (All-tail (IsFree c) later.0 later.1.0 rest))
    ]

heads : (part line : List ℕ) (parts rest : List (List ℕ)) → part ∷ parts ≡ line ∷ rest → (part ≡ line) × (parts ≡ rest)
heads part line parts rest e = (ap (λ ps. get_or ps 0 part) e, ap (drop 1) e)

-- a text that begins with a line has it as its first part, and a further part
module _ (text line part : List ℕ) (parts : List (List ℕ)) (free : IsFree 10 line) (split : lines_of text ≡ part ∷ parts) (begins : BeginsWith text (line ++ 10 ∷ [])) where
  lines_are : part ∷ parts ≡ line ∷ lines_of begins.0
  lines_are = sym split ∙ ap lines_of begins.1 ∙ one_line line begins.0 free

  first_is : part ≡ line
  first_is = (heads part line parts (lines_of begins.0) lines_are).0

  more_are : parts ≢ []
  more_are none =
      let rest = split_some (λ b. b == 10) begins.0 in
      let some : ◌≡◌ {A = List (List ℕ)} [] (rest.0 ∷ rest.1.0) = sym none ∙ (heads part line parts (lines_of begins.0) lines_are).1 ∙ rest.1.1 in
      absurd cc

-- lines of lemmas, and then something that does not begin with one
record FailsAfter (text : List ℕ) (line : ℕ) (fault : LogFault) : Type 0 where
  log : List Lemma
  rest : List ℕ
  parts : text ≡ lines_text log ++ rest
  writable : All IsWritable log
  is : fault ≡ Shape (length log + line)
  some : rest ≢ []
  no_lemma : (lemma : Lemma) → IsWritable lemma → ¬ BeginsWith rest (line_of (lemma_words lemma))

fault_is : (a b : LogFault) → ◌≡◌ {A = Result (List Lemma) LogFault} (Err a) (Err b) → b ≡ a
fault_is a b e = cc

-- the first line fails
here : (text : List ℕ) (line : ℕ) (fault : LogFault) → fault ≡ Shape line → text ≢ [] → ((lemma : Lemma) → IsWritable lemma → ¬ BeginsWith text (line_of (lemma_words lemma))) → FailsAfter text line fault
here text line fault is some no_lemma = record {
  log = [];
  rest = text;
  parts = refl;
  writable = All-nil IsWritable;
  is = let start : line ≡ length {A = Lemma} [] + line = omega arith in is ∙ ap (λ n. Shape n) start;
  some = some;
  no_lemma = no_lemma;
}

last_fails : (line : ℕ) (last : List ℕ) (fault : LogFault) → IsFree 10 last → lemmas_in line (last ∷ []) ≡ Err fault → FailsAfter last line fault
last_fails line [] fault free fails = let ok : ◌≡◌ {A = Result (List Lemma) LogFault} (Ok []) (Err fault) = fails in absurd cc
last_fails line (c ∷ last) fault free fails =
    let shape : ◌≡◌ {A = Result (List Lemma) LogFault} (Err (Shape line)) (Err fault) = sym (ap (λ b. cond b (Ok []) (Err (Shape line))) (ne_eqb (length (c ∷ last)) 0 (λ e. absurd (omega (arith, e))))) ∙ fails in
    here (c ∷ last) line fault (fault_is (Shape line) fault shape) (λ e. absurd cc)
    (λ lemma writable begins. more_are (c ∷ last) (text_of lemma) (c ∷ last) [] (text_free lemma writable) (slice_split_none (λ b. b == 10) (c ∷ last) free) begins refl)

joined_some : (part next : List ℕ) (parts : List (List ℕ)) → join_with_byte 10 (part ∷ next ∷ parts) ≢ []
joined_some [] next parts e = absurd cc
joined_some (c ∷ part) next parts e = absurd cc

lines_step : (line : ℕ) (part next : List ℕ) (parts : List (List ℕ)) (fault : LogFault) → All (IsFree 10) (part ∷ next ∷ parts) → ((f : LogFault) → lemmas_in (line + 1) (next ∷ parts) ≡ Err f → FailsAfter (join_with_byte 10 (next ∷ parts)) (line + 1) f) → (o : Option Lemma) (r : Result (List Lemma) LogFault)
    → lemma_in part ≡ o → lemmas_in (line + 1) (next ∷ parts) ≡ r → lemmas_then line o r ≡ Err fault → FailsAfter (join_with_byte 10 (part ∷ next ∷ parts)) line fault
lines_step line part next parts fault free later None r read reads is =
    here (join_with_byte 10 (part ∷ next ∷ parts)) line fault (fault_is (Shape line) fault is) (joined_some part next parts)
    (λ lemma writable begins.
    let text : List ℕ = join_with_byte 10 (part ∷ next ∷ parts) in
    let split : lines_of text ≡ part ∷ next ∷ parts = split_join 10 part (next ∷ parts) (All-head (IsFree 10) part (next ∷ parts) free) (All-tail (IsFree 10) part (next ∷ parts) free) in
    let same : part ≡ text_of lemma = first_is text (text_of lemma) part (next ∷ parts) (text_free lemma writable) split begins in
    none-some lemma (sym read ∙ ap lemma_in same ∙ line_reads lemma writable))
lines_step line part next parts fault free later (Some lemma) (Ok lemmas) read reads is = let ok : ◌≡◌ {A = Result (List Lemma) LogFault} (Ok (lemma ∷ lemmas)) (Err fault) = is in absurd cc
lines_step line part next parts fault free later (Some lemma) (Err found) read reads is =
    let told = line_told part lemma read in
    let more = later fault (reads ∙ is) in
    let up : length more.log + (line + 1) ≡ length (lemma ∷ more.log) + line = omega arith in
    record {
      log = lemma ∷ more.log;
      rest = more.rest;
      parts = ap (λ t. t ++ (10 ∷ join_with_byte 10 (next ∷ parts))) told.0 ∙ ap (λ t. text_of lemma ++ (10 ∷ t)) more.parts
          ∙ sym (append_assoc (text_of lemma) (10 ∷ []) (lines_text more.log ++ more.rest)) ∙ sym (append_assoc (line_of (lemma_words lemma)) (lines_text more.log) more.rest);
      writable = All-cons IsWritable lemma more.log told.1 more.writable;
      is = more.is ∙ ap (λ n. Shape n) up;
      some = more.some;
      no_lemma = more.no_lemma;
    }

lines_fail : (line : ℕ) (part : List ℕ) (parts : List (List ℕ)) (fault : LogFault) → All (IsFree 10) (part ∷ parts) → lemmas_in line (part ∷ parts) ≡ Err fault → FailsAfter (join_with_byte 10 (part ∷ parts)) line fault
lines_fail line part [] fault free fails = last_fails line part fault (All-head (IsFree 10) part [] free) fails
lines_fail line part (next ∷ parts) fault free fails =
    lines_step line part next parts fault free (λ f. lines_fail (line + 1) next parts f (All-tail (IsFree 10) part (next ∷ parts) free)) (lemma_in part) (lemmas_in (line + 1) (next ∷ parts)) refl refl fails

-- and the other way round
rest_fails : (line : ℕ) (rest part : List ℕ) (parts : List (List ℕ)) → lines_of rest ≡ part ∷ parts → rest ≢ [] → ((lemma : Lemma) → IsWritable lemma → ¬ BeginsWith rest (line_of (lemma_words lemma))) → lemmas_in line (part ∷ parts) ≡ Err (Shape line)
rest_fails line rest part [] split some no_lemma =
    let whole : part ≡ rest = sym (ap (join_with_byte 10) split) ∙ join_with_byte-slice_split 10 rest in
    ap (λ b. cond b (Ok []) (Err (Shape line))) (ne_eqb (length part) 0 (λ e. some (sym whole ∙ none part e)))
  where
    none : (xs : List ℕ) → length xs ≡ 0 → xs ≡ []
    none [] e = refl
    none (x ∷ xs) e = absurd (omega (arith, e))
rest_fails line rest part (next ∷ parts) split some no_lemma = by (lemma_in part) refl
  where
    by : (o : Option Lemma) → lemma_in part ≡ o → lemmas_then line (lemma_in part) (lemmas_in (line + 1) (next ∷ parts)) ≡ Err (Shape line)
    by None read = ap (λ o. lemmas_then line o (lemmas_in (line + 1) (next ∷ parts))) read
    by (Some lemma) read =
        let told = line_told part lemma read in
        let more : List ℕ = join_with_byte 10 (next ∷ parts) in
        let is : rest ≡ line_of (lemma_words lemma) ++ more = sym (join_with_byte-slice_split 10 rest) ∙ ap (join_with_byte 10) split ∙ ap (λ t. t ++ (10 ∷ more)) told.0 ∙ sym (append_assoc (text_of lemma) (10 ∷ []) more) in
        absurd (no_lemma lemma told.1 (more, is))

log_fails : (line : ℕ) (log : List Lemma) (rest : List ℕ) → All IsWritable log → rest ≢ [] → ((lemma : Lemma) → IsWritable lemma → ¬ BeginsWith rest (line_of (lemma_words lemma))) → lemmas_in line (lines_of (lines_text log ++ rest)) ≡ Err (Shape (length log + line))
log_fails line [] rest writable some no_lemma =
    let split = split_some (λ b. b == 10) rest in
    let start : line ≡ length {A = Lemma} [] + line = omega arith in
    ap (lemmas_in line) split.1.1 ∙ rest_fails line rest split.0 split.1.0 split.1.1 some no_lemma ∙ ap (λ n. Err (Shape n)) start
log_fails line (lemma ∷ log) rest writable some no_lemma =
    let first : IsWritable lemma = All-head IsWritable lemma log writable in
    let others : List ℕ = lines_text log ++ rest in
    let split = split_some (λ b. b == 10) others in
    let up : length log + (line + 1) ≡ length (lemma ∷ log) + line = omega arith in
    ap (λ t. lemmas_in line (lines_of t)) (append_assoc (line_of (lemma_words lemma)) (lines_text log) rest)
    ∙ ap (lemmas_in line) (one_line (text_of lemma) others (text_free lemma first) ∙ ap (λ ls. text_of lemma ∷ ls) split.1.1)
    ∙ ap (λ o. lemmas_then line o (lemmas_in (line + 1) (split.0 ∷ split.1.0))) (line_reads lemma first)
    ∙ ap (λ ls. lemmas_then line (Some lemma) (lemmas_in (line + 1) ls)) (sym split.1.1)
    ∙ ap (lemmas_then line (Some lemma)) (log_fails (line + 1) log rest (All-tail IsWritable lemma log writable) some no_lemma ∙ ap (λ n. Err (Shape n)) up)

-- the whole text
module _ (text : List ℕ) where
  header_told : (part : List ℕ) (parts : List (List ℕ)) → lines_of text ≡ part ∷ parts → (parts ≢ [] → encoding_in part ≡ None) → IsUnread text Header
  header_told part parts split none encoding begins =
      let line : List ℕ = join_with_byte 32 (header_words encoding) in
      let same : part ≡ line = first_is text line part parts (header_free encoding) split begins in
      none-some encoding (sym (none (more_are text line part parts (header_free encoding) split begins)) ∙ ap encoding_in same ∙ encoding_read encoding)

  unread_as : (a b : LogFault) → ◌≡◌ {A = Result (Encoding × List Lemma) LogFault} (Err a) (Err b) → IsUnread text a → IsUnread text b
  unread_as a b e unread = let same : a ≡ b = cc in subst (IsUnread text) same unread

  told : (fault : LogFault) (parts : List (List ℕ)) → lines_of text ≡ parts → log_of_lines parts ≡ Err fault → IsUnread text fault
  told fault [] split fails = let some = split_some (λ b. b == 10) text in let none : ◌≡◌ {A = List (List ℕ)} [] (some.0 ∷ some.1.0) = sym split ∙ some.1.1 in absurd cc
  told fault (part ∷ []) split fails = unread_as Header fault fails (header_told part [] split (λ some. absurd (some refl)))
  told fault (part ∷ next ∷ parts) split fails = by (encoding_in part) (lemmas_in 2 (next ∷ parts)) refl refl fails
    where
      by : (o : Option Encoding) (r : Result (List Lemma) LogFault) → encoding_in part ≡ o → lemmas_in 2 (next ∷ parts) ≡ r → log_then o r ≡ Err fault → IsUnread text fault
      by None r read reads is = unread_as Header fault is (header_told part (next ∷ parts) split (λ some. read))
      by (Some encoding) (Ok lemmas) read reads is = let ok : ◌≡◌ {A = Result (Encoding × List Lemma) LogFault} (Ok (encoding, lemmas)) (Err fault) = is in absurd cc
      by (Some encoding) (Err found) read reads is =
          let free : All (IsFree 10) (part ∷ next ∷ parts) = subst (All (IsFree 10)) split (parts_free 10 text) in
          let more = lines_fail 2 next parts found (All-tail (IsFree 10) part (next ∷ parts) free) reads in
          let whole : text ≡ part ++ (10 ∷ join_with_byte 10 (next ∷ parts)) = sym (join_with_byte-slice_split 10 text) ∙ ap (join_with_byte 10) split in
          let line : List ℕ = join_with_byte 32 (header_words encoding) in
          let at : FailsAtLine text (length more.log + 2) = record {
            encoding = encoding;
            log = more.log;
            rest = more.rest;
            parts = whole ∙ ap (λ t. t ++ (10 ∷ join_with_byte 10 (next ∷ parts))) (encoding_told part encoding read) ∙ ap (λ t. line ++ (10 ∷ t)) more.parts
                ∙ sym (append_assoc line (10 ∷ []) (lines_text more.log ++ more.rest)) ∙ sym (append_assoc (line ++ 10 ∷ []) (lines_text more.log) more.rest);
            writable = more.writable;
            is_line = refl;
            some = more.some;
            no_lemma = more.no_lemma;
          } in
          unread_as found fault is (subst (IsUnread text) (sym more.is) at)

  header_tested : (parts : List (List ℕ)) → lines_of text ≡ parts → IsUnread text Header → log_of_lines parts ≡ Err Header
  header_tested [] split none = refl
  header_tested (part ∷ []) split none = refl
  header_tested (part ∷ next ∷ parts) split none = by (encoding_in part) refl
    where
      by : (o : Option Encoding) → encoding_in part ≡ o → log_then (encoding_in part) (lemmas_in 2 (next ∷ parts)) ≡ Err Header
      by None read = ap (λ o. log_then o (lemmas_in 2 (next ∷ parts))) read
      by (Some encoding) read =
          let more : List ℕ = join_with_byte 10 (next ∷ parts) in
          let line : List ℕ = join_with_byte 32 (header_words encoding) in
          let is : text ≡ (line ++ 10 ∷ []) ++ more = sym (join_with_byte-slice_split 10 text) ∙ ap (join_with_byte 10) split ∙ ap (λ t. t ++ (10 ∷ more)) (encoding_told part encoding read) ∙ sym (append_assoc line (10 ∷ []) more) in
          absurd (none encoding (more, is))

  tested : (fault : LogFault) → IsUnread text fault → log_of text ≡ Err fault
  tested Header none = header_tested (lines_of text) refl none
  tested (Shape line) fails =
      let header : List ℕ = join_with_byte 32 (header_words fails.encoding) in
      let others : List ℕ = lines_text fails.log ++ fails.rest in
      let split = split_some (λ b. b == 10) others in
      ap log_of (fails.parts ∙ append_assoc (header ++ 10 ∷ []) (lines_text fails.log) fails.rest)
      ∙ ap log_of_lines (one_line header others (header_free fails.encoding) ∙ ap (λ ls. header ∷ ls) split.1.1)
      ∙ ap (λ o. log_then o (lemmas_in 2 (split.0 ∷ split.1.0))) (encoding_read fails.encoding)
      ∙ ap (λ ls. log_then (Some fails.encoding) (lemmas_in 2 ls)) (sym split.1.1)
      ∙ ap (log_then (Some fails.encoding)) (log_fails 2 fails.log fails.rest fails.writable fails.some fails.no_lemma)
      ∙ ap (λ n. Err (Shape n)) (sym fails.is_line)
  tested NoMemory none = absurd none

pub unread_law : (text : List ℕ) (fault : LogFault) → (log_of text ≡ Err fault) ↔ IsUnread text fault
unread_law text fault = (told text fault (lines_of text) refl, tested text fault)
