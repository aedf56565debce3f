-- The text of a log reads as that log, and no other text does.
use Rattle.std.proofs.Common.{◌≡◌, ◌≢◌, ℕ, ◌+◌, ◌*◌, ◌<◌, ◌≤◌, ◌==◌, ◌&&◌, nat_le, Bool, true, false, cond, List, [], ◌∷◌, ◌++◌, length, map, Option, Some, None, refl, sym, ◌∙◌, ap, arith, rules, eq-eqb, subst, ◌↔◌, inl, inr}
use Rattle.std.specs.Prelude.{option_map, decimal, codes, Result, Ok, Err}
use Rattle.std.specs.List.{All, flat_map, join_with_byte}
use Rattle.std.specs.Str.{bytes_eq}
use Rattle.std.proofs.lemmas.Bool.{cases_Bool, ne_eqb}
use Rattle.std.proofs.lemmas.Bool.Decides.{nat_tests, eqb_tells}
use Rattle.std.proofs.lemmas.List.{append_assoc}
use Rattle.std.proofs.lemmas.List.Elements.{All-cons, All-nil, All-head, All-tail, All-append, All-map, All-weaker, All-from_recursion}
use Rattle.std.proofs.lemmas.List.Splits.{slice_split_at, join_with_byte-slice_split}
use Rattle.std.proofs.lemmas.Fmt.{decimal_digit}
use Rattle.std.proofs.lemmas.Slice.Eq.{bytes_eq-Decides}
use Rattle.std.proofs.lemmas.Option.{none-some, same_Some, some_pair_parts}
use Rattle.chain_core.specs.Literal.{IsPlace}
use Rattle.chain_core.specs.Lemma.{IsId, IsWritable}
use Rattle.chain_core.specs.declared.literal.TheConstants.{MOST_PLACE}
use Rattle.chain_core.specs.Text.{line_of, literal_word, clause_words, lemma_words, header_words, log_text}
use Rattle.chain_core.specs.Reading.{words_of, lines_of, number_in, place_in, hints_in, hints_then, literals_in, literals_then, lemma_in, lemma_from, lemma_of_words, lemmas_in, lemmas_then, encoding_in, log_then, log_of_lines, log_of}
use Rattle.literals_core.specs.declared.encoding.Encoding.{Encoding}
use Rattle.literals_core.specs.declared.encoding.Encoding.TheVariants.{Coalitions, Separation}
use Rattle.chain_core.specs.declared.fault.LogFault.{LogFault}
use Rattle.chain_core.specs.declared.fault.LogFault.TheVariants.{Shape}
use Rattle.chain_core.specs.declared.log.Lemma.{Lemma}
use Rattle.chain_core.proofs.NumberLemmas.{split_some, plain_place}
use Rattle.chain_core.proofs.HintLemmas.{zero_then, one_then}
use Rattle.chain_core.proofs.WordLemmas.{word_of_number, number_small, decimal_number, zero_number, word_of_place, literal_place, split_join, free_joined, decimal_free, literal_free, some_of}

zero_word : (word : List ℕ) (v : ℕ) → number_in word ≡ Some v → v ≡ 0 → word ≡ codes "0"
zero_word word v is none = word_of_number word v is ∙ ap decimal none ∙ decimal_digit 0 (omega arith)

-- hints
record AreHints (words : List (List ℕ)) (hs : List ℕ) : Type 0 where
  same : words ≡ map decimal hs ++ codes "0" ∷ []
  ids : All IsId hs

ended : (words : List (List ℕ)) (hs : List ℕ) → cond (length words == 0) (Some []) None ≡ Some hs → (words ≡ []) × (hs ≡ [])
ended [] hs is = let same : [] ≡ hs = cc in (refl, sym same)
ended (w ∷ ws) hs is = let none : ◌≡◌ {A = Option (List ℕ)} None (Some hs) = sym (ap (λ b. cond b (Some []) None) (ne_eqb (length (w ∷ ws)) 0 (λ e. absurd (omega (arith, e))))) ∙ is in absurd cc

one_more : (v : ℕ) (o : Option (List ℕ)) (hs : List ℕ) → option_map (λ xs. v ∷ xs) o ≡ Some hs → (m : List ℕ) × (o ≡ Some m) × (v ∷ m ≡ hs)
one_more v None hs is = absurd cc
one_more v (Some m) hs is = let same : v ∷ m ≡ hs = cc in (m, refl, same)

hints_step : (word : List ℕ) (words : List (List ℕ)) (hs : List ℕ) → ((m : List ℕ) → hints_in words ≡ Some m → AreHints words m) → (o : Option ℕ) → number_in word ≡ o → hints_then o words (hints_in words) ≡ Some hs → AreHints (word ∷ words) hs
hints_step word words hs later None read is = absurd cc
hints_step word words hs later (Some v) read is =
    elim (eqb_tells v 0) [
      | inl none ↦
          (let parts = ended words hs (sym (zero_then v words (hints_in words) none.1) ∙ is) in
          let P : List ℕ → Type 0 = λ xs. AreHints (word ∷ words) xs in
          subst P (sym parts.1) (record { same = ap (λ w. w ∷ words) (zero_word word v read none.1) ∙ ap (λ ws. codes "0" ∷ ws) parts.0; ids = All-nil IsId }))
      | inr some ↦
          (let more = one_more v (hints_in words) hs (sym (one_then v words (hints_in words) some.1) ∙ is) in
          let rest = later more.0 more.1 in
          let P : List ℕ → Type 0 = λ xs. AreHints (word ∷ words) xs in
          let least : 1 ≤ v = omega (arith, some.1) in
          subst P more.2 (record { same = ap (λ w. w ∷ words) (word_of_number word v read) ∙ ap (λ ws. decimal v ∷ ws) rest.same; ids = All-cons IsId v more.0 (least, number_small word v read) rest.ids }))
    ]

hints_words : (words : List (List ℕ)) (hs : List ℕ) → hints_in words ≡ Some hs → AreHints words hs
hints_words [] hs is = absurd cc
hints_words (word ∷ words) hs is = hints_step word words hs (hints_words words) (number_in word) refl is

words_hints : (hs : List ℕ) → All IsId hs → hints_in (map decimal hs ++ codes "0" ∷ []) ≡ Some hs
words_hints [] ids = ap (λ o. hints_then o [] None) zero_number
words_hints (h ∷ hs) ids =
    let rest : List (List ℕ) = map decimal hs ++ codes "0" ∷ [] in
    let here : IsId h = All-head IsId h hs ids in
    let some : h ≢ 0 = λ e. absurd (omega (arith, here.0, e)) in
    ap (λ o. hints_then o rest (hints_in rest)) (decimal_number h here.1) ∙ one_then h rest (hints_in rest) some ∙ ap (option_map (λ xs. h ∷ xs)) (words_hints hs (All-tail IsId h hs ids))

-- literals and hints
record AreLiterals (words : List (List ℕ)) (ls hs : List ℕ) : Type 0 where
  same : words ≡ clause_words ls ++ (map decimal hs ++ codes "0" ∷ [])
  places : All IsPlace ls
  ids : All IsId hs

place_zero : (word : List ℕ) (p : ℕ) → place_in word ≡ Some p → p ≡ 0 → word ≡ codes "0"
place_zero [] p is none = absurd cc
place_zero (c ∷ word) p is none =
    elim (eqb_tells c 45) [
      | inl minus ↦
          (let read : option_map (λ v. 2 * v + 1) (number_in word) ≡ Some p = sym (ap (λ b. cond b (option_map (λ v. 2 * v + 1) (number_in word)) (option_map (λ v. 2 * v) (number_in (c ∷ word)))) minus.0) ∙ is in
          let v = some_of (λ v. 2 * v + 1) (number_in word) p read in
          absurd (omega (arith, v.2, none)))
      | inr plain ↦
          (let read : option_map (λ v. 2 * v) (number_in (c ∷ word)) ≡ Some p = sym (plain_place word c plain.1) ∙ is in
          let v = some_of (λ v. 2 * v) (number_in (c ∷ word)) p read in
          zero_word (c ∷ word) v.0 v.1 (omega (arith, v.2, none)))
    ]

abbrev InReach : ℕ → Bool
InReach l = nat_le 2 l && nat_le l MOST_PLACE

end_then : (l : ℕ) (hints : Option (List ℕ)) (more : Option (List ℕ × List ℕ)) → l ≡ 0 → literals_then (Some l) hints more ≡ option_map (λ hs. ([], hs)) hints
end_then l hints more none = ap (λ b. cond b (option_map (λ hs. ([], hs)) hints) (cond (InReach l) (option_map (λ (m : List ℕ × List ℕ). (l ∷ m.0, m.1)) more) None)) (eq-eqb l 0 none)

reach_then : (l : ℕ) (hints : Option (List ℕ)) (more : Option (List ℕ × List ℕ)) (b : Bool) → l ≢ 0 → InReach l ≡ b → literals_then (Some l) hints more ≡ cond b (option_map (λ (m : List ℕ × List ℕ). (l ∷ m.0, m.1)) more) None
reach_then l hints more b some reach =
    ap (λ t. cond t (option_map (λ hs. ([], hs)) hints) (cond (InReach l) (option_map (λ (m : List ℕ × List ℕ). (l ∷ m.0, m.1)) more) None)) (ne_eqb l 0 some)
    ∙ ap (λ t. cond t (option_map (λ (m : List ℕ × List ℕ). (l ∷ m.0, m.1)) more) None) reach

reach_told : (l : ℕ) → InReach l ≡ true → IsPlace l
reach_told l h = grind (arith, nat_tests)

reach_tested : (l : ℕ) → IsPlace l → InReach l ≡ true
reach_tested l h = grind (arith, nat_tests)

only_hints : (o : Option (List ℕ)) (ls hs : List ℕ) → option_map {U = List ℕ × List ℕ} (λ xs. ([], xs)) o ≡ Some (ls, hs) → (o ≡ Some hs) × ([] ≡ ls)
only_hints None ls hs is = absurd (none-some (ls, hs) is)
only_hints (Some xs) ls hs is = let parts = some_pair_parts [] ls xs hs is in (ap Some parts.1, parts.0)

one_literal : (l : ℕ) (o : Option (List ℕ × List ℕ)) (ls hs : List ℕ) → option_map {U = List ℕ × List ℕ} (λ m. (l ∷ m.0, m.1)) o ≡ Some (ls, hs) → (m : List ℕ) × (o ≡ Some (m, hs)) × (l ∷ m ≡ ls)
one_literal l None ls hs is = absurd (none-some (ls, hs) is)
one_literal l (Some (m, xs)) ls hs is = let parts = some_pair_parts (l ∷ m) ls xs hs is in (m, ap (λ ys. Some (m, ys)) parts.1, parts.0)

literals_step : (word : List ℕ) (words : List (List ℕ)) (ls hs : List ℕ) → ((m : List ℕ) → literals_in words ≡ Some (m, hs) → AreLiterals words m hs) → (o : Option ℕ) → place_in word ≡ o → literals_then o (hints_in words) (literals_in words) ≡ Some (ls, hs) → AreLiterals (word ∷ words) ls hs
literals_step word words ls hs later None read is = absurd cc
literals_step word words ls hs later (Some l) read is =
    let P : List ℕ → Type 0 = λ xs. AreLiterals (word ∷ words) xs hs in
    elim (eqb_tells l 0) [
      | inl none ↦
          (let only = only_hints (hints_in words) ls hs (sym (end_then l (hints_in words) (literals_in words) none.1) ∙ is) in
          let hints = hints_words words hs only.0 in
          subst P only.1 (record { same = ap (λ w. w ∷ words) (place_zero word l read none.1) ∙ ap (λ ws. codes "0" ∷ ws) hints.same; places = All-nil IsPlace; ids = hints.ids }))
      | inr some ↦ (elim (cases_Bool (InReach l)) [
        | inl inside ↦
            (let more = one_literal l (literals_in words) ls hs (sym (reach_then l (hints_in words) (literals_in words) true some.1 inside) ∙ is) in
            let rest = later more.0 more.1 in
            let place = reach_told l inside in
            subst P more.2 (record { same = ap (λ w. w ∷ words) (word_of_place word l read place.0) ∙ ap (λ ws. literal_word l ∷ ws) rest.same; places = All-cons IsPlace l more.0 place rest.places; ids = rest.ids }))
        | inr outside ↦ (let none : ◌≡◌ {A = Option (List ℕ × List ℕ)} None (Some (ls, hs)) = sym (reach_then l (hints_in words) (literals_in words) false some.1 outside) ∙ is in absurd cc)
      ])
    ]

literals_words : (words : List (List ℕ)) (ls hs : List ℕ) → literals_in words ≡ Some (ls, hs) → AreLiterals words ls hs
literals_words [] ls hs is = absurd cc
literals_words (word ∷ words) ls hs is = literals_step word words ls hs (λ m. literals_words words m hs) (place_in word) refl is

words_literals : (ls hs : List ℕ) → All IsPlace ls → All IsId hs → literals_in (clause_words ls ++ (map decimal hs ++ codes "0" ∷ [])) ≡ Some (ls, hs)
words_literals [] hs places ids = ap (option_map (λ (xs : List ℕ). ([], xs))) (words_hints hs ids)
words_literals (l ∷ ls) hs places ids =
    let rest : List (List ℕ) = clause_words ls ++ (map decimal hs ++ codes "0" ∷ []) in
    let here : IsPlace l = All-head IsPlace l ls places in
    let some : l ≢ 0 = λ e. absurd (omega (arith, here.0, e)) in
    ap (λ o. literals_then o (hints_in rest) (literals_in rest)) (literal_place l here.0 here.1) ∙ reach_then l (hints_in rest) (literals_in rest) true some (reach_tested l here)
    ∙ ap (option_map (λ (m : List ℕ × List ℕ). (l ∷ m.0, m.1))) (words_literals ls hs (All-tail IsPlace l ls places) ids)

-- a lemma
id_then : (id : ℕ) (m : List ℕ × List ℕ) → id ≢ 0 → lemma_from (Some id) (Some m) ≡ Some (record { id = id; literals = m.0; hints = m.1 })
id_then id m some = ap (λ b. cond b None (Some (record { id = id; literals = m.0; hints = m.1 }))) (ne_eqb id 0 some)

record IsLemma (words : List (List ℕ)) (lemma : Lemma) : Type 0 where
  same : words ≡ lemma_words lemma
  writable : IsWritable lemma

lemma_step : (word : List ℕ) (words : List (List ℕ)) (lemma : Lemma) (o : Option ℕ) (more : Option (List ℕ × List ℕ)) → number_in word ≡ o → literals_in words ≡ more → lemma_from o more ≡ Some lemma → IsLemma (word ∷ words) lemma
lemma_step word words lemma None more read reads is = absurd cc
lemma_step word words lemma (Some id) None read reads is = absurd cc
lemma_step word words lemma (Some id) (Some (ls, hs)) read reads is =
    elim (eqb_tells id 0) [
      | inl none ↦ (let no : ◌≡◌ {A = Option Lemma} None (Some lemma) = sym (ap (λ b. cond b None (Some (record { id = id; literals = ls; hints = hs }))) none.0) ∙ is in absurd (none-some lemma no))
      | inr some ↦
          (let made : Lemma = record { id = id; literals = ls; hints = hs } in
          let is_made : made ≡ lemma = same_Some made lemma (sym (id_then id (ls, hs) some.1) ∙ is) in
          let parts = literals_words words ls hs reads in
          let least : 1 ≤ id = omega (arith, some.1) in
          let P : Lemma → Type 0 = λ l. IsLemma (word ∷ words) l in
          subst P is_made (record {
            same = ap (λ w. w ∷ words) (word_of_number word id read) ∙ ap (λ ws. decimal id ∷ ws) parts.same;
            writable = record { id = (least, number_small word id read); literals = parts.places; hints = parts.ids };
          }))
    ]

lemma_told : (words : List (List ℕ)) (lemma : Lemma) → lemma_of_words words ≡ Some lemma → IsLemma words lemma
lemma_told [] lemma is = absurd (none-some lemma is)
lemma_told (word ∷ words) lemma is = lemma_step word words lemma (number_in word) (literals_in words) refl refl is

lemma_reads : (lemma : Lemma) → IsWritable lemma → lemma_of_words (lemma_words lemma) ≡ Some lemma
lemma_reads lemma writable =
    let some : lemma.id ≢ 0 = λ e. absurd (omega (arith, writable.id.0, e)) in
    ap (λ o. lemma_from o (literals_in (clause_words lemma.literals ++ (map decimal lemma.hints ++ codes "0" ∷ [])))) (decimal_number lemma.id writable.id.1)
    ∙ ap (lemma_from (Some lemma.id)) (words_literals lemma.literals lemma.hints writable.literals writable.hints) ∙ id_then lemma.id (lemma.literals, lemma.hints) some

-- words without a byte
abbrev pub IsFree : ℕ → List ℕ → Type 0
IsFree c word = All (λ b. (b == c) ≡ false) word

zero_free : (c : ℕ) → c < 48 → IsFree c (codes "0")
zero_free c low = let other : 48 ≢ c = omega arith in All-cons (λ b. (b == c) ≡ false) 48 [] (ne_eqb 48 c other) (All-nil (λ b. (b == c) ≡ false))

lemma_free : (c : ℕ) (lemma : Lemma) → c < 45 → IsWritable lemma → IsFree c (decimal lemma.id) × All (IsFree c) (clause_words lemma.literals ++ (map decimal lemma.hints ++ codes "0" ∷ []))
lemma_free c lemma low writable =
    let below : c < 48 = omega arith in
    let zero' : All (IsFree c) (codes "0" ∷ []) = All-cons (IsFree c) (codes "0") [] (zero_free c below) (All-nil (IsFree c)) in
    let literals : All (IsFree c) (map literal_word lemma.literals) = All-map (IsFree c) literal_word lemma.literals (All-weaker IsPlace (λ l. IsFree c (literal_word l)) (λ l place. literal_free c l low place.1) lemma.literals writable.literals) in
    let hints : All (IsFree c) (map decimal lemma.hints) = All-map (IsFree c) decimal lemma.hints (All-weaker IsId (λ h. IsFree c (decimal h)) (λ h id. decimal_free c h below (omega (arith, id.1))) lemma.hints writable.hints) in (
      decimal_free c lemma.id below (omega (arith, writable.id.1)),
      All-append (IsFree c) (clause_words lemma.literals) (map decimal lemma.hints ++ codes "0" ∷ []) (All-append (IsFree c) (map literal_word lemma.literals) (codes "0" ∷ []) literals zero')
          (All-append (IsFree c) (map decimal lemma.hints) (codes "0" ∷ []) hints zero'),
    )

abbrev pub text_of : Lemma → List ℕ
text_of lemma = join_with_byte 32 (lemma_words lemma)

pub line_reads : (lemma : Lemma) → IsWritable lemma → lemma_in (text_of lemma) ≡ Some lemma
line_reads lemma writable =
    let free = lemma_free 32 lemma (omega arith) writable in
    ap lemma_of_words (split_join 32 (decimal lemma.id) (clause_words lemma.literals ++ (map decimal lemma.hints ++ codes "0" ∷ [])) free.0 free.1) ∙ lemma_reads lemma writable

pub line_told : (line : List ℕ) (lemma : Lemma) → lemma_in line ≡ Some lemma → (line ≡ text_of lemma) × IsWritable lemma
line_told line lemma is =
    let told = lemma_told (words_of line) lemma is in
    (sym (join_with_byte-slice_split 32 line) ∙ ap (join_with_byte 32) told.same, told.writable)

-- all lines
abbrev pub lines_text : List Lemma → List ℕ
lines_text log = flat_map (λ lemma. line_of (lemma_words lemma)) log

record AreLines (parts : List (List ℕ)) (log : List Lemma) : Type 0 where
  same : join_with_byte 10 parts ≡ lines_text log
  writable : All IsWritable log

lines_step : (line : ℕ) (part next : List ℕ) (parts : List (List ℕ)) (log : List Lemma) → ((m : List Lemma) → lemmas_in (line + 1) (next ∷ parts) ≡ Ok m → AreLines (next ∷ parts) m) → (o : Option Lemma) (r : Result (List Lemma) LogFault)
    → lemma_in part ≡ o → lemmas_in (line + 1) (next ∷ parts) ≡ r → lemmas_then line o r ≡ Ok log → AreLines (part ∷ next ∷ parts) log
lines_step line part next parts log later None r read reads is = absurd cc
lines_step line part next parts log later (Some lemma) (Err fault) read reads is = absurd cc
lines_step line part next parts log later (Some lemma) (Ok lemmas) read reads is =
    let made : lemma ∷ lemmas ≡ log = cc in
    let here = line_told part lemma read in
    let rest = later lemmas reads in
    let P : List Lemma → Type 0 = λ ls. AreLines (part ∷ next ∷ parts) ls in
    subst P made (record {
      same = ap (λ t. t ++ (10 ∷ join_with_byte 10 (next ∷ parts))) here.0 ∙ ap (λ t. text_of lemma ++ (10 ∷ t)) rest.same ∙ sym (append_assoc (text_of lemma) (10 ∷ []) (lines_text lemmas));
      writable = All-cons IsWritable lemma lemmas here.1 rest.writable;
    })

last_told : (line : ℕ) (last : List ℕ) (log : List Lemma) → lemmas_in line (last ∷ []) ≡ Ok log → AreLines (last ∷ []) log
last_told line [] log is =
    let made : [] ≡ log = cc in
    let P : List Lemma → Type 0 = λ ls. AreLines ([] ∷ []) ls in
    subst P made (record { same = refl; writable = All-nil IsWritable })
last_told line (c ∷ last) log is =
    let fails : ◌≡◌ {A = Result (List Lemma) LogFault} (Err (Shape line)) (Ok log) = sym (ap (λ b. cond b (Ok []) (Err (Shape line))) (ne_eqb (length (c ∷ last)) 0 (λ e. absurd (omega (arith, e))))) ∙ is in
    absurd cc

lines_told : (line : ℕ) (part : List ℕ) (parts : List (List ℕ)) (log : List Lemma) → lemmas_in line (part ∷ parts) ≡ Ok log → AreLines (part ∷ parts) log
lines_told line part [] log is = last_told line part log is
lines_told line part (next ∷ parts) log is = lines_step line part next parts log (lines_told (line + 1) next parts) (lemma_in part) (lemmas_in (line + 1) (next ∷ parts)) refl refl is

pub one_line : (text rest : List ℕ) → IsFree 10 text → lines_of ((text ++ 10 ∷ []) ++ rest) ≡ text ∷ lines_of rest
one_line text rest free = ap lines_of (append_assoc text (10 ∷ []) rest) ∙ slice_split_at (λ b. b == 10) text 10 rest free refl

pub text_free : (lemma : Lemma) → IsWritable lemma → IsFree 10 (text_of lemma)
text_free lemma writable =
    let free = lemma_free 10 lemma (omega arith) writable in
    free_joined 10 (lemma_words lemma) refl (All-cons (IsFree 10) (decimal lemma.id) (clause_words lemma.literals ++ (map decimal lemma.hints ++ codes "0" ∷ [])) free.0 free.1)

lines_read : (line : ℕ) (log : List Lemma) → All IsWritable log → lemmas_in line (lines_of (lines_text log)) ≡ Ok log
lines_read line [] writable = refl
lines_read line (lemma ∷ log) writable =
    let here : IsWritable lemma = All-head IsWritable lemma log writable in
    let rest = split_some (λ b. b == 10) (lines_text log) in
    let more = lines_read (line + 1) log (All-tail IsWritable lemma log writable) in
    ap (lemmas_in line) (one_line (text_of lemma) (lines_text log) (text_free lemma here) ∙ ap (λ ls. text_of lemma ∷ ls) rest.1.1)
    ∙ ap (λ o. lemmas_then line o (lemmas_in (line + 1) (rest.0 ∷ rest.1.0))) (line_reads lemma here)
    ∙ ap (λ ls. lemmas_then line (Some lemma) (lemmas_in (line + 1) ls)) (sym rest.1.1) ∙ ap (lemmas_then line (Some lemma)) more

-- the header
told_by : (a b : Bool) (line : List ℕ) (encoding : Encoding) → (a ≡ true → line ≡ codes "lincs-refutation 1 coalitions") → (b ≡ true → line ≡ codes "lincs-refutation 1 separation")
    → cond a (Some Coalitions) (cond b (Some Separation) None) ≡ Some encoding → line ≡ join_with_byte 32 (header_words encoding)
told_by true b line encoding first second is = subst (λ e. line ≡ join_with_byte 32 (header_words e)) (same_Some Coalitions encoding is) (first refl)
told_by false true line encoding first second is = subst (λ e. line ≡ join_with_byte 32 (header_words e)) (same_Some Separation encoding is) (second refl)
told_by false false line encoding first second is = absurd cc

pub encoding_told : (line : List ℕ) (encoding : Encoding) → encoding_in line ≡ Some encoding → line ≡ join_with_byte 32 (header_words encoding)
encoding_told line encoding is =
    let coalitions : List ℕ = codes "lincs-refutation 1 coalitions" in
    let separation : List ℕ = codes "lincs-refutation 1 separation" in
    told_by (bytes_eq line coalitions) (bytes_eq line separation) line encoding (bytes_eq-Decides line coalitions).0 (bytes_eq-Decides line separation).0 is

pub encoding_read : (encoding : Encoding) → encoding_in (join_with_byte 32 (header_words encoding)) ≡ Some encoding
encoding_read Coalitions = refl
encoding_read Separation = refl

pub header_free : (encoding : Encoding) → IsFree 10 (join_with_byte 32 (header_words encoding))
header_free Coalitions = All-from_recursion (λ b. (b == 10) ≡ false) (codes "lincs-refutation 1 coalitions") (search rules)
header_free Separation = All-from_recursion (λ b. (b == 10) ≡ false) (codes "lincs-refutation 1 separation") (search rules)

abbrev value_or : Encoding × List Lemma → Result (Encoding × List Lemma) LogFault → Encoding × List Lemma
value_or d (Ok x) = x
value_or d (Err fault) = d

log_step : (first next : List ℕ) (parts : List (List ℕ)) (e : Encoding) (log : List Lemma) (o : Option Encoding) (r : Result (List Lemma) LogFault) → encoding_in first ≡ o → lemmas_in 2 (next ∷ parts) ≡ r → log_then o r ≡ Ok (e, log)
    → (join_with_byte 10 (first ∷ next ∷ parts) ≡ log_text e log) × All IsWritable log
log_step first next parts e log None r read reads is = absurd cc
log_step first next parts e log (Some encoding) (Err fault) read reads is = absurd cc
log_step first next parts e log (Some encoding) (Ok lemmas) read reads is =
    let same : (encoding, lemmas) ≡ (e, log) = ap (value_or (encoding, lemmas)) is in
    let a : encoding ≡ e = ap (λ p. p.0) same in
    let b : lemmas ≡ log = ap (λ p. p.1) same in
    let rest = lines_told 2 next parts lemmas reads in
    let P : Encoding → Type 0 = λ x. (join_with_byte 10 (first ∷ next ∷ parts) ≡ log_text x log) × All IsWritable log in
    let Q : List Lemma → Type 0 = λ ls. (join_with_byte 10 (first ∷ next ∷ parts) ≡ log_text encoding ls) × All IsWritable ls in
    subst P a (subst Q b (
      ap (λ t. t ++ (10 ∷ join_with_byte 10 (next ∷ parts))) (encoding_told first encoding read) ∙ ap (λ t. join_with_byte 32 (header_words encoding) ++ (10 ∷ t)) rest.same
          ∙ sym (append_assoc (join_with_byte 32 (header_words encoding)) (10 ∷ []) (lines_text lemmas)),
      rest.writable,
    ))

log_told : (parts : List (List ℕ)) (e : Encoding) (log : List Lemma) → log_of_lines parts ≡ Ok (e, log) → (join_with_byte 10 parts ≡ log_text e log) × All IsWritable log
log_told [] e log is = absurd cc
log_told (first ∷ []) e log is = absurd cc
log_told (first ∷ next ∷ parts) e log is = log_step first next parts e log (encoding_in first) (lemmas_in 2 (next ∷ parts)) refl refl is

-- a text that reads as a log is its text
pub read_is_text : (bytes : List ℕ) (e : Encoding) (log : List Lemma) → log_of bytes ≡ Ok (e, log) → (bytes ≡ log_text e log) × All IsWritable log
read_is_text bytes e log is =
    let told = log_told (lines_of bytes) e log is in
    (sym (join_with_byte-slice_split 10 bytes) ∙ told.0, told.1)

-- and the text of a log reads as it
pub text_reads : (e : Encoding) (log : List Lemma) → All IsWritable log → log_of (log_text e log) ≡ Ok (e, log)
text_reads e log writable =
    let rest = split_some (λ b. b == 10) (lines_text log) in
    ap log_of_lines (one_line (join_with_byte 32 (header_words e)) (lines_text log) (header_free e) ∙ ap (λ ls. join_with_byte 32 (header_words e) ∷ ls) rest.1.1)
    ∙ ap (λ o. log_then o (lemmas_in 2 (rest.0 ∷ rest.1.0))) (encoding_read e) ∙ ap (λ ls. log_then (Some e) (lemmas_in 2 ls)) (sym rest.1.1) ∙ ap (log_then (Some e)) (lines_read 2 log writable)

pub log_law : (bytes : List ℕ) (e : Encoding) (log : List Lemma) → (log_of bytes ≡ Ok (e, log)) ↔ ((bytes ≡ log_text e log) × All IsWritable log)
log_law bytes e log = (read_is_text bytes e log, λ h. ap log_of h.0 ∙ text_reads e log h.1)
