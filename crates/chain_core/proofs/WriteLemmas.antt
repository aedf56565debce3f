-- What writers leave: words with a space after each, and items one after another.
use Rattle.std.proofs.Common.{◌≡◌, ℕ, ◌+◌, ◌<◌, ◌≤◌, List, [], ◌∷◌, ◌++◌, length, map, get_or, take, drop, refl, sym, ap, ◌∙◌, subst}
use Rattle.std.specs.Prelude.{Result, Ok, Err, IsErr, OnOk, Some, decimal, codes}
use Rattle.std.specs.List.{All, slice_get, flat_map, join_with_byte}
use Rattle.std.proofs.lemmas.List.{append_assoc, take_more, drop_more, take-append-drop, flat_map_more}
use Rattle.std.proofs.lemmas.List.Concat.{flat_map-append}
use Rattle.std.proofs.lemmas.List.Elements.{All-more}
use Rattle.std.proofs.lemmas.Option.{slice_get_within, get_or_from_slice_get}
use Rattle.lists_core.specs.Puts.{Puts}
use Rattle.lists_core.proofs.PutsFacts.{puts-then, puts-cut, puts-failed}
use Rattle.literals_core.specs.Literal.{variable_of}
use Rattle.chain_core.specs.Text.{line_of, sign_text, literal_word, size_words, clause_words, lemma_words, dimacs_text}
use Rattle.literals_core.specs.Formula.{Cnf}
use Rattle.chain_core.specs.Lemma.{IsNumbered, IsWritable}
use Rattle.chain_core.specs.Literal.{IsPlace}
use Rattle.chain_core.specs.declared.number.TheConstants.{MOST_ID}
use Rattle.chain_core.specs.declared.log.Lemma.{Lemma}

-- a literal and a space, by its variable
pub literal_by : (l variable : ℕ) → variable ≡ variable_of l → literal_word l ++ 32 ∷ [] ≡ sign_text l ++ (decimal variable ++ 32 ∷ [])
literal_by l variable is = append_assoc (sign_text l) (decimal (variable_of l)) (32 ∷ []) ∙ ap (λ n. sign_text l ++ (decimal n ++ 32 ∷ [])) (sym is)

-- a word in front of others
join_step : {X : Type 0} (word_of : X → List ℕ) (word : List ℕ) (xs : List X) (last : List ℕ) (more : List (List ℕ)) → join_with_byte 32 (word ∷ (map word_of xs ++ last ∷ more)) ≡ word ++ (32 ∷ join_with_byte 32 (map word_of xs ++ last ∷ more))
join_step word_of word [] last more = refl
join_step word_of word (x ∷ xs) last more = refl

-- words with a space after each, and then the others
pub join_spaced : {X : Type 0} (word_of : X → List ℕ) (xs : List X) (last : List ℕ) (more : List (List ℕ)) → join_with_byte 32 (map word_of xs ++ last ∷ more) ≡ flat_map (λ x. word_of x ++ 32 ∷ []) xs ++ join_with_byte 32 (last ∷ more)
join_spaced word_of [] last more = refl
join_spaced word_of (x ∷ xs) last more =
    let rest : List ℕ = flat_map (λ y. word_of y ++ 32 ∷ []) xs in
    let others : List ℕ = join_with_byte 32 (last ∷ more) in
    join_step word_of (word_of x) xs last more ∙ ap (λ t. word_of x ++ (32 ∷ t)) (join_spaced word_of xs last more)
    ∙ sym (append_assoc (word_of x) (32 ∷ []) (rest ++ others)) ∙ sym (append_assoc (word_of x ++ 32 ∷ []) rest others)

-- the line of a clause
pub clause_line : (literals : List ℕ) → line_of (clause_words literals) ≡ flat_map (λ l. literal_word l ++ 32 ∷ []) literals ++ codes "0\n"
clause_line literals =
    ap (λ t. t ++ 10 ∷ []) (join_spaced literal_word literals (codes "0") []) ∙ append_assoc (flat_map (λ l. literal_word l ++ 32 ∷ []) literals) (codes "0") (10 ∷ [])

-- the line of a lemma
pub lemma_line : (lemma : Lemma) → line_of (lemma_words lemma)
    ≡ (decimal lemma.id ++ 32 ∷ []) ++ (flat_map (λ l. literal_word l ++ 32 ∷ []) lemma.literals ++ (codes "0 " ++ (flat_map (λ h. decimal h ++ 32 ∷ []) lemma.hints ++ codes "0\n")))
lemma_line lemma =
    let zero : List ℕ = codes "0" in
    let last : List (List ℕ) = map decimal lemma.hints ++ zero ∷ [] in
    let literals : List ℕ = flat_map (λ l. literal_word l ++ 32 ∷ []) lemma.literals in
    let hints : List ℕ = flat_map (λ h. decimal h ++ 32 ∷ []) lemma.hints in
    let apart : clause_words lemma.literals ++ last ≡ map literal_word lemma.literals ++ zero ∷ last = append_assoc (map literal_word lemma.literals) (zero ∷ []) last in
    let ends : join_with_byte 32 (zero ∷ last) ≡ zero ++ (32 ∷ (hints ++ zero)) = join_step decimal zero lemma.hints zero [] ∙ ap (λ t. zero ++ (32 ∷ t)) (join_spaced decimal lemma.hints zero []) in
    let whole : join_with_byte 32 (lemma_words lemma) ≡ decimal lemma.id ++ (32 ∷ (literals ++ (zero ++ (32 ∷ (hints ++ zero))))) =
    ap (λ ws. join_with_byte 32 (decimal lemma.id ∷ ws)) apart ∙ join_step literal_word (decimal lemma.id) lemma.literals zero last
    ∙ ap (λ t. decimal lemma.id ++ (32 ∷ t)) (join_spaced literal_word lemma.literals zero last ∙ ap (λ t. literals ++ t) ends) in
    ap (λ t. t ++ 10 ∷ []) whole ∙ regroup (decimal lemma.id) literals hints
  where
    regroup : (a b c : List ℕ) → (a ++ (32 ∷ (b ++ (codes "0" ++ (32 ∷ (c ++ codes "0")))))) ++ 10 ∷ [] ≡ (a ++ 32 ∷ []) ++ (b ++ (codes "0 " ++ (c ++ codes "0\n")))
    regroup a b c = simp append_assoc

-- the same, by lists that equal its literals and hints
pub lemma_line_by : (lemma : Lemma) (literals hints : List ℕ) → literals ≡ lemma.literals → hints ≡ lemma.hints → line_of (lemma_words lemma)
    ≡ (decimal lemma.id ++ 32 ∷ []) ++ (flat_map (λ l. literal_word l ++ 32 ∷ []) literals ++ (codes "0 " ++ (flat_map (λ h. decimal h ++ 32 ∷ []) hints ++ codes "0\n")))
lemma_line_by lemma literals hints a b =
    let Q : List ℕ → List ℕ → Type 0 = λ ls hs. line_of (lemma_words lemma) ≡ (decimal lemma.id ++ 32 ∷ []) ++ (flat_map (λ l. literal_word l ++ 32 ∷ []) ls ++ (codes "0 " ++ (flat_map (λ h. decimal h ++ 32 ∷ []) hs ++ codes "0\n"))) in
    subst (λ ls. Q ls hints) (sym a) (subst (λ hs. Q lemma.literals hs) (sym b) (lemma_line lemma))

pub dimacs_by : (formula : Cnf) (variables clauses : ℕ) → variables ≡ formula.variables → clauses ≡ length formula.clauses → dimacs_text formula ≡ line_of (size_words variables clauses) ++ flat_map (λ clause. line_of (clause_words clause)) formula.clauses
dimacs_by formula variables clauses a b =
    ap (λ n. line_of (size_words n (length formula.clauses)) ++ flat_map (λ clause. line_of (clause_words clause)) formula.clauses) (sym a)
    ∙ ap (λ n. line_of (size_words variables n) ++ flat_map (λ clause. line_of (clause_words clause)) formula.clauses) (sym b)

-- the line of a formula's size
pub size_line : (a b : List ℕ) → line_of (codes "p" ∷ codes "cnf" ∷ a ∷ b ∷ []) ≡ codes "p cnf " ++ ((a ++ 32 ∷ []) ++ (b ++ codes "\n"))
size_line a b = simp append_assoc

-- the same text by another term
pub puts-as : (old new a b : List ℕ) {T E : Type 0} (r : Result T E) → a ≡ b → Puts old new r b → Puts old new r a
puts-as old new a b r is put = let P : List ℕ → Type 0 = λ t. Puts old new r t in subst P (sym is) put

-- the first part was cut short
pub failed_first : (old new a rest : List ℕ) {T E : Type 0} (r : Result T E) → IsErr r → (k : ℕ) × (new ≡ old ++ take k a) → Puts old new r (a ++ rest)
failed_first old new a rest r failed part = puts-failed old new (a ++ rest) r failed (puts-cut old new a rest part)

-- the second part was cut short
pub failed_second : (old mid new a b rest : List ℕ) {T E : Type 0} (r : Result T E) → mid ≡ old ++ a → IsErr r → (k : ℕ) × (new ≡ mid ++ take k b) → Puts old new r (a ++ (b ++ rest))
failed_second old mid new a b rest r is failed part = puts-then old mid a is new (b ++ rest) r (failed_first mid new b rest r failed part)

pub failed_third : (old one two new a b c rest : List ℕ) {T E : Type 0} (r : Result T E) → one ≡ old ++ a → two ≡ one ++ b → IsErr r → (k : ℕ) × (new ≡ two ++ take k c) → Puts old new r (a ++ (b ++ (c ++ rest)))
failed_third old one two new a b c rest r first second failed part = puts-then old one a first new (b ++ (c ++ rest)) r (failed_second one two new b c rest r second failed part)

pub failed_fourth : (old one two three new a b c d rest : List ℕ) {T E : Type 0} (r : Result T E) → one ≡ old ++ a → two ≡ one ++ b → three ≡ two ++ c → IsErr r → (k : ℕ) × (new ≡ three ++ take k d) → Puts old new r (a ++ (b ++ (c ++ (d ++ rest))))
failed_fourth old one two three new a b c d rest r first second third failed part = puts-then old one a first new (b ++ (c ++ (d ++ rest))) r (failed_third one two three new b c d rest r second third failed part)

-- four parts, and five, one after another
pub four_put : (old one two three new a b c d : List ℕ) {T E : Type 0} (r : Result T E) → one ≡ old ++ a → two ≡ one ++ b → three ≡ two ++ c → Puts three new r d → Puts old new r (a ++ (b ++ (c ++ d)))
four_put old one two three new a b c d r first second third last = puts-then old one a first new (b ++ (c ++ d)) r (puts-then one two b second new (c ++ d) r (puts-then two three c third new d r last))

pub five_put : (old one two three four new a b c d e : List ℕ) {T E : Type 0} (r : Result T E) → one ≡ old ++ a → two ≡ one ++ b → three ≡ two ++ c → four ≡ three ++ d → Puts four new r e → Puts old new r (a ++ (b ++ (c ++ (d ++ e))))
five_put old one two three four new a b c d e r first second third fourth last = puts-then old one a first new (b ++ (c ++ (d ++ e))) r (four_put one two three four new b c d e r second third fourth last)

-- items one after another, as a loop puts them
module _ {X : Type 0} (text_of : X → List ℕ) (xs : List X) (i : ℕ) (x : X) (old mid new : List ℕ) where
  pub more_put : i < length xs → get_or xs i x ≡ x → mid ≡ old ++ flat_map text_of (take i xs) → new ≡ mid ++ text_of x → new ≡ old ++ flat_map text_of (take (i + 1) xs)
  more_put lt read was now =
      let more : take (i + 1) xs ≡ take i xs ++ x ∷ [] = take_more xs i x lt ∙ ap (λ y. take i xs ++ y ∷ []) read in
      now ∙ ap (λ t. t ++ text_of x) was ∙ flat_map_more text_of old (take i xs) x ∙ ap (λ ys. old ++ flat_map text_of ys) (sym more)

  -- the texts up to this item, this item's, and the others
  cut_apart : i < length xs → get_or xs i x ≡ x → flat_map text_of xs ≡ flat_map text_of (take i xs) ++ (text_of x ++ flat_map text_of (drop (i + 1) xs))
  cut_apart lt read =
      let rest : drop i xs ≡ x ∷ drop (i + 1) xs = drop_more xs i x lt ∙ ap (λ y. y ∷ drop (i + 1) xs) read in
      ap (flat_map text_of) (sym (take-append-drop i xs)) ∙ flat_map-append text_of (take i xs) (drop i xs) ∙ ap (λ ys. flat_map text_of (take i xs) ++ flat_map text_of ys) rest

  pub cut_put : {T E : Type 0} (r : Result T E) → IsErr r → i < length xs → get_or xs i x ≡ x → mid ≡ old ++ flat_map text_of (take i xs) → (k : ℕ) × (new ≡ mid ++ take k (text_of x)) → Puts old new r (flat_map text_of xs)
  cut_put {T} {E} r failed lt read was part =
      let P : List ℕ → Type 0 = λ t. Puts old new r t in
      subst P (sym (cut_apart lt read)) (puts-then old mid (flat_map text_of (take i xs)) was new (text_of x ++ flat_map text_of (drop (i + 1) xs)) r
      (puts-failed mid new (text_of x ++ flat_map text_of (drop (i + 1) xs)) r failed (puts-cut mid new (text_of x) (flat_map text_of (drop (i + 1) xs)) part)))

-- what holds anyway holds if a call succeeds
pub OnOk-known : {T E P : Type 0} (r : Result T E) → P → OnOk r P
OnOk-known (Ok v) holds = holds
OnOk-known (Err e) holds = tt

-- what holds of each lemma holds of the one at a place
pub All-slice_get : (P : Lemma → Type 0) (log : List Lemma) (k : ℕ) (lemma : Lemma) → All P log → slice_get log k ≡ Some lemma → P lemma
All-slice_get P log k lemma all at = subst P (get_or_from_slice_get log k lemma lemma at) (all k lemma (slice_get_within log k lemma at))

-- a lemma whose numbers count from 1 and fit is writable
pub writable_by : (lemma : Lemma) (literals hints : List ℕ) → IsNumbered lemma → literals ≡ lemma.literals → hints ≡ lemma.hints
    → lemma.id ≤ MOST_ID → All IsPlace literals → All (λ h. h ≤ MOST_ID) hints → IsWritable lemma
writable_by lemma literals hints numbered is_literals is_hints id places ids = record {
  id = (numbered.id, id);
  literals = subst (All IsPlace) is_literals places;
  hints = λ k d lt. (numbered.hints k d lt, subst (All (λ h. h ≤ MOST_ID)) is_hints ids k d lt);
}

-- one more lemma is writable
pub writable_more : (log : List Lemma) (k : ℕ) (lemma : Lemma) → slice_get log k ≡ Some lemma → All IsWritable (take k log) → IsWritable lemma → All IsWritable (take (k + 1) log)
writable_more log k lemma at before here =
    All-more IsWritable log k lemma (slice_get_within log k lemma at) before (subst IsWritable (sym (get_or_from_slice_get log k lemma lemma at)) here)
