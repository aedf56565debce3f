-- The tokens of a written document are those of its lines.
use Rattle.std.proofs.Common.{◌≡◌, ℕ, zero, suc, ◌-◌, Bool, true, false, List, [], ◌∷◌, ◌++◌, length, map, refl, sym, ap, ◌∙◌, arith, Option, Some, inl, inr}
use Rattle.std.specs.Prelude.{◌==◌, not, option_map, option_and_then, slice_index}
use Rattle.std.specs.List.{All, slice_split}
use Rattle.std.specs.Str.Lines.{lines, lines_of_parts, strip_carriage_return}
use Rattle.std.proofs.lemmas.Bool.{cases_lt}
use Rattle.std.proofs.lemmas.Bool.Decides.{nat_tests}
use Rattle.std.proofs.lemmas.List.{get_or_past}
use Rattle.std.proofs.lemmas.List.Elements.{All-weaker, All-get_or}
use Rattle.std.proofs.lemmas.List.Folds.{list_any_none}
use Rattle.std.proofs.lemmas.List.Splits.{slice_split_at}
use Rattle.yaml_tokens.specs.Tokens.{Line, is_refused, is_name, is_start, is_marker, kept, put_line, line_tokens, lines_tokens, has_mark, text_tokens}
use Rattle.written_core.specs.Document.{is_key, Start, Item, Key, ItemKey, Value, Blank, One, Flow, Named, Same, DocLine, spaces, scalar_text, flow_text, value_text, key_text, body_text, line_text, document_text, body_tokens, tokens_in, IsGoodLine, IsGoodStart, AreGoodLines}
use Rattle.written_core.proofs.Clean.{differs, key-parts, IsClean, line-clean}
use Rattle.written_core.proofs.Scan.{line-scan}

-- ---- a document begins with no byte order mark, and no line is a marker

-- a byte with which no line begins that is a marker, and no byte order mark
abbrev IsHarmless : ℕ → Type 0
IsHarmless a = ((a == 45) ≡ false) × (((a == 46) ≡ false) × ((a == 239) ≡ false))

harmless-start : (a : ℕ) (bs : List ℕ) → (a == 45) ≡ false → is_start (a ∷ bs) ≡ false
harmless-start a [] h = refl
harmless-start a (b ∷ []) h = refl
harmless-start a (b ∷ c ∷ cs) h = rw h refl

harmless-marker : (a : ℕ) (bs : List ℕ) → (a == 45) ≡ false → (a == 46) ≡ false → is_marker (a ∷ bs) ≡ false
harmless-marker a [] h g = refl
harmless-marker a (b ∷ []) h g = refl
harmless-marker a (b ∷ c ∷ cs) h g = rw (h, g) refl

harmless-kept : (first : Bool) (a : ℕ) (bs : List ℕ) → (a == 45) ≡ false → (a == 46) ≡ false → kept first (a ∷ bs) ≡ Some true
harmless-kept true a bs h g = rw (harmless-start a bs h, harmless-marker a bs h g) refl
harmless-kept false a bs h g = rw (harmless-marker a bs h g) refl

no-mark : (a : ℕ) (bs : List ℕ) → (a == 239) ≡ false → has_mark (a ∷ bs) ≡ false
no-mark a [] h = refl
no-mark a (b ∷ []) h = refl
no-mark a (b ∷ c ∷ cs) h = rw h refl

not-true : (t : Bool) → not t ≡ true → t ≡ false
not-true true h = absurd (cc)
not-true false h = refl

key-harmless : (b : ℕ) (bs : List ℕ) → is_key (b ∷ bs) ≡ true → IsHarmless b
key-harmless b bs h =
    let (p, q) = key-parts b bs h in
    (not-true (b == 45) p.1, (differs is_name b 46 p.0 refl, differs is_name b 239 p.0 refl))

dash-space : (first : Bool) (bs : List ℕ) → kept first (45 ∷ 32 ∷ bs) ≡ Some true
dash-space true [] = refl
dash-space false [] = refl
dash-space true (b ∷ bs) = refl
dash-space false (b ∷ bs) = refl

dash-kept : (first : Bool) (v : Value) → kept first (45 ∷ value_text v) ≡ Some true
dash-kept true Blank = refl
dash-kept false Blank = refl
dash-kept first (One s) = dash-space first (scalar_text s)
dash-kept first (Flow ss) = dash-space first (flow_text ss)
dash-kept first (Named name) = dash-space first (38 ∷ name)
dash-kept first (Same name) = dash-space first (42 ∷ name)

body-kept : (first : Bool) (start : Start) (v : Value) → IsGoodStart start → kept first (body_text start v) ≡ Some true
body-kept first Item v h = dash-kept first v
body-kept first (Key []) v h = absurd (cc)
body-kept first (Key (b ∷ bs)) v h = let (dash, (point, mark)) = key-harmless b bs h in harmless-kept first b (bs ++ 58 ∷ value_text v) dash point
body-kept first (ItemKey key) v h = dash-space first (key_text key v)

line-kept : (first : Bool) (l : DocLine) → IsGoodLine l → kept first (line_text l) ≡ Some true
line-kept first l h = by_indent l.indent
  where
    by_indent : (c : ℕ) → kept first (spaces c ++ body_text l.start l.value) ≡ Some true
    by_indent zero = body-kept first l.start l.value h.0
    by_indent (suc c) = harmless-kept first 32 (spaces c ++ body_text l.start l.value) refl refl

body-no_mark : (start : Start) (v : Value) (rest : List ℕ) → IsGoodStart start → has_mark (body_text start v ++ rest) ≡ false
body-no_mark Item v rest h = no-mark 45 (value_text v ++ rest) refl
body-no_mark (Key []) v rest h = absurd (cc)
body-no_mark (Key (b ∷ bs)) v rest h = let (dash, (point, mark)) = key-harmless b bs h in no-mark b ((bs ++ 58 ∷ value_text v) ++ rest) mark
body-no_mark (ItemKey key) v rest h = no-mark 45 ((32 ∷ key_text key v) ++ rest) refl

document-no_mark : (ls : List DocLine) → AreGoodLines ls → has_mark (document_text ls) ≡ false
document-no_mark [] h = refl
document-no_mark (l ∷ ls) h = by_indent l.indent
  where
    by_indent : (c : ℕ) → has_mark ((spaces c ++ body_text l.start l.value) ++ 10 ∷ document_text ls) ≡ false
    by_indent zero = body-no_mark l.start l.value (10 ∷ document_text ls) h.0.0
    by_indent (suc c) = no-mark 32 ((spaces c ++ body_text l.start l.value) ++ 10 ∷ document_text ls) refl

-- ---- the text's lines

clean-other : (c b : ℕ) → is_refused c ≡ true → IsClean b → (b == c) ≡ false
clean-other c b refused h = by_test (b == c) refl
  where
    by_test : (t : Bool) → (b == c) ≡ t → (b == c) ≡ false
    by_test false e = e
    by_test true e = let same : b ≡ c = grind (arith, nat_tests) in absurd (contrary (sym refused ∙ ap is_refused (sym same) ∙ h))
      where
        contrary : true ≡ false → ⊥
        contrary e = cc

clean-unstripped : (bs : List ℕ) → All IsClean bs → strip_carriage_return bs ≡ bs
clean-unstripped bs h = rw last refl
  where
    at_place : (i : ℕ) → (slice_index bs i == 13) ≡ false
    at_place i = elim (cases_lt i (length bs)) [
      | inl within ↦ clean-other 13 (slice_index bs i) refl (All-get_or IsClean bs i 0 within h)
      | inr past ↦ rw (get_or_past bs i 0 past) refl
    ]

    last : (slice_index bs (length bs - 1) == 13) ≡ false
    last = at_place (length bs - 1)

document-parts : (ls : List DocLine) → AreGoodLines ls → slice_split (λ b. b == 10) (document_text ls) ≡ map line_text ls ++ [] ∷ []
document-parts [] h = refl
document-parts (l ∷ ls) h =
    slice_split_at (λ b. b == 10) (line_text l) 10 (document_text ls) (All-weaker IsClean (λ b. (b == 10) ≡ false) (λ b c. clean-other 10 b refl c) (line_text l) (line-clean l h.0)) refl
    ∙ ap (λ (parts : List (List ℕ)). line_text l ∷ parts) (document-parts ls h.1)

parts-lines : (ls : List DocLine) → AreGoodLines ls → lines_of_parts (map line_text ls ++ [] ∷ []) ≡ map line_text ls
parts-lines [] h = refl
parts-lines (l ∷ []) h = ap (λ (x : List ℕ). x ∷ []) (clean-unstripped (line_text l) (line-clean l h.0))
parts-lines (l ∷ m ∷ ls) h = (λ i. clean-unstripped (line_text l) (line-clean l h.0) i ∷ parts-lines (m ∷ ls) h.1 i)

pub document-lines : (ls : List DocLine) → AreGoodLines ls → lines (document_text ls) ≡ map line_text ls
document-lines ls h = ap lines_of_parts (document-parts ls h) ∙ parts-lines ls h

-- ---- the tokens of each line

pub line-tokens : (l : DocLine) → IsGoodLine l → line_tokens 0 (line_text l) ≡ Some (tokens_in l, 0)
line-tokens l h = rw (list_any_none is_refused (line_text l) (line-clean l h)) (line-scan l h)

-- a written line has tokens, so it stays
put-tokens : (first : Bool) (c : ℕ) (start : Start) (v : Value) (text : List ℕ) (more : Bool → Option (List Line)) → kept first text ≡ Some true
    → put_line first text (body_tokens c start v) more ≡ option_map (λ ls. body_tokens c start v ∷ ls) (more false)
put-tokens first c Item v text more h = rw h refl
put-tokens first c (Key key) v text more h = rw h refl
put-tokens first c (ItemKey key) v text more h = rw h refl

all-tokens : (first : Bool) (ls : List DocLine) → AreGoodLines ls → lines_tokens first 0 (map line_text ls) ≡ Some (map tokens_in ls)
all-tokens first [] h = refl
all-tokens first (l ∷ ls) h =
    ap (option_and_then (λ (p : Line × ℕ). put_line first (line_text l) p.0 (λ f. lines_tokens f p.1 (map line_text ls)))) (line-tokens l h.0)
    ∙ put-tokens first l.indent l.start l.value (line_text l) (λ f. lines_tokens f 0 (map line_text ls)) (line-kept first l h.0)
    ∙ ap (option_map (λ (more : List Line). tokens_in l ∷ more)) (all-tokens false ls h.1)

pub document-tokens : (ls : List DocLine) → AreGoodLines ls → text_tokens (document_text ls) ≡ Some (map tokens_in ls)
document-tokens ls h = rw (document-no_mark ls h) (ap (lines_tokens true 0) (document-lines ls h) ∙ all-tokens true ls h)
