-- The text of a problem is the text by its parts.
use Rattle.std.proofs.Common.{◌≡◌, ℕ, List, [], ◌∷◌, ◌++◌, codes, refl, sym, ap, ◌∙◌, append_assoc, append-nil}
use Rattle.fixed_core.specs.Spelling.{spelling}
use Rattle.yaml_tokens.specs.Written.{quoted_text}
use Rattle.written_core.specs.Document.{Value, Blank, One, Word, Key, DocLine, line, document_text}
use Rattle.written_core.specs.Outline.{behind, outline_lines}
use Rattle.problem_core.specs.Problem.{ProblemValue}
use Rattle.problem_core.specs.declared.criterion.Bounds.{Bounds}
use Rattle.problem_core.specs.declared.criterion.Criterion.{Criterion}
use Rattle.problem_core.specs.declared.criterion.Scale.{Scale}
use Rattle.problem_core.specs.declared.criterion.Scale.TheVariants.{Rising, Falling, Named}
use Rattle.written_core.specs.Parts.{row}
use Rattle.written_core.proofs.FlowTexts.{document_text-append}
use Rattle.problem_text_core.specs.ProblemText.{type_word, numbers_outline, scale_outline, criteria_outline, categories_outline, problem_text}
use Rattle.problem_text_core.specs.Parts.{key_row, bounds_text, numbers_text, flow_names, scale_text, criteria_text, categories_text, text_by_parts}

-- ---- rows

-- a row with a key and a value, and what follows it
abbrev open_row : List ℕ → List ℕ → List ℕ → List ℕ
open_row key value more = key ++ row value more

row-then : (key value more : List ℕ) → key_row key value ++ more ≡ open_row key value more
row-then key value more = append_assoc key (row value []) more ∙ ap (λ (t : List ℕ). key ++ t) (append_assoc value (10 ∷ []) more)

-- one more row in front
rows-then : (key value rows more all : List ℕ) → rows ++ more ≡ all → (key_row key value ++ rows) ++ more ≡ open_row key value all
rows-then key value rows more all e = append_assoc (key_row key value) rows more ∙ row-then key value (rows ++ more) ∙ ap (open_row key value) e

-- ---- scales

numbers-parts : (direction : List ℕ) (b : Bounds) (ms : List DocLine) → document_text (outline_lines 4 (numbers_outline direction b) ++ ms) ≡ numbers_text direction b ++ document_text ms
numbers-parts direction b ms =
    let more = document_text ms in
    let least = spelling b.least in
    let most = spelling b.most in
    let last : bounds_text b ++ more ≡ open_row (codes "    min_value: ") least (open_row (codes "    max_value: ") most more) =
    rows-then (codes "    min_value: ") least (key_row (codes "    max_value: ") most) more (open_row (codes "    max_value: ") most more) (row-then (codes "    max_value: ") most more) in
    sym (rows-then (codes "    value_type: ") (type_word b.whole) (key_row (codes "    preference_direction: ") direction ++ bounds_text b) more
    (open_row (codes "    preference_direction: ") direction (open_row (codes "    min_value: ") least (open_row (codes "    max_value: ") most more)))
    (rows-then (codes "    preference_direction: ") direction (bounds_text b) more (open_row (codes "    min_value: ") least (open_row (codes "    max_value: ") most more)) last))

scale-parts : (s : Scale) (ms : List DocLine) → document_text (outline_lines 4 (scale_outline s) ++ ms) ≡ scale_text s ++ document_text ms
scale-parts (Rising b) ms = numbers-parts (codes "increasing") b ms
scale-parts (Falling b) ms = numbers-parts (codes "decreasing") b ms
scale-parts (Named names) ms = ap (λ (t : List ℕ). row (codes "    value_type: enumerated") t) (sym (row-then (codes "    ordered_values: ") (flow_names names) (document_text ms)))

-- ---- criteria and categories

criteria-parts : (cs : List Criterion) → document_text (outline_lines 2 (criteria_outline cs)) ≡ criteria_text cs
criteria-parts [] = refl
criteria-parts (c ∷ cs) =
    let name = quoted_text c.name in
    let more = outline_lines 2 (criteria_outline cs) in
    ap (λ (t : List ℕ). open_row (codes "  - name: ") name t) (scale-parts c.scale more ∙ ap (λ (t : List ℕ). scale_text c.scale ++ t) (criteria-parts cs))
    ∙ sym (rows-then (codes "  - name: ") name (scale_text c.scale) (criteria_text cs) (scale_text c.scale ++ criteria_text cs) refl)

categories-parts : (names : List (List ℕ)) → document_text (outline_lines 2 (categories_outline names)) ≡ categories_text names
categories-parts [] = refl
categories-parts (n ∷ ns) =
    ap (λ (t : List ℕ). open_row (codes "  - name: ") (quoted_text n) t) (categories-parts ns) ∙ sym (row-then (codes "  - name: ") (quoted_text n) (categories_text ns))

-- ---- the whole

criteria-behind : (cs : List Criterion) → behind (criteria_outline cs) ≡ Blank
criteria-behind [] = refl
criteria-behind (c ∷ cs) = refl

categories-behind : (names : List (List ℕ)) → behind (categories_outline names) ≡ Blank
categories-behind [] = refl
categories-behind (n ∷ ns) = refl

-- all lines, from what follows the two keys on their lines, and the lines below them
abbrev all_lines : Value → Value → List DocLine → List DocLine → List DocLine
all_lines v w ls ms =
    line 0 (Key (codes "kind")) (One (Word (codes "classification-problem"))) ∷ line 0 (Key (codes "format_version")) (One (Word (codes "1"))) ∷ line 0 (Key (codes "criteria")) v
    ∷ (ls ++ line 0 (Key (codes "ordered_categories")) w ∷ (ms ++ []))

abbrev with_head : List ℕ → List ℕ
with_head more = row (codes "kind: classification-problem") (row (codes "format_version: 1") (row (codes "criteria:") more))

lists-parts : (ls ms : List DocLine) → document_text (all_lines Blank Blank ls ms) ≡ with_head (document_text ls ++ row (codes "ordered_categories:") (document_text ms))
lists-parts ls ms =
    ap (λ (xs : List DocLine). with_head (document_text (ls ++ line 0 (Key (codes "ordered_categories")) Blank ∷ xs))) (append-nil ms)
    ∙ ap (λ (t : List ℕ). with_head t) (document_text-append ls (line 0 (Key (codes "ordered_categories")) Blank ∷ ms))

pub problem_text-parts : (p : ProblemValue) → problem_text p ≡ text_by_parts p
problem_text-parts p =
    let ls = outline_lines 2 (criteria_outline p.criteria) in
    let ms = outline_lines 2 (categories_outline p.categories) in
    (λ i. document_text (all_lines (criteria-behind p.criteria i) (categories-behind p.categories i) ls ms))
    ∙ lists-parts ls ms
    ∙ (λ i. with_head (criteria-parts p.criteria i ++ row (codes "ordered_categories:") (categories-parts p.categories i)))
