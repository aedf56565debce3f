-- The text of a model is the text by its parts.
use Rattle.std.proofs.Common.{◌≡◌, ℕ, ◌<◌, Bool, true, false, List, [], ◌∷◌, ◌++◌, length, map, codes, refl, sym, ap, ◌∙◌, arith, append_assoc, append-nil}
use Rattle.std.specs.Prelude.{if◌then◌else◌}
use Rattle.std.specs.List.{list_all}
use Rattle.problem_core.specs.Problem.{ProblemValue, IsProblem}
use Rattle.model_core.specs.Model.{Belongs}
use Rattle.problem_core.specs.declared.criterion.Criterion.{Criterion}
use Rattle.written_core.specs.Document.{Blank, Key, DocLine, line, flow_text, document_text}
use Rattle.written_core.specs.Outline.{Outline, End, Under, Dashed, Anchored, outline_lines, word, listed}
use Rattle.model_core.specs.declared.model.Coalitions.{Coalitions}
use Rattle.model_core.specs.declared.model.Coalitions.TheVariants.{Weights, Roots}
use Rattle.model_core.specs.declared.model.Profile.{Profile}
use Rattle.model_core.specs.Model.{ModelValue}
use Rattle.written_core.specs.Parts.{row}
use Rattle.written_core.proofs.FlowTexts.{document_text-append}
use Rattle.model_text_core.specs.ModelText.{threshold_scalar, weight_scalar, are_same, thresholds_outline, accepted_outline, root_scalars, roots_outline, coalition_outline, each_outline, same_outline, coalitions_outline, model_text}
use Rattle.model_text_core.specs.Parts.{accepted_text, roots_text, upset_text, coalition_text, each_text, same_text, anchored_text, coalitions_text, text_by_parts}

-- a row, and more behind what follows it
row-more : (text more behind : List ℕ) → row text more ++ behind ≡ row text (more ++ behind)
row-more text more behind = append_assoc text (10 ∷ more) behind

accepted-parts : (criteria : List Criterion) (rows : List Profile) → document_text (outline_lines 2 (accepted_outline criteria rows)) ≡ accepted_text criteria rows
accepted-parts [] rows = refl
accepted-parts (criterion ∷ criteria) [] = refl
accepted-parts (criterion ∷ criteria) (p ∷ rows) =
    let flow = flow_text (map (threshold_scalar criterion.scale) p.thresholds) in
    ap (λ (t : List ℕ). row (codes "  - kind: thresholds") (codes "    thresholds: " ++ row flow t)) (accepted-parts criteria rows)
    ∙ ap (λ (t : List ℕ). row (codes "  - kind: thresholds") (codes "    thresholds: " ++ t)) (sym (row-more flow [] (accepted_text criteria rows)))

roots-parts : (count : ℕ) (roots : List ℕ) → document_text (outline_lines 6 (roots_outline count roots)) ≡ roots_text count roots
roots-parts count [] = refl
roots-parts count (root ∷ roots) =
    let flow = flow_text (root_scalars count root) in
    ap (λ (t : List ℕ). codes "      - " ++ row flow t) (roots-parts count roots)
    ∙ ap (λ (t : List ℕ). codes "      - " ++ t) (sym (row-more flow [] (roots_text count roots)))

-- the line with the key of the roots, their lines, and what follows them
upset-parts : (count : ℕ) (roots : List ℕ) (ms : List DocLine)
    → document_text (outline_lines 4 (Under (codes "upset_roots") (listed (roots_outline count roots)) End) ++ ms) ≡ upset_text count roots ++ document_text ms
upset-parts count [] ms = refl
upset-parts count (root ∷ roots) ms =
    let own = outline_lines 6 (roots_outline count (root ∷ roots)) in
    ap (λ (ls : List DocLine). row (codes "    upset_roots:") (document_text (ls ++ ms))) (append-nil own)
    ∙ ap (λ (t : List ℕ). row (codes "    upset_roots:") t) (document_text-append own ms ∙ ap (λ (t : List ℕ). t ++ document_text ms) (roots-parts count (root ∷ roots)))

-- the rows of coalitions behind a dash or an anchor's row, and what follows them
dashed-parts : (count : ℕ) (c : Coalitions) (rest : Outline)
    → document_text (outline_lines 2 (Dashed (coalition_outline count c) rest)) ≡ codes "  - " ++ (coalition_text count c ++ document_text (outline_lines 2 rest))
dashed-parts count (Weights ws) rest =
    ap (λ (t : List ℕ). row (codes "  - kind: weights") (codes "    criterion_weights: " ++ t)) (sym (row-more (flow_text (map weight_scalar ws)) [] (document_text (outline_lines 2 rest))))
dashed-parts count (Roots rs) rest = ap (λ (t : List ℕ). row (codes "  - kind: roots") t) (upset-parts count rs (outline_lines 2 rest))

anchored-parts : (count : ℕ) (c : Coalitions) (rest : Outline)
    → document_text (outline_lines 2 (Dashed (Anchored (codes "coalitions") (coalition_outline count c)) rest))
    ≡ row (codes "  - &coalitions") (codes "    " ++ (coalition_text count c ++ document_text (outline_lines 2 rest)))
anchored-parts count (Weights ws) rest =
    ap (λ (t : List ℕ). row (codes "  - &coalitions") (row (codes "    kind: weights") (codes "    criterion_weights: " ++ t))) (sym (row-more (flow_text (map weight_scalar ws)) [] (document_text (outline_lines 2 rest))))
anchored-parts count (Roots rs) rest = ap (λ (t : List ℕ). row (codes "  - &coalitions") (row (codes "    kind: roots") t)) (upset-parts count rs (outline_lines 2 rest))

each-parts : (count : ℕ) (rows : List Coalitions) → document_text (outline_lines 2 (each_outline count rows)) ≡ each_text count rows
each-parts count [] = refl
each-parts count (roots ∷ rows) =
    dashed-parts count roots (each_outline count rows) ∙ ap (λ (t : List ℕ). codes "  - " ++ (coalition_text count roots ++ t)) (each-parts count rows)

same-parts : (rows : List Coalitions) → document_text (outline_lines 2 (same_outline rows)) ≡ same_text rows
same-parts [] = refl
same-parts (roots ∷ rows) = ap (λ (t : List ℕ). row (codes "  - *coalitions") t) (same-parts rows)

coalitions-parts : (count : ℕ) (rows : List Coalitions) → document_text (outline_lines 2 (coalitions_outline count rows)) ≡ coalitions_text count rows
coalitions-parts count [] = refl
coalitions-parts count (roots ∷ rows) = by_test (list_all (are_same roots) rows)
  where
    by_test : (t : Bool)
        → document_text (outline_lines 2 (if t then Dashed (Anchored (codes "coalitions") (coalition_outline count roots)) (same_outline rows) else each_outline count (roots ∷ rows)))
        ≡ (if t then anchored_text count roots rows else each_text count (roots ∷ rows))
    by_test true =
        anchored-parts count roots (same_outline rows) ∙ ap (λ (t : List ℕ). row (codes "  - &coalitions") (codes "    " ++ (coalition_text count roots ++ t))) (same-parts rows)
    by_test false = each-parts count (roots ∷ rows)

-- ---- the whole

abbrev with_head : List ℕ → List ℕ
with_head more = row (codes "kind: ncs-classification-model") (row (codes "format_version: 1") (row (codes "accepted_values:") more))

abbrev whole : Outline → Outline → Outline
whole accepted coalitions =
    Under (codes "kind") (word (codes "ncs-classification-model")) (Under (codes "format_version") (word (codes "1"))
    (Under (codes "accepted_values") (listed accepted) (Under (codes "sufficient_coalitions") (listed coalitions) End)))

-- the text of the whole from the texts of its two lists
abbrev IsJoined : Outline → Outline → Type 0
IsJoined accepted coalitions =
    document_text (outline_lines 0 (whole accepted coalitions))
    ≡ with_head (document_text (outline_lines 2 accepted) ++ row (codes "sufficient_coalitions:") (document_text (outline_lines 2 coalitions)))

joined-lists : (a b c d : Outline) → IsJoined (Dashed a b) (Dashed c d)
joined-lists a b c d =
    let first = outline_lines 2 (Dashed a b) in
    let second = outline_lines 2 (Dashed c d) in
    ap (λ (ls : List DocLine). with_head (document_text (first ++ line 0 (Key (codes "sufficient_coalitions")) Blank ∷ ls))) (append-nil second)
    ∙ ap (λ (t : List ℕ). with_head t) (document_text-append first (line 0 (Key (codes "sufficient_coalitions")) Blank ∷ second))

joined-coalitions : (a b : Outline) (count : ℕ) (roots : Coalitions) (rows : List Coalitions) → IsJoined (Dashed a b) (coalitions_outline count (roots ∷ rows))
joined-coalitions a b count roots rows = by_test (list_all (are_same roots) rows)
  where
    by_test : (t : Bool) → IsJoined (Dashed a b) (if t then Dashed (Anchored (codes "coalitions") (coalition_outline count roots)) (same_outline rows) else each_outline count (roots ∷ rows))
    by_test true = joined-lists a b (Anchored (codes "coalitions") (coalition_outline count roots)) (same_outline rows)
    by_test false = joined-lists a b (coalition_outline count roots) (each_outline count rows)

abbrev with_lists : List ℕ → List ℕ → List ℕ
with_lists accepted coalitions = with_head (accepted ++ row (codes "sufficient_coalitions:") coalitions)

whole-parts : (criteria : List Criterion) (thresholds : List Profile) (roots : List Coalitions) → 0 < length criteria → length thresholds ≡ length criteria → 0 < length roots
    → document_text (outline_lines 0 (whole (accepted_outline criteria thresholds) (coalitions_outline (length criteria) roots)))
    ≡ with_lists (accepted_text criteria thresholds) (coalitions_text (length criteria) roots)
whole-parts [] thresholds roots some long more = absurd (omega arith)
whole-parts (criterion ∷ criteria) [] roots some long more = absurd (omega (arith, long))
whole-parts (criterion ∷ criteria) (ts ∷ rows) [] some long more = absurd (omega arith)
whole-parts (criterion ∷ criteria) (ts ∷ rows) (roots ∷ others) some long more =
    joined-coalitions (thresholds_outline criterion.scale ts.thresholds) (accepted_outline criteria rows) (length (criterion ∷ criteria)) roots others
    ∙ (λ i. with_lists (accepted-parts (criterion ∷ criteria) (ts ∷ rows) i) (coalitions-parts (length (criterion ∷ criteria)) (roots ∷ others) i))

-- the text of a model that belongs to its problem
pub model_text-parts : (problem : ProblemValue) (m : ModelValue) → IsProblem problem → Belongs problem m → model_text problem m ≡ text_by_parts problem m
model_text-parts problem m p b =
    let criteria = p.some_criteria in
    let categories = p.some_categories in
    whole-parts problem.criteria m.profiles m.coalitions (omega (arith, criteria)) b.criteria (omega (arith, categories, b.boundaries))
