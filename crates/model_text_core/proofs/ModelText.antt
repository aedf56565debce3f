-- A model's outline may be written, and its text reads back.
use Rattle.std.proofs.Common.{◌≡◌, ℕ, zero, suc, ◌+◌, ◌/◌, ◌%◌, ◌≤◌, Bool, true, false, ℤ, List, [], ◌∷◌, length, map, codes, refl, ap, ◌∙◌, arith, Option, None, Some}
use Rattle.std.specs.Prelude.{◌==◌, unsigned_abs, option_map, All, if◌then◌else◌}
use Rattle.std.specs.List.{AllZip, list_all}
use Rattle.std.specs.Str.{IsUtf8}
use Rattle.std.proofs.lemmas.List.Elements.{All-head, All-tail}
use Rattle.std.proofs.lemmas.Str.{IsUtf8-nil}
use Rattle.yaml_core.specs.Measured.{Measured}
use Rattle.problem_core.specs.Grade.{name_in}
use Rattle.problem_core.specs.Problem.{ProblemValue, IsProblem}
use Rattle.problem_core.specs.declared.criterion.Criterion.{Criterion}
use Rattle.problem_core.specs.declared.criterion.Scale.{Scale}
use Rattle.problem_core.specs.declared.criterion.Scale.TheVariants.{Rising, Falling, Named}
use Rattle.written_core.specs.Document.{IsGoodScalar, AreGoodScalars, AreUtf8Scalars}
use Rattle.written_core.specs.Outline.{Dashed, Anchored, are_items, IsOutline, IsUtf8Outline}
use Rattle.written_core.proofs.Outlines.{outline-read}
use Rattle.written_core.proofs.Utf8.{outline-reads-back}
use Rattle.model_core.specs.Model.{IsThreshold, IsWeight, AreCoalitions, Belongs}
use Rattle.model_core.specs.declared.model.Coalitions.{Coalitions}
use Rattle.model_core.specs.declared.model.Coalitions.TheVariants.{Weights, Roots}
use Rattle.model_core.specs.declared.model.Profile.{Profile}
use Rattle.model_core.specs.Model.{ModelValue}
use Rattle.written_core.proofs.Words.{decimal-word, spelling-word}
use Rattle.written_core.proofs.Lists.{listed-good, listed-utf8}
use Rattle.model_text_core.specs.ModelText.{threshold_scalar, weight_scalar, are_same, accepted_outline, places_in, place_word, roots_outline, coalition_outline, each_outline, same_outline, coalitions_outline, model_outline, HasUtf8Names, ReadsBack}
use Rattle.model_text_core.proofs.Meaning.{model_measured, model-outlined, accepted-items, roots-items}
use Rattle.model_text_core.proofs.Grades.{written-threshold}
use Rattle.model_text_core.proofs.ModelReads.{model-read}

-- ---- it may be written

grades-good : (scale : Scale) (ts : List (Option ℤ)) → All (IsThreshold scale) ts → AreGoodScalars (map (threshold_scalar scale) ts)
grades-good scale [] all = tt
grades-good scale (t ∷ ts) all = ((written-threshold scale t (All-head (IsThreshold scale) t ts all)).good, grades-good scale ts (All-tail (IsThreshold scale) t ts all))

accepted-good : (criteria : List Criterion) (rows : List Profile) → AllZip (λ criterion row. All (IsThreshold criterion.scale) row.thresholds) criteria rows → IsOutline (accepted_outline criteria rows)
accepted-good [] rows h = tt
accepted-good (criterion ∷ criteria) [] h = absurd h
accepted-good (criterion ∷ criteria) (row ∷ rows) h =
    (accepted-items criteria rows, (((refl, refl), (refl, ((refl, refl), (grades-good criterion.scale row.thresholds h.0, tt)))), accepted-good criteria rows h.1))

places-good : (n i set : ℕ) → i + n ≤ 32 → AreGoodScalars (map place_word (places_in n i set))
places-good zero i set h = tt
places-good (suc n) i set h = by_test (set % 2 == 1) (decimal-word i (omega (arith, h))).word (places-good n (i + 1) (set / 2) (omega (arith, h)))
  where
    by_test : (t : Bool) → IsGoodScalar (place_word i) → AreGoodScalars (map place_word (places_in n (i + 1) (set / 2)))
        → AreGoodScalars (map place_word (if t then i ∷ places_in n (i + 1) (set / 2) else places_in n (i + 1) (set / 2)))
    by_test true first more = (first, more)
    by_test false first more = more

roots-good : (count : ℕ) (roots : List ℕ) → count ≤ 32 → IsOutline (roots_outline count roots)
roots-good count [] few = tt
roots-good count (root ∷ roots) few = (roots-items count roots, (places-good count 0 root (omega (arith, few)), roots-good count roots few))

weights-good : (ws : List ℤ) → All IsWeight ws → AreGoodScalars (map weight_scalar ws)
weights-good [] all = tt
weights-good (w ∷ ws) all = ((spelling-word w (All-head IsWeight w ws all).1).word, weights-good ws (All-tail IsWeight w ws all))

coalition-good : (count : ℕ) (c : Coalitions) → count ≤ 32 → AreCoalitions count c → IsOutline (coalition_outline count c)
coalition-good count (Weights ws) few all = ((refl, refl), (refl, ((refl, refl), (weights-good ws all.1, tt))))
coalition-good count (Roots roots) few all = ((refl, refl), (refl, ((refl, refl), (listed-good (roots_outline count roots) (roots-good count roots few), tt))))

each-items : (count : ℕ) (rows : List Coalitions) → are_items (each_outline count rows) ≡ true
each-items count [] = refl
each-items count (roots ∷ rows) = refl

each-good : (count : ℕ) (rows : List Coalitions) → count ≤ 32 → All (AreCoalitions count) rows → IsOutline (each_outline count rows)
each-good count [] few all = tt
each-good count (roots ∷ rows) few all = (each-items count rows, (coalition-good count roots few (All-head (AreCoalitions count) roots rows all), each-good count rows few (All-tail (AreCoalitions count) roots rows all)))

same-items : (rows : List Coalitions) → are_items (same_outline rows) ≡ true
same-items [] = refl
same-items (roots ∷ rows) = refl

same-good : (rows : List Coalitions) → IsOutline (same_outline rows)
same-good [] = tt
same-good (roots ∷ rows) = (same-items rows, (refl, same-good rows))

coalitions-good : (count : ℕ) (rows : List Coalitions) → count ≤ 32 → All (AreCoalitions count) rows → IsOutline (coalitions_outline count rows)
coalitions-good count [] few all = tt
coalitions-good count (roots ∷ rows) few all = by_test (list_all (are_same roots) rows)
  where
    by_test : (t : Bool) → IsOutline (if t then Dashed (Anchored (codes "coalitions") (coalition_outline count roots)) (same_outline rows) else each_outline count (roots ∷ rows))
    by_test true = (same-items rows, ((refl, coalition-good count roots few (All-head (AreCoalitions count) roots rows all)), same-good rows))
    by_test false = each-good count (roots ∷ rows) few all

pub model-good : (problem : ProblemValue) (m : ModelValue) → length problem.criteria ≤ 32 → Belongs problem m → IsOutline (model_outline problem m)
model-good problem m few b =
    let accepted = listed-good (accepted_outline problem.criteria m.profiles) (accepted-good problem.criteria m.profiles b.grades) in
    let coalitions = listed-good (coalitions_outline (length problem.criteria) m.coalitions) (coalitions-good (length problem.criteria) m.coalitions few b.coalitions) in
    ((refl, refl), (refl, ((refl, refl), (refl, ((refl, refl), (accepted, ((refl, refl), (coalitions, tt))))))))

-- ---- its texts are UTF-8

name-utf8 : (names : List (List ℕ)) (place : ℕ) → All IsUtf8 names → IsUtf8 (name_in names place)
name-utf8 [] place h = IsUtf8-nil
name-utf8 (name ∷ names) zero h = All-head IsUtf8 name names h
name-utf8 (name ∷ names) (suc place) h = name-utf8 names place (All-tail IsUtf8 name names h)

grades-utf8 : (scale : Scale) (ts : List (Option ℤ)) → HasUtf8Names scale → AreUtf8Scalars (map (threshold_scalar scale) ts)
grades-utf8 scale [] h = tt
grades-utf8 (Rising bounds) (None ∷ ts) h = (tt, grades-utf8 (Rising bounds) ts h)
grades-utf8 (Falling bounds) (None ∷ ts) h = (tt, grades-utf8 (Falling bounds) ts h)
grades-utf8 (Named names) (None ∷ ts) h = (tt, grades-utf8 (Named names) ts h)
grades-utf8 (Rising bounds) (Some t ∷ ts) h = (tt, grades-utf8 (Rising bounds) ts h)
grades-utf8 (Falling bounds) (Some t ∷ ts) h = (tt, grades-utf8 (Falling bounds) ts h)
grades-utf8 (Named names) (Some t ∷ ts) h = (name-utf8 names (unsigned_abs t) h, grades-utf8 (Named names) ts h)

accepted-utf8 : (criteria : List Criterion) (rows : List Profile) → All (λ criterion. HasUtf8Names criterion.scale) criteria → IsUtf8Outline (accepted_outline criteria rows)
accepted-utf8 [] rows h = tt
accepted-utf8 (criterion ∷ criteria) [] h = tt
accepted-utf8 (criterion ∷ criteria) (row ∷ rows) h =
    ((tt, (grades-utf8 criterion.scale row.thresholds (All-head (λ c. HasUtf8Names c.scale) criterion criteria h), tt)), accepted-utf8 criteria rows (All-tail (λ c. HasUtf8Names c.scale) criterion criteria h))

words-utf8 : (is : List ℕ) → AreUtf8Scalars (map place_word is)
words-utf8 [] = tt
words-utf8 (i ∷ is) = (tt, words-utf8 is)

roots-utf8 : (count : ℕ) (roots : List ℕ) → IsUtf8Outline (roots_outline count roots)
roots-utf8 count [] = tt
roots-utf8 count (root ∷ roots) = (words-utf8 (places_in count 0 root), roots-utf8 count roots)

weights-utf8 : (ws : List ℤ) → AreUtf8Scalars (map weight_scalar ws)
weights-utf8 [] = tt
weights-utf8 (w ∷ ws) = (tt, weights-utf8 ws)

coalition-utf8 : (count : ℕ) (c : Coalitions) → IsUtf8Outline (coalition_outline count c)
coalition-utf8 count (Weights ws) = (tt, (weights-utf8 ws, tt))
coalition-utf8 count (Roots roots) = (tt, (listed-utf8 (roots_outline count roots) (roots-utf8 count roots), tt))

each-utf8 : (count : ℕ) (rows : List Coalitions) → IsUtf8Outline (each_outline count rows)
each-utf8 count [] = tt
each-utf8 count (roots ∷ rows) = (coalition-utf8 count roots, each-utf8 count rows)

same-utf8 : (rows : List Coalitions) → IsUtf8Outline (same_outline rows)
same-utf8 [] = tt
same-utf8 (roots ∷ rows) = (tt, same-utf8 rows)

coalitions-utf8 : (count : ℕ) (rows : List Coalitions) → IsUtf8Outline (coalitions_outline count rows)
coalitions-utf8 count [] = tt
coalitions-utf8 count (roots ∷ rows) = by_test (list_all (are_same roots) rows)
  where
    by_test : (t : Bool) → IsUtf8Outline (if t then Dashed (Anchored (codes "coalitions") (coalition_outline count roots)) (same_outline rows) else each_outline count (roots ∷ rows))
    by_test true = (coalition-utf8 count roots, same-utf8 rows)
    by_test false = each-utf8 count (roots ∷ rows)

model-utf8 : (problem : ProblemValue) (m : ModelValue) → All (λ criterion. HasUtf8Names criterion.scale) problem.criteria → IsUtf8Outline (model_outline problem m)
model-utf8 problem m h = (
  tt,
  (
    tt,
    (
      listed-utf8 (accepted_outline problem.criteria m.profiles) (accepted-utf8 problem.criteria m.profiles h),
      (listed-utf8 (coalitions_outline (length problem.criteria) m.coalitions) (coalitions-utf8 (length problem.criteria) m.coalitions), tt),
    ),
  ),
)

-- ---- read back

pub reads-back : (problem : ProblemValue) (m : ModelValue) → length problem.criteria ≤ 32 → All (λ criterion. HasUtf8Names criterion.scale) problem.criteria → Belongs problem m → ReadsBack problem m
reads-back problem m few names b =
    let o = model_outline problem m in
    let good = model-good problem m few b in
    let tree = (model_measured problem m).node in
    let measured = model-outlined problem m in
    record {
      tree = tree;
      of_text = ap (λ (r : Option Measured). option_map (λ x. x.node) r) (outline-read o good ∙ measured);
      of_bytes = λ h. outline-reads-back o (model_measured problem m) good (model-utf8 problem m names) measured h;
      model = model-read problem m few b;
    }

pub problem-reads-back : (problem : ProblemValue) (m : ModelValue) → IsProblem problem → All (λ criterion. HasUtf8Names criterion.scale) problem.criteria → Belongs problem m → ReadsBack problem m
problem-reads-back problem m p names b = let few = p.few_criteria in reads-back problem m (omega (arith, few)) names b
