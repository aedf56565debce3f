-- A problem's outline may be written, and its text reads back.
use Rattle.std.proofs.Common.{◌≡◌, ℕ, Bool, true, false, List, [], ◌∷◌, map, codes, refl}
use Rattle.std.specs.Prelude.{All}
use Rattle.std.specs.Str.{IsUtf8}
use Rattle.std.proofs.lemmas.List.Elements.{All-head, All-tail}
use Rattle.written_core.specs.Document.{Text, AreGoodScalars, AreUtf8Scalars, is_word}
use Rattle.written_core.specs.Outline.{are_entries, IsOutline, IsUtf8Outline}
use Rattle.written_core.proofs.Utf8.{outline-reads-back}
use Rattle.problem_core.specs.Problem.{ProblemValue, IsProblem}
use Rattle.problem_core.specs.declared.criterion.Bounds.{Bounds}
use Rattle.problem_core.specs.declared.criterion.Criterion.{Criterion}
use Rattle.problem_core.specs.declared.criterion.Scale.{Scale}
use Rattle.problem_core.specs.declared.criterion.Scale.TheVariants.{Rising, Falling, Named}
use Rattle.written_core.proofs.Words.{spelling-word}
use Rattle.problem_text_core.specs.ProblemText.{type_word, numbers_outline, scale_outline, criteria_outline, categories_outline, problem_outline, AreNumbers, IsKeptScale, IsKeptCriterion, IsKept, ReadsBack}
use Rattle.problem_text_core.proofs.Lengths.{problem-short}
use Rattle.problem_text_core.proofs.Meaning.{criteria-items, categories-items, problem_measured, problem-outlined}
use Rattle.problem_text_core.proofs.ProblemReads.{problem-read}
use Rattle.problem_text_core.proofs.Sizes.{problem-few}

-- ---- it may be written

type-good : (whole : Bool) → is_word (type_word whole) ≡ true
type-good true = refl
type-good false = refl

numbers-good : (direction : List ℕ) (b : Bounds) → is_word direction ≡ true → AreNumbers b → IsOutline (numbers_outline direction b)
numbers-good direction b word small =
    let least = (spelling-word b.least small.0).word in
    let most = (spelling-word b.most small.1).word in
    ((refl, refl), (type-good b.whole, ((refl, refl), (word, ((refl, refl), (least, ((refl, refl), (most, tt))))))))

names-good : (names : List (List ℕ)) → AreGoodScalars (map Text names)
names-good [] = tt
names-good (n ∷ ns) = (tt, names-good ns)

scale-good : (s : Scale) → IsKeptScale s → IsOutline (scale_outline s)
scale-good (Rising b) kept = numbers-good (codes "increasing") b refl kept
scale-good (Falling b) kept = numbers-good (codes "decreasing") b refl kept
scale-good (Named names) kept = ((refl, refl), (refl, ((refl, refl), (names-good names, tt))))

scale-entries : (s : Scale) → are_entries (scale_outline s) ≡ true
scale-entries (Rising b) = refl
scale-entries (Falling b) = refl
scale-entries (Named names) = refl

criteria-good : (cs : List Criterion) → All IsKeptCriterion cs → IsOutline (criteria_outline cs)
criteria-good [] kept = tt
criteria-good (c ∷ cs) kept =
    (criteria-items cs, (((refl, scale-entries c.scale), (tt, scale-good c.scale (All-head IsKeptCriterion c cs kept).1)), criteria-good cs (All-tail IsKeptCriterion c cs kept)))

categories-good : (names : List (List ℕ)) → IsOutline (categories_outline names)
categories-good [] = tt
categories-good (n ∷ ns) = (categories-items ns, (((refl, refl), (tt, tt)), categories-good ns))

problem-good : (p : ProblemValue) → IsKept p → IsOutline (problem_outline p)
problem-good p kept =
    ((refl, refl), (refl, ((refl, refl), (refl, ((refl, refl), (criteria-good p.criteria kept.criteria, ((refl, refl), (categories-good p.categories, tt))))))))

-- ---- its texts are UTF-8

names-utf8 : (names : List (List ℕ)) → All IsUtf8 names → AreUtf8Scalars (map Text names)
names-utf8 [] all = tt
names-utf8 (n ∷ ns) all = (All-head IsUtf8 n ns all, names-utf8 ns (All-tail IsUtf8 n ns all))

scale-utf8 : (s : Scale) → IsKeptScale s → IsUtf8Outline (scale_outline s)
scale-utf8 (Rising b) kept = (tt, (tt, (tt, (tt, tt))))
scale-utf8 (Falling b) kept = (tt, (tt, (tt, (tt, tt))))
scale-utf8 (Named names) kept = (tt, (names-utf8 names kept.1, tt))

criteria-utf8 : (cs : List Criterion) → All IsKeptCriterion cs → IsUtf8Outline (criteria_outline cs)
criteria-utf8 [] kept = tt
criteria-utf8 (c ∷ cs) kept =
    let first = All-head IsKeptCriterion c cs kept in
    ((first.0, scale-utf8 c.scale first.1), criteria-utf8 cs (All-tail IsKeptCriterion c cs kept))

categories-utf8 : (names : List (List ℕ)) → All IsUtf8 names → IsUtf8Outline (categories_outline names)
categories-utf8 [] all = tt
categories-utf8 (n ∷ ns) all = ((All-head IsUtf8 n ns all, tt), categories-utf8 ns (All-tail IsUtf8 n ns all))

problem-utf8 : (p : ProblemValue) → IsKept p → IsUtf8Outline (problem_outline p)
problem-utf8 p kept = (tt, (tt, (criteria-utf8 p.criteria kept.criteria, (categories-utf8 p.categories kept.categories.1, tt))))

-- ---- read back

pub problem-reads-back : (p : ProblemValue) → IsProblem p → IsKept p → ReadsBack p
problem-reads-back p whole kept =
    let o = problem_outline p in
    let tree = (problem_measured p).node in
    let few = problem-few p whole in
    record {
      short = problem-short p whole kept;
      tree = tree;
      few = few;
      of_bytes = outline-reads-back o (problem_measured p) (problem-good p kept) (problem-utf8 p kept) (problem-outlined p whole) few;
      of_tree = problem-read p whole kept;
    }
