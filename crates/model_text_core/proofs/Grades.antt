-- Thresholds as they are written read as the same grades.
use Rattle.std.proofs.Common.{◌≡◌, ℕ, zero, suc, ◌≤◌, ◌^◌, Bool, true, false, ℤ, pos, List, [], ◌∷◌, ◌++◌, length, map, get_or, codes, refl, sym, ap, ◌∙◌, arith, subst, append_assoc, append-nil, Option, Some, None, Result, Ok, Err}
use Rattle.std.specs.Prelude.{◌==◌, ◌&&◌, not, int_le, unsigned_abs, position, option_and_then, option_map, ok_or, All, if◌then◌else◌}
use Rattle.std.specs.List.{AllZip}
use Rattle.std.specs.Result.{result_ok}
use Rattle.std.specs.Str.{bytes_eq}
use Rattle.std.proofs.lemmas.Bool.Decides.{nat_tests}
use Rattle.std.proofs.lemmas.List.Elements.{All-head, All-tail}
use Rattle.std.proofs.lemmas.List.Quantifiers.{position-Some}
use Rattle.std.proofs.lemmas.Slice.Eq.{bytes_eq-Decides}
use Rattle.std.proofs.lemmas.List.{length-map}
use Rattle.fixed_core.specs.declared.fault.FixedFault.{FixedFault}
use Rattle.fixed_core.specs.Spelling.{spelling}
use Rattle.fixed_core.specs.Value.{fixed_of}
use Rattle.fixed_core.proofs.Meaning.{answer_reads}
use Rattle.fixed_core.proofs.ReadsBack.{spelling-reads}
use Rattle.yaml_core.specs.declared.node.Node.{Node}
use Rattle.yaml_core.specs.declared.node.Node.TheVariants as node
use Rattle.yaml_core.specs.Measured.{list_node}
use Rattle.problem_core.specs.Grade.{IsGrade, name_in, is_whole, number_grade, read_grade, place_grade, text_grade}
use Rattle.problem_core.specs.declared.criterion.Bounds.{Bounds}
use Rattle.problem_core.specs.declared.criterion.Criterion.{Criterion}
use Rattle.problem_core.specs.declared.criterion.Scale.{Scale}
use Rattle.problem_core.specs.declared.criterion.Scale.TheVariants.{Rising, Falling, Named}
use Rattle.problem_core.specs.declared.grade.GradeFault.TheVariants.{NotWhole, OutOfBounds}
use Rattle.sorting_rule.specs.Preference.{are_ordered}
use Rattle.written_core.specs.Document.{Word, IsGoodScalar}
use Rattle.written_core.specs.Outline.{scalar_leaf, scalar_node}
use Rattle.model_core.specs.Model.{profile_of, profiles_of, IsThreshold}
use Rattle.lists_core.specs.Answers.{◌>>=◌, require}
use Rattle.model_core.specs.ReadAccepted.{items_of_kind, is_null_in, is_null, grade_in, threshold_of, thresholds_of, are_grades_ordered, accepted_of, all_accepted}
use Rattle.model_core.specs.declared.model.Profile.{Profile}
use Rattle.model_core.specs.declared.model_fault.ModelFault.{ModelFault}
use Rattle.model_core.specs.declared.model_fault.ModelFault.TheVariants as fault
use Rattle.written_core.proofs.Lookups.{text-Scalar, text-Quoted, some-Scalar, some-List}
use Rattle.written_core.proofs.Lists.{word_leaf, nodes-scalars}
use Rattle.written_core.proofs.Words.{spelling-word, number-node}
use Rattle.model_text_core.specs.ModelText.{grade_scalar, threshold_scalar}
use Rattle.model_text_core.proofs.Lookups.{kind-items}
use Rattle.model_text_core.proofs.Meaning.{thresholds_measured, accepted_measured}

-- ---- numbers

-- a number on the scale
abbrev OnScale : Bounds → ℤ → Type 0
OnScale bounds t = number_grade bounds t ≡ Ok t

on-scale-by : (a b : Bool) (u t : ℤ) → (if a then Err NotWhole else (if b then Ok u else Err OutOfBounds)) ≡ Ok t → u ≡ t
on-scale-by true b u t h = absurd (cc)
on-scale-by false true u t h = cc
on-scale-by false false u t h = absurd (cc)

-- a grade of numbers is on the scale, and small enough to have a spelling
number-grade : (bounds : Bounds) (text : List ℕ) (read : Result ℤ FixedFault) (t : ℤ) → read ≡ fixed_of text → read_grade bounds read ≡ Ok t → OnScale bounds t × (unsigned_abs t ≤ 10 ^ 36)
number-grade bounds text (Err f) t e h = absurd (cc)
number-grade bounds text (Ok u) t e h =
    let same : u ≡ t = on-scale-by (bounds.whole && not (is_whole u)) (int_le bounds.least u && int_le u bounds.most) u t h in
    (subst (λ z. number_grade bounds z ≡ Ok t) same h, subst (λ z. unsigned_abs z ≤ 10 ^ 36) same (answer_reads text (Ok u) e).1.2)

spelled-grade : (bounds : Bounds) (t : ℤ) → OnScale bounds t → unsigned_abs t ≤ 10 ^ 36 → read_grade bounds (fixed_of (spelling t)) ≡ Ok t
spelled-grade bounds t on small = ap (read_grade bounds) (spelling-reads t small) ∙ on

-- ---- names

name-at : (names : List (List ℕ)) (place : ℕ) → name_in names place ≡ get_or names place []
name-at [] place = refl
name-at (name ∷ names) zero = refl
name-at (name ∷ names) (suc place) = name-at names place

named-grade : (names : List (List ℕ)) (text : List ℕ) (found : Option ℕ) (t : ℤ) → position (bytes_eq text) names ≡ found → place_grade found ≡ Ok t → name_in names (unsigned_abs t) ≡ text
named-grade names text None t e h = absurd (cc)
named-grade names text (Some place) t e h =
    let there : pos place ≡ t = cc in
    let there_too : bytes_eq text (get_or names place []) ≡ true = (position-Some (bytes_eq text) names place [] e).1 in
    ap (λ z. name_in names (unsigned_abs z)) (sym there) ∙ name-at names place ∙ sym ((bytes_eq-Decides text (get_or names place [])).0 there_too)

-- ---- a grade

-- what a written grade's text is, and that it is one that may be written
pub record IsWrittenGrade (scale : Scale) (t : ℤ) : Type 0 where
  pub reads : grade_in scale (scalar_node (grade_scalar scale t)) ≡ Some t
  pub some : is_null (scalar_node (grade_scalar scale t)) ≡ false
  pub good : IsGoodScalar (grade_scalar scale t)

number-written : (scale : Scale) (t : ℤ) → grade_scalar scale t ≡ Word (spelling t) → unsigned_abs t ≤ 10 ^ 36 → text_grade scale (spelling t) ≡ Ok t → IsWrittenGrade scale t
number-written scale t is small reads =
    let w = spelling-word t small in
    record {
      reads =
          ap (λ s. grade_in scale (scalar_node s)) is
          ∙ ap (grade_in scale) (number-node (spelling t) w)
          ∙ ap (option_and_then (λ (text : List ℕ). result_ok (text_grade scale text))) (text-Scalar (spelling t))
          ∙ ap result_ok reads;
      some = ap (λ s. is_null (scalar_node s)) is ∙ ap is_null (number-node (spelling t) w) ∙ ap is_null_in (node.outs-Scalar (spelling t));
      good = subst IsGoodScalar (sym is) w.word;
    }

pub written-grade : (scale : Scale) (t : ℤ) → IsGrade scale t → IsWrittenGrade scale t
written-grade (Rising bounds) t (text, h) =
    let g = number-grade bounds text (fixed_of text) t refl h in number-written (Rising bounds) t refl g.1 (spelled-grade bounds t g.0 g.1)
written-grade (Falling bounds) t (text, h) =
    let g = number-grade bounds text (fixed_of text) t refl h in number-written (Falling bounds) t refl g.1 (spelled-grade bounds t g.0 g.1)
written-grade (Named names) t (text, h) =
    let name = name_in names (unsigned_abs t) in
    let same : name ≡ text = named-grade names text (position (bytes_eq text) names) t refl h in
    record {
      reads =
          ap (option_and_then (λ (x : List ℕ). result_ok (text_grade (Named names) x))) (text-Quoted name)
          ∙ ap (λ x. result_ok (text_grade (Named names) x)) same
          ∙ ap result_ok h;
      some = ap is_null_in (node.outs-Quoted name);
      good = tt;
    }

-- the same of a threshold
pub record IsWritten (scale : Scale) (t : Option ℤ) : Type 0 where
  pub reads : threshold_of scale (scalar_node (threshold_scalar scale t)) ≡ Some t
  pub good : IsGoodScalar (threshold_scalar scale t)

pub written-threshold : (scale : Scale) (t : Option ℤ) → IsThreshold scale t → IsWritten scale t
written-threshold scale None h = record {
  reads = ap (λ b. if b then Some None else option_map (λ (g : ℤ). Some g) (grade_in scale node.Null)) (ap is_null_in node.outs-Null);
  good = refl;
}
written-threshold scale (Some t) h =
    let w = written-grade scale t h in
    let n = scalar_node (grade_scalar scale t) in
    record {
      reads = ap (λ b. if b then Some None else option_map (λ (g : ℤ). Some g) (grade_in scale n)) w.some ∙ ap (option_map (λ (g : ℤ). Some g)) w.reads;
      good = w.good;
    }

-- ---- thresholds

abbrev grade_nodes : Scale → List (Option ℤ) → List Node
grade_nodes scale ts = map (λ m. m.node) (map scalar_leaf (map (threshold_scalar scale) ts))

thresholds-read : (scale : Scale) (f : ModelFault) (earlier ts : List (Option ℤ)) → All (IsThreshold scale) ts → thresholds_of scale f earlier (grade_nodes scale ts) ≡ Ok (earlier ++ ts)
unfolding thresholds_of
thresholds-read scale f earlier [] all = ap (λ (xs : List (Option ℤ)). Ok xs) (sym (append-nil earlier))
thresholds-read scale f earlier (t ∷ ts) all =
    ap (λ o. ok_or o f >>= λ x. thresholds_of scale f (earlier ++ x ∷ []) (grade_nodes scale ts)) (written-threshold scale t (All-head (IsThreshold scale) t ts all)).reads
    ∙ thresholds-read scale f (earlier ++ t ∷ []) ts (All-tail (IsThreshold scale) t ts all)
    ∙ ap (λ (xs : List (Option ℤ)). Ok xs) (append_assoc earlier (t ∷ []) ts)

thresholds-items : (scale : Scale) (ts : List (Option ℤ)) → items_of_kind (codes "thresholds") (codes "thresholds") (thresholds_measured scale ts).node ≡ Some (grade_nodes scale ts)
thresholds-items scale ts =
    kind-items (codes "thresholds") (codes "thresholds") ((codes "kind", word_leaf (codes "thresholds")) ∷ (codes "thresholds", list_node (map scalar_leaf (map (threshold_scalar scale) ts))) ∷ [])
    (grade_nodes scale ts) (some-Scalar (codes "thresholds")) refl (some-List (grade_nodes scale ts))

accepted-read : (boundaries place : ℕ) (scale : Scale) (ts : List (Option ℤ)) → length ts ≡ boundaries → All (IsThreshold scale) ts → are_grades_ordered scale ts ≡ true
    → accepted_of boundaries place scale (thresholds_measured scale ts).node ≡ Ok (record { thresholds = ts })
unfolding accepted_of
accepted-read boundaries place scale ts long all ordered =
    let ns = grade_nodes scale ts in
    let counted : (length ns == boundaries) ≡ true = same-numbers (length ns) boundaries (ap length (nodes-scalars (threshold_scalar scale) ts) ∙ length-map ts (λ t. scalar_node (threshold_scalar scale t)) ∙ long) in
    ap (λ o. ok_or o (fault.AcceptedForm place) >>= λ items. require (length items == boundaries) (fault.AcceptedCount place) >>= λ _. thresholds_of scale (fault.Threshold place) [] items
    >>= λ thresholds. require (are_grades_ordered scale thresholds) (fault.Order place) >>= λ _. Ok (record { thresholds = thresholds })) (thresholds-items scale ts)
    ∙ ap (λ b. require b (fault.AcceptedCount place) >>= λ _. thresholds_of scale (fault.Threshold place) [] ns
    >>= λ thresholds. require (are_grades_ordered scale thresholds) (fault.Order place) >>= λ _. Ok (record { thresholds = thresholds })) counted
    ∙ ap (λ r. r >>= λ thresholds. require (are_grades_ordered scale thresholds) (fault.Order place) >>= λ _. Ok (record { thresholds = thresholds })) (thresholds-read scale (fault.Threshold place) [] ts all)
    ∙ ap (λ b. require b (fault.Order place) >>= λ _. Ok (record { thresholds = ts })) ordered
  where
    same-numbers : (a b : ℕ) → a ≡ b → (a == b) ≡ true
    same-numbers a b e = grind (arith, nat_tests)

-- ---- all criteria

abbrev AreOrdered : List Criterion → List Profile → Type 0
AreOrdered criteria rows = All (λ p. are_ordered p.direction p.thresholds ≡ true) (profiles_of criteria rows)

pub all-accepted-read : (boundaries : ℕ) (earlier : List Profile) (criteria : List Criterion) (rows : List Profile)
    → All (λ row. length row.thresholds ≡ boundaries) rows → AllZip (λ criterion row. All (IsThreshold criterion.scale) row.thresholds) criteria rows → AreOrdered criteria rows
    → all_accepted boundaries earlier criteria (map (λ m. m.node) (accepted_measured criteria rows)) ≡ Ok (earlier ++ rows)
unfolding all_accepted
all-accepted-read boundaries earlier [] [] long grades ordered = ap (λ (xs : List Profile). Ok xs) (sym (append-nil earlier))
all-accepted-read boundaries earlier [] (row ∷ rows) long grades ordered = absurd grades
all-accepted-read boundaries earlier (criterion ∷ criteria) [] long grades ordered = absurd grades
all-accepted-read boundaries earlier (criterion ∷ criteria) (row ∷ rows) long grades ordered =
    let first = All-head (λ p. are_ordered p.direction p.thresholds ≡ true) (profile_of criterion row) (profiles_of criteria rows) ordered in
    let others = All-tail (λ p. are_ordered p.direction p.thresholds ≡ true) (profile_of criterion row) (profiles_of criteria rows) ordered in
    ap (λ r. r >>= λ x. all_accepted boundaries (earlier ++ x ∷ []) criteria (map (λ m. m.node) (accepted_measured criteria rows)))
    (accepted-read boundaries (length earlier) criterion.scale row.thresholds (All-head (λ r. length r.thresholds ≡ boundaries) row rows long) grades.0 first)
    ∙ all-accepted-read boundaries (earlier ++ row ∷ []) criteria rows (All-tail (λ r. length r.thresholds ≡ boundaries) row rows long) grades.1 others
    ∙ ap (λ (xs : List Profile). Ok xs) (append_assoc earlier (row ∷ []) rows)

pub length-accepted : (criteria : List Criterion) (rows : List Profile) → length rows ≡ length criteria → length (map (λ m. m.node) (accepted_measured criteria rows)) ≡ length criteria
length-accepted [] rows h = refl
length-accepted (criterion ∷ criteria) [] h = absurd (omega (arith, h))
length-accepted (criterion ∷ criteria) (row ∷ rows) h = let g = length-accepted criteria rows (omega (arith, h)) in omega (arith, g)
