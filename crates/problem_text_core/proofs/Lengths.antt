-- How long the text of a problem is.
use Rattle.std.proofs.Common.{◌≡◌, ℕ, zero, suc, ◌+◌, ◌*◌, ◌/◌, ◌%◌, ◌^◌, ◌≤◌, Bool, true, false, not, ◌&&◌, if◌then◌else◌, ℤ, pos, negsuc, List, [], ◌∷◌, ◌++◌, length, map, codes, refl, sym, arith, subst, length-append}
use Rattle.std.specs.Prelude.{◌==◌, nat_le, unsigned_abs, decimal, All}
use Rattle.std.specs.Char.{is_ascii_control}
use Rattle.std.specs.List.{list_all, list_any, flat_map}
use Rattle.std.proofs.lemmas.Bool.{and_parts, leb-true}
use Rattle.std.proofs.lemmas.Fmt.{length-decimal-le}
use Rattle.std.proofs.lemmas.List.Elements.{All-head, All-tail}
use Rattle.fixed_core.specs.Spelling.{short_digits, point_digits, sign_text, spelling_of, spelling}
use Rattle.yaml_tokens.specs.Written.{is_mark, is_control, hex_escape, spelled, quoted_text}
use Rattle.written_core.specs.Document.{Text, more_text}
use Rattle.problem_core.specs.Criterion.{is_criterion, is_criterion_name, is_reserved, is_scale}
use Rattle.problem_core.specs.Name.{is_good_name}
use Rattle.problem_core.specs.Problem.{ProblemValue, IsProblem}
use Rattle.problem_core.specs.declared.criterion.Bounds.{Bounds}
use Rattle.problem_core.specs.declared.criterion.Criterion.{Criterion}
use Rattle.problem_core.specs.declared.criterion.Scale.{Scale}
use Rattle.problem_core.specs.declared.criterion.Scale.TheVariants.{Rising, Falling, Named}
use Rattle.written_core.specs.Parts.{row}
use Rattle.problem_text_core.specs.ProblemText.{type_word, problem_text, AreNumbers, IsKeptScale, IsKeptCriterion, IsKept}
use Rattle.problem_text_core.specs.Parts.{key_row, bounds_text, numbers_text, flow_names, names_text, scale_text, name_row, criterion_text, criteria_text, categories_text, head_text, text_by_parts}
use Rattle.problem_text_core.proofs.PartTexts.{problem_text-parts}

-- ---- numbers

short-length : (k s : ℕ) → length (short_digits k s) ≤ k
unfolding short_digits
short-length zero s = omega arith
short-length (suc k) s = by_test (s == 0) (short-length k (s % 10 ^ k))
  where
    by_test : (t : Bool) → length (short_digits k (s % 10 ^ k)) ≤ k → length (if t then [] else (48 + s / 10 ^ k) ∷ short_digits k (s % 10 ^ k)) ≤ suc k
    by_test true more = omega arith
    by_test false more = omega (arith, more)

point-length : (s : ℕ) → length (point_digits s) ≤ 19
point-length s = by_test (s == 0)
  where
    by_test : (t : Bool) → length (if t then [] else 46 ∷ short_digits 18 s) ≤ 19
    by_test true = omega arith
    by_test false = let more = short-length 18 s in omega (arith, more)

spelled-length : (negative : Bool) (n : ℕ) → n ≤ 10 ^ 36 → length (spelling_of negative n) ≤ 39
spelled-length negative n small =
    let whole = length-decimal-le 19 (n / 10 ^ 18) (omega arith) (omega (arith, small)) (omega (arith, small)) in
    let point = point-length (n % 10 ^ 18) in
    let both = length-append (decimal (n / 10 ^ 18)) (point_digits (n % 10 ^ 18)) in
    by_sign negative (decimal (n / 10 ^ 18) ++ point_digits (n % 10 ^ 18)) (omega (arith, whole, point, both))
  where
    by_sign : (b : Bool) (rest : List ℕ) → length rest ≤ 38 → length (sign_text b ++ rest) ≤ 39
    by_sign true rest h = omega (arith, h)
    by_sign false rest h = omega (arith, h)

spelling-length : (z : ℤ) → unsigned_abs z ≤ 10 ^ 36 → length (spelling z) ≤ 39
spelling-length (pos n) small = spelled-length false n small
spelling-length (negsuc n) small = spelled-length true (suc n) small

-- ---- names

byte-length : (b : ℕ) → length (spelled b) ≤ 4
byte-length b = by_tests (is_mark b) (is_control b)
  where
    by_tests : (m c : Bool) → length (if m then 92 ∷ b ∷ [] else (if c then hex_escape b else b ∷ [])) ≤ 4
    by_tests true c = omega arith
    by_tests false true = omega arith
    by_tests false false = omega arith

bytes-length : (bs : List ℕ) → length (flat_map spelled bs) ≤ 4 * length bs
bytes-length [] = omega arith
bytes-length (b ∷ bs) =
    let one = byte-length b in
    let more = bytes-length bs in
    omega (arith, one, more, length-append (spelled b) (flat_map spelled bs))

good-length : (name : List ℕ) → is_good_name name ≡ true → length name ≤ 200
good-length name good =
    let (counts, clean) = and_parts (nat_le 1 (length name) && nat_le (length name) 200) (not (list_any is_ascii_control name)) good in
    leb-true (length name) 200 (and_parts (nat_le 1 (length name)) (nat_le (length name) 200) counts).1

quoted-length : (name : List ℕ) → is_good_name name ≡ true → length (quoted_text name) ≤ 802
quoted-length name good =
    let few = good-length name good in
    let bytes = bytes-length name in
    omega (arith, few, bytes, length-append (flat_map spelled name) (34 ∷ []))

more-length : (names : List (List ℕ)) → list_all is_good_name names ≡ true → length (more_text (map Text names)) ≤ 804 * length names + 1
more-length [] good = omega arith
more-length (n ∷ ns) good =
    let (first, others) = and_parts (is_good_name n) (list_all is_good_name ns) good in
    let one = quoted-length n first in
    let more = more-length ns others in
    omega (arith, one, more, length-append (quoted_text n) (more_text (map Text ns)))

flow-length : (names : List (List ℕ)) → list_all is_good_name names ≡ true → length (flow_names names) ≤ 804 * length names + 2
flow-length [] good = omega arith
flow-length (n ∷ ns) good =
    let (first, others) = and_parts (is_good_name n) (list_all is_good_name ns) good in
    let one = quoted-length n first in
    let more = more-length ns others in
    omega (arith, one, more, length-append (quoted_text n) (more_text (map Text ns)))

-- ---- rows

row-length : (key value : List ℕ) → length (key_row key value) ≡ length key + length value + 1
row-length key value = let a = length-append key (row value []) in let b = length-append value (10 ∷ []) in omega (arith, a, b)

type-length : (whole : Bool) → length (type_word whole) ≤ 7
type-length true = omega arith
type-length false = omega arith

numbers-length : (direction : List ℕ) (b : Bounds) → length direction ≡ 10 → AreNumbers b → length (numbers_text direction b) ≤ 1000
numbers-length direction b word small =
    let first = row-length (codes "    value_type: ") (type_word b.whole) in
    let second = row-length (codes "    preference_direction: ") direction in
    let third = row-length (codes "    min_value: ") (spelling b.least) in
    let fourth = row-length (codes "    max_value: ") (spelling b.most) in
    let bounds = length-append (key_row (codes "    min_value: ") (spelling b.least)) (key_row (codes "    max_value: ") (spelling b.most)) in
    let later = length-append (key_row (codes "    preference_direction: ") direction) (bounds_text b) in
    let all = length-append (key_row (codes "    value_type: ") (type_word b.whole)) (key_row (codes "    preference_direction: ") direction ++ bounds_text b) in
    omega (arith, first, second, third, fourth, bounds, later, all, word, type-length b.whole, spelling-length b.least small.0, spelling-length b.most small.1)

names-length : (names : List (List ℕ)) → is_scale (Named names) ≡ true → length (names_text names) ≤ 805000
names-length names good =
    let (counts, all) = and_parts (nat_le 2 (length names) && nat_le (length names) 1000) (list_all is_good_name names) good in
    let few = leb-true (length names) 1000 (and_parts (nat_le 2 (length names)) (nat_le (length names) 1000) counts).1 in
    let second = row-length (codes "    ordered_values: ") (flow_names names) in
    omega (arith, few, second, flow-length names all)

scale-length : (s : Scale) → is_scale s ≡ true → IsKeptScale s → length (scale_text s) ≤ 805000
scale-length (Rising b) good kept = let h = numbers-length (codes "increasing") b refl kept in omega (arith, h)
scale-length (Falling b) good kept = let h = numbers-length (codes "decreasing") b refl kept in omega (arith, h)
scale-length (Named names) good kept = names-length names good

name-length : (name : List ℕ) → is_good_name name ≡ true → length (name_row name) ≤ 900
name-length name good = let h = row-length (codes "  - name: ") (quoted_text name) in let q = quoted-length name good in omega (arith, h, q)

criterion-length : (c : Criterion) → is_criterion c ≡ true → IsKeptCriterion c → length (criterion_text c) ≤ 806000
criterion-length c good kept =
    let (named, scale) = and_parts (is_criterion_name c.name) (is_scale c.scale) good in
    let name = name-length c.name (and_parts (is_good_name c.name) (not (is_reserved c.name)) named).0 in
    let s = scale-length c.scale scale kept.1 in
    omega (arith, name, s, length-append (name_row c.name) (scale_text c.scale))

criteria-length : (cs : List Criterion) → list_all is_criterion cs ≡ true → All IsKeptCriterion cs → length (criteria_text cs) ≤ 806000 * length cs
criteria-length [] good kept = omega arith
criteria-length (c ∷ cs) good kept =
    let (first, others) = and_parts (is_criterion c) (list_all is_criterion cs) good in
    let one = criterion-length c first (All-head IsKeptCriterion c cs kept) in
    let more = criteria-length cs others (All-tail IsKeptCriterion c cs kept) in
    omega (arith, one, more, length-append (criterion_text c) (criteria_text cs))

categories-length : (names : List (List ℕ)) → list_all is_good_name names ≡ true → length (categories_text names) ≤ 900 * length names
categories-length [] good = omega arith
categories-length (n ∷ ns) good =
    let (first, others) = and_parts (is_good_name n) (list_all is_good_name ns) good in
    let one = name-length n first in
    let more = categories-length ns others in
    omega (arith, one, more, length-append (name_row n) (categories_text ns))

-- ---- the whole

-- the row of the key of the categories
abbrev key : List ℕ
key = row (codes "ordered_categories:") []

pub problem-short : (p : ProblemValue) → IsProblem p → IsKept p → length (problem_text p) ≤ 67108864
problem-short p whole kept = subst (λ (t : List ℕ). length t ≤ 67108864) (sym (problem_text-parts p)) by_parts
  where
    by_parts : length (text_by_parts p) ≤ 67108864
    by_parts =
        let criteria = criteria-length p.criteria whole.good_criteria kept.criteria in
        let categories = categories-length p.categories whole.good_categories in
        let last = length-append key (categories_text p.categories) in
        let later = length-append (criteria_text p.criteria) (key ++ categories_text p.categories) in
        let all = length-append head_text (criteria_text p.criteria ++ (key ++ categories_text p.categories)) in
        omega (arith, criteria, categories, last, later, all, whole.few_criteria, whole.few_categories)
