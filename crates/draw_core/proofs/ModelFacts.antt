-- A drawn model belongs to its problem.
use Rattle.std.proofs.Common.{◌≡◌, ℕ, zero, suc, ◌+◌, ◌-◌, ◌*◌, ◌/◌, ◌%◌, ◌^◌, ◌<◌, ◌≤◌, true, false, ℤ, pos, List, [], ◌∷◌, length, get_or, sym, ap, ◌∙◌, subst, arith}
use Rattle.std.specs.Prelude.{int_lt, replicate, slice_index_or}
use Rattle.std.specs.List.{All, AllZip}
use Rattle.std.proofs.Math.Nat.{div-le_self, mod-lt}
use Rattle.std.proofs.lemmas.Bool.{le-ltb}
use Rattle.std.proofs.lemmas.List.{length-map, length-replicate}
use Rattle.std.proofs.lemmas.List.Elements.{All-cons, All-nil, All-replicate}
use Rattle.problem_core.specs.Grade.{direction_of}
use Rattle.problem_core.specs.Problem.{ProblemValue, IsProblem}
use Rattle.problem_core.specs.declared.criterion.Criterion.{Criterion}
use Rattle.sorting_rule.specs.Model as rule
use Rattle.sorting_rule.specs.Preference.{are_ordered}
use Rattle.model_core.specs.Model.{ModelValue, boundaries_of, profile_of, profiles_of, AreCoalitions, Belongs, IsThreshold, IsWeight}
use Rattle.model_core.specs.declared.model.Coalitions.{Coalitions}
use Rattle.model_core.specs.declared.model.Coalitions.TheVariants.{Weights}
use Rattle.model_core.specs.declared.model.Profile.{Profile}
use Rattle.encoding_rules.specs.Each.{listed, total}
use Rattle.encoding_rules.proofs.EachFacts.{length-listed, listed_all, listed_at}
use Rattle.draw_core.specs.Choice.{scale_at}
use Rattle.draw_core.specs.DrawnModel.{drawn_choice, drawn_choices, drawn_model, drawn_profile, drawn_share, drawn_weight, drawn_weights, model_words, weight_units}
use Rattle.draw_core.proofs.OrderFacts.{length-rising, ordered-rising}

-- how many words are drawn, by the counts of the code
pub model-count : (problem : ProblemValue) (n k : ℕ) → n ≡ length problem.criteria → k ≡ length problem.categories → n * (k - 1) + n + 1 ≡ model_words problem
model-count problem n k e f = ap (λ x. x * (k - 1) + x + 1) e ∙ ap (λ y. length problem.criteria * (y - 1) + length problem.criteria + 1) f

not-below : (u : ℕ) → int_lt (pos u) (pos 0) ≡ false
not-below u = le-ltb u 0 (omega arith)

-- a share by a limit that is one more than a number
small : (share rest : ℕ) → share ≤ 1000 → rest ≤ 16000 → IsWeight (pos (weight_units share (1 + rest)))
small share rest few less =
    let units : ℕ = share * 10 ^ 18 + (1 + rest - 1) in
    let most : units / (1 + rest) ≤ units = div-le_self units (1 + rest) in
    (not-below (units / (1 + rest)), omega (arith, most, few, less))

-- a sum of shares
shares-few : (f : ℕ → ℕ) (n : ℕ) → ((k : ℕ) → (1 ≤ f k) × (f k ≤ 1000)) → (n ≤ total f n) × (total f n ≤ 1000 * n)
shares-few f zero h = (omega arith, omega arith)
shares-few f (suc n) h =
    let rest = shares-few f n h in
    let here = h n in
    (omega (arith, rest.0, here.0), omega (arith, rest.1, here.1))

module _ (problem : ProblemValue) (words : List ℕ) where
  share-few : (i : ℕ) → (1 ≤ drawn_share problem words i) × (drawn_share problem words i ≤ 1000)
  share-few i = (omega arith, omega arith)

  -- a weight is at most what the share would be by 1
  weight-good : IsProblem problem → (i : ℕ) → IsWeight (drawn_weight problem words i)
  weight-good is i =
      let some = is.some_criteria in
      let few = is.few_criteria in
      let sum = shares-few (drawn_share problem words) (length problem.criteria) share-few in
      let T : ℕ = total (drawn_share problem words) (length problem.criteria) in
      let x : ℕ = slice_index_or words (length problem.criteria * boundaries_of problem + length problem.criteria) 0 in
      let below : x % T < T = mod-lt x (omega (arith, sum.0, some)) in
      small (drawn_share problem words i) (x % T) (share-few i).1 (omega (arith, below, sum.1, few))

  ordered-all : (criteria : List Criterion) (profiles : List Profile) → length profiles ≡ length criteria
      → ((i : ℕ) (d : Profile) → i < length criteria → are_ordered (direction_of (scale_at criteria i)) (get_or profiles i d).thresholds ≡ true)
      → All (λ p. are_ordered p.direction p.thresholds ≡ true) (profiles_of criteria profiles)
  ordered-all [] profiles same h = All-nil (λ (p : rule.Profile). are_ordered p.direction p.thresholds ≡ true)
  ordered-all (c ∷ cs) [] same h = absurd (omega (arith, same))
  ordered-all (c ∷ cs) (p ∷ ps) same h =
      All-cons (λ (p : rule.Profile). are_ordered p.direction p.thresholds ≡ true) (profile_of c p) (profiles_of cs ps) (h 0 p (omega arith))
      (ordered-all cs ps (omega (arith, same)) (λ i d lt. h (suc i) d (omega (arith, lt))))

  -- a drawn model belongs to its problem if its thresholds are grades
  pub drawn-belongs : IsProblem problem → AllZip (λ criterion p. All (IsThreshold criterion.scale) p.thresholds) problem.criteria (listed (drawn_profile problem words) (length problem.criteria))
      → Belongs problem (drawn_model problem words)
  unfolding drawn_model
  drawn-belongs is grades =
      let boundaries : ℕ = boundaries_of problem in
      let profiles : List Profile = listed (drawn_profile problem words) (length problem.criteria) in
      let ws : List ℤ = drawn_weights problem words in
      record {
        criteria = length-listed (drawn_profile problem words) (length problem.criteria);
        thresholds = listed_all (λ p. length p.thresholds ≡ boundaries) (drawn_profile problem words) (length problem.criteria)
            (λ i lt. length-map (drawn_choices problem words i) _ ∙ length-rising (drawn_choice problem words i) boundaries);
        grades = grades;
        ordered = ordered-all problem.criteria profiles (length-listed (drawn_profile problem words) (length problem.criteria)) (λ i d lt.
            subst (λ (p : Profile). are_ordered (direction_of (scale_at problem.criteria i)) p.thresholds ≡ true) (sym (listed_at (drawn_profile problem words) (length problem.criteria) i d lt))
            (ordered-rising (scale_at problem.criteria i) (drawn_choice problem words i) boundaries));
        boundaries = length-replicate boundaries (Weights ws);
        coalitions = All-replicate (AreCoalitions (length problem.criteria)) boundaries (Weights ws)
            (length-listed (drawn_weight problem words) (length problem.criteria), listed_all IsWeight (drawn_weight problem words) (length problem.criteria) (λ i lt. weight-good is i));
      }

abbrev model : List Profile → List Coalitions → ModelValue
model profiles coalitions = record { profiles = profiles; coalitions = coalitions }

-- the parts of a drawn model make it
pub model-made : (problem : ProblemValue) (words : List ℕ) (profiles : List Profile) (coalitions : List Coalitions)
    → profiles ≡ listed (drawn_profile problem words) (length problem.criteria) → coalitions ≡ replicate (boundaries_of problem) (Weights (drawn_weights problem words))
    → record { profiles = profiles; coalitions = coalitions } ≡ drawn_model problem words
unfolding drawn_model
model-made problem words profiles coalitions e f = ap (λ x. model x coalitions) e ∙ ap (model (listed (drawn_profile problem words) (length problem.criteria))) f

-- and belong to the problem
pub made-belongs : (problem : ProblemValue) (words : List ℕ) (profiles : List Profile) (coalitions : List Coalitions) → IsProblem problem
    → profiles ≡ listed (drawn_profile problem words) (length problem.criteria) → coalitions ≡ replicate (boundaries_of problem) (Weights (drawn_weights problem words))
    → AllZip (λ criterion p. All (IsThreshold criterion.scale) p.thresholds) problem.criteria profiles → Belongs problem (record { profiles = profiles; coalitions = coalitions })
made-belongs problem words profiles coalitions is e f grades =
    subst (Belongs problem) (sym (model-made problem words profiles coalitions e f))
    (drawn-belongs problem words is (subst (AllZip (λ criterion p. All (IsThreshold criterion.scale) p.thresholds) problem.criteria) e grades))
