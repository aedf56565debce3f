-- The parts of a rebuilt model, from what the calls that make them say.
use Rattle.std.proofs.Common.{◌≡◌, ℕ, ◌-◌, ◌^◌, ◌<◌, ◌≤◌, Bool, List, [], length, map, get_or, sym, ap, ◌∙◌, subst, arith}
use Rattle.std.specs.Prelude.{replicate}
use Rattle.std.specs.List.{All}
use Rattle.std.proofs.lemmas.List.{length-map, get_or-map}
use Rattle.sorting_rule.specs.Examples.{Example}
use Rattle.sorting_rule.specs.Rebuilt.{AreMinimal}
use Rattle.problem_core.specs.Problem.{ProblemValue, IsProblem}
use Rattle.table_core.specs.Examples.{BelongTo}
use Rattle.encoding_rules.specs.Each.{each, listed}
use Rattle.encoding_rules.specs.Meaning.{IsNested, SetsApart}
use Rattle.encoding_rules.proofs.EachFacts.{length-listed, listed_at}
use Rattle.ranks_core.specs.Ranks.{task_of, RanksValue, AreRanks}
use Rattle.ranks_core.proofs.FitsFacts.{belong_fit}
use Rattle.model_core.specs.declared.model.Coalitions.{Coalitions}
use Rattle.model_core.specs.declared.model.Coalitions.TheVariants.{Roots}
use Rattle.model_core.specs.declared.model.Profile.{Profile}
use Rattle.model_core.specs.Model.{boundaries_of}
use Rattle.search_core.specs.Values.{value_at}
use Rattle.accepted_core.proofs.NumbersFacts.{criteria_is}
use Rattle.learn_core.specs.Numbers.{first_in, threshold_in, thresholds_in, own_in}
use Rattle.learn_core.proofs.ModelFacts.{thresholds_of, roots_below, roots_few, AreParts}
use Rattle.learn_core.proofs.RebuildFacts.{firsts_many, rebuilt_from}

module _ (problem : ProblemValue) (examples : List Example) (ranks : RanksValue) (are : AreRanks (task_of problem examples) ranks) (is : IsProblem problem)
    (m n : ℕ) (is_m : m ≡ length problem.categories) (is_n : n ≡ length problem.criteria) (values : List Bool)
    (firsts v1 v2 : List ℕ) (is_firsts : firsts ≡ listed (first_in (m - 1) ranks.grades) n) (s1 : v1 ≡ firsts) (s2 : v2 ≡ firsts)
    (sets v3 rs v4 : List ℕ) (below : All (λ set. set < 2 ^ length v2) sets) (s3 : v3 ≡ sets) (minimal : AreMinimal v3 rs) (s4 : v4 ≡ rs) where
  wide : (v : List ℕ) → v ≡ firsts → length v ≡ length problem.criteria
  wide v s = firsts_many problem examples ranks are m n is_n firsts v is_firsts s ∙ criteria_is problem examples ranks are

  all_below : All (λ root. root < 2 ^ length problem.criteria) rs
  all_below =
      let sets_below : All (λ set. set < 2 ^ length problem.criteria) sets = subst (λ k. All (λ set. set < 2 ^ k) sets) (wide v2 s2) below in
      roots_below v3 rs (2 ^ length problem.criteria) minimal (subst (All (λ set. set < 2 ^ length problem.criteria)) (sym s3) sets_below)

  few : length rs ≤ 65536
  few = roots_few v3 rs (length problem.criteria) is.few_criteria minimal all_below

  pub few_roots : length v4 ≤ 4000000000
  few_roots = let f = few in let e = ap length s4 in omega (arith, f, e)

  module _ (profiles : List Profile) (is_profiles : map thresholds_of profiles ≡ listed (thresholds_in values ranks.grades v1 (m - 1)) (length v1)) where
    widths : All (λ p. length p.thresholds ≡ boundaries_of problem) profiles
    widths k d lt =
        let size = length-map profiles thresholds_of in
        let same = ap length is_profiles in
        let own = length-listed (thresholds_in values ranks.grades v1 (m - 1)) (length v1) in
        let inside : k < length v1 = omega (arith, size, same, own, lt) in
        ap length (sym (get_or-map thresholds_of profiles k d [] lt) ∙ ap (λ xs. get_or xs k []) is_profiles ∙ listed_at (thresholds_in values ranks.grades v1 (m - 1)) (length v1) k [] inside)
        ∙ length-listed (threshold_in values ranks.grades (get_or v1 k 0) k) (m - 1) ∙ ap (λ j. j - 1) is_m

    pub parts : BelongTo problem examples → IsNested (task_of problem examples) (value_at values) → SetsApart (task_of problem examples) (value_at values)
        → sets ≡ each (own_in values v2 ranks examples) (length examples) → (coalitions : List Coalitions) → coalitions ≡ replicate (m - 1) (Roots v4) → AreParts problem examples profiles coalitions rs
    parts belong nested apart is_sets coalitions same = record {
      learns = rebuilt_from problem examples ranks are m n is_m is_n firsts v1 v2 sets v3 rs is_firsts s1 s2 values (belong_fit problem examples belong) nested apart (map thresholds_of profiles) is_profiles is_sets s3 minimal;
      many = sym (length-map profiles thresholds_of) ∙ ap length is_profiles ∙ length-listed (thresholds_in values ranks.grades v1 (m - 1)) (length v1) ∙ wide v1 s1;
      widths = widths;
      same = same ∙ ap (λ k. replicate (k - 1) (Roots v4)) is_m ∙ ap (λ xs. replicate (boundaries_of problem) (Roots xs)) s4;
      below = all_below;
      few = few;
    }
