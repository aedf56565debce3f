-- A model that restores the examples makes every clause of the coalition encoding true, with the sets of its family as the sufficient ones.
use Rattle.std.proofs.Common.{◌≡◌, ℕ, ◌+◌, ◌-◌, ◌^◌, ◌<◌, ◌==◌, not, Bool, true, false, List, length, map, sym, ap, ◌∙◌, subst, arith}
use Rattle.std.specs.Prelude.{replicate}
use Rattle.std.specs.List.{Contains, list_any}
use Rattle.std.proofs.lemmas.Bool.{false≢true, false_from_ne_true, not_from_false}
use Rattle.std.proofs.lemmas.List.{ext_get_or}
use Rattle.std.proofs.lemmas.List.Elements.{All-contains}
use Rattle.sorting_rule.specs.Coalition.{family, mask_of, is_inside, IsClosed}
use Rattle.sorting_rule.specs.Model.{Profile, accepted_flags, accepted_set, category}
use Rattle.sorting_rule.specs.Examples.{Example, Restores, HasOrderedThresholds, HasNoModel}
use Rattle.literals_core.specs.Values.{Satisfies, AreUnsatisfiable}
use Rattle.encoding_rules.specs.Each.{listed}
use Rattle.encoding_rules.specs.Task.{Task, IsTask, criteria, boundaries, good_at, bad_at}
use Rattle.encoding_rules.specs.Ranks.{count_at, rank}
use Rattle.encoding_rules.specs.Unknowns.{accepted}
use Rattle.encoding_rules.specs.Coalitions.{has, set_count, sufficient, coalition_clauses}
use Rattle.encoding_rules.proofs.EachFacts.{length-listed, listed_at}
use Rattle.encoding_rules.proofs.FlagFacts.{length_flags}
use Rattle.encoding_rules.proofs.TaskFacts.{good_example, bad_example, rank_is}
use Rattle.encoding_rules.proofs.Values.{values_with, read_accepted, read_rest}
use Rattle.encoding_rules.proofs.Complete.{accepting, size, size_grades, example_flag, model_nested, model, own_in, above_out, good_boundary, bad_boundary, good_among, bad_among, in_family, family_has}
use Rattle.encoding_rules.proofs.SetFacts.{mask, mask_lt, mask_has, mask_not, mask_inside, grown_set}
use Rattle.encoding_rules.proofs.CoalitionClauses.{Means, coalition_satisfied}

module _ (task : Task) (fits : IsTask task) (profiles : List Profile) (shape : map (λ p. p.direction) profiles ≡ task.directions) (sets : List ℕ) (closed : IsClosed (length task.directions) sets) where
  abbrev n : ℕ
  n = criteria task

  abbrev acc : ℕ → ℕ → ℕ → Bool
  acc = accepting task fits profiles shape

  abbrev in_sets : ℕ → Bool
  in_sets set = list_any (λ member. member == set) sets

  abbrev pub family_values : ℕ → Bool
  family_values = values_with task acc (listed in_sets (set_count task))

  reads : (i b k : ℕ) → i < criteria task → b < boundaries task → k < count_at task i → family_values (accepted task i b k) ≡ acc i b k
  reads i b k li lb lk = read_accepted task acc (listed in_sets (set_count task)) i b k li lb lk

  reads_set : (set : ℕ) → set < 2 ^ n → family_values (sufficient task set) ≡ in_sets set
  unfolding sufficient set_count
  reads_set set lt = read_rest task acc (listed in_sets (2 ^ n)) set ∙ listed_at in_sets (2 ^ n) set false lt

  -- what a boundary accepts of an example, as a set
  own_mask : (b : ℕ) (e : Example) → Contains task.examples e → accepted_set profiles b e.grades ≡ mask (λ i. acc i b (rank task i e)) n
  own_mask b e among =
      let f : ℕ → Bool = λ i. acc i b (rank task i e) in
      let sizes : length (accepted_flags profiles b e.grades) ≡ n = length_flags profiles b e.grades (size_grades task fits profiles shape e among) ∙ size task fits profiles shape in
      ap mask_of (ext_get_or false (accepted_flags profiles b e.grades) (listed f n) (sizes ∙ sym (length-listed f n))
      (λ i lt. let li : i < n = omega (arith, lt, sizes) in example_flag task fits profiles shape i b e li among ∙ sym (listed_at f n i false li)))

  larger_closed : (set larger : ℕ) → Contains sets set → larger < 2 ^ n → is_inside set larger ≡ true → Contains sets larger
  unfolding criteria
  larger_closed set larger among lt inside = closed set larger among lt inside

  module _ (restores : Restores (model task fits profiles shape sets closed) task.examples) where
    restored : (e : Example) → Contains task.examples e → category (model task fits profiles shape sets closed) e.grades ≡ e.category
    restored e among = All-contains (λ e. category (model task fits profiles shape sets closed) e.grades ≡ e.category) task.examples e restores among

    means : Means task family_values
    means = record {
      larger = λ set i lt li off h.
          (let grown = grown_set n set i lt li off in
          let among : Contains sets set = in_family sets set (sym (reads_set set lt) ∙ h) in
          reads_set (set + 2 ^ i) grown.0 ∙ family_has sets (set + 2 ^ i) (larger_closed set (set + 2 ^ i) among grown.0 grown.1));
      bad = λ b set lb lt all.
          (let e : Example = bad_at task b in
          let in_e = bad_among task fits profiles shape sets closed b lb in
          let is_e = bad_example task e in_e in
          let own = own_mask e.category e is_e.0 in
          let f : ℕ → Bool = λ i. acc i e.category (rank task i e) in
          false_from_ne_true (family_values (sufficient task set)) (λ h.
          let among : Contains sets set = in_family sets set (sym (reads_set set lt) ∙ h) in
          let inside : is_inside set (mask f n) ≡ true = subst (λ m. is_inside m (mask f n) ≡ true) (mask_has n set lt)
          (mask_inside (has set) f n (λ i li member. sym (reads i e.category (rank task i e) li (bad_boundary task fits profiles shape sets closed e in_e) (rank_is task i e is_e.0).0) ∙ all i li member)) in
          above_out task fits profiles shape sets closed e (restored e is_e.0) is_e.1 (subst (Contains sets) (sym own) (larger_closed set (mask f n) among (mask_lt f n) inside))));
      good = λ a set la lt none.
          (let g : Example = good_at task a in
          let in_g = good_among task fits profiles shape sets closed a la in
          let is_g = good_example task g in_g in
          let own = own_mask (g.category - 1) g is_g.0 in
          let f : ℕ → Bool = λ i. acc i (g.category - 1) (rank task i g) in
          let others : ℕ → Bool = λ i. not (has set i) in
          let left : 2 ^ n - 1 - set ≡ mask others n = ap (λ m. 2 ^ n - 1 - m) (sym (mask_has n set lt)) ∙ mask_not (has set) n in
          let among : Contains sets (mask f n) = subst (Contains sets) own (own_in task fits profiles shape sets closed g (restored g is_g.0) is_g.1) in
          let inside : is_inside (mask f n) (mask others n) ≡ true = mask_inside f others n (λ i li h. not_from_false (has set i) (false_from_ne_true (has set i) (λ member.
          false≢true (sym (none i li member) ∙ reads i (g.category - 1) (rank task i g) li (good_boundary task fits profiles shape sets closed g in_g) (rank_is task i g is_g.0).0 ∙ h)))) in
          subst (λ m. family_values (sufficient task m) ≡ true) (sym left)
          (reads_set (mask others n) (mask_lt others n) ∙ family_has sets (mask others n) (larger_closed (mask f n) (mask others n) among (mask_lt others n) inside)));
    }

    pub values_of_family : HasOrderedThresholds (model task fits profiles shape sets closed) → Satisfies family_values (coalition_clauses task)
    values_of_family ordered = coalition_satisfied task family_values (model_nested task fits profiles shape family_values reads (replicate (task.categories - 1) (family sets)) ordered) means

pub no_model_of_sets : (task : Task) → IsTask task → AreUnsatisfiable (coalition_clauses task) → HasNoModel task.directions task.categories task.examples
no_model_of_sets task fits none = λ profiles shape sizes sets closed ordered restores.
    none (family_values task fits profiles shape sets closed) (values_of_family task fits profiles shape sets closed restores ordered)
