-- What values make the clauses of the coalition encoding true.
use Rattle.std.proofs.Common.{◌≡◌, ℕ, zero, suc, ◌+◌, ◌-◌, ◌^◌, ◌<◌, ◌&&◌, not, Bool, true, false, cond, List, [], ◌∷◌, ◌++◌, length, refl, sym, ap, ◌∙◌, subst, arith, ◌⊎◌, inl, inr}
use Rattle.std.specs.List.{list_any}
use Rattle.std.proofs.lemmas.Bool.{cases_lt, false≢true, or_cases, or_left, or_right, and_parts, and_cases, not-true, not-false, not_from_false}
use Rattle.std.proofs.lemmas.List.{get_or_default}
use Rattle.std.proofs.lemmas.List.Elements.{All-append, All-cons, All-nil, All-head}
use Rattle.std.proofs.lemmas.List.Folds.{list_any-append}
use Rattle.sorting_rule.specs.Examples.{Example}
use Rattle.literals_core.specs.Formula.{plus, minus}
use Rattle.literals_core.specs.Values.{literal_true, Satisfies}
use Rattle.encoding_rules.specs.Each.{each, listed}
use Rattle.encoding_rules.specs.Task.{Task, criteria, goods, bads, good_at, bad_at, nobody}
use Rattle.encoding_rules.specs.Ranks.{rank}
use Rattle.encoding_rules.specs.Unknowns.{accepted}
use Rattle.encoding_rules.specs.Shared.{better_clauses, lower_clauses}
use Rattle.encoding_rules.specs.Coalitions.{has, set_count, sufficient, larger_clause, larger_of, larger_clauses, bad_set_clause, good_set_clause, bad_set_clauses, good_set_clauses, coalition_clauses}
use Rattle.encoding_rules.specs.Meaning.{IsNested, accepts_at, SetsApart}
use Rattle.encoding_rules.proofs.EachFacts.{All-left, All-right, each_all, all_each, listed_all, all_listed, some_or_none}
use Rattle.encoding_rules.proofs.TruthFacts.{gives, given, plus_true, minus_true}
use Rattle.encoding_rules.proofs.Clauses.{IsTrueClause, nested_better, nested_lower, better_from, lower_from}
use Rattle.encoding_rules.proofs.SetFacts.{mask, mask_lt, has_of, mask_not, mask_same, grows}

-- ---- clauses with a literal for each member of a set

module _ (p : ℕ → Bool) (literal : ℕ → ℕ) (t : ℕ → Bool) where
  abbrev those : ℕ → List ℕ
  those n = each (λ i. cond (t i) (literal i ∷ []) []) n

  some_member : (n : ℕ) → list_any p (those n) ≡ true → (i : ℕ) × (i < n) × (t i ≡ true) × (p (literal i) ≡ true)
  some_member zero h = absurd (false≢true h)
  some_member (suc n) h = elim (or_cases (list_any p (those n)) (list_any p (cond (t n) (literal n ∷ []) [])) (sym (list_any-append p (those n) (cond (t n) (literal n ∷ []) [])) ∙ h)) [
    | inl early ↦ (let rest = some_member n early in (rest.0, (let lt = rest.1 in omega (arith, lt)), rest.2, rest.3))
    | inr late ↦ last (t n) refl late
  ]
    where
      last : (b : Bool) → t n ≡ b → list_any p (cond b (literal n ∷ []) []) ≡ true → (i : ℕ) × (i < suc n) × (t i ≡ true) × (p (literal i) ≡ true)
      last true e late = (n, omega arith, e, elim (or_cases (p (literal n)) false late) [ inl here ↦ here | inr none ↦ absurd (false≢true none) ])
      last false e late = absurd (false≢true late)

  member_some : (n i : ℕ) → i < n → t i ≡ true → p (literal i) ≡ true → list_any p (those n) ≡ true
  member_some zero i lt e h = absurd (omega (arith, lt))
  member_some (suc n) i lt e h = list_any-append p (those n) (cond (t n) (literal n ∷ []) []) ∙ elim (cases_lt i n) [
    | inl before ↦ or_left (list_any p (those n)) (list_any p (cond (t n) (literal n ∷ []) [])) (member_some n i before e h)
    | inr after ↦ (let same : i ≡ n = omega (arith, lt, after) in
        or_right (list_any p (those n)) (list_any p (cond (t n) (literal n ∷ []) []))
        (ap (λ b. list_any p (cond b (literal n ∷ []) [])) (ap t (sym same) ∙ e) ∙ or_left (p (literal n)) false (ap (λ k. p (literal k)) (sym same) ∙ h)))
  ]

  -- with a last literal
  pub clause_cases : (n l : ℕ) → list_any p (those n ++ l ∷ []) ≡ true → ((i : ℕ) × (i < n) × (t i ≡ true) × (p (literal i) ≡ true)) ⊎ (p l ≡ true)
  clause_cases n l h = elim (or_cases (list_any p (those n)) (list_any p (l ∷ [])) (sym (list_any-append p (those n) (l ∷ [])) ∙ h)) [
    | inl early ↦ inl (some_member n early)
    | inr late ↦ elim (or_cases (p l) false late) [ inl here ↦ inr here | inr none ↦ absurd (false≢true none) ]
  ]

  pub clause_member : (n l i : ℕ) → i < n → t i ≡ true → p (literal i) ≡ true → list_any p (those n ++ l ∷ []) ≡ true
  clause_member n l i lt e h = list_any-append p (those n) (l ∷ []) ∙ or_left (list_any p (those n)) (list_any p (l ∷ [])) (member_some n i lt e h)

  pub clause_last : (n l : ℕ) → p l ≡ true → list_any p (those n ++ l ∷ []) ≡ true
  clause_last n l h = list_any-append p (those n) (l ∷ []) ∙ or_right (list_any p (those n)) (list_any p (l ∷ [])) (or_left (p l) false h)

module _ (task : Task) (values : ℕ → Bool) where
  abbrev n : ℕ
  n = criteria task

  abbrev bad_accepts : ℕ → ℕ → Bool
  bad_accepts b i = let e = bad_at task b in accepts_at task values i e.category e

  abbrev good_accepts : ℕ → ℕ → Bool
  good_accepts a i = let g = good_at task a in accepts_at task values i (g.category - 1) g

  abbrev Suffices : ℕ → Type 0
  Suffices set = values (sufficient task set) ≡ true

  -- what the values say of sets
  pub record Means : Type 0 where
    pub larger : (set i : ℕ) → set < 2 ^ n → i < n → has set i ≡ false → Suffices set → Suffices (set + 2 ^ i)
    pub bad : (b set : ℕ) → b < length (bads task) → set < 2 ^ n → ((i : ℕ) → i < n → has set i ≡ true → bad_accepts b i ≡ true) → values (sufficient task set) ≡ false
    pub good : (a set : ℕ) → a < length (goods task) → set < 2 ^ n → ((i : ℕ) → i < n → has set i ≡ true → good_accepts a i ≡ false) → Suffices (2 ^ n - 1 - set)

  -- ---- from the clauses

  larger_by : (set i : ℕ) (b : Bool) → has set i ≡ b → Satisfies values (cond b [] (larger_clause task set i ∷ [])) → has set i ≡ false → Suffices set → Suffices (set + 2 ^ i)
  larger_by set i true e h off = absurd (false≢true (sym off ∙ e))
  larger_by set i false e h off = gives values (sufficient task set) (sufficient task (set + 2 ^ i)) (All-head (IsTrueClause task values) (larger_clause task set i) [] h)

  larger_means : Satisfies values (larger_clauses task) → (set i : ℕ) → set < 2 ^ n → i < n → has set i ≡ false → Suffices set → Suffices (set + 2 ^ i)
  unfolding larger_clauses set_count
  larger_means h set i lt li off =
      let row = all_each (IsTrueClause task values) (λ set. each (larger_of task set) n) (2 ^ n) h set lt in
      larger_by set i (has set i) refl (all_each (IsTrueClause task values) (larger_of task set) n row i li) off

  bad_means : Satisfies values (bad_set_clauses task) → (b set : ℕ) → b < length (bads task) → set < 2 ^ n → ((i : ℕ) → i < n → has set i ≡ true → bad_accepts b i ≡ true) → values (sufficient task set) ≡ false
  unfolding bad_set_clauses set_count
  bad_means h b set lb lt all =
      let e : Example = bad_at task b in
      let row = all_each (IsTrueClause task values) (λ b. listed (bad_set_clause task b) (2 ^ n)) (length (bads task)) h b lb in
      let clause = all_listed (IsTrueClause task values) (bad_set_clause task b) (2 ^ n) row set lt in
      elim (clause_cases (literal_true values) (λ i. minus (accepted task i e.category (rank task i e))) (has set) n (minus (sufficient task set)) clause) [
        | inl some ↦ absurd (false≢true (
            let out : bad_accepts b some.0 ≡ false = not-true (bad_accepts b some.0) (sym (minus_true values (accepted task some.0 e.category (rank task some.0 e))) ∙ some.3) in
            sym out ∙ all some.0 some.1 some.2))
        | inr last ↦ not-true (values (sufficient task set)) (sym (minus_true values (sufficient task set)) ∙ last)
      ]

  good_means : Satisfies values (good_set_clauses task) → (a set : ℕ) → a < length (goods task) → set < 2 ^ n → ((i : ℕ) → i < n → has set i ≡ true → good_accepts a i ≡ false) → Suffices (2 ^ n - 1 - set)
  unfolding good_set_clauses set_count
  good_means h a set la lt all =
      let g : Example = good_at task a in
      let row = all_each (IsTrueClause task values) (λ a. listed (good_set_clause task a) (2 ^ n)) (length (goods task)) h a la in
      let clause = all_listed (IsTrueClause task values) (good_set_clause task a) (2 ^ n) row set lt in
      elim (clause_cases (literal_true values) (λ i. plus (accepted task i (g.category - 1) (rank task i g))) (has set) n (plus (sufficient task (2 ^ n - 1 - set))) clause) [
        | inl some ↦ absurd (false≢true (
            let yes' : good_accepts a some.0 ≡ true = sym (plus_true values (accepted task some.0 (g.category - 1) (rank task some.0 g))) ∙ some.3 in
            sym (all some.0 some.1 some.2) ∙ yes'))
        | inr last ↦ sym (plus_true values (sufficient task (2 ^ n - 1 - set))) ∙ last
      ]

  -- ---- to the clauses

  by_larger : (set i : ℕ) (b : Bool) → has set i ≡ b → (has set i ≡ false → Suffices set → Suffices (set + 2 ^ i)) → Satisfies values (cond b [] (larger_clause task set i ∷ []))
  by_larger set i true e h = All-nil (IsTrueClause task values)
  by_larger set i false e h = All-cons (IsTrueClause task values) (larger_clause task set i) [] (given values (sufficient task set) (sufficient task (set + 2 ^ i)) (h e)) (All-nil (IsTrueClause task values))

  larger_from : Means → Satisfies values (larger_clauses task)
  unfolding larger_clauses set_count
  larger_from m =
      each_all (IsTrueClause task values) (λ set. each (larger_of task set) n) (2 ^ n) (λ set lt.
      each_all (IsTrueClause task values) (larger_of task set) n (λ i li. by_larger set i (has set i) refl (m.larger set i lt li)))

  bad_from : Means → Satisfies values (bad_set_clauses task)
  unfolding bad_set_clauses set_count
  bad_from m =
      each_all (IsTrueClause task values) (λ b. listed (bad_set_clause task b) (2 ^ n)) (length (bads task)) (λ b lb.
      listed_all (IsTrueClause task values) (bad_set_clause task b) (2 ^ n) (λ set lt.
      (let e : Example = bad_at task b in
      let literal : ℕ → ℕ = λ i. minus (accepted task i e.category (rank task i e)) in
      elim (some_or_none (λ i. has set i && not (bad_accepts b i)) n) [
        | inl some ↦ (let parts = and_parts (has set some.0) (not (bad_accepts b some.0)) some.2 in
            clause_member (literal_true values) literal (has set) n (minus (sufficient task set)) some.0 some.1 parts.0 (minus_true values (accepted task some.0 e.category (rank task some.0 e)) ∙ parts.1))
        | inr none ↦ clause_last (literal_true values) literal (has set) n (minus (sufficient task set)) (minus_true values (sufficient task set) ∙ not_from_false (values (sufficient task set))
            (m.bad b set lb lt (λ i li h. elim (and_cases (has set i) (not (bad_accepts b i)) (none i li)) [ inl off ↦ absurd (false≢true (sym off ∙ h)) | inr on ↦ not-false (bad_accepts b i) on ])))
      ])))

  good_from : Means → Satisfies values (good_set_clauses task)
  unfolding good_set_clauses set_count
  good_from m =
      each_all (IsTrueClause task values) (λ a. listed (good_set_clause task a) (2 ^ n)) (length (goods task)) (λ a la.
      listed_all (IsTrueClause task values) (good_set_clause task a) (2 ^ n) (λ set lt.
      (let g : Example = good_at task a in
      let literal : ℕ → ℕ = λ i. plus (accepted task i (g.category - 1) (rank task i g)) in
      elim (some_or_none (λ i. has set i && good_accepts a i) n) [
        | inl some ↦ (let parts = and_parts (has set some.0) (good_accepts a some.0) some.2 in
            clause_member (literal_true values) literal (has set) n (plus (sufficient task (2 ^ n - 1 - set))) some.0 some.1 parts.0 (plus_true values (accepted task some.0 (g.category - 1) (rank task some.0 g)) ∙ parts.1))
        | inr none ↦ clause_last (literal_true values) literal (has set) n (plus (sufficient task (2 ^ n - 1 - set))) (plus_true values (sufficient task (2 ^ n - 1 - set))
            ∙ m.good a set la lt (λ i li h. elim (and_cases (has set i) (good_accepts a i) (none i li)) [ inl off ↦ absurd (false≢true (sym off ∙ h)) | inr out ↦ out ]))
      ])))

  -- ---- the formula

  abbrev rest3 : List (List ℕ)
  rest3 = bad_set_clauses task ++ good_set_clauses task

  abbrev rest2 : List (List ℕ)
  rest2 = larger_clauses task ++ rest3

  abbrev rest1 : List (List ℕ)
  rest1 = lower_clauses task ++ rest2

  pub coalition_nested : Satisfies values (coalition_clauses task) → IsNested task values
  coalition_nested h =
      let rest = All-right (IsTrueClause task values) (better_clauses task) rest1 h in
      record {
        better = nested_better task values (All-left (IsTrueClause task values) (better_clauses task) rest1 h);
        lower = nested_lower task values (All-left (IsTrueClause task values) (lower_clauses task) rest2 rest);
      }

  coalition_means : Satisfies values (coalition_clauses task) → Means
  coalition_means h =
      let last2 = All-right (IsTrueClause task values) (lower_clauses task) rest2 (All-right (IsTrueClause task values) (better_clauses task) rest1 h) in
      let last3 = All-right (IsTrueClause task values) (larger_clauses task) rest3 last2 in
      record {
        larger = larger_means (All-left (IsTrueClause task values) (larger_clauses task) rest3 last2);
        bad = bad_means (All-left (IsTrueClause task values) (bad_set_clauses task) (good_set_clauses task) last3);
        good = good_means (All-right (IsTrueClause task values) (bad_set_clauses task) (good_set_clauses task) last3);
      }

  pub coalition_satisfied : IsNested task values → Means → Satisfies values (coalition_clauses task)
  coalition_satisfied nested m = All-append (IsTrueClause task values) (better_clauses task) rest1 (better_from task values nested)
      (All-append (IsTrueClause task values) (lower_clauses task) rest2 (lower_from task values nested)
      (All-append (IsTrueClause task values) (larger_clauses task) rest3 (larger_from m)
      (All-append (IsTrueClause task values) (bad_set_clauses task) (good_set_clauses task) (bad_from m) (good_from m))))

  twice : (b : Bool) → not (not b) ≡ b
  twice true = refl
  twice false = refl

  -- what a good example's boundary accepts is sufficient, and what is larger too, so that a bad example's boundary above doesn't accept all of it
  apart_at : Means → (a b : ℕ) → a < length (goods task) → b < length (bads task) → (i : ℕ) × (i < n) × (good_accepts a i ≡ true) × (bad_accepts b i ≡ false)
  apart_at m a b la lb = elim (some_or_none (λ i. good_accepts a i && not (bad_accepts b i)) n) [
    | inl some ↦ (let parts = and_parts (good_accepts a some.0) (not (bad_accepts b some.0)) some.2 in (some.0, some.1, parts.0, not-true (bad_accepts b some.0) parts.1))
    | inr none ↦ absurd (false≢true (
        let out : ℕ → Bool = λ i. not (good_accepts a i) in
        let others = m.good a (mask out n) la (mask_lt out n) (λ i li h. not-true (good_accepts a i) (sym (has_of out n i li) ∙ h)) in
        let own : 2 ^ n - 1 - mask out n ≡ mask (good_accepts a) n = mask_not out n ∙ mask_same (λ i. not (out i)) (good_accepts a) n (λ i li. twice (good_accepts a i)) in
        let low : Suffices (mask (good_accepts a) n) = subst Suffices own others in
        let high : Suffices (mask (bad_accepts b) n) = grows Suffices n (λ set i lt li off h. m.larger set i lt li off h) (good_accepts a) (bad_accepts b)
        (λ i li h. elim (and_cases (good_accepts a i) (not (bad_accepts b i)) (none i li)) [ inl off ↦ absurd (false≢true (sym off ∙ h)) | inr on ↦ not-false (bad_accepts b i) on ]) low in
        sym (m.bad b (mask (bad_accepts b) n) lb (mask_lt (bad_accepts b) n) (λ i li h. sym (has_of (bad_accepts b) n i li) ∙ h)) ∙ high))
  ]

  pub coalition_apart : Satisfies values (coalition_clauses task) → SetsApart task values
  unfolding good_at bad_at
  coalition_apart h g e in_g in_e =
      let some = apart_at (coalition_means h) in_g.0 in_e.0 in_g.1 in_e.1 in
      let is_g : good_at task in_g.0 ≡ g = get_or_default (goods task) in_g.0 nobody g in_g.1 ∙ in_g.2 in
      let is_e : bad_at task in_e.0 ≡ e = get_or_default (bads task) in_e.0 nobody e in_e.1 ∙ in_e.2 in (
        some.0,
        some.1,
        subst (λ x. accepts_at task values some.0 (x.category - 1) x ≡ true) is_g some.2,
        subst (λ x. accepts_at task values some.0 x.category x ≡ false) is_e some.3,
      )
