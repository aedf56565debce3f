-- What values make the clauses of the separation encoding true.
use Rattle.std.proofs.Common.{◌≡◌, ℕ, ◌+◌, ◌-◌, ◌<◌, Bool, true, false, List, [], ◌∷◌, ◌++◌, length, ◌∙◌, subst, arith}
use Rattle.std.proofs.lemmas.List.{get_or_default}
use Rattle.std.proofs.lemmas.List.Elements.{All-append, All-cons, All-nil, All-head, All-tail}
use Rattle.sorting_rule.specs.Examples.{Example}
use Rattle.literals_core.specs.Values.{clause_true, Satisfies}
use Rattle.encoding_rules.specs.Each.{each, listed}
use Rattle.encoding_rules.specs.Task.{Task, criteria, boundaries, goods, bads, good_at, bad_at, nobody}
use Rattle.encoding_rules.specs.Ranks.{count_at, rank}
use Rattle.encoding_rules.specs.Unknowns.{accepted, separated}
use Rattle.encoding_rules.specs.Shared.{better_clause, lower_clause, better_clauses, lower_clauses}
use Rattle.encoding_rules.specs.Separation.{good_clause, bad_clause, some_clause, pair_clauses, separated_clauses, separation_clauses}
use Rattle.encoding_rules.specs.Meaning.{IsNested, accepts_at, SetsApart}
use Rattle.encoding_rules.proofs.EachFacts.{All-left, All-right, each_all, all_each, listed_all, all_listed}
use Rattle.encoding_rules.proofs.TruthFacts.{gives, given, excludes, excluded, some_of, of_some}

module _ (task : Task) (values : ℕ → Bool) where
  abbrev pub IsTrueClause : List ℕ → Type 0
  IsTrueClause clause = clause_true values clause ≡ true

  -- groups 1 and 2
  pub nested_better : Satisfies values (better_clauses task) → (i b k : ℕ) → i < criteria task → b < boundaries task → k + 1 < count_at task i → values (accepted task i b k) ≡ true → values (accepted task i b (k + 1)) ≡ true
  unfolding better_clauses
  nested_better h i b k li lb lk =
      let row = all_each IsTrueClause (λ i. each (λ b. listed (better_clause task i b) (count_at task i - 1)) (boundaries task)) (criteria task) h i li in
      let cell = all_each IsTrueClause (λ b. listed (better_clause task i b) (count_at task i - 1)) (boundaries task) row b lb in
      gives values (accepted task i b k) (accepted task i b (k + 1)) (all_listed IsTrueClause (better_clause task i b) (count_at task i - 1) cell k (omega (arith, lk)))

  pub nested_lower : Satisfies values (lower_clauses task) → (i b k : ℕ) → i < criteria task → b + 1 < boundaries task → k < count_at task i → values (accepted task i (b + 1) k) ≡ true → values (accepted task i b k) ≡ true
  unfolding lower_clauses
  nested_lower h i b k li lb lk =
      let row = all_each IsTrueClause (λ i. each (λ b. listed (lower_clause task i b) (count_at task i)) (boundaries task - 1)) (criteria task) h i li in
      let cell = all_each IsTrueClause (λ b. listed (lower_clause task i b) (count_at task i)) (boundaries task - 1) row b (omega (arith, lb)) in
      gives values (accepted task i (b + 1) k) (accepted task i b k) (all_listed IsTrueClause (lower_clause task i b) (count_at task i) cell k lk)

  pub better_from : IsNested task values → Satisfies values (better_clauses task)
  unfolding better_clauses
  better_from n =
      each_all IsTrueClause (λ i. each (λ b. listed (better_clause task i b) (count_at task i - 1)) (boundaries task)) (criteria task) (λ i li.
      each_all IsTrueClause (λ b. listed (better_clause task i b) (count_at task i - 1)) (boundaries task) (λ b lb.
      listed_all IsTrueClause (better_clause task i b) (count_at task i - 1) (λ k lk.
      given values (accepted task i b k) (accepted task i b (k + 1)) (n.better i b k li lb (omega (arith, lk))))))

  pub lower_from : IsNested task values → Satisfies values (lower_clauses task)
  unfolding lower_clauses
  lower_from n =
      each_all IsTrueClause (λ i. each (λ b. listed (lower_clause task i b) (count_at task i)) (boundaries task - 1)) (criteria task) (λ i li.
      each_all IsTrueClause (λ b. listed (lower_clause task i b) (count_at task i)) (boundaries task - 1) (λ b lb.
      listed_all IsTrueClause (lower_clause task i b) (count_at task i) (λ k lk.
      given values (accepted task i (b + 1) k) (accepted task i b k) (n.lower i b k li (omega (arith, lb)) lk))))

  -- what the values say of a pair
  pub record PairHolds (a b : ℕ) : Type 0 where
    pub good : (i : ℕ) → i < criteria task → values (separated task a b i) ≡ true → accepts_at task values i ((good_at task a).category - 1) (good_at task a) ≡ true
    pub bad : (i : ℕ) → i < criteria task → values (separated task a b i) ≡ true → accepts_at task values i (bad_at task b).category (bad_at task b) ≡ false
    pub some : (i : ℕ) × (i < criteria task) × (values (separated task a b i) ≡ true)

  abbrev both_clauses : ℕ → ℕ → ℕ → List (List ℕ)
  both_clauses a b i = good_clause task a b i ∷ bad_clause task a b i ∷ []

  pair_holds : (a b : ℕ) → Satisfies values (pair_clauses task a b) → PairHolds a b
  pair_holds a b h =
      let firsts = All-left IsTrueClause (each (both_clauses a b) (criteria task)) (some_clause task a b ∷ []) h in
      let last = All-head IsTrueClause (some_clause task a b) [] (All-right IsTrueClause (each (both_clauses a b) (criteria task)) (some_clause task a b ∷ []) h) in
      let g : Example = good_at task a in
      let e : Example = bad_at task b in
      record {
        good = λ i li s. gives values (separated task a b i) (accepted task i (g.category - 1) (rank task i g))
            (All-head IsTrueClause (good_clause task a b i) (bad_clause task a b i ∷ []) (all_each IsTrueClause (both_clauses a b) (criteria task) firsts i li)) s;
        bad = λ i li s. excludes values (separated task a b i) (accepted task i e.category (rank task i e))
            (All-head IsTrueClause (bad_clause task a b i) [] (All-tail IsTrueClause (good_clause task a b i) (bad_clause task a b i ∷ []) (all_each IsTrueClause (both_clauses a b) (criteria task) firsts i li))) s;
        some = some_of values (separated task a b) (criteria task) last;
      }

  holds_pair : (a b : ℕ) → PairHolds a b → Satisfies values (pair_clauses task a b)
  holds_pair a b p =
      let g : Example = good_at task a in
      let e : Example = bad_at task b in
      All-append IsTrueClause (each (both_clauses a b) (criteria task)) (some_clause task a b ∷ [])
      (each_all IsTrueClause (both_clauses a b) (criteria task) (λ i li.
      All-cons IsTrueClause (good_clause task a b i) (bad_clause task a b i ∷ [])
      (given values (separated task a b i) (accepted task i (g.category - 1) (rank task i g)) (p.good i li))
      (All-cons IsTrueClause (bad_clause task a b i) [] (excluded values (separated task a b i) (accepted task i e.category (rank task i e)) (p.bad i li)) (All-nil IsTrueClause))))
      (All-cons IsTrueClause (some_clause task a b) [] (of_some values (separated task a b) (criteria task) p.some.0 p.some.1 p.some.2) (All-nil IsTrueClause))

  pub pairs_hold : Satisfies values (separated_clauses task) → (a b : ℕ) → a < length (goods task) → b < length (bads task) → PairHolds a b
  unfolding separated_clauses
  pairs_hold h a b la lb =
      let row = all_each IsTrueClause (λ a. each (pair_clauses task a) (length (bads task))) (length (goods task)) h a la in
      pair_holds a b (all_each IsTrueClause (pair_clauses task a) (length (bads task)) row b lb)

  hold_pairs : ((a b : ℕ) → a < length (goods task) → b < length (bads task) → PairHolds a b) → Satisfies values (separated_clauses task)
  unfolding separated_clauses
  hold_pairs h =
      each_all IsTrueClause (λ a. each (pair_clauses task a) (length (bads task))) (length (goods task)) (λ a la.
      each_all IsTrueClause (pair_clauses task a) (length (bads task)) (λ b lb. holds_pair a b (h a b la lb)))

  -- the formula's values are nested
  pub nested : Satisfies values (separation_clauses task) → IsNested task values
  nested h =
      let first = All-left IsTrueClause (better_clauses task) (lower_clauses task ++ separated_clauses task) h in
      let rest = All-right IsTrueClause (better_clauses task) (lower_clauses task ++ separated_clauses task) h in
      record { better = nested_better first; lower = nested_lower (All-left IsTrueClause (lower_clauses task) (separated_clauses task) rest) }

  -- and keep the sets apart
  pub apart : Satisfies values (separation_clauses task) → SetsApart task values
  unfolding good_at bad_at
  apart h g e in_g in_e =
      let last = All-right IsTrueClause (lower_clauses task) (separated_clauses task) (All-right IsTrueClause (better_clauses task) (lower_clauses task ++ separated_clauses task) h) in
      let p = pairs_hold last in_g.0 in_e.0 in_g.1 in_e.1 in
      let is_g : good_at task in_g.0 ≡ g = get_or_default (goods task) in_g.0 nobody g in_g.1 ∙ in_g.2 in
      let is_e : bad_at task in_e.0 ≡ e = get_or_default (bads task) in_e.0 nobody e in_e.1 ∙ in_e.2 in
      let i : ℕ = p.some.0 in (
        i,
        p.some.1,
        subst (λ x. accepts_at task values i (x.category - 1) x ≡ true) is_g (p.good i p.some.1 p.some.2),
        subst (λ x. accepts_at task values i x.category x ≡ false) is_e (p.bad i p.some.1 p.some.2),
      )

  pub satisfied : IsNested task values → ((a b : ℕ) → a < length (goods task) → b < length (bads task) → PairHolds a b) → Satisfies values (separation_clauses task)
  satisfied n h = All-append IsTrueClause (better_clauses task) (lower_clauses task ++ separated_clauses task) (better_from n)
      (All-append IsTrueClause (lower_clauses task) (separated_clauses task) (lower_from n) (hold_pairs h))
