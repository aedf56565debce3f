-- The three outcomes.
use Rattle.std.proofs.Common.{◌≡◌, ◌≢◌, ℕ, zero, suc, ◌+◌, ◌-◌, ◌*◌, ◌%◌, ◌<◌, ◌≤◌, ◌==◌, Bool, not, true, false, cond, List, [], ◌∷◌, ◌++◌, length, get_or, map, take, None, Some, refl, sym, ◌∙◌, ap, subst, arith, ◌⊎◌, inl, inr}
use Rattle.std.specs.List.{All, Contains, IsDistinct, slice_get}
use Rattle.std.proofs.lemmas.Bool.{cases_Bool, cases_eq}
use Rattle.std.proofs.lemmas.Bool.Decides.{eqb_tells, nat_tests}
use Rattle.std.proofs.lemmas.List.{get_or_default, length-map, get_or-map, append-nil}
use Rattle.std.proofs.lemmas.List.Elements.{All-contains, All-nil, Contains-get_or, Contains-append_right, Contains-append_left}
use Rattle.std.proofs.lemmas.List.Folds.{list_any-from_Any}
use Rattle.literals_core.specs.Literal.{negation, variable_of}
use Rattle.literals_core.specs.Truth.{IsTrueUnder, IsFalseUnder, is_true, is_false}
use Rattle.literals_core.specs.Settled.{IsSettled}
use Rattle.literals_core.proofs.Negation.{negation_twice, same_variable}
use Rattle.literals_core.proofs.Truth.{tested_true, true_tested}
use Rattle.literals_core.specs.Formula.{Cnf, InRange, AreLiterals}
use Rattle.chain_core.specs.Fresh.{HasNoPair, LeavesOne, IsFresh}
use Rattle.chain_core.specs.Log.{known_after, known_before}
use Rattle.literals_core.specs.Values.{literal_true, clause_true, Satisfies}
use Rattle.chain_core.specs.declared.log.Lemma.{Lemma}
use Rattle.search_core.specs.Bounds.{PropagationEnds, NoneSubsumed}
use Rattle.search_core.proofs.ListLemmas.{all_of, map_member}
use Rattle.chain_core.proofs.FreshLemmas.{fresh_lemma, given_in, no_conflict_in}
use Rattle.literals_core.proofs.Members.{Contains-first, Contains-later}
use Rattle.watch_core.specs.Trail.{Assignment, Entry, IsTrail, places, cut, value_of}
use Rattle.watch_core.specs.Places.{placed}
use Rattle.watch_core.specs.Rest.{IsAtRest, IsInConflict, AllSettled}
use Rattle.watch_core.proofs.LevelLemmas.{cut_all}
use Rattle.watch_core.proofs.ReasonLemmas.{two_false}
use Rattle.search_core.specs.Inner.{outer, outer_clauses}
use Rattle.search_core.proofs.InnerLemmas.{outer_no_pair, all_settled, outer_real, value_of_outer, is_true_outer}
use Rattle.search_core.specs.Values.{value_at}
use Rattle.search_core.specs.Analysis.{AreInside, HasCurrent}
use Rattle.search_core.proofs.FreshLemmas.{placed_is, cut_no_pair, settled_at}
use Rattle.watch_core.proofs.StepLemmas.{free_of}
use Rattle.search_core.specs.Outcomes.{NoneEmpty, IsAtLimit, IsModel}
use Rattle.search_core.specs.State.{place, entry_at, no_entry, IsSound, GoesOn, AreAssigned}
use Rattle.search_core.proofs.PowerLemmas.{subsumed_few}
use Rattle.search_core.proofs.LogLemmas.{HasLearned, none_good}

-- unit propagation from a formula alone does not end where a set settles the clauses and leaves a literal open
pub no_end : (formula : Cnf) (literals set : List ℕ) → HasNoPair set → All (IsSettled set) formula.clauses → LeavesOne set literals → All (λ l. (2 ≤ l) × (variable_of l ≤ formula.variables)) literals → ¬ PropagationEnds formula
no_end formula literals set pair settled one inside (inl conflict) = no_conflict_in formula.clauses [] set pair settled (All-nil (Contains set)) conflict
no_end formula literals set pair settled one inside (inr whole) =
    let v : ℕ = variable_of one.left in
    let at = All-contains (λ l. (2 ≤ l) × (variable_of l ≤ formula.variables)) literals one.left inside one.among in
    elim (whole v (omega (arith, at.0)) at.1) [
      | inl plus ↦ decide (2 * v) (given_in formula.clauses [] set (2 * v) pair settled (All-nil (Contains set)) plus) (same_variable (2 * v) one.left (omega arith))
      | inr minus ↦ decide (2 * v + 1) (given_in formula.clauses [] set (2 * v + 1) pair settled (All-nil (Contains set)) minus) (same_variable (2 * v + 1) one.left (omega arith))
    ]
  where
    decide : (y : ℕ) → Contains set y → (y ≡ one.left) ⊎ (y ≡ negation one.left) → ⊥
    decide y has (inl same) = one.not_true (subst (Contains set) same has)
    decide y has (inr other) = one.not_false (subst (Contains set) other has)

slice_at : {A : Type 0} (xs : List A) (i : ℕ) (d : A) → i < length xs → slice_get xs i ≡ Some (get_or xs i d)
slice_at [] i d lt = absurd (omega (arith, lt))
slice_at (x ∷ xs) zero d lt = refl
slice_at (x ∷ xs) (suc i) d lt = slice_at xs i d (omega (arith, lt))

nothing : Lemma
nothing = record { id = 0; literals = []; hints = [] }

-- the literals of the lemmas of a running search are of the formula's variables
pub lemma_range : (formula : Cnf) (log : List Lemma) (clauses : List (List ℕ)) (t : Assignment ℕ) (k : ℕ) (lemma : Lemma) → HasLearned formula log clauses t → slice_get log k ≡ Some lemma → All (λ l. (2 ≤ l) × (variable_of l ≤ formula.variables)) lemma.literals
lemma_range formula log clauses t k lemma on e = all_of (λ l. (2 ≤ l) × (variable_of l ≤ formula.variables)) lemma.literals (λ l has.
    let good = on.good k lemma e in
    let most = All-contains (λ l. variable_of l ≤ formula.variables) lemma.literals l good.literals has in
    let at = in_known formula.clauses log k lemma e in
    let member : Contains (get_or (known_after formula log) at.0 []) l = subst (λ (c : List ℕ). Contains c l) (sym at.1) has in
    let real = outer_real on.inner at.0 l (subst (λ (ks : List (List ℕ)). Contains (get_or ks at.0 []) l) (sym on.same) member) in
    (real, most))
  where
    found : (log : List Lemma) (k : ℕ) (lemma : Lemma) → slice_get log k ≡ Some lemma → get_or (map (λ (l : Lemma). l.literals) log) k [] ≡ lemma.literals
    found [] k lemma e = absurd (cc)
    found (x ∷ log) zero lemma e = (let same : x ≡ lemma = cc in ap (λ (l : Lemma). l.literals) same)
    found (x ∷ log) (suc k) lemma e = found log k lemma e

    in_known : (first : List (List ℕ)) (log : List Lemma) (k : ℕ) (lemma : Lemma) → slice_get log k ≡ Some lemma → (c : ℕ) × (get_or (first ++ map (λ (l : Lemma). l.literals) log) c [] ≡ lemma.literals)
    in_known [] log k lemma e = (k, found log k lemma e)
    in_known (c ∷ first) log k lemma e = (let rest = in_known first log k lemma e in (suc rest.0, rest.1))

pub lemmas_range : (formula : Cnf) (log : List Lemma) (clauses : List (List ℕ)) (t : Assignment ℕ) → HasLearned formula log clauses t → AreLiterals formula.variables (map (λ (l : Lemma). l.literals) log)
lemmas_range formula log clauses t on k d lt =
    let size = length-map log (λ (l : Lemma). l.literals) in
    let read = get_or-map (λ (l : Lemma). l.literals) log k nothing d (omega (arith, lt, size)) in
    subst (λ (c : List ℕ). All (λ l. (2 ≤ l) × (variable_of l ≤ formula.variables)) c) (sym read) (lemma_range formula log clauses t k (get_or log k nothing) on (slice_at log k nothing (omega (arith, lt, size))))

-- no lemma of a fresh log is subsumed by an earlier one
pub log_subsumed : (formula : Cnf) (log : List Lemma) → AreLiterals formula.variables (map (λ (l : Lemma). l.literals) log) → IsFresh formula log → NoneSubsumed formula.variables (map (λ (l : Lemma). l.literals) log)
log_subsumed formula log literals fresh = record {
  literals = literals;
  no_pair = λ k d lt. subst HasNoPair (sym (read k d lt)) (fresh k (get_or log k nothing) (slice_at log k nothing (at k d lt))).0;
  later = λ i j before lt all.
      fresh_lemma formula log j (get_or log j nothing) (get_or log i nothing).literals fresh (slice_at log j nothing (at j [] lt)) (earlier i j before (at j [] lt))
      (subst (λ (c : List ℕ). All (Contains c) (get_or log i nothing).literals) (read j [] lt) (subst (λ (c : List ℕ). All (Contains (get_or (map (λ (l : Lemma). l.literals) log) j [])) c) (read i [] (omega (arith, before, lt))) all));
} where
  size : length (map (λ (l : Lemma). l.literals) log) ≡ length log
  size = length-map log (λ (l : Lemma). l.literals)

  at : (k : ℕ) (d : List ℕ) → k < length (map (λ (l : Lemma). l.literals) log) → k < length log
  at k d lt = omega (arith, lt, size)

  read : (k : ℕ) (d : List ℕ) → k < length (map (λ (l : Lemma). l.literals) log) → get_or (map (λ (l : Lemma). l.literals) log) k d ≡ (get_or log k nothing).literals
  read k d lt = get_or-map (λ (l : Lemma). l.literals) log k nothing d (at k d lt)

  earlier : (i j : ℕ) → i < j → j < length log → Contains (known_before formula log j) (get_or log i nothing).literals
  earlier i j before lt = Contains-append_right formula.clauses (map (λ (l : Lemma). l.literals) (take j log)) (get_or log i nothing).literals (map_member (λ (l : Lemma). l.literals) (take j log) (get_or log i nothing) (taken log i j before lt)) where
    taken : (log : List Lemma) (i j : ℕ) → i < j → j < length log → Contains (take j log) (get_or log i nothing)
    taken [] i j before lt = absurd (omega (arith, lt))
    taken (x ∷ log) i zero before lt = absurd (omega (arith, before))
    taken (x ∷ log) zero (suc j) before lt = Contains-first x (take j log)
    taken (x ∷ log) (suc i) (suc j) before lt = Contains-later x (get_or log i nothing) (take j log) (taken log i j (omega (arith, before)) (omega (arith, lt)))

-- the limit
pub at_limit : (formula : Cnf) (log : List Lemma) (clauses : List (List ℕ)) (t : Assignment ℕ) (most : ℕ) → 1 ≤ most → length log ≡ most → HasLearned formula log clauses t → IsAtLimit formula most log × ¬ PropagationEnds formula
at_limit formula log clauses t most least count on =
    let few = subsumed_few formula.variables (map (λ (l : Lemma). l.literals) log) (log_subsumed formula log (lemmas_range formula log clauses t on) on.fresh) (none log on.none_empty) in
    let size = length-map log (λ (l : Lemma). l.literals) in
    let first : Lemma = get_or log 0 nothing in
    let there = slice_at log 0 nothing (omega (arith, least, count)) in
    let fresh = (on.fresh 0 first there).1 in (
      record { good = on.good; fresh = on.fresh; count = count; none_empty = on.none_empty; few = omega (arith, few, size, count) },
      no_end formula first.literals fresh.0 fresh.1.consistent (subst (λ (cs : List (List ℕ)). All (IsSettled fresh.0) cs) (append-nil formula.clauses) fresh.1.settled) fresh.1.one (lemma_range formula log clauses t 0 first on there),
    )
  where
    none : (log : List Lemma) → NoneEmpty log → All (λ c. c ≢ []) (map (λ (l : Lemma). l.literals) log)
    none log some k d lt e =
        let size = length-map log (λ (l : Lemma). l.literals) in
        let read = get_or-map (λ (l : Lemma). l.literals) log k nothing d (omega (arith, lt, size)) in
        some k nothing (omega (arith, lt, size)) (sym read ∙ e)

-- where every variable is assigned, a literal of a known variable that isn't false is true
not_false_true : (set : List ℕ) (l : ℕ) → value_of set (2 * variable_of l + 1) ≢ None → ¬ IsFalseUnder set l → IsTrueUnder set l
not_false_true set l some out = elim (cases_eq l (2 * variable_of l)) [
  | inl even ↦
      (let opposite : negation l ≡ 2 * variable_of l + 1 = up l even in
      elim (cases_Bool (is_true set (2 * variable_of l + 1))) [
        | inl has ↦ absurd (out (subst (Contains set) (sym opposite) (tested_true set (2 * variable_of l + 1) has)))
        | inr no' ↦ (elim (cases_Bool (is_false set (2 * variable_of l + 1))) [
          | inl has ↦ subst (Contains set) (ap negation (sym opposite) ∙ negation_twice l) (tested_true set (negation (2 * variable_of l + 1)) has)
          | inr nor ↦ absurd (some (free_of set (2 * variable_of l + 1) no' nor))
        ])
      ])
  | inr odd ↦
      (let is : l ≡ 2 * variable_of l + 1 = omega (arith, odd) in
      elim (cases_Bool (is_true set (2 * variable_of l + 1))) [
        | inl has ↦ subst (Contains set) (sym is) (tested_true set (2 * variable_of l + 1) has)
        | inr no' ↦ (elim (cases_Bool (is_false set (2 * variable_of l + 1))) [
          | inl has ↦ absurd (out (subst (λ x. Contains set (negation x)) (sym is) (tested_true set (negation (2 * variable_of l + 1)) has)))
          | inr nor ↦ absurd (some (free_of set (2 * variable_of l + 1) no' nor))
        ])
      ])
] where
  up : (l : ℕ) → l ≡ 2 * variable_of l → negation l ≡ 2 * variable_of l + 1
  up l e = grind (arith, nat_tests)

-- a true literal has its truth value
literal_is : (set : List ℕ) (values : ℕ → Bool) (l : ℕ) → HasNoPair set → values (variable_of l) ≡ is_true set (2 * variable_of l) → Contains set l → literal_true values l ≡ true
literal_is set values l pair value has = elim (eqb_tells (l % 2) 0) [
  | inl even ↦ ap (λ b. cond b (values (variable_of l)) (not (values (variable_of l)))) even.0 ∙ value ∙ true_tested set (2 * variable_of l) (subst (Contains set) (plus l even.1) has)
  | inr odd ↦ ap (λ b. cond b (values (variable_of l)) (not (values (variable_of l)))) odd.0 ∙ ap not (value ∙ none odd.1)
] where
  plus : (l : ℕ) → l % 2 ≡ 0 → l ≡ 2 * variable_of l
  plus l e = omega (arith, e)

  none : l % 2 ≢ 0 → is_true set (2 * variable_of l) ≡ false
  none odd = elim (cases_Bool (is_true set (2 * variable_of l))) [
    | inr no' ↦ no'
    | inl both ↦ (elim (same_variable (2 * variable_of l) l (omega arith)) [
      | inl same ↦ absurd (odd (omega (arith, same)))
      | inr other ↦ absurd (All-contains (λ l. ¬ Contains set (negation l)) set l pair has (subst (Contains set) other (tested_true set (2 * variable_of l) both)))
    ])
  ]

-- the values make every clause true
pub satisfied : (clauses : List (List ℕ)) (set : List ℕ) (values : ℕ → Bool) (variables : ℕ) → HasNoPair set → All (IsSettled set) clauses
    → All (λ clause. All (λ l. (2 ≤ l) × (variable_of l ≤ variables)) clause) clauses
    → ((v : ℕ) → 1 ≤ v → v ≤ variables → value_of set (2 * v + 1) ≢ None)
    → ((v : ℕ) → 1 ≤ v → v ≤ variables → values v ≡ is_true set (2 * v)) → Satisfies values clauses
satisfied clauses set values variables pair settled inside some is = all_of (λ clause. clause_true values clause ≡ true) clauses (λ clause has.
    from clause (All-contains (λ clause. All (λ l. (2 ≤ l) × (variable_of l ≤ variables)) clause) clauses clause inside has) (All-contains (IsSettled set) clauses clause settled has))
  where
    by_literal : (clause : List ℕ) (l : ℕ) → All (λ l. (2 ≤ l) × (variable_of l ≤ variables)) clause → Contains clause l → Contains set l → clause_true values clause ≡ true
    by_literal clause l range has true' =
        let at = All-contains (λ l. (2 ≤ l) × (variable_of l ≤ variables)) clause l range has in
        list_any-from_Any (literal_true values) clause (has.0, l, has.1, has.2, literal_is set values l pair (is (variable_of l) (omega (arith, at.0)) at.1) true')

    from : (clause : List ℕ) → All (λ l. (2 ≤ l) × (variable_of l ≤ variables)) clause → IsSettled set clause → clause_true values clause ≡ true
    from clause range (inl (k, x, lt, e, holds)) = by_literal clause x range (k, lt, e) holds
    from clause range (inr two) =
        let at = All-contains (λ l. (2 ≤ l) × (variable_of l ≤ variables)) clause two.first range two.among.0 in
        by_literal clause two.first range two.among.0 (not_false_true set two.first (some (variable_of two.first) (omega (arith, at.0)) at.1) two.not_false.0)

pub inside_from : (t t' : Assignment ℕ) (clauses clauses' : List (List ℕ)) → t' ≡ t → clauses' ≡ clauses → ((c l : ℕ) → Contains (get_or (placed place clauses) c []) l → l < 2 * t.variables) → AreInside t' clauses'
inside_from t t' clauses clauses' e es inside = subst (λ (u : Assignment ℕ). AreInside u clauses') (sym e) (subst (λ (cs : List (List ℕ)). AreInside t cs) (sym es) (subst (λ (cs : List (List ℕ)). AreInside t cs) (placed_is clauses) inside))

-- a conflict of `propagate` has a literal of the current level
pub conflict_current : (t : Assignment ℕ) (clauses : List (List ℕ)) (id : ℕ) → IsTrail place t → IsInConflict place t (placed place clauses) id → 0 < t.level → HasCurrent t (get_or clauses id [])
conflict_current t clauses id trail out above =
    let clause : List ℕ = get_or (placed place clauses) id [] in
    let two = two_false place t (placed place clauses) id trail out above in
    let one = two.falses.0 in
    let x : ℕ = get_or clause two.first 0 in
    let is : negation (entry_at t one.0).literal ≡ x = ap negation (one.2 no_entry).0 ∙ negation_twice x in
    let has : Contains clause x = Contains-get_or clause two.first 0 (omega (arith, two.apart, two.inside)) in
    (one.0, one.1, (one.2 no_entry).1, subst (λ (cs : List (List ℕ)). Contains (get_or cs id []) (negation (entry_at t one.0).literal)) (placed_is clauses) (subst (Contains clause) (sym is) has))

-- the model
pub model_at_rest : (formula : Cnf) (log : List Lemma) (clauses : List (List ℕ)) (t : Assignment ℕ) (values : List Bool) (count : ℕ) → IsTrail place t → IsAtRest place t (placed place clauses) → ((c : ℕ) → IsDistinct (λ x y. x == y) (get_or (placed place clauses) c []))
    → HasLearned formula log clauses t → InRange formula.variables formula.clauses → AreAssigned t count → count ≡ formula.variables → length values ≡ count
    → ((v : ℕ) → v < count → get_or values v false ≡ is_true (places place t.entries) (2 * v)) → IsModel formula values
model_at_rest formula log clauses t values count trail rest distinct on range assigned' size length' values' = record {
  count = omega (arith, size, length');
  satisfies = satisfied formula.clauses (map outer set) (value_at values) formula.variables (outer_no_pair set pair) settled inside some true';
} where
  set : List ℕ
  set = places place t.entries

  whole : cut t.entries t.level ≡ t.entries
  whole = cut_all t.entries t.level trail.leveled.below

  pair : HasNoPair (places place t.entries)
  pair = subst (λ (es : List (Entry ℕ)). HasNoPair (places place es)) whole (cut_no_pair t t.level trail)

  known' : All (IsSettled (places place t.entries)) on.inner
  known' = subst (λ (es : List (Entry ℕ)). All (IsSettled (places place es)) on.inner) whole
      (settled_at t on.inner clauses t.level on.sound (subst (λ (es : List (Entry ℕ)). AllSettled (places place es) (placed place clauses)) (sym whole) rest.whole) distinct)

  settled : All (IsSettled (map outer (places place t.entries))) formula.clauses
  settled =
      let all = subst (λ (ks : List (List ℕ)). All (IsSettled (map outer (places place t.entries))) ks) on.same (all_settled (places place t.entries) on.inner known') in
      all_of (IsSettled (map outer (places place t.entries))) formula.clauses (λ c has. All-contains (IsSettled (map outer (places place t.entries))) (known_after formula log) c all (Contains-append_left formula.clauses (map (λ (l : Lemma). l.literals) log) c has))

  some : (v : ℕ) → 1 ≤ v → v ≤ formula.variables → value_of (map outer (places place t.entries)) (2 * v + 1) ≢ None
  some v from to e =
      let lift : outer (2 * (v - 1) + 1) ≡ 2 * v + 1 = omega (arith, from) in
      assigned' (v - 1) (omega (arith, from, to, size)) (sym (value_of_outer (places place t.entries) (2 * (v - 1) + 1)) ∙ ap (value_of (map outer (places place t.entries))) lift ∙ e)

  true' : (v : ℕ) → 1 ≤ v → v ≤ formula.variables → value_at values v ≡ is_true (map outer (places place t.entries)) (2 * v)
  true' v from to =
      let lift : outer (2 * (v - 1)) ≡ 2 * v = omega (arith, from) in
      values' (v - 1) (omega (arith, from, to, size)) ∙ sym (is_true_outer (places place t.entries) (2 * (v - 1))) ∙ ap (is_true (map outer (places place t.entries))) lift

  inside : All (λ clause. All (λ l. (2 ≤ l) × (variable_of l ≤ formula.variables)) clause) formula.clauses
  inside = λ k d lt. all_of (λ l. (2 ≤ l) × (variable_of l ≤ formula.variables)) (get_or formula.clauses k d) (λ l has.
      (let most = All-contains (λ l. variable_of l ≤ formula.variables) (get_or formula.clauses k d) l (range k d lt) has in
      let row : get_or (known_after formula log) k [] ≡ get_or formula.clauses k d = first_rows formula.clauses (map (λ (l : Lemma). l.literals) log) k lt ∙ get_or_default formula.clauses k [] d lt in
      let real = outer_real on.inner k l (subst (λ (ks : List (List ℕ)). Contains (get_or ks k []) l) (sym on.same) (subst (λ (c : List ℕ). Contains c l) (sym row) has)) in
      (real, most))) where
        first_rows : (xs ys : List (List ℕ)) (k : ℕ) → k < length xs → get_or (xs ++ ys) k [] ≡ get_or xs k []
        first_rows [] ys k lt = absurd (omega (arith, lt))
        first_rows (x ∷ xs) ys zero lt = refl
        first_rows (x ∷ xs) ys (suc k) lt = first_rows xs ys k (omega (arith, lt))

-- what held goes on to hold after decisions and propagation
pub on_goes : (formula : Cnf) (log : List Lemma) (clauses clauses' : List (List ℕ)) (t t' : Assignment ℕ) → HasLearned formula log clauses t → GoesOn clauses t clauses' t' → HasLearned formula log clauses' t'
on_goes formula log clauses clauses' t t' on goes = record {
  inner = on.inner;
  same = on.same;
  sound = subst (λ n. IsSound n on.inner clauses' t') (sym goes.count) (goes.sound (length clauses) on.inner on.sound);
  good = on.good;
  fresh = on.fresh;
  none_empty = on.none_empty;
}

-- at the beginning
pub on_start : (formula : Cnf) (inner clauses : List (List ℕ)) (t : Assignment ℕ) → outer_clauses inner ≡ formula.clauses → IsSound (length clauses) inner clauses t → HasLearned formula [] clauses t
on_start formula inner clauses t same sound = record {
  inner = inner;
  same = same ∙ sym (append-nil formula.clauses);
  sound = sound;
  good = none_good formula;
  fresh = λ k lemma e. absurd (none k lemma e);
  none_empty = λ k d lt. absurd (omega (arith, lt));
} where
  none : (k : ℕ) (lemma : Lemma) → slice_get {X = Lemma} [] k ≡ Some lemma → ⊥
  none k lemma e = cc
