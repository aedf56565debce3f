-- A log with one more lemma of an analysis.
use Rattle.std.proofs.Common.{◌≡◌, ◌≢◌, ℕ, zero, suc, ◌+◌, ◌<◌, ◌≤◌, ◌==◌, List, [], ◌∷◌, ◌++◌, length, get_or, map, take, reverse, None, Some, refl, sym, ◌∙◌, ap, subst, arith}
use Rattle.std.specs.List.{All, Contains, IsDistinct, slice_get}
use Rattle.std.proofs.lemmas.List.{map-append, append_assoc, get_or_default, length-append, length-map}
use Rattle.std.proofs.lemmas.List.Elements.{All-append}
use Rattle.std.proofs.lemmas.List.Sorted.{All-permutation, Contains-permutation, IsPermutation-reverse}
use Rattle.literals_core.specs.Literal.{negation, variable_of}
use Rattle.literals_core.specs.Truth.{IsFalseUnder}
use Rattle.literals_core.proofs.Members.{Contains-first, Contains-later}
use Rattle.literals_core.proofs.Negation.{negation_twice, variable_of-negation}
use Rattle.watch_core.specs.Trail.{Assignment, Entry, IsTrail, waiting, undone}
use Rattle.watch_core.specs.Places.{placed}
use Rattle.watch_core.specs.Rest.{SettledBelow}
use Rattle.literals_core.specs.Formula.{Cnf}
use Rattle.chain_core.specs.Chain.{Chains}
use Rattle.chain_core.specs.Log.{known_after, IsGood, IsGoodLemma, IsRefutation}
use Rattle.chain_core.specs.Fresh.{IsFresh, HasNoPair, ShowsFresh}
use Rattle.chain_core.specs.declared.log.Lemma.{Lemma}
use Rattle.watch_core.specs.Propagates.{AreReordered}
use Rattle.search_core.specs.Outcomes.{NoneEmpty}
use Rattle.search_core.specs.Inner.{outer, outer_clauses}
use Rattle.search_core.proofs.InnerLemmas.{all_mapped, outer_chains, map_negation, outer_no_pair, outer_fresh}
use Rattle.search_core.specs.State.{place, IsSound}
use Rattle.search_core.specs.Analysis.{IsPoint, Show, IsLearned}
use Rattle.search_core.proofs.ListLemmas.{all_of, all_map, map_member}
use Rattle.search_core.proofs.EntryLemmas.{variable_inside}
use Rattle.search_core.proofs.FreshLemmas.{shows_fresh}
use Rattle.search_core.proofs.StateLemmas.{sound_undone, sound_learned}
use Rattle.search_core.proofs.LearnLemmas.{learnable, level_low, lower_false, lower_inside}

-- what holds of each lemma after those before it
each_more : (P : List Lemma → Lemma → Type 0) (log : List Lemma) (lemma : Lemma) → ((k : ℕ) (l : Lemma) → slice_get log k ≡ Some l → P (take k log) l) → P log lemma
    → (k : ℕ) (l : Lemma) → slice_get (log ++ lemma ∷ []) k ≡ Some l → P (take k (log ++ lemma ∷ [])) l
each_more P [] lemma h p zero l e = (let same : lemma ≡ l = cc in subst (λ (x : Lemma). P [] x) same p)
each_more P [] lemma h p (suc k) l e = absurd (cc)
each_more P (x ∷ log) lemma h p zero l e = h zero l e
each_more P (x ∷ log) lemma h p (suc k) l e = each_more (λ pre l. P (x ∷ pre) l) log lemma (λ k l e. h (suc k) l e) p k l e

pub good_more : (formula : Cnf) (log : List Lemma) (lemma : Lemma) → IsGood formula log → IsGoodLemma formula.variables (known_after formula log) lemma → IsGood formula (log ++ lemma ∷ [])
good_more formula log lemma good last = each_more (λ pre l. IsGoodLemma formula.variables (known_after formula pre) l) log lemma good last

pub fresh_more : (formula : Cnf) (log : List Lemma) (lemma : Lemma) → IsFresh formula log → HasNoPair lemma.literals × ((set : List ℕ) × ShowsFresh (known_after formula log) lemma.literals set) → IsFresh formula (log ++ lemma ∷ [])
fresh_more formula log lemma fresh last = each_more (λ pre l. HasNoPair l.literals × ((set : List ℕ) × ShowsFresh (known_after formula pre) l.literals set)) log lemma fresh last

-- the clauses known after one more lemma
pub known_more : (formula : Cnf) (log : List Lemma) (lemma : Lemma) → known_after formula (log ++ lemma ∷ []) ≡ known_after formula log ++ lemma.literals ∷ []
known_more formula log lemma = ap (λ (xs : List (List ℕ)). formula.clauses ++ xs) (map-append (λ (l : Lemma). l.literals) log (lemma ∷ [])) ∙ sym (append_assoc formula.clauses (map (λ (l : Lemma). l.literals) log) (lemma.literals ∷ []))

-- what an analysis gave, for one formula and its log
pub record IsFound (t : Assignment ℕ) (clauses : List (List ℕ)) (lower : List ℕ) (point : ℕ) (hints : List ℕ) : Type 0 where
  pub trail : IsTrail place t
  pub below : SettledBelow place t (placed place clauses)
  pub distinct : (c : ℕ) → IsDistinct (λ x y. x == y) (get_or (placed place clauses) c [])
  pub current : All (λ (e : Entry ℕ). e.level ≡ t.level) (waiting t)
  pub made : IsPoint t lower point
  pub shown : Show clauses (Some point) lower hints
  pub ids : All (λ h. (1 ≤ h) × (h ≤ length clauses)) hints

-- hints below the id of the next lemma, in the other order
pub ids_reversed : (clauses : List (List ℕ)) (hints : List ℕ) (id : ℕ) → id ≡ length clauses + 1 → All (λ h. (1 ≤ h) × (h ≤ length clauses)) hints → All (λ h. (1 ≤ h) × (h < id)) (reverse hints)
ids_reversed clauses hints id is ids = All-permutation (λ h. (1 ≤ h) × (h < id)) hints (reverse hints) (IsPermutation-reverse hints) (all_map (λ h. (1 ≤ h) × (h ≤ length clauses)) (λ h. (1 ≤ h) × (h < id)) hints (λ h p. (p.0, omega (arith, p.1, is))) ids)

-- the literals of an analysis's lemma are of the formula's variables
lemma_inside : (variables : ℕ) (t : Assignment ℕ) (lower : List ℕ) (point : ℕ) → IsTrail place t → IsPoint t lower point → t.variables ≡ variables → All (λ l. variable_of l < variables) (negation point ∷ lower)
lemma_inside variables t lower point trail made size zero d lt = (let top = made.entry in let v = variable_inside t top.0 point trail top.1.known top.1.is in let n = variable_of-negation point in omega (arith, v, n, size))
lemma_inside variables t lower point trail made size (suc k) d lt = (let v = lower_inside t lower k (get_or lower k d) trail made.lows (omega (arith, lt)) (get_or_default lower k d (get_or lower k d) (omega (arith, lt))) in omega (arith, v, size))

-- the log is good and fresh so far, and its clauses and those of the formula, with variables from 0, fit the trail
pub record HasLearned (formula : Cnf) (log : List Lemma) (clauses : List (List ℕ)) (t : Assignment ℕ) : Type 0 where
  pub inner : List (List ℕ)
  pub same : outer_clauses inner ≡ known_after formula log
  pub sound : IsSound (length clauses) inner clauses t
  pub good : IsGood formula log
  pub fresh : IsFresh formula log
  pub none_empty : NoneEmpty log

-- as many clauses stand there as may be named
known_count : (formula : Cnf) (log : List Lemma) (clauses inner : List (List ℕ)) → outer_clauses inner ≡ known_after formula log → AreReordered inner clauses → length clauses ≡ length (known_after formula log)
known_count formula log clauses inner same order = (let n = ap length same in let m = length-map inner (map outer) in omega (arith, n, m, order.count))

-- a chain from the negations of a clause's literals
outer_chain : (formula : Cnf) (log : List Lemma) (inner : List (List ℕ)) → outer_clauses inner ≡ known_after formula log → (clause hints : List ℕ) → Chains inner (map negation clause) hints → Chains (known_after formula log) (map negation (map outer clause)) hints
outer_chain formula log inner same clause hints chain =
    subst (λ (set : List ℕ). Chains (known_after formula log) set hints) (sym (map_negation clause)) (subst (λ (ks : List (List ℕ)). Chains ks (map outer (map negation clause)) hints) same (outer_chains inner chain))

-- as many clauses as the formula has, and one for each lemma
pub learned_count : (formula : Cnf) (log : List Lemma) (clauses : List (List ℕ)) (t : Assignment ℕ) → HasLearned formula log clauses t → length clauses ≡ length formula.clauses + length log
learned_count formula log clauses t on =
    known_count formula log clauses on.inner on.same on.sound.order ∙ length-append formula.clauses (map (λ (l : Lemma). l.literals) log) ∙ ap (λ n. length formula.clauses + n) (length-map log (λ (l : Lemma). l.literals))

pub learned_on : (formula : Cnf) (log log' : List Lemma) (clauses clauses' : List (List ℕ)) (t t' : Assignment ℕ) (lower hints : List ℕ) (point : ℕ)
    → t.variables ≡ formula.variables → IsFound t clauses lower point hints → HasLearned formula log clauses t → IsLearned clauses t log point lower hints clauses' t' log' → HasLearned formula log' clauses' t'
learned_on formula log log' clauses clauses' t t' lower hints point size found on learned =
    let others : List ℕ = learned.others in
    let level : ℕ = learned.level in
    let clause : List ℕ = negation point ∷ others in
    let lemma : Lemma = record { id = length clauses + 1; literals = map outer clause; hints = reverse hints } in
    let inner : List (List ℕ) = on.inner in
    let known : List (List ℕ) = known_after formula log in
    let can = learnable t clauses lower others point level found.trail found.below found.current found.made learned.order learned.highest in
    let count : length clauses ≡ length known = known_count formula log clauses inner on.same on.sound.order in
    let set : List ℕ = map negation clause in
    let out : All (IsFalseUnder set) lower = all_of (IsFalseUnder set) lower (λ x has. Contains-later (negation (negation point)) (negation x) (map negation others) (map_member negation others x (Contains-permutation lower others x learned.order has))) in
    let inside : Chains inner set (reverse hints) = found.shown inner set on.sound.order out (subst (Contains set) (negation_twice point) (Contains-first (negation (negation point)) (map negation others))) in
    let chain : Chains known (map negation lemma.literals) (reverse hints) = outer_chain formula log inner on.same clause (reverse hints) inside in
    let good : IsGoodLemma formula.variables known lemma = record {
      id = omega (arith, count);
      literals = all_mapped outer (λ l. variable_of l < formula.variables) (λ l. variable_of l ≤ formula.variables) clause (λ l low. omega (arith, low)) (lemma_inside formula.variables t others point found.trail can.made size);
      hints = ids_reversed clauses hints (length clauses + 1) refl found.ids;
      chain = chain;
    } in
    let new = shows_fresh t inner clauses others point found.trail on.sound found.below found.distinct can.made in
    let fresh : HasNoPair lemma.literals × ((set : List ℕ) × ShowsFresh known lemma.literals set) =
    (outer_no_pair clause new.0, (map outer new.1.0, subst (λ (ks : List (List ℕ)). ShowsFresh ks (map outer clause) (map outer new.1.0)) on.same (outer_fresh inner clause new.1.0 new.1.1))) in
    let low = level_low t clauses others point level can in
    let back = sound_undone (length clauses) inner clauses t level found.trail (omega (arith, low)) on.sound in
    let sound = sound_learned inner clauses (undone t level) (negation point) (length clauses) others back refl (lower_false t clauses others point level can) learned.highest.none in
    let more : length clauses' ≡ length clauses + 1 = ap length learned.added ∙ length-append clauses (clause ∷ []) in
    let S : ℕ → List (List ℕ) → Assignment ℕ → Type 0 = λ n cs u. IsSound n (inner ++ clause ∷ []) cs u in
    record {
      inner = inner ++ clause ∷ [];
      same = map-append (map outer) inner (clause ∷ []) ∙ ap (λ (ks : List (List ℕ)). ks ++ map outer clause ∷ []) on.same ∙ sym (known_more formula log lemma) ∙ ap (known_after formula) (sym learned.logged);
      sound = subst (λ n. S n clauses' t') (sym more) (subst (λ (cs : List (List ℕ)). S (length clauses + 1) cs t') (sym learned.added) (subst (λ (u : Assignment ℕ). S (length clauses + 1) (clauses ++ clause ∷ []) u) (sym learned.trail) sound));
      good = subst (IsGood formula) (sym learned.logged) (good_more formula log lemma on.good good);
      fresh = subst (IsFresh formula) (sym learned.logged) (fresh_more formula log lemma on.fresh fresh);
      none_empty = subst NoneEmpty (sym learned.logged) (All-append (λ (l : Lemma). l.literals ≢ []) log (lemma ∷ []) on.none_empty (λ k d lt. one k d lt));
    }
  where
    some : (x : ℕ) (xs : List ℕ) → x ∷ xs ≢ []
    some x xs e = (let n = ap length e in omega (arith, n))

    one : (k : ℕ) (d : Lemma) → k < 1 → (get_or (record { id = length clauses + 1; literals = map outer (negation point ∷ learned.others); hints = reverse hints } ∷ []) k d).literals ≢ []
    one zero d lt = some (outer (negation point)) (map outer learned.others)
    one (suc k) d lt = absurd (omega (arith, lt))

-- with an empty lemma in the end the log refutes the formula
pub refuted : (formula : Cnf) (log log' : List Lemma) (clauses inner : List (List ℕ)) (lower hints : List ℕ) → outer_clauses inner ≡ known_after formula log → AreReordered inner clauses → IsGood formula log
    → Show clauses None lower hints → All (λ h. (1 ≤ h) × (h ≤ length clauses)) hints
    → log' ≡ log ++ record { id = length clauses + 1; literals = []; hints = reverse hints } ∷ [] → IsRefutation formula log'
refuted formula log log' clauses inner lower hints same order good shown ids is =
    let lemma : Lemma = record { id = length clauses + 1; literals = []; hints = reverse hints } in
    let count : length clauses ≡ length (known_after formula log) = known_count formula log clauses inner same order in
    record {
      good = subst (IsGood formula) (sym is) (good_more formula log lemma good (record {
        id = omega (arith, count);
        literals = λ k d lt. absurd (omega (arith, lt));
        hints = ids_reversed clauses hints (length clauses + 1) refl ids;
        chain = outer_chain formula log inner same [] (reverse hints) (shown inner order);
      }));
      end = (log, (lemma, is, refl));
    }

-- no lemma yet
pub none_good : (formula : Cnf) → IsGood formula []
none_good formula k lemma e = absurd (none k lemma e) where
  none : (k : ℕ) (lemma : Lemma) → slice_get {X = Lemma} [] k ≡ Some lemma → ⊥
  none k lemma e = cc
