-- How a search starts.
use Rattle.std.proofs.Common.{◌≡◌, ℕ, ◌+◌, ◌<◌, ◌≤◌, true, false, List, [], ◌∷◌, length, get_or, map, cond, ◌&&◌, Option, None, Some, refl, sym, ◌∙◌, ap, subst, arith, inl, inr}
use Rattle.std.specs.Prelude.{IfNone, IfSome}
use Rattle.std.specs.List.{All, Contains}
use Rattle.std.proofs.lemmas.Bool.{cases_eq, cases_Bool}
use Rattle.std.proofs.lemmas.List.{get_or_default, get_or-map, length-map}
use Rattle.literals_core.specs.Literal.{variable_of}
use Rattle.literals_core.specs.Truth.{is_true, is_false}
use Rattle.literals_core.proofs.Truth.{tested_true}
use Rattle.watch_core.specs.Trail.{Assignment, Entry, IsTrail, places, value_of, assigned, empty_trail}
use Rattle.literals_core.specs.DistinctVariables.{HasDistinctVariables}
use Rattle.watch_core.specs.Places.{placed}
use Rattle.watch_core.specs.Rest.{IsAtRest, IsInConflict, IsClauseFalse, CanPropagate}
use Rattle.watch_core.specs.Propagates.{Propagates, AreReordered}
use Rattle.watch_core.specs.Added.{CanAdd}
use Rattle.watch_core.proofs.ReasonLemmas.{reasons_start, decisions_start, start_empty}
use Rattle.watch_core.proofs.ReadyLemmas.{can_entered}
use Rattle.chain_core.specs.Chain.{clause_at}
use Rattle.search_core.specs.State.{place, no_entry, AreReasoned, IsSound, IsTrueAtStart, IsFalseAtStart}
use Rattle.search_core.specs.Analysis.{IsExplained, Show}
use Rattle.search_core.specs.Inner.{outer}
use Rattle.search_core.proofs.ListLemmas.{clause_there}
use Rattle.search_core.proofs.EntryLemmas.{literal_entry}
use Rattle.search_core.proofs.FreshLemmas.{placed_is, placed_row}
use Rattle.search_core.proofs.StateLemmas.{sound_assigned, sound_propagated, entered_last, longer, reordered_not}

-- a true literal at level 0
true_at_start : (t : Assignment ℕ) (clause : List ℕ) (l : ℕ) → IsTrail place t → t.level ≡ 0 → Contains clause l → is_true (places place t.entries) l ≡ true → IsTrueAtStart t clause
true_at_start t clause l trail start has true' =
    let f = literal_entry t.entries l (tested_true (places place t.entries) l true') in
    let most = trail.leveled.below f.0 no_entry f.1 in
    (f.0, f.1, omega (arith, most, start), subst (Contains clause) (sym f.2) has)

-- one clause more
built_next : (n : ℕ) (known clauses : List (List ℕ)) (t : Assignment ℕ) → IsSound n known clauses t → (length (get_or clauses n []) ≤ 1 → IsTrueAtStart t (get_or clauses n [])) → IsSound (n + 1) known clauses t
built_next n known clauses t built next = record {
  order = built.order;
  reasoned = built.reasoned;
  units = λ c lt short. elim (cases_eq c n) [
    | inl same ↦ subst (λ k. IsTrueAtStart t (get_or clauses k [])) (sym same) (next (subst (λ k. length (get_or clauses k []) ≤ 1) same short))
    | inr other ↦ built.units c (omega (arith, lt, other)) short
  ];
}

pub built_long : (n : ℕ) (known clauses : List (List ℕ)) (t : Assignment ℕ) → IsSound n known clauses t → 2 ≤ length (get_or clauses n []) → IsSound (n + 1) known clauses t
built_long n known clauses t built long = built_next n known clauses t built (λ short. absurd (omega (arith, short, long)))

pub built_true : (n : ℕ) (known clauses : List (List ℕ)) (t : Assignment ℕ) (l : ℕ) → IsTrail place t → t.level ≡ 0 → IsSound n known clauses t → Contains (get_or clauses n []) l → value_of (places place t.entries) l ≡ Some true → IsSound (n + 1) known clauses t
built_true n known clauses t l trail start built has value = built_next n known clauses t built (λ short. true_at_start t (get_or clauses n []) l trail start has (is_some_true (places place t.entries) l value)) where
  is_some_true : (set : List ℕ) (l : ℕ) → value_of set l ≡ Some true → is_true set l ≡ true
  is_some_true set l value = elim (cases_Bool (is_true set l)) [
    | inl has ↦ has
    | inr no' ↦ (elim (cases_Bool (is_false set l)) [
      | inl out ↦ (let e : value_of set l ≡ Some false = ap (λ b. cond b (Some true) (cond (is_false set l) (Some false) None)) no' ∙ ap (λ b. cond b (Some false) None) out in absurd (cc))
      | inr nor ↦ (let e : value_of set l ≡ None = ap (λ b. cond b (Some true) (cond (is_false set l) (Some false) None)) no' ∙ ap (λ b. cond b (Some false) None) nor in absurd (cc))
    ])
  ]

-- a unit clause is assigned, and propagated
pub built_unit : (n : ℕ) (known clauses clauses' : List (List ℕ)) (t t' : Assignment ℕ) (l : ℕ) → t.level ≡ 0 → n < length clauses → IsSound n known clauses t → length (get_or clauses n []) ≡ 1 → l ≡ get_or (get_or clauses n []) 0 l
    → Propagates place (placed place clauses) (assigned t l (Some n)) (placed place clauses') t' → AreReordered clauses clauses' → IsSound (n + 1) known clauses' t'
built_unit n known clauses clauses' t t' l start lt built one is goes order =
    let clause : List ℕ = get_or clauses n [] in
    let has : Contains clause l = (0, omega (arith, one), sym is) in
    let last = entered_last t l t.level (Some n) (length t.entries) (omega arith) (longer t l n) in
    let here : IsTrueAtStart (assigned t l (Some n)) clause = (length t.entries, longer t l n, ap (λ (x : Entry ℕ). x.level) last.1 ∙ start, subst (Contains clause) (sym (ap (λ (x : Entry ℕ). x.literal) last.1)) has) in
    let first = sound_assigned n known clauses t l n (record { known = lt; has = has; others = λ k d inside. inl (only k d inside) }) built in
    sound_propagated (n + 1) known clauses clauses' (assigned t l (Some n)) t' goes order (built_next n known clauses (assigned t l (Some n)) first (λ short. here))
  where
    only : (k d : ℕ) → k < length (get_or clauses n []) → get_or (get_or clauses n []) k d ≡ l
    only k d inside = (let z : k ≡ 0 = omega (arith, inside, one) in ap (λ j. get_or (get_or clauses n []) j d) z ∙ get_or_default (get_or clauses n []) 0 d l (omega (arith, one)) ∙ sym is)

pub unit_ready : (t : Assignment ℕ) (clauses : List (List ℕ)) (l n : ℕ) → IsTrail place t → IsAtRest place t (placed place clauses) → CanPropagate place (assigned t l (Some n)) (placed place clauses)
unit_ready t clauses l n trail rest = can_entered place t (placed place clauses) l t.level (Some n) trail rest (inl refl)

pub built_first : (clauses : List (List ℕ)) (t : Assignment ℕ) (variables : ℕ) → t ≡ empty_trail variables → IsSound 0 clauses clauses t
built_first clauses t variables e = record {
  order = reordered_not clauses;
  reasoned = subst (λ (u : Assignment ℕ). AreReasoned u clauses) (sym e) (record { reasons = reasons_start place clauses variables; decisions = decisions_start variables; start = start_empty variables });
  units = λ c lt short. absurd (omega (arith, lt));
}

-- a false clause, by number
pub false_unit : (n : ℕ) (known clauses : List (List ℕ)) (t : Assignment ℕ) (l : ℕ) → t.level ≡ 0 → n < length clauses → IsSound n known clauses t → length (get_or clauses n []) ≡ 1 → l ≡ get_or (get_or clauses n []) 0 l → value_of (places place t.entries) l ≡ Some false → IsFalseAtStart known clauses t n
false_unit n known clauses t l start lt built one is value = record {
  inside = lt;
  out = out (get_or clauses n []) one is;
  start = start;
  order = built.order;
  reasoned = built.reasoned;
} where
  is_some_false : (set : List ℕ) → value_of set l ≡ Some false → is_false set l ≡ true
  is_some_false set value = elim (cases_Bool (is_true set l)) [
    | inl has ↦ (let e : value_of set l ≡ Some true = ap (λ b. cond b (Some true) (cond (is_false set l) (Some false) None)) has in absurd (cc))
    | inr no' ↦ (elim (cases_Bool (is_false set l)) [
      | inl out ↦ out
      | inr nor ↦ (let e : value_of set l ≡ None = ap (λ b. cond b (Some true) (cond (is_false set l) (Some false) None)) no' ∙ ap (λ b. cond b (Some false) None) nor in absurd (cc))
    ])
  ]

  out : (clause : List ℕ) → length clause ≡ 1 → l ≡ get_or clause 0 l → IsClauseFalse (places place t.entries) clause
  out [] one is = absurd (omega (arith, one))
  out (x ∷ []) one is = ap (λ b. b && true) (ap (is_false (places place t.entries)) (sym is) ∙ is_some_false (places place t.entries) value)
  out (x ∷ y ∷ ls) one is = absurd (omega (arith, one))

pub false_empty : (n : ℕ) (known clauses : List (List ℕ)) (t : Assignment ℕ) → t.level ≡ 0 → n < length clauses → IsSound n known clauses t → length (get_or clauses n []) ≡ 0 → IsFalseAtStart known clauses t n
false_empty n known clauses t start lt built none = record { inside = lt; out = out (get_or clauses n []) none; start = start; order = built.order; reasoned = built.reasoned } where
  out : (clause : List ℕ) → length clause ≡ 0 → IsClauseFalse (places place t.entries) clause
  out [] none = refl
  out (x ∷ ls) none = absurd (omega (arith, none))

pub false_met : (n id : ℕ) (known clauses : List (List ℕ)) (t : Assignment ℕ) → t.level ≡ 0 → IsSound n known clauses t → IsInConflict place t (placed place clauses) id → IsFalseAtStart known clauses t id
false_met n id known clauses t start built met = record {
  inside = (let e = ap length (placed_is clauses) in let k = met.clause.known in omega (arith, e, k));
  out = subst (λ (cs : List (List ℕ)). IsClauseFalse (places place t.entries) (get_or cs id [])) (placed_is clauses) met.clause.literals;
  start = start;
  order = built.order;
  reasoned = built.reasoned;
}

-- at level 0 there is no point
pub shown_at_start : (t : Assignment ℕ) (clauses : List (List ℕ)) (o : Option ℕ) (lower hints : List ℕ) → t.level ≡ 0 → IsExplained t clauses o lower hints → Show clauses None lower hints
shown_at_start t clauses None lower hints start explained = explained.shown
shown_at_start t clauses (Some p) lower hints start explained = (let above = explained.made.above in absurd (omega (arith, above, start)))

-- a clause of the formula may be added to an empty trail
pub can_add_first : (t : Assignment ℕ) (clause row : List ℕ) (variables : ℕ) → t ≡ empty_trail variables → map outer clause ≡ row → All (λ l. variable_of l ≤ variables) row → HasDistinctVariables row → CanAdd place t (map place clause)
can_add_first t clause row variables e is range apart = subst (λ (u : Assignment ℕ). CanAdd place u (map place clause)) (sym e) (subst (CanAdd place (empty_trail variables)) (sym (placed_row clause)) (record {
  inside = λ k d lt. (let v = range k (outer d) (there k lt) in let r = read k d lt in omega (arith, v, r));
  apart = λ i j before lt same. apart i j before (there j lt) (let a = near i (omega (arith, before, lt)) in let b = near j lt in omega (arith, a, b, same));
  first = λ long. refl;
  second = λ long. inl refl;
})) where
  there : (k : ℕ) → k < length clause → k < length row
  there k lt = (let n = ap length is in let m = length-map clause outer in omega (arith, n, m, lt))

  read : (k d : ℕ) → k < length clause → get_or row k (outer d) ≡ outer (get_or clause k d)
  read k d lt = ap (λ (xs : List ℕ). get_or xs k (outer d)) (sym is) ∙ get_or-map outer clause k d (outer d) lt

  near : (k : ℕ) → k < length clause → variable_of (get_or row k 0) ≡ variable_of (get_or clause k 0) + 1
  near k lt = (let r = read k 0 lt in let e = get_or_default row k 0 (outer 0) (there k lt) in omega (arith, r, e))

pub clause_read : (clauses : List (List ℕ)) (k : ℕ) (clause : List ℕ) → clause_at clauses (k + 1) ≡ Some clause → k < length clauses → clause ≡ get_or clauses k []
clause_read clauses k clause e lt = (let f = clause_there clauses k lt in some_is (sym e ∙ f)) where
  some_is : Some clause ≡ Some (get_or clauses k []) → clause ≡ get_or clauses k []
  some_is e = cc

pub unit_read : (clauses one two : List (List ℕ)) (literals : List ℕ) (id n r : ℕ) → one ≡ clauses → two ≡ clauses → n ≡ length (get_or one id []) → n ≡ 1 → literals ≡ get_or two id [] → r ≡ get_or literals 0 r → (length (get_or clauses id []) ≡ 1) × (r ≡ get_or (get_or clauses id []) 0 r)
unit_read clauses one two literals id n r a b c d e f = (
  sym (ap (λ (cs : List (List ℕ)). length (get_or cs id [])) a) ∙ sym c ∙ d,
  f ∙ ap (λ (xs : List ℕ). get_or xs 0 r) (e ∙ ap (λ (cs : List (List ℕ)). get_or cs id []) b),
)

pub unit_has : (clause : List ℕ) (r : ℕ) → length clause ≡ 1 → r ≡ get_or clause 0 r → Contains clause r
unit_has clause r one is = (0, omega (arith, one), sym is)

pub none_of : {A : Type 0} (P : Type 0) (o : Option A) → P → IfNone o P
none_of P None p = p
none_of P (Some x) p = tt

pub some_of : (P : ℕ → Type 0) (o : Option ℕ) → ((k : ℕ) → o ≡ Some k → P k) → IfSome o P
some_of P None f = tt
some_of P (Some k) f = f k refl
