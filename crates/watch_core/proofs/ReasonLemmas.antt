-- Reasons and decisions go on, and a false clause has literals of the current level.
use Rattle.std.proofs.Common.{◌≡◌, ◌≢◌, ℕ, zero, suc, ◌+◌, ◌-◌, ◌/◌, ◌<◌, ◌≤◌, ◌||◌, ◌&&◌, Bool, true, false, List, [], ◌∷◌, ◌++◌, length, get_or, take, Option, None, Some, refl, sym, ◌∙◌, ap, subst, arith, inl, inr, ◌⊎◌}
use Rattle.std.specs.List.{All, Contains, list_all}
use Rattle.std.specs.List.Sorted.{IsPermutation}
use Rattle.std.proofs.lemmas.List.{length-append, get_or_append_left, get_or_at, get_or-take, take-take, take_at, length-take-le}
use Rattle.std.proofs.lemmas.List.Elements.{All-weaker}
use Rattle.std.proofs.lemmas.List.Sorted.{IsPermutation-refl}
use Rattle.std.proofs.lemmas.Bool.{cases_eq, cases_lt, false≢true}
use Rattle.std.proofs.lemmas.Bool.Decides.{eqb_tells, leb_tells}
use Rattle.literals_core.specs.Literal.{negation}
use Rattle.literals_core.specs.Truth.{is_true, is_false, open_literals}
use Rattle.literals_core.specs.Settled.{IsSettledByCount}
use Rattle.literals_core.proofs.Negation.{negation_differs, variable_of-negation}
use Rattle.literals_core.proofs.Truth.{open_more, open_skip}
use Rattle.watch_core.specs.Trail.{Entry, Assignment, IsTrail, places, cut, entered, assigned, decided, undone, empty_trail}
use Rattle.watch_core.specs.Rest.{IsInConflict}
use Rattle.watch_core.specs.Propagates.{Propagates, IsReason}
use Rattle.watch_core.specs.Reasons.{IsUnitFor, HasReasons, BeginsLevel, IsDecisionOf, HasDecisions, HasReasonsAtStart, IsFalseOn, HasTwoFalseOn}
use Rattle.watch_core.proofs.CoverLemmas.{true_or_false, any_to}
use Rattle.watch_core.proofs.LevelLemmas.{kept_in, left_out, cut_is}
use Rattle.watch_core.proofs.GoingLemmas.{cut_true, reason_moves}
use Rattle.watch_core.proofs.HeldLemmas.{cut_split}

-- the first entries of two trails are the same
record IsFront {L : Type 0} (n : ℕ) (es es' : List (Entry L)) : Type 0 where
  pub some : n ≤ length es
  pub more : n ≤ length es'
  pub same : (i : ℕ) (d : Entry L) → i < n → get_or es i d ≡ get_or es' i d
  pub before : (i : ℕ) → i ≤ n → take i es ≡ take i es'

front_longer : {L : Type 0} (es es' : List (Entry L)) → length es ≤ length es' → take (length es) es' ≡ es → IsFront (length es) es es'
front_longer {L} es es' more kept = record {
  some = omega arith;
  more = more;
  same = λ i d lt. ap (λ (xs : List (Entry L)). get_or xs i d) (sym kept) ∙ get_or-take (length es) es' i d lt;
  before = λ i le. ap (take i) (sym kept) ∙ take-take i (length es) es' le;
}

front_entered : {L : Type 0} (t : Assignment L) (l : L) (level : ℕ) (reason : Option ℕ) → IsFront (length t.entries) t.entries (entered t l level reason).entries
front_entered {L} t l level reason =
    let e : Entry L = record { literal = l; level = level; reason = reason } in
    let n = length-append t.entries (e ∷ []) in
    front_longer t.entries (t.entries ++ e ∷ []) (omega (arith, n)) (take_at t.entries (e ∷ []) (length t.entries) refl)

last_entered : {L : Type 0} (t : Assignment L) (l : L) (level : ℕ) (reason : Option ℕ) (i : ℕ) (d : Entry L) → length t.entries ≤ i → i < length (entered t l level reason).entries → get_or (entered t l level reason).entries i d ≡ record { literal = l; level = level; reason = reason }
last_entered {L} t l level reason i d new lt =
    let e : Entry L = record { literal = l; level = level; reason = reason } in
    let n = length-append t.entries (e ∷ []) in
    get_or_at t.entries e [] d i (omega (arith, new, lt, n))

-- the place at which a trail is cut
record IsCutAt {L : Type 0} (es : List (Entry L)) (level n : ℕ) : Type 0 where
  pub front : IsFront n es (cut es level)
  pub size : length (cut es level) ≡ n
  pub inside : (i : ℕ) (d : Entry L) → i < length es → (get_or es i d).level ≤ level → i < n

cut_at : {L : Type 0} (at : L → ℕ) (t : Assignment L) (level : ℕ) → IsTrail at t → (n : ℕ) × IsCutAt t.entries level n
cut_at {L} at t level trail =
    let s = cut_split t.entries level trail.leveled.sorted in
    let n : ℕ = s.0 in
    let is : cut t.entries level ≡ take n t.entries = cut_is t.entries n level s.1 s.2 s.3 in
    let size : length (cut t.entries level) ≡ n = ap length is ∙ length-take-le n t.entries s.1 in (
      n,
      record {
        front = record {
          some = s.1;
          more = omega (arith, size);
          same = λ i d lt. sym (ap (λ (xs : List (Entry L)). get_or xs i d) is ∙ get_or-take n t.entries i d lt);
          before = λ i le. sym (ap (take i) is ∙ take-take i n t.entries le);
        };
        size = size;
        inside = λ i d lt low. elim (cases_lt i n) [
          | inl in' ↦ in'
          | inr past ↦ (let high = s.3 i d past lt in absurd (omega (arith, high, low)))
        ];
      },
    )

-- clauses keep their literals, and more may come
record Stay (clauses clauses' : List (List ℕ)) : Type 0 where
  pub more : length clauses ≤ length clauses'
  pub same : (c : ℕ) → c < length clauses → IsPermutation (get_or clauses c []) (get_or clauses' c [])

stay_all : (clauses : List (List ℕ)) → Stay clauses clauses
stay_all clauses = record { more = omega arith; same = λ c lt. IsPermutation-refl (get_or clauses c []) }

stay_added : (clauses : List (List ℕ)) (clause : List ℕ) → Stay clauses (clauses ++ clause ∷ [])
stay_added clauses clause = record {
  more = (let n = length-append clauses (clause ∷ []) in omega (arith, n));
  same = λ c lt. (let P : List ℕ → Type 0 = λ xs. IsPermutation (get_or clauses c []) xs in subst P (sym (get_or_append_left clauses (clause ∷ []) [] c lt)) (IsPermutation-refl (get_or clauses c [])));
}

-- reasons
reasons_go : {L : Type 0} (at : L → ℕ) (b c : List (List ℕ)) (t t' : Assignment L) (n : ℕ) → IsFront n t.entries t'.entries → Stay b c → HasReasons at t b
    → ((i id : ℕ) (e : Entry L) → n ≤ i → i < length t'.entries → (get_or t'.entries i e).reason ≡ Some id → IsReason at t' c i id) → HasReasons at t' c
reasons_go {L} at b c t t' n front stay has new i id e lt is = elim (cases_lt i n) [
  | inl old' ↦
      (let r = has i id e (omega (arith, old', front.some)) (ap (λ (x : Entry L). x.reason) (front.same i e old') ∙ is) in
      let known = r.known in
      reason_moves at b c t t' i id (omega (arith, known, stay.more)) (stay.same id known) (λ d. front.same i d old') (front.before i (omega (arith, old'))) r)
  | inr new' ↦ new i id e new' lt is
]

pub reasons_start : {L : Type 0} (at : L → ℕ) (clauses : List (List ℕ)) (variables : ℕ) → HasReasons {L = L} at (empty_trail variables) clauses
reasons_start at clauses variables i id e lt is = absurd (omega (arith, lt))

reason_last : {L : Type 0} (at : L → ℕ) (t : Assignment L) (clauses : List (List ℕ)) (l : L) (level : ℕ) (reason : Option ℕ) (i id : ℕ) → length t.entries ≤ i → i < length (entered t l level reason).entries
    → IsUnitFor (places at t.entries) clauses id (at l) → IsReason at (entered t l level reason) clauses i id
reason_last {L} at t clauses l level reason i id new lt unit =
    let t' : Assignment L = entered t l level reason in
    let x : Entry L = record { literal = l; level = level; reason = reason } in
    let n = length-append t.entries (x ∷ []) in
    let here : (d : Entry L) → at (get_or t'.entries i d).literal ≡ at l = λ d. ap (λ (e : Entry L). at e.literal) (last_entered t l level reason i d new lt) in
    let before : take i t'.entries ≡ t.entries = take_at t.entries (x ∷ []) i (omega (arith, new, lt, n)) in
    record {
      known = unit.known;
      has = λ d. (let P : ℕ → Type 0 = λ y. Contains (get_or clauses id []) y in subst P (sym (here d)) unit.has);
      false_before = λ d. All-weaker (λ y. (y ≡ at l) ⊎ (is_false (places at t.entries) y ≡ true)) (λ y. (y ≡ at (get_or t'.entries i d).literal) ⊎ (is_false (places at (take i t'.entries)) y ≡ true))
          (λ y out. elim out [
            | inl same ↦ inl (same ∙ sym (here d))
            | inr shut ↦ inr (ap (λ (es : List (Entry L)). is_false (places at es) y) before ∙ shut)
          ]) (get_or clauses id []) unit.others;
    }

pub reasons_assigned : {L : Type 0} (at : L → ℕ) (t : Assignment L) (clauses : List (List ℕ)) (l : L) (reason : Option ℕ) → HasReasons at t clauses → ((id : ℕ) → reason ≡ Some id → IsUnitFor (places at t.entries) clauses id (at l)) → HasReasons at (assigned t l reason) clauses
reasons_assigned {L} at t clauses l reason has unit =
    reasons_go at clauses clauses t (assigned t l reason) (length t.entries) (front_entered t l t.level reason) (stay_all clauses) has
    (λ i id e new lt is. reason_last at t clauses l t.level reason i id new lt (unit id (sym (ap (λ (x : Entry L). x.reason) (last_entered t l t.level reason i e new lt)) ∙ is)))

pub reasons_decided : {L : Type 0} (at : L → ℕ) (t : Assignment L) (clauses : List (List ℕ)) (l : L) → HasReasons at t clauses → HasReasons at (decided t l) clauses
reasons_decided {L} at t clauses l has =
    reasons_go at clauses clauses t (decided t l) (length t.entries) (front_entered t l (t.level + 1) None) (stay_all clauses) has
    (λ i id e new lt is. absurd (no id (sym (ap (λ (x : Entry L). x.reason) (last_entered t l (t.level + 1) None i e new lt)) ∙ is)))
  where
    no : (id : ℕ) → None ≡ Some id → ⊥
    no id h = cc

pub reasons_undone : {L : Type 0} (at : L → ℕ) (t : Assignment L) (clauses : List (List ℕ)) (level : ℕ) → IsTrail at t → HasReasons at t clauses → HasReasons at (undone t level) clauses
reasons_undone {L} at t clauses level trail has =
    let c = cut_at at t level trail in
    reasons_go at clauses clauses t (undone t level) c.0 c.1.front (stay_all clauses) has (λ i id e new lt is. absurd (omega (arith, new, lt, c.1.size)))

pub reasons_added : {L : Type 0} (at : L → ℕ) (t : Assignment L) (clauses : List (List ℕ)) (clause : List ℕ) → HasReasons at t clauses → HasReasons at t (clauses ++ clause ∷ [])
reasons_added {L} at t clauses clause has =
    reasons_go at clauses (clauses ++ clause ∷ []) t t (length t.entries) (record { some = omega arith; more = omega arith; same = λ i d lt. refl; before = λ i le. refl }) (stay_added clauses clause) has
    (λ i id e new lt is. absurd (omega (arith, new, lt)))

pub reasons_propagated : {L : Type 0} (at : L → ℕ) (t t' : Assignment L) (clauses clauses' : List (List ℕ)) → Propagates at clauses t clauses' t' → HasReasons at t clauses → HasReasons at t' clauses'
reasons_propagated {L} at t t' clauses clauses' goes has =
    reasons_go at clauses clauses' t t' (length t.entries) (front_longer t.entries t'.entries goes.more goes.kept) (record { more = omega (arith, goes.order.count); same = λ c lt. goes.order.same c }) has
    (λ i id e new lt is. (let r = goes.reasons i e new lt in let P : ℕ → Type 0 = λ k. IsReason at t' clauses' i k in subst P (same r.0 id (sym r.1 ∙ is)) r.2))
  where
    same : (a b : ℕ) → Some a ≡ Some b → a ≡ b
    same a b h = cc

-- decisions
begins_stays : {L : Type 0} (t t' : Assignment L) (n i : ℕ) → IsFront n t.entries t'.entries → i < n → BeginsLevel t i → BeginsLevel t' i
begins_stays {L} t t' n i front lt begins j e before =
    let a = ap (λ (x : Entry L). x.level) (front.same j e (omega (arith, before, lt))) in
    let b = ap (λ (x : Entry L). x.level) (front.same i e lt) in
    let h = begins j e before in
    omega (arith, a, b, h)

decision_stays : {L : Type 0} (t t' : Assignment L) (n level i : ℕ) → IsFront n t.entries t'.entries → i < n → IsDecisionOf t level i → IsDecisionOf t' level i
decision_stays {L} t t' n level i front lt is = record {
  known = omega (arith, lt, front.more);
  on_level = λ e. ap (λ (x : Entry L). x.level) (sym (front.same i e lt)) ∙ is.on_level e;
  without_reason = λ e. ap (λ (x : Entry L). x.reason) (sym (front.same i e lt)) ∙ is.without_reason e;
  begins = begins_stays t t' n i front lt is.begins;
}

no_others_go : {L : Type 0} (t t' : Assignment L) (n : ℕ) → IsFront n t.entries t'.entries → HasDecisions t
    → ((i : ℕ) (e : Entry L) → n ≤ i → i < length t'.entries → (get_or t'.entries i e).reason ≡ None → 0 < (get_or t'.entries i e).level → BeginsLevel t' i)
    → (i : ℕ) (e : Entry L) → i < length t'.entries → (get_or t'.entries i e).reason ≡ None → 0 < (get_or t'.entries i e).level → BeginsLevel t' i
no_others_go {L} t t' n front has new i e lt none above = elim (cases_lt i n) [
  | inl old' ↦
      (let same = front.same i e old' in
      let level = ap (λ (x : Entry L). x.level) same in
      begins_stays t t' n i front old' (has.no_others i e (omega (arith, old', front.some)) (ap (λ (x : Entry L). x.reason) same ∙ none) (omega (arith, level, above))))
  | inr new' ↦ new i e new' lt none above
]

pub decisions_start : {L : Type 0} (variables : ℕ) → HasDecisions {L = L} (empty_trail variables)
decisions_start variables = record { each_level = λ level low high. absurd (omega (arith, low, high)); no_others = λ i e lt none above. absurd (omega (arith, lt)) }

-- more entries on the current level, none of them without a reason above level 0
longer_decisions : {L : Type 0} (t t' : Assignment L) → t'.level ≡ t.level → IsFront (length t.entries) t.entries t'.entries → HasDecisions t
    → ((i : ℕ) (e : Entry L) → length t.entries ≤ i → i < length t'.entries → (get_or t'.entries i e).reason ≡ None → 0 < (get_or t'.entries i e).level → ⊥) → HasDecisions t'
longer_decisions {L} t t' level front has new = record {
  each_level = λ q low high. (let d = has.each_level q low (omega (arith, high, level)) in (d.0, decision_stays t t' (length t.entries) q d.0 front d.1.known d.1));
  no_others = no_others_go t t' (length t.entries) front has (λ i e new' lt none above. absurd (new i e new' lt none above));
}

pub decisions_assigned : {L : Type 0} (t : Assignment L) (l : L) (reason : Option ℕ) → HasDecisions t → (reason ≢ None) ⊎ (t.level ≡ 0) → HasDecisions (assigned t l reason)
decisions_assigned {L} t l reason has given =
    longer_decisions t (assigned t l reason) refl (front_entered t l t.level reason) has (λ i e new lt none above.
    (let last = last_entered t l t.level reason i e new lt in
    let level = ap (λ (x : Entry L). x.level) last in
    elim given [
      | inl some ↦ some (sym (ap (λ (x : Entry L). x.reason) last) ∙ none)
      | inr start ↦ omega (arith, level, above, start)
    ]))

pub decisions_decided : {L : Type 0} (at : L → ℕ) (t : Assignment L) (l : L) → IsTrail at t → HasDecisions t → HasDecisions (decided t l)
decisions_decided {L} at t l trail has =
    let t' : Assignment L = decided t l in
    let x : Entry L = record { literal = l; level = t.level + 1; reason = None } in
    let n = length-append t.entries (x ∷ []) in
    let front = front_entered t l (t.level + 1) None in
    let begins : (i : ℕ) → length t.entries ≤ i → i < length t'.entries → BeginsLevel t' i = λ i new lt j e before.
    (let lj : j < length t.entries = omega (arith, before, lt, n) in
    let a = ap (λ (y : Entry L). y.level) (front.same j e lj) in
    let b = ap (λ (y : Entry L). y.level) (last_entered t l (t.level + 1) None i e new lt) in
    let low = trail.leveled.below j e lj in
    omega (arith, a, b, low)) in
    let end' : length t.entries < length t'.entries = omega (arith, n) in
    record {
      each_level = λ q low high. elim (cases_lt t.level q) [
        | inl top ↦
            (let same : t.level + 1 ≡ q = omega (arith, top, high) in (
              length t.entries,
              record {
                known = end';
                on_level = λ e. ap (λ (y : Entry L). y.level) (last_entered t l (t.level + 1) None (length t.entries) e (omega arith) end') ∙ same;
                without_reason = λ e. ap (λ (y : Entry L). y.reason) (last_entered t l (t.level + 1) None (length t.entries) e (omega arith) end');
                begins = begins (length t.entries) (omega arith) end';
              },
            ))
        | inr old' ↦ (let d = has.each_level q low old' in (d.0, decision_stays t t' (length t.entries) q d.0 front d.1.known d.1))
      ];
      no_others = no_others_go t t' (length t.entries) front has (λ i e new lt none above. begins i new lt);
    }

pub decisions_undone : {L : Type 0} (at : L → ℕ) (t : Assignment L) (level : ℕ) → IsTrail at t → level ≤ t.level → HasDecisions t → HasDecisions (undone t level)
decisions_undone {L} at t level trail le has =
    let c = cut_at at t level trail in
    record {
      each_level = λ q low high.
          (let d = has.each_level q low (omega (arith, high, le)) in
          let lt : d.0 < c.0 = (let e : Entry L = some_entry t.entries d.0 d.1.known in c.1.inside d.0 e d.1.known (let l = d.1.on_level e in omega (arith, l, high))) in
          (d.0, decision_stays t (undone t level) c.0 q d.0 c.1.front lt d.1));
      no_others = no_others_go t (undone t level) c.0 c.1.front has (λ i e new lt none above. absurd (omega (arith, new, lt, c.1.size)));
    }
  where
    some_entry : (es : List (Entry L)) (i : ℕ) → i < length es → Entry L
    some_entry [] i lt = absurd (omega (arith, lt))
    some_entry (e ∷ es) i lt = e

pub decisions_propagated : {L : Type 0} (at : L → ℕ) (t t' : Assignment L) (clauses clauses' : List (List ℕ)) → Propagates at clauses t clauses' t' → HasDecisions t → HasDecisions t'
decisions_propagated {L} at t t' clauses clauses' goes has =
    longer_decisions t t' goes.level (front_longer t.entries t'.entries goes.more goes.kept) has (λ i e new lt none above. (let r = goes.reasons i e new lt in some_not r.0 (sym r.1 ∙ none)))
  where
    some_not : (id : ℕ) → Some id ≡ None → ⊥
    some_not id h = cc

-- reasons on level 0
start_go : {L : Type 0} (t t' : Assignment L) (n : ℕ) → IsFront n t.entries t'.entries → HasReasonsAtStart t
    → ((i : ℕ) (e : Entry L) → n ≤ i → i < length t'.entries → (get_or t'.entries i e).level ≡ 0 → (get_or t'.entries i e).reason ≢ None) → HasReasonsAtStart t'
start_go {L} t t' n front has new i e lt level = elim (cases_lt i n) [
  | inl old' ↦ (let same = front.same i e old' in λ none. has i e (omega (arith, old', front.some)) (ap (λ (x : Entry L). x.level) same ∙ level) (ap (λ (x : Entry L). x.reason) same ∙ none))
  | inr new' ↦ new i e new' lt level
]

pub start_empty : {L : Type 0} (variables : ℕ) → HasReasonsAtStart {L = L} (empty_trail variables)
start_empty variables i e lt level = absurd (omega (arith, lt))

pub start_assigned : {L : Type 0} (t : Assignment L) (l : L) (reason : Option ℕ) → HasReasonsAtStart t → (reason ≢ None) ⊎ (0 < t.level) → HasReasonsAtStart (assigned t l reason)
start_assigned {L} t l reason has given =
    start_go t (assigned t l reason) (length t.entries) (front_entered t l t.level reason) has (λ i e new lt level none.
    (let last = last_entered t l t.level reason i e new lt in
    let on = ap (λ (x : Entry L). x.level) last in
    elim given [
      | inl some ↦ some (sym (ap (λ (x : Entry L). x.reason) last) ∙ none)
      | inr above ↦ omega (arith, level, above, on)
    ]))

pub start_decided : {L : Type 0} (t : Assignment L) (l : L) → HasReasonsAtStart t → HasReasonsAtStart (decided t l)
start_decided {L} t l has =
    start_go t (decided t l) (length t.entries) (front_entered t l (t.level + 1) None) has (λ i e new lt level none.
    (let on = ap (λ (x : Entry L). x.level) (last_entered t l (t.level + 1) None i e new lt) in omega (arith, level, on)))

pub start_undone : {L : Type 0} (at : L → ℕ) (t : Assignment L) (level : ℕ) → IsTrail at t → HasReasonsAtStart t → HasReasonsAtStart (undone t level)
start_undone {L} at t level trail has =
    let c = cut_at at t level trail in
    start_go t (undone t level) c.0 c.1.front has (λ i e new lt low. absurd (omega (arith, new, lt, c.1.size)))

pub start_propagated : {L : Type 0} (at : L → ℕ) (t t' : Assignment L) (clauses clauses' : List (List ℕ)) → Propagates at clauses t clauses' t' → HasReasonsAtStart t → HasReasonsAtStart t'
start_propagated {L} at t t' clauses clauses' goes has =
    start_go t t' (length t.entries) (front_longer t.entries t'.entries goes.more goes.kept) has (λ i e new lt level none. (let r = goes.reasons i e new lt in some_not r.0 (sym r.1 ∙ none)))
  where
    some_not : (id : ℕ) → Some id ≡ None → ⊥
    some_not id h = cc

-- the entry of a true literal
record IsEntryOf {L : Type 0} (at : L → ℕ) (es : List (Entry L)) (l : ℕ) (e : Entry L) (i : ℕ) : Type 0 where
  pub known : i < length es
  pub is : (d : Entry L) → get_or es i d ≡ e
  pub literal : at e.literal ≡ l

entry_later : {L : Type 0} (at : L → ℕ) (es : List (Entry L)) (x : Entry L) (l : ℕ) (e : Entry L) (i : ℕ) → IsEntryOf at es l e i → IsEntryOf at (x ∷ es) l e (suc i)
entry_later at es x l e i h = record { known = (let k = h.known in omega (arith, k)); is = λ d. h.is d; literal = h.literal }

true_entry : {L : Type 0} (at : L → ℕ) (es : List (Entry L)) (l : ℕ) → is_true (places at es) l ≡ true → (e : Entry L) × (i : ℕ) × IsEntryOf at es l e i
true_entry at [] l h = absurd (false≢true h)
true_entry {L} at (x ∷ es) l h = elim (eqb_tells (at x.literal) l) [
  | inl same ↦ (x, 0, record { known = omega arith; is = λ d. refl; literal = same.1 })
  | inr other ↦ (let r = true_entry at es l (sym (ap (λ b. b || is_true (places at es) l) other.0) ∙ h) in (r.0, suc r.1, entry_later at es x l r.0 r.1 r.2))
]

-- a literal that is true, and not under a cut, has an entry above it
late_entry : {L : Type 0} (at : L → ℕ) (es : List (Entry L)) (k l : ℕ) → is_true (places at es) l ≡ true → is_true (places at (cut es k)) l ≡ false → (e : Entry L) × (i : ℕ) × IsEntryOf at es l e i × (k < e.level)
late_entry at [] k l h out = absurd (false≢true h)
late_entry {L} at (x ∷ es) k l h out = elim (leb_tells x.level k) [
  | inl low ↦ (let now : is_true (places at (x ∷ cut es k)) l ≡ false = ap (λ (xs : List (Entry L)). is_true (places at xs) l) (sym (kept_in x es k low.1)) ∙ out in
      elim (eqb_tells (at x.literal) l) [
        | inl same ↦ absurd (false≢true (sym now ∙ ap (λ b. b || is_true (places at (cut es k)) l) same.0))
        | inr other ↦ later (late_entry at es k l (sym (ap (λ b. b || is_true (places at es) l) other.0) ∙ h) (sym (ap (λ b. b || is_true (places at (cut es k)) l) other.0) ∙ now))
      ])
  | inr high ↦ (elim (eqb_tells (at x.literal) l) [
    | inl same ↦ (x, 0, record { known = omega arith; is = λ d. refl; literal = same.1 }, high.1)
    | inr other ↦ later (late_entry at es k l (sym (ap (λ b. b || is_true (places at es) l) other.0) ∙ h) (ap (λ (xs : List (Entry L)). is_true (places at xs) l) (sym (left_out x es k high.1)) ∙ out))
  ])
]
  where
    later : ((e : Entry L) × (i : ℕ) × IsEntryOf at es l e i × (k < e.level)) → (e : Entry L) × (i : ℕ) × IsEntryOf at (x ∷ es) l e i × (k < e.level)
    later (e, i, is, above) = (e, suc i, entry_later at es x l e i is, above)

-- no literal is true together with its negation
not_both : {L : Type 0} (at : L → ℕ) (t : Assignment L) (l : ℕ) → IsTrail at t → is_true (places at t.entries) l ≡ true → is_true (places at t.entries) (negation l) ≡ true → ⊥
not_both {L} at t l trail yes' out =
    let a = true_entry at t.entries l yes' in
    let b = true_entry at t.entries (negation l) out in
    let d : Entry L = a.0 in
    let la : at (get_or t.entries a.1 d).literal ≡ l = ap (λ (x : Entry L). at x.literal) (a.2.is d) ∙ a.2.literal in
    let lb : at (get_or t.entries b.1 d).literal ≡ negation l = ap (λ (x : Entry L). at x.literal) (b.2.is d) ∙ b.2.literal in
    let half : (at (get_or t.entries b.1 d).literal) / 2 ≡ (at (get_or t.entries a.1 d).literal) / 2 = ap (λ n. n / 2) lb ∙ variable_of-negation l ∙ sym (ap (λ n. n / 2) la) in
    elim (cases_lt a.1 b.1) [
      | inl first ↦ trail.apart a.1 b.1 d first b.2.known (sym half)
      | inr later ↦ (elim (cases_eq a.1 b.1) [
        | inl same ↦ negation_differs l (sym lb ∙ ap (λ k. at (get_or t.entries k d).literal) (sym same) ∙ la)
        | inr ne ↦ trail.apart b.1 a.1 d (omega (arith, later, ne)) a.2.known half
      ])
    ]

-- all literals of a false clause are false
each_false : (set xs : List ℕ) → list_all (is_false set) xs ≡ true → (k d : ℕ) → k < length xs → is_false set (get_or xs k d) ≡ true
each_false set [] h k d lt = absurd (omega (arith, lt))
each_false set (x ∷ xs) h zero d lt = first (is_false set x) (list_all (is_false set) xs) h where
  first : (a b : Bool) → (a && b) ≡ true → a ≡ true
  first true b e = refl
  first false b e = absurd (false≢true e)
each_false set (x ∷ xs) h (suc k) d lt = each_false set xs (rest (is_false set x) (list_all (is_false set) xs) h) k d (omega (arith, lt)) where
  rest : (a b : Bool) → (a && b) ≡ true → b ≡ true
  rest true b e = e
  rest false b e = absurd (false≢true e)

-- an open literal of a clause, by its place
one_open : (set xs : List ℕ) → 1 ≤ length (open_literals set xs) → (j : ℕ) × (j < length xs) × (is_false set (get_or xs j 0) ≡ false)
one_open set [] some = absurd (omega (arith, some))
one_open set (x ∷ xs) some = elim (true_or_false (is_false set x)) [
  | inl out ↦ (let n = ap length (open_skip set x xs out) in let r = one_open set xs (omega (arith, n, some)) in (suc r.0, omega (arith, r.1), r.2))
  | inr stays ↦ (0, omega arith, stays)
]

two_open_places : (set xs : List ℕ) → 2 ≤ length (open_literals set xs) → (i : ℕ) × (j : ℕ) × (i < j) × (j < length xs) × (is_false set (get_or xs i 0) ≡ false) × (is_false set (get_or xs j 0) ≡ false)
two_open_places set [] two = absurd (omega (arith, two))
two_open_places set (x ∷ xs) two = elim (true_or_false (is_false set x)) [
  | inl out ↦ (let n = ap length (open_skip set x xs out) in let r = two_open_places set xs (omega (arith, n, two)) in (suc r.0, suc r.1, omega (arith, r.2), omega (arith, r.3), r.4, r.5))
  | inr stays ↦ (let n = ap length (open_more set x xs stays) in let r = one_open set xs (omega (arith, n, two)) in (0, suc r.0, omega arith, omega (arith, r.1), stays, r.2))
]

-- a literal that is false now, and not under the cut below the current level, became false on it
false_now : {L : Type 0} (at : L → ℕ) (t : Assignment L) (l : ℕ) → IsTrail at t → 0 < t.level → is_false (places at t.entries) l ≡ true → is_false (places at (cut t.entries (t.level - 1))) l ≡ false → IsFalseOn at t t.level l
false_now {L} at t l trail above now out =
    let r = late_entry at t.entries (t.level - 1) (negation l) now out in
    let e : Entry L = r.0 in
    let most = trail.leveled.below r.1 e r.2.known in
    let is = ap (λ (x : Entry L). x.level) (r.2.is e) in
    let level : e.level ≡ t.level = (let high = r.3 in omega (arith, high, most, is, above)) in
    (r.1, r.2.known, λ d. (ap (λ (x : Entry L). at x.literal) (r.2.is d) ∙ r.2.literal, ap (λ (x : Entry L). x.level) (r.2.is d) ∙ level))

pub two_false : {L : Type 0} (at : L → ℕ) (t : Assignment L) (clauses : List (List ℕ)) (id : ℕ) → IsTrail at t → IsInConflict at t clauses id → 0 < t.level → HasTwoFalseOn at t t.level (get_or clauses id [])
two_false {L} at t clauses id trail conflict above =
    let clause : List ℕ = get_or clauses id [] in
    let set : List ℕ = places at t.entries in
    let low : List ℕ = places at (cut t.entries (t.level - 1)) in
    let shut = each_false set clause conflict.clause.literals in
    let settled : IsSettledByCount low clause = conflict.below (t.level - 1) (omega (arith, above)) id [] conflict.clause.known conflict.clause.long in
    elim settled [
      | inl some ↦
          (let h = any_to low clause some in
          let has = h.1 in
          let gone : is_false set h.0 ≡ true = ap (is_false set) (sym has.2) ∙ shut has.0 h.0 has.1 in
          absurd (not_both at t h.0 trail (cut_true at t.entries (t.level - 1) h.0 h.2) gone))
      | inr two ↦
          (let r = two_open_places low clause two in
          record {
            first = r.0;
            second = r.1;
            apart = r.2;
            inside = r.3;
            falses = (
              false_now at t (get_or clause r.0 0) trail above (shut r.0 0 (let a = r.2 in let b = r.3 in omega (arith, a, b))) r.4,
              false_now at t (get_or clause r.1 0) trail above (shut r.1 0 r.3) r.5,
            );
          })
    ]

pub false_at_start : {L : Type 0} (at : L → ℕ) (t : Assignment L) (clauses : List (List ℕ)) (id : ℕ) → IsTrail at t → IsInConflict at t clauses id → t.level ≡ 0 → All (IsFalseOn at t 0) (get_or clauses id [])
false_at_start {L} at t clauses id trail conflict start k d lt =
    let r = true_entry at t.entries (negation (get_or (get_or clauses id []) k d)) (each_false (places at t.entries) (get_or clauses id []) conflict.clause.literals k d lt) in
    let e : Entry L = r.0 in
    let most = trail.leveled.below r.1 e r.2.known in
    let is = ap (λ (x : Entry L). x.level) (r.2.is e) in
    let level : e.level ≡ 0 = omega (arith, most, is, start) in
    (r.1, r.2.known, λ d'. (ap (λ (x : Entry L). at x.literal) (r.2.is d') ∙ r.2.literal, ap (λ (x : Entry L). x.level) (r.2.is d') ∙ level))
