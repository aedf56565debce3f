-- What holds between the steps of a search goes on to hold.
use Rattle.std.proofs.Common.{◌≡◌, ◌≢◌, ℕ, zero, suc, ◌+◌, ◌<◌, ◌≤◌, true, List, [], ◌∷◌, ◌++◌, length, get_or, take, min, Option, None, Some, refl, sym, ◌∙◌, ap, subst, arith, ◌⊎◌, inl, inr}
use Rattle.std.specs.List.{All, Contains}
use Rattle.std.specs.List.Sorted.{IsPermutation}
use Rattle.std.proofs.lemmas.Bool.{cases_eq, cases_lt}
use Rattle.std.proofs.lemmas.List.{length-append, get_or-take, get_or_past, length-take}
use Rattle.std.proofs.lemmas.List.Sorted.{IsPermutation-trans, IsPermutation-refl, Contains-permutation, length_permutation}
use Rattle.literals_core.proofs.Members.{Contains-first}
use Rattle.literals_core.specs.Truth.{is_false}
use Rattle.watch_core.specs.Trail.{Assignment, Entry, IsTrail, places, cut, entered, assigned, decided, undone}
use Rattle.watch_core.specs.Places.{placed}
use Rattle.watch_core.specs.Propagates.{Propagates, AreReordered}
use Rattle.watch_core.specs.Reasons.{HasReasons, IsUnitFor}
use Rattle.watch_core.proofs.ReasonLemmas.{reasons_assigned, reasons_decided, reasons_undone, reasons_added, reasons_propagated, decisions_assigned, decisions_decided, decisions_undone, decisions_propagated, start_assigned, start_decided, start_undone, start_propagated}
use Rattle.watch_core.proofs.LevelLemmas.{kept_in, cut_none}
use Rattle.search_core.specs.State.{place, entry_at, no_entry, AreReasoned, IsTrueAtStart, IsSound, GoesOn}
use Rattle.search_core.proofs.FreshLemmas.{placed_is}

-- the first entries of two trails are the same
pub record SameBefore (n : ℕ) (t t' : Assignment ℕ) : Type 0 where
  pub some : n ≤ length t.entries
  pub more : n ≤ length t'.entries
  pub same : (i : ℕ) → i < n → entry_at t' i ≡ entry_at t i

pub reordered_trans : (a b c : List (List ℕ)) → AreReordered a b → AreReordered b c → AreReordered a c
reordered_trans a b c x y = record { count = y.count ∙ x.count; same = λ k. IsPermutation-trans (get_or a k []) (get_or b k []) (get_or c k []) (x.same k) (y.same k) }

pub reordered_not : (a : List (List ℕ)) → AreReordered a a
reordered_not a = record { count = refl; same = λ k. IsPermutation-refl (get_or a k []) }

-- clauses that there were stand there in some order, and more may come
pub record StayClauses (clauses clauses' : List (List ℕ)) : Type 0 where
  pub more : length clauses ≤ length clauses'
  pub same : (c : ℕ) → c < length clauses → IsPermutation (get_or clauses c []) (get_or clauses' c [])

-- why literals are true, after each step
pub reasoned_propagated : (t t' : Assignment ℕ) (clauses clauses' : List (List ℕ)) → Propagates place (placed place clauses) t (placed place clauses') t' → AreReasoned t clauses → AreReasoned t' clauses'
reasoned_propagated t t' clauses clauses' goes has =
    let P : List (List ℕ) → Type 0 = λ cs. HasReasons place t cs in
    let Q : List (List ℕ) → Type 0 = λ cs. HasReasons place t' cs in
    record {
      reasons = subst Q (placed_is clauses') (reasons_propagated place t t' (placed place clauses) (placed place clauses') goes (subst P (sym (placed_is clauses)) has.reasons));
      decisions = decisions_propagated place t t' (placed place clauses) (placed place clauses') goes has.decisions;
      start = start_propagated place t t' (placed place clauses) (placed place clauses') goes has.start;
    }

pub reasoned_assigned : (t : Assignment ℕ) (clauses : List (List ℕ)) (l id : ℕ) → IsUnitFor (places place t.entries) clauses id l → AreReasoned t clauses → AreReasoned (assigned t l (Some id)) clauses
reasoned_assigned t clauses l id unit has = record {
  reasons = reasons_assigned place t clauses l (Some id) has.reasons (λ k is. subst (λ n. IsUnitFor (places place t.entries) clauses n l) (number k is) unit);
  decisions = decisions_assigned t l (Some id) has.decisions (inl some);
  start = start_assigned t l (Some id) has.start (inl some);
} where
  number : (k : ℕ) → Some id ≡ Some k → id ≡ k
  number k is = cc

  some : Some id ≢ None
  some e = cc

pub reasoned_decided : (t : Assignment ℕ) (clauses : List (List ℕ)) (l : ℕ) → IsTrail place t → AreReasoned t clauses → AreReasoned (decided t l) clauses
reasoned_decided t clauses l trail has = record {
  reasons = reasons_decided place t clauses l has.reasons;
  decisions = decisions_decided place t l trail has.decisions;
  start = start_decided t l has.start;
}

pub reasoned_undone : (t : Assignment ℕ) (clauses : List (List ℕ)) (level : ℕ) → IsTrail place t → level ≤ t.level → AreReasoned t clauses → AreReasoned (undone t level) clauses
reasoned_undone t clauses level trail le has = record {
  reasons = reasons_undone place t clauses level trail has.reasons;
  decisions = decisions_undone place t level trail le has.decisions;
  start = start_undone place t level trail has.start;
}

pub reasoned_added : (t : Assignment ℕ) (clauses : List (List ℕ)) (clause : List ℕ) → AreReasoned t clauses → AreReasoned t (clauses ++ clause ∷ [])
reasoned_added t clauses clause has = record { reasons = reasons_added place t clauses clause has.reasons; decisions = has.decisions; start = has.start }

-- a clause that is true at level 0 stays so
pub start_stays : (t t' : Assignment ℕ) (clause clause' : List ℕ) (n : ℕ) → SameBefore n t t' → IsPermutation clause clause' → (u : IsTrueAtStart t clause) → u.0 < n → IsTrueAtStart t' clause'
start_stays t t' clause clause' n same order (i, known, ground', has) lt =
    let e = same.same i lt in
    (i, omega (arith, lt, same.more), ap (λ (x : Entry ℕ). x.level) e ∙ ground', Contains-permutation clause clause' (entry_at t' i).literal order (subst (λ (x : Entry ℕ). Contains clause x.literal) (sym e) has))

-- more entries, and clauses in another order
pub sound_longer : (n : ℕ) (known clauses clauses' : List (List ℕ)) (t t' : Assignment ℕ) → IsSound n known clauses t → AreReordered clauses clauses' → SameBefore (length t.entries) t t' → AreReasoned t' clauses' → IsSound n known clauses' t'
sound_longer n known clauses clauses' t t' sound order same reasoned = record {
  order = reordered_trans known clauses clauses' sound.order order;
  reasoned = reasoned;
  units = λ c lt short.
      (let size = length_permutation (get_or clauses c []) (get_or clauses' c []) (order.same c) in
      let u = sound.units c lt (omega (arith, size, short)) in
      start_stays t t' (get_or clauses c []) (get_or clauses' c []) (length t.entries) same (order.same c) u u.1);
}

-- a trail of which the old one is the front
pub front_same : (t t' : Assignment ℕ) → length t.entries ≤ length t'.entries → take (length t.entries) t'.entries ≡ t.entries → SameBefore (length t.entries) t t'
front_same t t' more kept = record {
  some = omega arith;
  more = more;
  same = λ i lt. sym (ap (λ (es : List (Entry ℕ)). get_or es i no_entry) (sym kept) ∙ get_or-take (length t.entries) t'.entries i no_entry lt);
}

-- propagation
pub sound_propagated : (n : ℕ) (known clauses clauses' : List (List ℕ)) (t t' : Assignment ℕ) → Propagates place (placed place clauses) t (placed place clauses') t' → AreReordered clauses clauses' → IsSound n known clauses t → IsSound n known clauses' t'
sound_propagated n known clauses clauses' t t' goes order sound =
    sound_longer n known clauses clauses' t t' sound order (front_same t t' goes.more goes.kept) (reasoned_propagated t t' clauses clauses' goes sound.reasoned)

pub goes_propagated : (clauses clauses' : List (List ℕ)) (t t' : Assignment ℕ) → Propagates place (placed place clauses) t (placed place clauses') t' → AreReordered clauses clauses' → GoesOn clauses t clauses' t'
goes_propagated clauses clauses' t t' goes order = record { sound = λ n known sound. sound_propagated n known clauses clauses' t t' goes order sound; variables = goes.variables; count = order.count }

pub goes_not : (clauses : List (List ℕ)) (t : Assignment ℕ) → GoesOn clauses t clauses t
goes_not clauses t = record { sound = λ n known sound. sound; variables = refl; count = refl }

pub goes_trans : (c0 c1 c2 : List (List ℕ)) (t0 t1 t2 : Assignment ℕ) → GoesOn c0 t0 c1 t1 → GoesOn c1 t1 c2 t2 → GoesOn c0 t0 c2 t2
goes_trans c0 c1 c2 t0 t1 t2 a b = record { sound = λ n known sound. b.sound n known (a.sound n known sound); variables = b.variables ∙ a.variables; count = b.count ∙ a.count }

-- one more entry
entered_same : (t : Assignment ℕ) (l level : ℕ) (reason : Option ℕ) → SameBefore (length t.entries) t (entered t l level reason)
entered_same t l level reason =
    let e : Entry ℕ = record { literal = l; level = level; reason = reason } in
    let n = length-append t.entries (e ∷ []) in
    front_same t (entered t l level reason) (omega (arith, n)) (take_all t.entries) where
      take_all : (es : List (Entry ℕ)) → take (length es) (es ++ record { literal = l; level = level; reason = reason } ∷ []) ≡ es
      take_all [] = refl
      take_all (x ∷ es) = ap (λ (ys : List (Entry ℕ)). x ∷ ys) (take_all es)

pub entered_last : (t : Assignment ℕ) (l level : ℕ) (reason : Option ℕ) (i : ℕ) → length t.entries ≤ i → i < length (entered t l level reason).entries → (i ≡ length t.entries) × (entry_at (entered t l level reason) i ≡ record { literal = l; level = level; reason = reason })
entered_last t l level reason i new' lt =
    let e : Entry ℕ = record { literal = l; level = level; reason = reason } in
    let n = length-append t.entries (e ∷ []) in
    let is : i ≡ length t.entries = omega (arith, new', lt, n) in
    (is, last t.entries i is) where
      last : (es : List (Entry ℕ)) (i : ℕ) → i ≡ length es → get_or (es ++ record { literal = l; level = level; reason = reason } ∷ []) i no_entry ≡ record { literal = l; level = level; reason = reason }
      last [] zero is = refl
      last [] (suc i) is = absurd (omega (arith, is))
      last (x ∷ es) zero is = absurd (omega (arith, is))
      last (x ∷ es) (suc i) is = last es i (omega (arith, is))

-- a decision
pub sound_decided : (n : ℕ) (known clauses : List (List ℕ)) (t : Assignment ℕ) (l : ℕ) → IsTrail place t → IsSound n known clauses t → IsSound n known clauses (decided t l)
sound_decided n known clauses t l trail sound =
    sound_longer n known clauses clauses t (decided t l) sound (reordered_not clauses) (entered_same t l (t.level + 1) None) (reasoned_decided t clauses l trail sound.reasoned)

pub goes_decided : (clauses : List (List ℕ)) (t : Assignment ℕ) (l : ℕ) → IsTrail place t → GoesOn clauses t clauses (decided t l)
goes_decided clauses t l trail = record { sound = λ n known sound. sound_decided n known clauses t l trail sound; variables = refl; count = refl }

pub longer : (t : Assignment ℕ) (l id : ℕ) → length t.entries < length (assigned t l (Some id)).entries
longer t l id = let e : Entry ℕ = record { literal = l; level = t.level; reason = Some id } in let n = length-append t.entries (e ∷ []) in omega (arith, n)

-- a literal that a clause gives whose other literals are false
pub sound_assigned : (n : ℕ) (known clauses : List (List ℕ)) (t : Assignment ℕ) (l id : ℕ) → IsUnitFor (places place t.entries) clauses id l → IsSound n known clauses t → IsSound n known clauses (assigned t l (Some id))
sound_assigned n known clauses t l id unit sound =
    sound_longer n known clauses clauses t (assigned t l (Some id)) sound (reordered_not clauses) (entered_same t l t.level (Some id)) (reasoned_assigned t clauses l id unit sound.reasoned)

-- the entries of low levels stand first
pub record IsCutAt (es : List (Entry ℕ)) (level n : ℕ) : Type 0 where
  pub few : n ≤ length es
  pub is : cut es level ≡ take n es
  pub inside : (i : ℕ) → i < length es → (get_or es i no_entry).level ≤ level → i < n

pub cut_place : (es : List (Entry ℕ)) (level : ℕ) → ((i j : ℕ) (d : Entry ℕ) → i < j → j < length es → (get_or es i d).level ≤ (get_or es j d).level) → (n : ℕ) × IsCutAt es level n
cut_place [] level sorted = (0, record { few = omega arith; is = refl; inside = λ i lt low. absurd (omega (arith, lt)) })
cut_place (e ∷ es) level sorted = elim (cases_lt level e.level) [
  | inl out ↦ (
    0,
    record {
      few = omega arith;
      is = cut_none (e ∷ es) level (λ k d lt. above k d lt out);
      inside = λ i lt low. (let high = above i no_entry lt out in absurd (omega (arith, high, low)));
    },
  )
  | inr stays ↦
      (let rest = cut_place es level (λ i j d before lt. sorted (suc i) (suc j) d (omega (arith, before)) (omega (arith, lt))) in (
        suc rest.0,
        record {
          few = (let f = rest.1.few in omega (arith, f));
          is = kept_in e es level stays ∙ ap (λ (ys : List (Entry ℕ)). e ∷ ys) rest.1.is;
          inside = λ i lt low. in_front rest.0 rest.1 i lt low;
        },
      ))
] where
  above : (k : ℕ) (d : Entry ℕ) → k < length (e ∷ es) → level < e.level → level < (get_or (e ∷ es) k d).level
  above zero d lt out = out
  above (suc k) d lt out = let s = sorted 0 (suc k) d (omega arith) lt in omega (arith, s, out)

  in_front : (n : ℕ) → IsCutAt es level n → (i : ℕ) → i < length (e ∷ es) → (get_or (e ∷ es) i no_entry).level ≤ level → i < suc n
  in_front n rest zero lt low = omega arith
  in_front n rest (suc i) lt low = let h = rest.inside i (omega (arith, lt)) low in omega (arith, h)

-- going back
pub sound_undone : (m : ℕ) (known clauses : List (List ℕ)) (t : Assignment ℕ) (level : ℕ) → IsTrail place t → level ≤ t.level → IsSound m known clauses t → IsSound m known clauses (undone t level)
sound_undone m known clauses t level trail le sound =
    let at = cut_place t.entries level trail.leveled.sorted in
    let n : ℕ = at.0 in
    let size : length (cut t.entries level) ≡ n = ap length at.1.is ∙ length-take n t.entries ∙ least n (length t.entries) at.1.few in
    let same : SameBefore n t (undone t level) = record {
      some = at.1.few;
      more = omega (arith, size);
      same = λ i lt. ap (λ (es : List (Entry ℕ)). get_or es i no_entry) at.1.is ∙ get_or-take n t.entries i no_entry lt;
    } in
    record {
      order = sound.order;
      reasoned = reasoned_undone t clauses level trail le sound.reasoned;
      units = λ c lt short. (let u = sound.units c lt short in let ground' = u.2 in start_stays t (undone t level) (get_or clauses c []) (get_or clauses c []) n same (IsPermutation-refl (get_or clauses c [])) u (at.1.inside u.0 u.1 (omega (arith, ground'))));
    }
  where
    least : (a b : ℕ) → a ≤ b → min a b ≡ a
    least a b le = omega (arith, le)

-- one more clause
pub row_old : (clauses : List (List ℕ)) (c : ℕ) (clause : List ℕ) → c < length clauses → get_or (clauses ++ clause ∷ []) c [] ≡ get_or clauses c []
row_old [] c clause lt = absurd (omega (arith, lt))
row_old (x ∷ clauses) zero clause lt = refl
row_old (x ∷ clauses) (suc c) clause lt = row_old clauses c clause (omega (arith, lt))

pub row_new : (clauses : List (List ℕ)) (c : ℕ) (clause : List ℕ) → c ≡ length clauses → get_or (clauses ++ clause ∷ []) c [] ≡ clause
row_new [] zero clause is = refl
row_new [] (suc c) clause is = absurd (omega (arith, is))
row_new (x ∷ clauses) zero clause is = absurd (omega (arith, is))
row_new (x ∷ clauses) (suc c) clause is = row_new clauses c clause (omega (arith, is))

pub reordered_more : (known clauses : List (List ℕ)) (clause : List ℕ) → AreReordered known clauses → AreReordered (known ++ clause ∷ []) (clauses ++ clause ∷ [])
reordered_more known clauses clause order = record {
  count = (let a = length-append known (clause ∷ []) in let b = length-append clauses (clause ∷ []) in omega (arith, a, b, order.count));
  same = λ c. at c;
} where
  Q : List ℕ → List ℕ → Type 0
  Q a b = IsPermutation a b

  at : (c : ℕ) → IsPermutation (get_or (known ++ clause ∷ []) c []) (get_or (clauses ++ clause ∷ []) c [])
  at c = elim (cases_lt c (length known)) [
    | inl before ↦ subst (λ (a : List ℕ). Q a (get_or (clauses ++ clause ∷ []) c [])) (sym (row_old known c clause before)) (subst (λ (b : List ℕ). Q (get_or known c []) b) (sym (row_old clauses c clause (omega (arith, before, order.count)))) (order.same c))
    | inr after ↦ (elim (cases_eq c (length known)) [
      | inl here ↦ subst (λ (a : List ℕ). Q a (get_or (clauses ++ clause ∷ []) c [])) (sym (row_new known c clause here)) (subst (λ (b : List ℕ). Q clause b) (sym (row_new clauses c clause (omega (arith, here, order.count)))) (IsPermutation-refl clause))
      | inr past ↦
          (let a = length-append known (clause ∷ []) in
          let b = length-append clauses (clause ∷ []) in
          let x = get_or_past (known ++ clause ∷ []) c [] (omega (arith, a, after, past)) in
          let y = get_or_past (clauses ++ clause ∷ []) c [] (omega (arith, b, after, past, order.count)) in
          subst (λ (d : List ℕ). Q d (get_or (clauses ++ clause ∷ []) c [])) (sym x) (subst (λ (d : List ℕ). Q [] d) (sym y) (IsPermutation-refl [])))
    ])
  ]

pub added_stay : (clauses : List (List ℕ)) (clause : List ℕ) → StayClauses clauses (clauses ++ clause ∷ [])
added_stay clauses clause = record {
  more = (let a = length-append clauses (clause ∷ []) in omega (arith, a));
  same = λ c lt. subst (λ (d : List ℕ). IsPermutation (get_or clauses c []) d) (sym (row_old clauses c clause lt)) (IsPermutation-refl (get_or clauses c []));
}

-- a lemma is added, and its first literal assigned, while the others are false
pub sound_learned : (known clauses : List (List ℕ)) (t : Assignment ℕ) (l id : ℕ) (lower : List ℕ) → IsSound (length clauses) known clauses t → id ≡ length clauses
    → All (λ x. is_false (places place t.entries) x ≡ true) lower → (lower ≡ [] → t.level ≡ 0)
    → IsSound (length clauses + 1) (known ++ (l ∷ lower) ∷ []) (clauses ++ (l ∷ lower) ∷ []) (assigned t l (Some id))
sound_learned known clauses t l id lower sound is out alone =
    let clause : List ℕ = l ∷ lower in
    let clauses' : List (List ℕ) = clauses ++ clause ∷ [] in
    let same = entered_same t l t.level (Some id) in
    let stay = added_stay clauses clause in
    let n = length-append clauses (clause ∷ []) in
    let row : get_or clauses' id [] ≡ clause = row_new clauses id clause is in
    record {
      order = reordered_more known clauses clause sound.order;
      reasoned = reasoned_assigned t clauses' l id (record {
        known = omega (arith, n, is);
        has = subst (λ (d : List ℕ). Contains d l) (sym row) (Contains-first l lower);
        others = subst (λ (d : List ℕ). All (λ x. (x ≡ l) ⊎ (is_false (places place t.entries) x ≡ true)) d) (sym row) (λ k d inside. others k d inside);
      }) (reasoned_added t clauses clause sound.reasoned);
      units = λ c lt short. elim (cases_lt c (length clauses)) [
        | inl before ↦
            (let e = row_old clauses c clause before in
            let u = sound.units c before (subst (λ (d : List ℕ). length d ≤ 1) e short) in
            start_stays t (assigned t l (Some id)) (get_or clauses c []) (get_or clauses' c []) (length t.entries) same (stay.same c before) u u.1)
        | inr after ↦
            (let e = row_new clauses c clause (omega (arith, lt, after)) in
            let few = subst (λ (d : List ℕ). length d ≤ 1) e short in
            let last = entered_last t l t.level (Some id) (length t.entries) (omega arith) (longer t l id) in (
              length t.entries,
              longer t l id,
              ap (λ (x : Entry ℕ). x.level) last.1 ∙ alone (empty lower (omega (arith, few))),
              subst (λ (d : List ℕ). Contains d (entry_at (assigned t l (Some id)) (length t.entries)).literal) (sym e) (subst (Contains clause) (sym (ap (λ (x : Entry ℕ). x.literal) last.1)) (Contains-first l lower)),
            ))
      ];
    }
  where
    others : (k d : ℕ) → k < length (l ∷ lower) → (get_or (l ∷ lower) k d ≡ l) ⊎ (is_false (places place t.entries) (get_or (l ∷ lower) k d) ≡ true)
    others zero d inside = inl refl
    others (suc k) d inside = inr (out k d (omega (arith, inside)))

    empty : (xs : List ℕ) → length xs ≤ 0 → xs ≡ []
    empty [] le = refl
    empty (x ∷ xs) le = absurd (omega (arith, le))
