-- One more mark.
use Rattle.std.proofs.Common.{◌≡◌, ◌≢◌, ℕ, zero, suc, ◌+◌, ◌<◌, ◌≤◌, List, [], ◌∷◌, ◌++◌, length, get_or, set, refl, sym, ◌∙◌, ap, subst, arith, inl, inr}
use Rattle.std.specs.List.{All, Contains}
use Rattle.std.proofs.lemmas.Bool.{cases_eq, cases_lt}
use Rattle.std.proofs.lemmas.List.{get_or_default, get_or-set_same, get_or-set_other, length-append}
use Rattle.std.proofs.lemmas.List.Elements.{All-append, Contains-append_left, Contains-append_right}
use Rattle.literals_core.specs.Literal.{negation, variable_of}
use Rattle.literals_core.proofs.Members.{Contains-first}
use Rattle.literals_core.proofs.Negation.{negation_twice, variable_of-negation}
use Rattle.watch_core.specs.Trail.{Assignment, Entry, IsTrail}
use Rattle.search_core.specs.State.{place, entry_at, no_entry, IsEntry}
use Rattle.literals_core.specs.DistinctVariables.{HasDistinctVariables}
use Rattle.search_core.specs.Analysis.{IsLower, HasMark, AreMarked, IsOpen, IsFalseOrMarked, Grows}
use Rattle.search_core.proofs.ListLemmas.{all_map}
use Rattle.search_core.proofs.EntryLemmas.{same_entry}

-- a stamp that was read tells whether there is a mark
pub read_mark : (stamps : List ℕ) (v r l : ℕ) → r ≡ get_or stamps v r → v ≡ variable_of l → v < length stamps → get_or stamps (variable_of l) 0 ≡ r
read_mark stamps v r l is e lt = ap (λ k. get_or stamps k 0) (sym e) ∙ get_or_default stamps v 0 r lt ∙ sym is

pub mark_set : (stamps stamps' : List ℕ) (stamp v l : ℕ) → stamps' ≡ set stamps v stamp → v ≡ variable_of l → v < length stamps → HasMark stamps' stamp l
mark_set stamps stamps' stamp v l e is lt = ap (λ (s : List ℕ). get_or s (variable_of l) 0) e ∙ ap (λ k. get_or (set stamps v stamp) k 0) (sym is) ∙ get_or-set_same stamps v stamp 0 lt

pub mark_stays : (stamps stamps' : List ℕ) (stamp v l : ℕ) → stamps' ≡ set stamps v stamp → v < length stamps → HasMark stamps stamp l → HasMark stamps' stamp l
mark_stays stamps stamps' stamp v l e lt h = elim (cases_eq v (variable_of l)) [
  | inl same ↦ mark_set stamps stamps' stamp v l e same lt
  | inr other ↦ ap (λ (s : List ℕ). get_or s (variable_of l) 0) e ∙ get_or-set_other stamps v (variable_of l) stamp 0 (λ x. other (sym x)) ∙ h
]

pub mark_was : (stamps stamps' : List ℕ) (stamp v l : ℕ) → stamps' ≡ set stamps v stamp → v ≢ variable_of l → HasMark stamps' stamp l → HasMark stamps stamp l
mark_was stamps stamps' stamp v l e other h = sym (ap (λ (s : List ℕ). get_or s (variable_of l) 0) e ∙ get_or-set_other stamps v (variable_of l) stamp 0 (λ x. other (sym x))) ∙ h

pub grows_not : (stamps lower : List ℕ) (stamp : ℕ) → Grows stamps stamp lower stamps lower
grows_not stamps lower stamp = record { marks = λ l h. h; lowers = λ l h. h }

pub grows_trans : (stamps stamps1 stamps2 lower lower1 lower2 : List ℕ) (stamp : ℕ) → Grows stamps stamp lower stamps1 lower1 → Grows stamps1 stamp lower1 stamps2 lower2 → Grows stamps stamp lower stamps2 lower2
grows_trans stamps stamps1 stamps2 lower lower1 lower2 stamp a b = record { marks = λ l h. b.marks l (a.marks l h); lowers = λ l h. b.lowers l (a.lowers l h) }

-- the entry that makes an unmarked literal false
pub unmarked_entry : (t : Assignment ℕ) (stamps : List ℕ) (stamp l : ℕ) → IsFalseOrMarked t stamps stamp l → ¬ HasMark stamps stamp l → (i : ℕ) × IsEntry t (negation l) i
unmarked_entry t stamps stamp l (inl mark) none = absurd (none mark)
unmarked_entry t stamps stamp l (inr entry) none = entry

-- a mark of the current level
pub marked_here : (t : Assignment ℕ) (stamps stamps' lower : List ℕ) (stamp v l n : ℕ) → IsTrail place t → AreMarked t stamps stamp lower → ((i : ℕ) × IsEntry t (negation l) i)
    → ((i : ℕ) (d : Entry ℕ) → i < length t.entries → variable_of (get_or t.entries i d).literal ≡ v → n ≡ (get_or t.entries i d).level)
    → stamps' ≡ set stamps v stamp → v ≡ variable_of l → v < length stamps → t.level ≤ n → AreMarked t stamps' stamp lower
marked_here t stamps stamps' lower stamp v l n trail marks entry level e is lt high = record {
  lows = marks.lows;
  apart = marks.apart;
  have = all_map (HasMark stamps stamp) (HasMark stamps' stamp) lower (λ x h. mark_stays stamps stamps' stamp v x e lt h) marks.have;
  marked = λ i known mark. elim (cases_eq v (variable_of (entry_at t i).literal)) [
    | inl same ↦ (let at = level i no_entry known (sym same) in let most = trail.leveled.below i no_entry known in inl (omega (arith, at, most, high)))
    | inr other ↦ marks.marked i known (mark_was stamps stamps' stamp v (entry_at t i).literal e other mark)
  ];
}

-- a mark of a lower level
pub marked_lower : (t : Assignment ℕ) (stamps stamps' lower lower' : List ℕ) (stamp v l n : ℕ) → IsTrail place t → AreMarked t stamps stamp lower → ((i : ℕ) × IsEntry t (negation l) i) → ¬ HasMark stamps stamp l
    → ((i : ℕ) (d : Entry ℕ) → i < length t.entries → variable_of (get_or t.entries i d).literal ≡ v → n ≡ (get_or t.entries i d).level)
    → stamps' ≡ set stamps v stamp → v ≡ variable_of l → v < length stamps → n < t.level → lower' ≡ lower ++ l ∷ [] → AreMarked t stamps' stamp lower'
marked_lower t stamps stamps' lower lower' stamp v l n trail marks entry none level e is lt low es =
    let M : List ℕ → Type 0 = λ xs. AreMarked t stamps' stamp xs in
    let at = level entry.0 no_entry entry.1.known (ap variable_of entry.1.is ∙ variable_of-negation l ∙ sym is) in
    let mine : IsLower t l = (entry.0, entry.1, omega (arith, at, low)) in
    subst M (sym es) (record {
      lows = All-append (IsLower t) lower (l ∷ []) marks.lows (one (IsLower t) mine);
      apart = apart_more;
      have = All-append (HasMark stamps' stamp) lower (l ∷ []) (all_map (HasMark stamps stamp) (HasMark stamps' stamp) lower (λ x h. mark_stays stamps stamps' stamp v x e lt h) marks.have) (one (HasMark stamps' stamp) (mark_set stamps stamps' stamp v l e is lt));
      marked = λ i known mark. elim (cases_eq v (variable_of (entry_at t i).literal)) [
        | inl same ↦
            (let k = same_entry t i entry.0 trail known entry.1.known (sym same ∙ is ∙ sym (variable_of-negation l) ∙ sym (ap variable_of entry.1.is)) in
            let here : negation (entry_at t i).literal ≡ l = ap negation (ap (λ k. (entry_at t k).literal) k ∙ entry.1.is) ∙ negation_twice l in
            inr (subst (Contains (lower ++ l ∷ [])) (sym here) (Contains-append_right lower (l ∷ []) l (Contains-first l []))))
        | inr other ↦ (elim (marks.marked i known (mark_was stamps stamps' stamp v (entry_at t i).literal e other mark)) [
          | inl current ↦ inl current
          | inr there ↦ inr (Contains-append_left lower (l ∷ []) (negation (entry_at t i).literal) there)
        ])
      ];
    })
  where
    one : (P : ℕ → Type 0) → P l → All P (l ∷ [])
    one P h k d lt = subst P (first k d lt) h where
      first : (k d : ℕ) → k < 1 → l ≡ get_or (l ∷ []) k d
      first zero d lt = refl
      first (suc k) d lt = absurd (omega (arith, lt))

    old_at : (xs : List ℕ) (k : ℕ) → k < length xs → get_or (xs ++ l ∷ []) k 0 ≡ get_or xs k 0
    old_at [] k lt = absurd (omega (arith, lt))
    old_at (x ∷ xs) zero lt = refl
    old_at (x ∷ xs) (suc k) lt = old_at xs k (omega (arith, lt))

    new_at : (xs : List ℕ) (k : ℕ) → k ≡ length xs → get_or (xs ++ l ∷ []) k 0 ≡ l
    new_at [] zero is = refl
    new_at [] (suc k) is = absurd (omega (arith, is))
    new_at (x ∷ xs) zero is = absurd (omega (arith, is))
    new_at (x ∷ xs) (suc k) is = new_at xs k (omega (arith, is))

    apart_more : HasDistinctVariables (lower ++ l ∷ [])
    apart_more i j before lj same =
        let n = length-append lower (l ∷ []) in
        elim (cases_lt j (length lower)) [
          | inl inside ↦ marks.apart i j before inside (sym (ap variable_of (old_at lower i (omega (arith, before, inside)))) ∙ same ∙ ap variable_of (old_at lower j inside))
          | inr last ↦
              (let i_in : i < length lower = omega (arith, before, lj, n) in
              let v_is : variable_of (get_or lower i 0) ≡ variable_of l = sym (ap variable_of (old_at lower i i_in)) ∙ same ∙ ap variable_of (new_at lower j (omega (arith, lj, n, last))) in
              none (ap (λ k. get_or stamps k 0) (sym v_is) ∙ marks.have i 0 i_in))
        ]

-- below an entry of a lower level none is open
pub none_lower : (t : Assignment ℕ) (stamps : List ℕ) (stamp p below : ℕ) → IsTrail place t → p < length t.entries → (entry_at t p).level < t.level
    → ((i : ℕ) → p + 1 ≤ i → i < below → ¬ IsOpen t stamps stamp i) → (i : ℕ) → i < below → ¬ IsOpen t stamps stamp i
none_lower t stamps stamp p below trail lt low none i in' open' = elim (cases_lt p i) [
  | inl after ↦ none i (omega (arith, after)) in' open'
  | inr before ↦ (elim (cases_eq i p) [
    | inl same ↦ (let k = ap (λ k. (entry_at t k).level) same in let c = open'.current in omega (arith, k, c, low))
    | inr other ↦ (let s = trail.leveled.sorted i p no_entry (omega (arith, before, other)) lt in let c = open'.current in omega (arith, s, c, low))
  ])
]

-- an entry without a mark isn't open
pub none_more : (t : Assignment ℕ) (stamps : List ℕ) (stamp p q below : ℕ) → q ≡ p + 1 → ¬ HasMark stamps stamp (entry_at t p).literal
    → ((i : ℕ) → q ≤ i → i < below → ¬ IsOpen t stamps stamp i) → (i : ℕ) → p ≤ i → i < below → ¬ IsOpen t stamps stamp i
none_more t stamps stamp p q below e bare none i le lt open' = elim (cases_eq i p) [
  | inl same ↦ bare (subst (λ k. HasMark stamps stamp (entry_at t k).literal) same open'.mark)
  | inr other ↦ none i (omega (arith, le, other, e)) lt open'
]

pub still_out : (t : Assignment ℕ) (stamps stamps' lower lower' : List ℕ) (stamp l : ℕ) → Grows stamps stamp lower stamps' lower' → IsFalseOrMarked t stamps stamp l → IsFalseOrMarked t stamps' stamp l
still_out t stamps stamps' lower lower' stamp l grows (inl mark) = inl (grows.marks l mark)
still_out t stamps stamps' lower lower' stamp l grows (inr entry) = inr entry
