-- Hints, as an analysis finds them from the false clause backwards.
use Rattle.std.proofs.Common.{reverse, ◌≡◌, ℕ, ◌+◌, ◌<◌, ◌≤◌, true, List, [], ◌∷◌, ◌++◌, length, get_or, take, Some, None, sym, ◌∙◌, ap, subst, arith, ◌⊎◌, inl, inr}
use Rattle.std.specs.List.{All, Contains}
use Rattle.std.proofs.lemmas.Bool.{cases_Bool, false≢true, cases_eq, cases_lt}
use Rattle.std.proofs.lemmas.List.{reverse-append}
use Rattle.std.proofs.lemmas.List.Elements.{All-contains}
use Rattle.literals_core.specs.Literal.{negation}
use Rattle.literals_core.specs.Truth.{IsFalseUnder, is_false}
use Rattle.literals_core.proofs.Members.{Contains-first, Contains-later}
use Rattle.literals_core.proofs.Negation.{negation_twice}
use Rattle.literals_core.proofs.Truth.{tested_true, true_tested}
use Rattle.watch_core.specs.Trail.{Assignment, places}
use Rattle.watch_core.specs.Propagates.{IsReason}
use Rattle.chain_core.specs.Chain.{Chains, ends, adds}
use Rattle.search_core.specs.State.{place, entry_at, no_entry, IsEntry}
use Rattle.search_core.specs.Analysis.{IsLower, HasMark, AreMarked, IsOpen, ChainsFrom, Show}
use Rattle.search_core.proofs.ListLemmas.{all_of, clause_there, known_member, member_known}
use Rattle.search_core.proofs.EntryLemmas.{false_entry, mark_negated}

-- a marked literal that is false on the trail is false under a set of open entries and negated lower literals
pub marked_false : (t : Assignment ℕ) (stamps : List ℕ) (stamp below : ℕ) (lower set : List ℕ) (l i : ℕ) → AreMarked t stamps stamp lower → All (IsFalseUnder set) lower
    → ((i : ℕ) → i < below → IsOpen t stamps stamp i → Contains set (entry_at t i).literal)
    → IsEntry t (negation l) i → i < below → HasMark stamps stamp (negation l) → IsFalseUnder set l
marked_false t stamps stamp below lower set l i marks lows opens entry lt mark =
    let M : ℕ → Type 0 = HasMark stamps stamp in
    let have : HasMark stamps stamp (entry_at t i).literal = subst M (sym entry.is) mark in
    elim (marks.marked i entry.known have) [
      | inl current ↦ subst (Contains set) entry.is (opens i lt (record { known = entry.known; current = current; mark = have }))
      | inr low ↦
          (let same : negation (entry_at t i).literal ≡ l = ap negation entry.is ∙ negation_twice l in
          All-contains (IsFalseUnder set) lower l lows (subst (Contains lower) same low))
    ]

-- one more reason in front
pub chain_more : (t : Assignment ℕ) (clauses : List (List ℕ)) (stamps stamps' : List ℕ) (stamp p id : ℕ) (lower lower' hints hints' : List ℕ)
    → IsReason place t clauses p id → p < length t.entries
    → ChainsFrom t clauses stamps stamp (p + 1) lower hints
    → AreMarked t stamps' stamp lower'
    → ((l : ℕ) → HasMark stamps stamp l → HasMark stamps' stamp l)
    → ((l : ℕ) → Contains lower l → Contains lower' l)
    → ((l : ℕ) → Contains (get_or clauses id []) l → HasMark stamps' stamp l)
    → hints' ≡ hints ++ (id + 1) ∷ []
    → ChainsFrom t clauses stamps' stamp p lower' hints'
chain_more t clauses stamps stamps' stamp p id lower lower' hints hints' reason lt chain marks grown more all e known set order lows opens =
    let l0 : ℕ = (entry_at t p).literal in
    let clause : List ℕ = get_or known id [] in
    let there : id < length known = omega (arith, reason.known, order.count) in
    let each : (x : ℕ) → Contains clause x → (x ≡ l0) ⊎ IsFalseUnder set x = (λ x has.
    let at = known_member known clauses id x order has in
    elim (All-contains (λ l. (l ≡ l0) ⊎ (is_false (places place (take p t.entries)) l ≡ true)) (get_or clauses id []) x (reason.false_before no_entry) at) [
      | inl same ↦ inl same
      | inr out ↦
          (let found = false_entry t p x out in
          inr (marked_false t stamps' stamp p lower' set x found.0 marks lows opens found.1 found.2 (mark_negated stamps' stamp x (all x at))))
    ]) in
    let H : List ℕ → Type 0 = λ hs. Chains known set hs in
    let shown : reverse hints' ≡ (id + 1) ∷ reverse hints = ap reverse e ∙ reverse-append hints ((id + 1) ∷ []) in
    let lows' : All (IsFalseUnder (l0 ∷ set)) lower = all_of (IsFalseUnder (l0 ∷ set)) lower (λ x has. Contains-later l0 (negation x) set (All-contains (IsFalseUnder set) lower' x lows (more x has))) in
    let opens' : (i : ℕ) → i < p + 1 → IsOpen t stamps stamp i → Contains (l0 ∷ set) (entry_at t i).literal = (λ i below found.
    elim (cases_eq i p) [
      | inl same ↦ subst (λ k. Contains (l0 ∷ set) (entry_at t k).literal) (sym same) (Contains-first l0 set)
      | inr other ↦ Contains-later l0 (entry_at t i).literal set (opens i (omega (arith, below, other)) (record { known = found.known; current = found.current; mark = grown (entry_at t i).literal found.mark }))
    ]) in
    subst H (sym shown) (elim (cases_Bool (is_false set l0)) [
      | inl out ↦ ends (clause_there known id there) (all_of (IsFalseUnder set) clause (λ x has. elim (each x has) [
        | inl same ↦ subst (IsFalseUnder set) (sym same) (tested_true set (negation l0) out)
        | inr gone ↦ gone
      ]))
      | inr stays ↦ adds {l = l0} (clause_there known id there)
          (record {
            among = member_known known clauses id l0 order (reason.has no_entry);
            not_false = λ out. false≢true (sym stays ∙ true_tested set (negation l0) out);
            others = all_of (λ x. (x ≡ l0) ⊎ IsFalseUnder set x) clause each;
          })
          (chain known (l0 ∷ set) order lows' opens')
    ])

-- the false clause itself
pub chain_ends : (t : Assignment ℕ) (clauses : List (List ℕ)) (stamps : List ℕ) (stamp id below : ℕ) (lower hints : List ℕ)
    → id < length clauses → AreMarked t stamps stamp lower
    → ((l : ℕ) → Contains (get_or clauses id []) l → HasMark stamps stamp l)
    → ((l : ℕ) → Contains (get_or clauses id []) l → (i : ℕ) × IsEntry t (negation l) i)
    → length t.entries ≤ below
    → hints ≡ (id + 1) ∷ []
    → ChainsFrom t clauses stamps stamp below lower hints
chain_ends t clauses stamps stamp id below lower hints lt marks all out le e known set order lows opens =
    let there : id < length known = omega (arith, lt, order.count) in
    let H : List ℕ → Type 0 = λ hs. Chains known set hs in
    let shown : reverse hints ≡ (id + 1) ∷ [] = ap reverse e in
    subst H (sym shown) (ends (clause_there known id there) (all_of (IsFalseUnder set) (get_or known id []) (λ x has.
    let at = known_member known clauses id x order has in
    let found = out x at in
    marked_false t stamps stamp below lower set x found.0 marks lows opens found.1 (omega (arith, found.1.known, le)) (mark_negated stamps stamp x (all x at)))))

-- a lower bound that passes no open entry
pub chain_narrow : (t : Assignment ℕ) (clauses : List (List ℕ)) (stamps : List ℕ) (stamp below below' : ℕ) (lower hints : List ℕ)
    → ChainsFrom t clauses stamps stamp below lower hints → ((i : ℕ) → below' ≤ i → i < below → ¬ IsOpen t stamps stamp i) → ChainsFrom t clauses stamps stamp below' lower hints
chain_narrow t clauses stamps stamp below below' lower hints chain none known set order lows opens =
    chain known set order lows (λ i lt found. elim (cases_lt i below') [ inl inside ↦ opens i inside found | inr out ↦ absurd (none i out lt found) ])

-- where one open entry is left, the hints show the lemma
pub chain_point : (t : Assignment ℕ) (clauses : List (List ℕ)) (stamps : List ℕ) (stamp p : ℕ) (lower hints : List ℕ) (point : ℕ)
    → ChainsFrom t clauses stamps stamp (p + 1) lower hints → ((i : ℕ) → i < p → ¬ IsOpen t stamps stamp i) → point ≡ (entry_at t p).literal → Show clauses (Some point) lower hints
chain_point t clauses stamps stamp p lower hints point chain none is known set order lows has =
    chain known set order lows (λ i lt found. elim (cases_eq i p) [
      | inl same ↦ subst (Contains set) (is ∙ ap (λ k. (entry_at t k).literal) (sym same)) has
      | inr other ↦ absurd (none i (omega (arith, lt, other)) found)
    ])

-- where none is left at level 0, they show the empty lemma
pub chain_none : (t : Assignment ℕ) (clauses : List (List ℕ)) (stamps : List ℕ) (stamp : ℕ) (lower hints : List ℕ)
    → ChainsFrom t clauses stamps stamp 0 lower hints → t.level ≡ 0 → All (IsLower t) lower → Show clauses None lower hints
chain_none t clauses stamps stamp lower hints chain zero_level lows known order =
    chain known [] order (λ k d lt. (let low = lows k d lt in absurd (omega (arith, low.2, zero_level)))) (λ i lt found. absurd (omega (arith, lt)))
