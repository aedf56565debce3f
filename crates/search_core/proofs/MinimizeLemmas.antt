-- A lemma goes on to be shown where a literal that follows from its others is left out.
use Rattle.std.proofs.Common.{◌≡◌, ◌≢◌, ℕ, suc, ◌+◌, ◌<◌, ◌≤◌, true, Option, set, take, List, [], ◌∷◌, ◌++◌, length, get_or, reverse, Some, sym, ◌∙◌, ap, subst, arith, ◌⊎◌, inl, inr}
use Rattle.std.specs.List.{All, Contains, swap_remove}
use Rattle.std.specs.List.Sorted.{IsPermutation}
use Rattle.std.proofs.lemmas.Bool.{cases_Bool, cases_eq, false≢true}
use Rattle.std.proofs.lemmas.List.{reverse-append, length-append, get_or_default, get_or-set_same, get_or-set_other}
use Rattle.std.proofs.lemmas.List.Elements.{All-contains}
use Rattle.std.proofs.lemmas.List.Sorted.{Contains-permutation, All-permutation, IsPermutation-swap_remove}
use Rattle.literals_core.specs.Literal.{negation, variable_of}
use Rattle.literals_core.proofs.Negation.{negation_twice, variable_of-negation}
use Rattle.literals_core.specs.Truth.{IsFalseUnder, is_false}
use Rattle.literals_core.proofs.Members.{Contains-first, Contains-later, Contains-cases}
use Rattle.literals_core.proofs.Truth.{tested_true, true_tested}
use Rattle.watch_core.specs.Trail.{Assignment, Entry, IsTrail, places}
use Rattle.watch_core.specs.Propagates.{IsReason}
use Rattle.chain_core.specs.Chain.{Chains, ends, adds}
use Rattle.literals_core.specs.DistinctVariables.{HasDistinctVariables}
use Rattle.search_core.specs.Analysis.{IsLower, HasMark, AreMarked, IsPoint, Show, IsExplained, IsFalseOrOpposite, Fits, Gives}
use Rattle.search_core.specs.State.{place, entry_at, no_entry, IsEntry, AreReasoned}
use Rattle.search_core.proofs.ListLemmas.{all_of, all_map, clause_there, known_member, member_known}
use Rattle.search_core.proofs.EntryLemmas.{false_entry, mark_negated, variable_inside}
use Rattle.search_core.proofs.LearnLemmas.{apart_permuted}
use Rattle.search_core.proofs.AnalyzeLemmas.{more_ids}

-- the reason in front
pub show_shorter : (clauses : List (List ℕ)) (point l id : ℕ) (lower lower' hints hints' : List ℕ)
    → Gives clauses id l lower → ((x : ℕ) → Contains lower x → (l ≡ x) ⊎ Contains lower' x) → hints' ≡ hints ++ (id + 1) ∷ []
    → Show clauses (Some point) lower hints → Show clauses (Some point) lower' hints'
show_shorter clauses point l id lower lower' hints hints' gives stay e chain known set order lows has =
    let own : ℕ = negation l in
    let clause : List ℕ = get_or known id [] in
    let given = gives.known in
    let there : id < length known = omega (arith, given, order.count) in
    let each : (x : ℕ) → Contains clause x → (x ≡ own) ⊎ IsFalseUnder set x = (λ x among.
    elim (All-contains (Fits l lower) (get_or clauses id []) x gives.others (known_member known clauses id x order among)) [
      | inl same ↦ inl same
      | inr out ↦ elim (stay x out.0) [
        | inl is ↦ absurd (out.1 (sym is))
        | inr kept ↦ inr (All-contains (IsFalseUnder set) lower' x lows kept)
      ]
    ]) in
    let H : List ℕ → Type 0 = λ hs. Chains known set hs in
    let shown : reverse hints' ≡ (id + 1) ∷ reverse hints = ap reverse e ∙ reverse-append hints ((id + 1) ∷ []) in
    let lows' : All (IsFalseUnder (own ∷ set)) lower = all_of (IsFalseUnder (own ∷ set)) lower (λ x among. elim (stay x among) [
      | inl is ↦ subst (IsFalseUnder (own ∷ set)) is (Contains-first own set)
      | inr kept ↦ Contains-later own (negation x) set (All-contains (IsFalseUnder set) lower' x lows kept)
    ]) in
    subst H (sym shown) (elim (cases_Bool (is_false set own)) [
      | inl out ↦ ends (clause_there known id there) (all_of (IsFalseUnder set) clause (λ x among. elim (each x among) [
        | inl same ↦ subst (IsFalseUnder set) (sym same) (tested_true set (negation own) out)
        | inr gone ↦ gone
      ]))
      | inr stays ↦ adds {l = own} (clause_there known id there)
          (record {
            among = member_known known clauses id own order gives.has;
            not_false = λ out. false≢true (sym stays ∙ true_tested set (negation own) out);
            others = all_of (λ x. (x ≡ own) ⊎ IsFalseUnder set x) clause each;
          })
          (chain known (own ∷ set) order lows' (Contains-later own point set has))
    ])

-- a literal goes out of its place
pub taken_out : (lower lower' : List ℕ) (k r d : ℕ) → k < length lower → r ≡ get_or lower k r → d ≡ get_or lower k d → lower' ≡ swap_remove lower k d → IsPermutation lower (r ∷ lower')
taken_out lower lower' k r d lt is is' out =
    let same : d ≡ r = is' ∙ get_or_default lower k d r lt ∙ sym is in
    let first : IsPermutation lower (d ∷ lower') = subst (λ (xs : List ℕ). IsPermutation lower (d ∷ xs)) (sym out) (IsPermutation-swap_remove lower k d lt is') in
    subst (λ x. IsPermutation lower (x ∷ lower')) same first

-- the whole analysis
pub explained_shorter : (t : Assignment ℕ) (clauses : List (List ℕ)) (point id r : ℕ) (lower lower' hints hints' : List ℕ)
    → IsExplained t clauses (Some point) lower hints → IsPermutation lower (r ∷ lower') → Gives clauses id r lower → hints' ≡ hints ++ (id + 1) ∷ [] → length hints ≤ length t.entries → IsExplained t clauses (Some point) lower' hints'
explained_shorter t clauses point id r lower lower' hints hints' found order gives e few =
    let made : IsPoint t lower point = found.made in
    let lows = All-permutation (IsLower t) lower (r ∷ lower') order made.lows in
    let apart : HasDistinctVariables (r ∷ lower') = apart_permuted lower (r ∷ lower') order made.apart in
    record {
      made = record {
        above = made.above;
        entry = made.entry;
        lows = λ i x inside. lows (suc i) x (omega (arith, inside));
        apart = λ i j before inside. apart (suc i) (suc j) (omega (arith, before)) (omega (arith, inside));
      };
      shown = show_shorter clauses point r id lower lower' hints hints' gives (λ x among. Contains-cases r x lower' (Contains-permutation lower (r ∷ lower') x order among)) e found.shown;
      ids = more_ids clauses hints hints' id gives.known e found.ids;
      few = (let n = ap length e ∙ length-append hints ((id + 1) ∷ []) in omega (arith, n, few));
    }

-- the mark of the literal that goes is taken away
pub marked_less : (t : Assignment ℕ) (stamps stamps' lower lower' : List ℕ) (stamp v l : ℕ) → AreMarked t stamps stamp lower → IsPermutation lower (l ∷ lower') → 1 ≤ stamp → stamps' ≡ set stamps v 0 → v ≡ variable_of l → v < length stamps → AreMarked t stamps' stamp lower'
marked_less t stamps stamps' lower lower' stamp v l marks order some e is lt =
    let lows = All-permutation (IsLower t) lower (l ∷ lower') order marks.lows in
    let have = All-permutation (HasMark stamps stamp) lower (l ∷ lower') order marks.have in
    record {
      lows = λ k d inside. lows (suc k) d (omega (arith, inside));
      apart = λ i j before inside. apart (suc i) (suc j) (omega (arith, before)) (omega (arith, inside));
      have = λ k d inside. others (get_or lower' k d) (λ same. apart 0 (suc k) (omega arith) (omega (arith, inside)) (sym is ∙ same ∙ ap variable_of (get_or_default lower' k d 0 inside))) (have (suc k) d (omega (arith, inside)));
      marked = λ i known mark. elim (cases_eq v (variable_of (entry_at t i).literal)) [
        | inl same ↦
            (let zero' : 0 ≡ stamp = sym (ap (λ (s : List ℕ). get_or s (variable_of (entry_at t i).literal) 0) e ∙ ap (λ k. get_or (set stamps v 0) k 0) (sym same) ∙ get_or-set_same stamps v 0 0 lt) ∙ mark in
            absurd (omega (arith, zero', some)))
        | inr other ↦ (elim (marks.marked i known (was (entry_at t i).literal other mark)) [
          | inl current ↦ inl current
          | inr has ↦ (elim (Contains-cases l (negation (entry_at t i).literal) lower' (Contains-permutation lower (l ∷ lower') (negation (entry_at t i).literal) order has)) [
            | inl same ↦ absurd (other (is ∙ ap variable_of same ∙ variable_of-negation (entry_at t i).literal))
            | inr later ↦ inr later
          ])
        ])
      ];
    }
  where
    apart : HasDistinctVariables (l ∷ lower')
    apart = apart_permuted lower (l ∷ lower') order marks.apart

    others : (x : ℕ) → v ≢ variable_of x → HasMark stamps stamp x → HasMark stamps' stamp x
    others x other h = ap (λ (s : List ℕ). get_or s (variable_of x) 0) e ∙ get_or-set_other stamps v (variable_of x) 0 0 (λ y. other (sym y)) ∙ h

    was : (x : ℕ) → v ≢ variable_of x → HasMark stamps' stamp x → HasMark stamps stamp x
    was x other h = sym (ap (λ (s : List ℕ). get_or s (variable_of x) 0) e ∙ get_or-set_other stamps v (variable_of x) 0 0 (λ y. other (sym y))) ∙ h

-- a marked literal that became false on a lower level is one of the lower ones
pub marked_in : (t : Assignment ℕ) (stamps lower : List ℕ) (stamp x n v : ℕ) → AreMarked t stamps stamp lower → HasMark stamps stamp x → ((i : ℕ) × IsEntry t (negation x) i)
    → ((i : ℕ) (d : Entry ℕ) → i < length t.entries → variable_of (get_or t.entries i d).literal ≡ v → n ≡ (get_or t.entries i d).level) → v ≡ variable_of x → n < t.level → Contains lower x
marked_in t stamps lower stamp x n v marks mark entry level is low =
    let i : ℕ = entry.0 in
    let own : HasMark stamps stamp (entry_at t i).literal = subst (HasMark stamps stamp) (sym entry.1.is) (mark_negated stamps stamp x mark) in
    let at = level i no_entry entry.1.known (ap variable_of entry.1.is ∙ variable_of-negation x ∙ sym is) in
    elim (marks.marked i entry.1.known own) [
      | inl current ↦ absurd (omega (arith, at, current, low))
      | inr has ↦ subst (Contains lower) (ap negation entry.1.is ∙ negation_twice x) has
    ]

-- it fits, if it is false
pub fits_in : (t : Assignment ℕ) (left x : ℕ) (lower : List ℕ) → IsFalseOrOpposite t left x → x ≢ negation left → x ≢ left → (((i : ℕ) × IsEntry t (negation x) i) → Contains lower x) → Fits left lower x
fits_in t left x lower (inl same) not_opposite not_left has = absurd (not_opposite same)
fits_in t left x lower (inr entry) not_opposite not_left has = inr (has entry, not_left)

-- the reason of a lower literal's negation
pub lower_reason : (t : Assignment ℕ) (clauses : List (List ℕ)) (l r : ℕ) (read : Option ℕ) → AreReasoned t clauses → (low : IsLower t l) → read ≡ (entry_at t low.0).reason → read ≡ Some r → IsReason place t clauses low.0 r
lower_reason t clauses l r read reasoned low is some = reasoned.reasons low.0 r no_entry low.1.known (sym is ∙ some)

pub reason_fits : (t : Assignment ℕ) (clauses : List (List ℕ)) (l r : ℕ) → (low : IsLower t l) → IsReason place t clauses low.0 r → All (IsFalseOrOpposite t l) (get_or clauses r [])
reason_fits t clauses l r low reason = all_map (λ x. (x ≡ (entry_at t low.0).literal) ⊎ (is_false (places place (take low.0 t.entries)) x ≡ true)) (IsFalseOrOpposite t l) (get_or clauses r []) each (reason.false_before no_entry) where
  each : (x : ℕ) → (x ≡ (entry_at t low.0).literal) ⊎ (is_false (places place (take low.0 t.entries)) x ≡ true) → IsFalseOrOpposite t l x
  each x (inl same) = inl (same ∙ low.1.is)
  each x (inr out) = (let f = false_entry t low.0 x out in inr (f.0, f.1))

pub reason_gives : (t : Assignment ℕ) (clauses : List (List ℕ)) (l r : ℕ) (lower : List ℕ) → (low : IsLower t l) → IsReason place t clauses low.0 r → All (Fits l lower) (get_or clauses r []) → Gives clauses r l lower
reason_gives t clauses l r lower low reason others = record { known = reason.known; has = subst (Contains (get_or clauses r [])) low.1.is (reason.has no_entry); others = others }

pub lower_variable : (t : Assignment ℕ) (l : ℕ) → IsTrail place t → IsLower t l → variable_of l < t.variables
lower_variable t l trail low = (let v = variable_inside t low.0 (negation l) trail low.1.known low.1.is in let n = variable_of-negation l in omega (arith, v, n))
