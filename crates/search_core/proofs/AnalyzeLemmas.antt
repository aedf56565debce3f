-- The steps of an analysis.
use Rattle.std.proofs.Common.{◌≡◌, ℕ, zero, suc, ◌+◌, ◌*◌, ◌<◌, ◌≤◌, true, false, List, [], ◌∷◌, ◌++◌, length, get_or, take, Option, None, Some, refl, sym, ◌∙◌, ap, subst, arith, ◌⊎◌, inl, inr}
use Rattle.std.specs.Prelude.{IfSome, IsSome, is_some}
use Rattle.std.specs.List.{All, Contains}
use Rattle.std.proofs.lemmas.Bool.{cases_lt, false≢true}
use Rattle.std.proofs.lemmas.List.{length-append}
use Rattle.std.proofs.lemmas.List.Elements.{All-append, All-contains}
use Rattle.literals_core.specs.Literal.{negation}
use Rattle.literals_core.specs.Truth.{is_false}
use Rattle.watch_core.specs.Trail.{Assignment, places}
use Rattle.watch_core.specs.Rest.{IsClauseFalse}
use Rattle.watch_core.specs.Propagates.{IsReason}
use Rattle.search_core.specs.State.{place, entry_at, no_entry, IsEntry, AreReasoned, IsImplied}
use Rattle.search_core.specs.Analysis.{HasMark, AreMarked, IsOpen, IsLastOpen, IsFalseOrMarked, HasCurrent, Grows, ChainsFrom, IsWalked, HasOpenBelow, AreInside, IsPoint, Show, below_of}
use Rattle.search_core.proofs.ListLemmas.{all_of, all_map}
use Rattle.search_core.proofs.EntryLemmas.{false_entry, false_now, mark_of_negated}
use Rattle.search_core.proofs.FreshLemmas.{all_pass}
use Rattle.search_core.proofs.HintLemmas.{chain_more, chain_ends, chain_narrow, chain_point, chain_none}

-- the literals of a false clause have entries
pub all_out : (t : Assignment ℕ) (clause : List ℕ) (l : ℕ) → IsClauseFalse (places place t.entries) clause → Contains clause l → (i : ℕ) × IsEntry t (negation l) i
all_out t clause l out has = false_now t l (all_pass (is_false (places place t.entries)) clause l out has)

pub begin_out : (t : Assignment ℕ) (stamps : List ℕ) (stamp : ℕ) (clause : List ℕ) → IsClauseFalse (places place t.entries) clause → All (IsFalseOrMarked t stamps stamp) clause
begin_out t stamps stamp clause out = all_of (IsFalseOrMarked t stamps stamp) clause (λ l has. inr (all_out t clause l out has))

pub low_or_equal : (stamps : List ℕ) (stamp : ℕ) → All (λ s. s < stamp) stamps → All (λ s. s ≤ stamp) stamps
low_or_equal stamps stamp low k d lt = let h = low k d lt in omega (arith, h)

-- the next open place after a step
narrowed : (t : Assignment ℕ) (clauses : List (List ℕ)) (stamps : List ℕ) (stamp below : ℕ) (lower hints : List ℕ) (last : Option ℕ)
    → IsLastOpen t stamps stamp below last → ChainsFrom t clauses stamps stamp below lower hints → ChainsFrom t clauses stamps stamp (below_of last) lower hints
narrowed t clauses stamps stamp below lower hints None none chain = chain_narrow t clauses stamps stamp below 0 lower hints chain (λ i le lt. none i lt)
narrowed t clauses stamps stamp below lower hints (Some p) found chain = chain_narrow t clauses stamps stamp below (p + 1) lower hints chain (λ i le lt. found.2 i (omega (arith, le)) lt)

is_open : (t : Assignment ℕ) (stamps : List ℕ) (stamp below : ℕ) (last : Option ℕ) → IsLastOpen t stamps stamp below last → IfSome last (IsOpen t stamps stamp)
is_open t stamps stamp below None found = tt
is_open t stamps stamp below (Some p) found = found.1

some_open : (t : Assignment ℕ) (stamps : List ℕ) (stamp below : ℕ) (last : Option ℕ) → IsLastOpen t stamps stamp below last → HasOpenBelow t stamps stamp below → IsSome last
some_open t stamps stamp below None none some = absurd (none some.0 some.1 some.2)
some_open t stamps stamp below (Some p) found some = refl

pub last_below : (t : Assignment ℕ) (stamps : List ℕ) (stamp below : ℕ) (last : Option ℕ) → IsLastOpen t stamps stamp below last → below_of last ≤ below
last_below t stamps stamp below None found = omega arith
last_below t stamps stamp below (Some p) found = let lt = found.0 in omega (arith, lt)

pub more_ids : (clauses : List (List ℕ)) (hints hints' : List ℕ) (id : ℕ) → id < length clauses → hints' ≡ hints ++ (id + 1) ∷ [] → All (λ h. (1 ≤ h) × (h ≤ length clauses)) hints → All (λ h. (1 ≤ h) × (h ≤ length clauses)) hints'
more_ids clauses hints hints' id lt e ids =
    let P : ℕ → Type 0 = λ h. (1 ≤ h) × (h ≤ length clauses) in
    subst (All P) (sym e) (All-append P hints ((id + 1) ∷ []) ids (λ k d inside. one k d inside)) where
      one : (k d : ℕ) → k < 1 → (1 ≤ get_or ((id + 1) ∷ []) k d) × (get_or ((id + 1) ∷ []) k d ≤ length clauses)
      one zero d inside = (omega arith, omega (arith, lt))
      one (suc k) d inside = absurd (omega (arith, inside))

-- where the analysis begins
pub walked_first : (t : Assignment ℕ) (clauses : List (List ℕ)) (stamps lower hints hints' : List ℕ) (stamp id below : ℕ) (last : Option ℕ)
    → id < length clauses → IsClauseFalse (places place t.entries) (get_or clauses id []) → (0 < t.level → HasCurrent t (get_or clauses id []))
    → AreMarked t stamps stamp lower → All (HasMark stamps stamp) (get_or clauses id []) → hints ≡ [] → hints' ≡ hints ++ (id + 1) ∷ []
    → below ≡ length t.entries → IsLastOpen t stamps stamp below last → IsWalked t clauses stamps stamp lower hints' last
walked_first t clauses stamps lower hints hints' stamp id below last lt out current marks all empty e small found =
    let le : length t.entries ≤ below = omega (arith, small) in
    let clause : List ℕ = get_or clauses id [] in
    let mark : (l : ℕ) → Contains clause l → HasMark stamps stamp l = (λ l has. All-contains (HasMark stamps stamp) clause l all has) in
    let one : hints' ≡ (id + 1) ∷ [] = e ∙ ap (λ (hs : List ℕ). hs ++ (id + 1) ∷ []) empty in
    record {
      marks = marks;
      chain = narrowed t clauses stamps stamp below lower hints' last found (chain_ends t clauses stamps stamp id below lower hints' lt marks mark (λ l has. all_out t clause l out has) le one);
      at = is_open t stamps stamp below last found;
      some = λ above. some_open t stamps stamp below last found (here above mark);
      ids = more_ids clauses [] hints' id lt one (λ k d inside. absurd (omega (arith, inside)));
      few = (let n = ap length one in let b = last_below t stamps stamp below last found in omega (arith, n, b, small));
    }
  where
    here : 0 < t.level → ((l : ℕ) → Contains (get_or clauses id []) l → HasMark stamps stamp l) → HasOpenBelow t stamps stamp below
    here above mark =
        let c = current above in
        (c.0, omega (arith, c.1, small), record { known = c.1; current = c.2; mark = mark_of_negated stamps stamp (entry_at t c.0).literal (mark (negation (entry_at t c.0).literal) c.3) })

-- the last open entry has a reason, where more are open below it or the level is 0
pub reason_there : (t : Assignment ℕ) (clauses : List (List ℕ)) (stamps : List ℕ) (stamp p : ℕ) → AreReasoned t clauses → IsOpen t stamps stamp p → (0 < t.level → HasOpenBelow t stamps stamp p) → IsImplied t clauses p
reason_there t clauses stamps stamp p reasoned found more = from (entry_at t p).reason refl where
  from : (o : Option ℕ) → (entry_at t p).reason ≡ o → IsImplied t clauses p
  from (Some id) is = (id, is, reasoned.reasons p id no_entry found.known is)
  from None is = elim (cases_lt 0 (entry_at t p).level) [
    | inr start ↦ absurd (reasoned.start p no_entry found.known (omega (arith, start)) is)
    | inl above ↦
        (let c = found.current in
        let q = more (omega (arith, c, above)) in
        let low = reasoned.decisions.no_others p no_entry found.known is above q.0 no_entry q.1 in
        let here = q.2.current in
        absurd (omega (arith, low, here, c)))
  ]

-- the literals of a reason are false, or the marked literal itself
pub reason_out : (t : Assignment ℕ) (clauses : List (List ℕ)) (stamps : List ℕ) (stamp p id : ℕ) → IsReason place t clauses p id → IsOpen t stamps stamp p → All (IsFalseOrMarked t stamps stamp) (get_or clauses id [])
reason_out t clauses stamps stamp p id reason found = all_map (λ l. (l ≡ (entry_at t p).literal) ⊎ (is_false (places place (take p t.entries)) l ≡ true)) (IsFalseOrMarked t stamps stamp) (get_or clauses id []) each (reason.false_before no_entry) where
  each : (l : ℕ) → (l ≡ (entry_at t p).literal) ⊎ (is_false (places place (take p t.entries)) l ≡ true) → IsFalseOrMarked t stamps stamp l
  each l (inl same) = inl (subst (HasMark stamps stamp) (sym same) found.mark)
  each l (inr out) = let f = false_entry t p l out in inr (f.0, f.1)

-- after a step
pub walked_more : (t : Assignment ℕ) (clauses : List (List ℕ)) (stamps stamps' lower lower' hints hints' : List ℕ) (stamp p id : ℕ) (last : Option ℕ)
    → IsReason place t clauses p id → IsWalked t clauses stamps stamp lower hints (Some p) → (0 < t.level → HasOpenBelow t stamps stamp p)
    → AreMarked t stamps' stamp lower' → All (HasMark stamps' stamp) (get_or clauses id []) → Grows stamps stamp lower stamps' lower' → hints' ≡ hints ++ (id + 1) ∷ []
    → IsLastOpen t stamps' stamp p last → IsWalked t clauses stamps' stamp lower' hints' last
walked_more t clauses stamps stamps' lower lower' hints hints' stamp p id last reason walked more marks all grows e found =
    record {
      marks = marks;
      chain = narrowed t clauses stamps' stamp p lower' hints' last found (chain_more t clauses stamps stamps' stamp p id lower lower' hints hints' reason walked.at.known walked.chain marks grows.marks grows.lowers
          (λ l has. All-contains (HasMark stamps' stamp) (get_or clauses id []) l all has) e);
      at = is_open t stamps' stamp p last found;
      some = λ above. (let q = more above in some_open t stamps' stamp p last found (q.0, q.1, record { known = q.2.known; current = q.2.current; mark = grows.marks (entry_at t q.0).literal q.2.mark }));
      ids = more_ids clauses hints hints' id reason.known e walked.ids;
      few = (let n = ap length e ∙ length-append hints ((id + 1) ∷ []) in let b = last_below t stamps' stamp p last found in let w = walked.few in omega (arith, n, b, w));
    }

-- the literals of a clause are inside
pub clause_inside : (t : Assignment ℕ) (clauses : List (List ℕ)) (id : ℕ) → AreInside t clauses → All (λ l. l < 2 * t.variables) (get_or clauses id [])
clause_inside t clauses id inside = all_of (λ l. l < 2 * t.variables) (get_or clauses id []) (λ l has. inside id l has)

-- an entry that is no decision is found among the open ones
pub open_found : (t : Assignment ℕ) (stamps : List ℕ) (stamp below : ℕ) (last : Option ℕ) → IsLastOpen t stamps stamp below last → is_some last ≡ true → HasOpenBelow t stamps stamp below
open_found t stamps stamp below None found some = absurd (false≢true some)
open_found t stamps stamp below (Some p) found some = (p, found.0, found.1)

pub none_open : (t : Assignment ℕ) (stamps : List ℕ) (stamp below : ℕ) (last : Option ℕ) → IsLastOpen t stamps stamp below last → is_some last ≡ false → (i : ℕ) → i < below → ¬ IsOpen t stamps stamp i
none_open t stamps stamp below None found some = found
none_open t stamps stamp below (Some p) found some = absurd (false≢true (sym some))

-- the reason that was read is the entry's
pub reason_is : (t : Assignment ℕ) (clauses : List (List ℕ)) (p r : ℕ) (read : Option ℕ) → IsImplied t clauses p → read ≡ (entry_at t p).reason → read ≡ Some r → IsReason place t clauses p r
reason_is t clauses p r read implied is some =
    let same : Some implied.0 ≡ Some r = sym implied.1 ∙ sym is ∙ some in
    let id : implied.0 ≡ r = cc in
    subst (λ k. IsReason place t clauses p k) id implied.2

pub point_made : (t : Assignment ℕ) (clauses : List (List ℕ)) (stamps : List ℕ) (stamp p point : ℕ) (lower hints : List ℕ) → 0 < t.level → IsWalked t clauses stamps stamp lower hints (Some p) → (entry_at t p).literal ≡ point → IsPoint t lower point
point_made t clauses stamps stamp p point lower hints above walked is = record {
  above = above;
  entry = (p, record { known = walked.at.known; is = is }, walked.at.current);
  lows = walked.marks.lows;
  apart = walked.marks.apart;
}

pub point_shown : (t : Assignment ℕ) (clauses : List (List ℕ)) (stamps : List ℕ) (stamp p point : ℕ) (lower hints : List ℕ) (next : Option ℕ) → IsWalked t clauses stamps stamp lower hints (Some p) → IsLastOpen t stamps stamp p next → is_some next ≡ false → (entry_at t p).literal ≡ point → Show clauses (Some point) lower hints
point_shown t clauses stamps stamp p point lower hints next walked found none is = chain_point t clauses stamps stamp p lower hints point walked.chain (none_open t stamps stamp p next found none) (sym is)

-- where none is open the level is 0
pub ground_made : (t : Assignment ℕ) (clauses : List (List ℕ)) (stamps : List ℕ) (stamp : ℕ) (lower hints : List ℕ) → IsWalked t clauses stamps stamp lower hints None → t.level ≡ 0
ground_made t clauses stamps stamp lower hints walked = elim (cases_lt 0 t.level) [
  | inl above ↦ absurd (false≢true (walked.some above))
  | inr ground' ↦ omega (arith, ground')
]

pub ground_shown : (t : Assignment ℕ) (clauses : List (List ℕ)) (stamps : List ℕ) (stamp : ℕ) (lower hints : List ℕ) → IsWalked t clauses stamps stamp lower hints None → Show clauses None lower hints
ground_shown t clauses stamps stamp lower hints walked = chain_none t clauses stamps stamp lower hints walked.chain (ground_made t clauses stamps stamp lower hints walked) walked.marks.lows
