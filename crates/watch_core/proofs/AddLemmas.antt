-- What a new clause keeps.
use Rattle.std.proofs.Common.{◌≡◌, ◌≢◌, ℕ, zero, suc, ◌+◌, ◌-◌, ◌*◌, ◌/◌, ◌%◌, ◌<◌, ◌≤◌, ◌==◌, ◌||◌, Bool, true, false, cond, List, [], ◌∷◌, ◌++◌, length, map, get_or, set, refl, sym, ◌∙◌, ap, subst, arith, inl, inr, ◌⊎◌, eq-eqb}
use Rattle.std.specs.List.{All, Contains, IsDistinct}
use Rattle.std.proofs.lemmas.List.{length-append, length-map, length-set, map-append, get_or_append_left, get_or_at, get_or_past, get_or_default, get_or-set_same, get_or-set_other, get_or-map, set_past}
use Rattle.std.proofs.lemmas.List.Elements.{All-contains}
use Rattle.std.proofs.lemmas.Map.Steps.{length-le_from_distinct_below}
use Rattle.std.proofs.lemmas.Bool.{cases_eq, cases_lt, false≢true}
use Rattle.std.proofs.lemmas.Bool.Decides.{eqb_tells, leb_tells}
use Rattle.arena_core.specs.Chains.{chain_at, put_first, IsSeated}
use Rattle.literals_core.specs.Literal.{variable_of, negation}
use Rattle.literals_core.specs.Truth.{is_true, is_false, open_literals}
use Rattle.literals_core.proofs.Truth.{open_more, open_skip}
use Rattle.watch_core.specs.Places.{placed}
use Rattle.watch_core.specs.Trail.{Entry, Assignment, places, cut, waiting}
use Rattle.watch_core.specs.Cover.{IsWatch, Watches, HasTrue, AllBut, IsCovered}
use Rattle.watch_core.specs.Added.{CanAdd, NotAfter, both_put, standing_of, standing_open}
use Rattle.watch_core.specs.Watched.{IsHeld}
use Rattle.watch_core.specs.declared.added.Standing.TheVariants.{Free, Unit, False}
use Rattle.watch_core.proofs.AssignLemmas.{distinct_from, below_any}
use Rattle.watch_core.proofs.LevelLemmas.{kept_in, left_out}
use Rattle.watch_core.proofs.GoingLemmas.{cut_false, distinct_variables}

-- a literal that is true under a cut has an entry there
entry_in : {L : Type 0} (at : L → ℕ) (es : List (Entry L)) (k l : ℕ) (d : Entry L) → is_true (places at (cut es k)) l ≡ true → (b : ℕ) × (b < length es) × (at (get_or es b d).literal ≡ l) × ((get_or es b d).level ≤ k)
entry_in at [] k l d h = absurd (false≢true h)
entry_in {L} at (e ∷ es) k l d h = elim (leb_tells e.level k) [
  | inl low ↦ elim (eqb_tells (at e.literal) l) [
    | inl same ↦ (0, omega arith, same.1, low.1)
    | inr other ↦ up (entry_in at es k l d (sym (ap (λ (xs : List (Entry L)). is_true (places at xs) l) (kept_in e es k low.1) ∙ ap (λ b. b || is_true (places at (cut es k)) l) other.0) ∙ h))
  ]
  | inr high ↦ up (entry_in at es k l d (sym (ap (λ (xs : List (Entry L)). is_true (places at xs) l) (left_out e es k high.1)) ∙ h))
]
  where
    up : ((b : ℕ) × (b < length es) × (at (get_or es b d).literal ≡ l) × ((get_or es b d).level ≤ k)) → (b : ℕ) × (b < length (e ∷ es)) × (at (get_or (e ∷ es) b d).literal ≡ l) × ((get_or (e ∷ es) b d).level ≤ k)
    up r = (suc r.0, omega (arith, r.1), r.2, r.3)

in_entry : {L : Type 0} (at : L → ℕ) (es : List (Entry L)) (k l : ℕ) (a : ℕ) (d : Entry L) → a < length es → at (get_or es a d).literal ≡ l → (get_or es a d).level ≤ k → is_true (places at (cut es k)) l ≡ true
in_entry at [] k l a d lt is low = absurd (omega (arith, lt))
in_entry {L} at (e ∷ es) k l zero d lt is low = ap (λ (xs : List (Entry L)). is_true (places at xs) l) (kept_in e es k low) ∙ ap (λ b. b || is_true (places at (cut es k)) l) (eq-eqb (at e.literal) l is)
in_entry {L} at (e ∷ es) k l (suc a) d lt is low = elim (leb_tells e.level k) [
  | inl here ↦ ap (λ (xs : List (Entry L)). is_true (places at xs) l) (kept_in e es k here.1) ∙ or_right (at e.literal == l) (is_true (places at (cut es k)) l) (in_entry at es k l a d (omega (arith, lt)) is low)
  | inr away ↦ ap (λ (xs : List (Entry L)). is_true (places at xs) l) (left_out e es k away.1) ∙ in_entry at es k l a d (omega (arith, lt)) is low
]
  where
    or_right : (a b : Bool) → b ≡ true → (a || b) ≡ true
    or_right true b h = refl
    or_right false b h = h

pub entry_of_true : {L : Type 0} (at : L → ℕ) (es : List (Entry L)) (l : ℕ) (d : Entry L) → is_true (places at es) l ≡ true → (b : ℕ) × (b < length es) × (at (get_or es b d).literal ≡ l)
entry_of_true at [] l d h = absurd (false≢true h)
entry_of_true {L} at (e ∷ es) l d h = elim (eqb_tells (at e.literal) l) [
  | inl same ↦ (0, omega arith, same.1)
  | inr other ↦ (let r = entry_of_true at es l d (sym (ap (λ b. b || is_true (places at es) l) other.0) ∙ h) in (suc r.0, omega (arith, r.1), r.2))
]

-- what became false no later is false under each cut under which the other one is
pub not_after : {L : Type 0} (at : L → ℕ) (t : Assignment L) (k l m : ℕ) → NotAfter at t l m → is_false (places at t.entries) l ≡ true → is_false (places at (cut t.entries k)) m ≡ true → is_false (places at (cut t.entries k)) l ≡ true
not_after {L} at t k l m after fl fm = start t.entries refl where
  start : (es : List (Entry L)) → es ≡ t.entries → is_false (places at (cut t.entries k)) l ≡ true
  start [] e = absurd (false≢true (ap (λ (xs : List (Entry L)). is_false (places at xs) l) e ∙ fl))
  start (d ∷ es) e =
      (let a = entry_of_true at t.entries (negation l) d fl in
      let b = entry_in at t.entries k (negation m) d fm in
      let le = after a.0 b.0 d a.1 b.1 a.2 b.2 in
      in_entry at t.entries k (negation l) a.0 d a.1 a.2 (omega (arith, le, b.3)))

-- the covers of a new clause
pub new_covered : {L : Type 0} (at : L → ℕ) (t : Assignment L) (c : List ℕ) (k side : ℕ) → CanAdd at t c → 2 ≤ length c → side < 2 → is_false (places at (cut t.entries k)) (get_or c side 0) ≡ true → AllBut (places at (cut t.entries k)) [] c (get_or c (1 - side) 0)
new_covered {L} at t c k side can long low f = elim (cases_eq side 0) [
  | inl zero' ↦ absurd (false≢true (sym (cut_false at t.entries k (negation (get_or c 0 0)) (can.first long)) ∙ ap (λ i. is_false (places at (cut t.entries k)) (get_or c i 0)) (sym zero') ∙ f))
  | inr one' ↦ (let is : side ≡ 1 = omega (arith, low, one') in
      let f1 : is_false (places at (cut t.entries k)) (get_or c 1 0) ≡ true = ap (λ i. is_false (places at (cut t.entries k)) (get_or c i 0)) (sym is) ∙ f in
      elim (can.second long) [
        | inl open' ↦ absurd (false≢true (sym (cut_false at t.entries k (negation (get_or c 1 0)) open') ∙ f1))
        | inr rest ↦ (λ l has ne. (
          (let e : get_or c has.0 0 ≡ l = get_or_default c has.0 0 l has.1 ∙ has.2 in
              elim (cases_eq has.0 0) [
                | inl first ↦ absurd (ne (sym e ∙ ap (λ i. get_or c i 0) first ∙ ap (λ i. get_or c (1 - i) 0) (sym is)))
                | inr later ↦ (let r = rest has.0 (omega (arith, later)) has.1 in
                    ap (is_false (places at (cut t.entries k))) (sym e) ∙ not_after at t k (get_or c has.0 0) (get_or c 1 0) r.1 r.0 f1)
              ]),
          refl,
        ))
      ])
]

both_at : (chains : List (List ℕ)) (n x y p s : ℕ) (ls : List ℕ) → Contains (chain_at (both_put chains n (x ∷ y ∷ ls)) p) s → Contains (chain_at chains p) s ⊎ (((s ≡ 2 * n) × (p ≡ x)) ⊎ ((s ≡ 2 * n + 1) × (p ≡ y)))
both_at chains n x y p s ls has = elim (put_at (put_first chains x (2 * n)) y (2 * n + 1) p s has) [
  | inl second ↦ inr (inr second)
  | inr old ↦ (elim (put_at chains x (2 * n) p s old) [ inl first ↦ inr (inl first) | inr older ↦ inl older ])
]
  where
    head_of : (x s : ℕ) (xs : List ℕ) → Contains (x ∷ xs) s → (s ≡ x) ⊎ Contains xs s
    head_of x s xs (zero, lt, e) = inl (sym e)
    head_of x s xs (suc i, lt, e) = inr (i, omega (arith, lt), e)

    put_at : (chains : List (List ℕ)) (g u p s : ℕ) → Contains (chain_at (put_first chains g u) p) s → ((s ≡ u) × (p ≡ g)) ⊎ Contains (chain_at chains p) s
    put_at chains g u p s has = elim (cases_lt g (length chains)) [
      | inl lt ↦ (elim (cases_eq p g) [
        | inl same ↦ (let P : List ℕ → Type 0 = λ xs. Contains xs s in
            let there : Contains (u ∷ chain_at chains g) s = subst P (ap (chain_at (put_first chains g u)) same ∙ get_or-set_same chains g (u ∷ chain_at chains g) [] lt) has in
            elim (head_of u s (chain_at chains g) there) [ inl e ↦ inl (e, same) | inr old ↦ inr (let Q : ℕ → Type 0 = λ q. Contains (chain_at chains q) s in subst Q (sym same) old) ])
        | inr other ↦ inr (let P : List ℕ → Type 0 = λ xs. Contains xs s in subst P (get_or-set_other chains g p (u ∷ chain_at chains g) [] other) has)
      ])
      | inr past ↦ inr (let P : List (List ℕ) → Type 0 = λ cs. Contains (chain_at cs p) s in subst P (set_past chains g (u ∷ chain_at chains g) past) has)
    ]

put_new : (chains : List (List ℕ)) (g u : ℕ) → g < length chains → Contains (chain_at (put_first chains g u) g) u
put_new chains g u lt = (let P : List ℕ → Type 0 = λ xs. Contains xs u in subst P (sym (get_or-set_same chains g (u ∷ chain_at chains g) [] lt)) (zero, omega arith, refl))

put_old : (chains : List (List ℕ)) (g u p s : ℕ) → Contains (chain_at chains p) s → Contains (chain_at (put_first chains g u) p) s
put_old chains g u p s has = elim (cases_lt g (length chains)) [
  | inl lt ↦ (elim (cases_eq p g) [
    | inl same ↦ (let P : List ℕ → Type 0 = λ xs. Contains xs s in let Q : ℕ → Type 0 = λ q. Contains (chain_at chains q) s in
        let old : Contains (chain_at chains g) s = subst Q same has in
        subst P (sym (ap (chain_at (put_first chains g u)) same ∙ get_or-set_same chains g (u ∷ chain_at chains g) [] lt)) (suc old.0, omega (arith, old.1), old.2))
    | inr other ↦ (let P : List ℕ → Type 0 = λ xs. Contains xs s in subst P (sym (get_or-set_other chains g p (u ∷ chain_at chains g) [] other)) has)
  ])
  | inr past ↦ (let P : List (List ℕ) → Type 0 = λ cs. Contains (chain_at cs p) s in subst P (sym (set_past chains g (u ∷ chain_at chains g) past)) has)
]

row_cases : (C : List (List ℕ)) (x : List ℕ) (i : ℕ) (P : List ℕ → Type 0) → (i < length C → P (get_or C i [])) → (i ≡ length C → P x) → P [] → P (get_or (C ++ x ∷ []) i [])
row_cases C x i P old new past =
    (let n = length-append C (x ∷ []) in
    elim (cases_lt i (length C)) [
      | inl lt ↦ subst P (sym (get_or_append_left C (x ∷ []) [] i lt)) (old lt)
      | inr ge ↦ (elim (cases_eq i (length C)) [
        | inl same ↦ subst P (sym (get_or_at C x [] [] i (sym same))) (new same)
        | inr ne ↦ subst P (sym (get_or_past (C ++ x ∷ []) i [] (omega (arith, n, ge, ne)))) past
      ])
    ])

row_old : (C : List (List ℕ)) (x : List ℕ) (i : ℕ) → i < length C → get_or (C ++ x ∷ []) i [] ≡ get_or C i []
row_old C x i lt = get_or_append_left C (x ∷ []) [] i lt

watch_old : (C : List (List ℕ)) (x : List ℕ) (p s : ℕ) → IsWatch C p s → IsWatch (C ++ x ∷ []) p s
watch_old C x p s w = (let n = length-append C (x ∷ []) in let e = row_old C x (s / 2) w.known in
    record { known = omega (arith, n, w.known); long = (let m = ap length e in omega (arith, m, w.long)); at = ap (λ (c : List ℕ). get_or c (s % 2) 0) e ∙ w.at })

watch_back : (C : List (List ℕ)) (x : List ℕ) (p s : ℕ) → s / 2 < length C → IsWatch (C ++ x ∷ []) p s → IsWatch C p s
watch_back C x p s lt w = (let e = row_old C x (s / 2) lt in
    record { known = lt; long = (let m = ap length e in omega (arith, m, w.long)); at = sym (ap (λ (c : List ℕ). get_or c (s % 2) 0) e) ∙ w.at })

watch_new : (C : List (List ℕ)) (x : List ℕ) (p s : ℕ) → s / 2 ≡ length C → 2 ≤ length x → get_or x (s % 2) 0 ≡ p → IsWatch (C ++ x ∷ []) p s
watch_new C x p s same long is = (let n = length-append C (x ∷ []) in let e : get_or (C ++ x ∷ []) (s / 2) [] ≡ x = get_or_at C x [] [] (s / 2) (sym same) in
    record { known = omega (arith, n, same); long = (let m = ap length e in omega (arith, m, long)); at = ap (λ (c : List ℕ). get_or c (s % 2) 0) e ∙ is })

watches_added : (C chains : List (List ℕ)) (x : List ℕ) → Watches C chains → All (λ l. l < length chains) x → Watches (C ++ x ∷ []) (both_put chains (length C) x)
watches_added C chains [] w inside = record {
  seats = λ p s has. watch_old C [] p s (w.seats p s has);
  watched = λ p s is. elim (cases_lt (s / 2) (length C)) [
    | inl lt ↦ w.watched p s (watch_back C [] p s lt is)
    | inr ge ↦ (let n = length-append C ([] ∷ []) in let e = ap length (get_or_at C [] [] [] (s / 2) (let z : length C ≡ s / 2 = omega (arith, ge, n, is.known) in z)) in absurd (omega (arith, e, is.long)))
  ];
}
watches_added C chains (a ∷ []) w inside = record {
  seats = λ p s has. watch_old C (a ∷ []) p s (w.seats p s has);
  watched = λ p s is. elim (cases_lt (s / 2) (length C)) [
    | inl lt ↦ w.watched p s (watch_back C (a ∷ []) p s lt is)
    | inr ge ↦ (let n = length-append C ((a ∷ []) ∷ []) in let e = ap length (get_or_at C (a ∷ []) [] [] (s / 2) (let z : length C ≡ s / 2 = omega (arith, ge, n, is.known) in z)) in absurd (omega (arith, e, is.long)))
  ];
}
watches_added C chains (a ∷ b ∷ ls) w inside =
    let n : ℕ = length C in
    let one' : List (List ℕ) = put_first chains a (2 * n) in
    let la : a < length chains = inside 0 0 (omega arith) in
    let lb : b < length one' = (let m = length-set chains a ((2 * n) ∷ chain_at chains a) in let q = inside 1 0 (omega arith) in omega (arith, m, q)) in
    record {
      seats = λ p s has. elim (both_at chains n a b p s ls has) [
        | inl old ↦ watch_old C (a ∷ b ∷ ls) p s (w.seats p s old)
        | inr new ↦ (elim new [
          | inl first ↦ watch_new C (a ∷ b ∷ ls) p s (omega (arith, first.0)) (omega arith) (ap (λ i. get_or (a ∷ b ∷ ls) i 0) (let z : s % 2 ≡ 0 = omega (arith, first.0) in z) ∙ sym first.1)
          | inr second ↦ watch_new C (a ∷ b ∷ ls) p s (omega (arith, second.0)) (omega arith) (ap (λ i. get_or (a ∷ b ∷ ls) i 0) (let z : s % 2 ≡ 1 = omega (arith, second.0) in z) ∙ sym second.1)
        ])
      ];
      watched = λ p s is. elim (cases_lt (s / 2) n) [
        | inl lt ↦ put_old one' b (2 * n + 1) p s (put_old chains a (2 * n) p s (w.watched p s (watch_back C (a ∷ b ∷ ls) p s lt is)))
        | inr ge ↦ (let m = length-append C ((a ∷ b ∷ ls) ∷ []) in let same : s / 2 ≡ n = omega (arith, ge, m, is.known) in
            let e : get_or (C ++ (a ∷ b ∷ ls) ∷ []) (s / 2) [] ≡ a ∷ b ∷ ls = get_or_at C (a ∷ b ∷ ls) [] [] (s / 2) (sym same) in
            let sees : get_or (a ∷ b ∷ ls) (s % 2) 0 ≡ p = sym (ap (λ (c : List ℕ). get_or c (s % 2) 0) e) ∙ is.at in
            let P : ℕ → Type 0 = λ q. Contains (chain_at (put_first one' b (2 * n + 1)) q) s in
            elim (cases_eq (s % 2) 0) [
              | inl zero' ↦ (let here : a ≡ p = sym (ap (λ i. get_or (a ∷ b ∷ ls) i 0) zero') ∙ sees in
                  let Q : ℕ → Type 0 = λ u. Contains (chain_at (put_first one' b (2 * n + 1)) a) u in
                  subst P here (subst Q (let z : 2 * n ≡ s = omega (arith, same, zero') in z) (put_old one' b (2 * n + 1) a (2 * n) (put_new chains a (2 * n) la))))
              | inr odd ↦ (let one'' : s % 2 ≡ 1 = omega (arith, odd) in let here : b ≡ p = sym (ap (λ i. get_or (a ∷ b ∷ ls) i 0) one'') ∙ sees in
                  let Q : ℕ → Type 0 = λ u. Contains (chain_at (put_first one' b (2 * n + 1)) b) u in
                  subst P here (subst Q (let z : 2 * n + 1 ≡ s = omega (arith, same, one'') in z) (put_new one' b (2 * n + 1) lb)))
            ])
      ];
    }

put_size : (chains : List (List ℕ)) (g u : ℕ) → length (put_first chains g u) ≡ length chains
put_size chains g u = length-set chains g (u ∷ chain_at chains g)

both_size : (chains : List (List ℕ)) (n : ℕ) (x : List ℕ) → length (both_put chains n x) ≡ length chains
both_size chains n [] = refl
both_size chains n (a ∷ []) = refl
both_size chains n (a ∷ b ∷ ls) = put_size (put_first chains a (2 * n)) b (2 * n + 1) ∙ put_size chains a (2 * n)

put_at' : (chains : List (List ℕ)) (g u p s : ℕ) → s ≢ u → Contains (chain_at (put_first chains g u) p) s → Contains (chain_at chains p) s
put_at' chains g u p s ne has = elim (cases_lt g (length chains)) [
  | inl lt ↦ (elim (cases_eq p g) [
    | inl same ↦ (let P : List ℕ → Type 0 = λ xs. Contains xs s in
        let there : Contains (u ∷ chain_at chains g) s = subst P (ap (chain_at (put_first chains g u)) same ∙ get_or-set_same chains g (u ∷ chain_at chains g) [] lt) has in
        let Q : ℕ → Type 0 = λ q. Contains (chain_at chains q) s in subst Q (sym same) (tail_of u s (chain_at chains g) ne there))
    | inr other ↦ (let P : List ℕ → Type 0 = λ xs. Contains xs s in subst P (get_or-set_other chains g p (u ∷ chain_at chains g) [] other) has)
  ])
  | inr past ↦ (let P : List (List ℕ) → Type 0 = λ cs. Contains (chain_at cs p) s in subst P (set_past chains g (u ∷ chain_at chains g) past) has)
]
  where
    tail_of : (x s : ℕ) (xs : List ℕ) → s ≢ x → Contains (x ∷ xs) s → Contains xs s
    tail_of x s xs ne (zero, lt, e) = absurd (ne (sym e))
    tail_of x s xs ne (suc i, lt, e) = (i, omega (arith, lt), e)

pub seated_back : (chains chains' : List (List ℕ)) (g u s : ℕ) → chains' ≡ put_first chains g u → s ≢ u → IsSeated chains' s → IsSeated chains s
seated_back chains chains' g u s e ne (p, has) = (p, put_at' chains g u p s ne (let P : List (List ℕ) → Type 0 = λ cs. Contains (chain_at cs p) s in subst P e has))

pub covers_added : {L : Type 0} (at : L → ℕ) (C chains : List (List ℕ)) (x : List ℕ) (t : Assignment L) → IsCovered false at C chains t → CanAdd at t x → waiting t ≡ [] → IsCovered false at (C ++ x ∷ []) (both_put chains (length C) x) t
unfolding IsDistinct
covers_added {L} at C chains x t h can rest =
    let P : ℕ → Type 0 = λ m. All (λ l. l < m) x in
    record {
      trail = h.trail;
      watches = watches_added C chains x h.watches (subst P (sym h.size) can.inside);
      covered = λ k lk s known long f away.
          (let D : List ℕ → Type 0 = λ c. 2 ≤ length c → is_false (places at (cut t.entries k)) (get_or c (s % 2) 0) ≡ true → is_false (places at (cut (waiting t) k)) (get_or c (s % 2) 0) ≡ false
          → HasTrue (places at (cut t.entries k)) c ⊎ (AllBut (places at (cut t.entries k)) (places at (cut (waiting t) k)) c (get_or c (1 - s % 2) 0) × (false ≡ true → is_false (places at (cut (waiting t) k)) (get_or c (1 - s % 2) 0) ≡ true)) in
          let W : List (Entry L) → Type 0 = λ es. AllBut (places at (cut t.entries k)) (places at (cut es k)) x (get_or x (1 - s % 2) 0) in
          row_cases C x (s / 2) D (λ lt. h.covered k lk s lt) (λ same long' f' away'. inr (subst W (sym rest) (new_covered at t x k (s % 2) can long' (omega arith) f'), λ e. absurd (false≢true e))) (λ long' f' away'. absurd (omega (arith, long'))) long f away);
      inside = λ c l. row_cases C x c (λ xs. Contains xs l → l < 2 * t.variables) (λ lt. h.inside c l) (λ same has. All-contains (λ l. l < 2 * t.variables) x l can.inside has) (λ has. absurd (omega (arith, has.1)));
      distinct = λ c. row_cases C x c (λ xs. IsDistinct (λ x y. variable_of x == variable_of y) xs) (λ lt. h.distinct c) (λ same. distinct_variables x can.apart) tt;
      size = both_size chains (length C) x ∙ h.size;
    }

-- the standing
pub stands_true : (set : List ℕ) (x : ℕ) (xs : List ℕ) → is_false set x ≡ false → is_true set x ≡ true → Free ≡ standing_of set (x ∷ xs)
stands_true set x xs f t = go (open_literals set xs) ∙ sym (ap (standing_open set) (open_more set x xs f)) where
  go : (ys : List ℕ) → Free ≡ standing_open set (x ∷ ys)
  go [] = sym (ap (λ b. cond b Free Unit) t)
  go (y ∷ ys) = refl

either_of : (b : Bool) → (b ≡ true) ⊎ (b ≡ false)
either_of true = inl refl
either_of false = inr refl

pub stands_unit : (set : List ℕ) (x : ℕ) (xs : List ℕ) → is_false set x ≡ false → is_true set x ≡ false → ((j : ℕ) → j < length xs → is_false set (get_or xs j 0) ≡ true) → Unit ≡ standing_of set (x ∷ xs)
stands_unit set x xs f t all = sym (ap (standing_open set) (open_more set x xs f ∙ ap (λ ys. x ∷ ys) (none' xs all)) ∙ ap (λ b. cond b Free Unit) t) where
  none' : (xs : List ℕ) → ((j : ℕ) → j < length xs → is_false set (get_or xs j 0) ≡ true) → open_literals set xs ≡ []
  none' [] h = refl
  none' (y ∷ ys) h = open_skip set y ys (h 0 (omega arith)) ∙ none' ys (λ j lt. h (suc j) (omega (arith, lt)))

pub stands_false : (set : List ℕ) (x : ℕ) → is_false set x ≡ true → False ≡ standing_of set (x ∷ [])
stands_false set x f = sym (ap (standing_open set) (open_skip set x [] f))

pub clause_inside : {L : Type 0} (at : L → ℕ) (n : ℕ) (clause : List L) → All (λ l. l < n) (map at clause) → All (λ l. at l < n) clause
clause_inside at n clause h k d lt = (let a = h k 0 (let m = length-map clause at in omega (arith, m, lt)) in let e = get_or-map at clause k d 0 lt in omega (arith, a, e))

-- where the second literal of a new clause is false, all later ones are
pub later_false : {L : Type 0} (at : L → ℕ) (t : Assignment L) (clause : List L) (second : L) → CanAdd at t (map at clause) → 2 ≤ length clause → second ≡ get_or clause 1 second → is_false (places at t.entries) (at second) ≡ true
    → (j : ℕ) (l : L) → 2 ≤ j → j < length clause → is_false (places at t.entries) (at (get_or clause j l)) ≡ true
later_false at t clause second can long is shut j l far lt =
    let size = length-map clause at in
    let there : get_or (map at clause) 1 0 ≡ at second = get_or-map at clause 1 second 0 (omega (arith, long)) ∙ ap at (sym is) in
    elim (can.second (omega (arith, size, long))) [
      | inl open' ↦ absurd (false≢true (sym open' ∙ ap (is_false (places at t.entries)) there ∙ shut))
      | inr rest ↦ sym (ap (is_false (places at t.entries)) (get_or-map at clause j l 0 lt)) ∙ (rest j (omega (arith, far)) (omega (arith, size, lt))).0
    ]

pub find_unit : {L : Type 0} (at : L → ℕ) (now : List ℕ) (clause : List L) (first second : L) → first ≡ get_or clause 0 first → second ≡ get_or clause 1 second → 2 ≤ length clause → is_false now (at first) ≡ false → is_true now (at first) ≡ false → is_false now (at second) ≡ true → ((j : ℕ) (l : L) → 2 ≤ j → j < length clause → is_false now (at (get_or clause j l)) ≡ true) → Unit ≡ standing_of now (map at clause)
find_unit at now [] first second e1 e2 long f t g rest = absurd (omega (arith, long))
find_unit at now (x ∷ []) first second e1 e2 long f t g rest = absurd (omega (arith, long))
find_unit {L} at now (x ∷ y ∷ xs) first second e1 e2 long f t g rest =
    stands_unit now (at x) (map at (y ∷ xs)) (ap (λ z. is_false now (at z)) (sym e1) ∙ f) (ap (λ z. is_true now (at z)) (sym e1) ∙ t) others
  where
    others : (j : ℕ) → j < length (map at (y ∷ xs)) → is_false now (get_or (map at (y ∷ xs)) j 0) ≡ true
    others zero lt = ap (λ z. is_false now (at z)) (sym e2) ∙ g
    others (suc j) lt = (let m = length-map xs at in ap (is_false now) (get_or-map at xs j x 0 (omega (arith, m, lt))) ∙ rest (suc (suc j)) x (omega arith) (omega (arith, m, lt)))

pub held_added : {L : Type 0} (at : L → ℕ) (cs cs' : List (List L)) (c : List L) (chains chains1 chains' : List (List ℕ)) (room room1 room' id : ℕ) (t t0 : Assignment L) → IsHeld at cs chains room t → t ≡ t0 → CanAdd at t0 (map at c) → waiting t0 ≡ [] → cs' ≡ cs ++ c ∷ [] → id ≡ length cs → chains1 ≡ chains → chains' ≡ both_put chains1 id (map at c) → length cs + 1 ≤ room1 → room' ≡ room1 → IsHeld at cs' chains' room' t
held_added {L} at cs cs' c chains chains1 chains' room room1 room' id t t0 h et can rest ea ei e1 eb wide er =
    let n : length (placed at cs) ≡ length cs = length-map cs (map at) in
    let same : placed at cs' ≡ placed at cs ++ map at c ∷ [] = ap (placed at) ea ∙ map-append (map at) cs (c ∷ []) in
    let chained : chains' ≡ both_put chains (length (placed at cs)) (map at c) = eb ∙ ap (λ xs. both_put xs id (map at c)) e1 ∙ ap (λ i. both_put chains i (map at c)) (ei ∙ sym n) in
    let C : Assignment L → Type 0 = λ u. CanAdd at u (map at c) in
    let W : Assignment L → Type 0 = λ u. waiting u ≡ [] in
    let P : List (List ℕ) → Type 0 = λ xs. IsCovered false at xs chains' t in
    let Q : List (List ℕ) → Type 0 = λ xs. IsCovered false at (placed at cs ++ map at c ∷ []) xs t in
    record {
      covers = subst P (sym same) (subst Q (sym chained) (covers_added at (placed at cs) chains (map at c) t h.covers (subst C (sym et) can) (subst W (sym et) rest)));
      fits = (let m = ap length ea in let k = length-append cs (c ∷ []) in omega (arith, m, k, wide, er));
    }

pub none_seated : {L : Type 0} (at : L → ℕ) (cs : List (List L)) (chains chains1 : List (List ℕ)) (room id : ℕ) (t : Assignment L) → IsHeld at cs chains room t → id ≡ length cs → chains1 ≡ chains → (s : ℕ) → s / 2 ≡ id → IsSeated chains1 s → ⊥
none_seated at cs chains chains1 room id t h ei e1 s is (p, has) =
    (let P : List (List ℕ) → Type 0 = λ xs. Contains (chain_at xs p) s in let w = h.covers.watches.seats p s (subst P e1 has) in let n = length-map cs (map at) in absurd (omega (arith, w.known, n, is, ei)))

-- a clause of distinct variables has no more literals than there are variables
pub clause_short : (n : ℕ) (c : List ℕ) → All (λ l. l < 2 * n) c → ((i j : ℕ) → i < j → j < length c → get_or c i 0 / 2 ≢ get_or c j 0 / 2) → length c ≤ n
clause_short n c inside apart =
    let xs : List ℕ = map (λ l. l / 2) c in
    let size : length xs ≡ length c = length-map c (λ l. l / 2) in
    let read : (i : ℕ) → i < length xs → get_or xs i 0 ≡ get_or c i 0 / 2 = λ i h. get_or-map (λ l. l / 2) c i 0 0 (omega (arith, h, size)) in
    let short : length xs ≤ n = length-le_from_distinct_below xs n
    (distinct_from xs (λ i j lij lj e. apart i j lij (omega (arith, lj, size)) (sym (read i (omega (arith, lij, lj))) ∙ e ∙ read j lj)))
    (λ q. below_any xs n q (λ i h. (let a = inside i 0 (omega (arith, h, size)) in let r = read i h in omega (arith, a, r)))) in
    omega (arith, short, size)
