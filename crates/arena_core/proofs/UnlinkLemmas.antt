-- A seat leaves its chain.
use Rattle.std.proofs.Common.{◌≡◌, ◌≢◌, ℕ, ◌+◌, ◌-◌, ◌<◌, ◌≤◌, List, [], length, get_or, set, refl, sym, ◌∙◌, ap, subst, arith, inl, inr}
use Rattle.std.specs.List.{Contains, remove}
use Rattle.std.proofs.lemmas.List.{get_or_past, get_or_default, length-set, get_or-set_same, get_or-set_other}
use Rattle.std.proofs.lemmas.List.Edits.{get_or-remove_below, get_or-remove_above, length-remove}
use Rattle.std.proofs.lemmas.Bool.{cases_eq, cases_lt}
use Rattle.arena_core.specs.Links.{none, IsChain, Holds}
use Rattle.arena_core.proofs.WalkLemmas.{chain_distinct}
use Rattle.arena_core.proofs.LinkLemmas.{chain_frame, held_at}

pub distinct_ne : (next before owner : List ℕ) (p head : ℕ) (xs : List ℕ) → IsChain next before owner p head xs → length next < none → (i j : ℕ) → i ≢ j → i < length xs → j < length xs → get_or xs i none ≢ get_or xs j none
distinct_ne next before owner p head xs c few i j ne li lj e =
    elim (cases_lt i j) [
      | inl lt ↦ chain_distinct next before owner p head xs c few i j lt lj e
      | inr ge ↦ chain_distinct next before owner p head xs c few j i (omega (arith, ge, ne)) li (sym e)
    ]

-- what stands before and after a seat of a chain
pub record IsAt (next before owner : List ℕ) (p head : ℕ) (xs : List ℕ) (k s b a : ℕ) : Type 0 where
  pub chain : IsChain next before owner p head xs
  pub few : length next < none
  pub within : k < length xs
  pub is : get_or xs k none ≡ s
  pub ahead : get_or before s none ≡ b
  pub behind : get_or next s none ≡ a

pub after_is : (next before owner : List ℕ) (p head : ℕ) (xs : List ℕ) (k s b a : ℕ) → IsAt next before owner p head xs k s b a → a ≡ get_or xs (k + 1) none
after_is next before owner p head xs k s b a w = sym w.behind ∙ ap (λ x. get_or next x none) (sym w.is) ∙ w.chain.forward k w.within

pub before_none : (next before owner : List ℕ) (p head : ℕ) (xs : List ℕ) (k s b a : ℕ) → IsAt next before owner p head xs k s b a → k ≡ 0 → b ≡ none
before_none next before owner p head xs k s b a w e = sym w.ahead ∙ ap (λ x. get_or before x none) (sym w.is ∙ ap (λ j. get_or xs j none) e) ∙ w.chain.start (omega (arith, w.within))

pub before_is : (next before owner : List ℕ) (p head : ℕ) (xs : List ℕ) (k s b a j : ℕ) → IsAt next before owner p head xs k s b a → k ≡ j + 1 → b ≡ get_or xs j none
before_is next before owner p head xs k s b a j w e = sym w.ahead ∙ ap (λ x. get_or before x none) (sym w.is ∙ ap (λ j. get_or xs j none) e) ∙ w.chain.back j (omega (arith, w.within, e))

not_before : (next before owner : List ℕ) (p head : ℕ) (xs : List ℕ) (k s b a m : ℕ) → IsAt next before owner p head xs k s b a → m < length xs → m + 1 ≢ k → get_or xs m none ≢ b
not_before next before owner p head xs k s b a m w lm ne e =
    elim (cases_lt 0 k) [
      | inl some ↦ (let is : b ≡ get_or xs (k - 1) none = before_is next before owner p head xs k s b a (k - 1) w (omega (arith, some)) in
          distinct_ne next before owner p head xs w.chain w.few m (k - 1) (λ h. ne (omega (arith, h, some))) lm (omega (arith, w.within)) (e ∙ is))
      | inr first ↦ (let is : b ≡ none = before_none next before owner p head xs k s b a w (omega (arith, first)) in let i : get_or xs m none < length next = w.chain.inside m lm in omega (arith, is, i, e, w.few))
    ]

not_after : (next before owner : List ℕ) (p head : ℕ) (xs : List ℕ) (k s b a m : ℕ) → IsAt next before owner p head xs k s b a → m < length xs → m ≢ k + 1 → get_or xs m none ≢ a
not_after next before owner p head xs k s b a m w lm ne e =
    let is : a ≡ get_or xs (k + 1) none = after_is next before owner p head xs k s b a w in
    elim (cases_lt (k + 1) (length xs)) [
      | inl some ↦ distinct_ne next before owner p head xs w.chain w.few m (k + 1) ne lm some (e ∙ is)
      | inr last ↦ (let past : get_or xs (k + 1) none ≡ none = get_or_past xs (k + 1) none last in let i : get_or xs m none < length next = w.chain.inside m lm in omega (arith, is, past, i, e, w.few))
    ]

not_seat : (next before owner : List ℕ) (p head : ℕ) (xs : List ℕ) (k s b a m : ℕ) → IsAt next before owner p head xs k s b a → m < length xs → m ≢ k → get_or xs m none ≢ s
not_seat next before owner p head xs k s b a m w lm ne e = distinct_ne next before owner p head xs w.chain w.few m k ne lm w.within (e ∙ sym w.is)

-- the chain without the seat
cut_chain : (next before owner : List ℕ) (p head head' : ℕ) (xs : List ℕ) (k s b a : ℕ) → IsAt next before owner p head xs k s b a → length before ≡ length next → length owner ≡ length next → (k ≡ 0 → head' ≡ a) → (0 < k → head' ≡ head)
    → IsChain (set next b a) (set before a b) (set owner s none) p head' (remove xs k)
cut_chain next before owner p head head' xs k s b a w bs os h0 h1 =
    let next' : List ℕ = set next b a in
    let before' : List ℕ = set before a b in
    let owner' : List ℕ = set owner s none in
    let ys : List ℕ = remove xs k in
    let c = w.chain in
    let size : length ys + 1 ≡ length xs = length-remove xs k w.within in
    let wide : length next' ≡ length next = length-set next b a in
    let rb : (i : ℕ) → i < k → get_or ys i none ≡ get_or xs i none = λ i lt. get_or-remove_below xs k none i lt w.within in
    let ra : (i : ℕ) → k ≤ i → get_or ys i none ≡ get_or xs (i + 1) none = λ i le. get_or-remove_above xs k none i le w.within in
    let nb : (m : ℕ) → m < length xs → m + 1 ≢ k → get_or next' (get_or xs m none) none ≡ get_or next (get_or xs m none) none = λ m lm ne. get_or-set_other next b (get_or xs m none) a none (not_before next before owner p head xs k s b a m w lm ne) in
    let na : (m : ℕ) → m < length xs → m ≢ k + 1 → get_or before' (get_or xs m none) none ≡ get_or before (get_or xs m none) none = λ m lm ne. get_or-set_other before a (get_or xs m none) b none (not_after next before owner p head xs k s b a m w lm ne) in
    let no : (m : ℕ) → m < length xs → m ≢ k → get_or owner' (get_or xs m none) none ≡ p = λ m lm ne. get_or-set_other owner s (get_or xs m none) none none (not_seat next before owner p head xs k s b a m w lm ne) ∙ c.owned m lm in
    let ai : a ≡ get_or xs (k + 1) none = after_is next before owner p head xs k s b a w in
    record {
      inside = λ i hi. elim (cases_lt i k) [
        | inl lt ↦ (let was : get_or xs i none < length next = c.inside i (omega (arith, size, hi)) in omega (arith, rb i lt, was, wide))
        | inr ge ↦ (let was : get_or xs (i + 1) none < length next = c.inside (i + 1) (omega (arith, size, hi)) in omega (arith, ra i ge, was, wide))
      ];
      owned = λ i hi. elim (cases_lt i k) [
        | inl lt ↦ ap (λ x. get_or owner' x none) (rb i lt) ∙ no i (omega (arith, size, hi)) (omega (arith, lt))
        | inr ge ↦ ap (λ x. get_or owner' x none) (ra i ge) ∙ no (i + 1) (omega (arith, size, hi)) (omega (arith, ge))
      ];
      first = elim (cases_lt 0 k) [
        | inl lt ↦ h1 lt ∙ c.first ∙ sym (rb 0 lt)
        | inr ge ↦ (let k0 : k ≡ 0 = omega (arith, ge) in h0 k0 ∙ ai ∙ ap (λ j. get_or xs (j + 1) none) k0 ∙ sym (ra 0 ge))
      ];
      forward = λ i hi. elim (cases_lt i k) [
        | inl lt ↦ (elim (cases_lt (i + 1) k) [
          | inl lt2 ↦ ap (λ x. get_or next' x none) (rb i lt) ∙ nb i (omega (arith, size, hi)) (omega (arith, lt2)) ∙ c.forward i (omega (arith, size, hi)) ∙ sym (rb (i + 1) lt2)
          | inr ge2 ↦ (let e : k ≡ i + 1 = omega (arith, lt, ge2) in
              let bi : b ≡ get_or xs i none = before_is next before owner p head xs k s b a i w e in
              let inside : b < length next = omega (arith, bi, c.inside i (omega (arith, size, hi))) in
              ap (λ x. get_or next' x none) (rb i lt ∙ sym bi) ∙ get_or-set_same next b a none inside ∙ ai ∙ ap (λ j. get_or xs (j + 1) none) e ∙ sym (ra (i + 1) ge2))
        ])
        | inr ge ↦ ap (λ x. get_or next' x none) (ra i ge) ∙ nb (i + 1) (omega (arith, size, hi)) (omega (arith, ge)) ∙ c.forward (i + 1) (omega (arith, size, hi)) ∙ sym (ra (i + 1) (omega (arith, ge)))
      ];
      start = λ some. elim (cases_lt 0 k) [
        | inl lt ↦ ap (λ x. get_or before' x none) (rb 0 lt) ∙ na 0 (omega (arith, size, some)) (omega arith) ∙ c.start (omega (arith, size, some))
        | inr ge ↦ (let k0 : k ≡ 0 = omega (arith, ge) in
            let inside : a < length before = omega (arith, ai, bs, c.inside (k + 1) (omega (arith, size, some, k0))) in
            ap (λ x. get_or before' x none) (ra 0 ge ∙ ap (λ j. get_or xs (j + 1) none) (sym k0) ∙ sym ai) ∙ get_or-set_same before a b none inside ∙ before_none next before owner p head xs k s b a w k0)
      ];
      back = λ i hi. elim (cases_lt (i + 1) k) [
        | inl lt ↦ ap (λ x. get_or before' x none) (rb (i + 1) lt) ∙ na (i + 1) (omega (arith, size, hi)) (omega (arith, lt)) ∙ c.back i (omega (arith, size, hi)) ∙ sym (rb i (omega (arith, lt)))
        | inr ge ↦ (elim (cases_eq (i + 1) k) [
          | inl e ↦ (let inside : a < length before = omega (arith, ai, bs, c.inside (k + 1) (omega (arith, size, hi, e))) in
              ap (λ x. get_or before' x none) (ra (i + 1) ge ∙ ap (λ j. get_or xs (j + 1) none) e ∙ sym ai) ∙ get_or-set_same before a b none inside ∙ before_is next before owner p head xs k s b a i w (sym e) ∙ sym (rb i (omega (arith, e))))
          | inr ne ↦ ap (λ x. get_or before' x none) (ra (i + 1) ge) ∙ na (i + 1 + 1) (omega (arith, size, hi)) (omega (arith, ge, ne)) ∙ c.back (i + 1) (omega (arith, size, hi)) ∙ sym (ra i (omega (arith, ge, ne)))
        ])
      ];
    }

cut_contains : (xs : List ℕ) (k s t : ℕ) → k < length xs → get_or xs k none ≡ s → t ≢ s → Contains xs t → Contains (remove xs k) t
cut_contains xs k s t lk is ne has =
    let size : length (remove xs k) + 1 ≡ length xs = length-remove xs k lk in
    let m : ℕ = has.0 in
    let lm : m < length xs = has.1 in
    let at : get_or xs m t ≡ t = has.2 in
    elim (cases_lt m k) [
      | inl lt ↦ (m, omega (arith, lt, lk, size), get_or-remove_below xs k t m lt lk ∙ at)
      | inr ge ↦ (let other : m ≢ k = λ e. ne (sym at ∙ get_or_default xs m t none lm ∙ ap (λ j. get_or xs j none) e ∙ is) in
          let back : m - 1 + 1 ≡ m = omega (arith, ge, other) in
          (m - 1, omega (arith, ge, other, lm, size), get_or-remove_above xs k t (m - 1) (omega (arith, ge, other)) lk ∙ ap (λ j. get_or xs j t) back ∙ at))
    ]

-- the arrays after a seat left its chain
pub unlink_holds : (heads next before owner heads' : List ℕ) (chains : List (List ℕ)) (q s k b a : ℕ) → Holds heads next before owner chains → q < length heads → k < length (get_or chains q []) → get_or (get_or chains q []) k none ≡ s
    → get_or before s none ≡ b → get_or next s none ≡ a → length heads' ≡ length heads → ((p : ℕ) → p ≢ q → get_or heads' p none ≡ get_or heads p none) → (k ≡ 0 → get_or heads' q none ≡ a) → (0 < k → get_or heads' q none ≡ get_or heads q none)
    → Holds heads' (set next b a) (set before a b) (set owner s none) (set chains q (remove (get_or chains q []) k))
unlink_holds heads next before owner heads' chains q s k b a h lq lk is ahead behind hs other_heads h0 h1 =
    let xs : List ℕ = get_or chains q [] in
    let ys : List ℕ = remove xs k in
    let next' : List ℕ = set next b a in
    let before' : List ℕ = set before a b in
    let owner' : List ℕ = set owner s none in
    let chains' : List (List ℕ) = set chains q ys in
    let cq : IsChain next before owner q (get_or heads q none) xs = h.chain q lq in
    let w : IsAt next before owner q (get_or heads q none) xs k s b a = record { chain = cq; few = h.few_seats; within = lk; is = is; ahead = ahead; behind = behind } in
    let size : length next' ≡ length next = length-set next b a in
    let inside : q < length chains = omega (arith, h.count, lq) in
    let owns : get_or owner s none ≡ q = ap (λ x. get_or owner x none) (sym is) ∙ cq.owned k lk in
    record {
      before_size = simp length-set h.before_size;
      owner_size = simp length-set h.owner_size;
      few_seats = simp length-set h.few_seats;
      few_places = omega (arith, h.few_places, hs);
      count = simp length-set (omega (arith, h.count, hs));
      chain = λ p lp'. (let lp : p < length heads = omega (arith, hs, lp') in
          elim (cases_eq p q) [
            | inl same ↦ (let P : ℕ → Type 0 = λ r. IsChain next' before' owner' r (get_or heads' r none) (get_or chains' r []) in
                let Q : List ℕ → Type 0 = λ zs. IsChain next' before' owner' q (get_or heads' q none) zs in
                subst P (sym same) (subst Q (sym (get_or-set_same chains q ys [] inside)) (cut_chain next before owner q (get_or heads q none) (get_or heads' q none) xs k s b a w h.before_size h.owner_size h0 h1)))
            | inr other ↦ (let cp = h.chain p lp in
                let zs : List ℕ = get_or chains p [] in
                let apart : (i j : ℕ) → i < length zs → j < length xs → get_or zs i none ≢ get_or xs j none = λ i j hi hj e. other (sym (cp.owned i hi) ∙ ap (λ x. get_or owner x none) e ∙ cq.owned j hj) in
                let not_s : (i : ℕ) → i < length zs → get_or zs i none ≢ s = λ i hi e. apart i k hi lk (e ∙ sym is) in
                let not_b : (i : ℕ) → i < length zs → get_or zs i none ≢ b = λ i hi e. elim (cases_lt 0 k) [
                  | inl some ↦ apart i (k - 1) hi (omega (arith, lk)) (e ∙ before_is next before owner q (get_or heads q none) xs k s b a (k - 1) w (omega (arith, some)))
                  | inr first ↦ (let n : b ≡ none = before_none next before owner q (get_or heads q none) xs k s b a w (omega (arith, first)) in omega (arith, n, e, cp.inside i hi, h.few_seats))
                ] in
                let ai : a ≡ get_or xs (k + 1) none = after_is next before owner q (get_or heads q none) xs k s b a w in
                let not_a : (i : ℕ) → i < length zs → get_or zs i none ≢ a = λ i hi e. elim (cases_lt (k + 1) (length xs)) [
                  | inl some ↦ apart i (k + 1) hi some (e ∙ ai)
                  | inr last ↦ (let past : get_or xs (k + 1) none ≡ none = get_or_past xs (k + 1) none last in omega (arith, ai, past, e, cp.inside i hi, h.few_seats))
                ] in
                chain_frame next before owner next' before' owner' p (get_or heads p none) (get_or heads' p none) zs (get_or chains' p []) cp (other_heads p other) (get_or-set_other chains q p ys [] other) size
                (λ i hi. get_or-set_other next b (get_or zs i none) a none (not_b i hi))
                (λ i hi. get_or-set_other before a (get_or zs i none) b none (not_a i hi))
                (λ i hi. get_or-set_other owner s (get_or zs i none) none none (not_s i hi)))
          ]);
      held = λ t lt. (let lt' : t < length next = simp length-set at lt in
          elim (cases_eq t s) [
            | inl same ↦ inl (ap (λ x. get_or owner' x none) same ∙ (let ls : s < length owner = omega (arith, h.owner_size, lt', same) in get_or-set_same owner s none none ls))
            | inr ne ↦ (let o : get_or owner' t none ≡ get_or owner t none = get_or-set_other owner s t none none ne in
                elim (h.held t lt') [
                  | inl out ↦ inl (o ∙ out)
                  | inr there ↦ inr (
                    omega (arith, o, there.0, hs),
                    (elim (cases_eq (get_or owner t none) q) [
                      | inl same ↦ (let has : Contains xs t = held_at chains q (get_or owner t none) t (get_or chains (get_or owner t none) []) (sym same) refl there.1 in
                          held_at chains' (get_or owner' t none) q t ys (o ∙ same) (get_or-set_same chains q ys [] inside) (cut_contains xs k s t lk is ne has))
                      | inr other ↦ held_at chains' (get_or owner' t none) (get_or owner t none) t (get_or chains (get_or owner t none) []) o (get_or-set_other chains q (get_or owner t none) ys [] other) there.1
                    ]),
                  )
                ])
          ]);
    }
