-- Levels along a trail, and what a cut leaves.
use Rattle.std.proofs.Common.{◌≡◌, ℕ, zero, suc, ◌+◌, ◌-◌, ◌<◌, ◌≤◌, cond, List, [], ◌∷◌, ◌++◌, length, get_or, take, drop, refl, sym, ◌∙◌, ap, subst, arith, inl, inr, ◌⊎◌, leb, min}
use Rattle.std.specs.List.{All}
use Rattle.std.proofs.lemmas.List.{length-append, get_or_append_left, get_or-append_right, get_or-take, length-take-le, get_or-drop, length-drop}
use Rattle.std.proofs.lemmas.List.Elements.{All-push, All-weaker, filter-append, filter_passes}
use Rattle.std.proofs.lemmas.Bool.{cases_lt, false≢true}
use Rattle.std.proofs.lemmas.Bool.Decides.{leb_tells}
use Rattle.watch_core.specs.Trail.{Entry, IsLeveled, cut}

pub kept_in : {L : Type 0} (e : Entry L) (es : List (Entry L)) (k : ℕ) → e.level ≤ k → cut (e ∷ es) k ≡ e ∷ cut es k
kept_in e es k h = elim (leb_tells e.level k) [
  | inl yes' ↦ ap (λ b. cond b (e ∷ cut es k) (cut es k)) yes'.0
  | inr no' ↦ absurd (omega (arith, no'.1, h))
]

pub left_out : {L : Type 0} (e : Entry L) (es : List (Entry L)) (k : ℕ) → k < e.level → cut (e ∷ es) k ≡ cut es k
left_out e es k h = elim (leb_tells e.level k) [
  | inl yes' ↦ absurd (omega (arith, yes'.1, h))
  | inr no' ↦ ap (λ b. cond b (e ∷ cut es k) (cut es k)) no'.0
]

pub cut_all : {L : Type 0} (es : List (Entry L)) (k : ℕ) → All (λ (e : Entry L). e.level ≤ k) es → cut es k ≡ es
cut_all [] k h = refl
cut_all (e ∷ es) k h = kept_in e es k (h 0 e (omega arith)) ∙ ap (λ xs. e ∷ xs) (cut_all es k (λ i d lt. h (suc i) d (omega (arith, lt))))

pub cut_none : {L : Type 0} (es : List (Entry L)) (k : ℕ) → All (λ (e : Entry L). k < e.level) es → cut es k ≡ []
cut_none [] k h = refl
cut_none (e ∷ es) k h = left_out e es k (h 0 e (omega arith)) ∙ cut_none es k (λ i d lt. h (suc i) d (omega (arith, lt)))

pub cut_cut : {L : Type 0} (es : List (Entry L)) (j k : ℕ) → k ≤ j → cut (cut es j) k ≡ cut es k
cut_cut [] j k h = refl
cut_cut (e ∷ es) j k h = elim (leb_tells e.level j) [
  | inl low ↦ (let one : cut (cut (e ∷ es) j) k ≡ cut (e ∷ cut es j) k = ap (λ xs. cut xs k) (kept_in e es j low.1) in
      elim (leb_tells e.level k) [
        | inl lower ↦ one ∙ kept_in e (cut es j) k lower.1 ∙ ap (λ xs. e ∷ xs) (cut_cut es j k h) ∙ sym (kept_in e es k lower.1)
        | inr no' ↦ one ∙ left_out e (cut es j) k no'.1 ∙ cut_cut es j k h ∙ sym (left_out e es k no'.1)
      ])
  | inr high ↦ ap (λ xs. cut xs k) (left_out e es j high.1) ∙ cut_cut es j k h ∙ sym (left_out e es k (omega (arith, high.1, h)))
]

pub cut_is : {L : Type 0} (es : List (Entry L)) (n k : ℕ) → n ≤ length es → ((i : ℕ) (d : Entry L) → i < n → (get_or es i d).level ≤ k) → ((i : ℕ) (d : Entry L) → n ≤ i → i < length es → k < (get_or es i d).level) → cut es k ≡ take n es
cut_is [] zero k h low high = refl
cut_is [] (suc n) k h low high = refl
cut_is (e ∷ es) zero k h low high = left_out e es k (high 0 e (omega arith) (omega arith)) ∙ cut_none es k (λ i d lt. high (suc i) d (omega arith) (omega (arith, lt)))
cut_is (e ∷ es) (suc n) k h low high = kept_in e es k (low 0 e (omega arith)) ∙ ap (λ xs. e ∷ xs) (cut_is es n k (omega (arith, h)) (λ i d lt. low (suc i) d (omega (arith, lt))) (λ i d le lt. high (suc i) d (omega (arith, le)) (omega (arith, lt))))

cut_more : {L : Type 0} (es : List (Entry L)) (e : Entry L) (k : ℕ) → length (cut es k) ≤ length (cut (es ++ e ∷ []) k)
cut_more es e k = (let n = length-append (cut es k) (cut (e ∷ []) k) in let m = ap length (filter-append (λ (x : Entry _). leb x.level k) es (e ∷ [])) in omega (arith, n, m))

pub leveled_more : {L : Type 0} (es : List (Entry L)) (k k' : ℕ) (e : Entry L) → IsLeveled es k → (k' ≡ k) ⊎ (k' ≡ k + 1) → e.level ≡ k' → IsLeveled (es ++ e ∷ []) k'
leveled_more {L} es k k' e h step is =
    let up : k ≤ k' = elim step [ inl a ↦ omega (arith, a) | inr a ↦ omega (arith, a) ] in
    let size : length (es ++ e ∷ []) ≡ length es + 1 = length-append es (e ∷ []) in
    let all : All (λ (x : Entry L). x.level ≤ k') (es ++ e ∷ []) = All-push (λ (x : Entry L). x.level ≤ k') es e (All-weaker (λ (x : Entry L). x.level ≤ k) (λ (x : Entry L). x.level ≤ k') (λ x lt. omega (arith, lt, up)) es h.below) (omega (arith, is)) in
    record {
      sorted = λ i j d lij lj. elim (cases_lt j (length es)) [
        | inl old ↦ (let s = h.sorted i j d lij old in let a = ap (λ (x : Entry L). x.level) (get_or_append_left es (e ∷ []) d i (omega (arith, lij, old))) in let b = ap (λ (x : Entry L). x.level) (get_or_append_left es (e ∷ []) d j old) in omega (arith, s, a, b))
        | inr new ↦ (let top : j ≡ length es = omega (arith, new, lj, size) in
            let li : i < length es = omega (arith, lij, top) in
            let s = h.below i d li in
            let a = ap (λ (x : Entry L). x.level) (get_or_append_left es (e ∷ []) d i li) in
            let b : get_or (es ++ e ∷ []) j d ≡ e = get_or-append_right es (e ∷ []) (length es) j d refl new ∙ ap (λ n. get_or (e ∷ []) n d) (let z : j - length es ≡ 0 = omega (arith, top) in z) in
            let b' = ap (λ (x : Entry L). x.level) b in
            omega (arith, s, a, b', is, up))
      ];
      below = all;
      begun = λ q lq. elim (cases_lt q k') [
        | inl less ↦ (let b = h.begun q (elim step [ inl x ↦ omega (arith, x, lq) | inr x ↦ omega (arith, x, less) ]) in let m = cut_more es e q in omega (arith, b, m))
        | inr top ↦ (let same : q ≡ k' = omega (arith, top, lq) in
            let n = ap length (ap (cut (es ++ e ∷ [])) same ∙ cut_all (es ++ e ∷ []) k' all) in
            let b = h.begun k (omega arith) in
            let m = ap length (cut_all es k h.below) in
            elim step [ inl x ↦ omega (arith, x, n, b, m, size, same) | inr x ↦ omega (arith, x, n, b, m, size, same) ])
      ];
    }

pub leveled_cut : {L : Type 0} (es : List (Entry L)) (k j n : ℕ) → IsLeveled es k → j ≤ k → n ≤ length es → cut es j ≡ take n es → IsLeveled (take n es) j
leveled_cut {L} es k j n h le ln is =
    let size : length (take n es) ≡ n = length-take-le n es ln in
    record {
      sorted = λ i q d liq lq. (let lq' : q < n = omega (arith, lq, size) in
          let s = h.sorted i q d liq (omega (arith, lq', ln)) in
          let a = ap (λ (x : Entry L). x.level) (get_or-take n es i d (omega (arith, liq, lq'))) in
          let b = ap (λ (x : Entry L). x.level) (get_or-take n es q d lq') in
          omega (arith, s, a, b));
      below = (let P : List (Entry L) → Type 0 = λ xs. All (λ (e : Entry L). e.level ≤ j) xs in
          subst P is (λ i d lt. (let t = filter_passes (λ (x : Entry L). leb x.level j) es i d lt in
          elim (leb_tells (get_or (cut es j) i d).level j) [ inl low ↦ low.1 | inr high ↦ absurd (false≢true (sym high.0 ∙ t)) ])));
      begun = λ q lq. (let b = h.begun q (omega (arith, lq, le)) in
          let m = ap length (ap (λ xs. cut xs q) (sym is) ∙ cut_cut es j q lq) in omega (arith, b, m));
    }

-- what waits after the trail was cut are those that waited and stay
pub waits_cut : {L : Type 0} (es : List (Entry L)) (t j n : ℕ) → t ≤ length es → n ≤ length es → ((i : ℕ) (d : Entry L) → i < n → (get_or es i d).level ≤ j) → ((i : ℕ) (d : Entry L) → n ≤ i → i < length es → j < (get_or es i d).level) → drop (min t n) (take n es) ≡ cut (drop t es) j
waits_cut es zero j n h ln low high = (let z : min 0 n ≡ 0 = omega arith in ap (λ m. drop m (take n es)) z) ∙ sym (cut_is es n j ln low high)
waits_cut [] (suc t) j zero h ln low high = absurd (omega (arith, h))
waits_cut [] (suc t) j (suc n) h ln low high = absurd (omega (arith, ln))
waits_cut (e ∷ es) (suc t) j zero h ln low high =
    (let z : min (suc t) 0 ≡ 0 = omega arith in ap (λ m. drop m (take zero (e ∷ es))) z) ∙ sym (cut_none (drop t es) j (λ i d lt. (let r = get_or-drop t es i d in let s = ap (λ (x : Entry _). x.level) r in let n = length-drop t es in let g = high (suc (t + i)) d (omega arith) (omega (arith, lt, n)) in omega (arith, g, s))))
waits_cut (e ∷ es) (suc t) j (suc n) h ln low high =
    ap (λ m. drop m (e ∷ take n es)) (let z : min (suc t) (suc n) ≡ suc (min t n) = omega arith in z) ∙ waits_cut es t j n (omega (arith, h)) (omega (arith, ln)) (λ i d lt. low (suc i) d (omega (arith, lt))) (λ i d le lt. high (suc i) d (omega (arith, le)) (omega (arith, lt)))
