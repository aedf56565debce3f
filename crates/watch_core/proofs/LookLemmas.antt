-- A chain is no longer than its literal stands often in clauses.
use Rattle.std.proofs.Common.{◌≡◌, ℕ, zero, suc, ◌+◌, ◌*◌, ◌/◌, ◌%◌, ◌<◌, ◌≤◌, ◌==◌, ◌||◌, Bool, true, false, cond, List, [], ◌∷◌, ◌++◌, length, get_or, take, drop, None, Some, refl, sym, ◌∙◌, ap, subst, arith, inl, inr, eq-eqb, eqb}
use Rattle.std.specs.List.{Contains, count_by, sum_by, list_any, slice_get}
use Rattle.std.proofs.lemmas.List.{length-append, get_or_default, length-take-le, take-take, take_more, drop-append-le, map-append, take-map}
use Rattle.std.proofs.lemmas.List.Elements.{Contains-append_left, Contains-append_right}
use Rattle.std.proofs.lemmas.List.Sums.{sum_by-cons, sum_by_push, sum_by-take-le}
use Rattle.std.proofs.lemmas.Map.Made.{length-le_from_is_member}
use Rattle.std.proofs.lemmas.Map.Keys.{IsDistinct-from_apart}
use Rattle.std.proofs.lemmas.Bool.{false≢true}
use Rattle.std.proofs.lemmas.Bool.Decides.{eqb_tells}
use Rattle.std.specs.Cmp.{IsEquivalence}
use Rattle.arena_core.specs.Chains.{chain_at, AreApart}
use Rattle.literals_core.specs.Literal.{negation}
use Rattle.watch_core.specs.Looks.{occurrences, false_occurrences}
use Rattle.watch_core.specs.Trail.{Entry, Assignment, places, waiting, order, one_taken}
use Rattle.watch_core.proofs.VisitLemmas.{first_is}
use Rattle.std.proofs.lemmas.List.Sorted.{sum_by-IsPermutation}
use Rattle.watch_core.specs.Cover.{Watches}
use Rattle.watch_core.specs.Propagates.{AreReordered, Propagates}
use Rattle.watch_core.proofs.AssignLemmas.{not_eqb}

-- the seats of one clause that watch a literal
seats_in : ℕ → List ℕ → ℕ → List ℕ
seats_in n [] q = []
seats_in n (x ∷ []) q = []
seats_in n (x ∷ y ∷ ls) q = cond (x == q) ((2 * n) ∷ []) [] ++ cond (y == q) ((2 * n + 1) ∷ []) []

seats_from : ℕ → List (List ℕ) → ℕ → List ℕ
seats_from n [] q = []
seats_from n (c ∷ cs) q = seats_in n c q ++ seats_from (n + 1) cs q

one_or_none : (b : Bool) (u : ℕ) → length (cond b (u ∷ []) []) ≡ cond b 1 0
one_or_none true u = refl
one_or_none false u = refl

in_short : (n : ℕ) (c : List ℕ) (q : ℕ) → length (seats_in n c q) ≤ count_by (λ x. x == q) c
unfolding seats_in
in_short n [] q = omega arith
in_short n (x ∷ []) q = omega arith
in_short n (x ∷ y ∷ ls) q =
    let a = sum_by-cons (λ z. cond (z == q) 1 0) x (y ∷ ls) in
    let b = sum_by-cons (λ z. cond (z == q) 1 0) y ls in
    let m = length-append (cond (x == q) ((2 * n) ∷ []) []) (cond (y == q) ((2 * n + 1) ∷ []) []) in
    let u = one_or_none (x == q) (2 * n) in
    let v = one_or_none (y == q) (2 * n + 1) in
    omega (arith, a, b, m, u, v)

from_short : (n : ℕ) (cs : List (List ℕ)) (q : ℕ) → length (seats_from n cs q) ≤ occurrences cs q
unfolding seats_from
from_short n [] q = omega arith
from_short n (c ∷ cs) q =
    let a = sum_by-cons (count_by (λ x. x == q)) c cs in
    let m = length-append (seats_in n c q) (seats_from (n + 1) cs q) in
    let i = in_short n c q in
    let r = from_short (n + 1) cs q in
    omega (arith, a, m, i, r)

in_has : (n : ℕ) (c : List ℕ) (q s : ℕ) → s / 2 ≡ n → 2 ≤ length c → get_or c (s % 2) 0 ≡ q → Contains (seats_in n c q) s
unfolding seats_in
in_has n [] q s is long at = absurd (omega (arith, long))
in_has n (x ∷ []) q s is long at = absurd (omega (arith, long))
in_has n (x ∷ y ∷ ls) q s is long at = elim (eqb_tells (s % 2) 0) [
  | inl even ↦ (let e : x ≡ q = sym (ap (λ i. get_or (x ∷ y ∷ ls) i 0) even.1) ∙ at in
      Contains-append_left (cond (x == q) ((2 * n) ∷ []) []) (cond (y == q) ((2 * n + 1) ∷ []) []) s
      (let P : Bool → Type 0 = λ b. Contains (cond b ((2 * n) ∷ []) []) s in subst P (sym (eq-eqb x q e)) (0, omega arith, (let z : 2 * n ≡ s = omega (arith, is, even.1) in z))))
  | inr odd ↦ (let one' : s % 2 ≡ 1 = omega (arith, odd.1) in let e : y ≡ q = sym (ap (λ i. get_or (x ∷ y ∷ ls) i 0) one') ∙ at in
      Contains-append_right (cond (x == q) ((2 * n) ∷ []) []) (cond (y == q) ((2 * n + 1) ∷ []) []) s
      (let P : Bool → Type 0 = λ b. Contains (cond b ((2 * n + 1) ∷ []) []) s in subst P (sym (eq-eqb y q e)) (0, omega arith, (let z : 2 * n + 1 ≡ s = omega (arith, is, one') in z))))
]

from_has : (n : ℕ) (cs : List (List ℕ)) (q s i : ℕ) → s / 2 ≡ n + i → i < length cs → 2 ≤ length (get_or cs i []) → get_or (get_or cs i []) (s % 2) 0 ≡ q → Contains (seats_from n cs q) s
unfolding seats_from
from_has n [] q s i is lt long at = absurd (omega (arith, lt))
from_has n (c ∷ cs) q s zero is lt long at = Contains-append_left (seats_in n c q) (seats_from (n + 1) cs q) s (in_has n c q s (omega (arith, is)) long at)
from_has n (c ∷ cs) q s (suc i) is lt long at = Contains-append_right (seats_in n c q) (seats_from (n + 1) cs q) s (from_has (n + 1) cs q s i (omega (arith, is)) (omega (arith, lt)) long at)

to_member : (xs : List ℕ) (s : ℕ) → Contains xs s → list_any (eqb s) xs ≡ true
to_member [] s has = absurd (omega (arith, has.1))
to_member (x ∷ xs) s (zero, lt, e) = ap (λ b. b || list_any (eqb s) xs) (eq-eqb s x (sym e))
to_member (x ∷ xs) s (suc i, lt, e) = or_right (eqb s x) (list_any (eqb s) xs) (to_member xs s (i, omega (arith, lt), e)) where
  or_right : (a b : Bool) → b ≡ true → (a || b) ≡ true
  or_right true b h = refl
  or_right false b h = h

of_member : (xs : List ℕ) (s : ℕ) → list_any (eqb s) xs ≡ true → Contains xs s
of_member [] s h = absurd (false≢true h)
of_member (x ∷ xs) s h = elim (eqb_tells s x) [
  | inl same ↦ (0, omega arith, sym same.1)
  | inr other ↦ (let r = of_member xs s (sym (ap (λ b. b || list_any (eqb s) xs) other.0) ∙ h) in (suc r.0, omega (arith, r.1), r.2))
]

eqb_laws : IsEquivalence eqb
eqb_laws = record {
  refl = λ x. eq-eqb x x refl;
  symm = λ x y. elim (eqb_tells x y) [ inl same ↦ same.0 ∙ sym (eq-eqb y x (sym same.1)) | inr other ↦ other.0 ∙ sym (not_eqb y x (λ e. other.1 (sym e))) ];
  congr = λ x y z h. elim (eqb_tells x y) [ inl same ↦ ap (λ w. eqb w z) same.1 | inr other ↦ absurd (false≢true (sym other.0 ∙ h)) ];
}

pub chain_short : (C chains : List (List ℕ)) (q : ℕ) → Watches C chains → AreApart chains → length (chain_at chains q) ≤ occurrences C q
chain_short C chains q w apart =
    let xs : List ℕ = chain_at chains q in
    let short : length xs ≤ length (seats_from 0 C q) = length-le_from_is_member eqb_laws xs (seats_from 0 C q)
    (IsDistinct-from_apart eqb xs (λ i j d lij lj. not_eqb (get_or xs i d) (get_or xs j d) (λ e. (let z = (apart q i q j (omega (arith, lij, lj)) lj (sym (get_or_default xs i d 0 (omega (arith, lij, lj))) ∙ e ∙ get_or_default xs j d 0 lj)).1 in omega (arith, z, lij)))))
    (λ s h. (let is = w.seats q s (of_member xs s h) in to_member (seats_from 0 C q) s (from_has 0 C q s (s / 2) (omega arith) is.known is.long is.at))) in
    (let f = from_short 0 C q in omega (arith, short, f))

same_sums : (f : List ℕ → ℕ) (xs ys : List (List ℕ)) → length ys ≡ length xs → ((i : ℕ) → f (get_or ys i []) ≡ f (get_or xs i [])) → sum_by f ys ≡ sum_by f xs
same_sums f [] [] n h = refl
same_sums f [] (b ∷ ys) n h = absurd (omega (arith, n))
same_sums f (a ∷ xs) [] n h = absurd (omega (arith, n))
same_sums f (a ∷ xs) (b ∷ ys) n h = sum_by-cons f b ys ∙ ap (λ x. x + sum_by f ys) (h 0) ∙ ap (λ x. f a + x) (same_sums f xs ys (omega (arith, n)) (λ i. h (suc i))) ∙ sym (sum_by-cons f a xs)

occurs_same : (xs ys : List (List ℕ)) (q : ℕ) → AreReordered xs ys → occurrences ys q ≡ occurrences xs q
occurs_same xs ys q o = same_sums (count_by (λ x. x == q)) xs ys o.count (λ i. sum_by-IsPermutation (λ x. cond (x == q) 1 0) (get_or xs i []) (get_or ys i []) (o.same i))

-- the cost of one more walk
pub looks_more : {L : Type 0} (at : L → ℕ) (C0 C C' chains : List (List ℕ)) (t0 t t' t'' : Assignment L) (l : L) (q looks0 looks looks' : ℕ) → Propagates at C0 t0 C t → Propagates at C t C' t' → t'.taken ≡ t.taken → Watches C chains → AreApart chains → Some l ≡ slice_get (order (waiting t)) 0 → q ≡ negation (at l) → t'' ≡ one_taken t' → t0.taken ≤ t.taken
    → looks ≤ looks0 + false_occurrences C0 (places at (drop t0.taken (take t.taken t.entries))) → looks' ≤ looks + length (chain_at chains q)
    → looks' ≤ looks0 + false_occurrences C0 (places at (drop t0.taken (take t''.taken t''.entries)))
looks_more {L} at C0 C C' chains t0 t t' t'' l q looks0 looks looks' go0 go et w apart first eq is le old new =
    let d : Entry L = record { literal = l; level = 0; reason = None } in
    let f = first_is t l d first in
    let n : ℕ = t.taken in
    let es : List (Entry L) = take n t.entries in
    let size : length es ≡ n = length-take-le n t.entries (omega (arith, f.0)) in
    let e : Entry L = get_or t.entries n d in
    let grown : take (n + 1) t'.entries ≡ es ++ e ∷ [] = sym (take-take (n + 1) (length t.entries) t'.entries (omega (arith, f.0))) ∙ ap (take (n + 1)) go.kept ∙ take_more t.entries n d f.0 in
    let now : drop t0.taken (take t''.taken t''.entries) ≡ drop t0.taken es ++ e ∷ [] = ap (λ (u : Assignment L). drop t0.taken (take u.taken u.entries)) is ∙ ap (λ m. drop t0.taken (take (m + 1) t'.entries)) et ∙ ap (drop t0.taken) grown ∙ drop-append-le t0.taken es (e ∷ []) (omega (arith, size, le)) in
    let sum : false_occurrences C0 (places at (drop t0.taken (take t''.taken t''.entries))) ≡ false_occurrences C0 (places at (drop t0.taken es)) + occurrences C0 (negation (at e.literal)) = ap (λ (xs : List (Entry L)). false_occurrences C0 (places at xs)) now ∙ ap (false_occurrences C0) (map-append (λ (x : Entry L). at x.literal) (drop t0.taken es) (e ∷ [])) ∙ sum_by_push (λ x. occurrences C0 (negation x)) (places at (drop t0.taken es)) (at e.literal) in
    let short = chain_short C chains q w apart in
    let same : occurrences C q ≡ occurrences C0 (negation (at e.literal)) = occurs_same C0 C q go0.order ∙ ap (occurrences C0) (eq ∙ ap (λ x. negation (at x)) (sym f.1)) in
    omega (arith, sum, short, same, old, new)

-- the cost of a front
pub looks_all : {L : Type 0} (at : L → ℕ) (C0 : List (List ℕ)) (n m : ℕ) (es : List (Entry L)) → false_occurrences C0 (places at (drop n (take m es))) ≤ false_occurrences C0 (places at (drop n es))
looks_all at C0 zero m es = (let a = sum_by-take-le (λ x. occurrences C0 (negation x)) (places at es) m in let b = ap (false_occurrences C0) (take-map (λ (x : Entry _). at x.literal) m es) in omega (arith, a, b))
looks_all at C0 (suc n) zero es = omega arith
looks_all at C0 (suc n) (suc m) [] = omega arith
looks_all at C0 (suc n) (suc m) (e ∷ es) = looks_all at C0 n m es

-- the cost of the whole, if no false clause ended it
pub looks_whole : {L : Type 0} (at : L → ℕ) (C0 : List (List ℕ)) (n m : ℕ) (es : List (Entry L)) → false_occurrences C0 (places at (drop n (take m es))) ≤ false_occurrences C0 (places at (drop n (take (m + 1) es)))
looks_whole at C0 n m es =
    (let a = looks_all at C0 n m (take (m + 1) es) in
    let b = ap (λ (xs : List (Entry _)). false_occurrences C0 (places at (drop n xs))) (take-take m (m + 1) es (omega arith)) in
    omega (arith, a, b))
