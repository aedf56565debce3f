-- What is known of a clause while its literals are gone through.
use Rattle.std.proofs.Common.{◌≡◌, ◌≢◌, ℕ, ◌+◌, ◌<◌, ◌≤◌, ◌&&◌, ◌==◌, Bool, true, false, List, ◌∷◌, Option, None, Some, not, length, get_or, drop, cond, sym, ◌∙◌, ap}
use Rattle.std.specs.List.{filter, list_all}
use Rattle.std.proofs.lemmas.Bool.{eq-eqb, ne_eqb, eqb-true, eqb-false, not-true, not-false}
use Rattle.std.proofs.lemmas.List.{drop_more, drop_all}
use Rattle.chain_core.specs.Chain.{after_open}

-- the result of a scan that has found a literal, or none, with these literals left
abbrev pub rest_answer : (ℕ → Bool) → Option ℕ → List ℕ → (ℕ → Bool) → Bool
rest_answer test None ls next = after_open (filter test ls) next
rest_answer test (Some l) ls next = list_all (λ x. x == l) (filter test ls) && next l

module _ (test : ℕ → Bool) (x : ℕ) (ls : List ℕ) (next : ℕ → Bool) where
  filtered : (b : Bool) → test x ≡ b → filter test (x ∷ ls) ≡ cond b (x ∷ filter test ls) (filter test ls)
  filtered b h = ap (λ b. cond b (x ∷ filter test ls) (filter test ls)) h

  -- a literal that does not pass changes nothing
  rest_skip : (found : Option ℕ) → test x ≡ false → rest_answer test found (x ∷ ls) next ≡ rest_answer test found ls next
  rest_skip None h = ap (λ os. after_open os next) (filtered false h)
  rest_skip (Some l) h = ap (λ os. list_all (λ y. y == l) os && next l) (filtered false h)

  -- the first that passes is found
  rest_first : test x ≡ true → rest_answer test None (x ∷ ls) next ≡ rest_answer test (Some x) ls next
  rest_first h = ap (λ os. after_open os next) (filtered true h)

  -- a later one is the same or ends the scan
  rest_later : (l : ℕ) (b : Bool) → test x ≡ true → (x == l) ≡ b → rest_answer test (Some l) (x ∷ ls) next ≡ ((b && list_all (λ y. y == l) (filter test ls)) && next l)
  rest_later l b h e = ap (λ os. list_all (λ y. y == l) os && next l) (filtered true h) ∙ ap (λ b. (b && list_all (λ y. y == l) (filter test ls)) && next l) e

-- a turn of the loop, which has come to literal x at this place of the stamps
module _ (stamps : List ℕ) (stamp : ℕ) (clause : List ℕ) (i x place : ℕ) (next : ℕ → Bool) (r : Bool) (lt : i < length clause) (read : x ≡ get_or clause i x) (at : place ≡ x) where
  abbrev test : ℕ → Bool
  test y = not (get_or stamps y 0 == stamp)

  abbrev later : List ℕ
  later = drop (i + 1) clause

  cut : (found : Option ℕ) → rest_answer test found (x ∷ later) next ≡ rest_answer test found (drop i clause) next
  cut found = ap (λ ls. rest_answer test found ls next) (sym (drop_more clause i x lt ∙ ap (λ y. y ∷ later) (sym read)))

  is_open : get_or stamps place 0 ≢ stamp → test x ≡ true
  is_open other = ap not (ne_eqb (get_or stamps x 0) stamp (λ e. other (ap (λ p. get_or stamps p 0) at ∙ e)))

  pub turn_skip : (found after : Option ℕ) → get_or stamps place 0 ≡ stamp → after ≡ found → rest_answer test found (drop i clause) next ≡ r → rest_answer test after later next ≡ r
  turn_skip found after marked now was =
      let out : test x ≡ false = ap not (eq-eqb (get_or stamps x 0) stamp (ap (λ p. get_or stamps p 0) (sym at) ∙ marked)) in
      ap (λ f. rest_answer test f later next) now ∙ sym (rest_skip test x later next found out) ∙ cut found ∙ was

  pub turn_first : (found after : Option ℕ) → get_or stamps place 0 ≢ stamp → found ≡ None → after ≡ Some x → rest_answer test found (drop i clause) next ≡ r → rest_answer test after later next ≡ r
  turn_first found after marked none now was =
      ap (λ f. rest_answer test f later next) now ∙ sym (rest_first test x later next (is_open marked)) ∙ cut None ∙ ap (λ f. rest_answer test f (drop i clause) next) (sym none) ∙ was

  pub turn_same : (found after : Option ℕ) (l : ℕ) → get_or stamps place 0 ≢ stamp → found ≡ Some l → after ≡ Some l → false ≡ not (l == x) → rest_answer test found (drop i clause) next ≡ r → rest_answer test after later next ≡ r
  turn_same found after l marked some now same was =
      let equal : (x == l) ≡ true = eq-eqb x l (sym (eqb-true l x (not-false (l == x) (sym same)))) in
      ap (λ f. rest_answer test f later next) now ∙ sym (rest_later test x later next l true (is_open marked) equal) ∙ cut (Some l) ∙ ap (λ f. rest_answer test f (drop i clause) next) (sym some) ∙ was

  pub turn_other : (found : Option ℕ) (l : ℕ) → get_or stamps place 0 ≢ stamp → found ≡ Some l → true ≡ not (l == x) → rest_answer test found (drop i clause) next ≡ r → r ≡ false
  turn_other found l marked some other was =
      let differ : (x == l) ≡ false = ne_eqb x l (λ e. eqb-false l x (not-true (l == x) (sym other)) (sym e)) in
      sym was ∙ ap (λ f. rest_answer test f (drop i clause) next) some ∙ sym (cut (Some l)) ∙ rest_later test x later next l false (is_open marked) differ

pub rest_end : (stamps : List ℕ) (stamp : ℕ) (found : Option ℕ) (clause : List ℕ) (i l : ℕ) (next : ℕ → Bool) (r : Bool) → length clause ≤ i → found ≡ Some l → rest_answer (λ y. not (get_or stamps y 0 == stamp)) found (drop i clause) next ≡ r → r ≡ next l
rest_end stamps stamp found clause i l next r done some was =
    let test : ℕ → Bool = λ y. not (get_or stamps y 0 == stamp) in
    sym was ∙ ap (λ f. rest_answer test f (drop i clause) next) some ∙ ap (λ ls. rest_answer test (Some l) ls next) (drop_all i clause done)
