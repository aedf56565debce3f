-- The weight of a set, weight by weight.
use Rattle.std.proofs.Common.{◌≡◌, ℕ, ◌+◌, ◌/◌, ◌%◌, ◌<◌, ◌≤◌, ◌==◌, Bool, true, false, if◌then◌else◌, ℤ, pos, negsuc, List, [], ◌∷◌, length, get_or, drop, refl, sym, ap, ◌∙◌, arith}
use Rattle.std.specs.Prelude.{◌+ℤ◌, int_lt, unsigned_abs, All}
use Rattle.std.proofs.lemmas.List.{at_drop_all, at_drop_more}
use Rattle.std.proofs.lemmas.List.Elements.{All-head, All-tail}
use Rattle.sorting_rule.specs.Coalition.{weight_of}

-- not negative
abbrev pub IsPlain : ℤ → Type 0
IsPlain w = int_lt w (pos 0) ≡ false

-- the sum of the weights of the set's criteria, without signs
abbrev pub magnitude_of : List ℤ → ℕ → ℕ
magnitude_of [] set = 0
magnitude_of (w ∷ ws) set = (if set % 2 == 1 then unsigned_abs w else 0) + magnitude_of ws (set / 2)

-- a number that isn't negative
without_sign : (w : ℤ) → int_lt w (pos 0) ≡ false → w ≡ pos (unsigned_abs w)
without_sign (pos n) h = refl
without_sign (negsuc n) h = absurd cc

counted-is : (w : ℤ) (b : Bool) → int_lt w (pos 0) ≡ false → (if b then w else pos 0) ≡ pos (if b then unsigned_abs w else 0)
counted-is w true h = without_sign w h
counted-is w false h = refl

pub weight-magnitude : (ws : List ℤ) (set : ℕ) → All IsPlain ws → weight_of ws set ≡ pos (magnitude_of ws set)
weight-magnitude [] set good = refl
weight-magnitude (w ∷ ws) set good =
    ap (λ z. z +ℤ weight_of ws (set / 2)) (counted-is w (set % 2 == 1) (All-head IsPlain w ws good))
    ∙ ap (λ z. pos (if set % 2 == 1 then unsigned_abs w else 0) +ℤ z) (weight-magnitude ws (set / 2) (All-tail IsPlain w ws good))

-- all weights were counted
pub weight-whole : (ws : List ℤ) (set total rest i : ℕ) → All IsPlain ws → total + magnitude_of (drop i ws) rest ≡ magnitude_of ws set → length ws ≤ i → pos total ≡ weight_of ws set
weight-whole ws set total rest i good sum past =
    let none : magnitude_of (drop i ws) rest ≡ 0 = at_drop_all (λ (xs : List ℤ). magnitude_of xs rest) ws i past in
    let whole : total ≡ magnitude_of ws set = omega (arith, none, sum) in
    ap pos whole ∙ sym (weight-magnitude ws set good)

-- one more weight
pub magnitude-more : (ws : List ℤ) (set i : ℕ) (w : ℤ) → i < length ws → w ≡ get_or ws i w
    → magnitude_of (drop i ws) set ≡ (if set % 2 == 1 then unsigned_abs w else 0) + magnitude_of (drop (i + 1) ws) (set / 2)
magnitude-more ws set i w within is =
    at_drop_more (λ (xs : List ℤ). magnitude_of xs set) ws i w within ∙ ap (λ x. magnitude_of (x ∷ drop (i + 1) ws) set) (sym is)
