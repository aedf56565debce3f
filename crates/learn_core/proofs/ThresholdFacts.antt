-- The least grade that passes, place by place.
use Rattle.std.proofs.Common.{◌≡◌, ℕ, ◌+◌, ◌*◌, ◌^◌, ◌<◌, ◌≤◌, ℤ, pos, Bool, true, false, cond, Option, None, Some, List, [], length, get_or, drop, slice_get, sym, ap, ◌∙◌, arith, add-one}
use Rattle.std.proofs.Math.Nat.{mul-add}
use Rattle.std.proofs.lemmas.Nat.{mul-le, pow_below}
use Rattle.std.proofs.lemmas.List.{drop_more, drop_all, length-drop}
use Rattle.std.proofs.lemmas.Option.{get_or_from_slice_get, slice_get_within}
use Rattle.sorting_rule.specs.Coalition.{mask_of}
use Rattle.sorting_rule.proofs.MaskFacts.{mask_below}
use Rattle.encoding_rules.specs.Each.{total}
use Rattle.encoding_rules.specs.Rebuilt.{first_passing}
use Rattle.ranks_core.specs.Ranks.{RanksValue}
use Rattle.search_core.specs.Values.{value_at}
use Rattle.learn_core.specs.Numbers.{flag_in}

module _ (f : ℕ → Bool) (ys : List ℤ) where
  pub passing_next : (k : ℕ) → k < length ys → f k ≡ false → first_passing f 0 ys ≡ first_passing f k (drop k ys) → first_passing f 0 ys ≡ first_passing f (k + 1) (drop (k + 1) ys)
  passing_next k lt no' so =
      so ∙ ap (first_passing f k) (drop_more ys k (pos 0) lt) ∙ ap (λ c. cond c (Some (get_or ys k (pos 0))) (first_passing f (k + 1) (drop (k + 1) ys))) no'

  pub passing_here : (k : ℕ) (y : ℤ) → f k ≡ true → slice_get ys k ≡ Some y → first_passing f 0 ys ≡ first_passing f k (drop k ys) → Some y ≡ first_passing f 0 ys
  passing_here k y yes' at so =
      let some : ℤ → Option ℤ = λ z. Some z in
      sym (so ∙ ap (first_passing f k) (drop_more ys k y (slice_get_within ys k y at)) ∙ ap (λ c. cond c (Some (get_or ys k y)) (first_passing f (k + 1) (drop (k + 1) ys))) yes'
      ∙ ap some (get_or_from_slice_get ys k y y at))

  pub passing_end : (k : ℕ) → length ys ≤ k → first_passing f 0 ys ≡ first_passing f k (drop k ys) → None ≡ first_passing f 0 ys
  passing_end k le so = sym (so ∙ ap (first_passing f k) (drop_all k ys le))

-- a boundary's place, or a number of boundaries, times a number of grades
pub small_product : (b c : ℕ) → b ≤ 9 → c < 2 ^ 32 → b * c ≤ 38654705664
small_product b c lb lc = let le : b * c ≤ 9 * 4294967296 = mul-le b c 9 4294967296 lb (omega (arith, lc)) in omega (arith, le)

pub scaled_more : (b : ℕ) (f : ℕ → ℕ) (i : ℕ) → b * total f (i + 1) ≡ b * total f i + b * f i
scaled_more b f i = ap (λ n. b * total f n) (add-one i) ∙ mul-add b (total f i) (f i)

-- one more criterion in front of a set
pub mask_more : (flags : List Bool) (i set next : ℕ) (flag : Bool) → i < length flags → flag ≡ get_or flags i false → set ≡ mask_of (drop (i + 1) flags) → next ≡ cond flag 1 0 + 2 * set → next ≡ mask_of (drop i flags)
mask_more flags i set next flag lt is so e =
    e ∙ ap (λ n. cond flag 1 0 + 2 * n) so ∙ ap (λ b. cond b 1 0 + 2 * mask_of (drop (i + 1) flags)) is ∙ sym (ap mask_of (drop_more flags i false lt))

-- a set of at most 16 criteria is small
pub mask_small : (flags : List Bool) (i : ℕ) → length flags ≤ 16 → mask_of (drop i flags) < 2147483648
mask_small flags i few =
    let below = mask_below (drop i flags) in
    let size = length-drop i flags in
    let wide : 2 ^ length (drop i flags) < 2 ^ 17 = pow_below (length (drop i flags)) 17 (omega (arith, size, few)) in
    omega (arith, below, wide)

-- a flag that is read by the numbers of its unknown
pub flag_read : (values : List Bool) (firsts : List ℕ) (ranks : RanksValue) (place row i count r : ℕ) (flag : Bool) → count ≡ length (get_or ranks.grades i []) → slice_get (get_or ranks.places i []) row ≡ Some r
    → flag ≡ value_at values (get_or firsts i 0 + place * count + r) → flag ≡ flag_in values firsts ranks place row i
flag_read values firsts ranks place row i count r flag is at e =
    e ∙ ap (λ m. value_at values (get_or firsts i 0 + place * m + r)) is
    ∙ ap (λ k. value_at values (get_or firsts i 0 + place * length (get_or ranks.grades i []) + k)) (sym (get_or_from_slice_get (get_or ranks.places i []) row r 0 at))
