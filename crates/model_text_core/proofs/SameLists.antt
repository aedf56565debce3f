-- Lists of numbers, compared place by place.
use Rattle.std.proofs.Common.{◌≡◌, ℕ, ◌+◌, ◌<◌, ◌≤◌, Bool, true, false, ℤ, List, [], ◌∷◌, length, drop, get_or, refl, ap, ◌∙◌, arith}
use Rattle.std.specs.Prelude.{◌&&◌}
use Rattle.std.proofs.lemmas.List.{drop_all}
use Rattle.model_text_core.specs.ModelText.{is_same, all_same}
use Rattle.model_text_core.proofs.PutFacts.{drop_here}

module _ (vs ws : List ℤ) (i : ℕ) where
  same-at : (v w : ℤ) → i < length vs → v ≡ get_or vs i v → i < length ws → w ≡ get_or ws i w
      → all_same (drop i vs) (drop i ws) ≡ (is_same v w && all_same (drop (i + 1) vs) (drop (i + 1) ws))
  same-at v w inside is within at =
      ap (λ (xs : List ℤ). all_same xs (drop i ws)) (drop_here vs i v inside is) ∙ ap (λ (ys : List ℤ). all_same (v ∷ drop (i + 1) vs) ys) (drop_here ws i w within at)

  -- two numbers are the same
  pub same-more : (v w : ℤ) → i < length vs → v ≡ get_or vs i v → i < length ws → w ≡ get_or ws i w → is_same v w ≡ true
      → all_same (drop i vs) (drop i ws) ≡ all_same (drop (i + 1) vs) (drop (i + 1) ws)
  same-more v w inside is within at same =
      same-at v w inside is within at ∙ ap (λ (b : Bool). b && all_same (drop (i + 1) vs) (drop (i + 1) ws)) same

  -- they differ
  pub same-not : (v w : ℤ) → i < length vs → v ≡ get_or vs i v → i < length ws → w ≡ get_or ws i w → is_same v w ≡ false
      → all_same (drop i vs) (drop i ws) ≡ false
  same-not v w inside is within at other =
      same-at v w inside is within at ∙ ap (λ (b : Bool). b && all_same (drop (i + 1) vs) (drop (i + 1) ws)) other

  -- none is left
  pub same-end : length vs ≤ i → length ws ≤ i → all_same (drop i vs) (drop i ws) ≡ true
  same-end past over = ap (λ (xs : List ℤ). all_same xs (drop i ws)) (drop_all i vs past) ∙ ap (all_same []) (drop_all i ws over)

false-and : (b : Bool) → (b && false) ≡ false
false-and true = refl
false-and false = refl

pub other-lengths : (vs ws : List ℤ) → (length vs ≡ length ws → ⊥) → all_same vs ws ≡ false
other-lengths [] [] h = absurd (h refl)
other-lengths [] (w ∷ ws) h = refl
other-lengths (v ∷ vs) [] h = refl
other-lengths (v ∷ vs) (w ∷ ws) h = ap (λ b. is_same v w && b) (other-lengths vs ws (λ e. h (omega (arith, e)))) ∙ false-and (is_same v w)
