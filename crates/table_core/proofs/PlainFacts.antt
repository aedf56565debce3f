-- Bytes that call for quotes, among eight of them and in a text.
use Rattle.std.proofs.Common.{◌≡◌, ℕ, ◌+◌, ◌*◌, ◌++◌, List, [], ◌∷◌, length, get_or, take, drop, length-append, map, Bool, true, false, not, ◌||◌, nat_eq, refl, sym, ap, ◌∙◌, inl, inr, append_assoc, arith, vec_len, vec_capacity}
use Rattle.std.specs.Global.{Global}
use Rattle.std.specs.Prelude.{Vec}
use Rattle.std.specs.List.{list_any}
use Rattle.std.specs.Simd.Lanes.{mask_l}
use Rattle.std.proofs.lemmas.Bool.{cases_Bool}
use Rattle.std.proofs.lemmas.List.{take-append-drop}
use Rattle.std.proofs.lemmas.List.Folds.{list_any-append}
use Rattle.std.proofs.lemmas.Bool.Decides.{nat_tests}
use Rattle.table_core.specs.Written.{is_special}

one_more : (m : ℕ) → nat_eq (1 + 2 * m) 0 ≡ false
one_more m = grind (arith, nat_tests)

none_more : (m : ℕ) → nat_eq (0 + 2 * m) 0 ≡ nat_eq m 0
none_more m = grind (arith, nat_tests)

-- a mask is not 0 exactly if some item passes
pub mask-any : {X : Type 0} (p : X → Bool) (xs : List X) → not (nat_eq (mask_l (map p xs)) 0) ≡ list_any p xs
mask-any p [] = refl
mask-any p (x ∷ xs) =
    elim (cases_Bool (p x)) [
      | inl passes ↦ rw (passes, one_more (mask_l (map p xs))) refl
      | inr fails ↦ rw (fails, none_more (mask_l (map p xs))) (mask-any p xs)
    ]

or-swap : (a b c d : Bool) → (a || b) || (c || d) ≡ (a || c) || (b || d)
or-swap true b c d = refl
or-swap false true true d = refl
or-swap false true false d = refl
or-swap false false c d = refl

-- an item passes one of two tests
pub any-or : {X : Type 0} (p q : X → Bool) (xs : List X) → list_any p xs || list_any q xs ≡ list_any (λ x. p x || q x) xs
any-or p q [] = refl
any-or p q (x ∷ xs) = or-swap (p x) (list_any p xs) (q x) (list_any q xs) ∙ ap (λ b. (p x || q x) || b) (any-or p q xs)

-- eight bytes, listed
pub eight : (bs : List ℕ) → length bs ≡ 8 → get_or bs 0 0 ∷ get_or bs 1 0 ∷ get_or bs 2 0 ∷ get_or bs 3 0 ∷ get_or bs 4 0 ∷ get_or bs 5 0 ∷ get_or bs 6 0 ∷ get_or bs 7 0 ∷ [] ≡ bs
eight (a ∷ b ∷ c ∷ d ∷ e ∷ f ∷ g ∷ h ∷ []) n = refl
eight [] n = absurd (omega (arith, n))
eight (a ∷ []) n = absurd (omega (arith, n))
eight (a ∷ b ∷ []) n = absurd (omega (arith, n))
eight (a ∷ b ∷ c ∷ []) n = absurd (omega (arith, n))
eight (a ∷ b ∷ c ∷ d ∷ []) n = absurd (omega (arith, n))
eight (a ∷ b ∷ c ∷ d ∷ e ∷ []) n = absurd (omega (arith, n))
eight (a ∷ b ∷ c ∷ d ∷ e ∷ f ∷ []) n = absurd (omega (arith, n))
eight (a ∷ b ∷ c ∷ d ∷ e ∷ f ∷ g ∷ []) n = absurd (omega (arith, n))
eight (a ∷ b ∷ c ∷ d ∷ e ∷ f ∷ g ∷ h ∷ i ∷ rest) n = absurd (omega (arith, n))

-- The bytes of a field before its rest were appended to a text. None of them calls for quotes.
pub record IsPushed (field rest : List ℕ) (old new : Vec ℕ Global) : Type 0 where
  pub done : List ℕ
  pub parts : field ≡ done ++ rest
  pub text : new.items ≡ old.items ++ done
  pub plain : list_any is_special done ≡ false
  pub len : vec_len new ≡ vec_len old + length done
  pub room : vec_capacity new ≡ vec_capacity old

-- eight bytes more
pub pushed-more : (field rest more block : List ℕ) (old cur new : Vec ℕ Global) → IsPushed field rest old cur → block ≡ take 8 rest → more ≡ drop 8 rest → length more + 8 ≡ length rest
    → list_any is_special block ≡ false → new.items ≡ cur.items ++ block → vec_len new ≡ vec_len cur + 8 → vec_capacity new ≡ vec_capacity cur → IsPushed field more old new
pushed-more field rest more block old cur new h first after eight plain items len room =
    let parts : rest ≡ block ++ more = rw (first, after) (sym (take-append-drop 8 rest)) in
    let count : length block + length more ≡ length rest = sym (length-append block more) ∙ ap length (sym parts) in
    record {
      done = h.done ++ block;
      parts = h.parts ∙ ap (λ t. h.done ++ t) parts ∙ sym (append_assoc h.done block more);
      text = items ∙ ap (λ t. t ++ block) h.text ∙ append_assoc old.items h.done block;
      plain = rw (list_any-append is_special h.done block, h.plain) plain;
      len = omega (arith, len, h.len, length-append h.done block, count, eight);
      room = room ∙ h.room;
    }
