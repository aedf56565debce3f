-- A text that is appended piece by piece, and items that are appended one by one.
use Rattle.std.proofs.Common.{◌≡◌, ℕ, zero, suc, ◌+◌, ◌<◌, ◌≤◌, List, [], ◌∷◌, ◌++◌, length, take, drop, refl, sym, ap, subst, ◌∙◌, arith, append_assoc, append-nil, Some}
use Rattle.std.specs.Prelude.{Result, IsErr, All, slice_get}
use Rattle.std.specs.List.{flat_map}
use Rattle.std.proofs.lemmas.List.{drop_all, take_more}
use Rattle.std.proofs.lemmas.List.Elements.{All-push}
use Rattle.std.proofs.lemmas.Option.{get_or_from_slice_get}
use Rattle.lists_core.specs.Puts.{Puts}
use Rattle.lists_core.proofs.PutsFacts.{puts-then, puts-cut, puts-failed}

-- the first of two parts was cut short
pub first-cut : {T E : Type 0} (old new first more : List ℕ) (r : Result T E) → IsErr r → (k : ℕ) × (new ≡ old ++ take k first) → Puts old new r (first ++ more)
first-cut old new first more r failed part = puts-failed old new (first ++ more) r failed (puts-cut old new first more part)

-- of a whole text the front was appended, and this is left
pub record IsPut (old new whole left : List ℕ) : Type 0 where
  pub front : List ℕ
  pub put : new ≡ old ++ front
  pub split : whole ≡ front ++ left

-- nothing was appended yet
pub put-none : (old whole : List ℕ) → IsPut old old whole whole
put-none old whole = record { front = []; put = sym (append-nil old); split = refl }

-- one more piece
pub put-more : (old mid new whole left piece more : List ℕ) → IsPut old mid whole left → left ≡ piece ++ more → new ≡ mid ++ piece → IsPut old new whole more
put-more old mid new whole left piece more so is now = record {
  front = so.front ++ piece;
  put = now ∙ ap (λ (t : List ℕ). t ++ piece) so.put ∙ append_assoc old so.front piece;
  split = so.split ∙ ap (λ (t : List ℕ). so.front ++ t) is ∙ sym (append_assoc so.front piece more);
}

-- all that was left
pub put-last : {T E : Type 0} (old mid new whole left : List ℕ) (r : Result T E) → IsPut old mid whole left → Puts mid new r left → Puts old new r whole
put-last old mid new whole left r so last =
    subst (Puts old new r) (sym so.split) (puts-then old mid so.front so.put new left r last)

-- a piece that was cut short
pub put-cut : {T E : Type 0} (old mid new whole left piece more : List ℕ) (r : Result T E) → IsErr r → IsPut old mid whole left → left ≡ piece ++ more
    → (k : ℕ) × (new ≡ mid ++ take k piece) → Puts old new r whole
put-cut old mid new whole left piece more r failed so is part =
    put-last old mid new whole left r so (subst (Puts mid new r) (sym is) (first-cut mid new piece more r failed part))

-- nothing is left
pub put-all : (old new whole left : List ℕ) → IsPut old new whole left → left ≡ [] → new ≡ old ++ whole
put-all old new whole left so none =
    so.put ∙ ap (λ (t : List ℕ). old ++ t) (sym (append-nil so.front) ∙ ap (λ (t : List ℕ). so.front ++ t) (sym none) ∙ sym so.split)

-- the same text by an equation
pub puts-as : {T E : Type 0} (old new : List ℕ) (r : Result T E) (a b : List ℕ) → a ≡ b → Puts old new r b → Puts old new r a
puts-as old new r a b e h = subst (Puts old new r) (sym e) h

-- ---- items

module _ {X : Type 0} (xs : List X) (i : ℕ) where
  -- one more item of which a fact holds
  pub all-more : (P : X → Type 0) (x : X) → All P (take i xs) → i < length xs → slice_get xs i ≡ Some x → P x → All P (take (i + 1) xs)
  all-more P x before within there holds =
      let more : take (i + 1) xs ≡ take i xs ++ x ∷ [] = take_more xs i x within ∙ ap (λ y. take i xs ++ y ∷ []) (get_or_from_slice_get xs i x x there) in
      subst (All P) (sym more) (All-push P (take i xs) x before holds)

-- what is left of a list from the place of an item on
pub drop_got : {X : Type 0} (xs : List X) (i : ℕ) (x : X) → slice_get xs i ≡ Some x → drop i xs ≡ x ∷ drop (i + 1) xs
drop_got [] i x h = absurd (cc)
drop_got (y ∷ ys) zero x h = let same : y ≡ x = cc in ap (λ z. z ∷ ys) same
drop_got (y ∷ ys) (suc i) x h = let next : suc i + 1 ≡ suc (i + 1) = omega arith in drop_got ys i x h ∙ ap (λ k. x ∷ drop k (y ∷ ys)) (sym next)

module _ {X : Type 0} (text_of : X → List ℕ) (xs : List X) (i : ℕ) where
  -- the text of an item, and what is left behind it
  pub texts-item : (x : X) → slice_get xs i ≡ Some x → flat_map text_of (drop i xs) ≡ text_of x ++ flat_map text_of (drop (i + 1) xs)
  texts-item x there = ap (flat_map text_of) (drop_got xs i x there)

  pub texts-end : length xs ≤ i → flat_map text_of (drop i xs) ≡ []
  texts-end past = ap (flat_map text_of) (drop_all i xs past)
