-- Lists that grow by one item at a time.
use Rattle.std.proofs.Common.{◌≡◌, ℕ, ◌+◌, ◌<◌, List, [], ◌∷◌, ◌++◌, length, get_or, take, sym, ap, ◌∙◌, subst, add-one}
use Rattle.std.specs.List.{AllZip}
use Rattle.std.proofs.lemmas.List.{take_more}
use Rattle.std.proofs.lemmas.Slice.Zip.{all_zipped_more}
use Rattle.problem_core.specs.declared.criterion.Criterion.{Criterion}
use Rattle.encoding_rules.specs.Each.{listed}
use Rattle.draw_core.specs.Choice.{no_criterion}

-- the next value is put last
pub listed-push : {A : Type 0} (f : ℕ → A) (n : ℕ) (xs ys : List A) (x : A) → ys ≡ xs ++ x ∷ [] → xs ≡ listed f n → x ≡ f n → ys ≡ listed f (n + 1)
listed-push f n xs ys x pushed so_far is = pushed ∙ ap (λ zs. zs ++ x ∷ []) so_far ∙ ap (λ y. listed f n ++ y ∷ []) is ∙ ap (listed f) (sym (add-one n))

-- one more criterion beside its item
pub zip-more : {B : Type 0} (R : Criterion → B → Type 0) (criteria : List Criterion) (items : List B) (i : ℕ) (item : B) → i < length criteria
    → AllZip R (take i criteria) items → R (get_or criteria i no_criterion) item → AllZip R (take (i + 1) criteria) (items ++ item ∷ [])
zip-more R criteria items i item lt each here =
    subst (λ cs. AllZip R cs (items ++ item ∷ [])) (sym (take_more criteria i no_criterion lt))
    (all_zipped_more R (take i criteria) items (get_or criteria i no_criterion) item each here)
