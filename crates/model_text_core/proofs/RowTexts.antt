-- Rows of criteria, one by one.
use Rattle.std.proofs.Common.{◌≡◌, ℕ, zero, suc, ◌+◌, List, [], ◌∷◌, ◌++◌, drop, ap, ◌∙◌, subst, Some, Ok, Err}
use Rattle.std.specs.Prelude.{All, OnOk, Result, slice_get}
use Rattle.std.specs.List.{AllZip}
use Rattle.problem_core.specs.declared.criterion.Criterion.{Criterion}
use Rattle.model_core.specs.Model.{IsThreshold}
use Rattle.model_core.specs.declared.model.Profile.{Profile}
use Rattle.written_core.proofs.PutLemmas.{drop_got}
use Rattle.model_text_core.specs.ModelText.{HasUtf8Names}
use Rattle.model_text_core.specs.Parts.{thresholds_text, accepted_text}

-- what holds is said of an accepted result
pub on-ok : {T E : Type 0} (r : Result T E) (P : Type 0) → P → OnOk r P
on-ok (Ok x) P holds = holds
on-ok (Err e) P holds = tt

pub accepted-step : (criteria : List Criterion) (rows : List Profile) (i : ℕ) (c : Criterion) (p : Profile) → slice_get criteria i ≡ Some c → slice_get rows i ≡ Some p
    → accepted_text (drop i criteria) (drop i rows) ≡ thresholds_text c.scale p.thresholds ++ accepted_text (drop (i + 1) criteria) (drop (i + 1) rows)
accepted-step criteria rows i c p h g =
    ap (λ xs. accepted_text xs (drop i rows)) (drop_got criteria i c h) ∙ ap (λ ys. accepted_text (c ∷ drop (i + 1) criteria) ys) (drop_got rows i p g)

pub got-threshold : (criteria : List Criterion) (rows : List Profile) (i : ℕ) (c : Criterion) (p : Profile)
    → AllZip (λ criterion row. All (IsThreshold criterion.scale) row.thresholds) criteria rows → slice_get criteria i ≡ Some c → slice_get rows i ≡ Some p → All (IsThreshold c.scale) p.thresholds
got-threshold [] rows i c p all h g = absurd (cc)
got-threshold (x ∷ xs) [] i c p all h g = absurd all
got-threshold (x ∷ xs) (y ∷ ys) zero c p all h g =
    let same : x ≡ c = cc in
    let same_row : y ≡ p = cc in
    subst (λ z. All (IsThreshold c.scale) z.thresholds) same_row (subst (λ z. All (IsThreshold z.scale) y.thresholds) same all.0)
got-threshold (x ∷ xs) (y ∷ ys) (suc i) c p all h g = got-threshold xs ys i c p all.1 h g

-- the names of a criterion are UTF-8
abbrev pub IsUtf8Criterion : Criterion → Type 0
IsUtf8Criterion c = HasUtf8Names c.scale
