-- The lines of each criterion of a model.
use Rattle.std.proofs.Common.{◌≡◌, ℕ, ◌+◌, ◌<◌, ◌≤◌, List, [], ◌∷◌, ◌++◌, length, drop, Some, ap, ◌∙◌}
use Rattle.std.specs.Prelude.{slice_get}
use Rattle.std.proofs.lemmas.List.{drop_all}
use Rattle.model_core.specs.declared.model.Profile.{Profile}
use Rattle.problem_core.specs.declared.criterion.Criterion.{Criterion}
use Rattle.written_core.proofs.PutLemmas.{drop_got}
use Rattle.report_core.specs.DescribedModel.{accepted_lines, threshold_line_at}
use Rattle.report_core.specs.Text.{numbered}

-- the lines of one criterion
abbrev pub criterion_lines : ℕ → Criterion → Profile → List ℕ
criterion_lines i criterion profile = numbered (threshold_line_at i criterion.scale) 0 profile.thresholds

module _ (criteria : List Criterion) (profiles : List Profile) (i : ℕ) where
  -- the lines of the next criterion
  pub accepted_next : (criterion : Criterion) (profile : Profile) → i < length criteria → i < length profiles → slice_get criteria i ≡ Some criterion → slice_get profiles i ≡ Some profile
      → accepted_lines i (drop i criteria) (drop i profiles) ≡ criterion_lines i criterion profile ++ accepted_lines (i + 1) (drop (i + 1) criteria) (drop (i + 1) profiles)
  accepted_next criterion profile within within' is is' =
      ap (λ (cs : List Criterion). accepted_lines i cs (drop i profiles)) (drop_got criteria i criterion is)
      ∙ ap (λ (ps : List Profile). accepted_lines i (criterion ∷ drop (i + 1) criteria) ps) (drop_got profiles i profile is')

  -- no criterion is left
  pub accepted_none : length criteria ≤ i → accepted_lines i (drop i criteria) (drop i profiles) ≡ []
  accepted_none past = ap (λ (cs : List Criterion). accepted_lines i cs (drop i profiles)) (drop_all i criteria past)
