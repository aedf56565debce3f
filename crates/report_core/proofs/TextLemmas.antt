-- Texts with a piece for each item.
use Rattle.std.proofs.Common.{◌≡◌, ℕ, ◌+◌, ◌<◌, ◌≤◌, List, [], ◌++◌, length, drop, Some, ap}
use Rattle.std.specs.Prelude.{slice_get}
use Rattle.std.proofs.lemmas.List.{drop_all}
use Rattle.written_core.proofs.PutLemmas.{drop_got}
use Rattle.report_core.specs.Text.{numbered}

module _ {A : Type 0} (text : ℕ → A → List ℕ) (items : List A) (k : ℕ) where
  -- the next item's text, and those of the items after it
  pub numbered_next : (item : A) → k < length items → slice_get items k ≡ Some item → numbered text k (drop k items) ≡ text k item ++ numbered text (k + 1) (drop (k + 1) items)
  numbered_next item within is = ap (numbered text k) (drop_got items k item is)

  -- no item is left
  pub numbered_none : length items ≤ k → numbered text k (drop k items) ≡ []
  numbered_none past = ap (numbered text k) (drop_all k items past)
