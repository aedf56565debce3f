-- The laws.
use Rattle.std.proofs.Common.{◌≡◌, ℕ, ℤ, List, Bool}
use Rattle.std.specs.List.{Contains}
use Rattle.std.proofs.lemmas.List.Elements.{All-contains, All-contains_itself}
use Rattle.sorting_rule.specs.Preference.{Direction}
use Rattle.sorting_rule.specs.Coalition.{roots}
use Rattle.std.specs.Prelude.{replicate}
use Rattle.encoding_rules.specs.Task.{Task, IsTask, boundaries}
use Rattle.encoding_rules.specs.Ranks.{ranking, IsRanking}
use Rattle.encoding_rules.specs.Meaning.{IsNested, SetsApart}
use Rattle.encoding_rules.specs.Rebuilt.{rebuilt_profiles, rebuilt}
use Rattle.sorting_rule.specs.Rebuilt.{own_sets, AreMinimal, Learns}
use Rattle.encoding_rules.proofs.RankFacts.{ranking_rises, ranking_has, ranking_all, rising_same}
use Rattle.encoding_rules.proofs.Restore.{rebuilt_ordered, rebuilt_form, rebuilt_restores}

pub IsRanking-ranking : (d : Direction) (xs : List ℤ) → IsRanking d xs (ranking d xs)
IsRanking-ranking d xs = record {
  rises = ranking_rises d xs;
  same = λ x. ((λ among. All-contains (Contains xs) (ranking d xs) x (ranking_all d (Contains xs) xs (All-contains_itself xs)) among), (λ among. ranking_has d x xs among));
}

pub learns : (task : Task) → IsTask task → (values : ℕ → Bool) → IsNested task values → SetsApart task values → (rs : List ℕ) → AreMinimal (own_sets (rebuilt_profiles task values) task.examples) rs
    → Learns task.examples (rebuilt task values rs)
learns task fits values nest sets rs minimal = record {
  ordered = rebuilt_ordered task fits values nest (replicate (boundaries task) (roots rs));
  form = rebuilt_form task fits values nest sets rs minimal;
  restores = rebuilt_restores task fits values nest sets rs minimal;
}

pub IsRanking-only : (d : Direction) (xs ranked : List ℤ) → IsRanking d xs ranked → ranked ≡ ranking d xs
IsRanking-only d xs ranked is = rising_same d ranked (ranking d xs) is.rises (ranking_rises d xs)
    (λ z. ((λ among. ranking_has d z xs ((is.same z).0 among)), (λ among. (is.same z).1 (All-contains (Contains xs) (ranking d xs) z (ranking_all d (Contains xs) xs (All-contains_itself xs)) among))))
