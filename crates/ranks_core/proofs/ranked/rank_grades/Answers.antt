use Rattle.std.proofs.Common.{int_eq, rules}
use Rattle.std.proofs.lemmas.List.Filters.{dedup_is}
use Rattle.std.proofs.lemmas.Fn.{always_returns_same}
use Rattle.problem_core.specs.Grade.{direction_of}
use Rattle.ranks_core.proofs.RankedFacts.{is_worse, worse_orders, sorted_once}
use Rattle.ranks_core.proofs.ranked.rank_grades.Goals as goal

pub returns-clause-ranked : goal.returns-clause-ranked
returns-clause-ranked c =
    let d = direction_of c.args.scale.now in
    sorted_once d c.args.grades.now.items c.sort_unstable_by.new.self.items c.dedup.new.self.items c.sort_unstable_by.ensures.permutation
    (c.sort_unstable_by.ensures.sorted (is_worse d) (worse_orders d) (always_returns_same _ _ _ (λ a r q k. search rules)))
    (dedup_is int_eq c.sort_unstable_by.new.self.items c.dedup.new.self.items c.dedup.ensures.filtered)
