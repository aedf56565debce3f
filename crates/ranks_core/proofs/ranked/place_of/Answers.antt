use Rattle.std.proofs.Common.{not, rules}
use Rattle.std.proofs.lemmas.List.Sorted.{IsPartitionPoint-from_clause}
use Rattle.sorting_rule.specs.Preference.{is_as_good}
use Rattle.problem_core.specs.Grade.{direction_of}
use Rattle.ranks_core.proofs.RankedFacts.{worse_first, place_is}
use Rattle.ranks_core.proofs.ranked.place_of.Goals as goal

pub returns-clause-value : goal.returns-clause-value
returns-clause-value c =
    let d = direction_of c.args.scale.now in
    let point = IsPartitionPoint-from_clause (λ y. not (is_as_good (direction_of c.args.scale.now) y c.args.grade)) c.args.ranked.now c.partition_point.result c.partition_point.ensures.partitioned
    (worse_first d c.args.ranked.now c.args.grade c.requires) (λ a r q k. search rules) in
    place_is d c.args.ranked.now c.args.grade c.partition_point.result c.partition_point.ensures.bound point
