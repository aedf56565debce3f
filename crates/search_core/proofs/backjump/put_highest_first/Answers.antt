use Rattle.std.proofs.Common.{◌∙◌, sym, arith}
use Rattle.std.proofs.lemmas.List.Sorted.{All-permutation}
use Rattle.search_core.specs.Analysis.{IsLower}
use Rattle.search_core.proofs.LearnLemmas.{lower_inside, swapped_highest}
use Rattle.search_core.proofs.backjump.put_highest_first.Goals as goal

pub level_of-requires : goal.level_of-requires
level_of-requires c =
    let lows = All-permutation (IsLower c.args.trail.now) c.args.lower.now c.swap.new.self c.swap.ensures.permutation c.requires.lows in
    let v = lower_inside c.args.trail.now c.swap.new.self 0 c.index-lower-0.result c.requires.trail lows (omega (arith, c.swap.ensures.len, c.highest_place-highest.ensures.known)) c.index-lower-0.is in
    omega (arith, v, c.variable.ensures)

pub returns-clause-level : goal.returns-clause-level
returns-clause-level c = swapped_highest c.args.trail.now c.args.lower.now c.swap.new.self c.highest_place-highest.result c.index-lower-0.result c.level_of.result c.requires.trail c.requires.lows c.highest_place-highest.ensures.known c.highest_place-highest.ensures.most c.swap.ensures.after c.swap.ensures.permutation c.index-lower-0.is
    (λ i d lt same. c.level_of.ensures i d lt (same ∙ sym c.variable.ensures))
