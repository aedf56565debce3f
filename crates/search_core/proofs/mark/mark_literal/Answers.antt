use Rattle.std.proofs.Common.{◌<◌, ◌∙◌, sym, rules, arith, length}
use Rattle.search_core.specs.Analysis.{HasMark}
use Rattle.search_core.proofs.MarkLemmas.{marked_lower, unmarked_entry, read_mark}
use Rattle.search_core.proofs.mark.mark_literal.Goals as goal

pub returns-clause-marked : goal.returns-clause-marked
returns-clause-marked c =
    let inside : c.variable-variable.result < length c.args.stamps.now.items = omega (arith, c.requires.inside, c.requires.size, c.variable-variable.ensures) in
    let fresh : ¬ HasMark c.args.stamps.now.items c.args.stamp c.args.literal = (λ h. c.if-index-stamp.false (sym (read_mark c.args.stamps.now.items c.variable-variable.result c.index.result.now c.args.literal c.index.ensures c.variable-variable.ensures inside) ∙ h)) in
    marked_lower c.args.trail.now c.args.stamps.now.items _ c.args.lower.now.items c.push.new.self.items c.args.stamp c.variable-variable.result c.args.literal c.level_of.result c.requires.trail c.requires.marked
    (unmarked_entry c.args.trail.now c.args.stamps.now.items c.args.stamp c.args.literal c.requires.out fresh) fresh c.level_of.ensures (search rules) c.variable-variable.ensures inside (omega (arith, c.if-level_of-level.false, c.level.ensures.value)) c.in_ok-push.ensures.items
