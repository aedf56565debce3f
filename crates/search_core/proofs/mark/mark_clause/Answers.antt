use Rattle.std.proofs.Common.{take, sym, ◌∙◌, subst}
use Rattle.search_core.specs.Analysis.{HasMark, IsFalseOrMarked}
use Rattle.search_core.proofs.ListLemmas.{all_map, all_more, all_taken}
use Rattle.search_core.proofs.MarkLemmas.{grows_trans, still_out}
use Rattle.search_core.proofs.mark.mark_clause.Goals as goal

pub mark_literal-requires-clause-out : goal.mark_literal-requires-clause-out
mark_literal-requires-clause-out c = still_out c.args.trail.now c.args.stamps.now.items c.loop-literal.stamps.items c.args.lower.now.items c.loop-literal.lower.items c.args.stamp c.literal-item.result c.loop-literal.invariant.grows
    (subst (IsFalseOrMarked c.args.trail.now c.args.stamps.now.items c.args.stamp) (sym c.literal-item.is) (c.requires.out c.loop-literal.literal-index c.literal-item.result c.loop-literal-test.true))

pub loop-literal-preserved : goal.loop-literal-preserved
loop-literal-preserved c = record {
  size = c.mark_literal.ensures.size ∙ c.loop-literal.invariant.size;
  old = c.mark_literal.ensures.old;
  marked = c.in_ok-mark_literal.ensures.marked;
  all = all_more (HasMark c.mark_literal.new.stamps.items c.args.stamp) c.args.clause.now c.loop-literal.literal-index c.literal-item.result c.loop-literal-test.true c.literal-item.is
      (all_map (HasMark c.loop-literal.stamps.items c.args.stamp) (HasMark c.mark_literal.new.stamps.items c.args.stamp) (take c.loop-literal.literal-index c.args.clause.now) (λ x h. c.in_ok-mark_literal.ensures.grows.marks x h) c.loop-literal.invariant.all)
      c.in_ok-mark_literal.ensures.mark;
  grows = grows_trans c.args.stamps.now.items c.loop-literal.stamps.items c.mark_literal.new.stamps.items c.args.lower.now.items c.loop-literal.lower.items c.mark_literal.new.lower.items c.args.stamp c.loop-literal.invariant.grows c.in_ok-mark_literal.ensures.grows;
}

pub returns-clause-all : goal.returns-clause-all
returns-clause-all c = all_taken (HasMark c.loop-literal.stamps.items c.args.stamp) c.args.clause.now c.loop-literal.literal-index c.loop-literal-test.false c.loop-literal.invariant.all
