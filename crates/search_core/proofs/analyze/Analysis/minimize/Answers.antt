use Rattle.std.proofs.Common.{◌∙◌}
use Rattle.search_core.proofs.analyze.Analysis.minimize.Goals as goal

pub loop-k-preserved : goal.loop-k-preserved
loop-k-preserved g c = record {
  few = c.in_ok-leave_out.ensures.few;
  size = c.leave_out.ensures.size ∙ c.loop-k.invariant.size;
  old = c.leave_out.ensures.old;
  stamp = c.leave_out.ensures.stamp ∙ c.loop-k.invariant.stamp;
  marked = c.in_ok-leave_out.ensures.marked;
  explained = λ point start. c.in_ok-leave_out.ensures.explained point (c.loop-k.invariant.explained point start);
}
