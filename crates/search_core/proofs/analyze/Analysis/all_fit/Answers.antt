use Rattle.std.proofs.Common.{sym, subst}
use Rattle.std.proofs.lemmas.Bool.{OnTrue_at}
use Rattle.search_core.specs.Analysis.{Fits, IsFalseOrOpposite}
use Rattle.search_core.proofs.ListLemmas.{all_more, all_taken}
use Rattle.search_core.proofs.analyze.Analysis.all_fit.Goals as goal

pub fits-requires-clause-out : goal.fits-requires-clause-out
fits-requires-clause-out c = subst (IsFalseOrOpposite c.args.trail.now c.args.left) (sym c.literal-item.is) (c.requires.out c.loop-literal.literal-index c.literal-item.result c.loop-literal-test.true)

pub loop-literal-preserved : goal.loop-literal-preserved
loop-literal-preserved c = all_more (Fits c.args.left c.args.self.now.lower.items) c.args.clause.now c.loop-literal.literal-index c.literal-item.result c.loop-literal-test.true c.literal-item.is c.loop-literal.invariant
    (OnTrue_at c.if-not-fits.false c.fits.ensures)

pub returns : goal.returns
returns c = all_taken (Fits c.args.left c.args.self.now.lower.items) c.args.clause.now c.loop-literal.literal-index c.loop-literal-test.false c.loop-literal.invariant
