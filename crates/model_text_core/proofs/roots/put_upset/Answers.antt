use Rattle.std.proofs.Common.{[], codes, arith}
use Rattle.lists_core.proofs.PutsFacts.{puts-then}
use Rattle.written_core.specs.Parts.{row}
use Rattle.model_text_core.specs.Parts.{roots_text}
use Rattle.written_core.proofs.PutLemmas.{puts-as, first-cut}
use Rattle.model_text_core.proofs.PutFacts.{upset-none, upset-some}
use Rattle.model_text_core.proofs.roots.put_upset.Goals as goal

pub returns-then-rows-eq0 : goal.returns-then-rows-eq0
returns-then-rows-eq0 c = puts-as _ _ _ _ _ (upset-none c.args.count c.args.roots.now (omega (arith, c.if-rows-eq0.true))) c.put_text.ensures

pub returns-in_err-put_text : goal.returns-in_err-put_text
returns-in_err-put_text c =
    puts-as _ _ _ _ _ (upset-some c.args.count c.args.roots.now (omega (arith, c.if-rows-eq0.false)))
    (first-cut _ _ (row (codes "    upset_roots:") []) (roots_text c.args.count c.args.roots.now) c.from_residual.result c.from_residual.ensures.0 c.in_err-put_text.ensures)

pub returns : goal.returns
returns c =
    puts-as _ _ _ _ _ (upset-some c.args.count c.args.roots.now (omega (arith, c.if-rows-eq0.false)))
    (puts-then _ _ (row (codes "    upset_roots:") []) c.in_ok-put_text.ensures _ _ c.put_roots.result c.put_roots.ensures)
