use Rattle.std.proofs.Common.{sym, subst, ◌∙◌, ℕ, Option}
use Rattle.std.specs.List.{Contains}
use Rattle.std.specs.Option.{IfSome}
use Rattle.chain_core.proofs.OpenLiteralsLemmas.{turn_skip, turn_first, turn_same, turn_other, rest_end}
use Rattle.chain_core.proofs.chain.open_literals_of.Goals as goal
use Rattle.chain_core.proofs.chain.open_literals_of.Goals.{then-stamps-place+in-None, then-stamps-place+in-Some+else-ne, else-stamps-place}

pub returns-then-ne-clause-answer : goal.returns-then-ne-clause-answer
returns-then-ne-clause-answer c = λ next.
    turn_other c.args.stamps.now c.args.stamp c.args.clause.now _ _ c.place.result next _ c.loop-literal-test.true c.literal-item.is c.place.ensures c.loop-literal.found c.in-Some.other c.if-stamps-place.true c.in-Some.is c.if-ne.ensures (c.loop-literal.invariant.answer next)

pub loop-literal-preserved : goal.loop-literal-preserved
loop-literal-preserved c = record {
  answer = λ next.
      let read = c.literal-item.is in
      let before = c.loop-literal.invariant.answer next in
      elim c.if-stamps-place.branch [
        | then-stamps-place+in-None w ↦ turn_first c.args.stamps.now c.args.stamp c.args.clause.now _ _ c.place.result next _ c.loop-literal-test.true read c.place.ensures c.loop-literal.found c.if-stamps-place.found w.if-stamps-place.true w.in-None.is w.found-is before
        | then-stamps-place+in-Some+else-ne w ↦ turn_same c.args.stamps.now c.args.stamp c.args.clause.now _ _ c.place.result next _ c.loop-literal-test.true read c.place.ensures c.loop-literal.found c.if-stamps-place.found w.in-Some.other w.if-stamps-place.true w.in-Some.is w.found-is w.if-ne.ensures before
        | else-stamps-place w ↦ turn_skip c.args.stamps.now c.args.stamp c.args.clause.now _ _ c.place.result next _ c.loop-literal-test.true read c.place.ensures c.loop-literal.found c.if-stamps-place.found w.if-stamps-place.false w.found-is before
      ];
  among =
      let P = λ (f : Option ℕ). IfSome f (Contains c.args.clause.now) in
      elim c.if-stamps-place.branch [
        | then-stamps-place+in-None w ↦ subst P (sym w.found-is) (c.loop-literal.literal-index, c.loop-literal-test.true, sym c.literal-item.is)
        | then-stamps-place+in-Some+else-ne w ↦ subst P (w.in-Some.is ∙ sym w.found-is) c.loop-literal.invariant.among
        | else-stamps-place w ↦ subst P (sym w.found-is) c.loop-literal.invariant.among
      ];
}

pub returns-in-Some-found-clause-answer : goal.returns-in-Some-found-clause-answer
returns-in-Some-found-clause-answer c = λ next. rest_end c.args.stamps.now c.args.stamp c.loop-literal.found c.args.clause.now _ c.in-Some-found.literal next _ c.loop-literal-test.false c.in-Some-found.is (c.loop-literal.invariant.answer next)
