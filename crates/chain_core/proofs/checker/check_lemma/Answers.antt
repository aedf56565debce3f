use Rattle.std.proofs.Common.{map, arith}
use Rattle.literals_core.specs.Literal.{negation}
use Rattle.chain_core.proofs.FaultLemmas.{fault_passed}
use Rattle.chain_core.proofs.checker.check_lemma.Goals as goal

pub returns-then-follow-clause-answer : goal.returns-then-follow-clause-answer
returns-then-follow-clause-answer c =
    fault_passed c.args.formula.now c.args.log.now c.args.k _ c.count.result c.variables-variables.result c.args.lemma.now c.as_slice-literals.result.now c.as_slice-hints.result.now c.requires.earlier c.count.ensures.value (omega (arith, c.if-from-before.false, c.from.ensures, c.from-2.ensures, c.from-3.ensures)) c.variables-variables.ensures.value c.as_slice-literals.ensures.items c.as_slice-hints.ensures.items
    c.if-has_higher.ensures.value c.if-has_other_hint.ensures.value (c.if-follow.ensures.answer (map negation c.as_slice-literals.result.now) c.mark_all.ensures.marked)
