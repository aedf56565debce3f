use Rattle.std.proofs.Common.{◌≡◌, ◌++◌, ◌∷◌, [], ◌∙◌, sym, ap, inl, inr, arith, rules, length, take, drop, ◌-◌}
use Rattle.std.specs.Prelude.{Err}
use Rattle.std.proofs.lemmas.List.{take_rest, length-drop, length_push}
use Rattle.std.proofs.lemmas.Result.{err_from_is_err_and}
use Rattle.chain_core.proofs.LineLemmas.{line_cut, line_fails, line_passes, line_inside}
use Rattle.chain_core.proofs.read.read_lemmas.Goals as goal

pub returns-in_default : goal.returns-in_default
returns-in_default c = inr (line_cut c.args.bytes.now c.loop-at.at c.loop-at.line _ c.loop-at.log _ (take_rest c.args.bytes.now c.loop-at.at) c.loop-at.invariant.so_far c.in_default.ensures c.loop-at-test.true)

pub returns-in_err-lemma : goal.returns-in_err-lemma
returns-in_err-lemma c =
    let p = err_from_is_err_and c.from_residual.result c.from_residual.ensures.1 in
    rw (p.1, p.2) (elim c.in_err-lemma.ensures.answer [
      | inl memory ↦ inl memory
      | inr shape ↦ inr (line_fails c.args.bytes.now c.loop-at.at c.loop-at.line _ c.loop-at.log _ (take_rest c.args.bytes.now c.loop-at.at) c.loop-at.invariant.so_far c.in-Some.len c.in-Some.ensures shape.1 ∙ ap Err (sym shape.0))
    ])

pub loop-at-preserved : goal.loop-at-preserved
loop-at-preserved c =
    let inside = line_inside (take (length c.args.bytes.now - c.loop-at.at) (drop c.loop-at.at c.args.bytes.now)) c.in-Some.len c.in-Some.ensures in
    let whole = take_rest c.args.bytes.now c.loop-at.at in
    let grown : c.add.new.self ≡ c.loop-at.log ++ c.in_ok-lemma.lemma ∷ [] = search rules in
    let more = ap length grown ∙ length_push c.loop-at.log c.in_ok-lemma.lemma in
    record {
      within = omega (arith, inside, ap length whole, length-drop c.loop-at.at c.args.bytes.now);
      few = omega (arith, more, c.loop-at.invariant.few);
      line = omega (arith, more, c.loop-at.invariant.line);
      so_far = line_passes c.args.bytes.now c.loop-at.at c.loop-at.line _ c.loop-at.log _ whole c.loop-at.invariant.so_far c.in-Some.len c.in_ok-lemma.lemma _ c.in-Some.ensures c.in_ok-lemma.ensures.answer grown;
    }
