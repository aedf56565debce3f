use Rattle.std.proofs.Common.{◌≡◌, ◌+◌, ◌++◌, ◌∙◌, sym, ap, subst, length, take, arith}
use Rattle.std.specs.List.{flat_map}
use Rattle.yaml_tokens.specs.Written.{spelled}
use Rattle.yaml_tokens.proofs.WrittenLemmas.{IsRun, run-none, run-more, run-put, run-cut, run-last}
use Rattle.yaml_tokens.proofs.written.put_spelled.Goals as goal
use Rattle.yaml_tokens.proofs.written.put_spelled.Goals.{then-needs_escape+in_ok-put_run, else-needs_escape}

pub returns-in_err-put_run : goal.returns-in_err-put_run
returns-in_err-put_run c =
    run-cut c.from_residual.result c.args.bytes.now c.loop-at.done c.args.out.now.items c.loop-at.out.items c.put_run.new.out.items c.loop-at.invariant.written
    c.loop-at.at c.loop-at-test.true c.loop-at.invariant.run c.from_residual.ensures.0 c.in_err-put_run.ensures

pub loop-at-preserved : goal.loop-at-preserved
loop-at-preserved c =
    let bytes = c.args.bytes.now in
    let old = c.args.out.now.items in
    let at = c.loop-at.at in
    let i = c.loop-at.invariant in
    elim c.if-needs_escape.branch [
      | then-needs_escape+in_ok-put_run w ↦
          let put = run-put bytes c.loop-at.done at c.loop-at-test.true i.run old c.loop-at.out.items w.put_run.new.out.items i.written w.in_ok-put_run.ensures in
          record {
            order = omega (arith, w.done-is);
            written = ap (λ o. o.items) w.out-is ∙ put ∙ ap (λ n. old ++ flat_map spelled (take n bytes)) (sym w.done-is);
            run = subst (λ n. IsRun bytes n (at + 1)) (sym w.done-is) (run-none bytes (at + 1));
          }
      | else-needs_escape w ↦
          record {
            order = omega (arith, w.done-is);
            written = ap (λ o. o.items) w.out-is ∙ i.written ∙ ap (λ n. old ++ flat_map spelled (take n bytes)) (sym w.done-is);
            run = subst (λ n. IsRun bytes n (at + 1)) (sym w.done-is) (run-more bytes c.loop-at.done at i.order c.loop-at-test.true (sym c.needs_escape.ensures ∙ w.if-needs_escape.false) i.run);
          }
    ]

pub returns : goal.returns
returns c =
    let end : c.loop-at.at ≡ length c.args.bytes.now = omega arith in
    run-last c.put_plain.result c.args.bytes.now c.loop-at.done c.args.out.now.items c.loop-at.out.items c.put_plain.new.out.items c.loop-at.invariant.written
    (subst (IsRun c.args.bytes.now c.loop-at.done) end c.loop-at.invariant.run) c.put_plain.ensures
