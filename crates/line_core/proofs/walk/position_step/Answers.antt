use Rattle.std.proofs.Common.{sym, arith}
use Rattle.std.proofs.lemmas.Option.{slice_get_within}
use Rattle.line_core.proofs.walk.position_step.Goals as goal

pub overflow_add-result : goal.overflow_add-result
overflow_add-result c =
    let less = slice_get_within c.args.kinds.now c.args.progress.filled c.in-Some.kind (sym c.in-Some.ensures) in
    omega (arith, less)
