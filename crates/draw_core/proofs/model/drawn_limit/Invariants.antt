use Rattle.std.proofs.Common.{◌≡◌, ◌*◌, ◌≤◌}
use Rattle.encoding_rules.specs.Each.{total}
use Rattle.draw_core.specs.DrawnModel.{drawn_share}
use Rattle.draw_core.proofs.model.drawn_limit.Given as goal

abbrev pub invariant-loop-i : goal.invariant-loop-i
invariant-loop-i l = record { sum : l.shares ≡ total (drawn_share l.problem l.words) l.i; few : l.shares ≤ 1000 * l.i; some : l.i ≤ l.shares }
