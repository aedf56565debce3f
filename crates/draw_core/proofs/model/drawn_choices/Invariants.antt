use Rattle.std.proofs.Common.{◌≡◌}
use Rattle.draw_core.specs.DrawnModel.{drawn_choice, rising_values}
use Rattle.draw_core.proofs.model.drawn_choices.Given as goal

abbrev pub invariant-loop-h : goal.invariant-loop-h
invariant-loop-h l = l.choices.items ≡ rising_values (drawn_choice l.problem l.words l.i) l.h
