use Rattle.std.proofs.Common.{refl, subst}
use Rattle.chain_core.specs.Text.{dimacs_text}
use Rattle.edge_core.specs.Outside.{Sends}
use Rattle.lincs_top.proofs.Came.{came_none, came_on, came_to_a_stop, came_sized, came_to_a_size, came_to_an_end}
use Rattle.lincs_top.proofs.encode.write_formula.Goals as goal

pub returns-in_err-criteria : goal.returns-in_err-criteria
returns-in_err-criteria g c = came_to_a_stop _ (came_none _ _) c.in_err-criteria.ensures.step c.from_residual.ensures.1

pub returns-in_err-rows : goal.returns-in_err-rows
returns-in_err-rows g c =
    came_to_a_stop _ (came_on _ (came_none _ _) c.in_ok-criteria.ensures.step) c.in_err-rows.ensures.step c.from_residual-in_err-rows.ensures.1

pub returns-in_err-formula : goal.returns-in_err-formula
returns-in_err-formula g c =
    came_to_a_size _ (came_on _ (came_on _ (came_none _ _) c.in_ok-criteria.ensures.step) c.in_ok-rows.ensures.step)
    c.in_err-formula.ensures.size c.from_residual-in_err-formula.ensures.1 refl

pub returns : goal.returns
returns g c =
    came_to_an_end (came_sized (came_on _ (came_on _ (came_none _ _) c.in_ok-criteria.ensures.step) c.in_ok-rows.ensures.step) c.in_ok-formula.ensures.size)
    (c.concluded.ensures _ _ _ (subst (λ f. Sends (g.O.Sink.state c.args.out.now) (g.O.Sink.state c.send_dimacs.new.sink) (dimacs_text f) c.send_dimacs.result) c.in_ok-formula.ensures.formula c.send_dimacs.ensures.sends)) refl
