use Rattle.std.proofs.Common.{sym, subst}
use Rattle.line_core.proofs.RangeLemmas.{line_ranges}
use Rattle.lincs_top.specs.Run.{MayOpenIn}
use Rattle.lincs_top.proofs.Running.{line_refused, line_done}
use Rattle.lincs_top.proofs.program.do_line.Goals as goal

pub obey-requires-clause-names : goal.obey-requires-clause-names
obey-requires-clause-names g c = subst (MayOpenIn (g.S.Shelf.state c.args.shelf.now)) (sym c.in-Ok.ensures) c.requires

pub returns-in-Ok : goal.returns-in-Ok
returns-in-Ok g c = line_done (sym c.in-Ok.ensures) c.obey.ensures

pub returns-in-Err : goal.returns-in-Err
returns-in-Err g c = line_refused _ _ (sym c.in-Err.ensures)

pub obey-requires-clause-ranges : goal.obey-requires-clause-ranges
obey-requires-clause-ranges g c = line_ranges _ _ (sym c.in-Ok.ensures)
