use Rattle.std.proofs.Common.{ap, ◌∙◌}
use Rattle.watch_core.specs.Trail.{places, value_of}
use Rattle.watch_core.proofs.trail.Trail.value.Goals as goal

pub returns : goal.returns
returns g c = c.value_at.ensures ∙ ap (value_of (places g.L.Lit.table_place c.args.self.now.entries)) c.place.ensures
