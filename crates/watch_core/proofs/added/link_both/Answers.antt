use Rattle.std.proofs.Common.{arith}
use Rattle.watch_core.proofs.AddLemmas.{seated_back}
use Rattle.watch_core.proofs.added.link_both.Goals as goal

pub link-requires-clause-free : goal.link-requires-clause-free
link-requires-clause-free g c = c.requires.free c.of.result (omega (arith, c.of.ensures))

pub link-requires-2-clause-free : goal.link-requires-2-clause-free
link-requires-2-clause-free g c = λ h. c.requires.free c.of-2.result (omega (arith, c.of-2.ensures)) (seated_back c.args.chains.now.chains c.link.new.self.chains (g.L.Lit.table_place c.index-clause-0.result) c.of.result c.of-2.result c.link.ensures.chains (λ e. omega (arith, e, c.of.ensures, c.of-2.ensures)) h)
