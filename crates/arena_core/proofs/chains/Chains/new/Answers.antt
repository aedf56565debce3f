use Rattle.std.proofs.Common.{arith, ◌*◌}
use Rattle.arena_core.proofs.GrowLemmas.{new_room}
use Rattle.arena_core.proofs.chains.Chains.new.Goals as goal

pub invariant_of-result : goal.invariant_of-result
invariant_of-result g c = (new_room g.L.Lit.table_place (2 * c.args.variables) c.in_ok-heads.heads.items c.new.result.items (c.in_ok-heads.ensures.items_if_clones_equal (λ y h. h)) c.new.ensures.items (omega (arith, c.requires))).0

pub returns-clause-chains : goal.returns-clause-chains
returns-clause-chains g c = (new_room g.L.Lit.table_place (2 * c.args.variables) c.in_ok-heads.heads.items c.new.result.items (c.in_ok-heads.ensures.items_if_clones_equal (λ y h. h)) c.new.ensures.items (omega (arith, c.requires))).1
