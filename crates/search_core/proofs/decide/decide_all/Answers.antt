use Rattle.search_core.proofs.StateLemmas.{goes_trans}
use Rattle.search_core.proofs.DecideLemmas.{can_go_on, goes_on_decided}
use Rattle.search_core.proofs.decide.decide_all.Goals as goal

pub propagate-conflict-requires : goal.propagate-conflict-requires
propagate-conflict-requires g c = record { ready = can_go_on c.loop-conflict.watched.clauses c.decide.new.self.clauses c.loop-conflict.watched.trail c.decide.new.self.trail c.in-Some.literal c.loop-conflict.conflict c.loop-conflict.invariant.kept c.loop-conflict.invariant.outcome c.loop-conflict-test.ensures c.decide.ensures.trail c.decide.ensures.clauses }

pub loop-conflict-preserved : goal.loop-conflict-preserved
loop-conflict-preserved g c = record {
  outcome = c.propagate-conflict.ensures.outcome;
  kept = c.propagate-conflict.ensures.kept;
  goes = goes_trans c.args.watched.now.clauses c.decide.new.self.clauses c.propagate-conflict.new.watched.clauses c.args.watched.now.trail c.decide.new.self.trail c.propagate-conflict.new.watched.trail
      (goes_on_decided c.args.watched.now.clauses c.loop-conflict.watched.clauses c.decide.new.self.clauses c.args.watched.now.trail c.loop-conflict.watched.trail c.decide.new.self.trail c.in-Some.literal c.loop-conflict.invariant.goes c.loop-conflict.invariant.kept c.decide.ensures.trail c.decide.ensures.clauses)
      c.propagate-conflict.ensures.goes;
}
