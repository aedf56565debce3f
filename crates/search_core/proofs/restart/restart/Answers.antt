use Rattle.std.proofs.Common.{◌<◌, ap, arith, ℕ}
use Rattle.watch_core.specs.Trail.{Assignment}
use Rattle.search_core.proofs.RestartLemmas.{rests_again, goes_again}
use Rattle.search_core.proofs.restart.restart.Goals as goal

pub returns-clause-rest : goal.returns-clause-rest
returns-clause-rest c =
    let above : 0 < c.args.watched.now.trail.level = (let same = ap (λ (u : Assignment ℕ). u.level) c.trail.ensures.value in omega (arith, same, c.level.ensures.value, c.if-level-eq0.false)) in
    rests_again c.args.watched.now.clauses c.backjump.new.watched.clauses c.args.watched.now.trail c.backjump.new.watched.trail c.trail.ensures.kept c.requires.rest above c.backjump.ensures.trail c.backjump.ensures.clauses

pub returns-clause-goes : goal.returns-clause-goes
returns-clause-goes c = goes_again c.args.watched.now.clauses c.backjump.new.watched.clauses c.args.watched.now.trail c.backjump.new.watched.trail c.trail.ensures.kept c.backjump.ensures.trail c.backjump.ensures.clauses
