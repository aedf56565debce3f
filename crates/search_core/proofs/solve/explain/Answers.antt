use Rattle.std.proofs.Common.{ℕ, List, Option, Some, sym, subst}
use Rattle.watch_core.specs.Trail.{Assignment}
use Rattle.search_core.specs.State.{AreReasoned}
use Rattle.search_core.specs.Analysis.{IsMade, Show, IsExplained}
use Rattle.search_core.proofs.OutcomeLemmas.{inside_from}
use Rattle.search_core.proofs.solve.explain.Goals as goal

pub analyze-requires-clause-inside : goal.analyze-requires-clause-inside
analyze-requires-clause-inside g c = inside_from c.args.watched.now.trail c.trail-trail.result.now c.args.watched.now.clauses c.arena-arena.result.now c.trail-trail.ensures.value c.arena-arena.ensures.value c.arena-arena.ensures.inside

pub minimize-requires-clause-inside : goal.minimize-requires-clause-inside
minimize-requires-clause-inside g c = inside_from c.args.watched.now.trail c.trail-trail.result.now c.args.watched.now.clauses c.arena-arena.result.now c.trail-trail.ensures.value c.arena-arena.ensures.value c.arena-arena.ensures.inside

pub minimize-requires-clause-reasoned : goal.minimize-requires-clause-reasoned
minimize-requires-clause-reasoned g c =
    subst (λ (u : Assignment ℕ). AreReasoned u c.arena-arena.result.now) (sym c.trail-trail.ensures.value) (subst (λ (cs : List (List ℕ)). AreReasoned c.args.watched.now.trail cs) (sym c.arena-arena.ensures.value) c.requires.reasoned)

pub returns-clause-found : goal.returns-clause-found
returns-clause-found g c =
    let t = c.trail-trail.result.now in
    let clauses = c.arena-arena.result.now in
    let lower = c.analyze.new.self.lower.items in
    let hints = c.analyze.new.self.hints.items in
    let found : IsExplained t clauses (Some c.in-Some.point) lower hints = record {
      made = subst (λ (o : Option ℕ). IsMade t o lower) c.in-Some.is c.in_ok-found.ensures.made;
      shown = subst (λ (o : Option ℕ). Show clauses o lower hints) c.in-Some.is c.in_ok-found.ensures.shown;
      ids = c.in_ok-found.ensures.hints;
      few = c.in_ok-found.ensures.few;
    } in
    let less = c.in_ok-minimize.ensures.explained c.in-Some.point found in
    subst (λ (u : Assignment ℕ). IsExplained u c.args.watched.now.clauses (Some c.in-Some.point) c.minimize.new.self.lower.items c.minimize.new.self.hints.items) c.trail-trail.ensures.value
    (subst (λ (cs : List (List ℕ)). IsExplained t cs (Some c.in-Some.point) c.minimize.new.self.lower.items c.minimize.new.self.hints.items) c.arena-arena.ensures.value less)
