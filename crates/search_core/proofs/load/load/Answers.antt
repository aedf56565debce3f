use Rattle.std.proofs.Common.{◌≡◌, ℕ, List, [], ◌∷◌, ◌++◌, get_or, map, take, ◌<◌, length, arith, sym, ◌∙◌, ap}
use Rattle.std.proofs.lemmas.List.{take_more, map-append}
use Rattle.search_core.specs.Inner.{outer, outer_clauses}
use Rattle.search_core.proofs.UnitLemmas.{can_add_first, clause_read}
use Rattle.search_core.proofs.load.load.Goals as goal

pub add_clause-requires-clause-clause : goal.add_clause-requires-clause-clause
add_clause-requires-clause-clause c =
    let clauses = c.args.formula.now.clauses in
    let lt : c.loop-k.k < length clauses = omega (arith, c.loop-k-test.true, c.count-k-end.ensures.value) in
    let is : map outer c.as_slice.result.now ≡ get_or clauses c.loop-k.k [] = ap (map outer) c.as_slice.ensures.value ∙ c.in_ok-read_clause.ensures ∙ clause_read clauses c.loop-k.k c.clause.result.now c.clause.ensures.clause lt in
    can_add_first c.loop-k.watched.trail c.as_slice.result.now (get_or clauses c.loop-k.k []) c.args.formula.now.variables c.loop-k.invariant.trail is (c.count-k-end.ensures.range c.loop-k.k [] lt) (c.requires.apart c.loop-k.k [] lt)

pub loop-k-preserved : goal.loop-k-preserved
loop-k-preserved c =
    let clauses = c.args.formula.now.clauses in
    let lt : c.loop-k.k < length clauses = omega (arith, c.loop-k-test.true, c.count-k-end.ensures.value) in
    let is : map outer c.as_slice.result.now ≡ get_or clauses c.loop-k.k [] = ap (map outer) c.as_slice.ensures.value ∙ c.in_ok-read_clause.ensures ∙ clause_read clauses c.loop-k.k c.clause.result.now c.clause.ensures.clause lt in
    record {
      clauses = ap outer_clauses c.in_ok-add_clause.ensures.clause ∙ map-append (map outer) c.loop-k.watched.clauses (c.as_slice.result.now ∷ []) ∙ ap (λ (cs : List (List ℕ)). cs ++ map outer c.as_slice.result.now ∷ []) c.loop-k.invariant.clauses
          ∙ ap (λ (x : List ℕ). take c.loop-k.k clauses ++ x ∷ []) is ∙ sym (take_more clauses c.loop-k.k [] lt);
      trail = c.in_ok-add_clause.ensures.trail ∙ c.loop-k.invariant.trail;
    }
