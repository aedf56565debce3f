use Rattle.std.proofs.Common.{◌≡◌, ℕ, ◌*◌, ◌<◌, ◌∙◌, ap, sym, subst, arith, length, map, List, [], ◌∷◌, ◌++◌, Some, None}
use Rattle.std.specs.List.{All}
use Rattle.std.specs.List.Sorted.{IsPermutation}
use Rattle.literals_core.specs.Literal.{negation}
use Rattle.watch_core.specs.Trail.{Assignment, IsTrail, places, waiting, value_of, assigned, undone}
use Rattle.watch_core.specs.Places.{placed}
use Rattle.watch_core.specs.Added.{CanAdd}
use Rattle.watch_core.specs.Rest.{CanPropagate}
use Rattle.watch_core.proofs.StepLemmas.{free_of}
use Rattle.arena_core.specs.declared.lit.TheConstants.{MOST_VARIABLES}
use Rattle.search_core.specs.State.{place}
use Rattle.search_core.specs.Analysis.{IsLower, IsHighest}
use Rattle.search_core.proofs.ListLemmas.{all_map}
use Rattle.search_core.proofs.LearnLemmas.{learnable, level_low, lemma_inside, lemma_short, can_add, can_learn, rests_back, first_open, clause_made, written_back}
use Rattle.search_core.proofs.learn.learn.Goals as goal

pub put_highest_first-level-requires-clause-lows : goal.put_highest_first-level-requires-clause-lows
put_highest_first-level-requires-clause-lows c = subst (λ (u : Assignment ℕ). All (IsLower u) c.as_mut_slice.result.now) (sym c.trail.ensures.value) (subst (λ (xs : List ℕ). All (IsLower c.args.watched.now.trail) xs) (sym c.as_mut_slice.ensures.value) c.requires.made.lows)

pub log_lemma-requires-clause-inside : goal.log_lemma-requires-clause-inside
log_lemma-requires-clause-inside c =
    let t = c.args.watched.now.trail in
    let others = c.put_highest_first-level.new.lower in
    let level = c.put_highest_first-level.result in
    let trail : IsTrail place t = c.trail.ensures.kept in
    let order : IsPermutation c.args.analysis.now.lower.items others = subst (λ (xs : List ℕ). IsPermutation xs others) c.as_mut_slice.ensures.value c.put_highest_first-level.ensures.order in
    let highest : IsHighest t others level = subst (λ (u : Assignment ℕ). IsHighest u others level) c.trail.ensures.value c.put_highest_first-level.ensures.level in
    let can = learnable t c.args.watched.now.clauses c.args.analysis.now.lower.items others c.args.point level trail c.requires.below c.requires.current c.requires.made order highest in
    let clause : c.as_slice-clause.result.now ≡ negation c.args.point ∷ others = clause_made c.as_slice-clause.result.now c.extend_from_slice.new.self.items c.push.new.self.items c.clear.new.self.items c.as_slice.result.now others c.negation-literal.result c.args.point c.as_slice-clause.ensures.value c.in_ok-extend_from_slice.ensures.items c.in_ok-push.ensures.items c.clear.ensures.items (c.as_slice.ensures.value ∙ written_back others c.args.analysis.now.lower.items c.args.analysis.now.lower.len (omega (arith, c.put_highest_first-level.auto.lower, c.as_mut_slice.ensures.len))) c.negation-literal.ensures in
    subst (λ (xs : List ℕ). All (λ l. l < 2 * MOST_VARIABLES) xs) (sym clause) (all_map (λ l. l < 2 * t.variables) (λ l. l < 2 * MOST_VARIABLES) (negation c.args.point ∷ others) (λ l lt. omega (arith, lt, trail.few)) (lemma_inside t c.args.watched.now.clauses others c.args.point level can))

pub log_lemma-requires-clause-short : goal.log_lemma-requires-clause-short
log_lemma-requires-clause-short c =
    let t = c.args.watched.now.trail in
    let others = c.put_highest_first-level.new.lower in
    let level = c.put_highest_first-level.result in
    let trail : IsTrail place t = c.trail.ensures.kept in
    let order : IsPermutation c.args.analysis.now.lower.items others = subst (λ (xs : List ℕ). IsPermutation xs others) c.as_mut_slice.ensures.value c.put_highest_first-level.ensures.order in
    let highest : IsHighest t others level = subst (λ (u : Assignment ℕ). IsHighest u others level) c.trail.ensures.value c.put_highest_first-level.ensures.level in
    let can = learnable t c.args.watched.now.clauses c.args.analysis.now.lower.items others c.args.point level trail c.requires.below c.requires.current c.requires.made order highest in
    let clause : c.as_slice-clause.result.now ≡ negation c.args.point ∷ others = clause_made c.as_slice-clause.result.now c.extend_from_slice.new.self.items c.push.new.self.items c.clear.new.self.items c.as_slice.result.now others c.negation-literal.result c.args.point c.as_slice-clause.ensures.value c.in_ok-extend_from_slice.ensures.items c.in_ok-push.ensures.items c.clear.ensures.items (c.as_slice.ensures.value ∙ written_back others c.args.analysis.now.lower.items c.args.analysis.now.lower.len (omega (arith, c.put_highest_first-level.auto.lower, c.as_mut_slice.ensures.len))) c.negation-literal.ensures in
    (let n = ap length clause in let s = lemma_short t c.args.watched.now.clauses others c.args.point level can in omega (arith, n, s, trail.few))

pub backjump-requires : goal.backjump-requires
backjump-requires c =
    let t = c.args.watched.now.trail in
    let others = c.put_highest_first-level.new.lower in
    let level = c.put_highest_first-level.result in
    let trail : IsTrail place t = c.trail.ensures.kept in
    let order : IsPermutation c.args.analysis.now.lower.items others = subst (λ (xs : List ℕ). IsPermutation xs others) c.as_mut_slice.ensures.value c.put_highest_first-level.ensures.order in
    let highest : IsHighest t others level = subst (λ (u : Assignment ℕ). IsHighest u others level) c.trail.ensures.value c.put_highest_first-level.ensures.level in
    let can = learnable t c.args.watched.now.clauses c.args.analysis.now.lower.items others c.args.point level trail c.requires.below c.requires.current c.requires.made order highest in
    (let low = level_low t c.args.watched.now.clauses others c.args.point level can in omega (arith, low))

pub add_clause-requires-clause-clause : goal.add_clause-requires-clause-clause
add_clause-requires-clause-clause c =
    let t = c.args.watched.now.trail in
    let others = c.put_highest_first-level.new.lower in
    let level = c.put_highest_first-level.result in
    let trail : IsTrail place t = c.trail.ensures.kept in
    let order : IsPermutation c.args.analysis.now.lower.items others = subst (λ (xs : List ℕ). IsPermutation xs others) c.as_mut_slice.ensures.value c.put_highest_first-level.ensures.order in
    let highest : IsHighest t others level = subst (λ (u : Assignment ℕ). IsHighest u others level) c.trail.ensures.value c.put_highest_first-level.ensures.level in
    let can = learnable t c.args.watched.now.clauses c.args.analysis.now.lower.items others c.args.point level trail c.requires.below c.requires.current c.requires.made order highest in
    let clause : c.as_slice-clause.result.now ≡ negation c.args.point ∷ others = clause_made c.as_slice-clause.result.now c.extend_from_slice.new.self.items c.push.new.self.items c.clear.new.self.items c.as_slice.result.now others c.negation-literal.result c.args.point c.as_slice-clause.ensures.value c.in_ok-extend_from_slice.ensures.items c.in_ok-push.ensures.items c.clear.ensures.items (c.as_slice.ensures.value ∙ written_back others c.args.analysis.now.lower.items c.args.analysis.now.lower.len (omega (arith, c.put_highest_first-level.auto.lower, c.as_mut_slice.ensures.len))) c.negation-literal.ensures in
    subst (λ (u : Assignment ℕ). CanAdd place u (map place c.as_slice-clause.result.now)) (sym c.backjump.ensures.trail) (subst (λ (xs : List ℕ). CanAdd place (undone t level) (map place xs)) (sym clause) (can_add t c.args.watched.now.clauses others c.args.point level can))

pub add_clause-requires-clause-rest : goal.add_clause-requires-clause-rest
add_clause-requires-clause-rest c =
    let t = c.args.watched.now.trail in
    let others = c.put_highest_first-level.new.lower in
    let level = c.put_highest_first-level.result in
    let trail : IsTrail place t = c.trail.ensures.kept in
    let order : IsPermutation c.args.analysis.now.lower.items others = subst (λ (xs : List ℕ). IsPermutation xs others) c.as_mut_slice.ensures.value c.put_highest_first-level.ensures.order in
    let highest : IsHighest t others level = subst (λ (u : Assignment ℕ). IsHighest u others level) c.trail.ensures.value c.put_highest_first-level.ensures.level in
    let can = learnable t c.args.watched.now.clauses c.args.analysis.now.lower.items others c.args.point level trail c.requires.below c.requires.current c.requires.made order highest in
    subst (λ (u : Assignment ℕ). waiting u ≡ []) (sym c.backjump.ensures.trail) (rests_back t c.args.watched.now.clauses others c.args.point level can).none_waits

pub assign-requires-clause-free : goal.assign-requires-clause-free
assign-requires-clause-free c =
    let t = c.args.watched.now.trail in
    let others = c.put_highest_first-level.new.lower in
    let level = c.put_highest_first-level.result in
    let trail : IsTrail place t = c.trail.ensures.kept in
    let order : IsPermutation c.args.analysis.now.lower.items others = subst (λ (xs : List ℕ). IsPermutation xs others) c.as_mut_slice.ensures.value c.put_highest_first-level.ensures.order in
    let highest : IsHighest t others level = subst (λ (u : Assignment ℕ). IsHighest u others level) c.trail.ensures.value c.put_highest_first-level.ensures.level in
    let can = learnable t c.args.watched.now.clauses c.args.analysis.now.lower.items others c.args.point level trail c.requires.below c.requires.current c.requires.made order highest in
    let free = first_open t c.args.watched.now.clauses others c.args.point level can in
    let is : c.add_clause.new.self.trail ≡ undone t level = c.in_ok-added.ensures.trail ∙ c.backjump.ensures.trail in
    subst (λ (u : Assignment ℕ). value_of (places place u.entries) c.negation-literal.result ≡ None) (sym is) (subst (λ l. value_of (places place (undone t level).entries) l ≡ None) (sym c.negation-literal.ensures) (free_of (places place (undone t level).entries) (negation c.args.point) free.1 free.0))

pub returns-clause-ready : goal.returns-clause-ready
returns-clause-ready c =
    let t = c.args.watched.now.trail in
    let others = c.put_highest_first-level.new.lower in
    let level = c.put_highest_first-level.result in
    let trail : IsTrail place t = c.trail.ensures.kept in
    let order : IsPermutation c.args.analysis.now.lower.items others = subst (λ (xs : List ℕ). IsPermutation xs others) c.as_mut_slice.ensures.value c.put_highest_first-level.ensures.order in
    let highest : IsHighest t others level = subst (λ (u : Assignment ℕ). IsHighest u others level) c.trail.ensures.value c.put_highest_first-level.ensures.level in
    let can = learnable t c.args.watched.now.clauses c.args.analysis.now.lower.items others c.args.point level trail c.requires.below c.requires.current c.requires.made order highest in
    let clause : c.as_slice-clause.result.now ≡ negation c.args.point ∷ others = clause_made c.as_slice-clause.result.now c.extend_from_slice.new.self.items c.push.new.self.items c.clear.new.self.items c.as_slice.result.now others c.negation-literal.result c.args.point c.as_slice-clause.ensures.value c.in_ok-extend_from_slice.ensures.items c.in_ok-push.ensures.items c.clear.ensures.items (c.as_slice.ensures.value ∙ written_back others c.args.analysis.now.lower.items c.args.analysis.now.lower.len (omega (arith, c.put_highest_first-level.auto.lower, c.as_mut_slice.ensures.len))) c.negation-literal.ensures in
    let back : c.add_clause.new.self.trail ≡ undone t level = c.in_ok-added.ensures.trail ∙ c.backjump.ensures.trail in
    let kept : IsTrail place (undone t level) = subst (IsTrail place) c.backjump.ensures.trail c.backjump.ensures.kept in
    let ready = can_learn t c.args.watched.now.clauses others c.args.point level c.in_ok-added.added.id can kept in
    let now : c.assign.new.self.trail ≡ assigned (undone t level) (negation c.args.point) (Some c.in_ok-added.added.id) = c.assign.ensures.trail ∙ ap (λ (u : Assignment ℕ). assigned u c.negation-literal.result (Some c.in_ok-added.added.id)) back ∙ ap (λ l. assigned (undone t level) l (Some c.in_ok-added.added.id)) c.negation-literal.ensures in
    let more : c.assign.new.self.clauses ≡ c.args.watched.now.clauses ++ (negation c.args.point ∷ others) ∷ [] = c.assign.ensures.clauses ∙ c.in_ok-added.ensures.clause ∙ ap (λ (cs : List (List ℕ)). cs ++ c.as_slice-clause.result.now ∷ []) c.backjump.ensures.clauses ∙ ap (λ (xs : List ℕ). c.args.watched.now.clauses ++ xs ∷ []) clause in
    subst (λ (u : Assignment ℕ). CanPropagate place u (placed place c.assign.new.self.clauses)) (sym now) (subst (λ (cs : List (List ℕ)). CanPropagate place (assigned (undone t level) (negation c.args.point) (Some c.in_ok-added.added.id)) (placed place cs)) (sym more) ready)
