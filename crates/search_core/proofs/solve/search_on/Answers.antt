use Rattle.std.proofs.Common.{◌≡◌, ℕ, false, get_or, ◌+◌, ◌*◌, ◌<◌, ◌≤◌, ◌++◌, ◌∷◌, [], length, map, List, reverse, Option, ap, sym, ◌∙◌, subst, arith}
use Rattle.std.specs.List.{All}
use Rattle.std.proofs.lemmas.List.{length-append}
use Rattle.literals_core.specs.Literal.{negation}
use Rattle.literals_core.specs.Truth.{is_true}
use Rattle.chain_core.specs.declared.log.Lemma.{Lemma}
use Rattle.watch_core.specs.Trail.{Assignment, places}
use Rattle.search_core.specs.Inner.{outer}
use Rattle.search_core.specs.State.{place}
use Rattle.search_core.specs.Analysis.{IsExplained}
use Rattle.search_core.proofs.LogLemmas.{refuted, learned_on, learned_count}
use Rattle.search_core.proofs.OutcomeLemmas.{model_at_rest, on_goes, conflict_current, at_limit}
use Rattle.search_core.proofs.solve.search_on.Goals as goal

pub returns-in_default : goal.returns-in_default
returns-in_default g c =
    let t = c.decide_all.new.watched.trail in
    let on = on_goes c.args.formula.now c.loop-k.log c.loop-k.watched.clauses c.decide_all.new.watched.clauses c.loop-k.watched.trail t c.loop-k.invariant.learned c.decide_all.ensures.goes in
    model_at_rest c.args.formula.now c.loop-k.log c.decide_all.new.watched.clauses t c.in_ok-values_of.field-0 c.args.count c.in_default.ensures.kept c.in_default.ensures.outcome c.arena.ensures.distinct on c.count.ensures.range c.in_default.ensures.whole c.requires.count c.in_ok-values_of.ensures.count
    (subst (λ (u : Assignment ℕ). (v : ℕ) → v < c.args.count → get_or c.in_ok-values_of.field-0 v false ≡ is_true (places place u.entries) (2 * v)) c.trail.ensures.value c.in_ok-values_of.ensures.values)

pub explain-requires-clause-current : goal.explain-requires-clause-current
explain-requires-clause-current g c above = conflict_current c.decide_all.new.watched.trail c.decide_all.new.watched.clauses c.in-Some.conflict c.in-Some.ensures.kept c.in-Some.ensures.outcome above

pub explain-requires-clause-reasoned : goal.explain-requires-clause-reasoned
explain-requires-clause-reasoned g c =
    let on = on_goes c.args.formula.now c.loop-k.log c.loop-k.watched.clauses c.decide_all.new.watched.clauses c.loop-k.watched.trail c.decide_all.new.watched.trail c.loop-k.invariant.learned c.decide_all.ensures.goes in
    on.sound.reasoned

pub overflow_add-id : goal.overflow_add-id
overflow_add-id g c =
    let n = learned_count c.args.formula.now c.loop-k.log c.loop-k.watched.clauses c.loop-k.watched.trail c.loop-k.invariant.learned in
    let here = c.count-id.ensures ∙ ap length c.arena-in-None.ensures.value ∙ c.decide_all.ensures.goes.count in
    omega (arith, n, here, c.count.ensures.value, c.count.ensures.bound, c.loop-k.invariant.lemmas, c.loop-k-test.true, c.loop-k.auto.k-end, c.requires.limit)

pub returns-in-None : goal.returns-in-None
returns-in-None g c =
    let t = c.decide_all.new.watched.trail in
    let clauses = c.decide_all.new.watched.clauses in
    let lower = c.explain.new.analysis.lower.items in
    let hints = c.explain.new.analysis.hints.items in
    let on = on_goes c.args.formula.now c.loop-k.log c.loop-k.watched.clauses clauses c.loop-k.watched.trail t c.loop-k.invariant.learned c.decide_all.ensures.goes in
    let explained = subst (λ (o : Option ℕ). IsExplained t clauses o lower hints) c.in-None.is c.in_ok-explain.ensures.found in
    let lemma : ℕ → List ℕ → Lemma = λ n hs. record { id = n + 1; literals = []; hints = reverse hs } in
    let is : c.log_lemma.new.log ≡ c.loop-k.log ++ lemma (length clauses) hints ∷ [] =
    c.in_ok-log_lemma-in-None.ensures ∙ ap (λ n. c.loop-k.log ++ lemma n c.as_slice.result.now ∷ []) (c.count-id.ensures ∙ ap length c.arena-in-None.ensures.value)
    ∙ ap (λ (hs : List ℕ). c.loop-k.log ++ lemma (length clauses) hs ∷ []) c.as_slice.ensures.value in
    record {
      refutes = refuted c.args.formula.now c.loop-k.log c.log_lemma.new.log clauses on.inner lower hints on.same on.sound.order on.good explained.shown explained.ids is;
      short = (let n = ap length is ∙ length-append c.loop-k.log (lemma (length clauses) hints ∷ []) in omega (arith, n, c.loop-k.invariant.lemmas, c.loop-k-test.true));
    }

pub learn-requires-clause-few : goal.learn-requires-clause-few
learn-requires-clause-few g c =
    let n = learned_count c.args.formula.now c.loop-k.log c.loop-k.watched.clauses c.loop-k.watched.trail c.loop-k.invariant.learned in
    omega (arith, n, c.decide_all.ensures.goes.count, c.count.ensures.value, c.count.ensures.bound, c.loop-k.invariant.lemmas, c.loop-k-test.true, c.loop-k.auto.k-end, c.requires.limit)

pub loop-k-preserved : goal.loop-k-preserved
loop-k-preserved g c =
    let t = c.decide_all.new.watched.trail in
    let clauses = c.decide_all.new.watched.clauses in
    let lower = c.explain.new.analysis.lower.items in
    let hints = c.explain.new.analysis.hints.items in
    let on = on_goes c.args.formula.now c.loop-k.log c.loop-k.watched.clauses clauses c.loop-k.watched.trail t c.loop-k.invariant.learned c.decide_all.ensures.goes in
    let explained = subst (λ (o : Option ℕ). IsExplained t clauses o lower hints) c.in-Some-2.is c.in_ok-explain.ensures.found in
    let learned = c.in_ok-learn-in-Some-2.ensures.learned in
    let out = c.in-Some.ensures.outcome in
    let variables : t.variables ≡ c.args.count = c.decide_all.ensures.goes.variables ∙ c.loop-k.invariant.variables in
    let stamp : c.explain.new.analysis.stamp ≡ c.loop-k.k + 1 = c.explain.ensures.stamp ∙ ap (λ n. n + 1) c.loop-k.invariant.stamp in
    record {
      lemmas = (let n = ap length learned.logged ∙ length-append c.loop-k.log (record { id = length clauses + 1; literals = map outer (negation c.in-Some-2.point ∷ learned.others); hints = reverse hints } ∷ []) in omega (arith, n, c.loop-k.invariant.lemmas));
      learned = learned_on c.args.formula.now c.loop-k.log c.learn.new.log clauses c.learn.new.watched.clauses t c.learn.new.watched.trail lower hints c.in-Some-2.point (variables ∙ c.requires.count)
          (record { trail = c.in_ok-explain.ensures.kept; below = out.below; distinct = c.in_ok-explain.ensures.distinct; current = out.current; made = explained.made; shown = explained.shown; ids = explained.ids }) on learned;
      ready = c.in_ok-learn-in-Some-2.ensures.ready;
      variables = ap (λ (u : Assignment ℕ). u.variables) learned.trail ∙ variables;
      size = ap length c.learn.ensures.stamps ∙ c.explain.ensures.size ∙ c.loop-k.invariant.size;
      old = subst (λ (xs : List ℕ). All (λ s. s ≤ c.loop-k.k + 1) xs) (sym c.learn.ensures.stamps) (subst (λ n. All (λ s. s ≤ n) c.explain.new.analysis.stamps.items) stamp c.explain.ensures.old);
      stamp = c.learn.ensures.stamp ∙ stamp;
    }

pub returns : goal.returns
returns g c = at_limit c.args.formula.now c.loop-k.log c.loop-k.watched.clauses c.loop-k.watched.trail c.args.most c.requires.least (omega (arith, c.loop-k.invariant.lemmas, c.loop-k-test.false, c.loop-k.auto.k-end)) c.loop-k.invariant.learned
