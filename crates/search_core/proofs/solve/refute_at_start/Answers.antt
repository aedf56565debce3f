use Rattle.std.proofs.Common.{◌≡◌, ℕ, ◌+◌, ◌++◌, ◌∷◌, [], length, List, reverse, ap, sym, ◌∙◌, arith}
use Rattle.std.proofs.lemmas.List.{append-nil}
use Rattle.chain_core.specs.declared.log.Lemma.{Lemma}
use Rattle.search_core.proofs.LogLemmas.{refuted, none_good}
use Rattle.search_core.proofs.UnitLemmas.{shown_at_start}
use Rattle.search_core.proofs.solve.refute_at_start.Goals as goal

pub returns : goal.returns
returns g c most least =
    let formula = c.args.formula.now in
    let t = c.args.watched.now.trail in
    let clauses = c.args.watched.now.clauses in
    let lower = c.explain.new.analysis.lower.items in
    let hints = c.explain.new.analysis.hints.items in
    let met = c.requires.met in
    let found = c.in_ok-explain.ensures.found in
    let lemma : ℕ → List ℕ → Lemma = λ n hs. record { id = n + 1; literals = []; hints = reverse hs } in
    let is : c.log_lemma.new.log ≡ lemma (length clauses) hints ∷ [] =
    c.in_ok-log_lemma.ensures ∙ ap (λ (ls : List Lemma). ls ++ lemma c.count-id-2.result c.as_slice.result.now ∷ []) c.new-log.ensures
    ∙ ap (λ n. lemma n c.as_slice.result.now ∷ []) (c.count-id-2.ensures ∙ ap length c.arena.ensures.value) ∙ ap (λ (hs : List ℕ). lemma (length clauses) hs ∷ []) c.as_slice.ensures.value in
    record {
      refutes = refuted formula [] c.log_lemma.new.log clauses met.0 lower hints (met.1 ∙ sym (append-nil formula.clauses)) met.2.order (none_good formula) (shown_at_start t clauses c.in_ok-explain.field-0 lower hints met.2.start found) found.ids is;
      short = (let n = ap length is in omega (arith, n, least));
    }
