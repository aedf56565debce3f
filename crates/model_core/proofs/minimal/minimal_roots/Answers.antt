use Rattle.std.proofs.Common.{◌≡◌, ℕ, ◌+◌, ◌<◌, true, false, List, [], ◌∷◌, ◌++◌, length, get_or, sym, ap, ◌∙◌, subst, arith}
use Rattle.std.specs.List.{Contains, list_any}
use Rattle.std.specs.List.Sorted.{IsStrictlyIncreasing}
use Rattle.std.proofs.Common.{take}
use Rattle.sorting_rule.proofs.MinimalFacts.{AreKept}
use Rattle.sorting_rule.specs.Coalition.{is_inside}
use Rattle.model_core.proofs.MinimalLemmas.{step_old, step_new, step_end}
use Rattle.model_core.proofs.minimal.minimal_roots.Goals as goal
use Rattle.model_core.proofs.minimal.minimal_roots.Goals.{then-not-contains_root+in_ok-push, else-not-contains_root}

pub loop-set-preserved : goal.loop-set-preserved
loop-set-preserved c =
    let sets : List ℕ = c.deref-set-items.result.now in
    let i : ℕ = c.loop-set.set-index in
    let rises : IsStrictlyIncreasing sets = subst IsStrictlyIncreasing (sym c.deref-set-items.ensures.value) c.sort_distinct.ensures.rises in
    let lt : i < length sets = omega arith in
    let any : c.contains_root.result ≡ list_any (λ root. is_inside root (get_or sets i 0)) c.loop-set.roots.items =
    c.contains_root.ensures ∙ ap (λ roots. list_any (λ root. is_inside root (get_or sets i 0)) roots) c.deref.ensures.value in
    elim c.if-not-contains_root.branch [
      | then-not-contains_root+in_ok-push w ↦ (
          let more : c.if-not-contains_root.roots.items ≡ c.loop-set.roots.items ++ get_or sets i 0 ∷ [] = cc (w.roots-is, w.in_ok-push.ensures.items) in
          let none : list_any (λ root. is_inside root (get_or sets i 0)) c.loop-set.roots.items ≡ false = cc (any, w.if-not-contains_root.true) in
          step_new sets rises i lt c.loop-set.roots.items c.loop-set.invariant none c.if-not-contains_root.roots.items more)
      | else-not-contains_root w ↦ (
          let same : c.loop-set.roots.items ≡ c.if-not-contains_root.roots.items = cc (w.roots-is) in
          let some : list_any (λ root. is_inside root (get_or sets i 0)) c.loop-set.roots.items ≡ true = cc (any, w.if-not-contains_root.false) in
          subst (AreKept (take (i + 1) sets)) same (step_old sets rises i lt c.loop-set.roots.items c.loop-set.invariant some))
    ]

pub returns : goal.returns
returns c =
    let sets : List ℕ = c.deref-set-items.result.now in
    let same : sets ≡ c.sort_distinct.new.numbers.items = c.deref-set-items.ensures.value in
    let copied : c.in_ok-sets.sets.items ≡ c.args.masks.now = c.in_ok-sets.ensures.items_if_clones_equal (λ x y h. h) in
    step_end c.args.masks.now sets c.loop-set.roots.items c.loop-set.set-index (omega arith)
    (λ x among. subst (λ xs. Contains xs x) copied (c.sort_distinct.ensures.adds_none x (subst (λ xs. Contains xs x) same among)))
    (λ x among. subst (λ xs. Contains xs x) (sym same) (c.sort_distinct.ensures.keeps x (subst (λ xs. Contains xs x) (sym copied) among)))
    c.loop-set.invariant
