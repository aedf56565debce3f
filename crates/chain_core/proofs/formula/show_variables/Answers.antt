use Rattle.std.proofs.Common.{◌≡◌, ℕ, ◌<◌, ◌≤◌, List, length, get_or, sym, ap, ◌∙◌, subst, arith, inl, inr}
use Rattle.std.proofs.lemmas.Bool.{cases_eq}
use Rattle.std.proofs.lemmas.List.{get_or_default}
use Rattle.literals_core.specs.Literal.{variable_of}
use Rattle.chain_core.proofs.formula.show_variables.Goals as goal

here : (literals : List ℕ) (i k d item : ℕ) → k ≡ i → item ≡ get_or literals i item → i < length literals → 1 ≤ variable_of item → 1 ≤ variable_of (get_or literals k d)
here literals i k d item same is lt least =
    let at : get_or literals k d ≡ item = ap (λ j. get_or literals j d) same ∙ get_or_default literals i d item lt ∙ sym is in
    subst (λ x. 1 ≤ variable_of x) (sym at) least

pub loop-literal-preserved : goal.loop-literal-preserved
loop-literal-preserved c = λ k d lt. elim (cases_eq k c.loop-literal.literal-index) [
  | inl same ↦ here _ _ k d _ same c.literal-item.is c.loop-literal-test.true (subst (λ n. 1 ≤ n) c.variable-variable.ensures.value c.variable-variable.ensures.least)
  | inr other ↦ c.loop-literal.invariant k d (omega (arith, other, lt))
]
