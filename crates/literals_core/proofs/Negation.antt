-- The negation of a literal.
use Rattle.std.proofs.Common.{◌≡◌, ◌≢◌, ℕ, ◌+◌, ◌-◌, ◌%◌, cond, ap, arith, inl, inr, ◌⊎◌}
use Rattle.std.proofs.lemmas.Bool.{cases_eq}
use Rattle.std.proofs.lemmas.Bool.Decides.{eqb_tells, nat_tests}
use Rattle.literals_core.specs.Literal.{variable_of, negation}

pub negation_twice : (l : ℕ) → negation (negation l) ≡ l
negation_twice l = grind (arith, nat_tests)

pub variable_of-negation : (l : ℕ) → variable_of (negation l) ≡ variable_of l
variable_of-negation l = grind (arith, nat_tests)

pub negation_differs : (l : ℕ) → negation l ≢ l
negation_differs l e = elim (eqb_tells (l % 2) 0) [
  | inl even ↦ (let up : negation l ≡ l + 1 = ap (λ t. cond t (l + 1) (l - 1)) even.0 in omega (arith, up, e))
  | inr odd ↦ (let down : negation l ≡ l - 1 = ap (λ t. cond t (l + 1) (l - 1)) odd.0 in odd.1 (omega (arith, down, e)))
]

pub same_variable : (l m : ℕ) → variable_of l ≡ variable_of m → (l ≡ m) ⊎ (l ≡ negation m)
same_variable l m h = elim (cases_eq l m) [
  | inl same ↦ inl same
  | inr other ↦ inr (elim (eqb_tells (m % 2) 0) [
    | inl even ↦ (let up : negation m ≡ m + 1 = ap (λ t. cond t (m + 1) (m - 1)) even.0 in omega (arith, up, even.1, h, other))
    | inr odd ↦ (let down : negation m ≡ m - 1 = ap (λ t. cond t (m + 1) (m - 1)) odd.0 in omega (arith, down, odd.1, h, other))
  ])
]
