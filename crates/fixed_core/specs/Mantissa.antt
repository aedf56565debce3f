-- A number by its digits without the zeros at the end.
use Rattle.std.specs.Prelude.{◌≡◌, ◌≢◌, ◌⊎◌, ℕ, ◌*◌, ◌%◌, ◌^◌, ◌<◌, ◌≤◌, true, false}
use Rattle.fixed_core.specs.declared.mantissa.Mantissa.{Mantissa}

-- n is `head` with zeros at its end; `head` ends in no zero, and is known if it is below 10^37
pub record IsMantissa (n : ℕ) (m : Mantissa) : Type 0 where
  pub head : ℕ
  pub same : n ≡ head * 10 ^ m.zeros
  pub known : m.large ≡ false → (head ≡ m.value) × (head < 10 ^ 37)
  pub above : m.large ≡ true → 10 ^ 37 ≤ head
  pub ends : (head % 10 ≢ 0) ⊎ ((head ≡ 0) × (m.zeros ≡ 0))
