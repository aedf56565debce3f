-- What a reader of tokens returns beside its definition.
use Rattle.std.specs.Prelude.{◌≡◌, Option, Some, None, Result, Ok, Err}
use Rattle.yaml_tokens.specs.declared.fault.TokenFault.{TokenFault}
use Rattle.yaml_tokens.specs.declared.fault.TokenFault.TheVariants as fault

-- Form exactly when nothing is meant; memory may run out at any point
abbrev pub FailsAs : {A : Type 0} → TokenFault → Option A → Type 0
FailsAs fault.Form meant = meant ≡ None
FailsAs fault.NoMemory meant = Unit {0}

-- the value that is meant, or a fault
abbrev pub Gives : {A : Type 0} → Result A TokenFault → Option A → Type 0
Gives (Ok a) meant = meant ≡ Some a
Gives (Err e) meant = FailsAs e meant
