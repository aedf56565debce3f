-- Faults that go on from one reading to the next.
use Rattle.std.proofs.Common.{◌≡◌, Option, None}
use Rattle.yaml_tokens.specs.declared.fault.TokenFault.{TokenFault}
use Rattle.yaml_tokens.specs.declared.fault.TokenFault.TheVariants as fault
use Rattle.yaml_tokens.specs.Results.{FailsAs}

pub fails-gives : {A B : Type 0} (e : TokenFault) (o : Option A) (meant : Option B) → FailsAs e o → (o ≡ None → meant ≡ None) → FailsAs e meant
fails-gives fault.Form o meant h f = f h
fails-gives fault.NoMemory o meant h f = tt
