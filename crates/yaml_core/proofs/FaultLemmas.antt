-- Faults that go on from one reading to the next.
use Rattle.std.proofs.Common.{◌≡◌, Option, None}
use Rattle.yaml_core.specs.declared.fault.YamlFault.{YamlFault}
use Rattle.yaml_core.specs.declared.fault.YamlFault.TheVariants as fault
use Rattle.yaml_core.specs.Stack.{FailsAs}

pub fails-gives : {A B : Type 0} (e : YamlFault) (o : Option A) (meant : Option B) → FailsAs e o → (o ≡ None → meant ≡ None) → FailsAs e meant
fails-gives fault.Form o meant h f = f h
fails-gives fault.NoMemory o meant h f = tt
fails-gives fault.NotUtf8 o meant h f = h
fails-gives fault.Many o meant h f = h
