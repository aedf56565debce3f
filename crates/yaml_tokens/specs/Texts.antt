-- Texts by their bytes.
use Rattle.std.specs.Prelude.{ℕ, List, string_bytes}
use Rattle.std.specs.Rc.{rc_str_bytes}
use Rattle.yaml_tokens.specs.declared.text.Held.{Held}
use Rattle.yaml_tokens.specs.declared.text.Held.TheVariants.{Own, Shared}

-- the bytes of a text, however it is held
abbrev pub held_bytes : Held → List ℕ
held_bytes (Own text) = string_bytes text
held_bytes (Shared text) = rc_str_bytes text
