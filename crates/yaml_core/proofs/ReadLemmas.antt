-- From what the tree of a text is to what its bytes are read as.
use Rattle.std.proofs.Common.{◌≡◌, ℕ, ◌≤◌, arith, Some, None, true, false, List, Option, Result, Ok, Err, refl, ap, ◌⊎◌, inl, inr, Bool, sym}
use Rattle.std.specs.Prelude.{MatchResult, IfOk, option_map, option_and_then}
use Rattle.std.specs.Str.{IsUtf8, is_utf8}
use Rattle.std.proofs.lemmas.Str.{is_utf8-from_IsUtf8, IsUtf8-from_is_utf8}
use Rattle.yaml_core.specs.declared.fault.YamlFault.{YamlFault}
use Rattle.yaml_core.specs.declared.fault.YamlFault.TheVariants.{NotUtf8, Form, Many, NoMemory}
use Rattle.yaml_core.specs.declared.node.Node.{Node}
use Rattle.yaml_core.specs.Measured.{Measured}
use Rattle.yaml_core.specs.Size.{node_height}
use Rattle.yaml_tokens.specs.Tokens.{Line, text_tokens}
use Rattle.yaml_core.specs.Tree.{tree, text_tree, text_measured, max_levels}
use Rattle.yaml_core.proofs.HeightLemmas.{tree-height}
use Rattle.yaml_core.specs.Stack.{FailsAs}
use Rattle.yaml_core.specs.Read.{reading, within_limit}

pub reading-utf8 : (text bytes : List ℕ) → (text ≡ bytes) × IsUtf8 bytes → reading bytes ≡ within_limit (text_tree text)
reading-utf8 text bytes h = rw (is_utf8-from_IsUtf8 bytes h.1) (ap (λ t. within_limit (text_tree t)) (sym h.0))

pub reading-not-utf8 : (bytes : List ℕ) → (IsUtf8 bytes → ⊥) → reading bytes ≡ Err NotUtf8
reading-not-utf8 bytes h = by_test (is_utf8 bytes) refl
  where
    by_test : (b : Bool) → is_utf8 bytes ≡ b → reading bytes ≡ Err NotUtf8
    by_test true e = absurd (h (IsUtf8-from_is_utf8 bytes e))
    by_test false e = rw e refl

-- a text that fails has no tree, unless memory ran out
pub fails-reading : (e : YamlFault) (meant : Option Measured) → FailsAs e meant → (e ≡ NoMemory) ⊎ (within_limit (option_map (λ m. m.node) meant) ≡ Err e)
fails-reading NotUtf8 meant h = absurd h
fails-reading Form meant h = inr (ap (λ o. within_limit (option_map (λ m. m.node) o)) h)
fails-reading Many meant h = absurd h
fails-reading NoMemory meant h = inl refl

-- what a tree within the limit or past it answers
pub answers : (r read : Result Node YamlFault) → read ≡ r → MatchResult r (λ tree. read ≡ Ok tree) (λ fault. (fault ≡ NoMemory) ⊎ (read ≡ Err fault))
answers (Ok n) read e = e
answers (Err f) read e = inr e

-- the tree of a text has no more levels than it may
pub text-levels : (text : List ℕ) (m : Measured) → text_measured text ≡ Some m → m.height ≤ max_levels
text-levels text m e = by_tokens (text_tokens text) e
  where
    by_tokens : (read : Option (List Line)) → option_and_then tree read ≡ Some m → m.height ≤ max_levels
    by_tokens None e = absurd (cc)
    by_tokens (Some ls) e = tree-height ls m e

pub levels-of : (read : Result Node YamlFault) (m : Measured) → IfOk read (λ n. node_height n ≡ m.height) → m.height ≤ max_levels → IfOk read (λ n. node_height n ≤ max_levels)
levels-of (Ok n) m e h = omega arith
levels-of (Err f) m e h = tt
