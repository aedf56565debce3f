-- From the lines of a text to its tree, one line after another.
use Rattle.std.proofs.Common.{◌≡◌, ℕ, Bor, List, [], ◌∷◌, refl, ap, sym, ◌∙◌, subst, Option, Some, None, Result, Ok, Err}
use Rattle.std.specs.Prelude.{option_map, option_and_then}
use Rattle.std.specs.Iterator.{AlwaysYields}
use Rattle.std.specs.Str.Iter.{lines_steps, lines_rest}
use Rattle.std.specs.Str.Lines.{lines}
use Rattle.std.proofs.lemmas.Iterator.Splits.{YieldsList-from_lines}
use Rattle.yaml_core.specs.declared.fault.YamlFault.{YamlFault}
use Rattle.yaml_core.specs.declared.fault.YamlFault.TheVariants as fault
use Rattle.yaml_core.specs.declared.stack.Child.{Child}
use Rattle.yaml_core.specs.declared.stack.Child.TheVariants.{Open}
use Rattle.yaml_core.specs.declared.stack.Stack.{Stack}
use Rattle.yaml_tokens.specs.declared.fault.TokenFault.{TokenFault}
use Rattle.yaml_tokens.specs.declared.fault.TokenFault.TheVariants as token
use Rattle.yaml_tokens.specs.Results as results
use Rattle.yaml_core.specs.Faults.{yaml_fault}
use Rattle.yaml_core.specs.Measured.{Measured}
use Rattle.yaml_core.specs.Reading.{Names, Reading}
use Rattle.yaml_tokens.specs.Tokens.{Line}
use Rattle.yaml_core.specs.Tree.{block, tree, max_levels}
use Rattle.yaml_core.specs.Stack.{child_lines, meaning, HasNone, FailsAs, Gives, GivesWith}
use Rattle.yaml_core.proofs.ContextLemmas.{Outcome}
use Rattle.yaml_core.proofs.StackLemmas.{around-root}

abbrev pub tree_in : Outcome → Option Measured
tree_in o = option_map (λ p. p.0) o

-- a stack with nothing open stands for the tree of all lines
pub tree-start : (s : Stack) (names : Names) (read : Option (List Line)) → s.frames.items ≡ [] → s.child ≡ Open None → names ≡ []
    → option_and_then (λ ts. tree_in (meaning s ts names)) read ≡ option_and_then tree read
tree-start s names None frames child none = refl
tree-start s names (Some ls) frames child none =
    ap (λ (r : Reading Measured). tree_in (r names)) (around-root s.frames.items s.child ls frames)
    ∙ ap (λ (c : Child). tree_in (child_lines max_levels c ls names)) child
    ∙ ap (λ (n : Names). tree_in (block max_levels ls n)) none

-- the stack after a line stands for the same tree, in front of any lines
pub tree-front : (s t : Stack) (names after : Names) (l : Line) (read : Option (List Line)) → ((ls : List Line) → meaning t ls after ≡ meaning s (l ∷ ls) names)
    → option_and_then (λ ts. tree_in (meaning t ts after)) read ≡ option_and_then (λ ts. tree_in (meaning s ts names)) (option_map (λ ls. l ∷ ls) read)
tree-front s t names after l None same = refl
tree-front s t names after l (Some ls) same = ap tree_in (same ls)

-- a line that no lines complete leaves no tree
pub tree-none : (e : YamlFault) (s : Stack) (names : Names) (l : Line) (read : Option (List Line)) → HasNone e (λ ls _. meaning s (l ∷ ls) names)
    → FailsAs e (option_and_then (λ ts. tree_in (meaning s ts names)) (option_map (λ ls. l ∷ ls) read))
tree-none fault.Form s names l None h = refl
tree-none fault.Form s names l (Some ls) h = ap tree_in (h ls [])
tree-none fault.NoMemory s names l read h = tt
tree-none fault.NotUtf8 s names l read h = h
tree-none fault.Many s names l read h = h

-- a fault is that of the whole text
pub fails-same : (e : YamlFault) (o whole : Option Measured) → FailsAs e o → o ≡ whole → FailsAs e whole
fails-same e o whole h same = subst (FailsAs e) same h

-- the tree of what was read is that of the whole text
pub gives-tree : (r : Result Measured YamlFault) (after : Names) (o : Outcome) (whole : Option Measured) → GivesWith r after o → tree_in o ≡ whole → Gives r whole
gives-tree (Ok m) after o whole h same = sym same ∙ ap tree_in h
gives-tree (Err fault.Form) after o whole h same = sym same ∙ ap tree_in h
gives-tree (Err fault.NoMemory) after o whole h same = tt
gives-tree (Err fault.NotUtf8) after o whole h same = h
gives-tree (Err fault.Many) after o whole h same = h

-- ---- the lines that are left

-- what an iterator still gives has a property
pub record Left {S : Type 0} (steps : S → Option (Bor (List ℕ)) → S → Type 0) (it : S) (P : List (List ℕ) → Type 0) : Type 0 where
  pub rest : List (List ℕ)
  pub gives : AlwaysYields steps (λ x. x.now) it rest
  pub holds : P rest

pub left-start : {it : _} (text : List ℕ) (P : List (List ℕ) → Type 0) → lines_rest it ≡ text → P (lines text) → Left lines_steps it P
left-start text P e p = record { rest = lines text; gives = (YieldsList-from_lines text e).runs; holds = p }

module _ {S : Type 0} (steps : S → Option (Bor (List ℕ)) → S → Type 0) (it after : S) where
  -- the next line is the first that is left
  left-head : (x : Bor (List ℕ)) (rest : List (List ℕ)) → AlwaysYields steps (λ x. x.now) it rest → steps it (Some x) after
      → (more : List (List ℕ)) × (rest ≡ x.now ∷ more) × AlwaysYields steps (λ x. x.now) after more
  left-head x [] gives step = absurd (gives x after step)
  left-head x (y ∷ more) gives step = let h = gives.1 x after step in (more, ap (λ z. z ∷ more) (sym h.0), h.1)

  pub left-next : (x : Bor (List ℕ)) (P Q : List (List ℕ) → Type 0) → Left steps it P → steps it (Some x) after → ((more : List (List ℕ)) → P (x.now ∷ more) → Q more) → Left steps after Q
  left-next x P Q left step f =
      let h = left-head x left.rest left.gives step in record { rest = h.0; gives = h.2; holds = f h.0 (subst P h.1 left.holds) }

  -- the lines that are left at a line
  pub left-here : (x : Bor (List ℕ)) (P : List (List ℕ) → Type 0) → Left steps it P → steps it (Some x) after → (more : List (List ℕ)) × P (x.now ∷ more)
  left-here x P left step = let h = left-head x left.rest left.gives step in (h.0, subst P h.1 left.holds)

  pub left-none : (P : List (List ℕ) → Type 0) → Left steps it P → steps it None after → P []
  left-none P left step = by_rest left.rest left.gives left.holds
    where
      by_rest : (rest : List (List ℕ)) → AlwaysYields steps (λ (x : Bor (List ℕ)). x.now) it rest → P rest → P []
      by_rest [] gives p = p
      by_rest (y ∷ more) gives p = absurd (gives.0 after step)

-- ---- tokens and values

-- a line without tokens leaves no tree
pub fails-token : (e : TokenFault) (meant : Option (List Line)) (f : List Line → Option Measured) → results.FailsAs e meant → FailsAs (yaml_fault e) (option_and_then f meant)
fails-token token.Form meant f h = ap (λ o. option_and_then f o) h
fails-token token.NoMemory meant f h = tt
