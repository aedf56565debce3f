-- What the lexer's functions give.
use Rattle.std.specs.Prelude.{◌≡◌, ℕ, ◌<◌, ◌≤◌, List, [], ◌∷◌, length, drop, slice_index, Option, Some, None, option_map, Result, Ok, Err}
use Rattle.std.specs.Str.{IsCharBoundary}
use Rattle.yaml_tokens.specs.declared.fault.TokenFault.{TokenFault}
use Rattle.yaml_tokens.specs.declared.lines.Reached.{Reached}
use Rattle.yaml_tokens.specs.declared.token.Token.{Token}
use Rattle.yaml_tokens.specs.declared.token.Before.{Before}
use Rattle.yaml_tokens.specs.Tokens.{Line, Lexed, plain_token, token_at, lines_tokens}
use Rattle.yaml_tokens.specs.Results.{FailsAs}

-- so many bytes were taken, at least one, up to where a character ends
pub record Takes (s : List ℕ) (taken : ℕ) : Type 0 where
  pub some : 0 < taken
  pub within : taken ≤ length s
  pub boundary : IsCharBoundary s taken

abbrev pub LexesPlain : ℕ → List ℕ → Result (Token × ℕ) TokenFault → Type 0
LexesPlain depth s (Ok p) =
    (plain_token depth s ≡ Some (record { token = p.0; rest = drop p.1 s; depth = depth })) × Takes s p.1
LexesPlain depth s (Err e) = FailsAs e (plain_token depth s)

-- a token, how many bytes it takes, and the bracket depth after it
abbrev pub LexesAs : List ℕ → Result (Token × ℕ × ℕ) TokenFault → Option Lexed → Type 0
LexesAs s (Ok p) meant = (meant ≡ Some (record { token = p.0; rest = drop p.1 s; depth = p.2 })) × Takes s p.1
LexesAs s (Err e) meant = FailsAs e meant

abbrev pub Lexes : ℕ → Before → List ℕ → Result (Token × ℕ × ℕ) TokenFault → Type 0
Lexes depth was s r = LexesAs s r (token_at depth was (slice_index s 0) (drop 1 s))

-- each token is further right than the one before
abbrev pub IsRising : Line → Type 0
IsRising [] = Unit {0}
IsRising (t ∷ []) = Unit {0}
IsRising (t ∷ u ∷ ts) = (t.column < u.column) × IsRising (u ∷ ts)

-- the last token is left of the column
abbrev pub EndsBelow : Line → ℕ → Type 0
EndsBelow [] c = Unit {0}
EndsBelow (t ∷ []) c = t.column < c
EndsBelow (t ∷ u ∷ ts) c = EndsBelow (u ∷ ts) c

-- the tokens of the lines that are left, with those of a line in front if they are kept
abbrev pub with_kept : Option Line → Option (List Line) → Option (List Line)
with_kept None read = read
with_kept (Some l) read = option_map (λ ls. l ∷ ls) read

-- what a line gives in front of any lines, and how far they were read then
abbrev pub GivesLine : Result (Option Line × Reached) TokenFault → (List (List ℕ) → Option (List Line)) → Type 0
GivesLine (Ok p) meant = (ls : List (List ℕ)) → meant ls ≡ with_kept p.0 (lines_tokens p.1.is_first p.1.depth ls)
GivesLine (Err e) meant = (ls : List (List ℕ)) → FailsAs e (meant ls)
