-- The tokens of names and of plain scalars.
use Rattle.std.specs.Prelude.{ℕ, if◌then◌else◌, List, ◌∷◌, Option, None}
use Rattle.yaml_tokens.specs.declared.name.NameKind.{NameKind}
use Rattle.yaml_tokens.specs.declared.name.NameKind.TheVariants as kind
use Rattle.yaml_tokens.specs.declared.token.Token.{Token}
use Rattle.yaml_tokens.specs.declared.token.Token.TheVariants.{Anchor, Alias}
use Rattle.yaml_tokens.specs.Tokens.{Lexed, begins_plain, plain_token}

-- the token of a name
abbrev pub named : NameKind → List ℕ → Token
named kind.Anchor name = Anchor name
named kind.Alias name = Alias name

-- the plain scalar that begins with b, if one may
abbrev pub scalar_at : ℕ → ℕ → List ℕ → Option Lexed
scalar_at depth b bs = if begins_plain depth b bs then plain_token depth (b ∷ bs) else None
