-- Tokens whose texts lie behind one another.
use Rattle.std.specs.Prelude.{◌≡◌, ◌≤◌, ℕ, Bool, true, false, List, [], ◌∷◌, length, take, drop, Option, Some, None}
use Rattle.std.specs.Str.{IsUtf8}
use Rattle.yaml_tokens.specs.declared.token.Token.{Token}
use Rattle.yaml_tokens.specs.declared.token.Token.TheVariants.{Dash, Colon, Open, Close, Comma, Plain, Quoted, Anchor, Alias}
use Rattle.yaml_tokens.specs.declared.token.TokenKind.{TokenKind}
use Rattle.yaml_tokens.specs.declared.token.TokenKind.TheVariants as kind
use Rattle.yaml_tokens.specs.declared.token.Placed.{Placed}
use Rattle.yaml_tokens.specs.declared.packed.Packed.{Packed}

-- what a token is
abbrev pub kind_of : Token → TokenKind
kind_of Dash = kind.Dash
kind_of Colon = kind.Colon
kind_of Open = kind.Open
kind_of Close = kind.Close
kind_of Comma = kind.Comma
kind_of (Plain text) = kind.Plain
kind_of (Quoted text) = kind.Quoted
kind_of (Anchor name) = kind.Anchor
kind_of (Alias name) = kind.Alias

-- whether a token of a kind has a text
abbrev pub has_text : TokenKind → Bool
has_text kind.Dash = false
has_text kind.Colon = false
has_text kind.Open = false
has_text kind.Close = false
has_text kind.Comma = false
has_text kind.Plain = true
has_text kind.Quoted = true
has_text kind.Anchor = true
has_text kind.Alias = true

-- its text, or nothing
abbrev pub text_in : Token → List ℕ
text_in Dash = []
text_in Colon = []
text_in Open = []
text_in Close = []
text_in Comma = []
text_in (Plain text) = text
text_in (Quoted text) = text
text_in (Anchor name) = name
text_in (Alias name) = name

-- the token of a kind, with a text if the kind has one
abbrev pub token_of : TokenKind → List ℕ → Token
token_of kind.Dash text = Dash
token_of kind.Colon text = Colon
token_of kind.Open text = Open
token_of kind.Close text = Close
token_of kind.Comma text = Comma
token_of kind.Plain text = Plain text
token_of kind.Quoted text = Quoted text
token_of kind.Anchor text = Anchor text
token_of kind.Alias text = Alias text

-- what the first token is, and what the second is
abbrev pub first_kind : List Placed → Option TokenKind
first_kind [] = None
first_kind (t ∷ ts) = Some (kind_of t.token)

abbrev pub second_kind : List Placed → Option TokenKind
second_kind [] = None
second_kind (t ∷ ts) = first_kind ts

-- the column of the first token, or 0
abbrev pub first_column : List Placed → ℕ
first_column [] = 0
first_column (t ∷ ts) = t.column

-- the tokens, each with so much of the text as it takes
abbrev pub unpacked : List Packed → List ℕ → List Placed
unpacked [] s = []
unpacked (p ∷ ps) s = record { column = p.column; token = token_of p.kind (take p.len s) } ∷ unpacked ps (drop p.len s)

-- each takes UTF-8 that is there, and all is taken
abbrev pub ArePacked : List Packed → List ℕ → Type 0
ArePacked [] s = s ≡ []
ArePacked (p ∷ ps) s = (p.len ≤ length s) × IsUtf8 (take p.len s) × ArePacked ps (drop p.len s)
