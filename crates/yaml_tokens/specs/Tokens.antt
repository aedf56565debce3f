-- The tokens of each line of a text.
use Rattle.std.specs.Prelude.{ℕ, zero, suc, ◌+◌, ◌-◌, Bool, true, false, not, ◌&&◌, ◌||◌, ◌==◌, nat_lt, nat_le, if◌then◌else◌, List, [], ◌∷◌, length, drop, Option, Some, None, option_map, option_and_then}
use Rattle.std.specs.List.{list_any}
use Rattle.std.specs.Str.Lines.{lines}
use Rattle.yaml_tokens.specs.Quotes.{Reads, single_from, double_from, in_text}
use Rattle.yaml_tokens.specs.declared.token.Token.{Token}
use Rattle.yaml_tokens.specs.declared.token.Token.TheVariants.{Dash, Colon, Open, Close, Comma, Plain, Quoted, Anchor, Alias}
use Rattle.yaml_tokens.specs.declared.token.Placed.{Placed}
use Rattle.yaml_tokens.specs.declared.token.Before.{Before}
use Rattle.yaml_tokens.specs.declared.token.Before.TheVariants as before

abbrev pub Line : Type 0
Line = List Placed

-- ---- characters

-- a control character that is refused anywhere in a line; comments may have a tab
abbrev pub is_refused : ℕ → Bool
is_refused b = (nat_lt b 32 && not (b == 9)) || b == 127

-- what the first character of a plain scalar is not: , ] { } # & * ! | > % @ ` the quotes and a tab
abbrev pub is_indicator : ℕ → Bool
is_indicator b = b == 44 || b == 93 || b == 123 || b == 125 || b == 35 || b == 38 || b == 42 || b == 33
    || b == 124 || b == 62 || b == 37 || b == 64 || b == 96 || b == 39 || b == 34 || b == 9

-- , [ ] { }
abbrev pub is_flow : ℕ → Bool
is_flow b = b == 44 || b == 91 || b == 93 || b == 123 || b == 125

-- a space or the line's end comes next
abbrev pub is_blank_next : List ℕ → Bool
is_blank_next [] = true
is_blank_next (b ∷ bs) = b == 32

abbrev pub is_flow_next : List ℕ → Bool
is_flow_next [] = false
is_flow_next (b ∷ bs) = is_flow b

abbrev pub is_hash_next : List ℕ → Bool
is_hash_next [] = false
is_hash_next (b ∷ bs) = b == 35

-- a blank, or inside brackets one of , [ ] { }
abbrev pub is_separated : ℕ → List ℕ → Bool
is_separated depth bs = is_blank_next bs || (nat_lt 0 depth && is_flow_next bs)

-- ---- plain scalars

-- a plain scalar ends before b, which bs follow
abbrev pub ends_plain : ℕ → ℕ → List ℕ → Bool
ends_plain depth b bs = (b == 32 && is_hash_next bs)
    || (if depth == 0 then b == 58 && is_blank_next bs else b == 44 || b == 91 || b == 93)

-- b is refused in a plain scalar: a tab, and inside brackets { } and a colon that separates
abbrev pub breaks_plain : ℕ → ℕ → List ℕ → Bool
breaks_plain depth b bs = b == 9 || (nat_lt 0 depth && (b == 123 || b == 125 || (b == 58 && is_separated depth bs)))

-- the characters of a plain scalar with the spaces after it, and what is left of the line
abbrev pub plain : ℕ → List ℕ → Option (List ℕ × List ℕ)
plain depth [] = Some ([], [])
plain depth (b ∷ bs) =
    if ends_plain depth b bs then Some ([], b ∷ bs)
    else (if breaks_plain depth b bs then None else option_map (λ p. (b ∷ p.0, p.1)) (plain depth bs))

-- without the spaces at the end
abbrev pub put_front : ℕ → List ℕ → List ℕ
put_front b [] = if b == 32 then [] else b ∷ []
put_front b (c ∷ cs) = b ∷ c ∷ cs

abbrev pub without_end : List ℕ → List ℕ
without_end [] = []
without_end (b ∷ bs) = put_front b (without_end bs)

-- a plain scalar may begin with b, which bs follow
abbrev pub begins_plain : ℕ → ℕ → List ℕ → Bool
begins_plain depth b bs = not (is_indicator b || ((b == 45 || b == 63 || b == 58) && is_separated depth bs))

-- ---- quoted scalars

-- , or ] comes next
abbrev pub is_end_next : List ℕ → Bool
is_end_next [] = false
is_end_next (b ∷ bs) = b == 44 || b == 93

-- a colon comes next that separates
abbrev pub is_colon_next : List ℕ → Bool
is_colon_next [] = false
is_colon_next (b ∷ bs) = b == 58 && is_blank_next bs

-- what may follow a quoted scalar
abbrev pub ends_quoted : ℕ → List ℕ → Bool
ends_quoted depth bs = is_blank_next bs || (if depth == 0 then is_colon_next bs else is_end_next bs)

-- ---- the names of anchors

-- an ASCII letter or digit, _ or -
abbrev pub is_name : ℕ → Bool
is_name b = (nat_le 48 b && nat_le b 57) || (nat_le 65 b && nat_le b 90) || (nat_le 97 b && nat_le b 122)
    || b == 95 || b == 45

abbrev pub put_character : ℕ → List ℕ × List ℕ → List ℕ × List ℕ
put_character b (name, rest) = (b ∷ name, rest)

-- the characters of a name at the front, and what follows them
abbrev pub name_at : List ℕ → List ℕ × List ℕ
name_at [] = ([], [])
name_at (b ∷ bs) = if is_name b then put_character b (name_at bs) else ([], b ∷ bs)

-- what may follow a name
abbrev pub ends_name : ℕ → List ℕ → Bool
ends_name depth bs = is_blank_next bs || (nat_lt 0 depth && is_end_next bs)

-- ---- the tokens of a line

abbrev pub is_first : Before → Bool
is_first before.Nothing = true
is_first before.Scalar = false
is_first before.Other = false

abbrev pub is_scalar : Before → Bool
is_scalar before.Nothing = false
is_scalar before.Scalar = true
is_scalar before.Other = false

-- a token, what is left of the line, and the bracket depth after it
pub record Lexed : Type 0 where
  pub token : Token
  pub rest : List ℕ
  pub depth : ℕ

abbrev pub plain_token : ℕ → List ℕ → Option Lexed
plain_token depth bs =
    option_map (λ p. record { token = Plain (without_end p.0); rest = p.1; depth = depth }) (plain depth bs)

abbrev pub quoted_token : ℕ → Reads → Option Lexed
quoted_token depth read = option_and_then
    (λ (p : List ℕ × List ℕ).
    if ends_quoted depth p.1 then Some (record { token = Quoted p.0; rest = p.1; depth = depth }) else None)
    read

-- an anchor or an alias
abbrev pub name_token : (List ℕ → Token) → ℕ → List ℕ × List ℕ → Option Lexed
name_token make depth ([], rest) = None
name_token make depth (b ∷ bs, rest) =
    if ends_name depth rest then Some (record { token = make (b ∷ bs); rest = rest; depth = depth }) else None

-- The most brackets that are open at once: a list inside 64 others has more levels than a tree may have.
abbrev pub most_open : ℕ
most_open = 64

-- a bracket that opens a list
abbrev pub open_token : ℕ → List ℕ → Option Lexed
open_token depth bs =
    if nat_lt depth most_open then Some (record { token = Open; rest = bs; depth = depth + 1 }) else None

abbrev pub bracket_token : ℕ → ℕ → List ℕ → Option Lexed
bracket_token depth b bs =
    if b == 93 then Some (record { token = Close; rest = bs; depth = depth - 1 })
    else (if b == 44 then Some (record { token = Comma; rest = bs; depth = depth })
    else (if begins_plain depth b bs then plain_token depth (b ∷ bs) else None))

abbrev pub block_token : Before → ℕ → List ℕ → Option Lexed
block_token was b bs =
    if b == 45 && is_blank_next bs && is_first was then Some (record { token = Dash; rest = bs; depth = 0 })
    else (if b == 58 && is_blank_next bs && is_scalar was then Some (record { token = Colon; rest = bs; depth = 0 })
    else (if begins_plain 0 b bs then plain_token 0 (b ∷ bs) else None))

-- the token that begins with b
abbrev pub token_at : ℕ → Before → ℕ → List ℕ → Option Lexed
token_at depth was b bs =
    if b == 39 then quoted_token depth (single_from false bs)
    else (if b == 34 then quoted_token depth (double_from in_text bs)
    else (if b == 38 then name_token Anchor depth (name_at bs)
    else (if b == 42 then name_token Alias depth (name_at bs)
    else (if b == 91 then open_token depth bs
    else (if depth == 0 then block_token was b bs else bracket_token depth b bs)))))

-- a line may begin with several dashes
abbrev pub seen : Before → Token → Before
seen was Dash = was
seen was (Plain text) = before.Scalar
seen was (Quoted text) = before.Scalar
seen was Colon = before.Other
seen was Open = before.Other
seen was Close = before.Other
seen was Comma = before.Other
seen was (Anchor name) = before.Other
seen was (Alias name) = before.Other

abbrev pub with_front : Placed → Option (Line × ℕ) → Option (Line × ℕ)
with_front t read = option_map (λ p. (t ∷ p.0, p.1)) read

-- The tokens of what is left of a line of so many characters, and the bracket depth at its end; `spaced` says
-- that a comment may begin here. The first number bounds the turns; the count of characters is always enough.
unfoldable pub tokens_from : ℕ → ℕ → Bool → ℕ → Before → List ℕ → Option (Line × ℕ)
tokens_from zero width spaced depth was bs = Some ([], depth)
tokens_from (suc n) width spaced depth was [] = Some ([], depth)
tokens_from (suc n) width spaced depth was (b ∷ bs) =
    if b == 32 then tokens_from n width true depth was bs
    else (if b == 35 && spaced then Some ([], depth)
    else option_and_then
    (λ (x : Lexed). with_front (record { column = width - length (b ∷ bs); token = x.token })
    (tokens_from n width false x.depth (seen was x.token) x.rest))
    (token_at depth was b bs))

-- ---- the lines of a text

abbrev pub is_spaces_or_comment : List ℕ → Bool
is_spaces_or_comment [] = true
is_spaces_or_comment (b ∷ bs) = b == 35 || (b == 32 && is_spaces_or_comment bs)

-- --- at the left edge, with nothing after it, or a space and then only spaces and a comment
abbrev pub is_start : List ℕ → Bool
is_start (a ∷ b ∷ c ∷ bs) = a == 45 && b == 45 && c == 45 && is_blank_next bs && is_spaces_or_comment bs
is_start _ = false

-- --- or ... at the left edge, alone or before a space
abbrev pub is_marker : List ℕ → Bool
is_marker (a ∷ b ∷ c ∷ bs) = ((a == 45 && b == 45 && c == 45) || (a == 46 && b == 46 && c == 46)) && is_blank_next bs
is_marker _ = false

-- whether a line with tokens is kept: the first may be the start of a document, and is dropped; no other may be a
-- marker
abbrev pub kept : Bool → List ℕ → Option Bool
kept first l = if first && is_start l then Some false else (if is_marker l then None else Some true)

-- the lines with one more at the front; one without tokens is dropped
abbrev pub put_line : Bool → List ℕ → Line → (Bool → Option (List Line)) → Option (List Line)
put_line first l [] more = more first
put_line first l (t ∷ ts) more =
    option_and_then (λ k. if k then option_map (λ ls. (t ∷ ts) ∷ ls) (more false) else more false) (kept first l)

-- the tokens of a line without control characters
abbrev pub line_tokens : ℕ → List ℕ → Option (Line × ℕ)
line_tokens depth l =
    if list_any is_refused l then None else tokens_from (length l) (length l) true depth before.Nothing l

-- The lines that have tokens. The bracket depth goes on from line to line; `first` says that no line with tokens came
-- before.
abbrev pub lines_tokens : Bool → ℕ → List (List ℕ) → Option (List Line)
lines_tokens first depth [] = Some []
lines_tokens first depth (l ∷ ls) =
    option_and_then (λ (p : Line × ℕ). put_line first l p.0 (λ f. lines_tokens f p.1 ls)) (line_tokens depth l)

-- the text begins with a byte order mark, U+FEFF
abbrev pub has_mark : List ℕ → Bool
has_mark (a ∷ b ∷ c ∷ bs) = a == 239 && b == 187 && c == 191
has_mark _ = false

abbrev pub without_mark : List ℕ → List ℕ
without_mark bs = if has_mark bs then drop 3 bs else bs

abbrev pub text_tokens : List ℕ → Option (List Line)
text_tokens text = lines_tokens true 0 (lines (without_mark text))
