-- Documents as they are written: lines of a few shapes, the text of such lines, and their tokens.
use Rattle.std.specs.Prelude.{◌≡◌, ℕ, zero, suc, ◌+◌, Bool, true, false, not, ◌&&◌, ◌||◌, ◌==◌, List, [], ◌∷◌, ◌++◌}
use Rattle.std.specs.Prelude.{length, codes}
use Rattle.std.specs.List.{list_all}
use Rattle.std.specs.Str.{IsUtf8}
use Rattle.yaml_tokens.specs.declared.token.Token.{Token}
use Rattle.yaml_tokens.specs.declared.token.Token.TheVariants.{Dash, Colon, Open, Close, Comma, Plain, Quoted, Anchor}
use Rattle.yaml_tokens.specs.declared.token.Token.TheVariants.{Alias}
use Rattle.yaml_tokens.specs.declared.token.Placed.{Placed}
use Rattle.yaml_tokens.specs.Tokens.{Line, is_name}
use Rattle.yaml_tokens.specs.Written.{quoted_text}

-- ---- what is written

-- a word as it is, or a text in double quotes
pub data Scalar : Type 0 where
  Word : List ℕ → Scalar
  Text : List ℕ → Scalar

-- how a line begins: with a dash, with a key and a colon, or with a dash and then a key and a colon
pub data Start : Type 0 where
  Item : Start
  Key : List ℕ → Start
  ItemKey : List ℕ → Start

-- what follows: nothing, a scalar, a flow list of scalars, an anchor alone or an alias
pub data Value : Type 0 where
  Blank : Value
  One : Scalar → Value
  Flow : List Scalar → Value
  Named : List ℕ → Value
  Same : List ℕ → Value

-- a line with so many spaces in front
pub record DocLine : Type 0 where
  pub indent : ℕ
  pub start : Start
  pub value : Value

abbrev pub line : ℕ → Start → Value → DocLine
line c start value = record { indent = c; start = start; value = value }

-- ---- the text

-- the character that ends a line
abbrev pub line_feed : ℕ
line_feed = 10

abbrev pub spaces : ℕ → List ℕ
spaces zero = []
spaces (suc n) = codes " " ++ spaces n

abbrev pub scalar_text : Scalar → List ℕ
scalar_text (Word t) = t
scalar_text (Text t) = quoted_text t

-- the items behind the first, each behind a comma and a space, and the closing bracket
abbrev pub more_text : List Scalar → List ℕ
more_text [] = codes "]"
more_text (s ∷ ss) = codes ", " ++ (scalar_text s ++ more_text ss)

abbrev pub flow_text : List Scalar → List ℕ
flow_text [] = codes "[]"
flow_text (s ∷ ss) = codes "[" ++ (scalar_text s ++ more_text ss)

abbrev pub value_text : Value → List ℕ
value_text Blank = []
value_text (One s) = codes " " ++ scalar_text s
value_text (Flow ss) = codes " " ++ flow_text ss
value_text (Named name) = codes " &" ++ name
value_text (Same name) = codes " *" ++ name

abbrev pub key_text : List ℕ → Value → List ℕ
key_text key v = key ++ (codes ":" ++ value_text v)

abbrev pub body_text : Start → Value → List ℕ
body_text Item v = codes "-" ++ value_text v
body_text (Key key) v = key_text key v
body_text (ItemKey key) v = codes "- " ++ key_text key v

-- a line without its end
abbrev pub line_text : DocLine → List ℕ
line_text l = spaces l.indent ++ body_text l.start l.value

-- the lines, each ended by LF
abbrev pub document_text : List DocLine → List ℕ
document_text [] = []
document_text (l ∷ ls) = line_text l ++ line_feed ∷ document_text ls

-- ---- the tokens

abbrev pub at : ℕ → Token → Placed
at column token = record { column = column; token = token }

abbrev pub scalar_token : Scalar → Token
scalar_token (Word t) = Plain t
scalar_token (Text t) = Quoted t

abbrev pub more_tokens : ℕ → List Scalar → Line
more_tokens c [] = at c Close ∷ []
more_tokens c (s ∷ ss) = at c Comma ∷ at (c + 2) (scalar_token s) ∷ more_tokens (c + 2 + length (scalar_text s)) ss

abbrev pub flow_tokens : ℕ → List Scalar → Line
flow_tokens c [] = at c Open ∷ at (c + 1) Close ∷ []
flow_tokens c (s ∷ ss) = at c Open ∷ at (c + 1) (scalar_token s) ∷ more_tokens (c + 1 + length (scalar_text s)) ss

abbrev pub value_tokens : ℕ → Value → Line
value_tokens c Blank = []
value_tokens c (One s) = at (c + 1) (scalar_token s) ∷ []
value_tokens c (Flow ss) = flow_tokens (c + 1) ss
value_tokens c (Named name) = at (c + 1) (Anchor name) ∷ []
value_tokens c (Same name) = at (c + 1) (Alias name) ∷ []

abbrev pub key_tokens : ℕ → List ℕ → Value → Line
key_tokens c key v = at c (Plain key) ∷ at (c + length key) Colon ∷ value_tokens (c + length key + 1) v

abbrev pub body_tokens : ℕ → Start → Value → Line
body_tokens c Item v = at c Dash ∷ value_tokens (c + 1) v
body_tokens c (Key key) v = key_tokens c key v
body_tokens c (ItemKey key) v = at c Dash ∷ key_tokens (c + 2) key v

abbrev pub tokens_in : DocLine → Line
tokens_in l = body_tokens l.indent l.start l.value

-- ---- what may be written

abbrev pub point : ℕ
point = 46

abbrev pub hyphen : ℕ
hyphen = 45

-- an ASCII letter or digit, _, - or a point
abbrev pub is_word_byte : ℕ → Bool
is_word_byte b = is_name b || b == point

-- one such character or more, and not - alone
abbrev pub is_word : List ℕ → Bool
is_word [] = false
is_word (b ∷ []) = is_word_byte b && not (b == hyphen)
is_word (b ∷ c ∷ cs) = is_word_byte b && list_all is_word_byte (c ∷ cs)

-- a word that begins with neither - nor a point
abbrev pub is_key : List ℕ → Bool
is_key [] = false
is_key (b ∷ bs) = is_name b && not (b == hyphen) && list_all is_word_byte bs

-- one character or more of an anchor's name
abbrev pub is_anchor : List ℕ → Bool
is_anchor [] = false
is_anchor (b ∷ bs) = list_all is_name (b ∷ bs)

abbrev pub IsGoodScalar : Scalar → Type 0
IsGoodScalar (Word t) = is_word t ≡ true
IsGoodScalar (Text t) = Unit {0}

abbrev pub AreGoodScalars : List Scalar → Type 0
AreGoodScalars [] = Unit {0}
AreGoodScalars (s ∷ ss) = IsGoodScalar s × AreGoodScalars ss

abbrev pub IsGoodValue : Value → Type 0
IsGoodValue Blank = Unit {0}
IsGoodValue (One s) = IsGoodScalar s
IsGoodValue (Flow ss) = AreGoodScalars ss
IsGoodValue (Named name) = is_anchor name ≡ true
IsGoodValue (Same name) = is_anchor name ≡ true

abbrev pub IsGoodStart : Start → Type 0
IsGoodStart Item = Unit {0}
IsGoodStart (Key key) = is_key key ≡ true
IsGoodStart (ItemKey key) = is_key key ≡ true

abbrev pub IsGoodLine : DocLine → Type 0
IsGoodLine l = IsGoodStart l.start × IsGoodValue l.value

abbrev pub AreGoodLines : List DocLine → Type 0
AreGoodLines [] = Unit {0}
AreGoodLines (l ∷ ls) = IsGoodLine l × AreGoodLines ls

-- ---- texts that are UTF-8

abbrev pub IsUtf8Scalar : Scalar → Type 0
IsUtf8Scalar (Word t) = Unit {0}
IsUtf8Scalar (Text t) = IsUtf8 t

abbrev pub AreUtf8Scalars : List Scalar → Type 0
AreUtf8Scalars [] = Unit {0}
AreUtf8Scalars (s ∷ ss) = IsUtf8Scalar s × AreUtf8Scalars ss

abbrev pub IsUtf8Value : Value → Type 0
IsUtf8Value Blank = Unit {0}
IsUtf8Value (One s) = IsUtf8Scalar s
IsUtf8Value (Flow ss) = AreUtf8Scalars ss
IsUtf8Value (Named name) = Unit {0}
IsUtf8Value (Same name) = Unit {0}

abbrev pub AreUtf8Lines : List DocLine → Type 0
AreUtf8Lines [] = Unit {0}
AreUtf8Lines (l ∷ ls) = IsUtf8Value l.value × AreUtf8Lines ls
