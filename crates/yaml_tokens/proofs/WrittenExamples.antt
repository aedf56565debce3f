-- A text in double quotes at a worked example.
use Rattle.std.proofs.Common.{◌≡◌, [], ◌∷◌, ◌++◌, codes, refl}
use Rattle.yaml_tokens.specs.Written.{quoted_text}

-- a double quote, a backslash, a tab, LF, U+0000, U+007F and U+00E9
each_kind : quoted_text (codes "a\"\\" ++ 9 ∷ 10 ∷ 0 ∷ 127 ∷ 195 ∷ 169 ∷ []) ≡ codes "\"a\\\"\\\\\\x09\\x0A\\x00\\x7F" ++ 195 ∷ 169 ∷ 34 ∷ []
each_kind = refl
