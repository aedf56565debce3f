-- Texts part by part, as code appends them: rows, and flow lists item by item.
use Rattle.std.specs.Prelude.{ℕ, ◌==◌, List, [], ◌∷◌, ◌++◌, codes, if◌then◌else◌}
use Rattle.written_core.specs.Document.{Scalar, line_feed, scalar_text, more_text}

-- a row of text and what follows it
abbrev pub row : List ℕ → List ℕ → List ℕ
row text more = text ++ line_feed ∷ more

-- what separates the item at a place of a flow list from those before it
abbrev pub comma : ℕ → List ℕ
comma place = if place == 0 then [] else codes ", "

-- the items of a flow list from the one at a place on, and the closing bracket
abbrev pub left_text : ℕ → List Scalar → List ℕ
left_text place [] = codes "]"
left_text place (s ∷ ss) = comma place ++ (scalar_text s ++ more_text ss)
