-- Plain text: numbers between words, lists in brackets, lines.
use Rattle.std.specs.Prelude.{ℕ, ◌+◌, List, [], ◌∷◌, ◌++◌, codes, decimal}
use Rattle.written_core.specs.Parts.{comma}

-- the end of a line
abbrev pub line_end : List ℕ
line_end = 10 ∷ []

-- a number between two texts
abbrev pub counted : List ℕ → ℕ → List ℕ → List ℕ
counted before number after = before ++ (decimal number ++ after)

-- a text for each item, made of its place and the item; the first item is at this place
abbrev pub numbered : {A : Type 0} → (ℕ → A → List ℕ) → ℕ → List A → List ℕ
numbered text place [] = []
numbered text place (item ∷ items) = text place item ++ numbered text (place + 1) items

-- an item of a list, with what separates it from those before it
abbrev pub item_text : ℕ → List ℕ → List ℕ
item_text place item = comma place ++ item

-- items in brackets, a comma and a space between them
abbrev pub listed : List (List ℕ) → List ℕ
listed items = codes "[" ++ (numbered item_text 0 items ++ codes "]")
