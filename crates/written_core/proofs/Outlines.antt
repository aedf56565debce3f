-- The tree of the lines of an outline is what reading makes of the outline.
use Rattle.std.proofs.Common.{◌≡◌, ℕ, zero, suc, ◌+◌, ◌≤◌, Bool, true, false, List, [], ◌∷◌, ◌++◌, length, map, refl, sym, ap, ◌∙◌, arith, append-nil, Option, Some, None}
use Rattle.std.specs.Prelude.{◌||◌, nat_lt, nat_le, option_map, option_and_then, if◌then◌else◌}
use Rattle.std.specs.List.{list_all}
use Rattle.std.proofs.lemmas.Bool.{and_parts}
use Rattle.std.proofs.lemmas.List.{map-append}
use Rattle.std.proofs.lemmas.Bool.Decides.{nat_tests}
use Rattle.yaml_core.specs.Measured.{Measured, Entry, list_node, map_node}
use Rattle.yaml_core.specs.Reading.{Names, Reading, gives, and_then, naming}
use Rattle.yaml_tokens.specs.Tokens.{Line}
use Rattle.yaml_core.specs.Tree.{head, is_dash, indentation, Group, put_group, groups, is_deeper, is_deeper_or_dash, value_of, item_at, items_of, adding, entries_of, block_by, block, inline_whole, tree, text_measured}
use Rattle.written_core.specs.Document.{Word, Text, Start, Item, Key, ItemKey, Value, Blank, One, Flow, Named, Same, DocLine, line, document_text, value_tokens, key_tokens, body_tokens, tokens_in, IsGoodValue, AreGoodLines}
use Rattle.written_core.specs.Outline.{Outline, Leaf, End, Under, Dashed, Anchored, behind, put_dash, item_lines, outline_lines, are_entries, are_items, IsOutline, entries_by, items_by, block_of, meaning, outline_measured}
use Rattle.written_core.proofs.Texts.{document-tokens}
use Rattle.written_core.proofs.Inline.{value-alone}

abbrev tokens : List DocLine → List Line
tokens ls = map tokens_in ls

-- ---- indentations

body-indent : (c : ℕ) (start : Start) (v : Value) → indentation (body_tokens c start v) ≡ c
body-indent c Item v = refl
body-indent c (Key key) v = refl
body-indent c (ItemKey key) v = refl

-- each line has at least this indentation
abbrev IsFrom : ℕ → List DocLine → Type 0
IsFrom c [] = Unit {0}
IsFrom c (l ∷ ls) = (c ≤ l.indent) × IsFrom c ls

from-weaker : (c e : ℕ) (ls : List DocLine) → c ≤ e → IsFrom e ls → IsFrom c ls
from-weaker c e [] h f = tt
from-weaker c e (l ∷ ls) h f = let (first, more) = f in (omega arith, from-weaker c e ls h more)

from-append : (c : ℕ) (ls ms : List DocLine) → IsFrom c ls → IsFrom c ms → IsFrom c (ls ++ ms)
from-append c [] ms f g = g
from-append c (l ∷ ls) ms f g = (f.0, from-append c ls ms f.1 g)

put-from : (c : ℕ) (own : List DocLine) → IsFrom (c + 2) own → IsFrom c (put_dash c own)
put-from c [] f = tt
put-from c (l ∷ ls) f = (omega arith, from-weaker c (c + 2) ls (omega arith) f.1)

item-from : (c : ℕ) (o : Outline) (own : List DocLine) → IsFrom (c + 2) own → IsFrom c (item_lines c o own)
item-from c (Under key first more) own f = put-from c own f
item-from c (Leaf v) own f = (omega arith, from-weaker c (c + 2) own (omega arith) f)
item-from c End own f = (omega arith, from-weaker c (c + 2) own (omega arith) f)
item-from c (Dashed first more) own f = (omega arith, from-weaker c (c + 2) own (omega arith) f)
item-from c (Anchored name o) own f = (omega arith, from-weaker c (c + 2) own (omega arith) f)

lines-from : (c : ℕ) (o : Outline) → IsFrom c (outline_lines c o)
lines-from c (Leaf v) = tt
lines-from c End = tt
lines-from c (Under key first more) =
    (omega arith, from-append c (outline_lines (c + 2) first) (outline_lines c more) (from-weaker c (c + 2) (outline_lines (c + 2) first) (omega arith) (lines-from (c + 2) first)) (lines-from c more))
lines-from c (Dashed first more) =
    from-append c (item_lines c first (outline_lines (c + 2) first)) (outline_lines c more) (item-from c first (outline_lines (c + 2) first) (lines-from (c + 2) first)) (lines-from c more)
lines-from c (Anchored name o) = lines-from c o

all-from : (c : ℕ) (ls : List DocLine) → IsFrom c ls → list_all (λ m. nat_le c (indentation m)) (tokens ls) ≡ true
all-from c [] f = refl
all-from c (l ∷ ls) f =
    let (first, more) = f in
    let low : nat_le c l.indent ≡ true = grind (arith, nat_tests) in
    let here : nat_le c (indentation (tokens_in l)) ≡ true = ap (nat_le c) (body-indent l.indent l.start l.value) ∙ low in
    rw (here, all-from c ls more) refl

-- what belongs to a line at an indentation: the test passes lines that are deeper, and not lines that are as deep and begin otherwise
deeper : (c : ℕ) (ls : List DocLine) → IsFrom (c + 2) ls → list_all (is_deeper c) (tokens ls) ≡ true
deeper c [] f = refl
deeper c (l ∷ ls) f =
    let (first, more) = f in
    let low : nat_lt c l.indent ≡ true = grind (arith, nat_tests) in
    let here : is_deeper c (tokens_in l) ≡ true = ap (nat_lt c) (body-indent l.indent l.start l.value) ∙ low in
    rw (here, deeper c ls more) refl

deeper-too : (c : ℕ) (ls : List DocLine) → IsFrom (c + 2) ls → list_all (is_deeper_or_dash c) (tokens ls) ≡ true
deeper-too c [] f = refl
deeper-too c (l ∷ ls) f =
    let (first, more) = f in
    let low : nat_lt c l.indent ≡ true = grind (arith, nat_tests) in
    let here : is_deeper c (tokens_in l) ≡ true = ap (nat_lt c) (body-indent l.indent l.start l.value) ∙ low in
    rw (ap (λ t. t || is_dash (head (tokens_in l))) here, deeper-too c ls more) refl

same-depth : (c : ℕ) → nat_lt c c ≡ false
same-depth c = grind (arith, nat_tests)

-- ---- groups

abbrev put_own : List Line → List Line × List Group → List Line × List Group
put_own own p = (own ++ p.0, p.1)

groups-own : (belongs : Line → Bool) (own rest : List Line) → list_all belongs own ≡ true → groups belongs (own ++ rest) ≡ put_own own (groups belongs rest)
groups-own belongs [] rest h = refl
groups-own belongs (l ∷ own) rest h =
    let (first, more) = and_parts (belongs l) (list_all belongs own) h in
    ap (put_group belongs l) (groups-own belongs own rest more) ∙ rw first refl

-- a line that starts a group, and the lines that belong to it
groups-first : (belongs : Line → Bool) (l : Line) (own rest : List Line) (gs : List Group) → belongs l ≡ false → list_all belongs own ≡ true → groups belongs rest ≡ ([], gs)
    → groups belongs (l ∷ (own ++ rest)) ≡ ([], record { first = l; own = own } ∷ gs)
groups-first belongs l own rest gs h all e =
    ap (put_group belongs l) (groups-own belongs own rest all ∙ ap (put_own own) e ∙ ap (λ (x : List Line). (x, gs)) (append-nil own)) ∙ rw h refl

abbrev entry_groups : ℕ → Outline → List Group
entry_groups c (Under key first more) = record { first = key_tokens c key (behind first); own = tokens (outline_lines (c + 2) first) } ∷ entry_groups c more
entry_groups c End = []
entry_groups c (Leaf v) = []
entry_groups c (Dashed first more) = []
entry_groups c (Anchored name o) = []

key-first : (c : ℕ) (key : List ℕ) (v : Value) → is_deeper_or_dash c (key_tokens c key v) ≡ false
key-first c key v = ap (λ t. t || false) (same-depth c)

entries-grouped : (c : ℕ) (o : Outline) → IsOutline o → are_entries o ≡ true → groups (is_deeper_or_dash c) (tokens (outline_lines c o)) ≡ ([], entry_groups c o)
entries-grouped c (Leaf v) h e = absurd (cc)
entries-grouped c End h e = refl
entries-grouped c (Dashed first more) h e = absurd (cc)
entries-grouped c (Anchored name o) h e = absurd (cc)
entries-grouped c (Under key first more) h e =
    let own = outline_lines (c + 2) first in
    let l = key_tokens c key (behind first) in
    ap (λ (ls : List Line). groups (is_deeper_or_dash c) (l ∷ ls)) (map-append tokens_in own (outline_lines c more))
    ∙ groups-first (is_deeper_or_dash c) l (tokens own) (tokens (outline_lines c more)) (entry_groups c more) (key-first c key (behind first)) (deeper-too c own (lines-from (c + 2) first))
    (entries-grouped c more h.1.1 h.0.1)

-- the lines of an item: its first, and its own
abbrev item_first : ℕ → Outline → Line
item_first c (Under key first more) = body_tokens c (ItemKey key) (behind first)
item_first c (Leaf v) = body_tokens c Item v
item_first c End = body_tokens c Item Blank
item_first c (Dashed first more) = body_tokens c Item Blank
item_first c (Anchored name o) = body_tokens c Item (Named name)

abbrev item_own : ℕ → Outline → List DocLine
item_own c (Under key first more) = outline_lines (c + 2 + 2) first ++ outline_lines (c + 2) more
item_own c (Leaf v) = []
item_own c End = []
item_own c (Dashed first more) = outline_lines (c + 2) (Dashed first more)
item_own c (Anchored name o) = outline_lines (c + 2) o

item-split : (c : ℕ) (o : Outline) → tokens (item_lines c o (outline_lines (c + 2) o)) ≡ item_first c o ∷ tokens (item_own c o)
item-split c (Under key first more) = refl
item-split c (Leaf v) = refl
item-split c End = refl
item-split c (Dashed first more) = refl
item-split c (Anchored name o) = refl

item-own-from : (c : ℕ) (o : Outline) → IsFrom (c + 2) (item_own c o)
item-own-from c (Under key first more) = (lines-from (c + 2) (Under key first more)).1
item-own-from c (Leaf v) = tt
item-own-from c End = tt
item-own-from c (Dashed first more) = lines-from (c + 2) (Dashed first more)
item-own-from c (Anchored name o) = lines-from (c + 2) o

item-first-starts : (c : ℕ) (o : Outline) → is_deeper c (item_first c o) ≡ false
item-first-starts c (Under key first more) = same-depth c
item-first-starts c (Leaf v) = same-depth c
item-first-starts c End = same-depth c
item-first-starts c (Dashed first more) = same-depth c
item-first-starts c (Anchored name o) = same-depth c

abbrev item_groups : ℕ → Outline → List Group
item_groups c (Dashed first more) = record { first = item_first c first; own = tokens (item_own c first) } ∷ item_groups c more
item_groups c End = []
item_groups c (Leaf v) = []
item_groups c (Under key first more) = []
item_groups c (Anchored name o) = []

items-split : (c : ℕ) (first more : Outline) → tokens (outline_lines c (Dashed first more)) ≡ item_first c first ∷ (tokens (item_own c first) ++ tokens (outline_lines c more))
items-split c first more =
    map-append tokens_in (item_lines c first (outline_lines (c + 2) first)) (outline_lines c more)
    ∙ ap (λ (ls : List Line). ls ++ tokens (outline_lines c more)) (item-split c first)

items-grouped : (c : ℕ) (o : Outline) → IsOutline o → are_items o ≡ true → groups (is_deeper c) (tokens (outline_lines c o)) ≡ ([], item_groups c o)
items-grouped c (Leaf v) h e = absurd (cc)
items-grouped c End h e = refl
items-grouped c (Under key first more) h e = absurd (cc)
items-grouped c (Anchored name o) h e = absurd (cc)
items-grouped c (Dashed first more) h e =
    ap (groups (is_deeper c)) (items-split c first more)
    ∙ groups-first (is_deeper c) (item_first c first) (tokens (item_own c first)) (tokens (outline_lines c more)) (item_groups c more) (item-first-starts c first) (deeper c (item_own c first) (item-own-from c first))
    (items-grouped c more h.1.1 h.0)

-- ---- blocks, from what is in them

-- what is under a key or behind a dash reads as it is meant, with so many levels
abbrev ReadsValues : ℕ → Type 0
ReadsValues d = (c p : ℕ) (o : Outline) (names : Names) → IsOutline o → value_of (block d) (inline_whole d) (value_tokens p (behind o)) (tokens (outline_lines c o)) names ≡ meaning d o names

-- and so does the block of its lines
abbrev ReadsBlocks : ℕ → (Outline → Reading Measured) → Type 0
ReadsBlocks d meant = (c : ℕ) (o : Outline) (names : Names) → IsOutline o → block d (tokens (outline_lines c o)) names ≡ meant o names

-- what follows alike
same-then : {A B : Type 0} (f g : A → Reading B) → ((a : A) (names : Names) → f a names ≡ g a names) → (o : Option (A × Names)) → and_then f o ≡ and_then g o
same-then f g h None = refl
same-then f g h (Some p) = h p.0 p.1

module _ (d : ℕ) (values : ReadsValues d) where
  entries-read : (c : ℕ) (before : List Entry) (o : Outline) (names : Names) → IsOutline o → entries_of (block d) (inline_whole d) before (entry_groups c o) names ≡ entries_by (meaning d) before o names
  entries-read c before (Leaf v) names h = refl
  entries-read c before End names h = refl
  entries-read c before (Dashed first more) names h = refl
  entries-read c before (Anchored name o) names h = refl
  entries-read c before (Under key first more) names h =
      ap (λ (o : Option (Measured × Names)). and_then (λ es. entries_of (block d) (inline_whole d) es (entry_groups c more)) (and_then (adding before key) o)) (values (c + 2) (c + length key + 1) first names h.1.0)
      ∙ same-then (λ es. entries_of (block d) (inline_whole d) es (entry_groups c more)) (λ es. entries_by (meaning d) es more) (λ es after. entries-read c es more after h.1.1) (and_then (adding before key) (meaning d first names))

  item-read : (c : ℕ) (o : Outline) (names : Names) → IsOutline o → item_at (block d) (inline_whole d) (head (item_first c o)) (tokens (item_own c o)) names ≡ meaning d o names
  item-read c (Under key first more) names h = values (c + 2) 0 (Under key first more) names h
  item-read c (Leaf Blank) names h = values (c + 2) (c + 1) (Leaf Blank) names h
  item-read c (Leaf (One (Word t))) names h = values (c + 2) (c + 1) (Leaf (One (Word t))) names h
  item-read c (Leaf (One (Text t))) names h = values (c + 2) (c + 1) (Leaf (One (Text t))) names h
  item-read c (Leaf (Flow [])) names h = values (c + 2) (c + 1) (Leaf (Flow [])) names h
  item-read c (Leaf (Flow (s ∷ ss))) names h = values (c + 2) (c + 1) (Leaf (Flow (s ∷ ss))) names h
  item-read c (Leaf (Named name)) names h = values (c + 2) (c + 1) (Leaf (Named name)) names h
  item-read c (Leaf (Same name)) names h = values (c + 2) (c + 1) (Leaf (Same name)) names h
  item-read c End names h = values (c + 2) (c + 1) End names h
  item-read c (Dashed first more) names h = values (c + 2) (c + 1) (Dashed first more) names h
  item-read c (Anchored name o) names h = values (c + 2) (c + 1) (Anchored name o) names h

  item-head : (c : ℕ) (o : Outline) → is_dash (head (item_first c o)) ≡ true
  item-head c (Under key first more) = refl
  item-head c (Leaf v) = refl
  item-head c End = refl
  item-head c (Dashed first more) = refl
  item-head c (Anchored name o) = refl

  items-read : (c : ℕ) (before : List Measured) (o : Outline) (names : Names) → IsOutline o → items_of (block d) (inline_whole d) before (item_groups c o) names ≡ items_by (meaning d) before o names
  items-read c before (Leaf v) names h = refl
  items-read c before End names h = refl
  items-read c before (Under key first more) names h = refl
  items-read c before (Anchored name o) names h = refl
  items-read c before (Dashed first more) names h =
      ap (λ (o : Option (Measured × Names)). and_then (λ m. items_of (block d) (inline_whole d) (before ++ m ∷ []) (item_groups c more)) o) (item-read c first names h.1.0)
      ∙ same-then (λ m. items_of (block d) (inline_whole d) (before ++ m ∷ []) (item_groups c more)) (λ m. items_by (meaning d) (before ++ m ∷ []) more) (λ m after. items-read c (before ++ m ∷ []) more after h.1.1) (meaning d first names)

  -- a block of items by the head of its first line
  items-block : (c : ℕ) (o : Outline) (ls : List Line) (names : Names) → indentation (item_first c o) ≡ c
      → block_by (block d) (inline_whole d) (inline_whole (suc d)) (head (item_first c o)) (item_first c o) ls names
      ≡ and_then (λ ms. gives (list_node ms)) (items_of (block d) (inline_whole d) [] (groups (is_deeper c) (item_first c o ∷ ls)).1 names)
  items-block c (Under key first more) ls names e = refl
  items-block c (Leaf v) ls names e = refl
  items-block c End ls names e = refl
  items-block c (Dashed first more) ls names e = refl
  items-block c (Anchored name o) ls names e = refl

  item-indent : (c : ℕ) (o : Outline) → indentation (item_first c o) ≡ c
  item-indent c (Under key first more) = refl
  item-indent c (Leaf v) = refl
  item-indent c End = refl
  item-indent c (Dashed first more) = refl
  item-indent c (Anchored name o) = refl

  block-read : ReadsBlocks (suc d) (block_of (meaning d))
  unfolding block
  block-read c (Leaf v) names h = refl
  block-read c End names h = refl
  block-read c (Anchored name o) names h = block-read c o names h.1
  block-read c (Under key first more) names h =
      let own = outline_lines (c + 2) first ++ outline_lines c more in
      let l = key_tokens c key (behind first) in
      let grouped = entries-grouped c (Under key first more) h refl in
      kept (all-from c own (lines-from c (Under key first more)).1) _ _
      ∙ ap (λ (p : List Line × List Group). and_then (λ es. gives (map_node es)) (entries_of (block d) (inline_whole d) [] p.1 names)) grouped
      ∙ ap (and_then (λ es. gives (map_node es))) (entries-read c [] (Under key first more) names h)
    where
      kept : {t : Bool} → t ≡ true → (x y : Reading Measured) → (if t then x else y) names ≡ x names
      kept e x y = rw e refl
  block-read c (Dashed first more) names h =
      let l = item_first c first in
      let rest = tokens (item_own c first) ++ tokens (outline_lines c more) in
      ap (λ (ls : List Line). block (suc d) ls names) (items-split c first more)
      ∙ kept all _ _
      ∙ items-block c first rest names (item-indent c first)
      ∙ ap (λ (p : List Line × List Group). and_then (λ ms. gives (list_node ms)) (items_of (block d) (inline_whole d) [] p.1 names)) (ap (groups (is_deeper c)) (sym (items-split c first more)) ∙ items-grouped c (Dashed first more) h refl)
      ∙ ap (and_then (λ ms. gives (list_node ms))) (items-read c [] (Dashed first more) names h)
    where
      kept : {t : Bool} → t ≡ true → (x y : Reading Measured) → (if t then x else y) names ≡ x names
      kept e x y = rw e refl

      all : list_all (λ m. nat_le (indentation (item_first c first)) (indentation m)) (tokens (item_own c first) ++ tokens (outline_lines c more)) ≡ true
      all = ap (λ k. list_all (λ m. nat_le k (indentation m)) (tokens (item_own c first) ++ tokens (outline_lines c more))) (item-indent c first)
          ∙ ap (list_all (λ m. nat_le c (indentation m))) (sym (map-append tokens_in (item_own c first) (outline_lines c more)))
          ∙ all-from c (item_own c first ++ outline_lines c more) (from-append c (item_own c first) (outline_lines c more) (from-weaker c (c + 2) (item_own c first) (omega arith) (item-own-from c first)) (lines-from c more))

-- ---- what is under a key or behind a dash

values-read : (d : ℕ) → ReadsValues d
unfolding block meaning
values-read zero c p (Leaf v) names h = value-alone zero p v names
values-read zero c p End names h = refl
values-read zero c p (Under key first more) names h = refl
values-read zero c p (Dashed first more) names h = refl
values-read zero c p (Anchored name o) names h = refl
values-read (suc d) c p (Leaf v) names h = value-alone (suc d) p v names
values-read (suc d) c p End names h = refl
values-read (suc d) c p (Under key first more) names h = block-read d (values-read d) c (Under key first more) names h
values-read (suc d) c p (Dashed first more) names h = block-read d (values-read d) c (Dashed first more) names h
values-read (suc d) c p (Anchored name o) names h = ap (and_then (naming name)) (block-read d (values-read d) c o names h.1)

-- the block of an outline's lines, of so many levels
pub outline-block : (d c : ℕ) (o : Outline) (names : Names) → IsOutline o → block (suc d) (tokens (outline_lines c o)) names ≡ block_of (meaning d) o names
outline-block d c o names h = block-read d (values-read d) c o names h

-- ---- the text

good-append : (ls ms : List DocLine) → AreGoodLines ls → AreGoodLines ms → AreGoodLines (ls ++ ms)
good-append [] ms g h = h
good-append (l ∷ ls) ms g h = (g.0, good-append ls ms g.1 h)

behind-good : (o : Outline) → IsOutline o → IsGoodValue (behind o)
behind-good (Leaf v) h = h
behind-good End h = tt
behind-good (Under key first more) h = tt
behind-good (Dashed first more) h = tt
behind-good (Anchored name o) h = h.0

dashed-good : (c : ℕ) (key : List ℕ) (v : Value) (ls : List DocLine) → AreGoodLines (line (c + 2) (Key key) v ∷ ls) → AreGoodLines (put_dash c (line (c + 2) (Key key) v ∷ ls))
dashed-good c key v ls h = ((h.0.0, h.0.1), h.1)

item-good : (c : ℕ) (o : Outline) → IsOutline o → AreGoodLines (outline_lines (c + 2) o) → AreGoodLines (item_lines c o (outline_lines (c + 2) o))
item-good c (Under key first more) h g = dashed-good c key (behind first) (outline_lines (c + 2 + 2) first ++ outline_lines (c + 2) more) g
item-good c (Leaf v) h g = ((tt, h), tt)
item-good c End h g = ((tt, tt), tt)
item-good c (Dashed first more) h g = ((tt, tt), g)
item-good c (Anchored name o) h g = ((tt, h.0), g)

pub lines-good : (c : ℕ) (o : Outline) → IsOutline o → AreGoodLines (outline_lines c o)
lines-good c (Leaf v) h = tt
lines-good c End h = tt
lines-good c (Under key first more) h =
    ((h.0.0, behind-good first h.1.0), good-append (outline_lines (c + 2) first) (outline_lines c more) (lines-good (c + 2) first h.1.0) (lines-good c more h.1.1))
lines-good c (Dashed first more) h =
    good-append (item_lines c first (outline_lines (c + 2) first)) (outline_lines c more) (item-good c first h.1.0 (lines-good (c + 2) first h.1.0)) (lines-good c more h.1.1)
lines-good c (Anchored name o) h = lines-good c o h.1

pub outline-tree : (o : Outline) → IsOutline o → tree (tokens (outline_lines 0 o)) ≡ outline_measured o
outline-tree o h = ap (option_map (λ (p : Measured × Names). p.0)) (outline-block 63 0 o [] h)

pub outline-read : (o : Outline) → IsOutline o → text_measured (document_text (outline_lines 0 o)) ≡ outline_measured o
outline-read o h = ap (option_and_then tree) (document-tokens (outline_lines 0 o) (lines-good 0 o h)) ∙ outline-tree o h
