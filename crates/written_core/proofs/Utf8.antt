-- The text of a written outline is UTF-8 if the texts in double quotes are; so its bytes read as its tree.
use Rattle.std.proofs.Common.{◌≡◌, ℕ, zero, suc, ◌+◌, ◌<◌, ◌≤◌, Bool, true, false, List, [], ◌∷◌, ◌++◌, refl, sym, ap, ◌∙◌, arith, Option, Some, Ok, Err}
use Rattle.std.specs.Prelude.{nat_le, option_map, if◌then◌else◌}
use Rattle.std.specs.List.{list_all}
use Rattle.std.specs.Str.{IsUtf8, is_utf8}
use Rattle.std.proofs.lemmas.Bool.{and_parts}
use Rattle.std.proofs.lemmas.Bool.Decides.{nat_tests}
use Rattle.std.proofs.lemmas.Str.{IsUtf8-append, IsUtf8-nil, IsUtf8-from_ascii, is_utf8-from_IsUtf8, IsUtf8-from_is_utf8}
use Rattle.std.proofs.lemmas.Str.Ascii.{IsAscii-cons, IsAscii-nil}
use Rattle.yaml_core.specs.declared.fault.YamlFault.TheVariants as fault
use Rattle.yaml_core.specs.declared.node.Node.{Node}
use Rattle.yaml_core.specs.declared.node.Node.TheVariants as node
use Rattle.yaml_core.specs.Measured.{Measured}
use Rattle.yaml_core.specs.Read.{reading, within_limit}
use Rattle.yaml_core.specs.Size.{node_count, most_nodes}
use Rattle.yaml_core.specs.Tree.{text_tree}
use Rattle.yaml_tokens.specs.Written.{quoted_text}
use Rattle.yaml_core.proofs.WrittenTreeLemmas.{quoted-reading}
use Rattle.written_core.specs.Document.{is_word_byte, is_key, is_anchor, Scalar, Word, Text, Start, Item, Key, ItemKey, Value, Blank, One, Flow, Named, Same, DocLine, spaces, scalar_text, more_text, flow_text, value_text, key_text, body_text, line_text, document_text, IsGoodScalar, AreGoodScalars, IsGoodValue, IsGoodStart, IsGoodLine, AreGoodLines, IsUtf8Scalar, AreUtf8Scalars, IsUtf8Value, AreUtf8Lines}
use Rattle.written_core.specs.Outline.{Outline, Leaf, End, Under, Dashed, Anchored, behind, put_dash, item_lines, outline_lines, IsOutline, IsUtf8Outline, outline_measured}
use Rattle.written_core.proofs.Clean.{word-all, key-all, names-words}
use Rattle.written_core.proofs.Outlines.{lines-good, outline-read}

-- ---- texts

-- one ASCII character, and more
ascii-then : (b : ℕ) (bs : List ℕ) → b < 128 → IsUtf8 bs → IsUtf8 (b ∷ bs)
ascii-then b bs h u = IsUtf8-append (b ∷ []) bs (IsUtf8-from_ascii (b ∷ []) (IsAscii-cons b [] h IsAscii-nil)) u

word-ascii : (b : ℕ) → is_word_byte b ≡ true → b < 128
word-ascii b h = grind (arith, nat_tests)

words-utf8 : (bs : List ℕ) → list_all is_word_byte bs ≡ true → IsUtf8 bs
words-utf8 [] h = IsUtf8-nil
words-utf8 (b ∷ bs) h = let (first, more) = and_parts (is_word_byte b) (list_all is_word_byte bs) h in ascii-then b bs (word-ascii b first) (words-utf8 bs more)

-- what is read is UTF-8
read-utf8 : (bs : List ℕ) (n : Node) → reading bs ≡ Ok n → IsUtf8 bs
read-utf8 bs n h = by_test (is_utf8 bs) refl
  where
    other : (n : Node) → Err fault.NotUtf8 ≡ Ok n → ⊥
    other n e = cc

    by_test : (t : Bool) → is_utf8 bs ≡ t → IsUtf8 bs
    by_test true e = IsUtf8-from_is_utf8 bs e
    by_test false e = absurd (other n (sym (ap (λ t. if t then within_limit (text_tree bs) else Err fault.NotUtf8) e) ∙ h))

scalar-utf8 : (s : Scalar) → IsGoodScalar s → IsUtf8Scalar s → IsUtf8 (scalar_text s)
scalar-utf8 (Word t) g u = words-utf8 t (word-all t g)
scalar-utf8 (Text t) g u = read-utf8 (quoted_text t) (node.Quoted t) (quoted-reading t u)

more-utf8 : (ss : List Scalar) → AreGoodScalars ss → AreUtf8Scalars ss → IsUtf8 (more_text ss)
more-utf8 [] g u = ascii-then 93 [] (omega arith) IsUtf8-nil
more-utf8 (s ∷ ss) g u =
    ascii-then 44 (32 ∷ (scalar_text s ++ more_text ss)) (omega arith) (ascii-then 32 (scalar_text s ++ more_text ss) (omega arith) (IsUtf8-append (scalar_text s) (more_text ss) (scalar-utf8 s g.0 u.0) (more-utf8 ss g.1 u.1)))

flow-utf8 : (ss : List Scalar) → AreGoodScalars ss → AreUtf8Scalars ss → IsUtf8 (flow_text ss)
flow-utf8 [] g u = ascii-then 91 (93 ∷ []) (omega arith) (ascii-then 93 [] (omega arith) IsUtf8-nil)
flow-utf8 (s ∷ ss) g u = ascii-then 91 (scalar_text s ++ more_text ss) (omega arith) (IsUtf8-append (scalar_text s) (more_text ss) (scalar-utf8 s g.0 u.0) (more-utf8 ss g.1 u.1))

anchor-utf8 : (name : List ℕ) → is_anchor name ≡ true → IsUtf8 name
anchor-utf8 [] h = absurd (cc)
anchor-utf8 (b ∷ bs) h = words-utf8 (b ∷ bs) (names-words (b ∷ bs) h)

value-utf8 : (v : Value) → IsGoodValue v → IsUtf8Value v → IsUtf8 (value_text v)
value-utf8 Blank g u = IsUtf8-nil
value-utf8 (One s) g u = ascii-then 32 (scalar_text s) (omega arith) (scalar-utf8 s g u)
value-utf8 (Flow ss) g u = ascii-then 32 (flow_text ss) (omega arith) (flow-utf8 ss g u)
value-utf8 (Named name) g u = ascii-then 32 (38 ∷ name) (omega arith) (ascii-then 38 name (omega arith) (anchor-utf8 name g))
value-utf8 (Same name) g u = ascii-then 32 (42 ∷ name) (omega arith) (ascii-then 42 name (omega arith) (anchor-utf8 name g))

key-utf8 : (key : List ℕ) (v : Value) → is_key key ≡ true → IsUtf8 (value_text v) → IsUtf8 (key_text key v)
key-utf8 key v h u = IsUtf8-append key (58 ∷ value_text v) (words-utf8 key (key-all key h)) (ascii-then 58 (value_text v) (omega arith) u)

body-utf8 : (start : Start) (v : Value) → IsGoodStart start → IsUtf8 (value_text v) → IsUtf8 (body_text start v)
body-utf8 Item v g u = ascii-then 45 (value_text v) (omega arith) u
body-utf8 (Key key) v g u = key-utf8 key v g u
body-utf8 (ItemKey key) v g u = ascii-then 45 (32 ∷ key_text key v) (omega arith) (ascii-then 32 (key_text key v) (omega arith) (key-utf8 key v g u))

spaces-utf8 : (n : ℕ) → IsUtf8 (spaces n)
spaces-utf8 zero = IsUtf8-nil
spaces-utf8 (suc n) = ascii-then 32 (spaces n) (omega arith) (spaces-utf8 n)

line-utf8 : (l : DocLine) → IsGoodLine l → IsUtf8Value l.value → IsUtf8 (line_text l)
line-utf8 l g u = IsUtf8-append (spaces l.indent) (body_text l.start l.value) (spaces-utf8 l.indent) (body-utf8 l.start l.value g.0 (value-utf8 l.value g.1 u))

pub document-utf8 : (ls : List DocLine) → AreGoodLines ls → AreUtf8Lines ls → IsUtf8 (document_text ls)
document-utf8 [] g u = IsUtf8-nil
document-utf8 (l ∷ ls) g u = IsUtf8-append (line_text l) (10 ∷ document_text ls) (line-utf8 l g.0 u.0) (ascii-then 10 (document_text ls) (omega arith) (document-utf8 ls g.1 u.1))

-- ---- outlines

utf8-append : (ls ms : List DocLine) → AreUtf8Lines ls → AreUtf8Lines ms → AreUtf8Lines (ls ++ ms)
utf8-append [] ms g h = h
utf8-append (l ∷ ls) ms g h = (g.0, utf8-append ls ms g.1 h)

behind-utf8 : (o : Outline) → IsUtf8Outline o → IsUtf8Value (behind o)
behind-utf8 (Leaf v) h = h
behind-utf8 End h = tt
behind-utf8 (Under key first more) h = tt
behind-utf8 (Dashed first more) h = tt
behind-utf8 (Anchored name o) h = tt

put-utf8 : (c : ℕ) (ls : List DocLine) → AreUtf8Lines ls → AreUtf8Lines (put_dash c ls)
put-utf8 c [] h = tt
put-utf8 c (l ∷ ls) h = h

item-utf8 : (c : ℕ) (o : Outline) (own : List DocLine) → IsUtf8Outline o → AreUtf8Lines own → AreUtf8Lines (item_lines c o own)
item-utf8 c (Under key first more) own h u = put-utf8 c own u
item-utf8 c (Leaf v) own h u = (h, u)
item-utf8 c End own h u = (tt, u)
item-utf8 c (Dashed first more) own h u = (tt, u)
item-utf8 c (Anchored name o) own h u = (tt, u)

lines-utf8 : (c : ℕ) (o : Outline) → IsUtf8Outline o → AreUtf8Lines (outline_lines c o)
lines-utf8 c (Leaf v) h = tt
lines-utf8 c End h = tt
lines-utf8 c (Under key first more) h = (behind-utf8 first h.0, utf8-append (outline_lines (c + 2) first) (outline_lines c more) (lines-utf8 (c + 2) first h.0) (lines-utf8 c more h.1))
lines-utf8 c (Dashed first more) h = utf8-append (item_lines c first (outline_lines (c + 2) first)) (outline_lines c more) (item-utf8 c first (outline_lines (c + 2) first) h.0 (lines-utf8 (c + 2) first h.0)) (lines-utf8 c more h.1)
lines-utf8 c (Anchored name o) h = lines-utf8 c o h

-- the bytes of a written outline read as its tree, within the limit of nodes
pub outline-reading : (o : Outline) → IsOutline o → IsUtf8Outline o → reading (document_text (outline_lines 0 o)) ≡ within_limit (option_map (λ m. m.node) (outline_measured o))
outline-reading o h u =
    let ls = outline_lines 0 o in
    rw (is_utf8-from_IsUtf8 (document_text ls) (document-utf8 ls (lines-good 0 o h) (lines-utf8 0 o u)))
    (ap (λ (read : Option Measured). within_limit (option_map (λ m. m.node) read)) (outline-read o h))

within-few : (n : Node) → node_count n ≤ most_nodes → within_limit (Some n) ≡ Ok n
within-few n h = let few : nat_le (node_count n) most_nodes ≡ true = at_most (node_count n) h in rw few refl
  where
    at_most : (k : ℕ) → k ≤ most_nodes → nat_le k most_nodes ≡ true
    at_most k h = grind (arith, nat_tests)

-- so they read as its tree if that has few nodes
pub outline-reads-back : (o : Outline) (m : Measured) → IsOutline o → IsUtf8Outline o → outline_measured o ≡ Some m → node_count m.node ≤ most_nodes → reading (document_text (outline_lines 0 o)) ≡ Ok m.node
outline-reads-back o m good u is few =
    outline-reading o good u ∙ ap (λ (r : Option Measured). within_limit (option_map (λ x. x.node) r)) is ∙ within-few m.node few
