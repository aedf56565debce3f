-- What is in nodes that were made.
use Rattle.std.proofs.Common.{◌≡◌, ℕ, List, [], ◌∷◌, map, refl, ap, ◌∙◌, Option, Some, None}
use Rattle.std.specs.Prelude.{option_and_then, if◌then◌else◌}
use Rattle.std.specs.Str.{bytes_eq}
use Rattle.yaml_core.specs.declared.node.Node.{Node}
use Rattle.yaml_core.specs.declared.node.Node.TheVariants as node
use Rattle.yaml_core.specs.declared.node.Pair.{out-Pair, out-roll-Pair}
use Rattle.yaml_core.specs.Lookup.{text_in, text_at, list_in, list_of, unless_null_in, unless_null, value_among, value_in, value_at}
use Rattle.yaml_core.specs.Measured.{Entry, pair_of, map_node}

pub text-Scalar : (t : List ℕ) → text_at (node.Scalar t) ≡ Some t
text-Scalar t = ap text_in (node.outs-Scalar t)

pub text-Quoted : (t : List ℕ) → text_at (node.Quoted t) ≡ Some t
text-Quoted t = ap text_in (node.outs-Quoted t)

pub list-List : (ns : List Node) → list_of (node.List ns) ≡ Some ns
list-List ns = ap list_in (node.outs-List ns)

pub some-Scalar : (t : List ℕ) → unless_null (node.Scalar t) ≡ Some (node.Scalar t)
some-Scalar t = ap (unless_null_in (node.Scalar t)) (node.outs-Scalar t)

pub some-Quoted : (t : List ℕ) → unless_null (node.Quoted t) ≡ Some (node.Quoted t)
some-Quoted t = ap (unless_null_in (node.Quoted t)) (node.outs-Quoted t)

pub some-List : (ns : List Node) → unless_null (node.List ns) ≡ Some (node.List ns)
some-List ns = ap (unless_null_in (node.List ns)) (node.outs-List ns)

-- the node under a key, unless it is null
abbrev pub found : List ℕ → List Entry → Option Node
found key [] = None
found key (e ∷ es) = if bytes_eq e.0 key then unless_null e.1.node else found key es

among-found : (key : List ℕ) (es : List Entry) → value_among key (map pair_of es) ≡ found key es
among-found key [] = refl
among-found key (e ∷ es) = λ i. if bytes_eq (opened i).key key then unless_null (opened i).value else among-found key es i
  where
    opened : out-Pair (pair_of e) ≡ record { key = e.0; value = e.1.node }
    opened = out-roll-Pair (record { key = e.0; value = e.1.node })

pub value-Map : (key : List ℕ) (es : List Entry) → value_at key (map_node es).node ≡ found key es
value-Map key es = ap (value_in key) (node.outs-Map (map pair_of es)) ∙ among-found key es

-- a text and a list under a key
pub word-under : (key : List ℕ) (es : List Entry) (t : List ℕ) → found key es ≡ Some (node.Scalar t) → option_and_then text_at (value_at key (map_node es).node) ≡ Some t
word-under key es t h = ap (option_and_then text_at) (value-Map key es ∙ h) ∙ text-Scalar t

pub quoted-under : (key : List ℕ) (es : List Entry) (t : List ℕ) → found key es ≡ Some (node.Quoted t) → option_and_then text_at (value_at key (map_node es).node) ≡ Some t
quoted-under key es t h = ap (option_and_then text_at) (value-Map key es ∙ h) ∙ text-Quoted t

pub list-under : (key : List ℕ) (es : List Entry) (ns : List Node) → found key es ≡ Some (node.List ns) → option_and_then list_of (value_at key (map_node es).node) ≡ Some ns
list-under key es ns h = ap (option_and_then list_of) (value-Map key es ∙ h) ∙ list-List ns
