-- The node of a value behind a key or a dash.
use Rattle.std.proofs.Common.{◌≡◌, ℕ, zero, suc, ◌+◌, ◌≤◌, List, [], ◌∷◌, length, map, refl, ap, ◌∙◌, arith, append-nil, Option, Some, None}
use Rattle.yaml_tokens.specs.declared.token.Token.TheVariants.{Alias}
use Rattle.yaml_core.specs.Measured.{Measured, list_node}
use Rattle.yaml_core.specs.Reading.{Names, gives, and_then, naming, node_named}
use Rattle.yaml_tokens.specs.Tokens.{Line}
use Rattle.yaml_core.specs.Tree.{after_item, items_after, with_item, closed, flow_step, flow_items, inline, if_last, inline_whole, block, value_of}
use Rattle.written_core.specs.Document.{Scalar, Word, Text, Value, Blank, One, Flow as FlowList, Named, Same, at, scalar_token, scalar_text, more_tokens, flow_tokens, value_tokens}
use Rattle.written_core.specs.Outline.{scalar_leaf, flow_meaning, value_meaning}

-- a scalar at the front of tokens
inline-scalar : (d c : ℕ) (s : Scalar) (ts : Line) (names : Names) → inline (suc d) (at c (scalar_token s) ∷ ts) names ≡ Some ((scalar_leaf s, ts), names)
unfolding inline flow_items
inline-scalar d c (Word t) ts names = refl
inline-scalar d c (Text t) ts names = refl

scalar-open : (c : ℕ) (s : Scalar) (ts : Line) → closed (at c (scalar_token s) ∷ ts) ≡ None
scalar-open c (Word t) ts = refl
scalar-open c (Text t) ts = refl

-- what is made of one item and the items after it
abbrev with_items : Measured → Option ((List Measured × Line) × Names) → Option ((List Measured × Line) × Names)
with_items m read = and_then (λ p. gives (m ∷ p.0, p.1)) read

flow-turn : (d n c : ℕ) (s : Scalar) (ts : Line) (names : Names)
    → flow_items (inline (suc d)) (suc n) (at c (scalar_token s) ∷ ts) names ≡ with_items (scalar_leaf s) (items_after (flow_items (inline (suc d)) n) (after_item ts) names)
unfolding flow_items
flow-turn d n c s ts names =
    ap (λ o. flow_step (inline (suc d)) (flow_items (inline (suc d)) n) (at c (scalar_token s) ∷ ts) o names) (scalar-open c s ts)
    ∙ ap (and_then (λ x. with_item x.0 (items_after (flow_items (inline (suc d)) n) (after_item x.1)))) (inline-scalar d c s ts names)

-- the items behind the first, up to the bracket
flow-more : (d n c : ℕ) (ss : List Scalar) (names : Names) → length ss ≤ n
    → items_after (flow_items (inline (suc d)) n) (after_item (more_tokens c ss)) names ≡ Some ((map scalar_leaf ss, []), names)
flow-more d n c [] names h = refl
flow-more d zero c (s ∷ ss) names h = absurd (omega arith)
flow-more d (suc n) c (s ∷ ss) names h =
    let more = more_tokens (c + 2 + length (scalar_text s)) ss in
    flow-turn d n (c + 2) s more names
    ∙ ap (with_items (scalar_leaf s)) (flow-more d n (c + 2 + length (scalar_text s)) ss names (omega arith))

more-longer : (c : ℕ) (ss : List Scalar) → length ss ≤ length (more_tokens c ss)
more-longer c [] = omega arith
more-longer c (s ∷ ss) = let h = more-longer (c + 2 + length (scalar_text s)) ss in omega (arith, h)

inline-flow : (d c : ℕ) (ss : List Scalar) (names : Names) → inline_whole (suc d) (flow_tokens c ss) names ≡ flow_meaning d ss names
unfolding inline flow_items
inline-flow d c [] names = refl
inline-flow zero c (s ∷ ss) names = ap (λ o. after o) (none c s (more_tokens (c + 1 + length (scalar_text s)) ss) names)
  where
    after : Option ((List Measured × Line) × Names) → Option (Measured × Names)
    after o = and_then if_last (and_then (λ p. gives (list_node p.0, p.1)) o)

    none : (c : ℕ) (s : Scalar) (ts : Line) (names : Names) → flow_items (inline zero) (suc (length ts)) (at (c + 1) (scalar_token s) ∷ ts) names ≡ None
    none c (Word t) ts names = refl
    none c (Text t) ts names = refl
inline-flow (suc d) c (s ∷ ss) names =
    let p = c + 1 + length (scalar_text s) in
    ap (λ (o : Option ((List Measured × Line) × Names)). and_then if_last (and_then (λ q. gives (list_node q.0, q.1)) o))
    (flow-turn d (length (more_tokens p ss)) (c + 1) s (more_tokens p ss) names
    ∙ ap (with_items (scalar_leaf s)) (flow-more d (length (more_tokens p ss)) p ss names (more-longer p ss)))

block-none : (d : ℕ) (names : Names) → block d [] names ≡ value_meaning d Blank names
unfolding block
block-none zero names = refl
block-none (suc d) names = refl

inline-one : (d c : ℕ) (s : Scalar) (names : Names) → inline_whole d (at c (scalar_token s) ∷ []) names ≡ value_meaning d (One s) names
unfolding inline flow_items
inline-one zero c s names = refl
inline-one (suc d) c s names = ap (and_then if_last) (inline-scalar d c s [] names)

inline-list : (d c : ℕ) (ss : List Scalar) (names : Names) → inline_whole d (flow_tokens c ss) names ≡ value_meaning d (FlowList ss) names
unfolding inline
inline-list zero c ss names = refl
inline-list (suc d) c ss names = inline-flow d c ss names

after-last : (o : Option (Measured × Names)) → and_then if_last (and_then (λ m. gives (m, [])) o) ≡ o
after-last None = refl
after-last (Some p) = refl

inline-alias : (d c : ℕ) (name : List ℕ) (names : Names) → inline_whole d (at c (Alias name) ∷ []) names ≡ value_meaning d (Same name) names
unfolding inline flow_items
inline-alias zero c name names = refl
inline-alias (suc d) c name names = after-last (node_named (suc d) name names)

anchor-none : (d : ℕ) (name : List ℕ) (names : Names) → and_then (naming name) (block d [] names) ≡ value_meaning d (Named name) names
unfolding block
anchor-none zero name names = refl
anchor-none (suc d) name names = refl

-- a value with no lines after it
pub value-alone : (d c : ℕ) (v : Value) (names : Names) → value_of (block d) (inline_whole d) (value_tokens c v) [] names ≡ value_meaning d v names
value-alone d c Blank names = block-none d names
value-alone d c (One (Word t)) names = inline-one d (c + 1) (Word t) names
value-alone d c (One (Text t)) names = inline-one d (c + 1) (Text t) names
value-alone d c (FlowList []) names = inline-list d (c + 1) [] names
value-alone d c (FlowList (s ∷ ss)) names = ap (λ (ts : Line). inline_whole d ts names) (append-nil (flow_tokens (c + 1) (s ∷ ss))) ∙ inline-list d (c + 1) (s ∷ ss) names
value-alone d c (Named name) names = anchor-none d name names
value-alone d c (Same name) names = inline-alias d (c + 1) name names
