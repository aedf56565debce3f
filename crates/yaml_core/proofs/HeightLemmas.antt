-- A tree that is read has no more levels than are allowed.
use Rattle.std.proofs.Common.{◌≡◌, ℕ, zero, suc, ◌≤◌, Bool, true, false, cond, List, [], ◌∷◌, ◌++◌, map, length, refl, arith, Option, Some, None}
use Rattle.std.specs.Prelude.{nat_le, is_some, option_map, IfSome}
use Rattle.std.specs.List.{list_all, list_any}
use Rattle.std.specs.Str.{bytes_eq}
use Rattle.std.proofs.lemmas.Bool.{leb-true}
use Rattle.std.proofs.lemmas.List.Recursion.{max_push}
use Rattle.yaml_tokens.specs.declared.token.Token.{Token}
use Rattle.yaml_tokens.specs.declared.token.Token.TheVariants.{Open, Plain, Quoted, Anchor, Alias}
use Rattle.yaml_core.specs.Measured.{Measured, highest, Entry, add_entry, find_entry}
use Rattle.yaml_core.specs.Reading.{Names, Reading, nothing, gives, and_then, ◌>>=◌, naming, unless_higher, node_named}
use Rattle.yaml_tokens.specs.Tokens.{Line}
use Rattle.yaml_core.specs.Tree.{Inline, Flow, after_item, items_after, closed, flow_step, flow_items, content_at, content, inline_at, inline_with, inline, if_last, inline_whole, Lines, One, Head, dash, entry, value, head, anchor_alone, indentation, is_deeper, is_deeper_or_dash, Group, groups, joined, value_by, value_of, item_by, item_at, items_of, adding, entry_after, entries_of, block_by, block_with, block, max_levels, tree}

-- ---- readings

-- where something was read, it has at most so many levels, as they are counted
abbrev IsLow : {A : Type 0} → ℕ → (A → ℕ) → Option (A × Names) → Type 0
IsLow d levels outcome = IfSome outcome (λ p. levels p.0 ≤ d)

-- the same, whatever the names are
record AtMost {A : Type 0} (d : ℕ) (levels : A → ℕ) (read : Reading A) : Type 0 where
  pub low : (names : Names) → IsLow d levels (read names)

nothing-most : {A : Type 0} {d : ℕ} {levels : A → ℕ} → AtMost d levels nothing
nothing-most = record { low = λ names. tt }

gives-most : {A : Type 0} {d : ℕ} {levels : A → ℕ} {a : A} → levels a ≤ d → AtMost d levels (gives a)
gives-most h = record { low = λ names. h }

and_then-low : {A B : Type 0} (c d : ℕ) (first : A → ℕ) (levels : B → ℕ) (f : A → Reading B) → ((a : A) → first a ≤ c → AtMost d levels (f a))
    → (outcome : Option (A × Names)) → IsLow c first outcome → IsLow d levels (and_then f outcome)
and_then-low c d first levels f g None h = tt
and_then-low c d first levels f g (Some p) h = (g p.0 h).low p.1

then-most : {A B : Type 0} {c d : ℕ} {first : A → ℕ} {levels : B → ℕ} {read : Reading A} {f : A → Reading B} → AtMost c first read
    → ((a : A) → first a ≤ c → AtMost d levels (f a)) → AtMost d levels (read >>= f)
then-most {c} {d} {first} {levels} {read} {f} h g = record { low = λ names. and_then-low c d first levels f g (read names) (h.low names) }

if-most : {A : Type 0} {d : ℕ} {levels : A → ℕ} {read more : Reading A} (b : Bool) → AtMost d levels read → AtMost d levels more → AtMost d levels (cond b read more)
if-most true h g = h
if-most false h g = g

-- ---- how levels are counted, and readings that keep them low

abbrev height : Measured → ℕ
height m = m.height

abbrev first_height : Measured × Line → ℕ
first_height x = x.0.height

abbrev first_highest : List Measured × Line → ℕ
first_highest p = highest p.0

abbrev highest_value : List Entry → ℕ
highest_value es = highest (map (λ e. e.1) es)

abbrev InlineMost : ℕ → Inline → Type 0
InlineMost d item = (ts : Line) → AtMost d first_height (item ts)

abbrev FlowMost : ℕ → Flow → Type 0
FlowMost d flow = (ts : Line) → AtMost d first_highest (flow ts)

abbrev LinesMost : ℕ → Lines → Type 0
LinesMost d block = (ls : List Line) → AtMost d height (block ls)

abbrev OneMost : ℕ → One → Type 0
OneMost d one = (ts : Line) → AtMost d height (one ts)

-- ---- anchors and aliases

named-low : (d : ℕ) (m : Measured) → m.height ≤ d → (after : Option Names) → IsLow d height (option_map (λ names. (m, names)) after)
named-low d m h None = tt
named-low d m h (Some names) = h

naming-most : {d : ℕ} (name : List ℕ) (m : Measured) → m.height ≤ d → AtMost d height (naming name m)
naming-most name m h = record { low = λ names. named-low _ m h (add_entry names name m) }

tested-low : (d : ℕ) (m : Measured) (names : Names) (fits : Bool) → nat_le m.height d ≡ fits → IsLow d height (cond fits (Some (m, names)) None)
tested-low d m names true e = leb-true m.height d e
tested-low d m names false e = tt

unless_higher-low : (d : ℕ) (names : Names) (found : Option Measured) → IsLow d height (unless_higher d names found)
unless_higher-low d names None = tt
unless_higher-low d names (Some m) = tested-low d m names (nat_le m.height d) refl

node_named-most : {d : ℕ} (name : List ℕ) → AtMost d height (node_named d name)
node_named-most name = record { low = λ names. unless_higher-low _ names (find_entry name names) }

-- ---- inline values: a flow list has one level more than its items

items_after-most : {d : ℕ} {more : Flow} → FlowMost d more → (a : Option (Bool × Line)) → AtMost d first_highest (items_after more a)
items_after-most h None = nothing-most
items_after-most h (Some a) = if-most a.0 (h a.1) (gives-most (omega arith))

flow_step-most : {d : ℕ} {item : Inline} {more : Flow} → InlineMost d item → FlowMost d more → (ts : Line) (end : Option Line) → AtMost d first_highest (flow_step item more ts end)
flow_step-most h g ts (Some rest) = gives-most (omega arith)
flow_step-most h g ts None = then-most (h ts) (λ x low. then-most (items_after-most g (after_item x.1)) (λ p below. gives-most (omega arith)))

flow_items-most : {d : ℕ} {item : Inline} → InlineMost d item → (n : ℕ) → FlowMost d (flow_items item n)
unfolding flow_items
flow_items-most h zero ts = nothing-most
flow_items-most h (suc n) ts = flow_step-most h (flow_items-most h n) ts (closed ts)

content_at-most : {d : ℕ} {flow : Flow} → FlowMost d flow → (t : Token) (ts : Line) → AtMost (suc d) first_height (content_at flow t ts)
content_at-most h (Plain text) ts = gives-most (omega arith)
content_at-most h (Quoted text) ts = gives-most (omega arith)
content_at-most h Open ts = then-most (h ts) (λ p low. gives-most (omega arith))
content_at-most h _ ts = nothing-most

content-most : {d : ℕ} {flow : Flow} → FlowMost d flow → InlineMost (suc d) (content flow)
content-most h [] = nothing-most
content-most h (t ∷ ts) = content_at-most h t.token ts

inline_at-most : {d : ℕ} {flow : Flow} → FlowMost d flow → (t : Token) (ts : Line) → AtMost (suc d) first_height (inline_at (suc d) flow t ts)
inline_at-most h (Alias name) ts = then-most (node_named-most name) (λ m low. gives-most low)
inline_at-most h (Anchor name) ts = then-most (content-most h ts) (λ x low. then-most (naming-most name x.0 low) (λ m below. gives-most below))
inline_at-most h t ts = content_at-most h t ts

inline_with-most : {d : ℕ} {flow : Flow} → FlowMost d flow → InlineMost (suc d) (inline_with (suc d) flow)
inline_with-most h [] = nothing-most
inline_with-most h (t ∷ ts) = inline_at-most h t.token ts

inline-most : (d : ℕ) → InlineMost d (inline d)
unfolding inline
inline-most zero ts = nothing-most
inline-most (suc d) ts = inline_with-most (λ us. flow_items-most (inline-most d) (length us) us) ts

if_last-most : {d : ℕ} (x : Measured × Line) → x.0.height ≤ d → AtMost d height (if_last x)
if_last-most (m, []) h = gives-most h
if_last-most (m, t ∷ ts) h = nothing-most

inline_whole-most : (d : ℕ) → OneMost d (inline_whole d)
inline_whole-most d ts = then-most (inline-most d ts) if_last-most

-- ---- the values in a block

value_by-most : {d : ℕ} {block : Lines} {one : One} → LinesMost d block → OneMost d one → (name : Option (List ℕ)) (ts : Line) → LinesMost d (value_by block one name ts)
value_by-most h g (Some name) ts ls = then-most (h ls) (naming-most name)
value_by-most h g None ts ls = g (ts ++ joined ls)

value_of-most : {d : ℕ} {block : Lines} {one : One} → LinesMost d block → OneMost d one → (ts : Line) → LinesMost d (value_of block one ts)
value_of-most h g [] ls = h ls
value_of-most h g (t ∷ ts) ls = value_by-most h g (anchor_alone (t ∷ ts)) (t ∷ ts) ls

item_by-most : {d : ℕ} {block : Lines} {one : One} → LinesMost d block → OneMost d one → (by : Head) (ts : Line) → LinesMost d (item_by block one by ts)
item_by-most h g (dash us) ts ls = h (ts ∷ ls)
item_by-most h g (entry key us) ts ls = h (ts ∷ ls)
item_by-most h g value ts ls = value_of-most h g ts ls

item_at-most : {d : ℕ} {block : Lines} {one : One} → LinesMost d block → OneMost d one → (by : Head) → LinesMost d (item_at block one by)
item_at-most h g (dash ts) ls = item_by-most h g (head ts) ts ls
item_at-most h g _ ls = nothing-most

items_of-most : {d : ℕ} {block : Lines} {one : One} → LinesMost d block → OneMost d one → (before : List Measured) → highest before ≤ d
    → (gs : List Group) → AtMost d highest (items_of block one before gs)
items_of-most h g before low [] = gives-most low
items_of-most h g before low (x ∷ gs) =
    then-most (item_at-most h g (head x.first) x.own)
    (λ m below. items_of-most h g (before ++ m ∷ []) (omega (arith, max_push highest height refl (λ _ _. refl) before m)) gs)

-- ---- the entries of a block

added-low : (d : ℕ) (before : List Entry) (key : List ℕ) (m : Measured) (names : Names) → highest_value before ≤ d → m.height ≤ d
    → (there : Bool) → IsLow d highest_value (option_map (λ es. (es, names)) (cond there None (Some (before ++ (key, m) ∷ []))))
added-low d before key m names low below true = tt
added-low d before key m names low below false = omega (arith, max_push highest_value (λ e. e.1.height) refl (λ _ _. refl) before (key, m))

adding-most : {d : ℕ} (before : List Entry) (key : List ℕ) (m : Measured) → highest_value before ≤ d → m.height ≤ d → AtMost d highest_value (adding before key m)
adding-most before key m low below = record { low = λ names. added-low _ before key m names low below (list_any (λ e. bytes_eq key e.0) before) }

entry_after-most : {d : ℕ} {block : Lines} {one : One} → LinesMost d block → OneMost d one → (before : List Entry) → highest_value before ≤ d
    → (by : Head) (ls : List Line) → AtMost d highest_value (entry_after block one before by ls)
entry_after-most h g before low (entry key ts) ls = then-most (value_of-most h g ts ls) (λ m below. adding-most before key m low below)
entry_after-most h g before low _ ls = nothing-most

entries_of-most : {d : ℕ} {block : Lines} {one : One} → LinesMost d block → OneMost d one → (before : List Entry) → highest_value before ≤ d
    → (gs : List Group) → AtMost d highest_value (entries_of block one before gs)
entries_of-most h g before low [] = gives-most low
entries_of-most h g before low (x ∷ gs) =
    then-most (entry_after-most h g before low (head x.first) x.own)
    (λ es below. entries_of-most h g es below gs)

-- ---- blocks: one level more than what stands in them

block_by-most : {d : ℕ} {below : Lines} {one own : One} → LinesMost d below → OneMost d one → OneMost (suc d) own
    → (by : Head) (l : Line) → LinesMost (suc d) (block_by below one own by l)
block_by-most h g f (dash ts) l ls =
    then-most (items_of-most h g [] (omega arith) (groups (is_deeper (indentation l)) (l ∷ ls)).1) (λ ms low. gives-most (omega arith))
block_by-most h g f (entry key ts) l ls =
    then-most (entries_of-most h g [] (omega arith) (groups (is_deeper_or_dash (indentation l)) (l ∷ ls)).1) (λ es low. gives-most (omega arith))
block_by-most h g f value l ls = if-most (is_some (anchor_alone l)) nothing-most (f (joined (l ∷ ls)))

block_with-most : {d : ℕ} {below : Lines} {one own : One} → LinesMost d below → OneMost d one → OneMost (suc d) own → LinesMost (suc d) (block_with below one own)
block_with-most h g f [] = gives-most (omega arith)
block_with-most h g f (l ∷ ls) =
    if-most (list_all (λ m. nat_le (indentation l) (indentation m)) ls) (block_by-most h g f (head l) l ls) nothing-most

block-most : (d : ℕ) → LinesMost d (block d)
unfolding block
block-most zero ls = nothing-most
block-most (suc d) ls = block_with-most (block-most d) (inline_whole-most d) (inline_whole-most (suc d)) ls

-- ---- the tree

first-low : (d : ℕ) (outcome : Option (Measured × Names)) → IsLow d height outcome → (m : Measured) → option_map (λ p. p.0) outcome ≡ Some m → m.height ≤ d
first-low d None h m e = absurd (cc)
first-low d (Some p) h m e = let same : p.0 ≡ m = cc in rw (← same) h

pub tree-height : (ls : List Line) (m : Measured) → tree ls ≡ Some m → m.height ≤ max_levels
tree-height ls m e = first-low max_levels (block max_levels ls []) ((block-most max_levels ls).low []) m e
