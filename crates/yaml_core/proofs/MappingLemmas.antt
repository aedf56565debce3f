-- The keys of a mapping while it is read.
use Rattle.std.proofs.Common.{◌≡◌, ℕ, ◌+◌, Bool, true, false, cond, ◌||◌, List, [], ◌∷◌, ◌++◌, map, refl, ap, sym}
use Rattle.std.proofs.Common.{◌∙◌, subst, Option, Some, None}
use Rattle.std.specs.Prelude.{max, min, not, ◌&&◌, option_map, string_bytes}
use Rattle.std.specs.List.{list_any}
use Rattle.std.specs.Str.{bytes_eq}
use Rattle.std.specs.Ordering.{nat_cmp}
use Rattle.std.specs.Cmp.Lexicographic.{slice_cmp}
use Rattle.std.specs.String.{string_cmp}
use Rattle.std.specs.BTreeSet.{BTreeSet, UpdatesBy, contains_text}
use Rattle.std.specs.declared.alloc.Global.{Global}
use Rattle.std.specs.declared.string.String.{String}
use Rattle.std.proofs.lemmas.Slice.Eq.{bytes_eq-Decides}
use Rattle.std.proofs.lemmas.Map.Text.{btree_set_updates_text}
use Rattle.yaml_core.specs.declared.node.Node.{Node}
use Rattle.yaml_core.specs.declared.node.Pair.{Pair}
use Rattle.yaml_core.specs.Measured.{Measured, Entry, pair, add_entry}
use Rattle.yaml_core.specs.Keys.{are_distinct}
use Rattle.yaml_core.specs.Kept.{KeepsEntries, KeepsMore, KeepsNode, IsLeftOut, last_u32}
use Rattle.yaml_core.proofs.EntriesLemmas.{key_in, by_bool, apart}
use Rattle.yaml_core.proofs.KeptLemmas.{keeps-entry}

-- ---- adding an entry

pub add-new : (es : List Entry) (key : List ℕ) (m : Measured) → key_in key es ≡ false
    → add_entry es key m ≡ Some (es ++ (key, m) ∷ [])
add-new es key m absent = rw absent refl

was-not : (added there : Bool) → added ≡ true → added ≡ not there → there ≡ false
was-not added true e f = absurd (cc)
was-not added false e f = refl

-- a key that was added to the set was absent
pub was-absent : (keys : BTreeSet (String Global)) (es : List Entry) (bs key : List ℕ) (added : Bool)
    → ((q : List ℕ) → contains_text keys q ≡ key_in q es) → bs ≡ key → added ≡ true → added ≡ not (contains_text keys bs)
    → key_in key es ≡ false
was-absent keys es bs key added same name e f =
    subst (λ (q : List ℕ). key_in q es ≡ false) name (sym (same bs) ∙ was-not added (contains_text keys bs) e f)

-- ---- which keys are there

or-true : (b : Bool) → (b || true) ≡ true
or-true true = refl
or-true false = refl

key_in-last : (q : List ℕ) (es : List Entry) (e : Entry) → bytes_eq q e.0 ≡ true → key_in q (es ++ e ∷ []) ≡ true
key_in-last q [] e same = rw same refl
key_in-last q (x ∷ es) e same = rw (key_in-last q es e same) (or-true (bytes_eq q x.0))

key_in-other : (q : List ℕ) (es : List Entry) (e : Entry) → bytes_eq q e.0 ≡ false → key_in q es ≡ key_in q (es ++ e ∷ [])
key_in-other q [] e other = rw other refl
key_in-other q (x ∷ es) e other = ap (λ b. bytes_eq q x.0 || b) (key_in-other q es e other)

-- the keys with a new one at the end
key_in-more : (key q : List ℕ) (m : Measured) (es : List Entry)
    → cond (bytes_eq key q) true (key_in q es) ≡ key_in q (es ++ (key, m) ∷ [])
key_in-more key q m es = by_bool (bytes_eq key q)
    (λ t. rw t (sym (key_in-last q es (key, m) ((bytes_eq-Decides q key).1 (sym ((bytes_eq-Decides key q).0 t))))))
    (λ f. rw f (key_in-other q es (key, m) (apart key q f)))

-- ---- distinct keys

or-false : (a b : Bool) → (a || b) ≡ false → (a ≡ false) × (b ≡ false)
or-false true b e = absurd (cc)
or-false false b e = (refl, e)

abbrev keys_of : List Entry → List (List ℕ)
keys_of es = map (λ (e : Entry). e.0) es

none-more : (k : List ℕ) (es : List Entry) (e : Entry) → list_any (bytes_eq k) (keys_of es) ≡ false
    → bytes_eq k e.0 ≡ false → list_any (bytes_eq k) (keys_of (es ++ e ∷ [])) ≡ false
none-more k [] e none other = rw other refl
none-more k (x ∷ es) e none other =
    let h = or-false (bytes_eq k x.0) (list_any (bytes_eq k) (keys_of es)) none in
    rw (h.0, none-more k es e h.1 other) refl

and-true : (a b : Bool) → (not a && b) ≡ true → (a ≡ false) × (b ≡ true)
and-true true b e = absurd (cc)
and-true false b e = (refl, e)

-- a new key leaves the keys distinct
distinct-more : (es : List Entry) (e : Entry) → are_distinct (keys_of es) ≡ true → key_in e.0 es ≡ false
    → are_distinct (keys_of (es ++ e ∷ [])) ≡ true
distinct-more [] e d none = refl
distinct-more (x ∷ es) e d none =
    let p = or-false (bytes_eq e.0 x.0) (key_in e.0 es) none in
    let h = and-true (list_any (bytes_eq x.0) (keys_of es)) (are_distinct (keys_of es)) d in
    rw (none-more x.0 es e h.0 (apart e.0 x.0 p.0), distinct-more es e h.1 p.1) refl

-- ---- one entry more

pub keeps-more : {h c k d : ℕ} (held after : Option (List Pair)) (more : Option Node)
    (before keys : BTreeSet (String Global)) (es : List Entry) (key : List ℕ) (m : Measured)
    → KeepsEntries held before h c es → KeepsNode more k d m → key_in key es ≡ false
    → UpdatesBy string_cmp (λ k. slice_cmp nat_cmp key (string_bytes k)) before keys true
    → KeepsMore held (option_map (λ n. pair key n) more) after
    → (after ≡ None → IsLeftOut held (option_map (λ n. pair key n) more) (min (d + c) last_u32))
    → KeepsEntries after keys (max h k) (min (d + c) last_u32) (es ++ (key, m) ∷ [])
keeps-more held after more before keys es key m all kept absent updates keeps out = record {
  pairs = keeps-entry held after more es (key, m) all.pairs kept keeps out;
  contains = λ q. btree_set_updates_text key before keys true updates q
      ∙ ap (cond (bytes_eq key q) true) (all.contains q) ∙ key_in-more key q m es;
  distinct = distinct-more es (key, m) all.distinct absent;
}
