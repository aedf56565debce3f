-- Entries as they are found by key.
use Rattle.std.proofs.Common.{◌≡◌, ℕ, suc, ◌<◌, Bool, true, false, cond, ◌||◌, List, [], ◌∷◌, ◌++◌, length, get_or, refl, ap, sym, ◌∙◌, arith, Option, Some, None, ◌⊎◌, inl, inr, ⊎_elim}
use Rattle.std.specs.Prelude.{is_some, option_map}
use Rattle.std.specs.List.{list_any}
use Rattle.std.specs.Str.{bytes_eq}
use Rattle.std.specs.Map.{update}
use Rattle.std.proofs.lemmas.Slice.Eq.{bytes_eq-Decides}
use Rattle.std.specs.Prelude.{string_bytes}
use Rattle.std.specs.Ordering.{nat_cmp}
use Rattle.std.specs.Cmp.Lexicographic.{slice_cmp}
use Rattle.std.specs.String.{string_cmp}
use Rattle.std.specs.BTreeMap.{BTreeMap, UpdatesBy}
use Rattle.std.specs.declared.alloc.Global.{Global}
use Rattle.std.specs.declared.string.String.{String}
use Rattle.std.proofs.lemmas.Map.Text.{btree_map_updates_text}
use Rattle.yaml_core.specs.Entries.{place_of, IsIndexed}
use Rattle.yaml_core.specs.Measured.{Measured, Entry, find_entry, add_entry}

abbrev pub key_in : List ℕ → List Entry → Bool
key_in key es = list_any (λ e. bytes_eq key e.0) es

is_some-place : (b : Bool) (o : Option ℕ) → is_some (cond b (Some 0) (option_map (λ n. suc n) o)) ≡ (b || is_some o)
is_some-place true o = refl
is_some-place false None = refl
is_some-place false (Some n) = refl

-- a key is among the entries if it has a place
pub key_in-place : (key : List ℕ) (es : List Entry) → key_in key es ≡ is_some (place_of key es)
key_in-place key [] = refl
key_in-place key (e ∷ es) = ap (λ b. bytes_eq key e.0 || b) (key_in-place key es) ∙ sym (is_some-place (bytes_eq key e.0) (place_of key es))

-- a new key goes last
pub add_entry-new : (key : List ℕ) (m : Measured) (es : List Entry) → place_of key es ≡ None → add_entry es key m ≡ Some (es ++ (key, m) ∷ [])
add_entry-new key m es none = rw (key_in-place key es, none) refl

-- a key that is there makes no entry
pub add_entry-there : (key : List ℕ) (m : Measured) (es : List Entry) (n : ℕ) → place_of key es ≡ Some n → add_entry es key m ≡ None
add_entry-there key m es n some = rw (key_in-place key es, some) refl

-- ---- places

place-none : (b : Bool) (o : Option ℕ) → cond b (Some 0) (option_map (λ n. suc n) o) ≡ None → (b ≡ false) × (o ≡ None)
place-none true o e = absurd (cc)
place-none false None e = (refl, refl)
place-none false (Some n) e = absurd (cc)

abbrev Later : Bool → Option ℕ → ℕ → Type 0
Later b o n = ((b ≡ true) × (n ≡ 0)) ⊎ ((m : ℕ) × (b ≡ false) × (o ≡ Some m) × (n ≡ suc m))

place-some : (b : Bool) (o : Option ℕ) (n : ℕ) → cond b (Some 0) (option_map (λ n. suc n) o) ≡ Some n → Later b o n
place-some true o n e = let same : 0 ≡ n = cc in inl (refl, sym same)
place-some false None n e = absurd (cc)
place-some false (Some m) n e = let same : suc m ≡ n = cc in inr (m, refl, refl, sym same)

-- the entry at its place is the one that is found
pub find-at : (key : List ℕ) (es : List Entry) (n : ℕ) (other : Entry) → place_of key es ≡ Some n → (n < length es) × (find_entry key es ≡ Some (get_or es n other).1)
find-at key [] n other e = absurd (cc)
find-at key (x ∷ es) n other e =
    ⊎_elim (λ (here : (bytes_eq key x.0 ≡ true) × (n ≡ 0)). (omega (arith, here.1), rw (here.0, here.1) refl))
    (λ (there : (m : ℕ) × (bytes_eq key x.0 ≡ false) × (place_of key es ≡ Some m) × (n ≡ suc m)).
    let h = find-at key es there.0 other there.2 in (omega (arith, h.0, there.3), rw (there.1, there.3) (h.1)))
    (place-some (bytes_eq key x.0) (place_of key es) n e)

pub find-none : (key : List ℕ) (es : List Entry) → place_of key es ≡ None → find_entry key es ≡ None
find-none key [] e = refl
find-none key (x ∷ es) e = let h = place-none (bytes_eq key x.0) (place_of key es) e in rw h.0 (find-none key es h.1)

-- ---- one entry more

map-cond : (b : Bool) (n : ℕ) → option_map (λ n. suc n) (cond b (Some n) None) ≡ cond b (Some (suc n)) None
map-cond true n = refl
map-cond false n = refl

place-new : (key : List ℕ) (es : List Entry) (e : Entry) → place_of key es ≡ None → place_of key (es ++ e ∷ []) ≡ cond (bytes_eq key e.0) (Some (length es)) None
place-new key [] e none = refl
place-new key (x ∷ es) e none =
    let h = place-none (bytes_eq key x.0) (place_of key es) none in
    rw (h.0, place-new key es e h.1) (map-cond (bytes_eq key e.0) (length es))

place-there : (key : List ℕ) (es : List Entry) (e : Entry) (n : ℕ) → place_of key es ≡ Some n → place_of key (es ++ e ∷ []) ≡ Some n
place-there key [] e n some = absurd (cc)
place-there key (x ∷ es) e n some =
    ⊎_elim (λ (here : (bytes_eq key x.0 ≡ true) × (n ≡ 0)). rw (here.0, here.1) refl)
    (λ (there : (m : ℕ) × (bytes_eq key x.0 ≡ false) × (place_of key es ≡ Some m) × (n ≡ suc m)).
    rw (there.1, place-there key es e there.0 there.2, there.3) refl)
    (place-some (bytes_eq key x.0) (place_of key es) n some)

pub by_bool : {P : Type 0} (b : Bool) → (b ≡ true → P) → (b ≡ false → P) → P
by_bool true t f = t refl
by_bool false t f = f refl

by_place : {P : Type 0} (o : Option ℕ) → (o ≡ None → P) → ((n : ℕ) → o ≡ Some n → P) → P
by_place None t f = t refl
by_place (Some n) t f = f n refl

same-bytes : (a : List ℕ) → bytes_eq a a ≡ true
same-bytes a = (bytes_eq-Decides a a).1 refl

pub apart : (a b : List ℕ) → bytes_eq a b ≡ false → bytes_eq b a ≡ false
apart a b h = by_bool (bytes_eq b a)
    (λ t. let same : b ≡ a = (bytes_eq-Decides b a).0 t in let hit : bytes_eq a b ≡ true = (bytes_eq-Decides a b).1 (sym same) in absurd (cc))
    (λ f. f)

-- the places with a new key at the end
pub place-more : (key q : List ℕ) (m : Measured) (es : List Entry) → place_of key es ≡ None
    → update bytes_eq (λ k. place_of k es) key (Some (length es)) q ≡ place_of q (es ++ (key, m) ∷ [])
place-more key q m es none = by_bool (bytes_eq key q)
    (λ t. let same : key ≡ q = (bytes_eq-Decides key q).0 t in
    rw t (sym (place-new q es (key, m) (ap (λ k. place_of k es) (sym same) ∙ none) ∙ rw ((bytes_eq-Decides q key).1 (sym same)) refl)))
    (λ f. rw f (by_place (place_of q es)
    (λ absent. absent ∙ sym (place-new q es (key, m) absent ∙ rw (apart key q f) refl))
    (λ n there. there ∙ sym (place-there q es (key, m) n there))))

-- ---- the map of places

pub none-from : (o : Option ℕ) → is_some o ≡ false → o ≡ None
none-from None e = refl
none-from (Some n) e = absurd (cc)

pub some-from : (o : Option ℕ) → is_some o ≡ true → (n : ℕ) × (o ≡ Some n)
some-from None e = absurd (cc)
some-from (Some n) e = (n, refl)

pub index-more : (before after : BTreeMap (String Global) ℕ) (es : List Entry) (key : List ℕ) (m : Measured) → IsIndexed before es → place_of key es ≡ None
    → UpdatesBy string_cmp (λ k. slice_cmp nat_cmp key (string_bytes k)) before after (Some (length es)) → IsIndexed after (es ++ (key, m) ∷ [])
index-more before after es key m h none u q =
    btree_map_updates_text key before after (Some (length es)) u q ∙ (λ i. update bytes_eq (λ k. h k i) key (Some (length es)) q) ∙ place-more key q m es none
