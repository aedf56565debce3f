-- Names that differ from each other read as the same names.
use Rattle.std.proofs.Common.{◌≡◌, ℕ, Bool, true, false, not, ◌&&◌, List, [], ◌∷◌, ◌++◌, length, map, codes, refl, sym, ap, ◌∙◌, subst, append_assoc, append-nil, Some, None, Ok}
use Rattle.std.specs.Prelude.{option_and_then, ok_or, if◌then◌else◌}
use Rattle.std.specs.List.{list_all, AllByRecursion, IsDistinct}
use Rattle.std.specs.Str.{bytes_eq}
use Rattle.std.proofs.lemmas.Bool.{and_parts}
use Rattle.std.proofs.lemmas.Slice.Eq.{bytes_eq-Decides}
use Rattle.yaml_core.specs.declared.node.Node.{Node}
use Rattle.yaml_core.specs.declared.node.Node.TheVariants as node
use Rattle.lists_core.specs.Answers.{◌>>=◌}
use Rattle.problem_core.specs.Name.{is_good_name, is_among}
use Rattle.problem_core.specs.ReadNames.{text_in, fault_at, new_name, names_of}
use Rattle.problem_core.specs.declared.read_names.NameList.{NameList}
use Rattle.problem_core.specs.declared.read_names.NameList.TheVariants.{Scale, Categories}
use Rattle.written_core.proofs.Lookups.{text-Quoted, some-Quoted, quoted-under}
use Rattle.written_core.proofs.Lists.{quoted_leaf}
use Rattle.problem_text_core.proofs.Meaning.{category_measured}

-- a text that differs from another differs the other way round
differs-back : (a b : List ℕ) → bytes_eq a b ≡ false → bytes_eq b a ≡ false
differs-back a b h = by_test (bytes_eq b a) refl
  where
    by_test : (t : Bool) → bytes_eq b a ≡ t → bytes_eq b a ≡ false
    by_test false e = e
    by_test true e = let same : b ≡ a = (bytes_eq-Decides b a).0 e in ap (λ x. bytes_eq x a) same ∙ ap (bytes_eq a) (sym same) ∙ h

all-at : {X : Type 0} (P : X → Type 0) (xs : List X) (x : X) (more : List X) → AllByRecursion P (xs ++ x ∷ more) → P x
all-at P [] x more h = h.0
all-at P (y ∷ ys) x more h = all-at P ys x more h.1

-- a name behind others that all differ is new
pub distinct-new : (earlier : List (List ℕ)) (name : List ℕ) (more : List (List ℕ)) → IsDistinct bytes_eq (earlier ++ name ∷ more) → is_among earlier name ≡ false
unfolding IsDistinct
distinct-new [] name more h = refl
distinct-new (e ∷ es) name more h =
    rw (differs-back e name (all-at (λ y. bytes_eq e y ≡ false) es name more h.0), distinct-new es name more h.1) refl

new-name : (earlier : List (List ℕ)) (name : List ℕ) → is_good_name name ≡ true → is_among earlier name ≡ false → new_name earlier name ≡ Some name
new-name earlier name good new = by_tests (is_good_name name) (is_among earlier name) good new
  where
    by_tests : (g a : Bool) → g ≡ true → a ≡ false → (if g && not a then Some name else None) ≡ Some name
    by_tests g a eg ea = rw (eg, ea) refl

-- names behind earlier ones, if each item is read as its name
names-read : (list : NameList) (item : List ℕ → Node) → ((name : List ℕ) → text_in list (item name) ≡ Some name) → (earlier names : List (List ℕ)) → list_all is_good_name names ≡ true → IsDistinct bytes_eq (earlier ++ names)
    → names_of list earlier (map item names) ≡ Ok (earlier ++ names)
unfolding names_of
names-read list item reads earlier [] good differ = ap (λ (ns : List (List ℕ)). Ok ns) (sym (append-nil earlier))
names-read list item reads earlier (name ∷ names) good differ =
    let (first, others) = and_parts (is_good_name name) (list_all is_good_name names) good in
    let read : option_and_then (new_name earlier) (text_in list (item name)) ≡ Some name = ap (option_and_then (new_name earlier)) (reads name) ∙ new-name earlier name first (distinct-new earlier name names differ) in
    ap (λ o. ok_or o (fault_at list (length earlier)) >>= λ n. names_of list (earlier ++ n ∷ []) (map item names)) read
    ∙ names-read list item reads (earlier ++ name ∷ []) names others (subst (IsDistinct bytes_eq) (sym (append_assoc earlier (name ∷ []) names)) differ)
    ∙ ap (λ (ns : List (List ℕ)). Ok ns) (append_assoc earlier (name ∷ []) names)

-- the names of a scale
pub scale-names-read : (place : ℕ) (names : List (List ℕ)) → list_all is_good_name names ≡ true → IsDistinct bytes_eq names → names_of (Scale place) [] (map (λ t. node.Quoted t) names) ≡ Ok names
scale-names-read place names good differ = names-read (Scale place) (λ t. node.Quoted t) text-Quoted [] names good differ

-- the names of the categories
pub category-names-read : (names : List (List ℕ)) → list_all is_good_name names ≡ true → IsDistinct bytes_eq names → names_of Categories [] (map (λ t. (category_measured t).node) names) ≡ Ok names
category-names-read names good differ =
    names-read Categories (λ t. (category_measured t).node) (λ t. quoted-under (codes "name") ((codes "name", quoted_leaf t) ∷ []) t (some-Quoted t)) [] names good differ
