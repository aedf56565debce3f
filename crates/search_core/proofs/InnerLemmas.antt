-- What holds of literals inside the search holds of the literals of a formula that they stand for.
use Rattle.std.proofs.Common.{◌≡◌, ℕ, zero, suc, ◌≤◌, ◌==◌, true, false, cond, ◌||◌, List, [], ◌∷◌, get_or, map, None, Some, refl, sym, ◌∙◌, ap, subst, arith, ◌⊎◌, inl, inr}
use Rattle.std.specs.List.{All, Contains, slice_get}
use Rattle.std.proofs.lemmas.Bool.Decides.{nat_tests}
use Rattle.literals_core.specs.Literal.{negation}
use Rattle.literals_core.specs.Truth.{IsFalseUnder, is_true, is_false}
use Rattle.literals_core.specs.Settled.{IsSettled}
use Rattle.literals_core.proofs.Members.{Contains-first, Contains-later, Contains-cases, Contains-none}
use Rattle.watch_core.specs.Trail.{value_of}
use Rattle.chain_core.specs.Chain.{Chains, ends, adds, clause_at, IsOnlyOpen}
use Rattle.chain_core.specs.Fresh.{HasNoPair, LeavesOne, ShowsFresh}
use Rattle.search_core.specs.Inner.{outer, outer_clauses}
use Rattle.search_core.proofs.ListLemmas.{map_member}

pub outer_negation : (l : ℕ) → negation (outer l) ≡ outer (negation l)
outer_negation l = grind (arith, nat_tests)

pub outer_same : (l m : ℕ) → outer l ≡ outer m → l ≡ m
outer_same l m e = omega (arith, e)

-- what holds of each member holds of each image
pub all_mapped : {A B : Type 0} (f : A → B) (P : A → Type 0) (Q : B → Type 0) (xs : List A) → ((x : A) → P x → Q (f x)) → All P xs → All Q (map f xs)
all_mapped f P Q [] h all k d lt = absurd (omega (arith, lt))
all_mapped f P Q (x ∷ xs) h all zero d lt = h x (all 0 x (omega arith))
all_mapped f P Q (x ∷ xs) h all (suc k) d lt = all_mapped f P Q xs h (λ j e le. all (suc j) e (omega (arith, le))) k d (omega (arith, lt))

-- members
pub outer_member : (xs : List ℕ) (y : ℕ) → Contains (map outer xs) y → (x : ℕ) × Contains xs x × (outer x ≡ y)
outer_member [] y h = absurd (Contains-none y h)
outer_member (x ∷ xs) y h = elim (Contains-cases (outer x) y (map outer xs) h) [
  | inl same ↦ (x, Contains-first x xs, same)
  | inr later ↦ (let f = outer_member xs y later in (f.0, Contains-later x f.0 xs f.1, f.2))
]

pub inner_member : (xs : List ℕ) (x : ℕ) → Contains (map outer xs) (outer x) → Contains xs x
inner_member xs x h = (let f = outer_member xs (outer x) h in subst (Contains xs) (outer_same f.0 x f.2) f.1)

-- literals of a formula are of variables from 1
pub outer_real : (clauses : List (List ℕ)) (c l : ℕ) → Contains (get_or (outer_clauses clauses) c []) l → 2 ≤ l
outer_real [] c l h = absurd (Contains-none l h)
outer_real (x ∷ clauses) zero l h = (let f = outer_member x l h in omega (arith, f.2))
outer_real (x ∷ clauses) (suc c) l h = outer_real clauses c l h

-- truth
pub false_outer : (set : List ℕ) (x : ℕ) → IsFalseUnder set x → IsFalseUnder (map outer set) (outer x)
false_outer set x h = subst (Contains (map outer set)) (sym (outer_negation x)) (map_member outer set (negation x) h)

pub false_inner : (set : List ℕ) (x : ℕ) → IsFalseUnder (map outer set) (outer x) → IsFalseUnder set x
false_inner set x h = inner_member set (negation x) (subst (Contains (map outer set)) (outer_negation x) h)

pub is_true_outer : (set : List ℕ) (l : ℕ) → is_true (map outer set) (outer l) ≡ is_true set l
is_true_outer [] l = refl
is_true_outer (x ∷ set) l = ap (λ b. b || is_true (map outer set) (outer l)) (same x l) ∙ ap (λ b. (x == l) || b) (is_true_outer set l) where
  same : (x l : ℕ) → (outer x == outer l) ≡ (x == l)
  same x l = grind (arith, nat_tests)

pub is_false_outer : (set : List ℕ) (l : ℕ) → is_false (map outer set) (outer l) ≡ is_false set l
is_false_outer set l = ap (is_true (map outer set)) (outer_negation l) ∙ is_true_outer set (negation l)

pub value_of_outer : (set : List ℕ) (l : ℕ) → value_of (map outer set) (outer l) ≡ value_of set l
value_of_outer set l =
    ap (λ b. cond b (Some true) (cond (is_false (map outer set) (outer l)) (Some false) None)) (is_true_outer set l)
    ∙ ap (λ b. cond (is_true set l) (Some true) (cond b (Some false) None)) (is_false_outer set l)

-- chains
outer_at : (clauses : List (List ℕ)) (h : ℕ) (clause : List ℕ) → clause_at clauses h ≡ Some clause → clause_at (outer_clauses clauses) h ≡ Some (map outer clause)
outer_at clauses zero clause e = absurd (cc)
outer_at clauses (suc k) clause e = at clauses k e where
  at : (clauses : List (List ℕ)) (k : ℕ) → slice_get clauses k ≡ Some clause → slice_get (outer_clauses clauses) k ≡ Some (map outer clause)
  at [] k e = absurd (cc)
  at (c ∷ clauses) zero e = (let same : c ≡ clause = cc in ap (λ (x : List ℕ). Some (map outer x)) same)
  at (c ∷ clauses) (suc k) e = at clauses k e

outer_open : (set clause : List ℕ) (l : ℕ) → IsOnlyOpen set clause l → IsOnlyOpen (map outer set) (map outer clause) (outer l)
outer_open set clause l only = record {
  among = map_member outer clause l only.among;
  not_false = λ out. only.not_false (false_inner set l out);
  others = all_mapped outer (λ x. (x ≡ l) ⊎ IsFalseUnder set x) (λ x. (x ≡ outer l) ⊎ IsFalseUnder (map outer set) x) clause each only.others;
} where
  each : (x : ℕ) → (x ≡ l) ⊎ IsFalseUnder set x → (outer x ≡ outer l) ⊎ IsFalseUnder (map outer set) (outer x)
  each x (inl same) = inl (ap outer same)
  each x (inr out) = inr (false_outer set x out)

pub outer_chains : (clauses : List (List ℕ)) {set hints : List ℕ} → Chains clauses set hints → Chains (outer_clauses clauses) (map outer set) hints
outer_chains clauses {set} (ends {hints} {clause} {h} at out) = ends (outer_at clauses h clause at) (all_mapped outer (IsFalseUnder set) (IsFalseUnder (map outer set)) clause (false_outer set) out)
outer_chains clauses {set} (adds {hints} {clause} {h} {l} at only more) = adds {l = outer l} (outer_at clauses h clause at) (outer_open set clause l only) (outer_chains clauses more)

pub map_negation : (xs : List ℕ) → map negation (map outer xs) ≡ map outer (map negation xs)
map_negation [] = refl
map_negation (x ∷ xs) = ap (λ l. l ∷ map negation (map outer xs)) (outer_negation x) ∙ ap (λ (ls : List ℕ). outer (negation x) ∷ ls) (map_negation xs)

-- what unit propagation has nothing to say of
pub outer_settled : (set clause : List ℕ) → IsSettled set clause → IsSettled (map outer set) (map outer clause)
outer_settled set clause (inl (k, x, lt, is, holds)) = (let has = map_member outer clause x (k, lt, is) in inl (has.0, outer x, has.1, has.2, map_member outer set x holds))
outer_settled set clause (inr two) = inr (record {
  first = outer two.first;
  second = outer two.second;
  differ = λ e. two.differ (outer_same two.first two.second e);
  among = (map_member outer clause two.first two.among.0, map_member outer clause two.second two.among.1);
  not_false = (λ out. two.not_false.0 (false_inner set two.first out), λ out. two.not_false.1 (false_inner set two.second out));
})

pub all_settled : (set : List ℕ) (clauses : List (List ℕ)) → All (IsSettled set) clauses → All (IsSettled (map outer set)) (outer_clauses clauses)
all_settled set clauses all = all_mapped (map outer) (IsSettled set) (IsSettled (map outer set)) clauses (outer_settled set) all

pub outer_no_pair : (xs : List ℕ) → HasNoPair xs → HasNoPair (map outer xs)
outer_no_pair xs none = all_mapped outer (λ l. ¬ Contains xs (negation l)) (λ l. ¬ Contains (map outer xs) (negation l)) xs (λ x no' has. no' (false_inner xs x has)) none

pub outer_fresh : (known : List (List ℕ)) (literals set : List ℕ) → ShowsFresh known literals set → ShowsFresh (outer_clauses known) (map outer literals) (map outer set)
outer_fresh known literals set shows = record {
  consistent = outer_no_pair set shows.consistent;
  one = record {
    left = outer one.left;
    among = map_member outer literals one.left one.among;
    not_true = λ has. one.not_true (inner_member set one.left has);
    not_false = λ out. one.not_false (false_inner set one.left out);
    others = all_mapped outer (λ x. (x ≡ one.left) ⊎ IsFalseUnder set x) (λ x. (x ≡ outer one.left) ⊎ IsFalseUnder (map outer set) x) literals each one.others;
  };
  settled = all_settled set known shows.settled;
} where
  one : LeavesOne set literals
  one = shows.one

  each : (x : ℕ) → (x ≡ shows.one.left) ⊎ IsFalseUnder set x → (outer x ≡ outer shows.one.left) ⊎ IsFalseUnder (map outer set) (outer x)
  each x (inl same) = inl (ap outer same)
  each x (inr out) = inr (false_outer set x out)
