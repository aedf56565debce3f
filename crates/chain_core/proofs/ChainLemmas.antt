-- The chain as a relation and as a computation are one.
use Rattle.std.proofs.Common.{◌≡◌, ℕ, ◌==◌, ◌&&◌, Bool, true, List, [], ◌∷◌, get_or, Option, Some, None, refl, sym, ◌∙◌, ap, eq-eqb, subst, ◌⊎◌, inl, inr}
use Rattle.std.specs.List.{list_all, All, Contains}
use Rattle.std.proofs.lemmas.Bool.{false≢true, and_parts}
use Rattle.std.proofs.lemmas.Bool.Decides.{eqb_tells}
use Rattle.std.proofs.lemmas.List.Elements.{All-head, All-tail, All-contains, Contains-get_or}
use Rattle.literals_core.specs.Truth.{IsFalseUnder, open_literals}
use Rattle.literals_core.proofs.Members.{Contains-first, Contains-cases, Contains-none}
use Rattle.literals_core.proofs.Truth.{open_or_false, open_is, is_open, all_false}
use Rattle.chain_core.specs.Chain.{clause_at, IsOnlyOpen, Chains, ends, adds, after_open, after_clause, chain_from}

all_same : (l : ℕ) (xs : List ℕ) (x : ℕ) → list_all (λ y. y == l) xs ≡ true → Contains xs x → x ≡ l
all_same l [] x all h = absurd (Contains-none x h)
all_same l (y ∷ xs) x all h =
    let parts = and_parts (y == l) (list_all (λ z. z == l) xs) all in
    elim (Contains-cases y x xs h) [
      | inl here ↦ sym here ∙ (elim (eqb_tells y l) [ inl same ↦ same.1 | inr other ↦ absurd (false≢true (sym other.0 ∙ parts.0)) ])
      | inr later ↦ all_same l xs x parts.1 later
    ]

same_all : (l : ℕ) (xs : List ℕ) → All (λ x. x ≡ l) xs → list_all (λ y. y == l) xs ≡ true
same_all l [] all = refl
same_all l (y ∷ xs) all =
    ap (λ b. b && list_all (λ z. z == l) xs) (eq-eqb y l (All-head (λ x. x ≡ l) y xs all)) ∙ same_all l xs (All-tail (λ x. x ≡ l) y xs all)

-- a clause with no open literal is all false
none_open : (set clause : List ℕ) → open_literals set clause ≡ [] → All (IsFalseUnder set) clause
none_open set clause none = λ k d lt.
    let P : List ℕ → Type 0 = λ os. Contains os (get_or clause k d) in
    elim (open_or_false set clause (get_or clause k d) (Contains-get_or clause k d lt)) [ inl among ↦ absurd (Contains-none (get_or clause k d) (subst P none among)) | inr out ↦ out ]

-- and one whose open literals are all one has that one alone
one_open : (set clause : List ℕ) (l : ℕ) (ls : List ℕ) → open_literals set clause ≡ l ∷ ls → list_all (λ x. x == l) ls ≡ true → IsOnlyOpen set clause l
one_open set clause l ls is same =
    let P : List ℕ → Type 0 = λ os. Contains os l in
    let here = open_is set clause l (subst P (sym is) (Contains-first l ls)) in
    record {
      among = here.0;
      not_false = here.1;
      others = λ k d lt.
          let Q : List ℕ → Type 0 = λ os. Contains os (get_or clause k d) in
          elim (open_or_false set clause (get_or clause k d) (Contains-get_or clause k d lt)) [
            | inl among ↦ inl (elim (Contains-cases l (get_or clause k d) ls (subst Q is among)) [ inl first ↦ sym first | inr later ↦ all_same l ls (get_or clause k d) same later ])
            | inr out ↦ inr out
          ];
    }

-- a chain that is computed to succeed is one
after_is : (known : List (List ℕ)) (set hints : List ℕ) (h : ℕ) → ((l : ℕ) → chain_from known (l ∷ set) hints ≡ true → Chains known (l ∷ set) hints) → (clause : List ℕ) → clause_at known h ≡ Some clause → (os : List ℕ) → open_literals set clause ≡ os
    → after_open os (λ l. chain_from known (l ∷ set) hints) ≡ true → Chains known set (h ∷ hints)
after_is known set hints h more clause at [] is ok = ends at (none_open set clause is)
after_is known set hints h more clause at (l ∷ ls) is ok =
    let parts = and_parts (list_all (λ x. x == l) ls) (chain_from known (l ∷ set) hints) ok in
    adds at (one_open set clause l ls is parts.0) (more l parts.1)

clause_is : (known : List (List ℕ)) (set hints : List ℕ) (h : ℕ) → ((l : ℕ) → chain_from known (l ∷ set) hints ≡ true → Chains known (l ∷ set) hints) → (o : Option (List ℕ)) → clause_at known h ≡ o
    → after_clause set o (λ l. chain_from known (l ∷ set) hints) ≡ true → Chains known set (h ∷ hints)
clause_is known set hints h more None at ok = absurd (false≢true ok)
clause_is known set hints h more (Some clause) at ok = after_is known set hints h more clause at (open_literals set clause) refl ok

pub chains_computed : (known : List (List ℕ)) (set hints : List ℕ) → chain_from known set hints ≡ true → Chains known set hints
chains_computed known set [] ok = absurd (false≢true ok)
chains_computed known set (h ∷ hints) ok = clause_is known set hints h (λ l. chains_computed known (l ∷ set) hints) (clause_at known h) refl ok

-- and the other way round
after_one : (os : List ℕ) (l : ℕ) (next : ℕ → Bool) → All (λ x. x ≡ l) os → Contains os l → next l ≡ true → after_open os next ≡ true
after_one [] l next all among ok = absurd (Contains-none l among)
after_one (x ∷ xs) l next all among ok =
    let first : x ≡ l = All-head (λ y. y ≡ l) x xs all in
    let P : ℕ → Type 0 = λ m. All (λ y. y ≡ m) xs in
    ap (λ b. b && next x) (same_all x xs (subst P (sym first) (All-tail (λ y. y ≡ l) x xs all))) ∙ ap next first ∙ ok

only_open : (set clause : List ℕ) (l : ℕ) → IsOnlyOpen set clause l → All (λ x. x ≡ l) (open_literals set clause) × Contains (open_literals set clause) l
only_open set clause l only = (
  λ k d lt.
      let here = open_is set clause (get_or (open_literals set clause) k d) (Contains-get_or (open_literals set clause) k d lt) in
      elim (All-contains (λ x. (x ≡ l) ⊎ IsFalseUnder set x) clause (get_or (open_literals set clause) k d) only.others here.0) [ inl same ↦ same | inr out ↦ absurd (here.1 out) ],
  is_open set clause l only.among only.not_false,
)

pub chains_succeed : {known : List (List ℕ)} {set hints : List ℕ} → Chains known set hints → chain_from known set hints ≡ true
chains_succeed {known} {set} (ends {hints} {clause} at all) =
    ap (λ o. after_clause set o (λ l. chain_from known (l ∷ set) hints)) at ∙ ap (λ os. after_open os (λ l. chain_from known (l ∷ set) hints)) (all_false set clause all)
chains_succeed {known} {set} (adds {hints} {clause} {h} {l} at only more) =
    let parts = only_open set clause l only in
    ap (λ o. after_clause set o (λ l. chain_from known (l ∷ set) hints)) at ∙ after_one (open_literals set clause) l (λ l. chain_from known (l ∷ set) hints) parts.0 parts.1 (chains_succeed more)
