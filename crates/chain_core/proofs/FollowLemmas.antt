-- One hint of a chain.
use Rattle.std.proofs.Common.{◌≡◌, ℕ, ◌+◌, ◌<◌, ◌==◌, ◌||◌, Bool, true, false, not, Some, List, [], ◌∷◌, length, subst, get_or, set, drop, cond, refl, sym, ◌∙◌, ap, eq-eqb, inl, inr}
use Rattle.std.specs.List.{filter, All}
use Rattle.std.proofs.lemmas.List.{drop_more, get_or-set_same, get_or-set_other, length-set}
use Rattle.std.proofs.lemmas.List.Elements.{All-head, All-tail}
use Rattle.std.proofs.lemmas.Bool.{cases_eq}
use Rattle.std.proofs.lemmas.Bool.Decides.{eqb_tells}
use Rattle.literals_core.specs.Literal.{negation}
use Rattle.literals_core.specs.Truth.{is_false, open_literals}
use Rattle.literals_core.proofs.Negation.{negation_twice}
use Rattle.chain_core.specs.Chain.{clause_at, after_open, after_clause, chain_from}
use Rattle.chain_core.specs.Stamps.{IsMarked}
use Rattle.chain_core.proofs.KnownLemmas.{All-clause_at}

open_same : (stamps : List ℕ) (stamp : ℕ) (now clause : List ℕ) → All (λ l. l < length stamps) clause → IsMarked stamps stamp now → filter (λ l. not (get_or stamps l 0 == stamp)) clause ≡ open_literals now clause
open_same stamps stamp now [] within marked = refl
open_same stamps stamp now (l ∷ clause) within marked =
    let here : (get_or stamps l 0 == stamp) ≡ is_false now l = marked l (All-head (λ l. l < length stamps) l clause within) in
    let rest = open_same stamps stamp now clause (All-tail (λ l. l < length stamps) l clause within) marked in
    ap (λ b. cond (not b) (l ∷ filter (λ l. not (get_or stamps l 0 == stamp)) clause) (filter (λ l. not (get_or stamps l 0 == stamp)) clause)) here
    ∙ ap (λ ls. cond (not (is_false now l)) (l ∷ ls) ls) rest

pub chain_turn : (known : List (List ℕ)) (now stamps hints clause : List ℕ) (stamp i : ℕ) (answer : (ℕ → Bool) → Bool) → i < length hints → clause_at known (get_or hints i 0) ≡ Some clause → All (λ l. l < length stamps) clause → IsMarked stamps stamp now
    → ((next : ℕ → Bool) → after_open (filter (λ l. not (get_or stamps l 0 == stamp)) clause) next ≡ answer next) → chain_from known now (drop i hints) ≡ answer (λ l. chain_from known (l ∷ now) (drop (i + 1) hints))
chain_turn known now stamps hints clause stamp i answer lt is within marked scanned =
    let cut : drop i hints ≡ get_or hints i 0 ∷ drop (i + 1) hints = drop_more hints i 0 lt in
    let next : ℕ → Bool = λ l. chain_from known (l ∷ now) (drop (i + 1) hints) in
    ap (chain_from known now) cut ∙ ap (λ o. after_clause now o next) is ∙ ap (λ ls. after_open ls next) (sym (open_same stamps stamp now clause within marked)) ∙ scanned next

pub marked_more : (stamps now : List ℕ) (stamp l : ℕ) → negation l < length stamps → IsMarked stamps stamp now → IsMarked (set stamps (negation l) stamp) stamp (l ∷ now)
marked_more stamps now stamp l lt marked = λ y within.
    let inside : y < length stamps = simp length-set at within in
    elim (cases_eq y (negation l)) [
      | inl same ↦ (let wrote : get_or (set stamps (negation l) stamp) y 0 ≡ stamp = ap (λ j. get_or (set stamps (negation l) stamp) j 0) same ∙ get_or-set_same stamps (negation l) stamp 0 lt in
          let first : (l == negation y) ≡ true = eq-eqb l (negation y) (sym (ap negation same ∙ negation_twice l)) in
          eq-eqb _ _ wrote ∙ sym (ap (λ b. b || is_false now y) first))
      | inr other ↦ (let kept : get_or (set stamps (negation l) stamp) y 0 ≡ get_or stamps y 0 = get_or-set_other stamps (negation l) y stamp 0 other in
          let first : (l == negation y) ≡ false = elim (eqb_tells l (negation y)) [ inl equal ↦ absurd (other (sym (ap negation equal.1 ∙ negation_twice y))) | inr apart ↦ apart.0 ] in
          ap (λ n. n == stamp) kept ∙ marked y inside ∙ sym (ap (λ b. b || is_false now y) first))
    ]

-- the literals of a known clause have places
pub clause_range : (known : List (List ℕ)) (id n m : ℕ) (clause : List ℕ) → All (λ c. All (λ l. (l < n) × (negation l < n)) c) known → clause_at known id ≡ Some clause → n ≡ m → All (λ l. (l < m) × (negation l < m)) clause
clause_range known id n m clause all is same =
    let P : List ℕ → Type 0 = λ c. All (λ l. (l < n) × (negation l < n)) c in
    let R : ℕ → Type 0 = λ n. All (λ l. (l < n) × (negation l < n)) clause in
    subst R same (All-clause_at P known id clause all is)

pub marked_at : (stamps now : List ℕ) (stamp l place : ℕ) → place ≡ negation l → negation l < length stamps → IsMarked stamps stamp now → IsMarked (set stamps place stamp) stamp (l ∷ now)
marked_at stamps now stamp l place at lt marked =
    let P : ℕ → Type 0 = λ p. IsMarked (set stamps p stamp) stamp (l ∷ now) in
    subst P (sym at) (marked_more stamps now stamp l lt marked)
