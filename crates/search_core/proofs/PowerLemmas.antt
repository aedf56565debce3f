-- Clauses of which none is subsumed by an earlier one are at most 3 to the power of the number of variables.
use Rattle.std.proofs.Common.{◌≡◌, ◌≢◌, ℕ, zero, suc, ◌+◌, ◌*◌, ◌^◌, ◌<◌, ◌≤◌, false, cond, List, [], ◌∷◌, ◌++◌, length, get_or, map, refl, sym, ◌∙◌, ap, subst, arith, inl, inr}
use Rattle.std.proofs.Math.Nat.{pow-suc}
use Rattle.std.specs.List.{All, Contains}
use Rattle.std.proofs.lemmas.Bool.{cases_Bool, cases_eq, cases_lt}
use Rattle.std.proofs.lemmas.List.{length-map, length-append, get_or-map}
use Rattle.std.proofs.lemmas.Map.Steps.{length-le_from_distinct_below}
use Rattle.std.proofs.lemmas.Bool.Decides.{nat_tests}
use Rattle.std.proofs.lemmas.List.Elements.{All-contains, All-append}
use Rattle.literals_core.proofs.Members.{Contains-none}
use Rattle.chain_core.specs.Fresh.{HasNoPair}
use Rattle.search_core.proofs.StateLemmas.{row_old, row_new}
use Rattle.literals_core.specs.Literal.{negation, variable_of}
use Rattle.literals_core.specs.Truth.{is_true}
use Rattle.literals_core.proofs.Truth.{tested_true, true_tested}
use Rattle.watch_core.proofs.AssignLemmas.{distinct_from, below_any}
use Rattle.search_core.specs.Bounds.{NoneSubsumed}
use Rattle.search_core.proofs.ListLemmas.{all_of}

-- how a variable stands in a clause: not at all, with a plus, with a minus
abbrev digit : List ℕ → ℕ → ℕ
digit clause v = cond (is_true clause (2 * v)) 1 (cond (is_true clause (2 * v + 1)) 2 0)

-- the digits of the variables from 1 to one, the last one first, in base 3
abbrev code : List ℕ → ℕ → ℕ
code clause zero = 0
code clause (suc v) = digit clause (suc v) + 3 * code clause v

digit_low : (clause : List ℕ) (v : ℕ) → digit clause v < 3
digit_low clause v = elim (cases_Bool (is_true clause (2 * v))) [
  | inl plus ↦ (let e : digit clause v ≡ 1 = ap (λ b. cond b 1 (cond (is_true clause (2 * v + 1)) 2 0)) plus in omega (arith, e))
  | inr none ↦ (elim (cases_Bool (is_true clause (2 * v + 1))) [
    | inl minus ↦ (let e : digit clause v ≡ 2 = ap (λ b. cond b 1 (cond (is_true clause (2 * v + 1)) 2 0)) none ∙ ap (λ b. cond b 2 0) minus in omega (arith, e))
    | inr no' ↦ (let e : digit clause v ≡ 0 = ap (λ b. cond b 1 (cond (is_true clause (2 * v + 1)) 2 0)) none ∙ ap (λ b. cond b 2 0) no' in omega (arith, e))
  ])
]

power_more : (v : ℕ) → 3 ^ suc v ≡ 3 * 3 ^ v
power_more v = (let p = pow-suc 3 v in omega (arith, p))

code_low : (clause : List ℕ) (v : ℕ) → code clause v < 3 ^ v
code_low clause zero = omega arith
code_low clause (suc v) = (let d = digit_low clause (suc v) in let c = code_low clause v in let p = power_more v in omega (arith, d, c, p))

-- equal codes have equal digits
same_digits : (a b : List ℕ) (n v : ℕ) → code a n ≡ code b n → 1 ≤ v → v ≤ n → digit a v ≡ digit b v
same_digits a b zero v e from le = absurd (omega (arith, from, le))
same_digits a b (suc n) v e from le =
    let da = digit_low a (suc n) in
    let db = digit_low b (suc n) in
    elim (cases_eq v (suc n)) [
      | inl last ↦ (let same : digit a (suc n) ≡ digit b (suc n) = omega (arith, e, da, db) in ap (digit a) last ∙ same ∙ sym (ap (digit b) last))
      | inr before ↦ same_digits a b n v (omega (arith, e, da, db)) from (omega (arith, le, before))
    ]

other : (l v : ℕ) → l ≡ 2 * v + 1 → 2 * v ≡ negation l
other l v is = grind (arith, nat_tests)

-- a clause whose literals are of these variables, and that has no pair, is told by its digits
digits_tell : (a b : List ℕ) (n : ℕ) → HasNoPair a → All (λ l. (2 ≤ l) × (variable_of l ≤ n)) a → code a n ≡ code b n → All (Contains b) a
digits_tell a b n pair inside e = all_of (Contains b) a (λ l has. member l has) where
  plus_has : (v : ℕ) → digit b v ≡ 1 → Contains b (2 * v)
  plus_has v one = elim (cases_Bool (is_true b (2 * v))) [
    | inl plus ↦ tested_true b (2 * v) plus
    | inr none ↦ (elim (cases_Bool (is_true b (2 * v + 1))) [
      | inl minus ↦ (let d : digit b v ≡ 2 = ap (λ t. cond t 1 (cond (is_true b (2 * v + 1)) 2 0)) none ∙ ap (λ t. cond t 2 0) minus in absurd (omega (arith, d, one)))
      | inr no' ↦ (let d : digit b v ≡ 0 = ap (λ t. cond t 1 (cond (is_true b (2 * v + 1)) 2 0)) none ∙ ap (λ t. cond t 2 0) no' in absurd (omega (arith, d, one)))
    ])
  ]

  minus_has : (v : ℕ) → digit b v ≡ 2 → Contains b (2 * v + 1)
  minus_has v two = elim (cases_Bool (is_true b (2 * v))) [
    | inl plus ↦ (let d : digit b v ≡ 1 = ap (λ t. cond t 1 (cond (is_true b (2 * v + 1)) 2 0)) plus in absurd (omega (arith, d, two)))
    | inr none ↦ (elim (cases_Bool (is_true b (2 * v + 1))) [
      | inl minus ↦ tested_true b (2 * v + 1) minus
      | inr no' ↦ (let d : digit b v ≡ 0 = ap (λ t. cond t 1 (cond (is_true b (2 * v + 1)) 2 0)) none ∙ ap (λ t. cond t 2 0) no' in absurd (omega (arith, d, two)))
    ])
  ]

  member : (l : ℕ) → Contains a l → Contains b l
  member l has =
      let v : ℕ = variable_of l in
      let at = All-contains (λ l. (2 ≤ l) × (variable_of l ≤ n)) a l inside has in
      let same = same_digits a b n v e (omega (arith, at.0)) at.1 in
      elim (cases_eq l (2 * v)) [
        | inl even ↦
            (let plus = true_tested a (2 * v) (subst (Contains a) even has) in
            let d : digit a v ≡ 1 = ap (λ t. cond t 1 (cond (is_true a (2 * v + 1)) 2 0)) plus in
            subst (Contains b) (sym even) (plus_has v (sym same ∙ d)))
        | inr odd ↦
            (let is : l ≡ 2 * v + 1 = omega (arith, odd) in
            let minus = true_tested a (2 * v + 1) (subst (Contains a) is has) in
            let none : is_true a (2 * v) ≡ false = not_plus l v is has in
            let d : digit a v ≡ 2 = ap (λ t. cond t 1 (cond (is_true a (2 * v + 1)) 2 0)) none ∙ ap (λ t. cond t 2 0) minus in
            subst (Contains b) (sym is) (minus_has v (sym same ∙ d)))
      ] where
        not_plus : (l v : ℕ) → l ≡ 2 * v + 1 → Contains a l → is_true a (2 * v) ≡ false
        not_plus l v is has = elim (cases_Bool (is_true a (2 * v))) [
          | inr no' ↦ no'
          | inl plus ↦ absurd (All-contains (λ l. ¬ Contains a (negation l)) a l pair has (subst (Contains a) (other l v is) (tested_true a (2 * v) plus)))
        ]

-- no more than there are lists of signs
pub subsumed_most : (variables : ℕ) (clauses : List (List ℕ)) → NoneSubsumed variables clauses → length clauses ≤ 3 ^ variables
subsumed_most variables clauses thin =
    let codes : List ℕ = map (λ c. code c variables) clauses in
    let size = length-map clauses (λ c. code c variables) in
    let read : (i : ℕ) → i < length codes → get_or codes i 0 ≡ code (get_or clauses i []) variables = (λ i lt. get_or-map (λ c. code c variables) clauses i [] 0 (omega (arith, lt, size))) in
    let most = length-le_from_distinct_below codes (3 ^ variables)
    (distinct_from codes (λ i j before lt e.
    thin.later i j before (omega (arith, lt, size)) (digits_tell (get_or clauses i []) (get_or clauses j []) variables (thin.no_pair i [] (omega (arith, before, lt, size))) (thin.literals i [] (omega (arith, before, lt, size))) (sym (read i (omega (arith, before, lt))) ∙ e ∙ read j lt))))
    (λ q. below_any codes (3 ^ variables) q (λ i lt. (let c = code_low (get_or clauses i []) variables in let r = read i lt in omega (arith, c, r)))) in
    omega (arith, most, size)

-- and one fewer where none is empty
pub subsumed_few : (variables : ℕ) (clauses : List (List ℕ)) → NoneSubsumed variables clauses → All (λ c. c ≢ []) clauses → length clauses < 3 ^ variables
subsumed_few variables clauses thin some =
    let more : List (List ℕ) = clauses ++ [] ∷ [] in
    let n = length-append clauses ([] ∷ []) in
    let most = subsumed_most variables more (record {
      literals = All-append (λ clause. All (λ l. (2 ≤ l) × (variable_of l ≤ variables)) clause) clauses ([] ∷ []) thin.literals (λ k d lt. one (λ clause. All (λ l. (2 ≤ l) × (variable_of l ≤ variables)) clause) (λ k d lt. absurd (omega (arith, lt))) k d lt);
      no_pair = All-append HasNoPair clauses ([] ∷ []) thin.no_pair (λ k d lt. one HasNoPair (λ k d lt. absurd (omega (arith, lt))) k d lt);
      later = λ i j before lt all. elim (cases_lt j (length clauses)) [
        | inl inside ↦ thin.later i j before inside (subst (λ (c : List ℕ). All (Contains c) (get_or clauses i [])) (row_old clauses j [] inside) (subst (λ (c : List ℕ). All (Contains (get_or more j [])) c) (row_old clauses i [] (omega (arith, before, inside))) all))
        | inr last ↦
            (let at : i < length clauses = omega (arith, before, lt, n) in
            let a = subst (λ (c : List ℕ). All (Contains c) (get_or clauses i [])) (row_new clauses j [] (omega (arith, lt, n, last))) (subst (λ (c : List ℕ). All (Contains (get_or more j [])) c) (row_old clauses i [] at) all) in
            some i [] at (nothing (get_or clauses i []) a))
      ];
    }) in
    omega (arith, most, n)
  where
    one : (P : List ℕ → Type 0) → P [] → (k : ℕ) (d : List ℕ) → k < 1 → P (get_or ([] ∷ []) k d)
    one P p zero d lt = p
    one P p (suc k) d lt = absurd (omega (arith, lt))

    nothing : (c : List ℕ) → All (Contains []) c → c ≡ []
    nothing [] all = refl
    nothing (l ∷ c) all = absurd (Contains-none l (all 0 l (omega arith)))
