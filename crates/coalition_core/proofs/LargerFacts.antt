-- The clause of a set and a criterion that it doesn't have.
use Rattle.std.proofs.Common.{◌≡◌, ℕ, ◌+◌, ◌^◌, ◌<◌, Bool, true, false, cond, List, [], ◌∷◌, ◌++◌, sym, ap, ◌∙◌, subst}
use Rattle.std.proofs.lemmas.List.{append-nil}
use Rattle.literals_core.specs.Formula.{Cnf}
use Rattle.literals_core.specs.Formula.{plus, minus}
use Rattle.encoding_rules.specs.Each.{listed}
use Rattle.encoding_rules.specs.Coalitions.{has}
use Rattle.accepted_core.specs.Takes.{CanTake}
use Rattle.accepted_core.proofs.TakesFacts.{TakesSo, can_take_next, can_add, CanAdd, InRange, minus_plus}
use Rattle.coalition_core.specs.Plain.{larger_at}

module _ (formula : Cnf) (first set i : ℕ) (can : CanTake formula (larger_at first set i)) (off : has set i ≡ false) where
  abbrev clause : List ℕ
  clause = minus (first + set) ∷ plus (first + (set + 2 ^ i)) ∷ []

  can_one : CanTake formula (clause ∷ [])
  can_one = let P : Bool → Type 0 = λ b. CanTake formula (cond b [] (clause ∷ [])) in subst P off can

  pub larger_ranges : InRange formula (first + set) (first + (set + 2 ^ i)) []
  larger_ranges = minus_plus formula (first + set) (first + (set + 2 ^ i)) [] can_one

  pub larger_adds : CanAdd formula clause
  larger_adds = can_add formula clause [] can_one

pub larger_none : (first set i : ℕ) (clauses : List (List ℕ)) → has set i ≡ true → clauses ≡ clauses ++ larger_at first set i
larger_none first set i clauses on = sym (append-nil clauses) ∙ sym (ap (λ b. clauses ++ cond b [] ((minus (first + set) ∷ plus (first + (set + 2 ^ i)) ∷ []) ∷ [])) on)

pub larger_one : (first set i : ℕ) (old new : List (List ℕ)) (l m : ℕ) → has set i ≡ false → new ≡ old ++ (l ∷ m ∷ []) ∷ [] → l ≡ minus (first + set) → m ≡ plus (first + (set + 2 ^ i)) → new ≡ old ++ larger_at first set i
larger_one first set i old new l m off e f g =
    e ∙ ap (λ n. old ++ (n ∷ m ∷ []) ∷ []) f ∙ ap (λ n. old ++ (minus (first + set) ∷ n ∷ []) ∷ []) g
    ∙ sym (ap (λ b. old ++ cond b [] ((minus (first + set) ∷ plus (first + (set + 2 ^ i)) ∷ []) ∷ [])) off)

-- a clause of a list of them
pub adds_listed : (old now : Cnf) (f : ℕ → List ℕ) (n k : ℕ) (clause : List ℕ) → CanTake old (listed f n) → TakesSo old now (λ k. f k ∷ []) k → k < n → clause ≡ f k → CanAdd now clause
adds_listed old now f n k clause can so lt e = subst (CanAdd now) (sym e) (can_add now (f k) [] (can_take_next old now (λ k. f k ∷ []) n k can so lt))
