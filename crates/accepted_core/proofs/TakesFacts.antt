-- Clauses taken one list after another.
use Rattle.std.proofs.Common.{◌≡◌, ℕ, ◌+◌, ◌*◌, ◌/◌, ◌<◌, ◌≤◌, List, [], ◌∷◌, ◌++◌, length, refl, sym, ap, ◌∙◌, subst, arith, append_assoc, add-one}
use Rattle.std.specs.List.{All}
use Rattle.std.proofs.lemmas.List.{length-append, append-nil, length_push}
use Rattle.std.proofs.lemmas.List.Elements.{All-head, All-tail}
use Rattle.literals_core.specs.Literal.{variable_of}
use Rattle.literals_core.specs.Formula.{Cnf}
use Rattle.chain_core.specs.declared.literal.TheConstants.{GREATEST_VARIABLE}
use Rattle.chain_core.specs.declared.formula.TheConstants.{MOST_CLAUSES}
use Rattle.literals_core.specs.Formula.{plus, minus}
use Rattle.encoding_rules.specs.Each.{each}
use Rattle.encoding_rules.proofs.EachFacts.{all_each, each_before, All-left, All-right}
use Rattle.accepted_core.specs.Takes.{CanTake}

-- a loop that has appended the lists before one, and can take it
pub record TakesSo (old now : Cnf) (f : ℕ → List (List ℕ)) (i : ℕ) : Type 0 where
  pub variables : now.variables ≡ old.variables
  pub clauses : now.clauses ≡ old.clauses ++ each f i

pub takes_none : (old : Cnf) (f : ℕ → List (List ℕ)) → TakesSo old old f 0
takes_none old f = record { variables = refl; clauses = sym (append-nil old.clauses) }

pub takes_more : (old now next : Cnf) (f : ℕ → List (List ℕ)) (i : ℕ) → TakesSo old now f i → next.variables ≡ now.variables → next.clauses ≡ now.clauses ++ f i → TakesSo old next f (i + 1)
takes_more old now next f i so v c = record {
  variables = v ∙ so.variables;
  clauses = c ∙ ap (λ xs. xs ++ f i) so.clauses ∙ append_assoc old.clauses (each f i) (f i) ∙ ap (λ n. old.clauses ++ each f n) (sym (add-one i));
}

pub can_take_next : (old now : Cnf) (f : ℕ → List (List ℕ)) (n i : ℕ) → CanTake old (each f n) → TakesSo old now f i → i < n → CanTake now (f i)
can_take_next old now f n i can so lt =
    let size : length now.clauses ≡ length old.clauses + length (each f i) = ap length so.clauses ∙ length-append old.clauses (each f i) in
    let before = each_before f n i lt in
    let room = can.room in
    record {
      small = subst (λ v. v ≤ GREATEST_VARIABLE) (sym so.variables) can.small;
      room = omega (arith, size, before, room);
      range = subst (λ v. All (λ clause. All (λ l. (2 ≤ l) × (variable_of l ≤ v)) clause) (f i)) (sym so.variables)
          (all_each (λ clause. All (λ l. (2 ≤ l) × (variable_of l ≤ old.variables)) clause) f n can.range i lt);
    }

-- a clause that it can take
pub record CanAdd (now : Cnf) (clause : List ℕ) : Type 0 where
  pub range : All (λ l. variable_of l ≤ now.variables) clause
  pub room : length now.clauses < MOST_CLAUSES

plus_from : (v n : ℕ) → (2 ≤ plus v) × (variable_of (plus v) ≤ n) → (1 ≤ v) × (v ≤ n)
plus_from v n (low, high) = let half : 2 * v / 2 ≡ v = omega arith in (omega (arith, low), omega (arith, half, high))

minus_from : (v n : ℕ) → (2 ≤ minus v) × (variable_of (minus v) ≤ n) → (1 ≤ v) × (v ≤ n)
minus_from v n (low, high) = let half : (2 * v + 1) / 2 ≡ v = omega arith in (omega (arith, low), omega (arith, half, high))

-- the first clause of those that it can take
pub can_add : (now : Cnf) (clause : List ℕ) (rest : List (List ℕ)) → CanTake now (clause ∷ rest) → CanAdd now clause
can_add now clause rest can =
    let room = can.room in
    record {
      range = λ k d lt. (All-head (λ clause. All (λ l. (2 ≤ l) × (variable_of l ≤ now.variables)) clause) clause rest can.range k d lt).1;
      room = omega (arith, room);
    }

-- the variables of a clause of two literals
module _ (now : Cnf) (x y : ℕ) (rest : List (List ℕ)) where
  abbrev Lit : ℕ → Type 0
  Lit l = (2 ≤ l) × (variable_of l ≤ now.variables)

  abbrev Lits : List ℕ → Type 0
  Lits clause = All Lit clause

  pub record InRange : Type 0 where
    pub first : 1 ≤ x
    pub first_small : x ≤ GREATEST_VARIABLE
    pub second : 1 ≤ y
    pub second_small : y ≤ GREATEST_VARIABLE

  ranges : (small : now.variables ≤ GREATEST_VARIABLE) → (1 ≤ x) × (x ≤ now.variables) → (1 ≤ y) × (y ≤ now.variables) → InRange
  ranges small (xl, xh) (yl, yh) = record { first = xl; first_small = omega (arith, xh, small); second = yl; second_small = omega (arith, yh, small) }

  pub minus_plus : CanTake now ((minus x ∷ plus y ∷ []) ∷ rest) → InRange
  minus_plus can =
      let clause = All-head Lits (minus x ∷ plus y ∷ []) rest can.range in
      ranges can.small (minus_from x now.variables (All-head Lit (minus x) (plus y ∷ []) clause))
      (plus_from y now.variables (All-head Lit (plus y) [] (All-tail Lit (minus x) (plus y ∷ []) clause)))

  pub minus_minus : CanTake now ((minus x ∷ minus y ∷ []) ∷ rest) → InRange
  minus_minus can =
      let clause = All-head Lits (minus x ∷ minus y ∷ []) rest can.range in
      ranges can.small (minus_from x now.variables (All-head Lit (minus x) (minus y ∷ []) clause))
      (minus_from y now.variables (All-head Lit (minus y) [] (All-tail Lit (minus x) (minus y ∷ []) clause)))

pub two_same : (P : ℕ → Type 0) (l m x y : ℕ) → l ≡ x → m ≡ y → All P (x ∷ y ∷ []) → All P (l ∷ m ∷ [])
two_same P l m x y e f h = subst (λ n. All P (n ∷ m ∷ [])) (sym e) (subst (λ n. All P (x ∷ n ∷ [])) (sym f) h)

-- after the first clause it can take the rest
pub can_take_rest : (now next : Cnf) (clause : List ℕ) (rest : List (List ℕ)) → CanTake now (clause ∷ rest) → next.variables ≡ now.variables → next.clauses ≡ now.clauses ++ clause ∷ [] → CanTake next rest
can_take_rest now next clause rest can v e =
    let room = can.room in
    let size : length next.clauses ≡ length now.clauses + 1 = ap length e ∙ length_push now.clauses clause in
    record {
      small = subst (λ n. n ≤ GREATEST_VARIABLE) (sym v) can.small;
      room = omega (arith, room, size);
      range = subst (λ n. All (λ clause. All (λ l. (2 ≤ l) × (variable_of l ≤ n)) clause) rest) (sym v)
          (All-tail (λ clause. All (λ l. (2 ≤ l) × (variable_of l ≤ now.variables)) clause) clause rest can.range);
    }

-- and after a first list the second
pub can_take_parts : (now next : Cnf) (xs ys : List (List ℕ)) → CanTake now (xs ++ ys) → (CanTake now xs) × (next.variables ≡ now.variables → next.clauses ≡ now.clauses ++ xs → CanTake next ys)
can_take_parts now next xs ys can =
    let room = can.room in
    let size = length-append xs ys in
    let P : ℕ → List ℕ → Type 0 = λ n clause. All (λ l. (2 ≤ l) × (variable_of l ≤ n)) clause in (
      record { small = can.small; room = omega (arith, room, size); range = All-left (P now.variables) xs ys can.range },
      λ v e. let more : length next.clauses ≡ length now.clauses + length xs = ap length e ∙ length-append now.clauses xs in record {
        small = subst (λ n. n ≤ GREATEST_VARIABLE) (sym v) can.small;
        room = omega (arith, room, size, more);
        range = subst (λ n. All (P n) ys) (sym v) (All-right (P now.variables) xs ys can.range);
      },
    )

pub can_take_same : (f g : Cnf) (xs : List (List ℕ)) → g.variables ≡ f.variables → g.clauses ≡ f.clauses → CanTake f xs → CanTake g xs
can_take_same f g xs v e can =
    let room = can.room in
    let size : length g.clauses ≡ length f.clauses = ap length e in
    record {
      small = subst (λ n. n ≤ GREATEST_VARIABLE) (sym v) can.small;
      room = omega (arith, room, size);
      range = subst (λ n. All (λ clause. All (λ l. (2 ≤ l) × (variable_of l ≤ n)) clause) xs) (sym v) can.range;
    }

pub cnf_is : (f : Cnf) (v : ℕ) (cs : List (List ℕ)) → f.variables ≡ v → f.clauses ≡ cs → f ≡ record { variables = v; clauses = cs }
cnf_is f v cs e h = ap (λ n. cnf n f.clauses) e ∙ ap (cnf v) h
  where
    cnf : ℕ → List (List ℕ) → Cnf
    cnf n xs = record { variables = n; clauses = xs }
