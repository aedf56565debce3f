-- Lists of clauses that are taken one after the other.
use Rattle.std.proofs.Common.{◌≡◌, ℕ, List, ◌++◌, Result, Ok, Err, ap, ◌∙◌, append_assoc}
use Rattle.literals_core.specs.Formula.{Cnf}
use Rattle.accepted_core.specs.Takes.{CanTake, Takes}
use Rattle.accepted_core.proofs.TakesFacts.{can_take_parts}

pub takes_after : {E : Type 0} (old mid new : Cnf) (result : Result (Unit {0}) E) (xs ys : List (List ℕ)) → mid.variables ≡ old.variables → mid.clauses ≡ old.clauses ++ xs → Takes mid new result ys → Takes old new result (xs ++ ys)
takes_after old mid new (Ok u) xs ys v e t = record { variables = t.variables ∙ v; taken = t.taken ∙ ap (λ cs. cs ++ ys) e ∙ append_assoc old.clauses xs ys }
takes_after old mid new (Err x) xs ys v e t = record { variables = t.variables ∙ v; taken = tt }

module _ (old : Cnf) (xs ys zs : List (List ℕ)) (can : CanTake old (xs ++ (ys ++ zs))) where
  pub can_first : CanTake old xs
  can_first = (can_take_parts old old xs (ys ++ zs) can).0

  module _ (mid : Cnf) (v : mid.variables ≡ old.variables) (e : mid.clauses ≡ old.clauses ++ xs) where
    can_rest : CanTake mid (ys ++ zs)
    can_rest = (can_take_parts old mid xs (ys ++ zs) can).1 v e

    pub can_second : CanTake mid ys
    can_second = (can_take_parts mid mid ys zs can_rest).0

    pub can_third : (next : Cnf) → next.variables ≡ mid.variables → next.clauses ≡ mid.clauses ++ ys → CanTake next zs
    can_third next w f = (can_take_parts mid next ys zs can_rest).1 w f
