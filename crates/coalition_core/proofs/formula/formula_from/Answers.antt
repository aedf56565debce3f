use Rattle.std.proofs.Common.{◌≡◌, ℕ, ◌+◌, List, [], ◌++◌, arith, ap, ◌∙◌, append_assoc}
use Rattle.literals_core.specs.Formula.{Cnf}
use Rattle.accepted_core.specs.Takes.{CanTake}
use Rattle.accepted_core.specs.Numbers.{Numbers, numbers}
use Rattle.coalition_core.specs.Formula.{HasTask, sets_of, plain_variables}
use Rattle.accepted_core.specs.Plain.{better_of, lower_of}
use Rattle.accepted_core.proofs.TakesFacts.{can_take_parts, can_take_same, cnf_is}
use Rattle.coalition_core.proofs.SmallFacts.{Needs, needs}
use Rattle.coalition_core.proofs.formula.formula_from.Goals as goal

abbrev NeedsOf : (u : Numbers) → HasTask u → Type 0
NeedsOf u has = Needs has.0 u has.2

needed : (u : Numbers) (has : HasTask u) → NeedsOf u has
needed u has = needs has.0 u has.2 has.1

pub add_better-requires-clause-same : goal.add_better-requires-clause-same
add_better-requires-clause-same c = let n = needed (numbers c.args.boundaries c.args.accepted c.args.counts.now c.args.firsts.now c.args.goods.now c.args.bads.now) c.requires in n.same

pub add_better-requires-clause-small : goal.add_better-requires-clause-small
add_better-requires-clause-small c = let n = needed (numbers c.args.boundaries c.args.accepted c.args.counts.now c.args.firsts.now c.args.goods.now c.args.bads.now) c.requires in n.small

pub add_lower-requires-clause-same : goal.add_lower-requires-clause-same
add_lower-requires-clause-same c = let n = needed (numbers c.args.boundaries c.args.accepted c.args.counts.now c.args.firsts.now c.args.goods.now c.args.bads.now) c.requires in n.same

pub add_lower-requires-clause-small : goal.add_lower-requires-clause-small
add_lower-requires-clause-small c = let n = needed (numbers c.args.boundaries c.args.accepted c.args.counts.now c.args.firsts.now c.args.goods.now c.args.bads.now) c.requires in n.small

-- what the empty formula can take, in three parts
module _ (u : Numbers) (has : HasTask u) (f : Cnf) (v : f.variables ≡ plain_variables u) (e : f.clauses ≡ []) where
  abbrev A : List (List ℕ)
  A = better_of u.boundaries u.counts u.firsts

  abbrev B : List (List ℕ)
  B = lower_of u.boundaries u.counts u.firsts

  abbrev C : List (List ℕ)
  C = sets_of u

  whole : CanTake f (A ++ (B ++ C))
  whole = can_take_same (record { variables = plain_variables u; clauses = [] }) f (A ++ (B ++ C)) v e (needed u has).all

  first : CanTake f A
  first = (can_take_parts f f A (B ++ C) whole).0

  module _ (g : Cnf) (gv : g.variables ≡ f.variables) (ge : g.clauses ≡ f.clauses ++ A) where
    rest : CanTake g (B ++ C)
    rest = (can_take_parts f g A (B ++ C) whole).1 gv ge

    second : CanTake g B
    second = (can_take_parts g g B C rest).0

    module _ (h : Cnf) (hv : h.variables ≡ g.variables) (he : h.clauses ≡ g.clauses ++ B) where
      third : CanTake h C
      third = (can_take_parts g h B C rest).1 hv he

      last : (k : Cnf) → k.variables ≡ h.variables → k.clauses ≡ h.clauses ++ C → k ≡ record { variables = plain_variables u; clauses = A ++ (B ++ C) }
      last k kv ke = cnf_is k (plain_variables u) (A ++ (B ++ C)) (kv ∙ hv ∙ gv ∙ v)
          (ke ∙ ap (λ xs. xs ++ C) (he ∙ ap (λ xs. xs ++ B) (ge ∙ ap (λ xs. xs ++ A) e)) ∙ append_assoc A B C)

pub add_better-requires-clause-fits : goal.add_better-requires-clause-fits
add_better-requires-clause-fits c = first (numbers c.args.boundaries c.args.accepted c.args.counts.now c.args.firsts.now c.args.goods.now c.args.bads.now) c.requires c.new-formula.result (c.new-formula.ensures.variables ∙ ap (λ p. c.args.accepted + p) c.power.ensures.value) c.new-formula.ensures.clauses

pub add_lower-requires-clause-fits : goal.add_lower-requires-clause-fits
add_lower-requires-clause-fits c = second (numbers c.args.boundaries c.args.accepted c.args.counts.now c.args.firsts.now c.args.goods.now c.args.bads.now) c.requires c.new-formula.result (c.new-formula.ensures.variables ∙ ap (λ p. c.args.accepted + p) c.power.ensures.value) c.new-formula.ensures.clauses c.add_better.new.formula c.add_better.ensures.variables c.in_ok-add_better.ensures.taken

pub add_sets-requires-clause-fits : goal.add_sets-requires-clause-fits
add_sets-requires-clause-fits c = third (numbers c.args.boundaries c.args.accepted c.args.counts.now c.args.firsts.now c.args.goods.now c.args.bads.now) c.requires c.new-formula.result (c.new-formula.ensures.variables ∙ ap (λ p. c.args.accepted + p) c.power.ensures.value) c.new-formula.ensures.clauses c.add_better.new.formula c.add_better.ensures.variables c.in_ok-add_better.ensures.taken c.add_lower.new.formula c.add_lower.ensures.variables c.in_ok-add_lower.ensures.taken

pub overflow_cast-n : goal.overflow_cast-n
overflow_cast-n c = let n = needed (numbers c.args.boundaries c.args.accepted c.args.counts.now c.args.firsts.now c.args.goods.now c.args.bads.now) c.requires in let x = n.counts_small in omega (arith, x)

pub power-requires : goal.power-requires
power-requires c = let n = needed (numbers c.args.boundaries c.args.accepted c.args.counts.now c.args.firsts.now c.args.goods.now c.args.bads.now) c.requires in let x = n.counts_small in omega (arith, x)

pub new-formula-requires : goal.new-formula-requires
new-formula-requires c = let n = needed (numbers c.args.boundaries c.args.accepted c.args.counts.now c.args.firsts.now c.args.goods.now c.args.bads.now) c.requires in let x = n.accepted_small in let y = n.power_small in let e = c.power.ensures.value in omega (arith, x, y, e)

pub overflow_add-accepted : goal.overflow_add-accepted
overflow_add-accepted c = let n = needed (numbers c.args.boundaries c.args.accepted c.args.counts.now c.args.firsts.now c.args.goods.now c.args.bads.now) c.requires in let x = n.accepted_small in let y = n.power_small in let e = c.power.ensures.value in omega (arith, x, y, e)

pub add_sets-requires-clause-few : goal.add_sets-requires-clause-few
add_sets-requires-clause-few c = let n = needed (numbers c.args.boundaries c.args.accepted c.args.counts.now c.args.firsts.now c.args.goods.now c.args.bads.now) c.requires in let x = n.counts_small in omega (arith, x)

pub add_sets-requires-clause-goods : goal.add_sets-requires-clause-goods
add_sets-requires-clause-goods c = let n = needed (numbers c.args.boundaries c.args.accepted c.args.counts.now c.args.firsts.now c.args.goods.now c.args.bads.now) c.requires in n.goods

pub add_sets-requires-clause-good_unknowns : goal.add_sets-requires-clause-good_unknowns
add_sets-requires-clause-good_unknowns c = let n = needed (numbers c.args.boundaries c.args.accepted c.args.counts.now c.args.firsts.now c.args.goods.now c.args.bads.now) c.requires in n.good_unknowns

pub add_sets-requires-clause-bads : goal.add_sets-requires-clause-bads
add_sets-requires-clause-bads c = let n = needed (numbers c.args.boundaries c.args.accepted c.args.counts.now c.args.firsts.now c.args.goods.now c.args.bads.now) c.requires in n.bads

pub add_sets-requires-clause-bad_unknowns : goal.add_sets-requires-clause-bad_unknowns
add_sets-requires-clause-bad_unknowns c = let n = needed (numbers c.args.boundaries c.args.accepted c.args.counts.now c.args.firsts.now c.args.goods.now c.args.bads.now) c.requires in n.bad_unknowns

pub add_sets-requires-clause-to : goal.add_sets-requires-clause-to
add_sets-requires-clause-to c = let n = needed (numbers c.args.boundaries c.args.accepted c.args.counts.now c.args.firsts.now c.args.goods.now c.args.bads.now) c.requires in let x = n.accepted_small in let y = n.power_small in omega (arith, x, y)
