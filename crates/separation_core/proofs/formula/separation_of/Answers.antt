use Rattle.std.proofs.Common.{◌≡◌, Result, Ok, Err, ap, ◌∙◌}
use Rattle.std.specs.Result.{IfOk}
use Rattle.literals_core.specs.Formula.{Cnf}
use Rattle.encoding_rules.specs.Task.{Task}
use Rattle.encoding_rules.specs.Separation.{separation_variables, separation_clauses}
use Rattle.accepted_core.specs.Numbers.{Numbers, numbers, AreNumbers}
use Rattle.separation_core.specs.Formula.{plain_formula}
use Rattle.literals_core.specs.declared.encoding.Encoding.TheVariants.{Separation}
use Rattle.encoding_rules.specs.Encodings.{formula_of}
use Rattle.accepted_core.proofs.TakesFacts.{cnf_is}
use Rattle.separation_core.proofs.SmallFacts.{variables_are, clauses_are}
use Rattle.separation_core.proofs.formula.separation_of.Goals as goal

weaker : {T E : Type 0} (r : Result T E) (P Q : T → Type 0) → ((x : T) → P x → Q x) → IfOk r P → IfOk r Q
weaker (Ok x) P Q h p = h x p
weaker (Err e) P Q h p = p

plain_is : (task : Task) (u : Numbers) → AreNumbers task u → plain_formula u ≡ formula_of Separation task
plain_is task u are = cnf_is (plain_formula u) (separation_variables task) (separation_clauses task) (variables_are task u are) (clauses_are task u are)

pub returns : goal.returns
returns c =
    let i = c.unknowns.inside in
    let same : numbers i.boundaries i.accepted c.deref.result.now c.deref-2.result.now i.goods i.bads ≡ c.args.unknowns.now =
    ap (λ xs. numbers i.boundaries i.accepted xs c.deref-2.result.now i.goods i.bads) c.deref.ensures.value
    ∙ ap (λ xs. numbers i.boundaries i.accepted i.counts.items xs i.goods i.bads) c.deref-2.ensures.value
    ∙ c.unknowns.view_is in
    weaker c.formula_from.result (λ (f : Cnf). f ≡ plain_formula (numbers i.boundaries i.accepted c.deref.result.now c.deref-2.result.now i.goods i.bads)) (λ (f : Cnf). (task : Task) → AreNumbers task c.args.unknowns.now → f ≡ formula_of Separation task)
    (λ f e task are. e ∙ ap plain_formula same ∙ plain_is task c.args.unknowns.now are) c.formula_from.ensures
