use Rattle.std.proofs.Common.{length, ap, ◌∙◌, arith}
use Rattle.std.proofs.lemmas.List.{length_push}
use Rattle.table_core.proofs.ExampleFacts.{length_examples, example_push}
use Rattle.table_core.proofs.example_list.Examples.push.Goals as goal

pub invariant_of-self-in-Ok : goal.invariant_of-self-in-Ok
invariant_of-self-in-Ok c =
    let seen = ap length c.self.view_is in
    let same = c.self.invariant.0 in
    let size = length_examples c.self.inside.grades c.self.inside.categories.items c.self.invariant.0 in
    let rows = ap length c.in-Ok.ensures.ok ∙ length_push c.self.inside.grades c.args.grades.now in
    let cats = ap length c.in_ok-push.ensures.items ∙ length_push c.self.inside.categories.items c.args.category in
    (omega (arith, same, rows, cats), omega (arith, seen, size, cats, c.requires.room))

pub returns-in-Ok-clause-ok : goal.returns-in-Ok-clause-ok
returns-in-Ok-clause-ok c = rw (c.in-Ok.ensures.ok, c.in_ok-push.ensures.items, ← c.self.view_is)
    (example_push c.self.inside.grades c.self.inside.categories.items c.args.grades.now c.args.category c.self.invariant.0)
