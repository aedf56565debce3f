use Rattle.std.proofs.Common.{◌<◌, length, get_or, ap, sym, ◌∙◌, arith}
use Rattle.sorting_rule.specs.Examples.{Example}
use Rattle.table_core.specs.Examples.{no_example}
use Rattle.table_core.proofs.ExampleFacts.{length_examples, example_is}
use Rattle.table_core.proofs.example_list.Examples.grades.Goals as goal

pub row-requires : goal.row-requires
row-requires c =
    let seen = ap length c.self.view_is in
    let size = length_examples c.self.inside.grades c.self.inside.categories.items c.self.invariant.0 in
    let same = c.self.invariant.0 in
    omega (arith, seen, size, same, c.requires)

pub returns : goal.returns
returns c =
    let seen = ap length c.self.view_is in
    let size = length_examples c.self.inside.grades c.self.inside.categories.items c.self.invariant.0 in
    let lt : c.args.row < length c.self.inside.categories.items = omega (arith, seen, size, c.requires) in
    c.row.ensures
    ∙ sym (ap (λ (e : Example). e.grades) (example_is c.self.inside.grades c.self.inside.categories.items c.args.row c.self.invariant.0 lt))
    ∙ ap (λ es. (get_or es c.args.row no_example).grades) c.self.view_is
