use Rattle.std.proofs.Common.{arith}
use Rattle.table_core.proofs.ExampleFacts.{length_examples}
use Rattle.table_core.proofs.example_list.Examples.count.Goals as goal

pub returns-clause-count : goal.returns-clause-count
returns-clause-count c = rw (← c.self.view_is) (let size = length_examples c.self.inside.grades c.self.inside.categories.items c.self.invariant.0 in omega (arith, c.len.ensures, size))

pub returns-clause-bound : goal.returns-clause-bound
returns-clause-bound c = rw (← c.self.view_is) (let size = length_examples c.self.inside.grades c.self.inside.categories.items c.self.invariant.0 in let small = c.self.invariant.1 in omega (arith, size, small))
