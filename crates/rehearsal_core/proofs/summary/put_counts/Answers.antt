use Rattle.std.proofs.Common.{ℕ, List, ◌++◌, length, codes}
use Rattle.literals_core.specs.declared.encoding.Encoding.TheVariants.{Separation}
use Rattle.literals_core.specs.Formula.{Cnf}
use Rattle.encoding_rules.specs.Encodings.{formula_of}
use Rattle.ranks_core.specs.Ranks.{task_of}
use Rattle.rehearsal_core.specs.Rehearsed.{number_line}
use Rattle.rehearsal_core.proofs.SummaryFacts.{onto_ok}
use Rattle.rehearsal_core.proofs.summary.put_counts.Goals as goal

pub returns : goal.returns
returns c =
    let formula : Cnf = formula_of Separation (task_of c.args.problem.now c.args.examples.now) in
    let criteria : List ℕ = number_line (codes "criteria ") (length c.args.problem.now.criteria) in
    let categories : List ℕ = number_line (codes "categories ") (length c.args.problem.now.categories) in
    let rows : List ℕ = number_line (codes "rows ") (length c.args.examples.now) in
    let variables : List ℕ = number_line (codes "variables ") formula.variables in
    let clauses : List ℕ = number_line (codes "clauses ") (length formula.clauses) in
    onto_ok _ c.args.out.now.items c.put_line.new.out.items c.put_line-5.new.out.items criteria (categories ++ (rows ++ (variables ++ clauses))) (rw c.criteria_count.ensures.count at c.in_ok-put_line.ensures)
    (onto_ok _ c.put_line.new.out.items c.put_line-2.new.out.items c.put_line-5.new.out.items categories (rows ++ (variables ++ clauses)) (rw c.categories_count.ensures.count at c.in_ok-put_line-2.ensures)
    (onto_ok _ c.put_line-2.new.out.items c.put_line-3.new.out.items c.put_line-5.new.out.items rows (variables ++ clauses) (rw c.count.ensures.count at c.in_ok-put_line-3.ensures)
    (onto_ok _ c.put_line-3.new.out.items c.put_line-4.new.out.items c.put_line-5.new.out.items variables clauses (rw c.requires.variables at c.in_ok-put_line-4.ensures)
    (rw c.requires.clauses at c.put_line-5.ensures))))
