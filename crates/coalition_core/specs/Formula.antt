-- The formula over given numbers, and tasks whose formula is small.
use Rattle.std.specs.Prelude.{◌≤◌, ◌+◌, ◌^◌, ◌++◌, ℕ, List, length}
use Rattle.literals_core.specs.Formula.{Cnf}
use Rattle.encoding_rules.specs.Task.{Task, IsTask, criteria, boundaries}
use Rattle.encoding_rules.specs.Coalitions.{coalition_literal_count}
use Rattle.accepted_core.specs.Numbers.{Numbers, AreNumbers}
use Rattle.accepted_core.specs.Plain.{better_of, lower_of}
use Rattle.coalition_core.specs.Plain.{larger_of_sets, bads_clauses, goods_clauses}

abbrev pub sets_of : Numbers → List (List ℕ)
sets_of u =
    larger_of_sets (u.accepted + 1) (length u.counts)
    ++ (bads_clauses (u.accepted + 1) u.bads ++ goods_clauses (u.accepted + 1) u.goods)

abbrev pub plain_clauses : Numbers → List (List ℕ)
plain_clauses u = better_of u.boundaries u.counts u.firsts ++ (lower_of u.boundaries u.counts u.firsts ++ sets_of u)

abbrev pub plain_variables : Numbers → ℕ
plain_variables u = u.accepted + 2 ^ length u.counts

-- a task of which each count fits 32 bits
pub record IsSmall (task : Task) : Type 0 where
  pub fits : IsTask task
  pub some_criteria : 1 ≤ criteria task
  pub few_criteria : criteria task ≤ 12
  pub few_boundaries : boundaries task ≤ 9
  pub few_examples : length task.examples ≤ 4000000000
  pub few_literals : coalition_literal_count task ≤ 33554432

abbrev pub plain_formula : Numbers → Cnf
plain_formula u = record { variables = plain_variables u; clauses = plain_clauses u }

-- these are the numbers of some small task
abbrev pub HasTask : Numbers → Type 0
HasTask u = (task : Task) × IsSmall task × AreNumbers task u
