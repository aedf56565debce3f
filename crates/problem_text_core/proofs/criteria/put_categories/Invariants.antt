use Rattle.std.proofs.Common.{drop, take}
use Rattle.std.specs.Prelude.{All}
use Rattle.std.specs.Str.{IsUtf8}
use Rattle.written_core.proofs.PutLemmas.{IsPut}
use Rattle.problem_text_core.specs.Parts.{categories_text}
use Rattle.problem_text_core.proofs.criteria.put_categories.Given as goal

-- the categories before a place were appended, and their names are UTF-8
abbrev pub invariant-loop-j : goal.invariant-loop-j
invariant-loop-j l = record {
  put : IsPut l.initial.out.items l.out.items (categories_text l.problem.categories) (categories_text (drop l.j l.problem.categories));
  utf8 : All IsUtf8 (take l.j l.problem.categories);
}
