use Rattle.std.proofs.Common.{length, ap, sym, subst, ◌∙◌, arith}
use Rattle.problem_core.specs.Problem.{IsProblem}
use Rattle.draw_core.specs.DrawnProblem.{drawn_problem}
use Rattle.draw_core.specs.Words.{seeded, word}
use Rattle.encoding_rules.proofs.EachFacts.{length-listed}
use Rattle.draw_core.proofs.NameFacts.{drawn_is_problem, made_problem}
use Rattle.draw_core.proofs.problem.draw_problem.Goals as goal

pub drawn_criteria-requires-clause-words : goal.drawn_criteria-requires-clause-words
drawn_criteria-requires-clause-words c =
    omega (arith, ap length c.as_slice.ensures.value, ap length c.in_ok-words.ensures, length-listed (word (seeded c.args.seed)) c.args.criteria)

pub new-requires : goal.new-requires
new-requires c =
    let words = c.as_slice.result.now in
    subst IsProblem (sym (made_problem c.args.criteria c.args.categories words c.in_ok-scales.scales c.in_ok-names.names c.in_ok-scales.ensures c.in_ok-names.ensures))
    (drawn_is_problem c.args.criteria c.args.categories words c.requires.some_criteria c.requires.few_criteria c.requires.some_categories c.requires.few_categories)

pub returns-clause-drawn : goal.returns-clause-drawn
returns-clause-drawn c =
    let words = c.as_slice.result.now in
    c.new.ensures
    ∙ made_problem c.args.criteria c.args.categories words c.in_ok-scales.scales c.in_ok-names.names c.in_ok-scales.ensures c.in_ok-names.ensures
    ∙ ap (drawn_problem c.args.criteria c.args.categories) (c.as_slice.ensures.value ∙ c.in_ok-words.ensures)
