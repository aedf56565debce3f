use Rattle.std.proofs.Common.{List, ℕ, ◌++◌, codes, ap, sym}
use Rattle.lists_core.proofs.PutsFacts.{puts-then}
use Rattle.written_core.proofs.PutLemmas.{puts-as, first-cut}
use Rattle.problem_text_core.specs.Parts.{key_row, bounds_text}
use Rattle.problem_text_core.proofs.scale.put_numbers.Goals as goal

-- the rows of a type, of a direction, and what follows
abbrev type_row : List ℕ → List ℕ
type_row type = key_row (codes "    value_type: ") type

abbrev direction_row : List ℕ → List ℕ
direction_row direction = key_row (codes "    preference_direction: ") direction

pub returns-in_err-put_word_line-clause-text : goal.returns-in_err-put_word_line-clause-text
returns-in_err-put_word_line-clause-text c =
    let r = c.from_residual.result in
    let more = direction_row c.args.direction.now ++ bounds_text c.args.bounds in
    puts-as _ _ r _ _ (ap (λ (t : List ℕ). type_row t ++ more) (sym c.type_word.ensures))
    (first-cut _ _ (type_row c.type_word.result.now) more r c.from_residual.ensures.0 c.in_err-put_word_line.ensures)

pub returns-in_err-put_word_line-2-clause-text : goal.returns-in_err-put_word_line-2-clause-text
returns-in_err-put_word_line-2-clause-text c =
    let r = c.from_residual-in_err-put_word_line-2.result in
    let second = direction_row c.args.direction.now in
    let more = bounds_text c.args.bounds in
    puts-as _ _ r _ _ (ap (λ (t : List ℕ). type_row t ++ (second ++ more)) (sym c.type_word.ensures))
    (puts-then _ _ (type_row c.type_word.result.now) c.in_ok-put_word_line.ensures _ (second ++ more) r
    (first-cut _ _ second more r c.from_residual-in_err-put_word_line-2.ensures.0 c.in_err-put_word_line-2.ensures))

pub returns-clause-text : goal.returns-clause-text
returns-clause-text c =
    let r = c.put_bounds.result in
    let second = direction_row c.args.direction.now in
    let more = bounds_text c.args.bounds in
    puts-as _ _ r _ _ (ap (λ (t : List ℕ). type_row t ++ (second ++ more)) (sym c.type_word.ensures))
    (puts-then _ _ (type_row c.type_word.result.now) c.in_ok-put_word_line.ensures _ (second ++ more) r
    (puts-then _ _ second c.in_ok-put_word_line-2.ensures _ more r c.put_bounds.ensures.text))
