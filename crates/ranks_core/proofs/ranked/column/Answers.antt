use Rattle.std.proofs.Common.{◌≡◌, ◌<◌, ℕ, pos, List, [], ◌∷◌, ◌++◌, length, get_or, map, take, sym, ap, ◌∙◌, arith}
use Rattle.std.proofs.lemmas.List.{get_or_read, map_more}
use Rattle.sorting_rule.specs.Examples.{Example}
use Rattle.sorting_rule.specs.Rebuilt.{grade_on}
use Rattle.table_core.specs.Examples.{no_example}
use Rattle.ranks_core.proofs.ranked.column.Goals as goal

pub loop-row-preserved : goal.loop-row-preserved
unfolding grade_on
loop-row-preserved c =
    let i : ℕ = c.args.i in
    let xs : List Example = c.args.examples.now in
    let k : ℕ = c.loop-row.row in
    let lt : k < length xs = omega (arith, c.loop-row-test.true, c.count-row-end.ensures.count) in
    let e : Example = get_or xs k no_example in
    let inside : i < length c.grades.result.now = rw c.grades.ensures (c.requires k no_example lt) in
    let g : c.index-grades-i.result ≡ get_or e.grades i (pos 0) = get_or_read c.grades.result.now i c.index-grades-i.result inside c.index-grades-i.is (pos 0) ∙ ap (λ gs. get_or gs i (pos 0)) c.grades.ensures in
    c.in_ok-push.ensures.items ∙ ap (λ ys. ys ++ c.index-grades-i.result ∷ []) c.loop-row.invariant
    ∙ ap (λ y. map (grade_on i) (take k xs) ++ y ∷ []) g
    ∙ sym (map_more (grade_on i) xs k no_example lt)
