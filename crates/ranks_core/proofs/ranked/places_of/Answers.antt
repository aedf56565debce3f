use Rattle.std.proofs.Common.{◌≡◌, ◌<◌, ℕ, pos, List, [], ◌∷◌, ◌++◌, length, get_or, map, take, sym, ap, ◌∙◌, arith}
use Rattle.std.proofs.lemmas.List.{get_or_read, map_more}
use Rattle.sorting_rule.specs.Examples.{Example}
use Rattle.problem_core.specs.Grade.{direction_of}
use Rattle.sorting_rule.specs.Rebuilt.{grade_on}
use Rattle.encoding_rules.specs.Ranks.{place_of}
use Rattle.table_core.specs.Examples.{no_example}
use Rattle.ranks_core.proofs.ranked.places_of.Goals as goal

pub loop-row-preserved : goal.loop-row-preserved
unfolding grade_on
loop-row-preserved c =
    let d = direction_of c.args.scale.now in
    let i : ℕ = c.args.i in
    let xs : List Example = c.args.examples.now in
    let k : ℕ = c.loop-row.row in
    let lt : k < length xs = omega (arith, c.loop-row-test.true, c.count-row-end.ensures.count) in
    let e : Example = get_or xs k no_example in
    let inside : i < length c.grades.result.now = rw c.grades.ensures (c.requires.wide k no_example lt) in
    let g : c.index-grades-i.result ≡ get_or e.grades i (pos 0) = get_or_read c.grades.result.now i c.index-grades-i.result inside c.index-grades-i.is (pos 0) ∙ ap (λ gs. get_or gs i (pos 0)) c.grades.ensures in
    let p : c.place_of.result ≡ place_of d c.args.ranked.now (get_or e.grades i (pos 0)) = c.place_of.ensures.value ∙ ap (place_of d c.args.ranked.now) g in
    c.in_ok-push.ensures.items ∙ ap (λ ys. ys ++ c.place_of.result ∷ []) c.loop-row.invariant
    ∙ ap (λ y. map (λ e. place_of d c.args.ranked.now (grade_on i e)) (take k xs) ++ y ∷ []) p
    ∙ sym (map_more (λ e. place_of d c.args.ranked.now (grade_on i e)) xs k no_example lt)
