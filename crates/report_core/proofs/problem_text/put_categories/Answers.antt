use Rattle.std.proofs.Common.{◌≡◌, ◌+◌, ◌<◌, ◌≤◌, Some, length, drop, arith}
use Rattle.std.specs.Prelude.{slice_get}
use Rattle.written_core.proofs.PutLemmas.{put-none, put-more, put-cut, put-all}
use Rattle.report_core.specs.Text.{numbered}
use Rattle.report_core.proofs.TextLemmas.{numbered_next, numbered_none}
use Rattle.report_core.specs.Described.{category_line}
use Rattle.report_core.proofs.problem_text.put_categories.Goals as goal

pub loop-j-init : goal.loop-j-init
loop-j-init c = put-none _ _

pub loop-j-preserved : goal.loop-j-preserved
loop-j-preserved c =
    let items = c.args.problem.now.categories in
    let k = c.loop-j.j in
    let within : k < length items = omega (arith, c.categories_count-j-end.ensures.count, c.loop-j-test.true) in
    let is : slice_get items k ≡ Some (c.category.result.now) = c.category.ensures in
    let next = numbered_next category_line items k (c.category.result.now) within is in
    put-more c.args.out.now.items c.loop-j.out.items c.put_category.new.out.items (numbered category_line 0 items) (numbered category_line k (drop k items)) (category_line k (c.category.result.now)) (numbered category_line (k + 1) (drop (k + 1) items)) c.loop-j.invariant next c.in_ok-put_category.ensures

pub returns-in_err-put_category : goal.returns-in_err-put_category
returns-in_err-put_category c =
    let items = c.args.problem.now.categories in
    let k = c.loop-j.j in
    let within : k < length items = omega (arith, c.categories_count-j-end.ensures.count, c.loop-j-test.true) in
    let is : slice_get items k ≡ Some (c.category.result.now) = c.category.ensures in
    let next = numbered_next category_line items k (c.category.result.now) within is in
    put-cut c.args.out.now.items c.loop-j.out.items c.put_category.new.out.items (numbered category_line 0 items) (numbered category_line k (drop k items)) (category_line k (c.category.result.now)) (numbered category_line (k + 1) (drop (k + 1) items)) c.from_residual.result c.from_residual.ensures.0 c.loop-j.invariant next c.in_err-put_category.ensures

pub returns : goal.returns
returns c =
    let items = c.args.problem.now.categories in
    let k = c.loop-j.j in
    let past : length items ≤ k = omega (arith, c.categories_count-j-end.ensures.count, c.loop-j-test.false) in
    put-all c.args.out.now.items c.loop-j.out.items (numbered category_line 0 items) (numbered category_line k (drop k items)) c.loop-j.invariant (numbered_none category_line items k past)
