use Rattle.std.proofs.Common.{◌≡◌, ◌+◌, ◌<◌, ◌≤◌, Some, length, drop, arith}
use Rattle.std.specs.Prelude.{slice_get}
use Rattle.written_core.proofs.PutLemmas.{put-none, put-more, put-cut, put-all}
use Rattle.report_core.specs.Text.{numbered}
use Rattle.report_core.proofs.TextLemmas.{numbered_next, numbered_none}
use Rattle.report_core.specs.Described.{count_line}
use Rattle.std.proofs.Common.{get_or}
use Rattle.std.proofs.lemmas.Option.{slice_get-get_or}
use Rattle.report_core.proofs.table_text.put_category_counts.Goals as goal

pub loop-j-init : goal.loop-j-init
loop-j-init c = put-none _ _

pub loop-j-preserved : goal.loop-j-preserved
loop-j-preserved c =
    let items = c.args.counts.now in
    let k = c.loop-j.j in
    let within : k < length items = omega (arith, c.categories_count-j-end.ensures.count, c.requires, c.loop-j-test.true) in
    let is : slice_get items k ≡ Some (get_or c.args.counts.now c.loop-j.j 0) = slice_get-get_or c.args.counts.now c.loop-j.j 0 within in
    let next = numbered_next count_line items k (get_or c.args.counts.now c.loop-j.j 0) within is in
    put-more c.args.out.now.items c.loop-j.out.items c.put_count.new.out.items (numbered count_line 0 items) (numbered count_line k (drop k items)) (count_line k (get_or c.args.counts.now c.loop-j.j 0)) (numbered count_line (k + 1) (drop (k + 1) items)) c.loop-j.invariant next c.in_ok-put_count.ensures

pub returns-in_err-put_count : goal.returns-in_err-put_count
returns-in_err-put_count c =
    let items = c.args.counts.now in
    let k = c.loop-j.j in
    let within : k < length items = omega (arith, c.categories_count-j-end.ensures.count, c.requires, c.loop-j-test.true) in
    let is : slice_get items k ≡ Some (get_or c.args.counts.now c.loop-j.j 0) = slice_get-get_or c.args.counts.now c.loop-j.j 0 within in
    let next = numbered_next count_line items k (get_or c.args.counts.now c.loop-j.j 0) within is in
    put-cut c.args.out.now.items c.loop-j.out.items c.put_count.new.out.items (numbered count_line 0 items) (numbered count_line k (drop k items)) (count_line k (get_or c.args.counts.now c.loop-j.j 0)) (numbered count_line (k + 1) (drop (k + 1) items)) c.from_residual.result c.from_residual.ensures.0 c.loop-j.invariant next c.in_err-put_count.ensures

pub returns : goal.returns
returns c =
    let items = c.args.counts.now in
    let k = c.loop-j.j in
    let past : length items ≤ k = omega (arith, c.categories_count-j-end.ensures.count, c.requires, c.loop-j-test.false) in
    put-all c.args.out.now.items c.loop-j.out.items (numbered count_line 0 items) (numbered count_line k (drop k items)) c.loop-j.invariant (numbered_none count_line items k past)
