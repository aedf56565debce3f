use Rattle.std.proofs.Common.{◌≡◌, ◌+◌, ◌-◌, ◌<◌, ◌≤◌, Some, length, drop, ap, ◌∙◌, arith}
use Rattle.std.specs.Prelude.{slice_get}
use Rattle.written_core.proofs.PutLemmas.{put-none, put-more, put-cut, put-all}
use Rattle.report_core.specs.Text.{numbered}
use Rattle.report_core.proofs.TextLemmas.{numbered_next, numbered_none}
use Rattle.report_core.specs.DescribedModel.{boundary_line_at}
use Rattle.report_core.proofs.model_text.put_boundaries.Goals as goal

pub loop-place-init : goal.loop-place-init
loop-place-init c = put-none _ _

pub loop-place-preserved : goal.loop-place-preserved
loop-place-preserved c =
    let items = c.args.model.now.coalitions in
    let k = c.loop-place.place in
    let within : k < length items = omega (arith, c.categories_count-boundaries.ensures.count, c.requires.boundaries, c.loop-place-test.true) in
    let is : slice_get items k ≡ Some (c.coalitions.result.now) = (let same : c.loop-place.place ≡ c.loop-place.place + 1 - 1 = omega arith in ap (slice_get c.args.model.now.coalitions) same ∙ c.coalitions.ensures) in
    let next = numbered_next (boundary_line_at (length c.args.problem.now.criteria)) items k (c.coalitions.result.now) within is in
    put-more c.args.out.now.items c.loop-place.out.items c.put_boundary.new.out.items (numbered (boundary_line_at (length c.args.problem.now.criteria)) 0 items) (numbered (boundary_line_at (length c.args.problem.now.criteria)) k (drop k items)) ((boundary_line_at (length c.args.problem.now.criteria)) k (c.coalitions.result.now)) (numbered (boundary_line_at (length c.args.problem.now.criteria)) (k + 1) (drop (k + 1) items)) c.loop-place.invariant next (rw c.criteria_count-criteria.ensures.count at c.in_ok-put_boundary.ensures)

pub returns-in_err-put_boundary : goal.returns-in_err-put_boundary
returns-in_err-put_boundary c =
    let items = c.args.model.now.coalitions in
    let k = c.loop-place.place in
    let within : k < length items = omega (arith, c.categories_count-boundaries.ensures.count, c.requires.boundaries, c.loop-place-test.true) in
    let is : slice_get items k ≡ Some (c.coalitions.result.now) = (let same : c.loop-place.place ≡ c.loop-place.place + 1 - 1 = omega arith in ap (slice_get c.args.model.now.coalitions) same ∙ c.coalitions.ensures) in
    let next = numbered_next (boundary_line_at (length c.args.problem.now.criteria)) items k (c.coalitions.result.now) within is in
    put-cut c.args.out.now.items c.loop-place.out.items c.put_boundary.new.out.items (numbered (boundary_line_at (length c.args.problem.now.criteria)) 0 items) (numbered (boundary_line_at (length c.args.problem.now.criteria)) k (drop k items)) ((boundary_line_at (length c.args.problem.now.criteria)) k (c.coalitions.result.now)) (numbered (boundary_line_at (length c.args.problem.now.criteria)) (k + 1) (drop (k + 1) items)) c.from_residual.result c.from_residual.ensures.0 c.loop-place.invariant next (rw c.criteria_count-criteria.ensures.count at c.in_err-put_boundary.ensures)

pub returns : goal.returns
returns c =
    let items = c.args.model.now.coalitions in
    let k = c.loop-place.place in
    let past : length items ≤ k = omega (arith, c.categories_count-boundaries.ensures.count, c.requires.boundaries, c.loop-place-test.false) in
    put-all c.args.out.now.items c.loop-place.out.items (numbered (boundary_line_at (length c.args.problem.now.criteria)) 0 items) (numbered (boundary_line_at (length c.args.problem.now.criteria)) k (drop k items)) c.loop-place.invariant (numbered_none (boundary_line_at (length c.args.problem.now.criteria)) items k past)
