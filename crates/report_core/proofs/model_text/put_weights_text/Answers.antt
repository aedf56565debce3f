use Rattle.std.proofs.Common.{ℕ, List, ◌++◌, codes, map, refl}
use Rattle.written_core.proofs.PutLemmas.{IsPut, put-none, put-more, put-cut, put-last}
use Rattle.report_core.specs.DescribedModel.{weights_text}
use Rattle.written_core.specs.Document.{flow_text}
use Rattle.model_text_core.specs.ModelText.{weight_scalar}
use Rattle.report_core.proofs.model_text.put_weights_text.Goals as goal

pub returns-in_err-put_text : goal.returns-in_err-put_text
returns-in_err-put_text c =
    let all : List ℕ = weights_text c.args.weights.now in
    let so_0 : IsPut c.args.out.now.items c.args.out.now.items all all = put-none c.args.out.now.items all in
    put-cut c.args.out.now.items c.args.out.now.items c.put_text.new.out.items all (((codes "weights ") ++ (flow_text (map weight_scalar c.args.weights.now)))) (codes "weights ") (flow_text (map weight_scalar c.args.weights.now)) c.from_residual.result c.from_residual.ensures.0 so_0 refl c.in_err-put_text.ensures

pub returns : goal.returns
returns c =
    let all : List ℕ = weights_text c.args.weights.now in
    let so_0 : IsPut c.args.out.now.items c.args.out.now.items all all = put-none c.args.out.now.items all in
    let so_1 : IsPut c.args.out.now.items c.put_text.new.out.items all (flow_text (map weight_scalar c.args.weights.now)) = put-more c.args.out.now.items c.args.out.now.items c.put_text.new.out.items all (((codes "weights ") ++ (flow_text (map weight_scalar c.args.weights.now)))) (codes "weights ") (flow_text (map weight_scalar c.args.weights.now)) so_0 refl c.in_ok-put_text.ensures in
    put-last c.args.out.now.items c.put_text.new.out.items c.put_weights.new.out.items all (flow_text (map weight_scalar c.args.weights.now)) c.put_weights.result so_1 (rw c.as_slice.ensures.items at c.put_weights.ensures)
