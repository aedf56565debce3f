use Rattle.std.proofs.Common.{ℕ, List, ◌++◌, refl}
use Rattle.written_core.proofs.PutLemmas.{IsPut, put-none, put-more, put-cut, put-last}
use Rattle.written_core.specs.Parts.{comma}
use Rattle.report_core.specs.Text.{item_text}
use Rattle.report_core.specs.DescribedModel.{places_text}
use Rattle.report_core.proofs.model_text.put_root.Goals as goal

pub returns-in_err-put_comma : goal.returns-in_err-put_comma
returns-in_err-put_comma c =
    let all : List ℕ = item_text c.args.place (places_text c.args.criteria c.args.root) in
    let so_0 : IsPut c.args.out.now.items c.args.out.now.items all all = put-none c.args.out.now.items all in
    put-cut c.args.out.now.items c.args.out.now.items c.put_comma.new.out.items all (((comma c.args.place) ++ (places_text c.args.criteria c.args.root))) (comma c.args.place) (places_text c.args.criteria c.args.root) c.from_residual.result c.from_residual.ensures.0 so_0 refl c.in_err-put_comma.ensures

pub returns : goal.returns
returns c =
    let all : List ℕ = item_text c.args.place (places_text c.args.criteria c.args.root) in
    let so_0 : IsPut c.args.out.now.items c.args.out.now.items all all = put-none c.args.out.now.items all in
    let so_1 : IsPut c.args.out.now.items c.put_comma.new.out.items all (places_text c.args.criteria c.args.root) = put-more c.args.out.now.items c.args.out.now.items c.put_comma.new.out.items all (((comma c.args.place) ++ (places_text c.args.criteria c.args.root))) (comma c.args.place) (places_text c.args.criteria c.args.root) so_0 refl c.in_ok-put_comma.ensures in
    put-last c.args.out.now.items c.put_comma.new.out.items c.put_places.new.out.items all (places_text c.args.criteria c.args.root) c.put_places.result so_1 c.put_places.ensures
