use Rattle.std.proofs.Common.{ℕ, List, ◌++◌, codes, map, refl}
use Rattle.written_core.proofs.PutLemmas.{IsPut, put-none, put-more, put-cut, put-last}
use Rattle.report_core.specs.Text.{item_text, numbered}
use Rattle.report_core.specs.DescribedModel.{places_text, roots_text}
use Rattle.report_core.proofs.model_text.put_roots_text.Goals as goal

pub returns-in_err-put_text : goal.returns-in_err-put_text
returns-in_err-put_text c =
    let all : List ℕ = roots_text c.args.criteria c.args.roots.now in
    let so_0 : IsPut c.args.out.now.items c.args.out.now.items all all = put-none c.args.out.now.items all in
    put-cut c.args.out.now.items c.args.out.now.items c.put_text.new.out.items all (((codes "roots [") ++ ((numbered item_text 0 (map (places_text c.args.criteria) c.args.roots.now)) ++ (codes "]")))) (codes "roots [") (((numbered item_text 0 (map (places_text c.args.criteria) c.args.roots.now)) ++ (codes "]"))) c.from_residual.result c.from_residual.ensures.0 so_0 refl c.in_err-put_text.ensures

pub returns-in_err-put_roots : goal.returns-in_err-put_roots
returns-in_err-put_roots c =
    let all : List ℕ = roots_text c.args.criteria c.args.roots.now in
    let so_0 : IsPut c.args.out.now.items c.args.out.now.items all all = put-none c.args.out.now.items all in
    let so_1 : IsPut c.args.out.now.items c.put_text.new.out.items all (((numbered item_text 0 (map (places_text c.args.criteria) c.args.roots.now)) ++ (codes "]"))) = put-more c.args.out.now.items c.args.out.now.items c.put_text.new.out.items all (((codes "roots [") ++ ((numbered item_text 0 (map (places_text c.args.criteria) c.args.roots.now)) ++ (codes "]")))) (codes "roots [") (((numbered item_text 0 (map (places_text c.args.criteria) c.args.roots.now)) ++ (codes "]"))) so_0 refl c.in_ok-put_text.ensures in
    put-cut c.args.out.now.items c.put_text.new.out.items c.put_roots.new.out.items all (((numbered item_text 0 (map (places_text c.args.criteria) c.args.roots.now)) ++ (codes "]"))) (numbered item_text 0 (map (places_text c.args.criteria) c.args.roots.now)) (codes "]") c.from_residual-in_err-put_roots.result c.from_residual-in_err-put_roots.ensures.0 so_1 refl c.in_err-put_roots.ensures

pub returns : goal.returns
returns c =
    let all : List ℕ = roots_text c.args.criteria c.args.roots.now in
    let so_0 : IsPut c.args.out.now.items c.args.out.now.items all all = put-none c.args.out.now.items all in
    let so_1 : IsPut c.args.out.now.items c.put_text.new.out.items all (((numbered item_text 0 (map (places_text c.args.criteria) c.args.roots.now)) ++ (codes "]"))) = put-more c.args.out.now.items c.args.out.now.items c.put_text.new.out.items all (((codes "roots [") ++ ((numbered item_text 0 (map (places_text c.args.criteria) c.args.roots.now)) ++ (codes "]")))) (codes "roots [") (((numbered item_text 0 (map (places_text c.args.criteria) c.args.roots.now)) ++ (codes "]"))) so_0 refl c.in_ok-put_text.ensures in
    let so_2 : IsPut c.args.out.now.items c.put_roots.new.out.items all (codes "]") = put-more c.args.out.now.items c.put_text.new.out.items c.put_roots.new.out.items all (((numbered item_text 0 (map (places_text c.args.criteria) c.args.roots.now)) ++ (codes "]"))) (numbered item_text 0 (map (places_text c.args.criteria) c.args.roots.now)) (codes "]") so_1 refl c.in_ok-put_roots.ensures in
    put-last c.args.out.now.items c.put_roots.new.out.items c.put_text-2.new.out.items all (codes "]") c.put_text-2.result so_2 c.put_text-2.ensures
