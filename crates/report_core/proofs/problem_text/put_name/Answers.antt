use Rattle.std.proofs.Common.{ℕ, List, ◌++◌, refl}
use Rattle.written_core.proofs.PutLemmas.{IsPut, put-none, put-more, put-cut, put-last}
use Rattle.written_core.specs.Parts.{comma}
use Rattle.report_core.specs.Text.{item_text}
use Rattle.yaml_tokens.specs.Written.{quoted_text}
use Rattle.report_core.proofs.problem_text.put_name.Goals as goal

pub returns-in_err-put_comma : goal.returns-in_err-put_comma
returns-in_err-put_comma c =
    let all : List ℕ = item_text c.args.place (quoted_text c.args.name.now) in
    let so_0 : IsPut c.args.out.now.items c.args.out.now.items all all = put-none c.args.out.now.items all in
    put-cut c.args.out.now.items c.args.out.now.items c.put_comma.new.out.items all (((comma c.args.place) ++ (quoted_text c.args.name.now))) (comma c.args.place) (quoted_text c.args.name.now) c.from_residual.result c.from_residual.ensures.0 so_0 refl c.in_err-put_comma.ensures

pub returns : goal.returns
returns c =
    let all : List ℕ = item_text c.args.place (quoted_text c.args.name.now) in
    let so_0 : IsPut c.args.out.now.items c.args.out.now.items all all = put-none c.args.out.now.items all in
    let so_1 : IsPut c.args.out.now.items c.put_comma.new.out.items all (quoted_text c.args.name.now) = put-more c.args.out.now.items c.args.out.now.items c.put_comma.new.out.items all (((comma c.args.place) ++ (quoted_text c.args.name.now))) (comma c.args.place) (quoted_text c.args.name.now) so_0 refl c.in_ok-put_comma.ensures in
    put-last c.args.out.now.items c.put_comma.new.out.items c.put_quoted.new.out.items all (quoted_text c.args.name.now) c.put_quoted.result so_1 c.put_quoted.ensures.text
