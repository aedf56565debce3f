use Rattle.std.proofs.Common.{ℕ, List, ◌++◌, decimal, refl}
use Rattle.written_core.proofs.PutLemmas.{IsPut, put-none, put-more, put-cut, put-last}
use Rattle.report_core.specs.Text.{counted}
use Rattle.report_core.proofs.text.put_counted.Goals as goal

pub returns-in_err-put_text : goal.returns-in_err-put_text
returns-in_err-put_text c =
    let all : List ℕ = counted c.args.before.now c.args.number c.args.after.now in
    let so_0 : IsPut c.args.out.now.items c.args.out.now.items all all = put-none c.args.out.now.items all in
    put-cut c.args.out.now.items c.args.out.now.items c.put_text.new.out.items all (((c.args.before.now) ++ ((decimal c.args.number) ++ (c.args.after.now)))) (c.args.before.now) (((decimal c.args.number) ++ (c.args.after.now))) c.from_residual.result c.from_residual.ensures.0 so_0 refl c.in_err-put_text.ensures

pub returns-in_err-put_number : goal.returns-in_err-put_number
returns-in_err-put_number c =
    let all : List ℕ = counted c.args.before.now c.args.number c.args.after.now in
    let so_0 : IsPut c.args.out.now.items c.args.out.now.items all all = put-none c.args.out.now.items all in
    let so_1 : IsPut c.args.out.now.items c.put_text.new.out.items all (((decimal c.args.number) ++ (c.args.after.now))) = put-more c.args.out.now.items c.args.out.now.items c.put_text.new.out.items all (((c.args.before.now) ++ ((decimal c.args.number) ++ (c.args.after.now)))) (c.args.before.now) (((decimal c.args.number) ++ (c.args.after.now))) so_0 refl c.in_ok-put_text.ensures in
    put-cut c.args.out.now.items c.put_text.new.out.items c.put_number.new.out.items all (((decimal c.args.number) ++ (c.args.after.now))) (decimal c.args.number) (c.args.after.now) c.from_residual-in_err-put_number.result c.from_residual-in_err-put_number.ensures.0 so_1 refl c.in_err-put_number.ensures

pub returns : goal.returns
returns c =
    let all : List ℕ = counted c.args.before.now c.args.number c.args.after.now in
    let so_0 : IsPut c.args.out.now.items c.args.out.now.items all all = put-none c.args.out.now.items all in
    let so_1 : IsPut c.args.out.now.items c.put_text.new.out.items all (((decimal c.args.number) ++ (c.args.after.now))) = put-more c.args.out.now.items c.args.out.now.items c.put_text.new.out.items all (((c.args.before.now) ++ ((decimal c.args.number) ++ (c.args.after.now)))) (c.args.before.now) (((decimal c.args.number) ++ (c.args.after.now))) so_0 refl c.in_ok-put_text.ensures in
    let so_2 : IsPut c.args.out.now.items c.put_number.new.out.items all (c.args.after.now) = put-more c.args.out.now.items c.put_text.new.out.items c.put_number.new.out.items all (((decimal c.args.number) ++ (c.args.after.now))) (decimal c.args.number) (c.args.after.now) so_1 refl c.in_ok-put_number.ensures in
    put-last c.args.out.now.items c.put_number.new.out.items c.put_text-2.new.out.items all (c.args.after.now) c.put_text-2.result so_2 c.put_text-2.ensures
