use Rattle.std.proofs.Common.{ℕ, List, ◌++◌, codes, refl}
use Rattle.written_core.proofs.PutLemmas.{IsPut, put-none, put-more, put-cut, put-last}
use Rattle.report_core.specs.Described.{numbers_text, type_word}
use Rattle.fixed_core.specs.Spelling.{spelling}
use Rattle.report_core.proofs.problem_text.put_numbers.Goals as goal

pub returns-in_err-put_text : goal.returns-in_err-put_text
returns-in_err-put_text c =
    let all : List ℕ = numbers_text c.args.direction.now c.args.bounds in
    let so_0 : IsPut c.args.out.now.items c.args.out.now.items all all = put-none c.args.out.now.items all in
    put-cut c.args.out.now.items c.args.out.now.items c.put_text.new.out.items all (((type_word c.args.bounds.whole) ++ ((c.args.direction.now) ++ ((spelling c.args.bounds.least) ++ ((codes " to ") ++ (spelling c.args.bounds.most)))))) (type_word c.args.bounds.whole) (((c.args.direction.now) ++ ((spelling c.args.bounds.least) ++ ((codes " to ") ++ (spelling c.args.bounds.most))))) c.from_residual.result c.from_residual.ensures.0 so_0 refl (rw c.type_word.ensures at c.in_err-put_text.ensures)

pub returns-in_err-put_text-2 : goal.returns-in_err-put_text-2
returns-in_err-put_text-2 c =
    let all : List ℕ = numbers_text c.args.direction.now c.args.bounds in
    let so_0 : IsPut c.args.out.now.items c.args.out.now.items all all = put-none c.args.out.now.items all in
    let so_1 : IsPut c.args.out.now.items c.put_text.new.out.items all (((c.args.direction.now) ++ ((spelling c.args.bounds.least) ++ ((codes " to ") ++ (spelling c.args.bounds.most))))) = put-more c.args.out.now.items c.args.out.now.items c.put_text.new.out.items all (((type_word c.args.bounds.whole) ++ ((c.args.direction.now) ++ ((spelling c.args.bounds.least) ++ ((codes " to ") ++ (spelling c.args.bounds.most)))))) (type_word c.args.bounds.whole) (((c.args.direction.now) ++ ((spelling c.args.bounds.least) ++ ((codes " to ") ++ (spelling c.args.bounds.most))))) so_0 refl (rw c.type_word.ensures at c.in_ok-put_text.ensures) in
    put-cut c.args.out.now.items c.put_text.new.out.items c.put_text-2.new.out.items all (((c.args.direction.now) ++ ((spelling c.args.bounds.least) ++ ((codes " to ") ++ (spelling c.args.bounds.most))))) (c.args.direction.now) (((spelling c.args.bounds.least) ++ ((codes " to ") ++ (spelling c.args.bounds.most)))) c.from_residual-in_err-put_text-2.result c.from_residual-in_err-put_text-2.ensures.0 so_1 refl c.in_err-put_text-2.ensures

pub returns-in_err-put_fixed : goal.returns-in_err-put_fixed
returns-in_err-put_fixed c =
    let all : List ℕ = numbers_text c.args.direction.now c.args.bounds in
    let so_0 : IsPut c.args.out.now.items c.args.out.now.items all all = put-none c.args.out.now.items all in
    let so_1 : IsPut c.args.out.now.items c.put_text.new.out.items all (((c.args.direction.now) ++ ((spelling c.args.bounds.least) ++ ((codes " to ") ++ (spelling c.args.bounds.most))))) = put-more c.args.out.now.items c.args.out.now.items c.put_text.new.out.items all (((type_word c.args.bounds.whole) ++ ((c.args.direction.now) ++ ((spelling c.args.bounds.least) ++ ((codes " to ") ++ (spelling c.args.bounds.most)))))) (type_word c.args.bounds.whole) (((c.args.direction.now) ++ ((spelling c.args.bounds.least) ++ ((codes " to ") ++ (spelling c.args.bounds.most))))) so_0 refl (rw c.type_word.ensures at c.in_ok-put_text.ensures) in
    let so_2 : IsPut c.args.out.now.items c.put_text-2.new.out.items all (((spelling c.args.bounds.least) ++ ((codes " to ") ++ (spelling c.args.bounds.most)))) = put-more c.args.out.now.items c.put_text.new.out.items c.put_text-2.new.out.items all (((c.args.direction.now) ++ ((spelling c.args.bounds.least) ++ ((codes " to ") ++ (spelling c.args.bounds.most))))) (c.args.direction.now) (((spelling c.args.bounds.least) ++ ((codes " to ") ++ (spelling c.args.bounds.most)))) so_1 refl c.in_ok-put_text-2.ensures in
    put-cut c.args.out.now.items c.put_text-2.new.out.items c.put_fixed.new.out.items all (((spelling c.args.bounds.least) ++ ((codes " to ") ++ (spelling c.args.bounds.most)))) (spelling c.args.bounds.least) (((codes " to ") ++ (spelling c.args.bounds.most))) c.from_residual-in_err-put_fixed.result c.from_residual-in_err-put_fixed.ensures.0 so_2 refl c.in_err-put_fixed.ensures.text

pub returns-in_err-put_text-3 : goal.returns-in_err-put_text-3
returns-in_err-put_text-3 c =
    let all : List ℕ = numbers_text c.args.direction.now c.args.bounds in
    let so_0 : IsPut c.args.out.now.items c.args.out.now.items all all = put-none c.args.out.now.items all in
    let so_1 : IsPut c.args.out.now.items c.put_text.new.out.items all (((c.args.direction.now) ++ ((spelling c.args.bounds.least) ++ ((codes " to ") ++ (spelling c.args.bounds.most))))) = put-more c.args.out.now.items c.args.out.now.items c.put_text.new.out.items all (((type_word c.args.bounds.whole) ++ ((c.args.direction.now) ++ ((spelling c.args.bounds.least) ++ ((codes " to ") ++ (spelling c.args.bounds.most)))))) (type_word c.args.bounds.whole) (((c.args.direction.now) ++ ((spelling c.args.bounds.least) ++ ((codes " to ") ++ (spelling c.args.bounds.most))))) so_0 refl (rw c.type_word.ensures at c.in_ok-put_text.ensures) in
    let so_2 : IsPut c.args.out.now.items c.put_text-2.new.out.items all (((spelling c.args.bounds.least) ++ ((codes " to ") ++ (spelling c.args.bounds.most)))) = put-more c.args.out.now.items c.put_text.new.out.items c.put_text-2.new.out.items all (((c.args.direction.now) ++ ((spelling c.args.bounds.least) ++ ((codes " to ") ++ (spelling c.args.bounds.most))))) (c.args.direction.now) (((spelling c.args.bounds.least) ++ ((codes " to ") ++ (spelling c.args.bounds.most)))) so_1 refl c.in_ok-put_text-2.ensures in
    let so_3 : IsPut c.args.out.now.items c.put_fixed.new.out.items all (((codes " to ") ++ (spelling c.args.bounds.most))) = put-more c.args.out.now.items c.put_text-2.new.out.items c.put_fixed.new.out.items all (((spelling c.args.bounds.least) ++ ((codes " to ") ++ (spelling c.args.bounds.most)))) (spelling c.args.bounds.least) (((codes " to ") ++ (spelling c.args.bounds.most))) so_2 refl c.in_ok-put_fixed.ensures.text in
    put-cut c.args.out.now.items c.put_fixed.new.out.items c.put_text-3.new.out.items all (((codes " to ") ++ (spelling c.args.bounds.most))) (codes " to ") (spelling c.args.bounds.most) c.from_residual-in_err-put_text-3.result c.from_residual-in_err-put_text-3.ensures.0 so_3 refl c.in_err-put_text-3.ensures

pub returns : goal.returns
returns c =
    let all : List ℕ = numbers_text c.args.direction.now c.args.bounds in
    let so_0 : IsPut c.args.out.now.items c.args.out.now.items all all = put-none c.args.out.now.items all in
    let so_1 : IsPut c.args.out.now.items c.put_text.new.out.items all (((c.args.direction.now) ++ ((spelling c.args.bounds.least) ++ ((codes " to ") ++ (spelling c.args.bounds.most))))) = put-more c.args.out.now.items c.args.out.now.items c.put_text.new.out.items all (((type_word c.args.bounds.whole) ++ ((c.args.direction.now) ++ ((spelling c.args.bounds.least) ++ ((codes " to ") ++ (spelling c.args.bounds.most)))))) (type_word c.args.bounds.whole) (((c.args.direction.now) ++ ((spelling c.args.bounds.least) ++ ((codes " to ") ++ (spelling c.args.bounds.most))))) so_0 refl (rw c.type_word.ensures at c.in_ok-put_text.ensures) in
    let so_2 : IsPut c.args.out.now.items c.put_text-2.new.out.items all (((spelling c.args.bounds.least) ++ ((codes " to ") ++ (spelling c.args.bounds.most)))) = put-more c.args.out.now.items c.put_text.new.out.items c.put_text-2.new.out.items all (((c.args.direction.now) ++ ((spelling c.args.bounds.least) ++ ((codes " to ") ++ (spelling c.args.bounds.most))))) (c.args.direction.now) (((spelling c.args.bounds.least) ++ ((codes " to ") ++ (spelling c.args.bounds.most)))) so_1 refl c.in_ok-put_text-2.ensures in
    let so_3 : IsPut c.args.out.now.items c.put_fixed.new.out.items all (((codes " to ") ++ (spelling c.args.bounds.most))) = put-more c.args.out.now.items c.put_text-2.new.out.items c.put_fixed.new.out.items all (((spelling c.args.bounds.least) ++ ((codes " to ") ++ (spelling c.args.bounds.most)))) (spelling c.args.bounds.least) (((codes " to ") ++ (spelling c.args.bounds.most))) so_2 refl c.in_ok-put_fixed.ensures.text in
    let so_4 : IsPut c.args.out.now.items c.put_text-3.new.out.items all (spelling c.args.bounds.most) = put-more c.args.out.now.items c.put_fixed.new.out.items c.put_text-3.new.out.items all (((codes " to ") ++ (spelling c.args.bounds.most))) (codes " to ") (spelling c.args.bounds.most) so_3 refl c.in_ok-put_text-3.ensures in
    put-last c.args.out.now.items c.put_text-3.new.out.items c.put_fixed-2.new.out.items all (spelling c.args.bounds.most) c.put_fixed-2.result so_4 c.put_fixed-2.ensures.text
