use Rattle.std.proofs.Common.{◌≡◌, ◌+◌, ◌-◌, ◌*◌, Bool, List, ap, sym, ◌∙◌, drop, arith}
use Rattle.std.proofs.lemmas.List.{at_drop_all}
use Rattle.sorting_rule.specs.Coalition.{mask_of}
use Rattle.sorting_rule.specs.Model.{accepted_flags}
use Rattle.model_core.specs.Model.{profiles_of}
use Rattle.model_core.proofs.AcceptedLemmas.{length-flags, mask_of-flags, flag_at, bit_of, bit-le, bool_byte-bit_of, mask_of-step}
use Rattle.model_core.proofs.rule.accepted_at.Goals as goal

pub loop-i-init : goal.loop-i-init
loop-i-init c =
    let flags : List Bool = accepted_flags (profiles_of c.args.problem.now.criteria c.args.model.now.profiles) c.args.place c.args.grades.now in
    let count = length-flags c.args.problem.now.criteria c.args.model.now.profiles c.args.place c.args.grades.now c.requires.belongs.criteria c.requires.grades in
    sym (at_drop_all mask_of flags c.criteria_count-i.result (omega (arith, count, c.criteria_count-i.ensures.count)))

pub overflow_mul-set : goal.overflow_mul-set
overflow_mul-set c =
    let small = mask_of-flags c.args.problem.now.criteria c.args.model.now.profiles c.args.place c.args.grades.now c.loop-i.i c.requires.belongs.criteria c.requires.grades c.criteria_count-i.ensures.facts.few_criteria in
    omega (arith, small, c.loop-i.invariant)

pub overflow_add-set : goal.overflow_add-set
overflow_add-set c =
    let small = mask_of-flags c.args.problem.now.criteria c.args.model.now.profiles c.args.place c.args.grades.now c.loop-i.i c.requires.belongs.criteria c.requires.grades c.criteria_count-i.ensures.facts.few_criteria in
    let bit : c.from.result ≡ bit_of c.accepts-accepts.result = c.from.ensures ∙ bool_byte-bit_of c.accepts-accepts.result in
    omega (arith, small, c.loop-i.invariant, bit, bit-le c.accepts-accepts.result)

pub loop-i-preserved : goal.loop-i-preserved
loop-i-preserved c =
    let criteria = c.args.problem.now.criteria in
    let rows = c.args.model.now.profiles in
    let flags : List Bool = accepted_flags (profiles_of criteria rows) c.args.place c.args.grades.now in
    let i = c.loop-i.i - 1 in
    let count = length-flags criteria rows c.args.place c.args.grades.now c.requires.belongs.criteria c.requires.grades in
    let next : i + 1 ≡ c.loop-i.i = omega arith in
    let flag = flag_at criteria rows c.args.place c.args.grades.now i c.criterion.result.now c.profile.result.now c.index-grades-i.result c.get-threshold.result.now c.criterion.ensures c.profile.ensures.profile c.requires.grades c.index-grades-i.is c.get-threshold.ensures in
    let step = mask_of-step flags i c.loop-i.set c.accepts-accepts.result (omega (arith, count, c.criteria_count-i.ensures.count)) (flag ∙ sym c.accepts-accepts.ensures) (c.loop-i.invariant ∙ ap (λ k. mask_of (drop k flags)) (sym next)) in
    let bit : c.from.result ≡ bit_of c.accepts-accepts.result = c.from.ensures ∙ bool_byte-bit_of c.accepts-accepts.result in
    ap (λ n. 2 * c.loop-i.set + n) bit ∙ step
