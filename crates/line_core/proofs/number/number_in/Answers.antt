use Rattle.std.proofs.Common.{◌≡◌, sym, ◌<◌, ◌^◌, true, rules}
use Rattle.line_core.specs.Number.{is_number}
use Rattle.line_core.proofs.NumberLemmas.{number_in-large}
use Rattle.line_core.proofs.number.number_in.Goals as goal

pub returns-in_default-3-clause-value : goal.returns-in_default-3-clause-value
returns-in_default-3-clause-value c =
    let few : c.args.most < 2 ^ 64 = c.ranges.most.fits in
    let number : is_number c.args.text.now ≡ true = search rules in
    sym (number_in-large c.args.least c.args.most c.args.text.now few number c.in_default.ensures.value.0)
