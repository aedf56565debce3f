use Rattle.std.proofs.Common.{◌<◌, ◌∙◌, length, sym, arith}
use Rattle.search_core.proofs.MarkLemmas.{read_mark}
use Rattle.search_core.proofs.MinimizeLemmas.{fits_in, marked_in}
use Rattle.search_core.proofs.analyze.Analysis.fits.Goals as goal

pub returns : goal.returns
returns c =
    let inside : c.variable-variable.result < length c.args.self.now.stamps.items = omega (arith, c.requires.inside, c.requires.size, c.variable-variable.ensures) in
    let mark = read_mark c.args.self.now.stamps.items c.variable-variable.result c.index.result.now c.args.literal c.index.ensures c.variable-variable.ensures inside ∙ c.if-index-self.false in
    fits_in c.args.trail.now c.args.left c.args.literal c.args.self.now.lower.items c.requires.out
    (λ e. c.if-place.false (c.place.ensures ∙ e ∙ sym (c.place-2.ensures ∙ c.negation.ensures)))
    (λ e. c.if-place-2.false (c.place-3.ensures ∙ e ∙ sym c.place-4.ensures))
    (λ entry. marked_in c.args.trail.now c.args.self.now.stamps.items c.args.self.now.lower.items c.args.self.now.stamp c.args.literal c.level_of.result c.variable-variable.result c.requires.marked mark entry c.level_of.ensures c.variable-variable.ensures (omega (arith, c.if-level_of-level.false, c.level.ensures.value)))
