use Rattle.std.proofs.Common.{◌≡◌, ◌++◌, sym, ◌∙◌, false}
use Rattle.std.specs.List.{list_any}
use Rattle.table_core.specs.Written.{is_special}
use Rattle.table_core.proofs.PlainFacts.{pushed-more}
use Rattle.table_core.proofs.plain.push_plain.Goals as goal

pub loop-block-preserved : goal.loop-block-preserved
loop-block-preserved c =
    let block = c.in-Some.block.now in
    let parts = c.in-Some.ensures.cases in
    let plain : list_any is_special block ≡ false = sym c.has_special.ensures ∙ c.if-has_special.false in
    let items : c.push_eight-text.result.items ≡ c.loop-block.text.items ++ block = c.push_eight-text.ensures.items in
    pushed-more c.args.field.now c.loop-block.rest.now c.in-Some.more.now block c.args.text c.loop-block.text c.push_eight-text.result
    c.loop-block.invariant parts.0 parts.1 parts.2 plain items c.push_eight-text.ensures.len c.push_eight-text.ensures.room
