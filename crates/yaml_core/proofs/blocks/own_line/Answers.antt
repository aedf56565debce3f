use Rattle.std.proofs.Common.{◌≡◌, ap, sym, ◌∙◌, arith, ◌∷◌, ◌++◌, ◌<◌, ◌≤◌, refl}
use Rattle.std.proofs.lemmas.Bool.{lt-leb}
use Rattle.yaml_core.specs.Measured.{Measured}
use Rattle.yaml_core.specs.Reading.{Reading, named_as}
use Rattle.yaml_core.specs.Tree.{indentation}
use Rattle.yaml_core.specs.Stack.{levels_left, child_lines, lines_of_part, around}
use Rattle.yaml_core.specs.declared.stack.Child.TheVariants.{Open, Part, Done}
use Rattle.yaml_core.proofs.ContextLemmas.{named-nothing}
use Rattle.yaml_core.proofs.StackLemmas.{around-nothing, own-child, opened_lines, keeps-alike, part-more, part-less}
use Rattle.yaml_core.proofs.blocks.own_line.Goals as goal

pub returns-then-column_of-least : goal.returns-then-column_of-least
returns-then-column_of-least c =
    let fs = c.args.frames.items in
    let line = c.args.line in
    let d = levels_left fs in
    let tokens = c.in-Part.tokens in
    let least = c.in-Part.least in
    let anchor = c.in-Part.anchor in
    let column : c.column_of.result ≡ indentation line = c.column_of.ensures in
    let less : indentation line < least = omega arith in
    λ ls names. own-child fs c.args.at_key c.args.child (Part tokens least anchor) line c.in-Part.is c.requires.room c.requires.opens c.requires.dash ls names
    ∙ around-nothing fs (λ own. named_as anchor (lines_of_part d tokens least (line ∷ own))) c.requires.room
    (λ own ns. named-nothing anchor (lines_of_part d tokens least (line ∷ own)) ns (ap (λ (r : Reading Measured). r ns) (part-less d tokens least line own (lt-leb least (indentation line) less)))) ls names

pub returns-in-Open : goal.returns-in-Open
returns-in-Open c =
    let fs = c.args.frames.items in
    let anchor = c.in-Open.anchor in
    keeps-alike c.open.result (around fs (opened_lines fs anchor c.args.line)) (λ ls. around fs (child_lines (levels_left fs) c.args.child) (c.args.line ∷ ls))
    (λ ls names. sym (own-child fs c.args.at_key c.args.child (Open anchor) c.args.line c.in-Open.is c.requires.room c.requires.opens c.requires.dash ls names)) c.open.ensures

pub returns-in_ok-tokens-in-Part : goal.returns-in_ok-tokens-in-Part
returns-in_ok-tokens-in-Part c =
    let fs = c.args.frames.items in
    let line = c.args.line in
    let d = levels_left fs in
    let tokens = c.in-Part.tokens in
    let least = c.in-Part.least in
    let anchor = c.in-Part.anchor in
    let column : c.column_of.result ≡ indentation line = c.column_of.ensures in
    let enough : least ≤ indentation line = omega arith in
    let joined : c.in_ok-tokens-in-Part.tokens ≡ tokens ++ line = c.in_ok-tokens-in-Part.ensures in (
      c.requires.room,
      λ ls names. (λ i. around fs (λ own. named_as anchor (lines_of_part d (joined i) least own)) ls names)
          ∙ sym (λ i. around fs (λ own. named_as anchor (part-more d tokens least line own enough i)) ls names)
          ∙ sym (own-child fs c.args.at_key c.args.child (Part tokens least anchor) line c.in-Part.is c.requires.room c.requires.opens c.requires.dash ls names),
    )

pub returns-in-Done : goal.returns-in-Done
returns-in-Done c =
    let fs = c.args.frames.items in
    let done = Done c.in-Done.field-0 in
    λ ls names. own-child fs c.args.at_key c.args.child done c.args.line c.in-Done.is c.requires.room c.requires.opens c.requires.dash ls names
    ∙ around-nothing fs (λ own. child_lines (levels_left fs) done (c.args.line ∷ own)) c.requires.room (λ own ns. refl) ls names
