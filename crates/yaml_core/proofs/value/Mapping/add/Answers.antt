use Rattle.std.proofs.Common.{◌≡◌, ℕ, false, true, List, sym, ap, ◌∙◌, subst, Some}
use Rattle.std.specs.Prelude.{string_bytes}
use Rattle.std.specs.Ordering.{nat_cmp}
use Rattle.std.specs.Cmp.Lexicographic.{slice_cmp}
use Rattle.std.specs.String.{string_cmp}
use Rattle.std.specs.BTreeSet.{UpdatesBy}
use Rattle.yaml_core.specs.Measured.{Entry}
use Rattle.yaml_core.proofs.EntriesLemmas.{key_in}
use Rattle.yaml_core.proofs.MappingLemmas.{add-new, was-absent, keeps-more}
use Rattle.yaml_core.proofs.value.Mapping.add.Goals as goal

pub invariant_of-result : goal.invariant_of-result
invariant_of-result c =
    let mapping = c.self.inside in
    let value = c.value.inside in
    let es = mapping.note.entries in
    let key = c.args.key in
    let bs = string_bytes c.in_ok-from_str.field-0 in
    let name : bs ≡ key = c.in_ok-from_str.ensures.ok ∙ c.as_str.ensures in
    let absent = was-absent mapping.keys es bs key c.in_ok-insert.field-0 c.self.invariant.contains name
    c.if-not-branch.false c.in_ok-insert.ensures.added in
    let after = c.insert.new.self in
    let updates = subst
    (λ (ks : List ℕ). UpdatesBy string_cmp (λ k. slice_cmp nat_cmp ks (string_bytes k)) mapping.keys after true)
    name c.in_ok-insert.ensures.updates in
    let keeps = rw c.pair_of.ensures at c.in_ok-all.ensures.kept in
    let out = rw (c.pair_of.ensures, c.saturating_add-nodes.ensures) at c.in_ok-all.ensures.left_out in
    rw (c.max-levels.ensures, c.saturating_add-nodes.ensures, c.of-note.ensures, ← c.self.view_is, ← c.value.view_is)
    (keeps-more mapping.all c.in_ok-all.all value.node mapping.keys after es key value.note.measured
    c.self.invariant c.value.invariant absent updates keeps out)

pub returns : goal.returns
returns c =
    let mapping = c.self.inside in
    let key = c.args.key in
    let bs = string_bytes c.in_ok-from_str.field-0 in
    let name : bs ≡ key = c.in_ok-from_str.ensures.ok ∙ c.as_str.ensures in
    let absent = was-absent mapping.keys mapping.note.entries bs key c.in_ok-insert.field-0 c.self.invariant.contains name
    c.if-not-branch.false c.in_ok-insert.ensures.added in
    add-new c.args.self key c.args.value (subst (λ (es : List Entry). key_in key es ≡ false) c.self.view_is absent)
    ∙ ap (λ es. Some es) (sym c.of-note.ensures)
