use Rattle.std.proofs.Common.{◌≡◌, [], ◌∷◌, ◌++◌, length, None, Some, sym, ap, ◌∙◌, subst, arith}
use Rattle.std.specs.Prelude.{string_bytes}
use Rattle.std.specs.BTreeMap.{UpdatesBy}
use Rattle.std.specs.Ordering.{nat_cmp}
use Rattle.std.specs.Cmp.Lexicographic.{slice_cmp}
use Rattle.std.specs.String.{string_cmp}
use Rattle.yaml_core.specs.Entries.{place_of, IsIndexed}
use Rattle.yaml_core.specs.Measured.{add_entry}
use Rattle.yaml_core.proofs.EntriesLemmas.{add_entry-new, add_entry-there, none-from, some-from, index-more}
use Rattle.yaml_core.proofs.entries.Entries.add.Goals as goal

pub returns-then-is_some : goal.returns-then-is_some
returns-then-is_some c =
    let bs = string_bytes c.in_ok-name.name in
    let es = c.self.inside.held.items in
    let name : bs ≡ c.args.key = c.in_ok-name.ensures.ok ∙ c.as_str.ensures in
    let some = some-from c.in_ok-insert.field-0 (sym c.is_some.ensures ∙ c.if-is_some.true) in
    let there : place_of bs es ≡ Some some.0 = sym (c.self.invariant bs) ∙ sym c.in_ok-insert.ensures.old ∙ some.1 in
    (λ i. add_entry (sym c.self.view_is i) (sym name i) c.args.value) ∙ add_entry-there bs c.args.value es some.0 there

pub invariant_of-result : goal.invariant_of-result
invariant_of-result c =
    let bs = string_bytes c.in_ok-name.name in
    let es = c.self.inside.held.items in
    let name : bs ≡ c.args.key = c.in_ok-name.ensures.ok ∙ c.as_str.ensures in
    let none : place_of bs es ≡ None = sym (c.self.invariant bs) ∙ sym c.in_ok-insert.ensures.old ∙ none-from c.in_ok-insert.field-0 (sym c.is_some.ensures ∙ c.if-is_some.false) in
    let last : c.len.result ≡ length es = omega (arith, c.len.ensures, c.self.inside.held.ok.0) in
    let updates = subst (λ n. UpdatesBy string_cmp (λ k. slice_cmp nat_cmp bs (string_bytes k)) c.self.inside.places c.insert.new.self (Some n)) last c.in_ok-insert.ensures.updates in
    subst (IsIndexed c.insert.new.self) ((λ i. es ++ (name i, c.args.value) ∷ []) ∙ sym c.in_ok-push.ensures.items)
    (index-more c.self.inside.places c.insert.new.self es bs c.args.value c.self.invariant none updates)

pub returns : goal.returns
returns c =
    let bs = string_bytes c.in_ok-name.name in
    let es = c.self.inside.held.items in
    let name : bs ≡ c.args.key = c.in_ok-name.ensures.ok ∙ c.as_str.ensures in
    let none : place_of bs es ≡ None = sym (c.self.invariant bs) ∙ sym c.in_ok-insert.ensures.old ∙ none-from c.in_ok-insert.field-0 (sym c.is_some.ensures ∙ c.if-is_some.false) in
    (λ i. add_entry (sym c.self.view_is i) (sym name i) c.args.value) ∙ add_entry-new bs c.args.value es none
    ∙ ap (λ l. Some l) ((λ i. es ++ (name i, c.args.value) ∷ []) ∙ sym c.in_ok-push.ensures.items)
