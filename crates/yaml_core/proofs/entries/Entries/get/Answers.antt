use Rattle.std.proofs.Common.{◌≡◌, [], arith, ap, sym, ◌∙◌, Some, None}
use Rattle.yaml_core.specs.declared.node.Node.TheVariants as node
use Rattle.yaml_core.specs.Measured.{Entry, find_entry}
use Rattle.yaml_core.specs.Entries.{place_of}
use Rattle.yaml_core.proofs.EntriesLemmas.{find-at, find-none}
use Rattle.yaml_core.proofs.entries.Entries.get.Goals as goal

pub index-requires : goal.index-requires
index-requires c =
    let es = c.self.inside.held.items in
    let key = c.args.key.now in
    let there : place_of key es ≡ Some c.in-Some.place.now = sym (c.self.invariant key) ∙ sym c.in-Some.ensures.value in
    let other : Entry = ([], record { node = node.Null; height = 0 }) in
    omega (arith, (find-at key es c.in-Some.place.now other there).0, c.self.inside.held.ok.0)

pub returns-in-Some : goal.returns-in-Some
returns-in-Some c =
    let es = c.self.inside.held.items in
    let key = c.args.key.now in
    let there : place_of key es ≡ Some c.in-Some.place.now = sym (c.self.invariant key) ∙ sym c.in-Some.ensures.value in
    ap (λ (e : Entry). Some e.1) c.index.ensures ∙ sym (find-at key es c.in-Some.place.now c.index.result.now there).1 ∙ ap (find_entry key) c.self.view_is

pub returns-in-None : goal.returns-in-None
returns-in-None c =
    let es = c.self.inside.held.items in
    let key = c.args.key.now in
    let absent : place_of key es ≡ None = sym (c.self.invariant key) ∙ sym c.in-None.ensures.value in
    sym (find-none key es absent) ∙ ap (find_entry key) c.self.view_is
