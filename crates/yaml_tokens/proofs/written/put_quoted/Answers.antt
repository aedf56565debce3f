use Rattle.std.proofs.Common.{◌++◌, ◌∷◌, [], subst}
use Rattle.std.specs.List.{flat_map}
use Rattle.lists_core.specs.Puts.{Puts}
use Rattle.lists_core.proofs.PutsFacts.{puts-then, puts-cut, puts-failed}
use Rattle.yaml_tokens.specs.Written.{spelled, quoted_text}
use Rattle.yaml_tokens.proofs.written.put_quoted.Goals as goal

pub returns-in_err-put_plain : goal.returns-in_err-put_plain
returns-in_err-put_plain c = record {
  text = puts-failed _ _ _ c.from_residual.result c.from_residual.ensures.0 (puts-cut _ _ _ _ c.in_err-put_plain.ensures);
}

pub returns-in_err-put_spelled : goal.returns-in_err-put_spelled
returns-in_err-put_spelled c = record {
  text =
      let old = c.args.out.now.items in
      let new = c.put_spelled.new.out.items in
      let r = c.from_residual-in_err-put_spelled.result in
      subst (λ s. Puts old new r (quoted_text s)) c.as_bytes.ensures.value
      (puts-then old c.put_plain.new.out.items (34 ∷ []) c.in_ok-put_plain.ensures new _ r (puts-failed _ _ _ r c.from_residual-in_err-put_spelled.ensures.0 (puts-cut _ _ _ (34 ∷ []) c.in_err-put_spelled.ensures)));
}

pub returns : goal.returns
returns c = record {
  text =
      let old = c.args.out.now.items in
      let new = c.put_plain-2.new.out.items in
      let r = c.put_plain-2.result in
      let inner = flat_map spelled c.as_bytes.result.now in
      subst (λ s. Puts old new r (quoted_text s)) c.as_bytes.ensures.value
      (puts-then old c.put_plain.new.out.items (34 ∷ []) c.in_ok-put_plain.ensures new (inner ++ 34 ∷ []) r
      (puts-then c.put_plain.new.out.items c.put_spelled.new.out.items inner c.in_ok-put_spelled.ensures new (34 ∷ []) r c.put_plain-2.ensures));
}
