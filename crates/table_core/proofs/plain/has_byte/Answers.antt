use Rattle.std.proofs.Common.{ℕ, ◌==◌, not, nat_eq, ap, ◌∙◌, arith, w8}
use Rattle.std.proofs.lemmas.Simd.{bitmask_splat}
use Rattle.table_core.proofs.PlainFacts.{mask-any}
use Rattle.table_core.proofs.plain.has_byte.Goals as goal

pub returns : goal.returns
returns c =
    ap (λ (n : ℕ). not (nat_eq n 0)) (bitmask_splat w8 nat_eq c.args.bytes 8 c.args.byte c.fits-bytes.0 (omega arith))
    ∙ mask-any (λ b. b == c.args.byte) c.args.bytes
