use Rattle.std.proofs.Common.{◌≡◌, ◌==◌, ◌||◌}
use Rattle.std.specs.List.{list_any}
use Rattle.table_core.proofs.PlainFacts.{any-or}
use Rattle.table_core.proofs.plain.has_special.Goals as goal

pub returns : goal.returns
returns c =
    let block = c.args.block.now in
    let comma : c.has_byte.result ≡ list_any (λ b. b == 44) block = c.has_byte.ensures in
    let quote : c.has_byte-2.result ≡ list_any (λ b. b == 34) block = c.has_byte-2.ensures in
    let return : c.has_byte-3.result ≡ list_any (λ b. b == 13) block = c.has_byte-3.ensures in
    let feed : c.has_byte-4.result ≡ list_any (λ b. b == 10) block = c.has_byte-4.ensures in
    rw (comma, quote, return, feed, any-or (λ b. b == 44) (λ b. b == 34) block, any-or (λ b. (b == 44) || (b == 34)) (λ b. b == 13) block)
    (any-or (λ b. (b == 44) || (b == 34) || (b == 13)) (λ b. b == 10) block)
