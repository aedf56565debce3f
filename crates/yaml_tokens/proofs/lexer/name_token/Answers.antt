use Rattle.std.proofs.Common.{◌≡◌, ◌+◌, ◌<◌, arith, ap, sym, ◌∙◌, drop, take, subst, true, Some}
use Rattle.std.specs.Prelude.{◌&&◌, nat_lt}
use Rattle.std.proofs.lemmas.Bool.Decides.{nat_tests}
use Rattle.std.specs.Str.{IsUtf8}
use Rattle.std.proofs.lemmas.Str.{IsCharBoundary-after_ascii}
use Rattle.yaml_tokens.specs.Tokens.{name_at, name_token, ends_name}
use Rattle.yaml_tokens.specs.TokenKinds.{named}
use Rattle.yaml_tokens.proofs.NameLemmas.{token-named, name-boundary, takes-name, rest-behind}
use Rattle.yaml_tokens.proofs.QuotesLemmas.{range-take}
use Rattle.yaml_tokens.proofs.lexer.name_token.Goals as goal

pub range_from-after-requires : goal.range_from-after-requires
range_from-after-requires c = λ _. IsCharBoundary-after_ascii c.args.rest.now 0 c.utf8.rest c.requires.some c.requires.ascii

pub returns : goal.returns
returns c =
    let s = c.args.rest.now in
    let bs = c.as_bytes.result.now in
    let n = c.name_len-len.result in
    let depth = c.args.depth in
    let make = named c.args.kind in
    let name = c.name_len-len.ensures in
    let behind : bs ≡ drop 1 s = c.as_bytes.ensures.value ∙ c.range_from-after.ensures.value in
    let text : IsUtf8 bs = subst IsUtf8 (sym c.as_bytes.ensures.value) c.range_from-after.utf8 in
    let again : bs ≡ c.as_bytes-2.result.now = c.as_bytes.ensures.value ∙ sym c.as_bytes-2.ensures.value in
    let whole : (nat_lt 0 n && ends_name depth (drop n bs)) ≡ true = ap (λ xs. nat_lt 0 n && ends_name depth (drop n xs)) again ∙ sym c.is_whole.ensures ∙ c.if-not-is_whole.false in
    let some : 0 < n = grind (arith, nat_tests, whole) in
    let taken : take n bs ≡ c.range.result.now = ap (take n) c.as_bytes.ensures.value ∙ sym (range-take c.range_from-after.result.now n) ∙ sym c.range.ensures.value in
    let token : make (take n bs) ≡ c.named.result = ap make (taken ∙ sym c.in_ok-name.ensures) ∙ sym c.named.ensures in
    let left : drop n bs ≡ drop (n + 1) s = rest-behind s bs n behind in
    let meant : name_token make depth (name_at bs) ≡ Some (record { token = c.named.result; rest = drop (n + 1) s; depth = depth }) =
    token-named make depth bs n name.value name.within whole ∙ (λ i. Some (record { token = token i; rest = left i; depth = depth })) in
    (ap (λ xs. name_token make depth (name_at xs)) (sym behind) ∙ meant, takes-name s bs n behind c.requires.some name.within (name-boundary bs n text some name.within name.ascii))
