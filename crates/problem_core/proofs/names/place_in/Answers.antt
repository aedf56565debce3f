use Rattle.std.proofs.Common.{ap, ◌∙◌}
use Rattle.std.specs.Prelude.{is_some}
use Rattle.std.specs.List.{list_any}
use Rattle.std.specs.String.{string_bytes}
use Rattle.std.specs.Str.{bytes_eq}
use Rattle.problem_core.proofs.NamesFacts.{is_some_position}
use Rattle.problem_core.proofs.names.place_in.Goals as goal

pub returns-then-len-le-FEW_NAMES-clause-found : goal.returns-then-len-le-FEW_NAMES-clause-found
returns-then-len-le-FEW_NAMES-clause-found c = ap is_some c.place_among.ensures.place ∙ is_some_position (λ other. bytes_eq c.args.name.now (string_bytes other)) c.as_slice.result.now ∙ ap (λ names. list_any (λ other. bytes_eq c.args.name.now (string_bytes other)) names) c.as_slice.ensures.keys
