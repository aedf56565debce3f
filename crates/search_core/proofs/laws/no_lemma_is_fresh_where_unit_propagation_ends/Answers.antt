use Rattle.std.proofs.Common.{arith, []}
use Rattle.std.specs.List.{Contains}
use Rattle.std.proofs.lemmas.List.Elements.{All-nil}
use Rattle.chain_core.proofs.FreshLemmas.{given_in}
use Rattle.search_core.proofs.OutcomeLemmas.{no_end}
use Rattle.search_core.proofs.laws.no_lemma_is_fresh_where_unit_propagation_ends.Goals as goal

pub returns : goal.returns
returns c = record {
  given = λ clauses set l pair settled. given_in clauses [] set l pair settled (All-nil (Contains set));
  none = λ formula literals set range shows. no_end formula literals set shows.consistent shows.settled shows.one (range 0 literals (omega arith));
}
