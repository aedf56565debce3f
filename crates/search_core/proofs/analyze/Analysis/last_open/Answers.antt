use Rattle.std.proofs.Common.{ℕ, List, subst}
use Rattle.search_core.specs.Analysis.{IsLastOpen}
use Rattle.search_core.proofs.analyze.Analysis.last_open.Goals as goal

pub returns : goal.returns
returns c = subst (λ (xs : List ℕ). IsLastOpen c.args.trail.now xs c.args.self.now.stamp c.args.below c.last_marked.result) c.as_slice.ensures.value c.last_marked.ensures
