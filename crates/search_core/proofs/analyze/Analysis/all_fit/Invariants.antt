use Rattle.std.proofs.Common.{take}
use Rattle.std.specs.List.{All}
use Rattle.search_core.specs.Analysis.{Fits}
use Rattle.search_core.proofs.analyze.Analysis.all_fit.Given as goal

abbrev pub invariant-loop-literal : goal.invariant-loop-literal
invariant-loop-literal l = All (Fits l.left l.self.lower.items) (take l.literal-index l.clause)
