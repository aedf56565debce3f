use Rattle.std.proofs.Common.{◌≡◌, map}
use Rattle.encoding_rules.specs.Each.{listed}
use Rattle.learn_core.specs.Numbers.{thresholds_in}
use Rattle.learn_core.proofs.ModelFacts.{thresholds_of}
use Rattle.learn_core.proofs.profiles.profiles_of.Given as goal

abbrev pub invariant-loop-i : goal.invariant-loop-i
invariant-loop-i l = map thresholds_of l.profiles.items ≡ listed (thresholds_in l.values l.ranks.grades l.firsts l.boundaries) l.i
