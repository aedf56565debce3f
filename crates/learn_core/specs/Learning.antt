-- The results and faults of learning.
use Rattle.std.specs.Prelude.{⊤, List}
use Rattle.chain_core.specs.declared.log.Lemma.{Lemma}
use Rattle.literals_core.specs.declared.encoding.Encoding.{Encoding}
use Rattle.encoding_rules.specs.Task.{Task}
use Rattle.ranks_core.specs.declared.fault.EncodeFault.{EncodeFault}
use Rattle.ranks_core.specs.Fault.{FaultGiven}
use Rattle.model_core.specs.Model.{ModelValue}
use Rattle.learn_core.specs.declared.learning.Answer.{Answer}
use Rattle.learn_core.specs.declared.learning.Answer.TheVariants.{Found, Refuted, Limit}

-- something holds of the model that is found, of the refutation, or of the lemmas at the limit, if that is the result
abbrev pub IfFound : (ModelValue → Type 0) → Answer → Type 0
IfFound P (Found model) = P model
IfFound P (Refuted log) = ⊤
IfFound P (Limit log) = ⊤

abbrev pub IfRefuted : (List Lemma → Type 0) → Answer → Type 0
IfRefuted P (Found model) = ⊤
IfRefuted P (Refuted log) = P log
IfRefuted P (Limit log) = ⊤

abbrev pub IfLimit : (List Lemma → Type 0) → Answer → Type 0
IfLimit P (Found model) = ⊤
IfLimit P (Refuted log) = ⊤
IfLimit P (Limit log) = P log

-- learning runs out of memory also where it writes no formula, so that says nothing
abbrev pub LearnFaultOf : Encoding → Task → EncodeFault → Type 0
LearnFaultOf encoding task = FaultGiven ⊤ encoding task
