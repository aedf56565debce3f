-- Why a task has no formula in an encoding.
use Rattle.std.specs.Prelude.{◌≡◌}
use Rattle.literals_core.specs.declared.encoding.Encoding.{Encoding}
use Rattle.encoding_rules.specs.Task.{Task}
use Rattle.encoding_rules.specs.Encodings.{IsNarrow, IsWide, IsLarge, HasFormula, literal_count_of}
use Rattle.ranks_core.specs.declared.fault.EncodeFault.{EncodeFault}
use Rattle.ranks_core.specs.declared.fault.EncodeFault.TheVariants.{Wide, TooLarge, NoMemory}

-- What a fault says: too many criteria, whatever the literals; else too many literals, with their number; else no
-- memory, of which this is known.
abbrev pub FaultGiven : Type 0 → Encoding → Task → EncodeFault → Type 0
FaultGiven memory encoding task Wide = IsWide encoding task
FaultGiven memory encoding task (TooLarge count) =
    IsNarrow encoding task × IsLarge encoding task × (count ≡ literal_count_of encoding task)
FaultGiven memory encoding task NoMemory = memory

-- out of memory there is a formula
abbrev pub FaultOf : Encoding → Task → EncodeFault → Type 0
FaultOf encoding task = FaultGiven (HasFormula encoding task) encoding task
