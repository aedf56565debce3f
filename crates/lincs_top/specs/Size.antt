-- Formulas that are too large.
use Rattle.std.specs.Prelude.{◌≡◌, Result, Ok, Err, ⊤}
use Rattle.literals_core.specs.declared.encoding.Encoding.{Encoding}
use Rattle.encoding_rules.specs.Task.{Task, criteria}
use Rattle.encoding_rules.specs.Encodings.{IsNarrow, IsWide, IsLarge, HasFormula, literal_count_of}
use Rattle.lincs_top.specs.declared.stop.Size.{Size}
use Rattle.lincs_top.specs.declared.stop.Size.TheVariants.{Wide, Large}
use Rattle.lincs_top.specs.declared.stop.Stop.{Stop}
use Rattle.lincs_top.specs.declared.stop.Stop.TheVariants.{Usage, Unread, Unwritten, Refused, TooLarge, NoMemory}

-- too many criteria, with their number, whatever the literals; else too many literals, with their number
abbrev pub IsOver : Encoding → Task → Size → Type 0
IsOver encoding task (Wide count) = IsWide encoding task × (count ≡ criteria task)
IsOver encoding task (Large count) =
    IsNarrow encoding task × IsLarge encoding task × (count ≡ literal_count_of encoding task)

-- why no formula was made
abbrev pub StopsOver : Encoding → Task → Stop → Type 0
StopsOver encoding task (TooLarge size) = IsOver encoding task size
StopsOver encoding task NoMemory = ⊤
StopsOver encoding task (Unread name) = ⊥
StopsOver encoding task (Refused name refusal) = ⊥
StopsOver encoding task Unwritten = ⊥
StopsOver encoding task (Usage fault) = ⊥

-- a formula was made of a task that has one
abbrev pub FitsOrStops : {A : Type 0} → Encoding → Task → Result A Stop → Type 0
FitsOrStops encoding task (Ok made) = HasFormula encoding task
FitsOrStops encoding task (Err stop) = StopsOver encoding task stop

pub record TakesSize {A : Type 0} (encoding : Encoding) (task : Task) (result : Result A Stop) : Type 0 where
  pub gives : FitsOrStops encoding task result
