-- Lines that are written in parts.
use Rattle.std.proofs.Common.{Option, Some, None, ◌≡◌, ◌≢◌, ◌≤◌, ℕ, List, [], ◌∷◌, ◌++◌, Result, Ok, Err, sym, ap, arith, append-nil, length, take, drop, get_or, ◌-◌}
use Rattle.std.proofs.lemmas.List.{take_all}
use Rattle.std.specs.List.{flat_map}
use Rattle.std.proofs.KnownBytes.{Appends-nil, Appends-trans}
use Rattle.edge_core.specs.Outside.{SinkState, Sends}
use Rattle.edge_core.proofs.Sends.{part_front, part_on}
use Rattle.lincs_top.specs.declared.stop.Size.TheVariants.{Wide, Large}
use Rattle.lincs_top.specs.declared.stop.Stop.{Stop}
use Rattle.lincs_top.specs.declared.stop.Stop.TheVariants.{Usage, Unread, Unwritten, Refused, TooLarge, NoMemory}
use Rattle.lincs_top.specs.declared.line.Part.{Part}
use Rattle.lincs_top.specs.Line.{Says, part_text, rejected_line, line_of_report}
use Rattle.lincs_top.specs.Stop.{report_of}

-- there was nothing to write
pub sends_none : {T E : Type 0} (old : SinkState) (x : T) → Sends {T = T} {E = E} old old [] (Ok x)
sends_none old x = record {
  whole = Appends-nil old.written;
  part = tt;
  cause = record { later = omega arith; failed = tt };
}

-- a part went out, and then the rest as far as it went
pub sends_on : {T U E F : Type 0} {old mid new : SinkState} {a b : List ℕ} {x : T} {result : Result U E} → Sends {T = T} {E = F} old mid a (Ok x) → Sends mid new b result → Sends old new (a ++ b) result
sends_on {old} {mid} {new} {a} {b} {result = Ok y} s t = record {
  whole = Appends-trans old.written mid.written new.written a b s.whole t.whole;
  part = tt;
  cause = record { later = let first = s.cause.later in let second = t.cause.later in omega (arith, first, second); failed = tt };
}
sends_on {old} {mid} {new} {a} {b} {result = Err e} s t = record {
  whole = tt;
  part = part_on old.written mid.written new.written a b s.whole t.part;
  cause = record {
    later = let first = s.cause.later in let second = t.cause.later in omega (arith, first, second);
    failed = let first = s.cause.later in let second = t.cause.failed in omega (arith, first, second);
  };
}

-- a part didn't go out whole
pub sends_failed : {T U E F : Type 0} {old new : SinkState} {a : List ℕ} {e : E} {f : F} (b : List ℕ) → Sends {T = T} {E = E} old new a (Err e) → Sends {T = U} {E = F} old new (a ++ b) (Err f)
sends_failed {old} {new} {a} b s = record {
  whole = tt;
  part = part_front old.written new.written a b s.part;
  cause = record { later = s.cause.later; failed = s.cause.failed };
}

-- so the line was said
pub says_sent : {T E : Type 0} {old new : SinkState} {line : List ℕ} {result : Result T E} → Sends old new line result → (line ≡ [] → new ≡ old) → Says old new line
says_sent {old} {new} {line} {result = Ok x} s silent = record {
  prefix = record { front = line; begins = ([], sym (append-nil line)); went = s.whole };
  whole = λ calm. s.whole;
  silent = silent;
  later = s.cause.later;
}
says_sent {old} {new} {line} {result = Err e} s silent = record {
  prefix = record { front = s.part.front; begins = (s.part.rest, s.part.parts); went = s.part.went };
  whole = λ calm. absurd (calm s.cause.failed);
  silent = silent;
  later = s.cause.later;
}

-- a rejected refutation always has a line
pub rejection_has_line : (code : ℕ) (line : Option ℕ) → rejected_line code line ≢ []
rejection_has_line code None e = cc
rejection_has_line code (Some line) e = cc

-- a stop always has a line
pub stop_has_line : (stop : Stop) → line_of_report (report_of (Err stop)) ≢ []
stop_has_line (Usage fault) e = cc
stop_has_line (Unread name) e = cc
stop_has_line (Refused name refusal) e = cc
stop_has_line (TooLarge (Wide criteria)) e = cc
stop_has_line (TooLarge (Large literals)) e = cc
stop_has_line Unwritten e = cc
stop_has_line NoMemory e = cc

-- the text of parts is that of the first and those of the others
pub first_said : (parts : List Part) (other : Part) → 1 ≤ length parts
    → part_text (get_or parts 0 other) ++ flat_map part_text (take (length parts - 1) (drop 1 parts)) ≡ flat_map part_text parts
first_said [] other some = absurd (omega (arith, some))
first_said (part ∷ parts) other some = ap (λ l. part_text part ++ flat_map part_text l) (take_all (length (part ∷ parts) - 1) parts (omega arith))
