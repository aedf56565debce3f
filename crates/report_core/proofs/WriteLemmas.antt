-- Pieces that are written one after another.
use Rattle.std.proofs.Common.{◌≡◌, ℕ, ◌≤◌, ◌++◌, Bool, true, false, List, [], Option, Result, Ok, Err, refl, sym, ap, ◌∙◌, subst, append_assoc, append-nil, arith}
use Rattle.std.specs.Io.KnownBytes.{Appends}
use Rattle.std.proofs.KnownBytes.{Appends-trans}
use Rattle.edge_core.specs.Outside.{SinkState, AppendsPart}
use Rattle.edge_core.proofs.Sends.{part_front, part_on}
use Rattle.edge_core.proofs.Sent.{Sent}
use Rattle.problem_core.specs.Problem.{ProblemValue}
use Rattle.sorting_rule.specs.Model.{Model}
use Rattle.table_core.specs.Rows.{rows_left}
use Rattle.table_core.specs.Table.{TableState}
use Rattle.table_core.specs.declared.fault.RowFault.{RowFault}
use Rattle.report_core.specs.Classified.{rows_text}
use Rattle.report_core.specs.Pieces.{Gathers, EndsWriting, WritesPiece, WritesRows}
use Rattle.report_core.specs.Prefix.{IsPrefix}
use Rattle.report_core.specs.declared.fault.ReportFault.{ReportFault}
use Rattle.report_core.specs.declared.fault.ReportFault.TheVariants as fault

-- what was gathered begins the text
pub gathered_begins : (problem : ProblemValue) (model : Model) (old new : TableState) (piece : List ℕ) (r : Result Bool RowFault) → Gathers problem model old new piece r → IsPrefix piece (rows_text problem model old)
gathered_begins problem model old new piece (Ok true) g = (rows_text problem model new, g.0.text)
gathered_begins problem model old new piece (Ok false) g = ([], sym g.0 ∙ sym (append-nil piece))
gathered_begins problem model old new piece (Err why) g = g.0

-- a part of a prefix of a text is a part of the text
pub part_of : (old new : Option (List ℕ)) (piece text : List ℕ) → IsPrefix piece text → AppendsPart old new piece → AppendsPart old new text
part_of old new piece text p part = subst (AppendsPart old new) (sym p.1) (part_front old new piece p.0 part)

-- a piece was written, and rows may be left
pub written_more : (problem : ProblemValue) (model : Model) (table table' : TableState) (old new : SinkState) (more : Bool) → WritesPiece problem model table table' old new (Ok more) → more ≡ true
    → WritesPiece problem model table table' old new (Ok true)
written_more problem model table table' old new true w e = w
written_more problem model table table' old new false w e = absurd cc

-- the last piece was written
pub written_last : (problem : ProblemValue) (model : Model) (table table' : TableState) (old new : SinkState) (more : Bool) → WritesPiece problem model table table' old new (Ok more) → more ≡ false
    → WritesPiece problem model table table' old new (Ok false)
written_last problem model table table' old new true w e = absurd cc
written_last problem model table table' old new false w e = w

-- the next piece of the rest was written
pub sent_next : (old mid new : Option (List ℕ)) (all rest piece more : List ℕ) → Sent old mid all rest → rest ≡ piece ++ more → Appends mid new piece → Sent old new all more
sent_next old mid new all rest piece more s e went = record {
  front = s.front ++ piece;
  parts = s.parts ∙ ap (λ l. s.front ++ l) e ∙ sym (append_assoc s.front piece more);
  went = Appends-trans old mid new s.front piece s.went went;
}

-- a front of the text was written before
module _ (problem : ProblemValue) (first table : TableState) (all front rest : List ℕ) (parts : all ≡ front ++ rest) (old mid new : SinkState) (went : Appends old.written mid.written front)
    (end : (rows_left problem first).1 ≡ (rows_left problem table).1) (later : old.faults ≤ mid.faults) where
  abbrev Went : List ℕ → Type 0
  Went text = Appends old.written new.written text

  -- the rest was written too
  pub whole_after : Appends mid.written new.written rest → Appends old.written new.written all
  whole_after more = subst Went (sym parts) (Appends-trans old.written mid.written new.written front rest went more)

  pub ends_after : (why : ReportFault) → EndsWriting problem table rest mid new why → EndsWriting problem first all old new why
  ends_after (fault.Row why) (more, last, other) = (whole_after more, end ∙ last, other)
  ends_after fault.Write (rose, part) = (omega (arith, rose, later), subst (AppendsPart old.written new.written) (sym parts) (part_on old.written mid.written new.written front rest went part))
  ends_after fault.NoMemory p = record {
    front = front ++ p.front;
    begins = (p.begins.0, parts ∙ ap (λ l. front ++ l) p.begins.1 ∙ sym (append_assoc front p.front p.begins.0));
    went = Appends-trans old.written mid.written new.written front p.front went p.went;
  }

-- the header was written, and then the rows
pub rows_after : (problem : ProblemValue) (table : TableState) (head rest : List ℕ) (old mid new : SinkState) → Appends old.written mid.written head → old.faults ≤ mid.faults
    → (r : Result ℕ ReportFault) → WritesRows problem table rest mid new r → WritesRows problem table (head ++ rest) old new r
rows_after problem table head rest old mid new went later (Ok count) (more, last, number) = (whole_after problem table table (head ++ rest) head rest refl old mid new went refl later more, last, number)
rows_after problem table head rest old mid new went later (Err why) ends = ends_after problem table table (head ++ rest) head rest refl old mid new went refl later why ends
