-- How a run ends, from the end of its command.
use Rattle.std.proofs.Common.{◌≡◌, ◌≢◌, ◌↔◌, IsErr, inl, inr, Result, Ok, Err, refl, sym, ap, subst, arith}
use Rattle.edge_core.specs.Outside.{ShelfState, SinkState}
use Rattle.lincs_top.specs.declared.status.Status.{Status}
use Rattle.lincs_top.specs.declared.status.Status.TheVariants as status
use Rattle.lincs_top.specs.declared.stop.Verdict.{Verdict}
use Rattle.lincs_top.specs.declared.stop.Verdict.TheVariants as verdict
use Rattle.line_core.specs.declared.fault.LineFault.{LineFault}
use Rattle.lincs_top.specs.declared.stop.Stop.{Stop}
use Rattle.lincs_top.specs.declared.stop.Stop.TheVariants.{Usage}
use Rattle.line_core.specs.Command.{Command}
use Rattle.lincs_top.specs.End.{gave, unread, refused, over}
use Rattle.lincs_top.specs.Line.{Says, line_of_report}
use Rattle.lincs_top.specs.Obeys.{Obeys, Causes}
use Rattle.lincs_top.specs.Report.{Report, at_end, usage, unwritten, no_memory, status_of_report}
use Rattle.lincs_top.specs.Run.{CausesIn, KeepsIn, DoesLine, StatusTells, Completes}
use Rattle.lincs_top.specs.Stop.{report_of}

-- the line is no job
pub line_refused : {asked : Result Command LineFault} {fault : LineFault} (shelf : ShelfState) (out : SinkState) → asked ≡ Err fault → DoesLine asked shelf shelf out out (Err (Usage fault))
line_refused {asked} {fault} shelf out is = record {
  causes = subst (λ a. CausesIn a shelf shelf out out (usage fault)) (sym is) refl;
  keeps = subst (λ a. KeepsIn a shelf shelf out out) (sym is) (refl, refl);
}

-- its job was done
pub line_done : {asked : Result Command LineFault} {command : Command} {shelf shelf' : ShelfState} {out out' : SinkState} {result : Result Verdict Stop} → asked ≡ Ok command → Obeys command shelf shelf' out out' result
    → DoesLine asked shelf shelf' out out' result
line_done {shelf = shelf} {shelf' = shelf'} {out = out} {out' = out'} {result = result} is o = record {
  causes = subst (λ a. CausesIn a shelf shelf' out out' (report_of result)) (sym is) o.causes;
  keeps = subst (λ a. KeepsIn a shelf shelf' out out') (sym is) o.keeps;
}

-- what the status of a report tells
module _ (shelf shelf' : ShelfState) (out out' : SinkState) where
  by_fault : (fault : LineFault) (report : Report) → report ≡ usage fault → (shelf' ≡ shelf) × (out' ≡ out) → StatusTells (Err fault) shelf shelf' out out' (status_of_report report)
  by_fault fault report e k = subst (λ r. StatusTells (Err fault) shelf shelf' out out' (status_of_report r)) (sym e) (record { fault = fault; is = refl; closed = k.0; silent = k.1 })

  by_command : (command : Command) (report : Report) → Causes command shelf shelf' out out' report → StatusTells (Ok command) shelf shelf' out out' (status_of_report report)
  by_command command (at_end (gave verdict.Done)) c = record { command = command; is = refl; end = gave verdict.Done; named = refl; can = c.0; ended = c.1 }
  by_command command (at_end (gave verdict.No)) c = record { command = command; is = refl; end = gave verdict.No; named = refl; can = c.0; ended = c.1 }
  by_command command (at_end (gave (verdict.Rejected code line))) c = record { command = command; is = refl; end = gave (verdict.Rejected code line); named = refl; can = c.0; ended = c.1 }
  by_command command (at_end (gave (verdict.Limit most))) c = record { command = command; is = refl; end = gave (verdict.Limit most); named = refl; can = c.0; ended = c.1 }
  by_command command (at_end (unread name)) c = record { command = command; is = refl; name = name; named = c.0; misses = c.1; silent = c.2 }
  by_command command (at_end (refused name why)) c = record { command = command; is = refl; end = refused name why; named = refl; can = c.0; ended = c.1 }
  by_command command (at_end (over size)) c = record { command = command; is = refl; end = over size; named = refl; can = c.0; ended = c.1 }
  by_command command unwritten c = record { command = command; is = refl; rose = c.0; writes = c.1 }
  by_command command no_memory c = record { command = command; is = refl; leaves = c }
  by_command command (usage fault) c = absurd c

  pub status_tells : (asked : Result Command LineFault) (report : Report) → CausesIn asked shelf shelf' out out' report → KeepsIn asked shelf shelf' out out' → StatusTells asked shelf shelf' out out' (status_of_report report)
  status_tells (Ok command) report c k = by_command command report c
  status_tells (Err fault) report c k = by_fault fault report c k

  pub completes : (asked : Result Command LineFault) (result : Status) → StatusTells asked shelf shelf' out out' result → Completes asked shelf shelf' out out' result
  completes asked status.Usage t no_read no_write = inl refl
  completes asked status.NoMemory t no_read no_write = inr (inl refl)
  completes asked status.ReadFault t no_read no_write = absurd (no_read t.misses.rose)
  completes asked status.WriteFault t no_read no_write = absurd (no_write t.rose)
  completes asked status.Done t no_read no_write = inr (inr t)
  completes asked status.No t no_read no_write = inr (inr t)
  completes asked status.Refused t no_read no_write = inr (inr t)
  completes asked status.Limit t no_read no_write = inr (inr t)
  completes asked status.TooLarge t no_read no_write = inr (inr t)

  -- a count that is 0 after the call didn't rise
  pub no_read_fault : (asked : Result Command LineFault) (result : Status) → StatusTells asked shelf shelf' out out' result → shelf'.faults ≡ 0 → result ≢ status.ReadFault
  no_read_fault asked result t calm e = let fails = subst (StatusTells asked shelf shelf' out out') e t in let rose = fails.misses.rose in omega (arith, rose, calm)

  pub no_write_fault : (asked : Result Command LineFault) (result : Status) → StatusTells asked shelf shelf' out out' result → out'.faults ≡ 0 → result ≢ status.WriteFault
  no_write_fault asked result t calm e = let fails = subst (StatusTells asked shelf shelf' out out') e t in let rose = fails.rose in omega (arith, rose, calm)

  -- the status is Usage exactly if the line is no job
  usage_means : (command : Command) (report : Report) → Causes command shelf shelf' out out' report → status_of_report report ≡ status.Usage → ⊥
  usage_means command (at_end (gave verdict.Done)) c e = cc
  usage_means command (at_end (gave verdict.No)) c e = cc
  usage_means command (at_end (gave (verdict.Rejected code line))) c e = cc
  usage_means command (at_end (gave (verdict.Limit most))) c e = cc
  usage_means command (at_end (unread name)) c e = cc
  usage_means command (at_end (refused name why)) c e = cc
  usage_means command (at_end (over size)) c e = cc
  usage_means command unwritten c e = cc
  usage_means command no_memory c e = cc
  usage_means command (usage fault) c e = c

  pub usage_exactly : (asked : Result Command LineFault) (report : Report) → CausesIn asked shelf shelf' out out' report → (status_of_report report ≡ status.Usage) ↔ IsErr asked
  usage_exactly (Ok command) report c = (λ e. absurd (usage_means command report c e), λ e. absurd cc)
  usage_exactly (Err fault) report c = (λ e. refl, λ e. ap status_of_report c)

-- a run that is done says nothing
pub done_says_nothing : (report : Report) (err err' : SinkState) → Says err err' (line_of_report report) → status_of_report report ≡ status.Done → err' ≡ err
done_says_nothing (at_end (gave verdict.Done)) err err' s e = s.silent refl
done_says_nothing (at_end (gave verdict.No)) err err' s e = absurd cc
done_says_nothing (at_end (gave (verdict.Rejected code line))) err err' s e = absurd cc
done_says_nothing (at_end (gave (verdict.Limit most))) err err' s e = absurd cc
done_says_nothing (at_end (unread name)) err err' s e = absurd cc
done_says_nothing (at_end (refused name why)) err err' s e = absurd cc
done_says_nothing (at_end (over size)) err err' s e = absurd cc
done_says_nothing unwritten err err' s e = absurd cc
done_says_nothing no_memory err err' s e = absurd cc
done_says_nothing (usage fault) err err' s e = absurd cc
