-- How far a command came along its course, and what each step makes of it.
use Rattle.std.proofs.Common.{◌≡◌, ◌==◌, ◌≤◌, ◌+◌, ◌++◌, ℕ, true, false, List, [], ◌∷◌, Option, None, Some, Result, Ok, Err, IsErrAnd, Contains, inl, inr, refl, sym, ap, ◌∙◌, subst, append_assoc, append-nil, length, length-append, take, arith, rules}
use Rattle.std.specs.Prelude.{⊤}
use Rattle.std.proofs.Math.Seq.{take-append_seam}
use Rattle.std.proofs.KnownBytes.{Appends-nil}
use Rattle.std.proofs.lemmas.Grind.{common_steps}
use Rattle.std.proofs.lemmas.List.Elements.{Contains-append_right}
use Rattle.std.proofs.lemmas.Result.{err_from_is_err_and}
use Rattle.literals_core.specs.declared.encoding.Encoding.{Encoding}
use Rattle.encoding_rules.specs.Task.{Task}
use Rattle.edge_core.specs.Outside.{Files, ShelfState, SinkState, KeepsHeld}
use Rattle.lincs_top.specs.declared.stop.Verdict.{Verdict}
use Rattle.lincs_top.specs.declared.stop.Size.{Size}
use Rattle.lincs_top.specs.declared.stop.Stop.{Stop}
use Rattle.lincs_top.specs.declared.stop.Stop.TheVariants.{Usage, Unread, Unwritten, Refused, TooLarge, NoMemory}
use Rattle.line_core.specs.Command.{Command}
use Rattle.lincs_top.specs.Command.{names_of, streams, makes_formula}
use Rattle.lincs_top.specs.Size.{IsOver, StopsOver, TakesSize}
use Rattle.lincs_top.specs.End.{End, unread, refused, Outcome, silent}
use Rattle.lincs_top.specs.Course.{World, readable, unreadable_at, is_at, given_in, Goes, Reads, Sizes, Writes, course, Ends}
use Rattle.lincs_top.specs.FileGives.{FileStep, given}
use Rattle.lincs_top.specs.Deliver.{Concludes, ConcludesAs}
use Rattle.lincs_top.specs.FileStep.{StopsAs, OpensOne, TakesStep}
use Rattle.lincs_top.specs.Obeys.{CanEnd, TellsOf, Tells, OpensFirst, SomeCourse, Causes, Obeys}
use Rattle.lincs_top.specs.Stop.{report_of}

abbrev pub World_of : Files → Option ℕ → World
World_of files u = record { files = files; unreadable = u }

-- no file before this place is the one that can't be read
abbrev pub IsFrom : ℕ → Option ℕ → Type 0
IsFrom place None = ⊤
IsFrom place (Some other) = place ≤ other

-- So many files of the command passed their steps, and these are still to be read: each end of the rest is one of the
-- course. What the shelf holds stayed, its count didn't fall, and the files were opened in order.
pub record Came (command : Command) (old new : ShelfState) (count : ℕ) (left : List (List ℕ)) (rest : ℕ → World → Outcome → Type 0) : Type 0 where
  pub passed : List (List ℕ)
  pub names : names_of command ≡ passed ++ left
  pub counted : length passed ≡ count
  pub reached : (files : Files) → Tells command old files → (u : Option ℕ) → IsFrom count u → (e : Outcome) → rest count (World_of files u) e → Ends command (World_of files u) e
  pub held : KeepsHeld old new
  pub later : old.faults ≤ new.faults
  pub asked : new.asked ≡ old.asked ++ passed

-- no file was opened yet
pub came_none : (command : Command) (shelf : ShelfState) → Came command shelf shelf 0 (names_of command) (course command)
came_none command shelf = record {
  passed = [];
  names = refl;
  counted = refl;
  reached = λ files told u from e is. is;
  held = record { files = refl; names = refl };
  later = omega arith;
  asked = sym (append-nil shelf.asked);
}

same_place : (place : ℕ) → (place == place) ≡ true
same_place place = grind (arith, common_steps)

later_place : (place : ℕ) (u : Option ℕ) → IsFrom (place + 1) u → is_at u place ≡ false
later_place place None from = refl
later_place place (Some other) from = grind (arith, common_steps)

from_before : (place : ℕ) (u : Option ℕ) → IsFrom (place + 1) u → IsFrom place u
from_before place None from = tt
from_before place (Some other) from = omega arith

-- a command that names a file needs the shelf told
told_of : (names passed left : List (List ℕ)) (name : List ℕ) (held : Option Files) (files : Files) → names ≡ passed ++ name ∷ left → TellsOf names held files → held ≡ Some files
told_of [] [] left name held files e t = absurd cc
told_of [] (p ∷ passed) left name held files e t = absurd cc
told_of (n ∷ names) passed left name held files e t = t

-- the names passed are the first ones
first_of_names : (names passed left : List (List ℕ)) (count : ℕ) → names ≡ passed ++ left → length passed ≡ count → take count names ≡ passed
first_of_names names passed left count e c = ap (λ l. take count l) e ∙ ap (λ n. take n (passed ++ left)) (sym c) ∙ take-append_seam passed left

next_is_one : (names passed left : List (List ℕ)) (name : List ℕ) → names ≡ passed ++ name ∷ left → Contains names name
next_is_one names passed left name e = subst (λ l. Contains l name) (sym e) (Contains-append_right passed (name ∷ left) name (0, search rules, refl))

-- if a step's value is given, the rest of the course goes on with it
goes_on : {A : Type 0} (step : FileStep A) (name : List ℕ) (next : A → ℕ → World → Outcome → Type 0) (opened : ℕ) (files : Files) (u : Option ℕ) (e : Outcome) (value : A)
    → is_at u opened ≡ false → given step files name ≡ Ok value → next value (opened + 1) (World_of files u) e → Reads step name next opened (World_of files u) e
goes_on step name next opened files u e value other gives is =
    let same : given_in step (World_of files u) opened name ≡ Ok value = rw other gives in
    record { goes = subst (λ r. Goes (opened + 1) r next (World_of files u) e) (sym same) is }

-- if it stops, the course ends there
ends_there : {A : Type 0} (step : FileStep A) (name : List ℕ) (next : A → ℕ → World → Outcome → Type 0) (opened : ℕ) (world : World) (end : End)
    → given_in step world opened name ≡ Err end → Reads step name next opened world (silent (opened + 1) end)
ends_there step name next opened world end stopped = record { goes = subst (λ r. Goes (opened + 1) r next world (silent (opened + 1) end)) (sym stopped) refl }

module _ {A : Type 0} {command : Command} {old mid new : ShelfState} {count : ℕ} {left : List (List ℕ)} {name : List ℕ} {step : FileStep A} {next : A → ℕ → World → Outcome → Type 0} where
  -- what holds of the names after one more file
  asked_on : (c : Came command old mid count (name ∷ left) (Reads step name next)) → OpensOne mid new name → new.asked ≡ old.asked ++ (c.passed ++ name ∷ [])
  asked_on c o = o.asked ∙ ap (λ l. l ++ name ∷ []) c.asked ∙ append_assoc old.asked c.passed (name ∷ [])

  opens_on : (c : Came command old mid count (name ∷ left) (Reads step name next)) → OpensOne mid new name → OpensFirst command (count + 1) old new
  opens_on c o = asked_on c o ∙ ap (λ l. old.asked ++ l) (sym (first_of_names (names_of command) (c.passed ++ name ∷ []) left (count + 1)
      (c.names ∙ sym (append_assoc c.passed (name ∷ []) left)) (length-append c.passed (name ∷ []) ∙ ap (λ n. n + 1) c.counted)))

  -- a file passed its step: the command came on
  pub came_on : (value : A) → Came command old mid count (name ∷ left) (Reads step name next) → TakesStep mid new step name (Ok value) → Came command old new (count + 1) left (next value)
  came_on value c t = record {
    passed = c.passed ++ name ∷ [];
    names = c.names ∙ sym (append_assoc c.passed (name ∷ []) left);
    counted = length-append c.passed (name ∷ []) ∙ ap (λ n. n + 1) c.counted;
    reached = λ files told u from e is. c.reached files told u (from_before count u from) e
        (goes_on step name next count files u e value (later_place count u from) (t.gives files (c.held.files ∙ told_of (names_of command) c.passed left name old.held files c.names told)) is);
    held = record { files = t.opens.held.files ∙ c.held.files; names = t.opens.held.names ∙ c.held.names };
    later = let first = c.later in let second = t.opens.later in omega (arith, first, second);
    asked = asked_on c t.opens;
  }

  -- a file was refused, could not be read or found no memory: the command came to a stop
  stopped : (out : SinkState) (stop : Stop) → (c : Came command old mid count (name ∷ left) (Reads step name next)) → OpensOne mid new name → StopsAs mid new (given step) name stop → Causes command old new out out (report_of (Err stop))
  stopped out (Unread file) c o s = (
    subst (Contains (names_of command)) (sym s.0) (next_is_one (names_of command) c.passed left name c.names),
    record {
      rose = let first = c.later in let second = s.1 in omega (arith, first, second);
      missed = s.2 ∙ ap Some (sym s.0);
      place = count;
      reached = λ files told. (
        silent (count + 1) (unread name),
        c.reached files told (Some count) (omega arith) (silent (count + 1) (unread name)) (ends_there step name next count (unreadable_at files count) (unread name) (rw same_place refl)),
        ap unread (sym s.0),
        opens_on c o,
      );
    },
    refl,
  )
  stopped out (Refused file why) c o s = (
    subst (Contains (names_of command)) (sym s.0) (next_is_one (names_of command) c.passed left name c.names),
    λ files told. (
      silent (count + 1) (refused name why),
      c.reached files told None tt (silent (count + 1) (refused name why))
          (ends_there step name next count (readable files) (refused name why) (s.1 files (c.held.files ∙ told_of (names_of command) c.passed left name old.held files c.names told))),
      (ap (λ n. refused n why) (sym s.0), Appends-nil out.written),
      opens_on c o,
    ),
    λ long. let cause = s.2 long in (cause.0, cause.1 ∙ ap Some (sym s.0)),
  )
  stopped out NoMemory c o s = inl refl
  stopped out Unwritten c o s = absurd s
  stopped out (Usage fault) c o s = absurd s
  stopped out (TooLarge size) c o s = absurd s

  pub came_to_a_stop : {out : SinkState} {stop : Stop} (result : Result Verdict Stop) → Came command old mid count (name ∷ left) (Reads step name next) → TakesStep mid new step name (Err stop)
      → IsErrAnd result (λ s. s ≡ stop) → Obeys command old new out out result
  came_to_a_stop {out} {stop} result c t is =
      let p = err_from_is_err_and result is in
      let e : result ≡ Err stop = p.1 ∙ ap Err p.2 in
      record {
        keeps = record {
          held = record { files = t.opens.held.files ∙ c.held.files; names = t.opens.held.names ∙ c.held.names };
          shelf_later = let first = c.later in let second = t.opens.later in omega (arith, first, second);
          out_later = omega arith;
          asked = (count + 1, opens_on c t.opens);
        };
        causes = subst (λ r. Causes command old new out out (report_of r)) (sym e) (stopped out stop c t.opens t.gives);
      }

module _ {command : Command} {old new : ShelfState} {count : ℕ} {left : List (List ℕ)} where
  opens_so_far : {rest : ℕ → World → Outcome → Type 0} → Came command old new count left rest → OpensFirst command count old new
  opens_so_far c = c.asked ∙ ap (λ l. old.asked ++ l) (sym (first_of_names (names_of command) c.passed left count c.names c.counted))

  -- a course ends so
  some_course : (rest : ℕ → World → Outcome → Type 0) (end : End) (text : List ℕ) (Is : Outcome → Type 0) → Came command old new count left rest
      → ((world : World) → rest count world (record { end = end; output = text; opened = count })) → Is (record { end = end; output = text; opened = count })
      → SomeCourse command old new readable Is
  some_course rest end text Is c ends is files told = (record { end = end; output = text; opened = count }, c.reached files told None tt (record { end = end; output = text; opened = count }) (ends (readable files)), is, opens_so_far c)

  concluded : (rest : ℕ → World → Outcome → Type 0) (end : End) (text : List ℕ) (out out' : SinkState) (result : Result Verdict Stop) → Came command old new count left rest
      → ((world : World) → rest count world (record { end = end; output = text; opened = count })) → CanEnd command end → ConcludesAs (streams command) end text out out' result
      → Causes command old new out out' (report_of result)
  concluded rest end text out out' (Ok verdict) c ends can a = (subst (CanEnd command) a.0 can, some_course rest end text _ c ends (a.0, a.1))
  concluded rest end text out out' (Err (Refused name why)) c ends can a = (subst (CanEnd command) a.0 can, some_course rest end text _ c ends (a.0, a.2), λ long. absurd (a.1 long))
  concluded rest end text out out' (Err (TooLarge size)) c ends can a = (subst (CanEnd command) a.0 can, some_course rest end text _ c ends (a.0, a.1))
  concluded rest end text out out' (Err Unwritten) c ends can a = (a.0, some_course rest end text _ c ends a.1)
  concluded rest end text out out' (Err NoMemory) c ends can (inl none) = inl none
  concluded rest end text out out' (Err NoMemory) c ends can (inr some) = inr (some.0, some_course rest end text _ c ends some.1)
  concluded rest end text out out' (Err (Unread name)) c ends can a = absurd a
  concluded rest end text out out' (Err (Usage fault)) c ends can a = absurd a

  -- the command came to an end that its course has, whatever else it may have
  pub came_to_some_end : {rest : ℕ → World → Outcome → Type 0} {end : End} {text : List ℕ} {out out' : SinkState} {result : Result Verdict Stop} → Came command old new count left rest
      → Concludes (streams command) end text out out' result → ((world : World) → rest count world (record { end = end; output = text; opened = count })) → CanEnd command end
      → Obeys command old new out out' result
  came_to_some_end {rest} {end} {text} {out} {out'} {result} c a ends can = record {
    keeps = record { held = c.held; shelf_later = c.later; out_later = a.later; asked = (count, opens_so_far c) };
    causes = concluded rest end text out out' result c ends can a.gives;
  }

  -- the command came to its end
  pub came_to_an_end : {end : End} {text : List ℕ} {out out' : SinkState} {result : Result Verdict Stop} → Came command old new count left (Writes end text)
      → Concludes (streams command) end text out out' result → CanEnd command end → Obeys command old new out out' result
  came_to_an_end c a can = came_to_some_end c a (λ world. record { is = refl }) can

  -- memory was refused before the output
  pub came_short : {rest : ℕ → World → Outcome → Type 0} {out : SinkState} → Came command old new count left rest → Obeys command old new out out (Err NoMemory)
  came_short c = record {
    keeps = record { held = c.held; shelf_later = c.later; out_later = omega arith; asked = (count, opens_so_far c) };
    causes = inl refl;
  }

  -- the formula is small enough: the command came on
  pub came_sized : {A : Type 0} {how : Encoding} {task : Task} {next : ℕ → World → Outcome → Type 0} {made : A} → Came command old new count left (Sizes how task next) → TakesSize how task (Ok made)
      → Came command old new count left next
  came_sized c t = record {
    passed = c.passed;
    names = c.names;
    counted = c.counted;
    reached = λ files told u from e is. c.reached files told u from e (record { goes = inl (t.gives, is) });
    held = c.held;
    later = c.later;
    asked = c.asked;
  }

  -- it is too large, and nothing was written
  too_large : {how : Encoding} {task : Task} {next : ℕ → World → Outcome → Type 0} (out : SinkState) (size : Size) → Came command old new count left (Sizes how task next) → IsOver how task size → makes_formula command ≡ true
      → Obeys command old new out out (Err (TooLarge size))
  too_large out size c is can = came_to_some_end {text = []} c (record { later = omega arith; gives = (refl, Appends-nil out.written) }) (λ world. record { goes = inr (size, is, refl) }) can

  size_stopped : {how : Encoding} {task : Task} {next : ℕ → World → Outcome → Type 0} (out : SinkState) (stop : Stop) → Came command old new count left (Sizes how task next) → StopsOver how task stop → makes_formula command ≡ true
      → Obeys command old new out out (Err stop)
  size_stopped out (TooLarge size) c is can = too_large out size c is can
  size_stopped out NoMemory c is can = came_short c
  size_stopped out (Unread name) c is can = absurd is
  size_stopped out (Refused name why) c is can = absurd is
  size_stopped out Unwritten c is can = absurd is
  size_stopped out (Usage fault) c is can = absurd is

  pub came_to_a_size : {A : Type 0} {how : Encoding} {task : Task} {next : ℕ → World → Outcome → Type 0} {out : SinkState} {stop : Stop} (result : Result Verdict Stop) → Came command old new count left (Sizes how task next)
      → TakesSize {A = A} how task (Err stop) → IsErrAnd result (λ s. s ≡ stop) → makes_formula command ≡ true → Obeys command old new out out result
  came_to_a_size {out} {stop} result c t is can =
      let p = err_from_is_err_and result is in
      let e : result ≡ Err stop = p.1 ∙ ap Err p.2 in
      subst (Obeys command old new out out) (sym e) (size_stopped out stop c t.gives can)
