-- What the status of a run says, from the course that its command came along.
use Rattle.std.proofs.Common.{◌≡◌, ◌+◌, inl, inr, ℕ, Bool, true, false, List, Option, None, Some, Result, Ok, Err, refl, sym, ap, ◌∙◌, subst, length}
use Rattle.std.specs.Prelude.{⊤, nat_lt, if◌then◌else◌}
use Rattle.std.specs.Io.KnownBytes.{Appends}
use Rattle.literals_core.specs.declared.encoding.Encoding.{Encoding}
use Rattle.edge_core.specs.Outside.{Files, ShelfState, SinkState, bytes_of}
use Rattle.lists_core.specs.Answers.{◌>>=◌}
use Rattle.encoding_rules.specs.Encodings.{formula_of}
use Rattle.encoding_rules.specs.Task.{Task}
use Rattle.ranks_core.specs.Ranks.{task_of}
use Rattle.problem_core.specs.Problem.{ProblemValue}
use Rattle.problem_core.specs.ReadProblem.{problem_of}
use Rattle.model_core.specs.ReadModel.{model_of}
use Rattle.chain_core.specs.Reading.{log_of}
use Rattle.yaml_core.specs.Read.{reading}
use Rattle.table_core.specs.Examples.{examples_left}
use Rattle.table_core.specs.Table.{opening}
use Rattle.table_core.specs.Rows.{rows_left}
use Rattle.table_core.specs.declared.fault.RowFault.{RowFault}
use Rattle.line_core.specs.Command.{Command, classifying, learning, checking}
use Rattle.line_core.specs.declared.fault.LineFault.{LineFault}
use Rattle.lincs_top.specs.declared.status.Status.{Status}
use Rattle.lincs_top.specs.declared.status.Status.TheVariants as status
use Rattle.lincs_top.specs.declared.stop.Verdict.{Verdict}
use Rattle.lincs_top.specs.declared.stop.Verdict.TheVariants as verdict
use Rattle.lincs_top.specs.declared.stop.Refusal.{Refusal}
use Rattle.lincs_top.specs.declared.stop.Refusal.TheVariants as refusal
use Rattle.lincs_top.specs.End.{End, gave, unread, refused, over, Outcome}
use Rattle.lincs_top.specs.FileGives.{FileStep, refusing, tree_in, problem_in, model_in, table_in, examples_in, log_in, most_bytes, bytes_in, given}
use Rattle.lincs_top.specs.Course.{World, readable, Goes, Reads, Sizes, course, Ends}
use Rattle.lincs_top.specs.Judged.{Judged}
use Rattle.lincs_top.specs.Learned.{Learned}
use Rattle.lincs_top.specs.Output.{end_of_rows}
use Rattle.lincs_top.specs.Report.{at_end, status_of_report}
use Rattle.lincs_top.specs.Run.{CourseEnds}
use Rattle.lincs_top.specs.Obeys.{CanEnd, EndsSo}
use Rattle.lincs_top.specs.Headline.{SortsFiles, LearnsFrom, RefutesFiles, Sorts, FindsModel, WritesRefutation, WritesLemmas, Accepts}

-- ---- a step that ends the course gives no verdict

abbrev IsNoVerdict : {A : Type 0} → Result A End → Type 0
IsNoVerdict (Ok value) = ⊤
IsNoVerdict (Err (gave verdict)) = ⊥
IsNoVerdict (Err (unread name)) = ⊤
IsNoVerdict (Err (refused name refusal)) = ⊤
IsNoVerdict (Err (over size)) = ⊤

refusing_none : {A F : Type 0} (name : List ℕ) (cause : F → Refusal) (read : Result A F) → IsNoVerdict (refusing name cause read)
refusing_none name cause (Ok value) = tt
refusing_none name cause (Err fault) = tt

then_none : {A B : Type 0} (read : Result A End) (next : A → Result B End) → IsNoVerdict read → ((value : A) → IsNoVerdict (next value)) → IsNoVerdict (read >>= next)
then_none (Ok value) next first more = more value
then_none (Err (gave verdict)) next first more = absurd first
then_none (Err (unread name)) next first more = tt
then_none (Err (refused name refusal)) next first more = tt
then_none (Err (over size)) next first more = tt

abbrev IsReader : {A : Type 0} → FileStep A → Type 0
IsReader step = (name bytes : List ℕ) → IsNoVerdict (step name bytes)

problem_reader : IsReader problem_in
problem_reader name bytes =
    then_none (tree_in name bytes) (λ node. refusing name refusal.Problem (problem_of node)) (refusing_none name refusal.Yaml (reading bytes))
    (λ node. refusing_none name refusal.Problem (problem_of node))

model_reader : (problem : ProblemValue) → IsReader (model_in problem)
model_reader problem name bytes =
    then_none (tree_in name bytes) (λ node. refusing name refusal.Model (model_of problem node)) (refusing_none name refusal.Yaml (reading bytes))
    (λ node. refusing_none name refusal.Model (model_of problem node))

table_reader : (problem : ProblemValue) → IsReader (table_in problem)
table_reader problem name bytes = refusing_none name refusal.Table (opening problem bytes)

examples_reader : (problem : ProblemValue) → IsReader (examples_in problem)
examples_reader problem name bytes =
    then_none (table_in problem name bytes) (λ table. refusing name refusal.Row (examples_left problem table)) (table_reader problem name bytes)
    (λ table. refusing_none name refusal.Row (examples_left problem table))

log_reader : IsReader log_in
log_reader name bytes = refusing_none name refusal.Log (log_of bytes)

given_none : {A : Type 0} (step : FileStep A) → IsReader step → (files : Files) (name : List ℕ) → IsNoVerdict (given step files name)
given_none step reader files name = then_none (bytes_in files name) (step name) (by_test (nat_lt most_bytes (length (bytes_of files name)))) (λ bytes. reader name bytes)
  where
    by_test : (t : Bool) → IsNoVerdict (if t then Err (refused name refusal.TooLong) else Ok (bytes_of files name))
    by_test true = tt
    by_test false = tt

-- ---- along a course that gives a verdict

-- a file passed its step, and the course goes on
pub record Passed {A : Type 0} (step : FileStep A) (files : Files) (name : List ℕ) (next : A → Outcome → Type 0) (outcome : Outcome) : Type 0 where
  pub value : A
  pub file : given step files name ≡ Ok value
  pub goes : next value outcome

module _ {A : Type 0} (opened : ℕ) (next : A → ℕ → World → Outcome → Type 0) (world : World) (outcome : Outcome) (given_verdict : Verdict) (step : FileStep A) (files : Files) (name : List ℕ) where
  goes_with : (read : Result A End) → read ≡ given step files name → IsNoVerdict read → Goes opened read next world outcome → outcome.end ≡ gave given_verdict → Passed step files name (λ value. next value opened world) outcome
  goes_with (Ok value) same none goes ends = record { value = value; file = sym same; goes = goes }
  goes_with (Err (gave verdict)) same none goes ends = absurd none
  goes_with (Err (unread other)) same none goes ends = let at : outcome.end ≡ unread other = ap (λ o. o.end) goes in absurd cc
  goes_with (Err (refused other refusal)) same none goes ends = let at : outcome.end ≡ refused other refusal = ap (λ o. o.end) goes in absurd cc
  goes_with (Err (over size)) same none goes ends = let at : outcome.end ≡ over size = ap (λ o. o.end) goes in absurd cc

passed : {A : Type 0} {opened : ℕ} {next : A → ℕ → World → Outcome → Type 0} {files : Files} {outcome : Outcome} {given_verdict : Verdict} (step : FileStep A) (name : List ℕ) → IsReader step
    → Reads step name next opened (readable files) outcome → outcome.end ≡ gave given_verdict → Passed step files name (λ value. next value (opened + 1) (readable files)) outcome
passed {opened = opened} {next = next} {files = files} {outcome = outcome} {given_verdict = v} step name reader reads ends = goes_with (opened + 1) next (readable files) outcome v step files name (given step files name) refl (given_none step reader files name) reads.goes ends

sized : {how : Encoding} {task : Task} {opened : ℕ} {next : ℕ → World → Outcome → Type 0} {world : World} {outcome : Outcome} {given_verdict : Verdict} → Sizes how task next opened world outcome → outcome.end ≡ gave given_verdict → next opened world outcome
sized {outcome = outcome} sizes ends = elim sizes.goes [
  | inl fits ↦ fits.1
  | inr large ↦ (let at : outcome.end ≡ over large.0 = ap (λ o. o.end) large.2 in absurd cc)
]

-- ---- the commands

learned_at : {problem_name table_name : List ℕ} {how : Encoding} {most : ℕ} (files : Files) (outcome : Outcome) (v : Verdict) (out out' : SinkState) → Ends (learning problem_name table_name how most) (readable files) outcome → outcome.end ≡ gave v → Appends out.written out'.written outcome.output
    → LearnsFrom files problem_name table_name out out' (λ problem examples. Learned problem examples how most v)
learned_at {problem_name} {table_name} {how} {most} files outcome v out out' ends is wrote =
    let first = passed problem_in problem_name problem_reader ends is in
    let second = passed (examples_in first.value) table_name (examples_reader first.value) first.goes is in
    let last = sized second.goes is in
    let at : last.verdict ≡ v = same_verdict (sym (ap (λ o. o.end) last.is) ∙ is) in
    record {
      problem = first.value;
      examples = second.value;
      text = outcome.output;
      problem_file = first.file;
      table_file = second.file;
      wrote = wrote;
      says = subst (λ (t : List ℕ). Learned first.value second.value how most v t) (sym (ap (λ o. o.output) last.is)) (subst (λ w. Learned first.value second.value how most w last.text) at last.learned);
    }
  where
    same_verdict : {a b : Verdict} → gave a ≡ gave b → a ≡ b
    same_verdict e = cc

sorted_at : {problem_name model_name table_name : List ℕ} (files : Files) (outcome : Outcome) (out out' : SinkState) → Ends (classifying problem_name model_name table_name) (readable files) outcome → outcome.end ≡ gave verdict.Done → Appends out.written out'.written outcome.output
    → SortsFiles files problem_name model_name table_name out out'
sorted_at {problem_name} {model_name} {table_name} files outcome out out' ends is wrote =
    let first = passed problem_in problem_name problem_reader ends is in
    let second = passed (model_in first.value) model_name (model_reader first.value) first.goes is in
    let third = passed (table_in first.value) table_name (table_reader first.value) second.goes is in
    let last = third.goes in
    record {
      problem = first.value;
      model = second.value;
      table = third.value;
      problem_file = first.file;
      model_file = second.file;
      table_file = third.file;
      all_rows = no_fault table_name (rows_left first.value third.value).1 (sym (ap (λ o. o.end) last.is) ∙ is);
      wrote = subst (λ (t : List ℕ). Appends out.written out'.written t) (ap (λ o. o.output) last.is) wrote;
    }
  where
    no_fault : (name : List ℕ) (fault : Option RowFault) → end_of_rows name fault ≡ gave verdict.Done → fault ≡ None
    no_fault name None e = refl
    no_fault name (Some fault) e = absurd cc

accepted_at : {problem_name table_name refutation_name : List ℕ} (files : Files) (outcome : Outcome) → Ends (checking problem_name table_name refutation_name) (readable files) outcome → outcome.end ≡ gave verdict.Done
    → RefutesFiles files problem_name table_name refutation_name
accepted_at {problem_name} {table_name} {refutation_name} files outcome ends is =
    let first = passed problem_in problem_name problem_reader ends is in
    let second = passed (examples_in first.value) table_name (examples_reader first.value) first.goes is in
    let third = passed log_in refutation_name log_reader second.goes is in
    let last = sized third.goes is in
    let at : last.verdict ≡ verdict.Done = same_verdict (sym (ap (λ o. o.end) last.is) ∙ is) in
    record {
      problem = first.value;
      examples = second.value;
      how = third.value.0;
      log = third.value.1;
      problem_file = first.file;
      table_file = second.file;
      refutation_file = third.file;
      refutes = subst (λ w. Judged (formula_of third.value.0 (task_of first.value second.value)) third.value.1 w) at last.judged;
      no_model = last.means at;
    }
  where
    same_verdict : {a b : Verdict} → gave a ≡ gave b → a ≡ b
    same_verdict e = cc

-- ---- the end of a status

done_end : (end : End) → status_of_report (at_end end) ≡ status.Done → end ≡ gave verdict.Done
done_end (gave verdict.Done) e = refl
done_end (gave verdict.No) e = absurd cc
done_end (gave (verdict.Rejected code line)) e = absurd cc
done_end (gave (verdict.Limit most)) e = absurd cc
done_end (unread name) e = absurd cc
done_end (refused name why) e = absurd cc
done_end (over size) e = absurd cc

-- `learn` rejects nothing
no_end : (problem table : List ℕ) (how : Encoding) (most : ℕ) (end : End) → status_of_report (at_end end) ≡ status.No → CanEnd (learning problem table how most) end → end ≡ gave verdict.No
no_end problem table how most (gave verdict.No) e can = refl
no_end problem table how most (gave verdict.Done) e can = absurd cc
no_end problem table how most (gave (verdict.Rejected code line)) e (inl is_done) = absurd cc
no_end problem table how most (gave (verdict.Rejected code line)) e (inr (inl is_no)) = absurd cc
no_end problem table how most (gave (verdict.Rejected code line)) e (inr (inr is_limit)) = absurd cc
no_end problem table how most (gave (verdict.Limit number)) e can = absurd cc
no_end problem table how most (unread name) e can = absurd cc
no_end problem table how most (refused name why) e can = absurd cc
no_end problem table how most (over size) e can = absurd cc

limit_end : (end : End) → status_of_report (at_end end) ≡ status.Limit → (number : ℕ) × (end ≡ gave (verdict.Limit number))
limit_end (gave (verdict.Limit number)) e = (number, refl)
limit_end (gave verdict.Done) e = absurd cc
limit_end (gave verdict.No) e = absurd cc
limit_end (gave (verdict.Rejected code line)) e = absurd cc
limit_end (unread name) e = absurd cc
limit_end (refused name why) e = absurd cc
limit_end (over size) e = absurd cc

-- ---- the clauses of a run

same_command : {asked : Result Command LineFault} {a b : Command} → asked ≡ Ok a → asked ≡ Ok b → a ≡ b
same_command is other = let e = sym is ∙ other in cc

module _ (asked : Result Command LineFault) (shelf shelf' : ShelfState) (out out' : SinkState) where
  -- over told files, an outcome of the course of the line's command
  ended : {s : Status} (c : CourseEnds asked shelf shelf' out out' s) (command : Command) → asked ≡ Ok command → EndsSo command shelf shelf' out out' c.end
  ended c command is = subst (λ d. EndsSo d shelf shelf' out out' c.end) (same_command c.is is) c.ended

  pub sorts : CourseEnds asked shelf shelf' out out' status.Done → Sorts asked shelf out out'
  sorts c = λ problem model table is files held.
      let some = ended c (classifying problem model table) is files held in
      sorted_at files some.0 out out' some.1 (some.2.0 ∙ done_end c.end c.named) some.2.1

  pub finds_model : CourseEnds asked shelf shelf' out out' status.Done → FindsModel asked shelf out out'
  finds_model c = λ problem table how most is files held.
      let some = ended c (learning problem table how most) is files held in
      learned_at files some.0 verdict.Done out out' some.1 (some.2.0 ∙ done_end c.end c.named) some.2.1

  pub writes_refutation : CourseEnds asked shelf shelf' out out' status.No → WritesRefutation asked shelf out out'
  writes_refutation c = λ problem table how most is files held.
      let some = ended c (learning problem table how most) is files held in
      let can : CanEnd (learning problem table how most) c.end = subst (λ d. CanEnd d c.end) (same_command c.is is) c.can in
      learned_at files some.0 verdict.No out out' some.1 (some.2.0 ∙ no_end problem table how most c.end c.named can) some.2.1

  pub writes_lemmas : CourseEnds asked shelf shelf' out out' status.Limit → WritesLemmas asked shelf out out'
  writes_lemmas c = λ problem table how most is files held.
      let some = ended c (learning problem table how most) is files held in
      let limit = limit_end c.end c.named in
      let l = learned_at files some.0 (verdict.Limit limit.0) out out' some.1 (some.2.0 ∙ limit.1) some.2.1 in
      record {
        problem = l.problem;
        examples = l.examples;
        text = l.text;
        problem_file = l.problem_file;
        table_file = l.table_file;
        wrote = l.wrote;
        says = l.says.1;
      }

  pub accepts : CourseEnds asked shelf shelf' out out' status.Done → Accepts asked shelf
  accepts c = λ problem table refutation is files held.
      let some = ended c (checking problem table refutation) is files held in
      accepted_at files some.0 some.1 (some.2.0 ∙ done_end c.end c.named)
