-- The rows that a table has left, gathered one after another.
use Rattle.std.proofs.Common.{◌≡◌, ◌⊎◌, inl, inr, ℕ, ◌+◌, ◌<◌, ◌++◌, Bool, true, false, if◌then◌else◌, List, [], length, drop, take, Option, Some, None, IfSome, Ok, Err, is_some, refl, sym, ap, ◌∙◌, subst, append_assoc, append-nil, take-append-drop, arith}
use Rattle.std.specs.List.{flat_map}
use Rattle.problem_core.specs.Problem.{ProblemValue}
use Rattle.sorting_rule.specs.Model.{Model}
use Rattle.table_core.specs.Advance.{Advances}
use Rattle.table_core.specs.Rows.{RowsRead, before, rows_left}
use Rattle.table_core.specs.Table.{TableState, next_row}
use Rattle.table_core.specs.declared.fault.RowFault.{RowFault}
use Rattle.table_core.specs.declared.fault.RowFault.TheVariants as row
use Rattle.table_core.specs.declared.row.Row.{Row}
use Rattle.table_core.proofs.RowsFacts.{rows_left-row, rows_left-end, rows_left-fault}
use Rattle.report_core.specs.Classified.{classified_record, rows_text}
use Rattle.report_core.specs.Prefix.{IsPrefix}
use Rattle.report_core.specs.Pieces.{TakesRows, TakesAll, Gathers}

-- a table went on to a row
pub record NextIs (problem : ProblemValue) (old new : TableState) (row : Row) : Type 0 where
  pub current : new.current ≡ Some row
  pub rows : rows_left problem old ≡ before (Ok row) (rows_left problem new)
  pub number : new.number ≡ old.number + 1
  pub less : length new.left < length old.left

-- what holds of an option's value
pub if_some : {A : Type 0} (P : A → Type 0) (o : Option A) (a : A) → IfSome o P → o ≡ Some a → P a
if_some {A} P o a h e = let Q : Option A → Type 0 = λ o. IfSome o P in subst Q e h

module _ (problem : ProblemValue) (old new : TableState) where
  next_at : (found : Bool) (current : Option Row) → new.current ≡ current → next_row problem old ≡ Ok current → found ≡ is_some current → found ≡ true → Advances problem old new (Ok found) → (row : Row) × NextIs problem old new row
  next_at found None c e f t a = absurd cc
  next_at found (Some row) c e f t a =
      let number : new.number ≡ old.number + 1 = a.number ∙ ap (λ (o : Option Row). if is_some o then old.number + 1 else old.number) c in
      let total = a.total in
      (row, record { current = c; rows = rows_left-row problem old new row e a.header number a.left a.fine; number = number; less = omega (arith, total, number) })

  -- a row was found
  pub next_is : (found : Bool) → next_row problem old ≡ Ok new.current → found ≡ is_some new.current → found ≡ true → Advances problem old new (Ok found) → (row : Row) × NextIs problem old new row
  next_is found e f t a = next_at found new.current refl e f t a

  ends_at : (found : Bool) (current : Option Row) → new.current ≡ current → next_row problem old ≡ Ok current → found ≡ is_some current → found ≡ false → Advances problem old new (Ok found) → (rows_left problem old ≡ ([], None)) × (new.number ≡ old.number)
  ends_at found (Some row) c e f t a = absurd cc
  ends_at found None c e f t a = (rows_left-end problem old e, a.number ∙ ap (λ (o : Option Row). if is_some o then old.number + 1 else old.number) c)

  -- no row was left
  pub next_ends : (found : Bool) → next_row problem old ≡ Ok new.current → found ≡ is_some new.current → found ≡ false → Advances problem old new (Ok found) → (rows_left problem old ≡ ([], None)) × (new.number ≡ old.number)
  next_ends found e f t a = ends_at found new.current refl e f t a

-- no row was taken yet
pub takes_none : (problem : ProblemValue) (model : Model) (table : TableState) (piece : List ℕ) → piece ≡ [] → TakesRows problem model table table piece
takes_none problem model table piece none = record { text = ap (λ l. l ++ rows_text problem model table) (sym none); end = refl; count = refl }

module _ (problem : ProblemValue) (model : Model) (old now : TableState) (piece : List ℕ) (takes : TakesRows problem model old now piece) where
  -- the record of one more row
  pub takes_row : (next : TableState) (row : Row) (piece' : List ℕ) → NextIs problem now next row → piece' ≡ piece ++ classified_record problem model row → TakesRows problem model old next piece'
  takes_row next row piece' is put =
      let one = classified_record problem model row in
      let count = takes.count in
      let rows = ap (λ (r : RowsRead). length r.0) is.rows in
      let number = is.number in
      record {
        text = takes.text ∙ ap (λ (r : RowsRead). piece ++ flat_map (classified_record problem model) r.0) is.rows ∙ sym (append_assoc piece one (rows_text problem model next)) ∙ ap (λ l. l ++ rows_text problem model next) (sym put);
        end = takes.end ∙ ap (λ (r : RowsRead). r.1) is.rows;
        count = omega (arith, count, rows, number);
      }

  -- a part of the record of one more row
  pub cut_row : (next : TableState) (row : Row) (piece' : List ℕ) → NextIs problem now next row → (k : ℕ) × (piece' ≡ piece ++ take k (classified_record problem model row)) → IsPrefix piece' (rows_text problem model old)
  cut_row next row piece' is (k, put) =
      let one = classified_record problem model row in
      let others = rows_text problem model next in (
        drop k one ++ others,
        takes.text ∙ ap (λ (r : RowsRead). piece ++ flat_map (classified_record problem model) r.0) is.rows
            ∙ ap (λ l. piece ++ (l ++ others)) (sym (take-append-drop k one))
            ∙ ap (λ l. piece ++ l) (append_assoc (take k one) (drop k one) others)
            ∙ sym (append_assoc piece (take k one) (drop k one ++ others))
            ∙ ap (λ l. l ++ (drop k one ++ others)) (sym put),
      )

  -- no row is left
  pub takes_all : (next : TableState) → (rows_left problem now ≡ ([], None)) × (next.number ≡ now.number) → (piece ≡ rows_text problem model old) × TakesAll problem old next
  takes_all next (none, number) =
      let count = takes.count in
      let rows = ap (λ (r : RowsRead). length r.0) none in (
        sym (takes.text ∙ ap (λ (r : RowsRead). piece ++ flat_map (classified_record problem model) r.0) none ∙ append-nil piece),
        record { fine = takes.end ∙ ap (λ (r : RowsRead). r.1) none; count = omega (arith, count, rows, number) },
      )

  -- the next row is refused, or memory ran out
  pub refused : (next : TableState) (why : RowFault) → (why ≡ row.NoMemory) ⊎ (next_row problem now ≡ Err why) → Gathers problem model old next piece (Err why)
  refused next why (inl none) = ((rows_text problem model now, takes.text), λ other. absurd (other none))
  refused next why (inr e) =
      let last = rows_left-fault problem now why e in (
        (rows_text problem model now, takes.text),
        λ other.
            (sym (takes.text ∙ ap (λ (r : RowsRead). piece ++ flat_map (classified_record problem model) r.0) last ∙ append-nil piece), takes.end ∙ ap (λ (r : RowsRead). r.1) last),
      )
