-- A step that reads more of what the file of an earlier step gave.
use Rattle.std.proofs.Common.{◌≡◌, ◌⊎◌, inl, inr, ℕ, List, Result, Ok, Err, refl, Some, ◌∙◌, ap}
use denote.Ref.{Bor}
use Rattle.lists_core.specs.Answers.{◌>>=◌}
use Rattle.edge_core.specs.Outside.{ShelfState}
use Rattle.problem_core.specs.Problem.{ProblemValue}
use Rattle.table_core.specs.Examples.{examples_left}
use Rattle.table_core.specs.Table.{TableState}
use Rattle.table_core.specs.declared.fault.RowFault.{RowFault}
use Rattle.table_core.specs.declared.fault.RowFault.TheVariants as row
use Rattle.lincs_top.specs.declared.stop.Refusal.TheVariants as refusal
use Rattle.lincs_top.specs.End.{End}
use Rattle.lincs_top.specs.FileGives.{refusing, table_in, examples_in, bytes_in}
use Rattle.lincs_top.specs.FileStep.{TakesStep}
use Rattle.lincs_top.specs.Refusal.{row_refusal}
use Rattle.lincs_top.specs.Stop.{stop_of}

-- a chain of two that gave a value goes on with it
goes_on_with : {A B C : Type 0} (read : Result A End) (step : A → Result B End) (next : B → Result C End) (value : B) → (read >>= step) ≡ Ok value → (read >>= λ a. step a >>= next) ≡ next value
goes_on_with (Ok a) step next value is = ap (λ r. r >>= next) is
goes_on_with (Err end) step next value is = absurd cc

-- a row of the table is refused, or memory ran out
module _ (problem : ProblemValue) (old new : ShelfState) (name : Bor (List ℕ)) (table : TableState) (opened : TakesStep old new (table_in problem) name.now (Ok table)) where
  refused_row : (fault : RowFault) → examples_left problem table ≡ Err fault → row_refusal fault ≡ Some (refusal.Row fault) → TakesStep old new (examples_in problem) name.now (Err (stop_of name (row_refusal fault)))
  refused_row fault refused is = rw is (record {
    opens = opened.opens;
    gives = (
      refl,
      λ files told. goes_on_with (bytes_in files name.now) (table_in problem name.now) (λ t. refusing name.now refusal.Row (examples_left problem t)) table (opened.gives files told)
          ∙ ap (refusing name.now refusal.Row) refused,
      λ long. absurd cc,
    );
  })

  pub examples_stop : (fault : RowFault) → (fault ≡ row.NoMemory) ⊎ (examples_left problem table ≡ Err fault) → TakesStep old new (examples_in problem) name.now (Err (stop_of name (row_refusal fault)))
  examples_stop row.NoMemory cause = record { opens = opened.opens; gives = tt }
  examples_stop (row.Length number) (inr refused) = refused_row (row.Length number) refused refl
  examples_stop (row.Grade number criterion why) (inr refused) = refused_row (row.Grade number criterion why) refused refl
  examples_stop (row.Category number) (inr refused) = refused_row (row.Category number) refused refl
  examples_stop (row.Length number) (inl none) = absurd cc
  examples_stop (row.Grade number criterion why) (inl none) = absurd cc
  examples_stop (row.Category number) (inl none) = absurd cc
