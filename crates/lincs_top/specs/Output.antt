-- What commands write, and how a course ends after the rows of a table.
use Rattle.std.specs.Prelude.{ℕ, List, [], ◌∷◌, Option, None, Some, Result, Ok, Err, length, codes, decimal}
use Rattle.std.specs.List.{concat}
use Rattle.sorting_rule.specs.Examples.{Example}
use Rattle.sorting_rule.specs.Model.{Model}
use Rattle.table_core.specs.declared.fault.RowFault.{RowFault}
use Rattle.report_core.specs.Restored.{restored_count}
use Rattle.lincs_top.specs.declared.stop.Verdict.TheVariants.{Done}
use Rattle.lincs_top.specs.declared.stop.Refusal.TheVariants as refusal
use Rattle.lincs_top.specs.End.{End, gave, refused}

-- the first refused row ends the course
abbrev pub end_of_rows : List ℕ → Option RowFault → End
end_of_rows name None = gave Done
end_of_rows name (Some fault) = refused name (refusal.Row fault)

-- how many examples a model restores, of how many
abbrev pub ratio_text : ℕ → ℕ → List ℕ
ratio_text part all = concat (decimal part ∷ codes "/" ∷ decimal all ∷ codes "\n" ∷ [])

abbrev pub accuracy_text : Model → List Example → List ℕ
accuracy_text model examples = ratio_text (restored_count model examples) (length examples)

-- a text is the output, or the first refused row ends the course with none
abbrev pub end_of_text : List ℕ → Result (List ℕ) RowFault → End
end_of_text name (Ok text) = gave Done
end_of_text name (Err fault) = refused name (refusal.Row fault)

abbrev pub text_or_none : Result (List ℕ) RowFault → List ℕ
text_or_none (Ok text) = text
text_or_none (Err fault) = []
