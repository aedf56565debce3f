-- The text of a problem part by part, as code appends it.
use Rattle.std.specs.Prelude.{ℕ, List, [], ◌++◌, map, codes}
use Rattle.std.specs.List.{flat_map}
use Rattle.fixed_core.specs.Spelling.{spelling}
use Rattle.yaml_tokens.specs.Written.{quoted_text}
use Rattle.written_core.specs.Document.{Text, flow_text}
use Rattle.written_core.specs.Parts.{row}
use Rattle.problem_core.specs.Problem.{ProblemValue}
use Rattle.problem_core.specs.declared.criterion.Bounds.{Bounds}
use Rattle.problem_core.specs.declared.criterion.Criterion.{Criterion}
use Rattle.problem_core.specs.declared.criterion.Scale.{Scale}
use Rattle.problem_core.specs.declared.criterion.Scale.TheVariants.{Rising, Falling, Named}
use Rattle.problem_text_core.specs.ProblemText.{type_word}

-- a row with a key, with what is around it, and a value
abbrev pub key_row : List ℕ → List ℕ → List ℕ
key_row key value = key ++ row value []

-- ---- scales

-- the rows of the bounds
abbrev pub bounds_text : Bounds → List ℕ
bounds_text bounds =
    key_row (codes "    min_value: ") (spelling bounds.least)
    ++ key_row (codes "    max_value: ") (spelling bounds.most)

-- the rows of a scale of numbers
abbrev pub numbers_text : List ℕ → Bounds → List ℕ
numbers_text direction bounds =
    key_row (codes "    value_type: ") (type_word bounds.whole)
    ++ (key_row (codes "    preference_direction: ") direction ++ bounds_text bounds)

-- the names of a scale
abbrev pub flow_names : List (List ℕ) → List ℕ
flow_names names = flow_text (map Text names)

-- the rows of a scale of names
abbrev pub names_text : List (List ℕ) → List ℕ
names_text names = row (codes "    value_type: enumerated") (key_row (codes "    ordered_values: ") (flow_names names))

abbrev pub scale_text : Scale → List ℕ
scale_text (Rising bounds) = numbers_text (codes "increasing") bounds
scale_text (Falling bounds) = numbers_text (codes "decreasing") bounds
scale_text (Named names) = names_text names

-- ---- criteria and categories

-- the row that begins a criterion or a category
abbrev pub name_row : List ℕ → List ℕ
name_row name = key_row (codes "  - name: ") (quoted_text name)

abbrev pub criterion_text : Criterion → List ℕ
criterion_text criterion = name_row criterion.name ++ scale_text criterion.scale

abbrev pub criteria_text : List Criterion → List ℕ
criteria_text criteria = flat_map criterion_text criteria

abbrev pub categories_text : List (List ℕ) → List ℕ
categories_text names = flat_map name_row names

-- ---- the whole

abbrev pub head_text : List ℕ
head_text = row (codes "kind: classification-problem") (row (codes "format_version: 1") (row (codes "criteria:") []))

abbrev pub text_by_parts : ProblemValue → List ℕ
text_by_parts problem =
    head_text ++ (criteria_text problem.criteria
    ++ (row (codes "ordered_categories:") [] ++ categories_text problem.categories))
