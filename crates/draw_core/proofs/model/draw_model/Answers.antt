use Rattle.std.proofs.Common.{ℕ, List, length, ap, sym, subst, ◌∙◌}
use Rattle.std.specs.Prelude.{replicate}
use Rattle.model_core.specs.Model.{boundaries_of, Belongs}
use Rattle.model_core.specs.declared.model.Coalitions.TheVariants.{Weights}
use Rattle.encoding_rules.specs.Each.{listed}
use Rattle.encoding_rules.proofs.EachFacts.{length-listed}
use Rattle.draw_core.specs.DrawnModel.{drawn_model, drawn_profile, drawn_weights}
use Rattle.draw_core.specs.Words.{seeded, word, words_of}
use Rattle.draw_core.proofs.ModelFacts.{made-belongs, model-count, model-made}
use Rattle.draw_core.proofs.model.draw_model.Goals as goal

pub drawn_profiles-requires : goal.drawn_profiles-requires
drawn_profiles-requires c =
    let count = model-count c.args.problem.now c.criteria_count-n.result c.categories_count-boundaries.result c.criteria_count-n.ensures.count c.categories_count-boundaries.ensures.count in
    record { words = ap length c.as_slice.ensures.value ∙ ap length c.in_ok-words.ensures ∙ length-listed (word (seeded c.args.seed)) _ ∙ count }

pub drawn_coalitions-requires : goal.drawn_coalitions-requires
drawn_coalitions-requires c =
    let count = model-count c.args.problem.now c.criteria_count-n.result c.categories_count-boundaries.result c.criteria_count-n.ensures.count c.categories_count-boundaries.ensures.count in
    record { words = ap length c.as_slice-2.ensures.value ∙ ap length c.in_ok-words.ensures ∙ length-listed (word (seeded c.args.seed)) _ ∙ count }

pub new-requires : goal.new-requires
new-requires c =
    let problem = c.args.problem.now in
    let profiles = c.in_ok-profiles.ensures.profiles ∙ ap (λ w. listed (drawn_profile problem w) (length problem.criteria)) c.as_slice.ensures.value in
    let coalitions = c.in_ok-coalitions.ensures ∙ ap (λ w. replicate (boundaries_of problem) (Weights (drawn_weights problem w))) c.as_slice-2.ensures.value in
    made-belongs problem c.in_ok-words.words.items c.in_ok-profiles.profiles.items c.in_ok-coalitions.coalitions.items c.criteria_count-n.ensures.facts profiles coalitions c.in_ok-profiles.ensures.grades

pub returns-clause-drawn : goal.returns-clause-drawn
returns-clause-drawn c =
    let problem = c.args.problem.now in
    let drawn : List ℕ = c.in_ok-words.words.items in
    let count = model-count problem c.criteria_count-n.result c.categories_count-boundaries.result c.criteria_count-n.ensures.count c.categories_count-boundaries.ensures.count in
    let profiles = c.in_ok-profiles.ensures.profiles ∙ ap (λ w. listed (drawn_profile problem w) (length problem.criteria)) c.as_slice.ensures.value in
    let coalitions = c.in_ok-coalitions.ensures ∙ ap (λ w. replicate (boundaries_of problem) (Weights (drawn_weights problem w))) c.as_slice-2.ensures.value in
    c.new.ensures ∙ model-made problem drawn c.in_ok-profiles.profiles.items c.in_ok-coalitions.coalitions.items profiles coalitions
    ∙ ap (drawn_model problem) (c.in_ok-words.ensures ∙ ap (words_of (seeded c.args.seed)) count)

pub returns-clause-belongs : goal.returns-clause-belongs
returns-clause-belongs c =
    let problem = c.args.problem.now in
    let profiles = c.in_ok-profiles.ensures.profiles ∙ ap (λ w. listed (drawn_profile problem w) (length problem.criteria)) c.as_slice.ensures.value in
    let coalitions = c.in_ok-coalitions.ensures ∙ ap (λ w. replicate (boundaries_of problem) (Weights (drawn_weights problem w))) c.as_slice-2.ensures.value in
    subst (Belongs problem) (sym c.new.ensures)
    (made-belongs problem c.in_ok-words.words.items c.in_ok-profiles.profiles.items c.in_ok-coalitions.coalitions.items c.criteria_count-n.ensures.facts profiles coalitions c.in_ok-profiles.ensures.grades)
