-- Worked values of the definitions.
use Rattle.std.proofs.Common.{◌≡◌, ℕ, List, [], ◌∷◌, Some, refl, Bor}
use Rattle.edge_core.specs.Names.{no_names, names_after}
use Rattle.edge_core.specs.declared.name_note.Event.TheVariants.{Opened, NotOpened, NotRead}
use Rattle.edge_core.specs.Outside.{one_more}

pub count_rises : one_more 4 ≡ 5
count_rises = refl

pub count_stays : one_more 18446744073709551615 ≡ 18446744073709551615
count_stays = refl

-- a file that was opened and could not be read is the one that was missed
pub opened_file_is_missed : (a : Bor (List ℕ)) → (names_after (names_after no_names (Opened a)) NotRead).missed ≡ Some a.now
opened_file_is_missed a = refl

pub names_are_in_order : (a b : Bor (List ℕ)) → (names_after (names_after no_names (Opened a)) (NotOpened b)).asked ≡ a.now ∷ b.now ∷ []
names_are_in_order a b = refl
