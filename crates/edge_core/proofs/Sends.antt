-- A part of one of two texts that go out one after the other.
use Rattle.std.proofs.Common.{◌≢◌, ℕ, List, [], ◌∷◌, ◌++◌, Option, refl, sym, ap, ◌∙◌, append_assoc}
use Rattle.std.specs.Io.KnownBytes.{Appends}
use Rattle.std.proofs.KnownBytes.{Appends-trans}
use Rattle.edge_core.specs.Outside.{AppendsPart}

-- a longer list is no more empty
longer : (a b : List ℕ) → a ≢ [] → a ++ b ≢ []
longer [] b some e = absurd (some refl)
longer (x ∷ a) b some e = cc

-- a part of the first text is a part of both
pub part_front : (old new : Option (List ℕ)) (a b : List ℕ) → AppendsPart old new a → AppendsPart old new (a ++ b)
part_front old new a b p = record {
  front = p.front;
  rest = p.rest ++ b;
  parts = ap (λ l. l ++ b) p.parts ∙ append_assoc p.front p.rest b;
  unsent = longer p.rest b p.unsent;
  went = p.went;
}

-- the first text and a part of the second are a part of both
pub part_on : (old mid new : Option (List ℕ)) (a b : List ℕ) → Appends old mid a → AppendsPart mid new b → AppendsPart old new (a ++ b)
part_on old mid new a b w p = record {
  front = a ++ p.front;
  rest = p.rest;
  parts = ap (λ l. a ++ l) p.parts ∙ sym (append_assoc a p.front p.rest);
  unsent = p.unsent;
  went = Appends-trans old mid new a p.front w p.went;
}
