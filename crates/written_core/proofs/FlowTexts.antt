-- Rows, and flow lists item by item.
use Rattle.std.proofs.Common.{◌≡◌, ℕ, ◌+◌, ◌≤◌, false, if◌then◌else◌, List, [], ◌∷◌, ◌++◌, length, map, drop, codes, refl, sym, ap, ◌∙◌, arith, append_assoc}
use Rattle.std.specs.Prelude.{◌==◌, Bool, Result}
use Rattle.std.proofs.lemmas.Bool.Decides.{nat_tests}
use Rattle.std.proofs.lemmas.List.{drop_all}
use Rattle.lists_core.specs.Puts.{Puts}
use Rattle.lists_core.proofs.PutsFacts.{puts-then}
use Rattle.written_core.specs.Document.{Scalar, DocLine, scalar_text, more_text, flow_text, line_text, document_text}
use Rattle.written_core.specs.Parts.{comma, left_text}
use Rattle.written_core.proofs.PutLemmas.{puts-as}

-- the text of lines and of more lines
pub document_text-append : (ls ms : List DocLine) → document_text (ls ++ ms) ≡ document_text ls ++ document_text ms
document_text-append [] ms = refl
document_text-append (l ∷ ls) ms =
    ap (λ (t : List ℕ). line_text l ++ 10 ∷ t) (document_text-append ls ms) ∙ sym (append_assoc (line_text l) (10 ∷ document_text ls) (document_text ms))

-- behind an item there is a comma
comma-more : (i : ℕ) → codes ", " ≡ comma (i + 1)
comma-more i = let later : (i + 1 == 0) ≡ false = grind (arith, nat_tests) in ap (λ (b : Bool). if b then [] else codes ", ") (sym later)

more-left : (i : ℕ) (ss : List Scalar) → more_text ss ≡ left_text (i + 1) ss
more-left i [] = refl
more-left i (s ∷ ss) = ap (λ (t : List ℕ). t ++ (scalar_text s ++ more_text ss)) (comma-more i)

-- one item, and what is left behind it
pub item-left : (i : ℕ) (s : Scalar) (ss : List Scalar) → left_text i (s ∷ ss) ≡ (comma i ++ scalar_text s) ++ left_text (i + 1) ss
item-left i s ss =
    sym (append_assoc (comma i) (scalar_text s) (more_text ss)) ∙ ap (λ (t : List ℕ). (comma i ++ scalar_text s) ++ t) (more-left i ss)

module _ {X : Type 0} (scalar : X → Scalar) (xs : List X) (i : ℕ) where
  pub left-item : (x : X) → drop i xs ≡ x ∷ drop (i + 1) xs → left_text i (map scalar (drop i xs)) ≡ (comma i ++ scalar_text (scalar x)) ++ left_text (i + 1) (map scalar (drop (i + 1) xs))
  left-item x next = ap (λ (ys : List X). left_text i (map scalar ys)) next ∙ item-left i (scalar x) (map scalar (drop (i + 1) xs))

  pub left-end : length xs ≤ i → left_text i (map scalar (drop i xs)) ≡ codes "]"
  left-end past = ap (λ (ys : List X). left_text i (map scalar ys)) (drop_all i xs past)

-- a flow list behind its opening bracket
pub flow-left : (ss : List Scalar) → flow_text ss ≡ codes "[" ++ left_text 0 ss
flow-left [] = refl
flow-left (s ∷ ss) = refl

pub flow-put : {T E : Type 0} (old mid new : List ℕ) (ss : List Scalar) (r : Result T E) → mid ≡ old ++ codes "[" → Puts mid new r (left_text 0 ss) → Puts old new r (flow_text ss)
flow-put old mid new ss r opened rest =
    puts-as old new r (flow_text ss) (codes "[" ++ left_text 0 ss) (flow-left ss) (puts-then old mid (codes "[") opened new (left_text 0 ss) r rest)
