-- How far a list of bytes went out.
use Rattle.std.proofs.Common.{◌≡◌, ◌≢◌, ℕ, List, [], ◌++◌, Option, refl, sym, ap, ◌∙◌, subst, append_assoc, append-nil, length, take, drop, take-append-drop, ◌-◌, length-drop, arith}
use Rattle.std.proofs.lemmas.List.{take_all}
use Rattle.std.specs.Io.KnownBytes.{Appends, Keeps}
use Rattle.std.proofs.KnownBytes.{Appends-nil, Appends-trans, Appends-kept}
use Rattle.edge_core.specs.Outside.{AppendsPart}

-- of these bytes the rest is still to go out
pub record Sent (old new : Option (List ℕ)) (bytes rest : List ℕ) : Type 0 where
  pub front : List ℕ
  pub parts : bytes ≡ front ++ rest
  pub went : Appends old new front

-- nothing went out yet
pub sent_none : (old : Option (List ℕ)) (bytes : List ℕ) → Sent old old bytes bytes
sent_none old bytes = record { front = []; parts = refl; went = Appends-nil old }

-- the first bytes of the rest went out
pub sent_more : (old mid new : Option (List ℕ)) (bytes rest : List ℕ) (k : ℕ) → Sent old mid bytes rest → Appends mid new (take k rest) → Sent old new bytes (drop k rest)
sent_more old mid new bytes rest k s a = record {
  front = s.front ++ take k rest;
  parts = s.parts ∙ ap (λ l. s.front ++ l) (sym (take-append-drop k rest)) ∙ sym (append_assoc s.front (take k rest) (drop k rest));
  went = Appends-trans old mid new s.front (take k rest) s.went a;
}

-- the same, with the rest as the code has it: a range of a slice
pub sent_on : (old mid new : Option (List ℕ)) (bytes rest : List ℕ) (k m : ℕ) → m ≡ length rest - k → Sent old mid bytes rest → Appends mid new (take k rest) → Sent old new bytes (take m (drop k rest))
sent_on old mid new bytes rest k m e s a = subst (Sent old new bytes) (sym (ap (λ n. take n (drop k rest)) (e ∙ sym (length-drop k rest)) ∙ take_all (length (drop k rest)) (drop k rest) (omega arith))) (sent_more old mid new bytes rest k s a)

-- a write failed
pub sent_kept : (old mid new : Option (List ℕ)) (bytes rest : List ℕ) → Sent old mid bytes rest → Keeps mid new → Sent old new bytes rest
sent_kept old mid new bytes rest s k = record { front = s.front; parts = s.parts; went = Appends-kept old mid new s.front s.went k }

-- a part went out if something is left
pub sent_part : (old new : Option (List ℕ)) (bytes rest : List ℕ) → Sent old new bytes rest → rest ≢ [] → AppendsPart old new bytes
sent_part old new bytes rest s unsent = record { front = s.front; rest = rest; parts = s.parts; unsent = unsent; went = s.went }

-- all went out if nothing is left
pub sent_all : (old new : Option (List ℕ)) (bytes rest : List ℕ) → Sent old new bytes rest → rest ≡ [] → Appends old new bytes
sent_all old new bytes rest s e = subst (Appends old new) (sym (s.parts ∙ ap (λ l. s.front ++ l) e ∙ append-nil s.front)) s.went
