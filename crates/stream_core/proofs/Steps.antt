-- How a text goes on: nothing yet, a text behind another, and a text that was cut short.
use Rattle.std.proofs.Common.{◌≡◌, ℕ, ◌+◌, ◌<◌, ◌≤◌, List, [], ◌∷◌, ◌++◌, Option, length, get_or, take, drop, refl, sym, ap, ◌∙◌, subst, append_assoc, append-nil, arith}
use Rattle.std.specs.Prelude.{Result, Ok, Err, IsErr, OnOk}
use Rattle.std.specs.List.{flat_map}
use Rattle.std.proofs.lemmas.List.{take_all, take_more, drop_more, take-append-drop}
use Rattle.std.proofs.lemmas.List.Concat.{flat_map-append}
use Rattle.std.specs.Io.KnownBytes.{Appends}
use Rattle.std.proofs.KnownBytes.{Appends-nil, Appends-trans}
use Rattle.edge_core.specs.Outside.{SinkState, AppendsPart, Sends}
use Rattle.edge_core.proofs.Sends.{part_front, part_on}
use Rattle.stream_core.specs.Stream.{GoesOn, Streams}

-- all went well so far
abbrev pub Along : SinkState → SinkState → List ℕ → List ℕ → List ℕ → Type 0
Along old new before after text = Streams {T = ℕ} {E = ℕ} old new before after text (Ok 0)

-- nothing was put
goes_none : (old : Option (List ℕ)) (held : List ℕ) → GoesOn old old (held ++ []) held
goes_none old held = record { front = []; parts = append-nil held; went = Appends-nil old }

pub stays : {T E : Type 0} (state : SinkState) (held : List ℕ) (v : T) → Streams {T = T} {E = E} state state held held [] (Ok v)
stays state held v = record { whole = goes_none state.written held; part = tt; cause = record { later = omega arith; failed = tt } }

-- the same text by another term
pub same_text : {T E : Type 0} {old new : SinkState} {before after a b : List ℕ} {r : Result T E} → a ≡ b → Streams old new before after b r → Streams old new before after a r
same_text {old} {new} {before} {after} {r} is step = subst (λ t. Streams old new before after t r) (sym is) step

-- what was held was sent
pub emptied : {T E : Type 0} (old new : SinkState) (held after : List ℕ) (r : Result T E) → Sends old new held r → OnOk r (after ≡ []) → Streams old new held after [] r
emptied old new held after (Ok v) sent none = record {
  whole = record { front = held; parts = ap (λ t. held ++ t) (sym none); went = sent.whole };
  part = tt;
  cause = sent.cause;
}
emptied old new held after (Err e) sent none = record {
  whole = tt;
  part = subst (AppendsPart old.written new.written) (sym (append-nil held)) sent.part;
  cause = sent.cause;
}

-- a text and another behind it
apart : (before mid front rest a b : List ℕ) → before ++ a ≡ front ++ mid → mid ++ b ≡ rest → before ++ (a ++ b) ≡ front ++ rest
apart before mid front rest a b first second =
    sym (append_assoc before a b) ∙ ap (λ t. t ++ b) first ∙ append_assoc front mid b ∙ ap (λ t. front ++ t) second

pub in_turn : {S F T E : Type 0} {old mid new : SinkState} {before middle after a b : List ℕ} {v : S} {r : Result T E}
    → Streams {T = S} {E = F} old mid before middle a (Ok v) → Streams mid new middle after b r → Streams old new before after (a ++ b) r
in_turn {old} {mid} {new} {before} {middle} {after} {a} {b} {r = Ok w} first second = record {
  whole = record {
    front = first.whole.front ++ second.whole.front;
    parts = apart before middle first.whole.front (second.whole.front ++ after) a b first.whole.parts second.whole.parts ∙ sym (append_assoc first.whole.front second.whole.front after);
    went = Appends-trans old.written mid.written new.written first.whole.front second.whole.front first.whole.went second.whole.went;
  };
  part = tt;
  cause = record { later = omega (arith, first.cause.later, second.cause.later); failed = tt };
}
in_turn {old} {mid} {new} {before} {middle} {after} {a} {b} {r = Err e} first second = record {
  whole = tt;
  part = subst (AppendsPart old.written new.written) (sym (apart before middle first.whole.front (middle ++ b) a b first.whole.parts refl))
      (part_on old.written mid.written new.written first.whole.front (middle ++ b) first.whole.went second.part);
  cause = record { later = omega (arith, first.cause.later, second.cause.later); failed = omega (arith, first.cause.later, second.cause.failed) };
}

-- more is held
pub held_more : {S F T E : Type 0} {old new : SinkState} {before mid after text : List ℕ} {v : S} {w : T} (more : List ℕ)
    → Streams {T = S} {E = F} old new before mid text (Ok v) → after ≡ mid ++ more → Streams {T = T} {E = E} old new before after (text ++ more) (Ok w)
held_more {old} {new} {before} {mid} {after} {text} more step is = record {
  whole = record {
    front = step.whole.front;
    parts = apart before mid step.whole.front after text more step.whole.parts (sym is);
    went = step.whole.went;
  };
  part = tt;
  cause = record { later = step.cause.later; failed = tt };
}

pub held_two : {S F T E : Type 0} {old new : SinkState} {before mid next after text : List ℕ} {v : S} {w : T} (a b : List ℕ)
    → Streams {T = S} {E = F} old new before mid text (Ok v) → next ≡ mid ++ a → after ≡ next ++ b → Streams {T = T} {E = E} old new before after (text ++ (a ++ b)) (Ok w)
held_two {mid} a b step first second = held_more (a ++ b) step (second ∙ ap (λ t. t ++ b) first ∙ append_assoc mid a b)

-- the first of two texts was cut short
pub cut : {S F T E : Type 0} {old new : SinkState} {before mid after text : List ℕ} {e : F} (rest : List ℕ) (r : Result T E)
    → IsErr r → Streams {T = S} {E = F} old new before mid text (Err e) → Streams old new before after (text ++ rest) r
cut rest (Ok v) failed step = absurd cc
cut {old} {new} {before} {mid} {after} {text} rest (Err e) failed step = record {
  whole = tt;
  part = subst (AppendsPart old.written new.written) (append_assoc before text rest) (part_front old.written new.written (before ++ text) rest step.part);
  cause = record { later = step.cause.later; failed = step.cause.failed };
}

-- the only text was cut short
pub cut_last : {S F T E : Type 0} {old new : SinkState} {before mid after text : List ℕ} {e : F} (r : Result T E)
    → IsErr r → Streams {T = S} {E = F} old new before mid text (Err e) → Streams old new before after text r
cut_last {after} {text} r failed step = same_text (sym (append-nil text)) (cut [] r failed step)

-- items one after another, as a loop puts them
module _ {X : Type 0} (text_of : X → List ℕ) (xs : List X) (i : ℕ) (x : X) where
  one_more : i < length xs → get_or xs i x ≡ x → flat_map text_of (take (i + 1) xs) ≡ flat_map text_of (take i xs) ++ text_of x
  one_more lt read =
      ap (flat_map text_of) (take_more xs i x lt ∙ ap (λ y. take i xs ++ y ∷ []) read)
      ∙ flat_map-append text_of (take i xs) (x ∷ []) ∙ ap (λ t. flat_map text_of (take i xs) ++ t) (append-nil (text_of x))

  -- the texts up to this item, this item's, and the others
  others : i < length xs → get_or xs i x ≡ x → flat_map text_of xs ≡ flat_map text_of (take i xs) ++ (text_of x ++ flat_map text_of (drop (i + 1) xs))
  others lt read =
      let rest : drop i xs ≡ x ∷ drop (i + 1) xs = drop_more xs i x lt ∙ ap (λ y. y ∷ drop (i + 1) xs) read in
      ap (flat_map text_of) (sym (take-append-drop i xs)) ∙ flat_map-append text_of (take i xs) (drop i xs) ∙ ap (λ ys. flat_map text_of (take i xs) ++ flat_map text_of ys) rest

  pub item_put : {T E : Type 0} {old mid new : SinkState} {before middle after : List ℕ} {v : T} → i < length xs → get_or xs i x ≡ x
      → Along old mid before middle (flat_map text_of (take i xs)) → Streams {T = T} {E = E} mid new middle after (text_of x) (Ok v) → Along old new before after (flat_map text_of (take (i + 1) xs))
  item_put lt read first second = same_text (one_more lt read) (in_turn first (plain second))
    where
      plain : {T E : Type 0} {old new : SinkState} {before after text : List ℕ} {v : T} → Streams {T = T} {E = E} old new before after text (Ok v) → Along old new before after text
      plain step = record { whole = step.whole; part = tt; cause = record { later = step.cause.later; failed = tt } }

  pub item_cut : {S F T E : Type 0} {old mid new : SinkState} {before middle last after : List ℕ} {e : F} (r : Result T E) → IsErr r → i < length xs → get_or xs i x ≡ x
      → Along old mid before middle (flat_map text_of (take i xs)) → Streams {T = S} {E = F} mid new middle last (text_of x) (Err e) → Streams old new before after (flat_map text_of xs) r
  item_cut r failed lt read first second = same_text (others lt read) (in_turn first (cut (flat_map text_of (drop (i + 1) xs)) r failed second))

-- all items were put
pub all_put : {X T E : Type 0} (text_of : X → List ℕ) (xs : List X) (i : ℕ) {old new : SinkState} {before after : List ℕ} (v : T) → length xs ≤ i
    → Along old new before after (flat_map text_of (take i xs)) → Streams {T = T} {E = E} old new before after (flat_map text_of xs) (Ok v)
all_put text_of xs i v le step = same_text (ap (flat_map text_of) (sym (take_all i xs le))) (record { whole = step.whole; part = tt; cause = record { later = step.cause.later; failed = tt } })

-- nothing was held at first
from_none : (before text whole : List ℕ) → before ≡ [] → before ++ text ≡ whole → whole ≡ text
from_none before text whole none is = sym is ∙ ap (λ l. l ++ text) none

-- the last piece was sent
pub sent_all : {S F T E : Type 0} {old mid new : SinkState} {before held text : List ℕ} {v : S} (r : Result T E) → before ≡ []
    → Streams {T = S} {E = F} old mid before held text (Ok v) → Sends mid new held r → Sends old new text r
sent_all {old} {mid} {new} {before} {held} {text} (Ok w) none step sent = record {
  whole = subst (Appends old.written new.written) (from_none before text (step.whole.front ++ held) none step.whole.parts)
      (Appends-trans old.written mid.written new.written step.whole.front held step.whole.went sent.whole);
  part = tt;
  cause = record { later = omega (arith, step.cause.later, sent.cause.later); failed = tt };
}
sent_all {old} {mid} {new} {before} {held} {text} (Err e) none step sent = record {
  whole = tt;
  part = subst (AppendsPart old.written new.written) (from_none before text (step.whole.front ++ held) none step.whole.parts)
      (part_on old.written mid.written new.written step.whole.front held step.whole.went sent.part);
  cause = record { later = omega (arith, step.cause.later, sent.cause.later); failed = omega (arith, step.cause.later, sent.cause.failed) };
}

-- a piece before the last one was not sent whole
pub cut_off : {T E : Type 0} {old new : SinkState} {before text : List ℕ} (r : Result T E) → IsErr r → before ≡ [] → Streams old new before [] text r → Sends old new text r
cut_off (Ok v) failed none step = absurd cc
cut_off {old} {new} {before} {text} (Err e) failed none step = record {
  whole = tt;
  part = subst (AppendsPart old.written new.written) (ap (λ l. l ++ text) none) step.part;
  cause = step.cause;
}
