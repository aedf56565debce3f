-- The words of a lemma line, as a reader goes through them.
use Rattle.std.proofs.Common.{◌≡◌, ◌≢◌, ℕ, ◌+◌, ◌<◌, ◌≤◌, ◌==◌, false, cond, List, [], ◌∷◌, ◌++◌, length, drop, Option, Some, None, refl, sym, ◌∙◌, ap, arith, eq-eqb, subst, inl, inr}
use Rattle.std.specs.Prelude.{option_map}
use Rattle.std.specs.List.{All}
use Rattle.std.proofs.lemmas.Bool.{ne_eqb}
use Rattle.std.proofs.lemmas.Bool.Decides.{eqb_tells}
use Rattle.std.proofs.lemmas.List.{append_assoc, drop-drop, length-drop}
use Rattle.std.proofs.lemmas.List.Elements.{All-cons, All-nil}
use Rattle.chain_core.specs.Reading.{words_of, number_in, hints_in, hints_then}
use Rattle.chain_core.specs.Front.{words_after, StartsWith}
use Rattle.chain_core.proofs.NumberLemmas.{split_some, after_space}

-- how the words of hints begin
hints_at : (text : List ℕ) (v n : ℕ) → StartsWith number_in text v n → hints_in (words_of text) ≡ hints_then (Some v) (words_after n text) (hints_in (words_after n text))
hints_at text v n starts = ap hints_in starts.words ∙ ap (λ o. hints_then o (words_after n text) (hints_in (words_after n text))) starts.is

pub zero_then : (v : ℕ) (words : List (List ℕ)) (more : Option (List ℕ)) → v ≡ 0 → hints_then (Some v) words more ≡ cond (length words == 0) (Some []) None
zero_then v words more is = ap (λ b. cond b (cond (length words == 0) (Some []) None) (option_map (λ hs. v ∷ hs) more)) (eq-eqb v 0 is)

pub one_then : (v : ℕ) (words : List (List ℕ)) (more : Option (List ℕ)) → v ≢ 0 → hints_then (Some v) words more ≡ option_map (λ hs. v ∷ hs) more
one_then v words more other = ap (λ b. cond b (cond (length words == 0) (Some []) None) (option_map (λ hs. v ∷ hs) more)) (ne_eqb v 0 other)

words_some : (text : List ℕ) → (length (words_of text) == 0) ≡ false
words_some text =
    let parts = split_some (λ b. b == 32) text in
    ap (λ ws. length ws == 0) parts.1.1 ∙ ne_eqb (length (parts.0 ∷ parts.1.0)) 0 (λ e. absurd (omega (arith, e)))

onto : (read : List ℕ) (v : ℕ) (more : Option (List ℕ)) → option_map (λ hs. read ++ hs) (option_map (λ hs. v ∷ hs) more) ≡ option_map (λ hs. (read ++ v ∷ []) ++ hs) more
onto read v None = refl
onto read v (Some hs) = ap Some (sym (append_assoc read (v ∷ []) hs))

-- where the next word begins
pub next_text : (text : List ℕ) (at n : ℕ) → drop (n + 1) (drop at text) ≡ drop (at + n + 1) text
next_text text at n = let same : at + (n + 1) ≡ at + n + 1 = omega arith in drop-drop (n + 1) at text ∙ ap (λ k. drop k text) same

module _ (text : List ℕ) (at : ℕ) (read : List ℕ) (whole : Option (List ℕ)) (so_far : option_map (λ hs. read ++ hs) (hints_in (words_of (drop at text))) ≡ whole) where
  pub hints_go_on : (v n : ℕ) → at ≤ length text → StartsWith number_in (drop at text) v n → v ≡ 0 → at + n ≢ length text → whole ≡ None
  hints_go_on v n inside starts is open' =
      let lt : n < length (drop at text) = omega (arith, length-drop at text, starts.within, open') in
      let more = after_space n (drop at text) lt in
      sym so_far ∙ ap (option_map (λ hs. read ++ hs)) (hints_at (drop at text) v n starts ∙ zero_then v (words_after n (drop at text)) _ is ∙ ap (λ (ws : List (List ℕ)). cond (length ws == 0) (Some []) None) more
      ∙ ap (λ b. cond b (Some []) None) (words_some (drop (n + 1) (drop at text))))

  -- one more hint
  pub hints_more : (v n : ℕ) → at ≤ length text → StartsWith number_in (drop at text) v n → v ≢ 0 → at + n ≢ length text → option_map (λ hs. (read ++ v ∷ []) ++ hs) (hints_in (words_of (drop (at + n + 1) text))) ≡ whole
  hints_more v n inside starts other open' =
      let lt : n < length (drop at text) = omega (arith, length-drop at text, starts.within, open') in
      let more = after_space n (drop at text) lt in
      let step : hints_in (words_of (drop at text)) ≡ option_map (λ hs. v ∷ hs) (hints_in (words_of (drop (at + n + 1) text))) =
      hints_at (drop at text) v n starts ∙ one_then v (words_after n (drop at text)) _ other ∙ ap (λ ws. option_map (λ hs. v ∷ hs) (hints_in ws)) more
      ∙ ap (λ t. option_map (λ hs. v ∷ hs) (hints_in (words_of t))) (next_text text at n) in
      sym (onto read v (hints_in (words_of (drop (at + n + 1) text)))) ∙ sym (ap (option_map (λ hs. read ++ hs)) step) ∙ so_far

-- hints that are read count from 1
then_positive : (o : Option ℕ) (words : List (List ℕ)) (more : Option (List ℕ)) → ((hs : List ℕ) → more ≡ Some hs → All (λ h. 1 ≤ h) hs) → (hs : List ℕ) → hints_then o words more ≡ Some hs → All (λ h. 1 ≤ h) hs
then_positive None words more later hs is = absurd cc
then_positive (Some v) words None later hs is =
    elim (eqb_tells v 0) [
      | inl same ↦ ended words (sym (zero_then v words None same.1) ∙ is)
      | inr other ↦ (let none : ◌≡◌ {A = Option (List ℕ)} None (Some hs) = sym (one_then v words None other.1) ∙ is in absurd cc)
    ]
  where
    ended : (words : List (List ℕ)) → cond (length words == 0) (Some []) None ≡ Some hs → All (λ h. 1 ≤ h) hs
    ended [] is = let same : [] ≡ hs = cc in subst (λ xs. All (λ h. 1 ≤ h) xs) same (All-nil (λ h. 1 ≤ h))
    ended (w ∷ ws) is = let none : ◌≡◌ {A = Option (List ℕ)} None (Some hs) = sym (ap (λ b. cond b (Some []) None) (ne_eqb (length (w ∷ ws)) 0 (λ e. absurd (omega (arith, e))))) ∙ is in absurd cc
then_positive (Some v) words (Some more) later hs is =
    elim (eqb_tells v 0) [
      | inl same ↦ ended words (sym (zero_then v words (Some more) same.1) ∙ is)
      | inr other ↦
          (let some : ◌≡◌ {A = Option (List ℕ)} (Some (v ∷ more)) (Some hs) = sym (one_then v words (Some more) other.1) ∙ is in
          let same : v ∷ more ≡ hs = cc in
          let least : 1 ≤ v = omega (arith, other.1) in
          subst (λ xs. All (λ h. 1 ≤ h) xs) same (All-cons (λ h. 1 ≤ h) v more least (later more refl)))
    ]
  where
    ended : (words : List (List ℕ)) → cond (length words == 0) (Some []) None ≡ Some hs → All (λ h. 1 ≤ h) hs
    ended [] is = let same : [] ≡ hs = cc in subst (λ xs. All (λ h. 1 ≤ h) xs) same (All-nil (λ h. 1 ≤ h))
    ended (w ∷ ws) is = let none : ◌≡◌ {A = Option (List ℕ)} None (Some hs) = sym (ap (λ b. cond b (Some []) None) (ne_eqb (length (w ∷ ws)) 0 (λ e. absurd (omega (arith, e))))) ∙ is in absurd cc

pub hints_positive : (words : List (List ℕ)) (hs : List ℕ) → hints_in words ≡ Some hs → All (λ h. 1 ≤ h) hs
hints_positive [] hs is = absurd cc
hints_positive (word ∷ words) hs is = then_positive (number_in word) words (hints_in words) (hints_positive words) hs is

-- hints that a reader put into a list
pub list_positive : (list items read : List ℕ) (words : List (List ℕ)) → list ≡ items → items ≡ [] ++ read → hints_in words ≡ Some read → All (λ h. 1 ≤ h) list
list_positive list items read words is was read' = subst (λ xs. All (λ h. 1 ≤ h) xs) (sym (is ∙ was)) (hints_positive words read read')
