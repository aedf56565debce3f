-- Plain scalars, byte by byte.
use Rattle.std.proofs.Common.{◌≡◌, ◌≢◌, ℕ, ◌+◌, ◌<◌, ◌≤◌, true, false, cond, List, [], ◌∷◌, ◌++◌, length, take, drop, get_or, refl, sym, ap, ◌∙◌, arith, drop-cons, add-one, Some, None}
use Rattle.std.specs.Prelude.{option_map}
use Rattle.std.proofs.lemmas.List.{take_more}
use Rattle.yaml_tokens.specs.Quotes.{after_front}
use Rattle.yaml_tokens.proofs.QuotesLemmas.{after_front-after}
use Rattle.yaml_tokens.specs.Tokens.{plain, ends_plain, breaks_plain, without_end, put_front}

pub plain-ends : (depth b : ℕ) (bs : List ℕ) → ends_plain depth b bs ≡ true → plain depth (b ∷ bs) ≡ Some ([], b ∷ bs)
plain-ends depth b bs e = ap (λ t. cond t (Some ([], b ∷ bs)) (cond (breaks_plain depth b bs) None (option_map (λ (p : List ℕ × List ℕ). (b ∷ p.0, p.1)) (plain depth bs)))) e

pub plain-breaks : (depth b : ℕ) (bs : List ℕ) → ends_plain depth b bs ≡ false → breaks_plain depth b bs ≡ true → plain depth (b ∷ bs) ≡ None
plain-breaks depth b bs e k = rw (e, k) refl

pub plain-more : (depth b : ℕ) (bs : List ℕ) → ends_plain depth b bs ≡ false → breaks_plain depth b bs ≡ false → plain depth (b ∷ bs) ≡ option_map (λ p. (b ∷ p.0, p.1)) (plain depth bs)
plain-more depth b bs e k = rw (e, k) refl

pub plain-turn : (d : ℕ) (bs : List ℕ) (at : ℕ) → at < length bs → ends_plain d (get_or bs at 0) (drop (at + 1) bs) ≡ false → breaks_plain d (get_or bs at 0) (drop (at + 1) bs) ≡ false
    → after_front (take at bs) (plain d (drop at bs)) ≡ after_front (take (at + 1) bs) (plain d (drop (at + 1) bs))
plain-turn d bs at h e k =
    let b = get_or bs at 0 in
    let rest = drop (at + 1) bs in
    let here : drop at bs ≡ b ∷ rest = drop-cons bs at 0 h ∙ ap (λ i. b ∷ drop i bs) (sym (add-one at)) in
    ap (λ x. after_front (take at bs) (plain d x)) here
    ∙ ap (after_front (take at bs)) (plain-more d b rest e k)
    ∙ after_front-after (take at bs) (b ∷ []) (plain d rest)
    ∙ ap (λ x. after_front x (plain d rest)) (sym (take_more bs at 0 h))

without_end-space : (xs : List ℕ) → without_end (xs ++ 32 ∷ []) ≡ without_end xs
without_end-space [] = refl
without_end-space (x ∷ xs) = ap (put_front x) (without_end-space xs)

put_front-more : (x b : ℕ) (xs : List ℕ) → put_front x (xs ++ b ∷ []) ≡ x ∷ (xs ++ b ∷ [])
put_front-more x b [] = refl
put_front-more x b (y ∷ ys) = refl

without_end-other : (xs : List ℕ) (b : ℕ) → b ≢ 32 → without_end (xs ++ b ∷ []) ≡ xs ++ b ∷ []
without_end-other [] b h = grind arith
without_end-other (x ∷ xs) b h = ap (put_front x) (without_end-other xs b h) ∙ put_front-more x b xs

last-byte : (bs : List ℕ) (n m : ℕ) → n ≡ m + 1 → n ≤ length bs → take n bs ≡ take m bs ++ get_or bs m 0 ∷ []
last-byte bs n m e h = ap (λ k. take k bs) e ∙ take_more bs m 0 (omega arith)

pub trim-turn : (bs : List ℕ) (n m : ℕ) → n ≡ m + 1 → n ≤ length bs → get_or bs m 0 ≡ 32 → without_end (take n bs) ≡ without_end (take m bs)
trim-turn bs n m e h s = ap without_end (last-byte bs n m e h ∙ ap (λ b. take m bs ++ b ∷ []) s) ∙ without_end-space (take m bs)

pub trim-end : (bs : List ℕ) (n m : ℕ) → n ≡ m + 1 → n ≤ length bs → get_or bs m 0 ≢ 32 → without_end (take n bs) ≡ take n bs
trim-end bs n m e h s = ap without_end (last-byte bs n m e h) ∙ without_end-other (take m bs) (get_or bs m 0) s ∙ sym (last-byte bs n m e h)
