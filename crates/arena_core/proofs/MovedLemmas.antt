-- Three seats are linked into one chain, and the second moves to another.
use Rattle.std.proofs.Common.{◌≡◌, ℕ, ◌+◌, ◌*◌, cond, List, [], replicate, refl, sym, ap, subst, arith}
use Rattle.arena_core.specs.Chains.{put_first, taken_out, IsSeated}
use Rattle.arena_core.specs.declared.small_lit.SmallLit.{SmallLit}

-- all three are still seated
pub record AllSeated (chains : List (List ℕ)) (first second third : ℕ) : Type 0 where
  pub first_seated : IsSeated chains first
  pub second_seated : IsSeated chains second
  pub third_seated : IsSeated chains third

pub place_from : (l m : SmallLit) → l ≡ m → cond l.is_negative (2 * l.variable + 1) (2 * l.variable) ≡ cond m.is_negative (2 * m.variable + 1) (2 * m.variable)
place_from l m e = ap (λ (x : SmallLit). cond x.is_negative (2 * x.variable + 1) (2 * x.variable)) e

abbrev moved : ℕ → ℕ → ℕ → ℕ → ℕ → List (List ℕ)
moved p q first second third = put_first (taken_out (put_first (put_first (put_first (replicate 8 []) p first) p second) p third) second) q second

pub all_seated : (chains empty one two three : List (List ℕ)) (p q first second third : ℕ) → p ≡ 6 → q ≡ 7 → first ≡ 1 → second ≡ 3 → third ≡ 5 → empty ≡ replicate 8 [] → one ≡ put_first empty p first → two ≡ put_first one p second → three ≡ put_first two p third → chains ≡ put_first (taken_out three second) q second → AllSeated chains first second third
all_seated chains empty one two three p q first second third ep eq e1 e2 e3 is is1 is2 is3 is4 =
    let there : AllSeated (moved 6 7 1 3 5) 1 3 5 = record {
      first_seated = (6, (1, (omega arith), refl));
      second_seated = (7, (0, (omega arith), refl));
      third_seated = (6, (0, (omega arith), refl));
    } in
    let P : ℕ → Type 0 = λ x. AllSeated (moved x 7 1 3 5) 1 3 5 in
    let Q : ℕ → Type 0 = λ x. AllSeated (moved p x 1 3 5) 1 3 5 in
    let F : ℕ → Type 0 = λ x. AllSeated (moved p q x 3 5) x 3 5 in
    let S : ℕ → Type 0 = λ x. AllSeated (moved p q first x 5) first x 5 in
    let T : ℕ → Type 0 = λ x. AllSeated (moved p q first second x) first second x in
    let all : AllSeated (moved p q first second third) first second third = subst T (sym e3) (subst S (sym e2) (subst F (sym e1) (subst Q (sym eq) (subst P (sym ep) there)))) in
    let e : chains ≡ moved p q first second third = cc in
    let C : List (List ℕ) → Type 0 = λ cs. AllSeated cs first second third in
    subst C (sym e) all
