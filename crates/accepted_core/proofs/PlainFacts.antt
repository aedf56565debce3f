-- The clauses over given numbers are those of the task that has these numbers.
use Rattle.std.proofs.Common.{◌≡◌, ℕ, ◌+◌, ◌-◌, ◌*◌, ◌<◌, [], ◌∷◌, length, get_or, ap, ◌∙◌, arith}
use Rattle.std.proofs.Math.Nat.{add-mul}
use Rattle.std.proofs.lemmas.List.{length-map, get_or-map}
use Rattle.literals_core.specs.Formula.{plus, minus}
use Rattle.encoding_rules.specs.Each.{each, listed}
use Rattle.encoding_rules.specs.Task.{Task, criteria, boundaries, goods, bads, good_at, bad_at, nobody}
use Rattle.encoding_rules.specs.Ranks.{count_at}
use Rattle.encoding_rules.specs.Unknowns.{accepted}
use Rattle.encoding_rules.specs.Shared.{better_clause, lower_clause, better_clauses, lower_clauses}
use Rattle.encoding_rules.proofs.EachFacts.{length-listed, listed_at, each_same, listed_same}
use Rattle.accepted_core.specs.Plain.{better_row, better_rows, better_of, lower_row, lower_rows, lower_of}
use Rattle.accepted_core.specs.Numbers.{good_row, bad_row, Numbers, AreNumbers}

pub two : (f g : ℕ → ℕ) (x y v w : ℕ) → x ≡ v → y ≡ w → f x ∷ g y ∷ [] ≡ f v ∷ g w ∷ []
two f g x y v w e h = ap (λ n. f n ∷ g y ∷ []) e ∙ ap (λ n. f v ∷ g n ∷ []) h

module _ (task : Task) (u : Numbers) (are : AreNumbers task u) where
  pub many : length u.counts ≡ criteria task
  many = ap length are.counts_are ∙ length-listed (count_at task) (criteria task)

  pub count_is : (i : ℕ) → i < criteria task → get_or u.counts i 0 ≡ count_at task i
  count_is i lt = ap (λ xs. get_or xs i 0) are.counts_are ∙ listed_at (count_at task) (criteria task) i 0 lt

  pub first_is : (i : ℕ) → i < criteria task → get_or u.firsts i 0 ≡ accepted task i 0 0
  first_is i lt = ap (λ xs. get_or xs i 0) are.firsts_are ∙ listed_at (λ i. accepted task i 0 0) (criteria task) i 0 lt

  place : (i b k : ℕ) → accepted task i 0 0 + b * count_at task i + k ≡ accepted task i b k
  unfolding accepted
  place i b k = omega arith

  pub better_is : better_of u.boundaries u.counts u.firsts ≡ better_clauses task
  unfolding better_clauses
  better_is =
      ap (λ n. each (λ i. better_rows (get_or u.firsts i 0) (get_or u.counts i 0) u.boundaries) n) many
      ∙ each_same (λ i. better_rows (get_or u.firsts i 0) (get_or u.counts i 0) u.boundaries) (λ i. each (λ b. listed (better_clause task i b) (count_at task i - 1)) (boundaries task)) (criteria task) (λ i li.
      ap (λ f. better_rows f (get_or u.counts i 0) u.boundaries) (first_is i li) ∙ ap (λ m. better_rows (accepted task i 0 0) m u.boundaries) (count_is i li) ∙ ap (better_rows (accepted task i 0 0) (count_at task i)) are.boundaries_are
      ∙ each_same (λ b. better_row (accepted task i 0 0 + b * count_at task i) (count_at task i)) (λ b. listed (better_clause task i b) (count_at task i - 1)) (boundaries task) (λ b lb.
      listed_same (λ k. minus (accepted task i 0 0 + b * count_at task i + k) ∷ plus (accepted task i 0 0 + b * count_at task i + k + 1) ∷ []) (better_clause task i b) (count_at task i - 1) (λ k lk.
      let next : accepted task i 0 0 + b * count_at task i + k + 1 ≡ accepted task i b (k + 1) = (let p = place i b (k + 1) in omega (arith, p)) in
      two minus plus (accepted task i 0 0 + b * count_at task i + k) (accepted task i 0 0 + b * count_at task i + k + 1) (accepted task i b k) (accepted task i b (k + 1)) (place i b k) next)))

  above : (i b k : ℕ) → accepted task i 0 0 + b * count_at task i + count_at task i + k ≡ accepted task i (b + 1) k
  unfolding accepted
  above i b k = let turn = add-mul b 1 (count_at task i) in omega (arith, turn)

  pub lower_is : lower_of u.boundaries u.counts u.firsts ≡ lower_clauses task
  unfolding lower_clauses
  lower_is =
      ap (λ n. each (λ i. lower_rows (get_or u.firsts i 0) (get_or u.counts i 0) u.boundaries) n) many
      ∙ each_same (λ i. lower_rows (get_or u.firsts i 0) (get_or u.counts i 0) u.boundaries) (λ i. each (λ b. listed (lower_clause task i b) (count_at task i)) (boundaries task - 1)) (criteria task) (λ i li.
      ap (λ f. lower_rows f (get_or u.counts i 0) u.boundaries) (first_is i li) ∙ ap (λ m. lower_rows (accepted task i 0 0) m u.boundaries) (count_is i li) ∙ ap (lower_rows (accepted task i 0 0) (count_at task i)) are.boundaries_are
      ∙ each_same (λ b. lower_row (accepted task i 0 0 + b * count_at task i) (count_at task i)) (λ b. listed (lower_clause task i b) (count_at task i)) (boundaries task - 1) (λ b lb.
      listed_same (λ k. minus (accepted task i 0 0 + b * count_at task i + count_at task i + k) ∷ plus (accepted task i 0 0 + b * count_at task i + k) ∷ []) (lower_clause task i b) (count_at task i) (λ k lk.
      two minus plus (accepted task i 0 0 + b * count_at task i + count_at task i + k) (accepted task i 0 0 + b * count_at task i + k) (accepted task i (b + 1) k) (accepted task i b k) (above i b k) (place i b k))))

  pub good_is : (a : ℕ) → a < length (goods task) → get_or u.goods a [] ≡ good_row task (good_at task a)
  unfolding good_at
  good_is a lt = ap (λ xs. get_or xs a []) are.goods_are ∙ get_or-map (good_row task) (goods task) a nobody [] lt

  pub bad_is : (b : ℕ) → b < length (bads task) → get_or u.bads b [] ≡ bad_row task (bad_at task b)
  unfolding bad_at
  bad_is b lt = ap (λ xs. get_or xs b []) are.bads_are ∙ get_or-map (bad_row task) (bads task) b nobody [] lt

  pub many_goods : length u.goods ≡ length (goods task)
  many_goods = ap length are.goods_are ∙ length-map (goods task) (good_row task)

  pub many_bads : length u.bads ≡ length (bads task)
  many_bads = ap length are.bads_are ∙ length-map (bads task) (bad_row task)
