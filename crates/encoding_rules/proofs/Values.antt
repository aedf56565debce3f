-- Values of the unknowns, as the list of what is accepted and further values after it.
use Rattle.std.proofs.Common.{◌≡◌, ℕ, ◌+◌, ◌-◌, ◌<◌, ◌*◌, Bool, false, List, ◌++◌, length, get_or, ap, ◌∙◌, arith}
use Rattle.std.proofs.Math.Nat.{mul_comm, add-mul, mul_assoc}
use Rattle.std.proofs.lemmas.Nat.{mul-add-lt}
use Rattle.std.proofs.lemmas.List.{get_or_append_left, get_or-append-add}
use Rattle.encoding_rules.specs.Each.{each, listed, total}
use Rattle.encoding_rules.specs.Task.{Task, criteria, boundaries, goods, bads}
use Rattle.encoding_rules.specs.Ranks.{count_at}
use Rattle.encoding_rules.specs.Unknowns.{counted, accepted, accepted_count, pair, separated}
use Rattle.encoding_rules.proofs.EachFacts.{length-each, each_at_place, each_before, length-listed, listed_at, total_same, total_const, total_scale}

-- rows of one width
module _ (S : ℕ → ℕ → Bool) (w : ℕ) where
  abbrev rows : ℕ → List Bool
  rows n = each (λ b. listed (S b) w) n

  pub length_rows : (n : ℕ) → length (rows n) ≡ n * w
  length_rows n = length-each (λ b. listed (S b) w) n ∙ total_same (λ b. length (listed (S b) w)) (λ b. w) n (λ b lt. length-listed (S b) w) ∙ total_const w n

  pub at_rows : (n b k : ℕ) → b < n → k < w → get_or (rows n) (b * w + k) false ≡ S b k
  at_rows n b k lb lk =
      let size = length-listed (S b) w in
      each_at_place (λ b. listed (S b) w) n b k (b * w) false lb (omega (arith, lk, size)) (length_rows b) ∙ listed_at (S b) w k false lk

  pub inside_rows : (n b k : ℕ) → b < n → k < w → b * w + k < length (rows n)
  inside_rows n b k lb lk =
      let size = length_rows n in
      let turned = mul_comm w n in
      let below : b * w + k < w * n = mul-add-lt b w k n lb lk in
      omega (arith, size, turned, below)

module _ (task : Task) (A : ℕ → ℕ → ℕ → Bool) where
  abbrev block : ℕ → List Bool
  block i = rows (A i) (count_at task i) (boundaries task)

  abbrev pub values_with : List Bool → ℕ → Bool
  values_with rest v = get_or (each block (criteria task) ++ rest) (v - 1) false

  length_blocks : (n : ℕ) → length (each block n) ≡ boundaries task * total (count_at task) n
  length_blocks n = length-each block n
      ∙ total_same (λ i. length (block i)) (λ i. boundaries task * count_at task i) n (λ i lt. length_rows (A i) (count_at task i) (boundaries task))
      ∙ total_scale (boundaries task) (count_at task) n

  pub read_accepted : (rest : List Bool) (i b k : ℕ) → i < criteria task → b < boundaries task → k < count_at task i → values_with rest (accepted task i b k) ≡ A i b k
  unfolding accepted counted
  read_accepted rest i b k li lb lk =
      let p : ℕ = boundaries task * total (count_at task) i in
      let j : ℕ = b * count_at task i + k in
      let place : accepted task i b k - 1 ≡ p + j = omega arith in
      let inside = inside_rows (A i) (count_at task i) (boundaries task) b k lb lk in
      let room = each_before block (criteria task) i li in
      let size : length (each block i) ≡ p = length_blocks i in
      ap (λ n. get_or (each block (criteria task) ++ rest) n false) place
      ∙ get_or_append_left (each block (criteria task)) rest false (p + j) (omega (arith, inside, room, size))
      ∙ each_at_place block (criteria task) i j p false li inside size
      ∙ at_rows (A i) (count_at task i) (boundaries task) b k lb lk

  pub read_rest : (rest : List Bool) (j : ℕ) → values_with rest (accepted_count task + 1 + j) ≡ get_or rest j false
  unfolding accepted_count counted
  read_rest rest j =
      let size : length (each block (criteria task)) ≡ boundaries task * total (count_at task) (criteria task) = length_blocks (criteria task) in
      let place : accepted_count task + 1 + j - 1 ≡ length (each block (criteria task)) + j = omega (arith, size) in
      ap (λ n. get_or (each block (criteria task) ++ rest) n false) place ∙ get_or-append-add (each block (criteria task)) rest j false

  module _ (S : ℕ → ℕ → ℕ → Bool) where
    abbrev pub separations : List Bool
    separations = each (λ a. rows (S a) (criteria task) (length (bads task))) (length (goods task))

    length_before : (a : ℕ) → length (each (λ a. rows (S a) (criteria task) (length (bads task))) a) ≡ a * (length (bads task) * criteria task)
    length_before n = length-each (λ a. rows (S a) (criteria task) (length (bads task))) n
        ∙ total_same (λ a. length (rows (S a) (criteria task) (length (bads task)))) (λ a. length (bads task) * criteria task) n (λ a lt. length_rows (S a) (criteria task) (length (bads task)))
        ∙ total_const (length (bads task) * criteria task) n

    pub read_separated : (a b i : ℕ) → a < length (goods task) → b < length (bads task) → i < criteria task → values_with separations (separated task a b i) ≡ S a b i
    unfolding separated pair
    read_separated a b i la lb li =
        let w : ℕ = length (bads task) in
        let n : ℕ = criteria task in
        let place : (a * w + b) * n ≡ a * (w * n) + b * n = add-mul (a * w) b n ∙ ap (λ m. m + b * n) (mul_assoc a w n) in
        let at : separated task a b i ≡ accepted_count task + 1 + (a * (w * n) + (b * n + i)) = omega (arith, place) in
        ap (values_with separations) at
        ∙ read_rest separations (a * (w * n) + (b * n + i))
        ∙ each_at_place (λ a. rows (S a) n w) (length (goods task)) a (b * n + i) (a * (w * n)) false la (inside_rows (S a) n w b i lb li) (length_before a)
        ∙ at_rows (S a) n w b i lb li
