-- The clauses that a lemma may name.
use Rattle.std.proofs.Common.{◌≡◌, ℕ, zero, suc, ◌+◌, ◌-◌, ◌<◌, ◌≤◌, List, [], ◌∷◌, ◌++◌, length, get_or, take, map, Some, sym, ◌∙◌, ap, arith, subst}
use Rattle.std.specs.List.{slice_get, All}
use Rattle.std.proofs.lemmas.List.{get_or-append_right, get_or-map, get_or-take, length-take-le, length-append, length-map, take_more, map-append, append_assoc}
use Rattle.std.proofs.lemmas.List.Elements.{All-get_or}
use Rattle.std.proofs.lemmas.Option.{slice_get-get_or, slice_get_within, get_or_from_slice_get, none-some}
use Rattle.literals_core.specs.Formula.{Cnf}
use Rattle.chain_core.specs.Chain.{clause_at}
use Rattle.chain_core.specs.Log.{known_before}
use Rattle.chain_core.specs.declared.log.Lemma.{Lemma}

-- the clause of an id by its place
pub clause_at_place : (known : List (List ℕ)) (id : ℕ) (clause : List ℕ) → 1 ≤ id → id ≤ length known → clause ≡ get_or known (id - 1) [] → clause_at known id ≡ Some clause
clause_at_place known id clause from to is =
    let next : id ≡ suc (id - 1) = omega arith in
    let within : id - 1 < length known = omega arith in
    ap (clause_at known) next ∙ slice_get-get_or known (id - 1) [] within ∙ ap Some (sym is)

-- what holds of each clause holds of the one of an id
pub All-clause_at : (P : List ℕ → Type 0) (known : List (List ℕ)) (id : ℕ) (clause : List ℕ) → All P known → clause_at known id ≡ Some clause → P clause
All-clause_at P known zero clause all is = absurd (none-some clause is)
All-clause_at P known (suc k) clause all is =
    let found : get_or known k clause ≡ clause = get_or_from_slice_get known k clause clause is in
    subst P found (All-get_or P known k clause (slice_get_within known k clause is) all)

-- how many there are
pub length-known : (formula : Cnf) (log : List Lemma) (k : ℕ) → k ≤ length log → length (known_before formula log k) ≡ length formula.clauses + k
length-known formula log k short =
    length-append formula.clauses (map (λ (x : Lemma). x.literals) (take k log)) ∙ ap (λ n. length formula.clauses + n) (length-map (take k log) (λ (x : Lemma). x.literals) ∙ length-take-le k log short)

-- one more lemma may be named
pub known_more : (formula : Cnf) (log : List Lemma) (k : ℕ) (lemma : Lemma) → slice_get log k ≡ Some lemma → known_before formula log (k + 1) ≡ known_before formula log k ++ lemma.literals ∷ []
known_more formula log k lemma read =
    let lt : k < length log = slice_get_within log k lemma read in
    let more : take (k + 1) log ≡ take k log ++ lemma ∷ [] = take_more log k lemma lt ∙ ap (λ x. take k log ++ x ∷ []) (get_or_from_slice_get log k lemma lemma read) in
    ap (λ xs. formula.clauses ++ map (λ (x : Lemma). x.literals) xs) more ∙ ap (λ ys. formula.clauses ++ ys) (map-append (λ (x : Lemma). x.literals) (take k log) (lemma ∷ [])) ∙ sym (append_assoc formula.clauses (map (λ (x : Lemma). x.literals) (take k log)) (lemma.literals ∷ []))

-- a lemma among them
pub known_lemma : (formula : Cnf) (log : List Lemma) (k n id count : ℕ) (lemma : Lemma) (literals : List ℕ) → count ≡ length formula.clauses → count < id → id ≤ length formula.clauses + k → k ≤ length log
    → n ≡ id - count - 1 → slice_get log n ≡ Some lemma → literals ≡ lemma.literals → clause_at (known_before formula log k) id ≡ Some literals
known_lemma formula log k n id count lemma literals size above within short at read is =
    let found : get_or log n lemma ≡ lemma = get_or_from_slice_get log n lemma lemma read in
    let past : get_or (known_before formula log k) (id - 1) [] ≡ get_or (map (λ (x : Lemma). x.literals) (take k log)) (id - 1 - count) [] =
    get_or-append_right formula.clauses (map (λ (x : Lemma). x.literals) (take k log)) count (id - 1) [] (sym size) (omega arith) in
    let place : id - 1 - count ≡ n = omega arith in
    let inside : n < length (take k log) = rw (length-take-le k log short) (omega arith) in
    let mapped : get_or (map (λ (x : Lemma). x.literals) (take k log)) n [] ≡ (get_or (take k log) n lemma).literals = get_or-map (λ (x : Lemma). x.literals) (take k log) n lemma [] inside in
    let taken : get_or (take k log) n lemma ≡ get_or log n lemma = get_or-take k log n lemma (omega arith) in
    let there : literals ≡ get_or (known_before formula log k) (id - 1) [] =
    is ∙ ap (λ (x : Lemma). x.literals) (sym found ∙ sym taken) ∙ sym mapped ∙ ap (λ j. get_or (map (λ (x : Lemma). x.literals) (take k log)) j []) (sym place) ∙ sym past in
    let size : length (known_before formula log k) ≡ length formula.clauses + k = length-known formula log k short in
    clause_at_place (known_before formula log k) id literals (omega arith) (omega (arith, size)) there

-- the clause at place k, by its id
pub clause_read : (clauses : List (List ℕ)) (k : ℕ) (clause : List ℕ) → clause_at clauses (k + 1) ≡ Some clause → get_or clauses k clause ≡ clause
clause_read clauses k clause at =
    let next : suc k ≡ k + 1 = omega arith in
    get_or_from_slice_get clauses k clause clause (ap (clause_at clauses) next ∙ at)
