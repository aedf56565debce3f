-- The first way in which a lemma fails.
use Rattle.std.proofs.Common.{◌≡◌, ℕ, ◌+◌, ◌≤◌, ◌==◌, ◌||◌, nat_lt, nat_le, not, Bool, true, false, List, [], ◌∷◌, ◌++◌, length, drop, Option, Some, None, sym, ◌∙◌, ap, arith, cond, eq-eqb, subst}
use Rattle.std.specs.List.{list_any, All, slice_get}
use Rattle.std.proofs.lemmas.List.{drop_more}
use Rattle.std.proofs.lemmas.Option.{slice_get_within, get_or_from_slice_get}
use Rattle.std.proofs.lemmas.List.Elements.{All-push}
use Rattle.literals_core.specs.Literal.{variable_of}
use Rattle.literals_core.specs.Formula.{Cnf, InRange}
use Rattle.chain_core.specs.Chain.{chain_succeeds}
use Rattle.chain_core.specs.Log.{known_before, lemma_fault, first_fault, or_else}
use Rattle.chain_core.proofs.KnownLemmas.{length-known, known_more}
use Rattle.chain_core.specs.declared.log.Lemma.{Lemma}
use Rattle.chain_core.specs.declared.fault.CheckFault.{CheckFault}
use Rattle.chain_core.specs.declared.fault.CheckFault.TheVariants.{Id, Literal, Hint, Chain}

-- the result of the four tests in turn
abbrev staged : ℕ → Bool → Bool → Bool → Bool → Option CheckFault
staged line a b c d = cond (not a) (Some (Id line)) (cond b (Some (Literal line)) (cond c (Some (Hint line)) (cond d None (Some (Chain line)))))

pub fault_staged : (variables : ℕ) (known : List (List ℕ)) (line : ℕ) (lemma : Lemma) (b c d : Bool) → lemma.id ≡ length known + 1
    → list_any (λ l. nat_lt variables (variable_of l)) lemma.literals ≡ b → list_any (λ h. h == 0 || nat_le lemma.id h) lemma.hints ≡ c → chain_succeeds known lemma.literals lemma.hints ≡ d
    → lemma_fault variables known line lemma ≡ staged line true b c d
fault_staged variables known line lemma b c d id pb pc pd =
    ap (λ a. staged line a (list_any (λ l. nat_lt variables (variable_of l)) lemma.literals) (list_any (λ h. h == 0 || nat_le lemma.id h) lemma.hints) (chain_succeeds known lemma.literals lemma.hints)) (eq-eqb lemma.id (length known + 1) id)
    ∙ ap (λ b. staged line true b (list_any (λ h. h == 0 || nat_le lemma.id h) lemma.hints) (chain_succeeds known lemma.literals lemma.hints)) pb
    ∙ ap (λ c. staged line true b c (chain_succeeds known lemma.literals lemma.hints)) pc ∙ ap (staged line true b c) pd

-- the lemmas from place k on
drop_read : (log : List Lemma) (k : ℕ) (lemma : Lemma) → slice_get log k ≡ Some lemma → drop k log ≡ lemma ∷ drop (k + 1) log
drop_read log k lemma read = drop_more log k lemma (slice_get_within log k lemma read) ∙ ap (λ x. x ∷ drop (k + 1) log) (get_or_from_slice_get log k lemma lemma read)

pub turn_line : (formula : Cnf) (log : List Lemma) (k next : ℕ) (lemma : Lemma) (r : Option CheckFault) → slice_get log k ≡ Some lemma → next ≡ k + 1 + 2 → lemma_fault formula.variables (known_before formula log k) (k + 2) lemma ≡ None
    → first_fault formula.variables (known_before formula log k) (k + 2) (drop k log) ≡ r → first_fault formula.variables (known_before formula log (k + 1)) next (drop (k + 1) log) ≡ r
turn_line formula log k next lemma r read is passes was =
    let cut : drop k log ≡ lemma ∷ drop (k + 1) log = drop_read log k lemma read in
    let line : next ≡ k + 2 + 1 = omega arith in
    ap (λ n. first_fault formula.variables (known_before formula log (k + 1)) n (drop (k + 1) log)) line
    ∙ ap (λ known. first_fault formula.variables known (k + 2 + 1) (drop (k + 1) log)) (known_more formula log k lemma read)
    ∙ sym (ap (λ f. or_else f (first_fault formula.variables (known_before formula log k ++ lemma.literals ∷ []) (k + 2 + 1) (drop (k + 1) log))) passes)
    ∙ sym (ap (first_fault formula.variables (known_before formula log k) (k + 2)) cut) ∙ was

pub stop_line : (formula : Cnf) (log : List Lemma) (k : ℕ) (lemma : Lemma) (fault : CheckFault) (r : Option CheckFault) → slice_get log k ≡ Some lemma → lemma_fault formula.variables (known_before formula log k) (k + 2) lemma ≡ Some fault
    → first_fault formula.variables (known_before formula log k) (k + 2) (drop k log) ≡ r → r ≡ Some fault
stop_line formula log k lemma fault r read fails was =
    let cut : drop k log ≡ lemma ∷ drop (k + 1) log = drop_read log k lemma read in
    sym was ∙ ap (first_fault formula.variables (known_before formula log k) (k + 2)) cut ∙ ap (λ f. or_else f (first_fault formula.variables (known_before formula log k ++ lemma.literals ∷ []) (k + 2 + 1) (drop (k + 1) log))) fails

pub range_more : (formula : Cnf) (log : List Lemma) (k : ℕ) (lemma : Lemma) → slice_get log k ≡ Some lemma → InRange formula.variables (known_before formula log k) → All (λ l. variable_of l ≤ formula.variables) lemma.literals → InRange formula.variables (known_before formula log (k + 1))
range_more formula log k lemma read was new =
    let P : List ℕ → Type 0 = λ c. All (λ l. variable_of l ≤ formula.variables) c in
    subst (λ known. All P known) (sym (known_more formula log k lemma read)) (All-push P (known_before formula log k) lemma.literals was new)

pub fault_passed : (formula : Cnf) (log : List Lemma) (k line count variables : ℕ) (lemma : Lemma) (literals hints : List ℕ) → k ≤ length log → count ≡ length formula.clauses → lemma.id ≡ count + k + 1 → variables ≡ formula.variables → literals ≡ lemma.literals → hints ≡ lemma.hints
    → false ≡ list_any (λ l. nat_lt variables (variable_of l)) literals → false ≡ list_any (λ h. h == 0 || nat_le lemma.id h) hints → true ≡ chain_succeeds (known_before formula log k) literals hints
    → lemma_fault formula.variables (known_before formula log k) line lemma ≡ None
fault_passed formula log k line count variables lemma literals hints short size id vs ls hs pb pc pd =
    let known : List (List ℕ) = known_before formula log k in
    let numbered : lemma.id ≡ length known + 1 = omega (arith, length-known formula log k short) in
    let b : list_any (λ l. nat_lt formula.variables (variable_of l)) lemma.literals ≡ false = sym (pb ∙ ap (λ v. list_any (λ l. nat_lt v (variable_of l)) literals) vs ∙ ap (λ xs. list_any (λ l. nat_lt formula.variables (variable_of l)) xs) ls) in
    let c : list_any (λ h. h == 0 || nat_le lemma.id h) lemma.hints ≡ false = sym (pc ∙ ap (λ xs. list_any (λ h. h == 0 || nat_le lemma.id h) xs) hs) in
    let d : chain_succeeds known lemma.literals lemma.hints ≡ true = sym (pd ∙ ap (λ xs. chain_succeeds known xs hints) ls ∙ ap (λ xs. chain_succeeds known lemma.literals xs) hs) in
    fault_staged formula.variables known line lemma false false true numbered b c d
