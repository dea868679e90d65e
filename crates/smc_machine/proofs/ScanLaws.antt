-- The scan with a number is the first one that has it.
use Rattle.std.proofs.Common.{◌≡◌, ℕ, ◌+◌, ◌<◌, ◌≤◌, ◌==◌, not, cond, zero, suc, Bool, true, false, Some, None, List, [], ◌∷◌, ◌++◌, length, take, drop, get_or, refl, ap, arith}
use Rattle.std.specs.List.{position, position_or_len}
use Rattle.std.proofs.lemmas.Bool.Decides.{nat_tests}
use Rattle.std.proofs.lemmas.List.Quantifiers.{position-Some}
use Rattle.smc_core.specs.declared.local.Scan.{Scan}
use Rattle.smc_core.specs.Scan.{passed, ended, new_scan}
use Rattle.smc_machine.specs.Added.{first_passed, first_ended}

-- the scan that stands here has another number
abbrev IsOther : ℕ → List Scan → ℕ → Type 0
IsOther number scans k = ((get_or scans k (new_scan 0 0)).number == number) ≡ false

-- a scan with the number stands here, and none before
record IsFound (number : ℕ) (scans : List Scan) (i : ℕ) : Type 0 where
  within : i < length scans
  here : ((get_or scans i (new_scan 0 0)).number == number) ≡ true
  before : (k : ℕ) → k < i → IsOther number scans k

-- so it is the one that passes
passed-found : (number place : ℕ) (scans : List Scan) (i : ℕ) → IsFound number scans i → passed scans number place ≡ take i scans ++ first_passed (drop i scans) place
passed-found number place [] i found = absurd (omega (arith, found.within))
passed-found number place (first ∷ later) zero found = rw found.here refl
passed-found number place (first ∷ later) (suc i) found =
    let rest : IsFound number later i = record { within = omega (arith, found.within); here = found.here; before = λ k l. found.before (suc k) (omega arith) } in
    let other : (first.number == number) ≡ false = found.before zero (omega arith) in
    rw other (ap (λ (s : List Scan). first ∷ s) (passed-found number place later i rest))

-- and the one that ends
ended-found : (number : ℕ) (scans : List Scan) (i : ℕ) → IsFound number scans i → ended scans number ≡ take i scans ++ first_ended (drop i scans)
ended-found number [] i found = absurd (omega (arith, found.within))
ended-found number (first ∷ later) zero found = rw found.here refl
ended-found number (first ∷ later) (suc i) found =
    let rest : IsFound number later i = record { within = omega (arith, found.within); here = found.here; before = λ k l. found.before (suc k) (omega arith) } in
    let other : (first.number == number) ≡ false = found.before zero (omega arith) in
    rw other (ap (λ (s : List Scan). first ∷ s) (ended-found number later i rest))

-- where a scan is found
found-some : (number : ℕ) (scans : List Scan) (i : ℕ) → position (λ scan. scan.number == number) scans ≡ Some i → IsFound number scans i
found-some number scans i at =
    let some = position-Some (λ (scan : Scan). scan.number == number) scans i (new_scan 0 0) at in
    record { within = some.0; here = some.1; before = some.2 }

-- none is found where the first place is past the last scan
abbrev IsPast : ℕ → List Scan → Type 0
IsPast number scans = length scans ≤ position_or_len (λ (scan : Scan). scan.number == number) scans

found-none : (number : ℕ) (scans : List Scan) → position (λ scan. scan.number == number) scans ≡ None → IsPast number scans
found-none number scans none = grind (arith, nat_tests)

-- of the scans past which it is, the first has another number, and it is past the others
past-first : (test : Bool) (len at : ℕ) → suc len ≤ cond (not test) (1 + at) 0 → (test ≡ false) × (len ≤ at)
past-first true len at past = absurd (omega arith)
past-first false len at past = (refl, omega arith)

passed-past : (number place : ℕ) (scans : List Scan) → IsPast number scans → passed scans number place ≡ scans
passed-past number place [] past = refl
passed-past number place (first ∷ later) past =
    let rest = past-first (first.number == number) (length later) (position_or_len (λ (scan : Scan). scan.number == number) later) past in
    rw rest.0 (ap (λ (s : List Scan). first ∷ s) (passed-past number place later rest.1))

ended-past : (number : ℕ) (scans : List Scan) → IsPast number scans → ended scans number ≡ scans
ended-past number [] past = refl
ended-past number (first ∷ later) past =
    let rest = past-first (first.number == number) (length later) (position_or_len (λ (scan : Scan). scan.number == number) later) past in
    rw rest.0 (ap (λ (s : List Scan). first ∷ s) (ended-past number later rest.1))

-- where none is found, no scan passes and none ends
pub passed-none : (number place : ℕ) (scans : List Scan) → position (λ scan. scan.number == number) scans ≡ None → passed scans number place ≡ scans
passed-none number place scans none = passed-past number place scans (found-none number scans none)

pub ended-none : (number : ℕ) (scans : List Scan) → position (λ scan. scan.number == number) scans ≡ None → ended scans number ≡ scans
ended-none number scans none = ended-past number scans (found-none number scans none)

-- where it is found, that one passes, or ends
pub passed-split : (number place : ℕ) (scans : List Scan) (i : ℕ) → position (λ scan. scan.number == number) scans ≡ Some i
    → passed scans number place ≡ take i scans ++ first_passed (drop i scans) place
passed-split number place scans i at = passed-found number place scans i (found-some number scans i at)

pub ended-split : (number : ℕ) (scans : List Scan) (i : ℕ) → position (λ scan. scan.number == number) scans ≡ Some i
    → ended scans number ≡ take i scans ++ first_ended (drop i scans)
ended-split number scans i at = ended-found number scans i (found-some number scans i at)
