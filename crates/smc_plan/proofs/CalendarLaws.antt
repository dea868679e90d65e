-- The calendar of query texts is that of the tables.
use Rattle.std.proofs.Common.{◌≡◌, ℕ, zero, suc, ◌≤◌, Bool, true, false, ◌&&◌, ◌||◌, not, Ok, refl, sym, ap, ◌∙◌, inl, inr, arith}
use Rattle.std.specs.Prelude.{nat_le, nat_lt, ◌==◌}
use Rattle.std.proofs.lemmas.Bool.{and_right, cases_order, cond-true, cond-false}
use Rattle.std.proofs.lemmas.Bool.Decides.{nat_tests}
use Rattle.smc_tokens.specs.Tokens.{is_civil}
use Rattle.smc_tokens.specs.Tokens as tokens
use Rattle.smc_types.specs.Calendar as tables
use Rattle.smc_types.specs.declared.days.TheConstants.{YEAR_MAX}
use Rattle.smc_plan.specs.Exprs.{day_planned, day_typed, has_date}

there : (day : ℕ) → not (day == 0) ≡ nat_le 1 day
there zero = refl
there (suc day) =
    let apart : (suc day == 0) ≡ false = grind (arith, nat_tests) in
    let more : nat_le 1 (suc day) ≡ true = grind (arith, nat_tests) in
    ap not apart ∙ sym more

no-days : (day : ℕ) → (not (day == 0) && nat_le day 0) ≡ false
no-days zero = refl
no-days (suc day) = let more : nat_le (suc day) 0 ≡ false = grind (arith, nat_tests) in and_right (not (suc day == 0)) (nat_le (suc day) 0) more

-- a month of the year
in-year : (year month day : ℕ) → year ≤ YEAR_MAX → 1 ≤ month → month ≤ 12 → has_date year month day ≡ is_civil year month day
in-year year month day years low high =
    let first : nat_le year YEAR_MAX ≡ true = grind (arith, nat_tests) in
    let one : nat_le 1 month ≡ true = grind (arith, nat_tests) in
    let twelve : nat_le month 12 ≡ true = grind (arith, nat_tests) in
    let none : (month == 0) ≡ false = grind (arith, nat_tests) in
    let more : nat_lt 12 month ≡ false = grind (arith, nat_tests) in
    let days : tokens.days_in_month year month ≡ tables.days_in_month year month = cond-false _ _ _ (ap (λ b. b || nat_lt 12 month) none ∙ more) in
    rw (first, one, twelve, days) (ap (λ b. b && nat_le day (tables.days_in_month year month)) (sym (there day)))

-- and none of it
no-month : (year month day : ℕ) → (month == 0 || nat_lt 12 month) ≡ true → is_civil year month day ≡ false
no-month year month day none = ap (λ days. not (day == 0) && nat_le day days) (cond-true _ _ _ none) ∙ no-days day

no-date : (one two three four five : Bool) → (two && three) ≡ false → (one && two && three && four && five) ≡ false
no-date false two three four five none = refl
no-date true false three four five none = refl
no-date true true false four five none = refl
no-date true true true four five none = cc

pub one-calendar : (year month day : ℕ) → year ≤ YEAR_MAX → has_date year month day ≡ is_civil year month day
one-calendar year zero day years =
    no-date (nat_le year YEAR_MAX) (nat_le 1 0) (nat_le 0 12) (nat_le 1 day) (nat_le day (tables.days_in_month year 0)) refl ∙ sym (no-month year 0 day refl)
one-calendar year (suc month) day years = elim (cases_order (suc month) 12) [
  | inl same ↦ in-year year (suc month) day years (omega arith) (omega (arith, same))
  | inr apart ↦ elim apart [
    | inl earlier ↦ in-year year (suc month) day years (omega arith) (omega (arith, earlier))
    | inr later ↦
        let twelve : nat_le (suc month) 12 ≡ false = grind (arith, nat_tests, later) in
        let none : (suc month == 0 || nat_lt 12 (suc month)) ≡ true = grind (arith, nat_tests, later) in
        no-date (nat_le year YEAR_MAX) (nat_le 1 (suc month)) (nat_le (suc month) 12) (nat_le 1 day) (nat_le day (tables.days_in_month year (suc month)))
        (and_right (nat_le 1 (suc month)) (nat_le (suc month) 12) twelve)
        ∙ sym (no-month year (suc month) day none)
  ]
]

pub date-taken : (year month day : ℕ) → year ≤ YEAR_MAX → is_civil year month day ≡ true → day_typed year month day ≡ Ok (day_planned year month day)
date-taken year month day years civil = cond-true _ _ _ (one-calendar year month day years ∙ civil)
