-- The longest fraction at the front of a text: a point and decimals.
use Rattle.std.proofs.Common.{◌≡◌, ℕ, zero, suc, ◌+◌, ◌≤◌, ◌<◌, min, true, false, cond, ◌&&◌, eqb, List, [], ◌∷◌, length, length-take-le, get_or, take, drop, subst, refl, arith, sym, ap}
use Rattle.std.specs.Char.{is_ascii_digit}
use Rattle.std.specs.List.{prefix_len}
use Rattle.std.proofs.lemmas.Bool.{and_from, and_left, and_right, eqb-true, false≢true}
use Rattle.std.proofs.lemmas.List.Sums.{prefix_len-le-length, prefix_len_passes}
use Rattle.smc_tokens.specs.Front.{IsLongest, first_digits, decimals_in, fraction_len}
use Rattle.smc_tokens.specs.Tokens.{point, are_digits, is_fraction}
use Rattle.smc_tokens.proofs.RunLaws.{digits_longest}

-- where no digit stands first, no front is digits
no_digits : (most : ℕ) (bytes : List ℕ) (m : ℕ) → prefix_len is_ascii_digit bytes ≡ 0 → are_digits most (take m bytes) ≡ false
no_digits most bytes zero none = refl
no_digits most [] (suc m) none = refl
no_digits most (c ∷ cs) (suc m) none =
    elim (is_ascii_digit c) as (λ v. is_ascii_digit c ≡ v → are_digits most (c ∷ take m cs) ≡ false) [
      | true ↦ λ is. let some : 1 + prefix_len is_ascii_digit cs ≡ 0 = rw is at none in absurd (omega arith)
      | false ↦ λ is. and_left _ _ is
    ] refl

-- no fraction stands first
no_fraction : (b : ℕ) (bs : List ℕ) → ((m : ℕ) → (eqb b point && are_digits 4 (take m bs)) ≡ false) → IsLongest is_fraction (b ∷ bs) 0
no_fraction b bs none = record {
  within = omega arith;
  passes = refl;
  longest = λ more. elim more as (λ m. 0 < m → m ≤ length (b ∷ bs) → is_fraction (take m (b ∷ bs)) ≡ false) [
    | zero ↦ λ less within. absurd (omega arith)
    | suc m ↦ λ less within. none m
  ];
}

-- a point and as many digits as there may be
some_fraction : (b : ℕ) (bs : List ℕ) (d : ℕ) → eqb b point ≡ true → IsLongest (are_digits 4) bs d → IsLongest is_fraction (b ∷ bs) (suc d)
some_fraction b bs d is digits =
    let inside : d ≤ length bs = digits.within in
    record {
      within = omega arith;
      passes = and_from _ _ is digits.passes;
      longest = λ more. elim more as (λ m. suc d < m → m ≤ length (b ∷ bs) → is_fraction (take m (b ∷ bs)) ≡ false) [
        | zero ↦ λ less within. absurd (omega arith)
        | suc m ↦ λ less within. and_right _ _ (digits.longest m (omega arith) (omega arith))
      ];
    }

-- the decimals that a fraction takes are those that stand behind its point
pub record IsFraction (rest decimals : List ℕ) : Type 0 where
  pub longest : IsLongest is_fraction rest (fraction_len decimals)
  pub decimals_are : drop 1 (take (fraction_len decimals) rest) ≡ decimals

behind_point : (b : ℕ) (bs : List ℕ) → eqb b point ≡ true → (d : ℕ) → min (prefix_len is_ascii_digit bs) 4 ≡ d → IsFraction (b ∷ bs) (take d bs)
behind_point b bs is zero none = record { longest = no_fraction b bs (λ m. and_right _ _ (no_digits 4 bs m (omega arith))); decimals_are = refl }
behind_point b [] is (suc d) some = absurd (omega arith)
behind_point b (c ∷ cs) is (suc d) some =
    let all : prefix_len is_ascii_digit (c ∷ cs) ≤ length (c ∷ cs) = prefix_len-le-length is_ascii_digit (c ∷ cs) in
    let digit : is_ascii_digit c ≡ true = prefix_len_passes is_ascii_digit (c ∷ cs) 0 0 (omega arith) in
    let len : length (take d cs) ≡ d = length-take-le d cs (omega arith) in
    let digits : IsLongest (are_digits 4) (c ∷ cs) (suc d) = subst (IsLongest (are_digits 4) (c ∷ cs)) some (digits_longest 4 (c ∷ cs) (omega arith) digit) in
    let count : suc (suc d) ≡ fraction_len (take (suc d) (c ∷ cs)) = omega arith in
    record {
      longest = subst (IsLongest is_fraction (b ∷ c ∷ cs)) count (some_fraction b (c ∷ cs) (suc d) is digits);
      decimals_are = ap (λ n. drop 1 (take n (b ∷ c ∷ cs))) (sym count);
    }

pub fraction_at : (rest : List ℕ) → IsFraction rest (decimals_in rest)
fraction_at [] = record { longest = record { within = omega arith; passes = refl; longest = λ more less within. absurd (omega arith) }; decimals_are = refl }
fraction_at (b ∷ bs) =
    elim (eqb b point) as (λ v. eqb b point ≡ v → IsFraction (b ∷ bs) (cond v (first_digits 4 bs) [])) [
      | true ↦ λ is. behind_point b bs is _ refl
      | false ↦ λ is. record { longest = no_fraction b bs (λ m. and_left _ _ is); decimals_are = refl }
    ] refl

-- a digit is no point
pub no_decimals : (rest : List ℕ) → is_ascii_digit (get_or rest 0 0) ≡ true → decimals_in rest ≡ []
no_decimals [] digit = refl
no_decimals (b ∷ bs) digit =
    elim (eqb b point) as (λ v. eqb b point ≡ v → cond v (first_digits 4 bs) [] ≡ []) [
      | true ↦ λ is. let here : is_ascii_digit 46 ≡ true = subst (λ byte. is_ascii_digit byte ≡ true) (eqb-true b point is) digit in absurd (false≢true here)
      | false ↦ λ is. refl
    ] refl
