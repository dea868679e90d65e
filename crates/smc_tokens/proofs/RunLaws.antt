-- How far a text goes on with bytes that pass a test, and the fronts that are so.
use Rattle.std.proofs.Common.{◌≡◌, inl, inr, ℕ, zero, suc, ◌+◌, ◌-◌, ◌≤◌, ◌<◌, min, Bool, true, false, cond, ◌&&◌, List, [], ◌∷◌, length, length-take-le, get_or, take, subst, refl, arith, ◌∙◌, sym}
use Rattle.std.specs.Prelude.{nat_lt}
use Rattle.std.specs.Char.{is_ascii_digit, is_ascii_lowercase}
use Rattle.std.specs.List.{list_all, prefix_len}
use Rattle.std.proofs.lemmas.Bool.{and_from, and_left, and_right, cases_lt, or_left, lt-ltb, le-ltb, cond-true, true≢false}
use Rattle.std.proofs.lemmas.List.Sums.{prefix_len-le-length}
use Rattle.smc_tokens.specs.Front.{IsLongest}
use Rattle.smc_tokens.specs.Tokens.{is_name, is_name_byte, are_digits}

-- a front no longer than the run passes whole
pub all_front : (p : ℕ → Bool) (xs : List ℕ) (k : ℕ) → k ≤ prefix_len p xs → list_all p (take k xs) ≡ true
all_front p xs zero short = refl
all_front p [] (suc k) short = refl
all_front p (x ∷ xs) (suc k) short =
    elim (p x) as (λ b. p x ≡ b → list_all p (take (suc k) (x ∷ xs)) ≡ true) [
      | true ↦ λ is. let run : suc k ≤ 1 + prefix_len p xs = rw is at short in and_from _ _ is (all_front p xs k (omega arith))
      | false ↦ λ is. let run : suc k ≤ 0 = rw is at short in absurd (omega arith)
    ] refl

-- a longer one does not
pub not_all_front : (p : ℕ → Bool) (xs : List ℕ) (k : ℕ) → prefix_len p xs < k → k ≤ length xs → list_all p (take k xs) ≡ false
not_all_front p xs zero long within = absurd (omega arith)
not_all_front p [] (suc k) long within = absurd (omega arith)
not_all_front p (x ∷ xs) (suc k) long within =
    elim (p x) as (λ b. p x ≡ b → list_all p (take (suc k) (x ∷ xs)) ≡ false) [
      | true ↦ λ is. let run : 1 + prefix_len p xs < suc k = rw is at long in and_right _ _ (not_all_front p xs k (omega arith) (omega arith))
      | false ↦ λ is. and_left _ _ is
    ] refl

-- how far a front goes on
pub prefix_len-take : (p : ℕ → Bool) (xs : List ℕ) (k : ℕ) → prefix_len p (take k xs) ≡ min k (prefix_len p xs)
prefix_len-take p xs zero = omega arith
prefix_len-take p [] (suc k) = omega arith
prefix_len-take p (x ∷ xs) (suc k) =
    let more = prefix_len-take p xs k in
    elim (p x) as (λ b. cond b (1 + prefix_len p (take k xs)) 0 ≡ min (suc k) (cond b (1 + prefix_len p xs) 0)) [
      | true ↦ omega (arith, more)
      | false ↦ omega arith
    ]

-- ---- a first byte, and bytes behind it that are few enough

-- the bytes pass, and are fewer than the most
abbrev few_pass : (ℕ → Bool) → ℕ → List ℕ → Bool
few_pass p most bytes = list_all p bytes && nat_lt (length bytes) most

few_pass_front : (p : ℕ → Bool) (most : ℕ) (xs : List ℕ) (k : ℕ) → k ≤ prefix_len p xs → k < most → few_pass p most (take k xs) ≡ true
few_pass_front p most xs k short few =
    let within : k ≤ length xs = omega (arith, prefix_len-le-length p xs) in
    and_from _ _ (all_front p xs k short) (lt-ltb _ _ (rw (length-take-le k xs within) few))

too_long_front : (p : ℕ → Bool) (most : ℕ) (xs : List ℕ) (k : ℕ) → k ≤ length xs → min (prefix_len p xs) (most - 1) < k → 0 < most → few_pass p most (take k xs) ≡ false
too_long_front p most xs k within long some =
    let len : length (take k xs) ≡ k = length-take-le k xs within in
    elim (cases_lt (prefix_len p xs) k) [
      | inl past ↦ and_left _ _ (not_all_front p xs k past within)
      | inr short ↦ and_right _ _ (le-ltb (length (take k xs)) most (omega arith))
    ]

-- the longest front that begins so and goes on so
head_longest : (test : List ℕ → Bool) (p : ℕ → Bool) (most b : ℕ) (bs : List ℕ) → test [] ≡ false → ((ys : List ℕ) → test (b ∷ ys) ≡ few_pass p most ys)
    → p b ≡ true → 0 < most → IsLongest test (b ∷ bs) (min (prefix_len p (b ∷ bs)) most)
head_longest test p most b bs none behind head some =
    let run : prefix_len p (b ∷ bs) ≡ 1 + prefix_len p bs = cond-true _ _ _ head in
    let all : prefix_len p bs ≤ length bs = prefix_len-le-length p bs in
    let back : ℕ = min (prefix_len p bs) (most - 1) in
    let count_is : min (prefix_len p (b ∷ bs)) most ≡ suc back = omega (arith, run) in
    subst (IsLongest test (b ∷ bs)) (sym count_is) (record {
      within = omega arith;
      passes = behind (take back bs) ∙ few_pass_front p most bs back (omega arith) (omega arith);
      longest = λ more. elim more as (λ m. suc back < m → m ≤ suc (length bs) → test (take m (b ∷ bs)) ≡ false) [
        | zero ↦ λ less within. none
        | suc m ↦ λ less within. behind (take m bs) ∙ too_long_front p most bs m (omega arith) (omega arith) some
      ];
    })

-- a lower-case letter is a byte of a name
letter_in_name : (byte : ℕ) → is_ascii_lowercase byte ≡ true → is_name_byte byte ≡ true
letter_in_name byte is = or_left _ _ (or_left _ _ is)

-- the longest name at the front of a text that begins with a letter
pub name_longest : (text : List ℕ) → is_ascii_lowercase (get_or text 0 0) ≡ true → IsLongest is_name text (min (prefix_len is_name_byte text) 32)
name_longest [] letter = absurd (true≢false (sym letter))
name_longest (b ∷ bs) letter = head_longest is_name is_name_byte 32 b bs refl (λ ys. rw letter refl) (letter_in_name b letter) (omega arith)

-- the longest digits at the front of a text that begins with a digit
pub digits_longest : (most : ℕ) (text : List ℕ) → 0 < most → is_ascii_digit (get_or text 0 0) ≡ true → IsLongest (are_digits most) text (min (prefix_len is_ascii_digit text) most)
digits_longest most [] some digit = absurd (true≢false (sym digit))
digits_longest most (b ∷ bs) some digit = head_longest (are_digits most) is_ascii_digit most b bs refl (λ ys. rw digit refl) digit some
