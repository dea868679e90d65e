-- The last byte of a token is of ASCII.
use Rattle.std.proofs.Common.{◌≡◌, ℕ, zero, suc, ◌+◌, ◌-◌, ◌≤◌, ◌<◌, Bool, true, List, [], ◌∷◌, length, length-take-le, get_or, take, subst, refl, arith}
use Rattle.std.specs.List.{list_all}
use Rattle.std.specs.Str.{IsUtf8, IsCharBoundary}
use Rattle.std.proofs.lemmas.Str.{IsCharBoundary-after_ascii}
use Rattle.std.proofs.lemmas.Bool.{and_from, and_parts}
use Rattle.std.proofs.lemmas.List.{get_or-take}
use Rattle.smc_tokens.specs.Tokens.{TakesToken}
use Rattle.smc_tokens.specs.declared.token.Token.{Token}
use Rattle.smc_tokens.proofs.DigitLaws.{all_at}
use Rattle.smc_tokens.proofs.TokenLaws.{no-token}

-- what passes one test passes another
pub all_imply : (p q : ℕ → Bool) → ((x : ℕ) → p x ≡ true → q x ≡ true) → (xs : List ℕ) → list_all p xs ≡ true → list_all q xs ≡ true
all_imply p q imply [] all = refl
all_imply p q imply (x ∷ xs) all = let (here, more) = and_parts _ _ all in and_from _ _ (imply x here) (all_imply p q imply xs more)

-- a token has a byte
pub taken_some : {text : List ℕ} {count : ℕ} {token : Token} → TakesToken text count token → 0 < count
taken_some {count = zero} takes = let spelled = takes.spelled in let none = no-token in absurd (cc)
taken_some {count = suc k} takes = omega arith

-- the last byte of a front passes the test of its bytes
pub last_ascii : (p : ℕ → Bool) → ((x : ℕ) → p x ≡ true → x < 128) → (text : List ℕ) (count : ℕ) → 0 < count → count ≤ length text
    → list_all p (take count text) ≡ true → get_or text (count - 1) 0 < 128
last_ascii p ascii text count some within all =
    let len : length (take count text) ≡ count = length-take-le count text within in
    let here : p (get_or (take count text) (count - 1) 0) ≡ true = all_at p (take count text) (count - 1) all (omega arith) in
    let same : get_or (take count text) (count - 1) 0 ≡ get_or text (count - 1) 0 = get_or-take count text (count - 1) 0 (omega arith) in
    let small : get_or (take count text) (count - 1) 0 < 128 = ascii _ here in
    omega arith

-- behind a byte of ASCII a text may be cut
pub ascii_cut : (text : List ℕ) (count : ℕ) → IsUtf8 text → 0 < count → count ≤ length text → get_or text (count - 1) 0 < 128 → IsCharBoundary text count
ascii_cut text count utf8 some within ascii =
    let there : count - 1 + 1 ≡ count = omega arith in
    subst (IsCharBoundary text) there (IsCharBoundary-after_ascii text (count - 1) utf8 (omega arith) ascii)
