-- The sign at the front of a text.
use Rattle.std.proofs.Common.{◌≡◌, ℕ, zero, suc, ◌≤◌, ◌<◌, true, false, ◌&&◌, ltb, List, [], ◌∷◌, length, get_or, take, Some, None, subst, refl, arith, ◌∙◌, ap}
use Rattle.std.specs.Str.{bytes_eq}
use Rattle.std.proofs.lemmas.Bool.{and_parts, and_right, ltb-true}
use Rattle.std.proofs.lemmas.Slice.Eq.{bytes_eq-Decides}
use Rattle.smc_tokens.specs.Front.{begins_other, pair_at, spelled_sign}
use Rattle.smc_tokens.specs.Marks.{sign_text}
use Rattle.smc_tokens.specs.Tokens.{all_signs, signed, token_of, TakesToken, BeginsNoToken}
use Rattle.smc_tokens.specs.declared.token.Token.TheVariants.{Sign as OfSign}
use Rattle.smc_tokens.specs.declared.sign.Sign.{Sign}
use Rattle.smc_tokens.specs.declared.sign.Sign.TheVariants.{Equal, Unequal, Less, LessEqual, Greater, GreaterEqual, Plus, Minus, Star, Open, Close, OpenBracket, CloseBracket, Comma, Dot}
use Rattle.smc_tokens.proofs.Finding.{find_none, find_passes}
use Rattle.smc_tokens.proofs.KindLaws.{sign_token}
use Rattle.smc_tokens.proofs.TokenLaws.{no-token}

-- no sign has three bytes
longer : (sign : Sign) (a b c : ℕ) (rest : List ℕ) → bytes_eq (sign_text sign) (a ∷ b ∷ c ∷ rest) ≡ false
longer Equal a b c rest = and_right _ _ refl
longer Unequal a b c rest = and_right _ _ (and_right _ _ refl)
longer Less a b c rest = and_right _ _ refl
longer LessEqual a b c rest = and_right _ _ (and_right _ _ refl)
longer Greater a b c rest = and_right _ _ refl
longer GreaterEqual a b c rest = and_right _ _ (and_right _ _ refl)
longer Plus a b c rest = and_right _ _ refl
longer Minus a b c rest = and_right _ _ refl
longer Star a b c rest = and_right _ _ refl
longer Open a b c rest = and_right _ _ refl
longer Close a b c rest = and_right _ _ refl
longer OpenBracket a b c rest = and_right _ _ refl
longer CloseBracket a b c rest = and_right _ _ refl
longer Comma a b c rest = and_right _ _ refl
longer Dot a b c rest = and_right _ _ refl

three_bytes : (a b c : ℕ) (rest : List ℕ) → spelled_sign (a ∷ b ∷ c ∷ rest) ≡ None
three_bytes a b c rest = find_none (λ sign. bytes_eq (sign_text sign) (a ∷ b ∷ c ∷ rest)) all_signs (λ sign. longer sign a b c rest)

-- a sign that bytes spell is written as these bytes
spelled_is : (bytes : List ℕ) (sign : Sign) → spelled_sign bytes ≡ Some sign → sign_text sign ≡ bytes
spelled_is bytes sign found = (bytes_eq-Decides (sign_text sign) bytes).0 (find_passes (λ sign. bytes_eq (sign_text sign) bytes) all_signs sign found)

-- signs are written in ASCII
small : (sign : Sign) → (ltb (get_or (sign_text sign) 0 0) 128 && ltb (get_or (sign_text sign) 1 0) 128) ≡ true
small Equal = refl
small Unequal = refl
small Less = refl
small LessEqual = refl
small Greater = refl
small GreaterEqual = refl
small Plus = refl
small Minus = refl
small Star = refl
small Open = refl
small Close = refl
small OpenBracket = refl
small CloseBracket = refl
small Comma = refl
small Dot = refl

sign_ascii : (a : ℕ) (bytes : List ℕ) (sign : Sign) → spelled_sign (a ∷ bytes) ≡ Some sign → (a < 128) × (get_or bytes 0 0 < 128)
sign_ascii a bytes sign found =
    let (first, second) = and_parts (ltb (get_or (sign_text sign) 0 0) 128) (ltb (get_or (sign_text sign) 1 0) 128) (small sign) in
    let is = spelled_is (a ∷ bytes) sign found in (
      subst (λ text. get_or text 0 0 < 128) is (ltb-true (get_or (sign_text sign) 0 0) 128 first),
      subst (λ text. get_or text 1 0 < 128) is (ltb-true (get_or (sign_text sign) 1 0) 128 second),
    )

-- a front of three bytes or more is no token
long_front : (a b : ℕ) (rest : List ℕ) (k : ℕ) → begins_other a ≡ false → suc (suc (suc k)) ≤ length (a ∷ b ∷ rest) → token_of (take (suc (suc (suc k))) (a ∷ b ∷ rest)) ≡ None
long_front a b [] k other within = absurd (omega arith)
long_front a b (c ∷ rest) k other within = sign_token a (b ∷ c ∷ take k rest) other ∙ ap signed (three_bytes a b c (take k rest))

-- ---- what a reader found

pub pair_found : (text : List ℕ) (sign : Sign) → begins_other (get_or text 0 0) ≡ false → pair_at text ≡ Some sign → TakesToken text 2 (OfSign sign) × (get_or text 1 0 < 128)
pair_found [] sign other found = let h = found in cc
pair_found (a ∷ []) sign other found = let h = found in cc
pair_found (a ∷ b ∷ rest) sign other found =
    let (first, second) = sign_ascii a (b ∷ []) sign found in (
      record {
        within = omega arith;
        spelled = sign_token a (b ∷ []) other ∙ ap signed found;
        longest = λ more. elim more as (λ m. 2 < m → m ≤ length (a ∷ b ∷ rest) → token_of (take m (a ∷ b ∷ rest)) ≡ None) [
          | zero ↦ λ less within. absurd (omega arith)
          | suc m ↦ elim m as (λ m. 2 < suc m → suc m ≤ length (a ∷ b ∷ rest) → token_of (take (suc m) (a ∷ b ∷ rest)) ≡ None) [
            | zero ↦ λ less within. absurd (omega arith)
            | suc m ↦ elim m as (λ m. 2 < suc (suc m) → suc (suc m) ≤ length (a ∷ b ∷ rest) → token_of (take (suc (suc m)) (a ∷ b ∷ rest)) ≡ None) [
              | zero ↦ λ less within. absurd (omega arith)
              | suc m ↦ λ less within. long_front a b rest m other within
            ]
          ]
        ];
      },
      second,
    )

-- the fronts behind the first byte where the first two are no sign
no_pair : (a : ℕ) (rest : List ℕ) (k : ℕ) → begins_other a ≡ false → pair_at (a ∷ rest) ≡ None → suc (suc k) ≤ length (a ∷ rest) → token_of (take (suc (suc k)) (a ∷ rest)) ≡ None
no_pair a [] k other none within = absurd (omega arith)
no_pair a (b ∷ rest) zero other none within = sign_token a (b ∷ []) other ∙ ap signed none
no_pair a (b ∷ rest) (suc k) other none within = long_front a b rest k other within

pub byte_found : (text : List ℕ) (sign : Sign) → 0 < length text → begins_other (get_or text 0 0) ≡ false → pair_at text ≡ None → spelled_sign (get_or text 0 0 ∷ []) ≡ Some sign
    → TakesToken text 1 (OfSign sign) × (get_or text 0 0 < 128)
byte_found [] sign some other none found = absurd (omega arith)
byte_found (a ∷ rest) sign some other none found =
    let (first, second) = sign_ascii a [] sign found in (
      record {
        within = omega arith;
        spelled = sign_token a [] other ∙ ap signed found;
        longest = λ more. elim more as (λ m. 1 < m → m ≤ length (a ∷ rest) → token_of (take m (a ∷ rest)) ≡ None) [
          | zero ↦ λ less within. absurd (omega arith)
          | suc m ↦ elim m as (λ m. 1 < suc m → suc m ≤ length (a ∷ rest) → token_of (take (suc m) (a ∷ rest)) ≡ None) [
            | zero ↦ λ less within. absurd (omega arith)
            | suc m ↦ λ less within. no_pair a rest m other none within
          ]
        ];
      },
      first,
    )

pub sign_none : (text : List ℕ) → begins_other (get_or text 0 0) ≡ false → pair_at text ≡ None → spelled_sign (get_or text 0 0 ∷ []) ≡ None → BeginsNoToken text
sign_none text other none alone zero within = no-token
sign_none [] other none alone (suc k) within = no-token
sign_none (a ∷ rest) other none alone (suc zero) within = sign_token a [] other ∙ ap signed alone
sign_none (a ∷ rest) other none alone (suc (suc k)) within = no_pair a rest k other none within
