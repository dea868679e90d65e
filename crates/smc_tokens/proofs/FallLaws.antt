-- Every text falls into tokens.
use Rattle.std.proofs.Common.{◌≡◌, ◌≢◌, ◌⊎◌, inl, inr, ℕ, zero, suc, ◌+◌, ◌-◌, ◌<◌, ◌≤◌, Bool, true, false, List, [], ◌∷◌, length, length-drop, take, drop, Option, Some, None, refl, sym, ap, subst, arith}
use Rattle.std.specs.Prelude.{◌↔◌, IsTrue}
use Rattle.std.proofs.lemmas.Bool.{cases_eq, cases_lt, false≢true}
use Rattle.std.proofs.lemmas.List.{drop-drop}
use Rattle.smc_tokens.specs.declared.token.Token.{Token}
use Rattle.smc_tokens.specs.TokenList.{FallsIntoSome}
use Rattle.smc_tokens.specs.Tokens.{space, token_of, PlacedToken, TakesToken, BeginsNoToken, FallsInto, ended, spaced, taken, refused}
use Rattle.smc_tokens.proofs.AsciiLaws.{taken_some}
use Rattle.smc_tokens.proofs.TokenLaws.{no-token}

-- ---- the longest token

abbrev Takes : List ℕ → Type 0
Takes text = (count : ℕ) × ((token : Token) × TakesToken text count token)

-- no front of more bytes than these is a token
abbrev NoneAbove : List ℕ → ℕ → Type 0
NoneAbove text n = (more : ℕ) → n < more → more ≤ length text → token_of (take more text) ≡ None

above-less : (text : List ℕ) (n : ℕ) → NoneAbove text (suc n) → token_of (take (suc n) text) ≡ None → NoneAbove text n
above-less text n above none more less within = elim (cases_lt (suc n) more) [ inl lt ↦ above more lt within | inr le ↦ let same : suc n ≡ more = omega arith in subst (λ k. token_of (take k text) ≡ None) same none ]

none-at : (text : List ℕ) → NoneAbove text 0 → BeginsNoToken text
none-at text above zero within = no-token
none-at text above (suc n) within = above (suc n) (omega arith) within

at-longest : (text : List ℕ) (n : ℕ) (now : Option Token) → suc n ≤ length text → NoneAbove text (suc n) → (NoneAbove text n → Takes text ⊎ BeginsNoToken text)
    → token_of (take (suc n) text) ≡ now → Takes text ⊎ BeginsNoToken text
at-longest text n (Some token) within above go is = inl (suc n, (token, record { within = within; spelled = is; longest = above }))
at-longest text n None within above go is = go (above-less text n above is)

longest : (text : List ℕ) (n : ℕ) → n ≤ length text → NoneAbove text n → Takes text ⊎ BeginsNoToken text
longest text zero within above = inr (none-at text above)
longest text (suc n) within above = at-longest text n (token_of (take (suc n) text)) within above (longest text n (omega arith)) refl

take-or-none : (text : List ℕ) → Takes text ⊎ BeginsNoToken text
take-or-none text = longest text (length text) (omega arith) (λ more less within. absurd (omega arith))

-- ---- all tokens of a text

-- from a byte on, a text falls into tokens, up to so many bytes further on
record Falls (at : ℕ) (text : List ℕ) : Type 0 where
  pub tokens : List PlacedToken
  pub count : ℕ
  pub within : count ≤ length text
  pub falls : FallsInto at text tokens (at + count) (drop count text)

falls-nothing : (at : ℕ) → Falls at []
falls-nothing at = let here : at ≡ at + 0 = omega arith in record { tokens = []; count = 0; within = omega arith; falls = subst (λ end. FallsInto at [] [] end []) here ended }

falls-refused : (at byte : ℕ) (bytes : List ℕ) → byte ≢ space → BeginsNoToken (byte ∷ bytes) → Falls at (byte ∷ bytes)
falls-refused at byte bytes ne none =
    let here : at ≡ at + 0 = omega arith in record { tokens = []; count = 0; within = omega arith; falls = subst (λ end. FallsInto at (byte ∷ bytes) [] end (byte ∷ bytes)) here (refused ne none) }

falls-spaced : (at byte : ℕ) (bytes : List ℕ) → byte ≡ space → Falls (at + 1) bytes → Falls at (byte ∷ bytes)
falls-spaced at byte bytes is f =
    let there : at + 1 + f.count ≡ at + suc f.count = omega arith in
    let P : ℕ → Type 0 = λ end. FallsInto at (space ∷ bytes) f.tokens end (drop f.count bytes) in
    let Q : ℕ → Type 0 = λ b. FallsInto at (b ∷ bytes) f.tokens (at + suc f.count) (drop f.count bytes) in
    record { tokens = f.tokens; count = suc f.count; within = let w = f.within in omega arith; falls = subst Q (sym is) (subst P there (spaced f.falls)) }

falls-taken : (at : ℕ) (text : List ℕ) (count : ℕ) (token : Token) → TakesToken text count token → Falls (at + count) (drop count text) → Falls at text
falls-taken at text count token t f =
    let there : at + count + f.count ≡ at + (count + f.count) = omega arith in
    let inside : count ≤ length text = t.within in
    let left : length (drop count text) ≡ length text - count = length-drop count text in
    let less : f.count ≤ length (drop count text) = f.within in
    let all : List PlacedToken = record { token = token; at = at } ∷ f.tokens in
    let P : ℕ → Type 0 = λ end. FallsInto at text all end (drop f.count (drop count text)) in
    let Q : List ℕ → Type 0 = λ rest. FallsInto at text all (at + (count + f.count)) rest in
    record { tokens = all; count = count + f.count; within = omega arith; falls = subst Q (drop-drop f.count count text) (subst P there (taken t f.falls)) }

falls-first : (fuel at byte : ℕ) (bytes : List ℕ) → length bytes ≤ fuel → ((from : ℕ) (rest : List ℕ) → length rest ≤ fuel → Falls from rest) → byte ≢ space
    → Takes (byte ∷ bytes) ⊎ BeginsNoToken (byte ∷ bytes) → Falls at (byte ∷ bytes)
falls-first fuel at byte bytes less go ne (inl (count, (token, t))) =
    let some : 0 < count = taken_some t in
    let left : length (drop count (byte ∷ bytes)) ≡ length (byte ∷ bytes) - count = length-drop count (byte ∷ bytes) in
    falls-taken at (byte ∷ bytes) count token t (go (at + count) (drop count (byte ∷ bytes)) (omega arith))
falls-first fuel at byte bytes less go ne (inr none) = falls-refused at byte bytes ne none

falls-somehow : (fuel at : ℕ) (text : List ℕ) → length text ≤ fuel → Falls at text
falls-somehow fuel at [] less = falls-nothing at
falls-somehow zero at (byte ∷ bytes) less = absurd (omega arith)
falls-somehow (suc fuel) at (byte ∷ bytes) less = elim (cases_eq byte space) [
  | inl is ↦ falls-spaced at byte bytes is (falls-somehow fuel (at + 1) bytes (omega arith))
  | inr ne ↦ falls-first fuel at byte bytes (omega arith) (falls-somehow fuel) ne (take-or-none (byte ∷ bytes))
]

-- whether nothing is left
abbrev is-none : List ℕ → Bool
is-none [] = true
is-none (byte ∷ rest) = false

none-iff : (rest : List ℕ) → IsTrue (is-none rest) ↔ (rest ≡ [])
none-iff [] = (λ _. refl, λ _. refl)
none-iff (byte ∷ rest) = (λ yes. absurd (false≢true yes), λ empty. let n : suc (length rest) ≡ 0 = ap length empty in absurd (omega arith))

pub falls-into-some : FallsIntoSome
falls-into-some text =
    let f = falls-somehow (length text) 0 text (omega arith) in
    let here : 0 + f.count ≡ f.count = omega arith in
    let P : ℕ → Type 0 = λ end. FallsInto 0 text f.tokens end (drop f.count text) in
    (record { tokens = f.tokens; end = f.count; whole = is-none (drop f.count text) }, record { falls = subst P here f.falls; within = f.within; whole = none-iff (drop f.count text) })
