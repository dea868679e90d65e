-- A text falls into its longest tokens in one way.
use Rattle.std.proofs.Common.{◌≡◌, ◌⊎◌, inl, inr, ℕ, zero, suc, ◌+◌, ◌<◌, List, [], ◌∷◌, take, drop, None, refl, sym, ap, subst, arith}
use Rattle.std.proofs.lemmas.Bool.{cases_order}
use Rattle.smc_tokens.specs.declared.token.Token.{Token}
use Rattle.smc_tokens.specs.Tokens.{space, token_of, TakesToken, BeginsNoToken, PlacedToken, FallsInto, ended, spaced, taken, refused, FallsIntoOne}

-- nothing is no token, nor is what begins with a space
pub no-token : token_of [] ≡ None
unfolding token_of
no-token = refl

space-token : (bytes : List ℕ) → token_of (space ∷ bytes) ≡ None
unfolding token_of
space-token bytes = refl

-- no front of a text behind a space is a token
space-begins : (text : List ℕ) → BeginsNoToken (space ∷ text)
space-begins text zero h = no-token
space-begins text (suc count) h = space-token (take count text)

-- where no token begins, none is taken
none-taken : {text : List ℕ} {count : ℕ} {token : Token} → TakesToken text count token → BeginsNoToken text → ⊥
none-taken {text} {count} t none = let h : token_of (take count text) ≡ None = none count t.within in let g = t.spelled in cc

-- the longest token has one length
one-count : {text : List ℕ} {n m : ℕ} {t u : Token} → TakesToken text n t → TakesToken text m u → (n ≡ m) ⊎ ((n < m) ⊎ (m < n)) → n ≡ m
one-count {text} {n} {m} a b (inr (inl less)) = let h : token_of (take m text) ≡ None = a.longest m less b.within in let g = b.spelled in cc
one-count {text} {n} {m} a b (inr (inr less)) = let h : token_of (take n text) ≡ None = b.longest n less a.within in let g = a.spelled in cc
one-count a b (inl same) = same

one-token : {text : List ℕ} {n : ℕ} {t u : Token} → TakesToken text n t → TakesToken text n u → t ≡ u
one-token a b = let h = a.spelled in let g = b.spelled in cc

-- the empty text has no token
empty-taken : {count : ℕ} {token : Token} → TakesToken [] count token → ⊥
empty-taken {count = zero} t = let h = t.spelled in let g = no-token in cc
empty-taken {count = suc count} t = let h = t.within in absurd (omega arith)

abbrev pub record_of : Token → List PlacedToken → ℕ → List PlacedToken
record_of token tokens at = record { token = token; at = at } ∷ tokens

same-way : {at end other : ℕ} {text rest left : List ℕ} {tokens more : List PlacedToken}
    → FallsInto at text tokens end rest → FallsInto at text more other left → (tokens ≡ more) × (end ≡ other) × (rest ≡ left)
same-way ended ended = (refl, refl, refl)
same-way ended (taken t g) = absurd (empty-taken t)
same-way (spaced h) (spaced g) = same-way h g
same-way (spaced {text = text} h) (taken t g) = absurd (none-taken t (space-begins text))
same-way (spaced h) (refused ne none) = absurd (ne refl)
same-way (taken t h) ended = absurd (empty-taken t)
same-way (taken t h) (spaced {text = text} g) = absurd (none-taken t (space-begins text))
same-way {at} {end} {other} {text} {rest} {left} (taken {count = n} {token = one} {tokens = tokens} t h) (taken {count = m} {token = two} {tokens = more} u g) =
    let same : n ≡ m = one-count t u (cases_order n m) in
    let P : ℕ → Type 0 = λ k. TakesToken text k two in
    let Q : ℕ → Type 0 = λ k. FallsInto (at + k) (drop k text) more other left in
    let tokens_are : one ≡ two = one-token t (subst P (sym same) u) in
    let (a, b, c) = same-way h (subst Q (sym same) g) in
    let R : Token → Type 0 = λ v. record_of one tokens at ≡ record_of v more at in
    (subst R tokens_are (ap (λ v. record_of one v at) a), b, c)
same-way (taken t h) (refused ne none) = absurd (none-taken t none)
same-way (refused ne none) (spaced h) = absurd (ne refl)
same-way (refused ne none) (taken t g) = absurd (none-taken t none)
same-way (refused ne none) (refused other again) = (refl, refl, refl)

pub falls-into-one : FallsIntoOne
falls-into-one at end other text rest left tokens more h g = same-way h g
