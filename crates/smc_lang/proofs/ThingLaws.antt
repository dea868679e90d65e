-- A text is one thing at most.
use Rattle.std.proofs.Common.{◌≡◌, ◌⊎◌, inl, inr, ℕ, List, [], ◌∷◌, ◌++◌, get_or, drop, refl, sym, ap, subst, ◌∙◌, append_assoc, append-nil}
use Rattle.std.proofs.lemmas.List.{map-append}
use Rattle.smc_tokens.specs.declared.token.Token.{Token}
use Rattle.smc_tokens.specs.declared.token.Placed.{Placed}
use Rattle.smc_tokens.specs.Tokens.{FallsInto, FallsIntoOne}
use Rattle.smc_query.specs.Trees.{Answer, Form}
use Rattle.smc_query.specs.Grammar.{Spells}
use Rattle.smc_query.specs.Faults.{Begins, IsWrongToken, IsWrongEnd, IsTooDeep}
use Rattle.smc_query.specs.Laws.{SpellsOne, FrontsBegin}
use Rattle.smc_parse.specs.Reading.{tokens_of}
use Rattle.smc_lang.specs.Texts.{as_tokens, wrong_token, wrong_end, no_token, deep_token}
use Rattle.smc_lang.specs.Laws.{Thing, read, wrong, deep, IsThing, IsOneThing}

-- ---- places in a list

-- one token more before both
more-places : (b a : Placed) (before after : List Placed) (one two : Placed) → ((l : List Placed) → b ∷ l ≡ a ∷ l)
    → ((before ≡ after) × (one ≡ two)) ⊎ (((x : List Placed) × (after ≡ before ++ one ∷ x)) ⊎ ((x : List Placed) × (before ≡ after ++ two ∷ x)))
    → ((b ∷ before ≡ a ∷ after) × (one ≡ two)) ⊎ (((x : List Placed) × (a ∷ after ≡ b ∷ before ++ one ∷ x)) ⊎ ((x : List Placed) × (b ∷ before ≡ a ∷ after ++ two ∷ x)))
more-places b a before after one two same (inl (e, h)) = inl (same before ∙ ap (λ l. a ∷ l) e, h)
more-places b a before after one two same (inr (inl (x, e))) = inr (inl (x, sym (same after) ∙ ap (λ l. b ∷ l) e))
more-places b a before after one two same (inr (inr (x, e))) = inr (inr (x, same before ∙ ap (λ l. a ∷ l) e))

-- two places in one list are the same, or one stands before the other
two-places : (before after : List Placed) (one two : Placed) (rest left : List Placed) → before ++ one ∷ rest ≡ after ++ two ∷ left
    → ((before ≡ after) × (one ≡ two)) ⊎ (((x : List Placed) × (after ≡ before ++ one ∷ x)) ⊎ ((x : List Placed) × (before ≡ after ++ two ∷ x)))
two-places [] [] one two rest left e = inl (refl, ap (λ l. get_or l 0 one) e)
two-places [] (a ∷ after) one two rest left e = let h : a ≡ one = sym (ap (λ l. get_or l 0 one) e) in inr (inl (after, ap (λ p. p ∷ after) h))
two-places (b ∷ before) [] one two rest left e = let h : b ≡ two = ap (λ l. get_or l 0 one) e in inr (inr (before, ap (λ p. p ∷ before) h))
two-places (b ∷ before) (a ∷ after) one two rest left e =
    let h : b ≡ a = ap (λ l. get_or l 0 one) e in
    let same : (l : List Placed) → b ∷ l ≡ a ∷ l = λ l. ap (λ p. p ∷ l) h in
    more-places b a before after one two same (two-places before after one two rest left (ap (drop 1) e))

-- ---- where a text stops

-- the tokens before this one can still become a text, and with it they can't
record Halts (form : Form) (before : List Placed) (token : Placed) : Type 0 where
  pub begins : Begins form 64 (tokens_of before)
  pub none : ¬ Begins form 64 (tokens_of before ++ token.token ∷ [])

-- tokens of which all can still become a text halt nowhere
begins-with : FrontsBegin → (form : Form) (before all : List Placed) (token : Placed) (x : List Placed) → all ≡ before ++ token ∷ x → Begins form 64 (tokens_of all) → Begins form 64 (tokens_of before ++ token.token ∷ [])
begins-with fronts form before all token x e h =
    let P : List Token → Type 0 = λ s. Begins form 64 s in
    let is : tokens_of all ≡ (tokens_of before ++ token.token ∷ []) ++ tokens_of x =
    ap tokens_of e ∙ map-append (λ p. p.token) before (token ∷ x) ∙ sym (append_assoc (tokens_of before) (token.token ∷ []) (tokens_of x)) in
    fronts form 64 (tokens_of before ++ token.token ∷ []) (tokens_of x) (subst P is h)

one-halt : FrontsBegin → (form : Form) (before after : List Placed) (one two : Placed) → Halts form before one → Halts form after two
    → ((before ≡ after) × (one ≡ two)) ⊎ (((x : List Placed) × (after ≡ before ++ one ∷ x)) ⊎ ((x : List Placed) × (before ≡ after ++ two ∷ x)))
    → (before ≡ after) × (one ≡ two)
one-halt fronts form before after one two h g (inl same) = same
one-halt fronts form before after one two h g (inr (inl (x, e))) = absurd (h.none (begins-with fronts form before after one x e g.begins))
one-halt fronts form before after one two h g (inr (inr (x, e))) = absurd (g.none (begins-with fronts form after before two x e h.begins))

-- what a text is by the token behind these
data AtToken : Form → List Placed → Placed → Thing → Type 0 where
  wrong_here : {form : Form} {before : List Placed} {token : Placed} → IsWrongToken form 64 (tokens_of before) token.token → AtToken form before token (wrong token.at)
  deep_here : {form : Form} {before : List Placed} {token : Placed} → IsTooDeep form 64 (tokens_of before) token.token → AtToken form before token (deep token.at)

halts : {form : Form} {before : List Placed} {token : Placed} {thing : Thing} → AtToken form before token thing → Halts form before token
halts (wrong_here w) = record { begins = w.begins; none = w.none 64 }
halts (deep_here w) = record { begins = w.begins; none = w.none }

same-token : {form : Form} {before : List Placed} {token : Placed} {one two : Thing} → AtToken form before token one → AtToken form before token two → one ≡ two
same-token (wrong_here w) (wrong_here v) = refl
same-token (wrong_here w) (deep_here v) = let (other, h) = v.goes_on in absurd (w.none other h)
same-token (deep_here w) (wrong_here v) = let (other, h) = w.goes_on in absurd (v.none other h)
same-token (deep_here w) (deep_here v) = refl

-- what a text is by what stands behind all its tokens
data AtEnd : Form → List Placed → ℕ → List ℕ → Thing → Type 0 where
  reads_all : {form : Form} {tokens : List Placed} {end : ℕ} {answer : Answer} → Spells form 64 (tokens_of tokens) answer → AtEnd form tokens end [] (read answer)
  ends_early : {form : Form} {tokens : List Placed} {end : ℕ} → IsWrongEnd form 64 (tokens_of tokens) → AtEnd form tokens end [] (wrong end)
  no_more : {form : Form} {tokens : List Placed} {end byte : ℕ} {rest : List ℕ} → Begins form 64 (tokens_of tokens) → AtEnd form tokens end (byte ∷ rest) (wrong end)

all-begin : {form : Form} {tokens : List Placed} {end : ℕ} {rest : List ℕ} {thing : Thing} → AtEnd form tokens end rest thing → Begins form 64 (tokens_of tokens)
all-begin {form} {tokens} (reads_all {answer = answer} h) = let P : List Token → Type 0 = λ t. Spells form 64 t answer in ([], (answer, subst P (sym (append-nil (tokens_of tokens))) h))
all-begin (ends_early w) = w.begins
all-begin (no_more h) = h

same-end : SpellsOne → {form : Form} {tokens : List Placed} {end : ℕ} {rest : List ℕ} {one two : Thing} → AtEnd form tokens end rest one → AtEnd form tokens end rest two → one ≡ two
same-end trees {form} {tokens} (reads_all {answer = a} h) (reads_all {answer = b} g) = ap read (trees form 64 64 (tokens_of tokens) a b h g)
same-end trees (reads_all {answer = a} h) (ends_early w) = absurd (w.none 64 a h)
same-end trees (ends_early w) (reads_all {answer = a} h) = absurd (w.none 64 a h)
same-end trees (ends_early w) (ends_early v) = refl
same-end trees (no_more h) (no_more g) = refl

-- where a text stops: at a token, or behind all
data Stops : Form → List ℕ → Thing → Type 0 where
  at_token : {form : Form} {text rest : List ℕ} {end : ℕ} {thing : Thing} (before behind : List Placed) (token : Placed)
      → FallsInto 0 text (before ++ token ∷ behind) end rest → AtToken form before token thing → Stops form text thing
  at_end : {form : Form} {text rest : List ℕ} {tokens : List Placed} {end : ℕ} {thing : Thing} → FallsInto 0 text tokens end rest → AtEnd form tokens end rest thing → Stops form text thing

stops : (form : Form) (text : List ℕ) (thing : Thing) → IsThing form text thing → Stops form text thing
stops form text (read answer) (as_tokens falls h) = at_end falls (reads_all h)
stops form text (wrong at) (wrong_token {token = token} before behind falls w) = at_token before behind token falls (wrong_here w)
stops form text (wrong at) (wrong_end falls w) = at_end falls (ends_early w)
stops form text (wrong at) (no_token falls h) = at_end falls (no_more h)
stops form text (deep at) (deep_token {token = token} before behind falls w) = at_token before behind token falls (deep_here w)

one-stop : FallsIntoOne → SpellsOne → FrontsBegin → {form : Form} {text : List ℕ} {one two : Thing} → Stops form text one → Stops form text two → one ≡ two
one-stop lists trees fronts {form} {text} {one} {two} (at_token {rest = rest} {end = end} before behind token falls h) (at_token {rest = left} {end = stop} after later other falls' g) =
    let (e, _, _) = lists 0 end stop text rest left (before ++ token ∷ behind) (after ++ other ∷ later) falls falls' in
    let (b, t) = one-halt fronts form before after token other (halts h) (halts g) (two-places before after token other behind later e) in
    let P : List Placed → Type 0 = λ l. AtToken form l other two in
    let Q : Placed → Type 0 = λ p. AtToken form before p two in
    same-token h (subst Q (sym t) (subst P (sym b) g))
one-stop lists trees fronts {form} {text} (at_token {rest = rest} {end = end} before behind token falls h) (at_end {rest = left} {tokens = tokens} {end = stop} falls' g) =
    let (e, _, _) = lists 0 end stop text rest left (before ++ token ∷ behind) tokens falls falls' in absurd ((halts h).none (begins-with fronts form before tokens token behind (sym e) (all-begin g)))
one-stop lists trees fronts {form} {text} (at_end {rest = left} {tokens = tokens} {end = stop} falls' g) (at_token {rest = rest} {end = end} before behind token falls h) =
    let (e, _, _) = lists 0 end stop text rest left (before ++ token ∷ behind) tokens falls falls' in absurd ((halts h).none (begins-with fronts form before tokens token behind (sym e) (all-begin g)))
one-stop lists trees fronts {form} {text} {one} {two} (at_end {rest = rest} {tokens = tokens} {end = end} falls h) (at_end {rest = left} {tokens = more} {end = stop} falls' g) =
    let (e, p, r) = lists 0 end stop text rest left tokens more falls falls' in
    let P : List Placed → Type 0 = λ l. AtEnd form l stop left two in
    let Q : ℕ → Type 0 = λ n. AtEnd form tokens n left two in
    let R : List ℕ → Type 0 = λ l. AtEnd form tokens end l two in
    same-end trees h (subst R (sym r) (subst Q (sym p) (subst P (sym e) g)))

pub one-thing : FallsIntoOne → SpellsOne → FrontsBegin → IsOneThing
one-thing lists trees fronts form text one other h g = one-stop lists trees fronts (stops form text one h) (stops form text other g)
