-- Tokens written one behind another.
use Rattle.std.proofs.Common.{◌≡◌, ℕ, zero, suc, ◌+◌, ◌<◌, ◌≤◌, List, [], ◌∷◌, ◌++◌, length, length-take-le, take, get_or, map, String, append_assoc, append-nil, add-one, ◌∙◌, ap, sym, refl, arith}
use Rattle.std.specs.List.{flat_map}
use Rattle.std.specs.String.{string_bytes}
use Rattle.std.specs.declared.alloc.Global.{Global}
use Rattle.std.proofs.Math.Seq.{take-suc}
use Rattle.std.proofs.lemmas.Bool.{cond-false, ne_eqb}
use Rattle.std.proofs.lemmas.List.{map-append, length-map}
use Rattle.std.proofs.lemmas.List.Concat.{flat_map-append}
use Rattle.smc_tokens.specs.Tokens.{space}
use Rattle.smc_tokens.specs.declared.token.Token.{Token}
use Rattle.smc_tokens.specs.declared.token.Token.TheVariants.{Sign}
use Rattle.smc_tokens.specs.declared.sign.Sign.{Sign as AnySign}
use Rattle.smc_print.specs.TokenText.{token_text, spaced_text, Writes}
use Rattle.smc_print.specs.Printed.{listed, between}

pub ruleset writing = (append_assoc, append-nil, flat_map-append)

-- tokens are written behind those before them
pub writes_on : (old text new : String Global) (before behind : List Token) → Writes old text before → Writes text new behind → Writes old new (before ++ behind)
writes_on old text new before behind one two =
    let parts : spaced_text (before ++ behind) ≡ spaced_text before ++ spaced_text behind = flat_map-append (λ (token : Token). space ∷ token_text token) before behind in
    rw (two, one, parts) (append_assoc (string_bytes old) (spaced_text before) (spaced_text behind))

-- a sign stands before each part of a list but the first
pub between_later : (place : ℕ) (sign : AnySign) → 0 < place → between place sign ≡ Sign sign ∷ []
between_later place sign some = cond-false _ _ _ (ne_eqb place 0 (λ none. absurd (omega arith)))

-- one more part of a list stands behind the sign, where one stands before it
pub listed_next : {A : Type 0} (sign : AnySign) (tokens : A → List Token) (parts : List A) (part : A)
    → listed sign tokens (parts ++ part ∷ []) ≡ listed sign tokens parts ++ (between (length parts) sign ++ tokens part)
listed_next sign tokens [] part = simp append-nil
listed_next {A} sign tokens (first ∷ parts) part =
    let behind = λ (other : A). Sign sign ∷ tokens other in
    let more : flat_map behind (parts ++ part ∷ []) ≡ flat_map behind parts ++ (Sign sign ∷ tokens part) =
    flat_map-append behind parts (part ∷ []) ∙ ap (λ ts. flat_map behind parts ++ (Sign sign ∷ ts)) (append-nil (tokens part)) in
    let later : between (length (first ∷ parts)) sign ≡ Sign sign ∷ [] = between_later (length (first ∷ parts)) sign (omega arith) in
    rw later (ap (λ ts. tokens first ++ ts) more ∙ sym (append_assoc (tokens first) (flat_map behind parts) (Sign sign ∷ tokens part)))

-- the front with one more part
pub take_next : {A : Type 0} (parts : List A) (place : ℕ) (part : A) → place < length parts → part ≡ get_or parts place part
    → take (place + 1) parts ≡ take place parts ++ part ∷ []
take_next parts place part less is = rw add-one (take-suc parts place part less ∙ ap (λ other. take place parts ++ other ∷ []) (sym is))

-- a list is written as far as one more part
pub writes_next : {A : Type 0} (sign : AnySign) (tokens : A → List Token) (parts : List A) (place : ℕ) (part : A) (old text comma new : String Global)
    → place < length parts → part ≡ get_or parts place part
    → Writes old text (listed sign tokens (take place parts)) → Writes text comma (between place sign) → Writes comma new (tokens part)
    → Writes old new (listed sign tokens (take (place + 1) parts))
writes_next sign tokens parts place part old text comma new less is before sign_is part_is =
    let len : length (take place parts) ≡ place = length-take-le place parts (omega arith) in
    let next = listed_next sign tokens (take place parts) part in
    let now : listed sign tokens (take (place + 1) parts) ≡ listed sign tokens (take place parts) ++ (between place sign ++ tokens part) =
    ap (listed sign tokens) (take_next parts place part less is) ∙ (rw len at next) in
    rw now (writes_on old text new _ _ before (writes_on text comma new _ _ sign_is part_is))

-- the same for parts that are seen in another way
pub writes_next_view : {A B : Type 0} (sign : AnySign) (tokens : B → List Token) (view : A → B) (parts : List A) (place : ℕ) (part : A) (old text comma new : String Global)
    → place < length parts → part ≡ get_or parts place part
    → Writes old text (listed sign tokens (map view (take place parts))) → Writes text comma (between place sign) → Writes comma new (tokens (view part))
    → Writes old new (listed sign tokens (map view (take (place + 1) parts)))
writes_next_view sign tokens view parts place part old text comma new less is before sign_is part_is =
    let front : length (take place parts) ≡ place = length-take-le place parts (omega arith) in
    let len : length (map view (take place parts)) ≡ place = length-map (take place parts) view ∙ front in
    let next = listed_next sign tokens (map view (take place parts)) (view part) in
    let parts_are : map view (take (place + 1) parts) ≡ map view (take place parts) ++ view part ∷ [] =
    ap (map view) (take_next parts place part less is) ∙ map-append view (take place parts) (part ∷ []) in
    let now : listed sign tokens (map view (take (place + 1) parts)) ≡ listed sign tokens (map view (take place parts)) ++ (between place sign ++ tokens (view part)) =
    ap (listed sign tokens) parts_are ∙ (rw len at next) in
    rw now (writes_on old text new _ _ before (writes_on text comma new _ _ sign_is part_is))
