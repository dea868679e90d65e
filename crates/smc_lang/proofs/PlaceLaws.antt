-- What was read of the tokens of a text, said of the text.
use Rattle.std.proofs.Common.{◌≡◌, ◌-◌, ◌≤◌, ℕ, Bool, true, false, List, [], ◌∷◌, ◌++◌, length, take, drop, Result, Ok, Err, refl, sym, ap, subst, ◌∙◌, arith, append-nil}
use Rattle.std.specs.Prelude.{if◌then◌else◌, IfOk, IfErr, MatchResult}
use Rattle.std.proofs.lemmas.Bool.{false≢true}
use Rattle.std.proofs.lemmas.List.{length-drop, take-append-drop, take-map, drop-map}
use Rattle.smc_lang.specs.declared.fault.ParseFault.{ParseFault}
use Rattle.smc_lang.specs.declared.fault.ParseFault.TheVariants.{At}
use Rattle.smc_tokens.specs.declared.token.Token.{Token}
use Rattle.smc_tokens.specs.declared.token.Placed.{Placed}
use Rattle.smc_tokens.specs.Tokens.{FallsInto}
use Rattle.smc_tokens.specs.TokenList.{TokenList, AreTokensOf}
use Rattle.smc_query.specs.Trees.{Answer, Form}
use Rattle.smc_query.specs.Grammar.{Spells}
use Rattle.smc_query.specs.Faults.{Begins, IsWrongBehind, IsTooDeepBehind}
use Rattle.smc_parse.specs.declared.fault.Fault.{Fault}
use Rattle.smc_parse.specs.declared.fault.Fault.TheVariants as faults
use Rattle.smc_parse.specs.Reading.{tokens_of}
use Rattle.smc_parse.specs.Places.{SpelledOrFault, HasFault}
use Rattle.smc_lang.specs.Texts.{ReadsText, as_tokens, IsWrongAt, wrong_token, wrong_end, no_token, IsTooDeepAt, deep_token, IsFaultOf}
use Rattle.smc_lang.specs.Places.{first_byte, placed_fault, settled}

-- where nothing is left, the tokens stop at the text's length
end-is-length : (text : List ℕ) (list : TokenList) → AreTokensOf text list → drop list.end text ≡ [] → list.end ≡ length text
end-is-length text list are empty = let len : length (drop list.end text) ≡ length text - list.end = length-drop list.end text in let none : length (drop list.end text) ≡ 0 = ap length empty in let within : list.end ≤ length text = are.within in omega arith

-- behind tokens that can still become a text, bytes that are no token are wrong
pub bytes-wrong : (form : Form) (text : List ℕ) (list : TokenList) (left : List ℕ) → FallsInto 0 text list.tokens list.end left → (left ≡ [] → ⊥) → Begins form 64 (tokens_of list.tokens) → IsWrongAt form text list.end
bytes-wrong form text list [] falls some begins = absurd (some refl)
bytes-wrong form text list (byte ∷ left) falls some begins = no_token falls begins

-- the whole text falls into the tokens
pub whole-falls : (text : List ℕ) (list : TokenList) → AreTokensOf text list → drop list.end text ≡ [] → FallsInto 0 text list.tokens (length text) []
whole-falls text list are empty =
    let P : ℕ → Type 0 = λ end. FallsInto 0 text list.tokens end [] in
    let Q : List ℕ → Type 0 = λ left. FallsInto 0 text list.tokens list.end left in
    subst P (end-is-length text list are empty) (subst Q empty are.falls)

-- the tokens themselves stand at the front of the text
split-falls : (text : List ℕ) (list : TokenList) (all : List Placed) → AreTokensOf text list → list.tokens ≡ all → FallsInto 0 text all list.end (drop list.end text)
split-falls text list all are is = let P : List Placed → Type 0 = λ tokens. FallsInto 0 text tokens list.end (drop list.end text) in subst P is are.falls

-- where the tokens before a place can still become a text and what stands behind them is wrong, the text is wrong there
end-wrong : (form : Form) (text : List ℕ) (list : TokenList) (left : List ℕ) → AreTokensOf text list → drop list.end text ≡ left → IsWrongBehind form 64 (tokens_of list.tokens) [] → IsWrongAt form text list.end
end-wrong form text list [] are is w =
    let P : ℕ → Type 0 = λ at. IsWrongAt form text at in subst P (sym (end-is-length text list are is)) (wrong_end (whole-falls text list are is) w)
end-wrong form text list (byte ∷ left) are is w = let P : List ℕ → Type 0 = λ rest. FallsInto 0 text list.tokens list.end rest in no_token (subst P is are.falls) w.begins

wrong-there : (form : Form) (text : List ℕ) (list : TokenList) (before behind : List Placed) → AreTokensOf text list → list.tokens ≡ before ++ behind
    → IsWrongBehind form 64 (tokens_of before) (tokens_of behind) → IsWrongAt form text (first_byte behind list.end)
wrong-there form text list before [] are is w =
    let P : List Placed → Type 0 = λ tokens. IsWrongBehind form 64 (tokens_of tokens) [] in end-wrong form text list (drop list.end text) are refl (subst P (sym (is ∙ append-nil before)) w)
wrong-there form text list before (token ∷ behind) are is w = wrong_token before behind (split-falls text list (before ++ token ∷ behind) are is) w

deep-there : (form : Form) (text : List ℕ) (list : TokenList) (before behind : List Placed) → AreTokensOf text list → list.tokens ≡ before ++ behind
    → IsTooDeepBehind form 64 (tokens_of before) (tokens_of behind) → IsTooDeepAt form text (first_byte behind list.end)
deep-there form text list before [] are is w = absurd w
deep-there form text list before (token ∷ behind) are is w = deep_token before behind (split-falls text list (before ++ token ∷ behind) are is) w

-- a fault among the tokens is one of the text, at its byte
pub fault-there : (form : Form) (text : List ℕ) (list : TokenList) (fault : Fault) → AreTokensOf text list → HasFault form list.tokens fault → IsFaultOf form text (placed_fault list fault)
fault-there form text list (faults.Wrong i) are (within, w) =
    wrong-there form text list (take i list.tokens) (drop i list.tokens) are (sym (take-append-drop i list.tokens))
    (rw (sym (take-map (λ p. p.token) i list.tokens), sym (drop-map (λ p. p.token) i list.tokens)) w)
fault-there form text list (faults.TooDeep i) are (within, w) =
    deep-there form text list (take i list.tokens) (drop i list.tokens) are (sym (take-append-drop i list.tokens))
    (rw (sym (take-map (λ p. p.token) i list.tokens), sym (drop-map (λ p. p.token) i list.tokens)) w)
fault-there form text list faults.NoMemory are h = h

-- tokens that spell something can still become a text
pub spelled-begins : (form : Form) (s : List Token) (answer : Answer) → Spells form 64 s answer → Begins form 64 s
spelled-begins form s answer h = let P : List Token → Type 0 = λ t. Spells form 64 t answer in ([], (answer, subst P (sym (append-nil s)) h))

-- what settling makes of what was read
by-whole : (whole : Bool) (form : Form) {X : Type 0} (answer_of : X → Answer) (text : List ℕ) (list : TokenList) (found : X) → list.whole ≡ whole → AreTokensOf text list
    → Spells form 64 (tokens_of list.tokens) (answer_of found)
    → MatchResult (if whole then Ok found else Err (At list.end)) (λ x. ReadsText form text (answer_of x)) (IsFaultOf form text)
by-whole true form answer_of text list found is are h = as_tokens (whole-falls text list are (are.whole.0 is)) h
by-whole false form answer_of text list found is are h =
    bytes-wrong form text list (drop list.end text) are.falls (λ empty. false≢true (sym is ∙ are.whole.1 empty)) (spelled-begins form (tokens_of list.tokens) (answer_of found) h)

settled-means : (form : Form) {X : Type 0} (answer_of : X → Answer) (text : List ℕ) (list : TokenList) (found : Result X Fault) → AreTokensOf text list → SpelledOrFault form answer_of list.tokens found
    → MatchResult (settled list found) (λ x. ReadsText form text (answer_of x)) (IsFaultOf form text)
settled-means form answer_of text list (Ok found) are h = by-whole list.whole form answer_of text list found refl are h
settled-means form answer_of text list (Err fault) are h = fault-there form text list fault are h

-- as the two clauses of a call say it
match-ok : {X E : Type 0} (result : Result X E) (P : X → Type 0) (Q : E → Type 0) → MatchResult result P Q → IfOk result P
match-ok (Ok x) P Q h = h
match-ok (Err e) P Q h = tt

match-err : {X E : Type 0} (result : Result X E) (P : X → Type 0) (Q : E → Type 0) → MatchResult result P Q → IfErr result Q
match-err (Ok x) P Q h = tt
match-err (Err e) P Q h = h

pub settled-done : (form : Form) {X : Type 0} (answer_of : X → Answer) (text : List ℕ) (list : TokenList) (found : Result X Fault) (result : Result X ParseFault)
    → result ≡ settled list found → AreTokensOf text list → SpelledOrFault form answer_of list.tokens found → IfOk result (λ x. ReadsText form text (answer_of x))
settled-done form answer_of text list found result is are h = rw is (match-ok (settled list found) (λ x. ReadsText form text (answer_of x)) (IsFaultOf form text) (settled-means form answer_of text list found are h))

pub settled-fault : (form : Form) {X : Type 0} (answer_of : X → Answer) (text : List ℕ) (list : TokenList) (found : Result X Fault) (result : Result X ParseFault)
    → result ≡ settled list found → AreTokensOf text list → SpelledOrFault form answer_of list.tokens found → IfErr result (IsFaultOf form text)
settled-fault form answer_of text list found result is are h = rw is (match-err (settled list found) (λ x. ReadsText form text (answer_of x)) (IsFaultOf form text) (settled-means form answer_of text list found are h))
