-- The text of tokens falls into these tokens.
use Rattle.std.proofs.Common.{◌≡◌, ℕ, suc, ◌+◌, ◌-◌, List, [], ◌∷◌, ◌++◌, length, length-append, take, drop, Some, ◌∙◌, ap, arith}
use Rattle.std.proofs.Math.Seq.{take-append_seam, take-append-add, drop-append_seam}
use Rattle.smc_tokens.specs.Tokens.{space, token_of, TakesToken, FallsInto, ended, spaced, taken}
use Rattle.smc_tokens.specs.declared.token.Token.{Token}
use Rattle.smc_print.specs.TokenText.{token_text, spaced_text}
use Rattle.smc_print.specs.Laws.{IsRead, AreRead, placed, TextFallsIntoItsTokens}
use Rattle.smc_print.proofs.BrokenTokens.{broken}

-- the bytes of a token are taken where nothing follows
takes_last : (bytes : List ℕ) (token : Token) → token_of bytes ≡ Some token → TakesToken (bytes ++ []) (length bytes) token
takes_last bytes token spelled =
    let len : length (bytes ++ []) ≡ length bytes + 0 = length-append bytes [] in
    record {
      within = omega arith;
      spelled = rw (take-append_seam bytes []) spelled;
      longest = λ more less within. absurd (omega arith);
    }

-- and where a space follows
takes_spaced : (bytes later : List ℕ) (token : Token) → token_of bytes ≡ Some token → TakesToken (bytes ++ space ∷ later) (length bytes) token
takes_spaced bytes later token spelled =
    let len : length (bytes ++ space ∷ later) ≡ length bytes + length (space ∷ later) = length-append bytes (space ∷ later) in
    record {
      within = omega arith;
      spelled = rw (take-append_seam bytes (space ∷ later)) spelled;
      longest = λ more less within.
          let count : more ≡ length bytes + suc (more - length bytes - 1) = omega arith in
          ap (λ n. token_of (take n (bytes ++ space ∷ later))) count
          ∙ ap token_of (take-append-add bytes (space ∷ later) (suc (more - length bytes - 1)))
          ∙ broken bytes (take (more - length bytes - 1) later) token spelled;
    }

falls : (token : Token) (tokens : List Token) (at end : ℕ) → IsRead token → AreRead tokens → end ≡ at + length (token_text token ++ spaced_text tokens)
    → FallsInto at (token_text token ++ spaced_text tokens) (placed at (token ∷ tokens)) end []
falls token [] at end one all is =
    let bytes = token_text token in
    let len : length (bytes ++ []) ≡ length bytes + 0 = length-append bytes [] in
    let stops : end ≡ at + length bytes = omega arith in
    let behind : drop (length bytes) (bytes ++ []) ≡ [] = drop-append_seam bytes [] in
    let last : FallsInto (at + length bytes) (drop (length bytes) (bytes ++ [])) [] end [] = rw (behind, stops) ended in
    taken (takes_last bytes token one) last
falls token (next ∷ tokens) at end one (two, all) is =
    let bytes = token_text token in
    let later = token_text next ++ spaced_text tokens in
    let len : length (bytes ++ space ∷ later) ≡ length bytes + length (space ∷ later) = length-append bytes (space ∷ later) in
    let behind : drop (length bytes) (bytes ++ space ∷ later) ≡ space ∷ later = drop-append_seam bytes (space ∷ later) in
    let inner : FallsInto (at + length bytes + 1) later (placed (at + length bytes + 1) (next ∷ tokens)) end [] = falls next tokens (at + length bytes + 1) end two all (omega arith) in
    let rest : FallsInto (at + length bytes) (drop (length bytes) (bytes ++ space ∷ later)) (placed (at + length bytes + 1) (next ∷ tokens)) end [] = rw behind (spaced inner) in
    taken (takes_spaced bytes later token one) rest

pub text_falls : TextFallsIntoItsTokens
text_falls [] read = ended
text_falls (token ∷ tokens) (one, all) = falls token tokens 0 (length (token_text token ++ spaced_text tokens)) one all (omega arith)
