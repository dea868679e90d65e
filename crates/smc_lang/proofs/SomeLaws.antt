-- Every text is something.
use Rattle.std.proofs.Common.{◌≡◌, ◌⊎◌, inl, inr, ℕ, suc, ◌≤◌, List, [], ◌∷◌, ◌++◌, length, take, drop, refl, sym, ap, ◌∙◌, arith}
use Rattle.std.proofs.Math.Seq.{take-append_seam, drop-append_seam}
use Rattle.std.proofs.lemmas.List.{length-append, length-map}
use Rattle.smc_tokens.specs.declared.token.Token.{Token}
use Rattle.smc_tokens.specs.TokenList.{TokenList, AreTokensOf, FallsIntoSome}
use Rattle.smc_query.specs.Trees.{Answer, Form}
use Rattle.smc_query.specs.Grammar.{Spells}
use Rattle.smc_query.specs.Faults.{IsWrongBehind, IsTooDeepBehind}
use Rattle.smc_query.specs.Laws.{SpellsOrStops}
use Rattle.smc_parse.specs.Reading.{tokens_of}
use Rattle.smc_parse.specs.declared.fault.Fault.TheVariants as faults
use Rattle.smc_lang.specs.Texts.{as_tokens}
use Rattle.smc_lang.specs.Places.{byte_at}
use Rattle.smc_lang.specs.Laws.{Thing, read, wrong, deep, IsThing, IsSomething}
use Rattle.smc_lang.proofs.PlaceLaws.{whole-falls, bytes-wrong, spelled-begins, fault-there}

abbrev Something : Form → List ℕ → Type 0
Something form text = (thing : Thing) × IsThing form text thing

spelled-thing : (form : Form) (text : List ℕ) (list : TokenList) (left : List ℕ) (answer : Answer) → AreTokensOf text list → drop list.end text ≡ left → Spells form 64 (tokens_of list.tokens) answer → Something form text
spelled-thing form text list [] answer are is h = (read answer, as_tokens (whole-falls text list are is) h)
spelled-thing form text list (byte ∷ left) answer are is h =
    (wrong list.end, bytes-wrong form text list (drop list.end text) are.falls (λ empty. let n : suc (length left) ≡ 0 = ap length (sym is ∙ empty) in absurd (omega arith)) (spelled-begins form (tokens_of list.tokens) answer h))

front-within : (list : TokenList) (front rest : List Token) → tokens_of list.tokens ≡ front ++ rest → length front ≤ length list.tokens
front-within list front rest e =
    let same : length (tokens_of list.tokens) ≡ length list.tokens = length-map list.tokens (λ p. p.token) in omega (arith, ap length e, length-append front rest, same)

fault-thing : (form : Form) (text : List ℕ) (list : TokenList) (front rest : List Token) → AreTokensOf text list → tokens_of list.tokens ≡ front ++ rest → IsWrongBehind form 64 front rest ⊎ IsTooDeepBehind form 64 front rest → Something form text
fault-thing form text list front rest are e stop =
    let n : ℕ = length front in
    let f : take n (tokens_of list.tokens) ≡ front = ap (take n) e ∙ take-append_seam front rest in
    let r : drop n (tokens_of list.tokens) ≡ rest = ap (drop n) e ∙ drop-append_seam front rest in
    let within : n ≤ length list.tokens = front-within list front rest e in
    elim stop [
      | inl w ↦ (wrong (byte_at list n), fault-there form text list (faults.Wrong n) are (within, rw (f, r) w))
      | inr w ↦ (deep (byte_at list n), fault-there form text list (faults.TooDeep n) are (within, rw (f, r) w))
    ]

pub is-something : FallsIntoSome → SpellsOrStops → IsSomething
is-something lists outcomes form text =
    let (list, are) = lists text in
    elim (outcomes form 63 (tokens_of list.tokens)) [
      | inl (answer, h) ↦ spelled-thing form text list (drop list.end text) answer are refl h
      | inr (front, (rest, fault)) ↦ fault-thing form text list front rest are fault.split fault.stops
    ]
