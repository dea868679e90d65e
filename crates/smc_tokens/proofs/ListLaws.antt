-- How a reader goes through a text, token by token.
use Rattle.std.proofs.Common.{◌≡◌, inl, inr, ℕ, zero, suc, ◌+◌, ◌-◌, ◌≤◌, ◌<◌, Bool, true, false, cond, eqb, List, [], ◌∷◌, ◌++◌, length, length-drop, get_or, drop, subst, refl, arith, ◌∙◌, sym, ap, append_assoc, append-nil}
use Rattle.std.specs.List.{prefix_len}
use Rattle.std.specs.Str.{IsUtf8, IsCharBoundary}
use Rattle.std.proofs.lemmas.Bool.{cases_lt, eqb-true, eq-eqb, false≢true}
use Rattle.std.proofs.lemmas.List.{drop-drop, drop_all, get_or_past, get_or-drop}
use Rattle.std.proofs.lemmas.List.Sums.{prefix_len-le-length, prefix_len_passes, prefix_len_stops}
use Rattle.std.proofs.lemmas.Str.{IsCharBoundary-start}
use Rattle.smc_tokens.specs.TokenList.{AreTokensOf, behind_spaces}
use Rattle.smc_tokens.specs.Tokens.{space, PlacedToken, FallsInto, ended, spaced, taken, refused, TakesToken, BeginsNoToken}
use Rattle.smc_tokens.specs.declared.token.Token.{Token}
use Rattle.smc_tokens.proofs.AsciiLaws.{ascii_cut, taken_some}
use Rattle.smc_tokens.proofs.TokenLaws.{record_of}

abbrev pub is_space : ℕ → Bool
is_space byte = eqb byte space

-- spaces before a text change where it falls into its tokens
falls_behind : (text : List ℕ) (at end : ℕ) (tokens : List PlacedToken) (rest : List ℕ)
    → FallsInto (at + prefix_len is_space text) (behind_spaces text) tokens end rest → FallsInto at text tokens end rest
falls_behind [] at end tokens rest falls = let here : at + 0 ≡ at = omega arith in subst (λ n. FallsInto n [] tokens end rest) here falls
falls_behind (b ∷ bs) at end tokens rest start =
    elim (eqb b space) as (λ v. eqb b space ≡ v → FallsInto (at + cond v (1 + prefix_len is_space bs) 0) (drop (cond v (1 + prefix_len is_space bs) 0) (b ∷ bs)) tokens end rest → FallsInto at (b ∷ bs) tokens end rest) [
      | true ↦ λ is falls.
          let same : b ≡ space = eqb-true b space is in
          let place : at + (1 + prefix_len is_space bs) ≡ at + 1 + prefix_len is_space bs = omega arith in
          let one : 1 + prefix_len is_space bs ≡ suc (prefix_len is_space bs) = omega arith in
          let behind : FallsInto (at + (1 + prefix_len is_space bs)) (behind_spaces bs) tokens end rest =
          subst (λ n. FallsInto (at + (1 + prefix_len is_space bs)) (drop n (b ∷ bs)) tokens end rest) one falls in
          let moved : FallsInto (at + 1 + prefix_len is_space bs) (behind_spaces bs) tokens end rest = subst (λ n. FallsInto n (behind_spaces bs) tokens end rest) place behind in
          subst (λ byte. FallsInto at (byte ∷ bs) tokens end rest) (sym same) (spaced (falls_behind bs (at + 1) end tokens rest moved))
      | false ↦ λ is falls. let here : at + 0 ≡ at = omega arith in subst (λ n. FallsInto n (b ∷ bs) tokens end rest) here falls
    ] refl start

-- what stands behind the spaces begins with none
no_lead : (text : List ℕ) → get_or (behind_spaces text) 0 0 ≡ space → ⊥
no_lead text here =
    let run = prefix_len is_space text in
    let there : get_or text run 0 ≡ space = let e : get_or (behind_spaces text) 0 0 ≡ get_or text (run + 0) 0 = get_or-drop run text 0 0 in let plain : run + 0 ≡ run = omega arith in sym (ap (λ n. get_or text n 0) plain) ∙ sym e ∙ here in
    elim (cases_lt run (length text)) [
      | inl less ↦ false≢true (sym (prefix_len_stops is_space text 0 less) ∙ eq-eqb (get_or text run 0) space there)
      | inr past ↦ let none : get_or text run 0 ≡ 0 = get_or_past text run 0 past in omega arith
    ]

-- a text may be cut behind its spaces
pub spaces_cut : (text : List ℕ) (run : ℕ) → IsUtf8 text → run ≡ prefix_len is_space text → IsCharBoundary text run
spaces_cut text zero utf8 is = IsCharBoundary-start text utf8
spaces_cut text (suc run) utf8 is =
    let within : prefix_len is_space text ≤ length text = prefix_len-le-length is_space text in
    let last : get_or text run 0 ≡ space = eqb-true (get_or text run 0) space (prefix_len_passes is_space text run 0 (omega arith)) in
    let here : suc run - 1 ≡ run = omega arith in
    ascii_cut text (suc run) utf8 (omega arith) (omega arith) (subst (λ n. get_or text n 0 < 128) (sym here) (omega arith))

-- The tokens so far, and the rest: what the rest falls into goes on behind them.
pub record SoFar (text : List ℕ) (tokens : List PlacedToken) (rest : List ℕ) : Type 0 where
  pub utf8 : IsUtf8 rest
  pub within : length rest ≤ length text
  pub rest_is : rest ≡ drop (length text - length rest) text
  pub lead : get_or rest 0 0 ≡ space → ⊥
  pub goes_on : (more : List PlacedToken) (end : ℕ) (left : List ℕ) → FallsInto (length text - length rest) rest more end left → FallsInto 0 text (tokens ++ more) end left

length_behind : (text : List ℕ) → length (behind_spaces text) + prefix_len is_space text ≡ length text
length_behind text =
    let within : prefix_len is_space text ≤ length text = prefix_len-le-length is_space text in
    let len : length (behind_spaces text) ≡ length text - prefix_len is_space text = length-drop (prefix_len is_space text) text in
    omega arith

-- at the start
pub none_so_far : (text rest : List ℕ) → rest ≡ behind_spaces text → IsUtf8 rest → SoFar text [] rest
none_so_far text rest is utf8 =
    let len : length rest + prefix_len is_space text ≡ length text = ap (λ t. length t + prefix_len is_space text) is ∙ length_behind text in
    let place : length text - length rest ≡ 0 + prefix_len is_space text = omega arith in
    record {
      utf8 = utf8;
      within = omega arith;
      rest_is = is ∙ ap (λ n. drop n text) (omega arith);
      lead = λ here. no_lead text (ap (λ t. get_or t 0 0) (sym is) ∙ here);
      goes_on = λ more end left falls. falls_behind text 0 end more left
          (subst (λ t. FallsInto (0 + prefix_len is_space text) t more end left) is (subst (λ n. FallsInto n rest more end left) place falls));
    }

-- one token more
pub one_more : (text : List ℕ) (tokens : List PlacedToken) (rest behind later : List ℕ) (token : Token) (count at : ℕ)
    → SoFar text tokens rest → TakesToken rest count token → behind ≡ drop count rest → later ≡ behind_spaces behind → IsUtf8 later → at ≡ length text - length rest
    → SoFar text (tokens ++ record { token = token; at = at } ∷ []) later
one_more text tokens rest behind later token count at so_far takes behind_is later_is utf8 at_is =
    let spaces : ℕ = prefix_len is_space behind in
    let inside : count ≤ length rest = takes.within in
    let within : length rest ≤ length text = so_far.within in
    let behind_len : length behind ≡ length rest - count = ap length behind_is ∙ length-drop count rest in
    let later_len : length later + spaces ≡ length behind = ap (λ t. length t + spaces) later_is ∙ length_behind behind in
    let place : length text - length later ≡ at + count + spaces = omega arith in
    let from : length text - length rest + count + spaces ≡ length text - length later = omega arith in
    record {
      utf8 = utf8;
      within = omega arith;
      rest_is = later_is ∙ ap (drop spaces) (behind_is ∙ ap (drop count) so_far.rest_is ∙ drop-drop count (length text - length rest) text)
          ∙ drop-drop spaces (length text - length rest + count) text ∙ ap (λ n. drop n text) from;
      lead = λ here. no_lead behind (ap (λ t. get_or t 0 0) (sym later_is) ∙ here);
      goes_on = λ more end left falls.
          let there : FallsInto (at + count + spaces) (behind_spaces behind) more end left =
          subst (λ t. FallsInto (at + count + spaces) t more end left) later_is (subst (λ n. FallsInto n later more end left) place falls) in
          let next : FallsInto (at + count) (drop count rest) more end left = subst (λ t. FallsInto (at + count) t more end left) behind_is (falls_behind behind (at + count) end more left there) in
          let here : FallsInto (length text - length rest) rest (record_of token more at) end left = subst (λ n. FallsInto n rest (record_of token more at) end left) at_is (taken takes next) in
          subst (λ all. FallsInto 0 text all end left) (sym (append_assoc tokens (record_of token [] at) more)) (so_far.goes_on (record_of token more at) end left here);
    }

-- what is left behind it is shorter
pub later_shorter : (rest behind later : List ℕ) {token : Token} {count : ℕ} → TakesToken rest count token → behind ≡ drop count rest → later ≡ behind_spaces behind → length later < length rest
later_shorter rest behind later {count = count} takes behind_is later_is =
    let some : 0 < count = taken_some takes in
    let inside : count ≤ length rest = takes.within in
    let behind_len : length behind ≡ length rest - count = ap length behind_is ∙ length-drop count rest in
    let later_len : length later + prefix_len is_space behind ≡ length behind = ap (λ t. length t + prefix_len is_space behind) later_is ∙ length_behind behind in
    omega arith

-- a rest that begins no token
refused_rest : (rest : List ℕ) (at : ℕ) → 0 < length rest → (get_or rest 0 0 ≡ space → ⊥) → BeginsNoToken rest → FallsInto at rest [] at rest
refused_rest [] at some lead none = absurd (omega arith)
refused_rest (b ∷ bs) at some lead none = refused lead none

-- where no token begins, these are all
pub no_more : (text : List ℕ) (tokens : List PlacedToken) (rest : List ℕ) (at : ℕ) → SoFar text tokens rest → 0 < length rest → BeginsNoToken rest → at ≡ length text - length rest
    → AreTokensOf text (record { tokens = tokens; end = at; whole = false })
no_more text tokens rest at so_far some none at_is =
    let within : length rest ≤ length text = so_far.within in
    let left : drop at text ≡ rest = ap (λ n. drop n text) at_is ∙ sym so_far.rest_is in
    let stop : FallsInto (length text - length rest) rest [] at rest = subst (λ n. FallsInto n rest [] at rest) at_is (refused_rest rest at some so_far.lead none) in
    let all : FallsInto 0 text tokens at rest = subst (λ tokens. FallsInto 0 text tokens at rest) (append-nil tokens) (so_far.goes_on [] at rest stop) in
    record {
      falls = subst (FallsInto 0 text tokens at) (sym left) all;
      within = omega arith;
      whole = (λ yes. absurd (false≢true yes), λ empty. let nothing : length rest ≡ 0 = ap length (sym left ∙ empty) in absurd (omega arith));
    }

-- and where nothing is left
pub all_read : (text : List ℕ) (tokens : List PlacedToken) (rest : List ℕ) → SoFar text tokens rest → length rest ≡ 0
    → AreTokensOf text (record { tokens = tokens; end = length text; whole = true })
all_read text tokens (b ∷ bs) so_far none = absurd (omega arith)
all_read text tokens [] so_far none =
    let empty : drop (length text) text ≡ [] = drop_all (length text) text (omega arith) in
    let stop : FallsInto (length text - 0) [] [] (length text) [] = let here : length text ≡ length text - 0 = omega arith in subst (λ n. FallsInto n [] [] (length text) []) here ended in
    let all : FallsInto 0 text tokens (length text) [] = subst (λ tokens. FallsInto 0 text tokens (length text) []) (append-nil tokens) (so_far.goes_on [] (length text) [] stop) in
    record {
      falls = subst (FallsInto 0 text tokens (length text)) (sym empty) all;
      within = omega arith;
      whole = (λ yes. empty, λ nothing. refl);
    }
