-- The text between quotes at the front of a text.
use Rattle.std.proofs.Common.{◌≡◌, ℕ, zero, suc, ◌+◌, ◌-◌, ◌≤◌, ◌<◌, true, false, List, [], ◌∷◌, length, length-take-le, get_or, take, drop, subst, refl, arith, ◌∙◌, sym, ap}
use Rattle.std.specs.List.{prefix_len}
use Rattle.std.specs.Str.{IsUtf8, IsCharBoundary}
use Rattle.std.proofs.lemmas.Bool.{and_from, and_left, and_right, cond-true, cond-false, eq-eqb, ne_eqb}
use Rattle.std.proofs.lemmas.List.{take-take}
use Rattle.smc_tokens.specs.Front.{IsLongest, NoFront}
use Rattle.smc_tokens.specs.Tokens.{quote, is_text_byte, ends_quoted, is_quoted, TakesToken, BeginsNoToken}
use Rattle.smc_tokens.specs.declared.token.Token.TheVariants.{Text}
use Rattle.smc_tokens.proofs.AsciiLaws.{ascii_cut}
use Rattle.smc_tokens.proofs.KindLaws.{text_token, quote_front, takes_longest, begins_none}

-- a quote is no byte of a text
quote_ends : (b : ℕ) → b ≡ quote → is_text_byte b ≡ false
quote_ends b is = ap is_text_byte is

-- how far a text goes on behind a byte that ends it, or does not
run_ended : (b : ℕ) (bs : List ℕ) → is_text_byte b ≡ false → prefix_len is_text_byte (b ∷ bs) ≡ 0
run_ended b bs is = cond-false _ _ _ is

run_more : (b : ℕ) (bs : List ℕ) → is_text_byte b ≡ true → prefix_len is_text_byte (b ∷ bs) ≡ suc (prefix_len is_text_byte bs)
run_more b bs is = let one : 1 + prefix_len is_text_byte bs ≡ suc (prefix_len is_text_byte bs) = omega arith in cond-true _ _ _ is ∙ one

-- bytes of a text with a quote behind them end quoted
pub closed : (bytes : List ℕ) (run : ℕ) → prefix_len is_text_byte bytes ≡ run → get_or bytes run 0 ≡ quote → ends_quoted (take (suc run) bytes) ≡ true
closed [] run run_is here = absurd (omega arith)
closed (b ∷ bs) zero run_is here = eq-eqb b quote here
closed (b ∷ []) (suc run) run_is here = absurd (omega arith)
closed (b ∷ c ∷ cs) (suc run) run_is here =
    elim (is_text_byte b) as (λ v. is_text_byte b ≡ v → ends_quoted (take (suc (suc run)) (b ∷ c ∷ cs)) ≡ true) [
      | true ↦ λ is. let more : prefix_len is_text_byte (c ∷ cs) ≡ run = (let step = run_more b (c ∷ cs) is in omega arith) in and_from _ _ is (closed (c ∷ cs) run more here)
      | false ↦ λ is. let none = run_ended b (c ∷ cs) is in absurd (omega arith)
    ] refl

-- no other front of them does
pub not_closed : (bytes : List ℕ) (run k : ℕ) → prefix_len is_text_byte bytes ≡ run → k ≤ length bytes → (get_or bytes run 0 ≡ quote → k ≡ suc run → ⊥) → ends_quoted (take k bytes) ≡ false
not_closed bytes run zero run_is within other = refl
not_closed [] run (suc k) run_is within other = refl
not_closed (b ∷ bs) run (suc zero) run_is within other =
    ne_eqb b quote (λ is. let none : run ≡ 0 = sym run_is ∙ run_ended b bs (quote_ends b is) in
    let here : get_or (b ∷ bs) run 0 ≡ quote = ap (λ n. get_or (b ∷ bs) n 0) none ∙ is in other here (omega arith))
not_closed (b ∷ []) run (suc (suc k)) run_is within other = absurd (omega arith)
not_closed (b ∷ c ∷ cs) run (suc (suc k)) run_is within other =
    elim (is_text_byte b) as (λ v. is_text_byte b ≡ v → ends_quoted (take (suc (suc k)) (b ∷ c ∷ cs)) ≡ false) [
      | true ↦ λ is.
          let more : run ≡ suc (prefix_len is_text_byte (c ∷ cs)) = sym run_is ∙ run_more b (c ∷ cs) is in
          and_right _ _ (not_closed (c ∷ cs) (prefix_len is_text_byte (c ∷ cs)) (suc k) refl (omega arith) (λ here same.
          let there : get_or (b ∷ c ∷ cs) run 0 ≡ quote = ap (λ n. get_or (b ∷ c ∷ cs) n 0) more ∙ here in other there (omega arith)))
      | false ↦ λ is. and_left _ _ is
    ] refl

-- the front that a reader of the inside finds is the longest
pub longest_inside : (inside : List ℕ) (len : ℕ) → len ≡ prefix_len is_text_byte inside → len < length inside → get_or inside len 0 ≡ quote → IsLongest ends_quoted inside (len + 1)
longest_inside inside len is within here = record {
  within = omega arith;
  passes = let one : len + 1 ≡ suc len = omega arith in ap (λ n. ends_quoted (take n inside)) one ∙ closed inside len (sym is) here;
  longest = λ more less inner. not_closed inside len more (sym is) inner (λ there same. omega arith);
}

-- and where no quote stands behind the bytes of the text, there is none
pub none_inside : (inside : List ℕ) (len : ℕ) → len ≡ prefix_len is_text_byte inside → (get_or inside len 0 ≡ quote → ⊥) → NoFront ends_quoted inside
none_inside inside len is other k within = not_closed inside len k (sym is) within (λ there same. other there)

-- ---- the token

-- a quote before an inside
longest_quoted : (inside : List ℕ) (count : ℕ) → IsLongest ends_quoted inside count → IsLongest is_quoted (quote ∷ inside) (suc count)
longest_quoted inside count ends = record {
  within = let inner : count ≤ length inside = ends.within in omega arith;
  passes = ends.passes;
  longest = λ more. elim more as (λ m. suc count < m → m ≤ length (quote ∷ inside) → is_quoted (take m (quote ∷ inside)) ≡ false) [
    | zero ↦ λ less within. absurd (omega arith)
    | suc m ↦ λ less within. ends.longest m (omega arith) (omega arith)
  ];
}

none_quoted : (inside : List ℕ) → NoFront ends_quoted inside → NoFront is_quoted (quote ∷ inside)
none_quoted inside none zero within = refl
none_quoted inside none (suc k) within = none k (omega arith)

-- what a reader found is the token
pub quoted_found : (text inside quoted : List ℕ) (len : ℕ) → get_or text 0 0 ≡ quote → inside ≡ drop 1 text → quoted ≡ take len inside
    → len < length inside → get_or inside len 0 ≡ quote → IsLongest ends_quoted inside (len + 1) → TakesToken text (len + 2) (Text quoted) × (get_or text (len + 1) 0 < 128)
quoted_found [] inside quoted len first inside_is quoted_is within here longest = absurd (omega arith)
quoted_found (b ∷ bs) inside quoted len first inside_is quoted_is within here longest =
    let ends : IsLongest ends_quoted bs (len + 1) = subst (λ text. IsLongest ends_quoted text (len + 1)) inside_is longest in
    let front : IsLongest is_quoted (b ∷ bs) (suc (len + 1)) = subst (λ byte. IsLongest is_quoted (byte ∷ bs) (suc (len + 1))) (sym first) (longest_quoted bs (len + 1) ends) in
    let takes = takes_longest is_quoted text_token (b ∷ bs) (suc (len + 1)) (quote_front (b ∷ bs) first) front in
    let size : length (take (len + 1) bs) ≡ len + 1 = length-take-le (len + 1) bs ends.within in
    let inner : length (b ∷ take (len + 1) bs) - 2 ≡ len = omega arith in
    let token : text_token (take (suc (len + 1)) (b ∷ bs)) ≡ Text quoted =
    ap (λ n. Text (take n (take (len + 1) bs))) inner ∙ ap Text (take-take len (len + 1) bs (omega arith)) ∙ ap (λ text. Text (take len text)) (sym inside_is) ∙ ap Text (sym quoted_is) in
    let count : suc (len + 1) ≡ len + 2 = omega arith in
    let last : len + 1 ≡ suc len = omega arith in
    let behind : get_or (b ∷ bs) (len + 1) 0 ≡ quote = ap (λ n. get_or (b ∷ bs) n 0) last ∙ ap (λ text. get_or text len 0) (sym inside_is) ∙ here in
    (subst (λ n. TakesToken (b ∷ bs) n (Text quoted)) count (subst (TakesToken (b ∷ bs) (suc (len + 1))) token takes), omega arith)

-- and where there is none, no token begins
pub quoted_none : (text inside : List ℕ) → get_or text 0 0 ≡ quote → inside ≡ drop 1 text → NoFront ends_quoted inside → BeginsNoToken text
quoted_none [] inside first inside_is none = absurd (omega arith)
quoted_none (b ∷ bs) inside first inside_is none =
    let front : NoFront is_quoted (b ∷ bs) = subst (λ byte. NoFront is_quoted (byte ∷ bs)) (sym first) (none_quoted bs (subst (NoFront ends_quoted) inside_is none)) in
    begins_none is_quoted text_token (b ∷ bs) (quote_front (b ∷ bs) first) front

-- a text may be cut behind its first quote
pub quote_cut : (text : List ℕ) → IsUtf8 text → get_or text 0 0 ≡ quote → IsCharBoundary text 1
quote_cut [] utf8 first = absurd (omega arith)
quote_cut (b ∷ bs) utf8 first = ascii_cut (b ∷ bs) 1 utf8 (omega arith) (omega arith) (omega arith)
