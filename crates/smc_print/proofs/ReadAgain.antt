-- A token of a text is read where it is written.
use Rattle.std.proofs.Common.{◌≡◌, inl, inr, ℕ, suc, ◌-◌, true, ◌&&◌, eqb, List, [], ◌∷◌, ◌++◌, length, take, drop, Option, Some, None, refl, arith, ◌∙◌, sym, ap, subst}
use Rattle.std.specs.Char.{is_ascii_digit}
use Rattle.std.specs.List.{list_all, find}
use Rattle.std.specs.Str.{bytes_eq}
use Rattle.std.specs.Str.Parse.{digits_value}
use Rattle.std.proofs.lemmas.Bool.{and_parts, cases_Bool, cond-true, cond-false, eqb-true, false≢true}
use Rattle.std.proofs.lemmas.List.Folds.{list_all-append}
use Rattle.smc_tokens.specs.Marks.{word_text, sign_text}
use Rattle.smc_tokens.specs.Tokens.{quote, dash, token_of, named, signed, all_words, all_signs, is_name, is_date, has_date_form, is_number, number_of, is_quoted, ends_quoted, year_of, month_of, day_of}
use Rattle.smc_tokens.specs.declared.token.Token.{Token}
use Rattle.smc_tokens.specs.declared.token.Token.TheVariants.{Word, Date, Text, Sign as OfSign}
use Rattle.smc_tokens.specs.declared.reserved.Reserved.{Reserved}
use Rattle.smc_tokens.specs.declared.reserved.Reserved.TheVariants.{From, Where, By, Show, Sort, First, As, And, Or, Not, Between, Desc, Sum, Avg, Min, Max, Count, Fold}
use Rattle.smc_tokens.specs.declared.sign.Sign.{Sign}
use Rattle.smc_tokens.specs.declared.sign.Sign.TheVariants.{Equal, Unequal, Less, LessEqual, Greater, GreaterEqual, Plus, Minus, Star, Open, Close, OpenBracket, CloseBracket, Comma, Dot}
use Rattle.smc_print.specs.TokenText.{token_text, last_digits, date_text, quoted_text}
use Rattle.smc_print.specs.Laws.{IsRead}
use Rattle.smc_print.proofs.DigitTexts.{last_of}
use Rattle.smc_print.proofs.NumberTexts.{number_read}

-- ---- words, names and signs

pub word_read : (word : Reserved) → IsRead (Word word)
unfolding token_of token_text
word_read From = refl
word_read Where = refl
word_read By = refl
word_read Show = refl
word_read Sort = refl
word_read First = refl
word_read As = refl
word_read And = refl
word_read Or = refl
word_read Not = refl
word_read Between = refl
word_read Desc = refl
word_read Sum = refl
word_read Avg = refl
word_read Min = refl
word_read Max = refl
word_read Count = refl
word_read Fold = refl

pub sign_read : (sign : Sign) → IsRead (OfSign sign)
unfolding token_of token_text
sign_read Equal = refl
sign_read Unequal = refl
sign_read Less = refl
sign_read LessEqual = refl
sign_read Greater = refl
sign_read GreaterEqual = refl
sign_read Plus = refl
sign_read Minus = refl
sign_read Star = refl
sign_read Open = refl
sign_read Close = refl
sign_read OpenBracket = refl
sign_read CloseBracket = refl
sign_read Comma = refl
sign_read Dot = refl

-- a token that is written as the bytes that it was read from is read
same_text : (bytes : List ℕ) (token : Token) → token_of bytes ≡ Some token → token_text token ≡ bytes → IsRead token
same_text bytes token spelled same = ap token_of same ∙ spelled

named_read : (bytes : List ℕ) (found : Option Reserved) → token_of bytes ≡ Some (named bytes found) → IsRead (named bytes found)
unfolding token_text
named_read bytes (Some word) spelled = word_read word
named_read bytes None spelled = spelled

signed_read : (found : Option Sign) (token : Token) → signed found ≡ Some token → IsRead token
signed_read (Some sign) token is = let same : OfSign sign ≡ token = cc in subst IsRead same (sign_read sign)
signed_read None token is = let h = is in absurd (cc)

-- ---- dates and texts

date_is : (bytes : List ℕ) → has_date_form bytes ≡ true → date_text (year_of bytes) (month_of bytes) (day_of bytes) ≡ bytes
date_is (a ∷ b ∷ c ∷ d ∷ e ∷ f ∷ g ∷ h ∷ i ∷ j ∷ []) form =
    let (digits, dashes) = and_parts (list_all is_ascii_digit (a ∷ b ∷ c ∷ d ∷ f ∷ g ∷ i ∷ j ∷ [])) (eqb e dash && eqb h dash) form in
    let (eth, hth) = and_parts (eqb e dash) (eqb h dash) dashes in
    let e_is : e ≡ dash = eqb-true e dash eth in
    let h_is : h ≡ dash = eqb-true h dash hth in
    let parts : (list_all is_ascii_digit (a ∷ b ∷ c ∷ d ∷ []) && list_all is_ascii_digit (f ∷ g ∷ i ∷ j ∷ [])) ≡ true = sym (list_all-append is_ascii_digit (a ∷ b ∷ c ∷ d ∷ []) (f ∷ g ∷ i ∷ j ∷ [])) ∙ digits in
    let (year, later) = and_parts (list_all is_ascii_digit (a ∷ b ∷ c ∷ d ∷ [])) (list_all is_ascii_digit (f ∷ g ∷ i ∷ j ∷ [])) parts in
    let rest : (list_all is_ascii_digit (f ∷ g ∷ []) && list_all is_ascii_digit (i ∷ j ∷ [])) ≡ true = sym (list_all-append is_ascii_digit (f ∷ g ∷ []) (i ∷ j ∷ [])) ∙ later in
    let (month, day) = and_parts (list_all is_ascii_digit (f ∷ g ∷ [])) (list_all is_ascii_digit (i ∷ j ∷ [])) rest in
    let y : last_digits 4 (digits_value 10 (a ∷ b ∷ c ∷ d ∷ [])) ≡ a ∷ b ∷ c ∷ d ∷ [] = last_of 0 (a ∷ b ∷ c ∷ d ∷ []) year in
    let m : last_digits 2 (digits_value 10 (f ∷ g ∷ [])) ≡ f ∷ g ∷ [] = last_of 0 (f ∷ g ∷ []) month in
    let n : last_digits 2 (digits_value 10 (i ∷ j ∷ [])) ≡ i ∷ j ∷ [] = last_of 0 (i ∷ j ∷ []) day in
    rw (y, m, n, e_is, h_is) refl
date_is _ form = absurd (false≢true form)

-- what ends quoted is a text and a quote
ended_is : (bytes : List ℕ) → ends_quoted bytes ≡ true → take (length bytes - 1) bytes ++ quote ∷ [] ≡ bytes
ended_is [] ends = absurd (false≢true ends)
ended_is (b ∷ []) ends = let same : b ≡ quote = eqb-true b quote ends in ap (λ (byte : ℕ). byte ∷ []) (sym same)
ended_is (b ∷ c ∷ cs) ends =
    let (here, later) = and_parts _ _ ends in
    let more : take (length (c ∷ cs) - 1) (c ∷ cs) ++ quote ∷ [] ≡ c ∷ cs = ended_is (c ∷ cs) later in
    let count : length (b ∷ c ∷ cs) - 1 ≡ suc (length (c ∷ cs) - 1) = omega arith in
    rw count (ap (λ ts. b ∷ ts) more)

quoted_is : (bytes : List ℕ) → is_quoted bytes ≡ true → quoted_text (take (length bytes - 2) (drop 1 bytes)) ≡ bytes
quoted_is [] is = absurd (false≢true is)
quoted_is (b ∷ bs) is =
    let (first, ends) = and_parts _ _ is in
    let same : b ≡ quote = eqb-true b quote first in
    let count : length (b ∷ bs) - 2 ≡ length bs - 1 = omega arith in
    rw (count, same) (ap (λ ts. quote ∷ ts) (ended_is bs ends))

-- ---- a token

date_form : (bytes : List ℕ) → is_date bytes ≡ true → has_date_form bytes ≡ true
date_form [] is = absurd (false≢true is)
date_form (b ∷ bs) is = let (digit, later) = and_parts _ _ is in let (form, civil) = and_parts _ _ later in form

pub read_again : (bytes : List ℕ) (token : Token) → token_of bytes ≡ Some token → IsRead token
unfolding token_of token_text
read_again bytes token spelled =
    elim (cases_Bool (is_name bytes)) [
      | inl name ↦
          let found = find (λ word. bytes_eq (word_text word) bytes) all_words in
          let e : token_of bytes ≡ Some (named bytes found) = cond-true _ _ _ name in
          let same : named bytes found ≡ token = cc in
          subst IsRead same (named_read bytes found e)
      | inr no_name ↦
          elim (cases_Bool (is_date bytes)) [
            | inl date ↦
                let e : token_of bytes ≡ Some (Date (year_of bytes) (month_of bytes) (day_of bytes)) = cond-false _ _ _ no_name ∙ cond-true _ _ _ date in
                let same : Date (year_of bytes) (month_of bytes) (day_of bytes) ≡ token = cc in
                subst IsRead same (same_text bytes (Date (year_of bytes) (month_of bytes) (day_of bytes)) e (date_is bytes (date_form bytes date)))
            | inr no_date ↦
                elim (cases_Bool (is_number bytes)) [
                  | inl number ↦
                      let e : token_of bytes ≡ Some (number_of bytes) = cond-false _ _ _ no_name ∙ cond-false _ _ _ no_date ∙ cond-true _ _ _ number in
                      let same : number_of bytes ≡ token = cc in
                      subst IsRead same (number_read bytes number)
                  | inr no_number ↦
                      elim (cases_Bool (is_quoted bytes)) [
                        | inl quoted ↦
                            let inner = take (length bytes - 2) (drop 1 bytes) in
                            let e : token_of bytes ≡ Some (Text inner) = cond-false _ _ _ no_name ∙ cond-false _ _ _ no_date ∙ cond-false _ _ _ no_number ∙ cond-true _ _ _ quoted in
                            let same : Text inner ≡ token = cc in
                            subst IsRead same (same_text bytes (Text inner) e (quoted_is bytes quoted))
                        | inr no_quoted ↦
                            let found = find (λ sign. bytes_eq (sign_text sign) bytes) all_signs in
                            let e : token_of bytes ≡ signed found = cond-false _ _ _ no_name ∙ cond-false _ _ _ no_date ∙ cond-false _ _ _ no_number ∙ cond-false _ _ _ no_quoted in
                            signed_read found token (sym e ∙ spelled)
                      ]
                ]
          ]
    ]
