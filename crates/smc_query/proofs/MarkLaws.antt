-- A token that is the same word or sign as another is that token.
use Rattle.std.proofs.Common.{◌≡◌, ℕ, true, [], ◌∷◌, refl, sym, ◌∙◌, ap}
use Rattle.std.specs.Prelude.{slice_index_or}
use Rattle.std.proofs.lemmas.Bool.{eqb-true}
use Rattle.smc_tokens.specs.Marks.{word_code, sign_code}
use Rattle.smc_tokens.specs.declared.token.Token.{Token}
use Rattle.smc_tokens.specs.declared.token.Token.TheVariants.{Word, Sign as OfSign}
use Rattle.smc_tokens.specs.declared.reserved.Reserved.{Reserved}
use Rattle.smc_tokens.specs.declared.reserved.Reserved.TheVariants.{From, Where, By, Show, Sort, First, As, And, Or, Not, Between, Desc, Sum, Avg, Min, Max, Count, Fold}
use Rattle.smc_tokens.specs.declared.sign.Sign.{Sign}
use Rattle.smc_tokens.specs.declared.sign.Sign.TheVariants.{Equal, Unequal, Less, LessEqual, Greater, GreaterEqual, Plus, Minus, Star, Open, Close, OpenBracket, CloseBracket, Comma, Dot}
use Rattle.smc_query.specs.Machine.{is_mark}

-- the word at a place of the list of words
word_at : ℕ → Reserved
word_at n = slice_index_or (From ∷ Where ∷ By ∷ Show ∷ Sort ∷ First ∷ As ∷ And ∷ Or ∷ Not ∷ Between ∷ Desc ∷ Sum ∷ Avg ∷ Min ∷ Max ∷ Count ∷ Fold ∷ []) n From

-- the sign at a place of the list of signs
sign_at : ℕ → Sign
sign_at n = slice_index_or (Equal ∷ Unequal ∷ Less ∷ LessEqual ∷ Greater ∷ GreaterEqual ∷ Plus ∷ Minus ∷ Star ∷ Open ∷ Close ∷ OpenBracket ∷ CloseBracket ∷ Comma ∷ Dot ∷ []) n Equal

word_at-code : (w : Reserved) → word_at (word_code w) ≡ w
unfolding word_at
word_at-code From = refl
word_at-code Where = refl
word_at-code By = refl
word_at-code Show = refl
word_at-code Sort = refl
word_at-code First = refl
word_at-code As = refl
word_at-code And = refl
word_at-code Or = refl
word_at-code Not = refl
word_at-code Between = refl
word_at-code Desc = refl
word_at-code Sum = refl
word_at-code Avg = refl
word_at-code Min = refl
word_at-code Max = refl
word_at-code Count = refl
word_at-code Fold = refl

sign_at-code : (s : Sign) → sign_at (sign_code s) ≡ s
unfolding sign_at
sign_at-code Equal = refl
sign_at-code Unequal = refl
sign_at-code Less = refl
sign_at-code LessEqual = refl
sign_at-code Greater = refl
sign_at-code GreaterEqual = refl
sign_at-code Plus = refl
sign_at-code Minus = refl
sign_at-code Star = refl
sign_at-code Open = refl
sign_at-code Close = refl
sign_at-code OpenBracket = refl
sign_at-code CloseBracket = refl
sign_at-code Comma = refl
sign_at-code Dot = refl

-- words of one place are one word
pub word_code-injective : (a b : Reserved) → word_code a ≡ word_code b → a ≡ b
word_code-injective a b e = sym (word_at-code a) ∙ (ap word_at e ∙ word_at-code b)

-- signs of one place are one sign
pub sign_code-injective : (a b : Sign) → sign_code a ≡ sign_code b → a ≡ b
sign_code-injective a b e = sym (sign_at-code a) ∙ (ap sign_at e ∙ sign_at-code b)

-- a token that is this mark is the mark
pub is_mark-is : (m t : Token) → is_mark m t ≡ true → t ≡ m
is_mark-is (Word a) (Word b) e = ap Word (sym (word_code-injective a b (eqb-true (word_code a) (word_code b) e)))
is_mark-is (OfSign a) (OfSign b) e = ap OfSign (sym (sign_code-injective a b (eqb-true (sign_code a) (sign_code b) e)))
is_mark-is _ _ e = cc
