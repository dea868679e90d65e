-- The reserved words and the signs: how each is written, and its place in their list.
use Rattle.std.specs.Prelude.{ℕ, List, codes}
use Rattle.smc_tokens.specs.declared.reserved.Reserved.{Reserved}
use Rattle.smc_tokens.specs.declared.reserved.Reserved.TheVariants.{From, Where, By, Show, Sort, First, As, And, Or, Not, Between, Desc, Sum, Avg, Min, Max, Count, Fold}
use Rattle.smc_tokens.specs.declared.sign.Sign.{Sign}
use Rattle.smc_tokens.specs.declared.sign.Sign.TheVariants.{Equal, Unequal, Less, LessEqual, Greater, GreaterEqual, Plus, Minus, Star, Open, Close, OpenBracket, CloseBracket, Comma, Dot}

-- how a reserved word is written
abbrev pub word_text : Reserved → List ℕ
word_text From = codes "from"
word_text Where = codes "where"
word_text By = codes "by"
word_text Show = codes "show"
word_text Sort = codes "sort"
word_text First = codes "first"
word_text As = codes "as"
word_text And = codes "and"
word_text Or = codes "or"
word_text Not = codes "not"
word_text Between = codes "between"
word_text Desc = codes "desc"
word_text Sum = codes "sum"
word_text Avg = codes "avg"
word_text Min = codes "min"
word_text Max = codes "max"
word_text Count = codes "count"
word_text Fold = codes "fold"

-- how a sign is written
abbrev pub sign_text : Sign → List ℕ
sign_text Equal = codes "="
sign_text Unequal = codes "<>"
sign_text Less = codes "<"
sign_text LessEqual = codes "<="
sign_text Greater = codes ">"
sign_text GreaterEqual = codes ">="
sign_text Plus = codes "+"
sign_text Minus = codes "-"
sign_text Star = codes "*"
sign_text Open = codes "("
sign_text Close = codes ")"
sign_text OpenBracket = codes "["
sign_text CloseBracket = codes "]"
sign_text Comma = codes ","
sign_text Dot = codes "."

-- the place of a reserved word in the list of them
abbrev pub word_code : Reserved → ℕ
word_code From = 0
word_code Where = 1
word_code By = 2
word_code Show = 3
word_code Sort = 4
word_code First = 5
word_code As = 6
word_code And = 7
word_code Or = 8
word_code Not = 9
word_code Between = 10
word_code Desc = 11
word_code Sum = 12
word_code Avg = 13
word_code Min = 14
word_code Max = 15
word_code Count = 16
word_code Fold = 17

-- the place of a sign in the list of them
abbrev pub sign_code : Sign → ℕ
sign_code Equal = 0
sign_code Unequal = 1
sign_code Less = 2
sign_code LessEqual = 3
sign_code Greater = 4
sign_code GreaterEqual = 5
sign_code Plus = 6
sign_code Minus = 7
sign_code Star = 8
sign_code Open = 9
sign_code Close = 10
sign_code OpenBracket = 11
sign_code CloseBracket = 12
sign_code Comma = 13
sign_code Dot = 14
