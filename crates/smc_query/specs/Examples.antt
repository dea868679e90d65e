-- Short texts as tokens, and what they spell.
use Rattle.std.specs.Prelude.{ℕ, List, [], ◌∷◌, None, codes}
use Rattle.smc_tokens.specs.declared.token.Token.{Token}
use Rattle.smc_tokens.specs.declared.token.Token.TheVariants.{Name, Word, Number, Sign}
use Rattle.smc_tokens.specs.declared.reserved.Reserved.TheVariants as words
use Rattle.smc_tokens.specs.declared.sign.Sign.TheVariants as signs
use Rattle.smc_query.specs.declared.cond.Op.TheVariants as ops
use Rattle.smc_query.specs.Trees.{ExprTree, number, difference, CondTree, either, both, comparison, count, Answer, a_query, a_cond, an_edit, query_text, cond_text, edit_text}
use Rattle.smc_query.specs.Grammar.{Spells}
use Rattle.smc_query.specs.Laws.{IsSpelled}

-- a whole number as a token, and as a tree
abbrev pub digit : ℕ → Token
digit n = Number n 0

abbrev pub one : ℕ → ExprTree
one n = number n 0

-- `from region show count()`
abbrev pub regions_text : List Token
regions_text = Word words.From ∷ (Name (codes "region") ∷ (Word words.Show ∷ (Word words.Count ∷ (Sign signs.Open ∷ (Sign signs.Close ∷ [])))))

abbrev pub regions_query : Answer
regions_query = a_query (record { table = codes "region"; filter = None; by = []; items = (record { call = count; label = None }) ∷ []; sort = []; first = None })

abbrev pub CountsRegions : Type 0
CountsRegions = Spells query_text 64 regions_text regions_query

-- `7 - 2 - 1` is seven less two, less one
abbrev pub left_text : List Token
left_text = digit 7 ∷ (Sign signs.Minus ∷ (digit 2 ∷ (Sign signs.Minus ∷ (digit 1 ∷ []))))

abbrev pub left_edit : Answer
left_edit = an_edit (difference (difference (one 7) (one 2)) (one 1)) None

abbrev pub PairsFromTheLeft : Type 0
PairsFromTheLeft = Spells edit_text 64 left_text left_edit

-- `7 - (2 - 1)` is seven less the difference
abbrev pub right_text : List Token
right_text = digit 7 ∷ (Sign signs.Minus ∷ (Sign signs.Open ∷ (digit 2 ∷ (Sign signs.Minus ∷ (digit 1 ∷ (Sign signs.Close ∷ []))))))

abbrev pub right_edit : Answer
right_edit = an_edit (difference (one 7) (difference (one 2) (one 1))) None

abbrev pub PairsInParentheses : Type 0
PairsInParentheses = Spells edit_text 64 right_text right_edit

-- `1 = 1`
abbrev pub equals_tokens : ℕ → List Token → List Token
equals_tokens n later = digit n ∷ (Sign signs.Equal ∷ (digit n ∷ later))

abbrev pub equals : ℕ → CondTree
equals n = comparison ops.Equal (one n) (one n)

-- `1 = 1 or 2 = 2 and 3 = 3`: `and` binds closer than `or`
abbrev pub chain_text : List Token
chain_text = equals_tokens 1 (Word words.Or ∷ equals_tokens 2 (Word words.And ∷ equals_tokens 3 []))

abbrev pub chain_cond : Answer
chain_cond = a_cond (either (equals 1) (both (equals 2) (equals 3)))

abbrev pub BindsAndCloser : Type 0
BindsAndCloser = Spells cond_text 64 chain_text chain_cond

-- `from show show count()`: a reserved word is no name
abbrev pub word_text : List Token
word_text = Word words.From ∷ (Word words.Show ∷ (Word words.Show ∷ (Word words.Count ∷ (Sign signs.Open ∷ (Sign signs.Close ∷ [])))))

abbrev pub KeepsItsWords : Type 0
KeepsItsWords = ¬ IsSpelled query_text 64 word_text

-- `from region show count() first 0.5`: the number has no decimals
abbrev pub half_text : List Token
half_text = Word words.From ∷ (Name (codes "region") ∷ (Word words.Show ∷ (Word words.Count ∷ (Sign signs.Open ∷ (Sign signs.Close ∷ (Word words.First ∷ (Number 5 1 ∷ [])))))))

abbrev pub CountsWholeRows : Type 0
CountsWholeRows = ¬ IsSpelled query_text 64 half_text

-- `- - 1` needs two open at one place
abbrev pub minus_text : List Token
minus_text = Sign signs.Minus ∷ (Sign signs.Minus ∷ (digit 1 ∷ []))

abbrev pub NestsTwice : Type 0
NestsTwice = IsSpelled edit_text 2 minus_text × ¬ IsSpelled edit_text 1 minus_text
