-- The tokens with which a query is printed.
use Rattle.std.specs.Prelude.{ℕ, ◌==◌, Bool, true, false, if◌then◌else◌, List, [], ◌∷◌, ◌++◌, Option, Some, None}
use Rattle.std.specs.List.{flat_map}
use Rattle.smc_tokens.specs.declared.token.Token.{Token}
use Rattle.smc_tokens.specs.declared.token.Token.TheVariants.{Name, Word, Date, Number, Text, Sign}
use Rattle.smc_tokens.specs.declared.reserved.Reserved.TheVariants as words
use Rattle.smc_tokens.specs.declared.sign.Sign.{Sign as AnySign}
use Rattle.smc_tokens.specs.declared.sign.Sign.TheVariants as signs
use Rattle.smc_query.specs.Trees.{Word as NameBytes, PathTree, ExprTree, number, date, text, field, sum, difference, product, minus, CondTree, either, both, negation, comparison, within, CallTree, count, aggregate, fold, ItemTree, KeyTree, QueryTree}
use Rattle.smc_query.specs.Grammar.{op_sign, aggregate_word}

-- the parts of a list, each but the first behind the sign
abbrev pub listed : {A : Type 0} → AnySign → (A → List Token) → List A → List Token
listed sign tokens [] = []
listed sign tokens (part ∷ parts) = tokens part ++ flat_map (λ other. Sign sign ∷ tokens other) parts

-- the sign before the part at a place of a list
abbrev pub between : ℕ → AnySign → List Token
between place sign = if place == 0 then [] else Sign sign ∷ []

-- the names of a path, with points between
abbrev pub path_tokens : PathTree → List Token
path_tokens names = listed signs.Dot (λ name. Name name ∷ []) names

-- whether an expression is a sum, difference, product or minus
abbrev pub is_compound : ExprTree → Bool
is_compound (number units decimals) = false
is_compound (date year month day) = false
is_compound (text bytes) = false
is_compound (field path) = false
is_compound (sum left right) = true
is_compound (difference left right) = true
is_compound (product left right) = true
is_compound (minus of) = true

-- tokens in parentheses, where they are to be
abbrev pub in_parentheses : Bool → List Token → List Token
in_parentheses grouped tokens = if grouped then Sign signs.Open ∷ (tokens ++ Sign signs.Close ∷ []) else tokens

-- an expression, of which the operands that are compound stand in parentheses
abbrev pub expr_tokens : ExprTree → List Token
expr_tokens (number units decimals) = Number units decimals ∷ []
expr_tokens (date year month day) = Date year month day ∷ []
expr_tokens (text bytes) = Text bytes ∷ []
expr_tokens (field path) = path_tokens path
expr_tokens (sum left right) = in_parentheses (is_compound left) (expr_tokens left) ++ Sign signs.Plus ∷ in_parentheses (is_compound right) (expr_tokens right)
expr_tokens (difference left right) = in_parentheses (is_compound left) (expr_tokens left) ++ Sign signs.Minus ∷ in_parentheses (is_compound right) (expr_tokens right)
expr_tokens (product left right) = in_parentheses (is_compound left) (expr_tokens left) ++ Sign signs.Star ∷ in_parentheses (is_compound right) (expr_tokens right)
expr_tokens (minus of) = Sign signs.Minus ∷ in_parentheses (is_compound of) (expr_tokens of)

-- an operand of a sum, difference, product or minus
abbrev pub operand_tokens : ExprTree → List Token
operand_tokens of = in_parentheses (is_compound of) (expr_tokens of)

-- whether a condition is made of others by `or`, `and` or `not`
abbrev pub is_joined : CondTree → Bool
is_joined (either left right) = true
is_joined (both left right) = true
is_joined (negation of) = true
is_joined (comparison op left right) = false
is_joined (within value low high) = false

-- tokens in brackets, where they are to be
abbrev pub in_brackets : Bool → List Token → List Token
in_brackets grouped tokens = if grouped then Sign signs.OpenBracket ∷ (tokens ++ Sign signs.CloseBracket ∷ []) else tokens

-- a condition, of which the operands that are joined stand in brackets
abbrev pub cond_tokens : CondTree → List Token
cond_tokens (either left right) = in_brackets (is_joined left) (cond_tokens left) ++ Word words.Or ∷ in_brackets (is_joined right) (cond_tokens right)
cond_tokens (both left right) = in_brackets (is_joined left) (cond_tokens left) ++ Word words.And ∷ in_brackets (is_joined right) (cond_tokens right)
cond_tokens (negation of) = Word words.Not ∷ in_brackets (is_joined of) (cond_tokens of)
cond_tokens (comparison op left right) = expr_tokens left ++ Sign (op_sign op) ∷ expr_tokens right
cond_tokens (within value low high) = expr_tokens value ++ Word words.Between ∷ (expr_tokens low ++ Word words.And ∷ expr_tokens high)

-- an operand of `or`, `and` or `not`
abbrev pub side_tokens : CondTree → List Token
side_tokens of = in_brackets (is_joined of) (cond_tokens of)

-- the argument of a call, in its parentheses
abbrev pub argument_tokens : ExprTree → List Token
argument_tokens of = Sign signs.Open ∷ (expr_tokens of ++ Sign signs.Close ∷ [])

-- a call
abbrev pub call_tokens : CallTree → List Token
call_tokens count = Word words.Count ∷ (Sign signs.Open ∷ (Sign signs.Close ∷ []))
call_tokens (aggregate kind of) = Word (aggregate_word kind) ∷ argument_tokens of
call_tokens (fold name of) = Word words.Fold ∷ (Name name ∷ argument_tokens of)

-- the label of an output column
abbrev pub label_tokens : Option NameBytes → List Token
label_tokens None = []
label_tokens (Some name) = Word words.As ∷ (Name name ∷ [])

-- an output column
abbrev pub item_tokens : ItemTree → List Token
item_tokens item = call_tokens item.call ++ label_tokens item.label

-- a sort key
abbrev pub key_tokens : KeyTree → List Token
key_tokens key = path_tokens key.path ++ (if key.desc then Word words.Desc ∷ [] else [])

-- the condition behind `where`
abbrev pub filter_tokens : Option CondTree → List Token
filter_tokens None = []
filter_tokens (Some cond) = Word words.Where ∷ cond_tokens cond

-- the paths behind `by`
abbrev pub by_tokens : List PathTree → List Token
by_tokens [] = []
by_tokens (path ∷ paths) = Word words.By ∷ listed signs.Comma path_tokens (path ∷ paths)

-- the output columns behind `show`
abbrev pub show_tokens : List ItemTree → List Token
show_tokens items = Word words.Show ∷ listed signs.Comma item_tokens items

-- the keys behind `sort`
abbrev pub sort_tokens : List KeyTree → List Token
sort_tokens [] = []
sort_tokens (key ∷ keys) = Word words.Sort ∷ listed signs.Comma key_tokens (key ∷ keys)

-- the number behind `first`
abbrev pub first_tokens : Option ℕ → List Token
first_tokens None = []
first_tokens (Some rows) = Word words.First ∷ (Number rows 0 ∷ [])

-- what stands behind `from`
abbrev pub tail_tokens : QueryTree → List Token
tail_tokens query = Name query.table ∷ (filter_tokens query.filter ++ (by_tokens query.by ++ (show_tokens query.items ++ (sort_tokens query.sort ++ first_tokens query.first))))

-- a query
abbrev pub query_tokens : QueryTree → List Token
query_tokens query = Word words.From ∷ tail_tokens query
