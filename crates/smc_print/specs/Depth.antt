-- How many parentheses, brackets, `not` and unary minus a printed query has open at one place at most.
use Rattle.std.specs.Prelude.{ℕ, suc, max, Bool, if◌then◌else◌, List, [], ◌∷◌, Option, Some, None}
use Rattle.smc_query.specs.Trees.{ExprTree, number, date, text, field, sum, difference, product, minus, CondTree, either, both, negation, comparison, within, CallTree, count, aggregate, fold, ItemTree, QueryTree}
use Rattle.smc_print.specs.Printed.{is_compound, is_joined}

-- one more, round what is grouped
abbrev pub grouped_depth : Bool → ℕ → ℕ
grouped_depth grouped depth = if grouped then suc depth else depth

abbrev pub expr_depth : ExprTree → ℕ
expr_depth (number units decimals) = 0
expr_depth (date year month day) = 0
expr_depth (text bytes) = 0
expr_depth (field path) = 0
expr_depth (sum left right) = max (grouped_depth (is_compound left) (expr_depth left)) (grouped_depth (is_compound right) (expr_depth right))
expr_depth (difference left right) = max (grouped_depth (is_compound left) (expr_depth left)) (grouped_depth (is_compound right) (expr_depth right))
expr_depth (product left right) = max (grouped_depth (is_compound left) (expr_depth left)) (grouped_depth (is_compound right) (expr_depth right))
expr_depth (minus of) = suc (grouped_depth (is_compound of) (expr_depth of))

abbrev pub cond_depth : CondTree → ℕ
cond_depth (either left right) = max (grouped_depth (is_joined left) (cond_depth left)) (grouped_depth (is_joined right) (cond_depth right))
cond_depth (both left right) = max (grouped_depth (is_joined left) (cond_depth left)) (grouped_depth (is_joined right) (cond_depth right))
cond_depth (negation of) = suc (grouped_depth (is_joined of) (cond_depth of))
cond_depth (comparison op left right) = max (expr_depth left) (expr_depth right)
cond_depth (within value low high) = max (expr_depth value) (max (expr_depth low) (expr_depth high))

-- the parenthesis of a call is one
abbrev pub call_depth : CallTree → ℕ
call_depth count = 1
call_depth (aggregate kind of) = suc (expr_depth of)
call_depth (fold name of) = suc (expr_depth of)

abbrev pub items_depth : List ItemTree → ℕ
items_depth [] = 0
items_depth (item ∷ items) = max (call_depth item.call) (items_depth items)

abbrev pub filter_depth : Option CondTree → ℕ
filter_depth None = 0
filter_depth (Some cond) = cond_depth cond

abbrev pub query_depth : QueryTree → ℕ
query_depth query = max (filter_depth query.filter) (items_depth query.items)
