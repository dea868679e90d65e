-- A query is read as it is printed.
use Rattle.std.proofs.Common.{◌≡◌, ℕ, zero, suc, ◌<◌, ◌≤◌, max, List, [], ◌∷◌, ◌++◌, length, append_assoc, append-nil, arith, Option}
use Rattle.smc_tokens.specs.declared.token.Token.{Token}
use Rattle.smc_tokens.specs.declared.token.Token.TheVariants.{Name, Word, Sign}
use Rattle.smc_tokens.specs.declared.reserved.Reserved.TheVariants as words
use Rattle.smc_tokens.specs.declared.sign.Sign.TheVariants as signs
use Rattle.smc_query.specs.Trees.{ExprTree, CondTree, CallTree, ItemTree, QueryTree}
use Rattle.smc_query.specs.Grammar.{ReadsExpr, ReadsCall, a_count, an_aggregate, a_fold, ReadsItem, unnamed, named, ReadsItems, one_item, more_items, ReadsFilter, no_filter, a_filter, ReadsFirst, no_first, a_first, ReadsQuery, a_query}
use Rattle.smc_print.specs.Printed.{listed, expr_tokens, call_tokens, item_tokens, filter_tokens, show_tokens, sort_tokens, first_tokens, query_tokens}
use Rattle.smc_print.specs.Depth.{expr_depth, call_depth, items_depth, filter_depth, query_depth}
use Rattle.smc_print.specs.Laws.{TokensSpellTheQuery}
use Rattle.smc_print.proofs.ListPrints.{listed_later, listed_one, some_more, by_prints, sort_prints}
use Rattle.smc_print.proofs.ExprPrints.{ExprPrints, expr_prints}
use Rattle.smc_print.proofs.CondPrints.{CondPrints, cond_prints}

-- ---- output columns

argument_reads : (a : ExprTree) → ExprPrints a → (d : ℕ) (rest : List Token) → expr_depth a ≤ d
    → ReadsExpr d ((expr_tokens a ++ Sign signs.Close ∷ []) ++ rest) a (Sign signs.Close ∷ rest)
argument_reads a of d rest deep = rw (append_assoc (expr_tokens a) (Sign signs.Close ∷ []) rest) (of.alone d (Sign signs.Close ∷ rest) deep)

call_prints : {other : ℕ} {s r : List Token} {c : CallTree} → ReadsCall other s c r → (d : ℕ) (rest : List Token) → call_depth c ≤ d → ReadsCall d (call_tokens c ++ rest) c rest
call_prints a_count zero rest deep = absurd (omega arith)
call_prints a_count (suc d) rest deep = a_count
call_prints (an_aggregate {a = a} of) zero rest deep = absurd (omega arith)
call_prints (an_aggregate {g = g} {a = a} of) (suc d) rest deep = an_aggregate (argument_reads a (expr_prints of) d rest (omega arith))
call_prints (a_fold {a = a} of) zero rest deep = absurd (omega arith)
call_prints (a_fold {n = n} {a = a} of) (suc d) rest deep = a_fold (argument_reads a (expr_prints of) d rest (omega arith))

item_prints : {other : ℕ} {s r : List Token} {i : ItemTree} → ReadsItem other s i r → (d : ℕ) (rest : List Token) → call_depth i.call ≤ d → ReadsItem d (item_tokens i ++ rest) i rest
item_prints (unnamed {c = c} call) d rest deep = rw (append-nil (call_tokens c)) (unnamed (call_prints call d rest deep))
item_prints (named {c = c} {n = n} call) d rest deep =
    rw (append_assoc (call_tokens c) (Word words.As ∷ (Name n ∷ [])) rest) (named (call_prints call d (Word words.As ∷ (Name n ∷ rest)) deep))

pub items_some : {d : ℕ} {s r : List Token} {is : List ItemTree} → ReadsItems d s is r → 0 < length is
items_some (one_item item) = omega arith
items_some (more_items {is = is} {i = i} before item) = some_more is i

-- the depth with one more output column
items_deeper : (is : List ItemTree) (i : ItemTree) → items_depth (is ++ i ∷ []) ≡ max (items_depth is) (call_depth i.call)
items_deeper [] i = omega arith
items_deeper (first ∷ is) i = let more : items_depth (is ++ i ∷ []) ≡ max (items_depth is) (call_depth i.call) = items_deeper is i in omega arith

items_print : {other : ℕ} {s r : List Token} {is : List ItemTree} → ReadsItems other s is r → (d : ℕ) (rest : List Token) → items_depth is ≤ d
    → ReadsItems d (listed signs.Comma item_tokens is ++ rest) is rest
items_print (one_item {i = i} item) d rest deep = rw (listed_one signs.Comma item_tokens i rest) (one_item (item_prints item d rest (omega arith)))
items_print (more_items {is = is} {i = i} before item) d rest deep =
    let all = items_deeper is i in
    rw (listed_later signs.Comma item_tokens is i rest (items_some before))
    (more_items (items_print before d (Sign signs.Comma ∷ (item_tokens i ++ rest)) (omega arith)) (item_prints item d rest (omega arith)))

-- ---- a query

filter_prints : {other : ℕ} {s r : List Token} {f : Option CondTree} → ReadsFilter other s f r → (d : ℕ) (rest : List Token) → filter_depth f ≤ d → ReadsFilter d (filter_tokens f ++ rest) f rest
filter_prints no_filter d rest deep = no_filter
filter_prints (a_filter {c = c} cond) d rest deep = let prints : CondPrints c = cond_prints cond in a_filter (prints.alone d rest deep)

first_prints : {s r : List Token} {k : Option ℕ} → ReadsFirst s k r → ReadsFirst (first_tokens k) k []
first_prints no_first = no_first
first_prints a_first = a_first

query_prints : {other : ℕ} {s r : List Token} {q : QueryTree} → ReadsQuery other s q r → (d : ℕ) → query_depth q ≤ d → ReadsQuery d (query_tokens q) q []
query_prints (a_query {f = f} {ps = ps} {is = is} {ks = ks} {k = k} filter by items sort first) d deep =
    a_query (filter_prints filter d _ (omega arith)) (by_prints by (show_tokens is ++ (sort_tokens ks ++ first_tokens k))) (items_print items d (sort_tokens ks ++ first_tokens k) (omega arith)) (sort_prints sort (first_tokens k)) (first_prints first)

pub tokens_spell : TokensSpellTheQuery
tokens_spell query other depth tokens spells deep = query_prints spells depth deep
