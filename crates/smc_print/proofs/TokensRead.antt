-- The tokens of a printed query are read, where those that it was read from are.
use Rattle.std.proofs.Common.{ℕ, ◌<◌, Bool, true, false, List, [], ◌∷◌, ◌++◌, length, Option, append-nil}
use Rattle.smc_tokens.specs.declared.token.Token.{Token}
use Rattle.smc_tokens.specs.declared.token.Token.TheVariants.{Name, Word, Sign}
use Rattle.smc_tokens.specs.declared.reserved.Reserved.TheVariants as words
use Rattle.smc_tokens.specs.declared.sign.Sign.{Sign as AnySign}
use Rattle.smc_tokens.specs.declared.sign.Sign.TheVariants as signs
use Rattle.smc_query.specs.Trees.{PathTree, ExprTree, CondTree, CallTree, ItemTree, KeyTree, QueryTree}
use Rattle.smc_query.specs.Grammar.{op_sign, ReadsPath, one_name, more_names, ReadsFactor, a_number, a_date, a_text, a_path, a_minus, parentheses, ReadsTerm, one_factor, a_product, ReadsExpr, one_term, a_sum, a_difference, ReadsNeg, a_negation, brackets, a_comparison, a_range, ReadsConj, one_neg, an_and, ReadsCond, one_conj, an_or, ReadsCall, a_count, an_aggregate, a_fold, ReadsItem, unnamed, named, ReadsItems, one_item, more_items, ReadsPaths, one_path, more_paths, ReadsKey, rising, falling, ReadsKeys, one_key, more_keys, ReadsFilter, no_filter, a_filter, ReadsBy, no_by, a_by, ReadsSort, no_sort, a_sort, ReadsFirst, no_first, a_first, ReadsQuery, a_query}
use Rattle.smc_print.specs.Printed.{listed, path_tokens, is_compound, in_parentheses, expr_tokens, operand_tokens, is_joined, in_brackets, cond_tokens, side_tokens, call_tokens, item_tokens, key_tokens, filter_tokens, by_tokens, show_tokens, sort_tokens, first_tokens, query_tokens}
use Rattle.smc_print.specs.Laws.{IsRead, AreRead}
use Rattle.smc_print.proofs.WriteLaws.{listed_next, between_later}
use Rattle.smc_print.proofs.ListPrints.{path_some, paths_some, keys_some}
use Rattle.smc_print.proofs.QueryPrints.{items_some}
use Rattle.smc_print.proofs.ReadAgain.{word_read, sign_read}

-- tokens before and behind others are read
are_read : (ts us : List Token) → AreRead ts → AreRead us → AreRead (ts ++ us)
are_read [] us before behind = behind
are_read (t ∷ ts) us (one, before) behind = (one, are_read ts us before behind)

-- a sign between two lists of tokens
joined : (ts us : List Token) (token : Token) → AreRead ts → IsRead token → AreRead us → AreRead (ts ++ token ∷ us)
joined ts us token before one behind = are_read ts (token ∷ us) before (one, behind)

-- one more part of a list
listed_read : {A : Type 0} (sign : AnySign) (tokens : A → List Token) (parts : List A) (part : A) → 0 < length parts
    → AreRead (listed sign tokens parts) → AreRead (tokens part) → AreRead (listed sign tokens (parts ++ part ∷ []))
listed_read sign tokens parts part some before one =
    let next = listed_next sign tokens parts part in
    let later = between_later (length parts) sign some in
    rw (next, later) (joined (listed sign tokens parts) (tokens part) (Sign sign) before (sign_read sign) one)

-- one part alone
one_read : {A : Type 0} (sign : AnySign) (tokens : A → List Token) (part : A) → AreRead (tokens part) → AreRead (listed sign tokens (part ∷ []))
one_read sign tokens part one = rw (append-nil (tokens part)) one

parenthesised : (grouped : Bool) (ts : List Token) → AreRead ts → AreRead (in_parentheses grouped ts)
parenthesised true ts read = (sign_read signs.Open, joined ts [] (Sign signs.Close) read (sign_read signs.Close) tt)
parenthesised false ts read = read

bracketed : (grouped : Bool) (ts : List Token) → AreRead ts → AreRead (in_brackets grouped ts)
bracketed true ts read = (sign_read signs.OpenBracket, joined ts [] (Sign signs.CloseBracket) read (sign_read signs.CloseBracket) tt)
bracketed false ts read = read

-- ---- paths

path_read : {s r : List Token} {p : PathTree} → ReadsPath s p r → AreRead s → AreRead (path_tokens p) × AreRead r
path_read one_name (one, rest) = ((one, tt), rest)
path_read (more_names {p = p} {n = n} before) all =
    let (front, (dot, (name, rest))) = path_read before all in
    (listed_read signs.Dot (λ (name : List ℕ). Name name ∷ []) p n (path_some before) front (name, tt), rest)

paths_read : {s r : List Token} {ps : List PathTree} → ReadsPaths s ps r → AreRead s → AreRead (listed signs.Comma path_tokens ps) × AreRead r
paths_read (one_path {p = p} path) all = let (one, rest) = path_read path all in (one_read signs.Comma path_tokens p one, rest)
paths_read (more_paths {ps = ps} {p = p} before path) all =
    let (front, (comma, later)) = paths_read before all in
    let (one, rest) = path_read path later in
    (listed_read signs.Comma path_tokens ps p (paths_some before) front one, rest)

by_read_some : (ps : List PathTree) → AreRead (listed signs.Comma path_tokens ps) → AreRead (by_tokens ps)
by_read_some [] all = tt
by_read_some (p ∷ ps) all = (word_read words.By, all)

by_read : {s r : List Token} {ps : List PathTree} → ReadsBy s ps r → AreRead s → AreRead (by_tokens ps) × AreRead r
by_read no_by all = (tt, all)
by_read (a_by {ps = ps} paths) (word, all) = let (them, rest) = paths_read paths all in (by_read_some ps them, rest)

-- ---- expressions

mutual
  factor_read : {d : ℕ} {s r : List Token} {a : ExprTree} → ReadsFactor d s a r → AreRead s → AreRead (expr_tokens a) × AreRead r
  factor_read a_number (one, rest) = ((one, tt), rest)
  factor_read a_date (one, rest) = ((one, tt), rest)
  factor_read a_text (one, rest) = ((one, tt), rest)
  factor_read (a_path path) all = path_read path all
  factor_read (a_minus {a = a} of) (sign, all) =
      let (inner, rest) = factor_read of all in
      ((sign, parenthesised (is_compound a) (expr_tokens a) inner), rest)
  factor_read (parentheses of) (opened, all) = let (inner, (close, rest)) = expr_read of all in (inner, rest)

  term_read : {d : ℕ} {s r : List Token} {a : ExprTree} → ReadsTerm d s a r → AreRead s → AreRead (expr_tokens a) × AreRead r
  term_read (one_factor factor) all = factor_read factor all
  term_read (a_product {a = a} {b = b} left right) all =
      let (one, (sign, later)) = term_read left all in
      let (two, rest) = factor_read right later in
      (joined (operand_tokens a) (operand_tokens b) (Sign signs.Star) (parenthesised (is_compound a) (expr_tokens a) one) sign (parenthesised (is_compound b) (expr_tokens b) two), rest)

  expr_read : {d : ℕ} {s r : List Token} {a : ExprTree} → ReadsExpr d s a r → AreRead s → AreRead (expr_tokens a) × AreRead r
  expr_read (one_term term) all = term_read term all
  expr_read (a_sum {a = a} {b = b} left right) all =
      let (one, (sign, later)) = expr_read left all in
      let (two, rest) = term_read right later in
      (joined (operand_tokens a) (operand_tokens b) (Sign signs.Plus) (parenthesised (is_compound a) (expr_tokens a) one) sign (parenthesised (is_compound b) (expr_tokens b) two), rest)
  expr_read (a_difference {a = a} {b = b} left right) all =
      let (one, (sign, later)) = expr_read left all in
      let (two, rest) = term_read right later in
      (joined (operand_tokens a) (operand_tokens b) (Sign signs.Minus) (parenthesised (is_compound a) (expr_tokens a) one) sign (parenthesised (is_compound b) (expr_tokens b) two), rest)

-- ---- conditions

mutual
  neg_read : {d : ℕ} {s r : List Token} {c : CondTree} → ReadsNeg d s c r → AreRead s → AreRead (cond_tokens c) × AreRead r
  neg_read (a_negation {c = c} of) (word, all) =
      let (inner, rest) = neg_read of all in
      ((word, bracketed (is_joined c) (cond_tokens c) inner), rest)
  neg_read (brackets of) (opened, all) = let (inner, (close, rest)) = cond_read of all in (inner, rest)
  neg_read (a_comparison {op = op} {a = a} {b = b} left right) all =
      let (one, (sign, later)) = expr_read left all in
      let (two, rest) = expr_read right later in
      (joined (expr_tokens a) (expr_tokens b) (Sign (op_sign op)) one sign two, rest)
  neg_read (a_range {a = a} {b = b} {c = c} value low high) all =
      let (one, (between_is, later)) = expr_read value all in
      let (two, (and_is, behind)) = expr_read low later in
      let (three, rest) = expr_read high behind in
      (joined (expr_tokens a) (expr_tokens b ++ Word words.And ∷ expr_tokens c) (Word words.Between) one between_is (joined (expr_tokens b) (expr_tokens c) (Word words.And) two and_is three), rest)

  conj_read : {d : ℕ} {s r : List Token} {c : CondTree} → ReadsConj d s c r → AreRead s → AreRead (cond_tokens c) × AreRead r
  conj_read (one_neg neg) all = neg_read neg all
  conj_read (an_and {b = b} {c = c} left right) all =
      let (one, (word, later)) = conj_read left all in
      let (two, rest) = neg_read right later in
      (joined (side_tokens b) (side_tokens c) (Word words.And) (bracketed (is_joined b) (cond_tokens b) one) word (bracketed (is_joined c) (cond_tokens c) two), rest)

  cond_read : {d : ℕ} {s r : List Token} {c : CondTree} → ReadsCond d s c r → AreRead s → AreRead (cond_tokens c) × AreRead r
  cond_read (one_conj conj) all = conj_read conj all
  cond_read (an_or {b = b} {c = c} left right) all =
      let (one, (word, later)) = cond_read left all in
      let (two, rest) = conj_read right later in
      (joined (side_tokens b) (side_tokens c) (Word words.Or) (bracketed (is_joined b) (cond_tokens b) one) word (bracketed (is_joined c) (cond_tokens c) two), rest)

filter_read : {d : ℕ} {s r : List Token} {f : Option CondTree} → ReadsFilter d s f r → AreRead s → AreRead (filter_tokens f) × AreRead r
filter_read no_filter all = (tt, all)
filter_read (a_filter cond) (word, all) = let (inner, rest) = cond_read cond all in ((word, inner), rest)

-- ---- output columns and keys

call_read : {d : ℕ} {s r : List Token} {c : CallTree} → ReadsCall d s c r → AreRead s → AreRead (call_tokens c) × AreRead r
call_read a_count (word, (opened, (close, rest))) = ((word, (opened, (close, tt))), rest)
call_read (an_aggregate {a = a} of) (word, (opened, all)) =
    let (inner, (close, rest)) = expr_read of all in
    ((word, (opened, joined (expr_tokens a) [] (Sign signs.Close) inner close tt)), rest)
call_read (a_fold {a = a} of) (word, (name, (opened, all))) =
    let (inner, (close, rest)) = expr_read of all in
    ((word, (name, (opened, joined (expr_tokens a) [] (Sign signs.Close) inner close tt))), rest)

item_read : {d : ℕ} {s r : List Token} {i : ItemTree} → ReadsItem d s i r → AreRead s → AreRead (item_tokens i) × AreRead r
item_read (unnamed {c = c} call) all = let (inner, rest) = call_read call all in (are_read (call_tokens c) [] inner tt, rest)
item_read (named {c = c} {n = n} call) all =
    let (inner, (word, (name, rest))) = call_read call all in
    (are_read (call_tokens c) (Word words.As ∷ Name n ∷ []) inner (word, (name, tt)), rest)

items_read : {d : ℕ} {s r : List Token} {is : List ItemTree} → ReadsItems d s is r → AreRead s → AreRead (listed signs.Comma item_tokens is) × AreRead r
items_read (one_item {i = i} item) all = let (one, rest) = item_read item all in (one_read signs.Comma item_tokens i one, rest)
items_read (more_items {is = is} {i = i} before item) all =
    let (front, (comma, later)) = items_read before all in
    let (one, rest) = item_read item later in
    (listed_read signs.Comma item_tokens is i (items_some before) front one, rest)

key_read : {s r : List Token} {k : KeyTree} → ReadsKey s k r → AreRead s → AreRead (key_tokens k) × AreRead r
key_read (rising {p = p} path) all = let (inner, rest) = path_read path all in (are_read (path_tokens p) [] inner tt, rest)
key_read (falling {p = p} path) all =
    let (inner, (word, rest)) = path_read path all in
    (joined (path_tokens p) [] (Word words.Desc) inner word tt, rest)

keys_read : {s r : List Token} {ks : List KeyTree} → ReadsKeys s ks r → AreRead s → AreRead (listed signs.Comma key_tokens ks) × AreRead r
keys_read (one_key {k = k} key) all = let (one, rest) = key_read key all in (one_read signs.Comma key_tokens k one, rest)
keys_read (more_keys {ks = ks} {k = k} before key) all =
    let (front, (comma, later)) = keys_read before all in
    let (one, rest) = key_read key later in
    (listed_read signs.Comma key_tokens ks k (keys_some before) front one, rest)

sort_read_some : (ks : List KeyTree) → AreRead (listed signs.Comma key_tokens ks) → AreRead (sort_tokens ks)
sort_read_some [] all = tt
sort_read_some (k ∷ ks) all = (word_read words.Sort, all)

sort_read : {s r : List Token} {ks : List KeyTree} → ReadsSort s ks r → AreRead s → AreRead (sort_tokens ks) × AreRead r
sort_read no_sort all = (tt, all)
sort_read (a_sort {ks = ks} keys) (word, all) = let (them, rest) = keys_read keys all in (sort_read_some ks them, rest)

first_read : {s r : List Token} {k : Option ℕ} → ReadsFirst s k r → AreRead s → AreRead (first_tokens k)
first_read no_first all = tt
first_read a_first (word, (number, rest)) = (word, (number, tt))

-- ---- a query

pub query_read : {d : ℕ} {s r : List Token} {q : QueryTree} → ReadsQuery d s q r → AreRead s → AreRead (query_tokens q)
query_read (a_query {f = f} {ps = ps} {is = is} {ks = ks} {k = k} filter by items sort first) (word, (name, all)) =
    let (filters, behind_filter) = filter_read filter all in
    let (paths, (show_is, behind_by)) = by_read by behind_filter in
    let (columns, behind_items) = items_read items behind_by in
    let (keys, behind_sort) = sort_read sort behind_items in
    let rows = first_read first behind_sort in (
      word,
      (
        name,
        are_read (filter_tokens f) (by_tokens ps ++ (show_tokens is ++ (sort_tokens ks ++ first_tokens k))) filters
            (are_read (by_tokens ps) (show_tokens is ++ (sort_tokens ks ++ first_tokens k)) paths
            (are_read (show_tokens is) (sort_tokens ks ++ first_tokens k) (show_is, columns)
            (are_read (sort_tokens ks) (first_tokens k) keys rows))),
      ),
    )
