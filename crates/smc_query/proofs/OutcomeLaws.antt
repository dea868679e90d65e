-- What the grammar reads from a list of tokens, the plan makes of it: so no list of tokens spells two trees.
use Rattle.std.proofs.Common.{◌≡◌, ℕ, suc, true, false, List, [], ◌∷◌, ◌++◌, Option, Some, None, refl, ◌∙◌}
use Rattle.smc_tokens.specs.declared.token.Token.{Token}
use Rattle.smc_tokens.specs.declared.token.Token.TheVariants.{Word, Sign}
use Rattle.smc_tokens.specs.declared.reserved.Reserved.TheVariants as words
use Rattle.smc_tokens.specs.declared.sign.Sign.TheVariants as signs
use Rattle.smc_query.specs.declared.cond.Op.{Op}
use Rattle.smc_query.specs.declared.cond.Op.TheVariants as ops
use Rattle.smc_query.specs.Trees.{PathTree, ExprTree, field, sum, difference, product, minus, CondTree, either, both, negation, comparison, within, total, average, least, greatest, CallTree, aggregate, fold, ItemTree, KeyTree, QueryTree, a_query as a_query_answer, a_cond, an_edit as an_edit_answer}
use Rattle.smc_query.specs.Grammar.{op_sign, ReadsPath, one_name, more_names, ReadsFactor, a_number, a_date, a_text, a_path, a_minus, parentheses, ReadsTerm, one_factor, a_product, ReadsExpr, one_term, a_sum, a_difference, ReadsNeg, a_negation, brackets, a_comparison, a_range, ReadsConj, one_neg, an_and, ReadsCond, one_conj, an_or, ReadsCall, a_count, an_aggregate, a_fold, ReadsItem, unnamed, named, ReadsItems, one_item, more_items, ReadsPaths, one_path, more_paths, ReadsKey, rising, falling, ReadsKeys, one_key, more_keys, ReadsFilter, no_filter, a_filter, ReadsBy, no_by, a_by, ReadsSort, no_sort, a_sort, ReadsFirst, no_first, a_first, ReadsQuery, a_query, ReadsEdit, an_edit}
use Rattle.smc_query.specs.Machine.{built, Plan, done, must, may, name, names, factor, factors, terms, neg, compared, negs, conjs, paths, call, items, keys, path, term, expr, conj, cond, item, key, filter, by, sort, first, from_first, from_sort, from_items, from_by, query, condition, edit, step, ended, outcome, sees}

-- what can't go on as an expression
pub record Closed (r : List Token) : Type 0 where
  pub dot : sees (Sign signs.Dot) r ≡ false
  pub star : sees (Sign signs.Star) r ≡ false
  pub plus : sees (Sign signs.Plus) r ≡ false
  pub minus_sign : sees (Sign signs.Minus) r ≡ false

-- ---- a part that may come is passed over where it does not

pub pass-may : (m : Token) (next other : Plan) (r : List Token) → sees m r ≡ false → outcome (may m next other) r ≡ outcome other r
unfolding outcome step ended
pass-may m next other [] h = refl
pass-may m next other (t ∷ s) h = rw h refl

pub pass-names : (p : PathTree) (k : PathTree → Plan) (r : List Token) → sees (Sign signs.Dot) r ≡ false → outcome (names p k) r ≡ outcome (k p) r
unfolding outcome step ended
pass-names p k [] h = refl
pass-names p k (t ∷ s) h = rw h refl

pub pass-factors : (d : ℕ) (a : ExprTree) (k : ExprTree → Plan) (r : List Token) → sees (Sign signs.Star) r ≡ false → outcome (factors d a k) r ≡ outcome (k a) r
unfolding outcome step ended
pass-factors d a k [] h = refl
pass-factors d a k (t ∷ s) h = rw h refl

pub pass-terms : (d : ℕ) (a : ExprTree) (k : ExprTree → Plan) (r : List Token) → sees (Sign signs.Plus) r ≡ false → sees (Sign signs.Minus) r ≡ false → outcome (terms d a k) r ≡ outcome (k a) r
unfolding outcome step ended
pass-terms d a k [] h g = refl
pass-terms d a k (t ∷ s) h g = rw (h, g) refl

pub pass-negs : (d : ℕ) (c : CondTree) (k : CondTree → Plan) (r : List Token) → sees (Word words.And) r ≡ false → outcome (negs d c k) r ≡ outcome (k c) r
unfolding outcome step ended
pass-negs d c k [] h = refl
pass-negs d c k (t ∷ s) h = rw h refl

pub pass-conjs : (d : ℕ) (c : CondTree) (k : CondTree → Plan) (r : List Token) → sees (Word words.Or) r ≡ false → outcome (conjs d c k) r ≡ outcome (k c) r
unfolding outcome step ended
pass-conjs d c k [] h = refl
pass-conjs d c k (t ∷ s) h = rw h refl

pub pass-paths : (ps : List PathTree) (k : List PathTree → Plan) (r : List Token) → sees (Sign signs.Comma) r ≡ false → outcome (paths ps k) r ≡ outcome (k ps) r
unfolding outcome step ended
pass-paths ps k [] h = refl
pass-paths ps k (t ∷ s) h = rw h refl

pub pass-items : (d : ℕ) (is : List ItemTree) (k : List ItemTree → Plan) (r : List Token) → sees (Sign signs.Comma) r ≡ false → outcome (items d is k) r ≡ outcome (k is) r
unfolding outcome step ended
pass-items d is k [] h = refl
pass-items d is k (t ∷ s) h = rw h refl

pub pass-keys : (ks : List KeyTree) (k : List KeyTree → Plan) (r : List Token) → sees (Sign signs.Comma) r ≡ false → outcome (keys ks k) r ≡ outcome (k ks) r
unfolding outcome step ended
pass-keys ks k [] h = refl
pass-keys ks k (t ∷ s) h = rw h refl

-- ---- paths and expressions

path-outcome : {s r : List Token} {p : PathTree} → ReadsPath s p r → (k : PathTree → Plan) → outcome (path k) s ≡ outcome (names p k) r
unfolding outcome step
path-outcome one_name k = refl
path-outcome (more_names h) k = path-outcome h k

path-factor : {s r : List Token} {p : PathTree} → ReadsPath s p r → (d : ℕ) (k : ExprTree → Plan) → outcome (factor d k) s ≡ outcome (path (λ p. k (field p))) s
unfolding outcome step
path-factor one_name d k = refl
path-factor (more_names h) d k = path-factor h d k

mutual
  unfolding outcome step

  factor-outcome : {d : ℕ} {s r : List Token} {a : ExprTree} → ReadsFactor d s a r → sees (Sign signs.Dot) r ≡ false → (k : ExprTree → Plan) → outcome (factor d k) s ≡ outcome (k a) r
  factor-outcome a_number n k = refl
  factor-outcome a_date n k = refl
  factor-outcome a_text n k = refl
  factor-outcome {d} {s} {r} (a_path {p = p} h) n k = path-factor h d k ∙ (path-outcome h (λ q. k (field q)) ∙ pass-names p (λ q. k (field q)) r n)
  factor-outcome (a_minus h) n k = factor-outcome h n (λ a. k (minus a))
  factor-outcome (parentheses h) n k = expr-outcome h refl refl (λ a. must (Sign signs.Close) (k a))

  term-outcome : {d : ℕ} {s r : List Token} {a : ExprTree} → ReadsTerm d s a r → sees (Sign signs.Dot) r ≡ false → (k : ExprTree → Plan) → outcome (term d k) s ≡ outcome (factors d a k) r
  term-outcome {d} (one_factor h) n k = factor-outcome h n (λ a. factors d a k)
  term-outcome {d} (a_product {a = a} h f) n k = term-outcome h refl k ∙ factor-outcome f n (λ b. factors d (product a b) k)

  expr-outcome : {d : ℕ} {s r : List Token} {a : ExprTree} → ReadsExpr d s a r → sees (Sign signs.Dot) r ≡ false → sees (Sign signs.Star) r ≡ false → (k : ExprTree → Plan) → outcome (expr d k) s ≡ outcome (terms d a k) r
  expr-outcome {d} {r = r} (one_term {a = a} h) n m k = term-outcome h n (λ b. terms d b k) ∙ pass-factors d a (λ b. terms d b k) r m
  expr-outcome {d} {r = r} (a_sum {a = a} {b = b} h t) n m k =
      expr-outcome h refl refl k ∙ (term-outcome t n (λ c. terms d (sum a c) k) ∙ pass-factors d b (λ c. terms d (sum a c) k) r m)
  expr-outcome {d} {r = r} (a_difference {a = a} {b = b} h t) n m k =
      expr-outcome h refl refl k ∙ (term-outcome t n (λ c. terms d (difference a c) k) ∙ pass-factors d b (λ c. terms d (difference a c) k) r m)

-- a whole expression, behind which none can go on
pub expr-read : {d : ℕ} {s r : List Token} {a : ExprTree} → ReadsExpr d s a r → Closed r → (k : ExprTree → Plan) → outcome (expr d k) s ≡ outcome (k a) r
expr-read {d} {s} {r} {a} h c k = expr-outcome h c.dot c.star k ∙ pass-terms d a k r c.plus c.minus_sign

-- ---- conditions

-- an expression is no `not` and no bracket
module _ (d : ℕ) (k : CondTree → Plan) where
  path-neg : {s r : List Token} {p : PathTree} → ReadsPath s p r → outcome (neg d k) s ≡ outcome (expr d (λ a. compared d a k)) s
  unfolding outcome step
  path-neg one_name = refl
  path-neg (more_names h) = path-neg h

  mutual
    unfolding outcome step

    factor-neg : {e : ℕ} {s r : List Token} {a : ExprTree} → ReadsFactor e s a r → outcome (neg d k) s ≡ outcome (expr d (λ b. compared d b k)) s
    factor-neg a_number = refl
    factor-neg a_date = refl
    factor-neg a_text = refl
    factor-neg (a_path h) = path-neg h
    factor-neg (a_minus h) = refl
    factor-neg (parentheses h) = refl

    term-neg : {e : ℕ} {s r : List Token} {a : ExprTree} → ReadsTerm e s a r → outcome (neg d k) s ≡ outcome (expr d (λ b. compared d b k)) s
    term-neg (one_factor h) = factor-neg h
    term-neg (a_product h f) = term-neg h

    expr-neg : {e : ℕ} {s r : List Token} {a : ExprTree} → ReadsExpr e s a r → outcome (neg d k) s ≡ outcome (expr d (λ b. compared d b k)) s
    expr-neg (one_term h) = term-neg h
    expr-neg (a_sum h t) = expr-neg h
    expr-neg (a_difference h t) = expr-neg h

-- the sign of a comparison ends an expression
closed-op : (op : Op) (t : List Token) → Closed (Sign (op_sign op) ∷ t)
closed-op ops.Equal t = record { dot = refl; star = refl; plus = refl; minus_sign = refl }
closed-op ops.Unequal t = record { dot = refl; star = refl; plus = refl; minus_sign = refl }
closed-op ops.Less t = record { dot = refl; star = refl; plus = refl; minus_sign = refl }
closed-op ops.LessEqual t = record { dot = refl; star = refl; plus = refl; minus_sign = refl }
closed-op ops.Greater t = record { dot = refl; star = refl; plus = refl; minus_sign = refl }
closed-op ops.GreaterEqual t = record { dot = refl; star = refl; plus = refl; minus_sign = refl }

-- behind the sign of a comparison comes its right side
op-compared : (d : ℕ) (op : Op) (a : ExprTree) (k : CondTree → Plan) (t : List Token)
    → outcome (compared d a k) (Sign (op_sign op) ∷ t) ≡ outcome (expr d (λ b. k (comparison op a b))) t
unfolding outcome step
op-compared d ops.Equal a k t = refl
op-compared d ops.Unequal a k t = refl
op-compared d ops.Less a k t = refl
op-compared d ops.LessEqual a k t = refl
op-compared d ops.Greater a k t = refl
op-compared d ops.GreaterEqual a k t = refl

mutual
  unfolding outcome step

  neg-outcome : {d : ℕ} {s r : List Token} {c : CondTree} → ReadsNeg d s c r → Closed r → (k : CondTree → Plan) → outcome (neg d k) s ≡ outcome (k c) r
  neg-outcome (a_negation h) n k = neg-outcome h n (λ c. k (negation c))
  neg-outcome (brackets h) n k = cond-outcome h (record { dot = refl; star = refl; plus = refl; minus_sign = refl }) refl (λ c. must (Sign signs.CloseBracket) (k c))
  neg-outcome {d} (a_comparison {t = t} {op = op} {a = a} {b = b} h g) n k =
      expr-neg d k h ∙ (expr-read h (closed-op op t) (λ b. compared d b k) ∙ (op-compared d op a k t ∙ expr-read g n (λ c. k (comparison op a c))))
  neg-outcome {d} (a_range {a = a} {b = b} h g f) n k =
      expr-neg d k h ∙ (expr-read h (record { dot = refl; star = refl; plus = refl; minus_sign = refl }) (λ b. compared d b k)
      ∙ (expr-read g (record { dot = refl; star = refl; plus = refl; minus_sign = refl }) (λ e. must (Word words.And) (expr d (λ c. k (within a e c))))
      ∙ expr-read f n (λ c. k (within a b c))))

  conj-outcome : {d : ℕ} {s r : List Token} {c : CondTree} → ReadsConj d s c r → Closed r → (k : CondTree → Plan) → outcome (conj d k) s ≡ outcome (negs d c k) r
  conj-outcome {d} (one_neg h) n k = neg-outcome h n (λ c. negs d c k)
  conj-outcome {d} (an_and {b = b} h g) n k =
      conj-outcome h (record { dot = refl; star = refl; plus = refl; minus_sign = refl }) k ∙ neg-outcome g n (λ c. negs d (both b c) k)

  cond-outcome : {d : ℕ} {s r : List Token} {c : CondTree} → ReadsCond d s c r → Closed r → sees (Word words.And) r ≡ false → (k : CondTree → Plan) → outcome (cond d k) s ≡ outcome (conjs d c k) r
  cond-outcome {d} {r = r} (one_conj {c = c} h) n m k = conj-outcome h n (λ b. conjs d b k) ∙ pass-negs d c (λ b. conjs d b k) r m
  cond-outcome {d} {r = r} (an_or {b = b} {c = c} h g) n m k =
      cond-outcome h (record { dot = refl; star = refl; plus = refl; minus_sign = refl }) refl k
      ∙ (conj-outcome g n (λ e. conjs d (either b e) k) ∙ pass-negs d c (λ e. conjs d (either b e) k) r m)

-- what can't go on as a condition
pub record Over (r : List Token) : Type 0 where
  pub closed : Closed r
  pub no_and : sees (Word words.And) r ≡ false
  pub no_or : sees (Word words.Or) r ≡ false

pub cond-read : {d : ℕ} {s r : List Token} {c : CondTree} → ReadsCond d s c r → Over r → (k : CondTree → Plan) → outcome (cond d k) s ≡ outcome (k c) r
cond-read {d} {s} {r} {c} h o k = cond-outcome h o.closed o.no_and k ∙ pass-conjs d c k r o.no_or

-- ---- the parts of a query

pub path-read : {s r : List Token} {p : PathTree} → ReadsPath s p r → sees (Sign signs.Dot) r ≡ false → (k : PathTree → Plan) → outcome (path k) s ≡ outcome (k p) r
path-read {s} {r} {p} h n k = path-outcome h k ∙ pass-names p k r n

closing : (r : List Token) → Closed (Sign signs.Close ∷ r)
closing r = record { dot = refl; star = refl; plus = refl; minus_sign = refl }

call-read : {d : ℕ} {s r : List Token} {c : CallTree} → ReadsCall (suc d) s c r → (k : CallTree → Plan) → outcome (call d k) s ≡ outcome (k c) r
unfolding outcome step
call-read a_count k = refl
call-read (an_aggregate {r = r} {g = total} h) k = expr-read h (closing r) (λ a. must (Sign signs.Close) (k (aggregate total a)))
call-read (an_aggregate {r = r} {g = average} h) k = expr-read h (closing r) (λ a. must (Sign signs.Close) (k (aggregate average a)))
call-read (an_aggregate {r = r} {g = least} h) k = expr-read h (closing r) (λ a. must (Sign signs.Close) (k (aggregate least a)))
call-read (an_aggregate {r = r} {g = greatest} h) k = expr-read h (closing r) (λ a. must (Sign signs.Close) (k (aggregate greatest a)))
call-read (a_fold {n = n} {r = r} h) k = expr-read h (closing r) (λ a. must (Sign signs.Close) (k (fold n a)))

item-read : {d : ℕ} {s r : List Token} {i : ItemTree} → ReadsItem (suc d) s i r → sees (Word words.As) r ≡ false → (k : ItemTree → Plan) → outcome (item d k) s ≡ outcome (k i) r
unfolding outcome step
item-read {d} {s} {r} (unnamed {c = c} h) n k =
    call-read h (λ b. may (Word words.As) (name (λ l. k (record { call = b; label = Some l }))) (k (record { call = b; label = None })))
    ∙ pass-may (Word words.As) (name (λ l. k (record { call = c; label = Some l }))) (k (record { call = c; label = None })) r n
item-read (named h) n k = call-read h (λ b. may (Word words.As) (name (λ l. k (record { call = b; label = Some l }))) (k (record { call = b; label = None })))

items-read : {d : ℕ} {s r : List Token} {is : List ItemTree} → ReadsItems (suc d) s is r → sees (Word words.As) r ≡ false → (k : List ItemTree → Plan) → outcome (item d (λ i. items d (i ∷ []) k)) s ≡ outcome (items d is k) r
unfolding outcome step
items-read {d} (one_item h) n k = item-read h n (λ i. items d (i ∷ []) k)
items-read {d} (more_items {is = is} h g) n k = items-read h refl k ∙ item-read g n (λ i. items d (is ++ i ∷ []) k)

paths-read : {s r : List Token} {ps : List PathTree} → ReadsPaths s ps r → sees (Sign signs.Dot) r ≡ false → (k : List PathTree → Plan) → outcome (path (λ p. paths (p ∷ []) k)) s ≡ outcome (paths ps k) r
unfolding outcome step
paths-read (one_path h) n k = path-read h n (λ p. paths (p ∷ []) k)
paths-read (more_paths {ps = ps} h g) n k = paths-read h refl k ∙ path-read g n (λ p. paths (ps ++ p ∷ []) k)

key-read : {s r : List Token} {p : KeyTree} → ReadsKey s p r → sees (Sign signs.Dot) r ≡ false → sees (Word words.Desc) r ≡ false → (k : KeyTree → Plan) → outcome (key k) s ≡ outcome (k p) r
unfolding outcome step
key-read {s} {r} (rising {p = p} h) n m k =
    path-read h n (λ q. may (Word words.Desc) (k (record { path = q; desc = true })) (k (record { path = q; desc = false })))
    ∙ pass-may (Word words.Desc) (k (record { path = p; desc = true })) (k (record { path = p; desc = false })) r m
key-read (falling h) n m k = path-read h refl (λ q. may (Word words.Desc) (k (record { path = q; desc = true })) (k (record { path = q; desc = false })))

keys-read : {s r : List Token} {ks : List KeyTree} → ReadsKeys s ks r → sees (Sign signs.Dot) r ≡ false → sees (Word words.Desc) r ≡ false → (k : List KeyTree → Plan) → outcome (key (λ p. keys (p ∷ []) k)) s ≡ outcome (keys ks k) r
unfolding outcome step
keys-read (one_key h) n m k = key-read h n m (λ p. keys (p ∷ []) k)
keys-read (more_keys {ks = ks} h g) n m k = keys-read h refl refl k ∙ key-read g n m (λ p. keys (ks ++ p ∷ []) k)

filter-read : {d : ℕ} {s r : List Token} {f : Option CondTree} → ReadsFilter d s f r → Over r → sees (Word words.Where) r ≡ false → (k : Option CondTree → Plan) → outcome (filter d k) s ≡ outcome (k f) r
unfolding outcome step
filter-read {d} {s} {r} no_filter o n k = pass-may (Word words.Where) (cond d (λ c. k (Some c))) (k None) r n
filter-read (a_filter h) o n k = cond-read h o (λ c. k (Some c))

by-read : {s r : List Token} {ps : List PathTree} → ReadsBy s ps r → sees (Sign signs.Dot) r ≡ false → sees (Sign signs.Comma) r ≡ false → sees (Word words.By) r ≡ false → (k : List PathTree → Plan) → outcome (by k) s ≡ outcome (k ps) r
unfolding outcome step
by-read {s} {r} no_by n m l k = pass-may (Word words.By) (path (λ p. paths (p ∷ []) k)) (k []) r l
by-read {s} {r} {ps} (a_by h) n m l k = paths-read h n k ∙ pass-paths ps k r m

-- where a `by` begins, no condition goes on
by-over : {r t : List Token} {ps : List PathTree} → ReadsBy r ps (Word words.Show ∷ t) → Over r
by-over no_by = record { closed = record { dot = refl; star = refl; plus = refl; minus_sign = refl }; no_and = refl; no_or = refl }
by-over (a_by h) = record { closed = record { dot = refl; star = refl; plus = refl; minus_sign = refl }; no_and = refl; no_or = refl }

by-where : {r t : List Token} {ps : List PathTree} → ReadsBy r ps (Word words.Show ∷ t) → sees (Word words.Where) r ≡ false
by-where no_by = refl
by-where (a_by h) = refl

-- what stands behind the items of a query, and behind its keys
pub record Tail (r : List Token) : Type 0 where
  pub as_label : sees (Word words.As) r ≡ false
  pub comma : sees (Sign signs.Comma) r ≡ false
  pub dot : sees (Sign signs.Dot) r ≡ false
  pub desc : sees (Word words.Desc) r ≡ false

first-tail : {r : List Token} {k : Option ℕ} → ReadsFirst r k [] → Tail r
first-tail no_first = record { as_label = refl; comma = refl; dot = refl; desc = refl }
first-tail a_first = record { as_label = refl; comma = refl; dot = refl; desc = refl }

first-no-sort : {r : List Token} {k : Option ℕ} → ReadsFirst r k [] → sees (Word words.Sort) r ≡ false
first-no-sort no_first = refl
first-no-sort a_first = refl

sort-tail : {r t : List Token} {ks : List KeyTree} → ReadsSort r ks t → Tail t → Tail r
sort-tail no_sort e = e
sort-tail (a_sort h) e = record { as_label = refl; comma = refl; dot = refl; desc = refl }

sort-read : {s r : List Token} {ks : List KeyTree} → ReadsSort s ks r → Tail r → sees (Word words.Sort) r ≡ false → (k : List KeyTree → Plan) → outcome (sort k) s ≡ outcome (k ks) r
unfolding outcome step
sort-read {s} {r} no_sort e n k = pass-may (Word words.Sort) (key (λ p. keys (p ∷ []) k)) (k []) r n
sort-read {s} {r} {ks} (a_sort h) e n k = keys-read h e.dot e.desc k ∙ pass-keys ks k r e.comma

first-read : {s : List Token} {n : Option ℕ} → ReadsFirst s n [] → (k : Option ℕ → Plan) → outcome (first k) s ≡ outcome (k n) []
unfolding outcome step ended
first-read no_first k = refl
first-read a_first k = refl

-- ---- the three texts

-- what spells a query is built as it
pub query-built : {d : ℕ} {s : List Token} {q : QueryTree} → ReadsQuery (suc d) s q [] → outcome (query d) s ≡ built (a_query_answer q)
unfolding outcome step ended
query-built {d} (a_query {n = n} {u = u} {v = v} {w = w} {f = f} {ps = ps} {is = is} {ks = ks} hf hb hi hs hk) =
    filter-read hf (by-over hb) (by-where hb) (λ e. from_by d n e)
    ∙ (by-read hb refl refl refl (λ qs. must (Word words.Show) (from_items d n f qs))
    ∙ (items-read hi (sort-tail hs (first-tail hk)).as_label (λ js. from_sort n f ps js)
    ∙ (pass-items d is (λ js. from_sort n f ps js) v (sort-tail hs (first-tail hk)).comma
    ∙ (sort-read hs (first-tail hk) (first-no-sort hk) (λ ls. from_first n f ps is ls)
    ∙ first-read hk (λ j. done (a_query_answer (record { table = n; filter = f; by = ps; items = is; sort = ks; first = j })))))))

nothing-over : Over []
nothing-over = record { closed = record { dot = refl; star = refl; plus = refl; minus_sign = refl }; no_and = refl; no_or = refl }

-- what spells a condition is built as it
pub cond-built : {d : ℕ} {s : List Token} {c : CondTree} → ReadsCond d s c [] → outcome (condition d) s ≡ built (a_cond c)
unfolding outcome ended
cond-built h = cond-read h nothing-over (λ c. done (a_cond c))

filter-closed : {d : ℕ} {s : List Token} {f : Option CondTree} → ReadsFilter d s f [] → Closed s
filter-closed no_filter = nothing-over.closed
filter-closed (a_filter h) = record { dot = refl; star = refl; plus = refl; minus_sign = refl }

-- what spells an edit is built as it
pub edit-built : {d : ℕ} {s : List Token} {a : ExprTree} {f : Option CondTree} → ReadsEdit d s a f [] → outcome (edit d) s ≡ built (an_edit_answer a f)
unfolding outcome ended
edit-built {d} {s} {a} {f} (an_edit h g) =
    expr-read h (filter-closed g) (λ b. filter d (λ e. done (an_edit_answer b e))) ∙ filter-read g nothing-over refl (λ e. done (an_edit_answer a e))
