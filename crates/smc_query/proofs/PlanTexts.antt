-- The texts of a plan: what a plan is built of, a text of it spells; and every plan has a text.
use Rattle.std.proofs.Common.{◌≡◌, ℕ, zero, suc, Bool, true, false, if◌then◌else◌, List, [], ◌∷◌, ◌++◌, Option, Some, None, refl, sym, subst, ◌⊎◌, inl, inr}
use Rattle.smc_query.proofs.MarkLaws.{is_mark-is}
use Rattle.smc_tokens.specs.declared.token.Token.{Token}
use Rattle.smc_tokens.specs.declared.token.Token.TheVariants.{Name, Word, Date, Number, Text, Sign}
use Rattle.smc_tokens.specs.declared.reserved.Reserved.TheVariants as words
use Rattle.smc_tokens.specs.declared.sign.Sign.TheVariants as signs
use Rattle.smc_query.specs.declared.cond.Op.{Op}
use Rattle.smc_query.specs.declared.cond.Op.TheVariants as ops
use Rattle.smc_query.specs.Trees.{PathTree, ExprTree, number, sum, difference, product, CondTree, either, both, comparison, Aggregate, total, average, least, greatest, CallTree, count, aggregate, fold, ItemTree, KeyTree, QueryTree, Answer, a_query as query_answer, an_edit as edit_answer, Form, query_text, cond_text, edit_text}
use Rattle.smc_query.specs.Grammar.{Spells, op_sign, aggregate_word, ReadsPath, one_name, more_names, ReadsFactor, a_number, a_date, a_text, a_path, a_minus, parentheses, ReadsTerm, one_factor, a_product, ReadsExpr, one_term, a_sum, a_difference, ReadsNeg, a_negation, brackets, a_comparison, a_range, ReadsConj, one_neg, an_and, ReadsCond, one_conj, an_or, ReadsCall, a_count, an_aggregate, a_fold, ReadsItem, unnamed, named, ReadsItems, one_item, more_items, ReadsPaths, one_path, more_paths, ReadsKey, rising, falling, ReadsKeys, one_key, more_keys, ReadsFilter, no_filter, a_filter, ReadsBy, no_by, a_by, ReadsSort, no_sort, a_sort, ReadsFirst, no_first, a_first, ReadsQuery, a_query, an_edit}
use Rattle.smc_query.specs.Machine.{Step, goes, wrong, deep, Plan, done, must, may, name, whole, names, factor, factors, terms, neg, compared, negs, conjs, paths, call, items, keys, is_mark, path, term, expr, conj, cond, item, key, filter, by, sort, from_first, from_sort, from_items, from_by, query, condition, edit, plan_of, factor_step, neg_step, right_side, compared_step, argument, call_step, name_step, whole_step, step}

-- the tokens are a text of the plan, which makes this of it
pub data IsText : Plan → List Token → Answer → Type 0 where
  ends : {a : Answer} → IsText (done a) [] a
  marked : {m : Token} {next : Plan} {w : List Token} {a : Answer} → IsText next w a → IsText (must m next) (m ∷ w) a
  taken : {m : Token} {next other : Plan} {w : List Token} {a : Answer} → IsText next w a → IsText (may m next other) (m ∷ w) a
  passed : {m : Token} {next other : Plan} {w : List Token} {a : Answer} → IsText other w a → IsText (may m next other) w a
  is_name : {n : List ℕ} {next : List ℕ → Plan} {w : List Token} {a : Answer} → IsText (next n) w a → IsText (name next) (Name n ∷ w) a
  is_whole : {n : ℕ} {next : ℕ → Plan} {w : List Token} {a : Answer} → IsText (next n) w a → IsText (whole next) (Number n 0 ∷ w) a
  with_names : {p q : PathTree} {next : PathTree → Plan} {w r : List Token} {a : Answer}
      → ((s : List Token) → ReadsPath s p w → ReadsPath s q r) → IsText (next q) r a → IsText (names p next) w a
  with_factor : {d : ℕ} {x : ExprTree} {next : ExprTree → Plan} {w r : List Token} {a : Answer}
      → ReadsFactor d w x r → IsText (next x) r a → IsText (factor d next) w a
  with_factors : {d : ℕ} {x y : ExprTree} {next : ExprTree → Plan} {w r : List Token} {a : Answer}
      → ((s : List Token) → ReadsTerm d s x w → ReadsTerm d s y r) → IsText (next y) r a → IsText (factors d x next) w a
  with_terms : {d : ℕ} {x y : ExprTree} {next : ExprTree → Plan} {w r : List Token} {a : Answer}
      → ((s : List Token) → ReadsExpr d s x w → ReadsExpr d s y r) → IsText (next y) r a → IsText (terms d x next) w a
  with_neg : {d : ℕ} {c : CondTree} {next : CondTree → Plan} {w r : List Token} {a : Answer}
      → ReadsNeg d w c r → IsText (next c) r a → IsText (neg d next) w a
  with_right : {d : ℕ} {x : ExprTree} {c : CondTree} {next : CondTree → Plan} {w r : List Token} {a : Answer}
      → ((s : List Token) → ReadsExpr d s x w → ReadsNeg d s c r) → IsText (next c) r a → IsText (compared d x next) w a
  with_negs : {d : ℕ} {b c : CondTree} {next : CondTree → Plan} {w r : List Token} {a : Answer}
      → ((s : List Token) → ReadsConj d s b w → ReadsConj d s c r) → IsText (next c) r a → IsText (negs d b next) w a
  with_conjs : {d : ℕ} {b c : CondTree} {next : CondTree → Plan} {w r : List Token} {a : Answer}
      → ((s : List Token) → ReadsCond d s b w → ReadsCond d s c r) → IsText (next c) r a → IsText (conjs d b next) w a
  with_paths : {ps qs : List PathTree} {next : List PathTree → Plan} {w r : List Token} {a : Answer}
      → ((s : List Token) → ReadsPaths s ps w → ReadsPaths s qs r) → IsText (next qs) r a → IsText (paths ps next) w a
  with_call : {d : ℕ} {c : CallTree} {next : CallTree → Plan} {w r : List Token} {a : Answer}
      → ReadsCall (suc d) w c r → IsText (next c) r a → IsText (call d next) w a
  with_items : {d : ℕ} {is js : List ItemTree} {next : List ItemTree → Plan} {w r : List Token} {a : Answer}
      → ((s : List Token) → ReadsItems (suc d) s is w → ReadsItems (suc d) s js r) → IsText (next js) r a → IsText (items d is next) w a
  with_keys : {ks ls : List KeyTree} {next : List KeyTree → Plan} {w r : List Token} {a : Answer}
      → ((s : List Token) → ReadsKeys s ks w → ReadsKeys s ls r) → IsText (next ls) r a → IsText (keys ks next) w a

-- the tokens behind a step are a text of what it goes on with
abbrev pub FollowsStep : Step → List Token → Answer → Type 0
FollowsStep (goes next) w a = IsText next w a
FollowsStep wrong w a = ⊥
FollowsStep deep w a = ⊥

-- ---- what the parts of a text spell

path-spells : {k : PathTree → Plan} {w : List Token} {a : Answer} → IsText (path k) w a → (p : PathTree) × ((r : List Token) × (ReadsPath w p r × IsText (k p) r a))
path-spells (is_name (with_names {q = q} {r = r} f g)) = (q, (r, (f _ one_name, g)))

term-spells : {d : ℕ} {k : ExprTree → Plan} {w : List Token} {a : Answer} → IsText (term d k) w a → (x : ExprTree) × ((r : List Token) × (ReadsTerm d w x r × IsText (k x) r a))
term-spells (with_factor h (with_factors {y = y} {r = r} f g)) = (y, (r, (f _ (one_factor h), g)))

expr-spells : {d : ℕ} {k : ExprTree → Plan} {w : List Token} {a : Answer} → IsText (expr d k) w a → (x : ExprTree) × ((r : List Token) × (ReadsExpr d w x r × IsText (k x) r a))
expr-spells (with_factor h (with_factors f (with_terms {y = y} {r = r} e g))) = (y, (r, (e _ (one_term (f _ (one_factor h))), g)))

conj-spells : {d : ℕ} {k : CondTree → Plan} {w : List Token} {a : Answer} → IsText (conj d k) w a → (c : CondTree) × ((r : List Token) × (ReadsConj d w c r × IsText (k c) r a))
conj-spells (with_neg h (with_negs {c = c} {r = r} f g)) = (c, (r, (f _ (one_neg h), g)))

cond-spells : {d : ℕ} {k : CondTree → Plan} {w : List Token} {a : Answer} → IsText (cond d k) w a → (c : CondTree) × ((r : List Token) × (ReadsCond d w c r × IsText (k c) r a))
cond-spells (with_neg h (with_negs f (with_conjs {c = c} {r = r} e g))) = (c, (r, (e _ (one_conj (f _ (one_neg h))), g)))

item-spells : {d : ℕ} {k : ItemTree → Plan} {w : List Token} {a : Answer} → IsText (item d k) w a → (i : ItemTree) × ((r : List Token) × (ReadsItem (suc d) w i r × IsText (k i) r a))
item-spells (with_call {c = c} h (taken (is_name {n = n} {w = w} g))) = (record { call = c; label = Some n }, (w, (named h, g)))
item-spells (with_call {c = c} {r = r} h (passed g)) = (record { call = c; label = None }, (r, (unnamed h, g)))

key-spells : {k : KeyTree → Plan} {w : List Token} {a : Answer} → IsText (key k) w a → (i : KeyTree) × ((r : List Token) × (ReadsKey w i r × IsText (k i) r a))
key-spells (is_name (with_names {q = q} f (taken {w = w} g))) = (record { path = q; desc = true }, (w, (falling (f _ one_name), g)))
key-spells (is_name (with_names {q = q} {r = r} f (passed g))) = (record { path = q; desc = false }, (r, (rising (f _ one_name), g)))

filter-spells : {d : ℕ} {k : Option CondTree → Plan} {w : List Token} {a : Answer} → IsText (filter d k) w a → (f : Option CondTree) × ((r : List Token) × (ReadsFilter d w f r × IsText (k f) r a))
filter-spells (taken g) = let (c, (r, (h, e))) = cond-spells g in (Some c, (r, (a_filter h, e)))
filter-spells {w = w} (passed g) = (None, (w, (no_filter, g)))

by-spells : {k : List PathTree → Plan} {w : List Token} {a : Answer} → IsText (by k) w a → (ps : List PathTree) × ((r : List Token) × (ReadsBy w ps r × IsText (k ps) r a))
by-spells (taken (is_name (with_names f (with_paths {qs = qs} {r = r} e g)))) = (qs, (r, (a_by (e _ (one_path (f _ one_name))), g)))
by-spells {w = w} (passed g) = ([], (w, (no_by, g)))

sort-spells : {k : List KeyTree → Plan} {w : List Token} {a : Answer} → IsText (sort k) w a → (ks : List KeyTree) × ((r : List Token) × (ReadsSort w ks r × IsText (k ks) r a))
sort-spells (taken (is_name (with_names f (taken (with_keys {ls = ls} {r = r} e g))))) = (ls, (r, (a_sort (e _ (one_key (falling (f _ one_name)))), g)))
sort-spells (taken (is_name (with_names f (passed (with_keys {ls = ls} {r = r} e g))))) = (ls, (r, (a_sort (e _ (one_key (rising (f _ one_name)))), g)))
sort-spells {w = w} (passed g) = ([], (w, (no_sort, g)))

-- a text of the plan of an expression, and so on, with what it makes
items-spell : {d : ℕ} {k : List ItemTree → Plan} {w : List Token} {a : Answer} → IsText (item d (λ i. items d (i ∷ []) k)) w a → (is : List ItemTree) × ((r : List Token) × (ReadsItems (suc d) w is r × IsText (k is) r a))
items-spell (with_call h (taken (is_name (with_items {js = js} {r = r} f g)))) = (js, (r, (f _ (one_item (named h)), g)))
items-spell (with_call h (passed (with_items {js = js} {r = r} f g))) = (js, (r, (f _ (one_item (unnamed h)), g)))

first-spells : {n : List ℕ} {f : Option CondTree} {ps : List PathTree} {is : List ItemTree} {ks : List KeyTree} {w : List Token} {a : Answer}
    → IsText (from_first n f ps is ks) w a → (k : Option ℕ) × (ReadsFirst w k [] × (a ≡ query_answer (record { table = n; filter = f; by = ps; items = is; sort = ks; first = k })))
first-spells (taken (is_whole {n = n} ends)) = (Some n, (a_first, refl))
first-spells (passed ends) = (None, (no_first, refl))

query-spells : {d : ℕ} {w : List Token} {a : Answer} → IsText (query d) w a → (q : QueryTree) × (ReadsQuery (suc d) w q [] × (a ≡ query_answer q))
query-spells {d} (marked (is_name {n = n} g)) =
    let (f, (t, (hf, gf))) = filter-spells {k = λ f. from_by d n f} g in
    query-from n f hf (by-spells {k = λ ps. must (Word words.Show) (from_items d n f ps)} gf)
  where
    query-from : {d : ℕ} {s t : List Token} {a : Answer} (n : List ℕ) (f : Option CondTree) → ReadsFilter (suc d) s f t
        → (ps : List PathTree) × ((r : List Token) × (ReadsBy t ps r × IsText (must (Word words.Show) (from_items d n f ps)) r a))
        → (q : QueryTree) × (ReadsQuery (suc d) (Word words.From ∷ (Name n ∷ s)) q [] × (a ≡ query_answer q))
    query-from {d} n f hf (ps, (r, (hb, marked g))) =
        let (is, (v, (hi, gi))) = items-spell {k = λ is. from_sort n f ps is} g in
        let (ks, (w, (hs, gs))) = sort-spells {k = λ ks. from_first n f ps is ks} gi in
        let (k, (hk, e)) = first-spells gs in
        (record { table = n; filter = f; by = ps; items = is; sort = ks; first = k }, (a_query hf hb hi hs hk, e))

cond-spelled : {d : ℕ} {w : List Token} {a : Answer} → IsText (condition d) w a → Spells cond_text d w a
cond-spelled (with_neg h (with_negs f (with_conjs e ends))) = e _ (one_conj (f _ (one_neg h)))

filter-ends : {d : ℕ} {x : ExprTree} {w : List Token} {a : Answer} → IsText (filter d (λ f. done (edit_answer x f))) w a → (f : Option CondTree) × (ReadsFilter d w f [] × (a ≡ edit_answer x f))
filter-ends (taken (with_neg h (with_negs f (with_conjs {c = c} e ends)))) = (Some c, (a_filter (e _ (one_conj (f _ (one_neg h)))), refl))
filter-ends (passed ends) = (None, (no_filter, refl))

edit-spelled : {d : ℕ} {w : List Token} {a : Answer} → IsText (edit d) w a → Spells edit_text d w a
edit-spelled {d} {w} {a} (with_factor h (with_factors f (with_terms e g))) =
    let (k, (hf, is)) = filter-ends g in
    let P : Answer → Type 0 = λ b. Spells edit_text d w b in subst P (sym is) (an_edit (e _ (one_term (f _ (one_factor h)))) hf)

query-spelled : {d : ℕ} {w : List Token} {a : Answer} → IsText (query d) w a → Spells query_text (suc d) w a
query-spelled {d} {w} {a} g =
    let (q, (h, is)) = query-spells g in
    let P : Answer → Type 0 = λ b. Spells query_text (suc d) w b in subst P (sym is) h

-- a text of the plan of a text spells what the plan makes of it
pub plan-spells : (form : Form) (d : ℕ) {w : List Token} {a : Answer} → IsText (plan_of form d) w a → Spells form (suc d) w a
plan-spells query_text d g = query-spelled g
plan-spells cond_text d g = cond-spelled g
plan-spells edit_text d g = edit-spelled g

-- ---- every plan has a text

-- some text of a plan
pub HasText : Plan → Type 0
HasText plan = (w : List Token) × ((a : Answer) × IsText plan w a)

zero_factor : {d : ℕ} {r : List Token} → ReadsFactor d (Number 0 0 ∷ r) (number 0 0) r
zero_factor = a_number

zero_expr : {d : ℕ} {r : List Token} → ReadsExpr d (Number 0 0 ∷ r) (number 0 0) r
zero_expr = one_term (one_factor a_number)

pub has-text : (plan : Plan) → (w : List Token) × ((a : Answer) × IsText plan w a)
has-text (done a) = ([], (a, ends))
has-text (must m next) = let (w, (a, g)) = has-text next in (m ∷ w, (a, marked g))
has-text (may m next other) = let (w, (a, g)) = has-text other in (w, (a, passed g))
has-text (name next) = let (w, (a, g)) = has-text (next []) in (Name [] ∷ w, (a, is_name g))
has-text (whole next) = let (w, (a, g)) = has-text (next 0) in (Number 0 0 ∷ w, (a, is_whole g))
has-text (names p next) = let (w, (a, g)) = has-text (next p) in (w, (a, with_names (λ s h. h) g))
has-text (factor d next) = let (w, (a, g)) = has-text (next (number 0 0)) in (Number 0 0 ∷ w, (a, with_factor a_number g))
has-text (factors d x next) = let (w, (a, g)) = has-text (next x) in (w, (a, with_factors (λ s h. h) g))
has-text (terms d x next) = let (w, (a, g)) = has-text (next x) in (w, (a, with_terms (λ s h. h) g))
has-text (neg d next) =
    let (w, (a, g)) = has-text (next (comparison ops.Equal (number 0 0) (number 0 0))) in
    (Number 0 0 ∷ (Sign signs.Equal ∷ (Number 0 0 ∷ w)), (a, with_neg (a_comparison {op = ops.Equal} zero_expr zero_expr) g))
has-text (compared d x next) =
    let (w, (a, g)) = has-text (next (comparison ops.Equal x (number 0 0))) in
    (Sign signs.Equal ∷ (Number 0 0 ∷ w), (a, with_right (λ s h. a_comparison {op = ops.Equal} h zero_expr) g))
has-text (negs d c next) = let (w, (a, g)) = has-text (next c) in (w, (a, with_negs (λ s h. h) g))
has-text (conjs d c next) = let (w, (a, g)) = has-text (next c) in (w, (a, with_conjs (λ s h. h) g))
has-text (paths ps next) = let (w, (a, g)) = has-text (next ps) in (w, (a, with_paths (λ s h. h) g))
has-text (call d next) =
    let (w, (a, g)) = has-text (next count) in
    (Word words.Count ∷ (Sign signs.Open ∷ (Sign signs.Close ∷ w)), (a, with_call a_count g))
has-text (items d is next) = let (w, (a, g)) = has-text (next is) in (w, (a, with_items (λ s h. h) g))
has-text (keys ks next) = let (w, (a, g)) = has-text (next ks) in (w, (a, with_keys (λ s h. h) g))

-- ---- a step back

-- the mark of a plan is what the token is, or the token is no such mark
chosen : (b : Bool) (marked_plan : Plan) (other : Step) {w : List Token} {a : Answer} → FollowsStep (if b then goes marked_plan else other) w a → ((b ≡ true) × IsText marked_plan w a) ⊎ FollowsStep other w a
chosen true next other h = inl (refl, h)
chosen false next other h = inr h

back-names : {p : PathTree} {next : PathTree → Plan} {w : List Token} {a : Answer} → IsText (name (λ n. names (p ++ n ∷ []) next)) w a → IsText (names p next) (Sign signs.Dot ∷ w) a
back-names (is_name (with_names f g)) = with_names (λ s h. f s (more_names h)) g

back-factors : {d : ℕ} {x : ExprTree} {next : ExprTree → Plan} {w : List Token} {a : Answer} → IsText (factor d (λ b. factors d (product x b) next)) w a → IsText (factors d x next) (Sign signs.Star ∷ w) a
back-factors (with_factor h (with_factors f g)) = with_factors (λ s e. f s (a_product e h)) g

back-plus : {d : ℕ} {x : ExprTree} {next : ExprTree → Plan} {w : List Token} {a : Answer} → IsText (term d (λ b. terms d (sum x b) next)) w a → IsText (terms d x next) (Sign signs.Plus ∷ w) a
back-plus (with_factor h (with_factors e (with_terms f g))) = with_terms (λ s o. f s (a_sum o (e _ (one_factor h)))) g

back-minus : {d : ℕ} {x : ExprTree} {next : ExprTree → Plan} {w : List Token} {a : Answer} → IsText (term d (λ b. terms d (difference x b) next)) w a → IsText (terms d x next) (Sign signs.Minus ∷ w) a
back-minus (with_factor h (with_factors e (with_terms f g))) = with_terms (λ s o. f s (a_difference o (e _ (one_factor h)))) g

back-negs : {d : ℕ} {b : CondTree} {next : CondTree → Plan} {w : List Token} {a : Answer} → IsText (neg d (λ c. negs d (both b c) next)) w a → IsText (negs d b next) (Word words.And ∷ w) a
back-negs (with_neg h (with_negs f g)) = with_negs (λ s e. f s (an_and e h)) g

back-conjs : {d : ℕ} {b : CondTree} {next : CondTree → Plan} {w : List Token} {a : Answer} → IsText (conj d (λ c. conjs d (either b c) next)) w a → IsText (conjs d b next) (Word words.Or ∷ w) a
back-conjs (with_neg h (with_negs e (with_conjs f g))) = with_conjs (λ s o. f s (an_or o (e _ (one_neg h)))) g

back-paths : {ps : List PathTree} {next : List PathTree → Plan} {w : List Token} {a : Answer} → IsText (path (λ p. paths (ps ++ p ∷ []) next)) w a → IsText (paths ps next) (Sign signs.Comma ∷ w) a
back-paths (is_name (with_names e (with_paths f g))) = with_paths (λ s h. f s (more_paths h (e _ one_name))) g

back-items : {d : ℕ} {is : List ItemTree} {next : List ItemTree → Plan} {w : List Token} {a : Answer} → IsText (item d (λ i. items d (is ++ i ∷ []) next)) w a → IsText (items d is next) (Sign signs.Comma ∷ w) a
back-items (with_call h (taken (is_name (with_items f g)))) = with_items (λ s e. f s (more_items e (named h))) g
back-items (with_call h (passed (with_items f g))) = with_items (λ s e. f s (more_items e (unnamed h))) g

back-keys : {ks : List KeyTree} {next : List KeyTree → Plan} {w : List Token} {a : Answer} → IsText (key (λ k. keys (ks ++ k ∷ []) next)) w a → IsText (keys ks next) (Sign signs.Comma ∷ w) a
back-keys (is_name (with_names e (taken (with_keys f g)))) = with_keys (λ s h. f s (more_keys h (falling (e _ one_name)))) g
back-keys (is_name (with_names e (passed (with_keys f g)))) = with_keys (λ s h. f s (more_keys h (rising (e _ one_name)))) g

in-parentheses : {d : ℕ} {next : ExprTree → Plan} {w : List Token} {a : Answer} → IsText (expr d (λ x. must (Sign signs.Close) (next x))) w a
    → (x : ExprTree) × ((r : List Token) × (ReadsExpr d w x (Sign signs.Close ∷ r) × IsText (next x) r a))
in-parentheses (with_factor h (with_factors e (with_terms {y = y} f (marked {w = w} g)))) = (y, (w, (f _ (one_term (e _ (one_factor h))), g)))

back-factor : (d : ℕ) (next : ExprTree → Plan) (t : Token) {w : List Token} {a : Answer} → FollowsStep (factor_step d next t) w a → IsText (factor d next) (t ∷ w) a
back-factor d next (Number u k) g = with_factor a_number g
back-factor d next (Date y m b) g = with_factor a_date g
back-factor d next (Text b) g = with_factor a_text g
back-factor d next (Name n) (with_names f g) = with_factor (a_path (f _ one_name)) g
back-factor zero next (Sign signs.Minus) g = absurd g
back-factor (suc d) next (Sign signs.Minus) (with_factor h g) = with_factor (a_minus h) g
back-factor zero next (Sign signs.Open) g = absurd g
back-factor (suc d) next (Sign signs.Open) g = let (x, (r, (h, e))) = in-parentheses {next = next} g in with_factor (parentheses h) e
back-factor d next _ g = absurd g

op-right : (d : ℕ) (op : Op) (x : ExprTree) (next : CondTree → Plan) {w : List Token} {a : Answer} → FollowsStep (right_side d op x next) w a → IsText (compared d x next) (Sign (op_sign op) ∷ w) a
op-right d op x next (with_factor h (with_factors e (with_terms f g))) = with_right (λ s o. a_comparison {op = op} o (f _ (one_term (e _ (one_factor h))))) g

back-compared : (d : ℕ) (x : ExprTree) (next : CondTree → Plan) (t : Token) {w : List Token} {a : Answer} → FollowsStep (compared_step d x next t) w a → IsText (compared d x next) (t ∷ w) a
back-compared d x next (Sign signs.Equal) g = op-right d ops.Equal x next g
back-compared d x next (Sign signs.Unequal) g = op-right d ops.Unequal x next g
back-compared d x next (Sign signs.Less) g = op-right d ops.Less x next g
back-compared d x next (Sign signs.LessEqual) g = op-right d ops.LessEqual x next g
back-compared d x next (Sign signs.Greater) g = op-right d ops.Greater x next g
back-compared d x next (Sign signs.GreaterEqual) g = op-right d ops.GreaterEqual x next g
back-compared d x next (Word words.Between) (with_factor h (with_factors e (with_terms f (marked (with_factor i (with_factors j (with_terms k g))))))) =
    with_right (λ s o. a_range o (f _ (one_term (e _ (one_factor h)))) (k _ (one_term (j _ (one_factor i))))) g
back-compared d x next _ g = absurd g

-- a comparison, read as an expression and what is behind it
as-neg : {d : ℕ} {next : CondTree → Plan} {w : List Token} {a : Answer} → IsText (expr d (λ x. compared d x next)) w a → IsText (neg d next) w a
as-neg (with_factor h (with_factors e (with_terms f (with_right i g)))) = with_neg (i _ (f _ (one_term (e _ (one_factor h))))) g

in-brackets : {d : ℕ} {next : CondTree → Plan} {w : List Token} {a : Answer} → IsText (cond d (λ c. must (Sign signs.CloseBracket) (next c))) w a
    → (c : CondTree) × ((r : List Token) × (ReadsCond d w c (Sign signs.CloseBracket ∷ r) × IsText (next c) r a))
in-brackets (with_neg h (with_negs e (with_conjs {c = c} f (marked {w = w} g)))) = (c, (w, (f _ (one_conj (e _ (one_neg h))), g)))

back-neg : (d : ℕ) (next : CondTree → Plan) (t : Token) {w : List Token} {a : Answer} → FollowsStep (neg_step d next t) w a → IsText (neg d next) (t ∷ w) a
back-neg zero next (Word words.Not) g = absurd g
back-neg (suc d) next (Word words.Not) (with_neg h g) = with_neg (a_negation h) g
back-neg zero next (Sign signs.OpenBracket) g = absurd g
back-neg (suc d) next (Sign signs.OpenBracket) g = let (c, (r, (h, e))) = in-brackets {next = next} g in with_neg (brackets h) e
back-neg d next (Number u k) g = as-neg (back-factor d (λ a. factors d a (λ b. terms d b (λ c. compared d c next))) (Number u k) g)
back-neg d next (Date y m b) g = as-neg (back-factor d (λ a. factors d a (λ b. terms d b (λ c. compared d c next))) (Date y m b) g)
back-neg d next (Text b) g = as-neg (back-factor d (λ a. factors d a (λ b. terms d b (λ c. compared d c next))) (Text b) g)
back-neg d next (Name n) g = as-neg (back-factor d (λ a. factors d a (λ b. terms d b (λ c. compared d c next))) (Name n) g)
back-neg d next (Sign signs.Minus) g = as-neg (back-factor d (λ a. factors d a (λ b. terms d b (λ c. compared d c next))) (Sign signs.Minus) g)
back-neg d next (Sign signs.Open) g = as-neg (back-factor d (λ a. factors d a (λ b. terms d b (λ c. compared d c next))) (Sign signs.Open) g)
back-neg d next _ g = absurd g

back-argument : {d : ℕ} {next : ExprTree → Plan} {w : List Token} {a : Answer} → IsText (argument d next) w a
    → (x : ExprTree) × ((s : List Token) × ((r : List Token) × ((w ≡ Sign signs.Open ∷ s) × ReadsExpr d s x (Sign signs.Close ∷ r) × IsText (next x) r a)))
back-argument {next = next} (marked {w = s} g) = let (x, (r, (h, e))) = in-parentheses {next = next} g in (x, (s, (r, (refl, h, e))))

back-aggregate : (d : ℕ) (g : Aggregate) (next : CallTree → Plan) {w : List Token} {a : Answer} → IsText (argument d (λ x. next (aggregate g x))) w a → IsText (call d next) (Word (aggregate_word g) ∷ w) a
back-aggregate d g next (marked t) = let (x, (r, (h, e))) = in-parentheses {next = λ x. next (aggregate g x)} t in with_call (an_aggregate {g = g} h) e

back-call : (d : ℕ) (next : CallTree → Plan) (t : Token) {w : List Token} {a : Answer} → FollowsStep (call_step d next t) w a → IsText (call d next) (t ∷ w) a
back-call d next (Word words.Count) (marked (marked g)) = with_call a_count g
back-call d next (Word words.Sum) g = back-aggregate d total next g
back-call d next (Word words.Avg) g = back-aggregate d average next g
back-call d next (Word words.Min) g = back-aggregate d least next g
back-call d next (Word words.Max) g = back-aggregate d greatest next g
back-call d next (Word words.Fold) (is_name {n = n} (marked t)) = let (x, (r, (h, e))) = in-parentheses {next = λ x. next (fold n x)} t in with_call (a_fold h) e
back-call d next _ g = absurd g

back-name : (next : List ℕ → Plan) (t : Token) {w : List Token} {a : Answer} → FollowsStep (name_step next t) w a → IsText (name next) (t ∷ w) a
back-name next (Name n) g = is_name g
back-name next _ g = absurd g

back-whole : (next : ℕ → Plan) (t : Token) {w : List Token} {a : Answer} → FollowsStep (whole_step next t) w a → IsText (whole next) (t ∷ w) a
back-whole next (Number n zero) g = is_whole g
back-whole next (Number n (suc k)) g = absurd g
back-whole next _ g = absurd g

module _ (m t : Token) (next : Plan) (other : Step) {w : List Token} {a : Answer} where
  -- a step past a mark, or past what is not one
  by-mark : FollowsStep (if is_mark m t then goes next else other) w a → ((t ≡ m) × IsText next w a) ⊎ FollowsStep other w a
  by-mark h = by-test (is_mark m t) refl h
    where
      by-test : (b : Bool) → is_mark m t ≡ b → FollowsStep (if b then goes next else other) w a → ((t ≡ m) × IsText next w a) ⊎ FollowsStep other w a
      by-test true e h = inl (is_mark-is m t e, h)
      by-test false e h = inr h

-- what follows a step is a text behind its token
pub back : (plan : Plan) (t : Token) {w : List Token} {a : Answer} → FollowsStep (step plan t) w a → IsText plan (t ∷ w) a
unfolding step
back (done b) t g = absurd g
back (must m next) t {w} {a} g =
    elim (by-mark m t next wrong g) [ inl p ↦ (let P : Token → Type 0 = λ u. IsText (must m next) (u ∷ w) a in subst P (sym p.0) (marked p.1)) | inr h ↦ absurd h ]
back (may m next other) t {w} {a} g =
    elim (by-mark m t next (step other t) g)
    [ inl p ↦ (let P : Token → Type 0 = λ u. IsText (may m next other) (u ∷ w) a in subst P (sym p.0) (taken p.1)) | inr h ↦ passed (back other t h) ]
back (name next) t g = back-name next t g
back (whole next) t g = back-whole next t g
back (names p next) t {w} {a} g =
    elim (by-mark (Sign signs.Dot) t (name (λ n. names (p ++ n ∷ []) next)) (step (next p) t) g)
    [ inl e ↦ (let P : Token → Type 0 = λ u. IsText (names p next) (u ∷ w) a in subst P (sym e.0) (back-names e.1)) | inr h ↦ with_names (λ s o. o) (back (next p) t h) ]
back (factor d next) t g = back-factor d next t g
back (factors d x next) t {w} {a} g =
    elim (by-mark (Sign signs.Star) t (factor d (λ b. factors d (product x b) next)) (step (next x) t) g)
    [ inl e ↦ (let P : Token → Type 0 = λ u. IsText (factors d x next) (u ∷ w) a in subst P (sym e.0) (back-factors e.1)) | inr h ↦ with_factors (λ s o. o) (back (next x) t h) ]
back (terms d x next) t {w} {a} g =
    elim (by-mark (Sign signs.Plus) t (term d (λ b. terms d (sum x b) next)) (if is_mark (Sign signs.Minus) t then goes (term d (λ b. terms d (difference x b) next)) else step (next x) t) g) [
      | inl e ↦ (let P : Token → Type 0 = λ u. IsText (terms d x next) (u ∷ w) a in subst P (sym e.0) (back-plus e.1))
      | inr h ↦ elim (by-mark (Sign signs.Minus) t (term d (λ b. terms d (difference x b) next)) (step (next x) t) h)
          [ inl e ↦ (let P : Token → Type 0 = λ u. IsText (terms d x next) (u ∷ w) a in subst P (sym e.0) (back-minus e.1)) | inr k ↦ with_terms (λ s o. o) (back (next x) t k) ]
    ]
back (neg d next) t g = back-neg d next t g
back (compared d x next) t g = back-compared d x next t g
back (negs d c next) t {w} {a} g =
    elim (by-mark (Word words.And) t (neg d (λ b. negs d (both c b) next)) (step (next c) t) g)
    [ inl e ↦ (let P : Token → Type 0 = λ u. IsText (negs d c next) (u ∷ w) a in subst P (sym e.0) (back-negs e.1)) | inr h ↦ with_negs (λ s o. o) (back (next c) t h) ]
back (conjs d c next) t {w} {a} g =
    elim (by-mark (Word words.Or) t (conj d (λ b. conjs d (either c b) next)) (step (next c) t) g)
    [ inl e ↦ (let P : Token → Type 0 = λ u. IsText (conjs d c next) (u ∷ w) a in subst P (sym e.0) (back-conjs e.1)) | inr h ↦ with_conjs (λ s o. o) (back (next c) t h) ]
back (paths ps next) t {w} {a} g =
    elim (by-mark (Sign signs.Comma) t (path (λ p. paths (ps ++ p ∷ []) next)) (step (next ps) t) g)
    [ inl e ↦ (let P : Token → Type 0 = λ u. IsText (paths ps next) (u ∷ w) a in subst P (sym e.0) (back-paths e.1)) | inr h ↦ with_paths (λ s o. o) (back (next ps) t h) ]
back (call d next) t g = back-call d next t g
back (items d is next) t {w} {a} g =
    elim (by-mark (Sign signs.Comma) t (item d (λ i. items d (is ++ i ∷ []) next)) (step (next is) t) g)
    [ inl e ↦ (let P : Token → Type 0 = λ u. IsText (items d is next) (u ∷ w) a in subst P (sym e.0) (back-items e.1)) | inr h ↦ with_items (λ s o. o) (back (next is) t h) ]
back (keys ks next) t {w} {a} g =
    elim (by-mark (Sign signs.Comma) t (key (λ k. keys (ks ++ k ∷ []) next)) (step (next ks) t) g)
    [ inl e ↦ (let P : Token → Type 0 = λ u. IsText (keys ks next) (u ∷ w) a in subst P (sym e.0) (back-keys e.1)) | inr h ↦ with_keys (λ s o. o) (back (next ks) t h) ]
