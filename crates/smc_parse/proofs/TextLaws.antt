-- Whole texts: what is read up to their end.
use Rattle.std.proofs.Common.{◌≡◌, ℕ, suc, ◌≤◌, List, [], length, Option, refl, ◌∙◌, sym, subst}
use Rattle.smc_tokens.specs.declared.token.Token.{Token}
use Rattle.smc_tokens.specs.declared.token.Token.TheVariants.{Word}
use Rattle.smc_tokens.specs.declared.reserved.Reserved.TheVariants as words
use Rattle.smc_tokens.specs.declared.token.Placed.{Placed}
use Rattle.smc_query.specs.Trees.{ExprTree, CondTree, PathTree, ItemTree, KeyTree, Answer, a_query, a_cond, an_edit}
use Rattle.smc_query.specs.Machine.{Plan, done, must, name, filter, by, sort, first, cond, expr, wrong, built, Outcome, step, ended, outcome}
use Rattle.smc_parse.specs.declared.fault.Fault.{Fault}
use Rattle.smc_parse.specs.declared.fault.Fault.TheVariants.{Wrong}
use Rattle.smc_parse.specs.Reading.{tokens_of, ahead, Stands, StopsBy, Leads, Stops, Misses, given}
use Rattle.smc_parse.specs.Parts.{item_list}
use Rattle.smc_parse.specs.Texts.{HeadTree, head_plan, TailTree, tail_plan}
use Rattle.smc_parse.proofs.LeadLaws.{then-leads, leads-with, stops-step, at-token}

-- ---- the end

done-step : (a : Answer) (t : Token) → step (done a) t ≡ wrong
unfolding step
done-step a t = refl

pub more-stops : (placed : List Placed) (at : ℕ) (t : Token) → at ≤ length placed → Stands placed at t → Misses done placed at (Wrong at)
more-stops placed at t w h = at-token done placed at at (stops-step done placed at t w h (λ a. done-step a t))

done-end : (a : Answer) → outcome (done a) [] ≡ built a
unfolding outcome ended
done-end a = refl

pub ends-built : (placed : List Placed) (at : ℕ) → ahead placed at ≡ [] → (a : Answer) → outcome (done a) (ahead placed at) ≡ built a
ends-built placed at h a = rw h (done-end a)

-- ---- from the start

start-is : (placed : List Placed) → ahead placed 0 ≡ tokens_of placed
unfolding ahead
start-is placed = refl

-- what a plan builds, from a lead to its end
pub built-from : (plan : (Answer → Plan) → Plan) (placed : List Placed) (at : ℕ) (a : Answer) → Leads plan (given a) placed 0 at → ((b : Answer) → outcome (done b) (ahead placed at) ≡ built b) → outcome (plan done) (tokens_of placed) ≡ built a
built-from plan placed at a h e = rw (← start-is placed) (h.goes done ∙ e a)

-- where a plan stops, read from the start
pub stops-from : {K : Type 0} (plan : K → Plan) (next : K) (placed : List Placed) (fault : Fault) → Stops plan placed 0 fault → StopsBy placed fault (outcome (plan next) (tokens_of placed))
stops-from plan next placed fault h = let P : List Token → Type 0 = λ s. StopsBy placed fault (outcome (plan next) s) in subst P (start-is placed) (h next)

-- more stands behind a text
pub stops-behind : (plan : (Answer → Plan) → Plan) (placed : List Placed) (at : ℕ) (a : Answer) (fault : Fault) → Leads plan (given a) placed 0 at → Stops done placed at fault → StopsBy placed fault (outcome (plan done) (tokens_of placed))
stops-behind plan placed at a fault h g =
    let P : Outcome → Type 0 = λ now. StopsBy placed fault now in
    let Q : List Token → Type 0 = λ s. StopsBy placed fault (outcome (plan done) s) in subst Q (start-is placed) (subst P (sym (h.goes done)) (g a))

-- ---- a query up to `show`

abbrev pub by_paths : (HeadTree → Plan) → List ℕ → Option CondTree → List PathTree → Plan
by_paths k n f ps = must (Word words.Show) (k (record { table = n; filter = f; by = ps }))

abbrev pub by_filter : (HeadTree → Plan) → List ℕ → Option CondTree → Plan
by_filter k n f = by (by_paths k n f)

abbrev pub by_table : ℕ → (HeadTree → Plan) → List ℕ → Plan
by_table d k n = filter d (by_filter k n)

pub head-from : (placed : List Placed) (at d x : ℕ) → Leads (must (Word words.From)) (λ p. p) placed at x → Leads (head_plan d) (λ k. name (by_table d k)) placed at x
head-from placed at d x h = leads-with (λ k. name (by_table d k)) (must (Word words.From)) (λ p. p) placed at x h

pub head-table : (placed : List Placed) (at d x y : ℕ) (n : List ℕ) → Leads (head_plan d) (λ k. name (by_table d k)) placed at x → Leads name (given n) placed x y
    → Leads (head_plan d) (λ k. filter d (by_filter k n)) placed at y
head-table placed at d x y n h g = then-leads (by_table d) (head_plan d) name (given n) placed at x y h g

pub head-filter : (placed : List Placed) (at d x y : ℕ) (n : List ℕ) (f : Option CondTree) → Leads (head_plan d) (λ k. filter d (by_filter k n)) placed at x → Leads (filter d) (given f) placed x y
    → Leads (head_plan d) (λ k. by (by_paths k n f)) placed at y
head-filter placed at d x y n f h g = then-leads (λ k. by_filter k n) (head_plan d) (filter d) (given f) placed at x y h g

pub head-by : (placed : List Placed) (at d x y : ℕ) (n : List ℕ) (f : Option CondTree) (ps : List PathTree) → Leads (head_plan d) (λ k. by (by_paths k n f)) placed at x → Leads by (given ps) placed x y
    → Leads (head_plan d) (λ k. by_paths k n f ps) placed at y
head-by placed at d x y n f ps h g = then-leads (λ k. by_paths k n f) (head_plan d) by (given ps) placed at x y h g

-- ---- a query behind `show`

abbrev pub by_count : (TailTree → Plan) → List ItemTree → List KeyTree → Option ℕ → Plan
by_count k is ks n = k (record { items = is; sort = ks; first = n })

abbrev pub by_keys : (TailTree → Plan) → List ItemTree → List KeyTree → Plan
by_keys k is ks = first (by_count k is ks)

abbrev pub by_items : (TailTree → Plan) → List ItemTree → Plan
by_items k is = sort (by_keys k is)

pub tail-items : (placed : List Placed) (at d x : ℕ) (is : List ItemTree) → Leads (item_list d) (given is) placed at x → Leads (tail_plan d) (λ k. sort (by_keys k is)) placed at x
tail-items placed at d x is h = leads-with by_items (item_list d) (given is) placed at x h

pub tail-sort : (placed : List Placed) (at d x y : ℕ) (is : List ItemTree) (ks : List KeyTree) → Leads (tail_plan d) (λ k. sort (by_keys k is)) placed at x → Leads sort (given ks) placed x y
    → Leads (tail_plan d) (λ k. first (by_count k is ks)) placed at y
tail-sort placed at d x y is ks h g = then-leads (λ k. by_keys k is) (tail_plan d) sort (given ks) placed at x y h g

-- ---- the three forms, with anything behind them

abbrev pub by_tail : (Answer → Plan) → HeadTree → TailTree → Plan
by_tail k h t = k (a_query (record { table = h.table; filter = h.filter; by = h.by; items = t.items; sort = t.sort; first = t.first }))

abbrev pub by_head : ℕ → (Answer → Plan) → HeadTree → Plan
by_head d k h = tail_plan d (by_tail k h)

abbrev pub query_whole : ℕ → (Answer → Plan) → Plan
query_whole d k = head_plan (suc d) (by_head d k)

pub query-head : (placed : List Placed) (d x : ℕ) (h : HeadTree) → Leads (head_plan (suc d)) (given h) placed 0 x → Leads (query_whole d) (λ k. tail_plan d (by_tail k h)) placed 0 x
query-head placed d x h l = leads-with (by_head d) (head_plan (suc d)) (given h) placed 0 x l

pub query-tail : (placed : List Placed) (d x y : ℕ) (h : HeadTree) (t : TailTree) → Leads (head_plan (suc d)) (given h) placed 0 x → Leads (tail_plan d) (given t) placed x y → Leads (query_whole d) (λ k. by_tail k h t) placed 0 y
query-tail placed d x y h t l m = then-leads (λ k. by_tail k h) (query_whole d) (tail_plan d) (given t) placed 0 x y (query-head placed d x h l) m

abbrev pub by_cond : (Answer → Plan) → CondTree → Plan
by_cond k c = k (a_cond c)

abbrev pub cond_whole : ℕ → (Answer → Plan) → Plan
cond_whole d k = cond d (by_cond k)

abbrev pub by_edit : (Answer → Plan) → ExprTree → Option CondTree → Plan
by_edit k a f = k (an_edit a f)

abbrev pub by_value : ℕ → (Answer → Plan) → ExprTree → Plan
by_value d k a = filter d (by_edit k a)

abbrev pub edit_whole : ℕ → (Answer → Plan) → Plan
edit_whole d k = expr d (by_value d k)

pub edit-value : (placed : List Placed) (d x : ℕ) (a : ExprTree) → Leads (expr d) (given a) placed 0 x → Leads (edit_whole d) (λ k. filter d (by_edit k a)) placed 0 x
edit-value placed d x a l = leads-with (by_value d) (expr d) (given a) placed 0 x l

pub edit-filter : (placed : List Placed) (d x y : ℕ) (a : ExprTree) (f : Option CondTree) → Leads (expr d) (given a) placed 0 x → Leads (filter d) (given f) placed x y → Leads (edit_whole d) (λ k. by_edit k a f) placed 0 y
edit-filter placed d x y a f l m = then-leads (λ k. by_edit k a) (edit_whole d) (filter d) (given f) placed 0 x y (edit-value placed d x a l) m
