-- How a text is read from the left to the right, a token at a time: what is still to come, and what it will make.
use Rattle.std.specs.Prelude.{ℕ, zero, suc, Bool, true, false, ◌==◌, if◌then◌else◌, List, [], ◌∷◌, ◌++◌, Option, Some, None}
use Rattle.smc_tokens.specs.Marks.{word_code, sign_code}
use Rattle.smc_tokens.specs.declared.token.Token.{Token}
use Rattle.smc_tokens.specs.declared.token.Token.TheVariants.{Name, Word, Date, Number, Text, Sign}
use Rattle.smc_tokens.specs.declared.reserved.Reserved.TheVariants as words
use Rattle.smc_tokens.specs.declared.sign.Sign.TheVariants as signs
use Rattle.smc_query.specs.declared.cond.Op.{Op}
use Rattle.smc_query.specs.declared.cond.Op.TheVariants as ops
use Rattle.smc_query.specs.Trees.{PathTree, ExprTree, number, date, text, field, sum, difference, product, minus, CondTree, either, both, negation, comparison, within, total, average, least, greatest, CallTree, count, aggregate, fold, ItemTree, KeyTree, Answer, a_query, a_cond, an_edit, Form, query_text, cond_text, edit_text}

-- What is still to come; the number is how much more may be opened there, in a call, its items and a query: within a call.
-- A part that makes a tree hands it to what comes behind it.
pub data Plan : Type 0 where
  -- nothing
  done : Answer → Plan
  -- this token
  must : Token → Plan → Plan
  -- this token and what follows it, or else the other
  may : Token → Plan → Plan → Plan
  -- a name; a number without decimals
  name : (List ℕ → Plan) → Plan
  whole : (ℕ → Plan) → Plan
  -- behind names of a path: {"." name}
  names : PathTree → (PathTree → Plan) → Plan
  factor : ℕ → (ExprTree → Plan) → Plan
  -- behind a term: {"*" factor}
  factors : ℕ → ExprTree → (ExprTree → Plan) → Plan
  -- behind an expression: {("+"|"-") term}
  terms : ℕ → ExprTree → (ExprTree → Plan) → Plan
  neg : ℕ → (CondTree → Plan) → Plan
  -- behind the left side of a comparison
  compared : ℕ → ExprTree → (CondTree → Plan) → Plan
  -- behind a conj: {"and" neg}; behind a cond: {"or" conj}
  negs : ℕ → CondTree → (CondTree → Plan) → Plan
  conjs : ℕ → CondTree → (CondTree → Plan) → Plan
  -- behind some paths: {"," path}
  paths : List PathTree → (List PathTree → Plan) → Plan
  call : ℕ → (CallTree → Plan) → Plan
  -- behind some items: {"," item}; behind some keys: {"," key}
  items : ℕ → List ItemTree → (List ItemTree → Plan) → Plan
  keys : List KeyTree → (List KeyTree → Plan) → Plan

-- the token is this word or sign
abbrev pub is_mark : Token → Token → Bool
is_mark (Word a) (Word b) = word_code a == word_code b
is_mark (Sign a) (Sign b) = sign_code a == sign_code b
is_mark _ _ = false

-- the tokens begin with this word or sign
abbrev pub sees : Token → List Token → Bool
sees m [] = false
sees m (t ∷ s) = is_mark m t

abbrev pub path : (PathTree → Plan) → Plan
path next = name (λ n. names (n ∷ []) next)

abbrev pub term : ℕ → (ExprTree → Plan) → Plan
term d next = factor d (λ a. factors d a next)

abbrev pub expr : ℕ → (ExprTree → Plan) → Plan
expr d next = term d (λ a. terms d a next)

abbrev pub conj : ℕ → (CondTree → Plan) → Plan
conj d next = neg d (λ c. negs d c next)

abbrev pub cond : ℕ → (CondTree → Plan) → Plan
cond d next = conj d (λ c. conjs d c next)

abbrev pub item : ℕ → (ItemTree → Plan) → Plan
item d next = call d (λ c. may (Word words.As) (name (λ n. next (record { call = c; label = Some n }))) (next (record { call = c; label = None })))

abbrev pub key : (KeyTree → Plan) → Plan
key next = path (λ p. may (Word words.Desc) (next (record { path = p; desc = true })) (next (record { path = p; desc = false })))

abbrev pub filter : ℕ → (Option CondTree → Plan) → Plan
filter d next = may (Word words.Where) (cond d (λ c. next (Some c))) (next None)

abbrev pub by : (List PathTree → Plan) → Plan
by next = may (Word words.By) (path (λ p. paths (p ∷ []) next)) (next [])

abbrev pub sort : (List KeyTree → Plan) → Plan
sort next = may (Word words.Sort) (key (λ k. keys (k ∷ []) next)) (next [])

abbrev pub first : (Option ℕ → Plan) → Plan
first next = may (Word words.First) (whole (λ n. next (Some n))) (next None)

-- a query from each of its parts on, where those before it made these
abbrev pub from_first : List ℕ → Option CondTree → List PathTree → List ItemTree → List KeyTree → Plan
from_first n f ps is ks = first (λ k. done (a_query (record { table = n; filter = f; by = ps; items = is; sort = ks; first = k })))

abbrev pub from_sort : List ℕ → Option CondTree → List PathTree → List ItemTree → Plan
from_sort n f ps is = sort (λ ks. from_first n f ps is ks)

abbrev pub from_items : ℕ → List ℕ → Option CondTree → List PathTree → Plan
from_items d n f ps = item d (λ i. items d (i ∷ []) (λ is. from_sort n f ps is))

abbrev pub from_by : ℕ → List ℕ → Option CondTree → Plan
from_by d n f = by (λ ps. must (Word words.Show) (from_items d n f ps))

abbrev pub from_filter : ℕ → List ℕ → Plan
from_filter d n = filter (suc d) (λ f. from_by d n f)

abbrev pub query : ℕ → Plan
query d = must (Word words.From) (name (λ n. from_filter d n))

abbrev pub condition : ℕ → Plan
condition d = cond d (λ c. done (a_cond c))

abbrev pub edit : ℕ → Plan
edit d = expr d (λ a. filter d (λ f. done (an_edit a f)))

-- the plan of a text in which one more than this may be open
abbrev pub plan_of : Form → ℕ → Plan
plan_of query_text d = query d
plan_of cond_text d = condition (suc d)
plan_of edit_text d = edit (suc d)

-- what a token makes of a plan: another plan, or it can't be there, or it opens too much
pub data Step : Type 0 where
  goes : Plan → Step
  wrong deep : Step

-- opens one more
abbrev pub opened : ℕ → (ℕ → Plan) → Step
opened zero inner = deep
opened (suc d) inner = goes (inner d)

-- a token of which a factor begins
abbrev pub factor_step : ℕ → (ExprTree → Plan) → Token → Step
factor_step d next (Number u k) = goes (next (number u k))
factor_step d next (Date y m a) = goes (next (date y m a))
factor_step d next (Text b) = goes (next (text b))
factor_step d next (Name n) = goes (names (n ∷ []) (λ p. next (field p)))
factor_step d next (Sign signs.Minus) = opened d (λ e. factor e (λ a. next (minus a)))
factor_step d next (Sign signs.Open) = opened d (λ e. expr e (λ a. must (Sign signs.Close) (next a)))
factor_step d next _ = wrong

-- a token of which a condition in a chain begins
abbrev pub neg_step : ℕ → (CondTree → Plan) → Token → Step
neg_step d next (Word words.Not) = opened d (λ e. neg e (λ c. next (negation c)))
neg_step d next (Sign signs.OpenBracket) = opened d (λ e. cond e (λ c. must (Sign signs.CloseBracket) (next c)))
neg_step d next t = factor_step d (λ a. factors d a (λ b. terms d b (λ c. compared d c next))) t

-- the right side of a comparison
abbrev pub right_side : ℕ → Op → ExprTree → (CondTree → Plan) → Step
right_side d op a next = goes (expr d (λ b. next (comparison op a b)))

-- a token behind the left side of a comparison
abbrev pub compared_step : ℕ → ExprTree → (CondTree → Plan) → Token → Step
compared_step d a next (Sign signs.Equal) = right_side d ops.Equal a next
compared_step d a next (Sign signs.Unequal) = right_side d ops.Unequal a next
compared_step d a next (Sign signs.Less) = right_side d ops.Less a next
compared_step d a next (Sign signs.LessEqual) = right_side d ops.LessEqual a next
compared_step d a next (Sign signs.Greater) = right_side d ops.Greater a next
compared_step d a next (Sign signs.GreaterEqual) = right_side d ops.GreaterEqual a next
compared_step d a next (Word words.Between) = goes (expr d (λ b. must (Word words.And) (expr d (λ c. next (within a b c)))))
compared_step d a next _ = wrong

-- an expression in the parentheses of a call
abbrev pub argument : ℕ → (ExprTree → Plan) → Plan
argument d next = must (Sign signs.Open) (expr d (λ a. must (Sign signs.Close) (next a)))

-- a token of which a call begins
abbrev pub call_step : ℕ → (CallTree → Plan) → Token → Step
call_step d next (Word words.Count) = goes (must (Sign signs.Open) (must (Sign signs.Close) (next count)))
call_step d next (Word words.Sum) = goes (argument d (λ a. next (aggregate total a)))
call_step d next (Word words.Avg) = goes (argument d (λ a. next (aggregate average a)))
call_step d next (Word words.Min) = goes (argument d (λ a. next (aggregate least a)))
call_step d next (Word words.Max) = goes (argument d (λ a. next (aggregate greatest a)))
call_step d next (Word words.Fold) = goes (name (λ n. argument d (λ a. next (fold n a))))
call_step d next _ = wrong

-- a name
abbrev pub name_step : (List ℕ → Plan) → Token → Step
name_step next (Name n) = goes (next n)
name_step next _ = wrong

-- a number without decimals
abbrev pub whole_step : (ℕ → Plan) → Token → Step
whole_step next (Number n zero) = goes (next n)
whole_step next _ = wrong

-- what a token makes of a plan
unfoldable pub step : Plan → Token → Step
step (done a) t = wrong
step (must m next) t = if is_mark m t then goes next else wrong
step (may m next other) t = if is_mark m t then goes next else step other t
step (name next) t = name_step next t
step (whole next) t = whole_step next t
step (names p next) t = if is_mark (Sign signs.Dot) t then goes (name (λ n. names (p ++ n ∷ []) next)) else step (next p) t
step (factor d next) t = factor_step d next t
step (factors d a next) t = if is_mark (Sign signs.Star) t then goes (factor d (λ b. factors d (product a b) next)) else step (next a) t
step (terms d a next) t =
    if is_mark (Sign signs.Plus) t then goes (term d (λ b. terms d (sum a b) next))
    else if is_mark (Sign signs.Minus) t then goes (term d (λ b. terms d (difference a b) next)) else step (next a) t
step (neg d next) t = neg_step d next t
step (compared d a next) t = compared_step d a next t
step (negs d b next) t = if is_mark (Word words.And) t then goes (neg d (λ c. negs d (both b c) next)) else step (next b) t
step (conjs d b next) t = if is_mark (Word words.Or) t then goes (conj d (λ c. conjs d (either b c) next)) else step (next b) t
step (paths ps next) t = if is_mark (Sign signs.Comma) t then goes (path (λ p. paths (ps ++ p ∷ []) next)) else step (next ps) t
step (call d next) t = call_step d next t
step (items d is next) t = if is_mark (Sign signs.Comma) t then goes (item d (λ i. items d (is ++ i ∷ []) next)) else step (next is) t
step (keys ks next) t = if is_mark (Sign signs.Comma) t then goes (key (λ k. keys (ks ++ k ∷ []) next)) else step (next ks) t

-- what a plan gives where the text ends
unfoldable pub ended : Plan → Option Answer
ended (done a) = Some a
ended (may m next other) = ended other
ended (names p next) = ended (next p)
ended (factors d a next) = ended (next a)
ended (terms d a next) = ended (next a)
ended (negs d b next) = ended (next b)
ended (conjs d b next) = ended (next b)
ended (paths ps next) = ended (next ps)
ended (items d is next) = ended (next is)
ended (keys ks next) = ended (next ks)
ended _ = None

-- what a plan makes of a text: an answer, or the tokens from the first one that can't be there, or that opens too much
pub data Outcome : Type 0 where
  built : Answer → Outcome
  stuck : List Token → Outcome
  too_deep : List Token → Outcome

-- the end of the text
abbrev pub at_end : Option Answer → Outcome
at_end None = stuck []
at_end (Some a) = built a

-- on from a step
abbrev pub onward : Step → (Plan → Outcome) → List Token → Outcome
onward (goes next) go s = go next
onward wrong go s = stuck s
onward deep go s = too_deep s

-- what a plan makes of a text
unfoldable pub outcome : Plan → List Token → Outcome
outcome plan [] = at_end (ended plan)
outcome plan (t ∷ s) = onward (step plan t) (λ next. outcome next s) (t ∷ s)
