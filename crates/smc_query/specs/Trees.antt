-- Queries as trees alone, without where in memory their parts stand.
use Rattle.std.specs.Prelude.{ℕ, Bool, List, map, Option, Some, None}
use Rattle.smc_query.specs.declared.path.Path.{Path}
use Rattle.smc_query.specs.declared.expr.Expr.{Expr}
use Rattle.smc_query.specs.declared.expr.Expr.TheVariants.{Number, Date, Text, Field, Add', Sub', Mul', Minus'}
use Rattle.smc_query.specs.declared.cond.Op.{Op}
use Rattle.smc_query.specs.declared.cond.Cond.{Cond}
use Rattle.smc_query.specs.declared.cond.Cond.TheVariants.{Or', And', Not', Compare, Between}
use Rattle.smc_query.specs.declared.query.ItemCall.{ItemCall}
use Rattle.smc_query.specs.declared.query.ItemCall.TheVariants.{Count, Sum, Avg, Min, Max, Fold}
use Rattle.smc_query.specs.declared.query.Item.{Item}
use Rattle.smc_query.specs.declared.query.SortKey.{SortKey}
use Rattle.smc_query.specs.declared.query.Query.{Query}

-- the bytes of a name
abbrev pub Word : Type 0
Word = List ℕ

-- the names of a path
abbrev pub PathTree : Type 0
PathTree = List Word

-- an expression
pub data ExprTree : Type 0 where
  number : (units decimals : ℕ) → ExprTree
  date : (year month day : ℕ) → ExprTree
  text : List ℕ → ExprTree
  field : PathTree → ExprTree
  sum difference product : ExprTree → ExprTree → ExprTree
  minus : ExprTree → ExprTree

-- a condition
pub data CondTree : Type 0 where
  either both : CondTree → CondTree → CondTree
  negation : CondTree → CondTree
  comparison : Op → ExprTree → ExprTree → CondTree
  within : (value low high : ExprTree) → CondTree

-- what a call makes of one number of each row of a group
pub data Aggregate : Type 0 where
  total average least greatest : Aggregate

-- the call of an output column
pub data CallTree : Type 0 where
  count : CallTree
  aggregate : Aggregate → ExprTree → CallTree
  fold : Word → ExprTree → CallTree

-- an output column
pub record ItemTree : Type 0 where
  pub call : CallTree
  pub label : Option Word

-- a sort key
pub record KeyTree : Type 0 where
  pub path : PathTree
  pub desc : Bool

-- a query
pub record QueryTree : Type 0 where
  pub table : Word
  pub filter : Option CondTree
  pub by : List PathTree
  pub items : List ItemTree
  pub sort : List KeyTree
  pub first : Option ℕ

-- what a text spells
pub data Answer : Type 0 where
  a_query : QueryTree → Answer
  a_cond : CondTree → Answer
  an_edit : ExprTree → Option CondTree → Answer

-- what a text is meant to be: a query, a condition, or an edit
pub data Form : Type 0 where
  query_text cond_text edit_text : Form

-- the tree of a path
abbrev pub path_tree : Path → PathTree
path_tree path = path.names

-- the tree of an expression
abbrev pub expr_tree : Expr → ExprTree
expr_tree (Number units decimals) = number units decimals
expr_tree (Date year month day) = date year month day
expr_tree (Text bytes) = text bytes
expr_tree (Field path) = field (path_tree path)
expr_tree (Add' p left q right) = sum (expr_tree left) (expr_tree right)
expr_tree (Sub' p left q right) = difference (expr_tree left) (expr_tree right)
expr_tree (Mul' p left q right) = product (expr_tree left) (expr_tree right)
expr_tree (Minus' p of) = minus (expr_tree of)

-- the tree of a condition
abbrev pub cond_tree : Cond → CondTree
cond_tree (Or' p left q right) = either (cond_tree left) (cond_tree right)
cond_tree (And' p left q right) = both (cond_tree left) (cond_tree right)
cond_tree (Not' p of) = negation (cond_tree of)
cond_tree (Compare op left right) = comparison op (expr_tree left) (expr_tree right)
cond_tree (Between value low high) = within (expr_tree value) (expr_tree low) (expr_tree high)

-- the tree of a call
abbrev pub call_tree : ItemCall → CallTree
call_tree Count = count
call_tree (Sum of) = aggregate total (expr_tree of)
call_tree (Avg of) = aggregate average (expr_tree of)
call_tree (Min of) = aggregate least (expr_tree of)
call_tree (Max of) = aggregate greatest (expr_tree of)
call_tree (Fold name of) = fold name (expr_tree of)

-- the tree of an output column
abbrev pub item_tree : Item → ItemTree
item_tree item = record { call = call_tree item.call; label = item.label }

-- the tree of a sort key
abbrev pub key_tree : SortKey → KeyTree
key_tree key = record { path = path_tree key.path; desc = key.desc }

-- the tree of a condition that may be absent
abbrev pub filter_tree : Option Cond → Option CondTree
filter_tree None = None
filter_tree (Some cond) = Some (cond_tree cond)

-- the tree of a query
abbrev pub query_tree : Query → QueryTree
query_tree query = record {
  table = query.table;
  filter = filter_tree query.filter;
  by = map path_tree query.by;
  items = map item_tree query.items;
  sort = map key_tree query.sort;
  first = query.first;
}
