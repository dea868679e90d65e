-- Worked queries over the tables of TPC-H, with their plans or their faults.
use Rattle.std.specs.Prelude.{◌≡◌, ℕ, true, false, List, [], ◌∷◌, map, codes, pos, Some, None, Result, Ok, Err}
use Prim.Native.String.{String}
use Rattle.smc_query.specs.Trees.{Word, PathTree, ExprTree, CondTree, CallTree, ItemTree, KeyTree, QueryTree, total}
use Rattle.smc_query.specs.Trees as query
use Rattle.smc_query.specs.declared.cond.Op.TheVariants.{Equal, Less, Greater, GreaterEqual}
use Rattle.smc_types.specs.Tables.{the_tables}
use Rattle.smc_types.specs.declared.column.FieldType.{FieldType}
use Rattle.smc_types.specs.declared.column.FieldType.TheVariants as of
use Rattle.smc_types.specs.declared.tables.TheConstants.{CUSTOMER, ORDERS, LINEITEM}
use Rattle.smc_plan.specs.Bounds.{extent}
use Rattle.smc_plan.specs.Conditions.{both, comparison, within}
use Rattle.smc_plan.specs.Exprs.{kinded}
use Rattle.smc_plan.specs.Outputs.{aggregate}
use Rattle.smc_plan.specs.Planned.{Planned, planned}
use Rattle.smc_plan.specs.Typed.{number, day, text, leaf, difference, product}
use Rattle.smc_plan.specs.declared.fault.PlanFault.{PlanFault}
use Rattle.smc_plan.specs.declared.fault.PlanFault.TheVariants.{NoTable, NoField, Types, Path, TooWide}
use Rattle.smc_plan.specs.declared.kind.Kind.TheVariants.{Number}
use Rattle.smc_plan.specs.declared.leaf.Hop.{Hop}
use Rattle.smc_plan.specs.declared.leaf.Leaf.{Leaf}

-- a path from its names
abbrev pub path : List String → PathTree
path names = map codes names

-- a field of the table itself
abbrev pub own : String → ExprTree
own name = query.field (path (name ∷ []))

-- a query of one output column, with nothing more than paths behind `by`
abbrev pub shows : String → List PathTree → CallTree → QueryTree
shows table by call =
    record { table = codes table; filter = None; by = by; items = (record { call = call; label = None }) ∷ []; sort = []; first = None }

-- a sum
abbrev pub sum_of : ExprTree → CallTree
sum_of one = query.aggregate total one

-- what a query over these tables comes to, where no fold was handed in
abbrev pub Comes : QueryTree → Result Planned PlanFault → Type 0
Comes query plan = planned the_tables [] query ≡ plan

-- ---- faults

-- `from planets show count()`
abbrev pub LacksTable : Type 0
LacksTable = Comes (shows "planets" [] query.count) (Err NoTable)

-- `from region show sum(size)`
abbrev pub LacksField : Type 0
LacksField = Comes (shows "region" [] (sum_of (own "size"))) (Err NoField)

-- `from region show sum(name)`
abbrev pub SumsText : Type 0
SumsText = Comes (shows "region" [] (sum_of (own "name"))) (Err Types)

-- `from nation by region show count()`
abbrev pub EndsInReference : Type 0
EndsInReference = Comes (shows "nation" (path ("region" ∷ []) ∷ []) query.count) (Err Path)

-- `from nation by name.region show count()`
abbrev pub FollowsName : Type 0
FollowsName = Comes (shows "nation" (path ("name" ∷ "region" ∷ []) ∷ []) query.count) (Err Path)

-- `from lineitem show sum(extendedprice * extendedprice)`
abbrev pub SumsSquares : Type 0
SumsSquares = Comes (shows "lineitem" [] (sum_of (query.product (own "extendedprice") (own "extendedprice")))) (Err TooWide)

-- `from lineitem show sum(shipdate + size)`: the fault of an operand comes before that of its sum
abbrev pub FaultsInOrder : Type 0
FaultsInOrder = Comes (shows "lineitem" [] (sum_of (query.sum (own "shipdate") (own "size")))) (Err NoField)

-- `from lineitem show fold median(quantity)`, where no fold was handed in
abbrev pub LacksFold : Type 0
LacksFold = Comes (shows "lineitem" [] (query.fold (codes "median") (own "quantity"))) (Err NoField)

-- ---- plans

-- a column of a record of lineitem
abbrev pub of_lineitem : ℕ → FieldType → Leaf
of_lineitem at kind = record { hops = []; table = LINEITEM; width = 28; at = at; kind = kind }

-- the reference from a lineitem to its order
abbrev pub to_order : Hop
to_order = record { table = LINEITEM; width = 28; at = 25 }

-- the reference from an order to its customer
abbrev pub to_customer : Hop
to_customer = record { table = ORDERS; width = 21; at = 20 }

-- a column of the order of a lineitem
abbrev pub of_order : ℕ → FieldType → Leaf
of_order at kind = record { hops = to_order ∷ []; table = ORDERS; width = 21; at = at; kind = kind }

-- a column of the customer of the order of a lineitem
abbrev pub of_customer : ℕ → FieldType → Leaf
of_customer at kind = record { hops = to_order ∷ to_customer ∷ []; table = CUSTOMER; width = 32; at = at; kind = kind }

-- the discounts of a year that are about so large, for few pieces, as revenue
abbrev pub forecast_query : QueryTree
forecast_query = record {
  table = codes "lineitem";
  filter = Some
      (query.both
      (query.both
      (query.both (query.comparison GreaterEqual (own "shipdate") (query.date 1994 1 1)) (query.comparison Less (own "shipdate") (query.date 1995 1 1)))
      (query.within (own "discount") (query.number 5 2) (query.number 7 2)))
      (query.comparison Less (own "quantity") (query.number 24 0)));
  by = [];
  items = (record { call = sum_of (query.product (own "extendedprice") (own "discount")); label = None }) ∷ [];
  sort = [];
  first = None;
}

-- its plan: shipdate is one leaf, though it stands twice
abbrev pub forecast_plan : Planned
forecast_plan = record {
  leaves = of_lineitem 10 of.Day ∷ of_lineitem 6 of.Rate ∷ of_lineitem 4 of.Amount ∷ of_lineitem 5 of.Amount ∷ [];
  filter = Some
      (both
      (both (both (comparison GreaterEqual (leaf 0) (day (pos 8766))) (comparison Less (leaf 0) (day (pos 9131)))) (within (leaf 1) (number 5 2) (number 7 2)))
      (comparison Less (leaf 2) (number 24 0)));
  by = [];
  items = aggregate total (kinded (product (leaf 3) (leaf 1)) (Number (extent 4 998999999999001))) ∷ [];
  sort = [];
  first = None;
}

-- the forecast has its plan
abbrev pub PlansForecast : Type 0
PlansForecast = Comes forecast_query (Ok forecast_plan)

-- the ten orders of a market that bring most of what was not shipped at a day
abbrev pub shipping_query : QueryTree
shipping_query = record {
  table = codes "lineitem";
  filter = Some
      (query.both
      (query.both (query.comparison Equal (query.field (path ("order" ∷ "customer" ∷ "mktsegment" ∷ []))) (query.text (codes "BUILDING")))
      (query.comparison Less (query.field (path ("order" ∷ "orderdate" ∷ []))) (query.date 1995 3 15)))
      (query.comparison Greater (own "shipdate") (query.date 1995 3 15)));
  by = path ("orderkey" ∷ []) ∷ path ("order" ∷ "orderdate" ∷ []) ∷ path ("order" ∷ "shippriority" ∷ []) ∷ [];
  items =
      (record {
        call = sum_of (query.product (own "extendedprice") (query.difference (query.number 1 0) (own "discount")));
        label = Some (codes "revenue");
      })
      ∷ [];
  sort =
      (record { path = path ("revenue" ∷ []); desc = true })
      ∷ (record { path = path ("order" ∷ "orderdate" ∷ []); desc = false })
      ∷ [];
  first = Some 10;
}

-- its plan: a label stands behind the columns of `by`
abbrev pub shipping_plan : Planned
shipping_plan = record {
  leaves =
      of_customer 14 (of.Text 10)
      ∷ of_order 4 of.Day
      ∷ of_lineitem 10 of.Day
      ∷ of_lineitem 0 of.Count
      ∷ of_order 9 of.Count
      ∷ of_lineitem 5 of.Amount
      ∷ of_lineitem 6 of.Rate
      ∷ [];
  filter = Some
      (both (both (comparison Equal (leaf 0) (text (codes "BUILDING"))) (comparison Less (leaf 1) (day (pos 9204))))
      (comparison Greater (leaf 2) (day (pos 9204))));
  by = 3 ∷ 1 ∷ 4 ∷ [];
  items = aggregate total (kinded (product (leaf 5) (difference (number 1 0) (leaf 6))) (Number (extent 4 1098999999998901))) ∷ [];
  sort = (record { column = 3; desc = true }) ∷ (record { column = 1; desc = false }) ∷ [];
  first = Some 10;
}

-- the orders of a market have theirs
abbrev pub PlansShipping : Type 0
PlansShipping = Comes shipping_query (Ok shipping_plan)
