-- The eight tables of the TPC-H benchmark, in the order of their numbers.
use Rattle.std.specs.Prelude.{ℕ, Bool, true, false, List, [], ◌∷◌, ◌++◌, map, length, codes, position, None, Option}
use Rattle.std.specs.Str.{bytes_eq}
use Prim.Native.String.{String}
use Rattle.smc_types.specs.declared.catalog.Catalog.{Catalog}
use Rattle.smc_types.specs.declared.column.Column.{Column}
use Rattle.smc_types.specs.declared.column.FieldType.{FieldType}
use Rattle.smc_types.specs.declared.column.FieldType.TheVariants.{Count, Amount, Rate, Day, Text, RefTo}
use Rattle.smc_types.specs.declared.schema.Schema.{Schema}
use Rattle.smc_types.specs.declared.tables.TheConstants.{REGION, NATION, SUPPLIER, CUSTOMER, PART, ORDERS}

-- a column of the file
abbrev column : FieldType → String → Column
column kind name = record { name = codes name; kind = kind; by = None }

-- a column of counts
abbrev count : String → Column
count = column Count

-- a column of amounts
abbrev amount : String → Column
amount = column Amount

-- a column of rates
abbrev rate : String → Column
rate = column Rate

-- a column of days
abbrev day : String → Column
day = column Day

-- a column of texts of at most so many bytes
abbrev text : ℕ → String → Column
text bytes = column (Text bytes)

-- a reference to an object of a table, which is found by the key in that column of the file
record Reference : Type 0 where
  name : String
  table : ℕ
  key : String

-- a reference with its name, its table and its key column
abbrev reference : String → ℕ → String → Reference
reference name table key = record { name = name; table = table; key = key }

-- where the column of that name stands
abbrev place_of : String → List Column → Option ℕ
place_of name columns = position (λ other. bytes_eq other.name (codes name)) columns

-- the column of a reference, behind those of the file
abbrev reference_column : List Column → Reference → Column
reference_column file to = record { name = codes to.name; kind = RefTo to.table; by = place_of to.key file }

-- a table with the columns of its file and its references
abbrev table : Bool → String → List Column → List Reference → Schema
table keyed name file references =
    record { name = codes name; keyed = keyed; file = length file; columns = file ++ map (reference_column file) references }

-- a table whose objects are found by the first column
abbrev found : String → List Column → List Reference → Schema
found = table true

-- a table whose objects nobody refers to
abbrev listed : String → List Column → List Reference → Schema
listed = table false

-- the tables
unfoldable pub the_tables : Catalog
the_tables = record {
  schemas =
      found "region"
      (count "regionkey" ∷ text 25 "name" ∷ text 152 "comment" ∷ [])
      []
      ∷ found "nation"
      (count "nationkey" ∷ text 25 "name" ∷ count "regionkey" ∷ text 152 "comment" ∷ [])
      (reference "region" REGION "regionkey" ∷ [])
      ∷ found "supplier"
      (count "suppkey" ∷ text 25 "name" ∷ text 40 "address" ∷ count "nationkey" ∷ text 15 "phone"
      ∷ amount "acctbal" ∷ text 101 "comment" ∷ [])
      (reference "nation" NATION "nationkey" ∷ [])
      ∷ found "customer"
      (count "custkey" ∷ text 25 "name" ∷ text 40 "address" ∷ count "nationkey" ∷ text 15 "phone"
      ∷ amount "acctbal" ∷ text 10 "mktsegment" ∷ text 117 "comment" ∷ [])
      (reference "nation" NATION "nationkey" ∷ [])
      ∷ found "part"
      (count "partkey" ∷ text 55 "name" ∷ text 25 "mfgr" ∷ text 10 "brand" ∷ text 25 "type"
      ∷ count "size" ∷ text 10 "container" ∷ amount "retailprice" ∷ text 23 "comment" ∷ [])
      []
      ∷ listed "partsupp"
      (count "partkey" ∷ count "suppkey" ∷ count "availqty" ∷ amount "supplycost" ∷ text 199 "comment" ∷ [])
      (reference "part" PART "partkey" ∷ reference "supplier" SUPPLIER "suppkey" ∷ [])
      ∷ found "orders"
      (count "orderkey" ∷ count "custkey" ∷ text 1 "orderstatus" ∷ amount "totalprice" ∷ day "orderdate"
      ∷ text 15 "orderpriority" ∷ text 15 "clerk" ∷ count "shippriority" ∷ text 79 "comment" ∷ [])
      (reference "customer" CUSTOMER "custkey" ∷ [])
      ∷ listed "lineitem"
      (count "orderkey" ∷ count "partkey" ∷ count "suppkey" ∷ count "linenumber"
      ∷ amount "quantity" ∷ amount "extendedprice" ∷ rate "discount" ∷ rate "tax"
      ∷ text 1 "returnflag" ∷ text 1 "linestatus" ∷ day "shipdate" ∷ day "commitdate" ∷ day "receiptdate"
      ∷ text 25 "shipinstruct" ∷ text 10 "shipmode" ∷ text 44 "comment" ∷ [])
      (reference "order" ORDERS "orderkey" ∷ reference "part" PART "partkey" ∷ reference "supplier" SUPPLIER "suppkey" ∷ [])
      ∷ [];
}
