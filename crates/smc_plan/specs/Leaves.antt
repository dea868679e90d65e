-- The leaves of a plan: what its paths come to, each once.
use Rattle.std.specs.Prelude.{ℕ, Bool, true, false, ◌&&◌, ◌==◌, if◌then◌else◌, List, [], ◌∷◌, ◌++◌, sum_by, position, Option, Result, Ok, Err}
use Rattle.std.specs.Cmp.Lexicographic.{pointwise}
use Rattle.smc_query.specs.Trees.{PathTree}
use Rattle.smc_types.specs.Columns.{width_of, is_reference}
use Rattle.smc_types.specs.declared.catalog.Catalog.{Catalog}
use Rattle.smc_types.specs.declared.column.FieldType.{FieldType}
use Rattle.smc_types.specs.declared.column.FieldType.TheVariants.{Count, Amount, Rate, Day, Text, RefTo}
use Rattle.smc_plan.specs.Answers.{and_then}
use Rattle.smc_plan.specs.Tables.{field_named}
use Rattle.smc_plan.specs.declared.fault.PlanFault.{PlanFault}
use Rattle.smc_plan.specs.declared.fault.PlanFault.TheVariants.{Path}
use Rattle.smc_plan.specs.declared.leaf.Hop.{Hop}
use Rattle.smc_plan.specs.declared.leaf.Leaf.{Leaf}
use Rattle.smc_plan.specs.declared.table.Field.{Field}

-- ---- paths

-- the reference of a field
abbrev pub hop_of : Field → Hop
hop_of field = record { table = field.table; width = field.width; at = field.at }

-- the table that a field refers to
abbrev pub table_behind : FieldType → Result ℕ PlanFault
table_behind (RefTo table) = Ok table
table_behind _ = Err Path

-- the leaf of a field behind these references
abbrev pub leaf_at : List Hop → Field → Leaf
leaf_at hops field = record { hops = hops; table = field.table; width = field.width; at = field.at; kind = field.kind }

-- the last field of a path is no reference
abbrev pub last_leaf : List Hop → Field → Result Leaf PlanFault
last_leaf hops field = if is_reference field.kind then Err Path else Ok (leaf_at hops field)

-- whether no name comes behind
abbrev pub is_last : PathTree → Bool
is_last [] = true
is_last (name ∷ names) = false

-- the leaf at the end of these names, from a table on, behind these references; each name but the last is a reference
abbrev pub leaf_behind : Catalog → List Hop → ℕ → PathTree → Result Leaf PlanFault
leaf_behind catalog hops table [] = Err Path
leaf_behind catalog hops table (name ∷ names) =
    and_then (field_named catalog table name)
    (λ field. if is_last names then last_leaf hops field
    else and_then (table_behind field.kind) (λ next. leaf_behind catalog (hops ++ hop_of field ∷ []) next names))

-- the leaf that a path comes to from a table on
abbrev pub leaf_of : Catalog → ℕ → PathTree → Result Leaf PlanFault
leaf_of catalog table path = leaf_behind catalog [] table path

-- ---- different leaves

-- whether two types of columns are one
abbrev pub same_type : FieldType → FieldType → Bool
same_type Count Count = true
same_type Amount Amount = true
same_type Rate Rate = true
same_type Day Day = true
same_type (Text one) (Text other) = one == other
same_type (RefTo one) (RefTo other) = one == other
same_type _ _ = false

-- whether two references of paths are one
abbrev pub same_hop : Hop → Hop → Bool
same_hop one other = (one.table == other.table) && (one.width == other.width) && (one.at == other.at)

-- whether two paths follow the same references
abbrev pub same_hops : List Hop → List Hop → Bool
same_hops one other = pointwise same_hop one other

-- whether two leaves are one
abbrev pub same_leaf : Leaf → Leaf → Bool
same_leaf one other =
    same_hops one.hops other.hops && (one.table == other.table) && (one.width == other.width) && (one.at == other.at) && same_type one.kind other.kind

-- where a leaf stands among others
abbrev pub place_of : List Leaf → Leaf → Option ℕ
place_of leaves leaf = position (λ other. same_leaf other leaf) leaves

-- how many words leaves take in a row
abbrev pub leaves_words : List Leaf → ℕ
leaves_words leaves = sum_by (λ leaf. width_of leaf.kind) leaves
