-- The output columns that the sort keys of a query spell.
use Rattle.std.specs.Prelude.{ℕ, ◌+◌, Bool, false, List, [], ◌∷◌, length, position, Option, Some, None, Result, Ok, Err}
use Rattle.std.specs.Cmp.Lexicographic.{pointwise}
use Rattle.std.specs.Option.{option_map, option_or}
use Rattle.std.specs.Str.{bytes_eq}
use Rattle.smc_query.specs.Trees.{Word, PathTree, ItemTree, KeyTree}
use Rattle.smc_plan.specs.declared.fault.PlanFault.{PlanFault}
use Rattle.smc_plan.specs.declared.fault.PlanFault.TheVariants.{NoField}
use Rattle.smc_plan.specs.declared.plan.OrderKey.{OrderKey}

-- whether two paths have the same names
abbrev pub same_path : PathTree → PathTree → Bool
same_path one other = pointwise bytes_eq one other

-- whether a path is this label alone
abbrev pub spells : PathTree → Option Word → Bool
spells (name ∷ []) (Some label) = bytes_eq label name
spells path label = false

-- where a path stands among the `by` paths
abbrev pub by_place : List PathTree → PathTree → Option ℕ
by_place by path = position (λ other. same_path other path) by

-- where the output column of which a path is the label stands among those behind `show`
abbrev pub label_place : List ItemTree → PathTree → Option ℕ
label_place items path = position (λ item. spells path item.label) items

-- the output column that a path spells: that of the first such `by` path, or else of the first such label
abbrev pub key_column : List PathTree → List ItemTree → PathTree → Option ℕ
key_column by items path = option_or (by_place by path) (option_map (λ place. length by + place) (label_place items path))

-- a key by a column that may lack
abbrev pub key_by : Bool → Option ℕ → Result OrderKey PlanFault
key_by desc None = Err NoField
key_by desc (Some column) = Ok (record { column = column; desc = desc })

-- the key by the output column that a sort key spells
abbrev pub order_key : List PathTree → List ItemTree → KeyTree → Result OrderKey PlanFault
order_key by items key = key_by key.desc (key_column by items key.path)
