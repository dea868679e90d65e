-- The row of an object in a world that stands still.
use Rattle.std.specs.Prelude.{◌≡◌, ℕ, zero, suc, ◌+◌, ◌==◌, Option, Some, None, List, [], ◌∷◌, ◌++◌, length, option_map, option_and_then, if◌then◌else◌}
use Rattle.std.specs.List.{AllByRecursion}
use Rattle.smc_words.specs.declared.number.Number.{Number}
use Rattle.smc_shape.specs.Layout.{Layout, width_of}
use Rattle.smc_model.specs.World.{World, IsAllowed, is_present, word_of}
use Rattle.smc_core.specs.Row.{unpacked_number}
use Rattle.smc_types.specs.Columns as columns
use Rattle.smc_plan.specs.declared.leaf.Hop.{Hop}
use Rattle.smc_plan.specs.declared.leaf.Leaf.{Leaf}
use Rattle.smc_plan.specs.Leaves.{leaves_words}
use Rattle.smc_trace.specs.Trace.{CallEnd, events_in}
use Rattle.smc_visits.specs.Rows.{RowOfVisit}

-- an object that is present, or none
abbrev pub present : World → Number → Option Number
present world number = if is_present world number then Some number else None

-- what is read of an object whose records have this width, or nothing
abbrev pub of_width : {A : Type 0} → Layout → Number → ℕ → Option A → Option A
of_width shape number width read = if width_of shape number.coll == width then read else None

-- the object that a field refers to, if it is not null, and is here
abbrev pub referred : World → Number → ℕ → Option Number
referred world number field = option_and_then (present world) (option_and_then unpacked_number (word_of world number field))

-- the object that references lead to
abbrev pub last_in : Layout → World → List Hop → Number → Option Number
last_in shape world [] number = Some number
last_in shape world (hop ∷ later) number = of_width shape number hop.width (option_and_then (last_in shape world later) (referred world number hop.at))

-- so many words of an object, from this field on
abbrev pub words_in : World → Number → ℕ → ℕ → Option (List ℕ)
words_in world number field zero = Some []
words_in world number field (suc more) = option_and_then (λ word. option_map (λ words. word ∷ words) (words_in world number (field + 1) more)) (word_of world number field)

-- the words of a leaf
abbrev pub leaf_in : Layout → World → Leaf → Number → Option (List ℕ)
leaf_in shape world leaf number =
    option_and_then (λ last. of_width shape last leaf.width (words_in world last leaf.at (columns.width_of leaf.kind))) (last_in shape world leaf.hops number)

-- the row of an object: the words of all leaves, if each has them
abbrev pub row_in : Layout → World → List Leaf → Number → Option (List ℕ)
row_in shape world [] number = Some []
row_in shape world (leaf ∷ later) number = option_and_then (λ words. option_map (λ more. words ++ more) (row_in shape world later number)) (leaf_in shape world leaf number)

-- each of these calls answers what the world has
abbrev pub AreOf : World → List CallEnd → Type 0
AreOf world calls = AllByRecursion (IsAllowed world) (events_in calls)

-- calls that all answer what one world has read the row of that world
abbrev pub ReadsOneWorld : Type 0
ReadsOneWorld = (shape : Layout) (world : World) (number : Number) (leaves : List Leaf) (row : Option (List ℕ)) (calls : List CallEnd)
    → RowOfVisit shape number leaves row calls → AreOf world calls → row_in shape world leaves number ≡ row

-- a row that is whole has as many words as its leaves
abbrev pub AreWhole : Type 0
AreWhole = (shape : Layout) (number : Number) (leaves : List Leaf) (row : List ℕ) (calls : List CallEnd)
    → RowOfVisit shape number leaves (Some row) calls → length row ≡ leaves_words leaves
