-- Which shapes are refused, and why.
use Rattle.std.specs.Prelude.{ℕ, ◌%◌, ◌==◌, ◌||◌, not, nat_lt, List, [], ◌∷◌, length, Option, Some, None, if◌then◌else◌}
use Rattle.std.specs.Option.{option_or}
use Rattle.smc_shape.specs.declared.fault.ShapeFault.{ShapeFault}
use Rattle.smc_shape.specs.declared.fault.ShapeFault.TheVariants.{NoCollections, TooManyCollections, Passes, Width, Slots, TooLarge}
use Rattle.smc_shape.specs.declared.coll.CollShape.{CollShape}
use Rattle.smc_shape.specs.declared.coll.TheConstants.{BLOCK_SLOTS, MAX_WIDTH}
use Rattle.smc_shape.specs.declared.shape.TheConstants.{MAX_COLLS, MAX_PASSES, MAX_WORDS}
use Rattle.smc_shape.specs.Layout.{asked, words_of}

-- what is wrong with this number of collections
abbrev pub count_fault : ℕ → Option ShapeFault
count_fault colls = if colls == 0 then (Some NoCollections) else if nat_lt MAX_COLLS colls then (Some TooManyCollections) else None

-- what is wrong with this number of passes
abbrev pub passes_fault : ℕ → Option ShapeFault
passes_fault passes = if passes == 0 || nat_lt MAX_PASSES passes then (Some Passes) else None

-- what is wrong with a width
abbrev pub width_fault : ℕ → Option ShapeFault
width_fault width = if width == 0 || nat_lt MAX_WIDTH width then (Some Width) else None

-- what is wrong with a number of slots
abbrev pub slots_fault : ℕ → Option ShapeFault
slots_fault slots = if slots == 0 || not (slots % BLOCK_SLOTS == 0) then (Some Slots) else None

-- what is wrong with a collection: its width comes first
abbrev pub coll_fault : CollShape → Option ShapeFault
coll_fault coll = option_or (width_fault coll.width) (slots_fault coll.slots)

-- what is wrong with the first collection that has a fault
abbrev pub colls_fault : List CollShape → Option ShapeFault
colls_fault [] = None
colls_fault (coll ∷ later) = option_or (coll_fault coll) (colls_fault later)

-- what is wrong with this number of words
abbrev pub size_fault : ℕ → Option ShapeFault
size_fault words = if nat_lt MAX_WORDS words then (Some TooLarge) else None

-- the one fault for which a shape is refused: the first of these that it has
abbrev pub fault_of : ℕ → List CollShape → Option ShapeFault
fault_of passes colls =
    option_or (count_fault (length colls))
    (option_or (passes_fault passes)
    (option_or (colls_fault colls)
    (size_fault (words_of (asked passes colls)))))
