-- Short histories that keep the rules or break them.
use Rattle.std.specs.Prelude.{true, false, List, [], ◌∷◌}
use Rattle.smc_words.specs.declared.number.Number.{Number}
use Rattle.smc_model.specs.declared.event.Event.{Event}
use Rattle.smc_model.specs.declared.event.Event.TheVariants.{Add, Look, Remove, Begin, Visit, End, Enter, Leave, Told}

-- the number of the first object of collection 0
abbrev pub number_one : Number
number_one = record { incarnation = 1; entry = 0; coll = 0 }

-- it is added, with one word
abbrev pub adds : Event
adds = Add number_one 0 (7 ∷ [])

-- scan 0, of collection 0, begins, visits it and ends

abbrev pub begins : Event
begins = Begin 0 0

abbrev pub visits : Event
visits = Visit 0 number_one

abbrev pub ends : Event
ends = End 0

-- it is removed while it is present
abbrev pub removes : Event
removes = Remove number_one true

-- it is looked up, and is here
abbrev pub finds : Event
finds = Look number_one true

-- it is looked up, and is not here
abbrev pub misses : Event
misses = Look number_one false

-- pass 1 is told of the first event of pass 0
abbrev pub told_logs : List (List Event)
told_logs = (Enter ∷ Leave ∷ []) ∷ (Told 0 1 ∷ []) ∷ []

-- passes 0 and 1 are each told first of what the other does after it was told
abbrev pub ring_logs : List (List Event)
ring_logs = (Told 1 1 ∷ []) ∷ (Told 0 1 ∷ []) ∷ []
