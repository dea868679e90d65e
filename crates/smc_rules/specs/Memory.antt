-- The memory of a region as data: what each place says, and what an operation makes of it.
use Rattle.std.specs.Prelude.{◌==◌, ◌&&◌, Bool, true, false, if◌then◌else◌}
use Rattle.smc_shape.specs.declared.place.Place.{Place}
use Rattle.smc_shape.specs.declared.place.Place.TheVariants as place
use Rattle.smc_core.specs.declared.op.Op.{Op}
use Rattle.smc_core.specs.declared.op.Op.TheVariants.{Load, Store, Exchange, MarkGone}
use Rattle.smc_core.specs.declared.word.Word.{Word}
use Rattle.smc_core.specs.declared.word.Word.TheVariants as word
use Rattle.smc_core.specs.Words.{state_of, same_word, gone}

-- what each place says
abbrev pub Memory : Type 0
Memory = Place → Word

-- whether two places are the same
abbrev pub same_place : Place → Place → Bool
same_place place.Epoch place.Epoch = true
same_place place.Round place.Round = true
same_place (place.Section a) (place.Section b) = a == b
same_place (place.Entry c a) (place.Entry d b) = c == d && a == b
same_place (place.Directory c a) (place.Directory d b) = c == d && a == b
same_place (place.Back c a) (place.Back d b) = c == d && a == b
same_place (place.Forward c a) (place.Forward d b) = c == d && a == b
same_place (place.Field c a f) (place.Field d b g) = c == d && a == b && f == g
same_place _ _ = false

-- the memory with this word at this place
abbrev pub put_word : Memory → Place → Word → Memory
put_word memory here w there = if same_place there here then w else memory there

-- the memory after the operation
abbrev pub apply : Op → Memory → Memory
apply (Load here) memory = memory
apply (Store here w) memory = put_word memory here w
apply (Exchange here expect w) memory = put_word memory here (if same_word (memory here) expect then w else memory here)
apply (MarkGone coll entry) memory = put_word memory (place.Entry coll entry) (word.Entry (gone (state_of (memory (place.Entry coll entry)))))

-- what the operation shows of the memory before it; a store shows nothing
abbrev pub seen : Op → Memory → Word
seen (Load here) memory = memory here
seen (Store here w) memory = word.Plain 0
seen (Exchange here expect w) memory = memory here
seen (MarkGone coll entry) memory = memory (place.Entry coll entry)
