-- What a counting walk has counted once all slots are passed.
use Rattle.std.specs.Prelude.{◌≤◌}
use Rattle.smc_words.specs.declared.layout.TheConstants.{ENTRIES}
use Rattle.smc_core.specs.declared.phase.moves.Counting.{Counting}
use Rattle.smc_core.specs.declared.phase.moves.Counting.TheVariants.{Walks, Counted}

-- no more objects are counted than a collection can have slots
abbrev pub FewCounted : Counting → Type 0
FewCounted (Walks next) = Unit {0}
FewCounted (Counted coll count) = count.objects ≤ ENTRIES
