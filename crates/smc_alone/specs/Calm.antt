-- How the calls of a pass end that is not held up by another one.
use Rattle.std.specs.Prelude.{◌≡◌, ℕ, Bool, true, false, List}
use Rattle.smc_core.specs.declared.done.Done.{Done}
use Rattle.smc_core.specs.declared.done.Done.TheVariants as done
use Rattle.smc_refine.specs.Alone.{owns_after}
use Rattle.smc_trace.specs.Trace.{CallEnd, answers_in}

-- whether a pass that has made these calls has a round
abbrev pub has_round : List CallEnd → Bool
has_round calls = owns_after false (answers_in 0 calls)

-- an advance found no section in its way, and a begin no round but the pass's own
abbrev pub IsCalm : ℕ → Bool → Done → Type 0
IsCalm pass owns (done.NotYet other seen) = ⊥
IsCalm pass owns (done.Busy bound other coll) = (other ≡ pass) × (owns ≡ true)
IsCalm pass owns _ = Unit {0}
