-- What each step keeps of calls in progress, of copies, and of the targets of a round.
use Rattle.smc_agreement.specs.Agreement.{CallsAgree, CopiesAgree, MovesAgree}
use Rattle.smc_agreement.specs.Kept.{IsKept, Nothing}

-- what each call in progress knows
abbrev pub CallsAreKept : Type 0
CallsAreKept = IsKept Nothing CallsAgree

-- what one who copies knows
abbrev pub CopiesAreKept : Type 0
CopiesAreKept = IsKept Nothing CopiesAgree

-- what becomes of the targets of a round
abbrev pub MovesAreKept : Type 0
MovesAreKept = IsKept Nothing MovesAgree
