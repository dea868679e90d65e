-- What each step keeps of slots, entries, objects and records.
use Rattle.std.specs.Prelude.{ℕ}
use Rattle.smc_agreement.specs.Agreement.{ClaimsAgree, ObjectsAgree}
use Rattle.smc_agreement.specs.Kept.{IsKept, Nothing}
use Rattle.smc_agreement.specs.Records.{RecordsAgree}

-- what is claimed or removed belongs to one call
abbrev pub ClaimsAreKept : Type 0
ClaimsAreKept = IsKept Nothing ClaimsAgree

-- where objects stand, and who holds them
abbrev pub ObjectsAreKept : Type 0
ObjectsAreKept = IsKept Nothing ObjectsAgree

-- fields are records of the world, and numbers those that entries gave out
abbrev pub RecordsAreKept : Type 0
RecordsAreKept = (opened : ℕ) → IsKept (RecordsAgree opened) (RecordsAgree opened)
