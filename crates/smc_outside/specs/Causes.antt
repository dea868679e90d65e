-- Why a call outside may fail: by a count of faults, which never falls.
use Rattle.std.specs.Prelude.{ℕ, ◌+◌, ◌-◌, ◌^◌, ◌≤◌, min, Result, Ok, Err, OnErr}

-- a count after one more, which stands still at the last value of a u64
abbrev pub raised : ℕ → ℕ
raised count = min (count + 1) (2 ^ 64 - 1)

-- the count rose, or stands at its last value
abbrev pub Rose : ℕ → ℕ → Type 0
Rose before now = raised before ≤ now

-- the count after a call with this answer, where each failure is counted and nothing else
abbrev pub faults_after : {T E : Type 0} → ℕ → Result T E → ℕ
faults_after count (Ok _) = count
faults_after count (Err _) = raised count

-- the count did not fall, and rose where the call failed
pub record HasCause {T E : Type 0} (before now : ℕ) (result : Result T E) : Type 0 where
  pub later : before ≤ now
  pub failed : OnErr result (Rose before now)
