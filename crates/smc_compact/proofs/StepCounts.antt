-- How many steps a begin takes, at most.
use Rattle.std.proofs.Common.{ℕ, ◌+◌, ◌*◌, ◌≤◌, ◌<◌, arith}
use Rattle.std.proofs.lemmas.Grind.{common_steps}

-- where each source is passed
pub all-few : (now old slots kept source target width : ℕ) → now + 3 * kept ≤ old + 1 + 3 * slots + 3 * source + target * (width + 7) → target ≤ slots → source ≤ kept + slots
    → now ≤ old + 2 + slots * (width + 13)
all-few now old slots kept source target width steps low ends = grind (arith, common_steps, steps, low, ends)

-- where no target is left
pub none-few : (now then old slots kept source target width : ℕ) → now + target * (width + 7) ≤ then + 3 + kept * (width + 7)
    → then + 3 * kept ≤ old + 1 + 3 * slots + 3 * source + target * (width + 7) → kept ≤ source → source < slots → now ≤ old + 2 + slots * (width + 13)
none-few now then old slots kept source target width last steps from within = grind (arith, common_steps, last, steps, from, within)
