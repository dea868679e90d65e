-- How large an expression is, by which its value is reckoned part by part.
use Rattle.std.proofs.Common.{ℕ, ◌+◌}
use Rattle.smc_plan.specs.Typed.{TypedTree, number, day, text, leaf, sum, difference, product, minus}

-- how many parts an expression has
abbrev pub parts_of : TypedTree → ℕ
parts_of (number units scale) = 1
parts_of (day days) = 1
parts_of (text bytes) = 1
parts_of (leaf place) = 1
parts_of (sum left right) = parts_of left + parts_of right + 1
parts_of (difference left right) = parts_of left + parts_of right + 1
parts_of (product left right) = parts_of left + parts_of right + 1
parts_of (minus of) = parts_of of + 1
