-- What a test asks of a row.
use Rattle.std.specs.Prelude.{ℕ, Bool, not, ◌&&◌, ◌||◌, List}
use Rattle.smc_plan.specs.Conditions.{condition_tree}
use Rattle.smc_plan.specs.Kinds.{IsTyped}
use Rattle.smc_plan.specs.declared.leaf.Leaf.{Leaf}
use Rattle.smc_meaning.specs.Kept.{meets}
use Rattle.smc_filter.specs.Words.{FitsWord, meets_word}
use Rattle.smc_filter.specs.declared.test.Test.{Test}
use Rattle.smc_filter.specs.declared.test.Test.TheVariants.{Or', And', Not', Word, Plain}

-- whether a row passes a test
abbrev pub passes : List Leaf → Test → List ℕ → Bool
passes leaves (Or' p left q right) words = passes leaves left words || passes leaves right words
passes leaves (And' p left q right) words = passes leaves left words && passes leaves right words
passes leaves (Not' p of) words = not (passes leaves of words)
passes leaves (Word word) words = meets_word word words
passes leaves (Plain cond) words = meets leaves (condition_tree cond.now) words

-- a test can be made of rows of these leaves
abbrev pub FitsTest : List Leaf → Test → Type 0
FitsTest leaves (Or' p left q right) = FitsTest leaves left × FitsTest leaves right
FitsTest leaves (And' p left q right) = FitsTest leaves left × FitsTest leaves right
FitsTest leaves (Not' p of) = FitsTest leaves of
FitsTest leaves (Word word) = FitsWord leaves word
FitsTest leaves (Plain cond) = IsTyped leaves (condition_tree cond.now)
