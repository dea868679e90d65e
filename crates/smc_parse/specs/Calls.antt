-- The words of which a call over an expression begins.
use Rattle.std.specs.Prelude.{Bool, true, false, List, ◌∷◌}
use Rattle.smc_tokens.specs.declared.token.Token.{Token}
use Rattle.smc_tokens.specs.declared.token.Token.TheVariants.{Word}
use Rattle.smc_tokens.specs.declared.reserved.Reserved.{Reserved}
use Rattle.smc_tokens.specs.declared.reserved.Reserved.TheVariants as words
use Rattle.smc_query.specs.Trees.{Aggregate, total, average, least, greatest}
use Rattle.smc_parse.specs.declared.call.Kind.{Kind}
use Rattle.smc_parse.specs.declared.call.Kind.TheVariants.{Sum, Avg, Min, Max}

-- what a kind of call makes of a group
abbrev pub meaning : Kind → Aggregate
meaning Sum = total
meaning Avg = average
meaning Min = least
meaning Max = greatest

-- a word of which no such call begins
abbrev pub aggregates_none : Reserved → Bool
aggregates_none words.Sum = false
aggregates_none words.Avg = false
aggregates_none words.Min = false
aggregates_none words.Max = false
aggregates_none _ = true

-- no such word stands first
abbrev pub aggregates_none_first : List Token → Bool
aggregates_none_first (Word word ∷ later) = aggregates_none word
aggregates_none_first _ = true
