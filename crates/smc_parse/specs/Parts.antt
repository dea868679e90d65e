-- The plans of the parts of a query that stand in it once.
use Rattle.std.specs.Prelude.{ℕ, List, [], ◌∷◌, Option, Some, None}
use Rattle.smc_tokens.specs.declared.token.Token.TheVariants.{Word}
use Rattle.smc_tokens.specs.declared.reserved.Reserved.TheVariants as words
use Rattle.smc_query.specs.Trees.{PathTree, ItemTree, KeyTree}
use Rattle.smc_query.specs.Machine.{Plan, may, name, path, paths, item, items, key, keys}

-- path {"," path}
abbrev pub path_list : (List PathTree → Plan) → Plan
path_list next = path (λ p. paths (p ∷ []) next)

-- item {"," item}
abbrev pub item_list : ℕ → (List ItemTree → Plan) → Plan
item_list depth next = item depth (λ i. items depth (i ∷ []) next)

-- key {"," key}
abbrev pub key_list : (List KeyTree → Plan) → Plan
key_list next = key (λ k. keys (k ∷ []) next)

-- ["as" name]
abbrev pub label : (Option (List ℕ) → Plan) → Plan
label next = may (Word words.As) (name (λ n. next (Some n))) (next None)
