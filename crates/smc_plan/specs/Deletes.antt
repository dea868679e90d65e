-- A delete, as the query that counts what it removes.
use Rattle.std.specs.Prelude.{List, [], ◌∷◌, Some, None}
use Rattle.smc_query.specs.Trees.{CondTree, ItemTree, QueryTree, Word, count}

-- `count()` as the only column, without a label
abbrev pub only_count : List ItemTree
only_count = (let item : ItemTree = record { call = count; label = None } in item) ∷ []

-- the query that counts what a delete removes: the rows of this table that meet the condition
abbrev pub delete_query : Word → CondTree → QueryTree
delete_query table cond = record { table = table; filter = Some cond; by = []; items = only_count; sort = []; first = None }
