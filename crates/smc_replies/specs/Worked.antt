-- A script of two commands, and one of a query: the calls that they make over two objects, and what they print.
use Rattle.std.specs.Prelude.{ℕ, List, [], ◌∷◌, ◌++◌, Some, None, codes}
use Rattle.smc_core.specs.declared.local.Held.{Held}
use Rattle.smc_trace.specs.Named.{begins, comes_to, enters, leaves}
use Rattle.smc_trace.specs.Trace.{CallEnd}
use Rattle.smc_query.specs.Trees.{QueryTree, ItemTree, count}
use Rattle.smc_script.specs.Trees.{PartTree, one, query, stat}

-- `stat` of the tables that have the collections 0 and 1
abbrev pub two_stats : List PartTree
two_stats =
    one (record { line = 3; command = stat (record { table = 1; coll = 0 }) }) ∷
    one (record { line = 4; command = stat (record { table = 2; coll = 1 }) }) ∷ []

-- an object of the collection 0 with this entry, held in this slot
abbrev pub object_at : ℕ → ℕ → Held
object_at entry slot = record { number = record { incarnation = 1; entry = entry; coll = 0 }; slot = slot }

-- the first scan comes to two objects, the second to none
abbrev pub their_calls : List CallEnd
their_calls =
    enters 2 ++ begins 0 0 ++ comes_to 0 (Some (object_at 5 0)) ++ comes_to 0 (Some (object_at 7 3)) ++ comes_to 0 None ++ leaves
    ++ enters 2 ++ begins 1 1 ++ comes_to 1 None ++ leaves

-- what they print
abbrev pub their_text : List ℕ
their_text = codes "objects 2\nobjects 0\n"

-- `query region show count()`
abbrev pub a_count : QueryTree
a_count = record { table = codes "region"; filter = None; by = []; items = (let item : ItemTree = record { call = count; label = None } in item) ∷ []; sort = []; first = None }

-- that query as a script, of the collection 0
abbrev pub one_query : List PartTree
one_query = one (record { line = 3; command = query (record { table = 1; coll = 0 }) a_count }) ∷ []

-- the calls of the first of the two, alone
abbrev pub its_calls : List CallEnd
its_calls = enters 2 ++ begins 0 0 ++ comes_to 0 (Some (object_at 5 0)) ++ comes_to 0 (Some (object_at 7 3)) ++ comes_to 0 None ++ leaves

-- what it prints
abbrev pub its_text : List ℕ
its_text = codes "rows 1\n2\n"
