use Rattle.std.proofs.Common.{◌≡◌, ◌++◌, take, length}
use Rattle.std.specs.Prelude.{IsTrue}
use Rattle.smc_core.specs.Add.{has_no_blank}
use Rattle.smc_load.specs.Loading.{references_among}
use Rattle.smc_load.proofs.references.push_references.Given as goal

-- the references among the columns before this one stand behind the row
abbrev pub invariant-loop-column : goal.invariant-loop-column
invariant-loop-column l = record {
  row : l.row ≡ length l.fn.words.items;
  grown : l.words.items ≡ l.fn.words.items ++ references_among l.columns l.keys l.fn.words.items (take l.column-index l.columns);
  values : IsTrue (has_no_blank l.fn.words.items) → IsTrue (has_no_blank l.words.items);
}
