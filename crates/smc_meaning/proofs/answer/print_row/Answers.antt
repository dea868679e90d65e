use Rattle.std.proofs.Common.{◌∙◌, ap, map, sym}
use Rattle.std.proofs.lemmas.List.Elements.{All-rest}
use Rattle.smc_meaning.specs.Cells.{CanPrint, column_seen}
use Rattle.smc_meaning.proofs.answer.print_row.Goals as goal

pub print_further-requires : goal.print_further-requires
print_further-requires c =
    All-rest CanPrint (column_seen c.in-Some.first.now) (map column_seen c.in-Some.further.now) c.args.row.now (sym c.as_slice.ensures.columns ∙ ap (map column_seen) c.in-Some.ensures.cases.0)
    c.as_slice.ensures.printable
