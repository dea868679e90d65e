use Rattle.std.proofs.Common.{arith}
use Rattle.smc_tbl.proofs.FieldLaws.{line-gives}
use Rattle.smc_tbl.proofs.FitLaws.{result-fits}
use Rattle.smc_tbl.proofs.TextLaws.{row-text}
use Rattle.smc_tbl.proofs.grammar.read_row.Goals as goal

pub read_columns-requires : goal.read_columns-requires
read_columns-requires c = row-text c.args.line.now (c.is_text.ensures.0 c.if-not-is_text.false)

pub returns : goal.returns
returns c =
    let gives = line-gives c.args.schema.now c.args.line.now (omega arith) (c.is_text.ensures.0 c.if-not-is_text.false) c.read_columns.result c.read_columns.ensures in
    record { gives = gives; fits = result-fits c.a_text_says_a_day_in_range.ensures c.args.schema.now c.args.line.now c.read_columns.result gives }
