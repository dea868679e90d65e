use Rattle.smc_tbl.proofs.TextLaws.{row-text}
use Rattle.smc_tbl.proofs.fields.read_field.Goals as goal

pub read_value-requires-clause-text : goal.read_value-requires-clause-text
read_value-requires-clause-text c = row-text c.args.text.now (c.is_field.ensures.0 c.if-not-is_field.false).of_text
