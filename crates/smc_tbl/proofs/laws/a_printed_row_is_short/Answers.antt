use Rattle.smc_tbl.proofs.LengthLaws.{row-short, table-row-short, table-row-spelled}
use Rattle.smc_tbl.proofs.laws.a_printed_row_is_short.Goals as goal

pub returns-clause-longest : goal.returns-clause-longest
returns-clause-longest c = row-short

pub returns-clause-short : goal.returns-clause-short
returns-clause-short c = table-row-short

pub returns-clause-spelled : goal.returns-clause-spelled
returns-clause-spelled c = table-row-spelled c.a_text_says_a_day_in_range.ensures
