use Rattle.smc_types.proofs.RecordLaws.{Progress}
use Rattle.smc_types.proofs.encoding.push_record.Given as goal

abbrev pub invariant-loop-column : goal.invariant-loop-column
invariant-loop-column l = Progress l.columns l.values l.refs l.fn.words.items l.column-index l.value l.reference l.words.items
