use Rattle.std.proofs.Common.{sym, ◌∙◌}
use Rattle.std.proofs.lemmas.Bool.{false≢true}
use Rattle.smc_types.specs.Columns.{value_kinds}
use Rattle.smc_tbl.specs.declared.bytes.TheConstants.{BAR}
use Rattle.smc_tbl.proofs.FieldLaws.{column-fault, divided-less, divided-uncut}
use Rattle.smc_tbl.proofs.TextLaws.{field-text}
use Rattle.smc_tbl.proofs.words.push_column.Goals as goal

pub returns-in_default-clause-fault : goal.returns-in_default-clause-fault
returns-in_default-clause-fault c = divided-uncut c.args.kind (value_kinds c.args.behind.now) c.args.line.now c.in_default.ensures.uncut

pub push_field-requires-clause-text : goal.push_field-requires-clause-text
push_field-requires-clause-text c = field-text c.args.line.now c.in-Some.field.now c.in-Some.later.now BAR c.in-Some.ensures.cut c.requires.text

pub returns-in-Err-clause-fault : goal.returns-in-Err-clause-fault
returns-in-Err-clause-fault c =
    let cut = c.in-Some.ensures in
    column-fault c.args.kind (value_kinds c.args.behind.now) c.args.line.now c.in-Some.field.now c.in-Some.later.now cut.cut cut.front c.in-Err.fault c.in-Err.ensures.fault
    (c.is_divided.ensures.0 c.if-is_divided.true)

pub returns-in-Err-2-clause-fault : goal.returns-in-Err-2-clause-fault
returns-in-Err-2-clause-fault c =
    let cut = c.in-Some.ensures in
    λ divided. false≢true (sym c.if-is_divided.false ∙ c.is_divided.ensures.1
    (divided-less c.args.kind (value_kinds c.args.behind.now) c.args.line.now c.in-Some.field.now c.in-Some.later.now cut.cut cut.front divided))
