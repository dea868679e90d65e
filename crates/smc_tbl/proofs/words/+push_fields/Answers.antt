use Rattle.std.proofs.Common.{◌-◌, List, ◌∷◌, ◌<◌, length, take, drop, sym, ◌∙◌, arith}
use Rattle.smc_types.specs.Columns.{value_kinds}
use Rattle.smc_types.specs.declared.column.Column.{Column}
use Rattle.smc_tbl.specs.TableText.{FieldsGive}
use Rattle.smc_tbl.specs.Words.{LineAddsWords}
use Rattle.smc_tbl.specs.declared.bytes.TheConstants.{BAR}
use Rattle.smc_tbl.proofs.TextLaws.{rest-text}
use Rattle.smc_tbl.proofs.WordLaws.{adds-column, adds-fault, fault-at, first-reference, first-value, not-reference, ok-at}
use Rattle.smc_tbl.proofs.words.+push_fields.Goals as goal

-- the columns behind the first
abbrev behind : List Column → List Column
behind columns = take (length columns - 1) (drop 1 columns)

pub push_fields-requires-in-Ok : goal.push_fields-requires-in-Ok
push_fields-requires-in-Ok t c =
    let takes = c.in-Ok.ensures.spelled.takes in
    (omega arith, rest-text c.args.line.now takes.field c.in-Ok.rest.now BAR takes.cut c.requires)

pub returns-in-len1-up-clause-fault : goal.returns-in-len1-up-clause-fault
returns-in-len1-up-clause-fault t c =
    rw (first-reference c.args.columns.now c.column-item.result (omega arith) c.column-item.is (sym c.is_reference.ensures ∙ c.if-is_reference.true))
    c.push_fields.ensures.fault

pub returns-in-Ok-clause-spelled : goal.returns-in-Ok-clause-spelled
returns-in-Ok-clause-spelled t c =
    let column = c.column-item-2.result in
    let others = value_kinds (behind c.args.columns.now) in
    let line = c.args.line.now in
    let rest = c.in-Ok.rest.now in
    let old = c.args.into.now.items in
    let between = c.push_column.new.into.items in
    let new = c.push_fields-in-Ok.new.into.items in
    let within : 0 < length c.args.columns.now = omega arith in
    let value = not-reference c.args.columns.now c.column-item.result column within c.column-item.is c.column-item-2.is (sym c.is_reference.ensures ∙ c.if-is_reference.false) in
    rw (first-value c.args.columns.now column within c.column-item-2.is value)
    (ok-at c.push_fields-in-Ok.result (LineAddsWords others rest between new) (LineAddsWords (column.kind ∷ others) line old new)
    (adds-column column.kind others line rest old between c.in-Ok.ensures.spelled new) c.push_fields-in-Ok.ensures.spelled)

pub returns-in-Ok-clause-fault : goal.returns-in-Ok-clause-fault
returns-in-Ok-clause-fault t c =
    let column = c.column-item-2.result in
    let others = value_kinds (behind c.args.columns.now) in
    let line = c.args.line.now in
    let rest = c.in-Ok.rest.now in
    let old = c.args.into.now.items in
    let between = c.push_column.new.into.items in
    let within : 0 < length c.args.columns.now = omega arith in
    let value = not-reference c.args.columns.now c.column-item.result column within c.column-item.is c.column-item-2.is (sym c.is_reference.ensures ∙ c.if-is_reference.false) in
    rw (first-value c.args.columns.now column within c.column-item-2.is value)
    (fault-at c.push_fields-in-Ok.result (FieldsGive others rest) (FieldsGive (column.kind ∷ others) line)
    (adds-fault column.kind others line rest old between c.in-Ok.ensures.spelled) c.push_fields-in-Ok.ensures.fault)

pub returns-in-Err-clause-fault : goal.returns-in-Err-clause-fault
returns-in-Err-clause-fault t c =
    let column = c.column-item-2.result in
    let within : 0 < length c.args.columns.now = omega arith in
    let value = not-reference c.args.columns.now c.column-item.result column within c.column-item.is c.column-item-2.is (sym c.is_reference.ensures ∙ c.if-is_reference.false) in
    rw (first-value c.args.columns.now column within c.column-item-2.is value) c.in-Err.ensures.fault
