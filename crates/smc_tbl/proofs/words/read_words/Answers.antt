use Rattle.std.proofs.Common.{[], Err, arith}
use Rattle.smc_types.specs.Columns.{value_kinds}
use Rattle.smc_tbl.specs.TableText.{FieldsGive, Gives, IsShort}
use Rattle.smc_tbl.specs.Words.{AreRowWords, LineAddsWords}
use Rattle.smc_tbl.proofs.FieldLaws.{line-gives}
use Rattle.smc_tbl.proofs.TextLaws.{row-text}
use Rattle.smc_tbl.proofs.WordLaws.{fault-at, fits-words, ok-at}
use Rattle.smc_tbl.proofs.words.read_words.Goals as goal

pub push_fields-requires : goal.push_fields-requires
push_fields-requires c = row-text c.args.line.now (c.is_text.ensures.0 c.if-not-is_text.false)

pub returns-clause-fits : goal.returns-clause-fits
returns-clause-fits c =
    let schema = c.args.schema.now in
    let line = c.args.line.now in
    let new = c.push_fields.new.into.items in
    let short : IsShort c.args.line.now = omega arith in
    let text = c.is_text.ensures.0 c.if-not-is_text.false in
    let spelled = rw (c.as_slice.ensures.columns, c.clear.ensures.items) at c.push_fields.ensures.spelled in
    ok-at c.push_fields.result (LineAddsWords (value_kinds schema.columns) line [] new) (AreRowWords schema new)
    (fits-words schema line short text c.a_text_says_a_day_in_range.ensures new) spelled

pub returns-clause-fault : goal.returns-clause-fault
returns-clause-fault c =
    let schema = c.args.schema.now in
    let line = c.args.line.now in
    let short : IsShort c.args.line.now = omega arith in
    let text = c.is_text.ensures.0 c.if-not-is_text.false in
    let given = rw c.as_slice.ensures.columns at c.push_fields.ensures.fault in
    fault-at c.push_fields.result (FieldsGive (value_kinds schema.columns) line) (Gives schema line)
    (λ fault. line-gives schema line short text (Err fault)) given
