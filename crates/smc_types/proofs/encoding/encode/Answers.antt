-- What the record says is what was written, so the laws on records hold of it.
use Rattle.std.proofs.Common.{◌≡◌, length, None, ap, ◌∙◌, arith}
use Rattle.std.proofs.lemmas.Grind.{common_steps}
use Rattle.smc_types.specs.Columns.{value_count, value_kinds}
use Rattle.smc_types.specs.Faults.{values_fault}
use Rattle.smc_types.specs.Records.{record_words}
use Rattle.smc_types.specs.Rows.{row_of}
use Rattle.smc_types.proofs.BackLaws.{Encodes, row_of-record_words, record_words-last, length-record_words}
use Rattle.smc_types.proofs.BlankLaws.{record_filled}
use Rattle.smc_types.proofs.encoding.encode.Goals as goal

-- the words are those of the record
words_are : (c : goal.In_ok-push_record) → c.push_record.new.words.items ≡ record_words c.args.schema.now.columns c.args.row.now c.args.refs.now
words_are c = grind (arith, common_steps)

-- there is a value for each column
values_all : (c : goal.In_ok-push_record) → length c.args.row.now ≡ value_count c.args.schema.now.columns
values_all c = grind (arith, common_steps)

-- and none has a fault
encodes : (c : goal.In_ok-push_record) → Encodes c.args.schema.now.columns c.args.row.now c.args.refs.now
encodes c = record {
  values_all = values_all c;
  references_all = c.requires.count;
  texts = rw c.as_slice-values.ensures at c.in_ok-push_record.ensures.texts;
  good =
      let good : values_fault (value_kinds c.args.schema.now.columns) c.args.row.now ≡ None = grind (arith, common_steps) in good;
}

pub returns-clause-back : goal.returns-clause-back
returns-clause-back c =
    ap (row_of c.args.schema.now.columns) (words_are c)
    ∙ row_of-record_words c.args.schema.now.columns c.args.row.now c.args.refs.now (encodes c)

pub returns-clause-last : goal.returns-clause-last
returns-clause-last c last =
    words_are c ∙ record_words-last c.args.schema.now.columns c.args.row.now c.args.refs.now last (values_all c) c.requires.count

pub returns-clause-filled : goal.returns-clause-filled
returns-clause-filled c = rw (words_are c) (record_filled c.args.schema.now.columns c.args.row.now c.args.refs.now c.requires.each (encodes c))

pub returns-clause-width : goal.returns-clause-width
returns-clause-width c = ap length (words_are c) ∙ length-record_words c.args.schema.now.columns c.args.row.now c.args.refs.now (encodes c)
