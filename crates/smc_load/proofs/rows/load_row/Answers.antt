use Rattle.std.proofs.Common.{◌≡◌, ℕ, List, Result, Ok, Err, subst, ap, ◌∙◌}
use Rattle.std.specs.Prelude.{slice_index}
use Rattle.smc_words.specs.declared.number.Number.{Number}
use Rattle.smc_load.specs.Loading.{AddEnds}
use Rattle.smc_load.specs.declared.rows.RowFault.{RowFault}
use Rattle.smc_load.proofs.RowEndings.{put-ends, unadded-ends, unput-ends}
use Rattle.smc_load.proofs.rows.load_row.Goals as goal

-- the object was not added
pub returns-in-Err : goal.returns-in-Err
returns-in-Err c =
    let words = c.args.words.now.items in
    let last = c.add_row-pass.result.0 in
    let ends = subst (λ (k : Result Number RowFault). AddEnds k c.args.schema.now c.args.coll c.args.keys.now words c.args.pass last) c.in-Err.is c.add_row-pass.ensures.ends in
    unadded-ends c.in-Err.fault c.args.schema.now c.args.table c.args.coll c.args.keys.now words c.args.pass last ends

-- it was added, and its key was not put
pub returns-in-Err-put_key : goal.returns-in-Err-put_key
returns-in-Err-put_key c =
    let words = c.args.words.now.items in
    let last = c.add_row-pass.result.0 in
    let number = c.in-Ok.number in
    let ends = subst (λ (k : Result Number RowFault). AddEnds k c.args.schema.now c.args.coll c.args.keys.now words c.args.pass last) c.in-Ok.is c.add_row-pass.ensures.ends in
    unput-ends number c.args.schema.now c.args.table c.args.coll c.args.keys.now c.put_key.new.keys words c.args.pass last ends c.in-Err-put_key.ensures.kept

-- it was added, and its key was put
pub returns-in-Ok-put_key : goal.returns-in-Ok-put_key
returns-in-Ok-put_key c =
    let words = c.args.words.now.items in
    let last = c.add_row-pass.result.0 in
    let number = c.in-Ok.number in
    let ends = subst (λ (k : Result Number RowFault). AddEnds k c.args.schema.now c.args.coll c.args.keys.now words c.args.pass last) c.in-Ok.is c.add_row-pass.ensures.ends in
    let key = c.first_word-key.ensures ∙ ap (λ (k : List ℕ). slice_index k 0) c.deref.ensures.value in
    put-ends number c.args.schema.now c.args.table c.args.coll c.first_word-key.result c.args.keys.now c.put_key.new.keys words c.args.pass last ends key c.in-Ok-put_key.ensures.done
