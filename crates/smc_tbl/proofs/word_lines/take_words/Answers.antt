use Rattle.std.proofs.Common.{◌≡◌, ◌<◌, take, true, Ok, Err, arith}
use Rattle.std.specs.Io.KnownBytes.{prepend_known}
use Rattle.std.specs.Str.Lines.{strip_carriage_return}
use Rattle.smc_tbl.specs.Words.{ReadsWords}
use Rattle.smc_tbl.specs.declared.fault.TblFault.TheVariants.{ReadFault}
use Rattle.smc_tbl.specs.declared.lines.TheConstants.{MAX_LINES}
use Rattle.smc_tbl.proofs.Taking.{told-taken, Gives-readable, Reads-refused, WithinLimit-refused}
use Rattle.smc_tbl.proofs.WordLaws.{reads-words}
use Rattle.smc_tbl.proofs.word_lines.take_words.Goals as goal

pub returns-in-Ok-clause-reads : goal.returns-in-Ok-clause-reads
returns-in-Ok-clause-reads g c =
    let left = g.S.Source.left in
    let found = c.in_ok-found.ensures in
    let line = c.in-Line.line in
    let fits = rw (c.in-Some.is, c.in-Line.is) at found.within in
    let first = rw (c.in-Some.is, c.in-Line.is) at found.found in
    let words = c.take_line_words.new.into.items in
    told-taken (prepend_known c.args.buffer.now (left c.args.source.now)) c.find_line.new.buffer (left c.find_line.new.source) c.take_line_words.new.buffer
    line.size line.taken (ReadsWords c.args.schema.now (Ok true) words) found.kept first fits.0 fits.1 c.in-Ok.ensures.taken
    (λ text later is. reads-words c.args.schema.now (take line.size c.find_line.new.buffer) words text later is c.in-Ok.ensures.spelled)

pub returns-in-Err-clause-reads : goal.returns-in-Err-clause-reads
returns-in-Err-clause-reads g c =
    let left = g.S.Source.left in
    let found = c.in_ok-found.ensures in
    let line = c.in-Line.line in
    let fits = rw (c.in-Some.is, c.in-Line.is) at found.within in
    let first = rw (c.in-Some.is, c.in-Line.is) at found.found in
    let words = c.take_line_words.new.into.items in
    let refused = c.in-Err.ensures in
    told-taken (prepend_known c.args.buffer.now (left c.args.source.now)) c.find_line.new.buffer (left c.find_line.new.source) c.take_line_words.new.buffer
    line.size line.taken (ReadsWords c.args.schema.now (Err c.in-Err.fault) words) found.kept first fits.0 fits.1 refused.taken
    (λ text later is. Reads-refused c.args.schema.now c.in-Err.fault (take line.size c.find_line.new.buffer) text later is refused.fault)

pub returns-in-Err-clause-limit : goal.returns-in-Err-clause-limit
returns-in-Err-clause-limit g c =
    let few : c.args.number < MAX_LINES = omega arith in
    WithinLimit-refused c.args.schema.now c.in-Err.fault (strip_carriage_return (take c.in-Line.line.size c.find_line.new.buffer)) c.args.number c.in-Err.ensures.fault few

pub returns-in-Err-clause-failed : goal.returns-in-Err-clause-failed
returns-in-Err-clause-failed g c =
    λ is.
    let never : c.in-Err.fault ≡ ReadFault = cc in
    absurd (Gives-readable c.args.schema.now c.in-Err.fault (strip_carriage_return (take c.in-Line.line.size c.find_line.new.buffer)) c.in-Err.ensures.fault never)
