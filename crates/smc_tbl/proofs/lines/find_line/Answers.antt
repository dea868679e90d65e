use Rattle.std.proofs.Common.{◌≡◌, ◌+◌, ◌<◌, ◌∙◌, length, arith, sym}
use Rattle.smc_tbl.specs.Reading.{FirstLineEnds, HasLongLine}
use Rattle.smc_tbl.proofs.LineLaws.{told, told-end, first_line-kept, first_line-last, long_line-kept, same-front}
use Rattle.smc_tbl.proofs.lines.find_line.Goals as goal

pub returns-in-Some-clause-found : goal.returns-in-Some-clause-found
returns-in-Some-clause-found g c =
    let at = c.in-Some.size in
    let bytes = c.bytes-bytes.result.now in
    let found = c.in-Some.ensures in
    rw (← c.bytes-bytes.ensures)
    (told bytes (g.S.Source.left c.loop-size.source) (FirstLineEnds at (at + 1)) (λ rest. first_line-kept bytes rest at found.within found.here found.first))

pub returns-then-size-clause-found : goal.returns-then-size-clause-found
returns-then-size-clause-found g c =
    let bytes = c.bytes-bytes.result.now in
    rw (← c.bytes-bytes.ensures)
    (told bytes (g.S.Source.left c.loop-size.source) HasLongLine (λ rest. long_line-kept bytes rest c.in_default.ensures.nowhere c.if-size.true))

pub returns-then-branch-eq0-clause-found : goal.returns-then-branch-eq0-clause-found
returns-then-branch-eq0-clause-found g c =
    let bytes = c.bytes-bytes.result.now in
    let fill = c.in_ok-fill.ensures in
    let zero = c.if-branch-eq0.true in
    let same : c.fill.new.self ≡ bytes = same-front c.loop-size.buffer c.fill.new.self c.in_ok-fill.field-0 fill.front fill.grows zero ∙ sym c.bytes-bytes.ensures in
    let some : 0 < length bytes = omega arith in
    rw same
    (told-end bytes (g.S.Source.left c.fill.new.source) (FirstLineEnds (length bytes) (length bytes)) (fill.end zero) (first_line-last bytes c.in_default.ensures.nowhere some))
