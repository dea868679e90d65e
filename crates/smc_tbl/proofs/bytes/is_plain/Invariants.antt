use Rattle.std.proofs.Common.{◌≡◌, take}
use Rattle.std.specs.List.{list_all}
use Rattle.smc_tbl.specs.TableText.{is_plain_byte}
use Rattle.smc_tbl.proofs.bytes.is_plain.Given as goal

-- whether the front is plain
abbrev pub invariant-loop-byte : goal.invariant-loop-byte
invariant-loop-byte l = l.plain ≡ list_all is_plain_byte (take l.byte-index l.line)
