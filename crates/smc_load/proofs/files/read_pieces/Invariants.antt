use Rattle.std.proofs.Common.{◌≡◌, ◌-◌, ◌^◌, ◌<◌, ◌≤◌, length}
use Rattle.smc_load.proofs.FileLaws.{HasFront}
use Rattle.smc_load.proofs.files.read_pieces.Given as goal

-- the front of the file was read
abbrev pub invariant-loop-bytes : goal.invariant-loop-bytes
invariant-loop-bytes g l =
    let files = g.F.Shelf.files in
    record {
      front : HasFront (files l.fn.shelf) l.name l.bytes.items;
      kept : files l.shelf ≡ files l.fn.shelf;
      faults : g.F.Shelf.faults l.fn.shelf ≤ g.F.Shelf.faults l.shelf;
      room : 0 < length l.piece;
    }

-- no more bytes fit into memory than this
abbrev pub decreases-loop-bytes : goal.decreases-loop-bytes
decreases-loop-bytes g l = 2 ^ 64 - length l.bytes.items
