use Rattle.std.proofs.Common.{◌≡◌, drop}
use Rattle.smc_outside.specs.Shelves.{file_named}
use Rattle.smc_outside.proofs.ShelfLaws.{shown}
use Rattle.smc_outside.proofs.mem_shelf.find_file.Given as goal

-- no file before this one has the name
abbrev pub invariant-loop-file : goal.invariant-loop-file
invariant-loop-file l = file_named (shown l.files) l.name ≡ file_named (shown (drop l.file-index l.files)) l.name
