-- Bytes that are read and written in pieces.
use Rattle.std.proofs.Common.{◌≡◌, ℕ, ◌+◌, ◌<◌, List, ◌++◌, length, take, drop, min, Some, Ok, take-add, arith}
use Rattle.std.proofs.lemmas.Grind.{common_steps}
use Rattle.std.proofs.KnownBytes.{Appends-trans}
use Rattle.std.specs.Io.KnownBytes.{Appends, ReadConsumes}
use Rattle.std.specs.declared.option.Option.{Option}
use Rattle.smc_outside.specs.declared.failed.Failed.{Failed}

-- the front that is written grows by the next piece
pub Appends-next : (a b c : Option (List ℕ)) (bytes rest : List ℕ) (written count : ℕ) → rest ≡ drop written bytes
    → Appends a b (take written bytes) → Appends b c (take count rest) → Appends a c (take (written + count) bytes)
Appends-next a b c bytes rest written count is so_far piece =
    rw (take-add written count bytes, ← is) (Appends-trans a b c _ _ so_far piece)

-- as many bytes as may be were copied from the front of what was left
pub ReadConsumes-copy : (left to copy : List ℕ) (most count : ℕ) → 0 < most → count ≡ min most (min (length left) (length to))
    → copy ≡ take count left ++ drop count to → ReadConsumes {E = Failed} (Some left) (Some (drop count left)) (Ok count) copy
ReadConsumes-copy left to copy most count some is copied =
    (grind (arith, common_steps), λ none room. grind (arith, common_steps))
