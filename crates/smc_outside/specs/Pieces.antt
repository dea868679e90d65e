-- Bytes that are written in pieces.
use Rattle.std.specs.Prelude.{ℕ, List, take}
use Rattle.std.specs.Io.KnownBytes.{Appends}
use Rattle.std.specs.declared.option.Option.{Option}

-- the told bytes grow by some front of these
abbrev pub AppendsFront : Option (List ℕ) → Option (List ℕ) → List ℕ → Type 0
AppendsFront old new bytes = (n : ℕ) × Appends old new (take n bytes)
