-- What the first line of a schedule says.
use Rattle.std.specs.Prelude.{ℕ, ◌%◌, ◌==◌, ◌&&◌, nat_le, if◌then◌else◌, List, [], ◌∷◌, codes, None, Some, option_and_then}
use Rattle.std.specs.declared.option.Option.{Option}
use Rattle.std.specs.Option.{option_map}
use Rattle.std.specs.Str.{bytes_eq}
use Rattle.smc_core.specs.declared.local.Opening.{Opening}
use Rattle.smc_core.specs.declared.section.TheConstants.{FIRST_EPOCH, LAST_EPOCH}
use Rattle.smc_lines.specs.Numbers.{number_of}
use Rattle.smc_schedule.specs.declared.header.Header.{Header}
use Rattle.smc_schedule.specs.declared.header.TheConstants.{MAX_PASSES, MAX_WIDTH, BLOCK, MAX_SLOTS, MAX_INCARNATION}

-- a number between these
abbrev pub number_within : ℕ → ℕ → List ℕ → Option ℕ
number_within least most word = option_and_then (λ number. if nat_le least number then Some number else None) (number_of most word)

-- a number of slots, in whole blocks
abbrev pub slots_of : List ℕ → Option ℕ
slots_of word = option_and_then (λ slots. if slots % BLOCK == 0 then Some slots else None) (number_within BLOCK MAX_SLOTS word)

-- nothing, or `epoch E inc I`
abbrev pub opening_of : List (List ℕ) → Option Opening
opening_of [] = Some (record { epoch = FIRST_EPOCH; incarnation = 0 })
opening_of (epoch ∷ e ∷ inc ∷ i ∷ []) =
    if bytes_eq epoch (codes "epoch") && bytes_eq inc (codes "inc")
    then option_and_then (λ first. option_map (λ last. record { epoch = first; incarnation = last }) (number_of MAX_INCARNATION i)) (number_within FIRST_EPOCH LAST_EPOCH e)
    else None
opening_of words = None

-- P W S and an opening
abbrev pub sizes_of : List ℕ → List ℕ → List ℕ → List (List ℕ) → Option Header
sizes_of p w s opening =
    option_and_then (λ passes. option_and_then (λ width. option_and_then (λ slots. option_map (λ open_as.
    record { passes = passes; width = width; slots = slots; opening = open_as })
    (opening_of opening)) (slots_of s)) (number_within 1 MAX_WIDTH w)) (number_within 1 MAX_PASSES p)

-- `shape P W S`, with an opening or without
abbrev pub header_of : List (List ℕ) → Option Header
header_of (shape ∷ p ∷ w ∷ s ∷ opening) = if bytes_eq shape (codes "shape") then sizes_of p w s opening else None
header_of words = None
