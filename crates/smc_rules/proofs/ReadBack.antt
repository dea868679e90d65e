-- A word that suits its place is read back from its number.
use Rattle.std.proofs.Common.{◌≡◌, ℕ, Option, Some, None, refl, ap, arith}
use Rattle.std.proofs.lemmas.Bool.Decides.{nat_tests}
use Rattle.smc_words.specs.Dir.{packed_dir, FitsDir}
use Rattle.smc_words.specs.Number.{packed_number, FitsNumber}
use Rattle.smc_words.specs.RoundWord.{packed_round, FitsRound}
use Rattle.smc_words.specs.declared.dir.Dir.{Dir}
use Rattle.smc_words.specs.declared.dir.Dir.TheVariants as dir
use Rattle.smc_words.specs.declared.number.Number.{Number}
use Rattle.smc_words.specs.declared.round.RoundWord.{RoundWord}
use Rattle.smc_shape.specs.declared.place.Place.{Place}
use Rattle.smc_shape.specs.declared.place.Place.TheVariants as place
use Rattle.smc_core.specs.declared.word.State.{State}
use Rattle.smc_core.specs.declared.word.State.TheVariants as state
use Rattle.smc_core.specs.declared.word.Word.{Word}
use Rattle.smc_core.specs.declared.word.Word.TheVariants as word
use Rattle.smc_core.specs.Row.{packed, unpacked, unpacked_entry, unpacked_dir, unpacked_number, unpacked_round, state_in, FitsState, Suits}

state-back : (s : State) → FitsState s → state_in (unpacked_entry (packed (word.Entry s))) ≡ s
state-back (state.Free incarnation stamp) f = grind (arith, nat_tests)
state-back (state.Claimed incarnation) f = grind (arith, nat_tests)
state-back (state.Present incarnation slot) f = grind (arith, nat_tests)
state-back (state.Frozen incarnation slot) f = grind (arith, nat_tests)
state-back (state.Locked incarnation slot) f = grind (arith, nat_tests)
state-back (state.Removed incarnation slot frozen locked) f = grind (arith, nat_tests)

dir-back : (d : Dir) → FitsDir d → unpacked_dir (packed_dir d) ≡ d
dir-back dir.Free f = refl
dir-back dir.Claimed f = refl
dir-back dir.Incoming f = refl
dir-back dir.Valid f = refl
dir-back (dir.Limbo stamp) f = grind (arith, nat_tests)

number-back : (number : Number) → FitsNumber number → unpacked_number (packed_number number) ≡ Some number
number-back number f = grind (arith, nat_tests)

round-back : (round : RoundWord) → FitsRound round → unpacked_round (packed_round round) ≡ Some round
round-back round f = grind (arith, nat_tests)

-- a word that suits its place is read back from its number
pub unpacked-packed : (there : Place) (w : Word) → Suits there w → unpacked there (packed w) ≡ w
unpacked-packed place.Epoch (word.Plain number) f = refl
unpacked-packed place.Round (word.Round None) f = refl
unpacked-packed place.Round (word.Round (Some round)) f = ap (λ (r : Option RoundWord). word.Round r) (round-back round f)
unpacked-packed (place.Section pass) (word.Plain number) f = refl
unpacked-packed (place.Entry coll entry) (word.Entry s) f = ap (λ (r : State). word.Entry r) (state-back s f)
unpacked-packed (place.Directory coll slot) (word.Directory d) f = ap (λ (r : Dir). word.Directory r) (dir-back d f)
unpacked-packed (place.Back coll slot) (word.Back None) f = refl
unpacked-packed (place.Back coll slot) (word.Back (Some number)) f = ap (λ (r : Option Number). word.Back r) (number-back number f)
unpacked-packed (place.Forward coll slot) (word.Forward target) f = ap (λ (r : ℕ). word.Forward r) (omega (arith, f))
unpacked-packed (place.Field coll slot field) (word.Plain number) f = refl
unpacked-packed _ _ f = absurd (search)
