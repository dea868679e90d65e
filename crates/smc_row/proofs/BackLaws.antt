-- What a number is read as is the word that it was packed from, if there is one.
use Rattle.std.proofs.Common.{◌≡◌, ◌≢◌, ℕ, ◌/◌, ◌%◌, Option, Some, None, IfSome, IfNone, sym, ap, ◌∙◌, arith}
use Rattle.std.proofs.lemmas.Bool.Decides.{nat_tests}
use Rattle.smc_words.specs.declared.dir.Dir.{Dir}
use Rattle.smc_words.specs.declared.dir.Dir.TheVariants.{Free, Claimed, Incoming, Valid, Limbo}
use Rattle.smc_words.specs.declared.number.Number.{Number}
use Rattle.smc_words.specs.declared.round.RoundWord.{RoundWord}
use Rattle.smc_words.specs.Dir.{packed_dir, FitsDir}
use Rattle.smc_words.specs.Number.{packed_number, FitsNumber}
use Rattle.smc_words.specs.RoundWord.{packed_round, FitsRound}
use Rattle.smc_core.specs.Row.{unpacked_dir, unpacked_number, unpacked_round, pass_unit, coll_unit, number_unit, index_unit, stamp_unit}

-- a round comes back
round-back : (round : RoundWord) → FitsRound round → unpacked_round (packed_round round) ≡ Some round
round-back round fits = grind (arith, nat_tests)

-- a number of an object comes back
number-back : (number : Number) → FitsNumber number → unpacked_number (packed_number number) ≡ Some number
number-back number fits = grind (arith, nat_tests)

-- the word of no round is read as none
round-none : (n : ℕ) → ((round : RoundWord) → FitsRound round → packed_round round ≢ n) → unpacked_round n ≡ None
round-none n none =
    let other = none (record { bound = n % pass_unit; pass = n % coll_unit / pass_unit; coll = n / coll_unit }) in
    grind (arith, nat_tests)

-- the word of no object is read as none
number-none : (n : ℕ) → ((number : Number) → FitsNumber number → packed_number number ≢ n) → unpacked_number n ≡ None
number-none n none =
    let other = none (record { incarnation = n / number_unit; entry = n % number_unit / index_unit; coll = n % index_unit }) in
    grind (arith, nat_tests)

-- a word that is none of a directory says what nobody may use
pub dir-none : (n : ℕ) → ((dir : Dir) → FitsDir dir → packed_dir dir ≢ n) → unpacked_dir n ≡ Claimed
dir-none n none =
    let free = none Free tt in
    let incoming = none Incoming tt in
    let valid = none Valid tt in
    let limbo = none (Limbo (n / stamp_unit)) in
    grind (arith, nat_tests)

-- the round that was found is the one that is read
pub round-read : (n : ℕ) (found : Option RoundWord) → IfSome found (λ round. FitsRound round × (packed_round round ≡ n))
    → IfNone found ((round : RoundWord) → FitsRound round → packed_round round ≢ n) → found ≡ unpacked_round n
round-read n None some none = sym (round-none n none)
round-read n (Some round) some none = sym (round-back round some.0) ∙ ap unpacked_round some.1

-- the object's number that was found is the one that is read
pub number-read : (n : ℕ) (found : Option Number) → IfSome found (λ number. FitsNumber number × (packed_number number ≡ n))
    → IfNone found ((number : Number) → FitsNumber number → packed_number number ≢ n) → found ≡ unpacked_number n
number-read n None some none = sym (number-none n none)
number-read n (Some number) some none = sym (number-back number some.0) ∙ ap unpacked_number some.1
