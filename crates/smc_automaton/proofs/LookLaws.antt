-- A step of a look-up leaves the call in its ranges.
use Rattle.std.proofs.Common.{◌≡◌, ◌<◌, ◌+◌, ◌==◌, ℕ, Bool, true, false, nat_lt, List, arith}
use Rattle.std.proofs.lemmas.Bool.{eqb-true, cond_both}
use Rattle.smc_words.specs.declared.layout.TheConstants.{ENTRIES, INCARNATIONS}
use Rattle.smc_words.specs.declared.number.Number.{Number}
use Rattle.smc_shape.specs.Layout.{Layout, IsShape, slots_of, width_of}
use Rattle.smc_core.specs.declared.phase.objects.CopyPhase.{CopyPhase}
use Rattle.smc_core.specs.declared.phase.objects.CopyPhase.TheVariants as copy
use Rattle.smc_core.specs.declared.phase.objects.Finding.{Finding}
use Rattle.smc_core.specs.declared.phase.objects.Finding.TheVariants.{Absent, Stays, Abandons, Helps}
use Rattle.smc_core.specs.declared.phase.objects.LookPhase.{LookPhase}
use Rattle.smc_core.specs.declared.phase.objects.LookPhase.TheVariants as look
use Rattle.smc_core.specs.declared.phase.objects.Seeker.{Seeker}
use Rattle.smc_core.specs.declared.phase.objects.Seeker.TheVariants as seeker
use Rattle.smc_core.specs.declared.word.State.{State}
use Rattle.smc_core.specs.declared.word.State.TheVariants as state
use Rattle.smc_core.specs.declared.word.Word.{Word}
use Rattle.smc_core.specs.declared.word.Word.TheVariants as word
use Rattle.smc_core.specs.Row.{FitsState}
use Rattle.smc_core.specs.Words.{state_of, forward_of, same_word}
use Rattle.smc_core.specs.Look.{copy_offer, copy_field, copy_next, look_offer, find, find_after_abandon, find_after_swing, help_finding, look_finding, passes, look_change, seeker_of, sought_number, looking_change}
use Rattle.smc_automaton.specs.FitsPhase.{HasIncarnation, FitsCopy, FitsSeeker, FitsLook, FitsPhase}
use Rattle.smc_automaton.specs.FitsWord.{FitsSeen}
use Rattle.smc_automaton.proofs.SeenLaws.{slot-index, field-index, state-fits, forward-fits, ChangeFits}

-- copying
copy_field-fits : (shape : Layout) (coll target field : ℕ) → IsShape shape → target < ENTRIES → FitsCopy (copy_field shape coll target field)
copy_field-fits shape coll target field valid here =
    cond_both (nat_lt field (width_of shape coll)) (copy.Load target field) (copy.Swing target) FitsCopy (λ less. (here, field-index shape coll field valid less)) (λ _. here)

pub copy_next-fits : (shape : Layout) (number : Number) (source : ℕ) (next : CopyPhase) (w : Word) → IsShape shape → FitsCopy next
    → FitsSeen (copy_offer number source next).op w → FitsCopy (copy_next shape number.coll next w)
copy_next-fits shape number source copy.Target w valid fits seen = copy_field-fits shape number.coll (forward_of w) 0 valid (forward-fits number.coll source w seen)
copy_next-fits shape number source (copy.Load target field) w valid fits seen = fits
copy_next-fits shape number source (copy.Put target field value) w valid fits seen = copy_field-fits shape number.coll target (field + 1) valid fits.0
copy_next-fits shape number source (copy.Swing target) w valid fits seen = fits

-- looking up: a number that is found has its incarnation, and where it is found the slot is an index
abbrev FindingFits : Number → Finding → Type 0
FindingFits number Absent = Unit {0}
FindingFits number (Stays slot) = HasIncarnation number
FindingFits number (Abandons slot) = HasIncarnation number × (slot < ENTRIES)
FindingFits number (Helps slot next) = HasIncarnation number × (slot < ENTRIES) × FitsCopy next

same-has : (number : Number) (other : ℕ) → other < INCARNATIONS → (other == number.incarnation) ≡ true → HasIncarnation number
same-has number other less same = omega (arith, less, eqb-true other number.incarnation same)

find-fits : (calm : Bool) (number : Number) (seen : State) → FitsState seen → FindingFits number (find calm number.incarnation seen)
find-fits calm number (state.Present other slot) fits =
    cond_both (other == number.incarnation) (Stays slot) Absent (FindingFits number) (same-has number other fits.0) (λ _. tt)
find-fits true number (state.Frozen other slot) fits =
    cond_both (other == number.incarnation) (Stays slot) Absent (FindingFits number) (same-has number other fits.0) (λ _. tt)
find-fits false number (state.Frozen other slot) fits =
    cond_both (other == number.incarnation) (Abandons slot) Absent (FindingFits number) (λ same. (same-has number other fits.0 same, fits.1)) (λ _. tt)
find-fits true number (state.Locked other slot) fits =
    cond_both (other == number.incarnation) (Stays slot) Absent (FindingFits number) (same-has number other fits.0) (λ _. tt)
find-fits false number (state.Locked other slot) fits =
    cond_both (other == number.incarnation) (Helps slot copy.Target) Absent (FindingFits number) (λ same. (same-has number other fits.0 same, fits.1, tt)) (λ _. tt)
find-fits calm number (state.Free incarnation stamp) fits = tt
find-fits calm number (state.Claimed incarnation) fits = tt
find-fits calm number (state.Removed incarnation slot frozen locked) fits = tt

find_after_abandon-fits : (number : Number) (seen : State) → FitsState seen → FindingFits number (find_after_abandon number.incarnation seen)
find_after_abandon-fits number (state.Present other slot) fits =
    cond_both (other == number.incarnation) (Stays slot) Absent (FindingFits number) (same-has number other fits.0) (λ _. tt)
find_after_abandon-fits number (state.Frozen other slot) fits =
    cond_both (other == number.incarnation) (Stays slot) Absent (FindingFits number) (same-has number other fits.0) (λ _. tt)
find_after_abandon-fits number (state.Locked other slot) fits =
    cond_both (other == number.incarnation) (Helps slot copy.Target) Absent (FindingFits number) (λ same. (same-has number other fits.0 same, fits.1, tt)) (λ _. tt)
find_after_abandon-fits number (state.Free incarnation stamp) fits = tt
find_after_abandon-fits number (state.Claimed incarnation) fits = tt
find_after_abandon-fits number (state.Removed incarnation slot frozen locked) fits = tt

find_after_swing-fits : (number : Number) (seen : State) → HasIncarnation number → FindingFits number (find_after_swing number.incarnation seen)
find_after_swing-fits number (state.Present other slot) has =
    cond_both (other == number.incarnation) (Stays slot) Absent (FindingFits number) (λ _. has) (λ _. tt)
find_after_swing-fits number (state.Frozen other slot) has =
    cond_both (other == number.incarnation) (Stays slot) Absent (FindingFits number) (λ _. has) (λ _. tt)
find_after_swing-fits number (state.Locked other slot) has =
    cond_both (other == number.incarnation) (Stays slot) Absent (FindingFits number) (λ _. has) (λ _. tt)
find_after_swing-fits number (state.Free incarnation stamp) has = tt
find_after_swing-fits number (state.Claimed incarnation) has = tt
find_after_swing-fits number (state.Removed incarnation slot frozen locked) has = tt

help-fits : (shape : Layout) (number : Number) (slot : ℕ) (next : CopyPhase) (w : Word) → IsShape shape → HasIncarnation number → slot < ENTRIES
    → FitsCopy next → FitsSeen (copy_offer number slot next).op w → FindingFits number (help_finding shape number slot next w)
help-fits shape number slot copy.Target w valid has here fits seen = (has, here, copy_next-fits shape number slot copy.Target w valid fits seen)
help-fits shape number slot (copy.Load target field) w valid has here fits seen = (has, here, copy_next-fits shape number slot (copy.Load target field) w valid fits seen)
help-fits shape number slot (copy.Put target field value) w valid has here fits seen = (has, here, copy_next-fits shape number slot (copy.Put target field value) w valid fits seen)
help-fits shape number slot (copy.Swing target) w valid has here fits seen =
    cond_both (same_word w (word.Entry (state.Locked number.incarnation slot))) (Stays target) (find_after_swing number.incarnation (state_of w)) (FindingFits number) (λ _. has) (λ _. find_after_swing-fits number (state_of w) has)

look_finding-fits : (shape : Layout) (calm : Bool) (next : LookPhase) (w : Word) → IsShape shape → FitsLook next
    → FitsSeen (look_offer next).op w → FindingFits (sought_number next) (look_finding shape calm next w)
look_finding-fits shape calm (look.Load who number) w valid fits seen = find-fits calm number (state_of w) (state-fits number.coll number.entry w seen)
look_finding-fits shape calm (look.Abandon who number slot) w valid fits seen =
    cond_both (same_word w (word.Entry (state.Frozen number.incarnation slot))) (Stays slot) (find_after_abandon number.incarnation (state_of w)) (FindingFits number)
    (λ _. fits.1) (λ _. find_after_abandon-fits number (state_of w) (state-fits number.coll number.entry w seen))
look_finding-fits shape calm (look.Help who number slot next) w valid fits seen = help-fits shape number slot next w valid fits.1 fits.2 fits.3 seen

seeker-fits : (next : LookPhase) → FitsLook next → FitsSeeker (seeker_of next)
seeker-fits (look.Load who number) fits = fits
seeker-fits (look.Abandon who number slot) fits = fits.0
seeker-fits (look.Help who number slot next) fits = fits.0

module _ (shape : Layout) (words : List ℕ) (valid : IsShape shape) where
  pub passes-fits : (number_of_scan coll slot : ℕ) → FitsPhase shape words (passes shape number_of_scan coll slot)
  passes-fits number_of_scan coll slot =
      cond_both (nat_lt (slot + 1) (slots_of shape coll)) _ _ (FitsPhase shape words) (slot-index shape coll (slot + 1) valid) (λ _. tt)

  look_change-fits : (who : Seeker) (number : Number) (found : Finding) → FitsSeeker who → FindingFits number found → ChangeFits shape words (look_change shape who number found)
  look_change-fits seeker.Caller number Absent here fits = (tt, tt)
  look_change-fits seeker.Caller number (Stays slot) here fits = (tt, fits)
  look_change-fits seeker.Caller number (Abandons slot) here fits = ((tt, fits.0, fits.1), tt)
  look_change-fits seeker.Caller number (Helps slot next) here fits = ((tt, fits.0, fits.1, fits.2), tt)
  look_change-fits (seeker.Scan number_of_scan coll place) number Absent here fits = (passes-fits number_of_scan coll place, tt)
  look_change-fits (seeker.Scan number_of_scan coll place) number (Stays slot) here fits =
      cond_both (slot == place) _ _ (ChangeFits shape words) (λ _. (tt, fits)) (λ _. (passes-fits number_of_scan coll place, tt))
  look_change-fits (seeker.Scan number_of_scan coll place) number (Abandons slot) here fits = ((here, fits.0, fits.1), tt)
  look_change-fits (seeker.Scan number_of_scan coll place) number (Helps slot next) here fits = ((here, fits.0, fits.1, fits.2), tt)

  pub looking-fits : (calm : Bool) (next : LookPhase) (w : Word) → FitsLook next → FitsSeen (look_offer next).op w → ChangeFits shape words (looking_change shape calm next w)
  looking-fits calm next w fits seen =
      look_change-fits (seeker_of next) (sought_number next) (look_finding shape calm next w) (seeker-fits next fits) (look_finding-fits shape calm next w valid fits seen)
