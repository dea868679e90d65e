-- A look-up stays within the region.
use Rattle.std.proofs.Common.{◌≡◌, ℕ, ◌+◌, ◌<◌, ◌==◌, Bool, true, nat_lt, Option, Some, None, List, arith}
use Rattle.std.specs.Prelude.{if◌then◌else◌}
use Rattle.std.proofs.lemmas.Bool.{eqb-true, ltb-true}
use Rattle.smc_words.specs.declared.layout.TheConstants.{INCARNATIONS}
use Rattle.smc_words.specs.declared.number.Number.{Number}
use Rattle.smc_shape.specs.Layout.{Layout, width_of, slots_of, entries_of}
use Rattle.smc_core.specs.declared.change.Change.{Change}
use Rattle.smc_core.specs.declared.local.Held.{Held}
use Rattle.smc_core.specs.declared.phase.Phase.{Phase}
use Rattle.smc_core.specs.declared.phase.Phase.TheVariants as phase
use Rattle.smc_core.specs.declared.phase.objects.CopyPhase.{CopyPhase}
use Rattle.smc_core.specs.declared.phase.objects.CopyPhase.TheVariants as copy
use Rattle.smc_core.specs.declared.phase.objects.Finding.{Finding}
use Rattle.smc_core.specs.declared.phase.objects.Finding.TheVariants.{Absent, Stays, Abandons, Helps}
use Rattle.smc_core.specs.declared.phase.objects.LookPhase.{LookPhase}
use Rattle.smc_core.specs.declared.phase.objects.LookPhase.TheVariants as look
use Rattle.smc_core.specs.declared.phase.objects.ScanPhase.TheVariants as scan
use Rattle.smc_core.specs.declared.phase.objects.Seeker.{Seeker}
use Rattle.smc_core.specs.declared.phase.objects.Seeker.TheVariants as seeker
use Rattle.smc_core.specs.declared.word.State.{State}
use Rattle.smc_core.specs.declared.word.State.TheVariants as state
use Rattle.smc_core.specs.declared.word.Word.{Word}
use Rattle.smc_core.specs.declared.word.Word.TheVariants as word
use Rattle.smc_core.specs.Look.{copy_offer, copy_field, copy_next, find, find_after_abandon, find_after_swing, help_finding, look_change, look_finding, look_offer, looking_change, passes, seeker_of, sought_number, visits}
use Rattle.smc_core.specs.Step.{goes}
use Rattle.smc_core.specs.Words.{state_of, forward_of, same_word}
use Rattle.smc_inv_range.specs.Ranges.{IsNamed, IsNumberOf, IsSlot, InState, InOp, InShown}
use Rattle.smc_inv_range.specs.Calls.{InCopy, InSeeker, InLook, InPhase, IsHeldWithin}
use Rattle.smc_inv_range.proofs.Memories.{state_in, forward_in, field_in, either}

-- what a change leaves: the call and what is held from now on are within the region
abbrev pub InHolds : Layout → Option Held → Type 0
InHolds shape None = Unit {0}
InHolds shape (Some pair) = IsHeldWithin shape pair

abbrev pub InChange : Layout → List ℕ → Change → Type 0
InChange shape words change = InPhase shape words change.phase × InHolds shape change.holds

-- a number of a collection has an entry
pub named_of : (shape : Layout) (coll : ℕ) (number : Number) → IsNumberOf shape coll number → IsNamed shape number
named_of shape coll number f = record { incarnation = f.incarnation; entry = f.entry }

-- copying
pub copy_op : (shape : Layout) (number : Number) (source : ℕ) (next : CopyPhase) → IsNamed shape number → IsSlot shape number.coll source → InCopy shape number.coll next
    → InOp shape (copy_offer number source next).op
copy_op shape number source copy.Target n s f = s
copy_op shape number source (copy.Load target field) n s f = (s, f.1)
copy_op shape number source (copy.Put target field value) n s f = ((f.0, f.1), omega arith, f.2)
copy_op shape number source (copy.Swing target) n s f = (n.entry, (n.incarnation, s), (n.incarnation, f))

copy-field : (shape : Layout) (coll target field : ℕ) → IsSlot shape coll target → InCopy shape coll (copy_field shape coll target field)
copy-field shape coll target field s = either (InCopy shape coll) (nat_lt field (width_of shape coll)) (copy.Load target field) (copy.Swing target)
    (λ t. (s, ltb-true field (width_of shape coll) t)) (λ n. s)

pub copy-next : (shape : Layout) (number : Number) (source : ℕ) (next : CopyPhase) (w : Word) → InCopy shape number.coll next
    → InShown shape (copy_offer number source next).op w → InCopy shape number.coll (copy_next shape number.coll next w)
copy-next shape number source copy.Target w f s = copy-field shape number.coll (forward_of w) 0 (forward_in shape number.coll source w s)
copy-next shape number source (copy.Load target field) w f s = (f.0, f.1, field_in shape number.coll source field w s)
copy-next shape number source (copy.Put target field value) w f s = copy-field shape number.coll target (field + 1) f.0
copy-next shape number source (copy.Swing target) w f s = f

-- what a look-up learns
abbrev pub InFinding : Layout → Number → Finding → Type 0
InFinding shape number Absent = Unit {0}
InFinding shape number (Stays slot) = IsNamed shape number × IsSlot shape number.coll slot
InFinding shape number (Abandons slot) = IsNamed shape number × IsSlot shape number.coll slot
InFinding shape number (Helps slot next) = IsNamed shape number × IsSlot shape number.coll slot × InCopy shape number.coll next

module _ (shape : Layout) (number : Number) (entry : number.entry < entries_of shape number.coll) where
  named : (other : ℕ) → other < INCARNATIONS → (other == number.incarnation) ≡ true → IsNamed shape number
  named other lt t = record { incarnation = omega (arith, lt, eqb-true other number.incarnation t); entry = entry }

  -- a finding behind the test of the incarnation
  if_same : (other : ℕ) (finding : Finding) → other < INCARNATIONS → (IsNamed shape number → InFinding shape number finding)
      → InFinding shape number (if other == number.incarnation then finding else Absent)
  if_same other finding lt k = either (InFinding shape number) (other == number.incarnation) finding Absent (λ t. k (named other lt t)) (λ n. tt)

  pub find-in : (calm : Bool) (s : State) → InState shape number.coll s → InFinding shape number (find calm number.incarnation s)
  find-in calm (state.Free other stamp) f = tt
  find-in calm (state.Claimed other) f = tt
  find-in calm (state.Present other slot) f = if_same other (Stays slot) f.0 (λ n. (n, f.1))
  find-in calm (state.Frozen other slot) f = if_same other (if calm then Stays slot else Abandons slot) f.0
      (λ n. either (InFinding shape number) calm (Stays slot) (Abandons slot) (λ t. (n, f.1)) (λ u. (n, f.1)))
  find-in calm (state.Locked other slot) f = if_same other (if calm then Stays slot else Helps slot copy.Target) f.0
      (λ n. either (InFinding shape number) calm (Stays slot) (Helps slot copy.Target) (λ t. (n, f.1)) (λ u. (n, f.1, tt)))
  find-in calm (state.Removed other slot frozen locked) f = tt

  pub find_after_abandon-in : (s : State) → InState shape number.coll s → InFinding shape number (find_after_abandon number.incarnation s)
  find_after_abandon-in (state.Free other stamp) f = tt
  find_after_abandon-in (state.Claimed other) f = tt
  find_after_abandon-in (state.Present other slot) f = if_same other (Stays slot) f.0 (λ n. (n, f.1))
  find_after_abandon-in (state.Frozen other slot) f = if_same other (Stays slot) f.0 (λ n. (n, f.1))
  find_after_abandon-in (state.Locked other slot) f = if_same other (Helps slot copy.Target) f.0 (λ n. (n, f.1, tt))
  find_after_abandon-in (state.Removed other slot frozen locked) f = tt

  pub find_after_swing-in : (s : State) → InState shape number.coll s → InFinding shape number (find_after_swing number.incarnation s)
  find_after_swing-in (state.Free other stamp) f = tt
  find_after_swing-in (state.Claimed other) f = tt
  find_after_swing-in (state.Present other slot) f = if_same other (Stays slot) f.0 (λ n. (n, f.1))
  find_after_swing-in (state.Frozen other slot) f = if_same other (Stays slot) f.0 (λ n. (n, f.1))
  find_after_swing-in (state.Locked other slot) f = if_same other (Stays slot) f.0 (λ n. (n, f.1))
  find_after_swing-in (state.Removed other slot frozen locked) f = tt

-- a look-up
pub look_op : (shape : Layout) (next : LookPhase) → InLook shape next → InOp shape (look_offer next).op
look_op shape (look.Load who number) f = f.1
look_op shape (look.Abandon who number slot) f = (f.1.entry, (f.1.incarnation, f.2), (f.1.incarnation, f.2))
look_op shape (look.Help who number slot next) f = copy_op shape number slot next f.1 f.2 f.3

help-in : (shape : Layout) (number : Number) (slot : ℕ) (next : CopyPhase) (w : Word) → IsNamed shape number → IsSlot shape number.coll slot → InCopy shape number.coll next
    → InShown shape (copy_offer number slot next).op w → InFinding shape number (help_finding shape number slot next w)
help-in shape number slot copy.Target w n s f shown = (n, s, copy-next shape number slot copy.Target w f shown)
help-in shape number slot (copy.Load target field) w n s f shown = (n, s, copy-next shape number slot (copy.Load target field) w f shown)
help-in shape number slot (copy.Put target field value) w n s f shown = (n, s, copy-next shape number slot (copy.Put target field value) w f shown)
help-in shape number slot (copy.Swing target) w n s f shown =
    either (InFinding shape number) (same_word w (word.Entry (state.Locked number.incarnation slot))) (Stays target) (find_after_swing number.incarnation (state_of w))
    (λ t. (n, f)) (λ u. find_after_swing-in shape number n.entry (state_of w) (state_in shape number.coll number.entry w shown))

look_finding-in : (shape : Layout) (calm : Bool) (next : LookPhase) (w : Word) → InLook shape next → InShown shape (look_offer next).op w
    → InFinding shape (sought_number next) (look_finding shape calm next w)
look_finding-in shape calm (look.Load who number) w f shown = find-in shape number f.1 calm (state_of w) (state_in shape number.coll number.entry w shown)
look_finding-in shape calm (look.Abandon who number slot) w f shown =
    either (InFinding shape number) (same_word w (word.Entry (state.Frozen number.incarnation slot))) (Stays slot) (find_after_abandon number.incarnation (state_of w))
    (λ t. (f.1, f.2)) (λ u. find_after_abandon-in shape number f.1.entry (state_of w) (state_in shape number.coll number.entry w shown))
look_finding-in shape calm (look.Help who number slot next) w f shown = help-in shape number slot next w f.1 f.2 f.3 shown

-- a scan that passes a slot
pub passes-in : (shape : Layout) (words : List ℕ) (scan_number coll slot : ℕ) → InPhase shape words (passes shape scan_number coll slot)
passes-in shape words scan_number coll slot =
    either (InPhase shape words) (nat_lt (slot + 1) (slots_of shape coll)) (phase.Scan (scan.Directory scan_number coll (slot + 1))) (phase.Scan (scan.End scan_number))
    (λ t. ltb-true (slot + 1) (slots_of shape coll) t) (λ n. tt)

goes_in : (shape : Layout) (words : List ℕ) (next : Phase) → InPhase shape words next → InChange shape words (goes next)
goes_in shape words next f = (f, tt)

look_change-in : (shape : Layout) (words : List ℕ) (who : Seeker) (number : Number) (finding : Finding) → InSeeker shape who → InFinding shape number finding
    → InChange shape words (look_change shape who number finding)
look_change-in shape words seeker.Caller number Absent who f = (tt, tt)
look_change-in shape words seeker.Caller number (Stays slot) who f = (tt, f)
look_change-in shape words seeker.Caller number (Abandons slot) who f = ((tt, f.0, f.1), tt)
look_change-in shape words seeker.Caller number (Helps slot next) who f = ((tt, f.0, f.1, f.2), tt)
look_change-in shape words (seeker.Scan k coll place) number Absent who f = (passes-in shape words k coll place, tt)
look_change-in shape words (seeker.Scan k coll place) number (Stays slot) who f =
    either (InChange shape words) (slot == place) (visits k number slot) (goes (passes shape k coll place)) (λ t. (tt, f)) (λ n. (passes-in shape words k coll place, tt))
look_change-in shape words (seeker.Scan k coll place) number (Abandons slot) who f = ((who, f.0, f.1), tt)
look_change-in shape words (seeker.Scan k coll place) number (Helps slot next) who f = ((who, f.0, f.1, f.2), tt)

seeker_in : (shape : Layout) (next : LookPhase) → InLook shape next → InSeeker shape (seeker_of next)
seeker_in shape (look.Load who number) f = f.0
seeker_in shape (look.Abandon who number slot) f = f.0
seeker_in shape (look.Help who number slot next) f = f.0

pub looking-in : (shape : Layout) (words : List ℕ) (calm : Bool) (next : LookPhase) (w : Word) → InLook shape next → InShown shape (look_offer next).op w
    → InChange shape words (looking_change shape calm next w)
looking-in shape words calm next w f shown =
    look_change-in shape words (seeker_of next) (sought_number next) (look_finding shape calm next w) (seeker_in shape next f) (look_finding-in shape calm next w f shown)
