-- Calls that have nothing to do with epochs: no step of theirs writes the epoch or a section word, or begins an advance.
use Rattle.std.proofs.Common.{◌≡◌, ℕ, Bool, true, false, not, Option, None, List, refl, arith}
use Rattle.std.specs.Prelude.{IsTrue, if◌then◌else◌}
use Rattle.std.proofs.lemmas.Bool.Decides.{nat_tests}
use Rattle.smc_words.specs.declared.dir.Dir.{Dir}
use Rattle.smc_words.specs.declared.number.Number.{Number}
use Rattle.smc_words.specs.declared.round.RoundWord.{RoundWord}
use Rattle.smc_shape.specs.Layout.{Layout}
use Rattle.smc_shape.specs.declared.place.Place.{Place}
use Rattle.smc_shape.specs.declared.place.Place.TheVariants as place
use Rattle.smc_core.specs.declared.change.Change.{Change}
use Rattle.smc_core.specs.declared.local.Owned.{Owned}
use Rattle.smc_core.specs.declared.local.Scan.{Scan}
use Rattle.smc_core.specs.declared.op.Op.{Op}
use Rattle.smc_core.specs.declared.op.Op.TheVariants.{Load, Store, Exchange, MarkGone}
use Rattle.smc_core.specs.declared.phase.moves.BeginPhase.{BeginPhase}
use Rattle.smc_core.specs.declared.phase.moves.CancelPhase.{CancelPhase}
use Rattle.smc_core.specs.declared.phase.moves.Counting.{Counting}
use Rattle.smc_core.specs.declared.phase.moves.FinishPhase.{FinishPhase}
use Rattle.smc_core.specs.declared.phase.objects.AddPhase.{AddPhase}
use Rattle.smc_core.specs.declared.phase.objects.Finding.{Finding}
use Rattle.smc_core.specs.declared.phase.objects.LookPhase.{LookPhase}
use Rattle.smc_core.specs.declared.phase.objects.RemovePhase.{RemovePhase}
use Rattle.smc_core.specs.declared.phase.objects.ScanPhase.{ScanPhase}
use Rattle.smc_core.specs.declared.phase.objects.Seeker.{Seeker}
use Rattle.smc_core.specs.declared.word.State.{State}
use Rattle.smc_core.specs.declared.word.Word.{Word}
use Rattle.smc_core.specs.Add.{add_change, slot_seen, entry_seen}
use Rattle.smc_core.specs.Begin.{begin_change, round_seen}
use Rattle.smc_core.specs.Cancel.{cancel_change}
use Rattle.smc_core.specs.Change.{remove_started, next_started, finish_owned, cancel_owned, look_started}
use Rattle.smc_core.specs.Count.{survey_change}
use Rattle.smc_core.specs.Finish.{finish_change}
use Rattle.smc_core.specs.Look.{look_change, looking_change, look_finding, seeker_of, sought_number}
use Rattle.smc_core.specs.Remove.{remove_change}
use Rattle.smc_core.specs.Scan.{scan_change}
use Rattle.smc_rules.specs.EpochRule.{advance_from}
use Rattle.smc_rules.specs.Memory.{Memory, apply, same_place}
use Rattle.smc_rules.proofs.MirrorLaws.{apply-other}

-- whether a place is that of the epoch or of a section word
abbrev pub is_epochs : Place → Bool
is_epochs place.Epoch = true
is_epochs (place.Section pass) = true
is_epochs _ = false

-- whether an operation leaves the epoch and the section words
abbrev pub leaves : Op → Bool
leaves (Load there) = true
leaves (Store there w) = not (is_epochs there)
leaves (Exchange there expect w) = not (is_epochs there)
leaves (MarkGone coll entry) = true

apart : (there here : Place) → IsTrue (is_epochs there) → IsTrue (not (is_epochs here)) → same_place there here ≡ false
apart there here u v = grind (arith, nat_tests)

-- it leaves them as they were
pub leaves-same : (op : Op) (memory : Memory) (there : Place) → IsTrue (is_epochs there) → IsTrue (leaves op) → apply op memory there ≡ memory there
leaves-same (Load here) memory there u v = refl
leaves-same (Store here w) memory there u v = apply-other (Store here w) memory there (apart there here u v)
leaves-same (Exchange here expect w) memory there u v = apply-other (Exchange here expect w) memory there (apart there here u v)
leaves-same (MarkGone coll entry) memory there u v = apply-other (MarkGone coll entry) memory there (apart there (place.Entry coll entry) u refl)

-- no advance is in progress after it
abbrev pub Calm : Change → Type 0
Calm change = advance_from change.phase ≡ None

either_calm : (b : Bool) (x y : Change) → Calm x → Calm y → Calm (if b then x else y)
either_calm true x y h k = h
either_calm false x y h k = k

module _ (shape : Layout) where
  -- look-ups
  pub look-calm : (who : Seeker) (number : Number) (finding : Finding) → Calm (look_change shape who number finding)
  look-calm who number finding = grind arith

  pub looking-calm : (calm : Bool) (next : LookPhase) (w : Word) → Calm (looking_change shape calm next w)
  looking-calm calm next w = look-calm (seeker_of next) (sought_number next) (look_finding shape calm next w)

  pub look_started-calm : (calm : Bool) (number : Number) (w : Word) → Calm (look_started shape calm number w)
  look_started-calm calm number w = grind (arith, look-calm)

  -- adds
  pub slot_seen-calm : (epoch coll from slot tried : ℕ) (seen : Dir) → Calm (slot_seen shape epoch coll from slot tried seen)
  slot_seen-calm epoch coll from slot tried seen = grind arith

  entry_seen-calm : (epoch coll slot entry tried : ℕ) (seen : State) → Calm (entry_seen shape epoch coll slot entry tried seen)
  entry_seen-calm epoch coll slot entry tried seen = grind arith

  pub add-calm : (epoch : ℕ) (words : List ℕ) (next : AddPhase) (w : Word) → Calm (add_change shape epoch words next w)
  add-calm epoch words next w = grind (arith, slot_seen-calm, entry_seen-calm)

  -- removes
  pub remove-calm : (next : RemovePhase) → Calm (remove_change next)
  remove-calm next = grind arith

  pub remove_started-calm : (number : Number) (held : Option ℕ) (seen : State) → Calm (remove_started number held seen)
  remove_started-calm number held seen = grind arith

  -- scans
  pub scan-calm : (next : ScanPhase) (w : Word) → Calm (scan_change shape next w)
  scan-calm next w = grind arith

  pub next_started-calm : (begun : Option Scan) (w : Word) → Calm (next_started shape begun w)
  next_started-calm begun w = grind (arith, scan-calm)

  -- begins
  pub round_seen-calm : (coll : ℕ) (seen : Option RoundWord) → Calm (round_seen coll seen)
  round_seen-calm coll seen = grind arith

  pub begin-calm : (epoch : ℕ) (next : BeginPhase) (w : Word) → Calm (begin_change shape epoch next w)
  begin-calm epoch next w = grind arith

  -- finishes
  pub finish-calm : (next : FinishPhase) (w : Word) → Calm (finish_change shape next w)
  finish-calm next w = grind arith

  pub finish_owned-calm : (epoch : ℕ) (owned : Option Owned) (w : Word) → Calm (finish_owned shape epoch owned w)
  finish_owned-calm epoch owned w = grind arith

  -- cancels
  pub cancel-calm : (next : CancelPhase) (w : Word) → Calm (cancel_change shape next w)
  cancel-calm next w = grind arith

  pub cancel_owned-calm : (owned : Option Owned) (w : Word) → Calm (cancel_owned shape owned w)
  cancel_owned-calm owned w = grind arith

  -- surveys
  pub survey-calm : (counting : Counting) → Calm (survey_change counting)
  survey-calm counting = grind arith
