-- Calls that have nothing to do with rounds: no step of theirs leads into a call of a round's owner.
use Rattle.std.proofs.Common.{◌≡◌, ℕ, ◌≤◌, ◌==◌, Bool, true, false, Option, Some, List, arith}
use Rattle.std.specs.Prelude.{if◌then◌else◌}
use Rattle.std.proofs.lemmas.Bool.Decides.{nat_tests}
use Rattle.smc_words.specs.declared.dir.Dir.{Dir}
use Rattle.smc_words.specs.declared.number.Number.{Number}
use Rattle.smc_words.specs.declared.round.RoundWord.{RoundWord}
use Rattle.smc_shape.specs.Layout.{Layout}
use Rattle.smc_core.specs.declared.change.Change.{Change}
use Rattle.smc_core.specs.declared.done.Done.TheVariants as done
use Rattle.smc_core.specs.declared.local.Scan.{Scan}
use Rattle.smc_core.specs.declared.phase.moves.Counting.{Counting}
use Rattle.smc_core.specs.declared.phase.objects.AddPhase.{AddPhase}
use Rattle.smc_core.specs.declared.phase.objects.Finding.{Finding}
use Rattle.smc_core.specs.declared.phase.objects.LookPhase.{LookPhase}
use Rattle.smc_core.specs.declared.phase.objects.RemovePhase.{RemovePhase}
use Rattle.smc_core.specs.declared.phase.objects.ScanPhase.{ScanPhase}
use Rattle.smc_core.specs.declared.phase.objects.Seeker.{Seeker}
use Rattle.smc_core.specs.declared.section.Section.TheVariants.{Inside}
use Rattle.smc_core.specs.declared.section.TheConstants.{LAST_EPOCH}
use Rattle.smc_core.specs.declared.word.State.{State}
use Rattle.smc_core.specs.declared.word.Word.{Word}
use Rattle.smc_core.specs.Add.{add_change, slot_seen, entry_seen}
use Rattle.smc_core.specs.Change.{remove_started, next_started, look_started, advance_next, section_seen, ready_seen}
use Rattle.smc_core.specs.Count.{survey_change}
use Rattle.smc_core.specs.Look.{look_change, looking_change, look_finding, seeker_of, sought_number}
use Rattle.smc_core.specs.Remove.{remove_change}
use Rattle.smc_core.specs.Scan.{scan_change}
use Rattle.smc_core.specs.Section.{calm_by}
use Rattle.smc_core.specs.Step.{goes, ends}
use Rattle.smc_core.specs.Words.{plain_of}
use Rattle.smc_rules.specs.RoundAgreement.{is_owners}

-- no call of a round's owner is in progress after it
abbrev pub Strange : Change → Type 0
Strange change = is_owners change.phase ≡ false

-- a section that knows that it is calm, by a round, is not past its bound
pub calm-bound : (own s : ℕ) (round : RoundWord) → Inside own (calm_by own (Some round)) ≡ Inside s true → s ≤ round.bound
calm-bound own s round e = grind (arith, nat_tests, e)

module _ (shape : Layout) where
  advance-strange : (from other : ℕ) → Strange (goes (advance_next shape from other))
  advance-strange from other = grind arith

  pub advancing-strange : (from other : ℕ) (w : Word) → Strange (section_seen shape from other (plain_of w))
  advancing-strange from other w = grind (arith, advance-strange)

  pub advance_started-strange : (epoch : ℕ) → Strange (if epoch == LAST_EPOCH then ends done.Spent else goes (advance_next shape epoch 0))
  advance_started-strange epoch = grind (arith, advance-strange)

  pub look-strange : (who : Seeker) (number : Number) (finding : Finding) → Strange (look_change shape who number finding)
  look-strange who number finding = grind arith

  pub looking-strange : (calm : Bool) (next : LookPhase) (w : Word) → Strange (looking_change shape calm next w)
  looking-strange calm next w = look-strange (seeker_of next) (sought_number next) (look_finding shape calm next w)

  pub look_started-strange : (calm : Bool) (number : Number) (w : Word) → Strange (look_started shape calm number w)
  look_started-strange calm number w = grind (arith, look-strange)

  pub slot_seen-strange : (epoch coll from slot tried : ℕ) (seen : Dir) → Strange (slot_seen shape epoch coll from slot tried seen)
  slot_seen-strange epoch coll from slot tried seen = grind arith

  entry_seen-strange : (epoch coll slot entry tried : ℕ) (seen : State) → Strange (entry_seen shape epoch coll slot entry tried seen)
  entry_seen-strange epoch coll slot entry tried seen = grind arith

  pub add-strange : (epoch : ℕ) (words : List ℕ) (next : AddPhase) (w : Word) → Strange (add_change shape epoch words next w)
  add-strange epoch words next w = grind (arith, slot_seen-strange, entry_seen-strange)

  pub scan-strange : (next : ScanPhase) (w : Word) → Strange (scan_change shape next w)
  scan-strange next w = grind arith

  pub next_started-strange : (begun : Option Scan) (w : Word) → Strange (next_started shape begun w)
  next_started-strange begun w = grind (arith, scan-strange)

pub ready-strange : (from : ℕ) (w : Word) → Strange (ready_seen from (plain_of w))
ready-strange from w = grind arith

pub remove-strange : (next : RemovePhase) → Strange (remove_change next)
remove-strange next = grind arith

pub remove_started-strange : (number : Number) (held : Option ℕ) (seen : State) → Strange (remove_started number held seen)
remove_started-strange number held seen = grind arith

pub survey-strange : (counting : Counting) → Strange (survey_change counting)
survey-strange counting = grind arith
