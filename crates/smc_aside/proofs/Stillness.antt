-- While a pass works alone, a step of another one is a load, or moves the epoch on.
use Rattle.std.proofs.Common.{◌≡◌, ℕ, ◌+◌, ◌≤◌, ◌==◌, Bool, true, false, Option, None, refl, ap, ◌∙◌, arith}
use Rattle.std.specs.Prelude.{◌||◌, IfSome, IsTrue, if◌then◌else◌}
use Rattle.std.proofs.lemmas.Bool.{cond_both}
use Rattle.smc_shape.specs.Layout.{Layout}
use Rattle.smc_shape.specs.declared.place.Place.{Place}
use Rattle.smc_shape.specs.declared.place.Place.TheVariants as place
use Rattle.smc_model.specs.declared.event.Event.{Event}
use Rattle.smc_core.specs.declared.call.Call.TheVariants as call
use Rattle.smc_core.specs.declared.call.Choice.{Choice}
use Rattle.smc_core.specs.declared.call.Choice.TheVariants.{Start, Go}
use Rattle.smc_core.specs.declared.done.Done.TheVariants as done
use Rattle.smc_core.specs.declared.op.Op.{Op}
use Rattle.smc_core.specs.declared.op.Op.TheVariants.{Load, Exchange}
use Rattle.smc_core.specs.declared.local.Stand.{Stand}
use Rattle.smc_core.specs.declared.phase.Phase.{Phase}
use Rattle.smc_core.specs.declared.phase.Phase.TheVariants as phase
use Rattle.smc_core.specs.declared.section.Section.{Section}
use Rattle.smc_core.specs.declared.section.Section.TheVariants.{Outside}
use Rattle.smc_core.specs.declared.section.TheConstants.{LAST_EPOCH}
use Rattle.smc_core.specs.declared.word.Word.{Word}
use Rattle.smc_core.specs.declared.word.Word.TheVariants as word
use Rattle.smc_core.specs.Change.{change, section_seen, advance_next}
use Rattle.smc_core.specs.Offer.{offer}
use Rattle.smc_core.specs.Step.{goes, ends}
use Rattle.smc_core.specs.Words.{plain_of, dir_of, state_of, same_word}
use Rattle.smc_rules.specs.Memory.{Memory, apply, put_word}
use Rattle.smc_rules.specs.Reads.{epoch_of_region, state_in, dir_in}
use Rattle.smc_rules.proofs.MirrorLaws.{same_word-eq}
use Rattle.smc_aside.specs.Aside.{IsResting, IsAsideChoice}

-- what a place says stays, unless it is the epoch's or a section's
abbrev pub is_still : Place → Bool
is_still place.Epoch = false
is_still (place.Section pass) = false
is_still _ = true

-- what such places said before they say after it
abbrev pub Still : Memory → Memory → Type 0
Still before after = (there : Place) → IsTrue (is_still there) → after there ≡ before there

-- so they are after two such stretches
pub still-trans : (first middle last : Memory) → Still first middle → Still middle last → Still first last
still-trans first middle last one two there is = two there is ∙ one there is

-- entries and directory words are such
pub still-state : (before after : Memory) → Still before after → (c e : ℕ) → state_in after c e ≡ state_in before c e
still-state before after still c e = ap state_of (still (place.Entry c e) refl)

pub still-dir : (before after : Memory) → Still before after → (c slot : ℕ) → dir_in after c slot ≡ dir_in before c slot
still-dir before after still c slot = ap dir_of (still (place.Directory c slot) refl)

-- an operation of one that stands aside
abbrev pub IsQuiet : Op → Type 0
IsQuiet (Load there) = Unit {0}
IsQuiet (Exchange place.Epoch (word.Plain from) (word.Plain to)) = from ≤ to
IsQuiet _ = ⊥

-- the word at the epoch's place is not that of another one
put-still : (memory : Memory) (w : Word) (there : Place) → IsTrue (is_still there) → put_word memory place.Epoch w there ≡ memory there
put-still memory w place.Epoch is = absurd (cc)
put-still memory w (place.Section pass) is = absurd (cc)
put-still memory w place.Round is = refl
put-still memory w (place.Entry c e) is = refl
put-still memory w (place.Directory c s) is = refl
put-still memory w (place.Back c s) is = refl
put-still memory w (place.Forward c s) is = refl
put-still memory w (place.Field c s f) is = refl

-- it leaves all such places
pub quiet-still : (before memory : Memory) (op : Op) → IsQuiet op → Still before memory → Still before (apply op memory)
quiet-still before memory (Load here) quiet still = still
quiet-still before memory (Exchange place.Epoch (word.Plain from) (word.Plain to)) quiet still =
    λ there is. put-still memory (if same_word (memory place.Epoch) (word.Plain from) then word.Plain to else memory place.Epoch) there is ∙ still there is
quiet-still before memory _ quiet still = absurd quiet

-- the epoch does not fall
pub quiet-epoch : (memory : Memory) (op : Op) → IsQuiet op → epoch_of_region memory ≤ epoch_of_region (apply op memory)
quiet-epoch memory (Load here) quiet = omega arith
quiet-epoch memory (Exchange place.Epoch (word.Plain from) (word.Plain to)) quiet =
    cond_both (same_word (memory place.Epoch) (word.Plain from)) (word.Plain to) (memory place.Epoch) (λ w. epoch_of_region memory ≤ plain_of w)
    (λ t. let is : epoch_of_region memory ≡ from = ap plain_of (same_word-eq (memory place.Epoch) (word.Plain from) t) in omega (arith, quiet))
    (λ n. omega arith)
quiet-epoch memory _ quiet = absurd quiet

-- what a step of one that stands aside does
pub record IsQuietStep (op : Op) (event : Option Event) : Type 0 where
  pub quiet : IsQuiet op
  pub silent : event ≡ None

module _ (shape : Layout) (other : ℕ) (stand : Stand) (told : ℕ) where
  -- an advance tells of nothing
  section-silent : (from next seen : ℕ) → (section_seen shape from next seen).event ≡ None
  section-silent from next seen = cond_both (seen == 0 || seen == from) (goes (advance_next shape from (next + 1))) (ends (done.NotYet next seen)) (λ c. c.event ≡ None) (λ t. refl) (λ n. refl)

  -- each step that it offers is quiet
  pub quiet_step : (section : Section) (next : Phase) (choice : Choice) → section ≡ Outside → IsResting next → IsAsideChoice choice
      → IfSome (offer shape other stand section next choice) (λ o. (w : Word) → IsQuietStep o.op (change shape other stand section next choice told w).event)
  quiet_step section phase.Idle Go out rest may = tt
  quiet_step section (phase.Advancing from next) Go out rest may = λ w. record { quiet = tt; silent = section-silent from next (plain_of w) }
  quiet_step section (phase.Ready from) Go out rest may = λ w. record {
    quiet = omega arith;
    silent = cond_both (plain_of w == from) (ends (done.Advanced (from + 1))) (ends (done.Overtaken (plain_of w))) (λ c. c.event ≡ None) (λ t. refl) (λ n. refl);
  }
  quiet_step section phase.Idle (Start call.Note) out rest may = elim section as (λ x. IfSome (offer shape other stand x phase.Idle (Start call.Note)) (λ o. (w : Word) → IsQuietStep o.op (change shape other stand x phase.Idle (Start call.Note) told w).event)) [
    | Outside ↦ λ w. record { quiet = tt; silent = refl }
    | _ ↦ tt
  ]
  quiet_step section phase.Idle (Start call.Advance) out rest may = elim section as (λ x. IfSome (offer shape other stand x phase.Idle (Start call.Advance)) (λ o. (w : Word) → IsQuietStep o.op (change shape other stand x phase.Idle (Start call.Advance) told w).event)) [
    | Outside ↦ λ w. record {
      quiet = tt;
      silent = cond_both (plain_of w == LAST_EPOCH) (ends done.Spent) (goes (advance_next shape (plain_of w) 0)) (λ c. c.event ≡ None) (λ t. refl) (λ n. refl);
    }
    | _ ↦ tt
  ]
  quiet_step section (phase.Advancing from next) (Start c) out rest may = tt
  quiet_step section (phase.Ready from) (Start c) out rest may = tt
  quiet_step section phase.Idle (Start c) out rest may = absurd may
  quiet_step section next choice out rest may = absurd rest
