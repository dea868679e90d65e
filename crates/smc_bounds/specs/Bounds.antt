-- How many steps of its own each call takes at most, whatever the other passes do meanwhile.
use Rattle.std.specs.Prelude.{◌≡◌, ◌⊎◌, ℕ, ◌+◌, ◌-◌, ◌*◌, ◌<◌, ◌≤◌, IsTrue, Option, Some, None, List, ◌∷◌, replicate, slice_get, is_some, if◌then◌else◌}
use Rattle.smc_words.specs.declared.number.Number.{Number}
use Rattle.smc_shape.specs.Layout.{Layout, IsShape, slots_of, entries_of, width_of}
use Rattle.smc_shape.specs.declared.place.Place.TheVariants as place
use Rattle.smc_core.specs.declared.call.Call.{Call}
use Rattle.smc_core.specs.declared.call.Call.TheVariants as call
use Rattle.smc_core.specs.declared.call.Choice.{Choice}
use Rattle.smc_core.specs.declared.call.Choice.TheVariants.{Start, Go}
use Rattle.smc_core.specs.declared.local.Local.{Local}
use Rattle.smc_core.specs.declared.local.Opening.{Opening}
use Rattle.smc_core.specs.declared.local.Owned.{Owned}
use Rattle.smc_core.specs.declared.local.Scan.{Scan}
use Rattle.smc_core.specs.declared.local.Stand.{Stand}
use Rattle.smc_core.specs.declared.phase.Phase.TheVariants.{Idle}
use Rattle.smc_model.specs.World.{World}
use Rattle.smc_rules.specs.History.{History}
use Rattle.smc_core.specs.Machine.{Machine, Leads, local_offer}
use Rattle.smc_core.specs.Row.{has_place}
use Rattle.smc_core.specs.Scan.{scan_of}
use Rattle.smc_aside.specs.Makes.{own_choices}

-- a look-up: the entry, an abandoning, and a move that is helped; one step where the region has no such entry
abbrev pub look_steps : Layout → Number → ℕ
look_steps shape number = if has_place shape (place.Entry number.coll number.entry) then 4 + 2 * width_of shape number.coll else 1

-- an add: each slot and each entry is loaded and exchanged; then the slot is given back, or the record stored, and both
-- count here
abbrev pub add_steps : Layout → ℕ → ℕ
add_steps shape coll = 2 * slots_of shape coll + 2 * entries_of shape coll + width_of shape coll + 4

-- what a scan has left: two words and a look-up for each slot that it has not passed, and its end
abbrev pub scan_steps : Layout → Scan → ℕ
scan_steps shape begun = 1 + (slots_of shape begun.coll - begun.place) * (6 + 2 * width_of shape begun.coll)

-- going on with a scan
abbrev pub next_steps : Layout → Option Scan → ℕ
next_steps shape None = 0
next_steps shape (Some begun) = scan_steps shape begun

-- a finish of the round that the pass owns
abbrev pub finish_steps : Layout → Option Owned → ℕ
finish_steps shape None = 0
finish_steps shape (Some owned) = 1 + slots_of shape owned.coll * (2 * width_of shape owned.coll + 8)

-- a cancel of it
abbrev pub cancel_steps : Layout → Option Owned → ℕ
cancel_steps shape None = 0
cancel_steps shape (Some owned) = 1 + 5 * slots_of shape owned.coll

-- the steps of a call that starts where the pass stands here, at most
abbrev pub most_steps : Layout → Stand → Call → ℕ
most_steps shape stand call.Enter = 5
most_steps shape stand call.Leave = 1
most_steps shape stand call.Advance = shape.passes + 2
most_steps shape stand (call.Add coll from words) = add_steps shape coll
most_steps shape stand (call.Look number) = look_steps shape number
most_steps shape stand (call.Read number field) = 1
most_steps shape stand (call.Write number field value) = 1
most_steps shape stand (call.Remove number) = 3
most_steps shape stand (call.Scan coll) = 1
most_steps shape stand (call.Next scan) = next_steps shape (scan_of stand.scans scan)
most_steps shape stand (call.Begin coll) = 2 + slots_of shape coll * (width_of shape coll + 13)
most_steps shape stand call.Finish = finish_steps shape stand.round
most_steps shape stand call.Cancel = cancel_steps shape stand.round
most_steps shape stand (call.Survey coll) = 3 * slots_of shape coll
most_steps shape stand call.Note = 1
most_steps shape stand (call.Learn other note) = 1

-- the pass has taken at most so many steps; its call has ended, or its next step is offered and is one of these
pub record IsWithin (shape : Layout) (pass : ℕ) (first now : Local) (most : ℕ) : Type 0 where
  pub few : now.steps ≤ first.steps + most
  pub ends : (now.stand.phase ≡ Idle) ⊎ (IsTrue (is_some (local_offer shape pass now Go)) × (now.steps < first.steps + most))

-- where a pass of a reachable state starts a call and goes on with it, it is within the call's bound after each list of
-- steps, whatever the other passes do in between; so the call has ended where all of the bound is taken
abbrev pub CallsAreBounded : Type 0
CallsAreBounded = (shape : Layout) (opening : Opening) (world : World) (m last : Machine) (steps : List (ℕ × Choice)) (pass more : ℕ) (started : Call) (first now : Local)
    → IsShape shape → History shape opening world m
    → Leads shape m steps last → own_choices pass steps ≡ Start started ∷ replicate more Go
    → slice_get m.locals pass ≡ Some first → slice_get last.locals pass ≡ Some now
    → IsWithin shape pass first now (most_steps shape first.stand started)
