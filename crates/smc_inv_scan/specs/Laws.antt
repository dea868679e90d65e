-- What each step keeps of scans.
use Rattle.std.specs.Prelude.{◌≡◌, ℕ, ◌<◌, Some}
use Rattle.smc_shape.specs.Layout.{Layout}
use Rattle.smc_core.specs.declared.call.Choice.{Choice}
use Rattle.smc_core.specs.declared.op.Offer.{Offer}
use Rattle.smc_model.specs.World.{World}
use Rattle.smc_rules.specs.Memory.{Memory, seen}
use Rattle.smc_rules.specs.Start.{starting}
use Rattle.smc_rules.specs.RelocationRule.{PassedTarget}
use Rattle.smc_rules.specs.State.{State, stand_offer, stand_change, state_after}
use Rattle.smc_inv_epoch.specs.Rounds.{Rounds}
use Rattle.smc_inv_range.specs.Calls.{Ranges}
use Rattle.smc_agreement.specs.Agreement.{Agreement}
use Rattle.smc_inv_scan.specs.Marks.{Marks, MarksAgree, IsHere, no_marks, marks_told, put_marks, FitsMarks}
use Rattle.smc_inv_scan.specs.Scans.{ScansAgree}

-- each step of each kind keeps what the scans agree on, in a state that keeps the ranges, the rounds and the agreement
abbrev pub ScansAreKept : Type 0
ScansAreKept = (shape : Layout) (state : State) (pass : ℕ) (choice : Choice) (offered : Offer) (told : ℕ) → pass < shape.passes
    → Ranges shape state → Rounds shape state → Agreement shape state → ScansAgree shape state
    → stand_offer shape pass (state.stands pass) choice ≡ Some offered
    → ScansAgree shape (state_after shape state pass choice told offered.op (seen offered.op state.memory))

-- a state in which no pass has done anything agrees on its scans, as it has none
abbrev pub ScansBegin : Type 0
ScansBegin = (shape : Layout) (memory : Memory) (world : World) → ScansAgree shape (starting shape memory world)

-- in a state that agrees on its scans the part of the relocation rule on passed targets holds
abbrev pub TargetsArePassed : Type 0
TargetsArePassed = (shape : Layout) (state : State) → Ranges shape state → Rounds shape state → Agreement shape state → ScansAgree shape state
    → PassedTarget shape state

-- each step keeps what marks say, where the event of the step is told them, in a state that keeps the rest
abbrev pub MarksAreKept : Type 0
MarksAreKept = (shape : Layout) (state : State) (marks : ℕ → Marks) (pass : ℕ) (choice : Choice) (offered : Offer) (told : ℕ) → pass < shape.passes
    → Ranges shape state → Rounds shape state → Agreement shape state → ScansAgree shape state → IsHere state → MarksAgree shape state marks
    → stand_offer shape pass (state.stands pass) choice ≡ Some offered
    → MarksAgree shape (state_after shape state pass choice told offered.op (seen offered.op state.memory))
    (put_marks marks pass (marks_told state.world (marks pass) (stand_change shape pass (state.stands pass) choice told (seen offered.op state.memory)).event))

-- a region begins without marks
abbrev pub MarksBegin : Type 0
MarksBegin = (shape : Layout) (memory : Memory) (world : World) → MarksAgree shape (starting shape memory world) no_marks

-- the event of each step fits the marks: a visit is the first one of an object that is present, and a scan that ends has
-- visited what it should
abbrev pub EventsFitMarks : Type 0
EventsFitMarks = (shape : Layout) (state : State) (marks : ℕ → Marks) (pass : ℕ) (choice : Choice) (offered : Offer) (told : ℕ) → pass < shape.passes
    → Ranges shape state → Rounds shape state → Agreement shape state → ScansAgree shape state → IsHere state → MarksAgree shape state marks
    → stand_offer shape pass (state.stands pass) choice ≡ Some offered
    → FitsMarks shape state marks pass (stand_change shape pass (state.stands pass) choice told (seen offered.op state.memory)).event
