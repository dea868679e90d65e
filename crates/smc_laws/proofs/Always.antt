-- What follows from what every state keeps holds always.
use Rattle.std.proofs.Common.{◌≡◌, true, Option, Some, None, refl}
use Rattle.std.specs.Prelude.{IsSomeAnd, is_some}
use Rattle.smc_shape.specs.Layout.{Layout, IsShape}
use Rattle.smc_model.specs.World.{empty_world}
use Rattle.smc_core.specs.declared.local.Opening.{Opening}
use Rattle.smc_core.specs.Machine.{Machine, IsOpening, Reach}
use Rattle.smc_core.specs.Played.{Schedule, shape_of, opening_row, played}
use Rattle.smc_rules.specs.History.{History, HoldsAlways, history_state}
use Rattle.smc_rules.specs.State.{State}
use Rattle.smc_inv_epoch.specs.Epochs.{opening_of}
use Rattle.smc_inv_epoch.proofs.Openings.{schedule-history}
use Rattle.smc_laws.specs.Laws.{AllRules, HoldAfter}
use Rattle.smc_laws.proofs.Everything.{Everything, everything-then}
use Rattle.smc_laws.proofs.MoveLaws.{relocation_rule}
use Rattle.smc_laws.proofs.SlotLaws.{slot_rule}

pub always : (Rule : Layout → Opening → State → Type 0) → ((opening : Opening) (shape : Layout) (s : State) → Everything opening shape s → Rule shape opening s) → HoldsAlways Rule
always Rule follows shape opening first m valid h = follows opening shape (history_state h) (everything-then opening shape valid first m h).rule

pub all_rules : (opening : Opening) (shape : Layout) (s : State) → Everything opening shape s → AllRules shape opening s
all_rules opening shape s e = record { epochs = e.whole.rounds.epochs.rule; slots = slot_rule opening shape s e; moves = relocation_rule opening shape s e }

-- a schedule that can be played leads to where the rules hold
pub rules-played : ((s : Schedule) (m : Machine) → played s ≡ Some m → Reach (shape_of s) (opening_row s) m.row m.locals)
    → (s : Schedule) → IsShape (shape_of s) → IsOpening (opening_of s) → is_some (played s) ≡ true → HoldAfter s
rules-played reached s valid o some = go (played s) refl some
  where
    history : (m : Machine) → played s ≡ Some m → History (shape_of s) (opening_of s) empty_world m
    history m e = schedule-history s valid o m (reached s m e)

    go : (m : Option Machine) → played s ≡ m → is_some m ≡ true
        → IsSomeAnd m (λ k. (h : History (shape_of s) (opening_of s) empty_world k) × AllRules (shape_of s) (opening_of s) (history_state h))
    go None e some = absurd (cc)
    go (Some m) e some = (history m e, always (λ shape opening s. AllRules shape opening s) all_rules (shape_of s) (opening_of s) empty_world m valid (history m e))
