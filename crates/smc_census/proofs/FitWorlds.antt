-- The world of every history fits the shape: each step keeps that, with all else that every state keeps.
use Rattle.std.proofs.Common.{ℕ, List, refl, sym, subst}
use Rattle.smc_shape.specs.Layout.{Layout, IsShape}
use Rattle.smc_model.specs.World.{World}
use Rattle.smc_core.specs.declared.local.Opening.{Opening}
use Rattle.smc_core.specs.declared.word.Word.{Word}
use Rattle.smc_core.specs.Machine.{Machine, started}
use Rattle.smc_rules.specs.History.{History, history_world}
use Rattle.smc_rules.specs.Start.{FitsShape, IsStart}
use Rattle.smc_rules.specs.Memory.{seen}
use Rattle.smc_rules.specs.Mirror.{anywhere}
use Rattle.smc_rules.specs.State.{State, IsKept, stand_change, world_told}
use Rattle.smc_rules.proofs.HistoryLaws.{HoldsOf, holds_then}
use Rattle.smc_laws.proofs.Everything.{Everything, everything-kept, everything-starts}
use Rattle.smc_refine.proofs.EventLaws.{allowed}
use Rattle.smc_refine.proofs.SizeLaws.{fits-told}
use Rattle.smc_refine.proofs.WidthSteps.{width-told}

-- all that holds of a state, with a world that fits the shape
pub record EverythingFits (opening : Opening) (shape : Layout) (s : State) : Type 0 where
  pub rule : Everything opening shape s
  pub fits : FitsShape shape s.world

module _ (opening : Opening) (shape : Layout) (valid : IsShape shape) where
  -- each step keeps it
  pub everything_fits-kept : IsKept shape anywhere (EverythingFits opening shape)
  everything_fits-kept = record {
    fits = λ s pass choice o within h offers there. (everything-kept opening shape valid).fits s pass choice o within h.rule offers there;
    kept = λ s pass choice o told w within h offers shows. record {
      rule = (everything-kept opening shape valid).kept s pass choice o told w within h.rule offers shows;
      fits = subst (λ (v : Word). FitsShape shape (world_told s.world (stand_change shape pass (s.stands pass) choice told v).event)) (sym (shows refl))
          (fits-told shape s.world (stand_change shape pass (s.stands pass) choice told (seen o.op s.memory)).event
          (allowed opening shape valid s h.rule pass told choice o within offers) (width-told opening shape s h.rule pass told choice (seen o.op s.memory) within) h.fits);
    };
  }

  -- so it is of every history
  pub everything_fits-starts : (first : World) (start : List ℕ) → IsStart shape opening first start → HoldsOf shape opening (EverythingFits opening shape) (started shape start) first
  everything_fits-starts first start starts =
      let e = everything-starts opening shape valid first start starts in
      record { backs = e.backs; rule = record { rule = e.rule; fits = starts.at_rest.fits } }

  pub everything_fits-then : (first : World) (m : Machine) (h : History shape opening first m) → HoldsOf shape opening (EverythingFits opening shape) m (history_world h)
  everything_fits-then first m h = holds_then shape opening valid (EverythingFits opening shape) everything_fits-kept first m h (everything_fits-starts first h.start h.starts)
