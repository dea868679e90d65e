-- All that is known of a state: what every state keeps, the users of its slots, and that its world fits the shape.
use Rattle.smc_shape.specs.Layout.{Layout, IsShape}
use Rattle.smc_core.specs.declared.local.Opening.{Opening}
use Rattle.smc_core.specs.Machine.{Machine}
use Rattle.smc_rules.specs.History.{History, history_world}
use Rattle.smc_model.specs.World.{World}
use Rattle.smc_rules.specs.Mirror.{anywhere}
use Rattle.smc_rules.specs.State.{State, IsKept}
use Rattle.smc_rules.proofs.HistoryLaws.{HoldsOf, holds_then}
use Rattle.smc_aside.proofs.Waiting.{TellsEpochs}
use Rattle.smc_laws.proofs.Everything.{Everything, everything-kept}
use Rattle.smc_inv_use.specs.Uses.{UsesAgree}
use Rattle.smc_inv_use.proofs.EpochsTold.{tells-epochs}
use Rattle.smc_inv_use.proofs.Used.{used-kept, used-starts}
use Rattle.smc_census.proofs.FitWorlds.{everything_fits-kept, everything_fits-starts}
use Rattle.smc_rules.specs.Start.{FitsShape}

-- all of it
pub record Known (opening : Opening) (shape : Layout) (s : State) : Type 0 where
  pub all : Everything opening shape s
  pub uses : UsesAgree shape s
  pub fits : FitsShape shape s.world

module _ (opening : Opening) (shape : Layout) (valid : IsShape shape) where
  -- each step keeps it
  pub known-kept : IsKept shape anywhere (Known opening shape)
  known-kept = record {
    fits = λ s pass choice o within h offers there. (everything-kept opening shape valid).fits s pass choice o within h.all offers there;
    kept = λ s pass choice o told w within h offers shows. record {
      all = (everything-kept opening shape valid).kept s pass choice o told w within h.all offers shows;
      uses = ((used-kept opening shape valid).kept s pass choice o told w within (record { everything = h.all; uses = h.uses }) offers shows).uses;
      fits = ((everything_fits-kept opening shape valid).kept s pass choice o told w within (record { rule = h.all; fits = h.fits }) offers shows).fits;
    };
  }

  -- so it is of every history
  pub known-then : (first : World) (m : Machine) (h : History shape opening first m) → HoldsOf shape opening (Known opening shape) m (history_world h)
  known-then first m h =
      let u = used-starts opening shape valid first h.start h.starts in
      let f = everything_fits-starts opening shape valid first h.start h.starts in
      holds_then shape opening valid (Known opening shape) known-kept first m h (record { backs = u.backs; rule = record { all = u.rule.everything; uses = u.rule.uses; fits = f.rule.fits } })

-- and it tells of epochs
pub known-epochs : (opening : Opening) (shape : Layout) (s : State) → Known opening shape s → TellsEpochs shape s
known-epochs opening shape s k = tells-epochs opening shape s k.all
