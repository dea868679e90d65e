-- What is offered: where an offer stands behind a test, and which words the steps of a call are on.
use Rattle.std.proofs.Common.{◌≡◌, ℕ, ◌<◌, false, List, arith}
use Rattle.std.specs.Prelude.{IsTrue}
use Rattle.smc_shape.specs.Layout.{Layout}
use Rattle.smc_core.specs.declared.op.Offer.{Offer}
use Rattle.smc_core.specs.declared.op.Op.{Op}
use Rattle.smc_core.specs.declared.phase.moves.BeginPhase.{BeginPhase}
use Rattle.smc_core.specs.declared.phase.moves.BeginPhase.TheVariants as begin
use Rattle.smc_core.specs.declared.phase.moves.CancelPhase.{CancelPhase}
use Rattle.smc_core.specs.declared.phase.moves.CancelPhase.TheVariants as cancel
use Rattle.smc_core.specs.declared.phase.moves.CountPhase.{CountPhase}
use Rattle.smc_core.specs.declared.phase.moves.FinishPhase.{FinishPhase}
use Rattle.smc_core.specs.declared.phase.moves.FinishPhase.TheVariants as finish
use Rattle.smc_core.specs.declared.phase.objects.AddPhase.{AddPhase}
use Rattle.smc_core.specs.declared.phase.objects.LookPhase.{LookPhase}
use Rattle.smc_core.specs.declared.phase.objects.RemovePhase.{RemovePhase}
use Rattle.smc_core.specs.declared.phase.objects.ScanPhase.{ScanPhase}
use Rattle.smc_core.specs.declared.phase.objects.ScanPhase.TheVariants as scan
use Rattle.smc_core.specs.Add.{add_offer}
use Rattle.smc_core.specs.Begin.{begin_offer}
use Rattle.smc_core.specs.Cancel.{cancel_offer}
use Rattle.smc_core.specs.Count.{count_offer}
use Rattle.smc_core.specs.Finish.{finish_offer}
use Rattle.smc_core.specs.Look.{look_offer}
use Rattle.smc_core.specs.Remove.{remove_offer}
use Rattle.smc_core.specs.Row.{OpFits, place_of}
use Rattle.smc_core.specs.Scan.{scan_offer}
use Rattle.smc_inv_epoch.specs.Epochs.{is_first}
use Rattle.smc_inv_epoch.proofs.Quiet as Q

-- steps that are on no place of the epoch, the round or a section
pub look-far : (next : LookPhase) → is_first (place_of (look_offer next).op) ≡ false
look-far next = grind arith

pub add-far : (words : List ℕ) (next : AddPhase) → is_first (place_of (add_offer words next).op) ≡ false
add-far words next = grind arith

pub remove-far : (epoch : ℕ) (next : RemovePhase) → is_first (place_of (remove_offer epoch next).op) ≡ false
remove-far epoch next = grind arith

pub count-far : (next : CountPhase) → is_first (place_of (count_offer next).op) ≡ false
count-far next = grind arith

pub far-leaves : (op : Op) → is_first (place_of op) ≡ false → IsTrue (Q.leaves op)
far-leaves op e = grind arith

pub scan-leaves : (pass : ℕ) (next : ScanPhase) → IsTrue (Q.leaves (scan_offer pass next).op)
scan-leaves pass next = grind arith

pub begin-leaves : (epoch : ℕ) (next : BeginPhase) → IsTrue (Q.leaves (begin_offer epoch next).op)
begin-leaves epoch next = grind arith

pub finish-leaves : (epoch : ℕ) (next : FinishPhase) → IsTrue (Q.leaves (finish_offer epoch next).op)
finish-leaves epoch next = grind arith

pub cancel-leaves : (epoch : ℕ) (next : CancelPhase) → IsTrue (Q.leaves (cancel_offer epoch next).op)
cancel-leaves epoch next = grind arith

module _ (shape : Layout) where
  -- the operation fits where it is on such a place
  abbrev pub Fits : Offer → Type 0
  Fits o = IsTrue (is_first (place_of o.op)) → OpFits shape o.op

  pub scan-fits : (pass : ℕ) → pass < shape.passes → (next : ScanPhase) → Fits (scan_offer pass next)
  scan-fits pass within (scan.End number) u = within
  scan-fits pass within (scan.Directory number coll slot) u = cc
  scan-fits pass within (scan.Back number coll slot) u = cc

  pub begin-fits : (epoch : ℕ) (next : BeginPhase) → Fits (begin_offer epoch next)
  begin-fits epoch (begin.Nothing coll) u = (tt, tt)
  begin-fits epoch (begin.Count next) u = let far = count-far next in cc
  begin-fits epoch _ u = cc

  pub finish-fits : (epoch : ℕ) (next : FinishPhase) → Fits (finish_offer epoch next)
  finish-fits epoch (finish.End targets) u = (tt, tt)
  finish-fits epoch (finish.Move targets number source next) u = grind (arith, u)
  finish-fits epoch _ u = cc

  pub cancel-fits : (epoch : ℕ) (next : CancelPhase) → Fits (cancel_offer epoch next)
  cancel-fits epoch cancel.End u = (tt, tt)
  cancel-fits epoch _ u = cc
