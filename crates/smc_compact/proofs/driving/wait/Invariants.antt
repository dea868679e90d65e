use Rattle.std.proofs.Common.{◌≡◌, ◌+◌, ◌-◌, ◌≤◌, ◌<◌, Some, List, length}
use Rattle.std.specs.Prelude.{flat_map}
use Rattle.smc_core.specs.declared.done.Done.{Done}
use Rattle.smc_core.specs.declared.section.TheConstants.{LAST_EPOCH}
use Rattle.smc_region.specs.Callers.{IsPassOf, IsSame}
use Rattle.smc_region.specs.Named.{latest}
use Rattle.smc_compact.specs.declared.outcome.Waiting.TheVariants as waiting
use Rattle.smc_trace.specs.Named.{advances}
use Rattle.smc_does.specs.Does.{Does}
use Rattle.smc_compact.specs.Calls.{Keeps}
use Rattle.smc_compact.specs.Paces.{IsFor, pace}
use Rattle.smc_compact.specs.Waits.{waiting_by}
use Rattle.smc_compact.proofs.driving.wait.Given as goal

-- the advances so far have these answers
abbrev pub invariant-turns : goal.invariant-turns
invariant-turns l = record {
  here : IsPassOf l.region l.p;
  same : IsSame l.fn.p l.p;
  some : 0 < l.left;
  answers : List Done;
  is : waiting_by l.fn.until l.turns answers ≡ Some (waiting.GoesOn l.now l.left);
  stays : IsFor l.fn.until l.now;
  does : Does l.fn.p l.p (flat_map advances answers);
  keeps : Keeps l.fn.p.local l.p.local;
  round : l.p.local.stand.round ≡ l.fn.p.local.stand.round;
  few : length answers + l.left + pace l.now (latest l.p.local.answers) ≤ l.turns + pace l.fn.until (latest l.fn.p.local.answers);
}

abbrev pub decreases-turns : goal.decreases-turns
decreases-turns l = l.left + (LAST_EPOCH + 1 - latest l.p.local.answers)
