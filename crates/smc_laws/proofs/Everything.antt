-- All parts together, kept by each step, and so after every list of steps.
use Rattle.std.proofs.Common.{◌≡◌, ℕ, ◌<◌, List, Some, refl, sym, subst}
use Rattle.smc_shape.specs.Layout.{Layout, IsShape}
use Rattle.smc_model.specs.World.{World}
use Rattle.smc_core.specs.declared.call.Choice.{Choice}
use Rattle.smc_core.specs.declared.local.Opening.{Opening}
use Rattle.smc_core.specs.declared.op.Offer.{Offer}
use Rattle.smc_core.specs.declared.word.Word.{Word}
use Rattle.smc_core.specs.Machine.{Machine, started}
use Rattle.smc_rules.specs.History.{History, history_world}
use Rattle.smc_rules.specs.Start.{IsStart, memory_behind, starting}
use Rattle.smc_rules.specs.Memory.{Memory, seen}
use Rattle.smc_rules.specs.Mirror.{anywhere}
use Rattle.smc_rules.specs.State.{State, IsKept, stand_offer, state_after}
use Rattle.smc_rules.proofs.HistoryLaws.{HoldsOf, at_first, holds_then}
use Rattle.smc_inv_epoch.proofs.RoundLaws.{rounds-kept, rounds-starting}
use Rattle.smc_inv_range.proofs.ReachLaws.{ranges_kept, ranges_starting}
use Rattle.smc_agreement.specs.Agreement.{CallsAgree, CopiesAgree, ClaimsAgree, ObjectsAgree, MovesAgree}
use Rattle.smc_agreement.specs.Kept.{Agrees, Nothing}
use Rattle.smc_agreement.specs.Records.{RecordsAgree}
use Rattle.smc_agreement.proofs.Begun.{agreement-first, records-first}
use Rattle.smc_agreement.proofs.EachKind.{EachKind, each_step}
use Rattle.smc_agreement.proofs.Whole.{Shut, shut}
use Rattle.smc_inv_move.proofs.EachCalls.{calls-each}
use Rattle.smc_inv_move.proofs.EachCopies.{copies-each}
use Rattle.smc_inv_move.proofs.EachMoves.{moves-each}
use Rattle.smc_inv_scan.specs.Scans.{ScansAgree}
use Rattle.smc_inv_scan.proofs.StepLaws.{scans_kept}
use Rattle.smc_inv_scan.proofs.Targets.{first_scans}
use Rattle.smc_inv_slot.proofs.EachClaims.{claims-each}
use Rattle.smc_inv_slot.proofs.EachObjects.{objects-each}
use Rattle.smc_inv_slot.proofs.EachRecords.{records-each}

-- the ranges, the epoch rule with the round word's, and the agreement, of words, calls, fields, records and scans
pub record Everything (opening : Opening) (shape : Layout) (s : State) : Type 0 where
  pub whole : Agrees shape s
  pub records : RecordsAgree opening.incarnation shape s
  pub scans : ScansAgree shape s

module _ (opening : Opening) (shape : Layout) (valid : IsShape shape) where
  module _ (s : State) (h : Everything opening shape s) (pass : ℕ) (within : pass < shape.passes) (choice : Choice) (o : Offer) (told : ℕ)
      (offers : stand_offer shape pass (s.stands pass) choice ≡ Some o) where
    closed : Shut shape s
    closed = shut h.whole

    -- the state after the step
    abbrev after : State
    after = state_after shape s pass choice told o.op (seen o.op s.memory)

    -- a part that is kept by each kind of step
    part : (P : Layout → State → Type 0) → EachKind Nothing P → P shape after
    part P each = each_step Nothing P each shape s closed tt pass within choice o told offers

    everything_after : Everything opening shape after
    everything_after = record {
      whole = record {
        ranges = (ranges_kept shape valid).kept s pass choice o told (seen o.op s.memory) within h.whole.ranges offers (λ u. refl);
        rounds = (rounds-kept shape valid).kept s pass choice o told (seen o.op s.memory) within h.whole.rounds offers (λ u. refl);
        agrees = record {
          calls = part CallsAgree calls-each;
          copies = part CopiesAgree copies-each;
          claims = part ClaimsAgree claims-each;
          objects = part ObjectsAgree objects-each;
          moves = part MovesAgree moves-each;
        };
      };
      records = each_step (RecordsAgree opening.incarnation) (RecordsAgree opening.incarnation) (records-each opening.incarnation) shape s closed h.records pass within choice o told offers;
      scans = scans_kept shape s pass choice o told within h.whole.ranges h.whole.rounds h.whole.agrees h.scans offers;
    }

  pub everything-kept : IsKept shape anywhere (Everything opening shape)
  everything-kept = record {
    fits = λ s pass choice o within h offers there. (ranges_kept shape valid).fits s pass choice o within h.whole.ranges offers there;
    kept = λ s pass choice o told w within h offers shows.
        subst (λ (v : Word). Everything opening shape (state_after shape s pass choice told o.op v)) (sym (shows refl)) (everything_after s h pass within choice o told offers);
  }

  -- at each start
  pub everything-starting : (first : World) (start : List ℕ) → IsStart shape opening first start → Everything opening shape (starting shape (memory_behind shape opening start) first)
  everything-starting first start starts =
      let memory : Memory = memory_behind shape opening start in record {
        whole = record {
          ranges = ranges_starting shape opening first memory (λ there r. starts.mirrors.suits there refl r) starts.opens starts.at_rest;
          rounds = rounds-starting shape valid opening first memory starts.opens starts.at_rest;
          agrees = agreement-first shape opening first memory starts.at_rest;
        };
        records = records-first shape opening first memory starts.at_rest;
        scans = first_scans shape memory first;
      }

  pub everything-starts : (first : World) (start : List ℕ) → IsStart shape opening first start → HoldsOf shape opening (Everything opening shape) (started shape start) first
  everything-starts first start starts = at_first shape opening (Everything opening shape) first start starts (everything-starting first start starts)

  -- and so of the state of every history
  pub everything-then : (first : World) (m : Machine) (h : History shape opening first m) → HoldsOf shape opening (Everything opening shape) m (history_world h)
  everything-then first m h = holds_then shape opening valid (Everything opening shape) everything-kept first m h (everything-starts first h.start h.starts)
