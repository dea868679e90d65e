-- The epoch rule holds after every list of steps.
use Rattle.std.proofs.Common.{◌≡◌, ℕ, ◌<◌, ◌≤◌, true, Option, Some, None, List, refl, sym, ap, subst}
use Rattle.std.specs.Prelude.{IfSome, IsSomeAnd, is_some}
use Rattle.smc_shape.specs.Layout.{Layout, IsShape}
use Rattle.smc_core.specs.declared.call.Choice.{Choice}
use Rattle.smc_core.specs.declared.local.Opening.{Opening}
use Rattle.smc_core.specs.declared.op.Offer.{Offer}
use Rattle.smc_core.specs.Machine.{Machine, IsOpening, Reach, started}
use Rattle.smc_model.specs.World.{World, empty_world}
use Rattle.smc_rules.specs.History.{History}
use Rattle.smc_rules.specs.Start.{IsAtStart, IsStart, memory_behind, starting, state_behind}
use Rattle.smc_rules.specs.Reads.{epoch_of_region}
use Rattle.smc_core.specs.Words.{plain_of}
use Rattle.smc_core.specs.declared.section.TheConstants.{FIRST_EPOCH, LAST_EPOCH}
use Rattle.smc_core.specs.Played.{Schedule, shape_of, opening_row, played}
use Rattle.smc_rules.specs.EpochRule.{EpochRule}
use Rattle.smc_rules.specs.Memory.{Memory, apply}
use Rattle.smc_rules.specs.State.{State, IsKept, Backed, stand_offer, stand_then, state_after}
use Rattle.smc_rules.proofs.HistoryLaws.{at_first, carried_then}
use Rattle.smc_inv_epoch.specs.Epochs.{Epochs, is_first, opening_of, HoldsAfter}
use Rattle.smc_inv_epoch.proofs.EachKind.{pays}
use Rattle.smc_inv_epoch.proofs.Moves.{kept}
use Rattle.smc_inv_epoch.proofs.Pays.{Pays}
use Rattle.smc_inv_epoch.proofs.Openings.{schedule-history}

module _ (shape : Layout) (valid : IsShape shape) where
  -- what an offered step pays
  paid : (state : State) (pass : ℕ) (choice : Choice) (offered : Offer) (within : pass < shape.passes) (h : Epochs shape state)
      → stand_offer shape pass (state.stands pass) choice ≡ Some offered
      → Pays shape state pass (state.stands pass).section (state.stands pass).phase choice offered
  paid state pass choice offered within h offers =
      subst (λ o. IfSome o (Pays shape state pass (state.stands pass).section (state.stands pass).phase choice)) offers (pays shape state pass h within valid choice)

  -- each step keeps the epoch rule
  pub epochs-kept : IsKept shape is_first (Epochs shape)
  epochs-kept = record {
    fits = λ state pass choice offered within h offers u. (paid state pass choice offered within h offers).fits u;
    kept = λ state pass choice offered told w within h offers is.
        kept shape state pass h within (apply offered.op state.memory) (stand_then shape pass (state.stands pass) choice told w)
        (state_after shape state pass choice told offered.op w).world
        ((paid state pass choice offered within h offers).moves told w is);
  }

  -- at the start no pass is in a section, and none advances
  pub epochs-starting : (opening : Opening) (world : World) (memory : Memory) → IsOpening opening → IsAtStart shape opening world memory → Epochs shape (starting shape memory world)
  epochs-starting opening world memory o q =
      let at : epoch_of_region memory ≡ opening.epoch = ap plain_of q.epoch in record {
        rule = record {
          first = subst (λ (e : ℕ). FIRST_EPOCH ≤ e) (sym at) o.first;
          last = subst (λ (e : ℕ). e ≤ LAST_EPOCH) (sym at) o.last;
          advance = λ pass from within is. cc;
          loaded = λ pass seen within is. cc;
          again = λ pass seen own within is. cc;
          near = λ pass own within is. cc;
          passed = λ pass own other from lp lo is at loaded. cc;
        };
        agrees = record {
          own_word = λ pass within. ap plain_of (q.sections pass);
          least_load = λ pass seen within is. cc;
          least_own = λ pass own within is. cc;
          low_advance = λ pass from within is. cc;
          next_pass = λ pass from other within is. cc;
        };
      }

  pub epochs-starts : (opening : Opening) (first : World) (start : List ℕ) → IsStart shape opening first start → Epochs shape (state_behind shape opening (started shape start) first)
  epochs-starts opening first start starts = (at_first shape opening (Epochs shape) first start starts (epochs-starting opening first (memory_behind shape opening start) starts.opens starts.at_rest)).rule

  -- and behind every history
  pub rule-then : (opening : Opening) (first : World) (m : Machine) (h : History shape opening first m) → Backed shape is_first (EpochRule shape) m.row m.locals
  rule-then opening first m h =
      let b = carried_then shape is_first valid (Epochs shape) epochs-kept opening first m h (epochs-starts opening first h.start h.starts) in
      record { state = b.state; backs = b.backs; rule = b.rule.rule }

-- a schedule that can be played leads to where the rule holds
pub rule-played : ((s : Schedule) (m : Machine) → played s ≡ Some m → Reach (shape_of s) (opening_row s) m.row m.locals)
    → (s : Schedule) → IsShape (shape_of s) → IsOpening (opening_of s) → is_some (played s) ≡ true → HoldsAfter s
rule-played reached s valid o some = go (played s) refl some
  where
    go : (m : Option Machine) → played s ≡ m → is_some m ≡ true → IsSomeAnd m (λ k. Backed (shape_of s) is_first (EpochRule (shape_of s)) k.row k.locals)
    go None e some = cc
    go (Some m) e some = rule-then (shape_of s) valid (opening_of s) empty_world m (schedule-history s valid o m (reached s m e))
