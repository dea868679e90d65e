-- All that every state keeps, with the users of slots: kept by each step, and so after every list of steps.
use Rattle.std.proofs.Common.{◌≡◌, ℕ, ◌<◌, List, Some, inl, refl, sym, ap, subst, arith}
use Rattle.std.proofs.lemmas.Bool.Decides.{nat_tests}
use Rattle.smc_shape.specs.Layout.{Layout, IsShape}
use Rattle.smc_core.specs.declared.call.Choice.{Choice}
use Rattle.smc_core.specs.declared.local.Opening.{Opening}
use Rattle.smc_core.specs.declared.op.Offer.{Offer}
use Rattle.smc_core.specs.declared.word.Word.{Word}
use Rattle.smc_model.specs.World.{World}
use Rattle.smc_core.specs.Machine.{Machine, started}
use Rattle.smc_rules.specs.History.{History, HoldsAlways, history_state, history_world}
use Rattle.smc_rules.specs.Start.{IsAtStart, IsStart, StartsSlot, memory_behind, starting}
use Rattle.smc_agreement.specs.Entries.{stands_at}
use Rattle.smc_rules.specs.Memory.{Memory, seen}
use Rattle.smc_rules.specs.Mirror.{anywhere}
use Rattle.smc_rules.specs.State.{State, IsKept, stand_offer, state_after}
use Rattle.smc_rules.proofs.HistoryLaws.{HoldsOf, at_first, holds_then}
use Rattle.smc_agreement.proofs.EachKind.{each_step}
use Rattle.smc_agreement.proofs.Whole.{shut}
use Rattle.smc_laws.proofs.Everything.{Everything, everything-kept, everything-starting}
use Rattle.smc_inv_use.specs.Uses.{UsesAgree}
use Rattle.smc_inv_use.proofs.EachUses.{uses-each}

-- all that every state keeps, and the users of its slots
pub record Used (opening : Opening) (shape : Layout) (s : State) : Type 0 where
  pub everything : Everything opening shape s
  pub uses : UsesAgree shape s

-- at the start each slot that is valid has an object
uses-first : (shape : Layout) (opening : Opening) (world : World) (memory : Memory) → IsAtStart shape opening world memory → UsesAgree shape (starting shape memory world)
uses-first shape opening world memory q = record {
  u_slot = λ c' s' is. let (own, entry, there) = subst (StartsSlot memory c' s') is (q.slots c' s') in inl (own, entry, ap stands_at there);
  u_named = λ i c' s' li is. grind (arith, nat_tests);
  u_moves = λ i c' s' t' a' e' li is nm inc. grind (arith, nat_tests);
}

module _ (opening : Opening) (shape : Layout) (valid : IsShape shape) where
  used_after : (s : State) (h : Used opening shape s) (pass : ℕ) (within : pass < shape.passes) (choice : Choice) (o : Offer) (told : ℕ) → stand_offer shape pass (s.stands pass) choice ≡ Some o
      → UsesAgree shape (state_after shape s pass choice told o.op (seen o.op s.memory))
  used_after s h pass within choice o told offers = each_step UsesAgree UsesAgree uses-each shape s (shut h.everything.whole) h.uses pass within choice o told offers

  pub used-kept : IsKept shape anywhere (Used opening shape)
  used-kept = record {
    fits = λ s pass choice o within h offers there. (everything-kept opening shape valid).fits s pass choice o within h.everything offers there;
    kept = λ s pass choice o told w within h offers shows. record {
      everything = (everything-kept opening shape valid).kept s pass choice o told w within h.everything offers shows;
      uses = subst (λ (v : Word). UsesAgree shape (state_after shape s pass choice told o.op v)) (sym (shows refl)) (used_after s h pass within choice o told offers);
    };
  }

  -- so it is at each start, and of every history
  pub used-starts : (first : World) (start : List ℕ) → IsStart shape opening first start → HoldsOf shape opening (Used opening shape) (started shape start) first
  used-starts first start starts = at_first shape opening (Used opening shape) first start starts
      (record { everything = everything-starting opening shape valid first start starts; uses = uses-first shape opening first (memory_behind shape opening start) starts.at_rest })

  pub used-then : (first : World) (m : Machine) (h : History shape opening first m) → HoldsOf shape opening (Used opening shape) m (history_world h)
  used-then first m h = holds_then shape opening valid (Used opening shape) used-kept first m h (used-starts first h.start h.starts)

-- what follows from it holds always
pub always_used : (Rule : Layout → Opening → State → Type 0) → ((opening : Opening) (shape : Layout) (s : State) → Used opening shape s → Rule shape opening s) → HoldsAlways Rule
always_used Rule follows shape opening first m valid h = follows opening shape (history_state h) (used-then opening shape valid first m h).rule
