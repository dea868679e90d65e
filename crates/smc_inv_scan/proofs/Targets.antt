-- The part of the relocation rule on passed targets, from what the scans agree on.
use Rattle.std.proofs.Common.{◌≡◌, ℕ, ◌<◌, ◌≤◌, Some, refl, sym, subst, arith}
use Rattle.smc_shape.specs.Layout.{Layout}
use Rattle.smc_core.specs.declared.word.State.{State}
use Rattle.smc_core.specs.declared.word.State.TheVariants as state
use Rattle.smc_core.specs.Section.{epoch_of}
use Rattle.smc_core.specs.Scan.{scan_of}
use Rattle.smc_rules.specs.Reads.{state_in, forward_in}
use Rattle.smc_rules.specs.RelocationRule.{PassedTarget, frozen_in}
use Rattle.smc_rules.specs.State as S
use Rattle.smc_rules.specs.Memory.{Memory}
use Rattle.smc_rules.specs.Start.{starting}
use Rattle.smc_model.specs.World.{World}
use Rattle.smc_agreement.proofs.Whole.{Shut, moves}
use Rattle.smc_inv_scan.specs.Scans.{ScansAgree}
use Rattle.smc_inv_scan.proofs.ListLaws.{listed}

-- the state in which a region begins has no scans
pub first_scans : (shape : Layout) (memory : Memory) (world : World) → ScansAgree shape (starting shape memory world)
first_scans shape memory world = record {
  s_apart = λ i li. tt;
  s_fresh = λ i k b li is. absurd (cc);
  s_within = λ i k b li is. absurd (cc);
  s_place = λ i k c t li is. absurd (cc);
  s_over = λ i k li is. absurd (cc);
  s_dir = λ i c t li is. absurd (cc);
  s_back = λ i c t a e d li is. absurd (cc);
  s_home = λ i c t a e d li is. absurd (cc);
  s_frozen = λ i k c a e t b r li fz rd is of lt. absurd (cc);
  s_locked = λ i k c a e t b li lk is of. absurd (cc);
}

-- a scan that has passed the target of a frozen object, which still has another slot, is not past the bound of the round
pub passed_target : (shape : Layout) (s : S.State) → Shut shape s → ScansAgree shape s → PassedTarget shape s
passed_target shape s h r pass a e slot target begun round lp has lt rd inc nm fz ne = go (state_in s.memory begun.coll e) refl fz
  where
    at : scan_of (s.stands pass).scans begun.number ≡ Some begun
    at = listed (s.stands pass).scans begun (r.s_apart pass lp) has

    go : (w : State) → state_in s.memory begun.coll e ≡ w → frozen_in w ≡ Some (a, slot) → epoch_of (s.stands pass).section ≤ round.bound
    go (state.Frozen b t) q f =
        let is : state_in s.memory begun.coll e ≡ state.Frozen a slot = grind (arith, q, f) in
        let leads : forward_in s.memory begun.coll slot ≡ target = grind (arith, ne, (moves h).incoming_fwd begun.coll target a e slot inc nm (grind (arith, is))) in
        r.s_frozen pass begun.number begun.coll a e slot begun round lp is rd at refl (subst (λ (k : ℕ). k < begun.place) (sym leads) lt)
    go (state.Locked b t) q f =
        let is : state_in s.memory begun.coll e ≡ state.Locked a slot = grind (arith, q, f) in
        let leads : forward_in s.memory begun.coll slot ≡ target = grind (arith, ne, (moves h).incoming_fwd begun.coll target a e slot inc nm (grind (arith, is))) in
        let least = r.s_locked pass begun.number begun.coll a e slot begun lp is at refl in
        absurd (omega (arith, leads, least, lt))
    go (state.Present b t) q f = absurd (cc)
    go (state.Removed b t x y) q f = absurd (cc)
    go (state.Free b t) q f = absurd (cc)
    go (state.Claimed b) q f = absurd (cc)
