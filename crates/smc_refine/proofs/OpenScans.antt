-- The scan that a call goes on with is open, so each step goes on with open scans alone.
use Rattle.std.proofs.Common.{◌≡◌, ℕ, ◌<◌, Option, Some, None, refl, sym, ap, ◌∙◌, subst, arith}
use Rattle.smc_shape.specs.Layout.{Layout}
use Rattle.smc_core.specs.declared.call.Call.{Call}
use Rattle.smc_core.specs.declared.call.Choice.{Choice}
use Rattle.smc_core.specs.declared.call.Choice.TheVariants.{Start, Go}
use Rattle.smc_core.specs.declared.local.Scan.{Scan}
use Rattle.smc_core.specs.declared.op.Offer.{Offer}
use Rattle.smc_core.specs.declared.phase.Phase.{Phase}
use Rattle.smc_core.specs.declared.phase.Phase.TheVariants as phase
use Rattle.smc_core.specs.declared.phase.objects.LookPhase.{LookPhase}
use Rattle.smc_core.specs.declared.phase.objects.ScanPhase.{ScanPhase}
use Rattle.smc_core.specs.declared.phase.objects.ScanPhase.TheVariants as scan
use Rattle.smc_core.specs.declared.phase.objects.Seeker.{Seeker}
use Rattle.smc_core.specs.declared.phase.objects.Seeker.TheVariants as seeker
use Rattle.smc_core.specs.Change.{change}
use Rattle.smc_core.specs.Local.{scans_after, begun_after}
use Rattle.smc_core.specs.Look.{seeker_of, sought_number}
use Rattle.smc_core.specs.Offer.{offer}
use Rattle.smc_core.specs.Scan.{scan_of}
use Rattle.smc_rules.specs.Memory.{seen}
use Rattle.smc_rules.specs.State.{State, stand_change, stand_offer, stand_then}
use Rattle.smc_inv_scan.specs.Scans.{IsAt, IsPassed, ends_of, scan_at, seeker_at, seeker_owner, sought_at, way_at}
use Rattle.smc_refine.proofs.ScanSteps.{HasOpen, IsOpen, StepScans, scan_in, seeker_scan, way_scan}
use Rattle.smc_inv_scan.specs.Scans.{ScansAgree}
use Rattle.smc_refine.proofs.ScanCalls.{going, starting}

-- a scan that is at a place, or has passed all, is there
at_scan : (c t : ℕ) (o : Option Scan) → IsAt c t o → (b : Scan) × (o ≡ Some b) × (b.coll ≡ c)
at_scan c t None at = absurd at
at_scan c t (Some b) at = (b, refl, at.0)

over_scan : (shape : Layout) (o : Option Scan) → IsPassed shape o → (b : Scan) × (o ≡ Some b)
over_scan shape None at = absurd at
over_scan shape (Some b) at = (b, refl)

module _ (shape : Layout) (s : State) (agree : ScansAgree shape s) (pass : ℕ) (within : pass < shape.passes) (opens : IsOpen (s.stands pass).scans (s.stands pass).phase) where
  -- the scan that the call goes on with
  sought : (l : LookPhase) (k c t : ℕ) → (s.stands pass).phase ≡ phase.Look l → seeker_of l ≡ seeker.Scan k c t → HasOpen (s.stands pass).scans k (sought_number l).coll
  sought l k c t is who =
      let (b, found, of) = at_scan c t (scan_of (s.stands pass).scans k) (agree.s_place pass k c t within (subst (λ (x : Phase). scan_at x ≡ Some (k, (c, t))) (sym is) (ap seeker_at who))) in
      let homely : (sought_number l).coll ≡ c = agree.s_home pass c t (sought_number l).incarnation (sought_number l).entry (sought_number l).coll within
      (subst (λ (x : Phase). sought_at x ≡ Some ((c, t), sought_number l)) (sym is) (ap (λ (x : Seeker). seeker_owner x (sought_number l)) who)) in
      (b, found, opens k b (subst (λ (x : Phase). scan_in x ≡ Some k) (sym is) (subst (λ (x : Seeker). seeker_scan x ≡ Some k) (sym who) refl)) found, of ∙ sym homely)

  on_way : (next : ScanPhase) (k : ℕ) → (s.stands pass).phase ≡ phase.Scan next → way_scan next ≡ Some k → (coll : ℕ) × HasOpen (s.stands pass).scans k coll
  on_way next k is way =
      let (b, found) = there next is way in
      (b.coll, (b, found, opens k b (subst (λ (x : Phase). scan_in x ≡ Some k) (sym is) way) found, refl))
    where
      same : (i j : ℕ) → Some i ≡ Some j → i ≡ j
      same i j z = grind (arith, z)

      placed : (j c t : ℕ) (y : ScanPhase) → (s.stands pass).phase ≡ phase.Scan y → way_at y ≡ Some (j, (c, t)) → j ≡ k → (b : Scan) × (scan_of (s.stands pass).scans k ≡ Some b)
      placed j c t y q z eq =
          let (b, found, of) = at_scan c t (scan_of (s.stands pass).scans j) (agree.s_place pass j c t within (subst (λ (x : Phase). scan_at x ≡ Some (j, (c, t))) (sym q) z)) in
          (b, ap (scan_of (s.stands pass).scans) (sym eq) ∙ found)

      there : (next : ScanPhase) → (s.stands pass).phase ≡ phase.Scan next → way_scan next ≡ Some k → (b : Scan) × (scan_of (s.stands pass).scans k ≡ Some b)
      there (scan.Directory j c t) q z = placed j c t (scan.Directory j c t) q refl (same j k z)
      there (scan.Back j c t) q z = placed j c t (scan.Back j c t) q refl (same j k z)
      there (scan.End j) q z = over_scan shape (scan_of (s.stands pass).scans k) (agree.s_over pass k within (subst (λ (x : Phase). ends_of x ≡ Some k) (sym q) z))

  -- what the step makes of the section's scans
  pub view : (choice : Choice) (o : Offer) (told : ℕ) → stand_offer shape pass (s.stands pass) choice ≡ Some o
      → StepScans pass (s.stands pass).scans (s.stands pass).begun (stand_then shape pass (s.stands pass) choice told (seen o.op s.memory)).scans (stand_then shape pass (s.stands pass) choice told (seen o.op s.memory)).begun
      (stand_change shape pass (s.stands pass) choice told (seen o.op s.memory))
  view choice o told offers = go choice offers
    where
      idle : (next : Call) (ph : Phase) → offer shape pass (s.stands pass) (s.stands pass).section ph (Start next) ≡ Some o
          → StepScans pass (s.stands pass).scans (s.stands pass).begun (scans_after shape pass (s.stands pass) (s.stands pass).section ph (Start next) (seen o.op s.memory)) (begun_after (s.stands pass).begun (Start next))
          (change shape pass (s.stands pass) (s.stands pass).section ph (Start next) told (seen o.op s.memory))
      idle next phase.Idle z = starting shape pass (s.stands pass) (s.stands pass).section next told (seen o.op s.memory)
      idle next phase.Entering z = absurd (cc)
      idle next (phase.Advancing epoch other) z = absurd (cc)
      idle next (phase.Ready epoch) z = absurd (cc)
      idle next (phase.Look y) z = absurd (cc)
      idle next (phase.Add y) z = absurd (cc)
      idle next (phase.Remove y) z = absurd (cc)
      idle next (phase.Scan y) z = absurd (cc)
      idle next (phase.Begin y) z = absurd (cc)
      idle next (phase.Finish y) z = absurd (cc)
      idle next (phase.Cancel y) z = absurd (cc)
      idle next (phase.Survey y) z = absurd (cc)

      go : (c : Choice) → stand_offer shape pass (s.stands pass) c ≡ Some o
          → StepScans pass (s.stands pass).scans (s.stands pass).begun (stand_then shape pass (s.stands pass) c told (seen o.op s.memory)).scans (stand_then shape pass (s.stands pass) c told (seen o.op s.memory)).begun
          (stand_change shape pass (s.stands pass) c told (seen o.op s.memory))
      go Go z = going shape pass (s.stands pass) (s.stands pass).section (s.stands pass).phase (seen o.op s.memory) sought on_way
      go (Start next) z = idle next (s.stands pass).phase z
