-- What each pass keeps holds after every list of steps.
use Rattle.std.proofs.Common.{◌≡◌, ℕ, ◌<◌, ◌≤◌, Some, List, refl, sym, subst, ap, ◌∙◌, arith}
use Rattle.smc_shape.specs.Layout.{Layout, IsShape, width_of}
use Rattle.smc_shape.specs.declared.place.Place.TheVariants as place
use Rattle.smc_core.specs.declared.call.Choice.{Choice}
use Rattle.smc_core.specs.declared.call.Choice.TheVariants.{Go}
use Rattle.smc_core.specs.declared.local.Opening.{Opening}
use Rattle.smc_core.specs.declared.local.Stand.{Stand}
use Rattle.smc_core.specs.declared.op.Offer.{Offer}
use Rattle.smc_core.specs.declared.phase.Phase.{Phase}
use Rattle.smc_core.specs.declared.phase.Phase.TheVariants as phase
use Rattle.smc_core.specs.declared.phase.moves.FinishPhase.TheVariants as finish
use Rattle.smc_core.specs.declared.phase.objects.ScanPhase.TheVariants as scan
use Rattle.smc_core.specs.declared.section.Section.{Section}
use Rattle.smc_core.specs.declared.word.Word.{Word}
use Rattle.smc_core.specs.Machine.{Machine, Steps}
use Rattle.smc_model.specs.World.{World}
use Rattle.smc_rules.specs.History.{History}
use Rattle.smc_core.specs.Offer.{go_offer}
use Rattle.smc_core.specs.Row.{row_shows}
use Rattle.smc_rules.specs.Memory.{Memory, seen}
use Rattle.smc_rules.specs.Mirror.{IsMirrored, anywhere}
use Rattle.smc_rules.specs.State.{State, Backed, IsKept, stand_offer, stand_then}
use Rattle.smc_rules.proofs.CarryLaws.{by_pass, put_stand-other, put_stand-same, some-same}
use Rattle.smc_rules.proofs.MirrorLaws.{mirrored}
use Rattle.std.proofs.lemmas.Option.{slice_get_within}
use Rattle.smc_inv_range.specs.Calls.{InPhase}
use Rattle.smc_inv_range.specs.Ranges.{InMemory, InWord, IsNumberOf}
use Rattle.smc_inv_range.proofs.Memories.{InBack, back_in}
use Rattle.smc_inv_range.proofs.ReachLaws.{ranges_kept, ranges_start}
use Rattle.smc_rules.proofs.HistoryLaws.{behind_first, carried_then}
use Rattle.smc_inv_bound.specs.Left.{CountsOwner, CountsOwners}
use Rattle.smc_bounds.specs.Kept.{Kept, KeptBy}
use Rattle.smc_bounds.proofs.EnterLaws.{step-enters}
use Rattle.smc_bounds.proofs.HomeLaws.{step-below, step-home}

module _ (shape : Layout) (valid : IsShape shape) where
  -- a step of the pass itself keeps what is said of it
  step-kept : (pass : ℕ) (stand : Stand) (choice : Choice) (told : ℕ) (w : Word) → KeptBy pass stand → KeptBy pass (stand_then shape pass stand choice told w)
  step-kept pass stand choice told w h = record {
    enters = step-enters shape pass stand choice told w;
    home = step-home shape pass stand choice told w h.home;
    below = step-below shape pass stand stand.section stand.phase choice w h.below;
  }

  -- each step keeps it
  pub kept-kept : IsKept shape anywhere (Kept shape)
  kept-kept = record {
    fits = λ s pass choice o within h offers there. (ranges_kept shape valid).fits s pass choice o within h.ranges offers there;
    kept = λ s pass choice o told w within h offers shows. record {
      ranges = (ranges_kept shape valid).kept s pass choice o told w within h.ranges offers shows;
      each = λ i lt.
          let next : Stand = stand_then shape pass (s.stands pass) choice told w in
          by_pass i pass
          (λ e. subst (KeptBy i) (sym (put_stand-same s.stands pass i next e)) (subst (λ (k : ℕ). KeptBy k next) (sym e) (step-kept pass (s.stands pass) choice told w (h.each pass within))))
          (λ ne. subst (KeptBy i) (sym (put_stand-other s.stands pass i next ne)) (h.each i lt));
    };
  }

  -- so it is behind every history
  pub kept-then : (opening : Opening) (first : World) (m : Machine) (h : History shape opening first m) → Backed shape anywhere (Kept shape) m.row m.locals
  kept-then opening first m h = carried_then shape anywhere valid (Kept shape) kept-kept opening first m h
      (record { ranges = ranges_start shape opening first h.start valid h.starts; each = λ i lt. subst (λ (s : State). KeptBy i (s.stands i)) (behind_first shape opening first h.start) (record { enters = tt; home = tt; below = tt }) })

  -- an owner that a word of the region names is of the word's own collection
  home_counts : (coll slot : ℕ) (w : Word) → InWord shape (place.Back coll slot) w → CountsOwner (width_of shape) coll w
  home_counts coll slot w f owner is =
      let n : IsNumberOf shape coll owner = subst (InBack shape coll) is (back_in shape coll slot w f) in
      subst (λ (c : ℕ). width_of shape owner.coll ≤ width_of shape c) n.home (omega arith)

  -- so each owner that a call is shown is
  owners_seen : (words : List ℕ) (memory : Memory) (pass : ℕ) (stand : Stand) (section : Section) (next : Phase) (o : Offer) → InPhase shape words next → InMemory shape memory
      → go_offer pass stand section next ≡ Some o → CountsOwners (width_of shape) next (seen o.op memory)
  owners_seen words memory pass stand section (phase.Scan (scan.Back k coll slot)) o f m is =
      subst (λ (one : Offer). CountsOwner (width_of shape) coll (seen one.op memory)) (some-same _ o is) (home_counts coll slot (memory (place.Back coll slot)) (m (place.Back coll slot) f))
  owners_seen words memory pass stand section (phase.Finish (finish.Back targets)) o f m is =
      subst (λ (one : Offer). CountsOwner (width_of shape) targets.coll (seen one.op memory)) (some-same _ o is)
      (home_counts targets.coll targets.slot (memory (place.Back targets.coll targets.slot)) (m (place.Back targets.coll targets.slot) f))
  owners_seen words memory pass stand section (phase.Scan (scan.Directory k coll slot)) o f m is = tt
  owners_seen words memory pass stand section (phase.Scan (scan.End k)) o f m is = tt
  owners_seen words memory pass stand section (phase.Finish (finish.Directory targets)) o f m is = tt
  owners_seen words memory pass stand section (phase.Finish (finish.Entry targets number)) o f m is = tt
  owners_seen words memory pass stand section (phase.Finish (finish.Lock targets number source)) o f m is = tt
  owners_seen words memory pass stand section (phase.Finish (finish.Move targets number source next)) o f m is = tt
  owners_seen words memory pass stand section (phase.Finish (finish.Settle targets source)) o f m is = tt
  owners_seen words memory pass stand section (phase.Finish (finish.LeaveSource targets source)) o f m is = tt
  owners_seen words memory pass stand section (phase.Finish (finish.GiveUp targets gone)) o f m is = tt
  owners_seen words memory pass stand section (phase.Finish (finish.End targets)) o f m is = tt
  owners_seen words memory pass stand section _ o f m is = tt

  -- in a machine that keeps all this
  pub owners_shown : (m next : Machine) (pass : ℕ) (step : Steps shape m pass Go next) → Backed shape anywhere (Kept shape) m.row m.locals
      → CountsOwners (width_of shape) step.local.stand.phase (row_shows shape step.offered.op m.row)
  owners_shown m next pass step b =
      let stand : Stand = step.local.stand in
      let same : b.state.stands pass ≡ stand = b.backs.same pass step.local step.here in
      let within : pass < shape.passes = omega (arith, slice_get_within m.locals pass step.local step.here, b.backs.count) in
      let offers : stand_offer shape pass (b.state.stands pass) Go ≡ Some step.offered = ap (λ (k : Stand). stand_offer shape pass k Go) same ∙ step.offers in
      let mir : IsMirrored shape anywhere m.row b.state.memory step.offered.op =
      mirrored shape anywhere m.row b.state.memory step.offered.op valid b.backs.mirrors (kept-kept.fits b.state pass Go step.offered within b.rule offers) in
      subst (CountsOwners (width_of shape) stand.phase) (sym (mir.shows refl))
      (owners_seen stand.words b.state.memory pass stand stand.section stand.phase step.offered
      (subst (λ (k : Stand). InPhase shape k.words k.phase) same (b.rule.ranges.stands pass within).phase) b.rule.ranges.memory step.offers)
