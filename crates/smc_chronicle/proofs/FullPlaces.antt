-- Where an add is refused for want of a slot the collection is full at its place.
use Rattle.std.proofs.Common.{◌≡◌, ℕ, zero, suc, ◌+◌, ◌<◌, Bool, true, None, ◌++◌, refl, sym, ap, ◌∙◌, subst, arith, List, [], ◌∷◌}
use Rattle.std.specs.Prelude.{IsSome}
use Rattle.std.proofs.lemmas.Bool.Decides.{nat_tests}
use Rattle.std.proofs.lemmas.List.{append_cancel_left}
use Rattle.smc_words.specs.declared.layout.TheConstants.{INCARNATIONS}
use Rattle.smc_shape.specs.Layout.{Layout, IsShape, slots_of}
use Rattle.smc_model.specs.declared.event.Cause.{Cause}
use Rattle.smc_model.specs.declared.event.Event.{Event}
use Rattle.smc_model.specs.declared.event.Event.TheVariants as event
use Rattle.smc_model.specs.Order.{events_by}
use Rattle.smc_model.specs.World.{World, count_of, empty_world, object_of}
use Rattle.smc_model.proofs.OrderLaws.{events_by-append}
use Rattle.smc_core.specs.declared.local.Opening.{Opening}
use Rattle.smc_core.specs.declared.word.State as E
use Rattle.smc_core.specs.declared.word.State.TheVariants as state
use Rattle.smc_core.specs.Machine.{Leads, Machine}
use Rattle.smc_core.specs.Told.{told_along}
use Rattle.smc_core.specs.Words.{has_object_at}
use Rattle.smc_rules.specs.History.{History, history_order, history_state, history_world}
use Rattle.smc_rules.specs.Memory.{Memory}
use Rattle.smc_rules.specs.SlotRule.{HasGiven}
use Rattle.smc_inv_use.specs.Rest.{HasOneObject}
use Rattle.smc_refine.specs.Orders.{GoesOn}
use Rattle.smc_refine.proofs.GoingOn.{histories_go_on, told-join}
use Rattle.smc_refine.proofs.Ordered.{Ordered}
use Rattle.smc_full.specs.Full.{EachSlotHolds, NoneSpent}
use Rattle.smc_census.specs.Census.{homes, is_home}
use Rattle.smc_census.specs.Counts.{count_below}
use Rattle.smc_census.proofs.CountLaws.{count_below-suc, count_below-zero, one-if}
use Rattle.smc_census.proofs.HomeCounts.{homes-objects, slot-home}
use Rattle.smc_trace.specs.Named.{refuses}
use Rattle.smc_trace.specs.Trace.{CallEnd, events_in}
use Rattle.smc_trace.proofs.TraceSteps.{events_in-append}
use Rattle.smc_calls.specs.Calls.{HasMade}
use Rattle.smc_calls.specs.Laws.{Between}
use Rattle.smc_calls.proofs.Along.{made-first, made-last, makes-leads}
use Rattle.smc_alone.specs.Laws.{RefusedWhenFull}
use Rattle.smc_alone.proofs.Calls.{up_to}
use Rattle.smc_chronicle.specs.Places.{EventPlace, GivenSeldom, world_at}
use Rattle.smc_chronicle.proofs.EachWorld.{known-of}
use Rattle.smc_chronicle.proofs.Givings.{LastNotGiven, last-not_given}
use Rattle.smc_chronicle.proofs.OrderParts.{order-cut}
use Rattle.smc_chronicle.proofs.OwnEvents.{one-own, one-place, undisturbed-own}
use Rattle.smc_chronicle.proofs.Places.{own-events}

-- all numbers below this one have it
count-all : (P : ℕ → Bool) (n : ℕ) → ((k : ℕ) → k < n → P k ≡ true) → count_below P n ≡ n
count-all P zero all = count_below-zero P
count-all P (suc n) all =
    let rest : count_below P n ≡ n = count-all P n (λ k lt. all k (omega (arith, lt))) in
    let this : P n ≡ true = all n (omega arith) in
    let more = count_below-suc P n in
    let one = one-if (P n) this in
    omega (arith, rest, more, one)

module _ (shape : Layout) (opening : Opening) (first : World) (coll : ℕ) (m : Machine) (valid : IsShape shape) (h : History shape opening first m) where
  known : Ordered opening shape first m (history_order h) (history_world h)
  known = known-of shape opening first m valid h

  abbrev memory : Memory
  memory = (history_state h).memory

  -- no entry is spent
  none_spent : opening.incarnation + 1 < INCARNATIONS → LastNotGiven (history_world h) coll → NoneSpent shape (history_state h) coll
  none_spent opens none entry last stamp lt is spent =
      let given : IsSome (object_of (history_world h) (record { incarnation = last; entry = entry; coll = coll })) =
      known.holds.rule.records.given_of coll last entry (subst (λ (w : E.State). HasGiven opening.incarnation w last) (sym is) (omega (arith, opens, spent), omega arith)) in
      let nothing : object_of (history_world h) (record { incarnation = last; entry = entry; coll = coll }) ≡ None = none (record { incarnation = last; entry = entry; coll = coll }) refl spent in
      absurd (cc)

  is-full : EachSlotHolds shape (history_state h) coll → count_of (history_world h) coll ≡ slots_of shape coll
  is-full each =
      let all : homes shape memory coll ≡ slots_of shape coll = count-all (is_home memory coll) (slots_of shape coll) (λ slot lt.
      let one : HasOneObject shape (history_state h) coll slot = each slot lt in
      slot-home opening shape (history_state h) known.holds.rule (record { incarnation = one.incarnation; entry = one.entry; coll = coll }) slot one.within
      (ap (has_object_at one.incarnation slot) one.here ∙ present-here one.incarnation slot)) in
      sym (homes-objects opening shape (history_state h) known.holds.rule known.fits.of_its_coll coll) ∙ all
    where
      present-here : (a slot : ℕ) → has_object_at a slot (state.Present a slot) ≡ true
      present-here a slot = grind (arith, nat_tests)

-- the refusal in the order: behind what came before its first moment, at once
pub record RefusedAt (shape : Layout) (opening : Opening) (first : World) (pass : ℕ) (calls : List CallEnd) (refused : Event) (m : Machine) (past : History shape opening first m) (order : List (ℕ × Event)) : Type 0 where
  pub later : List (ℕ × Event)
  pub cut : order ≡ history_order past ++ (pass, refused) ∷ later
  pub own : events_by pass (history_order past) ≡ events_in calls

module _ (shape : Layout) (opening : Opening) (first : World) (pass coll : ℕ) (calls : List CallEnd) (cause : Cause) (last : Machine) (h : History shape opening first last) (valid : IsShape shape)
    (w : RefusedWhenFull shape opening first pass coll calls (refuses coll cause) last h) where
  abbrev then_past : History shape opening first w.between.m
  then_past = up_to shape opening first last h w.between.earlier w.between.m w.between.leads_here

  refused-at : RefusedAt shape opening first pass calls (event.Refused coll cause) w.between.m then_past (history_order h)
  refused-at =
      let b : Between shape h.start pass calls (refuses coll cause) h.steps last = w.between in
      let during : Leads shape b.m b.during b.next = makes-leads shape pass calls (refuses coll cause) b.m b.during b.next b.made in
      let one : List (ℕ × Event) = told_along shape b.m b.during b.next during in
      let two : List (ℕ × Event) = told_along shape b.next b.later last b.leads_on in
      let (on, both_told) = told-join shape b.m b.next last b.during b.later during b.leads_on in
      let cut : history_order h ≡ history_order then_past ++ told_along shape b.m (b.during ++ b.later) last on =
      order-cut shape opening first last h b.m b.earlier (b.during ++ b.later) b.splits b.leads_here on in
      let goes : GoesOn shape opening first b.m then_past b.during b.next during = histories_go_on shape opening first b.m then_past b.during b.next during in
      let made_first : HasMade pass b.m calls = made-first shape pass calls (refuses coll cause) b.m b.during b.next b.made in
      let made_then : HasMade pass b.next (calls ++ refuses coll cause) = made-last shape pass calls (refuses coll cause) b.m b.during b.next b.made in
      let own : events_by pass (history_order then_past) ≡ events_in calls = own-events shape opening first pass calls b.m then_past valid made_first in
      let both : events_by pass (history_order goes.later) ≡ events_in calls ++ (event.Refused coll cause ∷ []) =
      own-events shape opening first pass (calls ++ refuses coll cause) b.next goes.later valid made_then ∙ events_in-append calls (refuses coll cause) in
      let grown : events_by pass (history_order goes.later) ≡ events_in calls ++ events_by pass one =
      ap (events_by pass) goes.order ∙ (events_by-append pass (history_order then_past) one ∙ ap (λ (es : List Event). es ++ events_by pass one) own) in
      let more : events_by pass one ≡ event.Refused coll cause ∷ [] = append_cancel_left (events_in calls) (events_by pass one) (event.Refused coll cause ∷ []) (sym grown ∙ both) in
      let is : one ≡ (pass, event.Refused coll cause) ∷ [] =
      one-own pass one (event.Refused coll cause) (undisturbed-own shape pass b.m b.during b.next during w.aside w.undisturbed) more in
      record {
        later = two;
        cut = cut ∙ ap (λ (es : List (ℕ × Event)). history_order then_past ++ es) (both_told ∙ ap (λ (es : List (ℕ × Event)). es ++ two) is);
        own = own;
      }

-- at the place of a refusal that finds each slot with an object as many are present as there are slots
pub full-place : (shape : Layout) (opening : Opening) (pass coll : ℕ) (calls : List CallEnd) (cause : Cause) (last : Machine) (h : History shape opening empty_world last) → IsShape shape
    → RefusedWhenFull shape opening empty_world pass coll calls (refuses coll cause) last h
    → (at : EventPlace (history_order h) pass calls) → GivenSeldom opening coll at.earlier → count_of (world_at at.earlier) coll ≡ slots_of shape coll
full-place shape opening pass coll calls cause last h valid w at seldom =
    let past : History shape opening empty_world w.between.m = up_to shape opening empty_world last h w.between.earlier w.between.m w.between.leads_here in
    let r : RefusedAt shape opening empty_world pass calls (event.Refused coll cause) w.between.m past (history_order h) =
    refused-at shape opening empty_world pass coll calls cause last h valid w in
    let here : history_order past ≡ at.earlier = one-place pass (history_order past) at.earlier (event.Refused coll cause) at.event r.later at.later (sym r.cut ∙ at.cut) (r.own ∙ sym at.own) in
    let world : history_world past ≡ world_at at.earlier = ap world_at here in
    let none : LastNotGiven (world_at at.earlier) coll = last-not_given shape opening coll last h at.earlier ((pass, at.event) ∷ at.later) valid at.cut seldom in
    let low = seldom 0 in
    let opens : opening.incarnation + 1 < INCARNATIONS = omega (arith, low) in
    ap (λ (w : World). count_of w coll) (sym world)
    ∙ is-full shape opening empty_world coll w.between.m valid past
    (w.full past (none_spent shape opening empty_world coll w.between.m valid past opens (subst (λ (w : World). LastNotGiven w coll) (sym world) none)))
