-- What a survey tells is true at its place.
use Rattle.std.proofs.Common.{◌≡◌, ℕ, ◌+◌, List, ◌++◌, length, sym, ap, ◌∙◌, arith}
use Rattle.std.proofs.lemmas.List.{length-append}
use Rattle.smc_shape.specs.Layout.{Layout, IsShape}
use Rattle.smc_model.specs.declared.event.Event.{Event}
use Rattle.smc_model.specs.Order.{events_by, log_of}
use Rattle.smc_model.specs.World.{World, count_of, empty_world}
use Rattle.smc_core.specs.declared.local.Opening.{Opening}
use Rattle.smc_core.specs.Count.{blocks_for}
use Rattle.smc_core.specs.Machine.{Machine}
use Rattle.smc_core.specs.Told.{told_along}
use Rattle.smc_rules.specs.History.{History, history_order, history_state}
use Rattle.smc_rules.specs.State.{State}
use Rattle.smc_refine.specs.Orders.{logs_of}
use Rattle.smc_refine.proofs.OrderSteps.{log-there}
use Rattle.smc_census.specs.Census.{occupied}
use Rattle.smc_packing.specs.Packing.{HasState}
use Rattle.smc_trace.specs.Trace.{CallEnd, events_in}
use Rattle.smc_trace.proofs.TraceSteps.{events_in-append}
use Rattle.smc_alone.specs.Drives.{Drove, Surveyed}
use Rattle.smc_alone.specs.Laws.{DidAlone, SurveyBehindDrive, SurveyIsExact, TrueAt}
use Rattle.smc_alone.proofs.Calls.{up_to}
use Rattle.smc_chronicle.specs.Places.{EventPlace, world_at}
use Rattle.smc_chronicle.proofs.NextOwn.{NextIsOwn, next-own, next-place}
use Rattle.smc_chronicle.proofs.OrderParts.{order-cut}
use Rattle.smc_chronicle.proofs.Places.{own-events}

-- what holds of the state at the moment behind calls that are alone holds of a history whose world is that at the place of the next event
pub record IsPlaced (shape : Layout) (opening : Opening) (first : World) (earlier : List (ℕ × Event)) (Fact : State → Type 0) : Type 0 where
  pub m : Machine
  pub past : History shape opening first m
  pub here : history_order past ≡ earlier
  pub fact : Fact (history_state past)

pub placed : (shape : Layout) (opening : Opening) (first : World) (pass : ℕ) (Fact : State → Type 0) (before calls : List CallEnd) (last : Machine) (h : History shape opening first last)
    → IsShape shape → DidAlone last.locals pass before calls
    → TrueAt shape h.start pass (before ++ calls) h.steps last (λ m. HasState shape opening first m Fact) → (at : EventPlace (history_order h) pass (before ++ calls))
    → IsPlaced shape opening first at.earlier Fact
placed shape opening first pass Fact before calls last h valid did x at =
    let past : History shape opening first x.at.m = up_to shape opening first last h x.at.earlier x.at.m x.at.leads_here in
    let more : List (ℕ × Event) = told_along shape x.at.m x.at.later last x.at.leads_on in
    let cut : history_order h ≡ history_order past ++ more = order-cut shape opening first last h x.at.m x.at.earlier x.at.later x.at.splits x.at.leads_here x.at.leads_on in
    let told : events_by pass (history_order past) ≡ events_in (before ++ calls) = own-events shape opening first pass (before ++ calls) x.at.m past valid x.at.made in
    let long : length (log_of (logs_of x.at.m.locals) pass) ≡ length (events_in (before ++ calls)) = ap length (log-there x.at.m.locals pass x.at.made.local x.at.made.here ∙ x.at.made.trace.0) in
    let grows : length (events_in (before ++ calls)) ≡ length (events_in before) + length (events_in calls) = ap length (events_in-append before calls) ∙ length-append (events_in before) (events_in calls) in
    let own : NextIsOwn pass more =
    next-own shape opening first h.start pass (length (events_in before)) (length (events_in (before ++ calls)) + 1) last valid h.starts did.idle did.alone
    x.at.m x.at.earlier x.at.later x.at.leads_here x.at.leads_on (omega (arith, long, grows)) (omega (arith, long)) in
    record {
      m = x.at.m;
      past = past;
      here = next-place pass (history_order past) more at.earlier at.later at.event own (sym cut ∙ at.cut) (told ∙ sym at.own);
      fact = x.fact.holds_of_each past;
    }

pub surveyed-place : SurveyIsExact → (shape : Layout) (opening : Opening) (last : Machine) (h : History shape opening empty_world last) → IsShape shape
    → (pass coll objects blocks : ℕ) (before calls : List CallEnd) → DidAlone last.locals pass before calls → Surveyed coll objects blocks calls
    → (at : EventPlace (history_order h) pass (before ++ calls)) → objects ≡ count_of (world_at at.earlier) coll
surveyed-place tells shape opening last h valid pass coll objects blocks before calls did is at =
    let p : IsPlaced shape opening empty_world at.earlier (λ s. (objects ≡ count_of s.world coll) × (blocks ≡ occupied shape s.memory coll)) =
    placed shape opening empty_world pass (λ (s : State). (objects ≡ count_of s.world coll) × (blocks ≡ occupied shape s.memory coll)) before calls last h valid did
    (tells shape opening empty_world pass coll objects blocks before calls last h valid did is) at in
    p.fact.0 ∙ ap (λ (es : List (ℕ × Event)). count_of (world_at es) coll) p.here

pub packed-place : SurveyBehindDrive → (shape : Layout) (opening : Opening) (last : Machine) (h : History shape opening empty_world last) → IsShape shape
    → (pass coll objects blocks : ℕ) (before drove calls : List CallEnd) → DidAlone last.locals pass before (drove ++ calls) → Drove coll drove → Surveyed coll objects blocks calls
    → (at : EventPlace (history_order h) pass (before ++ (drove ++ calls))) → (objects ≡ count_of (world_at at.earlier) coll) × (blocks ≡ blocks_for objects)
packed-place tells shape opening last h valid pass coll objects blocks before drove calls did drives is at =
    let p : IsPlaced shape opening empty_world at.earlier (λ s. (objects ≡ count_of s.world coll) × (blocks ≡ blocks_for objects)) =
    placed shape opening empty_world pass (λ (s : State). (objects ≡ count_of s.world coll) × (blocks ≡ blocks_for objects)) before (drove ++ calls) last h valid did
    (tells shape opening empty_world pass coll objects blocks before drove calls last h valid did drives is) at in
    (p.fact.0 ∙ ap (λ (es : List (ℕ × Event)). count_of (world_at es) coll) p.here, p.fact.1)
