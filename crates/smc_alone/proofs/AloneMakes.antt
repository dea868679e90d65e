-- Calls that are alone are made undisturbed.
use Rattle.std.proofs.Common.{◌≡◌, ℕ, ◌+◌, ◌≤◌, false, Option, Some, None, List, ◌++◌, length, refl, sym, ap, ◌∙◌, subst, arith}
use Rattle.smc_shape.specs.Layout.{Layout}
use Rattle.smc_model.specs.declared.event.Event.{Event}
use Rattle.smc_model.specs.Order.{log_of}
use Rattle.smc_core.specs.declared.call.Choice.{Choice}
use Rattle.smc_core.specs.declared.local.Owned.{Owned}
use Rattle.smc_core.specs.declared.phase.Phase.{Phase}
use Rattle.smc_core.specs.declared.phase.Phase.TheVariants as phase
use Rattle.smc_core.specs.declared.section.Section.{Section}
use Rattle.smc_core.specs.declared.section.Section.TheVariants.{Outside, Loaded, Announced, Again, Lasting, Inside}
use Rattle.smc_core.specs.Local.{fresh}
use Rattle.smc_core.specs.Machine.{Machine, Leads, started}
use Rattle.smc_rules.proofs.CarryLaws.{some-same}
use Rattle.smc_aside.specs.Aside.{IsAlone, IsUndisturbed, OthersAside}
use Rattle.smc_trace.specs.Trace.{CallEnd, events_in}
use Rattle.smc_calls.specs.Calls.{HasMade}
use Rattle.smc_calls.specs.Laws.{Between}
use Rattle.smc_calls.proofs.Along.{made-first, made-last, makes-leads, replicate-get, stretch-made, was-there}
use Rattle.smc_calls.proofs.Undisturbed.{calls-make}
use Rattle.smc_aside.proofs.StepLists.{leads-join}
use Rattle.smc_trace.proofs.TraceSteps.{events_in-append}
use Rattle.std.proofs.lemmas.List.{length-append}
use Rattle.smc_refine.specs.Alone.{owns_after}
use Rattle.smc_refine.specs.Orders.{logs_of}
use Rattle.smc_refine.proofs.AloneLaws.{stretches-undisturbed}
use Rattle.smc_refine.proofs.OrderSteps.{log-there}
use Rattle.smc_refine.proofs.OwnAlong.{Own, carries, own-after}
use Rattle.smc_refine.proofs.OwnSteps.{Tied, enters, is_some, leaves, owns_at}
use Rattle.smc_alone.specs.AloneCalls.{AloneCallsAreMade, IsHome}

-- an idle pass that has left its sections is outside
idle-outside : (section : Section) (a b : ℕ) → Tied section phase.Idle a b → b ≡ a → section ≡ Outside
idle-outside Outside a b t same = refl
idle-outside (Loaded v) a b t same = let e : phase.Idle ≡ phase.Entering = t.0 in absurd (cc)
idle-outside (Announced v) a b t same = let e : phase.Idle ≡ phase.Entering = t.0 in absurd (cc)
idle-outside (Again v z) a b t same = let e : phase.Idle ≡ phase.Entering = t.0 in absurd (cc)
idle-outside (Lasting z) a b t same = let e : phase.Idle ≡ phase.Entering = t.0 in absurd (cc)
idle-outside (Inside x calm) a b t same = absurd (omega (arith, t.1, same))

is-none : (owned : Option Owned) → is_some owned ≡ false → owned ≡ None
is-none None is = refl
is-none (Some owned) is = absurd (cc)

fresh-own : (shape : Layout) → Own (fresh shape)
fresh-own shape = record { tied = (tt, refl); round = refl; within = tt }

-- so long is the log of a pass that has made these calls
log-long : (pass : ℕ) (m : Machine) (calls : List CallEnd) → HasMade pass m calls → length (log_of (logs_of m.locals) pass) ≡ length (events_in calls)
log-long pass m calls has = ap length (log-there m.locals pass has.local has.here ∙ has.trace.0)

-- a pass that is home stands idle outside sections, without a round
module _ (shape : Layout) (start : List ℕ) (pass : ℕ) (steps : List (ℕ × Choice)) (m : Machine) (calls : List CallEnd) (leads : Leads shape (started shape start) steps m) (has : HasMade pass m calls) where
  own : Own has.local
  own =
      let (k, there) = was-there shape pass (started shape start) steps m has.local leads has.here in
      let (l0, at, own0) = carries shape pass Own (λ k choice o told w p is. own-after shape pass k choice o told w p is) (started shape start) steps m (fresh shape) leads
      (there ∙ ap Some (sym (replicate-get shape.passes pass (fresh shape) k there))) (fresh-own shape) in
      subst Own (some-same l0 has.local (sym at ∙ has.here)) own0

  pub home-alone : OthersAside pass m.locals → IsHome calls → IsAlone pass m
  home-alone aside home = record {
    idle = record {
      local = has.local;
      here = has.here;
      idle = has.idle;
      outside = idle-outside has.local.stand.section (enters has.local.log) (leaves has.local.log)
          (subst (λ (k : Phase). Tied has.local.stand.section k (enters has.local.log) (leaves has.local.log)) has.idle own.tied)
          (subst (λ (es : List Event). leaves es ≡ enters es) (sym has.trace.0) home.left);
      no_round = is-none has.local.stand.round (own.round ∙ (ap (λ (k : Phase). owns_at k (owns_after false has.local.answers)) has.idle
          ∙ (ap (owns_after false) has.trace.1 ∙ home.no_round)));
    };
    others = aside;
  }

-- each stretch of a trace that is alone
pub alone-calls_made : AloneCallsAreMade
alone-calls_made shape opening world pass last h l before calls later valid here idle trace alone =
    let b : Between shape h.start pass before calls h.steps last = stretch-made shape h.start pass h.steps last l before calls later h.leads here (idle pass l here) trace in
    let first : HasMade pass b.m before = made-first shape pass before calls b.m b.during b.next b.made in
    let then_made : HasMade pass b.next (before ++ calls) = made-last shape pass before calls b.m b.during b.next b.made in
    let during : Leads shape b.m b.during b.next = makes-leads shape pass before calls b.m b.during b.next b.made in
    let long : length (log_of (logs_of b.m.locals) pass) ≡ length (events_in before) = log-long pass b.m before first in
    let longer : length (log_of (logs_of b.next.locals) pass) ≡ length (events_in (before ++ calls)) = log-long pass b.next (before ++ calls) then_made in
    let grows : length (events_in before) ≤ length (events_in (before ++ calls)) = events-grow before calls in
    let calm : OthersAside pass b.m.locals × IsUndisturbed pass b.during × OthersAside pass b.next.locals =
    stretches-undisturbed shape opening world h.start pass (length (events_in before)) (length (events_in (before ++ calls)) + 1) b.m b.next last b.during b.later valid h.starts
    (record { earlier = b.earlier; before = b.leads_here; after = during; has_first = omega (arith, long); lacks_last = omega (arith, long, grows) })
    (record { earlier = b.earlier ++ b.during; before = leads-join shape (started shape h.start) b.m b.next b.earlier b.during b.leads_here during; after = b.leads_on; has_first = omega (arith, longer, grows); lacks_last = omega (arith, longer) })
    idle alone in
    record {
      between = b;
      aside = calm.0;
      undisturbed = calm.1;
      made = calls-make shape pass before calls b.m b.during b.next b.made calm.1;
      aside_then = calm.2;
      alone = home-alone shape h.start pass b.earlier b.m before b.leads_here first calm.0;
    }
  where
    events-grow : (s t : List CallEnd) → length (events_in s) ≤ length (events_in (s ++ t))
    events-grow s t = let long : length (events_in (s ++ t)) ≡ length (events_in s) + length (events_in t) = ap length (events_in-append s t) ∙ length-append (events_in s) (events_in t) in omega (arith, long)
