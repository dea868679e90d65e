-- Calls that are made while the others stand aside.
use Rattle.std.proofs.Common.{◌≡◌, ℕ, ◌+◌, List, [], ◌∷◌, ◌++◌, length, ap, ◌∙◌, subst, arith}
use Rattle.std.proofs.lemmas.Grind.{common_steps}
use Rattle.std.proofs.lemmas.List.{length-append}
use Rattle.smc_shape.specs.Layout.{Layout}
use Rattle.smc_core.specs.declared.call.Choice.{Choice}
use Rattle.smc_core.specs.declared.local.Local.{Local}
use Rattle.smc_core.specs.Machine.{Machine}
use Rattle.smc_aside.specs.Aside.{IsUndisturbed}
use Rattle.smc_aside.specs.Makes.{Makes}
use Rattle.smc_trace.specs.Trace.{CallEnd, IsTrace, answers_in, events_in}
use Rattle.smc_trace.proofs.TraceSteps.{answers_in-append, events_in-append}
use Rattle.smc_calls.specs.Calls.{MakesCall}
use Rattle.smc_calls.specs.Laws.{UndisturbedCallsAreMade}

-- the steps of two lists
pub undisturbed-parts : (pass : ℕ) (front back : List (ℕ × Choice)) → IsUndisturbed pass (front ++ back) → IsUndisturbed pass front × IsUndisturbed pass back
undisturbed-parts pass [] back calm = (tt, calm)
undisturbed-parts pass (step ∷ front) back calm = let rest : IsUndisturbed pass front × IsUndisturbed pass back = undisturbed-parts pass front back calm.1 in ((calm.0, rest.0), rest.1)

-- one answer more is kept
kept : (old new : Local) (before : List CallEnd) (end : CallEnd) → IsTrace old before → IsTrace new (before ++ end ∷ [])
    → new.answers ≡ old.answers ++ record { length = length new.log; done = end.done } ∷ []
kept old new before end trace now =
    let more : answers_in 0 (before ++ end ∷ []) ≡ answers_in 0 before ++ answers_in (0 + length (events_in before)) (end ∷ []) = answers_in-append 0 before (end ∷ []) in
    let log : length new.log ≡ length (events_in before ++ events_in (end ∷ [])) = ap length (now.0 ∙ events_in-append before (end ∷ [])) in
    let long : length (events_in before ++ events_in (end ∷ [])) ≡ length (events_in before) + length (events_in (end ∷ [])) = length-append (events_in before) (events_in (end ∷ [])) in
    grind (arith, common_steps, more, log, long, trace.1, now.1)

pub call-makes : (shape : Layout) (pass : ℕ) (before : List CallEnd) (end : CallEnd) (m : Machine) (steps : List (ℕ × Choice)) (last : Machine) (made : MakesCall shape pass before end m steps last)
    → IsUndisturbed pass steps → Makes shape pass made.call end.done m last
call-makes shape pass before end m steps last made calm = record {
  steps = steps;
  leads = made.leads;
  undisturbed = calm;
  more = made.more;
  choices = made.choices;
  answered = record {
    before = made.first.local;
    after = made.then.local;
    here = made.first.here;
    now = made.then.here;
    kept = kept made.first.local made.then.local before end made.first.trace made.then.trace;
  };
}

pub calls-make : UndisturbedCallsAreMade
calls-make shape pass before [] m steps last made calm = made.1
calls-make shape pass before (end ∷ ends) m steps last (during, later, next, splits, one, rest) calm =
    let parts : IsUndisturbed pass during × IsUndisturbed pass later = undisturbed-parts pass during later (subst (IsUndisturbed pass) splits calm) in
    (one.call, next, one.is_end, call-makes shape pass before end m during next one parts.0, calls-make shape pass (before ++ end ∷ []) ends next later last rest parts.1)
