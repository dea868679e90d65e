-- A step of a pass goes on with its call, or ends it.
use Rattle.std.proofs.Common.{◌≡◌, ℕ, ◌+◌, Option, Some, None, List, [], ◌∷◌, ◌++◌, length, refl, sym, ap, ◌∙◌, subst, append_assoc, append-nil, inl, inr, ◌⊎◌, arith}
use Rattle.std.proofs.lemmas.Grind.{common_steps}
use Rattle.std.proofs.lemmas.List.{length-append}
use Rattle.std.proofs.lemmas.Option.{none-some}
use Rattle.smc_shape.specs.Layout.{Layout}
use Rattle.smc_model.specs.declared.event.Event.{Event}
use Rattle.smc_core.specs.declared.call.Call.{Call}
use Rattle.smc_core.specs.declared.call.Choice.{Choice}
use Rattle.smc_core.specs.declared.call.Choice.TheVariants.{Start, Go}
use Rattle.smc_core.specs.declared.done.Done.{Done}
use Rattle.smc_core.specs.declared.local.Answer.{Answer}
use Rattle.smc_core.specs.declared.local.Local.{Local}
use Rattle.smc_core.specs.declared.op.Offer.{Offer}
use Rattle.smc_core.specs.declared.phase.Phase.{Phase}
use Rattle.smc_core.specs.declared.phase.Phase.TheVariants as phase
use Rattle.smc_core.specs.declared.word.Word.{Word}
use Rattle.smc_core.specs.Change.{change}
use Rattle.smc_core.specs.Local.{after, logged, answered, words_after}
use Rattle.smc_core.specs.Machine.{local_offer}
use Rattle.smc_core.specs.Offer.{go_offer, start_offer, when_idle}
use Rattle.smc_trace.specs.Trace.{CallEnd, IsTrace, event_in, events_in, answers_in}
use Rattle.smc_trace.proofs.TraceSteps.{events_in-append, answers_in-append}
use Rattle.smc_calls.specs.Ends.{IsEndOf}
use Rattle.smc_calls.proofs.CallsGoOn.{InCall, GoesOn, Comes, told_in, comes-go, comes-start}

-- the pass has made these calls, and this one is in progress
pub record IsIn (made : Call) (calls : List CallEnd) (l : Local) : Type 0 where
  pub in_call : InCall l.stand.phase l.stand.words made
  pub log : l.log ≡ events_in calls ++ event_in (told_in l.stand.phase)
  pub answers : l.answers ≡ answers_in 0 calls

-- the call has ended so
pub record HasEnded (made : Call) (calls : List CallEnd) (l : Local) : Type 0 where
  pub end : CallEnd
  pub is_end : IsEndOf made end
  pub idle : l.stand.phase ≡ phase.Idle
  pub trace : IsTrace l (calls ++ end ∷ [])

logged-event : (log : List Event) (e : Option Event) → logged log e ≡ log ++ event_in e
logged-event log None = sym (append-nil log)
logged-event log (Some event) = refl

log-more : (log : List Event) (calls : List CallEnd) (told e all : Option Event) → event_in told ++ event_in e ≡ event_in all → log ≡ events_in calls ++ event_in told
    → logged log e ≡ events_in calls ++ event_in all
log-more log calls told e all joins is =
    logged-event log e ∙ (ap (λ (es : List Event). es ++ event_in e) is
    ∙ (append_assoc (events_in calls) (event_in told) (event_in e) ∙ ap (λ (es : List Event). events_in calls ++ es) joins))

log-end : (log : List Event) (calls : List CallEnd) (end : CallEnd) → log ≡ events_in calls ++ event_in end.event → log ≡ events_in (calls ++ end ∷ [])
log-end log calls end is = is ∙ (ap (λ (es : List Event). events_in calls ++ es) (sym (append-nil (event_in end.event))) ∙ sym (events_in-append calls (end ∷ [])))

answers-end : (log : List Event) (answers : List Answer) (calls : List CallEnd) (end : CallEnd) → log ≡ events_in calls ++ event_in end.event → answers ≡ answers_in 0 calls
    → answers ++ record { length = length log; done = end.done } ∷ [] ≡ answers_in 0 (calls ++ end ∷ [])
answers-end log answers calls end is kept =
    let long : length log ≡ length (events_in calls) + length (event_in end.event) = ap length is ∙ length-append (events_in calls) (event_in end.event) in
    grind (arith, common_steps, answers_in-append 0 calls (end ∷ []), long, kept)

module _ (shape : Layout) (pass : ℕ) (l : Local) (choice : Choice) (told : ℕ) (w : Word) (made : Call) (calls : List CallEnd) where
  abbrev l' : Local
  l' = after shape pass l choice told w

  -- by what the step changes
  comes-after : (before : Option Event) → Comes made (words_after l.stand.words choice) before (change shape pass l.stand l.stand.section l.stand.phase choice told w)
      → l.log ≡ events_in calls ++ event_in before → l.answers ≡ answers_in 0 calls → IsIn made calls (after shape pass l choice told w) ⊎ HasEnded made calls (after shape pass l choice told w)
  comes-after before comes log answers = go (change shape pass l.stand l.stand.section l.stand.phase choice told w).answer refl comes.goes_on
    where
      grown : l'.log ≡ events_in calls ++ event_in comes.all
      grown = log-more l.log calls before (change shape pass l.stand l.stand.section l.stand.phase choice told w).event comes.all comes.joins log

      go : (a : Option Done) → (change shape pass l.stand l.stand.section l.stand.phase choice told w).answer ≡ a → GoesOn made (words_after l.stand.words choice) comes.all a l'.stand.phase
          → IsIn made calls (after shape pass l choice told w) ⊎ HasEnded made calls (after shape pass l choice told w)
      go None is on = inl (record {
        in_call = on.0;
        log = grown ∙ ap (λ (e : Option Event). events_in calls ++ event_in e) (sym on.1);
        answers = ap (λ (d : Option Done). answered l.answers (length l'.log) d) is ∙ answers;
      })
      go (Some d) is on = inr (record {
        end = record { event = comes.all; done = d };
        is_end = on.1;
        idle = on.0;
        trace = (
          log-end l'.log calls (record { event = comes.all; done = d }) grown,
          ap (λ (d : Option Done). answered l.answers (length l'.log) d) is ∙ answers-end l'.log l.answers calls (record { event = comes.all; done = d }) grown answers,
        );
      })

-- a call is begun where none is in progress
idle-only : (next : Phase) (x : Option Offer) (o : Offer) → when_idle next x ≡ Some o → (next ≡ phase.Idle) × (x ≡ Some o)
idle-only phase.Idle x o is = (refl, is)
idle-only phase.Entering x o is = absurd (none-some o is)
idle-only (phase.Advancing epoch other) x o is = absurd (none-some o is)
idle-only (phase.Ready epoch) x o is = absurd (none-some o is)
idle-only (phase.Look next) x o is = absurd (none-some o is)
idle-only (phase.Add next) x o is = absurd (none-some o is)
idle-only (phase.Remove next) x o is = absurd (none-some o is)
idle-only (phase.Scan next) x o is = absurd (none-some o is)
idle-only (phase.Begin next) x o is = absurd (none-some o is)
idle-only (phase.Finish next) x o is = absurd (none-some o is)
idle-only (phase.Cancel next) x o is = absurd (none-some o is)
idle-only (phase.Survey next) x o is = absurd (none-some o is)

module _ (shape : Layout) (pass : ℕ) (l : Local) (o : Offer) (told : ℕ) (w : Word) (calls : List CallEnd) where
  -- the first step of a call
  pub after-start : (made : Call) → l.stand.phase ≡ phase.Idle → IsTrace l calls → local_offer shape pass l (Start made) ≡ Some o
      → IsIn made calls (after shape pass l (Start made) told w) ⊎ HasEnded made calls (after shape pass l (Start made) told w)
  after-start made idle trace offers =
      comes-after shape pass l (Start made) told w made calls None
      (comes-start shape pass l.stand o told w l.stand.section made (idle-only l.stand.phase (start_offer shape pass l.stand l.stand.section made) o offers).1)
      (trace.0 ∙ sym (append-nil (events_in calls))) trace.1

  -- no call is in progress, so none goes on
  pub idle-goes_not : (next : Phase) → next ≡ phase.Idle → go_offer pass l.stand l.stand.section next ≡ Some o → ⊥
  idle-goes_not next idle offers = none-some o (subst (λ (k : Phase). go_offer pass l.stand l.stand.section k ≡ Some o) idle offers)

  -- a further step
  pub after-go : (made : Call) → IsIn made calls l → local_offer shape pass l Go ≡ Some o
      → IsIn made calls (after shape pass l Go told w) ⊎ HasEnded made calls (after shape pass l Go told w)
  after-go made has offers =
      comes-after shape pass l Go told w made calls (told_in l.stand.phase)
      (comes-go shape pass l.stand o told w l.stand.section l.stand.phase made offers has.in_call) has.log has.answers

  -- while one is in progress none begins
  pub busy-starts_not : (made c : Call) → IsIn made calls l → local_offer shape pass l (Start c) ≡ Some o → ⊥
  busy-starts_not made c has offers =
      subst (λ (k : Phase). InCall k l.stand.words made) (idle-only l.stand.phase (start_offer shape pass l.stand l.stand.section c) o offers).0 has.in_call
