-- Calls that are made one after another, and the one trace that a pass has.
use Rattle.std.proofs.Common.{◌≡◌, ℕ, ◌+◌, Option, Some, None, List, [], ◌∷◌, ◌++◌, length, refl, sym, ap, ◌∙◌, append_assoc, append-nil, arith}
use Rattle.std.specs.Prelude.{◌↔◌}
use Rattle.std.proofs.lemmas.Grind.{common_steps}
use Rattle.smc_model.specs.declared.event.Event.{Event}
use Rattle.smc_core.specs.declared.done.Done.{Done}
use Rattle.smc_core.specs.declared.local.Answer.{Answer}
use Rattle.smc_core.specs.declared.local.Local.{Local}
use Rattle.smc_trace.specs.Trace.{CallEnd, event_in, events_in, answers_in, IsTrace, Tells}

pub events_in-append : (s t : List CallEnd) → events_in (s ++ t) ≡ events_in s ++ events_in t
events_in-append [] t = refl
events_in-append (call ∷ s) t = grind (arith, common_steps, append_assoc, events_in-append s t)

pub answers_in-append : (n : ℕ) (s t : List CallEnd) → answers_in n (s ++ t) ≡ answers_in n s ++ answers_in (n + length (events_in s)) t
answers_in-append n [] t = grind (arith, common_steps)
answers_in-append n (call ∷ s) t = grind (arith, common_steps, append_assoc, answers_in-append (n + length (event_in call.event)) s t)

-- nothing is done
pub tells-nothing : (l : Local) → Tells l l []
tells-nothing l = record { log = sym (append-nil l.log); answers = sym (append-nil l.answers) }

-- one list of calls behind another
pub tells-then : (first middle last : Local) (calls later : List CallEnd) → Tells first middle calls → Tells middle last later → Tells first last (calls ++ later)
tells-then first middle last calls later one two = record {
  log = grind (arith, common_steps, append_assoc, events_in-append calls later, one.log, two.log);
  answers = grind (arith, common_steps, append_assoc, answers_in-append (length first.log) calls later, one.log, one.answers, two.answers);
}

-- a pass that has done nothing has the empty trace
pub trace-then : (old new : Local) (before calls : List CallEnd) → IsTrace old before → Tells old new calls → IsTrace new (before ++ calls)
trace-then old new before calls trace tells = (
  grind (arith, common_steps, events_in-append before calls, trace.0, tells.log),
  grind (arith, common_steps, answers_in-append 0 before calls, trace.0, trace.1, tells.answers),
)

pub trace-tells : (old new : Local) (before calls : List CallEnd) → IsTrace old before → IsTrace new (before ++ calls) → Tells old new calls
trace-tells old new before calls trace now = record {
  log = grind (arith, common_steps, events_in-append before calls, trace.0, now.0);
  answers = grind (arith, common_steps, answers_in-append 0 before calls, trace.0, trace.1, now.1);
}

pub trace-grows : (old new : Local) (before calls : List CallEnd) → IsTrace old before → Tells old new calls ↔ IsTrace new (before ++ calls)
trace-grows old new before calls trace = (trace-then old new before calls trace, trace-tells old new before calls trace)

end-same : (x y : CallEnd) → x.event ≡ y.event → x.done ≡ y.done → x ≡ y
end-same x y event done =
    ap (λ (e : Option Event). let one : CallEnd = record { event = e; done = x.done } in one) event
    ∙ ap (λ (d : Done). let one : CallEnd = record { event = y.event; done = d } in one) done

first-length : (a b : Answer) (s t : List Answer) → (a ∷ s) ≡ (b ∷ t) → a.length ≡ b.length
first-length a b s t is = let same : a ≡ b = cc in ap (λ (k : Answer). k.length) same

first-done : (a b : Answer) (s t : List Answer) → (a ∷ s) ≡ (b ∷ t) → a.done ≡ b.done
first-done a b s t is = let same : a ≡ b = cc in ap (λ (k : Answer). k.done) same

later-answers : (a b : Answer) (s t : List Answer) → (a ∷ s) ≡ (b ∷ t) → s ≡ t
later-answers a b s t is = cc

-- the same events and answers are of the same calls
pub ends-same : (n : ℕ) (s t : List CallEnd) → events_in s ≡ events_in t → answers_in n s ≡ answers_in n t → s ≡ t
ends-same n [] [] es is = refl
ends-same n [] (y ∷ t) es is = absurd (cc)
ends-same n (x ∷ s) [] es is = absurd (cc)
ends-same n (x ∷ s) (y ∷ t) es is = go x.event y.event refl refl es is (λ k. ends-same k s t)
  where
    join : x.event ≡ y.event → x.done ≡ y.done → s ≡ t → (x ∷ s) ≡ (y ∷ t)
    join event done rest = ap (λ (k : CallEnd). k ∷ s) (end-same x y event done) ∙ ap (λ (k : List CallEnd). y ∷ k) rest

    go : (e f : Option Event) → x.event ≡ e → y.event ≡ f → event_in e ++ events_in s ≡ event_in f ++ events_in t
        → (record { length = n + length (event_in e); done = x.done } ∷ answers_in (n + length (event_in e)) s) ≡ (record { length = n + length (event_in f); done = y.done } ∷ answers_in (n + length (event_in f)) t)
        → ((k : ℕ) → events_in s ≡ events_in t → answers_in k s ≡ answers_in k t → s ≡ t) → (x ∷ s) ≡ (y ∷ t)
    go None None xe ye es is rest =
        join (xe ∙ sym ye) (first-done _ _ _ _ is) (rest (n + 0) es (later-answers _ _ _ _ is))
    go None (Some b) xe ye es is rest = let long : n + 0 ≡ n + 1 = first-length _ _ _ _ is in absurd (omega (arith, long))
    go (Some a) None xe ye es is rest = let long : n + 1 ≡ n + 0 = first-length _ _ _ _ is in absurd (omega (arith, long))
    go (Some a) (Some b) xe ye es is rest =
        let same : a ≡ b = cc in
        let events : events_in s ≡ events_in t = cc in
        join (xe ∙ (ap Some same ∙ sym ye)) (first-done _ _ _ _ is) (rest (n + 1) events (later-answers _ _ _ _ is))

-- so a pass has one trace
pub trace-one : (l : Local) (calls others : List CallEnd) → IsTrace l calls → IsTrace l others → calls ≡ others
trace-one l calls others one two = ends-same 0 calls others (sym one.0 ∙ two.0) (sym one.1 ∙ two.1)
