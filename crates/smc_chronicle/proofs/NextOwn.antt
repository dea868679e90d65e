-- Behind calls that are alone the next event is the pass's own.
use Rattle.std.proofs.Common.{◌≡◌, ℕ, ◌≤◌, ◌<◌, Option, Some, None, List, [], ◌∷◌, ◌++◌, length, ◌⊎◌, inl, inr, refl, sym, ap, ◌∙◌, subst, append-nil}
use Rattle.std.specs.Prelude.{slice_set}
use Rattle.std.proofs.lemmas.List.{append_cancel_left}
use Rattle.std.proofs.lemmas.Option.{none-some}
use Rattle.smc_shape.specs.Layout.{Layout, IsShape}
use Rattle.smc_model.specs.declared.event.Event.{Event}
use Rattle.smc_model.specs.Order.{events_by, log_of}
use Rattle.smc_model.proofs.OrderLaws.{events_by-append, events_by-own}
use Rattle.smc_core.specs.declared.call.Choice.{Choice}
use Rattle.smc_core.specs.declared.local.Local.{Local}
use Rattle.smc_core.specs.declared.local.Opening.{Opening}
use Rattle.smc_core.specs.Local.{after, logged}
use Rattle.smc_core.specs.Machine.{Machine, Steps, Leads, started}
use Rattle.smc_core.specs.Row.{row_shows}
use Rattle.smc_core.specs.Told.{adds, told_along, told_by_step}
use Rattle.smc_model.specs.World.{World}
use Rattle.smc_rules.specs.Start.{IsStart}
use Rattle.smc_rules.proofs.CarryLaws.{by_pass, get-set_same}
use Rattle.smc_aside.specs.Aside.{IsAsideChoice, OthersAside}
use Rattle.smc_aside.proofs.StepLists.{leads-join}
use Rattle.smc_refine.specs.Alone.{AllIdle, Alone}
use Rattle.smc_refine.specs.Orders.{logs_of}
use Rattle.smc_refine.proofs.AloneLaws.{alone-undisturbed}
use Rattle.smc_refine.proofs.OrderSteps.{log-other, log-there}
use Rattle.smc_chronicle.proofs.OwnEvents.{one-place, silent}

-- nothing more happens, or next something of this pass
abbrev pub NextIsOwn : ℕ → List (ℕ × Event) → Type 0
NextIsOwn pass more = (more ≡ []) ⊎ ((e : Event) × (rest : List (ℕ × Event)) × (more ≡ (pass, e) ∷ rest))

-- where a step tells nothing the log of the pass stays
log-stays : (shape : Layout) (pass : ℕ) (m : Machine) (by : ℕ) (choice : Choice) (next : Machine) (step : Steps shape m by choice next) → told_by_step shape m by choice next step ≡ None
    → log_of (logs_of next.locals) pass ≡ log_of (logs_of m.locals) pass
log-stays shape pass m by choice next step none =
    let l' : Local = after shape by step.local choice step.told (row_shows shape step.offered.op m.row) in
    ap (λ (k : Machine). log_of (logs_of k.locals) pass) step.leads
    ∙ by_pass pass by
    (λ same. subst (λ (k : ℕ). log_of (logs_of (slice_set m.locals by l')) k ≡ log_of (logs_of m.locals) k) (sym same)
    (log-there (slice_set m.locals by l') by l' (get-set_same m.locals by step.local l' step.here) ∙ (ap (logged step.local.log) none ∙ sym (log-there m.locals by step.local step.here))))
    (λ apart. log-other m.locals by pass l' apart)

module _ (shape : Layout) (opening : Opening) (world : World) (start : List ℕ) (pass since until : ℕ) (last : Machine) (valid : IsShape shape) (starts : IsStart shape opening world start)
    (idle : AllIdle last.locals) (alone : Alone last.locals pass since until) where
  pub next-own : (m : Machine) (earlier later : List (ℕ × Choice)) → Leads shape (started shape start) earlier m → (on : Leads shape m later last)
      → since ≤ length (log_of (logs_of m.locals) pass) → length (log_of (logs_of m.locals) pass) < until → NextIsOwn pass (told_along shape m later last on)
  next-own m earlier [] leads on low high = inl refl
  next-own m earlier (first ∷ later) leads (next, step, on) low high =
      go (told_by_step shape m first.0 first.1 next step) refl
      (λ none. next-own next (earlier ++ first ∷ []) later (leads-join shape (started shape start) m next earlier (first ∷ []) leads (next, step, refl)) on
      (subst (λ (es : List Event). since ≤ length es) (sym (log-stays shape pass m first.0 first.1 next step none)) low)
      (subst (λ (es : List Event). length es < until) (sym (log-stays shape pass m first.0 first.1 next step none)) high))
    where
      rest : List (ℕ × Event)
      rest = told_along shape next later last on

      calm : OthersAside pass m.locals × ((first.0 ≡ pass) ⊎ IsAsideChoice first.1)
      calm = let both = alone-undisturbed shape opening world start pass since until m last (first ∷ later) valid starts
          (record { earlier = earlier; before = leads; after = (next, step, on); has_first = low; lacks_last = high }) idle alone in (both.0, both.1.0.0)

      own : (e : Event) → told_by_step shape m first.0 first.1 next step ≡ Some e → first.0 ≡ pass
      own e some = by_pass first.0 pass (λ same. same) (λ apart. elim calm.1 [
        | inl same ↦ same
        | inr may ↦ absurd (none-some e (sym (silent shape m first.0 first.1 next step (calm.0 first.0 step.local apart step.here) may) ∙ some))
      ])

      go : (e : Option Event) → told_by_step shape m first.0 first.1 next step ≡ e → (told_by_step shape m first.0 first.1 next step ≡ None → NextIsOwn pass (told_along shape next later last on))
          → NextIsOwn pass (adds first.0 (told_by_step shape m first.0 first.1 next step) ++ told_along shape next later last on)
      go None none on_rest = subst (NextIsOwn pass) (sym (ap (λ (e : Option Event). adds first.0 e ++ rest) none)) (on_rest none)
      go (Some e) some on_rest = inr (e, rest, ap (λ (x : Option Event). adds first.0 x ++ rest) some ∙ ap (λ (k : ℕ). (k, e) ∷ rest) (own e some))

-- so the place at which it tells its next event is that one
pub next-place : (pass : ℕ) (front more earlier later : List (ℕ × Event)) (e : Event) → NextIsOwn pass more → front ++ more ≡ earlier ++ (pass, e) ∷ later → events_by pass front ≡ events_by pass earlier
    → front ≡ earlier
next-place pass front more earlier later e (inr (x, rest, is)) cut own =
    one-place pass front earlier x e rest later (ap (λ (es : List (ℕ × Event)). front ++ es) (sym is) ∙ cut) own
next-place pass front more earlier later e (inl none) cut own =
    let whole : front ≡ earlier ++ (pass, e) ∷ later = sym (append-nil front) ∙ (ap (λ (es : List (ℕ × Event)). front ++ es) (sym none) ∙ cut) in
    let grown : events_by pass earlier ≡ events_by pass earlier ++ (e ∷ events_by pass later) =
    sym own ∙ (ap (events_by pass) whole ∙ (events_by-append pass earlier ((pass, e) ∷ later) ∙ ap (λ (es : List Event). events_by pass earlier ++ es) (events_by-own pass e later))) in
    let nothing : ◌≡◌ {A = List Event} [] (e ∷ events_by pass later) = append_cancel_left (events_by pass earlier) [] (e ∷ events_by pass later) (append-nil (events_by pass earlier) ∙ grown) in
    absurd (cc)
