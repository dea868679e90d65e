-- A history goes on, and is cut: at its steps, and at what they told.
use Rattle.std.proofs.Common.{◌≡◌, ℕ, Option, Some, None, List, [], ◌∷◌, ◌++◌, append_assoc, refl, sym, ap, ◌∙◌, subst}
use Rattle.smc_shape.specs.Layout.{Layout}
use Rattle.smc_model.specs.declared.event.Event.{Event}
use Rattle.smc_core.specs.declared.call.Choice.{Choice}
use Rattle.smc_core.specs.Machine.{Machine, Steps, Leads, started}
use Rattle.smc_core.specs.Told.{adds, told_by_step, told_along}
use Rattle.smc_rules.specs.History.{history_order}
use Rattle.smc_refine.specs.Orders.{HistoriesGoOn, HistoriesHaveMoments, HistoriesHaveEvents}

module _ (shape : Layout) where
  -- steps behind steps tell one after the other
  abbrev pub Joined : Machine → List (ℕ × Choice) → Machine → List (ℕ × Event) → Type 0
  Joined m steps last told = (leads : Leads shape m steps last) × (told_along shape m steps last leads ≡ told)

  pub told-join : (m next last : Machine) (steps later : List (ℕ × Choice)) (a : Leads shape m steps next) (b : Leads shape next later last)
      → Joined m (steps ++ later) last (told_along shape m steps next a ++ told_along shape next later last b)
  told-join m next last [] later a b = subst (λ (k : Machine). Joined k later last (told_along shape next later last b)) (sym a) (b, refl)
  told-join m next last (step ∷ steps) later a b =
      let (leads, same) = told-join a.0 next last steps later a.2 b in
      let own : List (ℕ × Event) = adds step.0 (told_by_step shape m step.0 step.1 a.0 a.1) in (
        (a.0, a.1, leads),
        ap (λ (es : List (ℕ × Event)). own ++ es) same ∙ sym (append_assoc own (told_along shape a.0 steps next a.2) (told_along shape next later last b)),
      )

  -- they are cut again
  record Cut (m : Machine) (steps later : List (ℕ × Choice)) (last : Machine) (told : List (ℕ × Event)) : Type 0 where
    next : Machine
    front : Leads shape m steps next
    back : Leads shape next later last
    same : told ≡ told_along shape m steps next front ++ told_along shape next later last back

  cut : (m last : Machine) (steps later : List (ℕ × Choice)) (leads : Leads shape m (steps ++ later) last) → Cut m steps later last (told_along shape m (steps ++ later) last leads)
  cut m last [] later leads = record { next = m; front = refl; back = leads; same = refl }
  cut m last (step ∷ steps) later leads =
      let c = cut leads.0 last steps later leads.2 in
      let own : List (ℕ × Event) = adds step.0 (told_by_step shape m step.0 step.1 leads.0 leads.1) in record {
        next = c.next;
        front = (leads.0, leads.1, c.front);
        back = c.back;
        same = ap (λ (es : List (ℕ × Event)). own ++ es) c.same ∙ sym (append_assoc own (told_along shape leads.0 steps c.next c.front) (told_along shape c.next later last c.back));
      }

  -- at an event
  record CutAt (m last : Machine) (before : List (ℕ × Event)) (pass : ℕ) (event : Event) (behind : List (ℕ × Event)) : Type 0 where
    earlier : List (ℕ × Choice)
    moment : Machine
    front : Leads shape m earlier moment
    told : told_along shape m earlier moment front ≡ before
    choice : Choice
    next : Machine
    step : Steps shape moment pass choice next
    tells : told_by_step shape moment pass choice next step ≡ Some event
    later : List (ℕ × Choice)
    back : Leads shape next later last
    rest : told_along shape next later last back ≡ behind

  cut_at : (m last : Machine) (steps : List (ℕ × Choice)) (leads : Leads shape m steps last) (before : List (ℕ × Event)) (pass : ℕ) (event : Event) (behind : List (ℕ × Event))
      → told_along shape m steps last leads ≡ before ++ (pass, event) ∷ behind → CutAt m last before pass event behind
  cut_at m last [] leads [] pass event behind is = absurd (cc)
  cut_at m last [] leads (x ∷ before) pass event behind is = absurd (cc)
  cut_at m last ((by, choice) ∷ later) leads before pass event behind is =
      go (λ front same. cut_at leads.0 last later leads.2 front pass event behind same) (told_by_step shape m by choice leads.0 leads.1) refl before is
    where
      rest : List (ℕ × Event)
      rest = told_along shape leads.0 later last leads.2

      -- the step was before it
      on : (before all : List (ℕ × Event)) → CutAt leads.0 last before pass event behind → adds by (told_by_step shape m by choice leads.0 leads.1) ++ before ≡ all → CutAt m last all pass event behind
      on before all c same = record {
        earlier = (by, choice) ∷ c.earlier;
        moment = c.moment;
        front = (leads.0, leads.1, c.front);
        told = ap (λ (es : List (ℕ × Event)). adds by (told_by_step shape m by choice leads.0 leads.1) ++ es) c.told ∙ same;
        choice = c.choice;
        next = c.next;
        step = c.step;
        tells = c.tells;
        later = c.later;
        back = c.back;
        rest = c.rest;
      }

      -- it is the step's
      now : (own : Event) → told_by_step shape m by choice leads.0 leads.1 ≡ Some own → by ≡ pass → own ≡ event → rest ≡ behind → CutAt m last [] pass event behind
      now own tells same is back = subst (λ (i : ℕ). CutAt m last [] i event behind) same (record {
        earlier = [];
        moment = m;
        front = refl;
        told = refl;
        choice = choice;
        next = leads.0;
        step = leads.1;
        tells = tells ∙ ap (λ (x : Event). Some x) is;
        later = later;
        back = leads.2;
        rest = back;
      })

      go : ((front : List (ℕ × Event)) → told_along shape leads.0 later last leads.2 ≡ front ++ (pass, event) ∷ behind → CutAt leads.0 last front pass event behind)
          → (e : Option Event) → told_by_step shape m by choice leads.0 leads.1 ≡ e → (before : List (ℕ × Event)) → adds by e ++ rest ≡ before ++ (pass, event) ∷ behind → CutAt m last before pass event behind
      go deeper None t before is = on before before (deeper before is) (ap (λ (e : Option Event). adds by e ++ before) t)
      go deeper (Some own) t [] is =
          let one : (by, own) ≡ (pass, event) = cc in
          let back : rest ≡ behind = cc in
          now own t (ap (λ (d : ℕ × Event). d.0) one) (ap (λ (d : ℕ × Event). d.1) one) back
      go deeper (Some own) t (x ∷ before) is =
          let one : (by, own) ≡ x = cc in
          let back : rest ≡ before ++ (pass, event) ∷ behind = cc in
          on before (x ∷ before) (deeper before back)
          (ap (λ (e : Option Event). adds by e ++ before) t ∙ ap (λ (d : ℕ × Event). d ∷ before) one)

pub histories_go_on : HistoriesGoOn
histories_go_on shape opening first m h steps last leads =
    let (all, same) = told-join shape (started shape h.start) m last h.steps steps h.leads leads in record {
      later = record { start = h.start; starts = h.starts; steps = h.steps ++ steps; leads = all };
      same_start = refl;
      all_steps = refl;
      order = same;
    }

pub histories_have_moments : HistoriesHaveMoments
histories_have_moments shape opening first m h earlier later is =
    let (all, same) = subst (λ (steps : List (ℕ × Choice)). Joined shape (started shape h.start) steps m (history_order h)) is (h.leads, refl) in
    let c = cut shape (started shape h.start) m earlier later all in record {
      moment = c.next;
      past = record { start = h.start; starts = h.starts; steps = earlier; leads = c.front };
      same_start = refl;
      first_steps = refl;
      leads = c.back;
      order = sym same ∙ c.same;
    }

pub histories_have_events : HistoriesHaveEvents
histories_have_events shape opening first m h before pass event behind is =
    let c = cut_at shape (started shape h.start) m h.steps h.leads before pass event behind is in record {
      moment = c.moment;
      past = record { start = h.start; starts = h.starts; steps = c.earlier; leads = c.front };
      same_start = refl;
      order = c.told;
      choice = c.choice;
      next = c.next;
      step = c.step;
      tells = c.tells;
      later = c.later;
      leads = c.back;
      rest = c.rest;
    }
