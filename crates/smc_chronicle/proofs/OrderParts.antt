-- Steps have one order, which is cut where they are.
use Rattle.std.proofs.Common.{◌≡◌, ℕ, Option, Some, List, [], ◌∷◌, ◌++◌, refl, sym, ap, ◌∙◌, subst}
use Rattle.smc_shape.specs.Layout.{Layout}
use Rattle.smc_model.specs.declared.event.Event.{Event}
use Rattle.smc_core.specs.declared.call.Choice.{Choice}
use Rattle.smc_core.specs.declared.local.Local.{Local}
use Rattle.smc_core.specs.declared.op.Offer.{Offer}
use Rattle.smc_core.specs.Change.{change}
use Rattle.smc_core.specs.Machine.{Machine, Leads, Steps, started, stepped, local_offer}
use Rattle.smc_core.specs.Row.{row_shows}
use Rattle.smc_core.specs.Told.{adds, told_along, told_by_step}
use Rattle.smc_core.specs.declared.local.Opening.{Opening}
use Rattle.smc_model.specs.World.{World}
use Rattle.smc_rules.specs.History.{History, history_order}
use Rattle.smc_rules.proofs.CarryLaws.{some-same}
use Rattle.smc_refine.proofs.GoingOn.{Joined, told-join}

module _ (shape : Layout) (m : Machine) (pass : ℕ) (choice : Choice) where
  abbrev event_of : Local → Offer → ℕ → Option Event
  event_of l o told = (change shape pass l.stand l.stand.section l.stand.phase choice told (row_shows shape o.op m.row)).event

  -- a pass takes one step for a choice
  steps-same : (one two : Machine) (a : Steps shape m pass choice one) (b : Steps shape m pass choice two)
      → (two ≡ one) × (told_by_step shape m pass choice two b ≡ told_by_step shape m pass choice one a)
  steps-same one two a b =
      let l : b.local ≡ a.local = some-same b.local a.local (sym b.here ∙ a.here) in
      let o : b.offered ≡ a.offered = some-same b.offered a.offered (sym b.offers ∙ (ap (λ (k : Local). local_offer shape pass k choice) l ∙ a.offers)) in
      let t : b.told ≡ a.told = some-same-ℕ b.told a.told (sym b.allows ∙ a.allows) in (
        b.leads ∙ (ap (λ (k : Local). stepped shape m pass k choice b.told b.offered.op) l
            ∙ (ap (λ (k : Offer). stepped shape m pass a.local choice b.told k.op) o ∙ (ap (λ (k : ℕ). stepped shape m pass a.local choice k a.offered.op) t ∙ sym a.leads))),
        ap (λ (k : Local). event_of k b.offered b.told) l ∙ (ap (λ (k : Offer). event_of a.local k b.told) o ∙ ap (λ (k : ℕ). event_of a.local a.offered k) t),
      )
    where
      some-same-ℕ : (x y : ℕ) → Some x ≡ Some y → x ≡ y
      some-same-ℕ x y is = some-same x y is

-- steps have one end and one order
pub told-one : (shape : Layout) (m : Machine) (steps : List (ℕ × Choice)) (last end : Machine) (a : Leads shape m steps last) (b : Leads shape m steps end)
    → (end ≡ last) × (told_along shape m steps last a ≡ told_along shape m steps end b)
told-one shape m [] last end a b = (sym b ∙ a, refl)
told-one shape m (first ∷ later) last end a b =
    let same : (b.0 ≡ a.0) × (told_by_step shape m first.0 first.1 b.0 b.1 ≡ told_by_step shape m first.0 first.1 a.0 a.1) = steps-same shape m first.0 first.1 a.0 b.0 a.1 b.1 in
    let told : List (ℕ × Event) = told_along shape b.0 later end b.2 in
    let moved : Joined shape a.0 later end told = subst (λ (k : Machine). Joined shape k later end told) same.0 (b.2, refl) in
    let rest : (end ≡ last) × (told_along shape a.0 later last a.2 ≡ told_along shape a.0 later end moved.0) = told-one shape a.0 later last end a.2 moved.0 in (
      rest.0,
      ap (λ (es : List (ℕ × Event)). adds first.0 (told_by_step shape m first.0 first.1 a.0 a.1) ++ es) (rest.1 ∙ moved.1)
          ∙ ap (λ (e : Option Event). adds first.0 e ++ told) (sym same.1),
    )

-- the order of a history, cut at this machine
pub order-cut : (shape : Layout) (opening : Opening) (first : World) (last : Machine) (h : History shape opening first last) (m : Machine) (earlier later : List (ℕ × Choice))
    → h.steps ≡ earlier ++ later → (here : Leads shape (started shape h.start) earlier m) (on : Leads shape m later last)
    → history_order h ≡ told_along shape (started shape h.start) earlier m here ++ told_along shape m later last on
order-cut shape opening first last h m earlier later splits here on =
    let (all, same) = told-join shape (started shape h.start) m last earlier later here on in
    let (own, is) = subst (λ (steps : List (ℕ × Choice)). Joined shape (started shape h.start) steps last (history_order h)) splits (h.leads, refl) in
    sym is ∙ ((told-one shape (started shape h.start) (earlier ++ later) last last own all).1 ∙ same)
