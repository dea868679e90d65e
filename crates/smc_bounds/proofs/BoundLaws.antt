-- A call that is started and gone on with stays within its bound.
use Rattle.std.proofs.Common.{◌≡◌, ℕ, zero, suc, ◌+◌, ◌<◌, ◌≤◌, ◌==◌, Bool, true, false, Option, Some, None, List, [], ◌∷◌, refl, sym, subst, ap, ◌∙◌, inl, inr, arith}
use Rattle.std.specs.Prelude.{◌⊎◌, IsTrue, is_some, replicate, slice_get, if◌then◌else◌}
use Rattle.std.proofs.lemmas.Bool.{eqb-true, eqb-false}
use Rattle.std.proofs.lemmas.Option.{slice_get_within}
use Rattle.smc_shape.specs.Layout.{Layout, IsShape, width_of}
use Rattle.smc_core.specs.declared.call.Call.{Call}
use Rattle.smc_core.specs.declared.call.Choice.{Choice}
use Rattle.smc_core.specs.declared.call.Choice.TheVariants.{Start, Go}
use Rattle.smc_core.specs.declared.local.Local.{Local}
use Rattle.smc_core.specs.declared.local.Stand.{Stand}
use Rattle.smc_core.specs.declared.op.Offer.{Offer}
use Rattle.smc_core.specs.declared.phase.Phase.{Phase}
use Rattle.smc_core.specs.declared.phase.Phase.TheVariants as phase
use Rattle.smc_core.specs.declared.section.Section.{Section}
use Rattle.smc_core.specs.declared.section.Section.TheVariants.{Outside, Loaded, Announced, Again, Lasting, Inside}
use Rattle.smc_core.specs.declared.word.Word.TheVariants as word
use Rattle.smc_core.specs.Local.{after}
use Rattle.smc_core.specs.Machine.{Leads, Machine, Steps}
use Rattle.smc_core.specs.Offer.{go_offer}
use Rattle.smc_core.specs.Row.{row_shows}
use Rattle.smc_rules.specs.Mirror.{anywhere}
use Rattle.smc_rules.specs.State.{Backed}
use Rattle.smc_rules.proofs.CarryLaws.{along, backed_step, get-set_other, get-set_same, some-same}
use Rattle.smc_inv_range.specs.Calls.{InOwned}
use Rattle.smc_inv_bound.specs.Left.{steps_left}
use Rattle.smc_inv_bound.proofs.StepLaws.{any_owners, go-falls}
use Rattle.smc_aside.specs.Makes.{own_choices}
use Rattle.smc_bounds.specs.Bounds.{CallsAreBounded, IsWithin, most_steps}
use Rattle.smc_bounds.specs.Kept.{Enters, Kept}
use Rattle.smc_bounds.proofs.KeptLaws.{kept-kept, kept-then, owners_shown}
use Rattle.smc_bounds.proofs.StartLaws.{by_width, started-fits}

module _ (shape : Layout) (valid : IsShape shape) (pass : ℕ) where
  -- what the call in progress has left
  abbrev left : Local → ℕ
  left l = steps_left shape (width_of shape) l.stand.section l.stand.phase

  -- the pass has taken its steps, and what its call has left, within so many
  pub record Under (m : Machine) (bound : ℕ) : Type 0 where
    local : Local
    here : slice_get m.locals pass ≡ Some local
    under : local.steps + left local ≤ bound

  -- all that is known of a machine
  abbrev pub Known : Machine → Type 0
  Known m = Backed shape anywhere (Kept shape) m.row m.locals

  pub known-step : (m next : Machine) (who : ℕ) (choice : Choice) → Known m → Steps shape m who choice next → Known next
  known-step m next who choice b step = backed_step shape anywhere valid (Kept shape) (kept-kept shape valid) m who choice next b step

  -- a step of another pass leaves this one
  pub left_alone : (m next : Machine) (who : ℕ) (choice : Choice) → Steps shape m who choice next → (who == pass) ≡ false → slice_get next.locals pass ≡ slice_get m.locals pass
  left_alone m next who choice step other =
      ap (λ (k : Machine). slice_get k.locals pass) step.leads
      ∙ get-set_other m.locals who pass _ (λ e. absurd (eqb-false who pass other (sym e)))

  -- what an own step leaves of this one
  pub own_after : (m next : Machine) (choice : Choice) (step : Steps shape m pass choice next)
      → slice_get next.locals pass ≡ Some (after shape pass step.local choice step.told (row_shows shape step.offered.op m.row))
  own_after m next choice step = ap (λ (k : Machine). slice_get k.locals pass) step.leads ∙ get-set_same m.locals pass step.local _ step.here

  -- going on
  under-go : (m next : Machine) (bound : ℕ) → Known m → Steps shape m pass Go next → Under m bound → Under next bound
  under-go m next bound b step u =
      let l : Local = step.local in
      let same : u.local ≡ l = some-same u.local l (sym u.here ∙ step.here) in
      record {
        local = after shape pass l Go step.told (row_shows shape step.offered.op m.row);
        here = own_after m next Go step;
        under = omega (
          arith,
          u.under,
          ap (λ (k : Local). k.steps) same,
          ap left same,
          go-falls shape (width_of shape) pass l.stand l.stand.section l.stand.phase step.offered (row_shows shape step.offered.op m.row) (by_width shape) (owners_shown shape valid m next pass step b) step.offers,
        );
      }

  under-other : (m next : Machine) (bound who : ℕ) (choice : Choice) → Steps shape m who choice next → (who == pass) ≡ false → Under m bound → Under next bound
  under-other m next bound who choice step other u = record { local = u.local; here = left_alone m next who choice step other ∙ u.here; under = u.under }

  -- through a list of steps
  going : (m last : Machine) (steps : List (ℕ × Choice)) (more bound : ℕ) → Known m → Leads shape m steps last → own_choices pass steps ≡ replicate more Go → Under m bound → Under last bound
  going m last [] more bound b leads own u = subst (λ (k : Machine). Under k bound) leads u
  going m last (first ∷ later) more bound b leads own u =
      turn (λ n rest under. going leads.0 last later n bound (known-step m leads.0 first.0 first.1 b leads.1) leads.2 rest under) (first.0 == pass) refl own
    where
      taken : ((n : ℕ) → own_choices pass later ≡ replicate n Go → Under leads.0 bound → Under last bound) → first.0 ≡ pass
          → (n : ℕ) → first.1 ∷ own_choices pass later ≡ replicate n Go → Under last bound
      taken on who zero own = cc
      taken on who (suc n) own =
          let chosen : first.1 ≡ Go = cc in
          let rest : own_choices pass later ≡ replicate n Go = cc in
          let step : Steps shape m pass Go leads.0 = subst (λ (c : Choice). Steps shape m pass c leads.0) chosen (subst (λ (i : ℕ). Steps shape m i first.1 leads.0) who leads.1) in
          on n rest (under-go m leads.0 bound b step u)

      turn : ((n : ℕ) → own_choices pass later ≡ replicate n Go → Under leads.0 bound → Under last bound)
          → (mine : Bool) → (first.0 == pass) ≡ mine → (if mine then first.1 ∷ own_choices pass later else own_choices pass later) ≡ replicate more Go → Under last bound
      turn on false e own = on more own (under-other m leads.0 bound first.0 first.1 leads.1 e u)
      turn on true e own = taken on (eqb-true first.0 pass e) more own

  -- the first step
  under-start : (m next : Machine) (k : Call) (first : Local) → Known m → Steps shape m pass (Start k) next → slice_get m.locals pass ≡ Some first
      → Under next (first.steps + most_steps shape first.stand k)
  under-start m next k first b step here =
      let l : Local = step.local in
      let same : first ≡ l = some-same first l (sym here ∙ step.here) in
      let within : pass < shape.passes = omega (arith, slice_get_within m.locals pass l step.here, b.backs.count) in
      let round : InOwned shape l.stand.round = subst (λ (s : Stand). InOwned shape s.round) (b.backs.same pass l step.here) (b.rule.ranges.stands pass within).round in
      record {
        local = after shape pass l (Start k) step.told (row_shows shape step.offered.op m.row);
        here = own_after m next (Start k) step;
        under = omega (
          arith,
          ap (λ (k : Local). k.steps) same,
          ap (λ (one : Local). most_steps shape one.stand k) same,
          started-fits shape valid pass l.stand round l.stand.section l.stand.phase k step.offered step.told (row_shows shape step.offered.op m.row) step.offers,
        );
      }

  -- a call that is started, and gone on with
  begun : (m last : Machine) (steps : List (ℕ × Choice)) (more : ℕ) (k : Call) (first : Local) → Known m → Leads shape m steps last → own_choices pass steps ≡ Start k ∷ replicate more Go
      → slice_get m.locals pass ≡ Some first → Under last (first.steps + most_steps shape first.stand k)
  begun m last [] more k first b leads own here = cc
  begun m last (one ∷ later) more k first b leads own here =
      turn (λ rest there. begun leads.0 last later more k first (known-step m leads.0 one.0 one.1 b leads.1) leads.2 rest there) (one.0 == pass) refl own
    where
      turn : (own_choices pass later ≡ Start k ∷ replicate more Go → slice_get leads.0.locals pass ≡ Some first → Under last (first.steps + most_steps shape first.stand k))
          → (mine : Bool) → (one.0 == pass) ≡ mine → (if mine then one.1 ∷ own_choices pass later else own_choices pass later) ≡ Start k ∷ replicate more Go
          → Under last (first.steps + most_steps shape first.stand k)
      turn on false e own = on own (left_alone m leads.0 one.0 one.1 leads.1 e ∙ here)
      turn on true e own =
          let chosen : one.1 ≡ Start k = cc in
          let rest : own_choices pass later ≡ replicate more Go = cc in
          let who : one.0 ≡ pass = eqb-true one.0 pass e in
          let step : Steps shape m pass (Start k) leads.0 = subst (λ (c : Choice). Steps shape m pass c leads.0) chosen (subst (λ (i : ℕ). Steps shape m i one.1 leads.0) who leads.1) in
          going leads.0 last later more _ (known-step m leads.0 one.0 one.1 b leads.1) leads.2 rest (under-start m leads.0 k first b step here)

  -- a call in progress offers its next step
  enter_offered : (section : Section) → Enters section phase.Entering → IsTrue (is_some (go_offer pass (record { section = section; phase = phase.Entering; held = []; scans = []; begun = 0; noted = 0; words = []; round = None }) section phase.Entering))
  enter_offered Outside e = e
  enter_offered (Loaded seen) e = refl
  enter_offered (Announced seen) e = refl
  enter_offered (Again seen epoch) e = refl
  enter_offered (Lasting epoch) e = refl
  enter_offered (Inside epoch calm) e = e

  idle_or_offered : (stand : Stand) (section : Section) (next : Phase) → Enters section next → (next ≡ phase.Idle) ⊎ IsTrue (is_some (go_offer pass stand section next))
  idle_or_offered stand section phase.Idle e = inl refl
  idle_or_offered stand section phase.Entering e = inr (enter_offered section e)
  idle_or_offered stand section (phase.Advancing epoch other) e = inr refl
  idle_or_offered stand section (phase.Ready epoch) e = inr refl
  idle_or_offered stand section (phase.Look next) e = inr refl
  idle_or_offered stand section (phase.Add next) e = inr refl
  idle_or_offered stand section (phase.Remove next) e = inr refl
  idle_or_offered stand section (phase.Scan next) e = inr refl
  idle_or_offered stand section (phase.Begin next) e = inr refl
  idle_or_offered stand section (phase.Finish next) e = inr refl
  idle_or_offered stand section (phase.Cancel next) e = inr refl
  idle_or_offered stand section (phase.Survey next) e = inr refl

  -- where it does, it has a step left
  some_left : (stand : Stand) (section : Section) (next : Phase) → IsTrue (is_some (go_offer pass stand section next)) → 0 < steps_left shape (width_of shape) section next
  some_left stand section next u = go (go_offer pass stand section next) refl u
    where
      go : (o : Option Offer) → go_offer pass stand section next ≡ o → IsTrue (is_some o) → 0 < steps_left shape (width_of shape) section next
      go None e u = cc
      go (Some o) e u =
          omega (arith, go-falls shape (width_of shape) pass stand section next o (word.Plain 0) (by_width shape) (any_owners (width_of shape) next (word.Plain 0) (λ coll owner is. cc)) e)

  -- so the call has ended, or goes on within the bound
  within-bound : (m : Machine) (first now : Local) (most : ℕ) → Known m → slice_get m.locals pass ≡ Some now → Under m (first.steps + most) → IsWithin shape pass first now most
  within-bound m first now most b here u =
      let same : u.local ≡ now = some-same u.local now (sym u.here ∙ here) in
      let under : now.steps + left now ≤ first.steps + most = omega (arith, u.under, ap (λ (k : Local). k.steps) same, ap left same) in
      let within : pass < shape.passes = omega (arith, slice_get_within m.locals pass now here, b.backs.count) in
      let enters : Enters now.stand.section now.stand.phase = subst (λ (s : Stand). Enters s.section s.phase) (b.backs.same pass now here) (b.rule.each pass within).enters in
      record {
        few = omega (arith, under);
        ends = elim (idle_or_offered now.stand now.stand.section now.stand.phase enters) [
          | inl idle ↦ inl idle
          | inr offered ↦ inr (offered, omega (arith, under, some_left now.stand now.stand.section now.stand.phase offered))
        ];
      }

-- in every state that steps reach
pub calls-bounded : CallsAreBounded
calls-bounded shape opening world m last steps pass more started first now valid h leads own here there =
    let b : Backed shape anywhere (Kept shape) m.row m.locals = kept-then shape valid opening world m h in
    within-bound shape valid pass last first now (most_steps shape first.stand started) (along shape anywhere valid (Kept shape) (kept-kept shape valid) m steps last b leads) there
    (begun shape valid pass m last steps more started first b leads own here)
