-- Steps that are computed are the steps that passes take, and a schedule that is played leads to where they reach.
use Rattle.std.specs.Prelude.{◌≡◌, ⊤, ℕ, zero, suc, Bool, true, false, Option, Some, None, List, [], ◌∷◌, ◌++◌, slice_get, if◌then◌else◌}
use Rattle.std.proofs.Common.{refl, sym, ap, ◌∙◌, subst}
use Rattle.std.proofs.lemmas.Option.{none-some, same_Some}
use Rattle.smc_shape.specs.Layout.{Layout}
use Rattle.smc_core.specs.declared.call.Choice.{Choice}
use Rattle.smc_core.specs.declared.call.Choice.TheVariants.{Start, Go}
use Rattle.smc_core.specs.declared.local.Local.{Local}
use Rattle.smc_core.specs.declared.op.Offer.{Offer}
use Rattle.smc_core.specs.Machine.{Machine, Steps, Leads, Reach, local_offer, told_by, stepped, started}
use Rattle.smc_core.specs.Played.{Line, Starts, Takes, Calls, Ends, Schedule, shape_of, opening_row, step_told, step_offered, step_local, step_of, rests, ended_in, taken, MANY, after_line, after_lines, played}

module _ (shape : Layout) (m : Machine) (pass : ℕ) (choice : Choice) (next : Machine) where
  taken_told : (l : Local) (offered : Offer) (told : Option ℕ)
      → slice_get m.locals pass ≡ Some l → local_offer shape pass l choice ≡ Some offered → told_by m.locals pass choice ≡ told
      → step_told shape m pass choice l offered told ≡ Some next → Steps shape m pass choice next
  taken_told l offered None here offers allows leads = absurd (none-some next leads)
  taken_told l offered (Some told) here offers allows leads = record {
    local = l;
    offered = offered;
    told = told;
    here = here;
    offers = offers;
    allows = allows;
    leads = sym (same_Some (stepped shape m pass l choice told offered.op) next leads);
  }

  taken_offered : (l : Local) (offered : Option Offer)
      → slice_get m.locals pass ≡ Some l → local_offer shape pass l choice ≡ offered
      → step_offered shape m pass choice l offered ≡ Some next → Steps shape m pass choice next
  taken_offered l None here offers leads = absurd (none-some next leads)
  taken_offered l (Some offered) here offers leads = taken_told l offered (told_by m.locals pass choice) here offers refl leads

  taken_local : (found : Option Local) → slice_get m.locals pass ≡ found
      → step_local shape m pass choice found ≡ Some next → Steps shape m pass choice next
  taken_local None here leads = absurd (none-some next leads)
  taken_local (Some l) here leads = taken_offered l (local_offer shape pass l choice) here refl leads

  -- a step that is computed is one that the pass takes
  pub computed_is_taken : step_of shape m pass choice ≡ Some next → Steps shape m pass choice next
  computed_is_taken leads = taken_local (slice_get m.locals pass) refl leads

  -- a step that a pass takes is the one that is computed
  pub taken_is_computed : Steps shape m pass choice next → step_of shape m pass choice ≡ Some next
  taken_is_computed step =
      ap (step_local shape m pass choice) step.here ∙ ap (step_offered shape m pass choice step.local) step.offers ∙
      ap (step_told shape m pass choice step.local step.offered) step.allows ∙ ap Some (sym step.leads)

-- one more step leads on
Leads-then : (shape : Layout) (first : Machine) (steps : List (ℕ × Choice)) (middle last : Machine) (pass : ℕ) (choice : Choice)
    → Leads shape first steps middle → Steps shape middle pass choice last → Leads shape first (steps ++ (pass, choice) ∷ []) last
Leads-then shape first [] middle last pass choice leads step = (last, subst (λ (m : Machine). Steps shape m pass choice last) (sym leads) step, refl)
Leads-then shape first (one ∷ later) middle last pass choice leads step =
    (leads.0, leads.1, Leads-then shape leads.0 later middle last pass choice leads.2 step)

module _ (shape : Layout) (first : Machine) where
  -- where there is a machine, some list of steps leads there
  abbrev Reaches : Option Machine → Type 0
  Reaches None = ⊤
  Reaches (Some last) = (steps : List (ℕ × Choice)) × Leads shape first steps last

  reaches_found : (m : Machine) (pass : ℕ) (choice : Choice) (found : Option Machine) → Reaches (Some m) → step_of shape m pass choice ≡ found → Reaches found
  reaches_found m pass choice None reached leads = tt
  reaches_found m pass choice (Some next) reached leads =
      (reached.0 ++ (pass, choice) ∷ [], Leads-then shape first reached.0 m next pass choice reached.1 (computed_is_taken shape m pass choice next leads))

  reaches_step : (m : Machine) (pass : ℕ) (choice : Choice) → Reaches (Some m) → Reaches (step_of shape m pass choice)
  reaches_step m pass choice reached = reaches_found m pass choice (step_of shape m pass choice) reached refl

  reaches_either : (test : Bool) (m n : Option Machine) → Reaches m → Reaches n → Reaches (if test then m else n)
  reaches_either true m n here there = here
  reaches_either false m n here there = there

  reaches_taken : (steps pass : ℕ) (m : Option Machine) → Reaches m → Reaches (taken steps shape pass m)
  reaches_taken zero pass m reached = reached
  reaches_taken (suc steps) pass None reached = tt
  reaches_taken (suc steps) pass (Some m) reached = reaches_taken steps pass (step_of shape m pass Go) (reaches_step m pass Go reached)

  reaches_ended : (steps pass : ℕ) (m : Option Machine) → Reaches m → Reaches (ended_in steps shape pass m)
  reaches_ended zero pass m reached = tt
  reaches_ended (suc steps) pass None reached = tt
  reaches_ended (suc steps) pass (Some m) reached =
      reaches_either (rests (slice_get m.locals pass)) (Some m) (ended_in steps shape pass (step_of shape m pass Go)) reached
      (reaches_ended steps pass (step_of shape m pass Go) (reaches_step m pass Go reached))

  reaches_line : (line : Line) (m : Option Machine) → Reaches m → Reaches (after_line shape line m)
  reaches_line line None reached = tt
  reaches_line (Starts pass call) (Some m) reached = reaches_step m pass (Start call) reached
  reaches_line (Takes pass steps) (Some m) reached = reaches_taken steps pass (Some m) reached
  reaches_line (Calls pass call) (Some m) reached = reaches_ended MANY pass (step_of shape m pass (Start call)) (reaches_step m pass (Start call) reached)
  reaches_line (Ends pass) (Some m) reached = reaches_ended MANY pass (Some m) reached

  reaches_lines : (lines : List Line) (m : Option Machine) → Reaches m → Reaches (after_lines shape lines m)
  reaches_lines [] m reached = reached
  reaches_lines (line ∷ later) m reached = reaches_lines later (after_line shape line m) (reaches_line line m reached)

-- a schedule that is played leads to a machine that steps reach
pub played_is_reached : (s : Schedule) (m : Machine) → played s ≡ Some m → Reach (shape_of s) (opening_row s) m.row m.locals
unfolding played
played_is_reached s m leads =
    subst (λ (found : Option Machine). Reaches (shape_of s) (started (shape_of s) (opening_row s)) found) leads
    (reaches_lines (shape_of s) (started (shape_of s) (opening_row s)) s.lines (Some (started (shape_of s) (opening_row s))) ([], refl))
