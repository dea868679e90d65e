-- What a machine that runs keeps at a step.
use Rattle.std.proofs.Common.{◌≡◌, ℕ, ◌<◌, zero, suc, false, Option, Some, List, [], ◌∷◌, length, replicate, set, get_or, IsSome, refl, sym, ap, ◌∙◌, subst, inl, inr}
use Rattle.std.specs.List.{slice_get}
use Rattle.std.proofs.lemmas.Bool.{cases_eq}
use Rattle.std.proofs.lemmas.List.{length-replicate, length-set}
use Rattle.std.proofs.lemmas.Option.{none-some, same_Some, slice_get_read}
use Rattle.smc_shape.specs.Layout.{Layout}
use Rattle.smc_core.specs.declared.call.Choice.{Choice}
use Rattle.smc_core.specs.declared.local.Local.{Local}
use Rattle.smc_core.specs.declared.op.Offer.{Offer}
use Rattle.smc_core.specs.Local.{fresh, after}
use Rattle.smc_core.specs.Machine.{Machine, Steps, local_offer, told_by}
use Rattle.smc_core.specs.Played.{step_local, step_offered, step_told, step_of}
use Rattle.smc_core.specs.Row.{row_after, row_shows}
use Rattle.smc_automaton.specs.Fits.{FitsStand}
use Rattle.smc_machine.specs.Chosen.{IsChosen}
use Rattle.smc_machine.specs.declared.machine.Chosen.{Chosen}
use Rattle.smc_machine.specs.declared.step.Step.{Step}
use Rattle.smc_machine.specs.declared.step.StepFault.{StepFault}
use Rattle.smc_machine.specs.declared.step.StepFault.TheVariants.{NoPass, NotOffered, CountSpent, NoMemory}
use Rattle.smc_machine.specs.Faults.{IsAllowed, IsRefused, IsRefusedFirst, is_spent, is_spent_in}
use Rattle.smc_machine.specs.Running.{Running, IsRunning, Tells, running}

-- each of so many copies is the one that was copied
slice_get-replicate : {A : Type 0} (n i : ℕ) (x y : A) → slice_get (replicate n x) i ≡ Some y → x ≡ y
slice_get-replicate zero i x y found = absurd (none-some y found)
slice_get-replicate (suc n) zero x y found = same_Some x y found
slice_get-replicate (suc n) (suc i) x y found = slice_get-replicate n i x y found

-- what stands at a place where it was set
slice_get-set_same : {A : Type 0} (xs : List A) (i : ℕ) (y z : A) → slice_get (set xs i y) i ≡ Some z → y ≡ z
slice_get-set_same [] i y z found = absurd (none-some z found)
slice_get-set_same (x ∷ xs) zero y z found = same_Some y z found
slice_get-set_same (x ∷ xs) (suc i) y z found = slice_get-set_same xs i y z found

-- at any other place what stood there
slice_get-set_other : {A : Type 0} (xs : List A) (i j : ℕ) (y : A) → (j ≡ i → ⊥) → slice_get (set xs i y) j ≡ slice_get xs j
slice_get-set_other [] i j y other = refl
slice_get-set_other (x ∷ xs) zero zero y other = absurd (other refl)
slice_get-set_other (x ∷ xs) zero (suc j) y other = refl
slice_get-set_other (x ∷ xs) (suc i) zero y other = refl
slice_get-set_other (x ∷ xs) (suc i) (suc j) y other = slice_get-set_other xs i j y (λ same. other (ap suc same))

-- passes that have done nothing yet
pub IsRunning-started : (shape : Layout) (locals : List Local) → locals ≡ replicate shape.passes (fresh shape)
    → ((shape : Layout) → FitsStand shape (fresh shape).stand) → IsRunning shape locals
IsRunning-started shape locals all fits = record {
  here = ap length all ∙ length-replicate shape.passes (fresh shape);
  fits = λ pass l found.
      let one : fresh shape ≡ l = slice_get-replicate shape.passes pass (fresh shape) l (sym (ap (λ (ls : List Local). slice_get ls pass) all) ∙ found) in
      subst (λ (l : Local). FitsStand shape l.stand) one (fits shape);
}

-- one pass has moved on, and still keeps its ranges
pub IsRunning-set : (shape : Layout) (locals : List Local) (pass : ℕ) (new : Local) → IsRunning shape locals → FitsStand shape new.stand
    → IsRunning shape (set locals pass new)
IsRunning-set shape locals pass new running fits = record {
  here = length-set locals pass new ∙ running.here;
  fits = λ other l found. elim (cases_eq other pass) [
    | inl same ↦
        let found_there : slice_get (set locals pass new) pass ≡ Some l = subst (λ (i : ℕ). slice_get (set locals pass new) i ≡ Some l) same found in
        subst (λ (l : Local). FitsStand shape l.stand) (slice_get-set_same locals pass new l found_there) fits
    | inr differs ↦ running.fits other l (sym (slice_get-set_other locals pass other new differs) ∙ found)
  ];
}

module _ (shape : Layout) (row : List ℕ) (locals : List Local) (pass : ℕ) (choice : Choice) (l : Local) (offered : Offer) (told : ℕ) where
  -- the machine before the step, and after it
  abbrev before : Machine
  before = record { row = row; locals = locals }

  abbrev then : Machine
  then = record { row = row_after shape offered.op row; locals = set locals pass (after shape pass l choice told (row_shows shape offered.op row)) }

  module _ (here : slice_get locals pass ≡ Some l) (offers : local_offer shape pass l choice ≡ Some offered) (allows : told_by locals pass choice ≡ Some told) where
    -- the step that is taken
    pub Steps-taken : Steps shape before pass choice then
    Steps-taken = record { local = l; offered = offered; told = told; here = here; offers = offers; allows = allows; leads = refl }

    -- is the one that is computed
    step_of-taken : step_of shape before pass choice ≡ Some then
    step_of-taken =
        ap (step_local shape before pass choice) here ∙ ap (step_offered shape before pass choice l) offers ∙ ap (step_told shape before pass choice l offered) allows

    -- so nothing but want of memory keeps the pass from it
    pub IsAllowed-taken : pass < shape.passes → is_spent l.stand choice ≡ false → IsAllowed (record { shape = shape; machine = before }) pass choice
    IsAllowed-taken within counts = record {
      here = within;
      offered = subst (λ (m : Option Machine). IsSome m) (sym step_of-taken) refl;
      counts = ap (λ (found : Option Local). is_spent_in found choice) here ∙ counts;
    }

-- what is refused first is refused
pub IsRefused-first : (m : Running) (pass : ℕ) (choice : Choice) (fault : StepFault) → IsRefusedFirst m pass choice fault → IsRefused m pass choice fault
IsRefused-first m pass choice NoPass refused = refused
IsRefused-first m pass choice NotOffered refused = refused
IsRefused-first m pass choice CountSpent refused = refused
IsRefused-first m pass choice NoMemory refused = absurd refused

module _ (shape : Layout) (row : List ℕ) (locals : List Local) (pass : ℕ) (choice : Choice) (l : Local) (chosen : Chosen)
    (is : IsRunning shape locals) (picked : IsChosen shape locals pass choice chosen) (read : l ≡ get_or locals pass l) where
  -- the pass that was read
  here-read : slice_get locals pass ≡ Some l
  here-read = slice_get_read locals (length locals) pass l refl (rw is.here picked.here) read

  pub fits-read : FitsStand shape l.stand
  fits-read = is.fits pass l here-read

  pub offers-read : local_offer shape pass l choice ≡ Some chosen.offer
  offers-read = picked.offers l here-read

  pub counts-read : is_spent l.stand choice ≡ false
  counts-read = picked.counts l here-read

  pub allowed-read : IsAllowed (running shape row locals) pass choice
  allowed-read = IsAllowed-taken shape row locals pass choice l chosen.offer chosen.told here-read offers-read picked.allows picked.here counts-read

  -- once it has moved on
  module _ (next : Local) where
    pub running-next : (other : Layout) → other ≡ shape → FitsStand shape next.stand → IsRunning other (set locals pass next)
    running-next other same fits = subst (λ (s : Layout). IsRunning s (set locals pass next)) (sym same) (IsRunning-set shape locals pass next is fits)

    pub steps-next : (numbers : List ℕ) → numbers ≡ row_after shape chosen.offer.op row
        → next ≡ after shape pass l choice chosen.told (row_shows shape chosen.offer.op row)
        → Steps shape (record { row = row; locals = locals }) pass choice (record { row = numbers; locals = set locals pass next })
    steps-next numbers applied moved =
        subst (λ (n : List ℕ). Steps shape (record { row = row; locals = locals }) pass choice (record { row = n; locals = set locals pass next })) (sym applied)
        (subst (λ (p : Local). Steps shape (record { row = row; locals = locals }) pass choice (record { row = row_after shape chosen.offer.op row; locals = set locals pass p })) (sym moved)
        (Steps-taken shape row locals pass choice l chosen.offer chosen.told here-read offers-read picked.allows))

    pub tells-next : (step : Step) → Tells l next step → (old new : Local) → slice_get locals pass ≡ Some old → slice_get (set locals pass next) pass ≡ Some new
        → Tells old new step
    tells-next step tells old new found after_found =
        subst (λ (o : Local). Tells o new step) (same_Some l old (sym here-read ∙ found))
        (subst (λ (n : Local). Tells l n step) (slice_get-set_same locals pass next new after_found) tells)
