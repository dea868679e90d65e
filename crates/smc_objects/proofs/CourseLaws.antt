-- A scan is found among those of its section, whatever they come to.
use Rattle.std.proofs.Common.{◌≡◌, ℕ, ◌<◌, ◌≤◌, Bool, true, Some, List, [], ◌∷◌, ◌++◌, length, refl, sym, subst, ap, ◌∙◌, arith, eq-eqb}
use Rattle.std.specs.Prelude.{slice_get}
use Rattle.std.proofs.lemmas.Option.{slice_get_within}
use Rattle.smc_shape.specs.Layout.{Layout, slots_of}
use Rattle.smc_model.specs.World.{empty_world}
use Rattle.smc_core.specs.declared.local.Local.{Local}
use Rattle.smc_core.specs.declared.local.Scan.{Scan}
use Rattle.smc_core.specs.declared.local.Stand.{Stand}
use Rattle.smc_core.specs.Scan.{ended, passed, scan_of, scan_number}
use Rattle.smc_bounds.specs.Kept.{AreBelow}
use Rattle.smc_bounds.proofs.KeptLaws.{kept-then}
use Rattle.smc_bounds.proofs.ScanLists.{begun-same, below-none, closed, ended-same, passed-same, placed}
use Rattle.smc_region.specs.Callers.{Caller}
use Rattle.smc_region.specs.Choices.{number_of}
use Rattle.smc_region.specs.Reached.{From}
use Rattle.smc_region.specs.Views.{one}
use Rattle.smc_region.proofs.StepLaws.{was}
use Rattle.smc_objects.specs.declared.scan.Scan as objects
use Rattle.smc_objects.specs.Scans.{IsScanOf}
use Rattle.smc_objects.proofs.ScanLaws.{number-passed, number-ended, number-begun}

-- the scan with this index among these has come so far
abbrev pub IsCourse : List Scan → ℕ → ℕ → ℕ → Bool → Type 0
IsCourse scans index coll place over = scan_of scans (number_of (slice_get scans index))
    ≡ Some (record { number = number_of (slice_get scans index); coll = coll; place = place; ended = over })

pub course-passed : (scans : List Scan) (index coll place next : ℕ) (over : Bool) → IsCourse scans index coll place over
    → IsCourse (passed scans (number_of (slice_get scans index)) next) index coll next over
course-passed scans index coll place next over h =
    let n : ℕ = number_of (slice_get scans index) in
    subst (λ (k : ℕ). scan_of (passed scans n next) k ≡ Some (record { number = k; coll = coll; place = next; ended = over })) (sym (number-passed scans n next index))
    (passed-same scans n next ∙ ap (placed next) h)

pub course-ended : (scans : List Scan) (index coll place : ℕ) (over : Bool) → IsCourse scans index coll place over
    → IsCourse (ended scans (number_of (slice_get scans index))) index coll place true
course-ended scans index coll place over h =
    let n : ℕ = number_of (slice_get scans index) in
    subst (λ (k : ℕ). scan_of (ended scans n) k ≡ Some (record { number = k; coll = coll; place = place; ended = true })) (sym (number-ended scans n index))
    (ended-same scans n ∙ ap closed h)

pub course-begun : (scans : List Scan) (new : Scan) → AreBelow new.number scans → IsCourse (scans ++ new ∷ []) (length scans) new.coll new.place new.ended
course-begun scans new below =
    subst (λ (k : ℕ). scan_of (scans ++ new ∷ []) k ≡ Some (record { number = k; coll = new.coll; place = new.place; ended = new.ended })) (sym (number-begun scans new))
    (begun-same scans new new.number (eq-eqb new.number new.number refl) (below-none scans new.number below))

-- in a state that is reached, no scan of a section has the number of the next one
pub next_is_new : (shape : Layout) (pass : ℕ) (l : Local) → From (one shape pass l) → AreBelow (scan_number pass l.stand.begun) l.stand.scans
next_is_new shape pass l f =
    let r = f.reached in
    let b = kept-then shape r.valid f.opening empty_world f.machine (was r) in
    let within : pass < shape.passes = omega (arith, slice_get_within f.machine.locals pass l f.stands.0, b.backs.count) in
    subst (λ (k : Stand). AreBelow (scan_number pass k.begun) k.scans) (b.backs.same pass l f.stands.0) (b.rule.each pass within).below

-- a scan is what it was while no scan goes on
pub scan-kept : (old new : Caller) (one : objects.Scan) → new.shape ≡ old.shape → new.local.stand.scans ≡ old.local.stand.scans → IsScanOf old one → IsScanOf new one
scan-kept old new one shape scans is = record {
  coll = subst (λ (k : Layout). one.coll < length k.colls) (sym shape) is.coll;
  within = subst (λ (k : Layout). one.place ≤ slots_of k one.coll) (sym shape) is.within;
  here = subst
      (λ (k : List Scan). scan_of k (number_of (slice_get k one.scan))
      ≡ Some (record { number = number_of (slice_get k one.scan); coll = one.coll; place = one.place; ended = one.ended })) (sym scans) is.here;
}
