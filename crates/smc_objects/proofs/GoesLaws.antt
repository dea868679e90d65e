-- What going on with a scan leaves of its pass, as what it does.
use Rattle.std.proofs.Common.{◌≡◌, ℕ, suc, ◌+◌, ◌<◌, ◌≤◌, ◌==◌, Bool, true, false, Option, Some, None, List, [], ◌∷◌, ◌++◌, length, refl, sym, subst, ap, ◌∙◌, arith}
use Rattle.std.specs.Prelude.{IfSome, IfNone, if◌then◌else◌, slice_get, Contains}
use Rattle.std.proofs.lemmas.List.{length-append}
use Rattle.smc_shape.specs.Layout.{slots_of}
use Rattle.smc_core.specs.declared.local.Local.{Local}
use Rattle.smc_core.specs.declared.local.Scan as core
use Rattle.smc_core.specs.declared.phase.Phase.TheVariants.{Idle}
use Rattle.smc_shape.specs.Layout.{Layout}
use Rattle.smc_core.specs.Scan.{ended, new_scan, passed, scan_number}
use Rattle.smc_region.specs.declared.held.Held.{Held}
use Rattle.smc_region.specs.Callers.{Caller, IsSame}
use Rattle.smc_trace.specs.Named.{begins, comes_to}
use Rattle.smc_trace.specs.Trace.{CallEnd}
use Rattle.smc_trace.proofs.TraceSteps.{tells-nothing}
use Rattle.smc_does.specs.Does.{Does, Stays, pair_of}
use Rattle.smc_does.proofs.Bridges.{does-by, stays-by, tells-one}
use Rattle.smc_does.proofs.Holdings.{contains-first, contains-later}
use Rattle.smc_objects.specs.declared.scan.Scan.{Scan}
use Rattle.smc_objects.specs.Scanning.{ending, number_at, visiting}
use Rattle.smc_objects.specs.Scans.{Comes, Ends, GoesOn, Visits, beginning, goes_on, scan_in}
use Rattle.smc_objects.proofs.ScanLaws.{number-passed, number-ended, number-begun}

-- passing slots, and ending, keep how many scans there are
length-passed : (scans : List core.Scan) (k place : ℕ) → length (passed scans k place) ≡ length scans
length-passed [] k place = refl
length-passed (one ∷ later) k place = go (one.number == k) (length-passed later k place)
  where
    go : (b : Bool) → length (passed later k place) ≡ length later → length (if b then record one { place = place } ∷ later else one ∷ passed later k place) ≡ length (one ∷ later)
    go true e = refl
    go false e = ap (λ (n : ℕ). suc n) e

length-ended : (scans : List core.Scan) (k : ℕ) → length (ended scans k) ≡ length scans
length-ended [] k = refl
length-ended (one ∷ later) k = go (one.number == k) (length-ended later k)
  where
    go : (b : Bool) → length (ended later k) ≡ length later → length (if b then record one { ended = true } ∷ later else one ∷ ended later k) ≡ length (one ∷ later)
    go true e = refl
    go false e = ap (λ (n : ℕ). suc n) e

-- ---- a begin

pub begin-does : (old new : Caller) (coll index : ℕ) → IsSame old new → new.local ≡ beginning old.number old.local coll → index ≡ length old.local.stand.scans
    → Does old new (begins (number_at new.local index) coll)
begin-does old new coll index same is at =
    let l : Local = beginning old.number old.local coll in
    let number : number_at new.local index ≡ scan_number old.number old.local.stand.begun =
    ap (λ (k : ℕ). number_at new.local k) at
    ∙ (ap (λ (k : Local). number_at k (length old.local.stand.scans)) is ∙ number-begun old.local.stand.scans (new_scan (scan_number old.number old.local.stand.begun) coll)) in
    subst (λ (k : ℕ). Does old new (begins k coll)) (sym number)
    (does-by old new l (begins (scan_number old.number old.local.stand.begun) coll) same is (tells-one old.local l _ _ refl refl) refl)

pub begin-stays : (old new : Caller) (coll : ℕ) → new.local ≡ beginning old.number old.local coll → Stays old new
begin-stays old new coll is = stays-by old new (beginning old.number old.local coll) is refl refl (λ x has. has)

pub begin-scans : (old new : Caller) (coll : ℕ) → new.local ≡ beginning old.number old.local coll → length new.local.stand.scans ≡ length old.local.stand.scans + 1
begin-scans old new coll is =
    ap (λ (k : Local). length k.stand.scans) is ∙ length-append old.local.stand.scans (new_scan (scan_number old.number old.local.stand.begun) coll ∷ [])

-- ---- going on

module _ (old new : Caller) (one now : Scan) where
  abbrev Number : ℕ
  Number = number_at old.local one.scan

  pub goes-does : (found : Option Held) (over : Bool) → one.ended ≡ over → IsSame old new → GoesOn found over old.shape old.local new.local one now → Does old new (goes_on (scan_in old one) found)
  goes-does (Some held) over is same goes =
      let l : Local = visiting old.local Number held.number held.place new.local.steps in
      does-by old new l (comes_to Number (Some (pair_of held))) same goes.1.told (tells-one old.local l _ _ refl refl) refl
  goes-does None true is same goes =
      subst (λ (b : Bool). Does old new (if b then [] else comes_to Number None)) (sym is)
      (does-by old new old.local [] same goes.0 (tells-nothing old.local) refl)
  goes-does None false is same goes =
      let l : Local = ending old.local Number now.place new.local.steps in
      subst (λ (b : Bool). Does old new (if b then [] else comes_to Number None)) (sym is)
      (does-by old new l (comes_to Number None) same goes.told (tells-one old.local l _ _ refl refl) refl)

  pub goes-stays : (found : Option Held) (over : Bool) → old.local.stand.phase ≡ Idle → GoesOn found over old.shape old.local new.local one now → Stays old new
  goes-stays (Some held) over same goes =
      stays-by old new (visiting old.local Number held.number held.place new.local.steps) goes.1.told refl refl (λ x has. contains-later old.local.stand.held (pair_of held) x has)
  goes-stays None true same goes = record { section = ap (λ (k : Local). k.stand.section) goes.0; idle = ap (λ (k : Local). k.stand.phase) goes.0 ∙ same; held = λ x has. subst (λ (k : Local). Contains k.stand.held x) (sym goes.0) has }
  goes-stays None false same goes = stays-by old new (ending old.local Number now.place new.local.steps) goes.told refl refl (λ x has. has)

  pub goes-scans : (found : Option Held) (over : Bool) → GoesOn found over old.shape old.local new.local one now → length new.local.stand.scans ≡ length old.local.stand.scans
  goes-scans (Some held) over goes = ap (λ (k : Local). length k.stand.scans) goes.1.told ∙ length-passed old.local.stand.scans Number (held.place + 1)
  goes-scans None true goes = ap (λ (k : Local). length k.stand.scans) goes.0
  goes-scans None false goes =
      ap (λ (k : Local). length k.stand.scans) goes.told
      ∙ (length-ended (passed old.local.stand.scans Number now.place) Number ∙ length-passed old.local.stand.scans Number now.place)

  pub goes-number : (found : Option Held) (over : Bool) → now.scan ≡ one.scan → GoesOn found over old.shape old.local new.local one now → number_at new.local now.scan ≡ Number
  goes-number found over still goes = ap (λ (k : ℕ). number_at new.local k) still ∙ go found over goes
    where
      go : (found : Option Held) (over : Bool) → GoesOn found over old.shape old.local new.local one now → number_at new.local one.scan ≡ Number
      go (Some held) over goes = ap (λ (k : Local). number_at k one.scan) goes.1.told ∙ number-passed old.local.stand.scans Number (held.place + 1) one.scan
      go None true goes = ap (λ (k : Local). number_at k one.scan) goes.0
      go None false goes =
          ap (λ (k : Local). number_at k one.scan) goes.told
          ∙ (number-ended (passed old.local.stand.scans Number now.place) Number one.scan ∙ number-passed old.local.stand.scans Number now.place one.scan)

  pub goes-visits : (found : Option Held) (over : Bool) → one.ended ≡ over → new.shape ≡ old.shape → IfSome found (λ held. held.number.coll ≡ one.coll)
      → GoesOn found over old.shape old.local new.local one now → IfSome found (Visits new (scan_in old one) (scan_in new now))
  goes-visits (Some held) over is same home goes = record {
    holds = subst (λ (k : Local). Contains k.stand.held (pair_of held)) (sym goes.1.told) (contains-first old.local.stand.held (pair_of held));
    home = home;
    ahead = goes.1.ahead;
    passes = goes.1.place;
    slot = subst (λ (k : Layout). held.place < slots_of k one.coll) (sym same) goes.1.slot;
    was = is ∙ goes.0;
    goes_on = goes.1.goes_on;
  }
  goes-visits None over is same home goes = tt

  pub goes-ends : (found : Option Held) (over : Bool) → one.ended ≡ over → GoesOn found over old.shape old.local new.local one now → IfNone found (now.ended ≡ true)
  goes-ends (Some held) over is goes = tt
  goes-ends None true is goes = ap (λ (k : Scan). k.ended) goes.1 ∙ is
  goes-ends None false is goes = goes.ended

  pub goes-all : (found : Option Held) (over : Bool) → one.ended ≡ over → GoesOn found over old.shape old.local new.local one now → IfNone found (one.ended ≡ false → slots_of old.shape one.coll ≤ now.place)
  goes-all (Some held) over is goes = tt
  goes-all None true is goes = λ not. absurd (cc)
  goes-all None false is goes = λ not. goes.all
