-- A scan takes no more steps than it has left when it has begun.
use Rattle.std.proofs.Common.{◌≡◌, ℕ, ◌+◌, ◌-◌, ◌*◌, ◌<◌, ◌≤◌, ◌==◌, Bool, true, false, Option, Some, None, List, [], ◌∷◌, ◌++◌, refl, sym, subst, ap, ◌∙◌, arith}
use Rattle.std.specs.Prelude.{slice_get, if◌then◌else◌}
use Rattle.std.proofs.lemmas.Bool.{eq-eqb, eqb-true}
use Rattle.std.proofs.lemmas.Option.{slice_get_within}
use Rattle.smc_shape.specs.Layout.{Layout, IsShape, slots_of, width_of}
use Rattle.smc_core.specs.declared.call.Call.{Call}
use Rattle.smc_core.specs.declared.call.Call.TheVariants as call
use Rattle.smc_core.specs.declared.call.Choice.{Choice}
use Rattle.smc_core.specs.declared.call.Choice.TheVariants.{Start, Go}
use Rattle.smc_core.specs.declared.local.Local.{Local}
use Rattle.smc_core.specs.declared.local.Scan.{Scan}
use Rattle.smc_core.specs.declared.local.Stand.{Stand}
use Rattle.smc_core.specs.declared.op.Offer.{Offer}
use Rattle.smc_core.specs.declared.phase.Phase.{Phase}
use Rattle.smc_core.specs.declared.phase.Phase.TheVariants as phase
use Rattle.smc_core.specs.declared.section.Section.{Section}
use Rattle.smc_core.specs.Local.{after, begun_after}
use Rattle.smc_core.specs.Machine.{Leads, Machine, Steps}
use Rattle.smc_core.specs.Offer.{offer}
use Rattle.smc_core.specs.Row.{row_shows}
use Rattle.smc_core.specs.Scan.{new_scan, scan_number, scan_of}
use Rattle.smc_rules.proofs.CarryLaws.{some-same}
use Rattle.smc_bounds.specs.Kept.{KeptBy}
use Rattle.smc_bounds.specs.Scans.{ScansAreBounded, is_scan_step, one_step, steps_taken, stored_left, whole_left}
use Rattle.smc_bounds.proofs.BoundLaws.{Known, known-step, left_alone, own_after}
use Rattle.smc_bounds.proofs.KeptLaws.{kept-then, owners_shown}
use Rattle.smc_bounds.proofs.ScanLaws.{go-whole, start-whole}
use Rattle.smc_bounds.proofs.ScanLists.{below-none, begun-same}

-- no pass begins fewer scans than it has begun
begun_later : (begun : ℕ) (choice : Choice) → begun ≤ begun_after begun choice
begun_later begun (Start (call.Scan coll)) = omega arith
begun_later begun _ = omega arith

-- a call is started where none is in progress
started_idle : (shape : Layout) (pass : ℕ) (stand : Stand) (section : Section) (next : Phase) (one : Call) (o : Offer) → offer shape pass stand section next (Start one) ≡ Some o → next ≡ phase.Idle
started_idle shape pass stand section phase.Idle one o is = refl
started_idle shape pass stand section _ one o is = absurd (cc)

module _ (shape : Layout) (valid : IsShape shape) (pass k : ℕ) where
  -- what the scan has left where the pass stands here
  abbrev whole : Local → ℕ
  whole l = whole_left shape k l.stand.section l.stand.phase l.stand.scans

  -- what the pass keeps
  kept_by : (m : Machine) (l : Local) → Known shape valid pass m → slice_get m.locals pass ≡ Some l → KeptBy pass l.stand
  kept_by m l b here =
      let within : pass < shape.passes = omega (arith, slice_get_within m.locals pass l here, b.backs.count) in
      subst (KeptBy pass) (b.backs.same pass l here) (b.rule.each pass within)

  -- an own step
  own-whole : (m next : Machine) (choice : Choice) → Known shape valid pass m → (step : Steps shape m pass choice next) → k < scan_number pass step.local.stand.begun
      → whole (after shape pass step.local choice step.told (row_shows shape step.offered.op m.row)) + (if is_scan_step k step.local.stand choice then 1 else 0) ≤ whole step.local
  own-whole m next Go b step before =
      go-whole shape k pass step.local.stand step.local.stand.section step.local.stand.phase (row_shows shape step.offered.op m.row) (owners_shown shape valid m next pass step b)
      (kept_by m step.local b step.here).home
  own-whole m next (Start one) b step before =
      let stand : Stand = step.local.stand in
      let idle : stand.phase ≡ phase.Idle = started_idle shape pass stand stand.section stand.phase one step.offered step.offers in
      omega (
        arith,
        start-whole shape k pass stand stand.section stand.phase one step.told (row_shows shape step.offered.op m.row) before,
        ap (λ (p : Phase). whole_left shape k stand.section p stand.scans) idle,
      )

  -- through a list of steps
  taken-whole : (m last : Machine) (steps : List (ℕ × Choice)) (leads : Leads shape m steps last) (l now : Local) → Known shape valid pass m
      → slice_get m.locals pass ≡ Some l → slice_get last.locals pass ≡ Some now → k < scan_number pass l.stand.begun
      → steps_taken shape pass k m steps last leads + whole now ≤ whole l
  taken-whole m last [] leads l now b here there before =
      let same : l ≡ now = some-same l now (sym here ∙ (ap (λ (j : Machine). slice_get j.locals pass) leads ∙ there)) in
      omega (arith, ap whole same)
  taken-whole m last (first ∷ later) leads l now b here there before =
      turn (λ next at lt. taken-whole leads.0 last later leads.2 next now (known-step shape valid pass m leads.0 first.0 first.1 b leads.1) at there lt) (first.0 == pass) refl
    where
      own : ((next : Local) → slice_get leads.0.locals pass ≡ Some next → k < scan_number pass next.stand.begun
          → steps_taken shape pass k leads.0 later last leads.2 + whole now ≤ whole next)
          → Steps shape m pass first.1 leads.0 → one_step k (slice_get m.locals pass) first.1 + steps_taken shape pass k leads.0 later last leads.2 + whole now ≤ whole l
      own on step =
          let same : step.local ≡ l = some-same step.local l (sym step.here ∙ here) in
          let lt : k < scan_number pass step.local.stand.begun = subst (λ (one : Local). k < scan_number pass one.stand.begun) (sym same) before in
          omega (
            arith,
            ap (λ (o : Option Local). one_step k o first.1) step.here,
            ap whole same,
            own-whole m leads.0 first.1 b step lt,
            on (after shape pass step.local first.1 step.told (row_shows shape step.offered.op m.row)) (own_after shape valid pass m leads.0 first.1 step) (omega (arith, lt, begun_later step.local.stand.begun first.1)),
          )

      turn : ((next : Local) → slice_get leads.0.locals pass ≡ Some next → k < scan_number pass next.stand.begun
          → steps_taken shape pass k leads.0 later last leads.2 + whole now ≤ whole next)
          → (mine : Bool) → (first.0 == pass) ≡ mine
          → (if first.0 == pass then one_step k (slice_get m.locals pass) first.1 else 0) + steps_taken shape pass k leads.0 later last leads.2 + whole now ≤ whole l
      turn on true e =
          omega (
            arith,
            ap {B = ℕ} (λ (b : Bool). if b then one_step k (slice_get m.locals pass) first.1 else 0) e,
            own on (subst (λ (i : ℕ). Steps shape m i first.1 leads.0) (eqb-true first.0 pass e) leads.1),
          )
      turn on false e =
          omega (
            arith,
            ap {B = ℕ} (λ (b : Bool). if b then one_step k (slice_get m.locals pass) first.1 else 0) e,
            on l (left_alone shape valid pass m leads.0 first.0 first.1 leads.1 e ∙ here) before,
          )

-- from the step that begins a scan on
pub scans-bounded : ScansAreBounded
scans-bounded shape opening world m next last steps pass coll first now valid h here step leads there =
    let b = kept-then shape valid opening world m h in
    let k : ℕ = scan_number pass first.stand.begun in
    let same : step.local ≡ first = some-same step.local first (sym step.here ∙ here) in
    let l : Local = after shape pass step.local (Start (call.Scan coll)) step.told (row_shows shape step.offered.op m.row) in
    let new : Scan = new_scan (scan_number pass step.local.stand.begun) coll in
    let number : scan_number pass step.local.stand.begun ≡ k = ap (λ (one : Local). scan_number pass one.stand.begun) same in
    let fresh : scan_of step.local.stand.scans k ≡ None =
    subst (λ (i : ℕ). scan_of step.local.stand.scans i ≡ None) number (below-none step.local.stand.scans (scan_number pass step.local.stand.begun) (kept_by shape valid pass k m step.local b step.here).below) in
    let found : scan_of (step.local.stand.scans ++ new ∷ []) k ≡ Some new = begun-same step.local.stand.scans new k (eq-eqb (scan_number pass step.local.stand.begun) k number) fresh in
    let none_passed : slots_of shape coll - 0 ≡ slots_of shape coll = omega arith in
    omega (
      arith,
      ap (stored_left shape) found,
      ap (λ (n : ℕ). n * (6 + 2 * width_of shape coll)) none_passed,
      taken-whole shape valid pass k next last steps leads l now (known-step shape valid pass m next pass (Start (call.Scan coll)) b step)
          (own_after shape valid pass m next (Start (call.Scan coll)) step) there (omega (arith, number)),
    )
