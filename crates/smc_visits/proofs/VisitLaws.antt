-- A scan makes one visit after another.
use Rattle.std.proofs.Common.{◌≡◌, ℕ, Option, Some, None, List, [], ◌∷◌, ◌++◌, sym, subst, ap, ◌∙◌, append_assoc, append-nil}
use Rattle.std.specs.Prelude.{◌<◌, ◌≤◌, length, slice_get, option_to_list, flat_map}
use Rattle.std.specs.List.{AllByRecursion}
use Rattle.std.proofs.lemmas.Grind.{flat_map-append}
use Rattle.smc_shape.specs.Layout.{Layout, slots_of}
use Rattle.smc_core.specs.declared.local.Held.{Held}
use Rattle.smc_core.specs.declared.local.Scan as core
use Rattle.smc_core.specs.Scan.{scan_of}
use Rattle.smc_plan.specs.declared.leaf.Leaf.{Leaf}
use Rattle.smc_region.specs.Callers.{Caller}
use Rattle.smc_region.specs.Choices.{number_of}
use Rattle.smc_trace.specs.Named.{begins, comes_to}
use Rattle.smc_trace.specs.Trace.{CallEnd}
use Rattle.smc_does.specs.Does.{Does, DoesSome}
use Rattle.smc_does.proofs.DoesLaws.{does-then}
use Rattle.smc_objects.specs.declared.scan.Scan.{Scan}
use Rattle.smc_objects.specs.Scans.{IsScanOf, scan_in}
use Rattle.smc_visits.specs.Rows.{RowOfVisit}
use Rattle.smc_visits.specs.Visits.{IsVisit, Scans, TakesRows, Visited, rows_in, visit_calls}

-- ---- the scan

-- a scan has its number while no scan goes on
pub number-kept : (old new : Caller) (one : Scan) → new.local.stand.scans ≡ old.local.stand.scans → (scan_in new one).number ≡ (scan_in old one).number
number-kept old new one scans = ap (λ (k : List core.Scan). number_of (slice_get k one.scan)) scans

-- ---- visits

-- one item more of which the same holds
pub all-more : {X : Type 0} (P : X → Type 0) (xs : List X) (x : X) → AllByRecursion P xs → P x → AllByRecursion P (xs ++ x ∷ [])
all-more P [] x all here = (here, tt)
all-more P (y ∷ xs) x all here = (all.0, all-more P xs x all.1 here)

-- what is made of a list, with one item more
flat-more : {X A : Type 0} (f : X → List A) (xs : List X) (x : X) → flat_map f (xs ++ x ∷ []) ≡ flat_map f xs ++ f x
flat-more {X} {A} f xs x = flat_map-append f xs (x ∷ []) ∙ ap (λ (k : List A). flat_map f xs ++ k) (append-nil (f x))

module _ (Visit : Type 0) (calls_of : ℕ → Visit → List CallEnd) (Is : Visit → Type 0) (old : Caller) (coll : ℕ) where
  -- a scan has begun, and has made some visits, of which this is a fact
  pub record SoFar (Fact : List Visit → Type 0) (now : Caller) (scan : ℕ) : Type 0 where
    pub visits : List Visit
    pub each : AllByRecursion Is visits
    pub does : Does old now (begins scan coll ++ flat_map (calls_of scan) visits)
    pub fact : Fact visits

  -- one visit more
  pub visits-more : (Fact More : List Visit → Type 0) (now next : Caller) (scan after : ℕ) (visit : Visit) → after ≡ scan → (so : SoFar Fact now scan)
      → Does now next (calls_of scan visit) → Is visit → (Fact so.visits → More (so.visits ++ visit ∷ [])) → SoFar More next after
  visits-more Fact More now next scan after visit same so makes is more = subst (λ (k : ℕ). SoFar More next k) (sym same) (record {
    visits = so.visits ++ visit ∷ [];
    each = all-more Is so.visits visit so.each is;
    does = subst (λ (k : List CallEnd). Does old next k)
        (append_assoc (begins scan coll) (flat_map (calls_of scan) so.visits) (calls_of scan visit) ∙ ap (λ (k : List CallEnd). begins scan coll ++ k) (sym (flat-more (calls_of scan) so.visits visit)))
        (does-then so.does makes);
    fact = more so.fact;
  })

  -- the scan comes to its end
  pub visits-all : (Fact : List Visit → Type 0) (now last : Caller) (scan : ℕ) (so : SoFar Fact now scan) → Does now last (comes_to scan None)
      → DoesSome old last (Scans Visit calls_of Is coll so.visits)
  visits-all Fact now last scan so ends = (
    (begins scan coll ++ flat_map (calls_of scan) so.visits) ++ comes_to scan None,
    does-then so.does ends,
    record { scan = scan; each = so.each; made = append_assoc (begins scan coll) (flat_map (calls_of scan) so.visits) (comes_to scan None) },
  )

-- ---- rows

-- the rows of these visits were taken
abbrev pub Taken : (Had Has : List (List ℕ) → Type 0) → List Visited → Type 0
Taken Had Has visits = (before : List (List ℕ)) → Had before → Has (before ++ rows_in visits)

abbrev pub TakesSoFar : Caller → Caller → ℕ → List Leaf → ℕ → (Had Has : List (List ℕ) → Type 0) → Type 0
TakesSoFar old now coll leaves scan Had Has = SoFar Visited visit_calls (IsVisit old.shape leaves) old coll (Taken Had Has) now scan

taken-more : (Had Has More : List (List ℕ) → Type 0) (visits : List Visited) (visit : Visited) → ((before : List (List ℕ)) → Has before → More (before ++ option_to_list visit.row))
    → Taken Had Has visits → Taken Had More (visits ++ visit ∷ [])
taken-more Had Has More visits visit more taken before had =
    subst More
    (append_assoc before (rows_in visits) (option_to_list visit.row)
    ∙ ap (λ (k : List (List ℕ)). before ++ k) (sym (flat-more (λ (v : Visited). option_to_list v.row) visits visit)))
    (more (before ++ rows_in visits) (taken before had))

-- the scan comes to one object more, and its row is taken if it is whole
pub takes-more : (old now met next : Caller) (coll : ℕ) (leaves : List Leaf) (scan after : ℕ) (Had Has More : List (List ℕ) → Type 0) (held : Held) → after ≡ scan
    → TakesSoFar old now coll leaves scan Had Has → Does now met (comes_to scan (Some held))
    → ((row : Option (List ℕ)) × DoesSome met next (RowOfVisit met.shape held.number leaves row) × ((before : List (List ℕ)) → Has before → More (before ++ option_to_list row)))
    → TakesSoFar old next coll leaves after Had More
takes-more old now met next coll leaves scan after Had Has More held same so comes read =
    let calls : List CallEnd = read.1.0 in
    let visit : Visited = record { held = held; row = read.0; calls = calls } in
    let there : Does old met ((begins scan coll ++ flat_map (visit_calls scan) so.visits) ++ comes_to scan (Some held)) = does-then so.does comes in
    let is : IsVisit old.shape leaves visit = subst (λ (k : Layout). RowOfVisit k held.number leaves read.0 calls) there.same.1 read.1.2 in
    visits-more Visited visit_calls (IsVisit old.shape leaves) old coll (Taken Had Has) (Taken Had More) now next scan after visit same so (does-then comes read.1.1) is
    (taken-more Had Has More so.visits visit read.2)

-- the scan comes to its end
pub takes-all : (old now last : Caller) (coll : ℕ) (leaves : List Leaf) (scan : ℕ) (Had Has : List (List ℕ) → Type 0) → TakesSoFar old now coll leaves scan Had Has
    → Does now last (comes_to scan None) → DoesSome old last (TakesRows old.shape coll leaves Had Has)
takes-all old now last coll leaves scan Had Has so ends =
    let all = visits-all Visited visit_calls (IsVisit old.shape leaves) old coll (Taken Had Has) now last scan so ends in
    (all.0, all.1, record { visits = so.visits; scans = all.2; taken = so.fact })
