-- The scans of a section: what passing a slot, ending, and beginning make of the scan of a number.
use Rattle.std.proofs.Common.{◌≡◌, ℕ, ◌<◌, ◌≤◌, ◌==◌, Bool, true, false, Option, Some, None, List, [], ◌∷◌, ◌++◌, refl, sym, subst, ap, ◌∙◌, arith}
use Rattle.std.specs.Prelude.{if◌then◌else◌}
use Rattle.std.proofs.lemmas.Bool.{eqb-true, ne_eqb}
use Rattle.smc_core.specs.declared.local.Scan.{Scan}
use Rattle.smc_core.specs.Scan.{ended, passed, scan_of}
use Rattle.smc_bounds.specs.Kept.{AreBelow, OfColl}

-- the scan at this place
abbrev pub placed : ℕ → Option Scan → Option Scan
placed place None = None
placed place (Some begun) = Some (record begun { place = place })

-- the scan, ended
abbrev pub closed : Option Scan → Option Scan
closed None = None
closed (Some begun) = Some (record begun { ended = true })

-- the scan that is found has the number that was sought
pub found-number : (scans : List Scan) (k : ℕ) (begun : Scan) → scan_of scans k ≡ Some begun → (begun.number == k) ≡ true
found-number [] k begun is = cc
found-number (first ∷ later) k begun is = go (λ e. found-number later k begun e) (first.number == k) refl is
  where
    go : (scan_of later k ≡ Some begun → (begun.number == k) ≡ true) → (b : Bool) → (first.number == k) ≡ b → (if b then Some first else scan_of later k) ≡ Some begun → (begun.number == k) ≡ true
    go on true e is = let same : first ≡ begun = cc in subst (λ (s : Scan). (s.number == k) ≡ true) same e
    go on false e is = on is

-- passing a slot leaves each other scan
pub passed-other : (scans : List Scan) (j place k : ℕ) → (j == k) ≡ false → scan_of (passed scans j place) k ≡ scan_of scans k
passed-other [] j place k ne = refl
passed-other (first ∷ later) j place k ne = go (passed-other later j place k ne) (first.number == j) refl
  where
    go : scan_of (passed later j place) k ≡ scan_of later k → (b : Bool) → (first.number == j) ≡ b
        → scan_of (if b then record first { place = place } ∷ later else first ∷ passed later j place) k ≡ scan_of (first ∷ later) k
    go on true e =
        let apart : (first.number == k) ≡ false = ap (λ (n : ℕ). n == k) (eqb-true first.number j e) ∙ ne in
        subst (λ (x : Bool). (if x then Some (record first { place = place }) else scan_of later k) ≡ (if x then Some first else scan_of later k)) (sym apart) refl
    go on false e = ap (λ (o : Option Scan). if first.number == k then Some first else o) on

-- and moves the scan itself
pub passed-same : (scans : List Scan) (k place : ℕ) → scan_of (passed scans k place) k ≡ placed place (scan_of scans k)
passed-same [] k place = refl
passed-same (first ∷ later) k place = go (passed-same later k place) (first.number == k) refl
  where
    go : scan_of (passed later k place) k ≡ placed place (scan_of later k) → (b : Bool) → (first.number == k) ≡ b
        → scan_of (if b then record first { place = place } ∷ later else first ∷ passed later k place) k ≡ placed place (scan_of (first ∷ later) k)
    go on true e = subst (λ (x : Bool). (if x then Some (record first { place = place }) else scan_of later k) ≡ placed place (if x then Some first else scan_of later k)) (sym e) refl
    go on false e = subst (λ (x : Bool). (if x then Some first else scan_of (passed later k place) k) ≡ placed place (if x then Some first else scan_of later k)) (sym e) on

-- ending leaves each other scan
pub ended-other : (scans : List Scan) (j k : ℕ) → (j == k) ≡ false → scan_of (ended scans j) k ≡ scan_of scans k
ended-other [] j k ne = refl
ended-other (first ∷ later) j k ne = go (ended-other later j k ne) (first.number == j) refl
  where
    go : scan_of (ended later j) k ≡ scan_of later k → (b : Bool) → (first.number == j) ≡ b
        → scan_of (if b then record first { ended = true } ∷ later else first ∷ ended later j) k ≡ scan_of (first ∷ later) k
    go on true e =
        let apart : (first.number == k) ≡ false = ap (λ (n : ℕ). n == k) (eqb-true first.number j e) ∙ ne in
        subst (λ (x : Bool). (if x then Some (record first { ended = true }) else scan_of later k) ≡ (if x then Some first else scan_of later k)) (sym apart) refl
    go on false e = ap (λ (o : Option Scan). if first.number == k then Some first else o) on

-- and ends the scan itself
pub ended-same : (scans : List Scan) (k : ℕ) → scan_of (ended scans k) k ≡ closed (scan_of scans k)
ended-same [] k = refl
ended-same (first ∷ later) k = go (ended-same later k) (first.number == k) refl
  where
    go : scan_of (ended later k) k ≡ closed (scan_of later k) → (b : Bool) → (first.number == k) ≡ b
        → scan_of (if b then record first { ended = true } ∷ later else first ∷ ended later k) k ≡ closed (scan_of (first ∷ later) k)
    go on true e = subst (λ (x : Bool). (if x then Some (record first { ended = true }) else scan_of later k) ≡ closed (if x then Some first else scan_of later k)) (sym e) refl
    go on false e = subst (λ (x : Bool). (if x then Some first else scan_of (ended later k) k) ≡ closed (if x then Some first else scan_of later k)) (sym e) on

-- a scan that begins is not another one
pub begun-other : (scans : List Scan) (new : Scan) (k : ℕ) → (new.number == k) ≡ false → scan_of (scans ++ new ∷ []) k ≡ scan_of scans k
begun-other [] new k ne = subst (λ (x : Bool). (if x then Some new else None) ≡ None) (sym ne) refl
begun-other (first ∷ later) new k ne = ap (λ (o : Option Scan). if first.number == k then Some first else o) (begun-other later new k ne)

-- and is found where there was none of its number
pub begun-same : (scans : List Scan) (new : Scan) (k : ℕ) → (new.number == k) ≡ true → scan_of scans k ≡ None → scan_of (scans ++ new ∷ []) k ≡ Some new
begun-same [] new k e none = subst (λ (x : Bool). (if x then Some new else None) ≡ Some new) (sym e) refl
begun-same (first ∷ later) new k e none = go (λ n. begun-same later new k e n) (first.number == k) none
  where
    go : (scan_of later k ≡ None → scan_of (later ++ new ∷ []) k ≡ Some new) → (b : Bool) → (if b then Some first else scan_of later k) ≡ None
        → (if b then Some first else scan_of (later ++ new ∷ []) k) ≡ Some new
    go on true none = cc
    go on false none = on none

-- a number that all are below is not found
pub below-none : (scans : List Scan) (limit : ℕ) → AreBelow limit scans → scan_of scans limit ≡ None
below-none [] limit below = refl
below-none (first ∷ later) limit below =
    let apart : (first.number == limit) ≡ false = ne_eqb first.number limit (λ e. absurd (omega (arith, e, below.0))) in
    subst (λ (x : Bool). (if x then Some first else scan_of later limit) ≡ None) (sym apart) (below-none later limit below.1)

pub below-more : (scans : List Scan) (limit more : ℕ) → limit ≤ more → AreBelow limit scans → AreBelow more scans
below-more [] limit more le below = tt
below-more (first ∷ later) limit more le below = (omega (arith, le, below.0), below-more later limit more le below.1)

pub below-passed : (scans : List Scan) (k place limit : ℕ) → AreBelow limit scans → AreBelow limit (passed scans k place)
below-passed [] k place limit below = tt
below-passed (first ∷ later) k place limit below = go (below-passed later k place limit below.1) (first.number == k)
  where
    go : AreBelow limit (passed later k place) → (b : Bool) → AreBelow limit (if b then record first { place = place } ∷ later else first ∷ passed later k place)
    go on true = (below.0, below.1)
    go on false = (below.0, on)

pub below-ended : (scans : List Scan) (k limit : ℕ) → AreBelow limit scans → AreBelow limit (ended scans k)
below-ended [] k limit below = tt
below-ended (first ∷ later) k limit below = go (below-ended later k limit below.1) (first.number == k)
  where
    go : AreBelow limit (ended later k) → (b : Bool) → AreBelow limit (if b then record first { ended = true } ∷ later else first ∷ ended later k)
    go on true = (below.0, below.1)
    go on false = (below.0, on)

pub below-begun : (scans : List Scan) (new : Scan) (limit : ℕ) → new.number < limit → AreBelow limit scans → AreBelow limit (scans ++ new ∷ [])
below-begun [] new limit lt below = (lt, tt)
below-begun (first ∷ later) new limit lt below = (below.0, below-begun later new limit lt below.1)

-- a scan stays one of its collection
placed-home : (coll place : ℕ) (o : Option Scan) → OfColl coll o → OfColl coll (placed place o)
placed-home coll place None home = tt
placed-home coll place (Some begun) home = home

pub passed-home : (scans : List Scan) (k place coll : ℕ) → OfColl coll (scan_of scans k) → OfColl coll (scan_of (passed scans k place) k)
passed-home scans k place coll home = subst (OfColl coll) (sym (passed-same scans k place)) (placed-home coll place (scan_of scans k) home)
