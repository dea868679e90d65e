-- What passing slots makes of the scans of a section.
use Rattle.std.proofs.Common.{◌≡◌, ℕ, zero, suc, ◌+◌, ◌<◌, ◌≤◌, ◌==◌, Bool, true, false, Some, List, [], ◌∷◌, ◌++◌, length, refl, sym, subst, ap, ◌∙◌, arith}
use Rattle.std.specs.Prelude.{slice_get, if◌then◌else◌}
use Rattle.std.proofs.lemmas.Bool.Decides.{nat_tests}
use Rattle.smc_words.specs.declared.number.Number.{Number}
use Rattle.smc_shape.specs.Layout.{Layout, slots_of}
use Rattle.smc_core.specs.declared.local.Local.{Local}
use Rattle.smc_core.specs.declared.phase.Phase.TheVariants as phase
use Rattle.smc_core.specs.declared.phase.objects.ScanPhase.TheVariants as scan
use Rattle.smc_core.specs.declared.local.Scan.{Scan}
use Rattle.smc_core.specs.Scan.{ended, passed, scan_of}
use Rattle.smc_region.specs.Choices.{number_of}
use Rattle.smc_objects.specs.Scanning.{ended_by, ending, number_at, passing, visiting}

-- a scan that passes slots twice has passed those of the second time
pub passed-twice : (scans : List Scan) (k first last : ℕ) → passed (passed scans k first) k last ≡ passed scans k last
passed-twice [] k first last = refl
passed-twice (one ∷ later) k first last = go (passed-twice later k first last) (one.number == k) refl
  where
    go : passed (passed later k first) k last ≡ passed later k last → (b : Bool) → (one.number == k) ≡ b
        → passed (if b then record one { place = first } ∷ later else one ∷ passed later k first) k last ≡ passed (one ∷ later) k last
    go on true e = subst (λ (x : Bool). (if x then record one { place = last } ∷ later else record one { place = first } ∷ passed later k last) ≡ (if x then record one { place = last } ∷ later else one ∷ passed later k last)) (sym e) refl
    go on false e = subst (λ (x : Bool). (if x then record one { place = last } ∷ passed later k first else one ∷ passed (passed later k first) k last) ≡ (if x then record one { place = last } ∷ later else one ∷ passed later k last)) (sym e) (ap (λ (t : List Scan). one ∷ t) on)

-- and each scan keeps its number
pub number-passed : (scans : List Scan) (k place i : ℕ) → number_of (slice_get (passed scans k place) i) ≡ number_of (slice_get scans i)
number-passed [] k place i = refl
number-passed (one ∷ later) k place i = go (number-passed later k place) (one.number == k) i
  where
    go : ((j : ℕ) → number_of (slice_get (passed later k place) j) ≡ number_of (slice_get later j)) → (b : Bool) (j : ℕ)
        → number_of (slice_get (if b then record one { place = place } ∷ later else one ∷ passed later k place) j) ≡ number_of (slice_get (one ∷ later) j)
    go on true zero = refl
    go on true (suc j) = refl
    go on false zero = refl
    go on false (suc j) = on j

pub number-ended : (scans : List Scan) (k i : ℕ) → number_of (slice_get (ended scans k) i) ≡ number_of (slice_get scans i)
number-ended [] k i = refl
number-ended (one ∷ later) k i = go (number-ended later k) (one.number == k) i
  where
    go : ((j : ℕ) → number_of (slice_get (ended later k) j) ≡ number_of (slice_get later j)) → (b : Bool) (j : ℕ)
        → number_of (slice_get (if b then record one { ended = true } ∷ later else one ∷ ended later k) j) ≡ number_of (slice_get (one ∷ later) j)
    go on true zero = refl
    go on true (suc j) = refl
    go on false zero = refl
    go on false (suc j) = on j

-- a scan that passes no more slots is what it was
pub passed-none : (scans : List Scan) (k : ℕ) (begun : Scan) → scan_of scans k ≡ Some begun → passed scans k begun.place ≡ scans
passed-none [] k begun e = refl
passed-none (one ∷ later) k begun e = go (passed-none later k begun) (one.number == k) e
  where
    go : (scan_of later k ≡ Some begun → passed later k begun.place ≡ later) → (b : Bool) → (if b then Some one else scan_of later k) ≡ Some begun
        → (if b then record one { place = begun.place } ∷ later else one ∷ passed later k begun.place) ≡ one ∷ later
    go on true e = let same : one ≡ begun = cc in subst (λ (t : Scan). record one { place = t.place } ∷ later ≡ one ∷ later) same refl
    go on false e = ap (λ (t : List Scan). one ∷ t) (on e)

-- the number of the scan that begins
pub number-begun : (scans : List Scan) (new : Scan) → number_of (slice_get (scans ++ new ∷ []) (length scans)) ≡ new.number
number-begun [] new = refl
number-begun (one ∷ later) new = number-begun later new

module _ (shape : Layout) (l : Local) (number coll slot steps index : ℕ) (is : number_at l index ≡ number) where
  abbrev Now : Local
  Now = passing shape l number coll slot steps

  -- a scan on its way has its number
  number-now : number_at Now index ≡ number
  number-now = number-passed l.stand.scans number slot index ∙ is

  -- where a slot is left it looks at it
  pub looks-now : (t : Local) → t ≡ Now → slot < slots_of shape coll → t.stand.phase ≡ phase.Scan (scan.Directory (number_at t index) coll slot)
  looks-now t now lt =
      let at : Now.stand.phase ≡ phase.Scan (scan.Directory number coll slot) = grind (arith, nat_tests) in
      subst (λ (u : Local). u.stand.phase ≡ phase.Scan (scan.Directory (number_at u index) coll slot)) (sym now)
      (at ∙ ap (λ (k : ℕ). phase.Scan (scan.Directory k coll slot)) (sym number-now))

  -- where none is left it ends
  pub ends-now : (t : Local) → t ≡ Now → slots_of shape coll ≤ slot → t.stand.phase ≡ phase.Scan (scan.End (number_at t index))
  ends-now t now le =
      let at : Now.stand.phase ≡ phase.Scan (scan.End number) = grind (arith, nat_tests) in
      subst (λ (u : Local). u.stand.phase ≡ phase.Scan (scan.End (number_at u index))) (sym now)
      (at ∙ ap (λ (k : ℕ). phase.Scan (scan.End k)) (sym number-now))

  -- what it meets from there on, it has met from the begin of the call on
  pub meets-now : (t new : Local) (met : Number) (place last : ℕ) → t ≡ Now → new ≡ visiting t (number_at t index) met place last → new ≡ visiting l number met place last
  meets-now t new met place last now e =
      e ∙ (subst (λ (u : Local). visiting u (number_at u index) met place last ≡ visiting Now number met place last) (sym now)
      (ap (λ (k : ℕ). visiting Now k met place last) number-now)
      ∙ ap (λ (s : List Scan). record (visiting l number met place last) { stand = record (visiting l number met place last).stand { scans = s } }) (passed-twice l.stand.scans number slot (place + 1)))

  -- so has it passed slots
  pub passes-now : (t new : Local) (t' : Layout) (place last : ℕ) → t ≡ Now → t' ≡ shape → new ≡ passing t' t (number_at t index) coll place last → new ≡ passing shape l number coll place last
  passes-now t new t' place last now same e =
      e ∙ (ap (λ (k : Layout). passing k t (number_at t index) coll place last) same
      ∙ (subst (λ (u : Local). passing shape u (number_at u index) coll place last ≡ passing shape Now number coll place last) (sym now)
      (ap (λ (k : ℕ). passing shape Now k coll place last) number-now)
      ∙ ap (λ (s : List Scan). record (passing shape l number coll place last) { stand = record (passing shape l number coll place last).stand { scans = s } }) (passed-twice l.stand.scans number slot place)))

  -- and ended
  pub ended-now : (t new : Local) (last : ℕ) → t ≡ Now → last ≡ steps + 1 → new ≡ ended_by t (number_at t index) → new ≡ ending l number slot last
  ended-now t new last now more e =
      e ∙ (subst (λ (u : Local). ended_by u (number_at u index) ≡ ended_by Now number) (sym now) (ap (λ (k : ℕ). ended_by Now k) number-now)
      ∙ ap (λ (k : ℕ). ending l number slot k) (sym more))

-- a scan that has no slot left ends where it is
pub ended-here : (l new : Local) (number place : ℕ) → passed l.stand.scans number place ≡ l.stand.scans → new ≡ ended_by l number → new ≡ ending l number place new.steps
ended-here l new number place none e =
    e ∙ (ap (λ (s : List Scan). record (ended_by l number) { stand = record (ended_by l number).stand { scans = ended s number } }) (sym none)
    ∙ ap (λ (k : ℕ). ending l number place k) (sym (ap (λ (t : Local). t.steps) e)))
