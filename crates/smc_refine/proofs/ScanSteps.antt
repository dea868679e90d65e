-- What steps of scans and of look-ups make of their section's scans, by the event that they tell.
use Rattle.std.proofs.Common.{◌≡◌, ◌≢◌, ◌⊎◌, ℕ, ◌+◌, ◌==◌, Bool, true, false, Option, Some, None, List, [], ◌∷◌, ◌++◌, inl, inr, refl, sym, ap, ◌∙◌, arith}
use Rattle.std.specs.Prelude.{nat_lt, if◌then◌else◌}
use Rattle.std.proofs.lemmas.Bool.Decides.{nat_tests}
use Rattle.smc_words.specs.declared.number.Number.{Number}
use Rattle.smc_shape.specs.Layout.{Layout, slots_of}
use Rattle.smc_model.specs.declared.event.Event.{Event}
use Rattle.smc_model.specs.declared.event.Event.TheVariants as event
use Rattle.smc_core.specs.declared.change.Change.{Change}
use Rattle.smc_core.specs.declared.done.Done.TheVariants as done
use Rattle.smc_core.specs.declared.local.Scan.{Scan}
use Rattle.smc_core.specs.declared.phase.Phase.{Phase}
use Rattle.smc_core.specs.declared.phase.Phase.TheVariants as phase
use Rattle.smc_core.specs.declared.phase.objects.Finding.{Finding}
use Rattle.smc_core.specs.declared.phase.objects.Finding.TheVariants.{Absent, Stays, Abandons, Helps}
use Rattle.smc_core.specs.declared.phase.objects.LookPhase.TheVariants as look
use Rattle.smc_core.specs.declared.phase.objects.ScanPhase.{ScanPhase}
use Rattle.smc_core.specs.declared.phase.objects.ScanPhase.TheVariants as scan
use Rattle.smc_core.specs.declared.phase.objects.Seeker.{Seeker}
use Rattle.smc_core.specs.declared.phase.objects.Seeker.TheVariants as seeker
use Rattle.smc_core.specs.declared.word.Word.{Word}
use Rattle.smc_core.specs.declared.word.Word.TheVariants as word
use Rattle.smc_core.specs.Change.{next_started}
use Rattle.smc_core.specs.Local.{next_after}
use Rattle.smc_core.specs.Look.{seeker_of, look_change, visits, passes}
use Rattle.smc_core.specs.Scan.{scan_of, new_scan, scan_number, passed, ended, is_over, is_scanned, scan_scans, scan_change, look_scans}
use Rattle.smc_core.specs.Step.{goes, ends}
use Rattle.smc_core.specs.Words.{dir_of}
use Rattle.smc_inv_scan.proofs.ListLaws.{scan_of-number}

-- the scan that a call goes on with
abbrev pub seeker_scan : Seeker → Option ℕ
seeker_scan seeker.Caller = None
seeker_scan (seeker.Scan k c t) = Some k

abbrev pub way_scan : ScanPhase → Option ℕ
way_scan (scan.Directory k c t) = Some k
way_scan (scan.Back k c t) = Some k
way_scan (scan.End k) = Some k

abbrev pub scan_in : Phase → Option ℕ
scan_in (phase.Look next) = seeker_scan (seeker_of next)
scan_in (phase.Scan next) = way_scan next
scan_in _ = None

-- it has not ended
abbrev pub IsOpen : List Scan → Phase → Type 0
IsOpen scans ph = (k : ℕ) (b : Scan) → scan_in ph ≡ Some k → scan_of scans k ≡ Some b → b.ended ≡ false

-- an open scan with this number, of this collection
abbrev pub HasOpen : List Scan → ℕ → ℕ → Type 0
HasOpen scans k coll = (b : Scan) × (scan_of scans k ≡ Some b) × (b.ended ≡ false) × (b.coll ≡ coll)

-- each scan was there before, of its collection, and has ended only if it had
abbrev pub GoOn : List Scan → List Scan → Type 0
GoOn scans later = (j : ℕ) (b : Scan) → scan_of later j ≡ Some b → (old : Scan) × (scan_of scans j ≡ Some old) × (b.coll ≡ old.coll) × (b.ended ≡ old.ended)

-- and this one has
abbrev pub GoOnBut : ℕ → List Scan → List Scan → Type 0
GoOnBut k scans later = (j : ℕ) (b : Scan) → scan_of later j ≡ Some b
    → (old : Scan) × (scan_of scans j ≡ Some old) × (b.coll ≡ old.coll) × ((b.ended ≡ true) ⊎ ((j ≢ k) × (b.ended ≡ old.ended)))

-- what becomes of a pass's scans, and of how many it has begun, with the event that is told
abbrev pub ScansTold : ℕ → List Scan → ℕ → List Scan → ℕ → Option Event → Type 0
ScansTold i scans begun later count (Some (event.Begin k coll)) = (k ≡ scan_number i begun) × (later ≡ scans ++ new_scan k coll ∷ []) × (count ≡ begun + 1)
ScansTold i scans begun later count (Some (event.Visit k number)) = HasOpen scans k number.coll × GoOn scans later × (count ≡ begun)
ScansTold i scans begun later count (Some (event.End k)) = ((coll : ℕ) × HasOpen scans k coll) × GoOnBut k scans later × (count ≡ begun)
ScansTold i scans begun later count _ = GoOn scans later × (count ≡ begun)

-- and the scan that the call goes on with is open
pub record StepScans (i : ℕ) (scans : List Scan) (begun : ℕ) (later : List Scan) (count : ℕ) (c : Change) : Type 0 where
  pub told : ScansTold i scans begun later count c.event
  pub is_open : IsOpen later c.phase

-- ---- lists

pub same-scans : (scans : List Scan) → GoOn scans scans
same-scans scans j b is = (b, is, refl, refl)

passed-on : (scans : List Scan) (k place : ℕ) → GoOn scans (passed scans k place)
passed-on [] k place j b is = absurd (cc)
passed-on (first ∷ later) k place j b is = go (passed-on later k place j b) (first.number == k) (first.number == j) (sym (form (first.number == k)) ∙ is)
  where
    form : (t : Bool) → scan_of (if t then record first { place = place } ∷ later else first ∷ passed later k place) j
        ≡ (if first.number == j then Some (if t then record first { place = place } else first) else scan_of (if t then later else passed later k place) j)
    form true = refl
    form false = refl

    go : (scan_of (passed later k place) j ≡ Some b → (old : Scan) × (scan_of later j ≡ Some old) × (b.coll ≡ old.coll) × (b.ended ≡ old.ended)) → (t u : Bool)
        → (if u then Some (if t then record first { place = place } else first) else scan_of (if t then later else passed later k place) j) ≡ Some b
        → (old : Scan) × ((if u then Some first else scan_of later j) ≡ Some old) × (b.coll ≡ old.coll) × (b.ended ≡ old.ended)
    go rest true true e = (first, refl, grind (arith, e), grind (arith, e))
    go rest false true e = (first, refl, grind (arith, e), grind (arith, e))
    go rest true false e = (b, e, refl, refl)
    go rest false false e = rest e

ended-on : (scans : List Scan) (k : ℕ) → GoOnBut k scans (ended scans k)
ended-on [] k j b is = absurd (cc)
ended-on (first ∷ later) k j b is = go (ended-on later k j b) (first.number == k) (first.number == j) refl refl (sym (form (first.number == k)) ∙ is)
  where
    form : (t : Bool) → scan_of (if t then record first { ended = true } ∷ later else first ∷ ended later k) j
        ≡ (if first.number == j then Some (if t then record first { ended = true } else first) else scan_of (if t then later else ended later k) j)
    form true = refl
    form false = refl

    go : (scan_of (ended later k) j ≡ Some b → (old : Scan) × (scan_of later j ≡ Some old) × (b.coll ≡ old.coll) × ((b.ended ≡ true) ⊎ ((j ≢ k) × (b.ended ≡ old.ended))))
        → (t u : Bool) → (first.number == k) ≡ t → (first.number == j) ≡ u
        → (if u then Some (if t then record first { ended = true } else first) else scan_of (if t then later else ended later k) j) ≡ Some b
        → (old : Scan) × ((if u then Some first else scan_of later j) ≡ Some old) × (b.coll ≡ old.coll) × ((b.ended ≡ true) ⊎ ((j ≢ k) × (b.ended ≡ old.ended)))
    go rest true true p q e = (first, refl, grind (arith, e), inl (grind (arith, e)))
    go rest false true p q e = (first, refl, grind (arith, e), inr (λ z. grind (arith, nat_tests, p, q, z), grind (arith, e)))
    go rest true false p q e = (b, e, refl, inr (λ z. grind (arith, nat_tests, p, q, z), refl))
    go rest false false p q e = rest e

-- ---- steps that tell nothing of scans, and go on with none

abbrev pub is_quiet : Option Event → Bool
is_quiet (Some (event.Begin k coll)) = false
is_quiet (Some (event.Visit k number)) = false
is_quiet (Some (event.End k)) = false
is_quiet _ = true

quiet-told : (i : ℕ) (scans : List Scan) (begun : ℕ) (later : List Scan) (e : Option Event) → is_quiet e ≡ true → GoOn scans later → ScansTold i scans begun later begun e
quiet-told i scans begun later None q g = (g, refl)
quiet-told i scans begun later (Some (event.Add n c ws)) q g = (g, refl)
quiet-told i scans begun later (Some (event.Look n h)) q g = (g, refl)
quiet-told i scans begun later (Some (event.Read n f v)) q g = (g, refl)
quiet-told i scans begun later (Some (event.Write n f v)) q g = (g, refl)
quiet-told i scans begun later (Some (event.Remove n f)) q g = (g, refl)
quiet-told i scans begun later (Some (event.Begin k c)) q g = absurd (cc)
quiet-told i scans begun later (Some (event.Visit k n)) q g = absurd (cc)
quiet-told i scans begun later (Some (event.End k)) q g = absurd (cc)
quiet-told i scans begun later (Some (event.Refused c x)) q g = (g, refl)
quiet-told i scans begun later (Some event.Enter) q g = (g, refl)
quiet-told i scans begun later (Some event.Leave) q g = (g, refl)
quiet-told i scans begun later (Some (event.Told p c)) q g = (g, refl)

-- no scan is gone on with
pub closed : (scans : List Scan) (ph : Phase) → scan_in ph ≡ None → IsOpen scans ph
closed scans ph nothing k b is at = absurd (cc)

pub quiet : (i : ℕ) (scans : List Scan) (begun : ℕ) (c : Change) → is_quiet c.event ≡ true → scan_in c.phase ≡ None → StepScans i scans begun scans begun c
quiet i scans begun c q n = record { told = quiet-told i scans begun scans c.event q (same-scans scans); is_open = closed scans c.phase n }

-- ---- steps of scans

module _ (shape : Layout) (i : ℕ) (scans : List Scan) (begun : ℕ) where
  -- it is gone on with
  passes-in : (k c t : ℕ) → scan_in (passes shape k c t) ≡ Some k
  passes-in k c t = go (nat_lt (t + 1) (slots_of shape c))
    where
      go : (b : Bool) → scan_in (if b then phase.Scan (scan.Directory k c (t + 1)) else phase.Scan (scan.End k)) ≡ Some k
      go true = refl
      go false = refl

  -- the scan in a call stays open
  stays_open : (later : List Scan) (k coll : ℕ) (ph : Phase) → GoOn scans later → HasOpen scans k coll → scan_in ph ≡ Some k → IsOpen later ph
  stays_open later k coll ph g h is j b at there =
      let same : j ≡ k = grind (arith, is, at) in
      let (old, was, of, end) = g j b there in
      let one : Some old ≡ Some h.0 = sym was ∙ (ap (scan_of scans) same ∙ h.1) in
      let eq : old ≡ h.0 = grind (arith, one) in
      end ∙ (ap (λ (x : Scan). x.ended) eq ∙ h.2)

  -- a scan that passes a slot
  passing : (k c t coll : ℕ) → HasOpen scans k coll → StepScans i scans begun (passed scans k (t + 1)) begun (goes (passes shape k c t))
  passing k c t coll h = record {
    told = (passed-on scans k (t + 1), refl);
    is_open = stays_open (passed scans k (t + 1)) k coll (passes shape k c t) (passed-on scans k (t + 1)) h (passes-in k c t);
  }

  -- one that stays where it is
  going_on : (k coll : ℕ) (ph : Phase) → HasOpen scans k coll → scan_in ph ≡ Some k → StepScans i scans begun scans begun (goes ph)
  going_on k coll ph h is = record { told = (same-scans scans, refl); is_open = stays_open scans k coll ph (same-scans scans) h is }

  -- a look-up, which a caller or a scan makes
  pub looking : (who : Seeker) (n : Number) (finding : Finding) → ((k c t : ℕ) → who ≡ seeker.Scan k c t → HasOpen scans k n.coll)
      → StepScans i scans begun (look_scans scans who finding) begun (look_change shape who n finding)
  looking seeker.Caller n Absent h = quiet i scans begun (look_change shape seeker.Caller n Absent) refl refl
  looking seeker.Caller n (Stays there) h = quiet i scans begun (look_change shape seeker.Caller n (Stays there)) refl refl
  looking seeker.Caller n (Abandons there) h = quiet i scans begun (look_change shape seeker.Caller n (Abandons there)) refl refl
  looking seeker.Caller n (Helps there copy) h = quiet i scans begun (look_change shape seeker.Caller n (Helps there copy)) refl refl
  looking (seeker.Scan k c t) n Absent h = passing k c t n.coll (h k c t refl)
  looking (seeker.Scan k c t) n (Stays there) h = go (there == t)
    where
      go : (b : Bool) → StepScans i scans begun (passed scans k (t + 1)) begun (if b then visits k n there else goes (passes shape k c t))
      go true = record { told = (h k c t refl, passed-on scans k (t + 1), refl); is_open = closed (passed scans k (t + 1)) phase.Idle refl }
      go false = passing k c t n.coll (h k c t refl)
  looking (seeker.Scan k c t) n (Abandons there) h = going_on k n.coll (phase.Look (look.Abandon (seeker.Scan k c t) n there)) (h k c t refl) refl
  looking (seeker.Scan k c t) n (Helps there copy) h = going_on k n.coll (phase.Look (look.Help (seeker.Scan k c t) n there copy)) (h k c t refl) refl

  -- a scan on its way
  pub scanning : (next : ScanPhase) (w : Word) → ((k : ℕ) → way_scan next ≡ Some k → (coll : ℕ) × HasOpen scans k coll)
      → StepScans i scans begun (scan_scans scans next w) begun (scan_change shape next w)
  scanning (scan.Directory k c t) w h = go (is_scanned (dir_of w))
    where
      go : (b : Bool) → StepScans i scans begun (if b then scans else passed scans k (t + 1)) begun (if b then goes (phase.Scan (scan.Back k c t)) else goes (passes shape k c t))
      go true = going_on k (h k refl).0 (phase.Scan (scan.Back k c t)) (h k refl).1 refl
      go false = passing k c t (h k refl).0 (h k refl).1
  scanning (scan.Back k c t) (word.Back (Some n)) h = going_on k (h k refl).0 (phase.Look (look.Load (seeker.Scan k c t) n)) (h k refl).1 refl
  scanning (scan.Back k c t) (word.Back None) h = passing k c t (h k refl).0 (h k refl).1
  scanning (scan.Back k c t) (word.Plain n) h = passing k c t (h k refl).0 (h k refl).1
  scanning (scan.Back k c t) (word.Round n) h = passing k c t (h k refl).0 (h k refl).1
  scanning (scan.Back k c t) (word.Entry n) h = passing k c t (h k refl).0 (h k refl).1
  scanning (scan.Back k c t) (word.Directory n) h = passing k c t (h k refl).0 (h k refl).1
  scanning (scan.Back k c t) (word.Forward n) h = passing k c t (h k refl).0 (h k refl).1
  scanning (scan.End k) w h = record { told = (h k refl, ended-on scans k, refl); is_open = closed (ended scans k) phase.Idle refl }

  -- going on with a scan
  pub continuing : (k : ℕ) (o : Option Scan) (w : Word) → scan_of scans k ≡ o → StepScans i scans begun (next_after shape scans o w) begun (next_started shape o w)
  continuing k None w is = quiet i scans begun (goes phase.Idle) refl refl
  continuing k (Some b) w is = go b.ended (is_over shape b) refl
    where
      has : b.ended ≡ false → (j : ℕ) → b.number ≡ j → (coll : ℕ) × HasOpen scans j coll
      has opened j same = (b.coll, (b, ap (scan_of scans) (sym same ∙ scan_of-number scans k b is) ∙ is, opened, refl))

      number : (j : ℕ) → Some b.number ≡ Some j → b.number ≡ j
      number j e = grind (arith, e)

      go : (x y : Bool) → b.ended ≡ x
          → StepScans i scans begun (if x then scans else if y then scan_scans scans (scan.End b.number) w else scan_scans scans (scan.Directory b.number b.coll b.place) w) begun
          (if x then ends done.End else if y then scan_change shape (scan.End b.number) w else scan_change shape (scan.Directory b.number b.coll b.place) w)
      go true y e = quiet i scans begun (ends done.End) refl refl
      go false true e = scanning (scan.End b.number) w (λ j s. has e j (number j s))
      go false false e = scanning (scan.Directory b.number b.coll b.place) w (λ j s. has e j (number j s))
