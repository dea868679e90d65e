-- The numbers and the histories of the scans of the pass that takes a step.
use Rattle.std.proofs.Common.{◌≡◌, ◌≢◌, ℕ, ◌+◌, ◌<◌, ◌≤◌, Bool, true, false, Option, Some, None, List, [], ◌∷◌, ◌++◌, inl, inr, refl, sym, ap, ◌∙◌, subst, arith}
use Rattle.std.specs.Prelude.{◌&&◌, if◌then◌else◌}
use Rattle.std.proofs.lemmas.Bool.{ne_eqb}
use Rattle.smc_words.specs.declared.layout.TheConstants.{PASSES}
use Rattle.smc_model.specs.declared.event.Event.{Event}
use Rattle.smc_model.specs.declared.event.Event.TheVariants as event
use Rattle.smc_model.specs.World.{World, is_present, world_through}
use Rattle.smc_core.specs.declared.local.Scan.{Scan}
use Rattle.smc_core.specs.Scan.{scan_of, scan_number, new_scan}
use Rattle.smc_core.specs.Words.{same_number}
use Rattle.smc_rules.proofs.CarryLaws.{by_pass}
use Rattle.smc_inv_scan.specs.Marks.{Marks, marks_told}
use Rattle.smc_inv_scan.proofs.ListLaws.{begun-was, scan_of-number}
use Rattle.smc_refine.proofs.Histories.{ScanHistory, SaysNothing, spoken, history-begin, history-end, history-other, history-visit}
use Rattle.smc_refine.proofs.OrderSteps.{told_of}
use Rattle.smc_refine.proofs.ScanSteps.{GoOn, ScansTold}

-- a number that the pass has given to a scan
abbrev pub IsOf : ℕ → ℕ → ℕ → Type 0
IsOf i begun k = (j : ℕ) × (j < begun) × (k ≡ scan_number i j)

-- numbers of scans tell their pass, and which of its scans they are
pub numbers-apart : (i k j l : ℕ) → i < PASSES → k < PASSES → scan_number i j ≡ scan_number k l → (i ≡ k) × (j ≡ l)
numbers-apart i k j l a b e = (omega (arith, a, b, e), omega (arith, a, b, e))

-- a pass that has begun more has given it too
pub still_of : (i a b k : ℕ) → IsOf i a k → a ≤ b → IsOf i b k
still_of i a b k is le = (is.0, omega (arith, is.1, le), is.2)

module _ (pass : ℕ) (scans : List Scan) (begun : ℕ) (later : List Scan) (count : ℕ) where
  -- how many scans the pass has begun does not fall
  pub counted : (e : Option Event) → ScansTold pass scans begun later count e → begun ≤ count
  counted None t = omega (arith, t.1)
  counted (Some (event.Begin k c)) t = omega (arith, t.2)
  counted (Some (event.Visit k n)) t = omega (arith, t.2)
  counted (Some (event.End k)) t = omega (arith, t.2)
  counted (Some (event.Add n c ws)) t = omega (arith, t.1)
  counted (Some (event.Look n x)) t = omega (arith, t.1)
  counted (Some (event.Read n f v)) t = omega (arith, t.1)
  counted (Some (event.Write n f v)) t = omega (arith, t.1)
  counted (Some (event.Remove n f)) t = omega (arith, t.1)
  counted (Some (event.Refused c x)) t = omega (arith, t.1)
  counted (Some event.Enter) t = omega (arith, t.1)
  counted (Some event.Leave) t = omega (arith, t.1)
  counted (Some (event.Told p c)) t = omega (arith, t.1)

  module _ (numbers : (k : ℕ) (b : Scan) → scan_of scans k ≡ Some b → IsOf pass begun k) where
    -- an event speaks of a scan of its pass
    pub own-number : (x : Event) (k : ℕ) → ScansTold pass scans begun later count (Some x) → spoken x ≡ Some k → IsOf pass count k
    own-number (event.Begin j c) k t is =
        let same : j ≡ k = grind (arith, is) in
        let more : count ≡ begun + 1 = t.2 in
        (begun, omega (arith, more), sym same ∙ t.0)
    own-number (event.Visit j n) k t is =
        let same : j ≡ k = grind (arith, is) in
        let more : count ≡ begun = t.2 in
        still_of pass begun count k (subst (IsOf pass begun) same (numbers j t.0.0 t.0.1)) (omega (arith, more))
    own-number (event.End j) k t is =
        let same : j ≡ k = grind (arith, is) in
        let more : count ≡ begun = t.2 in
        still_of pass begun count k (subst (IsOf pass begun) same (numbers j t.0.1.0 t.0.1.1)) (omega (arith, more))
    own-number (event.Add n c ws) k t is = absurd (cc)
    own-number (event.Look n x) k t is = absurd (cc)
    own-number (event.Read n f v) k t is = absurd (cc)
    own-number (event.Write n f v) k t is = absurd (cc)
    own-number (event.Remove n f) k t is = absurd (cc)
    own-number (event.Refused c x) k t is = absurd (cc)
    own-number event.Enter k t is = absurd (cc)
    own-number event.Leave k t is = absurd (cc)
    own-number (event.Told p c) k t is = absurd (cc)

    -- each scan has such a number
    pub own-numbers : (e : Option Event) → ScansTold pass scans begun later count e
        → (k : ℕ) (b : Scan) → scan_of later k ≡ Some b → IsOf pass count k
    own-numbers e t k b is = go e t
      where
        more : GoOn scans later → count ≡ begun → IsOf pass count k
        more g stays = still_of pass begun count k (numbers k (g k b is).0 (g k b is).1) (omega (arith, stays))

        go : (e : Option Event) → ScansTold pass scans begun later count e → IsOf pass count k
        go None t = more t.0 t.1
        go (Some (event.Begin j c)) t = elim (begun-was scans (new_scan j c) k b (subst (λ (l : List Scan). scan_of l k ≡ Some b) t.1 is)) [
          | inl old ↦ still_of pass begun count k (numbers k b old) (omega (arith, t.2))
          | inr same ↦ (begun, omega (arith, t.2), sym (scan_of-number later k b is) ∙ (ap (λ (z : Scan). z.number) (sym same) ∙ t.0))
        ]
        go (Some (event.Visit j n)) t = more t.1 t.2
        go (Some (event.End j)) t = still_of pass begun count k (numbers k (t.1 k b is).0 (t.1 k b is).1) (omega (arith, t.2))
        go (Some (event.Add n c ws)) t = more t.0 t.1
        go (Some (event.Look n x)) t = more t.0 t.1
        go (Some (event.Read n f v)) t = more t.0 t.1
        go (Some (event.Write n f v)) t = more t.0 t.1
        go (Some (event.Remove n f)) t = more t.0 t.1
        go (Some (event.Refused c x)) t = more t.0 t.1
        go (Some event.Enter) t = more t.0 t.1
        go (Some event.Leave) t = more t.0 t.1
        go (Some (event.Told p c)) t = more t.0 t.1

    module _ (low : pass < PASSES) (first : World) (events : List Event) (world : World) (m : Marks)
        (history : (k : ℕ) (b : Scan) → scan_of scans k ≡ Some b → ScanHistory first events (m.began k) (m.visited k) k b)
        (at : world ≡ world_through first events) (unspoken : SaysNothing events (scan_number pass begun)) where
      -- each has its history, with the event of the step
      pub own-history : (e : Option Event) → ScansTold pass scans begun later count e
          → (k : ℕ) (b : Scan) → scan_of later k ≡ Some b → ScanHistory first (events ++ told_of e) ((marks_told world m e).began k) ((marks_told world m e).visited k) k b
      own-history e t k b is = go e t
        where
          -- an event of no scan
          quiet : (e : Option Event) → GoOn scans later → ((y : Event) → e ≡ Some y → spoken y ≢ Some k) → ScanHistory first (events ++ told_of e) (m.began k) (m.visited k) k b
          quiet e g other = let (old, was, coll, end) = g k b is in
              history-other first events world m k e old b (m.began k) (m.visited k) (history k old was) coll (λ z. sym end ∙ z) other (λ n. refl) (λ n. refl)

          -- an event of another one
          another : (x : Event) (j : ℕ) → spoken x ≡ Some j → k ≢ j → (y : Event) → Some x ≡ Some y → spoken y ≢ Some k
          another x j says ne y same says_k = let one : x ≡ y = cc in let two : Some j ≡ Some k = sym says ∙ (ap spoken one ∙ says_k) in ne (grind (arith, two))

          silent : (x : Event) → spoken x ≡ None → (y : Event) → Some x ≡ Some y → spoken y ≢ Some k
          silent x nothing y same says = let one : x ≡ y = cc in let two : None ≡ Some k = sym nothing ∙ (ap spoken one ∙ says) in absurd (cc)

          go : (e : Option Event) → ScansTold pass scans begun later count e
              → ScanHistory first (events ++ told_of e) ((marks_told world m e).began k) ((marks_told world m e).visited k) k b
          go None t = quiet None t.0 (λ y none. absurd (cc))
          go (Some (event.Begin j c)) t = elim (begun-was scans (new_scan j c) k b (subst (λ (l : List Scan). scan_of l k ≡ Some b) t.1 is)) [
            | inl old ↦
                let (l, below, eq) = numbers k b old in
                let ne : k ≢ j = λ same. let (i, one) = numbers-apart pass pass l begun (low) (low) (sym eq ∙ (same ∙ t.0)) in omega (arith, below, one) in
                history-other first events world m k (Some (event.Begin j c)) b b ((marks_told world m (Some (event.Begin j c))).began k) ((marks_told world m (Some (event.Begin j c))).visited k)
                (history k b old) refl (λ z. z) (another (event.Begin j c) j refl ne)
                (λ n. ap (λ (z : Bool). if z then is_present world n else m.began k n) (ne_eqb k j ne))
                (λ n. ap (λ (z : Bool). if z then false else m.visited k n) (ne_eqb k j ne))
            | inr same ↦
                let number : j ≡ k = ap (λ (z : Scan). z.number) same ∙ scan_of-number later k b is in
                subst (λ (z : Scan). ScanHistory first (events ++ event.Begin j c ∷ []) ((marks_told world m (Some (event.Begin j c))).began k) ((marks_told world m (Some (event.Begin j c))).visited k) k z) same
                (subst (λ (z : ℕ). ScanHistory first (events ++ event.Begin j c ∷ []) ((marks_told world m (Some (event.Begin j c))).began z) ((marks_told world m (Some (event.Begin j c))).visited z) z (new_scan j c)) number
                (history-begin first events world m j c at (subst (SaysNothing events) (sym t.0) unspoken)))
          ]
          go (Some (event.Visit j n)) t = by_pass k j
              (λ same. let (old, was, coll, end) = t.1 k b is in
              subst (λ (z : ℕ). ScanHistory first (events ++ event.Visit z n ∷ []) ((marks_told world m (Some (event.Visit z n))).began k) ((marks_told world m (Some (event.Visit z n))).visited k) k b) same
              (history-visit first events world m k n old b (history k old was) coll end))
              (λ ne. let (old, was, coll, end) = t.1 k b is in
              history-other first events world m k (Some (event.Visit j n)) old b (m.began k) ((marks_told world m (Some (event.Visit j n))).visited k)
              (history k old was) coll (λ z. sym end ∙ z) (another (event.Visit j n) j refl ne) (λ x. refl)
              (λ x. ap (λ (z : Bool). if z && same_number x n then true else m.visited k x) (ne_eqb k j ne)))
          go (Some (event.End j)) t = by_pass k j
              (λ same. let (old, was, coll, end) = t.1 k b is in
              subst (λ (z : ℕ). ScanHistory first (events ++ event.End z ∷ []) (m.began k) (m.visited k) k b) same
              (history-end first events world m k old b (history k old was) coll (elim end [ inl over ↦ over | inr other ↦ absurd (other.0 same) ])))
              (λ ne. let (old, was, coll, end) = t.1 k b is in
              history-other first events world m k (Some (event.End j)) old b (m.began k) (m.visited k)
              (history k old was) coll (λ z. elim end [ inl over ↦ absurd (cc) | inr other ↦ sym other.1 ∙ z ]) (another (event.End j) j refl ne) (λ x. refl) (λ x. refl))
          go (Some (event.Add n c ws)) t = quiet (Some (event.Add n c ws)) t.0 (silent (event.Add n c ws) refl)
          go (Some (event.Look n x)) t = quiet (Some (event.Look n x)) t.0 (silent (event.Look n x) refl)
          go (Some (event.Read n f v)) t = quiet (Some (event.Read n f v)) t.0 (silent (event.Read n f v) refl)
          go (Some (event.Write n f v)) t = quiet (Some (event.Write n f v)) t.0 (silent (event.Write n f v) refl)
          go (Some (event.Remove n f)) t = quiet (Some (event.Remove n f)) t.0 (silent (event.Remove n f) refl)
          go (Some (event.Refused c x)) t = quiet (Some (event.Refused c x)) t.0 (silent (event.Refused c x) refl)
          go (Some event.Enter) t = quiet (Some event.Enter) t.0 (silent event.Enter refl)
          go (Some event.Leave) t = quiet (Some event.Leave) t.0 (silent event.Leave refl)
          go (Some (event.Told p c)) t = quiet (Some (event.Told p c)) t.0 (silent (event.Told p c) refl)
