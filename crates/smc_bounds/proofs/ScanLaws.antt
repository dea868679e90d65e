-- What a scan has left falls at each of its steps, and rises at no other step.
use Rattle.std.proofs.Common.{◌≡◌, ◌≢◌, ℕ, ◌+◌, ◌-◌, ◌*◌, ◌<◌, ◌≤◌, ◌==◌, ◌&&◌, Bool, true, false, nat_lt, Option, Some, None, List, [], ◌∷◌, ◌++◌, refl, sym, subst, ap, ◌∙◌, arith}
use Rattle.std.specs.Prelude.{not, if◌then◌else◌}
use Rattle.std.proofs.lemmas.Bool.{cond_both, eq-eqb, eqb-true, ne_eqb}
use Rattle.std.proofs.lemmas.Bool.Decides.{nat_tests}
use Rattle.smc_words.specs.declared.number.Number.{Number}
use Rattle.smc_shape.specs.Layout.{Layout, slots_of, width_of}
use Rattle.smc_core.specs.declared.call.Call.{Call}
use Rattle.smc_core.specs.declared.call.Call.TheVariants as call
use Rattle.smc_core.specs.declared.call.Choice.TheVariants.{Start, Go}
use Rattle.smc_core.specs.declared.change.Change.{Change}
use Rattle.smc_core.specs.declared.done.Done.TheVariants as done
use Rattle.smc_core.specs.declared.local.Scan.{Scan}
use Rattle.smc_core.specs.declared.local.Stand.{Stand}
use Rattle.smc_core.specs.declared.phase.Phase.{Phase}
use Rattle.smc_core.specs.declared.phase.Phase.TheVariants as phase
use Rattle.smc_core.specs.declared.phase.objects.CopyPhase.TheVariants as copy
use Rattle.smc_core.specs.declared.phase.objects.Finding.{Finding}
use Rattle.smc_core.specs.declared.phase.objects.Finding.TheVariants.{Absent, Stays, Abandons, Helps}
use Rattle.smc_core.specs.declared.phase.objects.LookPhase.{LookPhase}
use Rattle.smc_core.specs.declared.phase.objects.LookPhase.TheVariants as look
use Rattle.smc_core.specs.declared.phase.objects.ScanPhase.{ScanPhase}
use Rattle.smc_core.specs.declared.phase.objects.ScanPhase.TheVariants as scan
use Rattle.smc_core.specs.declared.phase.objects.Seeker.{Seeker}
use Rattle.smc_core.specs.declared.phase.objects.Seeker.TheVariants as seeker
use Rattle.smc_core.specs.declared.section.Section.{Section}
use Rattle.smc_core.specs.declared.word.Word.{Word}
use Rattle.smc_core.specs.declared.word.Word.TheVariants as word
use Rattle.smc_core.specs.Change.{go_change, next_started, start_change}
use Rattle.smc_core.specs.Count.{counting}
use Rattle.smc_core.specs.Local.{next_after, scans_after, section_after}
use Rattle.smc_core.specs.Look.{look_change, look_finding, passes, seeker_of, sought_number, visits}
use Rattle.smc_core.specs.Scan.{ended, is_over, is_scanned, look_scans, new_scan, passed, scan_change, scan_number, scan_of, scan_scans}
use Rattle.smc_core.specs.Section.{epoch_of, is_calm}
use Rattle.smc_core.specs.Step.{ends, goes}
use Rattle.smc_core.specs.Words.{dir_of, plain_of}
use Rattle.smc_inv_bound.specs.Left.{CountsOwners, look_left, scan_rest, seeker_left, steps_left}
use Rattle.smc_inv_bound.proofs.CallLaws.{looking-falls, passes-falls, scan-falls}
use Rattle.smc_bounds.specs.Bounds.{scan_steps}
use Rattle.smc_bounds.specs.Kept.{OfColl, ScansHome, SeeksHome}
use Rattle.smc_bounds.specs.Scans.{is_of, is_open, is_scan_step, seeks_for, stored_left, whole_left}
use Rattle.smc_bounds.proofs.HomeLaws.{add-plain, begin-plain, both, cancel-plain, entering-plain, finish-plain, of_none, ready_seen-plain, remove-plain, section_seen-plain, start-plain, survey-plain}
use Rattle.smc_bounds.proofs.ScanLists.{begun-other, closed, ended-other, ended-same, found-number, passed-other, passed-same, placed}
use Rattle.smc_bounds.proofs.StartLaws.{by_width}

-- a look-up has more left than who looks
some_look : (shape : Layout) (next : LookPhase) → seeker_left shape (width_of shape) (seeker_of next) < look_left shape (width_of shape) next
some_look shape (look.Load who number) = omega arith
some_look shape (look.Abandon who number slot) = omega arith
some_look shape (look.Help who number slot copy.Target) = omega arith
some_look shape (look.Help who number slot (copy.Load target field)) = omega arith
some_look shape (look.Help who number slot (copy.Put target field value)) = omega arith
some_look shape (look.Help who number slot (copy.Swing target)) = omega arith

module _ (shape : Layout) (k : ℕ) where
  -- of a phase that goes on with the scan, what the phase has left; of another, what is stored
  in_call : (section : Section) (next : Phase) (scans : List Scan) → is_of k next ≡ true → whole_left shape k section next scans ≡ steps_left shape (width_of shape) section next
  in_call section next scans e = ap (λ (b : Bool). if b then steps_left shape (width_of shape) section next else stored_left shape (scan_of scans k)) e

  between : (section : Section) (next : Phase) (scans : List Scan) → is_of k next ≡ false → whole_left shape k section next scans ≡ stored_left shape (scan_of scans k)
  between section next scans e = ap (λ (b : Bool). if b then steps_left shape (width_of shape) section next else stored_left shape (scan_of scans k)) e

  -- a step that has nothing to do with the scan
  still : (now later : Section) (p q : Phase) (scans after : List Scan) → is_of k p ≡ false → is_of k q ≡ false → scan_of after k ≡ scan_of scans k
      → whole_left shape k later q after ≤ whole_left shape k now p scans
  still now later p q scans after e f same =
      omega (arith, between now p scans e, between later q after f, ap (stored_left shape) same)

  -- nothing is left of a scan that has ended
  closed-left : (o : Option Scan) → stored_left shape (closed o) ≡ 0
  closed-left None = refl
  closed-left (Some begun) = refl

  ended-left : (scans : List Scan) → stored_left shape (scan_of (ended scans k) k) ≡ 0
  ended-left scans = ap (stored_left shape) (ended-same scans k) ∙ closed-left (scan_of scans k)

  -- behind a slot that it has passed
  placed-left : (coll slot : ℕ) (o : Option Scan) → OfColl coll o → stored_left shape (placed (slot + 1) o) ≤ scan_rest shape (width_of shape) coll slot
  placed-left coll slot None home = omega arith
  placed-left coll slot (Some begun) home =
      subst (λ (c : ℕ). (if begun.ended then 0 else 1 + (slots_of shape begun.coll - (slot + 1)) * (6 + 2 * width_of shape begun.coll)) ≤ scan_rest shape (width_of shape) c slot) home
      (cond_both begun.ended 0 (1 + (slots_of shape begun.coll - (slot + 1)) * (6 + 2 * width_of shape begun.coll)) (λ (n : ℕ). n ≤ scan_rest shape (width_of shape) begun.coll slot)
      (λ t. omega arith) (λ n. omega arith))

  passed-left : (scans : List Scan) (coll slot : ℕ) → OfColl coll (scan_of scans k) → stored_left shape (scan_of (passed scans k (slot + 1)) k) ≤ scan_rest shape (width_of shape) coll slot
  passed-left scans coll slot home =
      subst (λ (o : Option Scan). stored_left shape o ≤ scan_rest shape (width_of shape) coll slot) (sym (passed-same scans k (slot + 1))) (placed-left coll slot (scan_of scans k) home)

  -- a scan that passes a slot goes on
  passes-of : (j coll slot : ℕ) → is_of k (passes shape j coll slot) ≡ (j == k)
  passes-of j coll slot =
      cond_both (nat_lt (slot + 1) (slots_of shape coll)) (phase.Scan (scan.Directory j coll (slot + 1))) (phase.Scan (scan.End j)) (λ p. is_of k p ≡ (j == k)) (λ t. refl) (λ n. refl)

  directory-of : (j coll slot : ℕ) (w : Word) → is_of k (scan_change shape (scan.Directory j coll slot) w).phase ≡ (j == k)
  directory-of j coll slot w =
      cond_both (is_scanned (dir_of w)) (goes (phase.Scan (scan.Back j coll slot))) (goes (passes shape j coll slot)) (λ (c : Change). is_of k c.phase ≡ (j == k)) (λ t. refl) (λ n. passes-of j coll slot)

  back-of : (j coll slot : ℕ) (w : Word) → is_of k (scan_change shape (scan.Back j coll slot) w).phase ≡ (j == k)
  back-of j coll slot (word.Back (Some owner)) = refl
  back-of j coll slot _ = passes-of j coll slot

  -- and leaves each other scan
  directory-other : (scans : List Scan) (j coll slot : ℕ) (w : Word) → (j == k) ≡ false → scan_of (scan_scans scans (scan.Directory j coll slot) w) k ≡ scan_of scans k
  directory-other scans j coll slot w ne =
      cond_both (is_scanned (dir_of w)) scans (passed scans j (slot + 1)) (λ (v : List Scan). scan_of v k ≡ scan_of scans k) (λ t. refl) (λ n. passed-other scans j (slot + 1) k ne)

  back-other : (scans : List Scan) (j coll slot : ℕ) (w : Word) → (j == k) ≡ false → scan_of (scan_scans scans (scan.Back j coll slot) w) k ≡ scan_of scans k
  back-other scans j coll slot (word.Back (Some owner)) ne = refl
  back-other scans j coll slot _ ne = passed-other scans j (slot + 1) k ne

  -- a step of a scan that goes on: of this one, or of another one
  goes-whole : (section : Section) (j : ℕ) (p q : Phase) (scans after : List Scan) → is_of k p ≡ (j == k) → is_of k q ≡ (j == k)
      → steps_left shape (width_of shape) section q < steps_left shape (width_of shape) section p → ((j == k) ≡ false → scan_of after k ≡ scan_of scans k)
      → whole_left shape k section q after + (if is_of k p then 1 else 0) ≤ whole_left shape k section p scans
  goes-whole section j p q scans after is_p is_q falls other = go (j == k) refl
    where
      go : (b : Bool) → (j == k) ≡ b → whole_left shape k section q after + (if is_of k p then 1 else 0) ≤ whole_left shape k section p scans
      go true t =
          omega (arith, in_call section p scans (is_p ∙ t), in_call section q after (is_q ∙ t), falls, ap {B = ℕ} (λ (b : Bool). if b then 1 else 0) (is_p ∙ t))
      go false f =
          omega (arith, still section section p q scans after (is_p ∙ f) (is_q ∙ f) (other f), ap {B = ℕ} (λ (b : Bool). if b then 1 else 0) (is_p ∙ f))

  end-whole : (section : Section) (j : ℕ) (scans : List Scan)
      → whole_left shape k section phase.Idle (ended scans j) + (if j == k then 1 else 0) ≤ whole_left shape k section (phase.Scan (scan.End j)) scans
  end-whole section j scans = go (j == k) refl
    where
      go : (b : Bool) → (j == k) ≡ b → whole_left shape k section phase.Idle (ended scans j) + (if j == k then 1 else 0) ≤ whole_left shape k section (phase.Scan (scan.End j)) scans
      go true t =
          omega (arith, in_call section (phase.Scan (scan.End j)) scans t, ap (λ (i : ℕ). stored_left shape (scan_of (ended scans i) k)) (eqb-true j k t), ended-left scans, ap {B = ℕ} (λ (b : Bool). if b then 1 else 0) t)
      go false f =
          omega (arith, between section (phase.Scan (scan.End j)) scans f, ap (stored_left shape) (ended-other scans j k f), ap {B = ℕ} (λ (b : Bool). if b then 1 else 0) f)

  scan-whole : (section : Section) (next : ScanPhase) (w : Word) (scans : List Scan) → CountsOwners (width_of shape) (phase.Scan next) w
      → whole_left shape k section (scan_change shape next w).phase (scan_scans scans next w) + (if is_of k (phase.Scan next) then 1 else 0) ≤ whole_left shape k section (phase.Scan next) scans
  scan-whole section (scan.Directory j coll slot) w scans owners =
      goes-whole section j (phase.Scan (scan.Directory j coll slot)) (scan_change shape (scan.Directory j coll slot) w).phase scans (scan_scans scans (scan.Directory j coll slot) w) refl
      (directory-of j coll slot w) (scan-falls shape (width_of shape) (by_width shape) (scan.Directory j coll slot) w owners section) (directory-other scans j coll slot w)
  scan-whole section (scan.Back j coll slot) w scans owners =
      goes-whole section j (phase.Scan (scan.Back j coll slot)) (scan_change shape (scan.Back j coll slot) w).phase scans (scan_scans scans (scan.Back j coll slot) w) refl
      (back-of j coll slot w) (scan-falls shape (width_of shape) (by_width shape) (scan.Back j coll slot) w owners section) (back-other scans j coll slot w)
  scan-whole section (scan.End j) w scans owners = end-whole section j scans

  -- a look-up of a scan
  visit-whole : (section : Section) (j coll place : ℕ) (number : Number) (slot : ℕ) (next : LookPhase) (scans : List Scan) → seeker_of next ≡ seeker.Scan j coll place → OfColl coll (scan_of scans j)
      → whole_left shape k section (look_change shape (seeker.Scan j coll place) number (Stays slot)).phase (passed scans j (place + 1)) + (if is_of k (phase.Look next) then 1 else 0)
      ≤ whole_left shape k section (phase.Look next) scans
  visit-whole section j coll place number slot next scans who home =
      cond_both (slot == place) (visits j number slot) (goes (passes shape j coll place))
      (λ (c : Change). whole_left shape k section c.phase (passed scans j (place + 1)) + (if is_of k (phase.Look next) then 1 else 0) ≤ whole_left shape k section (phase.Look next) scans)
      (λ t. met (j == k) refl)
      (λ n. goes-whole section j (phase.Look next) (passes shape j coll place) scans (passed scans j (place + 1)) is_p (passes-of j coll place) (passes-falls shape (width_of shape) (by_width shape) j coll place _ more section)
      (passed-other scans j (place + 1) k))
    where
      is_p : is_of k (phase.Look next) ≡ (j == k)
      is_p = ap (seeks_for k) who

      more : scan_rest shape (width_of shape) coll place < look_left shape (width_of shape) next
      more = omega (arith, some_look shape next, ap (seeker_left shape (width_of shape)) who)

      met : (b : Bool) → (j == k) ≡ b
          → whole_left shape k section phase.Idle (passed scans j (place + 1)) + (if is_of k (phase.Look next) then 1 else 0) ≤ whole_left shape k section (phase.Look next) scans
      met true t =
          let same : j ≡ k = eqb-true j k t in
          omega (
            arith,
            in_call section (phase.Look next) scans (is_p ∙ t),
            more,
            ap {B = ℕ} (λ (b : Bool). if b then 1 else 0) (is_p ∙ t),
            ap (λ (i : ℕ). stored_left shape (scan_of (passed scans i (place + 1)) k)) same,
            passed-left scans coll place (subst (λ (i : ℕ). OfColl coll (scan_of scans i)) same home),
          )
      met false f =
          omega (arith, still section section (phase.Look next) phase.Idle scans (passed scans j (place + 1)) (is_p ∙ f) refl (passed-other scans j (place + 1) k f), ap {B = ℕ} (λ (b : Bool). if b then 1 else 0) (is_p ∙ f))

  look_by-whole : (section : Section) (who : Seeker) (number : Number) (finding : Finding) (next : LookPhase) (scans : List Scan) → seeker_of next ≡ who
      → steps_left shape (width_of shape) section (look_change shape who number finding).phase < look_left shape (width_of shape) next → ScansHome (phase.Look next) scans
      → whole_left shape k section (look_change shape who number finding).phase (look_scans scans who finding) + (if is_of k (phase.Look next) then 1 else 0) ≤ whole_left shape k section (phase.Look next) scans
  look_by-whole section seeker.Caller number Absent next scans who falls home =
      omega (arith, still section section (phase.Look next) phase.Idle scans scans (ap (seeks_for k) who) refl refl, ap {B = ℕ} (λ (b : Bool). if b then 1 else 0) (ap (seeks_for k) who))
  look_by-whole section seeker.Caller number (Stays slot) next scans who falls home =
      omega (arith, still section section (phase.Look next) phase.Idle scans scans (ap (seeks_for k) who) refl refl, ap {B = ℕ} (λ (b : Bool). if b then 1 else 0) (ap (seeks_for k) who))
  look_by-whole section seeker.Caller number (Abandons slot) next scans who falls home =
      omega (arith, still section section (phase.Look next) (phase.Look (look.Abandon seeker.Caller number slot)) scans scans (ap (seeks_for k) who) refl refl, ap {B = ℕ} (λ (b : Bool). if b then 1 else 0) (ap (seeks_for k) who))
  look_by-whole section seeker.Caller number (Helps slot copy) next scans who falls home =
      omega (arith, still section section (phase.Look next) (phase.Look (look.Help seeker.Caller number slot copy)) scans scans (ap (seeks_for k) who) refl refl, ap {B = ℕ} (λ (b : Bool). if b then 1 else 0) (ap (seeks_for k) who))
  look_by-whole section (seeker.Scan j coll place) number Absent next scans who falls home =
      goes-whole section j (phase.Look next) (passes shape j coll place) scans (passed scans j (place + 1)) (ap (seeks_for k) who) (passes-of j coll place) falls (passed-other scans j (place + 1) k)
  look_by-whole section (seeker.Scan j coll place) number (Stays slot) next scans who falls home =
      visit-whole section j coll place number slot next scans who (subst (λ (s : Seeker). SeeksHome s scans) who home)
  look_by-whole section (seeker.Scan j coll place) number (Abandons slot) next scans who falls home =
      goes-whole section j (phase.Look next) (phase.Look (look.Abandon (seeker.Scan j coll place) number slot)) scans scans (ap (seeks_for k) who) refl falls (λ f. refl)
  look_by-whole section (seeker.Scan j coll place) number (Helps slot copy) next scans who falls home =
      goes-whole section j (phase.Look next) (phase.Look (look.Help (seeker.Scan j coll place) number slot copy)) scans scans (ap (seeks_for k) who) refl falls (λ f. refl)

  -- any step that goes on
  pub go-whole : (pass : ℕ) (stand : Stand) (section : Section) (next : Phase) (w : Word) → CountsOwners (width_of shape) next w → ScansHome next stand.scans
      → whole_left shape k (section_after section next Go w) (go_change shape stand section next w).phase (scans_after shape pass stand section next Go w) + (if is_of k next then 1 else 0)
      ≤ whole_left shape k section next stand.scans
  go-whole pass stand section phase.Idle w owners home = omega arith
  go-whole pass stand section phase.Entering w owners home =
      omega (arith, still section (section_after section phase.Entering Go w) phase.Entering _ stand.scans stand.scans refl (of_none k _ (entering-plain shape section)) refl)
  go-whole pass stand section (phase.Advancing from other) w owners home =
      omega (arith, still section section (phase.Advancing from other) _ stand.scans stand.scans refl (of_none k _ (section_seen-plain shape from other (plain_of w))) refl)
  go-whole pass stand section (phase.Ready from) w owners home =
      omega (arith, still section section (phase.Ready from) _ stand.scans stand.scans refl (of_none k _ (ready_seen-plain shape from (plain_of w))) refl)
  go-whole pass stand section (phase.Look next) w owners home =
      look_by-whole section (seeker_of next) (sought_number next) (look_finding shape (is_calm section) next w) next stand.scans refl
      (looking-falls shape (width_of shape) (by_width shape) (is_calm section) next w section) home
  go-whole pass stand section (phase.Add next) w owners home =
      omega (arith, still section section (phase.Add next) _ stand.scans stand.scans refl (of_none k _ (add-plain shape (epoch_of section) stand.words next w)) refl)
  go-whole pass stand section (phase.Remove next) w owners home =
      omega (arith, still section section (phase.Remove next) _ stand.scans stand.scans refl (of_none k _ (remove-plain shape next)) refl)
  go-whole pass stand section (phase.Scan next) w owners home = scan-whole section next w stand.scans owners
  go-whole pass stand section (phase.Begin next) w owners home =
      omega (arith, still section section (phase.Begin next) _ stand.scans stand.scans refl (of_none k _ (begin-plain shape (epoch_of section) next w)) refl)
  go-whole pass stand section (phase.Finish next) w owners home =
      omega (arith, still section section (phase.Finish next) _ stand.scans stand.scans refl (of_none k _ (finish-plain shape next w)) refl)
  go-whole pass stand section (phase.Cancel next) w owners home =
      omega (arith, still section section (phase.Cancel next) _ stand.scans stand.scans refl (of_none k _ (cancel-plain shape next w)) refl)
  go-whole pass stand section (phase.Survey next) w owners home =
      omega (arith, still section section (phase.Survey next) _ stand.scans stand.scans refl (of_none k _ (survey-plain shape (counting shape next w))) refl)

  -- going on with a scan that the section has begun: another one
  next_apart-whole : (section : Section) (scans : List Scan) (begun : Scan) (w : Word) → (begun.number == k) ≡ false
      → whole_left shape k section (next_started shape (Some begun) w).phase (next_after shape scans (Some begun) w) ≤ stored_left shape (scan_of scans k)
  next_apart-whole section scans begun w ne =
      both shape (λ p v. whole_left shape k section p v ≤ stored_left shape (scan_of scans k)) begun.ended (ends done.End)
      (if is_over shape begun then scan_change shape (scan.End begun.number) w else scan_change shape (scan.Directory begun.number begun.coll begun.place) w)
      scans (if is_over shape begun then scan_scans scans (scan.End begun.number) w else scan_scans scans (scan.Directory begun.number begun.coll begun.place) w)
      (omega arith)
      (both shape (λ p v. whole_left shape k section p v ≤ stored_left shape (scan_of scans k)) (is_over shape begun)
      (scan_change shape (scan.End begun.number) w) (scan_change shape (scan.Directory begun.number begun.coll begun.place) w)
      (scan_scans scans (scan.End begun.number) w) (scan_scans scans (scan.Directory begun.number begun.coll begun.place) w)
      (omega (arith, ap (stored_left shape) (ended-other scans begun.number k ne)))
      (still section section phase.Idle _ scans (scan_scans scans (scan.Directory begun.number begun.coll begun.place) w) refl
      (directory-of begun.number begun.coll begun.place w ∙ ne) (directory-other scans begun.number begun.coll begun.place w ne)))

  -- or this one, by whether it is over
  next_on-whole : (section : Section) (scans : List Scan) (begun : Scan) (w : Word) → begun.number ≡ k → (over : Bool) → is_over shape begun ≡ over
      → whole_left shape k section (if over then scan_change shape (scan.End begun.number) w else scan_change shape (scan.Directory begun.number begun.coll begun.place) w).phase
      (if over then scan_scans scans (scan.End begun.number) w else scan_scans scans (scan.Directory begun.number begun.coll begun.place) w) + 1 ≤ scan_steps shape begun
  next_on-whole section scans begun w same true e = omega (arith, ap (λ (i : ℕ). stored_left shape (scan_of (ended scans i) k)) same, ended-left scans)
  next_on-whole section scans begun w same false e =
      let at : begun.place < slots_of shape begun.coll = grind (arith, nat_tests, e) in
      let one : slots_of shape begun.coll - begun.place ≡ slots_of shape begun.coll - (begun.place + 1) + 1 = omega (arith, at) in
      let of : is_of k (scan_change shape (scan.Directory begun.number begun.coll begun.place) w).phase ≡ true =
      directory-of begun.number begun.coll begun.place w ∙ eq-eqb begun.number k same in
      omega (
        arith,
        in_call section _ (scan_scans scans (scan.Directory begun.number begun.coll begun.place) w) of,
        scan-falls shape (width_of shape) (by_width shape) (scan.Directory begun.number begun.coll begun.place) w tt section,
        ap (λ (i : ℕ). i * width_of shape begun.coll) one,
        one,
      )

  -- and by whether it has ended
  next_same-whole : (section : Section) (scans : List Scan) (begun : Scan) (w : Word) → scan_of scans k ≡ Some begun → begun.number ≡ k
      → whole_left shape k section (next_started shape (Some begun) w).phase (next_after shape scans (Some begun) w) + (if not begun.ended then 1 else 0) ≤ stored_left shape (Some begun)
  next_same-whole section scans begun w is same = by_ended begun.ended refl
    where
      by_ended : (e : Bool) → begun.ended ≡ e
          → whole_left shape k section
          (if e then ends done.End else if is_over shape begun then scan_change shape (scan.End begun.number) w else scan_change shape (scan.Directory begun.number begun.coll begun.place) w).phase
          (if e then scans else if is_over shape begun then scan_scans scans (scan.End begun.number) w else scan_scans scans (scan.Directory begun.number begun.coll begun.place) w)
          + (if not e then 1 else 0) ≤ (if e then 0 else scan_steps shape begun)
      by_ended true e = omega (arith, ap (stored_left shape) is, ap {B = ℕ} (λ (b : Bool). if b then 0 else scan_steps shape begun) e)
      by_ended false e = next_on-whole section scans begun w same (is_over shape begun) refl

  -- by the scan that is found
  next-whole : (section : Section) (scans : List Scan) (j : ℕ) (w : Word) (found : Option Scan) → scan_of scans j ≡ found
      → whole_left shape k section (next_started shape found w).phase (next_after shape scans found w) + (if (j == k) && is_open (scan_of scans k) then 1 else 0) ≤ stored_left shape (scan_of scans k)
  next-whole section scans j w found is = go (j == k) refl found is
    where
      -- of another number
      other : (found : Option Scan) → scan_of scans j ≡ found → (j == k) ≡ false
          → whole_left shape k section (next_started shape found w).phase (next_after shape scans found w) ≤ stored_left shape (scan_of scans k)
      other None is f = omega arith
      other (Some begun) is f = next_apart-whole section scans begun w (ap (λ (i : ℕ). i == k) (eqb-true begun.number j (found-number scans j begun is)) ∙ f)

      -- of this one
      own : (found : Option Scan) → scan_of scans k ≡ found
          → whole_left shape k section (next_started shape found w).phase (next_after shape scans found w) + (if is_open found then 1 else 0) ≤ stored_left shape found
      own None is = omega (arith, ap (stored_left shape) is)
      own (Some begun) is = next_same-whole section scans begun w is (eqb-true begun.number k (found-number scans k begun is))

      go : (b : Bool) → (j == k) ≡ b → (found : Option Scan) → scan_of scans j ≡ found
          → whole_left shape k section (next_started shape found w).phase (next_after shape scans found w) + (if (j == k) && is_open (scan_of scans k) then 1 else 0) ≤ stored_left shape (scan_of scans k)
      go true t found is =
          let here : scan_of scans k ≡ found = ap (scan_of scans) (sym (eqb-true j k t)) ∙ is in
          omega (arith, own found here, ap (stored_left shape) here, ap {B = ℕ} (λ (b : Bool). if b && is_open (scan_of scans k) then 1 else 0) t, ap {B = ℕ} (λ (o : Option Scan). if is_open o then 1 else 0) here)
      go false f found is = omega (arith, other found is f, ap {B = ℕ} (λ (b : Bool). if b && is_open (scan_of scans k) then 1 else 0) f)

  -- a call that is started, where the scan has begun before
  plain-whole : (pass : ℕ) (stand : Stand) (section later : Section) (one : Call) (told : ℕ) (w : Word) → ((number : ℕ) → one ≢ call.Next number)
      → whole_left shape k later (start_change shape pass stand section one told w).phase stand.scans ≤ stored_left shape (scan_of stand.scans k)
  plain-whole pass stand section later one told w ne = still section later phase.Idle _ stand.scans stand.scans refl (of_none k _ (start-plain shape pass stand section one told w ne)) refl

  pub start-whole : (pass : ℕ) (stand : Stand) (section : Section) (next : Phase) (one : Call) (told : ℕ) (w : Word) → k < scan_number pass stand.begun
      → whole_left shape k (section_after section next (Start one) w) (start_change shape pass stand section one told w).phase (scans_after shape pass stand section next (Start one) w)
      + (if is_scan_step k stand (Start one) then 1 else 0) ≤ stored_left shape (scan_of stand.scans k)
  start-whole pass stand section next (call.Next number) told w before = next-whole section stand.scans number w (scan_of stand.scans number) refl
  start-whole pass stand section next (call.Scan coll) told w before =
      omega (
        arith,
        still section section phase.Idle phase.Idle stand.scans (stand.scans ++ new_scan (scan_number pass stand.begun) coll ∷ []) refl refl
            (begun-other stand.scans (new_scan (scan_number pass stand.begun) coll) k (ne_eqb (scan_number pass stand.begun) k (λ e. absurd (omega (arith, e, before))))),
      )
  start-whole pass stand section next call.Leave told w before = omega arith
  start-whole pass stand section next call.Enter told w before = omega arith
  start-whole pass stand section next call.Advance told w before = omega (arith, plain-whole pass stand section section call.Advance told w (λ number e. absurd (cc)))
  start-whole pass stand section next (call.Add coll from words) told w before = omega (arith, plain-whole pass stand section section (call.Add coll from words) told w (λ number e. absurd (cc)))
  start-whole pass stand section next (call.Look number) told w before = omega (arith, plain-whole pass stand section section (call.Look number) told w (λ number e. absurd (cc)))
  start-whole pass stand section next (call.Read number field) told w before = omega arith
  start-whole pass stand section next (call.Write number field value) told w before = omega arith
  start-whole pass stand section next (call.Remove number) told w before = omega (arith, plain-whole pass stand section section (call.Remove number) told w (λ number e. absurd (cc)))
  start-whole pass stand section next (call.Begin coll) told w before = omega (arith, plain-whole pass stand section section (call.Begin coll) told w (λ number e. absurd (cc)))
  start-whole pass stand section next call.Finish told w before = omega (arith, plain-whole pass stand section section call.Finish told w (λ number e. absurd (cc)))
  start-whole pass stand section next call.Cancel told w before = omega (arith, plain-whole pass stand section section call.Cancel told w (λ number e. absurd (cc)))
  start-whole pass stand section next (call.Survey coll) told w before = omega (arith, plain-whole pass stand section section (call.Survey coll) told w (λ number e. absurd (cc)))
  start-whole pass stand section next call.Note told w before = omega arith
  start-whole pass stand section next (call.Learn other note) told w before = omega arith
