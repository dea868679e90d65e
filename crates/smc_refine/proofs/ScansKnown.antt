-- What the events of all passes say of the scans that go on: each step keeps it, and its event keeps the rule of scans.
use Rattle.std.proofs.Common.{◌≡◌, ◌≢◌, ◌⊎◌, ℕ, ◌<◌, ◌≤◌, true, false, Option, Some, None, List, [], ◌++◌, append-nil, inl, inr, refl, sym, ap, ◌∙◌, subst, arith}
use Rattle.std.specs.Prelude.{Contains, nat_lt}
use Rattle.std.specs.Option.{option_map_or}
use Rattle.std.proofs.lemmas.Bool.Decides.{nat_tests}
use Rattle.std.proofs.lemmas.List.Elements.{Contains-push_cases}
use Rattle.smc_words.specs.declared.layout.TheConstants.{PASSES}
use Rattle.smc_words.specs.declared.number.Number.{Number}
use Rattle.smc_shape.specs.Layout.{Layout, IsShape, entries_of}
use Rattle.smc_model.specs.declared.event.Event.{Event}
use Rattle.smc_model.specs.declared.event.Event.TheVariants as event
use Rattle.smc_model.specs.declared.object.Object.{Object}
use Rattle.smc_model.specs.Scans.{EachAfter, KeepsScanRule, ScansOnce}
use Rattle.smc_model.specs.World.{World, is_present, object_of, world_through}
use Rattle.smc_model.proofs.HistoryLaws.{EachAfter-join}
use Rattle.smc_core.specs.declared.call.Choice.{Choice}
use Rattle.smc_core.specs.declared.local.Opening.{Opening}
use Rattle.smc_core.specs.declared.local.Scan.{Scan}
use Rattle.smc_core.specs.declared.local.Stand.{Stand}
use Rattle.smc_core.specs.declared.op.Offer.{Offer}
use Rattle.smc_core.specs.Scan.{scan_of, scan_number}
use Rattle.smc_rules.specs.Memory.{Memory, seen}
use Rattle.smc_rules.specs.Start.{starting}
use Rattle.smc_rules.specs.Reads.{object}
use Rattle.smc_rules.specs.State.{State, stand_change, stand_offer, stand_then, state_after}
use Rattle.smc_rules.proofs.CarryLaws.{by_pass, put_stand-same, put_stand-other}
use Rattle.smc_agreement.proofs.CrossLaws.{by_true}
use Rattle.smc_inv_scan.specs.Marks.{Marks, MarksAgree, FitsMarks, no_marks, marks_told, put_marks}
use Rattle.smc_inv_scan.proofs.MarkViews.{put-mine, put-other}
use Rattle.smc_inv_scan.proofs.StepLaws.{events_fit, marks_kept, marks_begun}
use Rattle.smc_laws.proofs.Everything.{Everything}
use Rattle.smc_refine.proofs.Histories.{ScanHistory, SaysNothing, spoken, history-other, ends-rightly, visits-rightly}
use Rattle.smc_refine.proofs.HomeLaws.{IsHome}
use Rattle.smc_refine.proofs.OrderSteps.{told_of}
use Rattle.smc_refine.proofs.OpenScans.{view}
use Rattle.smc_refine.proofs.OwnScans.{IsOf, counted, numbers-apart, own-history, own-number, own-numbers, still_of}
use Rattle.smc_refine.proofs.ScanSteps.{IsOpen, ScansTold, StepScans}

-- what the events say of the scans that go on, and that they keep the rule
pub record ScansKnown (first : World) (shape : Layout) (s : State) (events : List Event) : Type 0 where
  pub marks : ℕ → Marks
  pub agree : MarksAgree shape s marks
  pub history : (i k : ℕ) (b : Scan) → i < shape.passes → scan_of (s.stands i).scans k ≡ Some b → ScanHistory first events ((marks i).began k) ((marks i).visited k) k b
  -- no two scans have one number, and no event speaks of one that has not begun
  pub numbers : (i k : ℕ) (b : Scan) → i < shape.passes → scan_of (s.stands i).scans k ≡ Some b → IsOf i (s.stands i).begun k
  pub spoken_of : (x : Event) (k : ℕ) → Contains events x → spoken x ≡ Some k → (i : ℕ) × (i < shape.passes) × IsOf i (s.stands i).begun k
  -- a scan that a call goes on with has not ended
  pub opens : (i : ℕ) → i < shape.passes → IsOpen (s.stands i).scans (s.stands i).phase
  pub once : ScansOnce first events

module _ (first : World) (opening : Opening) (shape : Layout) (valid : IsShape shape) (s : State) (h : Everything opening shape s) (events : List Event) (known : ScansKnown first shape s events)
    (at : s.world ≡ world_through first events) (home : IsHome s.world)
    (pass : ℕ) (choice : Choice) (o : Offer) (told : ℕ) (within : pass < shape.passes) (offers : stand_offer shape pass (s.stands pass) choice ≡ Some o) where
  -- what the step tells
  abbrev e : Option Event
  e = (stand_change shape pass (s.stands pass) choice told (seen o.op s.memory)).event

  -- where it leaves the pass
  abbrev new : Stand
  new = stand_then shape pass (s.stands pass) choice told (seen o.op s.memory)

  abbrev m : Marks
  m = known.marks pass

  low : (i : ℕ) → i < shape.passes → i < PASSES
  low i lt = omega (arith, lt, valid.passes)

  -- what the step makes of the section's scans
  viewed : StepScans pass (s.stands pass).scans (s.stands pass).begun new.scans new.begun (stand_change shape pass (s.stands pass) choice told (seen o.op s.memory))
  viewed = view shape s h.scans pass within (known.opens pass within) choice o told offers

  -- the number of a new scan was no scan's, and no event speaks of it
  unspoken : SaysNothing events (scan_number pass (s.stands pass).begun)
  unspoken x there says =
      let (i, lt, (j, below, eq)) = known.spoken_of x (scan_number pass (s.stands pass).begun) there says in
      let (same, count) = numbers-apart pass i (s.stands pass).begun j (low pass within) (low i lt) eq in
      let fewer : j < (s.stands pass).begun = subst (λ (z : ℕ). j < (s.stands z).begun) (sym same) below in
      omega (arith, count, fewer)

  -- an object that is present has an entry of the region
  entered : (n : Number) → is_present s.world n ≡ true → n.entry < entries_of shape n.coll
  entered n here = by_true (nat_lt n.entry (entries_of shape n.coll)) (λ t. grind (arith, nat_tests, t)) (λ f.
      let nothing : object_of s.world n ≡ None = h.records.no_others n.coll n.incarnation n.entry (grind (arith, nat_tests, f)) in
      let absent : false ≡ true = subst (λ (found : Option Object). option_map_or (λ (x : Object). x.present) found false ≡ true) nothing here in
      absurd (cc))

  -- the event keeps the rule of scans
  rule-kept : (e : Option Event) → ScansTold pass (s.stands pass).scans (s.stands pass).begun new.scans new.begun e → FitsMarks shape s known.marks pass e
      → EachAfter (KeepsScanRule first) events (told_of e)
  rule-kept None t fits = tt
  rule-kept (Some (event.Visit k n)) t fits =
      let (b, found, going, coll) = t.0 in
      (visits-rightly first events s.world m k n b (known.history pass k b within found) going coll at home fits.0 fits.1, tt)
  rule-kept (Some (event.End k)) t fits =
      let (b, found, going, coll) = t.0.1 in (
        ends-rightly first events s.world m k b (known.history pass k b within found) at home (λ n of bg here.
            let same : object n.incarnation n.entry b.coll ≡ n = ap (object n.incarnation n.entry) (sym of) in
            subst (λ (z : Number). m.visited k z ≡ true) same
            (fits b n.incarnation n.entry found (subst (λ (z : ℕ). n.entry < entries_of shape z) of (entered n here))
            (subst (λ (z : Number). m.began k z ≡ true) (sym same) bg) (subst (λ (z : Number). is_present s.world z ≡ true) (sym same) here))),
        tt,
      )
  rule-kept (Some (event.Begin k c)) t fits = (tt, tt)
  rule-kept (Some (event.Add n c ws)) t fits = (tt, tt)
  rule-kept (Some (event.Look n x)) t fits = (tt, tt)
  rule-kept (Some (event.Read n f v)) t fits = (tt, tt)
  rule-kept (Some (event.Write n f v)) t fits = (tt, tt)
  rule-kept (Some (event.Remove n f)) t fits = (tt, tt)
  rule-kept (Some (event.Refused c x)) t fits = (tt, tt)
  rule-kept (Some event.Enter) t fits = (tt, tt)
  rule-kept (Some event.Leave) t fits = (tt, tt)
  rule-kept (Some (event.Told p c)) t fits = (tt, tt)

  -- what is in the order now was there, or is the step's event
  newest : (e : Option Event) (x : Event) → Contains (events ++ told_of e) x → Contains events x ⊎ (e ≡ Some x)
  newest None x is = inl (subst (λ (l : List Event). Contains l x) (append-nil events) is)
  newest (Some y) x is = elim (Contains-push_cases events y x is) [ inl old ↦ inl old | inr same ↦ inr (ap (λ (z : Event). Some z) same) ]

  -- the state after it
  abbrev after : State
  after = state_after shape s pass choice told o.op (seen o.op s.memory)

  -- only the stand and the marks of the pass change
  mine : (i : ℕ) → i ≡ pass → after.stands i ≡ new
  mine i same = put_stand-same s.stands pass i new same

  others : (i : ℕ) → i ≢ pass → after.stands i ≡ s.stands i
  others i apart = put_stand-other s.stands pass i new apart

  abbrev marks' : ℕ → Marks
  marks' = put_marks known.marks pass (marks_told s.world (known.marks pass) (stand_change shape pass (s.stands pass) choice told (seen o.op s.memory)).event)

  fits : FitsMarks shape s known.marks pass e
  fits = events_fit shape s known.marks pass choice o told within h.whole.ranges h.whole.rounds h.whole.agrees h.scans h.records.is_here known.agree offers

  numbers' : (i k : ℕ) (b : Scan) → i < shape.passes → scan_of (after.stands i).scans k ≡ Some b → IsOf i (after.stands i).begun k
  numbers' i k b lt is = by_pass i pass
      (λ same. subst (λ (z : Stand). IsOf i z.begun k) (sym (mine i same))
      (subst (λ (z : ℕ). IsOf z new.begun k) (sym same) (own-numbers pass (s.stands pass).scans (s.stands pass).begun new.scans new.begun (λ j c. known.numbers pass j c within) e viewed.told k b (subst (λ (z : Stand). scan_of z.scans k ≡ Some b) (mine i same) is))))
      (λ apart. subst (λ (z : Stand). IsOf i z.begun k) (sym (others i apart)) (known.numbers i k b lt (subst (λ (z : Stand). scan_of z.scans k ≡ Some b) (others i apart) is)))

  history' : (i k : ℕ) (b : Scan) → i < shape.passes → scan_of (after.stands i).scans k ≡ Some b → ScanHistory first (events ++ told_of e) ((marks' i).began k) ((marks' i).visited k) k b
  history' i k b lt is = by_pass i pass
      (λ same. subst (λ (z : Marks). ScanHistory first (events ++ told_of e) (z.began k) (z.visited k) k b) (sym (put-mine known.marks pass i (marks_told s.world m e) same))
      (own-history pass (s.stands pass).scans (s.stands pass).begun new.scans new.begun (λ j c. known.numbers pass j c within) (low pass within) first events s.world m (λ j c. known.history pass j c within) at unspoken e viewed.told k b (subst (λ (z : Stand). scan_of z.scans k ≡ Some b) (mine i same) is)))
      (λ apart.
      let there : scan_of (s.stands i).scans k ≡ Some b = subst (λ (z : Stand). scan_of z.scans k ≡ Some b) (others i apart) is in
      let (j, below, eq) = known.numbers i k b lt there in
      subst (λ (z : Marks). ScanHistory first (events ++ told_of e) (z.began k) (z.visited k) k b) (sym (put-other known.marks pass i (marks_told s.world m e) apart))
      (history-other first events s.world (known.marks i) k e b b ((known.marks i).began k) ((known.marks i).visited k) (known.history i k b lt there) refl (λ z. z)
      (λ y tells says.
      let (l, under, number) = own-number pass (s.stands pass).scans (s.stands pass).begun new.scans new.begun (λ j c. known.numbers pass j c within) y k (subst (ScansTold pass (s.stands pass).scans (s.stands pass).begun new.scans new.begun) tells viewed.told) says in
      apart (numbers-apart i pass j l (low i lt) (low pass within) (sym eq ∙ number)).0)
      (λ n. refl) (λ n. refl)))

  begun-more : (i : ℕ) → (s.stands i).begun ≤ (after.stands i).begun
  begun-more i = by_pass i pass
      (λ same. subst (λ (z : Stand). (s.stands i).begun ≤ z.begun) (sym (mine i same)) (subst (λ (z : ℕ). (s.stands z).begun ≤ new.begun) (sym same) (counted pass (s.stands pass).scans (s.stands pass).begun new.scans new.begun e viewed.told)))
      (λ apart. subst (λ (z : Stand). (s.stands i).begun ≤ z.begun) (sym (others i apart)) (omega arith))

  spoken_of' : (x : Event) (k : ℕ) → Contains (events ++ told_of e) x → spoken x ≡ Some k → (i : ℕ) × (i < shape.passes) × IsOf i (after.stands i).begun k
  spoken_of' x k is says = elim (newest e x is) [
    | inl old ↦ let (i, lt, of) = known.spoken_of x k old says in (i, lt, still_of i (s.stands i).begun (after.stands i).begun k of (begun-more i))
    | inr tells ↦ (
      pass,
      within,
      subst (λ (z : Stand). IsOf pass z.begun k) (sym (mine pass refl))
          (own-number pass (s.stands pass).scans (s.stands pass).begun new.scans new.begun (λ j c. known.numbers pass j c within) x k (subst (ScansTold pass (s.stands pass).scans (s.stands pass).begun new.scans new.begun) tells viewed.told) says),
    )
  ]

  -- what is known of scans then, with the event of the step
  pub scans_known-after : ScansKnown first shape after (events ++ told_of e)
  scans_known-after = record {
    marks = marks';
    agree = marks_kept shape s known.marks pass choice o told within h.whole.ranges h.whole.rounds h.whole.agrees h.scans h.records.is_here known.agree offers;
    history = history';
    numbers = numbers';
    spoken_of = spoken_of';
    opens = λ i lt. by_pass i pass
        (λ same. subst (λ (z : Stand). IsOpen z.scans z.phase) (sym (mine i same)) viewed.is_open)
        (λ apart. subst (λ (z : Stand). IsOpen z.scans z.phase) (sym (others i apart)) (known.opens i lt));
    once = EachAfter-join (KeepsScanRule first) [] events (told_of e) known.once (rule-kept e viewed.told fits);
  }

-- at first there are no scans
pub scans_known-first : (first : World) (shape : Layout) (memory : Memory) → ScansKnown first shape (starting shape memory first) []
scans_known-first first shape memory = record {
  marks = no_marks;
  agree = marks_begun shape memory first;
  history = λ i k b lt is. absurd (cc);
  numbers = λ i k b lt is. absurd (cc);
  spoken_of = λ x k is says. absurd (omega (arith, is.1));
  opens = λ i lt k b is at. absurd (cc);
  once = tt;
}
