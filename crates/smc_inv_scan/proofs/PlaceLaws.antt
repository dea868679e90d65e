-- A scan passes the target of a frozen object only where its section is not past the bound of the round, and never that of a locked one.
use Rattle.std.proofs.Common.{◌≡◌, ℕ, ◌+◌, ◌<◌, ◌≤◌, Bool, true, false, Some, sym, ◌∙◌, ap, subst, arith}
use Rattle.std.proofs.lemmas.Bool.Decides.{nat_tests}
use Rattle.smc_words.specs.declared.dir.Dir.TheVariants as dir
use Rattle.smc_words.specs.declared.number.Number.{Number}
use Rattle.smc_words.specs.declared.round.RoundWord.{RoundWord}
use Rattle.smc_shape.specs.Layout.{Layout}
use Rattle.smc_core.specs.declared.local.Scan.{Scan}
use Rattle.smc_core.specs.declared.phase.Phase.{Phase}
use Rattle.smc_core.specs.declared.phase.Phase.TheVariants as phase
use Rattle.smc_core.specs.declared.phase.objects.LookPhase.{LookPhase}
use Rattle.smc_core.specs.declared.phase.objects.Seeker.{Seeker}
use Rattle.smc_core.specs.declared.phase.objects.Seeker.TheVariants as seeker
use Rattle.smc_core.specs.declared.section.Section.TheVariants.{Inside}
use Rattle.smc_core.specs.declared.word.State.{State}
use Rattle.smc_core.specs.declared.word.State.TheVariants as state
use Rattle.smc_core.specs.Look.{find, seeker_of, sought_number}
use Rattle.smc_core.specs.Scan.{scan_of}
use Rattle.smc_core.specs.Section.{epoch_of}
use Rattle.smc_rules.specs.Calls.{Slot}
use Rattle.smc_rules.specs.Reads.{round_in, state_in, dir_in, back_in, forward_in, object}
use Rattle.smc_rules.specs.State as S
use Rattle.smc_agreement.specs.Parts.{MayFinish}
use Rattle.smc_agreement.proofs.Whole.{Shut, moves, calms, owner}
use Rattle.smc_agreement.proofs.CrossLaws.{by_eq, late_bound, calm_unlocked}
use Rattle.smc_inv_scan.specs.Scans.{ScansAgree, IsAt, seeker_at, seeker_slot, seeker_owner, scan_at, scanned_slot, sought_at}
use Rattle.smc_inv_scan.proofs.StepViews.{is_decided}

-- a slot whose owner is looked up is one that was seen in use
seeker_owner-slot : (who : Seeker) (n n' : Number) (z : Slot) → seeker_owner who n ≡ Some (z, n') → seeker_slot who ≡ Some z
seeker_owner-slot seeker.Caller n n' z is = absurd (cc)
seeker_owner-slot (seeker.Scan k c t) n n' z is = grind (arith, is)

pub sought-slot : (next : Phase) (z : Slot) (n : Number) → sought_at next ≡ Some (z, n) → scanned_slot next ≡ Some z
sought-slot (phase.Look next) z n is = seeker_owner-slot (seeker_of next) (sought_number next) n z is
sought-slot phase.Idle z n is = absurd (cc)
sought-slot phase.Entering z n is = absurd (cc)
sought-slot (phase.Advancing epoch other) z n is = absurd (cc)
sought-slot (phase.Ready epoch) z n is = absurd (cc)
sought-slot (phase.Add next) z n is = absurd (cc)
sought-slot (phase.Remove next) z n is = absurd (cc)
sought-slot (phase.Scan next) z n is = absurd (cc)
sought-slot (phase.Begin next) z n is = absurd (cc)
sought-slot (phase.Finish next) z n is = absurd (cc)
sought-slot (phase.Cancel next) z n is = absurd (cc)
sought-slot (phase.Survey next) z n is = absurd (cc)

module _ (sh : Layout) (st : S.State) (h : Shut sh st) (r : ScansAgree sh st) where
  -- no section with a scan past the target of a frozen object is left when its move may be finished
  pub late_scan : (p x c a e s i k : ℕ) (b : Scan) → p < sh.passes → i < sh.passes → MayFinish x c (st.stands p).round → state_in st.memory c e ≡ state.Frozen a s
      → scan_of (st.stands i).scans k ≡ Some b → b.coll ≡ c → forward_in st.memory c s < b.place → epoch_of (st.stands i).section + 2 ≤ x
  late_scan p x c a e s i k b lp li late is at of lt =
      let (bound, ob, lb) = late_bound (st.stands p).round x c late in
      let rd : round_in st.memory ≡ Some (record { bound = bound; pass = p; coll = c }) = owner sh st h p bound c lp ob in
      omega (arith, lb, r.s_frozen i k c a e s b (record { bound = bound; pass = p; coll = c }) li is rd at of lt)

  -- the scan of a call is where the call is
  pub call_place : (p k c t : ℕ) (b : Scan) (next : Phase) → p < sh.passes → (st.stands p).phase ≡ next → scan_at next ≡ Some (k, (c, t)) → scan_of (st.stands p).scans k ≡ Some b
      → (b.coll ≡ c) × (b.place ≡ t)
  call_place p k c t b next lp at is was = subst (IsAt c t) was (r.s_place p k c t lp (subst (λ (x : Phase). scan_at x ≡ Some (k, (c, t))) (sym at) is))

  -- so is that of a look-up, and the slot names the object that is looked up
  pub look_place : (p k c t : ℕ) (b : Scan) (next : LookPhase) → p < sh.passes → (st.stands p).phase ≡ phase.Look next → seeker_of next ≡ seeker.Scan k c t
      → scan_of (st.stands p).scans k ≡ Some b → (b.coll ≡ c) × (b.place ≡ t)
  look_place p k c t b next lp at who was = call_place p k c t b (phase.Look next) lp at (ap seeker_at who) was

  pub look_back : (p k c t a e d : ℕ) (next : LookPhase) → p < sh.passes → (st.stands p).phase ≡ phase.Look next → seeker_of next ≡ seeker.Scan k c t
      → sought_number next ≡ object a e d → back_in st.memory c t ≡ Some (object a e d)
  look_back p k c t a e d next lp at who of =
      let sought : sought_at (phase.Look next) ≡ Some ((c, t), object a e d) =
      subst (λ (y : Seeker). seeker_owner y (sought_number next) ≡ Some ((c, t), object a e d)) (sym who) (ap (λ (n : Number). Some ((c, t), n)) of) in
      r.s_back p c t a e d lp (subst (λ (x : Phase). sought_at x ≡ Some ((c, t), object a e d)) (sym at) sought)

  -- a scan that passes a slot
  pub passed_frozen : (p k c t c' a' e' s' place : ℕ) (b : Scan) (round : RoundWord) → p < sh.passes → state_in st.memory c' e' ≡ state.Frozen a' s' → round_in st.memory ≡ Some round
      → scan_of (st.stands p).scans k ≡ Some b → b.coll ≡ c' → (b.coll ≡ c) × (b.place ≡ t) → place ≡ t + 1 → forward_in st.memory c' s' < place
      → (back_in st.memory c t ≡ Some (object a' e' c') → dir_in st.memory c t ≡ dir.Incoming → c' ≡ c → epoch_of (st.stands p).section ≤ round.bound)
      → epoch_of (st.stands p).section ≤ round.bound
  passed_frozen p k c t c' a' e' s' place b round lp fz rd was of at next lt mine = by_eq (forward_in st.memory c' s') t
      (λ y. let (there, inc, nm, bl) = (moves h).frozen c' a' e' s' fz in
      let same : c' ≡ c = sym of ∙ at.0 in
      mine (subst (λ (z : ℕ). back_in st.memory z t ≡ Some (object a' e' c')) same (subst (λ (z : ℕ). back_in st.memory c' z ≡ Some (object a' e' c')) y nm))
      (subst (λ (z : ℕ). dir_in st.memory z t ≡ dir.Incoming) same (subst (λ (z : ℕ). dir_in st.memory c' z ≡ dir.Incoming) y inc)) same)
      (λ n. r.s_frozen p k c' a' e' s' b round lp fz rd was of (omega (arith, n, next, lt, at.1)))

  pub passed_locked : (p k c t c' a' e' s' place : ℕ) (b : Scan) → p < sh.passes → state_in st.memory c' e' ≡ state.Locked a' s'
      → scan_of (st.stands p).scans k ≡ Some b → b.coll ≡ c' → (b.coll ≡ c) × (b.place ≡ t) → place ≡ t + 1
      → (back_in st.memory c t ≡ Some (object a' e' c') → dir_in st.memory c t ≡ dir.Incoming → c' ≡ c → ⊥)
      → place ≤ forward_in st.memory c' s'
  passed_locked p k c t c' a' e' s' place b lp lk was of at next never = by_eq (forward_in st.memory c' s') t
      (λ y. let (there, inc, nm, bl) = (moves h).locked c' a' e' s' lk in
      let same : c' ≡ c = sym of ∙ at.0 in
      absurd (never (subst (λ (z : ℕ). back_in st.memory z t ≡ Some (object a' e' c')) same (subst (λ (z : ℕ). back_in st.memory c' z ≡ Some (object a' e' c')) y nm))
      (subst (λ (z : ℕ). dir_in st.memory z t ≡ dir.Incoming) same (subst (λ (z : ℕ). dir_in st.memory c' z ≡ dir.Incoming) y inc)) same))
      (λ n. let most = r.s_locked p k c' a' e' s' b lp lk was of in omega (arith, n, next, most, at.1))

  -- a look-up's first load decides on a frozen object only in a calm section, and on a locked one never
  pub load_frozen : (p x c a e s : ℕ) (calm : Bool) (round : RoundWord) → p < sh.passes → (st.stands p).section ≡ Inside x calm → round_in st.memory ≡ Some round
      → state_in st.memory c e ≡ state.Frozen a s → is_decided (find calm a (state_in st.memory c e)) ≡ true → epoch_of (st.stands p).section ≤ round.bound
  load_frozen p x c a e s true round lp at rd is d = grind (arith, nat_tests, calms sh st h p lp)
  load_frozen p x c a e s false round lp at rd is d =
      let nothing : is_decided (find false a (state.Frozen a s)) ≡ true = subst (λ (w : State). is_decided (find false a w) ≡ true) is d in absurd (grind (arith, nat_tests, nothing))

  pub load_locked : (p x c a e s : ℕ) (calm : Bool) → p < sh.passes → (st.stands p).section ≡ Inside x calm
      → state_in st.memory c e ≡ state.Locked a s → is_decided (find calm a (state_in st.memory c e)) ≡ true → ⊥
  load_locked p x c a e s true lp at is d = calm_unlocked sh st h p x c a e s lp at is
  load_locked p x c a e s false lp at is d =
      let nothing : is_decided (find false a (state.Locked a s)) ≡ true = subst (λ (w : State). is_decided (find false a w) ≡ true) is d in absurd (grind (arith, nat_tests, nothing))
