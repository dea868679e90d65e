-- After every list of steps the logs have one order, it replays, and scans visit once in it.
use Rattle.std.proofs.Common.{◌≡◌, ℕ, zero, suc, ◌<◌, ◌≤◌, Bool, true, false, Option, Some, None, List, [], ◌∷◌, ◌++◌, length, append-nil, append_assoc, refl, sym, ap, ◌∙◌, subst, arith}
use Rattle.std.specs.Prelude.{IfSome, ◌==◌, ◌||◌, slice_get, slice_set, option_and_then, replicate, if◌then◌else◌}
use Rattle.std.proofs.lemmas.List.{map-append}
use Rattle.std.proofs.lemmas.Option.{slice_get_within}
use Rattle.smc_shape.specs.Layout.{Layout, IsShape}
use Rattle.smc_model.specs.declared.event.Event.{Event}
use Rattle.smc_model.specs.Order.{OneOrder, IsTold, events_of, events_by, log_of}
use Rattle.smc_model.specs.Scans.{EachAfter}
use Rattle.smc_model.specs.World.{World, IsAllowed, Replay, world_through}
use Rattle.smc_model.proofs.HistoryLaws.{EachAfter-join, Replay-join, Replay-last}
use Rattle.smc_model.proofs.OrderLaws.{events_by-append}
use Rattle.smc_core.specs.declared.call.Call.{Call}
use Rattle.smc_core.specs.declared.call.Call.TheVariants as call
use Rattle.smc_core.specs.declared.call.Choice.{Choice}
use Rattle.smc_core.specs.declared.call.Choice.TheVariants.{Start, Go}
use Rattle.smc_core.specs.declared.local.Local.{Local}
use Rattle.smc_core.specs.declared.local.Opening.{Opening}
use Rattle.smc_core.specs.declared.local.Stand.{Stand}
use Rattle.smc_core.specs.declared.op.Op.{Op}
use Rattle.smc_core.specs.declared.word.Word.{Word}
use Rattle.smc_core.specs.Local.{fresh, after}
use Rattle.smc_core.specs.Machine.{Machine, Steps, Leads, started, stepped, noted_length, is_learnt, told_by}
use Rattle.smc_core.specs.Row.{row_shows}
use Rattle.smc_core.specs.Told.{adds, told_by_step, told_along}
use Rattle.smc_rules.specs.History.{history_state}
use Rattle.smc_rules.specs.Start.{FitsShape, IsStart, memory_behind, state_behind}
use Rattle.smc_rules.specs.Mirror.{IsMirrored, anywhere}
use Rattle.smc_rules.specs.State.{State, Backs, stand_offer, stand_change, state_after, world_told}
use Rattle.smc_rules.proofs.CarryLaws.{backs_step, by_pass, get-set_same, get-set_other, some-same}
use Rattle.smc_rules.proofs.HistoryLaws.{HoldsOf, behind_first, behind_step, through-adds}
use Rattle.smc_rules.proofs.MirrorLaws.{mirrored}
use Rattle.smc_laws.proofs.Always.{all_rules}
use Rattle.smc_laws.proofs.Everything.{Everything, everything-kept, everything-starts}
use Rattle.smc_refine.specs.Orders.{logs_of, HistoriesAreLawful}
use Rattle.smc_refine.proofs.EventLaws.{allowed}
use Rattle.smc_refine.proofs.SizeLaws.{HasWidth, fits-told}
use Rattle.smc_refine.proofs.WidthSteps.{width-told}
use Rattle.smc_refine.proofs.ScansKnown.{ScansKnown, scans_known-after, scans_known-first}
use Rattle.smc_refine.proofs.OrderSteps.{told_of, IsNoted, logged-told, events-adds, own-adds, others-adds, log-there, log-other, noted-after, told-going, told-starting}

-- an order of the logs that replays, and all that holds of the state behind the machine in the world to which it leads
pub record Ordered (opening : Opening) (shape : Layout) (first : World) (m : Machine) (order : List (ℕ × Event)) (world : World) : Type 0 where
  pub holds : HoldsOf shape opening (Everything opening shape) m world
  pub one_order : OneOrder (logs_of m.locals) order
  pub replay : Replay first (events_of order) world
  pub scans : ScansKnown first shape (state_behind shape opening m world) (events_of order)
  pub fits : FitsShape shape world
  pub noted : (pass : ℕ) (l : Local) → slice_get m.locals pass ≡ Some l → IsNoted l

module _ (opening : Opening) (shape : Layout) (valid : IsShape shape) (first : World) where
  module _ (m : Machine) (order : List (ℕ × Event)) (world : World) (b : Ordered opening shape first m order world) (pass : ℕ) (choice : Choice) (next : Machine) (step : Steps shape m pass choice next) where
    -- the state behind the machine
    abbrev s : State
    s = state_behind shape opening m world

    l : Local
    l = step.local

    abbrev op : Op
    op = step.offered.op

    abbrev w : Word
    w = row_shows shape op m.row

    abbrev l' : Local
    l' = after shape pass step.local choice step.told w

    -- what the step tells
    abbrev e : Option Event
    e = (stand_change shape pass step.local.stand choice step.told w).event

    within : pass < shape.passes
    within = omega (arith, slice_get_within m.locals pass step.local step.here, b.holds.backs.count)

    at : s.stands pass ≡ step.local.stand
    at = b.holds.backs.same pass step.local step.here

    offers : stand_offer shape pass (s.stands pass) choice ≡ Some step.offered
    offers = ap (λ (k : Stand). stand_offer shape pass k choice) at ∙ step.offers

    mir : IsMirrored shape anywhere m.row s.memory op
    mir = mirrored shape anywhere m.row s.memory op valid b.holds.backs.mirrors ((everything-kept opening shape valid).fits s pass choice step.offered within b.holds.rule offers)

    -- the state behind the next machine
    abbrev after_step : State
    after_step = state_after shape s pass choice step.told op w

    -- the event may happen in the world of its moment
    may : IfSome e (IsAllowed world)
    may = subst (λ (k : Stand). IfSome (stand_change shape pass k choice step.told w).event (IsAllowed world)) at
        (subst (λ (v : Word). IfSome (stand_change shape pass (s.stands pass) choice step.told v).event (IsAllowed world)) (sym (mir.shows refl))
        (allowed opening shape valid s b.holds.rule pass step.told choice step.offered within offers))

    -- it is the state behind the next one
    is-behind : after_step ≡ state_behind shape opening (stepped shape m pass step.local choice step.told op) (world_told world e)
    is-behind = behind_step shape opening valid m world pass choice step.local step.told op step.here ((everything-kept opening shape valid).fits s pass choice step.offered within b.holds.rule offers refl) b.holds.backs

    -- a record that is added has the width of its collection
    wide : IfSome e (HasWidth shape)
    wide = subst (λ (k : Stand). IfSome (stand_change shape pass k choice step.told w).event (HasWidth shape)) at (width-told opening shape s b.holds.rule pass step.told choice w within)

    -- one event more replays
    one_more : (e : Option Event) (world : World) → IfSome e (IsAllowed world) → Replay world (told_of e) (world_told world e)
    one_more None world ok = refl
    one_more (Some event) world ok = (ok, refl)

    -- its world is the next one
    replay' : Replay first (events_of (order ++ adds pass e)) (world_told world e)
    replay' = subst (λ (es : List Event). Replay first es (world_told world e)) (sym (map-append (λ (d : ℕ × Event). d.1) order (adds pass e)))
        (Replay-join first world (world_told world e) (events_of order) (events_of (adds pass e)) b.replay
        (subst (λ (es : List Event). Replay world es (world_told world e)) (sym (events-adds pass e)) (one_more e world may)))

    -- what each pass has done
    logs' : (other : ℕ) → events_by other (order ++ adds pass e) ≡ log_of (logs_of (slice_set m.locals pass l')) other
    logs' other = by_pass other pass
        (λ same. subst (λ (k : ℕ). events_by k (order ++ adds pass e) ≡ log_of (logs_of (slice_set m.locals pass l')) k) (sym same)
        (events_by-append pass order (adds pass e)
        ∙ (ap (λ (xs : List Event). xs ++ events_by pass (adds pass e)) (b.one_order.each_log pass ∙ log-there m.locals pass step.local step.here)
        ∙ (ap (λ (xs : List Event). step.local.log ++ xs) (own-adds pass e)
        ∙ (sym (logged-told step.local.log e) ∙ sym (log-there (slice_set m.locals pass l') pass l' (get-set_same m.locals pass step.local l' step.here)))))))
        (λ apart. events_by-append other order (adds pass e)
        ∙ (ap (λ (xs : List Event). events_by other order ++ xs) (others-adds other pass e apart)
        ∙ (append-nil (events_by other order) ∙ (b.one_order.each_log other ∙ sym (log-other m.locals pass other l' apart)))))

    -- what a pass learns of another one's log has happened
    learnt : (other note : ℕ) → choice ≡ Start (call.Learn other note) → step.told ≤ length (events_by other order)
    learnt other note is = go (other == pass || is_learnt m.locals other note) (subst (λ (c : Choice). told_by m.locals pass c ≡ Some step.told) is step.allows)
      where
        log : (l : Option Local) → slice_get m.locals other ≡ l → option_and_then (λ (k : Local). slice_get k.notes note) l ≡ Some step.told → step.told ≤ length (events_by other order)
        log None here told = absurd (cc)
        log (Some k) here told = subst (λ (es : List Event). step.told ≤ length es) (sym (b.one_order.each_log other ∙ log-there m.locals other k here)) (b.noted other k here note step.told told)

        go : (t : Bool) → (if t then None else noted_length m.locals other note) ≡ Some step.told → step.told ≤ length (events_by other order)
        go true told = absurd (cc)
        go false told = log (slice_get m.locals other) refl told

    told' : IfSome e (IsTold order)
    told' = go choice refl
      where
        go : (c : Choice) → choice ≡ c → IfSome (stand_change shape pass step.local.stand c step.told w).event (IsTold order)
        go Go q = told-going order shape step.local.stand step.local.stand.section step.local.stand.phase w
        go (Start next) q = told-starting order shape pass step.local.stand step.local.stand.section next step.told w (λ other note same. learnt other note (q ∙ ap (λ (k : Call). Start k) same))

    -- what is known of scans, with the event of the step
    scans' : ScansKnown first shape after_step (events_of (order ++ adds pass e))
    scans' = subst (ScansKnown first shape after_step) (sym (map-append (λ (d : ℕ × Event). d.1) order (adds pass e) ∙ ap (λ (es : List Event). events_of order ++ es) (events-adds pass e)))
        (subst (λ (k : Stand). ScansKnown first shape after_step (events_of order ++ told_of (stand_change shape pass k choice step.told w).event)) at
        (subst (λ (v : Word). ScansKnown first shape (state_after shape s pass choice step.told op v) (events_of order ++ told_of (stand_change shape pass (s.stands pass) choice step.told v).event))
        (sym (mir.shows refl))
        (scans_known-after first opening shape valid s b.holds.rule (events_of order) b.scans (Replay-last first (events_of order) world b.replay)
        b.fits.of_its_coll pass choice step.offered step.told within offers)))

    ordered_step : Ordered opening shape first (stepped shape m pass step.local choice step.told op) (order ++ adds pass e) (world_told world e)
    ordered_step = record {
      holds = record {
        backs = subst (λ (t : State). Backs shape anywhere (stepped shape m pass step.local choice step.told op).row (stepped shape m pass step.local choice step.told op).locals t) is-behind
            (backs_step shape anywhere valid m pass choice step.local step.told op s b.holds.backs step.here mir);
        rule = subst (Everything opening shape) is-behind ((everything-kept opening shape valid).kept s pass choice step.offered step.told w within b.holds.rule offers mir.shows);
      };
      one_order = record {
        each_log = logs';
        told = EachAfter-join (λ (before : List (ℕ × Event)) (d : ℕ × Event). IsTold before d.1) [] order (adds pass e) b.one_order.told (one_told e told');
      };
      replay = replay';
      scans = subst (λ (t : State). ScansKnown first shape t (events_of (order ++ adds pass e))) is-behind scans';
      fits = fits-told shape world e may wide b.fits;
      noted = λ other x is. by_pass other pass
          (λ same. subst (λ (k : Local). IsNoted k) (some-same l' x (sym (get-set_same m.locals pass step.local l' step.here) ∙ subst (λ (r : ℕ). slice_get (slice_set m.locals pass l') r ≡ Some x) same is))
          (noted-after shape pass step.local choice step.told w (b.noted pass step.local step.here)))
          (λ apart. b.noted other x (sym (get-set_other m.locals pass other l' apart) ∙ is));
    }
      where
        one_told : (e : Option Event) → IfSome e (IsTold order) → EachAfter (λ (before : List (ℕ × Event)) (d : ℕ × Event). IsTold before d.1) order (adds pass e)
        one_told None t = tt
        one_told (Some event) t = (t, tt)

  -- by a list of steps
  pub ordered_along : (m : Machine) (order : List (ℕ × Event)) (world : World) (steps : List (ℕ × Choice)) (last : Machine) → Ordered opening shape first m order world → (leads : Leads shape m steps last)
      → Ordered opening shape first last (order ++ told_along shape m steps last leads) (world_through world (events_of (told_along shape m steps last leads)))
  ordered_along m order world [] last b leads = subst (λ (es : List (ℕ × Event)). Ordered opening shape first last es world) (sym (append-nil order)) (subst (λ (k : Machine). Ordered opening shape first k order world) leads b)
  ordered_along m order world (step ∷ later) last b leads =
      let e : Option Event = told_by_step shape m step.0 step.1 leads.0 leads.1 in
      let rest : List (ℕ × Event) = told_along shape leads.0 later last leads.2 in
      subst (λ (es : List (ℕ × Event)). Ordered opening shape first last es (world_through world (events_of (adds step.0 e ++ rest)))) (append_assoc order (adds step.0 e) rest)
      (subst (λ (v : World). Ordered opening shape first last ((order ++ adds step.0 e) ++ rest) v) (sym (through-adds world step.0 e rest))
      (ordered_along leads.0 (order ++ adds step.0 e) (world_told world e) later last
      (subst (λ (k : Machine). Ordered opening shape first k (order ++ adds step.0 e) (world_told world e)) (sym leads.1.leads) (ordered_step m order world b step.0 step.1 leads.0 leads.1)) leads.2))

  -- at first nothing has happened
  fresh-log : (n other : ℕ) → log_of (logs_of (replicate n (fresh shape))) other ≡ []
  fresh-log zero other = refl
  fresh-log (suc n) zero = refl
  fresh-log (suc n) (suc other) = fresh-log n other

  fresh-at : (n i : ℕ) (l : Local) → slice_get (replicate n (fresh shape)) i ≡ Some l → fresh shape ≡ l
  fresh-at zero i l is = absurd (cc)
  fresh-at (suc n) zero l is = some-same (fresh shape) l is
  fresh-at (suc n) (suc i) l is = fresh-at n i l is

  fresh-noted : IsNoted (fresh shape)
  fresh-noted note k is = absurd (cc)

  -- at each start
  pub ordered-first : (start : List ℕ) → IsStart shape opening first start → Ordered opening shape first (started shape start) [] first
  ordered-first start starts = record {
    holds = everything-starts opening shape valid first start starts;
    one_order = record { each_log = λ other. sym (fresh-log shape.passes other); told = tt };
    replay = refl;
    scans = subst (λ (t : State). ScansKnown first shape t []) (behind_first shape opening first start) (scans_known-first first shape (memory_behind shape opening start));
    fits = starts.at_rest.fits;
    noted = λ pass l is. subst IsNoted (fresh-at shape.passes pass l is) fresh-noted;
  }

  -- so it is after every list of steps
  pub ordered-then : (m : Machine) (start : List ℕ) (steps : List (ℕ × Choice)) → IsStart shape opening first start → (leads : Leads shape (started shape start) steps m)
      → Ordered opening shape first m (told_along shape (started shape start) steps m leads) (world_through first (events_of (told_along shape (started shape start) steps m leads)))
  ordered-then m start steps starts leads = ordered_along (started shape start) [] first steps m (ordered-first start starts) leads

-- so every history is lawful
pub histories_lawful : HistoriesAreLawful
histories_lawful shape opening first m valid h =
    let b = ordered-then opening shape valid first m h.start h.steps h.starts h.leads in record {
      one_order = b.one_order;
      replay = b.replay;
      scans_once = b.scans.once;
      backs = b.holds.backs;
      rules = all_rules opening shape (history_state h) b.holds.rule;
      fits = b.fits;
    }
