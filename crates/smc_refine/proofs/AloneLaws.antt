-- Where events are alone, all other passes stand aside at every moment of them.
use Rattle.std.proofs.Common.{◌≡◌, ◌≢◌, ℕ, zero, suc, ◌+◌, ◌≤◌, ◌<◌, Bool, false, Option, Some, None, List, [], ◌∷◌, ◌++◌, length, ◌⊎◌, inl, inr, refl, sym, ap, ◌∙◌, subst, arith}
use Rattle.std.specs.Prelude.{⊤, IfSome, Contains, replicate, slice_get, take}
use Rattle.std.proofs.Math.Seq.{take-append_seam}
use Rattle.std.proofs.lemmas.List.{length-append, take-append-le, take-append-drop}
use Rattle.std.proofs.lemmas.List.Elements.{Contains-append_left}
use Rattle.std.proofs.lemmas.Option.{slice_get_within, get_or_from_slice_get}
use Rattle.smc_shape.specs.Layout.{Layout, IsShape}
use Rattle.smc_model.specs.declared.event.Event.{Event}
use Rattle.smc_model.specs.declared.event.Event.TheVariants as event
use Rattle.smc_model.specs.Order.{log_of, events_of}
use Rattle.smc_core.specs.declared.call.Call.{Call}
use Rattle.smc_core.specs.declared.call.Call.TheVariants as call
use Rattle.smc_core.specs.declared.call.Choice.{Choice}
use Rattle.smc_core.specs.declared.call.Choice.TheVariants.{Start, Go}
use Rattle.smc_core.specs.declared.local.Local.{Local}
use Rattle.smc_core.specs.declared.local.Opening.{Opening}
use Rattle.smc_core.specs.declared.local.Owned.{Owned}
use Rattle.smc_core.specs.declared.local.Stand.{Stand}
use Rattle.smc_core.specs.declared.op.Offer.{Offer}
use Rattle.smc_core.specs.declared.phase.Phase.{Phase}
use Rattle.smc_core.specs.declared.phase.Phase.TheVariants as phase
use Rattle.smc_core.specs.declared.section.Section.{Section}
use Rattle.smc_core.specs.declared.section.Section.TheVariants.{Outside, Loaded, Announced, Again, Lasting, Inside}
use Rattle.smc_core.specs.Local.{fresh, after}
use Rattle.smc_core.specs.Told.{told_along}
use Rattle.smc_rules.specs.Start.{IsStart}
use Rattle.smc_model.specs.World.{World, world_through}
use Rattle.smc_core.specs.Machine.{Machine, Steps, Leads, started, local_offer}
use Rattle.smc_core.specs.Offer.{offer}
use Rattle.smc_core.specs.Row.{row_shows}
use Rattle.smc_rules.proofs.CarryLaws.{by_pass, get-set_same, some-same}
use Rattle.smc_aside.specs.Aside.{IsResting, StandsAside, OthersAside, IsAsideChoice, IsUndisturbed}
use Rattle.smc_aside.proofs.AsideLaws.{others-aside}
use Rattle.smc_aside.proofs.StepLists.{leads-join}
use Rattle.smc_refine.specs.Alone.{AllIdle, Alone, AloneAnswerIsUndisturbed, AloneIsUndisturbed, IsApart, IsBetween, IsLeft, NextUndisturbed, StretchIsUndisturbed, TellsOf, answers_until, owns_after}
use Rattle.smc_refine.specs.Orders.{logs_of}
use Rattle.smc_refine.proofs.Onward.{Entered, Onward, entered-after, get-end, get-front, onward-after}
use Rattle.smc_refine.proofs.Ordered.{Ordered, ordered_along, ordered-then}
use Rattle.smc_refine.proofs.OrderSteps.{log-other, log-there}
use Rattle.smc_refine.proofs.OwnAlong.{KeptWithin, Own, carries, own-after, until-all}
use Rattle.smc_refine.proofs.OwnSteps.{Tied, enters, idle-start, is_inside, is_some, leaves, owns_at}
use Rattle.smc_refine.proofs.ToldKnown.{log-goes-on, told-known}

get-replicate : {A : Type 0} (n i : ℕ) (x : A) → i < n → slice_get (replicate n x) i ≡ Some x
get-replicate zero i x lt = absurd (omega (arith, lt))
get-replicate (suc n) zero x lt = refl
get-replicate (suc n) (suc i) x lt = get-replicate n i x (omega (arith, lt))

-- an element of a list, by its place
has-at : {A : Type 0} (xs : List A) (i : ℕ) (x : A) → slice_get xs i ≡ Some x → Contains xs x
has-at xs i x is = (i, slice_get_within xs i x is, get_or_from_slice_get xs i x x is)

is_none : (owned : Option Owned) → is_some owned ≡ false → owned ≡ None
is_none None is = refl
is_none (Some owned) is = absurd (cc)

-- outside a section a pass that does not enter rests there
rests-outside : (section : Section) (next : Phase) (a b : ℕ) → Tied section next a b → is_inside section ≡ false → next ≢ phase.Entering → (section ≡ Outside) × IsResting next
rests-outside Outside next a b t out other = (refl, t.0)
rests-outside (Loaded v) next a b t out other = absurd (other t.0)
rests-outside (Announced v) next a b t out other = absurd (other t.0)
rests-outside (Again v z) next a b t out other = absurd (other t.0)
rests-outside (Lasting z) next a b t out other = absurd (other t.0)
rests-outside (Inside x cm) next a b t out other = absurd (cc)

-- where its log has as many leaves as enters it is not in a section
left-outside : (section : Section) (next : Phase) (a b : ℕ) → Tied section next a b → b ≡ a → is_inside section ≡ false
left-outside Outside next a b t same = refl
left-outside (Loaded v) next a b t same = refl
left-outside (Announced v) next a b t same = refl
left-outside (Again v z) next a b t same = refl
left-outside (Lasting z) next a b t same = refl
left-outside (Inside x cm) next a b t same = absurd (omega (arith, t.1, same))

resting-owns : (next : Phase) (owns : Bool) → IsResting next → owns_at next owns ≡ owns
resting-owns phase.Idle owns rest = refl
resting-owns (phase.Advancing from other) owns rest = refl
resting-owns (phase.Ready from) owns rest = refl
resting-owns phase.Entering owns rest = refl
resting-owns (phase.Look n) owns rest = refl
resting-owns (phase.Add n) owns rest = refl
resting-owns (phase.Remove n) owns rest = refl
resting-owns (phase.Scan n) owns rest = refl
resting-owns (phase.Begin n) owns rest = elim rest [ ]
resting-owns (phase.Finish n) owns rest = refl
resting-owns (phase.Cancel n) owns rest = refl
resting-owns (phase.Survey n) owns rest = refl

-- the calls that a pass may start outside a section
abbrev OutsideCall : Call → Type 0
OutsideCall call.Enter = ⊤
OutsideCall call.Advance = ⊤
OutsideCall call.Note = ⊤
OutsideCall (call.Learn j z) = ⊤
OutsideCall _ = ⊥

outside-start : (shape : Layout) (pass : ℕ) (stand : Stand) (o : Offer) (section : Section) (next : Phase) (c : Call) → section ≡ Outside
    → offer shape pass stand section next (Start c) ≡ Some o → OutsideCall c
outside-start shape pass stand o section next c out is =
    let rests : next ≡ phase.Idle = idle-start shape pass stand o section next c is in
    go c (subst (λ (k : Phase). offer shape pass stand Outside k (Start c) ≡ Some o) rests (subst (λ (k : Section). offer shape pass stand k next (Start c) ≡ Some o) out is))
  where
    go : (c : Call) → offer shape pass stand Outside phase.Idle (Start c) ≡ Some o → OutsideCall c
    go call.Enter is = tt
    go call.Advance is = tt
    go call.Note is = tt
    go (call.Learn j z) is = tt
    go call.Leave is = absurd (cc)
    go (call.Add c k ws) is = absurd (cc)
    go (call.Look n) is = absurd (cc)
    go (call.Read n f) is = absurd (cc)
    go (call.Write n f v) is = absurd (cc)
    go (call.Remove n) is = absurd (cc)
    go (call.Scan c) is = absurd (cc)
    go (call.Next k) is = absurd (cc)
    go (call.Survey c) is = absurd (cc)
    go call.Finish is = absurd (cc)
    go call.Cancel is = absurd (cc)
    go (call.Begin c) is = absurd (cc)

fresh-own : (shape : Layout) → Own (fresh shape)
fresh-own shape = record { tied = (tt, refl); round = refl; within = tt }

module _ (shape : Layout) (opening : Opening) (first : World) (start : List ℕ) (pass since until : ℕ) (m last : Machine) (later : List (ℕ × Choice))
    (valid : IsShape shape) (starts : IsStart shape opening first start) (between : IsBetween shape start pass since until m later last)
    (idle : AllIdle last.locals) (alone : Alone last.locals pass since until) where
  -- what was told until then
  abbrev order : List (ℕ × Event)
  order = told_along shape (started shape start) between.earlier m between.before

  ordered : Ordered opening shape first m order (world_through first (events_of order))
  ordered = ordered-then opening shape valid first m start between.earlier starts between.before

  log_then : ℕ → List Event
  log_then by = log_of (logs_of m.locals) by

  log_last : ℕ → List Event
  log_last by = log_of (logs_of last.locals) by

  known : (of by count : ℕ) → Contains (log_of (logs_of m.locals) by) (event.Told of count) → count ≤ length (log_of (logs_of m.locals) of)
  known of by count has = told-known (logs_of m.locals) order of by count ordered.one_order has

  module _ (other : ℕ) (l : Local) (ne : other ≢ pass) (here : slice_get m.locals other ≡ Some l) where
    own : Own l
    own =
        let (l0, at, own0) = carries shape other Own (λ k choice o told w p is. own-after shape other k choice o told w p is) (started shape start) between.earlier m (fresh shape) between.before
        (get-replicate shape.passes other (fresh shape) (omega (arith, slice_get_within m.locals other l here, ordered.holds.backs.count))) (fresh-own shape) in
        subst Own (some-same l0 l (sym at ∙ here)) own0

    module _ (end : Local) (there : slice_get last.locals other ≡ Some end) where
      apart : IsApart pass since until (log_of (logs_of last.locals) pass) other end
      apart = alone other end ne there

      -- the log of this moment is a front of the last one
      grown : (rest : List Event) × (end.log ≡ l.log ++ rest)
      grown =
          let (rest, is) = log-goes-on shape other m later last between.after in
          (rest, sym (log-there last.locals other end there) ∙ (is ∙ ap (λ (es : List Event). es ++ rest) (log-there m.locals other l here)))

      -- what was told of it before has happened by now
      long_enough : apart.count ≤ length l.log
      long_enough = elim apart.told [
        | inl none ↦ omega (arith, none)
        | inr told ↦
            let (rest, is) = log-goes-on shape pass m later last between.after in
            let front : take since (log_of (logs_of last.locals) pass) ≡ take since (log_of (logs_of m.locals) pass) =
            ap (take since) is ∙ take-append-le since (log_of (logs_of m.locals) pass) rest between.has_first in
            let now : Contains (take since (log_of (logs_of m.locals) pass)) (event.Told other apart.count) = subst (λ (es : List Event). Contains es (event.Told other apart.count)) front told in
            let whole : Contains (log_of (logs_of m.locals) pass) (event.Told other apart.count) =
            subst (λ (es : List Event). Contains es (event.Told other apart.count)) (take-append-drop since (log_of (logs_of m.locals) pass))
            (Contains-append_left (take since (log_of (logs_of m.locals) pass)) _ (event.Told other apart.count) now) in
            subst (λ (es : List Event). apart.count ≤ length es) (log-there m.locals other l here) (known other pass apart.count whole)
      ]

      -- an event that is told next tells of what has not yet happened
      not_yet : (x : Event) → slice_get end.log apart.count ≡ Some x → TellsOf pass until x
      not_yet x is = subst (λ (z : Option Event). IfSome z (TellsOf pass until)) is apart.next

      tells_late : (log : List Event) (k : ℕ) (x : Event) → log ≡ log_of (logs_of m.locals) other → slice_get log k ≡ Some x → TellsOf pass until x → length (log_of (logs_of m.locals) pass) < length (log_of (logs_of m.locals) pass)
      tells_late log k (event.Told of count) same at tells =
          let has : Contains (log_of (logs_of m.locals) other) (event.Told of count) = subst (λ (es : List Event). Contains es (event.Told of count)) same (has-at log k (event.Told of count) at) in
          let has_come : count ≤ length (log_of (logs_of m.locals) pass) = subst (λ (p : ℕ). count ≤ length (log_of (logs_of m.locals) p)) tells.0 (known of other count has) in
          let before : length (log_of (logs_of m.locals) pass) < until = between.lacks_last in
          let least : until ≤ count = tells.1 in
          omega (arith, has_come, before, least)
      tells_late log k (event.Add n c ws) same at tells = absurd tells
      tells_late log k (event.Look n x) same at tells = absurd tells
      tells_late log k (event.Read n f v) same at tells = absurd tells
      tells_late log k (event.Write n f v) same at tells = absurd tells
      tells_late log k (event.Remove n f) same at tells = absurd tells
      tells_late log k (event.Begin j c) same at tells = absurd tells
      tells_late log k (event.Visit j n) same at tells = absurd tells
      tells_late log k (event.End j) same at tells = absurd tells
      tells_late log k event.Enter same at tells = absurd tells
      tells_late log k event.Leave same at tells = absurd tells
      tells_late log k (event.Refused c x) same at tells = absurd tells

      -- so the log of this moment ends there
      ends_here : length l.log ≡ apart.count
      ends_here = by_pass (length l.log) apart.count (λ same. same) (λ differs.
          let past : apart.count < length l.log = omega (arith, differs, long_enough) in
          let (x, at) = present l.log apart.count past in
          let later_too : slice_get end.log apart.count ≡ Some x = ap (λ (es : List Event). slice_get es apart.count) grown.1 ∙ get-front l.log grown.0 apart.count x at in
          let late : length (log_of (logs_of m.locals) pass) < length (log_of (logs_of m.locals) pass) = tells_late l.log apart.count x (sym (log-there m.locals other l here)) at (not_yet x later_too) in
          absurd (omega (arith, late)))
        where
          present : (log : List Event) (k : ℕ) → k < length log → (x : Event) × (slice_get log k ≡ Some x)
          present [] k lt = absurd (omega (arith, lt))
          present (x ∷ log) zero lt = (x, refl)
          present (x ∷ log) (suc k) lt = present log k (omega (arith, lt))

      out : is_inside l.stand.section ≡ false
      out = left-outside l.stand.section l.stand.phase (enters l.log) (leaves l.log) own.tied
          (subst IsLeft (ap (λ (k : ℕ). take k end.log) (sym ends_here) ∙ (ap (take (length l.log)) grown.1 ∙ take-append_seam l.log grown.0)) apart.left)

    -- it stands at some local state in the last machine
    module _ (mm : Machine) (steps : List (ℕ × Choice)) (leads : Leads shape mm steps last) (k : Local) (at : slice_get mm.locals other ≡ Some k) (own_k : Own k) where
      -- no enter is in progress when the log has come so far
      no_enter : (end : Local) (there : slice_get last.locals other ≡ Some end) → length k.log ≡ (apart end there).count → k.stand.phase ≢ phase.Entering
      no_enter end there same entering =
          let (z, found, en) = carries shape other (Entered (apart end there).count) (λ x choice o told w p is. entered-after shape other x choice o told w is (apart end there).count p)
          mm steps last k leads at (record { own = own_k; goes = inl (same, entering) }) in
          elim en.goes [
            | inl still ↦ absurd (let e : phase.Idle ≡ phase.Entering = sym (idle other z found) ∙ still.1 in cc)
            | inr enter ↦ not_yet end there event.Enter (ap (λ (x : Local). slice_get x.log (apart end there).count) (some-same end z (sym there ∙ found)) ∙ enter)
          ]

    ending : (end : Local) × (slice_get last.locals other ≡ Some end) × ⊤
    ending = carries shape other (λ k. ⊤) (λ k choice o told w p is. tt) m later last l between.after here tt

    -- it stands aside
    aside : StandsAside l.stand
    aside =
        let (end, there, nothing) = ending in
        let same : length l.log ≡ (apart end there).count = ends_here end there in
        let (z, found, on) = carries shape other (Onward (apart end there).count (owns_after false l.answers))
        (λ x choice o told w p is. onward-after shape other x choice o told w is (apart end there).count (owns_after false l.answers) p) m later last l between.after here
        (record {
          own = own;
          long = omega (arith, same);
          round = ap (owns_after false) (until-all (apart end there).count l.answers (subst (λ (n : ℕ). KeptWithin n l.answers) same own.within));
          out = λ at. out end there;
        }) in
        let none : owns_after false l.answers ≡ false = sym on.round ∙ (ap (λ (x : Local). owns_after false (answers_until (apart end there).count x.answers)) (some-same z end (sym found ∙ there)) ∙ (apart end there).no_round) in
        let (outside, rests) = rests-outside l.stand.section l.stand.phase (enters l.log) (leaves l.log) own.tied (out end there) (no_enter m later between.after l here own end there same) in record {
          outside = outside;
          resting = rests;
          no_round = is_none l.stand.round (own.round ∙ (resting-owns l.stand.phase (owns_after false l.answers) rests ∙ none));
        }

  others : OthersAside pass m.locals
  others other l ne here = aside other l ne here

  -- what it chooses is an advance or a note, or to go on with one
  may : (by : ℕ) (choice : Choice) (next : Machine) (rest : List (ℕ × Choice)) → Steps shape m by choice next → Leads shape next rest last → by ≢ pass → IsAsideChoice choice
  may by choice next rest step leads ne = go choice refl
    where
      l : Local
      l = step.local

      l' : Choice → Local
      l' c = after shape by step.local c step.told (row_shows shape step.offered.op m.row)

      ends : (end : Local) × (slice_get last.locals by ≡ Some end) × ⊤
      ends = ending by step.local ne step.here

      outside : step.local.stand.section ≡ Outside
      outside = (aside by step.local ne step.here).outside

      at_next : slice_get next.locals by ≡ Some (after shape by step.local choice step.told (row_shows shape step.offered.op m.row))
      at_next = subst (λ (k : Machine). slice_get k.locals by ≡ Some (after shape by step.local choice step.told (row_shows shape step.offered.op m.row))) (sym step.leads)
          (get-set_same m.locals by step.local (after shape by step.local choice step.told (row_shows shape step.offered.op m.row)) step.here)

      own_next : Own (after shape by step.local choice step.told (row_shows shape step.offered.op m.row))
      own_next = own-after shape by step.local choice step.offered step.told (row_shows shape step.offered.op m.row) (own by step.local ne step.here) step.offers

      -- an enter would have come to its end
      enters_not : choice ≡ Start call.Enter → ⊥
      enters_not is =
          let (end, there, nothing) = ends in
          no_enter by step.local ne step.here next rest leads (after shape by step.local choice step.told (row_shows shape step.offered.op m.row)) at_next own_next end there
          (ap (λ (c : Choice). length (after shape by step.local c step.told (row_shows shape step.offered.op m.row)).log) is ∙ ends_here by step.local ne step.here end there)
          (ap (λ (c : Choice). (after shape by step.local c step.told (row_shows shape step.offered.op m.row)).stand.phase) is)

      -- what it would learn has not happened
      learns_not : (j z : ℕ) → choice ≡ Start (call.Learn j z) → ⊥
      learns_not j z is =
          let (end, there, nothing) = ends in
          let b = ordered_along opening shape valid first m order (world_through first (events_of order)) ((by, choice) ∷ []) next ordered (next, step, refl) in
          let log' : (after shape by step.local choice step.told (row_shows shape step.offered.op m.row)).log ≡ step.local.log ++ event.Told j step.told ∷ [] =
          ap (λ (c : Choice). (after shape by step.local c step.told (row_shows shape step.offered.op m.row)).log) is in
          let last_of : slice_get (step.local.log ++ event.Told j step.told ∷ []) (length step.local.log) ≡ Some (event.Told j step.told) = get-end step.local.log (event.Told j step.told) in
          let (more, grows) = log-goes-on shape by next rest last leads in
          let there_next : log_of (logs_of next.locals) by ≡ step.local.log ++ event.Told j step.told ∷ [] =
          log-there next.locals by (after shape by step.local choice step.told (row_shows shape step.offered.op m.row)) at_next ∙ log' in
          let in_end : slice_get end.log (length step.local.log) ≡ Some (event.Told j step.told) =
          ap (λ (es : List Event). slice_get es (length step.local.log)) (sym (log-there last.locals by end there) ∙ (grows ∙ ap (λ (es : List Event). es ++ more) there_next))
          ∙ get-front (step.local.log ++ event.Told j step.told ∷ []) more (length step.local.log) (event.Told j step.told) last_of in
          let tells : TellsOf pass until (event.Told j step.told) = not_yet by step.local ne step.here end there (event.Told j step.told)
          (subst (λ (k : ℕ). slice_get end.log k ≡ Some (event.Told j step.told)) (ends_here by step.local ne step.here end there) in_end) in
          let come : step.told ≤ length (log_of (logs_of next.locals) j) = told-known (logs_of next.locals) (order ++ told_along shape m ((by, choice) ∷ []) next (next, step, refl)) j by step.told b.one_order
          (subst (λ (es : List Event). Contains es (event.Told j step.told)) (sym there_next) (has-at (step.local.log ++ event.Told j step.told ∷ []) (length step.local.log) (event.Told j step.told) last_of)) in
          let same : log_of (logs_of next.locals) pass ≡ log_of (logs_of m.locals) pass =
          ap (λ (k : Machine). log_of (logs_of k.locals) pass) step.leads ∙ log-other m.locals by pass (after shape by step.local choice step.told (row_shows shape step.offered.op m.row)) (λ e. ne (sym e)) in
          let come_now : step.told ≤ length (log_of (logs_of m.locals) pass) = subst (λ (es : List Event). step.told ≤ length es) same (subst (λ (k : ℕ). step.told ≤ length (log_of (logs_of next.locals) k)) tells.0 come) in
          let before : length (log_of (logs_of m.locals) pass) < until = between.lacks_last in
          let least : until ≤ step.told = tells.1 in
          absurd (omega (arith, come_now, before, least))

      begins : (c : Call) → choice ≡ Start c → OutsideCall c
      begins c is = outside-start shape by step.local.stand step.offered step.local.stand.section step.local.stand.phase c outside (subst (λ (x : Choice). local_offer shape by step.local x ≡ Some step.offered) is step.offers)

      go : (c : Choice) → choice ≡ c → IsAsideChoice c
      go Go is = tt
      go (Start call.Advance) is = tt
      go (Start call.Note) is = tt
      go (Start call.Enter) is = elim (enters_not is) [ ]
      go (Start (call.Learn j z)) is = elim (learns_not j z is) [ ]
      go (Start call.Leave) is = elim (begins call.Leave is) [ ]
      go (Start (call.Add c k ws)) is = elim (begins (call.Add c k ws) is) [ ]
      go (Start (call.Look n)) is = elim (begins (call.Look n) is) [ ]
      go (Start (call.Read n f)) is = elim (begins (call.Read n f) is) [ ]
      go (Start (call.Write n f v)) is = elim (begins (call.Write n f v) is) [ ]
      go (Start (call.Remove n)) is = elim (begins (call.Remove n) is) [ ]
      go (Start (call.Scan c)) is = elim (begins (call.Scan c) is) [ ]
      go (Start (call.Next k)) is = elim (begins (call.Next k) is) [ ]
      go (Start (call.Begin c)) is = elim (begins (call.Begin c) is) [ ]
      go (Start call.Finish) is = elim (begins call.Finish is) [ ]
      go (Start call.Cancel) is = elim (begins call.Cancel is) [ ]
      go (Start (call.Survey c)) is = elim (begins (call.Survey c) is) [ ]

  next_ok : (steps : List (ℕ × Choice)) → later ≡ steps → NextUndisturbed shape pass m steps
  next_ok [] is = tt
  next_ok ((by, choice) ∷ rest) is =
      let (next, step, leads) = subst (λ (steps : List (ℕ × Choice)). Leads shape m steps last) is between.after in
      let calm : (by ≡ pass) ⊎ IsAsideChoice choice = by_pass by pass (λ same. inl same) (λ ne. inr (may by choice next rest step leads ne)) in
      ((calm, tt), λ n s. others-aside shape pass m n ((by, choice) ∷ []) others (calm, tt) (n, s, refl))

-- at each moment of events that are alone
pub alone-undisturbed : AloneIsUndisturbed
alone-undisturbed shape opening first start pass since until m last later valid starts between idle alone = (
  others shape opening first start pass since until m last later valid starts between idle alone,
  next_ok shape opening first start pass since until m last later valid starts between idle alone later refl,
)

-- and so from one such moment to another
module _ (shape : Layout) (opening : Opening) (first : World) (start : List ℕ) (pass since until : ℕ) (to last : Machine) (later : List (ℕ × Choice))
    (valid : IsShape shape) (starts : IsStart shape opening first start) (end : IsBetween shape start pass since until to later last)
    (idle : AllIdle last.locals) (alone : Alone last.locals pass since until) where
  stretch : (m : Machine) (during : List (ℕ × Choice)) → IsBetween shape start pass since until m during to → IsUndisturbed pass during
  stretch m [] here = tt
  stretch m ((by, choice) ∷ during) here =
      let (next, step, leads) = here.after in
      let whole : IsBetween shape start pass since until m ((by, choice) ∷ (during ++ later)) last = record {
        earlier = here.earlier;
        before = here.before;
        after = (next, step, leads-join shape next to last during later leads end.after);
        has_first = here.has_first;
        lacks_last = here.lacks_last;
      } in
      let (front, one) = log-goes-on shape pass m ((by, choice) ∷ []) next (next, step, refl) in
      let (rest, more) = log-goes-on shape pass next during to leads in
      let long_now : length (log_of (logs_of next.locals) pass) ≡ length (log_of (logs_of m.locals) pass) + length front = ap length one ∙ length-append (log_of (logs_of m.locals) pass) front in
      let long_then : length (log_of (logs_of to.locals) pass) ≡ length (log_of (logs_of next.locals) pass) + length rest = ap length more ∙ length-append (log_of (logs_of next.locals) pass) rest in
      let low : since ≤ length (log_of (logs_of m.locals) pass) = here.has_first in
      let high : length (log_of (logs_of to.locals) pass) < until = end.lacks_last in (
        ((alone-undisturbed shape opening first start pass since until m last ((by, choice) ∷ (during ++ later)) valid starts whole idle alone).1).0.0,
        stretch next during (record {
          earlier = here.earlier ++ (by, choice) ∷ [];
          before = leads-join shape (started shape start) m next here.earlier ((by, choice) ∷ []) here.before (next, step, refl);
          after = leads;
          has_first = omega (arith, long_now, low);
          lacks_last = omega (arith, long_then, high);
        }),
      )

  pub stretch-undisturbed : (m : Machine) (during : List (ℕ × Choice)) → IsBetween shape start pass since until m during to
      → OthersAside pass m.locals × IsUndisturbed pass during × OthersAside pass to.locals
  stretch-undisturbed m during here =
      let calm : IsUndisturbed pass during = stretch m during here in
      let aside : OthersAside pass m.locals = (alone-undisturbed shape opening first start pass since until m last (during ++ later) valid starts (record {
        earlier = here.earlier;
        before = here.before;
        after = leads-join shape m to last during later here.after end.after;
        has_first = here.has_first;
        lacks_last = here.lacks_last;
      }) idle alone).0 in
      (aside, calm, others-aside shape pass m to during aside calm here.after)

pub stretches-undisturbed : StretchIsUndisturbed
stretches-undisturbed shape opening first start pass since until m to last during later valid starts here end idle alone =
    stretch-undisturbed shape opening first start pass since until to last later valid starts end idle alone m during here

pub answers-undisturbed : AloneAnswerIsUndisturbed
answers-undisturbed shape opening first start pass answer m last earlier later valid starts before after long idle alone =
    alone-undisturbed shape opening first start pass answer.length (answer.length + 1) m last later valid starts
    (record { earlier = earlier; before = before; after = after; has_first = omega (arith, long); lacks_last = omega (arith, long) }) idle alone
