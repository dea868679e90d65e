-- What a pass has told is its part of the order, and each event of it has a place there.
use Rattle.std.proofs.Common.{◌≡◌, ◌≢◌, ℕ, Option, Some, List, [], ◌∷◌, ◌++◌, refl, sym, ap, ◌∙◌}
use Rattle.std.specs.Prelude.{slice_get}
use Rattle.smc_shape.specs.Layout.{Layout, IsShape}
use Rattle.smc_model.specs.Order.{events_by}
use Rattle.smc_model.specs.declared.event.Event.{Event}
use Rattle.smc_model.specs.World.{World, empty_world}
use Rattle.smc_core.specs.declared.local.Local.{Local}
use Rattle.smc_rules.proofs.CarryLaws.{by_pass}
use Rattle.smc_core.specs.declared.local.Opening.{Opening}
use Rattle.smc_core.specs.Machine.{Machine}
use Rattle.smc_rules.specs.History.{History, history_order}
use Rattle.smc_refine.proofs.Ordered.{histories_lawful}
use Rattle.smc_refine.proofs.OrderSteps.{log-there}
use Rattle.smc_trace.specs.Trace.{CallEnd, IsTrace, event_in, events_in}
use Rattle.smc_trace.proofs.TraceSteps.{events_in-append}
use Rattle.smc_calls.specs.Calls.{HasMade}
use Rattle.smc_chronicle.specs.Places.{EventPlace}
use Rattle.smc_chronicle.proofs.OwnEvents.{by-other, by-own}

-- what a pass has told is its part of the order
pub own-events : (shape : Layout) (opening : Opening) (first : World) (pass : ℕ) (calls : List CallEnd) (m : Machine) (past : History shape opening first m) → IsShape shape → HasMade pass m calls
    → events_by pass (history_order past) ≡ events_in calls
own-events shape opening first pass calls m past valid made =
    (histories_lawful shape opening first m valid past).one_order.each_log pass ∙ (log-there m.locals pass made.local made.here ∙ made.trace.0)

-- where an order has this event of the pass, behind these of its own
abbrev IsSplit : ℕ → List (ℕ × Event) → List Event → Event → Type 0
IsSplit pass order done e = (earlier : List (ℕ × Event)) × (later : List (ℕ × Event)) × (order ≡ earlier ++ (pass, e) ∷ later) × (events_by pass earlier ≡ done)

-- behind one more event, of the pass or of another one
split-own : (pass by : ℕ) (event : Event) (order : List (ℕ × Event)) (done : List Event) (e : Event) (rest : List Event) → by ≡ pass → event ∷ events_by pass order ≡ done ++ e ∷ rest
    → ((done : List Event) → events_by pass order ≡ done ++ e ∷ rest → IsSplit pass order done e) → IsSplit pass ((by, event) ∷ order) done e
split-own pass by event order [] e rest same is again =
    let it : event ≡ e = cc in
    ([], order, ap (λ (x : ℕ × Event). x ∷ order) (ap (λ (k : ℕ). let both : ℕ × Event = (k, event) in both) same ∙ ap (λ (k : Event). let both : ℕ × Event = (pass, k) in both) it), refl)
split-own pass by event order (x ∷ done) e rest same is again =
    let it : event ≡ x = cc in
    let behind : events_by pass order ≡ done ++ e ∷ rest = cc in
    let (earlier, later, cut, own) = again done behind in
    ((by, event) ∷ earlier, later, ap (λ (es : List (ℕ × Event)). (by, event) ∷ es) cut, by-own pass (by, event) earlier same ∙ (ap (λ (es : List Event). event ∷ es) own ∙ ap (λ (k : Event). k ∷ done) it))

split-other : (pass by : ℕ) (event : Event) (order : List (ℕ × Event)) (done : List Event) (e : Event) → by ≢ pass → IsSplit pass order done e → IsSplit pass ((by, event) ∷ order) done e
split-other pass by event order done e apart (earlier, later, cut, own) =
    ((by, event) ∷ earlier, later, ap (λ (es : List (ℕ × Event)). (by, event) ∷ es) cut, by-other pass (by, event) earlier apart ∙ own)

splits : (pass : ℕ) (order : List (ℕ × Event)) (done : List Event) (e : Event) (rest : List Event) → events_by pass order ≡ done ++ e ∷ rest → IsSplit pass order done e
splits pass [] [] e rest is = absurd (cc)
splits pass [] (x ∷ done) e rest is = absurd (cc)
splits pass ((by, event) ∷ order) done e rest is = by_pass by pass
    (λ same. split-own pass by event order done e rest same (sym (by-own pass (by, event) order same) ∙ is) (λ these now. splits pass order these e rest now))
    (λ apart. split-other pass by event order done e apart (splits pass order done e rest (sym (by-other pass (by, event) order apart) ∙ is)))

-- each event of a trace has its place
pub event-place : (shape : Layout) (opening : Opening) (m : Machine) (h : History shape opening empty_world m) → IsShape shape
    → (pass : ℕ) (l : Local) (before : List CallEnd) (end : CallEnd) (after : List CallEnd) (event : Event) → slice_get m.locals pass ≡ Some l
    → IsTrace l (before ++ end ∷ after) → end.event ≡ Some event → (at : EventPlace (history_order h) pass before) × (at.event ≡ event)
event-place shape opening m h valid pass l before end after event here trace is =
    let own : events_by pass (history_order h) ≡ l.log = (histories_lawful shape opening empty_world m valid h).one_order.each_log pass ∙ log-there m.locals pass l here in
    let told : events_in (end ∷ after) ≡ event ∷ events_in after = ap (λ (x : Option Event). event_in x ++ events_in after) is in
    let parts : events_by pass (history_order h) ≡ events_in before ++ event ∷ events_in after =
    own ∙ (trace.0 ∙ (events_in-append before (end ∷ after) ∙ ap (λ (es : List Event). events_in before ++ es) told)) in
    let (earlier, later, cut, own_before) = splits pass (history_order h) (events_in before) event (events_in after) parts in
    (record { earlier = earlier; event = event; later = later; cut = cut; own = own_before }, refl)
