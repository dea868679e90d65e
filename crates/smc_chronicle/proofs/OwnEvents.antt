-- While the others stand aside only the pass tells events; and a pass has one place in an order for each of its events.
use Rattle.std.proofs.Common.{◌≡◌, ◌≢◌, ℕ, ◌==◌, Bool, true, false, Option, Some, None, List, [], ◌∷◌, ◌++◌, inl, inr, refl, sym, ap, ◌∙◌, subst}
use Rattle.std.specs.Prelude.{IfSome, filter, if◌then◌else◌}
use Rattle.std.specs.List.{AllByRecursion}
use Rattle.std.proofs.lemmas.Bool.{eq-eqb, ne_eqb}
use Rattle.smc_shape.specs.Layout.{Layout}
use Rattle.smc_model.specs.declared.event.Event.{Event}
use Rattle.smc_model.specs.Order.{events_by, events_of}
use Rattle.smc_core.specs.declared.call.Choice.{Choice}
use Rattle.smc_core.specs.declared.op.Offer.{Offer}
use Rattle.smc_core.specs.declared.word.Word.{Word}
use Rattle.smc_core.specs.Change.{change}
use Rattle.smc_core.specs.Machine.{Leads, Machine, Steps}
use Rattle.smc_core.specs.Row.{row_shows}
use Rattle.smc_core.specs.Told.{adds, told_along, told_by_step}
use Rattle.smc_rules.proofs.CarryLaws.{by_pass}
use Rattle.smc_aside.specs.Aside.{IsAsideChoice, IsUndisturbed, OthersAside, StandsAside}
use Rattle.smc_aside.proofs.AsideLaws.{others-aside}
use Rattle.smc_aside.proofs.Stillness.{IsQuietStep, quiet_step}

-- all events of the order are of this pass
abbrev pub IsOwn : ℕ → List (ℕ × Event) → Type 0
IsOwn pass order = AllByRecursion (λ (d : ℕ × Event). d.0 ≡ pass) order

own-append : (pass : ℕ) (front back : List (ℕ × Event)) → IsOwn pass front → IsOwn pass back → IsOwn pass (front ++ back)
own-append pass [] back one two = two
own-append pass (d ∷ front) back one two = (one.0, own-append pass front back one.1 two)

with-own : (by pass : ℕ) (e : Option Event) → by ≡ pass → IsOwn pass (adds by e)
with-own by pass None is = tt
with-own by pass (Some event) is = (is, tt)

-- one that stands aside tells nothing
pub silent : (shape : Layout) (m : Machine) (by : ℕ) (choice : Choice) (next : Machine) (step : Steps shape m by choice next) → StandsAside step.local.stand → IsAsideChoice choice
    → told_by_step shape m by choice next step ≡ None
silent shape m by choice next step stands may =
    let quiet : IsQuietStep step.offered.op (told_by_step shape m by choice next step) =
    subst (λ (k : Option Offer). IfSome k (λ o. (w : Word) → IsQuietStep o.op (change shape by step.local.stand step.local.stand.section step.local.stand.phase choice step.told w).event)) step.offers
    (quiet_step shape by step.local.stand step.told step.local.stand.section step.local.stand.phase choice stands.outside stands.resting may) (row_shows shape step.offered.op m.row) in
    quiet.silent

pub undisturbed-own : (shape : Layout) (pass : ℕ) (m : Machine) (steps : List (ℕ × Choice)) (last : Machine) (leads : Leads shape m steps last) → OthersAside pass m.locals → IsUndisturbed pass steps
    → IsOwn pass (told_along shape m steps last leads)
undisturbed-own shape pass m [] last leads aside calm = tt
undisturbed-own shape pass m (first ∷ later) last (next, step, on) aside calm =
    let e : Option Event = told_by_step shape m first.0 first.1 next step in
    let rest : List (ℕ × Event) = told_along shape next later last on in
    let later_own : IsOwn pass rest = undisturbed-own shape pass next later last on (others-aside shape pass m next (first ∷ []) aside (calm.0, tt) (next, step, refl)) calm.1 in
    let own : IsOwn pass (adds first.0 e) = by_pass first.0 pass (λ same. with-own first.0 pass e same)
    (λ apart. elim calm.0 [
      | inl same ↦ absurd (apart same)
      | inr may ↦ subst (λ (k : Option Event). IsOwn pass (adds first.0 k)) (sym (silent shape m first.0 first.1 next step (aside first.0 step.local apart step.here) may)) tt
    ]) in
    own-append pass (adds first.0 e) rest own later_own

abbrev of_pass : ℕ → List (ℕ × Event) → List (ℕ × Event)
of_pass pass order = filter (λ (x : ℕ × Event). x.0 == pass) order

pub by-own : (pass : ℕ) (d : ℕ × Event) (rest : List (ℕ × Event)) → d.0 ≡ pass → events_by pass (d ∷ rest) ≡ d.1 ∷ events_by pass rest
by-own pass d rest is = ap (λ (b : Bool). events_of (if b then d ∷ of_pass pass rest else of_pass pass rest)) (eq-eqb d.0 pass is)

pub by-other : (pass : ℕ) (d : ℕ × Event) (rest : List (ℕ × Event)) → d.0 ≢ pass → events_by pass (d ∷ rest) ≡ events_by pass rest
by-other pass d rest apart = ap (λ (b : Bool). events_of (if b then d ∷ of_pass pass rest else of_pass pass rest)) (ne_eqb d.0 pass apart)

none-own : (pass : ℕ) (order : List (ℕ × Event)) → IsOwn pass order → events_by pass order ≡ [] → order ≡ []
none-own pass [] own is = refl
none-own pass (d ∷ order) own is = let some : events_by pass (d ∷ order) ≡ d.1 ∷ events_by pass order = by-own pass d order own.0 in absurd (cc)

-- an order of one event of the pass
pub one-own : (pass : ℕ) (order : List (ℕ × Event)) (e : Event) → IsOwn pass order → events_by pass order ≡ e ∷ [] → order ≡ (pass, e) ∷ []
one-own pass [] e own is = absurd (cc)
one-own pass (d ∷ order) e own is =
    let some : d.1 ∷ events_by pass order ≡ e ∷ [] = sym (by-own pass d order own.0) ∙ is in
    let same : d.1 ≡ e = cc in
    let none : events_by pass order ≡ [] = cc in
    ap (λ (es : List (ℕ × Event)). d ∷ es) (none-own pass order own.1 none) ∙ ap (λ (x : ℕ × Event). x ∷ []) (pair d pass e own.0 same)
  where
    pair : (d : ℕ × Event) (p : ℕ) (x : Event) → d.0 ≡ p → d.1 ≡ x → d ≡ (p, x)
    pair d p x one two = ap (λ (k : ℕ). let both : ℕ × Event = (k, d.1) in both) one ∙ ap (λ (k : Event). let both : ℕ × Event = (p, k) in both) two

-- two places of one order at which a pass tells an event, behind as many of its own, are one
pub one-place : (pass : ℕ) (a b : List (ℕ × Event)) (x y : Event) (s t : List (ℕ × Event)) → a ++ (pass, x) ∷ s ≡ b ++ (pass, y) ∷ t → events_by pass a ≡ events_by pass b → a ≡ b
one-place pass [] [] x y s t is own = refl
one-place pass [] (d ∷ b) x y s t is own =
    let same : (pass, x) ≡ d = cc in
    let some : events_by pass (d ∷ b) ≡ d.1 ∷ events_by pass b = by-own pass d b (ap (λ (k : ℕ × Event). k.0) (sym same)) in
    let none : events_by pass (d ∷ b) ≡ [] = sym own in
    absurd (cc)
one-place pass (d ∷ a) [] x y s t is own =
    let same : d ≡ (pass, y) = cc in
    let some : events_by pass (d ∷ a) ≡ d.1 ∷ events_by pass a = by-own pass d a (ap (λ (k : ℕ × Event). k.0) same) in
    let none : events_by pass (d ∷ a) ≡ [] = own in
    absurd (cc)
one-place pass (d ∷ a) (f ∷ b) x y s t is own =
    let same : d ≡ f = cc in
    let rest : a ++ (pass, x) ∷ s ≡ b ++ (pass, y) ∷ t = cc in
    let first : events_by pass (d ∷ a) ≡ events_by pass (d ∷ b) = own ∙ ap (λ (k : ℕ × Event). events_by pass (k ∷ b)) (sym same) in
    ap (λ (es : List (ℕ × Event)). d ∷ es) (one-place pass a b x y s t rest (go (d.0 == pass) first)) ∙ ap (λ (k : ℕ × Event). k ∷ b) same
  where
    go : (t : Bool) → events_of (if t then d ∷ of_pass pass a else of_pass pass a) ≡ events_of (if t then d ∷ of_pass pass b else of_pass pass b) → events_of (of_pass pass a) ≡ events_of (of_pass pass b)
    go true is = let e : d.1 ∷ events_of (of_pass pass a) ≡ d.1 ∷ events_of (of_pass pass b) = is in cc
    go false is = is
