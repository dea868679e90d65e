-- What one more step leads to, and what it leaves of local states, notes and words.
use Rattle.std.proofs.Common.{◌≡◌, ◌≢◌, ℕ, zero, suc, Bool, Option, Some, None, List, [], ◌∷◌, ◌++◌, length, refl, sym, ap, ◌∙◌, subst, append_assoc}
use Rattle.std.specs.Prelude.{slice_get, slice_set, ◌||◌}
use Rattle.std.proofs.lemmas.List.{append-nil}
use Rattle.smc_shape.specs.Layout.{Layout, IsShape}
use Rattle.smc_model.specs.declared.event.Event.{Event}
use Rattle.smc_core.specs.declared.call.Call.TheVariants as call
use Rattle.smc_core.specs.declared.call.Choice.{Choice}
use Rattle.smc_core.specs.declared.call.Choice.TheVariants.{Start, Go}
use Rattle.smc_core.specs.declared.local.Learnt.{Learnt}
use Rattle.smc_core.specs.declared.local.Local.{Local}
use Rattle.smc_core.specs.Local.{logged, notes_after, learnt_after}
use Rattle.smc_model.specs.World.{World, empty_world}
use Rattle.smc_rules.specs.History.{History}
use Rattle.smc_region.specs.Reached.{HasHistory, IsReached}
use Rattle.smc_core.specs.declared.local.Opening.{Opening}
use Rattle.smc_core.specs.Machine.{Machine, Steps, Leads, Reach, told_by, has_learnt, is_learnt, started}
use Rattle.smc_rules.proofs.CarryLaws.{by_pass}
use Rattle.smc_region.specs.Rule.{IsOwn, HasNote}

module _ {A : Type 0} where
  -- what was put there is found there
  pub get-set_same : (xs : List A) (i : ℕ) (x y : A) → slice_get xs i ≡ Some x → slice_get (slice_set xs i y) i ≡ Some y
  get-set_same [] i x y e = cc
  get-set_same (a ∷ xs) zero x y e = refl
  get-set_same (a ∷ xs) (suc i) x y e = get-set_same xs i x y e

  -- elsewhere nothing changes
  pub get-set_other : (xs : List A) (i j : ℕ) (y : A) → j ≢ i → slice_get (slice_set xs i y) j ≡ slice_get xs j
  get-set_other [] i j y n = refl
  get-set_other (a ∷ xs) zero zero y n = absurd (n refl)
  get-set_other (a ∷ xs) zero (suc j) y n = refl
  get-set_other (a ∷ xs) (suc i) zero y n = refl
  get-set_other (a ∷ xs) (suc i) (suc j) y n = get-set_other xs i j y (λ e. n (ap suc e))

  -- what is in a list is in a longer one
  pub get-longer : (xs ys : List A) (i : ℕ) (x : A) → slice_get xs i ≡ Some x → slice_get (xs ++ ys) i ≡ Some x
  get-longer [] ys i x e = cc
  get-longer (a ∷ xs) ys zero x e = e
  get-longer (a ∷ xs) ys (suc i) x e = get-longer xs ys i x e

  -- what is found is one thing
  pub some-same : (x y : A) → Some x ≡ Some y → x ≡ y
  some-same x y e = cc

-- an own choice is told nothing
pub own-told : (locals : List Local) (pass : ℕ) (choice : Choice) → IsOwn choice → told_by locals pass choice ≡ Some 0
own-told locals pass Go own = refl
own-told locals pass (Start call.Enter) own = refl
own-told locals pass (Start call.Leave) own = refl
own-told locals pass (Start call.Advance) own = refl
own-told locals pass (Start (call.Add coll from words)) own = refl
own-told locals pass (Start (call.Look number)) own = refl
own-told locals pass (Start (call.Read number field)) own = refl
own-told locals pass (Start (call.Write number field value)) own = refl
own-told locals pass (Start (call.Remove number)) own = refl
own-told locals pass (Start (call.Scan coll)) own = refl
own-told locals pass (Start (call.Next scan)) own = refl
own-told locals pass (Start (call.Begin coll)) own = refl
own-told locals pass (Start call.Finish) own = refl
own-told locals pass (Start call.Cancel) own = refl
own-told locals pass (Start (call.Survey coll)) own = refl
own-told locals pass (Start call.Note) own = refl
own-told locals pass (Start (call.Learn other note)) own = absurd own

-- and learns nothing
pub own-learnt : (learnt : List Learnt) (choice : Choice) → IsOwn choice → learnt_after learnt choice ≡ learnt
own-learnt learnt Go own = refl
own-learnt learnt (Start call.Enter) own = refl
own-learnt learnt (Start call.Leave) own = refl
own-learnt learnt (Start call.Advance) own = refl
own-learnt learnt (Start (call.Add coll from words)) own = refl
own-learnt learnt (Start (call.Look number)) own = refl
own-learnt learnt (Start (call.Read number field)) own = refl
own-learnt learnt (Start (call.Write number field value)) own = refl
own-learnt learnt (Start (call.Remove number)) own = refl
own-learnt learnt (Start (call.Scan coll)) own = refl
own-learnt learnt (Start (call.Next scan)) own = refl
own-learnt learnt (Start (call.Begin coll)) own = refl
own-learnt learnt (Start call.Finish) own = refl
own-learnt learnt (Start call.Cancel) own = refl
own-learnt learnt (Start (call.Survey coll)) own = refl
own-learnt learnt (Start call.Note) own = refl
own-learnt learnt (Start (call.Learn other note)) own = absurd own

-- one more step leads on
leads-then : (shape : Layout) (first : Machine) (steps : List (ℕ × Choice)) (middle last : Machine) (pass : ℕ) (choice : Choice)
    → Leads shape first steps middle → Steps shape middle pass choice last → Leads shape first (steps ++ (pass, choice) ∷ []) last
leads-then shape first [] middle last pass choice leads step = (last, subst (λ (m : Machine). Steps shape m pass choice last) (sym leads) step, refl)
leads-then shape first (one ∷ later) middle last pass choice leads step =
    (leads.0, leads.1, leads-then shape leads.0 later middle last pass choice leads.2 step)

-- so a state that is reached is left for one that is reached
pub reach-then : (shape : Layout) (start : List ℕ) (m next : Machine) (pass : ℕ) (choice : Choice)
    → Reach shape start m.row m.locals → Steps shape m pass choice next → Reach shape start next.row next.locals
reach-then shape start m next pass choice reached step =
    (reached.0 ++ (pass, choice) ∷ [], leads-then shape (started shape start) reached.0 m next pass choice reached.1 step)

-- and so is its history
pub history-then : (shape : Layout) (opening : Opening) (first : World) (m next : Machine) (pass : ℕ) (choice : Choice)
    → History shape opening first m → Steps shape m pass choice next → History shape opening first next
history-then shape opening first m next pass choice h step =
    let to = reach-then shape h.start m next pass choice (h.steps, h.leads) step in record { start = h.start; starts = h.starts; steps = to.0; leads = to.1 }

-- a state that is reached has a history, and one that has a history is reached
pub was : {shape : Layout} {opening : Opening} {row : List ℕ} {locals : List Local} → IsReached shape opening row locals → History shape opening empty_world (record { row = row; locals = locals })
unfolding HasHistory
was {shape} {opening} {row} {locals} r = r.history

pub reached_by : (shape : Layout) (opening : Opening) (m : Machine) → IsShape shape → History shape opening empty_world m → IsReached shape opening m.row m.locals
unfolding HasHistory
reached_by shape opening m valid h = record { valid = valid; history = h }

-- a log after a step begins with the log before it
pub log-longer : (log : List Event) (event : Option Event) → (later : List Event) × (logged log event ≡ log ++ later)
log-longer log None = ([], sym (append-nil log))
log-longer log (Some event) = (event ∷ [], refl)

-- notes stay what they are
pub notes-longer : (notes : List ℕ) (choice : Choice) (size number n : ℕ) → slice_get notes number ≡ Some n → slice_get (notes_after notes size choice) number ≡ Some n
notes-longer notes (Start call.Note) size number n is = get-longer notes (size ∷ []) number n is
notes-longer notes Go size number n is = is
notes-longer notes (Start call.Enter) size number n is = is
notes-longer notes (Start call.Leave) size number n is = is
notes-longer notes (Start call.Advance) size number n is = is
notes-longer notes (Start (call.Add coll from words)) size number n is = is
notes-longer notes (Start (call.Look other)) size number n is = is
notes-longer notes (Start (call.Read other field)) size number n is = is
notes-longer notes (Start (call.Write other field value)) size number n is = is
notes-longer notes (Start (call.Remove other)) size number n is = is
notes-longer notes (Start (call.Scan coll)) size number n is = is
notes-longer notes (Start (call.Next scan)) size number n is = is
notes-longer notes (Start (call.Begin coll)) size number n is = is
notes-longer notes (Start call.Finish) size number n is = is
notes-longer notes (Start call.Cancel) size number n is = is
notes-longer notes (Start (call.Survey coll)) size number n is = is
notes-longer notes (Start (call.Learn other note)) size number n is = is

-- where a pass has not learnt this note, no pass has
pub is_learnt-set : (locals : List Local) (pass : ℕ) (l new : Local) (other note : ℕ) → slice_get locals pass ≡ Some l → has_learnt new.learnt other note ≡ has_learnt l.learnt other note
    → is_learnt (slice_set locals pass new) other note ≡ is_learnt locals other note
is_learnt-set [] pass l new other note here same = refl
is_learnt-set (first ∷ later) zero l new other note here same =
    let is : first ≡ l = some-same first l here in
    ap (λ (b : Bool). b || is_learnt later other note) (same ∙ ap (λ (k : Local). has_learnt k.learnt other note) (sym is))
is_learnt-set (first ∷ later) (suc pass) l new other note here same =
    ap (λ (b : Bool). has_learnt first.learnt other note || b) (is_learnt-set later pass l new other note here same)

-- a note that was made stays made
pub note-stays : (locals : List Local) (pass : ℕ) (l new : Local) (event : Option Event) (choice : Choice) (other number : ℕ) (log : List Event)
    → slice_get locals pass ≡ Some l → new.log ≡ logged l.log event → new.notes ≡ notes_after l.notes (length l.log) choice
    → HasNote locals other number log → HasNote (slice_set locals pass new) other number log
note-stays locals pass l new event choice other number log here logs notes has = by_pass other pass
    (λ e. let same : has.maker ≡ l = some-same has.maker l (sym has.here ∙ subst (λ (q : ℕ). slice_get locals q ≡ Some l) (sym e) here) in
    let made : slice_get l.notes number ≡ Some (length log) = subst (λ (k : Local). slice_get k.notes number ≡ Some (length log)) same has.made in
    let longer = log-longer l.log event in
    record {
      maker = new;
      here = subst (λ (q : ℕ). slice_get (slice_set locals pass new) q ≡ Some new) (sym e) (get-set_same locals pass l new here);
      made = subst (λ (ns : List ℕ). slice_get ns number ≡ Some (length log)) (sym notes) (notes-longer l.notes choice (length l.log) number (length log) made);
      later = has.later ++ longer.0;
      front = logs ∙ (longer.1 ∙ (ap (λ (k : Local). k.log ++ longer.0) (sym same) ∙ (ap (λ (xs : List Event). xs ++ longer.0) has.front ∙ append_assoc log has.later longer.0)));
    })
    (λ ne. record { maker = has.maker; here = get-set_other locals pass other new ne ∙ has.here; made = has.made; later = has.later; front = has.front })
