-- Each step of the machine keeps the rule of the table.
use Rattle.std.proofs.Common.{◌≡◌, ◌≢◌, ℕ, true, Some, List, [], ◌∷◌, refl, sym, ap, ◌∙◌, subst, ⊎_elim}
use Rattle.std.specs.Prelude.{Bool, Option, None, slice_get, slice_set, slice_index, if◌then◌else◌}
use Rattle.std.specs.List.{AllByRecursion}
use mathlib.Core.Option.{some}
use lib.ListN.{get_elem?}
use Rattle.atomic_table.specs.Table.{State, Me, keeps, Allows}
use Rattle.atomic_table.proofs.Lists.{at_set}
use Rattle.smc_shape.specs.Layout.{Layout}
use Rattle.smc_shape.specs.Places.{InRange, at}
use Rattle.smc_shape.specs.declared.place.Place.{Place}
use Rattle.smc_model.specs.World.{empty_world}
use Rattle.smc_core.specs.declared.call.Choice.{Choice}
use Rattle.smc_core.specs.declared.kind.Kind.{Kind}
use Rattle.smc_core.specs.declared.local.Learnt.{Learnt}
use Rattle.smc_core.specs.declared.local.Local.{Local}
use Rattle.smc_core.specs.declared.local.Opening.{Opening}
use Rattle.smc_core.specs.declared.op.Offer.{Offer}
use Rattle.smc_core.specs.declared.op.Op.{Op}
use Rattle.smc_core.specs.declared.op.Op.TheVariants.{Load, Store, Exchange, MarkGone}
use Rattle.smc_core.specs.declared.word.Word.{Word}
use Rattle.smc_core.specs.Change.{change}
use Rattle.smc_core.specs.Local.{after}
use Rattle.smc_core.specs.Machine.{Machine, Steps, has_learnt, local_offer, stepped}
use Rattle.smc_core.specs.Row.{OpFits, place_of, has_place, number_at, put, shown, row_after, row_shows}
use Rattle.smc_rules.proofs.PlaceLaws.{in_range-has}
use Rattle.smc_inv_range.proofs.ReachLaws.{offered_fits}
use Rattle.smc_region.specs.declared.law.NoteSeen.{NoteSeen}
use Rattle.smc_region.specs.declared.law.View.{View}
use Rattle.smc_region.specs.Reached.{IsReached, From, RestsOn, Saw, Showed, StandsIn, answered_number}
use Rattle.smc_region.specs.Rule.{Kept, Fits, HoldsLocal, HoldsNote, IsOwn}
use Rattle.smc_region.specs.Views.{IsAlone, one, view_after, op_of, sole_op, view_op}
use Rattle.smc_region.proofs.StepLaws.{get-set_same, get-set_other, own-told, own-learnt, history-then, is_learnt-set, note-stays, reached_by, was}

-- the place of an operation that fits is one of the region
pub fits_place : (shape : Layout) (op : Op) → OpFits shape op → InRange shape (place_of op)
fits_place shape (Load there) f = f
fits_place shape (Store there w) f = f.0
fits_place shape (Exchange there e w) f = f.0
fits_place shape (MarkGone coll entry) f = f

module _ (shape : Layout) (locals : List Local) (pass : ℕ) (new : Local) where
  -- what other seats know of passes stays so
  pub others : (owner : ℕ → ℕ) (seat : ℕ) (told : Layout) (xs : List (ℕ × Local)) → owner pass ≢ seat
      → AllByRecursion (HoldsLocal shape locals owner seat told) xs → AllByRecursion (HoldsLocal shape (slice_set locals pass new) owner seat told) xs
  others owner seat told [] away h = tt
  others owner seat told (x ∷ xs) away (h, hs) = let ne : x.0 ≢ pass = λ e. away (ap owner (sym e) ∙ h.1) in
      ((h.0, h.1, get-set_other locals pass x.0 new ne ∙ h.2), others owner seat told xs away hs)

-- what seats know of notes stays so after a step that learns none
pub notes : (shape : Layout) (locals : List Local) (pass : ℕ) (l : Local) (choice : Choice) (told : ℕ) (w : Word) (noter : ℕ → ℕ → ℕ) (seat : ℕ) (ns : List NoteSeen)
    → slice_get locals pass ≡ Some l → IsOwn choice
    → AllByRecursion (HoldsNote locals noter seat) ns → AllByRecursion (HoldsNote (slice_set locals pass (after shape pass l choice told w)) noter seat) ns
notes shape locals pass l choice told w noter seat [] here own h = tt
notes shape locals pass l choice told w noter seat (n ∷ ns) here own (h, hs) = let new : Local = after shape pass l choice told w in (
  record {
    owned = h.owned;
    has = note-stays locals pass l new (change shape pass l.stand l.stand.section l.stand.phase choice told w).event choice n.pass n.number n.log here refl refl h.has;
    unlearnt = is_learnt-set locals pass l new n.pass n.number here (ap (λ (xs : List Learnt). has_learnt xs n.pass n.number) (own-learnt l.learnt choice own)) ∙ h.unlearnt;
  },
  notes shape locals pass l choice told w noter seat ns here own hs,
)

abbrev pub Rule : Layout → Opening → State (Unit {0}) View → Type 0
Rule shape opening s = Kept shape opening s.words s.views

-- what a step of this choice and operation tells the seat that takes it, which finds this number
abbrev pub Then : Choice → Op → Me (Unit {0}) View → ℕ → Me (Unit {0}) View → Type 0
Then choice op me found me' = (me' ≡ (view_after choice 0 (shown op found) me.0, me.1)) × Showed me.0 op (answered_number op found) × From me'.0

-- the row after an operation on a place that the region has, and what it shows
pub row-there : (shape : Layout) (op : Op) (row : List ℕ) → has_place shape (place_of op) ≡ true
    → row_after shape op row ≡ slice_set row (at shape (place_of op)) (put op (slice_index row (at shape (place_of op))))
row-there shape op row has = ap (λ (b : Bool). if b then slice_set row (at shape (place_of op)) (put op (slice_index row (at shape (place_of op)))) else row) has

number-there : (shape : Layout) (there : Place) (row : List ℕ) → has_place shape there ≡ true → number_at shape row there ≡ slice_index row (at shape there)
number-there shape there row has = ap (λ (b : Bool). if b then slice_index row (at shape there) else 0) has

shows-there : (shape : Layout) (op : Op) (row : List ℕ) → has_place shape (place_of op) ≡ true
    → row_shows shape op row ≡ shown op (slice_index row (at shape (place_of op)))
shows-there shape op row has = ap (λ (b : Bool). shown op (if b then slice_index row (at shape (place_of op)) else 0)) has

-- The step that a pass offers for a choice of its own keeps the rule, whatever its operation is
pub acts : (shape : Layout) (opening : Opening) (slots seat : ℕ) (told : Layout) (pass : ℕ) (l : Local) (choice : Choice) (o : Offer) → IsOwn choice → local_offer told pass l choice ≡ Some o
    → Allows (Rule shape opening) slots seat (one told pass l, []) (at told (place_of o.op)) (put o.op) (Then choice o.op (one told pass l, []))
acts shape opening slots seat told pass l choice o own offers s kept _ at_seat small =
    let mine : Fits shape kept.locals kept.owner kept.noter seat (one told pass l) = kept.fits seat (one told pass l) at_seat in
    let same : told ≡ shape = mine.passes.0.0 in
    let owned : kept.owner pass ≡ seat = mine.passes.0.1 in
    let here : slice_get kept.locals pass ≡ Some l = mine.passes.0.2 in
    let reached : IsReached told opening s.words kept.locals = subst (λ (t : Layout). IsReached t opening s.words kept.locals) (sym same) kept.reached in
    let has : has_place told (place_of o.op) ≡ true = in_range-has told (place_of o.op) (fits_place told o.op
    (offered_fits told opening empty_world (record { row = s.words; locals = kept.locals }) pass l choice o reached.valid (was reached) here offers)) in
    let m : Machine = record { row = s.words; locals = kept.locals } in
    let w : Word = row_shows told o.op s.words in
    let l' : Local = after told pass l choice 0 w in
    let next : Machine = stepped told m pass l choice 0 o.op in
    let step : Steps told m pass choice next = record { local = l; offered = o; told = 0; here = here; offers = offers; allows = own-told kept.locals pass choice own; leads = refl } in
    let led : IsReached told opening (row_after told o.op s.words) (slice_set kept.locals pass l') =
    reached_by told opening next reached.valid (history-then told opening empty_world m next pass choice (was reached) step) in
    let now : slice_get (slice_set kept.locals pass l') pass ≡ Some l' = get-set_same kept.locals pass l l' here in
    let from : From (one told pass l) = record { opening = opening; machine = m; reached = reached; stands = (here, tt) } in
    let there : From (one told pass l') = record { opening = opening; machine = next; reached = led; stands = (now, tt) } in
    let shows : w ≡ shown o.op (slice_index s.words (at told (place_of o.op))) = shows-there told o.op s.words has in
    let view : View = one told pass l' in
    let now_me : Me (Unit {0}) View = (view, []) in (
      view,
      keeps,
      tt,
      record {
        locals = slice_set kept.locals pass l';
        owner = kept.owner;
        noter = kept.noter;
        reached = subst (λ (ws : List ℕ). IsReached shape opening ws (slice_set kept.locals pass l')) (row-there told o.op s.words has)
            (subst (λ (t : Layout). IsReached t opening (row_after told o.op s.words) (slice_set kept.locals pass l')) same led);
        fits = λ j v is. ⊎_elim
            (λ (h : (j ≡ seat) × (view ≡ v)).
            subst (λ (u : View). Fits shape (slice_set kept.locals pass l') kept.owner kept.noter j u) h.1 record { passes = ((same, owned ∙ sym h.0, now), tt); notes = tt })
            (λ (h : (j ≢ seat) × (get_elem? s.views j ≡ some v)). let f = kept.fits j v h.1 in
            record {
              passes = others shape kept.locals pass l' kept.owner j v.shape v.locals (λ e. h.0 (sym e ∙ owned)) f.passes;
              notes = notes told kept.locals pass l choice 0 w kept.noter j v.notes here own f.notes;
            })
            (at_set s.views seat j view v is);
      },
      (
        subst (λ (seen : Word). now_me ≡ (one told pass (after told pass l choice 0 seen), [])) shows refl,
        record { from = from; is = ap (answered_number o.op) (sym (number-there told (place_of o.op) s.words has)) },
        there,
      ),
    )

-- an operation that is offered comes with an offer
pub op_of-some : (o : Option Offer) (op : Op) → op_of o ≡ Some op → (k : Kind) × (o ≡ Some record { kind = k; op = op })
op_of-some None op e = cc
op_of-some (Some o) op e = let same : o.op ≡ op = cc in (o.kind, λ i. Some record { kind = o.kind; op = same i })

-- nothing is no operation
none_op : (op : Op) → None ≡ Some op → ⊥
none_op op e = cc

-- the same at a view of one pass
view_acts : (shape : Layout) (opening : Opening) (slots seat : ℕ) (told : Layout) (xs : List (ℕ × Local)) (choice : Choice) (op : Op) → IsOwn choice → sole_op told xs choice ≡ Some op
    → Allows (Rule shape opening) slots seat (record { shape = told; locals = xs; notes = [] }, []) (at told (place_of op)) (put op) (Then choice op (record { shape = told; locals = xs; notes = [] }, []))
view_acts shape opening slots seat told [] choice op own e = absurd (none_op op e)
view_acts shape opening slots seat told (x ∷ y ∷ ys) choice op own e = absurd (none_op op e)
view_acts shape opening slots seat told ((pass, l) ∷ []) choice op own e = let o = op_of-some (local_offer told pass l choice) op e in
    acts shape opening slots seat told pass l choice record { kind = o.0; op = op } own o.1

-- the same at a seat
pub seat_acts : (shape : Layout) (opening : Opening) (slots seat : ℕ) (me : Me (Unit {0}) View) (choice : Choice) (op : Op) → IsOwn choice → IsAlone me → view_op me.0 choice ≡ Some op
    → Allows (Rule shape opening) slots seat me (at me.0.shape (place_of op)) (put op) (Then choice op me)
seat_acts shape opening slots seat me choice op own alone is =
    let A : List NoteSeen × List (ℕ × Unit {0}) → Type 0 = λ z. let m : Me (Unit {0}) View = (record { shape = me.0.shape; locals = me.0.locals; notes = z.0 }, z.1) in
    Allows (Rule shape opening) slots seat m (at me.0.shape (place_of op)) (put op) (Then choice op m) in
    subst A (λ i. (sym alone.0 i, sym alone.1 i)) (view_acts shape opening slots seat me.0.shape me.0.locals choice op own is)

-- what a seat offers fits the row: some state that is reached has its local state
pub seat_fits : (view : View) (choice : Choice) (op : Op) → From view → view_op view choice ≡ Some op → OpFits view.shape op
seat_fits view choice op from is = go view.locals from.stands is
  where
    go : (xs : List (ℕ × Local)) → AllByRecursion (StandsIn from.machine.locals) xs → sole_op view.shape xs choice ≡ Some op → OpFits view.shape op
    go [] h e = cc
    go (x ∷ y ∷ ys) h e = cc
    go (x ∷ []) h e = let o = op_of-some (local_offer view.shape x.0 x.1 choice) op e in let r = from.reached in
        offered_fits view.shape from.opening empty_world from.machine x.0 x.1 choice record { kind = o.0; op = op } r.valid (was r) h.0 o.1

-- so does what a step rests on
pub rests_fits : (view : View) (choice : Choice) (op : Op) → RestsOn view op → view_op view choice ≡ Some op → OpFits view.shape op
rests_fits view choice op rests is = ⊎_elim
    (λ from. seat_fits view choice op from is)
    (λ e. subst (λ (o : Op). OpFits view.shape o) (sym e) tt)
    rests

-- what an operation shows does not ask what a store found
shown-answered : (op : Op) (number : ℕ) → shown op (answered_number op number) ≡ shown op number
shown-answered (Load there) number = refl
shown-answered (Store there w) number = refl
shown-answered (Exchange there expect w) number = refl
shown-answered (MarkGone coll entry) number = refl

-- a step that was answered this number saw its word
pub saw-showed : (view : View) (op : Op) (number : ℕ) (w : Word) → w ≡ shown op number → Showed view op (answered_number op number) → Saw view op w
saw-showed view op number w is s = record {
  from = s.from;
  is = is ∙ (sym (shown-answered op number) ∙ (ap (shown op) s.is ∙ shown-answered op (number_at view.shape s.from.machine.row (place_of op))));
}
