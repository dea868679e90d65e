-- A note is made, and learnt.
use Rattle.std.proofs.Common.{◌≡◌, ◌≢◌, ℕ, ◌<◌, Bool, true, false, List, [], ◌∷◌, length, set, refl, sym, ap, ◌∙◌, subst, ⊎_elim, arith, eq-eqb, ne_eqb}
use Rattle.std.specs.Prelude.{Some, slice_get, slice_set, option_and_then, if◌then◌else◌, ◌==◌, ◌&&◌}
use Rattle.std.specs.List.{AllByRecursion}
use Rattle.std.proofs.lemmas.List.{append-nil, set-get_or}
use Rattle.std.proofs.lemmas.Option.{slice_get_within}
use mathlib.Core.Option.{some}
use lib.ListN.{get_elem?}
use Rattle.atomic_table.specs.Seated.{TableId}
use Rattle.atomic_table.specs.Table.{Me, Splits, Joins}
use Rattle.atomic_table.proofs.Lists.{at_set, set_else}
use Rattle.smc_shape.specs.Layout.{Layout}
use Rattle.smc_shape.specs.Places.{at}
use Rattle.smc_shape.specs.declared.place.Place.TheVariants as place
use Rattle.smc_model.specs.declared.event.Event.{Event}
use Rattle.smc_model.specs.World.{empty_world}
use Rattle.smc_core.specs.declared.call.Call.TheVariants as call
use Rattle.smc_core.specs.declared.call.Choice.{Choice}
use Rattle.smc_core.specs.declared.call.Choice.TheVariants.{Start}
use Rattle.smc_core.specs.declared.kind.Kind.TheVariants as kind
use Rattle.smc_core.specs.declared.local.Local.{Local}
use Rattle.smc_core.specs.declared.local.Opening.{Opening}
use Rattle.smc_core.specs.declared.op.Op.TheVariants.{Load}
use Rattle.smc_core.specs.declared.word.Word.{Word}
use Rattle.smc_core.specs.declared.word.Word.TheVariants.{Plain}
use Rattle.smc_core.specs.Change.{change}
use Rattle.smc_core.specs.Local.{after}
use Rattle.smc_core.specs.Machine.{Machine, Steps, is_learnt, local_offer, stepped, told_by}
use Rattle.smc_core.specs.Row.{row_shows}
use Rattle.smc_core.specs.Step.{step}
use Rattle.smc_rules.proofs.CarryLaws.{by_pass}
use Rattle.smc_region.specs.declared.law.NoteSeen.{NoteSeen}
use Rattle.smc_region.specs.declared.law.View.{View}
use Rattle.smc_region.specs.Callers.{Caller, IsOutside}
use Rattle.smc_region.specs.Notes.{Noted, IsNoteSeat, noted_of}
use Rattle.smc_region.specs.Reached.{IsReached}
use Rattle.smc_region.specs.Rule.{Fits, HasNote, HoldsNote}
use Rattle.smc_region.specs.Views.{learning, note_of, noted, noting, one, spent}
use Rattle.smc_region.proofs.Deals.{at_snoc_where}
use Rattle.smc_region.proofs.Closes.{get-here}
use Rattle.smc_region.proofs.Keeps.{Rule, notes, others, row-there}
use Rattle.smc_region.proofs.NoteLaws.{has_learnt-else, were_made}
use Rattle.smc_region.proofs.StepLaws.{get-set_same, is_learnt-set, note-stays, history-then, reached_by, was, some-same}

-- a step that loads the epoch leaves the words as they are
load_reached : (shape : Layout) (opening : Opening) (row : List ℕ) (locals : List Local) (pass : ℕ) (l : Local) (choice : Choice) (told : ℕ)
    → IsReached shape opening row locals → slice_get locals pass ≡ Some l → local_offer shape pass l choice ≡ Some (step kind.LoadEpoch (Load place.Epoch)) → told_by locals pass choice ≡ Some told
    → IsReached shape opening row (slice_set locals pass (after shape pass l choice told (row_shows shape (Load place.Epoch) row)))
load_reached shape opening row locals pass l choice told r here offers allows =
    let m : Machine = record { row = row; locals = locals } in
    let next : Machine = stepped shape m pass l choice told (Load place.Epoch) in
    let step : Steps shape m pass choice next = record { local = l; offered = step kind.LoadEpoch (Load place.Epoch); told = told; here = here; offers = offers; allows = allows; leads = refl } in
    subst (λ (ws : List ℕ). IsReached shape opening ws next.locals) (row-there shape (Load place.Epoch) row refl ∙ set-get_or row (at shape place.Epoch) 0)
    (reached_by shape opening next r.valid (history-then shape opening empty_world m next pass choice (was r) step))

-- what is offered outside a section
note_offers : (shape : Layout) (pass : ℕ) (l : Local) → IsOutside l → local_offer shape pass l (Start call.Note) ≡ Some (step kind.LoadEpoch (Load place.Epoch))
note_offers shape pass l out = rw (out.phase, out.section) refl

learn_offers : (shape : Layout) (pass : ℕ) (l : Local) (other number : ℕ) → IsOutside l → local_offer shape pass l (Start (call.Learn other number)) ≡ Some (step kind.LoadEpoch (Load place.Epoch))
learn_offers shape pass l other number out = rw (out.phase, out.section) refl

-- the note with this number of this pass goes to a new seat
abbrev gives : (ℕ → ℕ → ℕ) → ℕ → ℕ → ℕ → ℕ → ℕ → ℕ
gives noter pass number new other k = if other == pass && k == number then new else noter other k

gives-here : (noter : ℕ → ℕ → ℕ) (pass number new : ℕ) → gives noter pass number new pass number ≡ new
gives-here noter pass number new = rw (eq-eqb pass pass refl, eq-eqb number number refl) refl

gives-else : (noter : ℕ → ℕ → ℕ) (pass number new other k : ℕ) → (other ≡ pass → k ≢ number) → gives noter pass number new other k ≡ noter other k
gives-else noter pass number new other k apart = by_pass other pass
    (λ e. rw (eq-eqb other pass e, ne_eqb k number (apart e)) refl)
    (λ ne. rw (ne_eqb other pass ne) refl)

module _ (locals : List Local) (pass : ℕ) (l : Local) (here : slice_get locals pass ≡ Some l) where
  -- a note that was made is not the next one
  made-before : (other number : ℕ) (log : List Event) → HasNote locals other number log → other ≡ pass → number ≢ length l.notes
  made-before other number log has e f =
      let same : has.maker ≡ l = some-same has.maker l (sym has.here ∙ subst (λ (q : ℕ). slice_get locals q ≡ Some l) (sym e) here) in
      let within = slice_get_within l.notes number (length log) (subst (λ (k : Local). slice_get k.notes number ≡ Some (length log)) same has.made) in omega (arith, within, f)

  -- nobody has learnt the next one
  unlearnt-next : (shape : Layout) (opening : Opening) (row : List ℕ) → IsReached shape opening row locals → is_learnt locals pass (length l.notes) ≡ false
  unlearnt-next shape opening row r = go (is_learnt locals pass (length l.notes)) refl
    where
      go : (t : Bool) → is_learnt locals pass (length l.notes) ≡ t → t ≡ false
      go false e = refl
      go true e = let was = were_made shape (was r).start row locals ((was r).steps, (was r).leads) pass (length l.notes) e in
          let got : slice_get l.notes (length l.notes) ≡ Some was.0 = sym (ap (option_and_then (λ (k : Local). slice_get k.notes (length l.notes))) here) ∙ was.1 in
          let within = slice_get_within l.notes (length l.notes) was.0 got in absurd (omega (arith, within))

  -- seats that have other notes keep them when it goes to a seat of its own
  notes_given : (noter : ℕ → ℕ → ℕ) (new seat : ℕ) (ns : List NoteSeen) → AllByRecursion (HoldsNote locals noter seat) ns → AllByRecursion (HoldsNote locals (gives noter pass (length l.notes) new) seat) ns
  notes_given noter new seat [] h = tt
  notes_given noter new seat (n ∷ ns) (h, hs) = (
    record { owned = gives-else noter pass (length l.notes) new n.pass n.number (made-before n.pass n.number n.log h.has) ∙ h.owned; has = h.has; unlearnt = h.unlearnt },
    notes_given noter new seat ns hs,
  )

  -- and when the pass learns a note that another seat has
  notes_learnt : (shape : Layout) (noter : ℕ → ℕ → ℕ) (by other number told seat : ℕ) (w : Word) (ns : List NoteSeen) → noter other number ≡ by → seat ≢ by → AllByRecursion (HoldsNote locals noter seat) ns
      → AllByRecursion (HoldsNote (slice_set locals pass (after shape pass l (Start (call.Learn other number)) told w)) noter seat) ns
  notes_learnt shape noter by other number told seat w [] taken away h = tt
  notes_learnt shape noter by other number told seat w (n ∷ ns) taken away (h, hs) =
      let choice : Choice = Start (call.Learn other number) in
      let new : Local = after shape pass l choice told w in (
        record {
          owned = h.owned;
          has = note-stays locals pass l new (change shape pass l.stand l.stand.section l.stand.phase choice told w).event choice n.pass n.number n.log here refl refl h.has;
          unlearnt = is_learnt-set locals pass l new n.pass n.number here
              (has_learnt-else l.learnt other number n.pass n.number (λ e f. away (sym h.owned ∙ ((λ i. noter (sym e i) (sym f i)) ∙ taken)))) ∙ h.unlearnt;
        },
        notes_learnt shape noter by other number told seat w ns taken away hs,
      )

-- a note may be learnt by another pass, where it was made and nobody has learnt it
told_it : (locals : List Local) (pass other number : ℕ) (log : List Event) → other ≢ pass → HasNote locals other number log → is_learnt locals other number ≡ false
    → told_by locals pass (Start (call.Learn other number)) ≡ Some (length log)
told_it locals pass other number log away has un = rw (ne_eqb other pass away, un) (ap (option_and_then (λ (k : Local). slice_get k.notes number)) has.here ∙ has.made)

-- a pass makes a note, which goes to a seat of its own
pub note_splits : (shape : Layout) (opening : Opening) (seat : ℕ) (told : Layout) (pass : ℕ) (l : Local) → IsOutside l
    → Splits (Rule shape opening) seat (one told pass l) (noting (one told pass l)) (note_of (one told pass l))
note_splits shape opening seat told pass l out s kept at_seat =
    let mine : Fits shape kept.locals kept.owner kept.noter seat (one told pass l) = kept.fits seat (one told pass l) at_seat in
    let same : told ≡ shape = mine.passes.0.0 in
    let owned : kept.owner pass ≡ seat = mine.passes.0.1 in
    let here : slice_get kept.locals pass ≡ Some l = mine.passes.0.2 in
    let k : ℕ = length l.notes in
    let l' : Local = after told pass l (Start call.Note) 0 (Plain 0) in
    let locals' : List Local = slice_set kept.locals pass l' in
    let w : View = one told pass l' in
    let v : View = noted told pass k l.log in
    let new : ℕ = length (set s.views seat w) in
    let noter' : ℕ → ℕ → ℕ = gives kept.noter pass k new in
    let there : slice_get locals' pass ≡ Some l' = get-set_same kept.locals pass l l' here in
    record {
      locals = locals';
      owner = kept.owner;
      noter = noter';
      reached = subst (λ (t : Layout). IsReached shape opening s.words (slice_set kept.locals pass (after t pass l (Start call.Note) 0 (Plain 0)))) (sym same)
          (load_reached shape opening s.words kept.locals pass l (Start call.Note) 0 kept.reached here (note_offers shape pass l out) refl);
      fits = λ j u is. ⊎_elim
          (λ (h : (j ≡ new) × (v ≡ u)). subst (λ (x : View). Fits shape locals' kept.owner noter' j x) h.1
          record {
            passes = tt;
            notes = (
              record {
                owned = gives-here kept.noter pass k new ∙ sym h.0;
                has = record { maker = l'; here = there; made = get-here l.notes [] (length l.log); later = []; front = sym (append-nil l.log) };
                unlearnt = is_learnt-set kept.locals pass l l' pass k here refl ∙ unlearnt-next kept.locals pass l here shape opening s.words kept.reached;
              },
              tt,
            );
          })
          (λ (h : (j < new) × (get_elem? (set s.views seat w) j ≡ some u)). ⊎_elim
          (λ (g : (j ≡ seat) × (w ≡ u)). subst (λ (x : View). Fits shape locals' kept.owner noter' j x) g.1 record { passes = ((same, owned ∙ sym g.0, there), tt); notes = tt })
          (λ (g : (j ≢ seat) × (get_elem? s.views j ≡ some u)). let f = kept.fits j u g.1 in
          record {
            passes = others shape kept.locals pass l' kept.owner j u.shape u.locals (λ e. g.0 (sym e ∙ owned)) f.passes;
            notes = notes told kept.locals pass l (Start call.Note) 0 (Plain 0) noter' j u.notes here tt (notes_given kept.locals pass l here kept.noter new j u.notes f.notes);
          })
          (at_set s.views seat j w u h.1))
          (at_snoc_where (set s.views seat w) v j u is);
    }

-- another pass learns it
pub learn_joins : (shape : Layout) (opening : Opening) (seat : ℕ) (told : Layout) (pass : ℕ) (l : Local) (by : ℕ) (told' : Layout) (other number : ℕ) (log : List Event) → IsOutside l → other ≢ pass
    → Joins (Rule shape opening) seat (one told pass l) by (noted told' other number log) (learning (one told pass l) (noted told' other number log)) spent
learn_joins shape opening seat told pass l by told' other number log out away s kept at_seat apart at_note =
    let choice : Choice = Start (call.Learn other number) in
    let l' : Local = after told pass l choice (length log) (Plain 0) in
    let w : View = one told pass l' in
    let v : View = noted told' other number log in
    let mine : Fits shape kept.locals kept.owner kept.noter seat (one told pass l) = kept.fits seat (one told pass l) at_seat in
    let theirs : Fits shape kept.locals kept.owner kept.noter by v = kept.fits by v (sym (set_else s.views seat by w apart) ∙ at_note) in
    let it = theirs.notes.0 in
    let same : told ≡ shape = mine.passes.0.0 in
    let owned : kept.owner pass ≡ seat = mine.passes.0.1 in
    let here : slice_get kept.locals pass ≡ Some l = mine.passes.0.2 in
    let locals' : List Local = slice_set kept.locals pass l' in
    let there : slice_get locals' pass ≡ Some l' = get-set_same kept.locals pass l l' here in
    record {
      locals = locals';
      owner = kept.owner;
      noter = kept.noter;
      reached = subst (λ (t : Layout). IsReached shape opening s.words (slice_set kept.locals pass (after t pass l choice (length log) (Plain 0)))) (sym same)
          (load_reached shape opening s.words kept.locals pass l choice (length log) kept.reached here (learn_offers shape pass l other number out) (told_it kept.locals pass other number log away it.has it.unlearnt));
      fits = λ j u is. ⊎_elim
          (λ (h : (j ≡ by) × (spent ≡ u)). subst (λ (x : View). Fits shape locals' kept.owner kept.noter j x) h.1 record { passes = tt; notes = tt })
          (λ (h : (j ≢ by) × (get_elem? (set s.views seat w) j ≡ some u)). ⊎_elim
          (λ (g : (j ≡ seat) × (w ≡ u)). subst (λ (x : View). Fits shape locals' kept.owner kept.noter j x) g.1 record { passes = ((same, owned ∙ sym g.0, there), tt); notes = tt })
          (λ (g : (j ≢ seat) × (get_elem? s.views j ≡ some u)). let f = kept.fits j u g.1 in
          record {
            passes = others shape kept.locals pass l' kept.owner j u.shape u.locals (λ e. g.0 (sym e ∙ owned)) f.passes;
            notes = notes_learnt kept.locals pass l here told kept.noter by other number (length log) j (Plain 0) u.notes it.owned h.0 f.notes;
          })
          (at_set s.views seat j w u h.1))
          (at_set (set s.views seat w) by j spent u is);
    }

-- the same at seats that are known by what contracts see of them
pub seat_notes : (shape : Layout) (opening : Opening) (seat : ℕ) (v : Caller) (me : Me (Unit {0}) View) → me ≡ (one v.shape v.number v.local, []) → IsOutside v.local
    → Splits (Rule shape opening) seat me.0 (noting me.0) (note_of me.0)
seat_notes shape opening seat v me is out = subst (λ (x : View). Splits (Rule shape opening) seat x (noting x) (note_of x)) (λ i. (sym is i).0) (note_splits shape opening seat v.shape v.number v.local out)

pub seat_learns : (shape : Layout) (opening : Opening) (seat : ℕ) (v : Caller) (me : Me (Unit {0}) View) (by : ℕ) (n : Noted) (it : Me (Unit {0}) View)
    → me ≡ (one v.shape v.number v.local, []) → it ≡ (noted it.0.shape n.pass n.number n.log, []) → IsOutside v.local → n.pass ≢ v.number
    → Joins (Rule shape opening) seat me.0 by it.0 (learning me.0 it.0) spent
seat_learns shape opening seat v me by n it is is' out away =
    subst (λ (x : View). Joins (Rule shape opening) seat me.0 by x (learning me.0 x) spent) (λ i. (sym is' i).0)
    (subst (λ (x : View). Joins (Rule shape opening) seat x by (noted it.0.shape n.pass n.number n.log) (learning x (noted it.0.shape n.pass n.number n.log)) spent) (λ i. (sym is i).0)
    (learn_joins shape opening seat v.shape v.number v.local by it.0.shape n.pass n.number n.log out away))

-- the seat of a note that is known so
pub note_seat : (pass : ℕ) (table : TableId) (me : Me (Unit {0}) View) (n : Noted) → noted_of pass table me ≡ n → IsNoteSeat pass me → me ≡ (noted me.0.shape n.pass n.number n.log, [])
note_seat pass table me n is seat = seat ∙ (λ i. (noted me.0.shape (is i).pass (is i).number (is i).log, []))
