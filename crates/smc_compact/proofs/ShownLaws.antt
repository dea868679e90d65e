-- What steps have shown stays shown among more steps; and one slot more.
use Rattle.std.proofs.Common.{◌≡◌, ℕ, ◌+◌, ◌≤◌, ◌<◌, Bool, true, false, Option, Some, None, List, [], ◌∷◌, ◌++◌, length, refl, sym, subst, ap, ◌∙◌, arith}
use Rattle.std.specs.Prelude.{nat_lt, if◌then◌else◌}
use Rattle.std.proofs.lemmas.Bool.Decides.{nat_tests}
use Rattle.std.proofs.lemmas.List.{length-append}
use Rattle.smc_words.specs.declared.number.Number.{Number}
use Rattle.smc_shape.specs.Layout.{Layout, slots_of}
use Rattle.smc_shape.specs.declared.place.Place.{Place}
use Rattle.smc_shape.specs.declared.place.Place.TheVariants as place
use Rattle.smc_core.specs.declared.local.Local.{Local}
use Rattle.smc_core.specs.declared.op.Op.TheVariants.{Load}
use Rattle.smc_core.specs.declared.phase.moves.Count.{Count}
use Rattle.smc_core.specs.declared.phase.moves.CountPhase.TheVariants as walk
use Rattle.smc_core.specs.declared.phase.moves.Counting.TheVariants.{Walks, Counted}
use Rattle.smc_core.specs.declared.word.Word.{Word}
use Rattle.smc_core.specs.Count.{blocks_for, count_next, is_valid, no_count}
use Rattle.smc_core.specs.Section.{epoch_of}
use Rattle.smc_core.specs.Words.{back_of, dir_of}
use Rattle.smc_region.specs.Callers.{Caller}
use Rattle.smc_region.specs.Reached.{Took, TookIn}
use Rattle.smc_region.proofs.TookLaws.{took-here, took-within}
use Rattle.smc_compact.specs.declared.begun.Begun.TheVariants as begun
use Rattle.smc_compact.specs.Counting.{counting_change, going, to_count}
use Rattle.smc_compact.specs.Shown.{AllShown, Counts, CountsFor, CountsSlot, CountsTo, Shows, ShowsIn, ShowsOwner, with_slot, with_slots}

module _ (shape : Layout) (pass first first' last' last : ℕ) (since : first ≤ first') (until : last' ≤ last) where
  loaded-within : (there : Place) (seen : Word) → TookIn shape pass first' last' (Load there) seen → TookIn shape pass first last (Load there) seen
  loaded-within there seen one = took-within shape pass first first' last' last (Load there) seen since until one

  pub owner-within : (slot : ℕ) (owner : Option Number) (has : Bool) → ShowsOwner shape pass first' last' slot owner has → ShowsOwner shape pass first last slot owner has
  owner-within slot None has shows = shows
  owner-within slot (Some number) has shows = (shows.0, loaded-within (place.Entry number.coll number.entry) shows.0 shows.1, shows.2)

  pub in-within : (coll slot : ℕ) (valid has : Bool) → ShowsIn shape pass first' last' coll slot valid has → ShowsIn shape pass first last coll slot valid has
  in-within coll slot false has shows = shows
  in-within coll slot true has shows = (shows.0, loaded-within (place.Back coll slot) shows.0 shows.1, owner-within slot (back_of shows.0) has shows.2)

  pub shows-within : (coll slot : ℕ) (has : Bool) → Shows shape pass first' last' coll slot has → Shows shape pass first last coll slot has
  shows-within coll slot has shows = (shows.0, loaded-within (place.Directory coll slot) shows.0 shows.1, in-within coll slot (is_valid (dir_of shows.0)) has shows.2)

  pub all-within : (coll slot : ℕ) (shown : List Bool) → AllShown shape pass first' last' coll slot shown → AllShown shape pass first last coll slot shown
  all-within coll slot [] all = tt
  all-within coll slot (has ∷ later) all = (shows-within coll slot has all.0, all-within coll (slot + 1) later all.1)

-- one slot more
all-more : (shape : Layout) (pass first last coll slot : ℕ) (shown : List Bool) (has : Bool) → AllShown shape pass first last coll slot shown
    → Shows shape pass first last coll (slot + length shown) has → AllShown shape pass first last coll slot (shown ++ has ∷ [])
all-more shape pass first last coll slot [] has all one =
    let none : slot + 0 ≡ slot = omega arith in (subst (λ (k : ℕ). Shows shape pass first last coll k has) none one, tt)
all-more shape pass first last coll slot (x ∷ later) has all one =
    let next : slot + length {A = Bool} (x ∷ later) ≡ slot + 1 + length later = omega arith in
    (all.0, all-more shape pass first last coll (slot + 1) later has all.1 (subst (λ (k : ℕ). Shows shape pass first last coll k has) next one))

slots-more : (slot : ℕ) (shown : List Bool) (has : Bool) (count : Count) → with_slots slot (shown ++ has ∷ []) count ≡ with_slot (slot + length shown) has (with_slots slot shown count)
slots-more slot [] has count = let none : slot + 0 ≡ slot = omega arith in ap (λ (k : ℕ). with_slot k has count) (sym none)
slots-more slot (x ∷ later) has count =
    let next : slot + 1 + length later ≡ slot + length {A = Bool} (x ∷ later) = omega arith in
    slots-more (slot + 1) later has (with_slot slot x count) ∙ ap (λ (k : ℕ). with_slot k has (with_slots (slot + 1) later (with_slot slot x count))) next

-- a slot more is counted
pub one-counted : (shape shape' : Layout) (pass pass' first middle last coll slot : ℕ) (count now : Count) → shape' ≡ shape → pass' ≡ pass → first ≤ middle → middle ≤ last
    → CountsTo shape pass first middle coll slot count → CountsSlot shape' pass' middle last coll slot count now → CountsTo shape pass first last coll (slot + 1) now
one-counted shape shape' pass pass' first middle last coll slot count now same still since until c (has, one, step) =
    let each = c.each in
    let long : length (c.shown ++ has ∷ []) ≡ length c.shown + 1 = length-append c.shown (has ∷ []) in
    let at : slot ≡ 0 + length c.shown = omega (arith, each) in
    let here : Shows shape pass middle last coll slot has =
    subst (λ (k : Layout). Shows k pass middle last coll slot has) same (subst (λ (k : ℕ). Shows shape' k middle last coll slot has) still one) in
    record {
      shown = c.shown ++ has ∷ [];
      each = omega (arith, long, each);
      all = all-more shape pass first last coll 0 c.shown has (all-within shape pass first first middle last (omega arith) until coll 0 c.shown c.all)
          (subst (λ (k : ℕ). Shows shape pass first last coll k has) at (shows-within shape pass first middle last last since (omega arith) coll slot has here));
      is = step ∙ (ap (λ (k : Count). with_slot slot has k) c.is ∙ (ap (λ (k : ℕ). with_slot k has (with_slots 0 c.shown no_count)) at ∙ sym (slots-more 0 c.shown has no_count)));
    }

-- the first is
pub first-counted : (shape : Layout) (pass first last coll : ℕ) (now : Count) → CountsSlot shape pass first last coll 0 no_count now → CountsTo shape pass first last coll 1 now
first-counted shape pass first last coll now (has, one, step) = record { shown = has ∷ []; each = refl; all = (one, tt); is = step }

-- at first none is
pub none-counted : (shape : Layout) (pass first last coll : ℕ) → CountsTo shape pass first last coll 0 no_count
none-counted shape pass first last coll = record { shown = []; each = refl; all = tt; is = refl }

-- at last each is
pub all-counted : (shape : Layout) (pass first last coll slots objects blocks : ℕ) (count : Count) → slots ≡ slots_of shape coll → objects ≡ count.objects → blocks ≡ count.blocks
    → CountsTo shape pass first last coll slots count → Counts shape pass first last coll objects blocks
all-counted shape pass first last coll slots objects blocks count is of_it in_it c = record {
  shown = c.shown;
  each = c.each ∙ is;
  all = c.all;
  objects_are = of_it ∙ ap (λ (k : Count). k.objects) c.is;
  blocks_are = in_it ∙ ap (λ (k : Count). k.blocks) c.is;
}

-- what a valid slot showed, with its owner
pub slot-shown : (shape shape' : Layout) (pass pass' : ℕ) (old middle : Local) (last coll slot : ℕ) (seen : Word) (has : Bool) → shape' ≡ shape → pass' ≡ pass
    → Took shape pass old (Load (place.Directory coll slot)) seen middle → middle.steps ≤ last → is_valid (dir_of seen) ≡ true
    → ShowsIn shape' pass' middle.steps last coll slot true has → Shows shape pass old.steps last coll slot has
slot-shown shape shape' pass pass' old middle last coll slot seen has same still took until valid one =
    let step : middle.steps ≡ old.steps + 1 = ap (λ (l : Local). l.steps) took.leads in
    let here : ShowsIn shape pass middle.steps last coll slot true has =
    subst (λ (k : Layout). ShowsIn k pass middle.steps last coll slot true has) same (subst (λ (k : ℕ). ShowsIn shape' k middle.steps last coll slot true has) still one) in (
      seen,
      took-here shape pass last old middle (Load (place.Directory coll slot)) seen took until,
      subst (λ (b : Bool). ShowsIn shape pass old.steps last coll slot b has) (sym valid)
          (in-within shape pass old.steps middle.steps last last (omega (arith, step)) (omega arith) coll slot true has here),
    )

-- what a part of a begin counted
pub counts-for : (old new : Caller) (shape' : Layout) (pass' first last coll objects blocks : ℕ) → shape' ≡ old.shape → pass' ≡ old.number → old.local.steps ≤ first → last ≤ new.local.steps
    → Counts shape' pass' first last coll objects blocks → blocks ≤ blocks_for objects → CountsFor old new coll begun.Nothing
counts-for old new shape' pass' first last coll objects blocks same still since until c few =
    let here : Counts old.shape old.number first last coll objects blocks =
    subst (λ (k : Layout). Counts k old.number first last coll objects blocks) same (subst (λ (k : ℕ). Counts shape' k first last coll objects blocks) still c) in (
      objects,
      blocks,
      record {
        shown = here.shown;
        each = here.each;
        all = all-within old.shape old.number old.local.steps first last new.local.steps since until coll 0 here.shown here.all;
        objects_are = here.objects_are;
        blocks_are = here.blocks_are;
      },
      few,
    )

-- a count goes on behind a slot
pub walk-on : (begins : Bool) (shape shape' : Layout) (l t n : Local) (coll slot : ℕ) (count now : Count) → shape' ≡ shape → slot < slots_of shape coll
    → t ≡ going l t.steps (counting_change begins shape (epoch_of l.stand.section) (to_count shape coll slot count))
    → n ≡ going t n.steps (counting_change begins shape' (epoch_of t.stand.section) (count_next shape' coll slot now))
    → n ≡ going l n.steps (counting_change begins shape (epoch_of l.stand.section) (to_count shape coll (slot + 1) now))
walk-on begins shape shape' l t n coll slot count now same within so_far step =
    go begins (so_far ∙ ap (λ (b : Bool). going l t.steps (counting_change begins shape (epoch_of l.stand.section) (if b then Walks (walk.Directory coll slot count) else Counted coll count))) more)
    (step ∙ ap (λ (k : Layout). going t n.steps (counting_change begins k (epoch_of t.stand.section) (count_next k coll slot now))) same)
  where
    more : nat_lt slot (slots_of shape coll) ≡ true
    more = grind (arith, nat_tests)

    go : (b : Bool) → t ≡ going l t.steps (counting_change b shape (epoch_of l.stand.section) (Walks (walk.Directory coll slot count)))
        → n ≡ going t n.steps (counting_change b shape (epoch_of t.stand.section) (count_next shape coll slot now))
        → n ≡ going l n.steps (counting_change b shape (epoch_of l.stand.section) (to_count shape coll (slot + 1) now))
    go true found on = on ∙ ap (λ (k : Local). going k n.steps (counting_change true shape (epoch_of k.stand.section) (count_next shape coll slot now))) found
    go false found on = on ∙ ap (λ (k : Local). going k n.steps (counting_change false shape (epoch_of k.stand.section) (count_next shape coll slot now))) found
