-- The ranges hold in every state that steps lead to.
use Rattle.std.proofs.Common.{◌≡◌, ℕ, ◌<◌, Some, List, None, refl, sym, ap, ◌∙◌, subst, arith}
use Rattle.std.proofs.lemmas.List.Elements.{All-nil}
use Rattle.std.proofs.lemmas.Option.{slice_get_within}
use Rattle.smc_shape.specs.Layout.{Layout, IsShape, entries_of, slots_of}
use Rattle.smc_core.specs.declared.local.Opening.{Opening}
use Rattle.smc_core.specs.declared.local.Stand.{Stand}
use Rattle.smc_core.specs.Machine.{Machine, IsOpening, started}
use Rattle.smc_model.specs.World.{World}
use Rattle.smc_rules.specs.History.{History, HoldsAlways, StandsBehind, history_state, history_world}
use Rattle.smc_rules.specs.Memory.{Memory}
use Rattle.smc_rules.specs.Reads.{back_in}
use Rattle.smc_rules.specs.Start.{IsAtStart, IsStart, StandsThere, StartsEntry, memory_behind, starting, state_behind}
use Rattle.smc_words.specs.declared.number.Number.{Number}
use Rattle.smc_shape.specs.Places.{InRange}
use Rattle.smc_shape.specs.declared.place.Place.{Place}
use Rattle.smc_shape.specs.declared.place.Place.TheVariants as place
use Rattle.smc_core.specs.declared.word.State as E
use Rattle.smc_core.specs.declared.word.State.TheVariants as state
use Rattle.smc_core.specs.declared.word.Word.{Word}
use Rattle.smc_core.specs.declared.word.Word.TheVariants as word
use Rattle.smc_core.specs.Row.{Suits}
use Rattle.smc_core.specs.Words.{back_of, forward_of, state_of}
use Rattle.smc_inv_range.specs.Ranges.{InState, InWord, IsNumberOf}
use Rattle.smc_rules.specs.Mirror.{anywhere}
use Rattle.smc_rules.specs.State.{IsKept, stand_offer}
use Rattle.smc_inv_range.specs.Laws.{InRanges, OffersFit}
use Rattle.smc_rules.proofs.HistoryLaws.{HoldsOf, at_first, backs_first, holds_then}
use Rattle.smc_inv_range.specs.Calls.{IsHeldWithin, Ranges}
use Rattle.smc_inv_range.proofs.StepLaws.{fits, kept}

-- each step keeps them
pub ranges_kept : (shape : Layout) → IsShape shape → IsKept shape anywhere (Ranges shape)
ranges_kept shape valid = record {
  fits = λ state pass choice offered within h is there. fits shape valid state pass within h choice offered is;
  kept = λ state pass choice offered told w within h is shows. kept shape valid state pass within h choice offered told w is (shows refl);
}

-- at the start each word is within its range
module _ (shape : Layout) (opening : Opening) (world : World) (memory : Memory) (suits : (there : Place) → InRange shape there → Suits there (memory there)) (opens : IsOpening opening) (q : IsAtStart shape opening world memory) where
  entry-in : (coll entry : ℕ) (w : E.State) → StartsEntry shape opening world memory coll entry w → InState shape coll w
  entry-in coll entry (state.Free last stamp) e = (e.1, let le = e.2 in let last = opens.last in omega arith)
  entry-in coll entry (state.Present own slot) e = (e.low, e.within)
  entry-in coll entry _ e = absurd e

  owner-in : (coll slot : ℕ) (number : Number) → back_in memory coll slot ≡ Some number → IsNumberOf shape coll number
  owner-in coll slot number is =
      let (home, there) = q.owners coll slot number is in
      let at : StandsThere shape opening world memory coll number.entry number.incarnation slot = subst (StartsEntry shape opening world memory coll number.entry) there (q.entries coll number.entry) in
      let since = at.since in record { given = omega arith; incarnation = at.low; entry = subst (λ (c : ℕ). number.entry < entries_of shape c) (sym home) at.entered; home = home }

  word-at_start : (there : Place) (w : Word) → InRange shape there → memory there ≡ w → Suits there w → InWord shape there w
  word-at_start place.Epoch w r is f = subst (InWord shape place.Epoch) (sym q.epoch ∙ is) opens.last
  word-at_start place.Round w r is f = subst (InWord shape place.Round) (sym q.round ∙ is) tt
  word-at_start (place.Section pass) w r is f = subst (InWord shape (place.Section pass)) (sym (q.sections pass) ∙ is) (omega arith)
  word-at_start (place.Entry coll entry) (word.Entry s) r is f = entry-in coll entry s (subst (StartsEntry shape opening world memory coll entry) (ap state_of is) (q.entries coll entry))
  word-at_start (place.Directory coll slot) (word.Directory d) r is f = f
  word-at_start (place.Back coll slot) (word.Back None) r is f = tt
  word-at_start (place.Back coll slot) (word.Back (Some number)) r is f = owner-in coll slot number (ap back_of is)
  word-at_start (place.Forward coll slot) (word.Forward target) r is f = subst (λ (t : ℕ). t < slots_of shape coll) (ap forward_of is) (q.forwards coll slot r)
  word-at_start (place.Field coll slot field) (word.Plain number) r is f = f
  word-at_start (place.Entry coll entry) _ r is f = absurd (search)
  word-at_start (place.Directory coll slot) _ r is f = absurd (search)
  word-at_start (place.Back coll slot) _ r is f = absurd (search)
  word-at_start (place.Forward coll slot) _ r is f = absurd (search)
  word-at_start (place.Field coll slot field) _ r is f = absurd (search)

  pub ranges_starting : Ranges shape (starting shape memory world)
  ranges_starting = record {
    memory = λ there r. word-at_start there (memory there) r refl (suits there r);
    stands = λ i lt. record { section = tt; phase = tt; held = All-nil (IsHeldWithin shape); round = tt };
  }

-- so it is at each start
pub ranges_start : (shape : Layout) (opening : Opening) (first : World) (start : List ℕ) → IsShape shape → IsStart shape opening first start → Ranges shape (state_behind shape opening (started shape start) first)
ranges_start shape opening first start valid starts =
    (at_first shape opening (Ranges shape) first start starts (ranges_starting shape opening first (memory_behind shape opening start) (λ there r. starts.mirrors.suits there refl r) starts.opens starts.at_rest)).rule

-- and in the state of every history, which the row mirrors
pub ranges_then : (shape : Layout) (opening : Opening) (first : World) (m : Machine) → IsShape shape → (h : History shape opening first m) → HoldsOf shape opening (Ranges shape) m (history_world h)
ranges_then shape opening first m valid h = holds_then shape opening valid (Ranges shape) (ranges_kept shape valid) first m h
    (record { backs = backs_first shape opening first h.start h.starts; rule = ranges_start shape opening first h.start valid h.starts })

pub ranges_hold : HoldsAlways InRanges
ranges_hold shape opening first m valid h = (ranges_then shape opening first m valid h).rule

pub stands_behind : StandsBehind
stands_behind shape opening first m valid h = (ranges_then shape opening first m valid h).backs

-- an operation that is offered there fits the row
pub offered_fits : OffersFit
offered_fits shape opening first m pass l choice offered valid h here offers =
    let b = ranges_then shape opening first m valid h in
    let within : pass < shape.passes = omega (arith, slice_get_within m.locals pass l here, b.backs.count) in
    fits shape valid (history_state h) pass within b.rule choice offered
    (ap (λ (k : Stand). stand_offer shape pass k choice) (b.backs.same pass l here) ∙ offers)
