-- The plain world to which the rows of a table were added, one after another.
use Rattle.std.proofs.Common.{◌≡◌, ℕ, ◌+◌, ◌≤◌, ◌<◌, List, [], ◌∷◌, ◌++◌, None, refl, sym, ap, ◌∙◌, length, arith, false, subst, add-zero, lit<}
use Rattle.std.proofs.lemmas.Bool.Decides.{nat_tests}
use Rattle.std.specs.Prelude.{sum_by}
use Rattle.std.proofs.lemmas.List.Sums.{sum_by-cons}
use Rattle.std.specs.Ordering.{eq_by_cmp}
use Rattle.smc_words.specs.Number.{number_cmp}
use Rattle.smc_model.specs.World.{World, Replay, IsAllowed, world_after, object_of, count_of, total_of, HasField, empty_world}
use Rattle.smc_model.proofs.WorldLaws.{object_of-added, object_of-empty, count_of-added, count_of-empty, total_of-added, total_of-empty, HasField-added, HasField-empty}
use Rattle.smc_model.specs.declared.event.Event.{Event}
use Rattle.smc_types.specs.declared.row.Value.{Value}
use Rattle.smc_run.specs.Tally.{first_count, row_number, row_event_of, row_events}

-- an event that fits the last world is added to the replay
pub Replay-push : (first world : World) (events : List Event) (event : Event) → Replay first events world → IsAllowed world event
    → Replay first (events ++ event ∷ []) (world_after world event)
Replay-push first world [] event replay fits =
    let P : World → Type 0 = λ w. IsAllowed w event in
    (subst P replay fits, ap (λ w. world_after w event) replay)
Replay-push first world (other ∷ events) event replay fits = (replay.0, Replay-push (world_after first other) world events event replay.1 fits)

-- the row behind the others is added last
pub row_events-push : (place : ℕ) (rows : List (List Value)) (row : List Value) → row_events place (rows ++ row ∷ []) ≡ row_events place rows ++ row_event_of (place + length rows) (first_count row) ∷ []
row_events-push place [] row = ap (λ n. row_event_of n (first_count row) ∷ []) (sym (add-zero place))
row_events-push place (other ∷ rows) row =
    let same : place + 1 + length rows ≡ place + length (other ∷ rows) = omega arith in
    ap (λ events. row_event_of place (first_count other) ∷ events)
    (row_events-push (place + 1) rows row ∙ ap (λ n. row_events (place + 1) rows ++ row_event_of n (first_count row) ∷ []) same)

-- no number from this place on is given, and each row has its first column
pub record IsReady (world : World) (place : ℕ) : Type 0 where
  pub unused : (later : ℕ) → place ≤ later → object_of world (row_number later) ≡ None
  pub field : HasField world 0 0

pub IsReady-empty : IsReady empty_world 0
IsReady-empty = record { unused = λ later _. object_of-empty (row_number later); field = HasField-empty 0 0 }

-- numbers of two places differ
other_number : (place later : ℕ) → place < later → eq_by_cmp number_cmp (row_number later) (row_number place) ≡ false
other_number place later below = grind (arith, nat_tests)

-- a row more
IsReady-added : (world : World) (place key : ℕ) → IsReady world place → IsReady (world_after world (row_event_of place key)) (place + 1)
IsReady-added world place key ready = record {
  unused = λ later behind.
      let above : place ≤ later = omega arith in
      rw (object_of-added world (row_number place) 0 (key ∷ []) (row_number later), other_number place later (omega arith)) (ready.unused later above);
  field = HasField-added world (row_number place) 0 (key ∷ []) (ready.unused place (omega arith)) 0 0 (lit< tt) ready.field;
}

-- what the rows that were added make of a world
pub record HasGrown (rows : List (List Value)) (place : ℕ) (first world : World) : Type 0 where
  pub count : count_of world 0 ≡ count_of first 0 + length rows
  pub total : total_of world 0 0 ≡ total_of first 0 0 + sum_by first_count rows
  pub ready : IsReady world (place + length rows)

pub grown : (rows : List (List Value)) (place : ℕ) (first world : World) → IsReady first place → Replay first (row_events place rows) world → HasGrown rows place first world
grown [] place first world ready replay =
    let P : World → Type 0 = λ w. HasGrown [] place first w in
    subst P (sym replay) (record { count = sym (add-zero _); total = sym (add-zero _); ready = rw (add-zero place) ready })
grown (row ∷ rows) place first world ready replay =
    let event = row_event_of place (first_count row) in
    let free = ready.unused place (omega arith) in
    let next = IsReady-added first place (first_count row) ready in
    let later = grown rows (place + 1) (world_after first event) world next replay.1 in
    let count : count_of (world_after first event) 0 ≡ count_of first 0 + 1 = count_of-added first (row_number place) 0 (first_count row ∷ []) free 0 in
    let total : total_of (world_after first event) 0 0 ≡ total_of first 0 0 + first_count row = total_of-added first (row_number place) 0 (first_count row ∷ []) free 0 0 in
    let size : place + 1 + length rows ≡ place + length (row ∷ rows) = omega arith in
    record {
      count = omega (arith, later.count, count);
      total = omega (arith, later.total, total, sum_by-cons first_count row rows);
      ready = rw (← size) later.ready;
    }

module _ (rows : List (List Value)) (world : World) (added : Replay empty_world (row_events 0 rows) world) where
  all_grown : HasGrown rows 0 empty_world world
  all_grown = grown rows 0 empty_world world IsReady-empty added

  -- as many objects as rows
  pub row_count : count_of world 0 ≡ length rows
  row_count = let all = all_grown in omega (arith, all.count, count_of-empty 0)

  -- the sum of their first columns
  pub row_total : total_of world 0 0 ≡ sum_by first_count rows
  row_total = let all = all_grown in omega (arith, all.total, total_of-empty 0 0)

  -- each object has its first column
  pub row_field : HasField world 0 0
  row_field = all_grown.ready.field

  -- the next row's number is free
  pub row_unused : (place : ℕ) → length rows ≡ place → object_of world (row_number place) ≡ None
  row_unused place count = all_grown.ready.unused place (omega arith)

  -- a row more
  pub row_added : (next : World) (row : List Value) (place : ℕ) → length rows ≡ place → next ≡ world_after world (row_event_of place (first_count row))
      → Replay empty_world (row_events 0 (rows ++ row ∷ [])) next
  row_added next row place count is =
      let more = Replay-push empty_world world (row_events 0 rows) (row_event_of place (first_count row)) added (row_unused place count, refl) in
      let here : 0 + length rows ≡ place = omega arith in
      rw (row_events-push 0 rows row, here, is) more
