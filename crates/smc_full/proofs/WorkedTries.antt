-- Worked pairs of tries, computed call by call.
use Rattle.std.proofs.Common.{◌≡◌, ℕ, zero, suc, ◌+◌, Option, Some, None, List, [], ◌∷◌, map, refl, arith}
use Rattle.std.specs.Prelude.{IsSomeAnd}
use Rattle.smc_shape.specs.Layout.{Layout, IsShape, words_of}
use Rattle.smc_shape.specs.Places.{at}
use Rattle.smc_shape.proofs.AskedLaws.{no-fault_of}
use Rattle.smc_model.specs.declared.event.Cause.TheVariants.{Slots}
use Rattle.smc_core.specs.declared.call.Call.{Call}
use Rattle.smc_core.specs.declared.call.Call.TheVariants as call
use Rattle.smc_core.specs.declared.done.Done.{Done}
use Rattle.smc_core.specs.declared.done.Done.TheVariants as done
use Rattle.smc_core.specs.declared.local.Answer.{Answer}
use Rattle.smc_core.specs.Machine.{IsOpening, Machine}
use Rattle.smc_model.specs.World.{empty_world}
use Rattle.smc_core.specs.Played.{Schedule, played, shape_of}
use Rattle.smc_rules.proofs.CarryLaws.{some-same}
use Rattle.smc_inv_epoch.specs.Epochs.{opening_of}
use Rattle.smc_inv_epoch.proofs.Openings.{schedule-history}
use Rattle.smc_aside.proofs.WholeCalls.{MakesEach, SchedulesAreReached, StepsAreComputed, at_rest, calls_of, each_made, kept_along, kept_with, place_of, places_in, rests-alone}
use Rattle.smc_full.specs.Full.{TriesTwice}
use Rattle.smc_full.specs.Laws.{IsTriedTwice}
use Rattle.smc_full.specs.Worked.{with_room, without_room, TriedAfter}

-- the calls of two tries with these answers, the first of which is kept where the log is so long
abbrev trying : Done → Done → ℕ → List (Call × Done × ℕ)
trying first second long =
    (call.Enter, done.At 5, long + 1) ∷ (call.Add 0 0 (1 ∷ []), first, long + 2) ∷ (call.Leave, done.Out, long + 3)
    ∷ (call.Advance, done.Advanced 6, long + 3) ∷ (call.Advance, done.Advanced 7, long + 3) ∷ (call.Advance, done.Advanced 8, long + 3)
    ∷ (call.Enter, done.At 8, long + 4) ∷ (call.Add 0 0 (1 ∷ []), second, long + 5) ∷ []

-- what is kept after so many adds from this slot on, and a leave
abbrev filled : ℕ → ℕ → List Answer
filled slot zero = record { length = slot + 2; done = done.Out } ∷ []
filled slot (suc more) = record { length = slot + 2; done = done.Made slot } ∷ filled (slot + 1) more

with_room-kept : kept_along (shape_of with_room) 0 (calls_of (trying (done.Made 0) (done.Made 1) 2)) (played with_room)
    ≡ kept_with 2 (record { length = 1; done = done.At 5 } ∷ filled 0 0) (trying (done.Made 0) (done.Made 1) 2)
unfolding at played
with_room-kept = refl

without_room-kept : kept_along (shape_of without_room) 0 (calls_of (trying (done.Full Slots) (done.Full Slots) 66)) (played without_room)
    ≡ kept_with 66 (record { length = 1; done = done.At 5 } ∷ filled 0 64) (trying (done.Full Slots) (done.Full Slots) 66)
unfolding at played
without_room-kept = refl

with_room-places : places_in (played with_room) ≡ Some (at_rest ∷ at_rest ∷ [])
unfolding at played
with_room-places = refl

without_room-places : places_in (played without_room) ≡ Some (at_rest ∷ at_rest ∷ [])
unfolding at played
without_room-places = refl

with_room-shape : IsShape (shape_of with_room)
unfolding words_of
with_room-shape = no-fault_of 2 (record { width = 1; slots = 64 } ∷ []) refl

without_room-shape : IsShape (shape_of without_room)
unfolding words_of
without_room-shape = no-fault_of 2 (record { width = 1; slots = 64 } ∷ []) refl

module _ (first second : Done) (long : ℕ) where
  -- these calls are two tries
  tries_so : (shape : Layout) (m last : Machine) → MakesEach shape 0 (trying first second long) m last → TriesTwice shape 0 0 m first second
  tries_so shape m last (m1, e1, (m2, t2, (m3, l3, (m4, a4, (m5, a5, (m6, a6, (m7, e7, (m8, t8, here)))))))) = record {
    entered = m1;
    tried = m2;
    left = m3;
    once = m4;
    twice = m5;
    thrice = m6;
    again = m7;
    last = m8;
    from = 0;
    words = 1 ∷ [];
    later_from = 0;
    later_words = 1 ∷ [];
    enters = (done.At 5, e1);
    tries = t2;
    leaves = (done.Out, l3);
    advances = (done.Advanced 6, (λ e. cc), a4);
    advances_again = (done.Advanced 7, (λ e. cc), a5);
    advances_at_last = (done.Advanced 8, (λ e. cc), a6);
    enters_again = (done.At 8, e7);
    tries_again = t8;
  }

  -- from where a schedule leads at which both passes stand idle
  module _ (computed : StepsAreComputed) (reached : SchedulesAreReached) (s : Schedule) (valid : IsShape (shape_of s)) (opens : IsOpening (opening_of s)) (before : List Answer) where
    tried_from : (found : Option Machine) → played s ≡ found → places_in found ≡ Some (at_rest ∷ at_rest ∷ [])
        → kept_along (shape_of s) 0 (calls_of (trying first second long)) found ≡ kept_with long before (trying first second long)
        → IsSomeAnd found (λ m. IsTriedTwice (shape_of s) (opening_of s) empty_world 0 0 m first second)
    tried_from None is places kept = absurd (cc)
    tried_from (Some m) is places kept = record {
      valid = valid;
      history = schedule-history s valid opens m (reached s m is);
      alone = rests-alone 2 0 m (omega arith) (some-same (map place_of m.locals) (at_rest ∷ at_rest ∷ []) places);
      tries = tries_so (shape_of s) m (each_made computed (shape_of s) 0 (trying first second long) long before m kept).0 (each_made computed (shape_of s) 0 (trying first second long) long before m kept).1;
    }

pub with_room-tried : StepsAreComputed → SchedulesAreReached → TriedAfter (done.Made 0) (done.Made 1) with_room
with_room-tried computed reached =
    tried_from (done.Made 0) (done.Made 1) 2 computed reached with_room with_room-shape (record { first = omega arith; last = omega arith; incarnation = omega arith })
    (record { length = 1; done = done.At 5 } ∷ filled 0 0) (played with_room) refl with_room-places with_room-kept

pub without_room-tried : StepsAreComputed → SchedulesAreReached → TriedAfter (done.Full Slots) (done.Full Slots) without_room
without_room-tried computed reached =
    tried_from (done.Full Slots) (done.Full Slots) 66 computed reached without_room without_room-shape (record { first = omega arith; last = omega arith; incarnation = omega arith })
    (record { length = 1; done = done.At 5 } ∷ filled 0 64) (played without_room) refl without_room-places without_room-kept
