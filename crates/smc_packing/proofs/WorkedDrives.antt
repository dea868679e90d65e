-- Worked drives, computed call by call.
use Rattle.std.proofs.Common.{◌≡◌, ℕ, Option, Some, None, List, [], ◌∷◌, map, refl, subst, inl, inr, arith}
use Rattle.std.specs.Prelude.{IsSomeAnd}
use Rattle.smc_shape.specs.Layout.{Layout, IsShape, words_of}
use Rattle.smc_shape.specs.Places.{at}
use Rattle.smc_shape.proofs.AskedLaws.{no-fault_of}
use Rattle.smc_core.specs.declared.call.Call.{Call}
use Rattle.smc_core.specs.declared.call.Call.TheVariants as call
use Rattle.smc_core.specs.declared.done.Done.{Done}
use Rattle.smc_core.specs.declared.done.Done.TheVariants as done
use Rattle.smc_core.specs.declared.local.Answer.{Answer}
use Rattle.smc_model.specs.World.{empty_world}
use Rattle.smc_core.specs.Machine.{IsOpening, Machine}
use Rattle.smc_core.specs.Played.{Schedule, played, shape_of}
use Rattle.smc_rules.proofs.CarryLaws.{some-same}
use Rattle.smc_inv_epoch.specs.Epochs.{opening_of}
use Rattle.smc_inv_epoch.proofs.Openings.{schedule-history}
use Rattle.smc_aside.specs.Makes.{Makes}
use Rattle.smc_aside.proofs.WholeCalls.{MakesEach, SchedulesAreReached, StepsAreComputed, at_rest, calls_of, each_made, kept_along, kept_with, place_of, places_in, rests-alone}
use Rattle.smc_packing.specs.Drive.{Waits, FindsNothing, Moves, Drives}
use Rattle.smc_packing.specs.Packing.{HasState, IsPacked}
use Rattle.smc_packing.proofs.Packs.{drives-pack}
use Rattle.smc_packing.specs.Worked.{in_one_block, in_two_blocks, PacksAfter}

-- the answers to the calls of the two schedules
abbrev adds_made : ℕ → List Answer
adds_made second =
    record { length = 1; done = done.At 5 } ∷ record { length = 2; done = done.Made 0 } ∷ record { length = 3; done = done.Made second } ∷ record { length = 4; done = done.Out } ∷ []

-- the calls of a drive that moves one object, with their answers
abbrev moving : List (Call × Done × ℕ)
moving =
    (call.Advance, done.Advanced 6, 4) ∷ (call.Advance, done.Advanced 7, 4) ∷ (call.Advance, done.Advanced 8, 4)
    ∷ (call.Enter, done.At 8, 5) ∷ (call.Begin 0, done.Round 0 9 1, 5) ∷ (call.Leave, done.Out, 6)
    ∷ (call.Advance, done.Advanced 9, 6) ∷ (call.Advance, done.Advanced 10, 6) ∷ (call.Advance, done.Advanced 11, 6)
    ∷ (call.Enter, done.At 11, 7) ∷ (call.Finish, done.Finished 1 0 0, 7) ∷ (call.Leave, done.Out, 8) ∷ []

-- those of one that finds nothing to do
abbrev resting : List (Call × Done × ℕ)
resting =
    (call.Advance, done.Advanced 6, 4) ∷ (call.Advance, done.Advanced 7, 4) ∷ (call.Advance, done.Advanced 8, 4)
    ∷ (call.Enter, done.At 8, 5) ∷ (call.Begin 0, done.Nothing 0, 5) ∷ (call.Leave, done.Out, 6) ∷ []

two_blocks-kept : kept_along (shape_of in_two_blocks) 0 (calls_of moving) (played in_two_blocks) ≡ kept_with 4 (adds_made 64) moving
unfolding at played
two_blocks-kept = refl

one_block-kept : kept_along (shape_of in_one_block) 0 (calls_of resting) (played in_one_block) ≡ kept_with 4 (adds_made 1) resting
unfolding at played
one_block-kept = refl

two_blocks-places : places_in (played in_two_blocks) ≡ Some (at_rest ∷ at_rest ∷ [])
unfolding at played
two_blocks-places = refl

one_block-places : places_in (played in_one_block) ≡ Some (at_rest ∷ at_rest ∷ [])
unfolding at played
one_block-places = refl

two_blocks-shape : IsShape (shape_of in_two_blocks)
unfolding words_of
two_blocks-shape = no-fault_of 2 (record { width = 1; slots = 128 } ∷ []) refl

one_block-shape : IsShape (shape_of in_one_block)
unfolding words_of
one_block-shape = no-fault_of 2 (record { width = 1; slots = 128 } ∷ []) refl

module _ (shape : Layout) (m : Machine) where
  -- three advances are a wait
  waits_so : (m1 m2 m3 : Machine) → Makes shape 0 call.Advance (done.Advanced 6) m m1 → Makes shape 0 call.Advance (done.Advanced 7) m1 m2
      → Makes shape 0 call.Advance (done.Advanced 8) m2 m3 → Waits shape 0 m m3
  waits_so m1 m2 m3 a1 a2 a3 = record {
    answers = done.Advanced 6 ∷ done.Advanced 7 ∷ done.Advanced 8 ∷ [];
    advances = (m1, a1, (m2, a2, (m3, a3, refl)));
    first = 6;
    latest = 8;
    begins = refl;
    ends = refl;
    two_on = omega arith;
  }

  -- these calls are a drive that moves an object
  moves_so : (last : Machine) → MakesEach shape 0 moving m last → Moves shape 0 0 m last
  moves_so last (m1, a1, (m2, a2, (m3, a3, (m4, e4, (m5, b5, (m6, l6, (m7, a7, (m8, a8, (m9, a9, (m10, e10, (m11, f11, (m12, l12, here)))))))))))) = record {
    begun = m5;
    left = m6;
    waited = m9;
    inside = m10;
    finished = m11;
    bound = 9;
    frozen = 1;
    answers = done.Advanced 9 ∷ done.Advanced 10 ∷ done.Advanced 11 ∷ [];
    epoch = 11;
    moved = 1;
    abandoned = 0;
    gone = 0;
    begins = record { waited = m3; inside = m4; epoch = 8; waits = waits_so m1 m2 m3 a1 a2 a3; enters = e4; begins = b5 };
    leaves = l6;
    advances = (m7, a7, (m8, a8, (m9, a9, refl)));
    enters = e10;
    finishes = f11;
    leaves_again = subst (λ (k : Machine). Makes shape 0 call.Leave done.Out m11 k) here l12;
  }

  -- and these find nothing to do
  nothing_so : (last : Machine) → MakesEach shape 0 resting m last → FindsNothing shape 0 0 m last
  nothing_so last (m1, a1, (m2, a2, (m3, a3, (m4, e4, (m5, b5, (m6, l6, here)))))) = record {
    begun = m5;
    begins = record { waited = m3; inside = m4; epoch = 8; waits = waits_so m1 m2 m3 a1 a2 a3; enters = e4; begins = b5 };
    leaves = subst (λ (k : Machine). Makes shape 0 call.Leave done.Out m5 k) here l6;
  }

module _ (computed : StepsAreComputed) (reached : SchedulesAreReached) (s : Schedule) (valid : IsShape (shape_of s)) (opens : IsOpening (opening_of s))
    (Form : Layout → ℕ → ℕ → Machine → Machine → Type 0) (drives : (m last : Machine) → Form (shape_of s) 0 0 m last → Drives (shape_of s) 0 0 m last)
    (made : List (Call × Done × ℕ)) (so : (m last : Machine) → MakesEach (shape_of s) 0 made m last → Form (shape_of s) 0 0 m last) (long : ℕ) (before : List Answer) where
  -- the calls are made, and what a drive leaves holds
  packs_from : (found : Option Machine) → played s ≡ found → places_in found ≡ Some (at_rest ∷ at_rest ∷ [])
      → kept_along (shape_of s) 0 (calls_of made) found ≡ kept_with long before made
      → IsSomeAnd found (λ m. (last : Machine) × Form (shape_of s) 0 0 m last × HasState (shape_of s) (opening_of s) empty_world last (IsPacked (shape_of s) 0))
  packs_from None is places kept = absurd (cc)
  packs_from (Some m) is places kept =
      let (last, each) = each_made computed (shape_of s) 0 made long before m kept in
      let form : Form (shape_of s) 0 0 m last = so m last each in
      let here : map place_of m.locals ≡ at_rest ∷ at_rest ∷ [] = some-same (map place_of m.locals) (at_rest ∷ at_rest ∷ []) places in (
        last,
        form,
        drives-pack (shape_of s) (opening_of s) empty_world 0 m valid
            (schedule-history s valid opens m (reached s m is))
            (rests-alone 2 0 m (omega arith) here) 0 last (drives m last form),
      )

pub two_blocks-pack : StepsAreComputed → SchedulesAreReached → PacksAfter Moves in_two_blocks
two_blocks-pack computed reached =
    packs_from computed reached in_two_blocks two_blocks-shape (record { first = omega arith; last = omega arith; incarnation = omega arith })
    Moves (λ m last moves. inr moves) moving (λ m last each. moves_so (shape_of in_two_blocks) m last each) 4 (adds_made 64)
    (played in_two_blocks) refl two_blocks-places two_blocks-kept

pub one_block-packs : StepsAreComputed → SchedulesAreReached → PacksAfter FindsNothing in_one_block
one_block-packs computed reached =
    packs_from computed reached in_one_block one_block-shape (record { first = omega arith; last = omega arith; incarnation = omega arith })
    FindsNothing (λ m last finds. inl finds) resting (λ m last each. nothing_so (shape_of in_one_block) m last each) 4 (adds_made 1)
    (played in_one_block) refl one_block-places one_block-kept
