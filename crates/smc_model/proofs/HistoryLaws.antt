-- Histories in parts: what holds of events one after another holds of each part, and the other way round.
use Rattle.std.proofs.Common.{◌≡◌, ℕ, cond, append-nil, List, [], ◌∷◌, ◌++◌, Some, IsSome, is_some, append_assoc, refl, sym, ap, ◌∙◌, subst}
use Rattle.std.specs.Cmp.{eq_by_cmp_equiv}
use Rattle.smc_words.specs.declared.number.Number.{Number}
use Rattle.smc_words.proofs.NumberLaws.{numbers_total}
use Rattle.smc_model.specs.declared.event.Event.{Event}
use Rattle.smc_model.specs.declared.event.Event.TheVariants.{Add}
use Rattle.smc_model.specs.World.{World, object_of, new_object, world_after, world_through, Replay}
use Rattle.smc_model.specs.Scans.{EachAfter}
use Rattle.smc_model.proofs.WorldLaws.{object_of-added, given_through}

pub world_through-append : (world : World) (xs ys : List Event) → world_through world (xs ++ ys) ≡ world_through (world_through world xs) ys
world_through-append world [] ys = refl
world_through-append world (x ∷ xs) ys = world_through-append (world_after world x) xs ys

-- the last world is the one that the events leave
pub Replay-last : (first : World) (events : List Event) (last : World) → Replay first events last → last ≡ world_through first events
Replay-last first [] last replay = replay
Replay-last first (event ∷ events) last replay = Replay-last (world_after first event) events last replay.1

pub Replay-join : (first middle last : World) (xs ys : List Event) → Replay first xs middle → Replay middle ys last → Replay first (xs ++ ys) last
Replay-join first middle last [] ys front back = subst (λ (world : World). Replay world ys last) front back
Replay-join first middle last (x ∷ xs) ys front back = (front.0, Replay-join (world_after first x) middle last xs ys front.1 back)

pub Replay-front : (first last : World) (xs ys : List Event) → Replay first (xs ++ ys) last → Replay first xs (world_through first xs)
Replay-front first last [] ys replay = refl
Replay-front first last (x ∷ xs) ys replay = (replay.0, Replay-front (world_after first x) last xs ys replay.1)

pub Replay-back : (first last : World) (xs ys : List Event) → Replay first (xs ++ ys) last → Replay (world_through first xs) ys last
Replay-back first last [] ys replay = replay
Replay-back first last (x ∷ xs) ys replay = Replay-back (world_after first x) last xs ys replay.1

module _ {X : Type 0} (Rule : List X → X → Type 0) where
  pub EachAfter-join : (before xs ys : List X) → EachAfter Rule before xs → EachAfter Rule (before ++ xs) ys → EachAfter Rule before (xs ++ ys)
  EachAfter-join before [] ys front back = subst (λ (zs : List X). EachAfter Rule zs ys) (append-nil before) back
  EachAfter-join before (x ∷ xs) ys front back =
      (front.0, EachAfter-join (before ++ x ∷ []) xs ys front.1 (subst (λ (zs : List X). EachAfter Rule zs ys) (sym (append_assoc before (x ∷ []) xs)) back))

  pub EachAfter-front : (before xs ys : List X) → EachAfter Rule before (xs ++ ys) → EachAfter Rule before xs
  EachAfter-front before [] ys each = tt
  EachAfter-front before (x ∷ xs) ys each = (each.0, EachAfter-front (before ++ x ∷ []) xs ys each.1)

  pub EachAfter-back : (before xs ys : List X) → EachAfter Rule before (xs ++ ys) → EachAfter Rule (before ++ xs) ys
  EachAfter-back before [] ys each = subst (λ (zs : List X). EachAfter Rule zs ys) (sym (append-nil before)) each
  EachAfter-back before (x ∷ xs) ys each =
      subst (λ (zs : List X). EachAfter Rule zs ys) (append_assoc before (x ∷ []) xs) (EachAfter-back (before ++ x ∷ []) xs ys each.1)

-- an object that was added is there
given_by_adding : (world : World) (number : Number) (coll : ℕ) (words : List ℕ) → IsSome (object_of (world_after world (Add number coll words)) number)
given_by_adding world number coll words = ap is_some (object_of-added world number coll words number ∙ ap (λ b. cond b (Some (new_object coll words)) (object_of world number)) ((eq_by_cmp_equiv numbers_total).refl number))

-- no two events add one number
pub given_once : (first last : World) (earlier between later : List Event) (number : Number) (c d : ℕ) (words other : List ℕ)
    → ¬ (Replay first (earlier ++ Add number c words ∷ between ++ Add number d other ∷ later) last)
given_once first last earlier between later number c d words other replay =
    let added = world_after (world_through first earlier) (Add number c words) in
    let again = Replay-back first last (earlier ++ Add number c words ∷ between) (Add number d other ∷ later) replay in
    let given : IsSome (object_of (world_through first (earlier ++ Add number c words ∷ between)) number) =
    subst (λ (world : World). IsSome (object_of world number)) (sym (world_through-append first earlier (Add number c words ∷ between)))
    (given_through added number (given_by_adding (world_through first earlier) number c words) between) in
    let absent = ap is_some again.0.0 in
    cc
