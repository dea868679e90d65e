-- Each object of a world is of the collection that its number names.
use Rattle.std.proofs.Common.{◌≡◌, ℕ, Bool, true, false, cond, Option, Some, None, option_map, List, [], ◌∷◌, refl, sym, ap, ◌∙◌, subst, arith}
use Rattle.std.specs.Prelude.{IsSomeAnd, IsTrue}
use Rattle.std.specs.Option.{option_map_or}
use Rattle.std.specs.Ordering.{eq_by_cmp}
use Rattle.std.proofs.lemmas.Bool.Decides.{nat_tests}
use Rattle.smc_words.specs.declared.number.Number.{Number}
use Rattle.smc_words.specs.Number.{number_cmp}
use Rattle.smc_model.specs.declared.event.Event.{Event}
use Rattle.smc_model.specs.declared.event.Event.TheVariants as event
use Rattle.smc_model.specs.declared.object.Object.{Object}
use Rattle.smc_model.specs.Scans.{PresentIn}
use Rattle.smc_model.specs.World.{World, IsAllowed, Replay, changed_at, empty_world, is_present, is_present_in, new_object, object_of, removed, with_word, world_after}
use Rattle.smc_model.proofs.WorldLaws.{object_of-added, object_of-changed, object_of-empty, same_number}

-- each object is of its number's collection
abbrev pub IsHome : World → Type 0
IsHome world = (n : Number) (o : Object) → object_of world n ≡ Some o → o.coll ≡ n.coll

-- an object that is present, of its number's collection
pub present-in : (world : World) (coll : ℕ) (n : Number) → IsHome world → n.coll ≡ coll → is_present world n ≡ true → PresentIn world coll n
present-in world coll n home of here = go (object_of world n) refl here
  where
    go : (found : Option Object) → object_of world n ≡ found → option_map_or (λ (o : Object). o.present) found false ≡ true → IsSomeAnd found (λ (o : Object). IsTrue (is_present_in coll o))
    go None at is = absurd (cc)
    go (Some o) at is = let same : o.coll ≡ coll = home n o at ∙ of in grind (arith, nat_tests, same, is)

pub in-present : (world : World) (coll : ℕ) (n : Number) → PresentIn world coll n → is_present world n ≡ true
in-present world coll n is = go (object_of world n) is
  where
    go : (found : Option Object) → IsSomeAnd found (λ (o : Object). IsTrue (is_present_in coll o)) → option_map_or (λ (o : Object). o.present) found false ≡ true
    go None is = absurd is
    go (Some o) is = grind (arith, nat_tests, is)

pub in-home : (world : World) (coll : ℕ) (n : Number) → IsHome world → PresentIn world coll n → coll ≡ n.coll
in-home world coll n home is = go (object_of world n) refl is
  where
    go : (found : Option Object) → object_of world n ≡ found → IsSomeAnd found (λ (o : Object). IsTrue (is_present_in coll o)) → coll ≡ n.coll
    go None at is = absurd is
    go (Some o) at is = let same : coll ≡ o.coll = grind (arith, nat_tests, is) in same ∙ home n o at

-- a change of an object leaves it in its collection
home-changed : (world : World) (n : Number) (change : Object → Object) → ((o : Object) → (change o).coll ≡ o.coll) → IsHome world → IsHome (changed_at world n change)
home-changed world n change stays home x o is = go (eq_by_cmp number_cmp x n) refl (object_of world n) refl (sym (object_of-changed world n change x) ∙ is)
  where
    go : (b : Bool) → eq_by_cmp number_cmp x n ≡ b → (found : Option Object) → object_of world n ≡ found
        → cond b (option_map change found) (object_of world x) ≡ Some o → o.coll ≡ x.coll
    go true t None at e = absurd (cc)
    go true t (Some old) at e =
        let same : change old ≡ o = cc in
        ap (λ (z : Object). z.coll) (sym same) ∙ (stays old ∙ (home n old at ∙ ap (λ (z : Number). z.coll) (sym (same_number x n t))))
    go false t found at e = home x o e

home-added : (world : World) (n : Number) (coll : ℕ) (words : List ℕ) → n.coll ≡ coll → IsHome world → IsHome (world_after world (event.Add n coll words))
home-added world n coll words of home x o is = go (eq_by_cmp number_cmp x n) refl (sym (object_of-added world n coll words x) ∙ is)
  where
    go : (b : Bool) → eq_by_cmp number_cmp x n ≡ b → cond b (Some (new_object coll words)) (object_of world x) ≡ Some o → o.coll ≡ x.coll
    go true t e =
        let same : new_object coll words ≡ o = cc in
        ap (λ (z : Object). z.coll) (sym same) ∙ (sym of ∙ ap (λ (z : Number). z.coll) (sym (same_number x n t)))
    go false t e = home x o e

pub home-after : (world : World) (e : Event) → IsAllowed world e → IsHome world → IsHome (world_after world e)
home-after world (event.Add n coll words) may home = home-added world n coll words may.1 home
home-after world (event.Write n field value) may home = home-changed world n (λ (o : Object). with_word o field value) (λ o. refl) home
home-after world (event.Remove n first) may home = home-changed world n removed (λ o. refl) home
home-after world (event.Look n h) may home = home
home-after world (event.Read n f v) may home = home
home-after world (event.Begin k c) may home = home
home-after world (event.Visit k n) may home = home
home-after world (event.End k) may home = home
home-after world (event.Refused c x) may home = home
home-after world event.Enter may home = home
home-after world event.Leave may home = home
home-after world (event.Told p c) may home = home

home-through : (world : World) (events : List Event) (last : World) → Replay world events last → IsHome world → IsHome last
home-through world [] last replay home = subst IsHome (sym replay) home
home-through world (x ∷ events) last replay home = home-through (world_after world x) events last replay.1 (home-after world x replay.0 home)

-- so it is where events lead from such a world
pub home-reached : (first : World) (events : List Event) (last : World) → IsHome first → Replay first events last → IsHome last
home-reached first events last home replay = home-through first events last replay home

-- and in the empty one
pub home-empty : IsHome empty_world
home-empty n o is = let nothing = object_of-empty n in absurd (cc)
