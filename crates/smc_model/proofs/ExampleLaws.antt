-- That the examples are what they are said to be.
use Rattle.std.proofs.Common.{◌≡◌, ◌≢◌, ◌⊎◌, inl, inr, ℕ, zero, suc, true, false, cond, IsTrue, Option, Some, None, IsSome, option_map, List, [], ◌∷◌, ◌++◌, refl, sym, ap, ◌∙◌, subst, arith}
use Rattle.std.specs.Prelude.{Contains, IsSomeAnd}
use Rattle.std.specs.Option.{option_map_or}
use Rattle.std.proofs.lemmas.List.Elements.{Contains-append_right}
use Rattle.std.specs.Ordering.{eq_by_cmp}
use Rattle.smc_words.specs.declared.number.Number.{Number}
use Rattle.smc_words.specs.Number.{number_cmp}
use Rattle.smc_model.specs.declared.object.Object.{Object}
use Rattle.smc_model.specs.declared.event.Event.{Event}
use Rattle.smc_model.specs.declared.event.Event.TheVariants.{Begin, Visit, Told}
use Rattle.smc_model.specs.World.{World, empty_world, object_of, is_present, is_present_in, new_object, removed, world_after, world_through}
use Rattle.smc_model.specs.Scans.{EachAfter, PresentIn, PresentThroughout, VisitsRightly, EndsRightly, ScansOnce}
use Rattle.smc_model.specs.Order.{OneOrder, Lawful, IsTold, events_by, log_of}
use Rattle.smc_model.specs.Examples.{number_one, adds, begins, visits, ends, removes, finds, misses, ring_logs}
use Rattle.smc_model.proofs.WorldLaws.{object_of-empty, object_of-added, object_of-changed, same_number}
use Rattle.smc_model.proofs.OrderLaws.{merge_begins, next_of_two, next_of_second, events_by-other, different}

-- the world in which the object was added
abbrev added : World
added = world_after empty_world adds

object_of-one : object_of added number_one ≡ Some (new_object 0 (7 ∷ []))
object_of-one = object_of-added empty_world number_one 0 (7 ∷ []) number_one

-- it alone is there
only_one : (number : Number) → IsSome (object_of added number) → number ≡ number_one
only_one number given = elim (eq_by_cmp number_cmp number number_one) as (λ b. eq_by_cmp number_cmp number number_one ≡ b → number ≡ number_one) [
  | true ↦ λ same. same_number number number_one same
  | false ↦ λ other.
      let none = object_of-added empty_world number_one 0 (7 ∷ []) number ∙ ap (λ b. cond b (Some (new_object 0 (7 ∷ []))) (object_of empty_world number)) other ∙ object_of-empty number in
      let nothing = rw none at given in
      cc
] refl

some_from_and : {X : Type 0} (o : Option X) (P : X → Type 0) → IsSomeAnd o P → IsSome o
some_from_and (Some x) P h = refl
some_from_and None P h = absurd h

-- what is present is there
present_given : (world : World) (coll : ℕ) (number : Number) → PresentIn world coll number → IsSome (object_of world number)
present_given world coll number present = some_from_and (object_of world number) _ present

-- nothing is in a list of nothing, nor in a longer list if it differs from the first

lacks-nil : {X : Type 0} (x : X) → ¬ (Contains [] x)
lacks-nil x (k, below, is) = absurd (omega arith)

lacks-cons : {X : Type 0} (x y : X) (xs : List X) → x ≢ y → ¬ (Contains xs y) → ¬ (Contains (x ∷ xs) y)
lacks-cons x y xs apart lacks (zero, below, is) = apart is
lacks-cons x y xs apart lacks (suc k, below, is) = lacks (k, omega arith, is)

-- an element between two parts of a list is the first, or is in the rest
at_begin : {X : Type 0} (x y : X) (xs earlier later : List X) → x ∷ xs ≡ earlier ++ y ∷ later
    → ((earlier ≡ []) × (x ≡ y) × (xs ≡ later)) ⊎ ((rest : List X) × (earlier ≡ x ∷ rest) × (xs ≡ rest ++ y ∷ later))
at_begin x y xs [] later e = inl (refl, cc, cc)
at_begin x y xs (z ∷ rest) later e = inr (rest, cc, cc)

-- the one scan of the examples began behind the adding

begun_once : (tail earlier later : List Event) (coll : ℕ) → ((c : ℕ) → ¬ (Contains tail (Begin 0 c))) → adds ∷ begins ∷ tail ≡ earlier ++ Begin 0 coll ∷ later
    → (earlier ≡ adds ∷ []) × (tail ≡ later)
begun_once tail earlier later coll lacks e = elim (at_begin adds (Begin 0 coll) (begins ∷ tail) earlier later e) [
  | inl (none, same, left) ↦ absurd (cc)
  | inr (rest, front, left) ↦ elim (at_begin begins (Begin 0 coll) tail rest later left) [
    | inl (none, same, behind) ↦ (front ∙ ap (λ es. adds ∷ es) none, behind)
    | inr (more, fronts, later_still) ↦
        absurd (lacks coll (subst (λ (es : List Event). Contains es (Begin 0 coll)) (sym later_still) (Contains-append_right more (Begin 0 coll ∷ later) (Begin 0 coll) (0, omega arith, refl))))
  ]
]

-- what is present throughout is present where the scan began, and what follows
throughout_from : (tail earlier later : List Event) (coll : ℕ) (number : Number) → earlier ≡ adds ∷ [] → tail ≡ later
    → PresentThroughout (world_through empty_world earlier) coll number later → PresentThroughout added coll number tail
throughout_from tail earlier later coll number front behind throughout =
    subst (λ (es : List Event). PresentThroughout added coll number es) (sym behind)
    (subst (λ (es : List Event). PresentThroughout (world_through empty_world es) coll number later) front throughout)

one_is_present : PresentIn added 0 number_one
one_is_present = subst (λ (o : Option Object). IsSomeAnd o (λ object. IsTrue (is_present_in 0 object))) (sym object_of-one) refl

-- once it is removed it is not
object_of-gone : object_of (world_after added removes) number_one ≡ Some (removed (new_object 0 (7 ∷ [])))
object_of-gone = object_of-changed added number_one removed number_one ∙ ap (option_map removed) object_of-one

gone_is_absent : (coll : ℕ) → ¬ (PresentIn (world_after added removes) coll number_one)
gone_is_absent coll present =
    let nothing = subst (λ (o : Option Object). IsSomeAnd o (λ object. IsTrue (is_present_in coll object))) object_of-gone present in
    cc

visits_it : VisitsRightly empty_world (adds ∷ begins ∷ []) 0 number_one
visits_it = record {
  coll = 0;
  begun = (1, omega arith, refl);
  goes_on = lacks-cons adds ends (begins ∷ []) (λ e. cc) (lacks-cons begins ends [] (λ e. cc) (lacks-nil ends));
  present = one_is_present;
  not_visited = lacks-cons adds visits (begins ∷ []) (λ e. cc) (lacks-cons begins visits [] (λ e. cc) (lacks-nil visits));
}

ends_visited : EndsRightly empty_world (adds ∷ begins ∷ visits ∷ []) 0
ends_visited earlier coll later e number throughout =
    let (front, behind) = begun_once (visits ∷ []) earlier later coll (λ c. lacks-cons visits (Begin 0 c) [] (λ s. cc) (lacks-nil (Begin 0 c))) e in
    let present = throughout_from (visits ∷ []) earlier later coll number front behind throughout in
    let same = only_one number (present_given added coll number present.0) in
    subst (λ (es : List Event). Contains es (Visit 0 number)) behind (0, omega arith, ap (λ n. Visit 0 n) (sym same))

ends_removed : EndsRightly empty_world (adds ∷ begins ∷ removes ∷ []) 0
ends_removed earlier coll later e number throughout =
    let (front, behind) = begun_once (removes ∷ []) earlier later coll (λ c. lacks-cons removes (Begin 0 c) [] (λ s. cc) (lacks-nil (Begin 0 c))) e in
    let present = throughout_from (removes ∷ []) earlier later coll number front behind throughout in
    let same = only_one number (present_given added coll number present.0) in
    absurd (gone_is_absent coll (subst (λ (n : Number). PresentIn (world_after added removes) coll n) same present.1))

pub scans_visited : ScansOnce empty_world (adds ∷ begins ∷ visits ∷ ends ∷ [])
scans_visited = (tt, (tt, (visits_it, (ends_visited, tt))))

pub scans_removed : ScansOnce empty_world (adds ∷ begins ∷ removes ∷ ends ∷ [])
scans_removed = (tt, (tt, (tt, (ends_removed, tt))))

pub scans_missed : ¬ (ScansOnce empty_world (adds ∷ begins ∷ ends ∷ []))
scans_missed scans = lacks-nil visits (scans.1.1.0 (adds ∷ []) 0 [] refl number_one one_is_present)

pub scans_what_is_gone : ¬ (ScansOnce empty_world (adds ∷ begins ∷ removes ∷ visits ∷ []))
scans_what_is_gone scans = let visit = scans.1.1.1.0 in gone_is_absent visit.coll visit.present

pub no_ring : (order : List (ℕ × Event)) → ¬ (OneOrder ring_logs order)
no_ring order one = elim (merge_begins (Told 1 1 ∷ []) (Told 0 1 ∷ []) order one.each_log) [
  | inl (none, left, also) ↦ cc
  | inr (inl (event, a, rest, left, begins, later)) ↦
      let heard = subst (λ (es : List (ℕ × Event)). EachAfter (λ before done. IsTold before done.1) [] es) begins one.told in
      let same : event ≡ Told 1 1 = cc in
      let early = subst (λ (e : Event). IsTold [] e) same heard.0 in
      absurd (omega arith)
  | inr (inr (event, b, rest, left, begins, later)) ↦
      let heard = subst (λ (es : List (ℕ × Event)). EachAfter (λ before done. IsTold before done.1) [] es) begins one.told in
      let same : event ≡ Told 0 1 = cc in
      let early = subst (λ (e : Event). IsTold [] e) same heard.0 in
      absurd (omega arith)
]

-- before the adding it is not present, and then it is

absent_at_first : is_present empty_world number_one ≡ false
absent_at_first = ap (λ o. option_map_or (λ object. object.present) o false) (object_of-empty number_one)

present_then : is_present added number_one ≡ true
present_then = ap (λ o. option_map_or (λ object. object.present) o false) object_of-one

in_each_log : (pass : ℕ) → events_by pass ((1, misses) ∷ (0, adds) ∷ (1, finds) ∷ []) ≡ log_of ((adds ∷ []) ∷ (misses ∷ finds ∷ []) ∷ []) pass
in_each_log zero = refl
in_each_log (suc zero) = refl
in_each_log (suc (suc pass)) =
    events_by-other _ 1 misses ((0, adds) ∷ (1, finds) ∷ []) (different 1 (suc (suc pass)) (λ e. absurd (omega arith)))
    ∙ events_by-other _ 0 adds ((1, finds) ∷ []) (different 0 (suc (suc pass)) (λ e. absurd (omega arith)))
    ∙ events_by-other _ 1 finds [] (different 1 (suc (suc pass)) (λ e. absurd (omega arith)))

pub misses_then_finds : Lawful empty_world ((adds ∷ []) ∷ (misses ∷ finds ∷ []) ∷ []) added
misses_then_finds = record {
  order = (1, misses) ∷ (0, adds) ∷ (1, finds) ∷ [];
  one_order = record { each_log = in_each_log; told = (tt, (tt, (tt, tt))) };
  replay = (sym absent_at_first, ((object_of-empty number_one, refl), (sym present_then, refl)));
  scans_once = (tt, (tt, (tt, tt)));
}

pub finds_then_misses : (last : World) → ¬ (Lawful empty_world ((adds ∷ []) ∷ (finds ∷ misses ∷ []) ∷ []) last)
finds_then_misses last lawful = elim (next_of_two empty_world last adds finds [] (misses ∷ []) lawful.order lawful.one_order.each_log lawful.replay) [
  | inl (allowed, (rest, merges, replay)) ↦
      let (found, (left, later, replays)) = next_of_second added last finds (misses ∷ []) rest merges replay in
      let missed = next_of_second added last misses [] left later replays in
      let here = present_then in
      let nowhere = missed.0 in
      cc
  | inr (found, more) ↦ let nowhere = absent_at_first in cc
]
