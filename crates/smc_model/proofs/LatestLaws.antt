-- What lasts through a history: a removal for good, and a word until it is written again.
use Rattle.std.proofs.Common.{◌≡◌, ◌≢◌, ℕ, zero, suc, Bool, true, false, cond, Option, Some, None, IsSome, is_some, option_map, List, [], ◌∷◌, ◌++◌, refl, sym, ap, subst, ◌∙◌, arith}
use Rattle.std.specs.Prelude.{slice_get, slice_set, option_and_then}
use Rattle.std.specs.Option.{option_map_or}
use Rattle.std.specs.Ordering.{eq_by_cmp}
use Rattle.std.specs.Cmp.{eq_by_cmp_equiv}
use Rattle.std.proofs.lemmas.List.Elements.{Contains-append_left, Contains-append_right}
use Rattle.smc_words.specs.declared.number.Number.{Number}
use Rattle.smc_words.specs.Number.{number_cmp}
use Rattle.smc_words.proofs.NumberLaws.{numbers_total}
use Rattle.smc_model.specs.declared.object.Object.{Object}
use Rattle.smc_model.specs.declared.event.Event.{Event}
use Rattle.smc_model.specs.declared.event.Event.TheVariants.{Add, Look, Read, Write, Remove}
use Rattle.smc_model.specs.World.{World, object_of, is_present, word_of, new_object, with_word, removed, changed_at, IsAllowed, world_after, world_through, Replay, LacksWrite}
use Rattle.smc_model.proofs.WorldLaws.{object_of-added, object_of-changed, same_number, given_after}
use Rattle.smc_model.proofs.HistoryLaws.{Replay-front, Replay-back, world_through-append}

-- the object of a number after an object was added under another one
beside_added : (world : World) (number : Number) → IsSome (object_of world number) → (added : Number) (coll : ℕ) (words : List ℕ) → object_of world added ≡ None
    → object_of (world_after world (Add added coll words)) number ≡ object_of world number
beside_added world number given added coll words absent = object_of-added world added coll words number
    ∙ elim (eq_by_cmp number_cmp number added) as (λ b. eq_by_cmp number_cmp number added ≡ b → cond b (Some (new_object coll words)) (object_of world number) ≡ object_of world number) [
      | true ↦ λ same. let none = ap is_some (ap (object_of world) (same_number number added same) ∙ absent) in absurd (cc)
      | false ↦ λ _. refl
    ] refl

-- what is read of an object stays when an object is changed, if the change keeps it
kept_by_change : {Y : Type 0} (view : Option Object → Y) (world : World) (number at : Number) (change : Object → Object)
    → (at ≡ number → view (option_map change (object_of world number)) ≡ view (object_of world number))
    → view (object_of (changed_at world at change) number) ≡ view (object_of world number)
kept_by_change view world number at change keeps = ap view (object_of-changed world at change number)
    ∙ elim (eq_by_cmp number_cmp number at) as (λ b. eq_by_cmp number_cmp number at ≡ b → view (cond b (option_map change (object_of world at)) (object_of world number)) ≡ view (object_of world number)) [
      | true ↦ λ same. let is = sym (same_number number at same) in ap (λ n. view (option_map change (object_of world n))) is ∙ keeps is
      | false ↦ λ _. refl
    ] refl

-- an object that was given, and is not present any more
abbrev pub Gone : World → Number → Type 0
Gone world number = IsSome (object_of world number) × (is_present world number ≡ false)

same_presence : (o : Option Object) (field value : ℕ) → option_map_or (λ object. object.present) (option_map (λ object. with_word object field value) o) false ≡ option_map_or (λ object. object.present) o false
same_presence (Some object) field value = refl
same_presence None field value = refl

no_presence : (o : Option Object) → option_map_or (λ object. object.present) (option_map removed o) false ≡ false
no_presence (Some object) = refl
no_presence None = refl

-- it stays so
gone_after : (world : World) (number : Number) → Gone world number → (event : Event) → IsAllowed world event → Gone (world_after world event) number
gone_after world number gone (Add added coll words) allowed =
    (given_after world number gone.0 (Add added coll words), ap (λ o. option_map_or (λ object. object.present) o false) (beside_added world number gone.0 added coll words allowed.0) ∙ gone.1)
gone_after world number gone (Write at field value) allowed = (
  given_after world number gone.0 (Write at field value),
  kept_by_change (λ o. option_map_or (λ object. object.present) o false) world number at (λ object. with_word object field value) (λ _. same_presence (object_of world number) field value) ∙ gone.1,
)
gone_after world number gone (Remove at first) allowed = (
  given_after world number gone.0 (Remove at first),
  kept_by_change (λ o. option_map_or (λ object. object.present) o false) world number at removed (λ _. no_presence (object_of world number) ∙ sym gone.1) ∙ gone.1,
)
gone_after world number gone _ allowed = gone

gone_through : (world last : World) (number : Number) → Gone world number → (events : List Event) → Replay world events last → Gone (world_through world events) number
gone_through world last number gone [] replay = gone
gone_through world last number gone (event ∷ events) replay =
    gone_through (world_after world event) last number (gone_after world number gone event replay.0) events replay.1

-- once it was removed
gone_by_removal : (world : World) (number : Number) (first : Bool) → IsAllowed world (Remove number first) → Gone (world_after world (Remove number first)) number
gone_by_removal world number first allowed = (
  given_after world number allowed.0 (Remove number first),
  ap (λ o. option_map_or (λ object. object.present) o false) (object_of-changed world number removed number
      ∙ ap (λ b. cond b (option_map removed (object_of world number)) (object_of world number)) ((eq_by_cmp_equiv numbers_total).refl number))
      ∙ no_presence (object_of world number),
)

-- the world in which a later event of a history happens, after an earlier one
between_two : (first last : World) (earlier between later : List Event) (one two : Event) → Replay first (earlier ++ one ∷ between ++ two ∷ later) last
    → (world : World) × IsAllowed world one × Replay (world_after world one) between (world_through (world_after world one) between) × IsAllowed (world_through (world_after world one) between) two
between_two first last earlier between later one two replay =
    let front = Replay-front first last (earlier ++ one ∷ between) (two ∷ later) replay in
    let behind = Replay-back first last (earlier ++ one ∷ between) (two ∷ later) replay in
    let from_one = Replay-back first _ earlier (one ∷ between) front in
    let world = world_through first earlier in (
      world,
      from_one.0,
      subst (λ (w : World). Replay (world_after world one) between w) (world_through-append first earlier (one ∷ between)) from_one.1,
      subst (λ (w : World). IsAllowed w two) (world_through-append first earlier (one ∷ between)) behind.0,
    )

pub gone_for_good : (first last : World) (earlier between later : List Event) (number : Number) (removal : Bool)
    → Replay first (earlier ++ Remove number removal ∷ between ++ Look number true ∷ later) last → ⊥
gone_for_good first last earlier between later number removal replay =
    let (world, allowed, through, looked) = between_two first last earlier between later (Remove number removal) (Look number true) replay in
    let gone = (gone_through (world_after world (Remove number removal)) _ number (gone_by_removal world number removal allowed) between through).1 in
    cc

pub removed_once : (first last : World) (earlier between later : List Event) (number : Number) (removal : Bool)
    → Replay first (earlier ++ Remove number removal ∷ between ++ Remove number true ∷ later) last → ⊥
removed_once first last earlier between later number removal replay =
    let (world, allowed, through, again) = between_two first last earlier between later (Remove number removal) (Remove number true) replay in
    let gone = (gone_through (world_after world (Remove number removal)) _ number (gone_by_removal world number removal allowed) between through).1 in
    let true_again = again.1 in
    cc

-- words of lists

slice_get-set_same : (xs : List ℕ) (i value : ℕ) → IsSome (slice_get xs i) → slice_get (slice_set xs i value) i ≡ Some value
slice_get-set_same [] i value is = cc
slice_get-set_same (x ∷ xs) zero value is = refl
slice_get-set_same (x ∷ xs) (suc i) value is = slice_get-set_same xs i value is

slice_get-set_other : (xs : List ℕ) (i j value : ℕ) → i ≢ j → slice_get (slice_set xs i value) j ≡ slice_get xs j
slice_get-set_other [] i j value apart = refl
slice_get-set_other (x ∷ xs) zero zero value apart = absurd (apart refl)
slice_get-set_other (x ∷ xs) zero (suc j) value apart = refl
slice_get-set_other (x ∷ xs) (suc i) zero value apart = refl
slice_get-set_other (x ∷ xs) (suc i) (suc j) value apart = slice_get-set_other xs i j value (λ e. apart (ap suc e))

-- the word of a field, where the object is changed

word_set : (o : Option Object) (field value : ℕ) → IsSome (option_and_then (λ object. slice_get object.words field) o)
    → option_and_then (λ object. slice_get object.words field) (option_map (λ object. with_word object field value) o) ≡ Some value
word_set (Some object) field value is = slice_get-set_same object.words field value is
word_set None field value is = cc

word_beside : (o : Option Object) (field written value : ℕ) → written ≢ field
    → option_and_then (λ object. slice_get object.words field) (option_map (λ object. with_word object written value) o) ≡ option_and_then (λ object. slice_get object.words field) o
word_beside (Some object) field written value apart = slice_get-set_other object.words written field value apart
word_beside None field written value apart = refl

word_removed : (o : Option Object) (field : ℕ) → option_and_then (λ object. slice_get object.words field) (option_map removed o) ≡ option_and_then (λ object. slice_get object.words field) o
word_removed (Some object) field = refl
word_removed None field = refl

-- the word stays, unless it is written
word_after : (world : World) (number : Number) (field : ℕ) → IsSome (object_of world number) → (event : Event) → IsAllowed world event → LacksWrite (event ∷ []) number field
    → word_of (world_after world event) number field ≡ word_of world number field
word_after world number field given (Add added coll words) allowed lacks =
    ap (option_and_then (λ object. slice_get object.words field)) (beside_added world number given added coll words allowed.0)
word_after world number field given (Write at written value) allowed lacks =
    kept_by_change (option_and_then (λ object. slice_get object.words field)) world number at (λ object. with_word object written value) (λ is.
    word_beside (object_of world number) field written value (λ also. lacks value (0, omega arith, ap (λ n. Write n written value) is ∙ ap (λ f. Write number f value) also)))
word_after world number field given (Remove at first) allowed lacks =
    kept_by_change (option_and_then (λ object. slice_get object.words field)) world number at removed (λ _. word_removed (object_of world number) field)
word_after world number field given _ allowed lacks = refl

word_through : (world last : World) (number : Number) (field : ℕ) → IsSome (object_of world number) → (events : List Event) → Replay world events last → LacksWrite events number field
    → word_of (world_through world events) number field ≡ word_of world number field
word_through world last number field given [] replay lacks = refl
word_through world last number field given (event ∷ events) replay lacks =
    word_through (world_after world event) last number field (given_after world number given event) events replay.1 (λ value h. lacks value (Contains-append_right (event ∷ []) events (Write number field value) h))
    ∙ word_after world number field given event replay.0 (λ value h. lacks value (Contains-append_left (event ∷ []) events (Write number field value) h))

some_object : (o : Option Object) (field : ℕ) → IsSome (option_and_then (λ object. slice_get object.words field) o) → IsSome o
some_object (Some object) field is = refl
some_object None field is = cc

pub latest_write : (first last : World) (earlier between later : List Event) (number : Number) (field value read : ℕ) → LacksWrite between number field
    → Replay first (earlier ++ Write number field value ∷ between ++ Read number field read ∷ later) last → read ≡ value
latest_write first last earlier between later number field value read lacks replay =
    let (world, allowed, through, seen) = between_two first last earlier between later (Write number field value) (Read number field read) replay in
    let given = given_after world number (some_object (object_of world number) field allowed.0) (Write number field value) in
    let kept = word_through (world_after world (Write number field value)) _ number field given between through lacks in
    let wrote = ap (option_and_then (λ object. slice_get object.words field)) (object_of-changed world number (λ object. with_word object field value) number
    ∙ ap (λ b. cond b (option_map (λ object. with_word object field value) (object_of world number)) (object_of world number)) ((eq_by_cmp_equiv numbers_total).refl number))
    ∙ word_set (object_of world number) field value allowed.0 in
    let both : Some read ≡ Some value = sym seen ∙ kept ∙ wrote in
    cc

pub word_as_added : (first last : World) (earlier between later : List Event) (number : Number) (coll : ℕ) (words : List ℕ) (field read : ℕ) → LacksWrite between number field
    → Replay first (earlier ++ Add number coll words ∷ between ++ Read number field read ∷ later) last → slice_get words field ≡ Some read
word_as_added first last earlier between later number coll words field read lacks replay =
    let (world, allowed, through, seen) = between_two first last earlier between later (Add number coll words) (Read number field read) replay in
    let here = object_of-added world number coll words number ∙ ap (λ b. cond b (Some (new_object coll words)) (object_of world number)) ((eq_by_cmp_equiv numbers_total).refl number) in
    let kept = word_through (world_after world (Add number coll words)) _ number field (ap is_some here) between through lacks in
    sym (ap (option_and_then (λ object. slice_get object.words field)) here) ∙ sym kept ∙ seen
