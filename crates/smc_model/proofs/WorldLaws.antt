-- What an event makes of a world, in the words that callers use.
use Rattle.std.proofs.Common.{◌≡◌, ◌==◌, ◌+◌, ◌<◌, ℕ, Bool, true, false, cond, Option, Some, None, IsSome, option_map, refl, subst, List, [], ◌∷◌, ◌++◌, map, length, length-append, sym, ap, ◌∙◌, arith}
use Rattle.std.specs.Prelude.{filter, sum_by, slice_index, All}
use Rattle.std.specs.FinMap.{insert, entries, len-entries, len-empty, get-empty, get-insert}
use Rattle.std.specs.Ordering.{eq_by_cmp, is_eq}
use Rattle.std.specs.declared.cmp.Ordering.{Ordering}
use Rattle.std.specs.declared.cmp.Ordering.TheVariants.{Less, Equal, Greater}
use Rattle.std.specs.Option.{option_map_or}
use Rattle.std.proofs.lemmas.List.Elements.{filter-append, All-append, All-cons, All-same, All-nil, All-head, All-tail}
use Rattle.std.proofs.lemmas.List.Sums.{sum_by-append, sum_by-cons}
use Rattle.smc_words.specs.declared.number.Number.{Number}
use Rattle.smc_words.specs.Number.{number_cmp}
use Rattle.smc_words.proofs.NumberLaws.{numbers_total, exact_numbers}
use Rattle.smc_model.specs.declared.object.Object.{Object}
use Rattle.smc_model.specs.declared.event.Event.{Event}
use Rattle.smc_model.specs.declared.event.Event.TheVariants.{Add, Write, Remove}
use Rattle.smc_model.specs.World.{World, empty_world, object_of, is_present_in, present_in, count_of, HasField, total_of, new_object, with_word, removed, changed_at, world_after, world_through}
use Rattle.std.proofs.lemmas.List.{nil_from_length}
use Rattle.smc_model.proofs.MapLaws.{values-insert}

-- the empty world

pub object_of-empty : (number : Number) → object_of empty_world number ≡ None
object_of-empty number = get-empty number_cmp number

pub present_in-empty : (coll : ℕ) → present_in empty_world coll ≡ []
present_in-empty coll =
    ap (λ es. filter (is_present_in coll) (map (λ e. e.1) es))
    (nil_from_length (entries empty_world) (sym (len-entries empty_world) ∙ len-empty number_cmp Object))

pub count_of-empty : (coll : ℕ) → count_of empty_world coll ≡ 0
count_of-empty coll = ap length (present_in-empty coll)

pub total_of-empty : (coll field : ℕ) → total_of empty_world coll field ≡ 0
total_of-empty coll field = ap (sum_by (λ object. slice_index object.words field)) (present_in-empty coll)

pub HasField-empty : (coll field : ℕ) → HasField empty_world coll field
HasField-empty coll field = All-same (λ object. field < length object.words) _ _ (present_in-empty coll) (All-nil (λ object. field < length object.words))

-- what holds of each element holds in each part

All-back : {X : Type 0} (P : X → Type 0) (front back : List X) → All P (front ++ back) → All P back
All-back P [] back all = all
All-back P (x ∷ front) back all = All-back P front back (All-tail P x (front ++ back) all)

All-front : {X : Type 0} (P : X → Type 0) (front back : List X) → All P (front ++ back) → All P front
All-front P [] back all = All-nil P
All-front P (x ∷ front) back all = All-cons P x front (All-head P x (front ++ back) all) (All-front P front back (All-tail P x (front ++ back) all))

-- lists with one more element in the middle, or not

longer : {X : Type 0} (b : Bool) (front back : List X) (x : X) → length (front ++ cond b (x ∷ back) back) ≡ length (front ++ back) + cond b 1 0
longer true front back x = grind (arith, length-append)
longer false front back x = omega arith

greater : {X : Type 0} (b : Bool) (f : X → ℕ) (front back : List X) (x : X) → sum_by f (front ++ cond b (x ∷ back) back) ≡ sum_by f (front ++ back) + cond b (f x) 0
greater true f front back x = omega (arith, sum_by-append f front (x ∷ back), sum_by-append f front back, sum_by-cons f x back)
greater false f front back x = omega arith

one_more : {X : Type 0} (b : Bool) (P : X → Type 0) (front back : List X) (x : X) → All P (front ++ back) → P x → All P (front ++ cond b (x ∷ back) back)
one_more true P front back x all p = All-append P front (x ∷ back) (All-front P front back all) (All-cons P x back p (All-back P front back all))
one_more false P front back x all p = all

-- a world with one more object

module _ (world : World) (number : Number) (coll : ℕ) (words : List ℕ) where
  -- the new object is there, and each other number has what it had
  pub object_of-added : (other : Number) → object_of (world_after world (Add number coll words)) other
      ≡ cond (eq_by_cmp number_cmp other number) (Some (new_object coll words)) (object_of world other)
  object_of-added other = get-insert numbers_total world number _ other

  -- the present objects of any collection, with the new one in its place
  pub present_in-added : object_of world number ≡ None → (chosen : ℕ) →
      (front : List Object) × (back : List Object) × (present_in world chosen ≡ front ++ back)
      × (present_in (world_after world (Add number coll words)) chosen
      ≡ front ++ cond (coll == chosen) (new_object coll words ∷ back) back)
  present_in-added h chosen =
      let t = values-insert numbers_total world number (new_object coll words) h in
      let pick = filter (is_present_in chosen) in (
        pick t.0,
        pick t.1,
        ap pick t.2 ∙ filter-append (is_present_in chosen) t.0 t.1,
        ap pick t.3 ∙ filter-append (is_present_in chosen) t.0 _,
      )

  pub count_of-added : object_of world number ≡ None → (chosen : ℕ)
      → count_of (world_after world (Add number coll words)) chosen ≡ count_of world chosen + cond (coll == chosen) 1 0
  count_of-added h chosen =
      let t = present_in-added h chosen in
      ap length t.3 ∙ longer (coll == chosen) t.0 t.1 _ ∙ ap (λ xs. length xs + cond (coll == chosen) 1 0) (sym t.2)

  pub total_of-added : object_of world number ≡ None → (chosen field : ℕ)
      → total_of (world_after world (Add number coll words)) chosen field ≡ total_of world chosen field + cond (coll == chosen) (slice_index words field) 0
  total_of-added h chosen field =
      let t = present_in-added h chosen in
      let word : Object → ℕ = λ object. slice_index object.words field in
      ap (sum_by word) t.3 ∙ greater (coll == chosen) word t.0 t.1 _ ∙ ap (λ xs. sum_by word xs + cond (coll == chosen) (slice_index words field) 0) (sym t.2)

  pub HasField-added : object_of world number ≡ None → (chosen field : ℕ) → field < length words → HasField world chosen field
      → HasField (world_after world (Add number coll words)) chosen field
  HasField-added h chosen field long all =
      let t = present_in-added h chosen in
      let P : Object → Type 0 = λ object. field < length object.words in
      All-same P _ _ t.3 (one_more (coll == chosen) P t.0 t.1 _ (All-same P _ _ (sym t.2) all) long)

-- a world with an object changed

-- a comparison that says so
equal_from_is_eq : (r : Ordering) → is_eq r ≡ true → r ≡ Equal
equal_from_is_eq Equal h = refl
equal_from_is_eq Less h = cc
equal_from_is_eq Greater h = cc

-- numbers that compare alike are one
pub same_number : (m n : Number) → eq_by_cmp number_cmp m n ≡ true → m ≡ n
same_number m n same = exact_numbers m n (equal_from_is_eq _ same)

-- the object is changed, if there is one, and each other number has what it had
pub object_of-changed : (world : World) (number : Number) (change : Object → Object) (other : Number)
    → object_of (changed_at world number change) other ≡ cond (eq_by_cmp number_cmp other number) (option_map change (object_of world number)) (object_of world other)
object_of-changed world number change other = elim (object_of world number) as (λ o. object_of world number ≡ o
    → object_of (option_map_or (λ object. insert world number (change object)) o world) other ≡ cond (eq_by_cmp number_cmp other number) (option_map change o) (object_of world other)) [
      | None ↦ λ none. elim (eq_by_cmp number_cmp other number) as (λ b. eq_by_cmp number_cmp other number ≡ b → object_of world other ≡ cond b None (object_of world other)) [
        | true ↦ λ same. ap (object_of world) (same_number other number same) ∙ none
        | false ↦ λ _. refl
      ] refl
      | Some object ↦ λ _. get-insert numbers_total world number (change object) other
    ] refl

-- one of two answers, each of which is something
either_is : {X : Type 0} (b : Bool) (x y : Option X) → IsSome x → IsSome y → IsSome (cond b x y)
either_is true x y p q = p
either_is false x y p q = q

some_map : {X Y : Type 0} (f : X → Y) (o : Option X) → IsSome o → IsSome (option_map f o)
some_map f (Some x) h = refl
some_map f None h = cc

given_changed : (world : World) (number : Number) → IsSome (object_of world number) → (at : Number) (change : Object → Object) → IsSome (object_of (changed_at world at change) number)
given_changed world number given at change =
    rw object_of-changed (elim (eq_by_cmp number_cmp number at) as (λ b. eq_by_cmp number_cmp number at ≡ b → IsSome (cond b (option_map change (object_of world at)) (object_of world number))) [
      | true ↦ λ same. some_map change _ (subst (λ (n : Number). IsSome (object_of world n)) (same_number number at same) given)
      | false ↦ λ _. given
    ] refl)

-- no number is taken out

-- what an event leaves of a number that was given
pub given_after : (world : World) (number : Number) → IsSome (object_of world number) → (event : Event) → IsSome (object_of (world_after world event) number)
given_after world number given (Add added coll words) = rw object_of-added (either_is (eq_by_cmp number_cmp number added) _ _ refl given)
given_after world number given (Write written field value) = given_changed world number given written (λ object. with_word object field value)
given_after world number given (Remove gone first) = given_changed world number given gone removed
given_after world number given _ = given

-- and what events leave
pub given_through : (world : World) (number : Number) → IsSome (object_of world number) → (events : List Event) → IsSome (object_of (world_through world events) number)
given_through world number given [] = given
given_through world number given (event ∷ events) = given_through (world_after world event) number (given_after world number given event) events
