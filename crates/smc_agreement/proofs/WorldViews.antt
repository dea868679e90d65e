-- What an event makes of the plain world, seen number by number.
use Rattle.std.proofs.Common.{◌≡◌, ◌≢◌, ℕ, ◌==◌, ◌&&◌, ◌<◌, Bool, true, false, Option, Some, None, List, [], ◌∷◌, zero, suc, refl, sym, ap, ◌∙◌, subst, arith}
use Rattle.std.specs.Prelude.{IsSome, is_some, cond, option_map, option_and_then, length, slice_index, slice_get, slice_set, if◌then◌else◌}
use Rattle.std.specs.Option.{option_map_or}
use Rattle.std.specs.Ordering.{eq_by_cmp}
use Rattle.std.proofs.lemmas.Cmp.{eq_by_cmp_equiv}
use Rattle.std.proofs.lemmas.Bool.Decides.{nat_tests}
use Rattle.smc_words.specs.Number.{number_cmp}
use Rattle.smc_words.specs.declared.number.Number.{Number}
use Rattle.smc_model.specs.declared.event.Event.{Event}
use Rattle.smc_model.specs.declared.event.Event.TheVariants as event
use Rattle.smc_model.specs.declared.object.Object.{Object}
use Rattle.smc_model.specs.World.{World, object_of, new_object, with_word, removed, changed_at, world_after}
use Rattle.smc_model.proofs.WorldLaws as W
use Rattle.smc_words.proofs.NumberLaws.{numbers_total}
use Rattle.smc_rules.specs.Reads.{object}
use Rattle.smc_rules.specs.Memory.{Memory}
use Rattle.smc_rules.specs.State.{world_told}
use Rattle.smc_rules.specs.State as S
use Rattle.smc_core.specs.declared.local.Stand.{Stand}

-- whether the event leaves the world as it was, as most do
abbrev pub is_quiet : Option Event → Bool
is_quiet None = true
is_quiet (Some (event.Add number coll words)) = false
is_quiet (Some (event.Write number field value)) = false
is_quiet (Some (event.Remove number first)) = false
is_quiet (Some event) = true

pub quiet_world : (w : World) (e : Option Event) → is_quiet e ≡ true → world_told w e ≡ w
quiet_world w None q = refl
quiet_world w (Some (event.Add number coll words)) q = absurd (cc)
quiet_world w (Some (event.Write number field value)) q = absurd (cc)
quiet_world w (Some (event.Remove number first)) q = absurd (cc)
quiet_world w (Some (event.Look number here)) q = refl
quiet_world w (Some (event.Read number field value)) q = refl
quiet_world w (Some (event.Begin scan coll)) q = refl
quiet_world w (Some (event.Visit scan number)) q = refl
quiet_world w (Some (event.End scan)) q = refl
quiet_world w (Some event.Enter) q = refl
quiet_world w (Some event.Leave) q = refl
quiet_world w (Some (event.Told pass length)) q = refl
quiet_world w (Some (event.Refused coll full)) q = refl

-- what holds in a world holds after a quiet event
pub in_world : (P : S.State → Type 0) (memory : Memory) (stands : ℕ → Stand) (w : World) (e : Option Event) → is_quiet e ≡ true
    → P (record { memory = memory; stands = stands; world = w }) → P (record { memory = memory; stands = stands; world = world_told w e })
in_world P memory stands w e q h = subst (λ (v : World). P (record { memory = memory; stands = stands; world = v })) (sym (quiet_world w e q)) h

-- a number compares alike with itself, and with no other
self_equal : (n : Number) → eq_by_cmp number_cmp n n ≡ true
self_equal n = (eq_by_cmp_equiv numbers_total).refl n

other_unequal : (m n : Number) → m ≢ n → eq_by_cmp number_cmp m n ≡ false
other_unequal m n ne = go (eq_by_cmp number_cmp m n) refl
  where
    go : (b : Bool) → eq_by_cmp number_cmp m n ≡ b → b ≡ false
    go true e = absurd (ne (W.same_number m n e))
    go false e = refl

-- numbers with other parts are other numbers
pub apart : (a e c a' e' c' : ℕ) → (a' == a && (e' == e && c' == c)) ≡ false → object a' e' c' ≢ object a e c
apart a e c a' e' c' t is =
    let ea : a' ≡ a = ap (λ (n : Number). n.incarnation) is in
    let ee : e' ≡ e = ap (λ (n : Number). n.entry) is in
    let ec : c' ≡ c = ap (λ (n : Number). n.coll) is in grind (arith, nat_tests, ea, ee, ec, t)

module _ (w : World) (n : Number) where
  -- an object that is added is there, and each other number has what it had
  pub added-same : (c : ℕ) (words : List ℕ) → object_of (world_after w (event.Add n c words)) n ≡ Some (new_object c words)
  added-same c words = W.object_of-added w n c words n ∙ ap (λ (b : Bool). cond b (Some (new_object c words)) (object_of w n)) (self_equal n)

  pub added-other : (c : ℕ) (words : List ℕ) (m : Number) → m ≢ n → object_of (world_after w (event.Add n c words)) m ≡ object_of w m
  added-other c words m ne = W.object_of-added w n c words m ∙ ap (λ (b : Bool). cond b (Some (new_object c words)) (object_of w m)) (other_unequal m n ne)

  -- one that is changed is changed, and each other number has what it had
  pub changed-same : (change : Object → Object) → object_of (changed_at w n change) n ≡ option_map change (object_of w n)
  changed-same change = W.object_of-changed w n change n ∙ ap (λ (b : Bool). cond b (option_map change (object_of w n)) (object_of w n)) (self_equal n)

  pub changed-other : (change : Object → Object) (m : Number) → m ≢ n → object_of (changed_at w n change) m ≡ object_of w m
  changed-other change m ne = W.object_of-changed w n change m ∙ ap (λ (b : Bool). cond b (option_map change (object_of w n)) (object_of w m)) (other_unequal m n ne)

-- what is told of a number is told of its object
abbrev pub has_one : Option Object → Bool
has_one object = is_some object

abbrev pub is_there : Option Object → Bool
is_there object = option_map_or (λ (o : Object). o.present) object false

abbrev pub word_in : Option Object → ℕ → Option ℕ
word_in object k = option_and_then (λ (o : Object). slice_get o.words k) object

-- a list with one word written, there and elsewhere
there : (ws : List ℕ) (k value : ℕ) → IsSome (slice_get ws k) → slice_get (slice_set ws k value) k ≡ Some value
there [] k value is = absurd (cc)
there (w ∷ ws) zero value is = refl
there (w ∷ ws) (suc k) value is = there ws k value is

elsewhere : (ws : List ℕ) (field value k : ℕ) → k ≢ field → slice_get (slice_set ws field value) k ≡ slice_get ws k
elsewhere [] field value k ne = refl
elsewhere (w ∷ ws) zero value zero ne = absurd (ne refl)
elsewhere (w ∷ ws) zero value (suc k) ne = refl
elsewhere (w ∷ ws) (suc field) value zero ne = refl
elsewhere (w ∷ ws) (suc field) value (suc k) ne = elsewhere ws field value k (λ e. ne (ap suc e))

-- a word of a record that is written, at its field and at others
pub written-there : (o : Option Object) (field value : ℕ) → IsSome (word_in o field) → word_in (option_map (λ (x : Object). with_word x field value) o) field ≡ Some value
written-there None field value is = absurd (cc)
written-there (Some o) field value is = there o.words field value is

pub written-elsewhere : (o : Option Object) (field value k : ℕ) → k ≢ field → word_in (option_map (λ (x : Object). with_word x field value) o) k ≡ word_in o k
written-elsewhere None field value k ne = refl
written-elsewhere (Some o) field value k ne = elsewhere o.words field value k ne

pub written-given : (o : Option Object) (field value : ℕ) → has_one (option_map (λ (x : Object). with_word x field value) o) ≡ has_one o
written-given None field value = refl
written-given (Some o) field value = refl

pub written-present : (o : Option Object) (field value : ℕ) → is_there (option_map (λ (x : Object). with_word x field value) o) ≡ is_there o
written-present None field value = refl
written-present (Some o) field value = refl

pub removed-given : (o : Option Object) → has_one (option_map removed o) ≡ has_one o
removed-given None = refl
removed-given (Some o) = refl

pub removed-present : (o : Option Object) → is_there (option_map removed o) ≡ false
removed-present None = refl
removed-present (Some o) = refl

pub removed-word : (o : Option Object) (k : ℕ) → word_in (option_map removed o) k ≡ word_in o k
removed-word None k = refl
removed-word (Some o) k = refl

-- the numbers with these parts are one
one_number : (a e c a' e' c' : ℕ) → (a' == a && (e' == e && c' == c)) ≡ true → object a' e' c' ≡ object a e c
one_number a e c a' e' c' t =
    let ea : a' ≡ a = grind (arith, nat_tests, t) in
    let ee : e' ≡ e = grind (arith, nat_tests, t) in
    let ec : c' ≡ c = grind (arith, nat_tests, t) in cc

module _ (w : World) (a e c a' e' c' : ℕ) where
  -- what each number has after an add
  pub added-view : (d : ℕ) (words : List ℕ)
      → object_of (world_after w (event.Add (object a e c) d words)) (object a' e' c') ≡ (if a' == a && (e' == e && c' == c) then Some (new_object d words) else object_of w (object a' e' c'))
  added-view d words = go (a' == a && (e' == e && c' == c)) refl
    where
      go : (b : Bool) → (a' == a && (e' == e && c' == c)) ≡ b → object_of (world_after w (event.Add (object a e c) d words)) (object a' e' c') ≡ (if b then Some (new_object d words) else object_of w (object a' e' c'))
      go true t = ap (object_of (world_after w (event.Add (object a e c) d words))) (one_number a e c a' e' c' t) ∙ added-same w (object a e c) d words
      go false t = added-other w (object a e c) d words (object a' e' c') (apart a e c a' e' c' t)

  -- what each number has after a change of one of them
  pub changed-view : (change : Object → Object)
      → object_of (changed_at w (object a e c) change) (object a' e' c') ≡ (if a' == a && (e' == e && c' == c) then option_map change (object_of w (object a e c)) else object_of w (object a' e' c'))
  changed-view change = go (a' == a && (e' == e && c' == c)) refl
    where
      go : (b : Bool) → (a' == a && (e' == e && c' == c)) ≡ b
          → object_of (changed_at w (object a e c) change) (object a' e' c') ≡ (if b then option_map change (object_of w (object a e c)) else object_of w (object a' e' c'))
      go true t = ap (object_of (changed_at w (object a e c) change)) (one_number a e c a' e' c' t) ∙ changed-same w (object a e c) change
      go false t = changed-other w (object a e c) change (object a' e' c') (apart a e c a' e' c' t)

-- a word of a list, and that it is within
pub get_value : (words : List ℕ) (k v : ℕ) → slice_get words k ≡ Some v → (k < length words) × (slice_index words k ≡ v)
get_value [] k v is = absurd (cc)
get_value (w ∷ words) zero v is = (omega arith, cc)
get_value (w ∷ words) (suc k) v is = let r = get_value words k v is in let lt = r.0 in (omega (arith, lt), r.1)

pub get_index : (words : List ℕ) (k : ℕ) → k < length words → slice_get words k ≡ Some (slice_index words k)
get_index [] k lt = absurd (omega arith)
get_index (w ∷ words) zero lt = refl
get_index (w ∷ words) (suc k) lt = get_index words k (omega arith)
