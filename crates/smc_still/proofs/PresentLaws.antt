-- The numbers that are present in a world.
use Rattle.std.proofs.Common.{◌≡◌, ⊎_elim, ◌⊎◌, inl, inr, ℕ, suc, Bool, true, false, cond, Option, Some, List, [], ◌∷◌, map, length, refl, sym, subst, ap, ◌∙◌, T}
use Rattle.std.specs.Prelude.{IsTrue, IsSomeAnd, filter, ◌&&◌}
use Rattle.std.specs.Cmp.{eq_by_cmp_equiv}
use Rattle.std.specs.FinMap.{entries, entries_sorted, find, is_sorted, get-entries}
use Rattle.std.specs.FinMap.Entries.{below_all}
use Rattle.std.specs.Ordering.{eq_by_cmp, is_eq, is_lt}
use Rattle.std.specs.declared.cmp.Ordering.{Ordering}
use Rattle.std.specs.declared.cmp.Ordering.TheVariants.{Less, Equal, Greater}
use Rattle.smc_words.specs.declared.number.Number.{Number}
use Rattle.smc_words.specs.Number.{number_cmp}
use Rattle.smc_words.proofs.NumberLaws.{numbers_total}
use Rattle.smc_model.specs.declared.object.Object.{Object}
use Rattle.smc_model.specs.World.{World, is_present_in}
use Rattle.smc_model.specs.Scans.{PresentIn}
use Rattle.smc_model.proofs.WorldLaws.{same_number}
use Rattle.smc_still.specs.Still.{CountsAreNumbers, numbers_in}
use Rattle.smc_still.proofs.Members.{In, AreApart}

-- entries of numbers with their objects
abbrev Pairs : Type 0
Pairs = List (Number × Object)

-- the numbers of those that are present in the collection
abbrev shown : ℕ → Pairs → List Number
shown coll pairs = map (λ pair. pair.0) (filter (λ pair. is_present_in coll pair.1) pairs)

-- the object that is found is present in the collection
abbrev IsFound : ℕ → Pairs → Number → Type 0
IsFound coll pairs number = IsSomeAnd (find number_cmp number pairs) (λ object. IsTrue (is_present_in coll object))

left-of : (a b : Bool) → T (a && b) → T a
left-of true b p = tt
left-of false b p = p

right-of : (a b : Bool) → T (a && b) → T b
right-of true b p = p
right-of false b p = absurd p

not-true : false ≡ true → ⊥
not-true is = cc

is-less : (r : Ordering) → T (is_lt r) → is_eq r ≡ false
is-less Less p = refl
is-less Equal p = absurd p
is-less Greater p = absurd p

-- a number below all is not among them
below-all : (coll : ℕ) (x : Number) (pairs : Pairs) → T (below_all number_cmp x pairs) → In (shown coll pairs) x → ⊥
below-all coll x [] h = λ i. i
below-all coll x (pair ∷ later) h =
    let first = is-less (number_cmp x pair.0) (left-of _ _ h) in
    elim (is_present_in coll pair.1) as (λ b. In (map (λ p. p.0) (cond b (pair ∷ filter (λ p. is_present_in coll p.1) later) (filter (λ p. is_present_in coll p.1) later))) x → ⊥) [
      | true ↦ λ i. ⊎_elim
          (λ is. let same : is_eq (number_cmp x pair.0) ≡ true = ap (λ (n : Number). is_eq (number_cmp x n)) is ∙ (eq_by_cmp_equiv numbers_total).refl x in absurd (subst T (sym same ∙ first) tt))
          (λ r. below-all coll x later (right-of _ _ h) r) i
      | false ↦ λ i. below-all coll x later (right-of _ _ h) i
    ]

pub shown-apart : (coll : ℕ) (pairs : Pairs) → T (is_sorted number_cmp pairs) → AreApart (shown coll pairs)
shown-apart coll [] h = tt
shown-apart coll (pair ∷ later) h =
    let rest = shown-apart coll later (right-of _ _ h) in
    elim (is_present_in coll pair.1) as (λ b. AreApart (map (λ p. p.0) (cond b (pair ∷ filter (λ p. is_present_in coll p.1) later) (filter (λ p. is_present_in coll p.1) later)))) [
      | true ↦ (below-all coll pair.0 later (left-of _ _ h), rest)
      | false ↦ rest
    ]

-- what is found is among them
pub found-shown : (coll : ℕ) (pairs : Pairs) (number : Number) → IsFound coll pairs number → In (shown coll pairs) number
found-shown coll [] number = λ found. absurd found
found-shown coll (pair ∷ later) number =
    elim (eq_by_cmp number_cmp number pair.0) as (λ t. eq_by_cmp number_cmp number pair.0 ≡ t
    → IsSomeAnd (cond t (Some pair.1) (find number_cmp number later)) (λ object. IsTrue (is_present_in coll object)) → In (shown coll (pair ∷ later)) number) [
      | true ↦ λ e found. elim (is_present_in coll pair.1) as (λ b. IsTrue b → In (map (λ p. p.0) (cond b (pair ∷ filter (λ p. is_present_in coll p.1) later) (filter (λ p. is_present_in coll p.1) later))) number) [
        | true ↦ λ t. inl (sym (same_number number pair.0 e))
        | false ↦ λ t. absurd (not-true t)
      ] found
      | false ↦ λ e found. let rest = found-shown coll later number found in
          elim (is_present_in coll pair.1) as (λ b. In (map (λ p. p.0) (cond b (pair ∷ filter (λ p. is_present_in coll p.1) later) (filter (λ p. is_present_in coll p.1) later))) number) [
            | true ↦ inr rest
            | false ↦ rest
          ]
    ] refl

-- what is among them is found
pub shown-found : (coll : ℕ) (pairs : Pairs) (number : Number) → T (is_sorted number_cmp pairs) → In (shown coll pairs) number → IsFound coll pairs number
shown-found coll [] number h = λ i. absurd i
shown-found coll (pair ∷ later) number h =
    let below = left-of _ _ h in
    let rest : In (shown coll later) number → IsFound coll later number = shown-found coll later number (right-of _ _ h) in
    let apart : In (shown coll later) number → eq_by_cmp number_cmp number pair.0 ≡ true → ⊥ =
    λ (i : In (shown coll later) number) (e : eq_by_cmp number_cmp number pair.0 ≡ true). below-all coll pair.0 later below (subst (λ (n : Number). In (shown coll later) n) (same_number number pair.0 e) i) in
    let behind : In (shown coll later) number → IsFound coll (pair ∷ later) number = λ (i : In (shown coll later) number).
    elim (eq_by_cmp number_cmp number pair.0) as (λ t. eq_by_cmp number_cmp number pair.0 ≡ t → IsSomeAnd (cond t (Some pair.1) (find number_cmp number later)) (λ object. IsTrue (is_present_in coll object))) [
      | true ↦ λ e. absurd (apart i e)
      | false ↦ λ e. rest i
    ] refl in
    elim (is_present_in coll pair.1) as (λ b. is_present_in coll pair.1 ≡ b
    → In (map (λ p. p.0) (cond b (pair ∷ filter (λ p. is_present_in coll p.1) later) (filter (λ p. is_present_in coll p.1) later))) number → IsFound coll (pair ∷ later) number) [
      | true ↦ λ p i. ⊎_elim (λ is. subst (λ (n : Number). IsFound coll (pair ∷ later) n) is
          (subst (λ (t : Bool). IsSomeAnd (cond t (Some pair.1) (find number_cmp pair.0 later)) (λ object. IsTrue (is_present_in coll object)))
          (sym ((eq_by_cmp_equiv numbers_total).refl pair.0)) p))
          behind i
      | false ↦ λ p i. behind i
    ] refl

-- ---- of a world

pub numbers-apart : (world : World) (coll : ℕ) → AreApart (numbers_in world coll)
numbers-apart world coll = shown-apart coll (entries world) (entries_sorted world)

pub present-number : (world : World) (coll : ℕ) (number : Number) → PresentIn world coll number → In (numbers_in world coll) number
present-number world coll number present =
    found-shown coll (entries world) number (subst (λ (o : Option Object). IsSomeAnd o (λ object. IsTrue (is_present_in coll object))) (get-entries world number) present)

pub number-present : (world : World) (coll : ℕ) (number : Number) → In (numbers_in world coll) number → PresentIn world coll number
number-present world coll number i =
    subst (λ (o : Option Object). IsSomeAnd o (λ object. IsTrue (is_present_in coll object))) (sym (get-entries world number)) (shown-found coll (entries world) number (entries_sorted world) i)

-- they are as many as the objects

as-many : (coll : ℕ) (pairs : Pairs) → length (shown coll pairs) ≡ length (filter (is_present_in coll) (map (λ pair. pair.1) pairs))
as-many coll [] = refl
as-many coll (pair ∷ later) =
    let rest = as-many coll later in
    elim (is_present_in coll pair.1) as (λ b. length (map (λ p. p.0) (cond b (pair ∷ filter (λ p. is_present_in coll p.1) later) (filter (λ p. is_present_in coll p.1) later)))
    ≡ length (cond b (pair.1 ∷ filter (is_present_in coll) (map (λ p. p.1) later)) (filter (is_present_in coll) (map (λ p. p.1) later)))) [
      | true ↦ ap suc rest
      | false ↦ rest
    ]

pub counts-numbers : CountsAreNumbers
counts-numbers world coll = as-many coll (entries world)
