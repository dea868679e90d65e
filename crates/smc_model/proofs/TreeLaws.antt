-- What happens to a tree happens to the world that it holds.
use Rattle.std.proofs.Common.{◌≡◌, ◌≢◌, ℕ, Bool, false, Option, Some, None, IsSome, refl, sym, ap, ◌∙◌, subst}
use Rattle.std.specs.Prelude.{slice_get, option_and_then, IsSomeAnd}
use Rattle.std.specs.Option.{option_map_or}
use Rattle.std.specs.BTreeMap.{BTreeMap, get}
use Rattle.std.specs.FinMap.{insert}
use Rattle.smc_words.specs.declared.number.Number.{Number}
use Rattle.smc_words.specs.Number.{number_cmp}
use Rattle.smc_words.proofs.NumberLaws.{numbers_total, exact_numbers}
use Rattle.smc_model.specs.declared.object.Object.{Object}
use Rattle.smc_model.specs.declared.event.Event.TheVariants.{Write, Remove}
use Rattle.smc_words.specs.declared.layout.TheConstants.{BLANK}
use Rattle.smc_model.specs.World.{object_of, with_word, removed, changed_at, IsAllowed, Fits}
use Rattle.smc_model.specs.Tree.{world_of, SetsAt, ChangesAt, HasWordAt, IsPresentAt}
use Rattle.smc_model.proofs.MapLaws.{get-from_tree, from_entries-update}

pub object_of-tree : (tree : BTreeMap Number Object) (number : Number) → object_of (world_of tree) number ≡ get number_cmp tree number
object_of-tree tree number = get-from_tree numbers_total tree.entries number

pub world_of-set : (tree next : BTreeMap Number Object) (number : Number) (object : Object) → SetsAt tree next number object → world_of next ≡ insert (world_of tree) number object
world_of-set tree next number object sets = from_entries-update numbers_total exact_numbers tree.entries next.entries number object sets

-- a change of an object that is there is one of the world
pub world_of-changed : (tree next : BTreeMap Number Object) (number : Number) (change : Object → Object) → ChangesAt tree next number change
    → world_of next ≡ changed_at (world_of tree) number change
world_of-changed tree next number change changes =
    world_of-set tree next number (change changes.0) changes.2
    ∙ sym (ap (λ o. option_map_or (λ object. insert (world_of tree) number (change object)) o (world_of tree)) (object_of-tree tree number ∙ changes.1))

-- a fact on what the tree has, as one on what the world has
some_word : (o : Option Object) (field : ℕ) → IsSomeAnd o (λ object. IsSome (slice_get object.words field)) → IsSome (option_and_then (λ object. slice_get object.words field) o)
some_word (Some object) field h = h
some_word None field h = absurd h

some_word_back : (o : Option Object) (field : ℕ) → IsSome (option_and_then (λ object. slice_get object.words field) o) → IsSomeAnd o (λ object. IsSome (slice_get object.words field))
some_word_back (Some object) field h = h
some_word_back None field h = cc

some_present : (o : Option Object) (present : Bool) → IsSomeAnd o (λ object. present ≡ object.present) → IsSome o × (present ≡ option_map_or (λ object. object.present) o false)
some_present (Some object) present h = (refl, h)
some_present None present h = absurd h

some_present_back : (o : Option Object) (present : Bool) → IsSome o × (present ≡ option_map_or (λ object. object.present) o false) → IsSomeAnd o (λ object. present ≡ object.present)
some_present_back (Some object) present h = h.1
some_present_back None present h = let n = h.0 in cc

module _ (tree : BTreeMap Number Object) (number : Number) where
  pub wrote : (next : BTreeMap Number Object) (field value : ℕ) → HasWordAt tree number field → value ≢ BLANK → ChangesAt tree next number (λ object. with_word object field value)
      → Fits (world_of tree) (Write number field value) (world_of next)
  wrote next field value has proper changes = (
    (subst (λ (o : Option Object). IsSome (option_and_then (λ object. slice_get object.words field) o)) (sym (object_of-tree tree number)) (some_word _ field has), proper),
    world_of-changed tree next number _ changes,
  )

  pub not_wrote : (field value : ℕ) → ¬ (HasWordAt tree number field) → ¬ (IsAllowed (world_of tree) (Write number field value))
  not_wrote field value lacks allowed =
      lacks (some_word_back _ field (subst (λ (o : Option Object). IsSome (option_and_then (λ object. slice_get object.words field) o)) (object_of-tree tree number) allowed.0))

  pub took_out : (next : BTreeMap Number Object) (first : Bool) → IsPresentAt tree number first → ChangesAt tree next number removed
      → Fits (world_of tree) (Remove number first) (world_of next)
  took_out next first is changes = (
    subst (λ (o : Option Object). IsSome o × (first ≡ option_map_or (λ object. object.present) o false)) (sym (object_of-tree tree number)) (some_present _ first is),
    world_of-changed tree next number removed changes,
  )

  pub not_took_out : (first : Bool) → ¬ (IsPresentAt tree number first) → ¬ (IsAllowed (world_of tree) (Remove number first))
  not_took_out first lacks allowed =
      lacks (some_present_back _ first (subst (λ (o : Option Object). IsSome o × (first ≡ option_map_or (λ object. object.present) o false)) (object_of-tree tree number) allowed))
