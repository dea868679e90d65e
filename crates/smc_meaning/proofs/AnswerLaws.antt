-- The rows of an answer, column by column and group by group.
use Rattle.std.proofs.Common.{◌≡◌, ℕ, suc, ◌+◌, ◌<◌, ◌≤◌, Bool, ◌||◌, true, false, cond, List, [], ◌∷◌, ◌++◌, All, length, map, filter, take, slice_get, slice_index_or, Some, refl, sym, ap, ◌∙◌, arith}
use Rattle.std.specs.List.{AllByRecursion}
use Rattle.std.proofs.lemmas.List.{map-append}
use Rattle.std.proofs.lemmas.List.Elements.{All-append, All-from_recursion}
use Rattle.smc_folds.specs.Kinds as folds
use Rattle.smc_plan.specs.Bounds.{is_number}
use Rattle.smc_plan.specs.Kinds.{IsOutput, IsPlace, IsPlan}
use Rattle.smc_plan.specs.Outputs.{OutputTree}
use Rattle.smc_plan.specs.Planned.{Planned}
use Rattle.smc_plan.specs.Typed as typed
use Rattle.smc_plan.specs.declared.leaf.Leaf.{Leaf}
use Rattle.smc_meaning.specs.Answers.{Columns, columns_of, group_key}
use Rattle.smc_meaning.specs.Cells.{CanPrint}
use Rattle.smc_meaning.specs.Groups.{shown, values_at}
use Rattle.smc_meaning.specs.Shown.{IsShowable}
use Rattle.smc_meaning.proofs.GroupLaws.{typed_leaf}
use Rattle.smc_meaning.proofs.Printable.{key-prints, shown-prints}
use Rattle.smc_meaning.proofs.RowLaws.{take-next}

-- ---- what the columns of a group show

-- a leaf can be shown
with_true : (one : Bool) → (one || true) ≡ true
with_true true = refl
with_true false = refl

leaf_showable : (leaves : List Leaf) (place : ℕ) → place < length leaves → IsShowable leaves (typed.leaf place)
leaf_showable leaves place within =
    let is = typed_leaf leaves place within in record { kind = is.kind; kind_is = is.kind_is; fits = with_true (is_number is.kind) }

pub key_showable : (leaves : List Leaf) (places : List ℕ) (i d : ℕ) → i < length places → AllByRecursion (IsPlace leaves) places
    → IsShowable leaves (typed.leaf (slice_index_or places i d))
key_showable leaves places i d within all = leaf_showable leaves (slice_index_or places i d) (All-from_recursion (IsPlace leaves) places all i d within)

-- all columns of a group can be printed
keys-print : (leaves : List Leaf) (places : List ℕ) (words : List ℕ) → AllByRecursion CanPrint (map Some (values_at leaves places words))
keys-print leaves [] words = tt
keys-print leaves (place ∷ places) words = (key-prints leaves place words, keys-print leaves places words)

group_key-prints : (plan : Planned) (rows : List (List ℕ)) → AllByRecursion CanPrint (map Some (group_key plan rows))
group_key-prints plan [] = tt
group_key-prints plan (row ∷ rows) = keys-print plan.leaves plan.by row

items-print : (kinds : List folds.Kind) (leaves : List Leaf) (items : List OutputTree) (rows : List (List ℕ)) → AllByRecursion (IsOutput leaves) items
    → AllByRecursion CanPrint (map (λ item. shown kinds leaves item rows) items)
items-print kinds leaves [] rows sound = tt
items-print kinds leaves (item ∷ items) rows sound = (shown-prints kinds leaves item rows sound.0, items-print kinds leaves items rows sound.1)

pub columns-print : (plan : Planned) (kinds : List folds.Kind) (rows : List (List ℕ)) → IsPlan plan.leaves plan → All CanPrint (columns_of plan kinds rows)
columns-print plan kinds rows sound =
    All-append CanPrint (map Some (group_key plan rows)) (map (λ item. shown kinds plan.leaves item rows) plan.items)
    (All-from_recursion CanPrint (map Some (group_key plan rows)) (group_key-prints plan rows))
    (All-from_recursion CanPrint (map (λ item. shown kinds plan.leaves item rows) plan.items) (items-print kinds plan.leaves plan.items rows sound.items))

-- ---- groups, one after another

-- rows that are chosen are no more
length-chosen : (test : Bool) (row : List ℕ) (rows : List (List ℕ)) (most : ℕ) → length rows ≤ most → length (cond test (row ∷ rows) rows) ≤ suc most
length-chosen true row rows most few = omega (arith, few)
length-chosen false row rows most few = omega (arith, few)

pub length-filter-le : (p : List ℕ → Bool) (rows : List (List ℕ)) → length (filter p rows) ≤ length rows
length-filter-le p [] = omega arith
length-filter-le p (row ∷ rows) = length-chosen (p row) row (filter p rows) (length rows) (length-filter-le p rows)

-- the rows of groups, with one more
pub group-more : (f : List (List ℕ) → Columns) (g : List ℕ → List (List ℕ)) (firsts : List (List ℕ)) (place : ℕ) (first : List ℕ) (so_far longer : List Columns) (made : Columns)
    → slice_get firsts place ≡ Some first → so_far ≡ map f (map g (take place firsts)) → made ≡ f (g first) → longer ≡ so_far ++ made ∷ []
    → longer ≡ map f (map g (take (place + 1) firsts))
group-more f g firsts place first so_far longer made found is made_is grown =
    grown
    ∙ ap (λ front. front ++ made ∷ []) is
    ∙ ap (λ one. map f (map g (take place firsts)) ++ one ∷ []) made_is
    ∙ sym (ap (λ some. map f (map g some)) (take-next firsts place first found)
    ∙ ap (map f) (map-append g (take place firsts) (first ∷ []))
    ∙ map-append f (map g (take place firsts)) (g first ∷ []))
