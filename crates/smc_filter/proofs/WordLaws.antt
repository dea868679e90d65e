-- Leaves of one word, and values that are compared with them.
use Rattle.std.proofs.Common.{◌≡◌, ℕ, zero, suc, ◌+◌, ◌-◌, ◌^◌, ◌≤◌, ◌<◌, max, ℤ, pos, ◌*ℤ◌, List, [], ◌∷◌, take, drop, get_or, Option, None, Some, IfSome, SomeIff, FitsSigned, slice_get, slice_index, sym, ap, ◌∙◌, arith}
use Rattle.std.specs.Int.{w64}
use Rattle.std.specs.Ordering.{int_cmp}
use Rattle.std.proofs.lemmas.Int.{ints}
use Rattle.std.proofs.lemmas.List.Sums.{sum_by-append}
use Rattle.std.proofs.lemmas.List.{get_or-drop, get_or-take}
use Rattle.smc_query.specs.declared.cond.Op.{Op}
use Rattle.smc_types.specs.Columns.{width_of}
use Rattle.smc_types.specs.Rows as rows
use Rattle.smc_types.specs.declared.column.FieldType.{FieldType}
use Rattle.smc_plan.specs.Leaves.{leaves_words}
use Rattle.smc_plan.specs.Typed as typed
use Rattle.smc_plan.specs.Typed.{TypedTree}
use Rattle.smc_plan.specs.declared.leaf.Leaf.{Leaf}
use Rattle.smc_meaning.specs.Comparing.{compare}
use Rattle.smc_meaning.specs.Kept.{holds}
use Rattle.smc_meaning.specs.Values.{Cell, cell_of, leaf_value, number, value_of}
use Rattle.smc_filter.specs.Words.{ComparesAs, unit_in}

-- ---- scales

-- a number compares with one of no more decimals as with this one's units at its scale
pub compare-brought : (units other : ℤ) (scale larger : ℕ) → scale ≤ larger
    → compare (number other larger) (number units scale) ≡ int_cmp other (units *ℤ pos (10 ^ (larger - scale)))
compare-brought units other scale larger within =
    let most : max larger scale ≡ larger = omega (arith, within) in
    let none : larger - larger ≡ 0 = omega arith in
    let same : other *ℤ pos 1 ≡ other = omega (arith, ints) in
    ap (λ n. int_cmp (other *ℤ pos (10 ^ (n - larger))) (units *ℤ pos (10 ^ (n - scale)))) most
    ∙ ap (λ n. int_cmp (other *ℤ pos (10 ^ n)) (units *ℤ pos (10 ^ (larger - scale)))) none
    ∙ ap (λ x. int_cmp x (units *ℤ pos (10 ^ (larger - scale)))) same

-- the same of units whose product may be too large, where it is not
pub compares-brought : (units seen factor : ℤ) (scale larger : ℕ) (made : Option ℤ) → scale ≤ larger → seen ≡ units → factor ≡ pos (10 ^ (larger - scale))
    → SomeIff made (FitsSigned w64 (seen *ℤ factor)) (seen *ℤ factor)
    → IfSome made (λ x. (other : ℤ) → compare (number other larger) (number units scale) ≡ int_cmp other x)
compares-brought units seen factor scale larger None within seen_is factor_is made_is = tt
compares-brought units seen factor scale larger (Some x) within seen_is factor_is made_is =
    λ other. compare-brought units other scale larger within
    ∙ ap (int_cmp other) (sym (made_is.1 ∙ ap (λ u. u *ℤ factor) seen_is ∙ ap (λ f. units *ℤ f) factor_is))

-- a column compares with a number as with its units at the scale of the column
pub compares-number : (kind : FieldType) (larger : ℕ) (constant : Cell) (made : ℤ)
    → ((words : List ℕ) → cell_of kind (rows.value_of kind words) ≡ number (unit_in kind (slice_index words 0)) larger)
    → ((other : ℤ) → compare (number other larger) constant ≡ int_cmp other made) → ComparesAs kind constant made
compares-number kind larger constant made value same words = ap (λ cell. compare cell constant) (value words) ∙ same (unit_in kind (slice_index words 0))

-- ---- leaves

words-cons : (leaf : Leaf) (leaves : List Leaf) → leaves_words (leaf ∷ leaves) ≡ width_of leaf.kind + leaves_words leaves
words-cons leaf leaves = omega (arith, sum_by-append (λ (l : Leaf). width_of l.kind) (leaf ∷ []) leaves)

-- a leaf of a word stands within the words of all
pub leaf-within : (leaves : List Leaf) (place : ℕ) (leaf : Leaf) → slice_get leaves place ≡ Some leaf → width_of leaf.kind ≡ 1 → leaves_words (take place leaves) < leaves_words leaves
leaf-within [] place leaf found wide = cc
leaf-within (x ∷ xs) zero leaf found wide =
    let same : width_of x.kind ≡ 1 = (let is : x ≡ leaf = cc in ap (λ (l : Leaf). width_of l.kind) is ∙ wide) in omega (arith, words-cons x xs, same)
leaf-within (x ∷ xs) (suc place) leaf found wide = omega (arith, words-cons x (take place xs), words-cons x xs, leaf-within xs place leaf found wide)

-- the value of a leaf of one word
value-leaf : (leaves : List Leaf) (place : ℕ) (leaf : Leaf) (words : List ℕ) → slice_get leaves place ≡ Some leaf → width_of leaf.kind ≡ 1
    → value_of leaves (typed.leaf place) words ≡ cell_of leaf.kind (rows.value_of leaf.kind (take 1 (drop (leaves_words (take place leaves)) words)))
value-leaf leaves place leaf words found wide =
    ap (λ (l : Option Leaf). leaf_value leaves place l words) found
    ∙ ap (λ n. cell_of leaf.kind (rows.value_of leaf.kind (take n (drop (leaves_words (take place leaves)) words)))) wide

-- the first word behind a place
first-behind : (at : ℕ) (words : List ℕ) → get_or (take 1 (drop at words)) 0 0 ≡ get_or words at 0
first-behind at words = get_or-take 1 (drop at words) 0 0 (omega arith) ∙ get_or-drop at words 0 0 ∙ ap (λ n. get_or words n 0) (omega arith)

-- a leaf of one word compares as its word
pub compare-leaf : (leaves : List Leaf) (op : Op) (place at : ℕ) (leaf : Leaf) (constant : Cell) (units seen : ℤ) (right : TypedTree) (words : List ℕ)
    → slice_get leaves place ≡ Some leaf → width_of leaf.kind ≡ 1 → at ≡ leaves_words (take place leaves) → ComparesAs leaf.kind constant units → seen ≡ units → value_of leaves right words ≡ constant
    → holds op (compare (value_of leaves (typed.leaf place) words) (value_of leaves right words)) ≡ holds op (int_cmp (unit_in leaf.kind (get_or words at 0)) seen)
compare-leaf leaves op place at leaf constant units seen right words found wide at_is compares seen_is right_is =
    let start : ℕ = leaves_words (take place leaves) in
    let front : List ℕ = take 1 (drop start words) in
    ap (holds op)
    (ap (λ cell. compare cell (value_of leaves right words)) (value-leaf leaves place leaf words found wide)
    ∙ ap (compare (cell_of leaf.kind (rows.value_of leaf.kind front))) right_is
    ∙ compares front
    ∙ ap (λ word. int_cmp (unit_in leaf.kind word) units) (first-behind start words ∙ ap (λ n. get_or words n 0) (sym at_is))
    ∙ ap (int_cmp (unit_in leaf.kind (get_or words at 0))) (sym seen_is))
