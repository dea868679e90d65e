-- Values that are reckoned column by column.
use Rattle.std.proofs.Common.{◌≡◌, ℕ, zero, suc, ◌+◌, ◌-◌, ◌^◌, ◌<◌, max, ℤ, pos, ◌+ℤ◌, ◌-ℤ◌, ◌*ℤ◌, List, [], ◌∷◌, ◌++◌, length, map, take, drop, replicate, get_or, fold, Option, None, Some, IfSome, slice_get, refl, sym, ap, ◌∙◌, arith}
use Rattle.std.proofs.lemmas.Int.{ints}
use Rattle.std.proofs.lemmas.List.Sums.{sum_by-append}
use Rattle.std.proofs.lemmas.List.{get_or-drop, get_or-take}
use Rattle.smc_types.specs.Columns.{width_of}
use Rattle.smc_types.specs.Rows as rows
use Rattle.smc_types.specs.declared.column.FieldType.{FieldType}
use Rattle.smc_types.specs.declared.column.FieldType.TheVariants as of
use Rattle.smc_plan.specs.Leaves.{leaves_words}
use Rattle.smc_plan.specs.declared.kind.TheConstants.{HUNDREDTHS}
use Rattle.smc_plan.specs.Typed as typed
use Rattle.smc_plan.specs.Typed.{TypedTree}
use Rattle.smc_plan.specs.declared.leaf.Leaf.{Leaf}
use Rattle.smc_meaning.specs.Groups.{sum_of, units_of, values_of}
use Rattle.smc_meaning.specs.Values.{Cell, cell_of, day, leaf_value, less, number, plus, times, units_at, value_of}
use Rattle.smc_kernel.specs.Columns.{all_of, cell_in, pairs, reckoned, unit_in, unit_of}
use Rattle.smc_kernel.specs.declared.units.Reckoning.TheVariants.{Plus, Less, Times}
use Rattle.smc_kernel.specs.Batches.{row_at, rows_at}
use Rattle.smc_kernel.specs.declared.column.Unit.{Unit as UnitOf}
use Rattle.smc_kernel.specs.declared.column.Unit.TheVariants.{Number, Day}

-- ---- pairs

-- what comes of the first pairs, with one more
pub pairs-next : {A B C : Type 0} (made : A → B → C) (ones : List A) (others : List B) (i : ℕ) (one : A) (other : B) → i < length ones → i < length others
    → pairs made (take (suc i) ones) (take (suc i) others) ≡ pairs made (take i ones) (take i others) ++ made (get_or ones i one) (get_or others i other) ∷ []
pairs-next made (x ∷ xs) (y ∷ ys) zero one other within inside = refl
pairs-next made (x ∷ xs) (y ∷ ys) (suc i) one other within inside = ap (λ rest. made x y ∷ rest) (pairs-next made xs ys i one other (omega (arith, within)) (omega (arith, inside)))
pairs-next made [] ys i one other within inside = absurd (omega (arith, within))
pairs-next made (x ∷ xs) [] i one other within inside = absurd (omega (arith, inside))

-- pairs of values of two units
pub pairs-seen : (from to out : UnitOf) (cells : Cell → Cell → Cell) (made : ℤ → ℤ → ℤ)
    → ((x y : ℤ) → cell_in out (made x y) ≡ cells (cell_in from x) (cell_in to y)) → (ones others : List ℤ)
    → map (cell_in out) (pairs made ones others) ≡ pairs cells (map (cell_in from) ones) (map (cell_in to) others)
pairs-seen from to out cells made same [] others = refl
pairs-seen from to out cells made same (x ∷ xs) [] = refl
pairs-seen from to out cells made same (x ∷ xs) (y ∷ ys) = ap (λ first. first ∷ map (cell_in out) (pairs made xs ys)) (same x y) ∙ ap (λ rest. cells (cell_in from x) (cell_in to y) ∷ rest) (pairs-seen from to out cells made same xs ys)

-- ---- values of expressions

pub values-plus : (leaves : List Leaf) (left right : TypedTree) (rows : List (List ℕ)) → values_of leaves (typed.sum left right) rows ≡ pairs plus (values_of leaves left rows) (values_of leaves right rows)
values-plus leaves left right [] = refl
values-plus leaves left right (row ∷ rows) = ap (λ rest. plus (value_of leaves left row) (value_of leaves right row) ∷ rest) (values-plus leaves left right rows)

pub values-less : (leaves : List Leaf) (left right : TypedTree) (rows : List (List ℕ))
    → values_of leaves (typed.difference left right) rows ≡ pairs less (values_of leaves left rows) (values_of leaves right rows)
values-less leaves left right [] = refl
values-less leaves left right (row ∷ rows) = ap (λ rest. less (value_of leaves left row) (value_of leaves right row) ∷ rest) (values-less leaves left right rows)

pub values-times : (leaves : List Leaf) (left right : TypedTree) (rows : List (List ℕ))
    → values_of leaves (typed.product left right) rows ≡ pairs times (values_of leaves left rows) (values_of leaves right rows)
values-times leaves left right [] = refl
values-times leaves left right (row ∷ rows) = ap (λ rest. times (value_of leaves left row) (value_of leaves right row) ∷ rest) (values-times leaves left right rows)

-- the same value in each row
pub values-number : (leaves : List Leaf) (units scale : ℕ) (rows : List (List ℕ)) (count : ℕ) → length rows ≡ count
    → values_of leaves (typed.number units scale) rows ≡ replicate count (number (pos units) scale)
values-number leaves units scale rows count is = same rows ∙ ap (λ n. replicate n (number (pos units) scale)) is
  where
    same : (rows : List (List ℕ)) → values_of leaves (typed.number units scale) rows ≡ replicate (length rows) (number (pos units) scale)
    same [] = refl
    same (row ∷ rows) = ap (λ rest. number (pos units) scale ∷ rest) (same rows)

pub values-day : (leaves : List Leaf) (days : ℤ) (rows : List (List ℕ)) (count : ℕ) → length rows ≡ count → values_of leaves (typed.day days) rows ≡ replicate count (day days)
values-day leaves days rows count is = same rows ∙ ap (λ n. replicate n (day days)) is
  where
    same : (rows : List (List ℕ)) → values_of leaves (typed.day days) rows ≡ replicate (length rows) (day days)
    same [] = refl
    same (row ∷ rows) = ap (λ rest. day days ∷ rest) (same rows)

pub map-replicate : {A B : Type 0} (f : A → B) (count : ℕ) (x : A) → map f (replicate count x) ≡ replicate count (f x)
map-replicate f zero x = refl
map-replicate f (suc count) x = ap (λ rest. f x ∷ rest) (map-replicate f count x)

-- ---- sums

-- all units together are the sum of the values
pub all-units : (unit : UnitOf) (units : List ℤ) → all_of units ≡ sum_of (map (cell_in unit) units)
all-units unit units = folded unit (pos 0) units
  where
    folded : (unit : UnitOf) (start : ℤ) (units : List ℤ) → fold (λ all u. all +ℤ u) start units ≡ fold (λ all c. all +ℤ units_of c) start (map (cell_in unit) units)
    folded unit start [] = refl
    folded (Number scale) start (x ∷ xs) = folded (Number scale) (start +ℤ x) xs
    folded Day start (x ∷ xs) = folded Day (start +ℤ x) xs

-- ---- leaves

-- the value of a column of one word
pub leaf-value : (kind : FieldType) (unit : UnitOf) (words : List ℕ) → unit_of kind ≡ Some unit
    → cell_of kind (rows.value_of kind words) ≡ cell_in unit (unit_in kind (get_or words 0 0))
leaf-value of.Count unit words is = let same : Number 0 ≡ unit = cc in ap (λ (u : UnitOf). cell_in u (unit_in of.Count (get_or words 0 0))) same
leaf-value of.Amount unit words is = let same : Number HUNDREDTHS ≡ unit = cc in ap (λ (u : UnitOf). cell_in u (unit_in of.Amount (get_or words 0 0))) same
leaf-value of.Rate unit words is = let same : Number HUNDREDTHS ≡ unit = cc in ap (λ (u : UnitOf). cell_in u (unit_in of.Rate (get_or words 0 0))) same
leaf-value of.Day unit words is = let same : Day ≡ unit = cc in ap (λ (u : UnitOf). cell_in u (unit_in of.Day (get_or words 0 0))) same
leaf-value (of.Text width) unit words is = cc
leaf-value (of.RefTo table) unit words is = cc

pub one-word : (kind : FieldType) (unit : UnitOf) → unit_of kind ≡ Some unit → width_of kind ≡ 1
one-word of.Count unit is = refl
one-word of.Amount unit is = refl
one-word of.Rate unit is = refl
one-word of.Day unit is = refl
one-word (of.Text width) unit is = cc
one-word (of.RefTo table) unit is = cc

-- the value of a leaf of one word in a row
pub value-leaf : (leaves : List Leaf) (place at : ℕ) (leaf : Leaf) (unit : UnitOf) (words : List ℕ) → slice_get leaves place ≡ Some leaf → unit_of leaf.kind ≡ Some unit
    → at ≡ leaves_words (take place leaves) → value_of leaves (typed.leaf place) words ≡ cell_in unit (unit_in leaf.kind (get_or words at 0))
value-leaf leaves place at leaf unit words found is at_is =
    let wide : width_of leaf.kind ≡ 1 = one-word leaf.kind unit is in
    let start : ℕ = leaves_words (take place leaves) in
    ap (λ (l : Option Leaf). leaf_value leaves place l words) found ∙ leaf-value leaf.kind unit (take (width_of leaf.kind) (drop start words)) is
    ∙ ap (λ word. cell_in unit (unit_in leaf.kind word))
    (ap (λ n. get_or (take n (drop start words)) 0 0) wide ∙ get_or-take 1 (drop start words) 0 0 (omega arith) ∙ get_or-drop start words 0 0
    ∙ ap (λ n. get_or words n 0) (omega (arith, at_is)))

-- the word of a row that may lack
slice-map : (at : ℕ) (rows : List (List ℕ)) (place : ℕ) → get_or (map (λ row. get_or row at 0) rows) place 0 ≡ get_or (get_or rows place []) at 0
slice-map at [] place = refl
slice-map at (row ∷ rows) zero = refl
slice-map at (row ∷ rows) (suc place) = slice-map at rows place

-- the values of a leaf of one word in rows at some places
pub values-leaf : (leaves : List Leaf) (place at : ℕ) (leaf : Leaf) (unit : UnitOf) (rows : List (List ℕ)) (column : List ℕ) (places : List ℕ) → slice_get leaves place ≡ Some leaf
    → unit_of leaf.kind ≡ Some unit → at ≡ leaves_words (take place leaves) → column ≡ map (λ row. get_or row at 0) rows
    → values_of leaves (typed.leaf place) (rows_at rows places) ≡ map (cell_in unit) (map (λ p. unit_in leaf.kind (get_or column p 0)) places)
values-leaf leaves place at leaf unit rows column [] found is at_is column_is = refl
values-leaf leaves place at leaf unit rows column (p ∷ places) found is at_is column_is =
    ap (λ (first : Cell). first ∷ values_of leaves (typed.leaf place) (rows_at rows places))
    (value-leaf leaves place at leaf unit (row_at rows p) found is at_is
    ∙ ap (λ word. cell_in unit (unit_in leaf.kind word)) (sym (ap (λ (xs : List ℕ). get_or xs p 0) column_is ∙ slice-map at rows p)))
    ∙ ap (λ (rest : List Cell). cell_in unit (unit_in leaf.kind (get_or column p 0)) ∷ rest) (values-leaf leaves place at leaf unit rows column places found is at_is column_is)

-- ---- columns that are reckoned

pub plus-seen : (from to : UnitOf) (s t scale : ℕ) (a b : ℤ) (ones ones' others others' made : List ℤ) → from ≡ Number s → to ≡ Number t → scale ≡ max s t
    → a ≡ pos (10 ^ (scale - s)) → b ≡ pos (10 ^ (scale - t)) → ones' ≡ ones → others' ≡ others → made ≡ pairs (reckoned (Plus a b)) ones' others'
    → map (cell_in (Number scale)) made ≡ pairs plus (map (cell_in from) ones) (map (cell_in to) others)
plus-seen from to s t scale a b ones ones' others others' made from_is to_is scale_is a_is b_is one_is other_is is =
    ap (map (cell_in (Number scale))) (is ∙ ap (λ (xs : List ℤ). pairs (reckoned (Plus a b)) xs others') one_is ∙ ap (λ (ys : List ℤ). pairs (reckoned (Plus a b)) ones ys) other_is)
    ∙ pairs-seen from to (Number scale) plus (reckoned (Plus a b)) (λ x y. rw (from_is, to_is, a_is, b_is, scale_is) refl) ones others

pub less-seen : (from to : UnitOf) (s t scale : ℕ) (a b : ℤ) (ones ones' others others' made : List ℤ) → from ≡ Number s → to ≡ Number t → scale ≡ max s t
    → a ≡ pos (10 ^ (scale - s)) → b ≡ pos (10 ^ (scale - t)) → ones' ≡ ones → others' ≡ others → made ≡ pairs (reckoned (Less a b)) ones' others'
    → map (cell_in (Number scale)) made ≡ pairs less (map (cell_in from) ones) (map (cell_in to) others)
less-seen from to s t scale a b ones ones' others others' made from_is to_is scale_is a_is b_is one_is other_is is =
    ap (map (cell_in (Number scale))) (is ∙ ap (λ (xs : List ℤ). pairs (reckoned (Less a b)) xs others') one_is ∙ ap (λ (ys : List ℤ). pairs (reckoned (Less a b)) ones ys) other_is)
    ∙ pairs-seen from to (Number scale) less (reckoned (Less a b)) (λ x y. rw (from_is, to_is, a_is, b_is, scale_is) refl) ones others

pub later-seen : (from to : UnitOf) (t : ℕ) (ones ones' others others' made : List ℤ) → from ≡ Day → to ≡ Number t
    → ones' ≡ ones → others' ≡ others → made ≡ pairs (reckoned (Plus (pos 1) (pos 1))) ones' others'
    → map (cell_in Day) made ≡ pairs plus (map (cell_in from) ones) (map (cell_in to) others)
later-seen from to t ones ones' others others' made from_is to_is one_is other_is is =
    ap (map (cell_in Day)) (is ∙ ap (λ (xs : List ℤ). pairs (reckoned (Plus (pos 1) (pos 1))) xs others') one_is ∙ ap (λ (ys : List ℤ). pairs (reckoned (Plus (pos 1) (pos 1))) ones ys) other_is)
    ∙ pairs-seen from to Day plus (reckoned (Plus (pos 1) (pos 1))) (λ x y. rw (from_is, to_is) (ap day (omega (arith, ints)))) ones others

pub earlier-seen : (from to : UnitOf) (t : ℕ) (ones ones' others others' made : List ℤ) → from ≡ Day → to ≡ Number t
    → ones' ≡ ones → others' ≡ others → made ≡ pairs (reckoned (Less (pos 1) (pos 1))) ones' others'
    → map (cell_in Day) made ≡ pairs less (map (cell_in from) ones) (map (cell_in to) others)
earlier-seen from to t ones ones' others others' made from_is to_is one_is other_is is =
    ap (map (cell_in Day)) (is ∙ ap (λ (xs : List ℤ). pairs (reckoned (Less (pos 1) (pos 1))) xs others') one_is ∙ ap (λ (ys : List ℤ). pairs (reckoned (Less (pos 1) (pos 1))) ones ys) other_is)
    ∙ pairs-seen from to Day less (reckoned (Less (pos 1) (pos 1))) (λ x y. rw (from_is, to_is) (ap day (omega (arith, ints)))) ones others

pub times-seen : (from to : UnitOf) (s t scale : ℕ) (ones ones' others others' made : List ℤ) → from ≡ Number s → to ≡ Number t → scale ≡ s + t
    → ones' ≡ ones → others' ≡ others → made ≡ pairs (reckoned Times) ones' others'
    → map (cell_in (Number scale)) made ≡ pairs times (map (cell_in from) ones) (map (cell_in to) others)
times-seen from to s t scale ones ones' others others' made from_is to_is scale_is one_is other_is is =
    ap (map (cell_in (Number scale))) (is ∙ ap (λ (xs : List ℤ). pairs (reckoned Times) xs others') one_is ∙ ap (λ (ys : List ℤ). pairs (reckoned Times) ones ys) other_is)
    ∙ pairs-seen from to (Number scale) times (reckoned Times) (λ x y. rw (from_is, to_is, scale_is) refl) ones others

-- ---- expressions of two operands

pub sum-values : (leaves : List Leaf) (tree left right left' right' : TypedTree) (rows : List (List ℕ)) (one other made : List Cell) → tree ≡ typed.sum left right → left' ≡ left → right' ≡ right
    → values_of leaves left' rows ≡ one → values_of leaves right' rows ≡ other → made ≡ pairs plus one other → values_of leaves tree rows ≡ made
sum-values leaves tree left right left' right' rows one other made is left_is right_is one_is other_is made_is =
    rw (is, ← left_is, ← right_is, made_is, ← one_is, ← other_is) (values-plus leaves left' right' rows)

pub difference-values : (leaves : List Leaf) (tree left right left' right' : TypedTree) (rows : List (List ℕ)) (one other made : List Cell) → tree ≡ typed.difference left right → left' ≡ left
    → right' ≡ right → values_of leaves left' rows ≡ one → values_of leaves right' rows ≡ other → made ≡ pairs less one other → values_of leaves tree rows ≡ made
difference-values leaves tree left right left' right' rows one other made is left_is right_is one_is other_is made_is =
    rw (is, ← left_is, ← right_is, made_is, ← one_is, ← other_is) (values-less leaves left' right' rows)

pub product-values : (leaves : List Leaf) (tree left right left' right' : TypedTree) (rows : List (List ℕ)) (one other made : List Cell) → tree ≡ typed.product left right → left' ≡ left
    → right' ≡ right → values_of leaves left' rows ≡ one → values_of leaves right' rows ≡ other → made ≡ pairs times one other → values_of leaves tree rows ≡ made
product-values leaves tree left right left' right' rows one other made is left_is right_is one_is other_is made_is =
    rw (is, ← left_is, ← right_is, made_is, ← one_is, ← other_is) (values-times leaves left' right' rows)

-- what holds of each answer of one kind holds where there is one
pub each-some : {X : Type 0} (P Q : X → Type 0) (answer : Option X) → ((x : X) → P x → Q x) → IfSome answer P → IfSome answer Q
each-some P Q None then holds = tt
each-some P Q (Some x) then holds = then x holds

-- ---- the words of leaves

words-cons : (leaf : Leaf) (leaves : List Leaf) → leaves_words (leaf ∷ leaves) ≡ width_of leaf.kind + leaves_words leaves
words-cons leaf leaves = omega (arith, sum_by-append (λ (l : Leaf). width_of l.kind) (leaf ∷ []) leaves)

-- a leaf of a word stands within the words of all
pub leaf-within : (leaves : List Leaf) (place : ℕ) (leaf : Leaf) → slice_get leaves place ≡ Some leaf → width_of leaf.kind ≡ 1 → leaves_words (take place leaves) < leaves_words leaves
leaf-within [] place leaf found wide = cc
leaf-within (x ∷ xs) zero leaf found wide =
    let same : width_of x.kind ≡ 1 = (let is : x ≡ leaf = cc in ap (λ (l : Leaf). width_of l.kind) is ∙ wide) in omega (arith, words-cons x xs, same)
leaf-within (x ∷ xs) (suc place) leaf found wide = omega (arith, words-cons x (take place xs), words-cons x xs, leaf-within xs place leaf found wide)
