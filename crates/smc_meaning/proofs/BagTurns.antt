-- The answer over rows does not tell in which order they came.
use Rattle.std.proofs.Common.{◌≡◌, ℕ, ℤ, pos, ◌+ℤ◌, Bool, true, false, if◌then◌else◌, ◌||◌, List, [], ◌∷◌, ◌++◌, length, map, filter, fold, Option, Some, Ok, refl, sym, ap, ◌∙◌, subst, append_assoc, append-nil, arith}
use Rattle.std.specs.List.{AllByRecursion, list_any}
use Rattle.std.specs.List.Sorted.{IsPermutation}
use Rattle.std.specs.Cmp.{Equal-is, IsTotalOrder}
use Rattle.std.specs.Cmp.Lexicographic.{slice_cmp}
use Rattle.std.specs.Option.{option_and_then, option_map}
use Rattle.std.specs.Ordering.{int_cmp, nat_cmp}
use Rattle.std.specs.declared.cmp.Ordering.{Ordering}
use Rattle.std.proofs.lemmas.Bool.{and_parts, false≢true}
use Rattle.std.proofs.lemmas.Cmp.{int_cmp_total, nat_list_cmp_total}
use Rattle.std.proofs.lemmas.Int.{ints}
use Rattle.std.proofs.lemmas.List.{map-append}
use Rattle.std.proofs.lemmas.List.Folds.{list_any-append}
use Rattle.std.proofs.lemmas.List.Sums.{fold-append}
use Rattle.std.proofs.lemmas.List.Sorted.{IsPermutation-map, length_permutation, list_any-IsPermutation}
use Rattle.std.proofs.lemmas.Map.Lookups.{CmpEqualImpliesEq, exact_bytes, exact_signed}
use Rattle.smc_folds.specs.Kinds as folds
use Rattle.smc_query.specs.Trees.{Aggregate, total, average, least, greatest}
use Rattle.smc_plan.specs.Kinds.{IsOutput, IsPlace, IsPlan, kind_in}
use Rattle.smc_plan.specs.Outputs.{OutputTree, count, aggregate, fold as fold_of}
use Rattle.smc_plan.specs.Planned.{Planned}
use Rattle.smc_plan.specs.Typed as typed
use Rattle.smc_plan.specs.Typed.{TypedTree}
use Rattle.smc_plan.specs.declared.kind.Kind.{Kind}
use Rattle.smc_plan.specs.declared.leaf.Leaf.{Leaf}
use Rattle.smc_meaning.specs.Answers.{Columns, answer_of, columns_of, group_key}
use Rattle.smc_meaning.specs.Comparing.{compare}
use Rattle.smc_meaning.specs.Groups.{is_scaled, aggregate_of, average_of, average_scale, divided, first_rows, folded, groups, groups_by, key_of, rows_like, same_cell, same_cells, same_key, scale_in, shown, sum_of, units_of, values_at, values_of}
use Rattle.smc_meaning.specs.Kept.{is_kept, kept_rows}
use Rattle.smc_meaning.specs.Kinds.{IsOf}
use Rattle.smc_meaning.specs.Orders.{first_of, row_order}
use Rattle.smc_meaning.specs.Sorting.{sorted}
use Rattle.smc_meaning.specs.Values.{Cell, number, units_at, value_of}
use Rattle.smc_meaning.proofs.BoundLaws.{value_has}
use Rattle.smc_meaning.proofs.EndTurns.{greatest-turn, least-turn, order-is}
use Rattle.smc_meaning.proofs.Exchanges.{Turns, bag-same, chosen-turns, turned}
use Rattle.smc_meaning.proofs.GroupLaws.{typed_leaf}
use Rattle.smc_meaning.proofs.RowOrder.{cell_exact, row_exact, row_total}
use Rattle.smc_meaning.proofs.SortLaws.{sorted-permutation}

abbrev Row : Type 0
Row = List ℕ

abbrev Rows : Type 0
Rows = List Row

-- ---- what a column shows of a group

values-turned : (leaves : List Leaf) (of : TypedTree) (front : Rows) (x y : Row) (back : Rows)
    → values_of leaves of (front ++ x ∷ y ∷ back) ≡ values_of leaves of front ++ value_of leaves of x ∷ value_of leaves of y ∷ values_of leaves of back
values-turned leaves of front x y back = map-append (value_of leaves of) front (x ∷ y ∷ back)

-- what does not tell neighbours apart in a list of values does not in one of rows
values-turn : {A : Type 0} (f : List Cell → A) (leaves : List Leaf) (of : TypedTree) → Turns f → Turns (λ rows. f (values_of leaves of rows))
values-turn f leaves of turns front x y back =
    ap f (values-turned leaves of front x y back)
    ∙ turns (values_of leaves of front) (value_of leaves of x) (value_of leaves of y) (values_of leaves of back)
    ∙ ap f (sym (values-turned leaves of front y x back))

sum-turns : Turns sum_of
sum-turns front x y back =
    let add : ℤ → Cell → ℤ = λ all cell. all +ℤ units_of cell in
    let so_far : ℤ = fold add (pos 0) front in
    let same : (so_far +ℤ units_of x) +ℤ units_of y ≡ (so_far +ℤ units_of y) +ℤ units_of x = omega (arith, ints) in
    fold-append add (pos 0) front (x ∷ y ∷ back) ∙ ap (λ s. fold add s back) same ∙ sym (fold-append add (pos 0) front (y ∷ x ∷ back))

length-turns : {X : Type 0} → Turns (λ (xs : List X). length xs)
length-turns front x y back = sym (length_permutation (front ++ x ∷ y ∷ back) (front ++ y ∷ x ∷ back) (turned front x y back))

averaged : ℕ → ℤ → ℕ → Option Cell
averaged scale units parts = Some (number (divided (units_at (average_scale scale) units scale) parts) (average_scale scale))

average-some : (scale : ℕ) (front : List Cell) (cell : Cell) (back : List Cell)
    → average_of scale (front ++ cell ∷ back) ≡ averaged scale (sum_of (front ++ cell ∷ back)) (length (front ++ cell ∷ back))
unfolding averaged
average-some scale [] cell back = refl
average-some scale (first ∷ front) cell back = refl

average-turns : (scale : ℕ) → Turns (average_of scale)
average-turns scale front x y back =
    average-some scale front x (y ∷ back)
    ∙ ap (λ units. averaged scale units (length (front ++ x ∷ y ∷ back))) (sum-turns front x y back)
    ∙ ap (averaged scale (sum_of (front ++ y ∷ x ∷ back))) (length-turns front x y back)
    ∙ sym (average-some scale front y (x ∷ back))

folded-turns : (kinds : List folds.Kind) (name : List ℕ) (scale : ℕ) → Turns (folded kinds name scale)
folded-turns kinds name scale front x y back =
    ap (λ (units : List ℤ). option_map (λ u. number u (if is_scaled kinds name then scale else 0)) (option_and_then (λ answer. answer) (folds.answer_by kinds name units)))
    (sym (sorted-permutation int_cmp int_cmp_total exact_signed (map units_of (front ++ x ∷ y ∷ back)) (map units_of (front ++ y ∷ x ∷ back))
    (IsPermutation-map units_of (front ++ x ∷ y ∷ back) (front ++ y ∷ x ∷ back) (turned front x y back))))

-- all values of an expression are of its kind
all-of : (leaves : List Leaf) (of : TypedTree) (kind : Kind) (rows : Rows) → kind_in leaves of ≡ Ok kind → AllByRecursion (IsOf kind) (values_of leaves of rows)
all-of leaves of kind [] is = tt
all-of leaves of kind (row ∷ rows) is = (value_has leaves of row kind is, all-of leaves of kind rows is)

aggregate-turns : (leaves : List Leaf) (call : Aggregate) (of : TypedTree) (kind : Kind) → kind_in leaves of ≡ Ok kind
    → Turns (λ rows. aggregate_of call (scale_in kind) (values_of leaves of rows))
aggregate-turns leaves total of kind is = values-turn (λ cells. Some (number (sum_of cells) (scale_in kind))) leaves of
    (λ front x y back. ap (λ units. Some (number units (scale_in kind))) (sum-turns front x y back))
aggregate-turns leaves average of kind is = values-turn (average_of (scale_in kind)) leaves of (average-turns (scale_in kind))
aggregate-turns leaves least of kind is = λ front x y back.
    let one = values-turned leaves of front x y back in
    let other = values-turned leaves of front y x back in
    ap (aggregate_of least (scale_in kind)) one
    ∙ least-turn kind (values_of leaves of front) (value_of leaves of x) (value_of leaves of y) (values_of leaves of back)
    (subst (AllByRecursion (IsOf kind)) one (all-of leaves of kind (front ++ x ∷ y ∷ back) is))
    (subst (AllByRecursion (IsOf kind)) other (all-of leaves of kind (front ++ y ∷ x ∷ back) is))
    ∙ ap (aggregate_of least (scale_in kind)) (sym other)
aggregate-turns leaves greatest of kind is = λ front x y back.
    let one = values-turned leaves of front x y back in
    let other = values-turned leaves of front y x back in
    ap (aggregate_of greatest (scale_in kind)) one
    ∙ greatest-turn kind (values_of leaves of front) (value_of leaves of x) (value_of leaves of y) (values_of leaves of back)
    (subst (AllByRecursion (IsOf kind)) one (all-of leaves of kind (front ++ x ∷ y ∷ back) is))
    (subst (AllByRecursion (IsOf kind)) other (all-of leaves of kind (front ++ y ∷ x ∷ back) is))
    ∙ ap (aggregate_of greatest (scale_in kind)) (sym other)

shown-turns : (kinds : List folds.Kind) (leaves : List Leaf) (item : OutputTree) → IsOutput leaves item → Turns (shown kinds leaves item)
shown-turns kinds leaves count sound = λ front x y back. ap (λ n. Some (number (pos n) 0)) (length-turns front x y back)
shown-turns kinds leaves (aggregate call of) sound = aggregate-turns leaves call of.typed of.kind sound.0
shown-turns kinds leaves (fold_of name of) sound = values-turn (folded kinds name (scale_in of.kind)) leaves of.typed (folded-turns kinds name (scale_in of.kind))

items-turn : (kinds : List folds.Kind) (leaves : List Leaf) (items : List OutputTree) → AllByRecursion (IsOutput leaves) items
    → Turns (λ rows. map (λ item. shown kinds leaves item rows) items)
items-turn kinds leaves [] sound = λ front x y back. refl
items-turn kinds leaves (item ∷ items) sound = λ front x y back.
    ap (λ first. first ∷ map (λ i. shown kinds leaves i (front ++ x ∷ y ∷ back)) items) (shown-turns kinds leaves item sound.0 front x y back)
    ∙ ap (λ rest. shown kinds leaves item (front ++ y ∷ x ∷ back) ∷ rest) (items-turn kinds leaves items sound.1 front x y back)

-- ---- keys

-- values of one kind that are not told apart are one
one_cell : (kind : Kind) (one other : Cell) → IsOf kind one → IsOf kind other → same_cell one other ≡ true → one ≡ other
one_cell kind one other is also same = cell_exact one other (order-is kind one other is also ∙ (Equal-is (compare one other)).0 same)

one_key : (leaves : List Leaf) (places : List ℕ) (x y : Row) → AllByRecursion (IsPlace leaves) places
    → same_cells (values_at leaves places x) (values_at leaves places y) ≡ true → values_at leaves places x ≡ values_at leaves places y
one_key leaves [] x y sound same = refl
one_key leaves (place ∷ places) x y sound same =
    let kind = typed_leaf leaves place sound.0 in
    let a : Cell = value_of leaves (typed.leaf place) x in
    let b : Cell = value_of leaves (typed.leaf place) y in
    let (first, rest) = and_parts (same_cell a b) (same_cells (values_at leaves places x) (values_at leaves places y)) same in
    ap (λ cell. cell ∷ values_at leaves places x)
    (one_cell kind.kind a b (value_has leaves (typed.leaf place) x kind.kind kind.kind_is) (value_has leaves (typed.leaf place) y kind.kind kind.kind_is) first)
    ∙ ap (λ cells. b ∷ cells) (one_key leaves places x y sound.1 rest)

module _ (plan : Planned) (sound : AllByRecursion (IsPlace plan.leaves) plan.by) where
  key-same : (x y : Row) → same_key plan x y ≡ true → key_of plan x ≡ key_of plan y
  key-same x y same = one_key plan.leaves plan.by x y sound same

  turned-key : (x y : Row) → same_key plan x y ≡ true → same_key plan y x ≡ true
  turned-key x y same =
      let key = key-same x y same in
      ap (λ k. same_cells k (key_of plan x)) (sym key) ∙ ap (same_cells (key_of plan x)) key ∙ same

  both-ways : (one other : Bool) → (one ≡ true → other ≡ true) → (other ≡ true → one ≡ true) → other ≡ one
  both-ways true other there back = there refl
  both-ways false true there back = sym (back refl)
  both-ways false false there back = refl

  key-turns : (x y : Row) → same_key plan y x ≡ same_key plan x y
  key-turns x y = both-ways (same_key plan x y) (same_key plan y x) (turned-key x y) (turned-key y x)

  -- the key of the rows that have this one
  key-like : (first : Row) (rows : Rows) → group_key plan (rows_like plan first rows) ≡ (if list_any (same_key plan first) rows then key_of plan first else [])
  key-like first [] = refl
  key-like first (row ∷ rows) = by (same_key plan first row) refl (key-like first rows)
    where
      by : (test : Bool) → same_key plan first row ≡ test → group_key plan (rows_like plan first rows) ≡ (if list_any (same_key plan first) rows then key_of plan first else [])
          → group_key plan (if test then row ∷ rows_like plan first rows else rows_like plan first rows) ≡ (if test || list_any (same_key plan first) rows then key_of plan first else [])
      by true is later = sym (key-same first row is)
      by false is later = later

  key-like-turns : (first : Row) → Turns (λ rows. group_key plan (rows_like plan first rows))
  key-like-turns first front x y back =
      key-like first (front ++ x ∷ y ∷ back)
      ∙ ap (λ (b : Bool). if b then key_of plan first else [])
      (list_any-IsPermutation (same_key plan first) (front ++ x ∷ y ∷ back) (front ++ y ∷ x ∷ back) (turned front x y back))
      ∙ sym (key-like first (front ++ y ∷ x ∷ back))

  -- ---- first rows

  first_rows-before : (one other rows : Rows) → ((row : Row) → list_any (λ r. same_key plan r row) one ≡ list_any (λ r. same_key plan r row) other)
      → first_rows plan one rows ≡ first_rows plan other rows
  first_rows-before one other [] same = refl
  first_rows-before one other (row ∷ rows) same =
      ap (λ (b : Bool). if b then first_rows plan (one ++ row ∷ []) rows else row ∷ first_rows plan (one ++ row ∷ []) rows) (same row)
      ∙ ap (λ (later : Rows). if list_any (λ r. same_key plan r row) other then later else row ∷ later)
      (first_rows-before (one ++ row ∷ []) (other ++ row ∷ []) rows (λ next.
      list_any-append (λ r. same_key plan r next) one (row ∷ [])
      ∙ ap (λ b. b || list_any (λ r. same_key plan r next) (row ∷ [])) (same next)
      ∙ sym (list_any-append (λ r. same_key plan r next) other (row ∷ []))))

  joined : (test : Bool) (row : Row) (later tail : Rows) → (if test then later ++ tail else row ∷ (later ++ tail)) ≡ (if test then later else row ∷ later) ++ tail
  joined true row later tail = refl
  joined false row later tail = refl

  first_rows-parts : (before rows others : Rows) → first_rows plan before (rows ++ others) ≡ first_rows plan before rows ++ first_rows plan (before ++ rows) others
  first_rows-parts before [] others = rw (append-nil before) refl
  first_rows-parts before (row ∷ rows) others =
      let test : Bool = list_any (λ r. same_key plan r row) before in
      ap (λ (later : Rows). if test then later else row ∷ later)
      (first_rows-parts (before ++ row ∷ []) rows others
      ∙ ap (λ (b : Rows). first_rows plan (before ++ row ∷ []) rows ++ first_rows plan b others) (append_assoc before (row ∷ []) rows))
      ∙ joined test row (first_rows plan (before ++ row ∷ []) rows) (first_rows plan (before ++ row ∷ rows) others)

  -- a row, where it was not seen
  abbrev unless : Bool → Row → Rows → Rows
  unless seen row later = if seen then later else row ∷ later

  or-false : (b : Bool) → (b || false) ≡ b
  or-false true = refl
  or-false false = refl

  first-two : (before : Rows) (x y : Row) (back : Rows)
      → first_rows plan before (x ∷ y ∷ back)
      ≡ unless (list_any (λ r. same_key plan r x) before) x
      (unless (list_any (λ r. same_key plan r y) before || same_key plan x y) y (first_rows plan ((before ++ x ∷ []) ++ y ∷ []) back))
  first-two before x y back =
      ap (λ (b : Bool). unless (list_any (λ r. same_key plan r x) before) x (unless b y (first_rows plan ((before ++ x ∷ []) ++ y ∷ []) back)))
      (list_any-append (λ r. same_key plan r y) before (x ∷ []) ∙ ap (λ b. list_any (λ r. same_key plan r y) before || b) (or-false (same_key plan x y)))

  module _ (h : Row → Columns) (same : (x y : Row) → same_key plan x y ≡ true → h x ≡ h y) (order : Columns → Columns → Ordering) (total' : IsTotalOrder order) (exact : CmpEqualImpliesEq order) where
    by_tests : (front : List Columns) (x y : Row) (later : Rows) (seen_x seen_y one : Bool) → (one ≡ true → seen_x ≡ seen_y) → (one ≡ true → h x ≡ h y)
        → sorted order (front ++ map h (unless seen_x x (unless (seen_y || one) y later))) ≡ sorted order (front ++ map h (unless seen_y y (unless (seen_x || one) x later)))
    by_tests front x y later true true one seen key = refl
    by_tests front x y later true false false seen key = refl
    by_tests front x y later false true false seen key = refl
    by_tests front x y later false false false seen key =
        sym (sorted-permutation order total' exact (front ++ h x ∷ h y ∷ map h later) (front ++ h y ∷ h x ∷ map h later) (turned front (h x) (h y) (map h later)))
    by_tests front x y later false false true seen key = ap (λ c. sorted order (front ++ c ∷ map h later)) (key refl)
    by_tests front x y later true false true seen key = absurd (false≢true (sym (seen refl)))
    by_tests front x y later false true true seen key = absurd (false≢true (seen refl))

    firsts-turn : Turns (λ rows. sorted order (map h (first_rows plan [] rows)))
    firsts-turn front x y back =
        let before : List Columns = map h (first_rows plan [] front) in
        let seen : Row → Bool = λ row. list_any (λ r. same_key plan r row) front in
        let later : Rows = first_rows plan ((front ++ x ∷ []) ++ y ∷ []) back in
        let other : Rows = first_rows plan ((front ++ y ∷ []) ++ x ∷ []) back in
        let same_later : other ≡ later = first_rows-before ((front ++ y ∷ []) ++ x ∷ []) ((front ++ x ∷ []) ++ y ∷ []) back (λ row.
        ap (list_any (λ r. same_key plan r row)) (append_assoc front (y ∷ []) (x ∷ []))
        ∙ list_any-IsPermutation (λ r. same_key plan r row) (front ++ y ∷ x ∷ []) (front ++ x ∷ y ∷ []) (turned front y x [])
        ∙ ap (list_any (λ r. same_key plan r row)) (sym (append_assoc front (x ∷ []) (y ∷ [])))) in
        let parts = λ (one two : Row).
        ap (map h) (first_rows-parts [] front (one ∷ two ∷ back) ∙ ap (λ (rest : Rows). first_rows plan [] front ++ rest) (first-two front one two back))
        ∙ map-append h (first_rows plan [] front) (unless (seen one) one (unless (seen two || same_key plan one two) two (first_rows plan ((front ++ one ∷ []) ++ two ∷ []) back))) in
        ap (sorted order) (parts x y)
        ∙ by_tests before x y later (seen x) (seen y) (same_key plan x y)
        (λ is. ap (λ k. list_any (λ r. same_cells (key_of plan r) k) front) (key-same x y is)) (same x y)
        ∙ ap (λ (list : Rows). sorted order (before ++ map h (unless (seen y) y (unless (seen x || same_key plan x y) x list)))) (sym same_later)
        ∙ ap (λ (b : Bool). sorted order (before ++ map h (unless (seen y) y (unless (seen x || b) x other)))) (sym (key-turns x y))
        ∙ ap (sorted order) (sym (parts y x))

-- ---- groups

module _ (plan : Planned) (kinds : List folds.Kind) (sound : IsPlan plan.leaves plan) where
  -- the columns of the rows that have the key of one
  like-turns : (first : Row) → Turns (λ rows. columns_of plan kinds (rows_like plan first rows))
  like-turns first front x y back =
      let one : Rows = front ++ x ∷ y ∷ back in
      let other : Rows = front ++ y ∷ x ∷ back in
      ap (λ key. map Some key ++ map (λ item. shown kinds plan.leaves item (rows_like plan first one)) plan.items) (key-like-turns plan sound.by first front x y back)
      ∙ ap (λ items. map Some (group_key plan (rows_like plan first other)) ++ items)
      (chosen-turns (same_key plan first) (λ rows. map (λ item. shown kinds plan.leaves item rows) plan.items) (items-turn kinds plan.leaves plan.items sound.items) front x y back)

  each-like : (firsts one other : Rows) → ((first : Row) → columns_of plan kinds (rows_like plan first one) ≡ columns_of plan kinds (rows_like plan first other))
      → map (columns_of plan kinds) (map (λ first. rows_like plan first one) firsts) ≡ map (λ first. columns_of plan kinds (rows_like plan first other)) firsts
  each-like [] one other same = refl
  each-like (first ∷ firsts) one other same =
      ap (λ c. c ∷ map (columns_of plan kinds) (map (λ f. rows_like plan f one) firsts)) (same first)
      ∙ ap (λ rest. columns_of plan kinds (rows_like plan first other) ∷ rest) (each-like firsts one other same)

  no-key : (rows : Rows) → plan.by ≡ [] → group_key plan rows ≡ []
  no-key [] none = refl
  no-key (row ∷ rows) none = ap (λ by. values_at plan.leaves by row) none

  groups-turn : (by : List ℕ) → plan.by ≡ by → Turns (λ rows. sorted (row_order plan.sort) (map (columns_of plan kinds) (groups_by plan by rows)))
  groups-turn [] none front x y back =
      let one : Rows = front ++ x ∷ y ∷ back in
      let other : Rows = front ++ y ∷ x ∷ back in
      ap (λ columns. columns ∷ [])
      (ap (λ key. map Some key ++ map (λ item. shown kinds plan.leaves item one) plan.items) (no-key one none ∙ sym (no-key other none))
      ∙ ap (λ items. map Some (group_key plan other) ++ items) (items-turn kinds plan.leaves plan.items sound.items front x y back))
  groups-turn (place ∷ places) some front x y back =
      let order = row_order plan.sort in
      let one : Rows = front ++ x ∷ y ∷ back in
      let other : Rows = front ++ y ∷ x ∷ back in
      let h : Row → Columns = λ first. columns_of plan kinds (rows_like plan first other) in
      ap (sorted order) (each-like (first_rows plan [] one) one other (λ first. like-turns first front x y back))
      ∙ firsts-turn plan sound.by h (λ a b same. ap (λ key. columns_of plan kinds (filter (λ row. same_cells key (key_of plan row)) other)) (key-same plan sound.by a b same))
      order (row_total plan.sort) (row_exact plan.sort) front x y back
      ∙ ap (sorted order) (sym (each-like (first_rows plan [] other) other other (λ first. refl)))

  -- the answer does not tell in which order the rows came
  pub answer-bag : (rows others : Rows) → IsPermutation rows others → answer_of plan kinds others ≡ answer_of plan kinds rows
  answer-bag rows others same =
      ap (first_of plan.first)
      (bag-same (slice_cmp nat_cmp) nat_list_cmp_total exact_bytes (λ list. sorted (row_order plan.sort) (map (columns_of plan kinds) (groups plan (kept_rows plan list))))
      (chosen-turns (is_kept plan) (λ list. sorted (row_order plan.sort) (map (columns_of plan kinds) (groups plan list))) (groups-turn plan.by refl)) rows others same)
