-- Planning puts leaves behind those that are there, none of them twice.
use Rattle.std.proofs.Common.{◌≡◌, ℕ, List, [], ◌∷◌, Option, Some, None, Result, Ok, Err, refl, sym, ap, ◌∙◌, subst, arith}
use Rattle.smc_query.specs.Trees.{Word, PathTree, ExprTree, CondTree, CallTree, ItemTree, KeyTree, QueryTree}
use Rattle.smc_query.specs.Trees as query
use Rattle.smc_types.specs.declared.catalog.Catalog.{Catalog}
use Rattle.smc_plan.specs.Answers.{and_then}
use Rattle.smc_plan.specs.Conditions.{ConditionTree, either, both, negation}
use Rattle.smc_plan.specs.Conds.{compared, ranged, typed_cond}
use Rattle.smc_plan.specs.Edits.{PlannedEdit, edited_field, edited_parts, written}
use Rattle.smc_plan.specs.Exprs.{day_typed, difference_typed, field_typed, leaf_typed, minus_typed, number_typed, product_typed, sum_typed, text_typed, typed_expr}
use Rattle.smc_plan.specs.Items.{aggregated, folded, known, planned_call, planned_item}
use Rattle.smc_plan.specs.Laws.{AreDifferent, QueriesDiffer, EditsDiffer}
use Rattle.smc_plan.specs.Leaves.{leaf_of}
use Rattle.smc_plan.specs.Orders.{order_key}
use Rattle.smc_plan.specs.Outputs.{OutputTree, count}
use Rattle.smc_plan.specs.Planned.{Planned, placed_path, placed_paths, planned_filter, planned_items, planned_key, planned_keys, planned_parts, table_or_fault, with_leaves}
use Rattle.smc_plan.specs.Planning.{Made, Planning, ◌>>=◌, each, given, made, placed}
use Rattle.smc_plan.specs.Tables.{table_named}
use Rattle.smc_plan.specs.Typed.{KindedTree}
use Rattle.smc_plan.specs.declared.fault.PlanFault.{PlanFault}
use Rattle.smc_plan.specs.declared.leaf.Leaf.{Leaf}
use Rattle.smc_plan.specs.declared.plan.OrderKey.{OrderKey}
use Rattle.smc_plan.specs.declared.table.Field.{Field}
use Rattle.smc_plan.proofs.LeafLaws.{Extends, extends-on, extends-same, placed-extends}

-- two steps that succeed, one after another
pub and_then-Ok : {A B : Type 0} (first : Result A PlanFault) (later : A → Result B PlanFault) (all : B)
    → and_then first later ≡ Ok all → (one : A) × (first ≡ Ok one) × (later one ≡ Ok all)
and_then-Ok (Ok one) later all is = (one, refl, is)
and_then-Ok (Err fault) later all is = absurd cc

-- what is planned has the leaves before it, and others behind
abbrev pub Grows : {A : Type 0} → Planning A → Type 0
Grows {A} plan = (leaves : List Leaf) (all : Made A) → plan leaves ≡ Ok all → Extends leaves all.leaves

-- ---- the ways of planning

-- parts with the same leaves
extends-made : {A : Type 0} (old : List Leaf) (one all : Made A) → ◌≡◌ {A = Result (Made A) PlanFault} (Ok one) (Ok all) → Extends old one.leaves → Extends old all.leaves
extends-made {A} old one all is extends = let same : one ≡ all = cc in subst (λ (other : Made A). Extends old other.leaves) same extends

pub grows-given : {A : Type 0} (part : Result A PlanFault) → Grows (given part)
grows-given part leaves all is =
    let step = and_then-Ok part (λ one. Ok (made leaves one)) all is in extends-made leaves (made leaves step.0) all step.2 (extends-same leaves)

grows-then : {A B : Type 0} (first : Planning A) (later : A → Planning B) → Grows first → ((part : A) → Grows (later part)) → Grows (first >>= later)
grows-then first later one rest leaves all is =
    let step = and_then-Ok (first leaves) (λ first-made. later first-made.part first-made.leaves) all is in
    extends-on leaves step.0.leaves all.leaves (one leaves step.0 step.1) (rest step.0.part step.0.leaves all step.2)

pub grows-each : {A B : Type 0} (plan : A → Planning B) → ((element : A) → Grows (plan element)) → (list : List A) → Grows (each plan list)
grows-each plan grows [] = grows-given (Ok [])
grows-each plan grows (element ∷ elements) =
    grows-then (plan element) (λ first. each plan elements >>= (λ rest. given (Ok (first ∷ rest)))) (grows element)
    (λ first. grows-then (each plan elements) (λ rest. given (Ok (first ∷ rest))) (grows-each plan grows elements) (λ rest. grows-given (Ok (first ∷ rest))))

pub grows-leaves : {A : Type 0} (part : List Leaf → A) → Grows (with_leaves part)
grows-leaves part leaves all is = extends-made leaves (made leaves (part leaves)) all is (extends-same leaves)

-- two parts, and one made of both
pub grows-both : {A B C : Type 0} (first : Planning A) (second : Planning B) (joined : A → B → Result C PlanFault) → Grows first → Grows second
    → Grows (first >>= (λ one. second >>= (λ other. given (joined one other))))
grows-both first second joined one other =
    grows-then first (λ left. second >>= (λ right. given (joined left right))) one
    (λ left. grows-then second (λ right. given (joined left right)) other (λ right. grows-given (joined left right)))

-- one part, and one made of it
grows-one : {A B : Type 0} (first : Planning A) (joined : A → Result B PlanFault) → Grows first → Grows (first >>= (λ one. given (joined one)))
grows-one first joined one = grows-then first (λ part. given (joined part)) one (λ part. grows-given (joined part))

-- ---- the parts of queries and edits

module _ (catalog : Catalog) (table : ℕ) where
  grows-field : (path : PathTree) → Grows (field_typed catalog table path)
  grows-field path leaves all is =
      let step = and_then-Ok (leaf_of catalog table path) (λ leaf. Ok (leaf_typed leaf.kind (placed leaves leaf))) all is in
      extends-made leaves (leaf_typed step.0.kind (placed leaves step.0)) all step.2 (placed-extends leaves step.0)

  pub grows-path : (path : PathTree) → Grows (placed_path catalog table path)
  grows-path path leaves all is =
      let step = and_then-Ok (leaf_of catalog table path) (λ leaf. Ok (placed leaves leaf)) all is in
      extends-made leaves (placed leaves step.0) all step.2 (placed-extends leaves step.0)

  pub grows-expr : (expr : ExprTree) → Grows (typed_expr catalog table expr)
  grows-expr (query.number units decimals) = grows-given (number_typed units decimals)
  grows-expr (query.date year month day) = grows-given (day_typed year month day)
  grows-expr (query.text bytes) = grows-given (Ok (text_typed bytes))
  grows-expr (query.field path) = grows-field path
  grows-expr (query.sum one other) = grows-both (typed_expr catalog table one) (typed_expr catalog table other) sum_typed (grows-expr one) (grows-expr other)
  grows-expr (query.difference one other) =
      grows-both (typed_expr catalog table one) (typed_expr catalog table other) difference_typed (grows-expr one) (grows-expr other)
  grows-expr (query.product one other) =
      grows-both (typed_expr catalog table one) (typed_expr catalog table other) product_typed (grows-expr one) (grows-expr other)
  grows-expr (query.minus one) = grows-one (typed_expr catalog table one) minus_typed (grows-expr one)

  pub grows-cond : (cond : CondTree) → Grows (typed_cond catalog table cond)
  grows-cond (query.either one other) =
      grows-both (typed_cond catalog table one) (typed_cond catalog table other) (λ left right. Ok (either left right)) (grows-cond one) (grows-cond other)
  grows-cond (query.both one other) =
      grows-both (typed_cond catalog table one) (typed_cond catalog table other) (λ left right. Ok (both left right)) (grows-cond one) (grows-cond other)
  grows-cond (query.negation one) = grows-one (typed_cond catalog table one) (λ of. Ok (negation of)) (grows-cond one)
  grows-cond (query.comparison op one other) =
      grows-both (typed_expr catalog table one) (typed_expr catalog table other) (compared op) (grows-expr one) (grows-expr other)
  grows-cond (query.within one two three) =
      grows-then (typed_expr catalog table one)
      (λ value. typed_expr catalog table two >>= (λ low. typed_expr catalog table three >>= (λ high. given (ranged value low high)))) (grows-expr one)
      (λ value. grows-both (typed_expr catalog table two) (typed_expr catalog table three) (ranged value) (grows-expr two) (grows-expr three))

  pub grows-filter : (filter : Option CondTree) → Grows (planned_filter catalog table filter)
  grows-filter None = grows-given (Ok None)
  grows-filter (Some cond) = grows-one (typed_cond catalog table cond) (λ typed. Ok (Some typed)) (grows-cond cond)

  pub grows-paths : (paths : List PathTree) → Grows (placed_paths catalog table paths)
  grows-paths = grows-each (placed_path catalog table) grows-path

  module _ (folds : List Word) where
    pub grows-call : (call : CallTree) → Grows (planned_call catalog folds table call)
    grows-call query.count = grows-given (Ok count)
    grows-call (query.aggregate call one) = grows-one (typed_expr catalog table one) (aggregated call) (grows-expr one)
    grows-call (query.fold name one) =
        grows-both (given (known folds name)) (typed_expr catalog table one) folded (grows-given (known folds name)) (grows-expr one)

    pub grows-items : (items : List ItemTree) → Grows (planned_items catalog folds table items)
    grows-items = grows-each (planned_item catalog folds table) (λ item. grows-call item.call)

pub grows-keys : (by : List PathTree) (items : List ItemTree) (keys : List KeyTree) → Grows (planned_keys by items keys)
grows-keys by items = grows-each (planned_key by items) (λ key. grows-given (order_key by items key))

-- ---- whole plans

-- what holds of each outcome of the last part holds of all
ends-then : {A B : Type 0} (holds : Made B → Type 0) (first : Planning A) (later : A → Planning B)
    → ((part : A) (leaves : List Leaf) (all : Made B) → later part leaves ≡ Ok all → holds all)
    → (leaves : List Leaf) (all : Made B) → (first >>= later) leaves ≡ Ok all → holds all
ends-then holds first later rest leaves all is =
    let step = and_then-Ok (first leaves) (λ one. later one.part one.leaves) all is in rest step.0.part step.0.leaves all step.2

ends-leaves : {A : Type 0} (holds : Made A → Type 0) (part : List Leaf → A) → ((leaves : List Leaf) → holds (made leaves (part leaves)))
    → (leaves : List Leaf) (all : Made A) → with_leaves part leaves ≡ Ok all → holds all
ends-leaves {A} holds part rest leaves all is = let same : made leaves (part leaves) ≡ all = cc in subst holds same (rest leaves)

-- the plan of a query behind its condition, its paths, its output columns and its keys
abbrev pub behind-keys : QueryTree → Option ConditionTree → List ℕ → List OutputTree → List OrderKey → Planning Planned
behind-keys query filter by items sort =
    with_leaves (λ leaves. record { leaves = leaves; filter = filter; by = by; items = items; sort = sort; first = query.first })

abbrev pub behind-items : QueryTree → Option ConditionTree → List ℕ → List OutputTree → Planning Planned
behind-items query filter by items = planned_keys query.by query.items query.sort >>= behind-keys query filter by items

abbrev pub behind-paths : Catalog → List Word → ℕ → QueryTree → Option ConditionTree → List ℕ → Planning Planned
behind-paths catalog folds table query filter by = planned_items catalog folds table query.items >>= behind-items query filter by

abbrev pub behind-filter : Catalog → List Word → ℕ → QueryTree → Option ConditionTree → Planning Planned
behind-filter catalog folds table query filter = placed_paths catalog table query.by >>= behind-paths catalog folds table query filter

module _ (catalog : Catalog) (folds : List Word) (table : ℕ) (query : QueryTree) where
  pub grows-behind-keys : (filter : Option ConditionTree) (by : List ℕ) (items : List OutputTree) (sort : List OrderKey) → Grows (behind-keys query filter by items sort)
  grows-behind-keys filter by items sort = grows-leaves (λ leaves. record { leaves = leaves; filter = filter; by = by; items = items; sort = sort; first = query.first })

  pub grows-behind-items : (filter : Option ConditionTree) (by : List ℕ) (items : List OutputTree) → Grows (behind-items query filter by items)
  grows-behind-items filter by items =
      grows-then (planned_keys query.by query.items query.sort) (behind-keys query filter by items) (grows-keys query.by query.items query.sort) (grows-behind-keys filter by items)

  pub grows-behind-paths : (filter : Option ConditionTree) (by : List ℕ) → Grows (behind-paths catalog folds table query filter by)
  grows-behind-paths filter by =
      grows-then (planned_items catalog folds table query.items) (behind-items query filter by) (grows-items catalog table folds query.items) (grows-behind-items filter by)

  pub grows-behind-filter : (filter : Option ConditionTree) → Grows (behind-filter catalog folds table query filter)
  grows-behind-filter filter =
      grows-then (placed_paths catalog table query.by) (behind-paths catalog folds table query filter) (grows-paths catalog table query.by) (grows-behind-paths filter)

  pub grows-parts : Grows (planned_parts catalog folds table query)
  grows-parts =
      grows-then (planned_filter catalog table query.filter) (behind-filter catalog folds table query) (grows-filter catalog table query.filter) grows-behind-filter

-- the leaves of a plan are all that were placed
abbrev pub HasAll : Made Planned → Type 0
HasAll all = all.part.leaves ≡ all.leaves

pub parts-leaves : (catalog : Catalog) (folds : List Word) (table : ℕ) (query : QueryTree) (leaves : List Leaf) (all : Made Planned)
    → planned_parts catalog folds table query leaves ≡ Ok all → HasAll all
parts-leaves catalog folds table query =
    ends-then HasAll (planned_filter catalog table query.filter) (behind-filter catalog folds table query)
    (λ filter. ends-then HasAll (placed_paths catalog table query.by) (behind-paths catalog folds table query filter)
    (λ by. ends-then HasAll (planned_items catalog folds table query.items) (behind-items query filter by)
    (λ items. ends-then HasAll (planned_keys query.by query.items query.sort) (behind-keys query filter by items)
    (λ sort. ends-leaves HasAll (λ leaves. record { leaves = leaves; filter = filter; by = by; items = items; sort = sort; first = query.first }) (λ leaves. refl)))))

-- none is different from none
none-differ : AreDifferent []
none-differ i j d less within = absurd (omega arith)

pub queries-differ : QueriesDiffer
queries-differ catalog folds query plan is =
    let first = and_then-Ok (table_or_fault (table_named catalog query.table)) (λ table. and_then (planned_parts catalog folds table query []) (λ all. Ok all.part)) plan is in
    let second = and_then-Ok (planned_parts catalog folds first.0 query []) (λ all. Ok all.part) plan first.2 in
    let whole : HasAll second.0 = parts-leaves catalog folds first.0 query [] second.0 second.1 in
    let grown : Extends [] second.0.leaves = grows-parts catalog folds first.0 query [] second.0 second.1 in
    let same : second.0.part ≡ plan = cc in
    let leaves : second.0.leaves ≡ plan.leaves = sym whole ∙ ap (λ (one : Planned). one.leaves) same in
    subst AreDifferent leaves (grown.differs none-differ)

-- ---- edits

abbrev pub behind-value : Catalog → Field → Option CondTree → KindedTree → Planning PlannedEdit
behind-value catalog field cond value =
    planned_filter catalog field.table cond >>= (λ filter. with_leaves (λ leaves. record { leaves = leaves; field = field; value = value; filter = filter }))

abbrev pub behind-typed : Catalog → Field → Option CondTree → KindedTree → Planning PlannedEdit
behind-typed catalog field cond typed = given (written field.kind typed) >>= behind-value catalog field cond

module _ (catalog : Catalog) (field : Field) (cond : Option CondTree) where
  pub grows-behind-value : (value : KindedTree) → Grows (behind-value catalog field cond value)
  grows-behind-value value =
      grows-then (planned_filter catalog field.table cond) (λ filter. with_leaves (λ leaves. record { leaves = leaves; field = field; value = value; filter = filter }))
      (grows-filter catalog field.table cond) (λ filter. grows-leaves (λ leaves. record { leaves = leaves; field = field; value = value; filter = filter }))

  pub grows-behind-typed : (typed : KindedTree) → Grows (behind-typed catalog field cond typed)
  grows-behind-typed typed =
      grows-then (given (written field.kind typed)) (behind-value catalog field cond) (grows-given (written field.kind typed)) grows-behind-value

  grows-edit : (value : ExprTree) → Grows (edited_parts catalog field value cond)
  grows-edit one = grows-then (typed_expr catalog field.table one) (behind-typed catalog field cond) (grows-expr catalog field.table one) grows-behind-typed

abbrev pub HasAllOfEdit : Made PlannedEdit → Type 0
HasAllOfEdit all = all.part.leaves ≡ all.leaves

pub edit-leaves : (catalog : Catalog) (field : Field) (value : ExprTree) (cond : Option CondTree) (leaves : List Leaf) (all : Made PlannedEdit)
    → edited_parts catalog field value cond leaves ≡ Ok all → HasAllOfEdit all
edit-leaves catalog field one cond =
    ends-then HasAllOfEdit (typed_expr catalog field.table one) (behind-typed catalog field cond)
    (λ typed. ends-then HasAllOfEdit (given (written field.kind typed)) (behind-value catalog field cond)
    (λ value. ends-then HasAllOfEdit (planned_filter catalog field.table cond)
    (λ filter. with_leaves (λ leaves. record { leaves = leaves; field = field; value = value; filter = filter }))
    (λ filter. ends-leaves HasAllOfEdit (λ leaves. record { leaves = leaves; field = field; value = value; filter = filter }) (λ leaves. refl))))

pub edits-differ : EditsDiffer
edits-differ catalog table name one cond plan is =
    let first = and_then-Ok (table_or_fault (table_named catalog table))
    (λ is. and_then (edited_field catalog is name) (λ field. and_then (edited_parts catalog field one cond []) (λ all. Ok all.part))) plan is in
    let second = and_then-Ok (edited_field catalog first.0 name) (λ field. and_then (edited_parts catalog field one cond []) (λ all. Ok all.part)) plan first.2 in
    let third = and_then-Ok (edited_parts catalog second.0 one cond []) (λ all. Ok all.part) plan second.2 in
    let whole : HasAllOfEdit third.0 = edit-leaves catalog second.0 one cond [] third.0 third.1 in
    let grown : Extends [] third.0.leaves = grows-edit catalog second.0 cond one [] third.0 third.1 in
    let same : third.0.part ≡ plan = cc in
    let leaves : third.0.leaves ≡ plan.leaves = sym whole ∙ ap (λ (one : PlannedEdit). one.leaves) same in
    subst AreDifferent leaves (grown.differs none-differ)
