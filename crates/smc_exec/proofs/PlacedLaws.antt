-- All leaves of a plan come from paths, so all of them can be read.
use Rattle.std.proofs.Common.{◌≡◌, ℕ, List, [], ◌∷◌, Option, Some, None, Result, Ok, sym, ap, ◌∙◌, subst}
use Rattle.std.specs.List.{AllByRecursion}
use Rattle.smc_query.specs.Trees.{Word, PathTree, ExprTree, CondTree, CallTree, ItemTree, KeyTree, QueryTree}
use Rattle.smc_query.specs.Trees as query
use Rattle.smc_types.specs.declared.catalog.Catalog.{Catalog}
use Rattle.smc_plan.specs.Answers.{and_then}
use Rattle.smc_plan.specs.Conditions.{ConditionTree, either, both, negation}
use Rattle.smc_plan.specs.Conds.{compared, ranged, typed_cond}
use Rattle.smc_plan.specs.Edits.{PlannedEdit, edited_field, edited_parts, written}
use Rattle.smc_plan.specs.Exprs.{day_typed, difference_typed, field_typed, leaf_typed, minus_typed, number_typed, product_typed, sum_typed, text_typed, typed_expr}
use Rattle.smc_plan.specs.Items.{aggregated, folded, known, planned_call, planned_item}
use Rattle.smc_plan.specs.Leaves.{leaf_of}
use Rattle.smc_plan.specs.Orders.{order_key}
use Rattle.smc_plan.specs.Outputs.{OutputTree, count}
use Rattle.smc_plan.specs.Planned.{Planned, placed_path, placed_paths, planned_filter, planned_items, planned_key, planned_keys, planned_parts, table_or_fault, with_leaves}
use Rattle.smc_plan.specs.Planning.{Made, Planning, ◌>>=◌, each, given, made, placed}
use Rattle.smc_plan.specs.Tables.{table_named}
use Rattle.smc_plan.specs.Typed.{KindedTree}
use Rattle.smc_plan.specs.declared.fault.PlanFault.{PlanFault}
use Rattle.smc_plan.specs.declared.leaf.Leaf.{Leaf}
use Rattle.smc_plan.specs.declared.table.Field.{Field}
use Rattle.smc_plan.proofs.GrowLaws.{HasAll, HasAllOfEdit, and_then-Ok, behind-filter, behind-items, behind-keys, behind-paths, behind-typed, behind-value, edit-leaves, parts-leaves}
use Rattle.smc_visits.specs.Rows.{FitsRecord}
use Rattle.smc_visits.proofs.FitLaws.{paths-fit, placed-fit}
use Rattle.smc_exec.specs.Plans.{IsPlanned, IsPlannedEdit}

-- all of these leaves can be read
abbrev pub Fit : List Leaf → Type 0
Fit leaves = AllByRecursion FitsRecord leaves

-- if all leaves so far can be read, so can all leaves behind this part
abbrev pub Keeps : {A : Type 0} → Planning A → Type 0
Keeps {A} plan = (leaves : List Leaf) (all : Made A) → plan leaves ≡ Ok all → Fit leaves → Fit all.leaves

-- ---- the ways of planning

fit-made : {A : Type 0} (one all : Made A) → ◌≡◌ {A = Result (Made A) PlanFault} (Ok one) (Ok all) → Fit one.leaves → Fit all.leaves
fit-made {A} one all is fit = let same : one ≡ all = cc in subst (λ (other : Made A). Fit other.leaves) same fit

pub keeps-given : {A : Type 0} (part : Result A PlanFault) → Keeps (given part)
keeps-given part leaves all is fit = let step = and_then-Ok part (λ one. Ok (made leaves one)) all is in fit-made (made leaves step.0) all step.2 fit

pub keeps-then : {A B : Type 0} (first : Planning A) (later : A → Planning B) → Keeps first → ((part : A) → Keeps (later part)) → Keeps (first >>= later)
keeps-then first later one rest leaves all is fit =
    let step = and_then-Ok (first leaves) (λ first-made. later first-made.part first-made.leaves) all is in
    rest step.0.part step.0.leaves all step.2 (one leaves step.0 step.1 fit)

keeps-each : {A B : Type 0} (plan : A → Planning B) → ((element : A) → Keeps (plan element)) → (list : List A) → Keeps (each plan list)
keeps-each plan keeps [] = keeps-given (Ok [])
keeps-each plan keeps (element ∷ elements) =
    keeps-then (plan element) (λ first. each plan elements >>= (λ rest. given (Ok (first ∷ rest)))) (keeps element)
    (λ first. keeps-then (each plan elements) (λ rest. given (Ok (first ∷ rest))) (keeps-each plan keeps elements) (λ rest. keeps-given (Ok (first ∷ rest))))

pub keeps-leaves : {A : Type 0} (part : List Leaf → A) → Keeps (with_leaves part)
keeps-leaves part leaves all is fit = fit-made (made leaves (part leaves)) all is fit

-- two parts, and one made of both
keeps-both : {A B C : Type 0} (first : Planning A) (second : Planning B) (joined : A → B → Result C PlanFault) → Keeps first → Keeps second
    → Keeps (first >>= (λ one. second >>= (λ other. given (joined one other))))
keeps-both first second joined one other =
    keeps-then first (λ left. second >>= (λ right. given (joined left right))) one
    (λ left. keeps-then second (λ right. given (joined left right)) other (λ right. keeps-given (joined left right)))

-- one part, and one made of it
keeps-one : {A B : Type 0} (first : Planning A) (joined : A → Result B PlanFault) → Keeps first → Keeps (first >>= (λ one. given (joined one)))
keeps-one first joined one = keeps-then first (λ part. given (joined part)) one (λ part. keeps-given (joined part))

-- ---- the parts of queries and edits

module _ (catalog : Catalog) (table : ℕ) where
  keeps-field : (path : PathTree) → Keeps (field_typed catalog table path)
  keeps-field path leaves all is fit =
      let step = and_then-Ok (leaf_of catalog table path) (λ leaf. Ok (leaf_typed leaf.kind (placed leaves leaf))) all is in
      fit-made (leaf_typed step.0.kind (placed leaves step.0)) all step.2 (placed-fit leaves step.0 fit (paths-fit catalog table path step.0 step.1))

  keeps-path : (path : PathTree) → Keeps (placed_path catalog table path)
  keeps-path path leaves all is fit =
      let step = and_then-Ok (leaf_of catalog table path) (λ leaf. Ok (placed leaves leaf)) all is in
      fit-made (placed leaves step.0) all step.2 (placed-fit leaves step.0 fit (paths-fit catalog table path step.0 step.1))

  pub keeps-expr : (expr : ExprTree) → Keeps (typed_expr catalog table expr)
  keeps-expr (query.number units decimals) = keeps-given (number_typed units decimals)
  keeps-expr (query.date year month day) = keeps-given (day_typed year month day)
  keeps-expr (query.text bytes) = keeps-given (Ok (text_typed bytes))
  keeps-expr (query.field path) = keeps-field path
  keeps-expr (query.sum one other) = keeps-both (typed_expr catalog table one) (typed_expr catalog table other) sum_typed (keeps-expr one) (keeps-expr other)
  keeps-expr (query.difference one other) =
      keeps-both (typed_expr catalog table one) (typed_expr catalog table other) difference_typed (keeps-expr one) (keeps-expr other)
  keeps-expr (query.product one other) =
      keeps-both (typed_expr catalog table one) (typed_expr catalog table other) product_typed (keeps-expr one) (keeps-expr other)
  keeps-expr (query.minus one) = keeps-one (typed_expr catalog table one) minus_typed (keeps-expr one)

  keeps-cond : (cond : CondTree) → Keeps (typed_cond catalog table cond)
  keeps-cond (query.either one other) =
      keeps-both (typed_cond catalog table one) (typed_cond catalog table other) (λ left right. Ok (either left right)) (keeps-cond one) (keeps-cond other)
  keeps-cond (query.both one other) =
      keeps-both (typed_cond catalog table one) (typed_cond catalog table other) (λ left right. Ok (both left right)) (keeps-cond one) (keeps-cond other)
  keeps-cond (query.negation one) = keeps-one (typed_cond catalog table one) (λ of. Ok (negation of)) (keeps-cond one)
  keeps-cond (query.comparison op one other) =
      keeps-both (typed_expr catalog table one) (typed_expr catalog table other) (compared op) (keeps-expr one) (keeps-expr other)
  keeps-cond (query.within one two three) =
      keeps-then (typed_expr catalog table one)
      (λ value. typed_expr catalog table two >>= (λ low. typed_expr catalog table three >>= (λ high. given (ranged value low high)))) (keeps-expr one)
      (λ value. keeps-both (typed_expr catalog table two) (typed_expr catalog table three) (ranged value) (keeps-expr two) (keeps-expr three))

  pub keeps-filter : (filter : Option CondTree) → Keeps (planned_filter catalog table filter)
  keeps-filter None = keeps-given (Ok None)
  keeps-filter (Some cond) = keeps-one (typed_cond catalog table cond) (λ typed. Ok (Some typed)) (keeps-cond cond)

  keeps-paths : (paths : List PathTree) → Keeps (placed_paths catalog table paths)
  keeps-paths = keeps-each (placed_path catalog table) keeps-path

  module _ (folds : List Word) where
    keeps-call : (call : CallTree) → Keeps (planned_call catalog folds table call)
    keeps-call query.count = keeps-given (Ok count)
    keeps-call (query.aggregate call one) = keeps-one (typed_expr catalog table one) (aggregated call) (keeps-expr one)
    keeps-call (query.fold name one) =
        keeps-both (given (known folds name)) (typed_expr catalog table one) folded (keeps-given (known folds name)) (keeps-expr one)

    keeps-items : (items : List ItemTree) → Keeps (planned_items catalog folds table items)
    keeps-items = keeps-each (planned_item catalog folds table) (λ item. keeps-call item.call)

keeps-keys : (by : List PathTree) (items : List ItemTree) (keys : List KeyTree) → Keeps (planned_keys by items keys)
keeps-keys by items = keeps-each (planned_key by items) (λ key. keeps-given (order_key by items key))

-- ---- whole plans

module _ (catalog : Catalog) (folds : List Word) (table : ℕ) (query : QueryTree) where
  keeps-behind-items : (filter : Option ConditionTree) (by : List ℕ) (items : List OutputTree) → Keeps (behind-items query filter by items)
  keeps-behind-items filter by items =
      keeps-then (planned_keys query.by query.items query.sort) (behind-keys query filter by items) (keeps-keys query.by query.items query.sort)
      (λ sort. keeps-leaves (λ leaves. record { leaves = leaves; filter = filter; by = by; items = items; sort = sort; first = query.first }))

  keeps-behind-paths : (filter : Option ConditionTree) (by : List ℕ) → Keeps (behind-paths catalog folds table query filter by)
  keeps-behind-paths filter by =
      keeps-then (planned_items catalog folds table query.items) (behind-items query filter by) (keeps-items catalog table folds query.items) (keeps-behind-items filter by)

  keeps-behind-filter : (filter : Option ConditionTree) → Keeps (behind-filter catalog folds table query filter)
  keeps-behind-filter filter =
      keeps-then (placed_paths catalog table query.by) (behind-paths catalog folds table query filter) (keeps-paths catalog table query.by) (keeps-behind-paths filter)

  keeps-parts : Keeps (planned_parts catalog folds table query)
  keeps-parts =
      keeps-then (planned_filter catalog table query.filter) (behind-filter catalog folds table query) (keeps-filter catalog table query.filter) keeps-behind-filter

-- all leaves of the plan of a query can be read
pub query-fits : (plan : Planned) → IsPlanned plan → Fit plan.leaves
query-fits plan of =
    let first = and_then-Ok (table_or_fault (table_named of.catalog of.query.table))
    (λ table. and_then (planned_parts of.catalog of.folds table of.query []) (λ all. Ok all.part)) plan of.is in
    let second = and_then-Ok (planned_parts of.catalog of.folds first.0 of.query []) (λ all. Ok all.part) plan first.2 in
    let whole : HasAll second.0 = parts-leaves of.catalog of.folds first.0 of.query [] second.0 second.1 in
    let fit : Fit second.0.leaves = keeps-parts of.catalog of.folds first.0 of.query [] second.0 second.1 tt in
    let same : second.0.part ≡ plan = cc in
    let leaves : second.0.leaves ≡ plan.leaves = sym whole ∙ ap (λ (one : Planned). one.leaves) same in
    subst Fit leaves fit

-- ---- edits

module _ (catalog : Catalog) (field : Field) (cond : Option CondTree) where
  keeps-behind-value : (value : KindedTree) → Keeps (behind-value catalog field cond value)
  keeps-behind-value value =
      keeps-then (planned_filter catalog field.table cond) (λ filter. with_leaves (λ leaves. record { leaves = leaves; field = field; value = value; filter = filter }))
      (keeps-filter catalog field.table cond) (λ filter. keeps-leaves (λ leaves. record { leaves = leaves; field = field; value = value; filter = filter }))

  keeps-behind-typed : (typed : KindedTree) → Keeps (behind-typed catalog field cond typed)
  keeps-behind-typed typed =
      keeps-then (given (written field.kind typed)) (behind-value catalog field cond) (keeps-given (written field.kind typed)) keeps-behind-value

  keeps-edit : (value : ExprTree) → Keeps (edited_parts catalog field value cond)
  keeps-edit one = keeps-then (typed_expr catalog field.table one) (behind-typed catalog field cond) (keeps-expr catalog field.table one) keeps-behind-typed

-- all leaves of the plan of an edit can be read
pub edit-fits : (plan : PlannedEdit) → IsPlannedEdit plan → Fit plan.leaves
edit-fits plan of =
    let first = and_then-Ok (table_or_fault (table_named of.catalog of.table))
    (λ is. and_then (edited_field of.catalog is of.field) (λ field. and_then (edited_parts of.catalog field of.value of.cond []) (λ all. Ok all.part))) plan of.is in
    let second = and_then-Ok (edited_field of.catalog first.0 of.field) (λ field. and_then (edited_parts of.catalog field of.value of.cond []) (λ all. Ok all.part)) plan first.2 in
    let third = and_then-Ok (edited_parts of.catalog second.0 of.value of.cond []) (λ all. Ok all.part) plan second.2 in
    let whole : HasAllOfEdit third.0 = edit-leaves of.catalog second.0 of.value of.cond [] third.0 third.1 in
    let fit : Fit third.0.leaves = keeps-edit of.catalog second.0 of.cond of.value [] third.0 third.1 tt in
    let same : third.0.part ≡ plan = cc in
    let leaves : third.0.leaves ≡ plan.leaves = sym whole ∙ ap (λ (one : PlannedEdit). one.leaves) same in
    subst Fit leaves fit
