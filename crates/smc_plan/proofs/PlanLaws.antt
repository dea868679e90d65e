-- All parts of a plan are what they are said to be.
use Rattle.std.proofs.Common.{◌≡◌, ℕ, suc, ◌+◌, ◌<◌, ◌||◌, true, List, [], ◌∷◌, ◌++◌, length, Option, Some, None, Result, Ok, refl, sym, ap, ◌∙◌, subst, append-nil, arith, length-append}
use Rattle.std.specs.List.{AllByRecursion}
use Rattle.std.specs.Option.{IfSome, option_map, option_or}
use Rattle.std.proofs.lemmas.List.Quantifiers.{position-Some}
use Rattle.smc_query.specs.Trees.{Word, PathTree, ExprTree, CondTree, CallTree, ItemTree, KeyTree, QueryTree, Aggregate, total, average, least, greatest}
use Rattle.smc_query.specs.Trees as query
use Rattle.smc_types.specs.declared.catalog.Catalog.{Catalog}
use Rattle.smc_plan.specs.Answers.{and_then}
use Rattle.smc_plan.specs.Bounds.{is_narrow_in, is_number, is_summable, is_taken_by, kind_of}
use Rattle.smc_plan.specs.Conditions.{ConditionTree}
use Rattle.smc_plan.specs.Conds.{typed_cond}
use Rattle.smc_plan.specs.Edits.{PlannedEdit, edited_field, edited_parts, written}
use Rattle.smc_plan.specs.Exprs.{typed_expr}
use Rattle.smc_plan.specs.Items.{aggregated, argument, folded, known, planned_call, planned_item}
use Rattle.smc_plan.specs.Kinds.{IsEdit, IsKey, IsKinded, IsOutput, IsPlace, IsPlan, IsTyped}
use Rattle.smc_plan.specs.Laws.{EditsAreTyped, QueriesAreTyped}
use Rattle.smc_plan.specs.Leaves.{leaf_of, place_of, same_leaf}
use Rattle.smc_plan.specs.Orders.{by_place, key_by, key_column, label_place, order_key, same_path, spells}
use Rattle.smc_plan.specs.Outputs.{OutputTree, count, aggregate, fold}
use Rattle.smc_plan.specs.Planned.{Planned, placed_path, placed_paths, planned_filter, planned_items, planned_key, planned_keys, planned_parts, table_or_fault, with_leaves}
use Rattle.smc_plan.specs.Planning.{Planning, each, given, made, placed, placed_at}
use Rattle.smc_plan.specs.Tables.{table_named}
use Rattle.smc_plan.specs.Typed.{KindedTree, is_leaf}
use Rattle.smc_plan.specs.declared.fault.PlanFault.{PlanFault}
use Rattle.smc_plan.specs.declared.leaf.Leaf.{Leaf}
use Rattle.smc_plan.specs.declared.plan.OrderKey.{OrderKey}
use Rattle.smc_plan.specs.declared.table.Field.{Field}
use Rattle.smc_plan.proofs.GrowLaws.{Grows, HasAll, HasAllOfEdit, and_then-Ok, behind-filter, behind-items, behind-keys, behind-paths, behind-typed, behind-value, edit-leaves, grows-behind-filter, grows-behind-items, grows-behind-keys, grows-behind-paths, grows-behind-typed, grows-behind-value, grows-call, grows-each, grows-expr, grows-given, grows-leaves, grows-path, parts-leaves}
use Rattle.smc_plan.proofs.KindLaws.{Says, SaysDays, fit-is, ok-is, says-both, says-cond, says-expr, says-given, says-made, says-one, says-then}

-- ---- lists of parts

-- each part holds what its plan says
says-each : {A B : Type 0} (plan : A → Planning B) (holds : List Leaf → B → Type 0) → ((element : A) → Says (plan element) holds) → ((element : A) → Grows (plan element))
    → (list : List A) → Says (each plan list) (λ leaves parts. AllByRecursion (holds leaves) parts)
says-each plan holds says grows [] = says-given (λ leaves parts. AllByRecursion (holds leaves) parts) (Ok []) (λ leaves is by. ok-is (AllByRecursion (holds leaves)) [] is by tt)
says-each plan holds says grows (element ∷ elements) =
    says-both holds (λ leaves parts. AllByRecursion (holds leaves) parts) (λ leaves parts. AllByRecursion (holds leaves) parts) (plan element) (each plan elements)
    (λ first rest. Ok (first ∷ rest)) (says element) (says-each plan holds says grows elements) (grows-each plan grows elements)
    (λ leaves first rest is one others by. ok-is (AllByRecursion (holds leaves)) (first ∷ rest) is by (one, others))

-- nothing is said
says-nothing : {A : Type 0} (plan : Planning A) → Says plan (λ leaves part. Unit {0})
says-nothing plan leaves all is more = tt

-- there are as many parts as elements
says-length : {A B : Type 0} (plan : A → Planning B) → ((element : A) → Grows (plan element)) → (list : List A) → Says (each plan list) (λ leaves parts. length parts ≡ length list)
says-length plan grows [] = says-given (λ leaves parts. length parts ≡ 0) (Ok []) (λ leaves is by. ok-is (λ parts. length parts ≡ 0) [] is by refl)
says-length plan grows (element ∷ elements) =
    says-both (λ leaves part. Unit {0}) (λ leaves parts. length parts ≡ length elements) (λ leaves parts. length parts ≡ length (element ∷ elements)) (plan element) (each plan elements)
    (λ first rest. Ok (first ∷ rest)) (says-nothing (plan element)) (says-length plan grows elements) (grows-each plan grows elements)
    (λ leaves first rest is one others by. ok-is (λ parts. length parts ≡ length (element ∷ elements)) (first ∷ rest) is by (ap suc others))

-- two things that are said
says-two : {A : Type 0} (plan : Planning A) (one other : List Leaf → A → Type 0) → Says plan one → Says plan other → Says plan (λ leaves part. one leaves part × other leaves part)
says-two plan one other first second leaves all is more = (first leaves all is more, second leaves all is more)

-- ---- paths

placed-within : (leaves more : List Leaf) (one : Leaf) (found : Option ℕ) → place_of leaves one ≡ found → IsPlace ((placed_at leaves one found).leaves ++ more) (placed_at leaves one found).part
placed-within leaves more one None is = omega (arith, length-append (leaves ++ one ∷ []) more, length-append leaves (one ∷ []))
placed-within leaves more one (Some place) is =
    let here = position-Some (λ (other : Leaf). same_leaf other one) leaves place one is in omega (arith, length-append leaves more, here.0)

says-path : (catalog : Catalog) (table : ℕ) (path : PathTree) → Says (placed_path catalog table path) IsPlace
says-path catalog table path leaves all is more =
    let step = and_then-Ok (leaf_of catalog table path) (λ one. Ok (placed leaves one)) all is in
    says-made IsPlace (placed leaves step.0) all more step.2 (placed-within leaves more step.0 (place_of leaves step.0) refl)

-- ---- output columns

argument-is : (call : Aggregate) (of is : KindedTree) → argument call of ≡ Ok is → is ≡ of
argument-is total of is by = sym (fit-is (is_number of.kind) (is_summable of.kind) of is by).2
argument-is average of is by = sym (fit-is (is_number of.kind) (is_summable of.kind) of is by).2
argument-is least of is by = sym (fit-is (is_number of.kind || is_leaf of.typed) true of is by).2
argument-is greatest of is by = sym (fit-is (is_number of.kind || is_leaf of.typed) true of is by).2

aggregated-is : (call : Aggregate) (leaves : List Leaf) (of : KindedTree) (is : OutputTree) → IsKinded leaves of → aggregated call of ≡ Ok is → IsOutput leaves is
aggregated-is call leaves of is kinded by =
    let step = and_then-Ok (argument call of) (λ one. Ok (aggregate call one)) is by in
    let same : step.0 ≡ of = argument-is call of step.0 step.1 in
    let takes : argument call of ≡ Ok of = step.1 ∙ ap Ok same in
    let there : ◌≡◌ {A = Result OutputTree PlanFault} (Ok (aggregate call of)) (Ok is) = ap (λ one. Ok (aggregate call one)) (sym same) ∙ step.2 in
    ok-is (IsOutput leaves) (aggregate call of) is there (kinded, takes)

folded-is : (leaves : List Leaf) (name : Word) (of : KindedTree) (is : OutputTree) → IsKinded leaves of → folded name of ≡ Ok is → IsOutput leaves is
folded-is leaves name of is kinded by =
    let fit = fit-is (is_number of.kind) true (fold name of) is by in subst (IsOutput leaves) fit.2 (kinded, fit.0)

module _ (days : SaysDays) (catalog : Catalog) (folds : List Word) (table : ℕ) where
  says-call : (call : CallTree) → Says (planned_call catalog folds table call) IsOutput
  says-call query.count = says-given IsOutput (Ok count) (λ leaves is by. ok-is (IsOutput leaves) count is by tt)
  says-call (query.aggregate call one) = says-one IsKinded IsOutput (typed_expr catalog table one) (aggregated call) (says-expr days catalog table one) (aggregated-is call)
  says-call (query.fold name one) =
      says-both (λ leaves part. Unit {0}) IsKinded IsOutput (given (known folds name)) (typed_expr catalog table one) folded (says-nothing (given (known folds name)))
      (says-expr days catalog table one) (grows-expr catalog table one) (λ leaves is of all a b by. folded-is leaves is of all b by)

-- ---- keys

key-within : (by : List PathTree) (items : List ItemTree) (path : PathTree) (first second : Option ℕ) (column : ℕ) → by_place by path ≡ first → label_place items path ≡ second
    → option_or first (option_map (λ place. length by + place) second) ≡ Some column → column < length by + length items
key-within by items path (Some place) second column a b is =
    let here = position-Some (λ (other : PathTree). same_path other path) by place path a in let same : place ≡ column = cc in omega (arith, here.0)
key-within by items path None (Some place) column a b is =
    let here = position-Some (λ (item : ItemTree). spells path item.label) items place (record { call = query.count; label = None }) b in
    let same : length by + place ≡ column = cc in omega (arith, here.0)
key-within by items path None None column a b is = absurd cc

key-is : (by : List PathTree) (items : List ItemTree) (key : KeyTree) (is : OrderKey) (found : Option ℕ) → key_column by items key.path ≡ found → key_by key.desc found ≡ Ok is
    → IsKey (length by + length items) is
key-is by items key is None here by-is = absurd cc
key-is by items key is (Some column) here by-is =
    let one : OrderKey = record { column = column; desc = key.desc } in
    ok-is (IsKey (length by + length items)) one is by-is
    (key-within by items key.path (by_place by key.path) (label_place items key.path) column refl refl here)

says-key : (by : List PathTree) (items : List ItemTree) (key : KeyTree) → Says (planned_key by items key) (λ leaves. IsKey (length by + length items))
says-key by items key =
    says-given (λ leaves. IsKey (length by + length items)) (order_key by items key) (λ leaves is here. key-is by items key is (key_column by items key.path) refl here)

-- ---- conditions that may be absent

says-filter : (days : SaysDays) (catalog : Catalog) (table : ℕ) (filter : Option CondTree) → Says (planned_filter catalog table filter) (λ leaves typed. IfSome typed (IsTyped leaves))
says-filter days catalog table None = says-given (λ leaves typed. IfSome typed (IsTyped leaves)) (Ok None) (λ leaves is by. ok-is (λ typed. IfSome typed (IsTyped leaves)) None is by tt)
says-filter days catalog table (Some cond) =
    says-one IsTyped (λ leaves typed. IfSome typed (IsTyped leaves)) (typed_cond catalog table cond) (λ typed. Ok (Some typed)) (says-cond days catalog table cond)
    (λ leaves typed is a by. ok-is (λ other. IfSome other (IsTyped leaves)) (Some typed) is by a)

-- ---- whole plans

says-leaves : {A : Type 0} (holds : List Leaf → A → Type 0) (part : List Leaf → A) → ((leaves more : List Leaf) → holds (leaves ++ more) (part leaves)) → Says (with_leaves part) holds
says-leaves holds part each leaves all is more = says-made holds (made leaves (part leaves)) all more is (each leaves more)

-- what is said of the condition, the paths, the output columns and the keys of a query
abbrev Filtered : List Leaf → Option ConditionTree → Type 0
Filtered leaves filter = IfSome filter (IsTyped leaves)

abbrev Grouped : QueryTree → List Leaf → List ℕ → Type 0
Grouped query leaves by = AllByRecursion (IsPlace leaves) by × (length by ≡ length query.by)

abbrev Shown : QueryTree → List Leaf → List OutputTree → Type 0
Shown query leaves items = AllByRecursion (IsOutput leaves) items × (length items ≡ length query.items)

abbrev Sorted : QueryTree → List Leaf → List OrderKey → Type 0
Sorted query leaves sort = AllByRecursion (IsKey (length query.by + length query.items)) sort

-- the plan of these parts
plan-of : (query : QueryTree) (leaves all : List Leaf) (filter : Option ConditionTree) (by : List ℕ) (items : List OutputTree) (sort : List OrderKey)
    → Filtered leaves filter → Grouped query leaves by → Shown query leaves items → Sorted query leaves sort
    → IsPlan leaves (record { leaves = all; filter = filter; by = by; items = items; sort = sort; first = query.first })
plan-of query leaves all filter by items sort one two three four =
    let columns : length query.by + length query.items ≡ length by + length items = omega (arith, two.1, three.1) in
    record { filter = one; by = two.0; items = three.0; sort = subst (λ (most : ℕ). AllByRecursion (IsKey most) sort) columns four }

module _ (days : SaysDays) (catalog : Catalog) (folds : List Word) (table : ℕ) (query : QueryTree) where
  says-parts : Says (planned_parts catalog folds table query) IsPlan
  says-parts =
      says-then Filtered IsPlan (planned_filter catalog table query.filter) (behind-filter catalog folds table query) (says-filter days catalog table query.filter)
      (grows-behind-filter catalog folds table query)
      (λ filter. says-then (Grouped query) (λ leaves all. Filtered leaves filter → IsPlan leaves all) (placed_paths catalog table query.by) (behind-paths catalog folds table query filter)
      (says-two (placed_paths catalog table query.by) (λ leaves by. AllByRecursion (IsPlace leaves) by) (λ leaves by. length by ≡ length query.by)
      (says-each (placed_path catalog table) IsPlace (says-path catalog table) (grows-path catalog table) query.by)
      (says-length (placed_path catalog table) (grows-path catalog table) query.by))
      (grows-behind-paths catalog folds table query filter)
      (λ by. says-then (Shown query) (λ leaves all. Grouped query leaves by → Filtered leaves filter → IsPlan leaves all) (planned_items catalog folds table query.items)
      (behind-items query filter by)
      (says-two (planned_items catalog folds table query.items) (λ leaves items. AllByRecursion (IsOutput leaves) items) (λ leaves items. length items ≡ length query.items)
      (says-each (planned_item catalog folds table) IsOutput (λ item. says-call days catalog folds table item.call) (λ item. grows-call catalog table folds item.call) query.items)
      (says-length (planned_item catalog folds table) (λ item. grows-call catalog table folds item.call) query.items))
      (grows-behind-items catalog folds table query filter by)
      (λ items. says-then (Sorted query) (λ leaves all. Shown query leaves items → Grouped query leaves by → Filtered leaves filter → IsPlan leaves all)
      (planned_keys query.by query.items query.sort) (behind-keys query filter by items)
      (says-each (planned_key query.by query.items) (λ leaves. IsKey (length query.by + length query.items)) (says-key query.by query.items)
      (λ key. grows-given (order_key query.by query.items key)) query.sort)
      (grows-behind-keys catalog folds table query filter by items)
      (λ sort. says-leaves (λ leaves all. Sorted query leaves sort → Shown query leaves items → Grouped query leaves by → Filtered leaves filter → IsPlan leaves all)
      (λ leaves. record { leaves = leaves; filter = filter; by = by; items = items; sort = sort; first = query.first })
      (λ leaves more four three two one. plan-of query (leaves ++ more) leaves filter by items sort one two three four)))))

pub queries-are-typed : SaysDays → QueriesAreTyped
queries-are-typed days catalog folds query plan is =
    let first = and_then-Ok (table_or_fault (table_named catalog query.table)) (λ table. and_then (planned_parts catalog folds table query []) (λ all. Ok all.part)) plan is in
    let second = and_then-Ok (planned_parts catalog folds first.0 query []) (λ all. Ok all.part) plan first.2 in
    let whole : HasAll second.0 = parts-leaves catalog folds first.0 query [] second.0 second.1 in
    let holds : IsPlan (second.0.leaves ++ []) second.0.part = says-parts days catalog folds first.0 query [] second.0 second.1 [] in
    let leaves : second.0.leaves ++ [] ≡ second.0.part.leaves = append-nil second.0.leaves ∙ sym whole in
    ok-is (λ (other : Planned). IsPlan other.leaves other) second.0.part plan second.2 (subst (λ (ls : List Leaf). IsPlan ls second.0.part) leaves holds)

-- ---- edits

-- a value that a field takes
abbrev Written : Field → List Leaf → KindedTree → Type 0
Written field leaves value =
    IsKinded leaves value × (is_taken_by (kind_of field.kind) value.kind ≡ true) × (is_narrow_in (kind_of field.kind) value.kind ≡ true)

written-is : (field : Field) (typed : KindedTree) (leaves : List Leaf) (is : KindedTree) → written field.kind typed ≡ Ok is → IsKinded leaves typed → Written field leaves is
written-is field typed leaves is by kinded =
    let fit = fit-is (is_taken_by (kind_of field.kind) typed.kind) (is_narrow_in (kind_of field.kind) typed.kind) typed is by in
    subst (Written field leaves) fit.2 (kinded, fit.0, fit.1)

says-edit : SaysDays → (catalog : Catalog) (field : Field) (value : ExprTree) (cond : Option CondTree)
    → Says (edited_parts catalog field value cond) (λ leaves edit. (edit.field ≡ field) × IsEdit leaves edit)
says-edit days catalog field one cond =
    says-then IsKinded (λ leaves edit. (edit.field ≡ field) × IsEdit leaves edit) (typed_expr catalog field.table one) (behind-typed catalog field cond)
    (says-expr days catalog field.table one) (grows-behind-typed catalog field cond)
    (λ typed. says-then (λ leaves value. IsKinded leaves typed → Written field leaves value)
    (λ leaves edit. IsKinded leaves typed → (edit.field ≡ field) × IsEdit leaves edit) (given (written field.kind typed)) (behind-value catalog field cond)
    (says-given (λ leaves value. IsKinded leaves typed → Written field leaves value) (written field.kind typed) (written-is field typed))
    (grows-behind-value catalog field cond)
    (λ value. says-then Filtered
    (λ leaves edit. (IsKinded leaves typed → Written field leaves value) → IsKinded leaves typed → (edit.field ≡ field) × IsEdit leaves edit)
    (planned_filter catalog field.table cond) (λ filter. with_leaves (λ leaves. record { leaves = leaves; field = field; value = value; filter = filter }))
    (says-filter days catalog field.table cond)
    (λ filter. grows-leaves (λ leaves. record { leaves = leaves; field = field; value = value; filter = filter }))
    (λ filter. says-leaves
    (λ leaves edit. Filtered leaves filter → (IsKinded leaves typed → Written field leaves value) → IsKinded leaves typed → (edit.field ≡ field) × IsEdit leaves edit)
    (λ leaves. record { leaves = leaves; field = field; value = value; filter = filter })
    (λ leaves more three two a. (refl, record { value = (two a).0; taken = (two a).1; narrow = (two a).2; filter = three })))))

pub edits-are-typed : SaysDays → EditsAreTyped
edits-are-typed days catalog table name one cond plan is =
    let first = and_then-Ok (table_or_fault (table_named catalog table))
    (λ is. and_then (edited_field catalog is name) (λ field. and_then (edited_parts catalog field one cond []) (λ all. Ok all.part))) plan is in
    let second = and_then-Ok (edited_field catalog first.0 name) (λ field. and_then (edited_parts catalog field one cond []) (λ all. Ok all.part)) plan first.2 in
    let third = and_then-Ok (edited_parts catalog second.0 one cond []) (λ all. Ok all.part) plan second.2 in
    let whole : HasAllOfEdit third.0 = edit-leaves catalog second.0 one cond [] third.0 third.1 in
    let holds = says-edit days catalog second.0 one cond [] third.0 third.1 [] in
    let leaves : third.0.leaves ++ [] ≡ third.0.part.leaves = append-nil third.0.leaves ∙ sym whole in
    ok-is (λ (other : PlannedEdit). IsEdit other.leaves other) third.0.part plan third.2 (subst (λ (ls : List Leaf). IsEdit ls third.0.part) leaves holds.1)
