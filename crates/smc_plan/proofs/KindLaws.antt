-- The parts of a plan are what they are said to be, whatever leaves come behind.
use Rattle.std.proofs.Common.{◌≡◌, ℕ, zero, suc, ◌≤◌, ◌==◌, ◌&&◌, Bool, true, false, List, [], ◌∷◌, ◌++◌, length, get_or, Option, Some, None, Result, Ok, Err, refl, sym, ap, ◌∙◌, subst, append_assoc, arith, ℤ, unsigned_abs}
use Rattle.std.specs.List.{slice_get}
use Rattle.std.proofs.lemmas.Bool.{cond-true, le-leb}
use Rattle.std.proofs.lemmas.Bool.Decides.{nat_tests}
use Rattle.std.proofs.lemmas.Int.{ints}
use Rattle.std.proofs.lemmas.List.Quantifiers.{position-Some}
use Rattle.std.proofs.lemmas.Option.{slice_get-get_or}
use Rattle.smc_query.specs.Trees.{PathTree, ExprTree, CondTree}
use Rattle.smc_query.specs.Trees as query
use Rattle.smc_query.specs.declared.cond.Op.{Op}
use Rattle.smc_types.specs.Calendar.{IsDate, day_number}
use Rattle.smc_types.specs.Days.{IsDay, SpellsDay, date_text}
use Rattle.smc_types.specs.declared.catalog.Catalog.{Catalog}
use Rattle.smc_types.specs.declared.column.FieldType.{FieldType}
use Rattle.smc_types.specs.declared.column.FieldType.TheVariants.{Count, Amount, Rate, Day, Text, RefTo}
use Rattle.smc_types.specs.declared.days.CivilDate.{CivilDate}
use Rattle.smc_plan.specs.Answers.{and_then}
use Rattle.smc_plan.specs.Bounds.{added, are_narrow, is_comparable, kind_of, multiplied, negated}
use Rattle.smc_plan.specs.Conditions.{ConditionTree, either, both, negation, comparison, within}
use Rattle.smc_plan.specs.Conds.{compared, ranged, typed_cond, where_fit}
use Rattle.smc_plan.specs.Exprs.{has_date, kinded, kinded_by, sum_typed, difference_typed, product_typed, minus_typed, number_typed, day_typed, text_typed, field_typed, leaf_typed, typed_expr}
use Rattle.smc_plan.specs.Kinds.{AreCompared, IsKinded, IsTyped, day_kind, kind_in, leaf_kind}
use Rattle.smc_plan.specs.Leaves.{leaf_of, place_of, same_hops, same_leaf, same_type}
use Rattle.smc_plan.specs.Planning.{Made, Planning, ◌>>=◌, given, made, placed, placed_at}
use Rattle.smc_plan.specs.Typed.{KindedTree, TypedTree, number, day, sum, difference, product, minus}
use Rattle.smc_plan.specs.declared.fault.PlanFault.{PlanFault}
use Rattle.smc_plan.specs.declared.fault.PlanFault.TheVariants.{Types}
use Rattle.smc_plan.specs.declared.kind.Kind.{Kind}
use Rattle.smc_plan.specs.declared.kind.Kind.TheVariants.{Day as Days}
use Rattle.smc_plan.specs.declared.kind.TheConstants.{DAY_BOUND}
use Rattle.smc_plan.specs.declared.leaf.Leaf.{Leaf}
use Rattle.smc_plan.proofs.LeafLaws.{Extends}
use Rattle.smc_plan.proofs.GrowLaws.{Grows, and_then-Ok, grows-both, grows-cond, grows-expr}

-- ---- leaves that are found again

same-kind : (one other : FieldType) → same_type one other ≡ true → kind_of one ≡ kind_of other
same-kind Count Count same = refl
same-kind Amount Amount same = refl
same-kind Rate Rate same = refl
same-kind Day Day same = refl
same-kind (Text one) (Text other) same = refl
same-kind (RefTo one) (RefTo other) same = refl
same-kind _ _ same = absurd cc

last-of : (a b : Bool) → (a && b) ≡ true → b ≡ true
last-of true b is = is
last-of false b is = absurd cc

-- an element of the front
get-front : {A : Type 0} (front behind : List A) (place : ℕ) (element : A) → slice_get front place ≡ Some element → slice_get (front ++ behind) place ≡ Some element
get-front [] behind place element is = absurd cc
get-front (first ∷ front) behind zero element is = is
get-front (first ∷ front) behind (suc place) element is = get-front front behind place element is

-- the first element behind the front
get-behind : {A : Type 0} (front behind : List A) (element : A) → slice_get (front ++ (element ∷ behind)) (length front) ≡ Some element
get-behind [] behind element = refl
get-behind (first ∷ front) behind element = get-behind front behind element

-- a leaf of this type stands at its place, whatever comes behind
placed-kind-at : (leaves more : List Leaf) (one : Leaf) (found : Option ℕ) → place_of leaves one ≡ found
    → leaf_kind (slice_get ((placed_at leaves one found).leaves ++ more) (placed_at leaves one found).part) ≡ Ok (kind_of one.kind)
placed-kind-at leaves more one None is =
    let rest : (leaves ++ one ∷ []) ++ more ≡ leaves ++ (one ∷ more) = append_assoc leaves (one ∷ []) more in
    let at : slice_get ((leaves ++ one ∷ []) ++ more) (length leaves) ≡ Some one = rw rest (get-behind leaves more one) in
    ap leaf_kind at
placed-kind-at leaves more one (Some place) is =
    let here = position-Some (λ (other : Leaf). same_leaf other one) leaves place one is in
    let other : Leaf = get_or leaves place one in
    let at : slice_get leaves place ≡ Some other = slice_get-get_or leaves place one here.0 in
    let same : same_type other.kind one.kind ≡ true =
    last-of (same_hops other.hops one.hops && (other.table == one.table) && (other.width == one.width) && (other.at == one.at)) (same_type other.kind one.kind) here.1 in
    ap leaf_kind (get-front leaves more place other at) ∙ ap Ok (same-kind other.kind one.kind same)

placed-kind : (leaves more : List Leaf) (one : Leaf) → leaf_kind (slice_get ((placed leaves one).leaves ++ more) (placed leaves one).part) ≡ Ok (kind_of one.kind)
placed-kind leaves more one = placed-kind-at leaves more one (place_of leaves one) refl

-- ---- what is planned holds of the leaves so far and whatever comes behind

abbrev pub Says : {A : Type 0} → Planning A → (List Leaf → A → Type 0) → Type 0
Says {A} plan holds = (leaves : List Leaf) (all : Made A) → plan leaves ≡ Ok all → (more : List Leaf) → holds (all.leaves ++ more) all.part

pub says-made : {A : Type 0} (holds : List Leaf → A → Type 0) (one all : Made A) (more : List Leaf) → ◌≡◌ {A = Result (Made A) PlanFault} (Ok one) (Ok all)
    → holds (one.leaves ++ more) one.part → holds (all.leaves ++ more) all.part
says-made {A} holds one all more is one-holds = let same : one ≡ all = cc in subst (λ (other : Made A). holds (other.leaves ++ more) other.part) same one-holds

-- a part without leaves
pub says-given : {A : Type 0} (holds : List Leaf → A → Type 0) (part : Result A PlanFault) → ((leaves : List Leaf) (is : A) → part ≡ Ok is → holds leaves is) → Says (given part) holds
says-given holds part each leaves all is more =
    let step = and_then-Ok part (λ one. Ok (made leaves one)) all is in
    says-made holds (made leaves step.0) all more step.2 (each (leaves ++ more) step.0 step.1)

-- a part, and one that goes by it
pub says-then : {A B : Type 0} (before : List Leaf → A → Type 0) (holds : List Leaf → B → Type 0) (first : Planning A) (later : A → Planning B)
    → Says first before → ((part : A) → Grows (later part))
    → ((part : A) → Says (later part) (λ leaves all. before leaves part → holds leaves all))
    → Says (first >>= later) holds
says-then before holds first later one grows rest leaves all is more =
    let step = and_then-Ok (first leaves) (λ first-made. later first-made.part first-made.leaves) all is in
    let grown : Extends step.0.leaves all.leaves = grows step.0.part step.0.leaves all step.2 in
    let front : all.leaves ++ more ≡ step.0.leaves ++ (grown.more ++ more) = ap (λ ls. ls ++ more) grown.is ∙ append_assoc step.0.leaves grown.more more in
    let there : before (all.leaves ++ more) step.0.part = subst (λ (ls : List Leaf). before ls step.0.part) (sym front) (one leaves step.0 step.1 (grown.more ++ more)) in
    rest step.0.part step.0.leaves all step.2 more there

-- two parts, and one made of both
pub says-both : {A B C : Type 0} (left : List Leaf → A → Type 0) (right : List Leaf → B → Type 0) (holds : List Leaf → C → Type 0)
    (first : Planning A) (second : Planning B) (joined : A → B → Result C PlanFault) → Says first left → Says second right → Grows second
    → ((leaves : List Leaf) (one : A) (other : B) (is : C) → left leaves one → right leaves other → joined one other ≡ Ok is → holds leaves is)
    → Says (first >>= (λ one. second >>= (λ other. given (joined one other)))) holds
says-both left right holds first second joined one other grows each leaves all is more =
    let step = and_then-Ok (first leaves) (λ a. (second >>= (λ b. given (joined a.part b))) a.leaves) all is in
    let next = and_then-Ok (second step.0.leaves) (λ b. given (joined step.0.part b.part) b.leaves) all step.2 in
    let last = and_then-Ok (joined step.0.part next.0.part) (λ c. Ok (made next.0.leaves c)) all next.2 in
    let grown : Extends step.0.leaves next.0.leaves = grows step.0.leaves next.0 next.1 in
    let front : next.0.leaves ++ more ≡ step.0.leaves ++ (grown.more ++ more) = ap (λ ls. ls ++ more) grown.is ∙ append_assoc step.0.leaves grown.more more in
    let a : left (next.0.leaves ++ more) step.0.part = subst (λ (ls : List Leaf). left ls step.0.part) (sym front) (one leaves step.0 step.1 (grown.more ++ more)) in
    let b : right (next.0.leaves ++ more) next.0.part = other step.0.leaves next.0 next.1 more in
    says-made holds (made next.0.leaves last.0) all more last.2 (each (next.0.leaves ++ more) step.0.part next.0.part last.0 a b last.1)

-- a part, and one made of it
pub says-one : {A B : Type 0} (before : List Leaf → A → Type 0) (holds : List Leaf → B → Type 0) (first : Planning A) (joined : A → Result B PlanFault) → Says first before
    → ((leaves : List Leaf) (one : A) (is : B) → before leaves one → joined one ≡ Ok is → holds leaves is)
    → Says (first >>= (λ one. given (joined one))) holds
says-one before holds first joined one each leaves all is more =
    let step = and_then-Ok (first leaves) (λ a. given (joined a.part) a.leaves) all is in
    let last = and_then-Ok (joined step.0.part) (λ b. Ok (made step.0.leaves b)) all step.2 in
    says-made holds (made step.0.leaves last.0) all more last.2 (each (step.0.leaves ++ more) step.0.part last.0 (one leaves step.0 step.1 more) last.1)

-- ---- expressions

-- an expression whose kind is that of its tree
kinded-is : (leaves : List Leaf) (typed : TypedTree) (kind : Result Kind PlanFault) (is : KindedTree) → kind_in leaves typed ≡ kind → kinded_by typed kind ≡ Ok is → IsKinded leaves is
kinded-is leaves typed kind is here by =
    let step = and_then-Ok kind (λ one. Ok (kinded typed one)) is by in
    let same : kinded typed step.0 ≡ is = cc in
    subst (IsKinded leaves) same (here ∙ step.1)

-- an operator of two expressions
pair-is : (leaves : List Leaf) (one other : KindedTree) (join : Kind → Kind → Result Kind PlanFault) → IsKinded leaves one → IsKinded leaves other
    → and_then (kind_in leaves one.typed) (λ a. and_then (kind_in leaves other.typed) (λ b. join a b)) ≡ join one.kind other.kind
pair-is leaves one other join left right =
    ap (λ (first : Result Kind PlanFault). and_then first (λ a. and_then (kind_in leaves other.typed) (λ b. join a b))) left
    ∙ ap (λ (second : Result Kind PlanFault). and_then second (λ b. join one.kind b)) right

sum-is : (leaves : List Leaf) (one other is : KindedTree) → IsKinded leaves one → IsKinded leaves other → sum_typed one other ≡ Ok is → IsKinded leaves is
sum-is leaves one other is left right by = kinded-is leaves (sum one.typed other.typed) (added one.kind other.kind) is (pair-is leaves one other added left right) by

difference-is : (leaves : List Leaf) (one other is : KindedTree) → IsKinded leaves one → IsKinded leaves other → difference_typed one other ≡ Ok is → IsKinded leaves is
difference-is leaves one other is left right by =
    kinded-is leaves (difference one.typed other.typed) (added one.kind other.kind) is (pair-is leaves one other added left right) by

product-is : (leaves : List Leaf) (one other is : KindedTree) → IsKinded leaves one → IsKinded leaves other → product_typed one other ≡ Ok is → IsKinded leaves is
product-is leaves one other is left right by =
    kinded-is leaves (product one.typed other.typed) (multiplied one.kind other.kind) is (pair-is leaves one other multiplied left right) by

minus-is : (leaves : List Leaf) (one is : KindedTree) → IsKinded leaves one → minus_typed one ≡ Ok is → IsKinded leaves is
minus-is leaves one is left by = kinded-is leaves (minus one.typed) (negated one.kind) is (ap (λ (first : Result Kind PlanFault). and_then first negated) left) by

number-is : (units decimals : ℕ) (leaves : List Leaf) (is : KindedTree) → number_typed units decimals ≡ Ok is → IsKinded leaves is
number-is units decimals leaves is by = kinded-is leaves (number units decimals) (kind_in leaves (number units decimals)) is refl by

text-is : (bytes : List ℕ) (leaves : List Leaf) (is : KindedTree) → ◌≡◌ {A = Result KindedTree PlanFault} (Ok (text_typed bytes)) (Ok is) → IsKinded leaves is
text-is bytes leaves is by = let same : text_typed bytes ≡ is = cc in subst (IsKinded leaves) same refl

-- ---- days of the calendar

-- each day that a text says is one of the years 0000 to 9999
abbrev pub SaysDays : Type 0
SaysDays = (said : List ℕ) (days : ℤ) → SpellsDay said days → IsDay days

date-of : (year month day' : ℕ) → has_date year month day' ≡ true → IsDate (record { year = year; month = month; day = day' })
date-of year month day' is = record {
  year = grind (arith, nat_tests);
  month_low = grind (arith, nat_tests);
  month_high = grind (arith, nat_tests);
  day_low = grind (arith, nat_tests);
  day_high = grind (arith, nat_tests);
}

near : (days : ℤ) → IsDay days → unsigned_abs days ≤ DAY_BOUND
near days is = omega (arith, ints, is.low, is.high)

day-kind-is : (days : ℤ) → unsigned_abs days ≤ DAY_BOUND → day_kind days ≡ Ok (Days DAY_BOUND)
day-kind-is days is = cond-true _ _ _ (le-leb (unsigned_abs days) DAY_BOUND is)

day-is : SaysDays → (year month day' : ℕ) (leaves : List Leaf) (is : KindedTree) → day_typed year month day' ≡ Ok is → IsKinded leaves is
day-is days year month day' leaves is by =
    elim (has_date year month day') as (λ v. has_date year month day' ≡ v → IsKinded leaves is) [
      | true ↦ λ has.
          let date : CivilDate = record { year = year; month = month; day = day' } in
          let number' : ℤ = day_number date in
          let in_range : IsDay number' = days (date_text date) number' (record { date = date; is_date = date-of year month day' has; text_is = refl; day_is = refl }) in
          let typed' : KindedTree = kinded (day number') (Days DAY_BOUND) in
          let same : typed' ≡ is = (let now : ◌≡◌ {A = Result KindedTree PlanFault} (Ok typed') (Ok is) = (rw has at by) in cc) in
          subst (IsKinded leaves) same (day-kind-is number' (near number' in_range))
      | false ↦ λ lacks. let now : ◌≡◌ {A = Result KindedTree PlanFault} (Err Types) (Ok is) = (rw lacks at by) in absurd cc
    ] refl

-- ---- comparisons

-- what is answered holds what the answer holds
pub ok-is : {A : Type 0} (holds : A → Type 0) (one is : A) → ◌≡◌ {A = Result A PlanFault} (Ok one) (Ok is) → holds one → holds is
ok-is holds one is by h = let same : one ≡ is = cc in subst holds same h

-- a part whose operands fit
pub fit-is : {A : Type 0} (fits narrow : Bool) (part is : A) → where_fit fits narrow part ≡ Ok is → (fits ≡ true) × (narrow ≡ true) × (part ≡ is)
fit-is true true part is by = (refl, refl, (let same : part ≡ is = cc in same))
fit-is true false part is by = absurd cc
fit-is false narrow part is by = absurd cc

first-of : (a b : Bool) → (a && b) ≡ true → a ≡ true
first-of true b is = refl
first-of false b is = absurd cc

compared-are : (leaves : List Leaf) (one other : KindedTree) → IsKinded leaves one → IsKinded leaves other → is_comparable one.kind other.kind ≡ true
    → are_narrow one.kind other.kind ≡ true → AreCompared leaves one.typed other.typed
compared-are leaves one other a b comparable narrow =
    record { left = one.kind; right = other.kind; left_is = a; right_is = b; comparable = comparable; narrow = narrow }

compared-is : (op : Op) (leaves : List Leaf) (one other : KindedTree) (is : ConditionTree) → IsKinded leaves one → IsKinded leaves other → compared op one other ≡ Ok is → IsTyped leaves is
compared-is op leaves one other is a b by =
    let fit = fit-is (is_comparable one.kind other.kind) (are_narrow one.kind other.kind) (comparison op one.typed other.typed) is by in
    subst (IsTyped leaves) fit.2 (compared-are leaves one other a b fit.0 fit.1)

ranged-is : (leaves : List Leaf) (value low high : KindedTree) (is : ConditionTree) → IsKinded leaves value → IsKinded leaves low → IsKinded leaves high
    → ranged value low high ≡ Ok is → IsTyped leaves is
ranged-is leaves value low high is v a b by =
    let fit = fit-is (is_comparable value.kind low.kind && is_comparable value.kind high.kind) (are_narrow value.kind low.kind && are_narrow value.kind high.kind)
    (within value.typed low.typed high.typed) is by in
    subst (IsTyped leaves) fit.2 (
      compared-are leaves value low v a (first-of (is_comparable value.kind low.kind) (is_comparable value.kind high.kind) fit.0) (first-of (are_narrow value.kind low.kind) (are_narrow value.kind high.kind) fit.1),
      compared-are leaves value high v b (last-of (is_comparable value.kind low.kind) (is_comparable value.kind high.kind) fit.0) (last-of (are_narrow value.kind low.kind) (are_narrow value.kind high.kind) fit.1),
    )

-- ---- all expressions and conditions

module _ (days : SaysDays) (catalog : Catalog) (table : ℕ) where
  says-field : (path : PathTree) → Says (field_typed catalog table path) IsKinded
  says-field path leaves all is more =
      let step = and_then-Ok (leaf_of catalog table path) (λ one. Ok (leaf_typed one.kind (placed leaves one))) all is in
      says-made IsKinded (leaf_typed step.0.kind (placed leaves step.0)) all more step.2 (placed-kind leaves more step.0)

  pub says-expr : (expr : ExprTree) → Says (typed_expr catalog table expr) IsKinded
  says-expr (query.number units decimals) = says-given IsKinded (number_typed units decimals) (number-is units decimals)
  says-expr (query.date year month day') = says-given IsKinded (day_typed year month day') (day-is days year month day')
  says-expr (query.text bytes) = says-given IsKinded (Ok (text_typed bytes)) (text-is bytes)
  says-expr (query.field path) = says-field path
  says-expr (query.sum one other) =
      says-both IsKinded IsKinded IsKinded (typed_expr catalog table one) (typed_expr catalog table other) sum_typed (says-expr one) (says-expr other)
      (grows-expr catalog table other) sum-is
  says-expr (query.difference one other) =
      says-both IsKinded IsKinded IsKinded (typed_expr catalog table one) (typed_expr catalog table other) difference_typed (says-expr one) (says-expr other)
      (grows-expr catalog table other) difference-is
  says-expr (query.product one other) =
      says-both IsKinded IsKinded IsKinded (typed_expr catalog table one) (typed_expr catalog table other) product_typed (says-expr one) (says-expr other)
      (grows-expr catalog table other) product-is
  says-expr (query.minus one) = says-one IsKinded IsKinded (typed_expr catalog table one) minus_typed (says-expr one) minus-is

  pub says-cond : (cond : CondTree) → Says (typed_cond catalog table cond) IsTyped
  says-cond (query.either one other) =
      says-both IsTyped IsTyped IsTyped (typed_cond catalog table one) (typed_cond catalog table other) (λ left right. Ok (either left right)) (says-cond one) (says-cond other)
      (grows-cond catalog table other) (λ leaves left right is a b by. ok-is (IsTyped leaves) (either left right) is by (a, b))
  says-cond (query.both one other) =
      says-both IsTyped IsTyped IsTyped (typed_cond catalog table one) (typed_cond catalog table other) (λ left right. Ok (both left right)) (says-cond one) (says-cond other)
      (grows-cond catalog table other) (λ leaves left right is a b by. ok-is (IsTyped leaves) (both left right) is by (a, b))
  says-cond (query.negation one) =
      says-one IsTyped IsTyped (typed_cond catalog table one) (λ of. Ok (negation of)) (says-cond one) (λ leaves of is a by. ok-is (IsTyped leaves) (negation of) is by a)
  says-cond (query.comparison op one other) =
      says-both IsKinded IsKinded IsTyped (typed_expr catalog table one) (typed_expr catalog table other) (compared op) (says-expr one) (says-expr other)
      (grows-expr catalog table other) (compared-is op)
  says-cond (query.within one two three) =
      says-then IsKinded IsTyped (typed_expr catalog table one)
      (λ value. typed_expr catalog table two >>= (λ low. typed_expr catalog table three >>= (λ high. given (ranged value low high)))) (says-expr one)
      (λ value. grows-both (typed_expr catalog table two) (typed_expr catalog table three) (ranged value) (grows-expr catalog table two) (grows-expr catalog table three))
      (λ value. says-both IsKinded IsKinded (λ leaves all. IsKinded leaves value → IsTyped leaves all) (typed_expr catalog table two) (typed_expr catalog table three)
      (ranged value) (says-expr two) (says-expr three) (grows-expr catalog table three) (λ leaves low high is a b by v. ranged-is leaves value low high is v a b by))
