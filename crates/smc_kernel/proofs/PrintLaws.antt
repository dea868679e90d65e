-- What output columns show can be printed.
use Rattle.std.proofs.Common.{◌≡◌, ℕ, zero, suc, ◌<◌, ℤ, Bool, true, false, cond, nat_eq, List, [], ◌∷◌, ◌++◌, Option, None, Some, Result, Ok, Err, IfOk, OnOk, map, append_assoc, ap, ◌∙◌, refl, sym, subst, arith}
use Rattle.smc_folds.specs.Kinds as folds
use Rattle.smc_query.specs.Trees.{total, average}
use Rattle.smc_plan.specs.Kinds.{IsOutput}
use Rattle.smc_plan.specs.Outputs.{OutputTree, aggregate}
use Rattle.smc_plan.specs.Typed.{KindedTree, TypedTree}
use Rattle.smc_plan.specs.declared.leaf.Leaf.{Leaf}
use Rattle.smc_meaning.specs.Cells.{CanPrint, column_seen}
use Rattle.smc_meaning.specs.declared.cell.Cell.{Cell as Shown}
use Rattle.smc_meaning.specs.Groups.{average_scale, scale_in, shown}
use Rattle.smc_meaning.specs.Shown.{IsShowable}
use Rattle.smc_meaning.specs.Values.{Cell, number, value_of}
use Rattle.smc_meaning.proofs.Printable.{shown-prints, value-prints}
use Rattle.smc_kernel.specs.Taken.{end_found}

prints : (made meant : Option Cell) → made ≡ meant → CanPrint meant → CanPrint made
prints made meant is can = subst CanPrint (sym is) can

-- a sum
pub sum-prints : (leaves : List Leaf) (of : KindedTree) (units : ℤ) (made : Option Cell) → IsOutput leaves (aggregate total of)
    → made ≡ Some (number units (scale_in of.kind)) → CanPrint made
sum-prints leaves of units made is shows = prints made (Some (number units (scale_in of.kind))) shows (shown-prints [] leaves (aggregate total of) [] is)

-- an average
pub average-prints : (leaves : List Leaf) (of : KindedTree) (kept : ℕ) (units : ℤ) (made : Option Cell) → IsOutput leaves (aggregate average of)
    → (kept ≡ 0 → made ≡ None) → (0 < kept → made ≡ Some (number units (average_scale (scale_in of.kind)))) → CanPrint made
average-prints leaves of zero units made is none some = prints made None (none refl) tt
average-prints leaves of (suc more) units made is none some =
    prints made (Some (number units (average_scale (scale_in of.kind)))) (some (omega arith)) (shown-prints [] leaves (aggregate average of) ([] ∷ []) is)

either-prints : (test : Bool) (value : Cell) → CanPrint (Some value) → CanPrint (cond test None (Some value))
either-prints true value can = tt
either-prints false value can = can

-- a value at an end of the order
pub end-prints : (leaves : List Leaf) (of : TypedTree) (kept : ℕ) (best : List ℕ) (made : Option Cell) → IsShowable leaves of
    → made ≡ end_found leaves of kept best → CanPrint made
end-prints leaves of kept best made is shows =
    prints made (end_found leaves of kept best) shows (either-prints (nat_eq kept 0) (value_of leaves of best) (value-prints leaves of best is))

-- what holds of each answer of one kind holds where there is an answer
pub each-ok : {X E : Type 0} (P Q : X → Type 0) (answer : Result X E) → ((x : X) → P x → Q x) → IfOk answer P → IfOk answer Q
each-ok P Q (Ok x) then holds = then x holds
each-ok P Q (Err fault) then holds = tt

-- what follows where there is an answer
pub on-ok : {X E : Type 0} (P Q : Type 0) (answer : Result X E) → (P → Q) → OnOk answer P → OnOk answer Q
on-ok P Q (Ok x) then holds = then holds
on-ok P Q (Err fault) then holds = tt

-- the columns so far, one more, and those that follow
pub columns-more : {X : Type 0} (shows : X → Option Cell) (old next all : List (Option Cell)) (item : X) (items : List X)
    → next ≡ old ++ shows item ∷ [] → all ≡ next ++ map shows items → all ≡ old ++ map shows (item ∷ items)
columns-more shows old next all item items one rest = rest ∙ ap (λ (front : List (Option Cell)). front ++ map shows items) one ∙ append_assoc old (shows item ∷ []) (map shows items)

-- the columns of a row that has no others
pub row-shows : (kinds : List folds.Kind) (leaves leaves' : List Leaf) (items items' : List OutputTree) (rows : List (List ℕ)) (start : List (Option Shown))
    → start ≡ [] → leaves ≡ leaves' → items ≡ items'
    → map column_seen start ++ map (λ item. shown kinds leaves item rows) items ≡ map (λ item. shown kinds leaves' item rows) items'
row-shows kinds leaves leaves' items items' rows start none a b =
    ap (λ (xs : List (Option Shown)). map column_seen xs ++ map (λ item. shown kinds leaves item rows) items) none
    ∙ ap (λ (xs : List Leaf). map (λ item. shown kinds xs item rows) items) a
    ∙ ap (map (λ item. shown kinds leaves' item rows)) b
