-- Totals of output columns, one after another.
use Rattle.std.proofs.Common.{◌≡◌, ℕ, ◌+◌, ◌<◌, List, [], ◌∷◌, ◌++◌, length, map, take, suc, get_or, refl, sym, ap, ◌∙◌, subst, arith}
use Rattle.std.specs.List.{All, AllByRecursion}
use Rattle.std.proofs.lemmas.List.{get_or-map, length-map, map-append}
use Rattle.std.proofs.lemmas.List.Elements.{All-get_or}
use Rattle.std.proofs.Math.Seq.{take-suc}
use Rattle.smc_plan.specs.Outputs.{OutputTree, output_tree}
use Rattle.smc_plan.specs.Planned.{output_trees}
use Rattle.smc_plan.specs.declared.output.Output.{Output}
use Rattle.smc_plan.specs.declared.leaf.Leaf.{Leaf}
use Rattle.smc_kernel.specs.Taken.{AreTotals, IsTotal}
use Rattle.smc_kernel.specs.declared.total.Total.{Total}

-- what holds of all that is seen of a list holds of what is seen of an element
pub seen-all : {X Y : Type 0} (P : X → Type 0) (seen : Y → X) (ys : List Y) (i : ℕ) (y : Y) → i < length ys → y ≡ get_or ys i y → All P (map seen ys) → P (seen y)
seen-all P seen ys i y within is all =
    let here = All-get_or P (map seen ys) i (seen y) (rw (length-map ys seen) within) all in
    rw (is) (rw (get_or-map seen ys i y (seen y) within) at here)

-- all and one more
pub all-more : {X : Type 0} (P : X → Type 0) (xs : List X) (x : X) → AllByRecursion P xs → P x → AllByRecursion P (xs ++ x ∷ [])
all-more P [] x all here = (here, tt)
all-more P (y ∷ ys) x all here = (all.0, all-more P ys x all.1 here)

-- all totals and one more
pub totals-more : (leaves : List Leaf) (items : List OutputTree) (totals : List Total) (item : OutputTree) (so_far : Total) (rows : List (List ℕ))
    → AreTotals leaves items totals rows → IsTotal leaves item so_far rows → AreTotals leaves (items ++ item ∷ []) (totals ++ so_far ∷ []) rows
totals-more leaves [] [] item so_far rows all here = (here, tt)
totals-more leaves (first ∷ items) (found ∷ totals) item so_far rows all here = (all.0, totals-more leaves items totals item so_far rows all.1 here)
totals-more leaves [] (found ∷ totals) item so_far rows all here = absurd all
totals-more leaves (first ∷ items) [] item so_far rows all here = absurd all

-- the same totals
pub totals-same : (leaves leaves' : List Leaf) (items items' : List OutputTree) (totals totals' : List Total) (rows rows' : List (List ℕ))
    → leaves ≡ leaves' → items ≡ items' → totals ≡ totals' → rows ≡ rows' → AreTotals leaves items totals rows → AreTotals leaves' items' totals' rows'
totals-same leaves leaves' items items' totals totals' rows rows' a b d e all =
    subst (λ xs. AreTotals leaves' items' totals' xs) e
    (subst (λ xs. AreTotals leaves' items' xs rows) d (subst (λ xs. AreTotals leaves' xs totals rows) b (subst (λ xs. AreTotals xs items totals rows) a all)))

-- the totals of no rows of the first output columns, with one more
pub none-next : (leaves : List Leaf) (items : List Output) (i : ℕ) (item : Output) (totals : List Total) (so_far : Total) (now : List Total)
    → i < length items → item ≡ get_or items i item → now ≡ totals ++ so_far ∷ [] → AreTotals leaves (output_trees (take i items)) totals []
    → IsTotal leaves (output_tree item) so_far [] → AreTotals leaves (output_trees (take (i + 1) items)) now []
none-next leaves items i item totals so_far now within is made all here =
    let more : i + 1 ≡ suc i = omega arith in
    let front : output_trees (take (i + 1) items) ≡ output_trees (take i items) ++ output_tree item ∷ [] =
    ap (λ n. output_trees (take n items)) more ∙ ap output_trees (take-suc items i item within) ∙ map-append output_tree (take i items) (get_or items i item ∷ [])
    ∙ ap (λ one. output_trees (take i items) ++ output_tree one ∷ []) (sym is) in
    totals-same leaves leaves (output_trees (take i items) ++ output_tree item ∷ []) (output_trees (take (i + 1) items)) (totals ++ so_far ∷ []) now [] [] refl (sym front) (sym made) refl
    (totals-more leaves (output_trees (take i items)) totals (output_tree item) so_far [] all here)
