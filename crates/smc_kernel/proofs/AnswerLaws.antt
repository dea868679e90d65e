-- The answer where all rows are one group.
use Rattle.std.proofs.Common.{◌≡◌, ℕ, List, [], ◌∷◌, ◌++◌, map, Some, refl, sym, ap, ◌∙◌}
use Rattle.smc_folds.specs.Kinds.{Kind}
use Rattle.smc_plan.specs.Planned.{Planned}
use Rattle.smc_meaning.specs.Answers.{Columns, columns_of, group_key}
use Rattle.smc_meaning.specs.Groups.{groups, groups_by, shown, values_at}

-- it has no key
no-key : (plan : Planned) (rows : List (List ℕ)) → plan.by ≡ [] → group_key plan rows ≡ []
no-key plan [] none = refl
no-key plan (row ∷ rows) none = ap (λ by. values_at plan.leaves by row) none

-- one row is that of all groups
pub one-group : (plan : Planned) (kinds : List Kind) (rows : List (List ℕ)) (start made : List Columns) (row : Columns) → plan.by ≡ [] → start ≡ [] → made ≡ start ++ row ∷ []
    → row ≡ map (λ item. shown kinds plan.leaves item rows) plan.items → made ≡ map (columns_of plan kinds) (groups plan rows)
one-group plan kinds rows start made row none first is shows =
    is ∙ ap (λ (front : List Columns). front ++ row ∷ []) first
    ∙ ap (λ (columns : Columns). columns ∷ []) (shows ∙ sym (ap (λ key. map Some key ++ map (λ item. shown kinds plan.leaves item rows) plan.items) (no-key plan rows none)))
    ∙ sym (ap (λ by. map (columns_of plan kinds) (groups_by plan by rows)) none)
