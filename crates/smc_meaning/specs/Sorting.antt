-- Lists in order.
use Rattle.std.specs.Prelude.{List, [], ◌∷◌, if◌then◌else◌}
use Rattle.std.specs.Ordering.{is_le}
use Rattle.std.specs.declared.cmp.Ordering.{Ordering}

-- a list with one more, before the first that is no less
abbrev pub placed : {A : Type 0} → (A → A → Ordering) → A → List A → List A
placed order one [] = one ∷ []
placed order one (other ∷ others) = if is_le (order one other) then one ∷ other ∷ others else other ∷ placed order one others

-- the same list in ascending order
abbrev pub sorted : {A : Type 0} → (A → A → Ordering) → List A → List A
sorted order [] = []
sorted order (one ∷ others) = placed order one (sorted order others)
