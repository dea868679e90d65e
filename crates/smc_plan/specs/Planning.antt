-- How the parts of a plan are made one after another, each from the leaves of those before it.
use Rattle.std.specs.Prelude.{ℕ, List, [], ◌∷◌, ◌++◌, length, Option, Some, None, Result, Ok}
use Rattle.smc_plan.specs.Answers.{and_then}
use Rattle.smc_plan.specs.Leaves.{place_of}
use Rattle.smc_plan.specs.declared.fault.PlanFault.{PlanFault}
use Rattle.smc_plan.specs.declared.leaf.Leaf.{Leaf}

-- a part of a plan, and the leaves of the plan as far as this part
pub record Made (A : Type 0) : Type 0 where
  pub leaves : List Leaf
  pub part : A

-- a part, and these leaves
abbrev pub made : {A : Type 0} → List Leaf → A → Made A
made leaves part = record { leaves = leaves; part = part }

-- a part that is made from the leaves so far
abbrev pub Planning : Type 0 → Type 0
Planning A = List Leaf → Result (Made A) PlanFault

-- a part without leaves
abbrev pub given : {A : Type 0} → Result A PlanFault → Planning A
given part leaves = and_then part (λ is. Ok (made leaves is))

-- one part, and then another that goes by it
infixl 10 ◌>>=◌
abbrev pub ◌>>=◌ : {A B : Type 0} → Planning A → (A → Planning B) → Planning B
first >>= later = λ leaves. and_then (first leaves) (λ one. later one.part one.leaves)

-- the parts that are made of the elements of a list, one after another
abbrev pub each : {A B : Type 0} → (A → Planning B) → List A → Planning (List B)
each plan [] = given (Ok [])
each plan (element ∷ elements) = do
  first ← plan element
  rest ← each plan elements
  given (Ok (first ∷ rest))

-- a leaf that stands at this place among the others, or else behind them
abbrev pub placed_at : List Leaf → Leaf → Option ℕ → Made ℕ
placed_at leaves leaf None = made (leaves ++ leaf ∷ []) (length leaves)
placed_at leaves leaf (Some place) = made leaves place

-- the leaves with this one among them, and its place
abbrev pub placed : List Leaf → Leaf → Made ℕ
placed leaves leaf = placed_at leaves leaf (place_of leaves leaf)
