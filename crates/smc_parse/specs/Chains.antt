-- How an expression goes on behind a part of it, and what compares two.
use Rattle.std.specs.Prelude.{ℕ, ◌+◌, Bool, true, false, List, ◌∷◌}
use Rattle.smc_tokens.specs.declared.token.Token.{Token}
use Rattle.smc_tokens.specs.declared.token.Token.TheVariants.{Sign as OfSign}
use Rattle.smc_tokens.specs.declared.sign.Sign.{Sign}
use Rattle.smc_tokens.specs.declared.sign.Sign.TheVariants.{Equal, Unequal, Less, LessEqual, Greater, GreaterEqual}
use Rattle.smc_tokens.specs.declared.token.Placed.{Placed}
use Rattle.smc_query.specs.Trees.{ExprTree, sum, difference}
use Rattle.smc_query.specs.Machine.{term, terms}
use Rattle.smc_parse.specs.declared.expr.Joint.{Joint}
use Rattle.smc_parse.specs.declared.expr.Joint.TheVariants.{Plus, Minus}
use Rattle.smc_parse.specs.Reading.{Leads, given}

-- two terms joined
abbrev pub joined : Joint → ExprTree → ExprTree → ExprTree
joined Plus left right = sum left right
joined Minus left right = difference left right

-- behind some terms stands what joins another one to them
abbrev pub HasTerm : Joint → List Placed → ℕ → Type 0
HasTerm joint placed at = (depth : ℕ) (left : ExprTree) → Leads (terms depth left) (λ k. term depth (λ right. terms depth (joined joint left right) k)) placed at (at + 1)

-- behind some terms no other one is joined to them
abbrev pub HasNoTerm : List Placed → ℕ → Type 0
HasNoTerm placed at = (depth : ℕ) (left : ExprTree) → Leads (terms depth left) (given left) placed at at

-- a sign that compares nothing
abbrev pub compares_none : Sign → Bool
compares_none Equal = false
compares_none Unequal = false
compares_none Less = false
compares_none LessEqual = false
compares_none Greater = false
compares_none GreaterEqual = false
compares_none _ = true

-- no sign that compares stands first
abbrev pub compares_none_first : List Token → Bool
compares_none_first (OfSign sign ∷ later) = compares_none sign
compares_none_first _ = true
