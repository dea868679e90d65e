-- A whole text, and what reading all its tokens gives.
use Rattle.std.specs.Prelude.{◌≡◌, ℕ, ◌-◌, List, Option, map, Result}
use Rattle.std.specs.Result.{MatchResult}
use Rattle.smc_tokens.specs.declared.token.Token.TheVariants.{Word}
use Rattle.smc_tokens.specs.declared.token.Placed.{Placed}
use Rattle.smc_tokens.specs.declared.reserved.Reserved.TheVariants as words
use Rattle.smc_query.specs.Trees.{CondTree, PathTree, ItemTree, KeyTree, filter_tree, path_tree, item_tree, key_tree, Answer, Form}
use Rattle.smc_query.specs.Machine.{Plan, done, must, name, filter, by, sort, first, built, outcome, plan_of}
use Rattle.smc_parse.specs.declared.limits.TheConstants.{MAX_OPEN}
use Rattle.smc_parse.specs.declared.fault.Fault.{Fault}
use Rattle.smc_parse.specs.declared.query.Head.{Head}
use Rattle.smc_parse.specs.declared.query.Tail.{Tail}
use Rattle.smc_parse.specs.Reading.{tokens_of, ahead, StopsBy, Misses}
use Rattle.smc_parse.specs.Parts.{item_list}

-- a query up to `show`
pub record HeadTree : Type 0 where
  pub table : List ℕ
  pub filter : Option CondTree
  pub by : List PathTree

abbrev pub head_tree : Head → HeadTree
head_tree head = record { table = head.table; filter = filter_tree head.filter; by = map path_tree head.by }

abbrev pub head_plan : ℕ → (HeadTree → Plan) → Plan
head_plan depth next = must (Word words.From) (name (λ n. filter depth (λ f. by (λ ps. must (Word words.Show) (next (record { table = n; filter = f; by = ps }))))))

-- a query behind `show`
pub record TailTree : Type 0 where
  pub items : List ItemTree
  pub sort : List KeyTree
  pub first : Option ℕ

abbrev pub tail_tree : Tail → TailTree
tail_tree tail = record { items = map item_tree tail.items; sort = map key_tree tail.sort; first = tail.first }

abbrev pub tail_plan : ℕ → (TailTree → Plan) → Plan
tail_plan depth next = item_list depth (λ is. sort (λ ks. first (λ k. next (record { items = is; sort = ks; first = k }))))

-- nothing more stands behind a text; or the first token that does is wrong
abbrev pub Ends : {T : Type 0} → List Placed → ℕ → Result T Fault → Type 0
Ends placed at result = MatchResult result (λ _. (answer : Answer) → outcome (done answer) (ahead placed at) ≡ built answer) (λ fault. Misses done placed at fault)

-- all tokens are read: the plan of the form builds this answer of them, or it stops by the fault
abbrev pub ReadsAll : {X : Type 0} → Form → (X → Answer) → List Placed → Result X Fault → Type 0
ReadsAll form answer_of placed result =
    MatchResult result (λ found. outcome (plan_of form (MAX_OPEN - 1)) (tokens_of placed) ≡ built (answer_of found)) (λ fault. StopsBy placed fault (outcome (plan_of form (MAX_OPEN - 1)) (tokens_of placed)))
