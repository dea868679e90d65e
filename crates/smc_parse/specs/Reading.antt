-- What reading makes of the tokens from a place on: what their plan makes of them, whatever comes behind.
use Rattle.std.specs.Prelude.{◌≡◌, ◌≢◌, ℕ, zero, ◌+◌, ◌<◌, ◌≤◌, Bool, true, false, List, ◌∷◌, length, drop, map, Result}
use Rattle.std.specs.Result.{MatchResult}
use Rattle.smc_tokens.specs.declared.token.Token.{Token}
use Rattle.smc_tokens.specs.declared.token.Token.TheVariants.{Name, Number}
use Rattle.smc_tokens.specs.declared.token.Placed.{Placed}
use Rattle.smc_query.specs.Machine.{Plan, Outcome, stuck, too_deep, outcome}
use Rattle.smc_parse.specs.declared.fault.Fault.{Fault}
use Rattle.smc_parse.specs.declared.fault.Fault.TheVariants.{Wrong, TooDeep, NoMemory}

-- tokens without the bytes where they begin
abbrev pub tokens_of : List Placed → List Token
tokens_of placed = map (λ p. p.token) placed

-- the tokens from a place on
unfoldable pub ahead : List Placed → ℕ → List Token
ahead placed at = drop at (tokens_of placed)

-- this token stands at a place
pub record Stands (placed : List Placed) (at : ℕ) (token : Token) : Type 0 where
  pub within : at < length placed
  pub is : ahead placed at ≡ token ∷ ahead placed (at + 1)

-- no name stands first
abbrev pub names_none : List Token → Bool
names_none (Name n ∷ s) = false
names_none _ = true

-- no number without decimals stands first
abbrev pub wholes_none : List Token → Bool
wholes_none (Number n zero ∷ later) = false
wholes_none _ = true

-- where a plan stops by a fault; want of memory says nothing of the text
abbrev pub StopsBy : List Placed → Fault → Outcome → Type 0
StopsBy placed (Wrong index) now = (index ≤ length placed) × (now ≡ stuck (ahead placed index))
StopsBy placed (TooDeep index) now = (index ≤ length placed) × (now ≡ too_deep (ahead placed index))
StopsBy placed NoMemory now = Unit {0}

-- the tokens between two places take one plan to another, whatever comes behind both
pub record Leads {K : Type 0} (part after : K → Plan) (placed : List Placed) (from to : ℕ) : Type 0 where
  pub later : from ≤ to
  pub within : to ≤ length placed
  pub goes : (next : K) → outcome (part next) (ahead placed from) ≡ outcome (after next) (ahead placed to)

-- the plan stops by this fault, whatever comes behind it
abbrev pub Stops : {K : Type 0} → (K → Plan) → List Placed → ℕ → Fault → Type 0
Stops {K} part placed from fault = (next : K) → StopsBy placed fault (outcome (part next) (ahead placed from))

-- what comes behind a tree that is there already
abbrev pub given : {T : Type 0} → T → (T → Plan) → Plan
given tree next = next tree

-- a part is read up to a place behind it, and its tree is what was read; or its plan stops by the fault
abbrev pub Reads : {X T : Type 0} → ((T → Plan) → Plan) → (X → T) → List Placed → ℕ → Result (X × ℕ) Fault → Type 0
Reads part tree_of placed from result = MatchResult result (λ found. Leads part (given (tree_of found.0)) placed from found.1) (λ fault. Stops part placed from fault)

-- the plan stops by this fault, which is one of the tokens: no memory was wanted
pub record Misses {K : Type 0} (part : K → Plan) (placed : List Placed) (from : ℕ) (fault : Fault) : Type 0 where
  pub stops : Stops part placed from fault
  pub of_tokens : fault ≢ NoMemory

-- the same as `Reads`, of a part that is read without memory
abbrev pub ReadsInPlace : {X T : Type 0} → ((T → Plan) → Plan) → (X → T) → List Placed → ℕ → Result (X × ℕ) Fault → Type 0
ReadsInPlace part tree_of placed from result = MatchResult result (λ found. Leads part (given (tree_of found.0)) placed from found.1) (λ fault. Misses part placed from fault)

-- a mark is passed; or its plan stops by the fault
abbrev pub Passes : (Plan → Plan) → List Placed → ℕ → Result ℕ Fault → Type 0
Passes part placed from result = MatchResult result (λ to. Leads part (λ next. next) placed from to) (λ fault. Misses part placed from fault)
