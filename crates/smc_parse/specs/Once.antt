-- What reading gives is one thing only, but for want of memory.
use Rattle.std.specs.Prelude.{◌≡◌, ◌⊎◌, ℕ, List}
use Rattle.smc_tokens.specs.declared.token.Placed.{Placed}
use Rattle.smc_query.specs.Machine.{Plan}
use Rattle.smc_parse.specs.declared.fault.Fault.{Fault}
use Rattle.smc_parse.specs.declared.fault.Fault.TheVariants.{NoMemory}
use Rattle.smc_parse.specs.Reading.{Leads, Stops, given}

-- two trees that a part is read as are one, up to one place
abbrev pub OneTree : Type 0 → Type 0
OneTree T = (part : (T → Plan) → Plan) (placed : List Placed) (from to more : ℕ) (t u : T)
    → Leads part (given t) placed from to → Leads part (given u) placed from more → (t ≡ u) × (to ≡ more)

-- what is read stops nowhere
abbrev pub NeverBoth : Type 0 → Type 0
NeverBoth T = (part : (T → Plan) → Plan) (placed : List Placed) (from to : ℕ) (t : T) (fault : Fault)
    → Leads part (given t) placed from to → Stops part placed from fault → fault ≡ NoMemory

-- a part stops by one fault
abbrev pub OneFault : Type 0 → Type 0
OneFault T = (part : (T → Plan) → Plan) (placed : List Placed) (from : ℕ) (one other : Fault)
    → Stops part placed from one → Stops part placed from other → (one ≡ other) ⊎ ((one ≡ NoMemory) ⊎ (other ≡ NoMemory))

-- the same of a part that is read
pub record Once (T : Type 0) : Type 0 where
  pub tree : OneTree T
  pub both : NeverBoth T
  pub fault : OneFault T

-- and of a mark that is passed
pub record PassedOnce : Type 0 where
  pub place : (part : Plan → Plan) (placed : List Placed) (from to more : ℕ) → Leads part (λ k. k) placed from to → Leads part (λ k. k) placed from more → to ≡ more
  pub both : (part : Plan → Plan) (placed : List Placed) (from to : ℕ) (fault : Fault) → Leads part (λ k. k) placed from to → Stops part placed from fault → fault ≡ NoMemory
  pub fault : (part : Plan → Plan) (placed : List Placed) (from : ℕ) (one other : Fault)
      → Stops part placed from one → Stops part placed from other → (one ≡ other) ⊎ ((one ≡ NoMemory) ⊎ (other ≡ NoMemory))
