-- What is known of a region that was closed: its history, the one order of its logs, what they tell at their places, and what is
-- present at the end.
use Rattle.std.specs.Prelude.{◌≡◌, ℕ, List}
use Rattle.smc_shape.specs.Layout.{Layout}
use Rattle.smc_model.specs.Order.{Lawful}
use Rattle.smc_model.specs.World.{empty_world}
use Rattle.smc_core.specs.declared.local.Local.{Local}
use Rattle.smc_core.specs.declared.local.Opening.{Opening}
use Rattle.smc_core.specs.Machine.{Machine}
use Rattle.smc_rules.specs.History.{History, history_order, history_state, history_world}
use Rattle.smc_refine.specs.Orders.{IsLawful, logs_of}
use Rattle.smc_census.specs.Laws.{BlocksAreEnough, HomesAreObjects}
use Rattle.smc_chronicle.specs.Chronicle.{Chronicle}
use Rattle.smc_region.specs.Reached.{IsReached}

-- what happened from the opening of the region, without objects, up to this machine
pub record Happened (shape : Layout) (opening : Opening) (m : Machine) : Type 0 where
  pub history : History shape opening empty_world m
  pub is_lawful : IsLawful shape opening empty_world m history
  -- the logs have one order, and it is that of the steps
  pub logs : Lawful empty_world (logs_of m.locals) (history_world history)
  pub by_steps : logs.order ≡ history_order history
  -- as many slots show a present object as objects are present, and so many blocks hold one
  pub homes : HomesAreObjects shape opening (history_state history)
  pub blocks : BlocksAreEnough shape opening (history_state history)
  -- what the logs and the answers tell is true at its place of that order
  pub chronicle : Chronicle shape opening m history

-- so it is up to each state that the region reaches
abbrev pub WhatHappenedIsLawful : Type 0
WhatHappenedIsLawful = (shape : Layout) (opening : Opening) (row : List ℕ) (locals : List Local) → IsReached shape opening row locals
    → Happened shape opening (record { row = row; locals = locals })
