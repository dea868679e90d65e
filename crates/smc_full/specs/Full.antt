-- A pass tries to add an object twice, and what it is that a collection is full.
use Rattle.std.specs.Prelude.{◌≡◌, ◌≢◌, ℕ, ◌+◌, ◌<◌, List}
use Rattle.smc_words.specs.declared.layout.TheConstants.{INCARNATIONS}
use Rattle.smc_shape.specs.Layout.{Layout, slots_of, entries_of}
use Rattle.smc_core.specs.declared.call.Call.{Call}
use Rattle.smc_core.specs.declared.call.Call.TheVariants as call
use Rattle.smc_core.specs.declared.done.Done.{Done}
use Rattle.smc_core.specs.declared.done.Done.TheVariants as done
use Rattle.smc_core.specs.declared.word.State.TheVariants as state
use Rattle.smc_core.specs.Machine.{Machine}
use Rattle.smc_rules.specs.Reads.{state_in}
use Rattle.smc_rules.specs.State.{State}
use Rattle.smc_aside.specs.Makes.{Makes}
use Rattle.smc_inv_use.specs.Rest.{HasOneObject}

-- the add was refused, for want of room
abbrev pub IsFull : Done → Type 0
IsFull (done.Full cause) = Unit {0}
IsFull _ = ⊥

-- each slot of the collection has one present object
abbrev pub EachSlotHolds : Layout → State → ℕ → Type 0
EachSlotHolds shape s coll = (slot : ℕ) → slot < slots_of shape coll → HasOneObject shape s coll slot

-- no free entry of the collection has given its last incarnation
abbrev pub NoneSpent : Layout → State → ℕ → Type 0
NoneSpent shape s coll = (entry last stamp : ℕ) → entry < entries_of shape coll → state_in s.memory coll entry ≡ state.Free last stamp → last + 1 ≢ INCARNATIONS

-- the pass makes the call, whatever the answer
abbrev pub Calls : Layout → ℕ → Call → Machine → Machine → Type 0
Calls shape pass call m last = (answer : Done) × Makes shape pass call answer m last

-- it advances the epoch, which is not the last one
abbrev pub AdvancesOnce : Layout → ℕ → Machine → Machine → Type 0
AdvancesOnce shape pass m last = (answer : Done) × (answer ≢ done.Spent) × Makes shape pass call.Advance answer m last

-- in a section it tries to add an object, and in a later one it tries again, with three advances between
pub record TriesTwice (shape : Layout) (pass coll : ℕ) (m : Machine) (first second : Done) : Type 0 where
  pub entered : Machine
  pub tried : Machine
  pub left : Machine
  pub once : Machine
  pub twice : Machine
  pub thrice : Machine
  pub again : Machine
  pub last : Machine
  pub from : ℕ
  pub words : List ℕ
  pub later_from : ℕ
  pub later_words : List ℕ
  pub enters : Calls shape pass call.Enter m entered
  pub tries : Makes shape pass (call.Add coll from words) first entered tried
  pub leaves : Calls shape pass call.Leave tried left
  pub advances : AdvancesOnce shape pass left once
  pub advances_again : AdvancesOnce shape pass once twice
  pub advances_at_last : AdvancesOnce shape pass twice thrice
  pub enters_again : Calls shape pass call.Enter thrice again
  pub tries_again : Makes shape pass (call.Add coll later_from later_words) second again last
