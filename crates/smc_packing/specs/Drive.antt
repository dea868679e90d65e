-- A drive: a pass waits, packs one collection in a round of its own, and waits again before it finishes the round.
use Rattle.std.specs.Prelude.{◌≡◌, ◌⊎◌, ℕ, ◌+◌, ◌≤◌, Option, Some, None, List, [], ◌∷◌}
use Rattle.std.specs.Option.{option_or}
use Rattle.smc_shape.specs.Layout.{Layout}
use Rattle.smc_core.specs.declared.call.Call.TheVariants as call
use Rattle.smc_core.specs.declared.done.Done.{Done}
use Rattle.smc_core.specs.declared.done.Done.TheVariants as done
use Rattle.smc_core.specs.Machine.{Machine}
use Rattle.smc_aside.specs.Makes.{Makes}

-- the epoch that the answer of an advance names, to which this pass or another one has moved on
abbrev pub names : Done → Option ℕ
names (done.Advanced epoch) = Some epoch
names (done.Overtaken epoch) = Some epoch
names _ = None

-- the pass makes advances, one after the other, and they end with these answers
abbrev pub Advances : Layout → ℕ → List Done → Machine → Machine → Type 0
Advances shape pass [] m last = m ≡ last
Advances shape pass (answer ∷ later) m last = (next : Machine) × Makes shape pass call.Advance answer m next × Advances shape pass later next last

-- the first epoch that one of the answers names, if one does
abbrev pub first_named : List Done → Option ℕ
first_named [] = None
first_named (answer ∷ later) = option_or (names answer) (first_named later)

-- the epoch that the last answer names, if it names one
abbrev pub last_named : List Done → Option ℕ
last_named [] = None
last_named (answer ∷ []) = names answer
last_named (answer ∷ next ∷ later) = last_named (next ∷ later)

-- the pass makes advances until one names an epoch at least two above the first that was named
pub record Waits (shape : Layout) (pass : ℕ) (m last : Machine) : Type 0 where
  pub answers : List Done
  pub advances : Advances shape pass answers m last
  pub first : ℕ
  pub latest : ℕ
  pub begins : first_named answers ≡ Some first
  pub ends : last_named answers ≡ Some latest
  pub two_on : first + 2 ≤ latest

-- it waits, enters a section and begins a round of the collection; the begin ends with this answer
pub record WaitsAndBegins (shape : Layout) (pass coll : ℕ) (answer : Done) (m last : Machine) : Type 0 where
  pub waited : Machine
  pub inside : Machine
  pub epoch : ℕ
  pub waits : Waits shape pass m waited
  pub enters : Makes shape pass call.Enter (done.At epoch) waited inside
  pub begins : Makes shape pass (call.Begin coll) answer inside last

-- a drive that finds nothing to do: no block would be freed, and the pass leaves
pub record FindsNothing (shape : Layout) (pass coll : ℕ) (m last : Machine) : Type 0 where
  pub begun : Machine
  pub begins : WaitsAndBegins shape pass coll (done.Nothing coll) m begun
  pub leaves : Makes shape pass call.Leave done.Out begun last

-- a drive that is done: the pass leaves with a round, advances as often as it likes, and finishes the round in a later section
pub record Moves (shape : Layout) (pass coll : ℕ) (m last : Machine) : Type 0 where
  pub begun : Machine
  pub left : Machine
  pub waited : Machine
  pub inside : Machine
  pub finished : Machine
  pub bound : ℕ
  pub frozen : ℕ
  pub answers : List Done
  pub epoch : ℕ
  pub moved : ℕ
  pub abandoned : ℕ
  pub gone : ℕ
  pub begins : WaitsAndBegins shape pass coll (done.Round coll bound frozen) m begun
  pub leaves : Makes shape pass call.Leave done.Out begun left
  pub advances : Advances shape pass answers left waited
  pub enters : Makes shape pass call.Enter (done.At epoch) waited inside
  pub finishes : Makes shape pass call.Finish (done.Finished moved abandoned gone) inside finished
  pub leaves_again : Makes shape pass call.Leave done.Out finished last

-- the pass makes a drive of the collection, undisturbed
abbrev pub Drives : Layout → ℕ → ℕ → Machine → Machine → Type 0
Drives shape pass coll m last = FindsNothing shape pass coll m last ⊎ Moves shape pass coll m last

-- it surveys the collection in a section of its own, undisturbed; the survey ends with this answer
pub record Surveys (shape : Layout) (pass coll : ℕ) (answer : Done) (m last : Machine) : Type 0 where
  pub inside : Machine
  pub epoch : ℕ
  pub enters : Makes shape pass call.Enter (done.At epoch) m inside
  pub surveys : Makes shape pass (call.Survey coll) answer inside last
