-- Scripts as trees alone, without where in memory their parts stand.
use Rattle.std.specs.Prelude.{ℕ, List, map, Option}
use Rattle.smc_query.specs.Trees.{Word, ExprTree, CondTree, QueryTree, expr_tree, cond_tree, filter_tree, query_tree}
use Rattle.smc_types.specs.declared.row.Value.{Value}
use Rattle.smc_script.specs.declared.command.Command.{Command}
use Rattle.smc_script.specs.declared.command.Command.TheVariants as of
use Rattle.smc_script.specs.declared.script.Place.{Place}
use Rattle.smc_script.specs.declared.script.Room.{Room}
use Rattle.smc_script.specs.declared.script.Numbered.{Numbered}
use Rattle.smc_script.specs.declared.script.WorkerPart.{WorkerPart}
use Rattle.smc_script.specs.declared.script.Part.{Part}
use Rattle.smc_script.specs.declared.script.Part.TheVariants.{One, Group}
use Rattle.smc_script.specs.declared.script.Script.{Script}

-- a command
pub data CommandTree : Type 0 where
  load : Place → (file : Word) → CommandTree
  add : Place → (name : Word) → (row : List Value) → CommandTree
  get remove : Place → (name : Word) → CommandTree
  set : Place → (name column : Word) → (value : Value) → CommandTree
  delete : Place → CondTree → CommandTree
  update : Place → (column : Word) → ExprTree → Option CondTree → CommandTree
  query : Place → QueryTree → CommandTree
  compact stat : Place → CommandTree
  drop_fold : (name : Word) → CommandTree

-- a command and the number of its line
pub record NumberedTree : Type 0 where
  pub line : ℕ
  pub command : CommandTree

-- a part of a script: a command, or a group with the commands of each worker
pub data PartTree : Type 0 where
  one : NumberedTree → PartTree
  group : List (List NumberedTree) → PartTree

-- a script
pub record ScriptTree : Type 0 where
  pub rooms : List Room
  pub folds : List Word
  pub parts : List PartTree

-- the tree of a command
abbrev pub command_tree : Command → CommandTree
command_tree (of.Load place file) = load place file
command_tree (of.Add place name row) = add place name row
command_tree (of.Get place name) = get place name
command_tree (of.Set place name column value) = set place name column value
command_tree (of.Remove place name) = remove place name
command_tree (of.Delete place filter) = delete place (cond_tree filter)
command_tree (of.Update place column value filter) = update place column (expr_tree value) (filter_tree filter)
command_tree (of.Query place query') = query place (query_tree query')
command_tree (of.Compact place) = compact place
command_tree (of.Stat place) = stat place
command_tree (of.DropFold name) = drop_fold name

-- the tree of a command with its line
abbrev pub numbered_tree : Numbered → NumberedTree
numbered_tree numbered = record { line = numbered.line; command = command_tree numbered.command }

-- the commands of a worker
abbrev pub worker_tree : WorkerPart → List NumberedTree
worker_tree worker = map numbered_tree worker.commands

-- the tree of a part
abbrev pub part_tree : Part → PartTree
part_tree (One numbered) = one (numbered_tree numbered)
part_tree (Group workers) = group (map worker_tree workers)

-- the tree of a script
abbrev pub script_tree : Script → ScriptTree
script_tree script = record { rooms = script.rooms; folds = script.folds; parts = map part_tree script.parts }
