-- What is proved of commands on a plain map.
use Rattle.std.specs.Prelude.{◌≡◌, ⊤, ℕ, List, ◌++◌}
use Rattle.smc_model.specs.declared.event.Event.{Event}
use Rattle.smc_model.specs.World.{World, Replay, empty_world, world_through}
use Rattle.smc_model.specs.Scans.{ScansOnce}
use Rattle.smc_still.specs.Still.{AreEnded}
use Rattle.smc_trace.specs.Trace.{CallEnd, events_in}
use Rattle.smc_script.specs.Trees.{CommandTree, drop_fold, query, remove, set, stat}
use Rattle.smc_replies.specs.Books.{Books, KnowsSame}
use Rattle.smc_replies.specs.Commands.{RunsCommand}
use Rattle.smc_replies.specs.Loads.{Scene}
use Rattle.smc_plain.specs.Plain.{Plain, plain_command, replies}
use Rattle.smc_plain.specs.Tables.{Reader}

-- the command comes to this reply, in the world that these calls leave, and the same names and folds are known behind it
pub record ComesTo (reader : Reader) (scene : Scene) (command : CommandTree) (plain : Plain) (new : Books) (calls : List CallEnd) (text : List ℕ) : Type 0 where
  pub left : Books
  pub known : KnowsSame left new
  pub turn : plain_command reader scene command plain
      ≡ replies (record { world = world_through plain.world (events_in calls); books = left; given = plain.given }) text

-- a command that counts, queries, sets or removes, or drops a fold
abbrev pub IsShown : CommandTree → Type 0
IsShown (stat place) = ⊤
IsShown (query place tree) = ⊤
IsShown (set place name column value) = ⊤
IsShown (remove place name) = ⊤
IsShown (drop_fold name) = ⊤
IsShown command = ⊥

-- what such a command does and replies, behind a log whose scans have ended, is what it comes to on the plain map that the log leaves
abbrev pub ShownArePlain : Type 0
ShownArePlain = (reader : Reader) (scene : Scene) (command : CommandTree) (plain : Plain) (old new : Books) (calls : List CallEnd) (text : List ℕ)
    (last : World) → IsShown command → (before : List Event) → plain.world ≡ world_through empty_world before → AreEnded before → KnowsSame plain.books old
    → RunsCommand scene command old new calls text → Replay plain.world (events_in calls) last → ScansOnce empty_world (before ++ events_in calls)
    → ComesTo reader scene command plain new calls text
