-- What is proved of commands.
use Rattle.std.specs.Prelude.{◌≡◌, ⊤, ℕ, List, ◌∷◌, [], ◌++◌, IfNone}
use Rattle.std.specs.List.{AllByRecursion}
use Rattle.smc_trace.specs.Trace.{CallEnd}
use Rattle.smc_script.specs.Sound.{EachCommand}
use Rattle.smc_script.specs.Trees.{CommandTree, NumberedTree, PartTree, load}
use Rattle.smc_replies.specs.Books.{Books, KnowsSame}
use Rattle.smc_replies.specs.Loads.{Scene}
use Rattle.smc_replies.specs.Commands.{RunsCommand}
use Rattle.smc_replies.specs.Groups.{Progress, RunsGroup}
use Rattle.smc_replies.specs.Scripts.{RunsPart, RunsParts}
use Rattle.smc_replies.specs.Workers.{Worked, WorksAs}

-- two commands at the front of one list of calls have made the same calls there, reply the same, and leave the same names and folds
pub record IsOnePart (new after : Books) (first other rest behind : List CallEnd) (text said : List ℕ) : Type 0 where
  pub calls : first ≡ other
  pub later : rest ≡ behind
  pub reply : text ≡ said
  pub known : KnowsSame new after

-- where the command is a load, the files are told: by the calls alone its end can't be told from the beginning of an add
abbrev pub TellsLoad : Scene → CommandTree → Type 0
TellsLoad scene (load place file) = IfNone scene.files ⊥
TellsLoad scene command = ⊤

-- the calls of a command are read off from the front; its reply, and the names and folds behind it, follow from them and from those before it
abbrev pub CommandIsOne : Type 0
CommandIsOne = (scene : Scene) (c : CommandTree) (old new before after : Books) (first other rest behind : List CallEnd) (text said : List ℕ) → TellsLoad scene c → KnowsSame old before
    → RunsCommand scene c old new first text → RunsCommand scene c before after other said → first ++ rest ≡ other ++ behind → IsOnePart new after first other rest behind text said

-- the same calls of the same parts have one text, where the same names and folds were known before
abbrev pub TextIsOne : Type 0
TextIsOne = (scene : Scene) (parts : List PartTree) (old new before after : Books) (calls : List CallEnd) (text said : List ℕ) → AllByRecursion (EachCommand (TellsLoad scene)) parts
    → KnowsSame old before → RunsParts scene parts old new calls text → RunsParts scene parts before after calls said → text ≡ said

-- one part more is run behind the others
abbrev pub OnePartMore : Type 0
OnePartMore = (scene : Scene) (parts : List PartTree) (part : PartTree) (old middle new : Books) (before calls : List CallEnd) (text said : List ℕ) → RunsParts scene parts old middle before text
    → RunsPart scene part middle new calls said → RunsParts scene (parts ++ part ∷ []) old new (before ++ calls) (text ++ said)

-- the calls of a worker are read off from the front of what its pass has done in its group; what it added, and its replies, follow
-- from them and from the names that were known at `group`
abbrev pub WorkerIsOne : Type 0
WorkerIsOne = (scene : Scene) (known others : Books) (told also : ℕ) (commands : List NumberedTree) (one two : Worked) (rest behind : List CallEnd) → KnowsSame known others
    → one.before ≡ two.before → WorksAs scene known told commands one → WorksAs scene others also commands two → one.calls ++ rest ≡ two.calls ++ behind → (one ≡ two) × (rest ≡ behind)

-- the same is known, but for keys, and the passes have done the same
pub record SameSoFar (one other : Progress) : Type 0 where
  pub known : KnowsSame one.books other.books
  pub main : one.main ≡ other.main
  pub workers : one.workers ≡ other.workers

-- the same calls of the same workers and of the main pass have one text, where the same was known and done before
abbrev pub GroupIsOne : Type 0
GroupIsOne = (scene : Scene) (workers : List (List NumberedTree)) (old new before after : Progress) (text said : List ℕ) → SameSoFar old before
    → RunsGroup scene workers old new text → RunsGroup scene workers before after said → new.main ≡ after.main → new.workers ≡ after.workers → text ≡ said
