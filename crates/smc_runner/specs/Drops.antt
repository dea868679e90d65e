-- Parts that drop folds and do no more, as a script without rooms has them.
use Rattle.std.specs.Prelude.{⊤, ℕ, List, [], Option}
use Rattle.std.specs.Io.KnownBytes.{Appends, Keeps}
use Rattle.smc_outside.specs.Pieces.{AppendsFront}
use Rattle.smc_folds.specs.Kinds.{Kind}
use Rattle.smc_script.specs.Trees.{CommandTree, PartTree, drop_fold, one, group}
use Rattle.smc_replies.specs.Books.{books_of}
use Rattle.smc_replies.specs.Loads.{Scene}
use Rattle.smc_runner.specs.declared.ending.RunEnd.{RunEnd}
use Rattle.smc_runner.specs.declared.ending.RunEnd.TheVariants.{Done, WriteFault, NoMemory}
use Rattle.smc_runner.specs.Runs.{Replied, RepliesAll, RepliesFront, Writes}

-- the command drops a fold
abbrev pub DropsFold : CommandTree → Type 0
DropsFold (drop_fold name) = ⊤
DropsFold command = ⊥

-- the part is such a command
abbrev pub Drops : PartTree → Type 0
Drops (one numbered) = DropsFold numbered.command
Drops (group workers) = ⊥

-- what is written of a reply, as its command ends: nothing without memory
abbrev pub WritesDrop : RunEnd → Option (List ℕ) → Option (List ℕ) → List ℕ → Type 0
WritesDrop NoMemory before after text = Keeps before after
WritesDrop end before after text = Writes end before after text

-- how such a part ends, before which these folds are there and behind which those are left
abbrev pub DropEnds : Scene → RunEnd → PartTree → (kinds left : List Kind) → Option (List ℕ) → Option (List ℕ) → Type 0
DropEnds scene Done part kinds left before after = Replied scene Appends part (books_of kinds) (books_of left) [] before after
DropEnds scene WriteFault part kinds left before after = Replied scene AppendsFront part (books_of kinds) (books_of left) [] before after
DropEnds scene NoMemory part kinds left before after = Keeps before after
DropEnds scene end part kinds left before after = ⊥

-- how such parts end, before which these folds are there
abbrev pub DropsEnd : Scene → RunEnd → List PartTree → List Kind → Option (List ℕ) → Option (List ℕ) → Type 0
DropsEnd scene Done parts kinds before after = RepliesAll scene parts (books_of kinds) [] before after
DropsEnd scene WriteFault parts kinds before after = RepliesFront scene parts (books_of kinds) [] before after
DropsEnd scene NoMemory parts kinds before after = RepliesFront scene parts (books_of kinds) [] before after
DropsEnd scene end parts kinds before after = ⊥
