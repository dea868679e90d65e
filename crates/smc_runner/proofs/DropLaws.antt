-- Scripts without rooms: their parts drop folds, and no call is made.
use Rattle.std.proofs.Common.{◌≡◌, ℕ, suc, List, [], ◌∷◌, ◌++◌, length, map, Option, None, refl, sym, subst, arith, append-nil}
use Rattle.std.specs.List.{AllByRecursion}
use Rattle.std.specs.Io.KnownBytes.{Appends, Keeps}
use Rattle.std.proofs.KnownBytes.{Appends-kept, Appends-nil, Appends-trans}
use Rattle.smc_outside.specs.Pieces.{AppendsFront}
use Rattle.smc_folds.specs.Kinds.{Kind, without_first}
use Rattle.smc_query.specs.Trees.{Word}
use Rattle.smc_region.specs.Ends.{Ended}
use Rattle.smc_script.specs.declared.script.Part.{Part}
use Rattle.smc_script.specs.declared.script.Room.{Room}
use Rattle.smc_script.specs.Trees.{CommandTree, PartTree, add, compact, delete, drop_fold, get, load, one, group, part_tree, query, remove, set, stat, update}
use Rattle.smc_replies.specs.Books.{books_of}
use Rattle.smc_replies.specs.Folds.{dropped_line}
use Rattle.smc_replies.specs.Loads.{Scene}
use Rattle.smc_replies.specs.Scripts.{CanRunPart}
use Rattle.smc_runner.specs.declared.ending.RunEnd.{RunEnd}
use Rattle.smc_runner.specs.declared.ending.RunEnd.TheVariants.{Done, WriteFault, NoFile, BadTable, TableFull, ReadFault, NoMemory}
use Rattle.smc_runner.specs.Drops.{Drops, DropsFold, DropEnds, DropsEnd, WritesDrop}
use Rattle.smc_runner.specs.Runs.{Closes, RunsAs, Writes, shape_asked}
use Rattle.smc_runner.proofs.RunLaws.{front-all, front-behind}

-- every other command needs a room
drop-alone : (folds : List Word) (line : ℕ) (c : CommandTree) → CanRunPart (shape_asked []) folds (one (record { line = line; command = c })) → DropsFold c
drop-alone folds line (load place file) may = let none = may.coll in absurd (omega (arith, none))
drop-alone folds line (stat place) may = absurd (omega (arith, may))
drop-alone folds line (query place tree) may = absurd (omega (arith, may.1))
drop-alone folds line (compact place) may = absurd (omega (arith, may))
drop-alone folds line (add place name row) may = let none = may.0.coll in absurd (omega (arith, none))
drop-alone folds line (get place name) may = let none = may.coll in absurd (omega (arith, none))
drop-alone folds line (set place name column value) may = let none = may.0.coll in absurd (omega (arith, none))
drop-alone folds line (remove place name) may = absurd (omega (arith, may))
drop-alone folds line (delete place filter) may = absurd (omega (arith, may.1))
drop-alone folds line (update place column value filter) may = let none = may.1.coll in absurd (omega (arith, none))
drop-alone folds line (drop_fold name) may = tt

drops-part : (folds : List Word) (part : PartTree) → CanRunPart (shape_asked []) folds part → Drops part
drops-part folds (one numbered) may = drop-alone folds numbered.line numbered.command may
drops-part folds (group workers) may = may

pub all-drop : (folds : List Word) (parts : List PartTree) → AllByRecursion (CanRunPart (shape_asked []) folds) parts → AllByRecursion Drops parts
all-drop folds [] all = tt
all-drop folds (part ∷ later) all = (drops-part folds part all.0, all-drop folds later all.1)

-- ---- one part

pub writes-drop : (end : RunEnd) (a b : Option (List ℕ)) (text : List ℕ) → Writes end a b text → WritesDrop end a b text
writes-drop Done a b text writes = writes
writes-drop WriteFault a b text writes = writes
writes-drop NoMemory a b text writes = absurd writes
writes-drop (NoFile name) a b text writes = absurd writes
writes-drop (BadTable name line) a b text writes = absurd writes
writes-drop (TableFull name line) a b text writes = absurd writes
writes-drop ReadFault a b text writes = absurd writes

pub drop-ends : (scene : Scene) (end : RunEnd) (line : ℕ) (name : Word) (kinds left : List Kind) (a b : Option (List ℕ)) → left ≡ without_first kinds name
    → WritesDrop end a b (dropped_line name) → DropEnds scene end (one (record { line = line; command = drop_fold name })) kinds left a b
drop-ends scene Done line name kinds left a b is writes = (dropped_line name, record { folds = is; names = refl; keys = refl; none = refl; reply = refl }, writes)
drop-ends scene WriteFault line name kinds left a b is writes = (dropped_line name, record { folds = is; names = refl; keys = refl; none = refl; reply = refl }, writes)
drop-ends scene NoMemory line name kinds left a b is writes = writes
drop-ends scene (NoFile file) line name kinds left a b is writes = absurd writes
drop-ends scene (BadTable file row) line name kinds left a b is writes = absurd writes
drop-ends scene (TableFull file row) line name kinds left a b is writes = absurd writes
drop-ends scene ReadFault line name kinds left a b is writes = absurd writes

-- ---- all parts

pub drops-none : (scene : Scene) (parts : List Part) (kinds : List Kind) (a : Option (List ℕ)) → length parts ≡ 0 → DropsEnd scene Done (map part_tree parts) kinds a a
drops-none scene [] kinds a none = (books_of kinds, ([], (refl, refl, refl), Appends-nil a))
drops-none scene (part ∷ later) kinds a none = absurd (omega (arith, none))

pub drops-more : (scene : Scene) (end : RunEnd) (part : PartTree) (behind : List PartTree) (kinds left : List Kind) (a b c : Option (List ℕ)) → DropEnds scene Done part kinds left a b
    → DropsEnd scene end behind left b c → DropsEnd scene end (part ∷ behind) kinds a c
drops-more scene Done part behind kinds left a b c (text, runs, grows) (now, (said, ran, more)) =
    (now, (text ++ said, (books_of left, [], [], text, said, runs, ran, refl, refl), Appends-trans a b c text said grows more))
drops-more scene WriteFault part behind kinds left a b c (text, runs, grows) (count, now, (said, ran, more)) =
    (suc count, now, (text ++ said, (books_of left, [], [], text, said, runs, ran, refl, refl), front-behind a b c text said grows more))
drops-more scene NoMemory part behind kinds left a b c (text, runs, grows) (count, now, (said, ran, more)) =
    (suc count, now, (text ++ said, (books_of left, [], [], text, said, runs, ran, refl, refl), front-behind a b c text said grows more))
drops-more scene (NoFile name) part behind kinds left a b c first ends = absurd ends
drops-more scene (BadTable name line) part behind kinds left a b c first ends = absurd ends
drops-more scene (TableFull name line) part behind kinds left a b c first ends = absurd ends
drops-more scene ReadFault part behind kinds left a b c first ends = absurd ends

pub drops-stop : (scene : Scene) (end : RunEnd) (part : PartTree) (behind : List PartTree) (kinds left : List Kind) (a b : Option (List ℕ)) → (end ≡ Done → ⊥)
    → DropEnds scene end part kinds left a b → DropsEnd scene end (part ∷ behind) kinds a b
drops-stop scene Done part behind kinds left a b not ends = absurd (not refl)
drops-stop scene WriteFault part behind kinds left a b not (text, runs, grows) =
    (1, books_of left, (text ++ [], (books_of left, [], [], text, [], runs, (refl, refl, refl), refl, refl), subst (AppendsFront a b) (sym (append-nil text)) grows))
drops-stop scene NoMemory part behind kinds left a b not kept =
    (0, books_of kinds, ([], (refl, refl, refl), front-all a b [] (Appends-kept a a b [] (Appends-nil a) kept)))
drops-stop scene (NoFile name) part behind kinds left a b not ends = absurd ends
drops-stop scene (BadTable name line) part behind kinds left a b not ends = absurd ends
drops-stop scene (TableFull name line) part behind kinds left a b not ends = absurd ends
drops-stop scene ReadFault part behind kinds left a b not ends = absurd ends

-- so a script without rooms ends
runs-drops : (scene : Scene) (end : RunEnd) (parts : List PartTree) (kinds : List Kind) (a b : Option (List ℕ)) → DropsEnd scene end parts kinds a b → RunsAs (Closes []) scene kinds end parts None a b
runs-drops scene Done parts kinds a b ends = ([], ends, refl)
runs-drops scene WriteFault parts kinds a b ends = ([], ends, refl)
runs-drops scene NoMemory parts kinds a b ends = ([], ends, refl)
runs-drops scene (NoFile name) parts kinds a b ends = absurd ends
runs-drops scene (BadTable name line) parts kinds a b ends = absurd ends
runs-drops scene (TableFull name line) parts kinds a b ends = absurd ends
runs-drops scene ReadFault parts kinds a b ends = absurd ends

pub roomless-ends : (rooms : List Room) (scene : Scene) (end : RunEnd) (parts : List PartTree) (kinds : List Kind) (a b : Option (List ℕ)) → length rooms ≡ 0 → DropsEnd scene end parts kinds a b
    → RunsAs (Closes rooms) scene kinds end parts None a b
roomless-ends [] scene end parts kinds a b none ends = runs-drops scene end parts kinds a b ends
roomless-ends (room ∷ later) scene end parts kinds a b none ends = absurd (omega (arith, none))

-- no file is read
pub drops-no-read : (scene : Scene) (end : RunEnd) (parts : List PartTree) (kinds : List Kind) (a b : Option (List ℕ)) → DropsEnd scene end parts kinds a b → end ≡ ReadFault → ⊥
drops-no-read scene end parts kinds a b ends is = subst (λ (e : RunEnd). DropsEnd scene e parts kinds a b) is ends

-- the rooms are none, so each part drops a fold
pub roomless-drop : (rooms : List Room) (folds : List Word) (parts : List PartTree) → length rooms ≡ 0 → AllByRecursion (CanRunPart (shape_asked rooms) folds) parts → AllByRecursion Drops parts
roomless-drop [] folds parts none all = all-drop folds parts all
roomless-drop (room ∷ later) folds parts none all = absurd (omega (arith, none))
