-- How a run ends, from what was read.
use Rattle.std.proofs.Common.{◌≡◌, ℕ, false, true, List, [], ◌∷◌, inl, inr, Option, Some, None, IfSome, Ok, Err, refl, sym, subst}
use Rattle.std.specs.Prelude.{IsSome}
use Rattle.std.proofs.KnownBytes.{Keeps-refl}
use Rattle.smc_outside.specs.Told.{OnTold}
use Rattle.smc_region.specs.Ends.{Ended}
use Rattle.smc_trace.specs.Trace.{CallEnd}
use Rattle.smc_history.specs.Happened.{WhatHappenedIsLawful}
use Rattle.smc_replies.specs.Loads.{Scene}
use Rattle.smc_folds.specs.Kinds.{Kind}
use Rattle.smc_query.specs.Trees.{Word}
use Rattle.smc_types.specs.Tables.{the_tables}
use Rattle.smc_types.specs.declared.catalog.Catalog.{Catalog}
use Rattle.smc_script.specs.Scripts.{Answers, TextGives}
use Rattle.smc_script.specs.Trees.{PartTree, ScriptTree}
use Rattle.smc_script.specs.declared.fault.ScriptFault.{ScriptFault}
use Rattle.smc_script.specs.declared.fault.ScriptFault.TheVariants.{Bad}
use Rattle.smc_script.specs.declared.fault.ScriptFault.TheVariants as fault
use Rattle.smc_script.specs.declared.fault.ScriptKind.{ScriptKind}
use Rattle.smc_script.specs.declared.script.Room.{Room}
use Rattle.smc_load.specs.Files.{Told}
use Rattle.smc_replies.specs.Books.{fold_names}
use Rattle.smc_runner.specs.declared.ending.RunEnd.{RunEnd}
use Rattle.smc_runner.specs.declared.ending.RunEnd.TheVariants as end
use Rattle.smc_runner.specs.Runs.{Closes, RunsAs}
use Rattle.smc_run.specs.declared.status.Status.{Status}
use Rattle.smc_run.specs.declared.status.Status.TheVariants.{Done, BadScript, BadTable, NoFile, ReadFault, WriteFault, TableFull, NoMemory}
use Rattle.smc_run.specs.Ending.{refused_at}
use Rattle.smc_run.specs.Inputs.{IsLawful, IsNoScriptAt, RunEnds, RunsKnown, Spells}

no-test : false ≡ true → ⊥
no-test is = cc

-- a region that was closed has come through lawful steps
lawful-closes : WhatHappenedIsLawful → (rooms : List Room) (quiet : Option Ended) (calls : List CallEnd) → Closes rooms quiet calls → IfSome quiet IsLawful
lawful-closes law rooms None calls closes = tt
lawful-closes law [] (Some quiet) calls closes = absurd closes
lawful-closes law (room ∷ later) (Some quiet) calls closes = law quiet.shape quiet.opening quiet.words quiet.locals closes.reached

-- so has that of a script, however its running ends
pub lawful-run : WhatHappenedIsLawful → (status : RunEnd) (scene : Scene) (kinds : List Kind) (rooms : List Room) (parts : List PartTree) (quiet : Option Ended) (before after : Option (List ℕ))
    → RunsAs (Closes rooms) scene kinds status parts quiet before after → IfSome quiet IsLawful
lawful-run law end.Done scene kinds rooms parts quiet before after runs = lawful-closes law rooms quiet runs.0 runs.2
lawful-run law end.WriteFault scene kinds rooms parts quiet before after runs = lawful-closes law rooms quiet runs.0 runs.2
lawful-run law end.NoMemory scene kinds rooms parts quiet before after runs = subst (λ (q : Option Ended). IfSome q IsLawful) (sym runs.2) tt
lawful-run law (end.NoFile name) scene kinds rooms parts quiet before after runs = lawful-closes law rooms quiet runs.0 runs.2
lawful-run law (end.BadTable name line) scene kinds rooms parts quiet before after runs = lawful-closes law rooms quiet runs.0 runs.2
lawful-run law (end.TableFull name line) scene kinds rooms parts quiet before after runs = lawful-closes law rooms quiet runs.0 runs.2
lawful-run law end.ReadFault scene kinds rooms parts quiet before after runs = lawful-closes law rooms quiet runs.0 runs.2

-- how a script ends that was read
pub ends-known : (status : Status) (script : ScriptTree) (text : Option (List ℕ)) (files : Told) (kinds : List Kind) (quiet : Option Ended) (before after : Option (List ℕ)) → IfSome text (Spells kinds script)
    → (status ≡ ReadFault → IsSome quiet) → RunsKnown status files kinds script quiet before after → RunEnds status text files kinds quiet before after
ends-known Done script text files kinds quiet before after spells opened runs = (script, spells, runs)
ends-known WriteFault script text files kinds quiet before after spells opened runs = (script, spells, runs)
ends-known NoMemory script text files kinds quiet before after spells opened runs = inr (script, spells, runs)
ends-known (NoFile name) script text files kinds quiet before after spells opened runs = (script, spells, runs)
ends-known (BadTable (Some name) line) script text files kinds quiet before after spells opened runs = (script, spells, runs)
ends-known (TableFull name line) script text files kinds quiet before after spells opened runs = (script, spells, runs)
ends-known ReadFault script text files kinds None before after spells opened runs = absurd (no-test (opened refl))
ends-known ReadFault script text files kinds (Some quiet) before after spells opened runs = (script, spells, runs)
ends-known (BadScript line) script None files kinds quiet before after spells opened runs = (tt, runs.1)
ends-known (BadScript line) script (Some text) files kinds quiet before after spells opened runs = (inr (script, spells, runs.0), runs.1)
ends-known _ script text files kinds quiet before after spells opened runs = absurd runs

-- what was told of a text that was read to its end
told-script : (kinds : List Kind) (script : ScriptTree) (text left : Option (List ℕ)) → OnTold text left (λ bytes _. TextGives the_tables (fold_names kinds) bytes (Ok script)) → IfSome text (Spells kinds script)
told-script kinds script None left told = tt
told-script kinds script (Some bytes) None told = absurd told
told-script kinds script (Some bytes) (Some rest) told = told

told-refused : (kinds : List Kind) (line : ℕ) (kind : ScriptKind) (text left : Option (List ℕ)) → OnTold text left (λ bytes _. TextGives the_tables (fold_names kinds) bytes (Err (Bad line kind)))
    → IfSome text (IsNoScriptAt kinds line)
told-refused kinds line kind None left told = tt
told-refused kinds line kind (Some bytes) None told = absurd told
told-refused kinds line kind (Some bytes) (Some rest) told = inl (kind, told)

-- so too where the catalog is known to be that of the tables, and the folds are named
pub told-spells : (kinds : List Kind) (catalog : Catalog) (folds : List Word) (script : ScriptTree) (text left : Option (List ℕ)) → catalog ≡ the_tables → folds ≡ fold_names kinds
    → OnTold text left (λ bytes _. TextGives catalog folds bytes (Ok script)) → IfSome text (Spells kinds script)
told-spells kinds catalog folds script text left are named told =
    told-script kinds script text left
    (subst (λ (tables : Catalog). OnTold text left (λ bytes _. TextGives tables (fold_names kinds) bytes (Ok script))) are
    (subst (λ (names : List Word). OnTold text left (λ bytes _. TextGives catalog names bytes (Ok script))) named told))

-- how it ends where no script was read
refused-ends : (why : ScriptFault) (files : Told) (kinds : List Kind) (text left out : Option (List ℕ)) → Answers (Err why) (λ outcome. OnTold text left (λ bytes _. TextGives the_tables (fold_names kinds) bytes outcome))
    → RunEnds (refused_at why) text files kinds None out out
refused-ends fault.ReadFault files kinds text left out gives = Keeps-refl out
refused-ends (Bad line kind) files kinds text left out gives = (told-refused kinds line kind text left gives, (refl, Keeps-refl out))
refused-ends fault.NoMemory files kinds text left out gives = inl (refl, Keeps-refl out)

pub ends-refused : (catalog : Catalog) (folds : List Word) (why : ScriptFault) (files : Told) (kinds : List Kind) (text left out : Option (List ℕ)) → catalog ≡ the_tables → folds ≡ fold_names kinds
    → Answers (Err why) (λ outcome. OnTold text left (λ bytes _. TextGives catalog folds bytes outcome)) → RunEnds (refused_at why) text files kinds None out out
ends-refused catalog folds why files kinds text left out are named gives =
    refused-ends why files kinds text left out
    (subst (λ (tables : Catalog). Answers (Err why) (λ outcome. OnTold text left (λ bytes _. TextGives tables (fold_names kinds) bytes outcome))) are
    (subst (λ (names : List Word). Answers (Err why) (λ outcome. OnTold text left (λ bytes _. TextGives catalog names bytes outcome))) named gives))
