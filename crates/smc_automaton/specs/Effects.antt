-- What a step makes of the lists of a pass, as one change of a part.
use Rattle.std.specs.Prelude.{ℕ, Option, Some, None, List, [], ◌∷◌, ◌++◌, slice_set}
use Rattle.smc_core.specs.declared.call.Choice.{Choice}
use Rattle.smc_core.specs.declared.call.Choice.TheVariants.{Go}
use Rattle.smc_core.specs.declared.local.Scan.{Scan}
use Rattle.smc_core.specs.declared.phase.Phase.{Phase}
use Rattle.smc_core.specs.declared.phase.Phase.TheVariants as phase
use Rattle.smc_core.specs.declared.phase.objects.AddPhase.TheVariants as add
use Rattle.smc_core.specs.Scan.{passed, ended}
use Rattle.smc_automaton.specs.declared.effect.Cursor.{Cursor}
use Rattle.smc_automaton.specs.declared.effect.ScanEffect.{ScanEffect}
use Rattle.smc_automaton.specs.declared.effect.ScanEffect.TheVariants as effect

-- the scans of a section after such a change
abbrev pub scans_by : ScanEffect → List Scan → List Scan
scans_by effect.Stay scans = scans
scans_by (effect.Begin scan) scans = scans ++ scan ∷ []
scans_by (effect.Pass number place) scans = passed scans number place
scans_by (effect.End number) scans = ended scans number
scans_by effect.Clear scans = []

-- the cursors of a pass after one has moved
abbrev pub cursors_by : Option Cursor → List ℕ → List ℕ
cursors_by None cursors = cursors
cursors_by (Some cursor) cursors = slice_set cursors cursor.coll cursor.slot

-- the step is the last one of an add that makes its object
abbrev pub EndsAdd : Phase → Choice → Type 0
EndsAdd (phase.Add (add.StoreLive slot number)) Go = Unit {0}
EndsAdd _ _ = ⊥
