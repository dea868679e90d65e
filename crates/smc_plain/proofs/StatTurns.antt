-- How many objects a scan counts.
use Rattle.std.proofs.Common.{◌≡◌, ℕ, suc, List, [], ◌∷◌, ◌++◌, length, refl, sym, ap, ◌∙◌}
use Rattle.std.specs.List.{AllByRecursion}
use Rattle.std.proofs.lemmas.List.Sorted.{length_permutation}
use Rattle.smc_model.specs.declared.event.Event.{Event}
use Rattle.smc_model.specs.World.{World, count_of, empty_world, world_through}
use Rattle.smc_model.specs.Scans.{ScansOnce}
use Rattle.smc_still.specs.Still.{AreEnded, IsCalm, numbers_visited}
use Rattle.smc_still.proofs.PresentLaws.{counts-numbers}
use Rattle.smc_core.specs.declared.local.Held.{Held}
use Rattle.smc_trace.specs.Trace.{CallEnd, events_in}
use Rattle.smc_objects.specs.Alone.{CountsObjects, InSection, visits_all}
use Rattle.smc_plain.proofs.Scanned.{scan-visits, scan-world}

visits-calm : (scan : ℕ) (visits : List Held) → AllByRecursion (IsCalm scan) (events_in (visits_all scan visits))
visits-calm scan [] = tt
visits-calm scan (held ∷ later) = (refl, visits-calm scan later)

visits-many : (scan : ℕ) (visits : List Held) → length (numbers_visited (events_in (visits_all scan visits))) ≡ length visits
visits-many scan [] = refl
visits-many scan (held ∷ later) = ap suc (visits-many scan later)

module _ (coll count : ℕ) (calls : List CallEnd) (s : InSection (CountsObjects coll count) calls) where
  abbrev counts : CountsObjects coll count s.inner
  counts = s.holds

  abbrev visits : List CallEnd
  visits = visits_all counts.scan counts.visits

  pub stat-world : (world : World) → world_through world (events_in calls) ≡ world
  stat-world = scan-world coll counts.scan calls visits s counts.made (visits-calm counts.scan counts.visits)

  -- behind a log whose scans have ended it counts what is present
  pub stat-count : (before : List Event) → AreEnded before → ScansOnce empty_world (before ++ events_in calls) → count ≡ count_of (world_through empty_world before) coll
  stat-count before ended once =
      sym counts.counted ∙ sym (visits-many counts.scan counts.visits)
      ∙ sym (length_permutation _ _ (scan-visits coll counts.scan calls visits s counts.made (visits-calm counts.scan counts.visits) before ended once))
      ∙ counts-numbers (world_through empty_world before) coll
