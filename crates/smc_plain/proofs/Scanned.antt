-- A section that scans a collection to its end, and that changes nothing.
use Rattle.std.proofs.Common.{◌≡◌, ⊎_elim, ℕ, List, [], ◌∷◌, ◌++◌, sym, subst, ap, ◌∙◌, append_assoc}
use Rattle.std.specs.Prelude.{None, IsPermutation}
use Rattle.std.specs.List.{AllByRecursion}
use Rattle.std.proofs.lemmas.List.Elements.{Contains-append_left, Contains-append_cases}
use Rattle.smc_model.specs.declared.event.Event.{Event}
use Rattle.smc_model.specs.declared.event.Event.TheVariants.{Begin, End, Enter, Leave}
use Rattle.smc_model.specs.World.{World, Replay, IsAllowed, empty_world, world_through}
use Rattle.smc_model.specs.Scans.{ScansOnce}
use Rattle.smc_model.proofs.HistoryLaws.{Replay-front, world_through-append}
use Rattle.smc_still.specs.Still.{AreEnded, IsCalm, numbers_in, numbers_visited}
use Rattle.smc_still.proofs.CalmLaws.{calm-allowed, calm-through, present-visited}
use Rattle.smc_still.proofs.Members.{from-place}
use Rattle.smc_trace.specs.Named.{begins, comes_to}
use Rattle.smc_trace.specs.Trace.{CallEnd, events_in}
use Rattle.smc_trace.proofs.TraceSteps.{events_in-append}
use Rattle.smc_objects.specs.Alone.{InSection}
use Rattle.smc_plain.proofs.Sections.{section-events}

no-begin : (k c : ℕ) → Enter ≡ Begin k c → ⊥
no-begin k c is = cc

-- a section begins no scan
entered : (before : List Event) → AreEnded before → AreEnded (before ++ Enter ∷ [])
entered before ended scan other begun = Contains-append_left before (Enter ∷ []) (End scan) (ended scan other
    (⊎_elim (λ early. early) (λ late. absurd (⊎_elim (λ is. no-begin scan other is) (λ none. none) (from-place (Enter ∷ []) (Begin scan other) late))) (Contains-append_cases before (Enter ∷ []) (Begin scan other) begun)))

module _ {P : List CallEnd → Type 0} (coll scan : ℕ) (calls between : List CallEnd) (s : InSection P calls)
    (made : s.inner ≡ begins scan coll ++ (between ++ comes_to scan None)) (calm : AllByRecursion (IsCalm scan) (events_in between)) where
  abbrev seen : List Event
  seen = events_in between

  scan-inner : events_in s.inner ≡ Begin scan coll ∷ (seen ++ End scan ∷ [])
  scan-inner = ap events_in made ∙ ap (λ (es : List Event). Begin scan coll ∷ es) (events_in-append between (comes_to scan None))

  scan-events : events_in calls ≡ Enter ∷ (Begin scan coll ∷ (seen ++ End scan ∷ Leave ∷ []))
  scan-events = section-events calls s
      ∙ ap (λ (es : List Event). Enter ∷ (es ++ Leave ∷ [])) scan-inner
      ∙ ap (λ (es : List Event). Enter ∷ (Begin scan coll ∷ es)) (append_assoc seen (End scan ∷ []) (Leave ∷ []))

  -- the world stays
  pub scan-world : (world : World) → world_through world (events_in calls) ≡ world
  scan-world world = ap (world_through world) scan-events ∙ world_through-append world seen (End scan ∷ Leave ∷ []) ∙ calm-through scan seen world calm

  -- what is read is so in it
  pub scan-allowed : (world last : World) → Replay world (events_in calls) last → AllByRecursion (IsAllowed world) seen
  scan-allowed world last replay = calm-allowed scan seen world (world_through world seen) calm
      (Replay-front world last seen (End scan ∷ Leave ∷ []) (subst (λ (es : List Event). Replay world es last) scan-events replay).1.1)

  -- behind a log whose scans have ended what is present is visited
  pub scan-visits : (before : List Event) → AreEnded before → ScansOnce empty_world (before ++ events_in calls)
      → IsPermutation (numbers_visited seen) (numbers_in (world_through empty_world before) coll)
  scan-visits before ended once =
      let flat : before ++ events_in calls ≡ (before ++ Enter ∷ []) ++ Begin scan coll ∷ (seen ++ End scan ∷ Leave ∷ []) =
      ap (λ (es : List Event). before ++ es) scan-events ∙ sym (append_assoc before (Enter ∷ []) (Begin scan coll ∷ (seen ++ End scan ∷ Leave ∷ []))) in
      subst (λ (w : World). IsPermutation (numbers_visited seen) (numbers_in w coll)) (world_through-append empty_world before (Enter ∷ []))
      (present-visited (before ++ Enter ∷ []) seen (Leave ∷ []) scan coll (entered before ended) calm (subst (ScansOnce empty_world) flat once))
