-- What a scan visits while the world stands still.
use Rattle.std.proofs.Common.{◌≡◌, ⊎_elim, ◌⊎◌, inl, inr, ℕ, List, [], ◌∷◌, ◌++◌, refl, sym, subst, ap, ◌∙◌, append_assoc, append-nil}
use Rattle.std.specs.Prelude.{Contains, IsPermutation}
use Rattle.std.specs.List.{AllByRecursion}
use Rattle.smc_words.specs.declared.number.Number.{Number}
use Rattle.smc_model.specs.declared.event.Event.{Event}
use Rattle.smc_model.specs.declared.event.Event.TheVariants.{Look, Read, Begin, Visit, End}
use Rattle.smc_model.specs.World.{World, Replay, IsAllowed, empty_world, world_after, world_through}
use Rattle.smc_model.specs.Scans.{EachAfter, KeepsScanRule, PresentIn, PresentThroughout, EndsRightly, VisitsRightly}
use Rattle.smc_model.proofs.HistoryLaws.{EachAfter-back, EachAfter-front, world_through-append}
use Rattle.smc_still.specs.Still.{AreEnded, IsCalm, VisitsArePresent, numbers_in, numbers_visited, visited_by}
use Rattle.smc_still.proofs.Members.{In, AreApart, in-left, in-right, in-cases, same-elements, from-place, to-place}
use Rattle.smc_still.proofs.PresentLaws.{numbers-apart, number-present, present-number}

-- ---- calm events

calm-world : (scan : ℕ) (event : Event) (world : World) → IsCalm scan event → world_after world event ≡ world
calm-world scan (Look number here) world calm = refl
calm-world scan (Read number field value) world calm = refl
calm-world scan (Visit other number) world calm = refl
calm-world scan _ world calm = absurd calm

pub calm-through : (scan : ℕ) (events : List Event) (world : World) → AllByRecursion (IsCalm scan) events → world_through world events ≡ world
calm-through scan [] world calm = refl
calm-through scan (event ∷ events) world calm = ap (λ (w : World). world_through w events) (calm-world scan event world calm.0) ∙ calm-through scan events world calm.1

-- what is present stays so
calm-throughout : (scan coll : ℕ) (number : Number) (events : List Event) (world : World) → AllByRecursion (IsCalm scan) events → PresentIn world coll number
    → PresentThroughout world coll number events
calm-throughout scan coll number [] world calm present = present
calm-throughout scan coll number (event ∷ events) world calm present =
    (present, calm-throughout scan coll number events (world_after world event) calm.1 (subst (λ (w : World). PresentIn w coll number) (sym (calm-world scan event world calm.0)) present))

-- what they ask of the worlds that they happen in they ask of the first
pub calm-allowed : (scan : ℕ) (events : List Event) (world last : World) → AllByRecursion (IsCalm scan) events → Replay world events last → AllByRecursion (IsAllowed world) events
calm-allowed scan [] world last calm replay = tt
calm-allowed scan (event ∷ events) world last calm replay =
    (replay.0, calm-allowed scan events world last calm.1 (subst (λ (w : World). Replay w events last) (calm-world scan event world calm.0) replay.1))

-- they begin no scan, and end none
calm-begins : (scan other coll : ℕ) (event : Event) → IsCalm scan event → event ≡ Begin other coll → ⊥
calm-begins scan other coll event calm is = subst (IsCalm scan) is calm

begins-none : (scan other coll : ℕ) (events : List Event) → AllByRecursion (IsCalm scan) events → In events (Begin other coll) → ⊥
begins-none scan other coll [] calm i = i
begins-none scan other coll (event ∷ events) calm i = ⊎_elim (λ is. calm-begins scan other coll event calm.0 is) (λ r. begins-none scan other coll events calm.1 r) i

all-more : (scan : ℕ) (done : List Event) (event : Event) → AllByRecursion (IsCalm scan) done → IsCalm scan event → AllByRecursion (IsCalm scan) (done ++ event ∷ [])
all-more scan [] event all calm = (calm, tt)
all-more scan (d ∷ done) event all calm = (all.0, all-more scan done event all.1 calm)

-- ---- what is visited

visited-more : (done : List Event) (event : Event) → numbers_visited (done ++ event ∷ []) ≡ numbers_visited done ++ visited_by event
visited-more [] event = append-nil (visited_by event)
visited-more (d ∷ done) event = ap (λ (ns : List Number). visited_by d ++ ns) (visited-more done event) ∙ sym (append_assoc (visited_by d) (numbers_visited done) (visited_by event))

-- a visit of the scan and its number
visit-in : (events : List Event) (scan : ℕ) (number : Number) → In events (Visit scan number) → In (numbers_visited events) number
visit-in [] scan number i = i
visit-in (event ∷ events) scan number (inl is) = in-left (visited_by event) (numbers_visited events) number (subst (λ (e : Event). In (visited_by e) number) (sym is) (inl refl))
visit-in (event ∷ events) scan number (inr i) = in-right (visited_by event) (numbers_visited events) number (visit-in events scan number i)

one-visit : (scan : ℕ) (event : Event) (number : Number) → IsCalm scan event → In (visited_by event) number → event ≡ Visit scan number
one-visit scan (Visit other n) number calm (inl is) = ap (λ (k : ℕ). Visit k n) calm ∙ ap (λ (m : Number). Visit scan m) is
one-visit scan (Visit other n) number calm (inr i) = absurd i
one-visit scan (Look n here) number calm i = absurd i
one-visit scan (Read n field value) number calm i = absurd i
one-visit scan _ number calm i = absurd calm

number-visit : (scan : ℕ) (events : List Event) (number : Number) → AllByRecursion (IsCalm scan) events → In (numbers_visited events) number → In events (Visit scan number)
number-visit scan [] number calm i = i
number-visit scan (event ∷ events) number calm i = ⊎_elim
    (λ l. inl (one-visit scan event number calm.0 l))
    (λ r. inr (number-visit scan events number calm.1 r))
    (in-cases (visited_by event) (numbers_visited events) number i)

module _ (before : List Event) (scan coll : ℕ) (ended : AreEnded before) where
  abbrev begun : List Event
  begun = before ++ Begin scan coll ∷ []

  abbrev now : World
  now = world_through empty_world before

  -- the world behind calm events
  still : (done : List Event) → AllByRecursion (IsCalm scan) done → world_through empty_world (begun ++ done) ≡ now
  still done calm =
      world_through-append empty_world begun done
      ∙ calm-through scan done (world_through empty_world begun) calm
      ∙ world_through-append empty_world before (Begin scan coll ∷ [])

  -- the scan that visits is the one that has begun
  same-begin : (done : List Event) (other : ℕ) → AllByRecursion (IsCalm scan) done → (Contains (begun ++ done) (End scan) → ⊥) → Contains (begun ++ done) (Begin scan other) → coll ≡ other
  same-begin done other calm goes_on has =
      let i = from-place (begun ++ done) (Begin scan other) has in
      ⊎_elim
      (λ early. ⊎_elim
      (λ first. absurd (goes_on (to-place (begun ++ done) (End scan) (in-left begun done (End scan) (in-left before (Begin scan coll ∷ []) (End scan) (from-place before (End scan) (ended scan other (to-place before (Begin scan other) first))))))))
      (λ own. ⊎_elim (λ is. begin-coll coll other is) (λ none. absurd none) own)
      (in-cases before (Begin scan coll ∷ []) (Begin scan other) early))
      (λ late. absurd (begins-none scan scan other done calm late))
      (in-cases begun done (Begin scan other) i)
    where
      begin-coll : (c d : ℕ) → Begin scan c ≡ Begin scan d → c ≡ d
      begin-coll c d is = cc

  -- each visit is of a number that is present, and was not visited
  visited : (done : List Event) (number : Number) → AllByRecursion (IsCalm scan) done → VisitsRightly empty_world (begun ++ done) scan number
      → PresentIn now coll number × (In (numbers_visited done) number → ⊥)
  visited done number calm rightly =
      let same = same-begin done rightly.coll calm rightly.goes_on rightly.begun in (
        subst (λ (w : World). PresentIn w coll number) (still done calm) (subst (λ (c : ℕ). PresentIn (world_through empty_world (begun ++ done)) c number) (sym same) rightly.present),
        λ (i : In (numbers_visited done) number). rightly.not_visited (to-place (begun ++ done) (Visit scan number) (in-right begun done (Visit scan number) (number-visit scan done number calm i))),
      )

  -- numbers that are apart, with one more that is not among them
  apart-more : (ns : List Number) (number : Number) → AreApart ns → (In ns number → ⊥) → AreApart (ns ++ number ∷ [])
  apart-more [] number apart new = (λ (i : ⊥). i, tt)
  apart-more (n ∷ ns) number apart new = (
    λ (i : In (ns ++ number ∷ []) n). ⊎_elim (λ l. apart.0 l) (λ r. ⊎_elim (λ is. new (inl (sym is))) (λ none. none) r) (in-cases ns (number ∷ []) n i),
    apart-more ns number apart.1 (λ (i : In ns number). new (inr i)),
  )

  -- all that was visited so far
  record IsRight (done : List Event) : Type 0 where
    apart : AreApart (numbers_visited done)
    present : (number : Number) → In (numbers_visited done) number → PresentIn now coll number

  right-one : (done : List Event) (event : Event) → AllByRecursion (IsCalm scan) done → IsCalm scan event → IsRight done → KeepsScanRule empty_world (begun ++ done) event
      → AreApart (numbers_visited done ++ visited_by event) × ((number : Number) → In (numbers_visited done ++ visited_by event) number → PresentIn now coll number)
  right-one done (Visit other number) calm is right rule =
      let v = visited done number calm (subst (λ (k : ℕ). VisitsRightly empty_world (begun ++ done) k number) is rule) in (
        apart-more (numbers_visited done) number right.apart v.1,
        λ (n : Number) (i : In (numbers_visited done ++ number ∷ []) n). ⊎_elim (λ l. right.present n l)
            (λ r. ⊎_elim (λ e. subst (λ (m : Number). PresentIn now coll m) e v.0) (λ none. absurd none) r) (in-cases (numbers_visited done) (number ∷ []) n i),
      )
  right-one done (Look number here) calm is right rule =
      subst (λ (ns : List Number). AreApart ns × ((number : Number) → In ns number → PresentIn now coll number)) (sym (append-nil (numbers_visited done))) (right.apart, right.present)
  right-one done (Read number field value) calm is right rule =
      subst (λ (ns : List Number). AreApart ns × ((number : Number) → In ns number → PresentIn now coll number)) (sym (append-nil (numbers_visited done))) (right.apart, right.present)
  right-one done _ calm is right rule = absurd is

  right-all : (done later : List Event) → AllByRecursion (IsCalm scan) done → AllByRecursion (IsCalm scan) later → IsRight done
      → EachAfter (KeepsScanRule empty_world) (begun ++ done) later → IsRight (done ++ later)
  right-all done [] calm all right each = subst IsRight (sym (append-nil done)) right
  right-all done (event ∷ later) calm all right each =
      let one = right-one done event calm all.0 right each.0 in
      let both = subst (λ (ns : List Number). AreApart ns × ((number : Number) → In ns number → PresentIn now coll number)) (sym (visited-more done event)) one in
      let next : IsRight (done ++ event ∷ []) = record { apart = both.0; present = both.1 } in
      subst IsRight (append_assoc done (event ∷ []) later)
      (right-all (done ++ event ∷ []) later (all-more scan done event calm all.0) all.1 next
      (subst (λ (zs : List Event). EachAfter (KeepsScanRule empty_world) zs later) (append_assoc begun done (event ∷ [])) each.1))

  pub visits-present : (inner rest : List Event) → AllByRecursion (IsCalm scan) inner
      → EachAfter (KeepsScanRule empty_world) begun (inner ++ End scan ∷ rest) → IsPermutation (numbers_visited inner) (numbers_in now coll)
  visits-present inner rest calm each =
      let right = right-all [] inner tt calm (record { apart = tt; present = λ (n : Number) (i : ⊥). absurd i })
      (subst (λ (zs : List Event). EachAfter (KeepsScanRule empty_world) zs inner) (sym (append-nil begun)) (EachAfter-front (KeepsScanRule empty_world) begun inner (End scan ∷ rest) each)) in
      let ends : EndsRightly empty_world (begun ++ inner) scan = (EachAfter-back (KeepsScanRule empty_world) begun inner (End scan ∷ rest) each).0 in
      same-elements (numbers_visited inner) (numbers_in now coll) right.apart (numbers-apart now coll)
      (λ (n : Number) (i : In (numbers_visited inner) n). present-number now coll n (right.present n i))
      (λ (n : Number) (i : In (numbers_in now coll) n). visit-in inner scan n (from-place inner (Visit scan n)
      (ends before coll inner (append_assoc before (Begin scan coll ∷ []) inner) n (calm-throughout scan coll n inner now calm (number-present now coll n i)))))

pub present-visited : VisitsArePresent
present-visited before inner rest scan coll ended calm once =
    visits-present before scan coll ended inner rest calm (EachAfter-back (KeepsScanRule empty_world) [] before (Begin scan coll ∷ (inner ++ End scan ∷ rest)) once).1
