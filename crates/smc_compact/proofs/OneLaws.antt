-- The calls of a drive tell how it ended, and what stands behind it.
use Rattle.std.proofs.Common.{◌≡◌, ℕ, ◌+◌, Option, Some, None, List, [], ◌∷◌, ◌++◌, refl, sym, ap, ◌∙◌, subst, append_assoc, arith}
use Rattle.std.specs.Prelude.{flat_map}
use Rattle.smc_core.specs.declared.done.Done.{Done}
use Rattle.smc_core.specs.declared.done.Done.TheVariants as done
use Rattle.smc_region.specs.Named.{named}
use Rattle.smc_compact.specs.declared.counting.Census.{Census}
use Rattle.smc_compact.specs.declared.outcome.Outcome.{Outcome}
use Rattle.smc_compact.specs.declared.outcome.Waited.{Waited}
use Rattle.smc_compact.specs.declared.outcome.Waited.TheVariants as waited
use Rattle.smc_compact.specs.declared.outcome.Waiting.{Waiting}
use Rattle.smc_compact.specs.declared.outcome.Waiting.TheVariants as waiting
use Rattle.smc_compact.specs.declared.packing.Packed.{Packed}
use Rattle.smc_compact.specs.Packs.{Packs}
use Rattle.smc_compact.specs.Drives.{Closes, ClosesBy, ComesBy, DriveIsOne, Drives, GoesOnBy, Opens, in_section}
use Rattle.smc_trace.specs.Named.{advances, rounds}
use Rattle.smc_trace.specs.Trace.{CallEnd}
use Rattle.smc_compact.specs.Waits.{after_all, next}

pub ended-one : (a b : Waited) → (let x : Option Waiting = Some (waiting.Ends a) in x) ≡ Some (waiting.Ends b) → a ≡ b
ended-one a b same = cc

pub none-after : (answers : List Done) (ended : Waited) → after_all None answers ≡ Some (waiting.Ends ended) → ⊥
none-after [] ended is = absurd cc
none-after (one ∷ later) ended is = none-after later ended is

first-one : (a b : CallEnd) (s t : List CallEnd) → (a ∷ s) ≡ (b ∷ t) → a ≡ b
first-one a b s t is = cc

later-one : (a b : CallEnd) (s t : List CallEnd) → (a ∷ s) ≡ (b ∷ t) → s ≡ t
later-one a b s t is = cc

-- a waiting ends in one way, with the same calls behind it
waits-one : (now : Option Waiting) (one other : List Done) (a b : Waited) (s t : List CallEnd) → after_all now one ≡ Some (waiting.Ends a) → after_all now other ≡ Some (waiting.Ends b)
    → flat_map advances one ++ s ≡ flat_map advances other ++ t → (a ≡ b) × (s ≡ t)
waits-one now [] [] a b s t e f is = (ended-one a b (sym e ∙ f), is)
waits-one now [] (y ∷ other) a b s t e f is =
    absurd (none-after other b (sym (ap (λ (k : Option Waiting). after_all (next k y) other) e) ∙ f))
waits-one now (x ∷ one) [] a b s t e f is =
    absurd (none-after one a (sym (ap (λ (k : Option Waiting). after_all (next k x) one) f) ∙ e))
waits-one now (x ∷ one) (y ∷ other) a b s t e f is =
    let call : CallEnd = record { event = None; done = x } in
    let same : x ≡ y = ap (λ (k : CallEnd). k.done) (first-one _ _ _ _ is) in
    waits-one (next now x) one other a b s t e (ap (λ (k : Done). after_all (next now k) other) same ∙ f) (later-one _ _ _ _ is)

-- a section with one call in it is told apart from what follows
section-one : (epoch other : ℕ) (a b : Done) (s t : List CallEnd) → in_section epoch (rounds a) ++ s ≡ in_section other (rounds b) ++ t → (epoch ≡ other) × (a ≡ b) × (s ≡ t)
section-one epoch other a b s t is =
    let later = later-one _ _ _ _ is in
    (ap (λ (k : CallEnd). named k.done) (first-one _ _ _ _ is), ap (λ (k : CallEnd). k.done) (first-one _ _ _ _ later), later-one _ _ _ _ (later-one _ _ _ _ later))

closed-one : (ended : Waited) (answer : Done) (one other : Outcome) → ClosesBy ended answer one → ClosesBy ended answer other → one ≡ other
closed-one ended answer one other a b = grind (arith, a, b)

-- two fronts of one list that ended in one way, with the same calls behind them
abbrev pub IsOneEnd : {A : Type 0} → A → A → List CallEnd → List CallEnd → Type 0
IsOneEnd one other rest behind = (one ≡ other) × (rest ≡ behind)

-- what stands behind a front of a front stands behind the first of its parts
regroup : (first made back rest : List CallEnd) → first ≡ made ++ back → first ++ rest ≡ made ++ (back ++ rest)
regroup first made back rest is = ap (λ (s : List CallEnd). s ++ rest) is ∙ append_assoc made back rest

-- so do two of them at the front of one list
both : (first made back rest other done tail behind : List CallEnd) → first ≡ made ++ back → other ≡ done ++ tail → first ++ rest ≡ other ++ behind
    → made ++ (back ++ rest) ≡ done ++ (tail ++ behind)
both first made back rest other done tail behind f o same = sym (regroup first made back rest f) ∙ same ∙ regroup other done tail behind o

closes-front : (bound turns : ℕ) (one other : Outcome) (s t rest behind : List CallEnd) → Closes bound turns one s → Closes bound turns other t → s ++ rest ≡ t ++ behind
    → IsOneEnd one other rest behind
closes-front bound turns one other s t rest behind a b same =
    let waits = waits-one (Some (waiting.GoesOn (Some (bound + 2)) turns)) a.waits b.waits a.waited b.waited (in_section a.epoch (rounds a.answer) ++ rest) (in_section b.epoch (rounds b.answer) ++ behind)
    a.waits_for b.waits_for
    (both s (flat_map advances a.waits) (in_section a.epoch (rounds a.answer)) rest t (flat_map advances b.waits) (in_section b.epoch (rounds b.answer)) behind a.made b.made same) in
    let section = section-one a.epoch b.epoch a.answer b.answer rest behind waits.1 in
    let is : ClosesBy b.waited b.answer one = subst (λ (w : Waited). ClosesBy w b.answer one) waits.0 (subst (λ (d : Done). ClosesBy a.waited d one) section.1 a.is) in
    (closed-one b.waited b.answer one other is b.is, section.2)

-- no calls stand before what is behind them
nothing-before : (s t rest behind : List CallEnd) → s ≡ [] → t ≡ [] → s ++ rest ≡ t ++ behind → rest ≡ behind
nothing-before s t rest behind a b same = sym (ap (λ (x : List CallEnd). x ++ rest) a) ∙ same ∙ ap (λ (x : List CallEnd). x ++ behind) b

goes-front : (coll turns epoch : ℕ) (answer : Done) (one other : Outcome) (s t rest behind : List CallEnd)
    → GoesOnBy coll turns epoch answer one s → GoesOnBy coll turns epoch answer other t → s ++ rest ≡ t ++ behind → IsOneEnd one other rest behind
goes-front coll turns epoch (done.Round of_it bound moves) one other s t rest behind a b same = closes-front bound turns one other s t rest behind a.2 b.2 same
goes-front coll turns epoch (done.Nothing of_it) one other s t rest behind a b same = (a.1 ∙ sym b.1, nothing-before s t rest behind a.2 b.2 same)
goes-front coll turns epoch (done.Busy bound pass of_it) one other s t rest behind a b same = (a.0 ∙ sym b.0, nothing-before s t rest behind a.1 b.1 same)
goes-front coll turns epoch _ one other s t rest behind a b same = absurd a

opens-front : (coll turns : ℕ) (one other : Outcome) (s t rest behind : List CallEnd) → Opens coll turns one s → Opens coll turns other t → s ++ rest ≡ t ++ behind
    → IsOneEnd one other rest behind
opens-front coll turns one other s t rest behind a b same =
    let section = section-one a.epoch b.epoch a.answer b.answer (a.later ++ rest) (b.later ++ behind)
    (both s (in_section a.epoch (rounds a.answer)) a.later rest t (in_section b.epoch (rounds b.answer)) b.later behind a.made b.made same) in
    let is : GoesOnBy coll turns b.epoch b.answer one a.later =
    subst (λ (e : ℕ). GoesOnBy coll turns e b.answer one a.later) section.0 (subst (λ (d : Done). GoesOnBy coll turns a.epoch d one a.later) section.1 a.goes_on) in
    goes-front coll turns b.epoch b.answer one other a.later b.later rest behind is b.goes_on section.2

comes-front : (coll : ℕ) (ended : Waited) (one other : Outcome) (s t rest behind : List CallEnd) → ComesBy coll ended one s → ComesBy coll ended other t → s ++ rest ≡ t ++ behind
    → IsOneEnd one other rest behind
comes-front coll (waited.Named left) one other s t rest behind a b same = opens-front coll left one other s t rest behind a b same
comes-front coll (waited.Later pass seen) one other s t rest behind a b same = (a.0 ∙ sym b.0, nothing-before s t rest behind a.1 b.1 same)
comes-front coll waited.Spent one other s t rest behind a b same = (a.0 ∙ sym b.0, nothing-before s t rest behind a.1 b.1 same)

-- a drive is read off from the front of a list of calls
pub drives-front : (coll turns : ℕ) (one other : Outcome) (s t rest behind : List CallEnd) → Drives coll turns one s → Drives coll turns other t → s ++ rest ≡ t ++ behind
    → IsOneEnd one other rest behind
drives-front coll turns one other s t rest behind a b same =
    let waits = waits-one (Some (waiting.GoesOn None turns)) a.waits b.waits a.waited b.waited (a.later ++ rest) (b.later ++ behind) a.waits_for b.waits_for
    (both s (flat_map advances a.waits) a.later rest t (flat_map advances b.waits) b.later behind a.made b.made same) in
    comes-front coll b.waited one other a.later b.later rest behind (subst (λ (w : Waited). ComesBy coll w one a.later) waits.0 a.comes) b.comes waits.1

pub drives-one : DriveIsOne
drives-one coll turns one other calls a b = (drives-front coll turns one other calls calls [] [] a b refl).0

-- so is a drive with a count behind it
survey-of : ℕ → Census → Done
survey-of coll census = done.Surveyed coll census.objects census.blocks

same-census : (coll : ℕ) (one other : Census) → survey-of coll one ≡ survey-of coll other → one ≡ other
unfolding survey-of
same-census coll one other is =
    let objects : one.objects ≡ other.objects = surveyed-objects coll one.objects one.blocks other.objects other.blocks is in
    let blocks : one.blocks ≡ other.blocks = surveyed-blocks coll one.objects one.blocks other.objects other.blocks is in
    ap (λ (k : ℕ). let c : Census = record { objects = k; blocks = one.blocks } in c) objects ∙ ap (λ (k : ℕ). let c : Census = record { objects = other.objects; blocks = k } in c) blocks
  where
    surveyed-objects : (coll a b c d : ℕ) → done.Surveyed coll a b ≡ done.Surveyed coll c d → a ≡ c
    surveyed-objects coll a b c d is = cc

    surveyed-blocks : (coll a b c d : ℕ) → done.Surveyed coll a b ≡ done.Surveyed coll c d → b ≡ d
    surveyed-blocks coll a b c d is = cc

pub packs-front : (coll turns : ℕ) (one other : Packed) (s t rest behind : List CallEnd) → Packs coll turns one s → Packs coll turns other t → s ++ rest ≡ t ++ behind
    → IsOneEnd one other rest behind
unfolding survey-of
packs-front coll turns one other s t rest behind a b same =
    let mine = in_section a.epoch (rounds (survey-of coll one.census)) in
    let theirs = in_section b.epoch (rounds (survey-of coll other.census)) in
    let drive = drives-front coll turns one.outcome other.outcome a.driven b.driven (mine ++ rest) (theirs ++ behind) a.drives b.drives
    (both s a.driven mine rest t b.driven theirs behind a.made b.made same) in
    let section = section-one a.epoch b.epoch (survey-of coll one.census) (survey-of coll other.census) rest behind drive.1 in
    let census : one.census ≡ other.census = same-census coll one.census other.census section.1 in (
      ap (λ (k : Outcome). let p : Packed = record { outcome = k; census = one.census } in p) drive.0
          ∙ ap (λ (k : Census). let p : Packed = record { outcome = other.outcome; census = k } in p) census,
      section.2,
    )
