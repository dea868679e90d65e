-- A waiting takes turns.
use Rattle.std.proofs.Common.{◌≡◌, ℕ, ◌+◌, ◌-◌, ◌<◌, true, false, Option, Some, None, List, [], ◌∷◌, refl, ap, subst, arith}
use Rattle.std.specs.Prelude.{nat_lt, if◌then◌else◌}
use Rattle.std.proofs.lemmas.Bool.Decides.{nat_tests}
use Rattle.smc_core.specs.declared.done.Done.{Done}
use Rattle.smc_core.specs.declared.done.Done.TheVariants as done
use Rattle.smc_compact.specs.declared.outcome.Waited.{Waited}
use Rattle.smc_compact.specs.declared.outcome.Waited.TheVariants as waited
use Rattle.smc_compact.specs.declared.outcome.Waiting.{Waiting}
use Rattle.smc_compact.specs.declared.outcome.Waiting.TheVariants as waiting
use Rattle.smc_compact.specs.Waits.{EndsIn, InTurns, WaitTakesTurns, after_all, names, not_yets, told}
use Rattle.smc_compact.proofs.OneLaws.{ended-one, none-after}

-- what an answer makes of so many turns
abbrev Turned : ℕ → Done → Option Waiting → Type 0
Turned left one None = Unit {0}
Turned left one (Some (waiting.GoesOn now fewer)) = (not_yets (one ∷ []) + fewer ≡ left) × (0 < fewer)
Turned left one (Some (waiting.Ends (waited.Named rest))) = not_yets (one ∷ []) + rest ≡ left
Turned left one (Some (waiting.Ends (waited.Later pass seen))) = (one ≡ done.NotYet pass seen) × (left ≡ 1)
Turned left one (Some (waiting.Ends waited.Spent)) = one ≡ done.Spent

named-turned : (until : Option ℕ) (left epoch : ℕ) (one : Done) → not_yets (one ∷ []) ≡ 0 → 0 < left → Turned left one (Some (names until left epoch))
named-turned None left epoch one none some = (omega (arith, none), some)
named-turned (Some until) left epoch one none some =
    elim (nat_lt epoch until) as (λ b. Turned left one (Some (if b then waiting.GoesOn (Some until) left else waiting.Ends (waited.Named left)))) [
      | true ↦ (omega (arith, none), some)
      | false ↦ omega (arith, none)
    ]

turned : (until : Option ℕ) (left : ℕ) (one : Done) → 0 < left → Turned left one (told until left one)
turned until left (done.Advanced epoch) some = named-turned until left epoch (done.Advanced epoch) refl some
turned until left (done.Overtaken epoch) some = named-turned until left epoch (done.Overtaken epoch) refl some
turned until left (done.NotYet pass seen) some =
    elim (nat_lt 1 left) as (λ b. nat_lt 1 left ≡ b → Turned left (done.NotYet pass seen) (Some (if b then waiting.GoesOn until (left - 1) else waiting.Ends (waited.Later pass seen)))) [
      | true ↦ λ e. let two : 1 < left = grind (arith, nat_tests, e) in (omega (arith, two), omega (arith, two))
      | false ↦ λ e. (refl, grind (arith, nat_tests, e))
    ] refl
turned until left done.Spent some = refl
turned until left (done.At epoch) some = tt
turned until left done.Out some = tt
turned until left (done.Made slot) some = tt
turned until left (done.Full full) some = tt
turned until left (done.Here slot) some = tt
turned until left done.Null some = tt
turned until left (done.Value value) some = tt
turned until left done.Written some = tt
turned until left done.First some = tt
turned until left done.Late some = tt
turned until left done.Begun some = tt
turned until left (done.Visit number slot) some = tt
turned until left done.End some = tt
turned until left (done.Round coll bound moves) some = tt
turned until left (done.Nothing coll) some = tt
turned until left (done.Busy bound pass coll) some = tt
turned until left (done.Finished moved abandoned gone) some = tt
turned until left (done.Early epoch bound) some = tt
turned until left done.Cancelled some = tt
turned until left (done.Noted note) some = tt
turned until left done.Learned some = tt
turned until left (done.Surveyed coll objects blocks) some = tt

not_yets-first : (one : Done) (later : List Done) → not_yets (one ∷ later) ≡ not_yets (one ∷ []) + not_yets later
not_yets-first one later = grind arith

ends-first : (one last : Done) (later : List Done) → EndsIn later last → EndsIn (one ∷ later) last
ends-first one last later e = (one ∷ e.0, ap (λ (s : List Done). one ∷ s) e.1)

in-turns-first : (left fewer : ℕ) (one : Done) (later : List Done) (ended : Waited) → not_yets (one ∷ []) + fewer ≡ left → InTurns fewer later ended → InTurns left (one ∷ later) ended
in-turns-first left fewer one later (waited.Named rest) is h = let e = not_yets-first one later in omega (arith, e, is, h)
in-turns-first left fewer one later (waited.Later pass seen) is h =
    let e = not_yets-first one later in let n = h.0 in (omega (arith, e, is, n), ends-first one (done.NotYet pass seen) later h.1)
in-turns-first left fewer one later waited.Spent is h =
    let e = not_yets-first one later in let n = h.0 in (omega (arith, e, is, n), ends-first one done.Spent later h.1)

in-turns-last : (left : ℕ) (one : Done) (ended : Waited) → 0 < left → Turned left one (Some (waiting.Ends ended)) → InTurns left (one ∷ []) ended
in-turns-last left one (waited.Named rest) some h = h
in-turns-last left one (waited.Later pass seen) some h =
    let last = h.1 in
    let many : not_yets (one ∷ []) ≡ 1 = ap (λ (d : Done). not_yets (d ∷ [])) h.0 in
    (omega (arith, last, many), ([], ap (λ (d : Done). let s : List Done = d ∷ [] in s) h.0))
in-turns-last left one waited.Spent some h =
    let many : not_yets (one ∷ []) ≡ 0 = ap (λ (d : Done). not_yets (d ∷ [])) h in
    (omega (arith, some, many), ([], ap (λ (d : Done). let s : List Done = d ∷ [] in s) h))

pub takes-turns : WaitTakesTurns
takes-turns until turns [] ended some is = absurd cc
takes-turns until turns (one ∷ later) ended some is = go (told until turns one) (turned until turns one some) later is (λ now fewer more e. takes-turns now fewer later ended more e)
  where
    go : (w : Option Waiting) → Turned turns one w → (later : List Done) → after_all w later ≡ Some (waiting.Ends ended)
        → ((now : Option ℕ) (fewer : ℕ) → 0 < fewer → after_all (Some (waiting.GoesOn now fewer)) later ≡ Some (waiting.Ends ended) → InTurns fewer later ended)
        → InTurns turns (one ∷ later) ended
    go None t later e rest = absurd (none-after later ended e)
    go (Some (waiting.Ends x)) t [] e rest = in-turns-last turns one ended some (subst (λ (k : Waited). Turned turns one (Some (waiting.Ends k))) (ended-one x ended e) t)
    go (Some (waiting.Ends x)) t (y ∷ later) e rest = absurd (none-after later ended e)
    go (Some (waiting.GoesOn now fewer)) t later e rest = in-turns-first turns fewer one later ended t.0 (rest now fewer t.1 e)
