-- A cursor is at a slot of its collection, in every state that is reached.
use Rattle.std.proofs.Common.{◌≡◌, ℕ, zero, suc, ◌<◌, List, [], ◌∷◌, length, sym, subst, ap, ◌∙◌, arith}
use Rattle.std.specs.Prelude.{Some, replicate, slice_get, slice_set}
use Rattle.std.proofs.lemmas.Bool.Decides.{nat_tests}
use Rattle.smc_shape.specs.Layout.{Layout, IsShape, slots_of}
use Rattle.smc_core.specs.declared.call.Choice.{Choice}
use Rattle.smc_core.specs.declared.call.Choice.TheVariants.{Go}
use Rattle.smc_core.specs.declared.local.Local.{Local}
use Rattle.smc_core.specs.declared.phase.Phase.{Phase}
use Rattle.smc_core.specs.declared.phase.Phase.TheVariants as phase
use Rattle.smc_core.specs.declared.phase.objects.AddPhase.TheVariants as add
use Rattle.smc_core.specs.Local.{fresh, cursors_after}
use Rattle.smc_core.specs.Machine.{Machine, Leads, Steps, started}
use Rattle.smc_core.specs.Ripe.{next_round}
use Rattle.smc_region.specs.Reached.{From}
use Rattle.smc_region.specs.Views.{one}
use Rattle.smc_region.proofs.StepLaws.{some-same, was}

module _ {A : Type 0} where
  -- what holds of each element, and of the one put there, holds of each then
  pub set-all : (P : ℕ → A → Type 0) (xs : List A) (i : ℕ) (y : A) → P i y → ((k : ℕ) (x : A) → slice_get xs k ≡ Some x → P k x)
      → (k : ℕ) (x : A) → slice_get (slice_set xs i y) k ≡ Some x → P k x
  set-all P [] i y p h k x e = h k x e
  set-all P (a ∷ xs) zero y p h zero x e = subst (λ (b : A). P 0 b) (some-same y x e) p
  set-all P (a ∷ xs) zero y p h (suc k) x e = h (suc k) x e
  set-all P (a ∷ xs) (suc i) y p h zero x e = h 0 x e
  set-all P (a ∷ xs) (suc i) y p h (suc k) x e = set-all (λ n. P (suc n)) xs i y p (λ n b. h (suc n) b) k x e

  -- each of the copies is the element
  pub copies-are : (n : ℕ) (y : A) (k : ℕ) (x : A) → slice_get (replicate n y) k ≡ Some x → y ≡ x
  copies-are zero y k x e = cc
  copies-are (suc n) y zero x e = some-same y x e
  copies-are (suc n) y (suc k) x e = copies-are n y k x e

module _ (shape : Layout) (valid : IsShape shape) where
  -- each cursor is at a slot
  abbrev AtSlots : List ℕ → Type 0
  AtSlots cursors = (c x : ℕ) → slice_get cursors c ≡ Some x → c < length shape.colls → x < slots_of shape c

  next-within : (many slot : ℕ) → 0 < many → next_round many slot < many
  next-within many slot some = grind (arith, nat_tests)

  -- so they are after a step
  at-slots-after : (cursors : List ℕ) (now : Phase) (choice : Choice) → AtSlots cursors → AtSlots (cursors_after shape cursors now choice)
  at-slots-after cursors (phase.Add (add.StoreLive slot number)) Go h =
      set-all (λ c x. c < length shape.colls → x < slots_of shape c) cursors number.coll (next_round (slots_of shape number.coll) slot)
      (λ within. next-within (slots_of shape number.coll) slot (valid.coll number.coll within).some_slots) h
  at-slots-after cursors now choice h = h

  abbrev AllAtSlots : Machine → Type 0
  AllAtSlots m = (k : ℕ) (l : Local) → slice_get m.locals k ≡ Some l → AtSlots l.cursors

  at-slots-then : (m next : Machine) (pass : ℕ) (choice : Choice) → Steps shape m pass choice next → AllAtSlots m → AllAtSlots next
  at-slots-then m next pass choice step h =
      subst (λ (n : Machine). AllAtSlots n) (sym step.leads)
      (set-all (λ k l. AtSlots l.cursors) m.locals pass _ (at-slots-after step.local.cursors step.local.stand.phase choice (h pass step.local step.here)) h)

  at-slots-led : (m : Machine) (steps : List (ℕ × Choice)) (last : Machine) → Leads shape m steps last → AllAtSlots m → AllAtSlots last
  at-slots-led m [] last leads h = subst (λ (n : Machine). AllAtSlots n) leads h
  at-slots-led m (first ∷ later) last leads h =
      at-slots-led leads.0 later last leads.2 (at-slots-then m leads.0 first.0 first.1 leads.1 h)

  at-slots-first : (row : List ℕ) → AllAtSlots (started shape row)
  at-slots-first row k l e c x is within =
      let fresh_is : fresh shape ≡ l = copies-are shape.passes (fresh shape) k l e in
      let zero_is : 0 ≡ x = copies-are (length shape.colls) 0 c x (ap (λ (t : Local). slice_get t.cursors c) fresh_is ∙ is) in
      subst (λ (n : ℕ). n < slots_of shape c) zero_is (valid.coll c within).some_slots

-- where a pass has its cursor of a collection there is a slot
pub cursor_within : (shape : Layout) (pass : ℕ) (l : Local) → From (one shape pass l) → (c x : ℕ) → slice_get l.cursors c ≡ Some x → c < length shape.colls → x < slots_of shape c
cursor_within shape pass l f =
    let r = f.reached in
    let h = (was r) in
    at-slots-led shape r.valid (started shape h.start) h.steps f.machine h.leads (at-slots-first shape r.valid h.start) pass l f.stands.0
