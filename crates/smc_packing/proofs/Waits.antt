-- Advances, one after the other, and the epochs that they name.
use Rattle.std.proofs.Common.{◌≡◌, ℕ, ◌+◌, ◌≤◌, Option, Some, None, List, [], ◌∷◌, refl, ◌∙◌, subst, arith}
use Rattle.std.specs.Option.{option_or}
use Rattle.smc_shape.specs.Layout.{Layout, IsShape}
use Rattle.smc_model.specs.World.{World}
use Rattle.smc_core.specs.declared.call.Call.TheVariants as call
use Rattle.smc_core.specs.declared.done.Done.{Done}
use Rattle.smc_core.specs.declared.done.Done.TheVariants as done
use Rattle.smc_core.specs.declared.local.Opening.{Opening}
use Rattle.smc_core.specs.declared.local.Owned.{Owned}
use Rattle.smc_core.specs.Machine.{Machine}
use Rattle.smc_rules.specs.Memory.{Memory}
use Rattle.smc_rules.specs.Reads.{epoch_of_region}
use Rattle.smc_rules.proofs.CarryLaws.{some-same}
use Rattle.smc_aside.specs.Makes.{Makes}
use Rattle.smc_aside.proofs.Moments.{Then}
use Rattle.smc_aside.proofs.Sections as sections
use Rattle.smc_aside.proofs.Sections.{Since}
use Rattle.smc_aside.proofs.Waiting.{IsNamedSince, Advancing, advanced-named}
use Rattle.smc_packing.specs.Drive.{names, Advances, first_named, last_named, Waits}
use Rattle.smc_packing.proofs.Known.{Known, known-kept, known-epochs}

module _ (opening : Opening) (shape : Layout) (valid : IsShape shape) (start : List ℕ) (pass : ℕ) (m0 : Memory) (w0 : World) (r0 : Option Owned) where
  -- a moment since which nothing has changed but the epoch and section words
  abbrev Later : Machine → Type 0
  Later m = Since (Known opening shape) shape start pass m0 w0 r0 m

  -- after an advance with this answer
  abbrev Once : Machine → Done → Type 0
  Once m answer = Then (Known opening shape) shape start pass (Advancing m0 w0 r0) m answer

  -- the advances, with the epochs that they name
  pub record Advanced (answers : List Done) (m : Machine) : Type 0 where
    pub still : Later m
    pub first : (e : ℕ) → first_named answers ≡ Some e → epoch_of_region m0 + 1 ≤ e
    pub latest : (e : ℕ) → last_named answers ≡ Some e → e ≤ epoch_of_region still.moment.scene.state.memory

  once : (answer : Done) (m next : Machine) → Later m → Makes shape pass call.Advance answer m next → Once next answer
  once answer m next at makes = sections.advances-once (Known opening shape) shape valid (known-kept opening shape valid) start pass m0 w0 r0 (known-epochs opening shape) answer m next at makes

  -- the epoch that it names
  named : (now : ℕ) (answer : Done) → IsNamedSince m0 w0 r0 now answer → (e : ℕ) → names answer ≡ Some e → (epoch_of_region m0 + 1 ≤ e) × (e ≤ now)
  named now (done.Advanced x) k e is = subst (λ (y : ℕ). (epoch_of_region m0 + 1 ≤ y) × (y ≤ now)) (some-same x e is) k
  named now (done.Overtaken x) k e is = subst (λ (y : ℕ). (epoch_of_region m0 + 1 ≤ y) × (y ≤ now)) (some-same x e is) k
  named now answer k e is = absurd (cc)

  names-since : (next : Machine) (answer : Done) (t : Once next answer) (e : ℕ) → names answer ≡ Some e → (epoch_of_region m0 + 1 ≤ e) × (e ≤ epoch_of_region t.moment.scene.state.memory)
  names-since next answer t e is =
      named (epoch_of_region t.moment.scene.state.memory) answer (advanced-named m0 w0 r0 t.moment.scene.state.memory (t.moment.scene.state.stands pass).section answer t.says.part) e is

  pub advances : (answers : List Done) (m last : Machine) → Later m → Advances shape pass answers m last → Advanced answers last
  advances [] m last at is = record {
    still = subst Later is at;
    first = λ e none. absurd (cc);
    latest = λ e none. absurd (cc);
  }
  advances (answer ∷ []) m last at (next, makes, is) = subst (Advanced (answer ∷ [])) is (
      let t : Once next answer = once answer m next at makes in record {
        still = record { moment = t.moment; same = t.says.same };
        first = λ e its. (names-since next answer t e (first-of (names answer) e its)).0;
        latest = λ e its. (names-since next answer t e its).1;
      })
    where
      first-of : (named : Option ℕ) (e : ℕ) → option_or named None ≡ Some e → named ≡ Some e
      first-of None e is = is
      first-of (Some n) e is = is
  advances (answer ∷ more ∷ later) m last at (next, makes, on) =
      let t : Once next answer = once answer m next at makes in
      let rest : Advanced (more ∷ later) last = advances (more ∷ later) next last (record { moment = t.moment; same = t.says.same }) on in record {
        still = rest.still;
        first = λ e its. first-of (names answer) refl e its (λ is. (names-since next answer t e is).0) (λ is. rest.first e is);
        latest = rest.latest;
      }
    where
      first-of : (named : Option ℕ) → names answer ≡ named → (e : ℕ) → option_or named (first_named (more ∷ later)) ≡ Some e
          → (names answer ≡ Some e → epoch_of_region m0 + 1 ≤ e) → (first_named (more ∷ later) ≡ Some e → epoch_of_region m0 + 1 ≤ e) → epoch_of_region m0 + 1 ≤ e
      first-of None same e is here there = there is
      first-of (Some n) same e is here there = here (same ∙ is)

  -- a pass that has waited has seen the epoch move on three times
  pub waits : (m last : Machine) → Later m → Waits shape pass m last → (at : Later last) × (epoch_of_region m0 + 3 ≤ epoch_of_region at.moment.scene.state.memory)
  waits m last at w =
      let a : Advanced w.answers last = advances w.answers m last at w.advances in
      (a.still, omega (arith, a.first w.first w.begins, a.latest w.latest w.ends, w.two_on))
