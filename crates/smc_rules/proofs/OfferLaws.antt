-- What is offered behind a test: what is to be known of it is to be known where the test holds.
use Rattle.std.proofs.Common.{◌≡◌, ℕ, Bool, true, false, Option, Some, None, refl}
use Rattle.std.specs.Prelude.{IfSome}
use Rattle.smc_core.specs.declared.local.Owned.{Owned}
use Rattle.smc_core.specs.declared.local.Scan.{Scan}
use Rattle.smc_core.specs.declared.op.Offer.{Offer}
use Rattle.smc_core.specs.declared.phase.Phase.{Phase}
use Rattle.smc_core.specs.declared.phase.Phase.TheVariants as phase
use Rattle.smc_core.specs.declared.section.Section.{Section}
use Rattle.smc_core.specs.declared.section.Section.TheVariants.{Outside, Inside}
use Rattle.smc_core.specs.Offer.{when_idle, when_inside, when_outside, when_held, when_begun, when_owned}
use Rattle.smc_core.specs.Step.{when}

module _ (P : Offer → Type 0) where
  pub if_idle : (call : Phase) (o : Option Offer) → (call ≡ phase.Idle → IfSome o P) → IfSome (when_idle call o) P
  if_idle phase.Idle o k = k refl
  if_idle _ o k = tt

  pub if_outside : (section : Section) (o : Option Offer) → (section ≡ Outside → IfSome o P) → IfSome (when_outside section o) P
  if_outside Outside o k = k refl
  if_outside _ o k = tt

  pub if_inside : (section : Section) (o : Option Offer) → ((own : ℕ) (calm : Bool) → section ≡ Inside own calm → IfSome o P) → IfSome (when_inside section o) P
  if_inside (Inside own calm) o k = k own calm refl
  if_inside _ o k = tt

  pub if_test : (b : Bool) (o : Offer) → (b ≡ true → P o) → IfSome (when b o) P
  if_test true o k = k refl
  if_test false o k = tt

  pub if_held : (held : Option ℕ) (o : ℕ → Option Offer) → ((slot : ℕ) → held ≡ Some slot → IfSome (o slot) P) → IfSome (when_held held o) P
  if_held None o k = tt
  if_held (Some slot) o k = k slot refl

  pub if_begun : (begun : Option Scan) (o : Scan → Offer) → ((one : Scan) → begun ≡ Some one → P (o one)) → IfSome (when_begun begun o) P
  if_begun None o k = tt
  if_begun (Some one) o k = k one refl

  pub if_owned : (owned : Option Owned) (o : Owned → Offer) → ((one : Owned) → owned ≡ Some one → P (o one)) → IfSome (when_owned owned o) P
  if_owned None o k = tt
  if_owned (Some one) o k = k one refl
