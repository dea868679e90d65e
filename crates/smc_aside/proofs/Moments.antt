-- Moments between the calls of a pass that works alone, and how a call leads from one to the next.
use Rattle.std.proofs.Common.{◌≡◌, ℕ, Option, Some, None, List, ap, ◌∙◌, sym, subst}
use Rattle.smc_shape.specs.Layout.{Layout, IsShape}
use Rattle.smc_core.specs.declared.call.Call.{Call}
use Rattle.smc_core.specs.declared.done.Done.{Done}
use Rattle.smc_core.specs.declared.local.Stand.{Stand}
use Rattle.smc_core.specs.declared.phase.Phase.{Phase}
use Rattle.smc_core.specs.declared.phase.Phase.TheVariants as phase
use Rattle.smc_core.specs.declared.section.Section.TheVariants.{Outside}
use Rattle.smc_core.specs.Machine.{Machine, Reach}
use Rattle.smc_rules.specs.Mirror.{anywhere}
use Rattle.smc_rules.specs.State as S
use Rattle.smc_rules.specs.State.{IsKept}
use Rattle.smc_aside.specs.Aside.{OthersAside, IsAlone}
use Rattle.smc_aside.specs.Makes.{Makes}
use Rattle.smc_aside.proofs.AsideLaws.{others-aside}
use Rattle.smc_aside.proofs.Runs.{Saying, Carries, Said, said-after}
use Rattle.smc_aside.proofs.Scenes.{Scene}
use Rattle.smc_aside.proofs.StepLists.{reach-on}

-- no call of the pass is in progress, and the others stand aside
pub record IsMoment (R : S.State → Type 0) (shape : Layout) (start : List ℕ) (pass : ℕ) (m : Machine) : Type 0 where
  pub reached : Reach shape start m.row m.locals
  pub aside : OthersAside pass m.locals
  pub scene : Scene R shape m
  pub idle : (scene.state.stands pass).phase ≡ phase.Idle

-- and the pass is outside sections, without a round
pub record IsFree (R : S.State → Type 0) (shape : Layout) (start : List ℕ) (pass : ℕ) (m : Machine) : Type 0 where
  pub moment : IsMoment R shape start pass m
  pub outside : (moment.scene.state.stands pass).section ≡ Outside
  pub no_round : (moment.scene.state.stands pass).round ≡ None

-- so it is where the pass is alone
pub alone-free : {R : S.State → Type 0} (shape : Layout) (start : List ℕ) (pass : ℕ) (m : Machine) → Reach shape start m.row m.locals → IsAlone pass m → Scene R shape m → IsFree R shape start pass m
alone-free shape start pass m reached alone scene =
    let at : scene.state.stands pass ≡ alone.idle.local.stand = scene.backs.same pass alone.idle.local alone.idle.here in record {
      moment = record { reached = reached; aside = alone.others; scene = scene; idle = ap (λ (k : Stand). k.phase) at ∙ alone.idle.idle };
      outside = ap (λ (k : Stand). k.section) at ∙ alone.idle.outside;
      no_round = ap (λ (k : Stand). k.round) at ∙ alone.idle.no_round;
    }

-- it is said of the pass at the moment
abbrev pub SaysAt : Saying → ℕ → S.State → Option Done → Type 0
SaysAt P pass s answer = P s.memory s.world (s.stands pass).section (s.stands pass).round phase.Idle answer

-- at the next moment, after a call with this answer
pub record Then (R : S.State → Type 0) (shape : Layout) (start : List ℕ) (pass : ℕ) (P : Saying) (m : Machine) (answer : Done) : Type 0 where
  pub moment : IsMoment R shape start pass m
  pub says : SaysAt P pass moment.scene.state (Some answer)

-- a call leads from one moment to another
pub calls : (R : S.State → Type 0) (shape : Layout) → IsShape shape → IsKept shape anywhere R → (start : List ℕ) (pass : ℕ) (P : Saying) (call : Call) → Carries P R shape pass call
    → (m last : Machine) (answer : Done) (at : IsMoment R shape start pass m) → Makes shape pass call answer m last → SaysAt P pass at.scene.state None → Then R shape start pass P last answer
calls R shape valid keeps start pass P call c m last answer at makes says =
    let s : S.State = at.scene.state in
    let said : Said P R shape pass last (Some answer) = said-after P R shape valid keeps pass call c m last answer makes at.aside
    (record { scene = at.scene; says = subst (λ (x : Phase). P s.memory s.world (s.stands pass).section (s.stands pass).round x None) (sym at.idle) says }) in
    let t : S.State = said.scene.state in
    let idle : (t.stands pass).phase ≡ phase.Idle = c.idle t.memory t.world (t.stands pass).section (t.stands pass).round (t.stands pass).phase answer said.says in
    record {
      moment = record {
        reached = reach-on shape start m last makes.steps at.reached makes.leads;
        aside = others-aside shape pass m last makes.steps at.aside makes.undisturbed makes.leads;
        scene = said.scene;
        idle = idle;
      };
      says = subst (λ (x : Phase). P t.memory t.world (t.stands pass).section (t.stands pass).round x (Some answer)) idle said.says;
    }
