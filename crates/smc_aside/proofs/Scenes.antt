-- A state behind each machine of a list of steps, and what a step makes of it.
use Rattle.std.proofs.Common.{◌≡◌, ◌≢◌, ℕ, ◌<◌, Option, Some, List, [], length, refl, sym, ap, ◌∙◌, subst, inl, inr, arith}
use Rattle.std.specs.Prelude.{slice_get, slice_set}
use Rattle.std.specs.Option.{option_map_or}
use Rattle.std.proofs.lemmas.Option.{slice_get_within, slice_get_cases}
use Rattle.smc_shape.specs.Layout.{Layout, IsShape}
use Rattle.smc_core.specs.declared.call.Choice.{Choice}
use Rattle.smc_core.specs.declared.local.Answer.{Answer}
use Rattle.smc_core.specs.declared.local.Local.{Local}
use Rattle.smc_core.specs.declared.local.Stand.{Stand}
use Rattle.smc_core.specs.declared.op.Offer.{Offer}
use Rattle.smc_core.specs.declared.op.Op.{Op}
use Rattle.smc_core.specs.declared.word.Word.{Word}
use Rattle.smc_core.specs.Local.{after, answered}
use Rattle.smc_core.specs.Machine.{Machine, Steps, stepped}
use Rattle.smc_core.specs.Row.{row_shows}
use Rattle.smc_rules.specs.Memory.{seen}
use Rattle.smc_rules.specs.Mirror.{IsMirrored, anywhere}
use Rattle.smc_rules.specs.State as S
use Rattle.smc_rules.specs.State.{Backs, Backed, IsKept, stand_offer, stand_change, state_after}
use Rattle.smc_rules.proofs.CarryLaws.{backs_step, get-set_same, get-set_other}
use Rattle.smc_rules.proofs.MirrorLaws.{mirrored}
use Rattle.smc_aside.specs.Aside.{StandsAside, OthersAside}

-- a state behind a machine, which has this rule
abbrev pub Scene : (S.State → Type 0) → Layout → Machine → Type 0
Scene R shape m = Backed shape anywhere R m.row m.locals

-- the answers that a pass has kept
abbrev pub answers_of : ℕ → List Local → List Answer
answers_of pass locals = option_map_or (λ l. l.answers) (slice_get locals pass) []

-- all passes of the region but this one stand aside in the state
abbrev pub AsideIn : Layout → ℕ → S.State → Type 0
AsideIn shape pass s = (other : ℕ) → other < shape.passes → other ≢ pass → StandsAside (s.stands other)

-- what a step makes of the scene
pub record Follows (R : S.State → Type 0) (shape : Layout) (m : Machine) (scene : Scene R shape m) (by : ℕ) (choice : Choice) (next : Machine) : Type 0 where
  pub offered : Offer
  pub told : ℕ
  pub within : by < shape.passes
  pub offers : stand_offer shape by (scene.state.stands by) choice ≡ Some offered
  pub then : Scene R shape next
  pub is : then.state ≡ state_after shape scene.state by choice told offered.op (seen offered.op scene.state.memory)
  pub at : ℕ
  pub own : answers_of by next.locals ≡ answered (answers_of by m.locals) at (stand_change shape by (scene.state.stands by) choice told (seen offered.op scene.state.memory)).answer
  pub others : (other : ℕ) → other ≢ by → answers_of other next.locals ≡ answers_of other m.locals

-- a pass of the region has a local state, which is where it stands
pub aside-in : (shape : Layout) (m : Machine) (s : S.State) (pass : ℕ) → Backs shape anywhere m.row m.locals s → OthersAside pass m.locals → AsideIn shape pass s
aside-in shape m s pass backs aside other within apart = elim (slice_get_cases m.locals other).1 [
  | inl here ↦ subst StandsAside (sym (backs.same other here.0 here.2)) (aside other here.0 apart here.2)
  | inr past ↦ absurd (let count : length m.locals ≡ shape.passes = backs.count in omega (arith, past.0))
]

module _ (R : S.State → Type 0) (shape : Layout) (valid : IsShape shape) (keeps : IsKept shape anywhere R) (m : Machine) (scene : Scene R shape m) (by : ℕ) (choice : Choice) (next : Machine) (step : Steps shape m by choice next) where
  op : Op
  op = step.offered.op

  abbrev shows : Word
  shows = row_shows shape step.offered.op m.row

  abbrev l' : Local
  l' = after shape by step.local choice step.told shows

  inside : by < shape.passes
  inside = let count : length m.locals ≡ shape.passes = scene.backs.count in omega (arith, slice_get_within m.locals by step.local step.here)

  at : scene.state.stands by ≡ step.local.stand
  at = scene.backs.same by step.local step.here

  may : stand_offer shape by (scene.state.stands by) choice ≡ Some step.offered
  may = ap (λ (k : Stand). stand_offer shape by k choice) at ∙ step.offers

  mir : IsMirrored shape anywhere m.row scene.state.memory step.offered.op
  mir = mirrored shape anywhere m.row scene.state.memory step.offered.op valid scene.backs.mirrors (keeps.fits scene.state by choice step.offered inside scene.rule may)

  changed-to : (stepped shape m by step.local choice step.told step.offered.op).locals ≡ slice_set m.locals by l'
  changed-to = refl

  own-answers : answers_of by (slice_set m.locals by l') ≡ answered (answers_of by m.locals) (length l'.log) (stand_change shape by (scene.state.stands by) choice step.told (seen step.offered.op scene.state.memory)).answer
  own-answers =
      let new : answers_of by (slice_set m.locals by l') ≡ l'.answers = ap (λ (x : Option Local). option_map_or (λ l. l.answers) x []) (get-set_same m.locals by step.local l' step.here) in
      let old : answers_of by m.locals ≡ step.local.answers = ap (λ (x : Option Local). option_map_or (λ l. l.answers) x []) step.here in
      new ∙ (ap (λ (xs : List Answer). answered xs (length l'.log) (stand_change shape by step.local.stand choice step.told shows).answer) (sym old)
      ∙ (ap (λ (k : Stand). answered (answers_of by m.locals) (length l'.log) (stand_change shape by k choice step.told shows).answer) (sym at)
      ∙ ap (λ (w : Word). answered (answers_of by m.locals) (length l'.log) (stand_change shape by (scene.state.stands by) choice step.told w).answer) (mir.shows refl)))

  -- each step of the machine is one of the scene
  pub follows : Follows R shape m scene by choice next
  follows = subst (λ (k : Machine). Follows R shape m scene by choice k) (sym step.leads) (record {
    offered = step.offered;
    told = step.told;
    within = inside;
    offers = may;
    then = record {
      state = state_after shape scene.state by choice step.told step.offered.op shows;
      backs = backs_step shape anywhere valid m by choice step.local step.told step.offered.op scene.state scene.backs step.here mir;
      rule = keeps.kept scene.state by choice step.offered step.told shows inside scene.rule may mir.shows;
    };
    is = ap (λ (w : Word). state_after shape scene.state by choice step.told step.offered.op w) (mir.shows refl);
    at = length l'.log;
    own = own-answers;
    others = λ other apart. ap (λ (x : Option Local). option_map_or (λ l. l.answers) x []) (get-set_other m.locals by other l' apart);
  })
