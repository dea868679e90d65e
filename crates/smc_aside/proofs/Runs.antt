-- What holds of a call that a pass makes undisturbed, from its first step to its answer.
use Rattle.std.proofs.Common.{◌≡◌, ◌≢◌, ℕ, zero, suc, ◌<◌, Bool, cond, Option, Some, None, List, [], ◌∷◌, ◌++◌, length, append-nil, refl, sym, ap, ◌∙◌, subst, inl, inr}
use Rattle.std.specs.Prelude.{IfSome, replicate}
use Rattle.std.specs.Option.{option_map_or}
use Rattle.std.proofs.lemmas.Bool.{eq-eqb, ne_eqb}
use Rattle.std.proofs.lemmas.List.{append_cancel_left}
use Rattle.smc_shape.specs.Layout.{Layout, IsShape}
use Rattle.smc_model.specs.declared.event.Event.{Event}
use Rattle.smc_model.specs.World.{World}
use Rattle.smc_core.specs.declared.call.Call.{Call}
use Rattle.smc_core.specs.declared.call.Choice.{Choice}
use Rattle.smc_core.specs.declared.call.Choice.TheVariants.{Start, Go}
use Rattle.smc_core.specs.declared.done.Done.{Done}
use Rattle.smc_core.specs.declared.local.Answer.{Answer}
use Rattle.smc_core.specs.declared.local.Local.{Local}
use Rattle.smc_core.specs.declared.local.Owned.{Owned}
use Rattle.smc_core.specs.declared.local.Stand.{Stand}
use Rattle.smc_core.specs.declared.op.Offer.{Offer}
use Rattle.smc_core.specs.declared.op.Op.{Op}
use Rattle.smc_core.specs.declared.phase.Phase.{Phase}
use Rattle.smc_core.specs.declared.phase.Phase.TheVariants as phase
use Rattle.smc_core.specs.declared.section.Section.{Section}
use Rattle.smc_core.specs.declared.word.Word.{Word}
use Rattle.smc_core.specs.Change.{change}
use Rattle.smc_core.specs.Local.{answered, section_after, round_after}
use Rattle.smc_core.specs.Machine.{Machine, Steps, Leads}
use Rattle.smc_core.specs.Offer.{offer}
use Rattle.smc_rules.specs.Memory.{Memory, apply, seen}
use Rattle.smc_rules.specs.Mirror.{anywhere}
use Rattle.smc_rules.specs.State as S
use Rattle.smc_rules.specs.State.{IsKept, world_told, put_stand, stand_change, stand_then, state_after}
use Rattle.smc_rules.proofs.CarryLaws.{by_pass, put_stand-same, put_stand-other}
use Rattle.smc_aside.specs.Aside.{OthersAside, IsAsideChoice, IsUndisturbed, StandsAside}
use Rattle.smc_aside.specs.Makes.{own_choices, HasAnswered, Makes}
use Rattle.smc_aside.proofs.AsideLaws.{others-aside}
use Rattle.smc_aside.proofs.Scenes.{Scene, Follows, AsideIn, answers_of, aside-in, follows}
use Rattle.smc_aside.proofs.Stillness.{IsQuiet, IsQuietStep, quiet_step}

-- what is said of a pass that works alone: of the memory, the world, its section, its round, its call, and the answer if the call has ended
abbrev pub Saying : Type 1
Saying = Memory → World → Section → Option Owned → Phase → Option Done → Type 0

-- it is said of this pass in the state
abbrev pub Says : Saying → ℕ → S.State → Option Done → Type 0
Says P pass s answer = P s.memory s.world (s.stands pass).section (s.stands pass).round (s.stands pass).phase answer

-- it stays through the steps of others
abbrev pub IsStable : Saying → Type 0
IsStable P = (memory : Memory) (op : Op) (world : World) (section : Section) (owned : Option Owned) (next : Phase) (answer : Option Done)
    → IsQuiet op → P memory world section owned next answer → P (apply op memory) world section owned next answer

-- it holds after a step of the pass, where it stands here and makes this call
abbrev pub HoldsAfter : Saying → Layout → ℕ → S.State → Section → Option Owned → Phase → Choice → Type 0
HoldsAfter P shape pass s section owned next choice = IfSome (offer shape pass (s.stands pass) section next choice) (λ o. (told : ℕ)
    → P (apply o.op s.memory) (world_told s.world (change shape pass (s.stands pass) section next choice told (seen o.op s.memory)).event)
    (section_after section next choice (seen o.op s.memory)) (round_after owned section next choice (seen o.op s.memory))
    (change shape pass (s.stands pass) section next choice told (seen o.op s.memory)).phase (change shape pass (s.stands pass) section next choice told (seen o.op s.memory)).answer)

-- each step of the pass keeps it, from where the rule holds and the call has not ended
abbrev pub IsKeptBy : Saying → (S.State → Type 0) → Layout → ℕ → Choice → Type 0
IsKeptBy P R shape pass choice = (s : S.State) → R s → AsideIn shape pass s → pass < shape.passes
    → (section : Section) (owned : Option Owned) (next : Phase)
    → (s.stands pass).section ≡ section → (s.stands pass).round ≡ owned → (s.stands pass).phase ≡ next
    → P s.memory s.world section owned next None → HoldsAfter P shape pass s section owned next choice

-- what is to be known of a saying so that a call carries it to its end
pub record Carries (P : Saying) (R : S.State → Type 0) (shape : Layout) (pass : ℕ) (call : Call) : Type 0 where
  pub stable : IsStable P
  pub idle : (memory : Memory) (world : World) (section : Section) (owned : Option Owned) (next : Phase) (answer : Done) → P memory world section owned next (Some answer) → next ≡ phase.Idle
  pub starts : IsKeptBy P R shape pass (Start call)
  pub goes : IsKeptBy P R shape pass Go

-- the answers kept are these, and that of the call where it has ended
abbrev HasKept : List Answer → Option Done → List Answer → Type 0
HasKept before None now = now ≡ before
HasKept before (Some answer) now = (at : ℕ) × (now ≡ before ++ record { length = at; done = answer } ∷ [])

kept-more : (before now : List Answer) (at : ℕ) (answer : Option Done) → now ≡ answered before at answer → HasKept before answer now
kept-more before now at None is = is
kept-more before now at (Some answer) is = (at, is)

cons-same : (x y : Answer) → (x ∷ []) ≡ (y ∷ []) → x ≡ y
cons-same x y e = cc

kept-same : (before now : List Answer) (at : ℕ) (d : Option Done) (answer : Done) → HasKept before d now → now ≡ before ++ record { length = at; done = answer } ∷ [] → d ≡ Some answer
kept-same before now at None answer has is =
    let nothing : ◌≡◌ {A = List Answer} [] (record { length = at; done = answer } ∷ []) = append_cancel_left before [] (record { length = at; done = answer } ∷ []) (append-nil before ∙ (sym has ∙ is)) in absurd (cc)
kept-same before now at (Some d) answer has is =
    let same : record { length = has.0; done = d } ≡ record { length = at; done = answer } = cons-same _ _ (append_cancel_left before (record { length = has.0; done = d } ∷ []) (record { length = at; done = answer } ∷ []) (sym has.1 ∙ is)) in
    ap (λ (k : Answer). Some k.done) same

-- a scene of which it is said
pub record Said (P : Saying) (R : S.State → Type 0) (shape : Layout) (pass : ℕ) (m : Machine) (answer : Option Done) : Type 0 where
  pub scene : Scene R shape m
  pub says : Says P pass scene.state answer

module _ (P : Saying) (R : S.State → Type 0) (shape : Layout) (valid : IsShape shape) (keeps : IsKept shape anywhere R) (pass : ℕ) (call : Call) (c : Carries P R shape pass call) where
  abbrev Holds : Machine → Option Done → Type 0
  Holds m answer = Said P R shape pass m answer

  -- after a step of another one
  past-other : (m : Machine) (by : ℕ) (choice : Choice) (next : Machine) (d : Option Done) → Holds m d → Steps shape m by choice next → by ≢ pass → IsAsideChoice choice
      → OthersAside pass m.locals → Holds next d × (answers_of pass next.locals ≡ answers_of pass m.locals)
  past-other m by choice next d said step apart may aside =
      let s : S.State = said.scene.state in
      let f : Follows R shape m said.scene by choice next = follows R shape valid keeps m said.scene by choice next step in
      let stands : StandsAside (s.stands by) = aside-in shape m s pass said.scene.backs aside by f.within apart in
      let w : Word = seen f.offered.op s.memory in
      let quiet : IsQuietStep f.offered.op (stand_change shape by (s.stands by) choice f.told w).event =
      subst (λ (k : Option Offer). IfSome k (λ o. (w : Word) → IsQuietStep o.op (stand_change shape by (s.stands by) choice f.told w).event)) f.offers
      (quiet_step shape by (s.stands by) f.told (s.stands by).section (s.stands by).phase choice stands.outside stands.resting may) w in
      let place : s.stands pass ≡ put_stand s.stands by (stand_then shape by (s.stands by) choice f.told w) pass =
      sym (put_stand-other s.stands by pass (stand_then shape by (s.stands by) choice f.told w) (λ e. apart (sym e))) in
      let memory : P (apply f.offered.op s.memory) s.world (s.stands pass).section (s.stands pass).round (s.stands pass).phase d =
      c.stable s.memory f.offered.op s.world (s.stands pass).section (s.stands pass).round (s.stands pass).phase d quiet.quiet said.says in
      let world : P (apply f.offered.op s.memory) (world_told s.world (stand_change shape by (s.stands by) choice f.told w).event) (s.stands pass).section (s.stands pass).round (s.stands pass).phase d =
      subst (λ (e : Option Event). P (apply f.offered.op s.memory) (world_told s.world e) (s.stands pass).section (s.stands pass).round (s.stands pass).phase d) (sym quiet.silent) memory in
      let all : Says P pass (state_after shape s by choice f.told f.offered.op w) d =
      subst (λ (k : Stand). P (apply f.offered.op s.memory) (world_told s.world (stand_change shape by (s.stands by) choice f.told w).event) k.section k.round k.phase d) place world in
      (record { scene = f.then; says = subst (λ (z : S.State). Says P pass z d) (sym f.is) all }, f.others pass (λ e. apart (sym e)))

  -- after a step of its own
  past-own : (m : Machine) (choice : Choice) (next : Machine) → IsKeptBy P R shape pass choice → Holds m None → Steps shape m pass choice next
      → OthersAside pass m.locals → (d : Option Done) × Holds next d × HasKept (answers_of pass m.locals) d (answers_of pass next.locals)
  past-own m choice next each said step aside =
      let s : S.State = said.scene.state in
      let f : Follows R shape m said.scene pass choice next = follows R shape valid keeps m said.scene pass choice next step in
      let w : Word = seen f.offered.op s.memory in
      let stand : Stand = stand_then shape pass (s.stands pass) choice f.told w in
      let holds : P (apply f.offered.op s.memory) (world_told s.world (stand_change shape pass (s.stands pass) choice f.told w).event) stand.section stand.round stand.phase (stand_change shape pass (s.stands pass) choice f.told w).answer =
      subst (λ (k : Option Offer). IfSome k (λ o. (told : ℕ)
      → P (apply o.op s.memory) (world_told s.world (stand_change shape pass (s.stands pass) choice told (seen o.op s.memory)).event)
      (section_after (s.stands pass).section (s.stands pass).phase choice (seen o.op s.memory)) (round_after (s.stands pass).round (s.stands pass).section (s.stands pass).phase choice (seen o.op s.memory))
      (stand_change shape pass (s.stands pass) choice told (seen o.op s.memory)).phase (stand_change shape pass (s.stands pass) choice told (seen o.op s.memory)).answer)) f.offers
      (each s said.scene.rule (aside-in shape m s pass said.scene.backs aside) f.within (s.stands pass).section (s.stands pass).round (s.stands pass).phase refl refl refl said.says) f.told in
      let place : stand ≡ put_stand s.stands pass stand pass = sym (put_stand-same s.stands pass pass stand refl) in
      let all : Says P pass (state_after shape s pass choice f.told f.offered.op w) (stand_change shape pass (s.stands pass) choice f.told w).answer =
      subst (λ (k : Stand). P (apply f.offered.op s.memory) (world_told s.world (stand_change shape pass (s.stands pass) choice f.told w).event) k.section k.round k.phase (stand_change shape pass (s.stands pass) choice f.told w).answer) place holds in (
        (stand_change shape pass (s.stands pass) choice f.told w).answer,
        record { scene = f.then; says = subst (λ (z : S.State). Says P pass z (stand_change shape pass (s.stands pass) choice f.told w).answer) (sym f.is) all },
        kept-more (answers_of pass m.locals) (answers_of pass next.locals) f.at (stand_change shape pass (s.stands pass) choice f.told w).answer f.own,
      )

  -- a call that has ended does not go on
  no-more : (m : Machine) (next : Machine) (answer : Done) → Holds m (Some answer) → Steps shape m pass Go next → ⊥
  no-more m next answer said step =
      let s : S.State = said.scene.state in
      let f : Follows R shape m said.scene pass Go next = follows R shape valid keeps m said.scene pass Go next step in
      let idle : (s.stands pass).phase ≡ phase.Idle = c.idle s.memory s.world (s.stands pass).section (s.stands pass).round (s.stands pass).phase answer said.says in
      let none : offer shape pass (s.stands pass) (s.stands pass).section phase.Idle Go ≡ Some f.offered = subst (λ (k : Phase). offer shape pass (s.stands pass) (s.stands pass).section k Go ≡ Some f.offered) idle f.offers in cc

  -- the first of several choices is this one
  first-go : (more : ℕ) (first : Choice) (later : List Choice) → first ∷ later ≡ replicate more Go → (first ≡ Go) × ((less : ℕ) × (later ≡ replicate less Go))
  first-go zero first later is = absurd (cc)
  first-go (suc less) first later is = (cc, (less, cc))

  module _ (base : List Answer) (last : Machine) (answer : Done) (at : ℕ) (kept : answers_of pass last.locals ≡ base ++ record { length = at; done = answer } ∷ []) where
    -- the call goes on from here to its end
    abbrev Along : Machine → List (ℕ × Choice) → Type 0
    Along m steps = (d : Option Done) → Holds m d → HasKept base d (answers_of pass m.locals) → (more : ℕ) → own_choices pass steps ≡ replicate more Go → Holds last (Some answer)

    -- once it has begun
    during : (m : Machine) (steps : List (ℕ × Choice)) → Leads shape m steps last → OthersAside pass m.locals → IsUndisturbed pass steps
        → (d : Option Done) → Holds m d → HasKept base d (answers_of pass m.locals) → (more : ℕ) → own_choices pass steps ≡ replicate more Go → Holds last (Some answer)
    during m [] leads aside calm d said has more todo =
        let ended : d ≡ Some answer = kept-same base (answers_of pass last.locals) at d answer (subst (λ (k : Machine). HasKept base d (answers_of pass k.locals)) leads has) kept in
        subst (λ (k : Machine). Holds k (Some answer)) leads (subst (λ (z : Option Done). Holds m z) ended said)
    during m (step ∷ later) (next, taken, leads) aside calm d said has more todo =
        let on : Along next later = λ d said has more todo. during next later leads (others-aside shape pass m next (step ∷ []) aside (calm.0, tt) (next, taken, refl)) calm.1 d said has more todo in
        by_pass step.0 pass (own on) (other on)
      where
        other : Along next later → step.0 ≢ pass → Holds last (Some answer)
        other on apart =
            let may : IsAsideChoice step.1 = elim calm.0 [ inl own ↦ absurd (apart own) | inr may ↦ may ] in
            let past : Holds next d × (answers_of pass next.locals ≡ answers_of pass m.locals) = past-other m step.0 step.1 next d said taken apart may aside in
            on d past.0 (subst (HasKept base d) (sym past.1) has) more
            (sym (ap (λ (b : Bool). cond b (step.1 ∷ own_choices pass later) (own_choices pass later)) (ne_eqb step.0 pass apart)) ∙ todo)

        own : Along next later → step.0 ≡ pass → Holds last (Some answer)
        own on is = go d said has
          where
            now : step.1 ∷ own_choices pass later ≡ replicate more Go
            now = sym (ap (λ (b : Bool). cond b (step.1 ∷ own_choices pass later) (own_choices pass later)) (eq-eqb step.0 pass is)) ∙ todo

            its : (step.1 ≡ Go) × ((less : ℕ) × (own_choices pass later ≡ replicate less Go))
            its = first-go more step.1 (own_choices pass later) now

            goes : Steps shape m pass Go next
            goes = subst (λ (k : Choice). Steps shape m pass k next) its.0 (subst (λ (k : ℕ). Steps shape m k step.1 next) is taken)

            go : (d : Option Done) → Holds m d → HasKept base d (answers_of pass m.locals) → Holds last (Some answer)
            go (Some ended) said has = absurd (no-more m next ended said goes)
            go None said has =
                let past : (d : Option Done) × Holds next d × HasKept (answers_of pass m.locals) d (answers_of pass next.locals) = past-own m Go next c.goes said goes aside in
                on past.0 past.1 (subst (λ (xs : List Answer). HasKept xs past.0 (answers_of pass next.locals)) has past.2) its.1.0 its.1.1

    -- before its first step
    before : (m : Machine) (steps : List (ℕ × Choice)) → Leads shape m steps last → OthersAside pass m.locals → IsUndisturbed pass steps
        → Holds m None → answers_of pass m.locals ≡ base → (more : ℕ) → own_choices pass steps ≡ Start call ∷ replicate more Go → Holds last (Some answer)
    before m [] leads aside calm said has more todo = absurd (cc)
    before m (step ∷ later) (next, taken, leads) aside calm said has more todo =
        let stays : OthersAside pass next.locals = others-aside shape pass m next (step ∷ []) aside (calm.0, tt) (next, taken, refl) in
        by_pass step.0 pass (own (λ d said has more todo. during next later leads stays calm.1 d said has more todo))
        (other (λ said has todo. before next later leads stays calm.1 said has more todo))
      where
        other : (Holds next None → answers_of pass next.locals ≡ base → own_choices pass later ≡ Start call ∷ replicate more Go → Holds last (Some answer)) → step.0 ≢ pass → Holds last (Some answer)
        other on apart =
            let may : IsAsideChoice step.1 = elim calm.0 [ inl own ↦ absurd (apart own) | inr may ↦ may ] in
            let past : Holds next None × (answers_of pass next.locals ≡ answers_of pass m.locals) = past-other m step.0 step.1 next None said taken apart may aside in
            on past.0 (past.1 ∙ has) (sym (ap (λ (b : Bool). cond b (step.1 ∷ own_choices pass later) (own_choices pass later)) (ne_eqb step.0 pass apart)) ∙ todo)

        own : Along next later → step.0 ≡ pass → Holds last (Some answer)
        own on is =
            let now : step.1 ∷ own_choices pass later ≡ Start call ∷ replicate more Go = sym (ap (λ (b : Bool). cond b (step.1 ∷ own_choices pass later) (own_choices pass later)) (eq-eqb step.0 pass is)) ∙ todo in
            let first : step.1 ≡ Start call = cc in
            let rest : own_choices pass later ≡ replicate more Go = cc in
            let starts : Steps shape m pass (Start call) next = subst (λ (k : Choice). Steps shape m pass k next) first (subst (λ (k : ℕ). Steps shape m k step.1 next) is taken) in
            let past : (d : Option Done) × Holds next d × HasKept (answers_of pass m.locals) d (answers_of pass next.locals) = past-own m (Start call) next c.starts said starts aside in
            on past.0 past.1 (subst (λ (xs : List Answer). HasKept xs past.0 (answers_of pass next.locals)) has past.2) more rest

  -- what each step of the call keeps holds at its end, with its answer
  pub said-after : (m last : Machine) (answer : Done) → Makes shape pass call answer m last → OthersAside pass m.locals → Holds m None → Holds last (Some answer)
  said-after m last answer makes aside said =
      let a : HasAnswered m last pass answer = makes.answered in
      let old : answers_of pass m.locals ≡ a.before.answers = ap (λ (x : Option Local). option_map_or (λ l. l.answers) x []) a.here in
      let new : answers_of pass last.locals ≡ a.after.answers = ap (λ (x : Option Local). option_map_or (λ l. l.answers) x []) a.now in
      before a.before.answers last answer (length a.after.log) (new ∙ a.kept) m makes.steps makes.leads aside makes.undisturbed said old makes.more makes.choices
