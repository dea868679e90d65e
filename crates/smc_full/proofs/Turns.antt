-- Where calls leave a pass that works while the others stand aside: free outside sections, or idle in one.
use Rattle.std.proofs.Common.{◌≡◌, ℕ, ◌+◌, ◌<◌, ◌≤◌, Bool, Option, Some, None, List, refl, sym, ap, ◌∙◌, subst}
use Rattle.smc_words.specs.declared.round.RoundWord.{RoundWord}
use Rattle.smc_shape.specs.Layout.{Layout, IsShape}
use Rattle.smc_core.specs.declared.call.Call.TheVariants as call
use Rattle.smc_core.specs.declared.done.Done.{Done}
use Rattle.smc_core.specs.declared.local.Opening.{Opening}
use Rattle.smc_core.specs.declared.local.Owned.{Owned}
use Rattle.smc_core.specs.declared.section.Section.{Section}
use Rattle.smc_core.specs.declared.section.Section.TheVariants.{Inside}
use Rattle.smc_core.specs.Machine.{Machine}
use Rattle.smc_core.specs.Section.{epoch_of}
use Rattle.smc_rules.specs.Reads.{epoch_of_region, round_in}
use Rattle.smc_rules.specs.State.{State}
use Rattle.smc_rules.proofs.CarryLaws.{by_pass}
use Rattle.smc_aside.specs.Aside.{IsResting}
use Rattle.smc_aside.specs.Makes.{Makes}
use Rattle.smc_aside.proofs.Moments.{IsMoment, IsFree, Then, calls}
use Rattle.smc_aside.proofs.Scenes.{AsideIn, aside-in}
use Rattle.smc_aside.proofs.Sections as sections
use Rattle.smc_aside.proofs.Sections.{Left, Entered, SinceThen, now}
use Rattle.smc_aside.proofs.Stillness.{Still}
use Rattle.smc_aside.proofs.Waiting.{Advancing, advanced-out, advanced-on}
use Rattle.smc_inv_use.specs.Rest.{IsAtRest}
use Rattle.smc_inv_use.proofs.EpochsTold.{tells-epochs}
use Rattle.smc_inv_use.proofs.Used.{Used, used-kept}
use Rattle.smc_full.specs.Full.{Calls, AdvancesOnce}
use Rattle.smc_full.proofs.Adds.{Told, Adding, add-carries}

module _ (opening : Opening) (shape : Layout) (valid : IsShape shape) (start : List ℕ) (pass : ℕ) where
  -- the pass stands free outside sections
  abbrev pub IsOut : Machine → Type 0
  IsOut m = IsFree (Used opening shape) shape start pass m

  -- or idle in a section at this epoch, without a round
  pub record IsIn (m : Machine) : Type 0 where
    pub moment : IsMoment (Used opening shape) shape start pass m
    pub epoch : ℕ
    pub calm : Bool
    pub inside : (moment.scene.state.stands pass).section ≡ Inside epoch calm
    pub no_round : (moment.scene.state.stands pass).round ≡ None

  -- it begins a section
  pub record Begins (m last : Machine) (out : IsOut m) : Type 0 where
    pub now : IsIn last
    pub same : Still out.moment.scene.state.memory now.moment.scene.state.memory
    pub from : epoch_of_region out.moment.scene.state.memory ≤ now.epoch

  pub begins : (m last : Machine) (out : IsOut m) → Calls shape pass call.Enter m last → Begins m last out
  begins m last out (answer, makes) =
      let s : State = out.moment.scene.state in
      let at : SinceThen (Used opening shape) shape start pass out.moment m = now (Used opening shape) shape start pass m out.moment in
      let e : Entered (Used opening shape) shape start pass s.memory s.world (s.stands pass).round (epoch_of_region s.memory) last =
      sections.enters (Used opening shape) shape valid (used-kept opening shape valid) start pass s.memory s.world (s.stands pass).round (epoch_of_region s.memory) m last answer at at.same.epoch makes in record {
        now = record { moment = e.still.moment; epoch = e.inside.0; calm = e.inside.1; inside = e.inside.2; no_round = e.still.same.round ∙ out.no_round };
        same = e.still.same.still;
        from = subst (λ (x : Section). epoch_of_region s.memory ≤ epoch_of x) e.inside.2 e.above;
      }

  -- it tries to add an object
  pub record Tries (coll : ℕ) (m last : Machine) (answer : Done) (in_it : IsIn m) : Type 0 where
    pub now : IsIn last
    pub told : Told shape in_it.epoch in_it.moment.scene.state.memory coll answer now.moment.scene.state.memory

  pub tries : (coll from : ℕ) (words : List ℕ) (m last : Machine) (answer : Done) (i : IsIn m) → Makes shape pass (call.Add coll from words) answer m last → Tries coll m last answer i
  tries coll from words m last answer i makes =
      let s : State = i.moment.scene.state in
      let t : Then (Used opening shape) shape start pass (Adding shape i.epoch i.calm s.memory coll) last answer =
      calls (Used opening shape) shape valid (used-kept opening shape valid) start pass (Adding shape i.epoch i.calm s.memory coll) (call.Add coll from words)
      (add-carries opening shape pass s.memory coll from words i.epoch i.calm) m last answer i.moment makes (record { inside = i.inside; no_round = i.no_round; part = λ there is. refl }) in record {
        now = record { moment = t.moment; epoch = i.epoch; calm = i.calm; inside = t.says.inside; no_round = t.says.no_round };
        told = t.says.part;
      }

  -- it ends its section
  pub record Ends (m last : Machine) (i : IsIn m) : Type 0 where
    pub now : IsOut last
    pub same : Still i.moment.scene.state.memory now.moment.scene.state.memory

  pub ends : (m last : Machine) (i : IsIn m) → Calls shape pass call.Leave m last → Ends m last i
  ends m last i (answer, makes) =
      let s : State = i.moment.scene.state in
      let l : Left (Used opening shape) shape start pass s.memory s.world (s.stands pass).round last =
      sections.leaves (Used opening shape) shape valid (used-kept opening shape valid) start pass s.memory s.world (s.stands pass).round m last answer (now (Used opening shape) shape start pass m i.moment) makes in record {
        now = record { moment = l.still.moment; outside = l.outside; no_round = l.still.same.round ∙ i.no_round };
        same = l.still.same.still;
      }

  -- it advances the epoch
  pub record MovesOn (m last : Machine) (out : IsOut m) : Type 0 where
    pub now : IsOut last
    pub same : Still out.moment.scene.state.memory now.moment.scene.state.memory
    pub higher : epoch_of_region out.moment.scene.state.memory + 1 ≤ epoch_of_region now.moment.scene.state.memory

  pub moves_on : (m last : Machine) (out : IsOut m) → AdvancesOnce shape pass m last → MovesOn m last out
  moves_on m last out (answer, unspent, makes) =
      let s : State = out.moment.scene.state in
      let r : Option Owned = (s.stands pass).round in
      let t : Then (Used opening shape) shape start pass (Advancing s.memory s.world r) last answer =
      sections.advances-once (Used opening shape) shape valid (used-kept opening shape valid) start pass s.memory s.world r (λ z u. tells-epochs opening shape z u.everything) answer m last
      (now (Used opening shape) shape start pass m out.moment) makes in
      let z : State = t.moment.scene.state in record {
        now = record { moment = t.moment; outside = advanced-out s.memory s.world r z.memory (z.stands pass).section answer t.says.part; no_round = t.says.same.round ∙ out.no_round };
        same = t.says.same.still;
        higher = advanced-on s.memory s.world r z.memory (z.stands pass).section answer t.says.part unspent;
      }

  -- while it is idle the region is at rest
  pub at_rest : (m : Machine) (i : IsIn m) → IsAtRest shape i.moment.scene.state
  at_rest m i = record { resting = resting; no_round = go (round_in s.memory) refl }
    where
      s : State
      s = i.moment.scene.state

      aside : AsideIn shape pass s
      aside = aside-in shape m s pass i.moment.scene.backs i.moment.aside

      resting : (other : ℕ) → other < shape.passes → IsResting (s.stands other).phase
      resting other lt = by_pass other pass (λ e. subst IsResting (sym (ap (λ (j : ℕ). (s.stands j).phase) e ∙ i.moment.idle)) tt) (λ ne. (aside other lt ne).resting)

      roundless : (other : ℕ) → other < shape.passes → (s.stands other).round ≡ None
      roundless other lt = by_pass other pass (λ e. ap (λ (j : ℕ). (s.stands j).round) e ∙ i.no_round) (λ ne. (aside other lt ne).no_round)

      go : (round : Option RoundWord) → round_in s.memory ≡ round → round_in s.memory ≡ None
      go None e = e
      go (Some round) e =
          let (lt, owns) = i.moment.scene.rule.everything.whole.rounds.rule.names_owner.owner round e in
          absurd (let no : None ≡ Some _ = sym (roundless round.pass lt) ∙ owns in cc)
