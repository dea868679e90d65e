-- What each step of an advance and of a begin keeps, while the others stand aside.
use Rattle.std.proofs.Common.{◌≡◌, ℕ, ◌+◌, ◌*◌, ◌<◌, ◌==◌, Bool, true, false, Option, Some, None, refl, sym, ap, ◌∙◌, subst}
use Rattle.std.specs.Prelude.{IfSome, nat_lt, nat_le, length, if◌then◌else◌}
use Rattle.std.proofs.lemmas.Bool.{cond_both}
use Rattle.smc_words.specs.declared.number.Number.{Number}
use Rattle.smc_words.specs.declared.round.RoundWord.{RoundWord}
use Rattle.smc_shape.specs.Layout.{Layout, slots_of}
use Rattle.smc_shape.specs.declared.coll.TheConstants.{BLOCK_SLOTS}
use Rattle.smc_shape.specs.declared.place.Place.TheVariants as place
use Rattle.smc_model.specs.World.{World}
use Rattle.smc_core.specs.declared.call.Call.TheVariants as call
use Rattle.smc_core.specs.declared.call.Choice.TheVariants.{Start, Go}
use Rattle.smc_core.specs.declared.change.Change.{Change}
use Rattle.smc_core.specs.declared.done.Done.{Done}
use Rattle.smc_core.specs.declared.done.Done.TheVariants as done
use Rattle.smc_core.specs.declared.local.Opening.{Opening}
use Rattle.smc_core.specs.declared.local.Owned.{Owned}
use Rattle.smc_core.specs.declared.phase.Phase.{Phase}
use Rattle.smc_core.specs.declared.phase.Phase.TheVariants as phase
use Rattle.smc_core.specs.declared.phase.moves.BeginPhase.{BeginPhase}
use Rattle.smc_core.specs.declared.phase.moves.BeginPhase.TheVariants as begin
use Rattle.smc_core.specs.declared.phase.moves.Count.{Count}
use Rattle.smc_core.specs.declared.phase.moves.CountPhase.{CountPhase}
use Rattle.smc_core.specs.declared.phase.moves.CountPhase.TheVariants as walk
use Rattle.smc_core.specs.declared.phase.moves.Counting.TheVariants.{Walks, Counted}
use Rattle.smc_core.specs.declared.phase.moves.Counting.{Counting}
use Rattle.smc_core.specs.declared.phase.moves.Walk.{Walk}
use Rattle.smc_core.specs.declared.section.Section.{Section}
use Rattle.smc_core.specs.declared.section.Section.TheVariants.{Outside, Inside}
use Rattle.smc_core.specs.declared.section.TheConstants.{LAST_EPOCH}
use Rattle.smc_core.specs.declared.word.State.TheVariants as state
use Rattle.smc_core.specs.declared.word.Word.{Word}
use Rattle.smc_core.specs.declared.word.Word.TheVariants as word
use Rattle.smc_core.specs.Begin.{begin_change, begin_counted, begin_counting, begin_offer, first_walk, is_source, past_target, round_offer, round_seen, source_owner, to_source, to_target, with_move}
use Rattle.smc_core.specs.Change.{advance_next, section_seen}
use Rattle.smc_core.specs.Count.{blocks_for, counting, is_valid, with_object, count_next, count_owner}
use Rattle.smc_core.specs.Local.{round_after, round_begun}
use Rattle.smc_core.specs.Ripe.{is_ripe_slot}
use Rattle.smc_core.specs.Section.{epoch_of}
use Rattle.smc_core.specs.Step.{goes, ends, when}
use Rattle.smc_core.specs.Words.{back_of, dir_of, has_object_at, plain_of, round_of, same_word, state_of}
use Rattle.smc_rules.specs.Memory.{Memory, apply, seen}
use Rattle.smc_rules.specs.EpochAgreement.{word_of_section}
use Rattle.smc_rules.specs.Reads.{announced_by, round_in}
use Rattle.smc_rules.specs.State as S
use Rattle.smc_rules.proofs.CarryLaws.{by_pass}
use Rattle.smc_aside.proofs.Runs.{Saying, IsStable, IsKeptBy, Carries}
use Rattle.smc_aside.proofs.Scenes.{AsideIn}
use Rattle.smc_aside.proofs.Waiting.{AfterChange, TellsEpochs}
use Rattle.smc_packing.proofs.Known.{Known, known-epochs}
use Rattle.smc_refine.proofs.OwnSteps.{is_some}
use Rattle.smc_alone.specs.Calm.{IsCalm}

-- an advance stays outside, and is not held back
abbrev CalmPart : Section → Phase → Option Done → Type 0
CalmPart section phase.Idle None = Unit {0}
CalmPart Outside (phase.Advancing from other) None = Unit {0}
CalmPart Outside (phase.Ready from) None = Unit {0}
CalmPart section phase.Idle (Some answer) = IsCalm 0 false answer
CalmPart _ _ _ = ⊥

abbrev pub Calmly : Saying
Calmly memory world section owned next answer = CalmPart section next answer

calm-idle : (memory : Memory) (world : World) (section : Section) (owned : Option Owned) (next : Phase) (answer : Done) → Calmly memory world section owned next (Some answer) → next ≡ phase.Idle
calm-idle memory world section owned next answer p = go section next p
  where
    go : (section : Section) (next : Phase) → CalmPart section next (Some answer) → next ≡ phase.Idle
    go section phase.Idle k = refl
    go Outside (phase.Advancing from other) k = absurd k
    go Outside (phase.Ready from) k = absurd k
    go section next k = absurd k

module _ (opening : Opening) (shape : Layout) (pass : ℕ) where
  -- where the others stand aside and the pass is outside, no section word announces a section
  none-lasts : (s : S.State) → TellsEpochs shape s → AsideIn shape pass s → (s.stands pass).section ≡ Outside → (k : ℕ) → k < shape.passes → announced_by s.memory k ≡ 0
  none-lasts s e aside out k lt = e.agrees.own_word k lt ∙ ap word_of_section (by_pass k pass (λ is. ap (λ (i : ℕ). (s.stands i).section) is ∙ out) (λ ne. (aside k lt ne).outside))

  onward : (memory : Memory) (world : World) (owned : Option Owned) (from other : ℕ) → AfterChange Calmly memory world Outside owned (goes (advance_next shape from other))
  onward memory world owned from other = cond_both (nat_lt other shape.passes) (phase.Advancing from other) (phase.Ready from) (λ n. CalmPart Outside n None) (λ t. tt) (λ n. tt)

  calm-starts : IsKeptBy Calmly (Known opening shape) shape pass (Start call.Advance)
  calm-starts s e aside within Outside owned phase.Idle at_sec at_round at_call p = λ told.
      cond_both (plain_of (s.memory place.Epoch) == LAST_EPOCH) (ends done.Spent) (goes (advance_next shape (plain_of (s.memory place.Epoch)) 0)) (AfterChange Calmly s.memory s.world Outside owned)
      (λ t. tt) (λ n. onward s.memory s.world owned (plain_of (s.memory place.Epoch)) 0)
  calm-starts s e aside within section owned phase.Idle at_sec at_round at_call p = tt
  calm-starts s e aside within section owned next at_sec at_round at_call p = tt

  calm-goes : IsKeptBy Calmly (Known opening shape) shape pass Go
  calm-goes s e aside within section owned phase.Idle at_sec at_round at_call p = tt
  calm-goes s r aside within Outside owned (phase.Advancing from other) at_sec at_round at_call p = λ told.
      let e : TellsEpochs shape s = known-epochs opening shape s r in
      subst (λ (v : ℕ). AfterChange Calmly s.memory s.world Outside owned (section_seen shape from other v)) (sym (none-lasts s e aside at_sec other (e.agrees.next_pass pass from other within at_call)))
      (onward s.memory s.world owned from (other + 1))
  calm-goes s r aside within Outside owned (phase.Ready from) at_sec at_round at_call p = λ told.
      cond_both (plain_of (s.memory place.Epoch) == from) (ends (done.Advanced (from + 1))) (ends (done.Overtaken (plain_of (s.memory place.Epoch)))) (λ c. CalmPart Outside c.phase c.answer) (λ t. tt) (λ n. tt)
  calm-goes s e aside within section owned next at_sec at_round at_call p = absurd p

  pub calm-carries : Carries Calmly (Known opening shape) shape pass call.Advance
  calm-carries = record { stable = λ memory op world section owned next answer quiet p. p; idle = calm-idle; starts = calm-starts; goes = calm-goes }

-- a begin meets no round but the one that the pass had at its start
abbrev BeginPart : ℕ → Bool → Phase → Option Done → Type 0
BeginPart pass owns (phase.Begin next) None = Unit {0}
BeginPart pass owns phase.Idle (Some answer) = IsCalm pass owns answer
BeginPart pass owns _ _ = ⊥

abbrev FreePart : ℕ → Bool → Option Owned → Phase → Option Done → Type 0
FreePart pass owns owned phase.Idle None = is_some owned ≡ owns
FreePart pass owns owned next answer = BeginPart pass owns next answer

abbrev pub Freely : ℕ → Bool → Saying
Freely pass owns memory world section owned next answer = FreePart pass owns owned next answer

module _ (shape : Layout) (pass : ℕ) (owns : Bool) where
  abbrev So : Change → Type 0
  So c = BeginPart pass owns c.phase c.answer

  either : (b : Bool) (x y : Change) → So x → So y → So (if b then x else y)
  either true x y here there = here
  either false x y here there = there

  count_next-at : (coll slot : ℕ) (count : Count) (P : Counting → Type 0) → ((after : CountPhase) → P (Walks after)) → ((of : ℕ) (all : Count) → P (Counted of all)) → P (count_next shape coll slot count)
  count_next-at coll slot count P walks counted = go (nat_lt (slot + 1) (slots_of shape coll))
    where
      go : (b : Bool) → P (if b then Walks (walk.Directory coll (slot + 1) count) else Counted coll count)
      go true = walks (walk.Directory coll (slot + 1) count)
      go false = counted coll count

  counting-at : (next : CountPhase) (w : Word) (P : Counting → Type 0) → ((after : CountPhase) → P (Walks after)) → ((of : ℕ) (all : Count) → P (Counted of all)) → P (counting shape next w)
  counting-at (walk.Directory coll slot count) w P walks counted = go (is_valid (dir_of w))
    where
      go : (b : Bool) → P (if b then Walks (walk.Back coll slot count) else count_next shape coll slot count)
      go true = walks (walk.Back coll slot count)
      go false = count_next-at coll slot count P walks counted
  counting-at (walk.Back coll slot count) w P walks counted = go (back_of w)
    where
      go : (owner : Option Number) → P (count_owner shape coll slot count owner)
      go None = count_next-at coll slot count P walks counted
      go (Some number) = walks (walk.Entry coll slot count number)
  counting-at (walk.Entry coll slot count number) w P walks counted =
      count_next-at coll slot (if has_object_at number.incarnation slot (state_of w) then with_object slot count else count) P walks counted

  source-on : (epoch : ℕ) (moves : Walk) → So (to_source shape epoch moves)
  source-on epoch moves = either (nat_lt moves.source (slots_of shape moves.coll)) _ _ tt tt

  target-on : (epoch : ℕ) (moves : Walk) (number : Number) → So (to_target epoch moves number)
  target-on epoch moves number = either (nat_lt moves.target moves.kept) _ _ tt tt

  counted-on : (epoch coll : ℕ) (all : Count) → So (begin_counted shape epoch coll all)
  counted-on epoch coll all =
      either (nat_le all.blocks (blocks_for all.objects)) (goes (phase.Begin (begin.Nothing coll))) (to_source shape epoch (first_walk coll (blocks_for all.objects * BLOCK_SLOTS))) tt (source-on epoch (first_walk coll (blocks_for all.objects * BLOCK_SLOTS)))

  begin-on : (epoch : ℕ) (next : BeginPhase) (w : Word) → So (begin_change shape epoch next w)
  begin-on epoch (begin.Count next) w = counting-at next w (λ k. So (begin_counting shape epoch k)) (λ after. tt) (λ of all. counted-on epoch of all)
  begin-on epoch (begin.Nothing coll) w = tt
  begin-on epoch (begin.SourceDirectory moves) w = either (is_valid (dir_of w)) _ _ tt (source-on epoch (record moves { source = moves.source + 1 }))
  begin-on epoch (begin.SourceBack moves) w = go (back_of w)
    where
      go : (owner : Option Number) → So (source_owner shape epoch moves owner)
      go None = source-on epoch (record moves { source = moves.source + 1 })
      go (Some number) = tt
  begin-on epoch (begin.SourceEntry moves number) w = either (is_source number moves.source (state_of w)) _ _ (target-on epoch moves number) (source-on epoch (record moves { source = moves.source + 1 }))
  begin-on epoch (begin.TargetDirectory moves number) w = either (is_ripe_slot epoch (dir_of w)) _ _ tt (target-on epoch (past_target moves) number)
  begin-on epoch (begin.ClaimTarget moves number seen) w = either (same_word w (word.Directory seen)) _ _ tt (target-on epoch (past_target moves) number)
  begin-on epoch (begin.BlankField moves number field) w = tt
  begin-on epoch (begin.StoreBack moves number) w = tt
  begin-on epoch (begin.StoreForward moves number) w = tt
  begin-on epoch (begin.StoreIncoming moves number) w = tt
  begin-on epoch (begin.Freeze moves number) w =
      either (same_word w (word.Entry (state.Present number.incarnation moves.source))) _ _ (source-on epoch (record (with_move (past_target moves)) { source = moves.source + 1 })) tt
  begin-on epoch (begin.GiveUp moves) w = source-on epoch (record (past_target moves) { source = moves.source + 1 })

  lift : (owned : Option Owned) (next : Phase) (answer : Option Done) → BeginPart pass owns next answer → FreePart pass owns owned next answer
  lift owned (phase.Begin next) None k = k
  lift owned phase.Idle (Some answer) k = k
  lift owned phase.Idle None k = absurd k
  lift owned next answer k = absurd k

  free-stable : IsStable (Freely pass owns)
  free-stable memory op world section owned next answer quiet p = p

  free-idle : (memory : Memory) (world : World) (section : Section) (owned : Option Owned) (next : Phase) (answer : Done) → Freely pass owns memory world section owned next (Some answer) → next ≡ phase.Idle
  free-idle memory world section owned next answer p = go next p
    where
      go : (next : Phase) → FreePart pass owns owned next (Some answer) → next ≡ phase.Idle
      go phase.Idle k = refl
      go next k = absurd k

  module _ (opening : Opening) where
    -- the round that is seen is the pass's own
    own-round : (s : S.State) → Known opening shape s → AsideIn shape pass s → (owned : Option Owned) → (s.stands pass).round ≡ owned → is_some owned ≡ owns
        → (round : RoundWord) → round_in s.memory ≡ Some round → (round.pass ≡ pass) × (owns ≡ true)
    own-round s k aside owned at same round is =
        let owner = k.all.whole.rounds.rule.names_owner.owner round is in
        by_pass round.pass pass
        (λ e. (e, sym same ∙ ap is_some (sym at ∙ (ap (λ (i : ℕ). (s.stands i).round) (sym e) ∙ owner.1))))
        (λ apart. absurd (let its = owner.1 in let lacks = (aside round.pass owner.0 apart).no_round in cc))

    free-starts : (coll : ℕ) → IsKeptBy (Freely pass owns) (Known opening shape) shape pass (Start (call.Begin coll))
    free-starts coll s k aside within (Inside x calm) owned phase.Idle at_sec at_round at_call p = may (nat_lt coll (length shape.colls))
      where
        sees : (round : Option RoundWord) → round_in s.memory ≡ round → (now : Option Owned) → FreePart pass owns now (round_seen coll round).phase (round_seen coll round).answer
        sees None is now = tt
        sees (Some round) is now = own-round s k aside owned at_round p round is

        may : (b : Bool) → IfSome (when b (round_offer pass x coll)) (λ o. (told : ℕ)
            → AfterChange (Freely pass owns) (apply o.op s.memory) s.world (Inside x calm) (round_begun x coll (round_of (seen o.op s.memory)) owned) (round_seen coll (round_of (seen o.op s.memory))))
        may true = λ told. sees (round_in s.memory) refl (round_begun x coll (round_in s.memory) owned)
        may false = tt
    free-starts coll s k aside within section owned phase.Idle at_sec at_round at_call p = tt
    free-starts coll s k aside within section owned next at_sec at_round at_call p = tt

    free-goes : IsKeptBy (Freely pass owns) (Known opening shape) shape pass Go
    free-goes s k aside within section owned phase.Idle at_sec at_round at_call p = tt
    free-goes s k aside within section owned (phase.Begin next) at_sec at_round at_call p = λ told. gone next (seen (begin_offer (epoch_of section) next).op s.memory)
      where
        gone : (next : BeginPhase) → (w : Word) → FreePart pass owns (round_after owned section (phase.Begin next) Go w) (begin_change shape (epoch_of section) next w).phase (begin_change shape (epoch_of section) next w).answer
        gone next w = lift (round_after owned section (phase.Begin next) Go w) (begin_change shape (epoch_of section) next w).phase (begin_change shape (epoch_of section) next w).answer (begin-on (epoch_of section) next w)
    free-goes s k aside within section owned next at_sec at_round at_call p = absurd p

    pub free-carries : (coll : ℕ) → Carries (Freely pass owns) (Known opening shape) shape pass (call.Begin coll)
    free-carries coll = record { stable = free-stable; idle = free-idle; starts = free-starts coll; goes = free-goes }
