-- Advances, and how a section begins and ends: nothing changes but the epoch and section words, and the epoch rises as answers say.
use Rattle.std.proofs.Common.{◌≡◌, ◌≢◌, ℕ, ◌+◌, ◌<◌, ◌≤◌, ◌==◌, Bool, true, Option, Some, None, refl, sym, ap, ◌∙◌, subst, arith}
use Rattle.std.specs.Prelude.{IsTrue, nat_lt, if◌then◌else◌}
use Rattle.std.proofs.lemmas.Bool.{cond_both, eqb-false}
use Rattle.smc_shape.specs.Layout.{Layout}
use Rattle.smc_shape.specs.declared.place.Place.{Place}
use Rattle.smc_shape.specs.declared.place.Place.TheVariants as place
use Rattle.smc_model.specs.World.{World}
use Rattle.smc_core.specs.declared.call.Call.TheVariants as call
use Rattle.smc_core.specs.declared.call.Choice.TheVariants.{Start, Go}
use Rattle.smc_core.specs.declared.change.Change.{Change}
use Rattle.smc_core.specs.declared.done.Done.{Done}
use Rattle.smc_core.specs.declared.done.Done.TheVariants as done
use Rattle.smc_core.specs.declared.local.Owned.{Owned}
use Rattle.smc_core.specs.declared.op.Op.{Op}
use Rattle.smc_core.specs.declared.op.Op.TheVariants.{Exchange}
use Rattle.smc_core.specs.declared.phase.Phase.{Phase}
use Rattle.smc_core.specs.declared.phase.Phase.TheVariants as phase
use Rattle.smc_core.specs.declared.section.Section.{Section}
use Rattle.smc_core.specs.declared.section.Section.TheVariants.{Outside, Loaded, Announced, Again, Lasting, Inside}
use Rattle.smc_core.specs.declared.section.TheConstants.{LAST_EPOCH}
use Rattle.smc_core.specs.declared.word.Word.{Word}
use Rattle.smc_core.specs.declared.word.Word.TheVariants as word
use Rattle.smc_core.specs.Change.{advance_next, section_seen}
use Rattle.smc_core.specs.Section.{epoch_of}
use Rattle.smc_core.specs.Step.{goes, ends}
use Rattle.smc_core.specs.Words.{plain_of, same_word}
use Rattle.smc_rules.specs.Memory.{Memory, apply, put_word}
use Rattle.smc_rules.specs.Reads.{epoch_of_region, announced_by}
use Rattle.smc_rules.specs.State as S
use Rattle.smc_rules.specs.State.{world_told}
use Rattle.smc_rules.specs.EpochAgreement.{EpochAgreement, word_of_section}
use Rattle.smc_rules.specs.EpochRule.{EpochRule, advance_from}
use Rattle.smc_rules.proofs.CarryLaws.{by_pass}
use Rattle.smc_aside.proofs.Runs.{Saying, IsStable, IsKeptBy, Carries}
use Rattle.smc_aside.proofs.Scenes.{AsideIn}
use Rattle.smc_aside.proofs.Stillness.{Still, IsQuiet, is_still, quiet-still, quiet-epoch}

-- nothing has changed since but the epoch, which has not fallen, and section words
pub record IsSame (m0 : Memory) (w0 : World) (r0 : Option Owned) (memory : Memory) (world : World) (owned : Option Owned) : Type 0 where
  pub still : Still m0 memory
  pub epoch : epoch_of_region m0 ≤ epoch_of_region memory
  pub in_world : world ≡ w0
  pub round : owned ≡ r0

-- a section that lasts
abbrev pub IsInside : Section → Type 0
IsInside section = (epoch : ℕ) × (calm : Bool) × (section ≡ Inside epoch calm)

-- what a saying says after a change
abbrev pub AfterChange : Saying → Memory → World → Section → Option Owned → Change → Type 0
AfterChange P memory world section owned c = P memory (world_told world c.event) section owned c.phase c.answer

section-still : (memory : Memory) (pass : ℕ) (w : Word) (there : Place) → IsTrue (is_still there) → put_word memory (place.Section pass) w there ≡ memory there
section-still memory pass w place.Epoch is = absurd (cc)
section-still memory pass w (place.Section p) is = absurd (cc)
section-still memory pass w place.Round is = refl
section-still memory pass w (place.Entry c e) is = refl
section-still memory pass w (place.Directory c s) is = refl
section-still memory pass w (place.Back c s) is = refl
section-still memory pass w (place.Forward c s) is = refl
section-still memory pass w (place.Field c s f) is = refl

-- what a rule is to tell of epochs, beside the epoch rule: what section words say, and that the epoch's word is a number
pub record TellsEpochs (shape : Layout) (s : S.State) : Type 0 where
  pub rule : EpochRule shape s
  pub agrees : EpochAgreement shape s
  pub number : s.memory place.Epoch ≡ word.Plain (epoch_of_region s.memory)

-- where the others stand aside and the pass is outside, no section word announces a section
none-lasts : (shape : Layout) (pass : ℕ) (s : S.State) → TellsEpochs shape s → AsideIn shape pass s → (s.stands pass).section ≡ Outside → (k : ℕ) → k < shape.passes → announced_by s.memory k ≡ 0
none-lasts shape pass s e aside out k lt = e.agrees.own_word k lt ∙ ap word_of_section (by_pass k pass (λ is. ap (λ (i : ℕ). (s.stands i).section) is ∙ out) (λ ne. (aside k lt ne).outside))

-- the epoch is moved on where it is the one that was seen
moves-on : (w : Word) (from : ℕ) → w ≡ word.Plain (plain_of w) → (plain_of w == from) ≡ true → plain_of (if same_word w (word.Plain from) then word.Plain (from + 1) else w) ≡ from + 1
moves-on w from is t =
    let hit : same_word w (word.Plain from) ≡ true = ap (λ (v : Word). same_word v (word.Plain from)) is ∙ t in
    ap (λ (b : Bool). plain_of (if b then word.Plain (from + 1) else w)) hit

module _ (m0 : Memory) (w0 : World) (r0 : Option Owned) where
  -- so it is at first
  pub same-first : IsSame m0 w0 r0 m0 w0 r0
  same-first = record { still = λ there is. refl; epoch = omega arith; in_world = refl; round = refl }

  -- after a step of another one
  pub same-quiet : (memory : Memory) (op : Op) (world : World) (owned : Option Owned) → IsQuiet op → IsSame m0 w0 r0 memory world owned → IsSame m0 w0 r0 (apply op memory) world owned
  same-quiet memory op world owned quiet same = record {
    still = quiet-still m0 memory op quiet same.still;
    epoch = let more : epoch_of_region memory ≤ epoch_of_region (apply op memory) = quiet-epoch memory op quiet in omega (arith, same.epoch);
    in_world = same.in_world;
    round = same.round;
  }

  -- after the store of a section word
  same-section : (memory : Memory) (pass : ℕ) (w : Word) (world : World) (owned : Option Owned) → IsSame m0 w0 r0 memory world owned → IsSame m0 w0 r0 (put_word memory (place.Section pass) w) world owned
  same-section memory pass w world owned same = record {
    still = λ there is. section-still memory pass w there is ∙ same.still there is;
    epoch = same.epoch;
    in_world = same.in_world;
    round = same.round;
  }

  -- the epoch that an answer names was reached since, and is not above that of now
  abbrev pub IsNamedSince : ℕ → Done → Type 0
  IsNamedSince now (done.Advanced e) = (epoch_of_region m0 + 1 ≤ e) × (e ≤ now)
  IsNamedSince now (done.Overtaken e) = (epoch_of_region m0 + 1 ≤ e) × (e ≤ now)
  IsNamedSince now _ = Unit {0}

  -- how far an advance has come; unless the epoch is the last one, it ends above that of before
  abbrev pub AdvancePart : Memory → Section → Phase → Option Done → Type 0
  AdvancePart memory section phase.Idle None = Unit {0}
  AdvancePart memory Outside (phase.Advancing from other) None = epoch_of_region m0 ≤ from
  AdvancePart memory Outside (phase.Ready from) None = epoch_of_region m0 ≤ from
  AdvancePart memory Outside phase.Idle (Some answer) = (answer ≢ done.Spent → epoch_of_region m0 + 1 ≤ epoch_of_region memory) × IsNamedSince (epoch_of_region memory) answer
  AdvancePart memory _ _ _ = ⊥

  pub record Advancing (memory : Memory) (world : World) (section : Section) (owned : Option Owned) (next : Phase) (answer : Option Done) : Type 0 where
    pub same : IsSame m0 w0 r0 memory world owned
    pub part : AdvancePart memory section next answer

  named-later : (answer : Done) (now later : ℕ) → now ≤ later → IsNamedSince now answer → IsNamedSince later answer
  named-later (done.Advanced e) now later le is = (is.0, omega (arith, le, is.1))
  named-later (done.Overtaken e) now later le is = (is.0, omega (arith, le, is.1))
  named-later answer now later le is = tt

  advance-stable : IsStable Advancing
  advance-stable memory op world section owned next answer quiet p = record { same = same-quiet memory op world owned quiet p.same; part = part section next answer p.part }
    where
      part : (section : Section) (next : Phase) (answer : Option Done) → AdvancePart memory section next answer → AdvancePart (apply op memory) section next answer
      part section phase.Idle None k = tt
      part Outside (phase.Advancing from other) None k = k
      part Outside (phase.Ready from) None k = k
      part Outside phase.Idle (Some answer) k =
          let later : epoch_of_region memory ≤ epoch_of_region (apply op memory) = quiet-epoch memory op quiet in
          (λ ne. omega (arith, later, k.0 ne), named-later answer (epoch_of_region memory) (epoch_of_region (apply op memory)) later k.1)
      part section next answer k = absurd k

  advance-idle : (memory : Memory) (world : World) (section : Section) (owned : Option Owned) (next : Phase) (answer : Done) → Advancing memory world section owned next (Some answer) → next ≡ phase.Idle
  advance-idle memory world section owned next answer p = go section next p.part
    where
      go : (section : Section) (next : Phase) → AdvancePart memory section next (Some answer) → next ≡ phase.Idle
      go section phase.Idle k = refl
      go Outside (phase.Advancing from other) k = absurd k
      go Outside (phase.Ready from) k = absurd k
      go section next k = absurd k

  module _ (R : S.State → Type 0) (shape : Layout) (tells : (s : S.State) → R s → TellsEpochs shape s) (pass : ℕ) where
    -- an advance that looks at the next section word, or is ready
    onward : (memory : Memory) (world : World) (owned : Option Owned) (from other : ℕ) → IsSame m0 w0 r0 memory world owned → epoch_of_region m0 ≤ from
        → AfterChange Advancing memory world Outside owned (goes (advance_next shape from other))
    onward memory world owned from other same le = record {
      same = same;
      part = cond_both (nat_lt other shape.passes) (phase.Advancing from other) (phase.Ready from) (λ n. AdvancePart memory Outside n None) (λ t. le) (λ n. le);
    }

    advance-starts : IsKeptBy Advancing R shape pass (Start call.Advance)
    advance-starts s e aside within Outside owned phase.Idle at_sec at_round at_call p = λ told.
        cond_both (plain_of (s.memory place.Epoch) == LAST_EPOCH) (ends done.Spent) (goes (advance_next shape (plain_of (s.memory place.Epoch)) 0)) (AfterChange Advancing s.memory s.world Outside owned)
        (λ t. record { same = p.same; part = (λ ne. absurd (ne refl), tt) }) (λ n. onward s.memory s.world owned (plain_of (s.memory place.Epoch)) 0 p.same p.same.epoch)
    advance-starts s e aside within section owned phase.Idle at_sec at_round at_call p = tt
    advance-starts s e aside within section owned next at_sec at_round at_call p = tt

    advance-goes : IsKeptBy Advancing R shape pass Go
    advance-goes s e aside within section owned phase.Idle at_sec at_round at_call p = tt
    advance-goes s r aside within Outside owned (phase.Advancing from other) at_sec at_round at_call p = λ told.
        let e : TellsEpochs shape s = tells s r in
        subst (λ (v : ℕ). AfterChange Advancing s.memory s.world Outside owned (section_seen shape from other v)) (sym (none-lasts shape pass s e aside at_sec other (e.agrees.next_pass pass from other within at_call)))
        (onward s.memory s.world owned from (other + 1) p.same p.part)
    advance-goes s r aside within Outside owned (phase.Ready from) at_sec at_round at_call p = λ told.
        let e : TellsEpochs shape s = tells s r in
        let op : Op = Exchange place.Epoch (word.Plain from) (word.Plain (from + 1)) in
        let seen : ℕ = epoch_of_region s.memory in
        let same : IsSame m0 w0 r0 (apply op s.memory) s.world owned = same-quiet s.memory op s.world owned (omega arith) p.same in
        let within : from ≤ seen = e.rule.advance pass from within (ap advance_from at_call) in
        let later : seen ≤ epoch_of_region (apply op s.memory) = quiet-epoch s.memory op (omega arith) in
        cond_both (seen == from) (ends (done.Advanced (from + 1))) (ends (done.Overtaken seen)) (AfterChange Advancing (apply op s.memory) s.world Outside owned)
        (λ t. let moved : epoch_of_region (apply op s.memory) ≡ from + 1 = moves-on (s.memory place.Epoch) from e.number t in
        record { same = same; part = (λ ne. omega (arith, p.part, moved), (omega (arith, p.part), omega (arith, moved))) })
        (λ n. let apart : seen ≢ from = eqb-false seen from n in record { same = same; part = (λ ne. omega (arith, p.part, apart, within, later), (omega (arith, p.part, apart, within), later)) })
    advance-goes s e aside within section owned next at_sec at_round at_call p = absurd p.part

    pub advance-carries : Carries Advancing R shape pass call.Advance
    advance-carries = record { stable = advance-stable; idle = advance-idle; starts = advance-starts; goes = advance-goes }

  -- what an advance leaves: the pass is outside, the epoch has risen, and what the answer names was reached since
  pub advanced-out : (memory : Memory) (section : Section) (answer : Done) → AdvancePart memory section phase.Idle (Some answer) → section ≡ Outside
  advanced-out memory Outside answer k = refl
  advanced-out memory section answer k = absurd k

  pub advanced-on : (memory : Memory) (section : Section) (answer : Done) → AdvancePart memory section phase.Idle (Some answer) → answer ≢ done.Spent → epoch_of_region m0 + 1 ≤ epoch_of_region memory
  advanced-on memory Outside answer k = k.0
  advanced-on memory section answer k = absurd k

  pub advanced-named : (memory : Memory) (section : Section) (answer : Done) → AdvancePart memory section phase.Idle (Some answer) → IsNamedSince (epoch_of_region memory) answer
  advanced-named memory Outside answer k = k.1
  advanced-named memory section answer k = absurd k

  -- how far the beginning of a section has come
  abbrev pub EnterPart : Section → Phase → Option Done → Type 0
  EnterPart section phase.Idle None = Unit {0}
  EnterPart (Loaded seen) phase.Entering None = Unit {0}
  EnterPart (Announced seen) phase.Entering None = Unit {0}
  EnterPart (Again seen own) phase.Entering None = epoch_of_region m0 ≤ own
  EnterPart (Lasting own) phase.Entering None = epoch_of_region m0 ≤ own
  EnterPart (Inside own calm) phase.Idle (Some answer) = epoch_of_region m0 ≤ own
  EnterPart _ _ _ = ⊥

  pub record Entering (memory : Memory) (world : World) (section : Section) (owned : Option Owned) (next : Phase) (answer : Option Done) : Type 0 where
    pub same : IsSame m0 w0 r0 memory world owned
    pub part : EnterPart section next answer

  enter-idle : (memory : Memory) (world : World) (section : Section) (owned : Option Owned) (next : Phase) (answer : Done) → Entering memory world section owned next (Some answer) → next ≡ phase.Idle
  enter-idle memory world section owned next answer p = go section next p.part
    where
      go : (section : Section) (next : Phase) → EnterPart section next (Some answer) → next ≡ phase.Idle
      go (Inside own calm) phase.Idle k = refl
      go Outside phase.Idle k = absurd k
      go (Loaded seen) phase.Entering k = absurd k
      go (Announced seen) phase.Entering k = absurd k
      go (Again seen own) phase.Entering k = absurd k
      go (Lasting own) phase.Entering k = absurd k
      go section next k = absurd k

  -- the epoch of a section that has begun is not below that of before
  pub entered-above : (section : Section) (answer : Done) → EnterPart section phase.Idle (Some answer) → epoch_of_region m0 ≤ epoch_of section
  entered-above (Inside own calm) answer k = k
  entered-above section answer k = absurd k

  -- and the pass is in it
  pub entered-inside : (section : Section) (answer : Done) → EnterPart section phase.Idle (Some answer) → IsInside section
  entered-inside (Inside own calm) answer k = (own, calm, refl)
  entered-inside section answer k = absurd k

  -- whether a pass that leaves is still in its section
  abbrev pub LeavePart : Section → Phase → Option Done → Type 0
  LeavePart section phase.Idle None = Unit {0}
  LeavePart Outside phase.Idle (Some answer) = Unit {0}
  LeavePart _ _ _ = ⊥

  pub record Leaving (memory : Memory) (world : World) (section : Section) (owned : Option Owned) (next : Phase) (answer : Option Done) : Type 0 where
    pub same : IsSame m0 w0 r0 memory world owned
    pub part : LeavePart section next answer

  -- once it has left it is outside
  pub left-out : (section : Section) (answer : Done) → LeavePart section phase.Idle (Some answer) → section ≡ Outside
  left-out Outside answer k = refl
  left-out section answer k = absurd k

  leave-idle : (memory : Memory) (world : World) (section : Section) (owned : Option Owned) (next : Phase) (answer : Done) → Leaving memory world section owned next (Some answer) → next ≡ phase.Idle
  leave-idle memory world section owned next answer p = go section next p.part
    where
      go : (section : Section) (next : Phase) → LeavePart section next (Some answer) → next ≡ phase.Idle
      go section phase.Idle k = refl
      go section next k = absurd k

  module _ (R : S.State → Type 0) (shape : Layout) (pass : ℕ) where
    enter-starts : IsKeptBy Entering R shape pass (Start call.Enter)
    enter-starts s e aside within Outside owned phase.Idle at_sec at_round at_call p = λ told. record { same = p.same; part = tt }
    enter-starts s e aside within section owned phase.Idle at_sec at_round at_call p = tt
    enter-starts s e aside within section owned next at_sec at_round at_call p = tt

    enter-goes : IsKeptBy Entering R shape pass Go
    enter-goes s e aside within (Loaded seen) owned phase.Entering at_sec at_round at_call p = λ told. record { same = same-section s.memory pass (word.Plain seen) s.world owned p.same; part = tt }
    enter-goes s e aside within (Announced seen) owned phase.Entering at_sec at_round at_call p = λ told. record { same = p.same; part = p.same.epoch }
    enter-goes s e aside within (Again seen own) owned phase.Entering at_sec at_round at_call p = λ told. record { same = same-section s.memory pass (word.Plain own) s.world owned p.same; part = p.part }
    enter-goes s e aside within (Lasting own) owned phase.Entering at_sec at_round at_call p = λ told. record { same = p.same; part = p.part }
    enter-goes s e aside within section owned phase.Idle at_sec at_round at_call p = tt
    enter-goes s e aside within section owned next at_sec at_round at_call p = absurd p.part

    pub enter-carries : Carries Entering R shape pass call.Enter
    enter-carries = record {
      stable = λ memory op world section owned next answer quiet p. record { same = same-quiet memory op world owned quiet p.same; part = p.part };
      idle = enter-idle;
      starts = enter-starts;
      goes = enter-goes;
    }

    leave-starts : IsKeptBy Leaving R shape pass (Start call.Leave)
    leave-starts s e aside within (Inside own calm) owned phase.Idle at_sec at_round at_call p = λ told. record { same = same-section s.memory pass (word.Plain 0) s.world owned p.same; part = tt }
    leave-starts s e aside within section owned phase.Idle at_sec at_round at_call p = tt
    leave-starts s e aside within section owned next at_sec at_round at_call p = tt

    leave-goes : IsKeptBy Leaving R shape pass Go
    leave-goes s e aside within Outside owned phase.Idle at_sec at_round at_call p = tt
    leave-goes s e aside within Outside owned next at_sec at_round at_call p = absurd p.part
    leave-goes s e aside within (Inside own calm) owned phase.Idle at_sec at_round at_call p = tt
    leave-goes s e aside within section owned phase.Idle at_sec at_round at_call p = tt
    leave-goes s e aside within section owned next at_sec at_round at_call p = absurd p.part

    pub leave-carries : Carries Leaving R shape pass call.Leave
    leave-carries = record {
      stable = λ memory op world section owned next answer quiet p. record { same = same-quiet memory op world owned quiet p.same; part = p.part };
      idle = leave-idle;
      starts = leave-starts;
      goes = leave-goes;
    }
