-- What steps owe to the epoch rule, by what they do to the section and to the advance of their pass.
use Rattle.std.proofs.Common.{◌≡◌, ◌≢◌, ℕ, ◌+◌, ◌<◌, ◌≤◌, Bool, true, false, Some, None, refl, sym, ap, ◌∙◌, subst, arith}
use Rattle.std.specs.Prelude.{IsTrue, nat_lt, if◌then◌else◌}
use Rattle.std.proofs.lemmas.Bool.{eq-eqb, ne_eqb, ltb-true, ltb-false}
use Rattle.smc_shape.specs.Layout.{Layout}
use Rattle.smc_shape.specs.declared.place.Place.TheVariants as place
use Rattle.smc_core.specs.declared.op.Op.{Op}
use Rattle.smc_core.specs.declared.phase.Phase.{Phase}
use Rattle.smc_core.specs.declared.phase.Phase.TheVariants as phase
use Rattle.smc_core.specs.declared.section.Section.{Section}
use Rattle.smc_core.specs.declared.section.Section.TheVariants.{Outside, Loaded, Announced, Again, Lasting, Inside}
use Rattle.smc_core.specs.declared.section.TheConstants.{FIRST_EPOCH, LAST_EPOCH}
use Rattle.smc_core.specs.declared.word.Word.TheVariants as word
use Rattle.smc_core.specs.Change.{advance_next}
use Rattle.smc_core.specs.Words.{plain_of}
use Rattle.smc_rules.specs.EpochRule.{own_epoch, advance_from}
use Rattle.smc_rules.specs.Memory.{Memory, apply, put_word}
use Rattle.smc_rules.specs.Reads.{epoch_of_region, announced_by}
use Rattle.smc_rules.specs.State.{State}
use Rattle.smc_inv_epoch.specs.Epochs.{Epochs}
use Rattle.smc_inv_epoch.proofs.Moves.{SectionFits, AdvanceFits, PassedFits, Moves, section_fits}
use Rattle.smc_inv_epoch.proofs.Quiet.{leaves, leaves-same}

-- what is to be known of a section in each of its forms
pub outside_fits : (epoch w : ℕ) → w ≡ 0 → SectionFits epoch w Outside
outside_fits epoch w e = record {
  loaded = λ seen is. cc;
  again = λ seen own is. cc;
  near = λ own is. cc;
  own_word = e;
  least_load = λ seen is. cc;
  least_own = λ own is. cc;
}

pub loaded_fits : (epoch w seen : ℕ) → w ≡ 0 → FIRST_EPOCH ≤ seen → seen ≤ epoch → SectionFits epoch w (Loaded seen)
loaded_fits epoch w seen e least most = record {
  loaded = λ v is. grind arith;
  again = λ v own is. cc;
  near = λ own is. cc;
  own_word = e;
  least_load = λ v is. grind arith;
  least_own = λ own is. cc;
}

pub announced_fits : (epoch w seen : ℕ) → w ≡ seen → FIRST_EPOCH ≤ seen → seen ≤ epoch → SectionFits epoch w (Announced seen)
announced_fits epoch w seen e least most = record {
  loaded = λ v is. grind arith;
  again = λ v own is. cc;
  near = λ own is. cc;
  own_word = e;
  least_load = λ v is. grind arith;
  least_own = λ own is. cc;
}

pub again_fits : (epoch w seen own : ℕ) → w ≡ seen → FIRST_EPOCH ≤ seen → seen ≤ own → own ≤ epoch → epoch ≤ own + 1 → SectionFits epoch w (Again seen own)
again_fits epoch w seen own e least rises most near = record {
  loaded = λ v is. grind arith;
  again = λ v s is. grind arith;
  near = λ s is. (grind arith, grind arith);
  own_word = e;
  least_load = λ v is. grind arith;
  least_own = λ s is. grind arith;
}

pub lasting_fits : (epoch w own : ℕ) → w ≡ own → FIRST_EPOCH ≤ own → own ≤ epoch → epoch ≤ own + 1 → SectionFits epoch w (Lasting own)
lasting_fits epoch w own e least most near = record {
  loaded = λ v is. cc;
  again = λ v s is. cc;
  near = λ s is. (grind arith, grind arith);
  own_word = e;
  least_load = λ v is. cc;
  least_own = λ s is. grind arith;
}

pub inside_fits : (epoch w own : ℕ) (calm : Bool) → w ≡ own → FIRST_EPOCH ≤ own → own ≤ epoch → epoch ≤ own + 1 → SectionFits epoch w (Inside own calm)
inside_fits epoch w own calm e least most near = record {
  loaded = λ v is. cc;
  again = λ v s is. cc;
  near = λ s is. (grind arith, grind arith);
  own_word = e;
  least_load = λ v is. cc;
  least_own = λ s is. grind arith;
}

-- the word of a section that has an epoch of its own is not 0, and not above that epoch
pub word_own : (epoch w own : ℕ) (section : Section) → SectionFits epoch w section → own_epoch section ≡ Some own → (FIRST_EPOCH ≤ w) × (w ≤ own)
word_own epoch w own (Again seen epoch') f is = (grind (arith, f.own_word, f.least_load seen refl), grind (arith, f.own_word, f.again seen epoch' refl))
word_own epoch w own (Lasting epoch') f is = (grind (arith, f.own_word, f.least_own epoch' refl), grind (arith, f.own_word))
word_own epoch w own (Inside epoch' calm) f is = (grind (arith, f.own_word, f.least_own epoch' refl), grind (arith, f.own_word))
word_own epoch w own Outside f is = cc
word_own epoch w own (Loaded seen) f is = cc
word_own epoch w own (Announced seen) f is = cc

-- of no advance nothing is to be known
pub calm_advance : (shape : Layout) (epoch : ℕ) (call : Phase) → advance_from call ≡ None → AdvanceFits shape epoch call
calm_advance shape epoch call calm = record {
  advance = λ from is. cc;
  low = λ from is. cc;
  next = λ from other is. let at : advance_from call ≡ Some from = ap advance_from is in cc;
}

pub calm_passed : (pass : ℕ) (section : Section) (call : Phase) → advance_from call ≡ None → PassedFits pass section call
calm_passed pass section call calm = λ own from is at loaded. cc

module _ (shape : Layout) (state : State) (pass : ℕ) (h : Epochs shape state) (within : pass < shape.passes) where
  abbrev epoch : ℕ
  epoch = epoch_of_region state.memory

  -- a step of enter or leave: the section changes, and no advance is in progress
  pub section_moves : (memory : Memory) (section : Section) (call : Phase) → epoch_of_region memory ≡ epoch
      → ((i : ℕ) → i ≢ pass → announced_by memory i ≡ announced_by state.memory i)
      → SectionFits epoch (announced_by memory pass) section → advance_from call ≡ None
      → ((i : ℕ) → i < shape.passes → PassedFits pass section (state.stands i).phase)
      → Moves shape state pass memory section call
  section_moves memory section call same words fits calm settles = record {
    first = omega (arith, same, h.rule.first);
    last = omega (arith, same, h.rule.last);
    rises = omega (arith, same);
    words = words;
    section = subst (λ e. SectionFits e (announced_by memory pass) section) (sym same) fits;
    advance = calm_advance shape (epoch_of_region memory) call calm;
    reach = λ i own lt is. let near = h.rule.near i own lt is in omega (arith, same, near.1);
    settles = settles;
    passes = λ i lt. calm_passed i (state.stands i).section call calm;
    self = calm_passed pass section call calm;
  }

  -- a step of an advance, or one that has nothing to do with epochs: the section stays as it was
  pub advance_moves : (memory : Memory) (section : Section) (call : Phase) → (state.stands pass).section ≡ section
      → ((i : ℕ) → announced_by memory i ≡ announced_by state.memory i)
      → epoch ≤ epoch_of_region memory → epoch_of_region memory ≤ LAST_EPOCH
      → ((i own : ℕ) → i < shape.passes → own_epoch (state.stands i).section ≡ Some own → epoch_of_region memory ≤ own + 1)
      → AdvanceFits shape (epoch_of_region memory) call
      → ((i : ℕ) → i < shape.passes → PassedFits i (state.stands i).section call)
      → Moves shape state pass memory section call
  advance_moves memory section call at_section words rises last reach fits passes =
      let old : SectionFits epoch (announced_by state.memory pass) section =
      subst (SectionFits epoch (announced_by state.memory pass)) at_section (section_fits shape state pass h within) in record {
        first = omega (arith, rises, h.rule.first);
        last = last;
        rises = rises;
        words = λ i ne. words i;
        section = record {
          loaded = λ seen is. omega (arith, old.loaded seen is, rises);
          again = old.again;
          near = λ own is. let near = old.near own is in (omega (arith, near.0, rises), reach pass own within (ap own_epoch at_section ∙ is));
          own_word = words pass ∙ old.own_word;
          least_load = old.least_load;
          least_own = old.least_own;
        };
        advance = fits;
        reach = reach;
        settles = λ i lt own from is at loaded. h.rule.passed pass own i from within lt (ap own_epoch at_section ∙ is) at loaded;
        passes = passes;
        self = subst (λ s. PassedFits pass s call) at_section (passes pass within);
      }

  -- where the epoch stays, each section stays near it
  stays : (i own : ℕ) → i < shape.passes → own_epoch (state.stands i).section ≡ Some own → epoch ≤ own + 1
  stays i own lt is = (h.rule.near i own lt is).1

  -- a step that has nothing to do with epochs
  pub quiet_moves : (op : Op) (section : Section) (call : Phase) → (state.stands pass).section ≡ section
      → IsTrue (leaves op) → advance_from call ≡ None → Moves shape state pass (apply op state.memory) section call
  quiet_moves op section call at_section left calm =
      let same : epoch_of_region (apply op state.memory) ≡ epoch = ap (λ w. plain_of w) (leaves-same op state.memory place.Epoch refl left) in
      advance_moves (apply op state.memory) section call at_section
      (λ i. ap (λ w. plain_of w) (leaves-same op state.memory (place.Section i) refl left))
      (omega (arith, same)) (omega (arith, same, h.rule.last))
      (λ i own lt is. omega (arith, same, stays i own lt is))
      (calm_advance shape (epoch_of_region (apply op state.memory)) call calm)
      (λ i lt. calm_passed i (state.stands i).section call calm)

  -- an advance that has looked at the passes below this one
  pub next_moves : (section : Section) (from other : ℕ) → (state.stands pass).section ≡ section → from ≤ epoch → from < LAST_EPOCH
      → ((i own : ℕ) → i < shape.passes → own_epoch (state.stands i).section ≡ Some own → i < other → from ≤ own)
      → Moves shape state pass state.memory section (advance_next shape from other)
  next_moves section from other at_section low last passed = go (nat_lt other shape.passes) refl
    where
      step : (call : Phase) → AdvanceFits shape epoch call → ((i : ℕ) → i < shape.passes → PassedFits i (state.stands i).section call)
          → Moves shape state pass state.memory section call
      step call fits passes = advance_moves state.memory section call at_section (λ i. refl) (omega arith) h.rule.last stays fits passes

      go : (b : Bool) → nat_lt other shape.passes ≡ b → Moves shape state pass state.memory section (if b then phase.Advancing from other else phase.Ready from)
      go true e = let lt = ltb-true other shape.passes e in step (phase.Advancing from other)
          (record { advance = λ f is. grind arith; low = λ f is. grind arith; next = λ f o is. grind arith })
          (λ i li own f is at loaded. let below : i < other = ltb-true i other loaded in grind (arith, passed i own li is below))
      go false e = let ge = ltb-false other shape.passes e in step (phase.Ready from)
          (record { advance = λ f is. grind arith; low = λ f is. grind arith; next = λ f o is. cc })
          (λ i li own f is at loaded. let below : i < other = omega arith in grind (arith, passed i own li is below))

  -- the own section word is stored
  pub stored_words : (v i : ℕ) → i ≢ pass → announced_by (put_word state.memory (place.Section pass) (word.Plain v)) i ≡ announced_by state.memory i
  stored_words v i ne = rw (ne_eqb i pass ne) refl

  pub stored_own : (v : ℕ) → announced_by (put_word state.memory (place.Section pass) (word.Plain v)) pass ≡ v
  stored_own v = rw (eq-eqb pass pass refl) refl
