-- What is known after a pass has tried to add an object while the others stand aside.
use Rattle.std.proofs.Common.{◌≡◌, ◌⊎◌, ℕ, ◌+◌, ◌<◌, Bool, true, false, Option, Some, None, List, refl, sym, ap, ◌∙◌, subst, inl, inr, arith}
use Rattle.std.specs.Prelude.{IfSome, nat_lt, slice_index, if◌then◌else◌}
use Rattle.std.proofs.lemmas.Bool.{cond_both}
use Rattle.std.proofs.lemmas.Bool.Decides.{nat_tests}
use Rattle.smc_words.specs.declared.dir.Dir.{Dir}
use Rattle.smc_words.specs.declared.dir.Dir.TheVariants as dir
use Rattle.smc_words.specs.declared.number.Number.{Number}
use Rattle.smc_shape.specs.Layout.{Layout, slots_of, entries_of, width_of}
use Rattle.smc_shape.specs.declared.place.Place.TheVariants as place
use Rattle.smc_model.specs.World.{World}
use Rattle.smc_model.specs.declared.event.Cause.TheVariants.{Slots, Entries}
use Rattle.smc_core.specs.declared.call.Call.TheVariants as call
use Rattle.smc_core.specs.declared.call.Choice.TheVariants.{Start, Go}
use Rattle.smc_core.specs.declared.change.Change.{Change}
use Rattle.smc_core.specs.declared.done.Done.{Done}
use Rattle.smc_core.specs.declared.done.Done.TheVariants as done
use Rattle.smc_core.specs.declared.kind.Kind.TheVariants as kind
use Rattle.smc_core.specs.declared.local.Opening.{Opening}
use Rattle.smc_core.specs.declared.local.Owned.{Owned}
use Rattle.smc_core.specs.declared.op.Op.{Op}
use Rattle.smc_core.specs.declared.op.Op.TheVariants.{Load, Store, Exchange}
use Rattle.smc_core.specs.declared.phase.Phase.{Phase}
use Rattle.smc_core.specs.declared.phase.Phase.TheVariants as phase
use Rattle.smc_core.specs.declared.phase.objects.AddPhase.{AddPhase}
use Rattle.smc_core.specs.declared.phase.objects.AddPhase.TheVariants as add
use Rattle.smc_core.specs.declared.section.Section.{Section}
use Rattle.smc_core.specs.declared.section.Section.TheVariants.{Inside}
use Rattle.smc_core.specs.declared.word.State as E
use Rattle.smc_core.specs.declared.word.State.TheVariants as state
use Rattle.smc_core.specs.declared.word.Word.{Word}
use Rattle.smc_core.specs.declared.word.Word.TheVariants as word
use Rattle.smc_core.specs.Add.{takes, next_slot, next_entry, slot_seen, entry_seen, store_field, refuses}
use Rattle.smc_core.specs.Change.{change}
use Rattle.smc_core.specs.Ripe.{is_ripe_slot, is_ripe_entry, next_round}
use Rattle.smc_core.specs.Step.{step, when, goes}
use Rattle.smc_core.specs.Words.{dir_of, state_of, same_word}
use Rattle.smc_rules.specs.Memory.{Memory, apply, seen}
use Rattle.smc_rules.specs.Reads.{state_in, dir_in}
use Rattle.smc_rules.specs.State as S
use Rattle.smc_aside.proofs.Runs.{Saying, IsStable, HoldsAfter, IsKeptBy, Carries}
use Rattle.smc_aside.proofs.Stillness.{Still, still-trans, still-state, still-dir, quiet-still}
use Rattle.smc_aside.proofs.Waiting.{AfterChange}
use Rattle.smc_inv_range.specs.Calls.{InPhase}
use Rattle.smc_inv_range.specs.Ranges.{InWord}
use Rattle.smc_inv_use.proofs.Used.{Used}
use Rattle.smc_full.proofs.WalkLaws.{IsSeen, seen_none, seen_next, seen_all}

-- an entry that a section at this epoch may claim
abbrev pub can_claim : ℕ → E.State → Bool
can_claim epoch (state.Free last stamp) = is_ripe_entry epoch last stamp
can_claim epoch _ = false

-- the entries are what they were
abbrev pub SameStates : Memory → Memory → Type 0
SameStates first memory = (c e : ℕ) → state_in memory c e ≡ state_in first c e

states-on : (first a b : Memory) → Still a b → SameStates first a → SameStates first b
states-on first a b ab same c e = still-state a b ab c e ∙ same c e

-- some slot of the collection could be claimed
abbrev pub HasRipe : Layout → ℕ → Memory → ℕ → Type 0
HasRipe shape epoch first coll = (slot : ℕ) × (slot < slots_of shape coll) × (is_ripe_slot epoch (dir_in first coll slot) ≡ true)

-- none could, of those that the walk has seen
abbrev pub NoneRipe : Layout → ℕ → Memory → ℕ → ℕ → ℕ → Type 0
NoneRipe shape epoch first coll here tried = (x : ℕ) → x < slots_of shape coll → IsSeen (slots_of shape coll) here tried x → is_ripe_slot epoch (dir_in first coll x) ≡ false

-- no entry could be claimed, of those that the walk has seen
abbrev pub NoneClaimable : Layout → ℕ → Memory → ℕ → ℕ → ℕ → Type 0
NoneClaimable shape epoch first coll here tried = (x : ℕ) → x < entries_of shape coll → IsSeen (entries_of shape coll) here tried x → can_claim epoch (state_in first coll x) ≡ false

-- what is known while an add is in progress
abbrev pub AddsAt : Layout → ℕ → Memory → ℕ → AddPhase → Memory → Type 0
AddsAt shape epoch first coll (add.FindSlot c from slot tried) memory = (c ≡ coll) × Still first memory × NoneRipe shape epoch first coll slot tried
AddsAt shape epoch first coll (add.ClaimSlot c from slot tried d) memory = (c ≡ coll) × Still first memory × (dir_in first coll slot ≡ d) × (is_ripe_slot epoch d ≡ true)
AddsAt shape epoch first coll (add.FindEntry c slot entry tried) memory = (c ≡ coll) × SameStates first memory × HasRipe shape epoch first coll × NoneClaimable shape epoch first coll entry tried
AddsAt shape epoch first coll (add.ClaimEntry c slot entry tried last stamp) memory = (c ≡ coll) × SameStates first memory × HasRipe shape epoch first coll × (state_in first coll entry ≡ state.Free last stamp)
AddsAt shape epoch first coll (add.DropSlot c slot) memory = SameStates first memory × HasRipe shape epoch first coll × ((x : ℕ) → x < entries_of shape coll → can_claim epoch (state_in first coll x) ≡ false)
AddsAt shape epoch first coll (add.StoreBack slot number) memory = HasRipe shape epoch first coll
AddsAt shape epoch first coll (add.StoreField slot number field) memory = HasRipe shape epoch first coll
AddsAt shape epoch first coll (add.StoreValid slot number) memory = HasRipe shape epoch first coll
AddsAt shape epoch first coll (add.StoreLive slot number) memory = HasRipe shape epoch first coll

-- what its answer says: for want of slots none could be claimed, for want of entries none of these, though a slot could; else a slot could
abbrev pub Told : Layout → ℕ → Memory → ℕ → Done → Memory → Type 0
Told shape epoch first coll (done.Full Slots) memory = Still first memory × ((x : ℕ) → x < slots_of shape coll → is_ripe_slot epoch (dir_in first coll x) ≡ false)
Told shape epoch first coll (done.Full Entries) memory = SameStates first memory × HasRipe shape epoch first coll × ((x : ℕ) → x < entries_of shape coll → can_claim epoch (state_in first coll x) ≡ false)
Told shape epoch first coll _ memory = HasRipe shape epoch first coll

-- how far it has come
abbrev pub AddPart : Layout → ℕ → Memory → ℕ → Memory → Phase → Option Done → Type 0
AddPart shape epoch first coll memory phase.Idle None = Still first memory
AddPart shape epoch first coll memory (phase.Add next) None = AddsAt shape epoch first coll next memory
AddPart shape epoch first coll memory phase.Idle (Some answer) = Told shape epoch first coll answer memory
AddPart shape epoch first coll memory _ _ = ⊥

-- a pass without a round adds an object to the collection, in a section at this epoch
pub record Adding (shape : Layout) (epoch : ℕ) (calm : Bool) (first : Memory) (coll : ℕ) (memory : Memory) (world : World) (section : Section) (owned : Option Owned) (next : Phase) (answer : Option Done) : Type 0 where
  pub inside : section ≡ Inside epoch calm
  pub no_round : owned ≡ None
  pub part : AddPart shape epoch first coll memory next answer

same_dir-refl : (d : Dir) → same_word (word.Directory d) (word.Directory d) ≡ true
same_dir-refl dir.Free = refl
same_dir-refl dir.Claimed = refl
same_dir-refl dir.Incoming = refl
same_dir-refl dir.Valid = refl
same_dir-refl (dir.Limbo z) = grind (arith, nat_tests)

same_free-refl : (a z : ℕ) → same_word (word.Entry (state.Free a z)) (word.Entry (state.Free a z)) ≡ true
same_free-refl a z = grind (arith, nat_tests)

-- a word of a directory, or of an entry, is one
dir_word : (shape : Layout) (c slot : ℕ) (w : Word) → InWord shape (place.Directory c slot) w → w ≡ word.Directory (dir_of w)
dir_word shape c slot (word.Directory d) r = refl
dir_word shape c slot (word.Plain _) r = absurd r
dir_word shape c slot (word.Round _) r = absurd r
dir_word shape c slot (word.Entry _) r = absurd r
dir_word shape c slot (word.Back _) r = absurd r
dir_word shape c slot (word.Forward _) r = absurd r

entry_word : (shape : Layout) (c entry : ℕ) (w : Word) → InWord shape (place.Entry c entry) w → w ≡ word.Entry (state_of w)
entry_word shape c entry (word.Entry d) r = refl
entry_word shape c entry (word.Plain _) r = absurd r
entry_word shape c entry (word.Round _) r = absurd r
entry_word shape c entry (word.Directory _) r = absurd r
entry_word shape c entry (word.Back _) r = absurd r
entry_word shape c entry (word.Forward _) r = absurd r

module _ (opening : Opening) (shape : Layout) (pass : ℕ) (first : Memory) (coll from0 : ℕ) (words : List ℕ) (epoch : ℕ) (calm : Bool) where
  abbrev Says : Saying
  Says = Adding shape epoch calm first coll

  -- what is known where a change leaves it
  abbrev Comes : Change → Memory → Type 0
  Comes c memory = AddPart shape epoch first coll memory c.phase c.answer

  -- where a step by this operation leaves it
  abbrev AfterAdd : S.State → AddPhase → ℕ → Op → Type 0
  AfterAdd s next told op = Comes (change shape pass (s.stands pass) (Inside epoch calm) (phase.Add next) Go told (seen op s.memory)) (apply op s.memory)

  -- the walk over slots goes on behind one that is not ripe, or has seen all
  slot-next : (from slot tried : ℕ) (memory : Memory) → slot < slots_of shape coll → Still first memory → NoneRipe shape epoch first coll slot tried
      → is_ripe_slot epoch (dir_in first coll slot) ≡ false → Comes (next_slot shape coll from slot tried) memory
  slot-next from slot tried memory lt same none unripe = cond_both (nat_lt (tried + 1) (slots_of shape coll))
      (goes (phase.Add (add.FindSlot coll from (next_round (slots_of shape coll) slot) (tried + 1)))) (refuses coll Slots) (λ c. Comes c memory)
      (λ t. (refl, same, λ x lx is. here x (seen_next (slots_of shape coll) slot tried x lt lx is) lx))
      (λ n. (same, λ x lx. here x (seen_all (slots_of shape coll) slot tried x lt lx n) lx))
    where
      here : (x : ℕ) → (x ≡ slot) ⊎ IsSeen (slots_of shape coll) slot tried x → x < slots_of shape coll → is_ripe_slot epoch (dir_in first coll x) ≡ false
      here x (inl e) lx = subst (λ (k : ℕ). is_ripe_slot epoch (dir_in first coll k) ≡ false) (sym e) unripe
      here x (inr is) lx = none x lx is

  slot-on : (from slot tried : ℕ) (memory : Memory) → slot < slots_of shape coll → Still first memory → NoneRipe shape epoch first coll slot tried
      → Comes (slot_seen shape epoch coll from slot tried (dir_in memory coll slot)) memory
  slot-on from slot tried memory lt same none = cond_both (is_ripe_slot epoch (dir_in memory coll slot))
      (goes (phase.Add (add.ClaimSlot coll from slot tried (dir_in memory coll slot)))) (next_slot shape coll from slot tried) (λ c. Comes c memory)
      (λ t. (refl, same, sym (still-dir first memory same coll slot), t))
      (λ n. slot-next from slot tried memory lt same none (ap (is_ripe_slot epoch) (sym (still-dir first memory same coll slot)) ∙ n))

  -- the walk over entries goes on behind one that cannot be claimed, or has seen all
  entry-next : (slot entry tried : ℕ) (memory : Memory) → entry < entries_of shape coll → SameStates first memory → HasRipe shape epoch first coll → NoneClaimable shape epoch first coll entry tried
      → can_claim epoch (state_in first coll entry) ≡ false → Comes (next_entry shape coll slot entry tried) memory
  entry-next slot entry tried memory lt same ripe none unripe = cond_both (nat_lt (tried + 1) (entries_of shape coll))
      (goes (phase.Add (add.FindEntry coll slot (next_round (entries_of shape coll) entry) (tried + 1)))) (goes (phase.Add (add.DropSlot coll slot))) (λ c. Comes c memory)
      (λ t. (refl, same, ripe, λ x lx is. here x (seen_next (entries_of shape coll) entry tried x lt lx is) lx))
      (λ n. (same, ripe, λ x lx. here x (seen_all (entries_of shape coll) entry tried x lt lx n) lx))
    where
      here : (x : ℕ) → (x ≡ entry) ⊎ IsSeen (entries_of shape coll) entry tried x → x < entries_of shape coll → can_claim epoch (state_in first coll x) ≡ false
      here x (inl e) lx = subst (λ (k : ℕ). can_claim epoch (state_in first coll k) ≡ false) (sym e) unripe
      here x (inr is) lx = none x lx is

  entry-on : (slot entry tried : ℕ) (memory : Memory) → entry < entries_of shape coll → SameStates first memory → HasRipe shape epoch first coll → NoneClaimable shape epoch first coll entry tried
      → Comes (entry_seen shape epoch coll slot entry tried (state_in memory coll entry)) memory
  entry-on slot entry tried memory lt same ripe none = go (state_in memory coll entry) refl
    where
      go : (w : E.State) → state_in memory coll entry ≡ w → Comes (entry_seen shape epoch coll slot entry tried w) memory
      go (state.Free last stamp) e = cond_both (is_ripe_entry epoch last stamp) (goes (phase.Add (add.ClaimEntry coll slot entry tried last stamp))) (next_entry shape coll slot entry tried) (λ c. Comes c memory)
          (λ t. (refl, same, ripe, sym (same coll entry) ∙ e))
          (λ n. entry-next slot entry tried memory lt same ripe none (ap (can_claim epoch) (sym (same coll entry) ∙ e) ∙ n))
      go (state.Claimed own) e = entry-next slot entry tried memory lt same ripe none (ap (can_claim epoch) (sym (same coll entry) ∙ e))
      go (state.Present own there) e = entry-next slot entry tried memory lt same ripe none (ap (can_claim epoch) (sym (same coll entry) ∙ e))
      go (state.Frozen own there) e = entry-next slot entry tried memory lt same ripe none (ap (can_claim epoch) (sym (same coll entry) ∙ e))
      go (state.Locked own there) e = entry-next slot entry tried memory lt same ripe none (ap (can_claim epoch) (sym (same coll entry) ∙ e))
      go (state.Removed own there f l) e = entry-next slot entry tried memory lt same ripe none (ap (can_claim epoch) (sym (same coll entry) ∙ e))

  add-starts : IsKeptBy Says (Used opening shape) shape pass (Start (call.Add coll from0 words))
  add-starts s u aside within section owned phase.Idle at_sec at_round at_call p =
      subst (λ (k : Section). HoldsAfter Says shape pass s k owned phase.Idle (Start (call.Add coll from0 words))) (sym p.inside) (may (takes shape coll from0 words) refl)
    where
      may : (b : Bool) → takes shape coll from0 words ≡ b → IfSome (when b (step kind.LoadDirectory (Load (place.Directory coll from0)))) (λ o. (told : ℕ)
          → AfterChange Says (apply o.op s.memory) s.world (Inside epoch calm) owned (change shape pass (s.stands pass) (Inside epoch calm) phase.Idle (Start (call.Add coll from0 words)) told (seen o.op s.memory)))
      may true t = λ told. record {
        inside = refl;
        no_round = p.no_round;
        part = slot-on from0 from0 0 s.memory (grind (arith, nat_tests, t)) p.part (λ x lx sn. absurd (seen_none (slots_of shape coll) from0 x lx sn));
      }
      may false n = tt
  add-starts s u aside within section owned next at_sec at_round at_call p = tt

  module _ (s : S.State) (u : Used opening shape s) (within : pass < shape.passes) (told : ℕ) where
    -- what the ranges of its call say
    ranges_of : (next : Phase) → (s.stands pass).phase ≡ next → InPhase shape (s.stands pass).words next
    ranges_of next at_call = subst (InPhase shape (s.stands pass).words) at_call (u.everything.whole.ranges.stands pass within).phase

    find_slot : (from slot tried : ℕ) → (s.stands pass).phase ≡ phase.Add (add.FindSlot coll from slot tried) → Still first s.memory → NoneRipe shape epoch first coll slot tried
        → AfterAdd s (add.FindSlot coll from slot tried) told (Load (place.Directory coll slot))
    find_slot from slot tried at_call same none = slot-on from slot tried s.memory (ranges_of (phase.Add (add.FindSlot coll from slot tried)) at_call).2 same none

    claim_slot : (from slot tried : ℕ) (d : Dir) → (s.stands pass).phase ≡ phase.Add (add.ClaimSlot coll from slot tried d) → Still first s.memory → dir_in first coll slot ≡ d → is_ripe_slot epoch d ≡ true
        → AfterAdd s (add.ClaimSlot coll from slot tried d) told (Exchange (place.Directory coll slot) (word.Directory d) (word.Directory dir.Claimed))
    claim_slot from slot tried d at_call same is ripe =
        let lt : slot < slots_of shape coll = (ranges_of (phase.Add (add.ClaimSlot coll from slot tried d)) at_call).2 in
        let here : s.memory (place.Directory coll slot) ≡ word.Directory d = dir_word shape coll slot (s.memory (place.Directory coll slot)) (u.everything.whole.ranges.memory (place.Directory coll slot) lt) ∙ ap word.Directory (still-dir first s.memory same coll slot ∙ is) in
        let found : same_word (s.memory (place.Directory coll slot)) (word.Directory d) ≡ true = ap (λ (w : Word). same_word w (word.Directory d)) here ∙ same_dir-refl d in
        subst (λ (b : Bool). Comes (if b then goes (phase.Add (add.FindEntry coll slot from 0)) else next_slot shape coll from slot tried) (apply (Exchange (place.Directory coll slot) (word.Directory d) (word.Directory dir.Claimed)) s.memory)) (sym found)
        (refl, still-state first s.memory same, (slot, lt, ap (is_ripe_slot epoch) is ∙ ripe), λ x lx sn. absurd (seen_none (entries_of shape coll) from x lx sn))

    find_entry : (slot entry tried : ℕ) → (s.stands pass).phase ≡ phase.Add (add.FindEntry coll slot entry tried) → SameStates first s.memory → HasRipe shape epoch first coll → NoneClaimable shape epoch first coll entry tried
        → AfterAdd s (add.FindEntry coll slot entry tried) told (Load (place.Entry coll entry))
    find_entry slot entry tried at_call same ripe none = entry-on slot entry tried s.memory (ranges_of (phase.Add (add.FindEntry coll slot entry tried)) at_call).2 same ripe none

    claim_entry : (slot entry tried last stamp : ℕ) → (s.stands pass).phase ≡ phase.Add (add.ClaimEntry coll slot entry tried last stamp) → SameStates first s.memory → HasRipe shape epoch first coll → state_in first coll entry ≡ state.Free last stamp
        → AfterAdd s (add.ClaimEntry coll slot entry tried last stamp) told (Exchange (place.Entry coll entry) (word.Entry (state.Free last stamp)) (word.Entry (state.Claimed (last + 1))))
    claim_entry slot entry tried last stamp at_call same ripe is =
        let lt : entry < entries_of shape coll = (ranges_of (phase.Add (add.ClaimEntry coll slot entry tried last stamp)) at_call).2 in
        let here : s.memory (place.Entry coll entry) ≡ word.Entry (state.Free last stamp) = entry_word shape coll entry (s.memory (place.Entry coll entry)) (u.everything.whole.ranges.memory (place.Entry coll entry) lt) ∙ ap word.Entry (same coll entry ∙ is) in
        let found : same_word (s.memory (place.Entry coll entry)) (word.Entry (state.Free last stamp)) ≡ true = ap (λ (w : Word). same_word w (word.Entry (state.Free last stamp))) here ∙ same_free-refl last stamp in
        subst (λ (b : Bool). Comes (if b then goes (phase.Add (add.StoreBack slot (record { incarnation = last + 1; entry = entry; coll = coll }))) else next_entry shape coll slot entry tried)
        (apply (Exchange (place.Entry coll entry) (word.Entry (state.Free last stamp)) (word.Entry (state.Claimed (last + 1)))) s.memory)) (sym found) ripe

  -- a field is stored next, or that the slot is valid
  stores-on : (slot : ℕ) (number : Number) (field : ℕ) (memory : Memory) → HasRipe shape epoch first coll → AddsAt shape epoch first coll (store_field shape slot number field) memory
  stores-on slot number field memory ripe = cond_both (nat_lt field (width_of shape number.coll)) (add.StoreField slot number field) (add.StoreValid slot number) (λ p. AddsAt shape epoch first coll p memory) (λ t. ripe) (λ n. ripe)

  add-goes : IsKeptBy Says (Used opening shape) shape pass Go
  add-goes s u aside within section owned next at_sec at_round at_call p = subst (λ (k : Section). HoldsAfter Says shape pass s k owned next Go) (sym p.inside) (go next at_call p.part)
    where
      -- the collection of the walk is this one
      here : (P : ℕ → Type 0) (next : ℕ → AddPhase) (d : ℕ) → d ≡ coll → (s.stands pass).phase ≡ phase.Add (next d) → ((s.stands pass).phase ≡ phase.Add (next coll) → P coll) → P d
      here P next d e at_call k = subst P (sym e) (k (subst (λ (k : ℕ). (s.stands pass).phase ≡ phase.Add (next k)) e at_call))

      in_add : (next : AddPhase) → (s.stands pass).phase ≡ phase.Add next → AddsAt shape epoch first coll next s.memory → HoldsAfter Says shape pass s (Inside epoch calm) owned (phase.Add next) Go
      in_add (add.FindSlot d from slot tried) at_call (e, same, none) = λ told. record {
        inside = refl;
        no_round = p.no_round;
        part = here (λ k. AfterAdd s (add.FindSlot k from slot tried) told (Load (place.Directory k slot))) (λ k. add.FindSlot k from slot tried) d e at_call
            (λ at_call. find_slot s u within told from slot tried at_call same none);
      }
      in_add (add.ClaimSlot d from slot tried seen) at_call (e, same, was, ripe) = λ told. record {
        inside = refl;
        no_round = p.no_round;
        part = here (λ k. AfterAdd s (add.ClaimSlot k from slot tried seen) told (Exchange (place.Directory k slot) (word.Directory seen) (word.Directory dir.Claimed))) (λ k. add.ClaimSlot k from slot tried seen) d e at_call
            (λ at_call. claim_slot s u within told from slot tried seen at_call same was ripe);
      }
      in_add (add.FindEntry d slot entry tried) at_call (e, same, ripe, none) = λ told. record {
        inside = refl;
        no_round = p.no_round;
        part = here (λ k. AfterAdd s (add.FindEntry k slot entry tried) told (Load (place.Entry k entry))) (λ k. add.FindEntry k slot entry tried) d e at_call
            (λ at_call. find_entry s u within told slot entry tried at_call same ripe none);
      }
      in_add (add.ClaimEntry d slot entry tried last stamp) at_call (e, same, ripe, was) = λ told. record {
        inside = refl;
        no_round = p.no_round;
        part = here (λ k. AfterAdd s (add.ClaimEntry k slot entry tried last stamp) told (Exchange (place.Entry k entry) (word.Entry (state.Free last stamp)) (word.Entry (state.Claimed (last + 1)))))
            (λ k. add.ClaimEntry k slot entry tried last stamp) d e at_call (λ at_call. claim_entry s u within told slot entry tried last stamp at_call same ripe was);
      }
      in_add (add.DropSlot d slot) at_call k = λ told. record { inside = refl; no_round = p.no_round; part = k }
      in_add (add.StoreBack slot number) at_call ripe = λ told. record {
        inside = refl;
        no_round = p.no_round;
        part = stores-on slot number 0 (apply (Store (place.Back number.coll slot) (word.Back (Some number))) s.memory) ripe;
      }
      in_add (add.StoreField slot number field) at_call ripe = λ told. record {
        inside = refl;
        no_round = p.no_round;
        part = stores-on slot number (field + 1) (apply (Store (place.Field number.coll slot field) (word.Plain (slice_index (s.stands pass).words field))) s.memory) ripe;
      }
      in_add (add.StoreValid slot number) at_call ripe = λ told. record { inside = refl; no_round = p.no_round; part = ripe }
      in_add (add.StoreLive slot number) at_call ripe = λ told. record { inside = refl; no_round = p.no_round; part = ripe }

      go : (next : Phase) → (s.stands pass).phase ≡ next → AddPart shape epoch first coll s.memory next None → HoldsAfter Says shape pass s (Inside epoch calm) owned next Go
      go phase.Idle at_call k = tt
      go (phase.Add next) at_call k = in_add next at_call k
      go next at_call k = absurd k

  adds-on : (next : AddPhase) (a b : Memory) → Still a b → AddsAt shape epoch first coll next a → AddsAt shape epoch first coll next b
  adds-on (add.FindSlot d from slot tried) a b ab (e, same, none) = (e, still-trans first a b same ab, none)
  adds-on (add.ClaimSlot d from slot tried seen) a b ab (e, same, was, ripe) = (e, still-trans first a b same ab, was, ripe)
  adds-on (add.FindEntry d slot entry tried) a b ab (e, same, ripe, none) = (e, states-on first a b ab same, ripe, none)
  adds-on (add.ClaimEntry d slot entry tried last stamp) a b ab (e, same, ripe, was) = (e, states-on first a b ab same, ripe, was)
  adds-on (add.DropSlot d slot) a b ab (same, ripe, none) = (states-on first a b ab same, ripe, none)
  adds-on (add.StoreBack slot number) a b ab ripe = ripe
  adds-on (add.StoreField slot number field) a b ab ripe = ripe
  adds-on (add.StoreValid slot number) a b ab ripe = ripe
  adds-on (add.StoreLive slot number) a b ab ripe = ripe

  told-on : (answer : Done) (a b : Memory) → Still a b → Told shape epoch first coll answer a → Told shape epoch first coll answer b
  told-on (done.Full Slots) a b ab (same, none) = (still-trans first a b same ab, none)
  told-on (done.Full Entries) a b ab (same, ripe, none) = (states-on first a b ab same, ripe, none)
  told-on answer a b ab told = told

  add-stable : IsStable Says
  add-stable memory op world section owned next answer quiet p = record { inside = p.inside; no_round = p.no_round; part = part next answer p.part }
    where
      still : Still memory (apply op memory)
      still = quiet-still memory memory op quiet (λ there is. refl)

      part : (next : Phase) (answer : Option Done) → AddPart shape epoch first coll memory next answer → AddPart shape epoch first coll (apply op memory) next answer
      part phase.Idle None k = still-trans first memory (apply op memory) k still
      part (phase.Add next) None k = adds-on next memory (apply op memory) still k
      part phase.Idle (Some answer) k = told-on answer memory (apply op memory) still k
      part next answer k = absurd k

  add-idle : (memory : Memory) (world : World) (section : Section) (owned : Option Owned) (next : Phase) (answer : Done) → Says memory world section owned next (Some answer) → next ≡ phase.Idle
  add-idle memory world section owned next answer p = go next p.part
    where
      go : (next : Phase) → AddPart shape epoch first coll memory next (Some answer) → next ≡ phase.Idle
      go phase.Idle k = refl
      go next k = absurd k

  pub add-carries : Carries Says (Used opening shape) shape pass (call.Add coll from0 words)
  add-carries = record { stable = add-stable; idle = add-idle; starts = add-starts; goes = add-goes }
