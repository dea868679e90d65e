-- What the answer of an add says of a region at rest.
use Rattle.std.proofs.Common.{◌≡◌, ◌⊎◌, ℕ, ◌+◌, ◌<◌, ◌≤◌, true, false, refl, sym, ap, ◌∙◌, subst, inl, inr, arith}
use Rattle.std.specs.Prelude.{length}
use Rattle.std.proofs.lemmas.Bool.Decides.{nat_tests}
use Rattle.std.proofs.lemmas.List.{get_or_past}
use Rattle.std.proofs.lemmas.Bool.{cases_lt}
use Rattle.smc_words.specs.declared.layout.TheConstants.{INCARNATIONS}
use Rattle.smc_words.specs.declared.dir.Dir.{Dir}
use Rattle.smc_words.specs.declared.dir.Dir.TheVariants as dir
use Rattle.smc_shape.specs.Layout.{Layout, Collection, IsShape, slots_of, entries_of, no_coll, coll_of}
use Rattle.smc_shape.specs.declared.place.Place.TheVariants as place
use Rattle.smc_model.specs.declared.event.Cause.TheVariants.{Slots, Entries}
use Rattle.smc_core.specs.declared.done.Done.{Done}
use Rattle.smc_core.specs.declared.done.Done.TheVariants as done
use Rattle.smc_core.specs.declared.local.Opening.{Opening}
use Rattle.smc_core.specs.declared.word.State as E
use Rattle.smc_core.specs.declared.word.State.TheVariants as state
use Rattle.smc_core.specs.declared.word.Word.{Word}
use Rattle.smc_core.specs.declared.word.Word.TheVariants as word
use Rattle.smc_core.specs.Ripe.{is_ripe, is_ripe_slot, is_ripe_entry}
use Rattle.smc_core.specs.Words.{state_of}
use Rattle.smc_rules.specs.Memory.{Memory}
use Rattle.smc_rules.specs.Reads.{state_in, dir_in}
use Rattle.smc_rules.specs.State.{State}
use Rattle.smc_aside.proofs.Stillness.{Still, still-state}
use Rattle.smc_inv_range.specs.Ranges.{InWord, InState}
use Rattle.smc_inv_use.specs.Rest.{IsAtRest, HasOneObject, IsEntryAtRest}
use Rattle.smc_inv_use.proofs.RestLaws.{none_claimed, none_incoming, one_in_valid, one_object, entry_at_rest, present_in_valid, present_within}
use Rattle.smc_inv_use.proofs.Used.{Used}
use Rattle.smc_full.specs.Full.{IsFull, EachSlotHolds, NoneSpent}
use Rattle.smc_full.proofs.Adds.{HasRipe, SameStates, Told, can_claim}
use Rattle.smc_full.proofs.WalkLaws.{apart_fewer}

-- a collection that has a slot has as many entries as slots
room : (shape : Layout) (c slot : ℕ) → IsShape shape → slot < slots_of shape c → slots_of shape c ≤ entries_of shape c
room shape c slot valid lt = elim (cases_lt c (length shape.colls)) [
  | inl known ↦ (valid.coll c known).room
  | inr past ↦ absurd (let none : coll_of shape c ≡ no_coll = get_or_past shape.colls c no_coll past in omega (arith, lt, ap (λ (coll : Collection). coll.slots) none))
]

-- an add is refused, or some slot could be claimed
refused_or_ripe : (shape : Layout) (epoch : ℕ) (first : Memory) (coll : ℕ) (answer : Done) (memory : Memory) → Told shape epoch first coll answer memory → IsFull answer ⊎ HasRipe shape epoch first coll
refused_or_ripe shape epoch first coll (done.Full _) memory told = inl tt
refused_or_ripe shape epoch first coll answer memory told = inr told

-- an add that is refused leaves the entries what they were
pub refused_same : (shape : Layout) (epoch : ℕ) (first : Memory) (coll : ℕ) (answer : Done) (memory : Memory) → Told shape epoch first coll answer memory → IsFull answer → SameStates first memory
refused_same shape epoch first coll (done.Full Slots) memory told full = still-state first memory told.0
refused_same shape epoch first coll (done.Full Entries) memory told full = told.0
refused_same shape epoch first coll answer memory told full = absurd full

module _ (opening : Opening) (shape : Layout) (valid : IsShape shape) (s : State) (k : Used opening shape s) (rest : IsAtRest shape s) (coll epoch : ℕ) where
  -- the slot of an object is valid
  pub holds_valid : (slot : ℕ) → HasOneObject shape s coll slot → dir_in s.memory coll slot ≡ dir.Valid
  holds_valid slot one = present_in_valid opening shape s k rest coll one.entry one.incarnation slot one.here

  -- where each slot has an object none could be claimed
  pub full-not_ripe : EachSlotHolds shape s coll → HasRipe shape epoch s.memory coll → ⊥
  full-not_ripe each (slot, lt, ripe) = let no : false ≡ true = ap (is_ripe_slot epoch) (sym (holds_valid slot (each slot lt))) ∙ ripe in absurd (cc)

  -- and so an add is refused, and for want of slots
  pub full-refused : EachSlotHolds shape s coll → (answer : Done) (memory : Memory) → Told shape epoch s.memory coll answer memory → IsFull answer
  full-refused each answer memory told = elim (refused_or_ripe shape epoch s.memory coll answer memory told) [ inl full ↦ full | inr ripe ↦ absurd (full-not_ripe each ripe) ]

  pub full-same : EachSlotHolds shape s coll → (answer : Done) (memory : Memory) → Told shape epoch s.memory coll answer memory → IsFull answer → Still s.memory memory
  full-same each (done.Full Slots) memory told full = told.0
  full-same each (done.Full Entries) memory told full = absurd (full-not_ripe each told.1)
  full-same each answer memory told full = absurd full

  module _ (old_slots : (slot stamp : ℕ) → dir_in s.memory coll slot ≡ dir.Limbo stamp → stamp + 2 ≤ epoch)
      (old_entries : (entry last stamp : ℕ) → state_in s.memory coll entry ≡ state.Free last stamp → stamp + 2 ≤ epoch) where
    ripe-old : (stamp : ℕ) → stamp + 2 ≤ epoch → is_ripe epoch stamp ≡ true
    ripe-old stamp old = grind (arith, nat_tests, old)

    -- a slot that could not be claimed has an object
    unripe-holds : (slot : ℕ) → slot < slots_of shape coll → is_ripe_slot epoch (dir_in s.memory coll slot) ≡ false → HasOneObject shape s coll slot
    unripe-holds slot lt unripe = go (dir_in s.memory coll slot) refl
      where
        go : (d : Dir) → dir_in s.memory coll slot ≡ d → HasOneObject shape s coll slot
        go dir.Valid e = one_in_valid opening shape s k rest coll slot lt e
        go dir.Free e = absurd (let no : true ≡ false = ap (is_ripe_slot epoch) (sym e) ∙ unripe in cc)
        go (dir.Limbo stamp) e = absurd (let no : true ≡ false = sym (ripe-old stamp (old_slots slot stamp e)) ∙ (ap (is_ripe_slot epoch) (sym e) ∙ unripe) in cc)
        go dir.Claimed e = absurd (none_claimed opening shape s k rest coll slot e)
        go dir.Incoming e = absurd (none_incoming opening shape s k rest coll slot e)

    -- the incarnation of a free entry is one that entries have
    free-within : (entry last stamp : ℕ) → entry < entries_of shape coll → state_in s.memory coll entry ≡ state.Free last stamp → last < INCARNATIONS
    free-within entry last stamp lt e = go (s.memory (place.Entry coll entry)) (k.everything.whole.ranges.memory (place.Entry coll entry) lt) e
      where
        go : (w : Word) → InWord shape (place.Entry coll entry) w → state_of w ≡ state.Free last stamp → last < INCARNATIONS
        go (word.Entry own) r is = (subst (InState shape coll) is r).0
        go (word.Plain _) r is = absurd r
        go (word.Round _) r is = absurd r
        go (word.Directory _) r is = absurd r
        go (word.Back _) r is = absurd r
        go (word.Forward _) r is = absurd r

    -- the slot of the object that an entry has
    abbrev slot_of_entry : E.State → ℕ
    slot_of_entry (state.Present own slot) = slot
    slot_of_entry _ = 0

    -- an entry that could not be claimed has its object
    record HasObject (entry : ℕ) : Type 0 where
      incarnation : ℕ
      here : state_in s.memory coll entry ≡ state.Present incarnation (slot_of_entry (state_in s.memory coll entry))

    unclaimed-has : NoneSpent shape s coll → (entry : ℕ) → entry < entries_of shape coll → can_claim epoch (state_in s.memory coll entry) ≡ false → HasObject entry
    unclaimed-has unspent entry lt no_claim = go (state_in s.memory coll entry) refl (entry_at_rest opening shape s k rest coll entry lt)
      where
        claimable : (entry last stamp : ℕ) → entry < entries_of shape coll → state_in s.memory coll entry ≡ state.Free last stamp → is_ripe_entry epoch last stamp ≡ true
        claimable entry last stamp lt e = grind (arith, nat_tests, old_entries entry last stamp e, unspent entry last stamp lt e, free-within entry last stamp lt e)

        go : (w : E.State) → state_in s.memory coll entry ≡ w → IsEntryAtRest shape s.memory coll w → HasObject entry
        go (state.Present own slot) e r = record { incarnation = own; here = e ∙ ap (state.Present own) (ap slot_of_entry (sym e)) }
        go (state.Free last stamp) e r = absurd (let no : true ≡ false = sym (claimable entry last stamp lt e) ∙ (ap (can_claim epoch) (sym e) ∙ no_claim) in cc)
        go (state.Claimed own) e r = absurd r
        go (state.Frozen own slot) e r = absurd r
        go (state.Locked own slot) e r = absurd r
        go (state.Removed own slot f l) e r = absurd r

    -- not all entries have objects where some slot has none
    entries_left : NoneSpent shape s coll → HasRipe shape epoch s.memory coll → ((x : ℕ) → x < entries_of shape coll → can_claim epoch (state_in s.memory coll x) ≡ false) → ⊥
    entries_left unspent (hole, lt, ripe) none =
        let has : (e : ℕ) → e < entries_of shape coll → HasObject e = λ e le. unclaimed-has unspent e le (none e le) in
        let at : ℕ → ℕ = λ e. slot_of_entry (state_in s.memory coll e) in
        let fewer : entries_of shape coll < slots_of shape coll = apart_fewer (entries_of shape coll) (slots_of shape coll) hole at lt
        (λ e le. present_within opening shape s k rest coll e (has e le).incarnation (at e) le (has e le).here)
        (λ e le is. let no : false ≡ true = ap (is_ripe_slot epoch) (sym (present_in_valid opening shape s k rest coll e (has e le).incarnation (at e) (has e le).here) ∙ ap (dir_in s.memory coll) is) ∙ ripe in absurd (cc))
        (λ e f le lf is. one_object opening shape s k rest coll (at e) e f (has e le).incarnation (has f lf).incarnation (has e le).here ((has f lf).here ∙ ap (state.Present (has f lf).incarnation) (sym is))) in
        absurd (omega (arith, fewer, room shape coll hole valid lt))

    -- an add that is refused finds each slot with an object
    pub refused-full : NoneSpent shape s coll → (answer : Done) (memory : Memory) → Told shape epoch s.memory coll answer memory → IsFull answer → EachSlotHolds shape s coll
    refused-full unspent (done.Full Slots) memory told full slot lt = unripe-holds slot lt (told.1 slot lt)
    refused-full unspent (done.Full Entries) memory told full slot lt = absurd (entries_left unspent told.1 told.2)
    refused-full unspent answer memory told full slot lt = absurd full
