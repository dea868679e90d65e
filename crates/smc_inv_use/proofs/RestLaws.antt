-- What slots and entries are where no call is in progress, from what every state keeps.
use Rattle.std.proofs.Common.{◌≡◌, ◌≢◌, ℕ, ◌<◌, Option, Some, None, refl, sym, ◌∙◌, subst, inl, inr, arith}
use Rattle.std.specs.Prelude.{IsTrue}
use Rattle.std.proofs.lemmas.Bool.Decides.{nat_tests}
use Rattle.smc_words.specs.declared.dir.Dir.{Dir}
use Rattle.smc_words.specs.declared.dir.Dir.TheVariants as dir
use Rattle.smc_shape.specs.Layout.{Layout, slots_of, entries_of}
use Rattle.smc_shape.specs.declared.place.Place.TheVariants as place
use Rattle.smc_core.specs.declared.local.Opening.{Opening}
use Rattle.smc_core.specs.declared.phase.Phase.{Phase}
use Rattle.smc_core.specs.declared.phase.Phase.TheVariants as phase
use Rattle.smc_core.specs.declared.word.State as E
use Rattle.smc_core.specs.declared.word.State.TheVariants as state
use Rattle.smc_core.specs.declared.word.Word.{Word}
use Rattle.smc_core.specs.declared.word.Word.TheVariants as word
use Rattle.smc_core.specs.Words.{back_of, state_of, has_object_at}
use Rattle.smc_rules.specs.Calls.{claimed_slot, claimed_number}
use Rattle.smc_rules.specs.Reads.{round_in, state_in, dir_in, back_in, object}
use Rattle.smc_rules.specs.State.{State}
use Rattle.smc_inv_range.specs.Ranges.{InWord, InState}
use Rattle.smc_agreement.specs.Entries.{stands_at, IsRemoved, IsPlaced, IsRoundOf}
use Rattle.smc_agreement.specs.Parts.{lives_in, source_left, removed_by}
use Rattle.smc_agreement.proofs.Whole.{Shut, shut, claims, objects, moves, ranges}
use Rattle.smc_laws.proofs.SlotLaws.{slot_rule}
use Rattle.smc_aside.specs.Aside.{IsResting}
use Rattle.smc_inv_use.specs.Rest.{IsAtRest, HasOneObject, IsSlotAtRest, IsEntryAtRest}
use Rattle.smc_inv_use.specs.Uses.{IsUsed}
use Rattle.smc_inv_use.proofs.Used.{Used}

-- a call at rest has claimed nothing, has removed nothing, and uses no slot
record Owes (next : Phase) : Type 0 where
  no_slot : claimed_slot next ≡ None
  no_number : claimed_number next ≡ None
  no_remove : removed_by next ≡ None
  no_life : lives_in next ≡ None
  no_source : source_left next ≡ None

owes : (next : Phase) → IsResting next → Owes next
owes phase.Idle rest = record { no_slot = refl; no_number = refl; no_remove = refl; no_life = refl; no_source = refl }
owes (phase.Advancing epoch other) rest = record { no_slot = refl; no_number = refl; no_remove = refl; no_life = refl; no_source = refl }
owes (phase.Ready epoch) rest = record { no_slot = refl; no_number = refl; no_remove = refl; no_life = refl; no_source = refl }
owes phase.Entering rest = elim rest [ ]
owes (phase.Look _) rest = elim rest [ ]
owes (phase.Add _) rest = elim rest [ ]
owes (phase.Remove _) rest = elim rest [ ]
owes (phase.Scan _) rest = elim rest [ ]
owes (phase.Begin _) rest = elim rest [ ]
owes (phase.Finish _) rest = elim rest [ ]
owes (phase.Cancel _) rest = elim rest [ ]
owes (phase.Survey _) rest = elim rest [ ]

none-some : {A : Type 0} {x : Option A} {y : A} → x ≡ None → x ≡ Some y → ⊥
none-some n s = let no : None ≡ Some _ = sym n ∙ s in cc

module _ (opening : Opening) (shape : Layout) (s : State) (k : Used opening shape s) (rest : IsAtRest shape s) where
  closed : Shut shape s
  closed = shut k.everything.whole

  nothing : (i : ℕ) → i < shape.passes → Owes (s.stands i).phase
  nothing i li = owes (s.stands i).phase (rest.resting i li)

  -- nothing is claimed
  pub none_claimed : (c slot : ℕ) → dir_in s.memory c slot ≢ dir.Claimed
  none_claimed c slot is = let (i, li, by) = (claims closed).claimed c slot is in none-some (nothing i li).no_slot by

  pub none_taken : (c e a : ℕ) → state_in s.memory c e ≢ state.Claimed a
  none_taken c e a is = let (i, li, by) = (claims closed).taken c a e is in none-some (nothing i li).no_number by

  -- no removed object is still to leave its entry
  pub none_removed : (c e a : ℕ) → IsRemoved a (state_in s.memory c e) → ⊥
  none_removed c e a is = let (i, li, by) = (claims closed).removed c a e is in none-some (nothing i li).no_remove by

  roundless : (c : ℕ) → IsRoundOf c (round_in s.memory) → ⊥
  roundless c is = subst (IsRoundOf c) rest.no_round is

  -- no object is to move
  pub none_incoming : (c slot : ℕ) → dir_in s.memory c slot ≢ dir.Incoming
  none_incoming c slot is = roundless c ((moves closed).incoming_round c slot is)

  -- an object that stands in an entry is present, without marks
  pub only_present : (c e a slot : ℕ) → stands_at (state_in s.memory c e) ≡ Some (a, slot) → state_in s.memory c e ≡ state.Present a slot
  only_present c e a slot is = go (state_in s.memory c e) refl is
    where
      go : (w : E.State) → state_in s.memory c e ≡ w → stands_at w ≡ Some (a, slot) → state_in s.memory c e ≡ state.Present a slot
      go (state.Present own there) at is = grind (arith, at, is)
      go (state.Frozen own there) at is = absurd (roundless c ((moves closed).frozen c own e there at).0)
      go (state.Locked own there) at is = absurd (roundless c ((moves closed).locked c own e there at).0)
      go (state.Removed own there f l) at is = absurd (none_removed c e own (subst (IsRemoved own) (sym at) refl))
      go (state.Free last stamp) at is = absurd (cc)
      go (state.Claimed own) at is = absurd (cc)

  -- two objects never stand in one slot
  pub one_object : (c slot e f a b : ℕ) → state_in s.memory c e ≡ state.Present a slot → state_in s.memory c f ≡ state.Present b slot → e ≡ f
  one_object c slot e f a b ie jf = grind (arith, ie, jf, (objects closed).standing c a e slot, (objects closed).standing c b f slot)

  -- the owner of a slot is an entry of its collection
  owner_within : (c slot e a : ℕ) → slot < slots_of shape c → back_in s.memory c slot ≡ Some (object a e c) → e < entries_of shape c
  owner_within c slot e a lt is = go (s.memory (place.Back c slot)) ((ranges closed).memory (place.Back c slot) lt) is
    where
      go : (w : Word) → InWord shape (place.Back c slot) w → back_of w ≡ Some (object a e c) → e < entries_of shape c
      go (word.Back None) r is = absurd (cc)
      go (word.Back (Some number)) r is = grind (arith, r.entry, is)
      go (word.Plain _) r is = absurd r
      go (word.Round _) r is = absurd r
      go (word.Entry _) r is = absurd r
      go (word.Directory _) r is = absurd r
      go (word.Forward _) r is = absurd r

  -- a valid slot has one object
  pub one_in_valid : (c slot : ℕ) → slot < slots_of shape c → dir_in s.memory c slot ≡ dir.Valid → HasOneObject shape s c slot
  one_in_valid c slot lt is = go (k.uses.u_slot c slot is)
    where
      go : IsUsed shape s.memory s.stands c slot → HasOneObject shape s c slot
      go (inr (inl (i, li, (a, e, by)))) = absurd (none-some (nothing i li).no_life by)
      go (inr (inr (i, li, by))) = absurd (none-some (nothing i li).no_source by)
      go (inl (a, e, stands)) =
          let here = only_present c e a slot stands in
          let within = owner_within c slot e a lt ((objects closed).standing c a e slot stands) in record {
            entry = e;
            incarnation = a;
            within = within;
            here = here;
            only = λ other again lt there. one_object c slot other e again a there here;
            home = (slot_rule opening shape s k.everything).home (object a e c) slot within (subst (λ (w : E.State). IsTrue (has_object_at a slot w)) (sym here) (grind (arith, nat_tests)));
          }

  pub slot_at_rest : (c slot : ℕ) → slot < slots_of shape c → IsSlotAtRest shape s c slot (dir_in s.memory c slot)
  slot_at_rest c slot lt = go (dir_in s.memory c slot) refl
    where
      go : (d : Dir) → dir_in s.memory c slot ≡ d → IsSlotAtRest shape s c slot d
      go dir.Free at = tt
      go (dir.Limbo stamp) at = tt
      go dir.Valid at = one_in_valid c slot lt at
      go dir.Claimed at = absurd (none_claimed c slot at)
      go dir.Incoming at = absurd (none_incoming c slot at)

  -- the slot of a present object is valid
  pub present_in_valid : (c e a slot : ℕ) → state_in s.memory c e ≡ state.Present a slot → dir_in s.memory c slot ≡ dir.Valid
  present_in_valid c e a slot is = go (dir_in s.memory c slot) refl ((objects closed).placed c a e slot (grind (arith, is)))
    where
      go : (d : Dir) → dir_in s.memory c slot ≡ d → IsPlaced d → dir_in s.memory c slot ≡ dir.Valid
      go dir.Valid at placed = at
      go dir.Incoming at placed = absurd (none_incoming c slot at)
      go dir.Free at placed = absurd placed
      go dir.Claimed at placed = absurd placed
      go (dir.Limbo stamp) at placed = absurd placed

  -- and one of its collection
  pub present_within : (c e a slot : ℕ) → e < entries_of shape c → state_in s.memory c e ≡ state.Present a slot → slot < slots_of shape c
  present_within c e a slot lt is = go (s.memory (place.Entry c e)) ((ranges closed).memory (place.Entry c e) lt) is
    where
      go : (w : Word) → InWord shape (place.Entry c e) w → state_of w ≡ state.Present a slot → slot < slots_of shape c
      go (word.Entry own) r is = (subst (InState shape c) is r).1
      go (word.Plain _) r is = absurd r
      go (word.Round _) r is = absurd r
      go (word.Directory _) r is = absurd r
      go (word.Back _) r is = absurd r
      go (word.Forward _) r is = absurd r

  pub entry_at_rest : (c e : ℕ) → e < entries_of shape c → IsEntryAtRest shape s.memory c (state_in s.memory c e)
  entry_at_rest c e lt = go (state_in s.memory c e) refl
    where
      go : (w : E.State) → state_in s.memory c e ≡ w → IsEntryAtRest shape s.memory c w
      go (state.Free last stamp) at = tt
      go (state.Present own slot) at = (present_within c e own slot lt at, present_in_valid c e own slot at)
      go (state.Frozen own slot) at = absurd (roundless c ((moves closed).frozen c own e slot at).0)
      go (state.Locked own slot) at = absurd (roundless c ((moves closed).locked c own e slot at).0)
      go (state.Removed own slot f l) at = absurd (none_removed c e own (subst (IsRemoved own) (sym at) refl))
      go (state.Claimed own) at = absurd (none_taken c e own at)
