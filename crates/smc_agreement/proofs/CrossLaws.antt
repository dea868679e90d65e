-- What the parts of the agreement say together.
use Rattle.std.proofs.Common.{◌≡◌, ◌≢◌, ◌⊎◌, ℕ, ◌+◌, ◌<◌, ◌≤◌, Bool, true, false, Option, Some, None, List, [], ◌∷◌, length, slice_index, zero, suc, refl, sym, ap, subst, inl, inr, arith}
use Rattle.std.specs.Prelude.{nat_lt, if◌then◌else◌}
use Rattle.std.proofs.lemmas.Bool.{cases_Bool, cases_eq}
use Rattle.std.proofs.lemmas.Bool.Decides.{nat_tests}
use Rattle.smc_words.specs.declared.layout.TheConstants.{BLANK}
use Rattle.smc_core.specs.Add.{has_no_blank}
use Rattle.smc_words.specs.declared.dir.Dir.{Dir}
use Rattle.smc_words.specs.declared.dir.Dir.TheVariants as dir
use Rattle.smc_words.specs.declared.number.Number.{Number}
use Rattle.smc_shape.specs.Layout.{Layout, slots_of}
use Rattle.smc_shape.specs.declared.place.Place.TheVariants as place
use Rattle.smc_core.specs.declared.local.Owned.{Owned}
use Rattle.smc_core.specs.declared.phase.Phase.{Phase}
use Rattle.smc_core.specs.declared.phase.Phase.TheVariants as phase
use Rattle.smc_core.specs.declared.phase.moves.BeginPhase.{BeginPhase}
use Rattle.smc_core.specs.declared.phase.moves.BeginPhase.TheVariants as begin
use Rattle.smc_core.specs.declared.phase.moves.CancelPhase.TheVariants as cancel
use Rattle.smc_core.specs.declared.phase.moves.FinishPhase.{FinishPhase}
use Rattle.smc_core.specs.declared.phase.moves.FinishPhase.TheVariants as finish
use Rattle.smc_core.specs.declared.phase.moves.Targets.{Targets}
use Rattle.smc_core.specs.declared.phase.moves.Walk.{Walk}
use Rattle.smc_core.specs.declared.phase.objects.CopyPhase.{CopyPhase}
use Rattle.smc_core.specs.declared.phase.objects.CopyPhase.TheVariants as copy
use Rattle.smc_core.specs.declared.phase.objects.Seeker.{Seeker}
use Rattle.smc_core.specs.declared.phase.objects.Seeker.TheVariants as seeker
use Rattle.smc_core.specs.Look.{find, look_change, looking_change}
use Rattle.smc_core.specs.declared.call.Call.TheVariants as call
use Rattle.smc_core.specs.declared.call.Choice.TheVariants.{Start, Go}
use Rattle.smc_core.specs.declared.done.Done.TheVariants as done
use Rattle.smc_core.specs.declared.local.Held.{Held}
use Rattle.smc_core.specs.declared.phase.objects.LookPhase.TheVariants as look
use Rattle.smc_core.specs.Change.{look_started}
use Rattle.smc_core.specs.Local.{held_after}
use Rattle.smc_core.specs.Begin.{is_source, to_target, next_source, ends_round}
use Rattle.smc_core.specs.Ripe.{is_ripe_slot}
use Rattle.smc_core.specs.Row.{has_place}
use Rattle.smc_core.specs.Step.{tells, goes}
use Rattle.smc_model.specs.declared.event.Event.TheVariants as event
use Rattle.smc_core.specs.declared.phase.objects.RemovePhase.TheVariants as remove
use Rattle.smc_core.specs.declared.section.Section.{Section}
use Rattle.smc_core.specs.declared.section.Section.TheVariants.{Outside, Loaded, Announced, Again, Lasting, Inside}
use Rattle.smc_core.specs.declared.word.State.{State}
use Rattle.smc_core.specs.declared.word.State.TheVariants as state
use Rattle.smc_core.specs.declared.word.Word.{Word}
use Rattle.smc_core.specs.declared.word.Word.TheVariants as word
use Rattle.smc_core.specs.Words.{back_of, state_of}
use Rattle.smc_core.specs.Offer.{held_slot}
use Rattle.smc_core.specs.Section.{epoch_of}
use Rattle.smc_rules.specs.Calls.{sources_of, targets_of, copying_of}
use Rattle.smc_rules.specs.Reads.{round_in, state_in, dir_in, back_in, forward_in, object}
use Rattle.smc_rules.specs.State as S
use Rattle.smc_inv_range.specs.Calls.{InBegin, InPhase}
use Rattle.smc_inv_range.specs.Ranges.{InWord}
use Rattle.smc_agreement.specs.Agreement.{IsHeldIn}
use Rattle.smc_agreement.specs.Entries.{stands_at, present_at, unlocked_at, IsRemoved, IsPlaced, IsRoundOf}
use Rattle.smc_agreement.specs.Parts.{origin_of, Owns, OwnsIn, IsWithin, MayFinish, CallKnows, removed_by, locks_of, moving_to, copied_by}
use Rattle.smc_agreement.proofs.Whole.{Shut, calls, claims, objects, moves, ranges, rounds, sections, owner, owned, the_owner}

-- one of two cases
pub by_eq : {P : Type 0} (i p : ℕ) → (i ≡ p → P) → (i ≢ p → P) → P
by_eq i p f g = elim (cases_eq i p) [ inl y ↦ f y | inr n ↦ g n ]

pub by_true : {P : Type 0} (b : Bool) → (b ≡ true → P) → (b ≡ false → P) → P
by_true b f g = elim (cases_Bool b) [ inl y ↦ f y | inr n ↦ g n ]

-- the sources of a begin are slots above the kept ones, its targets among these
abbrev pub IsAbove : Layout → Option Walk → Option Walk → Type 0
IsAbove shape None targets = Unit {0}
IsAbove shape (Some moves) None = (moves.kept ≤ moves.source) × (moves.source < slots_of shape moves.coll)
IsAbove shape (Some moves) (Some same) = (moves.kept ≤ moves.source) × (moves.source < slots_of shape moves.coll) × (moves.target < moves.kept)

above : (shape : Layout) (next : BeginPhase) → InBegin shape next → IsAbove shape (sources_of next) (targets_of next)
above shape (begin.Count next) r = tt
above shape (begin.Nothing coll) r = tt
above shape (begin.SourceDirectory moves) r = (r.1, r.0)
above shape (begin.SourceBack moves) r = (r.1, r.0)
above shape (begin.SourceEntry moves number) r = (r.0.1, r.0.0)
above shape (begin.TargetDirectory moves number) r = (r.0.0.1, r.0.0.0, r.1)
above shape (begin.ClaimTarget moves number seen) r = (r.0.0.0.1, r.0.0.0.0, r.0.1)
above shape (begin.BlankField moves number field) r = (r.0.0.0.1, r.0.0.0.0, r.0.1)
above shape (begin.StoreBack moves number) r = (r.0.0.1, r.0.0.0, r.1)
above shape (begin.StoreForward moves number) r = (r.0.0.1, r.0.0.0, r.1)
above shape (begin.StoreIncoming moves number) r = (r.0.0.1, r.0.0.0, r.1)
above shape (begin.Freeze moves number) r = (r.0.0.1, r.0.0.0, r.1)
above shape (begin.GiveUp moves) r = (r.0.1, r.0.0, r.1)

pub below : (shape : Layout) (s : S.State) → Shut shape s → (p : ℕ) → p < shape.passes → (next : BeginPhase) → (s.stands p).phase ≡ phase.Begin next
    → IsAbove shape (sources_of next) (targets_of next)
below shape s h p in_n next at_call = above shape next (subst (InPhase shape (s.stands p).words) at_call ((ranges h).stands p in_n).phase)

-- a call of a round's owner is about objects of its own collection
abbrev pub IsHomed : Phase → Type 0
IsHomed (phase.Begin (begin.SourceEntry moves number)) = number.coll ≡ moves.coll
IsHomed (phase.Begin (begin.TargetDirectory moves number)) = number.coll ≡ moves.coll
IsHomed (phase.Begin (begin.ClaimTarget moves number seen)) = number.coll ≡ moves.coll
IsHomed (phase.Begin (begin.BlankField moves number field)) = number.coll ≡ moves.coll
IsHomed (phase.Begin (begin.StoreBack moves number)) = number.coll ≡ moves.coll
IsHomed (phase.Begin (begin.StoreForward moves number)) = number.coll ≡ moves.coll
IsHomed (phase.Begin (begin.StoreIncoming moves number)) = number.coll ≡ moves.coll
IsHomed (phase.Begin (begin.Freeze moves number)) = number.coll ≡ moves.coll
IsHomed (phase.Finish (finish.Entry targets number)) = number.coll ≡ targets.coll
IsHomed (phase.Finish (finish.Lock targets number source)) = number.coll ≡ targets.coll
IsHomed (phase.Finish (finish.Move targets number source next)) = number.coll ≡ targets.coll
IsHomed (phase.Cancel (cancel.Entry coll slot number)) = number.coll ≡ coll
IsHomed (phase.Cancel (cancel.Unfreeze coll slot number source)) = number.coll ≡ coll
IsHomed _ = Unit {0}

home : (shape : Layout) (words : List ℕ) (next : Phase) → InPhase shape words next → IsHomed next
home shape words (phase.Begin (begin.SourceEntry moves number)) r = r.1.home
home shape words (phase.Begin (begin.TargetDirectory moves number)) r = r.0.1.home
home shape words (phase.Begin (begin.ClaimTarget moves number seen)) r = r.0.0.1.home
home shape words (phase.Begin (begin.BlankField moves number field)) r = r.0.0.1.home
home shape words (phase.Begin (begin.StoreBack moves number)) r = r.0.1.home
home shape words (phase.Begin (begin.StoreForward moves number)) r = r.0.1.home
home shape words (phase.Begin (begin.StoreIncoming moves number)) r = r.0.1.home
home shape words (phase.Begin (begin.Freeze moves number)) r = r.0.1.home
home shape words (phase.Begin (begin.Count next)) r = tt
home shape words (phase.Begin (begin.Nothing coll)) r = tt
home shape words (phase.Begin (begin.SourceDirectory moves)) r = tt
home shape words (phase.Begin (begin.SourceBack moves)) r = tt
home shape words (phase.Begin (begin.GiveUp moves)) r = tt
home shape words (phase.Finish (finish.Entry targets number)) r = r.1.home
home shape words (phase.Finish (finish.Lock targets number source)) r = r.1.home
home shape words (phase.Finish (finish.Move targets number source next)) r = r.1.home
home shape words (phase.Finish (finish.Directory targets)) r = tt
home shape words (phase.Finish (finish.Back targets)) r = tt
home shape words (phase.Finish (finish.Settle targets source)) r = tt
home shape words (phase.Finish (finish.LeaveSource targets source)) r = tt
home shape words (phase.Finish (finish.GiveUp targets gone)) r = tt
home shape words (phase.Finish (finish.End targets)) r = tt
home shape words (phase.Cancel (cancel.Entry coll slot number)) r = r.1.home
home shape words (phase.Cancel (cancel.Unfreeze coll slot number source)) r = r.1.home
home shape words (phase.Cancel (cancel.Directory coll slot)) r = tt
home shape words (phase.Cancel (cancel.Back coll slot)) r = tt
home shape words (phase.Cancel (cancel.GiveUp coll slot)) r = tt
home shape words (phase.Cancel cancel.End) r = tt
home shape words phase.Idle r = tt
home shape words phase.Entering r = tt
home shape words (phase.Advancing epoch other) r = tt
home shape words (phase.Ready epoch) r = tt
home shape words (phase.Look next) r = tt
home shape words (phase.Add next) r = tt
home shape words (phase.Remove next) r = tt
home shape words (phase.Scan next) r = tt
home shape words (phase.Survey next) r = tt

pub homes : (shape : Layout) (s : S.State) → Shut shape s → (i : ℕ) → i < shape.passes → IsHomed (s.stands i).phase
homes shape s h i li = home shape (s.stands i).words (s.stands i).phase ((ranges h).stands i li).phase

-- the owner of a slot is of the slot's collection
pub back_home : (shape : Layout) (s : S.State) → Shut shape s → (c slot a e d : ℕ) → slot < slots_of shape c → back_in s.memory c slot ≡ Some (object a e d) → d ≡ c
back_home shape s h c slot a e d lt is = go (s.memory (place.Back c slot)) refl ((ranges h).memory (place.Back c slot) lt)
  where
    go : (w : Word) → s.memory (place.Back c slot) ≡ w → InWord shape (place.Back c slot) w → d ≡ c
    go (word.Back (Some number)) q r = let named : back_of (word.Back (Some number)) ≡ Some (object a e d) = subst (λ (w : Word). back_of w ≡ Some (object a e d)) q is in grind (arith, named, r.home)
    go (word.Back None) q r = let named : back_of (word.Back None) ≡ Some (object a e d) = subst (λ (w : Word). back_of w ≡ Some (object a e d)) q is in absurd (cc)
    go (word.Plain n) q r = absurd r
    go (word.Round n) q r = absurd r
    go (word.Entry n) q r = absurd r
    go (word.Directory n) q r = absurd r
    go (word.Forward n) q r = absurd r

owns_bound : (o : Option Owned) → Owns o → (b c : ℕ) × (o ≡ Some (record { bound = b; coll = c }))
owns_bound None h = absurd h
owns_bound (Some owned) h = (owned.bound, owned.coll, refl)

pub late_bound : (o : Option Owned) (x c : ℕ) → MayFinish x c o → (b : ℕ) × (o ≡ Some (record { bound = b; coll = c })) × (b + 2 ≤ x)
late_bound None x c h = absurd h
late_bound (Some owned) x c h = (owned.bound, subst (λ (k : ℕ). Some owned ≡ Some (record { bound = owned.bound; coll = k })) h.0 refl, h.1)

-- only a finish that moves an object has locked it
pub lock_call : (next : Phase) (t : ℕ) (n : Number) → locks_of next ≡ Some (t, n)
    → (g : Targets) × (source : ℕ) × (stage : CopyPhase) × (next ≡ phase.Finish (finish.Move g n source stage)) × (g.slot ≡ t)
lock_call (phase.Finish next) t n is = go next is
  where
    go : (next : FinishPhase) → locks_of (phase.Finish next) ≡ Some (t, n)
        → (g : Targets) × (source : ℕ) × (stage : CopyPhase) × (phase.Finish next ≡ phase.Finish (finish.Move g n source stage)) × (g.slot ≡ t)
    go (finish.Move g m source stage) e =
        let same : m ≡ n = grind (arith, e) in
        (g, source, stage, ap (λ (k : Number). phase.Finish (finish.Move g k source stage)) same, grind (arith, e))
    go (finish.Directory g) e = absurd (cc)
    go (finish.Back g) e = absurd (cc)
    go (finish.Entry g m) e = absurd (cc)
    go (finish.Lock g m source) e = absurd (cc)
    go (finish.Settle g source) e = absurd (cc)
    go (finish.LeaveSource g source) e = absurd (cc)
    go (finish.GiveUp g gone) e = absurd (cc)
    go (finish.End g) e = absurd (cc)
lock_call phase.Idle t n is = absurd (cc)
lock_call phase.Entering t n is = absurd (cc)
lock_call (phase.Advancing epoch other) t n is = absurd (cc)
lock_call (phase.Ready epoch) t n is = absurd (cc)
lock_call (phase.Look next) t n is = absurd (cc)
lock_call (phase.Add next) t n is = absurd (cc)
lock_call (phase.Remove next) t n is = absurd (cc)
lock_call (phase.Scan next) t n is = absurd (cc)
lock_call (phase.Begin next) t n is = absurd (cc)
lock_call (phase.Cancel next) t n is = absurd (cc)
lock_call (phase.Survey next) t n is = absurd (cc)

-- a round that is in progress, and a pass that owns one: it is of that pass's collection
pub in_round : (shape : Layout) (s : S.State) → Shut shape s → (p c : ℕ) → p < shape.passes → Owns (s.stands p).round → IsRoundOf c (round_in s.memory) → OwnsIn (Some c) (s.stands p).round
in_round shape s h p c lp o is = go (s.stands p).round refl o
  where
    go : (r : Option Owned) → (s.stands p).round ≡ r → Owns r → OwnsIn (Some c) r
    go None e o = absurd o
    go (Some r) e o = subst (IsRoundOf c) (owner shape s h p r.bound r.coll lp e) is

-- no word of a record without blanks is blank
pub no_blank_words : (words : List ℕ) → has_no_blank words ≡ true → (k : ℕ) → k < length words → slice_index words k ≢ BLANK
no_blank_words [] t k lt = grind (arith, nat_tests)
no_blank_words (w ∷ words) t zero lt = grind (arith, nat_tests)
no_blank_words (w ∷ words) t (suc k) lt = no_blank_words words (grind (arith, nat_tests)) k (omega arith)

-- a look-up's first load begins to copy only an object that it finds locked, and not in a calm section
pub load_copies : (shape : Layout) (who : Seeker) (cm : Bool) (a e c : ℕ) (w : State) (a' e' c' s' : ℕ) (n' : CopyPhase)
    → copying_of (look_change shape who (object a e c) (find cm a w)).phase ≡ Some (record { number = object a' e' c'; source = s'; next = n' })
    → (a' ≡ a) × (e' ≡ e) × (c' ≡ c) × (w ≡ state.Locked a s') × (n' ≡ copy.Target)
load_copies shape seeker.Caller cm a e c w a' e' c' s' n' is = go w refl
  where
    go : (v : State) → w ≡ v → (a' ≡ a) × (e' ≡ e) × (c' ≡ c) × (w ≡ state.Locked a s') × (n' ≡ copy.Target)
    go (state.Present b s) q = absurd (grind (arith, nat_tests))
    go (state.Frozen b s) q = absurd (grind (arith, nat_tests))
    go (state.Locked b s) q = grind (arith, nat_tests)
    go (state.Removed b s f l) q = absurd (grind (arith, nat_tests))
    go (state.Free b s) q = absurd (grind (arith, nat_tests))
    go (state.Claimed b) q = absurd (grind (arith, nat_tests))
load_copies shape (seeker.Scan k d t) cm a e c w a' e' c' s' n' is = go w refl
  where
    go : (v : State) → w ≡ v → (a' ≡ a) × (e' ≡ e) × (c' ≡ c) × (w ≡ state.Locked a s') × (n' ≡ copy.Target)
    go (state.Present b s) q = absurd (grind (arith, nat_tests))
    go (state.Frozen b s) q = absurd (grind (arith, nat_tests))
    go (state.Locked b s) q = grind (arith, nat_tests)
    go (state.Removed b s f l) q = absurd (grind (arith, nat_tests))
    go (state.Free b s) q = absurd (grind (arith, nat_tests))
    go (state.Claimed b) q = absurd (grind (arith, nat_tests))

-- the same of the step that starts a caller's look-up
pub start_copies : (shape : Layout) (cm : Bool) (a e c : ℕ) (w : Word) (a' e' c' s' : ℕ) (n' : CopyPhase) → has_place shape (place.Entry c e) ≡ true
    → copying_of (look_started shape cm (object a e c) w).phase ≡ Some (record { number = object a' e' c'; source = s'; next = n' })
    → (a' ≡ a) × (e' ≡ e) × (c' ≡ c) × (state_of w ≡ state.Locked a s') × (n' ≡ copy.Target)
start_copies shape cm a e c w a' e' c' s' n' here is = load_copies shape seeker.Caller cm a e c (state_of w) a' e' c' s' n'
    (subst (λ (b : Bool). copying_of (if b then looking_change shape cm (look.Load seeker.Caller (object a e c)) w else tells (event.Look (object a e c) false) done.Null).phase ≡ Some (record { number = object a' e' c'; source = s'; next = n' })) here is)

-- what a section holds after a look-up's first load: what it held, or the object, where it found it unlocked
pub load_holds : (shape : Layout) (who : Seeker) (cm : Bool) (a e c : ℕ) (w : State) (held : List Held) (a' e' c' s' : ℕ)
    → (cm ≡ true → (s : ℕ) → w ≢ state.Locked a s)
    → held_slot (held_after held Go (look_change shape who (object a e c) (find cm a w)).holds) (object a' e' c') ≡ Some s'
    → (held_slot held (object a' e' c') ≡ Some s') ⊎ ((a' ≡ a) × (e' ≡ e) × (c' ≡ c) × (unlocked_at w ≡ Some (a, s')))
load_holds shape seeker.Caller cm a e c w held a' e' c' s' never is = go w refl
  where
    go : (v : State) → w ≡ v → (held_slot held (object a' e' c') ≡ Some s') ⊎ ((a' ≡ a) × (e' ≡ e) × (c' ≡ c) × (unlocked_at w ≡ Some (a, s')))
    go (state.Present b s) q = grind (arith, nat_tests)
    go (state.Frozen b s) q = grind (arith, nat_tests)
    go (state.Locked b s) q = grind (arith, nat_tests, never)
    go (state.Removed b s f l) q = inl (grind (arith, nat_tests))
    go (state.Free b s) q = inl (grind (arith, nat_tests))
    go (state.Claimed b) q = inl (grind (arith, nat_tests))
load_holds shape (seeker.Scan k d t) cm a e c w held a' e' c' s' never is = go w refl
  where
    go : (v : State) → w ≡ v → (held_slot held (object a' e' c') ≡ Some s') ⊎ ((a' ≡ a) × (e' ≡ e) × (c' ≡ c) × (unlocked_at w ≡ Some (a, s')))
    go (state.Present b s) q = grind (arith, nat_tests)
    go (state.Frozen b s) q = grind (arith, nat_tests)
    go (state.Locked b s) q = grind (arith, nat_tests, never)
    go (state.Removed b s f l) q = inl (grind (arith, nat_tests))
    go (state.Free b s) q = inl (grind (arith, nat_tests))
    go (state.Claimed b) q = inl (grind (arith, nat_tests))

pub start_holds : (shape : Layout) (cm : Bool) (a e c : ℕ) (w : Word) (held : List Held) (a' e' c' s' : ℕ) → has_place shape (place.Entry c e) ≡ true
    → (cm ≡ true → (s : ℕ) → state_of w ≢ state.Locked a s)
    → held_slot (held_after held (Start (call.Look (object a e c))) (look_started shape cm (object a e c) w).holds) (object a' e' c') ≡ Some s'
    → (held_slot held (object a' e' c') ≡ Some s') ⊎ ((a' ≡ a) × (e' ≡ e) × (c' ≡ c) × (unlocked_at (state_of w) ≡ Some (a, s')))
start_holds shape cm a e c w held a' e' c' s' here never is =
    let at : held_slot (held_after held (Start (call.Look (object a e c))) (looking_change shape cm (look.Load seeker.Caller (object a e c)) w).holds) (object a' e' c') ≡ Some s' =
    subst (λ (b : Bool). held_slot (held_after held (Start (call.Look (object a e c))) (if b then looking_change shape cm (look.Load seeker.Caller (object a e c)) w else tells (event.Look (object a e c) false) done.Null).holds) (object a' e' c') ≡ Some s') here is in
    load_holds shape seeker.Caller cm a e c (state_of w) held a' e' c' s' never (subst (λ (l : List Held). held_slot l (object a' e' c') ≡ Some s') (same (looking_change shape cm (look.Load seeker.Caller (object a e c)) w).holds) at)
  where
    same : (o : Option Held) → held_after held (Start (call.Look (object a e c))) o ≡ held_after held Go o
    same None = refl
    same (Some pair) = refl

-- a begin finds a source only where the entry has the object there, unmarked
pub source_seen : (shape : Layout) (x : ℕ) (m : Walk) (n : Number) (w : State) (s' : ℕ) (n' : Number)
    → origin_of (if is_source n m.source w then to_target x m n else next_source shape x m).phase ≡ Some (s', n')
    → (w ≡ state.Present n.incarnation m.source) × (s' ≡ m.source) × (n' ≡ n)
source_seen shape x m n w s' n' is = go (is_source n m.source w) refl is
  where
    go : (b : Bool) → is_source n m.source w ≡ b → origin_of (if b then to_target x m n else next_source shape x m).phase ≡ Some (s', n')
        → (w ≡ state.Present n.incarnation m.source) × (s' ≡ m.source) × (n' ≡ n)
    go true t e = (grind (arith, nat_tests), grind (arith, nat_tests), grind (arith, nat_tests))
    go false t e = absurd (grind (arith, nat_tests))

-- a begin that claims a target holds nothing more
pub claim_holds : (x : ℕ) (m : Walk) (n : Number) (b : Bool) (next : Phase) (held : List Held) (sought : Number) (s' : ℕ)
    → held_slot (held_after held Go (if b then goes next else to_target x m n).holds) sought ≡ Some s' → held_slot held sought ≡ Some s'
claim_holds x m n true next held sought s' is = is
claim_holds x m n false next held sought s' is = go (nat_lt m.target m.kept) is
  where
    go : (b : Bool) → held_slot (held_after held Go (if b then goes (phase.Begin (begin.TargetDirectory m n)) else ends_round x m).holds) sought ≡ Some s' → held_slot held sought ≡ Some s'
    go true e = e
    go false e = e

module _ (sh : Layout) (st : S.State) (h : Shut sh st) where
  -- the slot of a removed object while its remove goes on
  pub gone_dir : (c a e s : ℕ) (f l : Bool) → state_in st.memory c e ≡ state.Removed a s f l
      → (i : ℕ) × (i < sh.passes) × IsWithin (st.stands i).section × (IsPlaced (dir_in st.memory c s) ⊎ (dir_in st.memory c s ≡ dir.Limbo (epoch_of (st.stands i).section + 1)))
  gone_dir c a e s f l is =
      let (i, li, by) = (claims h).removed c a e (subst (IsRemoved a) (sym is) refl) in
      (i, li, made-in (st.stands i).phase i refl li by, left_or_leaving (st.stands i).phase i refl li by)
    where
      made-in : (next : Phase) (i : ℕ) → (st.stands i).phase ≡ next → i < sh.passes → removed_by next ≡ Some (object a e c) → IsWithin (st.stands i).section
      made-in (phase.Remove next) i at li by = subst (λ (k : Phase). CallKnows (st.stands i).section (st.stands i).round k) at ((calls h).calls i li)
      made-in phase.Idle i at li by = absurd (cc)
      made-in phase.Entering i at li by = absurd (cc)
      made-in (phase.Advancing epoch other) i at li by = absurd (cc)
      made-in (phase.Ready epoch) i at li by = absurd (cc)
      made-in (phase.Look next) i at li by = absurd (cc)
      made-in (phase.Add next) i at li by = absurd (cc)
      made-in (phase.Scan next) i at li by = absurd (cc)
      made-in (phase.Begin next) i at li by = absurd (cc)
      made-in (phase.Finish next) i at li by = absurd (cc)
      made-in (phase.Cancel next) i at li by = absurd (cc)
      made-in (phase.Survey next) i at li by = absurd (cc)

      left_or_leaving : (next : Phase) (i : ℕ) → (st.stands i).phase ≡ next → i < sh.passes → removed_by next ≡ Some (object a e c)
          → IsPlaced (dir_in st.memory c s) ⊎ (dir_in st.memory c s ≡ dir.Limbo (epoch_of (st.stands i).section + 1))
      left_or_leaving (phase.Remove (remove.LeaveSlot slot number)) i at li by =
          inl (grind (arith, is, (calls h).c_leaving i c slot a e li, (calls h).c_limbos i c slot a e li))
      left_or_leaving (phase.Remove (remove.FreeEntry number)) i at li by = inr (grind (arith, is, (calls h).c_frees i c s a e li))
      left_or_leaving phase.Idle i at li by = absurd (cc)
      left_or_leaving phase.Entering i at li by = absurd (cc)
      left_or_leaving (phase.Advancing epoch other) i at li by = absurd (cc)
      left_or_leaving (phase.Ready epoch) i at li by = absurd (cc)
      left_or_leaving (phase.Look next) i at li by = absurd (cc)
      left_or_leaving (phase.Add next) i at li by = absurd (cc)
      left_or_leaving (phase.Scan next) i at li by = absurd (cc)
      left_or_leaving (phase.Begin next) i at li by = absurd (cc)
      left_or_leaving (phase.Finish next) i at li by = absurd (cc)
      left_or_leaving (phase.Cancel next) i at li by = absurd (cc)
      left_or_leaving (phase.Survey next) i at li by = absurd (cc)

  -- a slot where an object stands is not claimed
  pub not_claimed : (c a e s : ℕ) → stands_at (state_in st.memory c e) ≡ Some (a, s) → dir_in st.memory c s ≢ dir.Claimed
  not_claimed c a e s is claimed = go (state_in st.memory c e) refl
    where
      go : (w : State) → state_in st.memory c e ≡ w → ⊥
      go (state.Present b t) q = grind (arith, (objects h).placed c a e s)
      go (state.Frozen b t) q = grind (arith, (objects h).placed c a e s)
      go (state.Locked b t) q = grind (arith, (objects h).placed c a e s)
      go (state.Removed b t f l) q = let (i, li, w, d) = gone_dir c b e t f l q in grind arith
      go (state.Free b t) q = grind arith
      go (state.Claimed b) q = grind arith

  -- what is held when a look-up finds it unlocked
  pub hold_free : (x c a e s : ℕ) → unlocked_at (state_in st.memory c e) ≡ Some (a, s) → IsHeldIn st.memory x c a e s
  hold_free x c a e s is = grind (arith, (objects h).placed c a e s, (objects h).standing c a e s)

  -- the owner of a round that has locked an object
  pub lock_owner : (c a e s : ℕ) → state_in st.memory c e ≡ state.Locked a s
      → (j b : ℕ) × (j < sh.passes) × ((st.stands j).round ≡ Some (record { bound = b; coll = c })) × (round_in st.memory ≡ Some (record { bound = b; pass = j; coll = c }))
      × (locks_of (st.stands j).phase ≡ Some (forward_in st.memory c s, object a e c))
  lock_owner c a e s is =
      let (there, inc, nm, bl) = (moves h).locked c a e s is in
      let (j, b, lj, oj, r) = the_owner sh st h c there in
      (j, b, lj, oj, r, (moves h).locked_owner j c a e s lj (subst Owns (sym oj) tt) is)

  -- where an object is locked a look-up may copy it
  pub copy_start : (c a e s : ℕ) → state_in st.memory c e ≡ state.Locked a s
      → (back_in st.memory c s ≡ Some (object a e c)) × (s ≢ forward_in st.memory c s) × (dir_in st.memory c s ≡ dir.Valid)
      × (dir_in st.memory c (forward_in st.memory c s) ≡ dir.Incoming) × (back_in st.memory c (forward_in st.memory c s) ≡ Some (object a e c))
  copy_start c a e s is =
      let (there, inc, nm, bl) = (moves h).locked c a e s is in
      let (j, b, lj, oj, r, lo) = lock_owner c a e s is in
      let oj' : Owns (st.stands j).round = subst Owns (sym oj) tt in
      let settled : dir_in st.memory c s ≢ dir.Incoming = λ inc'. unlike (st.stands j).phase lo ((moves h).standing_in j c a e s lj oj' (grind (arith, is)) inc') bl in
      grind (arith, (objects h).placed c a e s, (objects h).standing c a e s)
    where
      unlike : (next : Phase) → locks_of next ≡ Some (forward_in st.memory c s, object a e c) → moving_to next ≡ Some (c, s) → forward_in st.memory c s < s → ⊥
      unlike next l m lt =
          let (g, source, stage, is, at) = lock_call next (forward_in st.memory c s) (object a e c) l in
          let there : moving_to (phase.Finish (finish.Move g (object a e c) source stage)) ≡ Some (c, s) = subst (λ (k : Phase). moving_to k ≡ Some (c, s)) is m in
          let same : g.slot ≡ s = grind (arith, there) in
          omega (arith, same, at, lt)

  -- no section that holds or copies a frozen object is left when its move may be finished
  pub late_held : (p x c a e s i q : ℕ) → p < sh.passes → i < sh.passes → MayFinish x c (st.stands p).round → state_in st.memory c e ≡ state.Frozen a s
      → held_slot (st.stands i).held (object a e c) ≡ Some q → epoch_of (st.stands i).section + 2 ≤ x
  late_held p x c a e s i q lp li late is hd =
      let (b, ob, lb) = late_bound (st.stands p).round x c late in
      let r : round_in st.memory ≡ Some (record { bound = b; pass = p; coll = c }) = owner sh st h p b c lp ob in
      omega (arith, (moves h).frozen_held i c a e s q (record { bound = b; pass = p; coll = c }) li is r hd)

  pub late_copy : (p x c a e s i : ℕ) → p < sh.passes → i < sh.passes → MayFinish x c (st.stands p).round → state_in st.memory c e ≡ state.Frozen a s
      → copied_by (st.stands i).phase ≡ Some (object a e c) → epoch_of (st.stands i).section + 2 ≤ x
  late_copy p x c a e s i lp li late is cp =
      let (b, ob, lb) = late_bound (st.stands p).round x c late in
      let r : round_in st.memory ≡ Some (record { bound = b; pass = p; coll = c }) = owner sh st h p b c lp ob in
      omega (arith, (moves h).frozen_copy i c a e s (record { bound = b; pass = p; coll = c }) li is r cp)

  -- nothing is locked while the owner of the round is not about a move
  pub unlocked : (p c a e s : ℕ) → p < sh.passes → Owns (st.stands p).round → locks_of (st.stands p).phase ≡ None → state_in st.memory c e ≡ state.Locked a s → ⊥
  unlocked p c a e s lp o n is = grind (arith, (moves h).locked_owner p c a e s lp o is)

  -- what a finish copies is not frozen without being locked
  abbrev pub IsNotFrozen : ℕ → State → Type 0
  IsNotFrozen a (state.Frozen b s) = b ≢ a
  IsNotFrozen a _ = Unit {0}

  pub thawed : (p c a e : ℕ) → p < sh.passes → MayFinish (epoch_of (st.stands p).section) c (st.stands p).round → copied_by (st.stands p).phase ≡ Some (object a e c)
      → IsNotFrozen a (state_in st.memory c e)
  thawed p c a e lp late cp = go (state_in st.memory c e) refl
    where
      go : (w : State) → state_in st.memory c e ≡ w → IsNotFrozen a w
      go (state.Frozen b s) q = λ y. omega (arith, late_copy p (epoch_of (st.stands p).section) c a e s p lp lp late (subst (λ (z : ℕ). state_in st.memory c e ≡ state.Frozen z s) y q) cp)
      go (state.Present b s) q = tt
      go (state.Locked b s) q = tt
      go (state.Removed b s f l) q = tt
      go (state.Free b t) q = tt
      go (state.Claimed b) q = tt

  -- no object is locked while a calm section lasts
  pub calm_unlocked : (p x c a e s : ℕ) → p < sh.passes → (st.stands p).section ≡ Inside x true → state_in st.memory c e ≡ state.Locked a s → ⊥
  calm_unlocked p x c a e s lp at_sec is =
      let (j, b, lj, oj, r, lo) = lock_owner c a e s is in
      let (g, source, stage, at, there) = lock_call (st.stands j).phase (forward_in st.memory c s) (object a e c) lo in
      let knows : CallKnows (st.stands j).section (Some (record { bound = b; coll = c })) (phase.Finish (finish.Move g (object a e c) source stage)) =
      subst (λ (k : Phase). CallKnows (st.stands j).section (Some (record { bound = b; coll = c })) k) at
      (subst (λ (o : Option Owned). CallKnows (st.stands j).section o (st.stands j).phase) oj ((calls h).calls j lj)) in
      late (st.stands j).section j b refl lj r knows.0 knows.1.1
    where
      late : (section : Section) (j b : ℕ) → (st.stands j).section ≡ section → j < sh.passes → round_in st.memory ≡ Some (record { bound = b; pass = j; coll = c })
          → IsWithin section → b + 2 ≤ epoch_of section → ⊥
      late (Inside y cm) j b e lj r w lt =
          let mine : x ≤ b = (rounds h).rule.calm_bound p x (record { bound = b; pass = j; coll = c }) lp at_sec r in
          let near-j = (rounds h).epochs.rule.near j y lj (grind (arith, e)) in
          let near-p = (rounds h).epochs.rule.near p x lp (grind (arith, at_sec)) in
          omega (arith, mine, near-j.0, near-p.1, lt)
      late Outside j b e lj r w lt = absurd w
      late (Loaded z) j b e lj r w lt = absurd w
      late (Announced z) j b e lj r w lt = absurd w
      late (Again z y) j b e lj r w lt = absurd w
      late (Lasting y) j b e lj r w lt = absurd w

  -- a present object is in a valid slot while the owner of the round is not about to settle it there
  pub at_rest : (p c a e s : ℕ) → p < sh.passes → Owns (st.stands p).round → moving_to (st.stands p).phase ≡ None → present_at (state_in st.memory c e) ≡ Some (a, s)
      → dir_in st.memory c s ≡ dir.Valid
  at_rest p c a e s lp o still is = go (dir_in st.memory c s) refl
    where
      stood : (w : State) → present_at w ≡ Some (a, s) → stands_at w ≡ Some (a, s)
      stood (state.Present b t) q = q
      stood (state.Frozen b t) q = q
      stood (state.Locked b t) q = q
      stood (state.Removed b t f l) q = absurd (cc)
      stood (state.Free b t) q = absurd (cc)
      stood (state.Claimed b) q = absurd (cc)

      in_use : IsPlaced (dir_in st.memory c s)
      in_use = (objects h).placed c a e s is

      go : (d : Dir) → dir_in st.memory c s ≡ d → dir_in st.memory c s ≡ dir.Valid
      go dir.Valid q = q
      go dir.Incoming q = let to = (moves h).standing_in p c a e s lp o (stood (state_in st.memory c e) is) q in absurd (cc)
      go dir.Free q = absurd (subst IsPlaced q in_use)
      go dir.Claimed q = absurd (subst IsPlaced q in_use)
      go (dir.Limbo t) q = absurd (subst IsPlaced q in_use)

  -- the target that a begin means to claim was ripe when it was seen
  pub ripe_target : (p x : ℕ) (cm : Bool) (m : Walk) (n : Number) (d : Dir) → p < sh.passes → (st.stands p).section ≡ Inside x cm
      → (st.stands p).phase ≡ phase.Begin (begin.ClaimTarget m n d) → is_ripe_slot x d ≡ true
  ripe_target p x cm m n d lp at_sec at_call =
      let knows : CallKnows (Inside x cm) (st.stands p).round (phase.Begin (begin.ClaimTarget m n d)) =
      subst (λ (k : Phase). CallKnows (Inside x cm) (st.stands p).round k) at_call
      (subst (λ (k : Section). CallKnows k (st.stands p).round (st.stands p).phase) at_sec ((calls h).calls p lp)) in
      knows.2

  -- no section holds an object in a slot that is ripe for another
  pub held_unripe : (i p x c a e s : ℕ) (cm : Bool) (d : Dir) → i < sh.passes → p < sh.passes → (st.stands p).section ≡ Inside x cm
      → held_slot (st.stands i).held (object a e c) ≡ Some s → dir_in st.memory c s ≡ d → is_ripe_slot x d ≡ true → ⊥
  held_unripe i p x c a e s cm d li lp at_sec hd is ripe = grind (arith, nat_tests, (objects h).held i c a e s li, sections sh st h i li, sections sh st h p lp)
