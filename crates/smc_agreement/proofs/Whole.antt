-- All that the laws of this floor may take for granted of a state, shut so that tactics enter it only where they are told.
use Rattle.std.proofs.Common.{◌≡◌, ℕ, ◌+◌, ◌<◌, ◌≤◌, true, false, Option, Some, None, refl, sym, ◌∙◌, ap, subst, arith}
use Rattle.smc_words.specs.declared.round.RoundWord.{RoundWord}
use Rattle.smc_shape.specs.Layout.{Layout}
use Rattle.smc_core.specs.declared.call.Choice.{Choice}
use Rattle.smc_core.specs.declared.local.Owned.{Owned}
use Rattle.smc_core.specs.declared.local.Stand.{Stand}
use Rattle.smc_core.specs.declared.op.Op.{Op}
use Rattle.smc_core.specs.declared.phase.Phase.{Phase}
use Rattle.smc_core.specs.declared.section.Section.{Section}
use Rattle.smc_core.specs.declared.section.Section.TheVariants.{Outside, Loaded, Announced, Again, Lasting, Inside}
use Rattle.smc_core.specs.declared.word.Word.{Word}
use Rattle.smc_core.specs.Change.{change}
use Rattle.smc_core.specs.Local.{section_after, held_after, scans_after, begun_after, noted_after, words_after, round_after}
use Rattle.smc_rules.specs.Memory.{apply, seen}
use Rattle.smc_rules.specs.Reads.{epoch_of_region, round_in}
use Rattle.smc_rules.specs.State.{State, put_stand, world_told}
use Rattle.smc_inv_epoch.specs.Rounds.{Rounds}
use Rattle.smc_inv_range.specs.Calls.{Ranges}
use Rattle.smc_agreement.specs.Kept.{Agrees}
use Rattle.smc_agreement.specs.Entries.{IsRoundOf}
use Rattle.smc_agreement.specs.Parts.{Owns}
use Rattle.smc_agreement.specs.Agreement.{CallsAgree, CopiesAgree, ClaimsAgree, ObjectsAgree, MovesAgree}

-- all that holds of a state, shut
unfoldable pub Shut : Layout → State → Type 0
Shut shape s = Agrees shape s

pub whole : {shape : Layout} {s : State} → Shut shape s → Agrees shape s
unfolding Shut
whole h = h

pub shut : {shape : Layout} {s : State} → Agrees shape s → Shut shape s
unfolding Shut
shut h = h

pub calls : {shape : Layout} {s : State} → Shut shape s → CallsAgree shape s
unfolding Shut
calls h = h.agrees.calls

pub copies : {shape : Layout} {s : State} → Shut shape s → CopiesAgree shape s
unfolding Shut
copies h = h.agrees.copies

pub claims : {shape : Layout} {s : State} → Shut shape s → ClaimsAgree shape s
unfolding Shut
claims h = h.agrees.claims

pub objects : {shape : Layout} {s : State} → Shut shape s → ObjectsAgree shape s
unfolding Shut
objects h = h.agrees.objects

pub moves : {shape : Layout} {s : State} → Shut shape s → MovesAgree shape s
unfolding Shut
moves h = h.agrees.moves

pub rounds : {shape : Layout} {s : State} → Shut shape s → Rounds shape s
unfolding Shut
rounds h = h.rounds

pub ranges : {shape : Layout} {s : State} → Shut shape s → Ranges shape s
unfolding Shut
ranges h = h.ranges

-- where a pass stands that stood in this section and this call, after a step that shows this word
abbrev pub moved : Layout → ℕ → Stand → Section → Phase → Choice → ℕ → Word → Stand
moved shape pass stand section call choice told w = record {
  section = section_after section call choice w;
  phase = (change shape pass stand section call choice told w).phase;
  held = held_after stand.held choice (change shape pass stand section call choice told w).holds;
  scans = scans_after shape pass stand section call choice w;
  begun = begun_after stand.begun choice;
  noted = noted_after stand.noted choice;
  words = words_after stand.words choice;
  round = round_after stand.round section call choice w;
}

-- the state after a step by this operation
abbrev pub did : Layout → State → ℕ → Choice → Section → Phase → ℕ → Op → State
did shape s p choice section call told op = record {
  memory = apply op s.memory;
  stands = put_stand s.stands p (moved shape p (s.stands p) section call choice told (seen op s.memory));
  world = world_told s.world (change shape p (s.stands p) section call choice told (seen op s.memory)).event;
}

-- a section that lasts, or is about to, is at the region's epoch or one behind
abbrev pub IsNear : ℕ → Section → Type 0
IsNear epoch (Again v own) = (own ≤ epoch) × (epoch ≤ own + 1)
IsNear epoch (Lasting own) = (own ≤ epoch) × (epoch ≤ own + 1)
IsNear epoch (Inside own calm) = (own ≤ epoch) × (epoch ≤ own + 1)
IsNear epoch _ = Unit {0}

pub sections : (shape : Layout) (s : State) (h : Shut shape s) (i : ℕ) → i < shape.passes → IsNear (epoch_of_region s.memory) (s.stands i).section
sections shape s h i li = go (s.stands i).section refl
  where
    go : (section : Section) → (s.stands i).section ≡ section → IsNear (epoch_of_region s.memory) section
    go Outside e = tt
    go (Loaded v) e = tt
    go (Announced v) e = tt
    go (Again v own) e = (rounds h).epochs.rule.near i own li (grind (arith, e))
    go (Lasting own) e = (rounds h).epochs.rule.near i own li (grind (arith, e))
    go (Inside own calm) e = (rounds h).epochs.rule.near i own li (grind (arith, e))

-- no calm section is past the bound of the round
abbrev pub IsCalm : Option RoundWord → Section → Type 0
IsCalm (Some round) (Inside own true) = own ≤ round.bound
IsCalm _ _ = Unit {0}

pub calms : (shape : Layout) (s : State) (h : Shut shape s) (i : ℕ) → i < shape.passes → IsCalm (round_in s.memory) (s.stands i).section
calms shape s h i li = go (round_in s.memory) (s.stands i).section refl refl
  where
    go : (round : Option RoundWord) (section : Section) → round_in s.memory ≡ round → (s.stands i).section ≡ section → IsCalm round section
    go None section r e = tt
    go (Some round) (Inside own true) r e = (rounds h).rule.calm_bound i own round li e r
    go (Some round) (Inside own false) r e = tt
    go (Some round) Outside r e = tt
    go (Some round) (Loaded seen) r e = tt
    go (Some round) (Announced seen) r e = tt
    go (Some round) (Again seen own) r e = tt
    go (Some round) (Lasting own) r e = tt

-- a pass that owns a round is the one that the round word names
pub owner : (shape : Layout) (s : State) (h : Shut shape s) (i b c : ℕ) → i < shape.passes → (s.stands i).round ≡ Some (record { bound = b; coll = c })
    → round_in s.memory ≡ Some (record { bound = b; pass = i; coll = c })
owner shape s h i b c li owns = go (round_in s.memory) refl
  where
    go : (round : Option RoundWord) → round_in s.memory ≡ round → round ≡ Some (record { bound = b; pass = i; coll = c })
    go None e = let no : (s.stands i).round ≡ None = (rounds h).agrees.none_owned i li e in absurd (cc)
    go (Some round) e =
        let here : i ≡ round.pass = (rounds h).rule.names_owner.only round i (record { bound = b; coll = c }) e li owns in
        let named : (s.stands round.pass).round ≡ Some (record { bound = round.bound; coll = round.coll }) = ((rounds h).rule.names_owner.owner round e).1 in
        let same : Some (record { bound = round.bound; coll = round.coll }) ≡ Some (record { bound = b; coll = c }) = sym named ∙ (ap (λ (k : ℕ). (s.stands k).round) (sym here) ∙ owns) in
        grind (arith, same, here)

-- the round word names a pass of the region that owns it
pub owned : (shape : Layout) (s : State) (h : Shut shape s) (b j c : ℕ) → round_in s.memory ≡ Some (record { bound = b; pass = j; coll = c })
    → (j < shape.passes) × ((s.stands j).round ≡ Some (record { bound = b; coll = c }))
owned shape s h b j c r = (rounds h).rule.names_owner.owner (record { bound = b; pass = j; coll = c }) r

-- no two passes own a round
pub owner_same : (shape : Layout) (s : State) (h : Shut shape s) (i j : ℕ) → i < shape.passes → j < shape.passes
    → Owns (s.stands i).round → Owns (s.stands j).round → i ≡ j
owner_same shape s h i j li lj oi oj = go (s.stands i).round (s.stands j).round refl refl
  where
    go : (a b : Option Owned) → (s.stands i).round ≡ a → (s.stands j).round ≡ b → i ≡ j
    go (Some a) (Some b) ea eb = grind (arith, owner shape s h i a.bound a.coll li ea, owner shape s h j b.bound b.coll lj eb)
    go None b ea eb = absurd (subst Owns ea oi)
    go (Some a) None ea eb = absurd (subst Owns eb oj)

-- a round that is in progress has an owner
pub the_owner : (shape : Layout) (s : State) (h : Shut shape s) (c : ℕ) → IsRoundOf c (round_in s.memory)
    → (j b : ℕ) × (j < shape.passes) × ((s.stands j).round ≡ Some (record { bound = b; coll = c })) × (round_in s.memory ≡ Some (record { bound = b; pass = j; coll = c }))
the_owner shape s h c is = go (round_in s.memory) refl
  where
    go : (r : Option RoundWord) → round_in s.memory ≡ r
        → (j b : ℕ) × (j < shape.passes) × ((s.stands j).round ≡ Some (record { bound = b; coll = c })) × (round_in s.memory ≡ Some (record { bound = b; pass = j; coll = c }))
    go None e = absurd (subst (IsRoundOf c) e is)
    go (Some r) e =
        let of : r.coll ≡ c = subst (IsRoundOf c) e is in
        let at : round_in s.memory ≡ Some (record { bound = r.bound; pass = r.pass; coll = c }) = subst (λ (k : ℕ). round_in s.memory ≡ Some (record { bound = r.bound; pass = r.pass; coll = k })) of e in
        let own = owned shape s h r.bound r.pass c at in
        (r.pass, r.bound, own.0, own.1, at)
