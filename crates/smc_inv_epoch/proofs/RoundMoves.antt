-- What one step owes to the round word, and that its rule is kept where it is paid.
use Rattle.std.proofs.Common.{◌≡◌, ◌≢◌, ℕ, ◌+◌, ◌<◌, ◌≤◌, Bool, true, false, not, Option, Some, None, refl, sym, ap, ◌∙◌, subst, arith}
use Rattle.std.specs.Prelude.{IsTrue, IsSome}
use Rattle.std.proofs.lemmas.Bool.Decides.{nat_tests}
use Rattle.smc_words.specs.declared.round.RoundWord.{RoundWord}
use Rattle.smc_shape.specs.Layout.{Layout}
use Rattle.smc_shape.specs.declared.place.Place.{Place}
use Rattle.smc_shape.specs.declared.place.Place.TheVariants as place
use Rattle.smc_model.specs.World.{World}
use Rattle.smc_core.specs.declared.local.Owned.{Owned}
use Rattle.smc_core.specs.declared.local.Stand.{Stand}
use Rattle.smc_core.specs.declared.op.Op.{Op}
use Rattle.smc_core.specs.declared.op.Op.TheVariants.{Load, Store, Exchange, MarkGone}
use Rattle.smc_core.specs.declared.phase.Phase.{Phase}
use Rattle.smc_core.specs.declared.section.Section.{Section}
use Rattle.smc_core.specs.declared.section.Section.TheVariants.{Inside}
use Rattle.smc_core.specs.declared.word.Word.TheVariants as word
use Rattle.smc_core.specs.Words.{round_of}
use Rattle.smc_rules.specs.EpochRule.{own_epoch}
use Rattle.smc_rules.specs.Memory.{Memory, apply, same_place}
use Rattle.smc_rules.specs.Reads.{round_in}
use Rattle.smc_rules.specs.RelocationRule.{NamesOwner, CalmBound}
use Rattle.smc_rules.specs.RoundAgreement.{is_owners}
use Rattle.smc_rules.specs.State.{State, put_stand}
use Rattle.smc_rules.proofs.CarryLaws.{by_pass, put_stand-same, put_stand-other}
use Rattle.smc_rules.proofs.MirrorLaws.{apply-other}
use Rattle.smc_inv_epoch.specs.Epochs.{Epochs}
use Rattle.smc_inv_epoch.specs.Rounds.{Rounds}

-- what a pass knows of a round word that names it
abbrev pub owned_by : RoundWord → Owned
owned_by round = record { bound = round.bound; coll = round.coll }

-- what one step of this pass owes: the memory, its section, its phase and its round after the step are these
pub record RoundMoves (shape : Layout) (state : State) (pass : ℕ) (memory : Memory) (then_section : Section) (then_phase : Phase) (then_round : Option Owned) : Type 0 where
  pub is_round : memory place.Round ≡ word.Round (round_in memory)
  pub none_here : round_in memory ≡ None → then_round ≡ None
  pub none_there : (i : ℕ) → i ≢ pass → i < shape.passes → round_in memory ≡ None → (state.stands i).round ≡ None
  pub owner_here : (round : RoundWord) → round_in memory ≡ Some round → round.pass ≡ pass → then_round ≡ Some (owned_by round)
  pub owner_there : (round : RoundWord) → round_in memory ≡ Some round → round.pass ≢ pass
      → (round.pass < shape.passes) × ((state.stands round.pass).round ≡ Some (owned_by round))
  pub only_here : (round : RoundWord) (owned : Owned) → round_in memory ≡ Some round → then_round ≡ Some owned → pass ≡ round.pass
  pub only_there : (i : ℕ) (round : RoundWord) (owned : Owned) → i ≢ pass → i < shape.passes → round_in memory ≡ Some round → (state.stands i).round ≡ Some owned → i ≡ round.pass
  pub calm_here : (own : ℕ) (round : RoundWord) → then_section ≡ Inside own true → round_in memory ≡ Some round → own ≤ round.bound
  pub calm_there : (i own : ℕ) (round : RoundWord) → i ≢ pass → i < shape.passes → (state.stands i).section ≡ Inside own true → round_in memory ≡ Some round → own ≤ round.bound
  pub owners : IsTrue (is_owners then_phase) → IsSome then_round

module _ (shape : Layout) (state : State) (pass : ℕ) (h : Rounds shape state) (within : pass < shape.passes) where
  module _ (memory : Memory) (stand : Stand) (world : World) (m : RoundMoves shape state pass memory stand.section stand.phase stand.round) where
    abbrev moved : State
    moved = record { memory = memory; stands = put_stand state.stands pass stand; world = world }

    here : (i : ℕ) → i ≡ pass → moved.stands i ≡ stand
    here i e = put_stand-same state.stands pass i stand e

    there : (i : ℕ) → i ≢ pass → moved.stands i ≡ state.stands i
    there i ne = put_stand-other state.stands pass i stand ne

    -- a fact of each pass: of the stepping pass by what the step owes, of another as it was
    each : (P : ℕ → Stand → Type 0) → P pass stand → ((i : ℕ) → i ≢ pass → i < shape.passes → P i (state.stands i)) → (i : ℕ) → i < shape.passes → P i (moved.stands i)
    each P own other i lt = by_pass i pass
        (λ e. subst (P i) (sym (here i e)) (subst (λ (j : ℕ). P j stand) (sym e) own))
        (λ ne. subst (P i) (sym (there i ne)) (other i ne lt))

    names : NamesOwner shape moved
    names = record {
      owner = λ round is. by_pass round.pass pass
          (λ e. (subst (λ (j : ℕ). j < shape.passes) (sym e) within, ap (λ (s : Stand). s.round) (here round.pass e) ∙ m.owner_here round is e))
          (λ ne. let known = m.owner_there round is ne in (known.0, ap (λ (s : Stand). s.round) (there round.pass ne) ∙ known.1));
      only = λ round i owned is lt owns. each (λ i s. s.round ≡ Some owned → i ≡ round.pass)
          (λ owns. m.only_here round owned is owns) (λ i ne lt owns. m.only_there i round owned ne lt is owns) i lt owns;
    }

    calm : CalmBound shape moved
    calm i own round lt at is = each (λ i s. s.section ≡ Inside own true → own ≤ round.bound)
        (λ at. m.calm_here own round at is) (λ i ne lt at. m.calm_there i own round ne lt at is) i lt at

    -- a step that pays what it owes keeps the rule of the round word
    pub kept_rounds : Epochs shape moved → Rounds shape moved
    kept_rounds epochs = record {
      epochs = epochs;
      rule = record { names_owner = names; calm_bound = calm };
      agrees = record {
        is_round = m.is_round;
        none_owned = λ i lt is. each (λ i s. s.round ≡ None) (m.none_here is) (λ i ne lt. m.none_there i ne lt is) i lt;
        owners = λ i lt. each (λ i s. IsTrue (is_owners s.phase) → IsSome s.round) m.owners (λ i ne lt. h.agrees.owners i lt) i lt;
      };
    }

  -- a step that leaves the round word, and the round of its pass
  pub still_moves : (memory : Memory) (section : Section) (call : Phase) (owned : Option Owned)
      → memory place.Round ≡ state.memory place.Round → owned ≡ (state.stands pass).round
      → ((own : ℕ) (round : RoundWord) → section ≡ Inside own true → round_in state.memory ≡ Some round → own ≤ round.bound)
      → (IsTrue (is_owners call) → IsSome owned)
      → RoundMoves shape state pass memory section call owned
  still_moves memory section call owned same keeps calm owners =
      let now : round_in memory ≡ round_in state.memory = ap round_of same in record {
        is_round = same ∙ (h.agrees.is_round ∙ ap (λ (r : Option RoundWord). word.Round r) (sym now));
        none_here = λ is. keeps ∙ h.agrees.none_owned pass within (sym now ∙ is);
        none_there = λ i ne lt is. h.agrees.none_owned i lt (sym now ∙ is);
        owner_here = λ round is e. keeps ∙ (ap (λ (j : ℕ). (state.stands j).round) (sym e) ∙ (h.rule.names_owner.owner round (sym now ∙ is)).1);
        owner_there = λ round is ne. h.rule.names_owner.owner round (sym now ∙ is);
        only_here = λ round o is owns. h.rule.names_owner.only round pass o (sym now ∙ is) within (sym keeps ∙ owns);
        only_there = λ i round o ne lt is owns. h.rule.names_owner.only round i o (sym now ∙ is) lt owns;
        calm_here = λ own round at is. calm own round at (sym now ∙ is);
        calm_there = λ i own round ne lt at is. h.rule.calm_bound i own round lt at (sym now ∙ is);
        owners = owners;
      }

  -- a step with which the owner of a round gives it up
  pub dropped_moves : (memory : Memory) (section : Section) (call : Phase) → memory place.Round ≡ word.Round None
      → IsSome (state.stands pass).round → is_owners call ≡ false → RoundMoves shape state pass memory section call None
  dropped_moves memory section call is_none owns calm =
      let now : round_in memory ≡ None = ap round_of is_none in record {
        is_round = is_none ∙ ap (λ (r : Option RoundWord). word.Round r) (sym now);
        none_here = λ is. refl;
        none_there = λ i ne lt is. others i ne lt (round_in state.memory) refl (state.stands i).round refl;
        owner_here = λ round is e. cc;
        owner_there = λ round is ne. absurd (cc);
        only_here = λ round o is none. cc;
        only_there = λ i round o ne lt is at. absurd (cc);
        calm_here = λ own round at is. absurd (cc);
        calm_there = λ i own round ne lt at is. absurd (cc);
        owners = λ is. absurd (cc);
      }
    where
      -- no other pass owned one
      others : (i : ℕ) → i ≢ pass → i < shape.passes → (word : Option RoundWord) → round_in state.memory ≡ word
          → (owned : Option Owned) → (state.stands i).round ≡ owned → (state.stands i).round ≡ None
      others i ne lt None is owned at = h.agrees.none_owned i lt is
      others i ne lt (Some round) is None at = at
      others i ne lt (Some round) is (Some o) at = absurd (ne (h.rule.names_owner.only round i o is lt at ∙ sym (own (state.stands pass).round refl owns)))
        where
          own : (mine : Option Owned) → (state.stands pass).round ≡ mine → IsSome mine → pass ≡ round.pass
          own None e some = absurd (cc)
          own (Some o) e some = h.rule.names_owner.only round pass o is within e

  -- a step that begins a round where there was none, in a section at this epoch
  pub begun_moves : (memory : Memory) (section : Section) (call : Phase) (own coll : ℕ) (calm : Bool)
      → memory place.Round ≡ word.Round (Some (record { bound = own + 1; pass = pass; coll = coll }))
      → round_in state.memory ≡ None → (state.stands pass).section ≡ Inside own calm → section ≡ Inside own calm
      → RoundMoves shape state pass memory section call (Some (record { bound = own + 1; coll = coll }))
  begun_moves memory section call own coll calm is_begun was_none at at_same =
      let begun : RoundWord = record { bound = own + 1; pass = pass; coll = coll } in
      let now : round_in memory ≡ Some begun = ap round_of is_begun in
      let near = h.epochs.rule.near pass own within (ap own_epoch at) in
      let one : (round : RoundWord) → round_in memory ≡ Some round → begun ≡ round = λ round is. some-same begun round (sym now ∙ is) in record {
        is_round = is_begun ∙ ap (λ (r : Option RoundWord). word.Round r) (sym now);
        none_here = λ is. absurd (cc);
        none_there = λ i ne lt is. absurd (cc);
        owner_here = λ round is e. ap (λ (r : RoundWord). Some (owned_by r)) (one round is);
        owner_there = λ round is ne. absurd (ne (sym (ap (λ (r : RoundWord). r.pass) (one round is))));
        only_here = λ round o is owns. ap (λ (r : RoundWord). r.pass) (one round is);
        only_there = λ i round o ne lt is owns. let none = h.agrees.none_owned i lt was_none in absurd (cc);
        calm_here = λ s round at_s is. let same : own ≡ s = inside-same own s calm true (sym at_same ∙ at_s) in
            let bound : own + 1 ≡ round.bound = ap (λ (r : RoundWord). r.bound) (one round is) in omega (arith, same, bound);
        calm_there = λ i s round ne lt at_s is.
            let other = h.epochs.rule.near i s lt (ap own_epoch at_s) in
            let bound : own + 1 ≡ round.bound = ap (λ (r : RoundWord). r.bound) (one round is) in omega (arith, other.0, near.1, bound);
        owners = λ is. refl;
      }
    where
      some-same : (a b : RoundWord) → Some a ≡ Some b → a ≡ b
      some-same a b e = cc

      inside-same : (a b : ℕ) (c d : Bool) → Inside a c ≡ Inside b d → a ≡ b
      inside-same a b c d e = cc

-- whether an operation leaves the round word
abbrev pub is_round_place : Place → Bool
is_round_place place.Round = true
is_round_place _ = false

abbrev pub leaves_round : Op → Bool
leaves_round (Load there) = true
leaves_round (Store there w) = not (is_round_place there)
leaves_round (Exchange there expect w) = not (is_round_place there)
leaves_round (MarkGone coll entry) = true

round-apart : (here : Place) → IsTrue (not (is_round_place here)) → same_place place.Round here ≡ false
round-apart here v = grind (arith, nat_tests)

-- it leaves it as it was
pub leaves_round-same : (op : Op) (memory : Memory) → IsTrue (leaves_round op) → apply op memory place.Round ≡ memory place.Round
leaves_round-same (Load here) memory v = refl
leaves_round-same (Store here w) memory v = apply-other (Store here w) memory place.Round (round-apart here v)
leaves_round-same (Exchange here expect w) memory v = apply-other (Exchange here expect w) memory place.Round (round-apart here v)
leaves_round-same (MarkGone coll entry) memory v = refl
