-- A region starts with the agreement: entries and slots are free or have a present object, and no call is in progress.
use Rattle.std.proofs.Common.{◌≡◌, ℕ, ◌+◌, ◌≤◌, Some, sym, ap, subst, arith}
use Rattle.std.proofs.lemmas.Bool.Decides.{nat_tests}
use Rattle.smc_shape.specs.Layout.{Layout}
use Rattle.smc_model.specs.World.{World}
use Rattle.smc_words.specs.declared.dir.Dir.TheVariants as dir
use Rattle.smc_core.specs.declared.word.State as E
use Rattle.smc_core.specs.declared.word.State.TheVariants as state
use Rattle.smc_core.specs.Words.{plain_of}
use Rattle.smc_rules.specs.Memory.{Memory}
use Rattle.smc_core.specs.declared.local.Opening.{Opening}
use Rattle.smc_rules.specs.Reads.{dir_in, object, state_in}
use Rattle.smc_rules.specs.Start.{IsAtStart, StandsThere, StartsEntry, StartsSlot, starting}
use Rattle.smc_agreement.specs.Entries.{IsPlaced, IsRemoved, present_at, stands_at}
use Rattle.smc_agreement.specs.Agreement.{Agreement, CallsAgree, CopiesAgree, ClaimsAgree, ObjectsAgree, MovesAgree}
use Rattle.smc_agreement.specs.Records.{IsSince, RecordsAgree}

module _ (shape : Layout) (opening : Opening) (world : World) (memory : Memory) (q : IsAtStart shape opening world memory) where
  -- what no entry and no slot is at the start
  no_claim : (c a e : ℕ) → state_in memory c e ≡ state.Claimed a → ⊥
  no_claim c a e is = subst (StartsEntry shape opening world memory c e) is (q.entries c e)

  no_frozen : (c a e slot : ℕ) → state_in memory c e ≡ state.Frozen a slot → ⊥
  no_frozen c a e slot is = subst (StartsEntry shape opening world memory c e) is (q.entries c e)

  no_locked : (c a e slot : ℕ) → state_in memory c e ≡ state.Locked a slot → ⊥
  no_locked c a e slot is = subst (StartsEntry shape opening world memory c e) is (q.entries c e)

  no_removed : (c a e : ℕ) → IsRemoved a (state_in memory c e) → ⊥
  no_removed c a e is = go (state_in memory c e) (q.entries c e) is
    where
      go : (w : E.State) → StartsEntry shape opening world memory c e w → IsRemoved a w → ⊥
      go (state.Removed own slot f l) at is = at
      go (state.Free last stamp) at is = is
      go (state.Claimed own) at is = is
      go (state.Present own slot) at is = is
      go (state.Frozen own slot) at is = is
      go (state.Locked own slot) at is = is

  no_claimed_slot : (c slot : ℕ) → dir_in memory c slot ≡ dir.Claimed → ⊥
  no_claimed_slot c slot is = subst (StartsSlot memory c slot) is (q.slots c slot)

  no_incoming : (c slot : ℕ) → dir_in memory c slot ≡ dir.Incoming → ⊥
  no_incoming c slot is = subst (StartsSlot memory c slot) is (q.slots c slot)

  no_limbo : (c slot stamp : ℕ) → dir_in memory c slot ≡ dir.Limbo stamp → ⊥
  no_limbo c slot stamp is = subst (StartsSlot memory c slot) is (q.slots c slot)

  -- an object that stands in a slot is present there
  there : (c a e slot : ℕ) → state_in memory c e ≡ state.Present a slot → StandsThere shape opening world memory c e a slot
  there c a e slot is = subst (StartsEntry shape opening world memory c e) is (q.entries c e)

  present_there : (c a e slot : ℕ) → present_at (state_in memory c e) ≡ Some (a, slot) → state_in memory c e ≡ state.Present a slot
  present_there c a e slot is = go (state_in memory c e) (q.entries c e) is
    where
      go : (w : E.State) → StartsEntry shape opening world memory c e w → present_at w ≡ Some (a, slot) → w ≡ state.Present a slot
      go (state.Present own t) at is = grind (arith, is)
      go (state.Free last stamp) at is = absurd (cc)
      go (state.Claimed own) at is = absurd at
      go (state.Removed own t f l) at is = absurd at
      go (state.Frozen own t) at is = absurd at
      go (state.Locked own t) at is = absurd at

  stands_there : (c a e slot : ℕ) → stands_at (state_in memory c e) ≡ Some (a, slot) → state_in memory c e ≡ state.Present a slot
  stands_there c a e slot is = go (state_in memory c e) (q.entries c e) is
    where
      go : (w : E.State) → StartsEntry shape opening world memory c e w → stands_at w ≡ Some (a, slot) → w ≡ state.Present a slot
      go (state.Present own t) at is = grind (arith, is)
      go (state.Free last stamp) at is = absurd (cc)
      go (state.Claimed own) at is = absurd at
      go (state.Removed own t f l) at is = absurd at
      go (state.Frozen own t) at is = absurd at
      go (state.Locked own t) at is = absurd at

  since_start : (c e : ℕ) → IsSince opening.incarnation (state_in memory c e)
  since_start c e = go (state_in memory c e) (q.entries c e)
    where
      go : (w : E.State) → StartsEntry shape opening world memory c e w → IsSince opening.incarnation w
      go (state.Present own t) at = at.since
      go (state.Free last stamp) at = at.0
      go (state.Claimed own) at = absurd at
      go (state.Removed own t f l) at = absurd at
      go (state.Frozen own t) at = absurd at
      go (state.Locked own t) at = absurd at

  calls-first : CallsAgree shape (starting shape memory world)
  calls-first = record {
    calls = λ i li. grind (arith, nat_tests);
    c_slot = λ i c' s' li is. grind (arith, nat_tests);
    c_entry = λ i c' a' e' li is. grind (arith, nat_tests);
    c_named = λ i c' s' a' e' li is. grind (arith, nat_tests);
    c_target = λ i c' s' li is. grind (arith, nat_tests);
    c_lives = λ i c' s' a' e' li is. grind (arith, nat_tests);
    c_leads = λ i c' s' t' li is. grind (arith, nat_tests);
    c_origin = λ i c' s' a' e' li is. grind (arith, nat_tests);
    c_source = λ i c' s' a' e' li is. grind (arith, nat_tests);
    c_resting = λ i c' s' a' e' li is. grind (arith, nat_tests);
    c_loose = λ i c' s' a' e' li is nm. grind (arith, nat_tests);
    c_tries = λ i c' s' a' e' li is. grind (arith, nat_tests);
    c_removes = λ i c' a' e' li is. grind (arith, nat_tests);
    c_leaving = λ i c' s' a' e' li is. grind (arith, nat_tests);
    c_limbos = λ i c' s' a' e' li is. grind (arith, nat_tests);
    c_frees = λ i c' s' a' e' li is st'. grind (arith, nat_tests);
    c_leaves = λ i c' s' li is. grind (arith, nat_tests);
    c_apart = λ i c' s' a' e' li is nm. grind (arith, nat_tests);
    c_moved = λ i c' s' a' e' li is nm. grind (arith, nat_tests);
    c_ends = λ i c' s' t' li is. grind (arith, nat_tests);
    c_passed = λ i c' s' li is. grind (arith, nat_tests);
  }

  copies-first : CopiesAgree shape (starting shape memory world)
  copies-first = record {
    j_named = λ i c' a' e' s' n' li is. grind (arith, nat_tests);
    j_led = λ i c' a' e' s' n' li is. grind (arith, nat_tests);
    j_entry = λ i c' a' e' s' n' li is. grind (arith, nat_tests);
    j_locked = λ i c' a' e' s' n' li is lk. grind (arith, nat_tests);
    j_left = λ i c' a' e' s' n' li is. grind (arith, nat_tests);
    j_for = λ i c' a' e' s' n' li is. grind (arith, nat_tests);
    j_back = λ i c' a' e' s' n' li is inc. grind (arith, nat_tests);
  }

  claims-first : ClaimsAgree shape (starting shape memory world)
  claims-first = record {
    one_slot = λ i j c' s' li lj ei ej. grind (arith, nat_tests);
    one_entry = λ i j c' a' b' e' li lj ei ej. grind (arith, nat_tests);
    one_gone = λ i j c' a' b' e' li lj ei ej. grind (arith, nat_tests);
    claimed = λ c' s' is. absurd (no_claimed_slot c' s' is);
    taken = λ c' a' e' is. absurd (no_claim c' a' e' is);
    removed = λ c' a' e' is. absurd (no_removed c' a' e' is);
  }

  objects-first : ObjectsAgree shape (starting shape memory world)
  objects-first = record {
    standing = λ c' a' e' s' is. (there c' a' e' s' (stands_there c' a' e' s' is)).owner;
    placed = λ c' a' e' s' is. subst IsPlaced (sym (there c' a' e' s' (present_there c' a' e' s' is)).valid) tt;
    held = λ i c' a' e' s' li is. grind (arith, nat_tests);
    one_held = λ i j c' a' e' s' t' li lj hi hj. grind (arith, nat_tests);
    stamp_dir = λ c' s' z' is. absurd (no_limbo c' s' z' is);
    stamp_entry = λ c' e' a' z' is. let at = subst (StartsEntry shape opening world memory c' e') is (q.entries c' e') in subst (λ (n : ℕ). z' ≤ n + 1) (sym (ap plain_of q.epoch)) at.2;
  }

  moves-first : MovesAgree shape (starting shape memory world)
  moves-first = record {
    standing_in = λ i c' a' e' s' li o is inc. grind (arith, nat_tests);
    incoming_round = λ c' s' inc. absurd (no_incoming c' s' inc);
    incoming_in = λ c' s' inc. absurd (no_incoming c' s' inc);
    incoming_known = λ c' s' a' e' inc nm. absurd (no_incoming c' s' inc);
    incoming_fwd = λ c' t' a' e' s' inc nm is. absurd (no_incoming c' t' inc);
    unpassed = λ i c' s' li o inc. grind (arith, nat_tests);
    ahead = λ i c' t' a' e' s' li inc nm is. absurd (no_incoming c' t' inc);
    frozen = λ c' a' e' s' is. absurd (no_frozen c' a' e' s' is);
    frozen_held = λ i c' a' e' s' t' r' li is r hd. grind (arith, nat_tests);
    frozen_copy = λ i c' a' e' s' r' li is r cp. grind (arith, nat_tests);
    abandon = λ i c' a' e' s' t' r' li ab is r. grind (arith, nat_tests);
    locked = λ c' a' e' s' is. absurd (no_locked c' a' e' s' is);
    locked_owner = λ i c' a' e' s' li o is. grind (arith, nat_tests);
    begin_copy = λ i j c' s' a' e' t' n' li lj sr cp. grind (arith, nat_tests);
  }

  pub agreement-first : Agreement shape (starting shape memory world)
  agreement-first = record { calls = calls-first; copies = copies-first; claims = claims-first; objects = objects-first; moves = moves-first }

  pub records-first : RecordsAgree opening.incarnation shape (starting shape memory world)
  records-first = record {
    given_in = λ c' a' e' is. (q.given (object a' e' c')).0 is;
    given_of = λ c' a' e' is. (q.given (object a' e' c')).1 is;
    no_others = λ c' a' e' is. q.no_others (object a' e' c') is;
    is_here = λ c' a' e'. q.present (object a' e' c');
    since = since_start;
    values = λ c' a' e' k' v' is. q.values (object a' e' c') k' v' is;
    c_record = λ i c' li is. grind (arith, nat_tests);
    c_values = λ i c' k' li is lt. grind (arith, nat_tests);
    c_stored = λ i c' s' a' e' y' k' li is lt. grind (arith, nat_tests);
    c_blanks = λ i c' s' y' k' li is lt. grind (arith, nat_tests);
    placed_record = λ c' a' e' s' k' is lt. (there c' a' e' s' (present_there c' a' e' s' is)).record_of_it k' lt;
    held_record = λ i c' a' e' s' k' li is lt. grind (arith, nat_tests);
    frozen_blank = λ c' a' e' s' k' is lt. absurd (no_frozen c' a' e' s' is);
    locked_fields = λ c' a' e' s' k' is lt. absurd (no_locked c' a' e' s' is);
    j_passed = λ i c' a' e' s' k' n' li is lt. grind (arith, nat_tests);
    j_word = λ i c' a' e' s' f' v' n' li is lk ld. grind (arith, nat_tests);
    j_fields = λ i c' a' e' s' k' n' li is lt. grind (arith, nat_tests);
  }
