-- Steps keep the agreement: records, adds. Written by tools/laws.py.
use Rattle.std.proofs.Common.{◌≡◌, ℕ, ◌+◌, ◌<◌, Bool, true, Some, List, slice_index, subst, arith}
use Rattle.std.proofs.lemmas.Bool.Decides.{nat_tests}
use Rattle.smc_words.specs.declared.dir.Dir.{Dir}
use Rattle.smc_words.specs.declared.dir.Dir.TheVariants as dir
use Rattle.smc_shape.specs.Layout.{Layout, width_of}
use Rattle.smc_shape.specs.declared.place.Place.TheVariants as place
use Rattle.smc_core.specs.declared.call.Call.TheVariants as call
use Rattle.smc_core.specs.declared.call.Choice.TheVariants.{Start, Go}
use Rattle.smc_core.specs.declared.op.Op.TheVariants.{Load, Store, Exchange}
use Rattle.smc_core.specs.declared.phase.Phase.TheVariants as phase
use Rattle.smc_core.specs.declared.phase.objects.AddPhase.TheVariants as add
use Rattle.smc_core.specs.declared.section.Section.TheVariants.{Inside}
use Rattle.smc_core.specs.declared.word.State.TheVariants as state
use Rattle.smc_core.specs.declared.word.Word.TheVariants as word
use Rattle.smc_core.specs.Add.{takes}
use Rattle.smc_inv_range.specs.Calls.{InPhase}
use Rattle.smc_rules.specs.Reads.{object}
use Rattle.smc_rules.specs.State as S
use Rattle.smc_rules.specs.State.{put_stand}
use Rattle.smc_agreement.proofs.Whole.{Shut, ranges, calls, copies, claims, objects, moves, did, moved, sections}
use Rattle.smc_agreement.proofs.CrossLaws.{not_claimed, no_blank_words}
use Rattle.smc_core.specs.Change.{change}
use Rattle.smc_rules.specs.Memory.{apply, seen}
use Rattle.smc_agreement.specs.Records.{RecordsAgree}
use Rattle.smc_agreement.proofs.WorldViews.{in_world, added-view, get_value, get_index}

-- kind LoadDirectory
pub starts_add : (opened : ℕ) (sh : Layout) (st : S.State) (p : ℕ) (x : ℕ) (calm : Bool) (c : ℕ) (k : ℕ) (ws : List ℕ) (told : ℕ) → p < sh.passes → (st.stands p).section ≡ Inside x calm → (st.stands p).phase ≡ phase.Idle → takes sh c k ws ≡ true → Shut sh st → RecordsAgree opened sh st
    → RecordsAgree opened sh (did sh st p (Start (call.Add c k ws)) (Inside x calm) phase.Idle told (Load (place.Directory c k)))
starts_add opened sh st p x calm c k ws told in_n at_sec at_call pre1 h r = in_world (RecordsAgree opened sh) (apply (Load (place.Directory c k)) st.memory) (put_stand st.stands p (moved sh p (st.stands p) (Inside x calm) phase.Idle (Start (call.Add c k ws)) told (seen (Load (place.Directory c k)) st.memory))) st.world
    (change sh p (st.stands p) (Inside x calm) phase.Idle (Start (call.Add c k ws)) told (seen (Load (place.Directory c k)) st.memory)).event (grind (arith, nat_tests)) (record {
      given_in = r.given_in;
      given_of = r.given_of;
      no_others = r.no_others;
      is_here = r.is_here;
      since = r.since;
      values = r.values;
      c_record = λ i c' li is. grind (arith, nat_tests, r.c_record i c' li);
      c_values = λ i c' k' li is lt. grind (arith, nat_tests, r.c_values i c' k' li, no_blank_words ws);
      c_stored = λ i c' s' a' e' y' k' li is lt. grind (arith, nat_tests, r.c_stored i c' s' a' e' y' k' li, (calls h).calls p in_n, sections sh st h p in_n);
      c_blanks = λ i c' s' y' k' li is lt. grind (arith, nat_tests, r.c_blanks i c' s' y' k' li, (calls h).calls p in_n, sections sh st h p in_n);
      placed_record = r.placed_record;
      held_record = λ i c' a' e' s' k' li is lt. grind (arith, nat_tests, r.held_record i c' a' e' s' k' li, (calls h).calls p in_n, sections sh st h p in_n);
      frozen_blank = r.frozen_blank;
      locked_fields = r.locked_fields;
      j_passed = λ i c' a' e' s' k' n' li is lt. grind (arith, nat_tests, r.j_passed i c' a' e' s' k' n' li, (calls h).calls p in_n, sections sh st h p in_n);
      j_word = λ i c' a' e' s' f' v' n' li is lk ld. grind (arith, nat_tests, r.j_word i c' a' e' s' f' v' n' li, (calls h).calls p in_n, sections sh st h p in_n);
      j_fields = λ i c' a' e' s' k' n' li is lt. grind (arith, nat_tests, r.j_fields i c' a' e' s' k' n' li, (calls h).calls p in_n, sections sh st h p in_n);
    })

-- kind LoadDirectory
pub find_slot : (opened : ℕ) (sh : Layout) (st : S.State) (p : ℕ) (x : ℕ) (calm : Bool) (c : ℕ) (k : ℕ) (s : ℕ) (t : ℕ) (told : ℕ) → p < sh.passes → (st.stands p).section ≡ Inside x calm → (st.stands p).phase ≡ phase.Add (add.FindSlot c k s t) → Shut sh st → RecordsAgree opened sh st
    → RecordsAgree opened sh (did sh st p Go (Inside x calm) (phase.Add (add.FindSlot c k s t)) told (Load (place.Directory c s)))
find_slot opened sh st p x calm c k s t told in_n at_sec at_call h r = in_world (RecordsAgree opened sh) (apply (Load (place.Directory c s)) st.memory) (put_stand st.stands p (moved sh p (st.stands p) (Inside x calm) (phase.Add (add.FindSlot c k s t)) Go told (seen (Load (place.Directory c s)) st.memory))) st.world
    (change sh p (st.stands p) (Inside x calm) (phase.Add (add.FindSlot c k s t)) Go told (seen (Load (place.Directory c s)) st.memory)).event (grind (arith, nat_tests)) (record {
      given_in = r.given_in;
      given_of = r.given_of;
      no_others = r.no_others;
      is_here = r.is_here;
      since = r.since;
      values = r.values;
      c_record = λ i c' li is. grind (arith, nat_tests, r.c_record i c' li, r.c_record p c in_n, (calls h).calls p in_n, sections sh st h p in_n);
      c_values = λ i c' k' li is lt. grind (arith, nat_tests, r.c_values i c' k' li, r.c_record p c in_n, r.c_values p c k' in_n, (calls h).calls p in_n, sections sh st h p in_n);
      c_stored = λ i c' s' a' e' y' k' li is lt. grind (arith, nat_tests, r.c_stored i c' s' a' e' y' k' li, r.c_record p c in_n, r.c_values p c k' in_n, (calls h).calls p in_n, sections sh st h p in_n);
      c_blanks = λ i c' s' y' k' li is lt. grind (arith, nat_tests, r.c_blanks i c' s' y' k' li, r.c_record p c in_n, r.c_values p c k' in_n, (calls h).calls p in_n, sections sh st h p in_n);
      placed_record = r.placed_record;
      held_record = λ i c' a' e' s' k' li is lt. grind (arith, nat_tests, r.held_record i c' a' e' s' k' li, r.c_record p c in_n, r.c_values p c k' in_n, (calls h).calls p in_n, sections sh st h p in_n);
      frozen_blank = r.frozen_blank;
      locked_fields = r.locked_fields;
      j_passed = λ i c' a' e' s' k' n' li is lt. grind (arith, nat_tests, r.j_passed i c' a' e' s' k' n' li, r.c_record p c in_n, r.c_values p c k' in_n, (calls h).calls p in_n, sections sh st h p in_n);
      j_word = λ i c' a' e' s' f' v' n' li is lk ld. grind (arith, nat_tests, r.j_word i c' a' e' s' f' v' n' li, r.c_record p c in_n, (calls h).calls p in_n, sections sh st h p in_n);
      j_fields = λ i c' a' e' s' k' n' li is lt. grind (arith, nat_tests, r.j_fields i c' a' e' s' k' n' li, r.c_record p c in_n, r.c_values p c k' in_n, (calls h).calls p in_n, sections sh st h p in_n);
    })

-- kind ClaimSlot
pub claim_slot : (opened : ℕ) (sh : Layout) (st : S.State) (p : ℕ) (x : ℕ) (calm : Bool) (c : ℕ) (k : ℕ) (s : ℕ) (t : ℕ) (d : Dir) (told : ℕ) → p < sh.passes → (st.stands p).section ≡ Inside x calm → (st.stands p).phase ≡ phase.Add (add.ClaimSlot c k s t d) → Shut sh st → RecordsAgree opened sh st
    → RecordsAgree opened sh (did sh st p Go (Inside x calm) (phase.Add (add.ClaimSlot c k s t d)) told (Exchange (place.Directory c s) (word.Directory d) (word.Directory dir.Claimed)))
claim_slot opened sh st p x calm c k s t d told in_n at_sec at_call h r = in_world (RecordsAgree opened sh) (apply (Exchange (place.Directory c s) (word.Directory d) (word.Directory dir.Claimed)) st.memory) (put_stand st.stands p (moved sh p (st.stands p) (Inside x calm) (phase.Add (add.ClaimSlot c k s t d)) Go told (seen (Exchange (place.Directory c s) (word.Directory d) (word.Directory dir.Claimed)) st.memory))) st.world
    (change sh p (st.stands p) (Inside x calm) (phase.Add (add.ClaimSlot c k s t d)) Go told (seen (Exchange (place.Directory c s) (word.Directory d) (word.Directory dir.Claimed)) st.memory)).event (grind (arith, nat_tests)) (record {
      given_in = r.given_in;
      given_of = r.given_of;
      no_others = r.no_others;
      is_here = r.is_here;
      since = r.since;
      values = r.values;
      c_record = λ i c' li is. grind (arith, nat_tests, r.c_record i c' li, r.c_record p c in_n, (calls h).calls p in_n, sections sh st h p in_n);
      c_values = λ i c' k' li is lt. grind (arith, nat_tests, r.c_values i c' k' li, r.c_record p c in_n, r.c_values p c k' in_n, (calls h).calls p in_n, sections sh st h p in_n);
      c_stored = λ i c' s' a' e' y' k' li is lt. grind (arith, nat_tests, r.c_stored i c' s' a' e' y' k' li, r.c_record p c in_n, r.c_values p c k' in_n, (calls h).calls p in_n, sections sh st h p in_n);
      c_blanks = λ i c' s' y' k' li is lt. grind (arith, nat_tests, r.c_blanks i c' s' y' k' li, r.c_record p c in_n, r.c_values p c k' in_n, (calls h).calls p in_n, sections sh st h p in_n);
      placed_record = r.placed_record;
      held_record = λ i c' a' e' s' k' li is lt. grind (arith, nat_tests, r.held_record i c' a' e' s' k' li, r.c_record p c in_n, r.c_values p c k' in_n, (calls h).calls p in_n, sections sh st h p in_n);
      frozen_blank = r.frozen_blank;
      locked_fields = r.locked_fields;
      j_passed = λ i c' a' e' s' k' n' li is lt. grind (arith, nat_tests, r.j_passed i c' a' e' s' k' n' li, r.c_record p c in_n, r.c_values p c k' in_n, (calls h).calls p in_n, sections sh st h p in_n);
      j_word = λ i c' a' e' s' f' v' n' li is lk ld. grind (arith, nat_tests, r.j_word i c' a' e' s' f' v' n' li, r.c_record p c in_n, (calls h).calls p in_n, sections sh st h p in_n);
      j_fields = λ i c' a' e' s' k' n' li is lt. grind (arith, nat_tests, r.j_fields i c' a' e' s' k' n' li, r.c_record p c in_n, r.c_values p c k' in_n, (calls h).calls p in_n, sections sh st h p in_n);
    })

-- kind LoadEntry
pub find_entry : (opened : ℕ) (sh : Layout) (st : S.State) (p : ℕ) (x : ℕ) (calm : Bool) (c : ℕ) (s : ℕ) (e : ℕ) (t : ℕ) (told : ℕ) → p < sh.passes → (st.stands p).section ≡ Inside x calm → (st.stands p).phase ≡ phase.Add (add.FindEntry c s e t) → Shut sh st → RecordsAgree opened sh st
    → RecordsAgree opened sh (did sh st p Go (Inside x calm) (phase.Add (add.FindEntry c s e t)) told (Load (place.Entry c e)))
find_entry opened sh st p x calm c s e t told in_n at_sec at_call h r = in_world (RecordsAgree opened sh) (apply (Load (place.Entry c e)) st.memory) (put_stand st.stands p (moved sh p (st.stands p) (Inside x calm) (phase.Add (add.FindEntry c s e t)) Go told (seen (Load (place.Entry c e)) st.memory))) st.world
    (change sh p (st.stands p) (Inside x calm) (phase.Add (add.FindEntry c s e t)) Go told (seen (Load (place.Entry c e)) st.memory)).event (grind (arith, nat_tests)) (record {
      given_in = r.given_in;
      given_of = r.given_of;
      no_others = r.no_others;
      is_here = r.is_here;
      since = r.since;
      values = r.values;
      c_record = λ i c' li is. grind (arith, nat_tests, r.c_record i c' li, (calls h).c_slot p c s in_n, r.c_record p c in_n, (calls h).calls p in_n, sections sh st h p in_n);
      c_values = λ i c' k' li is lt. grind (arith, nat_tests, r.c_values i c' k' li, (calls h).c_slot p c s in_n, r.c_record p c in_n, r.c_values p c k' in_n, (calls h).calls p in_n, sections sh st h p in_n);
      c_stored = λ i c' s' a' e' y' k' li is lt. grind (arith, nat_tests, r.c_stored i c' s' a' e' y' k' li, (calls h).c_slot p c s in_n, r.c_record p c in_n, r.c_values p c k' in_n, (calls h).calls p in_n, sections sh st h p in_n);
      c_blanks = λ i c' s' y' k' li is lt. grind (arith, nat_tests, r.c_blanks i c' s' y' k' li, (calls h).c_slot p c s in_n, r.c_record p c in_n, r.c_values p c k' in_n, (calls h).calls p in_n, sections sh st h p in_n);
      placed_record = r.placed_record;
      held_record = λ i c' a' e' s' k' li is lt. grind (arith, nat_tests, r.held_record i c' a' e' s' k' li, (calls h).c_slot p c s in_n, r.c_record p c in_n, r.c_values p c k' in_n, (calls h).calls p in_n, sections sh st h p in_n);
      frozen_blank = r.frozen_blank;
      locked_fields = r.locked_fields;
      j_passed = λ i c' a' e' s' k' n' li is lt. grind (arith, nat_tests, r.j_passed i c' a' e' s' k' n' li, (calls h).c_slot p c s in_n, r.c_record p c in_n, r.c_values p c k' in_n, (calls h).calls p in_n, sections sh st h p in_n);
      j_word = λ i c' a' e' s' f' v' n' li is lk ld. grind (arith, nat_tests, r.j_word i c' a' e' s' f' v' n' li, (calls h).c_slot p c s in_n, r.c_record p c in_n, (calls h).calls p in_n, sections sh st h p in_n);
      j_fields = λ i c' a' e' s' k' n' li is lt. grind (arith, nat_tests, r.j_fields i c' a' e' s' k' n' li, (calls h).c_slot p c s in_n, r.c_record p c in_n, r.c_values p c k' in_n, (calls h).calls p in_n, sections sh st h p in_n);
    })

-- kind ClaimEntry
pub claim_entry : (opened : ℕ) (sh : Layout) (st : S.State) (p : ℕ) (x : ℕ) (calm : Bool) (c : ℕ) (s : ℕ) (e : ℕ) (t : ℕ) (a : ℕ) (z : ℕ) (told : ℕ) → p < sh.passes → (st.stands p).section ≡ Inside x calm → (st.stands p).phase ≡ phase.Add (add.ClaimEntry c s e t a z) → Shut sh st → RecordsAgree opened sh st
    → RecordsAgree opened sh (did sh st p Go (Inside x calm) (phase.Add (add.ClaimEntry c s e t a z)) told (Exchange (place.Entry c e) (word.Entry (state.Free a z)) (word.Entry (state.Claimed (a + 1)))))
claim_entry opened sh st p x calm c s e t a z told in_n at_sec at_call h r = in_world (RecordsAgree opened sh) (apply (Exchange (place.Entry c e) (word.Entry (state.Free a z)) (word.Entry (state.Claimed (a + 1)))) st.memory) (put_stand st.stands p (moved sh p (st.stands p) (Inside x calm) (phase.Add (add.ClaimEntry c s e t a z)) Go told (seen (Exchange (place.Entry c e) (word.Entry (state.Free a z)) (word.Entry (state.Claimed (a + 1)))) st.memory))) st.world
    (change sh p (st.stands p) (Inside x calm) (phase.Add (add.ClaimEntry c s e t a z)) Go told (seen (Exchange (place.Entry c e) (word.Entry (state.Free a z)) (word.Entry (state.Claimed (a + 1)))) st.memory)).event (grind (arith, nat_tests)) (record {
      given_in = λ c' a' e' is. grind (arith, nat_tests, r.given_in c' a' e', (calls h).c_slot p c s in_n, r.c_record p c in_n, (calls h).calls p in_n, sections sh st h p in_n);
      given_of = λ c' a' e' is. grind (arith, nat_tests, r.given_of c' a' e', (calls h).c_slot p c s in_n, r.c_record p c in_n, (calls h).calls p in_n, sections sh st h p in_n);
      no_others = r.no_others;
      is_here = λ c' a' e'. grind (arith, nat_tests, r.is_here c' a' e', (calls h).c_slot p c s in_n, r.c_record p c in_n, (calls h).calls p in_n, sections sh st h p in_n);
      since = λ c' e'. grind (arith, nat_tests, r.since c' e', (calls h).c_slot p c s in_n, r.c_record p c in_n, (calls h).calls p in_n, sections sh st h p in_n, r.since c e);
      values = r.values;
      c_record = λ i c' li is. grind (arith, nat_tests, r.c_record i c' li, (calls h).c_slot p c s in_n, r.c_record p c in_n, (calls h).calls p in_n, sections sh st h p in_n);
      c_values = λ i c' k' li is lt. grind (arith, nat_tests, r.c_values i c' k' li, (calls h).c_slot p c s in_n, r.c_record p c in_n, r.c_values p c k' in_n, (calls h).calls p in_n, sections sh st h p in_n);
      c_stored = λ i c' s' a' e' y' k' li is lt. grind (arith, nat_tests, r.c_stored i c' s' a' e' y' k' li, (calls h).c_slot p c s in_n, r.c_record p c in_n, r.c_values p c k' in_n, (calls h).calls p in_n, sections sh st h p in_n);
      c_blanks = λ i c' s' y' k' li is lt. grind (arith, nat_tests, r.c_blanks i c' s' y' k' li, (calls h).c_slot p c s in_n, r.c_record p c in_n, r.c_values p c k' in_n, (calls h).calls p in_n, sections sh st h p in_n);
      placed_record = λ c' a' e' s' k' is lt. grind (arith, nat_tests, r.placed_record c' a' e' s' k', (calls h).c_slot p c s in_n, r.c_record p c in_n, r.c_values p c k' in_n, (calls h).calls p in_n, sections sh st h p in_n);
      held_record = λ i c' a' e' s' k' li is lt. grind (arith, nat_tests, r.held_record i c' a' e' s' k' li, (calls h).c_slot p c s in_n, r.c_record p c in_n, r.c_values p c k' in_n, (calls h).calls p in_n, sections sh st h p in_n);
      frozen_blank = λ c' a' e' s' k' is lt. grind (arith, nat_tests, r.frozen_blank c' a' e' s' k', (calls h).c_slot p c s in_n, r.c_record p c in_n, r.c_values p c k' in_n, (calls h).calls p in_n, sections sh st h p in_n);
      locked_fields = λ c' a' e' s' k' is lt. grind (arith, nat_tests, r.locked_fields c' a' e' s' k', (calls h).c_slot p c s in_n, r.c_record p c in_n, r.c_values p c k' in_n, (calls h).calls p in_n, sections sh st h p in_n);
      j_passed = λ i c' a' e' s' k' n' li is lt. grind (arith, nat_tests, r.j_passed i c' a' e' s' k' n' li, (calls h).c_slot p c s in_n, r.c_record p c in_n, r.c_values p c k' in_n, (calls h).calls p in_n, sections sh st h p in_n);
      j_word = λ i c' a' e' s' f' v' n' li is lk ld. grind (arith, nat_tests, r.j_word i c' a' e' s' f' v' n' li, (calls h).c_slot p c s in_n, r.c_record p c in_n, (calls h).calls p in_n, sections sh st h p in_n);
      j_fields = λ i c' a' e' s' k' n' li is lt. grind (arith, nat_tests, r.j_fields i c' a' e' s' k' n' li, (calls h).c_slot p c s in_n, r.c_record p c in_n, r.c_values p c k' in_n, (calls h).calls p in_n, sections sh st h p in_n);
    })

-- kind DropSlot
pub drop_slot : (opened : ℕ) (sh : Layout) (st : S.State) (p : ℕ) (x : ℕ) (calm : Bool) (c : ℕ) (s : ℕ) (told : ℕ) → p < sh.passes → (st.stands p).section ≡ Inside x calm → (st.stands p).phase ≡ phase.Add (add.DropSlot c s) → Shut sh st → RecordsAgree opened sh st
    → RecordsAgree opened sh (did sh st p Go (Inside x calm) (phase.Add (add.DropSlot c s)) told (Store (place.Directory c s) (word.Directory dir.Free)))
drop_slot opened sh st p x calm c s told in_n at_sec at_call h r = in_world (RecordsAgree opened sh) (apply (Store (place.Directory c s) (word.Directory dir.Free)) st.memory) (put_stand st.stands p (moved sh p (st.stands p) (Inside x calm) (phase.Add (add.DropSlot c s)) Go told (seen (Store (place.Directory c s) (word.Directory dir.Free)) st.memory))) st.world
    (change sh p (st.stands p) (Inside x calm) (phase.Add (add.DropSlot c s)) Go told (seen (Store (place.Directory c s) (word.Directory dir.Free)) st.memory)).event (grind (arith, nat_tests)) (record {
      given_in = r.given_in;
      given_of = r.given_of;
      no_others = r.no_others;
      is_here = r.is_here;
      since = r.since;
      values = r.values;
      c_record = λ i c' li is. grind (arith, nat_tests, r.c_record i c' li, (calls h).c_slot p c s in_n, (calls h).calls p in_n, sections sh st h p in_n);
      c_values = λ i c' k' li is lt. grind (arith, nat_tests, r.c_values i c' k' li, (calls h).c_slot p c s in_n, (calls h).calls p in_n, sections sh st h p in_n);
      c_stored = λ i c' s' a' e' y' k' li is lt. grind (arith, nat_tests, r.c_stored i c' s' a' e' y' k' li, (calls h).c_slot p c s in_n, (calls h).calls p in_n, sections sh st h p in_n);
      c_blanks = λ i c' s' y' k' li is lt. grind (arith, nat_tests, r.c_blanks i c' s' y' k' li, (calls h).c_slot p c s in_n, (calls h).calls p in_n, sections sh st h p in_n);
      placed_record = r.placed_record;
      held_record = λ i c' a' e' s' k' li is lt. grind (arith, nat_tests, r.held_record i c' a' e' s' k' li, (calls h).c_slot p c s in_n, (calls h).calls p in_n, sections sh st h p in_n);
      frozen_blank = r.frozen_blank;
      locked_fields = r.locked_fields;
      j_passed = λ i c' a' e' s' k' n' li is lt. grind (arith, nat_tests, r.j_passed i c' a' e' s' k' n' li, (calls h).c_slot p c s in_n, (calls h).calls p in_n, sections sh st h p in_n);
      j_word = λ i c' a' e' s' f' v' n' li is lk ld. grind (arith, nat_tests, r.j_word i c' a' e' s' f' v' n' li, (calls h).c_slot p c s in_n, (calls h).calls p in_n, sections sh st h p in_n);
      j_fields = λ i c' a' e' s' k' n' li is lt. grind (arith, nat_tests, r.j_fields i c' a' e' s' k' n' li, (calls h).c_slot p c s in_n, (calls h).calls p in_n, sections sh st h p in_n);
    })

-- kind StoreBack
pub store_back : (opened : ℕ) (sh : Layout) (st : S.State) (p : ℕ) (x : ℕ) (calm : Bool) (c : ℕ) (s : ℕ) (a : ℕ) (e : ℕ) (told : ℕ) → p < sh.passes → (st.stands p).section ≡ Inside x calm → (st.stands p).phase ≡ phase.Add (add.StoreBack s (object a e c)) → Shut sh st → RecordsAgree opened sh st
    → RecordsAgree opened sh (did sh st p Go (Inside x calm) (phase.Add (add.StoreBack s (object a e c))) told (Store (place.Back c s) (word.Back (Some (object a e c)))))
store_back opened sh st p x calm c s a e told in_n at_sec at_call h r = in_world (RecordsAgree opened sh) (apply (Store (place.Back c s) (word.Back (Some (object a e c)))) st.memory) (put_stand st.stands p (moved sh p (st.stands p) (Inside x calm) (phase.Add (add.StoreBack s (object a e c))) Go told (seen (Store (place.Back c s) (word.Back (Some (object a e c)))) st.memory))) st.world
    (change sh p (st.stands p) (Inside x calm) (phase.Add (add.StoreBack s (object a e c))) Go told (seen (Store (place.Back c s) (word.Back (Some (object a e c)))) st.memory)).event (grind (arith, nat_tests)) (record {
      given_in = r.given_in;
      given_of = r.given_of;
      no_others = r.no_others;
      is_here = r.is_here;
      since = r.since;
      values = r.values;
      c_record = λ i c' li is. grind (arith, nat_tests, r.c_record i c' li, (calls h).c_slot p c s in_n, (calls h).c_entry p c a e in_n, r.c_record p c in_n, (calls h).calls p in_n, sections sh st h p in_n);
      c_values = λ i c' k' li is lt. grind (arith, nat_tests, r.c_values i c' k' li, (calls h).c_slot p c s in_n, (calls h).c_entry p c a e in_n, r.c_record p c in_n, r.c_values p c k' in_n, (calls h).calls p in_n, sections sh st h p in_n);
      c_stored = λ i c' s' a' e' y' k' li is lt. grind (arith, nat_tests, r.c_stored i c' s' a' e' y' k' li, (calls h).c_slot p c s in_n, (calls h).c_entry p c a e in_n, r.c_record p c in_n, r.c_values p c k' in_n, (calls h).calls p in_n, sections sh st h p in_n);
      c_blanks = λ i c' s' y' k' li is lt. grind (arith, nat_tests, r.c_blanks i c' s' y' k' li, (calls h).c_slot p c s in_n, (calls h).c_entry p c a e in_n, r.c_record p c in_n, r.c_values p c k' in_n, (calls h).calls p in_n, sections sh st h p in_n);
      placed_record = r.placed_record;
      held_record = λ i c' a' e' s' k' li is lt. grind (arith, nat_tests, r.held_record i c' a' e' s' k' li, (calls h).c_slot p c s in_n, (calls h).c_entry p c a e in_n, r.c_record p c in_n, r.c_values p c k' in_n, (calls h).calls p in_n, sections sh st h p in_n);
      frozen_blank = r.frozen_blank;
      locked_fields = r.locked_fields;
      j_passed = λ i c' a' e' s' k' n' li is lt. grind (arith, nat_tests, r.j_passed i c' a' e' s' k' n' li, (calls h).c_slot p c s in_n, (calls h).c_entry p c a e in_n, r.c_record p c in_n, r.c_values p c k' in_n, (calls h).calls p in_n, sections sh st h p in_n);
      j_word = λ i c' a' e' s' f' v' n' li is lk ld. grind (arith, nat_tests, r.j_word i c' a' e' s' f' v' n' li, (calls h).c_slot p c s in_n, (calls h).c_entry p c a e in_n, r.c_record p c in_n, (calls h).calls p in_n, sections sh st h p in_n);
      j_fields = λ i c' a' e' s' k' n' li is lt. grind (arith, nat_tests, r.j_fields i c' a' e' s' k' n' li, (calls h).c_slot p c s in_n, (calls h).c_entry p c a e in_n, r.c_record p c in_n, r.c_values p c k' in_n, (calls h).calls p in_n, sections sh st h p in_n);
    })

-- kind StoreField
pub store_field : (opened : ℕ) (sh : Layout) (st : S.State) (p : ℕ) (x : ℕ) (calm : Bool) (c : ℕ) (s : ℕ) (a : ℕ) (e : ℕ) (f : ℕ) (told : ℕ) → p < sh.passes → (st.stands p).section ≡ Inside x calm → (st.stands p).phase ≡ phase.Add (add.StoreField s (object a e c) f) → Shut sh st → RecordsAgree opened sh st
    → RecordsAgree opened sh (did sh st p Go (Inside x calm) (phase.Add (add.StoreField s (object a e c) f)) told (Store (place.Field c s f) (word.Plain (slice_index (st.stands p).words f))))
store_field opened sh st p x calm c s a e f told in_n at_sec at_call h r = in_world (RecordsAgree opened sh) (apply (Store (place.Field c s f) (word.Plain (slice_index (st.stands p).words f))) st.memory) (put_stand st.stands p (moved sh p (st.stands p) (Inside x calm) (phase.Add (add.StoreField s (object a e c) f)) Go told (seen (Store (place.Field c s f) (word.Plain (slice_index (st.stands p).words f))) st.memory))) st.world
    (change sh p (st.stands p) (Inside x calm) (phase.Add (add.StoreField s (object a e c) f)) Go told (seen (Store (place.Field c s f) (word.Plain (slice_index (st.stands p).words f))) st.memory)).event (grind (arith, nat_tests)) (record {
      given_in = r.given_in;
      given_of = r.given_of;
      no_others = r.no_others;
      is_here = r.is_here;
      since = r.since;
      values = r.values;
      c_record = λ i c' li is. grind (arith, nat_tests, r.c_record i c' li, (calls h).c_slot p c s in_n, (calls h).c_entry p c a e in_n, (calls h).c_named p c s a e in_n, r.c_record p c in_n, (calls h).calls p in_n, sections sh st h p in_n);
      c_values = λ i c' k' li is lt. grind (arith, nat_tests, r.c_values i c' k' li, (calls h).c_slot p c s in_n, (calls h).c_entry p c a e in_n, (calls h).c_named p c s a e in_n, r.c_record p c in_n, r.c_values p c k' in_n, r.c_stored p c s a e f k' in_n, (calls h).calls p in_n, sections sh st h p in_n);
      c_stored = λ i c' s' a' e' y' k' li is lt. grind (arith, nat_tests, r.c_stored i c' s' a' e' y' k' li, (calls h).c_slot p c s in_n, (calls h).c_entry p c a e in_n, (calls h).c_named p c s a e in_n, r.c_record p c in_n, r.c_values p c k' in_n, r.c_stored p c s a e f k' in_n, (calls h).calls p in_n, sections sh st h p in_n, (claims h).one_slot i p c' s' li in_n, (calls h).c_slot i c' s' li, (calls h).c_lives i c' s' a' e' li);
      c_blanks = λ i c' s' y' k' li is lt. grind (arith, nat_tests, r.c_blanks i c' s' y' k' li, (calls h).c_slot p c s in_n, (calls h).c_entry p c a e in_n, (calls h).c_named p c s a e in_n, r.c_record p c in_n, r.c_values p c k' in_n, r.c_stored p c s a e f k' in_n, (calls h).calls p in_n, sections sh st h p in_n, (claims h).one_slot i p c' s' li in_n, (calls h).c_slot i c' s' li, (calls h).c_target i c' s' li);
      placed_record = λ c' a' e' s' k' is lt. grind (arith, nat_tests, r.placed_record c' a' e' s' k', (calls h).c_slot p c s in_n, (calls h).c_entry p c a e in_n, (calls h).c_named p c s a e in_n, r.c_record p c in_n, r.c_values p c k' in_n, r.c_stored p c s a e f k' in_n, (calls h).calls p in_n, sections sh st h p in_n, not_claimed sh st h c' a' e' s', (objects h).placed c' a' e' s');
      held_record = λ i c' a' e' s' k' li is lt. grind (arith, nat_tests, r.held_record i c' a' e' s' k' li, (calls h).c_slot p c s in_n, (calls h).c_entry p c a e in_n, (calls h).c_named p c s a e in_n, r.c_record p c in_n, r.c_values p c k' in_n, r.c_stored p c s a e f k' in_n, (calls h).calls p in_n, sections sh st h p in_n, (objects h).held i c' a' e' s' li);
      frozen_blank = λ c' a' e' s' k' is lt. grind (arith, nat_tests, r.frozen_blank c' a' e' s' k', (calls h).c_slot p c s in_n, (calls h).c_entry p c a e in_n, (calls h).c_named p c s a e in_n, r.c_record p c in_n, r.c_values p c k' in_n, r.c_stored p c s a e f k' in_n, (calls h).calls p in_n, sections sh st h p in_n, (moves h).frozen c' a' e' s');
      locked_fields = λ c' a' e' s' k' is lt. grind (arith, nat_tests, r.locked_fields c' a' e' s' k', (calls h).c_slot p c s in_n, (calls h).c_entry p c a e in_n, (calls h).c_named p c s a e in_n, r.c_record p c in_n, r.c_values p c k' in_n, r.c_stored p c s a e f k' in_n, (calls h).calls p in_n, sections sh st h p in_n, (moves h).locked c' a' e' s', (objects h).placed c' a' e' s');
      j_passed = λ i c' a' e' s' k' n' li is lt. grind (arith, nat_tests, r.j_passed i c' a' e' s' k' n' li, (calls h).c_slot p c s in_n, (calls h).c_entry p c a e in_n, (calls h).c_named p c s a e in_n, r.c_record p c in_n, r.c_values p c k' in_n, r.c_stored p c s a e f k' in_n, (calls h).calls p in_n, sections sh st h p in_n, (copies h).j_for i c' a' e' s' n' li);
      j_word = λ i c' a' e' s' f' v' n' li is lk ld. grind (arith, nat_tests, r.j_word i c' a' e' s' f' v' n' li, (calls h).c_slot p c s in_n, (calls h).c_entry p c a e in_n, (calls h).c_named p c s a e in_n, r.c_record p c in_n, (calls h).calls p in_n, sections sh st h p in_n, (copies h).j_left i c' a' e' s' n' li);
      j_fields = λ i c' a' e' s' k' n' li is lt. grind (arith, nat_tests, r.j_fields i c' a' e' s' k' n' li, (calls h).c_slot p c s in_n, (calls h).c_entry p c a e in_n, (calls h).c_named p c s a e in_n, r.c_record p c in_n, r.c_values p c k' in_n, r.c_stored p c s a e f k' in_n, (calls h).calls p in_n, sections sh st h p in_n, (copies h).j_for i c' a' e' s' n' li);
    })

-- kind StoreValid
pub store_valid : (opened : ℕ) (sh : Layout) (st : S.State) (p : ℕ) (x : ℕ) (calm : Bool) (c : ℕ) (s : ℕ) (a : ℕ) (e : ℕ) (told : ℕ) → p < sh.passes → (st.stands p).section ≡ Inside x calm → (st.stands p).phase ≡ phase.Add (add.StoreValid s (object a e c)) → Shut sh st → RecordsAgree opened sh st
    → RecordsAgree opened sh (did sh st p Go (Inside x calm) (phase.Add (add.StoreValid s (object a e c))) told (Store (place.Directory c s) (word.Directory dir.Valid)))
store_valid opened sh st p x calm c s a e told in_n at_sec at_call h r = in_world (RecordsAgree opened sh) (apply (Store (place.Directory c s) (word.Directory dir.Valid)) st.memory) (put_stand st.stands p (moved sh p (st.stands p) (Inside x calm) (phase.Add (add.StoreValid s (object a e c))) Go told (seen (Store (place.Directory c s) (word.Directory dir.Valid)) st.memory))) st.world
    (change sh p (st.stands p) (Inside x calm) (phase.Add (add.StoreValid s (object a e c))) Go told (seen (Store (place.Directory c s) (word.Directory dir.Valid)) st.memory)).event (grind (arith, nat_tests)) (record {
      given_in = r.given_in;
      given_of = r.given_of;
      no_others = r.no_others;
      is_here = r.is_here;
      since = r.since;
      values = r.values;
      c_record = λ i c' li is. grind (arith, nat_tests, r.c_record i c' li, (calls h).c_slot p c s in_n, (calls h).c_entry p c a e in_n, (calls h).c_named p c s a e in_n, r.c_record p c in_n, (calls h).calls p in_n, sections sh st h p in_n);
      c_values = λ i c' k' li is lt. grind (arith, nat_tests, r.c_values i c' k' li, (calls h).c_slot p c s in_n, (calls h).c_entry p c a e in_n, (calls h).c_named p c s a e in_n, r.c_record p c in_n, r.c_values p c k' in_n, r.c_stored p c s a e (width_of sh c) k' in_n, (calls h).calls p in_n, sections sh st h p in_n);
      c_stored = λ i c' s' a' e' y' k' li is lt. grind (arith, nat_tests, r.c_stored i c' s' a' e' y' k' li, (calls h).c_slot p c s in_n, (calls h).c_entry p c a e in_n, (calls h).c_named p c s a e in_n, r.c_record p c in_n, r.c_values p c k' in_n, r.c_stored p c s a e (width_of sh c) k' in_n, (calls h).calls p in_n, sections sh st h p in_n);
      c_blanks = λ i c' s' y' k' li is lt. grind (arith, nat_tests, r.c_blanks i c' s' y' k' li, (calls h).c_slot p c s in_n, (calls h).c_entry p c a e in_n, (calls h).c_named p c s a e in_n, r.c_record p c in_n, r.c_values p c k' in_n, r.c_stored p c s a e (width_of sh c) k' in_n, (calls h).calls p in_n, sections sh st h p in_n);
      placed_record = r.placed_record;
      held_record = λ i c' a' e' s' k' li is lt. grind (arith, nat_tests, r.held_record i c' a' e' s' k' li, (calls h).c_slot p c s in_n, (calls h).c_entry p c a e in_n, (calls h).c_named p c s a e in_n, r.c_record p c in_n, r.c_values p c k' in_n, r.c_stored p c s a e (width_of sh c) k' in_n, (calls h).calls p in_n, sections sh st h p in_n);
      frozen_blank = r.frozen_blank;
      locked_fields = r.locked_fields;
      j_passed = λ i c' a' e' s' k' n' li is lt. grind (arith, nat_tests, r.j_passed i c' a' e' s' k' n' li, (calls h).c_slot p c s in_n, (calls h).c_entry p c a e in_n, (calls h).c_named p c s a e in_n, r.c_record p c in_n, r.c_values p c k' in_n, r.c_stored p c s a e (width_of sh c) k' in_n, (calls h).calls p in_n, sections sh st h p in_n);
      j_word = λ i c' a' e' s' f' v' n' li is lk ld. grind (arith, nat_tests, r.j_word i c' a' e' s' f' v' n' li, (calls h).c_slot p c s in_n, (calls h).c_entry p c a e in_n, (calls h).c_named p c s a e in_n, r.c_record p c in_n, (calls h).calls p in_n, sections sh st h p in_n);
      j_fields = λ i c' a' e' s' k' n' li is lt. grind (arith, nat_tests, r.j_fields i c' a' e' s' k' n' li, (calls h).c_slot p c s in_n, (calls h).c_entry p c a e in_n, (calls h).c_named p c s a e in_n, r.c_record p c in_n, r.c_values p c k' in_n, r.c_stored p c s a e (width_of sh c) k' in_n, (calls h).calls p in_n, sections sh st h p in_n);
    })

-- kind StoreLive
pub store_live : (opened : ℕ) (sh : Layout) (st : S.State) (p : ℕ) (x : ℕ) (calm : Bool) (c : ℕ) (s : ℕ) (a : ℕ) (e : ℕ) (told : ℕ) → p < sh.passes → (st.stands p).section ≡ Inside x calm → (st.stands p).phase ≡ phase.Add (add.StoreLive s (object a e c)) → Shut sh st → RecordsAgree opened sh st
    → RecordsAgree opened sh (did sh st p Go (Inside x calm) (phase.Add (add.StoreLive s (object a e c))) told (Store (place.Entry c e) (word.Entry (state.Present a s))))
store_live opened sh st p x calm c s a e told in_n at_sec at_call h r = record {
  given_in = λ c' a' e' is. grind (arith, nat_tests, r.given_in c' a' e', (calls h).c_entry p c a e in_n, (calls h).c_named p c s a e in_n, (calls h).c_lives p c s a e in_n, r.c_record p c in_n, (calls h).calls p in_n, sections sh st h p in_n, added-view st.world a e c a' e' c' c (st.stands p).words, r.since c e);
  given_of = λ c' a' e' is. grind (arith, nat_tests, r.given_of c' a' e', (calls h).c_entry p c a e in_n, (calls h).c_named p c s a e in_n, (calls h).c_lives p c s a e in_n, r.c_record p c in_n, (calls h).calls p in_n, sections sh st h p in_n, added-view st.world a e c a' e' c' c (st.stands p).words, r.since c e);
  no_others = λ c' a' e' is. grind (arith, nat_tests, r.no_others c' a' e', (calls h).c_entry p c a e in_n, (calls h).c_named p c s a e in_n, (calls h).c_lives p c s a e in_n, r.c_record p c in_n, (calls h).calls p in_n, sections sh st h p in_n, (subst (InPhase sh (st.stands p).words) at_call ((ranges h).stands p in_n).phase).1.entry, added-view st.world a e c a' e' c' c (st.stands p).words);
  is_here = λ c' a' e'. grind (arith, nat_tests, r.is_here c' a' e', (calls h).c_entry p c a e in_n, (calls h).c_named p c s a e in_n, (calls h).c_lives p c s a e in_n, r.c_record p c in_n, (calls h).calls p in_n, sections sh st h p in_n, added-view st.world a e c a' e' c' c (st.stands p).words);
  since = λ c' e'. grind (arith, nat_tests, r.since c' e', (calls h).c_entry p c a e in_n, (calls h).c_named p c s a e in_n, (calls h).c_lives p c s a e in_n, r.c_record p c in_n, (calls h).calls p in_n, sections sh st h p in_n, r.since c e);
  values = λ c' a' e' k' v' is. grind (arith, nat_tests, r.values c' a' e' k' v', (calls h).c_entry p c a e in_n, (calls h).c_named p c s a e in_n, (calls h).c_lives p c s a e in_n, r.c_record p c in_n, r.c_values p c k' in_n, r.c_stored p c s a e (width_of sh c) k' in_n, (calls h).calls p in_n, sections sh st h p in_n, added-view st.world a e c a' e' c' c (st.stands p).words, get_value (st.stands p).words k' v');
  c_record = λ i c' li is. grind (arith, nat_tests, r.c_record i c' li, (calls h).c_entry p c a e in_n, (calls h).c_named p c s a e in_n, (calls h).c_lives p c s a e in_n, r.c_record p c in_n, (calls h).calls p in_n, sections sh st h p in_n);
  c_values = λ i c' k' li is lt. grind (arith, nat_tests, r.c_values i c' k' li, (calls h).c_entry p c a e in_n, (calls h).c_named p c s a e in_n, (calls h).c_lives p c s a e in_n, r.c_record p c in_n, r.c_values p c k' in_n, r.c_stored p c s a e (width_of sh c) k' in_n, (calls h).calls p in_n, sections sh st h p in_n);
  c_stored = λ i c' s' a' e' y' k' li is lt. grind (arith, nat_tests, r.c_stored i c' s' a' e' y' k' li, (calls h).c_entry p c a e in_n, (calls h).c_named p c s a e in_n, (calls h).c_lives p c s a e in_n, r.c_record p c in_n, r.c_values p c k' in_n, r.c_stored p c s a e (width_of sh c) k' in_n, (calls h).calls p in_n, sections sh st h p in_n);
  c_blanks = λ i c' s' y' k' li is lt. grind (arith, nat_tests, r.c_blanks i c' s' y' k' li, (calls h).c_entry p c a e in_n, (calls h).c_named p c s a e in_n, (calls h).c_lives p c s a e in_n, r.c_record p c in_n, r.c_values p c k' in_n, r.c_stored p c s a e (width_of sh c) k' in_n, (calls h).calls p in_n, sections sh st h p in_n);
  placed_record = λ c' a' e' s' k' is lt. grind (arith, nat_tests, r.placed_record c' a' e' s' k', (calls h).c_entry p c a e in_n, (calls h).c_named p c s a e in_n, (calls h).c_lives p c s a e in_n, r.c_record p c in_n, r.c_values p c k' in_n, r.c_stored p c s a e (width_of sh c) k' in_n, (calls h).calls p in_n, sections sh st h p in_n, added-view st.world a e c a' e' c' c (st.stands p).words, get_index (st.stands p).words k');
  held_record = λ i c' a' e' s' k' li is lt. grind (arith, nat_tests, r.held_record i c' a' e' s' k' li, (calls h).c_entry p c a e in_n, (calls h).c_named p c s a e in_n, (calls h).c_lives p c s a e in_n, r.c_record p c in_n, r.c_values p c k' in_n, r.c_stored p c s a e (width_of sh c) k' in_n, (calls h).calls p in_n, sections sh st h p in_n, added-view st.world a e c a' e' c' c (st.stands p).words, (objects h).held i c' a' e' s' li);
  frozen_blank = λ c' a' e' s' k' is lt. grind (arith, nat_tests, r.frozen_blank c' a' e' s' k', (calls h).c_entry p c a e in_n, (calls h).c_named p c s a e in_n, (calls h).c_lives p c s a e in_n, r.c_record p c in_n, r.c_values p c k' in_n, r.c_stored p c s a e (width_of sh c) k' in_n, (calls h).calls p in_n, sections sh st h p in_n);
  locked_fields = λ c' a' e' s' k' is lt. grind (arith, nat_tests, r.locked_fields c' a' e' s' k', (calls h).c_entry p c a e in_n, (calls h).c_named p c s a e in_n, (calls h).c_lives p c s a e in_n, r.c_record p c in_n, r.c_values p c k' in_n, r.c_stored p c s a e (width_of sh c) k' in_n, (calls h).calls p in_n, sections sh st h p in_n);
  j_passed = λ i c' a' e' s' k' n' li is lt. grind (arith, nat_tests, r.j_passed i c' a' e' s' k' n' li, (calls h).c_entry p c a e in_n, (calls h).c_named p c s a e in_n, (calls h).c_lives p c s a e in_n, r.c_record p c in_n, r.c_values p c k' in_n, r.c_stored p c s a e (width_of sh c) k' in_n, (calls h).calls p in_n, sections sh st h p in_n);
  j_word = λ i c' a' e' s' f' v' n' li is lk ld. grind (arith, nat_tests, r.j_word i c' a' e' s' f' v' n' li, (calls h).c_entry p c a e in_n, (calls h).c_named p c s a e in_n, (calls h).c_lives p c s a e in_n, r.c_record p c in_n, (calls h).calls p in_n, sections sh st h p in_n);
  j_fields = λ i c' a' e' s' k' n' li is lt. grind (arith, nat_tests, r.j_fields i c' a' e' s' k' n' li, (calls h).c_entry p c a e in_n, (calls h).c_named p c s a e in_n, (calls h).c_lives p c s a e in_n, r.c_record p c in_n, r.c_values p c k' in_n, r.c_stored p c s a e (width_of sh c) k' in_n, (calls h).calls p in_n, sections sh st h p in_n);
}
