-- Steps keep the agreement: records, cancels. Written by tools/laws.py.
use Rattle.std.proofs.Common.{◌≡◌, ℕ, ◌+◌, ◌<◌, Bool, Some, None, arith}
use Rattle.std.proofs.lemmas.Bool.Decides.{nat_tests}
use Rattle.smc_words.specs.declared.dir.Dir.TheVariants as dir
use Rattle.smc_shape.specs.Layout.{Layout}
use Rattle.smc_shape.specs.declared.place.Place.TheVariants as place
use Rattle.smc_core.specs.declared.call.Call.TheVariants as call
use Rattle.smc_core.specs.declared.call.Choice.TheVariants.{Start, Go}
use Rattle.smc_core.specs.declared.op.Op.TheVariants.{Load, Store, Exchange}
use Rattle.smc_core.specs.declared.phase.Phase.TheVariants as phase
use Rattle.smc_core.specs.declared.phase.moves.CancelPhase.TheVariants as cancel
use Rattle.smc_core.specs.declared.section.Section.TheVariants.{Inside}
use Rattle.smc_core.specs.declared.word.State.TheVariants as state
use Rattle.smc_core.specs.declared.word.Word.TheVariants as word
use Rattle.smc_rules.specs.Reads.{object}
use Rattle.smc_rules.specs.State as S
use Rattle.smc_rules.specs.State.{put_stand}
use Rattle.smc_agreement.proofs.Whole.{Shut, calls, did, moved, sections}
use Rattle.smc_core.specs.Change.{change}
use Rattle.smc_rules.specs.Memory.{apply, seen}
use Rattle.smc_agreement.specs.Records.{RecordsAgree}
use Rattle.smc_agreement.proofs.WorldViews.{in_world}

-- kind LoadDirectory
pub starts_cancel : (opened : ℕ) (sh : Layout) (st : S.State) (p : ℕ) (x : ℕ) (calm : Bool) (b : ℕ) (c : ℕ) (told : ℕ) → p < sh.passes → (st.stands p).section ≡ Inside x calm → (st.stands p).phase ≡ phase.Idle → (st.stands p).round ≡ Some (record { bound = b; coll = c }) → Shut sh st → RecordsAgree opened sh st
    → RecordsAgree opened sh (did sh st p (Start call.Cancel) (Inside x calm) phase.Idle told (Load (place.Directory c 0)))
starts_cancel opened sh st p x calm b c told in_n at_sec at_call pre1 h r = in_world (RecordsAgree opened sh) (apply (Load (place.Directory c 0)) st.memory) (put_stand st.stands p (moved sh p (st.stands p) (Inside x calm) phase.Idle (Start call.Cancel) told (seen (Load (place.Directory c 0)) st.memory))) st.world
    (change sh p (st.stands p) (Inside x calm) phase.Idle (Start call.Cancel) told (seen (Load (place.Directory c 0)) st.memory)).event (grind (arith, nat_tests)) (record {
      given_in = r.given_in;
      given_of = r.given_of;
      no_others = r.no_others;
      is_here = r.is_here;
      since = r.since;
      values = r.values;
      c_record = λ i c' li is. grind (arith, nat_tests, r.c_record i c' li, (calls h).calls p in_n, sections sh st h p in_n);
      c_values = λ i c' k' li is lt. grind (arith, nat_tests, r.c_values i c' k' li, (calls h).calls p in_n, sections sh st h p in_n);
      c_stored = λ i c' s' a' e' y' k' li is lt. grind (arith, nat_tests, r.c_stored i c' s' a' e' y' k' li, (calls h).calls p in_n, sections sh st h p in_n);
      c_blanks = λ i c' s' y' k' li is lt. grind (arith, nat_tests, r.c_blanks i c' s' y' k' li, (calls h).calls p in_n, sections sh st h p in_n);
      placed_record = r.placed_record;
      held_record = λ i c' a' e' s' k' li is lt. grind (arith, nat_tests, r.held_record i c' a' e' s' k' li, (calls h).calls p in_n, sections sh st h p in_n);
      frozen_blank = r.frozen_blank;
      locked_fields = r.locked_fields;
      j_passed = λ i c' a' e' s' k' n' li is lt. grind (arith, nat_tests, r.j_passed i c' a' e' s' k' n' li, (calls h).calls p in_n, sections sh st h p in_n);
      j_word = λ i c' a' e' s' f' v' n' li is lk ld. grind (arith, nat_tests, r.j_word i c' a' e' s' f' v' n' li, (calls h).calls p in_n, sections sh st h p in_n);
      j_fields = λ i c' a' e' s' k' n' li is lt. grind (arith, nat_tests, r.j_fields i c' a' e' s' k' n' li, (calls h).calls p in_n, sections sh st h p in_n);
    })

-- kind LoadDirectory
pub cancel_dir : (opened : ℕ) (sh : Layout) (st : S.State) (p : ℕ) (x : ℕ) (calm : Bool) (c : ℕ) (t : ℕ) (told : ℕ) → p < sh.passes → (st.stands p).section ≡ Inside x calm → (st.stands p).phase ≡ phase.Cancel (cancel.Directory c t) → Shut sh st → RecordsAgree opened sh st
    → RecordsAgree opened sh (did sh st p Go (Inside x calm) (phase.Cancel (cancel.Directory c t)) told (Load (place.Directory c t)))
cancel_dir opened sh st p x calm c t told in_n at_sec at_call h r = in_world (RecordsAgree opened sh) (apply (Load (place.Directory c t)) st.memory) (put_stand st.stands p (moved sh p (st.stands p) (Inside x calm) (phase.Cancel (cancel.Directory c t)) Go told (seen (Load (place.Directory c t)) st.memory))) st.world
    (change sh p (st.stands p) (Inside x calm) (phase.Cancel (cancel.Directory c t)) Go told (seen (Load (place.Directory c t)) st.memory)).event (grind (arith, nat_tests)) (record {
      given_in = r.given_in;
      given_of = r.given_of;
      no_others = r.no_others;
      is_here = r.is_here;
      since = r.since;
      values = r.values;
      c_record = λ i c' li is. grind (arith, nat_tests, r.c_record i c' li, (calls h).calls p in_n, sections sh st h p in_n);
      c_values = λ i c' k' li is lt. grind (arith, nat_tests, r.c_values i c' k' li, (calls h).calls p in_n, sections sh st h p in_n);
      c_stored = λ i c' s' a' e' y' k' li is lt. grind (arith, nat_tests, r.c_stored i c' s' a' e' y' k' li, (calls h).calls p in_n, sections sh st h p in_n);
      c_blanks = λ i c' s' y' k' li is lt. grind (arith, nat_tests, r.c_blanks i c' s' y' k' li, (calls h).calls p in_n, sections sh st h p in_n);
      placed_record = r.placed_record;
      held_record = λ i c' a' e' s' k' li is lt. grind (arith, nat_tests, r.held_record i c' a' e' s' k' li, (calls h).calls p in_n, sections sh st h p in_n);
      frozen_blank = r.frozen_blank;
      locked_fields = r.locked_fields;
      j_passed = λ i c' a' e' s' k' n' li is lt. grind (arith, nat_tests, r.j_passed i c' a' e' s' k' n' li, (calls h).calls p in_n, sections sh st h p in_n);
      j_word = λ i c' a' e' s' f' v' n' li is lk ld. grind (arith, nat_tests, r.j_word i c' a' e' s' f' v' n' li, (calls h).calls p in_n, sections sh st h p in_n);
      j_fields = λ i c' a' e' s' k' n' li is lt. grind (arith, nat_tests, r.j_fields i c' a' e' s' k' n' li, (calls h).calls p in_n, sections sh st h p in_n);
    })

-- kind LoadBack
pub cancel_back : (opened : ℕ) (sh : Layout) (st : S.State) (p : ℕ) (x : ℕ) (calm : Bool) (c : ℕ) (t : ℕ) (told : ℕ) → p < sh.passes → (st.stands p).section ≡ Inside x calm → (st.stands p).phase ≡ phase.Cancel (cancel.Back c t) → Shut sh st → RecordsAgree opened sh st
    → RecordsAgree opened sh (did sh st p Go (Inside x calm) (phase.Cancel (cancel.Back c t)) told (Load (place.Back c t)))
cancel_back opened sh st p x calm c t told in_n at_sec at_call h r = in_world (RecordsAgree opened sh) (apply (Load (place.Back c t)) st.memory) (put_stand st.stands p (moved sh p (st.stands p) (Inside x calm) (phase.Cancel (cancel.Back c t)) Go told (seen (Load (place.Back c t)) st.memory))) st.world
    (change sh p (st.stands p) (Inside x calm) (phase.Cancel (cancel.Back c t)) Go told (seen (Load (place.Back c t)) st.memory)).event (grind (arith, nat_tests)) (record {
      given_in = r.given_in;
      given_of = r.given_of;
      no_others = r.no_others;
      is_here = r.is_here;
      since = r.since;
      values = r.values;
      c_record = λ i c' li is. grind (arith, nat_tests, r.c_record i c' li, (calls h).c_target p c t in_n, (calls h).calls p in_n, sections sh st h p in_n);
      c_values = λ i c' k' li is lt. grind (arith, nat_tests, r.c_values i c' k' li, (calls h).c_target p c t in_n, (calls h).calls p in_n, sections sh st h p in_n);
      c_stored = λ i c' s' a' e' y' k' li is lt. grind (arith, nat_tests, r.c_stored i c' s' a' e' y' k' li, (calls h).c_target p c t in_n, (calls h).calls p in_n, sections sh st h p in_n);
      c_blanks = λ i c' s' y' k' li is lt. grind (arith, nat_tests, r.c_blanks i c' s' y' k' li, (calls h).c_target p c t in_n, (calls h).calls p in_n, sections sh st h p in_n);
      placed_record = r.placed_record;
      held_record = λ i c' a' e' s' k' li is lt. grind (arith, nat_tests, r.held_record i c' a' e' s' k' li, (calls h).c_target p c t in_n, (calls h).calls p in_n, sections sh st h p in_n);
      frozen_blank = r.frozen_blank;
      locked_fields = r.locked_fields;
      j_passed = λ i c' a' e' s' k' n' li is lt. grind (arith, nat_tests, r.j_passed i c' a' e' s' k' n' li, (calls h).c_target p c t in_n, (calls h).calls p in_n, sections sh st h p in_n);
      j_word = λ i c' a' e' s' f' v' n' li is lk ld. grind (arith, nat_tests, r.j_word i c' a' e' s' f' v' n' li, (calls h).c_target p c t in_n, (calls h).calls p in_n, sections sh st h p in_n);
      j_fields = λ i c' a' e' s' k' n' li is lt. grind (arith, nat_tests, r.j_fields i c' a' e' s' k' n' li, (calls h).c_target p c t in_n, (calls h).calls p in_n, sections sh st h p in_n);
    })

-- kind LoadEntry
pub cancel_entry : (opened : ℕ) (sh : Layout) (st : S.State) (p : ℕ) (x : ℕ) (calm : Bool) (c : ℕ) (t : ℕ) (a : ℕ) (e : ℕ) (told : ℕ) → p < sh.passes → (st.stands p).section ≡ Inside x calm → (st.stands p).phase ≡ phase.Cancel (cancel.Entry c t (object a e c)) → Shut sh st → RecordsAgree opened sh st
    → RecordsAgree opened sh (did sh st p Go (Inside x calm) (phase.Cancel (cancel.Entry c t (object a e c))) told (Load (place.Entry c e)))
cancel_entry opened sh st p x calm c t a e told in_n at_sec at_call h r = in_world (RecordsAgree opened sh) (apply (Load (place.Entry c e)) st.memory) (put_stand st.stands p (moved sh p (st.stands p) (Inside x calm) (phase.Cancel (cancel.Entry c t (object a e c))) Go told (seen (Load (place.Entry c e)) st.memory))) st.world
    (change sh p (st.stands p) (Inside x calm) (phase.Cancel (cancel.Entry c t (object a e c))) Go told (seen (Load (place.Entry c e)) st.memory)).event (grind (arith, nat_tests)) (record {
      given_in = r.given_in;
      given_of = r.given_of;
      no_others = r.no_others;
      is_here = r.is_here;
      since = r.since;
      values = r.values;
      c_record = λ i c' li is. grind (arith, nat_tests, r.c_record i c' li, (calls h).c_named p c t a e in_n, (calls h).c_target p c t in_n, (calls h).calls p in_n, sections sh st h p in_n);
      c_values = λ i c' k' li is lt. grind (arith, nat_tests, r.c_values i c' k' li, (calls h).c_named p c t a e in_n, (calls h).c_target p c t in_n, (calls h).calls p in_n, sections sh st h p in_n);
      c_stored = λ i c' s' a' e' y' k' li is lt. grind (arith, nat_tests, r.c_stored i c' s' a' e' y' k' li, (calls h).c_named p c t a e in_n, (calls h).c_target p c t in_n, (calls h).calls p in_n, sections sh st h p in_n);
      c_blanks = λ i c' s' y' k' li is lt. grind (arith, nat_tests, r.c_blanks i c' s' y' k' li, (calls h).c_named p c t a e in_n, (calls h).c_target p c t in_n, (calls h).calls p in_n, sections sh st h p in_n);
      placed_record = r.placed_record;
      held_record = λ i c' a' e' s' k' li is lt. grind (arith, nat_tests, r.held_record i c' a' e' s' k' li, (calls h).c_named p c t a e in_n, (calls h).c_target p c t in_n, (calls h).calls p in_n, sections sh st h p in_n);
      frozen_blank = r.frozen_blank;
      locked_fields = r.locked_fields;
      j_passed = λ i c' a' e' s' k' n' li is lt. grind (arith, nat_tests, r.j_passed i c' a' e' s' k' n' li, (calls h).c_named p c t a e in_n, (calls h).c_target p c t in_n, (calls h).calls p in_n, sections sh st h p in_n);
      j_word = λ i c' a' e' s' f' v' n' li is lk ld. grind (arith, nat_tests, r.j_word i c' a' e' s' f' v' n' li, (calls h).c_named p c t a e in_n, (calls h).c_target p c t in_n, (calls h).calls p in_n, sections sh st h p in_n);
      j_fields = λ i c' a' e' s' k' n' li is lt. grind (arith, nat_tests, r.j_fields i c' a' e' s' k' n' li, (calls h).c_named p c t a e in_n, (calls h).c_target p c t in_n, (calls h).calls p in_n, sections sh st h p in_n);
    })

-- kind Unfreeze
pub unfreeze : (opened : ℕ) (sh : Layout) (st : S.State) (p : ℕ) (x : ℕ) (calm : Bool) (c : ℕ) (t : ℕ) (a : ℕ) (e : ℕ) (q : ℕ) (told : ℕ) → p < sh.passes → (st.stands p).section ≡ Inside x calm → (st.stands p).phase ≡ phase.Cancel (cancel.Unfreeze c t (object a e c) q) → Shut sh st → RecordsAgree opened sh st
    → RecordsAgree opened sh (did sh st p Go (Inside x calm) (phase.Cancel (cancel.Unfreeze c t (object a e c) q)) told (Exchange (place.Entry c e) (word.Entry (state.Frozen a q)) (word.Entry (state.Present a q))))
unfreeze opened sh st p x calm c t a e q told in_n at_sec at_call h r = in_world (RecordsAgree opened sh) (apply (Exchange (place.Entry c e) (word.Entry (state.Frozen a q)) (word.Entry (state.Present a q))) st.memory) (put_stand st.stands p (moved sh p (st.stands p) (Inside x calm) (phase.Cancel (cancel.Unfreeze c t (object a e c) q)) Go told (seen (Exchange (place.Entry c e) (word.Entry (state.Frozen a q)) (word.Entry (state.Present a q))) st.memory))) st.world
    (change sh p (st.stands p) (Inside x calm) (phase.Cancel (cancel.Unfreeze c t (object a e c) q)) Go told (seen (Exchange (place.Entry c e) (word.Entry (state.Frozen a q)) (word.Entry (state.Present a q))) st.memory)).event (grind (arith, nat_tests)) (record {
      given_in = λ c' a' e' is. grind (arith, nat_tests, r.given_in c' a' e', (calls h).c_named p c t a e in_n, (calls h).c_target p c t in_n, (calls h).c_tries p c q a e in_n, (calls h).calls p in_n, sections sh st h p in_n);
      given_of = λ c' a' e' is. grind (arith, nat_tests, r.given_of c' a' e', (calls h).c_named p c t a e in_n, (calls h).c_target p c t in_n, (calls h).c_tries p c q a e in_n, (calls h).calls p in_n, sections sh st h p in_n);
      no_others = r.no_others;
      is_here = λ c' a' e'. grind (arith, nat_tests, r.is_here c' a' e', (calls h).c_named p c t a e in_n, (calls h).c_target p c t in_n, (calls h).c_tries p c q a e in_n, (calls h).calls p in_n, sections sh st h p in_n);
      since = λ c' e'. grind (arith, nat_tests, r.since c' e', (calls h).c_named p c t a e in_n, (calls h).c_target p c t in_n, (calls h).c_tries p c q a e in_n, (calls h).calls p in_n, sections sh st h p in_n, r.since c e);
      values = r.values;
      c_record = λ i c' li is. grind (arith, nat_tests, r.c_record i c' li, (calls h).c_named p c t a e in_n, (calls h).c_target p c t in_n, (calls h).c_tries p c q a e in_n, (calls h).calls p in_n, sections sh st h p in_n);
      c_values = λ i c' k' li is lt. grind (arith, nat_tests, r.c_values i c' k' li, (calls h).c_named p c t a e in_n, (calls h).c_target p c t in_n, (calls h).c_tries p c q a e in_n, (calls h).calls p in_n, sections sh st h p in_n);
      c_stored = λ i c' s' a' e' y' k' li is lt. grind (arith, nat_tests, r.c_stored i c' s' a' e' y' k' li, (calls h).c_named p c t a e in_n, (calls h).c_target p c t in_n, (calls h).c_tries p c q a e in_n, (calls h).calls p in_n, sections sh st h p in_n);
      c_blanks = λ i c' s' y' k' li is lt. grind (arith, nat_tests, r.c_blanks i c' s' y' k' li, (calls h).c_named p c t a e in_n, (calls h).c_target p c t in_n, (calls h).c_tries p c q a e in_n, (calls h).calls p in_n, sections sh st h p in_n);
      placed_record = λ c' a' e' s' k' is lt. grind (arith, nat_tests, r.placed_record c' a' e' s' k', (calls h).c_named p c t a e in_n, (calls h).c_target p c t in_n, (calls h).c_tries p c q a e in_n, (calls h).calls p in_n, sections sh st h p in_n);
      held_record = λ i c' a' e' s' k' li is lt. grind (arith, nat_tests, r.held_record i c' a' e' s' k' li, (calls h).c_named p c t a e in_n, (calls h).c_target p c t in_n, (calls h).c_tries p c q a e in_n, (calls h).calls p in_n, sections sh st h p in_n);
      frozen_blank = λ c' a' e' s' k' is lt. grind (arith, nat_tests, r.frozen_blank c' a' e' s' k', (calls h).c_named p c t a e in_n, (calls h).c_target p c t in_n, (calls h).c_tries p c q a e in_n, (calls h).calls p in_n, sections sh st h p in_n);
      locked_fields = λ c' a' e' s' k' is lt. grind (arith, nat_tests, r.locked_fields c' a' e' s' k', (calls h).c_named p c t a e in_n, (calls h).c_target p c t in_n, (calls h).c_tries p c q a e in_n, (calls h).calls p in_n, sections sh st h p in_n);
      j_passed = λ i c' a' e' s' k' n' li is lt. grind (arith, nat_tests, r.j_passed i c' a' e' s' k' n' li, (calls h).c_named p c t a e in_n, (calls h).c_target p c t in_n, (calls h).c_tries p c q a e in_n, (calls h).calls p in_n, sections sh st h p in_n);
      j_word = λ i c' a' e' s' f' v' n' li is lk ld. grind (arith, nat_tests, r.j_word i c' a' e' s' f' v' n' li, (calls h).c_named p c t a e in_n, (calls h).c_target p c t in_n, (calls h).c_tries p c q a e in_n, (calls h).calls p in_n, sections sh st h p in_n);
      j_fields = λ i c' a' e' s' k' n' li is lt. grind (arith, nat_tests, r.j_fields i c' a' e' s' k' n' li, (calls h).c_named p c t a e in_n, (calls h).c_target p c t in_n, (calls h).c_tries p c q a e in_n, (calls h).calls p in_n, sections sh st h p in_n);
    })

-- kind LeaveSlot
pub cancel_gives : (opened : ℕ) (sh : Layout) (st : S.State) (p : ℕ) (x : ℕ) (calm : Bool) (c : ℕ) (t : ℕ) (told : ℕ) → p < sh.passes → (st.stands p).section ≡ Inside x calm → (st.stands p).phase ≡ phase.Cancel (cancel.GiveUp c t) → Shut sh st → RecordsAgree opened sh st
    → RecordsAgree opened sh (did sh st p Go (Inside x calm) (phase.Cancel (cancel.GiveUp c t)) told (Store (place.Directory c t) (word.Directory (dir.Limbo (x + 1)))))
cancel_gives opened sh st p x calm c t told in_n at_sec at_call h r = in_world (RecordsAgree opened sh) (apply (Store (place.Directory c t) (word.Directory (dir.Limbo (x + 1)))) st.memory) (put_stand st.stands p (moved sh p (st.stands p) (Inside x calm) (phase.Cancel (cancel.GiveUp c t)) Go told (seen (Store (place.Directory c t) (word.Directory (dir.Limbo (x + 1)))) st.memory))) st.world
    (change sh p (st.stands p) (Inside x calm) (phase.Cancel (cancel.GiveUp c t)) Go told (seen (Store (place.Directory c t) (word.Directory (dir.Limbo (x + 1)))) st.memory)).event (grind (arith, nat_tests)) (record {
      given_in = r.given_in;
      given_of = r.given_of;
      no_others = r.no_others;
      is_here = r.is_here;
      since = r.since;
      values = r.values;
      c_record = λ i c' li is. grind (arith, nat_tests, r.c_record i c' li, (calls h).c_target p c t in_n, (calls h).calls p in_n, sections sh st h p in_n);
      c_values = λ i c' k' li is lt. grind (arith, nat_tests, r.c_values i c' k' li, (calls h).c_target p c t in_n, (calls h).calls p in_n, sections sh st h p in_n);
      c_stored = λ i c' s' a' e' y' k' li is lt. grind (arith, nat_tests, r.c_stored i c' s' a' e' y' k' li, (calls h).c_target p c t in_n, (calls h).c_loose p c t a' e' in_n, (calls h).calls p in_n, sections sh st h p in_n);
      c_blanks = λ i c' s' y' k' li is lt. grind (arith, nat_tests, r.c_blanks i c' s' y' k' li, (calls h).c_target p c t in_n, (calls h).calls p in_n, sections sh st h p in_n);
      placed_record = r.placed_record;
      held_record = λ i c' a' e' s' k' li is lt. grind (arith, nat_tests, r.held_record i c' a' e' s' k' li, (calls h).c_target p c t in_n, (calls h).c_loose p c t a' e' in_n, (calls h).calls p in_n, sections sh st h p in_n);
      frozen_blank = r.frozen_blank;
      locked_fields = r.locked_fields;
      j_passed = λ i c' a' e' s' k' n' li is lt. grind (arith, nat_tests, r.j_passed i c' a' e' s' k' n' li, (calls h).c_target p c t in_n, (calls h).c_loose p c t a' e' in_n, (calls h).calls p in_n, sections sh st h p in_n);
      j_word = λ i c' a' e' s' f' v' n' li is lk ld. grind (arith, nat_tests, r.j_word i c' a' e' s' f' v' n' li, (calls h).c_target p c t in_n, (calls h).c_loose p c t a' e' in_n, (calls h).calls p in_n, sections sh st h p in_n);
      j_fields = λ i c' a' e' s' k' n' li is lt. grind (arith, nat_tests, r.j_fields i c' a' e' s' k' n' li, (calls h).c_target p c t in_n, (calls h).c_loose p c t a' e' in_n, (calls h).calls p in_n, sections sh st h p in_n);
    })

-- kind CloseRound
pub cancel_ends : (opened : ℕ) (sh : Layout) (st : S.State) (p : ℕ) (x : ℕ) (calm : Bool) (told : ℕ) → p < sh.passes → (st.stands p).section ≡ Inside x calm → (st.stands p).phase ≡ phase.Cancel cancel.End → Shut sh st → RecordsAgree opened sh st
    → RecordsAgree opened sh (did sh st p Go (Inside x calm) (phase.Cancel cancel.End) told (Store place.Round (word.Round None)))
cancel_ends opened sh st p x calm told in_n at_sec at_call h r = in_world (RecordsAgree opened sh) (apply (Store place.Round (word.Round None)) st.memory) (put_stand st.stands p (moved sh p (st.stands p) (Inside x calm) (phase.Cancel cancel.End) Go told (seen (Store place.Round (word.Round None)) st.memory))) st.world
    (change sh p (st.stands p) (Inside x calm) (phase.Cancel cancel.End) Go told (seen (Store place.Round (word.Round None)) st.memory)).event (grind (arith, nat_tests)) (record {
      given_in = r.given_in;
      given_of = r.given_of;
      no_others = r.no_others;
      is_here = r.is_here;
      since = r.since;
      values = r.values;
      c_record = λ i c' li is. grind (arith, nat_tests, r.c_record i c' li, (calls h).calls p in_n, sections sh st h p in_n);
      c_values = λ i c' k' li is lt. grind (arith, nat_tests, r.c_values i c' k' li, (calls h).calls p in_n, sections sh st h p in_n);
      c_stored = λ i c' s' a' e' y' k' li is lt. grind (arith, nat_tests, r.c_stored i c' s' a' e' y' k' li, (calls h).calls p in_n, sections sh st h p in_n);
      c_blanks = λ i c' s' y' k' li is lt. grind (arith, nat_tests, r.c_blanks i c' s' y' k' li, (calls h).calls p in_n, sections sh st h p in_n);
      placed_record = r.placed_record;
      held_record = λ i c' a' e' s' k' li is lt. grind (arith, nat_tests, r.held_record i c' a' e' s' k' li, (calls h).calls p in_n, sections sh st h p in_n);
      frozen_blank = r.frozen_blank;
      locked_fields = r.locked_fields;
      j_passed = λ i c' a' e' s' k' n' li is lt. grind (arith, nat_tests, r.j_passed i c' a' e' s' k' n' li, (calls h).calls p in_n, sections sh st h p in_n);
      j_word = λ i c' a' e' s' f' v' n' li is lk ld. grind (arith, nat_tests, r.j_word i c' a' e' s' f' v' n' li, (calls h).calls p in_n, sections sh st h p in_n);
      j_fields = λ i c' a' e' s' k' n' li is lt. grind (arith, nat_tests, r.j_fields i c' a' e' s' k' n' li, (calls h).calls p in_n, sections sh st h p in_n);
    })
