-- Steps keep the agreement: records, finishes. Written by tools/laws.py.
use Rattle.std.proofs.Common.{◌≡◌, ℕ, ◌+◌, ◌<◌, Bool, true, false, Some, None, subst, arith}
use Rattle.std.proofs.lemmas.Bool.Decides.{nat_tests}
use Rattle.smc_words.specs.declared.layout.TheConstants.{BLANK}
use Rattle.smc_words.specs.declared.dir.Dir.TheVariants as dir
use Rattle.smc_shape.specs.Layout.{Layout}
use Rattle.smc_shape.specs.declared.place.Place.TheVariants as place
use Rattle.smc_core.specs.declared.call.Call.TheVariants as call
use Rattle.smc_core.specs.declared.call.Choice.TheVariants.{Start, Go}
use Rattle.smc_core.specs.declared.op.Op.TheVariants.{Load, Store, Exchange}
use Rattle.smc_core.specs.declared.phase.Phase.TheVariants as phase
use Rattle.smc_core.specs.declared.phase.moves.FinishPhase.TheVariants as finish
use Rattle.smc_core.specs.declared.phase.moves.Targets.{Targets}
use Rattle.smc_core.specs.declared.phase.objects.CopyPhase.TheVariants as copy
use Rattle.smc_core.specs.declared.section.Section.TheVariants.{Inside}
use Rattle.smc_core.specs.declared.word.State.TheVariants as state
use Rattle.smc_core.specs.declared.word.Word.TheVariants as word
use Rattle.smc_core.specs.Finish.{is_early}
use Rattle.smc_inv_range.specs.Calls.{InPhase}
use Rattle.smc_rules.specs.Reads.{field_in, object}
use Rattle.smc_rules.specs.State as S
use Rattle.smc_rules.specs.State.{put_stand}
use Rattle.smc_agreement.proofs.Whole.{Shut, ranges, calls, copies, moves, did, moved, sections}
use Rattle.smc_agreement.proofs.CrossLaws.{by_eq, late_copy}
use Rattle.smc_core.specs.Change.{change}
use Rattle.smc_rules.specs.Memory.{apply, seen}
use Rattle.smc_agreement.specs.Records.{RecordsAgree}
use Rattle.smc_agreement.proofs.FieldLaws.{put_word}
use Rattle.smc_agreement.proofs.WorldViews.{in_world}

-- kind LoadDirectory
pub starts_finish : (opened : ℕ) (sh : Layout) (st : S.State) (p : ℕ) (x : ℕ) (calm : Bool) (b : ℕ) (c : ℕ) (told : ℕ) → p < sh.passes → (st.stands p).section ≡ Inside x calm → (st.stands p).phase ≡ phase.Idle → (st.stands p).round ≡ Some (record { bound = b; coll = c }) → is_early x b ≡ false → Shut sh st → RecordsAgree opened sh st
    → RecordsAgree opened sh (did sh st p (Start call.Finish) (Inside x calm) phase.Idle told (Load (place.Directory c 0)))
starts_finish opened sh st p x calm b c told in_n at_sec at_call pre1 pre2 h r = in_world (RecordsAgree opened sh) (apply (Load (place.Directory c 0)) st.memory) (put_stand st.stands p (moved sh p (st.stands p) (Inside x calm) phase.Idle (Start call.Finish) told (seen (Load (place.Directory c 0)) st.memory))) st.world
    (change sh p (st.stands p) (Inside x calm) phase.Idle (Start call.Finish) told (seen (Load (place.Directory c 0)) st.memory)).event (grind (arith, nat_tests)) (record {
      given_in = r.given_in;
      given_of = r.given_of;
      no_others = r.no_others;
      is_here = r.is_here;
      since = r.since;
      values = r.values;
      c_record = λ i c' li is. grind (arith, nat_tests, r.c_record i c' li, (calls h).calls p in_n, sections sh st h p in_n);
      c_values = λ i c' k' li is lt. grind (arith, nat_tests, r.c_values i c' k' li, (calls h).calls p in_n, sections sh st h p in_n);
      c_stored = λ i c' s' a' e' y' k' li is lt. grind (arith, nat_tests, r.c_stored i c' s' a' e' y' k' li, (calls h).calls p in_n, sections sh st h p in_n);
      c_blanks = λ i c' s' y' k' li is lt. grind (arith, nat_tests, r.c_blanks i c' s' y' k' li, (calls h).calls p in_n, sections sh st h p in_n);
      placed_record = r.placed_record;
      held_record = λ i c' a' e' s' k' li is lt. grind (arith, nat_tests, r.held_record i c' a' e' s' k' li, (calls h).calls p in_n, sections sh st h p in_n);
      frozen_blank = r.frozen_blank;
      locked_fields = r.locked_fields;
      j_passed = λ i c' a' e' s' k' n' li is lt. grind (arith, nat_tests, r.j_passed i c' a' e' s' k' n' li, (calls h).calls p in_n, sections sh st h p in_n);
      j_word = λ i c' a' e' s' f' v' n' li is lk ld. grind (arith, nat_tests, r.j_word i c' a' e' s' f' v' n' li, (calls h).calls p in_n, sections sh st h p in_n);
      j_fields = λ i c' a' e' s' k' n' li is lt. grind (arith, nat_tests, r.j_fields i c' a' e' s' k' n' li, (calls h).calls p in_n, sections sh st h p in_n);
    })

-- kind LoadSection
pub finish_early : (opened : ℕ) (sh : Layout) (st : S.State) (p : ℕ) (x : ℕ) (calm : Bool) (b : ℕ) (c : ℕ) (told : ℕ) → p < sh.passes → (st.stands p).section ≡ Inside x calm → (st.stands p).phase ≡ phase.Idle → (st.stands p).round ≡ Some (record { bound = b; coll = c }) → is_early x b ≡ true → Shut sh st → RecordsAgree opened sh st
    → RecordsAgree opened sh (did sh st p (Start call.Finish) (Inside x calm) phase.Idle told (Load (place.Section p)))
finish_early opened sh st p x calm b c told in_n at_sec at_call pre1 pre2 h r = in_world (RecordsAgree opened sh) (apply (Load (place.Section p)) st.memory) (put_stand st.stands p (moved sh p (st.stands p) (Inside x calm) phase.Idle (Start call.Finish) told (seen (Load (place.Section p)) st.memory))) st.world
    (change sh p (st.stands p) (Inside x calm) phase.Idle (Start call.Finish) told (seen (Load (place.Section p)) st.memory)).event (grind (arith, nat_tests)) (record {
      given_in = r.given_in;
      given_of = r.given_of;
      no_others = r.no_others;
      is_here = r.is_here;
      since = r.since;
      values = r.values;
      c_record = λ i c' li is. grind (arith, nat_tests, r.c_record i c' li, (calls h).calls p in_n, sections sh st h p in_n);
      c_values = λ i c' k' li is lt. grind (arith, nat_tests, r.c_values i c' k' li, (calls h).calls p in_n, sections sh st h p in_n);
      c_stored = λ i c' s' a' e' y' k' li is lt. grind (arith, nat_tests, r.c_stored i c' s' a' e' y' k' li, (calls h).calls p in_n, sections sh st h p in_n);
      c_blanks = λ i c' s' y' k' li is lt. grind (arith, nat_tests, r.c_blanks i c' s' y' k' li, (calls h).calls p in_n, sections sh st h p in_n);
      placed_record = r.placed_record;
      held_record = λ i c' a' e' s' k' li is lt. grind (arith, nat_tests, r.held_record i c' a' e' s' k' li, (calls h).calls p in_n, sections sh st h p in_n);
      frozen_blank = r.frozen_blank;
      locked_fields = r.locked_fields;
      j_passed = λ i c' a' e' s' k' n' li is lt. grind (arith, nat_tests, r.j_passed i c' a' e' s' k' n' li, (calls h).calls p in_n, sections sh st h p in_n);
      j_word = λ i c' a' e' s' f' v' n' li is lk ld. grind (arith, nat_tests, r.j_word i c' a' e' s' f' v' n' li, (calls h).calls p in_n, sections sh st h p in_n);
      j_fields = λ i c' a' e' s' k' n' li is lt. grind (arith, nat_tests, r.j_fields i c' a' e' s' k' n' li, (calls h).calls p in_n, sections sh st h p in_n);
    })

-- kind LoadDirectory
pub finish_dir : (opened : ℕ) (sh : Layout) (st : S.State) (p : ℕ) (x : ℕ) (calm : Bool) (g : Targets) (told : ℕ) → p < sh.passes → (st.stands p).section ≡ Inside x calm → (st.stands p).phase ≡ phase.Finish (finish.Directory g) → Shut sh st → RecordsAgree opened sh st
    → RecordsAgree opened sh (did sh st p Go (Inside x calm) (phase.Finish (finish.Directory g)) told (Load (place.Directory g.coll g.slot)))
finish_dir opened sh st p x calm g told in_n at_sec at_call h r = in_world (RecordsAgree opened sh) (apply (Load (place.Directory g.coll g.slot)) st.memory) (put_stand st.stands p (moved sh p (st.stands p) (Inside x calm) (phase.Finish (finish.Directory g)) Go told (seen (Load (place.Directory g.coll g.slot)) st.memory))) st.world
    (change sh p (st.stands p) (Inside x calm) (phase.Finish (finish.Directory g)) Go told (seen (Load (place.Directory g.coll g.slot)) st.memory)).event (grind (arith, nat_tests)) (record {
      given_in = r.given_in;
      given_of = r.given_of;
      no_others = r.no_others;
      is_here = r.is_here;
      since = r.since;
      values = r.values;
      c_record = λ i c' li is. grind (arith, nat_tests, r.c_record i c' li, (calls h).calls p in_n, sections sh st h p in_n);
      c_values = λ i c' k' li is lt. grind (arith, nat_tests, r.c_values i c' k' li, (calls h).calls p in_n, sections sh st h p in_n);
      c_stored = λ i c' s' a' e' y' k' li is lt. grind (arith, nat_tests, r.c_stored i c' s' a' e' y' k' li, (calls h).calls p in_n, sections sh st h p in_n);
      c_blanks = λ i c' s' y' k' li is lt. grind (arith, nat_tests, r.c_blanks i c' s' y' k' li, (calls h).calls p in_n, sections sh st h p in_n);
      placed_record = r.placed_record;
      held_record = λ i c' a' e' s' k' li is lt. grind (arith, nat_tests, r.held_record i c' a' e' s' k' li, (calls h).calls p in_n, sections sh st h p in_n);
      frozen_blank = r.frozen_blank;
      locked_fields = r.locked_fields;
      j_passed = λ i c' a' e' s' k' n' li is lt. grind (arith, nat_tests, r.j_passed i c' a' e' s' k' n' li, (calls h).calls p in_n, sections sh st h p in_n);
      j_word = λ i c' a' e' s' f' v' n' li is lk ld. grind (arith, nat_tests, r.j_word i c' a' e' s' f' v' n' li, (calls h).calls p in_n, sections sh st h p in_n);
      j_fields = λ i c' a' e' s' k' n' li is lt. grind (arith, nat_tests, r.j_fields i c' a' e' s' k' n' li, (calls h).calls p in_n, sections sh st h p in_n);
    })

-- kind LoadBack
pub finish_back : (opened : ℕ) (sh : Layout) (st : S.State) (p : ℕ) (x : ℕ) (calm : Bool) (g : Targets) (told : ℕ) → p < sh.passes → (st.stands p).section ≡ Inside x calm → (st.stands p).phase ≡ phase.Finish (finish.Back g) → Shut sh st → RecordsAgree opened sh st
    → RecordsAgree opened sh (did sh st p Go (Inside x calm) (phase.Finish (finish.Back g)) told (Load (place.Back g.coll g.slot)))
finish_back opened sh st p x calm g told in_n at_sec at_call h r = in_world (RecordsAgree opened sh) (apply (Load (place.Back g.coll g.slot)) st.memory) (put_stand st.stands p (moved sh p (st.stands p) (Inside x calm) (phase.Finish (finish.Back g)) Go told (seen (Load (place.Back g.coll g.slot)) st.memory))) st.world
    (change sh p (st.stands p) (Inside x calm) (phase.Finish (finish.Back g)) Go told (seen (Load (place.Back g.coll g.slot)) st.memory)).event (grind (arith, nat_tests)) (record {
      given_in = r.given_in;
      given_of = r.given_of;
      no_others = r.no_others;
      is_here = r.is_here;
      since = r.since;
      values = r.values;
      c_record = λ i c' li is. grind (arith, nat_tests, r.c_record i c' li, (calls h).c_target p g.coll g.slot in_n, (calls h).calls p in_n, sections sh st h p in_n);
      c_values = λ i c' k' li is lt. grind (arith, nat_tests, r.c_values i c' k' li, (calls h).c_target p g.coll g.slot in_n, (calls h).calls p in_n, sections sh st h p in_n);
      c_stored = λ i c' s' a' e' y' k' li is lt. grind (arith, nat_tests, r.c_stored i c' s' a' e' y' k' li, (calls h).c_target p g.coll g.slot in_n, (calls h).calls p in_n, sections sh st h p in_n);
      c_blanks = λ i c' s' y' k' li is lt. grind (arith, nat_tests, r.c_blanks i c' s' y' k' li, (calls h).c_target p g.coll g.slot in_n, (calls h).calls p in_n, sections sh st h p in_n);
      placed_record = r.placed_record;
      held_record = λ i c' a' e' s' k' li is lt. grind (arith, nat_tests, r.held_record i c' a' e' s' k' li, (calls h).c_target p g.coll g.slot in_n, (calls h).calls p in_n, sections sh st h p in_n);
      frozen_blank = r.frozen_blank;
      locked_fields = r.locked_fields;
      j_passed = λ i c' a' e' s' k' n' li is lt. grind (arith, nat_tests, r.j_passed i c' a' e' s' k' n' li, (calls h).c_target p g.coll g.slot in_n, (calls h).calls p in_n, sections sh st h p in_n);
      j_word = λ i c' a' e' s' f' v' n' li is lk ld. grind (arith, nat_tests, r.j_word i c' a' e' s' f' v' n' li, (calls h).c_target p g.coll g.slot in_n, (calls h).calls p in_n, sections sh st h p in_n);
      j_fields = λ i c' a' e' s' k' n' li is lt. grind (arith, nat_tests, r.j_fields i c' a' e' s' k' n' li, (calls h).c_target p g.coll g.slot in_n, (calls h).calls p in_n, sections sh st h p in_n);
    })

-- kind LoadEntry
pub finish_entry : (opened : ℕ) (sh : Layout) (st : S.State) (p : ℕ) (x : ℕ) (calm : Bool) (g : Targets) (a : ℕ) (e : ℕ) (told : ℕ) → p < sh.passes → (st.stands p).section ≡ Inside x calm → (st.stands p).phase ≡ phase.Finish (finish.Entry g (object a e g.coll)) → Shut sh st → RecordsAgree opened sh st
    → RecordsAgree opened sh (did sh st p Go (Inside x calm) (phase.Finish (finish.Entry g (object a e g.coll))) told (Load (place.Entry g.coll e)))
finish_entry opened sh st p x calm g a e told in_n at_sec at_call h r = in_world (RecordsAgree opened sh) (apply (Load (place.Entry g.coll e)) st.memory) (put_stand st.stands p (moved sh p (st.stands p) (Inside x calm) (phase.Finish (finish.Entry g (object a e g.coll))) Go told (seen (Load (place.Entry g.coll e)) st.memory))) st.world
    (change sh p (st.stands p) (Inside x calm) (phase.Finish (finish.Entry g (object a e g.coll))) Go told (seen (Load (place.Entry g.coll e)) st.memory)).event (grind (arith, nat_tests)) (record {
      given_in = r.given_in;
      given_of = r.given_of;
      no_others = r.no_others;
      is_here = r.is_here;
      since = r.since;
      values = r.values;
      c_record = λ i c' li is. grind (arith, nat_tests, r.c_record i c' li, (calls h).c_named p g.coll g.slot a e in_n, (calls h).c_target p g.coll g.slot in_n, (calls h).calls p in_n, sections sh st h p in_n);
      c_values = λ i c' k' li is lt. grind (arith, nat_tests, r.c_values i c' k' li, (calls h).c_named p g.coll g.slot a e in_n, (calls h).c_target p g.coll g.slot in_n, (calls h).calls p in_n, sections sh st h p in_n);
      c_stored = λ i c' s' a' e' y' k' li is lt. grind (arith, nat_tests, r.c_stored i c' s' a' e' y' k' li, (calls h).c_named p g.coll g.slot a e in_n, (calls h).c_target p g.coll g.slot in_n, (calls h).calls p in_n, sections sh st h p in_n);
      c_blanks = λ i c' s' y' k' li is lt. grind (arith, nat_tests, r.c_blanks i c' s' y' k' li, (calls h).c_named p g.coll g.slot a e in_n, (calls h).c_target p g.coll g.slot in_n, (calls h).calls p in_n, sections sh st h p in_n);
      placed_record = r.placed_record;
      held_record = λ i c' a' e' s' k' li is lt. grind (arith, nat_tests, r.held_record i c' a' e' s' k' li, (calls h).c_named p g.coll g.slot a e in_n, (calls h).c_target p g.coll g.slot in_n, (calls h).calls p in_n, sections sh st h p in_n);
      frozen_blank = r.frozen_blank;
      locked_fields = r.locked_fields;
      j_passed = λ i c' a' e' s' k' n' li is lt. grind (arith, nat_tests, r.j_passed i c' a' e' s' k' n' li, (calls h).c_named p g.coll g.slot a e in_n, (calls h).c_target p g.coll g.slot in_n, (calls h).calls p in_n, sections sh st h p in_n);
      j_word = λ i c' a' e' s' f' v' n' li is lk ld. grind (arith, nat_tests, r.j_word i c' a' e' s' f' v' n' li, (calls h).c_named p g.coll g.slot a e in_n, (calls h).c_target p g.coll g.slot in_n, (calls h).calls p in_n, sections sh st h p in_n);
      j_fields = λ i c' a' e' s' k' n' li is lt. grind (arith, nat_tests, r.j_fields i c' a' e' s' k' n' li, (calls h).c_named p g.coll g.slot a e in_n, (calls h).c_target p g.coll g.slot in_n, (calls h).calls p in_n, sections sh st h p in_n);
    })

-- kind Lock
pub lock : (opened : ℕ) (sh : Layout) (st : S.State) (p : ℕ) (x : ℕ) (calm : Bool) (g : Targets) (a : ℕ) (e : ℕ) (q : ℕ) (told : ℕ) → p < sh.passes → (st.stands p).section ≡ Inside x calm → (st.stands p).phase ≡ phase.Finish (finish.Lock g (object a e g.coll) q) → Shut sh st → RecordsAgree opened sh st
    → RecordsAgree opened sh (did sh st p Go (Inside x calm) (phase.Finish (finish.Lock g (object a e g.coll) q)) told (Exchange (place.Entry g.coll e) (word.Entry (state.Frozen a q)) (word.Entry (state.Locked a q))))
lock opened sh st p x calm g a e q told in_n at_sec at_call h r = in_world (RecordsAgree opened sh) (apply (Exchange (place.Entry g.coll e) (word.Entry (state.Frozen a q)) (word.Entry (state.Locked a q))) st.memory) (put_stand st.stands p (moved sh p (st.stands p) (Inside x calm) (phase.Finish (finish.Lock g (object a e g.coll) q)) Go told (seen (Exchange (place.Entry g.coll e) (word.Entry (state.Frozen a q)) (word.Entry (state.Locked a q))) st.memory))) st.world
    (change sh p (st.stands p) (Inside x calm) (phase.Finish (finish.Lock g (object a e g.coll) q)) Go told (seen (Exchange (place.Entry g.coll e) (word.Entry (state.Frozen a q)) (word.Entry (state.Locked a q))) st.memory)).event (grind (arith, nat_tests)) (record {
      given_in = λ c' a' e' is. grind (arith, nat_tests, r.given_in c' a' e', (calls h).c_named p g.coll g.slot a e in_n, (calls h).c_target p g.coll g.slot in_n, (calls h).c_tries p g.coll q a e in_n, (calls h).calls p in_n, sections sh st h p in_n);
      given_of = λ c' a' e' is. grind (arith, nat_tests, r.given_of c' a' e', (calls h).c_named p g.coll g.slot a e in_n, (calls h).c_target p g.coll g.slot in_n, (calls h).c_tries p g.coll q a e in_n, (calls h).calls p in_n, sections sh st h p in_n);
      no_others = r.no_others;
      is_here = λ c' a' e'. grind (arith, nat_tests, r.is_here c' a' e', (calls h).c_named p g.coll g.slot a e in_n, (calls h).c_target p g.coll g.slot in_n, (calls h).c_tries p g.coll q a e in_n, (calls h).calls p in_n, sections sh st h p in_n);
      since = λ c' e'. grind (arith, nat_tests, r.since c' e', (calls h).c_named p g.coll g.slot a e in_n, (calls h).c_target p g.coll g.slot in_n, (calls h).c_tries p g.coll q a e in_n, (calls h).calls p in_n, sections sh st h p in_n, r.since g.coll e);
      values = r.values;
      c_record = λ i c' li is. grind (arith, nat_tests, r.c_record i c' li, (calls h).c_named p g.coll g.slot a e in_n, (calls h).c_target p g.coll g.slot in_n, (calls h).c_tries p g.coll q a e in_n, (calls h).calls p in_n, sections sh st h p in_n);
      c_values = λ i c' k' li is lt. grind (arith, nat_tests, r.c_values i c' k' li, (calls h).c_named p g.coll g.slot a e in_n, (calls h).c_target p g.coll g.slot in_n, (calls h).c_tries p g.coll q a e in_n, (calls h).calls p in_n, sections sh st h p in_n);
      c_stored = λ i c' s' a' e' y' k' li is lt. grind (arith, nat_tests, r.c_stored i c' s' a' e' y' k' li, (calls h).c_named p g.coll g.slot a e in_n, (calls h).c_target p g.coll g.slot in_n, (calls h).c_tries p g.coll q a e in_n, (calls h).calls p in_n, sections sh st h p in_n);
      c_blanks = λ i c' s' y' k' li is lt. grind (arith, nat_tests, r.c_blanks i c' s' y' k' li, (calls h).c_named p g.coll g.slot a e in_n, (calls h).c_target p g.coll g.slot in_n, (calls h).c_tries p g.coll q a e in_n, (calls h).calls p in_n, sections sh st h p in_n);
      placed_record = λ c' a' e' s' k' is lt. grind (arith, nat_tests, r.placed_record c' a' e' s' k', (calls h).c_named p g.coll g.slot a e in_n, (calls h).c_target p g.coll g.slot in_n, (calls h).c_tries p g.coll q a e in_n, (calls h).calls p in_n, sections sh st h p in_n);
      held_record = λ i c' a' e' s' k' li is lt. grind (arith, nat_tests, r.held_record i c' a' e' s' k' li, (calls h).c_named p g.coll g.slot a e in_n, (calls h).c_target p g.coll g.slot in_n, (calls h).c_tries p g.coll q a e in_n, (calls h).calls p in_n, sections sh st h p in_n);
      frozen_blank = λ c' a' e' s' k' is lt. grind (arith, nat_tests, r.frozen_blank c' a' e' s' k', (calls h).c_named p g.coll g.slot a e in_n, (calls h).c_target p g.coll g.slot in_n, (calls h).c_tries p g.coll q a e in_n, (calls h).calls p in_n, sections sh st h p in_n);
      locked_fields = λ c' a' e' s' k' is lt. grind (arith, nat_tests, r.locked_fields c' a' e' s' k', (calls h).c_named p g.coll g.slot a e in_n, (calls h).c_target p g.coll g.slot in_n, (calls h).c_tries p g.coll q a e in_n, (calls h).calls p in_n, sections sh st h p in_n, r.frozen_blank g.coll a e q k');
      j_passed = λ i c' a' e' s' k' n' li is lt. grind (arith, nat_tests, r.j_passed i c' a' e' s' k' n' li, (calls h).c_named p g.coll g.slot a e in_n, (calls h).c_target p g.coll g.slot in_n, (calls h).c_tries p g.coll q a e in_n, (calls h).calls p in_n, sections sh st h p in_n, late_copy sh st h p x g.coll a e q i in_n li, sections sh st h i li, (calls h).calls i li);
      j_word = λ i c' a' e' s' f' v' n' li is lk ld. grind (arith, nat_tests, r.j_word i c' a' e' s' f' v' n' li, (calls h).c_named p g.coll g.slot a e in_n, (calls h).c_target p g.coll g.slot in_n, (calls h).c_tries p g.coll q a e in_n, (calls h).calls p in_n, sections sh st h p in_n, late_copy sh st h p x g.coll a e q i in_n li, sections sh st h i li, (calls h).calls i li);
      j_fields = λ i c' a' e' s' k' n' li is lt. grind (arith, nat_tests, r.j_fields i c' a' e' s' k' n' li, (calls h).c_named p g.coll g.slot a e in_n, (calls h).c_target p g.coll g.slot in_n, (calls h).c_tries p g.coll q a e in_n, (calls h).calls p in_n, sections sh st h p in_n, late_copy sh st h p x g.coll a e q i in_n li, sections sh st h i li, (calls h).calls i li);
    })

-- kind LoadForward
pub f_fwd : (opened : ℕ) (sh : Layout) (st : S.State) (p : ℕ) (x : ℕ) (calm : Bool) (g : Targets) (a : ℕ) (e : ℕ) (q : ℕ) (told : ℕ) → p < sh.passes → (st.stands p).section ≡ Inside x calm → (st.stands p).phase ≡ phase.Finish (finish.Move g (object a e g.coll) q copy.Target) → Shut sh st → RecordsAgree opened sh st
    → RecordsAgree opened sh (did sh st p Go (Inside x calm) (phase.Finish (finish.Move g (object a e g.coll) q copy.Target)) told (Load (place.Forward g.coll q)))
f_fwd opened sh st p x calm g a e q told in_n at_sec at_call h r = in_world (RecordsAgree opened sh) (apply (Load (place.Forward g.coll q)) st.memory) (put_stand st.stands p (moved sh p (st.stands p) (Inside x calm) (phase.Finish (finish.Move g (object a e g.coll) q copy.Target)) Go told (seen (Load (place.Forward g.coll q)) st.memory))) st.world
    (change sh p (st.stands p) (Inside x calm) (phase.Finish (finish.Move g (object a e g.coll) q copy.Target)) Go told (seen (Load (place.Forward g.coll q)) st.memory)).event (grind (arith, nat_tests)) (record {
      given_in = r.given_in;
      given_of = r.given_of;
      no_others = r.no_others;
      is_here = r.is_here;
      since = r.since;
      values = r.values;
      c_record = λ i c' li is. grind (arith, nat_tests, r.c_record i c' li, (calls h).c_leads p g.coll q g.slot in_n, (calls h).c_leaves p g.coll q in_n, (calls h).c_apart p g.coll q a e in_n, (copies h).j_named p g.coll a e q copy.Target in_n, (copies h).j_led p g.coll a e q copy.Target in_n, (copies h).j_entry p g.coll a e q copy.Target in_n, (copies h).j_locked p g.coll a e q copy.Target in_n, (copies h).j_left p g.coll a e q copy.Target in_n, (copies h).j_for p g.coll a e q copy.Target in_n, (copies h).j_back p g.coll a e q copy.Target in_n, (calls h).calls p in_n, sections sh st h p in_n);
      c_values = λ i c' k' li is lt. grind (arith, nat_tests, r.c_values i c' k' li, (calls h).c_leads p g.coll q g.slot in_n, (calls h).c_leaves p g.coll q in_n, (calls h).c_apart p g.coll q a e in_n, (copies h).j_named p g.coll a e q copy.Target in_n, (copies h).j_led p g.coll a e q copy.Target in_n, (copies h).j_entry p g.coll a e q copy.Target in_n, (copies h).j_locked p g.coll a e q copy.Target in_n, (copies h).j_left p g.coll a e q copy.Target in_n, (copies h).j_for p g.coll a e q copy.Target in_n, (copies h).j_back p g.coll a e q copy.Target in_n, r.j_passed p g.coll a e q k' copy.Target in_n, r.j_fields p g.coll a e q k' copy.Target in_n, (calls h).calls p in_n, sections sh st h p in_n);
      c_stored = λ i c' s' a' e' y' k' li is lt. grind (arith, nat_tests, r.c_stored i c' s' a' e' y' k' li, (calls h).c_leads p g.coll q g.slot in_n, (calls h).c_leaves p g.coll q in_n, (calls h).c_apart p g.coll q a e in_n, (copies h).j_named p g.coll a e q copy.Target in_n, (copies h).j_led p g.coll a e q copy.Target in_n, (copies h).j_entry p g.coll a e q copy.Target in_n, (copies h).j_locked p g.coll a e q copy.Target in_n, (copies h).j_left p g.coll a e q copy.Target in_n, (copies h).j_for p g.coll a e q copy.Target in_n, (copies h).j_back p g.coll a e q copy.Target in_n, r.j_passed p g.coll a e q k' copy.Target in_n, r.j_fields p g.coll a e q k' copy.Target in_n, (calls h).calls p in_n, sections sh st h p in_n);
      c_blanks = λ i c' s' y' k' li is lt. grind (arith, nat_tests, r.c_blanks i c' s' y' k' li, (calls h).c_leads p g.coll q g.slot in_n, (calls h).c_leaves p g.coll q in_n, (calls h).c_apart p g.coll q a e in_n, (copies h).j_named p g.coll a e q copy.Target in_n, (copies h).j_led p g.coll a e q copy.Target in_n, (copies h).j_entry p g.coll a e q copy.Target in_n, (copies h).j_locked p g.coll a e q copy.Target in_n, (copies h).j_left p g.coll a e q copy.Target in_n, (copies h).j_for p g.coll a e q copy.Target in_n, (copies h).j_back p g.coll a e q copy.Target in_n, r.j_passed p g.coll a e q k' copy.Target in_n, r.j_fields p g.coll a e q k' copy.Target in_n, (calls h).calls p in_n, sections sh st h p in_n);
      placed_record = r.placed_record;
      held_record = λ i c' a' e' s' k' li is lt. grind (arith, nat_tests, r.held_record i c' a' e' s' k' li, (calls h).c_leads p g.coll q g.slot in_n, (calls h).c_leaves p g.coll q in_n, (calls h).c_apart p g.coll q a e in_n, (copies h).j_named p g.coll a e q copy.Target in_n, (copies h).j_led p g.coll a e q copy.Target in_n, (copies h).j_entry p g.coll a e q copy.Target in_n, (copies h).j_locked p g.coll a e q copy.Target in_n, (copies h).j_left p g.coll a e q copy.Target in_n, (copies h).j_for p g.coll a e q copy.Target in_n, (copies h).j_back p g.coll a e q copy.Target in_n, r.j_passed p g.coll a e q k' copy.Target in_n, r.j_fields p g.coll a e q k' copy.Target in_n, (calls h).calls p in_n, sections sh st h p in_n);
      frozen_blank = r.frozen_blank;
      locked_fields = r.locked_fields;
      j_passed = λ i c' a' e' s' k' n' li is lt. grind (arith, nat_tests, r.j_passed i c' a' e' s' k' n' li, (calls h).c_leads p g.coll q g.slot in_n, (calls h).c_leaves p g.coll q in_n, (calls h).c_apart p g.coll q a e in_n, (copies h).j_named p g.coll a e q copy.Target in_n, (copies h).j_led p g.coll a e q copy.Target in_n, (copies h).j_entry p g.coll a e q copy.Target in_n, (copies h).j_locked p g.coll a e q copy.Target in_n, (copies h).j_left p g.coll a e q copy.Target in_n, (copies h).j_for p g.coll a e q copy.Target in_n, (copies h).j_back p g.coll a e q copy.Target in_n, r.j_passed p g.coll a e q k' copy.Target in_n, r.j_fields p g.coll a e q k' copy.Target in_n, (calls h).calls p in_n, sections sh st h p in_n);
      j_word = λ i c' a' e' s' f' v' n' li is lk ld. grind (arith, nat_tests, r.j_word i c' a' e' s' f' v' n' li, (calls h).c_leads p g.coll q g.slot in_n, (calls h).c_leaves p g.coll q in_n, (calls h).c_apart p g.coll q a e in_n, (copies h).j_named p g.coll a e q copy.Target in_n, (copies h).j_led p g.coll a e q copy.Target in_n, (copies h).j_entry p g.coll a e q copy.Target in_n, (copies h).j_locked p g.coll a e q copy.Target in_n, (copies h).j_left p g.coll a e q copy.Target in_n, (copies h).j_for p g.coll a e q copy.Target in_n, (copies h).j_back p g.coll a e q copy.Target in_n, (calls h).calls p in_n, sections sh st h p in_n);
      j_fields = λ i c' a' e' s' k' n' li is lt. grind (arith, nat_tests, r.j_fields i c' a' e' s' k' n' li, (calls h).c_leads p g.coll q g.slot in_n, (calls h).c_leaves p g.coll q in_n, (calls h).c_apart p g.coll q a e in_n, (copies h).j_named p g.coll a e q copy.Target in_n, (copies h).j_led p g.coll a e q copy.Target in_n, (copies h).j_entry p g.coll a e q copy.Target in_n, (copies h).j_locked p g.coll a e q copy.Target in_n, (copies h).j_left p g.coll a e q copy.Target in_n, (copies h).j_for p g.coll a e q copy.Target in_n, (copies h).j_back p g.coll a e q copy.Target in_n, r.j_passed p g.coll a e q k' copy.Target in_n, r.j_fields p g.coll a e q k' copy.Target in_n, (calls h).calls p in_n, sections sh st h p in_n);
    })

-- kind LoadField
pub f_read : (opened : ℕ) (sh : Layout) (st : S.State) (p : ℕ) (x : ℕ) (calm : Bool) (g : Targets) (a : ℕ) (e : ℕ) (q : ℕ) (t : ℕ) (f : ℕ) (told : ℕ) → p < sh.passes → (st.stands p).section ≡ Inside x calm → (st.stands p).phase ≡ phase.Finish (finish.Move g (object a e g.coll) q (copy.Load t f)) → Shut sh st → RecordsAgree opened sh st
    → RecordsAgree opened sh (did sh st p Go (Inside x calm) (phase.Finish (finish.Move g (object a e g.coll) q (copy.Load t f))) told (Load (place.Field g.coll q f)))
f_read opened sh st p x calm g a e q t f told in_n at_sec at_call h r = in_world (RecordsAgree opened sh) (apply (Load (place.Field g.coll q f)) st.memory) (put_stand st.stands p (moved sh p (st.stands p) (Inside x calm) (phase.Finish (finish.Move g (object a e g.coll) q (copy.Load t f))) Go told (seen (Load (place.Field g.coll q f)) st.memory))) st.world
    (change sh p (st.stands p) (Inside x calm) (phase.Finish (finish.Move g (object a e g.coll) q (copy.Load t f))) Go told (seen (Load (place.Field g.coll q f)) st.memory)).event (grind (arith, nat_tests)) (record {
      given_in = r.given_in;
      given_of = r.given_of;
      no_others = r.no_others;
      is_here = r.is_here;
      since = r.since;
      values = r.values;
      c_record = λ i c' li is. grind (arith, nat_tests, r.c_record i c' li, (calls h).c_leads p g.coll q g.slot in_n, (calls h).c_leaves p g.coll q in_n, (calls h).c_apart p g.coll q a e in_n, (copies h).j_named p g.coll a e q (copy.Load t f) in_n, (copies h).j_led p g.coll a e q (copy.Load t f) in_n, (copies h).j_entry p g.coll a e q (copy.Load t f) in_n, (copies h).j_locked p g.coll a e q (copy.Load t f) in_n, (copies h).j_left p g.coll a e q (copy.Load t f) in_n, (copies h).j_for p g.coll a e q (copy.Load t f) in_n, (copies h).j_back p g.coll a e q (copy.Load t f) in_n, (calls h).calls p in_n, sections sh st h p in_n);
      c_values = λ i c' k' li is lt. grind (arith, nat_tests, r.c_values i c' k' li, (calls h).c_leads p g.coll q g.slot in_n, (calls h).c_leaves p g.coll q in_n, (calls h).c_apart p g.coll q a e in_n, (copies h).j_named p g.coll a e q (copy.Load t f) in_n, (copies h).j_led p g.coll a e q (copy.Load t f) in_n, (copies h).j_entry p g.coll a e q (copy.Load t f) in_n, (copies h).j_locked p g.coll a e q (copy.Load t f) in_n, (copies h).j_left p g.coll a e q (copy.Load t f) in_n, (copies h).j_for p g.coll a e q (copy.Load t f) in_n, (copies h).j_back p g.coll a e q (copy.Load t f) in_n, r.j_passed p g.coll a e q k' (copy.Load t f) in_n, r.j_fields p g.coll a e q k' (copy.Load t f) in_n, (calls h).calls p in_n, sections sh st h p in_n);
      c_stored = λ i c' s' a' e' y' k' li is lt. grind (arith, nat_tests, r.c_stored i c' s' a' e' y' k' li, (calls h).c_leads p g.coll q g.slot in_n, (calls h).c_leaves p g.coll q in_n, (calls h).c_apart p g.coll q a e in_n, (copies h).j_named p g.coll a e q (copy.Load t f) in_n, (copies h).j_led p g.coll a e q (copy.Load t f) in_n, (copies h).j_entry p g.coll a e q (copy.Load t f) in_n, (copies h).j_locked p g.coll a e q (copy.Load t f) in_n, (copies h).j_left p g.coll a e q (copy.Load t f) in_n, (copies h).j_for p g.coll a e q (copy.Load t f) in_n, (copies h).j_back p g.coll a e q (copy.Load t f) in_n, r.j_passed p g.coll a e q k' (copy.Load t f) in_n, r.j_fields p g.coll a e q k' (copy.Load t f) in_n, (calls h).calls p in_n, sections sh st h p in_n);
      c_blanks = λ i c' s' y' k' li is lt. grind (arith, nat_tests, r.c_blanks i c' s' y' k' li, (calls h).c_leads p g.coll q g.slot in_n, (calls h).c_leaves p g.coll q in_n, (calls h).c_apart p g.coll q a e in_n, (copies h).j_named p g.coll a e q (copy.Load t f) in_n, (copies h).j_led p g.coll a e q (copy.Load t f) in_n, (copies h).j_entry p g.coll a e q (copy.Load t f) in_n, (copies h).j_locked p g.coll a e q (copy.Load t f) in_n, (copies h).j_left p g.coll a e q (copy.Load t f) in_n, (copies h).j_for p g.coll a e q (copy.Load t f) in_n, (copies h).j_back p g.coll a e q (copy.Load t f) in_n, r.j_passed p g.coll a e q k' (copy.Load t f) in_n, r.j_fields p g.coll a e q k' (copy.Load t f) in_n, (calls h).calls p in_n, sections sh st h p in_n);
      placed_record = r.placed_record;
      held_record = λ i c' a' e' s' k' li is lt. grind (arith, nat_tests, r.held_record i c' a' e' s' k' li, (calls h).c_leads p g.coll q g.slot in_n, (calls h).c_leaves p g.coll q in_n, (calls h).c_apart p g.coll q a e in_n, (copies h).j_named p g.coll a e q (copy.Load t f) in_n, (copies h).j_led p g.coll a e q (copy.Load t f) in_n, (copies h).j_entry p g.coll a e q (copy.Load t f) in_n, (copies h).j_locked p g.coll a e q (copy.Load t f) in_n, (copies h).j_left p g.coll a e q (copy.Load t f) in_n, (copies h).j_for p g.coll a e q (copy.Load t f) in_n, (copies h).j_back p g.coll a e q (copy.Load t f) in_n, r.j_passed p g.coll a e q k' (copy.Load t f) in_n, r.j_fields p g.coll a e q k' (copy.Load t f) in_n, (calls h).calls p in_n, sections sh st h p in_n);
      frozen_blank = r.frozen_blank;
      locked_fields = r.locked_fields;
      j_passed = λ i c' a' e' s' k' n' li is lt. grind (arith, nat_tests, r.j_passed i c' a' e' s' k' n' li, (calls h).c_leads p g.coll q g.slot in_n, (calls h).c_leaves p g.coll q in_n, (calls h).c_apart p g.coll q a e in_n, (copies h).j_named p g.coll a e q (copy.Load t f) in_n, (copies h).j_led p g.coll a e q (copy.Load t f) in_n, (copies h).j_entry p g.coll a e q (copy.Load t f) in_n, (copies h).j_locked p g.coll a e q (copy.Load t f) in_n, (copies h).j_left p g.coll a e q (copy.Load t f) in_n, (copies h).j_for p g.coll a e q (copy.Load t f) in_n, (copies h).j_back p g.coll a e q (copy.Load t f) in_n, r.j_passed p g.coll a e q k' (copy.Load t f) in_n, r.j_fields p g.coll a e q k' (copy.Load t f) in_n, (calls h).calls p in_n, sections sh st h p in_n);
      j_word = λ i c' a' e' s' f' v' n' li is lk ld. grind (arith, nat_tests, r.j_word i c' a' e' s' f' v' n' li, (calls h).c_leads p g.coll q g.slot in_n, (calls h).c_leaves p g.coll q in_n, (calls h).c_apart p g.coll q a e in_n, (copies h).j_named p g.coll a e q (copy.Load t f) in_n, (copies h).j_led p g.coll a e q (copy.Load t f) in_n, (copies h).j_entry p g.coll a e q (copy.Load t f) in_n, (copies h).j_locked p g.coll a e q (copy.Load t f) in_n, (copies h).j_left p g.coll a e q (copy.Load t f) in_n, (copies h).j_for p g.coll a e q (copy.Load t f) in_n, (copies h).j_back p g.coll a e q (copy.Load t f) in_n, (calls h).calls p in_n, sections sh st h p in_n);
      j_fields = λ i c' a' e' s' k' n' li is lt. grind (arith, nat_tests, r.j_fields i c' a' e' s' k' n' li, (calls h).c_leads p g.coll q g.slot in_n, (calls h).c_leaves p g.coll q in_n, (calls h).c_apart p g.coll q a e in_n, (copies h).j_named p g.coll a e q (copy.Load t f) in_n, (copies h).j_led p g.coll a e q (copy.Load t f) in_n, (copies h).j_entry p g.coll a e q (copy.Load t f) in_n, (copies h).j_locked p g.coll a e q (copy.Load t f) in_n, (copies h).j_left p g.coll a e q (copy.Load t f) in_n, (copies h).j_for p g.coll a e q (copy.Load t f) in_n, (copies h).j_back p g.coll a e q (copy.Load t f) in_n, r.j_passed p g.coll a e q k' (copy.Load t f) in_n, r.j_fields p g.coll a e q k' (copy.Load t f) in_n, (calls h).calls p in_n, sections sh st h p in_n);
    })

-- kind CopyField
pub f_put : (opened : ℕ) (sh : Layout) (st : S.State) (p : ℕ) (x : ℕ) (calm : Bool) (g : Targets) (a : ℕ) (e : ℕ) (q : ℕ) (t : ℕ) (f : ℕ) (w : ℕ) (told : ℕ) → p < sh.passes → (st.stands p).section ≡ Inside x calm → (st.stands p).phase ≡ phase.Finish (finish.Move g (object a e g.coll) q (copy.Put t f w)) → Shut sh st → RecordsAgree opened sh st
    → RecordsAgree opened sh (did sh st p Go (Inside x calm) (phase.Finish (finish.Move g (object a e g.coll) q (copy.Put t f w))) told (Exchange (place.Field g.coll t f) (word.Plain BLANK) (word.Plain w)))
f_put opened sh st p x calm g a e q t f w told in_n at_sec at_call h r = in_world (RecordsAgree opened sh) (apply (Exchange (place.Field g.coll t f) (word.Plain BLANK) (word.Plain w)) st.memory) (put_stand st.stands p (moved sh p (st.stands p) (Inside x calm) (phase.Finish (finish.Move g (object a e g.coll) q (copy.Put t f w))) Go told (seen (Exchange (place.Field g.coll t f) (word.Plain BLANK) (word.Plain w)) st.memory))) st.world
    (change sh p (st.stands p) (Inside x calm) (phase.Finish (finish.Move g (object a e g.coll) q (copy.Put t f w))) Go told (seen (Exchange (place.Field g.coll t f) (word.Plain BLANK) (word.Plain w)) st.memory)).event (grind (arith, nat_tests)) (record {
      given_in = r.given_in;
      given_of = r.given_of;
      no_others = r.no_others;
      is_here = r.is_here;
      since = r.since;
      values = r.values;
      c_record = λ i c' li is. grind (arith, nat_tests, r.c_record i c' li, (calls h).c_leads p g.coll q g.slot in_n, (calls h).c_leaves p g.coll q in_n, (calls h).c_apart p g.coll q a e in_n, (copies h).j_named p g.coll a e q (copy.Put t f w) in_n, (copies h).j_led p g.coll a e q (copy.Put t f w) in_n, (copies h).j_entry p g.coll a e q (copy.Put t f w) in_n, (copies h).j_locked p g.coll a e q (copy.Put t f w) in_n, (copies h).j_left p g.coll a e q (copy.Put t f w) in_n, (copies h).j_for p g.coll a e q (copy.Put t f w) in_n, (copies h).j_back p g.coll a e q (copy.Put t f w) in_n, r.j_word p g.coll a e q f w (copy.Put t f w) in_n, (calls h).calls p in_n, sections sh st h p in_n);
      c_values = λ i c' k' li is lt. grind (arith, nat_tests, r.c_values i c' k' li, (calls h).c_leads p g.coll q g.slot in_n, (calls h).c_leaves p g.coll q in_n, (calls h).c_apart p g.coll q a e in_n, (copies h).j_named p g.coll a e q (copy.Put t f w) in_n, (copies h).j_led p g.coll a e q (copy.Put t f w) in_n, (copies h).j_entry p g.coll a e q (copy.Put t f w) in_n, (copies h).j_locked p g.coll a e q (copy.Put t f w) in_n, (copies h).j_left p g.coll a e q (copy.Put t f w) in_n, (copies h).j_for p g.coll a e q (copy.Put t f w) in_n, (copies h).j_back p g.coll a e q (copy.Put t f w) in_n, r.j_passed p g.coll a e q k' (copy.Put t f w) in_n, r.j_fields p g.coll a e q k' (copy.Put t f w) in_n, r.j_word p g.coll a e q f w (copy.Put t f w) in_n, (calls h).calls p in_n, sections sh st h p in_n);
      c_stored = λ i c' s' a' e' y' k' li is lt. grind (arith, nat_tests, r.c_stored i c' s' a' e' y' k' li, (calls h).c_leads p g.coll q g.slot in_n, (calls h).c_leaves p g.coll q in_n, (calls h).c_apart p g.coll q a e in_n, (copies h).j_named p g.coll a e q (copy.Put t f w) in_n, (copies h).j_led p g.coll a e q (copy.Put t f w) in_n, (copies h).j_entry p g.coll a e q (copy.Put t f w) in_n, (copies h).j_locked p g.coll a e q (copy.Put t f w) in_n, (copies h).j_left p g.coll a e q (copy.Put t f w) in_n, (copies h).j_for p g.coll a e q (copy.Put t f w) in_n, (copies h).j_back p g.coll a e q (copy.Put t f w) in_n, r.j_passed p g.coll a e q k' (copy.Put t f w) in_n, r.j_fields p g.coll a e q k' (copy.Put t f w) in_n, r.j_word p g.coll a e q f w (copy.Put t f w) in_n, (calls h).calls p in_n, sections sh st h p in_n, r.c_values i c' k' li, (calls h).c_slot i c' s' li);
      c_blanks = λ i c' s' y' k' li is lt. grind (arith, nat_tests, r.c_blanks i c' s' y' k' li, (calls h).c_leads p g.coll q g.slot in_n, (calls h).c_leaves p g.coll q in_n, (calls h).c_apart p g.coll q a e in_n, (copies h).j_named p g.coll a e q (copy.Put t f w) in_n, (copies h).j_led p g.coll a e q (copy.Put t f w) in_n, (copies h).j_entry p g.coll a e q (copy.Put t f w) in_n, (copies h).j_locked p g.coll a e q (copy.Put t f w) in_n, (copies h).j_left p g.coll a e q (copy.Put t f w) in_n, (copies h).j_for p g.coll a e q (copy.Put t f w) in_n, (copies h).j_back p g.coll a e q (copy.Put t f w) in_n, r.j_passed p g.coll a e q k' (copy.Put t f w) in_n, r.j_fields p g.coll a e q k' (copy.Put t f w) in_n, r.j_word p g.coll a e q f w (copy.Put t f w) in_n, (calls h).calls p in_n, sections sh st h p in_n, (moves h).locked_owner i g.coll a e q li, (calls h).calls i li, r.j_fields p g.coll a e q f (copy.Put t f w) in_n, (calls h).c_slot i c' s' li);
      placed_record = λ c' a' e' s' k' is lt. grind (arith, nat_tests, r.placed_record c' a' e' s' k', (calls h).c_leads p g.coll q g.slot in_n, (calls h).c_leaves p g.coll q in_n, (calls h).c_apart p g.coll q a e in_n, (copies h).j_named p g.coll a e q (copy.Put t f w) in_n, (copies h).j_led p g.coll a e q (copy.Put t f w) in_n, (copies h).j_entry p g.coll a e q (copy.Put t f w) in_n, (copies h).j_locked p g.coll a e q (copy.Put t f w) in_n, (copies h).j_left p g.coll a e q (copy.Put t f w) in_n, (copies h).j_for p g.coll a e q (copy.Put t f w) in_n, (copies h).j_back p g.coll a e q (copy.Put t f w) in_n, r.j_passed p g.coll a e q k' (copy.Put t f w) in_n, r.j_fields p g.coll a e q k' (copy.Put t f w) in_n, r.j_word p g.coll a e q f w (copy.Put t f w) in_n, (calls h).calls p in_n, sections sh st h p in_n, r.values c' a' e' k' (field_in st.memory c' s' k'));
      held_record = λ i c' a' e' s' k' li is lt. grind (arith, nat_tests, r.held_record i c' a' e' s' k' li, (calls h).c_leads p g.coll q g.slot in_n, (calls h).c_leaves p g.coll q in_n, (calls h).c_apart p g.coll q a e in_n, (copies h).j_named p g.coll a e q (copy.Put t f w) in_n, (copies h).j_led p g.coll a e q (copy.Put t f w) in_n, (copies h).j_entry p g.coll a e q (copy.Put t f w) in_n, (copies h).j_locked p g.coll a e q (copy.Put t f w) in_n, (copies h).j_left p g.coll a e q (copy.Put t f w) in_n, (copies h).j_for p g.coll a e q (copy.Put t f w) in_n, (copies h).j_back p g.coll a e q (copy.Put t f w) in_n, r.j_passed p g.coll a e q k' (copy.Put t f w) in_n, r.j_fields p g.coll a e q k' (copy.Put t f w) in_n, r.j_word p g.coll a e q f w (copy.Put t f w) in_n, (calls h).calls p in_n, sections sh st h p in_n, r.values c' a' e' k' (field_in st.memory c' s' k'));
      frozen_blank = λ c' a' e' s' k' is lt. grind (arith, nat_tests, r.frozen_blank c' a' e' s' k', (calls h).c_leads p g.coll q g.slot in_n, (calls h).c_leaves p g.coll q in_n, (calls h).c_apart p g.coll q a e in_n, (copies h).j_named p g.coll a e q (copy.Put t f w) in_n, (copies h).j_led p g.coll a e q (copy.Put t f w) in_n, (copies h).j_entry p g.coll a e q (copy.Put t f w) in_n, (copies h).j_locked p g.coll a e q (copy.Put t f w) in_n, (copies h).j_left p g.coll a e q (copy.Put t f w) in_n, (copies h).j_for p g.coll a e q (copy.Put t f w) in_n, (copies h).j_back p g.coll a e q (copy.Put t f w) in_n, r.j_passed p g.coll a e q k' (copy.Put t f w) in_n, r.j_fields p g.coll a e q k' (copy.Put t f w) in_n, r.j_word p g.coll a e q f w (copy.Put t f w) in_n, (calls h).calls p in_n, sections sh st h p in_n, (moves h).frozen c' a' e' s', r.j_fields p g.coll a e q f (copy.Put t f w) in_n);
      locked_fields = λ c' a' e' s' k' is lt. grind (arith, nat_tests, r.locked_fields c' a' e' s' k', (calls h).c_leads p g.coll q g.slot in_n, (calls h).c_leaves p g.coll q in_n, (calls h).c_apart p g.coll q a e in_n, (copies h).j_named p g.coll a e q (copy.Put t f w) in_n, (copies h).j_led p g.coll a e q (copy.Put t f w) in_n, (copies h).j_entry p g.coll a e q (copy.Put t f w) in_n, (copies h).j_locked p g.coll a e q (copy.Put t f w) in_n, (copies h).j_left p g.coll a e q (copy.Put t f w) in_n, (copies h).j_for p g.coll a e q (copy.Put t f w) in_n, (copies h).j_back p g.coll a e q (copy.Put t f w) in_n, r.j_passed p g.coll a e q k' (copy.Put t f w) in_n, r.j_fields p g.coll a e q k' (copy.Put t f w) in_n, r.j_word p g.coll a e q f w (copy.Put t f w) in_n, (calls h).calls p in_n, sections sh st h p in_n, (moves h).locked c' a' e' s', r.placed_record c' a' e' s' k', r.values c' a' e' k' (field_in st.memory c' s' k'));
      j_passed = λ i c' a' e' s' k' n' li is lt. grind (arith, nat_tests, r.j_passed i c' a' e' s' k' n' li, (calls h).c_leads p g.coll q g.slot in_n, (calls h).c_leaves p g.coll q in_n, (calls h).c_apart p g.coll q a e in_n, (copies h).j_named p g.coll a e q (copy.Put t f w) in_n, (copies h).j_led p g.coll a e q (copy.Put t f w) in_n, (copies h).j_entry p g.coll a e q (copy.Put t f w) in_n, (copies h).j_locked p g.coll a e q (copy.Put t f w) in_n, (copies h).j_left p g.coll a e q (copy.Put t f w) in_n, (copies h).j_for p g.coll a e q (copy.Put t f w) in_n, (copies h).j_back p g.coll a e q (copy.Put t f w) in_n, r.j_passed p g.coll a e q k' (copy.Put t f w) in_n, r.j_fields p g.coll a e q k' (copy.Put t f w) in_n, r.j_word p g.coll a e q f w (copy.Put t f w) in_n, (calls h).calls p in_n, sections sh st h p in_n, put_word sh st h opened r p g.coll a e q t f w in_n);
      j_word = λ i c' a' e' s' f' v' n' li is lk ld. grind (arith, nat_tests, r.j_word i c' a' e' s' f' v' n' li, (calls h).c_leads p g.coll q g.slot in_n, (calls h).c_leaves p g.coll q in_n, (calls h).c_apart p g.coll q a e in_n, (copies h).j_named p g.coll a e q (copy.Put t f w) in_n, (copies h).j_led p g.coll a e q (copy.Put t f w) in_n, (copies h).j_entry p g.coll a e q (copy.Put t f w) in_n, (copies h).j_locked p g.coll a e q (copy.Put t f w) in_n, (copies h).j_left p g.coll a e q (copy.Put t f w) in_n, (copies h).j_for p g.coll a e q (copy.Put t f w) in_n, (copies h).j_back p g.coll a e q (copy.Put t f w) in_n, r.j_word p g.coll a e q f w (copy.Put t f w) in_n, (calls h).calls p in_n, sections sh st h p in_n, r.placed_record c' a' e' s' f', r.values c' a' e' f' (field_in st.memory c' s' f'), (copies h).j_locked i c' a' e' s' n' li, r.j_fields p g.coll a e q f (copy.Put t f w) in_n, (subst (InPhase sh (st.stands p).words) at_call ((ranges h).stands p in_n).phase).3.1, (moves h).locked g.coll a e q);
      j_fields = λ i c' a' e' s' k' n' li is lt. by_eq i p (λ y. grind (arith, nat_tests, put_word sh st h opened r p g.coll a e q t f w in_n (grind (arith, at_call)), r.j_fields p g.coll a e q k' (copy.Put t f w) in_n, (copies h).j_led p g.coll a e q (copy.Put t f w) in_n)) (λ n. grind (arith, nat_tests, put_word sh st h opened r p g.coll a e q t f w in_n (grind (arith, at_call)), r.j_fields i c' a' e' s' k' n' li));
    })

-- kind Swing
pub f_swing : (opened : ℕ) (sh : Layout) (st : S.State) (p : ℕ) (x : ℕ) (calm : Bool) (g : Targets) (a : ℕ) (e : ℕ) (q : ℕ) (t : ℕ) (told : ℕ) → p < sh.passes → (st.stands p).section ≡ Inside x calm → (st.stands p).phase ≡ phase.Finish (finish.Move g (object a e g.coll) q (copy.Swing t)) → Shut sh st → RecordsAgree opened sh st
    → RecordsAgree opened sh (did sh st p Go (Inside x calm) (phase.Finish (finish.Move g (object a e g.coll) q (copy.Swing t))) told (Exchange (place.Entry g.coll e) (word.Entry (state.Locked a q)) (word.Entry (state.Present a t))))
f_swing opened sh st p x calm g a e q t told in_n at_sec at_call h r = in_world (RecordsAgree opened sh) (apply (Exchange (place.Entry g.coll e) (word.Entry (state.Locked a q)) (word.Entry (state.Present a t))) st.memory) (put_stand st.stands p (moved sh p (st.stands p) (Inside x calm) (phase.Finish (finish.Move g (object a e g.coll) q (copy.Swing t))) Go told (seen (Exchange (place.Entry g.coll e) (word.Entry (state.Locked a q)) (word.Entry (state.Present a t))) st.memory))) st.world
    (change sh p (st.stands p) (Inside x calm) (phase.Finish (finish.Move g (object a e g.coll) q (copy.Swing t))) Go told (seen (Exchange (place.Entry g.coll e) (word.Entry (state.Locked a q)) (word.Entry (state.Present a t))) st.memory)).event (grind (arith, nat_tests)) (record {
      given_in = λ c' a' e' is. grind (arith, nat_tests, r.given_in c' a' e', (calls h).c_leads p g.coll q g.slot in_n, (calls h).c_leaves p g.coll q in_n, (calls h).c_apart p g.coll q a e in_n, (copies h).j_named p g.coll a e q (copy.Swing t) in_n, (copies h).j_led p g.coll a e q (copy.Swing t) in_n, (copies h).j_entry p g.coll a e q (copy.Swing t) in_n, (copies h).j_locked p g.coll a e q (copy.Swing t) in_n, (copies h).j_left p g.coll a e q (copy.Swing t) in_n, (copies h).j_for p g.coll a e q (copy.Swing t) in_n, (copies h).j_back p g.coll a e q (copy.Swing t) in_n, (calls h).calls p in_n, sections sh st h p in_n);
      given_of = λ c' a' e' is. grind (arith, nat_tests, r.given_of c' a' e', (calls h).c_leads p g.coll q g.slot in_n, (calls h).c_leaves p g.coll q in_n, (calls h).c_apart p g.coll q a e in_n, (copies h).j_named p g.coll a e q (copy.Swing t) in_n, (copies h).j_led p g.coll a e q (copy.Swing t) in_n, (copies h).j_entry p g.coll a e q (copy.Swing t) in_n, (copies h).j_locked p g.coll a e q (copy.Swing t) in_n, (copies h).j_left p g.coll a e q (copy.Swing t) in_n, (copies h).j_for p g.coll a e q (copy.Swing t) in_n, (copies h).j_back p g.coll a e q (copy.Swing t) in_n, (calls h).calls p in_n, sections sh st h p in_n);
      no_others = r.no_others;
      is_here = λ c' a' e'. grind (arith, nat_tests, r.is_here c' a' e', (calls h).c_leads p g.coll q g.slot in_n, (calls h).c_leaves p g.coll q in_n, (calls h).c_apart p g.coll q a e in_n, (copies h).j_named p g.coll a e q (copy.Swing t) in_n, (copies h).j_led p g.coll a e q (copy.Swing t) in_n, (copies h).j_entry p g.coll a e q (copy.Swing t) in_n, (copies h).j_locked p g.coll a e q (copy.Swing t) in_n, (copies h).j_left p g.coll a e q (copy.Swing t) in_n, (copies h).j_for p g.coll a e q (copy.Swing t) in_n, (copies h).j_back p g.coll a e q (copy.Swing t) in_n, (calls h).calls p in_n, sections sh st h p in_n);
      since = λ c' e'. grind (arith, nat_tests, r.since c' e', (calls h).c_leads p g.coll q g.slot in_n, (calls h).c_leaves p g.coll q in_n, (calls h).c_apart p g.coll q a e in_n, (copies h).j_named p g.coll a e q (copy.Swing t) in_n, (copies h).j_led p g.coll a e q (copy.Swing t) in_n, (copies h).j_entry p g.coll a e q (copy.Swing t) in_n, (copies h).j_locked p g.coll a e q (copy.Swing t) in_n, (copies h).j_left p g.coll a e q (copy.Swing t) in_n, (copies h).j_for p g.coll a e q (copy.Swing t) in_n, (copies h).j_back p g.coll a e q (copy.Swing t) in_n, (calls h).calls p in_n, sections sh st h p in_n, r.since g.coll e);
      values = r.values;
      c_record = λ i c' li is. grind (arith, nat_tests, r.c_record i c' li, (calls h).c_leads p g.coll q g.slot in_n, (calls h).c_leaves p g.coll q in_n, (calls h).c_apart p g.coll q a e in_n, (copies h).j_named p g.coll a e q (copy.Swing t) in_n, (copies h).j_led p g.coll a e q (copy.Swing t) in_n, (copies h).j_entry p g.coll a e q (copy.Swing t) in_n, (copies h).j_locked p g.coll a e q (copy.Swing t) in_n, (copies h).j_left p g.coll a e q (copy.Swing t) in_n, (copies h).j_for p g.coll a e q (copy.Swing t) in_n, (copies h).j_back p g.coll a e q (copy.Swing t) in_n, (calls h).calls p in_n, sections sh st h p in_n);
      c_values = λ i c' k' li is lt. grind (arith, nat_tests, r.c_values i c' k' li, (calls h).c_leads p g.coll q g.slot in_n, (calls h).c_leaves p g.coll q in_n, (calls h).c_apart p g.coll q a e in_n, (copies h).j_named p g.coll a e q (copy.Swing t) in_n, (copies h).j_led p g.coll a e q (copy.Swing t) in_n, (copies h).j_entry p g.coll a e q (copy.Swing t) in_n, (copies h).j_locked p g.coll a e q (copy.Swing t) in_n, (copies h).j_left p g.coll a e q (copy.Swing t) in_n, (copies h).j_for p g.coll a e q (copy.Swing t) in_n, (copies h).j_back p g.coll a e q (copy.Swing t) in_n, r.j_passed p g.coll a e q k' (copy.Swing t) in_n, r.j_fields p g.coll a e q k' (copy.Swing t) in_n, (calls h).calls p in_n, sections sh st h p in_n);
      c_stored = λ i c' s' a' e' y' k' li is lt. grind (arith, nat_tests, r.c_stored i c' s' a' e' y' k' li, (calls h).c_leads p g.coll q g.slot in_n, (calls h).c_leaves p g.coll q in_n, (calls h).c_apart p g.coll q a e in_n, (copies h).j_named p g.coll a e q (copy.Swing t) in_n, (copies h).j_led p g.coll a e q (copy.Swing t) in_n, (copies h).j_entry p g.coll a e q (copy.Swing t) in_n, (copies h).j_locked p g.coll a e q (copy.Swing t) in_n, (copies h).j_left p g.coll a e q (copy.Swing t) in_n, (copies h).j_for p g.coll a e q (copy.Swing t) in_n, (copies h).j_back p g.coll a e q (copy.Swing t) in_n, r.j_passed p g.coll a e q k' (copy.Swing t) in_n, r.j_fields p g.coll a e q k' (copy.Swing t) in_n, (calls h).calls p in_n, sections sh st h p in_n);
      c_blanks = λ i c' s' y' k' li is lt. grind (arith, nat_tests, r.c_blanks i c' s' y' k' li, (calls h).c_leads p g.coll q g.slot in_n, (calls h).c_leaves p g.coll q in_n, (calls h).c_apart p g.coll q a e in_n, (copies h).j_named p g.coll a e q (copy.Swing t) in_n, (copies h).j_led p g.coll a e q (copy.Swing t) in_n, (copies h).j_entry p g.coll a e q (copy.Swing t) in_n, (copies h).j_locked p g.coll a e q (copy.Swing t) in_n, (copies h).j_left p g.coll a e q (copy.Swing t) in_n, (copies h).j_for p g.coll a e q (copy.Swing t) in_n, (copies h).j_back p g.coll a e q (copy.Swing t) in_n, r.j_passed p g.coll a e q k' (copy.Swing t) in_n, r.j_fields p g.coll a e q k' (copy.Swing t) in_n, (calls h).calls p in_n, sections sh st h p in_n);
      placed_record = λ c' a' e' s' k' is lt. grind (arith, nat_tests, r.placed_record c' a' e' s' k', (calls h).c_leads p g.coll q g.slot in_n, (calls h).c_leaves p g.coll q in_n, (calls h).c_apart p g.coll q a e in_n, (copies h).j_named p g.coll a e q (copy.Swing t) in_n, (copies h).j_led p g.coll a e q (copy.Swing t) in_n, (copies h).j_entry p g.coll a e q (copy.Swing t) in_n, (copies h).j_locked p g.coll a e q (copy.Swing t) in_n, (copies h).j_left p g.coll a e q (copy.Swing t) in_n, (copies h).j_for p g.coll a e q (copy.Swing t) in_n, (copies h).j_back p g.coll a e q (copy.Swing t) in_n, r.j_passed p g.coll a e q k' (copy.Swing t) in_n, r.j_fields p g.coll a e q k' (copy.Swing t) in_n, (calls h).calls p in_n, sections sh st h p in_n, r.locked_fields g.coll a e q k', r.placed_record g.coll a e q k');
      held_record = λ i c' a' e' s' k' li is lt. grind (arith, nat_tests, r.held_record i c' a' e' s' k' li, (calls h).c_leads p g.coll q g.slot in_n, (calls h).c_leaves p g.coll q in_n, (calls h).c_apart p g.coll q a e in_n, (copies h).j_named p g.coll a e q (copy.Swing t) in_n, (copies h).j_led p g.coll a e q (copy.Swing t) in_n, (copies h).j_entry p g.coll a e q (copy.Swing t) in_n, (copies h).j_locked p g.coll a e q (copy.Swing t) in_n, (copies h).j_left p g.coll a e q (copy.Swing t) in_n, (copies h).j_for p g.coll a e q (copy.Swing t) in_n, (copies h).j_back p g.coll a e q (copy.Swing t) in_n, r.j_passed p g.coll a e q k' (copy.Swing t) in_n, r.j_fields p g.coll a e q k' (copy.Swing t) in_n, (calls h).calls p in_n, sections sh st h p in_n);
      frozen_blank = λ c' a' e' s' k' is lt. grind (arith, nat_tests, r.frozen_blank c' a' e' s' k', (calls h).c_leads p g.coll q g.slot in_n, (calls h).c_leaves p g.coll q in_n, (calls h).c_apart p g.coll q a e in_n, (copies h).j_named p g.coll a e q (copy.Swing t) in_n, (copies h).j_led p g.coll a e q (copy.Swing t) in_n, (copies h).j_entry p g.coll a e q (copy.Swing t) in_n, (copies h).j_locked p g.coll a e q (copy.Swing t) in_n, (copies h).j_left p g.coll a e q (copy.Swing t) in_n, (copies h).j_for p g.coll a e q (copy.Swing t) in_n, (copies h).j_back p g.coll a e q (copy.Swing t) in_n, r.j_passed p g.coll a e q k' (copy.Swing t) in_n, r.j_fields p g.coll a e q k' (copy.Swing t) in_n, (calls h).calls p in_n, sections sh st h p in_n);
      locked_fields = λ c' a' e' s' k' is lt. grind (arith, nat_tests, r.locked_fields c' a' e' s' k', (calls h).c_leads p g.coll q g.slot in_n, (calls h).c_leaves p g.coll q in_n, (calls h).c_apart p g.coll q a e in_n, (copies h).j_named p g.coll a e q (copy.Swing t) in_n, (copies h).j_led p g.coll a e q (copy.Swing t) in_n, (copies h).j_entry p g.coll a e q (copy.Swing t) in_n, (copies h).j_locked p g.coll a e q (copy.Swing t) in_n, (copies h).j_left p g.coll a e q (copy.Swing t) in_n, (copies h).j_for p g.coll a e q (copy.Swing t) in_n, (copies h).j_back p g.coll a e q (copy.Swing t) in_n, r.j_passed p g.coll a e q k' (copy.Swing t) in_n, r.j_fields p g.coll a e q k' (copy.Swing t) in_n, (calls h).calls p in_n, sections sh st h p in_n);
      j_passed = λ i c' a' e' s' k' n' li is lt. grind (arith, nat_tests, r.j_passed i c' a' e' s' k' n' li, (calls h).c_leads p g.coll q g.slot in_n, (calls h).c_leaves p g.coll q in_n, (calls h).c_apart p g.coll q a e in_n, (copies h).j_named p g.coll a e q (copy.Swing t) in_n, (copies h).j_led p g.coll a e q (copy.Swing t) in_n, (copies h).j_entry p g.coll a e q (copy.Swing t) in_n, (copies h).j_locked p g.coll a e q (copy.Swing t) in_n, (copies h).j_left p g.coll a e q (copy.Swing t) in_n, (copies h).j_for p g.coll a e q (copy.Swing t) in_n, (copies h).j_back p g.coll a e q (copy.Swing t) in_n, r.j_passed p g.coll a e q k' (copy.Swing t) in_n, r.j_fields p g.coll a e q k' (copy.Swing t) in_n, (calls h).calls p in_n, sections sh st h p in_n);
      j_word = λ i c' a' e' s' f' v' n' li is lk ld. grind (arith, nat_tests, r.j_word i c' a' e' s' f' v' n' li, (calls h).c_leads p g.coll q g.slot in_n, (calls h).c_leaves p g.coll q in_n, (calls h).c_apart p g.coll q a e in_n, (copies h).j_named p g.coll a e q (copy.Swing t) in_n, (copies h).j_led p g.coll a e q (copy.Swing t) in_n, (copies h).j_entry p g.coll a e q (copy.Swing t) in_n, (copies h).j_locked p g.coll a e q (copy.Swing t) in_n, (copies h).j_left p g.coll a e q (copy.Swing t) in_n, (copies h).j_for p g.coll a e q (copy.Swing t) in_n, (copies h).j_back p g.coll a e q (copy.Swing t) in_n, (calls h).calls p in_n, sections sh st h p in_n);
      j_fields = λ i c' a' e' s' k' n' li is lt. grind (arith, nat_tests, r.j_fields i c' a' e' s' k' n' li, (copies h).j_entry i c' a' e' s' n' li, r.j_passed p g.coll a e q k' (copy.Swing t) in_n, (copies h).j_led p g.coll a e q (copy.Swing t) in_n, (copies h).j_led i c' a' e' s' n' li);
    })

-- kind Settle
pub settle : (opened : ℕ) (sh : Layout) (st : S.State) (p : ℕ) (x : ℕ) (calm : Bool) (g : Targets) (q : ℕ) (told : ℕ) → p < sh.passes → (st.stands p).section ≡ Inside x calm → (st.stands p).phase ≡ phase.Finish (finish.Settle g q) → Shut sh st → RecordsAgree opened sh st
    → RecordsAgree opened sh (did sh st p Go (Inside x calm) (phase.Finish (finish.Settle g q)) told (Exchange (place.Directory g.coll g.slot) (word.Directory dir.Incoming) (word.Directory dir.Valid)))
settle opened sh st p x calm g q told in_n at_sec at_call h r = in_world (RecordsAgree opened sh) (apply (Exchange (place.Directory g.coll g.slot) (word.Directory dir.Incoming) (word.Directory dir.Valid)) st.memory) (put_stand st.stands p (moved sh p (st.stands p) (Inside x calm) (phase.Finish (finish.Settle g q)) Go told (seen (Exchange (place.Directory g.coll g.slot) (word.Directory dir.Incoming) (word.Directory dir.Valid)) st.memory))) st.world
    (change sh p (st.stands p) (Inside x calm) (phase.Finish (finish.Settle g q)) Go told (seen (Exchange (place.Directory g.coll g.slot) (word.Directory dir.Incoming) (word.Directory dir.Valid)) st.memory)).event (grind (arith, nat_tests)) (record {
      given_in = r.given_in;
      given_of = r.given_of;
      no_others = r.no_others;
      is_here = r.is_here;
      since = r.since;
      values = r.values;
      c_record = λ i c' li is. grind (arith, nat_tests, r.c_record i c' li, (calls h).c_leaves p g.coll q in_n, (calls h).c_ends p g.coll q g.slot in_n, (calls h).calls p in_n, sections sh st h p in_n);
      c_values = λ i c' k' li is lt. grind (arith, nat_tests, r.c_values i c' k' li, (calls h).c_leaves p g.coll q in_n, (calls h).c_ends p g.coll q g.slot in_n, (calls h).calls p in_n, sections sh st h p in_n);
      c_stored = λ i c' s' a' e' y' k' li is lt. grind (arith, nat_tests, r.c_stored i c' s' a' e' y' k' li, (calls h).c_leaves p g.coll q in_n, (calls h).c_ends p g.coll q g.slot in_n, (calls h).c_apart p g.coll q a' e' in_n, (calls h).c_moved p g.coll q a' e' in_n, (calls h).calls p in_n, sections sh st h p in_n);
      c_blanks = λ i c' s' y' k' li is lt. grind (arith, nat_tests, r.c_blanks i c' s' y' k' li, (calls h).c_leaves p g.coll q in_n, (calls h).c_ends p g.coll q g.slot in_n, (calls h).calls p in_n, sections sh st h p in_n);
      placed_record = r.placed_record;
      held_record = λ i c' a' e' s' k' li is lt. grind (arith, nat_tests, r.held_record i c' a' e' s' k' li, (calls h).c_leaves p g.coll q in_n, (calls h).c_ends p g.coll q g.slot in_n, (calls h).c_apart p g.coll q a' e' in_n, (calls h).c_moved p g.coll q a' e' in_n, (calls h).calls p in_n, sections sh st h p in_n);
      frozen_blank = r.frozen_blank;
      locked_fields = r.locked_fields;
      j_passed = λ i c' a' e' s' k' n' li is lt. grind (arith, nat_tests, r.j_passed i c' a' e' s' k' n' li, (calls h).c_leaves p g.coll q in_n, (calls h).c_ends p g.coll q g.slot in_n, (calls h).c_apart p g.coll q a' e' in_n, (calls h).c_moved p g.coll q a' e' in_n, (calls h).calls p in_n, sections sh st h p in_n);
      j_word = λ i c' a' e' s' f' v' n' li is lk ld. grind (arith, nat_tests, r.j_word i c' a' e' s' f' v' n' li, (calls h).c_leaves p g.coll q in_n, (calls h).c_ends p g.coll q g.slot in_n, (calls h).c_apart p g.coll q a' e' in_n, (calls h).c_moved p g.coll q a' e' in_n, (calls h).calls p in_n, sections sh st h p in_n);
      j_fields = λ i c' a' e' s' k' n' li is lt. grind (arith, nat_tests, r.j_fields i c' a' e' s' k' n' li, (calls h).c_leaves p g.coll q in_n, (calls h).c_ends p g.coll q g.slot in_n, (calls h).c_apart p g.coll q a' e' in_n, (calls h).c_moved p g.coll q a' e' in_n, (calls h).calls p in_n, sections sh st h p in_n);
    })

-- kind LeaveSlot
pub leave_source : (opened : ℕ) (sh : Layout) (st : S.State) (p : ℕ) (x : ℕ) (calm : Bool) (g : Targets) (q : ℕ) (told : ℕ) → p < sh.passes → (st.stands p).section ≡ Inside x calm → (st.stands p).phase ≡ phase.Finish (finish.LeaveSource g q) → Shut sh st → RecordsAgree opened sh st
    → RecordsAgree opened sh (did sh st p Go (Inside x calm) (phase.Finish (finish.LeaveSource g q)) told (Store (place.Directory g.coll q) (word.Directory (dir.Limbo (x + 1)))))
leave_source opened sh st p x calm g q told in_n at_sec at_call h r = in_world (RecordsAgree opened sh) (apply (Store (place.Directory g.coll q) (word.Directory (dir.Limbo (x + 1)))) st.memory) (put_stand st.stands p (moved sh p (st.stands p) (Inside x calm) (phase.Finish (finish.LeaveSource g q)) Go told (seen (Store (place.Directory g.coll q) (word.Directory (dir.Limbo (x + 1)))) st.memory))) st.world
    (change sh p (st.stands p) (Inside x calm) (phase.Finish (finish.LeaveSource g q)) Go told (seen (Store (place.Directory g.coll q) (word.Directory (dir.Limbo (x + 1)))) st.memory)).event (grind (arith, nat_tests)) (record {
      given_in = r.given_in;
      given_of = r.given_of;
      no_others = r.no_others;
      is_here = r.is_here;
      since = r.since;
      values = r.values;
      c_record = λ i c' li is. grind (arith, nat_tests, r.c_record i c' li, (calls h).c_leaves p g.coll q in_n, (calls h).c_passed p g.coll g.slot in_n, (calls h).calls p in_n, sections sh st h p in_n);
      c_values = λ i c' k' li is lt. grind (arith, nat_tests, r.c_values i c' k' li, (calls h).c_leaves p g.coll q in_n, (calls h).c_passed p g.coll g.slot in_n, (calls h).calls p in_n, sections sh st h p in_n);
      c_stored = λ i c' s' a' e' y' k' li is lt. grind (arith, nat_tests, r.c_stored i c' s' a' e' y' k' li, (calls h).c_leaves p g.coll q in_n, (calls h).c_passed p g.coll g.slot in_n, (calls h).c_apart p g.coll q a' e' in_n, (calls h).c_moved p g.coll q a' e' in_n, (calls h).calls p in_n, sections sh st h p in_n);
      c_blanks = λ i c' s' y' k' li is lt. grind (arith, nat_tests, r.c_blanks i c' s' y' k' li, (calls h).c_leaves p g.coll q in_n, (calls h).c_passed p g.coll g.slot in_n, (calls h).calls p in_n, sections sh st h p in_n);
      placed_record = r.placed_record;
      held_record = λ i c' a' e' s' k' li is lt. grind (arith, nat_tests, r.held_record i c' a' e' s' k' li, (calls h).c_leaves p g.coll q in_n, (calls h).c_passed p g.coll g.slot in_n, (calls h).c_apart p g.coll q a' e' in_n, (calls h).c_moved p g.coll q a' e' in_n, (calls h).calls p in_n, sections sh st h p in_n);
      frozen_blank = r.frozen_blank;
      locked_fields = r.locked_fields;
      j_passed = λ i c' a' e' s' k' n' li is lt. grind (arith, nat_tests, r.j_passed i c' a' e' s' k' n' li, (calls h).c_leaves p g.coll q in_n, (calls h).c_passed p g.coll g.slot in_n, (calls h).c_apart p g.coll q a' e' in_n, (calls h).c_moved p g.coll q a' e' in_n, (calls h).calls p in_n, sections sh st h p in_n);
      j_word = λ i c' a' e' s' f' v' n' li is lk ld. grind (arith, nat_tests, r.j_word i c' a' e' s' f' v' n' li, (calls h).c_leaves p g.coll q in_n, (calls h).c_passed p g.coll g.slot in_n, (calls h).c_apart p g.coll q a' e' in_n, (calls h).c_moved p g.coll q a' e' in_n, (calls h).calls p in_n, sections sh st h p in_n);
      j_fields = λ i c' a' e' s' k' n' li is lt. grind (arith, nat_tests, r.j_fields i c' a' e' s' k' n' li, (calls h).c_leaves p g.coll q in_n, (calls h).c_passed p g.coll g.slot in_n, (calls h).c_apart p g.coll q a' e' in_n, (calls h).c_moved p g.coll q a' e' in_n, (calls h).calls p in_n, sections sh st h p in_n);
    })

-- kind LeaveSlot
pub finish_gives : (opened : ℕ) (sh : Layout) (st : S.State) (p : ℕ) (x : ℕ) (calm : Bool) (g : Targets) (gone : Bool) (told : ℕ) → p < sh.passes → (st.stands p).section ≡ Inside x calm → (st.stands p).phase ≡ phase.Finish (finish.GiveUp g gone) → Shut sh st → RecordsAgree opened sh st
    → RecordsAgree opened sh (did sh st p Go (Inside x calm) (phase.Finish (finish.GiveUp g gone)) told (Store (place.Directory g.coll g.slot) (word.Directory (dir.Limbo (x + 1)))))
finish_gives opened sh st p x calm g gone told in_n at_sec at_call h r = in_world (RecordsAgree opened sh) (apply (Store (place.Directory g.coll g.slot) (word.Directory (dir.Limbo (x + 1)))) st.memory) (put_stand st.stands p (moved sh p (st.stands p) (Inside x calm) (phase.Finish (finish.GiveUp g gone)) Go told (seen (Store (place.Directory g.coll g.slot) (word.Directory (dir.Limbo (x + 1)))) st.memory))) st.world
    (change sh p (st.stands p) (Inside x calm) (phase.Finish (finish.GiveUp g gone)) Go told (seen (Store (place.Directory g.coll g.slot) (word.Directory (dir.Limbo (x + 1)))) st.memory)).event (grind (arith, nat_tests)) (record {
      given_in = r.given_in;
      given_of = r.given_of;
      no_others = r.no_others;
      is_here = r.is_here;
      since = r.since;
      values = r.values;
      c_record = λ i c' li is. grind (arith, nat_tests, r.c_record i c' li, (calls h).c_target p g.coll g.slot in_n, (calls h).calls p in_n, sections sh st h p in_n);
      c_values = λ i c' k' li is lt. grind (arith, nat_tests, r.c_values i c' k' li, (calls h).c_target p g.coll g.slot in_n, (calls h).calls p in_n, sections sh st h p in_n);
      c_stored = λ i c' s' a' e' y' k' li is lt. grind (arith, nat_tests, r.c_stored i c' s' a' e' y' k' li, (calls h).c_target p g.coll g.slot in_n, (calls h).c_loose p g.coll g.slot a' e' in_n, (calls h).calls p in_n, sections sh st h p in_n);
      c_blanks = λ i c' s' y' k' li is lt. grind (arith, nat_tests, r.c_blanks i c' s' y' k' li, (calls h).c_target p g.coll g.slot in_n, (calls h).calls p in_n, sections sh st h p in_n);
      placed_record = r.placed_record;
      held_record = λ i c' a' e' s' k' li is lt. grind (arith, nat_tests, r.held_record i c' a' e' s' k' li, (calls h).c_target p g.coll g.slot in_n, (calls h).c_loose p g.coll g.slot a' e' in_n, (calls h).calls p in_n, sections sh st h p in_n);
      frozen_blank = r.frozen_blank;
      locked_fields = r.locked_fields;
      j_passed = λ i c' a' e' s' k' n' li is lt. grind (arith, nat_tests, r.j_passed i c' a' e' s' k' n' li, (calls h).c_target p g.coll g.slot in_n, (calls h).c_loose p g.coll g.slot a' e' in_n, (calls h).calls p in_n, sections sh st h p in_n);
      j_word = λ i c' a' e' s' f' v' n' li is lk ld. grind (arith, nat_tests, r.j_word i c' a' e' s' f' v' n' li, (calls h).c_target p g.coll g.slot in_n, (calls h).c_loose p g.coll g.slot a' e' in_n, (calls h).calls p in_n, sections sh st h p in_n);
      j_fields = λ i c' a' e' s' k' n' li is lt. grind (arith, nat_tests, r.j_fields i c' a' e' s' k' n' li, (calls h).c_target p g.coll g.slot in_n, (calls h).c_loose p g.coll g.slot a' e' in_n, (calls h).calls p in_n, sections sh st h p in_n);
    })

-- kind CloseRound
pub finish_ends : (opened : ℕ) (sh : Layout) (st : S.State) (p : ℕ) (x : ℕ) (calm : Bool) (g : Targets) (told : ℕ) → p < sh.passes → (st.stands p).section ≡ Inside x calm → (st.stands p).phase ≡ phase.Finish (finish.End g) → Shut sh st → RecordsAgree opened sh st
    → RecordsAgree opened sh (did sh st p Go (Inside x calm) (phase.Finish (finish.End g)) told (Store place.Round (word.Round None)))
finish_ends opened sh st p x calm g told in_n at_sec at_call h r = in_world (RecordsAgree opened sh) (apply (Store place.Round (word.Round None)) st.memory) (put_stand st.stands p (moved sh p (st.stands p) (Inside x calm) (phase.Finish (finish.End g)) Go told (seen (Store place.Round (word.Round None)) st.memory))) st.world
    (change sh p (st.stands p) (Inside x calm) (phase.Finish (finish.End g)) Go told (seen (Store place.Round (word.Round None)) st.memory)).event (grind (arith, nat_tests)) (record {
      given_in = r.given_in;
      given_of = r.given_of;
      no_others = r.no_others;
      is_here = r.is_here;
      since = r.since;
      values = r.values;
      c_record = λ i c' li is. grind (arith, nat_tests, r.c_record i c' li, (calls h).calls p in_n, sections sh st h p in_n);
      c_values = λ i c' k' li is lt. grind (arith, nat_tests, r.c_values i c' k' li, (calls h).calls p in_n, sections sh st h p in_n);
      c_stored = λ i c' s' a' e' y' k' li is lt. grind (arith, nat_tests, r.c_stored i c' s' a' e' y' k' li, (calls h).calls p in_n, sections sh st h p in_n);
      c_blanks = λ i c' s' y' k' li is lt. grind (arith, nat_tests, r.c_blanks i c' s' y' k' li, (calls h).calls p in_n, sections sh st h p in_n);
      placed_record = r.placed_record;
      held_record = λ i c' a' e' s' k' li is lt. grind (arith, nat_tests, r.held_record i c' a' e' s' k' li, (calls h).calls p in_n, sections sh st h p in_n);
      frozen_blank = r.frozen_blank;
      locked_fields = r.locked_fields;
      j_passed = λ i c' a' e' s' k' n' li is lt. grind (arith, nat_tests, r.j_passed i c' a' e' s' k' n' li, (calls h).calls p in_n, sections sh st h p in_n);
      j_word = λ i c' a' e' s' f' v' n' li is lk ld. grind (arith, nat_tests, r.j_word i c' a' e' s' f' v' n' li, (calls h).calls p in_n, sections sh st h p in_n);
      j_fields = λ i c' a' e' s' k' n' li is lt. grind (arith, nat_tests, r.j_fields i c' a' e' s' k' n' li, (calls h).calls p in_n, sections sh st h p in_n);
    })
