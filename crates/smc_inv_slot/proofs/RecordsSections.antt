-- Steps keep the agreement: records, sections. Written by tools/laws.py.
use Rattle.std.proofs.Common.{◌≡◌, ℕ, ◌+◌, ◌<◌, Bool, arith}
use Rattle.std.proofs.lemmas.Bool.Decides.{nat_tests}
use Rattle.smc_shape.specs.Layout.{Layout}
use Rattle.smc_shape.specs.declared.place.Place.TheVariants as place
use Rattle.smc_core.specs.declared.call.Call.TheVariants as call
use Rattle.smc_core.specs.declared.call.Choice.TheVariants.{Start, Go}
use Rattle.smc_core.specs.declared.op.Op.TheVariants.{Load, Store, Exchange}
use Rattle.smc_core.specs.declared.phase.Phase.TheVariants as phase
use Rattle.smc_core.specs.declared.section.Section.{Section}
use Rattle.smc_core.specs.declared.section.Section.TheVariants.{Outside, Loaded, Announced, Again, Lasting, Inside}
use Rattle.smc_core.specs.declared.word.Word.TheVariants as word
use Rattle.smc_rules.specs.State as S
use Rattle.smc_rules.specs.State.{put_stand}
use Rattle.smc_agreement.proofs.Whole.{Shut, calls, did, moved, sections}
use Rattle.smc_core.specs.Change.{change}
use Rattle.smc_rules.specs.Memory.{apply, seen}
use Rattle.smc_agreement.specs.Records.{RecordsAgree}
use Rattle.smc_agreement.proofs.WorldViews.{in_world}

-- kind LoadEpoch
pub enter : (opened : ℕ) (sh : Layout) (st : S.State) (p : ℕ) (told : ℕ) → p < sh.passes → (st.stands p).section ≡ Outside → (st.stands p).phase ≡ phase.Idle → Shut sh st → RecordsAgree opened sh st
    → RecordsAgree opened sh (did sh st p (Start call.Enter) Outside phase.Idle told (Load place.Epoch))
enter opened sh st p told in_n at_sec at_call h r = in_world (RecordsAgree opened sh) (apply (Load place.Epoch) st.memory) (put_stand st.stands p (moved sh p (st.stands p) Outside phase.Idle (Start call.Enter) told (seen (Load place.Epoch) st.memory))) st.world
    (change sh p (st.stands p) Outside phase.Idle (Start call.Enter) told (seen (Load place.Epoch) st.memory)).event (grind (arith, nat_tests)) (record {
      given_in = r.given_in;
      given_of = r.given_of;
      no_others = r.no_others;
      is_here = r.is_here;
      since = r.since;
      values = r.values;
      c_record = λ i c' li is. grind (arith, nat_tests, r.c_record i c' li);
      c_values = λ i c' k' li is lt. grind (arith, nat_tests, r.c_values i c' k' li);
      c_stored = λ i c' s' a' e' y' k' li is lt. grind (arith, nat_tests, r.c_stored i c' s' a' e' y' k' li);
      c_blanks = λ i c' s' y' k' li is lt. grind (arith, nat_tests, r.c_blanks i c' s' y' k' li);
      placed_record = r.placed_record;
      held_record = λ i c' a' e' s' k' li is lt. grind (arith, nat_tests, r.held_record i c' a' e' s' k' li);
      frozen_blank = r.frozen_blank;
      locked_fields = r.locked_fields;
      j_passed = λ i c' a' e' s' k' n' li is lt. grind (arith, nat_tests, r.j_passed i c' a' e' s' k' n' li);
      j_word = λ i c' a' e' s' f' v' n' li is lk ld. grind (arith, nat_tests, r.j_word i c' a' e' s' f' v' n' li);
      j_fields = λ i c' a' e' s' k' n' li is lt. grind (arith, nat_tests, r.j_fields i c' a' e' s' k' n' li);
    })

-- kind Announce
pub announce : (opened : ℕ) (sh : Layout) (st : S.State) (p : ℕ) (v : ℕ) (told : ℕ) → p < sh.passes → (st.stands p).section ≡ Loaded v → (st.stands p).phase ≡ phase.Entering → Shut sh st → RecordsAgree opened sh st
    → RecordsAgree opened sh (did sh st p Go (Loaded v) phase.Entering told (Store (place.Section p) (word.Plain v)))
announce opened sh st p v told in_n at_sec at_call h r = in_world (RecordsAgree opened sh) (apply (Store (place.Section p) (word.Plain v)) st.memory) (put_stand st.stands p (moved sh p (st.stands p) (Loaded v) phase.Entering Go told (seen (Store (place.Section p) (word.Plain v)) st.memory))) st.world
    (change sh p (st.stands p) (Loaded v) phase.Entering Go told (seen (Store (place.Section p) (word.Plain v)) st.memory)).event (grind (arith, nat_tests)) (record {
      given_in = r.given_in;
      given_of = r.given_of;
      no_others = r.no_others;
      is_here = r.is_here;
      since = r.since;
      values = r.values;
      c_record = λ i c' li is. grind (arith, nat_tests, r.c_record i c' li, (calls h).calls p in_n, sections sh st h p in_n);
      c_values = λ i c' k' li is lt. grind (arith, nat_tests, r.c_values i c' k' li, (calls h).calls p in_n, sections sh st h p in_n);
      c_stored = λ i c' s' a' e' y' k' li is lt. grind (arith, nat_tests, r.c_stored i c' s' a' e' y' k' li, (calls h).calls p in_n, sections sh st h p in_n);
      c_blanks = λ i c' s' y' k' li is lt. grind (arith, nat_tests, r.c_blanks i c' s' y' k' li, (calls h).calls p in_n, sections sh st h p in_n);
      placed_record = r.placed_record;
      held_record = λ i c' a' e' s' k' li is lt. grind (arith, nat_tests, r.held_record i c' a' e' s' k' li, (calls h).calls p in_n, sections sh st h p in_n);
      frozen_blank = r.frozen_blank;
      locked_fields = r.locked_fields;
      j_passed = λ i c' a' e' s' k' n' li is lt. grind (arith, nat_tests, r.j_passed i c' a' e' s' k' n' li, (calls h).calls p in_n, sections sh st h p in_n);
      j_word = λ i c' a' e' s' f' v' n' li is lk ld. grind (arith, nat_tests, r.j_word i c' a' e' s' f' v' n' li, (calls h).calls p in_n, sections sh st h p in_n);
      j_fields = λ i c' a' e' s' k' n' li is lt. grind (arith, nat_tests, r.j_fields i c' a' e' s' k' n' li, (calls h).calls p in_n, sections sh st h p in_n);
    })

-- kind LoadEpochAgain
pub again : (opened : ℕ) (sh : Layout) (st : S.State) (p : ℕ) (v : ℕ) (told : ℕ) → p < sh.passes → (st.stands p).section ≡ Announced v → (st.stands p).phase ≡ phase.Entering → Shut sh st → RecordsAgree opened sh st
    → RecordsAgree opened sh (did sh st p Go (Announced v) phase.Entering told (Load place.Epoch))
again opened sh st p v told in_n at_sec at_call h r = in_world (RecordsAgree opened sh) (apply (Load place.Epoch) st.memory) (put_stand st.stands p (moved sh p (st.stands p) (Announced v) phase.Entering Go told (seen (Load place.Epoch) st.memory))) st.world
    (change sh p (st.stands p) (Announced v) phase.Entering Go told (seen (Load place.Epoch) st.memory)).event (grind (arith, nat_tests)) (record {
      given_in = r.given_in;
      given_of = r.given_of;
      no_others = r.no_others;
      is_here = r.is_here;
      since = r.since;
      values = r.values;
      c_record = λ i c' li is. grind (arith, nat_tests, r.c_record i c' li, (calls h).calls p in_n, sections sh st h p in_n);
      c_values = λ i c' k' li is lt. grind (arith, nat_tests, r.c_values i c' k' li, (calls h).calls p in_n, sections sh st h p in_n);
      c_stored = λ i c' s' a' e' y' k' li is lt. grind (arith, nat_tests, r.c_stored i c' s' a' e' y' k' li, (calls h).calls p in_n, sections sh st h p in_n);
      c_blanks = λ i c' s' y' k' li is lt. grind (arith, nat_tests, r.c_blanks i c' s' y' k' li, (calls h).calls p in_n, sections sh st h p in_n);
      placed_record = r.placed_record;
      held_record = λ i c' a' e' s' k' li is lt. grind (arith, nat_tests, r.held_record i c' a' e' s' k' li, (calls h).calls p in_n, sections sh st h p in_n);
      frozen_blank = r.frozen_blank;
      locked_fields = r.locked_fields;
      j_passed = λ i c' a' e' s' k' n' li is lt. grind (arith, nat_tests, r.j_passed i c' a' e' s' k' n' li, (calls h).calls p in_n, sections sh st h p in_n);
      j_word = λ i c' a' e' s' f' v' n' li is lk ld. grind (arith, nat_tests, r.j_word i c' a' e' s' f' v' n' li, (calls h).calls p in_n, sections sh st h p in_n);
      j_fields = λ i c' a' e' s' k' n' li is lt. grind (arith, nat_tests, r.j_fields i c' a' e' s' k' n' li, (calls h).calls p in_n, sections sh st h p in_n);
    })

-- kind AnnounceAgain
pub lasting : (opened : ℕ) (sh : Layout) (st : S.State) (p : ℕ) (v : ℕ) (z : ℕ) (told : ℕ) → p < sh.passes → (st.stands p).section ≡ Again v z → (st.stands p).phase ≡ phase.Entering → Shut sh st → RecordsAgree opened sh st
    → RecordsAgree opened sh (did sh st p Go (Again v z) phase.Entering told (Store (place.Section p) (word.Plain z)))
lasting opened sh st p v z told in_n at_sec at_call h r = in_world (RecordsAgree opened sh) (apply (Store (place.Section p) (word.Plain z)) st.memory) (put_stand st.stands p (moved sh p (st.stands p) (Again v z) phase.Entering Go told (seen (Store (place.Section p) (word.Plain z)) st.memory))) st.world
    (change sh p (st.stands p) (Again v z) phase.Entering Go told (seen (Store (place.Section p) (word.Plain z)) st.memory)).event (grind (arith, nat_tests)) (record {
      given_in = r.given_in;
      given_of = r.given_of;
      no_others = r.no_others;
      is_here = r.is_here;
      since = r.since;
      values = r.values;
      c_record = λ i c' li is. grind (arith, nat_tests, r.c_record i c' li, (calls h).calls p in_n, sections sh st h p in_n);
      c_values = λ i c' k' li is lt. grind (arith, nat_tests, r.c_values i c' k' li, (calls h).calls p in_n, sections sh st h p in_n);
      c_stored = λ i c' s' a' e' y' k' li is lt. grind (arith, nat_tests, r.c_stored i c' s' a' e' y' k' li, (calls h).calls p in_n, sections sh st h p in_n);
      c_blanks = λ i c' s' y' k' li is lt. grind (arith, nat_tests, r.c_blanks i c' s' y' k' li, (calls h).calls p in_n, sections sh st h p in_n);
      placed_record = r.placed_record;
      held_record = λ i c' a' e' s' k' li is lt. grind (arith, nat_tests, r.held_record i c' a' e' s' k' li, (calls h).calls p in_n, sections sh st h p in_n);
      frozen_blank = r.frozen_blank;
      locked_fields = r.locked_fields;
      j_passed = λ i c' a' e' s' k' n' li is lt. grind (arith, nat_tests, r.j_passed i c' a' e' s' k' n' li, (calls h).calls p in_n, sections sh st h p in_n);
      j_word = λ i c' a' e' s' f' v' n' li is lk ld. grind (arith, nat_tests, r.j_word i c' a' e' s' f' v' n' li, (calls h).calls p in_n, sections sh st h p in_n);
      j_fields = λ i c' a' e' s' k' n' li is lt. grind (arith, nat_tests, r.j_fields i c' a' e' s' k' n' li, (calls h).calls p in_n, sections sh st h p in_n);
    })

-- kind LoadRound
pub entered : (opened : ℕ) (sh : Layout) (st : S.State) (p : ℕ) (z : ℕ) (told : ℕ) → p < sh.passes → (st.stands p).section ≡ Lasting z → (st.stands p).phase ≡ phase.Entering → Shut sh st → RecordsAgree opened sh st
    → RecordsAgree opened sh (did sh st p Go (Lasting z) phase.Entering told (Load place.Round))
entered opened sh st p z told in_n at_sec at_call h r = in_world (RecordsAgree opened sh) (apply (Load place.Round) st.memory) (put_stand st.stands p (moved sh p (st.stands p) (Lasting z) phase.Entering Go told (seen (Load place.Round) st.memory))) st.world
    (change sh p (st.stands p) (Lasting z) phase.Entering Go told (seen (Load place.Round) st.memory)).event (grind (arith, nat_tests)) (record {
      given_in = r.given_in;
      given_of = r.given_of;
      no_others = r.no_others;
      is_here = r.is_here;
      since = r.since;
      values = r.values;
      c_record = λ i c' li is. grind (arith, nat_tests, r.c_record i c' li, (calls h).calls p in_n, sections sh st h p in_n);
      c_values = λ i c' k' li is lt. grind (arith, nat_tests, r.c_values i c' k' li, (calls h).calls p in_n, sections sh st h p in_n);
      c_stored = λ i c' s' a' e' y' k' li is lt. grind (arith, nat_tests, r.c_stored i c' s' a' e' y' k' li, (calls h).calls p in_n, sections sh st h p in_n);
      c_blanks = λ i c' s' y' k' li is lt. grind (arith, nat_tests, r.c_blanks i c' s' y' k' li, (calls h).calls p in_n, sections sh st h p in_n);
      placed_record = r.placed_record;
      held_record = λ i c' a' e' s' k' li is lt. grind (arith, nat_tests, r.held_record i c' a' e' s' k' li, (calls h).calls p in_n, sections sh st h p in_n);
      frozen_blank = r.frozen_blank;
      locked_fields = r.locked_fields;
      j_passed = λ i c' a' e' s' k' n' li is lt. grind (arith, nat_tests, r.j_passed i c' a' e' s' k' n' li, (calls h).calls p in_n, sections sh st h p in_n);
      j_word = λ i c' a' e' s' f' v' n' li is lk ld. grind (arith, nat_tests, r.j_word i c' a' e' s' f' v' n' li, (calls h).calls p in_n, sections sh st h p in_n);
      j_fields = λ i c' a' e' s' k' n' li is lt. grind (arith, nat_tests, r.j_fields i c' a' e' s' k' n' li, (calls h).calls p in_n, sections sh st h p in_n);
    })

-- kind Leave
pub leave : (opened : ℕ) (sh : Layout) (st : S.State) (p : ℕ) (x : ℕ) (calm : Bool) (told : ℕ) → p < sh.passes → (st.stands p).section ≡ Inside x calm → (st.stands p).phase ≡ phase.Idle → Shut sh st → RecordsAgree opened sh st
    → RecordsAgree opened sh (did sh st p (Start call.Leave) (Inside x calm) phase.Idle told (Store (place.Section p) (word.Plain 0)))
leave opened sh st p x calm told in_n at_sec at_call h r = in_world (RecordsAgree opened sh) (apply (Store (place.Section p) (word.Plain 0)) st.memory) (put_stand st.stands p (moved sh p (st.stands p) (Inside x calm) phase.Idle (Start call.Leave) told (seen (Store (place.Section p) (word.Plain 0)) st.memory))) st.world
    (change sh p (st.stands p) (Inside x calm) phase.Idle (Start call.Leave) told (seen (Store (place.Section p) (word.Plain 0)) st.memory)).event (grind (arith, nat_tests)) (record {
      given_in = r.given_in;
      given_of = r.given_of;
      no_others = r.no_others;
      is_here = r.is_here;
      since = r.since;
      values = r.values;
      c_record = λ i c' li is. grind (arith, nat_tests, r.c_record i c' li, (calls h).calls p in_n, sections sh st h p in_n);
      c_values = λ i c' k' li is lt. grind (arith, nat_tests, r.c_values i c' k' li, (calls h).calls p in_n, sections sh st h p in_n);
      c_stored = λ i c' s' a' e' y' k' li is lt. grind (arith, nat_tests, r.c_stored i c' s' a' e' y' k' li, (calls h).calls p in_n, sections sh st h p in_n);
      c_blanks = λ i c' s' y' k' li is lt. grind (arith, nat_tests, r.c_blanks i c' s' y' k' li, (calls h).calls p in_n, sections sh st h p in_n);
      placed_record = r.placed_record;
      held_record = λ i c' a' e' s' k' li is lt. grind (arith, nat_tests, r.held_record i c' a' e' s' k' li, (calls h).calls p in_n, sections sh st h p in_n);
      frozen_blank = r.frozen_blank;
      locked_fields = r.locked_fields;
      j_passed = λ i c' a' e' s' k' n' li is lt. grind (arith, nat_tests, r.j_passed i c' a' e' s' k' n' li, (calls h).calls p in_n, sections sh st h p in_n);
      j_word = λ i c' a' e' s' f' v' n' li is lk ld. grind (arith, nat_tests, r.j_word i c' a' e' s' f' v' n' li, (calls h).calls p in_n, sections sh st h p in_n);
      j_fields = λ i c' a' e' s' k' n' li is lt. grind (arith, nat_tests, r.j_fields i c' a' e' s' k' n' li, (calls h).calls p in_n, sections sh st h p in_n);
    })

-- kind StartAdvance
pub advance : (opened : ℕ) (sh : Layout) (st : S.State) (p : ℕ) (told : ℕ) → p < sh.passes → (st.stands p).section ≡ Outside → (st.stands p).phase ≡ phase.Idle → Shut sh st → RecordsAgree opened sh st
    → RecordsAgree opened sh (did sh st p (Start call.Advance) Outside phase.Idle told (Load place.Epoch))
advance opened sh st p told in_n at_sec at_call h r = in_world (RecordsAgree opened sh) (apply (Load place.Epoch) st.memory) (put_stand st.stands p (moved sh p (st.stands p) Outside phase.Idle (Start call.Advance) told (seen (Load place.Epoch) st.memory))) st.world
    (change sh p (st.stands p) Outside phase.Idle (Start call.Advance) told (seen (Load place.Epoch) st.memory)).event (grind (arith, nat_tests)) (record {
      given_in = r.given_in;
      given_of = r.given_of;
      no_others = r.no_others;
      is_here = r.is_here;
      since = r.since;
      values = r.values;
      c_record = λ i c' li is. grind (arith, nat_tests, r.c_record i c' li);
      c_values = λ i c' k' li is lt. grind (arith, nat_tests, r.c_values i c' k' li);
      c_stored = λ i c' s' a' e' y' k' li is lt. grind (arith, nat_tests, r.c_stored i c' s' a' e' y' k' li);
      c_blanks = λ i c' s' y' k' li is lt. grind (arith, nat_tests, r.c_blanks i c' s' y' k' li);
      placed_record = r.placed_record;
      held_record = λ i c' a' e' s' k' li is lt. grind (arith, nat_tests, r.held_record i c' a' e' s' k' li);
      frozen_blank = r.frozen_blank;
      locked_fields = r.locked_fields;
      j_passed = λ i c' a' e' s' k' n' li is lt. grind (arith, nat_tests, r.j_passed i c' a' e' s' k' n' li);
      j_word = λ i c' a' e' s' f' v' n' li is lk ld. grind (arith, nat_tests, r.j_word i c' a' e' s' f' v' n' li);
      j_fields = λ i c' a' e' s' k' n' li is lt. grind (arith, nat_tests, r.j_fields i c' a' e' s' k' n' li);
    })

-- kind LoadSection
pub advancing : (opened : ℕ) (sh : Layout) (st : S.State) (p : ℕ) (sec : Section) (z : ℕ) (k : ℕ) (told : ℕ) → p < sh.passes → (st.stands p).section ≡ sec → (st.stands p).phase ≡ phase.Advancing z k → Shut sh st → RecordsAgree opened sh st
    → RecordsAgree opened sh (did sh st p Go sec (phase.Advancing z k) told (Load (place.Section k)))
advancing opened sh st p sec z k told in_n at_sec at_call h r = in_world (RecordsAgree opened sh) (apply (Load (place.Section k)) st.memory) (put_stand st.stands p (moved sh p (st.stands p) sec (phase.Advancing z k) Go told (seen (Load (place.Section k)) st.memory))) st.world
    (change sh p (st.stands p) sec (phase.Advancing z k) Go told (seen (Load (place.Section k)) st.memory)).event (grind (arith, nat_tests)) (record {
      given_in = r.given_in;
      given_of = r.given_of;
      no_others = r.no_others;
      is_here = r.is_here;
      since = r.since;
      values = r.values;
      c_record = λ i c' li is. grind (arith, nat_tests, r.c_record i c' li, (calls h).calls p in_n, sections sh st h p in_n);
      c_values = λ i c' k' li is lt. grind (arith, nat_tests, r.c_values i c' k' li, (calls h).calls p in_n, sections sh st h p in_n);
      c_stored = λ i c' s' a' e' y' k' li is lt. grind (arith, nat_tests, r.c_stored i c' s' a' e' y' k' li, (calls h).calls p in_n, sections sh st h p in_n);
      c_blanks = λ i c' s' y' k' li is lt. grind (arith, nat_tests, r.c_blanks i c' s' y' k' li, (calls h).calls p in_n, sections sh st h p in_n);
      placed_record = r.placed_record;
      held_record = λ i c' a' e' s' k' li is lt. grind (arith, nat_tests, r.held_record i c' a' e' s' k' li, (calls h).calls p in_n, sections sh st h p in_n);
      frozen_blank = r.frozen_blank;
      locked_fields = r.locked_fields;
      j_passed = λ i c' a' e' s' k' n' li is lt. grind (arith, nat_tests, r.j_passed i c' a' e' s' k' n' li, (calls h).calls p in_n, sections sh st h p in_n);
      j_word = λ i c' a' e' s' f' v' n' li is lk ld. grind (arith, nat_tests, r.j_word i c' a' e' s' f' v' n' li, (calls h).calls p in_n, sections sh st h p in_n);
      j_fields = λ i c' a' e' s' k' n' li is lt. grind (arith, nat_tests, r.j_fields i c' a' e' s' k' n' li, (calls h).calls p in_n, sections sh st h p in_n);
    })

-- kind AdvanceEpoch
pub ready : (opened : ℕ) (sh : Layout) (st : S.State) (p : ℕ) (sec : Section) (z : ℕ) (told : ℕ) → p < sh.passes → (st.stands p).section ≡ sec → (st.stands p).phase ≡ phase.Ready z → Shut sh st → RecordsAgree opened sh st
    → RecordsAgree opened sh (did sh st p Go sec (phase.Ready z) told (Exchange place.Epoch (word.Plain z) (word.Plain (z + 1))))
ready opened sh st p sec z told in_n at_sec at_call h r = in_world (RecordsAgree opened sh) (apply (Exchange place.Epoch (word.Plain z) (word.Plain (z + 1))) st.memory) (put_stand st.stands p (moved sh p (st.stands p) sec (phase.Ready z) Go told (seen (Exchange place.Epoch (word.Plain z) (word.Plain (z + 1))) st.memory))) st.world
    (change sh p (st.stands p) sec (phase.Ready z) Go told (seen (Exchange place.Epoch (word.Plain z) (word.Plain (z + 1))) st.memory)).event (grind (arith, nat_tests)) (record {
      given_in = r.given_in;
      given_of = r.given_of;
      no_others = r.no_others;
      is_here = r.is_here;
      since = r.since;
      values = r.values;
      c_record = λ i c' li is. grind (arith, nat_tests, r.c_record i c' li, (calls h).calls p in_n, sections sh st h p in_n);
      c_values = λ i c' k' li is lt. grind (arith, nat_tests, r.c_values i c' k' li, (calls h).calls p in_n, sections sh st h p in_n);
      c_stored = λ i c' s' a' e' y' k' li is lt. grind (arith, nat_tests, r.c_stored i c' s' a' e' y' k' li, (calls h).calls p in_n, sections sh st h p in_n);
      c_blanks = λ i c' s' y' k' li is lt. grind (arith, nat_tests, r.c_blanks i c' s' y' k' li, (calls h).calls p in_n, sections sh st h p in_n);
      placed_record = r.placed_record;
      held_record = λ i c' a' e' s' k' li is lt. grind (arith, nat_tests, r.held_record i c' a' e' s' k' li, (calls h).calls p in_n, sections sh st h p in_n);
      frozen_blank = r.frozen_blank;
      locked_fields = r.locked_fields;
      j_passed = λ i c' a' e' s' k' n' li is lt. grind (arith, nat_tests, r.j_passed i c' a' e' s' k' n' li, (calls h).calls p in_n, sections sh st h p in_n);
      j_word = λ i c' a' e' s' f' v' n' li is lk ld. grind (arith, nat_tests, r.j_word i c' a' e' s' f' v' n' li, (calls h).calls p in_n, sections sh st h p in_n);
      j_fields = λ i c' a' e' s' k' n' li is lt. grind (arith, nat_tests, r.j_fields i c' a' e' s' k' n' li, (calls h).calls p in_n, sections sh st h p in_n);
    })

-- kind LoadEpoch
pub note : (opened : ℕ) (sh : Layout) (st : S.State) (p : ℕ) (told : ℕ) → p < sh.passes → (st.stands p).section ≡ Outside → (st.stands p).phase ≡ phase.Idle → Shut sh st → RecordsAgree opened sh st
    → RecordsAgree opened sh (did sh st p (Start call.Note) Outside phase.Idle told (Load place.Epoch))
note opened sh st p told in_n at_sec at_call h r = in_world (RecordsAgree opened sh) (apply (Load place.Epoch) st.memory) (put_stand st.stands p (moved sh p (st.stands p) Outside phase.Idle (Start call.Note) told (seen (Load place.Epoch) st.memory))) st.world
    (change sh p (st.stands p) Outside phase.Idle (Start call.Note) told (seen (Load place.Epoch) st.memory)).event (grind (arith, nat_tests)) (record {
      given_in = r.given_in;
      given_of = r.given_of;
      no_others = r.no_others;
      is_here = r.is_here;
      since = r.since;
      values = r.values;
      c_record = λ i c' li is. grind (arith, nat_tests, r.c_record i c' li);
      c_values = λ i c' k' li is lt. grind (arith, nat_tests, r.c_values i c' k' li);
      c_stored = λ i c' s' a' e' y' k' li is lt. grind (arith, nat_tests, r.c_stored i c' s' a' e' y' k' li);
      c_blanks = λ i c' s' y' k' li is lt. grind (arith, nat_tests, r.c_blanks i c' s' y' k' li);
      placed_record = r.placed_record;
      held_record = λ i c' a' e' s' k' li is lt. grind (arith, nat_tests, r.held_record i c' a' e' s' k' li);
      frozen_blank = r.frozen_blank;
      locked_fields = r.locked_fields;
      j_passed = λ i c' a' e' s' k' n' li is lt. grind (arith, nat_tests, r.j_passed i c' a' e' s' k' n' li);
      j_word = λ i c' a' e' s' f' v' n' li is lk ld. grind (arith, nat_tests, r.j_word i c' a' e' s' f' v' n' li);
      j_fields = λ i c' a' e' s' k' n' li is lt. grind (arith, nat_tests, r.j_fields i c' a' e' s' k' n' li);
    })

-- kind LoadEpoch
pub learn : (opened : ℕ) (sh : Layout) (st : S.State) (p : ℕ) (k : ℕ) (z : ℕ) (told : ℕ) → p < sh.passes → (st.stands p).section ≡ Outside → (st.stands p).phase ≡ phase.Idle → Shut sh st → RecordsAgree opened sh st
    → RecordsAgree opened sh (did sh st p (Start (call.Learn k z)) Outside phase.Idle told (Load place.Epoch))
learn opened sh st p k z told in_n at_sec at_call h r = in_world (RecordsAgree opened sh) (apply (Load place.Epoch) st.memory) (put_stand st.stands p (moved sh p (st.stands p) Outside phase.Idle (Start (call.Learn k z)) told (seen (Load place.Epoch) st.memory))) st.world
    (change sh p (st.stands p) Outside phase.Idle (Start (call.Learn k z)) told (seen (Load place.Epoch) st.memory)).event (grind (arith, nat_tests)) (record {
      given_in = r.given_in;
      given_of = r.given_of;
      no_others = r.no_others;
      is_here = r.is_here;
      since = r.since;
      values = r.values;
      c_record = λ i c' li is. grind (arith, nat_tests, r.c_record i c' li);
      c_values = λ i c' k' li is lt. grind (arith, nat_tests, r.c_values i c' k' li);
      c_stored = λ i c' s' a' e' y' k' li is lt. grind (arith, nat_tests, r.c_stored i c' s' a' e' y' k' li);
      c_blanks = λ i c' s' y' k' li is lt. grind (arith, nat_tests, r.c_blanks i c' s' y' k' li);
      placed_record = r.placed_record;
      held_record = λ i c' a' e' s' k' li is lt. grind (arith, nat_tests, r.held_record i c' a' e' s' k' li);
      frozen_blank = r.frozen_blank;
      locked_fields = r.locked_fields;
      j_passed = λ i c' a' e' s' k' n' li is lt. grind (arith, nat_tests, r.j_passed i c' a' e' s' k' n' li);
      j_word = λ i c' a' e' s' f' v' n' li is lk ld. grind (arith, nat_tests, r.j_word i c' a' e' s' f' v' n' li);
      j_fields = λ i c' a' e' s' k' n' li is lt. grind (arith, nat_tests, r.j_fields i c' a' e' s' k' n' li);
    })
