-- Steps keep the agreement: records, targets. Written by tools/laws.py.
use Rattle.std.proofs.Common.{◌≡◌, ℕ, ◌+◌, ◌<◌, Bool, Some, arith}
use Rattle.std.proofs.lemmas.Bool.Decides.{nat_tests}
use Rattle.smc_words.specs.declared.layout.TheConstants.{BLANK}
use Rattle.smc_words.specs.declared.dir.Dir.{Dir}
use Rattle.smc_words.specs.declared.dir.Dir.TheVariants as dir
use Rattle.smc_shape.specs.Layout.{Layout, width_of}
use Rattle.smc_shape.specs.declared.place.Place.TheVariants as place
use Rattle.smc_core.specs.declared.call.Choice.TheVariants.{Go}
use Rattle.smc_core.specs.declared.op.Op.TheVariants.{Load, Store, Exchange}
use Rattle.smc_core.specs.declared.phase.Phase.TheVariants as phase
use Rattle.smc_core.specs.declared.phase.moves.BeginPhase.TheVariants as begin
use Rattle.smc_core.specs.declared.phase.moves.Walk.{Walk}
use Rattle.smc_core.specs.declared.section.Section.TheVariants.{Inside}
use Rattle.smc_core.specs.declared.word.State.TheVariants as state
use Rattle.smc_core.specs.declared.word.Word.TheVariants as word
use Rattle.smc_rules.specs.Reads.{object}
use Rattle.smc_rules.specs.State as S
use Rattle.smc_rules.specs.State.{put_stand}
use Rattle.smc_agreement.proofs.Whole.{Shut, calls, copies, claims, objects, moves, did, moved, sections}
use Rattle.smc_agreement.proofs.CrossLaws.{below, not_claimed}
use Rattle.smc_core.specs.Change.{change}
use Rattle.smc_rules.specs.Memory.{apply, seen}
use Rattle.smc_agreement.specs.Records.{RecordsAgree}
use Rattle.smc_agreement.proofs.WorldViews.{in_world}

-- kind LoadDirectory
pub target_dir : (opened : ℕ) (sh : Layout) (st : S.State) (p : ℕ) (x : ℕ) (calm : Bool) (m : Walk) (a : ℕ) (e : ℕ) (told : ℕ) → p < sh.passes → (st.stands p).section ≡ Inside x calm → (st.stands p).phase ≡ phase.Begin (begin.TargetDirectory m (object a e m.coll)) → Shut sh st → RecordsAgree opened sh st
    → RecordsAgree opened sh (did sh st p Go (Inside x calm) (phase.Begin (begin.TargetDirectory m (object a e m.coll))) told (Load (place.Directory m.coll m.target)))
target_dir opened sh st p x calm m a e told in_n at_sec at_call h r = in_world (RecordsAgree opened sh) (apply (Load (place.Directory m.coll m.target)) st.memory) (put_stand st.stands p (moved sh p (st.stands p) (Inside x calm) (phase.Begin (begin.TargetDirectory m (object a e m.coll))) Go told (seen (Load (place.Directory m.coll m.target)) st.memory))) st.world
    (change sh p (st.stands p) (Inside x calm) (phase.Begin (begin.TargetDirectory m (object a e m.coll))) Go told (seen (Load (place.Directory m.coll m.target)) st.memory)).event (grind (arith, nat_tests)) (record {
      given_in = r.given_in;
      given_of = r.given_of;
      no_others = r.no_others;
      is_here = r.is_here;
      since = r.since;
      values = r.values;
      c_record = λ i c' li is. grind (arith, nat_tests, r.c_record i c' li, (calls h).c_origin p m.coll m.source a e in_n, (calls h).c_source p m.coll m.source a e in_n, (calls h).c_resting p m.coll m.source a e in_n, below sh st h p in_n (begin.TargetDirectory m (object a e m.coll)) at_call, (calls h).calls p in_n, sections sh st h p in_n);
      c_values = λ i c' k' li is lt. grind (arith, nat_tests, r.c_values i c' k' li, (calls h).c_origin p m.coll m.source a e in_n, (calls h).c_source p m.coll m.source a e in_n, (calls h).c_resting p m.coll m.source a e in_n, below sh st h p in_n (begin.TargetDirectory m (object a e m.coll)) at_call, (calls h).calls p in_n, sections sh st h p in_n);
      c_stored = λ i c' s' a' e' y' k' li is lt. grind (arith, nat_tests, r.c_stored i c' s' a' e' y' k' li, (calls h).c_origin p m.coll m.source a e in_n, (calls h).c_source p m.coll m.source a e in_n, (calls h).c_resting p m.coll m.source a e in_n, below sh st h p in_n (begin.TargetDirectory m (object a e m.coll)) at_call, (calls h).calls p in_n, sections sh st h p in_n);
      c_blanks = λ i c' s' y' k' li is lt. grind (arith, nat_tests, r.c_blanks i c' s' y' k' li, (calls h).c_origin p m.coll m.source a e in_n, (calls h).c_source p m.coll m.source a e in_n, (calls h).c_resting p m.coll m.source a e in_n, below sh st h p in_n (begin.TargetDirectory m (object a e m.coll)) at_call, (calls h).calls p in_n, sections sh st h p in_n);
      placed_record = r.placed_record;
      held_record = λ i c' a' e' s' k' li is lt. grind (arith, nat_tests, r.held_record i c' a' e' s' k' li, (calls h).c_origin p m.coll m.source a e in_n, (calls h).c_source p m.coll m.source a e in_n, (calls h).c_resting p m.coll m.source a e in_n, below sh st h p in_n (begin.TargetDirectory m (object a e m.coll)) at_call, (calls h).calls p in_n, sections sh st h p in_n);
      frozen_blank = r.frozen_blank;
      locked_fields = r.locked_fields;
      j_passed = λ i c' a' e' s' k' n' li is lt. grind (arith, nat_tests, r.j_passed i c' a' e' s' k' n' li, (calls h).c_origin p m.coll m.source a e in_n, (calls h).c_source p m.coll m.source a e in_n, (calls h).c_resting p m.coll m.source a e in_n, below sh st h p in_n (begin.TargetDirectory m (object a e m.coll)) at_call, (calls h).calls p in_n, sections sh st h p in_n);
      j_word = λ i c' a' e' s' f' v' n' li is lk ld. grind (arith, nat_tests, r.j_word i c' a' e' s' f' v' n' li, (calls h).c_origin p m.coll m.source a e in_n, (calls h).c_source p m.coll m.source a e in_n, (calls h).c_resting p m.coll m.source a e in_n, below sh st h p in_n (begin.TargetDirectory m (object a e m.coll)) at_call, (calls h).calls p in_n, sections sh st h p in_n);
      j_fields = λ i c' a' e' s' k' n' li is lt. grind (arith, nat_tests, r.j_fields i c' a' e' s' k' n' li, (calls h).c_origin p m.coll m.source a e in_n, (calls h).c_source p m.coll m.source a e in_n, (calls h).c_resting p m.coll m.source a e in_n, below sh st h p in_n (begin.TargetDirectory m (object a e m.coll)) at_call, (calls h).calls p in_n, sections sh st h p in_n);
    })

-- kind ClaimSlot
pub claim_target : (opened : ℕ) (sh : Layout) (st : S.State) (p : ℕ) (x : ℕ) (calm : Bool) (m : Walk) (a : ℕ) (e : ℕ) (d : Dir) (told : ℕ) → p < sh.passes → (st.stands p).section ≡ Inside x calm → (st.stands p).phase ≡ phase.Begin (begin.ClaimTarget m (object a e m.coll) d) → Shut sh st → RecordsAgree opened sh st
    → RecordsAgree opened sh (did sh st p Go (Inside x calm) (phase.Begin (begin.ClaimTarget m (object a e m.coll) d)) told (Exchange (place.Directory m.coll m.target) (word.Directory d) (word.Directory dir.Claimed)))
claim_target opened sh st p x calm m a e d told in_n at_sec at_call h r = in_world (RecordsAgree opened sh) (apply (Exchange (place.Directory m.coll m.target) (word.Directory d) (word.Directory dir.Claimed)) st.memory) (put_stand st.stands p (moved sh p (st.stands p) (Inside x calm) (phase.Begin (begin.ClaimTarget m (object a e m.coll) d)) Go told (seen (Exchange (place.Directory m.coll m.target) (word.Directory d) (word.Directory dir.Claimed)) st.memory))) st.world
    (change sh p (st.stands p) (Inside x calm) (phase.Begin (begin.ClaimTarget m (object a e m.coll) d)) Go told (seen (Exchange (place.Directory m.coll m.target) (word.Directory d) (word.Directory dir.Claimed)) st.memory)).event (grind (arith, nat_tests)) (record {
      given_in = r.given_in;
      given_of = r.given_of;
      no_others = r.no_others;
      is_here = r.is_here;
      since = r.since;
      values = r.values;
      c_record = λ i c' li is. grind (arith, nat_tests, r.c_record i c' li, (calls h).c_origin p m.coll m.source a e in_n, (calls h).c_source p m.coll m.source a e in_n, (calls h).c_resting p m.coll m.source a e in_n, below sh st h p in_n (begin.ClaimTarget m (object a e m.coll) d) at_call, (calls h).calls p in_n, sections sh st h p in_n);
      c_values = λ i c' k' li is lt. grind (arith, nat_tests, r.c_values i c' k' li, (calls h).c_origin p m.coll m.source a e in_n, (calls h).c_source p m.coll m.source a e in_n, (calls h).c_resting p m.coll m.source a e in_n, below sh st h p in_n (begin.ClaimTarget m (object a e m.coll) d) at_call, (calls h).calls p in_n, sections sh st h p in_n);
      c_stored = λ i c' s' a' e' y' k' li is lt. grind (arith, nat_tests, r.c_stored i c' s' a' e' y' k' li, (calls h).c_origin p m.coll m.source a e in_n, (calls h).c_source p m.coll m.source a e in_n, (calls h).c_resting p m.coll m.source a e in_n, below sh st h p in_n (begin.ClaimTarget m (object a e m.coll) d) at_call, (calls h).calls p in_n, sections sh st h p in_n);
      c_blanks = λ i c' s' y' k' li is lt. grind (arith, nat_tests, r.c_blanks i c' s' y' k' li, (calls h).c_origin p m.coll m.source a e in_n, (calls h).c_source p m.coll m.source a e in_n, (calls h).c_resting p m.coll m.source a e in_n, below sh st h p in_n (begin.ClaimTarget m (object a e m.coll) d) at_call, (calls h).calls p in_n, sections sh st h p in_n);
      placed_record = r.placed_record;
      held_record = λ i c' a' e' s' k' li is lt. grind (arith, nat_tests, r.held_record i c' a' e' s' k' li, (calls h).c_origin p m.coll m.source a e in_n, (calls h).c_source p m.coll m.source a e in_n, (calls h).c_resting p m.coll m.source a e in_n, below sh st h p in_n (begin.ClaimTarget m (object a e m.coll) d) at_call, (calls h).calls p in_n, sections sh st h p in_n);
      frozen_blank = r.frozen_blank;
      locked_fields = r.locked_fields;
      j_passed = λ i c' a' e' s' k' n' li is lt. grind (arith, nat_tests, r.j_passed i c' a' e' s' k' n' li, (calls h).c_origin p m.coll m.source a e in_n, (calls h).c_source p m.coll m.source a e in_n, (calls h).c_resting p m.coll m.source a e in_n, below sh st h p in_n (begin.ClaimTarget m (object a e m.coll) d) at_call, (calls h).calls p in_n, sections sh st h p in_n);
      j_word = λ i c' a' e' s' f' v' n' li is lk ld. grind (arith, nat_tests, r.j_word i c' a' e' s' f' v' n' li, (calls h).c_origin p m.coll m.source a e in_n, (calls h).c_source p m.coll m.source a e in_n, (calls h).c_resting p m.coll m.source a e in_n, below sh st h p in_n (begin.ClaimTarget m (object a e m.coll) d) at_call, (calls h).calls p in_n, sections sh st h p in_n);
      j_fields = λ i c' a' e' s' k' n' li is lt. grind (arith, nat_tests, r.j_fields i c' a' e' s' k' n' li, (calls h).c_origin p m.coll m.source a e in_n, (calls h).c_source p m.coll m.source a e in_n, (calls h).c_resting p m.coll m.source a e in_n, below sh st h p in_n (begin.ClaimTarget m (object a e m.coll) d) at_call, (calls h).calls p in_n, sections sh st h p in_n);
    })

-- kind StoreField
pub blank_field : (opened : ℕ) (sh : Layout) (st : S.State) (p : ℕ) (x : ℕ) (calm : Bool) (m : Walk) (a : ℕ) (e : ℕ) (f : ℕ) (told : ℕ) → p < sh.passes → (st.stands p).section ≡ Inside x calm → (st.stands p).phase ≡ phase.Begin (begin.BlankField m (object a e m.coll) f) → Shut sh st → RecordsAgree opened sh st
    → RecordsAgree opened sh (did sh st p Go (Inside x calm) (phase.Begin (begin.BlankField m (object a e m.coll) f)) told (Store (place.Field m.coll m.target f) (word.Plain BLANK)))
blank_field opened sh st p x calm m a e f told in_n at_sec at_call h r = in_world (RecordsAgree opened sh) (apply (Store (place.Field m.coll m.target f) (word.Plain BLANK)) st.memory) (put_stand st.stands p (moved sh p (st.stands p) (Inside x calm) (phase.Begin (begin.BlankField m (object a e m.coll) f)) Go told (seen (Store (place.Field m.coll m.target f) (word.Plain BLANK)) st.memory))) st.world
    (change sh p (st.stands p) (Inside x calm) (phase.Begin (begin.BlankField m (object a e m.coll) f)) Go told (seen (Store (place.Field m.coll m.target f) (word.Plain BLANK)) st.memory)).event (grind (arith, nat_tests)) (record {
      given_in = r.given_in;
      given_of = r.given_of;
      no_others = r.no_others;
      is_here = r.is_here;
      since = r.since;
      values = r.values;
      c_record = λ i c' li is. grind (arith, nat_tests, r.c_record i c' li, (calls h).c_slot p m.coll m.target in_n, (calls h).c_origin p m.coll m.source a e in_n, (calls h).c_source p m.coll m.source a e in_n, (calls h).c_resting p m.coll m.source a e in_n, below sh st h p in_n (begin.BlankField m (object a e m.coll) f) at_call, (calls h).calls p in_n, sections sh st h p in_n);
      c_values = λ i c' k' li is lt. grind (arith, nat_tests, r.c_values i c' k' li, (calls h).c_slot p m.coll m.target in_n, (calls h).c_origin p m.coll m.source a e in_n, (calls h).c_source p m.coll m.source a e in_n, (calls h).c_resting p m.coll m.source a e in_n, r.c_blanks p m.coll m.target f k' in_n, below sh st h p in_n (begin.BlankField m (object a e m.coll) f) at_call, (calls h).calls p in_n, sections sh st h p in_n);
      c_stored = λ i c' s' a' e' y' k' li is lt. grind (arith, nat_tests, r.c_stored i c' s' a' e' y' k' li, (calls h).c_slot p m.coll m.target in_n, (calls h).c_origin p m.coll m.source a e in_n, (calls h).c_source p m.coll m.source a e in_n, (calls h).c_resting p m.coll m.source a e in_n, r.c_blanks p m.coll m.target f k' in_n, below sh st h p in_n (begin.BlankField m (object a e m.coll) f) at_call, (calls h).calls p in_n, sections sh st h p in_n, (claims h).one_slot i p c' s' li in_n, (calls h).c_slot i c' s' li, (calls h).c_lives i c' s' a' e' li);
      c_blanks = λ i c' s' y' k' li is lt. grind (arith, nat_tests, r.c_blanks i c' s' y' k' li, (calls h).c_slot p m.coll m.target in_n, (calls h).c_origin p m.coll m.source a e in_n, (calls h).c_source p m.coll m.source a e in_n, (calls h).c_resting p m.coll m.source a e in_n, r.c_blanks p m.coll m.target f k' in_n, below sh st h p in_n (begin.BlankField m (object a e m.coll) f) at_call, (calls h).calls p in_n, sections sh st h p in_n, (claims h).one_slot i p c' s' li in_n, (calls h).c_slot i c' s' li, (calls h).c_target i c' s' li);
      placed_record = λ c' a' e' s' k' is lt. grind (arith, nat_tests, r.placed_record c' a' e' s' k', (calls h).c_slot p m.coll m.target in_n, (calls h).c_origin p m.coll m.source a e in_n, (calls h).c_source p m.coll m.source a e in_n, (calls h).c_resting p m.coll m.source a e in_n, r.c_blanks p m.coll m.target f k' in_n, below sh st h p in_n (begin.BlankField m (object a e m.coll) f) at_call, (calls h).calls p in_n, sections sh st h p in_n, not_claimed sh st h c' a' e' s', (objects h).placed c' a' e' s');
      held_record = λ i c' a' e' s' k' li is lt. grind (arith, nat_tests, r.held_record i c' a' e' s' k' li, (calls h).c_slot p m.coll m.target in_n, (calls h).c_origin p m.coll m.source a e in_n, (calls h).c_source p m.coll m.source a e in_n, (calls h).c_resting p m.coll m.source a e in_n, r.c_blanks p m.coll m.target f k' in_n, below sh st h p in_n (begin.BlankField m (object a e m.coll) f) at_call, (calls h).calls p in_n, sections sh st h p in_n, (objects h).held i c' a' e' s' li);
      frozen_blank = λ c' a' e' s' k' is lt. grind (arith, nat_tests, r.frozen_blank c' a' e' s' k', (calls h).c_slot p m.coll m.target in_n, (calls h).c_origin p m.coll m.source a e in_n, (calls h).c_source p m.coll m.source a e in_n, (calls h).c_resting p m.coll m.source a e in_n, r.c_blanks p m.coll m.target f k' in_n, below sh st h p in_n (begin.BlankField m (object a e m.coll) f) at_call, (calls h).calls p in_n, sections sh st h p in_n, (moves h).frozen c' a' e' s');
      locked_fields = λ c' a' e' s' k' is lt. grind (arith, nat_tests, r.locked_fields c' a' e' s' k', (calls h).c_slot p m.coll m.target in_n, (calls h).c_origin p m.coll m.source a e in_n, (calls h).c_source p m.coll m.source a e in_n, (calls h).c_resting p m.coll m.source a e in_n, r.c_blanks p m.coll m.target f k' in_n, below sh st h p in_n (begin.BlankField m (object a e m.coll) f) at_call, (calls h).calls p in_n, sections sh st h p in_n, (moves h).locked c' a' e' s', (objects h).placed c' a' e' s');
      j_passed = λ i c' a' e' s' k' n' li is lt. grind (arith, nat_tests, r.j_passed i c' a' e' s' k' n' li, (calls h).c_slot p m.coll m.target in_n, (calls h).c_origin p m.coll m.source a e in_n, (calls h).c_source p m.coll m.source a e in_n, (calls h).c_resting p m.coll m.source a e in_n, r.c_blanks p m.coll m.target f k' in_n, below sh st h p in_n (begin.BlankField m (object a e m.coll) f) at_call, (calls h).calls p in_n, sections sh st h p in_n, (copies h).j_for i c' a' e' s' n' li);
      j_word = λ i c' a' e' s' f' v' n' li is lk ld. grind (arith, nat_tests, r.j_word i c' a' e' s' f' v' n' li, (calls h).c_slot p m.coll m.target in_n, (calls h).c_origin p m.coll m.source a e in_n, (calls h).c_source p m.coll m.source a e in_n, (calls h).c_resting p m.coll m.source a e in_n, below sh st h p in_n (begin.BlankField m (object a e m.coll) f) at_call, (calls h).calls p in_n, sections sh st h p in_n, (copies h).j_left i c' a' e' s' n' li);
      j_fields = λ i c' a' e' s' k' n' li is lt. grind (arith, nat_tests, r.j_fields i c' a' e' s' k' n' li, (calls h).c_slot p m.coll m.target in_n, (calls h).c_origin p m.coll m.source a e in_n, (calls h).c_source p m.coll m.source a e in_n, (calls h).c_resting p m.coll m.source a e in_n, r.c_blanks p m.coll m.target f k' in_n, below sh st h p in_n (begin.BlankField m (object a e m.coll) f) at_call, (calls h).calls p in_n, sections sh st h p in_n, (copies h).j_for i c' a' e' s' n' li);
    })

-- kind StoreBack
pub name_target : (opened : ℕ) (sh : Layout) (st : S.State) (p : ℕ) (x : ℕ) (calm : Bool) (m : Walk) (a : ℕ) (e : ℕ) (told : ℕ) → p < sh.passes → (st.stands p).section ≡ Inside x calm → (st.stands p).phase ≡ phase.Begin (begin.StoreBack m (object a e m.coll)) → Shut sh st → RecordsAgree opened sh st
    → RecordsAgree opened sh (did sh st p Go (Inside x calm) (phase.Begin (begin.StoreBack m (object a e m.coll))) told (Store (place.Back m.coll m.target) (word.Back (Some (object a e m.coll)))))
name_target opened sh st p x calm m a e told in_n at_sec at_call h r = in_world (RecordsAgree opened sh) (apply (Store (place.Back m.coll m.target) (word.Back (Some (object a e m.coll)))) st.memory) (put_stand st.stands p (moved sh p (st.stands p) (Inside x calm) (phase.Begin (begin.StoreBack m (object a e m.coll))) Go told (seen (Store (place.Back m.coll m.target) (word.Back (Some (object a e m.coll)))) st.memory))) st.world
    (change sh p (st.stands p) (Inside x calm) (phase.Begin (begin.StoreBack m (object a e m.coll))) Go told (seen (Store (place.Back m.coll m.target) (word.Back (Some (object a e m.coll)))) st.memory)).event (grind (arith, nat_tests)) (record {
      given_in = r.given_in;
      given_of = r.given_of;
      no_others = r.no_others;
      is_here = r.is_here;
      since = r.since;
      values = r.values;
      c_record = λ i c' li is. grind (arith, nat_tests, r.c_record i c' li, (calls h).c_slot p m.coll m.target in_n, (calls h).c_origin p m.coll m.source a e in_n, (calls h).c_source p m.coll m.source a e in_n, (calls h).c_resting p m.coll m.source a e in_n, below sh st h p in_n (begin.StoreBack m (object a e m.coll)) at_call, (calls h).calls p in_n, sections sh st h p in_n);
      c_values = λ i c' k' li is lt. grind (arith, nat_tests, r.c_values i c' k' li, (calls h).c_slot p m.coll m.target in_n, (calls h).c_origin p m.coll m.source a e in_n, (calls h).c_source p m.coll m.source a e in_n, (calls h).c_resting p m.coll m.source a e in_n, r.c_blanks p m.coll m.target (width_of sh m.coll) k' in_n, below sh st h p in_n (begin.StoreBack m (object a e m.coll)) at_call, (calls h).calls p in_n, sections sh st h p in_n);
      c_stored = λ i c' s' a' e' y' k' li is lt. grind (arith, nat_tests, r.c_stored i c' s' a' e' y' k' li, (calls h).c_slot p m.coll m.target in_n, (calls h).c_origin p m.coll m.source a e in_n, (calls h).c_source p m.coll m.source a e in_n, (calls h).c_resting p m.coll m.source a e in_n, r.c_blanks p m.coll m.target (width_of sh m.coll) k' in_n, below sh st h p in_n (begin.StoreBack m (object a e m.coll)) at_call, (calls h).calls p in_n, sections sh st h p in_n);
      c_blanks = λ i c' s' y' k' li is lt. grind (arith, nat_tests, r.c_blanks i c' s' y' k' li, (calls h).c_slot p m.coll m.target in_n, (calls h).c_origin p m.coll m.source a e in_n, (calls h).c_source p m.coll m.source a e in_n, (calls h).c_resting p m.coll m.source a e in_n, r.c_blanks p m.coll m.target (width_of sh m.coll) k' in_n, below sh st h p in_n (begin.StoreBack m (object a e m.coll)) at_call, (calls h).calls p in_n, sections sh st h p in_n);
      placed_record = r.placed_record;
      held_record = λ i c' a' e' s' k' li is lt. grind (arith, nat_tests, r.held_record i c' a' e' s' k' li, (calls h).c_slot p m.coll m.target in_n, (calls h).c_origin p m.coll m.source a e in_n, (calls h).c_source p m.coll m.source a e in_n, (calls h).c_resting p m.coll m.source a e in_n, r.c_blanks p m.coll m.target (width_of sh m.coll) k' in_n, below sh st h p in_n (begin.StoreBack m (object a e m.coll)) at_call, (calls h).calls p in_n, sections sh st h p in_n);
      frozen_blank = r.frozen_blank;
      locked_fields = r.locked_fields;
      j_passed = λ i c' a' e' s' k' n' li is lt. grind (arith, nat_tests, r.j_passed i c' a' e' s' k' n' li, (calls h).c_slot p m.coll m.target in_n, (calls h).c_origin p m.coll m.source a e in_n, (calls h).c_source p m.coll m.source a e in_n, (calls h).c_resting p m.coll m.source a e in_n, r.c_blanks p m.coll m.target (width_of sh m.coll) k' in_n, below sh st h p in_n (begin.StoreBack m (object a e m.coll)) at_call, (calls h).calls p in_n, sections sh st h p in_n);
      j_word = λ i c' a' e' s' f' v' n' li is lk ld. grind (arith, nat_tests, r.j_word i c' a' e' s' f' v' n' li, (calls h).c_slot p m.coll m.target in_n, (calls h).c_origin p m.coll m.source a e in_n, (calls h).c_source p m.coll m.source a e in_n, (calls h).c_resting p m.coll m.source a e in_n, below sh st h p in_n (begin.StoreBack m (object a e m.coll)) at_call, (calls h).calls p in_n, sections sh st h p in_n);
      j_fields = λ i c' a' e' s' k' n' li is lt. grind (arith, nat_tests, r.j_fields i c' a' e' s' k' n' li, (calls h).c_slot p m.coll m.target in_n, (calls h).c_origin p m.coll m.source a e in_n, (calls h).c_source p m.coll m.source a e in_n, (calls h).c_resting p m.coll m.source a e in_n, r.c_blanks p m.coll m.target (width_of sh m.coll) k' in_n, below sh st h p in_n (begin.StoreBack m (object a e m.coll)) at_call, (calls h).calls p in_n, sections sh st h p in_n);
    })

-- kind StoreForward
pub lead_source : (opened : ℕ) (sh : Layout) (st : S.State) (p : ℕ) (x : ℕ) (calm : Bool) (m : Walk) (a : ℕ) (e : ℕ) (told : ℕ) → p < sh.passes → (st.stands p).section ≡ Inside x calm → (st.stands p).phase ≡ phase.Begin (begin.StoreForward m (object a e m.coll)) → Shut sh st → RecordsAgree opened sh st
    → RecordsAgree opened sh (did sh st p Go (Inside x calm) (phase.Begin (begin.StoreForward m (object a e m.coll))) told (Store (place.Forward m.coll m.source) (word.Forward m.target)))
lead_source opened sh st p x calm m a e told in_n at_sec at_call h r = in_world (RecordsAgree opened sh) (apply (Store (place.Forward m.coll m.source) (word.Forward m.target)) st.memory) (put_stand st.stands p (moved sh p (st.stands p) (Inside x calm) (phase.Begin (begin.StoreForward m (object a e m.coll))) Go told (seen (Store (place.Forward m.coll m.source) (word.Forward m.target)) st.memory))) st.world
    (change sh p (st.stands p) (Inside x calm) (phase.Begin (begin.StoreForward m (object a e m.coll))) Go told (seen (Store (place.Forward m.coll m.source) (word.Forward m.target)) st.memory)).event (grind (arith, nat_tests)) (record {
      given_in = r.given_in;
      given_of = r.given_of;
      no_others = r.no_others;
      is_here = r.is_here;
      since = r.since;
      values = r.values;
      c_record = λ i c' li is. grind (arith, nat_tests, r.c_record i c' li, (calls h).c_slot p m.coll m.target in_n, (calls h).c_named p m.coll m.target a e in_n, (calls h).c_origin p m.coll m.source a e in_n, (calls h).c_source p m.coll m.source a e in_n, (calls h).c_resting p m.coll m.source a e in_n, below sh st h p in_n (begin.StoreForward m (object a e m.coll)) at_call, (calls h).calls p in_n, sections sh st h p in_n);
      c_values = λ i c' k' li is lt. grind (arith, nat_tests, r.c_values i c' k' li, (calls h).c_slot p m.coll m.target in_n, (calls h).c_named p m.coll m.target a e in_n, (calls h).c_origin p m.coll m.source a e in_n, (calls h).c_source p m.coll m.source a e in_n, (calls h).c_resting p m.coll m.source a e in_n, r.c_blanks p m.coll m.target (width_of sh m.coll) k' in_n, below sh st h p in_n (begin.StoreForward m (object a e m.coll)) at_call, (calls h).calls p in_n, sections sh st h p in_n);
      c_stored = λ i c' s' a' e' y' k' li is lt. grind (arith, nat_tests, r.c_stored i c' s' a' e' y' k' li, (calls h).c_slot p m.coll m.target in_n, (calls h).c_named p m.coll m.target a e in_n, (calls h).c_origin p m.coll m.source a e in_n, (calls h).c_source p m.coll m.source a e in_n, (calls h).c_resting p m.coll m.source a e in_n, r.c_blanks p m.coll m.target (width_of sh m.coll) k' in_n, below sh st h p in_n (begin.StoreForward m (object a e m.coll)) at_call, (calls h).calls p in_n, sections sh st h p in_n);
      c_blanks = λ i c' s' y' k' li is lt. grind (arith, nat_tests, r.c_blanks i c' s' y' k' li, (calls h).c_slot p m.coll m.target in_n, (calls h).c_named p m.coll m.target a e in_n, (calls h).c_origin p m.coll m.source a e in_n, (calls h).c_source p m.coll m.source a e in_n, (calls h).c_resting p m.coll m.source a e in_n, r.c_blanks p m.coll m.target (width_of sh m.coll) k' in_n, below sh st h p in_n (begin.StoreForward m (object a e m.coll)) at_call, (calls h).calls p in_n, sections sh st h p in_n);
      placed_record = r.placed_record;
      held_record = λ i c' a' e' s' k' li is lt. grind (arith, nat_tests, r.held_record i c' a' e' s' k' li, (calls h).c_slot p m.coll m.target in_n, (calls h).c_named p m.coll m.target a e in_n, (calls h).c_origin p m.coll m.source a e in_n, (calls h).c_source p m.coll m.source a e in_n, (calls h).c_resting p m.coll m.source a e in_n, r.c_blanks p m.coll m.target (width_of sh m.coll) k' in_n, below sh st h p in_n (begin.StoreForward m (object a e m.coll)) at_call, (calls h).calls p in_n, sections sh st h p in_n);
      frozen_blank = λ c' a' e' s' k' is lt. grind (arith, nat_tests, r.frozen_blank c' a' e' s' k', (calls h).c_slot p m.coll m.target in_n, (calls h).c_named p m.coll m.target a e in_n, (calls h).c_origin p m.coll m.source a e in_n, (calls h).c_source p m.coll m.source a e in_n, (calls h).c_resting p m.coll m.source a e in_n, r.c_blanks p m.coll m.target (width_of sh m.coll) k' in_n, below sh st h p in_n (begin.StoreForward m (object a e m.coll)) at_call, (calls h).calls p in_n, sections sh st h p in_n, (objects h).standing c' a' e' s');
      locked_fields = λ c' a' e' s' k' is lt. grind (arith, nat_tests, r.locked_fields c' a' e' s' k', (calls h).c_slot p m.coll m.target in_n, (calls h).c_named p m.coll m.target a e in_n, (calls h).c_origin p m.coll m.source a e in_n, (calls h).c_source p m.coll m.source a e in_n, (calls h).c_resting p m.coll m.source a e in_n, r.c_blanks p m.coll m.target (width_of sh m.coll) k' in_n, below sh st h p in_n (begin.StoreForward m (object a e m.coll)) at_call, (calls h).calls p in_n, sections sh st h p in_n, (objects h).standing c' a' e' s');
      j_passed = λ i c' a' e' s' k' n' li is lt. grind (arith, nat_tests, r.j_passed i c' a' e' s' k' n' li, (calls h).c_slot p m.coll m.target in_n, (calls h).c_named p m.coll m.target a e in_n, (calls h).c_origin p m.coll m.source a e in_n, (calls h).c_source p m.coll m.source a e in_n, (calls h).c_resting p m.coll m.source a e in_n, r.c_blanks p m.coll m.target (width_of sh m.coll) k' in_n, below sh st h p in_n (begin.StoreForward m (object a e m.coll)) at_call, (calls h).calls p in_n, sections sh st h p in_n, (moves h).begin_copy p i m.coll m.source a' e' s' n' in_n li);
      j_word = λ i c' a' e' s' f' v' n' li is lk ld. grind (arith, nat_tests, r.j_word i c' a' e' s' f' v' n' li, (calls h).c_slot p m.coll m.target in_n, (calls h).c_named p m.coll m.target a e in_n, (calls h).c_origin p m.coll m.source a e in_n, (calls h).c_source p m.coll m.source a e in_n, (calls h).c_resting p m.coll m.source a e in_n, below sh st h p in_n (begin.StoreForward m (object a e m.coll)) at_call, (calls h).calls p in_n, sections sh st h p in_n);
      j_fields = λ i c' a' e' s' k' n' li is lt. grind (arith, nat_tests, r.j_fields i c' a' e' s' k' n' li, (calls h).c_slot p m.coll m.target in_n, (calls h).c_named p m.coll m.target a e in_n, (calls h).c_origin p m.coll m.source a e in_n, (calls h).c_source p m.coll m.source a e in_n, (calls h).c_resting p m.coll m.source a e in_n, r.c_blanks p m.coll m.target (width_of sh m.coll) k' in_n, below sh st h p in_n (begin.StoreForward m (object a e m.coll)) at_call, (calls h).calls p in_n, sections sh st h p in_n, (moves h).begin_copy p i m.coll m.source a' e' s' n' in_n li);
    })

-- kind StoreIncoming
pub store_incoming : (opened : ℕ) (sh : Layout) (st : S.State) (p : ℕ) (x : ℕ) (calm : Bool) (m : Walk) (a : ℕ) (e : ℕ) (told : ℕ) → p < sh.passes → (st.stands p).section ≡ Inside x calm → (st.stands p).phase ≡ phase.Begin (begin.StoreIncoming m (object a e m.coll)) → Shut sh st → RecordsAgree opened sh st
    → RecordsAgree opened sh (did sh st p Go (Inside x calm) (phase.Begin (begin.StoreIncoming m (object a e m.coll))) told (Store (place.Directory m.coll m.target) (word.Directory dir.Incoming)))
store_incoming opened sh st p x calm m a e told in_n at_sec at_call h r = in_world (RecordsAgree opened sh) (apply (Store (place.Directory m.coll m.target) (word.Directory dir.Incoming)) st.memory) (put_stand st.stands p (moved sh p (st.stands p) (Inside x calm) (phase.Begin (begin.StoreIncoming m (object a e m.coll))) Go told (seen (Store (place.Directory m.coll m.target) (word.Directory dir.Incoming)) st.memory))) st.world
    (change sh p (st.stands p) (Inside x calm) (phase.Begin (begin.StoreIncoming m (object a e m.coll))) Go told (seen (Store (place.Directory m.coll m.target) (word.Directory dir.Incoming)) st.memory)).event (grind (arith, nat_tests)) (record {
      given_in = r.given_in;
      given_of = r.given_of;
      no_others = r.no_others;
      is_here = r.is_here;
      since = r.since;
      values = r.values;
      c_record = λ i c' li is. grind (arith, nat_tests, r.c_record i c' li, (calls h).c_slot p m.coll m.target in_n, (calls h).c_named p m.coll m.target a e in_n, (calls h).c_leads p m.coll m.source m.target in_n, (calls h).c_origin p m.coll m.source a e in_n, (calls h).c_source p m.coll m.source a e in_n, (calls h).c_resting p m.coll m.source a e in_n, below sh st h p in_n (begin.StoreIncoming m (object a e m.coll)) at_call, (calls h).calls p in_n, sections sh st h p in_n);
      c_values = λ i c' k' li is lt. grind (arith, nat_tests, r.c_values i c' k' li, (calls h).c_slot p m.coll m.target in_n, (calls h).c_named p m.coll m.target a e in_n, (calls h).c_leads p m.coll m.source m.target in_n, (calls h).c_origin p m.coll m.source a e in_n, (calls h).c_source p m.coll m.source a e in_n, (calls h).c_resting p m.coll m.source a e in_n, r.c_blanks p m.coll m.target (width_of sh m.coll) k' in_n, below sh st h p in_n (begin.StoreIncoming m (object a e m.coll)) at_call, (calls h).calls p in_n, sections sh st h p in_n);
      c_stored = λ i c' s' a' e' y' k' li is lt. grind (arith, nat_tests, r.c_stored i c' s' a' e' y' k' li, (calls h).c_slot p m.coll m.target in_n, (calls h).c_named p m.coll m.target a e in_n, (calls h).c_leads p m.coll m.source m.target in_n, (calls h).c_origin p m.coll m.source a e in_n, (calls h).c_source p m.coll m.source a e in_n, (calls h).c_resting p m.coll m.source a e in_n, r.c_blanks p m.coll m.target (width_of sh m.coll) k' in_n, below sh st h p in_n (begin.StoreIncoming m (object a e m.coll)) at_call, (calls h).calls p in_n, sections sh st h p in_n);
      c_blanks = λ i c' s' y' k' li is lt. grind (arith, nat_tests, r.c_blanks i c' s' y' k' li, (calls h).c_slot p m.coll m.target in_n, (calls h).c_named p m.coll m.target a e in_n, (calls h).c_leads p m.coll m.source m.target in_n, (calls h).c_origin p m.coll m.source a e in_n, (calls h).c_source p m.coll m.source a e in_n, (calls h).c_resting p m.coll m.source a e in_n, r.c_blanks p m.coll m.target (width_of sh m.coll) k' in_n, below sh st h p in_n (begin.StoreIncoming m (object a e m.coll)) at_call, (calls h).calls p in_n, sections sh st h p in_n);
      placed_record = r.placed_record;
      held_record = λ i c' a' e' s' k' li is lt. grind (arith, nat_tests, r.held_record i c' a' e' s' k' li, (calls h).c_slot p m.coll m.target in_n, (calls h).c_named p m.coll m.target a e in_n, (calls h).c_leads p m.coll m.source m.target in_n, (calls h).c_origin p m.coll m.source a e in_n, (calls h).c_source p m.coll m.source a e in_n, (calls h).c_resting p m.coll m.source a e in_n, r.c_blanks p m.coll m.target (width_of sh m.coll) k' in_n, below sh st h p in_n (begin.StoreIncoming m (object a e m.coll)) at_call, (calls h).calls p in_n, sections sh st h p in_n);
      frozen_blank = r.frozen_blank;
      locked_fields = r.locked_fields;
      j_passed = λ i c' a' e' s' k' n' li is lt. grind (arith, nat_tests, r.j_passed i c' a' e' s' k' n' li, (calls h).c_slot p m.coll m.target in_n, (calls h).c_named p m.coll m.target a e in_n, (calls h).c_leads p m.coll m.source m.target in_n, (calls h).c_origin p m.coll m.source a e in_n, (calls h).c_source p m.coll m.source a e in_n, (calls h).c_resting p m.coll m.source a e in_n, r.c_blanks p m.coll m.target (width_of sh m.coll) k' in_n, below sh st h p in_n (begin.StoreIncoming m (object a e m.coll)) at_call, (calls h).calls p in_n, sections sh st h p in_n);
      j_word = λ i c' a' e' s' f' v' n' li is lk ld. grind (arith, nat_tests, r.j_word i c' a' e' s' f' v' n' li, (calls h).c_slot p m.coll m.target in_n, (calls h).c_named p m.coll m.target a e in_n, (calls h).c_leads p m.coll m.source m.target in_n, (calls h).c_origin p m.coll m.source a e in_n, (calls h).c_source p m.coll m.source a e in_n, (calls h).c_resting p m.coll m.source a e in_n, below sh st h p in_n (begin.StoreIncoming m (object a e m.coll)) at_call, (calls h).calls p in_n, sections sh st h p in_n);
      j_fields = λ i c' a' e' s' k' n' li is lt. grind (arith, nat_tests, r.j_fields i c' a' e' s' k' n' li, (calls h).c_slot p m.coll m.target in_n, (calls h).c_named p m.coll m.target a e in_n, (calls h).c_leads p m.coll m.source m.target in_n, (calls h).c_origin p m.coll m.source a e in_n, (calls h).c_source p m.coll m.source a e in_n, (calls h).c_resting p m.coll m.source a e in_n, r.c_blanks p m.coll m.target (width_of sh m.coll) k' in_n, below sh st h p in_n (begin.StoreIncoming m (object a e m.coll)) at_call, (calls h).calls p in_n, sections sh st h p in_n);
    })

-- kind Freeze
pub freeze : (opened : ℕ) (sh : Layout) (st : S.State) (p : ℕ) (x : ℕ) (calm : Bool) (m : Walk) (a : ℕ) (e : ℕ) (told : ℕ) → p < sh.passes → (st.stands p).section ≡ Inside x calm → (st.stands p).phase ≡ phase.Begin (begin.Freeze m (object a e m.coll)) → Shut sh st → RecordsAgree opened sh st
    → RecordsAgree opened sh (did sh st p Go (Inside x calm) (phase.Begin (begin.Freeze m (object a e m.coll))) told (Exchange (place.Entry m.coll e) (word.Entry (state.Present a m.source)) (word.Entry (state.Frozen a m.source))))
freeze opened sh st p x calm m a e told in_n at_sec at_call h r = in_world (RecordsAgree opened sh) (apply (Exchange (place.Entry m.coll e) (word.Entry (state.Present a m.source)) (word.Entry (state.Frozen a m.source))) st.memory) (put_stand st.stands p (moved sh p (st.stands p) (Inside x calm) (phase.Begin (begin.Freeze m (object a e m.coll))) Go told (seen (Exchange (place.Entry m.coll e) (word.Entry (state.Present a m.source)) (word.Entry (state.Frozen a m.source))) st.memory))) st.world
    (change sh p (st.stands p) (Inside x calm) (phase.Begin (begin.Freeze m (object a e m.coll))) Go told (seen (Exchange (place.Entry m.coll e) (word.Entry (state.Present a m.source)) (word.Entry (state.Frozen a m.source))) st.memory)).event (grind (arith, nat_tests)) (record {
      given_in = λ c' a' e' is. grind (arith, nat_tests, r.given_in c' a' e', (calls h).c_named p m.coll m.target a e in_n, (calls h).c_target p m.coll m.target in_n, (calls h).c_leads p m.coll m.source m.target in_n, (calls h).c_origin p m.coll m.source a e in_n, (calls h).c_source p m.coll m.source a e in_n, (calls h).c_resting p m.coll m.source a e in_n, below sh st h p in_n (begin.Freeze m (object a e m.coll)) at_call, (calls h).calls p in_n, sections sh st h p in_n);
      given_of = λ c' a' e' is. grind (arith, nat_tests, r.given_of c' a' e', (calls h).c_named p m.coll m.target a e in_n, (calls h).c_target p m.coll m.target in_n, (calls h).c_leads p m.coll m.source m.target in_n, (calls h).c_origin p m.coll m.source a e in_n, (calls h).c_source p m.coll m.source a e in_n, (calls h).c_resting p m.coll m.source a e in_n, below sh st h p in_n (begin.Freeze m (object a e m.coll)) at_call, (calls h).calls p in_n, sections sh st h p in_n);
      no_others = r.no_others;
      is_here = λ c' a' e'. grind (arith, nat_tests, r.is_here c' a' e', (calls h).c_named p m.coll m.target a e in_n, (calls h).c_target p m.coll m.target in_n, (calls h).c_leads p m.coll m.source m.target in_n, (calls h).c_origin p m.coll m.source a e in_n, (calls h).c_source p m.coll m.source a e in_n, (calls h).c_resting p m.coll m.source a e in_n, below sh st h p in_n (begin.Freeze m (object a e m.coll)) at_call, (calls h).calls p in_n, sections sh st h p in_n);
      since = λ c' e'. grind (arith, nat_tests, r.since c' e', (calls h).c_named p m.coll m.target a e in_n, (calls h).c_target p m.coll m.target in_n, (calls h).c_leads p m.coll m.source m.target in_n, (calls h).c_origin p m.coll m.source a e in_n, (calls h).c_source p m.coll m.source a e in_n, (calls h).c_resting p m.coll m.source a e in_n, below sh st h p in_n (begin.Freeze m (object a e m.coll)) at_call, (calls h).calls p in_n, sections sh st h p in_n, r.since m.coll e);
      values = r.values;
      c_record = λ i c' li is. grind (arith, nat_tests, r.c_record i c' li, (calls h).c_named p m.coll m.target a e in_n, (calls h).c_target p m.coll m.target in_n, (calls h).c_leads p m.coll m.source m.target in_n, (calls h).c_origin p m.coll m.source a e in_n, (calls h).c_source p m.coll m.source a e in_n, (calls h).c_resting p m.coll m.source a e in_n, below sh st h p in_n (begin.Freeze m (object a e m.coll)) at_call, (calls h).calls p in_n, sections sh st h p in_n);
      c_values = λ i c' k' li is lt. grind (arith, nat_tests, r.c_values i c' k' li, (calls h).c_named p m.coll m.target a e in_n, (calls h).c_target p m.coll m.target in_n, (calls h).c_leads p m.coll m.source m.target in_n, (calls h).c_origin p m.coll m.source a e in_n, (calls h).c_source p m.coll m.source a e in_n, (calls h).c_resting p m.coll m.source a e in_n, r.c_blanks p m.coll m.target (width_of sh m.coll) k' in_n, below sh st h p in_n (begin.Freeze m (object a e m.coll)) at_call, (calls h).calls p in_n, sections sh st h p in_n);
      c_stored = λ i c' s' a' e' y' k' li is lt. grind (arith, nat_tests, r.c_stored i c' s' a' e' y' k' li, (calls h).c_named p m.coll m.target a e in_n, (calls h).c_target p m.coll m.target in_n, (calls h).c_leads p m.coll m.source m.target in_n, (calls h).c_origin p m.coll m.source a e in_n, (calls h).c_source p m.coll m.source a e in_n, (calls h).c_resting p m.coll m.source a e in_n, r.c_blanks p m.coll m.target (width_of sh m.coll) k' in_n, below sh st h p in_n (begin.Freeze m (object a e m.coll)) at_call, (calls h).calls p in_n, sections sh st h p in_n);
      c_blanks = λ i c' s' y' k' li is lt. grind (arith, nat_tests, r.c_blanks i c' s' y' k' li, (calls h).c_named p m.coll m.target a e in_n, (calls h).c_target p m.coll m.target in_n, (calls h).c_leads p m.coll m.source m.target in_n, (calls h).c_origin p m.coll m.source a e in_n, (calls h).c_source p m.coll m.source a e in_n, (calls h).c_resting p m.coll m.source a e in_n, r.c_blanks p m.coll m.target (width_of sh m.coll) k' in_n, below sh st h p in_n (begin.Freeze m (object a e m.coll)) at_call, (calls h).calls p in_n, sections sh st h p in_n);
      placed_record = λ c' a' e' s' k' is lt. grind (arith, nat_tests, r.placed_record c' a' e' s' k', (calls h).c_named p m.coll m.target a e in_n, (calls h).c_target p m.coll m.target in_n, (calls h).c_leads p m.coll m.source m.target in_n, (calls h).c_origin p m.coll m.source a e in_n, (calls h).c_source p m.coll m.source a e in_n, (calls h).c_resting p m.coll m.source a e in_n, r.c_blanks p m.coll m.target (width_of sh m.coll) k' in_n, below sh st h p in_n (begin.Freeze m (object a e m.coll)) at_call, (calls h).calls p in_n, sections sh st h p in_n);
      held_record = λ i c' a' e' s' k' li is lt. grind (arith, nat_tests, r.held_record i c' a' e' s' k' li, (calls h).c_named p m.coll m.target a e in_n, (calls h).c_target p m.coll m.target in_n, (calls h).c_leads p m.coll m.source m.target in_n, (calls h).c_origin p m.coll m.source a e in_n, (calls h).c_source p m.coll m.source a e in_n, (calls h).c_resting p m.coll m.source a e in_n, r.c_blanks p m.coll m.target (width_of sh m.coll) k' in_n, below sh st h p in_n (begin.Freeze m (object a e m.coll)) at_call, (calls h).calls p in_n, sections sh st h p in_n);
      frozen_blank = λ c' a' e' s' k' is lt. grind (arith, nat_tests, r.frozen_blank c' a' e' s' k', (calls h).c_named p m.coll m.target a e in_n, (calls h).c_target p m.coll m.target in_n, (calls h).c_leads p m.coll m.source m.target in_n, (calls h).c_origin p m.coll m.source a e in_n, (calls h).c_source p m.coll m.source a e in_n, (calls h).c_resting p m.coll m.source a e in_n, r.c_blanks p m.coll m.target (width_of sh m.coll) k' in_n, below sh st h p in_n (begin.Freeze m (object a e m.coll)) at_call, (calls h).calls p in_n, sections sh st h p in_n);
      locked_fields = λ c' a' e' s' k' is lt. grind (arith, nat_tests, r.locked_fields c' a' e' s' k', (calls h).c_named p m.coll m.target a e in_n, (calls h).c_target p m.coll m.target in_n, (calls h).c_leads p m.coll m.source m.target in_n, (calls h).c_origin p m.coll m.source a e in_n, (calls h).c_source p m.coll m.source a e in_n, (calls h).c_resting p m.coll m.source a e in_n, r.c_blanks p m.coll m.target (width_of sh m.coll) k' in_n, below sh st h p in_n (begin.Freeze m (object a e m.coll)) at_call, (calls h).calls p in_n, sections sh st h p in_n);
      j_passed = λ i c' a' e' s' k' n' li is lt. grind (arith, nat_tests, r.j_passed i c' a' e' s' k' n' li, (calls h).c_named p m.coll m.target a e in_n, (calls h).c_target p m.coll m.target in_n, (calls h).c_leads p m.coll m.source m.target in_n, (calls h).c_origin p m.coll m.source a e in_n, (calls h).c_source p m.coll m.source a e in_n, (calls h).c_resting p m.coll m.source a e in_n, r.c_blanks p m.coll m.target (width_of sh m.coll) k' in_n, below sh st h p in_n (begin.Freeze m (object a e m.coll)) at_call, (calls h).calls p in_n, sections sh st h p in_n);
      j_word = λ i c' a' e' s' f' v' n' li is lk ld. grind (arith, nat_tests, r.j_word i c' a' e' s' f' v' n' li, (calls h).c_named p m.coll m.target a e in_n, (calls h).c_target p m.coll m.target in_n, (calls h).c_leads p m.coll m.source m.target in_n, (calls h).c_origin p m.coll m.source a e in_n, (calls h).c_source p m.coll m.source a e in_n, (calls h).c_resting p m.coll m.source a e in_n, below sh st h p in_n (begin.Freeze m (object a e m.coll)) at_call, (calls h).calls p in_n, sections sh st h p in_n);
      j_fields = λ i c' a' e' s' k' n' li is lt. grind (arith, nat_tests, r.j_fields i c' a' e' s' k' n' li);
    })

-- kind LeaveSlot
pub begin_gives : (opened : ℕ) (sh : Layout) (st : S.State) (p : ℕ) (x : ℕ) (calm : Bool) (m : Walk) (told : ℕ) → p < sh.passes → (st.stands p).section ≡ Inside x calm → (st.stands p).phase ≡ phase.Begin (begin.GiveUp m) → Shut sh st → RecordsAgree opened sh st
    → RecordsAgree opened sh (did sh st p Go (Inside x calm) (phase.Begin (begin.GiveUp m)) told (Store (place.Directory m.coll m.target) (word.Directory (dir.Limbo (x + 1)))))
begin_gives opened sh st p x calm m told in_n at_sec at_call h r = in_world (RecordsAgree opened sh) (apply (Store (place.Directory m.coll m.target) (word.Directory (dir.Limbo (x + 1)))) st.memory) (put_stand st.stands p (moved sh p (st.stands p) (Inside x calm) (phase.Begin (begin.GiveUp m)) Go told (seen (Store (place.Directory m.coll m.target) (word.Directory (dir.Limbo (x + 1)))) st.memory))) st.world
    (change sh p (st.stands p) (Inside x calm) (phase.Begin (begin.GiveUp m)) Go told (seen (Store (place.Directory m.coll m.target) (word.Directory (dir.Limbo (x + 1)))) st.memory)).event (grind (arith, nat_tests)) (record {
      given_in = r.given_in;
      given_of = r.given_of;
      no_others = r.no_others;
      is_here = r.is_here;
      since = r.since;
      values = r.values;
      c_record = λ i c' li is. grind (arith, nat_tests, r.c_record i c' li, (calls h).c_target p m.coll m.target in_n, (calls h).c_leads p m.coll m.source m.target in_n, below sh st h p in_n (begin.GiveUp m) at_call, (calls h).calls p in_n, sections sh st h p in_n);
      c_values = λ i c' k' li is lt. grind (arith, nat_tests, r.c_values i c' k' li, (calls h).c_target p m.coll m.target in_n, (calls h).c_leads p m.coll m.source m.target in_n, r.c_blanks p m.coll m.target (width_of sh m.coll) k' in_n, below sh st h p in_n (begin.GiveUp m) at_call, (calls h).calls p in_n, sections sh st h p in_n);
      c_stored = λ i c' s' a' e' y' k' li is lt. grind (arith, nat_tests, r.c_stored i c' s' a' e' y' k' li, (calls h).c_target p m.coll m.target in_n, (calls h).c_leads p m.coll m.source m.target in_n, (calls h).c_loose p m.coll m.target a' e' in_n, r.c_blanks p m.coll m.target (width_of sh m.coll) k' in_n, below sh st h p in_n (begin.GiveUp m) at_call, (calls h).calls p in_n, sections sh st h p in_n);
      c_blanks = λ i c' s' y' k' li is lt. grind (arith, nat_tests, r.c_blanks i c' s' y' k' li, (calls h).c_target p m.coll m.target in_n, (calls h).c_leads p m.coll m.source m.target in_n, r.c_blanks p m.coll m.target (width_of sh m.coll) k' in_n, below sh st h p in_n (begin.GiveUp m) at_call, (calls h).calls p in_n, sections sh st h p in_n);
      placed_record = r.placed_record;
      held_record = λ i c' a' e' s' k' li is lt. grind (arith, nat_tests, r.held_record i c' a' e' s' k' li, (calls h).c_target p m.coll m.target in_n, (calls h).c_leads p m.coll m.source m.target in_n, (calls h).c_loose p m.coll m.target a' e' in_n, r.c_blanks p m.coll m.target (width_of sh m.coll) k' in_n, below sh st h p in_n (begin.GiveUp m) at_call, (calls h).calls p in_n, sections sh st h p in_n);
      frozen_blank = r.frozen_blank;
      locked_fields = r.locked_fields;
      j_passed = λ i c' a' e' s' k' n' li is lt. grind (arith, nat_tests, r.j_passed i c' a' e' s' k' n' li, (calls h).c_target p m.coll m.target in_n, (calls h).c_leads p m.coll m.source m.target in_n, (calls h).c_loose p m.coll m.target a' e' in_n, r.c_blanks p m.coll m.target (width_of sh m.coll) k' in_n, below sh st h p in_n (begin.GiveUp m) at_call, (calls h).calls p in_n, sections sh st h p in_n);
      j_word = λ i c' a' e' s' f' v' n' li is lk ld. grind (arith, nat_tests, r.j_word i c' a' e' s' f' v' n' li, (calls h).c_target p m.coll m.target in_n, (calls h).c_leads p m.coll m.source m.target in_n, (calls h).c_loose p m.coll m.target a' e' in_n, below sh st h p in_n (begin.GiveUp m) at_call, (calls h).calls p in_n, sections sh st h p in_n);
      j_fields = λ i c' a' e' s' k' n' li is lt. grind (arith, nat_tests, r.j_fields i c' a' e' s' k' n' li, (calls h).c_target p m.coll m.target in_n, (calls h).c_leads p m.coll m.source m.target in_n, (calls h).c_loose p m.coll m.target a' e' in_n, r.c_blanks p m.coll m.target (width_of sh m.coll) k' in_n, below sh st h p in_n (begin.GiveUp m) at_call, (calls h).calls p in_n, sections sh st h p in_n);
    })
