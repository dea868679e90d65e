-- Steps keep the agreement: records, helps. Written by tools/laws.py.
use Rattle.std.proofs.Common.{◌≡◌, ℕ, ◌<◌, Bool, subst, arith}
use Rattle.std.proofs.lemmas.Bool.Decides.{nat_tests}
use Rattle.smc_words.specs.declared.layout.TheConstants.{BLANK}
use Rattle.smc_shape.specs.Layout.{Layout}
use Rattle.smc_shape.specs.declared.place.Place.TheVariants as place
use Rattle.smc_core.specs.declared.call.Choice.TheVariants.{Go}
use Rattle.smc_core.specs.declared.op.Op.TheVariants.{Load, Exchange}
use Rattle.smc_core.specs.declared.phase.Phase.TheVariants as phase
use Rattle.smc_core.specs.declared.phase.objects.CopyPhase.TheVariants as copy
use Rattle.smc_core.specs.declared.phase.objects.LookPhase.TheVariants as look
use Rattle.smc_core.specs.declared.phase.objects.Seeker.{Seeker}
use Rattle.smc_core.specs.declared.section.Section.TheVariants.{Inside}
use Rattle.smc_core.specs.declared.word.State.TheVariants as state
use Rattle.smc_core.specs.declared.word.Word.TheVariants as word
use Rattle.smc_inv_range.specs.Calls.{InPhase}
use Rattle.smc_rules.specs.Reads.{field_in, object}
use Rattle.smc_rules.specs.State as S
use Rattle.smc_rules.specs.State.{put_stand}
use Rattle.smc_agreement.proofs.Whole.{Shut, ranges, calls, copies, moves, did, moved, sections}
use Rattle.smc_agreement.proofs.CrossLaws.{by_eq}
use Rattle.smc_core.specs.Change.{change}
use Rattle.smc_rules.specs.Memory.{apply, seen}
use Rattle.smc_agreement.specs.Records.{RecordsAgree}
use Rattle.smc_agreement.proofs.FieldLaws.{put_word}
use Rattle.smc_agreement.proofs.WorldViews.{in_world}

-- kind LoadForward
pub l_fwd : (opened : ℕ) (sh : Layout) (st : S.State) (p : ℕ) (x : ℕ) (calm : Bool) (who : Seeker) (c : ℕ) (a : ℕ) (e : ℕ) (q : ℕ) (told : ℕ) → p < sh.passes → (st.stands p).section ≡ Inside x calm → (st.stands p).phase ≡ phase.Look (look.Help who (object a e c) q copy.Target) → Shut sh st → RecordsAgree opened sh st
    → RecordsAgree opened sh (did sh st p Go (Inside x calm) (phase.Look (look.Help who (object a e c) q copy.Target)) told (Load (place.Forward c q)))
l_fwd opened sh st p x calm who c a e q told in_n at_sec at_call h r = in_world (RecordsAgree opened sh) (apply (Load (place.Forward c q)) st.memory) (put_stand st.stands p (moved sh p (st.stands p) (Inside x calm) (phase.Look (look.Help who (object a e c) q copy.Target)) Go told (seen (Load (place.Forward c q)) st.memory))) st.world
    (change sh p (st.stands p) (Inside x calm) (phase.Look (look.Help who (object a e c) q copy.Target)) Go told (seen (Load (place.Forward c q)) st.memory)).event (grind (arith, nat_tests)) (record {
      given_in = r.given_in;
      given_of = r.given_of;
      no_others = r.no_others;
      is_here = r.is_here;
      since = r.since;
      values = r.values;
      c_record = λ i c' li is. grind (arith, nat_tests, r.c_record i c' li, (copies h).j_named p c a e q copy.Target in_n, (copies h).j_led p c a e q copy.Target in_n, (copies h).j_entry p c a e q copy.Target in_n, (copies h).j_locked p c a e q copy.Target in_n, (copies h).j_left p c a e q copy.Target in_n, (copies h).j_for p c a e q copy.Target in_n, (copies h).j_back p c a e q copy.Target in_n, (calls h).calls p in_n, sections sh st h p in_n);
      c_values = λ i c' k' li is lt. grind (arith, nat_tests, r.c_values i c' k' li, (copies h).j_named p c a e q copy.Target in_n, (copies h).j_led p c a e q copy.Target in_n, (copies h).j_entry p c a e q copy.Target in_n, (copies h).j_locked p c a e q copy.Target in_n, (copies h).j_left p c a e q copy.Target in_n, (copies h).j_for p c a e q copy.Target in_n, (copies h).j_back p c a e q copy.Target in_n, r.j_passed p c a e q k' copy.Target in_n, r.j_fields p c a e q k' copy.Target in_n, (calls h).calls p in_n, sections sh st h p in_n);
      c_stored = λ i c' s' a' e' y' k' li is lt. grind (arith, nat_tests, r.c_stored i c' s' a' e' y' k' li, (copies h).j_named p c a e q copy.Target in_n, (copies h).j_led p c a e q copy.Target in_n, (copies h).j_entry p c a e q copy.Target in_n, (copies h).j_locked p c a e q copy.Target in_n, (copies h).j_left p c a e q copy.Target in_n, (copies h).j_for p c a e q copy.Target in_n, (copies h).j_back p c a e q copy.Target in_n, r.j_passed p c a e q k' copy.Target in_n, r.j_fields p c a e q k' copy.Target in_n, (calls h).calls p in_n, sections sh st h p in_n);
      c_blanks = λ i c' s' y' k' li is lt. grind (arith, nat_tests, r.c_blanks i c' s' y' k' li, (copies h).j_named p c a e q copy.Target in_n, (copies h).j_led p c a e q copy.Target in_n, (copies h).j_entry p c a e q copy.Target in_n, (copies h).j_locked p c a e q copy.Target in_n, (copies h).j_left p c a e q copy.Target in_n, (copies h).j_for p c a e q copy.Target in_n, (copies h).j_back p c a e q copy.Target in_n, r.j_passed p c a e q k' copy.Target in_n, r.j_fields p c a e q k' copy.Target in_n, (calls h).calls p in_n, sections sh st h p in_n);
      placed_record = r.placed_record;
      held_record = λ i c' a' e' s' k' li is lt. grind (arith, nat_tests, r.held_record i c' a' e' s' k' li, (copies h).j_named p c a e q copy.Target in_n, (copies h).j_led p c a e q copy.Target in_n, (copies h).j_entry p c a e q copy.Target in_n, (copies h).j_locked p c a e q copy.Target in_n, (copies h).j_left p c a e q copy.Target in_n, (copies h).j_for p c a e q copy.Target in_n, (copies h).j_back p c a e q copy.Target in_n, r.j_passed p c a e q k' copy.Target in_n, r.j_fields p c a e q k' copy.Target in_n, (calls h).calls p in_n, sections sh st h p in_n);
      frozen_blank = r.frozen_blank;
      locked_fields = r.locked_fields;
      j_passed = λ i c' a' e' s' k' n' li is lt. grind (arith, nat_tests, r.j_passed i c' a' e' s' k' n' li, (copies h).j_named p c a e q copy.Target in_n, (copies h).j_led p c a e q copy.Target in_n, (copies h).j_entry p c a e q copy.Target in_n, (copies h).j_locked p c a e q copy.Target in_n, (copies h).j_left p c a e q copy.Target in_n, (copies h).j_for p c a e q copy.Target in_n, (copies h).j_back p c a e q copy.Target in_n, r.j_passed p c a e q k' copy.Target in_n, r.j_fields p c a e q k' copy.Target in_n, (calls h).calls p in_n, sections sh st h p in_n);
      j_word = λ i c' a' e' s' f' v' n' li is lk ld. grind (arith, nat_tests, r.j_word i c' a' e' s' f' v' n' li, (copies h).j_named p c a e q copy.Target in_n, (copies h).j_led p c a e q copy.Target in_n, (copies h).j_entry p c a e q copy.Target in_n, (copies h).j_locked p c a e q copy.Target in_n, (copies h).j_left p c a e q copy.Target in_n, (copies h).j_for p c a e q copy.Target in_n, (copies h).j_back p c a e q copy.Target in_n, (calls h).calls p in_n, sections sh st h p in_n);
      j_fields = λ i c' a' e' s' k' n' li is lt. grind (arith, nat_tests, r.j_fields i c' a' e' s' k' n' li, (copies h).j_named p c a e q copy.Target in_n, (copies h).j_led p c a e q copy.Target in_n, (copies h).j_entry p c a e q copy.Target in_n, (copies h).j_locked p c a e q copy.Target in_n, (copies h).j_left p c a e q copy.Target in_n, (copies h).j_for p c a e q copy.Target in_n, (copies h).j_back p c a e q copy.Target in_n, r.j_passed p c a e q k' copy.Target in_n, r.j_fields p c a e q k' copy.Target in_n, (calls h).calls p in_n, sections sh st h p in_n);
    })

-- kind LoadField
pub l_read : (opened : ℕ) (sh : Layout) (st : S.State) (p : ℕ) (x : ℕ) (calm : Bool) (who : Seeker) (c : ℕ) (a : ℕ) (e : ℕ) (q : ℕ) (t : ℕ) (f : ℕ) (told : ℕ) → p < sh.passes → (st.stands p).section ≡ Inside x calm → (st.stands p).phase ≡ phase.Look (look.Help who (object a e c) q (copy.Load t f)) → Shut sh st → RecordsAgree opened sh st
    → RecordsAgree opened sh (did sh st p Go (Inside x calm) (phase.Look (look.Help who (object a e c) q (copy.Load t f))) told (Load (place.Field c q f)))
l_read opened sh st p x calm who c a e q t f told in_n at_sec at_call h r = in_world (RecordsAgree opened sh) (apply (Load (place.Field c q f)) st.memory) (put_stand st.stands p (moved sh p (st.stands p) (Inside x calm) (phase.Look (look.Help who (object a e c) q (copy.Load t f))) Go told (seen (Load (place.Field c q f)) st.memory))) st.world
    (change sh p (st.stands p) (Inside x calm) (phase.Look (look.Help who (object a e c) q (copy.Load t f))) Go told (seen (Load (place.Field c q f)) st.memory)).event (grind (arith, nat_tests)) (record {
      given_in = r.given_in;
      given_of = r.given_of;
      no_others = r.no_others;
      is_here = r.is_here;
      since = r.since;
      values = r.values;
      c_record = λ i c' li is. grind (arith, nat_tests, r.c_record i c' li, (copies h).j_named p c a e q (copy.Load t f) in_n, (copies h).j_led p c a e q (copy.Load t f) in_n, (copies h).j_entry p c a e q (copy.Load t f) in_n, (copies h).j_locked p c a e q (copy.Load t f) in_n, (copies h).j_left p c a e q (copy.Load t f) in_n, (copies h).j_for p c a e q (copy.Load t f) in_n, (copies h).j_back p c a e q (copy.Load t f) in_n, (calls h).calls p in_n, sections sh st h p in_n);
      c_values = λ i c' k' li is lt. grind (arith, nat_tests, r.c_values i c' k' li, (copies h).j_named p c a e q (copy.Load t f) in_n, (copies h).j_led p c a e q (copy.Load t f) in_n, (copies h).j_entry p c a e q (copy.Load t f) in_n, (copies h).j_locked p c a e q (copy.Load t f) in_n, (copies h).j_left p c a e q (copy.Load t f) in_n, (copies h).j_for p c a e q (copy.Load t f) in_n, (copies h).j_back p c a e q (copy.Load t f) in_n, r.j_passed p c a e q k' (copy.Load t f) in_n, r.j_fields p c a e q k' (copy.Load t f) in_n, (calls h).calls p in_n, sections sh st h p in_n);
      c_stored = λ i c' s' a' e' y' k' li is lt. grind (arith, nat_tests, r.c_stored i c' s' a' e' y' k' li, (copies h).j_named p c a e q (copy.Load t f) in_n, (copies h).j_led p c a e q (copy.Load t f) in_n, (copies h).j_entry p c a e q (copy.Load t f) in_n, (copies h).j_locked p c a e q (copy.Load t f) in_n, (copies h).j_left p c a e q (copy.Load t f) in_n, (copies h).j_for p c a e q (copy.Load t f) in_n, (copies h).j_back p c a e q (copy.Load t f) in_n, r.j_passed p c a e q k' (copy.Load t f) in_n, r.j_fields p c a e q k' (copy.Load t f) in_n, (calls h).calls p in_n, sections sh st h p in_n);
      c_blanks = λ i c' s' y' k' li is lt. grind (arith, nat_tests, r.c_blanks i c' s' y' k' li, (copies h).j_named p c a e q (copy.Load t f) in_n, (copies h).j_led p c a e q (copy.Load t f) in_n, (copies h).j_entry p c a e q (copy.Load t f) in_n, (copies h).j_locked p c a e q (copy.Load t f) in_n, (copies h).j_left p c a e q (copy.Load t f) in_n, (copies h).j_for p c a e q (copy.Load t f) in_n, (copies h).j_back p c a e q (copy.Load t f) in_n, r.j_passed p c a e q k' (copy.Load t f) in_n, r.j_fields p c a e q k' (copy.Load t f) in_n, (calls h).calls p in_n, sections sh st h p in_n);
      placed_record = r.placed_record;
      held_record = λ i c' a' e' s' k' li is lt. grind (arith, nat_tests, r.held_record i c' a' e' s' k' li, (copies h).j_named p c a e q (copy.Load t f) in_n, (copies h).j_led p c a e q (copy.Load t f) in_n, (copies h).j_entry p c a e q (copy.Load t f) in_n, (copies h).j_locked p c a e q (copy.Load t f) in_n, (copies h).j_left p c a e q (copy.Load t f) in_n, (copies h).j_for p c a e q (copy.Load t f) in_n, (copies h).j_back p c a e q (copy.Load t f) in_n, r.j_passed p c a e q k' (copy.Load t f) in_n, r.j_fields p c a e q k' (copy.Load t f) in_n, (calls h).calls p in_n, sections sh st h p in_n);
      frozen_blank = r.frozen_blank;
      locked_fields = r.locked_fields;
      j_passed = λ i c' a' e' s' k' n' li is lt. grind (arith, nat_tests, r.j_passed i c' a' e' s' k' n' li, (copies h).j_named p c a e q (copy.Load t f) in_n, (copies h).j_led p c a e q (copy.Load t f) in_n, (copies h).j_entry p c a e q (copy.Load t f) in_n, (copies h).j_locked p c a e q (copy.Load t f) in_n, (copies h).j_left p c a e q (copy.Load t f) in_n, (copies h).j_for p c a e q (copy.Load t f) in_n, (copies h).j_back p c a e q (copy.Load t f) in_n, r.j_passed p c a e q k' (copy.Load t f) in_n, r.j_fields p c a e q k' (copy.Load t f) in_n, (calls h).calls p in_n, sections sh st h p in_n);
      j_word = λ i c' a' e' s' f' v' n' li is lk ld. grind (arith, nat_tests, r.j_word i c' a' e' s' f' v' n' li, (copies h).j_named p c a e q (copy.Load t f) in_n, (copies h).j_led p c a e q (copy.Load t f) in_n, (copies h).j_entry p c a e q (copy.Load t f) in_n, (copies h).j_locked p c a e q (copy.Load t f) in_n, (copies h).j_left p c a e q (copy.Load t f) in_n, (copies h).j_for p c a e q (copy.Load t f) in_n, (copies h).j_back p c a e q (copy.Load t f) in_n, (calls h).calls p in_n, sections sh st h p in_n);
      j_fields = λ i c' a' e' s' k' n' li is lt. grind (arith, nat_tests, r.j_fields i c' a' e' s' k' n' li, (copies h).j_named p c a e q (copy.Load t f) in_n, (copies h).j_led p c a e q (copy.Load t f) in_n, (copies h).j_entry p c a e q (copy.Load t f) in_n, (copies h).j_locked p c a e q (copy.Load t f) in_n, (copies h).j_left p c a e q (copy.Load t f) in_n, (copies h).j_for p c a e q (copy.Load t f) in_n, (copies h).j_back p c a e q (copy.Load t f) in_n, r.j_passed p c a e q k' (copy.Load t f) in_n, r.j_fields p c a e q k' (copy.Load t f) in_n, (calls h).calls p in_n, sections sh st h p in_n);
    })

-- kind CopyField
pub l_put : (opened : ℕ) (sh : Layout) (st : S.State) (p : ℕ) (x : ℕ) (calm : Bool) (who : Seeker) (c : ℕ) (a : ℕ) (e : ℕ) (q : ℕ) (t : ℕ) (f : ℕ) (w : ℕ) (told : ℕ) → p < sh.passes → (st.stands p).section ≡ Inside x calm → (st.stands p).phase ≡ phase.Look (look.Help who (object a e c) q (copy.Put t f w)) → Shut sh st → RecordsAgree opened sh st
    → RecordsAgree opened sh (did sh st p Go (Inside x calm) (phase.Look (look.Help who (object a e c) q (copy.Put t f w))) told (Exchange (place.Field c t f) (word.Plain BLANK) (word.Plain w)))
l_put opened sh st p x calm who c a e q t f w told in_n at_sec at_call h r = in_world (RecordsAgree opened sh) (apply (Exchange (place.Field c t f) (word.Plain BLANK) (word.Plain w)) st.memory) (put_stand st.stands p (moved sh p (st.stands p) (Inside x calm) (phase.Look (look.Help who (object a e c) q (copy.Put t f w))) Go told (seen (Exchange (place.Field c t f) (word.Plain BLANK) (word.Plain w)) st.memory))) st.world
    (change sh p (st.stands p) (Inside x calm) (phase.Look (look.Help who (object a e c) q (copy.Put t f w))) Go told (seen (Exchange (place.Field c t f) (word.Plain BLANK) (word.Plain w)) st.memory)).event (grind (arith, nat_tests)) (record {
      given_in = r.given_in;
      given_of = r.given_of;
      no_others = r.no_others;
      is_here = r.is_here;
      since = r.since;
      values = r.values;
      c_record = λ i c' li is. grind (arith, nat_tests, r.c_record i c' li, (copies h).j_named p c a e q (copy.Put t f w) in_n, (copies h).j_led p c a e q (copy.Put t f w) in_n, (copies h).j_entry p c a e q (copy.Put t f w) in_n, (copies h).j_locked p c a e q (copy.Put t f w) in_n, (copies h).j_left p c a e q (copy.Put t f w) in_n, (copies h).j_for p c a e q (copy.Put t f w) in_n, (copies h).j_back p c a e q (copy.Put t f w) in_n, r.j_word p c a e q f w (copy.Put t f w) in_n, (calls h).calls p in_n, sections sh st h p in_n);
      c_values = λ i c' k' li is lt. grind (arith, nat_tests, r.c_values i c' k' li, (copies h).j_named p c a e q (copy.Put t f w) in_n, (copies h).j_led p c a e q (copy.Put t f w) in_n, (copies h).j_entry p c a e q (copy.Put t f w) in_n, (copies h).j_locked p c a e q (copy.Put t f w) in_n, (copies h).j_left p c a e q (copy.Put t f w) in_n, (copies h).j_for p c a e q (copy.Put t f w) in_n, (copies h).j_back p c a e q (copy.Put t f w) in_n, r.j_passed p c a e q k' (copy.Put t f w) in_n, r.j_fields p c a e q k' (copy.Put t f w) in_n, r.j_word p c a e q f w (copy.Put t f w) in_n, (calls h).calls p in_n, sections sh st h p in_n);
      c_stored = λ i c' s' a' e' y' k' li is lt. grind (arith, nat_tests, r.c_stored i c' s' a' e' y' k' li, (copies h).j_named p c a e q (copy.Put t f w) in_n, (copies h).j_led p c a e q (copy.Put t f w) in_n, (copies h).j_entry p c a e q (copy.Put t f w) in_n, (copies h).j_locked p c a e q (copy.Put t f w) in_n, (copies h).j_left p c a e q (copy.Put t f w) in_n, (copies h).j_for p c a e q (copy.Put t f w) in_n, (copies h).j_back p c a e q (copy.Put t f w) in_n, r.j_passed p c a e q k' (copy.Put t f w) in_n, r.j_fields p c a e q k' (copy.Put t f w) in_n, r.j_word p c a e q f w (copy.Put t f w) in_n, (calls h).calls p in_n, sections sh st h p in_n, r.c_values i c' k' li, (calls h).c_slot i c' s' li);
      c_blanks = λ i c' s' y' k' li is lt. grind (arith, nat_tests, r.c_blanks i c' s' y' k' li, (copies h).j_named p c a e q (copy.Put t f w) in_n, (copies h).j_led p c a e q (copy.Put t f w) in_n, (copies h).j_entry p c a e q (copy.Put t f w) in_n, (copies h).j_locked p c a e q (copy.Put t f w) in_n, (copies h).j_left p c a e q (copy.Put t f w) in_n, (copies h).j_for p c a e q (copy.Put t f w) in_n, (copies h).j_back p c a e q (copy.Put t f w) in_n, r.j_passed p c a e q k' (copy.Put t f w) in_n, r.j_fields p c a e q k' (copy.Put t f w) in_n, r.j_word p c a e q f w (copy.Put t f w) in_n, (calls h).calls p in_n, sections sh st h p in_n, (moves h).locked_owner i c a e q li, (calls h).calls i li, r.j_fields p c a e q f (copy.Put t f w) in_n, (calls h).c_slot i c' s' li);
      placed_record = λ c' a' e' s' k' is lt. grind (arith, nat_tests, r.placed_record c' a' e' s' k', (copies h).j_named p c a e q (copy.Put t f w) in_n, (copies h).j_led p c a e q (copy.Put t f w) in_n, (copies h).j_entry p c a e q (copy.Put t f w) in_n, (copies h).j_locked p c a e q (copy.Put t f w) in_n, (copies h).j_left p c a e q (copy.Put t f w) in_n, (copies h).j_for p c a e q (copy.Put t f w) in_n, (copies h).j_back p c a e q (copy.Put t f w) in_n, r.j_passed p c a e q k' (copy.Put t f w) in_n, r.j_fields p c a e q k' (copy.Put t f w) in_n, r.j_word p c a e q f w (copy.Put t f w) in_n, (calls h).calls p in_n, sections sh st h p in_n, r.values c' a' e' k' (field_in st.memory c' s' k'));
      held_record = λ i c' a' e' s' k' li is lt. grind (arith, nat_tests, r.held_record i c' a' e' s' k' li, (copies h).j_named p c a e q (copy.Put t f w) in_n, (copies h).j_led p c a e q (copy.Put t f w) in_n, (copies h).j_entry p c a e q (copy.Put t f w) in_n, (copies h).j_locked p c a e q (copy.Put t f w) in_n, (copies h).j_left p c a e q (copy.Put t f w) in_n, (copies h).j_for p c a e q (copy.Put t f w) in_n, (copies h).j_back p c a e q (copy.Put t f w) in_n, r.j_passed p c a e q k' (copy.Put t f w) in_n, r.j_fields p c a e q k' (copy.Put t f w) in_n, r.j_word p c a e q f w (copy.Put t f w) in_n, (calls h).calls p in_n, sections sh st h p in_n, r.values c' a' e' k' (field_in st.memory c' s' k'));
      frozen_blank = λ c' a' e' s' k' is lt. grind (arith, nat_tests, r.frozen_blank c' a' e' s' k', (copies h).j_named p c a e q (copy.Put t f w) in_n, (copies h).j_led p c a e q (copy.Put t f w) in_n, (copies h).j_entry p c a e q (copy.Put t f w) in_n, (copies h).j_locked p c a e q (copy.Put t f w) in_n, (copies h).j_left p c a e q (copy.Put t f w) in_n, (copies h).j_for p c a e q (copy.Put t f w) in_n, (copies h).j_back p c a e q (copy.Put t f w) in_n, r.j_passed p c a e q k' (copy.Put t f w) in_n, r.j_fields p c a e q k' (copy.Put t f w) in_n, r.j_word p c a e q f w (copy.Put t f w) in_n, (calls h).calls p in_n, sections sh st h p in_n, (moves h).frozen c' a' e' s', r.j_fields p c a e q f (copy.Put t f w) in_n);
      locked_fields = λ c' a' e' s' k' is lt. grind (arith, nat_tests, r.locked_fields c' a' e' s' k', (copies h).j_named p c a e q (copy.Put t f w) in_n, (copies h).j_led p c a e q (copy.Put t f w) in_n, (copies h).j_entry p c a e q (copy.Put t f w) in_n, (copies h).j_locked p c a e q (copy.Put t f w) in_n, (copies h).j_left p c a e q (copy.Put t f w) in_n, (copies h).j_for p c a e q (copy.Put t f w) in_n, (copies h).j_back p c a e q (copy.Put t f w) in_n, r.j_passed p c a e q k' (copy.Put t f w) in_n, r.j_fields p c a e q k' (copy.Put t f w) in_n, r.j_word p c a e q f w (copy.Put t f w) in_n, (calls h).calls p in_n, sections sh st h p in_n, (moves h).locked c' a' e' s', r.placed_record c' a' e' s' k', r.values c' a' e' k' (field_in st.memory c' s' k'));
      j_passed = λ i c' a' e' s' k' n' li is lt. grind (arith, nat_tests, r.j_passed i c' a' e' s' k' n' li, (copies h).j_named p c a e q (copy.Put t f w) in_n, (copies h).j_led p c a e q (copy.Put t f w) in_n, (copies h).j_entry p c a e q (copy.Put t f w) in_n, (copies h).j_locked p c a e q (copy.Put t f w) in_n, (copies h).j_left p c a e q (copy.Put t f w) in_n, (copies h).j_for p c a e q (copy.Put t f w) in_n, (copies h).j_back p c a e q (copy.Put t f w) in_n, r.j_passed p c a e q k' (copy.Put t f w) in_n, r.j_fields p c a e q k' (copy.Put t f w) in_n, r.j_word p c a e q f w (copy.Put t f w) in_n, (calls h).calls p in_n, sections sh st h p in_n, put_word sh st h opened r p c a e q t f w in_n);
      j_word = λ i c' a' e' s' f' v' n' li is lk ld. grind (arith, nat_tests, r.j_word i c' a' e' s' f' v' n' li, (copies h).j_named p c a e q (copy.Put t f w) in_n, (copies h).j_led p c a e q (copy.Put t f w) in_n, (copies h).j_entry p c a e q (copy.Put t f w) in_n, (copies h).j_locked p c a e q (copy.Put t f w) in_n, (copies h).j_left p c a e q (copy.Put t f w) in_n, (copies h).j_for p c a e q (copy.Put t f w) in_n, (copies h).j_back p c a e q (copy.Put t f w) in_n, r.j_word p c a e q f w (copy.Put t f w) in_n, (calls h).calls p in_n, sections sh st h p in_n, r.placed_record c' a' e' s' f', r.values c' a' e' f' (field_in st.memory c' s' f'), (copies h).j_locked i c' a' e' s' n' li, r.j_fields p c a e q f (copy.Put t f w) in_n, (subst (InPhase sh (st.stands p).words) at_call ((ranges h).stands p in_n).phase).3.1, (moves h).locked c a e q);
      j_fields = λ i c' a' e' s' k' n' li is lt. by_eq i p (λ y. grind (arith, nat_tests, put_word sh st h opened r p c a e q t f w in_n (grind (arith, at_call)), r.j_fields p c a e q k' (copy.Put t f w) in_n, (copies h).j_led p c a e q (copy.Put t f w) in_n)) (λ n. grind (arith, nat_tests, put_word sh st h opened r p c a e q t f w in_n (grind (arith, at_call)), r.j_fields i c' a' e' s' k' n' li));
    })

-- kind Swing
pub l_swing : (opened : ℕ) (sh : Layout) (st : S.State) (p : ℕ) (x : ℕ) (calm : Bool) (who : Seeker) (c : ℕ) (a : ℕ) (e : ℕ) (q : ℕ) (t : ℕ) (told : ℕ) → p < sh.passes → (st.stands p).section ≡ Inside x calm → (st.stands p).phase ≡ phase.Look (look.Help who (object a e c) q (copy.Swing t)) → Shut sh st → RecordsAgree opened sh st
    → RecordsAgree opened sh (did sh st p Go (Inside x calm) (phase.Look (look.Help who (object a e c) q (copy.Swing t))) told (Exchange (place.Entry c e) (word.Entry (state.Locked a q)) (word.Entry (state.Present a t))))
l_swing opened sh st p x calm who c a e q t told in_n at_sec at_call h r = in_world (RecordsAgree opened sh) (apply (Exchange (place.Entry c e) (word.Entry (state.Locked a q)) (word.Entry (state.Present a t))) st.memory) (put_stand st.stands p (moved sh p (st.stands p) (Inside x calm) (phase.Look (look.Help who (object a e c) q (copy.Swing t))) Go told (seen (Exchange (place.Entry c e) (word.Entry (state.Locked a q)) (word.Entry (state.Present a t))) st.memory))) st.world
    (change sh p (st.stands p) (Inside x calm) (phase.Look (look.Help who (object a e c) q (copy.Swing t))) Go told (seen (Exchange (place.Entry c e) (word.Entry (state.Locked a q)) (word.Entry (state.Present a t))) st.memory)).event (grind (arith, nat_tests)) (record {
      given_in = λ c' a' e' is. grind (arith, nat_tests, r.given_in c' a' e', (copies h).j_named p c a e q (copy.Swing t) in_n, (copies h).j_led p c a e q (copy.Swing t) in_n, (copies h).j_entry p c a e q (copy.Swing t) in_n, (copies h).j_locked p c a e q (copy.Swing t) in_n, (copies h).j_left p c a e q (copy.Swing t) in_n, (copies h).j_for p c a e q (copy.Swing t) in_n, (copies h).j_back p c a e q (copy.Swing t) in_n, (calls h).calls p in_n, sections sh st h p in_n);
      given_of = λ c' a' e' is. grind (arith, nat_tests, r.given_of c' a' e', (copies h).j_named p c a e q (copy.Swing t) in_n, (copies h).j_led p c a e q (copy.Swing t) in_n, (copies h).j_entry p c a e q (copy.Swing t) in_n, (copies h).j_locked p c a e q (copy.Swing t) in_n, (copies h).j_left p c a e q (copy.Swing t) in_n, (copies h).j_for p c a e q (copy.Swing t) in_n, (copies h).j_back p c a e q (copy.Swing t) in_n, (calls h).calls p in_n, sections sh st h p in_n);
      no_others = r.no_others;
      is_here = λ c' a' e'. grind (arith, nat_tests, r.is_here c' a' e', (copies h).j_named p c a e q (copy.Swing t) in_n, (copies h).j_led p c a e q (copy.Swing t) in_n, (copies h).j_entry p c a e q (copy.Swing t) in_n, (copies h).j_locked p c a e q (copy.Swing t) in_n, (copies h).j_left p c a e q (copy.Swing t) in_n, (copies h).j_for p c a e q (copy.Swing t) in_n, (copies h).j_back p c a e q (copy.Swing t) in_n, (calls h).calls p in_n, sections sh st h p in_n);
      since = λ c' e'. grind (arith, nat_tests, r.since c' e', (copies h).j_named p c a e q (copy.Swing t) in_n, (copies h).j_led p c a e q (copy.Swing t) in_n, (copies h).j_entry p c a e q (copy.Swing t) in_n, (copies h).j_locked p c a e q (copy.Swing t) in_n, (copies h).j_left p c a e q (copy.Swing t) in_n, (copies h).j_for p c a e q (copy.Swing t) in_n, (copies h).j_back p c a e q (copy.Swing t) in_n, (calls h).calls p in_n, sections sh st h p in_n, r.since c e);
      values = r.values;
      c_record = λ i c' li is. grind (arith, nat_tests, r.c_record i c' li, (copies h).j_named p c a e q (copy.Swing t) in_n, (copies h).j_led p c a e q (copy.Swing t) in_n, (copies h).j_entry p c a e q (copy.Swing t) in_n, (copies h).j_locked p c a e q (copy.Swing t) in_n, (copies h).j_left p c a e q (copy.Swing t) in_n, (copies h).j_for p c a e q (copy.Swing t) in_n, (copies h).j_back p c a e q (copy.Swing t) in_n, (calls h).calls p in_n, sections sh st h p in_n);
      c_values = λ i c' k' li is lt. grind (arith, nat_tests, r.c_values i c' k' li, (copies h).j_named p c a e q (copy.Swing t) in_n, (copies h).j_led p c a e q (copy.Swing t) in_n, (copies h).j_entry p c a e q (copy.Swing t) in_n, (copies h).j_locked p c a e q (copy.Swing t) in_n, (copies h).j_left p c a e q (copy.Swing t) in_n, (copies h).j_for p c a e q (copy.Swing t) in_n, (copies h).j_back p c a e q (copy.Swing t) in_n, r.j_passed p c a e q k' (copy.Swing t) in_n, r.j_fields p c a e q k' (copy.Swing t) in_n, (calls h).calls p in_n, sections sh st h p in_n);
      c_stored = λ i c' s' a' e' y' k' li is lt. grind (arith, nat_tests, r.c_stored i c' s' a' e' y' k' li, (copies h).j_named p c a e q (copy.Swing t) in_n, (copies h).j_led p c a e q (copy.Swing t) in_n, (copies h).j_entry p c a e q (copy.Swing t) in_n, (copies h).j_locked p c a e q (copy.Swing t) in_n, (copies h).j_left p c a e q (copy.Swing t) in_n, (copies h).j_for p c a e q (copy.Swing t) in_n, (copies h).j_back p c a e q (copy.Swing t) in_n, r.j_passed p c a e q k' (copy.Swing t) in_n, r.j_fields p c a e q k' (copy.Swing t) in_n, (calls h).calls p in_n, sections sh st h p in_n);
      c_blanks = λ i c' s' y' k' li is lt. grind (arith, nat_tests, r.c_blanks i c' s' y' k' li, (copies h).j_named p c a e q (copy.Swing t) in_n, (copies h).j_led p c a e q (copy.Swing t) in_n, (copies h).j_entry p c a e q (copy.Swing t) in_n, (copies h).j_locked p c a e q (copy.Swing t) in_n, (copies h).j_left p c a e q (copy.Swing t) in_n, (copies h).j_for p c a e q (copy.Swing t) in_n, (copies h).j_back p c a e q (copy.Swing t) in_n, r.j_passed p c a e q k' (copy.Swing t) in_n, r.j_fields p c a e q k' (copy.Swing t) in_n, (calls h).calls p in_n, sections sh st h p in_n);
      placed_record = λ c' a' e' s' k' is lt. grind (arith, nat_tests, r.placed_record c' a' e' s' k', (copies h).j_named p c a e q (copy.Swing t) in_n, (copies h).j_led p c a e q (copy.Swing t) in_n, (copies h).j_entry p c a e q (copy.Swing t) in_n, (copies h).j_locked p c a e q (copy.Swing t) in_n, (copies h).j_left p c a e q (copy.Swing t) in_n, (copies h).j_for p c a e q (copy.Swing t) in_n, (copies h).j_back p c a e q (copy.Swing t) in_n, r.j_passed p c a e q k' (copy.Swing t) in_n, r.j_fields p c a e q k' (copy.Swing t) in_n, (calls h).calls p in_n, sections sh st h p in_n, r.locked_fields c a e q k', r.placed_record c a e q k');
      held_record = λ i c' a' e' s' k' li is lt. grind (arith, nat_tests, r.held_record i c' a' e' s' k' li, (copies h).j_named p c a e q (copy.Swing t) in_n, (copies h).j_led p c a e q (copy.Swing t) in_n, (copies h).j_entry p c a e q (copy.Swing t) in_n, (copies h).j_locked p c a e q (copy.Swing t) in_n, (copies h).j_left p c a e q (copy.Swing t) in_n, (copies h).j_for p c a e q (copy.Swing t) in_n, (copies h).j_back p c a e q (copy.Swing t) in_n, r.j_passed p c a e q k' (copy.Swing t) in_n, r.j_fields p c a e q k' (copy.Swing t) in_n, (calls h).calls p in_n, sections sh st h p in_n, r.locked_fields c a e q k', r.placed_record c a e q k', r.placed_record c' a' e' s' k');
      frozen_blank = λ c' a' e' s' k' is lt. grind (arith, nat_tests, r.frozen_blank c' a' e' s' k', (copies h).j_named p c a e q (copy.Swing t) in_n, (copies h).j_led p c a e q (copy.Swing t) in_n, (copies h).j_entry p c a e q (copy.Swing t) in_n, (copies h).j_locked p c a e q (copy.Swing t) in_n, (copies h).j_left p c a e q (copy.Swing t) in_n, (copies h).j_for p c a e q (copy.Swing t) in_n, (copies h).j_back p c a e q (copy.Swing t) in_n, r.j_passed p c a e q k' (copy.Swing t) in_n, r.j_fields p c a e q k' (copy.Swing t) in_n, (calls h).calls p in_n, sections sh st h p in_n);
      locked_fields = λ c' a' e' s' k' is lt. grind (arith, nat_tests, r.locked_fields c' a' e' s' k', (copies h).j_named p c a e q (copy.Swing t) in_n, (copies h).j_led p c a e q (copy.Swing t) in_n, (copies h).j_entry p c a e q (copy.Swing t) in_n, (copies h).j_locked p c a e q (copy.Swing t) in_n, (copies h).j_left p c a e q (copy.Swing t) in_n, (copies h).j_for p c a e q (copy.Swing t) in_n, (copies h).j_back p c a e q (copy.Swing t) in_n, r.j_passed p c a e q k' (copy.Swing t) in_n, r.j_fields p c a e q k' (copy.Swing t) in_n, (calls h).calls p in_n, sections sh st h p in_n);
      j_passed = λ i c' a' e' s' k' n' li is lt. grind (arith, nat_tests, r.j_passed i c' a' e' s' k' n' li, (copies h).j_named p c a e q (copy.Swing t) in_n, (copies h).j_led p c a e q (copy.Swing t) in_n, (copies h).j_entry p c a e q (copy.Swing t) in_n, (copies h).j_locked p c a e q (copy.Swing t) in_n, (copies h).j_left p c a e q (copy.Swing t) in_n, (copies h).j_for p c a e q (copy.Swing t) in_n, (copies h).j_back p c a e q (copy.Swing t) in_n, r.j_passed p c a e q k' (copy.Swing t) in_n, r.j_fields p c a e q k' (copy.Swing t) in_n, (calls h).calls p in_n, sections sh st h p in_n);
      j_word = λ i c' a' e' s' f' v' n' li is lk ld. grind (arith, nat_tests, r.j_word i c' a' e' s' f' v' n' li, (copies h).j_named p c a e q (copy.Swing t) in_n, (copies h).j_led p c a e q (copy.Swing t) in_n, (copies h).j_entry p c a e q (copy.Swing t) in_n, (copies h).j_locked p c a e q (copy.Swing t) in_n, (copies h).j_left p c a e q (copy.Swing t) in_n, (copies h).j_for p c a e q (copy.Swing t) in_n, (copies h).j_back p c a e q (copy.Swing t) in_n, (calls h).calls p in_n, sections sh st h p in_n);
      j_fields = λ i c' a' e' s' k' n' li is lt. grind (arith, nat_tests, r.j_fields i c' a' e' s' k' n' li, (copies h).j_entry i c' a' e' s' n' li, r.j_passed p c a e q k' (copy.Swing t) in_n, (copies h).j_led p c a e q (copy.Swing t) in_n, (copies h).j_led i c' a' e' s' n' li);
    })
