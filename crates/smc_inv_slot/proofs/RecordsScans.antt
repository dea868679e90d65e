-- Steps keep the agreement: records, scans. Written by tools/laws.py.
use Rattle.std.proofs.Common.{◌≡◌, ℕ, ◌<◌, Bool, true, false, Some, arith}
use Rattle.std.proofs.lemmas.Bool.Decides.{nat_tests}
use Rattle.smc_shape.specs.Layout.{Layout}
use Rattle.smc_shape.specs.declared.place.Place.TheVariants as place
use Rattle.smc_core.specs.declared.call.Call.TheVariants as call
use Rattle.smc_core.specs.declared.call.Choice.TheVariants.{Start, Go}
use Rattle.smc_core.specs.declared.local.Scan.{Scan}
use Rattle.smc_core.specs.declared.op.Op.TheVariants.{Load}
use Rattle.smc_core.specs.declared.phase.Phase.TheVariants as phase
use Rattle.smc_core.specs.declared.phase.moves.Count.{Count}
use Rattle.smc_core.specs.declared.phase.moves.CountPhase.TheVariants as walk
use Rattle.smc_core.specs.declared.phase.objects.ScanPhase.TheVariants as scan
use Rattle.smc_core.specs.declared.section.Section.TheVariants.{Inside}
use Rattle.smc_core.specs.Scan.{scan_of, is_over}
use Rattle.smc_rules.specs.Reads.{object}
use Rattle.smc_rules.specs.State as S
use Rattle.smc_rules.specs.State.{put_stand}
use Rattle.smc_agreement.proofs.Whole.{Shut, calls, did, moved, sections}
use Rattle.smc_core.specs.Change.{change}
use Rattle.smc_rules.specs.Memory.{apply, seen}
use Rattle.smc_agreement.specs.Records.{RecordsAgree}
use Rattle.smc_agreement.proofs.WorldViews.{in_world}

-- kind LoadSection
pub starts_scan : (opened : ℕ) (sh : Layout) (st : S.State) (p : ℕ) (x : ℕ) (calm : Bool) (c : ℕ) (told : ℕ) → p < sh.passes → (st.stands p).section ≡ Inside x calm → (st.stands p).phase ≡ phase.Idle → Shut sh st → RecordsAgree opened sh st
    → RecordsAgree opened sh (did sh st p (Start (call.Scan c)) (Inside x calm) phase.Idle told (Load (place.Section p)))
starts_scan opened sh st p x calm c told in_n at_sec at_call h r = in_world (RecordsAgree opened sh) (apply (Load (place.Section p)) st.memory) (put_stand st.stands p (moved sh p (st.stands p) (Inside x calm) phase.Idle (Start (call.Scan c)) told (seen (Load (place.Section p)) st.memory))) st.world
    (change sh p (st.stands p) (Inside x calm) phase.Idle (Start (call.Scan c)) told (seen (Load (place.Section p)) st.memory)).event (grind (arith, nat_tests)) (record {
      given_in = r.given_in;
      given_of = r.given_of;
      no_others = r.no_others;
      is_here = r.is_here;
      since = r.since;
      values = r.values;
      c_record = λ i c' li is. grind (arith, nat_tests, r.c_record i c' li, (calls h).calls p in_n, sections sh st h p in_n);
      c_values = λ i c' k' li is lt. grind (arith, nat_tests, r.c_values i c' k' li, (calls h).calls p in_n, sections sh st h p in_n);
      c_stored = λ i c' s' a' e' y' k' li is lt. grind (arith, nat_tests, r.c_stored i c' s' a' e' y' k' li, (calls h).calls p in_n, sections sh st h p in_n);
      c_blanks = λ i c' s' y' k' li is lt. grind (arith, nat_tests, r.c_blanks i c' s' y' k' li, (calls h).calls p in_n, sections sh st h p in_n);
      placed_record = r.placed_record;
      held_record = λ i c' a' e' s' k' li is lt. grind (arith, nat_tests, r.held_record i c' a' e' s' k' li, (calls h).calls p in_n, sections sh st h p in_n);
      frozen_blank = r.frozen_blank;
      locked_fields = r.locked_fields;
      j_passed = λ i c' a' e' s' k' n' li is lt. grind (arith, nat_tests, r.j_passed i c' a' e' s' k' n' li, (calls h).calls p in_n, sections sh st h p in_n);
      j_word = λ i c' a' e' s' f' v' n' li is lk ld. grind (arith, nat_tests, r.j_word i c' a' e' s' f' v' n' li, (calls h).calls p in_n, sections sh st h p in_n);
      j_fields = λ i c' a' e' s' k' n' li is lt. grind (arith, nat_tests, r.j_fields i c' a' e' s' k' n' li, (calls h).calls p in_n, sections sh st h p in_n);
    })

-- kind LoadSection
pub next_over : (opened : ℕ) (sh : Layout) (st : S.State) (p : ℕ) (x : ℕ) (calm : Bool) (k : ℕ) (b1 : Scan) (told : ℕ) → p < sh.passes → (st.stands p).section ≡ Inside x calm → (st.stands p).phase ≡ phase.Idle → scan_of (st.stands p).scans k ≡ Some b1 → is_over sh b1 ≡ true → Shut sh st → RecordsAgree opened sh st
    → RecordsAgree opened sh (did sh st p (Start (call.Next k)) (Inside x calm) phase.Idle told (Load (place.Section p)))
next_over opened sh st p x calm k b1 told in_n at_sec at_call pre1 pre2 h r = in_world (RecordsAgree opened sh) (apply (Load (place.Section p)) st.memory) (put_stand st.stands p (moved sh p (st.stands p) (Inside x calm) phase.Idle (Start (call.Next k)) told (seen (Load (place.Section p)) st.memory))) st.world
    (change sh p (st.stands p) (Inside x calm) phase.Idle (Start (call.Next k)) told (seen (Load (place.Section p)) st.memory)).event (grind (arith, nat_tests)) (record {
      given_in = r.given_in;
      given_of = r.given_of;
      no_others = r.no_others;
      is_here = r.is_here;
      since = r.since;
      values = r.values;
      c_record = λ i c' li is. grind (arith, nat_tests, r.c_record i c' li, (calls h).calls p in_n, sections sh st h p in_n);
      c_values = λ i c' k' li is lt. grind (arith, nat_tests, r.c_values i c' k' li, (calls h).calls p in_n, sections sh st h p in_n);
      c_stored = λ i c' s' a' e' y' k' li is lt. grind (arith, nat_tests, r.c_stored i c' s' a' e' y' k' li, (calls h).calls p in_n, sections sh st h p in_n);
      c_blanks = λ i c' s' y' k' li is lt. grind (arith, nat_tests, r.c_blanks i c' s' y' k' li, (calls h).calls p in_n, sections sh st h p in_n);
      placed_record = r.placed_record;
      held_record = λ i c' a' e' s' k' li is lt. grind (arith, nat_tests, r.held_record i c' a' e' s' k' li, (calls h).calls p in_n, sections sh st h p in_n);
      frozen_blank = r.frozen_blank;
      locked_fields = r.locked_fields;
      j_passed = λ i c' a' e' s' k' n' li is lt. grind (arith, nat_tests, r.j_passed i c' a' e' s' k' n' li, (calls h).calls p in_n, sections sh st h p in_n);
      j_word = λ i c' a' e' s' f' v' n' li is lk ld. grind (arith, nat_tests, r.j_word i c' a' e' s' f' v' n' li, (calls h).calls p in_n, sections sh st h p in_n);
      j_fields = λ i c' a' e' s' k' n' li is lt. grind (arith, nat_tests, r.j_fields i c' a' e' s' k' n' li, (calls h).calls p in_n, sections sh st h p in_n);
    })

-- kind LoadDirectory
pub next_slot : (opened : ℕ) (sh : Layout) (st : S.State) (p : ℕ) (x : ℕ) (calm : Bool) (k : ℕ) (b1 : Scan) (told : ℕ) → p < sh.passes → (st.stands p).section ≡ Inside x calm → (st.stands p).phase ≡ phase.Idle → scan_of (st.stands p).scans k ≡ Some b1 → is_over sh b1 ≡ false → Shut sh st → RecordsAgree opened sh st
    → RecordsAgree opened sh (did sh st p (Start (call.Next k)) (Inside x calm) phase.Idle told (Load (place.Directory b1.coll b1.place)))
next_slot opened sh st p x calm k b1 told in_n at_sec at_call pre1 pre2 h r = in_world (RecordsAgree opened sh) (apply (Load (place.Directory b1.coll b1.place)) st.memory) (put_stand st.stands p (moved sh p (st.stands p) (Inside x calm) phase.Idle (Start (call.Next k)) told (seen (Load (place.Directory b1.coll b1.place)) st.memory))) st.world
    (change sh p (st.stands p) (Inside x calm) phase.Idle (Start (call.Next k)) told (seen (Load (place.Directory b1.coll b1.place)) st.memory)).event (grind (arith, nat_tests)) (record {
      given_in = r.given_in;
      given_of = r.given_of;
      no_others = r.no_others;
      is_here = r.is_here;
      since = r.since;
      values = r.values;
      c_record = λ i c' li is. grind (arith, nat_tests, r.c_record i c' li, (calls h).calls p in_n, sections sh st h p in_n);
      c_values = λ i c' k' li is lt. grind (arith, nat_tests, r.c_values i c' k' li, (calls h).calls p in_n, sections sh st h p in_n);
      c_stored = λ i c' s' a' e' y' k' li is lt. grind (arith, nat_tests, r.c_stored i c' s' a' e' y' k' li, (calls h).calls p in_n, sections sh st h p in_n);
      c_blanks = λ i c' s' y' k' li is lt. grind (arith, nat_tests, r.c_blanks i c' s' y' k' li, (calls h).calls p in_n, sections sh st h p in_n);
      placed_record = r.placed_record;
      held_record = λ i c' a' e' s' k' li is lt. grind (arith, nat_tests, r.held_record i c' a' e' s' k' li, (calls h).calls p in_n, sections sh st h p in_n);
      frozen_blank = r.frozen_blank;
      locked_fields = r.locked_fields;
      j_passed = λ i c' a' e' s' k' n' li is lt. grind (arith, nat_tests, r.j_passed i c' a' e' s' k' n' li, (calls h).calls p in_n, sections sh st h p in_n);
      j_word = λ i c' a' e' s' f' v' n' li is lk ld. grind (arith, nat_tests, r.j_word i c' a' e' s' f' v' n' li, (calls h).calls p in_n, sections sh st h p in_n);
      j_fields = λ i c' a' e' s' k' n' li is lt. grind (arith, nat_tests, r.j_fields i c' a' e' s' k' n' li, (calls h).calls p in_n, sections sh st h p in_n);
    })

-- kind LoadDirectory
pub scan_dir : (opened : ℕ) (sh : Layout) (st : S.State) (p : ℕ) (x : ℕ) (calm : Bool) (k : ℕ) (c : ℕ) (t : ℕ) (told : ℕ) → p < sh.passes → (st.stands p).section ≡ Inside x calm → (st.stands p).phase ≡ phase.Scan (scan.Directory k c t) → Shut sh st → RecordsAgree opened sh st
    → RecordsAgree opened sh (did sh st p Go (Inside x calm) (phase.Scan (scan.Directory k c t)) told (Load (place.Directory c t)))
scan_dir opened sh st p x calm k c t told in_n at_sec at_call h r = in_world (RecordsAgree opened sh) (apply (Load (place.Directory c t)) st.memory) (put_stand st.stands p (moved sh p (st.stands p) (Inside x calm) (phase.Scan (scan.Directory k c t)) Go told (seen (Load (place.Directory c t)) st.memory))) st.world
    (change sh p (st.stands p) (Inside x calm) (phase.Scan (scan.Directory k c t)) Go told (seen (Load (place.Directory c t)) st.memory)).event (grind (arith, nat_tests)) (record {
      given_in = r.given_in;
      given_of = r.given_of;
      no_others = r.no_others;
      is_here = r.is_here;
      since = r.since;
      values = r.values;
      c_record = λ i c' li is. grind (arith, nat_tests, r.c_record i c' li, (calls h).calls p in_n, sections sh st h p in_n);
      c_values = λ i c' k' li is lt. grind (arith, nat_tests, r.c_values i c' k' li, (calls h).calls p in_n, sections sh st h p in_n);
      c_stored = λ i c' s' a' e' y' k' li is lt. grind (arith, nat_tests, r.c_stored i c' s' a' e' y' k' li, (calls h).calls p in_n, sections sh st h p in_n);
      c_blanks = λ i c' s' y' k' li is lt. grind (arith, nat_tests, r.c_blanks i c' s' y' k' li, (calls h).calls p in_n, sections sh st h p in_n);
      placed_record = r.placed_record;
      held_record = λ i c' a' e' s' k' li is lt. grind (arith, nat_tests, r.held_record i c' a' e' s' k' li, (calls h).calls p in_n, sections sh st h p in_n);
      frozen_blank = r.frozen_blank;
      locked_fields = r.locked_fields;
      j_passed = λ i c' a' e' s' k' n' li is lt. grind (arith, nat_tests, r.j_passed i c' a' e' s' k' n' li, (calls h).calls p in_n, sections sh st h p in_n);
      j_word = λ i c' a' e' s' f' v' n' li is lk ld. grind (arith, nat_tests, r.j_word i c' a' e' s' f' v' n' li, (calls h).calls p in_n, sections sh st h p in_n);
      j_fields = λ i c' a' e' s' k' n' li is lt. grind (arith, nat_tests, r.j_fields i c' a' e' s' k' n' li, (calls h).calls p in_n, sections sh st h p in_n);
    })

-- kind LoadBack
pub scan_back : (opened : ℕ) (sh : Layout) (st : S.State) (p : ℕ) (x : ℕ) (calm : Bool) (k : ℕ) (c : ℕ) (t : ℕ) (told : ℕ) → p < sh.passes → (st.stands p).section ≡ Inside x calm → (st.stands p).phase ≡ phase.Scan (scan.Back k c t) → Shut sh st → RecordsAgree opened sh st
    → RecordsAgree opened sh (did sh st p Go (Inside x calm) (phase.Scan (scan.Back k c t)) told (Load (place.Back c t)))
scan_back opened sh st p x calm k c t told in_n at_sec at_call h r = in_world (RecordsAgree opened sh) (apply (Load (place.Back c t)) st.memory) (put_stand st.stands p (moved sh p (st.stands p) (Inside x calm) (phase.Scan (scan.Back k c t)) Go told (seen (Load (place.Back c t)) st.memory))) st.world
    (change sh p (st.stands p) (Inside x calm) (phase.Scan (scan.Back k c t)) Go told (seen (Load (place.Back c t)) st.memory)).event (grind (arith, nat_tests)) (record {
      given_in = r.given_in;
      given_of = r.given_of;
      no_others = r.no_others;
      is_here = r.is_here;
      since = r.since;
      values = r.values;
      c_record = λ i c' li is. grind (arith, nat_tests, r.c_record i c' li, (calls h).calls p in_n, sections sh st h p in_n);
      c_values = λ i c' k' li is lt. grind (arith, nat_tests, r.c_values i c' k' li, (calls h).calls p in_n, sections sh st h p in_n);
      c_stored = λ i c' s' a' e' y' k' li is lt. grind (arith, nat_tests, r.c_stored i c' s' a' e' y' k' li, (calls h).calls p in_n, sections sh st h p in_n);
      c_blanks = λ i c' s' y' k' li is lt. grind (arith, nat_tests, r.c_blanks i c' s' y' k' li, (calls h).calls p in_n, sections sh st h p in_n);
      placed_record = r.placed_record;
      held_record = λ i c' a' e' s' k' li is lt. grind (arith, nat_tests, r.held_record i c' a' e' s' k' li, (calls h).calls p in_n, sections sh st h p in_n);
      frozen_blank = r.frozen_blank;
      locked_fields = r.locked_fields;
      j_passed = λ i c' a' e' s' k' n' li is lt. grind (arith, nat_tests, r.j_passed i c' a' e' s' k' n' li, (calls h).calls p in_n, sections sh st h p in_n);
      j_word = λ i c' a' e' s' f' v' n' li is lk ld. grind (arith, nat_tests, r.j_word i c' a' e' s' f' v' n' li, (calls h).calls p in_n, sections sh st h p in_n);
      j_fields = λ i c' a' e' s' k' n' li is lt. grind (arith, nat_tests, r.j_fields i c' a' e' s' k' n' li, (calls h).calls p in_n, sections sh st h p in_n);
    })

-- kind LoadSection
pub scan_end : (opened : ℕ) (sh : Layout) (st : S.State) (p : ℕ) (x : ℕ) (calm : Bool) (k : ℕ) (told : ℕ) → p < sh.passes → (st.stands p).section ≡ Inside x calm → (st.stands p).phase ≡ phase.Scan (scan.End k) → Shut sh st → RecordsAgree opened sh st
    → RecordsAgree opened sh (did sh st p Go (Inside x calm) (phase.Scan (scan.End k)) told (Load (place.Section p)))
scan_end opened sh st p x calm k told in_n at_sec at_call h r = in_world (RecordsAgree opened sh) (apply (Load (place.Section p)) st.memory) (put_stand st.stands p (moved sh p (st.stands p) (Inside x calm) (phase.Scan (scan.End k)) Go told (seen (Load (place.Section p)) st.memory))) st.world
    (change sh p (st.stands p) (Inside x calm) (phase.Scan (scan.End k)) Go told (seen (Load (place.Section p)) st.memory)).event (grind (arith, nat_tests)) (record {
      given_in = r.given_in;
      given_of = r.given_of;
      no_others = r.no_others;
      is_here = r.is_here;
      since = r.since;
      values = r.values;
      c_record = λ i c' li is. grind (arith, nat_tests, r.c_record i c' li, (calls h).calls p in_n, sections sh st h p in_n);
      c_values = λ i c' k' li is lt. grind (arith, nat_tests, r.c_values i c' k' li, (calls h).calls p in_n, sections sh st h p in_n);
      c_stored = λ i c' s' a' e' y' k' li is lt. grind (arith, nat_tests, r.c_stored i c' s' a' e' y' k' li, (calls h).calls p in_n, sections sh st h p in_n);
      c_blanks = λ i c' s' y' k' li is lt. grind (arith, nat_tests, r.c_blanks i c' s' y' k' li, (calls h).calls p in_n, sections sh st h p in_n);
      placed_record = r.placed_record;
      held_record = λ i c' a' e' s' k' li is lt. grind (arith, nat_tests, r.held_record i c' a' e' s' k' li, (calls h).calls p in_n, sections sh st h p in_n);
      frozen_blank = r.frozen_blank;
      locked_fields = r.locked_fields;
      j_passed = λ i c' a' e' s' k' n' li is lt. grind (arith, nat_tests, r.j_passed i c' a' e' s' k' n' li, (calls h).calls p in_n, sections sh st h p in_n);
      j_word = λ i c' a' e' s' f' v' n' li is lk ld. grind (arith, nat_tests, r.j_word i c' a' e' s' f' v' n' li, (calls h).calls p in_n, sections sh st h p in_n);
      j_fields = λ i c' a' e' s' k' n' li is lt. grind (arith, nat_tests, r.j_fields i c' a' e' s' k' n' li, (calls h).calls p in_n, sections sh st h p in_n);
    })

-- kind LoadDirectory
pub survey : (opened : ℕ) (sh : Layout) (st : S.State) (p : ℕ) (x : ℕ) (calm : Bool) (c : ℕ) (told : ℕ) → p < sh.passes → (st.stands p).section ≡ Inside x calm → (st.stands p).phase ≡ phase.Idle → Shut sh st → RecordsAgree opened sh st
    → RecordsAgree opened sh (did sh st p (Start (call.Survey c)) (Inside x calm) phase.Idle told (Load (place.Directory c 0)))
survey opened sh st p x calm c told in_n at_sec at_call h r = in_world (RecordsAgree opened sh) (apply (Load (place.Directory c 0)) st.memory) (put_stand st.stands p (moved sh p (st.stands p) (Inside x calm) phase.Idle (Start (call.Survey c)) told (seen (Load (place.Directory c 0)) st.memory))) st.world
    (change sh p (st.stands p) (Inside x calm) phase.Idle (Start (call.Survey c)) told (seen (Load (place.Directory c 0)) st.memory)).event (grind (arith, nat_tests)) (record {
      given_in = r.given_in;
      given_of = r.given_of;
      no_others = r.no_others;
      is_here = r.is_here;
      since = r.since;
      values = r.values;
      c_record = λ i c' li is. grind (arith, nat_tests, r.c_record i c' li, (calls h).calls p in_n, sections sh st h p in_n);
      c_values = λ i c' k' li is lt. grind (arith, nat_tests, r.c_values i c' k' li, (calls h).calls p in_n, sections sh st h p in_n);
      c_stored = λ i c' s' a' e' y' k' li is lt. grind (arith, nat_tests, r.c_stored i c' s' a' e' y' k' li, (calls h).calls p in_n, sections sh st h p in_n);
      c_blanks = λ i c' s' y' k' li is lt. grind (arith, nat_tests, r.c_blanks i c' s' y' k' li, (calls h).calls p in_n, sections sh st h p in_n);
      placed_record = r.placed_record;
      held_record = λ i c' a' e' s' k' li is lt. grind (arith, nat_tests, r.held_record i c' a' e' s' k' li, (calls h).calls p in_n, sections sh st h p in_n);
      frozen_blank = r.frozen_blank;
      locked_fields = r.locked_fields;
      j_passed = λ i c' a' e' s' k' n' li is lt. grind (arith, nat_tests, r.j_passed i c' a' e' s' k' n' li, (calls h).calls p in_n, sections sh st h p in_n);
      j_word = λ i c' a' e' s' f' v' n' li is lk ld. grind (arith, nat_tests, r.j_word i c' a' e' s' f' v' n' li, (calls h).calls p in_n, sections sh st h p in_n);
      j_fields = λ i c' a' e' s' k' n' li is lt. grind (arith, nat_tests, r.j_fields i c' a' e' s' k' n' li, (calls h).calls p in_n, sections sh st h p in_n);
    })

-- kind LoadDirectory
pub survey_dir : (opened : ℕ) (sh : Layout) (st : S.State) (p : ℕ) (x : ℕ) (calm : Bool) (c : ℕ) (t : ℕ) (cnt : Count) (told : ℕ) → p < sh.passes → (st.stands p).section ≡ Inside x calm → (st.stands p).phase ≡ phase.Survey (walk.Directory c t cnt) → Shut sh st → RecordsAgree opened sh st
    → RecordsAgree opened sh (did sh st p Go (Inside x calm) (phase.Survey (walk.Directory c t cnt)) told (Load (place.Directory c t)))
survey_dir opened sh st p x calm c t cnt told in_n at_sec at_call h r = in_world (RecordsAgree opened sh) (apply (Load (place.Directory c t)) st.memory) (put_stand st.stands p (moved sh p (st.stands p) (Inside x calm) (phase.Survey (walk.Directory c t cnt)) Go told (seen (Load (place.Directory c t)) st.memory))) st.world
    (change sh p (st.stands p) (Inside x calm) (phase.Survey (walk.Directory c t cnt)) Go told (seen (Load (place.Directory c t)) st.memory)).event (grind (arith, nat_tests)) (record {
      given_in = r.given_in;
      given_of = r.given_of;
      no_others = r.no_others;
      is_here = r.is_here;
      since = r.since;
      values = r.values;
      c_record = λ i c' li is. grind (arith, nat_tests, r.c_record i c' li, (calls h).calls p in_n, sections sh st h p in_n);
      c_values = λ i c' k' li is lt. grind (arith, nat_tests, r.c_values i c' k' li, (calls h).calls p in_n, sections sh st h p in_n);
      c_stored = λ i c' s' a' e' y' k' li is lt. grind (arith, nat_tests, r.c_stored i c' s' a' e' y' k' li, (calls h).calls p in_n, sections sh st h p in_n);
      c_blanks = λ i c' s' y' k' li is lt. grind (arith, nat_tests, r.c_blanks i c' s' y' k' li, (calls h).calls p in_n, sections sh st h p in_n);
      placed_record = r.placed_record;
      held_record = λ i c' a' e' s' k' li is lt. grind (arith, nat_tests, r.held_record i c' a' e' s' k' li, (calls h).calls p in_n, sections sh st h p in_n);
      frozen_blank = r.frozen_blank;
      locked_fields = r.locked_fields;
      j_passed = λ i c' a' e' s' k' n' li is lt. grind (arith, nat_tests, r.j_passed i c' a' e' s' k' n' li, (calls h).calls p in_n, sections sh st h p in_n);
      j_word = λ i c' a' e' s' f' v' n' li is lk ld. grind (arith, nat_tests, r.j_word i c' a' e' s' f' v' n' li, (calls h).calls p in_n, sections sh st h p in_n);
      j_fields = λ i c' a' e' s' k' n' li is lt. grind (arith, nat_tests, r.j_fields i c' a' e' s' k' n' li, (calls h).calls p in_n, sections sh st h p in_n);
    })

-- kind LoadBack
pub survey_back : (opened : ℕ) (sh : Layout) (st : S.State) (p : ℕ) (x : ℕ) (calm : Bool) (c : ℕ) (t : ℕ) (cnt : Count) (told : ℕ) → p < sh.passes → (st.stands p).section ≡ Inside x calm → (st.stands p).phase ≡ phase.Survey (walk.Back c t cnt) → Shut sh st → RecordsAgree opened sh st
    → RecordsAgree opened sh (did sh st p Go (Inside x calm) (phase.Survey (walk.Back c t cnt)) told (Load (place.Back c t)))
survey_back opened sh st p x calm c t cnt told in_n at_sec at_call h r = in_world (RecordsAgree opened sh) (apply (Load (place.Back c t)) st.memory) (put_stand st.stands p (moved sh p (st.stands p) (Inside x calm) (phase.Survey (walk.Back c t cnt)) Go told (seen (Load (place.Back c t)) st.memory))) st.world
    (change sh p (st.stands p) (Inside x calm) (phase.Survey (walk.Back c t cnt)) Go told (seen (Load (place.Back c t)) st.memory)).event (grind (arith, nat_tests)) (record {
      given_in = r.given_in;
      given_of = r.given_of;
      no_others = r.no_others;
      is_here = r.is_here;
      since = r.since;
      values = r.values;
      c_record = λ i c' li is. grind (arith, nat_tests, r.c_record i c' li, (calls h).calls p in_n, sections sh st h p in_n);
      c_values = λ i c' k' li is lt. grind (arith, nat_tests, r.c_values i c' k' li, (calls h).calls p in_n, sections sh st h p in_n);
      c_stored = λ i c' s' a' e' y' k' li is lt. grind (arith, nat_tests, r.c_stored i c' s' a' e' y' k' li, (calls h).calls p in_n, sections sh st h p in_n);
      c_blanks = λ i c' s' y' k' li is lt. grind (arith, nat_tests, r.c_blanks i c' s' y' k' li, (calls h).calls p in_n, sections sh st h p in_n);
      placed_record = r.placed_record;
      held_record = λ i c' a' e' s' k' li is lt. grind (arith, nat_tests, r.held_record i c' a' e' s' k' li, (calls h).calls p in_n, sections sh st h p in_n);
      frozen_blank = r.frozen_blank;
      locked_fields = r.locked_fields;
      j_passed = λ i c' a' e' s' k' n' li is lt. grind (arith, nat_tests, r.j_passed i c' a' e' s' k' n' li, (calls h).calls p in_n, sections sh st h p in_n);
      j_word = λ i c' a' e' s' f' v' n' li is lk ld. grind (arith, nat_tests, r.j_word i c' a' e' s' f' v' n' li, (calls h).calls p in_n, sections sh st h p in_n);
      j_fields = λ i c' a' e' s' k' n' li is lt. grind (arith, nat_tests, r.j_fields i c' a' e' s' k' n' li, (calls h).calls p in_n, sections sh st h p in_n);
    })

-- kind LoadEntry
pub survey_entry : (opened : ℕ) (sh : Layout) (st : S.State) (p : ℕ) (x : ℕ) (calm : Bool) (c : ℕ) (t : ℕ) (cnt : Count) (c2 : ℕ) (a : ℕ) (e : ℕ) (told : ℕ) → p < sh.passes → (st.stands p).section ≡ Inside x calm → (st.stands p).phase ≡ phase.Survey (walk.Entry c t cnt (object a e c2)) → Shut sh st → RecordsAgree opened sh st
    → RecordsAgree opened sh (did sh st p Go (Inside x calm) (phase.Survey (walk.Entry c t cnt (object a e c2))) told (Load (place.Entry c2 e)))
survey_entry opened sh st p x calm c t cnt c2 a e told in_n at_sec at_call h r = in_world (RecordsAgree opened sh) (apply (Load (place.Entry c2 e)) st.memory) (put_stand st.stands p (moved sh p (st.stands p) (Inside x calm) (phase.Survey (walk.Entry c t cnt (object a e c2))) Go told (seen (Load (place.Entry c2 e)) st.memory))) st.world
    (change sh p (st.stands p) (Inside x calm) (phase.Survey (walk.Entry c t cnt (object a e c2))) Go told (seen (Load (place.Entry c2 e)) st.memory)).event (grind (arith, nat_tests)) (record {
      given_in = r.given_in;
      given_of = r.given_of;
      no_others = r.no_others;
      is_here = r.is_here;
      since = r.since;
      values = r.values;
      c_record = λ i c' li is. grind (arith, nat_tests, r.c_record i c' li, (calls h).calls p in_n, sections sh st h p in_n);
      c_values = λ i c' k' li is lt. grind (arith, nat_tests, r.c_values i c' k' li, (calls h).calls p in_n, sections sh st h p in_n);
      c_stored = λ i c' s' a' e' y' k' li is lt. grind (arith, nat_tests, r.c_stored i c' s' a' e' y' k' li, (calls h).calls p in_n, sections sh st h p in_n);
      c_blanks = λ i c' s' y' k' li is lt. grind (arith, nat_tests, r.c_blanks i c' s' y' k' li, (calls h).calls p in_n, sections sh st h p in_n);
      placed_record = r.placed_record;
      held_record = λ i c' a' e' s' k' li is lt. grind (arith, nat_tests, r.held_record i c' a' e' s' k' li, (calls h).calls p in_n, sections sh st h p in_n);
      frozen_blank = r.frozen_blank;
      locked_fields = r.locked_fields;
      j_passed = λ i c' a' e' s' k' n' li is lt. grind (arith, nat_tests, r.j_passed i c' a' e' s' k' n' li, (calls h).calls p in_n, sections sh st h p in_n);
      j_word = λ i c' a' e' s' f' v' n' li is lk ld. grind (arith, nat_tests, r.j_word i c' a' e' s' f' v' n' li, (calls h).calls p in_n, sections sh st h p in_n);
      j_fields = λ i c' a' e' s' k' n' li is lt. grind (arith, nat_tests, r.j_fields i c' a' e' s' k' n' li, (calls h).calls p in_n, sections sh st h p in_n);
    })
