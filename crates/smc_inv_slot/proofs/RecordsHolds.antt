-- Steps keep the agreement: records, holds. Written by tools/laws.py.
use Rattle.std.proofs.Common.{◌≡◌, ℕ, ◌+◌, ◌<◌, ◌&&◌, Bool, true, Some, arith}
use Rattle.std.proofs.lemmas.Bool.Decides.{nat_tests}
use Rattle.smc_words.specs.declared.dir.Dir.TheVariants as dir
use Rattle.smc_shape.specs.Layout.{Layout, width_of}
use Rattle.smc_shape.specs.declared.place.Place.TheVariants as place
use Rattle.smc_core.specs.declared.call.Call.TheVariants as call
use Rattle.smc_core.specs.declared.call.Choice.TheVariants.{Start, Go}
use Rattle.smc_core.specs.declared.op.Op.TheVariants.{Load, Store, MarkGone}
use Rattle.smc_core.specs.declared.phase.Phase.TheVariants as phase
use Rattle.smc_core.specs.declared.phase.objects.RemovePhase.TheVariants as remove
use Rattle.smc_core.specs.declared.section.Section.TheVariants.{Inside}
use Rattle.smc_core.specs.declared.word.State.TheVariants as state
use Rattle.smc_core.specs.declared.word.Word.TheVariants as word
use Rattle.std.specs.Prelude.{nat_lt}
use Rattle.smc_core.specs.Add.{is_value}
use Rattle.smc_core.specs.Offer.{held_slot}
use Rattle.smc_rules.specs.Reads.{object}
use Rattle.smc_rules.specs.State as S
use Rattle.smc_rules.specs.State.{put_stand}
use Rattle.smc_agreement.proofs.Whole.{Shut, calls, copies, objects, moves, did, moved, sections}
use Rattle.smc_core.specs.Change.{change}
use Rattle.smc_rules.specs.Memory.{apply, seen}
use Rattle.smc_agreement.specs.Records.{RecordsAgree}
use Rattle.smc_agreement.proofs.WorldViews.{in_world, changed-view, written-there, written-elsewhere, written-given, written-present, removed-given, removed-present, removed-word}
use Rattle.smc_model.specs.declared.object.Object.{Object}
use Rattle.smc_model.specs.World.{object_of, with_word, removed}

-- kind LoadField
pub read : (opened : ℕ) (sh : Layout) (st : S.State) (p : ℕ) (x : ℕ) (calm : Bool) (c : ℕ) (a : ℕ) (e : ℕ) (q : ℕ) (f : ℕ) (told : ℕ) → p < sh.passes → (st.stands p).section ≡ Inside x calm → (st.stands p).phase ≡ phase.Idle → held_slot (st.stands p).held (object a e c) ≡ Some q → nat_lt f (width_of sh c) ≡ true → Shut sh st → RecordsAgree opened sh st
    → RecordsAgree opened sh (did sh st p (Start (call.Read (object a e c) f)) (Inside x calm) phase.Idle told (Load (place.Field c q f)))
read opened sh st p x calm c a e q f told in_n at_sec at_call pre1 pre2 h r = in_world (RecordsAgree opened sh) (apply (Load (place.Field c q f)) st.memory) (put_stand st.stands p (moved sh p (st.stands p) (Inside x calm) phase.Idle (Start (call.Read (object a e c) f)) told (seen (Load (place.Field c q f)) st.memory))) st.world
    (change sh p (st.stands p) (Inside x calm) phase.Idle (Start (call.Read (object a e c) f)) told (seen (Load (place.Field c q f)) st.memory)).event (grind (arith, nat_tests)) (record {
      given_in = r.given_in;
      given_of = r.given_of;
      no_others = r.no_others;
      is_here = r.is_here;
      since = r.since;
      values = r.values;
      c_record = λ i c' li is. grind (arith, nat_tests, r.c_record i c' li, (calls h).calls p in_n, sections sh st h p in_n);
      c_values = λ i c' k' li is lt. grind (arith, nat_tests, r.c_values i c' k' li, (calls h).calls p in_n, sections sh st h p in_n);
      c_stored = λ i c' s' a' e' y' k' li is lt. grind (arith, nat_tests, r.c_stored i c' s' a' e' y' k' li, (calls h).calls p in_n, sections sh st h p in_n);
      c_blanks = λ i c' s' y' k' li is lt. grind (arith, nat_tests, r.c_blanks i c' s' y' k' li, (calls h).calls p in_n, sections sh st h p in_n);
      placed_record = r.placed_record;
      held_record = λ i c' a' e' s' k' li is lt. grind (arith, nat_tests, r.held_record i c' a' e' s' k' li, (calls h).calls p in_n, sections sh st h p in_n);
      frozen_blank = r.frozen_blank;
      locked_fields = r.locked_fields;
      j_passed = λ i c' a' e' s' k' n' li is lt. grind (arith, nat_tests, r.j_passed i c' a' e' s' k' n' li, (calls h).calls p in_n, sections sh st h p in_n);
      j_word = λ i c' a' e' s' f' v' n' li is lk ld. grind (arith, nat_tests, r.j_word i c' a' e' s' f' v' n' li, (calls h).calls p in_n, sections sh st h p in_n);
      j_fields = λ i c' a' e' s' k' n' li is lt. grind (arith, nat_tests, r.j_fields i c' a' e' s' k' n' li, (calls h).calls p in_n, sections sh st h p in_n);
    })

-- kind WriteField
pub write : (opened : ℕ) (sh : Layout) (st : S.State) (p : ℕ) (x : ℕ) (calm : Bool) (c : ℕ) (a : ℕ) (e : ℕ) (q : ℕ) (f : ℕ) (w : ℕ) (told : ℕ) → p < sh.passes → (st.stands p).section ≡ Inside x calm → (st.stands p).phase ≡ phase.Idle → held_slot (st.stands p).held (object a e c) ≡ Some q → (nat_lt f (width_of sh c) && is_value w) ≡ true → Shut sh st → RecordsAgree opened sh st
    → RecordsAgree opened sh (did sh st p (Start (call.Write (object a e c) f w)) (Inside x calm) phase.Idle told (Store (place.Field c q f) (word.Plain w)))
write opened sh st p x calm c a e q f w told in_n at_sec at_call pre1 pre2 h r = record {
  given_in = λ c' a' e' is. grind (arith, nat_tests, r.given_in c' a' e', (objects h).held p c a e q in_n pre1, (calls h).calls p in_n, sections sh st h p in_n, changed-view st.world a e c a' e' c' (λ (o : Object). with_word o f w), written-given (object_of st.world (object a e c)) f w);
  given_of = λ c' a' e' is. grind (arith, nat_tests, r.given_of c' a' e', (objects h).held p c a e q in_n pre1, (calls h).calls p in_n, sections sh st h p in_n, changed-view st.world a e c a' e' c' (λ (o : Object). with_word o f w), written-given (object_of st.world (object a e c)) f w);
  no_others = λ c' a' e' is. grind (arith, nat_tests, r.no_others c' a' e', (objects h).held p c a e q in_n pre1, (calls h).calls p in_n, sections sh st h p in_n, changed-view st.world a e c a' e' c' (λ (o : Object). with_word o f w), written-given (object_of st.world (object a e c)) f w);
  is_here = λ c' a' e'. grind (arith, nat_tests, r.is_here c' a' e', (objects h).held p c a e q in_n pre1, (calls h).calls p in_n, sections sh st h p in_n, changed-view st.world a e c a' e' c' (λ (o : Object). with_word o f w), written-present (object_of st.world (object a e c)) f w);
  since = r.since;
  values = λ c' a' e' k' v' is. grind (arith, nat_tests, r.values c' a' e' k' v', (objects h).held p c a e q in_n pre1, r.held_record p c a e q k' in_n pre1, (calls h).calls p in_n, sections sh st h p in_n, changed-view st.world a e c a' e' c' (λ (o : Object). with_word o f w), written-there (object_of st.world (object a e c)) f w, written-elsewhere (object_of st.world (object a e c)) f w k', r.held_record p c a e q f in_n pre1);
  c_record = λ i c' li is. grind (arith, nat_tests, r.c_record i c' li, (objects h).held p c a e q in_n pre1, (calls h).calls p in_n, sections sh st h p in_n);
  c_values = λ i c' k' li is lt. grind (arith, nat_tests, r.c_values i c' k' li, (objects h).held p c a e q in_n pre1, r.held_record p c a e q k' in_n pre1, (calls h).calls p in_n, sections sh st h p in_n);
  c_stored = λ i c' s' a' e' y' k' li is lt. grind (arith, nat_tests, r.c_stored i c' s' a' e' y' k' li, (objects h).held p c a e q in_n pre1, r.held_record p c a e q k' in_n pre1, (calls h).calls p in_n, sections sh st h p in_n, (calls h).c_slot i c' s' li, (calls h).c_lives i c' s' a' e' li, (calls h).c_named i c' s' a' e' li, (calls h).c_entry i c' a' e' li);
  c_blanks = λ i c' s' y' k' li is lt. grind (arith, nat_tests, r.c_blanks i c' s' y' k' li, (objects h).held p c a e q in_n pre1, r.held_record p c a e q k' in_n pre1, (calls h).calls p in_n, sections sh st h p in_n, (calls h).c_slot i c' s' li, (calls h).c_target i c' s' li, (moves h).standing_in i c a e q li, (calls h).calls i li);
  placed_record = λ c' a' e' s' k' is lt. grind (arith, nat_tests, r.placed_record c' a' e' s' k', (objects h).held p c a e q in_n pre1, r.held_record p c a e q k' in_n pre1, (calls h).calls p in_n, sections sh st h p in_n, (objects h).standing c' a' e' s', changed-view st.world a e c a' e' c' (λ (o : Object). with_word o f w), written-there (object_of st.world (object a e c)) f w, written-elsewhere (object_of st.world (object a e c)) f w k', r.held_record p c a e q f in_n pre1);
  held_record = λ i c' a' e' s' k' li is lt. grind (arith, nat_tests, r.held_record i c' a' e' s' k' li, (objects h).held p c a e q in_n pre1, r.held_record p c a e q k' in_n pre1, (calls h).calls p in_n, sections sh st h p in_n, (objects h).one_held i p c a e s' q li in_n, (objects h).held i c' a' e' s' li, changed-view st.world a e c a' e' c' (λ (o : Object). with_word o f w), written-there (object_of st.world (object a e c)) f w, written-elsewhere (object_of st.world (object a e c)) f w k', r.held_record p c a e q f in_n pre1);
  frozen_blank = λ c' a' e' s' k' is lt. grind (arith, nat_tests, r.frozen_blank c' a' e' s' k', (objects h).held p c a e q in_n pre1, r.held_record p c a e q k' in_n pre1, (calls h).calls p in_n, sections sh st h p in_n, (moves h).frozen c' a' e' s');
  locked_fields = λ c' a' e' s' k' is lt. grind (arith, nat_tests, r.locked_fields c' a' e' s' k', (objects h).held p c a e q in_n pre1, r.held_record p c a e q k' in_n pre1, (calls h).calls p in_n, sections sh st h p in_n, (moves h).locked c' a' e' s', (objects h).standing c' a' e' s');
  j_passed = λ i c' a' e' s' k' n' li is lt. grind (arith, nat_tests, r.j_passed i c' a' e' s' k' n' li, (objects h).held p c a e q in_n pre1, r.held_record p c a e q k' in_n pre1, (calls h).calls p in_n, sections sh st h p in_n);
  j_word = λ i c' a' e' s' f' v' n' li is lk ld. grind (arith, nat_tests, r.j_word i c' a' e' s' f' v' n' li, (objects h).held p c a e q in_n pre1, (calls h).calls p in_n, sections sh st h p in_n, (copies h).j_named i c' a' e' s' n' li);
  j_fields = λ i c' a' e' s' k' n' li is lt. grind (arith, nat_tests, r.j_fields i c' a' e' s' k' n' li, (objects h).held p c a e q in_n pre1, r.held_record p c a e q k' in_n pre1, (calls h).calls p in_n, sections sh st h p in_n);
}

-- kind MarkGone
pub starts_remove : (opened : ℕ) (sh : Layout) (st : S.State) (p : ℕ) (x : ℕ) (calm : Bool) (c : ℕ) (a : ℕ) (e : ℕ) (q : ℕ) (told : ℕ) → p < sh.passes → (st.stands p).section ≡ Inside x calm → (st.stands p).phase ≡ phase.Idle → held_slot (st.stands p).held (object a e c) ≡ Some q → Shut sh st → RecordsAgree opened sh st
    → RecordsAgree opened sh (did sh st p (Start (call.Remove (object a e c))) (Inside x calm) phase.Idle told (MarkGone c e))
starts_remove opened sh st p x calm c a e q told in_n at_sec at_call pre1 h r = record {
  given_in = λ c' a' e' is. grind (arith, nat_tests, r.given_in c' a' e', (objects h).held p c a e q in_n pre1, (calls h).calls p in_n, sections sh st h p in_n, changed-view st.world a e c a' e' c' removed, removed-given (object_of st.world (object a e c)));
  given_of = λ c' a' e' is. grind (arith, nat_tests, r.given_of c' a' e', (objects h).held p c a e q in_n pre1, (calls h).calls p in_n, sections sh st h p in_n, changed-view st.world a e c a' e' c' removed, removed-given (object_of st.world (object a e c)));
  no_others = λ c' a' e' is. grind (arith, nat_tests, r.no_others c' a' e', (objects h).held p c a e q in_n pre1, (calls h).calls p in_n, sections sh st h p in_n, changed-view st.world a e c a' e' c' removed, removed-given (object_of st.world (object a e c)));
  is_here = λ c' a' e'. grind (arith, nat_tests, r.is_here c' a' e', (objects h).held p c a e q in_n pre1, (calls h).calls p in_n, sections sh st h p in_n, changed-view st.world a e c a' e' c' removed, removed-present (object_of st.world (object a e c)));
  since = λ c' e'. grind (arith, nat_tests, r.since c' e', (objects h).held p c a e q in_n pre1, (calls h).calls p in_n, sections sh st h p in_n, r.since c e);
  values = λ c' a' e' k' v' is. grind (arith, nat_tests, r.values c' a' e' k' v', (objects h).held p c a e q in_n pre1, r.held_record p c a e q k' in_n pre1, (calls h).calls p in_n, sections sh st h p in_n, changed-view st.world a e c a' e' c' removed, removed-word (object_of st.world (object a e c)) k');
  c_record = λ i c' li is. grind (arith, nat_tests, r.c_record i c' li, (objects h).held p c a e q in_n pre1, (calls h).calls p in_n, sections sh st h p in_n);
  c_values = λ i c' k' li is lt. grind (arith, nat_tests, r.c_values i c' k' li, (objects h).held p c a e q in_n pre1, r.held_record p c a e q k' in_n pre1, (calls h).calls p in_n, sections sh st h p in_n);
  c_stored = λ i c' s' a' e' y' k' li is lt. grind (arith, nat_tests, r.c_stored i c' s' a' e' y' k' li, (objects h).held p c a e q in_n pre1, r.held_record p c a e q k' in_n pre1, (calls h).calls p in_n, sections sh st h p in_n);
  c_blanks = λ i c' s' y' k' li is lt. grind (arith, nat_tests, r.c_blanks i c' s' y' k' li, (objects h).held p c a e q in_n pre1, r.held_record p c a e q k' in_n pre1, (calls h).calls p in_n, sections sh st h p in_n);
  placed_record = λ c' a' e' s' k' is lt. grind (arith, nat_tests, r.placed_record c' a' e' s' k', (objects h).held p c a e q in_n pre1, r.held_record p c a e q k' in_n pre1, (calls h).calls p in_n, sections sh st h p in_n, changed-view st.world a e c a' e' c' removed, removed-word (object_of st.world (object a e c)) k');
  held_record = λ i c' a' e' s' k' li is lt. grind (arith, nat_tests, r.held_record i c' a' e' s' k' li, (objects h).held p c a e q in_n pre1, r.held_record p c a e q k' in_n pre1, (calls h).calls p in_n, sections sh st h p in_n, changed-view st.world a e c a' e' c' removed, removed-word (object_of st.world (object a e c)) k');
  frozen_blank = λ c' a' e' s' k' is lt. grind (arith, nat_tests, r.frozen_blank c' a' e' s' k', (objects h).held p c a e q in_n pre1, r.held_record p c a e q k' in_n pre1, (calls h).calls p in_n, sections sh st h p in_n);
  locked_fields = λ c' a' e' s' k' is lt. grind (arith, nat_tests, r.locked_fields c' a' e' s' k', (objects h).held p c a e q in_n pre1, r.held_record p c a e q k' in_n pre1, (calls h).calls p in_n, sections sh st h p in_n);
  j_passed = λ i c' a' e' s' k' n' li is lt. grind (arith, nat_tests, r.j_passed i c' a' e' s' k' n' li, (objects h).held p c a e q in_n pre1, r.held_record p c a e q k' in_n pre1, (calls h).calls p in_n, sections sh st h p in_n);
  j_word = λ i c' a' e' s' f' v' n' li is lk ld. grind (arith, nat_tests, r.j_word i c' a' e' s' f' v' n' li, (objects h).held p c a e q in_n pre1, (calls h).calls p in_n, sections sh st h p in_n);
  j_fields = λ i c' a' e' s' k' n' li is lt. grind (arith, nat_tests, r.j_fields i c' a' e' s' k' n' li, (objects h).held p c a e q in_n pre1, r.held_record p c a e q k' in_n pre1, (calls h).calls p in_n, sections sh st h p in_n);
}

-- kind LeaveSlot
pub leave_slot : (opened : ℕ) (sh : Layout) (st : S.State) (p : ℕ) (x : ℕ) (calm : Bool) (c : ℕ) (a : ℕ) (e : ℕ) (q : ℕ) (told : ℕ) → p < sh.passes → (st.stands p).section ≡ Inside x calm → (st.stands p).phase ≡ phase.Remove (remove.LeaveSlot q (object a e c)) → Shut sh st → RecordsAgree opened sh st
    → RecordsAgree opened sh (did sh st p Go (Inside x calm) (phase.Remove (remove.LeaveSlot q (object a e c))) told (Store (place.Directory c q) (word.Directory (dir.Limbo (x + 1)))))
leave_slot opened sh st p x calm c a e q told in_n at_sec at_call h r = in_world (RecordsAgree opened sh) (apply (Store (place.Directory c q) (word.Directory (dir.Limbo (x + 1)))) st.memory) (put_stand st.stands p (moved sh p (st.stands p) (Inside x calm) (phase.Remove (remove.LeaveSlot q (object a e c))) Go told (seen (Store (place.Directory c q) (word.Directory (dir.Limbo (x + 1)))) st.memory))) st.world
    (change sh p (st.stands p) (Inside x calm) (phase.Remove (remove.LeaveSlot q (object a e c))) Go told (seen (Store (place.Directory c q) (word.Directory (dir.Limbo (x + 1)))) st.memory)).event (grind (arith, nat_tests)) (record {
      given_in = r.given_in;
      given_of = r.given_of;
      no_others = r.no_others;
      is_here = r.is_here;
      since = r.since;
      values = r.values;
      c_record = λ i c' li is. grind (arith, nat_tests, r.c_record i c' li, (calls h).c_removes p c a e in_n, (calls h).c_leaving p c q a e in_n, (calls h).c_limbos p c q a e in_n, (calls h).calls p in_n, sections sh st h p in_n);
      c_values = λ i c' k' li is lt. grind (arith, nat_tests, r.c_values i c' k' li, (calls h).c_removes p c a e in_n, (calls h).c_leaving p c q a e in_n, (calls h).c_limbos p c q a e in_n, (calls h).calls p in_n, sections sh st h p in_n);
      c_stored = λ i c' s' a' e' y' k' li is lt. grind (arith, nat_tests, r.c_stored i c' s' a' e' y' k' li, (calls h).c_removes p c a e in_n, (calls h).c_leaving p c q a e in_n, (calls h).c_limbos p c q a e in_n, (calls h).calls p in_n, sections sh st h p in_n);
      c_blanks = λ i c' s' y' k' li is lt. grind (arith, nat_tests, r.c_blanks i c' s' y' k' li, (calls h).c_removes p c a e in_n, (calls h).c_leaving p c q a e in_n, (calls h).c_limbos p c q a e in_n, (calls h).calls p in_n, sections sh st h p in_n);
      placed_record = r.placed_record;
      held_record = λ i c' a' e' s' k' li is lt. grind (arith, nat_tests, r.held_record i c' a' e' s' k' li, (calls h).c_removes p c a e in_n, (calls h).c_leaving p c q a e in_n, (calls h).c_limbos p c q a e in_n, (calls h).calls p in_n, sections sh st h p in_n);
      frozen_blank = r.frozen_blank;
      locked_fields = r.locked_fields;
      j_passed = λ i c' a' e' s' k' n' li is lt. grind (arith, nat_tests, r.j_passed i c' a' e' s' k' n' li, (calls h).c_removes p c a e in_n, (calls h).c_leaving p c q a e in_n, (calls h).c_limbos p c q a e in_n, (calls h).calls p in_n, sections sh st h p in_n);
      j_word = λ i c' a' e' s' f' v' n' li is lk ld. grind (arith, nat_tests, r.j_word i c' a' e' s' f' v' n' li, (calls h).c_removes p c a e in_n, (calls h).c_leaving p c q a e in_n, (calls h).c_limbos p c q a e in_n, (calls h).calls p in_n, sections sh st h p in_n);
      j_fields = λ i c' a' e' s' k' n' li is lt. grind (arith, nat_tests, r.j_fields i c' a' e' s' k' n' li, (calls h).c_removes p c a e in_n, (calls h).c_leaving p c q a e in_n, (calls h).c_limbos p c q a e in_n, (calls h).calls p in_n, sections sh st h p in_n);
    })

-- kind FreeEntry
pub free_entry : (opened : ℕ) (sh : Layout) (st : S.State) (p : ℕ) (x : ℕ) (calm : Bool) (c : ℕ) (a : ℕ) (e : ℕ) (told : ℕ) → p < sh.passes → (st.stands p).section ≡ Inside x calm → (st.stands p).phase ≡ phase.Remove (remove.FreeEntry (object a e c)) → Shut sh st → RecordsAgree opened sh st
    → RecordsAgree opened sh (did sh st p Go (Inside x calm) (phase.Remove (remove.FreeEntry (object a e c))) told (Store (place.Entry c e) (word.Entry (state.Free a (x + 1)))))
free_entry opened sh st p x calm c a e told in_n at_sec at_call h r = in_world (RecordsAgree opened sh) (apply (Store (place.Entry c e) (word.Entry (state.Free a (x + 1)))) st.memory) (put_stand st.stands p (moved sh p (st.stands p) (Inside x calm) (phase.Remove (remove.FreeEntry (object a e c))) Go told (seen (Store (place.Entry c e) (word.Entry (state.Free a (x + 1)))) st.memory))) st.world
    (change sh p (st.stands p) (Inside x calm) (phase.Remove (remove.FreeEntry (object a e c))) Go told (seen (Store (place.Entry c e) (word.Entry (state.Free a (x + 1)))) st.memory)).event (grind (arith, nat_tests)) (record {
      given_in = λ c' a' e' is. grind (arith, nat_tests, r.given_in c' a' e', (calls h).c_removes p c a e in_n, (calls h).calls p in_n, sections sh st h p in_n);
      given_of = λ c' a' e' is. grind (arith, nat_tests, r.given_of c' a' e', (calls h).c_removes p c a e in_n, (calls h).calls p in_n, sections sh st h p in_n);
      no_others = r.no_others;
      is_here = λ c' a' e'. grind (arith, nat_tests, r.is_here c' a' e', (calls h).c_removes p c a e in_n, (calls h).calls p in_n, sections sh st h p in_n);
      since = λ c' e'. grind (arith, nat_tests, r.since c' e', (calls h).c_removes p c a e in_n, (calls h).calls p in_n, sections sh st h p in_n, r.since c e);
      values = r.values;
      c_record = λ i c' li is. grind (arith, nat_tests, r.c_record i c' li, (calls h).c_removes p c a e in_n, (calls h).calls p in_n, sections sh st h p in_n);
      c_values = λ i c' k' li is lt. grind (arith, nat_tests, r.c_values i c' k' li, (calls h).c_removes p c a e in_n, (calls h).calls p in_n, sections sh st h p in_n);
      c_stored = λ i c' s' a' e' y' k' li is lt. grind (arith, nat_tests, r.c_stored i c' s' a' e' y' k' li, (calls h).c_removes p c a e in_n, (calls h).c_frees p c s' a e in_n, (calls h).calls p in_n, sections sh st h p in_n);
      c_blanks = λ i c' s' y' k' li is lt. grind (arith, nat_tests, r.c_blanks i c' s' y' k' li, (calls h).c_removes p c a e in_n, (calls h).c_frees p c s' a e in_n, (calls h).calls p in_n, sections sh st h p in_n);
      placed_record = λ c' a' e' s' k' is lt. grind (arith, nat_tests, r.placed_record c' a' e' s' k', (calls h).c_removes p c a e in_n, (calls h).c_frees p c s' a e in_n, (calls h).calls p in_n, sections sh st h p in_n);
      held_record = λ i c' a' e' s' k' li is lt. grind (arith, nat_tests, r.held_record i c' a' e' s' k' li, (calls h).c_removes p c a e in_n, (calls h).c_frees p c s' a e in_n, (calls h).calls p in_n, sections sh st h p in_n);
      frozen_blank = λ c' a' e' s' k' is lt. grind (arith, nat_tests, r.frozen_blank c' a' e' s' k', (calls h).c_removes p c a e in_n, (calls h).c_frees p c s' a e in_n, (calls h).calls p in_n, sections sh st h p in_n);
      locked_fields = λ c' a' e' s' k' is lt. grind (arith, nat_tests, r.locked_fields c' a' e' s' k', (calls h).c_removes p c a e in_n, (calls h).c_frees p c s' a e in_n, (calls h).calls p in_n, sections sh st h p in_n);
      j_passed = λ i c' a' e' s' k' n' li is lt. grind (arith, nat_tests, r.j_passed i c' a' e' s' k' n' li, (calls h).c_removes p c a e in_n, (calls h).c_frees p c s' a e in_n, (calls h).calls p in_n, sections sh st h p in_n);
      j_word = λ i c' a' e' s' f' v' n' li is lk ld. grind (arith, nat_tests, r.j_word i c' a' e' s' f' v' n' li, (calls h).c_removes p c a e in_n, (calls h).c_frees p c s' a e in_n, (calls h).calls p in_n, sections sh st h p in_n);
      j_fields = λ i c' a' e' s' k' n' li is lt. grind (arith, nat_tests, r.j_fields i c' a' e' s' k' n' li, (calls h).c_removes p c a e in_n, (calls h).c_frees p c s' a e in_n, (calls h).calls p in_n, sections sh st h p in_n);
    })
