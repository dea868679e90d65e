-- What a step adds to a pass, by what it does to its lists.
use Rattle.std.proofs.Common.{◌≡◌, ℕ, false, Option, Some, None, List, [], ◌++◌, ◌+◌, ◌<◌, ◌^◌, length, if◌then◌else◌, refl, ap, ◌∙◌, unwrap_or, arith}
use Rattle.std.proofs.lemmas.Bool.Decides.{nat_tests}
use Rattle.std.specs.Option.{option_to_list}
use Rattle.std.proofs.lemmas.List.{append-nil}
use Rattle.smc_shape.specs.Layout.{Layout}
use Rattle.smc_model.specs.declared.event.Event.{Event}
use Rattle.smc_core.specs.declared.change.Change.{Change}
use Rattle.smc_core.specs.declared.done.Done.{Done}
use Rattle.smc_core.specs.declared.local.Answer.{Answer}
use Rattle.smc_core.specs.declared.local.Learnt.{Learnt}
use Rattle.smc_core.specs.declared.local.Stand.{Stand}
use Rattle.smc_core.specs.declared.word.Word.{Word}
use Rattle.smc_core.specs.declared.call.Call.TheVariants as call
use Rattle.smc_core.specs.declared.call.Choice.{Choice}
use Rattle.smc_core.specs.declared.call.Choice.TheVariants.{Start, Go}
use Rattle.smc_core.specs.declared.local.Held.{Held}
use Rattle.smc_core.specs.Local.{begun_after, noted_after, held_after, words_after, logged, answered, notes_after, learnt_after, cursors_after, stand_after, changed}
use Rattle.smc_automaton.specs.declared.effect.Cursor.{Cursor}
use Rattle.smc_automaton.specs.Effects.{cursors_by}
use Rattle.smc_machine.specs.declared.kept.Kept.{Kept}
use Rattle.smc_machine.specs.Kept.{local_of, IsSame, Grows}
use Rattle.smc_machine.specs.Faults.{is_spent}
use Rattle.smc_machine.specs.Added.{words_added, is_leave, answer_at, note_made, note_learnt}

-- the words of the latest add are those that are added, else those of before
pub words_after-added : (words : List ℕ) (choice : Choice) → words_after words choice ≡ unwrap_or (words_added choice) words
words_after-added words (Start (call.Add coll from added)) = refl
words_after-added words (Start call) = refl
words_after-added words Go = refl

-- what is held is nothing after a leave, else one more before the others
pub held_after-front : (held : List Held) (choice : Choice) (holds : Option Held)
    → held_after held choice holds ≡ (if is_leave choice then [] else option_to_list holds ++ held)
held_after-front held (Start call.Leave) holds = refl
held_after-front held (Start call) None = refl
held_after-front held (Start call) (Some pair) = refl
held_after-front held Go None = refl
held_after-front held Go (Some pair) = refl

-- a log with the event of a step, if there is one
pub logged-event : (log : List Event) (event : Option Event) → log ++ option_to_list event ≡ logged log event
logged-event log None = append-nil log
logged-event log (Some event) = refl

-- the answers with that of a step
answered-done : (answers : List Answer) (length : ℕ) (done : Option Done) → answers ++ option_to_list (answer_at length done) ≡ answered answers length done
answered-done answers length None = append-nil answers
answered-done answers length (Some done) = refl

-- the notes with that of a step
notes_after-made : (notes : List ℕ) (length : ℕ) (choice : Choice) → notes ++ option_to_list (note_made length choice) ≡ notes_after notes length choice
notes_after-made notes length (Start call.Note) = refl
notes_after-made notes length (Start call) = append-nil notes
notes_after-made notes length Go = append-nil notes

-- the notes learnt with that of a step
learnt_after-learnt : (learnt : List Learnt) (choice : Choice) → learnt ++ option_to_list (note_learnt choice) ≡ learnt_after learnt choice
learnt_after-learnt learnt (Start (call.Learn other note)) = refl
learnt_after-learnt learnt (Start call) = append-nil learnt
learnt_after-learnt learnt Go = append-nil learnt

module _ (shape : Layout) (pass : ℕ) (stand next : Stand) (old between new : Kept) (choice : Choice) (w : Word) (change : Change) (cursor : Option Cursor) where
  -- what a step adds to what a pass keeps, where it stands next, and how its cursor moves are what the step makes of the pass
  pub changed-grown : next ≡ stand_after shape pass stand choice w change
      → cursors_by cursor old.cursors.items ≡ cursors_after shape old.cursors.items stand.phase choice
      → IsSame old between → Grows choice change.event change.answer cursor between new
      → local_of next new ≡ changed shape pass (local_of stand old) choice w change
  changed-grown stands moves same grown =
      let log : new.log.items ≡ logged old.log.items change.event =
      grown.log ∙ ap (λ (l : List Event). l ++ option_to_list change.event) same.log ∙ logged-event old.log.items change.event in
      let answers : new.answers.items ≡ answered old.answers.items (length (logged old.log.items change.event)) change.answer =
      grown.answers ∙ ap (λ (l : List Answer). l ++ option_to_list (answer_at (length new.log.items) change.answer)) same.answers
      ∙ answered-done old.answers.items (length new.log.items) change.answer
      ∙ ap (λ (l : List Event). answered old.answers.items (length l) change.answer) log in
      let notes : new.notes.items ≡ notes_after old.notes.items (length old.log.items) choice =
      grown.notes ∙ ap (λ (l : List ℕ). l ++ option_to_list (note_made (length between.log.items) choice)) same.notes
      ∙ ap (λ (l : List Event). old.notes.items ++ option_to_list (note_made (length l) choice)) same.log
      ∙ notes_after-made old.notes.items (length old.log.items) choice in
      let learnt : new.learnt.items ≡ learnt_after old.learnt.items choice =
      grown.learnt ∙ ap (λ (l : List Learnt). l ++ option_to_list (note_learnt choice)) same.learnt ∙ learnt_after-learnt old.learnt.items choice in
      let cursors : new.cursors.items ≡ cursors_after shape old.cursors.items stand.phase choice =
      grown.cursors ∙ ap (cursors_by cursor) same.cursors ∙ moves in
      let steps : new.steps ≡ old.steps + 1 = grown.steps ∙ ap (λ (n : ℕ). n + 1) same.steps in
      λ k. record {
        stand = stands k;
        log = log k;
        answers = answers k;
        notes = notes k;
        learnt = learnt k;
        cursors = cursors k;
        steps = steps k;
      }

-- a count that is not spent has room for one more
pub begun_after-within : (stand : Stand) (choice : Choice) → is_spent stand choice ≡ false → stand.begun < 2 ^ 32 → begun_after stand.begun choice < 2 ^ 32
begun_after-within stand (Start (call.Scan coll)) counts within = grind (arith, nat_tests)
begun_after-within stand (Start call) counts within = within
begun_after-within stand Go counts within = within

pub noted_after-within : (stand : Stand) (choice : Choice) → is_spent stand choice ≡ false → stand.noted < 2 ^ 32 → noted_after stand.noted choice < 2 ^ 32
noted_after-within stand (Start call.Note) counts within = grind (arith, nat_tests)
noted_after-within stand (Start call) counts within = within
noted_after-within stand Go counts within = within
