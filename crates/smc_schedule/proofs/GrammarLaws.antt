-- What a line spells, and what is read from it.
use Rattle.std.proofs.Common.{◌≡◌, ◌≢◌, ℕ, ◌-◌, List, [], ◌∷◌, ◌++◌, Bool, true, false, codes, length, take, nat_eq, refl, sym, ap, ◌∙◌, subst}
use Rattle.std.proofs.lemmas.List.{append_cancel_right}
use Rattle.std.proofs.lemmas.Slice.Eq.{bytes_eq-Decides}
use Rattle.std.specs.Prelude.{Option, None, Some, Result, Ok, Err, IfOk, if◌then◌else◌}
use Rattle.std.specs.List.{ends_with, join_with_byte}
use Rattle.std.specs.Option.{option_map}
use Rattle.std.specs.Str.{bytes_eq}
use Rattle.smc_words.specs.declared.memory.NoMemory.{NoMemory}
use Rattle.smc_lines.specs.Words.{words}
use Rattle.smc_lines.specs.declared.limits.TheConstants.{SPACE}
use Rattle.smc_schedule.specs.Calls.{call_from, index_of}
use Rattle.smc_schedule.specs.Grammar.{Reads, SpellsAct, SpellsLine}
use Rattle.smc_schedule.specs.Lines.{run_of, step_alone, step_of, pass_and, line_of}
use Rattle.smc_schedule.specs.declared.call.StartCall.{StartCall}
use Rattle.smc_schedule.specs.declared.line.Act.{Act}
use Rattle.smc_schedule.specs.declared.line.Act.TheVariants.{Start, Run, Step, RunOn}
use Rattle.smc_schedule.specs.declared.line.ScheduleLine.{ScheduleLine}
use Rattle.smc_schedule.proofs.CallLaws.{followed, changed, call-read, call-spelled, last_word, IsReadCall}
use Rattle.smc_schedule.proofs.MarkLaws.{words-marked, last_word-push, marked-parts, marked-ends, marked-text}

-- what is read before a mark, with the mark behind it
run-read : (width : ℕ) (words : List (List ℕ)) (act : Act) → run_of width words ≡ Some act → SpellsAct width (words ++ codes "!" ∷ []) act
run-read width [] act is = let same : RunOn ≡ act = cc in subst (λ (a : Act). SpellsAct width (codes "!" ∷ []) a) same refl
run-read width (word ∷ words) act is =
    let (call, reads, same) = changed Run (call_from width word words) act is in
    subst (λ (a : Act). SpellsAct width (word ∷ words ++ codes "!" ∷ []) a) same (word ∷ words, refl, call-read width word words call reads)

-- a step alone
alone-read : (width : ℕ) (word : List ℕ) (words : List (List ℕ)) (act : Act) → word ≡ codes "." → step_alone words ≡ Some act → SpellsAct width (word ∷ words) act
alone-read width word [] act dot is =
    let same : Step ≡ act = cc in subst (λ (a : Act). SpellsAct width (word ∷ []) a) same (ap (λ (w : List ℕ). w ∷ []) dot)
alone-read width word (other ∷ words) act dot is = absurd cc

-- what is read without a mark
step-read : (width : ℕ) (words : List (List ℕ)) (act : Act) → step_of width words ≡ Some act → SpellsAct width words act
step-read width [] act is = absurd cc
step-read width (word ∷ words) act is =
    elim (bytes_eq word (codes ".")) as (λ b. bytes_eq word (codes ".") ≡ b
    → (if b then step_alone words else option_map Start (call_from width word words)) ≡ Some act → SpellsAct width (word ∷ words) act) [
      | true ↦ λ dot here. alone-read width word words act ((bytes_eq-Decides word (codes ".")).0 dot) here
      | false ↦ λ other here.
          let (call, reads, same) = changed Start (call_from width word words) act here in
          subst (λ (a : Act). SpellsAct width (word ∷ words) a) same (call-read width word words call reads)
    ] refl is

-- a pass and its act
pub record IsPassAnd (act_of : List (List ℕ) → Option Act) (words : List (List ℕ)) (line : ScheduleLine) : Type 0 where
  pub pass : List ℕ
  pub others : List (List ℕ)
  pub parts : words ≡ pass ∷ others
  pub index : index_of pass ≡ Some line.pass
  pub act : act_of others ≡ Some line.act

pass-read : (act_of : List (List ℕ) → Option Act) (words : List (List ℕ)) (line : ScheduleLine) → pass_and act_of words ≡ Some line → IsPassAnd act_of words line
pass-read act_of [] line is = absurd cc
pass-read act_of (pass ∷ others) line is =
    let (p, index, rest) = followed (λ p. option_map (λ a. record { pass = p; act = a }) (act_of others)) (index_of pass) line is in
    let (a, act, same) = changed (λ a. record { pass = p; act = a }) (act_of others) line rest in
    record { pass = pass; others = others; parts = refl; index = index ∙ ap (λ (l : ScheduleLine). Some l.pass) same; act = act ∙ ap (λ (l : ScheduleLine). Some l.act) same }

-- a line that is read is spelled
pub line-read : (width : ℕ) (text : List ℕ) (line : ScheduleLine) → line_of width text ≡ Some line → SpellsLine width text line
line-read width text line is =
    let front = take (length text - 2) text in
    elim (ends_with nat_eq text (codes " !")) as (λ b. ends_with nat_eq text (codes " !") ≡ b
    → (if b then pass_and (run_of width) (words front) else pass_and (step_of width) (words text)) ≡ Some line → SpellsLine width text line) [
      | true ↦ λ ends here.
          let has = pass-read (run_of width) (words front) line here in
          let whole : words text ≡ words front ++ codes "!" ∷ [] = ap words (marked-parts text ends) ∙ words-marked front in
          (has.pass, has.others ++ codes "!" ∷ [], whole ∙ ap (λ (ws : List (List ℕ)). ws ++ codes "!" ∷ []) has.parts, has.index, run-read width has.others line.act has.act)
      | false ↦ λ ends here.
          let has = pass-read (step_of width) (words text) line here in
          (has.pass, has.others, has.parts, has.index, step-read width has.others line.act has.act)
    ] refl is

-- a line without a mark
no_mark-read : (width : ℕ) (text pass : List ℕ) (others : List (List ℕ)) (line : ScheduleLine) → words text ≡ pass ∷ others → last_word (pass ∷ others) ≢ codes "!"
    → index_of pass ≡ Some line.pass → step_of width others ≡ Some line.act → line_of width text ≡ Some line
no_mark-read width text pass others line is last index act =
    elim (ends_with nat_eq text (codes " !")) as (λ b. ends_with nat_eq text (codes " !") ≡ b
    → (if b then pass_and (run_of width) (words (take (length text - 2) text)) else pass_and (step_of width) (words text)) ≡ Some line) [
      | true ↦ λ ends.
          let front = take (length text - 2) text in
          let whole : words text ≡ words front ++ codes "!" ∷ [] = ap words (marked-parts text ends) ∙ words-marked front in
          absurd (last (ap last_word (sym is ∙ whole) ∙ last_word-push (words front) (codes "!")))
      | false ↦ λ ends. rw (is, index, act) refl
    ] refl

-- a line with a mark
mark-read : (width : ℕ) (text pass : List ℕ) (others : List (List ℕ)) (line : ScheduleLine) → words text ≡ pass ∷ (others ++ codes "!" ∷ [])
    → index_of pass ≡ Some line.pass → run_of width others ≡ Some line.act → line_of width text ≡ Some line
mark-read width text pass others line is index act =
    let joined = join_with_byte SPACE (pass ∷ others) in
    let text_is : text ≡ joined ++ codes " !" = marked-text text pass others is in
    let ends : ends_with nat_eq text (codes " !") ≡ true = rw text_is (marked-ends joined) in
    let front = take (length text - 2) text in
    let whole : words text ≡ words front ++ codes "!" ∷ [] = ap words (marked-parts text ends) ∙ words-marked front in
    let parts : words front ≡ pass ∷ others = append_cancel_right (words front) (pass ∷ others) (codes "!" ∷ []) (sym whole ∙ is) in
    rw (ends, parts, index, act) refl

-- a call that is started
started : (test : Bool) (step : Option Act) (read : Option StartCall) (call : StartCall) → test ≡ false → read ≡ Some call
    → (if test then step else option_map Start read) ≡ Some (Start call)
started test step read call other is = rw (other, is) refl

-- a call without a mark is read
start-read : (width : ℕ) (words_behind : List (List ℕ)) (call : StartCall) → IsReadCall width words_behind call → step_of width words_behind ≡ Some (Start call)
start-read width words_behind call has =
    ap (step_of width) has.parts
    ∙ started (bytes_eq has.word (codes ".")) (step_alone has.arguments) (call_from width has.word has.arguments) call has.no_dot has.reads

-- a call before a mark is read
rest-read : (width : ℕ) (front : List (List ℕ)) (call : StartCall) → IsReadCall width front call → run_of width front ≡ Some (Run call)
rest-read width front call has = ap (run_of width) has.parts ∙ ap (option_map Run) has.reads

-- the last word of a call is no mark, with a pass before it
last-behind : (width : ℕ) (pass : List ℕ) (words_behind : List (List ℕ)) (call : StartCall) → IsReadCall width words_behind call → last_word (pass ∷ words_behind) ≢ codes "!"
last-behind width pass words_behind call has mark = has.no_mark (ap (λ (ws : List (List ℕ)). last_word (pass ∷ ws)) (sym has.parts) ∙ mark)

-- a step alone is no mark
last-step : (pass : List ℕ) (words_behind : List (List ℕ)) → words_behind ≡ codes "." ∷ [] → last_word (pass ∷ words_behind) ≢ codes "!"
last-step pass words_behind is mark =
    let same : codes "." ≡ codes "!" = ap (λ (ws : List (List ℕ)). last_word (pass ∷ ws)) (sym is) ∙ mark in
    absurd cc

-- what the words behind the pass spell is read
act-spelled : (width : ℕ) (text pass : List ℕ) (words_behind : List (List ℕ)) (line : ScheduleLine) (act : Act) → line.act ≡ act → words text ≡ pass ∷ words_behind
    → index_of pass ≡ Some line.pass → SpellsAct width words_behind act → line_of width text ≡ Some line
act-spelled width text pass words_behind line (Start call) same is index spells =
    let has = call-spelled width words_behind call spells in
    no_mark-read width text pass words_behind line is (last-behind width pass words_behind call has) index (start-read width words_behind call has ∙ ap Some (sym same))
act-spelled width text pass words_behind line (Run call) same is index (front, parts, spells) =
    let has = call-spelled width front call spells in
    mark-read width text pass front line (is ∙ ap (λ (ws : List (List ℕ)). pass ∷ ws) parts) index (rest-read width front call has ∙ ap Some (sym same))
act-spelled width text pass words_behind line Step same is index spells =
    no_mark-read width text pass words_behind line is (last-step pass words_behind spells) index (ap (step_of width) spells ∙ ap Some (sym same))
act-spelled width text pass words_behind line RunOn same is index spells =
    mark-read width text pass [] line (is ∙ ap (λ (ws : List (List ℕ)). pass ∷ ws) spells) index (ap Some (sym same))

-- a line that is spelled is read
pub line-spelled : (width : ℕ) (text : List ℕ) (line : ScheduleLine) → SpellsLine width text line → line_of width text ≡ Some line
line-spelled width text line (pass, words_behind, is, index, spells) = act-spelled width text pass words_behind line line.act refl is index spells

-- a line spells one thing
pub line-one : (width : ℕ) (text : List ℕ) (one other : ScheduleLine) → SpellsLine width text one → SpellsLine width text other → one ≡ other
line-one width text one other first second =
    let first_read = line-spelled width text one first in
    let second_read = line-spelled width text other second in
    cc

-- what is read is all that a line spells
pub reads-value : (width : ℕ) (text : List ℕ) (read : Result (Option ScheduleLine) NoMemory) → IfOk read (λ line. line ≡ line_of width text)
    → IfOk read (λ line. Reads width text line)
reads-value width text (Ok (Some line)) is = line-read width text line (sym is)
reads-value width text (Ok None) is = λ line spells. let some = line-spelled width text line spells in absurd cc
reads-value width text (Err fault) is = tt
