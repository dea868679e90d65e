use Rattle.std.proofs.Common.{ℕ, Bool, List, [], ◌++◌, Option, Ok, append-nil, append_assoc, sym, ap, ◌∙◌, subst, string_bytes}
use Rattle.std.specs.declared.result.Result.{Result}
use Rattle.smc_lines.specs.Ahead.{Gives}
use Rattle.smc_lines.specs.declared.cursor.Numbered.{Numbered}
use Rattle.smc_lines.specs.declared.fault.BadLine.{BadLine}
use Rattle.smc_play.specs.Plays.{playing}
use Rattle.smc_play.specs.Texts.{PlaysLines, NoneLeft, NoText, NotPlayed, Played}
use Rattle.smc_play.specs.declared.ending.Ending.TheVariants.{All, RefusedAt}
use Rattle.smc_play.proofs.text.play_lines.Goals as goal

pub returns-in-Ok-None : goal.returns-in-Ok-None
returns-in-Ok-None c =
    let gives = subst (λ (r : Result (Option Numbered) BadLine). Gives r c.loop-next.cursor c.next_line.new.self)
    (c.in-Ok-None.is ∙ ap (λ (o : Option Numbered). Ok o) c.in-Ok-None.field-0-is) c.next_line.ensures in
    subst (λ (t : List ℕ). PlaysLines c.args.width (playing c.args.player.now) c.args.cursor.now t All) (append-nil (string_bytes c.loop-next.text))
    (c.loop-next.invariant [] All (NoneLeft c.args.width (playing c.loop-next.player) c.loop-next.cursor c.next_line.new.self gives))

pub returns-in-Err : goal.returns-in-Err
returns-in-Err c =
    let gives = subst (λ (r : Result (Option Numbered) BadLine). Gives r c.loop-next.cursor c.next_line.new.self) c.in-Err.is c.next_line.ensures in
    subst (λ (t : List ℕ). PlaysLines c.args.width (playing c.args.player.now) c.args.cursor.now t (RefusedAt c.in-Err.bad.line)) (append-nil (string_bytes c.loop-next.text))
    (c.loop-next.invariant [] (RefusedAt c.in-Err.bad.line) (NoText c.args.width (playing c.loop-next.player) c.loop-next.cursor c.next_line.new.self c.in-Err.bad gives))

pub returns-then-not-branch : goal.returns-then-not-branch
returns-then-not-branch c =
    let gives = subst (λ (r : Result (Option Numbered) BadLine). Gives r c.loop-next.cursor c.next_line.new.self)
    (c.in-Ok-Some.is ∙ ap (λ (o : Option Numbered). Ok o) c.in-Ok-Some.field-0-is) c.next_line.ensures in
    subst (λ (t : List ℕ). PlaysLines c.args.width (playing c.args.player.now) c.args.cursor.now t (RefusedAt c.in-Ok-Some.next.line)) (append-nil (string_bytes c.loop-next.text))
    (c.loop-next.invariant [] (RefusedAt c.in-Ok-Some.next.line)
    (NotPlayed c.args.width (playing c.loop-next.player) c.loop-next.cursor c.next_line.new.self c.in-Ok-Some.next gives
    (c.in_ok-play_line.ensures.refused (ap (λ (b : Bool). Ok b) c.if-not-branch.true))))

pub loop-next-preserved : goal.loop-next-preserved
loop-next-preserved c later ending rest =
    let gives = subst (λ (r : Result (Option Numbered) BadLine). Gives r c.loop-next.cursor c.next_line.new.self)
    (c.in-Ok-Some.is ∙ ap (λ (o : Option Numbered). Ok o) c.in-Ok-Some.field-0-is) c.next_line.ensures in
    subst (λ (t : List ℕ). PlaysLines c.args.width (playing c.args.player.now) c.args.cursor.now t ending)
    (sym (append_assoc (string_bytes c.loop-next.text) (playing c.play_line.new.player).text later)
    ∙ ap (λ (t : List ℕ). t ++ later) (ap (λ (t : List ℕ). string_bytes c.loop-next.text ++ t) (sym c.text.ensures) ∙ sym c.in_ok-push_str.ensures.bytes))
    (c.loop-next.invariant ((playing c.play_line.new.player).text ++ later) ending
    (Played c.args.width (playing c.loop-next.player) (playing c.play_line.new.player) c.loop-next.cursor c.next_line.new.self c.in-Ok-Some.next later ending gives
    (c.in_ok-play_line.ensures.taken (ap (λ (b : Bool). Ok b) c.if-not-branch.false)) rest))
