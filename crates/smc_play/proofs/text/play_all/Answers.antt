use Rattle.std.proofs.Common.{ℕ, ◌+◌, Option, Ok, ap, ◌∙◌}
use Rattle.smc_lines.specs.declared.cursor.Numbered.{Numbered}
use Rattle.smc_play.specs.Plays.{playing}
use Rattle.smc_play.specs.Texts.{NoLines, NoFirst, NoShape, Shaped}
use Rattle.smc_play.specs.declared.ending.Ending.TheVariants.{RefusedAt}
use Rattle.smc_play.proofs.TextLaws.{all-prints, first-gives, prints-nothing, no-shape}
use Rattle.smc_play.proofs.text.play_all.Goals as goal

pub returns-in-Ok-None : goal.returns-in-Ok-None
returns-in-Ok-None c =
    let gives = first-gives c.next_line.new.self (c.in-Ok-None.is ∙ ap (λ (o : Option Numbered). Ok o) c.in-Ok-None.field-0-is) c.cursor-cursor.ensures c.next_line.ensures in
    prints-nothing c.refused_at.ensures.text (c.refused_at.ensures.ending ∙ ap (λ (n : ℕ). RefusedAt (n + 1)) c.line.ensures.value)
    (NoLines c.args.lines.now c.next_line.new.self gives)

pub returns-in-Err : goal.returns-in-Err
returns-in-Err c =
    let gives = first-gives c.next_line.new.self c.in-Err.is c.cursor-cursor.ensures c.next_line.ensures in
    prints-nothing c.refused_at-in-Err.ensures.text c.refused_at-in-Err.ensures.ending
    (NoFirst c.args.lines.now c.next_line.new.self c.in-Err.bad gives)

pub returns-in_default : goal.returns-in_default
returns-in_default c =
    let gives = first-gives c.next_line.new.self (c.in-Ok-Some.is ∙ ap (λ (o : Option Numbered). Ok o) c.in-Ok-Some.field-0-is) c.cursor-cursor.ensures c.next_line.ensures in
    prints-nothing c.refused_at-in_default.ensures.text c.refused_at-in_default.ensures.ending
    (NoShape c.args.lines.now c.next_line.new.self c.in-Ok-Some.first gives (no-shape c.in-Ok-Some.first.text.now c.in_ok-opened.field-0 c.in_ok-opened.ensures c.in_default.not-Some))

pub returns : goal.returns
returns c =
    let gives = first-gives c.next_line.new.self (c.in-Ok-Some.is ∙ ap (λ (o : Option Numbered). Ok o) c.in-Ok-Some.field-0-is) c.cursor-cursor.ensures c.next_line.ensures in
    let (header, said, width, opens) = rw c.in-Some.is at c.in_ok-opened.ensures in
    all-prints c.args.lines.now c.in-Some.opened.width (playing c.in-Some.opened.player) c.next_line.new.self c.play_lines.result c.play_lines.ensures
    (λ text ending plays. Shaped c.args.lines.now c.next_line.new.self c.in-Ok-Some.first header (playing c.in-Some.opened.player)
    text ending gives said opens (rw width at plays))
