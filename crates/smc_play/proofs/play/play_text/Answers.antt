use Rattle.std.proofs.Common.{string_bytes}
use Rattle.smc_play.proofs.TextLaws.{read-prints}
use Rattle.smc_play.proofs.play.play_text.Goals as goal

pub returns-clause-ends : goal.returns-clause-ends
returns-clause-ends g c =
    let prints = read-prints (g.I.Source.left c.args.input.now) (g.I.Source.left c.read_lines.new.source) c.in-Ok.ensures.reads c.in-Ok-play_all.ensures in
    (c.in-Ok-play_all.played.ending, (string_bytes c.in-Ok-play_all.played.text, prints, rw c.as_bytes.ensures.value at c.write_all.ensures.front))
