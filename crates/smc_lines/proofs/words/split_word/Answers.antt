use Rattle.std.proofs.Common.{lit<}
use Rattle.smc_lines.proofs.WordLaws.{words-first, words-alone}
use Rattle.smc_lines.proofs.words.split_word.Goals as goal

pub returns-in-Some : goal.returns-in-Some
returns-in-Some c =
    let cut = c.in-Some.ensures.byte (lit< tt) (λ w o finds. finds) in
    rw (cut.0, cut.1) (words-first c.args.text.now cut.2)

pub returns-in-None : goal.returns-in-None
returns-in-None c = words-alone c.args.text.now (c.in-None.ensures.byte (lit< tt) (λ w o finds. finds))
