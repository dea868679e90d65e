use Rattle.std.proofs.Common.{rules, append_assoc}
use Rattle.smc_types.proofs.TextLaws.{text_words_none, text_words_more}
use Rattle.smc_types.proofs.text.push_text.Goals as goal

pub loop-place-init : goal.loop-place-init
loop-place-init c = search (rules, text_words_none)

pub loop-place-preserved : goal.loop-place-preserved
loop-place-preserved c = rw (c.in_ok-push.ensures.items, c.loop-place.invariant, c.word_at.ensures, text_words_more, append_assoc)
