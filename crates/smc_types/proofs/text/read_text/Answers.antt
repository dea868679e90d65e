use Rattle.smc_types.proofs.TextLaws.{IsText-front}
use Rattle.smc_types.proofs.text.read_text.Goals as goal

pub of-requires : goal.of-requires
of-requires c = rw (c.truncate-2.ensures.items, c.text_length-length.ensures, c.deref.ensures.value) (IsText-front c.truncate.new.self.items)
