use Rattle.std.proofs.Common.{refl, sym, ◌∙◌}
use Rattle.smc_tbl.proofs.TextLaws.{IsText-plain}
use Rattle.smc_tbl.proofs.bytes.is_text.Goals as goal

pub returns-then-is_plain : goal.returns-then-is_plain
returns-then-is_plain c = (λ _. IsText-plain c.args.line.now (sym c.is_plain.ensures ∙ c.if-is_plain.true), λ _. refl)
