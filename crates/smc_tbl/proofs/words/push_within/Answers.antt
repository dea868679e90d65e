use Rattle.std.proofs.Common.{refl, arith}
use Rattle.smc_types.specs.declared.row.Value.TheVariants.{Text as OfText}
use Rattle.smc_tbl.proofs.words.push_within.Goals as goal

pub returns-in-Ok-clause-spelled : goal.returns-in-Ok-clause-spelled
returns-in-Ok-clause-spelled c = record {
  value = OfText c.args.field.now;
  spells = record { fits = omega arith; text_is = refl };
  text = c.requires;
  grown = rw c.width.ensures at c.in-Ok.ensures;
}
