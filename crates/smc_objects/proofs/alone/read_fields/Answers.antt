use Rattle.std.proofs.Common.{rules, ◌+◌, arith}
use Rattle.std.specs.Prelude.{slice_set}
use Rattle.std.proofs.lemmas.Grind.{common_steps}
use Rattle.smc_does.proofs.DoesLaws.{stays-then}
use Rattle.smc_objects.proofs.AloneLaws.{read-more}
use Rattle.smc_objects.proofs.alone.read_fields.Goals as goal
use Rattle.std.proofs.Common.{refl}

pub loop-field-preserved : goal.loop-field-preserved
loop-field-preserved c =
    let l = c.loop-field in
    record {
      stays = stays-then l.invariant.stays c.read.ensures.stays;
      does = read-more c.args.s.now l.s c.read.new.s c.args.held.number l.words (slice_set l.words l.field c.read.result) l.field c.read.result l.invariant.does c.read.ensures.done (grind (arith, common_steps)) refl;
      long = search rules;
    }
