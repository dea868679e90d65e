use Rattle.std.proofs.Common.{refl, inr, subst, ◌++◌}
use Rattle.std.specs.Prelude.{Result}
use Rattle.smc_words.specs.declared.number.Number.{Number}
use Rattle.smc_does.proofs.DoesLaws.{does-then}
use Rattle.smc_objects.specs.declared.adding.Full.{Full}
use Rattle.smc_objects.specs.Alone.{InSection, TriesAdd}
use Rattle.smc_objects.proofs.alone.add_one.Goals as goal

pub returns-in-Err-clause-done : goal.returns-in-Err-clause-done
returns-in-Err-clause-done c =
    let first = c.try_one-pass.ensures.done in
    let wait = c.advance_thrice.ensures.done in
    let again = c.try_one.ensures.done in (
      first.0 ++ (wait.0 ++ again.0),
      does-then first.1 (does-then wait.1 again.1),
      inr (record {
        cause = c.in-Err.field-0;
        once = first.0;
        wait = wait.0;
        again = again.0;
        refused = subst (λ (r : Result Number Full). InSection (TriesAdd c.args.c c.args.words.now r) first.0) c.in-Err.is first.2;
        waits = wait.2;
        tries = again.2;
        made = refl;
      }),
    )
