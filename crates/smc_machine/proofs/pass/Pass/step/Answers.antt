use Rattle.std.proofs.Common.{ap, ◌∙◌}
use Rattle.smc_core.specs.declared.change.Change.{Change}
use Rattle.smc_core.specs.declared.local.Local.{Local}
use Rattle.smc_core.specs.Local.{changed, after}
use Rattle.smc_machine.specs.Kept.{local_of}
use Rattle.smc_machine.proofs.AddedLaws.{changed-grown}
use Rattle.smc_machine.proofs.pass.Pass.step.Goals as goal

pub returns-clause-done : goal.returns-clause-done
returns-clause-done c =
    changed-grown c.args.shape.now c.args.pass c.self.inside.stand c.move_stand.new.stand c.self.inside.kept c.make_room.new.self c.grow.new.self
    c.args.choice.now c.args.seen c.in_ok-made.made c.cursor_effect-cursor.result
    c.in_ok-move_stand.ensures.done (c.cursor_effect-cursor.ensures c.self.inside.kept.cursors.items) c.in_ok-make_room.ensures.same c.grow.ensures
    ∙ ap (λ (made : Change). changed c.args.shape.now c.args.pass (local_of c.self.inside.stand c.self.inside.kept) c.args.choice.now c.args.seen made) c.in_ok-made.ensures.done
    ∙ ap (λ (before : Local). after c.args.shape.now c.args.pass before c.args.choice.now c.args.told c.args.seen) c.self.view_is
