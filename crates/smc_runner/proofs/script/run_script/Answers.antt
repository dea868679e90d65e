use Rattle.std.proofs.Common.{map}
use Rattle.smc_script.specs.Trees.{part_tree}
use Rattle.smc_runner.proofs.MayLaws.{all-may, opens-may}
use Rattle.smc_runner.proofs.script.run_script.Goals as goal

pub run_rooms-requires-clause-opens : goal.run_rooms-requires-clause-opens
run_rooms-requires-clause-opens g c = opens-may c.args.script.now.rooms c.requires.sound.opens

pub run_rooms-requires-clause-may : goal.run_rooms-requires-clause-may
run_rooms-requires-clause-may g c =
    let script = c.args.script.now in
    let sound = c.requires.sound in
    all-may script.folds script.rooms (map part_tree script.parts) (opens-may script.rooms sound.opens) sound.fits sound.values c.requires.known
