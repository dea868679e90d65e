use Rattle.std.proofs.Common.{◌≡◌, List, length, map, Option, sym, subst, ◌∙◌, arith}
use Rattle.std.proofs.lemmas.Bool.Decides.{nat_tests}
use Rattle.smc_region.specs.Ends.{Ended}
use Rattle.smc_script.specs.declared.script.Part.{Part}
use Rattle.smc_script.specs.declared.script.Room.{Room}
use Rattle.smc_script.specs.Trees.{part_tree}
use Rattle.smc_runner.specs.declared.ending.RunEnd.{RunEnd}
use Rattle.smc_runner.specs.Drops.{Drops, DropsEnd}
use Rattle.smc_desk.specs.Scenes.{scene_of}
use Rattle.smc_runner.specs.Runs.{Closes, RunsAs, shape_asked}
use Rattle.smc_runner.proofs.DropLaws.{drops-no-read, roomless-drop, roomless-ends}
use Rattle.smc_runner.proofs.script.run_rooms.Goals as goal

pub drop_parts-requires : goal.drop_parts-requires
drop_parts-requires g c =
    let rooms : List Room = c.args.script.now.rooms in
    let none : length rooms ≡ 0 = grind (arith, nat_tests, c.as_slice-rooms.ensures, c.is_empty.ensures, c.if-is_empty.true) in
    record { drops = rw c.as_slice.ensures (roomless-drop rooms c.args.script.now.folds (map part_tree c.args.script.now.parts) none c.requires.may) }

pub returns-then-is_empty-clause-ends : goal.returns-then-is_empty-clause-ends
returns-then-is_empty-clause-ends g c =
    let held = g.O.Sink.held in
    let rooms : List Room = c.args.script.now.rooms in
    let parts = map part_tree c.args.script.now.parts in
    let old = held c.args.out.now in
    let new = held c.drop_parts.new.out in
    let scene = scene_of (g.F.Shelf.files c.args.shelf.now) (shape_asked rooms) c.args.script.now.folds in
    let kinds = map (λ b. (goal.Fold-dyn g (b.fold.vtable, b.fold.value)).kind b.fold.value) c.args.bench.now.boxes.items in
    let none : length rooms ≡ 0 = grind (arith, nat_tests, c.as_slice-rooms.ensures, c.is_empty.ensures, c.if-is_empty.true) in
    let drops = subst (λ (ps : List Part). DropsEnd scene c.drop_parts.result (map part_tree ps) kinds old new) c.as_slice.ensures (c.drop_parts.ensures.ends scene) in
    subst (λ (e : RunEnd). RunsAs (Closes rooms) scene kinds e parts c.without.result.quiet old new) (sym c.without.ensures.end)
    (subst (λ (q : Option Ended). RunsAs (Closes rooms) scene kinds c.drop_parts.result parts q old new) (sym c.without.ensures.quiet)
    (roomless-ends rooms scene c.drop_parts.result parts kinds old new none drops))

pub returns-then-is_empty-clause-read_cause : goal.returns-then-is_empty-clause-read_cause
returns-then-is_empty-clause-read_cause g c = λ is.
    let scene = scene_of (g.F.Shelf.files c.args.shelf.now) (shape_asked c.args.script.now.rooms) c.args.script.now.folds in
    absurd (drops-no-read scene c.drop_parts.result _ _ _ _ (c.drop_parts.ensures.ends scene) (sym c.without.ensures.end ∙ is))

pub returns-then-is_empty-clause-opened : goal.returns-then-is_empty-clause-opened
returns-then-is_empty-clause-opened g c = λ is.
    let scene = scene_of (g.F.Shelf.files c.args.shelf.now) (shape_asked c.args.script.now.rooms) c.args.script.now.folds in
    absurd (drops-no-read scene c.drop_parts.result _ _ _ _ (c.drop_parts.ensures.ends scene) (sym c.without.ensures.end ∙ is))

pub run_in-requires-clause-may : goal.run_in-requires-clause-may
run_in-requires-clause-may g c = rw (c.in-Ok.ensures, c.as_slice-in-Ok.ensures, c.as_slice-rooms.ensures) c.requires.may
