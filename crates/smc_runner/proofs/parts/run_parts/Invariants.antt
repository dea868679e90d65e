use Rattle.std.proofs.Common.{◌≡◌, ◌≤◌, map, take}
use Rattle.std.specs.Io.KnownBytes.{Appends}
use Rattle.smc_does.specs.Does.{DoesSome, OwnsNone}
use Rattle.smc_script.specs.Trees.{part_tree}
use Rattle.smc_desk.specs.Scenes.{scene_of, seen}
use Rattle.smc_runner.specs.Runs.{Replies}
use Rattle.smc_runner.proofs.parts.run_parts.Given as goal

-- the parts before this one were run, and their replies were written
abbrev pub invariant-loop-part : goal.invariant-loop-part
invariant-loop-part g l =
    let held = g.O.Sink.held in
    record {
      ran : DoesSome l.fn.pass l.pass (λ calls. Replies (scene_of (g.F.Shelf.files l.fn.shelf) l.region.about.shape l.folds) Appends (take l.part-index (map part_tree l.parts)) (seen l.fn.books (map (λ b. (goal.Fold-dyn g (b.fold.vtable, b.fold.value)).kind b.fold.value) l.fn.bench.boxes.items)) (seen l.books (map (λ b. (goal.Fold-dyn g (b.fold.vtable, b.fold.value)).kind b.fold.value) l.bench.boxes.items)) calls (held l.fn.out) (held l.out));
      free : OwnsNone l.pass;
      faults : g.O.Sink.faults l.fn.out ≤ g.O.Sink.faults l.out;
      kept : g.F.Shelf.files l.shelf ≡ g.F.Shelf.files l.fn.shelf;
      later : g.F.Shelf.faults l.fn.shelf ≤ g.F.Shelf.faults l.shelf;
    }
