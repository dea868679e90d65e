use Rattle.std.proofs.Common.{◌≡◌, ℕ, ◌+◌, ◌<◌, ◌≤◌, List, [], ◌∷◌, ◌++◌, length, map, take, sym, subst, ap, ◌∙◌, arith}
use Rattle.std.specs.Prelude.{slice_index_or}
use Rattle.std.specs.Io.KnownBytes.{Appends}
use Rattle.std.proofs.lemmas.List.{length-map}
use Rattle.smc_does.specs.Does.{DoesSome}
use Rattle.smc_script.specs.declared.script.Part.{Part}
use Rattle.smc_script.specs.Trees.{PartTree, part_tree}
use Rattle.smc_load.specs.Files.{Told}
use Rattle.smc_runner.specs.declared.ending.RunEnd.{RunEnd}
use Rattle.smc_replies.specs.Scripts.{CanRunPart}
use Rattle.smc_desk.specs.Scenes.{scene_of, seen}
use Rattle.smc_runner.specs.Runs.{PartEnds, Replies}
use Rattle.smc_runner.proofs.RunLaws.{all-ran, ends-within, may-next, next-part, ran-more}
use Rattle.smc_runner.proofs.parts.run_parts.Goals as goal

-- the part that is read is that of the list
step : (parts : List Part) (i : ℕ) (item : Part) → i < length parts → item ≡ slice_index_or parts i item → take (i + 1) (map part_tree parts) ≡ take i (map part_tree parts) ++ part_tree item ∷ []
step parts i item within is = next-part parts i item within ∙ ap (λ (p : Part). take i (map part_tree parts) ++ part_tree p ∷ []) (sym is)

pub run_part-next-requires-clause-may : goal.run_part-next-requires-clause-may
run_part-next-requires-clause-may g c =
    let shape = c.args.region.now.about.shape in
    let folds = c.args.folds.now in
    subst (λ (p : Part). CanRunPart shape folds (part_tree p)) (sym c.part-item.is) (may-next shape folds c.args.parts.now c.loop-part.part-index c.part-item.result c.loop-part-test.true c.requires.may)

pub returns-in_default : goal.returns-in_default
returns-in_default g c =
    let held = g.O.Sink.held in
    let files = g.F.Shelf.files in
    let shape = c.args.region.now.about.shape in
    let folds = c.args.folds.now in
    let start = seen c.args.books.now (map (λ b. (goal.Fold-dyn g (b.fold.vtable, b.fold.value)).kind b.fold.value) c.args.bench.now.boxes.items) in
    let known = seen c.loop-part.books (map (λ b. (goal.Fold-dyn g (b.fold.vtable, b.fold.value)).kind b.fold.value) c.loop-part.bench.boxes.items) in
    let now_known = seen c.run_part-next.new.books (map (λ b. (goal.Fold-dyn g (b.fold.vtable, b.fold.value)).kind b.fold.value) c.run_part-next.new.bench.boxes.items) in
    let i = c.loop-part.part-index in
    let item = c.part-item.result in
    let parts = c.args.parts.now in
    let ran = c.loop-part.invariant.ran in
    let before = ran.1.same in
    let faults = c.loop-part.invariant.faults in
    let so_far = c.loop-part.invariant.later in
    let kept = c.loop-part.invariant.kept in
    let ensures = c.run_part-next.ensures in
    let now = ensures.home.0 in
    let later = ensures.later in
    let shelf_later = ensures.shelf_later in
    let status = c.run_part-next.result.1 in
    let ends = subst (λ (k : Told). PartEnds (scene_of k shape folds) status (part_tree item) known now_known c.loop-part.pass c.run_part-next.result.0
    (held c.loop-part.out) (held c.run_part-next.new.out)) kept ensures.ends in
    record {
      home = ((now.0 ∙ before.0, now.1 ∙ before.1, now.2 ∙ before.2), ensures.home.1);
      ends = ends-within (scene_of (files c.args.shelf.now) shape folds) start status (map part_tree parts) i (part_tree item) known now_known
          c.args.pass c.loop-part.pass c.run_part-next.result.0 (held c.args.out.now) (held c.loop-part.out) (held c.run_part-next.new.out) (step parts i item c.loop-part-test.true c.part-item.is)
          c.in_default.not-Done ran ends;
      cause = λ is. let rose = ensures.cause is in omega (arith, rose, faults);
      later = omega (arith, faults, later);
      read_cause = λ is. let rose = ensures.read_cause is in omega (arith, rose, so_far);
      kept = ensures.kept ∙ kept;
      shelf_later = omega (arith, so_far, shelf_later);
    }

pub loop-part-preserved : goal.loop-part-preserved
loop-part-preserved g c =
    let held = g.O.Sink.held in
    let shape = c.args.region.now.about.shape in
    let files = g.F.Shelf.files c.args.shelf.now in
    let folds = c.args.folds.now in
    let start = seen c.args.books.now (map (λ b. (goal.Fold-dyn g (b.fold.vtable, b.fold.value)).kind b.fold.value) c.args.bench.now.boxes.items) in
    let known = seen c.loop-part.books (map (λ b. (goal.Fold-dyn g (b.fold.vtable, b.fold.value)).kind b.fold.value) c.loop-part.bench.boxes.items) in
    let now = seen c.run_part-next.new.books (map (λ b. (goal.Fold-dyn g (b.fold.vtable, b.fold.value)).kind b.fold.value) c.run_part-next.new.bench.boxes.items) in
    let scene = scene_of files shape folds in
    let i = c.loop-part.part-index in
    let item = c.part-item.result in
    let parts = c.args.parts.now in
    let all : List PartTree = map part_tree parts in
    let next = c.run_part-next.result.0 in
    let faults = c.loop-part.invariant.faults in
    let so_far = c.loop-part.invariant.later in
    let kept = c.loop-part.invariant.kept in
    let later = c.run_part-next.ensures.later in
    let shelf_later = c.run_part-next.ensures.shelf_later in
    let told = subst (λ (k : Told). PartEnds (scene_of k shape folds) c.run_part-next.result.1 (part_tree item) known now c.loop-part.pass next (held c.loop-part.out) (held c.run_part-next.new.out))
    kept c.run_part-next.ensures.ends in
    let ends = subst (λ (e : RunEnd). PartEnds scene e (part_tree item) known now c.loop-part.pass next (held c.loop-part.out) (held c.run_part-next.new.out)) c.in-Done.is told in
    record {
      ran = subst (λ (ps : List PartTree). DoesSome c.args.pass next (λ calls. Replies scene Appends ps start now calls (held c.args.out.now) (held c.run_part-next.new.out)))
          (sym (step parts i item c.loop-part-test.true c.part-item.is))
          (ran-more scene start (take i all) (part_tree item) known now c.args.pass c.loop-part.pass next (held c.args.out.now) (held c.loop-part.out) (held c.run_part-next.new.out)
          c.loop-part.invariant.ran ends);
      free = c.run_part-next.ensures.home.1;
      faults = omega (arith, faults, later);
      kept = c.run_part-next.ensures.kept ∙ kept;
      later = omega (arith, so_far, shelf_later);
    }

pub returns-clause-ends : goal.returns-clause-ends
returns-clause-ends g c =
    let scene = scene_of (g.F.Shelf.files c.args.shelf.now) c.args.region.now.about.shape c.args.folds.now in
    let start = seen c.args.books.now (map (λ b. (goal.Fold-dyn g (b.fold.vtable, b.fold.value)).kind b.fold.value) c.args.bench.now.boxes.items) in
    let known = seen c.loop-part.books (map (λ b. (goal.Fold-dyn g (b.fold.vtable, b.fold.value)).kind b.fold.value) c.loop-part.bench.boxes.items) in
    let parts = c.args.parts.now in
    let i = c.loop-part.part-index in
    let many : length (map part_tree parts) ≤ i = let long = length-map parts part_tree in let last = c.loop-part-test.false in omega (arith, long, last) in
    all-ran scene start (map part_tree parts) i known c.args.pass c.loop-part.pass (g.O.Sink.held c.args.out.now) (g.O.Sink.held c.loop-part.out) many c.loop-part.invariant.ran
