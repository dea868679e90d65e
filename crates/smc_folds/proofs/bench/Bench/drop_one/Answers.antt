use Rattle.smc_folds.proofs.BenchLaws.{without-removed, without-nothing}
use Rattle.smc_folds.proofs.bench.Bench.drop_one.Goals as goal

pub returns-in-None-clause-dropped : goal.returns-in-None-clause-dropped
returns-in-None-clause-dropped g c =
    without-nothing (λ b. (goal.Fold-dyn g (b.fold.vtable, b.fold.value)).kind b.fold.value) c.args.self.now.boxes.items c.deref.result.now c.args.name.now c.deref.ensures.value c.in-None.ensures.place

pub returns-in-Some-clause-dropped : goal.returns-in-Some-clause-dropped
returns-in-Some-clause-dropped g c =
    without-removed (λ b. (goal.Fold-dyn g (b.fold.vtable, b.fold.value)).kind b.fold.value) c.args.self.now.boxes.items c.deref.result.now c.remove.new.self.items c.args.name.now c.in-Some.place c.deref.ensures.value c.remove.ensures.items c.in-Some.ensures.place
