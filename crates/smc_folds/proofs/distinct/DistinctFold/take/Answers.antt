use Rattle.std.proofs.Common.{◌≡◌, sym, ap, ◌∙◌, to_z, of_z, to_z-of_z}
use Rattle.smc_folds.specs.Boxes.{is_new}
use Rattle.smc_folds.proofs.BoxLaws.{keeps-new, keeps-known}
use Rattle.smc_folds.proofs.distinct.DistinctFold.take.Goals as goal
use Rattle.smc_folds.proofs.distinct.DistinctFold.take.Goals.{then-is_new, else-is_new}
use mir.Syntax.{w128}

pub returns-clause-taken : goal.returns-clause-taken
returns-clause-taken c = λ taking kept can.
    let same : to_z w128 (of_z w128 c.args.value) ≡ c.args.value = to_z-of_z c.ranges.value in
    let told = ap (is_new c.args.self.now.last) (sym same) ∙ sym c.is_new.ensures in
    rw same (elim c.if-is_new.branch [
      | then-is_new w ↦ rw w.self-is (keeps-new taking c.args.self.now.different c.args.self.now.last c.args.value (told ∙ w.if-is_new.true) kept can)
      | else-is_new w ↦ rw w.self-is (keeps-known taking c.args.self.now.different c.args.self.now.last c.args.value (told ∙ w.if-is_new.false) kept can)
    ])
