use Rattle.std.specs.Borrow.{Bor}
use Rattle.std.specs.Str.{bytes_eq}
use Rattle.std.proofs.Common.{ℕ, List, sym, ◌∙◌}
use Rattle.smc_plan.specs.Items.{is_fold}
use Rattle.smc_plan.proofs.MapLaws.{list_any-map}
use Rattle.smc_plan.proofs.item.is_fold.Goals as goal

pub returns : goal.returns
unfolding is_fold
returns c =
    let view : Bor (List ℕ) → List ℕ = λ name. name.now in
    c.has_name.ensures ∙ sym (list_any-map (λ known. bytes_eq known c.args.name.now) view c.args.folds.now)
