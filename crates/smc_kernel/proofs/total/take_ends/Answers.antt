use Rattle.std.proofs.Common.{◌≡◌, ℕ, ◌+◌, List, [], ◌∷◌, ◌++◌, append_assoc, take, sym, ap, ◌∙◌, arith}
use Rattle.smc_plan.specs.Typed.{typed_tree}
use Rattle.smc_meaning.specs.Groups.{choice_of, chosen_of, values_of}
use Rattle.smc_kernel.specs.Batches.{rows_at}
use Rattle.smc_kernel.specs.Taken.{end_found}
use Rattle.smc_kernel.proofs.EndLaws.{end-more}
use Rattle.smc_kernel.proofs.PickLaws.{rows_at-next}
use Rattle.smc_kernel.proofs.total.take_ends.Goals as goal

pub loop-i-preserved : goal.loop-i-preserved
loop-i-preserved c = record {
  found = λ rows so.
      let before : List (List ℕ) = rows_at c.args.batch.now.rows (take c.loop-i.i c.args.places.now) in
      let next = end-more c.args.end c.args.leaves.now (typed_tree c.args.of.now) (c.args.kept + c.loop-i.i) (rows ++ before) c.read_row.new.words c.loop-i.best c.take_better.new.best
      c.take_better.ensures.best (c.loop-i.invariant.found rows so) in
      ap (λ n. end_found c.args.leaves.now (typed_tree c.args.of.now) n c.take_better.new.best) (omega arith)
      ∙ next
      ∙ ap (λ (all : List (List ℕ)). chosen_of (choice_of c.args.end) (values_of c.args.leaves.now (typed_tree c.args.of.now) all))
      (append_assoc rows before (c.read_row.new.words ∷ [])
      ∙ ap (λ (row : List ℕ). rows ++ (before ++ row ∷ [])) c.read_row.ensures.row
      ∙ ap (λ (more : List (List ℕ)). rows ++ more) (sym (rows_at-next c.args.batch.now.rows c.args.places.now c.loop-i.i c.from.result c.loop-i-test.true c.from.ensures)));
  best = c.take_better.ensures.long ∙ c.loop-i.invariant.best;
  row = c.read_row.ensures.long ∙ c.loop-i.invariant.row;
}
